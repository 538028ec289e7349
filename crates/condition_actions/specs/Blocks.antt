-- The objects of a block by their numbers, and the tests of its end. Own.
use Rattle.std.specs.Prelude.{ℕ, if◌then◌else◌, List, [], ◌∷◌, map}
use Rattle.method.specs.declared.program.Listed.{Listed}
use Rattle.method.specs.declared.program.Program.{Program}
use Rattle.terms.specs.Formula.{Formula}
use Rattle.conditions.specs.Formulas.{imp, closed, all_of}
use Rattle.conditions.specs.Annotations.{entry_formula}
use Rattle.conditions.specs.Code.{DeferredObject, DeferredClaim, inv}
use Rattle.conditions.specs.Actions.{imply_all}

-- those whose declared type isn't \claim
abbrev pub plain_ids : List Listed → List ℕ → List ℕ
plain_ids [] ids = []
plain_ids (x ∷ xs) [] = []
plain_ids (x ∷ xs) (id ∷ ids) = if x.is_claim then plain_ids xs ids else id ∷ plain_ids xs ids

-- `deferred_test` and `made_test` of any place: the invariant over the block, and the conjuncts of a claim that is closed
abbrev pub kept_test : Formula → Formula → DeferredObject → Formula
kept_test h0 h1 d = imply_all d.guards (inv d.which h0 h1)

abbrev pub claim_test : Program → Formula → DeferredClaim → Formula
claim_test p h d = imply_all d.guards (imp (closed h d.which) (all_of (map (entry_formula p h) d.entries)))
