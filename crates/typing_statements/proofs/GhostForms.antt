-- What ghost statements break, out of what their parts give.
use Rattle.std.proofs.Common.{◌≡◌, refl, sym, ◌∙◌, ap, append-nil, List, [], ◌∷◌, ◌++◌, Option, Some, None, map}
use Rattle.c_syntax.specs.declared.token.Span.{Span}
use Rattle.c_syntax.specs.Expressions.{Id, Ty, Exp}
use Rattle.c_syntax.specs.Ghosts as g
use Rattle.c_syntax.specs.Ghosts.{Members, OwnsEffect, GhostRhs, GStm, GStms}
use Rattle.c_syntax.specs.Grammar.{first_place}
use Rattle.typing_spec.specs.Contexts.{Context}
use Rattle.typing_spec.specs.Types.{kind, kind_of}
use Rattle.typing_spec.specs.Pieces.{GhostStatement, expression, expressions, ghost_right, owns_effect, in_ghost, in_ghosts, struct_name}
use Rattle.typing_spec.specs.Conversions.{as_reference, as_claim, ghost_right_use}
use Rattle.typing_spec.specs.First.{Fault, first_of, all_at, earlier}
use Rattle.typing_spec.specs.FirstLaws.{first_append}
use Rattle.typing_spec.specs.Rules as r
use Rattle.typing_spec.specs.Places.{place_if, fails}
use Rattle.typing_spec.specs.Ownership.{may_be_claimed}
use Rattle.std.specs.Prelude.{flat_map}
use Rattle.std.proofs.lemmas.Grind.{flat_map-append}
use Rattle.typing_expressions.specs.Violations.{violations, breaking, joined, broken_if}
use Rattle.typing_expressions.specs.Judging.{unconverted, type_breaks}
use Rattle.typing_expressions.proofs.FoundLaws.{found_append, found_none}
use Rattle.typing_expressions.proofs.Judgements.{own_type, none_behind, one_alone}
use Rattle.typing_expressions.proofs.Rows.{unconverted_append, all_at_append}
use Rattle.typing_statements.specs.Breaks as b
use Rattle.typing_statements.proofs.Values.{one_value}
use Rattle.typing_statements.proofs.Own.{own_ghost}
use Rattle.typing_statements.proofs.Parts.{behind_own, two, claim_found}

-- a claim that is made, as a right side
pub claim_side : (c : Context) (p : Span) (xs : List Exp) (x : Exp) → violations (ghost_right c (g.MakeClaim p xs x)) ≡ b.claim_found c xs x
claim_side c p xs x = claim_found c p xs x

-- one more object that is claimed
pub claimed_more : (c : Context) (xs : List Exp) (y : Exp) → b.claimed_breaks c (xs ++ y ∷ []) ≡ earlier (b.claimed_breaks c xs) (broken_if (fails may_be_claimed (kind c.scope y)) r.Claimed (first_place y))
claimed_more c xs y =
    let at : Exp → List Span = λ x. place_if (fails may_be_claimed (kind c.scope x)) (first_place x) in
    ap (λ (ps : List Span). first_of (all_at r.Claimed ps)) (flat_map-append at xs (y ∷ []))
    ∙ (ap first_of (all_at_append r.Claimed (flat_map at xs) (at y ++ []))
    ∙ (first_append (all_at r.Claimed (flat_map at xs)) (all_at r.Claimed (at y ++ []))
    ∙ ap (earlier (b.claimed_breaks c xs)) (ap first_of (sym (append-nil (all_at r.Claimed (at y ++ [])))) ∙ (one_alone (fails may_be_claimed (kind c.scope y)) r.Claimed (first_place y) [] ∙ none_behind (broken_if (fails may_be_claimed (kind c.scope y)) r.Claimed (first_place y))))))

-- ---- a statement and what stands in it

pub declare_is : (c : Context) (p : Span) (ty : Ty) (n : Id) (x : Option GhostRhs) → violations (GhostStatement c (g.Declare p ty n x) ∷ in_ghost c (g.Declare p ty n x)) ≡ b.ghost_declaration c p ty x
declare_is c p ty n None = behind_own (GhostStatement c (g.Declare p ty n None)) _ _ _ (own_ghost c (g.Declare p ty n None)) (two (struct_name c.scope.items ty) [] _ _ (own_type c.scope.items ty) found_none ∙ ap breaking (none_behind (type_breaks c.scope.items ty)))
declare_is c p ty n (Some x) =
    behind_own (GhostStatement c (g.Declare p ty n (Some x))) _ _ _ (own_ghost c (g.Declare p ty n (Some x)) ∙ ap (λ (o : Option Fault). breaking (earlier o (b.atomic_breaks c p))) (one_value (ghost_right_use c (kind_of c.scope.items ty) x)))
    (two (struct_name c.scope.items ty) (ghost_right c x) _ _ (own_type c.scope.items ty) refl)

pub assign_is : (c : Context) (p : Span) (x : Exp) (q : Span) (y : GhostRhs) → violations (GhostStatement c (g.Assign p x q y) ∷ in_ghost c (g.Assign p x q y)) ≡ b.ghost_assignment c x y
assign_is c p x q y =
    behind_own (GhostStatement c (g.Assign p x q y)) _ _ _ (own_ghost c (g.Assign p x q y) ∙ ap (λ (o : Option Fault). breaking (earlier o (b.ghost_write_breaks c x))) (one_value (ghost_right_use c (kind c.scope x) y)))
    (found_append (expression c x) (ghost_right c y))

pub owns_is : (c : Context) (p : Span) (x : Exp) (q : Span) (y : OwnsEffect) → violations (GhostStatement c (g.Owns p x q y) ∷ in_ghost c (g.Owns p x q y)) ≡ b.owned_set_change c x y
owns_is c p x q y = behind_own (GhostStatement c (g.Owns p x q y)) _ _ _ (own_ghost c (g.Owns p x q y)) (found_append (expression c x) (owns_effect c y))

pub destroy_is : (c : Context) (p : Span) (x : Exp) (xs : List Exp) → violations (GhostStatement c (g.DestroyClaim p x xs) ∷ in_ghost c (g.DestroyClaim p x xs)) ≡ b.claim_end c x xs
destroy_is c p x xs =
    behind_own (GhostStatement c (g.DestroyClaim p x xs)) _ _ _
    (own_ghost c (g.DestroyClaim p x xs) ∙ ap breaking (unconverted_append (as_claim c x ∷ []) (map (as_reference c) xs) ∙ ap (λ (o : Option Fault). earlier o (unconverted (map (as_reference c) xs))) (one_value (as_claim c x))))
    (found_append (expression c x) (expressions c xs))

pub wrap_is : (c : Context) (p : Span) (x : Exp) → violations (GhostStatement c (g.Wrap p x) ∷ in_ghost c (g.Wrap p x)) ≡ b.wrapping c p x
wrap_is c p x = behind_own (GhostStatement c (g.Wrap p x)) _ _ _ (own_ghost c (g.Wrap p x)) refl

pub unwrap_is : (c : Context) (p : Span) (x : Exp) → violations (GhostStatement c (g.Unwrap p x) ∷ in_ghost c (g.Unwrap p x)) ≡ b.wrapping c p x
unwrap_is c p x = behind_own (GhostStatement c (g.Unwrap p x)) _ _ _ (own_ghost c (g.Unwrap p x)) refl

-- ---- statements that hold others

pub block_is : (c : Context) (p : Span) (ss : GStms) → violations (GhostStatement c (g.Block p ss) ∷ in_ghost c (g.Block p ss)) ≡ violations (in_ghosts c ss)
block_is c p ss = behind_own (GhostStatement c (g.Block p ss)) (in_ghosts c ss) _ _ (own_ghost c (g.Block p ss)) refl

pub if_is : (c : Context) (p : Span) (x : Exp) (s : GStm) → violations (GhostStatement c (g.If p x s) ∷ in_ghost c (g.If p x s)) ≡ joined (violations (expression c x)) (violations (GhostStatement c s ∷ in_ghost c s))
if_is c p x s = behind_own (GhostStatement c (g.If p x s)) (in_ghost c (g.If p x s)) _ _ (own_ghost c (g.If p x s)) (found_append (expression c x) (GhostStatement c s ∷ in_ghost c s))

pub if_else_is : (c : Context) (p : Span) (x : Exp) (s t : GStm)
    → violations (GhostStatement c (g.IfElse p x s t) ∷ in_ghost c (g.IfElse p x s t)) ≡ joined (violations (expression c x)) (joined (violations (GhostStatement c s ∷ in_ghost c s)) (violations (GhostStatement c t ∷ in_ghost c t)))
if_else_is c p x s t =
    behind_own (GhostStatement c (g.IfElse p x s t)) (in_ghost c (g.IfElse p x s t)) _ _ (own_ghost c (g.IfElse p x s t))
    (two (expression c x) ((GhostStatement c s ∷ in_ghost c s) ++ (GhostStatement c t ∷ in_ghost c t)) _ _ refl (found_append (GhostStatement c s ∷ in_ghost c s) (GhostStatement c t ∷ in_ghost c t)))
