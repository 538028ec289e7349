-- The clauses of a layout name nodes.
use Rattle.std.proofs.Common.{◌≡◌, ℕ, zero, suc, ◌<◌, List, [], ◌∷◌, map, length, Option, Some, slice_get, refl, subst}
use Rattle.std.proofs.lemmas.List.Elements.{All-head, All-tail, All-nil, All-cons}
use Rattle.terms.specs.declared.term.Term.{Term}
use Rattle.terms.specs.declared.term.Literal.{Literal}
use Rattle.terms.specs.Formula.{Formula}
use Rattle.term_meaning.specs.Meaning.{Language}
use Rattle.term_graph.proofs.Stands.{stands_within}
use Rattle.condition_formulas.specs.Standing.{StandsAs, StandAll}
use Rattle.cert_format.specs.declared.certificate.Step.{Step}
use Rattle.vcc_rules.specs.Law.{IsWithin, AreWithin}
use Rattle.block_layout.specs.Layout.{Laid, IsLayout, NamesTerms, clause_in, clause_over, literal_over, node_of}
use Rattle.block_layout.proofs.Lists.{below_gets}
use Rattle.block_layout.proofs.Named.{node_stands}

-- a place of a list, seen by a function
pub get_map : {X Y : Type 0} (f : X → Y) (xs : List X) (i : ℕ) (y : Y) → slice_get (map f xs) i ≡ Some y → (x : X) × (slice_get xs i ≡ Some x) × (f x ≡ y)
get_map f [] i y h = cc
get_map f (x ∷ xs) zero y h = (x, refl, cc)
get_map f (x ∷ xs) (suc i) y h = get_map f xs i y h

over_within : (nodes : List Term) (names : List ℕ) (trees : List Formula) (clause : List Literal) → StandAll nodes names trees → NamesTerms (length trees) clause → IsWithin (length nodes) (clause_over names clause)
over_within nodes names trees [] all h = All-nil (λ (l : Literal). l.term < length nodes)
over_within nodes names trees (l ∷ ls) all h =
    let (f, p) = below_gets trees l.term (All-head (λ (x : Literal). x.term < length trees) l ls h) in
    let s : StandsAs nodes (node_of names l.term) f = node_stands nodes names trees l.term f all p in
    All-cons (λ (l : Literal). l.term < length nodes) (literal_over names l) (clause_over names ls) (stands_within nodes (node_of names l.term) f s.tree)
    (over_within nodes names trees ls all (All-tail (λ (x : Literal). x.term < length trees) l ls h))

pub layout_within : (l : Language) (trees : List Formula) (root : Option ℕ) (steps : List Step) (laid : Laid) → IsLayout l trees root steps laid → AreWithin (length laid.nodes) laid.clauses
layout_within l trees root steps laid k i c h =
    let (step, at, same) = get_map (clause_in k.names) steps i c (subst (λ (cs : List (List Literal)). slice_get cs i ≡ Some c) k.clauses h) in
    subst (λ (x : List Literal). IsWithin (length laid.nodes) x) same (over_within laid.nodes k.names trees step.clause k.shown (k.named i step at))
