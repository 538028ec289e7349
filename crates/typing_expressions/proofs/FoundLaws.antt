-- What pieces break is found part by part.
use Rattle.std.proofs.Common.{◌≡◌, refl, sym, ◌∙◌, ap, List, [], ◌∷◌, ◌++◌, Option, Some, drop}
use Rattle.std.specs.Prelude.{flat_map}
use Rattle.std.proofs.lemmas.Grind.{flat_map-append}
use Rattle.c_syntax.specs.declared.token.Span.{Span}
use Rattle.c_syntax.specs.Expressions.{Exp}
use Rattle.typing_spec.specs.Contexts.{Context}
use Rattle.typing_spec.specs.Rules as r
use Rattle.typing_spec.specs.Rules.{Rule}
use Rattle.typing_spec.specs.Pieces.{Piece, Expression, part}
use Rattle.typing_spec.specs.Atomic.{accesses}
use Rattle.typing_spec.specs.First.{Fault, faults, first_of, earlier}
use Rattle.typing_spec.specs.FirstLaws.{first_of_pieces, earlier_grouped}
use Rattle.typing_expressions.specs.Violations.{Violations, violations, front, further, nothing, as_further, further_of, one_of, joined}

-- ---- two lists of accesses

front_append : (ps qs : List Span) → front (ps ++ qs) ≡ one_of (front ps) (front qs)
front_append [] qs = refl
front_append (p ∷ ps) qs = refl

further_append : (ps qs : List Span) → further (ps ++ qs) ≡ earlier (further ps) (further qs)
further_append [] qs = refl
further_append (p ∷ ps) qs = ap (earlier (Some (r.SecondAccess, p))) (further_append ps qs) ∙ sym (earlier_grouped (Some (r.SecondAccess, p)) (further ps) (further qs))

further_all : (qs : List Span) → further qs ≡ earlier (as_further (front qs)) (further (drop 1 qs))
further_all [] = refl
further_all (q ∷ qs) = refl

-- further accesses of two lists, where the second is summed up
behind_append : (ps qs : List Span) (first : Option Fault) → further (drop 1 (ps ++ qs)) ≡ further_of (front ps) (further (drop 1 ps)) (record { first = first; access = front qs; later = further (drop 1 qs) })
behind_append [] qs first = refl
behind_append (p ∷ ps) qs first = further_append ps qs ∙ ap (earlier (further ps)) (further_all qs)

abbrev pub put : Option Fault → Option Span → Option Fault → Violations
put f a l = record { first = f; access = a; later = l }

pub made : {f f2 : Option Fault} {a a2 : Option Span} {l l2 : Option Fault} → f ≡ f2 → a ≡ a2 → l ≡ l2 → put f a l ≡ put f2 a2 l2
made p q s = λ i. record { first = p i; access = q i; later = s i }

-- ---- pieces

pub found_none : violations [] ≡ nothing
unfolding violations
found_none = refl

pub found_append : (xs ys : List Piece) → violations (xs ++ ys) ≡ joined (violations xs) (violations ys)
unfolding violations
found_append xs ys =
    let both = flat_map-append accesses xs ys in
    made (first_of_pieces xs ys) (ap front both ∙ front_append (flat_map accesses xs) (flat_map accesses ys))
    (ap (λ (ps : List Span). further (drop 1 ps)) both ∙ behind_append (flat_map accesses xs) (flat_map accesses ys) (first_of (flat_map faults ys)))

-- an expression behind its parts
pub found_part : (c : Context) (x : Exp) (inner : List Piece) → violations (part c x inner) ≡ joined (violations inner) (violations (Expression c x ∷ []))
found_part c x inner = found_append inner (Expression c x ∷ [])

pub found_first : (x : Piece) (xs : List Piece) → violations (x ∷ xs) ≡ joined (violations (x ∷ [])) (violations xs)
found_first x xs = found_append (x ∷ []) xs
