-- Rules 16 and 20: the form of quantifiers, and of properties of claims.
use Rattle.std.specs.Prelude.{Bool, true, false, not, ◌&&◌, List, [], ◌∷◌, Option, Some, None}
use Rattle.std.specs.List.{list_any}
use Rattle.c_syntax.specs.declared.token.Span.{Span}
use Rattle.c_syntax.specs.declared.tree.Constant.TheVariants as constants
use Rattle.c_syntax.specs.declared.tree.Status.TheVariants as statuses
use Rattle.c_syntax.specs.declared.tree.BinaryOperator.TheVariants as op
use Rattle.c_syntax.specs.declared.tree.Quantifier.{Quantifier}
use Rattle.c_syntax.specs.declared.tree.Quantifier.TheVariants as q
use Rattle.c_syntax.specs.Expressions as e
use Rattle.c_syntax.specs.Expressions.{Id, Exp}
use Rattle.c_syntax.specs.Grammar.{first_place}
use Rattle.typing_spec.specs.Contexts.{InProperty, Outside, Conjunct, Below}
use Rattle.typing_spec.specs.Trees.{bare, is_name, mentions, same_tree}
use Rattle.typing_spec.specs.Pieces.{Piece, Expression}
use Rattle.typing_spec.specs.Places.{place_if, places_if}
use Rattle.typing_spec.specs.SpecWords.{is_type_invariant, status_words, is_property, is_mine}

-- ---- rule 16

-- `p \in x->\owns`, where x doesn't speak of p
abbrev pub is_membership : Id → Exp → Bool
is_membership n (e.Binary p op.In x (e.Owns r y w)) = is_name n (bare x) && not (mentions n y)
is_membership n _ = false

-- the first operand of a chain of `&&`
abbrev pub first_operand : Exp → Exp
first_operand (e.Binary p op.And x y) = first_operand x
first_operand x = x

-- `p \in x->\owns ==> E`
abbrev pub is_for_all_body : Id → Exp → Bool
is_for_all_body n (e.Binary p op.Implies x y) = is_membership n (bare x)
is_for_all_body n _ = false

-- `p \in x->\owns && E`, with further operands or not
abbrev pub is_exists_body : Id → Exp → Bool
is_exists_body n (e.Binary p op.And x y) = is_membership n (bare (first_operand x))
is_exists_body n _ = false

abbrev pub is_of_form : Quantifier → Id → Exp → Bool
is_of_form q.ForAll n x = is_for_all_body n (bare x)
is_of_form q.Exists n x = is_exists_body n (bare x)

abbrev pub is_this : Exp → Bool
is_this (e.Word p constants.This) = true
is_this _ = false

-- an owned set of something else than `\this`, at the `\owns`
abbrev pub other_owned_set : Exp → List Span
other_owned_set (e.Owns p x w) = place_if (not (is_this (bare x))) w
other_owned_set _ = []

-- Rule 16: a quantifier isn't of the form `\forall p; p \in x->\owns ==> E` or `\exists p; p \in x->\owns && E`, at the quantifier; or a type's invariant names `\owns` of something other than `\this`, at the `\owns`. Own.
abbrev pub quantifier_form : Piece → List Span
quantifier_form (Expression c (e.Quantified p k ty n x)) = place_if (not (is_of_form k n x)) p
quantifier_form (Expression c x) = places_if (is_type_invariant c.text) (other_owned_set x)
quantifier_form _ = []

-- ---- rule 20

-- what no property holds: quantifiers, owned sets, exact claimed sets and statuses
abbrev pub never_held : Exp → List Span
never_held (e.Quantified p k ty n x) = p ∷ []
never_held (e.Owns p x w) = w ∷ []
never_held (e.Several p w xs) = place_if (not (is_mine w)) p
never_held x = status_words x

-- the object, where it isn't one of those that are claimed
abbrev pub unlisted : Option (List Exp) → Exp → List Span
unlisted None x = []
unlisted (Some objects) x = place_if (not (list_any (same_tree x) objects)) (first_place x)

-- `x->\closed`: a whole conjunct, or not held
abbrev pub closed_held : InProperty → Exp → Span → List Span
closed_held Outside x w = []
closed_held (Conjunct objects) x w = unlisted objects x
closed_held Below x w = w ∷ []

abbrev pub not_held : InProperty → Exp → List Span
not_held property (e.State p x w statuses.Closed) = closed_held property x w
not_held property x = places_if (is_property property) (never_held x)

-- Rule 20: a claim's property, or the second argument of `\claims`, holds a quantifier, `\owns`, `\claims_only`, or a status other than `o->\closed` as a whole conjunct, at that word; or, in a claim's property, such an o that isn't written among the claimed objects, at the o. Own.
abbrev pub property_form : Piece → List Span
property_form (Expression c x) = not_held c.property x
property_form _ = []
