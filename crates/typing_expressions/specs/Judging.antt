-- What an expression is and what breaks in it, out of its parts: own. Each is what `judge` says of such an expression (proofs/Judgements).
use Rattle.std.specs.Prelude.{Bool, true, not, ◌&&◌, List, [], ◌∷◌, Option, Some, None, is_some, map, flat_map, if◌then◌else◌}
use Rattle.std.specs.List.{list_any}
use Rattle.std.specs.Option.{option_map, option_and_then}
use Rattle.c_syntax.specs.declared.token.Span.{Span}
use Rattle.c_syntax.specs.declared.tree.Constant.{Constant}
use Rattle.c_syntax.specs.declared.tree.Constant.TheVariants as constants
use Rattle.c_syntax.specs.declared.tree.Status.{Status}
use Rattle.c_syntax.specs.declared.tree.Status.TheVariants as statuses
use Rattle.c_syntax.specs.declared.tree.UnaryOperator.{UnaryOperator}
use Rattle.c_syntax.specs.declared.tree.BinaryOperator.{BinaryOperator}
use Rattle.c_syntax.specs.declared.tree.SpecFunction.{SpecFunction}
use Rattle.c_syntax.specs.declared.tree.ListWord.{ListWord}
use Rattle.c_syntax.specs.declared.tree.ListWord.TheVariants as lists
use Rattle.c_syntax.specs.declared.tree.Quantifier.{Quantifier}
use Rattle.c_syntax.specs.Expressions.{Id, Ty, Pointer, Exp}
use Rattle.c_syntax.specs.Items.{FieldTree, Item}
use Rattle.c_syntax.specs.Grammar.{first_place, exps_of}
use Rattle.typing_spec.specs.Declarations.{find_struct}
use Rattle.typing_spec.specs.Contexts.{InProperty, Outside, Conjunct, Below, Context}
use Rattle.typing_spec.specs.Types.{Kind, Integer, Object, Claim, OwnedSet, is_pointer, only_if, kind_of, find_variable, type_of_name, field_of, constant_kind, status_kind, unary_fits, binary_fits, conditional_kind, function_kind, truth, truth_of_both, kinds, converts}
use Rattle.typing_spec.specs.Pieces.{expressions}
use Rattle.typing_spec.specs.Places.{place_if, fails, fail_together}
use Rattle.typing_spec.specs.Conversions.{Use, to, as_reference}
use Rattle.typing_spec.specs.Rules as r
use Rattle.typing_spec.specs.Names.{may_have}
use Rattle.typing_spec.specs.Operands.{misfit, branches_misfit}
use Rattle.typing_spec.specs.GhostCode.{variable_is, field_is, is_code}
use Rattle.typing_spec.specs.SpecWords.{is_type_invariant, is_ensures, is_status, is_property, old_is_misplaced, is_mine}
use Rattle.typing_spec.specs.Properties.{is_of_form, is_this}
use Rattle.typing_spec.specs.Trees.{bare, same_tree}
use Rattle.typing_spec.specs.First.{Fault, first_of, all_at, earlier}
use Rattle.typing_expressions.specs.Violations.{Violations, violations, nothing, breaking, broken_if, joined, Judged}

-- a value that doesn't convert where this kind is wanted
abbrev pub unconverted_if : Option Kind → Kind → Span → Option Fault
unconverted_if k wanted p = broken_if (fail_together converts k (Some wanted)) r.Conversion p

-- the access, if it is one
abbrev pub access_if : Bool → Span → Option Span
access_if b p = if b then Some p else None

-- behind its parts, of which this is found
abbrev pub whole : Option Kind → Violations → Option Fault → Judged
whole k inner own = record { kind = k; violations = joined inner (breaking own) }

abbrev pub leaf : Option Kind → Option Fault → Judged
leaf k own = record { kind = k; violations = breaking own }

-- ---- names and words

abbrev pub name_breaks : Context → Id → Option Fault
name_breaks c x = earlier (broken_if (not (is_some (type_of_name c.scope x))) r.Undeclared x.place) (broken_if (is_code c.text && variable_is (λ v. v.is_ghost) (find_variable c.scope x)) r.GhostInCode x.place)

abbrev pub name : Context → Id → Judged
name c x = leaf (option_and_then (kind_of c.scope.items) (type_of_name c.scope x)) (name_breaks c x)

abbrev pub word_breaks : Context → Span → Constant → Option Fault
word_breaks c p constants.True = None
word_breaks c p constants.False = None
word_breaks c p constants.This = broken_if (not (is_type_invariant c.text)) r.ThisPlace p
word_breaks c p constants.Me = broken_if (is_type_invariant c.text) r.InvariantReads p
word_breaks c p constants.Result = earlier (broken_if (is_type_invariant c.text) r.InvariantReads p) (broken_if (not (is_ensures c.text && is_some c.value)) r.ResultPlace p)

abbrev pub word : Context → Span → Constant → Judged
word c p x = leaf (constant_kind c.scope x) (word_breaks c p x)

-- ---- arrows

-- the field, if it is known
abbrev pub field_found : Option Kind → Id → Option FieldTree
field_found k y = option_and_then (λ l. field_of l y) k

abbrev pub field_breaks : Context → Span → Id → Option Kind → Option Fault
field_breaks c p y k =
    earlier (broken_if (fails (may_have y) k) r.Undeclared y.place) (earlier (broken_if (fails is_pointer k) r.Arrow p) (broken_if (is_code c.text && field_is (λ f. f.is_ghost) (field_found k y)) r.GhostInCode y.place))

abbrev pub field_access : Context → Id → Option Kind → Option Span
field_access c y k = access_if (is_code c.text && field_is (λ f. f.is_volatile) (field_found k y)) y.place

abbrev pub field : Context → Span → Id → Judged → Judged
field c p y x = record {
  kind = option_and_then (λ f. kind_of c.scope.items f.ty) (field_found x.kind y);
  violations = joined x.violations (record { first = field_breaks c p y x.kind; access = field_access c y x.kind; later = None });
}

-- `x->\closed` where it can't stand: as part of a conjunct, or of an object that isn't claimed
abbrev pub closed_breaks : InProperty → Exp → Span → Option Fault
closed_breaks Outside x w = None
closed_breaks (Conjunct None) x w = None
closed_breaks (Conjunct (Some objects)) x w = broken_if (not (list_any (same_tree x) objects)) r.PropertyForm (first_place x)
closed_breaks Below x w = broken_if true r.PropertyForm w

-- the word of a status: in a type's invariant, and in a property
abbrev pub status_breaks : Context → Exp → Span → Status → Option Fault
status_breaks c x w statuses.Closed = earlier (broken_if (is_type_invariant c.text) r.InvariantReads w) (closed_breaks c.property x w)
status_breaks c x w statuses.Owner = earlier (broken_if (is_type_invariant c.text) r.InvariantReads w) (broken_if (is_property c.property) r.PropertyForm w)
status_breaks c x w statuses.ClaimCount = None

abbrev pub status : Context → Span → Exp → Span → Status → Judged → Judged
status c p x w s l = whole (option_and_then (λ k. only_if (is_pointer k) (status_kind s)) l.kind) l.violations (earlier (broken_if (fails is_pointer l.kind) r.Arrow p) (status_breaks c x w s))

abbrev pub owns_breaks : Context → Span → Exp → Span → Option Kind → Option Fault
owns_breaks c p x w k =
    earlier (broken_if (fails is_pointer k) r.Arrow p) (earlier (broken_if (is_type_invariant c.text && not (is_this (bare x))) r.QuantifierForm w) (broken_if (is_property c.property) r.PropertyForm w))

abbrev pub owns : Context → Span → Exp → Span → Judged → Judged
owns c p x w l = whole (option_and_then (λ k. only_if (is_pointer k) OwnedSet) l.kind) l.violations (owns_breaks c p x w l.kind)

-- ---- operators

abbrev pub unary : Span → UnaryOperator → Judged → Judged
unary p o x = whole (option_and_then (λ k. only_if (unary_fits o k) Integer) x.kind) x.violations (broken_if (fails (unary_fits o) x.kind) r.Operands p)

-- what an operator gives, and what `?:` does
abbrev pub binary_kind : BinaryOperator → Option Kind → Option Kind → Option Kind
binary_kind o x y = option_and_then (λ k. option_and_then (λ l. only_if (binary_fits o k l) Integer) y) x

abbrev pub choice_kind : Option Kind → Option Kind → Option Kind → Option Kind
choice_kind x y z = option_and_then (λ t. option_and_then (λ k. option_and_then (conditional_kind t k) z) y) x

abbrev pub binary : Span → BinaryOperator → Judged → Judged → Judged
binary p o x y = whole (binary_kind o x.kind y.kind) (joined x.violations y.violations) (broken_if (misfit o x.kind y.kind) r.Operands p)

abbrev pub conditional : Span → Judged → Judged → Judged → Judged
conditional p x y z =
    whole (choice_kind x.kind y.kind z.kind) (joined x.violations (joined y.violations z.violations)) (broken_if (branches_misfit x.kind y.kind z.kind) r.Operands p)

-- ---- words with arguments

abbrev pub apply_breaks : Context → Span → SpecFunction → Exp → Option Kind → Option Fault
apply_breaks c p h x k =
    earlier (broken_if (is_status h && fail_together converts k (Some Object)) r.Conversion (first_place x))
    (earlier (broken_if (is_status h && is_type_invariant c.text) r.InvariantReads p) (earlier (broken_if (old_is_misplaced h c) r.OldPlace p) (broken_if (is_status h && is_property c.property) r.PropertyForm p)))

abbrev pub apply : Context → Span → SpecFunction → Exp → Judged → Judged
apply c p h x l = whole (option_map (function_kind h) l.kind) l.violations (apply_breaks c p h x l.kind)

-- what doesn't convert to what is wanted there
abbrev pub unconverted : List Use → Option Fault
unconverted us = first_of (all_at r.Conversion (flat_map (λ u. place_if (fail_together converts u.value u.wanted) u.place) us))

-- Expressions in a row: the truth of a statement about all, what breaks in them, the first that doesn't convert to what is wanted of it, and what is wanted of the next.
pub record Row : Type 0 where
  pub kind : Option Kind
  pub violations : Violations
  pub unconverted : Option Fault
  pub wanted : Kind

-- their uses, where this is wanted of the first and a reference of each further one
abbrev pub row_uses : Kind → Context → List Exp → List Use
row_uses k c [] = []
row_uses k c (x ∷ xs) = to (Some k) c x ∷ map (as_reference c) xs

-- what is wanted behind them
abbrev pub wanted : Kind → List Exp → Kind
wanted k [] = k
wanted k (x ∷ xs) = Object

abbrev pub row : Kind → Context → List Exp → Row
row k c xs = record { kind = kinds c.scope (exps_of xs); violations = violations (expressions c xs); unconverted = unconverted (row_uses k c xs); wanted = wanted k xs }

-- none
abbrev pub empty_row : Kind → Row
empty_row k = record { kind = Some Integer; violations = nothing; unconverted = None; wanted = k }

-- and one more
abbrev pub row_with : Row → Judged → Span → Row
row_with x y p = record { kind = truth_of_both x.kind y.kind; violations = joined x.violations y.violations; unconverted = earlier x.unconverted (unconverted_if y.kind x.wanted p); wanted = Object }

-- what is wanted of the first argument of a word of several
abbrev pub first_wanted : ListWord → Kind
first_wanted lists.Mine = Object
first_wanted lists.ClaimsOnly = Claim

-- what such a word breaks behind its arguments
abbrev pub several_breaks : Context → Span → ListWord → Option Fault
several_breaks c p w = earlier (broken_if (is_mine w && not (is_type_invariant c.text)) r.ThisPlace p) (broken_if (is_property c.property && not (is_mine w)) r.PropertyForm p)

abbrev pub several : Context → Span → ListWord → Row → Judged
several c p w x = whole x.kind x.violations (earlier x.unconverted (several_breaks c p w))

abbrev pub claims_object : Exp → Exp → Judged → Judged → Judged
claims_object x y k l = whole (truth_of_both k.kind l.kind) (joined k.violations l.violations) (earlier (unconverted_if k.kind Claim (first_place x)) (unconverted_if l.kind Object (first_place y)))

abbrev pub claims : Exp → Judged → Judged → Judged
claims x k l = whole (truth_of_both k.kind l.kind) (joined k.violations l.violations) (unconverted_if k.kind Claim (first_place x))

-- ---- quantifiers

-- the struct of a type isn't declared
abbrev pub type_breaks : List Item → Ty → Option Fault
type_breaks items (Pointer x) = broken_if (not (is_some (find_struct items x))) r.Undeclared x.place
type_breaks items _ = None

abbrev pub quantified_breaks : Context → Span → Quantifier → Id → Exp → Option Fault
quantified_breaks c p q n x = earlier (broken_if (not (is_of_form q n x)) r.QuantifierForm p) (broken_if (is_property c.property) r.PropertyForm p)

abbrev pub quantified : Context → Span → Quantifier → Ty → Id → Exp → Judged → Judged
quantified c p q ty n x body =
    whole (truth body.kind) (joined (breaking (type_breaks c.scope.items ty)) body.violations) (quantified_breaks c p q n x)
