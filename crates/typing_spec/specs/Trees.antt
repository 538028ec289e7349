-- Expressions without their brackets and places.
use Rattle.std.specs.Prelude.{ℕ, Bool, true, false, not, ◌&&◌, ◌||◌, ◌==◌}
use Rattle.int_ranges.specs.declared.ctype.CType.{CType}
use Rattle.int_ranges.specs.declared.ctype.CType.TheVariants as types
use Rattle.c_syntax.specs.declared.tree.Constant.{Constant}
use Rattle.c_syntax.specs.declared.tree.Constant.TheVariants as constants
use Rattle.c_syntax.specs.declared.tree.Status.{Status}
use Rattle.c_syntax.specs.declared.tree.Status.TheVariants as statuses
use Rattle.c_syntax.specs.declared.tree.UnaryOperator.{UnaryOperator}
use Rattle.c_syntax.specs.declared.tree.UnaryOperator.TheVariants as unary
use Rattle.c_syntax.specs.declared.tree.BinaryOperator.{BinaryOperator}
use Rattle.c_syntax.specs.declared.tree.BinaryOperator.TheVariants as op
use Rattle.c_syntax.specs.declared.tree.SpecFunction.{SpecFunction}
use Rattle.c_syntax.specs.declared.tree.SpecFunction.TheVariants as f
use Rattle.c_syntax.specs.declared.tree.ListWord.{ListWord}
use Rattle.c_syntax.specs.declared.tree.ListWord.TheVariants as lists
use Rattle.c_syntax.specs.declared.tree.Quantifier.{Quantifier}
use Rattle.c_syntax.specs.declared.tree.Quantifier.TheVariants as q
use Rattle.c_syntax.specs.Expressions as e
use Rattle.c_syntax.specs.Expressions.{Id, Ty, Exp, Exps}
use Rattle.typing_spec.specs.Declarations.{same_name}

-- without brackets around the whole
abbrev pub bare : Exp → Exp
bare (e.Group p x) = bare x
bare x = x

-- the expression is this name
abbrev pub is_name : Id → Exp → Bool
is_name x (e.Name y) = same_name x y
is_name x _ = false

-- the name stands free in the expression
abbrev mutual
  pub mentions : Id → Exp → Bool
  mentions n (e.Number p v ty) = false
  mentions n (e.Name x) = same_name n x
  mentions n (e.Null p) = false
  mentions n (e.Word p x) = false
  mentions n (e.Group p x) = mentions n x
  mentions n (e.Field p x y) = mentions n x
  mentions n (e.State p x r s) = mentions n x
  mentions n (e.Owns p x r) = mentions n x
  mentions n (e.Unary p o x) = mentions n x
  mentions n (e.Binary p o x y) = mentions n x || mentions n y
  mentions n (e.Conditional p x y z) = mentions n x || (mentions n y || mentions n z)
  mentions n (e.Apply p g x) = mentions n x
  mentions n (e.Several p w xs) = any_mentions n xs
  mentions n (e.ClaimsObject p x y) = mentions n x || mentions n y
  mentions n (e.Claims p x y) = mentions n x || mentions n y
  mentions n (e.Approves p x) = false
  mentions n (e.Quantified p k ty x y) = not (same_name n x) && mentions n y

  pub any_mentions : Id → Exps → Bool
  any_mentions n e.Stop = false
  any_mentions n (e.With x xs) = mentions n x || any_mentions n xs

-- ---- the same tree

-- a number for each word and sign
abbrev pub integer_number : CType → ℕ
integer_number types.Int = 1
integer_number types.Unsigned = 2
integer_number types.LongLong = 3
integer_number types.UnsignedLongLong = 4

abbrev pub constant_number : Constant → ℕ
constant_number constants.True = 1
constant_number constants.False = 2
constant_number constants.This = 3
constant_number constants.Me = 4
constant_number constants.Result = 5

abbrev pub status_number : Status → ℕ
status_number statuses.Closed = 1
status_number statuses.Owner = 2
status_number statuses.ClaimCount = 3

abbrev pub unary_number : UnaryOperator → ℕ
unary_number unary.Not = 1
unary_number unary.Negate = 2

abbrev pub binary_number : BinaryOperator → ℕ
binary_number op.Times = 1
binary_number op.Over = 2
binary_number op.Modulo = 3
binary_number op.Plus = 4
binary_number op.Minus = 5
binary_number op.Less = 6
binary_number op.LessEqual = 7
binary_number op.Greater = 8
binary_number op.GreaterEqual = 9
binary_number op.In = 10
binary_number op.Equal = 11
binary_number op.NotEqual = 12
binary_number op.And = 13
binary_number op.Or = 14
binary_number op.Implies = 15
binary_number op.Equivalent = 16

abbrev pub function_number : SpecFunction → ℕ
function_number f.Old = 1
function_number f.Unchanged = 2
function_number f.Wrapped = 3
function_number f.WrappedUnclaimed = 4
function_number f.Mutable = 5
function_number f.Fresh = 6

abbrev pub list_word_number : ListWord → ℕ
list_word_number lists.Mine = 1
list_word_number lists.ClaimsOnly = 2

abbrev pub quantifier_number : Quantifier → ℕ
quantifier_number q.ForAll = 1
quantifier_number q.Exists = 2

abbrev pub same_type : Ty → Ty → Bool
same_type (e.Integer t) (e.Integer u) = integer_number t == integer_number u
same_type (e.Pointer x) (e.Pointer y) = same_name x y
same_type e.Object e.Object = true
same_type e.Claim e.Claim = true
same_type _ _ = false

-- an expression of this form whose parts pass
abbrev pub if_number : (ℕ → Bool) → Exp → Bool
if_number h (e.Number p v ty) = h v
if_number h _ = false

abbrev pub if_null : Exp → Bool
if_null (e.Null p) = true
if_null _ = false

abbrev pub if_word : (Constant → Bool) → Exp → Bool
if_word h (e.Word p x) = h x
if_word h _ = false

abbrev pub if_field : (Exp → Id → Bool) → Exp → Bool
if_field h (e.Field p x y) = h x y
if_field h _ = false

abbrev pub if_state : (Exp → Status → Bool) → Exp → Bool
if_state h (e.State p x r s) = h x s
if_state h _ = false

abbrev pub if_owns : (Exp → Bool) → Exp → Bool
if_owns h (e.Owns p x r) = h x
if_owns h _ = false

abbrev pub if_unary : (UnaryOperator → Exp → Bool) → Exp → Bool
if_unary h (e.Unary p o x) = h o x
if_unary h _ = false

abbrev pub if_binary : (BinaryOperator → Exp → Exp → Bool) → Exp → Bool
if_binary h (e.Binary p o x y) = h o x y
if_binary h _ = false

abbrev pub if_conditional : (Exp → Exp → Exp → Bool) → Exp → Bool
if_conditional h (e.Conditional p x y z) = h x y z
if_conditional h _ = false

abbrev pub if_apply : (SpecFunction → Exp → Bool) → Exp → Bool
if_apply h (e.Apply p g x) = h g x
if_apply h _ = false

abbrev pub if_several : (ListWord → Exps → Bool) → Exp → Bool
if_several h (e.Several p w xs) = h w xs
if_several h _ = false

abbrev pub if_claims_object : (Exp → Exp → Bool) → Exp → Bool
if_claims_object h (e.ClaimsObject p x y) = h x y
if_claims_object h _ = false

abbrev pub if_claims : (Exp → Exp → Bool) → Exp → Bool
if_claims h (e.Claims p x y) = h x y
if_claims h _ = false

abbrev pub if_approves : (Id → Bool) → Exp → Bool
if_approves h (e.Approves p x) = h x
if_approves h _ = false

abbrev pub if_quantified : (Quantifier → Ty → Id → Exp → Bool) → Exp → Bool
if_quantified h (e.Quantified p k ty x y) = h k ty x y
if_quantified h _ = false

abbrev pub if_with : (Exp → Exps → Bool) → Exps → Bool
if_with h e.Stop = false
if_with h (e.With x xs) = h x xs

abbrev pub is_stop : Exps → Bool
is_stop e.Stop = true
is_stop (e.With x xs) = false

-- The same tree, brackets apart; literals are the same where their numbers are.
abbrev mutual
  pub same_tree : Exp → Exp → Bool
  same_tree (e.Number p v ty) y = if_number (λ w. v == w) (bare y)
  same_tree (e.Name x) y = is_name x (bare y)
  same_tree (e.Null p) y = if_null (bare y)
  same_tree (e.Word p x) y = if_word (λ z. constant_number x == constant_number z) (bare y)
  same_tree (e.Group p x) y = same_tree x y
  same_tree (e.Field p x a) y = if_field (λ z b. same_name a b && same_tree x z) (bare y)
  same_tree (e.State p x r s) y = if_state (λ z t. (status_number s == status_number t) && same_tree x z) (bare y)
  same_tree (e.Owns p x r) y = if_owns (same_tree x) (bare y)
  same_tree (e.Unary p o x) y = if_unary (λ u z. (unary_number o == unary_number u) && same_tree x z) (bare y)
  same_tree (e.Binary p o a b) y = if_binary (λ u c d. (binary_number o == binary_number u) && (same_tree a c && same_tree b d)) (bare y)
  same_tree (e.Conditional p a b c) y = if_conditional (λ d f g. same_tree a d && (same_tree b f && same_tree c g)) (bare y)
  same_tree (e.Apply p g x) y = if_apply (λ h z. (function_number g == function_number h) && same_tree x z) (bare y)
  same_tree (e.Several p w xs) y = if_several (λ v ys. (list_word_number w == list_word_number v) && same_row xs ys) (bare y)
  same_tree (e.ClaimsObject p a b) y = if_claims_object (λ c d. same_tree a c && same_tree b d) (bare y)
  same_tree (e.Claims p a b) y = if_claims (λ c d. same_tree a c && same_tree b d) (bare y)
  same_tree (e.Approves p x) y = if_approves (same_name x) (bare y)
  same_tree (e.Quantified p k ty x b) y = if_quantified (λ l u z d. (quantifier_number k == quantifier_number l) && (same_type ty u && (same_name x z && same_tree b d))) (bare y)

  pub same_row : Exps → Exps → Bool
  same_row e.Stop ys = is_stop ys
  same_row (e.With x xs) ys = if_with (λ y zs. same_tree x y && same_row xs zs) ys
