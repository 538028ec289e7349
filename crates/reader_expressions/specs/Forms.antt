-- The words of annotations that begin an expression, with the rules of what they begin.
use Rattle.std.specs.Prelude.{ℕ, Bool, true, false}
use Rattle.ebnf.specs.Rules.{below, nothing, form}
use Rattle.c_syntax.specs.declared.token.Span.{Span}
use Rattle.c_syntax.specs.declared.token.SpecWord.TheVariants as w
use Rattle.c_syntax.specs.declared.token.Sign.TheVariants as s
use Rattle.c_syntax.specs.declared.tree.Constant.{Constant}
use Rattle.c_syntax.specs.declared.tree.Constant.TheVariants as constants
use Rattle.c_syntax.specs.declared.tree.SpecFunction.{SpecFunction}
use Rattle.c_syntax.specs.declared.tree.SpecFunction.TheVariants as functions
use Rattle.c_syntax.specs.declared.tree.ListWord.{ListWord}
use Rattle.c_syntax.specs.declared.tree.ListWord.TheVariants as lists
use Rattle.c_syntax.specs.declared.tree.Quantifier.{Quantifier}
use Rattle.c_syntax.specs.declared.tree.Quantifier.TheVariants as quantifiers
use Rattle.c_syntax.specs.Classes.{sign, spec}
use Rattle.c_syntax.specs.Expressions as e
use Rattle.c_syntax.specs.Expressions.{Exp}
use Rattle.c_syntax.specs.Grammar as g
use Rattle.c_syntax.specs.Grammar.{P, R, ◌▷◌, word, inside}
use Rattle.reader_expressions.specs.declared.forms.Pair.{Pair}
use Rattle.reader_expressions.specs.declared.forms.Pair.TheVariants as pairs
use Rattle.reader_expressions.specs.declared.forms.Form.{Form}
use Rattle.reader_expressions.specs.declared.forms.Form.TheVariants as f

abbrev pub constant_class : Constant → ℕ
constant_class constants.True = spec w.True
constant_class constants.False = spec w.False
constant_class constants.This = spec w.This
constant_class constants.Me = spec w.Me
constant_class constants.Result = spec w.Result

abbrev pub function_class : SpecFunction → ℕ
function_class functions.Old = spec w.Old
function_class functions.Unchanged = spec w.Unchanged
function_class functions.Wrapped = spec w.Wrapped
function_class functions.WrappedUnclaimed = spec w.WrappedUnclaimed
function_class functions.Mutable = spec w.Mutable
function_class functions.Fresh = spec w.Fresh

abbrev pub argument_tier : SpecFunction → g.Tier
argument_tier functions.Old = g.Equivalence
argument_tier functions.Unchanged = g.Equivalence
argument_tier functions.Wrapped = g.Choice
argument_tier functions.WrappedUnclaimed = g.Choice
argument_tier functions.Mutable = g.Choice
argument_tier functions.Fresh = g.Choice

abbrev pub list_class : ListWord → ℕ
list_class lists.Mine = spec w.Mine
list_class lists.ClaimsOnly = spec w.ClaimsOnly

abbrev pub pair_class : Pair → ℕ
pair_class pairs.ClaimsObject = spec w.ClaimsObject
pair_class pairs.Claims = spec w.Claims

abbrev pub second_tier : Pair → g.Tier
second_tier pairs.ClaimsObject = g.Choice
second_tier pairs.Claims = g.Equivalence

abbrev pub pair_of : Pair → Exp → Exp → Span → Exp
pair_of pairs.ClaimsObject x y p = e.ClaimsObject p x y
pair_of pairs.Claims x y p = e.Claims p x y

abbrev pub quantifier_class : Quantifier → ℕ
quantifier_class quantifiers.ForAll = spec w.Forall
quantifier_class quantifiers.Exists = spec w.Exists

-- the class of a form's word
abbrev pub class_of : Form → ℕ
class_of (f.Constant x) = constant_class x
class_of (f.Function x) = function_class x
class_of (f.Several x) = list_class x
class_of (f.Pair x) = pair_class x
class_of f.Approval = spec w.Approves
class_of (f.Quantifier x) = quantifier_class x

-- an expression of an annotation, of this level
abbrev pub at_level : g.Tier → P Exp
at_level t = below (g.Level g.InSpec t) (λ x. x)

abbrev pub constant : Constant → R Exp
constant x = g.constant (constant_class x) x

abbrev pub apply : SpecFunction → R Exp
apply x = g.apply (function_class x) x (at_level (argument_tier x))

abbrev pub several : ListWord → R Exp
several x = g.several (list_class x) x

abbrev pub paired : Pair → R Exp
paired x = form (word (pair_class x) ▷ g.two g.spec_exp (at_level (second_tier x)) (pair_of x))

abbrev pub approval : R Exp
approval = form (word (spec w.Approves) ▷ word (sign s.Open) ▷ g.this_owner ▷ word (sign s.Comma) ▷ g.name ▷ word (sign s.Close) ▷ nothing (λ c x m o b p. e.Approves p x))

abbrev pub quantified : Quantifier → R Exp
quantified q = g.quantified (quantifier_class q) q

-- the rule of what a form's word begins
abbrev pub rule_of : Form → R Exp
rule_of (f.Constant x) = constant x
rule_of (f.Function x) = apply x
rule_of (f.Several x) = several x
rule_of (f.Pair x) = paired x
rule_of f.Approval = approval
rule_of (f.Quantifier x) = quantified x

-- how high what stands in a form is at least
abbrev pub form_low : Form → ℕ
form_low (f.Constant x) = 0
form_low (f.Function x) = 1
form_low (f.Several x) = 1
form_low (f.Pair x) = 1
form_low f.Approval = 2
form_low (f.Quantifier x) = 1

abbrev pub is_quantifier : Form → Bool
is_quantifier (f.Quantifier x) = true
is_quantifier _ = false
