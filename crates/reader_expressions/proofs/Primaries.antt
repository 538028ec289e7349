-- Which rule of a primary is meant, by the next token.
use Rattle.std.proofs.Common.{◌≡◌, ◌≢◌, ◌⊎◌, inl, inr, ⊎_elim, ℕ, zero, suc, ◌+◌, ◌-◌, ◌<◌, ◌≤◌, max, nat_le, Bool, true, false, cond, List, [], ◌∷◌, ◌++◌, map, Result, Ok, Err, refl, ap, sym, ◌∙◌, subst, arith}
use Rattle.std.specs.Prelude.{◌==◌, ◌&&◌, ◌||◌, if◌then◌else◌}
use Rattle.ebnf.specs.Rules.{pick}
use Rattle.ebnf.specs.Sets.{has, first, first_rule, low, low_rule, is_empty, RuleOf}
use Rattle.ebnf.specs.Derives.{next}
use Rattle.ebnf.specs.Reading.{Out, Unexpected, TooDeep, on, enter, read, read_rule, reads}
use Rattle.ebnf.specs.Tools.{true_not_false, or_cases, eq_true, true_eq, le_true, true_le, hasnt_left, hasnt_right}
use Rattle.c_syntax.specs.declared.token.Sign.TheVariants as s
use Rattle.c_syntax.specs.declared.token.Keyword.TheVariants as k
use Rattle.c_syntax.specs.declared.tree.Constant.{Constant}
use Rattle.c_syntax.specs.declared.tree.Constant.TheVariants as constants
use Rattle.c_syntax.specs.declared.tree.SpecFunction.{SpecFunction}
use Rattle.c_syntax.specs.declared.tree.SpecFunction.TheVariants as functions
use Rattle.c_syntax.specs.declared.tree.ListWord.{ListWord}
use Rattle.c_syntax.specs.declared.tree.ListWord.TheVariants as lists
use Rattle.c_syntax.specs.declared.tree.Quantifier.{Quantifier}
use Rattle.c_syntax.specs.declared.tree.Quantifier.TheVariants as quantifiers
use Rattle.c_syntax.specs.declared.tree.UnaryOperator.{UnaryOperator}
use Rattle.c_syntax.specs.declared.tree.UnaryOperator.TheVariants as u
use Rattle.c_syntax.specs.Classes.{key, sign}
use Rattle.c_syntax.specs.Lexing.{Lexeme}
use Rattle.c_syntax.specs.Expressions.{Exp}
use Rattle.c_syntax.specs.Language.{language}
use Rattle.c_syntax.specs.Grammar as g
use Rattle.reader_expressions.specs.declared.levels.Mode.{Mode}
use Rattle.reader_expressions.specs.declared.levels.Mode.TheVariants as m
use Rattle.reader_expressions.specs.declared.forms.Pair.{Pair}
use Rattle.reader_expressions.specs.declared.forms.Pair.TheVariants as pairs
use Rattle.reader_expressions.specs.declared.forms.Form.{Form}
use Rattle.reader_expressions.specs.declared.forms.Form.TheVariants as f
use Rattle.reader_expressions.specs.Reading.{part, rule_at}
use Rattle.reader_expressions.specs.Levels.{mode_of, level, top, unary_class, unary, arrow, linked}
use Rattle.reader_expressions.specs.Suffixes.{climbed}
use Rattle.reader_expressions.specs.Forms as forms
use Rattle.reader_expressions.specs.Forms.{rule_of, form_low, is_quantifier, class_of, constant_class, function_class, list_class, pair_class, quantifier_class}

pub brackets : (m : Mode) (room : ℕ) (ts : List Lexeme) → read language (reads language room) room (g.in_brackets (mode_of m)) ts ≡ on language (reads language room (level m (top m)) ts) (λ x i rest. Ok (x, i, rest))
unfolding read
brackets m.Code room ts = refl
brackets m.Spec room ts = refl

-- ---- a choice by the next token

module _ {A : Type 0} where
  pub pick_none : (p q : RuleOf language A) (room : ℕ) (ts : List Lexeme) → has (first_rule language (pick p q)) (next language ts) ≡ false → rule_at room (pick p q) ts ≡ Err (Unexpected, ts)
  unfolding read_rule first_rule
  pick_none p q room ts h = rw (hasnt_left (first_rule language p) _ _ h) (rw (hasnt_right (first_rule language p) _ _ h) refl)

  pub pick_first : (p q : RuleOf language A) (room : ℕ) (ts : List Lexeme) → has (first_rule language p) (next language ts) ≡ true → rule_at room (pick p q) ts ≡ enter language (suc room) (low_rule language p) (rule_at room p) ts
  unfolding read_rule
  pick_first p q room ts h = rw h refl

  -- behind the first alternative stands a choice again
  pub pick_other : (p a b : RuleOf language A) (room : ℕ) (ts : List Lexeme) → has (first_rule language p) (next language ts) ≡ false → nat_le (low_rule language (pick a b)) (suc room) ≡ true → rule_at room (pick p (pick a b)) ts ≡ rule_at room (pick a b) ts
  unfolding read_rule
  pick_other p a b room ts h fits = go (has (first_rule language (pick a b)) (next language ts)) refl
    where
      go : (x : Bool) → has (first_rule language (pick a b)) (next language ts) ≡ x → rule_at room (pick p (pick a b)) ts ≡ rule_at room (pick a b) ts
      go true e = rw h (rw e (rw fits refl))
      go false e = rw h (rw e (sym (pick_none a b room ts e)))

-- ---- room

pub fits_one : (room : ℕ) → nat_le 1 (suc room) ≡ true
fits_one room = true_le 1 (suc room) (omega arith)

pub fits_suc : (n room : ℕ) (b : Bool) → nat_le n room ≡ b → nat_le (suc n) (suc room) ≡ b
fits_suc n room true h = true_le (suc n) (suc room) (omega (arith, le_true n room h))
fits_suc n room false h = go (nat_le (suc n) (suc room)) refl
  where
    go : (x : Bool) → nat_le (suc n) (suc room) ≡ x → x ≡ false
    go true e = let a : suc n ≤ suc room = le_true (suc n) (suc room) e in absurd (true_not_false _ (true_le n room (omega arith)) h)
    go false e = refl

pub fits_two : (room : ℕ) (b : Bool) → nat_le 1 room ≡ b → nat_le 2 (suc room) ≡ b
fits_two room b h = fits_suc 1 room b h

-- ---- primaries

pub primary_named : (m : g.Mode) (room : ℕ) (ts : List Lexeme) → next language ts ≡ 1 → rule_at room (g.primary m) ts ≡ rule_at 0 g.named ts
unfolding read_rule first_rule first low_rule low is_empty read
primary_named g.Code room ts e = rw e (rw (fits_one room) refl)
primary_named g.InSpec room ts e = rw e (rw (fits_one room) refl)

pub primary_code : (room : ℕ) (ts : List Lexeme) → (next language ts == 1) ≡ false → rule_at room (g.primary g.Code) ts ≡ rule_at room (g.unnamed g.Code) ts
unfolding first_rule first low_rule low is_empty
primary_code room ts h = pick_other g.named g.number (pick g.null (g.group g.Code)) room ts (ap (λ b. b || false) h) (fits_one room)

other_forms : (c : ℕ) → ((f : Form) → c ≢ class_of f) → has (first_rule language (pick g.spec_word g.quantifier)) c ≡ false
unfolding first_rule first is_empty
other_forms c none = go (has (first_rule language (pick g.spec_word g.quantifier)) c) refl
  where
    fs : List Form
    fs = f.Constant constants.True ∷ f.Constant constants.False ∷ f.Constant constants.This ∷ f.Constant constants.Me ∷ f.Constant constants.Result ∷ f.Function functions.Old ∷ f.Function functions.Unchanged ∷ f.Function functions.Wrapped ∷ f.Function functions.WrappedUnclaimed ∷ f.Function functions.Mutable ∷ f.Function functions.Fresh ∷ f.Several lists.Mine ∷ f.Several lists.ClaimsOnly ∷ f.Pair pairs.ClaimsObject ∷ f.Pair pairs.Claims ∷ f.Approval ∷ f.Quantifier quantifiers.ForAll ∷ f.Quantifier quantifiers.Exists ∷ []

    one_of : (fs : List Form) → has (map class_of fs) c ≡ true → ⊥
    one_of [] h = true_not_false _ h refl
    one_of (f ∷ fs) h = ⊎_elim (λ e. none f (eq_true c (class_of f) e)) (one_of fs) (or_cases (c == class_of f) (has (map class_of fs) c) h)

    go : (x : Bool) → has (first_rule language (pick g.spec_word g.quantifier)) c ≡ x → x ≡ false
    go true e = absurd (one_of fs e)
    go false e = refl

pub primary_unnamed : (room : ℕ) (ts : List Lexeme) → (next language ts == 1) ≡ false → ((f : Form) → next language ts ≢ class_of f) → rule_at room (g.primary g.InSpec) ts ≡ rule_at room (g.unnamed g.InSpec) ts
unfolding first_rule first low_rule low is_empty read_rule
primary_unnamed room ts h none = pick_other g.named (g.unnamed g.InSpec) (pick g.spec_word g.quantifier) room ts (ap (λ b. b || false) h) (fits_one room) ∙ go (has (first_rule language (g.unnamed g.InSpec)) (next language ts)) refl
  where
    go : (x : Bool) → has (first_rule language (g.unnamed g.InSpec)) (next language ts) ≡ x → rule_at room (pick (g.unnamed g.InSpec) (pick g.spec_word g.quantifier)) ts ≡ rule_at room (g.unnamed g.InSpec) ts
    go true e = rw e (rw (fits_one room) refl)
    go false e = rw e (rw (other_forms _ none) (sym (pick_none g.number (pick g.null (g.group g.InSpec)) room ts e)))

-- ---- the others

pub unnamed_number : (m : g.Mode) (room : ℕ) (ts : List Lexeme) → next language ts ≡ 2 → rule_at room (g.unnamed m) ts ≡ rule_at 0 g.number ts
unfolding read_rule first_rule first low_rule low is_empty read
unnamed_number m room ts e = rw e (rw (fits_one room) refl)

pub unnamed_null : (m : g.Mode) (room : ℕ) (ts : List Lexeme) → next language ts ≡ key k.Null → rule_at room (g.unnamed m) ts ≡ rule_at 0 g.null ts
unfolding read_rule first_rule first low_rule low is_empty read
unnamed_null g.Code room ts e = rw e (rw (fits_one room) refl)
unnamed_null g.InSpec room ts e = rw e (rw (fits_one room) refl)

pub unnamed_group : (m : g.Mode) (room : ℕ) (ts : List Lexeme) → next language ts ≡ sign s.Open → nat_le 1 room ≡ true → rule_at room (g.unnamed m) ts ≡ rule_at room (g.group m) ts
unfolding read_rule first_rule first low_rule low is_empty
unnamed_group g.Code room ts e fits = rw e (rw (fits_one room) (rw (fits_two room true fits) refl))
unnamed_group g.InSpec room ts e fits = rw e (rw (fits_one room) (rw (fits_two room true fits) refl))

pub unnamed_high : (m : g.Mode) (room : ℕ) (ts : List Lexeme) → next language ts ≡ sign s.Open → nat_le 1 room ≡ false → rule_at room (g.unnamed m) ts ≡ Err (TooDeep, ts)
unfolding read_rule first_rule first low_rule low is_empty
unnamed_high g.Code room ts e fits = rw e (rw (fits_one room) (rw (fits_two room false fits) refl))
unnamed_high g.InSpec room ts e fits = rw e (rw (fits_one room) (rw (fits_two room false fits) refl))

pub unnamed_none : (m : g.Mode) (room : ℕ) (ts : List Lexeme) → (next language ts == 2) ≡ false → (next language ts == key k.Null) ≡ false → (next language ts == sign s.Open) ≡ false → rule_at room (g.unnamed m) ts ≡ Err (Unexpected, ts)
unfolding first_rule first is_empty
unnamed_none m room ts a b c = pick_none g.number (pick g.null (g.group m)) room ts (rw a (rw b (rw c refl)))

-- ---- forms of annotations

pub form_constant : (x : Constant) (room : ℕ) (ts : List Lexeme) → next language ts ≡ constant_class x → rule_at room (g.primary g.InSpec) ts ≡ rule_at 0 (forms.constant x) ts
unfolding read_rule first_rule first low_rule low is_empty read
form_constant constants.True room ts e = rw e (rw (fits_one room) refl)
form_constant constants.False room ts e = rw e (rw (fits_one room) refl)
form_constant constants.This room ts e = rw e (rw (fits_one room) refl)
form_constant constants.Me room ts e = rw e (rw (fits_one room) refl)
form_constant constants.Result room ts e = rw e (rw (fits_one room) refl)

abbrev pub entered_rule : ℕ → RuleOf language Exp → List Lexeme → Out language Exp
entered_rule room r ts = if nat_le 1 room then rule_at room r ts else Err (TooDeep, ts)

form_function_in : (x : SpecFunction) (room : ℕ) (ts : List Lexeme) (b : Bool) → nat_le 1 room ≡ b → next language ts ≡ function_class x → rule_at room (g.primary g.InSpec) ts ≡ entered_rule room (forms.apply x) ts
unfolding read_rule first_rule first low_rule low is_empty
form_function_in functions.Old room ts true h e = rw e (rw (fits_one room) (rw (fits_two room true h) (rw h refl)))
form_function_in functions.Old room ts false h e = rw e (rw (fits_one room) (rw (fits_two room false h) (rw h refl)))
form_function_in functions.Unchanged room ts true h e = rw e (rw (fits_one room) (rw (fits_two room true h) (rw h refl)))
form_function_in functions.Unchanged room ts false h e = rw e (rw (fits_one room) (rw (fits_two room false h) (rw h refl)))
form_function_in functions.Wrapped room ts true h e = rw e (rw (fits_one room) (rw (fits_two room true h) (rw h refl)))
form_function_in functions.Wrapped room ts false h e = rw e (rw (fits_one room) (rw (fits_two room false h) (rw h refl)))
form_function_in functions.WrappedUnclaimed room ts true h e = rw e (rw (fits_one room) (rw (fits_two room true h) (rw h refl)))
form_function_in functions.WrappedUnclaimed room ts false h e = rw e (rw (fits_one room) (rw (fits_two room false h) (rw h refl)))
form_function_in functions.Mutable room ts true h e = rw e (rw (fits_one room) (rw (fits_two room true h) (rw h refl)))
form_function_in functions.Mutable room ts false h e = rw e (rw (fits_one room) (rw (fits_two room false h) (rw h refl)))
form_function_in functions.Fresh room ts true h e = rw e (rw (fits_one room) (rw (fits_two room true h) (rw h refl)))
form_function_in functions.Fresh room ts false h e = rw e (rw (fits_one room) (rw (fits_two room false h) (rw h refl)))

pub form_function : (x : SpecFunction) (room : ℕ) (ts : List Lexeme) → next language ts ≡ function_class x → rule_at room (g.primary g.InSpec) ts ≡ entered_rule room (forms.apply x) ts
form_function x room ts e = form_function_in x room ts (nat_le 1 room) refl e

form_several_in : (x : ListWord) (room : ℕ) (ts : List Lexeme) (b : Bool) → nat_le 1 room ≡ b → next language ts ≡ list_class x → rule_at room (g.primary g.InSpec) ts ≡ entered_rule room (forms.several x) ts
unfolding read_rule first_rule first low_rule low is_empty
form_several_in lists.Mine room ts true h e = rw e (rw (fits_one room) (rw (fits_two room true h) (rw h refl)))
form_several_in lists.Mine room ts false h e = rw e (rw (fits_one room) (rw (fits_two room false h) (rw h refl)))
form_several_in lists.ClaimsOnly room ts true h e = rw e (rw (fits_one room) (rw (fits_two room true h) (rw h refl)))
form_several_in lists.ClaimsOnly room ts false h e = rw e (rw (fits_one room) (rw (fits_two room false h) (rw h refl)))

pub form_several : (x : ListWord) (room : ℕ) (ts : List Lexeme) → next language ts ≡ list_class x → rule_at room (g.primary g.InSpec) ts ≡ entered_rule room (forms.several x) ts
form_several x room ts e = form_several_in x room ts (nat_le 1 room) refl e

form_pair_in : (x : Pair) (room : ℕ) (ts : List Lexeme) (b : Bool) → nat_le 1 room ≡ b → next language ts ≡ pair_class x → rule_at room (g.primary g.InSpec) ts ≡ entered_rule room (forms.paired x) ts
unfolding read_rule first_rule first low_rule low is_empty
form_pair_in pairs.ClaimsObject room ts true h e = rw e (rw (fits_one room) (rw (fits_two room true h) (rw h refl)))
form_pair_in pairs.ClaimsObject room ts false h e = rw e (rw (fits_one room) (rw (fits_two room false h) (rw h refl)))
form_pair_in pairs.Claims room ts true h e = rw e (rw (fits_one room) (rw (fits_two room true h) (rw h refl)))
form_pair_in pairs.Claims room ts false h e = rw e (rw (fits_one room) (rw (fits_two room false h) (rw h refl)))

pub form_pair : (x : Pair) (room : ℕ) (ts : List Lexeme) → next language ts ≡ pair_class x → rule_at room (g.primary g.InSpec) ts ≡ entered_rule room (forms.paired x) ts
form_pair x room ts e = form_pair_in x room ts (nat_le 1 room) refl e

abbrev three_high : ℕ → List Lexeme → Out language Exp
three_high room ts = cond (nat_le 2 room) (rule_at room forms.approval ts) (Err (TooDeep, ts))

form_approval_in : (room : ℕ) (ts : List Lexeme) (a b : Bool) → nat_le 1 room ≡ a → nat_le 2 room ≡ b → next language ts ≡ class_of f.Approval → rule_at room (g.primary g.InSpec) ts ≡ three_high room ts
unfolding read_rule first_rule first low_rule low is_empty
form_approval_in room ts true true h k e = rw e (rw (fits_one room) (rw (fits_two room true h) (rw (fits_suc 2 room true k) (rw k refl))))
form_approval_in room ts true false h k e = rw e (rw (fits_one room) (rw (fits_two room true h) (rw (fits_suc 2 room false k) (rw k refl))))
form_approval_in room ts false true h k e = let a : 2 ≤ room = le_true 2 room k in absurd (true_not_false _ (true_le 1 room (omega arith)) h)
form_approval_in room ts false false h k e = rw e (rw (fits_one room) (rw (fits_two room false h) (rw k refl)))

pub form_approval : (room : ℕ) (ts : List Lexeme) → next language ts ≡ class_of f.Approval → rule_at room (g.primary g.InSpec) ts ≡ three_high room ts
form_approval room ts e = form_approval_in room ts (nat_le 1 room) (nat_le 2 room) refl refl e

form_quantifier_in : (x : Quantifier) (room : ℕ) (ts : List Lexeme) (b : Bool) → nat_le 1 room ≡ b → next language ts ≡ quantifier_class x → rule_at room (g.primary g.InSpec) ts ≡ entered_rule room (forms.quantified x) ts
unfolding read_rule first_rule first low_rule low is_empty
form_quantifier_in quantifiers.ForAll room ts true h e = rw e (rw (fits_one room) (rw (fits_two room true h) (rw h refl)))
form_quantifier_in quantifiers.ForAll room ts false h e = rw e (rw (fits_one room) (rw (fits_two room false h) (rw h refl)))
form_quantifier_in quantifiers.Exists room ts true h e = rw e (rw (fits_one room) (rw (fits_two room true h) (rw h refl)))
form_quantifier_in quantifiers.Exists room ts false h e = rw e (rw (fits_one room) (rw (fits_two room false h) (rw h refl)))

pub form_quantifier : (x : Quantifier) (room : ℕ) (ts : List Lexeme) → next language ts ≡ quantifier_class x → rule_at room (g.primary g.InSpec) ts ≡ entered_rule room (forms.quantified x) ts
form_quantifier x room ts e = form_quantifier_in x room ts (nat_le 1 room) refl e

-- ---- operators in front, and arrows behind

prefix_in : (m : g.Mode) (o : UnaryOperator) (room : ℕ) (ts : List Lexeme) (b : Bool) → nat_le 1 room ≡ b → next language ts ≡ unary_class o → rule_at room (g.rule (g.Level m g.Prefix)) ts ≡ entered_rule room (unary m o) ts
unfolding read_rule first_rule first low_rule low is_empty
prefix_in m u.Not room ts true h e = rw e (rw (fits_two room true h) (rw h refl))
prefix_in m u.Not room ts false h e = rw e (rw (fits_two room false h) (rw h refl))
prefix_in g.Code u.Negate room ts true h e = rw e (rw (fits_one room) (rw (fits_two room true h) (rw h refl)))
prefix_in g.Code u.Negate room ts false h e = rw e (rw (fits_one room) (rw (fits_two room false h) (rw h refl)))
prefix_in g.InSpec u.Negate room ts true h e = rw e (rw (fits_one room) (rw (fits_two room true h) (rw h refl)))
prefix_in g.InSpec u.Negate room ts false h e = rw e (rw (fits_one room) (rw (fits_two room false h) (rw h refl)))

pub prefix_unary : (m : g.Mode) (o : UnaryOperator) (room : ℕ) (ts : List Lexeme) → next language ts ≡ unary_class o → rule_at room (g.rule (g.Level m g.Prefix)) ts ≡ entered_rule room (unary m o) ts
prefix_unary m o room ts e = prefix_in m o room ts (nat_le 1 room) refl e

primary_none : (m : g.Mode) (room : ℕ) (ts : List Lexeme) → has (first_rule language (g.primary m)) (next language ts) ≡ false → rule_at room (g.primary m) ts ≡ Err (Unexpected, ts)
primary_none g.Code room ts h = pick_none g.named (g.unnamed g.Code) room ts h
primary_none g.InSpec room ts h = pick_none g.named (pick (g.unnamed g.InSpec) (pick g.spec_word g.quantifier)) room ts h

postfix_in : (m : g.Mode) (room : ℕ) (ts : List Lexeme) (x : Bool) → has (first_rule language (g.primary m)) (next language ts) ≡ x → (next language ts == sign s.Not) ≡ false → (next language ts == sign s.Minus) ≡ false → rule_at room (g.rule (g.Level m g.Prefix)) ts ≡ on language (rule_at room (g.primary m) ts) (λ l k rest. linked (suc room) room (arrow m) l k rest)
unfolding read_rule first_rule first low_rule low is_empty
postfix_in g.Code room ts true e a b = rw a (rw b (rw e (rw (fits_one room) refl)))
postfix_in g.InSpec room ts true e a b = rw a (rw b (rw e (rw (fits_one room) refl)))
postfix_in g.Code room ts false e a b = rw a (rw b (rw e (rw (primary_none g.Code room ts e) refl)))
postfix_in g.InSpec room ts false e a b = rw a (rw b (rw e (rw (primary_none g.InSpec room ts e) refl)))

pub prefix_postfix : (m : g.Mode) (room : ℕ) (ts : List Lexeme) → (next language ts == sign s.Not) ≡ false → (next language ts == sign s.Minus) ≡ false → rule_at room (g.rule (g.Level m g.Prefix)) ts ≡ on language (rule_at room (g.primary m) ts) (λ l k rest. linked (suc room) room (arrow m) l k rest)
prefix_postfix m room ts a b = postfix_in m room ts (has (first_rule language (g.primary m)) (next language ts)) refl a b

-- ---- primaries that are no quantifier

pub set_named : (room : ℕ) (ts : List Lexeme) → next language ts ≡ 1 → rule_at room g.set_primary ts ≡ rule_at 0 g.named ts
unfolding read_rule first_rule first low_rule low is_empty read
set_named room ts e = rw e (rw (fits_one room) refl)

pub set_form : (x : Form) (room : ℕ) (ts : List Lexeme) → is_quantifier x ≡ false → next language ts ≡ class_of x → rule_at room g.set_primary ts ≡ rule_at room (g.primary g.InSpec) ts
unfolding read_rule first_rule first low_rule low is_empty
set_form (f.Constant constants.True) room ts q e = rw e (rw (fits_one room) refl)
set_form (f.Constant constants.False) room ts q e = rw e (rw (fits_one room) refl)
set_form (f.Constant constants.This) room ts q e = rw e (rw (fits_one room) refl)
set_form (f.Constant constants.Me) room ts q e = rw e (rw (fits_one room) refl)
set_form (f.Constant constants.Result) room ts q e = rw e (rw (fits_one room) refl)
set_form (f.Function functions.Old) room ts q e = rw e (rw (fits_one room) refl)
set_form (f.Function functions.Unchanged) room ts q e = rw e (rw (fits_one room) refl)
set_form (f.Function functions.Wrapped) room ts q e = rw e (rw (fits_one room) refl)
set_form (f.Function functions.WrappedUnclaimed) room ts q e = rw e (rw (fits_one room) refl)
set_form (f.Function functions.Mutable) room ts q e = rw e (rw (fits_one room) refl)
set_form (f.Function functions.Fresh) room ts q e = rw e (rw (fits_one room) refl)
set_form (f.Several lists.Mine) room ts q e = rw e (rw (fits_one room) refl)
set_form (f.Several lists.ClaimsOnly) room ts q e = rw e (rw (fits_one room) refl)
set_form (f.Pair pairs.ClaimsObject) room ts q e = rw e (rw (fits_one room) refl)
set_form (f.Pair pairs.Claims) room ts q e = rw e (rw (fits_one room) refl)
set_form f.Approval room ts q e = rw e (rw (fits_one room) refl)
set_form (f.Quantifier x) room ts q e = absurd (true_not_false _ refl q)

pub set_other : (room : ℕ) (ts : List Lexeme) → (next language ts == 1) ≡ false → has (first_rule language g.spec_word) (next language ts) ≡ false → rule_at room g.set_primary ts ≡ rule_at room (g.unnamed g.InSpec) ts
unfolding first_rule first low_rule low is_empty read_rule
set_other room ts h none = pick_other g.named (g.unnamed g.InSpec) g.spec_word room ts (ap (λ b. b || false) h) (fits_one room) ∙ go (has (first_rule language (g.unnamed g.InSpec)) (next language ts)) refl
  where
    go : (x : Bool) → has (first_rule language (g.unnamed g.InSpec)) (next language ts) ≡ x → rule_at room (pick (g.unnamed g.InSpec) g.spec_word) ts ≡ rule_at room (g.unnamed g.InSpec) ts
    go true e = rw e (rw (fits_one room) refl)
    go false e = rw e (rw none (sym (pick_none g.number (pick g.null (g.group g.InSpec)) room ts e)))

pub quantifier_first : (x : Form) (c : ℕ) → is_quantifier x ≡ true → c ≡ class_of x → has (first_rule language g.spec_word) c ≡ false
unfolding first_rule first is_empty
quantifier_first (f.Quantifier quantifiers.ForAll) c h e = rw e refl
quantifier_first (f.Quantifier quantifiers.Exists) c h e = rw e refl
quantifier_first (f.Constant x) c h e = absurd (true_not_false _ h refl)
quantifier_first (f.Function x) c h e = absurd (true_not_false _ h refl)
quantifier_first (f.Several x) c h e = absurd (true_not_false _ h refl)
quantifier_first (f.Pair x) c h e = absurd (true_not_false _ h refl)
quantifier_first f.Approval c h e = absurd (true_not_false _ h refl)

pub no_form_first : (c : ℕ) → ((f : Form) → c ≢ class_of f) → has (first_rule language g.spec_word) c ≡ false
unfolding first_rule
no_form_first c none = hasnt_left (first_rule language g.spec_word) (first_rule language g.quantifier) _ (other_forms c none)

constant_any : (x : Constant) (room : ℕ) (ts : List Lexeme) → rule_at 0 (forms.constant x) ts ≡ rule_at room (forms.constant x) ts
unfolding read_rule read
constant_any x room ts = refl

pub form_read : (x : Form) (room : ℕ) (ts : List Lexeme) → next language ts ≡ class_of x → rule_at room (g.primary g.InSpec) ts ≡ cond (nat_le (form_low x) room) (rule_at room (rule_of x) ts) (Err (TooDeep, ts))
form_read (f.Constant x) room ts e = form_constant x room ts e ∙ constant_any x room ts ∙ rw (true_le 0 room (omega arith)) refl
form_read (f.Function x) room ts e = form_function x room ts e
form_read (f.Several x) room ts e = form_several x room ts e
form_read (f.Pair x) room ts e = form_pair x room ts e
form_read f.Approval room ts e = form_approval room ts e
form_read (f.Quantifier x) room ts e = form_quantifier x room ts e

pub form_fits : (x : Form) (room : ℕ) (ts : List Lexeme) → next language ts ≡ class_of x → nat_le (form_low x) room ≡ true → rule_at room (g.primary g.InSpec) ts ≡ rule_at room (rule_of x) ts
form_fits x room ts e h = form_read x room ts e ∙ rw h refl

pub form_high : (x : Form) (room : ℕ) (ts : List Lexeme) → next language ts ≡ class_of x → nat_le (form_low x) room ≡ false → rule_at room (g.primary g.InSpec) ts ≡ Err (TooDeep, ts)
form_high x room ts e h = form_read x room ts e ∙ rw h refl

pub approval_rule : (room : ℕ) (ts : List Lexeme) → rule_at room forms.approval ts ≡ rule_at 0 forms.approval ts
unfolding read_rule read
approval_rule room ts = refl

pub constant_rule : (x : Constant) (room : ℕ) (ts : List Lexeme) → rule_at room (forms.constant x) ts ≡ rule_at 0 (forms.constant x) ts
constant_rule x room ts = sym (constant_any x room ts)

pub prefix_fits : (m : g.Mode) (o : UnaryOperator) (room : ℕ) (ts : List Lexeme) → next language ts ≡ unary_class o → nat_le 1 room ≡ true → rule_at room (g.rule (g.Level m g.Prefix)) ts ≡ rule_at room (unary m o) ts
prefix_fits m o room ts e h = prefix_unary m o room ts e ∙ rw h refl

pub prefix_high : (m : g.Mode) (o : UnaryOperator) (room : ℕ) (ts : List Lexeme) → next language ts ≡ unary_class o → nat_le 1 room ≡ false → rule_at room (g.rule (g.Level m g.Prefix)) ts ≡ Err (TooDeep, ts)
prefix_high m o room ts e h = prefix_unary m o room ts e ∙ rw h refl

pub postfix_plus : (m : g.Mode) (room : ℕ) (ts : List Lexeme) → (next language ts == sign s.Not) ≡ false → (next language ts == sign s.Minus) ≡ false → rule_at room (g.rule (g.Level m g.Prefix)) ts ≡ on language (rule_at room (g.primary m) ts) (λ l k rest. linked (room + 1) room (arrow m) l k rest)
postfix_plus m room ts a b = let z : suc room ≡ room + 1 = omega arith in prefix_postfix m room ts a b ∙ ap (λ i. on language (rule_at room (g.primary m) ts) (λ l k rest. linked i room (arrow m) l k rest)) z

-- ---- owned sets

pub set_read : (room : ℕ) (ts : List Lexeme) → rule_at room g.owned_set ts ≡ on language (reads language room g.SetStart ts) (λ l k rest. climbed (room + 1) room l k rest)
unfolding read_rule read
set_read room ts =
    let b : suc room ≡ room + 1 = omega arith in
    go (reads language room g.SetStart ts) ∙ ap (λ i. on language (reads language room g.SetStart ts) (λ l k rest. climbed i room l k rest)) b
  where
    go : (out : Out language Exp) → on language (on language out (λ b i rest. Ok (b, i, rest))) (λ l k rest. climbed (suc room) room l k rest) ≡ on language out (λ l k rest. climbed (suc room) room l k rest)
    go (Ok p) = refl
    go (Err e) = refl

pub reads_rule : (room : ℕ) (n : g.N) (ts : List Lexeme) → room ≢ 0 → reads language room n ts ≡ rule_at (room - 1) (g.rule n) ts
unfolding reads
reads_rule zero n ts h = absurd (h refl)
reads_rule (suc room) n ts h = let a : suc room - 1 ≡ room = omega arith in ap (λ i. rule_at i (g.rule n) ts) (sym a)

pub reads_none : (room : ℕ) (n : g.N) (ts : List Lexeme) → room ≡ 0 → reads language room n ts ≡ Err (TooDeep, ts)
unfolding reads
reads_none room n ts e = ap (λ i. reads language i n ts) e
