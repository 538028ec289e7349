-- Which tokens begin a whole property.
use Rattle.std.proofs.Common.{◌≡◌, ◌≢◌, ⊎_elim, ℕ, Bool, true, false, List, [], ◌∷◌, ◌++◌, map, refl}
use Rattle.std.specs.Prelude.{◌==◌}
use Rattle.ebnf.specs.Sets.{has, first}
use Rattle.ebnf.specs.Tools.{true_not_false, or_cases, eq_true, has_left, has_either}
use Rattle.c_syntax.specs.declared.tree.Constant.TheVariants as constants
use Rattle.c_syntax.specs.declared.tree.SpecFunction.TheVariants as functions
use Rattle.c_syntax.specs.declared.tree.ListWord.TheVariants as lists
use Rattle.c_syntax.specs.declared.tree.Quantifier.TheVariants as quantifiers
use Rattle.c_syntax.specs.Language.{language}
use Rattle.c_syntax.specs.Grammar as g
use Rattle.reader_expressions.specs.declared.forms.Pair.TheVariants as pairs
use Rattle.reader_expressions.specs.declared.forms.Form.{Form}
use Rattle.reader_expressions.specs.declared.forms.Form.TheVariants as f
use Rattle.reader_expressions.specs.Forms.{class_of}

-- all forms of a word
abbrev forms : List Form
forms = f.Constant constants.True ∷ f.Constant constants.False ∷ f.Constant constants.This ∷ f.Constant constants.Me ∷ f.Constant constants.Result ∷ f.Function functions.Old ∷ f.Function functions.Unchanged ∷ f.Function functions.Wrapped ∷ f.Function functions.WrappedUnclaimed ∷ f.Function functions.Mutable ∷ f.Function functions.Fresh ∷ f.Several lists.Mine ∷ f.Several lists.ClaimsOnly ∷ f.Pair pairs.ClaimsObject ∷ f.Pair pairs.Claims ∷ f.Approval ∷ f.Quantifier quantifiers.ForAll ∷ f.Quantifier quantifiers.Exists ∷ []

-- what begins code, and then the forms' words
all_begin : first language g.whole_spec ≡ first language g.code ++ map class_of forms
unfolding first
all_begin = refl

-- what begins code begins a property
pub code_begins : (c : ℕ) → has (first language g.code) c ≡ true → has (first language g.whole_spec) c ≡ true
code_begins c h = rw all_begin (has_left (first language g.code) (map class_of forms) c h)

-- a form's word begins one
pub form_begins : (x : Form) (c : ℕ) → c ≡ class_of x → has (first language g.whole_spec) c ≡ true
unfolding first
form_begins (f.Constant constants.True) c e = rw e refl
form_begins (f.Constant constants.False) c e = rw e refl
form_begins (f.Constant constants.This) c e = rw e refl
form_begins (f.Constant constants.Me) c e = rw e refl
form_begins (f.Constant constants.Result) c e = rw e refl
form_begins (f.Function functions.Old) c e = rw e refl
form_begins (f.Function functions.Unchanged) c e = rw e refl
form_begins (f.Function functions.Wrapped) c e = rw e refl
form_begins (f.Function functions.WrappedUnclaimed) c e = rw e refl
form_begins (f.Function functions.Mutable) c e = rw e refl
form_begins (f.Function functions.Fresh) c e = rw e refl
form_begins (f.Several lists.Mine) c e = rw e refl
form_begins (f.Several lists.ClaimsOnly) c e = rw e refl
form_begins (f.Pair pairs.ClaimsObject) c e = rw e refl
form_begins (f.Pair pairs.Claims) c e = rw e refl
form_begins f.Approval c e = rw e refl
form_begins (f.Quantifier quantifiers.ForAll) c e = rw e refl
form_begins (f.Quantifier quantifiers.Exists) c e = rw e refl

-- a class in the list is of one of its forms
one_of : (xs : List Form) (c : ℕ) → ((x : Form) → c ≢ class_of x) → has (map class_of xs) c ≡ true → ⊥
one_of [] c none h = true_not_false _ h refl
one_of (x ∷ xs) c none h = ⊎_elim (λ e. none x (eq_true c (class_of x) e)) (one_of xs c none) (or_cases (c == class_of x) (has (map class_of xs) c) h)

-- nothing else does
pub none_begins : (c : ℕ) → has (first language g.code) c ≡ false → ((x : Form) → c ≢ class_of x) → has (first language g.whole_spec) c ≡ false
none_begins c h none = go (has (first language g.whole_spec) c) refl
  where
    go : (x : Bool) → has (first language g.whole_spec) c ≡ x → x ≡ false
    go true e = absurd (⊎_elim (λ a. true_not_false _ a h) (one_of forms c none) (has_either (first language g.code) (map class_of forms) c (rw all_begin at e)))
    go false e = refl
