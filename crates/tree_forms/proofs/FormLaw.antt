-- A text's numbers are of their types, so its items are in form.
use Rattle.std.proofs.Common.{◌≡◌, ℕ, Bool, true, false, List, [], ◌∷◌, ◌++◌, Option, Some, None, refl, ap, sym, subst}
use Rattle.std.specs.Prelude.{pos, int_le, cond}
use Rattle.int_ranges.specs.Ranges.{greatest_of}
use Rattle.int_ranges.specs.declared.ctype.CType.{CType}
use Rattle.c_syntax.specs.Numbers.{first_with}
use Rattle.c_syntax.specs.Tokens.{Word, Number, IsToken}
use Rattle.c_syntax.specs.Lexing.{Position, Lexeme, Reaches, here, skip, token}
use Rattle.tree_forms.specs.Law.{FormLaw}
use Rattle.tree_forms.proofs.FormRows.{is_typed, Typed, All_typed, source_form}

abbrev or_type : CType → Option CType → CType
or_type ty None = ty
or_type ty (Some other) = other

-- a number's type is the first that has its value
first_fits : (value : ℕ) (tys : List CType) (ty : CType) → first_with value tys ≡ Some ty → int_le (pos value) (greatest_of ty) ≡ true
first_fits value [] ty h = absurd cc
first_fits value (first ∷ tys) ty h = by_test (int_le (pos value) (greatest_of first)) refl h (first_fits value tys ty)
  where
    by_test : (b : Bool) → int_le (pos value) (greatest_of first) ≡ b → cond b (Some first) (first_with value tys) ≡ Some ty
        → (first_with value tys ≡ Some ty → int_le (pos value) (greatest_of ty) ≡ true) → int_le (pos value) (greatest_of ty) ≡ true
    by_test true e k more = subst (λ c. int_le (pos value) (greatest_of c) ≡ true) (ap (or_type first) k) e
    by_test false e k more = more k

token_typed : (w : Word) (text : List ℕ) → IsToken w text → is_typed w ≡ true
token_typed (Number n ty) text h = first_fits n _ ty h.type
token_typed w text h = refl

reached_typed : {p q : Position} {text rest : List ℕ} {ts : List Lexeme} → Reaches p text ts q rest → All_typed ts
reached_typed here = tt
reached_typed (skip s r) = reached_typed r
reached_typed (token h r) = (token_typed _ _ h.is, reached_typed r)

one_more : (ts : List Lexeme) (x : Lexeme) → All_typed ts → Typed x → All_typed (ts ++ x ∷ [])
one_more [] x o h = (h, tt)
one_more (y ∷ ts) x o h = (o.0, one_more ts x o.1 h)

-- the items of a text are in form
pub form_law : FormLaw
form_law bytes items end x = source_form x.tokens items x.height (subst All_typed (sym x.lexes.last) (one_more x.lexes.before _ (reached_typed x.lexes.reaches) refl)) x.is
