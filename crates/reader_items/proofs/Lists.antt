-- Lists with commas between, and repetitions behind a first item, up to the answer of the whole.
use Rattle.std.proofs.Common.{◌≡◌, ℕ, ◌<◌, true, false, List, [], ◌∷◌, length, Ok, Err, refl, ap, sym, ◌∙◌, arith}
use Rattle.std.specs.Prelude.{◌==◌}
use Rattle.std.proofs.lemmas.List.{length-map}
use Rattle.ebnf.specs.Sets.{first, is_empty, is_predictive}
use Rattle.ebnf.specs.Derives.{next}
use Rattle.ebnf.specs.Reading.{Out, on}
use Rattle.c_syntax.specs.declared.token.Token.{Token}
use Rattle.c_syntax.specs.declared.token.Sign.TheVariants as s
use Rattle.c_syntax.specs.Classes.{sign}
use Rattle.c_syntax.specs.Lexing.{Lexeme, lexeme}
use Rattle.c_syntax.specs.Language.{language}
use Rattle.c_syntax.specs.Grammar as g
use Rattle.c_syntax.specs.Grammar.{P}
use Rattle.reader_expressions.specs.declared.reading.ReadFault.{ReadFault}
use Rattle.reader_expressions.specs.Reading.{Gives, lexemes, part, entered, extended}
use Rattle.reader_expressions.specs.Lists.{behind_comma, listed}
use Rattle.reader_expressions.proofs.Takes.{takes}
use Rattle.reader_expressions.proofs.Commas.{list_read, begins_comma}
use Rattle.reader_expressions.proofs.Many as many
use Rattle.reader_items.specs.Rows.{alone}

-- a list of one, and what is read behind it
pub from_one : {A B : Type 0} (out : Out language A) (more : List A → ℕ → List Lexeme → Out language B) → on language (alone out) more ≡ on language out (λ x h rest. more (x ∷ []) h rest)
from_one (Ok p) more = refl
from_one (Err e) more = refl

module _ {B : Type 0} (room : ℕ) (p : P B) where
  -- a list is its first item, and then those behind commas
  pub whole_list : (ts : List Lexeme) → part room (g.list p) ts ≡ on language (alone (part room p ts)) (λ xs h rest. listed room p xs h rest)
  whole_list ts = list_read room p ts ∙ sym (from_one (part room p ts) (λ xs h rest. listed room p xs h rest))

  -- where the first item ends, those behind commas are left
  pub start : (ts : List Lexeme) (xs : List B) (h : ℕ) (mid : List Lexeme) → alone (part room p ts) ≡ Ok (xs, h, mid) → listed room p xs h mid ≡ part room (g.list p) ts
  start ts xs h mid e = sym (whole_list ts ∙ ap (λ o. on language o (λ ys k rest. listed room p ys k rest)) e)

  module _ (fine : is_predictive language (behind_comma p) ≡ true) where
    -- a comma and an item aren't empty
    some : is_empty language (behind_comma p) ≡ false
    unfolding is_empty
    some = refl

    -- they take a token
    less : (ts : List Lexeme) (b : B) (h : ℕ) (rest : List Lexeme) → entered room (behind_comma p) ts ≡ Ok (b, h, rest) → length rest < length ts
    less = takes room (behind_comma p) fine some

    -- no comma follows
    pub stop : (xs : List B) (h : ℕ) (ts : List Lexeme) (out : Out language (List B)) → (next language ts == sign s.Comma) ≡ false → listed room p xs h ts ≡ out → out ≡ Ok (xs, h, ts)
    stop xs h ts out e same = sym same ∙ many.stop (entered room (behind_comma p)) (first language (behind_comma p)) less xs h ts (begins_comma room p _ ∙ e)

    -- one item more
    pub goes : (xs : List B) (h : ℕ) (ts : List Lexeme) (ys : List B) (k : ℕ) (mid : List Lexeme) (out : Out language (List B)) → (next language ts == sign s.Comma) ≡ true → extended xs h (entered room (behind_comma p) ts) ≡ Ok (ys, k, mid) → listed room p xs h ts ≡ out → listed room p ys k mid ≡ out
    goes xs h ts ys k mid out e q same = sym (many.goes (entered room (behind_comma p)) (first language (behind_comma p)) less xs h ts ys k mid (begins_comma room p _ ∙ e) q) ∙ same

    -- a fault of one item is one of the list
    pub fails : {X Y : Type 0} (v : X → List B) (w : Y → List B) (xs : List B) (h : ℕ) (ts : List Lexeme) (e : ReadFault) (out : Out language (List B)) → (next language ts == sign s.Comma) ≡ true → Gives {X = X} v (Err e) (extended xs h (entered room (behind_comma p) ts)) → listed room p xs h ts ≡ out → Gives {X = Y} w (Err e) out
    fails v w xs h ts e out q g same = many.fails_at (entered room (behind_comma p)) (first language (behind_comma p)) less v w xs h ts e out (begins_comma room p _ ∙ q) g same

    -- one item more leaves fewer tokens
    pub shorter : (xs : List B) (h : ℕ) (ts us : List Token) (ys : List B) (k : ℕ) → extended xs h (entered room (behind_comma p) (lexemes ts)) ≡ Ok (ys, k, lexemes us) → length us < length ts
    shorter xs h ts us ys k q = let n = many.shorter (entered room (behind_comma p)) (first language (behind_comma p)) less xs h (lexemes ts) ys k (lexemes us) q in let a = length-map ts lexeme in let b = length-map us lexeme in omega (arith, n, a, b)
