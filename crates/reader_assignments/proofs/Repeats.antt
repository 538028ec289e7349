-- Repetitions, one after the other, up to the answer of the whole.
use Rattle.std.proofs.Common.{◌≡◌, ℕ, ◌<◌, max, Bool, true, false, List, [], ◌∷◌, length, Ok, Err, refl, ap, sym, ◌∙◌, arith}
use Rattle.std.specs.Prelude.{◌==◌, ◌||◌}
use Rattle.std.proofs.lemmas.List.{length-map}
use Rattle.ebnf.specs.Rules.{many}
use Rattle.ebnf.specs.Sets.{has, first, more, is_empty, is_predictive}
use Rattle.ebnf.specs.Derives.{next}
use Rattle.ebnf.specs.Reading.{Out, on, read}
use Rattle.c_syntax.specs.declared.token.Token.{Token}
use Rattle.c_syntax.specs.Lexing.{Lexeme, lexeme}
use Rattle.c_syntax.specs.Language.{language}
use Rattle.c_syntax.specs.Grammar.{P}
use Rattle.reader_expressions.specs.declared.reading.ReadFault.{ReadFault}
use Rattle.reader_expressions.specs.Reading.{Gives, lexemes, part, entered, extended, through}
use Rattle.reader_expressions.specs.Lists.{repeated}
use Rattle.c_syntax.specs.declared.token.Sign.TheVariants as s
use Rattle.c_syntax.specs.Classes.{sign}
use Rattle.reader_assignments.specs.Rows.{ghost_argument, further}
use Rattle.reader_expressions.proofs.Takes.{takes}
use Rattle.reader_expressions.proofs.Many as many

module _ {A B : Type 0} (room : ℕ) (p : P B) (f : List B → A) where
  abbrev pub finish : List B → ℕ → List Lexeme → Out language A
  finish bs i rest = Ok (f bs, i, rest)

  -- those found, those behind them, and what is made of all
  abbrev pub going : List B → ℕ → List Lexeme → Out language A
  going xs h ts = on language (through xs h (repeated room p ts)) finish

  pub start : (ts : List Lexeme) → going [] 0 ts ≡ part room (many p f) ts
  unfolding read
  start ts = go (repeated room p ts)
    where
      go : (out : Out language (List B)) → on language (through [] 0 out) finish ≡ on language out finish
      go (Ok x) = let z : max 0 x.1 ≡ x.1 = omega arith in ap (λ h. Ok (f x.0, h, x.2)) z
      go (Err e) = refl

  module _ (fine : is_predictive language p ≡ true) (some : is_empty language p ≡ false) where
    less : (ts : List Lexeme) (b : B) (h : ℕ) (rest : List Lexeme) → entered room p ts ≡ Ok (b, h, rest) → length rest < length ts
    less = takes room p fine some

    pub stop : (xs : List B) (h : ℕ) (ts : List Lexeme) (out : Out language A) → has (first language p) (next language ts) ≡ false → going xs h ts ≡ out → out ≡ Ok (f xs, h, ts)
    stop xs h ts out e same = sym same ∙ ap (λ o. on language o finish) (many.stop (entered room p) (first language p) less xs h ts e)

    pub goes : (xs : List B) (h : ℕ) (ts : List Lexeme) (ys : List B) (k : ℕ) (mid : List Lexeme) (out : Out language A) → has (first language p) (next language ts) ≡ true → extended xs h (entered room p ts) ≡ Ok (ys, k, mid) → going xs h ts ≡ out → going ys k mid ≡ out
    goes xs h ts ys k mid out e q same = sym (ap (λ o. on language o finish) (many.goes (entered room p) (first language p) less xs h ts ys k mid e q)) ∙ same

    pub fails : {X Y : Type 0} (v : X → List B) (w : Y → A) (xs : List B) (h : ℕ) (ts : List Lexeme) (e : ReadFault) (out : Out language A) → has (first language p) (next language ts) ≡ true → Gives {X = X} v (Err e) (extended xs h (entered room p ts)) → going xs h ts ≡ out → Gives {X = Y} w (Err e) out
    fails v w xs h ts e out q g same = many.fails (entered room p) (first language p) less v w xs h ts e out finish q g same

    pub shorter : (xs : List B) (h : ℕ) (ts us : List Token) (ys : List B) (k : ℕ) → extended xs h (entered room p (lexemes ts)) ≡ Ok (ys, k, lexemes us) → length us < length ts
    shorter xs h ts us ys k q = let n = many.shorter (entered room p) (first language p) less xs h (lexemes ts) ys k (lexemes us) q in let a = length-map ts lexeme in let b = length-map us lexeme in omega (arith, n, a, b)

-- the test of a single class
pub one_class : (d c : ℕ) → has (d ∷ []) c ≡ (c == d)
one_class d c = go (c == d)
  where
    go : (b : Bool) → (b || false) ≡ b
    go true = refl
    go false = refl

pub begins_ghost : (c : ℕ) → has (first language ghost_argument) c ≡ (c == sign s.Annotation)
unfolding first
begins_ghost c = one_class (sign s.Annotation) c

pub fine_ghost : is_predictive language ghost_argument ≡ true
unfolding is_predictive
fine_ghost = refl

pub some_ghost : is_empty language ghost_argument ≡ false
unfolding is_empty
some_ghost = refl

pub begins_further : (c : ℕ) → has (first language further) c ≡ (c == sign s.Comma)
unfolding first is_empty
begins_further c = one_class (sign s.Comma) c

pub fine_further : is_predictive language further ≡ true
unfolding is_predictive more first is_empty
fine_further = refl

pub some_further : is_empty language further ≡ false
unfolding is_empty
some_further = refl
