-- A word alone, whose class is known by an equation.
use Rattle.std.proofs.Common.{◌≡◌, ℕ, suc, List, Result, Ok, Err, refl, ap, sym, ◌∙◌}
use Rattle.ebnf.specs.Reading.{Out, on, take, read, read_rule}
use Rattle.c_syntax.specs.declared.tree.Constant.{Constant}
use Rattle.c_syntax.specs.declared.tree.Status.{Status}
use Rattle.c_syntax.specs.declared.token.Span.{Span}
use Rattle.c_syntax.specs.Lexing.{Lexeme}
use Rattle.c_syntax.specs.Language.{language}
use Rattle.c_syntax.specs.Expressions as e
use Rattle.c_syntax.specs.Expressions.{Exp}
use Rattle.c_syntax.specs.Grammar as g
use Rattle.reader_expressions.specs.Forms as forms
use Rattle.reader_expressions.specs.Reading.{Gives, part, rule_at, one_token}
use Rattle.reader_expressions.specs.declared.reading.Parsed.{Parsed}
use Rattle.reader_expressions.specs.declared.reading.ReadFault.{ReadFault}
use Rattle.reader_expressions.proofs.Outcomes.{same_gives}

word_at : (c : ℕ) (x : Constant) (ts : List Lexeme) → rule_at 0 (g.constant c x) ts ≡ on language (one_token c 0 (λ y. y.place) ts) (λ p i rest. Ok (e.Word p x, suc i, rest))
unfolding read_rule read
word_at c x ts = go (take language c ts)
  where
    go : (out : Out language Lexeme) → on language {A = Exp} {B = Exp} (on language out (λ y i rest. Ok (e.Word y.place x, 0, rest))) (λ a i rest. Ok (a, suc i, rest)) ≡ on language {A = Span} {B = Exp} (on language out (λ y i rest. Ok (y.place, 0, rest))) (λ p i rest. Ok (e.Word p x, suc i, rest))
    go (Ok p) = refl
    go (Err q) = refl

pub word_read : (x : Constant) (ts : List Lexeme) {d : ℕ} → d ≡ forms.constant_class x → rule_at 0 (forms.constant x) ts ≡ on language (one_token d 0 (λ y. y.place) ts) (λ p i rest. Ok (e.Word p x, suc i, rest))
word_read x ts {d} is = ap (λ c. rule_at 0 (g.constant c x) ts) (sym is) ∙ word_at d x ts

pub word_ok : (x : Constant) (ts rest : List Lexeme) (p : Span) (k : ℕ) {d : ℕ} → d ≡ forms.constant_class x → one_token d 0 (λ y. y.place) ts ≡ Ok (p, k, rest) → k ≡ 0 → rule_at 0 (forms.constant x) ts ≡ Ok (e.Word p x, 1, rest)
word_ok x ts rest p k is read flat = word_read x ts is ∙ ap (λ o. on language o (λ p i rest. Ok (e.Word p x, suc i, rest))) read ∙ ap (λ i. Ok (e.Word p x, suc i, rest)) flat

pub status_read : (c : ℕ) (x : Status) (ts : List Lexeme) → part 0 (g.status c x) ts ≡ on language (one_token c 0 (λ y. y.place) ts) (λ p i rest. Ok ((λ o l. e.State o l p x), i, rest))
unfolding read
status_read c x ts = go (take language c ts)
  where
    go : (out : Out language Lexeme) → on language {A = Lexeme} {B = Span → Exp → Exp} out (λ y i rest. Ok ((λ o l. e.State o l y.place x), 0, rest)) ≡ on language {A = Span} {B = Span → Exp → Exp} (on language out (λ y i rest. Ok (y.place, 0, rest))) (λ p i rest. Ok ((λ o l. e.State o l p x), i, rest))
    go (Ok p) = refl
    go (Err q) = refl

pub status_ok : (c : ℕ) (x : Status) (ts rest : List Lexeme) (p : Span) (k : ℕ) → one_token c 0 (λ y. y.place) ts ≡ Ok (p, k, rest) → k ≡ 0 → part 0 (g.status c x) ts ≡ Ok ((λ o l. e.State o l p x), 0, rest)
status_ok c x ts rest p k read flat = status_read c x ts ∙ ap (λ o. on language o (λ p i rest. Ok ((λ o l. e.State o l p x), i, rest))) read ∙ ap (λ i. Ok ((λ o l. e.State o l p x), i, rest)) flat

-- a token that counts as so high
pub token_high : (c k : ℕ) (ts : List Lexeme) → one_token c k (λ y. y.place) ts ≡ on language (one_token c 0 (λ y. y.place) ts) (λ p i rest. Ok (p, k, rest))
token_high c k ts = go (take language c ts)
  where
    go : (out : Out language Lexeme) → on language {A = Lexeme} {B = Span} out (λ y i rest. Ok (y.place, k, rest)) ≡ on language {A = Span} {B = Span} (on language out (λ y i rest. Ok (y.place, 0, rest))) (λ p i rest. Ok (p, k, rest))
    go (Ok p) = refl
    go (Err q) = refl

pub high_ok : (c k : ℕ) (ts rest : List Lexeme) (p : Span) (i : ℕ) → one_token c 0 (λ y. y.place) ts ≡ Ok (p, i, rest) → one_token c k (λ y. y.place) ts ≡ Ok (p, k, rest)
high_ok c k ts rest p i read = token_high c k ts ∙ ap (λ o. on language o (λ p i rest. Ok (p, k, rest))) read

abbrev pub place : Span → Span
place p = p

-- a word whose class is known by an equation
pub same_word : {c d : ℕ} (r : Result (Parsed Span) ReadFault) (ts : List Lexeme) → d ≡ c → Gives place r (one_token d 0 (λ y. y.place) ts) → Gives place r (one_token c 0 (λ y. y.place) ts)
same_word r ts is g = same_gives place r _ _ (ap (λ k. one_token k 0 (λ y. y.place) ts) (sym is)) g
