-- Right sides: what is made of what they begin with.
use Rattle.std.proofs.Common.{◌≡◌, ℕ, max, true, false, cond, List, Some, Ok, Err, refl, ap, sym, ◌∙◌, arith}
use Rattle.std.specs.Prelude.{◌==◌}
use Rattle.ebnf.specs.Sets.{first, low, is_empty}
use Rattle.ebnf.specs.Derives.{next}
use Rattle.ebnf.specs.Reading.{Out, Fault, on, read, reads}
use Rattle.c_syntax.specs.declared.token.Span.{Span}
use Rattle.c_syntax.specs.declared.token.Sign.TheVariants as s
use Rattle.c_syntax.specs.Classes.{sign}
use Rattle.c_syntax.specs.Lexing.{Lexeme}
use Rattle.c_syntax.specs.Expressions as e
use Rattle.c_syntax.specs.Expressions.{Id, Exp, CallTree, Rhs}
use Rattle.c_syntax.specs.Language.{language}
use Rattle.c_syntax.specs.Grammar as g
use Rattle.reader_expressions.specs.Reading.{part}
use Rattle.reader_assignments.specs.Rows.{malloc_tail, called, called_or_done, name_or_call, value_or_call}
use Rattle.reader_assignments.proofs.Listed.{fits_zero}

-- what is read behind an expression or a cast
following : (room : ℕ) → g.Begun → ℕ → List Lexeme → Out language g.Pending
following room b i mid = on language (cond (g.is_cast b) (part room malloc_tail mid) (Ok ((λ x. g.Open (g.plain_of x)), 0, mid))) (λ f j rest. Ok (f b, max i j, rest))

started : (room : ℕ) (ts : List Lexeme) → part room g.cast_done ts ≡ on language (reads language room g.Start ts) (following room)
unfolding read following
started room ts = go (reads language room g.Start ts)
  where
    go : (out : Out language g.Begun) → on language (on language out (λ b i rest. Ok (b, i, rest))) (following room) ≡ on language out (following room)
    go (Ok r) = refl
    go (Err r) = refl

pub plain_read : (room : ℕ) (ts : List Lexeme) (x : Exp) (k : ℕ) (rest : List Lexeme) → reads language room g.Start ts ≡ Ok (g.Plain x, k, rest) → part room g.cast_done ts ≡ Ok (g.Open x, k, rest)
unfolding following
plain_read room ts x k rest e = let z : max k 0 ≡ k = omega arith in started room ts ∙ ap (λ o. on language o (following room)) e ∙ ap (λ i. Ok (g.Open x, i, rest)) z

pub cast_ok : (room : ℕ) (ts : List Lexeme) (x y : Id) (p : Span) (k j : ℕ) (mid rest : List Lexeme) → reads language room g.Start ts ≡ Ok (g.Cast x, k, mid) → part room malloc_tail mid ≡ Ok ((λ b. g.Done (e.Malloc (g.cast_name b) p y)), j, rest) → part room g.cast_done ts ≡ Ok (g.Done (e.Malloc (Some x) p y), max k j, rest)
unfolding following
cast_ok room ts x y p k j mid rest q r = started room ts ∙ ap (λ o. on language o (following room)) q ∙ ap (λ o. on language o (λ f j rest. Ok (f (g.Cast x), max k j, rest))) r

pub cast_err : (room : ℕ) (ts : List Lexeme) (x : Id) (k : ℕ) (mid : List Lexeme) (f : Fault × List Lexeme) → reads language room g.Start ts ≡ Ok (g.Cast x, k, mid) → part room malloc_tail mid ≡ Err f → part room g.cast_done ts ≡ Err f
unfolding following
cast_err room ts x k mid f q r = started room ts ∙ ap (λ o. on language o (following room)) q ∙ ap (λ o. on language o (λ f j rest. Ok (f (g.Cast x), max k j, rest))) r

pub none_read : (room : ℕ) (ts : List Lexeme) (f : Fault × List Lexeme) → reads language room g.Start ts ≡ Err f → part room g.cast_done ts ≡ Err f
none_read room ts f e = started room ts ∙ ap (λ o. on language o (following room)) e

-- ---- calls

called_first : (room : ℕ) (ts : List Lexeme) → (next language ts == sign s.Open) ≡ true → part room called_or_done ts ≡ part room called ts
unfolding read first low is_empty
called_first room ts h = rw h (rw (fits_zero room) refl)

abbrev call_end : (Id → CallTree) → ℕ → List Lexeme → Out language (g.Pending → Rhs)
call_end f i rest = Ok ((λ x. e.Called (f (g.callee x))), max i 0, rest)

called_in : (room : ℕ) (ts : List Lexeme) → part room called ts ≡ on language (part room g.call_tail ts) call_end
unfolding read
called_in room ts = refl

-- what is made of a name in front
abbrev with_name : Id → ℕ → Out language (g.Pending → Rhs) → Out language Rhs
with_name x k out = on language out (λ f i rest. Ok (f (g.Open (e.Name x)), max k i, rest))

pub called_read : (room : ℕ) (x : Id) (k : ℕ) (ts : List Lexeme) (f : Id → CallTree) (i : ℕ) (rest : List Lexeme) → (next language ts == sign s.Open) ≡ true → part room g.call_tail ts ≡ Ok (f, i, rest) → name_or_call room x k ts ≡ Ok (e.Called (f x), max k i, rest)
called_read room x k ts f i rest h q = let z : max k (max i 0) ≡ max k i = omega arith in ap (with_name x k) (called_first room ts h ∙ called_in room ts ∙ ap (λ o. on language o call_end) q) ∙ ap (λ j. Ok (e.Called (f x), j, rest)) z

pub called_err : (room : ℕ) (x : Id) (k : ℕ) (ts : List Lexeme) (f : Fault × List Lexeme) → (next language ts == sign s.Open) ≡ true → part room g.call_tail ts ≡ Err f → name_or_call room x k ts ≡ Err f
called_err room x k ts f h e = ap (with_name x k) (called_first room ts h ∙ called_in room ts ∙ ap (λ o. on language o call_end) e)

pub uncalled_read : (room : ℕ) (x : Id) (k : ℕ) (ts : List Lexeme) → (next language ts == sign s.Open) ≡ false → name_or_call room x k ts ≡ Ok (e.Value (e.Name x), k, ts)
unfolding read first low is_empty
uncalled_read room x k ts h = let z : max k 0 ≡ k = omega arith in rw h (rw (fits_zero room) (ap (λ i. Ok (e.Value (e.Name x), i, ts)) z))

-- ---- what may be a call

abbrev pending_end : (room : ℕ) → g.Pending → ℕ → List Lexeme → Out language Rhs
pending_end room b i mid = on language (cond (g.is_bare b) (part room called_or_done mid) (Ok (g.done, 0, mid))) (λ f j rest. Ok (f b, max i j, rest))

value_in : (room : ℕ) (ts : List Lexeme) → part room value_or_call ts ≡ on language (part room g.cast_done ts) (pending_end room)
unfolding read
value_in room ts = refl

pub pending_err : (room : ℕ) (ts : List Lexeme) (f : Fault × List Lexeme) → part room g.cast_done ts ≡ Err f → part room value_or_call ts ≡ Err f
pending_err room ts f e = value_in room ts ∙ ap (λ o. on language o (pending_end room)) e

pub done_read : (room : ℕ) (ts : List Lexeme) (x : Rhs) (k : ℕ) (rest : List Lexeme) → part room g.cast_done ts ≡ Ok (g.Done x, k, rest) → part room value_or_call ts ≡ Ok (x, k, rest)
done_read room ts x k rest e = let z : max k 0 ≡ k = omega arith in value_in room ts ∙ ap (λ o. on language o (pending_end room)) e ∙ ap (λ i. Ok (x, i, rest)) z

pub name_read : (room : ℕ) (ts : List Lexeme) (y : Exp) (x : Id) (k : ℕ) (rest : List Lexeme) → part room g.cast_done ts ≡ Ok (g.Open y, k, rest) → y ≡ e.Name x → part room value_or_call ts ≡ name_or_call room x k rest
name_read room ts y x k rest e q = value_in room ts ∙ ap (λ o. on language o (pending_end room)) (e ∙ ap (λ v. Ok (g.Open v, k, rest)) q)

pub open_read : (room : ℕ) (ts : List Lexeme) (y x : Exp) (k : ℕ) (rest : List Lexeme) → part room g.cast_done ts ≡ Ok (g.Open y, k, rest) → x ≡ y → g.is_bare (g.Open y) ≡ false → part room value_or_call ts ≡ Ok (e.Value x, k, rest)
open_read room ts y x k rest f q n = let z : max k 0 ≡ k = omega arith in value_in room ts ∙ ap (λ o. on language o (pending_end room)) f ∙ rw n (ap (λ i. Ok (e.Value y, i, rest)) z ∙ ap (λ v. Ok (e.Value v, k, rest)) (sym q))
