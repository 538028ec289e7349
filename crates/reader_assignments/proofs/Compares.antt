-- Interlocked calls, and a comparison behind.
use Rattle.std.proofs.Common.{◌≡◌, ◌≤◌, ℕ, zero, suc, max, nat_le, Bool, true, false, cond, List, Option, None, Some, Ok, Err, refl, ap, ◌∙◌}
use Rattle.std.specs.Prelude.{◌==◌, ◌||◌}
use Rattle.ebnf.specs.Sets.{has, first, low, is_empty}
use Rattle.ebnf.specs.Derives.{next}
use Rattle.ebnf.specs.Tools.{true_le, true_not_false}
use Rattle.ebnf.specs.Reading.{Out, Fault, TooDeep, on, read, read_rule, reads, links}
use Rattle.c_syntax.specs.declared.token.Sign.TheVariants as s
use Rattle.c_syntax.specs.Classes.{sign}
use Rattle.c_syntax.specs.Lexing.{Lexeme}
use Rattle.c_syntax.specs.Expressions.{Inter, Comparison}
use Rattle.c_syntax.specs.Language.{language}
use Rattle.c_syntax.specs.Grammar as g
use Rattle.reader_expressions.specs.Reading.{part, rule_at}
use Rattle.reader_assignments.specs.Rows.{compared, compare, locked}

pub equal : (room : ℕ) (ts : List Lexeme) → 1 ≤ room → (next language ts == sign s.Equal) ≡ true → part room g.comparison ts ≡ part room (compared s.Equal true) ts
unfolding read first low is_empty
equal room ts le h = rw h (rw (true_le 1 room le) refl)

other : (a b : Bool) → a ≡ false → (a || (b || false)) ≡ true → b ≡ true
other true b e f = absurd (true_not_false _ refl e)
other false true e f = refl
other false false e f = f

pub unequal : (room : ℕ) (ts : List Lexeme) → 1 ≤ room → (next language ts == sign s.Equal) ≡ false → has (first language g.comparison) (next language ts) ≡ true → part room g.comparison ts ≡ part room (compared s.NotEqual false) ts
unfolding read first low is_empty
unequal room ts le h k = rw h (rw (other (next language ts == sign s.Equal) (next language ts == sign s.NotEqual) h k) (rw (true_le 1 room le) refl))

pub low_comparison : low language g.comparison ≡ 1
unfolding low
low_comparison = refl

abbrev following : (n room : ℕ) → Inter × Option Comparison → ℕ → List Lexeme → Out language (Inter × Option Comparison)
following n room x k ts = links language (reads language room) room n g.not_compared g.comparison g.compared_with x k ts

-- there is no second comparison
once : (n room : ℕ) (x : Inter) (y : Comparison) (k : ℕ) (ts : List Lexeme) → following n room (x, Some y) k ts ≡ Ok ((x, Some y), k, ts)
unfolding links
once zero room x y k ts = refl
once (suc n) room x y k ts = refl

compare_links : (room : ℕ) (x : Inter) (k : ℕ) (ts : List Lexeme) → following (suc room) room (x, None) k ts ≡ compare room x k ts
unfolding links low
compare_links room x k ts = go (has (first language g.comparison) (next language ts)) (nat_le (max k 1) room) (part room g.comparison ts)
  where
    go : (a b : Bool) (out : Out language Comparison) → cond a (cond b (on language out (λ y i rest. following room room (x, Some y) (suc (max k i)) rest)) (Err (TooDeep, ts))) (Ok ((x, None), k, ts)) ≡ cond a (cond b (on language out (λ y i rest. Ok ((x, Some y), suc (max k i), rest))) (Err (TooDeep, ts))) (Ok ((x, None), k, ts))
    go true true (Ok p) = once room room x p.0 (suc (max k p.1)) p.2
    go true true (Err e) = refl
    go true false out = refl
    go false b out = refl

read_call : (room : ℕ) (ts : List Lexeme) → rule_at room g.interlocked_call ts ≡ on language (rule_at room locked ts) (following (suc room) room)
unfolding read_rule
read_call room ts = refl

pub call_ok : (room : ℕ) (ts : List Lexeme) (x : Inter) (k : ℕ) (rest : List Lexeme) → rule_at room locked ts ≡ Ok ((x, None), k, rest) → rule_at room g.interlocked_call ts ≡ compare room x k rest
call_ok room ts x k rest e = read_call room ts ∙ ap (λ o. on language o (following (suc room) room)) e ∙ compare_links room x k rest

pub call_err : (room : ℕ) (ts : List Lexeme) (e : Fault × List Lexeme) → rule_at room locked ts ≡ Err e → rule_at room g.interlocked_call ts ≡ Err e
call_err room ts e q = read_call room ts ∙ ap (λ o. on language o (following (suc room) room)) q
