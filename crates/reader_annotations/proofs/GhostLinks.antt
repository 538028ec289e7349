-- Arrows of ghost code, one by one.
use Rattle.std.proofs.Common.{◌≡◌, ◌≤◌, ◌+◌, ◌-◌, ℕ, zero, suc, max, nat_le, Bool, true, false, cond, List, [], ◌∷◌, Result, Ok, Err, refl, ap, sym, ◌∙◌, subst, arith}
use Rattle.std.specs.Prelude.{◌==◌, ◌&&◌, ◌||◌, not}
use Rattle.ebnf.specs.Sets.{has, first, low, is_empty}
use Rattle.ebnf.specs.Derives.{next}
use Rattle.ebnf.specs.Reading.{Out, Fault, TooDeep, on, read, read_rule, reads, links}
use Rattle.c_syntax.specs.declared.token.Sign.TheVariants as s
use Rattle.c_syntax.specs.Classes.{sign}
use Rattle.c_syntax.specs.Lexing.{Lexeme}
use Rattle.c_syntax.specs.Expressions as e
use Rattle.c_syntax.specs.Expressions.{Exp}
use Rattle.c_syntax.specs.Language.{language}
use Rattle.c_syntax.specs.Grammar as g
use Rattle.reader_expressions.specs.declared.reading.ReadFault.{ReadFault}
use Rattle.reader_expressions.specs.declared.reading.ReadFault.TheVariants as f
use Rattle.reader_expressions.specs.Reading.{Gives, part, rule_at}
use Rattle.reader_expressions.specs.Levels.{joined, one_link}
use Rattle.reader_annotations.specs.Rows.{goes_on, linked}

pub no_owns : (x : Exp) → g.is_no_owns x ≡ not (g.is_owns x)
no_owns (e.Owns o l w) = refl
no_owns (e.Number a b c) = refl
no_owns (e.Name a) = refl
no_owns (e.Null a) = refl
no_owns (e.Word a b) = refl
no_owns (e.Group a b) = refl
no_owns (e.Field a b c) = refl
no_owns (e.State a b c d) = refl
no_owns (e.Unary a b c) = refl
no_owns (e.Binary a b c d) = refl
no_owns (e.Conditional a b c d) = refl
no_owns (e.Apply a b c) = refl
no_owns (e.Several a b c) = refl
no_owns (e.ClaimsObject a b c) = refl
no_owns (e.Claims a b c) = refl
no_owns (e.Approves a b) = refl
no_owns (e.Quantified a b c d h) = refl

or_false : (b : Bool) → (b || false) ≡ b
or_false true = refl
or_false false = refl

abbrev following : ℕ → ℕ → Exp → ℕ → List Lexeme → Out language Exp
following n room l k ts = on language (one_link room g.ghost_arrow l k ts) (linked n room)

module _ (room : ℕ) where
  pub none : (n : ℕ) (l : Exp) (k : ℕ) (ts : List Lexeme) → goes_on l ts ≡ false → linked n room l k ts ≡ Ok (l, k, ts)
  unfolding links first is_empty
  none zero l k ts h = rw (or_false (next language ts == sign s.Arrow)) (rw h refl)
  none (suc n) l k ts h = rw (or_false (next language ts == sign s.Arrow)) (rw h refl)

  over : (l : Exp) (k : ℕ) (ts : List Lexeme) → goes_on l ts ≡ true → linked zero room l k ts ≡ Err (TooDeep, ts)
  unfolding links first is_empty
  over l k ts h = rw (or_false (next language ts == sign s.Arrow)) (rw h refl)

  -- one arrow, and then those behind it
  step : (n : ℕ) (l : Exp) (k : ℕ) (ts : List Lexeme) → goes_on l ts ≡ true → linked (suc n) room l k ts ≡ following n room l k ts
  unfolding links first is_empty
  step n l k ts h = rw (or_false (next language ts == sign s.Arrow)) (rw h (go (nat_le (max k (low language g.ghost_arrow)) room) (part room g.ghost_arrow ts)))
    where
      go : (b : Bool) (out : Out language (Exp → Exp)) → cond b (on language out (λ f i rest. linked n room (f l) (suc (max k i)) rest)) (Err (TooDeep, ts)) ≡ on language (cond b (joined l k out) (Err (TooDeep, ts))) (λ l' k' rest. linked n room l' k' rest)
      go true (Ok x) = refl
      go true (Err e) = refl
      go false out = refl

  fails : {X Y : Type 0} (v : X → Exp) (w : Y → Exp) (n : ℕ) (l : Exp) (k : ℕ) (ts : List Lexeme) (e : ReadFault) → goes_on l ts ≡ true → Gives {X = X} v (Err e) (one_link room g.ghost_arrow l k ts) → Gives {X = Y} w (Err e) (linked (suc n) room l k ts)
  fails v w n l k ts (f.Unexpected rest) h x = step n l k ts h ∙ ap (λ out. on language out (linked n room)) x
  fails v w n l k ts (f.TooDeep rest) h x = step n l k ts h ∙ ap (λ out. on language out (linked n room)) x
  fails v w n l k ts f.OutOfMemory h x = tt

  -- ---- a loop that has come so far

  pub over_from : (n : ℕ) (l : Exp) (k : ℕ) (ts : List Lexeme) (out : Out language Exp) → n ≡ 0 → goes_on l ts ≡ true → linked n room l k ts ≡ out → out ≡ Err (TooDeep, ts)
  over_from n l k ts out z h x = sym x ∙ ap (λ i. linked i room l k ts) z ∙ over l k ts h

  pub goes_from : (n m : ℕ) (l : Exp) (k : ℕ) (ts : List Lexeme) (l' : Exp) (k' : ℕ) (ts' : List Lexeme) (out : Out language Exp) → n ≡ suc m → goes_on l ts ≡ true → one_link room g.ghost_arrow l k ts ≡ Ok (l', k', ts') → linked n room l k ts ≡ out → linked m room l' k' ts' ≡ out
  goes_from n m l k ts l' k' ts' out z h x same = sym (step m l k ts h ∙ ap (λ o. on language o (linked m room)) x) ∙ ap (λ i. linked i room l k ts) (sym z) ∙ same

  pub fails_from : {X Y : Type 0} (v : X → Exp) (w : Y → Exp) (n m : ℕ) (l : Exp) (k : ℕ) (ts : List Lexeme) (e : ReadFault) (out : Out language Exp) → n ≡ suc m → goes_on l ts ≡ true → Gives {X = X} v (Err e) (one_link room g.ghost_arrow l k ts) → linked n room l k ts ≡ out → Gives {X = Y} w (Err e) out
  fails_from {X} {Y} v w n m l k ts e out z h x same = subst (λ o. Gives {X = Y} w (Err e) o) (ap (λ i. linked i room l k ts) (sym z) ∙ same) (fails v w m l k ts e h x)

pub name_read : (room : ℕ) (ts : List Lexeme) → rule_at room g.ghost_name ts ≡ on language (rule_at 0 g.named ts) (λ l k rest. linked (suc room) room l k rest)
unfolding read_rule read
name_read room ts = refl

-- ---- an arrow behind what stands first

abbrev ended : (Exp → Exp) → ℕ → List Lexeme → Out language (Exp → Exp)
ended c j us = Ok ((λ x. c x), max j 0, us)

module _ (room : ℕ) where
  abbrev arrowed : Exp → ℕ → List Lexeme → Out language Exp
  arrowed b i mid = on language {A = Exp → Exp} {B = Exp} (on language (part room g.ghost_arrow mid) ended) (λ f j rest. Ok (f b, max i j, rest))

  abbrev higher : Exp → ℕ → List Lexeme → Out language Exp
  higher a i rest = Ok (a, suc i, rest)

  first_arrow : (out : Out language Exp) → on language (on language (on language out (λ b i rest. Ok (b, i, rest))) arrowed) higher ≡ on language out (λ l k rest. joined l k (part room g.ghost_arrow rest))
  first_arrow (Ok p) = go (part room g.ghost_arrow p.2)
    where
      go : (out : Out language (Exp → Exp)) → on language (on language {A = Exp → Exp} {B = Exp} (on language out ended) (λ f j rest. Ok (f p.0, max p.1 j, rest))) higher ≡ joined p.0 p.1 out
      go (Ok q) = let z : max q.1 0 ≡ q.1 = omega arith in ap (λ i. Ok (q.0 p.0, suc (max p.1 i), q.2)) z
      go (Err e) = refl
  first_arrow (Err e) = refl

pub other_read : (room : ℕ) (ts : List Lexeme) → rule_at room g.ghost_other ts ≡ on language (on language (reads language room g.Unnamed ts) (λ l k rest. joined l k (part room g.ghost_arrow rest))) (λ l k rest. linked (suc room) room l k rest)
unfolding read_rule read
other_read room ts = ap (λ o. on language o (λ l k rest. linked (suc room) room l k rest)) (first_arrow room (reads language room g.Unnamed ts))
