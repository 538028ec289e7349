-- Left sides of ghost code, and what stands behind.
use Rattle.std.proofs.Common.{◌≡◌, ℕ, suc, max, Bool, true, false, cond, List, Result, Ok, Err, refl, ap, sym, ◌∙◌, arith}
use Rattle.ebnf.specs.Reading.{Out, on, read, read_rule, reads}
use Rattle.c_syntax.specs.Lexing.{Lexeme}
use Rattle.c_syntax.specs.Expressions.{Exp}
use Rattle.c_syntax.specs.Ghosts.{GStm}
use Rattle.c_syntax.specs.Language.{language}
use Rattle.c_syntax.specs.Grammar as g
use Rattle.reader_expressions.specs.Reading.{part, rule_at}
use Rattle.reader_annotations.specs.Rows.{assigned, assigned_name, assigned_other}

module _ (room : ℕ) where
  abbrev to_left : Exp → ℕ → List Lexeme → Out language GStm
  to_left b i mid = on language {A = Exp → GStm} {B = GStm} (cond (g.is_owns b) (part room g.owns_set mid) (part room g.ghost_set mid)) (λ f j rest. Ok (f b, max i j, rest))

  abbrev higher : GStm → ℕ → List Lexeme → Out language GStm
  higher a i rest = Ok (a, suc i, rest)

  assigning : (out : Out language Exp) → on language (on language (on language out (λ b i rest. Ok (b, i, rest))) to_left) higher ≡ on language out (assigned room)
  assigning (Ok p) = go (g.is_owns p.0) (part room g.owns_set p.2) (part room g.ghost_set p.2)
    where
      go : (b : Bool) (u v : Out language (Exp → GStm)) → on language (on language {A = Exp → GStm} {B = GStm} (cond b u v) (λ f j rest. Ok (f p.0, max p.1 j, rest))) higher ≡ cond b (on language u (λ f i rest. Ok (f p.0, suc (max p.1 i), rest))) (on language v (λ f i rest. Ok (f p.0, suc (max p.1 i), rest)))
      go true (Ok q) v = refl
      go true (Err f) v = refl
      go false u (Ok q) = refl
      go false u (Err f) = refl
  assigning (Err f) = refl

pub name_read : (room : ℕ) (ts : List Lexeme) → rule_at room assigned_name ts ≡ on language (reads language room g.GhostName ts) (assigned room)
unfolding read_rule read
name_read room ts = assigning room (reads language room g.GhostName ts)

pub other_read : (room : ℕ) (ts : List Lexeme) → rule_at room assigned_other ts ≡ on language (reads language room g.GhostOther ts) (assigned room)
unfolding read_rule read
other_read room ts = assigning room (reads language room g.GhostOther ts)
