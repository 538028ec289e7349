-- How many parts an expression has: what makes sure that its typing ends. Own.
use Rattle.std.specs.Prelude.{ℕ, ◌+◌}
use Rattle.c_syntax.specs.Expressions as e
use Rattle.c_syntax.specs.Expressions.{Exp, Exps}

-- itself, and those of its operands. Own
abbrev mutual
  pub parts : Exp → ℕ
  parts (e.Number p n c) = 1
  parts (e.Name x) = 1
  parts (e.Null p) = 1
  parts (e.Word p w) = 1
  parts (e.Group p x) = 1 + parts x
  parts (e.Field p x y) = 1 + parts x
  parts (e.State p x r s) = 1 + parts x
  parts (e.Owns p x r) = 1 + parts x
  parts (e.Unary p o x) = 1 + parts x
  parts (e.Binary p o x y) = 1 + (parts x + parts y)
  parts (e.Conditional p x y z) = 1 + (parts x + (parts y + parts z))
  parts (e.Apply p h x) = 1 + parts x
  parts (e.Several p w xs) = 1 + all_parts xs
  parts (e.ClaimsObject p x y) = 1 + (parts x + parts y)
  parts (e.Claims p x y) = 1 + (parts x + parts y)
  parts (e.Approves p x) = 1
  parts (e.Quantified p k ty n x) = 1 + parts x

  pub all_parts : Exps → ℕ
  all_parts e.Stop = 0
  all_parts (e.With x xs) = parts x + all_parts xs
