-- Statements that hold others, by the vectors of the code.
use Rattle.std.proofs.Common.{◌≡◌, ℕ, Bool, List, [], ◌∷◌, ap, ap₂, Vec}
use Rattle.std.specs.declared.alloc.Global.{Global}
use Rattle.object_types.specs.Heap.{Heap}
use Rattle.method.specs.declared.program.Expr.{Expr}
use Rattle.method.specs.declared.program.Stmt as s
use Rattle.method.specs.declared.program.Program.{Program}
use Rattle.method.specs.Actions.{Fresh}
use Rattle.method.specs.Machine as m
use Rattle.machine_turns.specs.Turns.{choice, unwrapping}

module _ (p : Program) (next : ℕ) (line : ℕ) (a : m.Activation) (code : List m.Remaining) (below : List m.Activation) (h : Heap) where
  pub at_if : (in_ghost : Bool) (e : Expr) (u v : Vec s.Stmt Global) → m.turn_of p (Fresh next) [] a (m.Run (s.If line in_ghost e u v) ∷ code) below h ≡ choice line e u.items v.items p a code below h
  at_if in_ghost e u v = ap₂ (λ u v. choice line e u v p a code below h) (s.items_hidden-the_row-Stmt-0 u) (s.items_hidden-the_row-Stmt-0 v)

  pub at_unwrapping : (ty q : ℕ) (e : Expr) (u : Vec s.Stmt Global) → m.turn_of p (Fresh next) [] a (m.Run (s.Unwrapping line ty q e u) ∷ code) below h ≡ unwrapping next line ty e u.items p a code below h
  at_unwrapping ty q e u = ap (λ u. unwrapping next line ty e u p a code below h) (s.items_hidden-the_row-Stmt-0 u)
