-- Each path has as many checks as its text.
use Rattle.std.proofs.Common.{◌≡◌, suc, ◌+◌, List, [], ◌∷◌, length, refl, ap, ap₂, arith}
use Rattle.int_ranges.specs.declared.ctype.CType.{CType}
use Rattle.method.specs.declared.program.Operator.{Operator}
use Rattle.method.specs.declared.program.Operator.TheVariants as o
use Rattle.method.specs.declared.program.Expr.{Expr}
use Rattle.method.specs.declared.program.Expr.TheVariants as e
use Rattle.method.specs.declared.program.Program.{Program}
use Rattle.method.specs.Expressions as text
use Rattle.terms.specs.Formula.{Formula}
use Rattle.conditions.specs.Paths.{Path, Done, Check, Fact, Branch, Standalone, sequence, guarded, checks, Execution, check_each, all_facts}
use Rattle.conditions.specs.Code.{Spot, State, code, all_code, all_symbolic, arithmetic}

pub checks_joined : (q r : Path) → checks (sequence q r) ≡ checks q + checks r
checks_joined Done r = omega arith
checks_joined (Check f q) r = let more = checks_joined q r in omega (arith, more)
checks_joined (Fact f q) r = checks_joined q r
checks_joined (Branch b q) r = let more = checks_joined q r in omega (arith, more)
checks_joined (Standalone f q) r = let more = checks_joined q r in omega (arith, more)

pub checks_guarded : (f : Formula) (q : Path) → checks (guarded f q) ≡ checks q
checks_guarded f Done = refl
checks_guarded f (Check g q) = ap suc (checks_guarded f q)
checks_guarded f (Fact g q) = checks_guarded f q
checks_guarded f (Branch b q) = ap₂ (λ m n. m + n) (checks_guarded f b) (checks_guarded f q)
checks_guarded f (Standalone g q) = ap suc (checks_guarded f q)

pub checks_each : {A : Type 0} (fs : List Formula) (t : Execution A) → checks (check_each fs t).path ≡ length fs + checks t.path
checks_each [] t = omega arith
checks_each (f ∷ fs) t = let more = checks_each fs t in omega (arith, more)

pub checks_facts : {A : Type 0} (fs : List Formula) (t : Execution A) → checks (all_facts fs t).path ≡ checks t.path
checks_facts [] t = refl
checks_facts (f ∷ fs) t = checks_facts fs t

module _ (p : Program) (a : Spot) (st : State) where
  arithmetic_size : (op : Operator) (c : CType) (x y : Formula) → checks (arithmetic p a op c x y).path ≡ text.own_checks op
  arithmetic_size o.Plus c x y = refl
  arithmetic_size o.Minus c x y = refl
  arithmetic_size o.Times c x y = refl
  arithmetic_size o.Over c x y = refl
  arithmetic_size o.Modulo c x y = refl

  pub code_size : (c : Expr) → checks (code p a st c).path ≡ text.checks c
  code_size (e.Number z) = refl
  code_size e.Null = refl
  code_size (e.Variable i) = refl
  code_size (e.Field' q x f) = let hx = code_size x in simp (checks_joined, hx) refl
  code_size (e.Not' q x) = let hx = code_size x in simp (checks_joined, hx) (omega arith)
  code_size (e.Negate' q x c) = let hx = code_size x in simp (checks_joined, hx) refl
  code_size (e.Arithmetic' op q x r y c) = let hx = code_size x in let hy = code_size y in simp (checks_joined, hx, hy, arithmetic_size) (omega arith)
  code_size (e.Compare' op q x r y) = let hx = code_size x in let hy = code_size y in simp (checks_joined, hx, hy) (omega arith)
  code_size (e.And' q x r y) = let hx = code_size x in let hy = code_size y in simp (checks_joined, checks_guarded, hx, hy) (omega arith)
  code_size (e.Or' q x r y) = let hx = code_size x in let hy = code_size y in simp (checks_joined, checks_guarded, hx, hy) (omega arith)
  code_size (e.Choose' q x r y t z) = let hx = code_size x in let hy = code_size y in let hz = code_size z in simp (checks_joined, checks_guarded, hx, hy, hz) (omega arith)
  code_size (e.Convert' q x c) = let hx = code_size x in simp (checks_joined, hx) refl

  pub all_code_size : (cs : List Expr) → checks (all_code p a st cs).path ≡ text.all_checks cs
  all_code_size [] = refl
  all_code_size (c ∷ cs) = let hx = code_size c in let hy = all_code_size cs in simp (checks_joined, hx, hy) (omega arith)

  pub all_code_length : (cs : List Expr) → length (all_code p a st cs).gives ≡ length cs
  all_code_length [] = refl
  all_code_length (c ∷ cs) = ap suc (all_code_length cs)

  pub all_symbolic_size : (cs : List Expr) → checks (all_symbolic p a st cs).path ≡ text.all_checks cs
  all_symbolic_size [] = refl
  all_symbolic_size (c ∷ cs) = let hx = code_size c in let hy = all_symbolic_size cs in simp (checks_joined, hx, hy) (omega arith)
