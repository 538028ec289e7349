-- Annotations and statements of one form, whose formulas are those of their parts.
use Rattle.std.proofs.Common.{◌≡◌, ◌⊎◌, inl, inr, ℕ, ℤ, Bool, [], ◌++◌, Option, Vec, Box, Global, ap, sym}
use Rattle.method.specs.declared.program.Comparison.{Comparison}
use Rattle.method.specs.declared.program.Conjunct.{Conjunct}
use Rattle.method.specs.declared.program.Operator.{Operator}
use Rattle.method.specs.declared.program.Program.{Program}
use Rattle.method.specs.declared.program.Spec as e
use Rattle.method.specs.declared.program.Expr.{Expr}
use Rattle.method.specs.declared.program.FunctionInfo.{FunctionInfo}
use Rattle.method.specs.declared.program.OwnsChange.{OwnsChange}
use Rattle.method.specs.declared.program.Receiver.{Receiver}
use Rattle.method.specs.declared.program.RightSide.{RightSide}
use Rattle.method.specs.declared.program.Target.{Target}
use Rattle.method.specs.declared.program.Simple as si
use Rattle.method.specs.declared.program.Simple.TheVariants as siv
use Rattle.method.specs.declared.program.Action as ac
use Rattle.method.specs.declared.program.Action.TheVariants as acv
use Rattle.method.specs.declared.program.Stmt as st
use Rattle.int_ranges.specs.declared.ctype.CType.{CType}
use Rattle.conditions.specs.Annotations.{Scene}
use Rattle.conditions.specs.Quantified.{spec_quantifiers, simple_quantifiers, action_quantifiers, stmt_quantifiers}

module _ (p : Program) (s : Scene) where
  pub no_part : (a : e.Spec) → (((z : ℤ) × (a ≡ e.Number z)) ⊎ (((b : Bool) × (a ≡ e.Truth b)) ⊎ ((a ≡ e.Null) ⊎ (((i : ℕ) × (a ≡ e.Variable i)) ⊎ (((i : ℕ) × (a ≡ e.Bound i)) ⊎ ((a ≡ e.This) ⊎ ((a ≡ e.Me) ⊎ ((a ≡ e.Result) ⊎ ((k : Conjunct) × (a ≡ e.Has k)))))))))) → [] ≡ spec_quantifiers p a s
  no_part a (inl w) = ap (λ (b : e.Spec). spec_quantifiers p b s) (sym w.1)
  no_part a (inr (inl w)) = ap (λ (b : e.Spec). spec_quantifiers p b s) (sym w.1)
  no_part a (inr (inr (inl w))) = ap (λ (b : e.Spec). spec_quantifiers p b s) (sym w)
  no_part a (inr (inr (inr (inl w)))) = ap (λ (b : e.Spec). spec_quantifiers p b s) (sym w.1)
  no_part a (inr (inr (inr (inr (inl w))))) = ap (λ (b : e.Spec). spec_quantifiers p b s) (sym w.1)
  no_part a (inr (inr (inr (inr (inr (inl w)))))) = ap (λ (b : e.Spec). spec_quantifiers p b s) (sym w)
  no_part a (inr (inr (inr (inr (inr (inr (inl w))))))) = ap (λ (b : e.Spec). spec_quantifiers p b s) (sym w)
  no_part a (inr (inr (inr (inr (inr (inr (inr (inl w)))))))) = ap (λ (b : e.Spec). spec_quantifiers p b s) (sym w)
  no_part a (inr (inr (inr (inr (inr (inr (inr (inr (w))))))))) = ap (λ (b : e.Spec). spec_quantifiers p b s) (sym w.1)

  pub one_part : (a : e.Spec) (x : Box e.Spec Global) → (((f : ℕ) × (a ≡ e.Field x f)) ⊎ ((a ≡ e.Closed x) ⊎ ((a ≡ e.Owner x) ⊎ ((a ≡ e.ClaimCount x) ⊎ ((a ≡ e.Not x) ⊎ ((a ≡ e.Negate x) ⊎ ((a ≡ e.Unchanged x) ⊎ ((a ≡ e.Wrapped x) ⊎ ((a ≡ e.Wrapped0 x) ⊎ ((a ≡ e.Mutable x) ⊎ ((a ≡ e.Fresh x) ⊎ (a ≡ e.Lists x)))))))))))) → spec_quantifiers p x.value s ≡ spec_quantifiers p a s
  one_part a x (inl w) = ap (λ (b : e.Spec). spec_quantifiers p b s) (sym w.1)
  one_part a x (inr (inl w)) = ap (λ (b : e.Spec). spec_quantifiers p b s) (sym w)
  one_part a x (inr (inr (inl w))) = ap (λ (b : e.Spec). spec_quantifiers p b s) (sym w)
  one_part a x (inr (inr (inr (inl w)))) = ap (λ (b : e.Spec). spec_quantifiers p b s) (sym w)
  one_part a x (inr (inr (inr (inr (inl w))))) = ap (λ (b : e.Spec). spec_quantifiers p b s) (sym w)
  one_part a x (inr (inr (inr (inr (inr (inl w)))))) = ap (λ (b : e.Spec). spec_quantifiers p b s) (sym w)
  one_part a x (inr (inr (inr (inr (inr (inr (inl w))))))) = ap (λ (b : e.Spec). spec_quantifiers p b s) (sym w)
  one_part a x (inr (inr (inr (inr (inr (inr (inr (inl w)))))))) = ap (λ (b : e.Spec). spec_quantifiers p b s) (sym w)
  one_part a x (inr (inr (inr (inr (inr (inr (inr (inr (inl w))))))))) = ap (λ (b : e.Spec). spec_quantifiers p b s) (sym w)
  one_part a x (inr (inr (inr (inr (inr (inr (inr (inr (inr (inl w)))))))))) = ap (λ (b : e.Spec). spec_quantifiers p b s) (sym w)
  one_part a x (inr (inr (inr (inr (inr (inr (inr (inr (inr (inr (inl w))))))))))) = ap (λ (b : e.Spec). spec_quantifiers p b s) (sym w)
  one_part a x (inr (inr (inr (inr (inr (inr (inr (inr (inr (inr (inr (w)))))))))))) = ap (λ (b : e.Spec). spec_quantifiers p b s) (sym w)

  pub two_parts : (a : e.Spec) (x y : Box e.Spec Global) → ((a ≡ e.Member x y) ⊎ (((o : Operator) × (a ≡ e.Arithmetic o x y)) ⊎ (((o : Comparison) × (a ≡ e.Compare o x y)) ⊎ ((a ≡ e.And x y) ⊎ ((a ≡ e.Or x y) ⊎ ((a ≡ e.Implies x y) ⊎ ((a ≡ e.Iff x y) ⊎ (a ≡ e.ClaimsObject x y)))))))) → spec_quantifiers p x.value s ++ spec_quantifiers p y.value s ≡ spec_quantifiers p a s
  two_parts a x y (inl w) = ap (λ (b : e.Spec). spec_quantifiers p b s) (sym w)
  two_parts a x y (inr (inl w)) = ap (λ (b : e.Spec). spec_quantifiers p b s) (sym w.1)
  two_parts a x y (inr (inr (inl w))) = ap (λ (b : e.Spec). spec_quantifiers p b s) (sym w.1)
  two_parts a x y (inr (inr (inr (inl w)))) = ap (λ (b : e.Spec). spec_quantifiers p b s) (sym w)
  two_parts a x y (inr (inr (inr (inr (inl w))))) = ap (λ (b : e.Spec). spec_quantifiers p b s) (sym w)
  two_parts a x y (inr (inr (inr (inr (inr (inl w)))))) = ap (λ (b : e.Spec). spec_quantifiers p b s) (sym w)
  two_parts a x y (inr (inr (inr (inr (inr (inr (inl w))))))) = ap (λ (b : e.Spec). spec_quantifiers p b s) (sym w)
  two_parts a x y (inr (inr (inr (inr (inr (inr (inr (w)))))))) = ap (λ (b : e.Spec). spec_quantifiers p b s) (sym w)

pub no_simple : (a : si.Simple) → (((t : Target) × (r : RightSide) × (a ≡ siv.Assign t r)) ⊎ ((o : OwnsChange) × (x : Expr) × (xs : Vec Expr Global) × (a ≡ siv.ChangeOwned o x xs))) → [] ≡ simple_quantifiers a
no_simple a (inl w) = ap simple_quantifiers (sym w.2)
no_simple a (inr (w)) = ap simple_quantifiers (sym w.3)

module _ (p : Program) (f : FunctionInfo) where
  pub no_action : (a : ac.Action) → (((i : ℕ) × (a ≡ acv.Declare i)) ⊎ (((i : ℕ) × (r : RightSide) × (a ≡ acv.Define i r)) ⊎ (((x : Expr) × (a ≡ acv.UnwrapObject x)) ⊎ (((x : Expr) × (a ≡ acv.FreeObject x)) ⊎ ((g : ℕ) × (xs : Vec Expr Global) × (a ≡ acv.SpawnThread g xs)))))) → [] ≡ action_quantifiers p f a
  no_action a (inl w) = ap (action_quantifiers p f) (sym w.1)
  no_action a (inr (inl w)) = ap (action_quantifiers p f) (sym w.2)
  no_action a (inr (inr (inl w))) = ap (action_quantifiers p f) (sym w.1)
  no_action a (inr (inr (inr (inl w)))) = ap (action_quantifiers p f) (sym w.1)
  no_action a (inr (inr (inr (inr (w))))) = ap (action_quantifiers p f) (sym w.2)

  pub no_statement : (a : st.Stmt) → (((line : ℕ) × (to : Receiver) × (k : Option CType) × (g : ℕ) × (xs : Vec Expr Global) × (a ≡ st.Call line to k g xs)) ⊎ ((line : ℕ) × (x : Option Expr) × (a ≡ st.Return line x))) → [] ≡ stmt_quantifiers p f a
  no_statement a (inl w) = ap (stmt_quantifiers p f) (sym w.5)
  no_statement a (inr (w)) = ap (stmt_quantifiers p f) (sym w.2)
