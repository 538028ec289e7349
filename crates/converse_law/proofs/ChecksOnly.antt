-- Paths of checks alone, outcomes that come to an end, and extensions by no constant.
use Rattle.std.proofs.Common.{◌≡◌, ℕ, suc, ◌+◌, inl, inr, Bool, true, false, List, [], ◌∷◌, refl, sym, ◌∙◌}
use Rattle.object_types.specs.declared.references.Ref.{Ref}
use Rattle.int_ranges.specs.declared.ctype.CType.{CType}
use Rattle.method.specs.declared.program.CheckKind.{CheckKind}
use Rattle.method.specs.declared.program.Operator.{Operator}
use Rattle.method.specs.declared.program.Operator.TheVariants as ops
use Rattle.method.specs.declared.program.Expr.{Expr}
use Rattle.method.specs.declared.program.Expr.TheVariants as exprs
use Rattle.method.specs.declared.program.Program.{Program}
use Rattle.method.specs.Expressions as m
use Rattle.method.specs.Expressions.{Spot as MachineSpot, Outcome, End, Misfit, Failed, Gave, Tested, goes_on, eval, eval_all, checks}
use Rattle.method.specs.Actions.{Progress}
use Rattle.terms.specs.Formula.{Formula}
use Rattle.term_meaning.specs.Meaning.{Language}
use Rattle.conditions.specs.Paths.{Path, Done, Check, Fact, Branch, Standalone as Apart, Execution, sequence, guarded, facts, check_each}
use Rattle.conditions.specs.Code.{Spot, State, arithmetic, code, all_code}
use Rattle.conditions.specs.Ways.{AllHold, FailsIn}
use Rattle.conditions.proofs.FromRuns.{Count, IsWithin}
use Rattle.conditions.proofs.PathTests.{IsChecks}
use Rattle.conditions.proofs.Tests.{Ends, plain, tests, ends_eval}
use Rattle.condition_meaning.proofs.Environments.{Environment, Agree, agree_less}
use Rattle.condition_meaning.proofs.Extensions.{Extension}

-- Paths of checks.

module _ (E : Type 0) (H : E → Formula → Type 0) (e : E) where
  -- where the facts of a path of checks are true none of its checks is false
  pub none_false : (label n : ℕ) (q : Path) → IsChecks q → AllHold E H e (facts q) → FailsIn E H label n q e → ⊥
  none_false label n Done i all y = y
  none_false label n (Check f q) i all (inl y) = y.1 all.0
  none_false label n (Check f q) i all (inr y) = none_false label (suc n) q i all.1 y.1
  none_false label n (Fact f q) i all y = i
  none_false label n (Branch b q) i all y = i
  none_false label n (Apart f q) i all y = i

  -- and one alone is the first that is false
  pub one_false : (label other n : ℕ) (q : Path) → IsChecks q → FailsIn E H label n q e → FailsIn E H other n q e → label ≡ other
  one_false label other n Done i y z = absurd y
  one_false label other n (Check f q) i (inl y) (inl z) = sym y.0 ∙ z.0
  one_false label other n (Check f q) i (inl y) (inr z) = absurd (y.1 z.0)
  one_false label other n (Check f q) i (inr y) (inl z) = absurd (z.1 y.0)
  one_false label other n (Check f q) i (inr y) (inr z) = one_false label other (suc n) q i y.1 z.1
  one_false label other n (Fact f q) i y z = absurd i
  one_false label other n (Branch b q) i y z = absurd i
  one_false label other n (Apart f q) i y z = absurd i

pub both_checks : (q r : Path) → IsChecks q → IsChecks r → IsChecks (sequence q r)
both_checks Done r i j = j
both_checks (Check f q) r i j = both_checks q r i j
both_checks (Fact f q) r i j = absurd i
both_checks (Branch b q) r i j = absurd i
both_checks (Apart f q) r i j = absurd i

guarded_checks : (g : Formula) (q : Path) → IsChecks q → IsChecks (guarded g q)
guarded_checks g Done i = tt
guarded_checks g (Check f q) i = guarded_checks g q i
guarded_checks g (Fact f q) i = absurd i
guarded_checks g (Branch b q) i = absurd i
guarded_checks g (Apart f q) i = absurd i

pub each_checks : {A : Type 0} (fs : List Formula) (t : Execution A) → IsChecks t.path → IsChecks (check_each fs t).path
each_checks [] t i = i
each_checks (f ∷ fs) t i = each_checks fs t i

module _ (p : Program) (a : Spot) where
  operator_checks : (op : Operator) (c : CType) (x y : Formula) → IsChecks (arithmetic p a op c x y).path
  operator_checks ops.Plus c x y = tt
  operator_checks ops.Minus c x y = tt
  operator_checks ops.Times c x y = tt
  operator_checks ops.Over c x y = tt
  operator_checks ops.Modulo c x y = tt

  -- code is a path of checks
  pub code_checks : (x : Expr) (st : State) → IsChecks (code p a st x).path
  code_checks (exprs.Number z) st = tt
  code_checks exprs.Null st = tt
  code_checks (exprs.Variable i) st = tt
  code_checks (exprs.Field' q x g) st = both_checks (code p a st x).path _ (code_checks x st) tt
  code_checks (exprs.Not' q x) st = both_checks (code p a st x).path _ (code_checks x st) tt
  code_checks (exprs.Negate' q x c) st = both_checks (code p a st x).path _ (code_checks x st) tt
  code_checks (exprs.Arithmetic' op q x r y c) st = both_checks (code p a st x).path _ (code_checks x st) (both_checks (code p a st y).path _ (code_checks y st) (operator_checks op c _ _))
  code_checks (exprs.Compare' op q x r y) st = both_checks (code p a st x).path _ (code_checks x st) (both_checks (code p a st y).path _ (code_checks y st) tt)
  code_checks (exprs.And' q x r y) st = both_checks (code p a st x).path _ (code_checks x st) (both_checks (guarded _ (code p a st y).path) _ (guarded_checks _ (code p a st y).path (code_checks y st)) tt)
  code_checks (exprs.Or' q x r y) st = both_checks (code p a st x).path _ (code_checks x st) (both_checks (guarded _ (code p a st y).path) _ (guarded_checks _ (code p a st y).path (code_checks y st)) tt)
  code_checks (exprs.Choose' q x r y t z) st =
      both_checks (code p a st x).path _ (code_checks x st)
      (both_checks (guarded _ (code p a st y).path) _ (guarded_checks _ (code p a st y).path (code_checks y st)) (both_checks (guarded _ (code p a st z).path) _ (guarded_checks _ (code p a st z).path (code_checks z st)) tt))
  code_checks (exprs.Convert' q x c) st = both_checks (code p a st x).path _ (code_checks x st) tt

  pub every_checks : (xs : List Expr) (st : State) → IsChecks (all_code p a st xs).path
  every_checks [] st = tt
  every_checks (x ∷ xs) st = both_checks (code p a st x).path _ (code_checks x st) (both_checks (all_code p a st xs).path _ (every_checks xs st) tt)

-- Outcomes that come to an end: they give something, or fail a check.

gave_ends : {A : Type 0} (d : End A) (a : A) → d ≡ Gave a → d ≡ Misfit → ⊥
gave_ends d a is m = cc

failed_ends : {A : Type 0} (d : End A) (n : ℕ) (kind : CheckKind) (line : ℕ) → d ≡ Failed n kind line → d ≡ Misfit → ⊥
failed_ends d n kind line is m = cc

abbrev pub Fits : {A : Type 0} → Outcome A → Type 0
Fits o = o.end ≡ Misfit → ⊥

pub fits_gives : {A : Type 0} (a : A) → Fits (m.Gives a)
fits_gives a misfit = gave_ends (m.Gives a).end a refl misfit

pub fits_after : {A B : Type 0} (o : Outcome A) (g : A → Outcome B) → Fits o → ((a : A) → Fits (g a)) → Fits (m.after o g)
fits_after {A} {B} o g first second misfit = by_end o.end refl misfit
  where
    by_end : (d : End A) → o.end ≡ d → (goes_on o.overflow d g).end ≡ Misfit → ⊥
    by_end Misfit is z = first is
    by_end (Failed n kind line) is z = failed_ends (goes_on o.overflow (Failed n kind line) g).end n kind line refl z
    by_end (Gave a) is z = second a z

pub fits_check : {A : Type 0} (at_ : MachineSpot) (b : Bool) (n : ℕ) (kind : CheckKind) (o : Outcome A) → Fits o → Fits (m.check at_ b n kind o)
fits_check at_ true n kind o fits misfit = fits misfit
fits_check at_ false n kind o fits misfit = failed_ends (m.check at_ false n kind o).end n kind at_.line refl misfit

pub fits_each : {A : Type 0} (at_ : MachineSpot) (bs : List Bool) (n : ℕ) (kind : CheckKind) (o : Outcome A) → Fits o → Fits (m.check_each at_ bs n kind o)
fits_each at_ [] n kind o fits = fits
fits_each at_ (b ∷ bs) n kind o fits = fits_check at_ b n kind (m.check_each at_ bs (n + 1) kind o) (fits_each at_ bs (n + 1) kind o fits)

pub fits_specs : {A : Type 0} (at_ : MachineSpot) (ts : List Tested) (n : ℕ) (kind : CheckKind) (o : Outcome A) → Fits o → Fits (m.check_specs at_ ts n kind o)
fits_specs at_ [] n kind o fits = fits
fits_specs at_ (t ∷ ts) n kind o fits = fits_check at_ t.holds n kind (m.check_specs at_ ts (n + 1) kind o) (fits_specs at_ ts (n + 1) kind o fits)

pub fits_tests : {A : Type 0} (bs : List Bool) (n : ℕ) (a : A) (o : Outcome A) → Ends bs n a o → Fits o
fits_tests [] n a o x misfit = gave_ends o.end a x misfit
fits_tests (true ∷ bs) n a o x misfit = fits_tests bs (suc n) a o x misfit
fits_tests (false ∷ bs) n a o x misfit = failed_ends o.end n x.0 x.1 x.2 misfit

module _ (p : Program) (at_ : MachineSpot) (g : Progress) where
  pub fits_eval : (y : Expr) (n : ℕ) → Fits (eval p at_ g.heap g.locals y n)
  fits_eval y n = fits_tests (tests p at_ g.heap g.locals y) n (plain p at_ g.heap g.locals y) (eval p at_ g.heap g.locals y n) (ends_eval p at_ g.heap g.locals y n)

  pub fits_all : (ys : List Expr) (n : ℕ) → Fits (eval_all p at_ g.heap g.locals ys n)
  fits_all [] n = fits_gives []
  fits_all (y ∷ ys) n =
      let k = n + checks y in
      fits_after (eval p at_ g.heap g.locals y n) (λ v. m.after (eval_all p at_ g.heap g.locals ys k) (λ vs. m.Gives (v ∷ vs))) (fits_eval y n) (λ v. fits_after (eval_all p at_ g.heap g.locals ys k) (λ vs. m.Gives (v ∷ vs)) (fits_all ys k) (λ vs. fits_gives (v ∷ vs)))

-- Extensions by no constant.

module _ (l : Language) (t : Ref) where
  agree_turned : (c : Count) (d e : Environment l t) → Agree l t c d e → Agree l t c e d
  agree_turned c d e agree = record { integers = λ n b. sym (agree.integers n b); references = λ n b. sym (agree.references n b); heaps = λ n b. sym (agree.heaps n b) }

  -- what no constant is made for is so in each environment
  pub so_already : (c d : Count) → IsWithin d c → (x : Extension l t c d) → (e : Environment l t) → x.So e
  so_already c d within x e =
      let z = x.some e in
      x.kept z.0 e (agree_turned d e z.0 (agree_less l t d c e z.0 within z.1)) z.2
