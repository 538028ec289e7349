-- An expression always comes to a value or a fault: choices play no part in it.
use Rattle.std.proofs.Common.{◌≡◌, ℕ, ◌+◌, Bool, true, false, not, List, [], ◌∷◌, Option, sym, subst}
use Rattle.std.specs.Prelude.{◌-ℤ◌, pos, if◌then◌else◌}
use Rattle.object_types.specs.declared.values.Value.{Value}
use Rattle.object_types.specs.declared.values.Value.TheVariants.{Int}
use Rattle.int_ranges.specs.Ranges.{in_range}
use Rattle.method.specs.declared.program.CheckKind.{CheckKind}
use Rattle.method.specs.declared.program.CheckKind.TheVariants.{Range, Read, Divide}
use Rattle.method.specs.declared.program.Expr.{Expr}
use Rattle.method.specs.declared.program.Expr.TheVariants.{Number, Null, Variable, Field', Not', Negate', Arithmetic', Compare', And', Or', Choose', Convert'}
use Rattle.method.specs.declared.program.Program.{Program}
use Rattle.object_types.specs.Values.{truth, says, int, referent, is_zero_int}
use Rattle.object_types.specs.Heap.{Heap}
use Rattle.method.specs.Overflow.{Overflow}
use Rattle.method.specs.Tables.{read}
use Rattle.method.specs.SpecValue.{compute, compare}
use Rattle.method.specs.Expressions.{End, Misfit, Failed, Gave, Outcome, Gives, after, goes_on, Spot, Tested, check, check_specs, checks, readable, divides, checked_result, arithmetic, converted, eval, eval_all}
use Rattle.plain_machine.specs.PlainSteps.{Comes, Waits, Fails, Yields}
use Rattle.machine_laws.proofs.Outcomes.{OnEnd}

abbrev pub Fits : {A : Type 0} → End A → Type 0
Fits Misfit = ⊥
Fits (Failed n kind line) = Unit {0}
Fits (Gave a) = Unit {0}

goes_fits : {A B : Type 0} (w : Option Overflow) (e : End A) (g : A → Outcome B) → Fits e → ((a : A) → Fits (g a).end) → Fits (goes_on w e g).end
goes_fits w Misfit g x k = x
goes_fits w (Failed n kind line) g x k = tt
goes_fits w (Gave a) g x k = k a

pub after_fits : {A B : Type 0} (o : Outcome A) (g : A → Outcome B) → Fits o.end → ((a : A) → Fits (g a).end) → Fits (after o g).end
after_fits o g x k = goes_fits o.overflow o.end g x k

pub check_fits : {A : Type 0} (at_ : Spot) (b : Bool) (n : ℕ) (kind : CheckKind) (o : Outcome A) → Fits o.end → Fits (check at_ b n kind o).end
check_fits at_ true n kind o x = x
check_fits at_ false n kind o x = tt

pub check_specs_fits : {A : Type 0} (at_ : Spot) (ts : List Tested) (n : ℕ) (kind : CheckKind) (o : Outcome A) → Fits o.end → Fits (check_specs at_ ts n kind o).end
check_specs_fits at_ [] n kind o x = x
check_specs_fits at_ (t ∷ ts) n kind o x = check_fits at_ t.holds n kind (check_specs at_ ts (n + 1) kind o) (check_specs_fits at_ ts (n + 1) kind o x)

pub if_fits : {A : Type 0} (b : Bool) (o q : Outcome A) → Fits o.end → Fits q.end → Fits (if b then o else q).end
if_fits true o q x y = x
if_fits false o q x y = y

module _ (p : Program) (at_ : Spot) (h : Heap) (l : List Value) where
  range_fits : (b : Bool) (v : Value) (n : ℕ) → Fits (check at_ b n Range (Gives v)).end
  range_fits b v n = check_fits at_ b n Range (Gives v) tt

  operator_fits : (d z b : Bool) (v : Value) (n : ℕ) → Fits (if d then check at_ z n Divide (check at_ b (n + 1) Range (Gives v)) else check at_ b n Range (Gives v)).end
  operator_fits true z b v n = check_fits at_ z n Divide (check at_ b (n + 1) Range (Gives v)) (range_fits b v (n + 1))
  operator_fits false z b v n = range_fits b v n

  truth_fits : (y : Expr) (n : ℕ) → Fits (eval p at_ h l y n).end → Fits (after (eval p at_ h l y n) (λ w. Gives (says (truth w)))).end
  truth_fits y n x = after_fits (eval p at_ h l y n) (λ w. Gives (says (truth w))) x (λ w. tt)

  pub eval_fits : (e : Expr) (n : ℕ) → Fits (eval p at_ h l e n).end
  eval_fits (Number z) n = tt
  eval_fits Null n = tt
  eval_fits (Variable i) n = tt
  eval_fits (Field' q e f) n = after_fits (eval p at_ h l e n) (λ v. check at_ (readable p at_ h (referent v) f) (n + checks e) Read (Gives (read p h (referent v) f))) (eval_fits e n) (λ v. check_fits at_ (readable p at_ h (referent v) f) (n + checks e) Read (Gives (read p h (referent v) f)) tt)
  eval_fits (Not' q e) n = after_fits (eval p at_ h l e n) (λ v. Gives (says (not (truth v)))) (eval_fits e n) (λ v. tt)
  eval_fits (Negate' q e c) n = after_fits (eval p at_ h l e n) (λ v. check at_ (in_range c (pos 0 -ℤ int v)) (n + checks e) Range (Gives (Int (pos 0 -ℤ int v)))) (eval_fits e n) (λ v. range_fits (in_range c (pos 0 -ℤ int v)) (Int (pos 0 -ℤ int v)) (n + checks e))
  eval_fits (Arithmetic' op q a r b c) n =
      after_fits (eval p at_ h l a n) (λ v. after (eval p at_ h l b (n + checks a)) (λ w. arithmetic at_ op c (int v) (int w) (n + checks a + checks b))) (eval_fits a n) (λ v.
      after_fits (eval p at_ h l b (n + checks a)) (λ w. arithmetic at_ op c (int v) (int w) (n + checks a + checks b)) (eval_fits b (n + checks a)) (λ w.
      operator_fits (divides op) (not (is_zero_int (int w))) (in_range c (checked_result op (int v) (int w))) (Int (compute op (int v) (int w))) (n + checks a + checks b)))
  eval_fits (Compare' k q a r b) n =
      after_fits (eval p at_ h l a n) (λ v. after (eval p at_ h l b (n + checks a)) (λ w. Gives (says (compare k v w)))) (eval_fits a n) (λ v.
      after_fits (eval p at_ h l b (n + checks a)) (λ w. Gives (says (compare k v w))) (eval_fits b (n + checks a)) (λ w. tt))
  eval_fits (And' q a r b) n =
      let right = after (eval p at_ h l b (n + checks a)) (λ w. Gives (says (truth w))) in
      after_fits (eval p at_ h l a n) (λ v. if truth v then right else Gives (says false)) (eval_fits a n) (λ v. if_fits (truth v) right (Gives (says false)) (truth_fits b (n + checks a) (eval_fits b (n + checks a))) tt)
  eval_fits (Or' q a r b) n =
      let right = after (eval p at_ h l b (n + checks a)) (λ w. Gives (says (truth w))) in
      after_fits (eval p at_ h l a n) (λ v. if truth v then Gives (says true) else right) (eval_fits a n) (λ v. if_fits (truth v) (Gives (says true)) right tt (truth_fits b (n + checks a) (eval_fits b (n + checks a))))
  eval_fits (Choose' q a r b t c) n =
      let left = eval p at_ h l b (n + checks a) in
      let right = eval p at_ h l c (n + checks a + checks b) in
      after_fits (eval p at_ h l a n) (λ v. if truth v then left else right) (eval_fits a n) (λ v. if_fits (truth v) left right (eval_fits b (n + checks a)) (eval_fits c (n + checks a + checks b)))
  eval_fits (Convert' q e c) n = after_fits (eval p at_ h l e n) (λ v. converted at_ c v (n + checks e)) (eval_fits e n) (λ v. range_fits (in_range c (int v)) v (n + checks e))

  pub evals_fit : (es : List Expr) (n : ℕ) → Fits (eval_all p at_ h l es n).end
  evals_fit [] n = tt
  evals_fit (e ∷ es) n =
      after_fits (eval p at_ h l e n) (λ v. after (eval_all p at_ h l es (n + checks e)) (λ vs. Gives (v ∷ vs))) (eval_fits e n) (λ v.
      after_fits (eval_all p at_ h l es (n + checks e)) (λ vs. Gives (v ∷ vs)) (evals_fit es (n + checks e)) (λ vs. tt))

abbrev pub NotFailed : {A : Type 0} → End A → Type 0
NotFailed Misfit = Unit {0}
NotFailed (Failed n kind line) = ⊥
NotFailed (Gave a) = Unit {0}

abbrev pub Calm : {A : Type 0} → Comes A → Type 0
Calm Waits = Unit {0}
Calm (Fails kind line) = ⊥
Calm (Yields a) = Unit {0}

-- where the machine's turn has choices that fit and isn't a fault, and the plain one yields what it gives, the plain one is no fault
pub calm : {A B : Type 0} (e : End A) (c : Comes B) (to : A → B) → Fits e → NotFailed e → OnEnd e (λ a. c ≡ Yields (to a)) → Calm c
calm Misfit c to x y z = absurd x
calm (Failed n kind line) c to x y z = absurd y
calm (Gave a) c to x y z = subst Calm (sym z) tt
