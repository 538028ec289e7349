-- Outcomes that fail no check.
use Rattle.std.proofs.Common.{◌≡◌, ℕ, ◌+◌, Bool, true, false, cond, refl, sym, subst, List, [], ◌∷◌, Option}
use Rattle.method.specs.declared.program.CheckKind.{CheckKind}
use Rattle.object_types.specs.Sets.{every}
use Rattle.method.specs.Expressions.{End, Misfit, Failed, Gave, Outcome, after, goes_on, Unfit, Gives, Spot, Tested, check, check_each, check_spec, check_specs}
use Rattle.method.specs.Actions.{fitting}
use Rattle.method.specs.SafeRuns.{Passes, PassesEnd}
use Rattle.method.specs.Overflow.{Overflow}
use Rattle.method.proofs.Global.{and_both}

-- whatever the number, no check with it fails, and this holds of what comes out
pub record Passing {A : Type 0} (label : ℕ) (rest : A → Type 0) (o : Outcome A) : Type 0 where
  pub passes : Passes label o rest

-- an outcome that gives this goes on as what comes behind
pub pass_then : {A B : Type 0} (label : ℕ) (rest : B → Type 0) (o : Outcome A) (f : A → Outcome B) (a : A) → o.end ≡ Gave a → Passing label rest (f a) → Passing label rest (after o f)
pass_then label rest o f a e x = record { passes = subst (λ z. Passes label (goes_on o.overflow z f) rest) (sym e) x.passes }

pub pass_gave : {A : Type 0} (label : ℕ) (rest : A → Type 0) (o : Outcome A) (a : A) → o.end ≡ Gave a → rest a → Passing label rest o
pass_gave label rest o a e x = record { passes = subst (λ z. PassesEnd label z rest) (sym e) x }

pub then_gives : {A B : Type 0} (o : Outcome A) (f : A → Outcome B) (a : A) (b : B) → o.end ≡ Gave a → (f a).end ≡ Gave b → (after o f).end ≡ Gave b
then_gives o f a b e g = subst (λ z. (goes_on o.overflow z f).end ≡ Gave b) (sym e) g

goes_on_passes : {A B : Type 0} (label : ℕ) (rest : B → Type 0) (w : Option Overflow) (e : End A) (f : A → Outcome B) → PassesEnd label e (λ a. Passes label (f a) rest) →
    Passes label (goes_on w e f) rest
goes_on_passes label rest w Misfit f x = tt
goes_on_passes label rest w (Failed n kind line) f x = x
goes_on_passes label rest w (Gave a) f x = x

inner_passes : {A B : Type 0} (label : ℕ) (rest : B → Type 0) (f : A → Outcome B) (e : End A) → PassesEnd label e (λ a. Passing label rest (f a)) → PassesEnd label e (λ a. Passes label (f a) rest)
inner_passes label rest f Misfit x = tt
inner_passes label rest f (Failed n kind line) x = x
inner_passes label rest f (Gave a) x = x.passes

pub pass_after : {A B : Type 0} (label : ℕ) (rest : B → Type 0) (o : Outcome A) (f : A → Outcome B) → Passing label (λ a. Passing label rest (f a)) o → Passing label rest (after o f)
pass_after label rest o f x = record { passes = goes_on_passes label rest o.overflow o.end f (inner_passes label rest f o.end x.passes) }

pub check_gives : {A : Type 0} (at_ : Spot) (b : Bool) (n : ℕ) (kind : CheckKind) (o : Outcome A) (a : A) → b ≡ true → o.end ≡ Gave a → (check at_ b n kind o).end ≡ Gave a
check_gives at_ true n kind o a e g = g
check_gives at_ false n kind o a e g = absurd (cc)

module _ {A : Type 0} (label : ℕ) (rest : A → Type 0) where
  pub pass_gives : (a : A) → rest a → Passing label rest (Gives a)
  pass_gives a x = record { passes = x }

  pub pass_unfit : Passing label rest (Unfit {A = A})
  pass_unfit = record { passes = tt }

  pub pass_fitting : (b : Bool) (o : Outcome A) → (b ≡ true → Passing label rest o) → Passing label rest (fitting b o)
  pass_fitting true o x = x refl
  pass_fitting false o x = record { passes = tt }

  pub pass_if : (b : Bool) (o u : Outcome A) → (b ≡ true → Passing label rest o) → (b ≡ false → Passing label rest u) → Passing label rest (cond b o u)
  pass_if true o u x y = x refl
  pass_if false o u x y = y refl

  pub pass_check : (at_ : Spot) (b : Bool) (n : ℕ) (kind : CheckKind) (o : Outcome A) → b ≡ true → Passing label rest o → Passing label rest (check at_ b n kind o)
  pass_check at_ true n kind o e x = x
  pass_check at_ false n kind o e x = absurd (cc)

  pub pass_spec : (at_ : Spot) (t : Tested) (n : ℕ) (kind : CheckKind) (o : Outcome A) → t.holds ≡ true → Passing label rest o → Passing label rest (check_spec at_ t n kind o)
  pass_spec at_ t n kind o e x = record { passes = (pass_check at_ t.holds n kind o e x).passes }

  pub pass_each : (at_ : Spot) (bs : List Bool) (n : ℕ) (kind : CheckKind) (o : Outcome A) → every (λ b. b) bs ≡ true → Passing label rest o → Passing label rest (check_each at_ bs n kind o)
  pass_each at_ [] n kind o e x = x
  pass_each at_ (b ∷ bs) n kind o e x = let y = and_both b (every (λ b. b) bs) e in pass_check at_ b n kind (check_each at_ bs (n + 1) kind o) y.0 (pass_each at_ bs (n + 1) kind o y.1 x)

  pub pass_specs : (at_ : Spot) (ts : List Tested) (n : ℕ) (kind : CheckKind) (o : Outcome A) → every (λ (t : Tested). t.holds) ts ≡ true → Passing label rest o →
      Passing label rest (check_specs at_ ts n kind o)
  pass_specs at_ [] n kind o e x = x
  pass_specs at_ (t ∷ ts) n kind o e x = let y = and_both t.holds (every (λ (t : Tested). t.holds) ts) e in pass_spec at_ t n kind (check_specs at_ ts (n + 1) kind o) y.0
      (pass_specs at_ ts (n + 1) kind o y.1 x)
