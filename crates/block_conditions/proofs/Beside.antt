-- Outcomes of the machine beside paths of checks and facts: what the one comes to, the other goes along.
use Rattle.std.proofs.Common.{◌≡◌, ℕ, suc, ◌+◌, inl, inr, ⊎_elim, Bool, true, false, List, [], ◌∷◌, map, length, refl, ◌∙◌, subst, arith}
use Rattle.action_conditions.proofs.Goes.{no_extension, both_extensions}
use Rattle.condition_walks.proofs.Checks.{gave_both}
use Rattle.object_types.specs.declared.references.Ref.{Ref}
use Rattle.method.specs.declared.program.CheckKind.{CheckKind}
use Rattle.method.specs.Expressions as m
use Rattle.method.specs.Expressions.{Outcome, Spot, Tested, Misfit, Gave, Failed}
use Rattle.method.specs.LocalRuns.{FailsAt}
use Rattle.terms.specs.Formula.{Formula}
use Rattle.term_meaning.specs.Meaning.{Language}
use Rattle.conditions.specs.Paths.{Execution, Gives, after, check, check_each, fact, all_facts, standalone, facts, checks}
use Rattle.conditions.specs.Ways.{AllHold, FailsIn}
use Rattle.conditions.proofs.Tests.{Ends, ends_gave, ends_failed}
use Rattle.conditions.proofs.PathTests.{AllAre, HasTests, tested_has_tests, tested_holds, tested_fails}
use Rattle.object_types.specs.Sets.{every}
use Rattle.method.proofs.Global.{both_and}
use Rattle.conditions.proofs.Ways.{facts_both, fails_first, fails_then}
use Rattle.conditions.proofs.FromRuns.{Count, IsWithin, within_self, within_then, fails_either}
use Rattle.conditions.proofs.FromRuns as runs
use Rattle.condition_meaning.proofs.Environments.{Environment, Agree, agree_self, agree_then, agree_less, Holds, Is, holds_is, is_false}
use Rattle.condition_meaning.proofs.Extensions.{Extension}
use Rattle.block_conditions.proofs.Outcomes.{failed_number, gave_not_failed}

module _ (l : Language) (t : Ref) where
  abbrev E : Type 0
  E = Environment l t

  -- all these formulas hold
  abbrev pub All : E → List Formula → Type 0
  All = AllHold E (Holds l t)

  -- the check with this number on the path fails
  abbrev pub Fails : ℕ → ℕ → E → {B : Type 0} → Execution B → Type 0
  Fails label n e u = FailsIn E (Holds l t) label n u.path e

  -- these formulas have these truth values
  abbrev pub Are : E → List Formula → List Bool → Type 0
  Are e = AllAre (Is l t e)

  -- something passes along the path, where this is so before and that after
  pub record Passes {B : Type 0} (c d : Count) (u : Execution B) (Before After : E → Type 0) : Type 1 where
    pub extension : Extension l t c d
    pub passes : (e : E) → extension.So e → Before e → All e (facts u.path) × After e

  -- the check with this number on the path is false
  pub record Breaks {B : Type 0} (label n : ℕ) (c d : Count) (u : Execution B) (Before : E → Type 0) : Type 1 where
    pub extension : Extension l t c d
    pub breaks : (e : E) → extension.So e → Before e → Fails label n e u

  -- The outcome beside the path, whose first check has number n and which makes the constants from c to d.
  pub record Beside {A B : Type 0} (n : ℕ) (c d : Count) (u : Execution B) (o : Outcome A) (Before : E → Type 0) (After : A → E → Type 0) : Type 1 where
    pub goes : (a : A) → o.end ≡ Gave a → Passes c d u Before (After a)
    pub fails : (label : ℕ) → FailsAt label o → Breaks label n c d u Before

  -- One after the other.

  pub passes_after : {B D : Type 0} (c d k : Count) (u : Execution B) (g : B → Execution D) (Before Mid After : E → Type 0) → Passes c d u Before Mid → Passes d k (g u.gives) (λ e. Before e × Mid e) After → Passes c k (after u g) Before After
  unfolding runs.both_extensions
  passes_after c d k u g Before Mid After x y =
      record {
        extension = both_extensions l t c d k x.extension y.extension;
        passes = λ e so b. let z = x.passes e so.0 b in let w = y.passes e so.1 (b, z.1) in (facts_both E (Holds l t) u.path (g u.gives).path e z.0 w.0, w.1);
      }

  at_number : (label n m : ℕ) (e : E) {B : Type 0} (u : Execution B) → n ≡ m → Fails label n e u → Fails label m e u
  at_number label n m e u same f = subst (λ (i : ℕ). Fails label i e u) same f

  pub beside_after : {A B C D : Type 0} (n k : ℕ) (c d b : Count) (u : Execution B) (g : B → Execution D) (o : Outcome A) (r : A → Outcome C) (Before : E → Type 0) (Mid : A → E → Type 0) (After : C → E → Type 0)
      → k ≡ n + checks u.path → IsWithin d b
      → Beside n c d u o Before Mid
      → ((a : A) → o.end ≡ Gave a → Beside k d b (g u.gives) (r a) (λ e. Before e × Mid a e) After)
      → Beside n c b (after u g) (m.after o r) Before After
  unfolding runs.both_extensions runs.no_extension
  beside_after n k c d b u g o r Before Mid After place within x y = record {
    goes = λ z is. let w = gave_both o r z is in passes_after c d b u g Before (Mid w.0) (After z) (x.goes w.0 w.1) ((y w.0 w.1).goes z w.2);
    fails = λ label f. ⊎_elim
        (λ i. let q = x.fails label i in record {
          extension = both_extensions l t c d b q.extension (no_extension l t d b within);
          breaks = λ e so before. fails_first E (Holds l t) label n u.path (g u.gives).path e (q.breaks e so.0 before);
        })
        (λ i. let q = x.goes i.0 i.1 in let s = (y i.0 i.1).fails label i.2 in record {
          extension = both_extensions l t c d b q.extension s.extension;
          breaks = λ e so before. let z = q.passes e so.0 before in fails_then E (Holds l t) label n u.path (g u.gives).path e z.0 (at_number label k (n + checks u.path) e (g u.gives) place (s.breaks e so.1 (before, z.1)));
        })
        (fails_either label o r f);
  }

  -- Less is known before, more after.
  pub beside_less : {A B : Type 0} (n : ℕ) (c d : Count) (u : Execution B) (o : Outcome A) (Before Less : E → Type 0) (More After : A → E → Type 0) → ((e : E) → Before e → Less e) → ((a : A) → o.end ≡ Gave a → (e : E) → Before e → More a e → After a e) → Beside n c d u o Less More → Beside n c d u o Before After
  beside_less n c d u o Before Less More After less more x = record {
    goes = λ a is. let q = x.goes a is in record { extension = q.extension; passes = λ e so b. let z = q.passes e so (less e b) in (z.0, more a is e b z.1) };
    fails = λ label f. let q = x.fails label f in record { extension = q.extension; breaks = λ e so b. q.breaks e so (less e b) };
  }

  -- What is given at once.
  pub beside_gives : {A B : Type 0} (n : ℕ) (c : Count) (b : B) (a : A) (Before : E → Type 0) (After : A → E → Type 0) → ((e : E) → Before e → After a e) → Beside n c c (Gives b) (m.Gives a) Before After
  unfolding runs.no_extension
  beside_gives n c b a Before After f = record {
    goes = λ z is. let same : a ≡ z = cc in record { extension = no_extension l t c c (within_self c); passes = λ e so before. (tt, subst (λ y. After y e) same (f e before)) };
    fails = λ label f. absurd (gave_not_failed (m.Gives a).end a label f.0 f.1 refl f.2);
  }

  -- A check.
  pub beside_check : {A B : Type 0} (at_ : Spot) (b : Bool) (n k : ℕ) (c d : Count) (kind : CheckKind) (g : Formula) (u : Execution B) (o : Outcome A) (Before : E → Type 0) (After : A → E → Type 0)
      → k ≡ n + 1 → IsWithin c d
      → ((e : E) → Before e → Is l t e g b)
      → (b ≡ true → Beside k c d u o Before After)
      → Beside n c d (check g u) (m.check at_ b n kind o) Before After
  unfolding runs.no_extension
  beside_check at_ true n k c d kind g u o Before After place within is x = record {
    goes = λ a i. let q = (x refl).goes a i in record { extension = q.extension; passes = λ e so before. let z = q.passes e so before in ((holds_is l t e g (is e before), z.0), z.1) };
    fails = λ label f. let q = (x refl).fails label f in record { extension = q.extension; breaks = λ e so before. inr (holds_is l t e g (is e before), at_number label k (suc n) e u (place ∙ omega arith) (q.breaks e so before)) };
  }
  beside_check at_ false n k c d kind g u o Before After place within is x = record {
    goes = λ a i. absurd (gave_not_failed (m.check at_ false n kind o).end a n kind at_.line i refl);
    fails = λ label f. record { extension = no_extension l t c d within; breaks = λ e so before. inl (failed_number n label kind f.0 at_.line f.1 (m.check at_ false n kind o).end refl f.2, is_false l t e g (is e before)) };
  }

  pub beside_spec : {A B : Type 0} (at_ : Spot) (b : Tested) (n k : ℕ) (c d : Count) (kind : CheckKind) (g : Formula) (u : Execution B) (o : Outcome A) (Before : E → Type 0) (After : A → E → Type 0)
      → k ≡ n + 1 → IsWithin c d
      → ((e : E) → Before e → Is l t e g b.holds)
      → (b.holds ≡ true → Beside k c d u o Before After)
      → Beside n c d (check g u) (m.check_spec at_ b n kind o) Before After
  beside_spec at_ b n k c d kind g u o Before After place within is x =
      let y = beside_check at_ b.holds n k c d kind g u o Before After place within is x in
      record { goes = λ a i. y.goes a i; fails = λ label f. y.fails label f }

  -- Checks one after the other, each of a test.

  pub beside_each : {A B : Type 0} (at_ : Spot) (bs : List Bool) (n k : ℕ) (c d : Count) (kind : CheckKind) (fs : List Formula) (u : Execution B) (o : Outcome A) (Before : E → Type 0) (After : A → E → Type 0)
      → k ≡ n + length bs → IsWithin c d
      → ((e : E) → Before e → Are e fs bs)
      → (every (λ b. b) bs ≡ true → Beside k c d u o Before After)
      → Beside n c d (check_each fs u) (m.check_each at_ bs n kind o) Before After
  beside_each at_ [] n k c d kind [] u o Before After place within are x = subst (λ i. Beside i c d u o Before After) (place ∙ omega arith) (x refl)
  beside_each at_ [] n k c d kind (f ∷ fs) u o Before After place within are x = record {
    goes = λ a i. let q = (x refl).goes a i in record { extension = q.extension; passes = λ e so before. absurd (are e before) };
    fails = λ label i. let q = (x refl).fails label i in record { extension = q.extension; breaks = λ e so before. absurd (are e before) };
  }
  beside_each at_ (b ∷ bs) n k c d kind [] u o Before After place within are x = record {
    goes = λ a i. record { extension = no_extension l t c d within; passes = λ e so before. absurd (are e before) };
    fails = λ label i. record { extension = no_extension l t c d within; breaks = λ e so before. absurd (are e before) };
  }
  beside_each at_ (b ∷ bs) n k c d kind (f ∷ fs) u o Before After place within are x =
      beside_check at_ b n (n + 1) c d kind f (check_each fs u) (m.check_each at_ bs (n + 1) kind o) Before After refl within (λ e before. (are e before).0) (λ y.
      beside_each at_ bs (n + 1) k c d kind fs u o Before After (place ∙ omega arith) within (λ e before. (are e before).1) (λ z. x (both_and b (every (λ b. b) bs) y z)))

  -- whether each test holds
  abbrev pub tests_of : List Tested → List Bool
  tests_of = map (λ s. s.holds)

  pub beside_specs : {A B : Type 0} (at_ : Spot) (ts : List Tested) (n k : ℕ) (c d : Count) (kind : CheckKind) (fs : List Formula) (u : Execution B) (o : Outcome A) (Before : E → Type 0) (After : A → E → Type 0)
      → k ≡ n + length ts → IsWithin c d
      → ((e : E) → Before e → Are e fs (tests_of ts))
      → (every (λ (s : Tested). s.holds) ts ≡ true → Beside k c d u o Before After)
      → Beside n c d (check_each fs u) (m.check_specs at_ ts n kind o) Before After
  beside_specs at_ [] n k c d kind [] u o Before After place within are x = subst (λ i. Beside i c d u o Before After) (place ∙ omega arith) (x refl)
  beside_specs at_ [] n k c d kind (f ∷ fs) u o Before After place within are x = record {
    goes = λ a i. let q = (x refl).goes a i in record { extension = q.extension; passes = λ e so before. absurd (are e before) };
    fails = λ label i. let q = (x refl).fails label i in record { extension = q.extension; breaks = λ e so before. absurd (are e before) };
  }
  beside_specs at_ (s ∷ ts) n k c d kind [] u o Before After place within are x = record {
    goes = λ a i. record { extension = no_extension l t c d within; passes = λ e so before. absurd (are e before) };
    fails = λ label i. record { extension = no_extension l t c d within; breaks = λ e so before. absurd (are e before) };
  }
  beside_specs at_ (s ∷ ts) n k c d kind (f ∷ fs) u o Before After place within are x =
      beside_spec at_ s n (n + 1) c d kind f (check_each fs u) (m.check_specs at_ ts (n + 1) kind o) Before After refl within (λ e before. (are e before).0) (λ y.
      beside_specs at_ ts (n + 1) k c d kind fs u o Before After (place ∙ omega arith) within (λ e before. (are e before).1) (λ z. x (both_and s.holds (every (λ (s : Tested). s.holds) ts) y z)))

  -- A check that stands alone; a fact; a step of the machine without checks.

  pub beside_alone : {A B : Type 0} (n k : ℕ) (c d : Count) (g : Formula) (u : Execution B) (o : Outcome A) (Before : E → Type 0) (After : A → E → Type 0) → k ≡ n + 1 → Beside k c d u o Before After → Beside n c d (standalone g u) o Before After
  beside_alone n k c d g u o Before After place x = record {
    goes = λ a i. let q = x.goes a i in record { extension = q.extension; passes = q.passes };
    fails = λ label f. let q = x.fails label f in record { extension = q.extension; breaks = λ e so before. at_number label k (suc n) e u (place ∙ omega arith) (q.breaks e so before) };
  }

  pub beside_fact : {A B : Type 0} (n : ℕ) (c d : Count) (g : Formula) (u : Execution B) (o : Outcome A) (Before : E → Type 0) (After : A → E → Type 0) → ((e : E) → Before e → Holds l t e g) → Beside n c d u o Before After → Beside n c d (fact g u) o Before After
  beside_fact n c d g u o Before After holds x = record {
    goes = λ a i. let q = x.goes a i in record { extension = q.extension; passes = λ e so before. let z = q.passes e so before in ((holds e before, z.0), z.1) };
    fails = λ label f. let q = x.fails label f in record { extension = q.extension; breaks = λ e so before. (holds e before, q.breaks e so before) };
  }

  pub beside_facts : {A B : Type 0} (n : ℕ) (c d : Count) (gs : List Formula) (u : Execution B) (o : Outcome A) (Before : E → Type 0) (After : A → E → Type 0) → ((e : E) → Before e → All e gs) → Beside n c d u o Before After → Beside n c d (all_facts gs u) o Before After
  beside_facts n c d [] u o Before After holds x = x
  beside_facts n c d (g ∷ gs) u o Before After holds x = beside_fact n c d g (all_facts gs u) o Before After (λ e b. (holds e b).0) (beside_facts n c d gs u o Before After (λ e b. (holds e b).1) x)

  -- constants made on the way can be what they should
  pub beside_made : {A B : Type 0} (n : ℕ) (c k d : Count) (x : Extension l t c k) (u : Execution B) (o : Outcome A) (Before : E → Type 0) (After : A → E → Type 0) → Beside n k d u o (λ e. Before e × x.So e) After → Beside n c d u o Before After
  unfolding runs.both_extensions
  beside_made n c k d x u o Before After y = record {
    goes = λ a i. let q = y.goes a i in record { extension = both_extensions l t c k d x q.extension; passes = λ e so before. q.passes e so.1 (before, so.0) };
    fails = λ label f. let q = y.fails label f in record { extension = both_extensions l t c k d x q.extension; breaks = λ e so before. q.breaks e so.1 (before, so.0) };
  }

  pub beside_step : {A B C : Type 0} (n : ℕ) (c d : Count) (u : Execution B) (o : Outcome A) (r : A → Outcome C) (Before : E → Type 0) (After : C → E → Type 0) → ((label : ℕ) → FailsAt label o → ⊥) → ((a : A) → o.end ≡ Gave a → Beside n c d u (r a) Before After) → Beside n c d u (m.after o r) Before After
  beside_step n c d u o r Before After never x = record {
    goes = λ z is. let w = gave_both o r z is in (x w.0 w.1).goes z w.2;
    fails = λ label f. ⊎_elim {A = FailsAt label o} (λ i. absurd (never label i)) (λ i. (x i.0 i.1).fails label i.2) (fails_either label o r f);
  }

  -- An expression: a path of checks, of which each is a test.

  pub beside_tests : {A B : Type 0} (n : ℕ) (c : Count) (u : Execution B) (o : Outcome A) (bs : List Bool) (v : A) (Before : E → Type 0) (After : A → E → Type 0) → Ends bs n v o → ((e : E) → Before e → HasTests (Is l t e) u.path bs × After v e) → Beside n c c u o Before After
  beside_tests n c u o bs v Before After ends told = record {
    goes = λ a is. let w = ends_gave bs n v a o ends is in record {
      extension = no_extension l t c c (within_self c);
      passes = λ e so before. let z = told e before in (tested_holds E e (Holds l t) (Is l t e) (holds_is l t e) (is_false l t e) u.path bs (tested_has_tests (Is l t e) u.path bs z.0) w.0, subst (λ y. After y e) w.1 z.1);
    };
    fails = λ label f. record { extension = no_extension l t c c (within_self c); breaks = λ e so before. let z = told e before in tested_fails E e (Holds l t) (Is l t e) (holds_is l t e) (is_false l t e) label n u.path bs (tested_has_tests (Is l t e) u.path bs z.0) (ends_failed bs n label f.0 f.1 v o ends f.2) };
  }

  -- where nothing is so before
  pub beside_never : {A B : Type 0} (n : ℕ) (c d : Count) (u : Execution B) (o : Outcome A) (Before : E → Type 0) (After : A → E → Type 0) → IsWithin c d → ((e : E) → Before e → ⊥) → Beside n c d u o Before After
  beside_never n c d u o Before After within never = record {
    goes = λ a is. record { extension = no_extension l t c d within; passes = λ e so before. absurd (never e before) };
    fails = λ label f. record { extension = no_extension l t c d within; breaks = λ e so before. absurd (never e before) };
  }

  -- More constants may be counted.
  pub beside_wider : {A B : Type 0} (n : ℕ) (c d k : Count) (u : Execution B) (o : Outcome A) (Before : E → Type 0) (After : A → E → Type 0) → IsWithin d k → Beside n c d u o Before After → Beside n c k u o Before After
  unfolding runs.both_extensions
  beside_wider n c d k u o Before After within x = record {
    goes = λ a is. let q = x.goes a is in record { extension = both_extensions l t c d k q.extension (no_extension l t d k within); passes = λ e so before. q.passes e so.0 before };
    fails = λ label f. let q = x.fails label f in record { extension = both_extensions l t c d k q.extension (no_extension l t d k within); breaks = λ e so before. q.breaks e so.0 before };
  }
