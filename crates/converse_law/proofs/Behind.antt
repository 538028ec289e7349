-- A run behind a path, in one environment: where what the path says is known the run goes along it, and where a check of the path isn't known true the run fails there.
use Rattle.std.proofs.Common.{◌≡◌, ℕ, suc, ◌+◌, ⊎_elim, Bool, true, false, List, [], ◌∷◌, length, map, refl, ap, sym, ◌∙◌, subst, arith}
use Rattle.object_types.specs.declared.references.Ref.{Ref}
use Rattle.object_types.specs.Sets.{every}
use Rattle.method.specs.declared.program.CheckKind.{CheckKind}
use Rattle.method.specs.Expressions as m
use Rattle.method.specs.Expressions.{Spot as MachineSpot, Outcome, Tested, End, Misfit, Failed, Gave}
use Rattle.method.specs.LocalRuns.{FailsAt}
use Rattle.method.proofs.Global.{both_and}
use Rattle.terms.specs.Formula.{Formula}
use Rattle.term_meaning.specs.Meaning.{Language}
use Rattle.conditions.specs.Paths.{Path, Execution, Gives, after, check, check_each, fact, standalone, facts, checks}
use Rattle.conditions.specs.Ways.{AllHold, FailsIn}
use Rattle.conditions.proofs.FromRuns.{Count, IsWithin}
use Rattle.conditions.proofs.PathTests.{AllAre, IsChecks}
use Rattle.conditions.proofs.Tests.{after_gave}
use Rattle.conditions.proofs.Ways.{facts_apart, fails_joined}
use Rattle.conditions.proofs.WaysBetween.{all_between, fails_between}
use Rattle.condition_meaning.proofs.Environments.{Environment, Holds, Is, is_false}
use Rattle.condition_meaning.proofs.Known.{Known, known_by, known_holds, unknown_fails}
use Rattle.block_conditions.proofs.Beside.{Beside}
use Rattle.converse_law.proofs.ChecksOnly.{Fits, none_false, one_false, so_already}
use Rattle.converse_law.proofs.Paths.{Knows, at_number, fails_front, fails_behind}

module _ (l : Language) (T : Ref) (e : Environment l T) where
  abbrev All : List Formula → Type 0
  All = AllHold (Unit {0}) (Knows l T e) tt

  abbrev FailsOn : ℕ → ℕ → Path → Type 0
  FailsOn label n q = FailsIn (Unit {0}) (Knows l T e) label n q tt

  -- the outcome behind the path, whose first check has number n; what it gives is so
  pub record Behind {A B : Type 0} (n : ℕ) (u : Execution B) (o : Outcome A) (After : A → Type 0) : Type 0 where
    pub goes : All (facts u.path) → (a : A) × (o.end ≡ Gave a) × After a
    pub fails : (label : ℕ) → FailsOn label n u.path → FailsAt label o

  pub behind_after : {A B C D : Type 0} (n k : ℕ) (u : Execution B) (g : B → Execution D) (o : Outcome A) (r : A → Outcome C) (Mid : A → Type 0) (After : C → Type 0) → k ≡ n + checks u.path → Behind n u o Mid → ((a : A) → o.end ≡ Gave a → Mid a → Behind k (g u.gives) (r a) After) → Behind n (after u g) (m.after o r) After
  behind_after n k u g o r Mid After place first rest = record {
    goes = λ all.
        let two = facts_apart (Unit {0}) (Knows l T e) u.path (g u.gives).path tt all in
        let x = first.goes two.0 in
        let y = (rest x.0 x.1 x.2).goes two.1 in
        (y.0, after_gave o r x.0 x.1 ∙ y.1, y.2);
    fails = λ label y. ⊎_elim
        (λ i. fails_front label o r (first.fails label i))
        (λ i. let x = first.goes i.0 in fails_behind label o r x.0 x.1 ((rest x.0 x.1 x.2).fails label (at_number (Unit {0}) (Knows l T e) tt label (n + checks u.path) k (g u.gives).path (sym place) i.1)))
        (fails_joined (Unit {0}) (Knows l T e) label n u.path (g u.gives).path tt y);
  }

  pub behind_gives : {A B : Type 0} (n : ℕ) (b : B) (a : A) (After : A → Type 0) → After a → Behind n (Gives b) (m.Gives a) After
  behind_gives n b a After done = record { goes = λ all. (a, refl, done); fails = λ label y. absurd y }

  pub behind_less : {A B : Type 0} (n : ℕ) (u : Execution B) (o : Outcome A) (More After : A → Type 0) → ((a : A) → o.end ≡ Gave a → More a → After a) → Behind n u o More → Behind n u o After
  behind_less n u o More After less b = record { goes = λ all. let x = b.goes all in (x.0, x.1, less x.0 x.1 x.2); fails = λ label y. b.fails label y }

  behind_check : {A B : Type 0} (at_ : MachineSpot) (b : Bool) (n k : ℕ) (kind : CheckKind) (g : Formula) (u : Execution B) (o : Outcome A) (After : A → Type 0) → k ≡ n + 1 → Is l T e g b → (b ≡ true → Behind k u o After) → Behind n (check g u) (m.check at_ b n kind o) After
  behind_check at_ true n k kind g u o After place is rest = record {
    goes = λ all. (rest refl).goes all.1;
    fails = λ label y. ⊎_elim (λ z. absurd (z.1 (known_by l T e g true is refl))) (λ z. (rest refl).fails label (at_number (Unit {0}) (Knows l T e) tt label (suc n) k u.path (omega (arith, place)) z.1)) y;
  }
  behind_check at_ false n k kind g u o After place is rest = record {
    goes = λ all. absurd (is_false l T e g is (known_holds l T e g all.0));
    fails = λ label y. ⊎_elim (λ z. (kind, at_.line, ap (λ i. (m.check at_ false i kind o).end) z.0)) (λ z. absurd (is_false l T e g is (known_holds l T e g z.0))) y;
  }

  -- checks one after the other, each of a test
  pub behind_each : {A B : Type 0} (at_ : MachineSpot) (bs : List Bool) (n k : ℕ) (kind : CheckKind) (fs : List Formula) (u : Execution B) (o : Outcome A) (After : A → Type 0) → k ≡ n + length bs → AllAre (Is l T e) fs bs → (every (λ b. b) bs ≡ true → Behind k u o After) → Behind n (check_each fs u) (m.check_each at_ bs n kind o) After
  behind_each at_ [] n k kind [] u o After place are rest = subst (λ i. Behind i u o After) (place ∙ omega arith) (rest refl)
  behind_each at_ [] n k kind (f ∷ fs) u o After place are rest = absurd are
  behind_each at_ (b ∷ bs) n k kind [] u o After place are rest = absurd are
  behind_each at_ (b ∷ bs) n k kind (f ∷ fs) u o After place are rest =
      behind_check at_ b n (n + 1) kind f (check_each fs u) (m.check_each at_ bs (n + 1) kind o) After refl are.0 (λ y. behind_each at_ bs (n + 1) k kind fs u o After (place ∙ omega arith) are.1 (λ z. rest (both_and b (every (λ b. b) bs) y z)))

  -- a path of checks alone, which makes no constant, where the outcome is one that comes to an end: the environment says which
  pub behind_one : {A B : Type 0} (n : ℕ) (c d : Count) (u : Execution B) (o : Outcome A) (Before : Environment l T → Type 0) (After : A → Environment l T → Type 0) → IsChecks u.path → IsWithin d c → Fits o → Beside l T n c d u o Before After → Before e → Behind n u o (λ a. After a e)
  behind_one {A} {B} n c d u o Before After only within ends beside before =
      record { goes = λ all. by_goes o.end refl (all_between (Unit {0}) tt (Knows l T e) (Environment l T) e (Holds l T) (known_holds l T e) (facts u.path) all); fails = λ label y. by_fails label o.end refl (fails_between (Unit {0}) tt (Knows l T e) (Environment l T) e (Holds l T) (known_holds l T e) (unknown_fails l T e) label n u.path y) }
    where
      passes : (a : A) → o.end ≡ Gave a → AllHold (Environment l T) (Holds l T) e (facts u.path) × After a e
      passes a is = let k = beside.goes a is in k.passes e (so_already l T c d within k.extension e) before

      breaks : (label : ℕ) → FailsAt label o → FailsIn (Environment l T) (Holds l T) label n u.path e
      breaks label is = let k = beside.fails label is in k.breaks e (so_already l T c d within k.extension e) before

      by_goes : (w : End A) → o.end ≡ w → AllHold (Environment l T) (Holds l T) e (facts u.path) → (a : A) × (o.end ≡ Gave a) × After a e
      by_goes Misfit is all = absurd (ends is)
      by_goes (Failed label kind line) is all = absurd (none_false (Environment l T) (Holds l T) e label n u.path only all (breaks label (kind, line, is)))
      by_goes (Gave a) is all = (a, is, (passes a is).1)

      by_fails : (label : ℕ) (w : End A) → o.end ≡ w → FailsIn (Environment l T) (Holds l T) label n u.path e → FailsAt label o
      by_fails label Misfit is fails = absurd (ends is)
      by_fails label (Failed other kind line) is fails = (kind, line, is ∙ ap (λ k. Failed k kind line) (one_false (Environment l T) (Holds l T) e other label n u.path only (breaks other (kind, line, is)) fails))
      by_fails label (Gave a) is fails = absurd (none_false (Environment l T) (Holds l T) e label n u.path only (passes a is).0 fails)

  -- annotations' checks one after the other, each of a test
  pub behind_specs : {A B : Type 0} (at_ : MachineSpot) (ts : List Tested) (n k : ℕ) (kind : CheckKind) (fs : List Formula) (u : Execution B) (o : Outcome A) (After : A → Type 0) → k ≡ n + length ts → AllAre (Is l T e) fs (map (λ (t : Tested). t.holds) ts) → (every (λ (t : Tested). t.holds) ts ≡ true → Behind k u o After) → Behind n (check_each fs u) (m.check_specs at_ ts n kind o) After
  behind_specs at_ [] n k kind [] u o After place are rest = subst (λ i. Behind i u o After) (place ∙ omega arith) (rest refl)
  behind_specs at_ [] n k kind (f ∷ fs) u o After place are rest = absurd are
  behind_specs at_ (t ∷ ts) n k kind [] u o After place are rest = absurd are
  behind_specs at_ (t ∷ ts) n k kind (f ∷ fs) u o After place are rest =
      let b = behind_check at_ t.holds n (n + 1) kind f (check_each fs u) (m.check_specs at_ ts (n + 1) kind o) After refl are.0 (λ y. behind_specs at_ ts (n + 1) k kind fs u o After (place ∙ omega arith) are.1 (λ z. rest (both_and t.holds (every (λ (s : Tested). s.holds) ts) y z))) in
      record { goes = λ all. b.goes all; fails = λ label y. b.fails label y }

  -- behind a check that stands alone, of which nothing is known
  pub behind_alone : {A B : Type 0} (n k : ℕ) (g : Formula) (u : Execution B) (o : Outcome A) (After : A → Type 0) → k ≡ n + 1 → Behind k u o After → Behind n (standalone g u) o After
  behind_alone n k g u o After place b = record { goes = λ all. b.goes all; fails = λ label y. b.fails label (at_number (Unit {0}) (Knows l T e) tt label (suc n) k u.path (omega (arith, place)) y) }

  -- behind a fact of new constants, from which it is known what the run takes
  pub behind_new : {A B C : Type 0} (n : ℕ) (g : Formula) (u : Execution B) (o : Outcome A) (r : A → Outcome C) (After : C → Type 0) → (Known l T e g → (a : A) × (o.end ≡ Gave a) × Behind n u (r a) After) → Behind n (fact g u) (m.after o r) After
  behind_new n g u o r After taken = record {
    goes = λ all. let x = taken all.0 in let y = x.2.goes all.1 in (y.0, after_gave o r x.0 x.1 ∙ y.1, y.2);
    fails = λ label y. let x = taken y.0 in fails_behind label o r x.0 x.1 (x.2.fails label y.1);
  }
