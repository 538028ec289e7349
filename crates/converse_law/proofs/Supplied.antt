-- A run behind a path, where the run takes new references: some choice of them serves, and what is left of it is what one likes.
use Rattle.std.proofs.Common.{◌≡◌, ℕ, suc, ◌+◌, ⊎_elim, Bool, true, false, if◌then◌else◌, List, [], ◌∷◌, length, refl, ap, sym, ◌∙◌, subst, arith}
use Rattle.object_types.specs.declared.references.Ref.{Ref}
use Rattle.object_types.specs.Sets.{every}
use Rattle.method.specs.declared.program.CheckKind.{CheckKind}
use Rattle.method.specs.Expressions as m
use Rattle.method.specs.Expressions.{Spot as MachineSpot, Outcome, End, Misfit, Failed, Gave}
use Rattle.method.specs.Actions.{Progress, Supply, Chosen}
use Rattle.method.specs.LocalRuns.{FailsAt}
use Rattle.method.proofs.Global.{both_and}
use Rattle.terms.specs.Formula.{Formula}
use Rattle.term_meaning.specs.Meaning.{Language}
use Rattle.conditions.specs.Paths.{Path, Execution, Gives, after, check, check_each, facts, checks}
use Rattle.conditions.specs.Ways.{AllHold, FailsIn}
use Rattle.conditions.proofs.PathTests.{AllAre}
use Rattle.conditions.proofs.Tests.{after_gave}
use Rattle.conditions.proofs.Ways.{facts_apart, fails_joined}
use Rattle.condition_meaning.proofs.Environments.{Environment, Is, is_false}
use Rattle.condition_meaning.proofs.Known.{known_by, known_holds}
use Rattle.modular_law.proofs.Ends.{Ends}
use Rattle.modular_law.proofs.Supplies.{Same, Sim, lend}
use Rattle.converse_law.proofs.Behind.{Behind}
use Rattle.converse_law.proofs.Paths.{Knows, at_number, fails_front, fails_behind}

-- what a run gives, a run gives of the references chosen for it
lent : (Ok : Progress → Type 0) (rest : List Ref) (d end : End Progress) (k : Progress) → d ≡ Gave k → Ends (Same lend Ok rest) d end → end ≡ Gave (lend rest k)
lent Ok rest d end k is same = by_end end (subst (λ w. Ends (Same lend Ok rest) w end) is same)
  where
    by_end : (w : End Progress) → Ends (Same lend Ok rest) (Gave k) w → w ≡ Gave (lend rest k)
    by_end Misfit y = absurd y
    by_end (Failed n kind line) y = absurd y
    by_end (Gave a) y = ap Gave y.1

module _ (l : Language) (T : Ref) (e : Environment l T) where
  abbrev All : List Formula → Type 0
  All = AllHold (Unit {0}) (Knows l T e) tt

  abbrev FailsOn : ℕ → ℕ → Path → Type 0
  FailsOn label n q = FailsIn (Unit {0}) (Knows l T e) label n q tt

  -- the outcomes by the references that are taken, behind the path, whose first check has number n
  pub record Comes {B : Type 0} (n : ℕ) (u : Execution B) (o : List Ref → Outcome Progress) (After : Progress → Type 0) : Type 0 where
    pub goes : All (facts u.path) → (k : Progress) × ((rest : List Ref) → (news : List Ref) × ((o news).end ≡ Gave (lend rest k))) × After k
    pub fails : (label : ℕ) → FailsOn label n u.path → (news : List Ref) × FailsAt label (o news)

  pub comes_of : {B : Type 0} (n : ℕ) (u : Execution B) (o : Supply → Outcome Progress) (first : Supply) (taken : List Ref) (Ok After : Progress → Type 0) → Sim lend Ok (o first) (λ news. o (Chosen news)) → Behind l T e n u (o first) After → Behind l T e n u (o (Chosen taken)) After → Comes n u (λ news. o (Chosen news)) After
  comes_of n u o first taken Ok After sim b c = record {
    goes = λ all. let y = b.goes all in (y.0, (λ rest. let z = sim.choice rest in (z.0, lent Ok rest (o first).end (o (Chosen z.0)).end y.0 y.1 z.1.ends)), y.2);
    fails = λ label y. (taken, c.fails label y);
  }

  pub comes_gives : {B : Type 0} (n : ℕ) (b : B) (k : Progress) (After : Progress → Type 0) → After k → Comes n (Gives b) (λ news. m.Gives (lend news k)) After
  comes_gives n b k After done = record { goes = λ all. (k, (λ rest. (rest, refl)), done); fails = λ label y. absurd y }

  pub comes_less : {B : Type 0} (n : ℕ) (u : Execution B) (o : List Ref → Outcome Progress) (More After : Progress → Type 0) → ((k : Progress) (news : List Ref) → (o news).end ≡ Gave (lend [] k) → More k → After k) → Comes n u o More → Comes n u o After
  comes_less n u o More After less b = record { goes = λ all. let x = b.goes all in let some = x.1 [] in (x.0, x.1, less x.0 some.0 some.1 x.2); fails = λ label y. b.fails label y }

  pub comes_either : {B : Type 0} (b : Bool) (n : ℕ) (u : Execution B) (o q : List Ref → Outcome Progress) (After : Progress → Type 0) → (b ≡ true → Comes n u o After) → (b ≡ false → Comes n u q After) → Comes n u (λ news. if b then o news else q news) After
  comes_either true n u o q After x y = x refl
  comes_either false n u o q After x y = y refl

  -- behind a value that takes no reference
  pub comes_value : {V B D : Type 0} (n k : ℕ) (u : Execution B) (g : B → Execution D) (o : Outcome V) (r : List Ref → V → Outcome Progress) (Mid : V → Type 0) (After : Progress → Type 0) → k ≡ n + checks u.path → Behind l T e n u o Mid → ((v : V) → o.end ≡ Gave v → Mid v → Comes k (g u.gives) (λ news. r news v) After) → Comes n (after u g) (λ news. m.after o (r news)) After
  comes_value n k u g o r Mid After place first more = record {
    goes = λ all.
        let two = facts_apart (Unit {0}) (Knows l T e) u.path (g u.gives).path tt all in
        let x = first.goes two.0 in
        let y = (more x.0 x.1 x.2).goes two.1 in
        (y.0, (λ rest. let b = y.1 rest in (b.0, after_gave o (r b.0) x.0 x.1 ∙ b.1)), y.2);
    fails = λ label y. ⊎_elim
        (λ i. ([], fails_front label o (r []) (first.fails label i)))
        (λ i. let x = first.goes i.0 in let z = (more x.0 x.1 x.2).fails label (at_number (Unit {0}) (Knows l T e) tt label (n + checks u.path) k (g u.gives).path (sym place) i.1) in (z.0, fails_behind label o (r z.0) x.0 x.1 z.1))
        (fails_joined (Unit {0}) (Knows l T e) label n u.path (g u.gives).path tt y);
  }

  -- one part behind another
  pub comes_then : {B D : Type 0} (n k : ℕ) (u : Execution B) (g : B → Execution D) (o : List Ref → Outcome Progress) (r : Progress → Outcome Progress) (Mid After : Progress → Type 0) → k ≡ n + checks u.path → Comes n u o Mid
      → ((a : Progress) (news : List Ref) → (o news).end ≡ Gave (lend [] a) → Mid a → Comes k (g u.gives) (λ news. r (lend news a)) After) → Comes n (after u g) (λ news. m.after (o news) r) After
  comes_then n k u g o r Mid After place first more = record {
    goes = λ all.
        let two = facts_apart (Unit {0}) (Knows l T e) u.path (g u.gives).path tt all in
        let x = first.goes two.0 in
        let some = x.1 [] in
        let y = (more x.0 some.0 some.1 x.2).goes two.1 in
        (y.0, (λ rest. let b = y.1 rest in let a = x.1 b.0 in (a.0, after_gave (o a.0) r (lend b.0 x.0) a.1 ∙ b.1)), y.2);
    fails = λ label y. ⊎_elim
        (λ i. let z = first.fails label i in (z.0, fails_front label (o z.0) r z.1))
        (λ i.
        let x = first.goes i.0 in
        let some = x.1 [] in
        let z = (more x.0 some.0 some.1 x.2).fails label (at_number (Unit {0}) (Knows l T e) tt label (n + checks u.path) k (g u.gives).path (sym place) i.1) in
        let a = x.1 z.0 in
        (a.0, fails_behind label (o a.0) r (lend z.0 x.0) a.1 z.1))
        (fails_joined (Unit {0}) (Knows l T e) label n u.path (g u.gives).path tt y);
  }

  -- The whole of an action: some references serve.
  pub record Chooses {A B : Type 0} (n : ℕ) (u : Execution B) (o : List Ref → Outcome A) (After : A → Type 0) : Type 0 where
    pub goes : All (facts u.path) → (news : List Ref) × (a : A) × ((o news).end ≡ Gave a) × After a
    pub fails : (label : ℕ) → FailsOn label n u.path → (news : List Ref) × FailsAt label (o news)

  pub chooses_value : {V A B D : Type 0} (n k : ℕ) (u : Execution B) (g : B → Execution D) (o : Outcome V) (r : List Ref → V → Outcome A) (Mid : V → Type 0) (After : A → Type 0) → k ≡ n + checks u.path → Behind l T e n u o Mid → ((v : V) → o.end ≡ Gave v → Mid v → Chooses k (g u.gives) (λ news. r news v) After) → Chooses n (after u g) (λ news. m.after o (r news)) After
  chooses_value n k u g o r Mid After place first more = record {
    goes = λ all.
        let two = facts_apart (Unit {0}) (Knows l T e) u.path (g u.gives).path tt all in
        let x = first.goes two.0 in
        let y = (more x.0 x.1 x.2).goes two.1 in
        (y.0, y.1, after_gave o (r y.0) x.0 x.1 ∙ y.2, y.3);
    fails = λ label y. ⊎_elim
        (λ i. ([], fails_front label o (r []) (first.fails label i)))
        (λ i. let x = first.goes i.0 in let z = (more x.0 x.1 x.2).fails label (at_number (Unit {0}) (Knows l T e) tt label (n + checks u.path) k (g u.gives).path (sym place) i.1) in (z.0, fails_behind label o (r z.0) x.0 x.1 z.1))
        (fails_joined (Unit {0}) (Knows l T e) label n u.path (g u.gives).path tt y);
  }

  chooses_check : {A B : Type 0} (at_ : MachineSpot) (b : Bool) (n k : ℕ) (kind : CheckKind) (g : Formula) (u : Execution B) (o : List Ref → Outcome A) (After : A → Type 0) → k ≡ n + 1 → Is l T e g b → (b ≡ true → Chooses k u o After) → Chooses n (check g u) (λ news. m.check at_ b n kind (o news)) After
  chooses_check at_ true n k kind g u o After place is more = record {
    goes = λ all. (more refl).goes all.1;
    fails = λ label y. ⊎_elim (λ z. absurd (z.1 (known_by l T e g true is refl))) (λ z. (more refl).fails label (at_number (Unit {0}) (Knows l T e) tt label (suc n) k u.path (omega (arith, place)) z.1)) y;
  }
  chooses_check at_ false n k kind g u o After place is more = record {
    goes = λ all. absurd (is_false l T e g is (known_holds l T e g all.0));
    fails = λ label y. ⊎_elim (λ z. ([], (kind, at_.line, ap (λ i. (m.check at_ false i kind (o [])).end) z.0))) (λ z. absurd (is_false l T e g is (known_holds l T e g z.0))) y;
  }

  pub chooses_each : {A B : Type 0} (at_ : MachineSpot) (bs : List Bool) (n k : ℕ) (kind : CheckKind) (fs : List Formula) (u : Execution B) (o : List Ref → Outcome A) (After : A → Type 0) → k ≡ n + length bs → AllAre (Is l T e) fs bs → (every (λ b. b) bs ≡ true → Chooses k u o After) → Chooses n (check_each fs u) (λ news. m.check_each at_ bs n kind (o news)) After
  chooses_each at_ [] n k kind [] u o After place are more = subst (λ i. Chooses i u o After) (place ∙ omega arith) (more refl)
  chooses_each at_ [] n k kind (f ∷ fs) u o After place are more = absurd are
  chooses_each at_ (b ∷ bs) n k kind [] u o After place are more = absurd are
  chooses_each at_ (b ∷ bs) n k kind (f ∷ fs) u o After place are more =
      chooses_check at_ b n (n + 1) kind f (check_each fs u) (λ news. m.check_each at_ bs (n + 1) kind (o news)) After refl are.0 (λ y. chooses_each at_ bs (n + 1) k kind fs u o After (place ∙ omega arith) are.1 (λ z. more (both_and b (every (λ b. b) bs) y z)))

  -- the end of the action behind its parts
  pub chooses_last : {A B D : Type 0} (n k : ℕ) (u : Execution B) (g : B → Execution D) (o : List Ref → Outcome Progress) (r : Progress → Outcome A) (Mid : Progress → Type 0) (After : A → Type 0) → k ≡ n + checks u.path → Comes n u o Mid
      → ((a : Progress) (news : List Ref) → (o news).end ≡ Gave (lend [] a) → Mid a → Behind l T e k (g u.gives) (r (lend [] a)) After) → Chooses n (after u g) (λ news. m.after (o news) r) After
  chooses_last n k u g o r Mid After place first more = record {
    goes = λ all.
        let two = facts_apart (Unit {0}) (Knows l T e) u.path (g u.gives).path tt all in
        let x = first.goes two.0 in
        let some = x.1 [] in
        let y = (more x.0 some.0 some.1 x.2).goes two.1 in
        (some.0, y.0, after_gave (o some.0) r (lend [] x.0) some.1 ∙ y.1, y.2);
    fails = λ label y. ⊎_elim
        (λ i. let z = first.fails label i in (z.0, fails_front label (o z.0) r z.1))
        (λ i.
        let x = first.goes i.0 in
        let some = x.1 [] in
        (some.0, fails_behind label (o some.0) r (lend [] x.0) some.1 ((more x.0 some.0 some.1 x.2).fails label (at_number (Unit {0}) (Knows l T e) tt label (n + checks u.path) k (g u.gives).path (sym place) i.1))))
        (fails_joined (Unit {0}) (Knows l T e) label n u.path (g u.gives).path tt y);
  }
