-- What is noted on the way for a block's end: along the path every object of the text, behind the tests on its way; in the run those that it came to.
use Rattle.std.proofs.Common.{◌≡◌, ℕ, suc, ◌+◌, ◌⊎◌, inl, inr, ⊎_elim, Bool, true, false, List, [], ◌∷◌, ◌++◌, map, length, refl, ap, sym, ◌∙◌, subst, arith}
use Rattle.action_conditions.proofs.Goes.{no_extension}
use Rattle.std.proofs.lemmas.List.{length-map}
use Rattle.object_types.specs.declared.references.Ref.{Ref}
use Rattle.method.specs.declared.program.CheckKind.TheVariants.{Invariant}
use Rattle.method.specs.Expressions.{Outcome, Spot, Tested, Gave, Failed, check}
use Rattle.method.specs.Actions.{Deferred, check_deferred}
use Rattle.method.specs.LocalRuns.{FailsAt}
use Rattle.terms.specs.Formula.{Formula}
use Rattle.term_meaning.specs.Meaning.{Language}
use Rattle.conditions.specs.Paths.{Execution, check_each, facts}
use Rattle.conditions.specs.Ways.{FailsIn}
use Rattle.conditions.proofs.FromRuns.{Count, IsWithin}
use Rattle.conditions.proofs.FromRuns as runs
use Rattle.condition_meaning.proofs.Environments.{Environment, Holds, Is}
use Rattle.block_conditions.proofs.Outcomes.{failed_number}
use Rattle.block_conditions.proofs.Beside.{Beside, All}

module _ (l : Language) (t : Ref) where
  abbrev E : Type 0
  E = Environment l t

  -- a test on the way is false
  abbrev pub Missed : E → List Formula → Type 0
  Missed e [] = ⊥
  Missed e (g ∷ gs) = Is l t e g false ⊎ Missed e gs

  module _ {D : Type 0} (guards : D → List Formula) (Pair : E → D → Ref → Type 0) where
    abbrev mutual
      -- of the objects of the text, from place i on, the run came to these
      pub Noted : E → ℕ → List D → List Deferred → Type 0
      Noted e i [] [] = Unit {0}
      Noted e i [] (k ∷ ks) = ⊥
      Noted e i (d ∷ ds) [] = Missed e (guards d) × Noted e (suc i) ds []
      Noted e i (d ∷ ds) (k ∷ ks) = (Missed e (guards d) × Noted e (suc i) ds (k ∷ ks)) ⊎ ((k.place ≡ i) × All l t e (guards d) × Pair e d k.which × Noted e (suc i) ds ks)

    noted_at : (e : E) (i j : ℕ) (ds : List D) (ks : List Deferred) → i ≡ j → Noted e i ds ks → Noted e j ds ks
    noted_at e i j ds ks same n = subst (λ m. Noted e m ds ks) same n

    pub noted_both : (e : E) (i j : ℕ) (ds ds' : List D) (ks ks' : List Deferred) → j ≡ i + length ds → Noted e i ds ks → Noted e j ds' ks' → Noted e i (ds ++ ds') (ks ++ ks')
    noted_both e i j [] ds' [] ks' place a b = noted_at e j i ds' ks' (place ∙ omega arith) b
    noted_both e i j [] ds' (k ∷ ks) ks' place a b = absurd a
    noted_both e i j (d ∷ ds) ds' [] ks' place a b = skipped ks' (noted_both e (suc i) j ds ds' [] ks' (place ∙ omega arith) a.1 b)
      where
        skipped : (qs : List Deferred) → Noted e (suc i) (ds ++ ds') qs → Noted e i (d ∷ (ds ++ ds')) qs
        skipped [] n = (a.0, n)
        skipped (q ∷ qs) n = inl (a.0, n)
    noted_both e i j (d ∷ ds) ds' (k ∷ ks) ks' place (inl a) b = inl (a.0, noted_both e (suc i) j ds ds' (k ∷ ks) ks' (place ∙ omega arith) a.1 b)
    noted_both e i j (d ∷ ds) ds' (k ∷ ks) ks' place (inr a) b = inr (a.0, a.1, a.2, noted_both e (suc i) j ds ds' ks ks' (place ∙ omega arith) a.3 b)

    -- behind a further test that is true, and behind one that is false
    module _ (f : Formula) (guard : D → D) (guarded : (d : D) → guards (guard d) ≡ f ∷ guards d) where
      pub noted_behind : (e : E) → Holds l t e f → ((d : D) (r : Ref) → Pair e d r → Pair e (guard d) r) → (i : ℕ) (ds : List D) (ks : List Deferred) → Noted e i ds ks → Noted e i (map guard ds) ks
      noted_behind e holds pair i [] [] n = n
      noted_behind e holds pair i [] (k ∷ ks) n = absurd n
      noted_behind e holds pair i (d ∷ ds) [] n = (subst (λ gs. Missed e gs) (sym (guarded d)) (inr n.0), noted_behind e holds pair (suc i) ds [] n.1)
      noted_behind e holds pair i (d ∷ ds) (k ∷ ks) (inl n) = inl (subst (λ gs. Missed e gs) (sym (guarded d)) (inr n.0), noted_behind e holds pair (suc i) ds (k ∷ ks) n.1)
      noted_behind e holds pair i (d ∷ ds) (k ∷ ks) (inr n) = inr (n.0, subst (λ gs. All l t e gs) (sym (guarded d)) (holds, n.1), pair d k.which n.2, noted_behind e holds pair (suc i) ds ks n.3)

      pub noted_missed : (e : E) → Is l t e f false → (i : ℕ) (ds : List D) → Noted e i (map guard ds) []
      noted_missed e missed i [] = tt
      noted_missed e missed i (d ∷ ds) = (subst (λ gs. Missed e gs) (sym (guarded d)) (inl missed), noted_missed e missed (suc i) ds)

  pub noted_map : {D : Type 0} (guards : D → List Formula) (Pair Other : E → D → Ref → Type 0) (e : E) → ((d : D) (r : Ref) → Pair e d r → Other e d r) → (i : ℕ) (ds : List D) (ks : List Deferred) → Noted guards Pair e i ds ks → Noted guards Other e i ds ks
  noted_map guards Pair Other e f i [] [] n = n
  noted_map guards Pair Other e f i [] (k ∷ ks) n = absurd n
  noted_map guards Pair Other e f i (d ∷ ds) [] n = (n.0, noted_map guards Pair Other e f (suc i) ds [] n.1)
  noted_map guards Pair Other e f i (d ∷ ds) (k ∷ ks) (inl n) = inl (n.0, noted_map guards Pair Other e f (suc i) ds (k ∷ ks) n.1)
  noted_map guards Pair Other e f i (d ∷ ds) (k ∷ ks) (inr n) = inr (n.0, n.1, f d k.which n.2, noted_map guards Pair Other e f (suc i) ds ks n.3)

  -- The checks at the block's end.

  each_holds : {B : Type 0} (e : E) (fs : List Formula) (u : Execution B) → All l t e fs → All l t e (facts u.path) → All l t e (facts (check_each fs u).path)
  each_holds e [] u a b = b
  each_holds e (f ∷ fs) u a b = (a.0, each_holds e fs u a.1 b)

  at_number : {B : Type 0} (label n m : ℕ) (e : E) (u : Execution B) → n ≡ m → FailsIn E (Holds l t) label n u.path e → FailsIn E (Holds l t) label m u.path e
  at_number label n m e u same f = subst (λ (i : ℕ). FailsIn E (Holds l t) label i u.path e) same f

  each_then : {B : Type 0} (e : E) (label n : ℕ) (fs : List Formula) (u : Execution B) → All l t e fs → FailsIn E (Holds l t) label (n + length fs) u.path e → FailsIn E (Holds l t) label n (check_each fs u).path e
  each_then e label n [] u a f = at_number label (n + 0) n e u (omega arith) f
  each_then e label n (g ∷ gs) u a f = inr (a.0, each_then e label (suc n) gs u a.1 (at_number label (n + suc (length gs)) (suc n + length gs) e u (omega arith) f))

  -- all tests pass; one that doesn't is the check with this number
  abbrev pub AllPass : (Ref → Tested) → List Deferred → Type 0
  AllPass test [] = Unit {0}
  AllPass test (k ∷ ks) = ((test k.which).holds ≡ true) × AllPass test ks

  -- the first deferred test that fails is the check with this label
  abbrev pub OneFails : (Ref → Tested) → ℕ → ℕ → List Deferred → Type 0
  OneFails test label n [] = ⊥
  OneFails test label n (k ∷ ks) = ((n + k.place ≡ label) × ((test k.which).holds ≡ false)) ⊎ (((test k.which).holds ≡ true) × OneFails test label n ks)

  module _ (at_ : Spot) (test : Ref → Tested) where
    pub deferred_gave : {A : Type 0} (ks : List Deferred) (n : ℕ) (o : Outcome A) (a : A) → (check_deferred at_ test ks n o).end ≡ Gave a → AllPass test ks × (o.end ≡ Gave a)
    deferred_gave [] n o a e = (tt, e)
    deferred_gave {A} (k ∷ ks) n o a e = by_test (test k.which).holds refl (λ e. deferred_gave ks n o a e) e
      where
        by_test : (b : Bool) → (test k.which).holds ≡ b → ((check_deferred at_ test ks n o).end ≡ Gave a → AllPass test ks × (o.end ≡ Gave a)) → (check at_ b (n + k.place) Invariant (check_deferred at_ test ks n o)).end ≡ Gave a → AllPass test (k ∷ ks) × (o.end ≡ Gave a)
        by_test true is more e = let z = more e in ((is, z.0), z.1)
        by_test false is more e = absurd (cc)

    pub deferred_failed : {A : Type 0} (ks : List Deferred) (n label : ℕ) (o : Outcome A) → FailsAt label (check_deferred at_ test ks n o) → OneFails test label n ks ⊎ (AllPass test ks × FailsAt label o)
    deferred_failed [] n label o f = inr (tt, f)
    deferred_failed {A} (k ∷ ks) n label o f = by_test (test k.which).holds refl (λ e. deferred_failed ks n label o e) f.2
      where
        by_test : (b : Bool) → (test k.which).holds ≡ b → (FailsAt label (check_deferred at_ test ks n o) → OneFails test label n ks ⊎ (AllPass test ks × FailsAt label o)) → (check at_ b (n + k.place) Invariant (check_deferred at_ test ks n o)).end ≡ Failed label f.0 f.1 → OneFails test label n (k ∷ ks) ⊎ (AllPass test (k ∷ ks) × FailsAt label o)
        by_test true is more e = ⊎_elim (λ z. inl (inr (is, z))) (λ z. inr ((is, z.0), z.1)) (more (f.0, f.1, e))
        by_test false is more e = inl (inl (failed_number (n + k.place) label Invariant f.0 at_.line f.1 (check at_ false (n + k.place) Invariant (check_deferred at_ test ks n o)).end refl e, is))

    module _ {D : Type 0} (guards : D → List Formula) (Pair : E → D → Ref → Type 0) (formula : D → Formula) (Before : E → Type 0)
        (skipped : (e : E) → Before e → (d : D) → Missed e (guards d) → Holds l t e (formula d))
        (passed : (e : E) → Before e → (d : D) (r : Ref) → All l t e (guards d) → Pair e d r → ((test r).holds ≡ true → Holds l t e (formula d)) × ((test r).holds ≡ false → ¬ Holds l t e (formula d)))
      where
        noted_hold : (e : E) → Before e → (i : ℕ) (ds : List D) (ks : List Deferred) → Noted guards Pair e i ds ks → AllPass test ks → All l t e (map formula ds)
        noted_hold e b i [] ks n pass = tt
        noted_hold e b i (d ∷ ds) [] n pass = (skipped e b d n.0, noted_hold e b (suc i) ds [] n.1 pass)
        noted_hold e b i (d ∷ ds) (k ∷ ks) (inl n) pass = (skipped e b d n.0, noted_hold e b (suc i) ds (k ∷ ks) n.1 pass)
        noted_hold e b i (d ∷ ds) (k ∷ ks) (inr n) pass = ((passed e b d k.which n.1 n.2).0 pass.0, noted_hold e b (suc i) ds ks n.3 pass.1)

        noted_fail : {B : Type 0} (e : E) → Before e → (label n i m : ℕ) (ds : List D) (ks : List Deferred) (u : Execution B) → m ≡ n + i → Noted guards Pair e i ds ks → OneFails test label n ks → FailsIn E (Holds l t) label m (check_each (map formula ds) u).path e
        noted_fail e b label n i m [] [] u place x f = absurd f
        noted_fail e b label n i m [] (k ∷ ks) u place x f = absurd x
        noted_fail e b label n i m (d ∷ ds) [] u place x f = absurd f
        noted_fail e b label n i m (d ∷ ds) (k ∷ ks) u place (inl x) f = inr (skipped e b d x.0, noted_fail e b label n (suc i) (suc m) ds (k ∷ ks) u (omega (arith, place)) x.1 f)
        noted_fail e b label n i m (d ∷ ds) (k ∷ ks) u place (inr x) (inl f) = inl (place ∙ ap (λ j. n + j) (sym x.0) ∙ f.0, (passed e b d k.which x.1 x.2).1 f.1)
        noted_fail e b label n i m (d ∷ ds) (k ∷ ks) u place (inr x) (inr f) = inr ((passed e b d k.which x.1 x.2).0 f.0, noted_fail e b label n (suc i) (suc m) ds ks u (omega (arith, place)) x.3 f.1)

        pub beside_noted : {A B : Type 0} (n i m k : ℕ) (c d : Count) (ds : List D) (ks : List Deferred) (u : Execution B) (o : Outcome A) (After : A → E → Type 0)
            → m ≡ n + i → k ≡ m + length ds → IsWithin c d
            → ((e : E) → Before e → Noted guards Pair e i ds ks)
            → Beside l t k c d u o Before After
            → Beside l t m c d (check_each (map formula ds) u) (check_deferred at_ test ks n o) Before After
        unfolding runs.no_extension
        beside_noted n i m k c d ds ks u o After place next within noted x = record {
          goes = λ a is. let w = deferred_gave ks n o a is in let q = x.goes a w.1 in record {
            extension = q.extension;
            passes = λ e so before. let z = q.passes e so before in (each_holds e (map formula ds) u (noted_hold e before i ds ks (noted e before) w.0) z.0, z.1);
          };
          fails = λ label f. ⊎_elim
              (λ z. record { extension = no_extension l t c d within; breaks = λ e so before. noted_fail e before label n i m ds ks u place (noted e before) z })
              (λ z. let q = x.fails label z.1 in record {
                extension = q.extension;
                breaks = λ e so before. each_then e label m (map formula ds) u (noted_hold e before i ds ks (noted e before) z.0) (at_number label k (m + length (map formula ds)) e u (next ∙ ap (λ j. m + j) (sym (length-map ds formula))) (q.breaks e so before));
              })
              (deferred_failed ks n label o f);
        }
