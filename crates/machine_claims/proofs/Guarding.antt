-- What checks of invariants and conjuncts let through, from their verdicts. The code looks at heaps with its own lists beside the records; the tests are the same whatever the lists.
use Rattle.std.proofs.Common.{◌≡◌, ℕ, ◌+◌, Bool, true, false, cond, List, [], length, map, sym, ap, subst, ◌∙◌, Result, Ok, Err}
use Rattle.object_types.specs.declared.references.Ref.{Ref}
use Rattle.object_types.specs.declared.records.Stored.{Stored}
use Rattle.object_types.specs.declared.shapes.Entry.{Entry}
use Rattle.object_types.specs.Heap.{Heap}
use Rattle.object_types.specs.Lookups.{heap_of}
use Rattle.method.specs.declared.program.CheckKind.TheVariants.{MakeClaim, Invariant}
use Rattle.method.specs.declared.program.Program.{Program}
use Rattle.method.specs.Expressions.{Outcome, Spot, check_specs, Tested, inv_test, entry_test}
use Rattle.machine_values.specs.declared.stop.Stop.{Stop}
use Rattle.machine_values.specs.Spots.{heap_at}
use Rattle.machine_values.specs.Answers.{Stops, Passes, verdict, Finds}
use Rattle.machine_values.specs.Testing.{inv_tests}
use Rattle.machine_values.proofs.Verdicts.{checks_pass, checks_stop}
use Rattle.machine_values.proofs.SameTests.{same_inv_test, same_entry_test}
use Rattle.machine_claims.specs.Claiming.{Guards, objects_checked, claim_checked}

pub made_inside : (A : Type 0) (p : Program) (at_ : Spot) (os : List Ref) (es : List Entry) (h0 h1 : Heap) (n : ℕ) → at_.inside ≡ true → (o : Outcome A) → claim_checked p at_ os es h0 h1 n o ≡ o
made_inside A p at_ os es h0 h1 n e o = ap (λ b. cond b o (check_specs at_ (map (entry_test p h1) es) n MakeClaim (check_specs at_ (map (λ q. inv_test p q h0 h1) os) (n + length es) Invariant o))) e

module _ (A : Type 0) (p : Program) (at_ : Spot) (os : List Ref) (es : List Entry) (before after : List Stored) (y z : List Ref) (n : ℕ) where
  abbrev conjuncts : List Tested
  conjuncts = map (entry_test p (heap_at z after)) es

  abbrev invariants : List Tested
  invariants = map (λ q. inv_test p q (heap_at y before) (heap_at z after)) os

  same_conjuncts : map (entry_test p (heap_of after)) es ≡ conjuncts
  same_conjuncts = λ i. map (λ e. sym (same_entry_test p (heap_of after) e z) i) es

  same_invariants : inv_tests p before after os ≡ invariants
  same_invariants = λ i. map (λ q. sym (same_inv_test p q (heap_of before) (heap_of after) y z) i) os

  abbrev made : Outcome A → Outcome A
  made o = claim_checked p at_ os es (heap_at y before) (heap_at z after) n o

  abbrev kept : ℕ → Outcome A → Outcome A
  kept k o = check_specs at_ invariants k Invariant o

  abbrev conjuncts_checked : Outcome A → Outcome A
  conjuncts_checked o = check_specs at_ conjuncts n MakeClaim (kept (n + length es) o)

  -- the invariants' verdict, wherever their checks stand
  kept_guards : (k : ℕ) (r : Result (Unit {0}) Stop) → Finds r (verdict at_.line Invariant (inv_tests p before after os)) → Guards {A = A} r (kept k)
  kept_guards k (Ok u) v = λ o. checks_pass at_ Invariant o invariants k (ap (verdict at_.line Invariant) (sym same_invariants) ∙ v)
  kept_guards k (Err s) v = λ o. checks_stop at_ Invariant o s invariants k (subst (λ ts. Finds (Err s) (verdict at_.line Invariant ts)) same_invariants v)

  -- a claim that is made

  module _ (outside : at_.inside ≡ false) where
    pub conjunct_stops : (s : Stop) → Finds (Err s) (verdict at_.line MakeClaim (map (entry_test p (heap_of after)) es)) → (o : Outcome A) → Stops s (made o)
    conjunct_stops s v o = subst (λ b. Stops s (cond b o (conjuncts_checked o))) (sym outside) (checks_stop at_ MakeClaim (kept (n + length es) o) s conjuncts n (subst (λ ts. Finds (Err s) (verdict at_.line MakeClaim ts)) same_conjuncts v))

    module _ (passes : verdict at_.line MakeClaim (map (entry_test p (heap_of after)) es) ≡ Passes) where
      behind : (o : Outcome A) → made o ≡ kept (n + length es) o
      behind o =
          ap (λ b. cond b o (conjuncts_checked o)) outside
          ∙ checks_pass at_ MakeClaim (kept (n + length es) o) conjuncts n (ap (verdict at_.line MakeClaim) (sym same_conjuncts) ∙ passes)

      pub made_guards : (r : Result (Unit {0}) Stop) → Finds r (verdict at_.line Invariant (inv_tests p before after os)) → Guards {A = A} r made
      made_guards (Ok u) v = λ o. behind o ∙ kept_guards (n + length es) (Ok u) v o
      made_guards (Err s) v = λ o. subst (Stops s) (sym (behind o)) (kept_guards (n + length es) (Err s) v o)

module _ (A : Type 0) (p : Program) (at_ : Spot) (os : List Ref) (before after : List Stored) (y z : List Ref) (n : ℕ) where
  abbrev checked : Outcome A → Outcome A
  checked o = objects_checked p at_ os (heap_at y before) (heap_at z after) n o

  abbrev by_place : Outcome A → Bool → Outcome A
  by_place o b = check_specs at_ (cond b [] (map (λ q. inv_test p q (heap_at y before) (heap_at z after)) os)) n Invariant o

  pub objects_inside : at_.inside ≡ true → (o : Outcome A) → checked o ≡ o
  objects_inside e o = ap (by_place o) e

  pub objects_guards : at_.inside ≡ false → (r : Result (Unit {0}) Stop) → Finds r (verdict at_.line Invariant (inv_tests p before after os)) → Guards {A = A} r checked
  objects_guards outside (Ok u) v = λ o. ap (by_place o) outside ∙ kept_guards A p at_ os [] before after y z n n (Ok u) v o
  objects_guards outside (Err s) v = λ o. subst (λ b. Stops s (by_place o b)) (sym outside) (kept_guards A p at_ os [] before after y z n n (Err s) v o)
