-- What an atomic block comes to, from what its parts come to.
use Rattle.std.proofs.Common.{◌≡◌, ℕ, ◌+◌, Bool, true, false, Option, Some, None, List, [], ◌∷◌, map, length, Result, Err, refl, sym, ap, subst, ◌∙◌}
use Rattle.object_types.specs.declared.references.Ref.{Ref}
use Rattle.object_types.specs.declared.records.Stored.{Stored}
use Rattle.object_types.specs.declared.values.Value.{Value}
use Rattle.object_types.specs.Lookups.{heap_of}
use Rattle.object_types.specs.Values.{referent}
use Rattle.object_types.specs.Heap.{IsFinite, closed_in}
use Rattle.method.specs.declared.program.CheckKind.TheVariants.{AtomicClosed, Invariant}
use Rattle.method.specs.declared.program.Inner.{Inner}
use Rattle.method.specs.declared.program.Listed.{Listed}
use Rattle.method.specs.declared.program.Program.{Program}
use Rattle.method.specs.Overflow.{Overflow}
use Rattle.method.specs.Expressions.{Outcome, Fault, Gives, Spot, Tested, weighed, after, check, check_each, check_specs, all_checks, inv_test}
use Rattle.method.specs.Actions as m
use Rattle.machine_values.specs.declared.stop.Stop.{Stop}
use Rattle.machine_values.specs.declared.stop.Stop.TheVariants.{Misfit as NotEnabled, Fault as Faulted, Wide, Exhausted, OutOfMemory}
use Rattle.machine_values.specs.Spots.{heap_at}
use Rattle.machine_values.specs.Answers.{Stops, StopsOr, Verdict, Passes, Fails, Overflows, one_verdict, verdict, Finds, plain}
use Rattle.machine_values.specs.Testing.{inv_tests}
use Rattle.machine_values.proofs.Outcomes.{stops_after, stops_or_after, runs_out_too}
use Rattle.machine_values.proofs.SameTests.{same_inv_test}
use Rattle.machine_values.proofs.Verdicts.{checks_pass, checks_stop, each_checked}
use Rattle.machine_objects.specs.declared.progress.Progress.{Progress}
use Rattle.machine_objects.specs.Runs.{Extra, progress_at, deferred_at, Follows, Lands, Runs}
use Rattle.machine_objects.proofs.Landing.{then_comes, behind_gives, of_follower}
use Rattle.machine_actions.specs.RunsOut.{ListRunsOut, BlockRunsOut}

-- what checks with this verdict come to, where o stands behind them
abbrev Says : {A : Type 0} → Verdict → Outcome A → Outcome A → Type 0
Says Passes r o = r ≡ o
Says (Fails kind line) r o = (n : ℕ) × (r ≡ Fault n kind line)
Says (Overflows x) r o = r.overflow ≡ Some x

module _ {A : Type 0} (at_ : Spot) (test : Ref → Tested) (o : Outcome A) where
  one_says : (w : Option Overflow) (b : Bool) (n : ℕ) (more : Verdict) (rest : Outcome A) → Says more rest o → Says (one_verdict at_.line Invariant w b more) (weighed w (check at_ b n Invariant rest)) o
  one_says (Some x) b n more rest h = refl
  one_says None true n more rest h = h
  one_says None false n more rest h = (n, refl)

  says : (ns : List ℕ) (rs : List Ref) (n : ℕ) → Says (verdict at_.line Invariant (map test rs)) (m.check_deferred at_ test (deferred_at ns rs) n o) o
  says ns [] n = refl
  says [] (r ∷ rs) n = one_says (test r).overflow (test r).holds (n + 0) (verdict at_.line Invariant (map test rs)) (m.check_deferred at_ test (deferred_at [] rs) n o) (says [] rs n)
  says (k ∷ ns) (r ∷ rs) n = one_says (test r).overflow (test r).holds (n + k) (verdict at_.line Invariant (map test rs)) (m.check_deferred at_ test (deferred_at ns rs) n o) (says ns rs n)

  deferred_pass : (ns : List ℕ) (rs : List Ref) (n : ℕ) → verdict at_.line Invariant (map test rs) ≡ Passes → m.check_deferred at_ test (deferred_at ns rs) n o ≡ o
  deferred_pass ns rs n v = subst (λ z. Says z (m.check_deferred at_ test (deferred_at ns rs) n o) o) v (says ns rs n)

  deferred_stop : (s : Stop) (ns : List ℕ) (rs : List Ref) (n : ℕ) → Finds (Err s) (verdict at_.line Invariant (map test rs)) → Stops s (m.check_deferred at_ test (deferred_at ns rs) n o)
  deferred_stop NotEnabled ns rs n v = absurd v
  deferred_stop (Faulted k line) ns rs n v = subst (λ z. Says z (m.check_deferred at_ test (deferred_at ns rs) n o) o) v (says ns rs n)
  deferred_stop (Wide w) ns rs n v = subst (λ z. Says z (m.check_deferred at_ test (deferred_at ns rs) n o) o) v (says ns rs n)
  deferred_stop Exhausted ns rs n v = absurd v
  deferred_stop OutOfMemory ns rs n v = tt

-- the checks over the whole block, from the code's heap before it to the code's progress behind it
module _ (p : Program) (at_ : Spot) (body : List Inner) (ls : List Listed) (os : List Ref) (before : List Stored) (x : List Ref) (n : ℕ) (now : Progress) (e : Extra) where
  abbrev over : Ref → Tested
  over o = inv_test p o (heap_at x before) (heap_at e.support now.heap)

  abbrev found : List Ref → Verdict
  found rs = verdict at_.line Invariant (inv_tests p before now.heap rs)

  same_found : (rs : List Ref) → found rs ≡ verdict at_.line Invariant (map over rs)
  same_found rs = λ j. verdict at_.line Invariant (map (λ o. sym (same_inv_test p o (heap_of before) (heap_of now.heap) x e.support) j) rs)

  abbrev made_checked : Outcome m.Progress
  made_checked = m.check_deferred at_ over (deferred_at e.made now.made.items) (n + m.plain_listed ls + (m.list_tally p body).objects) (Gives (progress_at e now))

  abbrev changed_checked : Outcome m.Progress
  changed_checked = m.check_deferred at_ over (deferred_at e.changed now.changed.items) (n + m.plain_listed ls) made_checked

  abbrev pub ends : Outcome m.Progress
  ends = m.block_end p at_ body ls os (heap_at x before) n (progress_at e now)

  pub listed_stop : (s : Stop) → Finds (Err s) (found (m.listed_objects ls os)) → Stops s ends
  listed_stop s v = checks_stop at_ Invariant changed_checked s (map over (m.listed_objects ls os)) n (subst (Finds (Err s)) (same_found (m.listed_objects ls os)) v)

  module _ (listed_pass : found (m.listed_objects ls os) ≡ Passes) where
    listed_passed : ends ≡ changed_checked
    listed_passed = checks_pass at_ Invariant changed_checked (map over (m.listed_objects ls os)) n (sym (same_found (m.listed_objects ls os)) ∙ listed_pass)

    pub changed_stop : (s : Stop) → Finds (Err s) (found now.changed.items) → Stops s ends
    changed_stop s v = subst (Stops s) (sym listed_passed) (deferred_stop at_ over made_checked s e.changed now.changed.items (n + m.plain_listed ls) (subst (Finds (Err s)) (same_found now.changed.items) v))

    module _ (changed_pass : found now.changed.items ≡ Passes) where
      changed_passed : ends ≡ made_checked
      changed_passed = listed_passed ∙ deferred_pass at_ over made_checked e.changed now.changed.items (n + m.plain_listed ls) (sym (same_found now.changed.items) ∙ changed_pass)

      pub made_stop : (s : Stop) → Finds (Err s) (found now.made.items) → Stops s ends
      made_stop s v = subst (Stops s) (sym changed_passed) (deferred_stop at_ over (Gives (progress_at e now)) s e.made now.made.items (n + m.plain_listed ls + (m.list_tally p body).objects) (subst (Finds (Err s)) (same_found now.made.items) v))

      pub all_pass : found now.made.items ≡ Passes → ends ≡ Gives (progress_at e now)
      all_pass v = changed_passed ∙ deferred_pass at_ over (Gives (progress_at e now)) e.made now.made.items (n + m.plain_listed ls + (m.list_tally p body).objects) (sym (same_found now.made.items) ∙ v)

-- the block, once its objects are worked out
module _ (p : Program) (at_ : Spot) (ls : List Listed) (body : List Inner) (n : ℕ) (g : m.Progress) where
  abbrev closed_at : ℕ
  closed_at = n + all_checks (m.listed_exprs ls)

  abbrev behind : List Ref → m.Progress → Outcome m.Progress
  behind os g' = m.block_end p at_ body ls os g.heap (closed_at + length ls + m.list_checks p body) g'

  abbrev pub inner_run : List Ref → Outcome m.Progress
  inner_run os = m.run_list p at_.context os body (closed_at + length ls) m.no_tally g

  abbrev pub inner_out : List Ref → Type 0
  inner_out os = ListRunsOut p at_.context os body (closed_at + length ls) m.no_tally g

  abbrev with_values : List Value → Outcome m.Progress
  with_values vs = let os = map referent vs in check_each at_ (map (closed_in g.heap) os) closed_at AtomicClosed (after (inner_run os) (λ g'. behind os g'))

  pub unlisted : (s : Stop) → Stops s (m.run_exprs p at_ (m.listed_exprs ls) n g) → Stops s (m.atomic p at_ ls body n g)
  unlisted s h = stops_after s (m.run_exprs p at_ (m.listed_exprs ls) n g) with_values h

  module _ (vs : List Value) (os : List Ref) (objects : os ≡ map referent vs) (values : m.run_exprs p at_ (m.listed_exprs ls) n g ≡ Gives vs) where
    abbrev tests : List Tested
    tests = map plain (map (closed_in g.heap) os)

    valued : m.atomic p at_ ls body n g ≡ check_specs at_ tests closed_at AtomicClosed (after (inner_run os) (behind os))
    valued =
        ap (λ (o : Outcome (List Value)). after o with_values) values
        ∙ (λ j. let rs = sym objects j in check_each at_ (map (closed_in g.heap) rs) closed_at AtomicClosed (after (inner_run rs) (behind rs)))
        ∙ each_checked at_ AtomicClosed (after (inner_run os) (behind os)) (map (closed_in g.heap) os) closed_at

    pub unclosed : (s : Stop) → Finds (Err s) (verdict at_.line AtomicClosed tests) → Stops s (m.atomic p at_ ls body n g)
    unclosed s v = subst (Stops s) (sym valued) (checks_stop at_ AtomicClosed (after (inner_run os) (behind os)) s tests closed_at v)

    module _ (all_closed : verdict at_.line AtomicClosed tests ≡ Passes) where
      entered : m.atomic p at_ ls body n g ≡ after (inner_run os) (behind os)
      entered = valued ∙ checks_pass at_ AtomicClosed (after (inner_run os) (behind os)) tests closed_at all_closed

      -- numbers may run out on the statements' way
      pub inner_stop : (s : Stop) → StopsOr (inner_out os) s (inner_run os) → StopsOr (BlockRunsOut p at_ ls body n g) s (m.atomic p at_ ls body n g)
      inner_stop s h =
          subst (λ z. StopsOr (BlockRunsOut p at_ ls body n g) s z) (sym entered)
          (runs_out_too (inner_out os) (BlockRunsOut p at_ ls body n g) s (after (inner_run os) (behind os))
          (λ out. behind_gives (m.run_exprs p at_ (m.listed_exprs ls) n g) vs (λ us. inner_out (map referent us)) values (subst inner_out objects out))
          (stops_or_after (inner_out os) s (inner_run os) (behind os) h))

      pub block_comes : (now : Progress) → Lands (Follows now) (inner_run os) → (r : Result (Unit {0}) Stop) (last : Progress) → ((e : Extra) → IsFinite (heap_at e.support now.heap) → Runs r last (behind os (progress_at e now))) → Runs r last (m.atomic p at_ ls body n g)
      block_comes now ran r last ends =
          subst (Runs r last) (sym entered)
          (then_comes (Follows now) (inner_run os) (behind os) ran r (λ z. Follows last) (λ g' follows. of_follower (λ w. Runs r last (behind os w)) now g' follows ends))
