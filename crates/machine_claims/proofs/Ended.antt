-- What ending a claim comes to, from what its parts come to.
use Rattle.std.proofs.Common.{◌≡◌, ℕ, ◌+◌, true, false, List, ◌++◌, length, map, Err, sym, ap, subst, ◌∙◌}
use Rattle.object_types.specs.declared.references.Ref.{Ref}
use Rattle.object_types.specs.declared.records.Stored.{Stored}
use Rattle.object_types.specs.declared.records.Mode.TheVariants.{Freed}
use Rattle.object_types.specs.References.{null}
use Rattle.object_types.specs.Heap.{Heap, IsFinite, put}
use Rattle.object_types.specs.Lookups.{look_up}
use Rattle.std.proofs.Common.{negsuc}
use Rattle.method.specs.declared.program.CheckKind.TheVariants.{DestroyClaim}
use Rattle.method.specs.declared.program.Program.{Program}
use Rattle.method.specs.Expressions.{Outcome, Fault, Gives, Spot, check_each}
use Rattle.method.specs.Actions as m
use Rattle.machine_laws.proofs.Heaps.{put_finite, count_finite}
use Rattle.machine_values.specs.declared.stop.Stop.{Stop}
use Rattle.machine_values.specs.Spots.{heap_at}
use Rattle.machine_values.specs.Answers.{Stops, Passes, verdict, plain, Finds}
use Rattle.machine_values.proofs.Verdicts.{checks_pass, checks_stop, each_checked}
use Rattle.machine_objects.specs.declared.progress.Progress.{Progress}
use Rattle.machine_objects.specs.Runs.{Extra, deferred_at, progress_at, Follows, count_tests}
use Rattle.machine_objects.proofs.Checks.{fails, passes}
use Rattle.machine_claims.specs.Claiming.{objects_checked}
use Rattle.machine_claims.proofs.Numbering.{more_places, more_deferred}

module _ (p : Program) (at_ : Spot) (c : Ref) (os : List Ref) (n : ℕ) (t : m.Tally) (e : Extra) (old : Progress) where
  abbrev before : m.Progress
  before = progress_at e old

  abbrev pub ended : Heap
  ended = m.ended p at_ c os before.heap

  abbrev pub behind : m.Progress
  behind = record before { heap = ended; changed = before.changed ++ m.deferred_from t.objects os }

  abbrev whole : Outcome m.Progress
  whole = m.end_claim p at_ c os n t before

  abbrev kept : Outcome m.Progress
  kept = objects_checked p at_ os before.heap ended (n + 1 + length os) (Gives behind)

  abbrev counted : Outcome m.Progress
  counted = check_each at_ (count_tests at_ before.heap os) (n + 1) DestroyClaim kept

  pub end_fails : m.may_end p at_ c os before.heap ≡ false → whole ≡ Fault n DestroyClaim at_.line
  end_fails no_end = fails at_ (m.may_end p at_ c os before.heap) n DestroyClaim counted no_end

  module _ (may : m.may_end p at_ c os before.heap ≡ true) where
    counts_are : whole ≡ counted
    counts_are = passes at_ (m.may_end p at_ c os before.heap) n DestroyClaim counted may

    pub counts_stop : (s : Stop) → Finds (Err s) (verdict at_.line DestroyClaim (map plain (count_tests at_ before.heap os))) → Stops s whole
    counts_stop s v =
        let bs = count_tests at_ before.heap os in
        subst (Stops s) (sym (counts_are ∙ each_checked at_ DestroyClaim kept bs (n + 1))) (checks_stop at_ DestroyClaim kept s (map plain bs) (n + 1) v)

    module _ (counts : verdict at_.line DestroyClaim (map plain (count_tests at_ before.heap os)) ≡ Passes) where
      checks_are : whole ≡ kept
      checks_are =
          let bs = count_tests at_ before.heap os in
          counts_are ∙ each_checked at_ DestroyClaim kept bs (n + 1) ∙ checks_pass at_ DestroyClaim kept (map plain bs) (n + 1) counts

      -- the code's heaps are these
      module _ (copy now : List Stored) (copied : copy ≡ old.heap) (here : look_up now ≡ ended.get) where
        abbrev checked : Outcome m.Progress → Outcome m.Progress
        checked o = objects_checked p at_ os (heap_at e.support copy) (heap_at ended.support now) (n + 1 + length os) o

        alike : checked (Gives behind) ≡ whole
        alike = (λ i. objects_checked p at_ os (heap_at e.support (copied i)) (record { get = here i; support = ended.support }) (n + 1 + length os) (Gives behind)) ∙ sym checks_are

        pub kept_stops : (s : Stop) → ((o : Outcome m.Progress) → Stops s (checked o)) → Stops s whole
        kept_stops s f = subst (Stops s) alike (f (Gives behind))

        pub end_gives : ((o : Outcome m.Progress) → checked o ≡ o) → whole ≡ Gives behind
        end_gives f = sym alike ∙ f (Gives behind)

pub ended_finite : (p : Program) (at_ : Spot) (c : Ref) (os : List Ref) (h : Heap) → IsFinite h → IsFinite (m.ended p at_ c os h)
ended_finite p at_ c os h f =
    let freed = record (h.get c) { mode = Freed; owner = null } in
    count_finite (negsuc 0) os (put h c freed) (put_finite h c freed f)

-- the code's progress follows, with the objects noted
pub ended_follows : (e : Extra) (old new : Progress) (h : Heap) (a : ℕ) (os : List Ref) → look_up new.heap ≡ h.get → IsFinite h →
    new.changed.items ≡ old.changed.items ++ os → new ≡ record old { heap = new.heap; changed = new.changed } →
    Follows new (record (progress_at e old) { heap = h; changed = (progress_at e old).changed ++ m.deferred_from a os })
ended_follows e old new h a os same finite changed rest =
    let changes = more_places e.changed old.changed.items a os in
    let extra' : Extra = record { support = h.support; changed = changes; made = e.made; entries = e.entries } in
    record {
      extra = extra';
      finite = λ o out. (λ i. same i o) ∙ finite o out;
      is =
          (λ i. record (progress_at e old) {
            heap = record { get = sym same i; support = h.support };
            changed = (more_deferred e.changed old.changed.items a os ∙ ap (deferred_at changes) (sym changed)) i;
          })
          ∙ ap (progress_at extra') (sym rest);
    }
