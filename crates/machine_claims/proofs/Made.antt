-- What making a claim comes to, from what its parts come to.
use Rattle.std.proofs.Common.{◌≡◌, ℕ, ◌+◌, List, [], ◌∷◌, ◌++◌, length, map, pos, Some, Err, refl, sym, ap, subst, ◌∙◌}
use Rattle.object_types.specs.declared.references.Ref.{Ref}
use Rattle.object_types.specs.declared.records.Stored.{Stored}
use Rattle.object_types.specs.declared.shapes.Entry.{Entry}
use Rattle.object_types.specs.declared.values.Value.TheVariants.{Ref as Refers}
use Rattle.object_types.specs.Heap.{Heap, Record, IsFinite, put, count_more, fresh}
use Rattle.object_types.specs.Lookups.{look_up, heap_of}
use Rattle.method.specs.declared.program.CheckKind.TheVariants.{MakeClaim}
use Rattle.method.specs.declared.program.ClaimSite.{ClaimSite}
use Rattle.method.specs.declared.program.Program.{Program}
use Rattle.method.specs.SpecValue.{entry_of}
use Rattle.method.specs.Expressions.{Outcome, Gives, after, Spot, check_each, scene}
use Rattle.method.specs.Actions as m
use Rattle.machine_laws.proofs.Heaps.{put_finite, count_finite}
use Rattle.claims.specs.Making.{with_claim}
use Rattle.claims.proofs.Counting.{count_same}
use Rattle.machine_values.specs.declared.stop.Stop.{Stop}
use Rattle.machine_values.specs.Spots.{heap_at}
use Rattle.machine_values.specs.Answers.{Stops, Passes, verdict, plain, Finds}
use Rattle.machine_values.proofs.Outcomes.{stops_after}
use Rattle.machine_values.proofs.Verdicts.{checks_pass, checks_stop, each_checked}
use Rattle.machine_objects.specs.declared.progress.Progress.{Progress}
use Rattle.machine_objects.specs.Runs.{Extra, deferred_at, progress_at, Follows, Lands, Leaves}
use Rattle.machine_objects.proofs.Checks.{lands_gives}
use Rattle.machine_claims.specs.Claiming.{claim_checked}
use Rattle.machine_claims.proofs.Numbering.{more_places, more_deferred}

module _ (p : Program) (at_ : Spot) (site : ClaimSite) (place : m.Place) (n : ℕ) (t : m.Tally) (e : Extra) (old : Progress) where
  abbrev before : m.Progress
  before = progress_at e old

  abbrev entries : List Entry
  entries = map (entry_of (scene at_.context before.heap before.locals)) site.conjuncts.items

  -- where the checks of the objects begin
  abbrev from : ℕ
  from = n + m.claimed_checks site.claimed.items

  abbrev whole : Outcome m.Valued
  whole = m.make_claim p at_ (Some site) place n t before

  abbrev claim : Ref → List Ref → m.Supply → Outcome m.Valued
  claim c os supply = m.claim_made p at_ c supply os entries place (from + length os + 1) t (count_more (pos 1) os (put before.heap c (m.new_claim at_.context.me os entries))) before

  abbrev taken : List Ref → Outcome m.Valued
  taken os = after (m.take_object before.supply 2 before.heap) (λ k. claim k.which os k.supply)

  abbrev tested : List Ref → Outcome m.Valued
  tested os = check_each at_ (m.claim_tests p at_ before.heap [] os) from MakeClaim (taken os)

  pub objects_stop : (s : Stop) → Stops s (m.run_claimed p at_ site.claimed.items n before) → Stops s whole
  objects_stop s h = stops_after s (m.run_claimed p at_ site.claimed.items n before) tested h

  module _ (os : List Ref) (claimed : m.run_claimed p at_ site.claimed.items n before ≡ Gives os) where
    tests_are : whole ≡ tested os
    tests_are = ap (λ o. after o tested) claimed

    pub claimed_stops : (s : Stop) → Finds (Err s) (verdict at_.line MakeClaim (map plain (m.claim_tests p at_ before.heap [] os))) → Stops s whole
    claimed_stops s v =
        let bs = m.claim_tests p at_ before.heap [] os in
        subst (Stops s) (sym (tests_are ∙ each_checked at_ MakeClaim (taken os) bs from)) (checks_stop at_ MakeClaim (taken os) s (map plain bs) from v)

    module _ (passes : verdict at_.line MakeClaim (map plain (m.claim_tests p at_ before.heap [] os)) ≡ Passes) (c : Ref) (is : c ≡ fresh before.heap 2) where
      -- the heap with the claim, and the same with the value stored
      abbrev pub made : Heap
      made = count_more (pos 1) os (put before.heap c (m.new_claim at_.context.me os entries))

      abbrev pub stored : Heap
      stored = m.stored_heap place (Refers c) made

      abbrev pub behind : m.Valued
      behind = record {
        value = Refers c;
        starting = record before { heap = made; changed = before.changed ++ m.deferred_from t.objects os; made = before.made ++ m.deferred_from t.claims (c ∷ []) };
      }

      claim_is : whole ≡ claim c os (m.Fresh old.next_thread)
      claim_is =
          let bs = m.claim_tests p at_ before.heap [] os in
          tests_are ∙ each_checked at_ MakeClaim (taken os) bs from ∙ checks_pass at_ MakeClaim (taken os) (map plain bs) from passes
          ∙ λ i. claim (sym is i) os (m.Fresh old.next_thread)

      checks_are : whole ≡ claim_checked p at_ os entries before.heap stored (from + length os + 1) (Gives behind)
      checks_are = claim_is

      -- the code's heaps, objects and conjuncts are these
      module _ (named : List Ref) (es : List Entry) (kept now : List Stored) (same : named ≡ os) (filled : es ≡ entries) (copied : kept ≡ old.heap) (here : look_up now ≡ made.get) where
        abbrev checked : Outcome m.Valued → Outcome m.Valued
        checked o = claim_checked p at_ named es (heap_at e.support kept) (m.stored_heap place (Refers c) (heap_at made.support now)) (from + length os + 1) o

        alike : checked (Gives behind) ≡ whole
        alike = (λ i. claim_checked p at_ (same i) (filled i) (heap_at e.support (copied i)) (m.stored_heap place (Refers c) (record { get = here i; support = made.support })) (from + length os + 1) (Gives behind)) ∙ sym checks_are

        pub made_stops : (s : Stop) → ((o : Outcome m.Valued) → Stops s (checked o)) → Stops s whole
        made_stops s f = subst (Stops s) alike (f (Gives behind))

        pub made_gives : ((o : Outcome m.Valued) → checked o ≡ o) → whole ≡ Gives behind
        made_gives f = sym alike ∙ f (Gives behind)

-- the claim's heap, from the code's

pub made_heap : (p : Program) (e : Extra) (old : Progress) (os : List Ref) (c me : Ref) (es entries : List Entry) (now : List Stored) → es ≡ entries → look_up now ≡ (with_claim c me os es (heap_of old.heap)).get → look_up now ≡ (count_more (pos 1) os (put (heap_at e.support old.heap) c (m.new_claim me os entries))).get
unfolding put
made_heap p e old os c me es entries now filled is =
    is ∙ ap (λ xs. (with_claim c me os xs (heap_of old.heap)).get) filled
    ∙ count_same (pos 1) os (put (heap_of old.heap) c (m.new_claim me os entries)) (put (heap_at e.support old.heap) c (m.new_claim me os entries)) refl

pub made_finite : (h : Heap) (os : List Ref) (c : Ref) (r : Record) → IsFinite h → IsFinite (count_more (pos 1) os (put h c r))
made_finite h os c r f = count_finite (pos 1) os (put h c r) (put_finite h c r f)

-- the code's progress follows, with the claim and its objects noted
pub noted_follows : (e : Extra) (old new : Progress) (now : List Stored) (h : Heap) (a b : ℕ) (os cs : List Ref) → look_up now ≡ h.get → IsFinite h →
    new.changed.items ≡ old.changed.items ++ os → new.made.items ≡ old.made.items ++ cs → new ≡ record old { heap = now; changed = new.changed; made = new.made } →
    Follows new (record (progress_at e old) { heap = h; changed = (progress_at e old).changed ++ m.deferred_from a os; made = (progress_at e old).made ++ m.deferred_from b cs })
noted_follows e old new now h a b os cs same finite changed made rest =
    let changes = more_places e.changed old.changed.items a os in
    let claims = more_places e.made old.made.items b cs in
    let extra' : Extra = record { support = h.support; changed = changes; made = claims; entries = e.entries } in
    record {
      extra = extra';
      finite = λ o out. ap (λ (g : Progress). look_up g.heap o) rest ∙ (λ i. same i o) ∙ finite o out;
      is =
          (λ i. record (progress_at e old) {
            heap = record { get = sym same i; support = h.support };
            changed = (more_deferred e.changed old.changed.items a os ∙ ap (deferred_at changes) (sym changed)) i;
            made = (more_deferred e.made old.made.items b cs ∙ ap (deferred_at claims) (sym made)) i;
          })
          ∙ ap (progress_at extra') (sym rest);
    }

pub made_lands : (new : Progress) (c : Ref) (whole : Outcome m.Valued) (w : m.Valued) → whole ≡ Gives w → w.value ≡ Refers c → Follows new w.starting → Lands (Leaves new (Refers c)) whole
made_lands new c whole w gives value follows = lands_gives (Leaves new (Refers c)) whole w gives (record { value = value; starting = follows })
