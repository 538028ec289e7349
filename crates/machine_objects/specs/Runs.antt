-- What the code's actions make of what they change, beside what the definitions say. The definitions keep lists that the code doesn't: beside each heap's records, and the places of a block's late checks. Own.
use Rattle.std.specs.Prelude.{◌≡◌, ℕ, suc, length, Option, Some, List, [], ◌∷◌, None, Result, Bool, map, not, ◌&&◌, ◌||◌}
use Rattle.std.proofs.Common.{Vec, Global}
use Rattle.object_types.specs.declared.references.Ref.{Ref}
use Rattle.object_types.specs.declared.values.Value.{Value}
use Rattle.int_ranges.specs.Exact.{Leaves as Leaves128}
use Rattle.object_types.specs.Values.{int, referent}
use Rattle.object_types.specs.Heap.{Heap, IsFinite, mutable}
use Rattle.method.specs.declared.program.Program.{Program}
use Rattle.method.specs.Tables.{is_volatile, is_approved}
use Rattle.method.specs.Expressions.{End, Misfit, Failed, Gave, Outcome}
use Rattle.method.specs.Actions as m
use Rattle.method.specs.Expressions as x
use Rattle.machine_values.specs.declared.spot.Context.{Context}
use Rattle.machine_values.specs.declared.spot.Spot.{Spot}
use Rattle.machine_values.specs.declared.stop.Stop.{Stop}
use Rattle.machine_values.specs.declared.stop.Stop.TheVariants.{Misfit as Misfit', Fault, Wide, Exhausted, OutOfMemory}
use Rattle.machine_values.specs.Spots.{heap_at, context_at, spot_at}
use Rattle.machine_values.specs.Answers.{Comes, ComesOr}
use Rattle.machine_objects.specs.declared.progress.Progress.{Progress}
use Rattle.machine_objects.specs.declared.progress.Place.{Place}
use Rattle.machine_objects.specs.declared.progress.Place.TheVariants.{InLocal, InField}

-- the lists that the code doesn't keep
pub record Extra : Type 0 where
  pub support : List Ref
  pub changed : List ℕ
  pub made : List ℕ
  pub entries : List (List Ref)

abbrev pub deferred_at : List ℕ → List Ref → List m.Deferred
deferred_at ns [] = []
deferred_at [] (r ∷ rs) = record { place = 0; which = r } ∷ deferred_at [] rs
deferred_at (n ∷ ns) (r ∷ rs) = record { place = n; which = r } ∷ deferred_at ns rs

abbrev pub contexts_at : List (List Ref) → List Context → List x.Context
contexts_at ls [] = []
contexts_at [] (c ∷ cs) = context_at [] c ∷ contexts_at [] cs
contexts_at (l ∷ ls) (c ∷ cs) = context_at l c ∷ contexts_at ls cs

-- the progress of the code, with these lists
abbrev pub progress_at : Extra → Progress → m.Progress
progress_at e c =
    record {
      heap = heap_at e.support c.heap;
      locals = c.locals.items;
      supply = m.Fresh c.next_thread;
      changed = deferred_at e.changed c.changed.items;
      made = deferred_at e.made c.made.items;
      started = contexts_at e.entries c.started.items;
    }

-- g is the code's progress with some lists, of which that beside the heap names all that stands in it
pub record Follows (c : Progress) (g : m.Progress) : Type 0 where
  pub extra : Extra
  pub finite : IsFinite (heap_at extra.support c.heap)
  pub is : g ≡ progress_at extra c

abbrev pub place_of : Place → m.Place
place_of (InLocal i) = m.InLocal i
place_of (InField o f) = m.InField o f

abbrev pub Ended : {A : Type 0} → (A → Type 0) → End A → Type 0
Ended Q Misfit = ⊥
Ended Q (Failed n kind line) = ⊥
Ended Q (Gave a) = Q a

-- the outcome gives something of which Q holds, and nothing on the way leaves 128 bits
pub record Lands {A : Type 0} (Q : A → Type 0) (o : Outcome A) : Type 0 where
  pub fits : o.overflow ≡ None
  pub gave : Ended Q o.end

-- an item gives this value, and leaves the code's progress so
pub record Leaves (c : Progress) (v : Value) (w : m.Valued) : Type 0 where
  pub value : w.value ≡ v
  pub starting : Follows c w.starting

-- whatever the first check's number and the lists are: an item that changes nothing, and one that does
abbrev pub Reading : Spot → Progress → (Program → x.Spot → m.Progress → ℕ → Type 0) → Type 0
Reading at_ c P = (n : ℕ) (y : List Ref) (e : Extra) → IsFinite (heap_at e.support c.heap) → P at_.program.now (spot_at y at_) (progress_at e c) n

-- the code's item does what the definition's does, or numbers run out on its way
abbrev pub RunsOr : Type 0 → Result (Unit {0}) Stop → Progress → Outcome m.Progress → Type 0
RunsOr U result c o = ComesOr U result (λ u r. Lands (Follows c) r) o

-- the same of an item that never exhausts them
abbrev pub Runs : Result (Unit {0}) Stop → Progress → Outcome m.Progress → Type 0
Runs result c o = RunsOr ⊥ result c o

-- the same of items that give a value
abbrev pub RunsToOr : Type 0 → Result Value Stop → Progress → Outcome m.Valued → Type 0
RunsToOr U result c o = ComesOr U result (λ v r. Lands (Leaves c v) r) o

abbrev pub RunsTo : Result Value Stop → Progress → Outcome m.Valued → Type 0
RunsTo result c o = RunsToOr ⊥ result c o

-- the code's place is the one that the left side comes to
abbrev pub IsPlace : Result Place Stop → Outcome m.Place → Type 0
IsPlace result o = Comes result (λ place r. r ≡ x.Gives (place_of place)) o

-- what the Write check of p->f = v asks
abbrev pub may_store : Program → x.Spot → Heap → Ref → ℕ → Bool
may_store p at_ h o f = mutable at_.context.me h o || (x.is_listed at_ o && (is_volatile p f && (not (is_approved p f) || m.may_count at_ h o)))

-- the code's objects are those that the item comes to
abbrev pub IsRefs : Result (Vec Ref Global) Stop → Outcome (List Ref) → Type 0
IsRefs result o = Comes result (λ os r. r ≡ x.Gives os.items) o

abbrev pub count_tests : x.Spot → Heap → List Ref → List Bool
count_tests at_ h os = map (m.may_count at_ h) os

-- the same of what stands inside an atomic block: its program, context and listed objects
abbrev pub Inside : Spot → Progress → (Program → x.Context → List Ref → m.Progress → ℕ → Type 0) → Type 0
Inside at_ c P = (n : ℕ) (y : List Ref) (e : Extra) → IsFinite (heap_at e.support c.heap) → P at_.program.now (context_at y at_.context.now) at_.listed.now (progress_at e c) n

-- the value that replaces another, or none where it leaves 128 bits
abbrev pub IsReplacement : Option Value → Value → Type 0
IsReplacement (Some v) w = w ≡ v
IsReplacement None w = Leaves128 (int w)

-- what an item that changes nothing comes to, by its value alone
abbrev pub ended_value : Outcome m.Valued → Outcome Value
ended_value o = x.after o (λ w. x.Gives w.value)

-- how many threads are tried at most for one that owns nothing
abbrev pub tries : List Ref → ℕ
tries y = suc (length y)

-- memory is wanted, of which the definitions say nothing, or numbers are exhausted and U holds
abbrev pub IsSilentOr : Type 0 → Stop → Type 0
IsSilentOr U Misfit' = ⊥
IsSilentOr U (Fault kind line) = ⊥
IsSilentOr U (Wide w) = ⊥
IsSilentOr U Exhausted = U
IsSilentOr U OutOfMemory = Unit {0}

abbrev pub IsSilent : Stop → Type 0
IsSilent stop = IsSilentOr ⊥ stop

-- the code's objects are the references that the item's values are
abbrev pub IsReferents : Result (Vec Ref Global) Stop → Outcome (List Value) → Type 0
IsReferents result o = Comes result (λ os r. Lands (λ vs. os.items ≡ map referent vs) r) o
