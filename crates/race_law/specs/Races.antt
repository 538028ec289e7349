-- Data races. From ISO/IEC 9899:2011, 5.1.2.4: two accesses conflict where one of them writes; from Boehm and Adve, Foundations of the C++ Concurrency Memory Model (PLDI 2008): a program has a race where in some interleaving two conflicting accesses of different threads, not both atomic, may each come next.
use Rattle.std.specs.Prelude.{◌≡◌, ℕ, ◌==◌, Bool, true, false, not, ◌&&◌, ◌||◌, List, [], ◌∷◌, Option, Some, None, IsFalse}
use Rattle.object_types.specs.References.{same_ref}
use Rattle.object_types.specs.Heap.{Heap, is_absent}
use Rattle.method.specs.declared.program.Program.{Program}
use Rattle.method.specs.Legal.{Good}
use Rattle.method.specs.Machine.{State, Event, Answer, NotEnabled, step, run, IsStart}
use Rattle.race_law.specs.Accesses.{Access, event_accesses}

-- the whole object, as it is freed, is each of its fields
abbrev pub same_field : Option ℕ → Option ℕ → Bool
same_field None g = true
same_field (Some f) None = true
same_field (Some f) (Some g) = f == g

-- Two accesses to one place of an object that is in the heap, one of which writes, and not both atomic.
abbrev pub races : Heap → Access → Access → Bool
races h a b =
    not (is_absent (h.get a.object).mode)
    && (same_ref a.object b.object && (same_field a.field b.field && ((a.writes || b.writes) && not (a.atomic && b.atomic))))

-- one access with some of others
abbrev pub races_some : Heap → Access → List Access → Bool
races_some h a [] = false
races_some h a (b ∷ bs) = races h a b || races_some h a bs

abbrev pub some_races : Heap → List Access → List Access → Bool
some_races h [] bs = false
some_races h (a ∷ others) bs = races_some h a bs || some_races h others bs

-- what two events access races
abbrev pub events_race : Program → State → Event → Event → Bool
events_race p s e f = some_races s.heap (event_accesses p s e) (event_accesses p s f)

abbrev pub IsEnabled : Answer → Type 0
IsEnabled a = a ≡ NotEnabled → ⊥

-- In no interleaving, from no start on a good heap, events of two threads, either of which may come next, access one place in a race.
abbrev pub NoDataRaces : Program → Type 0
NoDataRaces p =
    (s : State) → IsStart p s → Good p s.heap → (events : List Event) (e f : Event) → let s' = run p events s in
    (e.thread ≡ f.thread → ⊥) → IsEnabled (step p s' e) → IsEnabled (step p s' f) → IsFalse (events_race p s' e f)
