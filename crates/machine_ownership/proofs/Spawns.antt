-- A start of a thread, from its tests in the code's order.
use Rattle.std.proofs.Common.{◌≡◌, ℕ, ◌+◌, List, [], ◌∷◌, ◌++◌, length, Option, Some, None, Err, refl, sym, ap, subst, ◌∙◌}
use Rattle.object_types.specs.declared.references.Ref.{Ref}
use Rattle.object_types.specs.declared.records.Stored.{Stored}
use Rattle.object_types.specs.declared.values.Value.{Value}
use Rattle.object_types.specs.References.{thread}
use Rattle.object_types.specs.Heap.{Heap, IsFinite, hand_over, idle_from}
use Rattle.object_types.specs.Lookups.{look_up, heap_of}
use Rattle.method.specs.declared.program.CheckKind.TheVariants.{Spawn}
use Rattle.method.specs.declared.program.Clause.{Clause}
use Rattle.method.specs.declared.program.FunctionInfo.{FunctionInfo}
use Rattle.method.specs.declared.program.Program.{Program}
use Rattle.method.specs.Overflow.{Overflow, or_else}
use Rattle.method.specs.Expressions.{Outcome, Gives, Spot, Tested, weighed, call_scene, clause_tests, item_tests, check_specs}
use Rattle.method.specs.Expressions as x
use Rattle.method.specs.Actions as m
use Rattle.spec_eval.specs.declared.env.Env.{Env}
use Rattle.spec_eval.specs.Scenes.{scene_of}
use Rattle.machine_values.specs.declared.spot.Context.{Context}
use Rattle.machine_values.specs.declared.stop.Stop.{Stop}
use Rattle.machine_values.specs.declared.stop.Stop.TheVariants.{Misfit, Fault as Faulted, Wide, Exhausted, OutOfMemory}
use Rattle.machine_values.specs.Spots.{heap_at, context_at}
use Rattle.machine_values.specs.Answers.{Stops, Passes, verdict, Finds}
use Rattle.machine_values.specs.Testing.{code_scene}
use Rattle.machine_values.proofs.Verdicts.{checks_pass, checks_stop}
use Rattle.machine_objects.specs.declared.progress.Progress.{Progress}
use Rattle.machine_objects.specs.Runs.{Extra, contexts_at, progress_at, Follows, tries}
use Rattle.machine_ownership.specs.Owned.{is_owned}
use Rattle.machine_ownership.specs.Callees.{entered}
use Rattle.machine_ownership.proofs.Scenes.{heap_is, call_clause_tests}

-- one thread more

-- the lists of contexts' entry heaps, and behind them that of one more
abbrev pub entries_with : List (List Ref) → List Context → List Ref → List (List Ref)
entries_with ls [] y = y ∷ []
entries_with [] (c ∷ cs) y = [] ∷ entries_with [] cs y
entries_with (l ∷ ls) (c ∷ cs) y = l ∷ entries_with ls cs y

one_started : (ls : List (List Ref)) (cs : List Context) (y : List Ref) (c : Context) → contexts_at ls cs ++ context_at y c ∷ [] ≡ contexts_at (entries_with ls cs y) (cs ++ c ∷ [])
one_started [] [] y c = refl
one_started (l ∷ ls) [] y c = refl
one_started [] (b ∷ cs) y c = ap (λ xs. context_at [] b ∷ xs) (one_started [] cs y c)
one_started (l ∷ ls) (b ∷ cs) y c = ap (λ xs. context_at l b ∷ xs) (one_started ls cs y c)

-- the progress where the heap has changed, and this function's thread is started
abbrev pub with_thread : Extra → Progress → Heap → x.Context → m.Progress
with_thread e c h new = record (progress_at e c) { heap = h; supply = m.Fresh c.next_thread; started = contexts_at e.entries c.started.items ++ new ∷ [] }

pub started_follows :
    (e : Extra) (c d : Progress) (h : Heap) (new : Context) → h.get ≡ look_up d.heap → IsFinite h → d.started.items ≡ c.started.items ++ new ∷ [] →
    d ≡ record c { heap = d.heap; started = d.started } → Follows d (with_thread e c h (context_at h.support new))
started_follows e c d h new same finite pushed is =
    let entries = entries_with e.entries c.started.items h.support in
    let threads : contexts_at e.entries c.started.items ++ context_at h.support new ∷ [] ≡ contexts_at entries d.started.items =
    one_started e.entries c.started.items h.support new ∙ ap (contexts_at entries) (sym pushed) in
    record {
      extra = record e { support = h.support; entries = entries };
      finite = λ o out. (λ i. sym same i o) ∙ finite o out;
      is =
          (λ i. record (progress_at e c) { heap = record { get = same i; support = h.support }; supply = m.Fresh c.next_thread; started = threads i })
          ∙ ap (progress_at (record e { support = h.support; entries = entries })) (sym is);
    }

-- what passes is the same on the code's heap
pub handed_alike : (stored : List Stored) (y xs : List Ref) (u : Ref) → (hand_over (heap_at y stored) xs u).get ≡ (hand_over (heap_of stored) xs u).get
unfolding hand_over
handed_alike stored y xs u = refl

-- the checks

-- what stops is the weight alone
weighed_stops : {A B : Type 0} (s : Stop) (w : Option Overflow) (a : A) (b : B) → Stops s (weighed w (Gives a)) → Stops s (weighed w (Gives b))
weighed_stops {A} Misfit w a b t = let ends = ap (λ (o : Outcome A). o.end) t in absurd (cc (ends))
weighed_stops {A} (Faulted kind line) w a b t = let ends = ap (λ (o : Outcome A). o.end) t.1 in absurd (cc (ends))
weighed_stops (Wide v) w a b t = t
weighed_stops Exhausted w a b t = t
weighed_stops OutOfMemory w a b t = tt

no_weight : (w : Option Overflow) → or_else w None ≡ None → w ≡ None
no_weight None e = refl
no_weight (Some x) e = absurd (cc)

gave_is : {A : Type 0} (w : Option Overflow) (a b : A) → weighed w (Gives a) ≡ Gives b → a ≡ b
gave_is {A} w a b t = let ends = ap (λ (o : Outcome A). o.end) t in cc (ends)

module _ (p : Program) (at_ : Spot) (k : ℕ) (f : FunctionInfo) (args : List Value) (n : ℕ) (e : Extra) (c : Progress) where
  abbrev before : Heap
  before = heap_at e.support c.heap

  abbrev pub items : List Ref
  items = m.items_of p f.writes.items (call_scene at_.context.me before args)

  abbrev tests : List Tested
  tests = item_tests p (is_owned at_ before) f.writes.items (call_scene at_.context.me before args)

  abbrev start_by : Ref → Outcome m.Progress
  start_by u = m.started p at_ k f args items u (m.Fresh c.next_thread) (n + length items) (progress_at e c)

  abbrev least : Ref
  least = thread (idle_from (tries e.support) before c.next_thread)

  pub spawn_refused : (s : Stop) → Finds (Err s) (verdict at_.line Spawn tests) → Stops s (m.spawn p at_ k (Some f) args n (progress_at e c))
  spawn_refused s v = checks_stop at_ Spawn (start_by least) s tests n v

  module _ (passes : verdict at_.line Spawn tests ≡ Passes) (u : Ref) (is_least : u ≡ least) where
    abbrev pub passed : Heap
    passed = hand_over before items u

    abbrev required : List Tested
    required = clause_tests p f.requires_.items (call_scene u passed args)

    -- the new thread's function, and what stands behind its checks
    abbrev pub enters : Outcome x.Context
    enters = entered p k f u passed args

    abbrev rest : Outcome m.Progress
    rest = weighed (m.items_overflow p f.writes.items (call_scene u passed args)) (Gives (with_thread e c passed (m.callee p k f u passed args)))

    behind : m.spawn p at_ k (Some f) args n (progress_at e c) ≡ check_specs at_ required (n + length items) Spawn rest
    behind = checks_pass at_ Spawn (start_by least) tests n passes ∙ ap start_by (sym is_least)

    pub spawn_unmet : (s : Stop) → Finds (Err s) (verdict at_.line Spawn required) → Stops s (m.spawn p at_ k (Some f) args n (progress_at e c))
    spawn_unmet s v = subst (Stops s) (sym behind) (checks_stop at_ Spawn rest s required (n + length items) v)

    -- the code's heap behind the passing
    module _ (stored : List Stored) (records : passed.get ≡ look_up stored) where
      pub required_is : (env : Env) → ((h : Heap) → scene_of env h h ≡ call_scene u h args) → (cs : List Clause) → cs ≡ f.requires_.items → clause_tests p cs (code_scene env stored stored) ≡ clause_tests p f.requires_.items (call_scene u passed args)
      required_is env is cs same =
          call_clause_tests p env u args is stored passed.support cs
          ∙ λ i. clause_tests p (same i) (call_scene u (sym (heap_is passed stored records) i) args)

      pub enters_is : entered p k f u (heap_at passed.support stored) args ≡ enters
      enters_is = ap (λ h. entered p k f u h args) (sym (heap_is passed stored records))

    module _ (met : verdict at_.line Spawn required ≡ Passes) where
      last : m.spawn p at_ k (Some f) args n (progress_at e c) ≡ rest
      last = behind ∙ checks_pass at_ Spawn rest required (n + length items) met

      pub spawn_wide : (s : Stop) → Stops s enters → Stops s (m.spawn p at_ k (Some f) args n (progress_at e c))
      spawn_wide s t = subst (Stops s) (sym last) (weighed_stops s (m.items_overflow p f.writes.items (call_scene u passed args)) (m.callee p k f u passed args) _ t)

      pub spawn_gives : (new : x.Context) → enters ≡ Gives new → m.spawn p at_ k (Some f) args n (progress_at e c) ≡ Gives (with_thread e c passed new)
      spawn_gives new t =
          let w = m.items_overflow p f.writes.items (call_scene u passed args) in
          let fits = no_weight w (ap (λ (o : Outcome x.Context). o.overflow) t) in
          last ∙ (λ i. weighed (fits i) (Gives (with_thread e c passed (gave_is w (m.callee p k f u passed args) new t i))))
