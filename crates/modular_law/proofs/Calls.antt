-- The turn of a call: what the caller goes on with, and that the callee begins as a local run.
use Rattle.std.proofs.Common.{◌≡◌, ℕ, ◌+◌, true, List, [], ◌∷◌, map, length, Option, Some, None, slice_get, refl, sym, subst, IsTrue, IsFalse}
use Rattle.std.specs.Prelude.{Vec}
use Rattle.std.specs.declared.alloc.Global.{Global}
use Rattle.object_types.specs.declared.references.Ref.{Ref}
use Rattle.object_types.specs.declared.values.Value.{Value}
use Rattle.int_ranges.specs.declared.ctype.CType.{CType}
use Rattle.method.specs.declared.program.CheckKind.TheVariants.{Writes, Requires}
use Rattle.method.specs.declared.program.Expr.{Expr}
use Rattle.method.specs.declared.program.Receiver.{Receiver}
use Rattle.method.specs.declared.program.Stmt.TheVariants.{Call}
use Rattle.method.specs.declared.program.FunctionInfo.{FunctionInfo}
use Rattle.method.specs.declared.program.Program.{Program}
use Rattle.object_types.specs.References.{thread}
use Rattle.object_types.specs.Sets.{every}
use Rattle.object_types.specs.Heap.{Heap, writable}
use Rattle.method.specs.Rely.{Frame}
use Rattle.method.specs.Expressions.{Gave, Gives, after, Context, Tested, may_write, check_specs, eval_all, all_checks, call_scene, clause_tests, item_tests}
use Rattle.method.specs.Actions.{Place, Supply, Chosen, spot, starting, convert_to, items_of, callee}
use Rattle.method.specs.Machine.{Activation, Turn, went, begin_with, begin, received, and_receive, call_turn, fit_parameters, requires_hold}
use Rattle.method.specs.Text.{call_checks, receiver_checks, receiver_sets}
use Rattle.method.specs.LocalRuns.{Calling, Answers, call_known, receives, of_type, AllLocalOk}
use Rattle.method.specs.SafeRuns.{Passes, Goes, RunsStmt}
use Rattle.method.specs.Typing.{receiver_ok, result_values, WellTyped, stmt_ok, call_ok as call_typed}
use Rattle.method.proofs.Global.{and_both}
use Rattle.modular_law.specs.Respect.{Unwritable}
use Rattle.modular_law.proofs.Typing.{args_typed_at}
use Rattle.modular_law.proofs.Numbers.{eval_all_alike}
use Rattle.modular_law.proofs.Blocks.{closed_unopened}
use Rattle.modular_law.proofs.Frames.{narrows}
use Rattle.modular_law.proofs.Marks.{Mark, erase, Fine}
use Rattle.modular_law.proofs.Threads.{FieldPlace, StoreTyped, Covered, covered_sub, ends_well, Held, held_entry, TopOk, place_sets, ThreadOk}
use Rattle.modular_law.proofs.GoodTurns.{GoodTurn, stays, passes_after, pass_value, pass_specs, every_clauses, Running, stay}
use Rattle.modular_law.proofs.Starts.{begun_top}
use Rattle.modular_law.proofs.Receivers.{received_alike, received_sets, received_typed, place_field}

module _ (p : Program) (wt : WellTyped p) (local : AllLocalOk p) (last : ℕ) {t : ℕ} {h : Heap} {a : Activation} {f : FunctionInfo} {below : List Activation} {supply : Supply}
    (here : Running p t h a f below supply) where
  abbrev x : Context
  x = a.context

  module _ (line : ℕ) (c : Option CType) (q : ℕ) (ms : List Mark) (number : ℕ) (fine_held : Held p x f ms h a.locals) (ends : ends_well f ms ≡ true) where
    -- what the caller goes on with
    abbrev Rest : ℕ → Calling → Type 0
    Rest label z = (k : Heap) (v : Value) → Answers p x f z h k v → Passes label (receives p x f line z.place c v number k a.locals) (Goes (Fine p x f label last ms))

    called : (g : FunctionInfo) → slice_get p.functions.items q ≡ Some g → (place : Option Place) → Covered (place_sets place) ms → (args : List Value) → IsTrue (fit_parameters g args) →
        IsTrue (requires_hold p g x.me h args) → every (λ (u : Tested). u.holds) (item_tests p (may_write (spot x [] line)) g.writes.items (call_scene x.me h args)) ≡ true →
        ((v w : Value) → IsTrue (of_type g.result v) → (convert_to (spot x [] line) c v 0).end ≡ Gave w → StoreTyped p f place w) → FieldPlace p place →
        ((label : ℕ) → Rest label (record { place = place; info = g; context = callee p q g x.me h args })) →
        ThreadOk p t h (begin p (callee p q g x.me h args) ∷ went a a.locals (and_receive p line c place (map erase ms)) ∷ below)
    called g g_is place covered args fit req all stores at_field rest =
        subst (λ o. ThreadOk p t h (begin_with o y' ∷ went a a.locals (and_receive p line c place (map erase ms)) ∷ below)) (sym g_is) (
          subst (λ r. TopOk p t h (begin_with (Some g) (callee p q g r h args))) (sym here.me)
              (begun_top p wt local q g g_is t h args here.good fit (subst (λ r. IsTrue (requires_hold p g r h args)) here.me req)),
          (
            record {
              info = f;
              is = here.is;
              me = here.me;
              good = here.entry;
              marks = ms;
              last = last;
              line = line;
              place = place;
              conversion = c;
              number = number;
              callee = g;
              callee_is = g_is;
              callee_me = refl;
              code = refl;
              resumes = rest;
              held = fine_held;
              ends = ends;
              covered = covered;
              narrow = narrow;
              fits = here.fits;
              stores = stores;
              at_field = at_field;
            },
            here.waits,
          ),
        )
      where
        y' : Context
        y' = callee p q g x.me h args

        narrow_for : (r : Ref) → r ≡ thread t → Frame p r x.entry h x.entry x.writes →
            every (λ (u : Tested). u.holds) (item_tests p (writable r x.entry x.writes) g.writes.items (call_scene r h args)) ≡ true → (o : Ref) →
            IsFalse (writable r x.entry x.writes o) → IsFalse (writable r h (items_of p g.writes.items (call_scene r h args)) o)
        narrow_for r e fr tests =
            subst (λ (r : Ref). (o : Ref) → IsFalse (writable r x.entry x.writes o) → IsFalse (writable r h (items_of p g.writes.items (call_scene r h args)) o)) (sym e)
            (narrows p t x.entry h x.writes g.writes.items (call_scene (thread t) h args) here.entry (subst (λ (r : Ref). Frame p r x.entry h x.entry x.writes) e fr)
            (subst (λ (r : Ref). every (λ (u : Tested). u.holds) (item_tests p (writable r x.entry x.writes) g.writes.items (call_scene r h args)) ≡ true) e tests))

        narrow : (o : Ref) → Unwritable x o → Unwritable y' o
        narrow = narrow_for x.me here.me (held_entry p x f ms h a.locals fine_held) all

    call_turn_ok : (o : Option FunctionInfo) → slice_get p.functions.items q ≡ o → (place : Option Place) → Covered (place_sets place) ms → (args : List Value) (m : ℕ) →
        ((g : FunctionInfo) → o ≡ Some g → IsTrue (fit_parameters g args)) → ((g : FunctionInfo) → o ≡ Some g → (v w : Value) → IsTrue (of_type g.result v) →
        (convert_to (spot x [] line) c v 0).end ≡ Gave w → StoreTyped p f place w) → FieldPlace p place →
        ((label : ℕ) → Passes label (call_known p x f o q (spot x [] line) place args m h) (Rest label)) →
        GoodTurn p supply t h (call_turn p q o (spot x [] line) args c place a (map erase ms) below h)
    call_turn_ok None e place covered args m fit stores at_field passes = record { ends = tt }
    call_turn_ok (Some g) e place covered args m fit stores at_field passes =
        let y = callee p q g x.me h args in
        let made : Calling = record { place = place; info = g; context = y } in
        let turn : Turn = record { heap = h; frames = begin p y ∷ went a a.locals (and_receive p line c place (map erase ms)) ∷ below; started = []; line = line } in
        let items = item_tests p (may_write (spot x [] line)) g.writes.items (call_scene x.me h args) in
        pass_specs p supply t h (spot x [] line) Requires Rest (check_specs (spot x [] line) items 0 Writes (Gives turn))
        (check_specs (spot x [] line) items (m + length g.requires_.items) Writes (Gives made)) (clause_tests p g.requires_.items (call_scene x.me h args)) 0 m passes (λ req runs.
        pass_specs p supply t h (spot x [] line) Writes Rest (Gives turn) (Gives made) items 0 (m + length g.requires_.items) runs (λ all rest.
        record {
          ends = (
            λ acts. stays p supply t h here.good _ _ _,
            λ known. record {
              frames = called g e place covered args (fit g refl)
                  (every_clauses p (call_scene x.me h args) g.requires_.items req) all (stores g refl) at_field rest;
              started = tt;
              unopened = λ o c z. closed_unopened (h.get o).mode c;
            },
          );
        }))

  pub call_ok : (line : ℕ) (to : Receiver) (c : Option CType) (q : ℕ) (es : Vec Expr Global) (n : ℕ) (ms : List Mark) → IsTrue (stmt_ok p f x.function (Call line to c q es)) →
      Covered (receiver_sets to) ms → Held p x f ms h a.locals → ends_well f ms ≡ true →
      ((label : ℕ) → RunsStmt p x f label (Call line to c q es) n (Fine p x f label last ms) h a.locals) →
      GoodTurn p supply t h (after (received p to (spot x [] line) 0 (starting h a.locals supply))
      (λ place. after (eval_all p (spot x [] line) h a.locals es.items 0) (λ args. call_turn p q (slice_get p.functions.items q) (spot x [] line) args c place a (map erase ms) below h)))
  call_ok line to c q es n ms ok covered held ends runs =
      let at_ = spot x [] line in
      let num = n + call_checks p to q es.items in
      let i = n + receiver_checks to in
      let typed_call = and_both (call_typed p f (slice_get p.functions.items q) es.items) _ ok in
      pass_value p supply t h (λ label place. Passes label (after (eval_all p at_ h a.locals es.items i)
      (λ args. call_known p x f (slice_get p.functions.items q) q at_ place args (i + all_checks es.items) h)) (Rest line c q ms num held ends label))
      (received p to at_ 0 (starting h a.locals supply)) (received p to at_ n (starting h a.locals (Chosen []))) _ (received_alike p wt here line to 0 n)
      (λ label. passes_after label (received p to at_ n (starting h a.locals (Chosen []))).overflow (received p to at_ n (starting h a.locals (Chosen []))).end _ _ (runs label h (stay p here true)))
      (λ place place_gave runs'.
      pass_value p supply t h (λ label args. Passes label (call_known p x f (slice_get p.functions.items q) q at_ place args (i + all_checks es.items) h) (Rest line c q ms num held ends label))
      (eval_all p at_ h a.locals es.items 0) (eval_all p at_ h a.locals es.items i) _ (eval_all_alike p at_ h a.locals es.items 0 i)
      (λ label. passes_after label (eval_all p at_ h a.locals es.items i).overflow (eval_all p at_ h a.locals es.items i).end _ _ (runs' label))
      (λ args args_gave runs''. call_turn_ok line c q ms num held ends (slice_get p.functions.items q) refl place
      (covered_sub (place_sets place) (receiver_sets to) ms (received_sets p wt here line to place place_gave) covered) args (i + all_checks es.items)
      (λ g e. args_typed_at p wt x f here.is t here.me h here.good a.locals here.fits line [] g es.items 0 args (subst (λ o. IsTrue (call_typed p f o es.items)) e typed_call.0) args_gave)
      (λ g e. received_typed p wt here line to c q g e place place_gave (subst (λ o. receiver_ok p f to (result_values p f o c) ≡ true) e typed_call.1))
      (place_field p wt here line to place (result_values p f (slice_get p.functions.items q) c) typed_call.1 place_gave) runs''))
