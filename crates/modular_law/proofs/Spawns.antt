-- A thread that is started begins as a local run.
use Rattle.std.proofs.Common.{◌≡◌, ℕ, ◌+◌, ◌&&◌, List, [], ◌∷◌, ◌++◌, length, Option, Some, None, slice_get, refl, sym, subst, IsTrue}
use Rattle.std.specs.Prelude.{Vec}
use Rattle.std.specs.declared.alloc.Global.{Global}
use Rattle.object_types.specs.declared.references.Ref.{Ref}
use Rattle.object_types.specs.declared.values.Value.{Value}
use Rattle.method.specs.declared.program.CheckKind.TheVariants.{Spawn}
use Rattle.method.specs.declared.program.Expr.{Expr}
use Rattle.method.specs.declared.program.Action.TheVariants.{SpawnThread}
use Rattle.method.specs.declared.program.Stmt.TheVariants.{Do}
use Rattle.method.specs.declared.program.FunctionInfo.{FunctionInfo}
use Rattle.method.specs.declared.program.Program.{Program}
use Rattle.object_types.specs.References.{thread}
use Rattle.object_types.specs.Heap.{Heap, hand_over, wrapped}
use Rattle.method.specs.Legal.{Good}
use Rattle.method.specs.Expressions.{Gives, Gave, weighed, Context, Spot, may_write, eval_all, all_checks, call_scene, clause_tests, item_tests}
use Rattle.method.specs.Actions.{Supply, take_thread, spawn, started, run_action, Progress, spot, starting, act, items_of, items_overflow, no_choices, callee}
use Rattle.method.specs.Machine.{Activation, begin, fit_parameters, requires_hold}
use Rattle.method.specs.LocalRuns.{AllLocalOk}
use Rattle.method.specs.Typing.{WellTyped, stmt_ok, call_ok as call_typed}
use Rattle.modular_law.proofs.Typing.{args_typed_at}
use Rattle.modular_law.proofs.Threads.{ThreadOk}
use Rattle.modular_law.proofs.GoodTurns.{AllStart, every_clauses, Running}
use Rattle.modular_law.proofs.Starts.{start_top}
use Rattle.modular_law.proofs.Results.{gave_is, Behind, after_gave, fitting_gave, specs_gave, thread_gave}

module _ (p : Program) (wt : WellTyped p) (local : AllLocalOk p) (last : ℕ) {t : ℕ} {h : Heap} {a : Activation} {f : FunctionInfo} {below : List Activation} {supply : Supply}
    (here : Running p t h a f below supply) where
  abbrev x : Context
  x = a.context

  module _ (k : ℕ) (g : FunctionInfo) (g_is : slice_get p.functions.items k ≡ Some g) (args : List Value) (fit : IsTrue (fit_parameters g args)) where
    abbrev items : List Ref
    items = items_of p g.writes.items (call_scene x.me h args)

    abbrev new_context : Ref → Context
    new_context u = callee p k g u (hand_over h items u) args

    started_thread : (u : Ref) → u ≡ thread u.serial → Good p (hand_over h items u) → IsTrue (requires_hold p g u (hand_over h items u) args) →
        ThreadOk p u.serial (hand_over h items u) (begin p (new_context u) ∷ [])
    started_thread u e =
        subst (λ (r : Ref). Good p (hand_over h items r) → IsTrue (requires_hold p g r (hand_over h items r) args) → ThreadOk p u.serial (hand_over h items r) (begin p (new_context r) ∷ [])) (sym e)
        (λ good' req. (
          start_top p wt local k g g_is u.serial (hand_over h items (thread u.serial)) args good' fit req,
          tt,
        ))

  pub spawn_starts : (choices : List Value) (line k : ℕ) (es : Vec Expr Global) (g : Progress) → IsTrue (stmt_ok p f x.function (Do line (SpawnThread k es))) →
      (act p x choices supply line (SpawnThread k es) 0 h a.locals).end ≡ Gave g → Good p g.heap → AllStart p g.heap g.started
  unfolding act
  spawn_starts choices line k es g ok e good' = by_function (slice_get p.functions.items k) refl b.then_gave
    where
      at_ : Spot
      at_ = spot x choices line

      b : Behind (eval_all p at_ h a.locals es.items 0) (λ args. spawn p at_ k (slice_get p.functions.items k) args (0 + all_checks es.items) (starting h a.locals supply)) g
      b = after_gave (eval_all p at_ h a.locals es.items 0) (λ args. spawn p at_ k (slice_get p.functions.items k) args (0 + all_checks es.items) (starting h a.locals supply)) g
          (fitting_gave (no_choices choices) (run_action p at_ (SpawnThread k es) 0 (starting h a.locals supply)) g e)

      by_function : (o : Option FunctionInfo) → slice_get p.functions.items k ≡ o → (spawn p at_ k o b.value (0 + all_checks es.items) (starting h a.locals supply)).end ≡ Gave g →
          AllStart p g.heap g.started
      by_function None d z = absurd (cc)
      by_function (Some i) d z =
          let ws = items_of p i.writes.items (call_scene x.me h b.value) in
          let fit = args_typed_at p wt x f here.is t here.me h here.good a.locals here.fits line choices i es.items 0 b.value (subst (λ o. IsTrue (call_typed p f o es.items)) d ok) b.gave in
          let first = specs_gave at_ Spawn _ g (item_tests p (λ o. wrapped x.me h o && may_write at_ o) i.writes.items (call_scene x.me h b.value)) (0 + all_checks es.items) z in
          let took = after_gave (take_thread supply x.me h) (λ u. started p at_ k i b.value ws u.which u.supply (0 + all_checks es.items + length ws) (starting h a.locals supply)) g first.1 in
          let u = took.value.which in
          let made : Progress = record (starting h a.locals supply) { heap = hand_over h ws u; supply = took.value.supply; started = [] ++ (callee p k i u (hand_over h ws u) b.value ∷ []) } in
          let last_one = specs_gave at_ Spawn (weighed (items_overflow p i.writes.items (call_scene u (hand_over h ws u) b.value)) (Gives made)) g (clause_tests p i.requires_.items (call_scene u (hand_over h ws u) b.value)) (0 + all_checks es.items + length ws) took.then_gave in
          let same : made ≡ g = gave_is made g last_one.1 in
          subst (λ (j : Progress). AllStart p j.heap j.started) {x = made} same (
            started_thread k i d b.value fit u (thread_gave supply x.me h took.value here.above took.gave) (subst (λ (j : Progress). Good p j.heap) {y = made} (sym {a = made} same) good')
                (every_clauses p (call_scene u (hand_over h ws u) b.value) i.requires_.items last_one.0),
            tt,
          )
