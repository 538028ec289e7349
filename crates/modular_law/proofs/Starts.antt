-- A function begins as a local run.
use Rattle.std.proofs.Common.{◌≡◌, ℕ, List, Some, slice_get, refl, sym, subst, IsTrue}
use Rattle.object_types.specs.declared.values.Value.{Value}
use Rattle.method.specs.declared.program.FunctionInfo.{FunctionInfo}
use Rattle.method.specs.declared.program.Program.{Program}
use Rattle.object_types.specs.References.{thread}
use Rattle.object_types.specs.Heap.{Heap}
use Rattle.method.specs.Legal.{Good}
use Rattle.method.specs.Expressions.{Context}
use Rattle.method.specs.Actions.{callee}
use Rattle.method.specs.Machine.{begin_with, begin, fit_parameters, requires_hold}
use Rattle.method.specs.LocalRuns.{AllLocalOk}
use Rattle.method.specs.SafeRuns.{RunsBody}
use Rattle.method.specs.Typing.{WellTyped}
use Rattle.method.proofs.Runs.{same_runs}
use Rattle.modular_law.proofs.Facts.{last_returns}
use Rattle.modular_law.proofs.Typing.{begin_fits}
use Rattle.modular_law.proofs.Frames.{frame_rests}
use Rattle.modular_law.proofs.Marks.{all_gos, end_number, body_fine, erase_body}
use Rattle.modular_law.proofs.Threads.{ends_all, body_held, TopOk}

module _ (p : Program) (wt : WellTyped p) (local : AllLocalOk p) (k : ℕ) (g : FunctionInfo) (is : slice_get p.functions.items k ≡ Some g) (t : ℕ) (h : Heap) (args : List Value)
    (good : Good p h) (fit : IsTrue (fit_parameters g args)) (req : IsTrue (requires_hold p g (thread t) h args)) where
  abbrev y : Context
  y = callee p k g (thread t) h args

  begins : (label : ℕ) → RunsBody p y g label g.body.items 1 h (begin_with (Some g) y).locals
  begins label = subst (λ o. RunsBody p y g label g.body.items 1 h (begin_with o y).locals) is ((same_runs p k label).0 (local k label) g is t h args good fit req)

  pub begun_top : TopOk p t h (begin_with (Some g) y)
  begun_top = record {
    info = g;
    is = is;
    me = refl;
    good = good;
    marks = all_gos p g g.body.items 1;
    last = end_number p g g.body.items 1;
    code = erase_body p g g.body.items 1;
    fine = λ label. body_fine p y g label g.body.items 1 h (begin_with (Some g) y).locals (begins label);
    held = body_held p y g g.body.items 1 h (begin_with (Some g) y).locals (wt.bodies k g is) (frame_rests p y.me h y.entry y.writes good.well_formed.heap_of good);
    ends = ends_all p g g.body.items 1 (last_returns p wt k g is);
    fits = begin_fits g args fit;
  }

  pub start_top : TopOk p t h (begin p y)
  start_top = subst (λ o. TopOk p t h (begin_with o y)) (sym is) begun_top
