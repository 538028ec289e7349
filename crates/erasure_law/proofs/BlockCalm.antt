-- A block's turn fits, where it takes no choices.
use Rattle.std.proofs.Common.{◌≡◌, ℕ, ◌+◌, true, List, [], ◌∷◌, map, length, Vec, Global, refl}
use Rattle.object_types.specs.declared.references.Ref.{Ref}
use Rattle.object_types.specs.declared.values.Value.{Value}
use Rattle.method.specs.declared.program.CheckKind.TheVariants.{AtomicClosed, Invariant}
use Rattle.method.specs.declared.program.Inner.{Inner}
use Rattle.method.specs.declared.program.Listed.{Listed}
use Rattle.method.specs.declared.program.Action.TheVariants.{Atomic}
use Rattle.method.specs.declared.program.Stmt.TheVariants.{Do}
use Rattle.method.specs.declared.program.FunctionInfo.{FunctionInfo}
use Rattle.method.specs.declared.program.Program.{Program}
use Rattle.object_types.specs.Values.{referent}
use Rattle.object_types.specs.Sets.{every}
use Rattle.object_types.specs.Heap.{Heap, closed_in}
use Rattle.method.specs.Typing.{inner_ok}
use Rattle.method.specs.Expressions.{Outcome, Gives, after, Tested, check_each, all_checks, eval_all, inv_test}
use Rattle.method.specs.Actions.{Fresh, Progress, spot, starting, act, no_tally, run_list, list_checks, list_tally, block_end, check_deferred, plain_listed, listed_exprs, listed_objects}
use Rattle.method.specs.Machine.{Remaining, Run, Activation, turn_of}
use Rattle.erasure_law.proofs.Fits.{Fits, evals_fit}
use Rattle.erasure_law.proofs.TurnFits.{acted_fits}
use Rattle.erasure_law.proofs.BlockFits.{GoesOn, fits_any, with_fits, after_with, each_with, specs_with, deferred_with, list_with}

pub atomic_fits : (p : Program) (f : FunctionInfo) (a : Activation) (below : List Activation) (h : Heap) (number line : ℕ) (ls : Vec Listed Global) (body : Vec Inner Global) (code : List Remaining) → every (inner_ok p f a.context.function) body.items ≡ true →
    Fits (turn_of p (Fresh number) [] a (Run (Do line (Atomic ls body)) ∷ code) below h).end
unfolding act
atomic_fits p f a below h number line ls body code ok =
    let at_ = spot a.context [] line in
    let g = starting h a.locals (Fresh number) in
    let m = 0 + all_checks (listed_exprs ls.items) in
    let n = m + length ls.items + list_checks p body.items in
    let ends : List Ref → Progress → Outcome Progress = λ os g'. block_end p at_ body.items ls.items os h n g' in
    let runs : List Ref → Outcome Progress = λ os. after (run_list p a.context os body.items (m + length ls.items) no_tally g) (ends os) in
    let whole : List Value → Outcome Progress = λ vs. check_each at_ (map (closed_in h) (map referent vs)) m AtomicClosed (runs (map referent vs)) in
    let Any : Progress → Type 0 = λ g'. Unit {0} in
    let o : Outcome Progress = after (eval_all p at_ h a.locals (listed_exprs ls.items) 0) whole in
    acted_fits p line a code below o
    (with_fits Any o.end
    (after_with (λ (vs : List Value). Unit {0}) Any (eval_all p at_ h a.locals (listed_exprs ls.items) 0) whole (fits_any (eval_all p at_ h a.locals (listed_exprs ls.items) 0).end (evals_fit p at_ h a.locals (listed_exprs ls.items) 0)) (λ vs u.
    let os = map referent vs in
    each_with Any at_ (map (closed_in h) os) m AtomicClosed (runs os)
    (after_with (GoesOn p f a.context.function a.context os number) Any (run_list p a.context os body.items (m + length ls.items) no_tally g) (ends os)
    (list_with p f a.context.function a.context os number body.items ok (m + length ls.items) no_tally g refl) (λ g' z.
    let tests : Ref → Tested = λ q. inv_test p q h g'.heap in
    let o2 : Outcome Progress = check_deferred at_ tests g'.made (n + plain_listed ls.items + (list_tally p body.items).objects) (Gives g') in
    let o1 : Outcome Progress = check_deferred at_ tests g'.changed (n + plain_listed ls.items) o2 in
    specs_with Any at_ (map tests (listed_objects ls.items os)) n Invariant o1
    (deferred_with Any at_ tests g'.changed (n + plain_listed ls.items) o2
    (deferred_with Any at_ tests g'.made (n + plain_listed ls.items + (list_tally p body.items).objects) (Gives g') tt)))))))
