-- How a call's checks stand before the function that begins.
use Rattle.std.proofs.Common.{◌≡◌, ℕ, ◌+◌, Bool, true, false, List, [], ◌∷◌, Option, None, Some, slice_get, Result, Ok, Err, refl, sym, ap, ◌∙◌}
use Rattle.std.specs.Prelude.{IfOk, IfErr}
use Rattle.object_types.specs.declared.references.Ref.{Ref}
use Rattle.object_types.specs.declared.values.Value.{Value}
use Rattle.object_types.specs.Heap.{Heap}
use Rattle.int_ranges.specs.declared.ctype.CType.{CType}
use Rattle.method.specs.declared.program.CheckKind.{CheckKind}
use Rattle.method.specs.declared.program.CheckKind.TheVariants.{Requires, Writes}
use Rattle.method.specs.declared.program.FunctionInfo.{FunctionInfo}
use Rattle.method.specs.declared.program.Spec.{Spec}
use Rattle.method.specs.declared.program.Program.{Program}
use Rattle.method.specs.SpecValue.{Scene, value}
use Rattle.method.specs.Overflow.{Overflow, or_else, overflow}
use Rattle.method.specs.Expressions.{Outcome, Gave, Gives, weighed, after, Spot, Tested, check, check_specs, clause_tests, item_tests, may_write, call_scene}
use Rattle.method.specs.Actions.{Place, callee, items_overflow}
use Rattle.method.specs.Machine as m
use Rattle.object_types.specs.Values.{referent}
use Rattle.machine_values.specs.declared.spot.Context.{Context}
use Rattle.machine_values.specs.declared.stop.Stop.{Stop}
use Rattle.machine_values.specs.declared.stop.Stop.TheVariants.{Misfit, Fault, Wide, Exhausted, OutOfMemory}
use Rattle.machine_values.specs.Answers.{Stops, Verdict, Passes, one_verdict, verdict}
use Rattle.machine_values.specs.Spots.{context_at}
use Rattle.machine_values.proofs.Outcomes.{after_assoc}
use Rattle.machine_objects.specs.Runs.{IsSilent}
use Rattle.machine_objects.proofs.Landing.{silent}
use Rattle.machine_turns.specs.declared.activation.Activation.{Activation}
use Rattle.machine_turns.specs.Frames.{frame_at}
use Rattle.machine_turns.specs.Turns.{IsEntered, entering}

one_fit : (line : ℕ) (kind : CheckKind) (w : Option Overflow) (b : Bool) (more : Verdict) (rest : Option Overflow) → (more ≡ Passes → rest ≡ None) → one_verdict line kind w b more ≡ Passes → or_else w rest ≡ None
one_fit line kind (Some x) b more rest f h = cc
one_fit line kind None true more rest f h = f h
one_fit line kind None false more rest f h = cc

-- items that pass their checks have no overflow
pub items_fit : (p : Program) (line : ℕ) (ok : Ref → Bool) (es : List Spec) (s : Scene) → verdict line Writes (item_tests p ok es s) ≡ Passes → items_overflow p es s ≡ None
items_fit p line ok [] s h = refl
items_fit p line ok (e ∷ es) s h = one_fit line Writes (overflow p e s) (ok (referent (value p e s))) (verdict line Writes (item_tests p ok es s)) (items_overflow p es s) (items_fit p line ok es s) h

-- what gives something doesn't stop
pub never_stops : {A B : Type 0} (s : Stop) (a : A) (o : Outcome B) → Stops s (Gives a) → Stops s o
never_stops Misfit a o h = let e = ap (λ z. z.end) h in cc
never_stops (Fault kind line) a o h = let e = ap (λ z. z.end) h.1 in cc
never_stops (Wide w) a o h = cc
never_stops Exhausted a o h = h
never_stops OutOfMemory a o h = tt

pub gave_same : {A : Type 0} (a b : A) → Gives a ≡ Gives b → a ≡ b
gave_same a b h = let e = ap (λ z. z.end) h in cc

check_after : {A B : Type 0} (at_ : Spot) (b : Bool) (n : ℕ) (kind : CheckKind) (o : Outcome A) (f : A → Outcome B) → after (check at_ b n kind o) f ≡ check at_ b n kind (after o f)
check_after at_ true n kind o f = refl
check_after at_ false n kind o f = refl

-- what comes behind checks, comes behind what they stand before
pub checks_after : {A B : Type 0} (at_ : Spot) (kind : CheckKind) (o : Outcome A) (f : A → Outcome B) (ts : List Tested) (n : ℕ) → after (check_specs at_ ts n kind o) f ≡ check_specs at_ ts n kind (after o f)
checks_after at_ kind o f [] n = refl
checks_after at_ kind o f (t ∷ ts) n =
    after_assoc (record { overflow = t.overflow; end = Gave (tt {0}) }) (λ u. check at_ t.holds n kind (check_specs at_ ts (n + 1) kind o)) f
    ∙ ap (weighed t.overflow) (check_after at_ t.holds n kind (check_specs at_ ts (n + 1) kind o) f ∙ ap (check at_ t.holds n kind) (checks_after at_ kind o f ts (n + 1)))

module _ (p : Program) (at_ : Spot) (k : ℕ) (f : FunctionInfo) (args : List Value) (h : Heap) where
  abbrev needs : List Tested
  needs = clause_tests p f.requires_.items (call_scene at_.context.me h args)

  abbrev items : List Tested
  items = item_tests p (may_write at_) f.writes.items (call_scene at_.context.me h args)

  abbrev entered : m.Activation
  entered = m.begin_with (Some f) (callee p k f at_.context.me h args)

  -- a call is what comes behind its entry
  module _ (c : Option CType) (place : Option Place) (a : m.Activation) (code : List m.Remaining) (below : List m.Activation) where
    abbrev pub called_with : m.Activation → Outcome m.Turn
    called_with b = Gives (record { heap = h; frames = b ∷ m.went a a.locals (m.and_receive p at_.line c place code) ∷ below; started = []; line = at_.line })

    pub call_after : slice_get p.functions.items k ≡ Some f → after (entering p at_ k f args h) called_with ≡ m.call_turn p k (slice_get p.functions.items k) at_ args c place a code below h
    call_after is =
        checks_after at_ Requires (check_specs at_ items 0 Writes (Gives entered)) called_with needs 0
        ∙ ap (check_specs at_ needs 0 Requires) (checks_after at_ Writes (Gives entered) called_with items 0 ∙ ap (λ g. check_specs at_ items 0 Writes (called_with (m.begin_with g (callee p k f at_.context.me h args)))) (sym is))
        ∙ ap (λ g. m.call_turn p k g at_ args c place a code below h) (sym is)

-- the function that begins, in the code and in method
pub begun : (y : List Ref) (result : Result Activation Stop) (f : FunctionInfo) (x : m.Activation) (c : Context) → IfOk result (λ a. (z : List Ref) → frame_at z a ≡ m.begin_with (Some f) (context_at z c)) → IfErr result IsSilent → x ≡ m.begin_with (Some f) (context_at y c) → IsEntered y result (Gives x)
begun y (Ok a) f x c ok err e = ap Gives (e ∙ sym (ok y))
begun y (Err s) f x c ok err e = silent s (Gives x) err
