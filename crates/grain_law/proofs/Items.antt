-- What an item's event comes to in fine steps, where the machine's turn doesn't fault.
use Rattle.std.proofs.Common.{◌≡◌, ℕ, ◌+◌, Bool, true, false, ◌&&◌, List, [], ◌∷◌, refl, sym, ap, ◌∙◌, subst}
use Rattle.std.specs.Prelude.{map, pos}
use Rattle.object_types.specs.declared.values.Value.{Value}
use Rattle.object_types.specs.declared.values.Value.TheVariants.{Int}
use Rattle.object_types.specs.Heap.{Heap}
use Rattle.object_types.specs.Sets.{every}
use Rattle.method.specs.declared.program.CheckKind.{CheckKind}
use Rattle.method.specs.declared.program.CheckKind.TheVariants.{LoopInv}
use Rattle.method.specs.declared.program.RightSide.{RightSide}
use Rattle.method.specs.declared.program.RightSide.TheVariants.{Compute, Malloc, NewClaim, Interlocked}
use Rattle.method.specs.declared.program.Simple.TheVariants.{Assign, ChangeOwned, EndClaim}
use Rattle.method.specs.declared.program.Action.TheVariants.{Simply, Declare, Define, WrapObject, UnwrapObject, AssertSpec, FreeObject, SpawnThread, Atomic}
use Rattle.method.specs.declared.program.Stmt.TheVariants.{Do, If', While', DoWhile', Unwrapping', Call, Return}
use Rattle.method.specs.declared.program.Program.{Program}
use Rattle.method.specs.Expressions.{End, Misfit, Failed, Gave, Outcome, Spot, Tested, check, check_specs, scene, spec_test}
use Rattle.method.specs.Actions.{Supply, right_fits, spot}
use Rattle.method.specs.Machine.{Remaining, Run, Test, WrapAgain, Receive, Activation, Turn, turn_of}
use Rattle.method.proofs.Global.{and_both}
use Rattle.grain_law.specs.FieldReads.{Reading, Refuses, Reads, Ends}
use Rattle.grain_law.specs.Plans.{Finish, turn_plan, item_line, item_fits, item_invariants}
use Rattle.grain_law.specs.FineSteps.{work, first_tests}
use Rattle.grain_law.proofs.Traces.{Fails, EndsAtOnce, InTurn, complete}
use Rattle.grain_law.proofs.Plans.{bind, ItemGoes, item_goes}

abbrev pub all_hold : List Tested → Bool
all_hold ts = every (λ (t : Tested). t.holds) ts

module _ (at_ : Spot) (kind : CheckKind) {A : Type 0} (o : Outcome A) where
  abbrev FailsSo : End A → Type 0
  FailsSo e = (m : ℕ) × (e ≡ Failed m kind at_.line)

  pub tests_pass : (ts : List Tested) (n : ℕ) → all_hold ts ≡ true → (check_specs at_ ts n kind o).end ≡ o.end
  tests_pass [] n e = refl
  tests_pass (t ∷ ts) n e = let b = and_both t.holds (all_hold ts) e in ap (λ b. (check at_ b n kind (check_specs at_ ts (n + 1) kind o)).end) b.0 ∙ tests_pass ts (n + 1) b.1

  fail_one : (b : Bool) (ts : List Tested) (n : ℕ) → b && all_hold ts ≡ false → (all_hold ts ≡ false → FailsSo (check_specs at_ ts (n + 1) kind o).end) → FailsSo (check at_ b n kind (check_specs at_ ts (n + 1) kind o)).end
  fail_one true ts n e f = f e
  fail_one false ts n e f = (n, refl)

  pub tests_end : (ts : List Tested) (n : ℕ) → all_hold ts ≡ false → FailsSo (check_specs at_ ts n kind o).end
  tests_end [] n e = absurd (cc)
  tests_end (t ∷ ts) n e = fail_one t.holds ts n e (tests_end ts (n + 1))

  pub tests_fail : (ts : List Tested) (n : ℕ) → all_hold ts ≡ false → Fails (check_specs at_ ts n kind o).end
  tests_fail ts n e = subst Fails (sym (tests_end ts n e).1) tt

pub first_hold : (us : List Value) (ts : List Tested) → all_hold ts ≡ true → all_hold (first_tests us ts) ≡ true
first_hold [] ts e = e
first_hold (u ∷ us) ts e = refl

-- what the event is, by how far the item is works_here out: it doesn't fault, and at the last event it is the machine's turn
abbrev pub Sound : Supply → List Value → Heap → End Turn → End (Reading Finish) → Type 0
Sound supply choices h e Misfit = ⊥
Sound supply choices h e (Failed n kind line) = ⊥
Sound supply choices h e (Gave Refuses) = ⊥
Sound supply choices h e (Gave (Reads v)) = Unit {0}
Sound supply choices h e (Gave (Ends finish us)) = e ≡ (finish supply choices h).end

fails_bind : {A B : Type 0} (c : End A) (f : A → End B) → Fails c → Fails (bind c f)
fails_bind Misfit f x = x
fails_bind (Failed n kind line) f x = x
fails_bind (Gave a) f x = absurd x

sound_by : (supply : Supply) (choices : List Value) (h : Heap) (e : End Turn) (w : End (Reading Finish)) (c : End Finish) → (Fails e → ⊥) → e ≡ bind c (λ finish. (finish supply choices h).end) → EndsAtOnce w c → Sound supply choices h e w
sound_by supply choices h e Misfit c unfailing is x = x
sound_by supply choices h e (Failed n kind line) c unfailing is x = unfailing (subst Fails (sym is) (fails_bind c _ x))
sound_by supply choices h e (Gave Refuses) c unfailing is x = unfailing (subst Fails (sym is) (fails_bind c _ x))
sound_by supply choices h e (Gave (Reads v)) c unfailing is x = tt
sound_by supply choices h e (Gave (Ends finish us)) c unfailing is x = is ∙ ap (λ c. bind c (λ (finish : Finish). (finish supply choices h).end)) x

module _ (p : Program) (a : Activation) (code : List Remaining) (below : List Activation) (h : Heap) where
  abbrev pub bare : Spot
  bare = spot a.context [] (item_line p a code)

  abbrev pub works : List Value → Outcome (Reading Finish)
  works us = work p bare h a.locals (turn_plan p a code below) us

  abbrev pub tests : List Tested
  tests = map (λ e. spec_test p e (scene a.context h a.locals)) (item_invariants p a code)

  abbrev pub reading : List Value → Outcome (Reading Finish)
  reading us = check_specs bare (first_tests us tests) 0 LoopInv (works us)

  pub reading_sound : (supply : Supply) (choices : List Value) (us : List Value) → item_fits p a code choices ≡ true → InTurn works us → (Fails (turn_of p supply choices a code below h).end → ⊥) → Sound supply choices h (turn_of p supply choices a code below h).end (reading us).end
  reading_sound supply choices us fits current unfailing = by_tests (all_hold tests) refl
    where
      goes : ItemGoes p a supply choices h code below
      goes = item_goes p a supply choices h code below fits

      by_tests : (b : Bool) → all_hold tests ≡ b → Sound supply choices h (turn_of p supply choices a code below h).end (reading us).end
      by_tests true e =
          subst (Sound supply choices h (turn_of p supply choices a code below h).end) (sym (tests_pass bare LoopInv (works us) (first_tests us tests) 0 (first_hold us tests e)))
          (sound_by supply choices h _ (works us).end goes.goes.at_once.end unfailing (goes.is ∙ tests_pass bare LoopInv goes.rest tests 0 e ∙ goes.goes.is) (complete (item_line p a code) us goes.goes.traces.0 works goes.goes.at_once.end goes.goes.traces.1 current))
      by_tests false e = absurd (unfailing (subst Fails (sym goes.is) (tests_fail bare LoopInv goes.rest tests 0 e)))

  -- a read comes from the plan, not from the tests before it
  pub comes_from : (us : List Value) (v : Value) → (reading us).end ≡ Gave (Reads v) → (works us).end ≡ Gave (Reads v)
  comes_from us v e = by_tests (all_hold (first_tests us tests)) refl
    where
      by_tests : (b : Bool) → all_hold (first_tests us tests) ≡ b → (works us).end ≡ Gave (Reads v)
      by_tests true b = sym (tests_pass bare LoopInv (works us) (first_tests us tests) 0 b) ∙ e
      by_tests false b = absurd (subst Fails e (tests_fail bare LoopInv (works us) (first_tests us tests) 0 b))

-- Some choices fit each item that reads.

right_can : (p : Program) (r : RightSide) → (choices : List Value) × (right_fits p r choices ≡ true)
right_can p (Compute e) = ([], refl)
right_can p (Malloc ty) = (Int (pos 0) ∷ [], refl)
right_can p (NewClaim n) = ([], refl)
right_can p (Interlocked e f op then') = ([], refl)

abbrev IsNoRead : End (Reading Finish) → Type 0
IsNoRead Misfit = ⊥
IsNoRead (Failed n kind line) = ⊥
IsNoRead (Gave Refuses) = Unit {0}
IsNoRead (Gave (Reads v)) = ⊥
IsNoRead (Gave (Ends finish us)) = ⊥

abbrev FitsSome : Program → Activation → List Remaining → Type 0
FitsSome p a code = (choices : List Value) × (item_fits p a code choices ≡ true)

pub can_fit : (p : Program) (a : Activation) (code : List Remaining) (below : List Activation) (h : Heap) (us : List Value) → (reading p a code below h us).end ≡ Gave Refuses → FitsSome p a code
can_fit p a [] below h us e = ([], refl)
can_fit p a (Run (Do line (Simply (Assign t r))) ∷ code) below h us e = right_can p r
can_fit p a (Run (Do line (Simply (ChangeOwned c x es))) ∷ code) below h us e = ([], refl)
can_fit p a (Run (Do line (Simply (EndClaim q x es))) ∷ code) below h us e = ([], refl)
can_fit p a (Run (Do line (Declare i)) ∷ code) below h [] e = absurd (subst IsNoRead (sym e) tt)
can_fit p a (Run (Do line (Declare i)) ∷ code) below h (u ∷ us) e = absurd (subst IsNoRead (sym e) tt)
can_fit p a (Run (Do line (Define i r)) ∷ code) below h us e = right_can p r
can_fit p a (Run (Do line (WrapObject ty q x)) ∷ code) below h us e = ([], refl)
can_fit p a (Run (Do line (UnwrapObject x)) ∷ code) below h us e = ([], refl)
can_fit p a (Run (Do line (AssertSpec x)) ∷ code) below h us e = ([], refl)
can_fit p a (Run (Do line (FreeObject x)) ∷ code) below h us e = ([], refl)
can_fit p a (Run (Do line (SpawnThread k es)) ∷ code) below h us e = ([], refl)
can_fit p a (Run (Do line (Atomic ls body)) ∷ code) below h us e = ([], refl)
can_fit p a (Run (If' line in_ghost x m then_row n else_row) ∷ code) below h us e = ([], refl)
can_fit p a (Run (While' line invs x m row) ∷ code) below h us e = ([], refl)
can_fit p a (Run (DoWhile' line invs m row tested x) ∷ code) below h us e = ([], refl)
can_fit p a (Run (Unwrapping' line ty q x m row) ∷ code) below h us e = ([], refl)
can_fit p a (Run (Call line to c k es) ∷ code) below h us e = ([], refl)
can_fit p a (Run (Return line x) ∷ code) below h us e = ([], refl)
can_fit p a (Test line x s ∷ code) below h us e = ([], refl)
can_fit p a (WrapAgain line ty o ∷ code) below h us e = ([], refl)
can_fit p a (Receive line place c ∷ code) below h us e = ([], refl)
