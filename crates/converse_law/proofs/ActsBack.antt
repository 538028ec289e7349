-- From an environment to a run, of an action: a direct one, an allocation or a claim whose value is stored, the start of a thread, a claim's end, or an atomic block.
use Rattle.std.proofs.Common.{◌≡◌, ℕ, ◌+◌, inl, inr, ⊎_elim, Bool, true, false, not, pos, List, [], ◌∷◌, length, slice_set, slice_get, None, Some, Vec, Global, if◌then◌else◌, refl, ap, sym, ◌∙◌, subst, arith}
use Rattle.object_types.specs.declared.references.Ref.{Ref}
use Rattle.object_types.specs.declared.values.Value.{Value}
use Rattle.object_types.specs.declared.values.Value.TheVariants.{Int}
use Rattle.object_types.specs.Heap.{Heap}
use Rattle.method.specs.declared.program.DeclaredType.TheVariants.{Pointer}
use Rattle.method.specs.declared.program.Target.{Target}
use Rattle.method.specs.declared.program.Target.TheVariants.{Local, FieldOf}
use Rattle.method.specs.declared.program.RightSide.TheVariants.{Compute, Malloc, NewClaim, Interlocked}
use Rattle.method.specs.declared.program.Simple.TheVariants.{Assign, ChangeOwned, EndClaim}
use Rattle.method.specs.declared.program.Inner.{Inner}
use Rattle.method.specs.declared.program.Listed.{Listed}
use Rattle.method.specs.declared.program.Action.{Action}
use Rattle.method.specs.declared.program.Action.TheVariants.{Simply, Declare, Define, WrapObject, UnwrapObject, AssertSpec, FreeObject, SpawnThread, Atomic}
use Rattle.method.specs.declared.program.Expr.{Expr}
use Rattle.method.specs.declared.program.Spec.{Spec}
use Rattle.method.specs.declared.program.Stmt.TheVariants.{Do}
use Rattle.method.specs.declared.program.FunctionInfo.{FunctionInfo}
use Rattle.method.specs.declared.program.Program.{Program}
use Rattle.method.specs.Tables.{struct_of, is_struct}
use Rattle.method.specs.Legal.{Good}
use Rattle.method.specs.Machine.{fit_parameters}
use Rattle.method.specs.Scopes.{known, target_in, site_in}
use Rattle.method.specs.Typing.{WellTyped, Refs, only_if, takes}
use Rattle.method.specs.Expressions.{Context, Spot as MachineSpot, Outcome, Gave, Unfit, Gives as GivesOut, after as outcome_after}
use Rattle.method.specs.Actions as act
use Rattle.method.specs.Actions.{Chosen, Progress, Took, Valued, spot, starting, fitting}
use Rattle.method.specs.LocalRuns.{ActsTo, FailsAt}
use Rattle.method.proofs.Global.{and_both}
use Rattle.machine_laws.proofs.Claims.{Right}
use Rattle.machine_laws.proofs.Simple.{malloc_gave, takes_some}
use Rattle.machine_laws.proofs.Typed.{only_if_some}
use Rattle.terms.specs.Formula.{Formula}
use Rattle.term_meaning.specs.Meaning.{Language}
use Rattle.conditions.specs.Paths.{Done, Execution, after, facts, checks}
use Rattle.conditions.specs.Code.{Spot, State, ValueAndState}
use Rattle.conditions.specs.Quantified.{quantified_formula, listed_quantified}
use Rattle.conditions.specs.Actions as walk
use Rattle.conditions.specs.Actions.{Place}
use Rattle.conditions.specs.Statements.{action_declares}
use Rattle.conditions.specs.Ways.{AllHold, FailsIn}
use Rattle.conditions.proofs.Ways.{facts_apart, fails_joined}
use Rattle.conditions.proofs.Tests.{AllTrue, after_gave, ends_all}
use Rattle.conditions.proofs.PathTests.{Tested}
use Rattle.conditions.proofs.FailingTests.{ends_false}
use Rattle.conditions.proofs.Hiding.{after_stmt}
use Rattle.condition_walks.proofs.ActionSizes.{left_side_size, malloc_size}
use Rattle.condition_walks.proofs.Fitting.{FitsAction, ActionFits}
use Rattle.condition_walks.proofs.Scoping.{known_seen}
use Rattle.condition_walks.proofs.TermSorts.{AllSorted}
use Rattle.condition_meaning.specs.Annotated.{Annotated}
use Rattle.condition_meaning.specs.FunctionWords.{ContractFits}
use Rattle.condition_meaning.proofs.Environments.{Environment, Is}
use Rattle.action_conditions.proofs.Acts.{set_stated}
use Rattle.action_conditions.proofs.Assigns.{SeesTarget, left_fits, left_ok}
use Rattle.action_conditions.proofs.Back.{known_tested, unknown_tested}
use Rattle.action_conditions.proofs.Places.{Stated}
use Rattle.action_conditions.proofs.Plain as plainly
use Rattle.action_conditions.proofs.Scopes.{sees_in}
use Rattle.action_conditions.proofs.Steady.{Steady}
use Rattle.action_conditions.proofs.Stores.{on_gave, store_tests, stored_progress, ends_store, left_tests, plain_left, FitsLeft, ends_left, left_tested, left_is, store_tested, store_stated, storable_by}
use Rattle.block_conditions.proofs.Acted.{at_less, still_hid, still_hid_other}
use Rattle.block_conditions.proofs.Annotated.{entries_true, invs_true}
use Rattle.block_conditions.proofs.InScope.{ListHasFormulas, see_site}
use Rattle.block_conditions.proofs.Operands.{At}
use Rattle.block_conditions.proofs.Seeing.{SeesSite}
use Rattle.function_law.proofs.Given as given
use Rattle.converse_law.proofs.Parts as parts
use Rattle.function_law.proofs.Texts.{PlainText, ActionText}
use Rattle.function_law.proofs.TextTests.{OtherText, is_other}
use Rattle.converse_law.proofs.Allocations as allocations
use Rattle.converse_law.proofs.Behind.{Behind}
use Rattle.converse_law.proofs.BlocksBack.{none_some, block_formulas, chooses_block}
use Rattle.converse_law.proofs.ClaimsBack.{TakesNext, next_reference}
use Rattle.converse_law.proofs.ClaimSteps.{behind_assignment, behind_definition}
use Rattle.converse_law.proofs.EndsBack.{behind_end}
use Rattle.converse_law.proofs.StartsBack as starts
use Rattle.converse_law.proofs.Supplied.{Chooses}
use Rattle.converse_law.proofs.Paths.{Knows, at_number, none_fails, fails_front, fails_behind, none_declared, other_declared}
use Rattle.converse_law.specs.Direct.{is_direct_action}

-- what makes or ends a claim, starts a thread or is a block isn't direct
not_direct : (c : Action) → is_other c ≡ true → is_direct_action c ≡ true → ⊥
not_direct (Simply (Assign t (Compute e))) o d = absurd (cc)
not_direct (Simply (Assign t (Malloc ty))) o d = absurd (cc)
not_direct (Simply (Assign t (NewClaim n))) o d = absurd (cc)
not_direct (Simply (Assign t (Interlocked e n op c))) o d = absurd (cc)
not_direct (Simply (ChangeOwned q e es)) o d = absurd (cc)
not_direct (Simply (EndClaim q e es)) o d = absurd (cc)
not_direct (Declare i) o d = absurd (cc)
not_direct (Define i (Compute e)) o d = absurd (cc)
not_direct (Define i (Malloc ty)) o d = absurd (cc)
not_direct (Define i (NewClaim n)) o d = absurd (cc)
not_direct (Define i (Interlocked e n op c)) o d = absurd (cc)
not_direct (WrapObject ty q e) o d = absurd (cc)
not_direct (UnwrapObject e) o d = absurd (cc)
not_direct (AssertSpec e) o d = absurd (cc)
not_direct (FreeObject e) o d = absurd (cc)
not_direct (SpawnThread g es) o d = absurd (cc)
not_direct (Atomic ls body) o d = absurd (cc)

fitted : {A : Type 0} (b : Bool) (o : Outcome A) (r : A) → b ≡ true → o.end ≡ Gave r → (fitting b o).end ≡ Gave r
fitted true o r k y = y
fitted false o r k y = absurd (cc)

fitted_fails : {A : Type 0} (label : ℕ) (b : Bool) (o : Outcome A) → b ≡ true → FailsAt label o → FailsAt label (fitting b o)
fitted_fails label true o k y = y
fitted_fails label false o k y = absurd (cc)

module _ (p : Program) (good : Annotated p) (typed : WellTyped p) (contracts : (n : ℕ) (g : FunctionInfo) → slice_get p.functions.items n ≡ Some g → ContractFits p g)
    (number : ℕ) (f : FunctionInfo) (fis : slice_get p.functions.items number ≡ Some f) (n0 : ℕ) (h0 : Heap) (args : List Value) (good0 : Good p h0) (fit : fit_parameters f args ≡ true)
  where
    -- an action whose annotation fits and whose formulas are listed
    abbrev pub ActText : Action → Type 0
    ActText c = ActionText p good number f fis (OtherText p number f) c

    direct_text : (c : Action) → is_direct_action c ≡ true → ActText c → PlainText p good number f fis c
    direct_text c d (inl plain) = plain
    direct_text c d (inr other) = absurd (not_direct c other.other d)

    -- the formula of a claim's end is the program's
    end_formula : (q : ℕ) (y : Expr) (ys : _) → ActText (Simply (EndClaim q y ys)) → quantified_formula p q ≡ Some (listed_quantified q (length ys.items))
    end_formula q y ys (inl plain) = absurd plain
    end_formula q y ys (inr other) = other.listed.0

    -- so are those of the ends in a block
    ends_formulas : (ls : _) (body : _) → ActText (Atomic ls body) → ListHasFormulas p body.items
    ends_formulas ls body (inl plain) = absurd plain
    ends_formulas ls body (inr other) = block_formulas p body.items other.listed

    module _ (e : Environment (parts.l p good typed contracts number f fis n0 h0 args good0 fit) (parts.T p good typed contracts number f fis n0 h0 args good0 fit)) (spotted : parts.Spotted p good typed contracts number f fis n0 h0 args good0 fit e) where
      abbrev l : Language
      l = parts.l p good typed contracts number f fis n0 h0 args good0 fit

      abbrev T : Ref
      T = parts.T p good typed contracts number f fis n0 h0 args good0 fit

      abbrev x : Context
      x = parts.x p good typed contracts number f fis n0 h0 args good0 fit

      abbrev a : Spot
      a = parts.a p good typed contracts number f fis n0 h0 args good0 fit

      abbrev Matches : (ℕ → Bool) → State → Heap → List Value → Type 0
      Matches hid st h v = parts.Matches p good typed contracts number f fis n0 h0 args good0 fit e spotted hid tt st h v

      abbrev All : List Formula → Type 0
      All = AllHold (Unit {0}) (Knows l T e) tt

      abbrev TS : Spec → Type 0
      TS = parts.TextSpec p good typed contracts number f fis n0 h0 args good0 fit

      abbrev TW : ℕ → ℕ → Type 0
      TW = parts.TextWrap p good typed contracts number f fis n0 h0 args good0 fit

      abbrev Fits : (ℕ → Bool) → Action → Type 0
      Fits = ActionFits p number f ActText TS TW

      abbrev Acted : (ℕ → Bool) → ℕ → ℕ → Action → State → Heap → List Value → Type 0
      Acted hid line n c st h v = (h' : Heap) × (v' : List Value) × (choices : List Value) × (news : List Ref) × ActsTo p x f (act.act p x choices (Chosen news) line c n h v) h' v' × Matches (after_stmt (Do line c) hid) (walk.run_action p a f c st).gives h' v'

      abbrev Breaks : ℕ → ℕ → ℕ → Action → Heap → List Value → Type 0
      Breaks label line n c h v = (choices : List Value) × (news : List Ref) × FailsAt label (act.act p x choices (Chosen news) line c n h v)

      abbrev machine : List Value → List Ref → ℕ → ℕ → Action → Heap → List Value → Outcome Progress
      machine choices news line n c h v = act.run_action p (spot x choices line) c n (starting h v (Chosen news))

      acted : (hid : ℕ → Bool) (line n : ℕ) (c : Action) (st : State) (h : Heap) (v : List Value) → Fits hid c → Steady p f h v → (choices : List Value) (news : List Ref) (g : Progress) → act.action_fits p x.function c choices ≡ true → (machine choices news line n c h v).end ≡ Gave g
          → Stated l T (after_stmt (Do line c) hid) a (spot x choices line) (walk.run_action p a f c st).gives g.heap g.locals e → Acted hid line n c st h v
      unfolding act.act
      acted hid line n c st h v fits s choices news g chosen gave there =
          let hid' = after_stmt (Do line c) hid in
          let acts : ActsTo p x f (fitting (act.action_fits p x.function c choices) (machine choices news line n c h v)) g.heap g.locals = (g, fitted (act.action_fits p x.function c choices) (machine choices news line n c h v) g chosen gave, refl, refl) in
          let s' = given.act_steady p good typed contracts number f fis n0 h0 args good0 fit ActText TW hid line n c choices news h g.heap v g.locals fits s acts in
          (g.heap, g.locals, choices, news, acts, parts.back p good typed contracts number f fis n0 h0 args good0 fit e spotted hid' (walk.run_action p a f c st).gives g.heap g.locals (plainly.matches_of l typed T f x fis refl refl a choices line hid' e (walk.run_action p a f c st).gives g.heap g.locals s' there) s')

      broke : (label line n : ℕ) (c : Action) (h : Heap) (v : List Value) (choices : List Value) (news : List Ref) → act.action_fits p x.function c choices ≡ true → FailsAt label (machine choices news line n c h v) → Breaks label line n c h v
      unfolding act.act
      broke label line n c h v choices news chosen y = (choices, news, fitted_fails label (act.action_fits p x.function c choices) (machine choices news line n c h v) chosen y)

      sees_target : (hid : ℕ → Bool) (c : Action) (fits : FitsAction p number f hid c) (t : Target) → target_in p f fits.is t ≡ true → SeesTarget hid t
      sees_target hid c fits (Local i) k = tt
      sees_target hid c fits (FieldOf y i) k = sees_in p number f fits.is hid (known_seen p f fits.is hid fits.place) y k

      -- a pointer to a struct of the program goes there
      taken : (line : ℕ) (t : Target) (ty : ℕ) → takes p f t (only_if (is_struct p ty) (Refs (Pointer ty))) ≡ true → (is_struct p ty ≡ true) × (takes p f t (Some (Refs (Pointer ty))) ≡ true)
      taken line t ty ok =
          let w = takes_some p typed f (spot x [] line) refl t (only_if (is_struct p ty) (Refs (Pointer ty))) ok in
          let u = only_if_some (is_struct p ty) (Refs (Pointer ty)) w.0 w.1 in
          (u.0, subst (λ y. takes p f t (Some y) ≡ true) (sym u.1) w.2)

      -- An allocation that is assigned.
      module _ (hid : ℕ → Bool) (line n : ℕ) (t : Target) (ty : ℕ) (st : State) (h : Heap) (v : List Value) (fits : Fits hid (Simply (Assign t (Malloc ty)))) (m : Matches hid st h v) where
        abbrev c : Action
        c = Simply (Assign t (Malloc ty))

        abbrev left : Execution Place
        left = walk.left_side p a t st

        abbrev W : Execution ValueAndState
        W = walk.malloc p a ty (struct_of p ty) st

        abbrev stored : Execution State
        stored = walk.store p a left.gives W.gives.value W.gives.state

        abbrev m1 : ℕ
        m1 = n + act.target_checks t + 0

        abbrev at_ : List Value → MachineSpot
        at_ choices = spot x choices line

        abbrev g : List Ref → Progress
        g news = starting h v (Chosen news)

        abbrev place : List Value → List Ref → act.Place
        place choices news = plain_left p (at_ choices) t (g news)

        here : (choices : List Value) → Stated l T hid a (at_ choices) st h v e
        here choices = plainly.stated_of l typed T f x fis refl refl a choices line hid e st h v m.steady (parts.forth p good typed contracts number f fis n0 h0 args good0 fit e spotted hid st h v m)

        goes_there : (is_struct p ty ≡ true) × (takes p f t (Some (Refs (Pointer ty))) ≡ true)
        goes_there = taken line t ty fits.0.typed

        sees : SeesTarget hid t
        sees = sees_target hid c fits.0 t (and_both (target_in p f fits.0.is t) true fits.0.scoped).0

        abbrev FitsThere : List Value → Type 0
        FitsThere choices = FitsLeft l typed T f a (at_ choices) refl refl refl hid e t

        fits_there : (choices : List Value) → FitsThere choices
        fits_there choices = left_fits l typed T f a (at_ choices) refl refl refl hid e t (Refs (Pointer ty)) goes_there.1 sees

        left_told : (choices : List Value) (news : List Ref) → Tested (Is l T e) left.path (left_tests p (at_ choices) t (g news))
        left_told choices news = left_tested l typed T f a (at_ choices) refl refl refl hid e st (g news) m.steady (here choices) t (fits_there choices)

        abbrev store_at_ : List Value → act.Place → Valued → Outcome Progress
        store_at_ choices z made = act.store p (at_ choices) z made.value m1 made.starting

        abbrev behind_left : List Value → List Ref → act.Place → Outcome Progress
        behind_left choices news z = outcome_after (act.malloc p (at_ choices) ty choices (g news)) (store_at_ choices z)

        -- what its left side and its constants give
        module _ (left_known : All (facts left.path)) (new_known : All (facts W.path)) where
          new : allocations.New p good typed contracts number f fis n0 h0 args good0 fit e spotted hid line h v ty W.gives
          new = allocations.new_from p good typed contracts number f fis n0 h0 args good0 fit e spotted hid line st h v m ty goes_there.0 new_known

          abbrev spot_ : MachineSpot
          spot_ = at_ new.choices

          abbrev g0 : Progress
          g0 = g new.news

          abbrev z : act.Place
          z = place new.choices new.news

          abbrev done : Progress
          done = stored_progress z new.made.value new.made.starting

          left_passes : AllTrue (left_tests p spot_ t g0)
          left_passes = known_tested l T e left.path (left_tests p spot_ t g0) (left_told new.choices new.news) (parts.all_known p good typed contracts number f fis n0 h0 args good0 fit e spotted (facts left.path) left_known)

          left_gave : (act.left_side p spot_ t n g0).end ≡ Gave z
          left_gave = ends_all (left_tests p spot_ t g0) n z (act.left_side p spot_ t n g0) (ends_left p spot_ t n g0) left_passes

          right : Right p f spot_ (act.InLocal 0) (Refs (Pointer ty)) g0 new.made
          right = on_gave (act.malloc p spot_ ty new.choices g0) (Right p f spot_ (act.InLocal 0) (Refs (Pointer ty)) g0) new.made (malloc_gave p typed f spot_ refl g0 m.steady ty goes_there.0 (act.InLocal 0) new.choices new.fits) new.gave

          store_told : Tested (Is l T e) stored.path (store_tests p spot_ z new.made.starting)
          store_told = store_tested l typed T f a spot_ refl refl refl hid e W.gives.state new.made.starting right.fine.ready new.there left.gives z W.gives.value (left_is l typed T f a spot_ refl refl refl hid e st g0 m.steady (here new.choices) t (fits_there new.choices))

          goes_on : All (facts stored.path) → Acted hid line n c st h v
          goes_on all =
              let ends = ends_store p spot_ z new.made.value m1 new.made.starting in
              let gave = ends_all (store_tests p spot_ z new.made.starting) m1 done (store_at_ new.choices z new.made) ends (known_tested l T e stored.path (store_tests p spot_ z new.made.starting) store_told (parts.all_known p good typed contracts number f fis n0 h0 args good0 fit e spotted (facts stored.path) all)) in
              acted hid line n c st h v fits m.steady new.choices new.news done new.fits
              (after_gave (act.left_side p spot_ t n g0) (behind_left new.choices new.news) z left_gave ∙ after_gave (act.malloc p spot_ ty new.choices g0) (store_at_ new.choices z) new.made new.gave ∙ gave)
              (store_stated l typed T f a spot_ refl refl refl hid e W.gives.state new.made.starting right.fine.ready new.there (after_stmt (Do line c) hid) (λ j k. none_declared (hid j) k) left.gives z W.gives.value new.made.value
              (left_is l typed T f a spot_ refl refl refl hid e st g0 m.steady (here new.choices) t (fits_there new.choices)) new.stands
              (storable_by l typed T f a spot_ refl refl z (Refs (Pointer ty)) new.made.value (left_ok l typed T f a spot_ refl refl refl hid st g0 m.steady t (Refs (Pointer ty)) goes_there.1 left_passes) right.value))

          store_breaks : (label : ℕ) → FailsIn (Unit {0}) (Knows l T e) label m1 stored.path tt → Breaks label line n c h v
          store_breaks label y =
              let ends = ends_store p spot_ z new.made.value m1 new.made.starting in
              broke label line n c h v new.choices new.news new.fits
              (fails_behind label (act.left_side p spot_ t n g0) (behind_left new.choices new.news) z left_gave
              (fails_behind label (act.malloc p spot_ ty new.choices g0) (store_at_ new.choices z) new.made new.gave
              (ends_false (store_tests p spot_ z new.made.starting) m1 label done (store_at_ new.choices z new.made) ends
              (unknown_tested l T e label m1 stored.path (store_tests p spot_ z new.made.starting) store_told (parts.fails_known p good typed contracts number f fis n0 h0 args good0 fit e spotted label m1 stored.path y)))))

        assign_back : All (facts (walk.run_action p a f c st).path) → Acted hid line n c st h v
        assign_back all =
            let two = facts_apart (Unit {0}) (Knows l T e) left.path (after W (λ w. walk.store p a left.gives w.value w.state)).path tt all in
            let three = facts_apart (Unit {0}) (Knows l T e) W.path stored.path tt two.1 in
            goes_on two.0 three.0 three.1

        assign_fails : (label : ℕ) → FailsIn (Unit {0}) (Knows l T e) label n (walk.run_action p a f c st).path tt → Breaks label line n c h v
        assign_fails label y =
            let none = Int (pos 0) ∷ [] in
            ⊎_elim
            (λ i. broke label line n c h v none [] refl
            (fails_front label (act.left_side p (at_ none) t n (g [])) (behind_left none [])
            (ends_false (left_tests p (at_ none) t (g [])) n label (place none []) (act.left_side p (at_ none) t n (g [])) (ends_left p (at_ none) t n (g []))
            (unknown_tested l T e label n left.path (left_tests p (at_ none) t (g [])) (left_told none []) (parts.fails_known p good typed contracts number f fis n0 h0 args good0 fit e spotted label n left.path i)))))
            (λ i. ⊎_elim
            (λ j. absurd (none_fails (Unit {0}) (Knows l T e) tt label (n + checks left.path) W.path (malloc_size p a ty (struct_of p ty) st) j))
            (λ j.
            let same : n + checks left.path + checks W.path ≡ m1 = (let i = left_side_size p a t st in let k = malloc_size p a ty (struct_of p ty) st in omega (arith, i, k)) in
            store_breaks i.0 j.0 label (at_number (Unit {0}) (Knows l T e) tt label (n + checks left.path + checks W.path) m1 stored.path same j.1))
            (fails_joined (Unit {0}) (Knows l T e) label (n + checks left.path) W.path stored.path tt i.1))
            (fails_joined (Unit {0}) (Knows l T e) label n left.path (after W (λ w. walk.store p a left.gives w.value w.state)).path tt y)

      -- A variable defined by an allocation.
      module _ (hid : ℕ → Bool) (line n i : ℕ) (ty : ℕ) (st : State) (h : Heap) (v : List Value) (fits : Fits hid (Define i (Malloc ty))) (m : Matches hid st h v) where
        abbrev object : Execution ValueAndState
        object = walk.malloc p a ty (struct_of p ty) st

        define_back : All (facts (walk.run_action p a f (Define i (Malloc ty)) st).path) → Acted hid line n (Define i (Malloc ty)) st h v
        define_back all =
            let two = facts_apart (Unit {0}) (Knows l T e) object.path Done tt all in
            let new = allocations.new_from p good typed contracts number f fis n0 h0 args good0 fit e spotted hid line st h v m ty (taken line (Local i) ty fits.0.typed).0 two.0 in
            let at_ = spot x new.choices line in
            let g0 = starting h v (Chosen new.news) in
            let made = new.made in
            acted hid line n (Define i (Malloc ty)) st h v fits m.steady new.choices new.news (record made.starting { locals = slice_set made.starting.locals i made.value }) new.fits
            (after_gave (act.malloc p at_ ty new.choices g0) (λ (y : Valued). act.store p at_ (act.InLocal i) y.value (n + 0) y.starting) made new.gave)
            (set_stated l typed T f a at_ refl refl refl hid st g0 m.steady (after_stmt (Do line (Define i (Malloc ty))) hid) i (λ j apart k. other_declared (hid j) i j apart k) e object.gives.state object.gives.value made.starting.heap made.starting.locals made.value new.there new.stands)

        define_fails : (label : ℕ) → FailsIn (Unit {0}) (Knows l T e) label n (walk.run_action p a f (Define i (Malloc ty)) st).path tt → ⊥
        define_fails label y =
            ⊎_elim
            (λ j. none_fails (Unit {0}) (Knows l T e) tt label n object.path (malloc_size p a ty (struct_of p ty) st) j)
            (λ j. j.1)
            (fails_joined (Unit {0}) (Knows l T e) label n object.path Done tt y)

      -- an Interlocked operation stands inside of blocks, and gives nothing outside
      none_taken : (t : Target) → takes p f t None ≡ true → ⊥
      none_taken t ok = let z = takes_some p typed f (spot x [] 0) refl t None ok in none_some z.0 z.1

      -- All of them.
      module _ (hid : ℕ → Bool) (line n : ℕ) where
        direct : (c : Action) → is_direct_action c ≡ true → (st : State) (h : Heap) (v : List Value) → Fits hid c → AllSorted f.variables.items st.locals → Matches hid st h v → All (facts (walk.run_action p a f c st).path) → Acted hid line n c st h v
        direct c d st h v fits sorted m all = parts.act_back p good typed contracts number f fis n0 h0 args good0 fit e spotted hid line n c st h v tt (fits.0, (direct_text c d fits.1, d)) sorted m all

        direct_fails : (label : ℕ) (c : Action) → is_direct_action c ≡ true → (st : State) (h : Heap) (v : List Value) → Fits hid c → AllSorted f.variables.items st.locals → Matches hid st h v → FailsIn (Unit {0}) (Knows l T e) label n (walk.run_action p a f c st).path tt → Breaks label line n c h v
        direct_fails label c d st h v fits sorted m y = parts.act_fails p good typed contracts number f fis n0 h0 args good0 fit e spotted label hid line n c st h v tt (fits.0, (direct_text c d fits.1, d)) sorted m y

        -- a claim's end, behind its path
        abbrev Goes : Action → State → Heap → List Value → Type 0
        Goes c st h v = Behind l T e n (walk.run_action p a f c st) (machine [] [] line n c h v) (λ g. At p f (spot x [] line) a hid (walk.run_action p a f c st).gives g e)

        stated : (st : State) (h : Heap) (v : List Value) → Matches hid st h v → At p f (spot x [] line) a hid st (starting h v (Chosen [])) e
        stated st h v m = plainly.stated_of l typed T f x fis refl refl a [] line hid e st h v m.steady (parts.forth p good typed contracts number f fis n0 h0 args good0 fit e spotted hid st h v m)

        end_behind : (q : ℕ) (y : Expr) (ys : Vec Expr Global) (st : State) (h : Heap) (v : List Value) → Fits hid (Simply (EndClaim q y ys)) → Matches hid st h v → Goes (Simply (EndClaim q y ys)) st h v
        end_behind q y ys st h v fits m = behind_end p good typed f x fis refl a hid e line [] q y ys n st (starting h v (Chosen [])) m.steady fits.0 (end_formula q y ys fits.1) (stated st h v m)

        block_chooses : (ls : Vec Listed Global) (body : Vec Inner Global) (st : State) (h : Heap) (v : List Value) → Fits hid (Atomic ls body) → AllSorted f.variables.items st.locals → Matches hid st h v
            → Chooses l T e n (walk.run_action p a f (Atomic ls body) st) (λ news. machine [] news line n (Atomic ls body) h v) (λ g. At p f (spot x [] line) a hid (walk.run_action p a f (Atomic ls body) st).gives g e)
        block_chooses ls body st h v fits sorted m = chooses_block p good typed f x fis refl a hid e line [] ls body n st (starting h v (Chosen [])) m.steady refl refl fits.0 (ends_formulas ls body fits.1) sorted (stated st h v m)

        -- a claim that is made: the run takes what the environment has for it
        abbrev claim : State → Ref
        claim st = next_reference p T e st

        abbrev Makes : (ℕ → Bool) → Action → State → Heap → List Value → Type 0
        Makes hid' c st h v = Behind l T e n (walk.run_action p a f c st) (machine [] (claim st ∷ []) line n c h v) (λ g. At p f (spot x [] line) a hid' (walk.run_action p a f c st).gives g e)

        taken_next : (st : State) (h : Heap) (v : List Value) → TakesNext p T e st (starting h v (Chosen (claim st ∷ [])))
        taken_next st h v = (Chosen [], λ fit. ap (λ (b : Bool). (if b then GivesOut {A = Took} (record { which = claim st; supply = Chosen [] }) else Unfit).end) fit)

        sees_site : (c : Action) (k : ℕ) (fits : FitsAction p number f hid c) → site_in p f fits.is (slice_get p.sites.items k) ≡ true → SeesSite hid (slice_get p.sites.items k)
        sees_site c k fits scoped = see_site p number f fits.is hid (known_seen p f fits.is hid fits.place) (slice_get p.sites.items k) scoped

        assign_makes : (t : Target) (k : ℕ) (st : State) (h : Heap) (v : List Value) → Fits hid (Simply (Assign t (NewClaim k))) → Matches hid st h v → Makes hid (Simply (Assign t (NewClaim k))) st h v
        assign_makes t k st h v fits m =
            let b = and_both (target_in p f fits.0.is t) (site_in p f fits.0.is (slice_get p.sites.items k)) fits.0.scoped in
            behind_assignment p typed f x fis refl a hid (invs_true p good T) (entries_true p good T) line e n k st (starting h v (Chosen (claim st ∷ []))) m.steady (taken_next st h v) (stated st h v m) (sees_site (Simply (Assign t (NewClaim k))) k fits.0 b.1) t fits.0.typed (sees_target hid (Simply (Assign t (NewClaim k))) fits.0 t b.0)

        define_makes : (i k : ℕ) (st : State) (h : Heap) (v : List Value) → Fits hid (Define i (NewClaim k)) → Matches hid st h v → Makes (after_stmt (Do line (Define i (NewClaim k))) hid) (Define i (NewClaim k)) st h v
        define_makes i k st h v fits m =
            behind_definition p typed f x fis refl a hid (invs_true p good T) (entries_true p good T) line e n k st (starting h v (Chosen (claim st ∷ []))) m.steady (taken_next st h v) (stated st h v m) (sees_site (Define i (NewClaim k)) k fits.0 (and_both (site_in p f fits.0.is (slice_get p.sites.items k)) (not (known p f fits.0.is i)) fits.0.scoped).0) i (after_stmt (Do line (Define i (NewClaim k))) hid) (still_hid_other hid line (Define i (NewClaim k)) i refl) fits.0.typed

        goes_back : (c : Action) (st : State) (h : Heap) (v : List Value) → Fits hid c → action_declares c ≡ [] → act.action_fits p x.function c [] ≡ true → Matches hid st h v → Goes c st h v → All (facts (walk.run_action p a f c st).path) → Acted hid line n c st h v
        goes_back c st h v fits none chosen m b all =
            let y = b.goes all in
            acted hid line n c st h v fits m.steady [] [] y.0 chosen y.1 (at_less p f (spot x [] line) a hid (after_stmt (Do line c) hid) (still_hid hid line c none) (walk.run_action p a f c st).gives y.0 e y.2)

        pub act_back : (c : Action) (st : State) (h : Heap) (v : List Value) → Fits hid c → AllSorted f.variables.items st.locals → Matches hid st h v → All (facts (walk.run_action p a f c st).path) → Acted hid line n c st h v
        act_back (Simply (Assign t (Compute y))) st h v fits sorted m all = direct (Simply (Assign t (Compute y))) refl st h v fits sorted m all
        act_back (Simply (Assign t (Malloc ty))) st h v fits sorted m all = assign_back hid line n t ty st h v fits m all
        act_back (Simply (Assign t (NewClaim k))) st h v fits sorted m all =
            let c = Simply (Assign t (NewClaim k)) in
            let y = (assign_makes t k st h v fits m).goes all in
            acted hid line n c st h v fits m.steady [] (claim st ∷ []) y.0 refl y.1 (at_less p f (spot x [] line) a hid (after_stmt (Do line c) hid) (still_hid hid line c refl) (walk.run_action p a f c st).gives y.0 e y.2)
        act_back (Simply (Assign t (Interlocked y k op then'))) st h v fits sorted m all = absurd (none_taken t fits.0.typed)
        act_back (Simply (ChangeOwned o y ys)) st h v fits sorted m all = direct (Simply (ChangeOwned o y ys)) refl st h v fits sorted m all
        act_back (Simply (EndClaim q y ys)) st h v fits sorted m all = goes_back (Simply (EndClaim q y ys)) st h v fits refl refl m (end_behind q y ys st h v fits m) all
        act_back (Declare i) st h v fits sorted m all = direct (Declare i) refl st h v fits sorted m all
        act_back (Define i (Compute y)) st h v fits sorted m all = direct (Define i (Compute y)) refl st h v fits sorted m all
        act_back (Define i (Malloc ty)) st h v fits sorted m all = define_back hid line n i ty st h v fits m all
        act_back (Define i (NewClaim k)) st h v fits sorted m all =
            let y = (define_makes i k st h v fits m).goes all in
            acted hid line n (Define i (NewClaim k)) st h v fits m.steady [] (claim st ∷ []) y.0 refl y.1 y.2
        act_back (Define i (Interlocked y k op then')) st h v fits sorted m all = absurd (none_taken (Local i) fits.0.typed)
        act_back (WrapObject ty q y) st h v fits sorted m all = direct (WrapObject ty q y) refl st h v fits sorted m all
        act_back (UnwrapObject y) st h v fits sorted m all = direct (UnwrapObject y) refl st h v fits sorted m all
        act_back (AssertSpec y) st h v fits sorted m all = direct (AssertSpec y) refl st h v fits sorted m all
        act_back (FreeObject y) st h v fits sorted m all = direct (FreeObject y) refl st h v fits sorted m all
        act_back (SpawnThread k ys) st h v fits sorted m all =
            let s = starts.start_back p good typed contracts number f fis n0 h0 args good0 fit e spotted hid line n k ys st h v fits.0 m all in
            acted hid line n (SpawnThread k ys) st h v fits m.steady [] s.news s.made refl s.gave s.there
        act_back (Atomic ls body) st h v fits sorted m all =
            let c = Atomic ls body in
            let y = (block_chooses ls body st h v fits sorted m).goes all in
            acted hid line n c st h v fits m.steady [] y.0 y.1 refl y.2 (at_less p f (spot x [] line) a hid (after_stmt (Do line c) hid) (still_hid hid line c refl) (walk.run_action p a f c st).gives y.1 e y.3)

        pub act_fails : (label : ℕ) (c : Action) (st : State) (h : Heap) (v : List Value) → Fits hid c → AllSorted f.variables.items st.locals → Matches hid st h v → FailsIn (Unit {0}) (Knows l T e) label n (walk.run_action p a f c st).path tt → Breaks label line n c h v
        act_fails label (Simply (Assign t (Compute y))) st h v fits sorted m b = direct_fails label (Simply (Assign t (Compute y))) refl st h v fits sorted m b
        act_fails label (Simply (Assign t (Malloc ty))) st h v fits sorted m b = assign_fails hid line n t ty st h v fits m label b
        act_fails label (Simply (Assign t (NewClaim k))) st h v fits sorted m b = broke label line n (Simply (Assign t (NewClaim k))) h v [] (claim st ∷ []) refl ((assign_makes t k st h v fits m).fails label b)
        act_fails label (Simply (Assign t (Interlocked y k op then'))) st h v fits sorted m b = absurd (none_taken t fits.0.typed)
        act_fails label (Simply (ChangeOwned o y ys)) st h v fits sorted m b = direct_fails label (Simply (ChangeOwned o y ys)) refl st h v fits sorted m b
        act_fails label (Simply (EndClaim q y ys)) st h v fits sorted m b = broke label line n (Simply (EndClaim q y ys)) h v [] [] refl ((end_behind q y ys st h v fits m).fails label b)
        act_fails label (Declare i) st h v fits sorted m b = direct_fails label (Declare i) refl st h v fits sorted m b
        act_fails label (Define i (Compute y)) st h v fits sorted m b = direct_fails label (Define i (Compute y)) refl st h v fits sorted m b
        act_fails label (Define i (Malloc ty)) st h v fits sorted m b = absurd (define_fails hid line n i ty st h v fits m label b)
        act_fails label (Define i (NewClaim k)) st h v fits sorted m b = broke label line n (Define i (NewClaim k)) h v [] (claim st ∷ []) refl ((define_makes i k st h v fits m).fails label b)
        act_fails label (Define i (Interlocked y k op then')) st h v fits sorted m b = absurd (none_taken (Local i) fits.0.typed)
        act_fails label (WrapObject ty q y) st h v fits sorted m b = direct_fails label (WrapObject ty q y) refl st h v fits sorted m b
        act_fails label (UnwrapObject y) st h v fits sorted m b = direct_fails label (UnwrapObject y) refl st h v fits sorted m b
        act_fails label (AssertSpec y) st h v fits sorted m b = direct_fails label (AssertSpec y) refl st h v fits sorted m b
        act_fails label (FreeObject y) st h v fits sorted m b = direct_fails label (FreeObject y) refl st h v fits sorted m b
        act_fails label (SpawnThread k ys) st h v fits sorted m b =
            let s = starts.start_fails p good typed contracts number f fis n0 h0 args good0 fit e spotted hid line n k ys st h v fits.0 m label b in
            broke label line n (SpawnThread k ys) h v [] s.0 refl s.1
        act_fails label (Atomic ls body) st h v fits sorted m b = let y = (block_chooses ls body st h v fits sorted m).fails label b in broke label line n (Atomic ls body) h v [] y.0 refl y.1
