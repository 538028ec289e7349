-- A turn on a silent item takes no choices, a ghost declaration zero.
use Rattle.std.proofs.Common.{◌≡◌, ℕ, ◌+◌, ◌==◌, Bool, true, false, not, ◌&&◌, ◌||◌, List, [], ◌∷◌, ◌++◌, map, length, Option, Some, None, slice_get, refl, sym, subst}
use Rattle.std.specs.Prelude.{pos, if◌then◌else◌}
use Rattle.object_types.specs.declared.references.Ref.{Ref}
use Rattle.object_types.specs.declared.records.Mode.TheVariants.{Open, Closed}
use Rattle.object_types.specs.declared.values.Value.{Value}
use Rattle.object_types.specs.declared.values.Value.TheVariants.{Ref as Refers}
use Rattle.object_types.specs.declared.shapes.Entry.{Entry}
use Rattle.method.specs.declared.program.CheckKind.{CheckKind}
use Rattle.method.specs.declared.program.CheckKind.TheVariants.{Write, Writes, Wrap, Unwrap, Claimed as HasClaims, Invariant, MakeClaim, DestroyClaim, Assert}
use Rattle.method.specs.declared.program.DeclaredType.TheVariants.{Claim}
use Rattle.method.specs.declared.program.Expr.{Expr}
use Rattle.method.specs.declared.program.Spec.{Spec}
use Rattle.method.specs.declared.program.Target.{Target}
use Rattle.method.specs.declared.program.Target.TheVariants.{Local}
use Rattle.method.specs.declared.program.RightSide.{RightSide}
use Rattle.method.specs.declared.program.RightSide.TheVariants.{Compute, Malloc, NewClaim, Interlocked}
use Rattle.method.specs.declared.program.OwnsChange.{OwnsChange}
use Rattle.method.specs.declared.program.OwnsChange.TheVariants.{Assigned, Added, Removed}
use Rattle.method.specs.declared.program.Simple.{Simple}
use Rattle.method.specs.declared.program.Simple.TheVariants.{Assign, ChangeOwned, EndClaim}
use Rattle.method.specs.declared.program.Listed.{Listed}
use Rattle.method.specs.declared.program.Action.{Action}
use Rattle.method.specs.declared.program.Action.TheVariants.{Simply, Declare, Define, WrapObject, UnwrapObject, AssertSpec, FreeObject, SpawnThread, Atomic}
use Rattle.method.specs.declared.program.Claimed.{Claimed}
use Rattle.method.specs.declared.program.Claimed.TheVariants.{ClaimedVariable, ClaimedNull, ClaimedOther}
use Rattle.method.specs.declared.program.ClaimSite.{ClaimSite}
use Rattle.method.specs.declared.program.Stmt.{items-the_row-Stmt}
use Rattle.method.specs.declared.program.Stmt.TheVariants.{Do, If', While', DoWhile', Unwrapping', Call, Return}
use Rattle.method.specs.declared.program.FunctionInfo.{FunctionInfo}
use Rattle.method.specs.declared.program.Program.{Program}
use Rattle.object_types.specs.References.{null}
use Rattle.object_types.specs.Values.{referent, truth, is_zero_int}
use Rattle.object_types.specs.Sets.{every}
use Rattle.object_types.specs.Heap.{Heap, put, hand_over, count_more, mutable, wrapped}
use Rattle.method.specs.Tables.{local, in_type, zero_of, type_of_variable}
use Rattle.method.specs.Typing.{Values, Refs, only_if, takes, is_ref, is_claim_expr, right_values, simple_ok, inner_ok, action_ok}
use Rattle.method.specs.SpecValue.{entry_of}
use Rattle.method.specs.Expressions.{Outcome, Gives, after, Context, Spot, Tested, check, check_each, check_spec, check_specs, checks, all_checks, eval, eval_all, scene, spec_test, inv_test, entry_test, may_write}
use Rattle.method.specs.Actions.{Place, InLocal, Supply, Fresh, Progress, Valued, Took, Tally, no_tally, heap_of, deferred_from, stored_heap, take_object, new_claim, claim_tests, claimed_checks, run_claimed, claim_made, make_claim, member_change, members_change, owned_change, ended, may_end, may_count, end_claim, store, left_side, right_side, target_checks, right_checks, run_simple, run_action, wrapped_set, set_overflow, wrap_object, unwrap_object, right_fits, simple_fits, one_fits, fitting, spot, starting, act}
use Rattle.method.specs.Machine.{Remaining, Run, Test, WrapAgain, Receive, Activation, Turn, moved, action_turn, turn_of}
use Rattle.method.proofs.Empty.{zero_in_type}
use Rattle.method.proofs.Global.{and_both, both_and}
use Rattle.machine_laws.proofs.Frames.{remaining_ok}
use Rattle.machine_laws.proofs.Typed.{and_then_some, not_both}
use Rattle.plain_machine.specs.PlainCode.{is_ghost_variable, is_ghost_target}
use Rattle.plain_machine.specs.GhostApart.{ghost_right, ghost_simple}
use Rattle.erasure_law.specs.Laws.{silent, silent_action}
use Rattle.erasure_law.proofs.Fits.{Fits, after_fits, check_fits, check_specs_fits, eval_fits, evals_fit}
use Rattle.erasure_law.proofs.TurnFits.{store_fits, left_fits, acted_fits}
use Rattle.erasure_law.proofs.ConcreteTurns.{taken}
use Rattle.erasure_law.proofs.BlockCalm.{atomic_fits}

each_fits : {A : Type 0} (at_ : Spot) (bs : List Bool) (n : ℕ) (kind : CheckKind) (o : Outcome A) → Fits o.end → Fits (check_each at_ bs n kind o).end
each_fits at_ [] n kind o x = x
each_fits at_ (b ∷ bs) n kind o x = check_fits at_ b n kind (check_each at_ bs (n + 1) kind o) (each_fits at_ bs (n + 1) kind o x)

abbrev site_there : Option ClaimSite → Bool
site_there None = false
site_there (Some s) = true

-- outside blocks

module _ (p : Program) (c : Context) (line : ℕ) where
  abbrev at_ : Spot
  at_ = spot c [] line

  two_fit : (b d : Bool) (first second : CheckKind) (n : ℕ) (g : Progress) → Fits (check at_ b n first (check at_ d (n + 1) second (Gives g))).end
  two_fit b d first second n g = check_fits at_ b n first (check at_ d (n + 1) second (Gives g)) (check_fits at_ d (n + 1) second (Gives g) tt)

  claimed_fit : (cs : List Claimed) (n : ℕ) (g : Progress) → Fits (run_claimed p at_ cs n g).end
  claimed_fit [] n g = tt
  claimed_fit (ClaimedVariable i ∷ cs) n g = after_fits (run_claimed p at_ cs n g) (λ os. Gives (referent (local g.locals i) ∷ os)) (claimed_fit cs n g) (λ os. tt)
  claimed_fit (ClaimedNull ∷ cs) n g = after_fits (run_claimed p at_ cs n g) (λ os. Gives (null ∷ os)) (claimed_fit cs n g) (λ os. tt)
  claimed_fit (ClaimedOther e ty ∷ cs) n g =
      after_fits (eval p at_ g.heap g.locals e n) (λ v. after (run_claimed p at_ cs (n + checks e) g) (λ os. Gives (referent v ∷ os))) (eval_fits p at_ g.heap g.locals e n) (λ v.
      after_fits (run_claimed p at_ cs (n + checks e) g) (λ os. Gives (referent v ∷ os)) (claimed_fit cs (n + checks e) g) (λ os. tt))

  made_fits : (r : Ref) (supply : Supply) (objects : List Ref) (es : List Entry) (place : Place) (n : ℕ) (tally : Tally) (h1 : Heap) (g : Progress) → Fits (claim_made p at_ r supply objects es place n tally h1 g).end
  made_fits r supply objects es place n tally h1 g =
      let with_claim : Valued = record { value = Refers r; starting = record g { heap = h1; supply = supply; changed = g.changed ++ deferred_from tally.objects objects; made = g.made ++ deferred_from tally.claims (r ∷ []) } } in
      let h2 = stored_heap place (Refers r) h1 in
      let invs = map (λ o. inv_test p o g.heap h2) objects in
      let kept : Outcome Valued = check_specs at_ invs (n + length es) Invariant (Gives with_claim) in
      check_specs_fits at_ (map (entry_test p h2) es) n MakeClaim kept (check_specs_fits at_ invs (n + length es) Invariant (Gives with_claim) tt)

  claim_fits : (o : Option ClaimSite) → site_there o ≡ true → (place : Place) (n : ℕ) (tally : Tally) (number : ℕ) (h : Heap) (l : List Value) → Fits (make_claim p at_ o place n tally (starting h l (Fresh number))).end
  claim_fits None e place n tally number h l = absurd (not_both false e refl)
  claim_fits (Some site) e place n tally number h l =
      let g = starting h l (Fresh number) in
      let m = n + claimed_checks site.claimed.items in
      let es = map (entry_of (scene c h l)) site.conjuncts.items in
      let made : List Ref → Took → Outcome Valued = λ objects t. claim_made p at_ t.which t.supply objects es place (m + length objects + 1) tally (count_more (pos 1) objects (put h t.which (new_claim c.me objects es))) g in
      let taking : List Ref → Outcome Valued = λ objects. after (take_object (Fresh number) 2 h) (made objects) in
      after_fits (run_claimed p at_ site.claimed.items n g) (λ objects. check_each at_ (claim_tests p at_ h [] objects) m MakeClaim (taking objects)) (claimed_fit site.claimed.items n g) (λ objects.
      each_fits at_ (claim_tests p at_ h [] objects) m MakeClaim (taking objects)
      (after_fits (take_object (Fresh number) 2 h) (made objects) tt (λ t.
      made_fits t.which t.supply objects es place (m + length objects + 1) tally (count_more (pos 1) objects (put h t.which (new_claim c.me objects es))) g)))

  member_fits : (how : OwnsChange) (o q : Ref) (n : ℕ) (g : Progress) → Fits (member_change p at_ how o q n g).end
  member_fits Assigned o q n g = tt
  member_fits Added o q n g = two_fit (mutable c.me g.heap o) (may_write at_ o) Write Writes n _
  member_fits Removed o q n g = two_fit (mutable c.me g.heap o) (may_write at_ o) Write Writes n _

  members_fit : (how : OwnsChange) (o : Ref) (vs : List Value) (n : ℕ) (g : Progress) → Fits (members_change p at_ how o vs n g).end
  members_fit how o [] n g = tt
  members_fit how o (v ∷ vs) n g = after_fits (member_change p at_ how o (referent v) n g) (λ g'. members_change p at_ how o vs (n + 2) g') (member_fits how o (referent v) n g) (λ g'. members_fit how o vs (n + 2) g')

  owned_fits : (how : OwnsChange) (o : Ref) (vs : List Value) (n : ℕ) (g : Progress) → Fits (owned_change p at_ how o vs n g).end
  owned_fits Assigned o vs n g = two_fit (mutable c.me g.heap o) (may_write at_ o) Write Writes n _
  owned_fits Added o vs n g = members_fit Added o vs n g
  owned_fits Removed o vs n g = members_fit Removed o vs n g

  end_fits : (r : Ref) (objects : List Ref) (n : ℕ) (tally : Tally) (g : Progress) → Fits (end_claim p at_ r objects n tally g).end
  end_fits r objects n tally g =
      let h1 = ended p at_ r objects g.heap in
      let last : Outcome Progress = Gives (record g { heap = h1; changed = g.changed ++ deferred_from tally.objects objects }) in
      let invs = map (λ o. inv_test p o g.heap h1) objects in
      let kept : Outcome Progress = check_specs at_ invs (n + 1 + length objects) Invariant last in
      let counts = map (may_count at_ g.heap) objects in
      check_fits at_ (may_end p at_ r objects g.heap) n DestroyClaim (check_each at_ counts (n + 1) DestroyClaim kept)
      (each_fits at_ counts (n + 1) DestroyClaim kept (check_specs_fits at_ invs (n + 1 + length objects) Invariant last tt))

  wrap_fits : (ty : ℕ) (o : Ref) (n : ℕ) (g : Progress) → Fits (wrap_object p at_ ty o n g).end
  wrap_fits ty o n g =
      let members = wrapped_set p at_ ty g.heap o in
      let h1 : Heap = hand_over (put g.heap o (record (g.heap.get o) { mode = Closed; owned = members })) members o in
      let owning : Tested = record { overflow = set_overflow p at_ ty g.heap o; holds = every (λ q. wrapped c.me g.heap q && may_write at_ q) members } in
      let last : Outcome Progress = Gives (heap_of g h1) in
      let o3 : Outcome Progress = check_spec at_ (inv_test p o g.heap h1) (n + 3) Invariant last in
      let o2 : Outcome Progress = check_spec at_ owning (n + 2) Wrap o3 in
      let o1 : Outcome Progress = check at_ (may_write at_ o) (n + 1) Writes o2 in
      check_fits at_ (mutable c.me g.heap o) n Wrap o1
      (check_fits at_ (may_write at_ o) (n + 1) Writes o2
      (check_fits at_ owning.holds (n + 2) Wrap o3
      (check_fits at_ (inv_test p o g.heap h1).holds (n + 3) Invariant last tt)))

  unwrap_fits : (o : Ref) (n : ℕ) (g : Progress) → Fits (unwrap_object p at_ o n g).end
  unwrap_fits o n g =
      let last : Outcome Progress = Gives (heap_of g (hand_over (put g.heap o (record (g.heap.get o) { mode = Open })) (g.heap.get o).owned c.me)) in
      let o2 : Outcome Progress = check at_ (is_zero_int (g.heap.get o).count) (n + 2) HasClaims last in
      let o1 : Outcome Progress = check at_ (may_write at_ o) (n + 1) Writes o2 in
      check_fits at_ (wrapped c.me g.heap o) n Unwrap o1
      (check_fits at_ (may_write at_ o) (n + 1) Writes o2
      (check_fits at_ (is_zero_int (g.heap.get o).count) (n + 2) HasClaims last tt))

  -- ghost statements
  module _ (f : FunctionInfo) (k number : ℕ) (h : Heap) (l : List Value) where
    abbrev g : Progress
    g = starting h l (Fresh number)

    ghost_right_fits : (r : RightSide) (vs : Values) → right_values p f k false r ≡ Some vs → ghost_right p f r ≡ true → (place : Place) (n : ℕ) → Fits (right_side p at_ r place n no_tally g).end
    ghost_right_fits (Compute e) vs t s place n = after_fits (eval p at_ h l e n) (λ v. Gives (record { value = v; starting = g })) (eval_fits p at_ h l e n) (λ v. tt)
    ghost_right_fits (Malloc ty) vs t s place n = absurd (not_both false s refl)
    ghost_right_fits (NewClaim j) vs t s place n =
        let b = and_then_some (slice_get p.sites.items j) (λ (w : ClaimSite). only_if (w.function == k) (Refs Claim)) vs t in
        claim_fits (slice_get p.sites.items j) (subst (λ o. site_there o ≡ true) (sym b.is) refl) place n no_tally number h l
    ghost_right_fits (Interlocked e q op then') vs t s place n = absurd (not_both false s refl)

    stored_fits : (t : Target) (r : RightSide) → takes p f t (right_values p f k false r) ≡ true → ghost_right p f r ≡ true → (place : Place) (n m : ℕ) → Fits (after (right_side p at_ r place n no_tally g) (λ v. store p at_ place v.value m v.starting)).end
    stored_fits t r ok s place n m =
        let v = taken p f t (right_values p f k false r) ok in
        after_fits (right_side p at_ r place n no_tally g) (λ v. store p at_ place v.value m v.starting) (ghost_right_fits r v.0 v.1 s place n) (λ w. store_fits p at_ place w.value m w.starting)

    ghost_simple_fits : (s : Simple) → simple_ok p f k false s ≡ true → ghost_simple p f s ≡ true → Fits (run_simple p at_ s 0 no_tally g).end
    ghost_simple_fits (Assign t r) ok s =
        let m = 0 + target_checks t + right_checks p false r in
        after_fits (left_side p at_ t 0 g) (λ place. after (right_side p at_ r place (0 + target_checks t) no_tally g) (λ v. store p at_ place v.value m v.starting)) (left_fits p at_ t 0 g) (λ place.
        stored_fits t r ok (and_both (is_ghost_target p f t) (ghost_right p f r) s).1 place (0 + target_checks t) m)
    ghost_simple_fits (ChangeOwned how e es) ok s =
        let m = 0 + checks e + all_checks es.items in
        after_fits (eval p at_ h l e 0) (λ o. after (eval_all p at_ h l es.items (0 + checks e)) (λ vs. owned_change p at_ how (referent o) vs m g)) (eval_fits p at_ h l e 0) (λ o.
        after_fits (eval_all p at_ h l es.items (0 + checks e)) (λ vs. owned_change p at_ how (referent o) vs m g) (evals_fit p at_ h l es.items (0 + checks e)) (λ vs.
        owned_fits how (referent o) vs m g))
    ghost_simple_fits (EndClaim q e es) ok s =
        let m = 0 + checks e + all_checks es.items in
        after_fits (eval p at_ h l e 0) (λ r. after (eval_all p at_ h l es.items (0 + checks e)) (λ vs. end_claim p at_ (referent r) (map referent vs) m no_tally g)) (eval_fits p at_ h l e 0) (λ r.
        after_fits (eval_all p at_ h l es.items (0 + checks e)) (λ vs. end_claim p at_ (referent r) (map referent vs) m no_tally g) (evals_fit p at_ h l es.items (0 + checks e)) (λ vs.
        end_fits (referent r) (map referent vs) m no_tally g))

-- no choices are wanted

no_right_choices : (p : Program) (f : FunctionInfo) (r : RightSide) → ghost_right p f r ≡ true → right_fits p r [] ≡ true
no_right_choices p f (Compute e) s = refl
no_right_choices p f (Malloc ty) s = absurd (not_both false s refl)
no_right_choices p f (NewClaim n) s = refl
no_right_choices p f (Interlocked e q op then') s = absurd (not_both false s refl)

no_simple_choices : (p : Program) (f : FunctionInfo) (s : Simple) → ghost_simple p f s ≡ true → simple_fits p s [] ≡ true
no_simple_choices p f (Assign t r) k = no_right_choices p f r (and_both (is_ghost_target p f t) (ghost_right p f r) k).1
no_simple_choices p f (ChangeOwned how e es) k = refl
no_simple_choices p f (EndClaim q e es) k = refl

-- the choices of a turn on a silent item
abbrev pub action_takes : FunctionInfo → Action → List Value
action_takes f (Simply s) = []
action_takes f (Declare i) = zero_of (type_of_variable f i) ∷ []
action_takes f (Define i r) = []
action_takes f (WrapObject ty q e) = []
action_takes f (UnwrapObject e) = []
action_takes f (AssertSpec e) = []
action_takes f (FreeObject e) = []
action_takes f (SpawnThread j es) = []
action_takes f (Atomic ls body) = []

abbrev pub code_takes : FunctionInfo → List Remaining → List Value
code_takes f [] = []
code_takes f (Run (Do line x) ∷ code) = action_takes f x
code_takes f (Run (If' line in_ghost e m x n y) ∷ code) = []
code_takes f (Run (While' line invs e m row) ∷ code) = []
code_takes f (Run (DoWhile' line invs m row tested e) ∷ code) = []
code_takes f (Run (Unwrapping' line ty q e m row) ∷ code) = []
code_takes f (Run (Call line to v j es) ∷ code) = []
code_takes f (Run (Return line e) ∷ code) = []
code_takes f (Test line e s ∷ code) = []
code_takes f (WrapAgain line ty o ∷ code) = []
code_takes f (Receive line place v ∷ code) = []

module _ (p : Program) (f : FunctionInfo) (a : Activation) (is : slice_get p.functions.items a.context.function ≡ Some f) (below : List Activation) (h : Heap) (number : ℕ) where
  abbrev turn : List Value → List Remaining → Outcome Turn
  turn choices code = turn_of p (Fresh number) choices a code below h

  abbrev here : ℕ → Spot
  here line = spot a.context [] line

  abbrev from : Progress
  from = starting h a.locals (Fresh number)

  -- a turn on an action whose choices fit
  acts_fit : (line : ℕ) (b : Bool) (o : Outcome Progress) (code : List Remaining) → b ≡ true → Fits o.end → Fits (action_turn p line a code below (fitting b o)).end
  acts_fit line b o code e fit = acted_fits p line a code below (fitting b o) (subst (λ d. Fits (fitting d o).end) (sym e) fit)

  simply_fits : (line : ℕ) (s : Simple) (code : List Remaining) → simple_ok p f a.context.function false s ≡ true → ghost_simple p f s ≡ true → Fits (turn [] (Run (Do line (Simply s)) ∷ code)).end
  unfolding act
  simply_fits line s code ok k =
      acts_fit line (simple_fits p s []) (run_simple p (here line) s 0 no_tally from) code (no_simple_choices p f s k)
      (ghost_simple_fits p a.context line f a.context.function number h a.locals s ok k)

  declare_fits : (line i : ℕ) (code : List Remaining) → Fits (turn (zero_of (type_of_variable f i) ∷ []) (Run (Do line (Declare i)) ∷ code)).end
  unfolding act
  declare_fits line i code =
      let vs = zero_of (type_of_variable f i) ∷ [] in
      acts_fit line (one_fits (slice_get p.functions.items a.context.function) i vs) (run_action p (spot a.context vs line) (Declare i) 0 from) code
      (subst (λ o. one_fits o i vs ≡ true) (sym is) (both_and (in_type (type_of_variable f i) (zero_of (type_of_variable f i))) true (zero_in_type (type_of_variable f i)) refl)) tt

  define_fits : (line i : ℕ) (r : RightSide) (code : List Remaining) → takes p f (Local i) (right_values p f a.context.function false r) ≡ true → ghost_right p f r ≡ true → Fits (turn [] (Run (Do line (Define i r)) ∷ code)).end
  unfolding act
  define_fits line i r code ok k =
      acts_fit line (right_fits p r []) (run_action p (here line) (Define i r) 0 from) code (no_right_choices p f r k)
      (stored_fits p a.context line f a.context.function number h a.locals (Local i) r ok k (InLocal i) 0 (0 + right_checks p false r))

  wraps_fit : (line ty q : ℕ) (e : Expr) (code : List Remaining) → Fits (turn [] (Run (Do line (WrapObject ty q e)) ∷ code)).end
  unfolding act
  wraps_fit line ty q e code =
      acts_fit line true (run_action p (here line) (WrapObject ty q e) 0 from) code refl
      (after_fits (eval p (here line) h a.locals e 0) (λ v. wrap_object p (here line) ty (referent v) (0 + checks e) from) (eval_fits p (here line) h a.locals e 0) (λ v. wrap_fits p a.context line ty (referent v) (0 + checks e) from))

  unwraps_fit : (line : ℕ) (e : Expr) (code : List Remaining) → Fits (turn [] (Run (Do line (UnwrapObject e)) ∷ code)).end
  unfolding act
  unwraps_fit line e code =
      acts_fit line true (run_action p (here line) (UnwrapObject e) 0 from) code refl
      (after_fits (eval p (here line) h a.locals e 0) (λ v. unwrap_object p (here line) (referent v) (0 + checks e) from) (eval_fits p (here line) h a.locals e 0) (λ v. unwrap_fits p a.context line (referent v) (0 + checks e) from))

  asserts_fit : (line : ℕ) (e : Spec) (code : List Remaining) → Fits (turn [] (Run (Do line (AssertSpec e)) ∷ code)).end
  unfolding act
  asserts_fit line e code =
      acts_fit line true (run_action p (here line) (AssertSpec e) 0 from) code refl
      (check_fits (here line) (spec_test p e (scene a.context h a.locals)).holds 0 Assert (Gives from) tt)

  action_fits_at : (line : ℕ) (x : Action) (code : List Remaining) → action_ok p f a.context.function x ≡ true → silent_action p f x ≡ true → Fits (turn (action_takes f x) (Run (Do line x) ∷ code)).end
  action_fits_at line (Simply s) code ok k = simply_fits line s code ok k
  action_fits_at line (Declare i) code ok k = declare_fits line i code
  action_fits_at line (Define i r) code ok k = define_fits line i r code ok (and_both (is_ghost_variable p f i) (ghost_right p f r) k).1
  action_fits_at line (WrapObject ty q e) code ok k = wraps_fit line ty q e code
  action_fits_at line (UnwrapObject e) code ok k = unwraps_fit line e code
  action_fits_at line (AssertSpec e) code ok k = asserts_fit line e code
  action_fits_at line (FreeObject e) code ok k = absurd (not_both false k refl)
  action_fits_at line (SpawnThread j es) code ok k = absurd (not_both false k refl)
  action_fits_at line (Atomic ls body) code ok k =
      atomic_fits p f a below h number line ls body code (and_both (every (λ (i : Listed). is_ref p f i.object && (not i.is_claim || is_claim_expr p f i.object)) ls.items) (every (inner_ok p f a.context.function) body.items) ok).1

  pub turn_fits : (code : List Remaining) → every (remaining_ok p f a.context.function) code ≡ true → silent p f code ≡ true → Fits (turn (code_takes f code) code).end
  turn_fits [] ok k = absurd (not_both false k refl)
  turn_fits (Run (Do line x) ∷ code) ok k = action_fits_at line x code (and_both (action_ok p f a.context.function x) (every (remaining_ok p f a.context.function) code) ok).0 k
  turn_fits (Run (If' line in_ghost e m x n y) ∷ code) ok k =
      after_fits (eval p (here line) h a.locals e 0) (λ v. Gives (moved p line a (map Run (if truth v then items-the_row-Stmt _ x else items-the_row-Stmt _ y) ++ code) below h)) (eval_fits p (here line) h a.locals e 0) (λ v. tt)
  turn_fits (Run (While' line invs e m row) ∷ code) ok k = absurd (not_both false k refl)
  turn_fits (Run (DoWhile' line invs m row tested e) ∷ code) ok k = absurd (not_both false k refl)
  turn_fits (Run (Unwrapping' line ty q e m row) ∷ code) ok k =
      let rest : Value → List Remaining = λ v. map Run (items-the_row-Stmt _ row) ++ WrapAgain line ty (referent v) ∷ code in
      after_fits (eval p (here line) h a.locals e 0) (λ v. action_turn p line a (rest v) below (unwrap_object p (here line) (referent v) 0 from)) (eval_fits p (here line) h a.locals e 0) (λ v.
      acted_fits p line a (rest v) below (unwrap_object p (here line) (referent v) 0 from) (unwrap_fits p a.context line (referent v) 0 from))
  turn_fits (Run (Call line to v j es) ∷ code) ok k = absurd (not_both false k refl)
  turn_fits (Run (Return line e) ∷ code) ok k = absurd (not_both false k refl)
  turn_fits (Test line e s ∷ code) ok k = absurd (not_both false k refl)
  turn_fits (WrapAgain line ty o ∷ code) ok k = acted_fits p line a code below (wrap_object p (here line) ty o 0 from) (wrap_fits p a.context line ty o 0 from)
  turn_fits (Receive line place v ∷ code) ok k = absurd (not_both false k refl)
