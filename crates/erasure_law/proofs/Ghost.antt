-- Ghost statements leave nothing behind: heap, variables and started threads are as before, without annotations.
use Rattle.std.proofs.Common.{◌≡◌, ℕ, zero, suc, ◌+◌, ◌==◌, Bool, true, false, cond, not, ◌&&◌, ◌||◌, List, [], ◌∷◌, map, length, Option, Some, None, slice_get, slice_set, refl, sym, ap, ◌∙◌}
use Rattle.std.specs.Prelude.{ℤ, ◌++◌, pos, negsuc, if◌then◌else◌}
use Rattle.std.proofs.lemmas.Bool.{eqb-true}
use Rattle.object_types.specs.declared.references.Ref.{Ref}
use Rattle.object_types.specs.declared.records.Mode.{Mode}
use Rattle.object_types.specs.declared.records.Mode.TheVariants.{Absent, Open, Closed, Freed}
use Rattle.object_types.specs.declared.values.Value.{Value}
use Rattle.object_types.specs.declared.values.Value.TheVariants.{Int, Ref as Refers}
use Rattle.object_types.specs.declared.shapes.Entry.{Entry}
use Rattle.method.specs.declared.program.CheckKind.{CheckKind}
use Rattle.method.specs.declared.program.CheckKind.TheVariants.{Write, Writes, Owns, Wrap, Unwrap, Claimed as HasClaims, Invariant, MakeClaim, DestroyClaim, Assert}
use Rattle.method.specs.SpecValue.{entry_of}
use Rattle.object_types.specs.Sets.{every, is_in, with_member, without_member, set_of, all_distinct}
use Rattle.method.specs.declared.program.OwnsChange.{OwnsChange}
use Rattle.method.specs.declared.program.OwnsChange.TheVariants.{Assigned, Added, Removed}
use Rattle.method.specs.declared.program.Target.{Target}
use Rattle.method.specs.declared.program.Target.TheVariants.{Local, FieldOf}
use Rattle.method.specs.declared.program.RightSide.{RightSide}
use Rattle.method.specs.declared.program.RightSide.TheVariants.{Compute, Malloc, NewClaim, Interlocked}
use Rattle.method.specs.declared.program.Simple.{Simple}
use Rattle.method.specs.declared.program.Simple.TheVariants.{Assign, ChangeOwned, EndClaim}
use Rattle.method.specs.declared.program.Inner.{Inner, Row_of-Inner, end_of-Inner, more_of-Inner}
use Rattle.method.specs.declared.program.Inner.TheVariants.{Inside, InsideIf'}
use Rattle.method.specs.declared.program.Action.{Action}
use Rattle.method.specs.declared.program.Action.TheVariants.{Simply, Declare, Define, WrapObject, UnwrapObject, AssertSpec, FreeObject, SpawnThread, Atomic}
use Rattle.method.specs.declared.program.ClaimSite.{ClaimSite}
use Rattle.method.specs.declared.program.VariableInfo.{VariableInfo}
use Rattle.method.specs.declared.program.FunctionInfo.{FunctionInfo}
use Rattle.method.specs.declared.program.Program.{Program}
use Rattle.object_types.specs.References.{null, same_ref, is_claim}
use Rattle.object_types.specs.Values.{referent, truth, is_zero_int}
use Rattle.object_types.specs.Heap.{Heap, Record, put, write, hand_over, count_more, is_open, is_closed, is_absent, closed_in, mutable, wrapped}
use Rattle.method.specs.Tables.{local, is_struct, is_volatile, is_approved}
use Rattle.method.specs.Expressions.{Outcome, Unfit, Gives, after, Context, Spot, Tested, check, check_each, check_spec, check_specs, checks, all_checks, eval, eval_all, is_listed, may_write, scene, spec_test, inv_test, entry_test}
use Rattle.method.specs.Actions.{Place, InLocal, InField, Supply, Fresh, Chosen, Picked, Progress, Valued, heap_of, deferred_from, Took, Tally, no_tally, take_object, store, left_side, right_side, make_claim, claim_made, member_change, members_change, owned_change, end_claim, ended, may_end, run_simple, run_action, wrap_object, unwrap_object, run_inner, run_row, inner_checks, row_checks, inner_tally, row_tally, tally_plus, target_checks, right_checks, inner_spot, stored_heap, new_claim, claimed_checks, claim_tests, run_claimed, may_count, wrapped_set, set_overflow}
use Rattle.method.proofs.Global.{and_both}
use Rattle.machine_laws.proofs.Outcomes.{OnGave, after_gave, after_any, check_gave, check_each_gave, check_spec_gave, check_specs_gave}
use Rattle.machine_laws.proofs.Typed.{not_both}
use Rattle.plain_machine.specs.PlainCode.{is_ghost_field, ghost_variable, is_ghost_variable, is_ghost_target}
use Rattle.plain_machine.specs.Erasure.{concrete_locals, plain_mode}
use Rattle.plain_machine.specs.GhostApart.{ghost_right, ghost_simple, ghost_inner, ghost_inners, ghost_action}
use Rattle.erasure_law.proofs.Heaps.{SameErased, same_then, put_unseen, put_other, hand_over_unseen, count_more_unseen, ghost_write}

pub either_gave : {A : Type 0} (b : Bool) (x y : Outcome A) (Q : A → Type 0) → OnGave x Q → OnGave y Q → OnGave (if b then x else y) Q
either_gave true x y Q i j = i
either_gave false x y Q i j = j

pub ghost_set : (is : List VariableInfo) (l : List Value) (i : ℕ) (v : Value) → ghost_variable (slice_get is i) ≡ true → concrete_locals is (slice_set l i v) ≡ concrete_locals is l
ghost_set [] l i v e = absurd (not_both false e refl)
ghost_set (x ∷ xs) [] i v e = refl
ghost_set (x ∷ xs) (u ∷ us) zero v e = by x.is_ghost e
  where
    by : (b : Bool) → b ≡ true → cond b (Int (pos 0)) v ∷ concrete_locals xs us ≡ cond b (Int (pos 0)) u ∷ concrete_locals xs us
    by true e = refl
    by false e = absurd (not_both false e refl)
ghost_set (x ∷ xs) (u ∷ us) (suc i) v e = ap (λ ys. cond x.is_ghost (Int (pos 0)) u ∷ ys) (ghost_set xs us i v e)

open_mode : (m : Mode) → is_open m ≡ true → plain_mode m ≡ Open
open_mode Absent e = absurd (not_both false e refl)
open_mode Open e = refl
open_mode Closed e = refl
open_mode Freed e = absurd (not_both false e refl)

closed_mode : (m : Mode) → is_closed m ≡ true → plain_mode m ≡ Open
closed_mode Absent e = absurd (not_both false e refl)
closed_mode Open e = refl
closed_mode Closed e = refl
closed_mode Freed e = absurd (not_both false e refl)

-- a claim is no struct
claim_other : (p : Program) (o : Ref) → is_claim o ≡ true → is_struct p o.ty ≡ false
claim_other p o e = ap (is_struct p) (eqb-true o.ty 2 e)

module _ (p : Program) (f : FunctionInfo) where
  -- from here to there nothing is seen without annotations
  pub record Silent (g0 g : Progress) : Type 0 where
    pub heap : SameErased p g0.heap g.heap
    pub locals : concrete_locals f.variables.items g.locals ≡ concrete_locals f.variables.items g0.locals
    pub started : g.started ≡ g0.started

  pub silent_self : (g : Progress) → Silent g g
  silent_self g = record { heap = λ o. refl; locals = refl; started = refl }

  pub silent_to : (g0 g g1 : Progress) → Silent g0 g → SameErased p g.heap g1.heap → g1.locals ≡ g.locals → g1.started ≡ g.started → Silent g0 g1
  silent_to g0 g g1 x s l t = record { heap = same_then p g0.heap g.heap g1.heap x.heap s; locals = ap (concrete_locals f.variables.items) l ∙ x.locals; started = t ∙ x.started }

  owned_put : (h : Heap) (o : Ref) (os : List Ref) → SameErased p h (put h o (record (h.get o) { owned = os }))
  owned_put h o os = put_unseen p h o (record (h.get o) { owned = os }) (λ s. record { mode = refl; fields = λ k e. refl })

  owned_given : (h : Heap) (o : Ref) (os qs : List Ref) (t : Ref) → SameErased p h (hand_over (put h o (record (h.get o) { owned = os })) qs t)
  owned_given h o os qs t = let k : Heap = put h o (record (h.get o) { owned = os }) in same_then p h k (hand_over k qs t) (owned_put h o os) (hand_over_unseen p k qs t)

  closed_given : (h : Heap) (o : Ref) (os qs : List Ref) (t : Ref) → is_open (h.get o).mode ≡ true → SameErased p h (hand_over (put h o (record (h.get o) { mode = Closed; owned = os })) qs t)
  closed_given h o os qs t m =
      let k : Heap = put h o (record (h.get o) { mode = Closed; owned = os }) in
      same_then p h k (hand_over k qs t) (put_unseen p h o (record (h.get o) { mode = Closed; owned = os }) (λ s. record { mode = sym (open_mode (h.get o).mode m); fields = λ k e. refl })) (hand_over_unseen p k qs t)

  opened_given : (h : Heap) (o : Ref) (qs : List Ref) (t : Ref) → closed_in h o ≡ true → SameErased p h (hand_over (put h o (record (h.get o) { mode = Open })) qs t)
  opened_given h o qs t m =
      let k : Heap = put h o (record (h.get o) { mode = Open }) in
      same_then p h k (hand_over k qs t) (put_unseen p h o (record (h.get o) { mode = Open }) (λ s. record { mode = sym (closed_mode (h.get o).mode m); fields = λ k e. refl })) (hand_over_unseen p k qs t)

  claim_put : (h : Heap) (c : Ref) (r : Record) (z : ℤ) (os : List Ref) → is_struct p c.ty ≡ false → SameErased p h (count_more z os (put h c r))
  claim_put h c r z os e = same_then p h (put h c r) (count_more z os (put h c r)) (put_other p h c r e) (count_more_unseen p z os (put h c r))

  abbrev pub GhostPlace : Place → Type 0
  GhostPlace (InLocal i) = is_ghost_variable p f i ≡ true
  GhostPlace (InField o k) = is_ghost_field p k ≡ true

  module _ (at_ : Spot) (g0 : Progress) where
    -- two checks, and then the progress
    two_checks : (b c : Bool) (first second : CheckKind) (n : ℕ) (g : Progress) → (b ≡ true → Silent g0 g) → OnGave (check at_ b n first (check at_ c (n + 1) second (Gives g))) (Silent g0)
    two_checks true true first second n g x = x refl
    two_checks true false first second n g x = tt
    two_checks false c first second n g x = tt

    pub store_silent : (place : Place) (v : Value) (n : ℕ) (g : Progress) → GhostPlace place → Silent g0 g → OnGave (store p at_ place v n g) (Silent g0)
    store_silent (InLocal i) v n g k x = record { heap = x.heap; locals = ghost_set f.variables.items g.locals i v k ∙ x.locals; started = x.started }
    store_silent (InField o k) v n g e x =
        two_checks (mutable at_.context.me g.heap o || (is_listed at_ o && (is_volatile p k && (not (is_approved p k) || may_count at_ g.heap o)))) (may_write at_ o || is_listed at_ o) Write Writes n (heap_of g (write g.heap o k v))
        (λ a. silent_to g0 g (heap_of g (write g.heap o k v)) x (ghost_write p g.heap o k v e) refl refl)

    pub left_silent : (t : Target) (n : ℕ) (g : Progress) → is_ghost_target p f t ≡ true → OnGave (left_side p at_ t n g) GhostPlace
    left_silent (Local i) n g e = e
    left_silent (FieldOf x k) n g e = after_any (eval p at_ g.heap g.locals x n) (λ v. Gives (InField (referent v) k)) GhostPlace (λ v. e)

    claim_made_hidden : (c : Ref) (supply : Supply) (objects : List Ref) (es : List Entry) (place : Place) (n : ℕ) (tally : Tally) (h1 : Heap) (g : Progress) → SameErased p g.heap h1 → Silent g0 g → OnGave (claim_made p at_ c supply objects es place n tally h1 g) (λ v. Silent g0 v.starting)
    claim_made_hidden c supply objects es place n tally h1 g s x =
        let with_claim : Valued = record { value = Refers c; starting = record g { heap = h1; supply = supply; changed = g.changed ++ deferred_from tally.objects objects; made = g.made ++ deferred_from tally.claims (c ∷ []) } } in
        let h2 = stored_heap place (Refers c) h1 in
        let is_silent : Silent g0 with_claim.starting = silent_to g0 g with_claim.starting x s refl refl in
        let inner : Outcome Valued = check_specs at_ (map (λ o. inv_test p o g.heap h2) objects) (n + length es) Invariant (Gives with_claim) in
        either_gave at_.inside (Gives with_claim) (check_specs at_ (map (entry_test p h2) es) n MakeClaim inner) (λ v. Silent g0 v.starting) is_silent
        (check_specs_gave at_ (map (entry_test p h2) es) n MakeClaim inner (λ v. Silent g0 v.starting) (λ a.
        check_specs_gave at_ (map (λ o. inv_test p o g.heap h2) objects) (n + length es) Invariant (Gives with_claim) (λ v. Silent g0 v.starting) (λ b. is_silent)))

    claim_type : (supply : Supply) (h : Heap) → OnGave (take_object supply 2 h) (λ t. t.which.ty ≡ 2)
    claim_type (Fresh n) h = refl
    claim_type (Chosen []) h = tt
    claim_type (Chosen (r ∷ rs)) h = by (r.ty == 2) (is_absent (h.get r).mode) refl
      where
        by : (a b : Bool) → (r.ty == 2) ≡ a → OnGave (if a && b then Gives (record { which = r; supply = Chosen rs }) else Unfit) (λ (t : Took). t.which.ty ≡ 2)
        by true true e = eqb-true r.ty 2 e
        by true false e = tt
        by false b e = tt
    claim_type (Picked n []) h = tt
    claim_type (Picked n (r ∷ rs)) h = by (r.ty == 2) (is_absent (h.get r).mode) refl
      where
        by : (a b : Bool) → (r.ty == 2) ≡ a → OnGave (if a && b then Gives (record { which = r; supply = Picked n rs }) else Unfit) (λ (t : Took). t.which.ty ≡ 2)
        by true true e = eqb-true r.ty 2 e
        by true false e = tt
        by false b e = tt

    site_silent : (site : ClaimSite) (place : Place) (n : ℕ) (tally : Tally) (g : Progress) → Silent g0 g → OnGave (make_claim p at_ (Some site) place n tally g) (λ v. Silent g0 v.starting)
    site_silent site place n tally g x =
        let m = n + claimed_checks site.claimed.items in
        let es = map (entry_of (scene at_.context g.heap g.locals)) site.conjuncts.items in
        let made : List Ref → Took → Outcome Valued = λ objects t. claim_made p at_ t.which t.supply objects es place (m + length objects + 1) tally (count_more (pos 1) objects (put g.heap t.which (new_claim at_.context.me objects es))) g in
        let taken : List Ref → Outcome Valued = λ objects. after (take_object g.supply 2 g.heap) (made objects) in
        after_any (run_claimed p at_ site.claimed.items n g) (λ objects. check_each at_ (claim_tests p at_ g.heap [] objects) m MakeClaim (taken objects)) (λ v. Silent g0 v.starting) (λ objects.
        check_each_gave at_ (claim_tests p at_ g.heap [] objects) m MakeClaim (taken objects) (λ v. Silent g0 v.starting) (λ ok.
        after_gave (take_object g.supply 2 g.heap) (made objects) (λ t. t.which.ty ≡ 2) (λ v. Silent g0 v.starting) (claim_type g.supply g.heap) (λ t e.
        claim_made_hidden t.which t.supply objects es place (m + length objects + 1) tally (count_more (pos 1) objects (put g.heap t.which (new_claim at_.context.me objects es))) g
        (claim_put g.heap t.which (new_claim at_.context.me objects es) (pos 1) objects (ap (is_struct p) e)) x)))

    pub right_silent : (r : RightSide) (place : Place) (n : ℕ) (tally : Tally) (g : Progress) → ghost_right p f r ≡ true → Silent g0 g → OnGave (right_side p at_ r place n tally g) (λ v. Silent g0 v.starting)
    right_silent (Compute e) place n tally g k x = after_any (eval p at_ g.heap g.locals e n) (λ v. Gives (record { value = v; starting = g })) (λ v. Silent g0 v.starting) (λ v. x)
    right_silent (Malloc ty) place n tally g k x = absurd (not_both false k refl)
    right_silent (NewClaim s) place n tally g k x = by (slice_get p.sites.items s)
      where
        by : (o : Option ClaimSite) → OnGave (make_claim p at_ o place n tally g) (λ v. Silent g0 v.starting)
        by None = tt
        by (Some site) = site_silent site place n tally g x
    right_silent (Interlocked e k op then') place n tally g z x = absurd (not_both false z refl)

    member_silent : (c : OwnsChange) (o q : Ref) (n : ℕ) (g : Progress) → Silent g0 g → OnGave (member_change p at_ c o q n g) (Silent g0)
    member_silent Assigned o q n g x = x
    member_silent Added o q n g x =
        let os = with_member q (g.heap.get o).owned in
        let joined : Heap = put g.heap o (record (g.heap.get o) { owned = os }) in
        let given : Progress = heap_of g (hand_over joined (q ∷ []) o) in
        let kept : Progress = heap_of g joined in
        let b1 = wrapped at_.context.me g.heap q && may_write at_ q in
        either_gave at_.inside (check at_ (is_listed at_ o) n Write (check at_ b1 (n + 1) Owns (Gives given))) (check at_ (mutable at_.context.me g.heap o) n Write (check at_ (may_write at_ o) (n + 1) Writes (Gives kept))) (Silent g0)
        (two_checks (is_listed at_ o) b1 Write Owns n given (λ a. silent_to g0 g given x (owned_given g.heap o os (q ∷ []) o) refl refl))
        (two_checks (mutable at_.context.me g.heap o) (may_write at_ o) Write Writes n kept (λ a. silent_to g0 g kept x (owned_put g.heap o os) refl refl))
    member_silent Removed o q n g x =
        let os = without_member q (g.heap.get o).owned in
        let left : Heap = put g.heap o (record (g.heap.get o) { owned = os }) in
        let given : Progress = heap_of g (hand_over left (q ∷ []) at_.context.me) in
        let kept : Progress = heap_of g left in
        let b1 = is_in q (g.heap.get o).owned in
        either_gave at_.inside (check at_ (is_listed at_ o) n Write (check at_ b1 (n + 1) Owns (Gives given))) (check at_ (mutable at_.context.me g.heap o) n Write (check at_ (may_write at_ o) (n + 1) Writes (Gives kept))) (Silent g0)
        (two_checks (is_listed at_ o) b1 Write Owns n given (λ a. silent_to g0 g given x (owned_given g.heap o os (q ∷ []) at_.context.me) refl refl))
        (two_checks (mutable at_.context.me g.heap o) (may_write at_ o) Write Writes n kept (λ a. silent_to g0 g kept x (owned_put g.heap o os) refl refl))

    members_silent : (c : OwnsChange) (o : Ref) (vs : List Value) (n : ℕ) (g : Progress) → Silent g0 g → OnGave (members_change p at_ c o vs n g) (Silent g0)
    members_silent c o [] n g x = x
    members_silent c o (v ∷ vs) n g x = after_gave (member_change p at_ c o (referent v) n g) (λ g'. members_change p at_ c o vs (n + 2) g') (Silent g0) (Silent g0) (member_silent c o (referent v) n g x) (λ g' y. members_silent c o vs (n + 2) g' y)

    owned_silent : (c : OwnsChange) (o : Ref) (vs : List Value) (n : ℕ) (g : Progress) → Silent g0 g → OnGave (owned_change p at_ c o vs n g) (Silent g0)
    owned_silent Assigned o vs n g x =
        let os = set_of (map referent vs) in
        let g1 : Progress = heap_of g (put g.heap o (record (g.heap.get o) { owned = os })) in
        two_checks (mutable at_.context.me g.heap o) (may_write at_ o) Write Writes n g1 (λ a. silent_to g0 g g1 x (owned_put g.heap o os) refl refl)
    owned_silent Added o vs n g x = members_silent Added o vs n g x
    owned_silent Removed o vs n g x = members_silent Removed o vs n g x

    end_silent : (c : Ref) (objects : List Ref) (n : ℕ) (tally : Tally) (g : Progress) → Silent g0 g → OnGave (end_claim p at_ c objects n tally g) (Silent g0)
    end_silent c objects n tally g x =
        let r : Record = record (g.heap.get c) { mode = Freed; owner = null } in
        let h1 = ended p at_ c objects g.heap in
        let g1 : Progress = record g { heap = h1; changed = g.changed ++ deferred_from tally.objects objects } in
        let ts = if at_.inside then [] else map (λ o. inv_test p o g.heap h1) objects in
        let o3 : Outcome Progress = check_specs at_ ts (n + 1 + length objects) Invariant (Gives g1) in
        let o2 : Outcome Progress = check_each at_ (map (may_count at_ g.heap) objects) (n + 1) DestroyClaim o3 in
        check_gave at_ (may_end p at_ c objects g.heap) n DestroyClaim o2 (Silent g0) (λ may.
        check_each_gave at_ (map (may_count at_ g.heap) objects) (n + 1) DestroyClaim o3 (Silent g0) (λ a.
        check_specs_gave at_ ts (n + 1 + length objects) Invariant (Gives g1) (Silent g0) (λ b.
        silent_to g0 g g1 x (claim_put g.heap c r (negsuc 0) objects (claim_other p c (and_both (is_claim c) (wrapped at_.context.me g.heap c && (may_write at_ c && (all_distinct objects && (every (λ o. is_in o (g.heap.get c).listed) objects && every (λ o. is_in o objects) (g.heap.get c).listed)))) may).0)) refl refl)))

    pub simple_silent : (s : Simple) (n : ℕ) (tally : Tally) (g : Progress) → ghost_simple p f s ≡ true → Silent g0 g → OnGave (run_simple p at_ s n tally g) (Silent g0)
    simple_silent (Assign t r) n tally g k x =
        let b = and_both (is_ghost_target p f t) (ghost_right p f r) k in
        let behind : Place → Valued → Outcome Progress = λ place v. store p at_ place v.value (n + target_checks t + right_checks p at_.inside r) v.starting in
        after_gave (left_side p at_ t n g) (λ place. after (right_side p at_ r place (n + target_checks t) tally g) (behind place)) GhostPlace (Silent g0) (left_silent t n g b.0) (λ place e.
        after_gave (right_side p at_ r place (n + target_checks t) tally g) (behind place) (λ v. Silent g0 v.starting) (Silent g0) (right_silent r place (n + target_checks t) tally g b.1 x) (λ v y.
        store_silent place v.value (n + target_checks t + right_checks p at_.inside r) v.starting e y))
    simple_silent (ChangeOwned c e es) n tally g k x =
        let m = n + checks e + all_checks es.items in
        after_any (eval p at_ g.heap g.locals e n) (λ o. after (eval_all p at_ g.heap g.locals es.items (n + checks e)) (λ vs. owned_change p at_ c (referent o) vs m g)) (Silent g0) (λ o.
        after_any (eval_all p at_ g.heap g.locals es.items (n + checks e)) (λ vs. owned_change p at_ c (referent o) vs m g) (Silent g0) (λ vs. owned_silent c (referent o) vs m g x))
    simple_silent (EndClaim q e es) n tally g k x =
        let m = n + checks e + all_checks es.items in
        after_any (eval p at_ g.heap g.locals e n) (λ c. after (eval_all p at_ g.heap g.locals es.items (n + checks e)) (λ vs. end_claim p at_ (referent c) (map referent vs) m tally g)) (Silent g0) (λ c.
        after_any (eval_all p at_ g.heap g.locals es.items (n + checks e)) (λ vs. end_claim p at_ (referent c) (map referent vs) m tally g) (Silent g0) (λ vs. end_silent (referent c) (map referent vs) m tally g x))

    pub wrap_silent : (ty : ℕ) (o : Ref) (n : ℕ) (g : Progress) → Silent g0 g → OnGave (wrap_object p at_ ty o n g) (Silent g0)
    wrap_silent ty o n g x =
        let members = wrapped_set p at_ ty g.heap o in
        let h1 : Heap = hand_over (put g.heap o (record (g.heap.get o) { mode = Closed; owned = members })) members o in
        let t2 : Tested = record { overflow = set_overflow p at_ ty g.heap o; holds = every (λ q. wrapped at_.context.me g.heap q && may_write at_ q) members } in
        let o3 : Outcome Progress = check_spec at_ (inv_test p o g.heap h1) (n + 3) Invariant (Gives (heap_of g h1)) in
        let o2 : Outcome Progress = check_spec at_ t2 (n + 2) Wrap o3 in
        let o1 : Outcome Progress = check at_ (may_write at_ o) (n + 1) Writes o2 in
        check_gave at_ (mutable at_.context.me g.heap o) n Wrap o1 (Silent g0) (λ m.
        check_gave at_ (may_write at_ o) (n + 1) Writes o2 (Silent g0) (λ a.
        check_spec_gave at_ t2 (n + 2) Wrap o3 (Silent g0) (λ b.
        check_spec_gave at_ (inv_test p o g.heap h1) (n + 3) Invariant (Gives (heap_of g h1)) (Silent g0) (λ c.
        silent_to g0 g (heap_of g h1) x (closed_given g.heap o members members o (and_both (is_open (g.heap.get o).mode) (same_ref (g.heap.get o).owner at_.context.me) m).0) refl refl))))

    pub unwrap_silent : (o : Ref) (n : ℕ) (g : Progress) → Silent g0 g → OnGave (unwrap_object p at_ o n g) (Silent g0)
    unwrap_silent o n g x =
        let h1 : Heap = hand_over (put g.heap o (record (g.heap.get o) { mode = Open })) (g.heap.get o).owned at_.context.me in
        let o2 : Outcome Progress = check at_ (is_zero_int (g.heap.get o).count) (n + 2) HasClaims (Gives (heap_of g h1)) in
        let o1 : Outcome Progress = check at_ (may_write at_ o) (n + 1) Writes o2 in
        check_gave at_ (wrapped at_.context.me g.heap o) n Unwrap o1 (Silent g0) (λ m.
        check_gave at_ (may_write at_ o) (n + 1) Writes o2 (Silent g0) (λ a.
        check_gave at_ (is_zero_int (g.heap.get o).count) (n + 2) HasClaims (Gives (heap_of g h1)) (Silent g0) (λ b.
        silent_to g0 g (heap_of g h1) x (opened_given g.heap o (g.heap.get o).owned at_.context.me (and_both (closed_in g.heap o) (same_ref (g.heap.get o).owner at_.context.me) m).0) refl refl)))

    -- an action that is ghost, outside blocks
    pub action_silent : (a : Action) (n : ℕ) (g : Progress) → ghost_action p f a ≡ true → Silent g0 g → OnGave (run_action p at_ a n g) (Silent g0)
    action_silent (Simply s) n g k x = simple_silent s n no_tally g k x
    action_silent (Declare i) n g k x = record { heap = x.heap; locals = ghost_set f.variables.items g.locals i (local at_.choices 0) k ∙ x.locals; started = x.started }
    action_silent (Define i r) n g k x =
        let b = and_both (is_ghost_variable p f i) (ghost_right p f r) k in
        after_gave (right_side p at_ r (InLocal i) n no_tally g) (λ v. store p at_ (InLocal i) v.value (n + right_checks p false r) v.starting) (λ v. Silent g0 v.starting) (Silent g0) (right_silent r (InLocal i) n no_tally g b.1 x) (λ v y. store_silent (InLocal i) v.value (n + right_checks p false r) v.starting b.0 y)
    action_silent (WrapObject ty q e) n g k x = after_any (eval p at_ g.heap g.locals e n) (λ v. wrap_object p at_ ty (referent v) (n + checks e) g) (Silent g0) (λ v. wrap_silent ty (referent v) (n + checks e) g x)
    action_silent (UnwrapObject e) n g k x = after_any (eval p at_ g.heap g.locals e n) (λ v. unwrap_object p at_ (referent v) (n + checks e) g) (Silent g0) (λ v. unwrap_silent (referent v) (n + checks e) g x)
    action_silent (AssertSpec e) n g k x = check_spec_gave at_ (spec_test p e (scene at_.context g.heap g.locals)) n Assert (Gives g) (Silent g0) (λ a. x)
    action_silent (FreeObject e) n g k x = absurd (not_both false k refl)
    action_silent (SpawnThread j es) n g k x = absurd (not_both false k refl)
    action_silent (Atomic ls body) n g k x = absurd (not_both false k refl)

  -- ghost statements inside blocks
  module _ (c : Context) (listed : List Ref) (g0 : Progress) where
    mutual
      pub inner_silent : (i : Inner) (n : ℕ) (tally : Tally) (g : Progress) → ghost_inner p f i ≡ true → Silent g0 g → OnGave (run_inner p c listed i n tally g) (Silent g0)
      inner_silent (Inside line s) n tally g k x = simple_silent (inner_spot p c listed line) g0 s n tally g k x
      inner_silent (InsideIf' line e m a j b) n tally g k x =
          let y = and_both (ghost_inners p f a) (ghost_inners p f b) k in
          let left = run_row p c listed a (n + checks e) tally g in
          let right = run_row p c listed b (n + checks e + row_checks p a) (tally_plus tally (row_tally p a)) g in
          after_any (eval p (inner_spot p c listed line) g.heap g.locals e n) (λ v. if truth v then left else right) (Silent g0) (λ v. either_gave (truth v) left right (Silent g0) (row_silent a (n + checks e) tally g y.0 x) (row_silent b (n + checks e + row_checks p a) (tally_plus tally (row_tally p a)) g y.1 x))

      pub row_silent : {m : _} (row : Row_of-Inner m) (n : ℕ) (tally : Tally) (g : Progress) → ghost_inners p f row ≡ true → Silent g0 g → OnGave (run_row p c listed row n tally g) (Silent g0)
      row_silent end_of-Inner n tally g k x = x
      row_silent (more_of-Inner i row) n tally g k x =
          let y = and_both (ghost_inner p f i) (ghost_inners p f row) k in
          after_gave (run_inner p c listed i n tally g) (λ g'. run_row p c listed row (n + inner_checks p i) (tally_plus tally (inner_tally p i)) g') (Silent g0) (Silent g0) (inner_silent i n tally g y.0 x) (λ g' z. row_silent row (n + inner_checks p i) (tally_plus tally (inner_tally p i)) g' y.1 z)
