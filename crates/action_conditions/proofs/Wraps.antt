-- Objects wrapped, in the run and on the path.
use Rattle.std.proofs.Common.{◌≡◌, ℕ, ◌+◌, Bool, true, false, not, cond, ◌&&◌, ◌||◌, if◌then◌else◌, List, [], ◌∷◌, pos, refl, ap, sym, ◌∙◌, subst, arith}
use Rattle.object_types.specs.declared.references.Ref.{Ref}
use Rattle.object_types.specs.declared.values.Value.TheVariants.{Int, Ref as Refers}
use Rattle.object_types.specs.declared.records.Mode.TheVariants.{Closed}
use Rattle.object_types.specs.References.{is_thread, is_claim, is_reference}
use Rattle.object_types.specs.Values.{referent}
use Rattle.object_types.specs.Sets.{every, set_of}
use Rattle.object_types.specs.Heap.{Heap, put, hand_over, closed_in, mutable, wrapped}
use Rattle.method.specs.declared.program.CheckKind.TheVariants.{Writes, Wrap, Invariant}
use Rattle.method.specs.declared.program.Expr.{Expr}
use Rattle.method.specs.declared.program.FunctionInfo.{FunctionInfo}
use Rattle.method.specs.declared.program.Program.{Program}
use Rattle.method.specs.Tables.{struct_of, has_fixed_owns}
use Rattle.method.specs.Invariants.{inv_holds, inv_scene, struct_holds, claim_holds}
use Rattle.method.specs.WellFormed.{IsHeapOf}
use Rattle.method.specs.Typing.{WellTyped}
use Rattle.method.specs.Expressions.{Spot as MachineSpot, Outcome, Gives as MachineGives, Tested as MachineTested, may_write, check, check_spec, checks, eval, inv_test}
use Rattle.method.specs.Expressions as x
use Rattle.method.specs.Actions.{Progress}
use Rattle.method.specs.Actions as m
use Rattle.method.proofs.Global.{and_both}
use Rattle.machine_laws.proofs.Heaps.{every_in}
use Rattle.machine_laws.proofs.Objects.{wrap_well_formed, set_is_ordered}
use Rattle.machine_laws.proofs.Typed.{Env}
use Rattle.terms.specs.declared.term.Kind.TheVariants as kind
use Rattle.terms.specs.Formula.{Formula}
use Rattle.term_meaning.specs.Columns.{OwnedSets}
use Rattle.term_meaning.specs.RawHeaps.{RawHeap, MemberAt, raw, store_at, clear_set, Shows}
use Rattle.term_meaning.specs.Meaning.{Language, HeapValue, IsFaithful, InvHolds, ClaimSays, StructSays, If, invariant_of}
use Rattle.axiom_instances.proofs.Invariants.{inv_says}
use Rattle.axiom_instances.proofs.Kit as kit
use Rattle.axiom_instances.proofs.Kit.{none, one, more, node_has}
use Rattle.axiom_instances.proofs.Maps.{set_has}
use Rattle.conditions.specs.Formulas.{node, nat, me, set, owned_column}
use Rattle.conditions.specs.Symbolic.{term}
use Rattle.conditions.specs.Paths.{Done, after}
use Rattle.conditions.specs.Code.{Spot, State, code, inv}
use Rattle.conditions.specs.Code as code
use Rattle.conditions.specs.Actions.{members_formula, set_members, add_members}
use Rattle.conditions.specs.Actions as p
use Rattle.conditions.proofs.Tests.{AllTrue, Ends, at_place, plain, tests, ends_more_checks, ends_check, same_end}
use Rattle.conditions.proofs.PathTests.{Tested, tested_done, tested_check}
use Rattle.condition_meaning.proofs.Environments.{Environment, Has, Is, HeapIs, has_int, has_me}
use Rattle.action_conditions.proofs.Words.{Refer}
use Rattle.action_conditions.proofs.Places.{FitsRef}
use Rattle.action_conditions.proofs.Columns.{joined_raw, members_stored, put_own, wrapped_stored}
use Rattle.action_conditions.proofs.Alone.{Alone}
use Rattle.action_conditions.proofs.Objects.{Here, heap_alone, mutable_here, writable_here}

-- The set of an object with these members.
members_have : (l : Language) (t : Ref) (e : Environment l t) (o : Formula) (r : Ref) (os : List Formula) (qs : List Ref) (y : Formula) (z : RawHeap) → kit.Has l e.env y (HeapValue z) → Has l t e o (Refers r) → Refer l t e os qs → kit.Has l e.env (add_members o os y) (HeapValue (joined_raw z r qs))
members_have l t e o r [] [] y z hy ho k = hy
members_have l t e o r [] (q ∷ qs) y z hy ho k = absurd k
members_have l t e o r (w ∷ os) [] y z hy ho k = absurd k
members_have l t e o r (w ∷ os) (q ∷ qs) y z hy ho k = members_have l t e o r os qs (set owned_column y (o ∷ w ∷ []) (nat 1)) (store_at z (MemberAt q) r (Int (pos 1))) (set_has (w ∷ []) OwnedSets refl hy ho (one k.0) (has_int l t e (pos 1))) ho k.1

pub members_has : (l : Language) (t : Ref) (e : Environment l t) (y o : Formula) (h : Heap) (r : Ref) (os : List Formula) (qs : List Ref) → HeapIs l t e y h → Has l t e o (Refers r) → Refer l t e os qs → HeapIs l t e (set_members o os y) (put h r (record (h.get r) { owned = set_of qs }))
members_has l t e y o h r os qs hy ho k =
    subst (λ z. kit.Has l e.env (set_members o os y) (HeapValue z)) (sym (members_stored l.program h r qs)) (members_have l t e o r os qs (node kind.Clear (y ∷ o ∷ [])) (clear_set (raw l.program h) r) (node_has (more hy (one ho)) refl) ho k)

-- An object's invariant from one heap of the program to another; of no claim.
pub is_invariant : (l : Language) (t : Ref) (e : Environment l t) (faithful : IsFaithful l) (o f g : Formula) (r : Ref) (h k : Heap) → is_claim r ≡ false → IsHeapOf l.program h → IsHeapOf l.program k → Has l t e o (Refers r) → HeapIs l t e f h → HeapIs l t e g k → Is l t e (inv o f g) (inv_holds l.program r h k)
unfolding inv_holds
is_invariant l t e faithful o f g r h k no_claim proper proper' ho hf hg =
    node_has (more ho (more hf (one hg))) (record {
      is_bool = refl;
      yes = λ i. inv_says e.is_env faithful r h k (raw l.program h) (raw l.program k) (shows h proper) (shows k proper') i;
      holds = λ i. by (is_claim r) no_claim i;
    })
  where
    shows : (h : Heap) → IsHeapOf l.program h → Shows l.program h (raw l.program h)
    shows h proper = record { proper = proper; is = refl }

    says : (b : Bool) → b ≡ false → If b (ClaimSays l e.env.me r (raw l.program k)) (StructSays l e.env.me (invariant_of l r.ty) r (raw l.program h) (raw l.program k)) → StructSays l e.env.me (invariant_of l r.ty) r (raw l.program h) (raw l.program k)
    says true n i = absurd (cc)
    says false n i = i

    by : (b : Bool) → is_claim r ≡ false → InvHolds l e.env.me r (raw l.program h) (raw l.program k) → inv_holds l.program r h k ≡ true
    by b n i = ap (λ c. cond c (not (closed_in k r) || claim_holds l.program r k) (struct_holds l.program (struct_of l.program r.ty) (inv_scene r h k))) n ∙ (faithful.invariant e.env.me r h k (raw l.program h) (raw l.program k) e.is_env.me (shows h proper) (shows k proper')).1 (says (is_claim r) n i)

-- The owned set that wrap gives, as a heap term and a heap; and that each member may be closed.
abbrev pub set_term : Program → Spot → State → ℕ → Formula → Formula
set_term q a st ty o = if has_fixed_owns q ty then set_members o (p.mine_of q a st.heap o (struct_of q ty)) st.heap else st.heap

-- the heap with the fixed owned set, if the type has one
abbrev pub set_heap : Program → MachineSpot → Heap → ℕ → Ref → Heap
set_heap q at_ h ty r = put h r (record (h.get r) { owned = m.wrapped_set q at_ ty h r })

-- each member is wrapped and may be written
abbrev pub members_ok : Program → MachineSpot → Heap → ℕ → Ref → Bool
members_ok q at_ h ty r = every (λ q. wrapped at_.context.me h q && may_write at_ q) (m.wrapped_set q at_ ty h r)

module _ (l : Language) (typed : WellTyped l.program) (t : Ref) (f : FunctionInfo) (a : Spot) (at_ : MachineSpot) (mine : at_.context.me ≡ t) (thread : is_thread at_.context.me ≡ true) (out : at_.inside ≡ false) (hid : ℕ → Bool) (st : State) (g : Progress) (env : Env l.program f g.heap g.locals) (faithful : IsFaithful l) where
  abbrev P : Program
  P = l.program

  abbrev HereIn : Environment l t → Type 0
  HereIn = Here l typed t f a at_ mine thread out hid st g env

  -- the heap after the object is wrapped
  abbrev pub closed_heap : ℕ → Ref → Heap
  closed_heap ty r = hand_over (put g.heap r (record (g.heap.get r) { mode = Closed; owned = m.wrapped_set P at_ ty g.heap r })) (m.wrapped_set P at_ ty g.heap r) r

  -- Given: what the invariants name for a type with a fixed set stands for what they name, and the quantified formula says that each member is wrapped and writable.
  module _ (ty q : ℕ)
      (mine_told : has_fixed_owns P ty ≡ true → (e : Environment l t) → HereIn e → (o : Formula) (r : Ref) → Has l t e o (Refers r) → Refer l t e (p.mine_of P a st.heap o (struct_of P ty)) (m.mine_of P at_ g.heap r (struct_of P ty)))
      (members_told : (e : Environment l t) → HereIn e → (o : Formula) (r : Ref) → is_reference r ≡ true → Has l t e o (Refers r) → HeapIs l t e (set_term P a st ty o) (set_heap P at_ g.heap ty r) → Is l t e (members_formula P a (has_fixed_owns P ty) q (set_term P a st ty o) o st.heap) (members_ok P at_ g.heap ty r))
    where
      set_has_members : (e : Environment l t) → HereIn e → (o : Formula) (r : Ref) → Has l t e o (Refers r) → HeapIs l t e (set_term P a st ty o) (set_heap P at_ g.heap ty r)
      set_has_members e s o r ho = by (has_fixed_owns P ty) refl
        where
          by : (b : Bool) → has_fixed_owns P ty ≡ b → HeapIs l t e (if b then set_members o (p.mine_of P a st.heap o (struct_of P ty)) st.heap else st.heap) (put g.heap r (record (g.heap.get r) { owned = cond b (set_of (m.mine_of P at_ g.heap r (struct_of P ty))) (g.heap.get r).owned }))
          by true is = members_has l t e st.heap o g.heap r (p.mine_of P a st.heap o (struct_of P ty)) (m.mine_of P at_ g.heap r (struct_of P ty)) s.heap ho (mine_told is e s o r ho)
          by false is = subst (λ z. kit.Has l e.env st.heap (HeapValue z)) (sym (put_own P g.heap r)) s.heap

      closes : (e : Environment l t) → HereIn e → (o : Formula) (r : Ref) → Has l t e o (Refers r) → HeapIs l t e (node kind.Close (set_term P a st ty o ∷ o ∷ me ∷ [])) (closed_heap ty r)
      closes e s o r ho =
          subst (λ z. kit.Has l e.env (node kind.Close (set_term P a st ty o ∷ o ∷ me ∷ [])) (HeapValue z)) (sym (wrapped_stored P g.heap r (m.wrapped_set P at_ ty g.heap r))) (node_has (more (set_has_members e s o r ho) (more ho (one (has_me l t e)))) refl)

      closed_proper : (r : Ref) → is_claim r ≡ false → mutable at_.context.me g.heap r ≡ true → members_ok P at_ g.heap ty r ≡ true → IsHeapOf P (closed_heap ty r)
      closed_proper r no_claim may ok =
          (wrap_well_formed P typed f at_ thread g env r (m.wrapped_set P at_ ty g.heap r) no_claim may (set_is_ordered P typed f at_ thread g env ty r)
          (λ q j. (and_both (wrapped at_.context.me g.heap q) (may_write at_ q) (every_in (λ q. wrapped at_.context.me g.heap q && may_write at_ q) (m.wrapped_set P at_ ty g.heap r) q ok j)).0)).heap_of

      -- the tests of a wrap
      abbrev pub wrap_tests : Ref → List Bool
      wrap_tests r = mutable at_.context.me g.heap r ∷ may_write at_ r ∷ members_ok P at_ g.heap ty r ∷ inv_holds P r g.heap (closed_heap ty r) ∷ []

      pub wrap_ends : (r : Ref) (n : ℕ) → Ends (wrap_tests r) n (m.heap_of g (closed_heap ty r)) (m.wrap_object P at_ ty r n g)
      wrap_ends r n =
          let done = MachineGives (m.heap_of g (closed_heap ty r)) in
          let third = check_spec at_ (inv_test P r g.heap (closed_heap ty r)) (n + 3) Invariant done in
          let asked : MachineTested = record { overflow = m.set_overflow P at_ ty g.heap r; holds = members_ok P at_ g.heap ty r } in
          let second = check_spec at_ asked (n + 2) Wrap third in
          ends_more_checks at_ (mutable at_.context.me g.heap r) (may_write at_ r ∷ members_ok P at_ g.heap ty r ∷ inv_holds P r g.heap (closed_heap ty r) ∷ []) n Wrap (m.heap_of g (closed_heap ty r)) (check at_ (may_write at_ r) (n + 1) Writes second)
          (ends_more_checks at_ (may_write at_ r) (members_ok P at_ g.heap ty r ∷ inv_holds P r g.heap (closed_heap ty r) ∷ []) (n + 1) Writes (m.heap_of g (closed_heap ty r)) second
          (at_place (members_ok P at_ g.heap ty r ∷ inv_holds P r g.heap (closed_heap ty r) ∷ []) (n + 2) (n + 1 + 1) (m.heap_of g (closed_heap ty r)) second (omega arith)
          (same_end (members_ok P at_ g.heap ty r ∷ inv_holds P r g.heap (closed_heap ty r) ∷ []) (n + 2) (m.heap_of g (closed_heap ty r)) second (check at_ (members_ok P at_ g.heap ty r) (n + 2) Wrap third) refl
          (ends_more_checks at_ (members_ok P at_ g.heap ty r) (inv_holds P r g.heap (closed_heap ty r) ∷ []) (n + 2) Wrap (m.heap_of g (closed_heap ty r)) third
          (at_place (inv_holds P r g.heap (closed_heap ty r) ∷ []) (n + 3) (n + 2 + 1) (m.heap_of g (closed_heap ty r)) third (omega arith)
          (same_end (inv_holds P r g.heap (closed_heap ty r) ∷ []) (n + 3) (m.heap_of g (closed_heap ty r)) third (check at_ (inv_holds P r g.heap (closed_heap ty r)) (n + 3) Invariant done) refl
          (ends_check at_ (inv_holds P r g.heap (closed_heap ty r)) (n + 3) Invariant (m.heap_of g (closed_heap ty r)))))))))

      pub wrap_told : (e : Environment l t) → HereIn e → (o : Formula) (r : Ref) → Has l t e o (Refers r) → is_claim r ≡ false → is_reference r ≡ true → Tested (Is l t e) (p.wrap_object P a ty q o st).path (wrap_tests r) × HeapIs l t e (p.wrap_object P a ty q o st).gives.heap (closed_heap ty r)
      wrap_told e s o r ho none named = (
        tested_check (Is l t e) (code.mutable st o) (mutable at_.context.me g.heap r) _ (may_write at_ r ∷ members_ok P at_ g.heap ty r ∷ inv_holds P r g.heap (closed_heap ty r) ∷ []) tt (mutable_here l typed t f a at_ mine thread out hid st g env e s o r ho) (λ b.
            tested_check (Is l t e) (code.writable P a o) (may_write at_ r) _ (members_ok P at_ g.heap ty r ∷ inv_holds P r g.heap (closed_heap ty r) ∷ []) tt (writable_here l typed t f a at_ mine thread out hid st g env e s o r ho) (λ c.
            tested_check (Is l t e) (members_formula P a (has_fixed_owns P ty) q (set_term P a st ty o) o st.heap) (members_ok P at_ g.heap ty r) _ (inv_holds P r g.heap (closed_heap ty r) ∷ []) tt (members_told e s o r named ho (set_has_members e s o r ho)) (λ d.
            tested_check (Is l t e) (inv o st.heap (node kind.Close (set_term P a st ty o ∷ o ∷ me ∷ []))) (inv_holds P r g.heap (closed_heap ty r)) Done [] tt
            (is_invariant l t e faithful o st.heap (node kind.Close (set_term P a st ty o ∷ o ∷ me ∷ [])) r g.heap (closed_heap ty r) none env.heap.heap_of (closed_proper r none b d) ho s.heap (closes e s o r ho))
            (λ z. tested_done (Is l t e))))),
        closes e s o r ho,
      )

      -- wrap, of an object that is no claim where the expression's checks pass
      pub wrap_alone : (y : Expr) → FitsRef P f hid y → (AllTrue (tests P at_ g.heap g.locals y) → (is_claim (referent (plain P at_ g.heap g.locals y)) ≡ false) × (is_reference (referent (plain P at_ g.heap g.locals y)) ≡ true)) → (n : ℕ) → Alone l t a at_ hid hid n (x.after (eval P at_ g.heap g.locals y n) (λ v. m.wrap_object P at_ ty (referent v) (n + checks y) g)) st g.heap g.locals (after (code P a st y) (λ v. p.wrap_object P a ty q (term v) st))
      wrap_alone y fits no_claim n =
          heap_alone l typed t f a at_ mine thread out hid st g env y fits n (λ o n. m.wrap_object P at_ ty o n g) (λ o. p.wrap_object P a ty q o st) wrap_tests (closed_heap ty) wrap_ends
          (λ o. refl) (λ o. refl) (λ o. tt) (λ e s passes o r is was ho. let z = wrap_told e s o r ho (ap is_claim was ∙ (no_claim passes).0) (ap is_reference was ∙ (no_claim passes).1) in (z.0, λ b. z.1))
