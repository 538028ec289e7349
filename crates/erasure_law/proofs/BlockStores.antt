-- Concrete stores inside atomic blocks, Interlocked calls among them.
use Rattle.std.proofs.Common.{◌≡◌, ℕ, ◌+◌, ◌==◌, Bool, true, false, cond, not, ◌&&◌, ◌||◌, List, [], ◌∷◌, Some, slice_get, slice_set, ◌⊎◌, inl, inr, ⊎_elim, refl, sym, ap, ◌∙◌, subst}
use Rattle.std.specs.Prelude.{if◌then◌else◌}
use Rattle.object_types.specs.declared.references.Ref.{Ref}
use Rattle.object_types.specs.declared.values.Value.{Value}
use Rattle.method.specs.declared.program.CheckKind.TheVariants.{Range, Read, Write, Writes}
use Rattle.method.specs.declared.program.DeclaredType.{DeclaredType}
use Rattle.method.specs.declared.program.Expr.{Expr}
use Rattle.method.specs.declared.program.Target.{Target}
use Rattle.method.specs.declared.program.Target.TheVariants.{Local, FieldOf}
use Rattle.method.specs.declared.program.Operation.{Operation}
use Rattle.method.specs.declared.program.Operation.TheVariants.{CompareExchange, Exchange as Swap, Increment, Decrement}
use Rattle.method.specs.declared.program.InterlockedResult.{InterlockedResult}
use Rattle.method.specs.declared.program.InterlockedResult.TheVariants.{Plainly, Compared}
use Rattle.method.specs.declared.program.RightSide.TheVariants.{Compute, Interlocked}
use Rattle.method.specs.declared.program.FieldInfo.{FieldInfo}
use Rattle.method.specs.declared.program.FunctionInfo.{FunctionInfo}
use Rattle.method.specs.declared.program.Program.{Program}
use Rattle.object_types.specs.References.{is_null, is_claim, is_thread}
use Rattle.object_types.specs.Sets.{every, is_in}
use Rattle.object_types.specs.Values.{referent, says, same_value}
use Rattle.object_types.specs.Heap.{Heap, put, write, mutable}
use Rattle.method.specs.Tables.{local, in_type, is_struct, is_volatile, is_approved, read, type_of_field}
use Rattle.method.specs.WellFormed.{WellFormed}
use Rattle.method.specs.Typing.{values, declared, point_to, WellTyped, is_test, operands_fit}
use Rattle.method.specs.Expressions.{Outcome, Gives, after, Context, Spot, check, checks, all_checks, eval, eval_all, is_listed, may_write, readable}
use Rattle.method.specs.Actions.{Place, InLocal, InField, Progress, Valued, Tally, heap_of, store, left_side, right_side, exchange, afterwards, replaced, given, counts, operands, operation_checks, conversion_checks, convert_to, inner_spot, may_count}
use Rattle.method.proofs.Global.{and_both}
use Rattle.machine_laws.proofs.Outcomes.{OnGave, end_map, after_gave, check_gave}
use Rattle.machine_laws.proofs.Steps.{Fine, fine_same, ListedClosed, still_listed}
use Rattle.machine_laws.proofs.Simple.{test_some, operands_gave, exchange_gave}
use Rattle.machine_laws.proofs.Typed.{Env, is_of, eval_of, null_is, struct_type, pointer_at, or_cases}
use Rattle.plain_machine.specs.PlainCode.{PlainRight, Worth, Exchange, is_ghost_field}
use Rattle.plain_machine.specs.PlainSteps.{Comes, Yields, next, plain_check, alive, PlainProgress, PlainValued, plain_convert_to, plain_eval, plain_eval_all, plain_place, plain_store, plain_exchange, plain_afterwards, plain_right}
use Rattle.plain_machine.specs.Erasure.{concrete_locals, plain_heap}
use Rattle.plain_machine.specs.GhostApart.{GhostApart, concrete}
use Rattle.erasure_law.proofs.Exprs.{ReadsAlive, is_alive, mutable_alive, closed_is_alive, listed_alive, end_both, eval_plain, struct_alive, struct_read}
use Rattle.erasure_law.proofs.Heaps.{concrete_write}
use Rattle.erasure_law.proofs.ValueKinds.{NullOrStruct, value_kind, kind_struct, alive_struct}
use Rattle.erasure_law.proofs.StoreTurns.{TypedExpr, Placed, Targeted, concrete_set}
use Rattle.erasure_law.proofs.ReturnTurns.{convert_is}

-- NULL and structs are no claims
no_claim_of : (p : Program) (o : Ref) → NullOrStruct p o → is_claim o ≡ false
no_claim_of p o (inl e) = ap is_claim (null_is o e)
no_claim_of p o (inr e) = (struct_type p o.ty e).2

-- the heap behind a concrete store
write_heap : (p : Program) (h : Heap) (o : Ref) (f : ℕ) (v : Value) → is_struct p o.ty ≡ true → is_ghost_field p f ≡ false → write (plain_heap p h) o f v ≡ plain_heap p (write h o f v)
unfolding put
write_heap p h o f v s c = λ i. record { get = (λ q. sym (concrete_write p h o f v s c q) i); support = o ∷ h.support }

abbrev OperandsIn : Operation → DeclaredType → List Value → Type 0
OperandsIn (CompareExchange new old) ty vs = in_type ty (local vs 0) ≡ true
OperandsIn (Swap new) ty vs = in_type ty (local vs 0) ≡ true
OperandsIn Increment ty vs = Unit {0}
OperandsIn Decrement ty vs = Unit {0}

module _ (p : Program) (typed : WellTyped p) (apart : GhostApart p) (k : ℕ) (f : FunctionInfo) (is : slice_get p.functions.items k ≡ Some f) (x : Context) (thread : is_thread x.me ≡ true) (os : List Ref) (line : ℕ) where
  abbrev at_ : Spot
  at_ = inner_spot p x os line

  abbrev Lists : Heap → Type 0
  Lists h = ListedClosed (λ o. is_in o os) h

  abbrev cl : List Value → List Value
  cl l = concrete_locals f.variables.items l

  alive_in : (h : Heap) → WellFormed p h → Lists h → ReadsAlive p at_ h
  alive_in h wf lists = listed_alive p at_ h wf (λ o n e. lists o e n)

  abbrev ValueIs : (h : Heap) (l : List Value) (e : Expr) → TypedExpr p f e → Value → Type 0
  ValueIs h l e t v = (is_of p t.which v ≡ true) × (plain_eval p line (plain_heap p h) (cl l) e ≡ Yields v)

  value_in : (h : Heap) (l : List Value) → Env p f h l → Lists h → (e : Expr) (t : TypedExpr p f e) (n : ℕ) → OnGave (eval p at_ h l e n) (ValueIs h l e t)
  value_in h l env lists e t n =
      end_both (eval p at_ h l e n) (λ v. is_of p t.which v ≡ true) (λ v. plain_eval p line (plain_heap p h) (cl l) e ≡ Yields v) (eval_of p typed f at_ h l env e t.which t.has n)
      (eval_plain p typed f at_ line h l env (alive_in h env.heap lists) e t.which t.has t.plain n)

  refers_to : (e : Expr) (t : TypedExpr p f e) (v : Value) → is_of p t.which v ≡ true → NullOrStruct p (referent v)
  refers_to e t v i = kind_struct p t.which v (value_kind p apart k f is e t.which t.has t.plain) i

  values_in : (h : Heap) (l : List Value) → Env p f h l → Lists h → (es : List Expr) (n : ℕ) → every (is_test p f) es ≡ true → every (concrete p f) es ≡ true → OnGave (eval_all p at_ h l es n) (λ vs. plain_eval_all p line (plain_heap p h) (cl l) es ≡ Yields vs)
  values_in h l env lists [] n t c = refl
  values_in h l env lists (e ∷ es) n t c =
      let ts = and_both (is_test p f e) (every (is_test p f) es) t in
      let cs = and_both (concrete p f e) (every (concrete p f) es) c in
      let u = test_some p f (values p f e) (λ v. true) ts.0 in
      let te : TypedExpr p f e = record { which = u.0; has = u.1; plain = cs.0 } in
      let more : Value → Outcome (List Value) = λ v. after (eval_all p at_ h l es (n + checks e)) (λ vs. Gives (v ∷ vs)) in
      after_gave (eval p at_ h l e n) more (ValueIs h l e te) (λ vs. plain_eval_all p line (plain_heap p h) (cl l) (e ∷ es) ≡ Yields vs) (value_in h l env lists e te n) (λ v y.
      after_gave (eval_all p at_ h l es (n + checks e)) (λ vs. Gives (v ∷ vs)) (λ vs. plain_eval_all p line (plain_heap p h) (cl l) es ≡ Yields vs) (λ vs. plain_eval_all p line (plain_heap p h) (cl l) (e ∷ es) ≡ Yields vs) (values_in h l env lists es (n + checks e) ts.1 cs.1) (λ vs z.
      ap (λ (o : Comes Value). next o (λ w. next (plain_eval_all p line (plain_heap p h) (cl l) es) (λ ws. Yields (w ∷ ws)))) y.1 ∙ ap (λ (o : Comes (List Value)). next o (λ ws. Yields (v ∷ ws))) z))

  module _ (g : Progress) (env : Env p f g.heap g.locals) (lists : Lists g.heap) where
    abbrev kk : Heap
    kk = plain_heap p g.heap

    pub left_in : (t : Target) (n : ℕ) → Targeted p f t → OnGave (left_side p at_ t n g) (λ place. Placed p f place × (plain_place p line (plain_heap p g.heap) (cl g.locals) t ≡ Yields place))
    left_in (Local i) n k = (k, refl)
    left_in (FieldOf e q) n k =
        after_gave (eval p at_ g.heap g.locals e n) (λ v. Gives (InField (referent v) q)) (ValueIs g.heap g.locals e k.0) (λ place. Placed p f place × (plain_place p line kk (cl g.locals) (FieldOf e q) ≡ Yields place))
        (value_in g.heap g.locals env lists e k.0 n) (λ v i.
        ((k.1, refers_to e k.0 v i.0), ap (λ (o : Comes Value). next o (λ w. Yields (InField (referent w) q))) i.1))

    -- what may be written is alive
    writes_alive : (o : Ref) (q : ℕ) → is_claim o ≡ false → mutable x.me g.heap o || (is_listed at_ o && (is_volatile p q && (not (is_approved p q) || may_count at_ g.heap o))) ≡ true → is_alive g.heap o ≡ true
    writes_alive o q n e = ⊎_elim (mutable_alive x.me g.heap o)
        (λ z. closed_is_alive g.heap o (lists o (and_both (is_listed at_ o) (is_volatile p q && (not (is_approved p q) || may_count at_ g.heap o)) z).0 n))
        (or_cases (mutable x.me g.heap o) (is_listed at_ o && (is_volatile p q && (not (is_approved p q) || may_count at_ g.heap o))) e)

    pub record StoresIn (place : Place) (v : Value) (g' : Progress) : Type 0 where
      pub after_store : PlainProgress
      pub gives : plain_store p line place v (plain_heap p g.heap) (cl g.locals) ≡ Yields after_store
      pub heap : after_store.heap ≡ plain_heap p g'.heap
      pub locals : after_store.locals ≡ cl g'.locals
      pub started : g'.started ≡ g.started

    pub store_in : (place : Place) (v : Value) (n : ℕ) → Placed p f place → OnGave (store p at_ place v n g) (StoresIn place v)
    store_in (InLocal i) v n k = record {
      after_store = record { heap = kk; locals = slice_set (cl g.locals) i v };
      gives = refl;
      heap = refl;
      locals = concrete_set f.variables.items g.locals i v k;
      started = refl;
    }
    store_in (InField o q) v n k =
        let ok = mutable x.me g.heap o || (is_listed at_ o && (is_volatile p q && (not (is_approved p q) || may_count at_ g.heap o))) in
        let stored : Outcome Progress = Gives (heap_of g (write g.heap o q v)) in
        check_gave at_ ok n Write (check at_ (may_write at_ o || is_listed at_ o) (n + 1) Writes stored) (StoresIn (InField o q) v) (λ m.
        check_gave at_ (may_write at_ o || is_listed at_ o) (n + 1) Writes stored (StoresIn (InField o q) v) (λ w.
        let a = writes_alive o q (no_claim_of p o k.1) m in
        let s = alive_struct p g.heap env.heap o k.1 a in
        record {
          after_store = record { heap = write kk o q v; locals = cl g.locals };
          gives = ap (λ b. plain_check b Write line (Yields (record { heap = write kk o q v; locals = cl g.locals }))) (struct_alive p g.heap env.heap o s a);
          heap = write_heap p g.heap o q v s k.0;
          locals = refl;
          started = refl;
        }))

    -- an Interlocked call's exchange
    abbrev plain_exchanged : Operation → Ref → ℕ → List Value → Value → Bool → Bool → Comes PlainValued
    plain_exchanged op o q vs was reads writes =
        plain_check reads Read line (plain_check (not (counts op) || in_type (type_of_field p q) (replaced op vs was)) Range line (plain_check writes Write line (Yields (record { value = given op was (replaced op vs was); heap = write kk o q (replaced op vs was) }))))

    pub record Swaps (op : Operation) (o : Ref) (q : ℕ) (vs : List Value) (v : Valued) : Type 0 where
      pub gives : plain_exchange p line op o q vs (plain_heap p g.heap) ≡ Yields (record { value = v.value; heap = plain_heap p v.starting.heap })
      pub locals : v.starting.locals ≡ g.locals
      pub started : v.starting.started ≡ g.started

    exchange_in : (op : Operation) (o : Ref) (q : ℕ) (vs : List Value) (n : ℕ) → NullOrStruct p o → is_ghost_field p q ≡ false → OnGave (exchange p at_ op o q vs n g) (Swaps op o q vs)
    exchange_in op o q vs n null c =
        let was = read p g.heap o q in
        let now = replaced op vs was in
        let m = cond (counts op) (n + 2) (n + 1) in
        let nc = no_claim_of p o null in
        let ok = mutable x.me g.heap o || (is_listed at_ o && (is_volatile p q && (not (is_approved p q) || may_count at_ g.heap o))) in
        let gives : Progress → Outcome Valued = λ g'. Gives (record { value = given op was now; starting = g' }) in
        let last : Outcome Valued = after (store p at_ (InField o q) now m g) gives in
        check_gave at_ (readable p at_ g.heap o q) n Read (check at_ (not (counts op) || in_type (type_of_field p q) now) (n + 1) Range last) (Swaps op o q vs) (λ r.
        check_gave at_ (not (counts op) || in_type (type_of_field p q) now) (n + 1) Range last (Swaps op o q vs) (λ e.
        let a = alive_in g.heap env.heap lists o q nc r in
        let s = alive_struct p g.heap env.heap o null a in
        let al = struct_alive p g.heap env.heap o s a in
        after_gave (store p at_ (InField o q) now m g) gives (λ g'. g' ≡ heap_of g (write g.heap o q now)) (Swaps op o q vs)
        (check_gave at_ ok m Write (check at_ (may_write at_ o || is_listed at_ o) (m + 1) Writes (Gives (heap_of g (write g.heap o q now)))) (λ g'. g' ≡ heap_of g (write g.heap o q now)) (λ w.
        check_gave at_ (may_write at_ o || is_listed at_ o) (m + 1) Writes (Gives (heap_of g (write g.heap o q now))) (λ g'. g' ≡ heap_of g (write g.heap o q now)) (λ w2. refl)))
        (λ g' y.
        record {
          gives =
              ap (λ w. plain_exchanged op o q vs w (alive kk o) (alive kk o)) (struct_read p g.heap env.heap o q s (ap not c)) ∙
              ap (λ b. plain_exchanged op o q vs was b b) al ∙
              ap (λ b. plain_check b Range line (Yields (record { value = given op was now; heap = write kk o q now }))) e ∙
              ap (λ h. Yields (record { value = given op was now; heap = h })) (write_heap p g.heap o q now s c) ∙
              sym (ap (λ (z : Progress). Yields (record { value = given op was now; heap = plain_heap p z.heap })) y);
          locals = ap (λ (z : Progress). z.locals) y;
          started = ap (λ (z : Progress). z.started) y;
        })))

    operands_in : (op : Operation) (ty : DeclaredType) (n : ℕ) → operands_fit p f op ty ≡ true → OnGave (eval_all p at_ g.heap g.locals (operands op) n) (OperandsIn op ty)
    operands_in (CompareExchange new old) ty n h = operands_gave p typed f at_ thread g env (CompareExchange new old) ty n h
    operands_in (Swap new) ty n h = operands_gave p typed f at_ thread g env (Swap new) ty n h
    operands_in Increment ty n h = operands_gave p typed f at_ thread g env Increment ty n h
    operands_in Decrement ty n h = operands_gave p typed f at_ thread g env Decrement ty n h

    abbrev FineSwap : FieldInfo → Valued → Type 0
    FineSwap i v = (is_of p (declared i.ty) v.value ≡ true) × Fine p f x (is_listed at_) g v.starting

    swap_fine : (op : Operation) (o : Ref) (q : ℕ) (i : FieldInfo) (vs : List Value) (n : ℕ) → slice_get p.fields.items q ≡ Some i → (is_null o ≡ true) ⊎ (o.ty == i.of ≡ true) → OperandsIn op i.ty vs → OnGave (exchange p at_ op o q vs n g) (FineSwap i)
    swap_fine (CompareExchange new old) o q i vs n e u ok = exchange_gave p typed f at_ thread g env lists (CompareExchange new old) o q i vs n e u ok
    swap_fine (Swap new) o q i vs n e u ok = exchange_gave p typed f at_ thread g env lists (Swap new) o q i vs n e u ok
    swap_fine Increment o q i vs n e u ok = exchange_gave p typed f at_ thread g env lists Increment o q i vs n e u ok
    swap_fine Decrement o q i vs n e u ok = exchange_gave p typed f at_ thread g env lists Decrement o q i vs n e u ok

  -- what is made of what an Interlocked call gives
  abbrev AfterIs : InterlockedResult → Valued → Valued → Type 0
  AfterIs then' v w = (plain_afterwards p line then' (cl v.starting.locals) (record { value = v.value; heap = plain_heap p v.starting.heap }) ≡ Yields (record { value = w.value; heap = plain_heap p v.starting.heap })) × (w.starting ≡ v.starting)

  abbrev pub ResultTyped : InterlockedResult → Type 0
  ResultTyped (Plainly c) = Unit {0}
  ResultTyped (Compared c equal e d) = TypedExpr p f e

  afterwards_in : (then' : InterlockedResult) (n : ℕ) (v : Valued) → Env p f v.starting.heap v.starting.locals → Lists v.starting.heap → ResultTyped then' → OnGave (afterwards p at_ then' n v) (AfterIs then' v)
  afterwards_in (Plainly c) n v env lists t =
      let pv : PlainValued = record { value = v.value; heap = plain_heap p v.starting.heap } in
      after_gave (convert_to at_ c v.value n) (λ w. Gives (record v { value = w })) (λ w. plain_convert_to line c v.value ≡ Yields w) (AfterIs (Plainly c) v) (convert_is at_ line c v.value n) (λ w y.
      (ap (λ (o : Comes Value). next o (λ u. Yields (record pv { value = u }))) y, refl))
  afterwards_in (Compared c equal e d) n v env lists t =
      let pv : PlainValued = record { value = v.value; heap = plain_heap p v.starting.heap } in
      let j = plain_heap p v.starting.heap in
      let l = cl v.starting.locals in
      let tests : Value → Value → Value = λ a b. says (if equal then same_value a b else not (same_value a b)) in
      let ends : Value → Value → Outcome Valued = λ a b. after (convert_to at_ d (tests a b) (n + conversion_checks c + checks e)) (λ w. Gives (record v { value = w })) in
      let evals : Value → Outcome Valued = λ a. after (eval p at_ v.starting.heap v.starting.locals e (n + conversion_checks c)) (ends a) in
      let plain_ends : Value → Value → Comes PlainValued = λ a b. next (plain_convert_to line d (tests a b)) (λ u. Yields (record pv { value = u })) in
      let Q = AfterIs (Compared c equal e d) v in
      after_gave (convert_to at_ c v.value n) evals (λ a. plain_convert_to line c v.value ≡ Yields a) Q (convert_is at_ line c v.value n) (λ a x.
      after_gave (eval p at_ v.starting.heap v.starting.locals e (n + conversion_checks c)) (ends a) (ValueIs v.starting.heap v.starting.locals e t) Q (value_in v.starting.heap v.starting.locals env lists e t (n + conversion_checks c)) (λ b y.
      after_gave (convert_to at_ d (tests a b) (n + conversion_checks c + checks e)) (λ w. Gives (record v { value = w })) (λ w. plain_convert_to line d (tests a b) ≡ Yields w) Q (convert_is at_ line d (tests a b) (n + conversion_checks c + checks e)) (λ w z. (
        ap (λ (o : Comes Value). next o (λ a. next (plain_eval p line j l e) (plain_ends a))) x ∙
            ap (λ (o : Comes Value). next o (plain_ends a)) y.1 ∙
            ap (λ (o : Comes Value). next o (λ u. Yields (record pv { value = u }))) z,
        refl,
      ))))

  module _ (g : Progress) (env : Env p f g.heap g.locals) (lists : Lists g.heap) where
    -- a right side's value
    pub record Worths (r : PlainRight) (v : Valued) : Type 0 where
      pub gives : plain_right p line r [] (plain_heap p g.heap) (cl g.locals) ≡ Yields (record { value = v.value; heap = plain_heap p v.starting.heap })
      pub fine : Fine p f x (is_listed at_) g v.starting
      pub locals : v.starting.locals ≡ g.locals
      pub started : v.starting.started ≡ g.started

    pub computes_in : (e : Expr) (t : TypedExpr p f e) (place : Place) (n : ℕ) (tally : Tally) → OnGave (right_side p at_ (Compute e) place n tally g) (Worths (Worth e))
    computes_in e t place n tally =
        after_gave (eval p at_ g.heap g.locals e n) (λ v. Gives (record { value = v; starting = g })) (ValueIs g.heap g.locals e t) (Worths (Worth e)) (value_in g.heap g.locals env lists e t n) (λ v y.
        record { gives = ap (λ (o : Comes Value). next o (λ u. Yields (record { value = u; heap = plain_heap p g.heap }))) y.1; fine = fine_same p f x (is_listed at_) g env; locals = refl; started = refl })

    -- what the typing says of an Interlocked call
    pub record TypedSwap (e : Expr) (q : ℕ) (op : Operation) (then' : InterlockedResult) : Type 0 where
      pub info : FieldInfo
      pub field : slice_get p.fields.items q ≡ Some info
      pub object : TypedExpr p f e
      pub points : point_to (λ n. n == info.of) object.which ≡ true
      pub operands_typed : operands_fit p f op info.ty ≡ true
      pub tests : every (is_test p f) (operands op) ≡ true
      pub concretes : every (concrete p f) (operands op) ≡ true
      pub result : ResultTyped then'
      pub plain : is_ghost_field p q ≡ false

    pub swaps_in : (e : Expr) (q : ℕ) (op : Operation) (then' : InterlockedResult) → TypedSwap e q op then' → (place : Place) (n : ℕ) (tally : Tally) → OnGave (right_side p at_ (Interlocked e q op then') place n tally g) (Worths (Exchange e q op then'))
    swaps_in e q op then' t place n tally =
        let j = plain_heap p g.heap in
        let l = cl g.locals in
        let m = n + checks e + all_checks (operands op) in
        let w = n + checks e + operation_checks op in
        let Q = Worths (Exchange e q op then') in
        let swaps : Value → List Value → Outcome Valued = λ o vs. after (exchange p at_ op (referent o) q vs m g) (λ v. afterwards p at_ then' w v) in
        let passes : Value → Outcome Valued = λ o. after (eval_all p at_ g.heap g.locals (operands op) (n + checks e)) (swaps o) in
        after_gave (eval p at_ g.heap g.locals e n) passes (ValueIs g.heap g.locals e t.object) Q (value_in g.heap g.locals env lists e t.object n) (λ o ox.
        after_gave (eval_all p at_ g.heap g.locals (operands op) (n + checks e)) (swaps o) (λ vs. (plain_eval_all p line j l (operands op) ≡ Yields vs) × OperandsIn op t.info.ty vs) Q
        (end_both (eval_all p at_ g.heap g.locals (operands op) (n + checks e)) (λ vs. plain_eval_all p line j l (operands op) ≡ Yields vs) (OperandsIn op t.info.ty) (values_in g.heap g.locals env lists (operands op) (n + checks e) t.tests t.concretes) (operands_in g env lists op t.info.ty (n + checks e) t.operands_typed)) (λ vs y.
        after_gave (exchange p at_ op (referent o) q vs m g) (λ v. afterwards p at_ then' w v) (λ v. Swaps g env lists op (referent o) q vs v × FineSwap g env lists t.info v) Q
        (end_both (exchange p at_ op (referent o) q vs m g) (Swaps g env lists op (referent o) q vs) (FineSwap g env lists t.info) (exchange_in g env lists op (referent o) q vs m (refers_to e t.object o ox.0) t.plain) (swap_fine g env lists op (referent o) q t.info vs m t.field (pointer_at p (λ k. k == t.info.of) t.object.which o t.points ox.0) y.1)) (λ v z.
        end_map (afterwards p at_ then' w v).end (AfterIs then' v) Q (λ u b. record {
          gives =
              ap (λ (c : Comes Value). next c (λ o. next (plain_eval_all p line j l (operands op)) (λ vs. next (plain_exchange p line op (referent o) q vs j) (plain_afterwards p line then' l)))) ox.1 ∙
              ap (λ (c : Comes (List Value)). next c (λ vs. next (plain_exchange p line op (referent o) q vs j) (plain_afterwards p line then' l))) y.0 ∙
              ap (λ (c : Comes PlainValued). next c (plain_afterwards p line then' l)) z.0.gives ∙
              sym (ap (λ ls. plain_afterwards p line then' (cl ls) (record { value = v.value; heap = plain_heap p v.starting.heap })) z.0.locals) ∙
              b.0 ∙ sym (ap (λ (s : Progress). Yields (record { value = u.value; heap = plain_heap p s.heap })) b.1);
          fine = subst (Fine p f x (is_listed at_) g) (sym b.1) z.1.1;
          locals = ap (λ (s : Progress). s.locals) b.1 ∙ z.0.locals;
          started = ap (λ (s : Progress). s.started) b.1 ∙ z.0.started;
        }) (afterwards_in then' w v z.1.1.ready (still_listed p f x (is_listed at_) g v.starting z.1.1 lists) t.result))))
