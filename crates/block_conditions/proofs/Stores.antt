-- Stores beside their paths, and Interlocked operations.
use Rattle.std.proofs.Common.{◌≡◌, ℕ, ◌+◌, Bool, true, false, not, ◌&&◌, ◌||◌, if◌then◌else◌, List, [], ◌∷◌, Some, slice_get, slice_set, refl, ap, sym, ◌∙◌, subst, arith}
use Rattle.std.specs.Prelude.{ℤ, pos, negsuc, ◌+ℤ◌, ◌-ℤ◌}
use Rattle.std.proofs.lemmas.Int.{ints}
use Rattle.std.proofs.lemmas.List.{length-set}
use Rattle.object_types.specs.declared.references.Ref.{Ref}
use Rattle.object_types.specs.declared.values.Value.{Value}
use Rattle.object_types.specs.declared.values.Value.TheVariants.{Int, Ref as Refers}
use Rattle.object_types.specs.Values.{int, same_value}
use Rattle.object_types.specs.Heap.{write, mutable}
use Rattle.method.specs.declared.program.CheckKind.TheVariants.{Range, Read, Write, Writes}
use Rattle.method.specs.declared.program.DeclaredType.{DeclaredType}
use Rattle.method.specs.declared.program.DeclaredType.TheVariants.{Integer, Pointer, Object, Claim}
use Rattle.method.specs.declared.program.FieldInfo.{FieldInfo}
use Rattle.method.specs.declared.program.FunctionInfo.{FunctionInfo}
use Rattle.method.specs.declared.program.Operation.{Operation}
use Rattle.method.specs.declared.program.Operation.TheVariants.{CompareExchange, Exchange, Increment, Decrement}
use Rattle.method.specs.declared.program.Operator.TheVariants as op
use Rattle.method.specs.declared.program.Program.{Program}
use Rattle.method.specs.Tables.{in_type, read, type_of_field, sort_of_type, field_type, is_volatile, is_approved}
use Rattle.method.specs.WellFormed.{has_sort}
use Rattle.method.specs.Expressions as m
use Rattle.method.specs.Expressions.{Spot as MachineSpot, Gave, is_listed, may_write, readable, eval, checks}
use Rattle.method.specs.Typing.{declared, are_ints, fits}
use Rattle.method.specs.Actions as M
use Rattle.method.specs.Actions.{Progress, may_count, operands, counts, conversion_checks}
use Rattle.machine_laws.proofs.Typed.{Env}
use Rattle.terms.specs.Formula.{Formula}
use Rattle.conditions.specs.Formulas.{nat, any_of, all_of, get, field_column, eq}
use Rattle.conditions.specs.Symbolic.{Symbolic, Number, term, ranges}
use Rattle.conditions.specs.Paths.{Execution, Gives, after, check, check_each}
use Rattle.conditions.specs.Code.{Spot, State, ValueAndState, with_heap, code}
use Rattle.conditions.specs.Code as C
use Rattle.conditions.specs.Actions as walk
use Rattle.conditions.proofs.FromRuns.{Count, within_self}
use Rattle.condition_meaning.specs.Languages.{language_of}
use Rattle.condition_meaning.proofs.Environments.{Environment, Is, Has, is_eq, has_int, has_ite, has_compute, is_in_range}
use Rattle.action_conditions.proofs.Sorts.{is_number, int_of, read_sorted}
use Rattle.action_conditions.proofs.Words.{has_field}
use Rattle.action_conditions.proofs.Places.{Stands, env_sorts}
use Rattle.action_conditions.proofs.Expressions.{reads_field}
use Rattle.action_conditions.proofs.Variables.{shown_set, terms_many}
use Rattle.block_conditions.proofs.Beside.{Beside, beside_after, beside_gives, beside_check}
use Rattle.action_conditions.proofs.Updates.{set_field}
use Rattle.action_conditions.proofs.Permissions.{may_store_is, may_change_is}
use Rattle.block_conditions.proofs.Operands.{At, AllFit, HaveEach}

pub one_less : (z : ℤ) → z -ℤ pos 1 ≡ z +ℤ negsuc 0
one_less z = omega (arith, ints)

module _ (p : Program) (f : FunctionInfo) (at_ : MachineSpot) (a : Spot) (hid : ℕ → Bool) where
  abbrev E : Type 0
  E = Environment (language_of p) at_.context.me

  abbrev IsIn : E → Formula → Bool → Type 0
  IsIn = Is (language_of p) at_.context.me

  abbrev HasIn : E → Formula → Value → Type 0
  HasIn = Has (language_of p) at_.context.me

  abbrev StandsIn : E → Symbolic → Value → Type 0
  StandsIn = Stands (language_of p) at_.context.me

  abbrev Here : State → Progress → E → Type 0
  Here = At p f at_ a hid

  -- after a change that notes nothing for the block's end
  abbrev pub Quietly : State → Progress → Progress → E → Type 0
  Quietly u g g' e = Here u g' e × (g'.changed ≡ g.changed) × (g'.made ≡ g.made)

  module _ (st : State) (g : Progress) (env : Env p f g.heap g.locals) where
    -- A value stored in a field, and in a variable.

    pub stored_field : (e : E) → Here st g e → (o : Formula) (r : Ref) (x : ℕ) (i : FieldInfo) (w : Symbolic) (v : Value) → HasIn e o (Refers r) → slice_get p.fields.items x ≡ Some i → has_sort (sort_of_type (type_of_field p x)) v ≡ true → HasIn e (term w) v → Here (with_heap st (walk.stored_heap (walk.InField o x) w st.heap)) (M.heap_of g (write g.heap r x v)) e
    stored_field e k o r x i w v ho is sort hw = record { spot = k.spot; many = k.many; heap = set_field (language_of p) at_.context.me e st.heap g.heap o r k.heap ho x i (term w) v is sort hw; locals = k.locals }

    pub beside_field : (n : ℕ) (c : Count) (o : Formula) (r : Ref) (x : ℕ) (i : FieldInfo) (w : Symbolic) (v : Value) (Before : E → Type 0) → slice_get p.fields.items x ≡ Some i → ((e : E) → Before e → Here st g e × HasIn e o (Refers r) × HasIn e (term w) v × (has_sort (sort_of_type (type_of_field p x)) v ≡ true))
        → Beside (language_of p) at_.context.me n c c (walk.store p a (walk.InField o x) w st) (M.store p at_ (M.InField r x) v n g) Before (λ g' e. Quietly (walk.store p a (walk.InField o x) w st).gives g g' e)
    beside_field n c o r x i w v Before is known =
        let u : Execution State = Gives (with_heap st (walk.stored_heap (walk.InField o x) w st.heap)) in
        let last = m.Gives (M.heap_of g (write g.heap r x v)) in
        let After : Progress → E → Type 0 = λ g' e. Quietly (walk.store p a (walk.InField o x) w st).gives g g' e in
        beside_check (language_of p) at_.context.me at_ (mutable at_.context.me g.heap r || (is_listed at_ r && (is_volatile p x && (not (is_approved p x) || may_count at_ g.heap r)))) n (n + 1) c c Write (any_of (C.mutable st o ∷ walk.may_change p a o x st.heap))
        (check (any_of (C.writable p a o ∷ C.is_listed p a o)) u) (m.check at_ (may_write at_ r || is_listed at_ r) (n + 1) Writes last) Before After refl (within_self c) (λ e b. let k = known e b in may_store_is (language_of p) at_.context.me at_ refl a e k.0.spot st g.heap k.0.heap o r k.1 x) (λ y.
        beside_check (language_of p) at_.context.me at_ (may_write at_ r || is_listed at_ r) (n + 1) (n + 1 + 1) c c Writes (any_of (C.writable p a o ∷ C.is_listed p a o)) u last Before After refl (within_self c) (λ e b. let k = known e b in may_change_is (language_of p) at_.context.me at_ refl a e k.0.spot o r k.1) (λ z.
        beside_gives (language_of p) at_.context.me (n + 1 + 1) c (with_heap st (walk.stored_heap (walk.InField o x) w st.heap)) (M.heap_of g (write g.heap r x v)) Before After (λ e b. let k = known e b in (stored_field e k.0 o r x i w v k.1 is k.3 k.2, refl, refl))))

    pub stored_variable : (e : E) → Here st g e → (i : ℕ) (w : Symbolic) (v : Value) → StandsIn e w v → Here (record st { locals = slice_set st.locals i w }) (record g { locals = slice_set g.locals i v }) e
    stored_variable e k i w v hw = record {
      spot = k.spot;
      many = terms_many st.locals i w ∙ k.many ∙ sym (length-set g.locals i v);
      heap = k.heap;
      locals = shown_set (language_of p) at_.context.me e hid hid i st.locals w g.locals v (λ j apart h. h) k.many hw k.locals;
    }

    pub beside_variable : (n : ℕ) (c : Count) (i : ℕ) (w : Symbolic) (v : Value) (Before : E → Type 0) → ((e : E) → Before e → Here st g e × StandsIn e w v) → Beside (language_of p) at_.context.me n c c (walk.store p a (walk.InLocal i) w st) (M.store p at_ (M.InLocal i) v n g) Before (λ g' e. Quietly (walk.store p a (walk.InLocal i) w st).gives g g' e)
    beside_variable n c i w v Before known = beside_gives (language_of p) at_.context.me n c (record st { locals = slice_set st.locals i w }) (record g { locals = slice_set g.locals i v }) Before (λ g' e. Quietly (walk.store p a (walk.InLocal i) w st).gives g g' e) (λ e b. let k = known e b in (stored_variable e k.0 i w v k.1, refl, refl))

    -- Interlocked operations.

    -- the operands that are stored are integers
    abbrev pub OperandsInts : (op : Operation) → AllFit p f hid (operands op) → Type 0
    OperandsInts (CompareExchange new old) fits = are_ints fits.0.values_are ≡ true
    OperandsInts (Exchange new) fits = are_ints fits.0.values_are ≡ true
    OperandsInts Increment fits = Unit {0}
    OperandsInts Decrement fits = Unit {0}

    replaced_has : (e : E) (op : Operation) (fits : AllFit p f hid (operands op)) → OperandsInts op fits → (xs : List Formula) (vs : List Value) → HaveEach p f at_ a hid e (operands op) fits xs vs → (x : Formula) (was : Value) → HasIn e x was → is_number was ≡ true → HasIn e (walk.stored_value p a op xs x) (M.replaced op vs was) × (is_number (M.replaced op vs was) ≡ true)
    replaced_has e (CompareExchange new old) fits is [] [] k x was hx num = absurd k
    replaced_has e (CompareExchange new old) fits is [] (v ∷ vs) k x was hx num = absurd k
    replaced_has e (CompareExchange new old) fits is (y ∷ ys) [] k x was hx num = absurd k
    replaced_has e (CompareExchange new old) fits is (y ∷ []) (v ∷ []) k x was hx num = absurd k.2
    replaced_has e (CompareExchange new old) fits is (y ∷ []) (v ∷ w ∷ vs) k x was hx num = absurd k.2
    replaced_has e (CompareExchange new old) fits is (y ∷ z ∷ zs) (v ∷ []) k x was hx num = absurd k.2
    replaced_has e (CompareExchange new old) fits is (y ∷ z ∷ zs) (v ∷ w ∷ vs) k x was hx num =
        (has_ite (language_of p) at_.context.me e (eq x z) y x (same_value was w) v was (is_eq (language_of p) at_.context.me e x z was w hx k.2.0) k.0 hx, by (same_value was w))
      where
        by : (b : Bool) → is_number (if b then v else was) ≡ true
        by true = k.1 ∙ is
        by false = num
    replaced_has e (Exchange new) fits is [] [] k x was hx num = absurd k
    replaced_has e (Exchange new) fits is [] (v ∷ vs) k x was hx num = absurd k
    replaced_has e (Exchange new) fits is (y ∷ ys) [] k x was hx num = absurd k
    replaced_has e (Exchange new) fits is (y ∷ ys) (v ∷ vs) k x was hx num = (k.0, k.1 ∙ is)
    replaced_has e Increment fits is xs vs k x was hx num = (has_compute (language_of p) at_.context.me e op.Plus x (nat 1) was (Int (pos 1)) hx (has_int (language_of p) at_.context.me e (pos 1)), refl)
    replaced_has e Decrement fits is xs vs k x was hx num = (subst (λ z. HasIn e (walk.stored_value p a Decrement xs x) (Int z)) (one_less (int was)) (has_compute (language_of p) at_.context.me e op.Minus x (nat 1) was (Int (pos 1)) hx (has_int (language_of p) at_.context.me e (pos 1))), refl)

    given_has : (e : E) (op : Operation) (x y : Formula) (was now : Value) → HasIn e x was → HasIn e y now → HasIn e (walk.operation_result p a op x y) (M.given op was now)
    given_has e (CompareExchange new old) x y was now hx hy = hx
    given_has e (Exchange new) x y was now hx hy = hx
    given_has e Increment x y was now hx hy = hy
    given_has e Decrement x y was now hx hy = hy

    given_int : (op : Operation) (was now : Value) → is_number was ≡ true → is_number now ≡ true → is_number (M.given op was now) ≡ true
    given_int (CompareExchange new old) was now a b = a
    given_int (Exchange new) was now a b = a
    given_int Increment was now a b = b
    given_int Decrement was now a b = b

    number_stands : (e : E) (x : Formula) (v : Value) → HasIn e x v → is_number v ≡ true → StandsIn e (Number x) v
    number_stands e x v h n = let z = int_of v n in (z.0, subst (λ (u : Value). HasIn e x u) z.1 h, z.1)

    range_is : (e : E) (ty : DeclaredType) (x : Formula) (v : Value) → are_ints (declared ty) ≡ true → HasIn e x v → is_number v ≡ true → IsIn e (all_of (ranges ty x)) (in_type ty v)
    unfolding in_type
    range_is e (Integer c) x (Int z) k h n = is_in_range (language_of p) at_.context.me e c x (Int z) h
    range_is e (Integer c) x (Refers r) k h n = absurd (cc)
    range_is e (Pointer n) x v k h i = absurd (cc)
    range_is e Object x v k h n = absurd (cc)
    range_is e Claim x v k h n = absurd (cc)

    int_sort : (ty : DeclaredType) (v : Value) → are_ints (declared ty) ≡ true → is_number v ≡ true → has_sort (sort_of_type ty) v ≡ true
    int_sort (Integer c) (Int z) k n = refl
    int_sort (Integer c) (Refers r) k n = absurd (cc)
    int_sort (Pointer n) v k i = absurd (cc)
    int_sort Object v k n = absurd (cc)
    int_sort Claim v k n = absurd (cc)

    -- a value, and the state behind a change that notes nothing
    pub record Exchanged (u : ValueAndState) (v : M.Valued) (e : E) : Type 0 where
      pub value : StandsIn e u.value v.value
      pub quietly : Quietly u.state g v.starting e

    -- what an Interlocked operation gives on its path
    abbrev pub outcome : Operation → Formula → ℕ → List Formula → ValueAndState
    outcome op o x xs =
        let was = get (field_column x) st.heap (o ∷ []) in
        let now = walk.stored_value p a op xs was in
        record { value = Number (walk.operation_result p a op was now); state = (walk.store p a (walk.InField o x) (Number now) st).gives }

    pub exchange_gives : (op : Operation) (o : Formula) (x : ℕ) (xs : List Formula) → outcome op o x xs ≡ (walk.exchange p a op o x xs (get (field_column x) st.heap (o ∷ [])) st).gives
    exchange_gives (CompareExchange new old) o x xs = refl
    exchange_gives (Exchange new) o x xs = refl
    exchange_gives Increment o x xs = refl
    exchange_gives Decrement o x xs = refl

    pub beside_exchange : (n : ℕ) (c : Count) (op : Operation) (fits : AllFit p f hid (operands op)) → OperandsInts op fits → (o : Formula) (r : Ref) (x : ℕ) (i : FieldInfo) → slice_get p.fields.items x ≡ Some i → are_ints (declared i.ty) ≡ true → (xs : List Formula) (vs : List Value) (Before : E → Type 0) → ((e : E) → Before e → Here st g e × HasIn e o (Refers r) × HaveEach p f at_ a hid e (operands op) fits xs vs)
        → Beside (language_of p) at_.context.me n c c (walk.exchange p a op o x xs (get (field_column x) st.heap (o ∷ [])) st) (M.exchange p at_ op r x vs n g) Before (λ v e. Exchanged (outcome op o x xs) v e)
    beside_exchange n c op fits is o r x i table are xs vs Before known =
        beside_check (language_of p) at_.context.me at_ (readable p at_ g.heap r x) n (n + 1) c c Read (C.readable p a st o x) (check_each (if counts op then all_of (ranges (type_of_field p x) now) ∷ [] else []) rest)
        (m.check at_ (not (counts op) || in_type (type_of_field p x) new) (n + 1) Range (m_rest (if counts op then n + 2 else n + 1))) Before After refl (within_self c)
        (λ e b. let k = known e b in (reads_field (language_of p) at_.context.me f a at_ refl hid st g.heap g.locals env.heap.heap_of (env_sorts p f g.heap g.locals env) e k.0 o r k.1 x (i, table)).told.all.0)
        (λ readable_. by (counts op))
      where
        was : Formula
        was = get (field_column x) st.heap (o ∷ [])

        now : Formula
        now = walk.stored_value p a op xs was

        old : Value
        old = read p g.heap r x

        new : Value
        new = M.replaced op vs old

        rest : Execution ValueAndState
        rest = after (walk.store p a (walk.InField o x) (Number now) st) (λ st1. Gives (record { value = Number (walk.operation_result p a op was now); state = st1 }))

        m_rest : ℕ → m.Outcome M.Valued
        m_rest k = m.after (M.store p at_ (M.InField r x) new k g) (λ g'. m.Gives (record { value = M.given op old new; starting = g' }))

        After : M.Valued → E → Type 0
        After v e = Exchanged (outcome op o x xs) v e

        typed : are_ints (declared (type_of_field p x)) ≡ true
        typed = ap (λ o. are_ints (declared (field_type o))) table ∙ are

        old_int : is_number old ≡ true
        old_int = read_sorted p g.heap r x (env_sorts p f g.heap g.locals env).fields ∙ typed

        old_has : (e : E) → Before e → HasIn e was old
        old_has e b = let k = known e b in has_field (language_of p) at_.context.me e st.heap g.heap k.0.heap o r k.1 x i table

        new_has : (e : E) → Before e → HasIn e now new × (is_number new ≡ true)
        new_has e b = replaced_has e op fits is xs vs (known e b).2 was old (old_has e b) old_int

        tail : (k : ℕ) → Beside (language_of p) at_.context.me k c c rest (m_rest k) Before After
        tail k =
            beside_after (language_of p) at_.context.me k (k + 2) c c c (walk.store p a (walk.InField o x) (Number now) st) (λ st1. Gives (record { value = Number (walk.operation_result p a op was now); state = st1 })) (M.store p at_ (M.InField r x) new k g) (λ g'. m.Gives (record { value = M.given op old new; starting = g' }))
            Before (λ g' e. Quietly (walk.store p a (walk.InField o x) (Number now) st).gives g g' e) After refl (within_self c)
            (beside_field k c o r x i (Number now) new Before table (λ e b. let z = new_has e b in ((known e b).0, (known e b).1, z.0, int_sort (type_of_field p x) new typed z.1)))
            (λ g' came.
            beside_gives (language_of p) at_.context.me (k + 2) c (outcome op o x xs) (record { value = M.given op old new; starting = g' })
            (λ e. Before e × Quietly (walk.store p a (walk.InField o x) (Number now) st).gives g g' e) After (λ e b.
            let z = new_has e b.0 in record { value = number_stands e (walk.operation_result p a op was now) (M.given op old new) (given_has e op was now old new (old_has e b.0) z.0) (given_int op old new old_int z.1); quietly = b.1 }))

        by : (b : Bool) → Beside (language_of p) at_.context.me (n + 1) c c (check_each (if b then all_of (ranges (type_of_field p x) now) ∷ [] else []) rest) (m.check at_ (not b || in_type (type_of_field p x) new) (n + 1) Range (m_rest (if b then n + 2 else n + 1))) Before After
        by true = beside_check (language_of p) at_.context.me at_ (in_type (type_of_field p x) new) (n + 1) (n + 2) c c Range (all_of (ranges (type_of_field p x) now)) rest (m_rest (n + 2)) Before After (omega arith) (within_self c) (λ e b. let z = new_has e b in range_is e (type_of_field p x) now new typed z.0 z.1) (λ y. tail (n + 2))
        by false = tail (n + 1)
