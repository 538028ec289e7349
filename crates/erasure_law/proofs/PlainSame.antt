-- Of a plain heap an item sees the records alone.
use Rattle.std.proofs.Common.{◌≡◌, ℕ, Bool, true, false, not, ◌||◌, List, [], ◌∷◌, slice_set, refl, sym, ap, ◌∙◌, subst}
use Rattle.std.specs.Prelude.{if◌then◌else◌}
use Rattle.object_types.specs.declared.references.Ref.{Ref}
use Rattle.object_types.specs.declared.values.Value.{Value}
use Rattle.method.specs.declared.program.CheckKind.{CheckKind}
use Rattle.method.specs.declared.program.CheckKind.TheVariants.{Range, Read, Write}
use Rattle.method.specs.declared.program.Operation.{Operation}
use Rattle.method.specs.declared.program.InterlockedResult.{InterlockedResult}
use Rattle.method.specs.declared.program.InterlockedResult.TheVariants.{Plainly, Compared}
use Rattle.method.specs.declared.program.Expr.{Expr}
use Rattle.method.specs.declared.program.Expr.TheVariants.{Number, Null, Variable, Field', Not', Negate', Arithmetic', Compare', And', Or', Choose', Convert'}
use Rattle.method.specs.declared.program.Target.{Target}
use Rattle.method.specs.declared.program.Target.TheVariants.{Local, FieldOf}
use Rattle.method.specs.declared.program.Program.{Program}
use Rattle.object_types.specs.References.{same_ref}
use Rattle.object_types.specs.Values.{truth, says, referent, or_zero, same_value}
use Rattle.object_types.specs.Heap.{Heap, Record, Same, put, write, with_field, is_open}
use Rattle.method.specs.Tables.{in_type, read, zero_of, type_of_field}
use Rattle.method.specs.Actions.{Place, InLocal, InField, operands, counts, replaced, given}
use Rattle.plain_machine.specs.PlainSteps.{Comes, Waits, Fails, Yields, next, plain_check, alive, PlainProgress, PlainValued, plain_convert_to, plain_eval, plain_eval_all, plain_place, plain_store, plain_exchange, plain_afterwards, plain_right}
use Rattle.plain_machine.specs.PlainCode.{PlainRight, Worth, NewObject, Exchange}

pub next_same : {A B : Type 0} (c d : Comes A) (f g : A → Comes B) → c ≡ d → ((a : A) → f a ≡ g a) → next c f ≡ next d g
next_same c d f g e k = ap (λ x. next x f) e ∙ by d
  where
    by : (d : _) → next d f ≡ next d g
    by Waits = refl
    by (Fails kind line) = refl
    by (Yields a) = k a

pub if_same : {A : Type 0} (b : Bool) (x y u v : A) → x ≡ u → y ≡ v → (if b then x else y) ≡ (if b then u else v)
if_same true x y u v e f = e
if_same false x y u v e f = f

module _ (p : Program) (line : ℕ) (j k : Heap) (same : Same j k) where
  pub alive_same : (o : Ref) → alive j o ≡ alive k o
  alive_same o = ap (λ (r : Record). is_open r.mode) (sym (same o))

  pub read_same : (o : Ref) (f : ℕ) → read p j o f ≡ read p k o f
  read_same o f = ap (λ (r : Record). or_zero (zero_of (type_of_field p f)) (r.fields f)) (sym (same o))

  module _ (l : List Value) where
    abbrev at_j : Expr → Comes Value
    at_j e = plain_eval p line j l e

    abbrev at_k : Expr → Comes Value
    at_k e = plain_eval p line k l e

    pub eval_same : (e : Expr) → plain_eval p line j l e ≡ plain_eval p line k l e
    eval_same (Number z) = refl
    eval_same Null = refl
    eval_same (Variable i) = refl
    eval_same (Field' q e f) = next_same (at_j e) (at_k e) _ _ (eval_same e) (λ v. λ i. plain_check (alive_same (referent v) i) Read line (Yields (read_same (referent v) f i)))
    eval_same (Not' q e) = next_same (at_j e) (at_k e) _ _ (eval_same e) (λ v. refl)
    eval_same (Negate' q e c) = next_same (at_j e) (at_k e) _ _ (eval_same e) (λ v. refl)
    eval_same (Arithmetic' op q a r b c) = next_same (at_j a) (at_k a) _ _ (eval_same a) (λ v. next_same (at_j b) (at_k b) _ _ (eval_same b) (λ w. refl))
    eval_same (Compare' c q a r b) = next_same (at_j a) (at_k a) _ _ (eval_same a) (λ v. next_same (at_j b) (at_k b) _ _ (eval_same b) (λ w. refl))
    eval_same (And' q a r b) = next_same (at_j a) (at_k a) _ _ (eval_same a) (λ v. if_same (truth v) _ _ _ _ (next_same (at_j b) (at_k b) _ _ (eval_same b) (λ w. refl)) refl)
    eval_same (Or' q a r b) = next_same (at_j a) (at_k a) _ _ (eval_same a) (λ v. if_same (truth v) _ _ _ _ refl (next_same (at_j b) (at_k b) _ _ (eval_same b) (λ w. refl)))
    eval_same (Choose' q a r b t c) = next_same (at_j a) (at_k a) _ _ (eval_same a) (λ v. if_same (truth v) (at_j b) (at_j c) (at_k b) (at_k c) (eval_same b) (eval_same c))
    eval_same (Convert' q e c) = next_same (at_j e) (at_k e) _ _ (eval_same e) (λ v. refl)

    pub evals_same : (es : List Expr) → plain_eval_all p line j l es ≡ plain_eval_all p line k l es
    evals_same [] = refl
    evals_same (e ∷ es) = next_same (at_j e) (at_k e) _ _ (eval_same e) (λ v. next_same (plain_eval_all p line j l es) (plain_eval_all p line k l es) _ _ (evals_same es) (λ vs. refl))

    pub place_same : (t : Target) → plain_place p line j l t ≡ plain_place p line k l t
    place_same (Local i) = refl
    place_same (FieldOf e f) = next_same (at_j e) (at_k e) _ _ (eval_same e) (λ v. refl)

  pub write_same : (o : Ref) (f : ℕ) (v : Value) → Same (write j o f v) (write k o f v)
  unfolding put
  write_same o f v q = by (same_ref q o)
    where
      by : (b : Bool) → (if b then with_field f v (k.get o) else k.get q) ≡ (if b then with_field f v (j.get o) else j.get q)
      by true = ap (with_field f v) (same o)
      by false = same q

-- What comes of the one comes of the other, with the same records.

abbrev pub SameValued : Comes PlainValued → Comes PlainValued → Type 0
SameValued c Waits = Unit {0}
SameValued c (Fails kind line) = Unit {0}
SameValued c (Yields v) = (w : PlainValued) × (c ≡ Yields w) × (w.value ≡ v.value) × Same w.heap v.heap

abbrev pub SameProgress : Comes PlainProgress → Comes PlainProgress → Type 0
SameProgress c Waits = Unit {0}
SameProgress c (Fails kind line) = Unit {0}
SameProgress c (Yields v) = (w : PlainProgress) × (c ≡ Yields w) × (w.locals ≡ v.locals) × Same w.heap v.heap

check_valued : (b : Bool) (kind : CheckKind) (line : ℕ) (c d : Comes PlainValued) → SameValued c d → SameValued (plain_check b kind line c) (plain_check b kind line d)
check_valued true kind line c d x = x
check_valued false kind line c d x = tt

next_valued : {A : Type 0} (c d : Comes A) (f g : A → Comes PlainValued) → c ≡ d → ((a : A) → SameValued (f a) (g a)) → SameValued (next c f) (next d g)
next_valued c d f g e k = subst (λ z. SameValued (next z f) (next d g)) (sym e) (by d)
  where
    by : (d : _) → SameValued (next d f) (next d g)
    by Waits = tt
    by (Fails kind line) = tt
    by (Yields a) = k a

then_valued : (c d : Comes PlainValued) (f g : PlainValued → Comes PlainValued) → SameValued c d → ((w v : PlainValued) → w.value ≡ v.value → Same w.heap v.heap → SameValued (f w) (g v)) → SameValued (next c f) (next d g)
then_valued c Waits f g x k = tt
then_valued c (Fails kind line) f g x k = tt
then_valued c (Yields v) f g x k = subst (λ z. SameValued (next z f) (g v)) (sym x.1) (k x.0 v x.2 x.3)

then_progress : (c d : Comes PlainValued) (f g : PlainValued → Comes PlainProgress) → SameValued c d → ((w v : PlainValued) → w.value ≡ v.value → Same w.heap v.heap → SameProgress (f w) (g v)) → SameProgress (next c f) (next d g)
then_progress c Waits f g x k = tt
then_progress c (Fails kind line) f g x k = tt
then_progress c (Yields v) f g x k = subst (λ z. SameProgress (next z f) (g v)) (sym x.1) (k x.0 v x.2 x.3)

next_progress : {A : Type 0} (c d : Comes A) (f g : A → Comes PlainProgress) → c ≡ d → ((a : A) → SameProgress (f a) (g a)) → SameProgress (next c f) (next d g)
next_progress c d f g e k = subst (λ z. SameProgress (next z f) (next d g)) (sym e) (by d)
  where
    by : (d : _) → SameProgress (next d f) (next d g)
    by Waits = tt
    by (Fails kind line) = tt
    by (Yields a) = k a

module _ (p : Program) (line : ℕ) (l : List Value) where
  exchange_same : (j k : Heap) → Same j k → (op : Operation) (o : Ref) (q : ℕ) (vs : List Value) → SameValued (plain_exchange p line op o q vs j) (plain_exchange p line op o q vs k)
  exchange_same j k s op o q vs =
      let was = read p k o q in
      let now = replaced op vs was in
      let a = alive k o in
      let on : Value → Bool → Comes PlainValued = λ w b. plain_check b Read line (plain_check (not (counts op) || in_type (type_of_field p q) (replaced op vs w)) Range line (plain_check b Write line (Yields (record { value = given op w (replaced op vs w); heap = write j o q (replaced op vs w) })))) in
      subst (λ c. SameValued c (plain_exchange p line op o q vs k)) (sym (λ i. on (read_same p line j k s o q i) (alive_same p line j k s o i)))
      (check_valued a Read line _ _ (check_valued (not (counts op) || in_type (type_of_field p q) now) Range line _ _ (check_valued a Write line (Yields (record { value = given op was now; heap = write j o q now })) (Yields (record { value = given op was now; heap = write k o q now }))
      (record { value = given op was now; heap = write j o q now }, refl, refl, write_same p line j k s o q now))))

  afterwards_same : (then' : InterlockedResult) (w v : PlainValued) → w.value ≡ v.value → Same w.heap v.heap → SameValued (plain_afterwards p line then' l w) (plain_afterwards p line then' l v)
  afterwards_same (Plainly c) w v e s =
      next_valued (plain_convert_to line c w.value) (plain_convert_to line c v.value) (λ u. Yields (record w { value = u })) (λ u. Yields (record v { value = u })) (ap (plain_convert_to line c) e) (λ u. (record w { value = u }, refl, refl, s))
  afterwards_same (Compared c equal e d) w v x s =
      next_valued (plain_convert_to line c w.value) (plain_convert_to line c v.value) _ _ (ap (plain_convert_to line c) x) (λ a.
      next_valued (plain_eval p line w.heap l e) (plain_eval p line v.heap l e) _ _ (eval_same p line w.heap v.heap s l e) (λ b.
      next_valued (plain_convert_to line d (says (if equal then same_value a b else not (same_value a b)))) (plain_convert_to line d (says (if equal then same_value a b else not (same_value a b)))) (λ u. Yields (record w { value = u })) (λ u. Yields (record v { value = u })) refl (λ u. (record w { value = u }, refl, refl, s))))

  -- the stores that a block may have
  abbrev pub store_of : Target → PlainRight → Heap → Comes PlainProgress
  store_of t r h = next (plain_place p line h l t) (λ place. next (plain_right p line r [] h l) (λ v. plain_store p line place v.value v.heap l))

  right_same : (r : PlainRight) (j k : Heap) → Same j k → SameValued (plain_right p line r [] j l) (plain_right p line r [] k l)
  right_same (Worth e) j k s = next_valued (plain_eval p line j l e) (plain_eval p line k l e) (λ v. Yields (record { value = v; heap = j })) (λ v. Yields (record { value = v; heap = k })) (eval_same p line j k s l e) (λ v. (record { value = v; heap = j }, refl, refl, s))
  right_same (NewObject ty) j k s = tt
  right_same (Exchange e q op then') j k s =
      next_valued (plain_eval p line j l e) (plain_eval p line k l e) _ _ (eval_same p line j k s l e) (λ o.
      next_valued (plain_eval_all p line j l (operands op)) (plain_eval_all p line k l (operands op)) _ _ (evals_same p line j k s l (operands op)) (λ vs.
      then_valued (plain_exchange p line op (referent o) q vs j) (plain_exchange p line op (referent o) q vs k) (plain_afterwards p line then' l) (plain_afterwards p line then' l) (exchange_same j k s op (referent o) q vs) (afterwards_same then')))

  check_progress : (b : Bool) (kind : CheckKind) (c d : Comes PlainProgress) → SameProgress c d → SameProgress (plain_check b kind line c) (plain_check b kind line d)
  check_progress true kind c d x = x
  check_progress false kind c d x = tt

  stored_same : (place : Place) (u v : Value) (j k : Heap) → u ≡ v → Same j k → SameProgress (plain_store p line place u j l) (plain_store p line place v k l)
  stored_same (InLocal i) u v j k e s = (record { heap = j; locals = slice_set l i u }, refl, ap (slice_set l i) e, s)
  stored_same (InField o q) u v j k e s =
      subst (λ w. SameProgress (plain_store p line (InField o q) w j l) (plain_store p line (InField o q) v k l)) (sym e)
      (subst (λ b. SameProgress (plain_check b Write line (Yields (record { heap = write j o q v; locals = l }))) (plain_store p line (InField o q) v k l)) (sym (alive_same p line j k s o))
      (check_progress (alive k o) Write (Yields (record { heap = write j o q v; locals = l })) (Yields (record { heap = write k o q v; locals = l })) (record { heap = write j o q v; locals = l }, refl, refl, write_same p line j k s o q v)))

  pub store_of_same : (t : Target) (r : PlainRight) (j k : Heap) → Same j k → SameProgress (store_of t r j) (store_of t r k)
  store_of_same t r j k s =
      next_progress (plain_place p line j l t) (plain_place p line k l t) (λ place. next (plain_right p line r [] j l) (λ v. plain_store p line place v.value v.heap l)) (λ place. next (plain_right p line r [] k l) (λ v. plain_store p line place v.value v.heap l)) (place_same p line j k s l t) (λ place.
      then_progress (plain_right p line r [] j l) (plain_right p line r [] k l) (λ v. plain_store p line place v.value v.heap l) (λ v. plain_store p line place v.value v.heap l) (right_same r j k s) (λ w v e z. stored_same place w.value v.value w.heap v.heap e z))
