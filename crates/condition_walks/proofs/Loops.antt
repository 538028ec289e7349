-- Loops in a run: any values of the variables that a body sets, the frame's heap, and the invariants.
use Rattle.std.proofs.Common.{◌≡◌, ℕ, zero, suc, ◌+◌, ◌<◌, ◌≤◌, ◌==◌, ⊎_elim, Bool, true, false, not, ◌&&◌, if◌then◌else◌, ℤ, List, [], ◌∷◌, map, length, slice_set, refl, ap, sym, ◌∙◌, subst, arith, eqb-true, eq-eqb, true≢false, length-set}
use Rattle.object_types.specs.declared.references.Ref.{Ref}
use Rattle.object_types.specs.declared.values.Value.{Value}
use Rattle.object_types.specs.declared.values.Value.TheVariants.{Int, Ref as Refers}
use Rattle.object_types.specs.References.{is_reference}
use Rattle.object_types.specs.Values.{says, int, referent}
use Rattle.object_types.specs.Sets.{every}
use Rattle.object_types.specs.Heap.{Heap}
use Rattle.method.specs.declared.program.DeclaredType.{DeclaredType}
use Rattle.method.specs.declared.program.DeclaredType.TheVariants.{Integer, Pointer, Object, Claim}
use Rattle.method.specs.declared.program.CheckKind.TheVariants.{LoopInv}
use Rattle.method.specs.declared.program.Spec.{Spec}
use Rattle.method.specs.declared.program.Stmt.{Row_of-Stmt}
use Rattle.method.specs.declared.program.VariableInfo.{VariableInfo}
use Rattle.method.specs.declared.program.FunctionInfo.{FunctionInfo}
use Rattle.method.specs.declared.program.Program.{Program}
use Rattle.method.specs.Tables.{local, in_type, type_of_variable}
use Rattle.method.specs.SpecValue.{holds}
use Rattle.method.specs.Rely.{Frame}
use Rattle.method.specs.WellFormed.{is_value}
use Rattle.method.specs.Expressions.{Context, Gives as GivesOut, Tested, spec_test, scene}
use Rattle.method.specs.Actions.{spot}
use Rattle.method.specs.LocalRuns.{FailsAt, Turns, invariants_at}
use Rattle.method.specs.Text.{row_sets}
use Rattle.terms.specs.declared.term.Kind.TheVariants as kinds
use Rattle.terms.specs.Formula.{Formula}
use Rattle.conditions.specs.Formulas.{node, me, eq, or', all_of, integer, reference, heap}
use Rattle.conditions.specs.Symbolic.{Symbolic, Truth, term, ranges}
use Rattle.conditions.specs.Paths.{Path, Done, Fact, Execution, Gives, after, facts, all_facts, check_each}
use Rattle.conditions.specs.Code.{Spot, State, ValueAndState, new_heap, new_of, new_value, scene as place_scene}
use Rattle.conditions.specs.Annotations.{formula}
use Rattle.conditions.specs.Admissible.{put_local}
use Rattle.conditions.specs.Actions.{is_of}
use Rattle.conditions.specs.Statements.{frame_step, havoc_one, havoc, invariant_formulas, check_invariants, assume_invariants, is_set_by, turns, row_declares}
use Rattle.conditions.specs.Ways.{AllHold, FailsIn, StandsFor}
use Rattle.conditions.proofs.Same.{both_true}
use Rattle.conditions.proofs.Ways.{facts_both, fails_first}
use Rattle.conditions.proofs.FromRuns as runs
use Rattle.conditions.proofs.FromRuns.{Count, count_of, IsWithin, within_self, one_integer, one_reference, one_heap, Values}
use Rattle.condition_walks.proofs.Kept.{gives_facts}
use Rattle.condition_walks.proofs.Rows.{turns_goes, invariants_goes}
use Rattle.std.proofs.lemmas.Bool.{or_cases, false_from_ne_true}
use Rattle.machine_laws.proofs.Owns.{value_reference}
use Rattle.condition_walks.proofs.Checks.{AllIs, held_each, facts_each, facts_known, specs_fail}
use Rattle.condition_walks.proofs.Fitting.{LoopFits, SpecsFit, havoc_sorted}
use Rattle.condition_walks.proofs.TermSorts.{AllSorted}
use Rattle.condition_walks.proofs.ActionSorts.{still_sorted}
use Rattle.method.specs.declared.program.Action.{Action}
use Rattle.conditions.proofs.Joins.{check_gives}

-- the values with one changed
abbrev pub put_at : Values → ℕ → Value → Values
put_at val i v = λ j. if j == i then v else val j

put_here : (val : Values) (i : ℕ) (v : Value) → put_at val i v i ≡ v
put_here val i v = ap (λ b. if b then v else val i) (eq-eqb i i refl)

put_else : (val : Values) (i j : ℕ) (v : Value) → (j ≡ i → ⊥) → put_at val i v j ≡ val j
put_else val i j v differ = ap (λ b. if b then v else val j) (false_from_ne_true (j == i) (λ e. differ (eqb-true j i e)))

-- values of as many variables, from number i on
abbrev pub put_from : Values → ℕ → List VariableInfo → Values → Values
put_from m i [] val = val
put_from m i (v ∷ vs) val = put_from m (i + 1) vs (put_at val i (m i))

put_before : (m : Values) (i : ℕ) (vs : List VariableInfo) (val : Values) (j : ℕ) → j < i → put_from m i vs val j ≡ val j
put_before m i [] val j less = refl
put_before m i (v ∷ vs) val j less = put_before m (i + 1) vs (put_at val i (m i)) j (omega (arith, less)) ∙ put_else val i j (m i) (λ e. omega (arith, less, e))

put_within : (m : Values) (i : ℕ) (vs : List VariableInfo) (val : Values) (j : ℕ) → i ≤ j → j < i + length vs → put_from m i vs val j ≡ m j
put_within m i [] val j low high = absurd (omega (arith, low, high))
put_within m i (v ∷ vs) val j low high = by_place (j == i) refl (λ h. put_within m (i + 1) vs (put_at val i (m i)) j h (omega (arith, high)))
  where
    by_place : (b : Bool) → (j == i) ≡ b → (i + 1 ≤ j → put_from m (i + 1) vs (put_at val i (m i)) j ≡ m j) → put_from m (i + 1) vs (put_at val i (m i)) j ≡ m j
    by_place true e more =
        let same : j ≡ i = eqb-true j i e in
        put_before m (i + 1) vs (put_at val i (m i)) j (omega (arith, same)) ∙ ap (λ b. if b then m i else val j) e ∙ ap m (sym same)
    by_place false e more = more (above (λ s. true≢false (sym (eq-eqb j i s) ∙ e)))
      where
        above : (j ≡ i → ⊥) → i + 1 ≤ j
        above differ = omega (arith, low, differ)

pub every_at : (t : ℕ → Bool) (xs : List ℕ) (j : ℕ) → every t xs ≡ true → is_of xs j ≡ true → t j ≡ true
every_at t [] j all is = absurd (true≢false (sym is))
every_at t (x ∷ xs) j all is = let z = both_true (t x) (every t xs) all in ⊎_elim (λ e. ap t (sym (eqb-true x j e)) ∙ z.0) (λ m. every_at t xs j z.1 m) (or_cases (x == j) (is_of xs j) is)

typed_int : (ty : DeclaredType) (c : _) (v : Value) → ty ≡ Integer c → in_type ty v ≡ true → v ≡ Int (int v)
unfolding in_type
typed_int (Integer d) c (Int z) is h = refl
typed_int (Integer d) c (Refers r) is h = absurd (true≢false (sym h))
typed_int (Pointer n) c v is h = absurd (cc)
typed_int Object c v is h = absurd (cc)
typed_int Claim c v is h = absurd (cc)

pub pointer_refers : (n : ℕ) (v : Value) → in_type (Pointer n) v ≡ true → v ≡ Refers (referent v)
unfolding in_type
pointer_refers n (Int z) h = absurd (true≢false (sym h))
pointer_refers n (Refers r) h = refl

object_refers : (v : Value) → in_type Object v ≡ true → v ≡ Refers (referent v)
unfolding in_type
object_refers (Int z) h = absurd (true≢false (sym h))
object_refers (Refers r) h = refl

claim_refers : (v : Value) → in_type Claim v ≡ true → v ≡ Refers (referent v)
unfolding in_type
claim_refers (Int z) h = absurd (true≢false (sym h))
claim_refers (Refers r) h = refl

pub new_of_heap : (ty : DeclaredType) (st : State) → (new_of ty st).state.heap ≡ st.heap
new_of_heap (Integer c) st = refl
new_of_heap (Pointer n) st = refl
new_of_heap Object st = refl
new_of_heap Claim st = refl

pub new_of_locals : (ty : DeclaredType) (st : State) → (new_of ty st).state.locals ≡ st.locals
new_of_locals (Integer c) st = refl
new_of_locals (Pointer n) st = refl
new_of_locals Object st = refl
new_of_locals Claim st = refl

module _ (E : Type 0)
    (Agree : Count → E → E → Type 0)
    (agree_self : (c : Count) (e : E) → Agree c e e)
    (agree_then : (c : Count) (d e f : E) → Agree c d e → Agree c e f → Agree c d f)
    (agree_less : (c d : Count) (e f : E) → IsWithin c d → Agree d e f → Agree c e f)
    (Holds : E → Formula → Type 0) (Is : E → Formula → Bool → Type 0) (Has : E → Formula → Value → Type 0) (HeapIs : E → Formula → Heap → Type 0)
    (has_says : (e : E) (x : Formula) (b : Bool) → Is e x b → Has e (term (Truth x)) (says b))
    (holds_eq : (e : E) (x y : Formula) (v : Value) → Has e x v → Has e y v → Holds e (eq x y))
    (holds_same : (e : E) (x y : Formula) (h : Heap) → HeapIs e x h → HeapIs e y h → Holds e (eq x y))
    (holds_all : (e : E) (fs : List Formula) → AllHold E Holds e fs → Holds e (all_of fs))
    (holds_first : (e : E) (x y : Formula) → Holds e x → Holds e (or' x y))
    (holds_second : (e : E) (x y : Formula) → Holds e y → Holds e (or' x y))
    (an_integer : (c : Count) (z : ℤ) → runs.Extension E Agree agree_self agree_then agree_less c (one_integer c))
    (is_integer : (c : Count) (z : ℤ) (e : E) → (an_integer c z).So e → Has e (integer c.integers) (Int z))
    (a_reference : (c : Count) (r : Ref) → is_reference r ≡ true → runs.Extension E Agree agree_self agree_then agree_less c (one_reference c))
    (is_refers : (c : Count) (r : Ref) (named : is_reference r ≡ true) (e : E) → (a_reference c r named).So e → Has e (reference c.references) (Refers r))
    (Proper : Heap → Type 0)
    (a_heap : (c : Count) (h : Heap) → Proper h → runs.Extension E Agree agree_self agree_then agree_less c (one_heap c))
    (is_heap : (c : Count) (h : Heap) (proper : Proper h) (e : E) → (a_heap c h proper).So e → HeapIs e (heap c.heaps) h)
    (size : ℕ) (Spotted : E → Type 0)
    (holds_is : (e : E) (g : Formula) → Is e g true → Holds e g)
    (is_false : (e : E) (g : Formula) → Is e g false → ¬ Holds e g)
    (ranges_hold : (ty : DeclaredType) (w : Formula) (v : Value) → in_type ty v ≡ true → (e : E) → Has e w v → AllHold E Holds e (ranges ty w))
  where
    abbrev Extension : Count → Count → Type 1
    Extension = runs.Extension E Agree agree_self agree_then agree_less

    abbrev All : E → List Formula → Type 0
    All = AllHold E Holds

    abbrev Stands : E → Symbolic → Value → Type 0
    Stands e = StandsFor (Is e) (Has e)

    abbrev Shown : (ℕ → Bool) → E → ℕ → List Symbolic → Values → Type 0
    Shown = runs.Shown E Agree agree_self agree_then agree_less Holds Is Has HeapIs has_says holds_eq holds_same holds_all holds_first holds_second an_integer is_integer a_reference is_refers Proper a_heap is_heap size Spotted

    abbrev Matches : (ℕ → Bool) → E → State → Heap → Values → Type 0
    Matches = runs.Matches E Agree agree_self agree_then agree_less Holds Is Has HeapIs has_says holds_eq holds_same holds_all holds_first holds_second an_integer is_integer a_reference is_refers Proper a_heap is_heap size Spotted

    abbrev Follows : (ℕ → Bool) → (ℕ → Bool) → State → Execution State → Heap → Values → Heap → Values → Type 1
    Follows = runs.Follows E Agree agree_self agree_then agree_less Holds Is Has HeapIs has_says holds_eq holds_same holds_all holds_first holds_second an_integer is_integer a_reference is_refers Proper a_heap is_heap size Spotted

    abbrev Breaks : ℕ → ℕ → (ℕ → Bool) → State → Execution State → Heap → Values → Type 1
    Breaks = runs.Breaks E Agree agree_self agree_then agree_less Holds Is Has HeapIs has_says holds_eq holds_same holds_all holds_first holds_second an_integer is_integer a_reference is_refers Proper a_heap is_heap size Spotted

    abbrev follows_after : (a b c : ℕ → Bool) (st : State) (t : Execution State) (g : State → Execution State) (h h1 h2 : Heap) (l l1 l2 : Values) → Follows a b st t h l h1 l1 → Follows b c t.gives (g t.gives) h1 l1 h2 l2 → Follows a c st (after t g) h l h2 l2
    follows_after = runs.follows_after E Agree agree_self agree_then agree_less Holds Is Has HeapIs has_says holds_eq holds_same holds_all holds_first holds_second an_integer is_integer a_reference is_refers Proper a_heap is_heap size Spotted

    stands_term : (e : E) (x : Symbolic) (v : Value) → Stands e x v → Has e (term x) v
    stands_term = runs.stands_term E Agree agree_self agree_then agree_less Holds Is Has HeapIs has_says holds_eq holds_same holds_all holds_first holds_second an_integer is_integer a_reference is_refers Proper a_heap is_heap size Spotted

    within_extension : (c d : Count) → IsWithin c d → Extension c d
    within_extension = runs.no_extension E Agree agree_self agree_then agree_less

    -- A new constant for a value of a type.

    pub value_extension : (ty : DeclaredType) (v : Value) → is_value v ≡ true → (st : State) → Extension (count_of st) (count_of (new_of ty st).state)
    value_extension (Integer c) v named st = an_integer (count_of st) (int v)
    value_extension (Pointer n) v named st = a_reference (count_of st) (referent v) (value_reference v named)
    value_extension Object v named st = a_reference (count_of st) (referent v) (value_reference v named)
    value_extension Claim v named st = a_reference (count_of st) (referent v) (value_reference v named)

    pub value_stands : (ty : DeclaredType) (v : Value) (named : is_value v ≡ true) (st : State) → in_type ty v ≡ true → (e : E) → (value_extension ty v named st).So e → Stands e (new_of ty st).value v
    unfolding value_extension
    value_stands (Integer c) v named st h e so = (int v, is_integer (count_of st) (int v) e so, typed_int (Integer c) c v refl h)
    value_stands (Pointer n) v named st h e so = (referent v, is_refers (count_of st) (referent v) (value_reference v named) e so, pointer_refers n v h)
    value_stands Object v named st h e so = (referent v, is_refers (count_of st) (referent v) (value_reference v named) e so, object_refers v h)
    value_stands Claim v named st h e so = (referent v, is_refers (count_of st) (referent v) (value_reference v named) e so, claim_refers v h)

    -- Variables with their values.

    shown_same : (hid : ℕ → Bool) (e : E) (b : ℕ) (ws : List Symbolic) (val val' : Values) → ((j : ℕ) → b ≤ j → j < b + length ws → hid j ≡ false → val j ≡ val' j) → Shown hid e b ws val → Shown hid e b ws val'
    shown_same hid e b [] val val' same s = tt
    shown_same hid e b (w ∷ ws) val val' same s =
        ((λ h. subst (λ (v : Value). Stands e w v) (same b (omega arith) (omega arith) h) (s.0 h)), shown_same hid e (b + 1) ws val val' (λ j low high h. same j (omega (arith, low)) (omega (arith, high)) h) s.1)

    -- the variables where one more is known: number i is v
    pub shown_set : (hid hid' : ℕ → Bool) (e : E) (b j i : ℕ) (ws : List Symbolic) (val val' : Values) (w : Symbolic) (v : Value) → i ≡ b + j → Stands e w v
        → ((n : ℕ) → n < b + length ws → (n ≡ i → ⊥) → val' n ≡ val n) → (i < b + length ws → val' i ≡ v) → ((n : ℕ) → (n ≡ i → ⊥) → hid' n ≡ false → hid n ≡ false) → Shown hid e b ws val → Shown hid' e b (slice_set ws j w) val'
    shown_set hid hid' e b j i [] val val' w v at_place st same here less s = tt
    shown_set hid hid' e b zero i (x ∷ ws) val val' w v at_place st same here less s =
        let is : b ≡ i = omega (arith, at_place) in (
          (λ h. subst (λ (u : Value). Stands e w u) (sym (ap val' is ∙ here (omega (arith, is)))) st),
          others (b + 1) ws (λ n low high. same n (omega (arith, high)) (λ k. omega (arith, low, is, k))) (λ n low h. less n (λ k. omega (arith, low, is, k)) h) s.1,
        )
      where
        others : (c : ℕ) (ys : List Symbolic) → ((n : ℕ) → c ≤ n → n < c + length ys → val' n ≡ val n) → ((n : ℕ) → c ≤ n → hid' n ≡ false → hid n ≡ false) → Shown hid e c ys val → Shown hid' e c ys val'
        others c [] same less s = tt
        others c (y ∷ ys) same less s =
            ((λ h. subst (λ (u : Value). Stands e y u) (sym (same c (omega arith) (omega arith))) (s.0 (less c (omega arith) h))), others (c + 1) ys (λ n low high. same n (omega (arith, low)) (omega (arith, high))) (λ n low h. less n (omega (arith, low)) h) s.1)
    shown_set hid hid' e b (suc j) i (x ∷ ws) val val' w v at_place st same here less s = (
      (λ h. subst (λ (u : Value). Stands e x u) (sym (same b (omega arith) (λ k. omega (arith, at_place, k)))) (s.0 (less b (λ k. omega (arith, at_place, k)) h))),
      shown_set hid hid' e (b + 1) j i ws val val' w v (omega (arith, at_place)) st (λ n high k. same n (omega (arith, high)) k) (λ high. here (omega (arith, high))) less s.1,
    )

    pub shown_put : (hid : ℕ → Bool) (e : E) (b j i : ℕ) (ws : List Symbolic) (val : Values) (w : Symbolic) (v : Value) → i ≡ b + j → Stands e w v → Shown hid e b ws val → Shown hid e b (slice_set ws j w) (put_at val i v)
    shown_put hid e b j i [] val w v at_place st s = tt
    shown_put hid e b zero i (x ∷ ws) val w v at_place st s =
        let here : b ≡ i = omega (arith, at_place) in
        ((λ h. subst (λ (u : Value). Stands e w u) (sym (put_here val i v) ∙ ap (put_at val i v) (sym here)) st), shown_same hid e (b + 1) ws val (put_at val i v) (λ n low high h. sym (put_else val i n v (λ k. omega (arith, low, here, k)))) s.1)
    shown_put hid e b (suc j) i (x ∷ ws) val w v at_place st s =
        ((λ h. subst (λ (u : Value). Stands e x u) (sym (put_else val i b v (λ k. omega (arith, at_place, k)))) (s.0 h)), shown_put hid e (b + 1) j i ws val w v (omega (arith, at_place)) st s.1)

    -- a variable set to a new value of its type
    put_new : (hid : ℕ → Bool) (ty : DeclaredType) (i : ℕ) (st : State) (h : Heap) (val : Values) (v : Value) (named : is_value v ≡ true) → in_type ty v ≡ true → (e : E) → (value_extension ty v named st).So e → Matches hid e st h val → Matches hid e (put_local i (new_of ty st)) h (put_at val i v)
    put_new hid ty i st h val v named typed e so m =
        let u = new_of ty st in
        record {
          spot = m.spot;
          many = length-set u.state.locals i u.value ∙ ap length (new_of_locals ty st) ∙ m.many;
          heap = subst (λ x. HeapIs e x h) (sym (new_of_heap ty st)) m.heap;
          locals = shown_put hid e 0 i i u.state.locals val u.value v (omega arith) (value_stands ty v named st typed e so) (subst (λ ws. Shown hid e 0 ws val) (sym (new_of_locals ty st)) m.locals);
        }

    new_value_follows : (hid : ℕ → Bool) (ty : DeclaredType) (i : ℕ) (st : State) (h : Heap) (val : Values) (v : Value) → is_value v ≡ true → in_type ty v ≡ true → Follows hid hid st (after (new_value ty st) (λ w. Gives (put_local i w))) h val h (put_at val i v)
    new_value_follows hid ty i st h val v named typed =
        by_value (new_value ty st).path (new_value ty st).gives (gives_facts (ranges ty (term (new_of ty st).value)) (Gives (new_of ty st)))
        (λ e has. facts_known E Holds Is holds_is is_false e (ranges ty (term (new_of ty st).value)) (Gives (new_of ty st)) (ranges_hold ty (term (new_of ty st).value) v typed e has) tt)
      where
        by_value : (q : Path) (u : ValueAndState) → u ≡ new_of ty st → ((e : E) → Has e (term (new_of ty st).value) v → All e (facts q)) → Follows hid hid st (after (record { path = q; gives = u }) (λ w. Gives (put_local i w))) h val h (put_at val i v)
        by_value q u is known =
            subst (λ (u : ValueAndState). Follows hid hid st (after (record { path = q; gives = u }) (λ w. Gives (put_local i w))) h val h (put_at val i v)) (sym is) (
            record {
              extension = value_extension ty v named st;
              goes = (λ e so m. (facts_both E Holds q (Gives (put_local i (new_of ty st))).path e (known e (stands_term e (new_of ty st).value v (value_stands ty v named st typed e so))) tt, put_new hid ty i st h val v named typed e so m));
            }
            )

    module _ (f : FunctionInfo) (hid : ℕ → Bool) (h : Heap) (m : Values) where
      havoc_one_follows : (b : Bool) (i : ℕ) (st : State) (val : Values) → (b ≡ true → (in_type (type_of_variable f i) (m i) ≡ true) × (is_value (m i) ≡ true)) → (b ≡ false → hid i ≡ false → m i ≡ val i) → Follows hid hid st (havoc_one b f i st) h val h (put_at val i (m i))
      havoc_one_follows true i st val typed same = let t = typed refl in new_value_follows hid (type_of_variable f i) i st h val (m i) t.1 t.0
      havoc_one_follows false i st val typed same =
          record {
            extension = within_extension (count_of st) (count_of st) (within_self (count_of st));
            goes = (λ e so k. (tt, record { spot = k.spot; many = k.many; heap = k.heap; locals = shown_same hid e 0 st.locals val (put_at val i (m i)) (λ j low high s. by_place j s (j == i) refl) k.locals }));
          }
        where
          by_place : (j : ℕ) → hid j ≡ false → (b : Bool) → (j == i) ≡ b → val j ≡ (if b then m i else val j)
          by_place j s true e = let z = eqb-true j i e in ap val z ∙ sym (same refl (ap hid (sym z) ∙ s))
          by_place j s false e = refl

      havoc_from : (is_set : ℕ → Bool) (i : ℕ) (vs : List VariableInfo) (st : State) (val : Values)
          → ((j : ℕ) → is_set j ≡ true → (in_type (type_of_variable f j) (m j) ≡ true) × (is_value (m j) ≡ true))
          → ((j : ℕ) → i ≤ j → is_set j ≡ false → hid j ≡ false → m j ≡ val j)
          → Follows hid hid st (havoc f is_set i vs st) h val h (put_from m i vs val)
      havoc_from is_set i [] st val typed same = record { extension = within_extension (count_of st) (count_of st) (within_self (count_of st)); goes = (λ e so k. (tt, k)) }
      havoc_from is_set i (v ∷ vs) st val typed same =
          follows_after hid hid hid st (havoc_one (is_set i) f i st) (λ st1. havoc f is_set (i + 1) vs st1) h h h val (put_at val i (m i)) (put_from m (i + 1) vs (put_at val i (m i))) (havoc_one_follows (is_set i) i st val (λ b. typed i b) (λ b s. same i (omega arith) b s))
          (havoc_from is_set (i + 1) vs (havoc_one (is_set i) f i st).gives (put_at val i (m i)) typed (λ j low b s. same j (omega (arith, low)) b s ∙ sym (put_else val i j (m i) (λ e. omega (arith, low, e)))))

      -- the variables that are set have any values of their types
      pub havoc_follows : (is_set : ℕ → Bool) (st : State) (val : Values) → size ≡ length f.variables.items
          → ((j : ℕ) → is_set j ≡ true → (in_type (type_of_variable f j) (m j) ≡ true) × (is_value (m j) ≡ true))
          → ((j : ℕ) → is_set j ≡ false → hid j ≡ false → m j ≡ val j)
          → Follows hid hid st (havoc f is_set 0 f.variables.items st) h val h m
      havoc_follows is_set st val sized typed same =
          let y = havoc_from is_set 0 f.variables.items st val typed (λ j low b s. same j b s) in
          record {
            extension = y.extension;
            goes = (λ e so k.
                let z = y.goes e so k in
                let t = (havoc f is_set 0 f.variables.items st).gives in (
                  z.0,
                  record {
                    spot = z.1.spot;
                    many = z.1.many;
                    heap = z.1.heap;
                    locals = shown_same hid e 0 t.locals (put_from m 0 f.variables.items val) m (λ j low high s. put_within m 0 f.variables.items val j low (let many = z.1.many in omega (arith, high, many, sized))) z.1.locals;
                  },
                ));
          }

    -- Checks and facts that hold.

    pub checks_follow : (hid : ℕ → Bool) (fs : List Formula) (st : State) (h : Heap) (val : Values) → ((e : E) → Matches hid e st h val → All e fs) → Follows hid hid st (check_each fs (Gives st)) h val h val
    checks_follow hid fs st h val known = by_value (check_each fs (Gives st)).path (check_each fs (Gives st)).gives (check_gives fs (Gives st)) (λ e m. facts_each E Holds Is holds_is is_false e fs (Gives st) (known e m) tt)
      where
        by_value : (q : Path) (u : State) → u ≡ st → ((e : E) → Matches hid e st h val → All e (facts q)) → Follows hid hid st (record { path = q; gives = u }) h val h val
        by_value q u is all =
            subst (λ (u : State). Follows hid hid st (record { path = q; gives = u }) h val h val) (sym is) (record { extension = within_extension (count_of st) (count_of st) (within_self (count_of st)); goes = (λ e so m. (all e m, m)) })

    pub facts_follow : (hid : ℕ → Bool) (fs : List Formula) (st : State) (h : Heap) (val : Values) → ((e : E) → Matches hid e st h val → All e fs) → Follows hid hid st (all_facts fs (Gives st)) h val h val
    facts_follow hid fs st h val known = by_value (all_facts fs (Gives st)).path (all_facts fs (Gives st)).gives (gives_facts fs (Gives st)) (λ e m. facts_known E Holds Is holds_is is_false e fs (Gives st) (known e m) tt)
      where
        by_value : (q : Path) (u : State) → u ≡ st → ((e : E) → Matches hid e st h val → All e (facts q)) → Follows hid hid st (record { path = q; gives = u }) h val h val
        by_value q u is all =
            subst (λ (u : State). Follows hid hid st (record { path = q; gives = u }) h val h val) (sym is) (record { extension = within_extension (count_of st) (count_of st) (within_self (count_of st)); goes = (λ e so m. (all e m, m)) })

    pub is_mapped : {X Y : Type 0} (g : X → Formula) (u : X → Y) (v : Y → Bool) (e : E) (xs : List X) → AllIs E Holds Is holds_is is_false e (map g xs) (map (λ x. v (u x)) xs) → AllIs E Holds Is holds_is is_false e (map g xs) (map v (map u xs))
    is_mapped g u v e [] is = tt
    is_mapped g u v e (x ∷ xs) is = (is.0, is_mapped g u v e xs is.1)

    -- the heap becomes another
    pub new_heap_follows : (hid : ℕ → Bool) (fact : Formula) (st : State) (h j : Heap) (val : Values) → Proper j → ((e : E) → Matches hid e st h val → HeapIs e (heap st.heaps) j → Holds e fact) → Follows hid hid st (record { path = Fact fact Done; gives = new_heap st }) h val j val
    new_heap_follows hid fact st h j val proper known =
        record {
          extension = a_heap (count_of st) j proper;
          goes = (λ e so m. let is = is_heap (count_of st) j proper e so in ((known e m is, tt), record { spot = m.spot; many = m.many; heap = is; locals = m.locals }));
        }

    module _ (p : Program) (number : ℕ) (x : Context) (f : FunctionInfo) (TextAction : Action → Type 0) (TextSpec : Spec → Type 0) (TextObject : ℕ → ℕ → Type 0) (a : Spot)
        (sized : size ≡ length f.variables.items)
        (Steady : Heap → List Value → Type 0)
        (steady_proper : (h : Heap) (l : List Value) → Steady h l → Proper h)
        (steady_values : (h : Heap) (l : List Value) → Steady h l → (i : ℕ) → is_value (local l i) ≡ true)
        (turns_steady : (hid : ℕ → Bool) (invs : List Spec) (m : _) (row : Row_of-Stmt m) (h k : Heap) (l l1 : List Value) → LoopFits p number f TextAction TextSpec TextObject hid invs m row → Steady h l → Turns p x f invs (row_sets row) h k l l1 → Steady k l1)
        (inv_is : (hid : ℕ → Bool) (invs : List Spec) (st : State) (h : Heap) (l : List Value) → SpecsFit p number f TextAction TextSpec TextObject hid invs → AllSorted f.variables.items st.locals → Steady h l → (e : E) → Matches hid e st h (local l) → AllIs E Holds Is holds_is is_false e (invariant_formulas p f a invs st) (map (λ g. holds p g (scene x h l)) invs))
        (frame_holds : (h k : Heap) (e : E) (u v : Formula) → Proper h → Proper k → Spotted e → HeapIs e u h → HeapIs e v k → Frame p x.me h k x.entry x.writes → Holds e (node kinds.Frame (me ∷ u ∷ v ∷ a.entry ∷ a.writes)))
      where
        loop_specs : (hid : ℕ → Bool) (invs : List Spec) (m : _) (row : Row_of-Stmt m) → LoopFits p number f TextAction TextSpec TextObject hid invs m row → SpecsFit p number f TextAction TextSpec TextObject hid invs
        loop_specs hid invs m row fits = (record { is = fits.0.is; seen = fits.0.seen; scoped = fits.0.scoped }, fits.1)

        -- any turn of a loop
        pub turns_follows : (hid : ℕ → Bool) (invs : List Spec) (m : _) (row : Row_of-Stmt m) (st : State) (h k : Heap) (l l1 : List Value) → LoopFits p number f TextAction TextSpec TextObject hid invs m row → AllSorted f.variables.items st.locals → Steady h l → Turns p x f invs (row_sets row) h k l l1 → Follows hid hid st (turns p f a invs row st) h (local l) k (local l1)
        turns_follows hid invs m row st h k l l1 fits sorted steady t =
            let sorted1 = still_sorted f.variables.items st (check_invariants p f a invs st).gives (invariants_goes p f a invs st) sorted in
            let sorted3 = havoc_sorted f (is_set_by p f a row) 0 f.variables.items (check_invariants p f a invs st).gives sorted1 in
            let specs = loop_specs hid invs m row fits in
            let behind = turns_steady hid invs m row h k l l1 fits steady t in
            let is_set = is_set_by p f a row in
            let st1 = (check_invariants p f a invs st).gives in
            let st2 = (havoc f is_set 0 f.variables.items st1).gives in
            let st3 = (frame_step a.entry a.writes st2).gives in
            follows_after hid hid hid st (check_invariants p f a invs st) (λ s1. after (havoc f is_set 0 f.variables.items s1) (λ s2. after (frame_step a.entry a.writes s2) (λ s3. assume_invariants p f a invs s3))) h h k (local l) (local l) (local l1)
            (checks_follow hid (invariant_formulas p f a invs st) st h (local l) (λ e y. held_each E Holds Is holds_is is_false (λ g. formula p g (place_scene a st)) (λ g. holds p g (scene x h l)) e invs (inv_is hid invs st h l specs sorted steady e y) t.first))
            (follows_after hid hid hid st1 (havoc f is_set 0 f.variables.items st1) (λ s2. after (frame_step a.entry a.writes s2) (λ s3. assume_invariants p f a invs s3)) h h k (local l) (local l1) (local l1)
            (havoc_follows f hid h (local l1) is_set st1 (local l) sized
            (λ j b. (every_at (λ i. in_type (type_of_variable f i) (local l1 i)) (row_sets row) j t.havoc.ranges (both_true (is_of (row_sets row) j) (not (is_of (row_declares row) j)) b).0, steady_values k l1 behind j))
            (λ j b s. unset_same j (is_of (row_sets row) j) refl b s))
            (follows_after hid hid hid st2 (frame_step a.entry a.writes st2) (λ s3. assume_invariants p f a invs s3) h k k (local l1) (local l1) (local l1)
            (new_heap_follows hid (node kinds.Frame (me ∷ st2.heap ∷ heap st2.heaps ∷ a.entry ∷ a.writes)) st2 h k (local l1) (steady_proper k l1 behind) (λ e y is. frame_holds h k e st2.heap (heap st2.heaps) (steady_proper h l steady) (steady_proper k l1 behind) y.spot y.heap is t.frame))
            (facts_follow hid (invariant_formulas p f a invs st3) st3 k (local l1) (λ e y. held_each E Holds Is holds_is is_false (λ g. formula p g (place_scene a st3)) (λ g. holds p g (scene x k l1)) e invs (inv_is hid invs st3 k l1 specs sorted3 behind e y) t.holds))))
          where
            unset_same : (j : ℕ) (b : Bool) → is_of (row_sets row) j ≡ b → is_set_by p f a row j ≡ false → hid j ≡ false → local l1 j ≡ local l j
            unset_same j false e b s = t.havoc.others j e
            unset_same j true e b s = by_declared (is_of (row_declares row) j) refl
              where
                by_declared : (c : Bool) → is_of (row_declares row) j ≡ c → local l1 j ≡ local l j
                by_declared true d = absurd (true≢false (sym (fits.0.hides j d) ∙ s))
                by_declared false d = absurd (true≢false (sym (ap (λ u. u && not (is_of (row_declares row) j)) e ∙ ap not d) ∙ b))

        module _ (label : ℕ) where
          -- the formulas of invariants beside their checks
          invariants_fail : {A : Type 0} (hid : ℕ → Bool) (line n : ℕ) (invs : List Spec) (st : State) (h : Heap) (l : List Value) (rest : Execution A) → SpecsFit p number f TextAction TextSpec TextObject hid invs → AllSorted f.variables.items st.locals → Steady h l → FailsAt label (invariants_at p x f line invs h l n) → (e : E) → Matches hid e st h (local l) → FailsIn E Holds label n (check_each (invariant_formulas p f a invs st) rest).path e
          invariants_fail hid line n invs st h l rest fits sorted steady y e m =
              specs_fail E Holds Is holds_is is_false label (spot x [] line) LoopInv e (invariant_formulas p f a invs st) (map (λ g. spec_test p g (scene x h l)) invs) n (GivesOut tt) rest
              (is_mapped (λ g. formula p g (place_scene a st)) (λ g. spec_test p g (scene x h l)) (λ (t : Tested). t.holds) e invs (inv_is hid invs st h l fits sorted steady e m)) y (λ z. absurd (let w = z.2 in cc))

          pub invariants_break : (hid : ℕ → Bool) (line n : ℕ) (invs : List Spec) (st : State) (h : Heap) (l : List Value) → SpecsFit p number f TextAction TextSpec TextObject hid invs → AllSorted f.variables.items st.locals → Steady h l → FailsAt label (invariants_at p x f line invs h l n) → Breaks label n hid st (check_invariants p f a invs st) h (local l)
          invariants_break hid line n invs st h l fits sorted steady y =
              record { extension = within_extension (count_of st) (count_of (check_invariants p f a invs st).gives) (invariants_goes p f a invs st).within; fails = (λ e so m. invariants_fail hid line n invs st h l (Gives st) fits sorted steady y e m) }

          pub turns_break : (hid : ℕ → Bool) (line n : ℕ) (invs : List Spec) (m : _) (row : Row_of-Stmt m) (st : State) (h : Heap) (l : List Value) → LoopFits p number f TextAction TextSpec TextObject hid invs m row → AllSorted f.variables.items st.locals → Steady h l → FailsAt label (invariants_at p x f line invs h l n) → Breaks label n hid st (turns p f a invs row st) h (local l)
          turns_break hid line n invs m row st h l fits sorted steady y =
              let st1 = (check_invariants p f a invs st).gives in
              let rest = after (havoc f (is_set_by p f a row) 0 f.variables.items st1) (λ s2. after (frame_step a.entry a.writes s2) (λ s3. assume_invariants p f a invs s3)) in
              record {
                extension = within_extension (count_of st) (count_of (turns p f a invs row st).gives) (turns_goes p f a invs row st).within;
                fails = (λ e so k. fails_first E Holds label n (check_invariants p f a invs st).path rest.path e (invariants_fail hid line n invs st h l (Gives st) (loop_specs hid invs m row fits) sorted steady y e k));
              }
