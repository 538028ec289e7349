-- What code keeps of a state: counters never fall, and variables that aren't set keep their terms.
use Rattle.std.proofs.Common.{◌≡◌, ℕ, zero, suc, ◌+◌, ◌==◌, Bool, true, false, ◌&&◌, if◌then◌else◌, ℤ, pos, negsuc, List, [], ◌∷◌, ◌++◌, slice_set, refl, sym, ◌∙◌, subst, arith, eq-eqb, true≢false}
use Rattle.std.proofs.lemmas.Bool.{or_parts, or_from}
use Rattle.object_types.specs.Values.{same_int}
use Rattle.terms.specs.declared.term.Kind.{Kind}
use Rattle.terms.specs.Formula.{Formula, Formulas, Node, Stop, With}
use Rattle.conditions.specs.Formulas.{kind_number, same_kind, same, same_all}
use Rattle.conditions.specs.Symbolic.{Symbolic, Truth, Number, Reference, same_symbolic}
use Rattle.conditions.specs.Paths.{Execution, all_facts}
use Rattle.conditions.specs.Code.{State, new_heap}
use Rattle.conditions.specs.Actions.{Joined, Keeps, Differs, is_of, new_like, join_one, join_locals, join_heaps, with_heap_joint, join_branches, without_deferred, with_counters}
use Rattle.conditions.proofs.FromRuns.{count_of, IsWithin, within_self, within_then}
use Rattle.method.proofs.Global.{both_and}

-- i is none of these; the one set is part of the other
abbrev pub Out : List ℕ → ℕ → Type 0
Out set i = is_of set i ≡ false

-- each number of the one list is in the other
abbrev pub Part : List ℕ → List ℕ → Type 0
Part a b = (i : ℕ) → Out b i → Out a i

pub out_first : (a b : List ℕ) → Part a (a ++ b)
out_first [] b i o = refl
out_first (j ∷ a) b i o = let x = or_parts (j == i) (is_of (a ++ b) i) o in or_from (j == i) (is_of a i) x.0 (out_first a b i x.1)

pub out_second : (a b : List ℕ) → Part b (a ++ b)
out_second [] b i o = o
out_second (j ∷ a) b i o = out_second a b i (or_parts (j == i) (is_of (a ++ b) i) o).1

pub none_out : (b : List ℕ) → Part [] b
none_out b i o = refl

pub part_self : (a : List ℕ) → Part a a
part_self a i o = o

-- Variables, from number i on.

-- as many terms, and the same ones but for the variables of the list
abbrev pub Kept : List ℕ → ℕ → List Symbolic → List Symbolic → Type 0
Kept set i [] [] = Unit {0}
Kept set i [] (y ∷ ys) = ⊥
Kept set i (x ∷ xs) [] = ⊥
Kept set i (x ∷ xs) (y ∷ ys) = (Out set i → y ≡ x) × Kept set (i + 1) xs ys

pub kept_self : (set : List ℕ) (i : ℕ) (xs : List Symbolic) → Kept set i xs xs
kept_self set i [] = tt
kept_self set i (x ∷ xs) = ((λ o. refl), kept_self set (i + 1) xs)

pub kept_then : (a b c : List ℕ) → Part a c → Part b c → (i : ℕ) (xs ys zs : List Symbolic) → Kept a i xs ys → Kept b i ys zs → Kept c i xs zs
kept_then a b c pa pb i [] [] [] k m = tt
kept_then a b c pa pb i [] [] (z ∷ zs) k m = m
kept_then a b c pa pb i [] (y ∷ ys) zs k m = absurd k
kept_then a b c pa pb i (x ∷ xs) [] zs k m = absurd k
kept_then a b c pa pb i (x ∷ xs) (y ∷ ys) [] k m = m
kept_then a b c pa pb i (x ∷ xs) (y ∷ ys) (z ∷ zs) k m = ((λ o. m.0 (pb i o) ∙ k.0 (pa i o)), kept_then a b c pa pb (i + 1) xs ys zs k.1 m.1)

pub kept_more : (a c : List ℕ) → Part a c → (i : ℕ) (xs ys : List Symbolic) → Kept a i xs ys → Kept c i xs ys
kept_more a c pa i [] [] k = tt
kept_more a c pa i [] (y ∷ ys) k = k
kept_more a c pa i (x ∷ xs) [] k = k
kept_more a c pa i (x ∷ xs) (y ∷ ys) k = ((λ o. k.0 (pa i o)), kept_more a c pa (i + 1) xs ys k.1)

pub kept_set : (n i j : ℕ) (xs : List Symbolic) (v : Symbolic) → n ≡ i + j → Kept (n ∷ []) i xs (slice_set xs j v)
kept_set n i j [] v at_place = tt
kept_set n i zero (x ∷ xs) v at_place = ((λ o. absurd (true≢false (sym (eq-eqb n i (omega (arith, at_place))) ∙ (or_parts (n == i) false o).0))), kept_self (n ∷ []) (i + 1) xs)
kept_set n i (suc j) (x ∷ xs) v at_place = ((λ o. refl), kept_set n (i + 1) j xs v (omega (arith, at_place)))

-- a state that code comes to
pub record Goes (set : List ℕ) (st t : State) : Type 0 where
  pub within : IsWithin (count_of st) (count_of t)
  pub locals : Kept set 0 st.locals t.locals

pub goes_self : (set : List ℕ) (st : State) → Goes set st st
goes_self set st = record { within = within_self (count_of st); locals = kept_self set 0 st.locals }

pub goes_then : (a b c : List ℕ) → Part a c → Part b c → (st t u : State) → Goes a st t → Goes b t u → Goes c st u
goes_then a b c pa pb st t u x y = record { within = within_then (count_of st) (count_of t) (count_of u) x.within y.within; locals = kept_then a b c pa pb 0 st.locals t.locals u.locals x.locals y.locals }

pub goes_more : (a c : List ℕ) → Part a c → (st t : State) → Goes a st t → Goes c st t
goes_more a c pa st t x = record { within = x.within; locals = kept_more a c pa 0 st.locals t.locals x.locals }

-- code that sets nothing, and then
pub goes_on : (set : List ℕ) (st t u : State) → Goes [] st t → Goes set t u → Goes set st u
goes_on set st t u x y = goes_then [] set set (none_out set) (part_self set) st t u x y

pub goes_still : (set : List ℕ) (st t u : State) → Goes set st t → Goes [] t u → Goes set st u
goes_still set st t u x y = goes_then set [] set (part_self set) (none_out set) st t u x y

-- Facts and checks leave what is given.

pub gives_facts : {A : Type 0} (fs : List Formula) (t : Execution A) → (all_facts fs t).gives ≡ t.gives
gives_facts [] t = refl
gives_facts (f ∷ fs) t = gives_facts fs t

-- Behind two ways.

same_kind_self : (a : Kind) → same_kind a a ≡ true
same_kind_self a = eq-eqb (kind_number a) (kind_number a) refl

same_int_self : (z : ℤ) → same_int z z ≡ true
same_int_self (pos n) = eq-eqb n n refl
same_int_self (negsuc n) = eq-eqb n n refl

mutual
  pub same_self : (f : Formula) → same f f ≡ true
  same_self (Node a n fs) = both_and (same_kind a a) (same_int n n && same_all fs fs) (same_kind_self a) (both_and (same_int n n) (same_all fs fs) (same_int_self n) (same_all_self fs))

  same_all_self : (fs : Formulas) → same_all fs fs ≡ true
  same_all_self Stop = refl
  same_all_self (With f fs) = both_and (same f f) (same_all fs fs) (same_self f) (same_all_self fs)

pub same_symbolic_self : (x : Symbolic) → same_symbolic x x ≡ true
same_symbolic_self (Truth x) = same_self x
same_symbolic_self (Number x) = same_self x
same_symbolic_self (Reference x) = same_self x

pub same_both : (x y w : Symbolic) → x ≡ w → y ≡ w → same_symbolic x y ≡ true
same_both x y w a b = subst (λ u. same_symbolic u y ≡ true) (sym a) (subst (λ u. same_symbolic w u ≡ true) (sym b) (same_symbolic_self w))

-- what the joined state has of the variables from number i on, which have these terms before
pub record Joins (set : List ℕ) (i : ℕ) (ws : List Symbolic) (st : State) (j : Joined) : Type 0 where
  pub within : IsWithin (count_of st) (count_of j.state)
  pub locals : Kept set i ws j.locals

pub new_like_grows : (x : Symbolic) (st : State) → IsWithin (count_of st) (count_of (new_like x st).state)
new_like_grows (Truth x) st = record { integers = omega arith; references = omega arith; heaps = omega arith }
new_like_grows (Number x) st = record { integers = omega arith; references = omega arith; heaps = omega arith }
new_like_grows (Reference x) st = record { integers = omega arith; references = omega arith; heaps = omega arith }

join_step : (set : List ℕ) (b s : Bool) (i : ℕ) (w x y : Symbolic) (ws : List Symbolic) (rest : State → Joined) (st : State) → s ≡ same_symbolic x y → (Out set i → x ≡ w) → (Out set i → y ≡ w) → ((t : State) → Joins set (i + 1) ws t (rest t)) → Joins set i (w ∷ ws) st (join_one (if b then Keeps w else (if s then Keeps x else Differs x y)) rest st)
join_step set true s i w x y ws rest st is kx ky more = let m = more st in record { within = m.within; locals = ((λ o. refl), m.locals) }
join_step set false true i w x y ws rest st is kx ky more = let m = more st in record { within = m.within; locals = (kx, m.locals) }
join_step set false false i w x y ws rest st is kx ky more =
    let m = more (new_like x st).state in
    record {
      within = within_then (count_of st) (count_of (new_like x st).state) (count_of (rest (new_like x st).state).state) (new_like_grows x st) m.within;
      locals = ((λ o. absurd (true≢false (sym (same_both x y w (kx o) (ky o)) ∙ sym is))), m.locals);
    }

pub join_kept : (set ds : List ℕ) (i : ℕ) (ws xs ys : List Symbolic) (st : State) → Kept set i ws xs → Kept set i ws ys → Joins set i ws st (join_locals ds i ws xs ys st)
join_kept set ds i [] xs ys st kx ky = record { within = within_self (count_of st); locals = tt }
join_kept set ds i (w ∷ ws) [] ys st kx ky = absurd kx
join_kept set ds i (w ∷ ws) (x ∷ xs) [] st kx ky = absurd ky
join_kept set ds i (w ∷ ws) (x ∷ xs) (y ∷ ys) st kx ky =
    join_step set (is_of ds i) (same_symbolic x y) i w x y ws (λ t. join_locals ds (i + 1) ws xs ys t) st refl kx.0 ky.0 (λ t. join_kept set ds (i + 1) ws xs ys t kx.1 ky.1)

grows_step : (b s : Bool) (w x y : Symbolic) (rest : State → Joined) (st : State) → ((t : State) → IsWithin (count_of t) (count_of (rest t).state)) → IsWithin (count_of st) (count_of (join_one (if b then Keeps w else (if s then Keeps x else Differs x y)) rest st).state)
grows_step true s w x y rest st more = more st
grows_step false true w x y rest st more = more st
grows_step false false w x y rest st more = within_then (count_of st) (count_of (new_like x st).state) (count_of (rest (new_like x st).state).state) (new_like_grows x st) (more (new_like x st).state)

-- joining variables makes constants, whatever the ends are
join_grows : (ds : List ℕ) (i : ℕ) (ws xs ys : List Symbolic) (st : State) → IsWithin (count_of st) (count_of (join_locals ds i ws xs ys st).state)
join_grows ds i [] xs ys st = within_self (count_of st)
join_grows ds i (w ∷ ws) [] ys st = within_self (count_of st)
join_grows ds i (w ∷ ws) (x ∷ xs) [] st = within_self (count_of st)
join_grows ds i (w ∷ ws) (x ∷ xs) (y ∷ ys) st = grows_step (is_of ds i) (same_symbolic x y) w x y (λ t. join_locals ds (i + 1) ws xs ys t) st (λ t. join_grows ds (i + 1) ws xs ys t)

heaps_step : (b : Bool) (x : Formula) (j : Joined) → let k = if b then j else with_heap_joint x j (new_heap j.state) in IsWithin (count_of j.state) (count_of k.state) × (k.locals ≡ j.locals)
heaps_step true x j = (within_self (count_of j.state), refl)
heaps_step false x j = (record { integers = omega arith; references = omega arith; heaps = omega arith }, refl)

pub meet_grows : (ds : List ℕ) (st : State) (b : Formula) (r s : Bool) (x y : Execution State) → IsWithin (count_of y.gives) (count_of (join_branches ds st b r s x y).gives)
meet_grows ds st b r s x y =
    let j = join_locals ds 0 st.locals x.gives.locals y.gives.locals y.gives in
    within_then (count_of y.gives) (count_of j.state) (count_of (join_heaps x.gives.heap j).state) (join_grows ds 0 st.locals x.gives.locals y.gives.locals y.gives) (heaps_step (same x.gives.heap j.state.heap) x.gives.heap j).0

pub goes_meet : (set ds : List ℕ) (st : State) (b : Formula) (r s : Bool) (x y : Execution State) → Goes set (without_deferred st) x.gives → Goes set (with_counters st x.gives) y.gives → Goes set st (join_branches ds st b r s x y).gives
goes_meet set ds st b r s x y gx gy =
    let j = join_locals ds 0 st.locals x.gives.locals y.gives.locals y.gives in
    let joins = join_kept set ds 0 st.locals x.gives.locals y.gives.locals y.gives gx.locals gy.locals in
    record {
      within = within_then (count_of st) (count_of x.gives) (count_of (join_branches ds st b r s x y).gives) gx.within (within_then (count_of x.gives) (count_of y.gives) (count_of (join_branches ds st b r s x y).gives) gy.within (meet_grows ds st b r s x y));
      locals = subst (λ ls. Kept set 0 st.locals ls) (sym (heaps_step (same x.gives.heap j.state.heap) x.gives.heap j).1) joins.locals;
    }
