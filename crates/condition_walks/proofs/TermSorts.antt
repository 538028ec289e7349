-- The terms of variables have the sorts of their types, wherever a typed text goes.
use Rattle.std.proofs.Common.{◌≡◌, ℕ, zero, suc, ◌+◌, ◌==◌, Bool, true, false, cond, ◌&&◌, ◌||◌, if◌then◌else◌, List, [], ◌∷◌, slice_get, slice_set, Option, Some, None, pos, refl, ap, sym, ◌∙◌, subst}
use Rattle.int_ranges.specs.declared.ctype.CType.{CType}
use Rattle.method.specs.declared.program.DeclaredType.{DeclaredType}
use Rattle.method.specs.declared.program.DeclaredType.TheVariants.{Integer, Pointer, Object, Claim}
use Rattle.method.specs.declared.program.Operator.{Operator}
use Rattle.method.specs.declared.program.Operator.TheVariants as o
use Rattle.method.specs.declared.program.Expr.{Expr}
use Rattle.method.specs.declared.program.Expr.TheVariants as x
use Rattle.method.specs.declared.program.VariableInfo.{VariableInfo}
use Rattle.method.specs.declared.program.FieldInfo.{FieldInfo}
use Rattle.method.specs.declared.program.FunctionInfo.{FunctionInfo}
use Rattle.method.specs.declared.program.Program.{Program}
use Rattle.method.specs.Tables.{type_of_field, field_type}
use Rattle.method.specs.Typing.{Values, Ints, Nulls, Refs, all_of, declared, converts, are_ints, are_refs, either, either_ref, only_if, and_then, truth_values, compares_refs, left_fits, point_to, field_values, values}
use Rattle.machine_laws.proofs.Typed.{and_then_some, only_if_some, some_is}
use Rattle.terms.specs.Formula.{Formula}
use Rattle.conditions.specs.Formulas.{ite, get, field_column}
use Rattle.conditions.specs.Symbolic.{Symbolic, Truth, Number, Reference, is_int, term, test, choose, symbolic_of_type, ranges}
use Rattle.conditions.specs.Annotations.{symbolic_at}
use Rattle.conditions.specs.Paths.{Execution, Gives}
use Rattle.conditions.specs.Code.{Spot, State, ValueAndState, new_of, new_value, arithmetic, code}
use Rattle.conditions.specs.Actions.{Joined, Keeps, Differs, is_of, new_like, join_one, join_locals, with_heap_joint, join_branches}
use Rattle.conditions.specs.Code.{new_heap}
use Rattle.conditions.specs.Formulas.{same}
use Rattle.conditions.specs.Symbolic.{same_symbolic}
use Rattle.conditions.proofs.Hiding.{Alike, AllAlike}
use Rattle.condition_walks.proofs.Kept.{gives_facts}

-- the term is of an integer
abbrev pub is_whole : Symbolic → Bool
is_whole (Truth x) = true
is_whole (Number x) = true
is_whole (Reference x) = false

-- a term is of the type's sort
abbrev pub OfType : DeclaredType → Symbolic → Type 0
OfType ty w = is_whole w ≡ are_ints (declared ty)

-- each variable's term is of the sort of its type
abbrev pub AllSorted : List VariableInfo → List Symbolic → Type 0
AllSorted [] [] = Unit {0}
AllSorted [] (w ∷ ws) = ⊥
AllSorted (v ∷ vs) [] = ⊥
AllSorted (v ∷ vs) (w ∷ ws) = OfType v.ty w × AllSorted vs ws

pub at_sorted : (vs : List VariableInfo) (ws : List Symbolic) (i : ℕ) (v : VariableInfo) → AllSorted vs ws → slice_get vs i ≡ Some v → OfType v.ty (symbolic_at ws i)
at_sorted [] ws i v s e = absurd (cc)
at_sorted (u ∷ vs) [] i v s e = absurd s
at_sorted (u ∷ vs) (w ∷ ws) zero v s e = subst (λ (u : VariableInfo). OfType u.ty w) (some_is u v e) s.0
at_sorted (u ∷ vs) (w ∷ ws) (suc i) v s e = at_sorted vs ws i v s.1 e

pub set_sorted : (vs : List VariableInfo) (ws : List Symbolic) (i : ℕ) (w : Symbolic) → ((v : VariableInfo) → slice_get vs i ≡ Some v → OfType v.ty w) → AllSorted vs ws → AllSorted vs (slice_set ws i w)
set_sorted [] [] i w h s = tt
set_sorted [] (x ∷ ws) i w h s = absurd s
set_sorted (u ∷ vs) [] i w h s = absurd s
set_sorted (u ∷ vs) (x ∷ ws) zero w h s = (h u refl, s.1)
set_sorted (u ∷ vs) (x ∷ ws) (suc i) w h s = (s.0, set_sorted vs ws i w h s.1)

pub of_type_sort : (ty : DeclaredType) (x : Formula) → OfType ty (symbolic_of_type ty x)
of_type_sort (Integer c) x = refl
of_type_sort (Pointer n) x = refl
of_type_sort Object x = refl
of_type_sort Claim x = refl

pub new_of_sort : (ty : DeclaredType) (st : State) → OfType ty (new_of ty st).value
new_of_sort (Integer c) st = refl
new_of_sort (Pointer n) st = refl
new_of_sort Object st = refl
new_of_sort Claim st = refl

pub new_value_sort : (ty : DeclaredType) (st : State) → OfType ty (new_value ty st).gives.value
new_value_sort ty st = subst (λ (v : ValueAndState). OfType ty v.value) (sym (gives_facts (ranges ty (term (new_of ty st).value)) (Gives (new_of ty st)))) (new_of_sort ty st)

choose_sort : (b : Formula) (v w : Symbolic) → is_whole (choose b v w) ≡ is_whole v
choose_sort b (Truth x) w = refl
choose_sort b (Reference x) w = refl
choose_sort b (Number x) w = either_way (is_int (pos 1) (Number x) && is_int (pos 0) w)
  where
    either_way : (c : Bool) → is_whole (if c then Truth b else Number (ite b x (term w))) ≡ true
    either_way true = refl
    either_way false = refl

new_like_sort : (x : Symbolic) (st : State) → is_whole (new_like x st).value ≡ is_whole x
new_like_sort (Truth x) st = refl
new_like_sort (Number x) st = refl
new_like_sort (Reference x) st = refl

-- Behind two ways.

joined_step : (vs : List VariableInfo) (ty : DeclaredType) (b s : Bool) (w x y : Symbolic) (rest : State → Joined) (st : State) → OfType ty w → OfType ty x → ((t : State) → AllSorted vs (rest t).locals)
    → (v : VariableInfo) → v.ty ≡ ty → AllSorted (v ∷ vs) (join_one (if b then Keeps w else (if s then Keeps x else Differs x y)) rest st).locals
joined_step vs ty true s w x y rest st sw sx more v is = (subst (λ t. OfType t w) (sym is) sw, more st)
joined_step vs ty false true w x y rest st sw sx more v is = (subst (λ t. OfType t x) (sym is) sx, more st)
joined_step vs ty false false w x y rest st sw sx more v is = (subst (λ t. OfType t (new_like x st).value) (sym is) (new_like_sort x st ∙ sx), more (new_like x st).state)

join_sorted : (vs : List VariableInfo) (ds : List ℕ) (i : ℕ) (ws xs ys : List Symbolic) (st : State) → AllSorted vs ws → AllSorted vs xs → AllSorted vs ys → AllSorted vs (join_locals ds i ws xs ys st).locals
join_sorted [] ds i [] xs ys st sw sx sy = tt
join_sorted [] ds i (w ∷ ws) xs ys st sw sx sy = absurd sw
join_sorted (v ∷ vs) ds i [] xs ys st sw sx sy = absurd sw
join_sorted (v ∷ vs) ds i (w ∷ ws) [] ys st sw sx sy = absurd sx
join_sorted (v ∷ vs) ds i (w ∷ ws) (x ∷ xs) [] st sw sx sy = absurd sy
join_sorted (v ∷ vs) ds i (w ∷ ws) (x ∷ xs) (y ∷ ys) st sw sx sy =
    joined_step vs v.ty (is_of ds i) (same_symbolic x y) w x y (λ t. join_locals ds (i + 1) ws xs ys t) st sw.0 sx.0 (λ t. join_sorted vs ds (i + 1) ws xs ys t sw.1 sx.1 sy.1) v refl

heaps_locals : (b : Bool) (x : Formula) (j : Joined) → (if b then j else with_heap_joint x j (new_heap j.state)).locals ≡ j.locals
heaps_locals true x j = refl
heaps_locals false x j = refl

pub meet_sorted : (vs : List VariableInfo) (ds : List ℕ) (st : State) (b : Formula) (r s : Bool) (x y : Execution State) → AllSorted vs st.locals → AllSorted vs x.gives.locals → AllSorted vs y.gives.locals → AllSorted vs (join_branches ds st b r s x y).gives.locals
meet_sorted vs ds st b r s x y sw sx sy =
    let j = join_locals ds 0 st.locals x.gives.locals y.gives.locals y.gives in
    subst (λ ls. AllSorted vs ls) (sym (heaps_locals (same x.gives.heap j.state.heap) x.gives.heap j)) (join_sorted vs ds 0 st.locals x.gives.locals y.gives.locals y.gives sw sx sy)

alike_from : (x y : Symbolic) (b : Bool) → is_whole x ≡ b → is_whole y ≡ b → Alike x y
alike_from (Truth x) (Truth y) b h k = tt
alike_from (Truth x) (Number y) b h k = tt
alike_from (Truth x) (Reference y) b h k = absurd (let z = h ∙ sym k in cc)
alike_from (Number x) (Truth y) b h k = tt
alike_from (Number x) (Number y) b h k = tt
alike_from (Number x) (Reference y) b h k = absurd (let z = h ∙ sym k in cc)
alike_from (Reference x) (Truth y) b h k = absurd (let z = h ∙ sym k in cc)
alike_from (Reference x) (Number y) b h k = absurd (let z = h ∙ sym k in cc)
alike_from (Reference x) (Reference y) b h k = tt

pub all_alike : (vs : List VariableInfo) (xs ys : List Symbolic) → AllSorted vs xs → AllSorted vs ys → AllAlike xs ys
all_alike [] [] ys sx sy = tt
all_alike [] (x ∷ xs) ys sx sy = absurd sx
all_alike (v ∷ vs) [] ys sx sy = absurd sx
all_alike (v ∷ vs) (x ∷ xs) [] sx sy = absurd sy
all_alike (v ∷ vs) (x ∷ xs) (y ∷ ys) sx sy = (alike_from x y (are_ints (declared v.ty)) sx.0 sy.0, all_alike vs xs ys sx.1 sy.1)

-- Expressions.

either_ref_sort : (a b : DeclaredType) (u : Values) → are_ints (Refs a) ≡ are_ints (Refs b) → either_ref a b ≡ Some u → are_ints u ≡ false
either_ref_sort a b u s e = by (converts a b) (converts b a) e
  where
    by : (x y : Bool) → cond x (Some (Refs b)) (cond y (Some (Refs a)) None) ≡ Some u → are_ints u ≡ false
    by true y e = ap are_ints (sym (some_is (Refs b) u e))
    by false true e = ap are_ints (sym (some_is (Refs a) u e))
    by false false e = absurd (cc)

pub either_sort : (a b u : Values) → either a b ≡ Some u → (are_ints u ≡ are_ints a) × (are_ints u ≡ are_ints b)
either_sort (Ints x y) (Ints z w) u e = let s = ap are_ints (sym (some_is _ u e)) in (s, s)
either_sort (Ints x y) Nulls u e = absurd (cc)
either_sort (Ints x y) (Refs ty) u e = absurd (cc)
either_sort Nulls (Ints z w) u e = absurd (cc)
either_sort Nulls Nulls u e = let s = ap are_ints (sym (some_is _ u e)) in (s, s)
either_sort Nulls (Refs ty) u e = let s = ap are_ints (sym (some_is _ u e)) in (s, s)
either_sort (Refs ty) (Ints z w) u e = absurd (cc)
either_sort (Refs ty) Nulls u e = let s = ap are_ints (sym (some_is _ u e)) in (s, s)
either_sort (Refs a) (Refs b) u e = let s = either_ref_sort a b u refl e in (s, s)

module _ (p : Program) (f : FunctionInfo) (a : Spot) (st : State) (sorted : AllSorted f.variables.items st.locals) where
  field_sort : (g : ℕ) (o : Option FieldInfo) (v u : Values) (x : Formula) → slice_get p.fields.items g ≡ o → field_values v o ≡ Some u → is_whole (symbolic_of_type (type_of_field p g) x) ≡ are_ints u
  field_sort g None v u x is e = absurd (cc)
  field_sort g (Some i) v u x is e = of_type_sort (type_of_field p g) x ∙ ap (λ o. are_ints (declared (field_type o))) is ∙ ap are_ints (only_if_some (point_to (λ n. n == i.of) v) (declared i.ty) u e).1

  arithmetic_sort : (op : Operator) (c : CType) (x y : Formula) → is_whole (arithmetic p a op c x y).gives ≡ true
  arithmetic_sort o.Plus c x y = refl
  arithmetic_sort o.Minus c x y = refl
  arithmetic_sort o.Times c x y = refl
  arithmetic_sort o.Over c x y = refl
  arithmetic_sort o.Modulo c x y = refl

  -- the term of an expression is of the sort that the typing says
  pub code_sort : (c : Expr) (u : Values) → values p f c ≡ Some u → is_whole (code p a st c).gives ≡ are_ints u
  code_sort (x.Number z) u e = ap are_ints (some_is (Ints z z) u e)
  code_sort x.Null u e = ap are_ints (some_is Nulls u e)
  code_sort (x.Variable i) u e =
      let b = and_then_some (slice_get f.variables.items i) (λ (v : VariableInfo). Some (declared v.ty)) u e in
      at_sorted f.variables.items st.locals i b.first sorted b.is ∙ ap are_ints (some_is (declared b.first.ty) u b.gives)
  code_sort (x.Field' q y g) u e =
      let b = and_then_some (values p f y) (λ v. field_values v (slice_get p.fields.items g)) u e in
      field_sort g (slice_get p.fields.items g) b.first u (get (field_column g) st.heap (term (code p a st y).gives ∷ [])) refl b.gives
  code_sort (x.Not' q y) u e = let b = and_then_some (values p f y) (λ v. Some truth_values) u e in ap are_ints (some_is truth_values u b.gives)
  code_sort (x.Negate' q y c) u e = let b = and_then_some (values p f y) (λ v. only_if (are_ints v) (all_of c)) u e in ap are_ints (only_if_some (are_ints b.first) (all_of c) u b.gives).1
  code_sort (x.Arithmetic' op q y r z c) u e =
      let b = and_then_some (values p f y) (λ v. and_then (values p f z) (λ w. only_if ((are_ints v && are_ints w) && left_fits op v c) (all_of c))) u e in
      let d = and_then_some (values p f z) (λ w. only_if ((are_ints b.first && are_ints w) && left_fits op b.first c) (all_of c)) u b.gives in
      arithmetic_sort op c (term (code p a st y).gives) (term (code p a st z).gives) ∙ ap are_ints (only_if_some ((are_ints b.first && are_ints d.first) && left_fits op b.first c) (all_of c) u d.gives).1
  code_sort (x.Compare' c q y r z) u e =
      let b = and_then_some (values p f y) (λ v. and_then (values p f z) (λ w. only_if ((are_ints v && are_ints w) || (compares_refs c && (are_refs v && are_refs w))) truth_values)) u e in
      let d = and_then_some (values p f z) (λ w. only_if ((are_ints b.first && are_ints w) || (compares_refs c && (are_refs b.first && are_refs w))) truth_values) u b.gives in
      ap are_ints (only_if_some ((are_ints b.first && are_ints d.first) || (compares_refs c && (are_refs b.first && are_refs d.first))) truth_values u d.gives).1
  code_sort (x.And' q y r z) u e = let b = and_then_some (values p f y) (λ v. and_then (values p f z) (λ w. Some truth_values)) u e in let d = and_then_some (values p f z) (λ w. Some truth_values) u b.gives in ap are_ints (some_is truth_values u d.gives)
  code_sort (x.Or' q y r z) u e = let b = and_then_some (values p f y) (λ v. and_then (values p f z) (λ w. Some truth_values)) u e in let d = and_then_some (values p f z) (λ w. Some truth_values) u b.gives in ap are_ints (some_is truth_values u d.gives)
  code_sort (x.Choose' q y r z t w) u e =
      let b = and_then_some (values p f y) (λ v. and_then (values p f z) (λ s. and_then (values p f w) (λ t. either s t))) u e in
      let d = and_then_some (values p f z) (λ s. and_then (values p f w) (λ t. either s t)) u b.gives in
      let k = and_then_some (values p f w) (λ t. either d.first t) u d.gives in
      choose_sort (test (code p a st y).gives) (code p a st z).gives (code p a st w).gives ∙ code_sort z d.first d.is ∙ sym ((either_sort d.first k.first u k.gives).0)
  code_sort (x.Convert' q y c) u e =
      let b = and_then_some (values p f y) (λ v. only_if (are_ints v) (all_of c)) u e in
      let d = only_if_some (are_ints b.first) (all_of c) u b.gives in
      code_sort y b.first b.is ∙ d.0 ∙ ap are_ints d.1
