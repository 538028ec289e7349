-- A place in a function's run and a state of its path, in one environment; expressions of code there.
use Rattle.std.proofs.Common.{◌≡◌, ℕ, zero, suc, ◌+◌, ◌<◌, ◌≤◌, Bool, true, false, List, [], ◌∷◌, length, Option, Some, None, slice_get, refl, ap, sym, ◌∙◌, subst, arith}
use Rattle.std.specs.Prelude.{pos, nat_le}
use Rattle.std.proofs.lemmas.Bool.{leb-true, leb-false}
use Rattle.object_types.specs.declared.references.Ref.{Ref}
use Rattle.object_types.specs.declared.values.Value.{Value}
use Rattle.object_types.specs.declared.values.Value.TheVariants.{Int, Ref as Refers}
use Rattle.object_types.specs.Values.{referent, truth}
use Rattle.object_types.specs.Heap.{Heap}
use Rattle.method.specs.declared.program.DeclaredType.{DeclaredType}
use Rattle.method.specs.declared.program.DeclaredType.TheVariants.{Integer, Pointer, Object, Claim}
use Rattle.method.specs.declared.program.FieldInfo.{FieldInfo}
use Rattle.method.specs.declared.program.Expr.{Expr}
use Rattle.method.specs.declared.program.Expr.TheVariants as x
use Rattle.method.specs.declared.program.FunctionInfo.{FunctionInfo}
use Rattle.method.specs.declared.program.Program.{Program}
use Rattle.method.specs.Tables.{local}
use Rattle.method.specs.Expressions.{Context, Spot as MachineSpot}
use Rattle.method.specs.Typing.{Values, declared, are_ints, field_values, values}
use Rattle.machine_laws.proofs.Typed.{Env, and_then_some}
use Rattle.terms.specs.Formula.{Formula}
use Rattle.term_meaning.specs.Meaning.{Language}
use Rattle.conditions.specs.Formulas.{node, me, any_of, is_any, get, field_column}
use Rattle.conditions.specs.Formulas as f
use Rattle.conditions.specs.Symbolic.{Symbolic, Number, term, test, symbolic_of_type}
use Rattle.conditions.specs.Annotations.{symbolic_at}
use Rattle.conditions.specs.Paths.{Execution}
use Rattle.conditions.specs.Code.{Spot, State}
use Rattle.conditions.specs.Ways.{StandsFor}
use Rattle.conditions.proofs.Expressions.{Uses, Evaluates}
use Rattle.conditions.proofs.Expressions as expressions
use Rattle.condition_meaning.proofs.Environments.{Environment, Has, Is, HeapIs, is_not, is_and, is_or, is_imp, is_eq, is_compare, has_int, has_null, has_ite, has_compute, only_int, is_in_range}
use Rattle.action_conditions.proofs.Sorts.{HasSorts, is_number, int_of, ref_of}
use Rattle.action_conditions.proofs.Words.{Refer}

-- the heap of a well-typed place is one of sorts
pub env_sorts : (p : Program) (f : FunctionInfo) (h : Heap) (l : List Value) → Env p f h l → HasSorts p f h l
env_sorts p f h l env = record { fields = env.heap.heap_of.values_are; locals = env.locals }

-- the field is in the table
abbrev pub Tabled : Program → ℕ → Type 0
Tabled p g = (i : FieldInfo) × (slice_get p.fields.items g ≡ Some i)

-- An expression that the typing passes and that reads nothing hidden.
pub record Fits (p : Program) (f : FunctionInfo) (hid : ℕ → Bool) (y : Expr) : Type 0 where
  pub values_are : Values
  pub typed : values p f y ≡ Some values_are
  pub seen : Uses (λ i. hid i ≡ false) (λ g. Unit {0}) y

-- the same of one that comes to a reference
pub record FitsRef (p : Program) (f : FunctionInfo) (hid : ℕ → Bool) (y : Expr) : Type 0 where
  pub fits : Fits p f hid y
  pub refers : are_ints fits.values_are ≡ false

field_tabled : (p : Program) (v u : Values) (g : ℕ) → field_values v (slice_get p.fields.items g) ≡ Some u → Tabled p g
field_tabled p v u g e = by (slice_get p.fields.items g) refl e
  where
    by : (o : Option FieldInfo) → slice_get p.fields.items g ≡ o → field_values v o ≡ Some u → Tabled p g
    by None is e = absurd (cc)
    by (Some i) is e = (i, is)

module _ (p : Program) (f : FunctionInfo) (Known : ℕ → Type 0) where
  -- fields that a typed expression reads are in the table
  pub uses_typed : (y : Expr) (u : Values) → values p f y ≡ Some u → Uses Known (λ g. Unit {0}) y → Uses Known (Tabled p) y
  uses_typed (x.Number z) u e k = tt
  uses_typed x.Null u e k = tt
  uses_typed (x.Variable i) u e k = k
  uses_typed (x.Field' q a g) u e k = let b = and_then_some (values p f a) (λ v. field_values v (slice_get p.fields.items g)) u e in (uses_typed a b.first b.is k.0, field_tabled p b.first u g b.gives)
  uses_typed (x.Not' q a) u e k = let b = and_then_some (values p f a) _ u e in uses_typed a b.first b.is k
  uses_typed (x.Negate' q a c) u e k = let b = and_then_some (values p f a) _ u e in uses_typed a b.first b.is k
  uses_typed (x.Arithmetic' op q a r b c) u e k = let s = and_then_some (values p f a) _ u e in let d = and_then_some (values p f b) _ u s.gives in (uses_typed a s.first s.is k.0, uses_typed b d.first d.is k.1)
  uses_typed (x.Compare' op q a r b) u e k = let s = and_then_some (values p f a) _ u e in let d = and_then_some (values p f b) _ u s.gives in (uses_typed a s.first s.is k.0, uses_typed b d.first d.is k.1)
  uses_typed (x.And' q a r b) u e k = let s = and_then_some (values p f a) _ u e in let d = and_then_some (values p f b) _ u s.gives in (uses_typed a s.first s.is k.0, uses_typed b d.first d.is k.1)
  uses_typed (x.Or' q a r b) u e k = let s = and_then_some (values p f a) _ u e in let d = and_then_some (values p f b) _ u s.gives in (uses_typed a s.first s.is k.0, uses_typed b d.first d.is k.1)
  uses_typed (x.Choose' q a r b t c) u e k =
      let s = and_then_some (values p f a) _ u e in let d = and_then_some (values p f b) _ u s.gives in let z = and_then_some (values p f c) _ u d.gives in
      (uses_typed a s.first s.is k.0, uses_typed b d.first d.is k.1, uses_typed c z.first z.is k.2)
  uses_typed (x.Convert' q a c) u e k = let b = and_then_some (values p f a) _ u e in uses_typed a b.first b.is k

module _ (l : Language) (t : Ref) where
  -- environments of the language in which this thread runs
  abbrev pub E : Type 0
  E = Environment l t

  -- a symbolic value has this value
  abbrev pub Stands : E → Symbolic → Value → Type 0
  Stands e = StandsFor (Is l t e) (Has l t e)

  -- each term stands for the value at its place
  abbrev pub AllStand : E → List Symbolic → List Value → Type 0
  AllStand e [] [] = Unit {0}
  AllStand e [] (v ∷ vs) = ⊥
  AllStand e (w ∷ ws) [] = ⊥
  AllStand e (w ∷ ws) (v ∷ vs) = Stands e w v × AllStand e ws vs

  -- what stays the same in a function stands for what it is in the run; here it is inside a block that lists these objects, or not
  pub record SpotIs (a : Spot) (x : Context) (inside : Bool) (listed : List Ref) (e : E) : Type 0 where
    pub entry : HeapIs l t e a.entry x.entry
    pub writes : Refer l t e a.writes x.writes
    pub args : AllStand e a.args x.args
    pub inside_is : a.inside ≡ inside
    pub listed_is : Refer l t e a.listed listed

  -- the variables from number i on that aren't hidden have these values
  abbrev pub ShownAt : (ℕ → Bool) → E → ℕ → List Symbolic → (ℕ → Value) → Type 0
  ShownAt hid e i [] value = Unit {0}
  ShownAt hid e i (w ∷ ws) value = (hid i ≡ false → Stands e w (value i)) × ShownAt hid e (i + 1) ws value

  -- a state stands for a heap and variables there
  pub record Stated (hid : ℕ → Bool) (a : Spot) (at_ : MachineSpot) (st : State) (h : Heap) (v : List Value) (e : E) : Type 0 where
    pub spot : SpotIs a at_.context at_.inside at_.listed e
    pub many : length st.locals ≡ length v
    pub heap : HeapIs l t e st.heap h
    pub locals : ShownAt hid e 0 st.locals (local v)

  shown_at : (hid : ℕ → Bool) (e : E) (i : ℕ) (ws : List Symbolic) (value : ℕ → Value) (j : ℕ) → j < length ws → ShownAt hid e i ws value → hid (i + j) ≡ false → Stands e (symbolic_at ws j) (value (i + j))
  shown_at hid e i [] value j less s h = absurd (omega (arith, less))
  shown_at hid e i (w ∷ ws) value zero less s h = subst (λ k. Stands e w (value k)) (omega arith) (s.0 (ap hid (omega arith) ∙ h))
  shown_at hid e i (w ∷ ws) value (suc j) less s h =
      let k : i + suc j ≡ i + 1 + j = omega arith in
      subst (λ n. Stands e (symbolic_at ws j) (value n)) (sym k) (shown_at hid e (i + 1) ws value j (omega (arith, less)) s.1 (ap hid (sym k) ∙ h))

  past_terms : (ws : List Symbolic) (j : ℕ) → length ws ≤ j → symbolic_at ws j ≡ Number (f.nat 0)
  past_terms [] j less = refl
  past_terms (w ∷ ws) zero less = absurd (omega (arith, less))
  past_terms (w ∷ ws) (suc j) less = past_terms ws j (omega (arith, less))

  past_values : (vs : List Value) (j : ℕ) → length vs ≤ j → local vs j ≡ Int (pos 0)
  past_values [] j less = refl
  past_values (v ∷ vs) zero less = absurd (omega (arith, less))
  past_values (v ∷ vs) (suc j) less = past_values vs j (omega (arith, less))

  -- a variable that isn't hidden stands for its value, as many terms being as values
  pub local_stands : (hid : ℕ → Bool) (e : E) (ws : List Symbolic) (vs : List Value) → length ws ≡ length vs → ShownAt hid e 0 ws (local vs) → (i : ℕ) → hid i ≡ false → Stands e (symbolic_at ws i) (local vs i)
  local_stands hid e ws vs same s i h = by (nat_le (length ws) i) refl
    where
      by : (b : Bool) → nat_le (length ws) i ≡ b → Stands e (symbolic_at ws i) (local vs i)
      by true past =
          subst (λ w. Stands e w (local vs i)) (sym (past_terms ws i (leb-true (length ws) i past)))
          (subst (λ (v : Value). Stands e (Number (f.nat 0)) v) (sym (past_values vs i (subst (λ n. n ≤ i) same (leb-true (length ws) i past)))) (pos 0, has_int l t e (pos 0), refl))
      by false within = let z : 0 + i ≡ i = omega arith in subst (λ k. Stands e (symbolic_at ws i) (local vs k)) z (shown_at hid e 0 ws (local vs) i (let k = leb-false (length ws) i within in omega (arith, k)) s (ap hid z ∙ h))

  module _ (e : E) where
    pub stands_term : (w : Symbolic) (v : Value) → Stands e w v → Has l t e (term w) v
    stands_term = expressions.stands_term (Is l t e) (Has l t e) (is_not l t e) (is_and l t e) (is_or l t e) (is_imp l t e) (is_eq l t e) (is_compare l t e) (has_int l t e) (has_null l t e) (has_ite l t e) (has_compute l t e) (only_int l t e) (is_in_range l t e)

    pub stands_test : (w : Symbolic) (v : Value) → Stands e w v → Is l t e (test w) (truth v)
    stands_test = expressions.stands_test (Is l t e) (Has l t e) (is_not l t e) (is_and l t e) (is_or l t e) (is_imp l t e) (is_eq l t e) (is_compare l t e) (has_int l t e) (has_null l t e) (has_ite l t e) (has_compute l t e) (only_int l t e) (is_in_range l t e)

    -- an expression's path has these tests, and its term this value
    abbrev pub TellsIn : Execution Symbolic → List Bool → Value → Type 0
    TellsIn = Evaluates (Is l t e) (Has l t e) (is_not l t e) (is_and l t e) (is_or l t e) (is_imp l t e) (is_eq l t e) (is_compare l t e) (has_int l t e) (has_null l t e) (has_ite l t e) (has_compute l t e) (only_int l t e) (is_in_range l t e)

    -- a value of a type's sort
    pub stands_typed : (ty : DeclaredType) (y : Formula) (v : Value) → Has l t e y v → is_number v ≡ are_ints (declared ty) → Stands e (symbolic_of_type ty y) v
    stands_typed (Integer c) y v h s = let z = int_of v s in (z.0, subst (λ (u : Value). Has l t e y u) z.1 h, z.1)
    stands_typed (Pointer n) y v h s = let z = ref_of v s in (z.0, subst (λ (u : Value). Has l t e y u) z.1 h, z.1)
    stands_typed Object y v h s = let z = ref_of v s in (z.0, subst (λ (u : Value). Has l t e y u) z.1 h, z.1)
    stands_typed Claim y v h s = let z = ref_of v s in (z.0, subst (λ (u : Value). Has l t e y u) z.1 h, z.1)

    -- a reference, where the value is one
    pub stands_ref : (w : Symbolic) (v : Value) → Stands e w v → is_number v ≡ false → Has l t e (term w) (Refers (referent v))
    stands_ref w v s n = let z = ref_of v n in subst (λ (u : Value). Has l t e (term w) u) (z.1 ∙ sym (ap (λ (u : Value). Refers (referent u)) z.1)) (stands_term w v s)
