-- What concrete expressions may be: integers, NULL, or pointers to structs.
use Rattle.std.proofs.Common.{◌≡◌, ℕ, ◌==◌, Bool, true, false, cond, not, ◌&&◌, ◌||◌, Some, None, slice_get, ◌⊎◌, inl, inr, ⊎_elim, refl, sym, subst}
use Rattle.std.proofs.lemmas.Bool.{eqb-true}
use Rattle.object_types.specs.declared.references.Ref.{Ref}
use Rattle.object_types.specs.declared.values.Value.{Value}
use Rattle.object_types.specs.declared.values.Value.TheVariants.{Int, Ref as Refers}
use Rattle.method.specs.declared.program.DeclaredType.{DeclaredType}
use Rattle.method.specs.declared.program.DeclaredType.TheVariants.{Integer, Pointer, Object, Claim}
use Rattle.method.specs.declared.program.Expr.{Expr}
use Rattle.method.specs.declared.program.Expr.TheVariants.{Number, Null, Variable, Field', Not', Negate', Arithmetic', Compare', And', Or', Choose', Convert'}
use Rattle.method.specs.declared.program.VariableInfo.{VariableInfo}
use Rattle.method.specs.declared.program.FieldInfo.{FieldInfo}
use Rattle.method.specs.declared.program.FunctionInfo.{FunctionInfo}
use Rattle.method.specs.declared.program.Program.{Program}
use Rattle.object_types.specs.References.{null, is_null}
use Rattle.object_types.specs.Values.{referent}
use Rattle.object_types.specs.Heap.{Heap}
use Rattle.method.specs.Tables.{in_type, is_struct}
use Rattle.method.specs.WellFormed.{WellFormed}
use Rattle.method.specs.Typing.{Values, Ints, Nulls, Refs, values, and_then, field_values, declared, converts, only_if, are_ints, are_refs, all_of, truth_values, compares_refs, left_fits, either, lesser, greater}
use Rattle.method.proofs.Global.{and_both, same_ref_self}
use Rattle.machine_laws.proofs.Typed.{is_of, field_inversion, and_then_some, only_if_some, some_is, every_at, or_cases, not_both}
use Rattle.plain_machine.specs.PlainCode.{is_ghost_field, ghost_variable, ghost_field}
use Rattle.plain_machine.specs.GhostApart.{GhostApart, concrete, is_plain_type}
use Rattle.erasure_law.proofs.Exprs.{is_alive, not_null}

-- integers, NULL or pointers
abbrev pub plain_values : Values → Bool
plain_values (Ints low high) = true
plain_values Nulls = true
plain_values (Refs (Integer c)) = false
plain_values (Refs (Pointer n)) = true
plain_values (Refs Object) = false
plain_values (Refs Claim) = false

pub unghost : (b : Bool) → not b ≡ true → b ≡ false
unghost true e = absurd (not_both false e refl)
unghost false e = refl

declared_plain : (ty : DeclaredType) → is_plain_type ty ≡ true → plain_values (declared ty) ≡ true
declared_plain (Integer c) e = refl
declared_plain (Pointer n) e = refl
declared_plain Object e = absurd (not_both false e refl)
declared_plain Claim e = absurd (not_both false e refl)

-- what isn't ghost has a type of C
declared_of : (ghost : Bool) (ty : DeclaredType) → ghost || is_plain_type ty ≡ true → not ghost ≡ true → plain_values (declared ty) ≡ true
declared_of true ty e g = absurd (not_both false g refl)
declared_of false ty e g = declared_plain ty e

only_plain : (b : Bool) (v u : Values) → plain_values v ≡ true → only_if b v ≡ Some u → plain_values u ≡ true
only_plain b v u k e = subst (λ w. plain_values w ≡ true) (only_if_some b v u e).1 k

some_plain : (v u : Values) → plain_values v ≡ true → Some v ≡ Some u → plain_values u ≡ true
some_plain v u k e = subst (λ w. plain_values w ≡ true) (some_is v u e) k

refs_plain : (a b : DeclaredType) (u : Values) (s t : Bool) → plain_values (Refs a) ≡ true → plain_values (Refs b) ≡ true → cond s (Some (Refs b)) (cond t (Some (Refs a)) None) ≡ Some u → plain_values u ≡ true
refs_plain a b u true t x y e = some_plain (Refs b) u y e
refs_plain a b u false true x y e = some_plain (Refs a) u x e
refs_plain a b u false false x y e = absurd (cc)

either_kind : (a b u : Values) → plain_values a ≡ true → plain_values b ≡ true → either a b ≡ Some u → plain_values u ≡ true
either_kind (Ints a b) (Ints c d) u x y e = some_plain (Ints (lesser a c) (greater b d)) u refl e
either_kind (Ints a b) Nulls u x y e = absurd (cc)
either_kind (Ints a b) (Refs ty) u x y e = absurd (cc)
either_kind Nulls (Ints c d) u x y e = absurd (cc)
either_kind Nulls Nulls u x y e = some_plain Nulls u refl e
either_kind Nulls (Refs ty) u x y e = some_plain (Refs ty) u y e
either_kind (Refs ty) (Ints c d) u x y e = absurd (cc)
either_kind (Refs ty) Nulls u x y e = some_plain (Refs ty) u x e
either_kind (Refs a) (Refs b) u x y e = refs_plain a b u (converts a b) (converts b a) x y e

module _ (p : Program) (apart : GhostApart p) (k : ℕ) (f : FunctionInfo) (is : slice_get p.functions.items k ≡ Some f) where
  -- the values of a concrete expression
  pub value_kind : (e : Expr) (u : Values) → values p f e ≡ Some u → concrete p f e ≡ true → plain_values u ≡ true
  value_kind (Number z) u t c = some_plain (Ints z z) u refl t
  value_kind Null u t c = some_plain Nulls u refl t
  value_kind (Variable i) u t c =
      let b = and_then_some (slice_get f.variables.items i) (λ (v : VariableInfo). Some (declared v.ty)) u t in
      some_plain (declared b.first.ty) u (declared_of b.first.is_ghost b.first.ty (every_at (λ (v : VariableInfo). v.is_ghost || is_plain_type v.ty) f.variables.items i b.first (apart.variables k f is) b.is) (subst (λ o. not (ghost_variable o) ≡ true) b.is c)) b.gives
  value_kind (Field' q x g) u t c =
      let b = and_then_some (values p f x) (λ v. field_values v (slice_get p.fields.items g)) u t in
      let d = field_inversion b.first (slice_get p.fields.items g) u b.gives in
      subst (λ w. plain_values w ≡ true) d.3 (declared_of d.0.is_ghost d.0.ty (every_at (λ (i : FieldInfo). i.is_ghost || is_plain_type i.ty) p.fields.items g d.0 apart.fields d.1) (subst (λ o. not (ghost_field o) ≡ true) d.1 (and_both (concrete p f x) (not (is_ghost_field p g)) c).1))
  value_kind (Not' q x) u t c = let b = and_then_some (values p f x) (λ v. Some truth_values) u t in some_plain truth_values u refl b.gives
  value_kind (Negate' q x r) u t c = let b = and_then_some (values p f x) (λ v. only_if (are_ints v) (all_of r)) u t in only_plain (are_ints b.first) (all_of r) u refl b.gives
  value_kind (Arithmetic' op q x r y s) u t c =
      let b = and_then_some (values p f x) (λ v. and_then (values p f y) (λ w. only_if ((are_ints v && are_ints w) && left_fits op v s) (all_of s))) u t in
      let d = and_then_some (values p f y) (λ w. only_if ((are_ints b.first && are_ints w) && left_fits op b.first s) (all_of s)) u b.gives in
      only_plain ((are_ints b.first && are_ints d.first) && left_fits op b.first s) (all_of s) u refl d.gives
  value_kind (Compare' o q x r y) u t c =
      let b = and_then_some (values p f x) (λ v. and_then (values p f y) (λ w. only_if ((are_ints v && are_ints w) || (compares_refs o && (are_refs v && are_refs w))) truth_values)) u t in
      let d = and_then_some (values p f y) (λ w. only_if ((are_ints b.first && are_ints w) || (compares_refs o && (are_refs b.first && are_refs w))) truth_values) u b.gives in
      only_plain ((are_ints b.first && are_ints d.first) || (compares_refs o && (are_refs b.first && are_refs d.first))) truth_values u refl d.gives
  value_kind (And' q x r y) u t c =
      let b = and_then_some (values p f x) (λ v. and_then (values p f y) (λ w. Some truth_values)) u t in
      let d = and_then_some (values p f y) (λ w. Some truth_values) u b.gives in
      some_plain truth_values u refl d.gives
  value_kind (Or' q x r y) u t c =
      let b = and_then_some (values p f x) (λ v. and_then (values p f y) (λ w. Some truth_values)) u t in
      let d = and_then_some (values p f y) (λ w. Some truth_values) u b.gives in
      some_plain truth_values u refl d.gives
  value_kind (Choose' q x r y s z) u t c =
      let b = and_then_some (values p f x) (λ v. and_then (values p f y) (λ w. and_then (values p f z) (λ t. either w t))) u t in
      let d = and_then_some (values p f y) (λ w. and_then (values p f z) (λ t. either w t)) u b.gives in
      let g = and_then_some (values p f z) (λ t. either d.first t) u d.gives in
      let cs = and_both (concrete p f x) (concrete p f y && concrete p f z) c in
      let cz = and_both (concrete p f y) (concrete p f z) cs.1 in
      either_kind d.first g.first u (value_kind y d.first d.is cz.0) (value_kind z g.first g.is cz.1) g.gives
  value_kind (Convert' q x r) u t c = let b = and_then_some (values p f x) (λ v. only_if (are_ints v) (all_of r)) u t in only_plain (are_ints b.first) (all_of r) u refl b.gives

-- so what it refers to is NULL or a struct
abbrev pub NullOrStruct : Program → Ref → Type 0
NullOrStruct p o = (is_null o ≡ true) ⊎ (is_struct p o.ty ≡ true)

pub kind_struct : (p : Program) (vs : Values) (v : Value) → plain_values vs ≡ true → is_of p vs v ≡ true → NullOrStruct p (referent v)
unfolding in_type
kind_struct p (Ints low high) (Int z) k i = inl (same_ref_self null)
kind_struct p (Ints low high) (Refers r) k i = absurd (not_both false i refl)
kind_struct p Nulls (Int z) k i = absurd (not_both false i refl)
kind_struct p Nulls (Refers r) k i = inl i
kind_struct p (Refs (Integer c)) v k i = absurd (not_both false k refl)
kind_struct p (Refs Object) v k i = absurd (not_both false k refl)
kind_struct p (Refs Claim) v k i = absurd (not_both false k refl)
kind_struct p (Refs (Pointer n)) (Int z) k i = absurd (not_both false i refl)
kind_struct p (Refs (Pointer n)) (Refers r) k i =
    let b = and_both (is_struct p n) (is_null r || (r.ty == n)) i in
    ⊎_elim
    (λ e. inl e)
    (λ e. inr (subst (λ m. is_struct p m ≡ true) (sym (eqb-true r.ty n e)) b.0))
    (or_cases (is_null r) (r.ty == n) b.1)

-- and a struct, if it is alive
pub alive_struct : (p : Program) (h : Heap) → WellFormed p h → (o : Ref) → NullOrStruct p o → is_alive h o ≡ true → is_struct p o.ty ≡ true
alive_struct p h wf o (inl e) a = absurd (not_null p h wf o a e)
alive_struct p h wf o (inr e) a = e
