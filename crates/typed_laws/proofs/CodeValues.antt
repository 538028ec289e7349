-- Code that breaks no rule has values, which are those of its kind.
use Rattle.std.proofs.Common.{◌≡◌, ℕ, ◌==◌, Bool, true, false, cond, not, ◌&&◌, ◌||◌, pos, int_le, List, [], ◌∷◌, ◌++◌, Option, Some, None, position, is_some, nat_lt, slice_get, bytes_eq, refl, sym, ap, ◌∙◌, subst}
use Rattle.std.specs.Option.{option_map, option_and_then}
use Rattle.std.proofs.lemmas.Bool.{true≢false}
use Rattle.std.proofs.lemmas.Option.{same_Some}
use Rattle.int_ranges.specs.declared.ctype.CType.{CType}
use Rattle.int_ranges.specs.declared.ctype.CType.TheVariants as ints
use Rattle.int_ranges.specs.Ranges.{least_of, greatest_of, usual_type}
use Rattle.c_syntax.specs.declared.token.Span.{Span}
use Rattle.c_syntax.specs.declared.tree.UnaryOperator.TheVariants as unary
use Rattle.c_syntax.specs.declared.tree.BinaryOperator.{BinaryOperator}
use Rattle.c_syntax.specs.declared.tree.BinaryOperator.TheVariants as op
use Rattle.c_syntax.specs.Expressions as e
use Rattle.c_syntax.specs.Expressions.{Id, Exp}
use Rattle.c_syntax.specs.Items.{FieldTree, StructTree}
use Rattle.typing_spec.specs.Declarations.{same_name, fields, find_field}
use Rattle.typing_spec.specs.Contexts.{Context, Variable, deeper}
use Rattle.typing_spec.specs.Types as types
use Rattle.typing_spec.specs.Types.{Kind, is_integer, is_pointer, is_scalar, is_reference, kind_of, find_variable, find_own_field, variable_or_field, type_of_name, field_of, unary_fits, binary_fits, left_fits, right_fits, together_fit, branches, conditional_kind, kind}
use Rattle.typing_spec.specs.TypeLaws.{Sound, Quiet}
use Rattle.typing_spec.specs.Places.{fails}
use Rattle.typing_spec.specs.Rules as r
use Rattle.typing_spec.specs.Rules.{Rule}
use Rattle.typing_spec.specs.Names.{may_have}
use Rattle.typing_spec.specs.Operands.{misfit, branches_misfit}
use Rattle.typing_spec.specs.Pieces.{Expression, operand, expression}
use Rattle.method.specs.declared.program.DeclaredType.TheVariants.{Pointer, Object, Claim}
use Rattle.method.specs.declared.program.Operator.{Operator}
use Rattle.method.specs.declared.program.Operator.TheVariants as operators
use Rattle.method.specs.declared.program.Comparison.{Comparison}
use Rattle.method.specs.declared.program.Comparison.TheVariants as comparisons
use Rattle.method.specs.Typing.{Values, Ints, Nulls, Refs, all_of, declared, are_ints, are_refs, only_if, and_then, lesser, greater, either, truth_values, compares_refs}
use Rattle.typed_program.specs.Trees as t
use Rattle.typed_program.specs.Trees.{Code, FunctionInfo, Program}
use Rattle.typed_program.specs.Numbers.{Around, OfQuantifier, OfFunction, meaning_at, place_of, struct_number, field_number, field_of_kind, field_at}
use Rattle.typed_program.specs.Codes.{Operand, integer_of, integer_type, holds_all, conversion, converted_by, converted, code, code_name, common, in_type_of, operand_of}
use Rattle.typed_program.specs.Codes as codes
use Rattle.typed_program.specs.Tables.{field, variable}
use Rattle.tree_forms.specs.InForm.{of_code, is_code}
use Rattle.typed_laws.proofs.Basics.{and_both, and_left, and_right, from_not, or_second, neither, nat_itself, none_below, not_none, same_bytes, find_passes, find_in, find_place}
use Rattle.typed_laws.proofs.Quiet.{quiet_left, quiet_right, quiet_last, not_placed}
use Rattle.typed_laws.proofs.Tests.{values, field_values}
use Rattle.typed_laws.proofs.Order.{least_below, lesser_above, greater_below}
use Rattle.typed_laws.proofs.Facts.{Tables, InCode, Within, Agrees}
use Rattle.typed_laws.proofs.Goals.{CodeLaw}
use Rattle.typed_laws.proofs.Found.{all_within, type_valued, widened, within_ints, arithmetic_values, struct_by_name}

-- ---- the values of a kind

module _ (items : List Rattle.c_syntax.specs.Items.Item) where
  pub as_int : (k : Kind) (c : CType) (v : Values) → is_integer k ≡ true → Agrees items k c v → Within c v
  as_int types.Integer c v h w = w
  as_int types.Null c v h w = absurd (true≢false (sym h))
  as_int (types.Pointer s) c v h w = absurd (true≢false (sym h))
  as_int types.Object c v h w = absurd (true≢false (sym h))
  as_int types.Claim c v h w = absurd (true≢false (sym h))
  as_int types.OwnedSet c v h w = absurd (true≢false (sym h))
  as_int types.Void c v h w = absurd (true≢false (sym h))

  pub as_refs : (k : Kind) (c : CType) (v : Values) → is_reference k ≡ true → Agrees items k c v → are_refs v ≡ true
  as_refs types.Integer c v h w = absurd (true≢false (sym h))
  as_refs types.Null c v h w = ap are_refs w
  as_refs (types.Pointer s) c v h w = ap are_refs w
  as_refs types.Object c v h w = ap are_refs w
  as_refs types.Claim c v h w = ap are_refs w
  as_refs types.OwnedSet c v h w = absurd w
  as_refs types.Void c v h w = absurd w

  -- what two branches give
  pub record Branched (m : Kind) (c : CType) (v w : Values) : Type 0 where
    pub which : Values
    pub is : either v w ≡ Some which
    pub sound : Sound items m
    pub agrees : Agrees items m c which

  pointers : (s u : StructTree) (m : Kind) (c : CType) → Sound items (types.Pointer s) → Sound items (types.Pointer u) → branches (types.Pointer s) (types.Pointer u) ≡ Some m →
      Branched m c (Refs (Pointer (struct_number items s.name))) (Refs (Pointer (struct_number items u.name)))
  pointers s u m c hs hu h = by (same_name s.name u.name) refl (same_name u.name s.name) refl h
    where
      n : ℕ
      n = struct_number items s.name

      o : ℕ
      o = struct_number items u.name

      one : n ≡ o → either (Refs (Pointer n)) (Refs (Pointer o)) ≡ Some (Refs (Pointer o))
      one q = ap (λ b. cond b (Some (Refs (Pointer o))) (cond (o == n) (Some (Refs (Pointer n))) None)) (subst (λ j. (n == j) ≡ true) q (nat_itself n))

      by : (a : Bool) → same_name s.name u.name ≡ a → (b : Bool) → same_name u.name s.name ≡ b → cond a (Some (types.Pointer u)) (cond b (Some (types.Pointer s)) None) ≡ Some m → Branched m c (Refs (Pointer n)) (Refs (Pointer o))
      by true ea b eb g = subst (λ z. Branched z c (Refs (Pointer n)) (Refs (Pointer o))) (same_Some (types.Pointer u) m g) (record { which = Refs (Pointer o); is = one (struct_by_name items s u ea); sound = hu; agrees = refl })
      by false ea true eb g =
          subst (λ z. Branched z c (Refs (Pointer n)) (Refs (Pointer o))) (same_Some (types.Pointer s) m g) (record { which = Refs (Pointer o); is = one (sym (struct_by_name items u s eb)); sound = hs; agrees = ap (λ j. Refs (Pointer j)) (struct_by_name items u s eb) })
      by false ea false eb g = not_none m g

  -- two integers
  ints_branch : (c : CType) (v w : Values) → Within c v → Within c w → Branched types.Integer c v w
  ints_branch c (Ints a b) (Ints d e) h g =
      record {
        which = Ints (lesser a d) (greater b e);
        is = refl;
        sound = tt;
        agrees = and_both (int_le (least_of c) (lesser a d)) (int_le (greater b e) (greatest_of c)) (lesser_above a d (least_of c) (and_left (int_le (least_of c) a) (int_le b (greatest_of c)) h) (and_left (int_le (least_of c) d) (int_le e (greatest_of c)) g))
            (greater_below b e (greatest_of c) (and_right (int_le (least_of c) a) (int_le b (greatest_of c)) h) (and_right (int_le (least_of c) d) (int_le e (greatest_of c)) g));
      }
  ints_branch c (Ints a b) Nulls h g = absurd g
  ints_branch c (Ints a b) (Refs ty) h g = absurd g
  ints_branch c Nulls w h g = absurd h
  ints_branch c (Refs ty) w h g = absurd h

  -- references of known values
  known_branch : (m n : Kind) (c : CType) (v w x y : Values) → Sound items m → v ≡ x → w ≡ y → Some m ≡ Some n → Branched m c x y → Branched n c v w
  known_branch m n c v w x y hm ev ew em b = subst (λ z. Branched z c v w) (same_Some m n em) (subst (λ z. Branched m c z w) (sym ev) (subst (λ z. Branched m c x z) (sym ew) b))

  pub branch_values : (k l m : Kind) (c : CType) (v w : Values) → Sound items k → Sound items l → Agrees items k c v → Agrees items l c w → branches k l ≡ Some m → Branched m c v w
  branch_values types.Integer types.Integer m c v w hk hl av aw h = subst (λ z. Branched z c v w) (same_Some types.Integer m h) (ints_branch c v w av aw)
  branch_values types.Integer types.Null m c v w hk hl av aw h = not_none m h
  branch_values types.Integer (types.Pointer u) m c v w hk hl av aw h = not_none m h
  branch_values types.Integer types.Object m c v w hk hl av aw h = not_none m h
  branch_values types.Integer types.Claim m c v w hk hl av aw h = not_none m h
  branch_values types.Null types.Integer m c v w hk hl av aw h = not_none m h
  branch_values types.Null types.Null m c v w hk hl av aw h = known_branch types.Null m c v w Nulls Nulls tt av aw h (record { which = Nulls; is = refl; sound = tt; agrees = refl })
  branch_values types.Null (types.Pointer u) m c v w hk hl av aw h =
      known_branch (types.Pointer u) m c v w Nulls (Refs (Pointer (struct_number items u.name))) hl av aw h (record { which = Refs (Pointer (struct_number items u.name)); is = refl; sound = hl; agrees = refl })
  branch_values types.Null types.Object m c v w hk hl av aw h = known_branch types.Object m c v w Nulls (Refs Object) tt av aw h (record { which = Refs Object; is = refl; sound = tt; agrees = refl })
  branch_values types.Null types.Claim m c v w hk hl av aw h = known_branch types.Claim m c v w Nulls (Refs Claim) tt av aw h (record { which = Refs Claim; is = refl; sound = tt; agrees = refl })
  branch_values (types.Pointer s) types.Integer m c v w hk hl av aw h = not_none m h
  branch_values (types.Pointer s) types.Null m c v w hk hl av aw h =
      known_branch (types.Pointer s) m c v w (Refs (Pointer (struct_number items s.name))) Nulls hk av aw h (record { which = Refs (Pointer (struct_number items s.name)); is = refl; sound = hk; agrees = refl })
  branch_values (types.Pointer s) (types.Pointer u) m c v w hk hl av aw h = subst (λ z. Branched m c z w) (sym av) (subst (λ z. Branched m c (Refs (Pointer (struct_number items s.name))) z) (sym aw) (pointers s u m c hk hl h))
  branch_values (types.Pointer s) types.Object m c v w hk hl av aw h =
      known_branch types.Object m c v w (Refs (Pointer (struct_number items s.name))) (Refs Object) tt av aw h (record { which = Refs Object; is = refl; sound = tt; agrees = refl })
  branch_values (types.Pointer s) types.Claim m c v w hk hl av aw h = not_none m h
  branch_values types.Object types.Integer m c v w hk hl av aw h = not_none m h
  branch_values types.Object types.Null m c v w hk hl av aw h = known_branch types.Object m c v w (Refs Object) Nulls tt av aw h (record { which = Refs Object; is = refl; sound = tt; agrees = refl })
  branch_values types.Object (types.Pointer u) m c v w hk hl av aw h =
      known_branch types.Object m c v w (Refs Object) (Refs (Pointer (struct_number items u.name))) tt av aw h (record { which = Refs Object; is = refl; sound = tt; agrees = refl })
  branch_values types.Object types.Object m c v w hk hl av aw h = known_branch types.Object m c v w (Refs Object) (Refs Object) tt av aw h (record { which = Refs Object; is = refl; sound = tt; agrees = refl })
  branch_values types.Object types.Claim m c v w hk hl av aw h = known_branch types.Object m c v w (Refs Object) (Refs Claim) tt av aw h (record { which = Refs Object; is = refl; sound = tt; agrees = refl })
  branch_values types.Claim types.Integer m c v w hk hl av aw h = not_none m h
  branch_values types.Claim types.Null m c v w hk hl av aw h = known_branch types.Claim m c v w (Refs Claim) Nulls tt av aw h (record { which = Refs Claim; is = refl; sound = tt; agrees = refl })
  branch_values types.Claim (types.Pointer u) m c v w hk hl av aw h = not_none m h
  branch_values types.Claim types.Object m c v w hk hl av aw h = known_branch types.Object m c v w (Refs Claim) (Refs Object) tt av aw h (record { which = Refs Object; is = refl; sound = tt; agrees = refl })
  branch_values types.Claim types.Claim m c v w hk hl av aw h = known_branch types.Claim m c v w (Refs Claim) (Refs Claim) tt av aw h (record { which = Refs Claim; is = refl; sound = tt; agrees = refl })
  branch_values types.OwnedSet l m c v w hk hl av aw h = absurd av
  branch_values types.Void l m c v w hk hl av aw h = absurd av
  branch_values k types.OwnedSet m c v w hk hl av aw h = absurd aw
  branch_values k types.Void m c v w hk hl av aw h = absurd aw

-- ---- expressions

pub branch_of : (i j k : Kind) → branches_misfit (Some i) (Some j) (Some k) ≡ false → (m : Kind) × (branches j k ≡ Some m) × (is_scalar i ≡ true)
branch_of i j k h = let d = neither (not (is_scalar i)) (not (is_some (branches j k))) h in by (branches j k) refl (from_not (is_some (branches j k)) d.1) (from_not (is_scalar i) d.0)
  where
    by : (o : Option Kind) → branches j k ≡ o → is_some o ≡ true → is_scalar i ≡ true → (m : Kind) × (branches j k ≡ Some m) × (is_scalar i ≡ true)
    by None g s d = absurd (true≢false (sym s))
    by (Some m) g s d = (m, g, d)

pub binary_true : (o : BinaryOperator) (k l : Kind) → misfit o (Some k) (Some l) ≡ false → (left_fits o k ≡ true) × (right_fits o l ≡ true) × (together_fit o k l ≡ true)
binary_true o k l h =
    let one = neither (not (left_fits o k)) (not (right_fits o l) || not (together_fit o k l)) h in
    let two = neither (not (right_fits o l)) (not (together_fit o k l)) one.1 in
    (from_not (left_fits o k) one.0, from_not (right_fits o l) two.0, from_not (together_fit o k l) two.1)

module _ (p : Program) (f : FunctionInfo) (a : Around) (tables : Tables a.context.scope.items p) (around : InCode a.context.scope.items f a) where
  -- the expression has a kind, and its code values of that kind
  pub record IsValued (x : Exp) : Type 0 where
    pub kind_is : Kind
    pub values_are : Values
    pub kinded : kind a.context.scope x ≡ Some kind_is
    pub sound : Sound a.context.scope.items kind_is
    pub valued : values p f (code a x) ≡ Some values_are
    pub agrees : Agrees a.context.scope.items kind_is (integer_type a.context.scope x) values_are

  name_code : (x : Id) (i : ℕ) → position (λ v. same_name v.name x) a.context.scope.variables ≡ Some i → code a (e.Name x) ≡ t.Variable (place_of (λ n. bytes_eq n x.name) a.names)
  name_code x i h =
      ap code_name (ap (meaning_at a x) h) ∙ ap code_name (ap (λ b. cond b (OfQuantifier i) (OfFunction (place_of (λ n. bytes_eq n x.name) a.names))) (ap (nat_lt i) around.no_bound ∙ none_below i))

  name_valued : (x : Id) → is_some (type_of_name a.context.scope x) ≡ true → IsValued (e.Name x)
  name_valued x h = by (find_variable a.context.scope x) refl
    where
      no_field : find_own_field a.context.scope x ≡ None
      no_field = ap (option_and_then (λ s. find_field s x)) around.no_this

      by : (o : Option Variable) → find_variable a.context.scope x ≡ o → IsValued (e.Name x)
      by None g = absurd (true≢false (sym h ∙ ap is_some (ap (λ o. variable_or_field o (find_own_field a.context.scope x)) g ∙ ap (variable_or_field None) no_field)))
      by (Some v) g =
          let in_scope = find_in (λ w. same_name w.name x) a.context.scope.variables v g in
          let place = find_place (λ w. same_name w.name x) a.context.scope.variables v g in
          let bytes = same_bytes v.name x (find_passes (λ w. same_name w.name x) a.context.scope.variables v g) in
          let type = type_valued a.context.scope.items v.ty (around.known.variables_typed v in_scope) in
          let named : type_of_name a.context.scope x ≡ Some v.ty = ap (λ o. variable_or_field o (find_own_field a.context.scope x)) g in
          let numbered = subst (λ n. slice_get f.variables (place_of (λ m. bytes_eq m n) a.names) ≡ Some (variable a.context.scope.items v)) bytes (around.numbered v in_scope) in
          record {
            kind_is = type.kind;
            values_are = declared (variable a.context.scope.items v).ty;
            kinded = ap (option_and_then (kind_of a.context.scope.items)) named ∙ type.is;
            sound = type.sound;
            valued = ap (values p f) (name_code x place.0 place.1) ∙ ap (λ o. and_then o (λ w. Some (declared w.ty))) numbered;
            agrees = subst (λ c. Agrees a.context.scope.items type.kind c (declared (variable a.context.scope.items v).ty)) (sym (ap integer_of named)) type.agrees;
          }

  -- `x->y`, where x has this kind
  field_valued : (q : Span) (x : Exp) (y : Id) (j : Kind) (v : Values) → kind a.context.scope x ≡ Some j → Sound a.context.scope.items j → values p f (code a x) ≡ Some v → Agrees a.context.scope.items j (integer_type a.context.scope x) v →
      fails is_pointer (Some j) ≡ false → fails (may_have y) (Some j) ≡ false → IsValued (e.Field q x y)
  field_valued q x y (types.Pointer s) v kx sx vx ax h g = by (find_field s y) refl (from_not (is_some (find_field s y)) g)
    where
      at_kind : field_at a x y ≡ field_number a.context.scope.items s y
      at_kind = ap (λ o. field_of_kind a.context.scope.items o y) kx

      by : (o : Option FieldTree) → find_field s y ≡ o → is_some o ≡ true → IsValued (e.Field q x y)
      by None d m = absurd (true≢false (sym m))
      by (Some w) d m =
          let type = type_valued a.context.scope.items w.ty (around.known.fields_typed s w sx (find_in (λ u. same_name u.name y) (fields s.members) w d)) in
          let info = tables.fields_at s y w sx d in
          let named : option_and_then (λ k. field_of k y) (kind a.context.scope x) ≡ Some w = ap (option_and_then (λ k. field_of k y)) kx ∙ d in
          record {
            kind_is = type.kind;
            values_are = declared (field a.context.scope.items s w).ty;
            kinded = ap (option_and_then (λ k. option_and_then (λ u. kind_of a.context.scope.items u.ty) (field_of k y))) kx ∙ ap (option_and_then (λ u. kind_of a.context.scope.items u.ty)) d ∙ type.is;
            sound = type.sound;
            valued = ap (λ o. and_then o (λ u. field_values u (slice_get p.fields (field_at a x y)))) (vx ∙ ap (λ u. Some u) ax) ∙ ap (λ i. field_values (Refs (Pointer (struct_number a.context.scope.items s.name))) (slice_get p.fields i)) at_kind ∙ ap (field_values (Refs (Pointer (struct_number a.context.scope.items s.name)))) info
                ∙ ap (λ b. only_if b (declared (field a.context.scope.items s w).ty)) (nat_itself (struct_number a.context.scope.items s.name));
            agrees = subst (λ c. Agrees a.context.scope.items type.kind c (declared (field a.context.scope.items s w).ty)) (sym (ap integer_of (ap (option_map (λ u. u.ty)) named))) type.agrees;
          }
  field_valued q x y types.Integer v kx sx vx ax h g = absurd (true≢false h)
  field_valued q x y types.Null v kx sx vx ax h g = absurd (true≢false h)
  field_valued q x y types.Object v kx sx vx ax h g = absurd (true≢false h)
  field_valued q x y types.Claim v kx sx vx ax h g = absurd (true≢false h)
  field_valued q x y types.OwnedSet v kx sx vx ax h g = absurd (true≢false h)
  field_valued q x y types.Void v kx sx vx ax h g = absurd (true≢false h)

  -- an operand in a common type, where it is an integer
  pub record InType (x : Exp) (j : Kind) (to : CType) : Type 0 where
    pub values_are : Values
    pub valued : values p f (in_type_of to (operand_of a.context.scope x (code a x))) ≡ Some values_are
    pub agrees : Agrees a.context.scope.items j to values_are

  pub converted_in : (to from : CType) (w : Code) (v : Values) → values p f w ≡ Some v → Within from v → (u : Values) × (values p f (converted from to w) ≡ Some u) × Within to u
  converted_in to from w v h g = by (holds_all to from) refl
    where
      by : (b : Bool) → holds_all to from ≡ b → (u : Values) × (values p f (converted_by w (cond b None (Some to))) ≡ Some u) × Within to u
      by true d = (v, h, widened to from v d g)
      by false d = (all_of to, ap (λ o. and_then o (λ u. only_if (are_ints u) (all_of to))) h ∙ ap (λ b. only_if b (all_of to)) (within_ints from v g), all_within to)

  in_type : (x : Exp) (to : CType) (j : Kind) (v : Values) → kind a.context.scope x ≡ Some j → values p f (code a x) ≡ Some v → Agrees a.context.scope.items j (integer_type a.context.scope x) v → InType x j to
  in_type x to types.Integer v kx vx ax =
      let d = converted_in to (integer_type a.context.scope x) (code a x) v vx ax in
      record { values_are = d.0; valued = ap (λ b. values p f (cond b (converted (integer_type a.context.scope x) to (code a x)) (code a x))) (ap codes.is_integer kx) ∙ d.1; agrees = d.2 }
  in_type x to types.Null v kx vx ax = record { values_are = v; valued = ap (λ b. values p f (cond b (converted (integer_type a.context.scope x) to (code a x)) (code a x))) (ap codes.is_integer kx) ∙ vx; agrees = ax }
  in_type x to (types.Pointer s) v kx vx ax = record { values_are = v; valued = ap (λ b. values p f (cond b (converted (integer_type a.context.scope x) to (code a x)) (code a x))) (ap codes.is_integer kx) ∙ vx; agrees = ax }
  in_type x to types.Object v kx vx ax = record { values_are = v; valued = ap (λ b. values p f (cond b (converted (integer_type a.context.scope x) to (code a x)) (code a x))) (ap codes.is_integer kx) ∙ vx; agrees = ax }
  in_type x to types.Claim v kx vx ax = record { values_are = v; valued = ap (λ b. values p f (cond b (converted (integer_type a.context.scope x) to (code a x)) (code a x))) (ap codes.is_integer kx) ∙ vx; agrees = ax }
  in_type x to types.OwnedSet v kx vx ax = absurd ax
  in_type x to types.Void v kx vx ax = absurd ax

  pub operand_in : (x : Exp) (to : CType) (w : IsValued x) → InType x w.kind_is to
  operand_in x to w = in_type x to w.kind_is w.values_are w.kinded w.valued w.agrees

  truth_within : Within ints.Int truth_values
  truth_within = refl

  -- ---- operators

  not_valued : (q : Span) (x : Exp) → IsValued x → fails (unary_fits unary.Not) (kind a.context.scope x) ≡ false → IsValued (e.Unary q unary.Not x)
  not_valued q x w h = record {
    kind_is = types.Integer;
    values_are = truth_values;
    kinded = ap (option_and_then (λ k. types.only_if (unary_fits unary.Not k) types.Integer)) w.kinded ∙ ap (λ b. types.only_if b types.Integer) (from_not (unary_fits unary.Not w.kind_is) (subst (λ o. fails (unary_fits unary.Not) o ≡ false) w.kinded h));
    sound = tt;
    valued = ap (λ o. and_then o (λ v. Some truth_values)) w.valued;
    agrees = truth_within;
  }

  negate_valued : (q : Span) (x : Exp) → IsValued x → fails (unary_fits unary.Negate) (kind a.context.scope x) ≡ false → IsValued (e.Unary q unary.Negate x)
  negate_valued q x w h =
      let is_int = from_not (is_integer w.kind_is) (subst (λ o. fails (unary_fits unary.Negate) o ≡ false) w.kinded h) in
      let within = as_int a.context.scope.items w.kind_is (integer_type a.context.scope x) w.values_are is_int w.agrees in
      record {
        kind_is = types.Integer;
        values_are = all_of (integer_type a.context.scope x);
        kinded = ap (option_and_then (λ k. types.only_if (unary_fits unary.Negate k) types.Integer)) w.kinded ∙ ap (λ b. types.only_if b types.Integer) is_int;
        sound = tt;
        valued = ap (λ o. and_then o (λ v. only_if (are_ints v) (all_of (integer_type a.context.scope x)))) w.valued ∙ ap (λ b. only_if b (all_of (integer_type a.context.scope x))) (within_ints (integer_type a.context.scope x) w.values_are within);
        agrees = all_within (integer_type a.context.scope x);
      }

  both_fit : (o : BinaryOperator) (x y : Exp) (w : IsValued x) (z : IsValued y) → misfit o (kind a.context.scope x) (kind a.context.scope y) ≡ false → (left_fits o w.kind_is ≡ true) × (right_fits o z.kind_is ≡ true) × (together_fit o w.kind_is z.kind_is ≡ true)
  both_fit o x y w z h = binary_true o w.kind_is z.kind_is (subst (λ i. misfit o (Some w.kind_is) i ≡ false) z.kinded (subst (λ i. misfit o i (kind a.context.scope y) ≡ false) w.kinded h))

  binary_kind : (q : Span) (o : BinaryOperator) (x y : Exp) (w : IsValued x) (z : IsValued y) → misfit o (kind a.context.scope x) (kind a.context.scope y) ≡ false → kind a.context.scope (e.Binary q o x y) ≡ Some types.Integer
  binary_kind q o x y w z h =
      let d = both_fit o x y w z h in
      ap (option_and_then (λ k. option_and_then (λ l. types.only_if (binary_fits o k l) types.Integer) (kind a.context.scope y))) w.kinded ∙ ap (option_and_then (λ l. types.only_if (binary_fits o w.kind_is l) types.Integer)) z.kinded
      ∙ ap (λ b. types.only_if b types.Integer) (and_both (left_fits o w.kind_is) (right_fits o z.kind_is && together_fit o w.kind_is z.kind_is) d.0 (and_both (right_fits o z.kind_is) (together_fit o w.kind_is z.kind_is) d.1 d.2))

  -- the code of an operation of arithmetic has all values of its type
  computed : (o : Operator) (x y : Exp) (w : IsValued x) (z : IsValued y) → is_integer w.kind_is ≡ true → is_integer z.kind_is ≡ true →
      values p f (codes.code_binary (codes.Computes o) (operand_of a.context.scope x (code a x)) (operand_of a.context.scope y (code a y))) ≡ Some (all_of (usual_type (integer_type a.context.scope x) (integer_type a.context.scope y)))
  computed o x y w z h g =
      let to : CType = usual_type (integer_type a.context.scope x) (integer_type a.context.scope y) in
      let u = operand_in x to w in
      let v = operand_in y to z in
      arithmetic_values p f o (in_type_of to (operand_of a.context.scope x (code a x))) (in_type_of to (operand_of a.context.scope y (code a y))) to u.values_are v.values_are u.valued v.valued
      (as_int a.context.scope.items w.kind_is to u.values_are h u.agrees) (as_int a.context.scope.items z.kind_is to v.values_are g v.agrees)

  arithmetic_valued : (q : Span) (o : BinaryOperator) (r : Operator) (x y : Exp) (w : IsValued x) (z : IsValued y) → codes.binary o ≡ codes.Computes r → left_fits o w.kind_is ≡ is_integer w.kind_is → right_fits o z.kind_is ≡ is_integer z.kind_is →
      misfit o (kind a.context.scope x) (kind a.context.scope y) ≡ false → IsValued (e.Binary q o x y)
  arithmetic_valued q o r x y w z is fl fr h =
      let d = both_fit o x y w z h in
      let to : CType = usual_type (integer_type a.context.scope x) (integer_type a.context.scope y) in
      record {
        kind_is = types.Integer;
        values_are = all_of to;
        kinded = binary_kind q o x y w z h;
        sound = tt;
        valued = ap (λ b. values p f (codes.code_binary b (operand_of a.context.scope x (code a x)) (operand_of a.context.scope y (code a y)))) is ∙ computed r x y w z (sym fl ∙ d.0) (sym fr ∙ d.1);
        agrees = subst (λ b. Within (codes.result_type b (integer_type a.context.scope x) (integer_type a.context.scope y)) (all_of to)) (sym is) (all_within to);
      }

  compared : (o : Comparison) (x y : Exp) (w : IsValued x) (z : IsValued y) → ((is_integer w.kind_is && is_integer z.kind_is) || (compares_refs o && (is_reference w.kind_is && is_reference z.kind_is))) ≡ true →
      values p f (codes.code_binary (codes.Compares o) (operand_of a.context.scope x (code a x)) (operand_of a.context.scope y (code a y))) ≡ Some truth_values
  compared o x y w z h =
      let to : CType = usual_type (integer_type a.context.scope x) (integer_type a.context.scope y) in
      let u = operand_in x to w in
      let v = operand_in y to z in
      ap (λ i. and_then i (λ m. and_then (values p f (in_type_of to (operand_of a.context.scope y (code a y)))) (λ n. only_if ((are_ints m && are_ints n) || (compares_refs o && (are_refs m && are_refs n))) truth_values))) u.valued
      ∙ ap (λ i. and_then i (λ n. only_if ((are_ints u.values_are && are_ints n) || (compares_refs o && (are_refs u.values_are && are_refs n))) truth_values)) v.valued
      ∙ ap (λ b. only_if b truth_values) (by to u v (is_integer w.kind_is && is_integer z.kind_is) refl h)
    where
      by : (to : CType) (u : InType x w.kind_is to) (v : InType y z.kind_is to) (b : Bool) → (is_integer w.kind_is && is_integer z.kind_is) ≡ b → (b || (compares_refs o && (is_reference w.kind_is && is_reference z.kind_is))) ≡ true →
          ((are_ints u.values_are && are_ints v.values_are) || (compares_refs o && (are_refs u.values_are && are_refs v.values_are))) ≡ true
      by to u v true b g =
          let us = within_ints to u.values_are (as_int a.context.scope.items w.kind_is to u.values_are (and_left (is_integer w.kind_is) (is_integer z.kind_is) b) u.agrees) in
          let vs = within_ints to v.values_are (as_int a.context.scope.items z.kind_is to v.values_are (and_right (is_integer w.kind_is) (is_integer z.kind_is) b) v.agrees) in
          ap (λ c. c || (compares_refs o && (are_refs u.values_are && are_refs v.values_are))) (and_both (are_ints u.values_are) (are_ints v.values_are) us vs)
      by to u v false b g =
          let refs = and_right (compares_refs o) (is_reference w.kind_is && is_reference z.kind_is) g in
          let us = as_refs a.context.scope.items w.kind_is to u.values_are (and_left (is_reference w.kind_is) (is_reference z.kind_is) refs) u.agrees in
          let vs = as_refs a.context.scope.items z.kind_is to v.values_are (and_right (is_reference w.kind_is) (is_reference z.kind_is) refs) v.agrees in
          or_second (are_ints u.values_are && are_ints v.values_are) (compares_refs o && (are_refs u.values_are && are_refs v.values_are))
          (and_both (compares_refs o) (are_refs u.values_are && are_refs v.values_are) (and_left (compares_refs o) (is_reference w.kind_is && is_reference z.kind_is) g) (and_both (are_refs u.values_are) (are_refs v.values_are) us vs))

  -- of two integers, or of two references
  comparison_valued : (q : Span) (o : BinaryOperator) (r : Comparison) (x y : Exp) (w : IsValued x) (z : IsValued y) → codes.binary o ≡ codes.Compares r →
      ((left_fits o w.kind_is ≡ true) × (right_fits o z.kind_is ≡ true) × (together_fit o w.kind_is z.kind_is ≡ true) → ((is_integer w.kind_is && is_integer z.kind_is) || (compares_refs r && (is_reference w.kind_is && is_reference z.kind_is))) ≡ true) →
      misfit o (kind a.context.scope x) (kind a.context.scope y) ≡ false → IsValued (e.Binary q o x y)
  comparison_valued q o r x y w z is fit h = record {
    kind_is = types.Integer;
    values_are = truth_values;
    kinded = binary_kind q o x y w z h;
    sound = tt;
    valued = ap (λ b. values p f (codes.code_binary b (operand_of a.context.scope x (code a x)) (operand_of a.context.scope y (code a y)))) is ∙ compared r x y w z (fit (both_fit o x y w z h));
    agrees = subst (λ b. Within (codes.result_type b (integer_type a.context.scope x) (integer_type a.context.scope y)) truth_values) (sym is) truth_within;
  }

  order_fits : (k l : Kind) (c : Comparison) → is_integer k ≡ true → is_integer l ≡ true → ((is_integer k && is_integer l) || (compares_refs c && (is_reference k && is_reference l))) ≡ true
  order_fits k l c h g = ap (λ b. b || (compares_refs c && (is_reference k && is_reference l))) (and_both (is_integer k) (is_integer l) h g)

  logic_valued : (q : Span) (o : BinaryOperator) (x y : Exp) (w : IsValued x) (z : IsValued y) → values p f (code a (e.Binary q o x y)) ≡ and_then (values p f (code a x)) (λ v. and_then (values p f (code a y)) (λ u. Some truth_values)) →
      integer_type a.context.scope (e.Binary q o x y) ≡ ints.Int → misfit o (kind a.context.scope x) (kind a.context.scope y) ≡ false → IsValued (e.Binary q o x y)
  logic_valued q o x y w z is ty h = record {
    kind_is = types.Integer;
    values_are = truth_values;
    kinded = binary_kind q o x y w z h;
    sound = tt;
    valued = is ∙ ap (λ i. and_then i (λ v. and_then (values p f (code a y)) (λ u. Some truth_values))) w.valued ∙ ap (λ i. and_then i (λ u. Some truth_values)) z.valued;
    agrees = subst (λ c. Within c truth_values) (sym ty) truth_within;
  }

  binary_valued : (q : Span) (o : BinaryOperator) (x y : Exp) → IsValued x → IsValued y → of_code o ≡ true → misfit o (kind a.context.scope x) (kind a.context.scope y) ≡ false → IsValued (e.Binary q o x y)
  binary_valued q op.Times x y w z c h = arithmetic_valued q op.Times operators.Times x y w z refl refl refl h
  binary_valued q op.Over x y w z c h = arithmetic_valued q op.Over operators.Over x y w z refl refl refl h
  binary_valued q op.Modulo x y w z c h = arithmetic_valued q op.Modulo operators.Modulo x y w z refl refl refl h
  binary_valued q op.Plus x y w z c h = arithmetic_valued q op.Plus operators.Plus x y w z refl refl refl h
  binary_valued q op.Minus x y w z c h = arithmetic_valued q op.Minus operators.Minus x y w z refl refl refl h
  binary_valued q op.Less x y w z c h = comparison_valued q op.Less comparisons.Less x y w z refl (λ d. order_fits w.kind_is z.kind_is comparisons.Less d.0 d.1) h
  binary_valued q op.LessEqual x y w z c h = comparison_valued q op.LessEqual comparisons.LessEqual x y w z refl (λ d. order_fits w.kind_is z.kind_is comparisons.LessEqual d.0 d.1) h
  binary_valued q op.Greater x y w z c h = comparison_valued q op.Greater comparisons.Greater x y w z refl (λ d. order_fits w.kind_is z.kind_is comparisons.Greater d.0 d.1) h
  binary_valued q op.GreaterEqual x y w z c h = comparison_valued q op.GreaterEqual comparisons.GreaterEqual x y w z refl (λ d. order_fits w.kind_is z.kind_is comparisons.GreaterEqual d.0 d.1) h
  binary_valued q op.Equal x y w z c h = comparison_valued q op.Equal comparisons.Equal x y w z refl (λ d. d.2) h
  binary_valued q op.NotEqual x y w z c h = comparison_valued q op.NotEqual comparisons.NotEqual x y w z refl (λ d. d.2) h
  binary_valued q op.And x y w z c h = logic_valued q op.And x y w z refl refl h
  binary_valued q op.Or x y w z c h = logic_valued q op.Or x y w z refl refl h
  binary_valued q op.In x y w z c h = absurd (true≢false (sym c))
  binary_valued q op.Implies x y w z c h = absurd (true≢false (sym c))
  binary_valued q op.Equivalent x y w z c h = absurd (true≢false (sym c))

  -- ---- `?:`

  conditional_valued : (q : Span) (x y z : Exp) → IsValued x → IsValued y → IsValued z → branches_misfit (kind a.context.scope x) (kind a.context.scope y) (kind a.context.scope z) ≡ false → IsValued (e.Conditional q x y z)
  conditional_valued q x y z u v w h =
      let known = subst (λ i. branches_misfit (Some u.kind_is) (Some v.kind_is) i ≡ false) w.kinded (subst (λ i. branches_misfit (Some u.kind_is) i (kind a.context.scope z) ≡ false) v.kinded (subst (λ i. branches_misfit i (kind a.context.scope y) (kind a.context.scope z) ≡ false) u.kinded h)) in
      let m = branch_of u.kind_is v.kind_is w.kind_is known in
      let to : CType = usual_type (integer_type a.context.scope y) (integer_type a.context.scope z) in
      let vy = operand_in y to v in
      let vz = operand_in z to w in
      let b = branch_values a.context.scope.items v.kind_is w.kind_is m.0 to vy.values_are vz.values_are v.sound w.sound vy.agrees vz.agrees m.1 in
      record {
        kind_is = m.0;
        values_are = b.which;
        kinded = ap (option_and_then (λ t. option_and_then (λ k. option_and_then (conditional_kind t k) (kind a.context.scope z)) (kind a.context.scope y))) u.kinded ∙ ap (option_and_then (λ k. option_and_then (conditional_kind u.kind_is k) (kind a.context.scope z))) v.kinded
            ∙ ap (option_and_then (conditional_kind u.kind_is v.kind_is)) w.kinded ∙ ap (λ t. cond t (branches v.kind_is w.kind_is) None) m.2 ∙ m.1;
        sound = b.sound;
        valued = ap (λ i. and_then i (λ g. and_then (values p f (in_type_of to (operand_of a.context.scope y (code a y)))) (λ j. and_then (values p f (in_type_of to (operand_of a.context.scope z (code a z)))) (λ k. either j k)))) u.valued
            ∙ ap (λ i. and_then i (λ j. and_then (values p f (in_type_of to (operand_of a.context.scope z (code a z)))) (λ k. either j k))) vy.valued ∙ ap (λ i. and_then i (λ k. either vy.values_are k)) vz.valued ∙ b.is;
        agrees = b.agrees;
      }

  -- ---- all forms

  expression_valued : (c : Context) (x : Exp) → is_code x ≡ true → Quiet (expression (record c { scope = a.context.scope }) x) → IsValued x
  expression_valued c (e.Number q n ty) k h = record { kind_is = types.Integer; values_are = Ints (pos n) (pos n); kinded = refl; sound = tt; valued = refl; agrees = and_both (int_le (least_of ty) (pos n)) (int_le (pos n) (greatest_of ty)) (least_below ty n) k }
  expression_valued c (e.Name x) k h =
      name_valued x (from_not (is_some (type_of_name a.context.scope x)) (not_placed (not (is_some (type_of_name a.context.scope x))) x.place (quiet_last [] (Expression (record c { scope = a.context.scope }) (e.Name x)) h r.Undeclared)))
  expression_valued c (e.Null q) k h = record { kind_is = types.Null; values_are = Nulls; kinded = refl; sound = tt; valued = refl; agrees = refl }
  expression_valued c (e.Group q x) k h =
      let w = expression_valued c x k (quiet_left (expression (record c { scope = a.context.scope }) x) (Expression (record c { scope = a.context.scope }) (e.Group q x) ∷ []) h) in
      record { kind_is = w.kind_is; values_are = w.values_are; kinded = w.kinded; sound = w.sound; valued = w.valued; agrees = w.agrees }
  expression_valued c (e.Field q x y) k h =
      let d = record c { scope = a.context.scope } in
      let w = expression_valued (deeper c) x k (quiet_left (expression (deeper d) x) (Expression d (e.Field q x y) ∷ []) h) in
      let whole = quiet_last (expression (deeper d) x) (Expression d (e.Field q x y)) h in
      field_valued q x y w.kind_is w.values_are w.kinded w.sound w.valued w.agrees (subst (λ o. fails is_pointer o ≡ false) w.kinded (not_placed (fails is_pointer (kind a.context.scope x)) q (whole r.Arrow)))
      (subst (λ o. fails (may_have y) o ≡ false) w.kinded (not_placed (fails (may_have y) (kind a.context.scope x)) y.place (whole r.Undeclared)))
  expression_valued c (e.Unary q unary.Not x) k h =
      let d = record c { scope = a.context.scope } in
      let w = expression_valued (deeper c) x k (quiet_left (expression (deeper d) x) (Expression d (e.Unary q unary.Not x) ∷ []) h) in
      not_valued q x w (not_placed (fails (unary_fits unary.Not) (kind a.context.scope x)) q (quiet_last (expression (deeper d) x) (Expression d (e.Unary q unary.Not x)) h r.Operands))
  expression_valued c (e.Unary q unary.Negate x) k h =
      let d = record c { scope = a.context.scope } in
      let w = expression_valued (deeper c) x k (quiet_left (expression (deeper d) x) (Expression d (e.Unary q unary.Negate x) ∷ []) h) in
      negate_valued q x w (not_placed (fails (unary_fits unary.Negate) (kind a.context.scope x)) q (quiet_last (expression (deeper d) x) (Expression d (e.Unary q unary.Negate x)) h r.Operands))
  expression_valued c (e.Binary q o x y) k h =
      let d = record c { scope = a.context.scope } in
      let inner = quiet_left (expression (operand o d) x ++ expression (operand o d) y) (Expression d (e.Binary q o x y) ∷ []) h in
      let w = expression_valued (operand o c) x (and_left (is_code x) (is_code y) (and_right (of_code o) (is_code x && is_code y) k)) (quiet_left (expression (operand o d) x) (expression (operand o d) y) inner) in
      let z = expression_valued (operand o c) y (and_right (is_code x) (is_code y) (and_right (of_code o) (is_code x && is_code y) k)) (quiet_right (expression (operand o d) x) (expression (operand o d) y) inner) in
      binary_valued q o x y w z (and_left (of_code o) (is_code x && is_code y) k) (not_placed (misfit o (kind a.context.scope x) (kind a.context.scope y)) q (quiet_last (expression (operand o d) x ++ expression (operand o d) y) (Expression d (e.Binary q o x y)) h r.Operands))
  expression_valued c (e.Conditional q x y z) k h =
      let d = record c { scope = a.context.scope } in
      let inner = quiet_left (expression (deeper d) x ++ (expression (deeper d) y ++ expression (deeper d) z)) (Expression d (e.Conditional q x y z) ∷ []) h in
      let two = quiet_right (expression (deeper d) x) (expression (deeper d) y ++ expression (deeper d) z) inner in
      let u = expression_valued (deeper c) x (and_left (is_code x) (is_code y && is_code z) k) (quiet_left (expression (deeper d) x) (expression (deeper d) y ++ expression (deeper d) z) inner) in
      let v = expression_valued (deeper c) y (and_left (is_code y) (is_code z) (and_right (is_code x) (is_code y && is_code z) k)) (quiet_left (expression (deeper d) y) (expression (deeper d) z) two) in
      let w = expression_valued (deeper c) z (and_right (is_code y) (is_code z) (and_right (is_code x) (is_code y && is_code z) k)) (quiet_right (expression (deeper d) y) (expression (deeper d) z) two) in
      conditional_valued q x y z u v w (not_placed (branches_misfit (kind a.context.scope x) (kind a.context.scope y) (kind a.context.scope z)) q (quiet_last (expression (deeper d) x ++ (expression (deeper d) y ++ expression (deeper d) z)) (Expression d (e.Conditional q x y z)) h r.Operands))
  expression_valued c _ k h = absurd (true≢false (sym k))

pub code_law : CodeLaw
code_law items p f tables a around c same running x k quiet =
    let w = expression_valued p f a (subst (λ is. Tables is p) (sym around.items_are) tables) (subst (λ is. InCode is f a) (sym around.items_are) around) c x k (subst (λ s. Quiet (expression (record c { scope = s }) x)) same quiet) in
    (w.kind_is, w.values_are, w.kinded, subst (λ is. Sound is w.kind_is) around.items_are w.sound, w.valued, subst (λ is. Agrees is w.kind_is (integer_type a.context.scope x) w.values_are) around.items_are w.agrees)
