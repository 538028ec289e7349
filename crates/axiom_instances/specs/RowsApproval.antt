-- Instances of the axioms of owner approval, by computation. Own. The expected formulas were written by another program, which knows none of these definitions.
-- _(claimable) struct A { int x; volatile int v; volatile int w; _(invariant \approves(\this->\owner, v)) _(invariant x <= v) };
-- struct B { _(ghost volatile \object g;) _(invariant \approves(\this->\owner, g)) };
-- struct D { volatile int n; };
-- void main() {}
use Rattle.std.specs.Prelude.{◌≡◌, pos, true, false, [], ◌∷◌, Some, None, refl}
use Rattle.int_ranges.specs.declared.ctype.CType.TheVariants.{Int as SignedInt}
use Rattle.method.specs.declared.program.DeclaredType.TheVariants.{Integer, Object}
use Rattle.method.specs.declared.program.Comparison.TheVariants.{LessEqual}
use Rattle.method.specs.declared.program.Spec.TheVariants.{This as SThis, Field' as SField, Compare' as SCompare}
use Rattle.method.specs.declared.program.Program.{Program}
use Rattle.method.specs.Trace.{Memory, vec, box}
use Rattle.terms.specs.declared.term.Kind.TheVariants as k
use Rattle.term_meaning.specs.Meaning.{Language}
use Rattle.axiom_instances.specs.Fitting.{gives, fits, needs, number, term, heap, ref, int, terms, refs, column, quantified}
use Rattle.axiom_instances.specs.Axioms.{instance}
use Rattle.axiom_instances.specs.Rows.{node, h0, h1, h2, r0, r1, r2, null, bank}

module _ (m : Memory) where
  abbrev pub approving : Program
  approving = record { structs = (vec m (record { name = m.text; line = 1; is_claimable = true; has_dynamic_owns = false; has_volatile_owns = false; first_field = 0; fields = 3; has_approval = true; invariants = (vec m ((SCompare LessEqual (box m) (SField (box m) SThis 0) (box m) (SField (box m) SThis 1)) ∷ [])); mine = (vec m []) } ∷ record { name = m.text; line = 2; is_claimable = false; has_dynamic_owns = false; has_volatile_owns = false; first_field = 3; fields = 1; has_approval = true; invariants = (vec m []); mine = (vec m []) } ∷ record { name = m.text; line = 3; is_claimable = false; has_dynamic_owns = false; has_volatile_owns = false; first_field = 4; fields = 1; has_approval = false; invariants = (vec m []); mine = (vec m []) } ∷ [])); fields = (vec m (record { name = m.text; of = 3; ty = (Integer SignedInt); is_volatile = false; is_ghost = false; is_approved = false } ∷ record { name = m.text; of = 3; ty = (Integer SignedInt); is_volatile = true; is_ghost = false; is_approved = true } ∷ record { name = m.text; of = 3; ty = (Integer SignedInt); is_volatile = true; is_ghost = false; is_approved = false } ∷ record { name = m.text; of = 4; ty = Object; is_volatile = true; is_ghost = true; is_approved = true } ∷ record { name = m.text; of = 5; ty = (Integer SignedInt); is_volatile = true; is_ghost = false; is_approved = false } ∷ [])); functions = (vec m []); sites = (vec m []); shapes = (vec m []); items = (vec m []); main = 0 }

  -- its formulas, as they are translated
  abbrev pub language : Language
  language = record { program = approving; quantified = []; invariants = (node k.Le (pos 0) ((node k.Get (pos 5) (h2 ∷ r0 ∷ [])) ∷ (node k.Get (pos 6) (h2 ∷ r0 ∷ [])) ∷ [])) ∷ (node k.True (pos 0) []) ∷ (node k.True (pos 0) []) ∷ []; conjuncts = [] }

  -- an approves invariant is none
  pub row_14_1_1 : instance language bank 14 1 (0 ∷ 1 ∷ 3 ∷ 3 ∷ []) ≡ Some (node k.Imp (pos 0) ((node k.Eq (pos 0) ((node k.Typ (pos 0) (r0 ∷ [])) ∷ (node k.Int (pos 3) []) ∷ [])) ∷ (node k.Imp (pos 0) ((node k.Inv (pos 0) (r0 ∷ h0 ∷ h1 ∷ [])) ∷ (node k.Le (pos 0) ((node k.Get (pos 5) (h1 ∷ r0 ∷ [])) ∷ (node k.Get (pos 6) (h1 ∷ r0 ∷ [])) ∷ [])) ∷ [])) ∷ []))
  unfolding gives fits needs number term heap ref int terms refs column quantified
  row_14_1_1 = refl

  pub row_14_2_1 : instance language bank 14 2 (0 ∷ 1 ∷ 3 ∷ 3 ∷ []) ≡ Some (node k.Imp (pos 0) ((node k.Eq (pos 0) ((node k.Typ (pos 0) (r0 ∷ [])) ∷ (node k.Int (pos 3) []) ∷ [])) ∷ (node k.Imp (pos 0) ((node k.Le (pos 0) ((node k.Get (pos 5) (h1 ∷ r0 ∷ [])) ∷ (node k.Get (pos 6) (h1 ∷ r0 ∷ [])) ∷ [])) ∷ (node k.Inv (pos 0) (r0 ∷ h0 ∷ h1 ∷ [])) ∷ [])) ∷ []))
  unfolding gives fits needs number term heap ref int terms refs column quantified
  row_14_2_1 = refl

  -- a type with approves invariants alone
  pub row_14_1_2 : instance language bank 14 1 (0 ∷ 1 ∷ 3 ∷ 4 ∷ []) ≡ Some (node k.Imp (pos 0) ((node k.Eq (pos 0) ((node k.Typ (pos 0) (r0 ∷ [])) ∷ (node k.Int (pos 4) []) ∷ [])) ∷ (node k.Imp (pos 0) ((node k.Inv (pos 0) (r0 ∷ h0 ∷ h1 ∷ [])) ∷ (node k.True (pos 0) []) ∷ [])) ∷ []))
  unfolding gives fits needs number term heap ref int terms refs column quantified
  row_14_1_2 = refl

  pub row_14_2_2 : instance language bank 14 2 (0 ∷ 1 ∷ 3 ∷ 4 ∷ []) ≡ Some (node k.Imp (pos 0) ((node k.Eq (pos 0) ((node k.Typ (pos 0) (r0 ∷ [])) ∷ (node k.Int (pos 4) []) ∷ [])) ∷ (node k.Imp (pos 0) ((node k.True (pos 0) []) ∷ (node k.Inv (pos 0) (r0 ∷ h0 ∷ h1 ∷ [])) ∷ [])) ∷ []))
  unfolding gives fits needs number term heap ref int terms refs column quantified
  row_14_2_2 = refl

  pub row_14_1_3 : instance language bank 14 1 (0 ∷ 1 ∷ 3 ∷ 5 ∷ []) ≡ Some (node k.Imp (pos 0) ((node k.Eq (pos 0) ((node k.Typ (pos 0) (r0 ∷ [])) ∷ (node k.Int (pos 5) []) ∷ [])) ∷ (node k.Imp (pos 0) ((node k.Inv (pos 0) (r0 ∷ h0 ∷ h1 ∷ [])) ∷ (node k.True (pos 0) []) ∷ [])) ∷ []))
  unfolding gives fits needs number term heap ref int terms refs column quantified
  row_14_1_3 = refl

  pub row_25_1_1 : instance language bank 25 1 (5 ∷ 0 ∷ 1 ∷ 3 ∷ 3 ∷ 6 ∷ []) ≡ Some (node k.Imp (pos 0) ((node k.And (pos 0) ((node k.Rely (pos 0) (r2 ∷ h0 ∷ h1 ∷ [])) ∷ (node k.And (pos 0) ((node k.Eq (pos 0) ((node k.Get (pos 0) (h0 ∷ r0 ∷ [])) ∷ (node k.Int (pos 2) []) ∷ [])) ∷ (node k.And (pos 0) ((node k.Eq (pos 0) ((node k.Get (pos 1) (h0 ∷ r0 ∷ [])) ∷ r2 ∷ [])) ∷ (node k.Eq (pos 0) ((node k.Typ (pos 0) (r0 ∷ [])) ∷ (node k.Int (pos 3) []) ∷ [])) ∷ [])) ∷ [])) ∷ [])) ∷ (node k.Eq (pos 0) ((node k.Get (pos 6) (h1 ∷ r0 ∷ [])) ∷ (node k.Get (pos 6) (h0 ∷ r0 ∷ [])) ∷ [])) ∷ []))
  unfolding gives fits needs number term heap ref int terms refs column quantified
  row_25_1_1 = refl

  pub row_25_1_2 : instance language bank 25 1 (5 ∷ 0 ∷ 1 ∷ 3 ∷ 4 ∷ 8 ∷ []) ≡ Some (node k.Imp (pos 0) ((node k.And (pos 0) ((node k.Rely (pos 0) (r2 ∷ h0 ∷ h1 ∷ [])) ∷ (node k.And (pos 0) ((node k.Eq (pos 0) ((node k.Get (pos 0) (h0 ∷ r0 ∷ [])) ∷ (node k.Int (pos 2) []) ∷ [])) ∷ (node k.And (pos 0) ((node k.Eq (pos 0) ((node k.Get (pos 1) (h0 ∷ r0 ∷ [])) ∷ r2 ∷ [])) ∷ (node k.Eq (pos 0) ((node k.Typ (pos 0) (r0 ∷ [])) ∷ (node k.Int (pos 4) []) ∷ [])) ∷ [])) ∷ [])) ∷ [])) ∷ (node k.Eq (pos 0) ((node k.Get (pos 8) (h1 ∷ r0 ∷ [])) ∷ (node k.Get (pos 8) (h0 ∷ r0 ∷ [])) ∷ [])) ∷ []))
  unfolding gives fits needs number term heap ref int terms refs column quantified
  row_25_1_2 = refl

  -- a volatile field that isn't approved
  pub row_25_1_3 : instance language bank 25 1 (5 ∷ 0 ∷ 1 ∷ 3 ∷ 3 ∷ 7 ∷ []) ≡ None
  unfolding gives fits needs number term heap ref int terms refs column quantified
  row_25_1_3 = refl

  pub row_25_1_4 : instance language bank 25 1 (5 ∷ 0 ∷ 1 ∷ 3 ∷ 3 ∷ 5 ∷ []) ≡ None
  unfolding gives fits needs number term heap ref int terms refs column quantified
  row_25_1_4 = refl

  pub row_25_1_5 : instance language bank 25 1 (5 ∷ 0 ∷ 1 ∷ 3 ∷ 5 ∷ 9 ∷ []) ≡ None
  unfolding gives fits needs number term heap ref int terms refs column quantified
  row_25_1_5 = refl

  -- a field of another struct
  pub row_25_1_6 : instance language bank 25 1 (5 ∷ 0 ∷ 1 ∷ 3 ∷ 4 ∷ 6 ∷ []) ≡ None
  unfolding gives fits needs number term heap ref int terms refs column quantified
  row_25_1_6 = refl

  pub row_25_1_7 : instance language bank 25 1 (5 ∷ 0 ∷ 1 ∷ 3 ∷ 3 ∷ 8 ∷ []) ≡ None
  unfolding gives fits needs number term heap ref int terms refs column quantified
  row_25_1_7 = refl

  -- a claim
  pub row_25_1_8 : instance language bank 25 1 (5 ∷ 0 ∷ 1 ∷ 3 ∷ 2 ∷ 6 ∷ []) ≡ None
  unfolding gives fits needs number term heap ref int terms refs column quantified
  row_25_1_8 = refl

  pub row_25_1_9 : instance language bank 25 1 (5 ∷ 0 ∷ 1 ∷ 3 ∷ 1 ∷ 6 ∷ []) ≡ None
  unfolding gives fits needs number term heap ref int terms refs column quantified
  row_25_1_9 = refl

  -- a type that no struct has
  pub row_25_1_10 : instance language bank 25 1 (5 ∷ 0 ∷ 1 ∷ 3 ∷ 6 ∷ 6 ∷ []) ≡ None
  unfolding gives fits needs number term heap ref int terms refs column quantified
  row_25_1_10 = refl

  pub row_25_1_11 : instance language bank 25 1 (5 ∷ 0 ∷ 1 ∷ 3 ∷ 77 ∷ 6 ∷ []) ≡ None
  unfolding gives fits needs number term heap ref int terms refs column quantified
  row_25_1_11 = refl

  -- no field
  pub row_25_1_12 : instance language bank 25 1 (5 ∷ 0 ∷ 1 ∷ 3 ∷ 3 ∷ 0 ∷ []) ≡ None
  unfolding gives fits needs number term heap ref int terms refs column quantified
  row_25_1_12 = refl

  pub row_25_1_13 : instance language bank 25 1 (5 ∷ 0 ∷ 1 ∷ 3 ∷ 3 ∷ 2 ∷ []) ≡ None
  unfolding gives fits needs number term heap ref int terms refs column quantified
  row_25_1_13 = refl

  pub row_25_1_14 : instance language bank 25 1 (5 ∷ 0 ∷ 1 ∷ 3 ∷ 3 ∷ 3 ∷ 4 ∷ []) ≡ None
  unfolding gives fits needs number term heap ref int terms refs column quantified
  row_25_1_14 = refl

  pub row_25_1_15 : instance language bank 25 1 (5 ∷ 0 ∷ 1 ∷ 3 ∷ 3 ∷ 99 ∷ []) ≡ None
  unfolding gives fits needs number term heap ref int terms refs column quantified
  row_25_1_15 = refl

  -- a number is missing, or is too many
  pub row_25_1_16 : instance language bank 25 1 (5 ∷ 0 ∷ 1 ∷ 3 ∷ 3 ∷ []) ≡ None
  unfolding gives fits needs number term heap ref int terms refs column quantified
  row_25_1_16 = refl

  pub row_25_1_17 : instance language bank 25 1 (5 ∷ 0 ∷ 1 ∷ 3 ∷ 3 ∷ 6 ∷ 4 ∷ []) ≡ None
  unfolding gives fits needs number term heap ref int terms refs column quantified
  row_25_1_17 = refl

  pub row_26_1_1 : instance language bank 26 1 (5 ∷ 0 ∷ 1 ∷ 2 ∷ 2 ∷ 4 ∷ 8 ∷ 3 ∷ 3 ∷ 6 ∷ []) ≡ Some (node k.Imp (pos 0) ((node k.And (pos 0) ((node k.And (pos 0) ((node k.Frame (pos 0) (r2 ∷ h0 ∷ h1 ∷ h2 ∷ r1 ∷ null ∷ [])) ∷ (node k.And (pos 0) ((node k.Eq (pos 0) ((node k.Get (pos 1) (h0 ∷ r0 ∷ [])) ∷ r2 ∷ [])) ∷ (node k.And (pos 0) ((node k.Eq (pos 0) ((node k.Get (pos 1) (h2 ∷ r0 ∷ [])) ∷ r2 ∷ [])) ∷ (node k.And (pos 0) ((node k.Not (pos 0) ((node k.Eq (pos 0) (r0 ∷ r1 ∷ [])) ∷ [])) ∷ (node k.Not (pos 0) ((node k.Eq (pos 0) (r0 ∷ null ∷ [])) ∷ [])) ∷ [])) ∷ [])) ∷ [])) ∷ [])) ∷ (node k.And (pos 0) ((node k.Eq (pos 0) ((node k.Get (pos 0) (h0 ∷ r0 ∷ [])) ∷ (node k.Int (pos 2) []) ∷ [])) ∷ (node k.Eq (pos 0) ((node k.Typ (pos 0) (r0 ∷ [])) ∷ (node k.Int (pos 3) []) ∷ [])) ∷ [])) ∷ [])) ∷ (node k.Eq (pos 0) ((node k.Get (pos 6) (h1 ∷ r0 ∷ [])) ∷ (node k.Get (pos 6) (h0 ∷ r0 ∷ [])) ∷ [])) ∷ []))
  unfolding gives fits needs number term heap ref int terms refs column quantified
  row_26_1_1 = refl

  pub row_26_1_2 : instance language bank 26 1 (5 ∷ 0 ∷ 1 ∷ 2 ∷ 2 ∷ 4 ∷ 8 ∷ 3 ∷ 4 ∷ 8 ∷ []) ≡ Some (node k.Imp (pos 0) ((node k.And (pos 0) ((node k.And (pos 0) ((node k.Frame (pos 0) (r2 ∷ h0 ∷ h1 ∷ h2 ∷ r1 ∷ null ∷ [])) ∷ (node k.And (pos 0) ((node k.Eq (pos 0) ((node k.Get (pos 1) (h0 ∷ r0 ∷ [])) ∷ r2 ∷ [])) ∷ (node k.And (pos 0) ((node k.Eq (pos 0) ((node k.Get (pos 1) (h2 ∷ r0 ∷ [])) ∷ r2 ∷ [])) ∷ (node k.And (pos 0) ((node k.Not (pos 0) ((node k.Eq (pos 0) (r0 ∷ r1 ∷ [])) ∷ [])) ∷ (node k.Not (pos 0) ((node k.Eq (pos 0) (r0 ∷ null ∷ [])) ∷ [])) ∷ [])) ∷ [])) ∷ [])) ∷ [])) ∷ (node k.And (pos 0) ((node k.Eq (pos 0) ((node k.Get (pos 0) (h0 ∷ r0 ∷ [])) ∷ (node k.Int (pos 2) []) ∷ [])) ∷ (node k.Eq (pos 0) ((node k.Typ (pos 0) (r0 ∷ [])) ∷ (node k.Int (pos 4) []) ∷ [])) ∷ [])) ∷ [])) ∷ (node k.Eq (pos 0) ((node k.Get (pos 8) (h1 ∷ r0 ∷ [])) ∷ (node k.Get (pos 8) (h0 ∷ r0 ∷ [])) ∷ [])) ∷ []))
  unfolding gives fits needs number term heap ref int terms refs column quantified
  row_26_1_2 = refl

  -- a volatile field that isn't approved
  pub row_26_1_3 : instance language bank 26 1 (5 ∷ 0 ∷ 1 ∷ 2 ∷ 2 ∷ 4 ∷ 8 ∷ 3 ∷ 3 ∷ 7 ∷ []) ≡ None
  unfolding gives fits needs number term heap ref int terms refs column quantified
  row_26_1_3 = refl

  pub row_26_1_4 : instance language bank 26 1 (5 ∷ 0 ∷ 1 ∷ 2 ∷ 2 ∷ 4 ∷ 8 ∷ 3 ∷ 3 ∷ 5 ∷ []) ≡ None
  unfolding gives fits needs number term heap ref int terms refs column quantified
  row_26_1_4 = refl

  pub row_26_1_5 : instance language bank 26 1 (5 ∷ 0 ∷ 1 ∷ 2 ∷ 2 ∷ 4 ∷ 8 ∷ 3 ∷ 5 ∷ 9 ∷ []) ≡ None
  unfolding gives fits needs number term heap ref int terms refs column quantified
  row_26_1_5 = refl

  -- a field of another struct
  pub row_26_1_6 : instance language bank 26 1 (5 ∷ 0 ∷ 1 ∷ 2 ∷ 2 ∷ 4 ∷ 8 ∷ 3 ∷ 4 ∷ 6 ∷ []) ≡ None
  unfolding gives fits needs number term heap ref int terms refs column quantified
  row_26_1_6 = refl

  pub row_26_1_7 : instance language bank 26 1 (5 ∷ 0 ∷ 1 ∷ 2 ∷ 2 ∷ 4 ∷ 8 ∷ 3 ∷ 3 ∷ 8 ∷ []) ≡ None
  unfolding gives fits needs number term heap ref int terms refs column quantified
  row_26_1_7 = refl

  -- a claim
  pub row_26_1_8 : instance language bank 26 1 (5 ∷ 0 ∷ 1 ∷ 2 ∷ 2 ∷ 4 ∷ 8 ∷ 3 ∷ 2 ∷ 6 ∷ []) ≡ None
  unfolding gives fits needs number term heap ref int terms refs column quantified
  row_26_1_8 = refl

  pub row_26_1_9 : instance language bank 26 1 (5 ∷ 0 ∷ 1 ∷ 2 ∷ 2 ∷ 4 ∷ 8 ∷ 3 ∷ 1 ∷ 6 ∷ []) ≡ None
  unfolding gives fits needs number term heap ref int terms refs column quantified
  row_26_1_9 = refl

  -- a type that no struct has
  pub row_26_1_10 : instance language bank 26 1 (5 ∷ 0 ∷ 1 ∷ 2 ∷ 2 ∷ 4 ∷ 8 ∷ 3 ∷ 6 ∷ 6 ∷ []) ≡ None
  unfolding gives fits needs number term heap ref int terms refs column quantified
  row_26_1_10 = refl

  pub row_26_1_11 : instance language bank 26 1 (5 ∷ 0 ∷ 1 ∷ 2 ∷ 2 ∷ 4 ∷ 8 ∷ 3 ∷ 77 ∷ 6 ∷ []) ≡ None
  unfolding gives fits needs number term heap ref int terms refs column quantified
  row_26_1_11 = refl

  -- no field
  pub row_26_1_12 : instance language bank 26 1 (5 ∷ 0 ∷ 1 ∷ 2 ∷ 2 ∷ 4 ∷ 8 ∷ 3 ∷ 3 ∷ 0 ∷ []) ≡ None
  unfolding gives fits needs number term heap ref int terms refs column quantified
  row_26_1_12 = refl

  pub row_26_1_13 : instance language bank 26 1 (5 ∷ 0 ∷ 1 ∷ 2 ∷ 2 ∷ 4 ∷ 8 ∷ 3 ∷ 3 ∷ 2 ∷ []) ≡ None
  unfolding gives fits needs number term heap ref int terms refs column quantified
  row_26_1_13 = refl

  pub row_26_1_14 : instance language bank 26 1 (5 ∷ 0 ∷ 1 ∷ 2 ∷ 2 ∷ 4 ∷ 8 ∷ 3 ∷ 3 ∷ 3 ∷ 4 ∷ []) ≡ None
  unfolding gives fits needs number term heap ref int terms refs column quantified
  row_26_1_14 = refl

  pub row_26_1_15 : instance language bank 26 1 (5 ∷ 0 ∷ 1 ∷ 2 ∷ 2 ∷ 4 ∷ 8 ∷ 3 ∷ 3 ∷ 99 ∷ []) ≡ None
  unfolding gives fits needs number term heap ref int terms refs column quantified
  row_26_1_15 = refl

  -- a number is missing, or is too many
  pub row_26_1_16 : instance language bank 26 1 (5 ∷ 0 ∷ 1 ∷ 2 ∷ 2 ∷ 4 ∷ 8 ∷ 3 ∷ 3 ∷ []) ≡ None
  unfolding gives fits needs number term heap ref int terms refs column quantified
  row_26_1_16 = refl

  pub row_26_1_17 : instance language bank 26 1 (5 ∷ 0 ∷ 1 ∷ 2 ∷ 2 ∷ 4 ∷ 8 ∷ 3 ∷ 3 ∷ 6 ∷ 4 ∷ []) ≡ None
  unfolding gives fits needs number term heap ref int terms refs column quantified
  row_26_1_17 = refl

  pub row_27_1_1 : instance language bank 27 1 (0 ∷ 1 ∷ 3 ∷ 4 ∷ 3 ∷ 6 ∷ []) ≡ Some (node k.Imp (pos 0) ((node k.And (pos 0) ((node k.Not (pos 0) ((node k.Touched (pos 0) (r0 ∷ h0 ∷ h1 ∷ [])) ∷ [])) ∷ (node k.And (pos 0) ((node k.Eq (pos 0) ((node k.Typ (pos 0) (r1 ∷ [])) ∷ (node k.Int (pos 3) []) ∷ [])) ∷ (node k.Or (pos 0) ((node k.Eq (pos 0) ((node k.Get (pos 1) (h0 ∷ r1 ∷ [])) ∷ r0 ∷ [])) ∷ (node k.Eq (pos 0) ((node k.Get (pos 1) (h1 ∷ r1 ∷ [])) ∷ r0 ∷ [])) ∷ [])) ∷ [])) ∷ [])) ∷ (node k.Eq (pos 0) ((node k.Get (pos 6) (h1 ∷ r1 ∷ [])) ∷ (node k.Get (pos 6) (h0 ∷ r1 ∷ [])) ∷ [])) ∷ []))
  unfolding gives fits needs number term heap ref int terms refs column quantified
  row_27_1_1 = refl

  pub row_27_1_2 : instance language bank 27 1 (0 ∷ 1 ∷ 3 ∷ 4 ∷ 4 ∷ 8 ∷ []) ≡ Some (node k.Imp (pos 0) ((node k.And (pos 0) ((node k.Not (pos 0) ((node k.Touched (pos 0) (r0 ∷ h0 ∷ h1 ∷ [])) ∷ [])) ∷ (node k.And (pos 0) ((node k.Eq (pos 0) ((node k.Typ (pos 0) (r1 ∷ [])) ∷ (node k.Int (pos 4) []) ∷ [])) ∷ (node k.Or (pos 0) ((node k.Eq (pos 0) ((node k.Get (pos 1) (h0 ∷ r1 ∷ [])) ∷ r0 ∷ [])) ∷ (node k.Eq (pos 0) ((node k.Get (pos 1) (h1 ∷ r1 ∷ [])) ∷ r0 ∷ [])) ∷ [])) ∷ [])) ∷ [])) ∷ (node k.Eq (pos 0) ((node k.Get (pos 8) (h1 ∷ r1 ∷ [])) ∷ (node k.Get (pos 8) (h0 ∷ r1 ∷ [])) ∷ [])) ∷ []))
  unfolding gives fits needs number term heap ref int terms refs column quantified
  row_27_1_2 = refl

  -- a volatile field that isn't approved
  pub row_27_1_3 : instance language bank 27 1 (0 ∷ 1 ∷ 3 ∷ 4 ∷ 3 ∷ 7 ∷ []) ≡ None
  unfolding gives fits needs number term heap ref int terms refs column quantified
  row_27_1_3 = refl

  pub row_27_1_4 : instance language bank 27 1 (0 ∷ 1 ∷ 3 ∷ 4 ∷ 3 ∷ 5 ∷ []) ≡ None
  unfolding gives fits needs number term heap ref int terms refs column quantified
  row_27_1_4 = refl

  pub row_27_1_5 : instance language bank 27 1 (0 ∷ 1 ∷ 3 ∷ 4 ∷ 5 ∷ 9 ∷ []) ≡ None
  unfolding gives fits needs number term heap ref int terms refs column quantified
  row_27_1_5 = refl

  -- a field of another struct
  pub row_27_1_6 : instance language bank 27 1 (0 ∷ 1 ∷ 3 ∷ 4 ∷ 4 ∷ 6 ∷ []) ≡ None
  unfolding gives fits needs number term heap ref int terms refs column quantified
  row_27_1_6 = refl

  pub row_27_1_7 : instance language bank 27 1 (0 ∷ 1 ∷ 3 ∷ 4 ∷ 3 ∷ 8 ∷ []) ≡ None
  unfolding gives fits needs number term heap ref int terms refs column quantified
  row_27_1_7 = refl

  -- a claim
  pub row_27_1_8 : instance language bank 27 1 (0 ∷ 1 ∷ 3 ∷ 4 ∷ 2 ∷ 6 ∷ []) ≡ None
  unfolding gives fits needs number term heap ref int terms refs column quantified
  row_27_1_8 = refl

  pub row_27_1_9 : instance language bank 27 1 (0 ∷ 1 ∷ 3 ∷ 4 ∷ 1 ∷ 6 ∷ []) ≡ None
  unfolding gives fits needs number term heap ref int terms refs column quantified
  row_27_1_9 = refl

  -- a type that no struct has
  pub row_27_1_10 : instance language bank 27 1 (0 ∷ 1 ∷ 3 ∷ 4 ∷ 6 ∷ 6 ∷ []) ≡ None
  unfolding gives fits needs number term heap ref int terms refs column quantified
  row_27_1_10 = refl

  pub row_27_1_11 : instance language bank 27 1 (0 ∷ 1 ∷ 3 ∷ 4 ∷ 77 ∷ 6 ∷ []) ≡ None
  unfolding gives fits needs number term heap ref int terms refs column quantified
  row_27_1_11 = refl

  -- no field
  pub row_27_1_12 : instance language bank 27 1 (0 ∷ 1 ∷ 3 ∷ 4 ∷ 3 ∷ 0 ∷ []) ≡ None
  unfolding gives fits needs number term heap ref int terms refs column quantified
  row_27_1_12 = refl

  pub row_27_1_13 : instance language bank 27 1 (0 ∷ 1 ∷ 3 ∷ 4 ∷ 3 ∷ 2 ∷ []) ≡ None
  unfolding gives fits needs number term heap ref int terms refs column quantified
  row_27_1_13 = refl

  pub row_27_1_14 : instance language bank 27 1 (0 ∷ 1 ∷ 3 ∷ 4 ∷ 3 ∷ 3 ∷ 4 ∷ []) ≡ None
  unfolding gives fits needs number term heap ref int terms refs column quantified
  row_27_1_14 = refl

  pub row_27_1_15 : instance language bank 27 1 (0 ∷ 1 ∷ 3 ∷ 4 ∷ 3 ∷ 99 ∷ []) ≡ None
  unfolding gives fits needs number term heap ref int terms refs column quantified
  row_27_1_15 = refl

  -- a number is missing, or is too many
  pub row_27_1_16 : instance language bank 27 1 (0 ∷ 1 ∷ 3 ∷ 4 ∷ 3 ∷ []) ≡ None
  unfolding gives fits needs number term heap ref int terms refs column quantified
  row_27_1_16 = refl

  pub row_27_1_17 : instance language bank 27 1 (0 ∷ 1 ∷ 3 ∷ 4 ∷ 3 ∷ 6 ∷ 4 ∷ []) ≡ None
  unfolding gives fits needs number term heap ref int terms refs column quantified
  row_27_1_17 = refl

  -- a heap in the place of a reference
  pub row_25_1_18 : instance language bank 25 1 (0 ∷ 0 ∷ 1 ∷ 3 ∷ 3 ∷ 6 ∷ []) ≡ None
  unfolding gives fits needs number term heap ref int terms refs column quantified
  row_25_1_18 = refl

  -- no such part
  pub row_25_2_1 : instance language bank 25 2 (5 ∷ 0 ∷ 1 ∷ 3 ∷ 3 ∷ 6 ∷ []) ≡ None
  unfolding gives fits needs number term heap ref int terms refs column quantified
  row_25_2_1 = refl

  -- no writes list
  pub row_26_1_18 : instance language bank 26 1 (5 ∷ 0 ∷ 1 ∷ 2 ∷ 0 ∷ 3 ∷ 3 ∷ 6 ∷ []) ≡ Some (node k.Imp (pos 0) ((node k.And (pos 0) ((node k.And (pos 0) ((node k.Frame (pos 0) (r2 ∷ h0 ∷ h1 ∷ h2 ∷ [])) ∷ (node k.And (pos 0) ((node k.Eq (pos 0) ((node k.Get (pos 1) (h0 ∷ r0 ∷ [])) ∷ r2 ∷ [])) ∷ (node k.Eq (pos 0) ((node k.Get (pos 1) (h2 ∷ r0 ∷ [])) ∷ r2 ∷ [])) ∷ [])) ∷ [])) ∷ (node k.And (pos 0) ((node k.Eq (pos 0) ((node k.Get (pos 0) (h0 ∷ r0 ∷ [])) ∷ (node k.Int (pos 2) []) ∷ [])) ∷ (node k.Eq (pos 0) ((node k.Typ (pos 0) (r0 ∷ [])) ∷ (node k.Int (pos 3) []) ∷ [])) ∷ [])) ∷ [])) ∷ (node k.Eq (pos 0) ((node k.Get (pos 6) (h1 ∷ r0 ∷ [])) ∷ (node k.Get (pos 6) (h0 ∷ r0 ∷ [])) ∷ [])) ∷ []))
  unfolding gives fits needs number term heap ref int terms refs column quantified
  row_26_1_18 = refl

  -- a list that is too long
  pub row_26_1_19 : instance language bank 26 1 (5 ∷ 0 ∷ 1 ∷ 2 ∷ 3 ∷ 4 ∷ 8 ∷ 3 ∷ 3 ∷ 6 ∷ []) ≡ None
  unfolding gives fits needs number term heap ref int terms refs column quantified
  row_26_1_19 = refl

  pub row_26_2_1 : instance language bank 26 2 (5 ∷ 0 ∷ 1 ∷ 2 ∷ 0 ∷ 3 ∷ 3 ∷ 6 ∷ []) ≡ None
  unfolding gives fits needs number term heap ref int terms refs column quantified
  row_26_2_1 = refl

  -- the object itself
  pub row_27_1_18 : instance language bank 27 1 (0 ∷ 1 ∷ 3 ∷ 3 ∷ 3 ∷ 6 ∷ []) ≡ Some (node k.Imp (pos 0) ((node k.And (pos 0) ((node k.Not (pos 0) ((node k.Touched (pos 0) (r0 ∷ h0 ∷ h1 ∷ [])) ∷ [])) ∷ (node k.And (pos 0) ((node k.Eq (pos 0) ((node k.Typ (pos 0) (r0 ∷ [])) ∷ (node k.Int (pos 3) []) ∷ [])) ∷ (node k.Or (pos 0) ((node k.Eq (pos 0) ((node k.Get (pos 1) (h0 ∷ r0 ∷ [])) ∷ r0 ∷ [])) ∷ (node k.Eq (pos 0) ((node k.Get (pos 1) (h1 ∷ r0 ∷ [])) ∷ r0 ∷ [])) ∷ [])) ∷ [])) ∷ [])) ∷ (node k.Eq (pos 0) ((node k.Get (pos 6) (h1 ∷ r0 ∷ [])) ∷ (node k.Get (pos 6) (h0 ∷ r0 ∷ [])) ∷ [])) ∷ []))
  unfolding gives fits needs number term heap ref int terms refs column quantified
  row_27_1_18 = refl

  pub row_27_1_19 : instance language bank 27 1 (0 ∷ 1 ∷ 0 ∷ 4 ∷ 3 ∷ 6 ∷ []) ≡ None
  unfolding gives fits needs number term heap ref int terms refs column quantified
  row_27_1_19 = refl

  pub row_27_2_1 : instance language bank 27 2 (0 ∷ 1 ∷ 3 ∷ 4 ∷ 3 ∷ 6 ∷ []) ≡ None
  unfolding gives fits needs number term heap ref int terms refs column quantified
  row_27_2_1 = refl
