-- Instances of the axioms, by computation. Own. The expected formulas were written by another program, which knows none of these definitions.
-- _(claimable) struct A { int x; volatile int v; _(invariant x <= v) };
-- _(dynamic_owns) struct D { int n; _(invariant \forall struct A *p; p \in \this->\owns ==> p->x == n) };
-- _(volatile_owns) struct V { struct A *a; };
-- void f(struct A *p, int k) _(writes p) _(requires \wrapped(p)) {
--   _(ghost \claim c = \make_claim({p}, p->x == k);) }
-- void main() {}
use Rattle.std.specs.Prelude.{◌≡◌, ℕ, ℤ, pos, negsuc, true, false, List, [], ◌∷◌, Option, Some, None, slice_get, refl}
use Rattle.int_ranges.specs.declared.ctype.CType.TheVariants.{Int as SignedInt}
use Rattle.method.specs.declared.program.DeclaredType.TheVariants.{Integer, Pointer}
use Rattle.method.specs.declared.program.Sort.TheVariants.{IntSort, RefSort}
use Rattle.method.specs.declared.program.Comparison.TheVariants.{Equal, LessEqual}
use Rattle.method.specs.declared.program.Spec.{Spec}
use Rattle.method.specs.declared.program.Spec.TheVariants.{Variable, Bound, This, Field', Compare', ForAll'}
use Rattle.method.specs.declared.program.Program.{Program}
use Rattle.method.specs.Trace.{Memory, vec, box}
use Rattle.terms.specs.declared.term.Kind.{Kind}
use Rattle.terms.specs.declared.term.Kind.TheVariants as k
use Rattle.terms.specs.declared.sort.Sort.TheVariants as s
use Rattle.terms.specs.Formula.{Formula, Node}
use Rattle.term_meaning.specs.Meaning.{Language}
use Rattle.term_meaning.specs.Filling.{trees}
use Rattle.axiom_instances.specs.Fitting.{gives, fits, needs, number, term, heap, ref, int, terms, refs, column, quantified}
use Rattle.axiom_instances.specs.Axioms.{instance}

abbrev pub node : Kind → ℤ → List Formula → Formula
node kind n fs = Node kind n (trees fs)

abbrev pub h0 : Formula
h0 = node k.Ch (pos 0) []

abbrev pub h1 : Formula
h1 = node k.Ch (pos 1) []

abbrev pub h2 : Formula
h2 = node k.Ch (pos 2) []

abbrev pub r0 : Formula
r0 = node k.Cr (pos 0) []

abbrev pub r1 : Formula
r1 = node k.Cr (pos 1) []

abbrev pub r2 : Formula
r2 = node k.Cr (pos 2) []

abbrev pub i0 : Formula
i0 = node k.Ci (pos 0) []

abbrev pub i1 : Formula
i1 = node k.Ci (pos 1) []

abbrev pub null : Formula
null = node k.Null (pos 0) []

abbrev pub me : Formula
me = node k.Me (pos 0) []

abbrev pub seven : Formula
seven = node k.Set (pos 0) (h0 ∷ r0 ∷ (node k.Int (pos 7) []) ∷ [])

abbrev pub two : Formula
two = node k.Set (pos 0) (h0 ∷ r0 ∷ (node k.Int (pos 2) []) ∷ [])

abbrev pub opened : Formula
opened = node k.Open (pos 0) (h0 ∷ r0 ∷ r1 ∷ [])

abbrev pub closed : Formula
closed = node k.Close (pos 0) (h0 ∷ r0 ∷ r1 ∷ [])

abbrev pub member : Formula
member = node k.Get (pos 3) (h0 ∷ r0 ∷ r1 ∷ [])

abbrev pub field : Formula
field = node k.Get (pos 5) (h0 ∷ r0 ∷ [])

abbrev pub chosen : Formula
chosen = node k.Set (pos 3) (h0 ∷ r0 ∷ r1 ∷ (node k.Ite (pos 0) ((node k.Good (pos 0) (h0 ∷ [])) ∷ (node k.Int (pos 1) []) ∷ (node k.Int (pos 0) []) ∷ [])) ∷ [])

abbrev pub choice_read : Formula
choice_read = node k.Get (pos 3) (chosen ∷ r0 ∷ r1 ∷ [])

abbrev pub owned7 : Formula
owned7 = node k.Set (pos 1) ((node k.Clear (pos 0) (h0 ∷ r0 ∷ [])) ∷ r0 ∷ r1 ∷ [])

abbrev pub bad_sort : Formula
bad_sort = node k.Add (pos 0) (r0 ∷ i0 ∷ [])

abbrev pub shape_read : Formula
shape_read = node k.Get (pos 9) (h0 ∷ r0 ∷ r1 ∷ i0 ∷ [])

abbrev pub bank : ℕ → Option Formula
bank n = slice_get (h0 ∷ h1 ∷ h2 ∷ r0 ∷ r1 ∷ r2 ∷ i0 ∷ i1 ∷ null ∷ me ∷ seven ∷ two ∷ opened ∷ closed ∷ member ∷ field ∷ chosen ∷ choice_read ∷ owned7 ∷ bad_sort ∷ shape_read ∷ []) n

module _ (m : Memory) where
  abbrev pub at_most : Spec
  at_most = Compare' LessEqual (box m) (Field' (box m) This 0) (box m) (Field' (box m) This 1)

  abbrev pub members_alike : Spec
  members_alike = ForAll' 0 (Pointer 3) (box m) This (box m) (Compare' Equal (box m) (Field' (box m) (Bound 0) 0) (box m) (Field' (box m) This 2))

  abbrev pub holds_k : Spec
  holds_k = Compare' Equal (box m) (Field' (box m) (Variable 0) 0) (box m) (Variable 1)

  abbrev pub sample : Program
  sample = record {
    structs = vec m (record { name = m.text; line = 1; is_claimable = true; has_dynamic_owns = false; has_volatile_owns = false; first_field = 0; fields = 2; invariants = vec m (at_most ∷ []); has_approval = false; mine = vec m [] }
        ∷ record { name = m.text; line = 2; is_claimable = false; has_dynamic_owns = true; has_volatile_owns = false; first_field = 2; fields = 1; invariants = vec m (members_alike ∷ []); has_approval = false; mine = vec m [] }
        ∷ record { name = m.text; line = 3; is_claimable = false; has_dynamic_owns = false; has_volatile_owns = true; first_field = 3; fields = 1; invariants = vec m []; has_approval = false; mine = vec m [] }
        ∷ []);
    fields = vec m (record { name = m.text; of = 3; ty = Integer SignedInt; is_volatile = false; is_ghost = false; is_approved = false }
        ∷ record { name = m.text; of = 3; ty = Integer SignedInt; is_volatile = true; is_ghost = false; is_approved = false }
        ∷ record { name = m.text; of = 4; ty = Integer SignedInt; is_volatile = false; is_ghost = false; is_approved = false }
        ∷ record { name = m.text; of = 5; ty = Pointer 3; is_volatile = false; is_ghost = false; is_approved = false }
        ∷ []);
    functions = vec m [];
    sites = vec m [];
    shapes = vec m (record { holes = vec m (RefSort ∷ IntSort ∷ []); conjunct = holds_k } ∷ []);
    items = vec m [];
    main = 0;
  }

  -- its formulas, as they are translated
  abbrev pub sample_language : Language
  sample_language = record {
    program = sample;
    quantified = record { holes = s.Heap ∷ s.Ref ∷ []; body = node k.Imp (pos 0) ((node k.Or (pos 0) ((node k.Eq (pos 0) ((node k.Cr (pos 2) []) ∷ (node k.Null (pos 0) []) ∷ [])) ∷ (node k.Eq (pos 0) ((node k.Typ (pos 0) ((node k.Cr (pos 2) []) ∷ [])) ∷ (node k.Int (pos 3) []) ∷ [])) ∷ [])) ∷ (node k.Imp (pos 0) ((node k.Eq (pos 0) ((node k.Get (pos 3) ((node k.Ch (pos 0) []) ∷ (node k.Cr (pos 1) []) ∷ (node k.Cr (pos 2) []) ∷ [])) ∷ (node k.Int (pos 1) []) ∷ [])) ∷ (node k.Eq (pos 0) ((node k.Get (pos 5) ((node k.Ch (pos 0) []) ∷ (node k.Cr (pos 2) []) ∷ [])) ∷ (node k.Get (pos 7) ((node k.Ch (pos 0) []) ∷ (node k.Cr (pos 1) []) ∷ [])) ∷ [])) ∷ [])) ∷ []) } ∷ [];
    invariants = node k.Le (pos 0) ((node k.Get (pos 5) ((node k.Ch (pos 2) []) ∷ (node k.Cr (pos 0) []) ∷ [])) ∷ (node k.Get (pos 6) ((node k.Ch (pos 2) []) ∷ (node k.Cr (pos 0) []) ∷ [])) ∷ []) ∷ node k.All (pos 0) ((node k.Ch (pos 2) []) ∷ (node k.Cr (pos 0) []) ∷ []) ∷ node k.True (pos 0) [] ∷ [];
    conjuncts = node k.Eq (pos 0) ((node k.Get (pos 5) ((node k.Ch (pos 0) []) ∷ (node k.Cr (pos 1) []) ∷ [])) ∷ (node k.Ci (pos 2) []) ∷ []) ∷ [];
  }

  pub row_1_1 : instance sample_language bank 1 1 (0 ∷ 0 ∷ 3 ∷ 3 ∷ []) ≡ Some (node k.Imp (pos 0) ((node k.All (pos 0) (h0 ∷ r0 ∷ [])) ∷ (node k.Imp (pos 0) ((node k.Or (pos 0) ((node k.Eq (pos 0) (r0 ∷ null ∷ [])) ∷ (node k.Eq (pos 0) ((node k.Typ (pos 0) (r0 ∷ [])) ∷ (node k.Int (pos 3) []) ∷ [])) ∷ [])) ∷ (node k.Imp (pos 0) ((node k.Eq (pos 0) ((node k.Get (pos 3) (h0 ∷ r0 ∷ r0 ∷ [])) ∷ (node k.Int (pos 1) []) ∷ [])) ∷ (node k.Eq (pos 0) (field ∷ (node k.Get (pos 7) (h0 ∷ r0 ∷ [])) ∷ [])) ∷ [])) ∷ [])) ∷ []))
  unfolding gives fits needs number term heap ref int terms refs column quantified
  row_1_1 = refl

  pub row_2_1 : instance sample_language bank 2 1 (0 ∷ 0 ∷ 3 ∷ []) ≡ Some (node k.Imp (pos 0) ((node k.Imp (pos 0) ((node k.Or (pos 0) ((node k.Eq (pos 0) ((node k.Cex (pos 0) (h0 ∷ r0 ∷ [])) ∷ null ∷ [])) ∷ (node k.Eq (pos 0) ((node k.Typ (pos 0) ((node k.Cex (pos 0) (h0 ∷ r0 ∷ [])) ∷ [])) ∷ (node k.Int (pos 3) []) ∷ [])) ∷ [])) ∷ (node k.Imp (pos 0) ((node k.Eq (pos 0) ((node k.Get (pos 3) (h0 ∷ r0 ∷ (node k.Cex (pos 0) (h0 ∷ r0 ∷ [])) ∷ [])) ∷ (node k.Int (pos 1) []) ∷ [])) ∷ (node k.Eq (pos 0) ((node k.Get (pos 5) (h0 ∷ (node k.Cex (pos 0) (h0 ∷ r0 ∷ [])) ∷ [])) ∷ (node k.Get (pos 7) (h0 ∷ r0 ∷ [])) ∷ [])) ∷ [])) ∷ [])) ∷ (node k.All (pos 0) (h0 ∷ r0 ∷ [])) ∷ []))
  unfolding gives fits needs number term heap ref int terms refs column quantified
  row_2_1 = refl

  pub row_3_1 : instance sample_language bank 3 1 [] ≡ Some (node k.Eq (pos 0) ((node k.Typ (pos 0) (null ∷ [])) ∷ (node k.Int (pos 0) []) ∷ []))
  unfolding gives fits needs number term heap ref int terms refs column quantified
  row_3_1 = refl

  pub row_3_2 : instance sample_language bank 3 2 (3 ∷ []) ≡ Some (node k.Imp (pos 0) ((node k.Eq (pos 0) ((node k.Typ (pos 0) (r0 ∷ [])) ∷ (node k.Int (pos 0) []) ∷ [])) ∷ (node k.Eq (pos 0) (r0 ∷ null ∷ [])) ∷ []))
  unfolding gives fits needs number term heap ref int terms refs column quantified
  row_3_2 = refl

  pub row_3_3 : instance sample_language bank 3 3 [] ≡ Some (node k.Eq (pos 0) ((node k.Typ (pos 0) (me ∷ [])) ∷ (node k.Int (pos 1) []) ∷ []))
  unfolding gives fits needs number term heap ref int terms refs column quantified
  row_3_3 = refl

  pub row_3_4 : instance sample_language bank 3 4 (3 ∷ []) ≡ Some (node k.Le (pos 0) ((node k.Int (pos 0) []) ∷ (node k.Typ (pos 0) (r0 ∷ [])) ∷ []))
  unfolding gives fits needs number term heap ref int terms refs column quantified
  row_3_4 = refl

  pub row_4_1 : instance sample_language bank 4 1 (0 ∷ 3 ∷ []) ≡ Some (node k.And (pos 0) ((node k.Le (pos 0) ((node k.Int (pos 0) []) ∷ (node k.Get (pos 0) (h0 ∷ r0 ∷ [])) ∷ [])) ∷ (node k.Le (pos 0) ((node k.Get (pos 0) (h0 ∷ r0 ∷ [])) ∷ (node k.Int (pos 3) []) ∷ [])) ∷ []))
  unfolding gives fits needs number term heap ref int terms refs column quantified
  row_4_1 = refl

  pub row_4_2 : instance sample_language bank 4 2 (14 ∷ []) ≡ Some (node k.Or (pos 0) ((node k.Eq (pos 0) (member ∷ (node k.Int (pos 0) []) ∷ [])) ∷ (node k.Eq (pos 0) (member ∷ (node k.Int (pos 1) []) ∷ [])) ∷ []))
  unfolding gives fits needs number term heap ref int terms refs column quantified
  row_4_2 = refl

  pub row_5_1 : instance sample_language bank 5 1 (0 ∷ []) ≡ Some (node k.Imp (pos 0) ((node k.Good (pos 0) (h0 ∷ [])) ∷ (node k.Sys (pos 0) (h0 ∷ [])) ∷ []))
  unfolding gives fits needs number term heap ref int terms refs column quantified
  row_5_1 = refl

  pub row_6_1 : instance sample_language bank 6 1 (0 ∷ 3 ∷ []) ≡ Some (node k.Imp (pos 0) ((node k.Sys (pos 0) (h0 ∷ [])) ∷ (node k.Le (pos 0) ((node k.Int (pos 0) []) ∷ (node k.Get (pos 2) (h0 ∷ r0 ∷ [])) ∷ [])) ∷ []))
  unfolding gives fits needs number term heap ref int terms refs column quantified
  row_6_1 = refl

  pub row_6_2 : instance sample_language bank 6 2 (0 ∷ []) ≡ Some (node k.Imp (pos 0) ((node k.Sys (pos 0) (h0 ∷ [])) ∷ (node k.Eq (pos 0) ((node k.Get (pos 0) (h0 ∷ null ∷ [])) ∷ (node k.Int (pos 0) []) ∷ [])) ∷ []))
  unfolding gives fits needs number term heap ref int terms refs column quantified
  row_6_2 = refl

  pub row_6_3 : instance sample_language bank 6 3 (0 ∷ 3 ∷ []) ≡ Some (node k.Imp (pos 0) ((node k.And (pos 0) ((node k.Sys (pos 0) (h0 ∷ [])) ∷ (node k.Eq (pos 0) ((node k.Typ (pos 0) (r0 ∷ [])) ∷ (node k.Int (pos 1) []) ∷ [])) ∷ [])) ∷ (node k.Eq (pos 0) ((node k.Get (pos 0) (h0 ∷ r0 ∷ [])) ∷ (node k.Int (pos 0) []) ∷ [])) ∷ []))
  unfolding gives fits needs number term heap ref int terms refs column quantified
  row_6_3 = refl

  pub row_7_1 : instance sample_language bank 7 1 (0 ∷ 3 ∷ []) ≡ Some (node k.Imp (pos 0) ((node k.And (pos 0) ((node k.Sys (pos 0) (h0 ∷ [])) ∷ (node k.Eq (pos 0) ((node k.Get (pos 0) (h0 ∷ r0 ∷ [])) ∷ (node k.Int (pos 1) []) ∷ [])) ∷ [])) ∷ (node k.And (pos 0) ((node k.Eq (pos 0) ((node k.Typ (pos 0) ((node k.Get (pos 1) (h0 ∷ r0 ∷ [])) ∷ [])) ∷ (node k.Int (pos 1) []) ∷ [])) ∷ (node k.Eq (pos 0) ((node k.Get (pos 2) (h0 ∷ r0 ∷ [])) ∷ (node k.Int (pos 0) []) ∷ [])) ∷ [])) ∷ []))
  unfolding gives fits needs number term heap ref int terms refs column quantified
  row_7_1 = refl

  pub row_7_2 : instance sample_language bank 7 2 (0 ∷ 3 ∷ []) ≡ Some (node k.Imp (pos 0) ((node k.And (pos 0) ((node k.Sys (pos 0) (h0 ∷ [])) ∷ (node k.Or (pos 0) ((node k.Eq (pos 0) ((node k.Get (pos 0) (h0 ∷ r0 ∷ [])) ∷ (node k.Int (pos 0) []) ∷ [])) ∷ (node k.Eq (pos 0) ((node k.Get (pos 0) (h0 ∷ r0 ∷ [])) ∷ (node k.Int (pos 3) []) ∷ [])) ∷ [])) ∷ [])) ∷ (node k.And (pos 0) ((node k.Eq (pos 0) ((node k.Get (pos 1) (h0 ∷ r0 ∷ [])) ∷ null ∷ [])) ∷ (node k.Eq (pos 0) ((node k.Get (pos 2) (h0 ∷ r0 ∷ [])) ∷ (node k.Int (pos 0) []) ∷ [])) ∷ [])) ∷ []))
  unfolding gives fits needs number term heap ref int terms refs column quantified
  row_7_2 = refl

  pub row_8_1 : instance sample_language bank 8 1 (0 ∷ 3 ∷ []) ≡ Some (node k.Imp (pos 0) ((node k.And (pos 0) ((node k.Sys (pos 0) (h0 ∷ [])) ∷ (node k.Eq (pos 0) ((node k.Get (pos 0) (h0 ∷ r0 ∷ [])) ∷ (node k.Int (pos 2) []) ∷ [])) ∷ [])) ∷ (node k.Or (pos 0) ((node k.Eq (pos 0) ((node k.Typ (pos 0) ((node k.Get (pos 1) (h0 ∷ r0 ∷ [])) ∷ [])) ∷ (node k.Int (pos 1) []) ∷ [])) ∷ (node k.And (pos 0) ((node k.Eq (pos 0) ((node k.Get (pos 0) (h0 ∷ (node k.Get (pos 1) (h0 ∷ r0 ∷ [])) ∷ [])) ∷ (node k.Int (pos 2) []) ∷ [])) ∷ (node k.Eq (pos 0) ((node k.Get (pos 3) (h0 ∷ (node k.Get (pos 1) (h0 ∷ r0 ∷ [])) ∷ r0 ∷ [])) ∷ (node k.Int (pos 1) []) ∷ [])) ∷ [])) ∷ [])) ∷ []))
  unfolding gives fits needs number term heap ref int terms refs column quantified
  row_8_1 = refl

  pub row_9_1 : instance sample_language bank 9 1 (0 ∷ 3 ∷ 4 ∷ []) ≡ Some (node k.Imp (pos 0) ((node k.And (pos 0) ((node k.Sys (pos 0) (h0 ∷ [])) ∷ (node k.And (pos 0) ((node k.Eq (pos 0) ((node k.Get (pos 0) (h0 ∷ r0 ∷ [])) ∷ (node k.Int (pos 2) []) ∷ [])) ∷ (node k.Eq (pos 0) (member ∷ (node k.Int (pos 1) []) ∷ [])) ∷ [])) ∷ [])) ∷ (node k.And (pos 0) ((node k.Eq (pos 0) ((node k.Get (pos 0) (h0 ∷ r1 ∷ [])) ∷ (node k.Int (pos 2) []) ∷ [])) ∷ (node k.Eq (pos 0) ((node k.Get (pos 1) (h0 ∷ r1 ∷ [])) ∷ r0 ∷ [])) ∷ [])) ∷ []))
  unfolding gives fits needs number term heap ref int terms refs column quantified
  row_9_1 = refl

  pub row_10_1 : instance sample_language bank 10 1 (0 ∷ 3 ∷ 4 ∷ []) ≡ Some (node k.Imp (pos 0) ((node k.And (pos 0) ((node k.Sys (pos 0) (h0 ∷ [])) ∷ (node k.And (pos 0) ((node k.Eq (pos 0) ((node k.Get (pos 0) (h0 ∷ r0 ∷ [])) ∷ (node k.Int (pos 2) []) ∷ [])) ∷ (node k.Eq (pos 0) ((node k.Get (pos 4) (h0 ∷ r0 ∷ r1 ∷ [])) ∷ (node k.Int (pos 1) []) ∷ [])) ∷ [])) ∷ [])) ∷ (node k.And (pos 0) ((node k.Eq (pos 0) ((node k.Typ (pos 0) (r0 ∷ [])) ∷ (node k.Int (pos 2) []) ∷ [])) ∷ (node k.And (pos 0) ((node k.Eq (pos 0) ((node k.Get (pos 0) (h0 ∷ r1 ∷ [])) ∷ (node k.Int (pos 2) []) ∷ [])) ∷ (node k.Le (pos 0) ((node k.Int (pos 1) []) ∷ (node k.Get (pos 2) (h0 ∷ r1 ∷ [])) ∷ [])) ∷ [])) ∷ [])) ∷ []))
  unfolding gives fits needs number term heap ref int terms refs column quantified
  row_10_1 = refl

  pub row_11_1 : instance sample_language bank 11 1 (0 ∷ 3 ∷ 5 ∷ []) ≡ Some (node k.Imp (pos 0) ((node k.And (pos 0) ((node k.Sys (pos 0) (h0 ∷ [])) ∷ (node k.Eq (pos 0) ((node k.Typ (pos 0) (r0 ∷ [])) ∷ (node k.Int (pos 5) []) ∷ [])) ∷ [])) ∷ (node k.Eq (pos 0) ((node k.Get (pos 2) (h0 ∷ r0 ∷ [])) ∷ (node k.Int (pos 0) []) ∷ [])) ∷ []))
  unfolding gives fits needs number term heap ref int terms refs column quantified
  row_11_1 = refl

  pub row_12_1 : instance sample_language bank 12 1 (0 ∷ 3 ∷ 8 ∷ []) ≡ Some (node k.Imp (pos 0) ((node k.Sys (pos 0) (h0 ∷ [])) ∷ (node k.Or (pos 0) ((node k.Eq (pos 0) ((node k.Get (pos 8) (h0 ∷ r0 ∷ [])) ∷ null ∷ [])) ∷ (node k.Eq (pos 0) ((node k.Typ (pos 0) ((node k.Get (pos 8) (h0 ∷ r0 ∷ [])) ∷ [])) ∷ (node k.Int (pos 3) []) ∷ [])) ∷ [])) ∷ []))
  unfolding gives fits needs number term heap ref int terms refs column quantified
  row_12_1 = refl

  pub row_13_1 : instance sample_language bank 13 1 (0 ∷ 3 ∷ []) ≡ Some (node k.Imp (pos 0) ((node k.And (pos 0) ((node k.Good (pos 0) (h0 ∷ [])) ∷ (node k.Eq (pos 0) ((node k.Get (pos 0) (h0 ∷ r0 ∷ [])) ∷ (node k.Int (pos 2) []) ∷ [])) ∷ [])) ∷ (node k.Inv (pos 0) (r0 ∷ h0 ∷ h0 ∷ [])) ∷ []))
  unfolding gives fits needs number term heap ref int terms refs column quantified
  row_13_1 = refl

  pub row_14_1 : instance sample_language bank 14 1 (0 ∷ 1 ∷ 3 ∷ 3 ∷ []) ≡ Some (node k.Imp (pos 0) ((node k.Eq (pos 0) ((node k.Typ (pos 0) (r0 ∷ [])) ∷ (node k.Int (pos 3) []) ∷ [])) ∷ (node k.Imp (pos 0) ((node k.Inv (pos 0) (r0 ∷ h0 ∷ h1 ∷ [])) ∷ (node k.Le (pos 0) ((node k.Get (pos 5) (h1 ∷ r0 ∷ [])) ∷ (node k.Get (pos 6) (h1 ∷ r0 ∷ [])) ∷ [])) ∷ [])) ∷ []))
  unfolding gives fits needs number term heap ref int terms refs column quantified
  row_14_1 = refl

  pub row_14_2 : instance sample_language bank 14 2 (0 ∷ 1 ∷ 3 ∷ 3 ∷ []) ≡ Some (node k.Imp (pos 0) ((node k.Eq (pos 0) ((node k.Typ (pos 0) (r0 ∷ [])) ∷ (node k.Int (pos 3) []) ∷ [])) ∷ (node k.Imp (pos 0) ((node k.Le (pos 0) ((node k.Get (pos 5) (h1 ∷ r0 ∷ [])) ∷ (node k.Get (pos 6) (h1 ∷ r0 ∷ [])) ∷ [])) ∷ (node k.Inv (pos 0) (r0 ∷ h0 ∷ h1 ∷ [])) ∷ [])) ∷ []))
  unfolding gives fits needs number term heap ref int terms refs column quantified
  row_14_2 = refl

  pub row_15_1 : instance sample_language bank 15 1 (0 ∷ 3 ∷ 9 ∷ 4 ∷ 6 ∷ []) ≡ Some (node k.Imp (pos 0) ((node k.And (pos 0) ((node k.Good (pos 0) (h0 ∷ [])) ∷ (node k.And (pos 0) ((node k.Eq (pos 0) ((node k.Get (pos 0) (h0 ∷ r0 ∷ [])) ∷ (node k.Int (pos 2) []) ∷ [])) ∷ (node k.Eq (pos 0) (shape_read ∷ (node k.Int (pos 1) []) ∷ [])) ∷ [])) ∷ [])) ∷ (node k.Eq (pos 0) ((node k.Get (pos 5) (h0 ∷ r1 ∷ [])) ∷ i0 ∷ [])) ∷ []))
  unfolding gives fits needs number term heap ref int terms refs column quantified
  row_15_1 = refl

  pub row_16_1 : instance sample_language bank 16 1 (5 ∷ 0 ∷ 1 ∷ []) ≡ Some (node k.Imp (pos 0) ((node k.Rely (pos 0) (r2 ∷ h0 ∷ h1 ∷ [])) ∷ (node k.And (pos 0) ((node k.Good (pos 0) (h0 ∷ [])) ∷ (node k.Good (pos 0) (h1 ∷ [])) ∷ [])) ∷ []))
  unfolding gives fits needs number term heap ref int terms refs column quantified
  row_16_1 = refl

  pub row_17_1 : instance sample_language bank 17 1 (5 ∷ 0 ∷ 1 ∷ 3 ∷ 3 ∷ 4 ∷ []) ≡ Some (node k.Imp (pos 0) ((node k.And (pos 0) ((node k.Rely (pos 0) (r2 ∷ h0 ∷ h1 ∷ [])) ∷ (node k.And (pos 0) ((node k.Eq (pos 0) ((node k.Get (pos 0) (h0 ∷ r0 ∷ [])) ∷ (node k.Int (pos 1) []) ∷ [])) ∷ (node k.Eq (pos 0) ((node k.Get (pos 1) (h0 ∷ r0 ∷ [])) ∷ r2 ∷ [])) ∷ [])) ∷ [])) ∷ (node k.And (pos 0) ((node k.Eq (pos 0) ((node k.Get (pos 0) (h1 ∷ r0 ∷ [])) ∷ (node k.Int (pos 1) []) ∷ [])) ∷ (node k.And (pos 0) ((node k.Eq (pos 0) ((node k.Get (pos 1) (h1 ∷ r0 ∷ [])) ∷ r2 ∷ [])) ∷ (node k.Eq (pos 0) ((node k.Get (pos 3) (h1 ∷ r0 ∷ r1 ∷ [])) ∷ member ∷ [])) ∷ [])) ∷ [])) ∷ []))
  unfolding gives fits needs number term heap ref int terms refs column quantified
  row_17_1 = refl

  pub row_18_1 : instance sample_language bank 18 1 (5 ∷ 0 ∷ 1 ∷ 3 ∷ []) ≡ Some (node k.Imp (pos 0) ((node k.And (pos 0) ((node k.Rely (pos 0) (r2 ∷ h0 ∷ h1 ∷ [])) ∷ (node k.And (pos 0) ((node k.Eq (pos 0) ((node k.Get (pos 0) (h0 ∷ r0 ∷ [])) ∷ (node k.Int (pos 2) []) ∷ [])) ∷ (node k.Eq (pos 0) ((node k.Get (pos 1) (h0 ∷ r0 ∷ [])) ∷ r2 ∷ [])) ∷ [])) ∷ [])) ∷ (node k.And (pos 0) ((node k.Eq (pos 0) ((node k.Get (pos 0) (h1 ∷ r0 ∷ [])) ∷ (node k.Int (pos 2) []) ∷ [])) ∷ (node k.And (pos 0) ((node k.Eq (pos 0) ((node k.Get (pos 1) (h1 ∷ r0 ∷ [])) ∷ r2 ∷ [])) ∷ (node k.Eq (pos 0) ((node k.Get (pos 2) (h1 ∷ r0 ∷ [])) ∷ (node k.Get (pos 2) (h0 ∷ r0 ∷ [])) ∷ [])) ∷ [])) ∷ [])) ∷ []))
  unfolding gives fits needs number term heap ref int terms refs column quantified
  row_18_1 = refl

  pub row_19_1 : instance sample_language bank 19 1 (5 ∷ 0 ∷ 1 ∷ 3 ∷ 3 ∷ 5 ∷ []) ≡ Some (node k.Imp (pos 0) ((node k.And (pos 0) ((node k.Rely (pos 0) (r2 ∷ h0 ∷ h1 ∷ [])) ∷ (node k.And (pos 0) ((node k.Stab (pos 0) (r2 ∷ h0 ∷ r0 ∷ h0 ∷ [])) ∷ (node k.Eq (pos 0) ((node k.Typ (pos 0) (r0 ∷ [])) ∷ (node k.Int (pos 3) []) ∷ [])) ∷ [])) ∷ [])) ∷ (node k.And (pos 0) ((node k.Stab (pos 0) (r2 ∷ h1 ∷ r0 ∷ h1 ∷ [])) ∷ (node k.Eq (pos 0) ((node k.Get (pos 5) (h1 ∷ r0 ∷ [])) ∷ field ∷ [])) ∷ [])) ∷ []))
  unfolding gives fits needs number term heap ref int terms refs column quantified
  row_19_1 = refl

  pub row_20_1 : instance sample_language bank 20 1 (5 ∷ 0 ∷ 1 ∷ 3 ∷ []) ≡ Some (node k.Imp (pos 0) ((node k.And (pos 0) ((node k.Rely (pos 0) (r2 ∷ h0 ∷ h1 ∷ [])) ∷ (node k.Eq (pos 0) ((node k.Get (pos 1) (h1 ∷ r0 ∷ [])) ∷ r2 ∷ [])) ∷ [])) ∷ (node k.Eq (pos 0) ((node k.Get (pos 1) (h0 ∷ r0 ∷ [])) ∷ r2 ∷ [])) ∷ []))
  unfolding gives fits needs number term heap ref int terms refs column quantified
  row_20_1 = refl

  pub row_21_1 : instance sample_language bank 21 1 (5 ∷ 0 ∷ 1 ∷ 2 ∷ 2 ∷ 4 ∷ 8 ∷ []) ≡ Some (node k.Imp (pos 0) ((node k.Frame (pos 0) (r2 ∷ h0 ∷ h1 ∷ h2 ∷ r1 ∷ null ∷ [])) ∷ (node k.Good (pos 0) (h1 ∷ [])) ∷ []))
  unfolding gives fits needs number term heap ref int terms refs column quantified
  row_21_1 = refl

  pub row_21_2 : instance sample_language bank 21 2 (5 ∷ 0 ∷ 1 ∷ 2 ∷ 2 ∷ 4 ∷ 8 ∷ 3 ∷ 5 ∷ []) ≡ Some (node k.Imp (pos 0) ((node k.And (pos 0) ((node k.And (pos 0) ((node k.Frame (pos 0) (r2 ∷ h0 ∷ h1 ∷ h2 ∷ r1 ∷ null ∷ [])) ∷ (node k.And (pos 0) ((node k.Eq (pos 0) ((node k.Get (pos 1) (h0 ∷ r0 ∷ [])) ∷ r2 ∷ [])) ∷ (node k.And (pos 0) ((node k.Eq (pos 0) ((node k.Get (pos 1) (h2 ∷ r0 ∷ [])) ∷ r2 ∷ [])) ∷ (node k.And (pos 0) ((node k.Not (pos 0) ((node k.Eq (pos 0) (r0 ∷ r1 ∷ [])) ∷ [])) ∷ (node k.Not (pos 0) ((node k.Eq (pos 0) (r0 ∷ null ∷ [])) ∷ [])) ∷ [])) ∷ [])) ∷ [])) ∷ [])) ∷ (node k.Eq (pos 0) ((node k.Get (pos 0) (h0 ∷ r0 ∷ [])) ∷ (node k.Int (pos 1) []) ∷ [])) ∷ [])) ∷ (node k.And (pos 0) ((node k.Eq (pos 0) ((node k.Get (pos 0) (h1 ∷ r0 ∷ [])) ∷ (node k.Int (pos 1) []) ∷ [])) ∷ (node k.And (pos 0) ((node k.Eq (pos 0) ((node k.Get (pos 1) (h1 ∷ r0 ∷ [])) ∷ r2 ∷ [])) ∷ (node k.Eq (pos 0) ((node k.Get (pos 5) (h1 ∷ r0 ∷ [])) ∷ field ∷ [])) ∷ [])) ∷ [])) ∷ []))
  unfolding gives fits needs number term heap ref int terms refs column quantified
  row_21_2 = refl

  pub row_21_3 : instance sample_language bank 21 3 (5 ∷ 0 ∷ 1 ∷ 2 ∷ 2 ∷ 4 ∷ 8 ∷ 3 ∷ []) ≡ Some (node k.Imp (pos 0) ((node k.And (pos 0) ((node k.And (pos 0) ((node k.Frame (pos 0) (r2 ∷ h0 ∷ h1 ∷ h2 ∷ r1 ∷ null ∷ [])) ∷ (node k.And (pos 0) ((node k.Eq (pos 0) ((node k.Get (pos 1) (h0 ∷ r0 ∷ [])) ∷ r2 ∷ [])) ∷ (node k.And (pos 0) ((node k.Eq (pos 0) ((node k.Get (pos 1) (h2 ∷ r0 ∷ [])) ∷ r2 ∷ [])) ∷ (node k.And (pos 0) ((node k.Not (pos 0) ((node k.Eq (pos 0) (r0 ∷ r1 ∷ [])) ∷ [])) ∷ (node k.Not (pos 0) ((node k.Eq (pos 0) (r0 ∷ null ∷ [])) ∷ [])) ∷ [])) ∷ [])) ∷ [])) ∷ [])) ∷ (node k.Eq (pos 0) ((node k.Get (pos 0) (h0 ∷ r0 ∷ [])) ∷ (node k.Int (pos 2) []) ∷ [])) ∷ [])) ∷ (node k.And (pos 0) ((node k.Eq (pos 0) ((node k.Get (pos 0) (h1 ∷ r0 ∷ [])) ∷ (node k.Int (pos 2) []) ∷ [])) ∷ (node k.And (pos 0) ((node k.Eq (pos 0) ((node k.Get (pos 1) (h1 ∷ r0 ∷ [])) ∷ r2 ∷ [])) ∷ (node k.Eq (pos 0) ((node k.Get (pos 2) (h1 ∷ r0 ∷ [])) ∷ (node k.Get (pos 2) (h0 ∷ r0 ∷ [])) ∷ [])) ∷ [])) ∷ [])) ∷ []))
  unfolding gives fits needs number term heap ref int terms refs column quantified
  row_21_3 = refl

  pub row_21_4 : instance sample_language bank 21 4 (5 ∷ 0 ∷ 1 ∷ 2 ∷ 2 ∷ 4 ∷ 8 ∷ 3 ∷ 3 ∷ 5 ∷ []) ≡ Some (node k.Imp (pos 0) ((node k.And (pos 0) ((node k.Frame (pos 0) (r2 ∷ h0 ∷ h1 ∷ h2 ∷ r1 ∷ null ∷ [])) ∷ (node k.And (pos 0) ((node k.Stab (pos 0) (r2 ∷ h0 ∷ r0 ∷ h2 ∷ r1 ∷ null ∷ [])) ∷ (node k.Eq (pos 0) ((node k.Typ (pos 0) (r0 ∷ [])) ∷ (node k.Int (pos 3) []) ∷ [])) ∷ [])) ∷ [])) ∷ (node k.And (pos 0) ((node k.Stab (pos 0) (r2 ∷ h1 ∷ r0 ∷ h2 ∷ r1 ∷ null ∷ [])) ∷ (node k.Eq (pos 0) ((node k.Get (pos 5) (h1 ∷ r0 ∷ [])) ∷ field ∷ [])) ∷ [])) ∷ []))
  unfolding gives fits needs number term heap ref int terms refs column quantified
  row_21_4 = refl

  pub row_22_1 : instance sample_language bank 22 1 (5 ∷ 0 ∷ 3 ∷ 2 ∷ 2 ∷ 4 ∷ 8 ∷ []) ≡ Some (node k.Imp (pos 0) ((node k.And (pos 0) ((node k.Eq (pos 0) ((node k.Get (pos 0) (h0 ∷ r0 ∷ [])) ∷ (node k.Int (pos 2) []) ∷ [])) ∷ (node k.And (pos 0) ((node k.Eq (pos 0) ((node k.Get (pos 1) (h0 ∷ r0 ∷ [])) ∷ r2 ∷ [])) ∷ (node k.And (pos 0) ((node k.Eq (pos 0) ((node k.Get (pos 1) (h2 ∷ r0 ∷ [])) ∷ r2 ∷ [])) ∷ (node k.And (pos 0) ((node k.Not (pos 0) ((node k.Eq (pos 0) (r0 ∷ r1 ∷ [])) ∷ [])) ∷ (node k.Not (pos 0) ((node k.Eq (pos 0) (r0 ∷ null ∷ [])) ∷ [])) ∷ [])) ∷ [])) ∷ [])) ∷ [])) ∷ (node k.Stab (pos 0) (r2 ∷ h0 ∷ r0 ∷ h2 ∷ r1 ∷ null ∷ [])) ∷ []))
  unfolding gives fits needs number term heap ref int terms refs column quantified
  row_22_1 = refl

  pub row_22_2 : instance sample_language bank 22 2 (0 ∷ 5 ∷ 3 ∷ 2 ∷ 2 ∷ 4 ∷ 8 ∷ 4 ∷ []) ≡ Some (node k.Imp (pos 0) ((node k.And (pos 0) ((node k.Good (pos 0) (h0 ∷ [])) ∷ (node k.And (pos 0) ((node k.Stab (pos 0) (r2 ∷ h0 ∷ r0 ∷ h2 ∷ r1 ∷ null ∷ [])) ∷ (node k.Eq (pos 0) ((node k.Get (pos 4) (h0 ∷ r0 ∷ r1 ∷ [])) ∷ (node k.Int (pos 1) []) ∷ [])) ∷ [])) ∷ [])) ∷ (node k.Stab (pos 0) (r2 ∷ h0 ∷ r1 ∷ h2 ∷ r1 ∷ null ∷ [])) ∷ []))
  unfolding gives fits needs number term heap ref int terms refs column quantified
  row_22_2 = refl

  pub row_22_3 : instance sample_language bank 22 3 (0 ∷ 5 ∷ 3 ∷ 2 ∷ 2 ∷ 4 ∷ 8 ∷ 4 ∷ 3 ∷ []) ≡ Some (node k.Imp (pos 0) ((node k.And (pos 0) ((node k.Good (pos 0) (h0 ∷ [])) ∷ (node k.And (pos 0) ((node k.Stab (pos 0) (r2 ∷ h0 ∷ r0 ∷ h2 ∷ r1 ∷ null ∷ [])) ∷ (node k.And (pos 0) ((node k.Eq (pos 0) ((node k.Typ (pos 0) (r0 ∷ [])) ∷ (node k.Int (pos 3) []) ∷ [])) ∷ (node k.Eq (pos 0) (member ∷ (node k.Int (pos 1) []) ∷ [])) ∷ [])) ∷ [])) ∷ [])) ∷ (node k.Stab (pos 0) (r2 ∷ h0 ∷ r1 ∷ h2 ∷ r1 ∷ null ∷ [])) ∷ []))
  unfolding gives fits needs number term heap ref int terms refs column quantified
  row_22_3 = refl

  pub row_22_4 : instance sample_language bank 22 4 (0 ∷ 5 ∷ 3 ∷ 2 ∷ 2 ∷ 4 ∷ 8 ∷ []) ≡ Some (node k.Imp (pos 0) ((node k.And (pos 0) ((node k.Good (pos 0) (h0 ∷ [])) ∷ (node k.Stab (pos 0) (r2 ∷ h0 ∷ r0 ∷ h2 ∷ r1 ∷ null ∷ [])) ∷ [])) ∷ (node k.Eq (pos 0) ((node k.Get (pos 0) (h0 ∷ r0 ∷ [])) ∷ (node k.Int (pos 2) []) ∷ [])) ∷ []))
  unfolding gives fits needs number term heap ref int terms refs column quantified
  row_22_4 = refl

  pub row_22_5 : instance sample_language bank 22 5 (4 ∷ 0 ∷ 3 ∷ []) ≡ Some (node k.Imp (pos 0) ((node k.Idle (pos 0) (r1 ∷ h0 ∷ [])) ∷ (node k.Not (pos 0) ((node k.Eq (pos 0) ((node k.Get (pos 1) (h0 ∷ r0 ∷ [])) ∷ r1 ∷ [])) ∷ [])) ∷ []))
  unfolding gives fits needs number term heap ref int terms refs column quantified
  row_22_5 = refl

  pub row_23_1 : instance sample_language bank 23 1 (0 ∷ 1 ∷ []) ≡ Some (node k.Imp (pos 0) ((node k.Legal (pos 0) (h0 ∷ h1 ∷ [])) ∷ (node k.Sys (pos 0) (h1 ∷ [])) ∷ []))
  unfolding gives fits needs number term heap ref int terms refs column quantified
  row_23_1 = refl

  pub row_23_2 : instance sample_language bank 23 2 (0 ∷ 1 ∷ []) ≡ Some (node k.Imp (pos 0) ((node k.Kept (pos 0) (h0 ∷ h1 ∷ [])) ∷ (node k.Sys (pos 0) (h1 ∷ [])) ∷ []))
  unfolding gives fits needs number term heap ref int terms refs column quantified
  row_23_2 = refl

  pub row_23_3 : instance sample_language bank 23 3 (0 ∷ 1 ∷ 3 ∷ []) ≡ Some (node k.Imp (pos 0) ((node k.And (pos 0) ((node k.Legal (pos 0) (h0 ∷ h1 ∷ [])) ∷ (node k.And (pos 0) ((node k.Touched (pos 0) (r0 ∷ h0 ∷ h1 ∷ [])) ∷ (node k.Or (pos 0) ((node k.Eq (pos 0) ((node k.Get (pos 0) (h0 ∷ r0 ∷ [])) ∷ (node k.Int (pos 2) []) ∷ [])) ∷ (node k.Eq (pos 0) ((node k.Get (pos 0) (h1 ∷ r0 ∷ [])) ∷ (node k.Int (pos 2) []) ∷ [])) ∷ [])) ∷ [])) ∷ [])) ∷ (node k.Inv (pos 0) (r0 ∷ h0 ∷ h1 ∷ [])) ∷ []))
  unfolding gives fits needs number term heap ref int terms refs column quantified
  row_23_3 = refl

  pub row_23_4 : instance sample_language bank 23 4 (0 ∷ 1 ∷ 3 ∷ []) ≡ Some (node k.Imp (pos 0) ((node k.And (pos 0) ((node k.Kept (pos 0) (h0 ∷ h1 ∷ [])) ∷ (node k.Or (pos 0) ((node k.Eq (pos 0) ((node k.Get (pos 0) (h0 ∷ r0 ∷ [])) ∷ (node k.Int (pos 2) []) ∷ [])) ∷ (node k.Eq (pos 0) ((node k.Get (pos 0) (h1 ∷ r0 ∷ [])) ∷ (node k.Int (pos 2) []) ∷ [])) ∷ [])) ∷ [])) ∷ (node k.Inv (pos 0) (r0 ∷ h0 ∷ h1 ∷ [])) ∷ []))
  unfolding gives fits needs number term heap ref int terms refs column quantified
  row_23_4 = refl

  pub row_23_5 : instance sample_language bank 23 5 (3 ∷ 0 ∷ 1 ∷ 5 ∷ []) ≡ Some (node k.Imp (pos 0) ((node k.Not (pos 0) ((node k.Touched (pos 0) (r0 ∷ h0 ∷ h1 ∷ [])) ∷ [])) ∷ (node k.Eq (pos 0) ((node k.Get (pos 5) (h1 ∷ r0 ∷ [])) ∷ field ∷ [])) ∷ []))
  unfolding gives fits needs number term heap ref int terms refs column quantified
  row_23_5 = refl

  pub row_23_6 : instance sample_language bank 23 6 (3 ∷ 0 ∷ 1 ∷ 4 ∷ []) ≡ Some (node k.Imp (pos 0) ((node k.And (pos 0) ((node k.Not (pos 0) ((node k.Touched (pos 0) (r0 ∷ h0 ∷ h1 ∷ [])) ∷ [])) ∷ (node k.Or (pos 0) ((node k.Eq (pos 0) ((node k.Get (pos 1) (h0 ∷ r1 ∷ [])) ∷ r0 ∷ [])) ∷ (node k.Eq (pos 0) ((node k.Get (pos 1) (h1 ∷ r1 ∷ [])) ∷ r0 ∷ [])) ∷ [])) ∷ [])) ∷ (node k.Eq (pos 0) ((node k.Get (pos 2) (h1 ∷ r1 ∷ [])) ∷ (node k.Get (pos 2) (h0 ∷ r1 ∷ [])) ∷ [])) ∷ []))
  unfolding gives fits needs number term heap ref int terms refs column quantified
  row_23_6 = refl

  pub row_23_7 : instance sample_language bank 23 7 (0 ∷ 1 ∷ 3 ∷ 3 ∷ 5 ∷ []) ≡ Some (node k.Imp (pos 0) ((node k.And (pos 0) ((node k.Or (pos 0) ((node k.Legal (pos 0) (h0 ∷ h1 ∷ [])) ∷ (node k.Kept (pos 0) (h0 ∷ h1 ∷ [])) ∷ [])) ∷ (node k.And (pos 0) ((node k.Eq (pos 0) ((node k.Get (pos 0) (h0 ∷ r0 ∷ [])) ∷ (node k.Int (pos 2) []) ∷ [])) ∷ (node k.And (pos 0) ((node k.Eq (pos 0) ((node k.Get (pos 0) (h1 ∷ r0 ∷ [])) ∷ (node k.Int (pos 2) []) ∷ [])) ∷ (node k.Eq (pos 0) ((node k.Typ (pos 0) (r0 ∷ [])) ∷ (node k.Int (pos 3) []) ∷ [])) ∷ [])) ∷ [])) ∷ [])) ∷ (node k.Eq (pos 0) ((node k.Get (pos 5) (h1 ∷ r0 ∷ [])) ∷ field ∷ [])) ∷ []))
  unfolding gives fits needs number term heap ref int terms refs column quantified
  row_23_7 = refl

  pub row_24_1 : instance sample_language bank 24 1 (12 ∷ []) ≡ Some (node k.Eq (pos 0) ((node k.Get (pos 0) (opened ∷ r0 ∷ [])) ∷ (node k.Int (pos 1) []) ∷ []))
  unfolding gives fits needs number term heap ref int terms refs column quantified
  row_24_1 = refl

  pub row_24_2 : instance sample_language bank 24 2 (12 ∷ 3 ∷ []) ≡ Some (node k.Or (pos 0) ((node k.Eq (pos 0) (r0 ∷ r0 ∷ [])) ∷ (node k.Eq (pos 0) ((node k.Get (pos 0) (opened ∷ r0 ∷ [])) ∷ (node k.Get (pos 0) (h0 ∷ r0 ∷ [])) ∷ [])) ∷ []))
  unfolding gives fits needs number term heap ref int terms refs column quantified
  row_24_2 = refl

  pub row_24_3 : instance sample_language bank 24 3 (12 ∷ 3 ∷ []) ≡ Some (node k.Imp (pos 0) ((node k.Eq (pos 0) ((node k.Get (pos 3) (h0 ∷ r0 ∷ r0 ∷ [])) ∷ (node k.Int (pos 1) []) ∷ [])) ∷ (node k.Eq (pos 0) ((node k.Get (pos 1) (opened ∷ r0 ∷ [])) ∷ r1 ∷ [])) ∷ []))
  unfolding gives fits needs number term heap ref int terms refs column quantified
  row_24_3 = refl

  pub row_24_4 : instance sample_language bank 24 4 (12 ∷ 3 ∷ []) ≡ Some (node k.Imp (pos 0) ((node k.Eq (pos 0) ((node k.Get (pos 3) (h0 ∷ r0 ∷ r0 ∷ [])) ∷ (node k.Int (pos 0) []) ∷ [])) ∷ (node k.Eq (pos 0) ((node k.Get (pos 1) (opened ∷ r0 ∷ [])) ∷ (node k.Get (pos 1) (h0 ∷ r0 ∷ [])) ∷ [])) ∷ []))
  unfolding gives fits needs number term heap ref int terms refs column quantified
  row_24_4 = refl

  pub row_24_5 : instance sample_language bank 24 5 (12 ∷ 3 ∷ 9 ∷ 4 ∷ 6 ∷ []) ≡ Some (node k.Eq (pos 0) ((node k.Get (pos 9) (opened ∷ r0 ∷ r1 ∷ i0 ∷ [])) ∷ shape_read ∷ []))
  unfolding gives fits needs number term heap ref int terms refs column quantified
  row_24_5 = refl

  pub row_24_6 : instance sample_language bank 24 6 (0 ∷ 4 ∷ 4 ∷ []) ≡ Some (node k.Eq (pos 0) ((node k.Get (pos 3) ((node k.Clear (pos 0) (h0 ∷ r1 ∷ [])) ∷ r1 ∷ r1 ∷ [])) ∷ (node k.Int (pos 0) []) ∷ []))
  unfolding gives fits needs number term heap ref int terms refs column quantified
  row_24_6 = refl

  pub row_24_7 : instance sample_language bank 24 7 (3 ∷ 4 ∷ 0 ∷ 4 ∷ []) ≡ Some (node k.Or (pos 0) ((node k.Eq (pos 0) (r0 ∷ r1 ∷ [])) ∷ (node k.Eq (pos 0) ((node k.Get (pos 3) ((node k.Clear (pos 0) (h0 ∷ r1 ∷ [])) ∷ r0 ∷ r1 ∷ [])) ∷ member ∷ [])) ∷ []))
  unfolding gives fits needs number term heap ref int terms refs column quantified
  row_24_7 = refl

  pub row_24_8 : instance sample_language bank 24 8 (0 ∷ 4 ∷ 3 ∷ 9 ∷ 4 ∷ 6 ∷ []) ≡ Some (node k.Eq (pos 0) ((node k.Get (pos 9) ((node k.Clear (pos 0) (h0 ∷ r1 ∷ [])) ∷ r0 ∷ r1 ∷ i0 ∷ [])) ∷ shape_read ∷ []))
  unfolding gives fits needs number term heap ref int terms refs column quantified
  row_24_8 = refl

  pub row_24_9 : instance sample_language bank 24 9 (7 ∷ 6 ∷ []) ≡ Some (node k.Imp (pos 0) ((node k.Not (pos 0) ((node k.Eq (pos 0) (i1 ∷ (node k.Int (pos 0) []) ∷ [])) ∷ [])) ∷ (node k.Eq (pos 0) (i0 ∷ (node k.Add (pos 0) ((node k.Mul (pos 0) (i1 ∷ (node k.Div (pos 0) (i0 ∷ i1 ∷ [])) ∷ [])) ∷ (node k.Mod (pos 0) (i0 ∷ i1 ∷ [])) ∷ [])) ∷ [])) ∷ []))
  unfolding gives fits needs number term heap ref int terms refs column quantified
  row_24_9 = refl

  pub row_24_10 : instance sample_language bank 24 10 (6 ∷ 7 ∷ []) ≡ Some (node k.Imp (pos 0) ((node k.And (pos 0) ((node k.Le (pos 0) ((node k.Int (pos 0) []) ∷ i0 ∷ [])) ∷ (node k.Not (pos 0) ((node k.Eq (pos 0) (i1 ∷ (node k.Int (pos 0) []) ∷ [])) ∷ [])) ∷ [])) ∷ (node k.Le (pos 0) ((node k.Int (pos 0) []) ∷ (node k.Mod (pos 0) (i0 ∷ i1 ∷ [])) ∷ [])) ∷ []))
  unfolding gives fits needs number term heap ref int terms refs column quantified
  row_24_10 = refl

  pub row_24_11 : instance sample_language bank 24 11 (6 ∷ 7 ∷ []) ≡ Some (node k.Imp (pos 0) ((node k.And (pos 0) ((node k.Le (pos 0) (i0 ∷ (node k.Int (pos 0) []) ∷ [])) ∷ (node k.Not (pos 0) ((node k.Eq (pos 0) (i1 ∷ (node k.Int (pos 0) []) ∷ [])) ∷ [])) ∷ [])) ∷ (node k.Le (pos 0) ((node k.Mod (pos 0) (i0 ∷ i1 ∷ [])) ∷ (node k.Int (pos 0) []) ∷ [])) ∷ []))
  unfolding gives fits needs number term heap ref int terms refs column quantified
  row_24_11 = refl

  pub row_24_12 : instance sample_language bank 24 12 (7 ∷ 6 ∷ []) ≡ Some (node k.Imp (pos 0) ((node k.Le (pos 0) ((node k.Int (pos 1) []) ∷ i1 ∷ [])) ∷ (node k.And (pos 0) ((node k.Le (pos 0) ((node k.Mod (pos 0) (i0 ∷ i1 ∷ [])) ∷ (node k.Sub (pos 0) (i1 ∷ (node k.Int (pos 1) []) ∷ [])) ∷ [])) ∷ (node k.Le (pos 0) ((node k.Sub (pos 0) ((node k.Int (pos 1) []) ∷ i1 ∷ [])) ∷ (node k.Mod (pos 0) (i0 ∷ i1 ∷ [])) ∷ [])) ∷ [])) ∷ []))
  unfolding gives fits needs number term heap ref int terms refs column quantified
  row_24_12 = refl

  pub row_24_13 : instance sample_language bank 24 13 (7 ∷ 6 ∷ []) ≡ Some (node k.Imp (pos 0) ((node k.Le (pos 0) (i1 ∷ (node k.Int (negsuc 0) []) ∷ [])) ∷ (node k.And (pos 0) ((node k.Le (pos 0) ((node k.Mod (pos 0) (i0 ∷ i1 ∷ [])) ∷ (node k.Sub (pos 0) ((node k.Int (negsuc 0) []) ∷ i1 ∷ [])) ∷ [])) ∷ (node k.Le (pos 0) ((node k.Add (pos 0) (i1 ∷ (node k.Int (pos 1) []) ∷ [])) ∷ (node k.Mod (pos 0) (i0 ∷ i1 ∷ [])) ∷ [])) ∷ [])) ∷ []))
  unfolding gives fits needs number term heap ref int terms refs column quantified
  row_24_13 = refl

  pub row_28_1 : instance sample_language bank 28 1 (0 ∷ 3 ∷ 4 ∷ []) ≡ Some (node k.Imp (pos 0) ((node k.And (pos 0) ((node k.Sys (pos 0) (h0 ∷ [])) ∷ (node k.Eq (pos 0) ((node k.Get (pos 0) (h0 ∷ r0 ∷ [])) ∷ (node k.Int (pos 0) []) ∷ [])) ∷ [])) ∷ (node k.Eq (pos 0) (member ∷ (node k.Int (pos 0) []) ∷ [])) ∷ []))
  unfolding gives fits needs number term heap ref int terms refs column quantified
  row_28_1 = refl

  pub row_28_2 : instance sample_language bank 28 2 (0 ∷ 3 ∷ 4 ∷ []) ≡ Some (node k.Imp (pos 0) ((node k.And (pos 0) ((node k.Sys (pos 0) (h0 ∷ [])) ∷ (node k.Eq (pos 0) ((node k.Get (pos 0) (h0 ∷ r0 ∷ [])) ∷ (node k.Int (pos 0) []) ∷ [])) ∷ [])) ∷ (node k.Eq (pos 0) ((node k.Get (pos 4) (h0 ∷ r0 ∷ r1 ∷ [])) ∷ (node k.Int (pos 0) []) ∷ [])) ∷ []))
  unfolding gives fits needs number term heap ref int terms refs column quantified
  row_28_2 = refl

  pub row_29_1 : instance sample_language bank 29 1 (6 ∷ 7 ∷ []) ≡ Some (node k.Imp (pos 0) ((node k.Eq (pos 0) (i1 ∷ (node k.Int (pos 0) []) ∷ [])) ∷ (node k.Eq (pos 0) ((node k.Div (pos 0) (i0 ∷ i1 ∷ [])) ∷ (node k.Int (pos 0) []) ∷ [])) ∷ []))
  unfolding gives fits needs number term heap ref int terms refs column quantified
  row_29_1 = refl

  pub row_29_2 : instance sample_language bank 29 2 (6 ∷ 7 ∷ []) ≡ Some (node k.Imp (pos 0) ((node k.Eq (pos 0) (i1 ∷ (node k.Int (pos 0) []) ∷ [])) ∷ (node k.Eq (pos 0) ((node k.Mod (pos 0) (i0 ∷ i1 ∷ [])) ∷ i0 ∷ [])) ∷ []))
  unfolding gives fits needs number term heap ref int terms refs column quantified
  row_29_2 = refl

  -- a heap that stores 7 as a mode
  pub row_4_1_2 : instance sample_language bank 4 1 (10 ∷ 3 ∷ []) ≡ None
  unfolding gives fits needs number term heap ref int terms refs column quantified
  row_4_1_2 = refl

  -- a clean one
  pub row_4_1_3 : instance sample_language bank 4 1 (11 ∷ 3 ∷ []) ≡ Some (node k.And (pos 0) ((node k.Le (pos 0) ((node k.Int (pos 0) []) ∷ (node k.Get (pos 0) (two ∷ r0 ∷ [])) ∷ [])) ∷ (node k.Le (pos 0) ((node k.Get (pos 0) (two ∷ r0 ∷ [])) ∷ (node k.Int (pos 3) []) ∷ [])) ∷ []))
  unfolding gives fits needs number term heap ref int terms refs column quantified
  row_4_1_3 = refl

  -- other columns may hold anything
  pub row_4_1_4 : instance sample_language bank 4 1 (18 ∷ 3 ∷ []) ≡ Some (node k.And (pos 0) ((node k.Le (pos 0) ((node k.Int (pos 0) []) ∷ (node k.Get (pos 0) (owned7 ∷ r0 ∷ [])) ∷ [])) ∷ (node k.Le (pos 0) ((node k.Get (pos 0) (owned7 ∷ r0 ∷ [])) ∷ (node k.Int (pos 3) []) ∷ [])) ∷ []))
  unfolding gives fits needs number term heap ref int terms refs column quantified
  row_4_1_4 = refl

  -- a membership that is no numeral
  pub row_4_1_5 : instance sample_language bank 4 1 (16 ∷ 3 ∷ []) ≡ None
  unfolding gives fits needs number term heap ref int terms refs column quantified
  row_4_1_5 = refl

  pub row_4_2_2 : instance sample_language bank 4 2 (17 ∷ []) ≡ None
  unfolding gives fits needs number term heap ref int terms refs column quantified
  row_4_2_2 = refl

  pub row_4_2_3 : instance sample_language bank 4 2 (15 ∷ []) ≡ None
  unfolding gives fits needs number term heap ref int terms refs column quantified
  row_4_2_3 = refl

  pub row_4_2_4 : instance sample_language bank 4 2 (20 ∷ []) ≡ Some (node k.Or (pos 0) ((node k.Eq (pos 0) (shape_read ∷ (node k.Int (pos 0) []) ∷ [])) ∷ (node k.Eq (pos 0) (shape_read ∷ (node k.Int (pos 1) []) ∷ [])) ∷ []))
  unfolding gives fits needs number term heap ref int terms refs column quantified
  row_4_2_4 = refl

  -- a claim is no struct
  pub row_14_1_2 : instance sample_language bank 14 1 (0 ∷ 1 ∷ 3 ∷ 2 ∷ []) ≡ None
  unfolding gives fits needs number term heap ref int terms refs column quantified
  row_14_1_2 = refl

  pub row_14_1_3 : instance sample_language bank 14 1 (0 ∷ 1 ∷ 3 ∷ 6 ∷ []) ≡ None
  unfolding gives fits needs number term heap ref int terms refs column quantified
  row_14_1_3 = refl

  -- no invariant
  pub row_14_1_4 : instance sample_language bank 14 1 (0 ∷ 1 ∷ 3 ∷ 5 ∷ []) ≡ Some (node k.Imp (pos 0) ((node k.Eq (pos 0) ((node k.Typ (pos 0) (r0 ∷ [])) ∷ (node k.Int (pos 5) []) ∷ [])) ∷ (node k.Imp (pos 0) ((node k.Inv (pos 0) (r0 ∷ h0 ∷ h1 ∷ [])) ∷ (node k.True (pos 0) []) ∷ [])) ∷ []))
  unfolding gives fits needs number term heap ref int terms refs column quantified
  row_14_1_4 = refl

  pub row_14_2_2 : instance sample_language bank 14 2 (0 ∷ 1 ∷ 3 ∷ 4 ∷ []) ≡ Some (node k.Imp (pos 0) ((node k.Eq (pos 0) ((node k.Typ (pos 0) (r0 ∷ [])) ∷ (node k.Int (pos 4) []) ∷ [])) ∷ (node k.Imp (pos 0) ((node k.All (pos 0) (h1 ∷ r0 ∷ [])) ∷ (node k.Inv (pos 0) (r0 ∷ h0 ∷ h1 ∷ [])) ∷ [])) ∷ []))
  unfolding gives fits needs number term heap ref int terms refs column quantified
  row_14_2_2 = refl

  -- claimable
  pub row_11_1_2 : instance sample_language bank 11 1 (0 ∷ 3 ∷ 3 ∷ []) ≡ None
  unfolding gives fits needs number term heap ref int terms refs column quantified
  row_11_1_2 = refl

  pub row_11_1_3 : instance sample_language bank 11 1 (0 ∷ 3 ∷ 2 ∷ []) ≡ Some (node k.Imp (pos 0) ((node k.And (pos 0) ((node k.Sys (pos 0) (h0 ∷ [])) ∷ (node k.Eq (pos 0) ((node k.Typ (pos 0) (r0 ∷ [])) ∷ (node k.Int (pos 2) []) ∷ [])) ∷ [])) ∷ (node k.Eq (pos 0) ((node k.Get (pos 2) (h0 ∷ r0 ∷ [])) ∷ (node k.Int (pos 0) []) ∷ [])) ∷ []))
  unfolding gives fits needs number term heap ref int terms refs column quantified
  row_11_1_3 = refl

  pub row_11_1_4 : instance sample_language bank 11 1 (0 ∷ 3 ∷ 77 ∷ []) ≡ None
  unfolding gives fits needs number term heap ref int terms refs column quantified
  row_11_1_4 = refl

  -- a volatile field
  pub row_19_1_2 : instance sample_language bank 19 1 (5 ∷ 0 ∷ 1 ∷ 3 ∷ 3 ∷ 6 ∷ []) ≡ None
  unfolding gives fits needs number term heap ref int terms refs column quantified
  row_19_1_2 = refl

  -- a field of another struct
  pub row_19_1_3 : instance sample_language bank 19 1 (5 ∷ 0 ∷ 1 ∷ 3 ∷ 4 ∷ 5 ∷ []) ≡ None
  unfolding gives fits needs number term heap ref int terms refs column quantified
  row_19_1_3 = refl

  pub row_19_1_4 : instance sample_language bank 19 1 (5 ∷ 0 ∷ 1 ∷ 3 ∷ 3 ∷ 3 ∷ 4 ∷ []) ≡ Some (node k.Imp (pos 0) ((node k.And (pos 0) ((node k.Rely (pos 0) (r2 ∷ h0 ∷ h1 ∷ [])) ∷ (node k.And (pos 0) ((node k.Stab (pos 0) (r2 ∷ h0 ∷ r0 ∷ h0 ∷ [])) ∷ (node k.Eq (pos 0) ((node k.Typ (pos 0) (r0 ∷ [])) ∷ (node k.Int (pos 3) []) ∷ [])) ∷ [])) ∷ [])) ∷ (node k.And (pos 0) ((node k.Stab (pos 0) (r2 ∷ h1 ∷ r0 ∷ h1 ∷ [])) ∷ (node k.Eq (pos 0) ((node k.Get (pos 3) (h1 ∷ r0 ∷ r1 ∷ [])) ∷ member ∷ [])) ∷ [])) ∷ []))
  unfolding gives fits needs number term heap ref int terms refs column quantified
  row_19_1_4 = refl

  pub row_19_1_5 : instance sample_language bank 19 1 (5 ∷ 0 ∷ 1 ∷ 3 ∷ 5 ∷ 3 ∷ 4 ∷ []) ≡ None
  unfolding gives fits needs number term heap ref int terms refs column quantified
  row_19_1_5 = refl

  pub row_19_1_6 : instance sample_language bank 19 1 (5 ∷ 0 ∷ 1 ∷ 3 ∷ 2 ∷ 3 ∷ 4 ∷ []) ≡ Some (node k.Imp (pos 0) ((node k.And (pos 0) ((node k.Rely (pos 0) (r2 ∷ h0 ∷ h1 ∷ [])) ∷ (node k.And (pos 0) ((node k.Stab (pos 0) (r2 ∷ h0 ∷ r0 ∷ h0 ∷ [])) ∷ (node k.Eq (pos 0) ((node k.Typ (pos 0) (r0 ∷ [])) ∷ (node k.Int (pos 2) []) ∷ [])) ∷ [])) ∷ [])) ∷ (node k.And (pos 0) ((node k.Stab (pos 0) (r2 ∷ h1 ∷ r0 ∷ h1 ∷ [])) ∷ (node k.Eq (pos 0) ((node k.Get (pos 3) (h1 ∷ r0 ∷ r1 ∷ [])) ∷ member ∷ [])) ∷ [])) ∷ []))
  unfolding gives fits needs number term heap ref int terms refs column quantified
  row_19_1_6 = refl

  pub row_19_1_7 : instance sample_language bank 19 1 (5 ∷ 0 ∷ 1 ∷ 3 ∷ 2 ∷ 4 ∷ 4 ∷ []) ≡ Some (node k.Imp (pos 0) ((node k.And (pos 0) ((node k.Rely (pos 0) (r2 ∷ h0 ∷ h1 ∷ [])) ∷ (node k.And (pos 0) ((node k.Stab (pos 0) (r2 ∷ h0 ∷ r0 ∷ h0 ∷ [])) ∷ (node k.Eq (pos 0) ((node k.Typ (pos 0) (r0 ∷ [])) ∷ (node k.Int (pos 2) []) ∷ [])) ∷ [])) ∷ [])) ∷ (node k.And (pos 0) ((node k.Stab (pos 0) (r2 ∷ h1 ∷ r0 ∷ h1 ∷ [])) ∷ (node k.Eq (pos 0) ((node k.Get (pos 4) (h1 ∷ r0 ∷ r1 ∷ [])) ∷ (node k.Get (pos 4) (h0 ∷ r0 ∷ r1 ∷ [])) ∷ [])) ∷ [])) ∷ []))
  unfolding gives fits needs number term heap ref int terms refs column quantified
  row_19_1_7 = refl

  pub row_19_1_8 : instance sample_language bank 19 1 (5 ∷ 0 ∷ 1 ∷ 3 ∷ 3 ∷ 4 ∷ 4 ∷ []) ≡ None
  unfolding gives fits needs number term heap ref int terms refs column quantified
  row_19_1_8 = refl

  pub row_19_1_9 : instance sample_language bank 19 1 (5 ∷ 0 ∷ 1 ∷ 3 ∷ 2 ∷ 9 ∷ 4 ∷ 6 ∷ []) ≡ Some (node k.Imp (pos 0) ((node k.And (pos 0) ((node k.Rely (pos 0) (r2 ∷ h0 ∷ h1 ∷ [])) ∷ (node k.And (pos 0) ((node k.Stab (pos 0) (r2 ∷ h0 ∷ r0 ∷ h0 ∷ [])) ∷ (node k.Eq (pos 0) ((node k.Typ (pos 0) (r0 ∷ [])) ∷ (node k.Int (pos 2) []) ∷ [])) ∷ [])) ∷ [])) ∷ (node k.And (pos 0) ((node k.Stab (pos 0) (r2 ∷ h1 ∷ r0 ∷ h1 ∷ [])) ∷ (node k.Eq (pos 0) ((node k.Get (pos 9) (h1 ∷ r0 ∷ r1 ∷ i0 ∷ [])) ∷ shape_read ∷ [])) ∷ [])) ∷ []))
  unfolding gives fits needs number term heap ref int terms refs column quantified
  row_19_1_9 = refl

  pub row_19_1_10 : instance sample_language bank 19 1 (5 ∷ 0 ∷ 1 ∷ 3 ∷ 3 ∷ 2 ∷ []) ≡ None
  unfolding gives fits needs number term heap ref int terms refs column quantified
  row_19_1_10 = refl

  pub row_22_3_2 : instance sample_language bank 22 3 (0 ∷ 5 ∷ 3 ∷ 2 ∷ 0 ∷ 4 ∷ 5 ∷ []) ≡ None
  unfolding gives fits needs number term heap ref int terms refs column quantified
  row_22_3_2 = refl

  -- owners are no content
  pub row_23_5_2 : instance sample_language bank 23 5 (3 ∷ 0 ∷ 1 ∷ 1 ∷ []) ≡ None
  unfolding gives fits needs number term heap ref int terms refs column quantified
  row_23_5_2 = refl

  pub row_23_5_3 : instance sample_language bank 23 5 (3 ∷ 0 ∷ 1 ∷ 2 ∷ []) ≡ Some (node k.Imp (pos 0) ((node k.Not (pos 0) ((node k.Touched (pos 0) (r0 ∷ h0 ∷ h1 ∷ [])) ∷ [])) ∷ (node k.Eq (pos 0) ((node k.Get (pos 2) (h1 ∷ r0 ∷ [])) ∷ (node k.Get (pos 2) (h0 ∷ r0 ∷ [])) ∷ [])) ∷ []))
  unfolding gives fits needs number term heap ref int terms refs column quantified
  row_23_5_3 = refl

  pub row_17_1_2 : instance sample_language bank 17 1 (5 ∷ 0 ∷ 1 ∷ 3 ∷ 1 ∷ []) ≡ Some (node k.Imp (pos 0) ((node k.And (pos 0) ((node k.Rely (pos 0) (r2 ∷ h0 ∷ h1 ∷ [])) ∷ (node k.And (pos 0) ((node k.Eq (pos 0) ((node k.Get (pos 0) (h0 ∷ r0 ∷ [])) ∷ (node k.Int (pos 1) []) ∷ [])) ∷ (node k.Eq (pos 0) ((node k.Get (pos 1) (h0 ∷ r0 ∷ [])) ∷ r2 ∷ [])) ∷ [])) ∷ [])) ∷ (node k.And (pos 0) ((node k.Eq (pos 0) ((node k.Get (pos 0) (h1 ∷ r0 ∷ [])) ∷ (node k.Int (pos 1) []) ∷ [])) ∷ (node k.And (pos 0) ((node k.Eq (pos 0) ((node k.Get (pos 1) (h1 ∷ r0 ∷ [])) ∷ r2 ∷ [])) ∷ (node k.Eq (pos 0) ((node k.Get (pos 1) (h1 ∷ r0 ∷ [])) ∷ (node k.Get (pos 1) (h0 ∷ r0 ∷ [])) ∷ [])) ∷ [])) ∷ [])) ∷ []))
  unfolding gives fits needs number term heap ref int terms refs column quantified
  row_17_1_2 = refl

  -- no writes list
  pub row_21_2_2 : instance sample_language bank 21 2 (5 ∷ 0 ∷ 1 ∷ 2 ∷ 0 ∷ 3 ∷ 2 ∷ []) ≡ Some (node k.Imp (pos 0) ((node k.And (pos 0) ((node k.And (pos 0) ((node k.Frame (pos 0) (r2 ∷ h0 ∷ h1 ∷ h2 ∷ [])) ∷ (node k.And (pos 0) ((node k.Eq (pos 0) ((node k.Get (pos 1) (h0 ∷ r0 ∷ [])) ∷ r2 ∷ [])) ∷ (node k.Eq (pos 0) ((node k.Get (pos 1) (h2 ∷ r0 ∷ [])) ∷ r2 ∷ [])) ∷ [])) ∷ [])) ∷ (node k.Eq (pos 0) ((node k.Get (pos 0) (h0 ∷ r0 ∷ [])) ∷ (node k.Int (pos 1) []) ∷ [])) ∷ [])) ∷ (node k.And (pos 0) ((node k.Eq (pos 0) ((node k.Get (pos 0) (h1 ∷ r0 ∷ [])) ∷ (node k.Int (pos 1) []) ∷ [])) ∷ (node k.And (pos 0) ((node k.Eq (pos 0) ((node k.Get (pos 1) (h1 ∷ r0 ∷ [])) ∷ r2 ∷ [])) ∷ (node k.Eq (pos 0) ((node k.Get (pos 2) (h1 ∷ r0 ∷ [])) ∷ (node k.Get (pos 2) (h0 ∷ r0 ∷ [])) ∷ [])) ∷ [])) ∷ [])) ∷ []))
  unfolding gives fits needs number term heap ref int terms refs column quantified
  row_21_2_2 = refl

  -- a list that is too long
  pub row_21_2_3 : instance sample_language bank 21 2 (5 ∷ 0 ∷ 1 ∷ 2 ∷ 5 ∷ 3 ∷ 2 ∷ []) ≡ None
  unfolding gives fits needs number term heap ref int terms refs column quantified
  row_21_2_3 = refl

  pub row_24_1_2 : instance sample_language bank 24 1 (13 ∷ []) ≡ Some (node k.Eq (pos 0) ((node k.Get (pos 0) (closed ∷ r0 ∷ [])) ∷ (node k.Int (pos 2) []) ∷ []))
  unfolding gives fits needs number term heap ref int terms refs column quantified
  row_24_1_2 = refl

  pub row_24_3_2 : instance sample_language bank 24 3 (13 ∷ 5 ∷ []) ≡ Some (node k.Imp (pos 0) ((node k.Eq (pos 0) ((node k.Get (pos 3) (h0 ∷ r0 ∷ r2 ∷ [])) ∷ (node k.Int (pos 1) []) ∷ [])) ∷ (node k.Eq (pos 0) ((node k.Get (pos 1) (closed ∷ r2 ∷ [])) ∷ r0 ∷ [])) ∷ []))
  unfolding gives fits needs number term heap ref int terms refs column quantified
  row_24_3_2 = refl

  pub row_24_1_3 : instance sample_language bank 24 1 (0 ∷ []) ≡ None
  unfolding gives fits needs number term heap ref int terms refs column quantified
  row_24_1_3 = refl

  -- modes are no content
  pub row_24_5_2 : instance sample_language bank 24 5 (12 ∷ 5 ∷ 0 ∷ []) ≡ None
  unfolding gives fits needs number term heap ref int terms refs column quantified
  row_24_5_2 = refl

  pub row_24_8_2 : instance sample_language bank 24 8 (0 ∷ 3 ∷ 4 ∷ 3 ∷ 5 ∷ []) ≡ None
  unfolding gives fits needs number term heap ref int terms refs column quantified
  row_24_8_2 = refl

  pub row_24_8_3 : instance sample_language bank 24 8 (0 ∷ 3 ∷ 4 ∷ 0 ∷ []) ≡ Some (node k.Eq (pos 0) ((node k.Get (pos 0) ((node k.Clear (pos 0) (h0 ∷ r0 ∷ [])) ∷ r1 ∷ [])) ∷ (node k.Get (pos 0) (h0 ∷ r1 ∷ [])) ∷ []))
  unfolding gives fits needs number term heap ref int terms refs column quantified
  row_24_8_3 = refl

  pub row_12_1_2 : instance sample_language bank 12 1 (0 ∷ 3 ∷ 5 ∷ []) ≡ Some (node k.Imp (pos 0) ((node k.Sys (pos 0) (h0 ∷ [])) ∷ (node k.And (pos 0) ((node k.Le (pos 0) ((node k.Int (negsuc 2147483647) []) ∷ field ∷ [])) ∷ (node k.Le (pos 0) (field ∷ (node k.Int (pos 2147483647) []) ∷ [])) ∷ [])) ∷ []))
  unfolding gives fits needs number term heap ref int terms refs column quantified
  row_12_1_2 = refl

  pub row_12_1_3 : instance sample_language bank 12 1 (0 ∷ 3 ∷ 2 ∷ []) ≡ None
  unfolding gives fits needs number term heap ref int terms refs column quantified
  row_12_1_3 = refl

  pub row_15_1_2 : instance sample_language bank 15 1 (0 ∷ 3 ∷ 5 ∷ []) ≡ None
  unfolding gives fits needs number term heap ref int terms refs column quantified
  row_15_1_2 = refl

  -- an argument is missing
  pub row_9_1_2 : instance sample_language bank 9 1 (0 ∷ 3 ∷ []) ≡ None
  unfolding gives fits needs number term heap ref int terms refs column quantified
  row_9_1_2 = refl

  pub row_9_1_3 : instance sample_language bank 9 1 (0 ∷ 3 ∷ 4 ∷ 4 ∷ []) ≡ None
  unfolding gives fits needs number term heap ref int terms refs column quantified
  row_9_1_3 = refl

  pub row_9_1_4 : instance sample_language bank 9 1 (0 ∷ 0 ∷ 4 ∷ []) ≡ None
  unfolding gives fits needs number term heap ref int terms refs column quantified
  row_9_1_4 = refl

  pub row_9_1_5 : instance sample_language bank 9 1 (0 ∷ 3 ∷ 99 ∷ []) ≡ None
  unfolding gives fits needs number term heap ref int terms refs column quantified
  row_9_1_5 = refl

  pub row_9_1_6 : instance sample_language bank 9 1 (0 ∷ 3 ∷ 19 ∷ []) ≡ None
  unfolding gives fits needs number term heap ref int terms refs column quantified
  row_9_1_6 = refl

  pub row_9_2 : instance sample_language bank 9 2 (0 ∷ 3 ∷ 4 ∷ []) ≡ None
  unfolding gives fits needs number term heap ref int terms refs column quantified
  row_9_2 = refl

  pub row_25_1 : instance sample_language bank 25 1 (5 ∷ 0 ∷ 1 ∷ 3 ∷ 3 ∷ 5 ∷ []) ≡ None
  unfolding gives fits needs number term heap ref int terms refs column quantified
  row_25_1 = refl

  pub row_0_1 : instance sample_language bank 0 1 [] ≡ None
  unfolding gives fits needs number term heap ref int terms refs column quantified
  row_0_1 = refl

  pub row_30_1 : instance sample_language bank 30 1 [] ≡ None
  unfolding gives fits needs number term heap ref int terms refs column quantified
  row_30_1 = refl

  pub row_3_0 : instance sample_language bank 3 0 [] ≡ None
  unfolding gives fits needs number term heap ref int terms refs column quantified
  row_3_0 = refl
