-- Invariants of a struct and of a claim over two heaps, by computation; whether they hold was worked by hand. Own.
use Rattle.std.specs.Prelude.{◌≡◌, Bool, true, false, ℤ, pos, List, [], ◌∷◌, ◌++◌, map, Result, Ok, refl}
use Rattle.int_ranges.specs.declared.ctype.CType.TheVariants.{LongLong}
use Rattle.object_types.specs.declared.references.Ref.{Ref}
use Rattle.object_types.specs.declared.values.Value.TheVariants.{Int, Ref as Refers}
use Rattle.object_types.specs.declared.records.Mode.{Mode}
use Rattle.object_types.specs.declared.records.Mode.TheVariants.{Open, Closed, Freed}
use Rattle.object_types.specs.declared.records.Change.TheVariants.{Status, Field as Write, Shape as Conjunct}
use Rattle.object_types.specs.References.{ref, same_ref}
use Rattle.object_types.specs.Heap.{Heap, put}
use Rattle.method.specs.declared.program.Operator.TheVariants.{Plus, Times}
use Rattle.method.specs.declared.program.Comparison.TheVariants.{Equal, LessEqual, Greater, GreaterEqual}
use Rattle.method.specs.declared.program.DeclaredType.TheVariants.{Integer}
use Rattle.method.specs.declared.program.Sort.TheVariants.{IntSort, RefSort}
use Rattle.method.specs.declared.program.StructInfo.{StructInfo}
use Rattle.method.specs.declared.program.Program.{Program}
use Rattle.method.specs.declared.program.Spec.{Spec}
use Rattle.method.specs.declared.program.Spec.TheVariants.{Number, Variable, This, Field', Arithmetic', Compare', Old'}
use Rattle.method.specs.Invariants.{inv_holds, claim_holds}
use Rattle.method.specs.Overflow.{Overflow, inv_overflow, entries_overflow}
use Rattle.method.specs.Trace.{Memory, vec, box}
use Rattle.value_rows.specs.Heaps.{Changes, heap_of}
use Rattle.value_rows.specs.Expressions.{comes_to, wide, entry, great, below_zero}

-- every object is closed and mine, with this in n
abbrev pub closed_with : ℤ → Changes
closed_with n =
    (ref 3 1, Status Closed (ref 1 1)) ∷ (ref 3 1, Write 0 (Int n))
    ∷ (ref 4 1, Status Closed (ref 1 1)) ∷ (ref 4 1, Write 0 (Int n))
    ∷ (ref 5 1, Status Closed (ref 1 1)) ∷ (ref 5 1, Write 0 (Int n)) ∷ []

-- and a claim was made with 3.1->n == 7, and with number + 1 > 0
abbrev pub claimed_with : Mode → ℤ → ℤ → Heap
claimed_with mode n number =
    heap_of (closed_with n ++ (ref 2 1, Status mode (ref 1 1)) ∷ (ref 2 1, Conjunct (entry 1 (Int number ∷ [])) true) ∷ (ref 2 1, Conjunct (entry 0 (Refers (ref 3 1) ∷ Int (pos 7) ∷ [])) true) ∷ [])

abbrev pub two_to_64 : ℤ
two_to_64 = pos 18446744073709551616

module _ (m : Memory) where
  abbrev pub n_of : Spec → Spec
  n_of e = Field' (box m) e 0

  abbrev pub struct_of : List Spec → StructInfo
  struct_of invariants = record { name = m.text; line = 1; is_claimable = true; has_dynamic_owns = false; has_volatile_owns = false; first_field = 0; fields = 1; invariants = vec m invariants; has_approval = false; mine = vec m [] }

  -- struct A { long long n; _(invariant \old(n) <= n) _(invariant n * n >= 0) _(invariant n >= 0) }, of type 3; struct B without invariants, of 4
  abbrev pub program : Program
  program = record {
    structs = vec m (struct_of (Compare' LessEqual (box m) (Old' (box m) (n_of This)) (box m) (n_of This) ∷ Compare' GreaterEqual (box m) (Arithmetic' Times (box m) (n_of This) (box m) (n_of This)) (box m) (Number (pos 0)) ∷ Compare' GreaterEqual (box m) (n_of This) (box m) (Number (pos 0)) ∷ []) ∷ struct_of [] ∷ []);
    fields = vec m (record { name = m.text; of = 3; ty = Integer LongLong; is_volatile = false; is_ghost = false; is_approved = false } ∷ []);
    functions = vec m [];
    sites = vec m [];
    shapes = vec m (record { holes = vec m (RefSort ∷ IntSort ∷ []); conjunct = Compare' Equal (box m) (n_of (Variable 0)) (box m) (Variable 1) } ∷ record { holes = vec m (IntSort ∷ []); conjunct = Compare' Greater (box m) (Arithmetic' Plus (box m) (Variable 0) (box m) (Number (pos 1))) (box m) (Number (pos 0)) } ∷ []);
    items = vec m [];
    main = 0;
  }

  abbrev pub owed : Ref → Heap → Heap → Result Bool Overflow
  owed o before after = comes_to (inv_overflow program o before after) (inv_holds program o before after)

  -- an object, n in both heaps, and whether its invariants hold; one that is false hides what leaves 128 bits behind it
  abbrev pub structs : List (Ref × ℤ × ℤ × Result Bool Overflow)
  structs =
      (ref 3 1, pos 1, pos 2, Ok true)
      ∷ (ref 3 1, pos 2, pos 2, Ok true)
      ∷ (ref 3 1, pos 3, pos 2, Ok false)
      ∷ (ref 3 1, below_zero 2, below_zero 1, Ok false)
      ∷ (ref 3 1, pos 1, two_to_64, wide two_to_64 two_to_64)
      ∷ (ref 3 1, pos 18446744073709551617, two_to_64, Ok false)
      ∷ (ref 4 1, pos 3, below_zero 2, Ok true)
      ∷ (ref 5 1, pos 3, below_zero 2, Ok true)
      ∷ (ref 0 0, pos 3, below_zero 2, Ok true)
      ∷ (ref 1 1, pos 3, below_zero 2, Ok true)
      ∷ (ref 2 1, pos 3, below_zero 2, Ok true)
      ∷ []

  structs_owe : map (λ r. owed r.0 (heap_of (closed_with r.1)) (heap_of (closed_with r.2))) structs ≡ map (λ r. r.3) structs
  unfolding same_ref put inv_holds
  structs_owe = refl

  -- the claim's mode, n, the number, and whether the property and the invariant hold: the property is read in the later heap alone, and is owed only of a closed claim; its conjuncts stand in the order of their shapes
  abbrev pub claims : List (Mode × ℤ × ℤ × Result Bool Overflow × Result Bool Overflow)
  claims =
      (Closed, pos 7, pos 0, Ok true, Ok true)
      ∷ (Closed, pos 8, pos 0, Ok false, Ok false)
      ∷ (Closed, pos 7, below_zero 1, Ok false, Ok false)
      ∷ (Closed, pos 7, great, wide great (pos 1), wide great (pos 1))
      ∷ (Closed, pos 8, great, Ok false, Ok false)
      ∷ (Open, pos 7, pos 0, Ok true, Ok true)
      ∷ (Open, pos 8, pos 0, Ok false, Ok true)
      ∷ (Open, pos 7, great, wide great (pos 1), Ok true)
      ∷ (Freed, pos 8, pos 0, Ok false, Ok true)
      ∷ []

  abbrev pub property : Heap → Result Bool Overflow
  property h = comes_to (entries_overflow program h (h.get (ref 2 1)).shapes) (claim_holds program (ref 2 1) h)

  claims_hold : map (λ r. property (claimed_with r.0 r.1 r.2)) claims ≡ map (λ r. r.3) claims
  unfolding same_ref put
  claims_hold = refl

  claims_owe : map (λ r. owed (ref 2 1) (claimed_with Closed (pos 8) great) (claimed_with r.0 r.1 r.2)) claims ≡ map (λ r. r.4) claims
  unfolding same_ref put inv_holds
  claims_owe = refl
