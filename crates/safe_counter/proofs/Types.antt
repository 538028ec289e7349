-- A type whose only invariant is that its number doesn't fall: what its labels say.
use Rattle.std.proofs.Common.{◌≡◌, Bool, true, false, cond, not, ◌==◌, ◌&&◌, ◌||◌, refl, sym, ap, ◌∙◌, subst, pos, int_le}
use Rattle.object_types.specs.declared.references.Ref.{Ref}
use Rattle.object_types.specs.declared.values.Value.{Value}
use Rattle.object_types.specs.declared.values.Value.TheVariants.{Int, Ref as Refers}
use Rattle.int_ranges.specs.declared.ctype.CType.TheVariants.{Int as SignedInt}
use Rattle.int_ranges.specs.Ranges.{least_of, greatest_of}
use Rattle.method.specs.declared.program.DeclaredType.TheVariants.{Integer}
use Rattle.method.specs.declared.program.Program.{Program}
use Rattle.object_types.specs.Values.{int, truth, says, or_zero}
use Rattle.object_types.specs.Heap.{Heap, Record, closed_in, write, with_field}
use Rattle.method.specs.Tables.{read, struct_of, in_type, zero_of, type_of_field, is_field_of, is_volatile, is_approved}
use Rattle.method.specs.Invariants.{inv_holds, struct_holds, inv_scene, claim_holds}
use Rattle.method.specs.Legal.{Good}
use Rattle.method.specs.Admissible.{Reflexive, Stable}
use Rattle.method.proofs.Global.{and_both}
use Rattle.machine_laws.proofs.Typed.{le_self}
use Rattle.machine_laws.proofs.Heaps.{put_same}

-- the type with number 3 has the volatile integer field number 0, and \old(n) <= n is its invariant
pub record IsCounting (p : Program) : Type 0 where
  pub grows : (o : Ref) (h k : Heap) → struct_holds p (struct_of p 3) (inv_scene o h k) ≡ truth (says (int_le (int (read p h o 0)) (int (read p k o 0)))) && true
  pub field : is_field_of p 0 3 ≡ true
  pub integer : type_of_field p 0 ≡ Integer SignedInt
  pub volatile : is_volatile p 0 ≡ true
  pub unapproved : is_approved p 0 ≡ false

int_at_most : (v : Value) → in_type (Integer SignedInt) v ≡ true → int_le (int v) (pos 2147483647) ≡ true
unfolding in_type
int_at_most (Int z) e = (and_both (int_le (least_of SignedInt) z) (int_le z (greatest_of SignedInt)) e).1
int_at_most (Refers r) e = absurd (cc)

abbrev pub greatest : Value
greatest = Int (pos 2147483647)

module _ (p : Program) (c : IsCounting p) where
  pub inv_by : (o : Ref) → o.ty ≡ 3 → (h k : Heap) → int_le (int (read p h o 0)) (int (read p k o 0)) ≡ true → inv_holds p o h k ≡ true
  unfolding inv_holds
  inv_by o e h k le =
      ap (λ n. cond (n == 2) (not (closed_in k o) || claim_holds p o k) (struct_holds p (struct_of p n) (inv_scene o h k))) e
      ∙ (c.grows o h k ∙ ap (λ b. truth (says b) && true) le)

  truth_back : (b : Bool) → truth (says b) && true ≡ true → b ≡ true
  truth_back true e = refl
  truth_back false e = e

  -- and back
  pub inv_says : (o : Ref) → o.ty ≡ 3 → (h k : Heap) → inv_holds p o h k ≡ true → int_le (int (read p h o 0)) (int (read p k o 0)) ≡ true
  unfolding inv_holds
  inv_says o e h k i =
      truth_back (int_le (int (read p h o 0)) (int (read p k o 0)))
      (sym (ap (λ n. cond (n == 2) (not (closed_in k o) || claim_holds p o k) (struct_holds p (struct_of p n) (inv_scene o h k))) e ∙ c.grows o h k) ∙ i)

  pub same_number : (o : Ref) (h k : Heap) → (k.get o).fields 0 ≡ (h.get o).fields 0 → int_le (int (read p h o 0)) (int (read p k o 0)) ≡ true
  same_number o h k e = ap (λ v. int_le (int (read p h o 0)) (int (or_zero (zero_of (type_of_field p 0)) v))) e ∙ le_self (int (read p h o 0))

  pub reflexive : Reflexive p 3
  reflexive h0 h1 good kept o e closed = inv_by o e h1 h1 (same_number o h1 h1 refl)

  pub stable : Stable p 3
  stable h0 h1 good legal o e closed after u = inv_by o e h0 h1 (same_number o h0 h1 (u.fields 0))

  number_at_most : (h : Heap) (r : Ref) → Good p h → r.ty ≡ 3 → int_le (int (read p h r 0)) (pos 2147483647) ≡ true
  number_at_most h r good e = int_at_most (read p h r 0) (subst (λ t. in_type t (read p h r 0) ≡ true) c.integer (good.well_formed.fields r 0 (subst (λ n. is_field_of p 0 n ≡ true) (sym e) c.field)))

  read_greatest : (h : Heap) (r : Ref) → int (read p (write h r 0 greatest) r 0) ≡ pos 2147483647
  read_greatest h r = ap (λ (q : Record). int (or_zero (zero_of (type_of_field p 0)) (q.fields 0))) (put_same h r (with_field 0 greatest (h.get r)))

  -- the greatest number is no less than any before
  pub raised : (h : Heap) (r : Ref) → Good p h → r.ty ≡ 3 → inv_holds p r h (write h r 0 greatest) ≡ true
  raised h r good e = inv_by r e h (write h r 0 greatest) (ap (int_le (int (read p h r 0))) (read_greatest h r) ∙ number_at_most h r good e)
