-- The quantified formulas of the lock program: its three wraps have one each, which says of an object's members that they are wrapped and writable. Own. Argument k stands in the body as constant number k of its sort; the member that it is about stands behind all.
use Rattle.std.specs.Prelude.{[], ◌∷◌}
use Rattle.terms.specs.declared.sort.Sort.TheVariants as s
use Rattle.terms.specs.Formula.{Formula}
use Rattle.conditions.specs.Formulas.{nat, reference, heap, not', and', or', imp, eq, get}
use Rattle.conditions.specs.Quantified.{QuantifiedFormula}

-- q is a member of o in h
abbrev pub is_member : Formula → Formula → Formula → Formula
is_member h o q = eq (get 3 h (o ∷ q ∷ [])) (nat 1)

-- q is closed in h, and t owns it
abbrev pub is_wrapped_by : Formula → Formula → Formula → Formula
is_wrapped_by t h q = and' (eq (get 0 h (q ∷ [])) (nat 2)) (eq (get 1 h (q ∷ [])) t)

-- t didn't own q at the entry e
abbrev pub is_fresh_to : Formula → Formula → Formula → Formula
is_fresh_to t e q = not' (eq (get 1 e (q ∷ [])) t)

-- InitializeLock wraps a Lock, whose set may change: the heap, l, `\me`, l and obj that it writes, the entry heap
abbrev pub wrap_of_lock : QuantifiedFormula
wrap_of_lock =
    let q = reference 6 in
    record {
      number = 0;
      arguments = s.Heap ∷ s.Ref ∷ s.Ref ∷ s.Ref ∷ s.Ref ∷ s.Heap ∷ [];
      body = imp (is_member (heap 0) (reference 1) q)
          (and' (is_wrapped_by (reference 2) (heap 0) q)
          (or' (eq q (reference 3)) (or' (eq q (reference 4)) (is_fresh_to (reference 2) (heap 5) q))));
    }

-- Worker wraps a Data, whose set is fixed: the set's heap, d, the heap, `\me`, c that it writes, the entry heap
abbrev pub wrap_in_worker : QuantifiedFormula
wrap_in_worker =
    let q = reference 6 in
    record {
      number = 1;
      arguments = s.Heap ∷ s.Ref ∷ s.Heap ∷ s.Ref ∷ s.Ref ∷ s.Heap ∷ [];
      body = imp (is_member (heap 0) (reference 1) q)
          (and' (is_wrapped_by (reference 3) (heap 2) q) (or' (eq q (reference 4)) (is_fresh_to (reference 3) (heap 5) q)));
    }

-- main wraps a Data, and writes nothing
abbrev pub wrap_in_main : QuantifiedFormula
wrap_in_main =
    let q = reference 5 in
    record {
      number = 2;
      arguments = s.Heap ∷ s.Ref ∷ s.Heap ∷ s.Ref ∷ s.Heap ∷ [];
      body = imp (is_member (heap 0) (reference 1) q)
          (and' (is_wrapped_by (reference 3) (heap 2) q) (is_fresh_to (reference 3) (heap 4) q));
    }
