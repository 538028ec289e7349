-- The quantified formulas of the bag, by their numbers: in the order of the text, the end of a claim behind all others. Own. Their arguments are what stands free in the body, each once, in the order in which it first stands there.
use Rattle.std.specs.Prelude.{[], ◌∷◌}
use Rattle.terms.specs.declared.sort.Sort.TheVariants as s
use Rattle.terms.specs.Formula.{Formula}
use Rattle.conditions.specs.Formulas.{nat, null, reference, heap, not', and', or', imp, eq, typ, get}
use Rattle.conditions.specs.Quantified.{QuantifiedFormula}
use Rattle.language_rows.specs.LockFormulas.{is_member, is_wrapped_by, is_fresh_to}

-- q is NULL or a Cell
abbrev pub is_cell : Formula → Formula
is_cell q = or' (eq q null) (eq (typ q) (nat 3))

-- the claim c lists q in h
abbrev pub is_listed : Formula → Formula → Formula → Formula
is_listed h c q = eq (get 4 h (c ∷ q ∷ [])) (nat 1)

-- the invariant of Bag: the heap, `\this`
abbrev pub members_are_last : QuantifiedFormula
members_are_last =
    let q = reference 2 in
    record {
      number = 0;
      arguments = s.Heap ∷ s.Ref ∷ [];
      body = imp (is_cell q) (imp (is_member (heap 0) (reference 1) q) (eq (get 6 (heap 0) (q ∷ [])) null));
    }

-- \claims_only(c, p): the heap, c, p
abbrev pub lists_cell_alone : QuantifiedFormula
lists_cell_alone =
    let q = reference 3 in
    record {
      number = 1;
      arguments = s.Heap ∷ s.Ref ∷ s.Ref ∷ [];
      body = imp (is_listed (heap 0) (reference 1) q) (eq q (reference 2));
    }

-- the denial of `\exists`: the heap, b, p
abbrev pub owns_no_cell : QuantifiedFormula
owns_no_cell =
    let q = reference 3 in
    record {
      number = 2;
      arguments = s.Heap ∷ s.Ref ∷ s.Ref ∷ [];
      body = imp (is_cell q) (not' (and' (is_member (heap 0) (reference 1) q) (eq q (reference 2))));
    }

-- each object that b owns is closed: the heap, b
abbrev pub members_are_closed : QuantifiedFormula
members_are_closed =
    let q = reference 2 in
    record {
      number = 3;
      arguments = s.Heap ∷ s.Ref ∷ [];
      body = imp (not' (eq (typ q) (nat 1))) (imp (is_member (heap 0) (reference 1) q) (eq (get 0 (heap 0) (q ∷ [])) (nat 2)));
    }

-- the wrap of b, whose set may change: the heap, b, `\me`, b and c that Keep writes, the entry heap
abbrev pub wrap_of_bag : QuantifiedFormula
wrap_of_bag =
    let q = reference 6 in
    record {
      number = 4;
      arguments = s.Heap ∷ s.Ref ∷ s.Ref ∷ s.Ref ∷ s.Ref ∷ s.Heap ∷ [];
      body = imp (is_member (heap 0) (reference 1) q)
          (and' (is_wrapped_by (reference 2) (heap 0) q)
          (or' (eq q (reference 3)) (or' (eq q (reference 4)) (is_fresh_to (reference 2) (heap 5) q))));
    }

-- the end of c, which lists p: the heap, c, p
abbrev pub claim_lists_no_other : QuantifiedFormula
claim_lists_no_other =
    let q = reference 3 in
    record {
      number = 5;
      arguments = s.Heap ∷ s.Ref ∷ s.Ref ∷ [];
      body = imp (is_listed (heap 0) (reference 1) q) (eq q (reference 2));
    }
