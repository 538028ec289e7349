-- The quantified formulas of the shop, by their numbers: in the order of the text, an outer one before those in it. Own. An inner one stands in the outer one's body with its arguments there, among them what the outer one binds; for the inner one itself that is an argument like any other.
use Rattle.std.specs.Prelude.{ℕ, pos, List, [], ◌∷◌}
use Rattle.terms.specs.declared.sort.Sort.TheVariants as s
use Rattle.terms.specs.declared.term.Kind.TheVariants as k
use Rattle.terms.specs.Formula.{Formula, Node}
use Rattle.conditions.specs.Formulas.{row, nat, null, integer, reference, heap, not', and', or', imp, eq, le, typ, get}
use Rattle.conditions.specs.Quantified.{QuantifiedFormula}
use Rattle.language_rows.specs.LockFormulas.{is_member}

-- q is NULL or of this type
abbrev is_pointer : ℕ → Formula → Formula
is_pointer ty q = or' (eq q null) (eq (typ q) (nat ty))

abbrev is_item : Formula → Formula
is_item = is_pointer 3

-- the fields
abbrev next : Formula → Formula → Formula
next h q = get 5 h (q ∷ [])

abbrev rank : Formula → Formula → Formula
rank h q = get 6 h (q ∷ [])

abbrev best : Formula → Formula → Formula
best h q = get 8 h (q ∷ [])

-- formula number n of these arguments
abbrev all : ℕ → List Formula → Formula
all n arguments = Node k.All (pos n) (row arguments)

-- the invariant of Shelf, over p: the heap, `\this`. Formula 1 denies that a q is p -> next, so it is denied.
abbrev pub each_has_next : QuantifiedFormula
each_has_next =
    let this = reference 1 in
    let p = reference 2 in
    record {
      number = 0;
      arguments = s.Heap ∷ s.Ref ∷ [];
      body = imp (is_item p) (imp (is_member (heap 0) this p) (not' (all 1 (heap 0 ∷ this ∷ p ∷ []))));
    }

-- the denial of `\exists` in it, over q: the heap, `\this`, p
abbrev pub none_is_next : QuantifiedFormula
none_is_next =
    let this = reference 1 in
    let p = reference 2 in
    let q = reference 3 in
    record {
      number = 1;
      arguments = s.Heap ∷ s.Ref ∷ s.Ref ∷ [];
      body = imp (is_item q) (not' (and' (is_member (heap 0) this q) (eq q (next (heap 0) p))));
    }

-- the denial of the clause's `\exists`, over p: the heap, t, least. Its operands are grouped to the left.
abbrev pub has_no_lowest : QuantifiedFormula
has_no_lowest =
    let t = reference 1 in
    let least = integer 2 in
    let p = reference 3 in
    record {
      number = 2;
      arguments = s.Heap ∷ s.Ref ∷ s.Int ∷ [];
      body = imp (is_item p)
          (not' (and' (and' (is_member (heap 0) t p) (le least (rank (heap 0) p))) (all 3 (heap 0 ∷ t ∷ p ∷ []))));
    }

-- `\forall` in it, over q: the heap, t, p
abbrev pub is_lowest : QuantifiedFormula
is_lowest =
    let t = reference 1 in
    let p = reference 2 in
    let q = reference 3 in
    record {
      number = 3;
      arguments = s.Heap ∷ s.Ref ∷ s.Ref ∷ [];
      body = imp (is_item q) (imp (is_member (heap 0) t q) (le (rank (heap 0) p) (rank (heap 0) q)));
    }

-- the assertion, over a: the heap, s, the entry heap. It has the latter since the innermost one reads it.
abbrev pub each_shelf_is_chained : QuantifiedFormula
each_shelf_is_chained =
    let shop = reference 1 in
    let entry = heap 2 in
    let a = reference 3 in
    record {
      number = 4;
      arguments = s.Heap ∷ s.Ref ∷ s.Heap ∷ [];
      body = imp (is_pointer 4 a) (imp (is_member (heap 0) shop a) (all 5 (heap 0 ∷ a ∷ entry ∷ shop ∷ [])));
    }

-- the second one, over p: the heap, a, the entry heap, s
abbrev pub each_is_chained : QuantifiedFormula
each_is_chained =
    let a = reference 1 in
    let entry = heap 2 in
    let shop = reference 3 in
    let p = reference 4 in
    record {
      number = 5;
      arguments = s.Heap ∷ s.Ref ∷ s.Heap ∷ s.Ref ∷ [];
      body = imp (is_item p) (imp (is_member (heap 0) a p) (not' (all 6 (heap 0 ∷ a ∷ p ∷ entry ∷ shop ∷ []))));
    }

-- the denial of the innermost one, over q: the heap, a, p, the entry heap, s
abbrev pub none_comes_before : QuantifiedFormula
none_comes_before =
    let a = reference 1 in
    let p = reference 2 in
    let entry = heap 3 in
    let shop = reference 4 in
    let q = reference 5 in
    record {
      number = 6;
      arguments = s.Heap ∷ s.Ref ∷ s.Ref ∷ s.Heap ∷ s.Ref ∷ [];
      body = imp (is_item q)
          (not' (and' (and' (is_member (heap 0) a q) (eq (next (heap 0) q) p))
          (le (rank entry q) (rank (heap 0) (best (heap 0) shop)))));
    }
