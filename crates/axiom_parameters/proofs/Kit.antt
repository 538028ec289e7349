-- Rows over two lists of numbers, combinator by combinator.
use Rattle.std.proofs.Common.{◌≡◌, ℕ, zero, suc, Bool, true, false, List, [], ◌∷◌, length, replicate, Option, Some, None, slice_get, refl, ap, subst}
use Rattle.terms.specs.declared.sort.Sort.{Sort}
use Rattle.terms.specs.declared.sort.Sort.TheVariants as s
use Rattle.terms.specs.Formula.{Formula}
use Rattle.term_meaning.specs.Columns.{Column, columns_of, further_keys}
use Rattle.term_meaning.specs.Meaning.{Language, Quantified, sort_in}
use Rattle.axiom_instances.specs.Fitting.{Row, gives, fits, needs, number, is_sort}
use Rattle.axiom_instances.specs.Fitting as fit
use Rattle.axiom_parameters.specs.Parameters.{terms_first, number_first, keys_of, key_count, holes_of, hole_count}
use Rattle.axiom_parameters.specs.Laws.{IsSorted, NameSameTrees, NameSorted}

-- a term that passed the test of its sort has a sort
sort_is : (t : Sort) (o : Option Sort) → is_sort t o ≡ true → (s : Sort) × (o ≡ Some s)
sort_is t None h = absurd (cc)
sort_is t (Some s) h = (s, refl)

replicated : {X : Type 0} (n : ℕ) (x : X) → length (replicate n x) ≡ n
replicated zero x = refl
replicated (suc n) x = ap suc (replicated n x)

module _ (l : Language) (tree other : ℕ → Option Formula) where
  -- Of the numbers these name terms: where the row gives a formula, so does the other one for the same trees, and the trees have sorts.
  pub record Reads (marks : List ℕ → List Bool) (row also : Row) : Type 0 where
    pub same : (ns ms : List ℕ) (f : Formula) → NameSameTrees tree other (marks ns) ns ms → row ns ≡ Some f → also ms ≡ Some f
    pub sorted : (ns : List ℕ) (f : Formula) → row ns ≡ Some f → IsSorted l f → NameSorted l tree (marks ns) ns

module _ {l : Language} {tree other : ℕ → Option Formula} where
  pub gives_reads : (f : Formula) → Reads l tree other (λ ns. []) (gives f) (gives f)
  gives_reads f = record {
    same = λ ns ms g same h. subst (λ (xs : List ℕ). gives f xs ≡ Some g) same h;
    sorted = λ ns g h s. tt;
  }

  pub fits_reads : {marks : List ℕ → List Bool} {row also : Row} (b : Bool) → Reads l tree other marks row also → Reads l tree other marks (fits b row) (fits b also)
  unfolding fits
  fits_reads {marks} {row} {also} true r = record { same = r.same; sorted = r.sorted }
  fits_reads {marks} {row} {also} false r = record { same = λ ns ms f same h. absurd (cc); sorted = λ ns f h s. absurd (cc) }

  pub needs_reads : {X : Type 0} {marks : List ℕ → List Bool} {row also : X → Row} (o : Option X) → ((x : X) → Reads l tree other marks (row x) (also x)) → Reads l tree other marks (needs o row) (needs o also)
  unfolding needs
  needs_reads {X} {marks} {row} {also} None r = record { same = λ ns ms f same h. absurd (cc); sorted = λ ns f h s. absurd (cc) }
  needs_reads {X} {marks} {row} {also} (Some x) r = record { same = (r x).same; sorted = (r x).sorted }

  -- ---- numbers that name no terms

  -- the first number is the same, and says how many terms follow
  numbers_same : (follow : ℕ → ℕ) (rest : List ℕ → List Bool) (row also : ℕ → Row) → ((n : ℕ) → Reads l tree other (terms_first (follow n) rest) (row n) (also n))
      → (ns ms : List ℕ) (f : Formula) → NameSameTrees tree other (number_first follow rest ns) ns ms → number row ns ≡ Some f → number also ms ≡ Some f
  unfolding number number_first
  numbers_same follow rest row also r [] ms f same h = absurd (cc)
  numbers_same follow rest row also r (n ∷ ns) [] f same h = absurd same
  numbers_same follow rest row also r (n ∷ ns) (m ∷ ms) f same h = subst (λ (x : ℕ). also x ms ≡ Some f) same.0 ((r n).same ns ms f same.1 h)

  numbers_sorted : (follow : ℕ → ℕ) (rest : List ℕ → List Bool) (row also : ℕ → Row) → ((n : ℕ) → Reads l tree other (terms_first (follow n) rest) (row n) (also n))
      → (ns : List ℕ) (f : Formula) → number row ns ≡ Some f → IsSorted l f → NameSorted l tree (number_first follow rest ns) ns
  unfolding number number_first
  numbers_sorted follow rest row also r [] f h s = absurd (cc)
  numbers_sorted follow rest row also r (n ∷ ns) f h s = (r n).sorted ns f h s

  pub number_reads : (follow : ℕ → ℕ) (rest : List ℕ → List Bool) {row also : ℕ → Row} → ((n : ℕ) → Reads l tree other (terms_first (follow n) rest) (row n) (also n)) → Reads l tree other (number_first follow rest) (number row) (number also)
  number_reads follow rest {row} {also} r = record { same = numbers_same follow rest row also r; sorted = numbers_sorted follow rest row also r }

  no_more : (rest : List ℕ → List Bool) (row also : Row) → Reads l tree other rest row also → Reads l tree other (terms_first 0 rest) row also
  unfolding terms_first
  no_more rest row also r = record { same = r.same; sorted = r.sorted }

  -- the number of a type
  pub type_reads : {rest : List ℕ → List Bool} {row also : ℕ → Row} → ((n : ℕ) → Reads l tree other rest (row n) (also n)) → Reads l tree other (number_first (λ n. 0) rest) (number row) (number also)
  type_reads {rest} {row} {also} r = number_reads (λ n. 0) rest (λ n. no_more rest (row n) (also n) (r n))

  -- ---- terms

  module _ (t : Sort) (k : ℕ) (rest : List ℕ → List Bool) (row also : Formula → Row) (r : (g : Formula) → Reads l tree other (terms_first k rest) (row g) (also g)) where
    -- the row of a tree that passes the test
    test_same : (b : Bool) (g : Formula) (ns ms : List ℕ) (f : Formula) → NameSameTrees tree other (terms_first k rest ns) ns ms → fits b (row g) ns ≡ Some f → fits b (also g) ms ≡ Some f
    unfolding fits
    test_same true g ns ms f same h = (r g).same ns ms f same h
    test_same false g ns ms f same h = absurd (cc)

    tree_same : (o : Option Formula) (ns ms : List ℕ) (f : Formula) → NameSameTrees tree other (terms_first k rest ns) ns ms
        → needs o (λ g. fits (is_sort t (sort_in l g)) (row g)) ns ≡ Some f → needs o (λ g. fits (is_sort t (sort_in l g)) (also g)) ms ≡ Some f
    unfolding needs
    tree_same None ns ms f same h = absurd (cc)
    tree_same (Some g) ns ms f same h = test_same (is_sort t (sort_in l g)) g ns ms f same h

    term_same : (ns ms : List ℕ) (f : Formula) → NameSameTrees tree other (terms_first (suc k) rest ns) ns ms → fit.term l tree t row ns ≡ Some f → fit.term l other t also ms ≡ Some f
    unfolding fit.term number terms_first
    term_same [] ms f same h = absurd (cc)
    term_same (n ∷ ns) [] f same h = absurd same
    term_same (n ∷ ns) (m ∷ ms) f same h =
        subst (λ (o : Option Formula). needs o (λ g. fits (is_sort t (sort_in l g)) (also g)) ms ≡ Some f) same.0 (tree_same (tree n) ns ms f same.1 h)

    test_sorted : (b : Bool) (g : Formula) (n : ℕ) (ns : List ℕ) (f : Formula) → is_sort t (sort_in l g) ≡ b → tree n ≡ Some g → fits b (row g) ns ≡ Some f → IsSorted l f → NameSorted l tree (true ∷ terms_first k rest ns) (n ∷ ns)
    unfolding fits
    test_sorted true g n ns f q e h s = ((g, e, sort_is t (sort_in l g) q), (r g).sorted ns f h s)
    test_sorted false g n ns f q e h s = absurd (cc)

    tree_sorted : (o : Option Formula) (n : ℕ) (ns : List ℕ) (f : Formula) → tree n ≡ o → needs o (λ g. fits (is_sort t (sort_in l g)) (row g)) ns ≡ Some f → IsSorted l f → NameSorted l tree (true ∷ terms_first k rest ns) (n ∷ ns)
    unfolding needs
    tree_sorted None n ns f e h s = absurd (cc)
    tree_sorted (Some g) n ns f e h s = test_sorted (is_sort t (sort_in l g)) g n ns f refl e h s

    term_sorted : (ns : List ℕ) (f : Formula) → fit.term l tree t row ns ≡ Some f → IsSorted l f → NameSorted l tree (terms_first (suc k) rest ns) ns
    unfolding fit.term number terms_first
    term_sorted [] f h s = absurd (cc)
    term_sorted (n ∷ ns) f h s = tree_sorted (tree n) n ns f refl h s

    term_more : Reads l tree other (terms_first (suc k) rest) (fit.term l tree t row) (fit.term l other t also)
    term_more = record { same = term_same; sorted = term_sorted }

  pub heap_reads : {rest : List ℕ → List Bool} {row also : Formula → Row} → ((g : Formula) → Reads l tree other rest (row g) (also g)) → Reads l tree other (terms_first 1 rest) (fit.heap l tree row) (fit.heap l other also)
  unfolding fit.heap
  heap_reads {rest} {row} {also} r = term_more s.Heap 0 rest row also (λ g. no_more rest (row g) (also g) (r g))

  pub ref_reads : {rest : List ℕ → List Bool} {row also : Formula → Row} → ((g : Formula) → Reads l tree other rest (row g) (also g)) → Reads l tree other (terms_first 1 rest) (fit.ref l tree row) (fit.ref l other also)
  unfolding fit.ref
  ref_reads {rest} {row} {also} r = term_more s.Ref 0 rest row also (λ g. no_more rest (row g) (also g) (r g))

  pub int_reads : {rest : List ℕ → List Bool} {row also : Formula → Row} → ((g : Formula) → Reads l tree other rest (row g) (also g)) → Reads l tree other (terms_first 1 rest) (fit.int l tree row) (fit.int l other also)
  unfolding fit.int
  int_reads {rest} {row} {also} r = term_more s.Int 0 rest row also (λ g. no_more rest (row g) (also g) (r g))

  -- ---- several terms

  terms_read : (ss : List Sort) (rest : List ℕ → List Bool) (row also : List Formula → Row) → ((gs : List Formula) → Reads l tree other rest (row gs) (also gs)) → Reads l tree other (terms_first (length ss) rest) (fit.terms l tree ss row) (fit.terms l other ss also)
  unfolding fit.terms
  terms_read [] rest row also r = no_more rest (row []) (also []) (r [])
  terms_read (t ∷ ss) rest row also r = term_more t (length ss) rest (λ f. fit.terms l tree ss (λ fs. row (f ∷ fs))) (λ f. fit.terms l other ss (λ fs. also (f ∷ fs))) (λ f. terms_read ss rest (λ fs. row (f ∷ fs)) (λ fs. also (f ∷ fs)) (λ gs. r (f ∷ gs)))

  counted : (n : ℕ) (ss : List Sort) (rest : List ℕ → List Bool) (row also : List Formula → Row) → length ss ≡ n → ((gs : List Formula) → Reads l tree other rest (row gs) (also gs)) → Reads l tree other (terms_first n rest) (fit.terms l tree ss row) (fit.terms l other ss also)
  counted n ss rest row also e r = subst (λ (k : ℕ). Reads l tree other (terms_first k rest) (fit.terms l tree ss row) (fit.terms l other ss also)) e (terms_read ss rest row also r)

  pub refs_reads : {rest : List ℕ → List Bool} {row also : List Formula → Row} → ((gs : List Formula) → Reads l tree other rest (row gs) (also gs)) → Reads l tree other (number_first (λ n. n) rest) (fit.refs l tree row) (fit.refs l other also)
  unfolding fit.refs
  refs_reads {rest} {row} {also} r = number_reads (λ n. n) rest (λ n. counted n (replicate n s.Ref) rest row also (replicated n s.Ref) r)

  column_at : (n : ℕ) (o : Option Column) (rest : List ℕ → List Bool) (row also : ℕ → Column → List Formula → Row) → ((n : ℕ) (c : Column) (gs : List Formula) → Reads l tree other rest (row n c gs) (also n c gs))
      → Reads l tree other (terms_first (keys_of l o) rest) (needs o (λ c. fit.terms l tree (further_keys l.program c) (row n c))) (needs o (λ c. fit.terms l other (further_keys l.program c) (also n c)))
  unfolding needs
  column_at n None rest row also r = record { same = λ ns ms f same h. absurd (cc); sorted = λ ns f h s. absurd (cc) }
  column_at n (Some c) rest row also r = terms_read (further_keys l.program c) rest (row n c) (also n c) (r n c)

  pub column_reads : {rest : List ℕ → List Bool} {row also : ℕ → Column → List Formula → Row} → ((n : ℕ) (c : Column) (gs : List Formula) → Reads l tree other rest (row n c gs) (also n c gs)) → Reads l tree other (number_first (key_count l) rest) (fit.column l tree row) (fit.column l other also)
  unfolding fit.column
  column_reads {rest} {row} {also} r = number_reads (key_count l) rest (λ n. column_at n (slice_get (columns_of l.program) n) rest row also r)

  formula_at : (n : ℕ) (o : Option Quantified) (rest : List ℕ → List Bool) (row also : ℕ → Formula → List Formula → Row) → ((n : ℕ) (body : Formula) (gs : List Formula) → Reads l tree other rest (row n body gs) (also n body gs))
      → Reads l tree other (terms_first (holes_of o) rest) (needs o (λ (q : Quantified). fit.terms l tree q.holes (row n q.body))) (needs o (λ (q : Quantified). fit.terms l other q.holes (also n q.body)))
  unfolding needs
  formula_at n None rest row also r = record { same = λ ns ms f same h. absurd (cc); sorted = λ ns f h s. absurd (cc) }
  formula_at n (Some q) rest row also r = terms_read q.holes rest (row n q.body) (also n q.body) (r n q.body)

  pub formula_reads : {rest : List ℕ → List Bool} {row also : ℕ → Formula → List Formula → Row} → ((n : ℕ) (body : Formula) (gs : List Formula) → Reads l tree other rest (row n body gs) (also n body gs)) → Reads l tree other (number_first (hole_count l) rest) (fit.quantified l tree row) (fit.quantified l other also)
  unfolding fit.quantified
  formula_reads {rest} {row} {also} r = number_reads (hole_count l) rest (λ n. formula_at n (slice_get l.quantified n) rest row also r)
