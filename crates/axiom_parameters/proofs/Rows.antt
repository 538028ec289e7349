-- Every row of the axioms reads its terms by their trees, as its parameters say.
use Rattle.std.proofs.Common.{◌≡◌, ℕ, pos, Bool, true, false, List, [], ◌∷◌, Option, Some, None, refl, sym, subst}
use Rattle.terms.specs.declared.term.Kind.TheVariants as k
use Rattle.terms.specs.Formula.{Formula, Stop, With}
use Rattle.term_meaning.specs.Meaning.{Language}
use Rattle.axiom_instances.specs.Terms.{num, eq, either, is_clean_read}
use Rattle.axiom_instances.specs.Fitting.{Row, gives, fits, needs, number}
use Rattle.axiom_instances.specs.Axioms as a
use Rattle.axiom_instances.specs.Axioms.{StatusChange, status_change}
use Rattle.axiom_parameters.specs.Parameters.{parameters_of, name_terms, terms_first}
use Rattle.axiom_parameters.specs.Laws.{IsSorted, NameSameTrees, NameSorted}
use Rattle.axiom_parameters.proofs.Sorts.{arguments_sorted}
use Rattle.axiom_parameters.proofs.Kit.{Reads, gives_reads, fits_reads, needs_reads, type_reads, heap_reads, ref_reads, int_reads, refs_reads, column_reads, formula_reads}

some_is : {X : Type 0} (x y : X) → Some x ≡ Some y → x ≡ y
some_is x y h = cc

module _ {l : Language} {tree other : ℕ → Option Formula} where
  -- a heap that opens or closes an object
  change_reads : {rest : List ℕ → List Bool} {row also : Formula → StatusChange → Row} → ((b : Formula) (c : StatusChange) → Reads l tree other rest (row b c) (also b c)) → Reads l tree other (terms_first 1 rest) (status_change l tree row) (status_change l other also)
  change_reads r = heap_reads (λ b. needs_reads _ (r b))

module _ (l : Language) (tree other : ℕ → Option Formula) where
  -- the row of a member, and its formula
  abbrev one_or_none : Formula → Formula
  one_or_none g = either (eq g (num (pos 0))) (eq g (num (pos 1)))

  abbrev member_row : Formula → Row
  member_row g = fits (is_clean_read l.program g) (gives (one_or_none g))

  -- a row reads its terms by their trees
  abbrev pub ReadsPart : ℕ → ℕ → (Language → (ℕ → Option Formula) → Row) → Type 0
  ReadsPart n part row = Reads l tree other (name_terms l (parameters_of n part)) (row l tree) (row l other)

  pub reads_1 : ReadsPart 1 1 a.axiom_1
  reads_1 = formula_reads (λ n body args. ref_reads (λ q. gives_reads _))

  pub reads_2 : ReadsPart 2 1 a.axiom_2
  reads_2 = formula_reads (λ n body args. gives_reads _)

  pub reads_3a : ReadsPart 3 1 a.axiom_3a
  reads_3a = gives_reads _

  pub reads_3b : ReadsPart 3 2 a.axiom_3b
  reads_3b = ref_reads (λ o. gives_reads _)

  pub reads_3c : ReadsPart 3 3 a.axiom_3c
  reads_3c = gives_reads _

  pub reads_3d : ReadsPart 3 4 a.axiom_3d
  reads_3d = ref_reads (λ o. gives_reads _)

  pub reads_4a : ReadsPart 4 1 a.axiom_4a
  reads_4a = heap_reads (λ x. ref_reads (λ o. fits_reads _ (gives_reads _)))

  -- The one row that tests no sort: its term stands in the formula.
  member_same : (ns ms : List ℕ) (f : Formula) → NameSameTrees tree other (name_terms l (parameters_of 4 2) ns) ns ms → a.axiom_4b l tree ns ≡ Some f → a.axiom_4b l other ms ≡ Some f
  unfolding number terms_first
  member_same [] ms f same h = absurd (cc)
  member_same (n ∷ ns) [] f same h = absurd same
  member_same (n ∷ ns) (m ∷ ms) f same h =
      subst (λ (o : Option Formula). needs o member_row ms ≡ Some f) same.0 (subst (λ (xs : List ℕ). needs (tree n) member_row xs ≡ Some f) same.1 h)

  member_given : (g : Formula) (ns : List ℕ) (f : Formula) → gives (one_or_none g) ns ≡ Some f → IsSorted l f → IsSorted l g
  unfolding gives
  member_given g [] f h s =
      let whole : IsSorted l (one_or_none g) = subst (λ (x : Formula). IsSorted l x) (sym (some_is (one_or_none g) f h)) s in
      (arguments_sorted l k.Eq (pos 0) (With g (With (num (pos 0)) Stop)) (arguments_sorted l k.Or (pos 0) (With (eq g (num (pos 0))) (With (eq g (num (pos 1))) Stop)) whole).0).0
  member_given g (n ∷ ns) f h s = absurd (cc)

  member_tested : (b : Bool) (g : Formula) (ns : List ℕ) (f : Formula) → fits b (gives (one_or_none g)) ns ≡ Some f → IsSorted l f → IsSorted l g
  unfolding fits
  member_tested true g ns f h s = member_given g ns f h s
  member_tested false g ns f h s = absurd (cc)

  member_named : (o : Option Formula) (n : ℕ) (ns : List ℕ) (f : Formula) → tree n ≡ o → needs o member_row ns ≡ Some f → IsSorted l f → NameSorted l tree (true ∷ []) (n ∷ ns)
  unfolding needs
  member_named None n ns f e h s = absurd (cc)
  member_named (Some g) n ns f e h s = ((g, e, member_tested (is_clean_read l.program g) g ns f h s), tt)

  member_sorted : (ns : List ℕ) (f : Formula) → a.axiom_4b l tree ns ≡ Some f → IsSorted l f → NameSorted l tree (name_terms l (parameters_of 4 2) ns) ns
  unfolding number terms_first
  member_sorted [] f h s = absurd (cc)
  member_sorted (n ∷ ns) f h s = member_named (tree n) n ns f refl h s

  pub reads_4b : ReadsPart 4 2 a.axiom_4b
  reads_4b = record { same = member_same; sorted = member_sorted }

  pub reads_5 : ReadsPart 5 1 a.axiom_5
  reads_5 = heap_reads (λ x. gives_reads _)

  pub reads_6a : ReadsPart 6 1 a.axiom_6a
  reads_6a = heap_reads (λ x. ref_reads (λ o. gives_reads _))

  pub reads_6b : ReadsPart 6 2 a.axiom_6b
  reads_6b = heap_reads (λ x. gives_reads _)

  pub reads_6c : ReadsPart 6 3 a.axiom_6c
  reads_6c = heap_reads (λ x. ref_reads (λ o. gives_reads _))

  pub reads_7a : ReadsPart 7 1 a.axiom_7a
  reads_7a = heap_reads (λ x. ref_reads (λ o. gives_reads _))

  pub reads_7b : ReadsPart 7 2 a.axiom_7b
  reads_7b = heap_reads (λ x. ref_reads (λ o. gives_reads _))

  pub reads_8 : ReadsPart 8 1 a.axiom_8
  reads_8 = heap_reads (λ x. ref_reads (λ o. gives_reads _))

  pub reads_9 : ReadsPart 9 1 a.axiom_9
  reads_9 = heap_reads (λ x. ref_reads (λ o. ref_reads (λ q. gives_reads _)))

  pub reads_10 : ReadsPart 10 1 a.axiom_10
  reads_10 = heap_reads (λ x. ref_reads (λ c. ref_reads (λ q. gives_reads _)))

  pub reads_11 : ReadsPart 11 1 a.axiom_11
  reads_11 = heap_reads (λ x. ref_reads (λ o. type_reads (λ ty. fits_reads _ (gives_reads _))))

  pub reads_12 : ReadsPart 12 1 a.axiom_12
  reads_12 = heap_reads (λ x. ref_reads (λ o. column_reads (λ n c ks. needs_reads _ (λ ty. gives_reads _))))

  pub reads_13 : ReadsPart 13 1 a.axiom_13
  reads_13 = heap_reads (λ x. ref_reads (λ o. gives_reads _))

  pub reads_14a : ReadsPart 14 1 a.axiom_14a
  reads_14a = heap_reads (λ x. heap_reads (λ y. ref_reads (λ o. type_reads (λ ty. fits_reads _ (needs_reads _ (λ i. gives_reads _))))))

  pub reads_14b : ReadsPart 14 2 a.axiom_14b
  reads_14b = heap_reads (λ x. heap_reads (λ y. ref_reads (λ o. type_reads (λ ty. fits_reads _ (needs_reads _ (λ i. gives_reads _))))))

  pub reads_15 : ReadsPart 15 1 a.axiom_15
  reads_15 = heap_reads (λ x. ref_reads (λ c. column_reads (λ n s ks. needs_reads _ (λ f. gives_reads _))))

  pub reads_16 : ReadsPart 16 1 a.axiom_16
  reads_16 = ref_reads (λ t. heap_reads (λ x. heap_reads (λ y. gives_reads _)))

  pub reads_17 : ReadsPart 17 1 a.axiom_17
  reads_17 = ref_reads (λ t. heap_reads (λ x. heap_reads (λ y. ref_reads (λ o. column_reads (λ n c ks. gives_reads _)))))

  pub reads_18 : ReadsPart 18 1 a.axiom_18
  reads_18 = ref_reads (λ t. heap_reads (λ x. heap_reads (λ y. ref_reads (λ o. gives_reads _))))

  pub reads_19 : ReadsPart 19 1 a.axiom_19
  reads_19 = ref_reads (λ t. heap_reads (λ x. heap_reads (λ y. ref_reads (λ o. type_reads (λ ty. column_reads (λ n c ks. fits_reads _ (gives_reads _)))))))

  pub reads_20 : ReadsPart 20 1 a.axiom_20
  reads_20 = ref_reads (λ t. heap_reads (λ x. heap_reads (λ y. ref_reads (λ o. gives_reads _))))

  pub reads_21a : ReadsPart 21 1 a.axiom_21a
  reads_21a = ref_reads (λ t. heap_reads (λ x. heap_reads (λ y. heap_reads (λ e. refs_reads (λ w. gives_reads _)))))

  pub reads_21b : ReadsPart 21 2 a.axiom_21b
  reads_21b = ref_reads (λ t. heap_reads (λ x. heap_reads (λ y. heap_reads (λ e. refs_reads (λ w. ref_reads (λ o. column_reads (λ n c ks. gives_reads _)))))))

  pub reads_21c : ReadsPart 21 3 a.axiom_21c
  reads_21c = ref_reads (λ t. heap_reads (λ x. heap_reads (λ y. heap_reads (λ e. refs_reads (λ w. ref_reads (λ o. gives_reads _))))))

  pub reads_21d : ReadsPart 21 4 a.axiom_21d
  reads_21d = ref_reads (λ t. heap_reads (λ x. heap_reads (λ y. heap_reads (λ e. refs_reads (λ w. ref_reads (λ o. type_reads (λ ty. column_reads (λ n c ks. fits_reads _ (gives_reads _)))))))))

  pub reads_22a : ReadsPart 22 1 a.axiom_22a
  reads_22a = ref_reads (λ t. heap_reads (λ x. ref_reads (λ o. heap_reads (λ e. refs_reads (λ w. gives_reads _)))))

  pub reads_22b : ReadsPart 22 2 a.axiom_22b
  reads_22b = heap_reads (λ x. ref_reads (λ t. ref_reads (λ c. heap_reads (λ e. refs_reads (λ w. ref_reads (λ q. gives_reads _))))))

  pub reads_22c : ReadsPart 22 3 a.axiom_22c
  reads_22c = heap_reads (λ x. ref_reads (λ t. ref_reads (λ o. heap_reads (λ e. refs_reads (λ w. ref_reads (λ q. type_reads (λ ty. fits_reads _ (gives_reads _))))))))

  pub reads_22d : ReadsPart 22 4 a.axiom_22d
  reads_22d = heap_reads (λ x. ref_reads (λ t. ref_reads (λ o. heap_reads (λ e. refs_reads (λ w. gives_reads _)))))

  pub reads_22e : ReadsPart 22 5 a.axiom_22e
  reads_22e = ref_reads (λ u. heap_reads (λ x. ref_reads (λ o. gives_reads _)))

  pub reads_23a : ReadsPart 23 1 a.axiom_23a
  reads_23a = heap_reads (λ x. heap_reads (λ y. gives_reads _))

  pub reads_23b : ReadsPart 23 2 a.axiom_23b
  reads_23b = heap_reads (λ x. heap_reads (λ y. gives_reads _))

  pub reads_23c : ReadsPart 23 3 a.axiom_23c
  reads_23c = heap_reads (λ x. heap_reads (λ y. ref_reads (λ o. gives_reads _)))

  pub reads_23d : ReadsPart 23 4 a.axiom_23d
  reads_23d = heap_reads (λ x. heap_reads (λ y. ref_reads (λ o. gives_reads _)))

  pub reads_23e : ReadsPart 23 5 a.axiom_23e
  reads_23e = ref_reads (λ o. heap_reads (λ x. heap_reads (λ y. column_reads (λ n c ks. fits_reads _ (gives_reads _)))))

  pub reads_23f : ReadsPart 23 6 a.axiom_23f
  reads_23f = ref_reads (λ o. heap_reads (λ x. heap_reads (λ y. ref_reads (λ q. gives_reads _))))

  pub reads_23g : ReadsPart 23 7 a.axiom_23g
  reads_23g = heap_reads (λ x. heap_reads (λ y. ref_reads (λ o. type_reads (λ ty. column_reads (λ n c ks. fits_reads _ (gives_reads _))))))

  pub reads_24a : ReadsPart 24 1 a.axiom_24a
  reads_24a = change_reads (λ b c. gives_reads _)

  pub reads_24b : ReadsPart 24 2 a.axiom_24b
  reads_24b = change_reads (λ b c. ref_reads (λ o. gives_reads _))

  pub reads_24c : ReadsPart 24 3 a.axiom_24c
  reads_24c = change_reads (λ b c. ref_reads (λ o. gives_reads _))

  pub reads_24d : ReadsPart 24 4 a.axiom_24d
  reads_24d = change_reads (λ b c. ref_reads (λ o. gives_reads _))

  pub reads_24e : ReadsPart 24 5 a.axiom_24e
  reads_24e = change_reads (λ b c. ref_reads (λ o. column_reads (λ n d ks. fits_reads _ (gives_reads _))))

  pub reads_24f : ReadsPart 24 6 a.axiom_24f
  reads_24f = heap_reads (λ x. ref_reads (λ o. ref_reads (λ q. gives_reads _)))

  pub reads_24g : ReadsPart 24 7 a.axiom_24g
  reads_24g = ref_reads (λ q. ref_reads (λ o. heap_reads (λ x. ref_reads (λ m. gives_reads _))))

  pub reads_24h : ReadsPart 24 8 a.axiom_24h
  reads_24h = heap_reads (λ x. ref_reads (λ o. ref_reads (λ q. column_reads (λ n c ks. fits_reads _ (gives_reads _)))))

  pub reads_24i : ReadsPart 24 9 a.axiom_24i
  reads_24i = int_reads (λ b. int_reads (λ a. gives_reads _))

  pub reads_24j : ReadsPart 24 10 a.axiom_24j
  reads_24j = int_reads (λ a. int_reads (λ b. gives_reads _))

  pub reads_24k : ReadsPart 24 11 a.axiom_24k
  reads_24k = int_reads (λ a. int_reads (λ b. gives_reads _))

  pub reads_24l : ReadsPart 24 12 a.axiom_24l
  reads_24l = int_reads (λ b. int_reads (λ a. gives_reads _))

  pub reads_24m : ReadsPart 24 13 a.axiom_24m
  reads_24m = int_reads (λ b. int_reads (λ a. gives_reads _))

  pub reads_25 : ReadsPart 25 1 a.axiom_25
  reads_25 = ref_reads (λ t. heap_reads (λ x. heap_reads (λ y. ref_reads (λ o. type_reads (λ ty. column_reads (λ n c ks. fits_reads _ (gives_reads _)))))))

  pub reads_26 : ReadsPart 26 1 a.axiom_26
  reads_26 = ref_reads (λ t. heap_reads (λ x. heap_reads (λ y. heap_reads (λ e. refs_reads (λ w. ref_reads (λ o. type_reads (λ ty. column_reads (λ n c ks. fits_reads _ (gives_reads _)))))))))

  pub reads_27 : ReadsPart 27 1 a.axiom_27
  reads_27 = heap_reads (λ x. heap_reads (λ y. ref_reads (λ o. ref_reads (λ q. type_reads (λ ty. column_reads (λ n c ks. fits_reads _ (gives_reads _)))))))

  pub reads_28a : ReadsPart 28 1 a.axiom_28a
  reads_28a = heap_reads (λ x. ref_reads (λ o. ref_reads (λ q. gives_reads _)))

  pub reads_28b : ReadsPart 28 2 a.axiom_28b
  reads_28b = heap_reads (λ x. ref_reads (λ o. ref_reads (λ q. gives_reads _)))

  pub reads_29a : ReadsPart 29 1 a.axiom_29a
  reads_29a = int_reads (λ a. int_reads (λ b. gives_reads _))

  pub reads_29b : ReadsPart 29 2 a.axiom_29b
  reads_29b = int_reads (λ a. int_reads (λ b. gives_reads _))
