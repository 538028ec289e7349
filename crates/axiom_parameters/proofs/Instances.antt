-- Instances by the trees of their terms: every row of the table reads its terms by their trees.
use Rattle.std.proofs.Common.{◌≡◌, ℕ, zero, suc, List, [], ◌∷◌, Option, Some, None, slice_get, option_and_then, refl, sym, ◌∙◌}
use Rattle.terms.specs.Formula.{Formula}
use Rattle.term_meaning.specs.Meaning.{Language}
use Rattle.axiom_instances.specs.Fitting.{Row}
use Rattle.axiom_instances.specs.Axioms.{axioms, item_at}
use Rattle.axiom_parameters.specs.Parameters.{Parameter, parameters, parameters_of, or_none, name_terms}
use Rattle.axiom_parameters.specs.Laws.{IsSorted, NameSameTrees, NameSorted, InstanceByTrees, ArgumentsHaveSorts}
use Rattle.axiom_parameters.proofs.Kit.{Reads}
use Rattle.axiom_parameters.proofs.Rows.{reads_1, reads_2, reads_3a, reads_3b, reads_3c, reads_3d, reads_4a, reads_4b, reads_5, reads_6a, reads_6b, reads_6c, reads_7a, reads_7b, reads_8, reads_9, reads_10, reads_11, reads_12, reads_13, reads_14a, reads_14b, reads_15, reads_16, reads_17, reads_18, reads_19, reads_20, reads_21a, reads_21b, reads_21c, reads_21d, reads_22a, reads_22b, reads_22c, reads_22d, reads_22e, reads_23a, reads_23b, reads_23c, reads_23d, reads_23e, reads_23f, reads_23g, reads_24a, reads_24b, reads_24c, reads_24d, reads_24e, reads_24f, reads_24g, reads_24h, reads_24i, reads_24j, reads_24k, reads_24l, reads_24m, reads_25, reads_26, reads_27, reads_28a, reads_28b, reads_29a, reads_29b}

module _ (l : Language) (tree other : ℕ → Option Formula) where
  -- each row reads its terms by their trees, as the parameters beside it say
  abbrev ReadParts : List (List Parameter) → List Row → List Row → Type 0
  ReadParts [] [] [] = Unit {0}
  ReadParts (p ∷ ps) (r ∷ rs) (q ∷ qs) = Reads l tree other (name_terms l p) r q × ReadParts ps rs qs
  ReadParts _ _ _ = ⊥

  abbrev ReadAxioms : List (List (List Parameter)) → List (List Row) → List (List Row) → Type 0
  ReadAxioms [] [] [] = Unit {0}
  ReadAxioms (p ∷ ps) (r ∷ rs) (q ∷ qs) = ReadParts p r q × ReadAxioms ps rs qs
  ReadAxioms _ _ _ = ⊥

  all_read : ReadAxioms parameters (axioms l tree) (axioms l other)
  all_read = (
    (reads_1 l tree other, tt),
    (
      (reads_2 l tree other, tt),
      (
        (reads_3a l tree other, (reads_3b l tree other, (reads_3c l tree other, (reads_3d l tree other, tt)))),
        (
          (reads_4a l tree other, (reads_4b l tree other, tt)),
          (
            (reads_5 l tree other, tt),
            (
              (reads_6a l tree other, (reads_6b l tree other, (reads_6c l tree other, tt))),
              (
                (reads_7a l tree other, (reads_7b l tree other, tt)),
                (
                  (reads_8 l tree other, tt),
                  (
                    (reads_9 l tree other, tt),
                    (
                      (reads_10 l tree other, tt),
                      (
                        (reads_11 l tree other, tt),
                        (
                          (reads_12 l tree other, tt),
                          (
                            (reads_13 l tree other, tt),
                            (
                              (reads_14a l tree other, (reads_14b l tree other, tt)),
                              (
                                (reads_15 l tree other, tt),
                                (
                                  (reads_16 l tree other, tt),
                                  (
                                    (reads_17 l tree other, tt),
                                    (
                                      (reads_18 l tree other, tt),
                                      (
                                        (reads_19 l tree other, tt),
                                        (
                                          (reads_20 l tree other, tt),
                                          (
                                            (reads_21a l tree other, (reads_21b l tree other, (reads_21c l tree other, (reads_21d l tree other, tt)))),
                                            (
                                              (reads_22a l tree other, (reads_22b l tree other, (reads_22c l tree other, (reads_22d l tree other, (reads_22e l tree other, tt))))),
                                              (
                                                (reads_23a l tree other, (reads_23b l tree other, (reads_23c l tree other, (reads_23d l tree other, (reads_23e l tree other, (reads_23f l tree other, (reads_23g l tree other, tt))))))),
                                                (
                                                  (reads_24a l tree other, (reads_24b l tree other, (reads_24c l tree other, (reads_24d l tree other, (reads_24e l tree other, (reads_24f l tree other, (reads_24g l tree other, (reads_24h l tree other, (reads_24i l tree other, (reads_24j l tree other, (reads_24k l tree other, (reads_24l l tree other, (reads_24m l tree other, tt))))))))))))),
                                                  (
                                                    (reads_25 l tree other, tt),
                                                    (
                                                      (reads_26 l tree other, tt),
                                                      (
                                                        (reads_27 l tree other, tt),
                                                        (
                                                          (reads_28a l tree other, (reads_28b l tree other, tt)),
                                                          (
                                                            (reads_29a l tree other, (reads_29b l tree other, tt)),
                                                            tt,
                                                          ),
                                                        ),
                                                      ),
                                                    ),
                                                  ),
                                                ),
                                              ),
                                            ),
                                          ),
                                        ),
                                      ),
                                    ),
                                  ),
                                ),
                              ),
                            ),
                          ),
                        ),
                      ),
                    ),
                  ),
                ),
              ),
            ),
          ),
        ),
      ),
    ),
  )

  -- what a row that may be there gives
  abbrev part_gives : Option Row → List ℕ → Option Formula
  part_gives row ns = option_and_then (λ (r : Row). r ns) row

  -- both rows are there, and read their terms by their trees; or neither is
  abbrev ReadsBoth : List Parameter → Option Row → Option Row → Type 0
  ReadsBoth p None None = Unit {0}
  ReadsBoth p (Some r) (Some q) = Reads l tree other (name_terms l p) r q
  ReadsBoth p _ _ = ⊥

  parts_at : (ps : List (List Parameter)) (rs qs : List Row) (n : ℕ) → ReadParts ps rs qs → ReadsBoth (or_none (slice_get ps n)) (slice_get rs n) (slice_get qs n)
  parts_at [] [] [] n h = tt
  parts_at [] [] (q ∷ qs) n h = absurd h
  parts_at [] (r ∷ rs) qs n h = absurd h
  parts_at (p ∷ ps) [] qs n h = absurd h
  parts_at (p ∷ ps) (r ∷ rs) [] n h = absurd h
  parts_at (p ∷ ps) (r ∷ rs) (q ∷ qs) zero h = h.0
  parts_at (p ∷ ps) (r ∷ rs) (q ∷ qs) (suc n) h = parts_at ps rs qs n h.1

  part_at : (ps : List (List Parameter)) (rs qs : List Row) (n : ℕ) → ReadParts ps rs qs → ReadsBoth (or_none (item_at ps n)) (item_at rs n) (item_at qs n)
  part_at ps rs qs zero h = tt
  part_at ps rs qs (suc n) h = parts_at ps rs qs n h

  -- the same of the parts of an axiom that may be there
  abbrev ReadsAll : Option (List (List Parameter)) → Option (List Row) → Option (List Row) → ℕ → Type 0
  ReadsAll ps rs qs part =
      ReadsBoth (or_none (option_and_then (λ parts. item_at parts part) ps)) (option_and_then (λ rows. item_at rows part) rs) (option_and_then (λ rows. item_at rows part) qs)

  axioms_at : (ps : List (List (List Parameter))) (rs qs : List (List Row)) (n part : ℕ) → ReadAxioms ps rs qs → ReadsAll (slice_get ps n) (slice_get rs n) (slice_get qs n) part
  axioms_at [] [] [] n part h = tt
  axioms_at [] [] (q ∷ qs) n part h = absurd h
  axioms_at [] (r ∷ rs) qs n part h = absurd h
  axioms_at (p ∷ ps) [] qs n part h = absurd h
  axioms_at (p ∷ ps) (r ∷ rs) [] n part h = absurd h
  axioms_at (p ∷ ps) (r ∷ rs) (q ∷ qs) zero part h = part_at p r q part h.0
  axioms_at (p ∷ ps) (r ∷ rs) (q ∷ qs) (suc n) part h = axioms_at ps rs qs n part h.1

  axiom_at : (ps : List (List (List Parameter))) (rs qs : List (List Row)) (n part : ℕ) → ReadAxioms ps rs qs → ReadsAll (item_at ps n) (item_at rs n) (item_at qs n) part
  axiom_at ps rs qs zero part h = tt
  axiom_at ps rs qs (suc n) part h = axioms_at ps rs qs n part h

  both_same : (p : List Parameter) (r q : Option Row) (ns ms : List ℕ) (f : Formula) → ReadsBoth p r q → NameSameTrees tree other (name_terms l p ns) ns ms → part_gives r ns ≡ Some f → part_gives q ms ≡ Some f
  both_same p None None ns ms f h same e = absurd (cc)
  both_same p None (Some q) ns ms f h same e = absurd h
  both_same p (Some r) None ns ms f h same e = absurd h
  both_same p (Some r) (Some q) ns ms f h same e = h.same ns ms f same e

  both_sorted : (p : List Parameter) (r q : Option Row) (ns : List ℕ) (f : Formula) → ReadsBoth p r q → part_gives r ns ≡ Some f → IsSorted l f → NameSorted l tree (name_terms l p ns) ns
  both_sorted p None None ns f h e s = absurd (cc)
  both_sorted p None (Some q) ns f h e s = absurd h
  both_sorted p (Some r) None ns f h e s = absurd h
  both_sorted p (Some r) (Some q) ns f h e s = h.sorted ns f e s

  -- an instance is what a part's row gives
  row_gives : (rs : Option (List Row)) (part : ℕ) (ns : List ℕ) → option_and_then (λ rows. option_and_then (λ (row : Row). row ns) (item_at rows part)) rs ≡ part_gives (option_and_then (λ rows. item_at rows part) rs) ns
  row_gives None part ns = refl
  row_gives (Some rows) part ns = refl

pub instance_by_trees : InstanceByTrees
instance_by_trees l tree other n part ns ms f same h =
    let reads = axiom_at l tree other parameters (axioms l tree) (axioms l other) n part (all_read l tree other) in
    row_gives l tree other (item_at (axioms l other) n) part ms
    ∙ both_same l tree other (parameters_of n part) (option_and_then (λ rows. item_at rows part) (item_at (axioms l tree) n)) (option_and_then (λ rows. item_at rows part) (item_at (axioms l other) n)) ns ms f reads same
    (sym (row_gives l tree other (item_at (axioms l tree) n) part ns) ∙ h)

pub arguments_have_sorts : ArgumentsHaveSorts
arguments_have_sorts l tree n part ns f h s =
    let reads = axiom_at l tree tree parameters (axioms l tree) (axioms l tree) n part (all_read l tree tree) in
    both_sorted l tree tree (parameters_of n part) (option_and_then (λ rows. item_at rows part) (item_at (axioms l tree) n)) (option_and_then (λ rows. item_at rows part) (item_at (axioms l tree) n)) ns f reads
    (sym (row_gives l tree tree (item_at (axioms l tree) n) part ns) ∙ h) s
