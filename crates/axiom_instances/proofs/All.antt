-- Every row of every axiom is true.
use Rattle.std.proofs.Common.{◌≡◌, ℕ, zero, suc, List, [], ◌∷◌, Option, Some, None, slice_get, option_and_then, subst, refl}
use Rattle.terms.specs.Formula.{Formula}
use Rattle.term_meaning.specs.Meaning.{Env, IsEnv, Language, IsFaithful}
use Rattle.term_meaning.specs.Filling.{IsLayered}
use Rattle.axiom_instances.specs.Fitting.{Row}
use Rattle.axiom_instances.specs.Axioms.{axioms, instance, item_at}
use Rattle.axiom_instances.specs.Truth.{AxiomsAreTrue}
use Rattle.axiom_instances.proofs.Kit.{Holds, RowHolds}
use Rattle.axiom_instances.proofs.Quantified.{holds_1, holds_2}
use Rattle.axiom_instances.proofs.Heaps.{holds_3a, holds_3b, holds_3c, holds_3d, holds_5, holds_6a, holds_6b, holds_6c, holds_7a, holds_7b, holds_8, holds_9, holds_10, holds_11, holds_12, holds_28a, holds_28b}
use Rattle.axiom_instances.proofs.Clean.{holds_4a, holds_4b}
use Rattle.axiom_instances.proofs.Invariants.{holds_13, holds_14a, holds_14b, holds_15, holds_23a, holds_23b, holds_23c, holds_23d, holds_23e, holds_23f, holds_23g}
use Rattle.axiom_instances.proofs.Steps.{holds_16, holds_17, holds_18, holds_19, holds_20, holds_21a, holds_21b, holds_21c, holds_21d, holds_22a, holds_22b, holds_22c, holds_22d, holds_22e}
use Rattle.axiom_instances.proofs.Approval.{holds_25, holds_26, holds_27}
use Rattle.axiom_instances.proofs.Status.{holds_24a, holds_24b, holds_24c, holds_24d, holds_24e, holds_24f, holds_24g, holds_24h}
use Rattle.axiom_instances.proofs.Division.{holds_24i, holds_24j, holds_24k, holds_24l, holds_24m, holds_29a, holds_29b}

abbrev Each : {X : Type 0} → (X → Type 0) → List X → Type 0
Each P [] = Unit {0}
Each P (x ∷ xs) = P x × Each P xs

at_place : {X : Type 0} (P : X → Type 0) (xs : List X) (n : ℕ) (x : X) → Each P xs → slice_get xs n ≡ Some x → P x
at_place P [] n x a h = absurd (cc)
at_place {X} P (y ∷ xs) zero x a h = let same : y ≡ x = cc in subst P same a.0
at_place P (y ∷ xs) (suc n) x a h = at_place P xs n x a.1 h

numbered_place : {X : Type 0} (P : X → Type 0) (xs : List X) (n : ℕ) (x : X) → Each P xs → item_at xs n ≡ Some x → P x
numbered_place P xs zero x a h = absurd (cc)
numbered_place P xs (suc n) x a h = at_place P xs n x a h

module _ (l : Language) (e : Env) (env : IsEnv l.program e) (layered : IsLayered l) (faithful : IsFaithful l) (tree : ℕ → Option Formula) where
  all_hold : Each (Each (RowHolds l e)) (axioms l tree)
  all_hold = (
    (holds_1 env layered tree, tt),
    (
      (holds_2 env layered tree, tt),
      (
        (holds_3a env tree, (holds_3b env tree, (holds_3c env tree, (holds_3d env tree, tt)))),
        (
          (holds_4a l e env tree, (holds_4b l e env tree, tt)),
          (
            (holds_5 env tree, tt),
            (
              (holds_6a env tree, (holds_6b env tree, (holds_6c env tree, tt))),
              (
                (holds_7a env tree, (holds_7b env tree, tt)),
                (
                  (holds_8 env tree, tt),
                  (
                    (holds_9 env tree, tt),
                    (
                      (holds_10 env tree, tt),
                      (
                        (holds_11 env tree, tt),
                        (
                          (holds_12 env tree, tt),
                          (
                            (holds_13 env layered faithful tree, tt),
                            (
                              (holds_14a env layered faithful tree, (holds_14b env layered faithful tree, tt)),
                              (
                                (holds_15 env layered faithful tree, tt),
                                (
                                  (holds_16 env tree, tt),
                                  (
                                    (holds_17 env tree, tt),
                                    (
                                      (holds_18 env tree, tt),
                                      (
                                        (holds_19 env tree, tt),
                                        (
                                          (holds_20 env tree, tt),
                                          (
                                            (holds_21a env tree, (holds_21b env tree, (holds_21c env tree, (holds_21d env tree, tt)))),
                                            (
                                              (holds_22a env tree, (holds_22b env tree, (holds_22c env tree, (holds_22d env tree, (holds_22e env tree, tt))))),
                                              (
                                                (holds_23a env layered faithful tree, (holds_23b env layered faithful tree, (holds_23c env layered faithful tree, (holds_23d env layered faithful tree, (holds_23e env layered faithful tree, (holds_23f env layered faithful tree, (holds_23g env layered faithful tree, tt))))))),
                                                (
                                                  (holds_24a env tree, (holds_24b env tree, (holds_24c env tree, (holds_24d env tree, (holds_24e env tree, (holds_24f env tree, (holds_24g env tree, (holds_24h env tree, (holds_24i env tree, (holds_24j env tree, (holds_24k env tree, (holds_24l env tree, (holds_24m env tree, tt))))))))))))),
                                                  (
                                                    (holds_25 env tree, tt),
                                                    (
                                                      (holds_26 env tree, tt),
                                                      (
                                                        (holds_27 env layered faithful tree, tt),
                                                        (
                                                          (holds_28a env tree, (holds_28b env tree, tt)),
                                                          (
                                                            (holds_29a env tree, (holds_29b env tree, tt)),
                                                            tt,
                                                          ),
                                                        ),
                                                      ),
                                                    ),
                                                  ),
                                                ),
                                              ),
                                            ),
                                          ),
                                        ),
                                      ),
                                    ),
                                  ),
                                ),
                              ),
                            ),
                          ),
                        ),
                      ),
                    ),
                  ),
                ),
              ),
            ),
          ),
        ),
      ),
    ),
  )

  of_rows : (rows : Option (List Row)) (part : ℕ) (args : List ℕ) (f : Formula) → ((r : List Row) → rows ≡ Some r → Each (RowHolds l e) r) → option_and_then (λ rows. option_and_then (λ (row : Row). row args) (item_at rows part)) rows ≡ Some f → Holds l e f
  of_rows None part args f each h = absurd (cc)
  of_rows (Some rows) part args f each h = of_row (item_at rows part) refl h
    where
      of_row : (row : Option Row) → item_at rows part ≡ row → option_and_then (λ (row : Row). row args) row ≡ Some f → Holds l e f
      of_row None is h = absurd (cc)
      of_row (Some row) is h = (numbered_place (RowHolds l e) rows part row (each rows refl) is).each args f h

  instance_holds : (number part : ℕ) (args : List ℕ) (f : Formula) → instance l tree number part args ≡ Some f → Holds l e f
  instance_holds number part args f h = of_rows (item_at (axioms l tree) number) part args f (λ rows is. numbered_place (Each (RowHolds l e)) (axioms l tree) number rows all_hold is) h

pub axioms_are_true : AxiomsAreTrue
axioms_are_true l layered faithful tree number part args f h e x env g = (instance_holds l e env layered faithful tree number part args f h).always x g
