-- How the objects that a claim is to claim are worked out one after the other.
use Rattle.std.proofs.Common.{◌≡◌, ℕ, ◌+◌, ◌<◌, ◌≤◌, List, [], ◌∷◌, ◌++◌, length, get_or, drop, refl, sym, ap, ◌∙◌, add-one, drop-cons, append-nil}
use Rattle.std.proofs.lemmas.List.{drop_all}
use Rattle.object_types.specs.declared.references.Ref.{Ref}
use Rattle.object_types.specs.Values.{referent}
use Rattle.method.specs.declared.program.Claimed.{Claimed}
use Rattle.method.specs.declared.program.Claimed.TheVariants.{ClaimedVariable, ClaimedNull, ClaimedOther}
use Rattle.method.specs.declared.program.Program.{Program}
use Rattle.method.specs.Expressions.{Outcome, Gives, after, Spot, checks}
use Rattle.method.specs.Actions as m
use Rattle.machine_values.specs.declared.stop.Stop.{Stop}
use Rattle.machine_values.specs.Answers.{Stops}
use Rattle.machine_values.proofs.Outcomes.{stops_after, after_assoc, joined, joined_more}
use Rattle.machine_claims.specs.Claiming.{run_one}

module _ (p : Program) (at_ : Spot) (g : m.Progress) where
  -- the rest of the objects, behind one
  abbrev behind : List Claimed → ℕ → Ref → Outcome (List Ref)
  behind cs n o = after (m.run_claimed p at_ cs n g) (λ os. Gives (o ∷ os))

  one_more : (x : Claimed) (cs : List Claimed) (n : ℕ) → (k : ℕ) × (m.run_claimed p at_ (x ∷ cs) n g ≡ after (run_one p at_ x n g) (behind cs k))
  one_more (ClaimedVariable i) cs n = (n, refl)
  one_more ClaimedNull cs n = (n, refl)
  one_more (ClaimedOther e ty) cs n = (n + checks e, sym (after_assoc (m.run_expr p at_ e n g) (λ v. Gives (referent v)) (behind cs (n + checks e))))

  module _ (cs : List Claimed) (n : ℕ) where
    -- what is left from place i on, with the objects so far, is the whole
    abbrev pub Far : List Ref → ℕ → Type 0
    Far os i = (k : ℕ) × (m.run_claimed p at_ cs n g ≡ joined os (m.run_claimed p at_ (drop i cs) k g))

    module _ (os : List Ref) (i : ℕ) (far : Far os i) where
      module _ (x : Claimed) (lt : i < length cs) (item : x ≡ get_or cs i x) where
        next : (k : ℕ) × (m.run_claimed p at_ (x ∷ drop (i + 1) cs) far.0 g ≡ after (run_one p at_ x far.0 g) (behind (drop (i + 1) cs) k))
        next = one_more x (drop (i + 1) cs) far.0

        here : m.run_claimed p at_ cs n g ≡ joined os (after (run_one p at_ x far.0 g) (behind (drop (i + 1) cs) next.0))
        here = far.1 ∙ ap (λ xs. joined os (m.run_claimed p at_ xs far.0 g)) (drop-cons cs i x lt ∙ λ j. sym item j ∷ drop (sym (add-one i) j) cs) ∙ ap (joined os) next.1

        pub all_next : (o : Ref) (more : List Ref) → ((k : ℕ) → run_one p at_ x k g ≡ Gives o) → more ≡ os ++ o ∷ [] → Far more (i + 1)
        all_next o more gives is = (
          next.0,
          here ∙ ap (λ w. joined os (after w (behind (drop (i + 1) cs) next.0))) (gives far.0)
              ∙ joined_more os o (m.run_claimed p at_ (drop (i + 1) cs) next.0 g)
              ∙ ap (λ us. joined us (m.run_claimed p at_ (drop (i + 1) cs) next.0 g)) (sym is),
        )

        pub all_stops : (s : Stop) → ((k : ℕ) → Stops s (run_one p at_ x k g)) → Stops s (m.run_claimed p at_ cs n g)
        all_stops s stops = rw here (stops_after s _ _ (stops_after s (run_one p at_ x far.0 g) _ (stops far.0)))

      pub all_end : length cs ≤ i → m.run_claimed p at_ cs n g ≡ Gives os
      all_end ge = far.1 ∙ ap (λ xs. joined os (m.run_claimed p at_ xs far.0 g)) (drop_all i cs ge) ∙ ap Gives (append-nil os)
