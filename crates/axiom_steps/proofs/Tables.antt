-- A table of steps is the axioms' where each of its rows is one.
use Rattle.std.specs.Prelude.{◌≡◌, ℕ, ℤ, zero, suc, List, map, option_map, [], ◌∷◌, Option, Some, None, slice_get, option_and_then}
use Rattle.std.proofs.Common.{refl, sym, ap, ◌∙◌, subst, Bor}
use Rattle.terms.specs.Formula.{Formula}
use Rattle.term_meaning.specs.Meaning.{Language}
use Rattle.axiom_instances.specs.Fitting.{Row, needs}
use Rattle.axiom_instances.specs.Axioms.{axioms, item_at}
use Rattle.axiom_steps.specs.declared.steps.Step.{Step}
use Rattle.axiom_steps.specs.Steps.{run, start, natural, IsRow}
use Rattle.axiom_steps.specs.Rows.{or_none, steps_at, IsPart}

module _ (l : Language) (tree : ℕ → Option Formula) where
  -- each part's steps are its row
  abbrev pub AreParts : List (List Step) → List Row → Type 0
  AreParts [] [] = Unit {0}
  AreParts [] (r ∷ rs) = ⊥
  AreParts (s ∷ ss) [] = ⊥
  AreParts (s ∷ ss) (r ∷ rs) = ((ns : List ℕ) → run l tree s start ns ≡ r ns) × AreParts ss rs

  abbrev pub AreAxioms : List (List (List Step)) → List (List Row) → Type 0
  AreAxioms [] [] = Unit {0}
  AreAxioms [] (r ∷ rs) = ⊥
  AreAxioms (s ∷ ss) [] = ⊥
  AreAxioms (s ∷ ss) (r ∷ rs) = AreParts s r × AreAxioms ss rs

  -- what a row of a table gives, if there is one
  abbrev pub part_gives : Option Row → List ℕ → Option Formula
  part_gives row ns = option_and_then (λ (r : Row). r ns) row

  none_runs : (ns : List ℕ) → run l tree [] start ns ≡ None
  unfolding needs
  none_runs ns = refl

  parts_at : (ss : List (List Step)) (rs : List Row) → AreParts ss rs → (n : ℕ) (ns : List ℕ) → run l tree (or_none (slice_get ss n)) start ns ≡ part_gives (slice_get rs n) ns
  parts_at [] [] are n ns = none_runs ns
  parts_at [] (r ∷ rs) are n ns = absurd are
  parts_at (s ∷ ss) [] are n ns = absurd are
  parts_at (s ∷ ss) (r ∷ rs) are zero ns = are.0 ns
  parts_at (s ∷ ss) (r ∷ rs) are (suc n) ns = parts_at ss rs are.1 n ns

  part_at : (ss : List (List Step)) (rs : List Row) → AreParts ss rs → (n : ℕ) (ns : List ℕ) → run l tree (or_none (item_at ss n)) start ns ≡ part_gives (item_at rs n) ns
  part_at ss rs are zero ns = none_runs ns
  part_at ss rs are (suc n) ns = parts_at ss rs are n ns

  axioms_at : (ss : List (List (List Step))) (rs : List (List Row)) → AreAxioms ss rs → (n part : ℕ) (ns : List ℕ) → run l tree (or_none (option_and_then (λ parts. item_at parts part) (slice_get ss n))) start ns ≡ option_and_then (λ rows. part_gives (item_at rows part) ns) (slice_get rs n)
  axioms_at [] [] are n part ns = none_runs ns
  axioms_at [] (r ∷ rs) are n part ns = absurd are
  axioms_at (s ∷ ss) [] are n part ns = absurd are
  axioms_at (s ∷ ss) (r ∷ rs) are zero part ns = part_at s r are.0 part ns
  axioms_at (s ∷ ss) (r ∷ rs) are (suc n) part ns = axioms_at ss rs are.1 n part ns

  pub axiom_at : (ss : List (List (List Step))) (rs : List (List Row)) → AreAxioms ss rs → (n part : ℕ) (ns : List ℕ) → run l tree (steps_at ss n part) start ns ≡ option_and_then (λ rows. part_gives (item_at rows part) ns) (item_at rs n)
  axiom_at ss rs are zero part ns = none_runs ns
  axiom_at ss rs are (suc n) part ns = axioms_at ss rs are n part ns

-- the steps are those of a table of the axioms
pub row_of : {ss : List (List (List Step))} {n part : ℤ} {steps : List Step} → IsPart ss n part steps → ((l : Language) (tree : ℕ → Option Formula) → AreAxioms l tree ss (axioms l tree)) → IsRow steps (natural n) (natural part)
row_of {ss} {n} {part} same are = subst (λ (qs : List Step). IsRow qs (natural n) (natural part)) (sym same.is) (record { same = λ l tree ns. axiom_at l tree ss (axioms l tree) (are l tree) (natural n) (natural part) ns })

-- Items of tables that are seen through references.

item_of : {X Y : Type 0} (f : X → Y) (xs : List X) (n : ℕ) → item_at (map f xs) n ≡ option_map f (item_at xs n)
item_of f xs zero = refl
item_of f xs (suc n) = get_of f xs n
  where
    get_of : {X Y : Type 0} (f : X → Y) (xs : List X) (n : ℕ) → slice_get (map f xs) n ≡ option_map f (slice_get xs n)
    get_of f [] n = refl
    get_of f (x ∷ xs) zero = refl
    get_of f (x ∷ xs) (suc n) = get_of f xs n

abbrev pub steps_in : Bor (List (Bor (List Step))) → List (List Step)
steps_in parts = map (λ (steps : Bor (List Step)). steps.now) parts.now

seen_at : (xs : List (Bor (List (Bor (List Step))))) (n part : ℕ) → steps_at (map steps_in xs) n part ≡ or_none (option_and_then (λ parts. item_at (steps_in parts) part) (item_at xs n))
seen_at xs n part = ap (λ found. or_none (option_and_then (λ parts. item_at parts part) found)) (item_of steps_in xs n) ∙ by_item (item_at xs n)
  where
    by_item : (found : Option (Bor (List (Bor (List Step))))) → or_none (option_and_then (λ parts. item_at parts part) (option_map steps_in found)) ≡ or_none (option_and_then (λ parts. item_at (steps_in parts) part) found)
    by_item None = refl
    by_item (Some parts) = refl

pub no_axiom : (xs : List (Bor (List (Bor (List Step))))) (n part : ℤ) → None ≡ item_at xs (natural n) → IsPart (map steps_in xs) n part []
no_axiom xs n part none = record { is = sym (seen_at xs (natural n) (natural part) ∙ ap (λ found. or_none (option_and_then (λ parts. item_at (steps_in parts) (natural part)) found)) (sym none)) }

part_in : (ps : Bor (List (Bor (List Step)))) (part : ℕ) → or_none (item_at (steps_in ps) part) ≡ or_none (option_map (λ (steps : Bor (List Step)). steps.now) (item_at ps.now part))
part_in ps part = ap or_none (item_of (λ (steps : Bor (List Step)). steps.now) ps.now part)

pub no_part : (xs : List (Bor (List (Bor (List Step))))) (n part : ℤ) (ps : Bor (List (Bor (List Step)))) → Some ps ≡ item_at xs (natural n) → None ≡ item_at ps.now (natural part) → IsPart (map steps_in xs) n part []
no_part xs n part ps some none = record { is = sym (seen_at xs (natural n) (natural part) ∙ ap (λ found. or_none (option_and_then (λ parts. item_at (steps_in parts) (natural part)) found)) (sym some) ∙ part_in ps (natural part) ∙ ap (λ found. or_none (option_map (λ (steps : Bor (List Step)). steps.now) found)) (sym none)) }

pub the_part : (xs : List (Bor (List (Bor (List Step))))) (n part : ℤ) (ps : Bor (List (Bor (List Step)))) (steps : Bor (List Step)) → Some ps ≡ item_at xs (natural n) → Some steps ≡ item_at ps.now (natural part) → IsPart (map steps_in xs) n part steps.now
the_part xs n part ps steps some here = record { is = sym (seen_at xs (natural n) (natural part) ∙ ap (λ found. or_none (option_and_then (λ parts. item_at (steps_in parts) (natural part)) found)) (sym some) ∙ part_in ps (natural part) ∙ ap (λ found. or_none (option_map (λ (steps : Bor (List Step)). steps.now) found)) (sym here)) }
