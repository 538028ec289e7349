-- Formulas made of the last ones of a row.
use Rattle.std.specs.Prelude.{◌≡◌, ℕ, zero, suc, ◌-◌, ℤ, List, [], ◌∷◌, ◌++◌, take, drop, length}
use Rattle.std.proofs.Common.{refl, ap, ◌∙◌, subst, arith}
use Rattle.std.proofs.Math.Seq.{take-length}
use Rattle.terms.specs.declared.term.Kind.{Kind}
use Rattle.terms.specs.declared.term.Term.{Term}
use Rattle.terms.specs.Formula.{Formula, Formulas, Node, With}
use Rattle.axiom_instances.specs.Terms as t
use Rattle.axiom_instances.specs.Terms.{trees}
use Rattle.conditions.specs.Formulas as c
use Rattle.condition_formulas.specs.Standing.{StandsAs, StandAll, Each, Later}
use Rattle.condition_formulas.proofs.Rows.{both, then_one, all_later, as_long, same_ids}
use Rattle.axiom_steps.specs.Steps.{below, top}

row_trees : (fs : List Formula) → c.row fs ≡ trees fs
row_trees [] = refl
row_trees (f ∷ fs) = ap (λ gs. With f gs) (row_trees fs)

pub same_all_of : (fs : List Formula) → c.all_of fs ≡ t.all_of fs
same_all_of [] = refl
same_all_of (f ∷ []) = refl
same_all_of (f ∷ g ∷ fs) = ap (λ h. t.both f h) (same_all_of (g ∷ fs))

each_drop : (ts : List Term) (n : ℕ) (ids : List ℕ) (fs : List Formula) → Each ts ids fs → Each ts (drop n ids) (drop n fs)
each_drop ts zero ids fs each = each
each_drop ts (suc n) [] [] each = each
each_drop ts (suc n) [] (f ∷ fs) each = absurd each
each_drop ts (suc n) (id ∷ ids) [] each = absurd each
each_drop ts (suc n) (id ∷ ids) (f ∷ fs) each = each_drop ts n ids fs each.1

each_take : (ts : List Term) (n : ℕ) (ids : List ℕ) (fs : List Formula) → Each ts ids fs → Each ts (take n ids) (take n fs)
each_take ts zero ids fs each = tt
each_take ts (suc n) [] [] each = each
each_take ts (suc n) [] (f ∷ fs) each = absurd each
each_take ts (suc n) (id ∷ ids) [] each = absurd each
each_take ts (suc n) (id ∷ ids) (f ∷ fs) each = (each.0, each_take ts n ids fs each.1)

pub all_drop : {ts : List Term} {ids : List ℕ} {fs : List Formula} (n : ℕ) → StandAll ts ids fs → StandAll ts (drop n ids) (drop n fs)
all_drop {ts} {ids} {fs} n all = record { each = each_drop ts n ids fs all.each }

pub all_take : {ts : List Term} {ids : List ℕ} {fs : List Formula} (n : ℕ) → StandAll ts ids fs → StandAll ts (take n ids) (take n fs)
all_take {ts} {ids} {fs} n all = record { each = each_take ts n ids fs all.each }

-- a formula in place of the last so many
pub replaced : {old new : List Term} {ids made : List ℕ} {fs : List Formula} {f : Formula} {id at : ℕ} (count : ℕ) → StandAll old ids fs → at ≡ length ids - count → Later old new → StandsAs new id f → made ≡ take at ids ++ id ∷ [] → StandAll new made (below count fs ++ f ∷ [])
replaced {old} {new} {ids} {made} {fs} {f} {id} {at} count all place later one is =
    let there : at ≡ length fs - count = place ∙ ap (λ (n : ℕ). n - count) (as_long all) in
    let front = all_later later (all_take at all) in
    same_ids is (subst (λ (n : ℕ). StandAll new (take at ids ++ id ∷ []) (take n fs ++ f ∷ [])) there (then_one front one))

pub built : {old new : List Term} {ids behind args made : List ℕ} {fs ks : List Formula} {kind : Kind} {index : ℤ} {id at : ℕ} (count : ℕ) → StandAll old ids fs → StandAll old behind ks → at ≡ length ids - count → args ≡ drop at ids ++ behind → Later old new → ((gs : List Formula) → StandAll old args gs → StandsAs new id (Node kind index (c.row gs))) → made ≡ take at ids ++ id ∷ [] → StandAll new made (below count fs ++ Node kind index (trees (top count fs ++ ks)) ∷ [])
built {old} {new} {ids} {behind} {args} {made} {fs} {ks} {kind} {index} {id} {at} count all last place are later node is =
    let there : at ≡ length fs - count = place ∙ ap (λ (n : ℕ). n - count) (as_long all) in
    let given = same_ids are (both (all_drop at all) last) in
    let one : StandsAs new id (Node kind index (trees (top count fs ++ ks))) =
    subst (λ (gs : Formulas). StandsAs new id (Node kind index gs)) (row_trees (top count fs ++ ks)) (node (top count fs ++ ks) (subst (λ (n : ℕ). StandAll old args (drop n fs ++ ks)) there given)) in
    replaced count all place later one is

-- a slice from a place to the end
pub whole_rest : (xs : List ℕ) (n : ℕ) → take (length xs - n) (drop n xs) ≡ drop n xs
whole_rest xs zero =
    let all : length xs - 0 ≡ length xs = omega arith in
    ap (λ (k : ℕ). take k xs) all ∙ take-length xs
whole_rest [] (suc n) =
    let no_more : 0 - suc n ≡ 0 = omega arith in
    ap (λ (k : ℕ). take k []) no_more
whole_rest (x ∷ xs) (suc n) =
    let less : suc (length xs) - suc n ≡ length xs - n = omega arith in
    ap (λ (k : ℕ). take k (drop n xs)) less ∙ whole_rest xs n
