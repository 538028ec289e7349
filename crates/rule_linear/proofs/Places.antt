-- Literal by literal.
use Rattle.std.proofs.Common.{◌≡◌, ℕ, ◌+◌, ◌<◌, ◌≤◌, List, [], ◌++◌, take, drop, length, get_or, false, ℤ, pos, ◌+ℤ◌, ◌*ℤ◌, FitsSigned, Option, Some, None, ap, sym, ◌∙◌, subst, arith}
use Rattle.std.specs.Int.{w128}
use Rattle.std.proofs.lemmas.Int.{ints}
use Rattle.std.proofs.lemmas.List.{take_all, drop_all}
use Rattle.int_ranges.specs.declared.exact.Wide.{Wide}
use Rattle.terms.specs.declared.term.Term.{Term}
use Rattle.terms.specs.declared.term.Literal.{Literal}
use Rattle.rule_linear.specs.declared.form.Part.{Part}
use Rattle.rule_linear.specs.declared.bound.Bound.{Bound}
use Rattle.rule_linear.specs.declared.bound.Weights.{Weights}
use Rattle.rule_linear.specs.Forms.{Step, AllFit, FirstLeaves}
use Rattle.rule_linear.specs.Bounds.{bound_at, literal_number, Weighted, total, added_steps, total_steps}
use Rattle.rule_linear.specs.Sides.{weighted, first_total}
use Rattle.rule_linear.specs.Walks.{IsTotalKnown, more_steps, IsMoreKnown, all_steps, IsAllKnown, literal_steps, IsNextKnown}
use Rattle.rule_linear.proofs.InOrder.{fit_both, leaves_first, leaves_second}
use Rattle.rule_linear.proofs.Totals.{total_more}
use Rattle.rule_linear.proofs.Adding.{steps_from, zip_length}

nowhere : Literal
nowhere = record { term = 0; positive = false }

module _ (w : Weights) (terms : List Term) (i : ℕ) where
  here : Option Bound
  here = bound_at w.sorts.now terms (get_or w.literals.now i (record { term = 0; positive = false }))

  more : i + 1 ≤ length w.multipliers.now → i + 1 ≤ length w.literals.now → (p : Part) →
      first_total w terms (i + 1) p ≡ first_total w terms i p +ℤ get_or w.multipliers.now i (pos 0) *ℤ literal_number terms (bound_at w.sorts.now terms (get_or w.literals.now i (record { term = 0; positive = false }))) p
  more h k p = total_more w.sorts.now terms w.multipliers.now w.literals.now i (record { term = 0; positive = false }) p (omega (arith, h)) (omega (arith, k))

  pub next_some : (b : Bound) → i + 1 ≤ length w.multipliers.now → i + 1 ≤ length w.literals.now → Some b ≡ bound_at w.sorts.now terms (get_or w.literals.now i (record { term = 0; positive = false })) → IsMoreKnown w terms i (get_or w.multipliers.now i (pos 0)) b → IsNextKnown w terms i
  next_some b h k e m = record {
    fit = subst (λ (o : Option Bound). AllFit (added_steps w.sorts.now terms (take i (weighted w)) (get_or w.multipliers.now i (pos 0)) o)) e m.fit;
    known = λ p. subst (λ (x : ℤ). FitsSigned w128 x) (sym (more h k p ∙ ap (λ (o : Option Bound). first_total w terms i p +ℤ get_or w.multipliers.now i (pos 0) *ℤ literal_number terms o p) (sym e))) (m.known p);
  }

  pub next_none : i + 1 ≤ length w.multipliers.now → i + 1 ≤ length w.literals.now → None ≡ bound_at w.sorts.now terms (get_or w.literals.now i (record { term = 0; positive = false })) → IsTotalKnown w terms i → IsNextKnown w terms i
  next_none h k e t = record {
    fit = subst (λ (o : Option Bound). AllFit (added_steps w.sorts.now terms (take i (weighted w)) (get_or w.multipliers.now i (pos 0)) o)) e tt;
    known = λ p. subst (λ (x : ℤ). FitsSigned w128 x) (sym (more h k p ∙ ap (λ (o : Option Bound). first_total w terms i p +ℤ get_or w.multipliers.now i (pos 0) *ℤ literal_number terms o p) (sym e) ∙ plus_none (first_total w terms i p) (get_or w.multipliers.now i (pos 0)))) (t p);
  }
    where
      plus_none : (x m : ℤ) → x +ℤ m *ℤ pos 0 ≡ x
      plus_none x m = omega (arith, ints)

  pub leaves_some : (b : Bound) (x : Wide) → Some b ≡ bound_at w.sorts.now terms (get_or w.literals.now i (record { term = 0; positive = false })) → FirstLeaves (more_steps w terms i (get_or w.multipliers.now i (pos 0)) b) x → FirstLeaves (literal_steps w terms i) x
  leaves_some b x e h = subst (λ (o : Option Bound). FirstLeaves (added_steps w.sorts.now terms (take i (weighted w)) (get_or w.multipliers.now i (pos 0)) o) x) e h

  -- the steps from here on
  from : i < length w.multipliers.now → i < length w.literals.now → total_steps w.sorts.now terms (take i (weighted w)) (drop i (weighted w)) ≡ literal_steps w terms i ++ total_steps w.sorts.now terms (take (i + 1) (weighted w)) (drop (i + 1) (weighted w))
  from h k = steps_from w.sorts.now terms w.multipliers.now w.literals.now i (record { term = 0; positive = false }) h k

-- what is known where the literals before the place were added: the first that leaves from there on is the first of all, and if all fit from there on, all do
pub record Reached (w : Weights) (terms : List Term) (i : ℕ) : Type 0 where
  pub known : (p : Part) → FitsSigned w128 (first_total w terms i p)
  pub leaves : (x : Wide) → FirstLeaves (total_steps w.sorts.now terms (take i (weighted w)) (drop i (weighted w))) x → FirstLeaves (all_steps w terms) x
  pub fit : AllFit (total_steps w.sorts.now terms (take i (weighted w)) (drop i (weighted w))) → AllFit (all_steps w terms)

pub start_known : (w : Weights) (terms : List Term) → Reached w terms 0
start_known w terms = record { known = λ p. zero_fits; leaves = λ x h. h; fit = λ h. h }
  where
    zero_fits : FitsSigned w128 (pos 0)
    zero_fits = omega (arith, ints)

pub next_leaves : (w : Weights) (terms : List Term) (i : ℕ) (x : Wide) → length w.multipliers.now ≡ length w.literals.now → i < length w.literals.now → Reached w terms i → FirstLeaves (literal_steps w terms i) x → FirstLeaves (all_steps w terms) x
next_leaves w terms i x e k r h =
    r.leaves x (subst (λ (ss : List Step). FirstLeaves ss x) (sym (from w terms i (omega (arith, e, k)) k)) (leaves_first (literal_steps w terms i) (total_steps w.sorts.now terms (take (i + 1) (weighted w)) (drop (i + 1) (weighted w))) x h))

pub next_known : (w : Weights) (terms : List Term) (i : ℕ) → length w.multipliers.now ≡ length w.literals.now → i < length w.literals.now → Reached w terms i → IsNextKnown w terms i → Reached w terms (i + 1)
next_known w terms i e k r n =
    let here = literal_steps w terms i in
    let rest = total_steps w.sorts.now terms (take (i + 1) (weighted w)) (drop (i + 1) (weighted w)) in
    let f = from w terms i (omega (arith, e, k)) k in
    record {
      known = n.known;
      leaves = λ x h. r.leaves x (subst (λ (ss : List Step). FirstLeaves ss x) (sym f) (leaves_second here rest x n.fit h));
      fit = λ h. r.fit (subst (λ (ss : List Step). AllFit ss) (sym f) (fit_both here rest n.fit h));
    }

pub none_known : (w : Weights) (terms : List Term) (i : ℕ) → Reached w terms i → IsTotalKnown w terms i
none_known w terms i r = r.known

pub all_known : (w : Weights) (terms : List Term) (i : ℕ) → length w.multipliers.now ≡ length w.literals.now → length w.literals.now ≤ i → Reached w terms i → IsAllKnown w terms
all_known w terms i e h r =
    let l = zip_length w.multipliers.now w.literals.now e in
    let d : drop i (weighted w) ≡ [] = drop_all i (weighted w) (omega (arith, l, h)) in
    let t : take i (weighted w) ≡ weighted w = take_all i (weighted w) (omega (arith, l, h)) in
    record {
      fit = r.fit (subst (λ (zs : List Weighted). AllFit (total_steps w.sorts.now terms (take i (weighted w)) zs)) (sym d) tt);
      known = λ p. subst (λ (zs : List Weighted). FitsSigned w128 (total w.sorts.now terms zs p)) t (r.known p);
    }
