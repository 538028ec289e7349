-- The step of a job, from what the code adds.
use Rattle.std.proofs.Common.{◌≡◌, List, [], ◌∷◌, Option, ℤ, ◌*ℤ◌, sym, subst, Result}
use Rattle.std.specs.Int.{w128, int_wrap}
use Rattle.int_ranges.specs.declared.exact.Wide.{Wide}
use Rattle.terms.specs.declared.term.Term.{Term}
use Rattle.terms.specs.declared.sort.Sort.{Sort}
use Rattle.rule_linear.specs.declared.form.Part.{Part}
use Rattle.rule_linear.specs.declared.bound.Bound.{Bound}
use Rattle.rule_linear.specs.declared.steps.Job.{Job}
use Rattle.rule_linear.specs.declared.steps.Job.TheVariants.{Add}
use Rattle.rule_linear.specs.Forms.{plus}
use Rattle.rule_linear.specs.Bounds.{Weighted, bound_number, total, Meets}
use Rattle.rule_linear.specs.Walks.{step_of, IsExact}
use Rattle.rule_linear.proofs.InOrder.{plus_meets}
use Rattle.rule_linear.proofs.Wraps.{wrap_product}
use Rattle.std.proofs.Common.{◌∙◌}

pub add_meets : {X : Type 0} (sorts : List (Option Sort)) (terms : List Term) (zs : List Weighted) (job : Job) (m : ℤ) (b : Bound) (p : Part) (sum number product : ℤ) (r : Result X Wide) → job ≡ Add m b →
    sum ≡ int_wrap w128 (total sorts terms zs p) → number ≡ int_wrap w128 (bound_number terms b p) → product ≡ int_wrap w128 (m *ℤ number) →
    IsExact (step_of sorts terms zs job p) → Meets (plus sum product ∷ []) r → Meets (step_of sorts terms zs job p ∷ []) r
add_meets sorts terms zs job m b p sum number product r e f g h x y =
    let z : IsExact (step_of sorts terms zs (Add m b) p) = subst (λ (j : Job). IsExact (step_of sorts terms zs j p)) e x in
    subst (λ (j : Job). Meets (step_of sorts terms zs j p ∷ []) r) (sym e)
    (plus_meets sum product (total sorts terms zs p) (m *ℤ bound_number terms b p) r f (h ∙ wrap_product m number (bound_number terms b p) g) z.left z.right y)
