use Rattle.std.specs.Prelude.{◌≡◌, nat_eq}
use Rattle.conditions.specs.Symbolic as spec
use Rattle.conditions.specs.Symbolic.{same_symbolic}
use Rattle.condition_formulas.proofs.Symbolics.{by_truth, by_number, by_reference}
use Rattle.condition_formulas.proofs.Nodes.{same_nodes}
use Rattle.condition_formulas.proofs.symbolic.same_symbolic.Goals as goal

pub returns-in-Truth-Truth : goal.returns-in-Truth-Truth
returns-in-Truth-Truth c = λ v w first second.
    by_truth (λ u. nat_eq c.in-Truth-Truth.x c.in-Truth-Truth.y ≡ same_symbolic u w) c.in-Truth-Truth.is-0
    (λ f h. by_truth (λ u. nat_eq c.in-Truth-Truth.x c.in-Truth-Truth.y ≡ same_symbolic (spec.Truth f) u) c.in-Truth-Truth.is-1
    (λ g k. same_nodes c.known.ensures h k) w second) v first

pub returns-in-Number-Number : goal.returns-in-Number-Number
returns-in-Number-Number c = λ v w first second.
    by_number (λ u. nat_eq c.in-Number-Number.x c.in-Number-Number.y ≡ same_symbolic u w) c.in-Number-Number.is-0
    (λ f h. by_number (λ u. nat_eq c.in-Number-Number.x c.in-Number-Number.y ≡ same_symbolic (spec.Number f) u) c.in-Number-Number.is-1
    (λ g k. same_nodes c.known.ensures h k) w second) v first

pub returns-in-Reference-Reference : goal.returns-in-Reference-Reference
returns-in-Reference-Reference c = λ v w first second.
    by_reference (λ u. nat_eq c.in-Reference-Reference.x c.in-Reference-Reference.y ≡ same_symbolic u w) c.in-Reference-Reference.is-0
    (λ f h. by_reference (λ u. nat_eq c.in-Reference-Reference.x c.in-Reference-Reference.y ≡ same_symbolic (spec.Reference f) u) c.in-Reference-Reference.is-1
    (λ g k. same_nodes c.known.ensures h k) w second) v first
