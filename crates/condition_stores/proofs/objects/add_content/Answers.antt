use Rattle.condition_code.proofs.Codes.{then_value}
use Rattle.condition_code.proofs.States.{same_values}
use Rattle.condition_code.proofs.Walks.{gives, run_then}
use Rattle.condition_formulas.proofs.Symbolics.{are_later}
use Rattle.condition_stores.proofs.objects.add_content.Goals as goal

pub returns : goal.returns
returns c = λ w hw.
    let made = rw c.type_of_field.ensures at (c.in_ok-v.ensures _ hw.state_is) in
    run_then made (gives (λ n f h. h) (record {
      values_are = same_values c.in_ok-push.ensures.items (then_value (are_later made.goes.later hw.values_are) made.gives.value_is);
      state_is = made.gives.state_is;
    }))
