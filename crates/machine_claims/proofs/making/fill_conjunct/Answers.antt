use Rattle.std.proofs.Common.{◌∙◌, ap, map}
use Rattle.method.specs.SpecValue.{filling}
use Rattle.method.specs.Expressions.{scene}
use Rattle.machine_values.specs.Spots.{spot_at}
use Rattle.machine_claims.proofs.making.fill_conjunct.Goals as goal

pub returns : goal.returns
returns c x h =
    let a = c.args in
    let f = filling (scene (spot_at x a.at.now).context h a.locals.now) in
    let values = c.in_ok-from_slice.ensures ∙ c.deref-2.ensures.value ∙ c.in_ok-values.ensures x h ∙ ap (map f) c.deref.ensures.value in
    λ i. record { shape = a.conjunct.now.shape; values = values i }
