use Rattle.condition_stores.proofs.Places.{other_value}
use Rattle.condition_stores.proofs.stores.put_local.Goals as goal

pub returns : goal.returns
returns c = λ ts w h. other_value c.args.i h.state_is h.value_is c.put_value.ensures
