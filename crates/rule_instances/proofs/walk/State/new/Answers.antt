use Rattle.std.proofs.Common.{refl, lit<}
use Rattle.condition_formulas.proofs.Rows.{none, same_ids}
use Rattle.rule_instances.proofs.walk.State.new.Goals as goal

pub returns : goal.returns
returns c = λ ts. record {
  terms = same_ids c.new.ensures.items none;
  writes = same_ids c.new-2.ensures.items none;
  keys = same_ids c.new-3.ensures.items none;
  ty = refl;
  number = refl;
  place = refl;
  declared = refl;
  body = refl;
  small_type = lit< tt;
  small_number = lit< tt;
}
