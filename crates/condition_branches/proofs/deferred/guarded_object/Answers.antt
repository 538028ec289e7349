use Rattle.condition_formulas.proofs.Rows.{none, more, both, same_ids}
use Rattle.condition_branches.proofs.deferred.guarded_object.Goals as goal

pub returns : goal.returns
returns c = λ ts f d hf hd. record {
  guards_are = same_ids c.in_ok-guards.ensures (both (more hf none) (same_ids c.deref.ensures.value hd.guards_are));
  which_is = hd.which_is;
}
