use Rattle.std.proofs.Common.{◌∙◌}
use Rattle.condition_code.proofs.States.{same_values}
use Rattle.condition_branches.proofs.Guarding.{no_deferred, no_claims}
use Rattle.condition_branches.proofs.states.without_deferred.Goals as goal

pub returns : goal.returns
returns c = λ ts s hs. record {
  heap_is = hs.heap_is;
  locals_are = same_values (c.in_ok-locals.ensures ∙ c.deref.ensures.value) hs.locals_are;
  integers_is = hs.integers_is;
  references_is = hs.references_is;
  heaps_is = hs.heaps_is;
  changed_are = no_deferred c.new.ensures.items;
  made_are = no_claims c.new-2.ensures.items;
}
