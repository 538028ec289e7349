use Rattle.std.proofs.Common.{◌∙◌}
use Rattle.condition_code.proofs.States.{same_values}
use Rattle.condition_branches.proofs.Guarding.{no_deferred, no_claims}
use Rattle.condition_branches.proofs.states.with_counters.Goals as goal

pub returns : goal.returns
returns c = λ ts s l hs hl. record {
  heap_is = hs.heap_is;
  locals_are = same_values (c.in_ok-locals.ensures ∙ c.deref.ensures.value) hs.locals_are;
  integers_is = hl.integers_is;
  references_is = hl.references_is;
  heaps_is = hl.heaps_is;
  changed_are = no_deferred c.new.ensures.items;
  made_are = no_claims c.new-2.ensures.items;
}
