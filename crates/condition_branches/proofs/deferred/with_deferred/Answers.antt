use Rattle.condition_branches.proofs.deferred.with_deferred.Goals as goal

pub returns : goal.returns
returns c = λ ts s x b j hs hb hf hx hj. record {
  heap_is = hj.state_is.heap_is;
  locals_are = hj.locals_are;
  integers_is = hj.state_is.integers_is;
  references_is = hj.state_is.references_is;
  heaps_is = hj.state_is.heaps_is;
  changed_are = c.in_ok-changed.ensures ts b s.changed x.changed j.state.changed hb hf hs.changed_are hx.changed_are hj.state_is.changed_are;
  made_are = c.in_ok-made.ensures ts b s.made x.made j.state.made hb hf hs.made_are hx.made_are hj.state_is.made_are;
}
