use Rattle.condition_control.proofs.Steps.{begun, same_havoc}
use Rattle.condition_control.proofs.invariants.havoc_body.Goals as goal

pub returns : goal.returns
returns c = λ s hs.
    same_havoc c.args.f.now s (begun c.new-sets.ensures.items c.in_ok-add_all_sets.ensures c.deref.ensures.value) (begun c.new-declares.ensures.items c.in_ok-add_all_declares.ensures c.deref-2.ensures.value) (c.in_ok-changed.ensures s hs)
