use Rattle.std.proofs.Common.{[], ◌∷◌, ◌++◌, ap, sym, subst, ◌∙◌}
use Rattle.machine_turns.specs.declared.turn.Frames.TheVariants.{Returns}
use Rattle.ref_machine.specs.Settling.{Settled}
use Rattle.ref_machine.proofs.Settling.{settled_call, settled_return}
use Rattle.ref_machine.proofs.settle.settle.Goals as goal

pub returns-in_default-outcome-clause-ok : goal.returns-in_default-outcome-clause-ok
returns-in_default-outcome-clause-ok c =
    let front = c.pop-in-Calls.new.self.items in
    let frame = c.in-Some-pop.frame in
    let turned = c.replace_next-outcome.new.frame in
    let old = c.args.frames.now.items in
    let new = c.push_reserved-in-Calls-2.new.self.items in
    subst (λ ch. Settled ch old new) (sym c.in-Calls.is)
    (settled_call front frame turned c.in-Calls.entered c.in-Calls.receipt c.in_default-outcome.ensures.ok old new (sym c.in_ok-reserve-in-Calls.ensures.items ∙ c.in-Some-pop.ensures.items) (c.push_reserved-in-Calls-2.ensures.items ∙ ap (λ z. z ++ c.in-Calls.entered ∷ []) c.push_reserved-in-Calls.ensures.items))

pub returns-in-Some-pop-3-clause-ok : goal.returns-in-Some-pop-3-clause-ok
returns-in-Some-pop-3-clause-ok c =
    let old = c.args.frames.now.items in
    let mid = c.pop-in-Returns.new.self.items in
    let front = c.pop-in-Returns-2.new.self.items in
    let new = c.push_reserved-in-Returns.new.self.items in
    subst (λ ch. Settled ch old new) (sym c.in-Returns.is) (subst (λ st. Settled (Returns st) old new) (sym c.in-Some-stored.is)
    (settled_return front c.in-Some-pop-3.caller c.store.new.frame c.in-Some-pop-2.field-0 c.in-Some-stored.locals c.store.ensures old mid new c.in-Some-pop-2.ensures.items c.in-Some-pop-3.ensures.items c.push_reserved-in-Returns.ensures.items))
