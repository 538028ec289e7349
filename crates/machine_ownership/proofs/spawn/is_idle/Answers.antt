use Rattle.std.proofs.Common.{◌∙◌, sym, ap, lit<}
use Rattle.object_types.specs.declared.references.Ref.{Ref}
use Rattle.object_types.specs.References.{same_ref, thread}
use Rattle.ownership.proofs.Roots.{searched_on}
use Rattle.machine_ownership.proofs.Searching.{none_before, none_next, none_last, none_behind, idle_is, busy_is}
use Rattle.machine_ownership.proofs.spawn.is_idle.Goals as goal

pub loop-o-init : goal.loop-o-init
loop-o-init c = record { none = none_before c.args.h.now c.args.t; serial = lit< tt; within = lit< tt }

pub loop-o-preserved : goal.loop-o-preserved
loop-o-preserved c =
    let ss = c.args.h.now in
    let t = c.args.t in
    let after = c.in-Some-next_reference.ensures.some in
    record {
      none = none_next ss t c.loop-o.from c.in-Some.o c.is_kept.ensures c.in-Some.ensures.some (ap (λ (w : Ref). same_ref w (thread t)) (sym c.view.ensures.owner) ∙ sym c.is_same.ensures ∙ c.if-is_same.false) c.loop-o.invariant.none c.in-Some-next_reference.next c.loop-o.invariant.serial after;
      serial = after.serial;
      within = after.within;
    }

pub loop-o-smaller : goal.loop-o-smaller
loop-o-smaller c = searched_on c.loop-o.from c.in-Some.o c.in-Some-next_reference.next c.loop-o.invariant.serial c.in-Some.ensures.some.at_or_above c.in-Some-next_reference.ensures.some

pub returns-then-is_same : goal.returns-then-is_same
returns-then-is_same c y finite =
    busy_is c.args.h.now c.args.t c.in-Some.o y (ap (λ (w : Ref). same_ref w (thread c.args.t)) (sym c.view.ensures.owner) ∙ sym c.is_same.ensures ∙ c.if-is_same.true) finite

pub returns-in_default-next_reference : goal.returns-in_default-next_reference
returns-in_default-next_reference c y finite =
    let ss = c.args.h.now in
    let t = c.args.t in
    idle_is ss t y (none_last ss t c.loop-o.from c.in-Some.o c.is_kept.ensures c.in-Some.ensures.some (ap (λ (w : Ref). same_ref w (thread t)) (sym c.view.ensures.owner) ∙ sym c.is_same.ensures ∙ c.if-is_same.false) c.loop-o.invariant.none c.in_default-next_reference.ensures.none)

pub returns : goal.returns
returns c y finite = idle_is c.args.h.now c.args.t y (none_behind c.args.h.now c.args.t c.loop-o.from c.loop-o.invariant.none c.in_default.ensures.none)
