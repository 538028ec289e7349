use Rattle.std.proofs.Common.{◌≤◌, length, sym, ◌∙◌, arith}
use Rattle.vcc_judge.proofs.Remaining.{item_gives, item_passed, none_behind}
use Rattle.vcc_judge.proofs.sequence.Conditions.give_behind.Goals as goal

pub returns-in-Some : goal.returns-in-Some
returns-in-Some c =
    item_gives c.args.program.now c.loop-self.self.place c.args.self.now.place c.deref.result.now c.item_at-item.result _ c.in_ok-condition.condition _ c.deref.ensures.value c.item_at-item.ensures c.begin.ensures.place c.in-Some.is (c.in_ok-condition.ensures _ c.in_ok-begin.ensures.current) c.loop-self.invariant

pub loop-self-preserved : goal.loop-self-preserved
loop-self-preserved c =
    item_passed c.args.program.now c.loop-self.self.place _ c.args.self.now.place c.deref.result.now c.item_at-item.result c.give.new.self.graph c.give.new.self.emitter c.give.new.self.path.items c.in_ok-condition.condition c.deref.ensures.value c.item_at-item.ensures c.begin.ensures.place c.in_default.not-Some (c.in_ok-condition.ensures _ c.in_ok-begin.ensures.current) c.loop-self.invariant

pub returns : goal.returns
returns c =
    let above : length c.args.program.now.items.items ≤ c.loop-self.self.place = omega arith in
    sym c.loop-self.invariant ∙ none_behind c.args.program.now c.loop-self.self.place above
