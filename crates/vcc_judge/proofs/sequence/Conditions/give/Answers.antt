use Rattle.vcc_judge.proofs.Remaining.{given_here, behind_gives, none_here}
use Rattle.vcc_judge.proofs.sequence.Conditions.give.Goals as goal

pub returns-in-Some : goal.returns-in-Some
returns-in-Some c = λ fs r. given_here _ _ c.in_ok-condition.condition _ r.here fs c.in-Some.is (c.in_ok-condition.ensures r.here r.remain) r.left

pub returns : goal.returns
returns c = λ fs r.
    behind_gives c.args.program.now c.give_behind.new.self c.in_ok-behind.behind c.args.self.now.place r.here fs (none_here c.give.new.self.graph c.give.new.self.emitter c.give.new.self.path.items c.in_ok-condition.condition r.here c.in_default.not-Some (c.in_ok-condition.ensures r.here r.remain)) r.left c.in_ok-behind.ensures
