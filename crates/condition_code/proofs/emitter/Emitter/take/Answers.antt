use Rattle.std.specs.Prelude.{ℕ, Vec, Some, None}
use Rattle.std.specs.Global.{Global}
use Rattle.std.proofs.Common.{ap, refl, ◌∙◌}
use Rattle.condition_code.specs.Steps.{FormulaStep}
use Rattle.condition_code.specs.Emitters.{Passes}
use Rattle.condition_formulas.proofs.Rows.{all_later, as_long, same_ids, then_one}
use Rattle.condition_code.proofs.Emitters.{by_check, by_fact, by_enter, by_leave, passes_check, passes_fact, passes_enter, passes_leave}
use Rattle.condition_code.proofs.emitter.Emitter.take.Goals as goal

pub returns-in_ok-condition-in-Check-clause-passes : goal.returns-in_ok-condition-in-Check-clause-passes
returns-in_ok-condition-in-Check-clause-passes c = λ known d all.
    by_check (λ (e : FormulaStep). Passes c.condition.new.graph c.args.self.now.marks.items c.condition.new.self.known.items c.condition.new.self.marks.items known e (Some c.in_ok-condition-in-Check.condition)) c.in-Check.is
    (λ f is. passes_check (ap (λ (v : Vec ℕ Global). v.items) c.in_ok-condition-in-Check.ensures.marks) (same_ids c.in_ok-condition-in-Check.ensures.known (then_one (all_later c.in_ok-condition-in-Check.ensures.later all) (c.in_ok-condition-in-Check.ensures.later _ _ is))) (c.in_ok-condition-in-Check.ensures.stands known f all is)) d

pub returns-in_ok-push-in-Fact-clause-passes : goal.returns-in_ok-push-in-Fact-clause-passes
returns-in_ok-push-in-Fact-clause-passes c = λ known d all.
    by_fact (λ (e : FormulaStep). Passes c.args.graph.now c.args.self.now.marks.items c.push.new.self.items c.args.self.now.marks.items known e None) c.in-Fact.is
    (λ f is. passes_fact refl (same_ids c.in_ok-push-in-Fact.ensures.items (then_one all is))) d

pub returns-in_ok-push-in-Enter-clause-passes : goal.returns-in_ok-push-in-Enter-clause-passes
returns-in_ok-push-in-Enter-clause-passes c = λ known d all.
    by_enter (λ (e : FormulaStep). Passes c.args.graph.now c.args.self.now.marks.items c.args.self.now.known.items c.push-in-Enter.new.self.items known e None) c.in-Enter.is
    (passes_enter c.in_ok-push-in-Enter.ensures.items (c.facts-count.ensures ∙ as_long all) all) d

pub returns-in-Leave-clause-passes : goal.returns-in-Leave-clause-passes
returns-in-Leave-clause-passes c = λ known d all.
    by_leave (λ (e : FormulaStep). Passes c.args.graph.now c.args.self.now.marks.items c.leave.new.self.known.items c.leave.new.self.marks.items known e None) c.in-Leave.is
    (passes_leave c.leave.ensures.known c.leave.ensures.marks all) d
