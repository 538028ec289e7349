use Rattle.std.proofs.Common.{rules, ◌≡◌, ◌<◌, ◌≤◌, length, true, ◌∙◌}
use Rattle.std.proofs.lemmas.Result.{err_from_is_err_and}
use Rattle.refutation_check.proofs.Judged.{none_given, given_more, fails_at, leaves_at, all_given}
use Rattle.refutation_check.proofs.steps.first_failure.Goals as goal

pub loop-i-init : goal.loop-i-init
loop-i-init c = record { room = c.requires.room; given = none_given c.args.space.now c.args.lemmas.now.clauses.items c.args.loaded.now }

pub is_given-requires-clause-clause_within : goal.is_given-requires-clause-clause_within
is_given-requires-clause-clause_within c = c.requires.within c.loop-i.i c.clause_at-clause.result.now c.clause_at-clause.ensures

pub returns-in_err-given : goal.returns-in_err-given
returns-in_err-given c =
    let p = err_from_is_err_and c.from_residual.result c.from_residual.ensures.1 in
    rw (p.1, p.2) (leaves_at c.args.space.now c.args.lemmas.now.clauses.items c.args.loaded.now c.loop-i.i c.step_at-step.result.now c.clause_at-clause.result.now _
    (record { step_at = c.step_at-step.ensures; clause_at = c.clause_at-clause.ensures }) c.in_err-given.ensures.wide c.loop-i.invariant.given)

pub returns-then-not-given : goal.returns-then-not-given
returns-then-not-given c =
    let place : c.loop-i.i < length c.args.loaded.now.clauses.list.items = search rules in
    fails_at c.args.space.now c.args.lemmas.now.clauses.items c.args.loaded.now c.loop-i.i c.step_at-step.result.now c.clause_at-clause.result.now
    (record { step_at = c.step_at-step.ensures; clause_at = c.clause_at-clause.ensures }) place
    (λ theorems held row. let yes : c.in_ok-given.given ≡ true = (c.in_ok-given.ensures.rows theorems held).1 row in cc) c.loop-i.invariant.given

pub loop-i-preserved : goal.loop-i-preserved
loop-i-preserved c = record {
  room = c.is_given.ensures.room ∙ c.loop-i.invariant.room;
  given = given_more c.args.space.now c.args.lemmas.now.clauses.items c.args.loaded.now c.loop-i.i c.step_at-step.result.now c.clause_at-clause.result.now
      (record { step_at = c.step_at-step.ensures; clause_at = c.clause_at-clause.ensures }) (λ theorems held. (c.in_ok-given.ensures.rows theorems held).0 c.if-not-given.false) c.in_ok-given.ensures.exact c.loop-i.invariant.given;
}

pub returns : goal.returns
returns c =
    let whole : length c.args.loaded.now.clauses.list.items ≤ c.loop-i.i = search rules in
    all_given c.args.space.now c.args.lemmas.now.clauses.items c.args.loaded.now c.loop-i.i whole c.loop-i.invariant.given
