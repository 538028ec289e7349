use Rattle.std.proofs.Common.{arith, ap, refl, sym, subst, ◌∙◌, ◌+◌, ◌++◌, ◌∷◌, [], List}
use Rattle.terms.specs.declared.term.Literal.{Literal}
use Rattle.block_layout.specs.declared.loaded.LoadedStep.{LoadedStep}
use Rattle.block_layout.specs.Loading.{StepsFront}
use Rattle.block_layout.specs.Layout.{numbers_over, clause_over}
use Rattle.block_layout.proofs.Spaces.{keeps_itself, keeps_then, stays_itself, stays_then}
use Rattle.block_layout.proofs.Laying.{steps_first, steps_next, all_steps, steps_past, steps_unnamed}
use Rattle.block_layout.proofs.load.put_steps.Goals as goal

pub loop-i-init : goal.loop-i-init
loop-i-init c = record {
  kept = keeps_itself;
  sorted = stays_itself;
  few = c.requires.limit;
  front = steps_first c.args.theory c.args.names.now c.args.steps.now c.args.space.now c.args.loaded.now.items c.args.clauses.now.items c.requires.none c.requires.no_clauses;
}

pub returns-in_err-instance-clause-kept : goal.returns-in_err-instance-clause-kept
returns-in_err-instance-clause-kept c = keeps_then c.loop-i.invariant.kept c.put_instance.ensures.kept

pub returns-then-is_past_limit-clause-put : goal.returns-then-is_past_limit-clause-put
returns-then-is_past_limit-clause-put c =
    steps_past c.args.theory c.args.names.now c.args.steps.now c.loop-i.i c.args.space.now c.loop-i.space c.put_instance.new.space c.loop-i.loaded.items c.loop-i.clauses.items c.put_instance.ensures.kept (c.is_past_limit.ensures.past c.if-is_past_limit.true) c.loop-i.invariant.front

pub returns-then-is_past_limit-clause-kept : goal.returns-then-is_past_limit-clause-kept
returns-then-is_past_limit-clause-kept c = keeps_then c.loop-i.invariant.kept c.put_instance.ensures.kept

pub returns-then-is_past_limit-clause-sorted : goal.returns-then-is_past_limit-clause-sorted
returns-then-is_past_limit-clause-sorted c = stays_then c.loop-i.invariant.sorted c.in_ok-instance.ensures.sorted

pub returns-then-not-is_named-clause-put : goal.returns-then-not-is_named-clause-put
returns-then-not-is_named-clause-put c =
    steps_unnamed c.args.theory c.args.names.now c.args.steps.now c.loop-i.i c.step_at-step.result.now c.args.space.now c.loop-i.space c.put_instance.new.space c.loop-i.loaded.items c.loop-i.clauses.items c.step_at-step.ensures (c.is_named.ensures.no c.if-not-is_named.true)
    c.put_instance.ensures.kept (c.is_past_limit.ensures.within c.if-is_past_limit.false) c.loop-i.invariant.front

pub returns-then-not-is_named-clause-kept : goal.returns-then-not-is_named-clause-kept
returns-then-not-is_named-clause-kept c = keeps_then c.loop-i.invariant.kept c.put_instance.ensures.kept

pub returns-then-not-is_named-clause-sorted : goal.returns-then-not-is_named-clause-sorted
returns-then-not-is_named-clause-sorted c = stays_then c.loop-i.invariant.sorted c.in_ok-instance.ensures.sorted

pub returns-in_err-numbers-clause-kept : goal.returns-in_err-numbers-clause-kept
returns-in_err-numbers-clause-kept c = keeps_then c.loop-i.invariant.kept c.put_instance.ensures.kept

pub returns-in_err-clause-clause-kept : goal.returns-in_err-clause-clause-kept
returns-in_err-clause-clause-kept c = keeps_then c.loop-i.invariant.kept c.put_instance.ensures.kept

pub returns-in_err-push-clause-kept : goal.returns-in_err-push-clause-kept
returns-in_err-push-clause-kept c = keeps_then c.loop-i.invariant.kept c.put_instance.ensures.kept

pub returns-in_err-push-2-clause-kept : goal.returns-in_err-push-2-clause-kept
returns-in_err-push-2-clause-kept c = keeps_then c.loop-i.invariant.kept c.put_instance.ensures.kept

pub loop-i-preserved : goal.loop-i-preserved
loop-i-preserved c = record {
  kept = keeps_then c.loop-i.invariant.kept c.put_instance.ensures.kept;
  sorted = stays_then c.loop-i.invariant.sorted c.in_ok-instance.ensures.sorted;
  few = c.is_past_limit.ensures.within c.if-is_past_limit.false;
  front = subst (λ (cs : List (List Literal)). StepsFront c.args.theory c.args.names.now c.args.steps.now (c.loop-i.i + 1) c.args.space.now c.put_instance.new.space c.push.new.self.items cs) (sym c.in_ok-push-2.ensures.items)
      (subst (λ (xs : List LoadedStep). StepsFront c.args.theory c.args.names.now c.args.steps.now (c.loop-i.i + 1) c.args.space.now c.put_instance.new.space xs (c.loop-i.clauses.items ++ c.in_ok-clause.clause ∷ [])) (sym c.in_ok-push.ensures.items)
      (steps_next c.args.theory c.args.names.now c.args.steps.now c.loop-i.i c.step_at-step.result.now c.args.space.now c.loop-i.space c.put_instance.new.space c.loop-i.loaded.items _ c.loop-i.clauses.items c.in_ok-clause.clause c.step_at-step.ensures
      c.loop-i.invariant.kept c.loop-i.invariant.sorted c.put_instance.ensures.kept c.in_ok-instance.ensures.exact
      refl (c.in_ok-numbers.ensures ∙ ap (numbers_over c.args.names.now c.step_at-step.result.now.rule) c.as_slice.ensures) (c.in_ok-clause.ensures ∙ ap (clause_over c.args.names.now) c.literals.ensures)
      (c.is_named.ensures.yes c.if-not-is_named.false) c.loop-i.invariant.front));
}

pub returns-clause-put : goal.returns-clause-put
returns-clause-put c = all_steps c.args.theory c.args.names.now c.args.steps.now c.loop-i.i c.args.space.now c.loop-i.space c.loop-i.loaded.items c.loop-i.clauses.items (omega (arith, c.loop-i-test.false)) c.loop-i.invariant.few c.loop-i.invariant.front
