use Rattle.std.proofs.Common.{slice_get, List, sym, subst}
use Rattle.std.proofs.lemmas.Int.{to_z-of_z}
use Rattle.std.specs.Int.{w128}
use Rattle.terms.specs.declared.term.Term.{Term}
use Rattle.axiom_steps.specs.Steps.{instance_at}
use Rattle.block_layout.specs.Layout.{IsNode}
use Rattle.block_layout.proofs.Named.{block_names}
use Rattle.block_layout.proofs.Spaces.{keeps_then, sorts_then, grown}
use Rattle.block_layout.proofs.space.Space.add_instance.Goals as goal

pub returns-in_err-id-clause-kept : goal.returns-in_err-id-clause-kept
returns-in_err-id-clause-kept c = grown c.instance.ensures.later

pub returns-in_err-sort_all-clause-kept : goal.returns-in_err-sort_all-clause-kept
returns-in_err-sort_all-clause-kept c = keeps_then (grown c.in_ok-id.ensures.later) c.sort_all.ensures.kept

pub returns-clause-kept : goal.returns-clause-kept
returns-clause-kept c = keeps_then (grown c.in_ok-id.ensures.later) c.sort_all.ensures.kept

pub returns-clause-sorted : goal.returns-clause-sorted
returns-clause-sorted c = sorts_then (grown c.in_ok-id.ensures.later) c.in_ok-sort_all.ensures.sorted

pub returns-clause-exact : goal.returns-clause-exact
returns-clause-exact c = λ l trees t s all.
    subst (λ (ts : List Term). IsNode ts (instance_at l (slice_get trees) c.args.number c.args.part c.args.args.now) c.in_ok-id.id) (sym c.in_ok-sort_all.ensures.graph)
    (rw (to_z-of_z w128 c.args.number c.ranges.number) at rw (to_z-of_z w128 c.args.part c.ranges.part) at
    (c.in_ok-id.ensures.exact l (slice_get trees) (record {
      program = t.program;
      language = t.language;
      names = rw c.as_slice.ensures (block_names c.args.self.now.graph c.args.names.now trees c.args.self.now.sorts l all s);
    })).is)
