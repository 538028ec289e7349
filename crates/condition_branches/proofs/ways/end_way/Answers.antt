use Rattle.std.specs.Prelude.{List}
use Rattle.std.proofs.Common.{sym, subst}
use Rattle.condition_code.specs.declared.walk.Step.{Step}
use Rattle.condition_code.specs.Walks.{Goes}
use Rattle.condition_branches.proofs.Going.{ends}
use Rattle.condition_branches.proofs.ways.end_way.Goals as goal

pub returns-clause-way : goal.returns-clause-way
returns-clause-way c = λ start behind f x b ran.
    let goes = subst (λ (p : List Step). Goes behind.graph c.args.walk.now.graph behind.path.items p x.path) (sym c.deref.ensures.value) ran.goes in
    ends b ran c.in_ok-leave.ensures (c.in_ok-facts.ensures behind.graph c.args.walk.now.graph behind.path.items x.path b.place goes)
