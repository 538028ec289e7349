use Rattle.std.specs.Prelude.{List}
use Rattle.std.proofs.Common.{sym, subst}
use Rattle.terms.specs.declared.term.Term.{Term}
use Rattle.condition_formulas.specs.Standing.{StandsAs}
use Rattle.condition_branches.proofs.Going.{begins}
use Rattle.condition_branches.proofs.ways.begin_way.Goals as goal

pub returns : goal.returns
returns c = λ f is.
    begins c.in_ok-enter.ensures (c.in_ok-fact.ensures f (subst (λ (ts : List Term). StandsAs ts c.args.test f) (sym c.in_ok-enter.ensures.graph) is)) c.place.ensures
