use Rattle.std.proofs.Common.{List, ◌∷◌, sym, refl, subst}
use Rattle.terms.specs.declared.term.Term.{Term}
use Rattle.condition_formulas.specs.Standing.{StandsAs}
use Rattle.condition_meaning.specs.Languages.{language_of}
use Rattle.vcc_judge.proofs.Trials.{none_given, next_judged}
use Rattle.vcc_judge.proofs.trial.Trial.judge_next.Goals as goal

pub returns-in_default-clause-judges : goal.returns-in_default-clause-judges
returns-in_default-clause-judges c = λ lemmas g rest ready remains.
    absurd (none_given c.args.theory.program.now c.give.new.self c.in_ok-given.given g rest c.in_default.not-Some (c.in_ok-given.ensures (g ∷ rest) remains))

pub returns-clause-judges : goal.returns-clause-judges
returns-clause-judges c = λ lemmas g rest ready remains.
    next_judged c.args.theory.program.now lemmas c.give.new.self _ c.in_ok-given.given c.in-Some.condition c.args.label g rest c.args.block.now c.in-Some.is (c.in_ok-given.ensures (g ∷ rest) remains) refl
    (λ h stands. c.in_ok-outcome.ensures (language_of c.args.theory.program.now) lemmas h c.args.block.now
    (c.follows-follows.ensures.shows lemmas h ready (subst (λ (ts : List Term). StandsAs ts c.in-Some.condition h) (sym c.graph-graph.ensures) stands)))
