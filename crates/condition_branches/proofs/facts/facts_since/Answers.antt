use Rattle.std.proofs.lemmas.List.{take_rest}
use Rattle.condition_branches.proofs.Known.{facts_stand}
use Rattle.condition_branches.proofs.facts.facts_since.Goals as goal

pub returns : goal.returns
returns c = λ first now before q long goes.
    facts_stand q c.args.from long goes (take_rest c.args.path.now c.args.from) c.in_ok-ids.ensures
