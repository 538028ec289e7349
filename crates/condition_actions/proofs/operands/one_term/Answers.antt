use Rattle.std.specs.Prelude.{[]}
use Rattle.condition_formulas.proofs.Rows.{none}
use Rattle.condition_code.proofs.Walks.{gives}
use Rattle.condition_actions.proofs.Runs.{with_first, as_ids}
use Rattle.condition_actions.proofs.operands.one_term.Goals as goal

pub returns : goal.returns
returns c = λ b s hb hs.
    as_ids c.in_ok-ids.ensures (with_first c.args.a.now.program.now b s c.args.e.now [] (c.in_ok-id.ensures b s hb hs) (gives (λ n f h. h) none))
