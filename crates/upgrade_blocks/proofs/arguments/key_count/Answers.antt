use Rattle.std.proofs.Common.{rules, ◌≡◌, ◌-◌, ◌∙◌, length}
use Rattle.upgrade_blocks.proofs.Counts.{no_keys, some_keys}
use Rattle.upgrade_blocks.proofs.arguments.key_count.Goals as goal

pub returns-in_default : goal.returns-in_default
returns-in_default c = λ l same. no_keys c.args.columns.now l c.args.number same c.in_default.ensures.none

pub returns : goal.returns
returns c = λ l same.
    let e : c.saturating_sub.result ≡ length c.in-Some.column.now.keys - 1 = search rules in
    e ∙ some_keys c.args.columns.now l c.args.number c.in-Some.column.now same c.in-Some.ensures.some
