use Rattle.std.proofs.Common.{Some}
use Rattle.refutation_check.proofs.Theorems.{held_later}
use Rattle.refutation_check.proofs.check.judge.Goals as goal

pub check_loaded-requires-clause-loaded : goal.check_loaded-requires-clause-loaded
check_loaded-requires-clause-loaded c =
    let t = c.requires.theory in
    record { language = t.language; own = c.args.own.now; root = Some c.args.root; block = c.args.block.now; is = c.in_ok-loaded.ensures.loaded t.language t.is t.sorts }

pub returns-clause-answer : goal.returns-clause-answer
returns-clause-answer c = λ l theorems t s held.
    c.check_loaded.ensures.answer l theorems c.args.own.now c.args.root c.args.block.now (c.in_ok-loaded.ensures.loaded l t s)
    (held_later c.args.space.now.graph c.load.new.space.graph c.load.ensures.kept.later c.args.lemmas.now.clauses.items theorems held)
