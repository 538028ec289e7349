use Rattle.block_layout.proofs.Named.{none_or}
use Rattle.refutation_check.proofs.LemmaAnswers.{last_none, last_bad, last_limit}
use Rattle.refutation_check.proofs.lemmas.ending.Goals as goal

pub returns-in_default : goal.returns-in_default
returns-in_default c = last_none c.args.loaded.now.clauses.list.items c.args.loaded.now.stop c.last_clause.result (none_or c.args.loaded.now.stop c.in_default.not-Some) c.last_clause.ensures

pub returns-in-BadTerm : goal.returns-in-BadTerm
returns-in-BadTerm c = last_bad c.args.loaded.now.clauses.list.items c.args.loaded.now.stop c.in-Some.stop c.in-BadTerm.field-0 c.last_clause-in-BadTerm.result c.in-Some.is c.in-BadTerm.is c.last_clause-in-BadTerm.ensures

pub returns-in-Limit : goal.returns-in-Limit
returns-in-Limit c = last_limit c.args.loaded.now.clauses.list.items c.args.loaded.now.stop c.in-Some.stop c.last_clause-in-Limit.result c.in-Some.is c.in-Limit.is c.last_clause-in-Limit.ensures
