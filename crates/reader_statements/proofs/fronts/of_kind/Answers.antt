use Rattle.std.proofs.Common.{ap, ◌∙◌}
use Rattle.reader_expressions.specs.Reading.{lexemes, rule_at}
use Rattle.reader_statements.specs.Rows.{rule_of}
use Rattle.reader_statements.proofs.Openings.{same_begins, whole_begins}
use Rattle.reader_statements.proofs.Picks.{skip_any}
use Rattle.reader_statements.proofs.fronts.of_kind.Goals as goal

pub returns-in-Block-clause-begins : goal.returns-in-Block-clause-begins
returns-in-Block-clause-begins c = same_begins c.args.room c.block_front.result _ _ (ap (λ k. rule_at c.args.room (rule_of (λ x. x) k) (lexemes c.args.tokens.now)) c.in-Block.is) c.block_front.ensures.begins

pub returns-in-Skip-clause-begins : goal.returns-in-Skip-clause-begins
returns-in-Skip-clause-begins c = whole_begins c.args.room c.skip.result c.whole.result _ _ c.whole.ensures (ap (λ k. rule_at c.args.room (rule_of (λ x. x) k) (lexemes c.args.tokens.now)) c.in-Skip.is ∙ skip_any c.args.room (lexemes c.args.tokens.now)) c.skip.ensures.gives

pub returns-in-Declaration-clause-begins : goal.returns-in-Declaration-clause-begins
returns-in-Declaration-clause-begins c = whole_begins c.args.room c.declaration.result c.whole-in-Declaration.result _ _ c.whole-in-Declaration.ensures (ap (λ k. rule_at c.args.room (rule_of (λ x. x) k) (lexemes c.args.tokens.now)) c.in-Declaration.is) c.declaration.ensures.gives

pub returns-in-Named-clause-begins : goal.returns-in-Named-clause-begins
returns-in-Named-clause-begins c = whole_begins c.args.room c.named.result c.whole-in-Named.result _ _ c.whole-in-Named.ensures (ap (λ k. rule_at c.args.room (rule_of (λ x. x) k) (lexemes c.args.tokens.now)) c.in-Named.is) c.named.ensures.gives

pub returns-in-Other-clause-begins : goal.returns-in-Other-clause-begins
returns-in-Other-clause-begins c = whole_begins c.args.room c.other.result c.whole-in-Other.result _ _ c.whole-in-Other.ensures (ap (λ k. rule_at c.args.room (rule_of (λ x. x) k) (lexemes c.args.tokens.now)) c.in-Other.is) c.other.ensures.gives

pub returns-in-Branch-clause-begins : goal.returns-in-Branch-clause-begins
returns-in-Branch-clause-begins c = same_begins c.args.room c.if_front.result _ _ (ap (λ k. rule_at c.args.room (rule_of (λ x. x) k) (lexemes c.args.tokens.now)) c.in-Branch.is) c.if_front.ensures.begins

pub returns-in-While-clause-begins : goal.returns-in-While-clause-begins
returns-in-While-clause-begins c = same_begins c.args.room c.while_front.result _ _ (ap (λ k. rule_at c.args.room (rule_of (λ x. x) k) (lexemes c.args.tokens.now)) c.in-While.is) c.while_front.ensures.begins

pub returns-in-Do-clause-begins : goal.returns-in-Do-clause-begins
returns-in-Do-clause-begins c = same_begins c.args.room c.do_front.result _ _ (ap (λ k. rule_at c.args.room (rule_of (λ x. x) k) (lexemes c.args.tokens.now)) c.in-Do.is) c.do_front.ensures.begins

pub returns-in-For-clause-begins : goal.returns-in-For-clause-begins
returns-in-For-clause-begins c = same_begins c.args.room c.for_front.result _ _ (ap (λ k. rule_at c.args.room (rule_of (λ x. x) k) (lexemes c.args.tokens.now)) c.in-For.is) c.for_front.ensures.begins

pub returns-in-Return-clause-begins : goal.returns-in-Return-clause-begins
returns-in-Return-clause-begins c = whole_begins c.args.room c.return_statement.result c.whole-in-Return.result _ _ c.whole-in-Return.ensures (ap (λ k. rule_at c.args.room (rule_of (λ x. x) k) (lexemes c.args.tokens.now)) c.in-Return.is) c.return_statement.ensures.gives

pub returns-in-Spawn-clause-begins : goal.returns-in-Spawn-clause-begins
returns-in-Spawn-clause-begins c = whole_begins c.args.room c.spawn.result c.whole-in-Spawn.result _ _ c.whole-in-Spawn.ensures (ap (λ k. rule_at c.args.room (rule_of (λ x. x) k) (lexemes c.args.tokens.now)) c.in-Spawn.is) c.spawn.ensures.gives

pub returns-in-Free-clause-begins : goal.returns-in-Free-clause-begins
returns-in-Free-clause-begins c = whole_begins c.args.room c.free_statement.result c.whole-in-Free.result _ _ c.whole-in-Free.ensures (ap (λ k. rule_at c.args.room (rule_of (λ x. x) k) (lexemes c.args.tokens.now)) c.in-Free.is) c.free_statement.ensures.gives
