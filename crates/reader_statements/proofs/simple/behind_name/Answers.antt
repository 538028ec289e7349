use Rattle.std.proofs.Common.{ap, sym, ◌∙◌}
use Rattle.c_syntax.specs.Expressions as e
use Rattle.c_syntax.specs.Views.{id}
use Rattle.reader_expressions.specs.Reading.{lexemes}
use Rattle.reader_expressions.proofs.Outcomes.{same_gives}
use Rattle.reader_statements.specs.Rows.{behind_left}
use Rattle.reader_statements.specs.Views.{in_box}
use Rattle.reader_statements.proofs.Names.{call_read, assign_read}
use Rattle.reader_statements.proofs.simple.behind_name.Goals as goal

pub returns-then-next_is-clause-gives : goal.returns-then-next_is-clause-gives
returns-then-next_is-clause-gives c = same_gives in_box c.call.result _ _ (ap (λ o. behind_left (e.Name (id c.args.name)) c.args.height o) (call_read c.args.room (lexemes c.args.tokens.now) (sym c.next_is.ensures ∙ c.if-next_is.true))) c.call.ensures.gives

pub returns-clause-gives : goal.returns-clause-gives
returns-clause-gives c = same_gives in_box c.assign.result _ _ (ap (λ o. behind_left (e.Name (id c.args.name)) c.args.height o) (assign_read c.args.room (lexemes c.args.tokens.now) (sym c.next_is.ensures ∙ c.if-next_is.false))) c.assign.ensures.gives
