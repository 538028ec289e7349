use Rattle.std.proofs.Common.{ap}
use Rattle.reader_expressions.specs.Reading.{lexemes, part}
use Rattle.reader_statements.specs.Rows.{annotation_of, at_span, higher}
use Rattle.reader_statements.proofs.Openings.{same_begins}
use Rattle.reader_statements.proofs.annotations.of_form.Goals as goal

pub returns-in-Assert-clause-begins : goal.returns-in-Assert-clause-begins
returns-in-Assert-clause-begins c = same_begins c.args.room c.assertion.result _ _ (ap (λ k. higher (at_span c.args.span (part c.args.room (annotation_of k) (lexemes c.args.tokens.now)))) c.in-Assert.is) c.assertion.ensures.begins

pub returns-in-Ghost-clause-begins : goal.returns-in-Ghost-clause-begins
returns-in-Ghost-clause-begins c = same_begins c.args.room c.ghost_statement.result _ _ (ap (λ k. higher (at_span c.args.span (part c.args.room (annotation_of k) (lexemes c.args.tokens.now)))) c.in-Ghost.is) c.ghost_statement.ensures.begins

pub returns-in-Wrap-clause-begins : goal.returns-in-Wrap-clause-begins
returns-in-Wrap-clause-begins c = same_begins c.args.room c.wrap.result _ _ (ap (λ k. higher (at_span c.args.span (part c.args.room (annotation_of k) (lexemes c.args.tokens.now)))) c.in-Wrap.is) c.wrap.ensures.begins

pub returns-in-Unwrap-clause-begins : goal.returns-in-Unwrap-clause-begins
returns-in-Unwrap-clause-begins c = same_begins c.args.room c.unwrap_statement.result _ _ (ap (λ k. higher (at_span c.args.span (part c.args.room (annotation_of k) (lexemes c.args.tokens.now)))) c.in-Unwrap.is) c.unwrap_statement.ensures.begins

pub returns-in-Unwrapping-clause-begins : goal.returns-in-Unwrapping-clause-begins
returns-in-Unwrapping-clause-begins c = same_begins c.args.room c.unwrapping.result _ _ (ap (λ k. higher (at_span c.args.span (part c.args.room (annotation_of k) (lexemes c.args.tokens.now)))) c.in-Unwrapping.is) c.unwrapping.ensures.begins

pub returns-in-Atomic-clause-begins : goal.returns-in-Atomic-clause-begins
returns-in-Atomic-clause-begins c = same_begins c.args.room c.atomic.result _ _ (ap (λ k. higher (at_span c.args.span (part c.args.room (annotation_of k) (lexemes c.args.tokens.now)))) c.in-Atomic.is) c.atomic.ensures.begins
