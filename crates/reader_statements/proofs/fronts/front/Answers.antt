use Rattle.std.proofs.Common.{◌∙◌, sym}
use Rattle.std.proofs.lemmas.Result.{err_from_is_err_and}
use Rattle.reader_expressions.specs.Reading.{lexemes}
use Rattle.reader_statements.proofs.Forms.{annotation_fits, annotation_high, simple_read}
use Rattle.reader_statements.proofs.Openings.{same_begins, high_begins}
use Rattle.reader_statements.proofs.fronts.front.Goals as goal

pub returns-in_err-fits-clause-begins : goal.returns-in_err-fits-clause-begins
returns-in_err-fits-clause-begins c = let p = err_from_is_err_and c.from_residual.result c.from_residual.ensures.1 in let e = c.in_err-fits.ensures.err in rw (p.1, p.2) (high_begins c.args.room _ _ _ e.1 (annotation_high c.args.room (lexemes c.args.tokens.now) (sym c.next_is.ensures ∙ c.if-next_is.true) e.0))

pub returns-then-next_is-clause-begins : goal.returns-then-next_is-clause-begins
returns-then-next_is-clause-begins c = same_begins c.args.room c.annotation.result _ _ (annotation_fits c.args.room (lexemes c.args.tokens.now) (sym c.next_is.ensures ∙ c.if-next_is.true) c.in_ok-fits.ensures.ok) c.annotation.ensures.begins

pub returns-clause-begins : goal.returns-clause-begins
returns-clause-begins c = same_begins c.args.room c.simple.result _ _ (simple_read c.args.room (lexemes c.args.tokens.now) (sym c.next_is.ensures ∙ c.if-next_is.false)) c.simple.ensures.begins
