use Rattle.std.proofs.Common.{◌∙◌, sym, ap, nat_le}
use Rattle.std.proofs.lemmas.Result.{err_from_is_err_and}
use Rattle.reader_expressions.specs.Reading.{lexemes}
use Rattle.reader_statements.proofs.Choices.{kind_fits, kind_high, no_kind}
use Rattle.reader_statements.proofs.Openings.{same_begins, high_begins}
use Rattle.reader_statements.proofs.fronts.simple.Goals as goal

pub returns-in_err-fits-clause-begins : goal.returns-in_err-fits-clause-begins
returns-in_err-fits-clause-begins c = let p = err_from_is_err_and c.from_residual.result c.from_residual.ensures.1 in let e = c.in_err-fits.ensures.err in rw (p.1, p.2) (high_begins c.args.room _ _ _ e.1 (kind_high (λ x. x) _ c.args.room (lexemes c.args.tokens.now) (ap (λ i. nat_le i c.args.room) (sym c.least.ensures) ∙ e.0) c.in-Some.ensures))

pub returns-clause-begins : goal.returns-clause-begins
returns-clause-begins c = same_begins c.args.room c.of_kind.result _ _ (kind_fits (λ x. x) _ c.args.room (lexemes c.args.tokens.now) (ap (λ i. nat_le i c.args.room) (sym c.least.ensures) ∙ c.in_ok-fits.ensures.ok) c.in-Some.ensures) c.of_kind.ensures.begins

pub returns-in_default-clause-begins : goal.returns-in_default-clause-begins
returns-in_default-clause-begins c = no_kind (λ x. x) c.args.room (lexemes c.args.tokens.now) c.in_default.ensures
