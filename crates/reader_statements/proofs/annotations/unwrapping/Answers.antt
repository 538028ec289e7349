use Rattle.std.proofs.Common.{◌∙◌, ◌+◌, sym, ap}
use Rattle.std.proofs.lemmas.Result.{err_from_is_err_and}
use Rattle.ebnf.specs.Reading.{reads}
use Rattle.c_syntax.specs.declared.token.Span.{Span}
use Rattle.c_syntax.specs.Grammar as g
use Rattle.c_syntax.specs.Language.{language}
use Rattle.c_syntax.specs.Views.{exp}
use Rattle.reader_expressions.specs.Reading.{lexemes}
use Rattle.reader_statements.specs.declared.blocks.BlockFront.TheVariants as fronts
use Rattle.reader_statements.specs.Fronts.{above}
use Rattle.reader_statements.specs.Views.{holding}
use Rattle.reader_statements.proofs.Openings.{unwrapping_is, then_on, stop_begins}
use Rattle.reader_statements.proofs.annotations.unwrapping.Goals as goal

pub returns-in_err-word-clause-begins : goal.returns-in_err-word-clause-begins
returns-in_err-word-clause-begins c = let p = err_from_is_err_and c.from_residual.result c.from_residual.ensures.1 in rw (p.1, p.2) (stop_begins (λ (x : Span). x) c.args.room _ _ _ _ (unwrapping_is c.args.room c.args.span (lexemes c.args.tokens.now)) c.in_err-word.ensures.gives)

pub returns-in_err-object-clause-begins : goal.returns-in_err-object-clause-begins
returns-in_err-object-clause-begins c = let p = err_from_is_err_and c.from_residual-in_err-object.result c.from_residual-in_err-object.ensures.1 in rw (p.1, p.2) (stop_begins exp c.args.room _ _ _ _ (then_on _ _ _ _ _ _ (unwrapping_is c.args.room c.args.span (lexemes c.args.tokens.now)) c.in_ok-word.ensures.gives) c.in_err-object.ensures.gives)

pub returns-in_err-close-clause-begins : goal.returns-in_err-close-clause-begins
returns-in_err-close-clause-begins c = let p = err_from_is_err_and c.from_residual-in_err-close.result c.from_residual-in_err-close.ensures.1 in rw (p.1, p.2) (stop_begins (λ (x : Span). x) c.args.room _ _ _ _ (then_on _ _ _ _ _ _ (then_on _ _ _ _ _ _ (unwrapping_is c.args.room c.args.span (lexemes c.args.tokens.now)) c.in_ok-word.ensures.gives) c.in_ok-object.ensures.gives) c.in_err-close.ensures.err)

pub returns-clause-begins : goal.returns-clause-begins
returns-clause-begins c =
    then_on _ _ _ _ _ _ (then_on _ _ _ _ _ _ (then_on _ _ _ _ _ _ (unwrapping_is c.args.room c.args.span (lexemes c.args.tokens.now)) c.in_ok-word.ensures.gives) c.in_ok-object.ensures.gives) c.in_ok-close.ensures.ok
    ∙ ap (λ x. above (holding (fronts.Unwrapping c.args.span x)) (c.in_ok-object.object.height + 1) (reads language c.args.room g.BlockOf (lexemes c.in_ok-close.close.rest.now))) (sym c.in_ok-close.ensures.value)
    ∙ ap (λ h. above (holding (fronts.Unwrapping c.args.span c.in_ok-close.close.value.0)) (h + 1) (reads language c.args.room g.BlockOf (lexemes c.in_ok-close.close.rest.now))) (sym c.in_ok-close.ensures.height)
