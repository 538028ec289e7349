use Rattle.std.proofs.Common.{◌∙◌, ◌+◌, sym, ap, Vec}
use Rattle.std.proofs.lemmas.Result.{err_from_is_err_and}
use Rattle.ebnf.specs.Reading.{reads}
use Rattle.c_syntax.specs.declared.token.Span.{Span}
use Rattle.c_syntax.specs.Grammar as g
use Rattle.c_syntax.specs.Language.{language}
use Rattle.std.specs.declared.alloc.Global.{Global}
use Rattle.c_syntax.specs.declared.expressions.Expr.{Expr}
use Rattle.c_syntax.specs.Views.{exps}
use Rattle.reader_expressions.specs.Reading.{lexemes}
use Rattle.reader_statements.specs.declared.blocks.BlockFront.TheVariants as fronts
use Rattle.reader_statements.specs.Fronts.{above}
use Rattle.reader_statements.specs.Views.{holding}
use Rattle.reader_statements.proofs.Openings.{atomic_is, then_on, stop_begins}
use Rattle.reader_statements.proofs.annotations.atomic.Goals as goal

pub returns-in_err-word-clause-begins : goal.returns-in_err-word-clause-begins
returns-in_err-word-clause-begins c = let p = err_from_is_err_and c.from_residual.result c.from_residual.ensures.1 in rw (p.1, p.2) (stop_begins (λ (x : Span). x) c.args.room _ _ _ _ (atomic_is c.args.room c.args.span (lexemes c.args.tokens.now)) c.in_err-word.ensures.gives)

pub returns-in_err-objects-clause-begins : goal.returns-in_err-objects-clause-begins
returns-in_err-objects-clause-begins c = let p = err_from_is_err_and c.from_residual-in_err-objects.result c.from_residual-in_err-objects.ensures.1 in rw (p.1, p.2) (stop_begins (λ (v : Vec Expr Global). exps v.items) c.args.room _ _ _ _ (then_on _ _ _ _ _ _ (atomic_is c.args.room c.args.span (lexemes c.args.tokens.now)) c.in_ok-word.ensures.gives) c.in_err-objects.ensures.gives)

pub returns-in_err-close-clause-begins : goal.returns-in_err-close-clause-begins
returns-in_err-close-clause-begins c = let p = err_from_is_err_and c.from_residual-in_err-close.result c.from_residual-in_err-close.ensures.1 in rw (p.1, p.2) (stop_begins (λ (x : Span). x) c.args.room _ _ _ _ (then_on _ _ _ _ _ _ (then_on _ _ _ _ _ _ (atomic_is c.args.room c.args.span (lexemes c.args.tokens.now)) c.in_ok-word.ensures.gives) c.in_ok-objects.ensures.gives) c.in_err-close.ensures.err)

pub returns-clause-begins : goal.returns-clause-begins
returns-clause-begins c =
    then_on _ _ _ _ _ _ (then_on _ _ _ _ _ _ (then_on _ _ _ _ _ _ (atomic_is c.args.room c.args.span (lexemes c.args.tokens.now)) c.in_ok-word.ensures.gives) c.in_ok-objects.ensures.gives) c.in_ok-close.ensures.ok
    ∙ ap (λ x. above (holding (fronts.Atomic c.args.span x)) (c.in_ok-objects.objects.height + 1) (reads language c.args.room g.BlockOf (lexemes c.in_ok-close.close.rest.now))) (sym c.in_ok-close.ensures.value)
    ∙ ap (λ h. above (holding (fronts.Atomic c.args.span c.in_ok-close.close.value.0)) (h + 1) (reads language c.args.room g.BlockOf (lexemes c.in_ok-close.close.rest.now))) (sym c.in_ok-close.ensures.height)
