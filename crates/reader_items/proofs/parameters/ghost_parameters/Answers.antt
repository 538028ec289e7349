use Rattle.std.proofs.Common.{◌∙◌, sym, ap, arith, map, Vec}
use Rattle.std.proofs.lemmas.Result.{err_from_is_err_and}
use Rattle.std.specs.declared.alloc.Global.{Global}
use Rattle.c_syntax.specs.declared.items.Parameter.{Parameter}
use Rattle.c_syntax.specs.Views.{parameter}
use Rattle.reader_expressions.specs.Reading.{lexemes}
use Rattle.c_syntax.specs.Grammar as g
use Rattle.reader_assignments.proofs.Repeats.{going, start, stop, goes, fails, shorter}
use Rattle.reader_items.proofs.Params.{begins_ghost, fine_ghost, some_ghost}
use Rattle.reader_items.proofs.parameters.ghost_parameters.Goals as goal

pub more-init : goal.more-init
more-init c = record { low = omega arith; same = ap (λ xs. going c.args.room g.ghost_param (λ ys. ys) (map parameter xs) 0 (lexemes c.args.tokens.now)) c.new.ensures.items ∙ start c.args.room g.ghost_param (λ xs. xs) (lexemes c.args.tokens.now) }

pub returns-in_err-found-clause-gives : goal.returns-in_err-found-clause-gives
returns-in_err-found-clause-gives c =
    let p = err_from_is_err_and c.from_residual.result c.from_residual.ensures.1 in
    rw (p.1, p.2) (fails c.args.room g.ghost_param (λ xs. xs) fine_ghost some_ghost (λ (v : Vec Parameter Global). map parameter v.items) (λ (v : Vec Parameter Global). map parameter v.items) _ _ _ _ _ (begins_ghost _ ∙ sym c.next_is.ensures ∙ c.more-test.true) c.in_err-found.ensures.gives c.more.invariant.same)

pub more-smaller : goal.more-smaller
more-smaller c = shorter c.args.room g.ghost_param (λ xs. xs) fine_ghost some_ghost _ _ _ _ _ _ c.in_ok-found.ensures.gives

pub more-preserved : goal.more-preserved
more-preserved c = record {
  low = c.in_ok-found.ensures.low;
  same = goes c.args.room g.ghost_param (λ xs. xs) fine_ghost some_ghost _ _ _ _ _ _ _ (begins_ghost _ ∙ sym c.next_is.ensures ∙ c.more-test.true) c.in_ok-found.ensures.gives c.more.invariant.same;
}

pub returns-clause-gives : goal.returns-clause-gives
returns-clause-gives c = stop c.args.room g.ghost_param (λ xs. xs) fine_ghost some_ghost _ _ _ _ (begins_ghost _ ∙ sym c.next_is.ensures ∙ c.more-test.false) c.more.invariant.same
