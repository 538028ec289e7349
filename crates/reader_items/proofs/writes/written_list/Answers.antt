use Rattle.std.proofs.Common.{◌∙◌, sym, map, Vec}
use Rattle.std.proofs.lemmas.Result.{err_from_is_err_and}
use Rattle.std.specs.declared.alloc.Global.{Global}
use Rattle.c_syntax.specs.declared.items.WritesItem.{WritesItem}
use Rattle.c_syntax.specs.Views.{written}
use Rattle.c_syntax.specs.Grammar as g
use Rattle.reader_expressions.specs.Reading.{lexemes}
use Rattle.reader_expressions.proofs.Outcomes.{first_err}
use Rattle.reader_items.proofs.Lists.{whole_list, start, stop, goes, fails, shorter}
use Rattle.reader_items.proofs.Written.{fine_written}
use Rattle.reader_items.proofs.writes.written_list.Goals as goal

pub returns-in_err-first-clause-gives : goal.returns-in_err-first-clause-gives
returns-in_err-first-clause-gives c =
    let p = err_from_is_err_and c.from_residual.result c.from_residual.ensures.1 in
    rw (p.1, p.2) (first_err (λ (v : Vec WritesItem Global). map written v.items) (λ (v : Vec WritesItem Global). map written v.items) _ _ _ _ (whole_list c.args.room g.written (lexemes c.args.tokens.now)) c.in_err-first.ensures.gives)

pub more-init : goal.more-init
more-init c = record { low = c.in_ok-first.ensures.low; same = start c.args.room g.written _ _ _ _ c.in_ok-first.ensures.gives }

pub returns-in_err-found-clause-gives : goal.returns-in_err-found-clause-gives
returns-in_err-found-clause-gives c =
    let p = err_from_is_err_and c.from_residual-in_err-found.result c.from_residual-in_err-found.ensures.1 in
    rw (p.1, p.2) (fails c.args.room g.written fine_written (λ (v : Vec WritesItem Global). map written v.items) (λ (v : Vec WritesItem Global). map written v.items) _ _ _ _ _ (sym c.next_is.ensures ∙ c.more-test.true) c.in_err-found.ensures.gives c.more.invariant.same)

pub more-smaller : goal.more-smaller
more-smaller c = shorter c.args.room g.written fine_written _ _ _ _ _ _ c.in_ok-found.ensures.gives

pub more-preserved : goal.more-preserved
more-preserved c = record {
  low = c.in_ok-found.ensures.low;
  same = goes c.args.room g.written fine_written _ _ _ _ _ _ _ (sym c.next_is.ensures ∙ c.more-test.true) c.in_ok-found.ensures.gives c.more.invariant.same;
}

pub returns-clause-gives : goal.returns-clause-gives
returns-clause-gives c = stop c.args.room g.written fine_written _ _ _ _ (sym c.next_is.ensures ∙ c.more-test.false) c.more.invariant.same
