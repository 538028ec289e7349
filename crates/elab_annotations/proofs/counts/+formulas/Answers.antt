use Rattle.std.proofs.Common.{ℕ, ◌+◌, ap, sym, ◌∙◌, arith}
use Rattle.c_syntax.specs.Expressions.{Exp}
use Rattle.c_syntax.specs.Grammar.{exps_of}
use Rattle.c_syntax.specs.Views.{exps}
use Rattle.typed_program.specs.Annotations.{formulas, all_formulas}
use Rattle.elab_annotations.proofs.Steps.{told}
use Rattle.typing_expressions.proofs.Rows.{several}
use Rattle.elab_annotations.proofs.Vectors.{all_behind, counted, counted_all}
use Rattle.elab_annotations.proofs.counts.+formulas.Goals as goal

pub next_formula-returns-in_ok-start-in-Several : goal.next_formula-returns-in_ok-start-in-Several
next_formula-returns-in_ok-start-in-Several t c =
    let s = c.in-Several in
    let items = c.deref-in-Several.result.now in
    let whole = several c.args.x.now s.field-0 s.word s.arguments items s.is c.deref-in-Several.ensures.value in
    let count = all_formulas (exps_of (exps items)) in
    told (λ n. n) c.behind_all.result c.behind_all.ensures
    (ap (λ (n : ℕ). n + count) c.in_ok-start-in-Several.ensures ∙ (ap (λ (n : ℕ). (c.args.first + n) + count) c.own_formulas.ensures ∙ (all_behind c.args.first _ count ∙ sym (ap (λ (z : Exp). c.args.first + formulas z) whole))))

pub behind_all-returns : goal.behind_all-returns
behind_all-returns t c = counted_all c.args.all.now c.loop-x.x-index c.loop-x.next _ (omega arith) c.loop-x.invariant

pub behind_all-loop-x-preserved : goal.behind_all-loop-x-preserved
behind_all-loop-x-preserved t c = counted c.args.all.now c.loop-x.x-index c.x-item.result c.loop-x-test.true c.x-item.is c.loop-x.next _ _ c.in_ok-next.ensures c.loop-x.invariant
