use Rattle.std.proofs.Common.{refl, sym, ap, ◌∙◌, List, Bool, ◌||◌, take, Bor, arith}
use Rattle.std.specs.Str.{bytes_eq}
use Rattle.c_syntax.specs.declared.expressions.Identifier.{Identifier}
use Rattle.c_syntax.specs.Views as view
use Rattle.typing_expressions.specs.Views.{maybe_broken}
use Rattle.typing_expressions.proofs.Rows.{take_all}
use Rattle.typing_program.specs.Violation.{twice}
use Rattle.typing_program.specs.Names.{held}
use Rattle.typing_program.proofs.Repeated.{stands_more}
use Rattle.typing_program.proofs.Steps.{repeated_next, stands_next}
use Rattle.typing_program.proofs.names.first_repeated.Goals as goal

pub loop-name-init : goal.loop-name-init
loop-name-init c = (refl, c.new-name_set.ensures)

pub loop-name-preserved : goal.loop-name-preserved
loop-name-preserved c =
    let ns = c.args.names.now in
    let i = c.loop-name.name-index in
    let n = c.name-item.result in (
      repeated_next ns i n c.in_ok-is_repeated.is_repeated (maybe_broken c.loop-name.so_far) _ _ c.loop-name-test.true c.name-item.is c.loop-name.invariant.0 (c.in_ok-is_repeated.ensures.known ∙ c.loop-name.invariant.1 (view.id n.now).name) c.broken_if.ensures
          c.earlier-so_far.ensures,
      λ y. c.in_ok-is_repeated.ensures.grown y
          ∙ (ap (λ (b : Bool). bytes_eq (view.id n.now).name y || b) (c.loop-name.invariant.1 y) ∙ (sym (stands_more y (held (take i ns)) (view.id n.now)) ∙ sym (stands_next ns i n y c.loop-name-test.true c.name-item.is))),
    )

pub returns : goal.returns
returns c = c.loop-name.invariant.0 ∙ ap (λ (ns : List (Bor Identifier)). twice (held ns)) (take_all c.args.names.now c.loop-name.name-index (omega arith))
