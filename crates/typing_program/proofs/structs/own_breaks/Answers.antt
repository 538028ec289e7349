use Rattle.std.proofs.Common.{ap, ◌∙◌, List, Bor, map}
use Rattle.c_syntax.specs.declared.expressions.Identifier.{Identifier}
use Rattle.c_syntax.specs.declared.items.Member.{Member}
use Rattle.c_syntax.specs.Views as view
use Rattle.typing_expressions.specs.Views.{maybe_broken}
use Rattle.typing_program.specs.Violation.{twice, is_out_of_form, misapprovals}
use Rattle.typing_program.specs.Names.{held, field_names}
use Rattle.typing_program.proofs.Firsts.{struct_together}
use Rattle.typing_program.proofs.structs.own_breaks.Goals as goal

pub returns : goal.returns
returns c =
    let s = view.struct c.args.x.now.tree.now in
    struct_together s (held c.in_ok-names.names.items) c.is_out_of_form.result (maybe_broken c.in_ok-twice.twice) (maybe_broken c.broken_if-form.result) (maybe_broken c.misapprovals-approvals.result) _ _ (c.in_ok-names.ensures ∙ ap (λ (ms : List Member). field_names (map view.member ms)) c.deref.ensures.value)
    (c.in_ok-twice.ensures ∙ ap (λ (ns : List (Bor Identifier)). twice (held ns)) c.deref-2.ensures.value) (c.is_out_of_form.ensures ∙ ap (λ (ns : List (Bor Identifier)). is_out_of_form s (held ns)) c.deref-3.ensures.value) c.broken_if-form.ensures
    (c.misapprovals-approvals.ensures ∙ ap (λ (ms : List Member). misapprovals s (map view.member ms)) c.deref-4.ensures.value) c.earlier.ensures c.earlier-2.ensures
