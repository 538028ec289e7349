use Rattle.std.proofs.Common.{ap, ◌∙◌, List, map, Some, None}
use Rattle.std.specs.Prelude.{flat_map}
use Rattle.c_syntax.specs.Views as view
use Rattle.typing_spec.specs.Contexts.{Variable}
use Rattle.typing_spec.specs.Pieces.{in_struct}
use Rattle.c_syntax.specs.declared.items.Member.{Member}
use Rattle.typing_symbols.specs.Scopes.{known}
use Rattle.typing_symbols.specs.Whole.{program}
use Rattle.typing_expressions.specs.Violations.{violations}
use Rattle.typing_statements.specs.Parts.{in_member}
use Rattle.typing_statements.proofs.Items.{same_members}
use Rattle.typing_statements.proofs.structs.struct_members.Goals as goal

pub returns : goal.returns
returns c =
    let items = program c.args.declarations.now in
    let s = view.struct c.args.x.now.tree.now in
    let ms = map view.member c.args.x.now.tree.now.members.items in
    let around = record (in_struct items s) { scope = record { items = items; variables = known c.new-variables.result; this = Some s; result = None } } in
    c.members.ensures ∙ (ap (λ (xs : List Member). violations (flat_map (in_member around) (map view.member xs))) c.deref.ensures.value
    ∙ (ap (λ (vs : List Variable). violations (flat_map (in_member (record (in_struct items s) { scope = record { items = items; variables = vs; this = Some s; result = None } })) ms)) c.new-variables.ensures
    ∙ ap violations (same_members items s ms)))
