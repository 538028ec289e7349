use Rattle.std.proofs.Common.{List, sym, ap, ◌∙◌}
use Rattle.std.specs.List.{list_any}
use Rattle.c_syntax.specs.declared.items.Member.{Member}
use Rattle.c_syntax.specs.Views as view
use Rattle.typing_spec.specs.Declarations.{approves_field}
use Rattle.elab_clauses.proofs.Tests.{any_seen}
use Rattle.elab_clauses.proofs.approvals.is_approved.Goals as goal

pub returns : goal.returns
returns c =
    let test = approves_field (view.id c.args.name.now) in
    c.any_approves.ensures ∙ (ap (λ (xs : List Member). list_any (λ x. test (view.member x)) xs) c.deref.ensures.value ∙ sym (any_seen view.member test c.args.owner.now.members.items))
