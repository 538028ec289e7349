use Rattle.std.proofs.Common.{List, sym, ap, ◌∙◌}
use Rattle.std.specs.List.{list_any}
use Rattle.c_syntax.specs.declared.items.Member.{Member}
use Rattle.c_syntax.specs.Views as view
use Rattle.typing_spec.specs.Declarations.{member_is_approval}
use Rattle.elab_clauses.proofs.Tests.{any_seen}
use Rattle.elab_clauses.proofs.approvals.has_approval.Goals as goal

pub returns : goal.returns
returns c = c.any_approval.ensures ∙ (ap (λ (xs : List Member). list_any (λ x. member_is_approval (view.member x)) xs) c.deref.ensures.value ∙ sym (any_seen view.member member_is_approval c.args.owner.now.members.items))
