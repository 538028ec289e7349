use Rattle.std.proofs.Common.{◌≡◌, true, subst}
use Rattle.std.proofs.lemmas.Slice.Eq.{slice_eq-Decides}
use Rattle.object_types.specs.References.{same_ref}
use Rattle.object_types.proofs.Orders.{ref_order}
use Rattle.object_types.proofs.sets.same_members.Goals as goal

pub returns : goal.returns
unfolding same_ref
returns c = slice_eq-Decides (λ a b. (λ h. ref_order.equal a b h, λ e. subst (λ x. same_ref a x ≡ true) e (ref_order.itself a))) _ _ _ c.eq.ensures
