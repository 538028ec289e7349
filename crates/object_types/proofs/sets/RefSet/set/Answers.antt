use Rattle.std.proofs.Common.{◌≡◌, true, sym, subst, ◌∙◌}
use Rattle.object_types.specs.References.{ref_lt}
use Rattle.object_types.specs.Places.{is_ordered}
use Rattle.object_types.proofs.Members.{member_stays, member_leaves, other_stays_out, other_enters, set_member_ordered}
use Rattle.object_types.proofs.sets.RefSet.set.Goals as goal

pub returns-then-holds-clause-ok : goal.returns-then-holds-clause-ok
returns-then-holds-clause-ok c = member_stays _ _ c.in-Ok.place _ c.in-Ok.ensures.found c.if-holds.true

pub returns-else-holds-clause-ok : goal.returns-else-holds-clause-ok
returns-else-holds-clause-ok c =
    let sorted = subst (λ l. is_ordered ref_lt l ≡ true) c.self.view_is c.self.invariant in
    c.remove.ensures.items ∙ rw c.self.view_is (member_leaves _ _ c.in-Ok.place _ sorted c.in-Ok.ensures.found c.if-holds.false)

pub returns-else-holds-clause-ordered : goal.returns-else-holds-clause-ordered
returns-else-holds-clause-ordered c =
    let sorted = subst (λ l. is_ordered ref_lt l ≡ true) c.self.view_is c.self.invariant in
    subst (λ l. is_ordered ref_lt l ≡ true) (sym (returns-else-holds-clause-ok c)) (set_member_ordered _ _ _ sorted)

pub invariant_of-self : goal.invariant_of-self
invariant_of-self c = returns-else-holds-clause-ordered c

pub returns-then-not-holds-clause-ok : goal.returns-then-not-holds-clause-ok
returns-then-not-holds-clause-ok c =
    let sorted = subst (λ l. is_ordered ref_lt l ≡ true) c.self.view_is c.self.invariant in
    other_stays_out _ _ c.in-Err.place _ sorted c.in-Err.ensures.absent c.if-not-holds.true

pub returns-in_ok-insert-in-Err-clause-ok : goal.returns-in_ok-insert-in-Err-clause-ok
returns-in_ok-insert-in-Err-clause-ok c =
    c.in_ok-insert-in-Err.ensures.items ∙ rw c.self.view_is (other_enters _ _ c.in-Err.place _ c.in-Err.ensures.absent c.if-not-holds.false)

pub returns-in_ok-insert-in-Err-clause-ordered : goal.returns-in_ok-insert-in-Err-clause-ordered
returns-in_ok-insert-in-Err-clause-ordered c =
    let sorted = subst (λ l. is_ordered ref_lt l ≡ true) c.self.view_is c.self.invariant in
    subst (λ l. is_ordered ref_lt l ≡ true) (sym (returns-in_ok-insert-in-Err-clause-ok c)) (set_member_ordered _ _ _ sorted)

pub invariant_of-self-in-Err : goal.invariant_of-self-in-Err
invariant_of-self-in-Err c = returns-in_ok-insert-in-Err-clause-ordered c
