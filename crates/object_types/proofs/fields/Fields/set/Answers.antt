use Rattle.std.proofs.Common.{◌≡◌, true, sym, subst, ◌∙◌}
use Rattle.object_types.specs.Places.{is_ordered}
use Rattle.object_types.specs.Sets.{every}
use Rattle.object_types.specs.Fields.{kept_lt, is_set}
use Rattle.object_types.proofs.FieldChanges.{field_leaves, field_changes, field_stays_out, field_enters, with_kept_ordered, with_kept_set}
use Rattle.object_types.proofs.fields.Fields.set.Goals as goal

pub returns-then-is_zero-clause-ok : goal.returns-then-is_zero-clause-ok
returns-then-is_zero-clause-ok c =
    let sorted = subst (λ l. is_ordered kept_lt l ≡ true) c.self.view_is c.self.invariant.0 in
    c.remove.ensures.items ∙ rw c.self.view_is (field_leaves c.args.field c.args.value c.args.self.now c.in-Ok.place sorted c.in-Ok.ensures.found (sym c.is_zero.ensures ∙ c.if-is_zero.true))

pub returns-then-is_zero-clause-ordered : goal.returns-then-is_zero-clause-ordered
returns-then-is_zero-clause-ordered c =
    let sorted = subst (λ l. is_ordered kept_lt l ≡ true) c.self.view_is c.self.invariant.0 in
    subst (λ l. is_ordered kept_lt l ≡ true) (sym (returns-then-is_zero-clause-ok c)) (with_kept_ordered c.args.field c.args.value c.args.self.now sorted)

pub returns-then-is_zero-clause-set : goal.returns-then-is_zero-clause-set
returns-then-is_zero-clause-set c =
    let all_set = subst (λ l. every is_set l ≡ true) c.self.view_is c.self.invariant.1 in
    subst (λ l. every is_set l ≡ true) (sym (returns-then-is_zero-clause-ok c)) (with_kept_set c.args.field c.args.value c.args.self.now all_set)

pub invariant_of-self : goal.invariant_of-self
invariant_of-self c = (returns-then-is_zero-clause-ordered c, returns-then-is_zero-clause-set c)

pub returns-else-is_zero-clause-ok : goal.returns-else-is_zero-clause-ok
returns-else-is_zero-clause-ok c = rw c.self.view_is (field_changes c.args.field c.args.value c.args.self.now c.in-Ok.place c.in-Ok.ensures.found (sym c.is_zero.ensures ∙ c.if-is_zero.false))

pub returns-else-is_zero-clause-ordered : goal.returns-else-is_zero-clause-ordered
returns-else-is_zero-clause-ordered c =
    let sorted = subst (λ l. is_ordered kept_lt l ≡ true) c.self.view_is c.self.invariant.0 in
    subst (λ l. is_ordered kept_lt l ≡ true) (sym (returns-else-is_zero-clause-ok c)) (with_kept_ordered c.args.field c.args.value c.args.self.now sorted)

pub returns-else-is_zero-clause-set : goal.returns-else-is_zero-clause-set
returns-else-is_zero-clause-set c =
    let all_set = subst (λ l. every is_set l ≡ true) c.self.view_is c.self.invariant.1 in
    subst (λ l. every is_set l ≡ true) (sym (returns-else-is_zero-clause-ok c)) (with_kept_set c.args.field c.args.value c.args.self.now all_set)

pub invariant_of-self-in-Ok : goal.invariant_of-self-in-Ok
invariant_of-self-in-Ok c = (returns-else-is_zero-clause-ordered c, returns-else-is_zero-clause-set c)

pub returns-then-is_zero-2-clause-ok : goal.returns-then-is_zero-2-clause-ok
returns-then-is_zero-2-clause-ok c =
    let sorted = subst (λ l. is_ordered kept_lt l ≡ true) c.self.view_is c.self.invariant.0 in
    field_stays_out c.args.field c.args.value c.args.self.now c.in-Err.place sorted c.in-Err.ensures.absent (sym c.is_zero-in-Err.ensures ∙ c.if-is_zero-2.true)

pub returns-in_ok-insert-in-Err-clause-ok : goal.returns-in_ok-insert-in-Err-clause-ok
returns-in_ok-insert-in-Err-clause-ok c =
    c.in_ok-insert-in-Err.ensures.items ∙ rw c.self.view_is (field_enters c.args.field c.args.value c.args.self.now c.in-Err.place c.in-Err.ensures.absent (sym c.is_zero-in-Err.ensures ∙ c.if-is_zero-2.false))

pub returns-in_ok-insert-in-Err-clause-ordered : goal.returns-in_ok-insert-in-Err-clause-ordered
returns-in_ok-insert-in-Err-clause-ordered c =
    let sorted = subst (λ l. is_ordered kept_lt l ≡ true) c.self.view_is c.self.invariant.0 in
    subst (λ l. is_ordered kept_lt l ≡ true) (sym (returns-in_ok-insert-in-Err-clause-ok c)) (with_kept_ordered c.args.field c.args.value c.args.self.now sorted)

pub returns-in_ok-insert-in-Err-clause-set : goal.returns-in_ok-insert-in-Err-clause-set
returns-in_ok-insert-in-Err-clause-set c =
    let all_set = subst (λ l. every is_set l ≡ true) c.self.view_is c.self.invariant.1 in
    subst (λ l. every is_set l ≡ true) (sym (returns-in_ok-insert-in-Err-clause-ok c)) (with_kept_set c.args.field c.args.value c.args.self.now all_set)

pub invariant_of-self-in-Err : goal.invariant_of-self-in-Err
invariant_of-self-in-Err c = (returns-in_ok-insert-in-Err-clause-ordered c, returns-in_ok-insert-in-Err-clause-set c)
