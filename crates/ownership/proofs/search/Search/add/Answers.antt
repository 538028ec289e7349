use Rattle.std.proofs.Common.{◌≡◌, length, refl, sym, ap, ◌∙◌}
use Rattle.object_types.specs.Sets.{with_member}
use Rattle.ownership.proofs.Adding.{adds_member, adds_new, member_of_length, new_of_length}
use Rattle.ownership.proofs.search.Search.add.Goals as goal

pub returns-then-as_slice-before : goal.returns-then-as_slice-before
returns-then-as_slice-before c =
    let set = c.args.self.now.found in
    let grown = c.in_ok-set.ensures.ok in
    let same : length (with_member c.args.o set) ≡ length set = ap length (sym grown) ∙ ap length (sym c.as_slice.ensures) ∙ c.if-as_slice-before.true ∙ ap length c.as_slice-before.ensures in
    record { ok = adds_member _ _ c.args.o grown refl (member_of_length c.args.o set c.args.self.now.ordered same) }

pub returns : goal.returns
returns c =
    let set = c.args.self.now.found in
    let grown = c.in_ok-set.ensures.ok in
    record { ok = adds_new _ _ c.args.o grown c.in_ok-push.ensures.items (new_of_length c.args.o set c.args.self.now.ordered (λ same. c.if-as_slice-before.false (ap length c.as_slice.ensures ∙ ap length grown ∙ same ∙ ap length (sym c.as_slice-before.ensures)))) }
