use Rattle.std.proofs.Common.{◌≡◌, ap, ◌∙◌, Some, None, refl}
use Rattle.std.specs.List.{position}
use Rattle.vcc_base.specs.Entries.{is_named}
use Rattle.vcc_base.proofs.Holding.{found_none, found_some}
use Rattle.vcc_base.proofs.memory.MemStoreStore.append.Goals as goal

pub returns-in_default-clause-missing : goal.returns-in_default-clause-missing
returns-in_default-clause-missing c =
    let place : None ≡ position (is_named c.args.name.now) c.self.inside.entries.items = c.in_default.ensures ∙ ap (λ es. position (is_named c.args.name.now) es) c.as_slice.ensures.value in
    rw (← c.self.view_is) (λ is. (found_none c.self.inside.entries.items c.args.name.now place, refl))

pub returns-then-contains-clause-absent : goal.returns-then-contains-clause-absent
returns-then-contains-clause-absent c =
    let place : Some c.in-Some.i ≡ position (is_named c.args.name.now) c.self.inside.entries.items = c.in-Some.ensures ∙ ap (λ es. position (is_named c.args.name.now) es) c.as_slice.ensures.value in
    rw (← c.self.view_is) (λ none. absurd (found_some c.self.inside.entries.items c.args.name.now c.in-Some.i place none))

pub returns-in-Ok-clause-absent : goal.returns-in-Ok-clause-absent
returns-in-Ok-clause-absent c =
    let place : Some c.in-Some.i ≡ position (is_named c.args.name.now) c.self.inside.entries.items = c.in-Some.ensures ∙ ap (λ es. position (is_named c.args.name.now) es) c.as_slice.ensures.value in
    rw (← c.self.view_is) (λ none. absurd (found_some c.self.inside.entries.items c.args.name.now c.in-Some.i place none))
