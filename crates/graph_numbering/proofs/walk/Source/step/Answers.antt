use Rattle.std.proofs.Common.{◌-◌, ◌+◌, ◌<◌, ◌≤◌, ℕ, List, [], ◌∷◌, ◌++◌, All, length, get_or, take, drop, reverse, vec_items, refl, ap, sym, ◌∙◌, subst}
use Rattle.graph_numbering.specs.declared.walk.Visit.{Visit}
use Rattle.graph_numbering.specs.Walk.{placed_front}
use Rattle.graph_numbering.proofs.Steps.{visit_room, pushed_within, descended, whole_step, given_step, null_step, finished}
use Rattle.graph_numbering.proofs.walk.Source.step.Goals as goal

pub returns-then-next-args-clause-step : goal.returns-then-next-args-clause-step
returns-then-next-args-clause-step c =
    λ old root w.
    (let v = c.args.visit in
    let t = c.node-node.result.now in
    let next = c.in_ok-next-in-Itself.next in
    let sub : List ℕ → Visit = λ xs. record { node = get_or xs next 0; next = 0 } in
    descended _ _ old root _ v _ _ _ t c.node-node.ensures.node c.args.stacks.now.visits.items c.push_placed.new.self.visits.items c.descend.new.self.visits.items
    (placed_front c.args.places.now (drop v.next c.numbers-args.result.now)) c.push_placed.new.self.numbers.items c.descend.new.self.numbers.items next
    (record { node = v.node; next = next + 1 }) (sub c.numbers-args.result.now) refl
    (ap (λ xs. placed_front c.args.places.now (drop v.next xs)) c.numbers-args.ensures) c.in_ok-next-in-Itself.ensures.next
    (subst (λ (xs : List ℕ). next < length xs) c.numbers-args.ensures c.if-next-args.true) refl (ap sub c.numbers-args.ensures)
    c.node-node.ensures.below w (sym c.in-Itself.ensures) c.in_ok-descend-in-Itself.ensures.visits (ap vec_items c.in_ok-next-in-Itself.ensures.visits)
    (ap vec_items c.in_ok-descend-in-Itself.ensures.numbers) c.in_ok-next-in-Itself.ensures.numbers)

pub intern-requires-clause-within : goal.intern-requires-clause-within
intern-requires-clause-within c =
    subst (λ (xs : List ℕ). All (λ a. a < length c.args.target.now) xs) (sym c.in_ok-next-in-Itself.ensures.numbers)
    (pushed_within _ _ c.requires.0 c.requires.1 _ c.args.visit _ _ _ c.node-node.result.now c.node-node.ensures.node
    (placed_front c.args.places.now (drop c.args.visit.next c.numbers-args.result.now))
    (ap (λ xs. placed_front c.args.places.now (drop c.args.visit.next xs)) c.numbers-args.ensures) c.requires.2)

pub end-requires : goal.end-requires
end-requires c = visit_room _ _ c.requires.0 c.requires.1 _ _ _ _ _ c.requires.2

pub end-requires-in-Given : goal.end-requires-in-Given
end-requires-in-Given c = visit_room _ _ c.requires.0 c.requires.1 _ _ _ _ _ c.requires.2

pub end-requires-in-Null : goal.end-requires-in-Null
end-requires-in-Null c = visit_room _ _ c.requires.0 c.requires.1 _ _ _ _ _ c.requires.2

pub returns-in_ok-end-in-Itself-clause-step : goal.returns-in_ok-end-in-Itself-clause-step
returns-in_ok-end-in-Itself-clause-step c =
    λ old root w.
    (let v = c.args.visit in
    let t = c.node-node.result.now in
    let id = c.in_ok-id-in-Itself.id in
    let pushed = c.push_placed.new.self.numbers.items in
    finished _ _ old root _ v _ c.args.target.now c.args.stacks.now.numbers.items c.end.new.places c.intern.new.target id (reverse c.end.new.self.visits.items) (take (length pushed - length t.args) pushed) c.end.new.self.numbers.items
    (whole_step _ _ old root _ v _ _ _ t c.node-node.ensures.node (placed_front c.args.places.now (drop v.next c.numbers-args.result.now)) pushed c.in_ok-next-in-Itself.next c.intern.new.target id
    (ap (λ xs. placed_front c.args.places.now (drop v.next xs)) c.numbers-args.ensures) c.in_ok-next-in-Itself.ensures.next
    (subst (λ (xs : List ℕ). length xs ≤ c.in_ok-next-in-Itself.next) c.numbers-args.ensures c.if-next-args.false) w (sym c.in-Itself.ensures)
    c.in_ok-next-in-Itself.ensures.numbers c.in_ok-id-in-Itself.ensures.interned c.in_ok-id-in-Itself.ensures.within)
    c.in_ok-end-in-Itself.ensures.places
    (ap (λ xs. reverse (vec_items xs)) (c.in_ok-end-in-Itself.ensures.visits ∙ c.in_ok-id-in-Itself.ensures.visits ∙ c.in_ok-next-in-Itself.ensures.visits))
    (c.in_ok-end-in-Itself.ensures.numbers ∙ ap (λ xs. xs ++ id ∷ []) c.in_ok-id-in-Itself.ensures.numbers))

pub returns-in_ok-end-in-Given-clause-step : goal.returns-in_ok-end-in-Given-clause-step
returns-in_ok-end-in-Given-clause-step c =
    λ old root w.
    (let v = c.args.visit in
    let id = c.in-Given.id in
    finished _ _ old root _ v _ c.args.target.now c.args.stacks.now.numbers.items c.end-in-Given.new.places c.args.target.now id (reverse c.end-in-Given.new.self.visits.items) c.args.stacks.now.numbers.items c.end-in-Given.new.self.numbers.items
    (given_step _ _ old root _ v _ _ _ c.node-node.result.now c.node-node.ensures.node id c.known.ensures w (sym c.in-Given.ensures))
    c.in_ok-end-in-Given.ensures.places (ap (λ xs. reverse (vec_items xs)) c.in_ok-end-in-Given.ensures.visits) c.in_ok-end-in-Given.ensures.numbers)

pub returns-in_ok-end-in-Null-clause-step : goal.returns-in_ok-end-in-Null-clause-step
returns-in_ok-end-in-Null-clause-step c =
    λ old root w.
    (let v = c.args.visit in
    let id = c.in_ok-id-in-Null.id in
    finished _ _ old root _ v _ c.args.target.now c.args.stacks.now.numbers.items c.end-in-Null.new.places c.intern_null.new.target id (reverse c.end-in-Null.new.self.visits.items) c.args.stacks.now.numbers.items c.end-in-Null.new.self.numbers.items
    (null_step _ _ old root _ v _ _ _ c.node-node.result.now c.node-node.ensures.node c.intern_null.new.target id c.known.ensures w (sym c.in-Null.ensures) c.in_ok-id-in-Null.ensures.interned c.in_ok-id-in-Null.ensures.within)
    c.in_ok-end-in-Null.ensures.places (ap (λ xs. reverse (vec_items xs)) c.in_ok-end-in-Null.ensures.visits) c.in_ok-end-in-Null.ensures.numbers)
