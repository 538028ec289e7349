use Rattle.std.proofs.Common.{rules, ◌≡◌, ◌-◌, ◌<◌, FitsSigned, to_z, of_z, length, drop}
use mir.Syntax.{w128}
use Rattle.std.proofs.lemmas.Int.{to_z-of_z}
use Rattle.std.proofs.lemmas.List.Elements.{All-drop}
use Rattle.graph_numbering.proofs.Results.{slice_from, added_whole, interned_within}
use Rattle.graph_numbering.proofs.walk.Stacks.intern.Goals as goal

pub returns-clause-interned : goal.returns-clause-interned
returns-clause-interned c =
    let old = c.args.target.now in
    let node = c.args.node.now in
    let numbers = c.args.self.now.numbers.items in
    let first = length numbers - length node.args in
    let fits : FitsSigned w128 node.index = search rules in
    let size : c.len.result ≡ length numbers = search rules in
    let count : length c.numbers.result.now ≡ length node.args = search rules in
    let items : c.deref.result.now ≡ numbers = search rules in
    let start : c.len.result - length c.numbers.result.now ≡ first = (λ i. size i - count i) in
    added_whole old c.add.new.self node.kind (to_z w128 (of_z w128 node.index)) node.index _ (drop first numbers) c.in_ok-id.id
    (to_z-of_z w128 node.index fits) (slice_from c.deref.result.now numbers _ first items start) (All-drop (λ a. a < length old) first numbers c.requires.within) c.in_ok-id.ensures.interned

pub returns-clause-within : goal.returns-clause-within
returns-clause-within c = interned_within _ _ _ _ c.in_ok-id.ensures.interned
