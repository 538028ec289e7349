use Rattle.std.proofs.Common.{◌≡◌, ◌+◌, ◌++◌, ◌∷◌, [], length, length-append, ap, ◌∙◌, rules}
use Rattle.std.proofs.lemmas.Slice.Zip.{zip_turn, zip_end}
use Rattle.condition_actions.proofs.BlockEnds.{plain_left, claim_passed, all_taken}
use Rattle.condition_actions.proofs.blocks.plain_objects.Goals as goal

pub loop-item-preserved : goal.loop-item-preserved
loop-item-preserved c =
    let l = c.loop-item in
    let ls = c.args.listed.now in
    let os = c.args.objects.now in
    let x = c.in-Some.item in
    let o = c.in-Some.o in
    let first : c.into_iter-item-iterator.result.a.rest.now ≡ ls = search rules in
    let second : c.into_iter-item-iterator.result.b.rest.now ≡ os = search rules in
    let turn = zip_turn ls os l.yielded c.into_iter-item-iterator.result l.item-iterator c.next.new.self c.next.result first second l.yielded_by (x, o) c.in-Some.is c.next.ensures.steps in
    let following : length (l.yielded ++ (x, o) ∷ []) ≡ length l.yielded + 1 = length-append l.yielded ((x, o) ∷ []) in
    ap (λ n. l.plain.items ++ plain_left ls os n) following
    ∙ claim_passed ls os (length l.yielded) x.now o.now turn.0 turn.1 (turn.2 x.now) (turn.3 o.now) l.plain.items _ c.if-not-item.false l.invariant

pub returns : goal.returns
returns c =
    let l = c.loop-item in
    let ls = c.args.listed.now in
    let os = c.args.objects.now in
    let first : c.into_iter-item-iterator.result.a.rest.now ≡ ls = search rules in
    let second : c.into_iter-item-iterator.result.b.rest.now ≡ os = search rules in
    let ended = zip_end ls os l.yielded c.into_iter-item-iterator.result l.item-iterator c.next.new.self c.next.result first second l.yielded_by c.in-None.is c.next.ensures.steps in
    all_taken ls os (length l.yielded) _ _ ended l.invariant
