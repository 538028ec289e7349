use Rattle.std.proofs.Common.{◌+◌, ◌++◌, ◌∙◌, ap, map, drop}
use Rattle.method.specs.SpecValue.{filling}
use Rattle.method.specs.Expressions.{scene}
use Rattle.machine_values.specs.Spots.{spot_at}
use Rattle.machine_claims.proofs.Mapping.{map_next, map_end}
use Rattle.machine_claims.proofs.making.fill_holes.Goals as goal

pub loop-hole-preserved : goal.loop-hole-preserved
loop-hole-preserved c x h =
    let a = c.args in
    let f = filling (scene (spot_at x a.at.now).context h a.locals.now) in
    ap (λ zs. zs ++ map f (drop (c.loop-hole.hole-index + 1) a.holes.now)) c.in_ok-push.ensures.items
    ∙ map_next f a.holes.now c.loop-hole.hole-index c.loop-hole.values.items (c.loop-hole.invariant x h) _ c.filling.result c.loop-hole-test.true (c.filling.ensures x h)

pub returns : goal.returns
returns c x h =
    let a = c.args in
    map_end (filling (scene (spot_at x a.at.now).context h a.locals.now)) a.holes.now c.loop-hole.hole-index c.loop-hole.values.items (c.loop-hole.invariant x h) c.loop-hole-test.false
