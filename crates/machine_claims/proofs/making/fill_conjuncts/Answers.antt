use Rattle.std.proofs.Common.{◌+◌, ◌++◌, ◌∙◌, ap, map, drop}
use Rattle.method.specs.SpecValue.{entry_of}
use Rattle.method.specs.Expressions.{scene}
use Rattle.machine_values.specs.Spots.{spot_at}
use Rattle.machine_claims.proofs.Mapping.{map_next, map_end}
use Rattle.machine_claims.proofs.making.fill_conjuncts.Goals as goal

pub loop-conjunct-preserved : goal.loop-conjunct-preserved
loop-conjunct-preserved c x h =
    let a = c.args in
    let f = entry_of (scene (spot_at x a.at.now).context h a.locals.now) in
    ap (λ zs. zs ++ map f (drop (c.loop-conjunct.conjunct-index + 1) a.conjuncts.now)) c.in_ok-push.ensures.items
    ∙ map_next f a.conjuncts.now c.loop-conjunct.conjunct-index c.loop-conjunct.entries.items (c.loop-conjunct.invariant x h) c.conjunct-item.result c.in_ok-fill_conjunct.field-0 c.loop-conjunct-test.true (c.in_ok-fill_conjunct.ensures x h ∙ ap f c.conjunct-item.is)

pub returns : goal.returns
returns c x h =
    let a = c.args in
    map_end (entry_of (scene (spot_at x a.at.now).context h a.locals.now)) a.conjuncts.now c.loop-conjunct.conjunct-index c.loop-conjunct.entries.items (c.loop-conjunct.invariant x h) c.loop-conjunct-test.false
