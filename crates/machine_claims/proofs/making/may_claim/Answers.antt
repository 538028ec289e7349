use Rattle.std.proofs.Common.{◌∙◌, sym}
use Rattle.object_types.specs.Sets.{is_in}
use Rattle.object_types.specs.Heap.{closed_in}
use Rattle.method.specs.Tables.{is_claimable}
use Rattle.method.specs.Actions.{may_count}
use Rattle.machine_values.specs.Spots.{heap_at, spot_at}
use Rattle.machine_claims.proofs.Claimable.{claims_no_type, claims_open, claims_twice, claims_counted}
use Rattle.machine_claims.proofs.making.may_claim.Goals as goal

pub returns-then-not-is_claimable : goal.returns-then-not-is_claimable
returns-then-not-is_claimable c x y =
    let a = c.args in
    let h = heap_at y a.heap.now in
    claims_no_type (is_claimable a.at.now.program.now a.o.ty) (closed_in h a.o) (is_in a.o a.earlier.now) (may_count (spot_at x a.at.now) h a.o) (sym c.is_claimable.ensures ∙ c.if-not-is_claimable.true)

pub returns-then-not-is_closed : goal.returns-then-not-is_closed
returns-then-not-is_closed c x y =
    let a = c.args in
    let h = heap_at y a.heap.now in
    claims_open (is_claimable a.at.now.program.now a.o.ty) (closed_in h a.o) (is_in a.o a.earlier.now) (may_count (spot_at x a.at.now) h a.o) (sym c.is_claimable.ensures ∙ c.if-not-is_claimable.false) (sym c.is_closed.ensures ∙ c.if-not-is_closed.true)

pub returns-then-contains : goal.returns-then-contains
returns-then-contains c x y =
    let a = c.args in
    let h = heap_at y a.heap.now in
    claims_twice (is_claimable a.at.now.program.now a.o.ty) (closed_in h a.o) (is_in a.o a.earlier.now) (may_count (spot_at x a.at.now) h a.o) (sym c.is_claimable.ensures ∙ c.if-not-is_claimable.false) (sym c.is_closed.ensures ∙ c.if-not-is_closed.false) (sym c.contains.ensures ∙ c.if-contains.true)

pub returns : goal.returns
returns c x y =
    let a = c.args in
    let h = heap_at y a.heap.now in
    c.may_count.ensures x y ∙ claims_counted (is_claimable a.at.now.program.now a.o.ty) (closed_in h a.o) (is_in a.o a.earlier.now) (may_count (spot_at x a.at.now) h a.o) (sym c.is_claimable.ensures ∙ c.if-not-is_claimable.false) (sym c.is_closed.ensures ∙ c.if-not-is_closed.false) (sym c.contains.ensures ∙ c.if-contains.false)
