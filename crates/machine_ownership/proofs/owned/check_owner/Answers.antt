use Rattle.std.proofs.Common.{◌+◌, ◌∙◌, sym}
use Rattle.machine_values.specs.Spots.{heap_at, spot_at}
use Rattle.machine_ownership.proofs.Changing.{owner_no_write, owner_no_writes, owner_passes}
use Rattle.machine_ownership.proofs.owned.check_owner.Goals as goal

pub returns-then-not-mutable : goal.returns-then-not-mutable
returns-then-not-mutable c n x y finite more =
    let a = c.args in
    rw c.fault.ensures (n, owner_no_write (spot_at x a.at.now) (heap_at y a.h.now) a.o n more (sym c.mutable.ensures ∙ c.if-not-mutable.true))

pub returns-then-not-may_write : goal.returns-then-not-may_write
returns-then-not-may_write c n x y finite more =
    let a = c.args in
    rw c.fault-then-not-may_write.ensures (n + 1, owner_no_writes (spot_at x a.at.now) (heap_at y a.h.now) a.o n more (sym c.mutable.ensures ∙ c.if-not-mutable.false) (sym (c.may_write.ensures x) ∙ c.if-not-may_write.true))

pub returns : goal.returns
returns c n x y finite more =
    let a = c.args in
    owner_passes (spot_at x a.at.now) (heap_at y a.h.now) a.o n more (sym c.mutable.ensures ∙ c.if-not-mutable.false) (sym (c.may_write.ensures x) ∙ c.if-not-may_write.false)
