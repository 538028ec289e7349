use Rattle.std.proofs.Common.{◌∙◌, ◌&&◌, sym, ap}
use Rattle.method.specs.Expressions.{may_write}
use Rattle.machine_values.specs.Spots.{spot_at}
use Rattle.machine_ownership.proofs.items.is_owned.Goals as goal

pub returns : goal.returns
returns c x y =
    c.may_write.ensures x ∙ sym (ap (λ b. b && may_write (spot_at x c.args.at.now) c.args.o) (sym c.wrapped.ensures ∙ c.if-not-wrapped.false))
