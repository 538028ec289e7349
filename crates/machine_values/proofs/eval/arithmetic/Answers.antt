use Rattle.std.proofs.Common.{◌∙◌, sym, ap}
use Rattle.object_types.specs.Values.{int}
use Rattle.int_ranges.specs.Ranges.{in_range}
use Rattle.method.specs.Expressions.{checked_result}
use Rattle.machine_values.specs.Spots.{spot_at}
use Rattle.machine_values.proofs.Operators.{lacks, leaves, fits}
use Rattle.machine_values.proofs.Ranges.{leaves_range}
use Rattle.machine_values.proofs.eval.arithmetic.Goals as goal

pub returns-then-lacks_quotient : goal.returns-then-lacks_quotient
returns-then-lacks_quotient c n x =
    let a = c.args in
    rw c.fault.ensures (n, lacks (spot_at x a.at.now) a.ty (int a.a) (int a.b) n a.operator (sym c.lacks_quotient.ensures ∙ c.if-lacks_quotient.true))

pub returns-in_default : goal.returns-in_default
returns-in_default c n x =
    let a = c.args in
    let z = checked_result a.operator (int a.a) (int a.b) in
    let out = rw c.in_default.is at c.checked_result.ensures in
    rw c.fault-in_default.ensures (leaves (spot_at x a.at.now) a.ty (int a.a) (int a.b) n a.operator (sym c.lacks_quotient.ensures ∙ c.if-lacks_quotient.false) (leaves_range a.ty z out))

pub returns-then-not-has_number : goal.returns-then-not-has_number
returns-then-not-has_number c n x =
    let a = c.args in
    let is = rw c.in-Ok.is at c.checked_result.ensures in
    rw c.fault-then-not-has_number.ensures (leaves (spot_at x a.at.now) a.ty (int a.a) (int a.b) n a.operator (sym c.lacks_quotient.ensures ∙ c.if-lacks_quotient.false) (ap (λ v. in_range a.ty (int v)) (sym is) ∙ sym c.has_number.ensures ∙ c.if-not-has_number.true))

pub returns : goal.returns
returns c n x =
    let a = c.args in
    let is = rw c.in-Ok.is at c.checked_result.ensures in
    rw (c.compute.ensures is) (fits (spot_at x a.at.now) a.ty (int a.a) (int a.b) n a.operator (sym c.lacks_quotient.ensures ∙ c.if-lacks_quotient.false) (ap (λ v. in_range a.ty (int v)) (sym is) ∙ sym c.has_number.ensures ∙ c.if-not-has_number.false))
