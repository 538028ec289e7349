-- What operators of the code stand for.
use Rattle.typed_program.specs.Codes as spec
use Rattle.elab_code.specs.declared.integers.OperatorKind.{OperatorKind}
use Rattle.elab_code.specs.declared.integers.OperatorKind.TheVariants as b

abbrev pub binary : OperatorKind → spec.Binary
binary (b.Computes o) = spec.Computes o
binary (b.Compares o) = spec.Compares o
binary b.IsAnd = spec.IsAnd
binary b.IsOr = spec.IsOr
binary b.IsImplies = spec.IsImplies
binary b.IsIff = spec.IsIff
binary b.IsMember = spec.IsMember
