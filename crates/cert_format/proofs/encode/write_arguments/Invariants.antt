use Rattle.std.proofs.Common.{◌≡◌, ◌++◌, drop, map}
use Rattle.std.specs.Fmt.{decimal}
use Rattle.cert_format.specs.Text.{words_behind}
use Rattle.cert_format.proofs.encode.write_arguments.Given as goal

abbrev pub invariant-loop-arg : goal.invariant-loop-arg
invariant-loop-arg l = l.out.items ++ words_behind (map decimal (drop l.arg-index l.args)) ≡ l.fn.out.items ++ words_behind (map decimal l.args)
