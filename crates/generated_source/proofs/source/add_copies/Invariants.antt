use Rattle.std.proofs.Common.{◌≡◌, ◌++◌}
use Rattle.generated_source.specs.Sources.{copies}
use Rattle.generated_source.proofs.source.add_copies.Given as goal

-- so many copies stand there
abbrev pub invariant-loop-earlier : goal.invariant-loop-earlier
invariant-loop-earlier l = l.text.items ≡ l.fn.text.items ++ copies l.earlier
