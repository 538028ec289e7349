use Rattle.std.proofs.Common.{◌≡◌, ◌++◌, drop}
use Rattle.generated_source.specs.Sources.{bytes_of}
use Rattle.generated_source.proofs.source.add_bytes.Given as goal

-- what stands there and what the rest becomes is the whole
abbrev pub invariant-loop-byte : goal.invariant-loop-byte
invariant-loop-byte l =
    l.text.items ++ bytes_of l.number (drop l.byte-index l.bytes) ≡ l.fn.text.items ++ bytes_of l.number l.bytes
