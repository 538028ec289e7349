use Rattle.std.proofs.Common.{◌≡◌, map, take}
use Rattle.typing_symbols.specs.Program.{fields_in}
use Rattle.typing_symbols.proofs.declarations.fields_of.Given as goal

abbrev pub invariant-loop-member : goal.invariant-loop-member
invariant-loop-member l = map (λ f. f.now) l.fields.items ≡ fields_in (take l.member-index l.members)
