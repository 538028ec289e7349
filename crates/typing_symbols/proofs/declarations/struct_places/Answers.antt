use Rattle.std.proofs.Common.{arith}
use Rattle.typing_symbols.specs.Lookup.{at}
use Rattle.typing_symbols.specs.Program.{is_struct}
use Rattle.typing_symbols.proofs.Places.{step}
use Rattle.typing_symbols.proofs.declarations.struct_places.Goals as goal

pub loop-i-preserved : goal.loop-i-preserved
loop-i-preserved c = step (λ y e. is_struct y e.tree.now) (at c.loop-i.places) (at c.note.new.places) c.args.entries.now c.loop-i.i c.index-entries-i.result (omega arith) c.index-entries-i.is c.loop-i.invariant c.in_ok-note.ensures
