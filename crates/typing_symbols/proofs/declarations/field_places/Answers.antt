use Rattle.std.proofs.Common.{arith}
use Rattle.typing_symbols.specs.Lookup.{at}
use Rattle.typing_symbols.specs.Program.{is_field}
use Rattle.typing_symbols.proofs.Places.{step}
use Rattle.typing_symbols.proofs.declarations.field_places.Goals as goal

pub loop-i-preserved : goal.loop-i-preserved
loop-i-preserved c = step (λ y e. is_field y e.now) (at c.loop-i.places) (at c.note.new.places) c.args.fields.now c.loop-i.i c.index-fields-i.result (omega arith) c.index-fields-i.is c.loop-i.invariant c.in_ok-note.ensures
