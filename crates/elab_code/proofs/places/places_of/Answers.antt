use Rattle.std.proofs.Common.{arith}
use Rattle.typing_symbols.specs.Lookup.{at}
use Rattle.elab_code.specs.Names.{has_text}
use Rattle.typing_symbols.proofs.Places.{step}
use Rattle.elab_code.proofs.places.places_of.Goals as goal

pub loop-i-preserved : goal.loop-i-preserved
loop-i-preserved c = step (λ y e. has_text y e) (at c.loop-i.places) (at c.note.new.places) c.args.names.now c.loop-i.i c.index-names-i.result (omega arith) c.index-names-i.is c.loop-i.invariant c.in_ok-note.ensures
