use Rattle.typing_symbols.proofs.Tables.{placed}
use Rattle.typing_symbols.proofs.first.note.Goals as goal

pub returns : goal.returns
returns c = placed c.as_slice-key.result _ c.args.places.now c.insert.new.self c.args.place c.as_slice-key.ensures.value c.if-contains_key.ensures c.in_ok-insert.ensures.updates
