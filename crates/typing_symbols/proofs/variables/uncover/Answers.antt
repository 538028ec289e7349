use Rattle.typing_symbols.proofs.Tables.{there, shown, removed}
use Rattle.typing_symbols.proofs.variables.uncover.Goals as goal

pub unwrap-requires : goal.unwrap-requires
unwrap-requires c = there c.as_slice-key.result _ c.args.places.now c.insert.result c.as_slice-key.ensures.value c.requires c.insert.ensures.absent

pub returns-in-Some : goal.returns-in-Some
returns-in-Some c = shown c.as_slice-key.result _ c.args.places.now c.insert.new.self c.insert.result _ _ c.as_slice-key.ensures.value c.requires c.insert.ensures.absent c.insert.ensures.updates c.in-Some.is

pub returns-in-None : goal.returns-in-None
returns-in-None c = removed c.as_slice-key.result _ c.args.places.now c.swap_remove.new.self _ c.as_slice-key.ensures.value c.swap_remove.ensures.updates c.in-None.is
