use Rattle.typing_symbols.proofs.Tables.{grown}
use Rattle.typing_symbols.proofs.name_set.NameSet.note.Goals as goal

pub returns-clause-grown : goal.returns-clause-grown
returns-clause-grown c = grown c.as_slice.result _ c.args.self.now.names c.insert.new.self c.as_slice.ensures.value c.in_ok-is_new.ensures.updates
