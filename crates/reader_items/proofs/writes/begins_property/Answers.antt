use Rattle.std.proofs.Common.{sym}
use Rattle.reader_items.proofs.Begins.{form_begins}
use Rattle.reader_items.proofs.writes.begins_property.Goals as goal

pub returns-in-Some : goal.returns-in-Some
returns-in-Some c = sym (form_begins c.in-Some.field-0 _ c.in-Some.ensures)
