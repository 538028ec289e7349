use Rattle.c_syntax.specs.Views.{items_of}
use Rattle.c_types.proofs.Faults.{typed_of}
use Rattle.c_types.proofs.Formed.{program_of}
use Rattle.c_types.proofs.typing.type_program.Goals as goal

pub returns-in-Ok-clause-typed : goal.returns-in-Ok-clause-typed
returns-in-Ok-clause-typed c = typed_of (items_of c.args.tree.now) c.args.tree.now.end c.tables_of.result c.in-Ok.ensures.unbroken c.tables_of.ensures.tables

pub returns-in-Ok-clause-of_text : goal.returns-in-Ok-clause-of_text
returns-in-Ok-clause-of_text c = λ bytes text. program_of (items_of c.args.tree.now) c.args.tree.now.end c.tables_of.result c.in-Ok.ensures.unbroken c.tables_of.ensures.tables bytes text
