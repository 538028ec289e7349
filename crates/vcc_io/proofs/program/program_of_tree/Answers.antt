use Rattle.std.proofs.Common.{subst}
use Rattle.c_syntax.specs.Views.{items_of}
use Rattle.c_types.specs.Typed.{IsTypeFault}
use Rattle.vcc_io.proofs.Programs.{breaks_first}
use Rattle.vcc_io.proofs.program.program_of_tree.Goals as goal

pub returns-in-Err-Rule-clause-refused : goal.returns-in-Err-Rule-clause-refused
returns-in-Err-Rule-clause-refused c = λ bytes text within.
    breaks_first bytes (items_of c.args.tree.now) c.args.tree.now.end c.in-Err-Rule.broken text within (subst (IsTypeFault (items_of c.args.tree.now) c.args.tree.now.end) c.in-Err-Rule.field-0-is c.in-Err-Rule.ensures.fault)

pub returns-in-Ok-clause-program : goal.returns-in-Ok-clause-program
returns-in-Ok-clause-program c = λ bytes text. c.in-Ok.ensures.of_text bytes text
