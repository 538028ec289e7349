use Rattle.vcc_io.proofs.program.typed_program.Goals as goal

pub returns-in-Err-clause-refused : goal.returns-in-Err-clause-refused
returns-in-Err-clause-refused c = c.refusal_of.ensures c.args.bytes.now c.in-Err.ensures.fault

pub returns-in-Ok-program_of_tree-clause-typed : goal.returns-in-Ok-program_of_tree-clause-typed
returns-in-Ok-program_of_tree-clause-typed c = let t = c.in-Ok.ensures.reads in c.in-Ok-program_of_tree.ensures.program c.args.bytes.now t.0

pub returns-clause-refused : goal.returns-clause-refused
returns-clause-refused c = let t = c.in-Ok.ensures.reads in c.in-Err-program_of_tree.ensures.refused c.args.bytes.now t.0 t.1
