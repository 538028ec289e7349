use Rattle.typing_symbols.specs.Whole.{program}
use Rattle.elab_program.proofs.Programs.{program_told}
use Rattle.elab_program.proofs.program.program_with.Goals as goal

pub returns : goal.returns
returns c =
    program_told (program c.args.declarations.now) _ _ c.requires c.in_ok-first.ensures c.in_ok-both.ensures.structs c.in_ok-fields.ensures c.in_ok-both.ensures.functions c.in_ok-sites.ensures c.in_ok-table.ensures c.in_ok-items.ensures c.in_ok-main.ensures
