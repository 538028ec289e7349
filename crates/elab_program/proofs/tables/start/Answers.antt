use Rattle.std.proofs.Common.{ap, ◌∙◌, map, List}
use Rattle.typing_symbols.specs.Whole.{program}
use Rattle.elab_program.specs.Views.{declared}
use Rattle.elab_program.specs.declared.declared.Declared.{Declared}
use Rattle.elab_program.proofs.Programs.{started}
use Rattle.elab_program.proofs.tables.start.Goals as goal

pub returns : goal.returns
returns c = started (program c.args.declarations.now) _ _ _ c.none.ensures (ap (λ (xs : List Declared). map declared xs) c.deref.ensures.value ∙ c.in_ok-all.ensures) c.in_ok-last.ensures
