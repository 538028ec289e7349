use Rattle.c_syntax.specs.Views as view
use Rattle.typed_program.specs.Variables as variables_of
use Rattle.elab_program.proofs.Parts.{texts_are}
use Rattle.elab_program.proofs.functions.places.Goals as goal

pub returns : goal.returns
returns c = texts_are _ _ (variables_of.variables (view.function c.args.x.now)) c.in_ok-places.ensures c.in_ok-all.ensures
