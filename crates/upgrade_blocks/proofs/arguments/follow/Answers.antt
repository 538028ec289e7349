use Rattle.std.proofs.Common.{◌∙◌, ap, sym}
use Rattle.upgrade_blocks.specs.declared.parameters.Parameter.{Parameter as Code}
use Rattle.upgrade_blocks.specs.Parameters.{seen}
use Rattle.upgrade_blocks.specs.Marks.{follow}
use Rattle.upgrade_blocks.proofs.arguments.follow.Goals as goal

pub returns-in-ColumnKeys : goal.returns-in-ColumnKeys
returns-in-ColumnKeys c = λ l has. c.key_count.ensures l (c.deref.ensures.value ∙ has.columns) ∙ ap (λ (p : Code). follow l (seen p) c.args.number) (sym c.in-ColumnKeys.is)

pub returns-in-FormulaHoles : goal.returns-in-FormulaHoles
returns-in-FormulaHoles c = λ l has. c.hole_count.ensures l (c.deref-in-FormulaHoles.ensures.value ∙ has.holes) ∙ ap (λ (p : Code). follow l (seen p) c.args.number) (sym c.in-FormulaHoles.is)
