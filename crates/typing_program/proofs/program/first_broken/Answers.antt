use Rattle.std.proofs.Common.{ap, ◌∙◌, List, map}
use Rattle.c_syntax.specs.declared.items.Item.{Item}
use Rattle.c_syntax.specs.Views as view
use Rattle.typing_spec.specs.First.{first_broken}
use Rattle.typing_program.proofs.program.first_broken.Goals as goal

pub returns : goal.returns
returns c = c.in_ok-first.ensures ∙ ap (λ (xs : List Item). first_broken (map view.item xs) c.args.end) c.in_ok-declarations.ensures
