use Rattle.std.proofs.Common.{ap, ◌∙◌, List, take, Option}
use Rattle.terms.specs.declared.sort.Sort.{Sort}
use Rattle.term_sorts.proofs.Trees.{first_sorts}
use Rattle.term_sorts.proofs.table.SortTable.truncate.Goals as goal

pub returns-clause-sorts : goal.returns-clause-sorts
returns-clause-sorts c = λ l ts graph h. first_sorts c.args.nodes graph h (c.truncate.ensures.items ∙ ap (λ (xs : List (Option Sort)). take c.args.nodes xs) c.self.view_is)
