use Rattle.graph_numbering.proofs.Results.{laid_numbered, numbered_stands}
use Rattle.graph_numbering.proofs.numbering.number.Goals as goal

pub returns-clause-numbered : goal.returns-clause-numbered
returns-clause-numbered c = λ f s. laid_numbered f _ _ c.put.result (c.put.ensures.laid f s)

pub returns-clause-stands : goal.returns-clause-stands
returns-clause-stands c =
    λ f s. numbered_stands f _ _ c.put.result (laid_numbered f c.args.target.now _ c.put.result (c.put.ensures.laid f s))
