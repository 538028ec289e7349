use Rattle.term_meaning.specs.Filling.{fill as filled}
use Rattle.graph_numbering.proofs.Results.{laid_filled, numbered_stands}
use Rattle.graph_numbering.proofs.numbering.fill.Goals as goal

pub returns-clause-filled : goal.returns-clause-filled
returns-clause-filled c =
    λ f ts s all. laid_filled f ts _ _ c.args.args.now _ c.len.result c.put.result c.len.ensures.len c.known_front-terms.ensures.all all (c.put.ensures.laid f s)

pub returns-clause-stands : goal.returns-clause-stands
returns-clause-stands c =
    λ f ts s all.
    numbered_stands (filled ts f) c.args.target.now _ c.put.result
    (laid_filled f ts _ _ c.args.args.now _ c.len.result c.put.result c.len.ensures.len c.known_front-terms.ensures.all all (c.put.ensures.laid f s))
