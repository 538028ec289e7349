use Rattle.std.proofs.Common.{set, map, Some, ap, refl, ◌∙◌}
use Rattle.std.proofs.lemmas.List.{map-set}
use Rattle.graph_numbering.specs.Places.{seen}
use Rattle.graph_numbering.proofs.Seen.{seen_own}
use Rattle.graph_numbering.proofs.places.Places.set.Goals as goal

pub returns : goal.returns
returns c =
    map-set (seen c.self.inside.walk) c.self.inside.places.items c.args.node (record { walk = c.self.inside.walk; number = c.args.number })
    ∙ ap (λ o. set (map (seen c.self.inside.walk) c.self.inside.places.items) c.args.node o) (seen_own (record { walk = c.self.inside.walk; number = c.args.number }) c.self.inside.walk refl)
    ∙ ap (λ xs. set xs c.args.node (Some c.args.number)) c.self.view_is
