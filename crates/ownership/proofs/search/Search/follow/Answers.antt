use Rattle.ownership.proofs.Adding.{adds_both}
use Rattle.ownership.proofs.search.Search.follow.Goals as goal

pub returns : goal.returns
returns c = record { ok = adds_both _ _ _ _ _ _ _ c.in_ok-add_all.ensures.ok c.in_ok-add_all-2.ensures.ok c.claimed.ensures c.members.ensures }
