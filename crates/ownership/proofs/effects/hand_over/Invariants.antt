use Rattle.std.proofs.Common.{◌≡◌, take}
use Rattle.object_types.specs.Lookups.{look_up}
use Rattle.ownership.proofs.Handing.{handed}
use Rattle.ownership.proofs.effects.hand_over.Given as goal

abbrev pub invariant-loop-member : goal.invariant-loop-member
invariant-loop-member l = look_up l.h ≡ handed (look_up l.fn.h) (take l.member-index l.members) l.owner
