-- What a way puts off until the block's end, behind the way's test. Own: one element of the lists that `guard_changed` and `guard_made` give.
use Rattle.std.specs.Prelude.{◌∷◌}
use Rattle.terms.specs.Formula.{Formula}
use Rattle.conditions.specs.Code.{DeferredObject, DeferredClaim}

-- the object behind one more test
abbrev pub guarded_object : Formula → DeferredObject → DeferredObject
guarded_object f d = record { guards = f ∷ d.guards; which = d.which }

-- the claim behind one more test
abbrev pub guarded_claim : Formula → DeferredClaim → DeferredClaim
guarded_claim f d = record { guards = f ∷ d.guards; which = d.which; entries = d.entries }
