-- Late checks of a block, with their places: more of them behind those so far.
use Rattle.std.proofs.Common.{◌≡◌, ℕ, ◌+◌, List, [], ◌∷◌, ◌++◌, refl, ap}
use Rattle.object_types.specs.declared.references.Ref.{Ref}
use Rattle.method.specs.Actions.{Deferred, deferred_from}
use Rattle.machine_objects.specs.Runs.{deferred_at}

-- the places of so many more, from n on
places_from : ℕ → List Ref → List ℕ
places_from n [] = []
places_from n (o ∷ os) = n ∷ places_from (n + 1) os

-- the places so far, one for each, and those of the new ones
pub more_places : List ℕ → List Ref → ℕ → List Ref → List ℕ
more_places ns [] n os = places_from n os
more_places [] (r ∷ rs) n os = 0 ∷ more_places [] rs n os
more_places (k ∷ ns) (r ∷ rs) n os = k ∷ more_places ns rs n os

from_places : (n : ℕ) (os : List Ref) → deferred_from n os ≡ deferred_at (places_from n os) os
unfolding places_from
from_places n [] = refl
from_places n (o ∷ os) = ap (λ (ds : List Deferred). record { place = n; which = o } ∷ ds) (from_places (n + 1) os)

pub more_deferred : (ns : List ℕ) (rs : List Ref) (n : ℕ) (os : List Ref) → deferred_at ns rs ++ deferred_from n os ≡ deferred_at (more_places ns rs n os) (rs ++ os)
unfolding places_from more_places
more_deferred [] [] n os = from_places n os
more_deferred (k ∷ ns) [] n os = from_places n os
more_deferred [] (r ∷ rs) n os = ap (λ (ds : List Deferred). record { place = 0; which = r } ∷ ds) (more_deferred [] rs n os)
more_deferred (k ∷ ns) (r ∷ rs) n os = ap (λ (ds : List Deferred). record { place = k; which = r } ∷ ds) (more_deferred ns rs n os)
