-- From an owner in a stable set to what it owns.
use Rattle.std.proofs.Common.{◌≡◌, true, false, cond, List, [], refl, ap, subst}
use Rattle.std.proofs.lemmas.Bool.{both_ways}
use Rattle.object_types.specs.declared.references.Ref.{Ref}
use Rattle.object_types.specs.Sets.{is_in}
use Rattle.object_types.specs.Heap.{Heap}
use Rattle.method.specs.declared.program.Program.{Program}
use Rattle.method.specs.Tables.{has_volatile_owns}
use Rattle.method.specs.StableSet.{StableFrom, member}

none_among : (q : Ref) → is_in q [] ≡ false
unfolding is_in
none_among q = refl

pub owned_stays : (p : Program) (h : Heap) (Root : Ref → Type 0) (o owner : Ref) (members : List Ref) → members ≡ cond (has_volatile_owns p owner.ty) [] (h.get owner).owned → is_in o members ≡ true → StableFrom p h Root owner → StableFrom p h Root o
owned_stays p h Root o owner members e i s =
    elim (has_volatile_owns p owner.ty) as (λ b. has_volatile_owns p owner.ty ≡ b → members ≡ cond b [] (h.get owner).owned → StableFrom p h Root o) [
      | true ↦ λ v l. absurd (both_ways (is_in o []) (none_among o) (subst (λ zs. is_in o zs ≡ true) l i))
      | false ↦ λ v l. member s v (subst (λ zs. is_in o zs ≡ true) l i)
    ] refl e
