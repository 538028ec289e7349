-- Equal rows are so from both sides.
use Rattle.std.proofs.Common.{◌≡◌, Bool, true, false, refl, sym, List}
use Rattle.object_types.specs.declared.values.Value.{Value}
use Rattle.object_types.specs.Values.{same_values, values_lt}
use Rattle.object_types.proofs.Orders.{values_order, same_turned}

both : (a b : Bool) → (a ≡ true → b ≡ true) → (b ≡ true → a ≡ true) → a ≡ b
both true b f g = sym (f refl)
both false true f g = g refl
both false false f g = refl

pub turned : (a b : List Value) → same_values a b ≡ same_values b a
turned a b = both (same_values a b) (same_values b a) (same_turned values_lt same_values values_order a b) (same_turned values_lt same_values values_order b a)
