-- The rows, by computation.
use Rattle.std.specs.Prelude.{refl}
use Rattle.axiom_instances.specs.Fitting.{gives, fits, needs, number, term, heap, ref, int, terms, refs, column, quantified}
use Rattle.axiom_rows.specs.Laws.{NoneIsMade, NumbersApart, LockInstances, BagInstances}

pub none_is_made : NoneIsMade
unfolding gives fits needs number term heap ref int terms refs column quantified
none_is_made m = refl

pub numbers_apart : NumbersApart
unfolding gives fits needs number term heap ref int terms refs column quantified
numbers_apart m = (refl, (refl, refl), (refl, refl, refl, refl, refl), (refl, refl))

pub lock_instances : LockInstances
unfolding gives fits needs number term heap ref int terms refs column quantified
lock_instances m = (refl, (refl, refl), refl, (refl, refl), refl, (refl, refl, refl), (refl, refl))

pub bag_instances : BagInstances
unfolding gives fits needs number term heap ref int terms refs column quantified
bag_instances m = (refl, refl, (refl, refl, refl, refl), refl, (refl, refl))
