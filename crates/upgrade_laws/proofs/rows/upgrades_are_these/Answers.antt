use Rattle.std.proofs.Common.{refl}
use Rattle.axiom_instances.specs.Fitting.{gives, fits, needs, number, term, heap, ref, int, terms, refs, column, quantified}
use Rattle.axiom_parameters.specs.Parameters.{terms_first, number_first}
use Rattle.upgrade_laws.proofs.rows.upgrades_are_these.Goals as goal

pub returns : goal.returns
unfolding gives fits needs number term heap ref int terms refs column quantified terms_first number_first
returns c = record {
  one = λ l. refl;
  two = λ l. refl;
  lemmas = λ l. refl;
  three = λ l. refl;
  none = λ l. (refl, refl, refl, refl, refl, refl, refl);
  trees = λ l. refl;
  bad = λ l. refl;
  nothing = λ l. refl;
}
