use Rattle.std.proofs.Common.{pos, sym, ap, ◌∙◌, Option, option_map}
use Rattle.axiom_steps.specs.declared.steps.Column.{Column}
use Rattle.axiom_instances.specs.Terms.{stores_cleanly}
use Rattle.rule_instances.specs.Columns.{seen}
use Rattle.rule_instances.proofs.Heaps.{any_value, a_value}
use Rattle.rule_instances.proofs.clean.stores_cleanly.Goals as goal

pub returns-in_default-limit_of : goal.returns-in_default-limit_of
returns-in_default-limit_of c = λ f is. any_value (seen c.in-Some.column) f c.in_default-limit_of.ensures ∙ ap (λ (o : Option Column). stores_cleanly (option_map seen o) f) (sym c.in-Some.is)

pub returns : goal.returns
returns c = λ f is. a_value (seen c.in-Some.column) f (pos c.in-Some-limit_of.greatest) c.in-Some-limit_of.ensures (c.is_numeral_to.ensures f is) ∙ ap (λ (o : Option Column). stores_cleanly (option_map seen o) f) (sym c.in-Some.is)
