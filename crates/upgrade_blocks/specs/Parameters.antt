-- The parameters of the axioms in code. Own.
use Rattle.std.specs.Prelude.{◌≡◌, ℕ, ℤ, List, option_and_then}
use Rattle.axiom_instances.specs.Axioms.{item_at}
use Rattle.axiom_steps.specs.Steps.{natural}
use Rattle.axiom_parameters.specs.Parameters as p
use Rattle.upgrade_blocks.specs.declared.parameters.Parameter.{Parameter}
use Rattle.upgrade_blocks.specs.declared.parameters.Parameter.TheVariants as code

-- the parameter
abbrev pub seen : Parameter → p.Parameter
seen code.OneTerm = p.OneTerm
seen code.TermList = p.TermList
seen code.TypeNumber = p.TypeNumber
seen code.ColumnKeys = p.ColumnKeys
seen code.FormulaHoles = p.FormulaHoles

-- the parameters of an axiom's part in a table of all, both counted from 1
abbrev pub part_in : List (List (List p.Parameter)) → ℕ → ℕ → List p.Parameter
part_in axioms n part = p.or_none (option_and_then (λ parts. item_at parts part) (item_at axioms n))

-- the parameters are those of the part
pub record IsPart (axioms : List (List (List p.Parameter))) (n part : ℤ) (parameters : List p.Parameter) : Type 0 where
  pub is : parameters ≡ part_in axioms (natural n) (natural part)
