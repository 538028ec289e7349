use Rattle.std.proofs.Common.{◌≡◌, ◌+◌, ◌-◌, drop}
use Rattle.method.specs.Actions.{fields_fit}
use Rattle.machine_actions.proofs.fits.fields_fit.Given as goal

abbrev pub invariant-loop-value : goal.invariant-loop-value
invariant-loop-value l = record {
  field_is : l.field ≡ l.first + l.value-index;
  so_far : fields_fit l.program (l.first + l.value-index) (l.fields - l.value-index) (drop l.value-index l.values) ≡ fields_fit l.program l.first l.fields l.values;
}
