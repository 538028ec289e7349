use Rattle.std.specs.Prelude.{◌≡◌, ◌++◌, drop}
use Rattle.program_columns.specs.Columns.{fields_columns}
use Rattle.program_columns.proofs.columns.add_fields.Given as goal

abbrev pub invariant-loop-field : goal.invariant-loop-field
invariant-loop-field l = l.columns.items ++ fields_columns (drop l.field-index l.fields) ≡ l.fn.columns.items ++ fields_columns l.fields
