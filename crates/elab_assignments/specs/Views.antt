-- What values of the code stand for.
use Rattle.typed_program.specs.Statements as spec
use Rattle.elab_assignments.specs.declared.counters.Counters.{Counters}

-- how many stand before a place. Own
abbrev pub before : Counters → spec.Counters
before n = record { formulas = n.formulas; ended = n.ended; sites = n.sites }
