-- The program of ObjectRow is that of its text, which breaks no typing rule.
use Rattle.std.specs.Prelude.{◌≡◌, true, None, refl}
use Rattle.c_syntax.specs.declared.token.Span.{Span}
use Rattle.ebnf.specs.Sets.{first, first_rule, low, low_rule, is_empty}
use Rattle.ebnf.specs.Reading.{read, links, climbs, read_rule, reads}
use Rattle.typing_spec.specs.First.{first_broken}
use Rattle.typing_spec.specs.FirstLaws.{none_broken}
use Rattle.method.specs.Trace.{Memory}
use Rattle.typed_program.specs.Tables as tables
use Rattle.typed_program.specs.Views as seen
use Rattle.tree_forms.specs.InForm.{in_form}
use Rattle.typed_laws.specs.ObjectRow.{items, program, ObjectRow}
use Rattle.typed_laws.proofs.WellFormed.{well_formed_law}
use Rattle.typed_laws.proofs.Scoped.{scoped_law}

abbrev end : Span
end = record { line = 9; column = 1 }

form : in_form items ≡ true
unfolding reads read links climbs read_rule first first_rule low low_rule is_empty
form = refl

unbroken : first_broken items end ≡ None
unfolding reads read links climbs read_rule first first_rule low low_rule is_empty
unbroken = refl

same : (m : Memory) → seen.program (program m) ≡ tables.program items
unfolding reads read links climbs read_rule first first_rule low low_rule is_empty
same m = refl

pub object_row : ObjectRow
object_row m =
    let typed = none_broken items end unbroken in
    (well_formed_law items end form typed (program m) (same m), scoped_law items end form typed (program m) (same m))
