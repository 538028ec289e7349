-- Safety of sources whose conditions are valid.
use Rattle.typed_laws.proofs.WellFormed.{well_formed_law}
use Rattle.typed_laws.proofs.Scoped.{scoped_law}
use Rattle.text_laws.proofs.Texts.{text_law}
use Rattle.text_numbers.proofs.Numbers.{numbers_law}
use Rattle.conditions_law.proofs.Safety.{conditions_mean_safe}
use Rattle.c_syntax.specs.declared.token.Span.{Span}
use Rattle.c_syntax.specs.Items.{Item}
use Rattle.std.proofs.Common.{◌≡◌, List, IsTrue}
use Rattle.typing_spec.specs.First.{IsWellTyped}
use Rattle.method.specs.declared.program.Program.{Program}
use Rattle.typed_program.specs.Tables as tables
use Rattle.typed_program.specs.Views as seen
use Rattle.tree_forms.specs.InForm.{in_form}
use Rattle.condition_meaning.specs.Annotated.{Annotated}
use Rattle.condition_meaning.proofs.Laws.{annotations_say}
use Rattle.typed_conditions.specs.Laws.{SourcesAreSafe, SourcesAreAnnotated}
use Rattle.typed_conditions.proofs.Conversions.{conversions_law}

annotated :
    (items : List Item) (end : Span) → IsTrue (in_form items) → IsWellTyped items end
    → (p : Program) → seen.program p ≡ tables.program items → Annotated p
annotated items end formed typed p same =
    let text = text_law items end formed typed p same in
    let numbers = numbers_law items p same in
    record { numbered = numbers.numbered; structs = text.structs; shapes = text.shapes; functions = text.functions }

pub sources_are_annotated : SourcesAreAnnotated
sources_are_annotated items end formed typed p same = annotations_say p (annotated items end formed typed p same)

pub sources_are_safe : SourcesAreSafe
sources_are_safe items end formed typed p same =
    conditions_mean_safe p (well_formed_law items end formed typed p same) (scoped_law items end formed typed p same) (record {
      annotated = annotated items end formed typed p same;
      members = (text_law items end formed typed p same).members;
      members_numbered = (numbers_law items p same).members_numbered;
      conversions = conversions_law items end typed p same;
    })
