-- What a text that breaks no typing rule reads as.
use Rattle.std.proofs.Common.{◌≡◌, ℕ, List, None, Result, Ok, Err, IfOk, sym, ap, ◌∙◌, subst}
use Rattle.c_syntax.specs.declared.token.Span.{Span}
use Rattle.c_syntax.specs.Items.{Item}
use Rattle.typing_spec.specs.First.{first_broken}
use Rattle.typing_spec.specs.FirstLaws.{none_broken}
use Rattle.c_source.specs.Sources.{IsText}
use Rattle.c_source.proofs.Unique.{one_text}
use Rattle.tree_forms.proofs.FormLaw.{form_law}
use Rattle.typed_program.specs.Tables as tables
use Rattle.typed_program.specs.Views as seen
use Rattle.typed_laws.specs.Fits.{AnnotationsFit}
use Rattle.typed_laws.proofs.WellFormed.{well_formed_law}
use Rattle.typed_laws.proofs.Scoped.{scoped_law}
use Rattle.typed_laws.proofs.Meanings.{meaning_law}
use Rattle.typed_laws.proofs.Annotated.{annotations_law}
use Rattle.c_types.specs.declared.typing.TypeFault.{TypeFault}
use Rattle.method.specs.declared.program.Program.{Program}
use Rattle.c_types.specs.Typed.{IsProgramOf, OneProgram}

-- the tables of a text that breaks no rule are its program, and well formed
pub program_of : (items : List Item) (end : Span) (out : Result Program TypeFault) → first_broken items end ≡ None → IfOk out (λ p. seen.program p ≡ tables.program items) → (bytes : List ℕ) → IsText bytes items end → IfOk out (IsProgramOf bytes)
program_of items end (Ok p) unbroken same bytes text =
    let typed = none_broken items end unbroken in
    let form = form_law bytes items end text in
    record {
      reads = record { items = items; end = end; text = text; typed = typed; tables_are = same };
      well_formed = well_formed_law items end form typed p same;
      scoped = scoped_law items end form typed p same;
      annotations = subst AnnotationsFit (sym same) (annotations_law meaning_law items end form typed);
    }
program_of items end (Err e) unbroken same bytes text = same

-- a text is one list of items, and so it has one program
pub one_program : OneProgram
one_program bytes p q x y = x.tables_are ∙ ap tables.program (one_text bytes x.items y.items x.end y.end x.text y.text).0 ∙ sym y.tables_are
