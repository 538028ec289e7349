-- What valid conditions say of a source. From CAV 2010: a program that is verified function by function and type by type is
-- safe. Own: the source is text, and the program is what the typing rules make of it.
use Rattle.std.specs.Prelude.{◌≡◌, List, IsTrue}
use Rattle.term_meaning.specs.Meaning.{IsFaithful}
use Rattle.term_meaning.specs.Filling.{IsLayered}
use Rattle.c_syntax.specs.declared.token.Span.{Span}
use Rattle.c_syntax.specs.Items.{Item}
use Rattle.typing_spec.specs.First.{IsWellTyped}
use Rattle.method.specs.declared.program.Program.{Program}
use Rattle.method.specs.Machine.{Safe}
use Rattle.typed_program.specs.Tables as tables
use Rattle.typed_program.specs.Views as seen
use Rattle.tree_forms.specs.InForm.{in_form}
use Rattle.condition_walks.specs.Conversions.{ConversionsAreReceived}
use Rattle.condition_meaning.specs.Languages.{language_of}
use Rattle.condition_meaning.specs.Promises.{ConditionsAreValid}

-- In the typed program of a source that breaks no typing rule no value is converted that nobody receives.
abbrev pub ConversionsLaw : Type 0
ConversionsLaw =
    (items : List Item) (end : Span) → IsWellTyped items end
    → (p : Program) → seen.program p ≡ tables.program items → ConversionsAreReceived p

-- A source is safe in every interleaving where all its conditions are true in every environment.
abbrev pub SourcesAreSafe : Type 0
SourcesAreSafe =
    (items : List Item) (end : Span) → IsTrue (in_form items) → IsWellTyped items end
    → (p : Program) → seen.program p ≡ tables.program items
    → ConditionsAreValid p → Safe p

-- In the language of a source's program the formulas of annotations say what the annotations say, and an outer quantified
-- formula stands before those in it; so each instance of an axiom is true in it.
abbrev pub SourcesAreAnnotated : Type 0
SourcesAreAnnotated =
    (items : List Item) (end : Span) → IsTrue (in_form items) → IsWellTyped items end
    → (p : Program) → seen.program p ≡ tables.program items
    → IsFaithful (language_of p) × IsLayered (language_of p)
