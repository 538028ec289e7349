-- From bytes to programs.
use Rattle.std.proofs.Common.{◌≡◌, inr, ℕ, List, Some, Result, Ok, Err, IfOk, IfErr, MatchResult, subst}
use Rattle.c_syntax.specs.declared.token.Span.{Span}
use Rattle.c_syntax.specs.Items.{Item}
use Rattle.typing_spec.specs.First.{first_broken}
use Rattle.typing_spec.specs.FirstLaws.{first_is_first}
use Rattle.typing_expressions.specs.declared.violations.Violation.{Violation}
use Rattle.typing_expressions.specs.Views.{broken, rule}
use Rattle.c_source.specs.Sources.{IsText, IsWithinLimits}
use Rattle.c_types.specs.Typed.{IsProgramOf}
use Rattle.method.specs.declared.program.Program.{Program}
use Rattle.vcc_base.specs.Maps.{Map}
use Rattle.vcc_base.specs.declared.limit.Limit.TheVariants.{SourceBytes}
use Rattle.vcc_io.specs.declared.refusal.Refusal.{Refusal}
use Rattle.vcc_io.specs.declared.refusal.Refusal.TheVariants.{ReadFault}
use Rattle.vcc_io.specs.Faults.{IsReadFault}
use Rattle.vcc_io.specs.Held.{HoldsProgram, HoldsWithin, IsSourceStop}
use Rattle.vcc_io.specs.Source.{BreaksFirst, IsSourceRefusalOrMemory}

-- a text whose first broken rule is this one
pub breaks_first : (bytes : List ℕ) (items : List Item) (end : Span) (b : Violation) (text : IsText bytes items end) → IsWithinLimits text → first_broken items end ≡ Some (broken b) → BreaksFirst bytes b
breaks_first bytes items end b text within e = record { items = items; end = end; text = text; within = within; first = first_is_first items end (rule b.rule) b.span e }

-- what the bytes of a name give is what the name does
pub source_answer : (m : Map) (name source text : List ℕ) (r : Result Program Refusal) → HoldsWithin m name SourceBytes source → text ≡ source → IfOk r (IsProgramOf text) → IfErr r (IsSourceRefusalOrMemory text) → MatchResult r (HoldsProgram m name) (IsSourceStop m name)
source_answer m name source text (Ok p) held is typed refused = record { source = source; held = held; program = subst (λ (s : List ℕ). IsProgramOf s p) is typed }
source_answer m name source text (Err e) held is typed refused = inr (source, held, subst (λ (s : List ℕ). IsSourceRefusalOrMemory s e) is refused)

-- bytes are refused for no read
pub no_read : (text : List ℕ) (r : Result Program Refusal) → IfErr r (IsSourceRefusalOrMemory text) → IsReadFault r → ⊥
no_read text (Ok p) refused is = is
no_read text (Err (ReadFault n)) refused is = refused
no_read text (Err _) refused is = is
