-- What a source is refused for: what its bytes are, or the number of its conditions.
use Rattle.std.specs.Prelude.{ℕ, ◌<◌, List, length}
use Rattle.c_syntax.specs.declared.token.Span.{Span}
use Rattle.c_syntax.specs.Items.{Item}
use Rattle.typing_spec.specs.First.{IsFirstBroken}
use Rattle.typing_expressions.specs.declared.violations.Violation.{Violation}
use Rattle.typing_expressions.specs.Views.{rule}
use Rattle.c_source.specs.declared.fault.SourceFault.TheVariants as f
use Rattle.c_source.specs.Sources.{IsText, IsWithinLimits, IsFault}
use Rattle.method.specs.declared.program.Program.{Program}
use Rattle.conditions.specs.Conditions.{conditions}
use Rattle.vcc_base.specs.Limits.{number_of}
use Rattle.vcc_base.specs.declared.limit.Limit.TheVariants.{Tokens, Depth, Conditions}
use Rattle.vcc_io.specs.declared.refusal.Refusal.{Refusal}
use Rattle.vcc_io.specs.declared.refusal.Refusal.TheVariants.{BadByte, BadNumber, OpenComment, Unexpected, UnknownForm, BreaksRule, Limit, OutOfMemory}

-- ---- its bytes

-- the bytes are items of the language, within the limits, and this rule is the first that they break, at this place
pub record BreaksFirst (source : List ℕ) (b : Violation) : Type 0 where
  pub items : List Item
  pub end : Span
  pub text : IsText source items end
  pub within : IsWithinLimits text
  pub first : IsFirstBroken items end (rule b.rule) b.span

-- The bytes have this first fault at this place; or the rule is the first that they break, there.
abbrev pub IsSourceRefusal : List ℕ → Refusal → Type 0
IsSourceRefusal source (BadByte place) = IsFault source (f.BadByte place)
IsSourceRefusal source (BadNumber place) = IsFault source (f.BadNumber place)
IsSourceRefusal source (OpenComment place) = IsFault source (f.OpenComment place)
IsSourceRefusal source (Limit Tokens) = (place : Span) × IsFault source (f.TooManyTokens place)
IsSourceRefusal source (Unexpected place) = IsFault source (f.Unexpected place)
IsSourceRefusal source (UnknownForm place) = IsFault source (f.UnknownForm place)
IsSourceRefusal source (Limit Depth) = (place : Span) × IsFault source (f.TooDeep place)
IsSourceRefusal source (BreaksRule b) = BreaksFirst source b
IsSourceRefusal source _ = ⊥

-- the same, or memory is wanted
abbrev pub IsSourceRefusalOrMemory : List ℕ → Refusal → Type 0
IsSourceRefusalOrMemory source OutOfMemory = Unit {0}
IsSourceRefusalOrMemory source refusal = IsSourceRefusal source refusal

-- ---- its conditions

-- too many conditions; or memory is wanted
abbrev pub IsManyOrMemory : Program → Refusal → Type 0
IsManyOrMemory p (Limit Conditions) = number_of Conditions < length (conditions p)
IsManyOrMemory p OutOfMemory = Unit {0}
IsManyOrMemory p _ = ⊥
