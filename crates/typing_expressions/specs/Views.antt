-- What values of the code stand for.
use Rattle.std.specs.Prelude.{true, List, [], ◌∷◌, ◌++◌, Option}
use Rattle.std.specs.Option.{option_map}
use Rattle.c_syntax.specs.Views as view
use Rattle.typing_spec.specs.Rules as r
use Rattle.typing_spec.specs.Types as k
use Rattle.typing_spec.specs.Contexts as c
use Rattle.typing_spec.specs.First.{Fault}
use Rattle.typing_symbols.specs.Whole.{program}
use Rattle.typing_symbols.specs.Scopes.{known}
use Rattle.typing_expressions.specs.declared.rule.Rule.{Rule}
use Rattle.typing_expressions.specs.declared.rule.Rule.TheVariants as rules
use Rattle.typing_expressions.specs.declared.violations.Violation.{Violation}
use Rattle.typing_expressions.specs.declared.violations.Diagnostics.{Diagnostics}
use Rattle.typing_expressions.specs.declared.kinds.Kind.{Kind}
use Rattle.typing_expressions.specs.declared.kinds.Kind.TheVariants as kinds
use Rattle.typing_expressions.specs.declared.context.Text.{Text}
use Rattle.typing_expressions.specs.declared.context.Text.TheVariants as texts
use Rattle.typing_expressions.specs.declared.context.InProperty.{InProperty}
use Rattle.typing_expressions.specs.declared.context.InProperty.TheVariants as places
use Rattle.typing_expressions.specs.declared.context.Quantified.{Quantified}
use Rattle.typing_expressions.specs.declared.context.Quantified.TheVariants as q
use Rattle.typing_expressions.specs.declared.context.Scope.{Scope}
use Rattle.typing_expressions.specs.declared.context.Context.{Context}
use Rattle.typing_expressions.specs.declared.judged.Judged.{Judged}
use Rattle.typing_expressions.specs.declared.words.Row.{Row}
use Rattle.typing_expressions.specs.Judging as j
use Rattle.typing_expressions.specs.Violations as f
use Rattle.typing_expressions.specs.Violations.{Violations}

abbrev pub rule : Rule → r.Rule
rule rules.Undeclared = r.Undeclared
rule rules.DeclaredTwice = r.DeclaredTwice
rule rules.Operands = r.Operands
rule rules.Conversion = r.Conversion
rule rules.ArgumentCount = r.ArgumentCount
rule rules.Arrow = r.Arrow
rule rules.GhostInCode = r.GhostInCode
rule rules.GhostWrites = r.GhostWrites
rule rules.InAtomic = r.InAtomic
rule rules.SecondAccess = r.SecondAccess
rule rules.InterlockedCall = r.InterlockedCall
rule rules.OwnsChange = r.OwnsChange
rule rules.WrapOperand = r.WrapOperand
rule rules.Claimed = r.Claimed
rule rules.InvariantReads = r.InvariantReads
rule rules.QuantifierForm = r.QuantifierForm
rule rules.OldPlace = r.OldPlace
rule rules.ResultPlace = r.ResultPlace
rule rules.ThisPlace = r.ThisPlace
rule rules.PropertyForm = r.PropertyForm
rule rules.ReturnForm = r.ReturnForm
rule rules.SpawnedValue = r.SpawnedValue
rule rules.StructForm = r.StructForm
rule rules.NoMain = r.NoMain
rule rules.ApprovalForm = r.ApprovalForm

abbrev pub broken : Violation → Fault
broken b = (rule b.rule, b.span)

abbrev pub maybe_broken : Option Violation → Option Fault
maybe_broken = option_map broken

abbrev pub findings : Diagnostics → Violations
findings f = record { first = maybe_broken f.first; access = f.access; later = maybe_broken f.later }

abbrev pub kind : Kind → k.Kind
kind kinds.Integer = k.Integer
kind kinds.Null = k.Null
kind (kinds.Pointer s) = k.Pointer (view.struct s.now.tree.now)
kind kinds.Object = k.Object
kind kinds.Claim = k.Claim
kind kinds.OwnedSet = k.OwnedSet
kind kinds.Void = k.Void

abbrev pub maybe_kind : Option Kind → Option k.Kind
maybe_kind = option_map kind

abbrev pub judged : Judged → f.Judged
judged x = record { kind = maybe_kind x.kind; violations = findings x.violations }

abbrev pub row_of : Row → j.Row
row_of x = record { kind = maybe_kind x.kind; violations = findings x.violations; unconverted = maybe_broken x.unconverted; wanted = kind x.wanted }

abbrev pub text : Text → c.Text
text texts.Code = c.Code
text texts.GhostCode = c.GhostCode
text texts.TypeInvariant = c.TypeInvariant
text texts.LoopInvariant = c.LoopInvariant
text texts.Requires = c.Requires
text texts.Ensures = c.Ensures
text texts.Maintains = c.Maintains
text texts.Writes = c.Writes
text texts.Assert = c.Assert
text texts.ClaimProperty = c.ClaimProperty

abbrev pub property : InProperty → c.InProperty
property places.Outside = c.Outside
property (places.Conjunct o) = c.Conjunct (option_map (λ xs. view.exps xs.now) o)
property places.Below = c.Below

abbrev pub quantified : Quantified → List c.Variable
quantified q.Nothing = []
quantified (q.Variable' ty x p more) = record { name = view.id x.now; ty = view.ty ty.now; is_ghost = true } ∷ quantified more

abbrev pub scope : Scope → c.Scope
scope s = record {
  items = program s.declarations.now;
  variables = quantified s.quantified.now ++ known s.variables.now;
  this = option_map (λ t. view.struct t.now.tree.now) s.this;
  result = option_map (λ t. view.ty t.now) s.result_type;
}

abbrev pub context : Context → c.Context
context x = record {
  scope = scope x.scope;
  value = option_map (λ t. view.ty t.now) x.value;
  text = text x.text;
  property = property x.property;
  in_old = x.in_old;
  in_atomic = x.in_atomic;
  in_unwrapping = x.in_unwrapping;
}
