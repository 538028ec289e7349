-- What values of the code stand for.
use Rattle.std.specs.Prelude.{ℕ, List, map, length}
use Rattle.c_syntax.specs.declared.expressions.Identifier.{Identifier}
use Rattle.std.specs.Borrow.{Bor}
use Rattle.typing_expressions.specs.Views.{context, maybe_kind, quantified}
use Rattle.typed_program.specs.Numbers as n
use Rattle.typed_program.specs.Views as view
use Rattle.elab_code.specs.declared.places.Places.{Places}
use Rattle.elab_code.specs.declared.around.Around.{Around}
use Rattle.elab_code.specs.declared.around.Meaning.{Meaning}
use Rattle.elab_code.specs.declared.around.Meaning.TheVariants as meanings
use Rattle.elab_code.specs.declared.codes.TypedCode.{TypedCode}
use Rattle.elab_code.specs.Names.{texts}
use Rattle.elab_code.specs.Typing as spec

-- what stands around a text
abbrev pub around : Around → n.Around
around a = record { context = context a.context; names = texts a.places.now.names.items; bound = length (quantified a.context.scope.quantified.now) }

abbrev pub meaning : Meaning → n.Meaning
meaning (meanings.OfQuantifier i) = n.OfQuantifier i
meaning (meanings.OfFunction i) = n.OfFunction i
meaning (meanings.OwnField i) = n.OwnField i

abbrev pub typed : TypedCode → spec.Typed
typed x = record { code = view.code x.code; kind = maybe_kind x.kind; ty = x.ty }
