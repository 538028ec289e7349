-- Expressions of code as they are typed, each out of what its parts are: own. Each is proved to be what the whole expression is typed as (proofs/Parts).
use Rattle.std.specs.Prelude.{ℕ, pos, Option, Some, None, option_map, option_and_then, List}
use Rattle.int_ranges.specs.declared.ctype.CType.{CType}
use Rattle.int_ranges.specs.declared.ctype.CType.TheVariants as ints
use Rattle.int_ranges.specs.Ranges.{usual_type}
use Rattle.c_syntax.specs.declared.tree.UnaryOperator.{UnaryOperator}
use Rattle.c_syntax.specs.declared.tree.BinaryOperator.{BinaryOperator}
use Rattle.c_syntax.specs.Expressions.{Id, Exp}
use Rattle.c_syntax.specs.Items.{Item}
use Rattle.typing_spec.specs.Types.{Kind, Integer, Null, only_if, kind_of, type_of_name, field_of, unary_fits, binary_fits, conditional_kind, kind}
use Rattle.typed_program.specs.Trees as t
use Rattle.typed_program.specs.Numbers.{Around, meaning, field_of_kind}
use Rattle.typed_program.specs.Codes.{Operand, binary, integer_of, result_type, negated_type, integer_type, is_integer, code_name, code_unary, code_binary, chosen, code}

-- an expression as it is typed, what kind it has, and its type where it is an integer
pub record Typed : Type 0 where
  pub code : t.Code
  pub kind : Option Kind
  pub ty : CType

abbrev pub typed : Around → Exp → Typed
typed a x = record { code = code a x; kind = kind a.context.scope x; ty = integer_type a.context.scope x }

abbrev pub operand : Typed → Operand
operand x = record { code = x.code; is_int = is_integer x.kind; ty = x.ty }

abbrev pub number_typed : ℕ → CType → Typed
number_typed n c = record { code = t.Number (pos n); kind = Some Integer; ty = c }

abbrev pub name_typed : Around → Id → Typed
name_typed a x = record { code = code_name (meaning a x); kind = option_and_then (kind_of a.context.scope.items) (type_of_name a.context.scope x); ty = integer_of (type_of_name a.context.scope x) }

abbrev pub null_typed : Typed
null_typed = record { code = t.Null; kind = Some Null; ty = ints.Int }

abbrev pub field_typed : List Item → Typed → Id → Typed
field_typed items x y = record {
  code = t.Field x.code (field_of_kind items x.kind y);
  kind = option_and_then (λ k. option_and_then (λ g. kind_of items g.ty) (field_of k y)) x.kind;
  ty = integer_of (option_map (λ f. f.ty) (option_and_then (λ k. field_of k y) x.kind));
}

abbrev pub unary_typed : UnaryOperator → Typed → Typed
unary_typed o x = record { code = code_unary o x.code x.ty; kind = option_and_then (λ k. only_if (unary_fits o k) Integer) x.kind; ty = negated_type o x.ty }

abbrev pub binary_typed : BinaryOperator → Typed → Typed → Typed
binary_typed o x y = record {
  code = code_binary (binary o) (operand x) (operand y);
  kind = option_and_then (λ k. option_and_then (λ l. only_if (binary_fits o k l) Integer) y.kind) x.kind;
  ty = result_type (binary o) x.ty y.ty;
}

abbrev pub conditional_typed : Typed → Typed → Typed → Typed
conditional_typed x y z = record {
  code = chosen x.code (operand y) (operand z);
  kind = option_and_then (λ j. option_and_then (λ k. option_and_then (conditional_kind j k) z.kind) y.kind) x.kind;
  ty = usual_type y.ty z.ty;
}

-- what stands in no code
abbrev pub other_typed : Option Kind → Typed
other_typed k = record { code = t.Null; kind = k; ty = ints.Int }
