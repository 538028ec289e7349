-- Parts of right sides and of changes.
use Rattle.std.specs.Prelude.{true, Option, Some, None}
use Rattle.c_syntax.specs.Expressions as e
use Rattle.c_syntax.specs.Expressions.{CallTree, Rhs, Effect}
use Rattle.method.specs.declared.program.Operator.{Operator}
use Rattle.typed_program.specs.Codes.{Computes, Operand, code_binary, common}

-- what an operator of arithmetic gives of two operands. ISO/IEC 9899 6.5.16.2
abbrev pub computed : Operator → Operand → Operand → Operand
computed o x y = record { code = code_binary (Computes o) x y; is_int = true; ty = common x y }

-- the call that a right side is, if it is one. Own
abbrev pub call_in : Rhs → Option CallTree
call_in (e.Called x) = Some x
call_in _ = None

-- the call that stands right of `=`, if one does. Own
abbrev pub call_set : Effect → Option CallTree
call_set (e.Set x) = call_in x
call_set _ = None
