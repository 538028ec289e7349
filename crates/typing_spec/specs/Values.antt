-- What right sides, calls and allocations give. From ISO/IEC 9899 6.5.2.2 and 7.22.3.4 and the VCC manual.
use Rattle.std.specs.Prelude.{List, Option, Some, None, option_and_then, option_map}
use Rattle.c_syntax.specs.declared.token.Span.{Span}
use Rattle.c_syntax.specs.declared.tree.BinaryOperator.TheVariants as op
use Rattle.c_syntax.specs.Expressions as e
use Rattle.c_syntax.specs.Expressions.{Id, Ty, Exp, Inter, Comparison, CallTree, Rhs}
use Rattle.c_syntax.specs.Ghosts as g
use Rattle.c_syntax.specs.Ghosts.{GhostRhs}
use Rattle.c_syntax.specs.Grammar.{first_place}
use Rattle.c_syntax.specs.Items.{FieldTree, Item}
use Rattle.typing_spec.specs.Declarations.{find_struct, find_function}
use Rattle.typing_spec.specs.Contexts.{Scope}
use Rattle.typing_spec.specs.Types.{Kind, Integer, Pointer, Claim, Void, is_integer, only_if, binary_fits, kind_of, field_of, kind}

-- the field that `x->f` names
abbrev pub field_named : Scope → Exp → Option FieldTree
field_named here (e.Field p x y) = option_and_then (λ k. field_of k y) (kind here x)
field_named here _ = None

abbrev pub value_kind : List Item → Option Ty → Option Kind
value_kind items None = Some Void
value_kind items (Some ty) = kind_of items ty

abbrev pub call_kind : Scope → CallTree → Option Kind
call_kind here x = option_and_then (λ f. value_kind here.items f.value) (find_function here.items x.function)

-- an Interlocked call gives an integer; the kind is open where its field is none
abbrev pub interlocked_kind : Scope → Inter → Option Kind
interlocked_kind here x = option_and_then (λ k. only_if (is_integer k) Integer) (kind here x.field)

abbrev pub struct_pointer : List Item → Id → Option Kind
struct_pointer items x = option_map (λ s. Pointer s) (find_struct items x)

-- a `malloc`, behind its cast
abbrev pub malloc_kind : List Item → Option Id → Id → Option Kind
malloc_kind items (Some x) y = struct_pointer items x
malloc_kind items None y = struct_pointer items y

-- an Interlocked call with the `==` or `!=` behind it; the kind is open where the two don't compare
abbrev pub compared_kind : Scope → Option Kind → Option Comparison → Option Kind
compared_kind here k None = k
compared_kind here k (Some y) = option_and_then (λ a. option_and_then (λ b. only_if (binary_fits op.Equal a b) Integer) (kind here y.other)) k

-- what a right side gives, and where it stands
abbrev pub right_kind : Scope → Rhs → Option Kind
right_kind here (e.Value x) = kind here x
right_kind here (e.Malloc x p y) = malloc_kind here.items x y
right_kind here (e.Locked x y) = compared_kind here (interlocked_kind here x) y
right_kind here (e.Called x) = call_kind here x

abbrev pub right_place : Rhs → Span
right_place (e.Value x) = first_place x
right_place (e.Malloc x p y) = p
right_place (e.Locked x y) = x.place
right_place (e.Called x) = x.function.place

abbrev pub ghost_right_kind : Scope → GhostRhs → Option Kind
ghost_right_kind here (g.Value x) = kind here x
ghost_right_kind here (g.MakeClaim p xs x) = Some Claim

abbrev pub ghost_right_place : GhostRhs → Span
ghost_right_place (g.Value x) = first_place x
ghost_right_place (g.MakeClaim p xs x) = p
