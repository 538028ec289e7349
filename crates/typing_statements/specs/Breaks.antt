-- What each piece of a program that is no expression breaks, out of what its parts are: own. Each is the first of the piece's faults (proofs/Own).
use Rattle.std.specs.Prelude.{Bool, true, false, not, ◌&&◌, ◌||◌, ◌==◌, List, [], ◌∷◌, Option, Some, None, is_some, length, map, flat_map, if◌then◌else◌}
use Rattle.std.specs.Option.{option_and_then}
use Rattle.c_syntax.specs.declared.token.Span.{Span}
use Rattle.c_syntax.specs.declared.tree.BinaryOperator.TheVariants as op
use Rattle.c_syntax.specs.Expressions as e
use Rattle.c_syntax.specs.Expressions.{Id, Ty, Exp, Inter, Comparison, CallTree, Rhs, Effect, Assignment}
use Rattle.c_syntax.specs.Ghosts as g
use Rattle.c_syntax.specs.Ghosts.{OwnsEffect, GhostRhs, GStm}
use Rattle.c_syntax.specs.Statements as st
use Rattle.c_syntax.specs.Statements.{Inv, Stm, Stms}
use Rattle.c_syntax.specs.Grammar.{first_place}
use Rattle.c_syntax.specs.Items.{Param, FunctionTree, Item}
use Rattle.typing_spec.specs.Declarations.{find_struct, find_function}
use Rattle.typing_spec.specs.Contexts.{Context, LoopInvariant, Assert, with_text, ghost, inside_atomic}
use Rattle.typing_spec.specs.Types.{Kind, Integer, Object, Claim, is_integer, is_pointer, only_if, kind_of, kind, find_variable, converts}
use Rattle.typing_spec.specs.Values.{field_named, interlocked_kind, struct_pointer, right_kind, right_place, ghost_right_kind, ghost_right_place}
use Rattle.typing_spec.specs.Pieces.{expression, expressions, call, assignment, invariants, if_some, right, claim_property, ghost_right, owns_effect, in_statements}
use Rattle.typing_spec.specs.Places.{place_if, fails, fail_together}
use Rattle.typing_spec.specs.Rules as r
use Rattle.typing_spec.specs.Rules.{Rule}
use Rattle.typing_spec.specs.Operands.{misfit, effect_misfit}
use Rattle.typing_spec.specs.Conversions.{to, as_reference, as_claim, right_use, ghost_right_use, effect_uses, call_uses, owns_uses, return_uses, counts_match}
use Rattle.typing_spec.specs.GhostCode.{variable_is, field_is}
use Rattle.typing_spec.specs.Atomic.{is_call_or_malloc, others, is_exchangeable}
use Rattle.typing_spec.specs.Ownership.{takes_change, may_be_claimed}
use Rattle.typing_spec.specs.Functions.{returns_well, has_value}
use Rattle.typing_spec.specs.First.{Fault, first_of, all_at, earlier}
use Rattle.typing_expressions.specs.Violations.{Violations, violations, nothing, breaking, joined, broken_if}
use Rattle.typing_expressions.specs.Judging.{unconverted, type_breaks}

-- ---- calls, allocations and assignments

abbrev pub count_breaks : CallTree → Option FunctionTree → Option Fault
count_breaks x None = None
count_breaks x (Some h) = broken_if (not (counts_match x h)) r.ArgumentCount x.function.place

-- a call of a function, or of none
abbrev pub called_breaks : Context → CallTree → Option FunctionTree → Option Fault
called_breaks c x h = earlier (broken_if (not (is_some h)) r.Undeclared x.function.place) (earlier (unconverted (call_uses c x h)) (count_breaks x h))

abbrev pub struct_breaks : List Item → Id → Option Fault
struct_breaks items x = broken_if (not (is_some (find_struct items x))) r.Undeclared x.place

-- the same, of arguments that break this
abbrev pub called_by : CallTree → Option FunctionTree → Option Fault → Option Fault
called_by x h us = earlier (broken_if (not (is_some h)) r.Undeclared x.function.place) (earlier us (count_breaks x h))

-- the parameters of a function, if there is one
abbrev pub parameters_of : Option FunctionTree → List Param
parameters_of None = []
parameters_of (Some h) = h.parameters

abbrev pub ghost_parameters_of : Option FunctionTree → List Param
ghost_parameters_of None = []
ghost_parameters_of (Some h) = h.ghost_parameters

-- an argument that doesn't convert to its parameter
abbrev pub mispassed : Context → Option Kind → Option Param → Span → Option Fault
mispassed c k None p = None
mispassed c k (Some x) p = broken_if (fail_together converts k (kind_of c.scope.items x.ty)) r.Conversion p

-- the struct of a cast
abbrev pub cast_breaks : List Item → Option Id → Option Fault
cast_breaks items None = None
cast_breaks items (Some x) = struct_breaks items x

-- a `malloc` behind a cast
abbrev pub allocation_breaks : List Item → Option Id → Span → Id → Option Fault
allocation_breaks items None p y = None
allocation_breaks items (Some x) p y = broken_if (fail_together converts (struct_pointer items y) (struct_pointer items x)) r.Conversion p

abbrev pub comparison_breaks : Context → Inter → Option Comparison → Option Fault
comparison_breaks c x None = None
comparison_breaks c x (Some y) = broken_if (misfit op.Equal (interlocked_kind c.scope x) (kind c.scope y.other)) r.Operands y.place

-- the same, of a value of this kind
abbrev pub comparison_of : Context → Option Kind → Option Comparison → Option Fault
comparison_of c k None = None
comparison_of c k (Some y) = broken_if (misfit op.Equal k (kind c.scope y.other)) r.Operands y.place

-- what an Interlocked call gives, on a field of this kind
abbrev pub integer_of : Option Kind → Option Kind
integer_of = option_and_then (λ k. only_if (is_integer k) Integer)

-- what breaks in a `malloc`
abbrev pub malloc_found : List Item → Option Id → Span → Id → Violations
malloc_found items x p y = joined (breaking (allocation_breaks items x p y)) (joined (breaking (cast_breaks items x)) (breaking (struct_breaks items y)))

abbrev pub is_out_of_form : Context → Inter → Bool
is_out_of_form c x = not c.in_atomic || (field_is (λ f. not (is_exchangeable f)) (field_named c.scope x.field) || not (length x.arguments == others x.function))

abbrev pub interlocked_breaks : Context → Inter → Option Comparison → Option Fault
interlocked_breaks c x y =
    earlier (comparison_breaks c x y) (earlier (unconverted (map (to (interlocked_kind c.scope x) c) x.arguments)) (broken_if (is_out_of_form c x) r.InterlockedCall x.place))

abbrev pub assigned_breaks : Context → Assignment → Option Fault
assigned_breaks c a = earlier (broken_if (effect_misfit c (kind c.scope a.left) a.effect) r.Operands a.place) (unconverted (effect_uses c a.left a.effect))

-- `x += e` accesses x once more than it is written
abbrev pub assigned_found : Context → Assignment → Violations → Effect → Violations
assigned_found c a left (e.Set x) = record { first = assigned_breaks c a; access = None; later = None }
assigned_found c a left _ = record { first = assigned_breaks c a; access = left.access; later = left.later }

-- what an assignment's sign and right side break with a left side of some kind, whether the left side is read too, and what breaks in the right side
pub record Change : Type 0 where
  pub own_misfit : Bool
  pub unconverted : Option Fault
  pub reads_left : Bool
  pub violations : Violations

abbrev pub change : Context → Option Kind → Effect → Change
change c k (e.Set x) = record { own_misfit = false; unconverted = broken_if (fail_together converts (right_kind c.scope x) k) r.Conversion (right_place x); reads_left = false; violations = violations (right c x) }
change c k (e.Add x) = record { own_misfit = misfit op.Plus k (kind c.scope x); unconverted = None; reads_left = true; violations = violations (expression c x) }
change c k (e.Subtract x) = record { own_misfit = misfit op.Minus k (kind c.scope x); unconverted = None; reads_left = true; violations = violations (expression c x) }
change c k e.Increment = record { own_misfit = fails is_integer k; unconverted = None; reads_left = true; violations = nothing }
change c k e.Decrement = record { own_misfit = fails is_integer k; unconverted = None; reads_left = true; violations = nothing }

-- with a left side of which this is found
abbrev pub assigned : Violations → Span → Change → Violations
assigned left p x =
    if x.reads_left then record { first = earlier (broken_if x.own_misfit r.Operands p) x.unconverted; access = left.access; later = left.later }
    else breaking (earlier (broken_if x.own_misfit r.Operands p) x.unconverted)

-- ---- ghost statements

-- the first object that can't be claimed
abbrev pub claimed_breaks : Context → List Exp → Option Fault
claimed_breaks c xs = first_of (all_at r.Claimed (flat_map (λ x. place_if (fails may_be_claimed (kind c.scope x)) (first_place x)) xs))

abbrev pub new_claim_breaks : Context → List Exp → Option Fault
new_claim_breaks c xs = earlier (unconverted (map (as_reference c) xs)) (claimed_breaks c xs)

-- a left side that isn't ghost
abbrev pub ghost_write_breaks : Context → Exp → Option Fault
ghost_write_breaks c (e.Name x) = broken_if (variable_is (λ v. not v.is_ghost) (find_variable c.scope x)) r.GhostWrites x.place
ghost_write_breaks c (e.Field p x y) = broken_if (field_is (λ f. not f.is_ghost) (field_named c.scope (e.Field p x y))) r.GhostWrites y.place
ghost_write_breaks c _ = None

abbrev pub owns_change_breaks : Context → Exp → OwnsEffect → Option Fault
owns_change_breaks c (e.Owns a x w) y = broken_if (fails (takes_change c.in_atomic y) (kind c.scope x)) r.OwnsChange w
owns_change_breaks c _ y = None

abbrev pub wrap_breaks : Context → Exp → Option Fault
wrap_breaks c x = broken_if (fails is_pointer (kind c.scope x)) r.WrapOperand (first_place x)

-- what is wrapped or unwrapped and of this kind
abbrev pub wrap_of : Option Kind → Span → Option Fault
wrap_of k p = broken_if (fails is_pointer k) r.WrapOperand p

-- what can't stand in an atomic block
abbrev pub atomic_breaks : Context → Span → Option Fault
atomic_breaks c p = broken_if c.in_atomic r.InAtomic p

abbrev pub ghost_breaks : Context → GStm → Option Fault
ghost_breaks c (g.Block p ss) = None
ghost_breaks c (g.Declare p ty x None) = atomic_breaks c p
ghost_breaks c (g.Declare p ty x (Some r)) = earlier (unconverted (ghost_right_use c (kind_of c.scope.items ty) r ∷ [])) (atomic_breaks c p)
ghost_breaks c (g.Assign p x q r) = earlier (unconverted (ghost_right_use c (kind c.scope x) r ∷ [])) (ghost_write_breaks c x)
ghost_breaks c (g.Owns p x q y) = earlier (unconverted (owns_uses c y)) (owns_change_breaks c x y)
ghost_breaks c (g.DestroyClaim p x xs) = unconverted (as_claim c x ∷ map (as_reference c) xs)
ghost_breaks c (g.Wrap p x) = earlier (atomic_breaks c p) (wrap_breaks c x)
ghost_breaks c (g.Unwrap p x) = earlier (atomic_breaks c p) (wrap_breaks c x)
ghost_breaks c (g.If p x s) = None
ghost_breaks c (g.IfElse p x s t) = None

-- what breaks in a claim that is made
abbrev pub claim_found : Context → List Exp → Exp → Violations
claim_found c xs x = joined (breaking (new_claim_breaks c xs)) (joined (violations (expressions c xs)) (violations (expression (claim_property xs c) x)))

-- what breaks in a ghost statement that holds no others
abbrev pub ghost_declaration : Context → Span → Ty → Option GhostRhs → Violations
ghost_declaration c p ty None = joined (breaking (atomic_breaks c p)) (breaking (type_breaks c.scope.items ty))
ghost_declaration c p ty (Some x) =
    joined (breaking (earlier (broken_if (fail_together converts (ghost_right_kind c.scope x) (kind_of c.scope.items ty)) r.Conversion (ghost_right_place x)) (atomic_breaks c p)))
    (joined (breaking (type_breaks c.scope.items ty)) (violations (ghost_right c x)))

abbrev pub ghost_assignment : Context → Exp → GhostRhs → Violations
ghost_assignment c x y =
    joined (breaking (earlier (broken_if (fail_together converts (ghost_right_kind c.scope y) (kind c.scope x)) r.Conversion (ghost_right_place y)) (ghost_write_breaks c x)))
    (joined (violations (expression c x)) (violations (ghost_right c y)))

abbrev pub owned_set_change : Context → Exp → OwnsEffect → Violations
owned_set_change c x y = joined (breaking (earlier (unconverted (owns_uses c y)) (owns_change_breaks c x y))) (joined (violations (expression c x)) (violations (owns_effect c y)))

abbrev pub claim_end : Context → Exp → List Exp → Violations
claim_end c x xs =
    joined (breaking (earlier (broken_if (fail_together converts (kind c.scope x) (Some Claim)) r.Conversion (first_place x)) (unconverted (map (as_reference c) xs)))) (joined (violations (expression c x)) (violations (expressions c xs)))

abbrev pub wrapping : Context → Span → Exp → Violations
wrapping c p x = joined (breaking (earlier (atomic_breaks c p) (wrap_breaks c x))) (violations (expression c x))

-- ---- statements

abbrev pub return_breaks : Context → Span → Option Exp → Option Fault
return_breaks c p x = earlier (atomic_breaks c p) (broken_if (c.in_unwrapping || not (returns_well c.value x)) r.ReturnForm p)

abbrev pub statement_breaks : Context → Stm → Option Fault
statement_breaks c (st.Block p ss q) = None
statement_breaks c (st.Skip p) = None
statement_breaks c (st.Declare p ty x None) = atomic_breaks c p
statement_breaks c (st.Declare p ty x (Some r)) = earlier (unconverted (right_use c (kind_of c.scope.items ty) r ∷ [])) (atomic_breaks c p)
statement_breaks c (st.Assign p x) = broken_if (c.in_atomic && is_call_or_malloc x.effect) r.InAtomic p
statement_breaks c (st.Call p x) = atomic_breaks c p
statement_breaks c (st.If p x s) = atomic_breaks c p
statement_breaks c (st.IfElse p x s t) = atomic_breaks c p
statement_breaks c (st.While p x is s) = atomic_breaks c p
statement_breaks c (st.Do p is s q x) = atomic_breaks c p
statement_breaks c (st.For p a x b is s) = atomic_breaks c p
statement_breaks c (st.Return p None) = return_breaks c p None
statement_breaks c (st.Return p (Some x)) = earlier (unconverted (return_uses c c.value x)) (return_breaks c p (Some x))
statement_breaks c (st.Spawn p x) = earlier (atomic_breaks c p) (broken_if (has_value (find_function c.scope.items x.function)) r.SpawnedValue x.function.place)
statement_breaks c (st.Free p x) = earlier (unconverted (as_reference c x ∷ [])) (atomic_breaks c p)
statement_breaks c (st.Assert p x) = atomic_breaks c p
statement_breaks c (st.Ghost p s) = None
statement_breaks c (st.Wrap p x) = earlier (atomic_breaks c p) (wrap_breaks (ghost c) x)
statement_breaks c (st.Unwrap p x) = earlier (atomic_breaks c p) (wrap_breaks (ghost c) x)
statement_breaks c (st.Unwrapping p x ss q) = earlier (atomic_breaks c p) (wrap_breaks (ghost c) x)
statement_breaks c (st.Atomic p xs ss q) = earlier (unconverted (map (as_reference (ghost c)) xs)) (earlier (atomic_breaks c p) (violations (in_statements (inside_atomic c) ss)).later)

-- ---- what breaks in a statement that holds no others

abbrev pub declaration : Context → Span → Ty → Option Rhs → Violations
declaration c p ty None = joined (breaking (atomic_breaks c p)) (breaking (type_breaks c.scope.items ty))
declaration c p ty (Some x) =
    joined (breaking (earlier (broken_if (fail_together converts (right_kind c.scope x) (kind_of c.scope.items ty)) r.Conversion (right_place x)) (atomic_breaks c p))) (joined (breaking (type_breaks c.scope.items ty)) (violations (right c x)))

abbrev pub assign_statement : Context → Span → Assignment → Violations
assign_statement c p a = joined (breaking (broken_if (c.in_atomic && is_call_or_malloc a.effect) r.InAtomic p)) (violations (assignment c a))

abbrev pub call_statement : Context → Span → CallTree → Violations
call_statement c p x = joined (breaking (atomic_breaks c p)) (violations (call c x))

-- a value of this kind that is returned from a function
abbrev pub returned_by : List Item → Option Ty → Option Kind → Span → Option Fault
returned_by items None k p = None
returned_by items (Some ty) k p = broken_if (fail_together converts k (kind_of items ty)) r.Conversion p

abbrev pub returned_breaks : Context → Option Kind → Span → Option Fault
returned_breaks c = returned_by c.scope.items c.value

abbrev pub return_statement : Context → Span → Option Exp → Violations
return_statement c p None = breaking (return_breaks c p None)
return_statement c p (Some x) = joined (breaking (earlier (returned_breaks c (kind c.scope x) (first_place x)) (return_breaks c p (Some x)))) (violations (expression c x))

abbrev pub spawns_value : Context → CallTree → Bool
spawns_value c x = has_value (find_function c.scope.items x.function)

abbrev pub spawn_statement : Context → Span → CallTree → Violations
spawn_statement c p x = joined (breaking (earlier (atomic_breaks c p) (broken_if (spawns_value c x) r.SpawnedValue x.function.place))) (violations (call c x))

abbrev pub free_statement : Context → Span → Exp → Violations
free_statement c p x = joined (breaking (earlier (broken_if (fail_together converts (kind c.scope x) (Some Object)) r.Conversion (first_place x)) (atomic_breaks c p))) (violations (expression c x))

abbrev pub assertion : Context → Span → Exp → Violations
assertion c p x = joined (breaking (atomic_breaks c p)) (violations (expression (with_text Assert c) x))

abbrev pub wrap_statement : Context → Span → Exp → Violations
wrap_statement c p x = joined (breaking (earlier (atomic_breaks c p) (wrap_breaks (ghost c) x))) (violations (expression (ghost c) x))

-- ---- what stands in front of the statements that another one holds

abbrev pub if_front : Context → Span → Exp → Violations
if_front c p x = joined (breaking (atomic_breaks c p)) (violations (expression c x))

abbrev pub while_front : Context → Span → Exp → List Inv → Violations
while_front c p x is = joined (breaking (atomic_breaks c p)) (joined (violations (expression c x)) (violations (invariants LoopInvariant c is)))

abbrev pub do_front : Context → Span → List Inv → Violations
do_front c p is = joined (breaking (atomic_breaks c p)) (violations (invariants LoopInvariant c is))

abbrev pub for_front : Context → Span → Option Assignment → Exp → Option Assignment → List Inv → Violations
for_front c p a x d is =
    joined (breaking (atomic_breaks c p)) (joined (violations (if_some (assignment c) a)) (joined (violations (expression c x)) (joined (violations (if_some (assignment c) d)) (violations (invariants LoopInvariant c is)))))

-- an atomic block, of whose statements this is found
abbrev pub atomic_block : Context → Span → List Exp → Violations → Violations
atomic_block c p xs inner = joined (breaking (earlier (unconverted (map (as_reference (ghost c)) xs)) (earlier (atomic_breaks c p) inner.later))) (joined (violations (expressions (ghost c) xs)) inner)
