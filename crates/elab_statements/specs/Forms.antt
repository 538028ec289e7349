-- Statements by groups of forms, as they are typed. Own.
use Rattle.std.specs.Prelude.{ℕ, List, Option, None, Some, option_map}
use Rattle.c_syntax.specs.Expressions.{Id, Ty, Assignment}
use Rattle.c_syntax.specs.Ghosts as g
use Rattle.c_syntax.specs.Ghosts.{GhostRhs, GStm}
use Rattle.c_syntax.specs.Statements as st
use Rattle.c_syntax.specs.Statements.{Stm}
use Rattle.typed_program.specs.Codes.{code}
use Rattle.typed_program.specs.Numbers.{Around, function_number, struct_at}
use Rattle.typed_program.specs.Statements as s
use Rattle.typed_program.specs.Statements.{Counters, plus, in_ghost, in_statement}
use Rattle.typed_program.specs.Trees as t
use Rattle.elab_clauses.specs.Numberings.{Numbering, said}
use Rattle.elab_statements.specs.Rows.{Typed, TypedInner, nothing, single, appended, no_inner, single_inner}
use Rattle.elab_statements.specs.Shaped.{declared_statement, while_row, do_row, for_row}

-- an action, if there is one
abbrev pub done : Counters → ℕ → Option t.Action → Typed
done n line None = nothing n
done n line (Some x) = single n (t.Do line x)

-- the same within an atomic block
abbrev pub done_inner : Counters → ℕ → Option t.Simple → TypedInner
done_inner n line None = no_inner n
done_inner n line (Some x) = single_inner n (t.Inside line x)

-- ---- statements that hold no others

-- a declaration, an assignment, a call or a return
abbrev pub simple_row : Around → Counters → Stm → Typed
simple_row a n (st.Declare p ty x r) = single n (declared_statement a p.line ty x r)
simple_row a n (st.Assign p x) = single n (s.assigned a p.line x)
simple_row a n (st.Call p x) = single n (s.call_of a p.line t.Nobody None x)
simple_row a n (st.Return p x) = single n (t.Return p.line (s.returned a x))
simple_row a n _ = nothing n

-- an action that neither declares nor assigns
abbrev pub action : Numbering → Around → Counters → Stm → Option t.Action
action k a n (st.Spawn p x) = Some (t.SpawnThread (function_number a.context.scope.items x.function) (s.arguments a x))
action k a n (st.Free p x) = Some (t.FreeObject (code a x))
action k a n (st.Assert p x) = Some (t.AssertSpec (said k a n.formulas x))
action k a n (st.Wrap p x) = Some (t.WrapObject (struct_at a x) n.formulas (code a x))
action k a n (st.Unwrap p x) = Some (t.UnwrapObject (code a x))
action k a n _ = None

abbrev pub action_row : Numbering → Around → Counters → ℕ → Stm → Typed
action_row k a n line x = done (plus n (in_statement x)) line (action k a n x)

-- a change that may also stand within an atomic block
abbrev pub ghost_change : Around → Counters → GStm → Option t.Simple
ghost_change a n (g.Assign p x q r) = Some (s.ghost_assigned a n x r)
ghost_change a n (g.Owns p x q y) = Some (s.owned_change a x y)
ghost_change a n (g.DestroyClaim p x xs) = Some (s.claim_end a n x xs)
ghost_change a n _ = None

abbrev pub ghost_declared : Around → Counters → Ty → Id → Option GhostRhs → t.Action
ghost_declared a n ty x None = t.Declare (s.variable a x)
ghost_declared a n ty x (Some r) = t.Define (s.variable a x) (s.ghost_right a n ty r)

abbrev pub ghost_action : Around → Counters → GStm → Option t.Action
ghost_action a n (g.Declare p ty x r) = Some (ghost_declared a n ty x r)
ghost_action a n (g.Wrap p x) = Some (t.WrapObject (struct_at a x) n.formulas (code a x))
ghost_action a n (g.Unwrap p x) = Some (t.UnwrapObject (code a x))
ghost_action a n x = option_map t.Simply (ghost_change a n x)

abbrev pub ghost_action_row : Around → Counters → ℕ → GStm → Typed
ghost_action_row a n line x = done (plus n (in_ghost x)) line (ghost_action a n x)

abbrev pub inner_change_row : Around → Counters → ℕ → GStm → TypedInner
inner_change_row a n line x = done_inner (plus n (in_ghost x)) line (ghost_change a n x)

-- ---- loops

-- the assignment in front of a loop or behind its body, behind what stands before it
abbrev pub assigned_behind : Around → Typed → Option Assignment → Typed
assigned_behind a r x = appended r (record { statements = s.maybe_assigned a x; next = r.next })

-- a loop with these invariants and this body
abbrev pub loop_row : Around → Counters → Stm → List t.Spec → Typed → Typed
loop_row a n (st.While p x js y) is body = while_row p.line is (code a x) body
loop_row a n (st.Do p js y q x) is body = do_row p.line is body q.line (code a x)
loop_row a n (st.For p u x v js y) is body = for_row p.line (record { statements = s.maybe_assigned a u; next = n }) is (code a x) body (s.maybe_assigned a v)
loop_row a n _ is body = body
