-- What a piece of a program breaks, by its parts.
use Rattle.std.proofs.Common.{◌≡◌, refl, sym, ◌∙◌, ap, append-nil, Bool, true, not, ◌&&◌, ◌||◌, List, [], ◌∷◌, ◌++◌, Option, Some, None, drop}
use Rattle.std.specs.Prelude.{flat_map, map, is_some}
use Rattle.c_syntax.specs.declared.token.Span.{Span}
use Rattle.c_syntax.specs.declared.tree.BinaryOperator.TheVariants as op
use Rattle.c_syntax.specs.Expressions as e
use Rattle.c_syntax.specs.Expressions.{Id, Ty, Exp, Inter, Comparison, CallTree, Rhs, Effect, Assignment}
use Rattle.c_syntax.specs.Ghosts as g
use Rattle.c_syntax.specs.Ghosts.{OwnsEffect, GhostRhs, GStm}
use Rattle.c_syntax.specs.Statements as st
use Rattle.c_syntax.specs.Statements.{Stm, Stms}
use Rattle.c_syntax.specs.Grammar.{first_place}
use Rattle.c_syntax.specs.Items.{FunctionTree, Item}
use Rattle.typing_spec.specs.Declarations.{find_struct, find_function}
use Rattle.typing_spec.specs.Contexts.{Context, ghost, inside_atomic}
use Rattle.typing_spec.specs.ExpressionPieces.{is_of_expression, expression_pieces, alike}
use Rattle.typing_spec.specs.Types.{is_pointer, kind_of, kind, find_variable, converts}
use Rattle.typing_spec.specs.Rules as r
use Rattle.typing_spec.specs.Rules.{Rule}
use Rattle.typing_spec.specs.Pieces.{Piece, expression, Called, Allocation, Interlocked, Assigned, NewClaim, Statement, GhostStatement, StructName, in_statements}
use Rattle.typing_spec.specs.Places.{place_if, places_if, fails, fail_together}
use Rattle.typing_spec.specs.Conversions.{Use, to, as_reference, as_claim, right_use, ghost_right_use, call_uses, effect_uses, owns_uses, return_uses, count_fault, counts_match}
use Rattle.typing_spec.specs.Values.{field_named, interlocked_kind, struct_pointer}
use Rattle.typing_spec.specs.Operands.{misfit, comparison_misfit, effect_misfit}
use Rattle.typing_spec.specs.GhostCode.{variable_is, field_is, named_where}
use Rattle.typing_spec.specs.Ownership.{owns_change, takes_change, may_be_claimed}
use Rattle.typing_spec.specs.Functions.{returns_well, has_value}
use Rattle.typing_spec.specs.Atomic.{is_call_or_malloc, access, accesses, again}
use Rattle.typing_spec.specs.First.{Fault, faults, first_of, earlier, all_at}
use Rattle.typing_spec.specs.FirstLaws.{first_append}
use Rattle.typing_expressions.specs.Violations.{violations, front, further, breaking, broken_if}
use Rattle.typing_expressions.specs.Judging.{unconverted}
use Rattle.typing_expressions.proofs.FoundLaws.{put, made}
use Rattle.std.proofs.lemmas.Bool.{true≢false}
use Rattle.typing_expressions.proofs.Judgements.{own, one, one_alone, last, one_here, last_here, last_of_two, none_behind}
use Rattle.typing_statements.specs.Breaks as b

-- ---- tests

-- values that have to convert, and what else a piece breaks
abbrev unconverted_at : List Use → List Fault
unconverted_at us = all_at r.Conversion (flat_map (λ u. place_if (fail_together converts u.value u.wanted) u.place) us)

uses_then : (us : List Use) (rest : List Fault) (o : Option Fault) → first_of rest ≡ o → first_of (unconverted_at us ++ rest) ≡ earlier (unconverted us) o
uses_then us rest o h = first_append (unconverted_at us) rest ∙ ap (earlier (unconverted us)) h

pub uses_alone : (us : List Use) → first_of (unconverted_at us ++ []) ≡ unconverted us
uses_alone us = ap first_of (append-nil (unconverted_at us))

then_one : (b : Bool) (rule : Rule) (p : Span) (rest : List Fault) (o : Option Fault) → first_of rest ≡ o → first_of (all_at rule (place_if b p) ++ rest) ≡ earlier (broken_if b rule p) o
then_one b rule p rest o h = one b rule p rest ∙ ap (earlier (broken_if b rule p)) h

then_here : (b : Bool) (rule : Rule) (p : Span) (rest : List Fault) (o : Option Fault) → first_of rest ≡ o → first_of (all_at rule (places_if b (p ∷ [])) ++ rest) ≡ earlier (broken_if b rule p) o
then_here b rule p rest o h = one_here b rule p rest ∙ ap (earlier (broken_if b rule p)) h

-- ---- calls, allocations and assignments

count_of : (x : CallTree) (h : Option FunctionTree) → first_of (all_at r.ArgumentCount (count_fault x h) ++ []) ≡ b.count_breaks x h
count_of x None = refl
count_of x (Some h) = last (not (counts_match x h)) r.ArgumentCount x.function.place

pub own_called : (c : Context) (x : CallTree) → violations (Called c x ∷ []) ≡ breaking (b.called_breaks c x (find_function c.scope.items x.function))
own_called c x =
    let h = find_function c.scope.items x.function in
    own (Called c x) (b.called_breaks c x h) refl
    (then_one (not (is_some h)) r.Undeclared x.function.place (unconverted_at (call_uses c x h) ++ (all_at r.ArgumentCount (count_fault x h) ++ [])) (earlier (unconverted (call_uses c x h)) (b.count_breaks x h))
    (uses_then (call_uses c x h) (all_at r.ArgumentCount (count_fault x h) ++ []) (b.count_breaks x h) (count_of x h)))

pub own_struct_name : (items : List Item) (x : Id) → violations (StructName items x ∷ []) ≡ breaking (b.struct_breaks items x)
own_struct_name items x = own (StructName items x) (b.struct_breaks items x) refl (last (not (is_some (find_struct items x))) r.Undeclared x.place)

pub own_allocation : (c : Context) (x : Option Id) (p : Span) (y : Id) → violations (Allocation c x p y ∷ []) ≡ breaking (b.allocation_breaks c.scope.items x p y)
own_allocation c None p y = own (Allocation c None p y) None refl refl
own_allocation c (Some x) p y =
    own (Allocation c (Some x) p y) (b.allocation_breaks c.scope.items (Some x) p y) refl
    (one_alone (fail_together converts (struct_pointer c.scope.items y) (struct_pointer c.scope.items x)) r.Conversion p [] ∙ none_behind (b.allocation_breaks c.scope.items (Some x) p y))

-- the test of a comparison stands in front
compared_then : (c : Context) (x : Inter) (y : Option Comparison) (rest : List Fault) (o : Option Fault) → first_of rest ≡ o → first_of (all_at r.Operands (comparison_misfit c x y) ++ rest) ≡ earlier (b.comparison_breaks c x y) o
compared_then c x None rest o h = h
compared_then c x (Some y) rest o h = then_one (misfit op.Equal (interlocked_kind c.scope x) (kind c.scope y.other)) r.Operands y.place rest o h

pub own_interlocked : (c : Context) (x : Inter) (y : Option Comparison) → violations (Interlocked c x y ∷ []) ≡ breaking (b.interlocked_breaks c x y)
own_interlocked c x y =
    let us = map (to (interlocked_kind c.scope x) c) x.arguments in
    let tail = broken_if (b.is_out_of_form c x) r.InterlockedCall x.place in
    own (Interlocked c x y) (b.interlocked_breaks c x y) refl
    (compared_then c x y (unconverted_at us ++ (all_at r.InterlockedCall (place_if (b.is_out_of_form c x) x.place) ++ [])) (earlier (unconverted us) tail)
    (uses_then us (all_at r.InterlockedCall (place_if (b.is_out_of_form c x) x.place) ++ []) tail (last (b.is_out_of_form c x) r.InterlockedCall x.place)))

-- ---- ghost statements

pub own_new_claim : (c : Context) (xs : List Exp) (x : Exp) → violations (NewClaim c xs x ∷ []) ≡ breaking (b.new_claim_breaks c xs)
own_new_claim c xs x =
    let us = map (as_reference c) xs in
    let places = flat_map (λ y. place_if (fails may_be_claimed (kind c.scope y)) (first_place y)) xs in
    own (NewClaim c xs x) (b.new_claim_breaks c xs) refl (uses_then us (all_at r.Claimed places ++ []) (b.claimed_breaks c xs) (ap first_of (append-nil (all_at r.Claimed places))))

ghost_write_of : (c : Context) (x : Exp) → first_of (all_at r.GhostWrites (named_where not c x) ++ []) ≡ b.ghost_write_breaks c x
ghost_write_of c (e.Name x) = last (variable_is (λ v. not v.is_ghost) (find_variable c.scope x)) r.GhostWrites x.place
ghost_write_of c (e.Field p x y) = last (field_is (λ f. not f.is_ghost) (field_named c.scope (e.Field p x y))) r.GhostWrites y.place
ghost_write_of c _ = refl

owns_change_of : (c : Context) (p : Span) (x : Exp) (q : Span) (y : OwnsEffect) → first_of (all_at r.OwnsChange (owns_change (GhostStatement c (g.Owns p x q y))) ++ []) ≡ b.owns_change_breaks c x y
owns_change_of c p (e.Owns a x w) q y = last (fails (takes_change c.in_atomic y) (kind c.scope x)) r.OwnsChange w
owns_change_of c p _ q y = refl

-- what can't stand in an atomic block, and what else is wrong
atomic_then : (c : Context) (p : Span) (rest : List Fault) (o : Option Fault) → first_of rest ≡ o → first_of (all_at r.InAtomic (places_if c.in_atomic (p ∷ [])) ++ rest) ≡ earlier (b.atomic_breaks c p) o
atomic_then c p rest o h = then_here c.in_atomic r.InAtomic p rest o h

atomic_alone : (c : Context) (p : Span) → first_of (all_at r.InAtomic (places_if c.in_atomic (p ∷ [])) ++ []) ≡ b.atomic_breaks c p
atomic_alone c p = last_here c.in_atomic r.InAtomic p

wrap_of : (c : Context) (x : Exp) → first_of (all_at r.WrapOperand (place_if (fails is_pointer (kind c.scope x)) (first_place x)) ++ []) ≡ b.wrap_breaks c x
wrap_of c x = last (fails is_pointer (kind c.scope x)) r.WrapOperand (first_place x)

ghost_faults : (c : Context) (s : GStm) → first_of (faults (GhostStatement c s)) ≡ b.ghost_breaks c s
ghost_faults c (g.Block p ss) = refl
ghost_faults c (g.Declare p ty x None) = atomic_alone c p
ghost_faults c (g.Declare p ty x (Some r)) = uses_then (ghost_right_use c (kind_of c.scope.items ty) r ∷ []) _ _ (atomic_alone c p)
ghost_faults c (g.Assign p x q r) = uses_then (ghost_right_use c (kind c.scope x) r ∷ []) _ _ (ghost_write_of c x)
ghost_faults c (g.Owns p x q y) = uses_then (owns_uses c y) _ _ (owns_change_of c p x q y)
ghost_faults c (g.DestroyClaim p x xs) = uses_alone (as_claim c x ∷ map (as_reference c) xs)
ghost_faults c (g.Wrap p x) = atomic_then c p _ _ (wrap_of c x)
ghost_faults c (g.Unwrap p x) = atomic_then c p _ _ (wrap_of c x)
ghost_faults c (g.If p x s) = refl
ghost_faults c (g.IfElse p x s t) = refl

pub own_ghost : (c : Context) (s : GStm) → violations (GhostStatement c s ∷ []) ≡ breaking (b.ghost_breaks c s)
own_ghost c s = own (GhostStatement c s) (b.ghost_breaks c s) refl (ghost_faults c s)

-- ---- statements

assign_of : (c : Context) (p : Span) (a : Assignment) → first_of (all_at r.InAtomic (places_if c.in_atomic (place_if (is_call_or_malloc a.effect) p)) ++ []) ≡ broken_if (c.in_atomic && is_call_or_malloc a.effect) r.InAtomic p
assign_of c p a = last_of_two c.in_atomic (is_call_or_malloc a.effect) r.InAtomic p

return_of : (c : Context) (p : Span) (x : Option Exp) → first_of (all_at r.InAtomic (places_if c.in_atomic (p ∷ [])) ++ (all_at r.ReturnForm (place_if (c.in_unwrapping || not (returns_well c.value x)) p) ++ [])) ≡ b.return_breaks c p x
return_of c p x = atomic_then c p (all_at r.ReturnForm (place_if (c.in_unwrapping || not (returns_well c.value x)) p) ++ []) _ (last (c.in_unwrapping || not (returns_well c.value x)) r.ReturnForm p)

spawn_of : (c : Context) (p : Span) (x : CallTree) → first_of (all_at r.InAtomic (places_if c.in_atomic (p ∷ [])) ++ (all_at r.SpawnedValue (place_if (has_value (find_function c.scope.items x.function)) x.function.place) ++ [])) ≡ b.statement_breaks c (st.Spawn p x)
spawn_of c p x = atomic_then c p _ _ (last (has_value (find_function c.scope.items x.function)) r.SpawnedValue x.function.place)

later_of : (xs : List Piece) → first_of (all_at r.SecondAccess (drop 1 (flat_map accesses xs)) ++ []) ≡ (violations xs).later
unfolding violations
later_of xs = ap first_of (append-nil (all_at r.SecondAccess (drop 1 (flat_map accesses xs))))

statement_faults : (c : Context) (s : Stm) → first_of (faults (Statement c s)) ≡ b.statement_breaks c s
statement_faults c (st.Block p ss q) = refl
statement_faults c (st.Skip p) = refl
statement_faults c (st.Declare p ty x None) = atomic_alone c p
statement_faults c (st.Declare p ty x (Some r)) = uses_then (right_use c (kind_of c.scope.items ty) r ∷ []) _ _ (atomic_alone c p)
statement_faults c (st.Assign p x) = assign_of c p x
statement_faults c (st.Call p x) = atomic_alone c p
statement_faults c (st.If p x s) = atomic_alone c p
statement_faults c (st.IfElse p x s t) = atomic_alone c p
statement_faults c (st.While p x is s) = atomic_alone c p
statement_faults c (st.Do p is s q x) = atomic_alone c p
statement_faults c (st.For p a x b is s) = atomic_alone c p
statement_faults c (st.Return p None) = return_of c p None
statement_faults c (st.Return p (Some x)) = uses_then (return_uses c c.value x) _ _ (return_of c p (Some x))
statement_faults c (st.Spawn p x) = spawn_of c p x
statement_faults c (st.Free p x) = uses_then (as_reference c x ∷ []) _ _ (atomic_alone c p)
statement_faults c (st.Assert p x) = atomic_alone c p
statement_faults c (st.Ghost p s) = refl
statement_faults c (st.Wrap p x) = atomic_then c p _ _ (wrap_of (ghost c) x)
statement_faults c (st.Unwrap p x) = atomic_then c p _ _ (wrap_of (ghost c) x)
statement_faults c (st.Unwrapping p x ss q) = atomic_then c p _ _ (wrap_of (ghost c) x)
statement_faults c (st.Atomic p xs ss q) =
    uses_then (map (as_reference (ghost c)) xs) _ _ (atomic_then c p (all_at r.SecondAccess (drop 1 (flat_map accesses (in_statements (inside_atomic c) ss))) ++ []) _ (later_of (in_statements (inside_atomic c) ss)))

pub own_statement : (c : Context) (s : Stm) → violations (Statement c s ∷ []) ≡ breaking (b.statement_breaks c s)
own_statement c s = own (Statement c s) (b.statement_breaks c s) refl (statement_faults c s)

-- ---- assignments

one_access : (x : Piece) → is_of_expression x ≡ true → accesses x ≡ access x
one_access (Assigned c a) h = absurd (true≢false (sym h))
one_access _ h = refl

-- none of the pieces of an expression is an assignment
plain : (c : Context) (x : Exp) → flat_map accesses (expression c x) ≡ flat_map access (expression c x)
plain c x = alike accesses access one_access (expression c x) (expression_pieces c x)

assigned_faults : (c : Context) (a : Assignment) → first_of (faults (Assigned c a)) ≡ b.assigned_breaks c a
assigned_faults c a = then_one (effect_misfit c (kind c.scope a.left) a.effect) r.Operands a.place (unconverted_at (effect_uses c a.left a.effect) ++ []) _ (uses_alone (effect_uses c a.left a.effect))

-- an assignment that also reads its left side
read_too : (c : Context) (a : Assignment) → accesses (Assigned c a) ≡ flat_map access (expression c a.left) → violations (Assigned c a ∷ []) ≡ put (b.assigned_breaks c a) (violations (expression c a.left)).access (violations (expression c a.left)).later
unfolding violations
read_too c a h =
    let all = append-nil (accesses (Assigned c a)) ∙ (h ∙ sym (plain c a.left)) in
    made (ap first_of (append-nil (faults (Assigned c a))) ∙ assigned_faults c a) (ap front all) (ap (λ (ps : List Span). further (drop 1 ps)) all)

pub own_assigned : (c : Context) (a : Assignment) → violations (Assigned c a ∷ []) ≡ b.assigned_found c a (violations (expression c a.left)) a.effect
own_assigned c a = go c a a.effect refl
  where
    go : (c : Context) (a : Assignment) (f : Effect) → a.effect ≡ f → violations (Assigned c a ∷ []) ≡ b.assigned_found c a (violations (expression c a.left)) f
    go c a (e.Set x) h = own (Assigned c a) (b.assigned_breaks c a) (ap (again c a.left) h) (assigned_faults c a)
    go c a (e.Add x) h = read_too c a (ap (again c a.left) h)
    go c a (e.Subtract x) h = read_too c a (ap (again c a.left) h)
    go c a e.Increment h = read_too c a (ap (again c a.left) h)
    go c a e.Decrement h = read_too c a (ap (again c a.left) h)
