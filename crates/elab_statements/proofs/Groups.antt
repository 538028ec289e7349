-- Groups of forms that one function types or counts: what each comes to.
use Rattle.std.proofs.Common.{◌≡◌, ◌⊎◌, inl, inr, List, Option, None, Some, Vec, Box, Global, refl, sym, ap, ◌∙◌, map}
use Rattle.std.specs.Option.{option_map}
use Rattle.c_syntax.specs.declared.token.Span.{Span}
use Rattle.c_syntax.specs.declared.expressions.Assignment.{Assignment}
use Rattle.c_syntax.specs.declared.expressions.Call.{Call}
use Rattle.c_syntax.specs.declared.expressions.Expr.{Expr}
use Rattle.c_syntax.specs.declared.expressions.Identifier.{Identifier}
use Rattle.c_syntax.specs.declared.expressions.Right.{Right}
use Rattle.c_syntax.specs.declared.expressions.ValueType.{ValueType}
use Rattle.c_syntax.specs.declared.ghosts.GhostRight.{GhostRight}
use Rattle.c_syntax.specs.declared.ghosts.OwnsChange.{OwnsChange}
use Rattle.c_syntax.specs.declared.ghosts.GhostStmt as gs
use Rattle.c_syntax.specs.declared.ghosts.GhostStmt.{GhostStmt}
use Rattle.c_syntax.specs.declared.statements.Invariant.{Invariant}
use Rattle.c_syntax.specs.declared.statements.Stmt as s
use Rattle.c_syntax.specs.declared.statements.Stmt.{Stmt}
use Rattle.c_syntax.specs.Expressions.{Id, Ty}
use Rattle.c_syntax.specs.Ghosts as g
use Rattle.c_syntax.specs.Ghosts.{GhostRhs}
use Rattle.c_syntax.specs.Grammar.{stms_of}
use Rattle.c_syntax.specs.Views as view
use Rattle.elab_annotations.specs.Views.{Several}
use Rattle.elab_clauses.specs.Numberings.{Numbering, said_invariants}
use Rattle.typing_statements.proofs.Sequences.{block_stm, atomic_stm}
use Rattle.typed_program.specs.Numbers.{Around}
use Rattle.typed_program.specs.Statements.{Counters, plus, some_formulas, in_invariants, in_statement, in_statements}
use Rattle.elab_statements.specs.Forms.{simple_row, action_row, ghost_action_row, inner_change_row, loop_row}
use Rattle.elab_statements.specs.Rows.{Typed, typed_ghost, typed_inner_ghost}
use Rattle.elab_statements.specs.Shaped.{typed_statement}
use Rattle.elab_statements.proofs.Counting.{statement_free}
use Rattle.elab_statements.proofs.Forms.{skip_law, declare_law, assign_law, call_law, return_law}
use Rattle.elab_statements.proofs.StatementSteps.{from, form, while_step, do_step, for_step}
use Rattle.elab_statements.proofs.Steps.{ghost_form, inner_ghost_form}
use Rattle.elab_statements.proofs.Sums.{plus_assoc}

-- ---- ghost statements that hold no others

-- with their place
abbrev pub IsGhostAction : Span → GhostStmt → Type 0
IsGhostAction p x =
    ((ty : ValueType) × (y : Identifier) × (r : Option GhostRight) × (x ≡ gs.Declare p ty y r))
    ⊎ (((l : Expr) × (q : Span) × (r : GhostRight) × (x ≡ gs.Assign p l q r))
    ⊎ (((l : Expr) × (q : Span) × (o : OwnsChange) × (x ≡ gs.Owns p l q o))
    ⊎ (((l : Expr) × (os : Vec Expr Global) × (x ≡ gs.DestroyClaim p l os))
    ⊎ (((l : Expr) × (x ≡ gs.Wrap p l))
    ⊎ ((l : Expr) × (x ≡ gs.Unwrap p l))))))

declared_row : (a : Around) (n : Counters) (p : Span) (ty : Ty) (y : Id) (r : Option GhostRhs) → ghost_action_row a n p.line (g.Declare p ty y r) ≡ typed_ghost a n (g.Declare p ty y r)
declared_row a n p ty y None = refl
declared_row a n p ty y (Some r) = refl

turned : (a : Around) (n : Counters) (p : Span) (x y : GhostStmt) → x ≡ y → ghost_action_row a n p.line (view.ghost y) ≡ typed_ghost a n (view.ghost y) → ghost_action_row a n p.line (view.ghost x) ≡ typed_ghost a n (view.ghost x)
turned a n p x y e h = ap (λ (z : GhostStmt). ghost_action_row a n p.line (view.ghost z)) e ∙ (h ∙ ghost_form a n x y e)

pub ghost_alone : (a : Around) (n : Counters) (p : Span) (x : GhostStmt) → IsGhostAction p x → ghost_action_row a n p.line (view.ghost x) ≡ typed_ghost a n (view.ghost x)
ghost_alone a n p x (inl w) = turned a n p x _ w.3 (declared_row a n p (view.ty w.0) (view.id w.1) (option_map view.ghost_rhs w.2))
ghost_alone a n p x (inr (inl w)) = turned a n p x _ w.3 refl
ghost_alone a n p x (inr (inr (inl w))) = turned a n p x _ w.3 refl
ghost_alone a n p x (inr (inr (inr (inl w)))) = turned a n p x _ w.2 refl
ghost_alone a n p x (inr (inr (inr (inr (inl w))))) = turned a n p x _ w.1 refl
ghost_alone a n p x (inr (inr (inr (inr (inr w))))) = turned a n p x _ w.1 refl

inner_turned : (a : Around) (n : Counters) (p : Span) (x y : GhostStmt) → x ≡ y → inner_change_row a n p.line (view.ghost y) ≡ typed_inner_ghost a n (view.ghost y) → inner_change_row a n p.line (view.ghost x) ≡ typed_inner_ghost a n (view.ghost x)
inner_turned a n p x y e h = ap (λ (z : GhostStmt). inner_change_row a n p.line (view.ghost z)) e ∙ (h ∙ inner_ghost_form a n x y e)

pub inner_alone : (a : Around) (n : Counters) (p : Span) (x : GhostStmt) → IsGhostAction p x → inner_change_row a n p.line (view.ghost x) ≡ typed_inner_ghost a n (view.ghost x)
inner_alone a n p x (inl w) = inner_turned a n p x _ w.3 refl
inner_alone a n p x (inr (inl w)) = inner_turned a n p x _ w.3 refl
inner_alone a n p x (inr (inr (inl w))) = inner_turned a n p x _ w.3 refl
inner_alone a n p x (inr (inr (inr (inl w)))) = inner_turned a n p x _ w.2 refl
inner_alone a n p x (inr (inr (inr (inr (inl w))))) = inner_turned a n p x _ w.1 refl
inner_alone a n p x (inr (inr (inr (inr (inr w))))) = inner_turned a n p x _ w.1 refl

-- ---- statements that hold no others

abbrev pub IsSimple : Stmt → Type 0
IsSimple x =
    ((p : Span) × (x ≡ s.Skip p))
    ⊎ (((p : Span) × (ty : ValueType) × (y : Identifier) × (r : Option Right) × (x ≡ s.Declare p ty y r))
    ⊎ (((p : Span) × (y : Assignment) × (x ≡ s.Assign p y))
    ⊎ (((p : Span) × (y : Call) × (x ≡ s.Call p y))
    ⊎ ((p : Span) × (y : Option Expr) × (x ≡ s.Return p y)))))

simple_turned : (k : Numbering) (a : Around) (n : Counters) (x y : Stmt) → x ≡ y → simple_row a n (view.stm y) ≡ typed_statement k a n (view.stm y) → simple_row a n (view.stm x) ≡ typed_statement k a n (view.stm x)
simple_turned k a n x y e h = ap (λ (z : Stmt). simple_row a n (view.stm z)) e ∙ (h ∙ form k a n x y e)

pub simple_alone : (k : Numbering) (a : Around) (n : Counters) (x : Stmt) → IsSimple x → simple_row a n (view.stm x) ≡ typed_statement k a n (view.stm x)
simple_alone k a n x (inl w) = simple_turned k a n x _ w.1 (skip_law k a n w.0)
simple_alone k a n x (inr (inl w)) = simple_turned k a n x _ w.4 (declare_law k a n w.0 (view.ty w.1) (view.id w.2) (option_map view.rhs w.3))
simple_alone k a n x (inr (inr (inl w))) = simple_turned k a n x _ w.2 (assign_law k a n w.0 (view.assignment w.1))
simple_alone k a n x (inr (inr (inr (inl w)))) = simple_turned k a n x _ w.2 (call_law k a n w.0 (view.call w.1))
simple_alone k a n x (inr (inr (inr (inr w)))) = simple_turned k a n x _ w.2 (return_law k a n w.0 (option_map view.exp w.1))

-- with their place
abbrev pub IsAction : Span → Stmt → Type 0
IsAction p x =
    ((y : Call) × (x ≡ s.Spawn p y))
    ⊎ (((y : Expr) × (x ≡ s.Free p y))
    ⊎ (((y : Expr) × (x ≡ s.Assert p y))
    ⊎ (((y : Expr) × (x ≡ s.Wrap p y))
    ⊎ ((y : Expr) × (x ≡ s.Unwrap p y)))))

action_turned : (k : Numbering) (a : Around) (n : Counters) (p : Span) (x y : Stmt) → x ≡ y → action_row k a n p.line (view.stm y) ≡ typed_statement k a n (view.stm y) → action_row k a n p.line (view.stm x) ≡ typed_statement k a n (view.stm x)
action_turned k a n p x y e h = ap (λ (z : Stmt). action_row k a n p.line (view.stm z)) e ∙ (h ∙ form k a n x y e)

pub action_alone : (k : Numbering) (a : Around) (n : Counters) (p : Span) (x : Stmt) → IsAction p x → action_row k a n p.line (view.stm x) ≡ typed_statement k a n (view.stm x)
action_alone k a n p x (inl w) = action_turned k a n p x _ w.1 refl
action_alone k a n p x (inr (inl w)) = action_turned k a n p x _ w.1 refl
action_alone k a n p x (inr (inr (inl w))) = action_turned k a n p x _ w.1 refl
action_alone k a n p x (inr (inr (inr (inl w)))) = action_turned k a n p x _ w.1 refl
action_alone k a n p x (inr (inr (inr (inr w)))) = action_turned k a n p x _ w.1 refl

-- ---- loops

-- with these invariants and this body
abbrev pub IsLoop : Vec Invariant Global → Box Stmt Global → Stmt → Type 0
IsLoop all body x =
    ((p : Span) × (test : Expr) × (x ≡ s.While p test all body))
    ⊎ (((p : Span) × (q : Span) × (test : Expr) × (x ≡ s.Do p all body q test))
    ⊎ ((p : Span) × (u : Option Assignment) × (test : Expr) × (v : Option Assignment) × (x ≡ s.For p u test v all body)))

pub loop_step : (j : Numbering) {a k : Around} (n : Counters) (x : Stmt) (all : Vec Invariant Global) (body : Box Stmt Global) {told : Several} {inner : Typed} → a ≡ k → told ≡ said_invariants j k n.formulas (map view.invariant all.items)
    → inner ≡ typed_statement j k (from n told.next) (view.stm body.value) → IsLoop all body x → loop_row a n (view.stm x) told.specs inner ≡ typed_statement j k n (view.stm x)
loop_step j {a} {k} n x all body {told} {inner} e f h (inl w) =
    ap (λ (z : Stmt). loop_row a n (view.stm z) told.specs inner) w.2 ∙ (while_step j n w.0 (view.exp w.1) (map view.invariant all.items) (view.stm body.value) e f h ∙ form j k n x _ w.2)
loop_step j {a} {k} n x all body {told} {inner} e f h (inr (inl w)) =
    ap (λ (z : Stmt). loop_row a n (view.stm z) told.specs inner) w.3 ∙ (do_step j n w.0 (map view.invariant all.items) (view.stm body.value) w.1 (view.exp w.2) e f h ∙ form j k n x _ w.3)
loop_step j {a} {k} n x all body {told} {inner} e f h (inr (inr w)) =
    ap (λ (z : Stmt). loop_row a n (view.stm z) told.specs inner) w.4
    ∙ (for_step j n w.0 (option_map view.assignment w.1) (view.exp w.2) (option_map view.assignment w.3) (map view.invariant all.items) (view.stm body.value) e f h ∙ form j k n x _ w.4)

-- ---- how much stands in them

loop_counts : (x : Stmt) (all : Vec Invariant Global) (body : Box Stmt Global) → IsLoop all body x → plus (some_formulas (in_invariants (map view.invariant all.items))) (in_statement (view.stm body.value)) ≡ in_statement (view.stm x)
loop_counts x all body (inl w) = ap (λ (z : Stmt). in_statement (view.stm z)) (sym w.2)
loop_counts x all body (inr (inl w)) = ap (λ (z : Stmt). in_statement (view.stm z)) (sym w.3)
loop_counts x all body (inr (inr w)) = ap (λ (z : Stmt). in_statement (view.stm z)) (sym w.4)

pub behind_loop : (n : Counters) (x : Stmt) (all : Vec Invariant Global) (body : Box Stmt Global) (is : List Invariant) (y : Stmt) {m : Counters} → is ≡ all.items → y ≡ body.value → m ≡ plus n (some_formulas (in_invariants (map view.invariant is))) → IsLoop all body x
    → plus m (in_statement (view.stm y)) ≡ plus n (in_statement (view.stm x))
behind_loop n x all body is y e f h w =
    ap (λ (l : Counters). plus l (in_statement (view.stm y))) h
    ∙ (ap (λ (js : List Invariant). plus (plus n (some_formulas (in_invariants (map view.invariant js)))) (in_statement (view.stm y))) e
    ∙ (ap (λ (z : Stmt). plus (plus n (some_formulas (in_invariants (map view.invariant all.items)))) (in_statement (view.stm z))) f
    ∙ (plus_assoc n (some_formulas (in_invariants (map view.invariant all.items))) (in_statement (view.stm body.value)) ∙ ap (plus n) (loop_counts x all body w))))

-- in braces, and counting for no more than what they hold
abbrev pub IsBraced : Vec Stmt Global → Stmt → Type 0
IsBraced all x =
    ((p : Span) × (q : Span) × (x ≡ s.Block p all q))
    ⊎ ((p : Span) × (os : Vec Expr Global) × (q : Span) × (x ≡ s.Atomic p os all q))

pub braced_counts : (n : Counters) (x : Stmt) (all : Vec Stmt Global) (items : List Stmt) → items ≡ all.items → IsBraced all x → plus n (in_statements (stms_of (map view.stm items))) ≡ plus n (in_statement (view.stm x))
braced_counts n x all items f (inl w) = ap (λ z. plus n (in_statement z)) (sym (block_stm x w.0 all w.1 items w.2 f))
braced_counts n x all items f (inr w) = ap (λ z. plus n (in_statement z)) (sym (atomic_stm x w.0 w.1 all w.2 w.1.items items w.3 refl f))

-- counting for nothing
abbrev pub CountsNothing : Stmt → Type 0
CountsNothing x =
    ((p : Span) × (x ≡ s.Skip p))
    ⊎ (((p : Span) × (ty : ValueType) × (y : Identifier) × (r : Option Right) × (x ≡ s.Declare p ty y r))
    ⊎ (((p : Span) × (y : Assignment) × (x ≡ s.Assign p y))
    ⊎ (((p : Span) × (y : Call) × (x ≡ s.Call p y))
    ⊎ (((p : Span) × (y : Option Expr) × (x ≡ s.Return p y))
    ⊎ (((p : Span) × (y : Call) × (x ≡ s.Spawn p y))
    ⊎ (((p : Span) × (y : Expr) × (x ≡ s.Free p y))
    ⊎ ((p : Span) × (y : Expr) × (x ≡ s.Unwrap p y))))))))

pub statement_counts : (n : Counters) (x : Stmt) → CountsNothing x → n ≡ plus n (in_statement (view.stm x))
statement_counts n x (inl w) = statement_free n x _ w.1 refl
statement_counts n x (inr (inl w)) = statement_free n x _ w.4 refl
statement_counts n x (inr (inr (inl w))) = statement_free n x _ w.2 refl
statement_counts n x (inr (inr (inr (inl w)))) = statement_free n x _ w.2 refl
statement_counts n x (inr (inr (inr (inr (inl w))))) = statement_free n x _ w.2 refl
statement_counts n x (inr (inr (inr (inr (inr (inl w)))))) = statement_free n x _ w.2 refl
statement_counts n x (inr (inr (inr (inr (inr (inr (inl w))))))) = statement_free n x _ w.2 refl
statement_counts n x (inr (inr (inr (inr (inr (inr (inr w))))))) = statement_free n x _ w.2 refl
