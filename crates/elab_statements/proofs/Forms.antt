-- Statements out of their parts, and what numbering of shapes leaves as it is.
use Rattle.std.proofs.Common.{true, false, ◌≡◌, ℕ, List, [], ◌∷◌, ◌++◌, refl, sym, ap, ap₂, ◌∙◌, map, Option, Some, None}
use Rattle.c_syntax.specs.declared.token.Span.{Span}
use Rattle.c_syntax.specs.Expressions as e
use Rattle.c_syntax.specs.Expressions.{Id, Ty, Exp, Rhs, Effect, Assignment, CallTree}
use Rattle.c_syntax.specs.Ghosts as g
use Rattle.c_syntax.specs.Ghosts.{GStm, GStms}
use Rattle.c_syntax.specs.Statements as st
use Rattle.c_syntax.specs.Statements.{Inv, Stm, Stms}
use Rattle.c_syntax.specs.Grammar.{first_place, stms_of}
use Rattle.typing_spec.specs.Contexts.{Variable}
use Rattle.typing_statements.specs.Views.{following, behind_all}
use Rattle.typed_program.specs.Annotations.{formulas}
use Rattle.typed_program.specs.Codes.{code}
use Rattle.typed_program.specs.Numbers.{Around, struct_at}
use Rattle.typed_program.specs.Shapes.{Sorts, numbered}
use Rattle.typed_program.specs.Statements as s
use Rattle.typed_program.specs.Statements.{Counters, plus, plus_formulas, some_formulas, in_ghost, in_invariants, in_statement, in_statements, ghost_row, ghost_rows, known_behind_ghost, known_behind}
use Rattle.typed_program.specs.Tables.{numbered_statement, numbered_row}
use Rattle.typed_program.specs.Trees as t
use Rattle.elab_statements.specs.Settings.{Setting, at}
use Rattle.elab_statements.specs.Rows.{nothing, single, appended, branched, typed_ghost, typed_inners}
use Rattle.elab_clauses.specs.Numberings.{Numbering, said_invariants}
use Rattle.elab_statements.specs.Shaped.{typed_statement, typed_statements, declared_statement, while_row, do_row, for_row, unwrapping_row}
use Rattle.elab_statements.proofs.Sums.{plus_none, plus_assoc, plus_some, behind_statements_more}
use Rattle.elab_statements.proofs.Scopes.{step}
use Rattle.elab_statements.proofs.Sequences.{rows, append_none, append_twice}

-- ---- what holds no annotations stays as it is

pub numbered_append : (l : List t.Shape) (k : Sorts) (xs ys : t.Stmts) → numbered_row l k (s.append xs ys) ≡ s.append (numbered_row l k xs) (numbered_row l k ys)
numbered_append l k t.NoStmt ys = refl
numbered_append l k (t.AStmt x xs) ys = ap (t.AStmt (numbered_statement l k x)) (numbered_append l k xs ys)

assigned_same : (l : List t.Shape) (k : Sorts) (a : Around) (line : ℕ) (x : Exp) (f : Effect) → numbered_statement l k (s.assigned_by a line x f) ≡ s.assigned_by a line x f
assigned_same l k a line x (e.Set (e.Called y)) = refl
assigned_same l k a line x (e.Set (e.Value y)) = refl
assigned_same l k a line x (e.Set (e.Malloc c p y)) = refl
assigned_same l k a line x (e.Set (e.Locked y z)) = refl
assigned_same l k a line x (e.Add y) = refl
assigned_same l k a line x (e.Subtract y) = refl
assigned_same l k a line x e.Increment = refl
assigned_same l k a line x e.Decrement = refl

maybe_same : (l : List t.Shape) (k : Sorts) (a : Around) (x : Option Assignment) → numbered_row l k (s.maybe_assigned a x) ≡ s.maybe_assigned a x
maybe_same l k a None = refl
maybe_same l k a (Some x) = ap s.one (assigned_same l k a (first_place x.left).line x.left x.effect)

defined_same : (l : List t.Shape) (k : Sorts) (a : Around) (line : ℕ) (ty : Ty) (x : Id) (r : Rhs) → numbered_statement l k (s.defined a line ty x r) ≡ s.defined a line ty x r
defined_same l k a line ty x (e.Called y) = refl
defined_same l k a line ty x (e.Value y) = refl
defined_same l k a line ty x (e.Malloc c p y) = refl
defined_same l k a line ty x (e.Locked y z) = refl

mutual
  pub ghost_same : (l : List t.Shape) (k : Sorts) (a : Around) (n : Counters) (x : GStm) → numbered_row l k (ghost_row a n x) ≡ ghost_row a n x
  ghost_same l k a n (g.Block p ss) = ghosts_same l k a n ss
  ghost_same l k a n (g.Declare p ty x None) = refl
  ghost_same l k a n (g.Declare p ty x (Some r)) = refl
  ghost_same l k a n (g.Assign p x q r) = refl
  ghost_same l k a n (g.Owns p x q y) = refl
  ghost_same l k a n (g.DestroyClaim p x xs) = refl
  ghost_same l k a n (g.Wrap p x) = refl
  ghost_same l k a n (g.Unwrap p x) = refl
  ghost_same l k a n (g.If p x y) = ap (λ (w : t.Stmts). s.one (t.If p.line true (code a x) w t.NoStmt)) (ghost_same l k a n y)
  ghost_same l k a n (g.IfElse p x y z) = ap₂ (λ (v w : t.Stmts). s.one (t.If p.line true (code a x) v w)) (ghost_same l k a n y) (ghost_same l k a (plus n (in_ghost y)) z)

  ghosts_same : (l : List t.Shape) (k : Sorts) (a : Around) (n : Counters) (xs : GStms) → numbered_row l k (ghost_rows a n xs) ≡ ghost_rows a n xs
  ghosts_same l k a n g.Empty = refl
  ghosts_same l k a n (g.More x xs) = numbered_append l k (ghost_row a n x) (ghost_rows (known_behind_ghost a x) (plus n (in_ghost x)) xs) ∙ ap₂ s.append (ghost_same l k a n x) (ghosts_same l k (known_behind_ghost a x) (plus n (in_ghost x)) xs)

-- ---- statements that hold no others

pub skip_law : (k : Numbering) (a : Around) (n : Counters) (p : Span) → nothing n ≡ typed_statement k a n (st.Skip p)
skip_law k a n p = rows refl (plus_none n)

declared_same : (l : List t.Shape) (k : Sorts) (a : Around) (n : Counters) (p : Span) (ty : Ty) (x : Id) (r : Option Rhs) → s.one (declared_statement a p.line ty x r) ≡ numbered_row l k (s.row a n (st.Declare p ty x r))
declared_same l k a n p ty x None = refl
declared_same l k a n p ty x (Some r) = ap s.one (sym (defined_same l k a p.line ty x r))

pub declare_law : (k : Numbering) (a : Around) (n : Counters) (p : Span) (ty : Ty) (x : Id) (r : Option Rhs) → single n (declared_statement a p.line ty x r) ≡ typed_statement k a n (st.Declare p ty x r)
declare_law k a n p ty x r = rows (declared_same k.shapes k.sorts a n p ty x r) (plus_none n)

pub assign_law : (k : Numbering) (a : Around) (n : Counters) (p : Span) (x : Assignment) → single n (s.assigned a p.line x) ≡ typed_statement k a n (st.Assign p x)
assign_law k a n p x = rows (ap s.one (sym (assigned_same k.shapes k.sorts a p.line x.left x.effect))) (plus_none n)

pub call_law : (k : Numbering) (a : Around) (n : Counters) (p : Span) (x : CallTree) → single n (s.call_of a p.line t.Nobody None x) ≡ typed_statement k a n (st.Call p x)
call_law k a n p x = rows refl (plus_none n)

pub return_law : (k : Numbering) (a : Around) (n : Counters) (p : Span) (x : Option Exp) → single n (t.Return p.line (s.returned a x)) ≡ typed_statement k a n (st.Return p x)
return_law k a n p x = rows refl (plus_none n)

pub ghost_law : (k : Numbering) (a : Around) (n : Counters) (p : Span) (x : GStm) → typed_ghost a n x ≡ typed_statement k a n (st.Ghost p x)
ghost_law k a n p x = rows (sym (ghost_same k.shapes k.sorts a n x)) refl

-- ---- statements that hold others

-- a sum behind some formulas
front_sum : (n m : Counters) (i : ℕ) → plus (plus_formulas n i) m ≡ plus n (plus (some_formulas i) m)
front_sum n m i = ap (λ (w : Counters). plus w m) (plus_some n i) ∙ plus_assoc n (some_formulas i) m

pub if_law : (k : Numbering) (a : Around) (n : Counters) (p : Span) (x : Exp) (y : Stm) → branched p.line false (code a x) (typed_statement k a n y) (nothing (plus n (in_statement y))) ≡ typed_statement k a n (st.If p x y)
if_law k a n p x y = refl

pub if_else_law : (k : Numbering) (a : Around) (n : Counters) (p : Span) (x : Exp) (y z : Stm)
    → branched p.line false (code a x) (typed_statement k a n y) (typed_statement k a (plus n (in_statement y)) z) ≡ typed_statement k a n (st.IfElse p x y z)
if_else_law k a n p x y z = rows refl (plus_assoc n (in_statement y) (in_statement z))

pub while_law : (k : Numbering) (a : Around) (n : Counters) (p : Span) (x : Exp) (is : List Inv) (y : Stm)
    → while_row p.line (said_invariants k a n.formulas is).specs (code a x) (typed_statement k a (plus_formulas n (in_invariants is)) y) ≡ typed_statement k a n (st.While p x is y)
while_law k a n p x is y = rows refl (front_sum n (in_statement y) (in_invariants is))

pub do_law : (k : Numbering) (a : Around) (n : Counters) (p : Span) (is : List Inv) (y : Stm) (q : Span) (x : Exp)
    → do_row p.line (said_invariants k a n.formulas is).specs (typed_statement k a (plus_formulas n (in_invariants is)) y) q.line (code a x) ≡ typed_statement k a n (st.Do p is y q x)
do_law k a n p is y q x = rows refl (front_sum n (in_statement y) (in_invariants is))

pub for_law : (k : Numbering) (a : Around) (n : Counters) (p : Span) (u : Option Assignment) (x : Exp) (v : Option Assignment) (is : List Inv) (y : Stm)
    → for_row p.line (record { statements = s.maybe_assigned a u; next = n }) (said_invariants k a n.formulas is).specs (code a x) (typed_statement k a (plus_formulas n (in_invariants is)) y) (s.maybe_assigned a v) ≡ typed_statement k a n (st.For p u x v is y)
for_law k a n p u x v is y =
    let m = plus_formulas n (in_invariants is) in
    let told = map (numbered k.shapes k.sorts) (s.invariants a n.formulas is) in
    let body = numbered_append k.shapes k.sorts (s.row a m y) (s.maybe_assigned a v) ∙ ap (s.append (numbered_row k.shapes k.sorts (s.row a m y))) (maybe_same k.shapes k.sorts a v) in
    let whole = numbered_append k.shapes k.sorts (s.maybe_assigned a u) (s.one (t.While p.line (s.invariants a n.formulas is) (code a x) (s.append (s.row a m y) (s.maybe_assigned a v))))
    ∙ ap₂ s.append (maybe_same k.shapes k.sorts a u) (ap (λ (w : t.Stmts). s.one (t.While p.line told (code a x) w)) body) in
    rows (sym whole) (front_sum n (in_statement y) (in_invariants is))

pub block_law : (k : Numbering) (a : Around) (n : Counters) (p : Span) (ss : Stms) (q : Span) → typed_statements k a n ss ≡ typed_statement k a n (st.Block p ss q)
block_law k a n p ss q = refl

pub unwrapping_law : (k : Numbering) (a : Around) (n : Counters) (p : Span) (x : Exp) (ss : Stms) (q : Span)
    → unwrapping_row p.line (struct_at a x) n.formulas (code a x) (typed_statements k a (plus_formulas n 1) ss) ≡ typed_statement k a n (st.Unwrapping p x ss q)
unwrapping_law k a n p x ss q = rows refl (front_sum n (in_statements ss) 1)

pub atomic_law : (k : Numbering) (a : Around) (n : Counters) (p : Span) (xs : List Exp) (ss : Stms) (q : Span)
    → single (typed_inners a n ss).next (t.Do p.line (t.Atomic (map (s.listed a) xs) (typed_inners a n ss).statements)) ≡ typed_statement k a n (st.Atomic p xs ss q)
atomic_law k a n p xs ss q = refl

-- ---- statements, and one more

rows_more : (k : Setting) (vs : List Variable) (n : Counters) (ss : List Stm) (y : Stm)
    → s.rows (at k vs) n (stms_of (ss ++ y ∷ [])) ≡ s.append (s.rows (at k vs) n (stms_of ss)) (s.row (at k (behind_all ss vs)) (plus n (in_statements (stms_of ss))) y)
rows_more k vs n [] y = append_none (s.row (at k vs) n y) ∙ ap (λ (m : Counters). s.row (at k vs) m y) (plus_none n)
rows_more k vs n (x ∷ ss) y =
    let first = s.row (at k vs) n x in
    let m = plus n (in_statement x) in
    ap (λ (a : Around). s.append first (s.rows a m (stms_of (ss ++ y ∷ [])))) (step k x vs)
    ∙ (ap (s.append first) (rows_more k (following x vs) m ss y)
    ∙ (sym (append_twice first (s.rows (at k (following x vs)) m (stms_of ss)) (s.row (at k (behind_all ss (following x vs))) (plus m (in_statements (stms_of ss))) y))
    ∙ (ap (λ (a : Around). s.append (s.append first (s.rows a m (stms_of ss))) (s.row (at k (behind_all ss (following x vs))) (plus m (in_statements (stms_of ss))) y)) (sym (step k x vs))
    ∙ ap (λ (l : Counters). s.append (s.append first (s.rows (known_behind (at k vs) x) m (stms_of ss))) (s.row (at k (behind_all ss (following x vs))) l y)) (plus_assoc n (in_statement x) (in_statements (stms_of ss))))))

pub statements_law : (j : Numbering) (k : Setting) (vs : List Variable) (n : Counters) (ss : List Stm) (y : Stm)
    → appended (typed_statements j (at k vs) n (stms_of ss)) (typed_statement j (at k (behind_all ss vs)) (plus n (in_statements (stms_of ss))) y) ≡ typed_statements j (at k vs) n (stms_of (ss ++ y ∷ []))
statements_law j k vs n ss y =
    rows (sym (ap (numbered_row j.shapes j.sorts) (rows_more k vs n ss y) ∙ numbered_append j.shapes j.sorts (s.rows (at k vs) n (stms_of ss)) (s.row (at k (behind_all ss vs)) (plus n (in_statements (stms_of ss))) y))) (behind_statements_more n ss y)

pub no_statements : (j : Numbering) (k : Setting) (vs : List Variable) (n : Counters) → nothing n ≡ typed_statements j (at k vs) n (stms_of [])
no_statements j k vs n = rows refl (plus_none n)
