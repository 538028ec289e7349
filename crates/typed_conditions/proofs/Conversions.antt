-- No statement of a source converts a value that nobody receives: a call by itself has no conversion.
use Rattle.std.proofs.Common.{◌≡◌, ℕ, Bool, true, false, ◌&&◌, List, [], ◌∷◌, Option, Some, None, option_map, slice_get, refl, sym, ap, subst, ◌∙◌}
use Rattle.std.proofs.lemmas.Bool.{and_parts, and_from}
use Rattle.object_types.specs.Sets.{every}
use Rattle.int_ranges.specs.declared.ctype.CType.{CType}
use Rattle.c_syntax.specs.declared.token.Span.{Span}
use Rattle.c_syntax.specs.Expressions as e
use Rattle.c_syntax.specs.Expressions.{Ty, Exp, Rhs, Effect, Assignment}
use Rattle.c_syntax.specs.Grammar.{first_place}
use Rattle.c_syntax.specs.Ghosts as g
use Rattle.c_syntax.specs.Ghosts.{GStm, GStms}
use Rattle.c_syntax.specs.Statements as st
use Rattle.c_syntax.specs.Statements.{Stm, Stms}
use Rattle.c_syntax.specs.Items.{Item}
use Rattle.typing_spec.specs.First.{IsWellTyped}
use Rattle.method.specs.declared.program.Receiver as receivers
use Rattle.method.specs.declared.program.Receiver.TheVariants as to_
use Rattle.method.specs.declared.program.Stmt.{Stmt, Row_of-Stmt, end_of-Stmt, more_of-Stmt}
use Rattle.method.specs.declared.program.Stmt.TheVariants.{Do, If', While', DoWhile', Unwrapping', Call, Return}
use Rattle.method.specs.declared.program.FunctionInfo as infos
use Rattle.typed_program.specs.Trees as t
use Rattle.typed_program.specs.Trees.{Stmts, Shape}
use Rattle.typed_program.specs.Shapes.{Sorts}
use Rattle.typed_program.specs.Numbers.{Around}
use Rattle.typed_program.specs.Views as seen
use Rattle.typed_program.specs.Statements as s
use Rattle.typed_program.specs.Statements.{Counters, plus, plus_formulas, in_invariants, append, one, assigned_by, maybe_assigned, defined, ghost_row, ghost_rows, row, rows, known_behind, known_behind_ghost}
use Rattle.typed_program.specs.Tables as tables
use Rattle.typed_program.specs.Tables.{around_function, contract_formulas, numbered_statement, numbered_row, sorts_of, function, shapes}
use Rattle.typed_laws.proofs.Bridge.{function_at_seen}
use Rattle.typed_laws.proofs.FunctionTables.{functions_law}
use Rattle.condition_walks.specs.Conversions.{is_conversion_received, stmt_conversions_received, row_conversions_received}
use Rattle.typed_conditions.specs.Laws.{ConversionsLaw}

-- ---- the test over trees

abbrev receives : t.Receiver → Option CType → Bool
receives t.Nobody None = true
receives t.Nobody (Some c) = false
receives (t.NewVariable i) c = true
receives (t.Place x) c = true

abbrev mutual
  plain : t.Stmt → Bool
  plain (t.Do line x) = true
  plain (t.If line in_ghost x a b) = all_plain a && all_plain b
  plain (t.While line is x a) = all_plain a
  plain (t.DoWhile line is a tested x) = all_plain a
  plain (t.Unwrapping line ty q x a) = all_plain a
  plain (t.Call line to c f xs) = receives to c
  plain (t.Return line x) = true

  all_plain : Stmts → Bool
  all_plain t.NoStmt = true
  all_plain (t.AStmt x xs) = plain x && all_plain xs

alone : (x : t.Stmt) → plain x ≡ true → all_plain (one x) ≡ true
alone x h = and_from _ _ h refl

appended : (xs ys : Stmts) → all_plain xs ≡ true → all_plain ys ≡ true → all_plain (append xs ys) ≡ true
appended t.NoStmt ys h k = k
appended (t.AStmt x xs) ys h k = let z = and_parts (plain x) (all_plain xs) h in and_from _ _ z.0 (appended xs ys z.1 k)

-- ---- rows

assigned_plain : (a : Around) (line : ℕ) (x : Exp) (y : Effect) → plain (assigned_by a line x y) ≡ true
assigned_plain a line x (e.Set (e.Called y)) = refl
assigned_plain a line x (e.Set (e.Value y)) = refl
assigned_plain a line x (e.Set (e.Malloc y p z)) = refl
assigned_plain a line x (e.Set (e.Locked y z)) = refl
assigned_plain a line x (e.Add y) = refl
assigned_plain a line x (e.Subtract y) = refl
assigned_plain a line x e.Increment = refl
assigned_plain a line x e.Decrement = refl

maybe_plain : (a : Around) (o : Option Assignment) → all_plain (maybe_assigned a o) ≡ true
maybe_plain a None = refl
maybe_plain a (Some x) = alone (assigned_by a (first_place x.left).line x.left x.effect) (assigned_plain a (first_place x.left).line x.left x.effect)

defined_plain : (a : Around) (line : ℕ) (ty : Ty) (x : e.Id) (y : Rhs) → plain (defined a line ty x y) ≡ true
defined_plain a line ty x (e.Called y) = refl
defined_plain a line ty x (e.Value y) = refl
defined_plain a line ty x (e.Malloc y p z) = refl
defined_plain a line ty x (e.Locked y z) = refl

mutual
  ghost_plain : (a : Around) (n : Counters) (x : GStm) → all_plain (ghost_row a n x) ≡ true
  ghost_plain a n (g.Block p ss) = ghosts_plain a n ss
  ghost_plain a n (g.Declare p ty x None) = refl
  ghost_plain a n (g.Declare p ty x (Some y)) = refl
  ghost_plain a n (g.Assign p x q y) = refl
  ghost_plain a n (g.Owns p x q y) = refl
  ghost_plain a n (g.DestroyClaim p x xs) = refl
  ghost_plain a n (g.Wrap p x) = refl
  ghost_plain a n (g.Unwrap p x) = refl
  ghost_plain a n (g.If p x y) = and_from _ _ (and_from _ _ (ghost_plain a n y) refl) refl
  ghost_plain a n (g.IfElse p x y z) = and_from _ _ (and_from _ _ (ghost_plain a n y) (ghost_plain a (plus n (s.in_ghost y)) z)) refl

  ghosts_plain : (a : Around) (n : Counters) (xs : GStms) → all_plain (ghost_rows a n xs) ≡ true
  ghosts_plain a n g.Empty = refl
  ghosts_plain a n (g.More x xs) =
      let b = known_behind_ghost a x in
      let m = plus n (s.in_ghost x) in
      appended (ghost_row a n x) (ghost_rows b m xs) (ghost_plain a n x) (ghosts_plain b m xs)

mutual
  statement_plain : (a : Around) (n : Counters) (x : Stm) → all_plain (row a n x) ≡ true
  statement_plain a n (st.Block p ss pe) = statements_plain a n ss
  statement_plain a n (st.Declare p ty x None) = refl
  statement_plain a n (st.Declare p ty x (Some y)) = alone (defined a p.line ty x y) (defined_plain a p.line ty x y)
  statement_plain a n (st.Assign p x) = alone (assigned_by a p.line x.left x.effect) (assigned_plain a p.line x.left x.effect)
  statement_plain a n (st.If p x y) = and_from _ _ (and_from _ _ (statement_plain a n y) refl) refl
  statement_plain a n (st.IfElse p x y z) = and_from _ _ (and_from _ _ (statement_plain a n y) (statement_plain a (plus n (s.in_statement y)) z)) refl
  statement_plain a n (st.While p x is y) = and_from _ _ (statement_plain a (plus_formulas n (in_invariants is)) y) refl
  statement_plain a n (st.Do p is y pe x) = and_from _ _ (statement_plain a (plus_formulas n (in_invariants is)) y) refl
  statement_plain a n (st.For p l x m is y) =
      let b = plus_formulas n (in_invariants is) in
      appended (maybe_assigned a l) _ (maybe_plain a l) (and_from _ _ (appended (row a b y) (maybe_assigned a m) (statement_plain a b y) (maybe_plain a m)) refl)
  statement_plain a n (st.Ghost p x) = ghost_plain a n x
  statement_plain a n (st.Unwrapping p x ss pe) = and_from _ _ (statements_plain a (plus_formulas n 1) ss) refl
  statement_plain a n _ = refl

  statements_plain : (a : Around) (n : Counters) (xs : Stms) → all_plain (rows a n xs) ≡ true
  statements_plain a n st.Empty = refl
  statements_plain a n (st.More x xs) =
      let b = known_behind a x in
      let m = plus n (s.in_statement x) in
      appended (row a n x) (rows b m xs) (statement_plain a n x) (statements_plain b m xs)

-- ---- numbers of shapes

mutual
  statement_numbered : (l : List Shape) (z : Sorts) (x : t.Stmt) → plain (numbered_statement l z x) ≡ plain x
  statement_numbered l z (t.If line in_ghost x a b) = λ i. row_numbered l z a i && row_numbered l z b i
  statement_numbered l z (t.While line is x a) = row_numbered l z a
  statement_numbered l z (t.DoWhile line is a tested x) = row_numbered l z a
  statement_numbered l z (t.Unwrapping line ty q x a) = row_numbered l z a
  statement_numbered l z _ = refl

  row_numbered : (l : List Shape) (z : Sorts) (x : Stmts) → all_plain (numbered_row l z x) ≡ all_plain x
  row_numbered l z t.NoStmt = refl
  row_numbered l z (t.AStmt x xs) = λ i. statement_numbered l z x i && row_numbered l z xs i

-- ---- from the program's statements to trees

receiver_seen : (to : receivers.Receiver) (c : Option CType) → is_conversion_received to c ≡ receives (seen.receiver to) c
receiver_seen to_.Nobody None = refl
receiver_seen to_.Nobody (Some c) = refl
receiver_seen (to_.NewVariable i) c = refl
receiver_seen (to_.Place x) c = refl

mutual
  stmt_seen : (x : Stmt) → stmt_conversions_received x ≡ plain (seen.stmt x)
  stmt_seen (Do line x) = refl
  stmt_seen (If' line in_ghost x m a n b) = λ i. row_seen a i && row_seen b i
  stmt_seen (While' line is x m a) = row_seen a
  stmt_seen (DoWhile' line is m a tested x) = row_seen a
  stmt_seen (Unwrapping' line ty q x m a) = row_seen a
  stmt_seen (Call line to c f xs) = receiver_seen to c
  stmt_seen (Return line x) = refl

  row_seen : {m : _} → (xs : Row_of-Stmt m) → row_conversions_received xs ≡ all_plain (seen.stmt_row xs)
  row_seen end_of-Stmt = refl
  row_seen (more_of-Stmt x xs) = λ i. stmt_seen x i && row_seen xs i

body_seen : (xs : List Stmt) → every stmt_conversions_received xs ≡ all_plain (seen.stmts xs)
body_seen [] = refl
body_seen (x ∷ xs) = λ i. stmt_seen x i && body_seen xs i

-- ---- the law

body_plain : (items : List Item) (end : Span) → IsWellTyped items end → (k : ℕ) (f : t.FunctionInfo) → slice_get (tables.program items).functions k ≡ Some f → all_plain f.body ≡ true
body_plain items end typed k f at =
    let of = functions_law items end typed k f at in
    let h = of.tree in
    let a = around_function items h in
    let n = plus_formulas of.before (contract_formulas h.contract) in
    subst (λ (w : t.FunctionInfo). all_plain w.body ≡ true) (sym of.is)
    (row_numbered (shapes items) (sorts_of (function items of.before h)) (rows a n h.body.all) ∙ statements_plain a n h.body.all)

pub conversions_law : ConversionsLaw
conversions_law items end typed p same = record { bodies = bodies }
  where
    bodies : (k : ℕ) (f : infos.FunctionInfo) → slice_get p.functions.items k ≡ Some f → every stmt_conversions_received f.body.items ≡ true
    bodies k f is =
        body_seen f.body.items
        ∙ body_plain items end typed k (seen.function f) (subst (λ (q : t.Program). slice_get q.functions k ≡ Some (seen.function f)) same (function_at_seen p k ∙ ap (option_map seen.function) is))
