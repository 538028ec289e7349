-- The body of a function with a value ends with a return, where no rule is broken.
use Rattle.std.specs.Prelude.{Bool, true, false, not, ◌&&◌, List, Option, Some, None, is_some, option_map, IsTrue}
use Rattle.std.proofs.Common.{◌≡◌, refl, sym, ap, subst, ◌∙◌}
use Rattle.c_syntax.specs.Expressions.{Ty}
use Rattle.c_syntax.specs.Items as i
use Rattle.c_syntax.specs.Items.{FunctionTree, Item}
use Rattle.c_syntax.specs.Statements as st
use Rattle.c_syntax.specs.Statements.{Stm, Stms}
use Rattle.typing_spec.specs.Functions as rules
use Rattle.typing_spec.specs.Rules as r
use Rattle.typing_spec.specs.Pieces.{Function}
use Rattle.typed_program.specs.Trees as t
use Rattle.typed_program.specs.Trees.{Stmts, Shape}
use Rattle.typed_program.specs.Shapes.{Sorts}
use Rattle.typed_program.specs.Numbers.{Around, declared_type}
use Rattle.typed_program.specs.Statements.{Counters, plus, in_statement, known_behind, append, row, rows, plus_formulas}
use Rattle.typed_program.specs.Tables.{numbered_statement, numbered_row, around_function, contract_formulas, sorts_of, function, shapes}
use Rattle.typed_laws.proofs.Basics.{never, contains_head}
use Rattle.typed_laws.proofs.Quiet.{quiet_item, not_placed}
use Rattle.typed_laws.proofs.Tests.{is_return, ends_with_return, returns_value}
use Rattle.typed_laws.proofs.Entry.{function_item}
use Rattle.typed_laws.proofs.FunctionTables.{functions_law}
use Rattle.typed_laws.proofs.Goals.{ReturnsLaw}

-- what ends with a return does so behind anything
following : (xs ys : Stmts) → IsTrue (ends_with_return ys) → IsTrue (ends_with_return (append xs ys))
following t.NoStmt ys h = h
following (t.AStmt x t.NoStmt) t.NoStmt h = never h
following (t.AStmt x t.NoStmt) (t.AStmt y ys) h = h
following (t.AStmt x (t.AStmt z xs)) ys h = following (t.AStmt z xs) ys h

row_ends : (a : Around) (n : Counters) (s : Stm) → IsTrue (rules.is_return s) → IsTrue (ends_with_return (append (row a n s) t.NoStmt))
row_ends a n (st.Return p x) h = refl
row_ends a n _ h = never h

rows_end : (a : Around) (n : Counters) (ss : Stms) → IsTrue (rules.ends_with_return ss) → IsTrue (ends_with_return (rows a n ss))
rows_end a n st.Empty h = never h
rows_end a n (st.More s st.Empty) h = row_ends a n s h
rows_end a n (st.More s (st.More u ss)) h = following (row a n s) (rows (known_behind a s) (plus n (in_statement s)) (st.More u ss)) (rows_end (known_behind a s) (plus n (in_statement s)) (st.More u ss) h)

-- numbers of shapes change nothing
one_numbered : (l : List Shape) (s : Sorts) (x : t.Stmt) → is_return (numbered_statement l s x) ≡ is_return x
one_numbered l s (t.Return line x) = refl
one_numbered l s _ = refl

row_numbered : (l : List Shape) (s : Sorts) (xs : Stmts) → ends_with_return (numbered_row l s xs) ≡ ends_with_return xs
row_numbered l s t.NoStmt = refl
row_numbered l s (t.AStmt x t.NoStmt) = one_numbered l s x
row_numbered l s (t.AStmt x (t.AStmt y xs)) = row_numbered l s (t.AStmt y xs)

value_returned : (items : List Item) (o : Option Ty) (ss : Stms) (xs : Stmts) → not (is_some o && not (rules.ends_with_return ss)) ≡ true → (IsTrue (rules.ends_with_return ss) → IsTrue (ends_with_return xs)) → IsTrue (returns_value (option_map (declared_type items) o) xs)
value_returned items None ss xs h k = refl
value_returned items (Some ty) ss xs h k = k (twice (rules.ends_with_return ss) h)
  where
    twice : (b : Bool) → not (not b) ≡ true → IsTrue b
    twice true g = refl
    twice false g = g

pub returns_law : ReturnsLaw
returns_law items end typed k info at_k =
    let of = functions_law items end typed k info at_k in
    let h = of.tree in
    let a = around_function items h in
    let n = plus_formulas of.before (contract_formulas h.contract) in
    let rule = not_placed (is_some h.value && not (rules.ends_with_return h.body.all)) h.body.end (quiet_item items end typed (i.Function h) (function_item items h of.in_items) (Function items h) (contains_head (Function items h) _) r.ReturnForm) in
    subst (λ z. IsTrue (returns_value z.value z.body)) (sym of.is)
    (value_returned items h.value h.body.all (numbered_row (shapes items) (sorts_of (function items of.before h)) (rows a n h.body.all)) (ap not rule) (λ e. row_numbered (shapes items) (sorts_of (function items of.before h)) (rows a n h.body.all) ∙ rows_end a n h.body.all e))
