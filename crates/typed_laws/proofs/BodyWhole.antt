-- The bodies of all functions of a source that breaks no rule are typed well.
use Rattle.std.specs.Prelude.{◌≡◌, ℕ, ◌==◌, zero, suc, Bool, true, false, ◌&&◌, List, [], ◌∷◌, ◌++◌, map, Contains, IsTrue}
use Rattle.std.proofs.Common.{refl, sym, ap, subst, arith, ◌∙◌}
use Rattle.std.proofs.lemmas.List.Elements.{Contains-append_right}
use Rattle.c_syntax.specs.declared.token.Span.{Span}
use Rattle.c_syntax.specs.Items as i
use Rattle.c_syntax.specs.Items.{Param, FunctionTree, Item}
use Rattle.typing_spec.specs.Contexts as texts
use Rattle.typing_spec.specs.Contexts.{Text, Context, Variable}
use Rattle.typing_spec.specs.Pieces.{in_function, with_params, nowhere}
use Rattle.typing_spec.specs.First.{IsWellTyped}
use Rattle.object_types.specs.Sets.{every}
use Rattle.typed_program.specs.Trees as t
use Rattle.typed_program.specs.Trees.{FunctionInfo, Program, Shape}
use Rattle.typed_program.specs.Shapes.{Sorts}
use Rattle.typed_program.specs.Variables.{parameter, all_declared}
use Rattle.typed_program.specs.Statements.{plus_formulas, rows}
use Rattle.typed_program.specs.Tables.{program, function, numbered_action, numbered_statement, numbered_row, sorts_of, shapes, around_function, contract_formulas}
use Rattle.tree_forms.specs.InForm.{in_form, in_item}
use Rattle.typed_laws.proofs.Basics.{and_left, and_right}
use Rattle.typed_laws.proofs.Tests.{is_test, is_struct, is_pointer, action_ok, stmt_ok, row_ok}
use Rattle.typed_laws.proofs.Facts.{FunctionOf, runs}
use Rattle.typed_laws.proofs.Goals.{CodeLaw, TablesLaw, FunctionsLaw, BodiesLaw}
use Rattle.typed_laws.proofs.Entry.{function_item, body_quiet, value_typed, parameters_typed, ghost_parameters_typed, entry_law}
use Rattle.typed_laws.proofs.Sides.{FunctionsTyped}
use Rattle.typed_laws.proofs.Bodies.{body_law}

-- the types that functions name are known where no rule is broken
pub functions_typed : (items : List Item) (end : Span) → IsWellTyped items end → FunctionsTyped items
functions_typed items end typed = record { values_typed = value_typed items end typed; parameters_typed = parameters_typed items end typed; ghosts_typed = ghost_parameters_typed items end typed }

-- ---- numbers of shapes

action_same : (p : Program) (f : FunctionInfo) (n : ℕ) (l : List Shape) (s : Sorts) (x : t.Action) → action_ok p f n (numbered_action l s x) ≡ action_ok p f n x
action_same p f n l s (t.AssertSpec x) = refl
action_same p f n l s _ = refl

mutual
  statement_same : (p : Program) (f : FunctionInfo) (n : ℕ) (l : List Shape) (s : Sorts) (x : t.Stmt) → stmt_ok p f n (numbered_statement l s x) ≡ stmt_ok p f n x
  statement_same p f n l s (t.Do line x) = action_same p f n l s x
  statement_same p f n l s (t.If line in_ghost x a b) = ap (λ z. is_test p f x && (z && row_ok p f n (numbered_row l s b))) (row_same p f n l s a) ∙ ap (λ z. is_test p f x && (row_ok p f n a && z)) (row_same p f n l s b)
  statement_same p f n l s (t.While line is x a) = ap (λ z. is_test p f x && z) (row_same p f n l s a)
  statement_same p f n l s (t.DoWhile line is a tested x) = ap (λ z. is_test p f x && z) (row_same p f n l s a)
  statement_same p f n l s (t.Unwrapping line ty q x a) = ap (λ z. is_struct p ty && (is_pointer p f (λ m. m == ty) x && z)) (row_same p f n l s a)
  statement_same p f n l s _ = refl

  -- the numbers of shapes change nothing
  row_same : (p : Program) (f : FunctionInfo) (n : ℕ) (l : List Shape) (s : Sorts) (x : t.Stmts) → row_ok p f n (numbered_row l s x) ≡ row_ok p f n x
  row_same p f n l s t.NoStmt = refl
  row_same p f n l s (t.AStmt x xs) = ap (λ z. z && row_ok p f n (numbered_row l s xs)) (statement_same p f n l s x) ∙ ap (λ z. stmt_ok p f n x && z) (row_same p f n l s xs)

-- ---- what stands around a body

params_text : (b : Bool) (ps : List Param) (c : Context) → (with_params b ps c).text ≡ c.text
params_text b [] c = refl
params_text b (x ∷ xs) c = params_text b xs (record c { scope = record c.scope { variables = parameter b x ∷ c.scope.variables } })

params_atomic : (b : Bool) (ps : List Param) (c : Context) → (with_params b ps c).in_atomic ≡ c.in_atomic
params_atomic b [] c = refl
params_atomic b (x ∷ xs) c = params_atomic b xs (record c { scope = record c.scope { variables = parameter b x ∷ c.scope.variables } })

item_in_form : (items : List Item) (x : Item) → IsTrue (in_form items) → Contains items x → IsTrue (in_item x)
item_in_form [] x h c = absurd (omega (arith, c.1))
item_in_form (y ∷ items) x h (zero, l, q) = subst (λ z. IsTrue (in_item z)) q (and_left (in_item y) (every in_item items) h)
item_in_form (y ∷ items) x h (suc j, l, q) = item_in_form items x (and_right (in_item y) (every in_item items) h) (j, omega arith, q)

-- the bodies of all functions fit, by the laws of code and of tables
pub bodies_law : CodeLaw → TablesLaw → FunctionsLaw → BodiesLaw
bodies_law law tables_law functions_law items end form typed k info at_k =
    let of : FunctionOf items k info = functions_law items end typed k info at_k in
    let h = of.tree in
    let a = around_function items h in
    let n = plus_formulas of.before (contract_formulas h.contract) in
    let p = program items in
    let whole = function items of.before h in
    let text : (in_function items h).text ≡ texts.Code = params_text true h.ghost_parameters (with_params false h.parameters (nowhere items)) ∙ params_text false h.parameters (nowhere items) in
    let outside : (in_function items h).in_atomic ≡ false = params_atomic true h.ghost_parameters (with_params false h.parameters (nowhere items)) ∙ params_atomic false h.parameters (nowhere items) in
    let runs_here = subst (λ z. IsTrue (runs z)) (sym text) refl in
    let fit : IsTrue (row_ok p info k (rows a n h.body.all)) =
    body_law law items p info (tables_law items end typed) (functions_typed items end typed) a (entry_law items end typed k info of) (value_typed items end typed h of.in_items) (ap (λ z. z.value) of.is) (in_function items h) refl refl runs_here outside k n h.body.all
    (item_in_form items (i.Function h) form (function_item items h of.in_items)) (body_quiet items end typed h of.in_items)
    (λ v c. of.numbered v (Contains-append_right (map (parameter false) h.parameters) (map (parameter true) h.ghost_parameters ++ all_declared h.body.all) v (Contains-append_right (map (parameter true) h.ghost_parameters) (all_declared h.body.all) v c)))
    of.sites in
    subst (λ z. IsTrue (row_ok p info k z)) (sym (ap (λ z. z.body) of.is)) (row_same p info k (shapes items) (sorts_of whole) (rows a n h.body.all) ∙ fit)
