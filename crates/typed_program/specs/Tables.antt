-- The tables of a program: what the typing of its items leaves. Own: structs, functions and claim sites stand in the order of the text, quantified formulas and shapes are numbered in it; `_(maintains E)` is a clause of both kinds, and `\span(o)` and `\extent(o)` in a writes list require that o is mutable.
use Rattle.std.specs.Prelude.{ℕ, suc, ◌+◌, Bool, not, ◌&&◌, if◌then◌else◌, List, [], ◌∷◌, ◌++◌, length, map, flat_map, Option, Some, None, bytes_eq, codes, option_map}
use Rattle.c_syntax.specs.declared.token.Span.{Span}
use Rattle.c_syntax.specs.declared.tree.Condition.{Condition}
use Rattle.c_syntax.specs.declared.tree.Condition.TheVariants as conditions
use Rattle.c_syntax.specs.Expressions as e
use Rattle.c_syntax.specs.Expressions.{Ty, Exp}
use Rattle.c_syntax.specs.Statements.{Inv}
use Rattle.c_syntax.specs.Items as i
use Rattle.c_syntax.specs.Items.{Written, Clause, FunctionTree, FieldTree, Member, StructTree, Item}
use Rattle.typing_spec.specs.Declarations.{structs, functions, fields, is_claimable, has_dynamic_owns, has_volatile_owns, is_approval, is_approved, has_approval}
use Rattle.typing_spec.specs.Contexts.{Context, Variable, Writes, with_text}
use Rattle.typing_spec.specs.Pieces.{in_function, in_struct, in_condition}
use Rattle.method.specs.declared.program.Sort.{Sort}
use Rattle.method.specs.declared.program.Sort.TheVariants.{IntSort, RefSort}
use Rattle.method.specs.declared.program.Item.TheVariants as tables
use Rattle.method.specs.declared.program.Item as m
use Rattle.method.specs.declared.program.DeclaredType.{DeclaredType}
use Rattle.typed_program.specs.Trees as t
use Rattle.typed_program.specs.Trees.{Spec, Specs, Action, Stmt, Stmts, NoStmt, AStmt, FieldInfo, StructInfo, VariableInfo, FunctionInfo, ClaimSite, Shape, Program}
use Rattle.typed_program.specs.Numbers.{Around, in_context, place_of, struct_number, fields_before, declared_type}
use Rattle.typed_program.specs.Variables.{variables}
use Rattle.typed_program.specs.Annotations.{formulas, spec, mine}
use Rattle.typed_program.specs.Shapes.{Sorts, sort_of_type, shapes_in, property_shapes, first_ones, conjunct, numbered, table_shape}
use Rattle.typed_program.specs.Statements.{Counters, none, plus, some_formulas, plus_formulas, in_statements, rows}
use Rattle.typed_program.specs.Sites.{Site, Occurrence, Says, Makes, all_occurrences}

-- ---- structs

abbrev pub around_struct : List Item → StructTree → Around
around_struct items s = record { context = in_struct items s; names = []; bound = 0 }

-- the invariants that say something of the object: those that aren't of approval
abbrev pub invariants_of : List Member → List Inv
invariants_of [] = []
invariants_of (i.Field f ∷ more) = invariants_of more
invariants_of (i.Invariant x ∷ more) = if is_approval x.property then invariants_of more else x ∷ invariants_of more

-- what a function makes of each invariant, whose quantified formulas are numbered on
abbrev pub each_invariant : (ℕ → Exp → List Spec) → ℕ → List Inv → List Spec
each_invariant f n [] = []
each_invariant f n (x ∷ xs) = f n x.property ++ each_invariant f (n + formulas x.property) xs

abbrev pub field : List Item → StructTree → FieldTree → FieldInfo
field items s f = record { name = f.name.name; of = struct_number items s.name; ty = declared_type items f.ty; is_volatile = f.is_volatile; is_ghost = f.is_ghost; is_approved = is_approved s f.name }

-- what a wrap makes the owned set of such an object, for a type whose set is fixed
abbrev pub fixed_set : List Item → StructTree → ℕ → List Spec
fixed_set items s n = if not (has_dynamic_owns s) && not (has_volatile_owns s) then each_invariant (mine (around_struct items s)) n (invariants_of s.members) else []

abbrev pub struct : List Item → ℕ → StructTree → StructInfo
struct items n s = record {
  name = s.name.name;
  line = s.place.line;
  is_claimable = is_claimable s;
  has_dynamic_owns = has_dynamic_owns s;
  has_volatile_owns = has_volatile_owns s;
  first_field = fields_before items s.name;
  fields = length (fields s.members);
  invariants = each_invariant (λ k x. spec (around_struct items s) k x ∷ []) n (invariants_of s.members);
  has_approval = has_approval s;
  mine = fixed_set items s n;
}

abbrev pub struct_formulas : List Inv → ℕ
struct_formulas [] = 0
struct_formulas (x ∷ xs) = formulas x.property + struct_formulas xs

-- ---- functions

abbrev pub around_function : List Item → FunctionTree → Around
around_function items h = record { context = in_function items h; names = map (λ v. v.name.name) (variables h); bound = 0 }

abbrev pub item_of : Written → Exp
item_of (i.Thing x) = x
item_of (i.SpanOf p x) = x
item_of (i.ExtentOf p x) = x

abbrev pub list_formulas : List Written → ℕ
list_formulas [] = 0
list_formulas (x ∷ xs) = formulas (item_of x) + list_formulas xs

abbrev pub clause_formulas : Clause → ℕ
clause_formulas (i.Holds p h x) = formulas x
clause_formulas (i.Writes p xs) = list_formulas xs

-- what a function makes of each clause, whose quantified formulas are numbered on
abbrev pub each_clause : {A : Type 0} → (ℕ → Clause → List A) → ℕ → List Clause → List A
each_clause f n [] = []
each_clause f n (x ∷ xs) = f n x ++ each_clause f (n + clause_formulas x) xs

abbrev pub in_writes : Around → Around
in_writes a = in_context (with_text Writes a.context) a

abbrev pub in_clause : Condition → Around → Around
in_clause h a = in_context (in_condition h a.context) a

abbrev pub clause : Span → Spec → t.Clause
clause p x = record { line = p.line; spec = x }

-- the items of a list that have to be mutable
abbrev pub mutable_item : Around → ℕ → Written → List Spec
mutable_item a n (i.Thing x) = []
mutable_item a n (i.SpanOf p x) = t.SMutable (spec a n x) ∷ []
mutable_item a n (i.ExtentOf p x) = t.SMutable (spec a n x) ∷ []

abbrev pub mutable_items : Around → ℕ → List Written → List Spec
mutable_items a n [] = []
mutable_items a n (x ∷ xs) = mutable_item a n x ++ mutable_items a (n + formulas (item_of x)) xs

abbrev pub precondition : Around → ℕ → Clause → List t.Clause
precondition a n (i.Holds p conditions.Requires x) = clause p (spec (in_clause conditions.Requires a) n x) ∷ []
precondition a n (i.Holds p conditions.Maintains x) = clause p (spec (in_clause conditions.Maintains a) n x) ∷ []
precondition a n (i.Holds p conditions.Ensures x) = []
precondition a n (i.Writes p xs) = map (clause p) (mutable_items (in_writes a) n xs)

abbrev pub postcondition : Around → ℕ → Clause → List t.Clause
postcondition a n (i.Holds p conditions.Ensures x) = clause p (spec (in_clause conditions.Ensures a) n x) ∷ []
postcondition a n (i.Holds p conditions.Maintains x) = clause p (spec (in_clause conditions.Maintains a) n x) ∷ []
postcondition a n _ = []

abbrev pub listed_items : Around → ℕ → List Written → List Spec
listed_items a n [] = []
listed_items a n (x ∷ xs) = spec a n (item_of x) ∷ listed_items a (n + formulas (item_of x)) xs

abbrev pub written : Around → ℕ → Clause → List Spec
written a n (i.Writes p xs) = listed_items (in_writes a) n xs
written a n _ = []

abbrev pub contract_formulas : List Clause → ℕ
contract_formulas [] = 0
contract_formulas (x ∷ xs) = clause_formulas x + contract_formulas xs

abbrev pub variable : List Item → Variable → VariableInfo
variable items v = record { name = v.name.name; ty = declared_type items v.ty; is_ghost = v.is_ghost }

-- a function, whose first numbers are these
abbrev pub function : List Item → Counters → FunctionTree → FunctionInfo
function items n h = let a = around_function items h in record {
  name = h.name.name;
  value = option_map (declared_type items) h.value;
  parameters = length h.parameters + length h.ghost_parameters;
  variables = map (variable items) (variables h);
  preconditions = each_clause (precondition a) n.formulas h.contract;
  postconditions = each_clause (postcondition a) n.formulas h.contract;
  writes = each_clause (written a) n.formulas h.contract;
  body = rows a (plus_formulas n (contract_formulas h.contract)) h.body.all;
  end = h.body.end.line;
}

-- ---- numbers of items

abbrev pub in_item : Item → Counters
in_item (i.Struct s) = some_formulas (struct_formulas (invariants_of s.members))
in_item (i.Function h) = plus (some_formulas (contract_formulas h.contract)) (in_statements h.body.all)

-- the tables of structs and of functions, of items whose first numbers are these
abbrev pub struct_table : List Item → Counters → List Item → List StructInfo
struct_table items n [] = []
struct_table items n (i.Struct s ∷ more) = struct items n.formulas s ∷ struct_table items (plus n (in_item (i.Struct s))) more
struct_table items n (i.Function h ∷ more) = struct_table items (plus n (in_item (i.Function h))) more

abbrev pub function_table : List Item → Counters → List Item → List FunctionInfo
function_table items n [] = []
function_table items n (i.Struct s ∷ more) = function_table items (plus n (in_item (i.Struct s))) more
function_table items n (i.Function h ∷ more) = function items n h ∷ function_table items (plus n (in_item (i.Function h))) more

abbrev pub all_items : List Item → Counters
all_items [] = none
all_items (x ∷ xs) = plus (in_item x) (all_items xs)

-- the formulas about `\destroy_claim` are numbered behind all others
abbrev pub start : List Item → Counters
start items = record none { ended = (all_items items).formulas }

-- structs and functions among each other, each by its place in its table
abbrev pub order : ℕ → ℕ → List Item → List m.Item
order s f [] = []
order s f (i.Struct x ∷ more) = tables.Struct s ∷ order (suc s) f more
order s f (i.Function x ∷ more) = tables.Function f ∷ order s (suc f) more

abbrev pub field_table : List Item → List FieldInfo
field_table items = flat_map (λ s. map (field items s) (fields s.members)) (structs items)

-- ---- what is told, and the shapes of it

-- in a contract, each clause once
abbrev pub clause_occurrences : Around → Clause → List Occurrence
clause_occurrences a (i.Holds p h x) = Says (spec (in_clause h a) 0 x) ∷ []
clause_occurrences a (i.Writes p xs) = map Says (listed_items (in_writes a) 0 xs)

abbrev pub function_occurrences : List Item → ℕ → FunctionTree → List Occurrence
function_occurrences items f h = let a = around_function items h in flat_map (clause_occurrences a) h.contract ++ all_occurrences a f h.body.all

abbrev pub struct_occurrences : List Item → StructTree → List Occurrence
struct_occurrences items s = map Says (each_invariant (λ k x. spec (around_struct items s) k x ∷ []) 0 (invariants_of s.members))

abbrev pub value_sort : List Item → Option Ty → Sort
value_sort items None = IntSort
value_sort items (Some ty) = sort_of_type (declared_type items ty)

-- the sorts of a function's variables and value; a struct's invariants speak of none
abbrev pub function_sorts : List Item → FunctionTree → Sorts
function_sorts items h = record { variables = map (λ v. sort_of_type (declared_type items v.ty)) (variables h); value = value_sort items h.value }

abbrev pub no_sorts : Sorts
no_sorts = record { variables = []; value = IntSort }

abbrev pub told_shapes : Sorts → Occurrence → List Shape
told_shapes s (Says x) = shapes_in s x
told_shapes s (Makes x) = property_shapes s x.property

-- the shapes of items, of which the first function has number f
abbrev pub item_shapes : List Item → ℕ → List Item → List Shape
item_shapes items f [] = []
item_shapes items f (i.Struct s ∷ more) = flat_map (told_shapes no_sorts) (struct_occurrences items s) ++ item_shapes items f more
item_shapes items f (i.Function h ∷ more) = flat_map (told_shapes (function_sorts items h)) (function_occurrences items f h) ++ item_shapes items (suc f) more

abbrev pub shapes : List Item → List Shape
shapes items = first_ones [] (item_shapes items 0 items)

abbrev pub sites_told : List Occurrence → List Site
sites_told [] = []
sites_told (Says x ∷ more) = sites_told more
sites_told (Makes x ∷ more) = x ∷ sites_told more

abbrev pub claim_site : List Shape → Sorts → Site → ClaimSite
claim_site l s x = record { function = x.function; line = x.line; variables = x.variables; claimed = x.claimed; conjuncts = map (conjunct l s) x.property }

abbrev pub site_table : List Shape → List Item → ℕ → List Item → List ClaimSite
site_table l items f [] = []
site_table l items f (i.Struct s ∷ more) = site_table l items f more
site_table l items f (i.Function h ∷ more) = map (claim_site l (function_sorts items h)) (sites_told (function_occurrences items f h)) ++ site_table l items (suc f) more

-- ---- statements, clauses and structs with numbered shapes

abbrev pub numbered_action : List Shape → Sorts → Action → Action
numbered_action l s (t.AssertSpec x) = t.AssertSpec (numbered l s x)
numbered_action l s x = x

abbrev mutual
  pub numbered_statement : List Shape → Sorts → Stmt → Stmt
  numbered_statement l s (t.Do line x) = t.Do line (numbered_action l s x)
  numbered_statement l s (t.If line in_ghost x a b) = t.If line in_ghost x (numbered_row l s a) (numbered_row l s b)
  numbered_statement l s (t.While line is x a) = t.While line (map (numbered l s) is) x (numbered_row l s a)
  numbered_statement l s (t.DoWhile line is a tested x) = t.DoWhile line (map (numbered l s) is) (numbered_row l s a) tested x
  numbered_statement l s (t.Unwrapping line ty q x a) = t.Unwrapping line ty q x (numbered_row l s a)
  numbered_statement l s x = x

  pub numbered_row : List Shape → Sorts → Stmts → Stmts
  numbered_row l s NoStmt = NoStmt
  numbered_row l s (AStmt x xs) = AStmt (numbered_statement l s x) (numbered_row l s xs)

abbrev pub numbered_clause : List Shape → Sorts → t.Clause → t.Clause
numbered_clause l s x = record x { spec = numbered l s x.spec }

abbrev pub numbered_function : List Shape → Sorts → FunctionInfo → FunctionInfo
numbered_function l s x = record x {
  preconditions = map (numbered_clause l s) x.preconditions;
  postconditions = map (numbered_clause l s) x.postconditions;
  writes = map (numbered l s) x.writes;
  body = numbered_row l s x.body;
}

abbrev pub numbered_struct : List Shape → StructInfo → StructInfo
numbered_struct l x = record x { invariants = map (numbered l no_sorts) x.invariants; mine = map (numbered l no_sorts) x.mine }

abbrev pub sorts_of : FunctionInfo → Sorts
sorts_of x = record { variables = map (λ v. sort_of_type v.ty) x.variables; value = value_of x.value }
  where
    value_of : Option DeclaredType → Sort
    value_of None = IntSort
    value_of (Some ty) = sort_of_type ty

-- ---- the program

-- The tables of a program. Of one that breaks a typing rule they say nothing.
abbrev pub program : List Item → Program
program items = let l = shapes items in record {
  structs = map (numbered_struct l) (struct_table items (start items) items);
  fields = field_table items;
  functions = map (λ f. numbered_function l (sorts_of f) f) (function_table items (start items) items);
  sites = site_table l items 0 items;
  shapes = map (table_shape l) l;
  items = order 0 0 items;
  main = place_of (λ f. bytes_eq f.name.name (codes "main")) (functions items);
}
