-- The annotations of a program that breaks no rule fit its tables, where expressions that break none stand for something.
use Rattle.std.specs.Prelude.{ℕ, true, false, List, ◌++◌, map, flat_map, Contains, option_map, IsTrue}
use Rattle.std.proofs.Common.{◌≡◌, refl, sym, ap, subst, ◌∙◌}
use Rattle.std.proofs.lemmas.List.Elements.{Contains-append_right}
use Rattle.c_syntax.specs.declared.token.Span.{Span}
use Rattle.c_syntax.specs.Items as i
use Rattle.c_syntax.specs.Items.{FunctionTree, Item}
use Rattle.object_types.specs.Sets.{every}
use Rattle.typing_spec.specs.Declarations.{functions}
use Rattle.typing_spec.specs.Contexts.{Variable}
use Rattle.typing_spec.specs.Pieces.{Function, struct_name, if_some, types_of, clause, in_function, in_statements}
use Rattle.typing_spec.specs.First.{IsWellTyped}
use Rattle.typing_spec.specs.TypeLaws.{Quiet}
use Rattle.typed_program.specs.Trees.{FunctionInfo}
use Rattle.typed_program.specs.Numbers.{Around, declared_type}
use Rattle.typed_program.specs.Shapes.{Sorts}
use Rattle.typed_program.specs.Statements.{plus_formulas}
use Rattle.typed_program.specs.Variables.{parameter, variables, all_declared}
use Rattle.typed_program.specs.Sites.{all_occurrences}
use Rattle.typed_program.specs.Tables.{around_function, contract_formulas, clause_occurrences, function, function_occurrences, function_sorts, numbered_function, shapes, program}
use Rattle.typed_laws.specs.Fits.{of_function, at_return, fits, names_object, in_row}
use Rattle.typed_laws.specs.Law.{AnnotationsLaw}
use Rattle.typed_laws.proofs.Quiet.{quiet_item, quiet_left, quiet_right, quiet_rest}
use Rattle.typed_laws.proofs.Facts.{Tables, InCode, FunctionOf}
use Rattle.typed_laws.proofs.Entry.{function_item, body_quiet, value_typed, entry_law}
use Rattle.typed_laws.proofs.FunctionTables.{functions_law, tables_law}
use Rattle.typed_laws.proofs.SpecShapes.{in_functions}
use Rattle.typed_laws.proofs.SpecGoals.{MeaningLaw}
use Rattle.typed_laws.proofs.Numbered.{Agree}
use Rattle.typed_laws.proofs.FitTables.{function_sorts_are, agree_function, agree_return}
use Rattle.typed_laws.proofs.FitClauses.{Known, known_left, known_right, preconditions_fit, postconditions_fit, writes_refer}
use Rattle.typed_laws.proofs.FitBodies.{rows_good}
use Rattle.typed_laws.proofs.FitStructs.{invariants_in_table, fixed_in_table}
use Rattle.typed_laws.proofs.FitSites.{sites_in_table}

-- ---- functions

-- the clauses of a contract break no rule
pub contract_quiet : (items : List Item) (end : Span) → IsWellTyped items end → (h : FunctionTree) → Contains (functions items) h → Quiet (flat_map (clause (in_function items h)) h.contract)
contract_quiet items end typed h c =
    let contract = flat_map (clause (in_function items h)) h.contract in
    let body = in_statements (in_function items h) h.body.all in
    let own = quiet_rest (Function items h) (if_some (struct_name items) h.value ++ (types_of items h.parameters ++ (types_of items h.ghost_parameters ++ (contract ++ body)))) (quiet_item items end typed (i.Function h) (function_item items h c)) in
    quiet_left contract body (quiet_right (types_of items h.ghost_parameters) (contract ++ body) (quiet_right (types_of items h.parameters) (types_of items h.ghost_parameters ++ (contract ++ body)) (quiet_right (if_some (struct_name items) h.value) (types_of items h.parameters ++ (types_of items h.ghost_parameters ++ (contract ++ body))) own)))

module _ (items : List Item) (k : ℕ) (info : FunctionInfo) (of : FunctionOf items k info) where
  abbrev entry : FunctionInfo
  entry = function items of.before of.tree

  abbrev sorts : Sorts
  sorts = function_sorts items of.tree

  entry_is : info ≡ numbered_function (shapes items) sorts entry
  entry_is = of.is ∙ ap (λ s. numbered_function (shapes items) s entry) (function_sorts_are items of.before of.tree)

  agrees : Agree sorts (of_function info)
  agrees = subst (Agree sorts) (ap of_function (sym of.is)) (subst (λ s. Agree s (of_function entry)) (function_sorts_are items of.before of.tree) (agree_function entry))

  agrees_return : Agree sorts (at_return info)
  agrees_return = subst (Agree sorts) (ap at_return (sym of.is)) (subst (λ s. Agree s (at_return entry)) (function_sorts_are items of.before of.tree) (agree_return entry))

  value_is : info.value ≡ option_map (declared_type items) of.tree.value
  value_is = ap (λ z. z.value) of.is

  all_told : Known items sorts (λ j. function_occurrences items j of.tree)
  all_told z c = in_functions items of.tree z c 0 items of.in_items

  contract_told : Known items sorts (λ j. flat_map (clause_occurrences (around_function items of.tree)) of.tree.contract)
  contract_told = known_left items sorts (λ j. flat_map (clause_occurrences (around_function items of.tree)) of.tree.contract) (λ j. all_occurrences (around_function items of.tree) j of.tree.body.all) all_told

  body_told : Known items sorts (λ j. all_occurrences (around_function items of.tree) j of.tree.body.all)
  body_told = known_right items sorts (λ j. flat_map (clause_occurrences (around_function items of.tree)) of.tree.contract) (λ j. all_occurrences (around_function items of.tree) j of.tree.body.all) all_told

  body_known : (v : Variable) → Contains (all_declared of.tree.body.all) v → Contains (variables of.tree) v
  body_known v c = Contains-append_right (map (parameter false) of.tree.parameters) (map (parameter true) of.tree.ghost_parameters ++ all_declared of.tree.body.all) v (Contains-append_right (map (parameter true) of.tree.ghost_parameters) (all_declared of.tree.body.all) v c)

  module _ (law : MeaningLaw) (end : Span) (typed : IsWellTyped items end) where
    abbrev a : Around
    a = around_function items of.tree

    all : Tables items (program items)
    all = tables_law items end typed

    here : InCode items info a
    here = entry_law items end typed k info of

    preconditions_of : IsTrue (every (λ c. fits (program items) (of_function info) c.spec) info.preconditions)
    preconditions_of =
        subst (λ z. IsTrue (every (λ c. fits (program items) (of_function info) c.spec) z.preconditions)) (sym entry_is)
        (preconditions_fit law items all sorts info a here value_is (value_typed items end typed of.tree of.in_items) agrees agrees_return of.before.formulas of.tree.contract (contract_quiet items end typed of.tree of.in_items) contract_told)

    postconditions_of : IsTrue (every (λ c. fits (program items) (at_return info) c.spec) info.postconditions)
    postconditions_of =
        subst (λ z. IsTrue (every (λ c. fits (program items) (at_return info) c.spec) z.postconditions)) (sym entry_is)
        (postconditions_fit law items all sorts info a here value_is (value_typed items end typed of.tree of.in_items) agrees agrees_return of.before.formulas of.tree.contract (contract_quiet items end typed of.tree of.in_items) contract_told)

    writes_of : IsTrue (every (names_object (program items) (of_function info)) info.writes)
    writes_of =
        subst (λ z. IsTrue (every (names_object (program items) (of_function info)) z.writes)) (sym entry_is)
        (writes_refer law items all sorts info a here value_is (value_typed items end typed of.tree of.in_items) agrees agrees_return of.before.formulas of.tree.contract (contract_quiet items end typed of.tree of.in_items) contract_told)

    body_of : IsTrue (in_row (program items) (of_function info) info.body)
    body_of =
        subst (λ z. IsTrue (in_row (program items) (of_function info) z.body)) (sym entry_is)
        (rows_good law items all sorts info agrees a (in_function items of.tree) here refl (plus_formulas of.before (contract_formulas of.tree.contract)) of.tree.body.all (body_quiet items end typed of.tree of.in_items) (λ v c. of.numbered v (body_known v c)) body_told)

-- ---- a program

-- the annotations of a program that breaks no rule fit its tables
pub annotations_law : MeaningLaw → AnnotationsLaw
annotations_law law items end formed typed = record {
  preconditions = λ k f at. preconditions_of items k f (functions_law items end typed k f at) law end typed;
  postconditions = λ k f at. postconditions_of items k f (functions_law items end typed k f at) law end typed;
  writes = λ k f at. writes_of items k f (functions_law items end typed k f at) law end typed;
  bodies = λ k f at. body_of items k f (functions_law items end typed k f at) law end typed;
  invariants = invariants_in_table law items end typed (tables_law items end typed);
  fixed_sets = fixed_in_table law items end typed (tables_law items end typed);
  sites = sites_in_table law items end formed typed (tables_law items end typed) (agrees items);
}
