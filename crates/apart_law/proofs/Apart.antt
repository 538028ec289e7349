-- Ghost and concrete code of a source are apart.
use Rattle.std.specs.Prelude.{ℕ, Bool, true, false, ◌||◌, List, [], ◌∷◌, ◌++◌, map, flat_map, Contains, IsTrue}
use Rattle.std.proofs.Common.{◌≡◌, refl, sym, ap, subst, ◌∙◌}
use Rattle.std.proofs.lemmas.List.Elements.{Contains-append_right}
use Rattle.c_syntax.specs.declared.token.Span.{Span}
use Rattle.c_syntax.specs.Expressions as e
use Rattle.c_syntax.specs.Expressions.{Ty}
use Rattle.c_syntax.specs.Items as i
use Rattle.c_syntax.specs.Items.{Param, FieldTree, StructTree, FunctionTree, Item}
use Rattle.object_types.specs.Sets.{every}
use Rattle.typing_spec.specs.Declarations.{structs, fields}
use Rattle.typing_spec.specs.Contexts as texts
use Rattle.typing_spec.specs.Contexts.{Context, Scope, Variable}
use Rattle.typing_spec.specs.Pieces as pieces
use Rattle.typing_spec.specs.Pieces.{in_function, with_params, nowhere}
use Rattle.typing_spec.specs.TypeLaws.{IsKnown, Quiet}
use Rattle.typing_spec.specs.First.{IsWellTyped}
use Rattle.plain_machine.specs.GhostApart.{is_plain_type}
use Rattle.typed_program.specs.Trees.{FieldInfo, VariableInfo, FunctionInfo}
use Rattle.typed_program.specs.Numbers.{declared_type}
use Rattle.typed_program.specs.Variables.{parameter, all_declared, variables}
use Rattle.typed_program.specs.Statements.{plus_formulas, rows}
use Rattle.typed_program.specs.Tables.{around_function, contract_formulas, field, variable, function, shapes, sorts_of, program}
use Rattle.tree_forms.specs.InForm.{in_form, in_item}
use Rattle.typed_laws.proofs.Basics.{and_both, and_left, and_right, every_append, every_member}
use Rattle.typed_laws.proofs.Facts.{FunctionOf}
use Rattle.typed_laws.proofs.CodeValues.{code_law}
use Rattle.typed_laws.proofs.Entry.{function_item, body_quiet, value_typed, entry_law}
use Rattle.typed_laws.proofs.FunctionTables.{functions_law, tables_law}
use Rattle.typed_laws.proofs.Sides.{Setting, here, around, at, Knows}
use Rattle.typed_laws.proofs.BodyWhole.{functions_typed}
use Rattle.apart_law.specs.Premises.{is_c_type, item_stores_once, item_of_c}
use Rattle.apart_law.specs.Law.{StoringOnceIsApart}
use Rattle.apart_law.proofs.ApartTests.{stmts_apart, ApartTested}
use Rattle.apart_law.proofs.ApartBridge.{apart_bridge}
use Rattle.apart_law.proofs.ApartRows.{row_same}
use Rattle.apart_law.proofs.ApartBodies.{statements_apart}

-- ---- types

plain_type : (items : List Item) (ty : Ty) → is_plain_type (declared_type items ty) ≡ is_c_type ty
plain_type items (e.Integer c) = refl
plain_type items (e.Pointer x) = refl
plain_type items e.Object = refl
plain_type items e.Claim = refl

variables_plain : (items : List Item) (vs : List Variable) → IsTrue (every (λ (v : Variable). v.is_ghost || is_c_type v.ty) vs) → IsTrue (every (λ (v : VariableInfo). v.is_ghost || is_plain_type v.ty) (map (variable items) vs))
variables_plain items [] h = refl
variables_plain items (v ∷ vs) h =
    let one = v.is_ghost || is_c_type v.ty in
    let more = every (λ (z : Variable). z.is_ghost || is_c_type z.ty) vs in
    and_both _ _ (ap (λ b. v.is_ghost || b) (plain_type items v.ty) ∙ and_left one more h) (variables_plain items vs (and_right one more h))

fields_plain : (items : List Item) (s : StructTree) (gs : List FieldTree) → IsTrue (every (λ (g : FieldTree). g.is_ghost || is_c_type g.ty) gs) → IsTrue (every (λ (g : FieldInfo). g.is_ghost || is_plain_type g.ty) (map (field items s) gs))
fields_plain items s [] h = refl
fields_plain items s (g ∷ gs) h =
    let one = g.is_ghost || is_c_type g.ty in
    let more = every (λ (z : FieldTree). z.is_ghost || is_c_type z.ty) gs in
    and_both _ _ (ap (λ b. g.is_ghost || b) (plain_type items g.ty) ∙ and_left one more h) (fields_plain items s gs (and_right one more h))

table_plain : (items more : List Item) → IsTrue (every item_of_c more) → IsTrue (every (λ (g : FieldInfo). g.is_ghost || is_plain_type g.ty) (flat_map (λ s. map (field items s) (fields s.members)) (structs more)))
table_plain items [] h = refl
table_plain items (i.Struct s ∷ more) h =
    let one = item_of_c (i.Struct s) in
    let rest = every item_of_c more in
    every_append (λ (g : FieldInfo). g.is_ghost || is_plain_type g.ty) (map (field items s) (fields s.members)) (flat_map (λ z. map (field items z) (fields z.members)) (structs more)) (fields_plain items s (fields s.members) (and_left one rest h)) (table_plain items more (and_right one rest h))
table_plain items (i.Function f ∷ more) h = table_plain items more (and_right (item_of_c (i.Function f)) (every item_of_c more) h)

-- ---- what stands around a body

params_text : (b : Bool) (ps : List Param) (c : Context) → (with_params b ps c).text ≡ c.text
params_text b [] c = refl
params_text b (x ∷ xs) c = params_text b xs (record c { scope = record c.scope { variables = parameter b x ∷ c.scope.variables } })

params_atomic : (b : Bool) (ps : List Param) (c : Context) → (with_params b ps c).in_atomic ≡ c.in_atomic
params_atomic b [] c = refl
params_atomic b (x ∷ xs) c = params_atomic b xs (record c { scope = record c.scope { variables = parameter b x ∷ c.scope.variables } })

module _ (items : List Item) (end : Span) (formed : IsTrue (in_form items)) (once : IsTrue (every item_stores_once items)) (typed : IsWellTyped items end) (k : ℕ) (info : FunctionInfo) (of : FunctionOf items k info) where
  abbrev h : FunctionTree
  h = of.tree

  abbrev c : Context
  c = in_function items h

  is_code : c.text ≡ texts.Code
  is_code = params_text true h.ghost_parameters (with_params false h.parameters (nowhere items)) ∙ params_text false h.parameters (nowhere items)

  outside : c.in_atomic ≡ false
  outside = params_atomic true h.ghost_parameters (with_params false h.parameters (nowhere items)) ∙ params_atomic false h.parameters (nowhere items)

  abbrev setting : Setting
  setting = record {
    items = items;
    program = program items;
    info = info;
    tables = tables_law items end typed;
    law = code_law;
    functions_typed = functions_typed items end typed;
    value = c.value;
    value_typed = value_typed items end typed h of.in_items;
    value_is = ap (λ (z : FunctionInfo). z.value) of.is;
    names = map (λ v. v.name.name) (variables h);
    number = k;
  }

  abbrev vs : List Variable
  vs = c.scope.variables

  scope_is : c.scope ≡ here setting vs
  scope_is = let entry = entry_law items end typed k info of in λ j. record { items = entry.items_are j; variables = vs; this = entry.no_this j; result = entry.no_result j }

  plain_body : IsTrue (stmts_apart (program items) info (rows (around_function items h) (plus_formulas of.before (contract_formulas h.contract)) h.body.all))
  plain_body =
      let n = plus_formulas of.before (contract_formulas h.contract) in
      let entry = entry_law items end typed k info of in
      let a_is : around_function items h ≡ around setting vs c = λ j. record { context = record c { scope = scope_is j }; names = map (λ v. v.name.name) (variables h); bound = 0 } in
      let c_is : c ≡ at setting vs false c = λ j. record c { scope = scope_is j; in_atomic = outside j } in
      let knows : Knows setting vs = record { known = subst IsKnown scope_is entry.known; numbered = entry.numbered } in
      let numbered = λ (v : Variable) (d : Contains (all_declared h.body.all) v). of.numbered v (Contains-append_right (map (parameter false) h.parameters) (map (parameter true) h.ghost_parameters ++ all_declared h.body.all) v (Contains-append_right (map (parameter true) h.ghost_parameters) (all_declared h.body.all) v d)) in
      let item = function_item items h of.in_items in
      subst (λ a. IsTrue (stmts_apart (program items) info (rows a n h.body.all))) (sym a_is)
      (statements_apart setting vs knows c c is_code n h.body.all (every_member in_item items (i.Function h) formed item) (every_member item_stores_once items (i.Function h) once item)
      (subst (λ z. Quiet (pieces.in_statements z h.body.all)) c_is (body_quiet items end typed h of.in_items)) numbered)

  body_apart : IsTrue (stmts_apart (program items) info info.body)
  body_apart =
      let n = plus_formulas of.before (contract_formulas h.contract) in
      subst (λ b. IsTrue (stmts_apart (program items) info b)) (sym (ap (λ (z : FunctionInfo). z.body) of.is))
      (row_same (program items) info (shapes items) (sorts_of (function items of.before h)) (rows (around_function items h) n h.body.all) ∙ plain_body)

-- ---- the law

tested : (items : List Item) (end : Span) → IsTrue (in_form items) → IsTrue (every item_stores_once items) → IsTrue (every item_of_c items) → IsWellTyped items end → ApartTested (program items)
tested items end formed once of_c typed = record {
  bodies = λ k f e. body_apart items end formed once typed k f (functions_law items end typed k f e);
  variables = λ k f e.
      let of = functions_law items end typed k f e in
      subst (λ (z : FunctionInfo). IsTrue (every (λ (v : VariableInfo). v.is_ghost || is_plain_type v.ty) z.variables)) (sym of.is)
      (variables_plain items (variables of.tree) (every_member item_of_c items (i.Function of.tree) of_c (function_item items of.tree of.in_items)));
  fields = table_plain items items of_c;
}

pub storing_once_is_apart : StoringOnceIsApart
storing_once_is_apart items end formed once of_c typed p same = apart_bridge p (subst ApartTested (sym same) (tested items end formed once of_c typed))
