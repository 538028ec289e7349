-- The law of well-formed tables, put together.
use Rattle.std.proofs.Common.{◌≡◌, ℕ, ◌+◌, nat_le, true, false, List, ◌++◌, length, map, IsTrue, refl, sym, ap, ◌∙◌, subst, arith}
use Rattle.std.proofs.lemmas.Bool.{le-leb}
use Rattle.std.proofs.lemmas.List.{length-map, length-append}
use Rattle.c_syntax.specs.declared.token.Span.{Span}
use Rattle.c_syntax.specs.Items.{FunctionTree, Item}
use Rattle.typing_spec.specs.First.{IsWellTyped}
use Rattle.typed_program.specs.Trees.{FunctionInfo}
use Rattle.typed_program.specs.Variables.{parameter, variables, all_declared}
use Rattle.typed_program.specs.Tables.{variable, program}
use Rattle.tree_forms.specs.InForm.{in_form}
use Rattle.typed_laws.specs.Law.{WellFormedLaw}
use Rattle.typed_laws.proofs.Tests.{Tested}
use Rattle.typed_laws.proofs.Facts.{FunctionOf}
use Rattle.typed_laws.proofs.CodeValues.{code_law}
use Rattle.typed_laws.proofs.Bridge.{bridge_law}
use Rattle.typed_laws.proofs.Entry.{entry_law}
use Rattle.typed_laws.proofs.StructTables.{structs_law, fields_law, field_structs_law}
use Rattle.typed_laws.proofs.FunctionTables.{functions_law, tables_law, main_law}
use Rattle.typed_laws.proofs.SiteTables.{sites_law}
use Rattle.typed_laws.proofs.DeclaredTypes.{field_types_law, variable_types_law, result_types_law}
use Rattle.typed_laws.proofs.ItemOrder.{items_law}
use Rattle.typed_laws.proofs.Returns.{returns_law}
use Rattle.typed_laws.proofs.Makes.{sites_stand_law}
use Rattle.typed_laws.proofs.Contents.{invariants_law}
use Rattle.typed_laws.proofs.Claims.{claims_law}
use Rattle.typed_laws.proofs.Meanings.{meaning_law}
use Rattle.typed_laws.proofs.Annotated.{annotations_law}
use Rattle.typed_laws.proofs.BodyWhole.{bodies_law}

-- ---- functions

in_two_parts : (a b n : ℕ) → n ≡ a + b → (c : ℕ) → nat_le (a + b) (a + (b + c)) ≡ true
in_two_parts a b n e c = le-leb (a + b) (a + (b + c)) (omega arith)

many_variables : (h : FunctionTree) → length (variables h) ≡ length h.parameters + (length h.ghost_parameters + length (all_declared h.body.all))
many_variables h =
    length-append (map (parameter false) h.parameters) (map (parameter true) h.ghost_parameters ++ all_declared h.body.all)
    ∙ (λ j. length-map h.parameters (parameter false) j + (length-append (map (parameter true) h.ghost_parameters) (all_declared h.body.all) ∙ ap (λ n. n + length (all_declared h.body.all)) (length-map h.ghost_parameters (parameter true))) j)

enough_variables : (items : List Item) (k : ℕ) (info : FunctionInfo) → FunctionOf items k info → IsTrue (nat_le info.parameters (length info.variables))
enough_variables items k info of =
    let h = of.tree in
    let many : length (map (variable items) (variables h)) ≡ length h.parameters + (length h.ghost_parameters + length (all_declared h.body.all)) = length-map (variables h) (variable items) ∙ many_variables h in
    subst (λ f. IsTrue (nat_le f.parameters (length f.variables))) (sym of.is) (ap (nat_le (length h.parameters + length h.ghost_parameters)) many ∙ in_two_parts (length h.parameters) (length h.ghost_parameters) (length h.parameters + length h.ghost_parameters) refl (length (all_declared h.body.all)))

-- ---- all of it

tested : (items : List Item) (end : Span) → IsTrue (in_form items) → IsWellTyped items end → Tested (program items)
tested items end form typed = record {
  main = main_law items end typed;
  parameters = λ k info at_k. enough_variables items k info (functions_law items end typed k info at_k);
  bodies = bodies_law code_law tables_law functions_law items end form typed;
  returns = returns_law items end typed;
  variable_types = variable_types_law items end typed;
  result_types = result_types_law items end typed;
  fields = fields_law items end typed;
  field_types = field_types_law items end typed;
  field_structs = field_structs_law items end typed;
  invariants = invariants_law structs_law items end form typed;
  sites = claims_law tables_law sites_law entry_law code_law (annotations_law meaning_law) items end form typed;
  sites_stand = sites_stand_law items end typed;
  items = items_law items;
}

pub well_formed_law : WellFormedLaw
well_formed_law items end form typed p same = bridge_law p (subst Tested (sym same) (tested items end form typed))
