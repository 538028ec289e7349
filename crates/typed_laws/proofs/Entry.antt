-- What stands around a function's body, and around a struct's invariants, and that what is declared has types.
use Rattle.std.proofs.Common.{◌≡◌, ℕ, ◌⊎◌, inl, inr, Bool, true, false, List, [], ◌∷◌, ◌++◌, map, flat_map, Option, Some, None, Contains, refl, sym, ◌∙◌, subst}
use Rattle.std.proofs.lemmas.List.Elements.{Contains-append_left, Contains-append_right}
use Rattle.c_syntax.specs.declared.token.Span.{Span}
use Rattle.c_syntax.specs.Expressions.{Ty}
use Rattle.c_syntax.specs.Items as i
use Rattle.c_syntax.specs.Items.{Param, FunctionTree, FieldTree, Member, StructTree, Item}
use Rattle.typing_spec.specs.Declarations.{structs, functions, fields}
use Rattle.typing_spec.specs.Contexts.{Context, Variable}
use Rattle.typing_spec.specs.Types.{kind_of}
use Rattle.typing_spec.specs.TypeLaws.{Where, Typed, IsKnown, Quiet, type_typed}
use Rattle.typing_spec.specs.Pieces.{Piece, Struct, Function, struct_name, if_some, nowhere, with_params, in_function, types_of, clause, in_statements, function, member, in_struct}
use Rattle.typing_spec.specs.First.{IsWellTyped}
use Rattle.typed_program.specs.Trees.{FunctionInfo}
use Rattle.typed_program.specs.Variables.{parameter, variables, all_declared}
use Rattle.typed_program.specs.Tables.{around_function}
use Rattle.typed_laws.proofs.Basics.{contains_head, contains_tail, contains_cases, contains_none, contains_map, to_flat_map}
use Rattle.typed_laws.proofs.Quiet.{quiet_item, quiet_rest, quiet_left, quiet_right}
use Rattle.typed_laws.proofs.Facts.{InCode, FunctionOf}

-- ---- items

pub struct_item : (items : List Item) (s : StructTree) → Contains (structs items) s → Contains items (i.Struct s)
struct_item [] s c = absurd (contains_none s c)
struct_item (i.Struct u ∷ items) s c = elim (contains_cases u s (structs items) c) [ inl q ↦ subst (λ w. Contains (i.Struct u ∷ items) (i.Struct w)) q (contains_head (i.Struct u) items) | inr q ↦ contains_tail (i.Struct u) (i.Struct s) items (struct_item items s q) ]
struct_item (i.Function h ∷ items) s c = contains_tail (i.Function h) (i.Struct s) items (struct_item items s c)

pub function_item : (items : List Item) (h : FunctionTree) → Contains (functions items) h → Contains items (i.Function h)
function_item [] h c = absurd (contains_none h c)
function_item (i.Struct u ∷ items) h c = contains_tail (i.Struct u) (i.Function h) items (function_item items h c)
function_item (i.Function g ∷ items) h c =
    elim (contains_cases g h (functions items) c) [ inl q ↦ subst (λ w. Contains (i.Function g ∷ items) (i.Function w)) q (contains_head (i.Function g) items) | inr q ↦ contains_tail (i.Function g) (i.Function h) items (function_item items h q) ]

pub field_member : (ms : List Member) (g : FieldTree) → Contains (fields ms) g → Contains ms (i.Field g)
field_member [] g c = absurd (contains_none g c)
field_member (i.Field f ∷ ms) g c = elim (contains_cases f g (fields ms) c) [ inl q ↦ subst (λ w. Contains (i.Field f ∷ ms) (i.Field w)) q (contains_head (i.Field f) ms) | inr q ↦ contains_tail (i.Field f) (i.Field g) ms (field_member ms g q) ]
field_member (i.Invariant x ∷ ms) g c = contains_tail (i.Invariant x) (i.Field g) ms (field_member ms g c)

module _ (items : List Item) (end : Span) (typed : IsWellTyped items end) where
  -- the members of a struct break no rule
  pub members_quiet : (s : StructTree) → Contains (structs items) s → Quiet (flat_map (member items s) s.members)
  members_quiet s c y d = quiet_item items end typed (i.Struct s) (struct_item items s c) y (contains_tail (Struct items s) y (flat_map (member items s) s.members) d)

  pub fields_typed : (s : StructTree) (g : FieldTree) → Contains (structs items) s → Contains (fields s.members) g → Typed items (kind_of items g.ty)
  fields_typed s g c d = type_typed items g.ty (λ y h. members_quiet s c y (to_flat_map (member items s) s.members (i.Field g) y (field_member s.members g d) h))

  -- what stands around a struct's invariants has types
  pub struct_known : (s : StructTree) → Contains (structs items) s → IsKnown (in_struct items s).scope
  struct_known s c = record { variables_typed = λ v h. absurd (contains_none v h); fields_typed = fields_typed; this_declared = c; result_typed = tt }

  -- ---- functions

  function_quiet : (h : FunctionTree) → Contains (functions items) h → Quiet (function items h)
  function_quiet h c = quiet_item items end typed (i.Function h) (function_item items h c)

  module _ (h : FunctionTree) (c : Contains (functions items) h) where
    abbrev behind_types : List Piece
    behind_types = flat_map (clause (in_function items h)) h.contract ++ in_statements (in_function items h) h.body.all

    abbrev behind_parameters : List Piece
    behind_parameters = types_of items h.ghost_parameters ++ behind_types

    parts_quiet : Quiet (if_some (struct_name items) h.value ++ (types_of items h.parameters ++ behind_parameters))
    parts_quiet = quiet_rest (Function items h) (if_some (struct_name items) h.value ++ (types_of items h.parameters ++ behind_parameters)) (function_quiet h c)

    types_quiet : Quiet (types_of items h.parameters ++ behind_parameters)
    types_quiet = quiet_right (if_some (struct_name items) h.value) (types_of items h.parameters ++ behind_parameters) parts_quiet

    ghost_types_quiet : Quiet behind_parameters
    ghost_types_quiet = quiet_right (types_of items h.parameters) behind_parameters types_quiet

    rest_quiet : Quiet behind_types
    rest_quiet = quiet_right (types_of items h.ghost_parameters) behind_types ghost_types_quiet

    pub body_quiet : Quiet (in_statements (in_function items h) h.body.all)
    body_quiet = quiet_right (flat_map (clause (in_function items h)) h.contract) (in_statements (in_function items h) h.body.all) rest_quiet

    pub value_typed : Where (λ ty. Typed items (kind_of items ty)) h.value
    value_typed = by h.value (quiet_left (if_some (struct_name items) h.value) (types_of items h.parameters ++ behind_parameters) parts_quiet)
      where
        by : (o : Option Ty) → Quiet (if_some (struct_name items) o) → Where (λ ty. Typed items (kind_of items ty)) o
        by None q = tt
        by (Some ty) q = type_typed items ty q

    list_typed : (ps : List Param) → Quiet (types_of items ps) → (x : Param) → Contains ps x → Typed items (kind_of items x.ty)
    list_typed ps q x d = type_typed items x.ty (λ y g. q y (to_flat_map (λ z. struct_name items z.ty) ps x y d g))

    pub parameters_typed : (x : Param) → Contains h.parameters x → Typed items (kind_of items x.ty)
    parameters_typed = list_typed h.parameters (quiet_left (types_of items h.parameters) behind_parameters types_quiet)

    pub ghost_parameters_typed : (x : Param) → Contains h.ghost_parameters x → Typed items (kind_of items x.ty)
    ghost_parameters_typed = list_typed h.ghost_parameters (quiet_left (types_of items h.ghost_parameters) behind_types ghost_types_quiet)

-- ---- parameters in scope

params_items : (b : Bool) (ps : List Param) (c : Context) → (with_params b ps c).scope.items ≡ c.scope.items
params_items b [] c = refl
params_items b (x ∷ xs) c = params_items b xs (record c { scope = record c.scope { variables = parameter b x ∷ c.scope.variables } })

params_this : (b : Bool) (ps : List Param) (c : Context) → (with_params b ps c).scope.this ≡ c.scope.this
params_this b [] c = refl
params_this b (x ∷ xs) c = params_this b xs (record c { scope = record c.scope { variables = parameter b x ∷ c.scope.variables } })

params_result : (b : Bool) (ps : List Param) (c : Context) → (with_params b ps c).scope.result ≡ c.scope.result
params_result b [] c = refl
params_result b (x ∷ xs) c = params_result b xs (record c { scope = record c.scope { variables = parameter b x ∷ c.scope.variables } })

-- a variable in scope is one of the parameters, or was in scope before
pub params_in : (b : Bool) (ps : List Param) (c : Context) (v : Variable) → Contains (with_params b ps c).scope.variables v → ((x : Param) × Contains ps x × (parameter b x ≡ v)) ⊎ Contains c.scope.variables v
params_in b [] c v d = inr d
params_in b (x ∷ xs) c v d =
    elim (params_in b xs (record c { scope = record c.scope { variables = parameter b x ∷ c.scope.variables } }) v d) [
      | inl q ↦ inl (q.0, contains_tail x q.0 xs q.1, q.2)
      | inr q ↦ elim (contains_cases (parameter b x) v c.scope.variables q) [ inl g ↦ inl (x, contains_head x xs, g) | inr g ↦ inr g ]
    ]

module _ (items : List Item) (end : Span) (typed : IsWellTyped items end) (h : FunctionTree) (c : Contains (functions items) h) where
  -- a variable in scope at the beginning is a parameter: it is one of the function's variables, and its type is known
  first_variable : (v : Variable) → Contains (in_function items h).scope.variables v → Contains (variables h) v × Typed items (kind_of items v.ty)
  first_variable v d =
      elim (params_in true h.ghost_parameters (with_params false h.parameters (nowhere items)) v d) [
        | inl q ↦
            let place = Contains-append_right (map (parameter false) h.parameters) (map (parameter true) h.ghost_parameters ++ all_declared h.body.all) (parameter true q.0) (Contains-append_left (map (parameter true) h.ghost_parameters) (all_declared h.body.all) (parameter true q.0) (contains_map (parameter true) h.ghost_parameters q.0 q.1)) in
            (subst (Contains (variables h)) q.2 place, subst (λ w. Typed items (kind_of items w.ty)) q.2 (ghost_parameters_typed items end typed h c q.0 q.1))
        | inr q ↦
            elim (params_in false h.parameters (nowhere items) v q) [
              | inl g ↦
                  let place = Contains-append_left (map (parameter false) h.parameters) (map (parameter true) h.ghost_parameters ++ all_declared h.body.all) (parameter false g.0) (contains_map (parameter false) h.parameters g.0 g.1) in
                  (subst (Contains (variables h)) g.2 place, subst (λ w. Typed items (kind_of items w.ty)) g.2 (parameters_typed items end typed h c g.0 g.1))
              | inr g ↦ absurd (contains_none v g)
            ]
      ]

  pub items_are : (in_function items h).scope.items ≡ items
  items_are = params_items true h.ghost_parameters (with_params false h.parameters (nowhere items)) ∙ params_items false h.parameters (nowhere items)

  no_this : (in_function items h).scope.this ≡ None
  no_this = params_this true h.ghost_parameters (with_params false h.parameters (nowhere items)) ∙ params_this false h.parameters (nowhere items)

  no_result : (in_function items h).scope.result ≡ None
  no_result = params_result true h.ghost_parameters (with_params false h.parameters (nowhere items)) ∙ params_result false h.parameters (nowhere items)

  function_known : IsKnown (in_function items h).scope
  function_known = record {
    variables_typed = λ v d. subst (λ is. Typed is (kind_of is v.ty)) (sym items_are) (first_variable v d).1;
    fields_typed = λ s g d q. subst (λ is. Typed is (kind_of is g.ty)) (sym items_are) (fields_typed items end typed s g (subst (λ is. Contains (structs is) s) items_are d) q);
    this_declared = subst (λ o. Where (Contains (structs (in_function items h).scope.items)) o) (sym no_this) tt;
    result_typed = subst (λ o. Where (λ ty. Typed (in_function items h).scope.items (kind_of (in_function items h).scope.items ty)) o) (sym no_result) tt;
  }

pub entry_law : (items : List Item) (end : Span) → IsWellTyped items end → (k : ℕ) (info : FunctionInfo) (of : FunctionOf items k info) → InCode items info (around_function items of.tree)
entry_law items end typed k info of = record {
  items_are = items_are items end typed of.tree of.in_items;
  no_bound = refl;
  no_this = no_this items end typed of.tree of.in_items;
  no_result = no_result items end typed of.tree of.in_items;
  known = function_known items end typed of.tree of.in_items;
  numbered = λ v d. of.numbered v (first_variable items end typed of.tree of.in_items v d).0;
}
