-- The types that a source's tables name are types of its program, where the source breaks no rule.
use Rattle.std.specs.Prelude.{true, false, List, [], ◌∷◌, ◌++◌, map, Option, Some, None, Contains, option_map, IsTrue}
use Rattle.std.proofs.Common.{◌≡◌, refl, sym, ap, subst, ◌∙◌, inl, inr}
use Rattle.std.proofs.lemmas.Option.{none-some, same_Some}
use Rattle.std.proofs.lemmas.List.Elements.{Contains-append_cases}
use Rattle.c_syntax.specs.declared.token.Span.{Span}
use Rattle.c_syntax.specs.Expressions as e
use Rattle.c_syntax.specs.Expressions.{Ty}
use Rattle.c_syntax.specs.Ghosts as g
use Rattle.c_syntax.specs.Ghosts.{GStm, GStms}
use Rattle.c_syntax.specs.Statements as st
use Rattle.c_syntax.specs.Statements.{Stm, Stms}
use Rattle.c_syntax.specs.Items.{FunctionTree, Item}
use Rattle.object_types.specs.Sets.{every}
use Rattle.typing_spec.specs.Declarations.{structs, functions, fields}
use Rattle.typing_spec.specs.Contexts as texts
use Rattle.typing_spec.specs.Contexts.{Variable, Context, ghost, inside_atomic, inside_unwrapping}
use Rattle.typing_spec.specs.Types.{kind_of}
use Rattle.typing_spec.specs.Pieces as pieces
use Rattle.typing_spec.specs.Pieces.{Statement, GhostStatement, struct_name, expression, expressions, if_some, assignment, right, ghost_right, following, behind_ghost, in_function}
use Rattle.typing_spec.specs.First.{IsWellTyped}
use Rattle.typing_spec.specs.TypeLaws.{Where, Typed, Quiet, type_typed}
use Rattle.method.specs.declared.program.DeclaredType.{DeclaredType}
use Rattle.typed_program.specs.Trees.{FieldInfo, FunctionInfo, Program}
use Rattle.typed_program.specs.Numbers.{declared_type}
use Rattle.typed_program.specs.Variables.{parameter, variables, ghost_declared, ghosts_declared, declared, all_declared}
use Rattle.typed_program.specs.Tables.{variable, field, program}
use Rattle.typed_laws.proofs.Basics.{contained, contains_cases, contains_none, in_map, every_map, every_of}
use Rattle.typed_laws.proofs.Quiet.{quiet_left, quiet_right, quiet_rest}
use Rattle.typed_laws.proofs.Tests.{is_struct, struct_test, is_type}
use Rattle.typed_laws.proofs.Facts.{Tables}
use Rattle.typed_laws.proofs.Found.{number_by_name}
use Rattle.typed_laws.proofs.Entry.{fields_typed, value_typed, parameters_typed, ghost_parameters_typed, body_quiet, items_are}
use Rattle.typed_laws.proofs.Sides.{pointed}
use Rattle.typed_laws.proofs.BodyCalls.{kind_known}
use Rattle.typed_laws.proofs.TableLists.{mapped, from_flat}
use Rattle.typed_laws.proofs.StructTables.{rows_of}
use Rattle.typed_laws.proofs.FunctionTables.{functions_law, tables_law}
use Rattle.typed_laws.proofs.Goals.{FieldTypesLaw, VariableTypesLaw, ResultTypesLaw}

-- a type whose struct is declared is one of the program
type_known : (items : List Item) (p : Program) → Tables items p → (ty : Ty) → Typed items (kind_of items ty) → IsTrue (is_type p (declared_type items ty))
type_known items p all (e.Integer c) h = refl
type_known items p all (e.Pointer y) h =
    let k = kind_known items (e.Pointer y) h in
    let s = pointed items y k.0 k.1 in
    ap (is_struct p) (number_by_name items y s.0.name (sym s.2)) ∙ ap (struct_test (λ z. true)) (all.structs_at s.0 s.3).is
type_known items p all e.Object h = refl
type_known items p all e.Claim h = refl

-- ---- what a body declares

ghost_items : (c : Context) (s : GStm) → (behind_ghost c s).scope.items ≡ c.scope.items
ghost_items c (g.Declare p ty x r) = refl
ghost_items c _ = refl

statement_items : (c : Context) (s : Stm) → (following c s).scope.items ≡ c.scope.items
statement_items c (st.Declare p ty x r) = refl
statement_items c (st.Ghost p s) = ghost_items c s
statement_items c _ = refl

module _ (items : List Item) where
  one_declared : (v w : Variable) → Typed items (kind_of items v.ty) → Contains (v ∷ []) w → Typed items (kind_of items w.ty)
  one_declared v w h d = elim (contains_cases v w [] d) [ inl q ↦ subst (λ z. Typed items (kind_of items z.ty)) q h | inr q ↦ absurd (contains_none w q) ]

  mutual
    ghost_typed : (c : Context) → c.scope.items ≡ items → (s : GStm) → Quiet (pieces.in_ghost c s) → (v : Variable) → Contains (ghost_declared s) v → Typed items (kind_of items v.ty)
    ghost_typed c i (g.Block p ss) q v d = ghosts_typed c i ss q v d
    ghost_typed c i (g.Declare p ty x r) q v d =
        one_declared (record { name = x; ty = ty; is_ghost = true }) v (type_typed items ty (subst (λ z. Quiet (struct_name z ty)) i (quiet_left (struct_name c.scope.items ty) (if_some (ghost_right c) r) q))) d
    ghost_typed c i (g.If p x s) q v d = ghost_typed c i s (quiet_rest (GhostStatement c s) (pieces.in_ghost c s) (quiet_right (expression c x) (GhostStatement c s ∷ pieces.in_ghost c s) q)) v d
    ghost_typed c i (g.IfElse p x s u) q v d =
        let first = GhostStatement c s ∷ pieces.in_ghost c s in
        let second = GhostStatement c u ∷ pieces.in_ghost c u in
        let both = quiet_right (expression c x) (first ++ second) q in
        elim (Contains-append_cases (ghost_declared s) (ghost_declared u) v d) [
          | inl z ↦ ghost_typed c i s (quiet_rest (GhostStatement c s) (pieces.in_ghost c s) (quiet_left first second both)) v z
          | inr z ↦ ghost_typed c i u (quiet_rest (GhostStatement c u) (pieces.in_ghost c u) (quiet_right first second both)) v z
        ]
    ghost_typed c i _ q v d = absurd (contains_none v d)

    ghosts_typed : (c : Context) → c.scope.items ≡ items → (ss : GStms) → Quiet (pieces.in_ghosts c ss) → (v : Variable) → Contains (ghosts_declared ss) v → Typed items (kind_of items v.ty)
    ghosts_typed c i g.Empty q v d = absurd (contains_none v d)
    ghosts_typed c i (g.More s ss) q v d =
        let first = GhostStatement c s ∷ pieces.in_ghost c s in
        let rest = pieces.in_ghosts (behind_ghost c s) ss in
        elim (Contains-append_cases (ghost_declared s) (ghosts_declared ss) v d) [
          | inl z ↦ ghost_typed c i s (quiet_rest (GhostStatement c s) (pieces.in_ghost c s) (quiet_left first rest q)) v z
          | inr z ↦ ghosts_typed (behind_ghost c s) (ghost_items c s ∙ i) ss (quiet_right first rest q) v z
        ]

  mutual
    statement_typed : (c : Context) → c.scope.items ≡ items → (s : Stm) → Quiet (pieces.in_statement c s) → (v : Variable) → Contains (declared s) v → Typed items (kind_of items v.ty)
    statement_typed c i (st.Block p ss r) q v d = statements_typed c i ss q v d
    statement_typed c i (st.Declare p ty x r) q v d =
        one_declared (record { name = x; ty = ty; is_ghost = false }) v (type_typed items ty (subst (λ z. Quiet (struct_name z ty)) i (quiet_left (struct_name c.scope.items ty) (if_some (right c) r) q))) d
    statement_typed c i (st.If p x s) q v d = statement_typed c i s (quiet_rest (Statement c s) (pieces.in_statement c s) (quiet_right (expression c x) (Statement c s ∷ pieces.in_statement c s) q)) v d
    statement_typed c i (st.IfElse p x s u) q v d =
        let first = Statement c s ∷ pieces.in_statement c s in
        let second = Statement c u ∷ pieces.in_statement c u in
        let both = quiet_right (expression c x) (first ++ second) q in
        elim (Contains-append_cases (declared s) (declared u) v d) [
          | inl z ↦ statement_typed c i s (quiet_rest (Statement c s) (pieces.in_statement c s) (quiet_left first second both)) v z
          | inr z ↦ statement_typed c i u (quiet_rest (Statement c u) (pieces.in_statement c u) (quiet_right first second both)) v z
        ]
    statement_typed c i (st.While p x is s) q v d =
        let own = Statement c s ∷ pieces.in_statement c s in
        let said = pieces.invariants texts.LoopInvariant c is in
        statement_typed c i s (quiet_rest (Statement c s) (pieces.in_statement c s) (quiet_right said own (quiet_right (expression c x) (said ++ own) q))) v d
    statement_typed c i (st.Do p is s r x) q v d =
        let own = Statement c s ∷ pieces.in_statement c s in
        let said = pieces.invariants texts.LoopInvariant c is in
        statement_typed c i s (quiet_rest (Statement c s) (pieces.in_statement c s) (quiet_left own (expression c x) (quiet_right said (own ++ expression c x) q))) v d
    statement_typed c i (st.For p l x m is s) q v d =
        let own = Statement c s ∷ pieces.in_statement c s in
        let said = pieces.invariants texts.LoopInvariant c is in
        let start = if_some (assignment c) l in
        let step = if_some (assignment c) m in
        statement_typed c i s (quiet_rest (Statement c s) (pieces.in_statement c s) (quiet_right said own (quiet_right step (said ++ own) (quiet_right (expression c x) (step ++ (said ++ own)) (quiet_right start (expression c x ++ (step ++ (said ++ own))) q))))) v d
    statement_typed c i (st.Ghost p s) q v d = ghost_typed (ghost c) i s (quiet_rest (GhostStatement (ghost c) s) (pieces.in_ghost (ghost c) s) q) v d
    statement_typed c i (st.Unwrapping p x ss r) q v d = statements_typed (inside_unwrapping c) i ss (quiet_right (expression (ghost c) x) (pieces.in_statements (inside_unwrapping c) ss) q) v d
    statement_typed c i (st.Atomic p xs ss r) q v d = statements_typed (inside_atomic c) i ss (quiet_right (expressions (ghost c) xs) (pieces.in_statements (inside_atomic c) ss) q) v d
    statement_typed c i _ q v d = absurd (contains_none v d)

    statements_typed : (c : Context) → c.scope.items ≡ items → (ss : Stms) → Quiet (pieces.in_statements c ss) → (v : Variable) → Contains (all_declared ss) v → Typed items (kind_of items v.ty)
    statements_typed c i st.Empty q v d = absurd (contains_none v d)
    statements_typed c i (st.More s ss) q v d =
        let first = Statement c s ∷ pieces.in_statement c s in
        let rest = pieces.in_statements (following c s) ss in
        elim (Contains-append_cases (declared s) (all_declared ss) v d) [
          | inl z ↦ statement_typed c i s (quiet_rest (Statement c s) (pieces.in_statement c s) (quiet_left first rest q)) v z
          | inr z ↦ statements_typed (following c s) (statement_items c s ∙ i) ss (quiet_right first rest q) v z
        ]

-- ---- functions

module _ (items : List Item) (end : Span) (typed : IsWellTyped items end) (h : FunctionTree) (c : Contains (functions items) h) where
  variable_typed : (v : Variable) → Contains (variables h) v → Typed items (kind_of items v.ty)
  variable_typed v d =
      elim (Contains-append_cases (map (parameter false) h.parameters) (map (parameter true) h.ghost_parameters ++ all_declared h.body.all) v d) [
        | inl z ↦ let x = in_map (parameter false) h.parameters v z in subst (λ w. Typed items (kind_of items w.ty)) x.2 (parameters_typed items end typed h c x.0 x.1)
        | inr z ↦
            elim (Contains-append_cases (map (parameter true) h.ghost_parameters) (all_declared h.body.all) v z) [
              | inl y ↦ let x = in_map (parameter true) h.ghost_parameters v y in subst (λ w. Typed items (kind_of items w.ty)) x.2 (ghost_parameters_typed items end typed h c x.0 x.1)
              | inr y ↦ statements_typed items (in_function items h) (items_are items end typed h c) h.body.all (body_quiet items end typed h c) v y
            ]
      ]

pub variable_types_law : VariableTypesLaw
variable_types_law items end typed k info at_k =
    let of = functions_law items end typed k info at_k in
    let ok = λ (v : _). is_type (program items) v.ty in
    subst (λ z. IsTrue (every ok z.variables)) (sym of.is)
    (every_map ok (variable items) (variables of.tree) (every_of (λ v. ok (variable items v)) (variables of.tree) (λ v c. type_known items (program items) (tables_law items end typed) v.ty (variable_typed items end typed of.tree of.in_items v c))))

result_known : (items : List Item) (p : Program) → Tables items p → (o : Option Ty) → Where (λ ty. Typed items (kind_of items ty)) o → (ty : DeclaredType) → option_map (declared_type items) o ≡ Some ty → IsTrue (is_type p ty)
result_known items p all None h ty q = absurd (none-some ty q)
result_known items p all (Some z) h ty q = subst (λ w. IsTrue (is_type p w)) (same_Some (declared_type items z) ty q) (type_known items p all z h)

pub result_types_law : ResultTypesLaw
result_types_law items end typed k info ty at_k e =
    let of = functions_law items end typed k info at_k in
    result_known items (program items) (tables_law items end typed) of.tree.value (value_typed items end typed of.tree of.in_items) ty (sym (ap (λ (z : FunctionInfo). z.value) of.is) ∙ e)

-- ---- fields

pub field_types_law : FieldTypesLaw
field_types_law items end typed f x at_f =
    let q = from_flat (rows_of items) (structs items) f x at_f in
    let y = mapped (field items q.of) (fields q.of.members) q.inner x q.here in
    subst (λ (z : FieldInfo). IsTrue (is_type (program items) z.ty)) y.2
    (type_known items (program items) (tables_law items end typed) y.0.ty (fields_typed items end typed q.of y.0 (contained (structs items) q.index q.of q.there) (contained (fields q.of.members) q.inner y.0 y.1)))
