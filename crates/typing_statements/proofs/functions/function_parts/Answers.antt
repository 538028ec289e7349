use Rattle.std.proofs.Common.{◌≡◌, refl, sym, ap, ◌∙◌, List, [], ◌∷◌, map, Option, Some, None, true, false, Bor}
use Rattle.std.specs.Prelude.{flat_map}
use Rattle.std.specs.Option.{option_map, option_copied}
use Rattle.c_syntax.specs.declared.expressions.ValueType.{ValueType}
use Rattle.c_syntax.specs.declared.items.Parameter.{Parameter}
use Rattle.c_syntax.specs.declared.items.Clause.{Clause}
use Rattle.c_syntax.specs.declared.statements.Stmt.{Stmt}
use Rattle.c_syntax.specs.Expressions.{Ty}
use Rattle.c_syntax.specs.Grammar.{stms_of}
use Rattle.c_syntax.specs.Statements as st
use Rattle.c_syntax.specs.Statements.{Stms}
use Rattle.c_syntax.specs.Views as view
use Rattle.typing_spec.specs.Contexts.{Context}
use Rattle.typing_spec.specs.Pieces.{clause, types_of, in_function, in_statements}
use Rattle.typing_symbols.specs.Scopes.{known}
use Rattle.typing_symbols.specs.Whole.{program}
use Rattle.typing_expressions.specs.Violations.{Violations, violations, joined}
use Rattle.typing_statements.specs.Parts.{with_parameters, body_of}
use Rattle.typing_statements.specs.Views.{within}
use Rattle.typing_statements.proofs.Items.{function_context, function_found}
use Rattle.typing_statements.proofs.functions.function_parts.Goals as goal

joins : {f f2 k k2 : Violations} → f ≡ f2 → k ≡ k2 → joined f k ≡ joined f2 k2
joins p q = λ i. joined (p i) (q i)

pub returns : goal.returns
returns c =
    let items = program c.args.declarations.now in
    let h = view.function c.args.x.now in
    let value_is : option_map (λ t. view.ty t.now) c.as_ref.result ≡ h.value = fused c.as_ref.result ∙ ap (option_map view.ty) c.as_ref.ensures.value in
    let concrete = c.in_ok-know_parameters.ensures ∙ (ap (λ (xs : List Parameter). with_parameters false (map view.parameter xs) (known c.new-variables.result)) c.deref.ensures.value ∙ ap (with_parameters false h.parameters) c.new-variables.ensures) in
    let all = c.in_ok-know_parameters-2.ensures ∙ (ap (λ (xs : List Parameter). with_parameters true (map view.parameter xs) (known c.know_parameters.new.variables)) c.deref-2.ensures.value ∙ ap (with_parameters true h.ghost_parameters) concrete) in
    let around : within (body_of items (option_map (λ t. view.ty t.now) c.as_ref.result)) (known c.know_parameters-2.new.variables) ≡ in_function items h =
    ap (λ (o : Option Ty). within (body_of items o) (known c.know_parameters-2.new.variables)) value_is ∙ (ap (within (body_of items h.value)) all ∙ sym (function_context items h)) in
    let clauses = c.contract-clauses.ensures
    ∙ (ap (λ (w : Context). violations (flat_map (clause w) (map view.clause c.deref-3.result.now))) (c.context.ensures ∙ around)
    ∙ ap (λ (xs : List Clause). violations (flat_map (clause (in_function items h)) (map view.clause xs))) c.deref-3.ensures.value) in
    let body = c.in_ok-body.ensures.violations
    ∙ (ap (λ (w : Context). violations (in_statements w (stms_of (map view.stm c.deref-4.result.now)))) around
    ∙ ap (λ (xs : List Stmt). violations (in_statements (in_function items h) (stms_of (map view.stm xs)))) c.deref-4.ensures.value) ∙ ap (λ (ss : Stms). violations (in_statements (in_function items h) ss)) (stms_are c.args.x.now.body.items) in
    let first = c.parameter_types-concrete.ensures ∙ ap (λ (xs : List Parameter). violations (types_of items (map view.parameter xs))) c.deref-5.ensures.value in
    let second = c.parameter_types-ghosts.ensures ∙ ap (λ (xs : List Parameter). violations (types_of items (map view.parameter xs))) c.deref-6.ensures.value in
    c.then-4.ensures ∙ (joins c.value_type-value.ensures (c.then-3.ensures ∙ joins first (c.then-2.ensures ∙ joins second (c.then.ensures ∙ joins clauses body))) ∙ sym (function_found items h))
  where
    fused : (o : Option (Bor ValueType)) → option_map (λ t. view.ty t.now) o ≡ option_map view.ty (option_copied o)
    fused None = refl
    fused (Some x) = refl

    stms_are : (xs : List Stmt) → stms_of (map view.stm xs) ≡ view.stms xs
    stms_are [] = refl
    stms_are (x ∷ xs) = ap (λ (ss : Stms). st.More (view.stm x) ss) (stms_are xs)
