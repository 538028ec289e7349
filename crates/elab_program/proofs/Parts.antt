-- Functions out of their parts.
use Rattle.std.proofs.Common.{◌≡◌, ℕ, ◌+◌, refl, sym, ap, ◌∙◌, List, [], ◌∷◌, map, length, Option, Some, None, Bor}
use Rattle.std.specs.Option.{option_map}
use Rattle.c_syntax.specs.declared.statements.Stmt as trees
use Rattle.c_syntax.specs.declared.expressions.Identifier.{Identifier}
use Rattle.c_syntax.specs.Expressions.{Id, Ty}
use Rattle.elab_code.specs.Names.{texts}
use Rattle.c_syntax.specs.Grammar.{stms_of}
use Rattle.c_syntax.specs.Items.{FunctionTree, Item}
use Rattle.c_syntax.specs.Statements as st
use Rattle.c_syntax.specs.Statements.{Stms}
use Rattle.c_syntax.specs.Views as view
use Rattle.typing_spec.specs.Contexts.{Variable, Context}
use Rattle.elab_clauses.specs.Numberings.{Numbering}
use Rattle.elab_clauses.specs.Typing.{preconditions, postconditions, written}
use Rattle.method.specs.declared.program.DeclaredType.{DeclaredType}
use Rattle.method.specs.declared.program.Sort.{Sort}
use Rattle.elab_statements.specs.Settings.{at}
use Rattle.typed_program.specs.Numbers.{Around, declared_type}
use Rattle.typed_program.specs.Shapes.{Sorts, sort_of_type}
use Rattle.typed_program.specs.Statements.{Counters, plus_formulas, rows}
use Rattle.typed_program.specs.Tables as tables
use Rattle.typed_program.specs.Trees as t
use Rattle.typed_program.specs.Variables.{variables}
use Rattle.typing_statements.proofs.Items.{function_context}
use Rattle.typing_statements.specs.Views.{Fixed}
use Rattle.elab_program.specs.Functions.{function_fixed, function_known, function, variable_sort, function_of, numbered}

pub stms_are : (xs : List trees.Stmt) → stms_of (map view.stm xs) ≡ view.stms xs
stms_are [] = refl
stms_are (x ∷ xs) = ap (λ (ss : Stms). st.More (view.stm x) ss) (stms_are xs)

-- ---- names

seen_texts : (ns : List (Bor Identifier)) → texts ns ≡ map (λ (x : Id). x.name) (map (λ n. view.id n.now) ns)
seen_texts [] = refl
seen_texts (n ∷ ns) = ap (λ (xs : List (List ℕ)). n.now.name.items ∷ xs) (seen_texts ns)

names_mapped : (vs : List Variable) → map (λ (x : Id). x.name) (map (λ v. v.name) vs) ≡ map (λ v. v.name.name) vs
names_mapped [] = refl
names_mapped (v ∷ vs) = ap (λ (xs : List (List ℕ)). v.name.name ∷ xs) (names_mapped vs)

-- the texts of variables' names
pub texts_are : (ns all : List (Bor Identifier)) (vs : List Variable) → ns ≡ all → map (λ n. view.id n.now) all ≡ map (λ v. v.name) vs → texts ns ≡ map (λ v. v.name.name) vs
texts_are ns all vs e h = ap texts e ∙ (seen_texts all ∙ (ap (map (λ (x : Id). x.name)) h ∙ names_mapped vs))

-- ---- a function out of its parts

-- what stands around a function's contract and body
pub function_around : (items : List Item) (h : FunctionTree) {f : Fixed} {vs : List Variable} {names : List (List ℕ)} → f ≡ function_fixed items h → vs ≡ function_known h → names ≡ map (λ v. v.name.name) (variables h)
    → at (record { fixed = f; names = names }) vs ≡ tables.around_function items h
function_around items h p q r = (λ i. at (record { fixed = p i; names = r i }) (q i)) ∙ ap (λ (c : Context). record { context = c; names = map (λ v. v.name.name) (variables h); bound = 0 }) (sym (function_context items h))

-- a function out of its parts
pub function_told : (k : Numbering) (items : List Item) (h : FunctionTree) (n : Counters) (a : Around) {text : List ℕ} {value : Option DeclaredType} {count : ℕ} {table : List t.VariableInfo} {required ensured : List t.Clause} {writes : List t.Spec} {body : t.Stmts}
    → a ≡ tables.around_function items h → text ≡ h.name.name → value ≡ option_map (declared_type items) h.value → count ≡ length h.parameters + length h.ghost_parameters → table ≡ map (tables.variable items) (variables h)
    → required ≡ preconditions k a n.formulas h.contract → ensured ≡ postconditions k a n.formulas h.contract → writes ≡ written k a n.formulas h.contract
    → body ≡ tables.numbered_row k.shapes k.sorts (rows a (plus_formulas n (tables.contract_formulas h.contract)) h.body.all)
    → function_of h text value count table required ensured writes body ≡ numbered k (tables.function items n h)
function_told k items h n a e p q r s u v w b = λ i.
    function_of h (p i) (q i) (r i) (s i) ((u ∙ ap (λ (z : Around). preconditions k z n.formulas h.contract) e) i) ((v ∙ ap (λ (z : Around). postconditions k z n.formulas h.contract) e) i) ((w ∙ ap (λ (z : Around). written k z n.formulas h.contract) e) i)
    ((b ∙ ap (λ (z : Around). tables.numbered_row k.shapes k.sorts (rows z (plus_formulas n (tables.contract_formulas h.contract)) h.body.all)) e) i)

-- ---- sorts

sorts_mapped : (items : List Item) (vs : List Variable) → map (λ v. sort_of_type v.ty) (map (tables.variable items) vs) ≡ map (variable_sort items) vs
sorts_mapped items [] = refl
sorts_mapped items (v ∷ vs) = ap (λ (ss : List Sort). variable_sort items v ∷ ss) (sorts_mapped items vs)

sort_of_value : (items : List Item) (f : t.FunctionInfo) (o : Option Ty) → (tables.sorts_of (record f { value = option_map (declared_type items) o })).value ≡ tables.value_sort items o
sort_of_value items f None = refl
sort_of_value items f (Some ty) = refl

pub same_sorts : (items : List Item) (n : Counters) (h : FunctionTree) → tables.sorts_of (tables.function items n h) ≡ tables.function_sorts items h
same_sorts items n h = λ i. record { variables = sorts_mapped items (variables h) i; value = sort_of_value items (tables.function items n h) h.value i }

-- the sorts that a function's numbers are told with are its own
pub own_sorts : (shapes : List t.Shape) {sorts : Sorts} {others : List Item} (items : List Item) (n : Counters) (h : FunctionTree) → sorts ≡ tables.function_sorts items h → others ≡ items
    → numbered (record { shapes = shapes; sorts = sorts }) (tables.function others n h) ≡ function items shapes n h
own_sorts shapes items n h p q =
    (λ i. numbered (record { shapes = shapes; sorts = (p ∙ sym (same_sorts items n h)) i }) (tables.function (q i) n h))
