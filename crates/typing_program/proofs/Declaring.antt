-- The variables of functions as lists of trees hold them.
use Rattle.std.proofs.Common.{◌≡◌, refl, sym, ◌∙◌, ap, append_assoc, List, [], ◌∷◌, ◌++◌, map}
use Rattle.std.specs.Prelude.{flat_map}
use Rattle.c_syntax.specs.declared.items.Function.{Function}
use Rattle.c_syntax.specs.declared.items.Parameter.{Parameter}
use Rattle.c_syntax.specs.declared.statements.Stmt.{Stmt}
use Rattle.c_syntax.specs.Expressions.{Id}
use Rattle.c_syntax.specs.Ghosts.{GStm}
use Rattle.c_syntax.specs.Grammar.{ghosts_of, stms_of}
use Rattle.c_syntax.specs.Statements.{Stm}
use Rattle.c_syntax.specs.Views as view
use Rattle.typing_spec.specs.DeclaredVariables.{ghost_names, all_ghost_names, statement_names, all_statement_names, function_names, parameter_names}

pub all_ghosts : (ss : List GStm) → all_ghost_names (ghosts_of ss) ≡ flat_map ghost_names ss
all_ghosts [] = refl
all_ghosts (s ∷ ss) = ap (λ (ns : List Id). ghost_names s ++ ns) (all_ghosts ss)

pub all_statements : (ss : List Stm) → all_statement_names (stms_of ss) ≡ flat_map statement_names ss
all_statements [] = refl
all_statements (s ∷ ss) = ap (λ (ns : List Id). statement_names s ++ ns) (all_statements ss)

pub body_statements : (ss : List Stmt) → all_statement_names (view.stms ss) ≡ flat_map statement_names (map view.stm ss)
body_statements [] = refl
body_statements (s ∷ ss) = ap (λ (ns : List Id). statement_names (view.stm s) ++ ns) (body_statements ss)

-- what was added for a function, part by part
pub function_all : (x : Function) (start first second all : List Id) (ps gs : List Parameter) (ss : List Stmt) → start ≡ [] → ps ≡ x.parameters.items → first ≡ start ++ parameter_names (map view.parameter ps)
    → gs ≡ x.ghost_parameters.items → second ≡ first ++ parameter_names (map view.parameter gs) → ss ≡ x.body.items → all ≡ second ++ flat_map statement_names (map view.stm ss)
    → all ≡ function_names (view.function x)
function_all x start first second all ps gs ss none p h g k b l =
    let a = parameter_names (map view.parameter x.parameters.items) in
    let d = parameter_names (map view.parameter x.ghost_parameters.items) in
    let e = flat_map statement_names (map view.stm x.body.items) in
    let one : first ≡ a = h ∙ (ap (λ (ns : List Id). ns ++ parameter_names (map view.parameter ps)) none ∙ ap (λ (xs : List Parameter). parameter_names (map view.parameter xs)) p) in
    let two : second ≡ a ++ d = k ∙ (ap (λ (ns : List Id). ns ++ parameter_names (map view.parameter gs)) one ∙ ap (λ (xs : List Parameter). a ++ parameter_names (map view.parameter xs)) g) in
    l ∙ (ap (λ (ns : List Id). ns ++ flat_map statement_names (map view.stm ss)) two
    ∙ (ap (λ (xs : List Stmt). (a ++ d) ++ flat_map statement_names (map view.stm xs)) b
    ∙ (append_assoc a d e ∙ ap (λ (ns : List Id). a ++ (d ++ ns)) (sym (body_statements x.body.items)))))
