-- What trees declare, statement by statement.
use Rattle.std.proofs.Common.{◌≡◌, refl, sym, ◌∙◌, ap, append_assoc, List, [], ◌∷◌, ◌++◌, map, true, false}
use Rattle.std.specs.Prelude.{flat_map}
use Rattle.c_syntax.specs.declared.items.Function.{Function}
use Rattle.c_syntax.specs.declared.items.Parameter.{Parameter}
use Rattle.c_syntax.specs.declared.statements.Stmt.{Stmt}
use Rattle.c_syntax.specs.Ghosts.{GStm}
use Rattle.c_syntax.specs.Grammar.{ghosts_of, stms_of}
use Rattle.c_syntax.specs.Statements.{Stm}
use Rattle.c_syntax.specs.Views as view
use Rattle.typing_spec.specs.Contexts.{Variable}
use Rattle.typed_program.specs.Variables.{ghost_declared, ghosts_declared, declared, all_declared, parameter, variables}

pub all_ghosts : (ss : List GStm) → ghosts_declared (ghosts_of ss) ≡ flat_map ghost_declared ss
all_ghosts [] = refl
all_ghosts (s ∷ ss) = ap (λ (vs : List Variable). ghost_declared s ++ vs) (all_ghosts ss)

pub all_statements : (ss : List Stm) → all_declared (stms_of ss) ≡ flat_map declared ss
all_statements [] = refl
all_statements (s ∷ ss) = ap (λ (vs : List Variable). declared s ++ vs) (all_statements ss)

body_statements : (ss : List Stmt) → all_declared (view.stms ss) ≡ flat_map declared (map view.stm ss)
body_statements [] = refl
body_statements (s ∷ ss) = ap (λ (vs : List Variable). declared (view.stm s) ++ vs) (body_statements ss)

-- what was added for a function, part by part
pub function_all : (x : Function) (start first second all : List Variable) (ps gs : List Parameter) (ss : List Stmt) → start ≡ [] → ps ≡ x.parameters.items → first ≡ start ++ map (parameter false) (map view.parameter ps)
    → gs ≡ x.ghost_parameters.items → second ≡ first ++ map (parameter true) (map view.parameter gs) → ss ≡ x.body.items → all ≡ second ++ flat_map declared (map view.stm ss)
    → all ≡ variables (view.function x)
function_all x start first second all ps gs ss none p h g k b l =
    let a = map (parameter false) (map view.parameter x.parameters.items) in
    let d = map (parameter true) (map view.parameter x.ghost_parameters.items) in
    let e = flat_map declared (map view.stm x.body.items) in
    let one : first ≡ a = h ∙ (ap (λ (vs : List Variable). vs ++ map (parameter false) (map view.parameter ps)) none ∙ ap (λ (xs : List Parameter). map (parameter false) (map view.parameter xs)) p) in
    let two : second ≡ a ++ d = k ∙ (ap (λ (vs : List Variable). vs ++ map (parameter true) (map view.parameter gs)) one ∙ ap (λ (xs : List Parameter). a ++ map (parameter true) (map view.parameter xs)) g) in
    l ∙ (ap (λ (vs : List Variable). vs ++ flat_map declared (map view.stm ss)) two
    ∙ (ap (λ (xs : List Stmt). (a ++ d) ++ flat_map declared (map view.stm xs)) b
    ∙ (append_assoc a d e ∙ ap (λ (vs : List Variable). a ++ (d ++ vs)) (sym (body_statements x.body.items)))))
