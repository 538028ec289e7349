use Rattle.std.proofs.Common.{ap, ◌∙◌, map, List}
use Rattle.std.specs.Prelude.{flat_map}
use Rattle.c_syntax.specs.declared.items.Clause.{Clause}
use Rattle.c_syntax.specs.declared.statements.Stmt as trees
use Rattle.c_syntax.specs.Grammar.{stms_of}
use Rattle.c_syntax.specs.Statements.{Stms}
use Rattle.c_syntax.specs.Views as view
use Rattle.typing_symbols.specs.Scopes.{known}
use Rattle.elab_statements.specs.Settings.{setting as set, at}
use Rattle.typed_program.specs.Numbers.{Around}
use Rattle.typed_program.specs.Sites.{all_occurrences}
use Rattle.typed_program.specs.Tables as tables
use Rattle.elab_program.proofs.Parts.{stms_are}
use Rattle.elab_program.proofs.Walks.{both_added}
use Rattle.elab_program.proofs.occurrences.function_adds.Goals as goal

pub returns : goal.returns
returns c =
    let a = at (set c.args.setting) (known c.args.scope.now) in
    let f = c.args.number in
    both_added _ _ _ _ _ (flat_map (tables.clause_occurrences a) (view.function c.args.x.now).contract) (all_occurrences a f (view.function c.args.x.now).body.all)
    c.in_ok-contract_occurrences.ensures
    (ap (λ (z : Around). flat_map (tables.clause_occurrences z) (map view.clause c.deref.result.now)) c.around-around.ensures ∙ ap (λ (xs : List Clause). flat_map (tables.clause_occurrences a) (map view.clause xs)) c.deref.ensures.value)
    c.in_ok-all_occurrences.ensures.occurrence
    (ap (λ (xs : List trees.Stmt). all_occurrences a f (stms_of (map view.stm xs))) c.deref-2.ensures.value ∙ ap (λ (ss : Stms). all_occurrences a f ss) (stms_are c.args.x.now.body.items))
