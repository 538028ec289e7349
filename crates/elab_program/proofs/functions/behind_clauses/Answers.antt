use Rattle.std.proofs.Common.{map, ap, ◌∙◌, ◌+◌, List, ℕ}
use Rattle.c_syntax.specs.declared.items.Clause.{Clause}
use Rattle.c_syntax.specs.Views as view
use Rattle.typed_program.specs.Tables as tables
use Rattle.elab_program.proofs.functions.behind_clauses.Goals as goal

pub returns : goal.returns
returns c =
    let n = c.args.before in
    ap (λ (k : ℕ). record { formulas = k; ended = n.ended; sites = n.sites })
    (c.in_ok-formulas.ensures ∙ ap (λ (xs : List Clause). n.formulas + tables.contract_formulas (map view.clause xs)) c.deref.ensures.value)
