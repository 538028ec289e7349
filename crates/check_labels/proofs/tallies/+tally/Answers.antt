use Rattle.std.proofs.Common.{ap, ap₂, ◌∙◌, sym}
use Rattle.method.specs.Actions.{Tally, tally_plus, inner_tally, list_tally}
use Rattle.check_labels.proofs.Rows.{if_tally}
use Rattle.check_labels.proofs.tallies.+tally.Goals as goal

pub inner_tally-returns-in_ok-both-in-InsideIf : goal.inner_tally-returns-in_ok-both-in-InsideIf
inner_tally-returns-in_ok-both-in-InsideIf t c =
    let p = c.args.program.now in
    c.in_ok-both-in-InsideIf.ensures ∙ (ap₂ (λ (u v : Tally). tally_plus u v) (c.in_ok-one-in-InsideIf.ensures ∙ ap (list_tally p) c.deref.ensures.value) (c.in_ok-other-in-InsideIf.ensures ∙ ap (list_tally p) c.deref-in-InsideIf.ensures.value)
    ∙ sym (ap (inner_tally p) c.in-InsideIf.is ∙ if_tally p c.in-InsideIf.field-0 c.in-InsideIf.field-1 c.in-InsideIf.first c.in-InsideIf.second))
