use Rattle.std.specs.Prelude.{Bool, false, true, ◌&&◌, ◌≡◌}
use Rattle.std.proofs.Common.{ap, sym, ◌∙◌}
use Rattle.condition_formulas.proofs.Rows.{none, same_ids}
use Rattle.method.specs.Tables.{is_volatile}
use Rattle.condition_stores.proofs.stores.may_change.Goals as goal

pub returns-then-changes_inside-clause-stands : goal.returns-then-changes_inside-clause-stands
returns-then-changes_inside-clause-stands c = λ b x h hb hx hh.
    let inside : (b.inside && is_volatile c.args.a.now.program.now c.args.field) ≡ true = ap (λ (i : Bool). i && is_volatile c.args.a.now.program.now c.args.field) (sym hb.inside_is) ∙ sym c.changes_inside.ensures ∙ c.if-changes_inside.true in
    rw inside (c.listed_change.ensures.stands b x h hb hx hh)

pub returns-clause-stands : goal.returns-clause-stands
returns-clause-stands c = λ b x h hb hx hh.
    let outside : (b.inside && is_volatile c.args.a.now.program.now c.args.field) ≡ false = ap (λ (i : Bool). i && is_volatile c.args.a.now.program.now c.args.field) (sym hb.inside_is) ∙ sym c.changes_inside.ensures ∙ c.if-changes_inside.false in
    rw outside (same_ids c.new.ensures.items none)
