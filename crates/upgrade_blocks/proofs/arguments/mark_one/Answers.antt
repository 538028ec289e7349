use Rattle.std.proofs.Common.{rules, arith, ◌≡◌, ◌≤◌, ◌++◌, ◌∷◌, [], Bool, ap, sym, ◌∙◌, length, slice_get}
use Rattle.upgrade_blocks.specs.Parameters.{seen}
use Rattle.upgrade_blocks.proofs.Counts.{marks_none, marks_one}
use Rattle.upgrade_blocks.proofs.arguments.mark_one.Goals as goal

pub returns-then-place-args : goal.returns-then-place-args
returns-then-place-args c =
    let e : length c.args.args.now ≤ length c.args.marks.now.items = search rules in
    marks_none c.args.columns.now (seen c.args.parameter) c.args.args.now c.args.marks.now.items e

pub returns : goal.returns
returns c =
    let place : c.len-place.result ≡ length c.args.marks.now.items = search rules in
    marks_one c.args.columns.now (seen c.args.parameter) c.args.args.now c.args.marks.now.items c.push.new.self.items c.mark_terms.new.marks.items c.follow-behind.result c.up_to-count.result c.number_at.result
    (ap (λ j. slice_get c.args.args.now j) (sym place) ∙ c.number_at.ensures) (λ l has. c.follow-behind.ensures l has) c.up_to-count.ensures.few (omega (arith, place, c.up_to-count.ensures.within)) (λ h. omega (arith, place, c.up_to-count.ensures.all h))
    (c.in_ok-push.ensures.items ∙ ap (λ (b : Bool). c.args.marks.now.items ++ b ∷ []) c.is_term.ensures) c.in_ok-mark_terms.ensures
