use Rattle.std.proofs.Common.{ℕ, List, ◌≡◌, subst}
use Rattle.schedule_format.specs.Reading.{values_in}
use Rattle.schedule_format.proofs.Loops.{in_front, values_more, values_bad, values_done}
use Rattle.schedule_format.proofs.values.values.Goals as goal

pub returns-in_default-value : goal.returns-in_default-value
returns-in_default-value c =
    values_bad c.args.number c.loop-word.found.items c.in-Some.word.now c.next.new.self (values_in c.args.number c.args.words) c.in_default-value.ensures (subst (λ (ws : List (List ℕ)). in_front c.loop-word.found.items (values_in c.args.number ws) ≡ values_in c.args.number c.args.words) c.in-Some.ensures.some c.loop-word.invariant)

pub loop-word-preserved : goal.loop-word-preserved
loop-word-preserved c =
    rw c.in_ok-push.ensures.items (values_more c.args.number c.loop-word.found.items c.in-Some.word.now c.next.new.self c.in-Some-value.value (values_in c.args.number c.args.words) c.in-Some-value.ensures (subst (λ (ws : List (List ℕ)). in_front c.loop-word.found.items (values_in c.args.number ws) ≡ values_in c.args.number c.args.words) c.in-Some.ensures.some c.loop-word.invariant))

pub returns : goal.returns
returns c =
    values_done c.args.number c.loop-word.found.items (values_in c.args.number c.args.words) (subst (λ (ws : List (List ℕ)). in_front c.loop-word.found.items (values_in c.args.number ws) ≡ values_in c.args.number c.args.words) c.in_default.ensures.none c.loop-word.invariant)
