use Rattle.std.proofs.Common.{[], ◌∷◌, ◌++◌, ap, ◌∙◌}
use Rattle.machine_turns.specs.Frames.{bare_frame, frames_of}
use Rattle.ref_machine.proofs.step.new_thread.Goals as goal

pub returns-clause-ok : goal.returns-clause-ok
returns-clause-ok c =
    let x = c.args.context in
    let frame = c.in_ok-frame.frame in
    let one = ap frames_of (c.in_ok-push.ensures.items ∙ ap (λ z. z ++ frame ∷ []) c.new-frames.ensures.items) in
    λ i. record { number = x.me.serial; frames = (one ∙ ap (λ b. bare_frame b ∷ []) (c.in_ok-frame.ensures.ok [])) i }
