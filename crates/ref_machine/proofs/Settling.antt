-- A turn's change, put into the functions of a thread.
use Rattle.std.proofs.Common.{◌≡◌, List, [], ◌∷◌, ◌++◌, map, Option, Some, Vec, Global, ap, sym, subst, ◌∙◌}
use Rattle.object_types.specs.declared.references.Ref.{Ref}
use Rattle.object_types.specs.declared.values.Value.{Value}
use Rattle.method.specs.Machine as m
use Rattle.machine_turns.specs.declared.activation.Activation.{Activation}
use Rattle.machine_turns.specs.declared.activation.Remaining.{Remaining}
use Rattle.machine_turns.specs.declared.turn.Frames.TheVariants.{Calls, Returns}
use Rattle.machine_turns.specs.Frames.{ahead, bare_frame, frame_at, frame_of}
use Rattle.machine_turns.specs.Turns.{AreFrames, behind, put_onto, stored_in}
use Rattle.machine_turns.proofs.Frames.{on_top, frames_more}
use Rattle.ref_machine.specs.Settling.{Changed, Settled}

-- a call
module _ (front : List Activation) (frame frame' entered : Activation) (r : Option Remaining) (turned : frame_of frame' ≡ m.went (frame_of frame) frame.locals.items (put_onto r (behind (ahead frame.code.items)))) where
  called_over : (x : List Ref) (rest gs : List m.Activation) → AreFrames rest front → Changed (Calls r entered) (frame_at x frame ∷ rest) gs → AreFrames gs ((front ++ frame' ∷ []) ++ entered ∷ [])
  called_over x rest gs are ch =
      ap (map bare_frame) ch.1 ∙ (λ i. frame_of entered ∷ sym turned i ∷ are i)
      ∙ sym (frames_more (front ++ frame' ∷ []) entered ∙ ap (λ z. frame_of entered ∷ z) (frames_more front frame'))

  pub settled_call : (old new : List Activation) → old ≡ front ++ frame ∷ [] → new ≡ (front ++ frame' ∷ []) ++ entered ∷ [] → Settled (Calls r entered) old new
  settled_call old new eo en fs gs are ch =
      let top = on_top fs old front frame are eo in
      subst (AreFrames gs) (sym en) (called_over top.list top.rest gs top.below (subst (λ bs. Changed (Calls r entered) bs gs) top.is ch))

-- a return whose value is stored
module _ (front : List Activation) (caller caller' ended : Activation) (l : Vec Value Global) (turned : frame_of caller' ≡ m.went (frame_of caller) l.items (behind (ahead caller.code.items))) where
  stored_over : (x : List Ref) (rest gs : List m.Activation) → AreFrames rest front → stored_in l.items (frame_at x caller ∷ rest) gs → AreFrames gs (front ++ caller' ∷ [])
  stored_over x rest gs are ch = ap (map bare_frame) ch ∙ (λ i. sym turned i ∷ are i) ∙ sym (frames_more front caller')

  pub settled_return : (old mid new : List Activation) → old ≡ mid ++ ended ∷ [] → mid ≡ front ++ caller ∷ [] → new ≡ front ++ caller' ∷ [] → Settled (Returns (Some l)) old new
  settled_return old mid new eo em en fs gs are ch =
      let top = on_top fs old mid ended are eo in
      let low = on_top top.rest mid front caller top.below em in
      let here : stored_in l.items top.rest gs = subst (λ bs. Changed (Returns (Some l)) bs gs) top.is ch in
      subst (AreFrames gs) (sym en) (stored_over low.list low.rest gs low.below (subst (λ bs. stored_in l.items bs gs) low.is here))
