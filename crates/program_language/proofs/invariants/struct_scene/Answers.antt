use Rattle.program_language.proofs.invariants.struct_scene.Goals as goal

pub returns-clause-stands : goal.returns-clause-stands
returns-clause-stands c =
    let before = c.in_ok-after.ensures.later _ _ c.in_ok-before.ensures.stands in
    let object = c.in_ok-after.ensures.later _ _ (c.in_ok-before.ensures.later _ _ c.in_ok-object.ensures.stands) in
    c.inv_scene.ensures.stands _ _ _ object before c.in_ok-after.ensures.stands
