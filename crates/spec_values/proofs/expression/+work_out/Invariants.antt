use Rattle.std.proofs.Common.{◌≡◌, drop}
use Rattle.object_types.specs.Sets.{every, is_in}
use Rattle.spec_values.specs.Scenes.{scene_at}
use Rattle.spec_values.specs.Quantified.{is_met, met_overflow, list_referents}
use Rattle.spec_values.proofs.Deciding.{HeldTo, EachTo, SomeTo}
use Rattle.spec_values.proofs.Objects.{AllTo, OneTo}
use Rattle.spec_values.proofs.expression.+work_out.Given as goal

abbrev pub invariant-all_hold-loop-conjunct : goal.invariant-all_hold-loop-conjunct
invariant-all_hold-loop-conjunct l = HeldTo l.at.program.now (scene_at l.at) l.conjuncts l.conjunct-index

abbrev pub invariant-for_all-loop-member : goal.invariant-for_all-loop-member
invariant-for_all-loop-member l = EachTo l.at.program.now l.ty l.body (scene_at l.at) l.members l.member-index

abbrev pub invariant-exists-loop-member : goal.invariant-exists-loop-member
invariant-exists-loop-member l = SomeTo (is_met l.at.program.now l.ty l.conjuncts (scene_at l.at)) (met_overflow l.at.program.now l.ty l.conjuncts (scene_at l.at)) l.members l.member-index

abbrev pub invariant-all_listed-loop-object : goal.invariant-all_listed-loop-object
invariant-all_listed-loop-object l = AllTo l.at.program.now (scene_at l.at) l.set l.objects l.object-index l.all

abbrev pub invariant-is_object-loop-object : goal.invariant-is_object-loop-object
invariant-is_object-loop-object l = OneTo l.at.program.now (scene_at l.at) l.member l.objects l.object-index

abbrev pub invariant-no_others-loop-member : goal.invariant-no_others-loop-member
invariant-no_others-loop-member l =
    every (λ o. is_in o (list_referents l.at.program.now l.objects (scene_at l.at))) (drop l.member-index l.set)
    ≡ every (λ o. is_in o (list_referents l.at.program.now l.objects (scene_at l.at))) l.set
