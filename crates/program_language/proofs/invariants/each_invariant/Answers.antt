use Rattle.std.proofs.Common.{sym, subst}
use Rattle.method.specs.declared.program.StructInfo.{StructInfo}
use Rattle.condition_meaning.specs.Languages.{struct_scene, invariant_formula}
use Rattle.annotation_scenes.specs.Scenes.{IsScene}
use Rattle.annotation_scenes.proofs.Scenes.{scene_later}
use Rattle.condition_annotations.proofs.Mapped.{Mapped, mapped_first, mapped_next, mapped_last}
use Rattle.program_language.proofs.invariants.each_invariant.Goals as goal

pub loop-info-init : goal.loop-info-init
loop-info-init c =
    subst (λ ids. Mapped (λ (s : Unit {0}). IsScene c.args.graph.now c.args.scene.now struct_scene) (λ (s : Unit {0}) (x : StructInfo). invariant_formula c.args.program.now x) c.args.graph.now c.args.graph.now c.args.structs.now ids 0) (sym c.new-all.ensures.items)
    (mapped_first (λ (s : Unit {0}). IsScene c.args.graph.now c.args.scene.now struct_scene) (λ (s : Unit {0}) (x : StructInfo). invariant_formula c.args.program.now x) c.args.graph.now c.args.structs.now)

pub loop-info-preserved : goal.loop-info-preserved
loop-info-preserved c =
    mapped_next (λ (s : Unit {0}). IsScene c.args.graph.now c.args.scene.now struct_scene) (λ (s : Unit {0}) (x : StructInfo). invariant_formula c.args.program.now x) c.args.graph.now c.loop-info.graph c.invariant_formula.new.graph c.args.structs.now c.loop-info.all.items c.push.new.self.items c.loop-info.info-index c.in_ok-id.id c.info-item.result c.info-item.result c.loop-info.invariant c.loop-info-test.true c.info-item.is c.in_ok-id.ensures.later
    (λ s known. c.in_ok-id.ensures.stands (scene_later c.loop-info.invariant.later known)) c.in_ok-push.ensures.items

pub returns-clause-stands : goal.returns-clause-stands
returns-clause-stands c = λ h. mapped_last c.loop-info.invariant c.loop-info-test.false tt h
