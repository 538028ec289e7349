use Rattle.method.specs.declared.program.StructInfo.{StructInfo}
use Rattle.conditions.specs.Quantified.{specs_quantifiers, struct_words}
use Rattle.program_quantifiers.proofs.Adding.{row_first, row_next, row_last}
use Rattle.program_quantifiers.proofs.functions.add_structs.Goals as goal

pub loop-info-init : goal.loop-info-init
loop-info-init c = row_first (λ (s : Unit {0}). Unit {0}) (λ (s : Unit {0}) (x : StructInfo). specs_quantifiers c.args.program.now x.invariants.items struct_words) c.args.list.now c.args.structs.now

pub loop-info-preserved : goal.loop-info-preserved
loop-info-preserved c =
    row_next (λ (s : Unit {0}). Unit {0}) (λ (s : Unit {0}) (x : StructInfo). specs_quantifiers c.args.program.now x.invariants.items struct_words) c.args.list.now c.loop-info.list _ c.args.structs.now c.loop-info.info-index c.info-item.result c.info-item.result c.loop-info.invariant c.loop-info-test.true c.info-item.is (λ s known later. c.in_ok-add_struct.ensures)

pub returns : goal.returns
returns c = row_last c.loop-info.invariant c.loop-info-test.false tt tt
