use Rattle.std.proofs.Common.{refl}
use Rattle.rule_instances.proofs.Passing.{walked, ok_walked, ok_read, ok_made, ok_made_over, check_walked}
use Rattle.rule_instances.proofs.walk.State.apply.Goals as goal

pub returns-in-Take-clause-went : goal.returns-in-Take-clause-went
returns-in-Take-clause-went c = ok_read c.args.block.now c.args.graph.now _ _ _ _ c.take.result c.in-Take.is c.take.ensures

pub returns-in-TakeAny-clause-went : goal.returns-in-TakeAny-clause-went
returns-in-TakeAny-clause-went c = ok_read c.args.block.now c.args.graph.now _ _ _ _ c.take_any.result c.in-TakeAny.is c.take_any.ensures

pub returns-in-TakeWrites-clause-went : goal.returns-in-TakeWrites-clause-went
returns-in-TakeWrites-clause-went c = ok_read c.args.block.now c.args.graph.now _ _ _ _ c.take_writes.result c.in-TakeWrites.is c.take_writes.ensures

pub returns-in-TakeColumn-clause-went : goal.returns-in-TakeColumn-clause-went
returns-in-TakeColumn-clause-went c = ok_read c.args.block.now c.args.graph.now _ _ _ _ c.take_column.result c.in-TakeColumn.is c.take_column.ensures

pub returns-in-TakeQuantified-clause-went : goal.returns-in-TakeQuantified-clause-went
returns-in-TakeQuantified-clause-went c = ok_read c.args.block.now c.args.graph.now _ _ _ _ c.take_quantified.result c.in-TakeQuantified.is c.take_quantified.ensures

pub returns-in-TakeType-clause-went : goal.returns-in-TakeType-clause-went
returns-in-TakeType-clause-went c = walked c.args.block.now c.args.graph.now _ _ _ _ _ _ c.in-TakeType.is (c.take_type.ensures c.args.block.now c.args.graph.now)

pub returns-in-TakeFieldType-clause-went : goal.returns-in-TakeFieldType-clause-went
returns-in-TakeFieldType-clause-went c = walked c.args.block.now c.args.graph.now _ _ _ _ _ _ c.in-TakeFieldType.is (c.take_field_type.ensures c.args.numbers.now c.args.graph.now)

pub returns-in-TakeInvariant-clause-went : goal.returns-in-TakeInvariant-clause-went
returns-in-TakeInvariant-clause-went c = walked c.args.block.now c.args.graph.now _ _ _ _ _ _ c.in-TakeInvariant.is (c.take_invariant.ensures c.args.numbers.now c.args.graph.now)

pub returns-in-TakeConjunct-clause-went : goal.returns-in-TakeConjunct-clause-went
returns-in-TakeConjunct-clause-went c = walked c.args.block.now c.args.graph.now _ _ _ _ _ _ c.in-TakeConjunct.is (c.take_conjunct.ensures c.args.numbers.now c.args.graph.now)

pub returns-in-TakeChange-clause-went : goal.returns-in-TakeChange-clause-went
returns-in-TakeChange-clause-went c = ok_walked c.args.block.now c.args.graph.now _ _ _ _ _ c.take_change.result c.in-TakeChange.is c.take_change.ensures.went

pub returns-in-Check-clause-went : goal.returns-in-Check-clause-went
returns-in-Check-clause-went c = check_walked _ c.in-Check.is refl c.passes.ensures

pub returns-in-Term-clause-went : goal.returns-in-Term-clause-went
returns-in-Term-clause-went c = ok_made_over c.args.block.now c.args.graph.now _ _ c.args.numbers.now c.repeat.result c.in-Term.is c.repeat.ensures

pub returns-in-Build-clause-went : goal.returns-in-Build-clause-went
returns-in-Build-clause-went c = ok_made c.args.block.now c.args.graph.now _ _ _ c.args.numbers.now c.build.result c.in-Build.is c.build.ensures.went

pub returns-in-NotWritten-clause-went : goal.returns-in-NotWritten-clause-went
returns-in-NotWritten-clause-went c = ok_made c.args.block.now c.args.graph.now _ _ _ c.args.numbers.now c.not_written.result c.in-NotWritten.is c.not_written.ensures.went

pub returns-in-InRange-clause-went : goal.returns-in-InRange-clause-went
returns-in-InRange-clause-went c = ok_made c.args.block.now c.args.graph.now _ _ _ c.args.numbers.now c.in_range.result c.in-InRange.is c.in_range.ensures.went

pub returns-in-Fill-clause-went : goal.returns-in-Fill-clause-went
returns-in-Fill-clause-went c = ok_made c.args.block.now c.args.graph.now _ _ _ c.args.numbers.now c.fill.result c.in-Fill.is c.fill.ensures.went

pub returns-in-FillBehind-clause-went : goal.returns-in-FillBehind-clause-went
returns-in-FillBehind-clause-went c = ok_made c.args.block.now c.args.graph.now _ _ _ c.args.numbers.now c.fill_behind.result c.in-FillBehind.is c.fill_behind.ensures.went
