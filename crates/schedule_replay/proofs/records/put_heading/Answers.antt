use Rattle.schedule_replay.proofs.Texts.{heading_is, writes_is, front_is}
use Rattle.object_types.specs.Lookups.{heap_of}
use Rattle.schedule_replay.proofs.records.put_heading.Goals as goal

pub returns-clause-ok : goal.returns-clause-ok
returns-clause-ok g c = writes_is c.put_line.result _ _ _ _ (heading_is (heap_of c.args.h.now) c.args.o c.mode_name.result.now c.view-view.result.mode c.view-view.result.owner _ c.mode_name.ensures c.view-view.ensures.mode c.view-view.ensures.owner c.count_piece.ensures) c.put_line.ensures.ok

pub returns-clause-err : goal.returns-clause-err
returns-clause-err g c = front_is c.put_line.result _ _ _ _ (heading_is (heap_of c.args.h.now) c.args.o c.mode_name.result.now c.view-view.result.mode c.view-view.result.owner _ c.mode_name.ensures c.view-view.ensures.mode c.view-view.ensures.owner c.count_piece.ensures) c.put_line.ensures.err
