use Rattle.condition_meaning.specs.Languages.{language_of}
use Rattle.vcc_judge.proofs.Shown.{fresh_sorts, room_ready, room_unready}
use Rattle.vcc_judge.proofs.room.Room.new.Goals as goal

pub check_lemmas-requires : goal.check_lemmas-requires
check_lemmas-requires c =
    let l = language_of c.args.theory.program.now in
    record { theory = record { language = l; is = c.requires; sorts = fresh_sorts l c.new-space.result c.new-space.ensures.sorts } }

pub returns-in-Ok : goal.returns-in-Ok
returns-in-Ok c =
    let l = language_of c.args.theory.program.now in
    let fresh = fresh_sorts l c.new-space.result c.new-space.ensures.sorts in
    room_ready c.args.theory c.args.lemmas.now _ c.requires (c.check_lemmas.ensures.kept.known l c.requires.language fresh) (c.in-Ok.ensures.answer l c.requires fresh)

pub returns-in-Err : goal.returns-in-Err
returns-in-Err c =
    let l = language_of c.args.theory.program.now in
    room_unready c.args.theory c.args.lemmas.now c.check_lemmas.new.space c.in-Err.fault c.judge_fault.result c.judge_fault.ensures
    (c.in-Err.ensures.answer l c.requires (fresh_sorts l c.new-space.result c.new-space.ensures.sorts))
