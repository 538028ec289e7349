use Rattle.std.proofs.Common.{refl}
use Rattle.condition_meaning.specs.Languages.{language_of}
use Rattle.rule_layouts.proofs.OneList.{judged_are_theorems}
use Rattle.vcc_judge.proofs.Shown.{shown_as, fault_shown_as, stays_ready}
use Rattle.vcc_judge.proofs.room.Room.follows.Goals as goal

pub check_one-answer-requires : goal.check_one-answer-requires
check_one-answer-requires c =
    let ready = c.requires.ready in
    record { theory = record { language = language_of c.args.theory.program.now; is = ready.is; sorts = ready.sorts } }

pub returns-in-Ok-clause-shows : goal.returns-in-Ok-clause-shows
returns-in-Ok-clause-shows c = λ lemmas f ready s.
    let l = language_of c.args.theory.program.now in
    let h = ready.holds in
    shown_as l lemmas h.theorems (judged_are_theorems l lemmas h.theorems h.judged) f c.args.block.now c.new-own.result c.number.new.target c.in_ok-root.root c.in-Ok.answer c.is_follows.result c.is_follows.ensures c.new-own.ensures (c.in_ok-root.ensures.numbered f s.tree)
    (c.in-Ok.ensures.answer l h.theorems ready.is ready.sorts h.are_held)

pub returns-clause-shows : goal.returns-clause-shows
returns-clause-shows c = λ lemmas f ready s.
    let l = language_of c.args.theory.program.now in
    let h = ready.holds in
    fault_shown_as l lemmas h.theorems (judged_are_theorems l lemmas h.theorems h.judged) f c.args.block.now c.new-own.result c.number.new.target c.in_ok-root.root c.in-Err.fault c.judge_fault.result c.judge_fault.ensures c.new-own.ensures (c.in_ok-root.ensures.numbered f s.tree)
    (c.in-Err.ensures.answer l h.theorems ready.is ready.sorts h.are_held)

pub returns-in_err-root-clause-ready : goal.returns-in_err-root-clause-ready
returns-in_err-root-clause-ready c = λ lemmas ready. record { is = ready.is; sorts = ready.sorts; holds = ready.holds }

pub returns-in-Ok-clause-ready : goal.returns-in-Ok-clause-ready
returns-in-Ok-clause-ready c = λ lemmas ready.
    stays_ready c.args.theory lemmas c.args.self.now _ c.check_one-answer.ensures.released refl (c.check_one-answer.ensures.sorts (language_of c.args.theory.program.now) ready.is ready.sorts) ready

pub returns-clause-ready : goal.returns-clause-ready
returns-clause-ready c = λ lemmas ready.
    stays_ready c.args.theory lemmas c.args.self.now _ c.check_one-answer.ensures.released refl (c.check_one-answer.ensures.sorts (language_of c.args.theory.program.now) ready.is ready.sorts) ready
