use Rattle.std.proofs.Common.{◌∙◌, ap, arith, ◌≤◌, ◌≡◌, ◌++◌, List, length, take, drop, ◌-◌}
use Rattle.std.proofs.lemmas.List.{take_all, drop_all, take_rest}
use Rattle.condition_code.specs.declared.walk.Step.{Step}
use Rattle.condition_code.proofs.Walks.{guards, guards_none, same_steps}
use Rattle.condition_code.proofs.walk.Walk.guard.Goals as goal

pub returns-then-from-place : goal.returns-then-from-place
returns-then-from-place c = λ first before f q is long goes.
    let above : length c.args.self.now.path.items ≤ c.args.from = omega (arith, c.place.ensures, c.if-from-place.true) in
    guards_none f c.args.from goes long (take_all c.args.from c.args.self.now.path.items above) (drop_all c.args.from c.args.self.now.path.items above)

pub returns : goal.returns
returns c = λ first before f q is long goes.
    let rest : take (length c.deref.result.now - c.args.from) (drop c.args.from c.deref.result.now) ≡ drop c.args.from c.args.self.now.path.items =
    take_rest c.deref.result.now c.args.from ∙ ap (λ (p : List Step). drop c.args.from p) c.deref.ensures.value in
    let path : c.extend_from_slice.new.self.items ≡ take c.args.from c.args.self.now.path.items ++ c.in_ok-guarded.guarded.items =
    c.in_ok-extend_from_slice.ensures.items ∙ ap (λ (p : List Step). p ++ c.deref-2.result.now) c.truncate.ensures.items ∙ ap (λ (p : List Step). take c.args.from c.args.self.now.path.items ++ p) c.deref-2.ensures.value in
    guards f c.args.from goes long c.in_ok-guarded.ensures.later (λ ds all. c.in_ok-guarded.ensures.stands f ds is (same_steps rest all)) path
