use Rattle.std.proofs.Common.{◌≡◌, ℕ, ◌+◌, ◌++◌, ◌∷◌, [], List, length, length-append, rules, ap, ◌∙◌}
use Rattle.std.proofs.lemmas.Slice.Zip.{zip_turn, zip_end}
use Rattle.elab_code.specs.Views.{around as here}
use Rattle.method.specs.declared.program.Expr.{Expr as Made}
use Rattle.typed_program.specs.Views as seen
use Rattle.elab_assignments.proofs.Passed.{left, one_passed, all_passed}
use Rattle.elab_assignments.proofs.calls.pass.Goals as goal

pub loop-parameter-preserved : goal.loop-parameter-preserved
loop-parameter-preserved c =
    let l = c.loop-parameter in
    let a = here c.args.around in
    let ps = c.args.parameters.now in
    let xs = c.args.arguments.now in
    let p = c.in-Some.parameter in
    let x = c.in-Some.argument in
    let v = c.in_ok-value.value in
    let first : c.into_iter-parameter-iterator.result.a.rest.now ≡ ps = search rules in
    let second : c.into_iter-parameter-iterator.result.b.rest.now ≡ xs = search rules in
    let turn = zip_turn ps xs l.yielded c.into_iter-parameter-iterator.result l.parameter-iterator c.next.new.self c.next.result first second l.yielded_by (p, x) c.in-Some.is c.next.ensures.steps in
    let following : length (l.yielded ++ (p, x) ∷ []) ≡ length l.yielded + 1 = length-append l.yielded ((p, x) ∷ []) in
    ap (λ (got : List Made). seen.codes got ++ left a ps xs (length (l.yielded ++ (p, x) ∷ []))) c.in_ok-push.ensures.items
    ∙ ap (λ (n : ℕ). seen.codes (l.all.items ++ v ∷ []) ++ left a ps xs n) following
    ∙ one_passed a ps xs (length l.yielded) p.now x.now l.all.items v _ turn.0 turn.1 (turn.2 p.now) (turn.3 x.now) c.in_ok-value.ensures l.invariant

pub returns : goal.returns
returns c =
    let l = c.loop-parameter in
    let ps = c.args.parameters.now in
    let xs = c.args.arguments.now in
    let first : c.into_iter-parameter-iterator.result.a.rest.now ≡ ps = search rules in
    let second : c.into_iter-parameter-iterator.result.b.rest.now ≡ xs = search rules in
    let h = zip_end ps xs l.yielded c.into_iter-parameter-iterator.result l.parameter-iterator c.next.new.self c.next.result first second l.yielded_by c.in-None.is c.next.ensures.steps in
    all_passed (here c.args.around) ps xs (length l.yielded) _ _ h l.invariant
