use Rattle.std.proofs.Common.{◌+◌, List, refl, sym, ap, ◌∙◌, take, arith}
use Rattle.c_syntax.specs.declared.expressions.Expr.{Expr}
use Rattle.c_syntax.specs.Expressions as e
use Rattle.c_syntax.specs.declared.tree.BinaryOperator.TheVariants as op
use Rattle.c_syntax.specs.Grammar.{exps_of}
use Rattle.c_syntax.specs.Views.{exp, exps}
use Rattle.elab_code.specs.Views.{around}
use Rattle.typed_program.specs.Annotations.{owner_first}
use Rattle.elab_annotations.specs.Typing.{arguments_typed, mine_typed, claims_only_typed, exact_set_typed, conjuncts_typed, exists_body_typed, others_typed}
use Rattle.elab_annotations.specs.Views.{Typed, Several, typed, boxed as seen, row_of}
use Rattle.elab_annotations.proofs.Laws.{no_arguments, mine_law, exact_set_law, several_law, arguments_law, claims_law, conjuncts_law, others_law, exists_law}
use Rattle.elab_annotations.proofs.Steps.{told, operand, of_form, claimed, in_front, with_one, some_hold}
use Rattle.typing_expressions.proofs.Rows.{several, take_at, take_all}
use Rattle.elab_annotations.proofs.Vectors.{several_parts, item_parts}
use Rattle.elab_annotations.proofs.annotations.+annotations.Goals as goal

pub boxed-row-requires : goal.boxed-row-requires
boxed-row-requires t c = let s = c.in-Several in let m = several_parts c.args.x.now s.field-0 s.word s.arguments c.deref-in-Mine.result.now s.is c.deref-in-Mine.ensures.value in (omega (arith, c.decreases, m), tt)

pub boxed-exact_set-requires : goal.boxed-exact_set-requires
boxed-exact_set-requires t c = let s = c.in-Several in let m = several_parts c.args.x.now s.field-0 s.word s.arguments c.deref-in-ClaimsOnly.result.now s.is c.deref-in-ClaimsOnly.ensures.value in (omega (arith, c.decreases, m), tt)

pub boxed-returns-in_ok-objects-in-Mine : goal.boxed-returns-in_ok-objects-in-Mine
boxed-returns-in_ok-objects-in-Mine t c =
    let here = around c.args.around in
    let n = c.args.first in
    let s = c.in-Several in
    let all = c.deref-in-Mine.result.now in
    let whole = several c.args.x.now s.field-0 s.word s.arguments all s.is c.deref-in-Mine.ensures.value ∙ ap (λ w. e.Several s.field-0 w (exps_of (exps all))) c.in-Mine.is in
    told seen c.all_owned.result c.all_owned.ensures (ap mine_typed c.in_ok-objects-in-Mine.ensures ∙ (mine_law here n s.field-0 (exps all) ∙ ap (typed here n) (sym whole)))

pub boxed-returns-in-ClaimsOnly : goal.boxed-returns-in-ClaimsOnly
boxed-returns-in-ClaimsOnly t c =
    let here = around c.args.around in
    let n = c.args.first in
    let s = c.in-Several in
    let all = c.deref-in-ClaimsOnly.result.now in
    let whole = several c.args.x.now s.field-0 s.word s.arguments all s.is c.deref-in-ClaimsOnly.ensures.value ∙ ap (λ w. e.Several s.field-0 w (exps_of (exps all))) c.in-ClaimsOnly.is in
    told seen c.exact_set.result c.exact_set.ensures (several_law here n s.field-0 (exps all) ∙ ap (typed here n) (sym whole))

pub exact_set-returns : goal.exact_set-returns
exact_set-returns t c =
    let here = around c.args.around in
    let n = c.args.first in
    let x = exp c.in-Some.claim.now in
    let xs = exps c.in-Some.objects.now in
    let front = c.in_ok-front.ensures ∙ ap (λ m. typed here m x) c.in_ok-start.ensures in
    let back = c.in_ok-back.ensures ∙ ap (λ (k : Typed). arguments_typed here k.next xs) front in
    told seen c.claims_only.result c.claims_only.ensures
    ((λ i. claims_only_typed n (front i) (back i)) ∙ (exact_set_law here n x xs ∙ ap (λ (ys : List Expr). exact_set_typed here n (exps ys)) (sym c.in-Some.ensures.cases.0)))

pub row-boxed-requires : goal.row-boxed-requires
row-boxed-requires t c = let m = item_parts c.args.all.now c.loop-x.x-index c.x-item.result c.loop-x-test.true c.x-item.is in (omega (arith, c.decreases, m), tt)

pub row-loop-x-init : goal.row-loop-x-init
row-loop-x-init t c = c.nothing-so_far.ensures ∙ no_arguments (around c.args.around) c.args.first

pub row-returns : goal.row-returns
row-returns t c =
    c.loop-x.invariant ∙ ap (λ (xs : List Expr). arguments_typed (around c.args.around) c.args.first (exps xs)) (take_all c.args.all.now c.loop-x.x-index (omega arith))

pub row-loop-x-preserved : goal.row-loop-x-preserved
row-loop-x-preserved t c =
    let here = around c.args.around in
    let n = c.args.first in
    let done = exps (take c.loop-x.x-index c.args.all.now) in
    let y = exp c.x-item.result in
    c.in_ok-so_far.ensures ∙ (with_one c.loop-x.invariant (c.in_ok-one.ensures ∙ ap (λ i. typed here i y) (ap (λ (k : Several). k.next) c.loop-x.invariant))
    ∙ (arguments_law here n done y ∙ ap (arguments_typed here n) (sym (take_at exp c.args.all.now c.loop-x.x-index c.x-item.result c.loop-x-test.true c.x-item.is))))

pub boxed-returns-in_ok-back-in-Claims : goal.boxed-returns-in_ok-back-in-Claims
boxed-returns-in_ok-back-in-Claims t c =
    let here = around c.args.around in
    let n = c.args.first in
    let s = c.in-Claims in
    let first = operand (typed here) n n s.claim.value _ c.in_ok-front-in-Claims.ensures c.deref-in-Claims.ensures refl in
    let second = operand (conjuncts_typed here) _ _ s.property.value _ c.in_ok-back-in-Claims.ensures c.deref-in-Claims-2.ensures (ap (λ (k : Typed). k.next) first) in
    told seen c.claims.result c.claims.ensures
    (of_form (typed here n) c.args.x.now (e.Claims s.field-0 (exp s.claim.value) (exp s.property.value)) (ap exp s.is) (claimed first second ∙ claims_law here n s.field-0 (exp s.claim.value) (exp s.property.value)))

pub conjuncts-returns-in_ok-back-in-And : goal.conjuncts-returns-in_ok-back-in-And
conjuncts-returns-in_ok-back-in-And t c =
    let here = around c.args.around in
    let n = c.args.first in
    let s = c.in-Binary in
    let first = operand (conjuncts_typed here) n n s.left.value _ c.in_ok-front-in-And.ensures c.deref-in-And.ensures refl in
    let second = operand (conjuncts_typed here) _ _ s.right.value _ c.in_ok-back-in-And.ensures c.deref-in-And-2.ensures (ap (λ (k : Several). k.next) first) in
    told row_of c.then.result c.then.ensures
    (of_form (conjuncts_typed here n) c.args.x.now (e.Binary s.field-0 op.And (exp s.left.value) (exp s.right.value)) (ap exp s.is ∙ ap (λ o. e.Binary s.field-0 o (exp s.left.value) (exp s.right.value)) c.in-And.is)
    (in_front first second ∙ conjuncts_law here n s.field-0 (exp s.left.value) (exp s.right.value)))

pub others-returns-in_ok-last-in-And : goal.others-returns-in_ok-last-in-And
others-returns-in_ok-last-in-And t c =
    let here = around c.args.around in
    let n = c.args.first in
    let s = c.in-Binary in
    let first = operand (others_typed here) n n s.left.value _ c.in_ok-front-in-And.ensures c.deref.ensures refl in
    let second = operand (typed here) _ _ s.right.value _ c.in_ok-last-in-And.ensures c.deref-in-And.ensures (ap (λ (k : Several). k.next) first) in
    told row_of c.with_boxed.result c.with_boxed.ensures
    (of_form (others_typed here n) c.args.x.now (e.Binary s.field-0 op.And (exp s.left.value) (exp s.right.value)) (ap exp s.is ∙ ap (λ o. e.Binary s.field-0 o (exp s.left.value) (exp s.right.value)) c.in-And.is)
    (with_one first second ∙ others_law here n s.field-0 (exp s.left.value) (exp s.right.value)))

pub exists_body-returns-in_ok-all-in-And : goal.exists_body-returns-in_ok-all-in-And
exists_body-returns-in_ok-all-in-And t c =
    let here = around c.args.around in
    let inner = around c.args.inside in
    let n = c.args.first in
    let ty = c.args.ty in
    let s = c.in-Binary in
    let object = operand (owner_first here) _ (1 + n) s.left.value _ c.in_ok-object-in-And.ensures c.deref-in-And.ensures c.in_ok-start-in-And.ensures in
    let front = operand (others_typed inner) _ (1 + n) s.left.value _ c.in_ok-front-in-And.ensures c.deref-in-And-2.ensures c.in_ok-start-in-And.ensures in
    let last = operand (typed inner) _ _ s.right.value _ c.in_ok-last-in-And.ensures c.deref-in-And-3.ensures (ap (λ (k : Several). k.next) front) in
    told seen c.exists.result c.exists.ensures
    (of_form (exists_body_typed here inner n ty) c.args.body.now (e.Binary s.field-0 op.And (exp s.left.value) (exp s.right.value)) (ap exp s.is ∙ ap (λ o. e.Binary s.field-0 o (exp s.left.value) (exp s.right.value)) c.in-And.is)
    (some_hold n ty object (c.in_ok-all-in-And.ensures ∙ with_one front last) ∙ exists_law here inner n ty s.field-0 (exp s.left.value) (exp s.right.value)))
