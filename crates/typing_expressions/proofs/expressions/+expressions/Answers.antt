use Rattle.std.proofs.Common.{◌≡◌, refl, sym, ap, ◌∙◌, Some, None, List, take, arith}
use Rattle.c_syntax.specs.declared.expressions.Expr.{Expr}
use Rattle.c_syntax.specs.Views.{exp, exps, id, ty}
use Rattle.typing_spec.specs.Contexts.{Context, deeper}
use Rattle.typing_spec.specs.Types.{Integer}
use Rattle.typing_spec.specs.Pieces.{operand}
use Rattle.typing_expressions.specs.Violations.{Judged, judge}
use Rattle.typing_expressions.specs.Judging as j
use Rattle.typing_expressions.specs.Views.{context, kind, judged}
use Rattle.typing_expressions.proofs.Judgements.{number_judged, null_judged, name_judged, word_judged, group_judged, field_judged, status_judged, owns_judged, unary_judged, binary_judged, conditional_judged, apply_judged, several_judged, claims_object_judged, claims_judged, approves_judged, quantified_judged}
use Rattle.typing_expressions.proofs.Rows.{several, row_more, row_empty, take_at, take_all}
use Rattle.typing_expressions.proofs.expressions.+expressions.Goals as goal

-- what a part is, in the context that it has
part : (d d2 : Context) (y z : Expr) (k : Judged) → k ≡ judge d (exp z) → z ≡ y → d ≡ d2 → k ≡ judge d2 (exp y)
part d d2 y z k h e f = h ∙ (ap (λ (w : Expr). judge d (exp w)) e ∙ ap (λ (w : Context). judge w (exp y)) f)

-- what an expression is, which is of this form
of_form : (c : Context) (x y : Expr) (k : Judged) → x ≡ y → judge c (exp y) ≡ k → k ≡ judge c (exp x)
of_form c x y k h e = sym (ap (λ (w : Expr). judge c (exp w)) h ∙ e)

pub expression-returns-in-Number : goal.expression-returns-in-Number
expression-returns-in-Number t c = c.leaf.ensures ∙ of_form (context c.args.context) c.args.x.now _ _ c.in-Number.is (number_judged (context c.args.context) c.in-Number.field-0 c.in-Number.field-1 c.in-Number.field-2)

pub expression-returns-in-Null : goal.expression-returns-in-Null
expression-returns-in-Null t c = c.leaf-in-Null.ensures ∙ of_form (context c.args.context) c.args.x.now _ _ c.in-Null.is (null_judged (context c.args.context) c.in-Null.field-0)

pub expression-returns-in-Name : goal.expression-returns-in-Name
expression-returns-in-Name t c = c.name.ensures ∙ of_form (context c.args.context) c.args.x.now _ _ c.in-Name.is (name_judged (context c.args.context) (id c.in-Name.known))

pub expression-returns-in-Constant : goal.expression-returns-in-Constant
expression-returns-in-Constant t c = c.word.ensures ∙ of_form (context c.args.context) c.args.x.now _ _ c.in-Constant.is (word_judged (context c.args.context) c.in-Constant.span c.in-Constant.constant)

pub expression-returns-in-Group : goal.expression-returns-in-Group
expression-returns-in-Group t c =
    c.whole.ensures ∙ (ap (λ (k : Judged). j.whole k.kind k.violations None) (part _ _ _ _ _ c.expression-inner.ensures c.deref.ensures refl) ∙ of_form (context c.args.context) c.args.x.now _ _ c.in-Group.is (group_judged (context c.args.context) c.in-Group.field-0 (exp c.in-Group.inner.value)))

pub expression-returns-in-Field : goal.expression-returns-in-Field
expression-returns-in-Field t c =
    c.field.ensures ∙ (ap (j.field (context c.args.context) c.in-Field.span (id c.in-Field.named)) (part _ _ _ _ _ c.expression-inner-in-Field.ensures c.deref-in-Field.ensures c.deeper-inside.ensures) ∙ of_form (context c.args.context) c.args.x.now _ _ c.in-Field.is (field_judged (context c.args.context) c.in-Field.span (exp c.in-Field.left.value) (id c.in-Field.named)))

pub expression-returns-in-Status : goal.expression-returns-in-Status
expression-returns-in-Status t c =
    let s = c.in-Status in
    c.status.ensures ∙ (ap (λ (w : Expr). j.status (context c.args.context) s.span (exp w) s.place s.which (judged c.expression-inner-in-Status.result)) c.deref-in-Status-2.ensures
    ∙ (ap (j.status (context c.args.context) s.span (exp s.left.value) s.place s.which) (part _ _ _ _ _ c.expression-inner-in-Status.ensures c.deref-in-Status.ensures c.deeper-inside.ensures) ∙ of_form (context c.args.context) c.args.x.now _ _ c.in-Status.is (status_judged (context c.args.context) s.span (exp s.left.value) s.place s.which)))

pub expression-returns-in-Owns : goal.expression-returns-in-Owns
expression-returns-in-Owns t c =
    let s = c.in-Owns in
    c.owns.ensures ∙ (ap (λ (w : Expr). j.owns (context c.args.context) s.span (exp w) s.place (judged c.expression-inner-in-Owns.result)) c.deref-in-Owns-2.ensures
    ∙ (ap (j.owns (context c.args.context) s.span (exp s.left.value) s.place) (part _ _ _ _ _ c.expression-inner-in-Owns.ensures c.deref-in-Owns.ensures c.deeper-inside.ensures) ∙ of_form (context c.args.context) c.args.x.now _ _ c.in-Owns.is (owns_judged (context c.args.context) s.span (exp s.left.value) s.place)))

pub expression-returns-in-Unary : goal.expression-returns-in-Unary
expression-returns-in-Unary t c =
    c.unary.ensures ∙ (ap (j.unary c.in-Unary.span c.in-Unary.operator) (part _ _ _ _ _ c.expression-inner-in-Unary.ensures c.deref-in-Unary.ensures c.deeper-inside.ensures) ∙ of_form (context c.args.context) c.args.x.now _ _ c.in-Unary.is (unary_judged (context c.args.context) c.in-Unary.span c.in-Unary.operator (exp c.in-Unary.operand.value)))

pub expression-returns-in-Binary : goal.expression-returns-in-Binary
expression-returns-in-Binary t c =
    let s = c.in-Binary in
    let first = part _ _ _ _ _ c.expression-first.ensures c.deref-in-Binary.ensures c.operand-around_operands.ensures in
    let second = part _ _ _ _ _ c.expression-second.ensures c.deref-in-Binary-2.ensures c.operand-around_operands.ensures in
    c.binary.ensures ∙ (ap (λ (k : Judged). j.binary s.span s.operator k (judged c.expression-second.result)) first ∙ (ap (j.binary s.span s.operator (judge (operand s.operator (context c.args.context)) (exp s.left.value))) second ∙ of_form (context c.args.context) c.args.x.now _ _ c.in-Binary.is (binary_judged (context c.args.context) s.span s.operator (exp s.left.value) (exp s.right.value))))

pub expression-returns-in-Conditional : goal.expression-returns-in-Conditional
expression-returns-in-Conditional t c =
    let s = c.in-Conditional in
    let test = part _ _ _ _ _ c.expression-condition.ensures c.deref-in-Conditional.ensures c.deeper-inside.ensures in
    let first = part _ _ _ _ _ c.expression-first-in-Conditional.ensures c.deref-in-Conditional-2.ensures c.deeper-inside.ensures in
    let second = part _ _ _ _ _ c.expression-second-in-Conditional.ensures c.deref-in-Conditional-3.ensures c.deeper-inside.ensures in
    c.conditional.ensures ∙ (ap (λ (k : Judged). j.conditional s.span k (judged c.expression-first-in-Conditional.result) (judged c.expression-second-in-Conditional.result)) test
    ∙ (ap (λ (k : Judged). j.conditional s.span (judge (deeper (context c.args.context)) (exp s.test.value)) k (judged c.expression-second-in-Conditional.result)) first
    ∙ (ap (j.conditional s.span (judge (deeper (context c.args.context)) (exp s.test.value)) (judge (deeper (context c.args.context)) (exp s.left.value))) second ∙ of_form (context c.args.context) c.args.x.now _ _ c.in-Conditional.is (conditional_judged (context c.args.context) s.span (exp s.test.value) (exp s.left.value) (exp s.right.value)))))

pub expression-returns-in-Apply : goal.expression-returns-in-Apply
expression-returns-in-Apply t c =
    let s = c.in-Apply in
    c.apply.ensures ∙ (ap (λ (w : Expr). j.apply (context c.args.context) s.span s.function (exp w) (judged c.expression-inner-in-Apply.result)) c.deref-in-Apply-2.ensures
    ∙ (ap (j.apply (context c.args.context) s.span s.function (exp s.argument.value)) (part _ _ _ _ _ c.expression-inner-in-Apply.ensures c.deref-in-Apply.ensures c.argument.ensures) ∙ of_form (context c.args.context) c.args.x.now _ _ c.in-Apply.is (apply_judged (context c.args.context) s.span s.function (exp s.argument.value))))

pub expression-returns-in-Several : goal.expression-returns-in-Several
expression-returns-in-Several t c =
    let s = c.in-Several in
    let all = c.deref-in-Several.result.now in
    c.several.ensures ∙ (ap (j.several (context c.args.context) s.span s.word) (c.row-inner.ensures ∙ (λ i. j.row (c.first_wanted.ensures i) (c.deeper-inside.ensures i) (exps all)))
    ∙ sym (ap (judge (context c.args.context)) (several c.args.x.now s.span s.word s.arguments all s.is c.deref-in-Several.ensures.value) ∙ several_judged (context c.args.context) s.span s.word (exps all)))

pub expression-returns-in-ClaimsObject : goal.expression-returns-in-ClaimsObject
expression-returns-in-ClaimsObject t c =
    let s = c.in-ClaimsObject in
    let first = part _ _ _ _ _ c.expression-first-in-ClaimsObject.ensures c.deref-in-ClaimsObject.ensures c.deeper-inside.ensures in
    let second = part _ _ _ _ _ c.expression-second-in-ClaimsObject.ensures c.deref-in-ClaimsObject-2.ensures c.deeper-inside.ensures in
    c.claims_object.ensures ∙ (ap (λ (w : Expr). j.claims_object (exp w) (exp c.deref-in-ClaimsObject-4.result.now) (judged c.expression-first-in-ClaimsObject.result) (judged c.expression-second-in-ClaimsObject.result)) c.deref-in-ClaimsObject-3.ensures
    ∙ (ap (λ (w : Expr). j.claims_object (exp s.claim.value) (exp w) (judged c.expression-first-in-ClaimsObject.result) (judged c.expression-second-in-ClaimsObject.result)) c.deref-in-ClaimsObject-4.ensures
    ∙ (ap (λ (k : Judged). j.claims_object (exp s.claim.value) (exp s.object.value) k (judged c.expression-second-in-ClaimsObject.result)) first
    ∙ (ap (j.claims_object (exp s.claim.value) (exp s.object.value) (judge (deeper (context c.args.context)) (exp s.claim.value))) second ∙ of_form (context c.args.context) c.args.x.now _ _ c.in-ClaimsObject.is (claims_object_judged (context c.args.context) s.field-0 (exp s.claim.value) (exp s.object.value))))))

pub expression-returns-in-Claims : goal.expression-returns-in-Claims
expression-returns-in-Claims t c =
    let s = c.in-Claims in
    let first = part _ _ _ _ _ c.expression-first-in-Claims.ensures c.deref-in-Claims.ensures c.deeper-inside.ensures in
    let second = part _ _ _ _ _ c.expression-second-in-Claims.ensures c.deref-in-Claims-2.ensures c.inside_claims.ensures in
    c.claims.ensures ∙ (ap (λ (w : Expr). j.claims (exp w) (judged c.expression-first-in-Claims.result) (judged c.expression-second-in-Claims.result)) c.deref-in-Claims-3.ensures
    ∙ (ap (λ (k : Judged). j.claims (exp s.claim.value) k (judged c.expression-second-in-Claims.result)) first
    ∙ (ap (j.claims (exp s.claim.value) (judge (deeper (context c.args.context)) (exp s.claim.value))) second ∙ of_form (context c.args.context) c.args.x.now _ _ c.in-Claims.is (claims_judged (context c.args.context) s.field-0 (exp s.claim.value) (exp s.property.value)))))

pub expression-returns-in-Approves : goal.expression-returns-in-Approves
expression-returns-in-Approves t c =
    let s = c.in-Approves in
    c.leaf-in-Approves.ensures ∙ (ap (j.leaf (Some Integer)) c.broken_if.ensures ∙ of_form (context c.args.context) c.args.x.now _ _ s.is (approves_judged (context c.args.context) s.span (id s.field-1)))

pub expression-returns-in-Quantified : goal.expression-returns-in-Quantified
expression-returns-in-Quantified t c =
    let s = c.in-Quantified in
    let body = part _ _ _ _ _ c.expression-inner-in-Quantified.ensures c.deref-in-Quantified.ensures c.quantified-in_body.ensures in
    c.quantified.ensures ∙ (ap (λ (w : Expr). j.quantified (context c.args.context) s.span s.quantifier (ty s.ty) (id s.variable) (exp w) (judged c.expression-inner-in-Quantified.result)) c.deref-in-Quantified-2.ensures
    ∙ (ap (j.quantified (context c.args.context) s.span s.quantifier (ty s.ty) (id s.variable) (exp s.body.value)) body ∙ of_form (context c.args.context) c.args.x.now _ _ c.in-Quantified.is (quantified_judged (context c.args.context) s.span s.quantifier (ty s.ty) (id s.variable) (exp s.body.value))))

pub row-loop-x-init : goal.row-loop-x-init
row-loop-x-init t c = c.nothing-so_far.ensures ∙ row_empty (kind c.args.wanted) (context c.args.context)

pub row-returns : goal.row-returns
row-returns t c = c.loop-x.invariant ∙ ap (λ (xs : List Expr). j.row (kind c.args.wanted) (context c.args.context) (exps xs)) (take_all c.args.all.now c.loop-x.x-index (omega arith))

pub row-loop-x-preserved : goal.row-loop-x-preserved
row-loop-x-preserved t c =
    let k = context c.args.context in
    let o = kind c.args.wanted in
    let done = exps (take c.loop-x.x-index c.args.all.now) in
    let y = exp c.x-item.result in
    c.with-so_far.ensures ∙ (ap (λ (w : j.Row). j.row_with w (judged c.expression.result) c.first_place.result) c.loop-x.invariant
    ∙ (ap (λ (w : Judged). j.row_with (j.row o k done) w c.first_place.result) c.expression.ensures
    ∙ (ap (j.row_with (j.row o k done) (judge k y)) c.first_place.ensures
    ∙ (sym (row_more o k done y) ∙ ap (j.row o k) (sym (take_at exp c.args.all.now c.loop-x.x-index c.x-item.result c.loop-x-test.true c.x-item.is))))))
