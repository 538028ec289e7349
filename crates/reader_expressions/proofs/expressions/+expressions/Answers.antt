use Rattle.std.proofs.Common.{◌≡◌, ◌+◌, ◌-◌, suc, true, false, nat_le, List, [], ◌∷◌, ap, sym, ◌∙◌, arith}
use Rattle.std.proofs.Common.{Vec, Box}
use Rattle.std.specs.declared.alloc.Global.{Global}
use Rattle.std.proofs.lemmas.List.{length-map}
use Rattle.std.proofs.lemmas.Result.{err_from_is_err_and}
use Rattle.ebnf.specs.Derives.{next}
use Rattle.ebnf.specs.Reading.{on}
use Rattle.c_syntax.specs.declared.expressions.Expr.{Expr}
use Rattle.c_syntax.specs.Expressions.{Exp}
use Rattle.c_syntax.specs.Lexing.{lexeme}
use Rattle.ebnf.specs.Sets.{has, first}
use Rattle.ebnf.specs.Tools.{eq_true}
use Rattle.c_syntax.specs.declared.tree.UnaryOperator.TheVariants as u
use Rattle.c_syntax.specs.Views.{exp, exps}
use Rattle.c_syntax.specs.Language.{language}
use Rattle.c_syntax.specs.Grammar as g
use Rattle.c_syntax.specs.Grammar.{rule}
use Rattle.reader_expressions.specs.Reading.{lexemes, rule_at, entered}
use Rattle.reader_expressions.specs.Levels.{mode_of, tier_of, level, link, whole, conditional, membership, binary}
use Rattle.reader_expressions.specs.Forms as forms
use Rattle.reader_expressions.specs.Lists.{behind_comma, listed}
use Rattle.reader_expressions.specs.Joints.{following}
use Rattle.reader_expressions.specs.Operands.{outcome}
use Rattle.reader_expressions.proofs.Chains.{stop, over_from, goes_from, fails_from}
use Rattle.reader_expressions.proofs.Many as many
use Rattle.reader_expressions.proofs.Commas.{whole_list, begins_comma, comma_takes}
use Rattle.reader_expressions.proofs.Outcomes.{first_err, then_gives, same_gives, high_gives, is_prefix_rule, level_plus, link_high, link_binary, link_choice, link_in, link_in_high, at_in, not_in}
use Rattle.reader_expressions.proofs.Boxes.{held, right_of, joint_of, at_is, placed, none_read}
use Rattle.reader_expressions.proofs.Primaries.{primary_named, primary_code, primary_unnamed, unnamed_number, unnamed_null, unnamed_group, unnamed_high, unnamed_none, form_fits, form_high, constant_rule, approval_rule, prefix_fits, prefix_high, postfix_plus, set_read, reads_rule, reads_none, set_named, set_form, set_other}
use Rattle.reader_expressions.proofs.SetBodies.{start_primary, start_quantifier, quantifier_high, quantifier_fits, body_read, conjunction_read, memberships_read, membership_read, element_read, element_primary, element_high, element_fits, field_read, joint_high, joint_low, rooms}
use Rattle.reader_expressions.proofs.expressions.+expressions.Goals as goal

abbrev unboxed : Box Expr Global → Exp
unboxed b = exp b.value

abbrev all_of : Vec Expr Global → List Exp
all_of v = exps v.items

-- ---- levels

pub on_level-returns-then-is_prefix-clause-gives : goal.on_level-returns-then-is_prefix-clause-gives
on_level-returns-then-is_prefix-clause-gives t c = same_gives exp c.prefix.result _ _ (is_prefix_rule (mode_of c.args.mode) (tier_of c.args.tier) c.args.room (lexemes c.args.tokens.now) (sym c.is_prefix.ensures ∙ c.if-is_prefix.true)) c.prefix.ensures.gives

pub on_level-returns-in_err-left-clause-gives : goal.on_level-returns-in_err-left-clause-gives
on_level-returns-in_err-left-clause-gives t c =
    let p = err_from_is_err_and c.from_residual.result c.from_residual.ensures.1 in
    rw (p.1, p.2) (first_err exp exp _ _ _ _ (level_plus (mode_of c.args.mode) (tier_of c.args.tier) _ c.args.room (lexemes c.args.tokens.now) (sym c.is_prefix.ensures ∙ c.if-is_prefix.false) c.below.ensures) c.in_err-left.ensures.gives)

pub on_level-returns-clause-gives : goal.on_level-returns-clause-gives
on_level-returns-clause-gives t c = then_gives exp c.links.result _ _ _ _ _ _ (level_plus (mode_of c.args.mode) (tier_of c.args.tier) _ c.args.room (lexemes c.args.tokens.now) (sym c.is_prefix.ensures ∙ c.if-is_prefix.false) c.below.ensures) c.in_ok-left.ensures.gives c.links.ensures.gives

pub links-returns-then-not-is_link-clause-gives : goal.links-returns-then-not-is_link-clause-gives
links-returns-then-not-is_link-clause-gives t c = sym c.chain.invariant.same ∙ stop c.args.room (link (mode_of c.args.mode) (tier_of c.args.tier)) _ _ _ _ (sym c.is_link.ensures ∙ c.if-not-is_link.true)

pub links-returns-in_err-found-clause-gives : goal.links-returns-in_err-found-clause-gives
links-returns-in_err-found-clause-gives t c =
    let p = err_from_is_err_and c.from_residual.result c.from_residual.ensures.1 in
    let n : c.args.room + 1 - c.chain.counter ≡ suc (c.args.room - c.chain.counter) = omega (arith, c.chain-test.true) in
    rw (p.1, p.2) (fails_from c.args.room (link (mode_of c.args.mode) (tier_of c.args.tier)) exp exp _ _ _ _ _ _ _ n (sym c.is_link.ensures ∙ c.if-not-is_link.false) c.in_err-found.ensures.gives c.chain.invariant.same)

pub links-chain-preserved : goal.links-chain-preserved
links-chain-preserved t c =
    let n : c.args.room + 1 - c.chain.counter ≡ suc (c.args.room + 1 - (c.chain.counter + 1)) = omega (arith, c.chain-test.true) in
    record {
      low = omega (arith, c.in_ok-found.ensures.low);
      same = goes_from c.args.room (link (mode_of c.args.mode) (tier_of c.args.tier)) _ _ _ _ _ _ _ _ _ n (sym c.is_link.ensures ∙ c.if-not-is_link.false) c.in_ok-found.ensures.gives c.chain.invariant.same;
    }

pub links-returns-then-is_link-clause-gives : goal.links-returns-then-is_link-clause-gives
links-returns-then-is_link-clause-gives t c =
    let n : c.args.room + 1 - c.chain.counter ≡ 0 = omega (arith, c.chain-test.false) in
    over_from c.args.room (link (mode_of c.args.mode) (tier_of c.args.tier)) _ _ _ _ _ n (sym c.is_link-2.ensures ∙ c.if-is_link.true) c.chain.invariant.same

pub links-returns-clause-gives : goal.links-returns-clause-gives
links-returns-clause-gives t c = sym c.chain.invariant.same ∙ stop c.args.room (link (mode_of c.args.mode) (tier_of c.args.tier)) _ _ _ _ (sym c.is_link-2.ensures ∙ c.if-is_link.false)

pub one_link-returns-in_err-fits-clause-gives : goal.one_link-returns-in_err-fits-clause-gives
one_link-returns-in_err-fits-clause-gives t c =
    let p = err_from_is_err_and c.from_residual-in_err-fits.result c.from_residual-in_err-fits.ensures.1 in
    let e = c.in_err-fits.ensures.err in
    rw (p.1, p.2) (high_gives exp _ _ _ e.1 (link_high (mode_of c.args.mode) (tier_of c.args.tier) c.args.room _ _ _ c.requires.begins (ap (λ i. nat_le i c.args.room) (sym c.max.ensures) ∙ e.0)))

pub one_link-returns-in_err-fits-2-clause-gives : goal.one_link-returns-in_err-fits-2-clause-gives
one_link-returns-in_err-fits-2-clause-gives t c =
    let p = err_from_is_err_and c.from_residual-in_err-fits-2.result c.from_residual-in_err-fits-2.ensures.1 in
    let e = c.in_err-fits-2.ensures.err in
    let here : _ = sym c.next_is_spec.ensures ∙ c.if-next_is_spec.true in
    let w = at_in (mode_of c.args.mode) (tier_of c.args.tier) _ c.requires.begins here in
    rw (p.1, p.2) (high_gives exp _ _ _ e.1 (link_in_high (mode_of c.args.mode) (tier_of c.args.tier) c.args.room _ _ _ c.requires.begins (ap (λ i. nat_le i c.args.room) (sym c.max.ensures) ∙ c.in_ok-fits.ensures.ok) (eq_true _ _ here) w.0 w.1 e.0))

pub one_link-returns-then-next_is_spec-clause-gives : goal.one_link-returns-then-next_is_spec-clause-gives
one_link-returns-then-next_is_spec-clause-gives t c =
    let here : _ = sym c.next_is_spec.ensures ∙ c.if-next_is_spec.true in
    let w = at_in (mode_of c.args.mode) (tier_of c.args.tier) _ c.requires.begins here in
    same_gives exp c.operation.result _ _ (link_in (mode_of c.args.mode) (tier_of c.args.tier) c.args.room _ _ _ c.requires.begins (ap (λ i. nat_le i c.args.room) (sym c.max.ensures) ∙ c.in_ok-fits.ensures.ok) (eq_true _ _ here) w.0 w.1 c.in_ok-fits-2.ensures.ok ∙ held membership c.args.room c.args.left.height (lexemes c.args.left.rest.now) (ap exp c.in_ok-boxed.ensures.ok)) c.operation.ensures.gives

pub one_link-returns-in-None-clause-gives : goal.one_link-returns-in-None-clause-gives
one_link-returns-in-None-clause-gives t c = same_gives exp c.conditional.result _ _ (link_choice (mode_of c.args.mode) (tier_of c.args.tier) c.args.room _ _ _ c.requires.begins (ap (λ i. nat_le i c.args.room) (sym c.max.ensures) ∙ c.in_ok-fits.ensures.ok) (c.in-None.ensures.none c.requires.begins) ∙ held (conditional (mode_of c.args.mode)) c.args.room c.args.left.height (lexemes c.args.left.rest.now) (ap exp c.in_ok-boxed.ensures.ok)) c.conditional.ensures.gives

pub one_link-returns-in-Some-clause-gives : goal.one_link-returns-in-Some-clause-gives
one_link-returns-in-Some-clause-gives t c =
    let w = c.in-Some.ensures.some in
    let o = c.in-Some.operator in
    same_gives exp c.operation-in-Some.result _ _ (link_binary (mode_of c.args.mode) (tier_of c.args.tier) o c.args.room _ _ _ c.requires.begins (ap (λ i. nat_le i c.args.room) (sym c.max.ensures) ∙ c.in_ok-fits.ensures.ok) w.0 w.1 w.2 (not_in o _ w.0 (sym c.next_is_spec.ensures ∙ c.if-next_is_spec.false)) ∙ held (binary (mode_of c.args.mode) o) c.args.room c.args.left.height (lexemes c.args.left.rest.now) (ap exp c.in_ok-boxed.ensures.ok) ∙ right_of (mode_of c.args.mode) o c.args.room _ c.args.left.height (lexemes c.args.left.rest.now) c.right.ensures) c.operation-in-Some.ensures.gives

-- ---- operators in front

pub prefix-returns-in_err-fits-clause-gives : goal.prefix-returns-in_err-fits-clause-gives
prefix-returns-in_err-fits-clause-gives t c =
    let p = err_from_is_err_and c.from_residual.result c.from_residual.ensures.1 in
    let e = c.in_err-fits.ensures.err in
    rw (p.1, p.2) (high_gives exp _ _ _ e.1 (prefix_high (mode_of c.args.mode) u.Not c.args.room (lexemes c.args.tokens.now) (eq_true _ _ (sym c.next_is.ensures ∙ c.if-next_is.true)) e.0))

pub prefix-returns-then-next_is-clause-gives : goal.prefix-returns-then-next_is-clause-gives
prefix-returns-then-next_is-clause-gives t c = same_gives exp c.unary.result _ _ (prefix_fits (mode_of c.args.mode) u.Not c.args.room (lexemes c.args.tokens.now) (eq_true _ _ (sym c.next_is.ensures ∙ c.if-next_is.true)) c.in_ok-fits.ensures.ok) c.unary.ensures.gives

pub prefix-returns-in_err-fits-2-clause-gives : goal.prefix-returns-in_err-fits-2-clause-gives
prefix-returns-in_err-fits-2-clause-gives t c =
    let p = err_from_is_err_and c.from_residual-in_err-fits-2.result c.from_residual-in_err-fits-2.ensures.1 in
    let e = c.in_err-fits-2.ensures.err in
    rw (p.1, p.2) (high_gives exp _ _ _ e.1 (prefix_high (mode_of c.args.mode) u.Negate c.args.room (lexemes c.args.tokens.now) (eq_true _ _ (sym c.next_is-2.ensures ∙ c.if-next_is-2.true)) e.0))

pub prefix-returns-then-next_is-2-clause-gives : goal.prefix-returns-then-next_is-2-clause-gives
prefix-returns-then-next_is-2-clause-gives t c = same_gives exp c.unary-then-next_is-2.result _ _ (prefix_fits (mode_of c.args.mode) u.Negate c.args.room (lexemes c.args.tokens.now) (eq_true _ _ (sym c.next_is-2.ensures ∙ c.if-next_is-2.true)) c.in_ok-fits-2.ensures.ok) c.unary-then-next_is-2.ensures.gives

pub prefix-returns-in_err-left-clause-gives : goal.prefix-returns-in_err-left-clause-gives
prefix-returns-in_err-left-clause-gives t c =
    let p = err_from_is_err_and c.from_residual-in_err-left.result c.from_residual-in_err-left.ensures.1 in
    rw (p.1, p.2) (first_err exp exp _ _ _ _ (postfix_plus (mode_of c.args.mode) c.args.room (lexemes c.args.tokens.now) (sym c.next_is.ensures ∙ c.if-next_is.false) (sym c.next_is-2.ensures ∙ c.if-next_is-2.false)) c.in_err-left.ensures.gives)

pub prefix-returns-clause-gives : goal.prefix-returns-clause-gives
prefix-returns-clause-gives t c = then_gives exp c.arrows.result _ _ _ _ _ _ (postfix_plus (mode_of c.args.mode) c.args.room (lexemes c.args.tokens.now) (sym c.next_is.ensures ∙ c.if-next_is.false) (sym c.next_is-2.ensures ∙ c.if-next_is-2.false)) c.in_ok-left.ensures.gives c.arrows.ensures.gives

-- ---- primaries

pub primary-returns-then-next_is_name-clause-gives : goal.primary-returns-then-next_is_name-clause-gives
primary-returns-then-next_is_name-clause-gives t c = same_gives exp c.named.result _ _ (primary_named (mode_of c.args.mode) c.args.room (lexemes c.args.tokens.now) (eq_true _ _ (sym c.next_is_name.ensures ∙ c.if-next_is_name.true))) c.named.ensures.gives

pub primary-returns-in-Code-clause-gives : goal.primary-returns-in-Code-clause-gives
primary-returns-in-Code-clause-gives t c = same_gives exp c.unnamed.result _ _ (ap (λ m. rule_at c.args.room (g.primary (mode_of m)) (lexemes c.args.tokens.now)) c.in-Code.is ∙ primary_code c.args.room (lexemes c.args.tokens.now) (sym c.next_is_name.ensures ∙ c.if-next_is_name.false)) c.unnamed.ensures.gives

pub primary-returns-in-None-clause-gives : goal.primary-returns-in-None-clause-gives
primary-returns-in-None-clause-gives t c = same_gives exp c.unnamed-in-None.result _ _ (ap (λ m. rule_at c.args.room (g.primary (mode_of m)) (lexemes c.args.tokens.now)) c.in-Spec.is ∙ primary_unnamed c.args.room (lexemes c.args.tokens.now) (sym c.next_is_name.ensures ∙ c.if-next_is_name.false) c.in-None.ensures) c.unnamed-in-None.ensures.gives

pub primary-returns-in-Some-clause-gives : goal.primary-returns-in-Some-clause-gives
primary-returns-in-Some-clause-gives t c = same_gives exp c.formed.result _ _ (ap (λ m. rule_at c.args.room (g.primary (mode_of m)) (lexemes c.args.tokens.now)) c.in-Spec.is) c.formed.ensures.gives

pub unnamed-returns-then-next_is_number-clause-gives : goal.unnamed-returns-then-next_is_number-clause-gives
unnamed-returns-then-next_is_number-clause-gives t c = same_gives exp c.number.result _ _ (unnamed_number (mode_of c.args.mode) c.args.room (lexemes c.args.tokens.now) (eq_true _ _ (sym c.next_is_number.ensures ∙ c.if-next_is_number.true))) c.number.ensures.gives

pub unnamed-returns-then-next_is_key-clause-gives : goal.unnamed-returns-then-next_is_key-clause-gives
unnamed-returns-then-next_is_key-clause-gives t c = same_gives exp c.null.result _ _ (unnamed_null (mode_of c.args.mode) c.args.room (lexemes c.args.tokens.now) (eq_true _ _ (sym c.next_is_key.ensures ∙ c.if-next_is_key.true))) c.null.ensures.gives

pub unnamed-returns-then-not-next_is-clause-gives : goal.unnamed-returns-then-not-next_is-clause-gives
unnamed-returns-then-not-next_is-clause-gives t c = unnamed_none (mode_of c.args.mode) c.args.room (lexemes c.args.tokens.now) (sym c.next_is_number.ensures ∙ c.if-next_is_number.false) (sym c.next_is_key.ensures ∙ c.if-next_is_key.false) (sym c.next_is.ensures ∙ c.if-not-next_is.true)

pub unnamed-returns-in_err-fits-clause-gives : goal.unnamed-returns-in_err-fits-clause-gives
unnamed-returns-in_err-fits-clause-gives t c =
    let p = err_from_is_err_and c.from_residual.result c.from_residual.ensures.1 in
    let e = c.in_err-fits.ensures.err in
    rw (p.1, p.2) (high_gives exp _ _ _ e.1 (unnamed_high (mode_of c.args.mode) c.args.room (lexemes c.args.tokens.now) (eq_true _ _ (sym c.next_is.ensures ∙ c.if-not-next_is.false)) e.0))

pub unnamed-returns-clause-gives : goal.unnamed-returns-clause-gives
unnamed-returns-clause-gives t c = same_gives exp c.group.result _ _ (unnamed_group (mode_of c.args.mode) c.args.room (lexemes c.args.tokens.now) (eq_true _ _ (sym c.next_is.ensures ∙ c.if-not-next_is.false)) c.in_ok-fits.ensures.ok) c.group.ensures.gives

-- ---- forms

pub formed-returns-in_err-fits-clause-gives : goal.formed-returns-in_err-fits-clause-gives
formed-returns-in_err-fits-clause-gives t c =
    let p = err_from_is_err_and c.from_residual.result c.from_residual.ensures.1 in
    let e = c.in_err-fits.ensures.err in
    rw (p.1, p.2) (high_gives exp _ _ _ e.1 (form_high c.args.form c.args.room (lexemes c.args.tokens.now) c.requires.here (ap (λ i. nat_le i c.args.room) (sym c.least.ensures) ∙ e.0)))

pub formed-returns-clause-gives : goal.formed-returns-clause-gives
formed-returns-clause-gives t c = same_gives exp c.worded.result _ _ (form_fits c.args.form c.args.room (lexemes c.args.tokens.now) c.requires.here (ap (λ i. nat_le i c.args.room) (sym c.least.ensures) ∙ c.in_ok-fits.ensures.ok)) c.worded.ensures.gives

pub worded-returns-in-Constant-clause-gives : goal.worded-returns-in-Constant-clause-gives
worded-returns-in-Constant-clause-gives t c = same_gives exp c.constant.result _ _ (ap (λ x. rule_at c.args.room (forms.rule_of x) (lexemes c.args.tokens.now)) c.in-Constant.is ∙ constant_rule c.in-Constant.value c.args.room (lexemes c.args.tokens.now)) c.constant.ensures.gives

pub worded-returns-in-Function-clause-gives : goal.worded-returns-in-Function-clause-gives
worded-returns-in-Function-clause-gives t c = same_gives exp c.apply.result _ _ (ap (λ x. rule_at c.args.room (forms.rule_of x) (lexemes c.args.tokens.now)) c.in-Function.is) c.apply.ensures.gives

pub worded-returns-in-Several-clause-gives : goal.worded-returns-in-Several-clause-gives
worded-returns-in-Several-clause-gives t c = same_gives exp c.several.result _ _ (ap (λ x. rule_at c.args.room (forms.rule_of x) (lexemes c.args.tokens.now)) c.in-Several.is) c.several.ensures.gives

pub worded-returns-in-Pair-clause-gives : goal.worded-returns-in-Pair-clause-gives
worded-returns-in-Pair-clause-gives t c = same_gives exp c.paired.result _ _ (ap (λ x. rule_at c.args.room (forms.rule_of x) (lexemes c.args.tokens.now)) c.in-Pair.is) c.paired.ensures.gives

pub worded-returns-in-Approval-clause-gives : goal.worded-returns-in-Approval-clause-gives
worded-returns-in-Approval-clause-gives t c = same_gives exp c.approval.result _ _ (ap (λ x. rule_at c.args.room (forms.rule_of x) (lexemes c.args.tokens.now)) c.in-Approval.is ∙ approval_rule c.args.room (lexemes c.args.tokens.now)) c.approval.ensures.gives

pub worded-returns-in-Quantifier-clause-gives : goal.worded-returns-in-Quantifier-clause-gives
worded-returns-in-Quantifier-clause-gives t c = same_gives exp c.quantified.result _ _ (ap (λ x. rule_at c.args.room (forms.rule_of x) (lexemes c.args.tokens.now)) c.in-Quantifier.is) c.quantified.ensures.gives

-- ---- lists

pub list-returns-in_err-first-clause-gives : goal.list-returns-in_err-first-clause-gives
list-returns-in_err-first-clause-gives t c =
    let p = err_from_is_err_and c.from_residual.result c.from_residual.ensures.1 in
    rw (p.1, p.2) (first_err exp all_of _ _ _ _ (whole_list c.args.mode c.args.tier c.args.room (lexemes c.args.tokens.now)) c.in_err-first.ensures.gives)

pub list-more-init : goal.list-more-init
list-more-init t c = record {
  low = omega (arith, c.in_ok-first.ensures.low);
  same = ap (λ (xs : List Expr). listed c.args.room (whole c.args.mode c.args.tier) (exps xs) c.in_ok-first.first.height (lexemes c.in_ok-first.first.rest.now)) c.in_ok-single.ensures.ok
      ∙ sym (whole_list c.args.mode c.args.tier c.args.room (lexemes c.args.tokens.now) ∙ ap (λ out. on language out (λ b i mid. listed c.args.room (whole c.args.mode c.args.tier) (b ∷ []) i mid)) c.in_ok-first.ensures.gives);
}

pub list-more-preserved : goal.list-more-preserved
list-more-preserved t c =
    let p = whole c.args.mode c.args.tier in
    let begins : has (first language (behind_comma p)) (next language (lexemes c.more.found.rest.now)) ≡ true = begins_comma c.args.room p _ ∙ sym c.next_is.ensures ∙ c.more-test.true in
    record {
      low = omega (arith, c.in_ok-found.ensures.low);
      same = sym (many.goes (entered c.args.room (behind_comma p)) (first language (behind_comma p)) (comma_takes c.args.mode c.args.tier c.args.room) _ _ _ _ _ _ begins c.in_ok-found.ensures.gives) ∙ c.more.invariant.same;
    }

pub list-more-smaller : goal.list-more-smaller
list-more-smaller t c =
    let p = whole c.args.mode c.args.tier in
    let lt = many.shorter (entered c.args.room (behind_comma p)) (first language (behind_comma p)) (comma_takes c.args.mode c.args.tier c.args.room) _ _ (lexemes c.more.found.rest.now) _ _ (lexemes c.in_ok-found.found.rest.now) c.in_ok-found.ensures.gives in
    omega (arith, lt, length-map c.more.found.rest.now lexeme, length-map c.in_ok-found.found.rest.now lexeme)

pub list-returns-in_err-found-clause-gives : goal.list-returns-in_err-found-clause-gives
list-returns-in_err-found-clause-gives t c =
    let q = err_from_is_err_and c.from_residual-in_err-found.result c.from_residual-in_err-found.ensures.1 in
    let p = whole c.args.mode c.args.tier in
    let begins : has (first language (behind_comma p)) (next language (lexemes c.more.found.rest.now)) ≡ true = begins_comma c.args.room p _ ∙ sym c.next_is.ensures ∙ c.more-test.true in
    rw (q.1, q.2) (many.fails_at (entered c.args.room (behind_comma p)) (first language (behind_comma p)) (comma_takes c.args.mode c.args.tier c.args.room) all_of all_of _ _ _ _ _ begins c.in_err-found.ensures.gives c.more.invariant.same)

pub list-returns-clause-gives : goal.list-returns-clause-gives
list-returns-clause-gives t c =
    let p = whole c.args.mode c.args.tier in
    let ends : has (first language (behind_comma p)) (next language (lexemes c.more.found.rest.now)) ≡ false = begins_comma c.args.room p _ ∙ sym c.next_is.ensures ∙ c.more-test.false in
    sym c.more.invariant.same ∙ many.stop (entered c.args.room (behind_comma p)) (first language (behind_comma p)) (comma_takes c.args.mode c.args.tier c.args.room) _ _ _ ends

-- ---- owned sets

pub owned_set-returns-in_err-left-clause-gives : goal.owned_set-returns-in_err-left-clause-gives
owned_set-returns-in_err-left-clause-gives t c =
    let p = err_from_is_err_and c.from_residual.result c.from_residual.ensures.1 in
    rw (p.1, p.2) (first_err exp exp _ _ _ _ (set_read c.args.room (lexemes c.args.tokens.now)) c.in_err-left.ensures.gives)

pub owned_set-returns-clause-gives : goal.owned_set-returns-clause-gives
owned_set-returns-clause-gives t c = then_gives exp c.climb.result _ _ _ _ _ _ (set_read c.args.room (lexemes c.args.tokens.now)) c.in_ok-left.ensures.gives c.climb.ensures.gives

pub set_start-returns-then-room-eq0-clause-gives : goal.set_start-returns-then-room-eq0-clause-gives
set_start-returns-then-room-eq0-clause-gives t c = reads_none c.args.room g.SetStart (lexemes c.args.tokens.now) c.if-room-eq0.true

pub set_start-returns-in-None-clause-gives : goal.set_start-returns-in-None-clause-gives
set_start-returns-in-None-clause-gives t c = same_gives exp c.set_primary.result _ _ (reads_rule c.args.room g.SetStart (lexemes c.args.tokens.now) c.if-room-eq0.false ∙ start_primary (c.args.room - 1) (lexemes c.args.tokens.now) c.in-None.ensures) c.set_primary.ensures.gives

pub set_start-returns-in-Some-clause-gives : goal.set_start-returns-in-Some-clause-gives
set_start-returns-in-Some-clause-gives t c = same_gives exp c.set_quantifier.result _ _ (reads_rule c.args.room g.SetStart (lexemes c.args.tokens.now) c.if-room-eq0.false ∙ start_quantifier c.in-Some.quantifier (c.args.room - 1) (lexemes c.args.tokens.now) c.in-Some.ensures) c.set_quantifier.ensures.gives

pub set_primary-returns-then-next_is_name-clause-gives : goal.set_primary-returns-then-next_is_name-clause-gives
set_primary-returns-then-next_is_name-clause-gives t c = same_gives exp c.named.result _ _ (set_named c.args.room (lexemes c.args.tokens.now) (eq_true _ _ (sym c.next_is_name.ensures ∙ c.if-next_is_name.true))) c.named.ensures.gives

pub set_primary-returns-in-None-clause-gives : goal.set_primary-returns-in-None-clause-gives
set_primary-returns-in-None-clause-gives t c = same_gives exp c.unnamed.result _ _ (set_other c.args.room (lexemes c.args.tokens.now) (sym c.next_is_name.ensures ∙ c.if-next_is_name.false) c.in-None.ensures.none) c.unnamed.ensures.gives

pub set_primary-returns-in-Some-clause-gives : goal.set_primary-returns-in-Some-clause-gives
set_primary-returns-in-Some-clause-gives t c = let w = c.in-Some.ensures.some in same_gives exp c.formed.result _ _ (set_form c.in-Some.form c.args.room (lexemes c.args.tokens.now) w.1 w.0) c.formed.ensures.gives

-- ---- quantifiers right of `\in`

pub set_quantifier-returns-in_err-fits-clause-gives : goal.set_quantifier-returns-in_err-fits-clause-gives
set_quantifier-returns-in_err-fits-clause-gives t c =
    let p = err_from_is_err_and c.from_residual.result c.from_residual.ensures.1 in
    let e = c.in_err-fits.ensures.err in
    rw (p.1, p.2) (high_gives exp _ _ _ e.1 (quantifier_high c.args.quantifier c.args.room (lexemes c.args.tokens.now) c.requires.here e.0))

pub set_quantifier-returns-clause-gives : goal.set_quantifier-returns-clause-gives
set_quantifier-returns-clause-gives t c = same_gives exp c.quantified.result _ _ (quantifier_fits c.args.quantifier c.args.room (lexemes c.args.tokens.now) c.requires.here c.in_ok-fits.ensures.ok) c.quantified.ensures.gives

pub set_body-returns-in_err-left-clause-gives : goal.set_body-returns-in_err-left-clause-gives
set_body-returns-in_err-left-clause-gives t c =
    let p = err_from_is_err_and c.from_residual.result c.from_residual.ensures.1 in
    rw (p.1, p.2) (first_err exp exp _ _ _ _ (body_read c.args.room (lexemes c.args.tokens.now)) c.in_err-left.ensures.gives)

pub set_body-returns-clause-gives : goal.set_body-returns-clause-gives
set_body-returns-clause-gives t c = then_gives exp c.joined_behind.result _ _ _ _ _ _ (body_read c.args.room (lexemes c.args.tokens.now)) c.in_ok-left.ensures.gives c.joined_behind.ensures.gives

pub set_conjunction-returns-in_err-left-clause-gives : goal.set_conjunction-returns-in_err-left-clause-gives
set_conjunction-returns-in_err-left-clause-gives t c =
    let p = err_from_is_err_and c.from_residual.result c.from_residual.ensures.1 in
    rw (p.1, p.2) (first_err exp exp _ _ _ _ (conjunction_read c.args.room (lexemes c.args.tokens.now)) c.in_err-left.ensures.gives)

pub set_conjunction-returns-clause-gives : goal.set_conjunction-returns-clause-gives
set_conjunction-returns-clause-gives t c = then_gives exp c.joined_behind.result _ _ _ _ _ _ (conjunction_read c.args.room (lexemes c.args.tokens.now)) c.in_ok-left.ensures.gives c.joined_behind.ensures.gives

pub memberships-returns-in_err-left-clause-gives : goal.memberships-returns-in_err-left-clause-gives
memberships-returns-in_err-left-clause-gives t c =
    let p = err_from_is_err_and c.from_residual.result c.from_residual.ensures.1 in
    rw (p.1, p.2) (first_err exp exp _ _ _ _ (memberships_read c.args.room (lexemes c.args.tokens.now)) c.in_err-left.ensures.gives)

pub memberships-returns-clause-gives : goal.memberships-returns-clause-gives
memberships-returns-clause-gives t c = then_gives exp c.joined_behind.result _ _ _ _ _ _ (memberships_read c.args.room (lexemes c.args.tokens.now)) c.in_ok-left.ensures.gives c.joined_behind.ensures.gives

pub first_membership-returns-in_err-left-clause-gives : goal.first_membership-returns-in_err-left-clause-gives
first_membership-returns-in_err-left-clause-gives t c =
    let p = err_from_is_err_and c.from_residual.result c.from_residual.ensures.1 in
    rw (p.1, p.2) (first_err exp exp _ _ _ _ (membership_read c.args.room (lexemes c.args.tokens.now)) c.in_err-left.ensures.gives)

pub first_membership-returns-clause-gives : goal.first_membership-returns-clause-gives
first_membership-returns-clause-gives t c = then_gives exp c.operation.result _ _ _ _ _ _ (membership_read c.args.room (lexemes c.args.tokens.now)) c.in_ok-left.ensures.gives (same_gives exp c.operation.result _ _ (held membership c.args.room c.in_ok-left.left.height (lexemes c.in_ok-left.left.rest.now) (ap exp c.in_ok-boxed.ensures.ok)) c.operation.ensures.gives)

pub element-returns-then-room-eq0-clause-gives : goal.element-returns-then-room-eq0-clause-gives
element-returns-then-room-eq0-clause-gives t c = reads_none c.args.room g.Element (lexemes c.args.tokens.now) c.if-room-eq0.true

pub element-returns-in_err-left-clause-gives : goal.element-returns-in_err-left-clause-gives
element-returns-in_err-left-clause-gives t c =
    let p = err_from_is_err_and c.from_residual.result c.from_residual.ensures.1 in
    rw (p.1, p.2) (first_err exp exp _ _ _ _ (element_read c.args.room (lexemes c.args.tokens.now) c.if-room-eq0.false) c.in_err-left.ensures.gives)

pub element-returns-clause-gives : goal.element-returns-clause-gives
element-returns-clause-gives t c = then_gives exp c.arrows.result _ _ _ _ _ _ (element_read c.args.room (lexemes c.args.tokens.now) c.if-room-eq0.false) c.in_ok-left.ensures.gives c.arrows.ensures.gives

pub element_start-returns-in_default-clause-gives : goal.element_start-returns-in_default-clause-gives
element_start-returns-in_default-clause-gives t c = same_gives exp c.set_primary.result _ _ (element_primary c.args.room (lexemes c.args.tokens.now) c.in_default.ensures) c.set_primary.ensures.gives

pub element_start-returns-in_err-fits-clause-gives : goal.element_start-returns-in_err-fits-clause-gives
element_start-returns-in_err-fits-clause-gives t c =
    let p = err_from_is_err_and c.from_residual.result c.from_residual.ensures.1 in
    let e = c.in_err-fits.ensures.err in
    rw (p.1, p.2) (high_gives exp _ _ _ e.1 (element_high c.in-Some.quantifier c.args.room (lexemes c.args.tokens.now) c.in-Some.ensures e.0))

pub element_start-returns-clause-gives : goal.element_start-returns-clause-gives
element_start-returns-clause-gives t c = same_gives exp c.quantified_field.result _ _ (element_fits c.in-Some.quantifier c.args.room (lexemes c.args.tokens.now) c.in-Some.ensures c.in_ok-fits.ensures.ok) c.quantified_field.ensures.gives

pub quantified_field-returns-in_err-left-clause-gives : goal.quantified_field-returns-in_err-left-clause-gives
quantified_field-returns-in_err-left-clause-gives t c =
    let p = err_from_is_err_and c.from_residual.result c.from_residual.ensures.1 in
    rw (p.1, p.2) (first_err exp exp _ _ _ _ (field_read c.args.room (lexemes c.args.tokens.now) (λ z. absurd (omega (arith, z, c.requires.fits)))) c.in_err-left.ensures.gives)

pub quantified_field-returns-clause-gives : goal.quantified_field-returns-clause-gives
quantified_field-returns-clause-gives t c = then_gives exp c.first_arrow.result _ _ _ _ _ _ (field_read c.args.room (lexemes c.args.tokens.now) (λ z. absurd (omega (arith, z, c.requires.fits)))) c.in_ok-left.ensures.gives c.first_arrow.ensures.gives

pub joined_behind-returns-then-not-next_joins-clause-gives : goal.joined_behind-returns-then-not-next_joins-clause-gives
joined_behind-returns-then-not-next_joins-clause-gives t c = sym c.chain.invariant.same ∙ stop c.args.room (following c.args.joint) _ _ _ _ (sym c.next_joins.ensures ∙ c.if-not-next_joins.true)

pub joined_behind-returns-in_err-found-clause-gives : goal.joined_behind-returns-in_err-found-clause-gives
joined_behind-returns-in_err-found-clause-gives t c =
    let p = err_from_is_err_and c.from_residual.result c.from_residual.ensures.1 in
    let n : c.args.room + 1 - c.chain.counter ≡ suc (c.args.room - c.chain.counter) = omega (arith, c.chain-test.true) in
    rw (p.1, p.2) (fails_from c.args.room (following c.args.joint) exp exp _ _ _ _ _ _ _ n (sym c.next_joins.ensures ∙ c.if-not-next_joins.false) c.in_err-found.ensures.gives c.chain.invariant.same)

pub joined_behind-chain-preserved : goal.joined_behind-chain-preserved
joined_behind-chain-preserved t c =
    let n : c.args.room + 1 - c.chain.counter ≡ suc (c.args.room + 1 - (c.chain.counter + 1)) = omega (arith, c.chain-test.true) in
    record {
      low = omega (arith, c.in_ok-found.ensures.low);
      same = goes_from c.args.room (following c.args.joint) _ _ _ _ _ _ _ _ _ n (sym c.next_joins.ensures ∙ c.if-not-next_joins.false) c.in_ok-found.ensures.gives c.chain.invariant.same;
    }

pub joined_behind-returns-then-next_joins-clause-gives : goal.joined_behind-returns-then-next_joins-clause-gives
joined_behind-returns-then-next_joins-clause-gives t c =
    let n : c.args.room + 1 - c.chain.counter ≡ 0 = omega (arith, c.chain-test.false) in
    over_from c.args.room (following c.args.joint) _ _ _ _ _ n (sym c.next_joins-2.ensures ∙ c.if-next_joins.true) c.chain.invariant.same

pub joined_behind-returns-clause-gives : goal.joined_behind-returns-clause-gives
joined_behind-returns-clause-gives t c = sym c.chain.invariant.same ∙ stop c.args.room (following c.args.joint) _ _ _ _ (sym c.next_joins-2.ensures ∙ c.if-next_joins.false)

pub one_joint-returns-in_err-fits-clause-gives : goal.one_joint-returns-in_err-fits-clause-gives
one_joint-returns-in_err-fits-clause-gives t c =
    let p = err_from_is_err_and c.from_residual-in_err-fits.result c.from_residual-in_err-fits.ensures.1 in
    let e = c.in_err-fits.ensures.err in
    rw (p.1, p.2) (high_gives exp _ _ _ e.1 (joint_high (following c.args.joint) c.args.room _ _ _ (rooms c.args.room _ c.least_behind.ensures c.max.ensures ∙ e.0)))

pub one_joint-returns-clause-gives : goal.one_joint-returns-clause-gives
one_joint-returns-clause-gives t c = same_gives exp c.operation.result _ _ (joint_low (following c.args.joint) c.args.room _ _ _ (rooms c.args.room _ c.least_behind.ensures c.max.ensures ∙ c.in_ok-fits.ensures.ok) ∙ held (following c.args.joint) c.args.room c.args.left.height (lexemes c.args.left.rest.now) (ap exp c.in_ok-boxed.ensures.ok) ∙ joint_of c.args.joint c.args.room _ c.args.left.height (lexemes c.args.left.rest.now) c.following-operator.ensures) c.operation.ensures.gives

-- ---- operands

pub operand-returns-in_err-found-clause-placed : goal.operand-returns-in_err-found-clause-placed
operand-returns-in_err-found-clause-placed t c =
    let p = err_from_is_err_and c.from_residual.result c.from_residual.ensures.1 in
    rw (p.1, p.2) (first_err exp unboxed _ _ _ _ (at_is c.args.operand c.args.room (lexemes c.args.tokens.now)) c.in_err-found.ensures.gives)

pub operand-returns-clause-placed : goal.operand-returns-clause-placed
operand-returns-clause-placed t c = placed c.args.operand c.args.room _ (lexemes c.args.tokens.now) _ (ap exp c.in_ok-value.ensures.ok) c.in_ok-found.ensures.gives

pub unboxed_operand-returns-then-room-eq0-clause-gives : goal.unboxed_operand-returns-then-room-eq0-clause-gives
unboxed_operand-returns-then-room-eq0-clause-gives t c = none_read c.args.operand c.args.room (lexemes c.args.tokens.now) c.if-room-eq0.true

pub unboxed_operand-returns-in-Level-clause-gives : goal.unboxed_operand-returns-in-Level-clause-gives
unboxed_operand-returns-in-Level-clause-gives t c = same_gives exp c.on_level.result _ _ (ap (λ x. outcome c.args.room x (lexemes c.args.tokens.now)) c.in-Level.is ∙ reads_rule c.args.room (level c.in-Level.mode c.in-Level.tier) (lexemes c.args.tokens.now) c.if-room-eq0.false) c.on_level.ensures.gives

pub unboxed_operand-returns-in-OwnedSet-clause-gives : goal.unboxed_operand-returns-in-OwnedSet-clause-gives
unboxed_operand-returns-in-OwnedSet-clause-gives t c = same_gives exp c.owned_set.result _ _ (ap (λ x. outcome c.args.room x (lexemes c.args.tokens.now)) c.in-OwnedSet.is ∙ reads_rule c.args.room g.OwnedSet (lexemes c.args.tokens.now) c.if-room-eq0.false) c.owned_set.ensures.gives

pub unboxed_operand-returns-in-Membership-clause-gives : goal.unboxed_operand-returns-in-Membership-clause-gives
unboxed_operand-returns-in-Membership-clause-gives t c = same_gives exp c.memberships.result _ _ (ap (λ x. outcome c.args.room x (lexemes c.args.tokens.now)) c.in-Membership.is ∙ reads_rule c.args.room g.Membership (lexemes c.args.tokens.now) c.if-room-eq0.false) c.memberships.ensures.gives

pub unboxed_operand-returns-in-SetBody-clause-gives : goal.unboxed_operand-returns-in-SetBody-clause-gives
unboxed_operand-returns-in-SetBody-clause-gives t c = same_gives exp c.set_body.result _ _ (ap (λ x. outcome c.args.room x (lexemes c.args.tokens.now)) c.in-SetBody.is ∙ reads_rule c.args.room g.SetBody (lexemes c.args.tokens.now) c.if-room-eq0.false) c.set_body.ensures.gives
