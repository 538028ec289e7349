use Rattle.std.proofs.Common.{get_or, sym}
use Rattle.std.proofs.lemmas.List.{take_all, get_or_default}
use Rattle.std.proofs.lemmas.List.Elements.{All-more, All-same}
use Rattle.c_syntax.specs.declared.token.Sign.TheVariants as s
use Rattle.vcc_lexer.specs.First.{NotBegins}
use Rattle.vcc_lexer.proofs.SignChoice.{begins_by, not_begins_by}
use Rattle.vcc_lexer.proofs.signs.find_sign.Goals as goal

pub returns-then-starts_with : goal.returns-then-starts_with
returns-then-starts_with c = (
  begins_by c.args.text.now c.sign_text.result.now (get_or c.args.among.now c.loop-x.x-index s.Open) c.starts_with.result c.starts_with.ensures.value c.sign_text.ensures c.if-starts_with.true,
  (c.loop-x.x-index, c.loop-x-test.true, get_or_default c.args.among.now c.loop-x.x-index (get_or c.args.among.now c.loop-x.x-index s.Open) s.Open c.loop-x-test.true),
)

pub loop-x-preserved : goal.loop-x-preserved
loop-x-preserved c = All-more (NotBegins c.args.text.now) c.args.among.now c.loop-x.x-index s.Open c.loop-x-test.true c.loop-x.invariant (not_begins_by c.args.text.now c.sign_text.result.now (get_or c.args.among.now c.loop-x.x-index s.Open) c.starts_with.result c.starts_with.ensures.value c.sign_text.ensures c.if-starts_with.false)

pub returns : goal.returns
returns c = All-same (NotBegins c.args.text.now) _ _ (sym (take_all c.loop-x.x-index c.args.among.now c.loop-x-test.false)) c.loop-x.invariant
