use Rattle.std.proofs.Common.{◌∙◌, ap, sym, subst, arith, get_or}
use Rattle.c_syntax.specs.Lexing.{Position, behind_byte}
use Rattle.vcc_lexer.specs.Places.{position}
use Rattle.vcc_lexer.proofs.Places.{behind_more, near_byte, Near}
use Rattle.vcc_lexer.proofs.place.place_after.Goals as goal

pub loop-byte-preserved : goal.loop-byte-preserved
loop-byte-preserved c =
    let b = get_or c.args.text.now c.loop-byte.byte-index 0 in
    let more = behind_more c.args.text.now c.loop-byte.byte-index (position c.args.from) c.loop-byte-test.true in
    let by : Near 1 (position c.loop-byte.place) (position c.behind_byte-place.result) = subst (λ (q : Position). Near 1 (position c.loop-byte.place) q) (sym c.behind_byte-place.ensures) (near_byte b (position c.loop-byte.place) c.loop-byte.invariant.counted) in
    record {
      place = c.behind_byte-place.ensures ∙ ap (behind_byte b) c.loop-byte.invariant.place ∙ sym more;
      offset = omega arith;
      line = omega arith;
      column = omega arith;
      counted = by.some;
    }
