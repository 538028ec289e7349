use Rattle.std.proofs.Common.{◌≡◌, false, length, get_or, sym, ap, ◌∙◌, subst}
use Rattle.c_syntax.specs.Numbers.{is_letter, is_digit}
use Rattle.c_syntax.specs.Tokens as t
use Rattle.vcc_lexer.specs.First.{IsTaken}
use Rattle.vcc_lexer.proofs.Longest.{sign_taken, bad_byte, no_name_by}
use Rattle.vcc_lexer.proofs.first.first_token.Goals as goal
use Rattle.vcc_lexer.proofs.first.first_token.Goals.{else-first-eq92-via-then-first-eq92+else-is_in-3, else-first-eq92-via-else-first-eq92}

pub returns-in-Some-clause-found : goal.returns-in-Some-clause-found
returns-in-Some-clause-found c = subst (λ n. IsTaken c.args.text.now (t.Mark c.in-Some.sign) n) (sym (ap length c.sign_text.ensures)) (sign_taken c.args.text.now c.in-Some.sign c.in-Some.ensures.0 c.in-Some.ensures.1)

pub returns-clause-bad : goal.returns-clause-bad
returns-clause-bad c =
    bad_byte c.args.text.now (record {
      no_sign = c.in_default.ensures;
      no_name = no_name_by (get_or c.args.text.now 0 0) (λ e. c.if-first-eq95.false (c.byte_at-first.ensures ∙ e)) (sym (ap is_letter c.byte_at-first.ensures) ∙ sym c.is_in.ensures ∙ c.if-is_in.false);
      no_digit = sym (ap is_digit c.byte_at-first.ensures) ∙ sym c.is_in-2.ensures ∙ c.if-is_in-2.false;
      no_spec = λ e l. elim c.else-first-eq92.branch [
        | else-first-eq92-via-then-first-eq92+else-is_in-3 w ↦ let at : is_letter (get_or c.args.text.now 1 0) ≡ false = sym (ap is_letter w.byte_at.ensures) ∙ sym w.is_in-then-first-eq92.ensures ∙ w.if-is_in-3.false in absurd cc
        | else-first-eq92-via-else-first-eq92 w ↦ absurd (w.if-first-eq92.false (c.byte_at-first.ensures ∙ e))
      ];
    })
