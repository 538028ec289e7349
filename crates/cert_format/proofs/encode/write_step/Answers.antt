use Rattle.std.proofs.Common.{◌∷◌, ◌++◌, List, ℕ, ℤ, codes, map, ap, ap₂, ◌∙◌}
use Rattle.std.specs.Fmt.{signed_decimal}
use Rattle.terms.specs.declared.term.Literal.{Literal}
use Rattle.cert_format.specs.Text.{Word, literal_text, rule_text, words_behind}
use Rattle.cert_format.proofs.Writing.{written_step}
use Rattle.cert_format.proofs.encode.write_step.Goals as goal

pub returns : goal.returns
returns c =
    let name = c.in_ok-write_word.ensures.text ∙ ap₂ (λ (a : List ℕ) (b : Word). a ++ 32 ∷ b) c.in_ok-extend_from_slice.ensures.items c.rule_name.ensures in
    let numbers = c.in_ok-write_numbers.ensures.text ∙ ap₂ (λ (a : List ℕ) (b : List ℤ). a ++ words_behind (map signed_decimal b)) name c.as_slice.ensures in
    let sign = c.in_ok-extend_from_slice-2.ensures.items ∙ ap (λ (t : List ℕ). t ++ codes " =") numbers in
    let clause = c.in_ok-write_literals.ensures.text ∙ ap₂ (λ (a : List ℕ) (b : List Literal). a ++ words_behind (map literal_text b)) sign c.literals.ensures in
    let end = c.in_ok-extend_from_slice-3.ensures.items ∙ ap (λ (t : List ℕ). t ++ codes "\n") clause in
    record { text = end ∙ written_step c.args.out.now.items (rule_text c.args.step.now.rule) (map signed_decimal c.args.step.now.numbers) (map literal_text c.args.step.now.clause) }
