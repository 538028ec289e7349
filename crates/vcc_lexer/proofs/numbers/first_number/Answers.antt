use Rattle.std.proofs.Common.{◌≡◌, ℕ, ◌+◌, true, sym, subst}
use Rattle.std.proofs.lemmas.List.Elements.{All-same}
use Rattle.c_syntax.specs.Numbers.{is_digit_of}
use Rattle.c_syntax.specs.Tokens as t
use Rattle.vcc_lexer.specs.First.{IsTaken}
use Rattle.vcc_lexer.specs.NumberTexts.{base_of}
use Rattle.vcc_lexer.proofs.Shapes.{digits_cut, letters_cut, digits_in, letters_in, shape_taken, number_refused, number_taken, writes_cut}
use Rattle.vcc_lexer.proofs.numbers.first_number.Goals as goal

pub value_of-requires : goal.value_of-requires
value_of-requires c =
    let base = base_of c.number_counts-counts.result.base in
    let d : ℕ = c.number_counts-counts.result.digits in
    let l : ℕ = c.number_counts-counts.result.letters in
    All-same (λ b. is_digit_of base b ≡ true) _ _ (digits_cut base d c.prefix_length-prefix.result c.args.text.now c.split_at.result.1.now c.split_at-2.result.0.now c.prefix_length-prefix.ensures c.split_at.ensures.back c.split_at-2.ensures.front) (shape_taken base d l c.args.text.now c.number_counts-counts.ensures).all_digits

pub returns-in_default : goal.returns-in_default
returns-in_default c =
    let base = base_of c.number_counts-counts.result.base in
    let d : ℕ = c.number_counts-counts.result.digits in
    let l : ℕ = c.number_counts-counts.result.letters in
    let digits = digits_cut base d c.prefix_length-prefix.result c.args.text.now c.split_at.result.1.now c.split_at-2.result.0.now c.prefix_length-prefix.ensures c.split_at.ensures.back c.split_at-2.ensures.front in
    let letters = letters_cut base d l c.prefix_length-prefix.result c.args.text.now c.split_at.result.1.now c.split_at-2.result.1.now c.split_at-3.result.0.now c.prefix_length-prefix.ensures c.split_at.ensures.back c.split_at-2.ensures.back c.split_at-3.ensures.front in
    number_refused base d l c.args.text.now c.number_counts-counts.ensures (λ v ty w. c.in_default.ensures v ty (writes_cut base (digits_in base d c.args.text.now) (letters_in base d l c.args.text.now) c.split_at-2.result.0.now c.split_at-3.result.0.now v ty (sym digits) (sym letters) w))

pub returns : goal.returns
returns c =
    let base = base_of c.number_counts-counts.result.base in
    let d : ℕ = c.number_counts-counts.result.digits in
    let l : ℕ = c.number_counts-counts.result.letters in
    let digits = digits_cut base d c.prefix_length-prefix.result c.args.text.now c.split_at.result.1.now c.split_at-2.result.0.now c.prefix_length-prefix.ensures c.split_at.ensures.back c.split_at-2.ensures.front in
    let letters = letters_cut base d l c.prefix_length-prefix.result c.args.text.now c.split_at.result.1.now c.split_at-2.result.1.now c.split_at-3.result.0.now c.prefix_length-prefix.ensures c.split_at.ensures.back c.split_at-2.ensures.back c.split_at-3.ensures.front in
    subst (λ p. IsTaken c.args.text.now (t.Number c.in-Some.value c.in-Some.ty) (p + d + l)) (sym c.prefix_length-prefix.ensures)
    (number_taken base d l c.args.text.now c.in-Some.value c.in-Some.ty c.number_counts-counts.ensures (writes_cut base c.split_at-2.result.0.now c.split_at-3.result.0.now (digits_in base d c.args.text.now) (letters_in base d l c.args.text.now) c.in-Some.value c.in-Some.ty digits letters c.in-Some.ensures))
