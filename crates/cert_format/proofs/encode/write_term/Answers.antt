use Rattle.std.proofs.Common.{◌∷◌, ◌++◌, List, ℕ, codes, decimal, map, ap, ap₂, ◌∙◌}
use Rattle.cert_format.specs.Text.{Word, index_words, kind_text, words_behind}
use Rattle.cert_format.proofs.Writing.{written_term}
use Rattle.cert_format.proofs.encode.write_term.Goals as goal

pub returns : goal.returns
returns c =
    let name = c.in_ok-write_word.ensures.text ∙ ap₂ (λ (a : List ℕ) (b : Word). a ++ 32 ∷ b) c.in_ok-extend_from_slice.ensures.items c.kind_name.ensures in
    let index = c.in_ok-write_index.ensures.text ∙ ap (λ (t : List ℕ). t ++ words_behind (index_words c.args.term.now)) name in
    let args = c.in_ok-write_arguments.ensures.text ∙ ap₂ (λ (a : List ℕ) (b : List ℕ). a ++ words_behind (map decimal b)) index c.numbers.ensures in
    let end = c.in_ok-extend_from_slice-2.ensures.items ∙ ap (λ (t : List ℕ). t ++ codes "\n") args in
    record { text = end ∙ written_term c.args.out.now.items (kind_text c.args.term.now.kind) (index_words c.args.term.now) (map decimal c.args.term.now.args) }
