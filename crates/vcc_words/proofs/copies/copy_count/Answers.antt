use Rattle.std.proofs.Common.{◌≡◌, [], ◌∷◌, ap, sym, length, arith, string_bytes, codes, ◌∙◌}
use Rattle.std.proofs.lemmas.Bool.{both_ways}
use Rattle.std.proofs.lemmas.Slice.Eq.{bytes_eq-Decides}
use Rattle.vcc_words.specs.Words.{texts}
use Rattle.vcc_words.proofs.Words.{same_bytes}
use Rattle.vcc_words.proofs.Copying.{copies_of, no_copies, two}
use Rattle.vcc_words.proofs.copies.copy_count.Goals as goal

pub returns-then-eq : goal.returns-then-eq
returns-then-eq c =
    let count : length c.args.words.now ≡ 2 = omega arith in
    let all = ap texts (two c.args.words.now c.word-item.result c.count-item.result count c.word-item.is c.count-item.is) in
    let word : string_bytes c.word-item.result ≡ codes "gen" = sym c.as_str.ensures.value ∙ (bytes_eq-Decides c.as_str.result.now (codes "gen")).0 (sym c.eq.ensures ∙ c.if-eq.true) in
    let text = c.as_bytes.ensures.value in
    let are : texts c.args.words.now ≡ codes "gen" ∷ c.as_bytes.result.now ∷ [] = cc in
    copies_of (texts c.args.words.now) c.as_bytes.result.now c.number.result are c.number.ensures

pub returns-else-eq : goal.returns-else-eq
returns-else-eq c =
    let count : length c.args.words.now ≡ 2 = omega arith in
    let all = ap texts (two c.args.words.now c.word-item.result c.count-item.result count c.word-item.is c.count-item.is) in
    no_copies (texts c.args.words.now) (string_bytes c.word-item.result) (string_bytes c.count-item.result) all (λ is.
    both_ways _ c.if-eq.false (c.eq.ensures ∙ same_bytes c.as_str.result.now (codes "gen") (c.as_str.ensures.value ∙ is)))
