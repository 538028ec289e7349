use Rattle.std.proofs.Common.{◌≡◌, ap, sym, length, arith, codes, string_bytes, ◌∙◌}
use Rattle.std.proofs.lemmas.Bool.{both_ways}
use Rattle.std.proofs.lemmas.Slice.Eq.{bytes_eq-Decides}
use Rattle.vcc_words.specs.Words.{texts}
use Rattle.vcc_words.proofs.Words.{four, is_upgrade, same_bytes, upgrade_parts}
use Rattle.vcc_words.proofs.upgrade.upgrade_names.Goals.{else-eq-via-then-eq+then-are_names+else-is_apart, else-eq-via-then-eq+else-are_names, else-eq-via-else-eq}
use Rattle.vcc_words.proofs.upgrade.upgrade_names.Goals as goal

pub returns-then-is_apart : goal.returns-then-is_apart
returns-then-is_apart c =
    let count : length c.args.words.now ≡ 4 = omega arith in
    let all = ap texts (four c.args.words.now c.word-item.result c.first-item.result c.second-item.result c.third-item.result count c.word-item.is c.first-item.is c.second-item.is c.third-item.is) in
    let word : string_bytes c.word-item.result ≡ codes "upgrade" = sym c.as_str.ensures.value ∙ (bytes_eq-Decides c.as_str.result.now (codes "upgrade")).0 (sym c.eq.ensures ∙ c.if-eq.true) in
    is_upgrade (texts c.args.words.now) (string_bytes c.word-item.result) (string_bytes c.first-item.result) (string_bytes c.second-item.result) (string_bytes c.third-item.result)
    c.as_str-source.result.now c.as_str-cert.result.now c.as_str-new.result.now all c.as_str-source.ensures.value c.as_str-cert.ensures.value c.as_str-new.ensures.value word
    (c.are_names.ensures.0 c.if-are_names.true) (c.is_apart.ensures.0 c.if-is_apart.true)

pub returns-else-eq : goal.returns-else-eq
returns-else-eq c = λ source cert new is.
    let count : length c.args.words.now ≡ 4 = omega arith in
    let all = ap texts (four c.args.words.now c.word-item.result c.first-item.result c.second-item.result c.third-item.result count c.word-item.is c.first-item.is c.second-item.is c.third-item.is) in
    let parts = upgrade_parts (texts c.args.words.now) (string_bytes c.word-item.result) (string_bytes c.first-item.result) (string_bytes c.second-item.result) (string_bytes c.third-item.result)
    c.as_str-source.result.now c.as_str-cert.result.now c.as_str-new.result.now all c.as_str-source.ensures.value c.as_str-cert.ensures.value c.as_str-new.ensures.value source cert new is in
    elim c.else-eq.branch [
      | else-eq-via-then-eq+then-are_names+else-is_apart w ↦ both_ways _ w.if-is_apart.false (w.is_apart.ensures.1 (parts.2, parts.3))
      | else-eq-via-then-eq+else-are_names w ↦ both_ways _ w.if-are_names.false (w.are_names.ensures.1 parts.1)
      | else-eq-via-else-eq w ↦ both_ways _ w.if-eq.false (c.eq.ensures ∙ same_bytes c.as_str.result.now (codes "upgrade") (c.as_str.ensures.value ∙ parts.0))
    ]
