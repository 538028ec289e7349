use Rattle.std.proofs.Common.{◌≡◌, ap, sym, length, arith, rules, string_bytes, subst, ◌∙◌}
use Rattle.std.proofs.lemmas.Bool.{both_ways}
use Rattle.vcc_words.specs.Words.{IsName, texts}
use Rattle.vcc_words.proofs.Words.{three, pair_parts, same_bytes}
use Rattle.vcc_words.proofs.names.named_pair.Goals.{else-eq-via-then-eq+then-is_name+else-is_name-2, else-eq-via-then-eq+else-is_name, else-eq-via-else-eq}
use Rattle.vcc_words.proofs.names.named_pair.Goals as goal

pub returns-then-is_name-2 : goal.returns-then-is_name-2
returns-then-is_name-2 c =
    let count : length c.args.words.now ≡ 3 = omega arith in
    let all = ap texts (three c.args.words.now c.word-item.result c.first-item.result c.second-item.result count c.word-item.is c.first-item.is c.second-item.is) in
    let word : string_bytes c.word-item.result ≡ c.args.command.now = search rules in
    let first = c.as_str-source.ensures.value in
    let second = c.as_str-other.ensures.value in
    record { are = cc; first_name = c.is_name.ensures.0 c.if-is_name.true; second_name = c.is_name-then-is_name.ensures.0 c.if-is_name-2.true }

pub returns-else-eq : goal.returns-else-eq
returns-else-eq c = λ first second pair.
    let count : length c.args.words.now ≡ 3 = omega arith in
    let all = ap texts (three c.args.words.now c.word-item.result c.first-item.result c.second-item.result count c.word-item.is c.first-item.is c.second-item.is) in
    let parts = pair_parts (texts c.args.words.now) c.args.command.now (string_bytes c.word-item.result) first second (string_bytes c.first-item.result) (string_bytes c.second-item.result) all pair in
    elim c.else-eq.branch [
      | else-eq-via-then-eq+then-is_name+else-is_name-2 w ↦ both_ways _ w.if-is_name-2.false (w.is_name-then-is_name.ensures.1 (subst IsName (sym c.as_str-other.ensures.value) parts.2))
      | else-eq-via-then-eq+else-is_name w ↦ both_ways _ w.if-is_name.false (w.is_name.ensures.1 (subst IsName (sym c.as_str-source.ensures.value) parts.1))
      | else-eq-via-else-eq w ↦ both_ways _ w.if-eq.false (c.eq.ensures ∙ same_bytes c.as_str.result.now c.args.command.now (c.as_str.ensures.value ∙ parts.0))
    ]
