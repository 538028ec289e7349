use Rattle.std.proofs.Common.{◌≡◌, ◌≤◌, ℕ, List, length, map, Ok, Err, subst, ap, ◌∙◌}
use Rattle.std.proofs.lemmas.List.{length-map}
use Rattle.c_syntax.specs.declared.token.Token.{Token}
use Rattle.c_syntax.specs.Tokens as t
use Rattle.c_syntax.specs.Lexing.{lexeme, lexeme_at}
use Rattle.c_syntax.specs.Faults.{read_source}
use Rattle.c_syntax.specs.Views.{item}
use Rattle.c_source.specs.Sources.{IsFaultOrMemory}
use Rattle.reader_expressions.specs.Reading.{lexemes}
use Rattle.c_reader.specs.Reading.{IsRead}
use Rattle.c_reader.proofs.Whole.{Found, few_parts, read_text, read_fault, no_other, other_fault, only_text, only_fault}
use Rattle.c_reader.proofs.source.read_source.Goals as goal

pub returns-in-Err-clause-fault : goal.returns-in-Err-clause-fault
returns-in-Err-clause-fault c = c.of_tokens.ensures c.args.bytes.now c.in-Err.ensures.fault

pub returns-in-Err-clause-only : goal.returns-in-Err-clause-only
returns-in-Err-clause-only c = λ items end text within. no_other c.args.bytes.now items end text c.of_tokens.result within (c.of_tokens.ensures c.args.bytes.now c.in-Err.ensures.fault)

pub returns-in-Err-clause-first : goal.returns-in-Err-clause-first
returns-in-Err-clause-first c = λ fault x. other_fault c.args.bytes.now fault c.of_tokens.result x (c.of_tokens.ensures c.args.bytes.now c.in-Err.ensures.fault)

few : (tokens : List Token) → length tokens ≤ 262145 → length (map lexeme tokens) ≤ 262145
few tokens h = rw (length-map tokens lexeme) h

found : (g : goal.After-drop-tokens) → Found g.args.bytes.now (record { items = g.in-Ok-items.items; end = g.last_place.result })
found g =
    let lexes = g.in-Ok.ensures.lexes in
    let shown = g.as_slice.ensures.value in
    let read = subst (λ (ts : List Token). (h : ℕ) × (read_source (lexemes ts) ≡ Ok (map item g.in-Ok-items.items.items, h))) shown g.in-Ok-items.ensures.read in
    read_text g.args.bytes.now (map lexeme g.in-Ok.tokens.items) (map item g.in-Ok-items.items.items) read.0 g.last_place.result lexes (few g.in-Ok.tokens.items g.in-Ok.ensures.few) read.1 (g.last_place.ensures lexes.before (lexeme_at lexes.end t.End 0) (ap lexemes g.as_slice-in-Ok-items.ensures.value ∙ lexes.last))

pub returns-in-Ok-items-clause-reads : goal.returns-in-Ok-items-clause-reads
returns-in-Ok-items-clause-reads c = found c

pub returns-in-Ok-items-clause-few : goal.returns-in-Ok-items-clause-few
returns-in-Ok-items-clause-few c = few_parts c.args.bytes.now (record { items = c.in-Ok-items.items; end = c.last_place.result }) (found c)

pub returns-in-Ok-items-clause-only : goal.returns-in-Ok-items-clause-only
returns-in-Ok-items-clause-only c = only_text c.args.bytes.now (Ok (record { items = c.in-Ok-items.items; end = c.last_place.result })) (found c) tt

pub returns-in-Ok-items-clause-first : goal.returns-in-Ok-items-clause-first
returns-in-Ok-items-clause-first c = only_fault c.args.bytes.now (Ok (record { items = c.in-Ok-items.items; end = c.last_place.result })) (found c) tt

failed : (g : goal.After-drop-tokens-2) → IsFaultOrMemory g.args.bytes.now g.in-Err-items.fault
failed g = read_fault g.args.bytes.now (map lexeme g.in-Ok.tokens.items) g.in-Err-items.fault g.in-Ok.ensures.lexes (few g.in-Ok.tokens.items g.in-Ok.ensures.few) (subst (λ (ts : List Token). IsRead (Err g.in-Err-items.fault) (read_source (lexemes ts))) g.as_slice.ensures.value g.in-Err-items.ensures.read)

pub returns-clause-fault : goal.returns-clause-fault
returns-clause-fault c = failed c

pub returns-clause-only : goal.returns-clause-only
returns-clause-only c = λ items end text within. no_other c.args.bytes.now items end text c.in-Err-items.fault within (failed c)

pub returns-clause-first : goal.returns-clause-first
returns-clause-first c = λ fault x. other_fault c.args.bytes.now fault c.in-Err-items.fault x (failed c)
