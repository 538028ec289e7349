use Rattle.std.proofs.Common.{◌≡◌, ◌-◌, ℕ, List, drop, Err, sym, ap, subst, arith}
use Rattle.ebnf.specs.Reading.{Unexpected, TooDeep, reads}
use Rattle.ebnf.specs.Verdict.{HasEnd}
use Rattle.c_syntax.specs.Language.{language}
use Rattle.c_syntax.specs.Lexing.{Lexeme}
use Rattle.c_syntax.specs.Views.{exp}
use Rattle.reader_expressions.specs.declared.reading.ReadFault.{ReadFault}
use Rattle.reader_expressions.specs.Reading.{Gives, lexemes}
use Rattle.annot_syntax.specs.Pieces.{code_expression, room_within, IsFaultOrMemory}
use Rattle.annot_syntax.proofs.Fronts.{have_end, from_on, fault_at, found_at, only_at, none_beside}
use Rattle.annot_syntax.proofs.expression.read_expression.Goals as goal

pub no_room-requires : goal.no_room-requires
no_room-requires c = subst (λ (ts : List Lexeme). HasEnd language ts) (sym (from_on c.args.tokens.now c.split_at.result.1.now c.args.at c.split_at.ensures.back)) (have_end c.args.tokens.now c.args.at c.requires.end c.requires.at)

pub returns-then-above-eq-MOST_LEVELS-clause-only : goal.returns-then-above-eq-MOST_LEVELS-clause-only
returns-then-above-eq-MOST_LEVELS-clause-only c =
    let is : c.args.above ≡ 200 = c.if-above-eq-MOST_LEVELS.true in
    let nowhere : room_within c.args.above ≡ 0 = ap (λ n. 200 - n) is in
    let fault = subst (λ (ts : List Lexeme). IsFaultOrMemory 0 ts c.no_room.result) (from_on c.args.tokens.now c.split_at.result.1.now c.args.at c.split_at.ensures.back) c.no_room.ensures in
    none_beside (room_within c.args.above) (lexemes c.args.tokens.now) (drop c.args.at (lexemes c.args.tokens.now)) c.no_room.result (subst (λ (r : ℕ). IsFaultOrMemory r (drop c.args.at (lexemes c.args.tokens.now)) c.no_room.result) (sym nowhere) fault)

pub returns-in-Ok-clause-found : goal.returns-in-Ok-clause-found
returns-in-Ok-clause-found c =
    found_at (room_within c.args.above) c.args.tokens.now c.split_at.result.1.now c.in-Ok.found.rest.now c.args.at c.in-Ok.found.height c.saturating_sub-place.result (exp c.in-Ok.found.value) c.split_at.ensures.back c.requires.at (omega arith) c.requires.end c.saturating_sub-place.ensures c.in-Ok.ensures.gives

pub returns-in-Ok-clause-only : goal.returns-in-Ok-clause-only
returns-in-Ok-clause-only c =
    only_at (room_within c.args.above) c.args.tokens.now c.split_at.result.1.now c.in-Ok.found.rest.now c.args.at c.in-Ok.found.height c.saturating_sub-place.result (exp c.in-Ok.found.value) c.split_at.ensures.back c.requires.at (omega arith) c.requires.end c.saturating_sub-place.ensures c.in-Ok.ensures.gives

pub returns-in-Err-Unexpected-clause-fault : goal.returns-in-Err-Unexpected-clause-fault
returns-in-Err-Unexpected-clause-fault c =
    let read = subst (λ (e : ReadFault). Gives exp (Err e) (reads language (room_within c.args.above) code_expression (lexemes c.split_at.result.1.now))) c.in-Err-Unexpected.field-0-is c.in-Err-Unexpected.ensures.gives in
    fault_at (room_within c.args.above) c.args.tokens.now c.split_at.result.1.now c.args.at Unexpected (lexemes c.in-Err-Unexpected.rest.now) c.first_place.result c.split_at.ensures.back c.requires.at (omega arith) c.requires.end read c.first_place.ensures

pub returns-in-Err-Unexpected-clause-only : goal.returns-in-Err-Unexpected-clause-only
returns-in-Err-Unexpected-clause-only c =
    let read = subst (λ (e : ReadFault). Gives exp (Err e) (reads language (room_within c.args.above) code_expression (lexemes c.split_at.result.1.now))) c.in-Err-Unexpected.field-0-is c.in-Err-Unexpected.ensures.gives in
    let fault = fault_at (room_within c.args.above) c.args.tokens.now c.split_at.result.1.now c.args.at Unexpected (lexemes c.in-Err-Unexpected.rest.now) c.first_place.result c.split_at.ensures.back c.requires.at (omega arith) c.requires.end read c.first_place.ensures in
    λ e h rest d low. fault.stop.none e h rest d (λ k. low)

pub returns-in-Err-TooDeep-clause-fault : goal.returns-in-Err-TooDeep-clause-fault
returns-in-Err-TooDeep-clause-fault c =
    let read = subst (λ (e : ReadFault). Gives exp (Err e) (reads language (room_within c.args.above) code_expression (lexemes c.split_at.result.1.now))) c.in-Err-TooDeep.field-0-is c.in-Err-TooDeep.ensures.gives in
    fault_at (room_within c.args.above) c.args.tokens.now c.split_at.result.1.now c.args.at TooDeep (lexemes c.in-Err-TooDeep.rest.now) c.first_place-in-Err-TooDeep.result c.split_at.ensures.back c.requires.at (omega arith) c.requires.end read c.first_place-in-Err-TooDeep.ensures

pub returns-in-Err-TooDeep-clause-only : goal.returns-in-Err-TooDeep-clause-only
returns-in-Err-TooDeep-clause-only c =
    let read = subst (λ (e : ReadFault). Gives exp (Err e) (reads language (room_within c.args.above) code_expression (lexemes c.split_at.result.1.now))) c.in-Err-TooDeep.field-0-is c.in-Err-TooDeep.ensures.gives in
    let fault = fault_at (room_within c.args.above) c.args.tokens.now c.split_at.result.1.now c.args.at TooDeep (lexemes c.in-Err-TooDeep.rest.now) c.first_place-in-Err-TooDeep.result c.split_at.ensures.back c.requires.at (omega arith) c.requires.end read c.first_place-in-Err-TooDeep.ensures in
    λ e h rest d low. fault.stop.none e h rest d (λ k. low)
