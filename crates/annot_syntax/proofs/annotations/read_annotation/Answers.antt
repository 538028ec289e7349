use Rattle.std.proofs.Common.{◌<◌, ◌≤◌, drop, Err, subst, arith}
use Rattle.c_syntax.specs.Faults.{TooHigh}
use Rattle.reader_expressions.specs.declared.reading.ReadFault.{ReadFault}
use Rattle.reader_expressions.specs.Reading.{Gives, lexemes}
use Rattle.reader_pieces.specs.Annotations.{view, annotation}
use Rattle.reader_pieces.specs.Shapes.{least_of, shape_at}
use Rattle.annot_syntax.specs.Annotations.{IsAnnotationFault, IsAnnotationFaultOrMemory}
use Rattle.annot_syntax.specs.Pieces.{room_within}
use Rattle.annot_syntax.proofs.Found.{found_at, only_at, unexpected_at, deep_at, no_room_at, none_beside}
use Rattle.annot_syntax.proofs.annotations.read_annotation.Goals as goal

-- where there is no room
no_room : (g : goal.After-first_place) → IsAnnotationFault g.args.place (room_within g.args.above) (drop g.args.at (lexemes g.args.tokens.now)) TooHigh g.first_place.result
no_room g =
    let lt : room_within g.args.above < least_of (annotation g.args.place) = let e = g.least.ensures in omega (arith, e, g.if-room-least.true) in
    no_room_at g.args.place (room_within g.args.above) lt g.args.tokens.now g.split_at.result.1.now g.args.at g.split_at.ensures.back g.requires.at g.requires.end g.requires.sign g.first_place.result g.first_place.ensures

pub returns-then-room-least-clause-fault : goal.returns-then-room-least-clause-fault
returns-then-room-least-clause-fault c = no_room c

pub returns-then-room-least-clause-only : goal.returns-then-room-least-clause-only
returns-then-room-least-clause-only c = λ a h rest d low. (no_room c).stop.none a h rest d (λ k. low)

pub returns-in-Ok-clause-found : goal.returns-in-Ok-clause-found
returns-in-Ok-clause-found c =
    let enough : least_of (annotation c.args.place) ≤ room_within c.args.above = let e = c.least.ensures in omega (arith, e, c.if-room-least.false) in
    found_at c.args.place (room_within c.args.above) enough c.args.tokens.now c.split_at.result.1.now c.args.at c.split_at.ensures.back c.requires.at c.requires.end c.in-Ok.found.rest.now c.in-Ok.found.height c.saturating_sub-following.result (view c.in-Ok.found.value) c.saturating_sub-following.ensures c.in-Ok.ensures.gives

pub returns-in-Ok-clause-only : goal.returns-in-Ok-clause-only
returns-in-Ok-clause-only c =
    let enough : least_of (annotation c.args.place) ≤ room_within c.args.above = let e = c.least.ensures in omega (arith, e, c.if-room-least.false) in
    only_at c.args.place (room_within c.args.above) enough c.args.tokens.now c.split_at.result.1.now c.args.at c.split_at.ensures.back c.requires.at c.requires.end c.in-Ok.found.rest.now c.in-Ok.found.height c.saturating_sub-following.result (view c.in-Ok.found.value) c.saturating_sub-following.ensures c.in-Ok.ensures.gives

-- a token with which no annotation goes on
unexpected : (g : goal.After-unexpected) → IsAnnotationFaultOrMemory g.args.place (room_within g.args.above) (drop g.args.at (lexemes g.args.tokens.now)) g.unexpected.result
unexpected g =
    let enough : least_of (annotation g.args.place) ≤ room_within g.args.above = let e = g.least.ensures in omega (arith, e, g.if-room-least.false) in
    let read = subst (λ (e : ReadFault). Gives view (Err e) (shape_at (room_within g.args.above) (annotation g.args.place) (lexemes g.split_at.result.1.now))) g.in-Err-Unexpected.field-0-is g.in-Err-Unexpected.ensures.gives in
    unexpected_at g.args.place (room_within g.args.above) enough g.args.tokens.now g.split_at.result.1.now g.args.at g.split_at.ensures.back g.requires.at g.requires.end (lexemes g.in-Err-Unexpected.rest.now) g.unexpected.result read g.unexpected.ensures

pub returns-in-Err-Unexpected-clause-fault : goal.returns-in-Err-Unexpected-clause-fault
returns-in-Err-Unexpected-clause-fault c = unexpected c

pub returns-in-Err-Unexpected-clause-only : goal.returns-in-Err-Unexpected-clause-only
returns-in-Err-Unexpected-clause-only c = none_beside c.args.place (room_within c.args.above) (lexemes c.args.tokens.now) (drop c.args.at (lexemes c.args.tokens.now)) c.unexpected.result (unexpected c)

-- one with which only those go on that are too high
deep : (g : goal.After-first_place-in-Err-TooDeep) → IsAnnotationFault g.args.place (room_within g.args.above) (drop g.args.at (lexemes g.args.tokens.now)) TooHigh g.first_place-in-Err-TooDeep.result
deep g =
    let enough : least_of (annotation g.args.place) ≤ room_within g.args.above = let e = g.least.ensures in omega (arith, e, g.if-room-least.false) in
    let read = subst (λ (e : ReadFault). Gives view (Err e) (shape_at (room_within g.args.above) (annotation g.args.place) (lexemes g.split_at.result.1.now))) g.in-Err-TooDeep.field-0-is g.in-Err-TooDeep.ensures.gives in
    deep_at g.args.place (room_within g.args.above) enough g.args.tokens.now g.split_at.result.1.now g.args.at g.split_at.ensures.back g.requires.at g.requires.end (lexemes g.in-Err-TooDeep.rest.now) g.first_place-in-Err-TooDeep.result read g.first_place-in-Err-TooDeep.ensures

pub returns-in-Err-TooDeep-clause-fault : goal.returns-in-Err-TooDeep-clause-fault
returns-in-Err-TooDeep-clause-fault c = deep c

pub returns-in-Err-TooDeep-clause-only : goal.returns-in-Err-TooDeep-clause-only
returns-in-Err-TooDeep-clause-only c = λ a h rest d low. (deep c).stop.none a h rest d (λ k. low)
