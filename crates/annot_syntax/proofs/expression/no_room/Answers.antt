use Rattle.std.proofs.Common.{sym, ◌∙◌, subst}
use Rattle.c_syntax.specs.declared.token.Span.{Span}
use Rattle.ebnf.specs.Reading.{Unexpected, TooDeep}
use Rattle.ebnf.specs.Sets.{first}
use Rattle.reader_expressions.specs.Reading.{lexemes}
use Rattle.annot_syntax.specs.Pieces.{IsExpressionFault}
use Rattle.annot_syntax.proofs.Fronts.{no_room_deep, no_room_unexpected}
use Rattle.annot_syntax.proofs.expression.no_room.Goals as goal

pub returns-then-begins_code : goal.returns-then-begins_code
unfolding first
returns-then-begins_code c = subst (λ (p : Span). IsExpressionFault 0 (lexemes c.args.tokens.now) TooDeep p) (sym c.first_place-place.ensures) (no_room_deep (lexemes c.args.tokens.now) c.requires (sym c.begins_code.ensures ∙ c.if-begins_code.true))

pub returns-else-begins_code : goal.returns-else-begins_code
unfolding first
returns-else-begins_code c = subst (λ (p : Span). IsExpressionFault 0 (lexemes c.args.tokens.now) Unexpected p) (sym c.first_place-place.ensures) (no_room_unexpected (lexemes c.args.tokens.now) c.requires (sym c.begins_code.ensures ∙ c.if-begins_code.false))
