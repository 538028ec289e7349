use Rattle.std.proofs.Common.{Err, subst, sym, ◌∙◌}
use Rattle.c_syntax.specs.Laws.{read_items}
use Rattle.reader_expressions.specs.declared.reading.ReadFault.{ReadFault}
use Rattle.reader_expressions.specs.Reading.{lexemes}
use Rattle.c_reader.specs.Reading.{GivesItems}
use Rattle.c_reader.proofs.Whole.{unexpected_read}
use Rattle.c_reader.proofs.source.items.Goals as goal

pub returns-in-Err-Unexpected : goal.returns-in-Err-Unexpected
returns-in-Err-Unexpected c = record { read = unexpected_read (lexemes c.args.tokens.now) (lexemes c.in-Err-Unexpected.rest.now) c.unexpected.result (sym c.next_is_end.ensures ∙ c.if-next_is_end.false) (subst (λ (e : ReadFault). GivesItems (Err e) (read_items (lexemes c.args.tokens.now))) c.in-Err-Unexpected.field-0-is c.in-Err-Unexpected.ensures.gives) c.unexpected.ensures }
