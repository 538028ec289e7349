use Rattle.std.proofs.Common.{map, sym, ◌∙◌}
use Rattle.ebnf.specs.Reading.{reads}
use Rattle.c_syntax.specs.Grammar.{Program}
use Rattle.c_syntax.specs.Language.{language}
use Rattle.c_syntax.specs.Views as views
use Rattle.reader_expressions.specs.Reading.{lexemes}
use Rattle.c_reader.proofs.Whole.{ends_there}
use Rattle.c_reader.proofs.source.some_items.Goals as goal

pub returns : goal.returns
returns c = record { gives = (c.in_ok-found.found.height, lexemes c.in_ok-found.found.rest.now, ends_there (reads language 201 Program (lexemes c.args.tokens.now)) (map views.item c.in_ok-found.found.value.items) c.in_ok-found.found.height (lexemes c.in_ok-found.found.rest.now) c.in_ok-found.ensures.gives (sym c.next_is_end.ensures ∙ c.if-not-next_is_end.false)) }
