use Rattle.std.proofs.Common.{◌≡◌, length}
use Rattle.c_syntax.specs.Grammar as g
use Rattle.reader_expressions.specs.Reading.{lexemes, part}
use Rattle.reader_expressions.specs.Lists.{listed}
use Rattle.reader_items.specs.Rows as rows
use Rattle.reader_items.proofs.attributes.attributes_inside.Given as goal

abbrev pub invariant-more : goal.invariant-more
invariant-more l = record {
  flat : l.found.height ≡ 0;
  same : listed l.room g.attribute l.found.value.items l.found.height (lexemes l.found.rest.now) ≡ part l.room rows.all_attributes (lexemes l.fn.tokens);
}

abbrev pub decreases-more : goal.decreases-more
decreases-more l = length l.found.rest.now
