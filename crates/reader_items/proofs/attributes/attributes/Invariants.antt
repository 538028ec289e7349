use Rattle.std.proofs.Common.{◌≡◌, length}
use Rattle.reader_expressions.specs.Reading.{lexemes, part}
use Rattle.reader_items.specs.Rows as rows
use Rattle.reader_items.proofs.Flattened.{gathered}
use Rattle.reader_items.proofs.attributes.attributes.Given as goal

abbrev pub invariant-more : goal.invariant-more
invariant-more l = record {
  flat : l.found.height ≡ 0;
  same : gathered l.room l.found.value.items l.found.height (lexemes l.found.rest.now) ≡ part l.room rows.attributes (lexemes l.fn.tokens);
}

abbrev pub decreases-more : goal.decreases-more
decreases-more l = length l.found.rest.now
