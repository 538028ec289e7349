-- Ghost statements one behind the other.
use Rattle.std.proofs.Common.{◌≡◌, true, false, refl}
use Rattle.ebnf.specs.Sets.{is_empty, is_predictive}
use Rattle.c_syntax.specs.Language.{language}
use Rattle.reader_annotations.specs.Rows.{statement}

pub fine_statement : is_predictive language statement ≡ true
unfolding is_predictive
fine_statement = refl

pub some_statement : is_empty language statement ≡ false
unfolding is_empty
some_statement = refl
