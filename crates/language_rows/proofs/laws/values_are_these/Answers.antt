use Rattle.language_rows.proofs.Values.{terms_have_values}
use Rattle.language_rows.proofs.laws.values_are_these.Goals as goal

pub returns : goal.returns
returns c = record { values = terms_have_values }
