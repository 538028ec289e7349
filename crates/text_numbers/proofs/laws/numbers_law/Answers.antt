use Rattle.text_numbers.proofs.Numbers.{numbers_law}
use Rattle.text_numbers.proofs.laws.numbers_law.Goals as goal

pub returns : goal.returns
returns c = numbers_law
