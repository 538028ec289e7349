use Rattle.vcc_lexer.proofs.Reading.{same_tokens, same_fault, no_fault}
use Rattle.vcc_lexer.proofs.Slices.{token_texts}
use Rattle.vcc_lexer.proofs.laws.token_laws.Goals as goal

pub returns-clause-one_list : goal.returns-clause-one_list
returns-clause-one_list c = same_tokens

pub returns-clause-one_fault : goal.returns-clause-one_fault
returns-clause-one_fault c = same_fault

pub returns-clause-not_both : goal.returns-clause-not_both
returns-clause-not_both c = no_fault

pub returns-clause-texts : goal.returns-clause-texts
returns-clause-texts c = token_texts
