use Rattle.schedule_format.proofs.TextLaws.{text_law, front_law}
use Rattle.schedule_format.proofs.laws.text_laws.Goals as goal

pub returns-clause-text : goal.returns-clause-text
returns-clause-text c = text_law

pub returns-clause-front : goal.returns-clause-front
returns-clause-front c = front_law
