use Rattle.std.proofs.Common.{inl, refl}
use Rattle.vcc_words.proofs.Plain.{first_end}
use Rattle.vcc_words.proofs.arguments.is_end.Goals as goal

pub returns-in_default : goal.returns-in_default
returns-in_default c = (λ _. inl c.in_default.ensures.cases, λ _. refl)

pub returns : goal.returns
returns c = first_end c.args.more.now _ c.in-Some.first.now c.in-Some.ensures.cases.0
