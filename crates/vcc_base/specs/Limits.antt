-- The limits, by name. Own: the numbers are this project's choice.
use Rattle.std.specs.Prelude.{ℕ, List, codes}
use Rattle.vcc_base.specs.declared.limit.Limit.{Limit}
use Rattle.vcc_base.specs.declared.limit.Limit.TheVariants.{SourceBytes, ScheduleBytes, Tokens, Depth, Conditions, CertBytes, Terms}

-- how much of a thing is allowed; one more is refused
abbrev pub number_of : Limit → ℕ
number_of SourceBytes = 1048576
number_of ScheduleBytes = 1048576
number_of Tokens = 262144
number_of Depth = 200
number_of Conditions = 20000
number_of CertBytes = 67108864
number_of Terms = 1048576

-- the name by which a refusal calls the limit
abbrev pub name_of : Limit → List ℕ
name_of SourceBytes = codes "SourceBytes"
name_of ScheduleBytes = codes "ScheduleBytes"
name_of Tokens = codes "Tokens"
name_of Depth = codes "Depth"
name_of Conditions = codes "Conditions"
name_of CertBytes = codes "CertBytes"
name_of Terms = codes "Terms"
