use Rattle.std.proofs.Common.{refl}
use Rattle.condition_formulas.proofs.Rows.{none}
use Rattle.condition_formulas.proofs.Symbolics.{is_number}
use Rattle.program_quantifiers.proofs.words.struct_words.Goals as goal

pub returns-clause-stands : goal.returns-clause-stands
returns-clause-stands c =
    let nothing = c.in_ok-nothing.ensures.stands in
    record { before_is = nothing; after_is = nothing; me_is = nothing; this_is = nothing; subject_is = nothing; past_is = refl; locals_are = record { each = tt }; entry_is = record { each = tt }; result_is = is_number nothing; bound_are = none }
