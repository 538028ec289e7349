use Rattle.std.proofs.Common.{refl, subst}
use Rattle.condition_formulas.specs.Symbolics.{AreSymbolic}
use Rattle.condition_formulas.proofs.Rows.{none, same_ids}
use Rattle.program_quantifiers.specs.Words.{any_variables}
use Rattle.program_quantifiers.proofs.words.function_words.Goals as goal

pub returns-clause-stands : goal.returns-clause-stands
returns-clause-stands c =
    let nothing = c.in_ok-nothing.ensures.stands in
    record {
      before_is = nothing;
      after_is = nothing;
      me_is = nothing;
      this_is = nothing;
      subject_is = nothing;
      past_is = refl;
      locals_are = subst (λ vs. AreSymbolic c.null.new.graph c.in_ok-locals.locals.items (any_variables vs)) c.deref.ensures.value (c.in_ok-locals.ensures _ nothing);
      entry_is = subst (λ vs. AreSymbolic c.null.new.graph c.in_ok-entry.entry.items (any_variables vs)) c.parameters.ensures (c.in_ok-entry.ensures _ nothing);
      result_is = c.any_result.ensures _ nothing;
      bound_are = same_ids c.new-bound.ensures.items none;
    }
