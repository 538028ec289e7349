use Rattle.std.specs.Prelude.{◌≡◌, replicate}
use Rattle.std.proofs.Common.{refl, arith}
use Rattle.std.proofs.lemmas.Grind.{common_steps}
use Rattle.condition_formulas.specs.declared.symbolic.Symbolic.TheVariants.{Number}
use Rattle.condition_formulas.proofs.Symbolics.{is_number}
use Rattle.condition_claims.proofs.Noted.{are_replicated, no_objects, no_claims}
use Rattle.condition_claims.proofs.sites.no_constants.Goals as goal

pub returns-clause-stands : goal.returns-clause-stands
returns-clause-stands c =
    let fresh : c.resize.new.self.items ≡ replicate c.variable_count.result (Number c.in_ok-zero.zero) = grind (arith, common_steps) in
    record {
      heap_is = c.in_ok-zero.ensures.later _ _ c.in_ok-before.ensures.stands;
      locals_are = are_replicated fresh c.variable_count.ensures (is_number c.in_ok-zero.ensures.stands);
      integers_is = refl;
      references_is = refl;
      heaps_is = refl;
      changed_are = no_objects c.new.ensures.items;
      made_are = no_claims c.new-2.ensures.items;
    }
