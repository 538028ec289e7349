use Rattle.std.proofs.Common.{subst}
use Rattle.method.specs.declared.program.DeclaredType.{DeclaredType}
use Rattle.conditions.specs.Admissible as admissible
use Rattle.conditions.specs.Code as spec
use Rattle.conditions.specs.Paths.{Gives, after}
use Rattle.condition_code.specs.States.{IsState}
use Rattle.condition_code.specs.Walks.{Ran}
use Rattle.condition_code.proofs.Walks.{gives, run_then}
use Rattle.condition_claims.proofs.sites.any_local.Goals as goal

pub returns : goal.returns
returns c = λ s hs.
    let ran = c.in_ok-v.ensures s hs in
    let P : DeclaredType → Type 0 = λ ty. Ran IsState c.args.walk.now c.new_value.new.walk c.put_local.result (after (spec.new_value ty s) (λ v. Gives (admissible.put_local c.args.i v))) in
    subst P c.type_of_variable-ty.ensures (run_then ran (gives (λ n f h. h) (c.put_local.ensures _ _ ran.gives)))
