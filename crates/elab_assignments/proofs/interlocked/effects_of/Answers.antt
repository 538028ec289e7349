use Rattle.std.proofs.Common.{◌≡◌, Result, IfOk, subst, ap, ◌∙◌}
use Rattle.std.specs.Option.{option_map}
use Rattle.std.specs.declared.alloc.AllocError.{AllocError}
use Rattle.int_ranges.specs.declared.ctype.CType.{CType}
use Rattle.c_syntax.specs.Views as view
use Rattle.elab_code.specs.Views.{around as here}
use Rattle.method.specs.declared.program.InterlockedResult.{InterlockedResult}
use Rattle.typed_program.specs.Codes as codes
use Rattle.typed_program.specs.Statements as spec
use Rattle.typed_program.specs.Views as seen
use Rattle.elab_assignments.proofs.interlocked.effects_of.Goals as goal

pub returns-clause-value : goal.returns-clause-value
returns-clause-value c =
    let a = here c.args.around in
    let y = option_map view.comparison c.args.compared.now in
    let told = subst (λ (r : Result InterlockedResult AllocError). IfOk r (λ v. seen.afterwards v ≡ spec.afterwards a c.in_ok-field.field c.integer_of-to.result y)) c.in_ok-operation-2.ensures.second c.afterwards.ensures in
    told
    ∙ ap (λ (ty : CType). spec.afterwards a ty c.integer_of-to.result y) c.in_ok-field.ensures
    ∙ ap (λ (ty : CType). spec.afterwards a (codes.integer_type a.context.scope (view.exp c.args.x.now.field)) ty y) c.integer_of-to.ensures
