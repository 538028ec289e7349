use Rattle.std.proofs.Common.{ℕ, List, [], ◌∷◌, refl, map}
use Rattle.std.specs.Borrow.{Bor}
use Rattle.c_syntax.specs.Items.{FieldTree}
use Rattle.c_syntax.specs.declared.items.FieldDeclaration.{FieldDeclaration}
use Rattle.c_syntax.specs.Views as view
use Rattle.typing_symbols.specs.Whole.{program}
use Rattle.typed_program.specs.Tables as tables
use Rattle.typed_program.specs.Views as seen
use Rattle.elab_clauses.proofs.Steps.{pushed_one, one_more}
use Rattle.elab_clauses.proofs.fields.add_fields.Goals as goal

pub loop-x-preserved : goal.loop-x-preserved
loop-x-preserved c =
    let each = tables.field (program c.args.declarations.now) (view.struct c.args.owner.now.tree.now) in
    one_more (λ (f : Bor FieldDeclaration). view.field f.now) (λ (n : ℕ) (ys : List FieldTree). map each ys) (λ (n : ℕ) (y : FieldTree). each y ∷ []) (λ (y : FieldTree). 0) (λ n y ys. refl)
    c.fields-all.result.now c.loop-x.x-index c.x-item.result c.loop-x-test.true c.x-item.is 0 0 refl _ _ _
    (pushed_one seen.field c.loop-x.so_far.items c.push.new.self.items c.in_ok-one.one _ c.in_ok-push.ensures.items c.in_ok-one.ensures) c.loop-x.invariant
