use Rattle.std.proofs.Common.{List, [], ◌∷◌, ◌++◌, ap, ◌∙◌, map, arith}
use Rattle.std.proofs.lemmas.List.{map-append}
use Rattle.c_syntax.specs.declared.expressions.Expr.{Expr}
use Rattle.c_syntax.specs.Views.{exp}
use Rattle.elab_code.specs.Views.{around as here}
use Rattle.typed_program.specs.Sites as spec
use Rattle.typed_program.specs.Trees as t
use Rattle.typed_program.specs.Views.{claimed}
use Rattle.elab_sites.proofs.Added.{mapped, whole}
use Rattle.elab_sites.proofs.sites.all_claimed.Goals as goal

pub loop-x-preserved : goal.loop-x-preserved
loop-x-preserved c =
    let before = map claimed c.loop-x.all.items in
    mapped (spec.claimed (here c.args.around.now)) exp [] before _ c.args.objects.now c.loop-x.x-index c.x-item.result c.loop-x-test.true c.x-item.is c.loop-x.invariant
    (ap (map claimed) c.in_ok-append.ensures ∙ (map-append claimed c.loop-x.all.items (_ ∷ []) ∙ ap (λ (w : t.Claimed). before ++ w ∷ []) (c.in_ok-one.ensures ∙ ap (spec.claimed_bare (here c.args.around.now)) c.bare.ensures)))

pub returns : goal.returns
returns c = whole (λ (xs : List Expr). map (spec.claimed (here c.args.around.now)) (map exp xs)) [] (map claimed c.loop-x.all.items) c.args.objects.now c.loop-x.x-index (omega arith) c.loop-x.invariant
