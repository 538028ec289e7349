use Rattle.std.proofs.Common.{◌++◌, ap, ◌∙◌, [], ◌∷◌, map}
use Rattle.std.proofs.lemmas.List.{map-append}
use Rattle.c_syntax.specs.Views.{exp}
use Rattle.elab_annotations.specs.Views.{Typed}
use Rattle.typed_program.specs.Annotations.{spec}
use Rattle.typed_program.specs.Numbers.{Around}
use Rattle.typed_program.specs.Sites as sites
use Rattle.typed_program.specs.Trees as t
use Rattle.elab_sites.specs.Views.{occurrence}
use Rattle.elab_sites.proofs.occurrences.says.Goals as goal

pub returns : goal.returns
returns c =
    let before = c.args.so_far.now.items in
    ap (map occurrence) c.in_ok-append.ensures
    ∙ (map-append occurrence before (_ ∷ [])
    ∙ ap (λ (x : t.Spec). map occurrence before ++ sites.Says x ∷ []) (ap (λ (k : Typed). k.spec) c.in_ok-typed.ensures ∙ ap (λ (a : Around). spec a 0 (exp c.args.x.now)) c.around-around.ensures))
