use Rattle.std.proofs.Common.{◌≡◌, ◌++◌, ◌∷◌, drop}
use Rattle.c_syntax.specs.Views as view
use Rattle.elab_code.specs.Names.{texts}
use Rattle.typed_program.specs.Sites as spec
use Rattle.elab_sites.proofs.sites.named.Given as goal

abbrev pub invariant-loop-i : goal.invariant-loop-i
invariant-loop-i l =
    l.found.items ++ spec.named l.i (texts (drop l.i l.places.names.items)) (view.exp l.property ∷ view.exps l.objects) ≡ spec.named 0 (texts l.places.names.items) (view.exp l.property ∷ view.exps l.objects)
