-- Tests of annotations, one for each of a list. Own.
use Rattle.std.specs.Prelude.{List, map}
use Rattle.object_types.specs.declared.references.Ref.{Ref}
use Rattle.object_types.specs.declared.records.Stored.{Stored}
use Rattle.object_types.specs.Lookups.{heap_of}
use Rattle.method.specs.declared.program.Program.{Program}
use Rattle.method.specs.declared.program.Spec.{Spec}
use Rattle.method.specs.SpecValue.{Scene}
use Rattle.method.specs.Expressions.{Tested, spec_test, inv_test}
use Rattle.spec_eval.specs.declared.env.Env.{Env}
use Rattle.spec_eval.specs.Scenes.{scene_of}

-- the scene of an environment over two heaps of the code
abbrev pub code_scene : Env → List Stored → List Stored → Scene
code_scene env before after = scene_of env (heap_of before) (heap_of after)

abbrev pub spec_tests : Program → List Spec → Scene → List Tested
spec_tests p es s = map (λ e. spec_test p e s) es

abbrev pub inv_tests : Program → List Stored → List Stored → List Ref → List Tested
inv_tests p before after os = map (λ o. inv_test p o (heap_of before) (heap_of after)) os
