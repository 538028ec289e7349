use Rattle.std.proofs.Common.{◌≡◌, drop, map}
use Rattle.object_types.specs.Lookups.{heap_of}
use Rattle.method.specs.Expressions.{spec_test}
use Rattle.spec_eval.specs.Scenes.{scene_of}
use Rattle.machine_values.specs.Answers.{verdict}
use Rattle.machine_values.proofs.tests.check_specs.Given as goal

abbrev pub invariant-loop-e : goal.invariant-loop-e
invariant-loop-e l =
    let s = scene_of l.env (heap_of l.before) (heap_of l.after) in
    verdict l.at.line l.kind (map (λ e. spec_test l.at.program.now e s) (drop l.e-index l.specs)) ≡ verdict l.at.line l.kind (map (λ e. spec_test l.at.program.now e s) l.specs)
