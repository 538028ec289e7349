-- What the words of a function's annotation refer to, as the code has it. Own.
use Rattle.std.specs.Prelude.{List, []}
use Rattle.object_types.specs.References.{null}
use Rattle.object_types.specs.declared.references.Ref.{Ref}
use Rattle.object_types.specs.declared.values.Value.{Value}
use Rattle.object_types.specs.Heap.{Heap}
use Rattle.method.specs.SpecValue.{Scene}
use Rattle.method.specs.Invariants.{inv_scene}
use Rattle.spec_eval.specs.declared.env.Env.{Env}

-- the scene of an environment's expression: nothing is bound, and no claim is spoken of
abbrev pub scene_of : Env → Heap → Heap → Scene
scene_of env before after = record { before = before; after = after; me = env.thread; this = env.this; locals = env.locals.items; entry = env.entry.items; result = env.result; bound = []; subject = null }

-- the scene of an object's invariant, in which these values stand for the holes of a claim's conjunct
abbrev pub scene_with : Ref → Heap → Heap → List Value → Scene
scene_with this before after values = record (inv_scene this before after) { locals = values }
