-- Expressions and their parts, one at a time.
use Rattle.std.specs.Prelude.{if◌then◌else◌, List, [], ◌∷◌, ◌++◌}
use Rattle.std.specs.List.{list_any}
use Rattle.method.specs.declared.program.Hole.{Hole}
use Rattle.method.specs.declared.program.Hole.TheVariants.{OfVariable, OfBound, OfMe, OfThis, OfResult}
use Rattle.typed_program.specs.Trees as t
use Rattle.typed_program.specs.Trees.{Spec, Shape}
use Rattle.typed_program.specs.Shapes.{Sorts, shape, same_shape, conjunct, numbered}
use Rattle.elab_shapes.specs.Parts.{Part}

-- Own: what fills an expression that is itself a hole, and what fills the holes of a conjunct that has a number
abbrev pub own_holes : Spec → List Hole
own_holes (t.SVariable i) = OfVariable i ∷ []
own_holes (t.SBound i) = OfBound i ∷ []
own_holes t.SThis = OfThis ∷ []
own_holes t.SMe = OfMe ∷ []
own_holes t.SResult = OfResult ∷ []
own_holes (t.SHas c) = c.holes
own_holes _ = []

-- Own: the shape of a part that is a conjunct, and none of another
abbrev pub own_shape : Sorts → Part → List Shape
own_shape s p = if p.is_conjunct then shape s p.spec ∷ [] else []

-- Own: a part in which conjuncts stand by their numbers; so does the part itself, if it is one
abbrev pub numbered_part : List Shape → Sorts → Part → Spec
numbered_part l s p = if p.is_conjunct then t.SHas (conjunct l s p.spec) else numbered l s p.spec

-- Own: shapes and one more, unless it is the same as one of them
abbrev pub with_new : List Shape → Shape → List Shape
with_new found x = if list_any (same_shape x) found then found else found ++ x ∷ []
