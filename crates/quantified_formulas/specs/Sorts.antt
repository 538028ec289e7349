-- The sorts of what a scene of constants holds. Own.
use Rattle.std.specs.Prelude.{ℕ, ◌==◌, not, List, [], ◌∷◌, ◌++◌, map, filter, length, replicate, slice_index_or}
use Rattle.terms.specs.declared.sort.Sort.{Sort}
use Rattle.terms.specs.declared.sort.Sort.TheVariants as s
use Rattle.condition_formulas.specs.declared.symbolic.Symbolic.{Symbolic}
use Rattle.condition_formulas.specs.declared.symbolic.Symbolic.TheVariants as code
use Rattle.annotation_scenes.specs.declared.scene.Scene.{Scene}

-- the sort of a constant like this value
abbrev pub value_sort : Symbolic → Sort
value_sort (code.Truth id) = s.Int
value_sort (code.Number id) = s.Int
value_sort (code.Reference id) = s.Ref

-- of the heaps, \me, \this, \result, the variables, the parameters at entry, the bound variables
abbrev pub word_sorts : Symbolic → List Symbolic → List Symbolic → List ℕ → List Sort
word_sorts result locals entry bound = s.Heap ∷ s.Heap ∷ s.Ref ∷ s.Ref ∷ value_sort result ∷ map value_sort locals ++ map value_sort entry ++ replicate (length bound) s.Ref

-- of a scene in code
abbrev pub scene_sorts : Scene → List Sort
scene_sorts c = word_sorts c.result c.locals.now c.entry.now c.bound.now

-- what isn't there is NULL
abbrev pub sort_at : List Sort → ℕ → Sort
sort_at sorts n = slice_index_or sorts n s.Ref

-- the numbers but one
abbrev pub without : ℕ → List ℕ → List ℕ
without n ms = filter (λ m. not (m == n)) ms
