-- One claim more, or one less. Own.
use Rattle.std.specs.Prelude.{◌≡◌, ◌⊎◌, ℤ, pos, negsuc, ◌+ℤ◌, List, [], ◌∷◌}
use Rattle.object_types.specs.declared.references.Ref.{Ref}
use Rattle.object_types.specs.Heap.{Heap, count_more}
use Rattle.int_ranges.specs.Exact.{Leaves}
use Rattle.claims.specs.declared.counts.ClaimFault.{ClaimFault}
use Rattle.claims.specs.declared.counts.ClaimFault.TheVariants.{CountFull}
use Rattle.claims.specs.declared.counts.CountStep.{CountStep}
use Rattle.claims.specs.declared.counts.CountStep.TheVariants.{Up, Down}

abbrev pub step_of : CountStep → ℤ
step_of Up = pos 1
step_of Down = negsuc 0

-- Where each object is counted z more, one after another, a count leaves 128 bits: the first object's does, or, once it is counted, a later one's. An object may stand in the list more than once.
abbrev pub Overflows : ℤ → List Ref → Heap → Type 0
Overflows z [] h = ⊥
Overflows z (o ∷ os) h = Leaves ((h.get o).count +ℤ z) ⊎ Overflows z os (count_more z (o ∷ []) h)

-- the fault is CountFull only where a count overflows
abbrev pub OverflowsIfFull : ℤ → List Ref → Heap → ClaimFault → Type 0
OverflowsIfFull z objects h fault = fault ≡ CountFull → Overflows z objects h
