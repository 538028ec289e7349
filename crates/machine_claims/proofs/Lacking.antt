-- Why a claim isn't made, or doesn't end: the fault of the claims' code as a stop.
use Rattle.std.proofs.Common.{◌≡◌, pos, negsuc, List, ◌⊎◌, inl, inr, refl, sym, ap, subst, Result, Ok, Err}
use Rattle.std.specs.Prelude.{IfErr, IsErrOf, IsErrAnd, IsFalse, MatchResult}
use Rattle.object_types.specs.declared.records.Stored.{Stored}
use Rattle.object_types.specs.declared.references.Ref.{Ref}
use Rattle.object_types.specs.References.{ref}
use Rattle.object_types.specs.Heap.{is_absent}
use Rattle.object_types.specs.Lookups.{look_up, heap_of}
use Rattle.claims.specs.declared.counts.ClaimFault.{ClaimFault}
use Rattle.claims.specs.declared.counts.ClaimFault.TheVariants.{NoSerial, CountFull}
use Rattle.claims.specs.Steps.{Overflows, OverflowsIfFull}
use Rattle.claims.proofs.Counting.{overflow_same}
use Rattle.machine_values.specs.declared.stop.Stop.{Stop}
use Rattle.machine_values.specs.Spots.{heap_at}
use Rattle.machine_objects.specs.Runs.{IsSilentOr}
use Rattle.machine_objects.specs.RunsOut.{last_serial}
use Rattle.machine_objects.proofs.Landing.{silent_too}
use Rattle.machine_claims.specs.RunsOut.{LacksClaim}

-- a fault that is no want of memory
abbrev pub IsFull : ClaimFault → Type 0
IsFull e = (e ≡ NoSerial) ⊎ (e ≡ CountFull)

pub lacks_claim : (h : List Stored) (os : List Ref) (r : Result Ref ClaimFault) (s : Result Ref Stop) → MatchResult r (λ x. s ≡ Ok x) (λ e. IsErrAnd s (IsSilentOr (IsFull e))) →
    (IsErrOf r NoSerial → IsFalse (is_absent (look_up h (ref 2 4294967295)).mode)) → IfErr r (OverflowsIfFull (pos 1) os (heap_of h)) → IfErr s (IsSilentOr (LacksClaim h os))
lacks_claim h os (Ok x) s m last full = subst (λ z. IfErr z (IsSilentOr (LacksClaim h os))) (sym m) tt
lacks_claim h os (Err e) (Ok x) m last full = tt
lacks_claim h os (Err e) (Err d) m last full = silent_too (IsFull e) (LacksClaim h os) d by_fault m
  where
    by_fault : IsFull e → LacksClaim h os
    by_fault (inl is) y finite = inl (last_serial (last (ap Err is)))
    by_fault (inr is) y finite = inr (overflow_same (pos 1) os (heap_of h) (heap_at y h) (λ p. refl) (full is))

pub lacks_end : {X : Type 0} (h : List Stored) (os : List Ref) (r : Result X ClaimFault) (s : Result X Stop) → MatchResult r (λ x. s ≡ Ok x) (λ e. IsErrAnd s (IsSilentOr (IsFull e))) →
    IfErr r (λ e. e ≡ NoSerial → ⊥) → IfErr r (OverflowsIfFull (negsuc 0) os (heap_of h)) → IfErr s (IsSilentOr (Overflows (negsuc 0) os (heap_of h)))
lacks_end h os (Ok x) s m never full = subst (λ z. IfErr z (IsSilentOr (Overflows (negsuc 0) os (heap_of h)))) (sym m) tt
lacks_end h os (Err e) (Ok x) m never full = tt
lacks_end h os (Err e) (Err d) m never full = silent_too (IsFull e) (Overflows (negsuc 0) os (heap_of h)) d by_fault m
  where
    by_fault : IsFull e → Overflows (negsuc 0) os (heap_of h)
    by_fault (inl is) = absurd (never is)
    by_fault (inr is) = full is
