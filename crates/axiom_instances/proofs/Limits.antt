-- What the fitting of arguments is for: without it an instance can be false. And environments are there.
use Rattle.method.specs.WellFormed.{IsHeapOf}
use Rattle.std.proofs.Common.{◌≡◌, true, false, [], pos, ◌≤ℤ◌, refl, ap, subst, arith}
use Rattle.std.proofs.lemmas.Int.{ints}
use Rattle.object_types.specs.References.{null as null_ref, same_ref}
use Rattle.object_types.specs.Values.{int}
use Rattle.object_types.specs.declared.values.Value.TheVariants.{Int}
use Rattle.object_types.specs.Heap.{empty_heap}
use Rattle.method.specs.declared.program.Program.{Program}
use Rattle.method.proofs.Empty.{empty_is_good}
use Rattle.term_meaning.specs.Columns.{Modes}
use Rattle.term_meaning.specs.RawHeaps.{raw, ModeAt}
use Rattle.term_meaning.specs.Meaning.{Env, IsEnv, Language, IsValid}
use Rattle.axiom_instances.specs.Terms.{mode, le, num, null}
use Rattle.axiom_instances.specs.Admissibility.{earlier_heap}
use Rattle.axiom_instances.proofs.Kit.{Holds, none, le_elim, num_has}
use Rattle.axiom_instances.proofs.Facts.{mode_has, null_has}
use Rattle.axiom_instances.proofs.Maps.{set, set_has, read_there}
use Rattle.axiom_instances.proofs.Types.{of_step, of_step_is_env, well_formed_proper, earlier_has}

empty_proper : (p : Program) → IsHeapOf p empty_heap
empty_proper p = well_formed_proper p empty_heap (empty_is_good p).well_formed

-- an environment with empty heaps
pub some_env : (p : Program) → IsEnv p (of_step null_ref (raw p empty_heap) (raw p empty_heap))
unfolding same_ref
some_env p = of_step_is_env p null_ref empty_heap empty_heap refl (empty_proper p) (empty_proper p)

-- a heap that stores 7 as a mode has no mode up to 3
pub not_clean : (l : Language) → IsValid l (le (mode (set 0 earlier_heap null [] (num (pos 7))) null) (num (pos 3))) → ⊥
not_clean l valid =
    let e : Env = of_step null_ref (raw l.program empty_heap) (raw l.program empty_heap) in
    let f : Holds l e (le (mode (set 0 earlier_heap null [] (num (pos 7))) null) (num (pos 3))) = record { always = λ x g. valid e x (some_env l.program) g } in
    let seven_has = set_has {l = l} {e = e} [] Modes refl (earlier_has l null_ref (raw l.program empty_heap) (raw l.program empty_heap)) null_has none (num_has (pos 7)) in
    let wrong : false ≡ true = le_elim false (mode_has seven_has null_has) (num_has (pos 3)) f (λ h. absurd (too_much (subst (λ z. z ≤ℤ pos 3) (ap int (read_there (raw l.program empty_heap) ModeAt null_ref (Int (pos 7)))) h))) in
    cc
  where
    too_much : pos 7 ≤ℤ pos 3 → ⊥
    too_much h = omega (arith, ints)
