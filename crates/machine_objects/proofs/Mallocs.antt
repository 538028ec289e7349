-- What a malloc comes to, from its choices.
use Rattle.std.proofs.Common.{◌≡◌, ℕ, true, false, List, [], ◌∷◌, inl, inr, refl, sym, ap, subst}
use Rattle.object_types.specs.declared.references.Ref.{Ref}
use Rattle.object_types.specs.declared.values.Value.{Value}
use Rattle.object_types.specs.declared.values.Value.TheVariants.{Ref as Refers}
use Rattle.object_types.specs.References.{null}
use Rattle.object_types.specs.Values.{truth}
use Rattle.object_types.specs.Heap.{put, fresh}
use Rattle.method.specs.declared.program.Program.{Program}
use Rattle.method.specs.Tables.{struct_of}
use Rattle.method.specs.Expressions.{Spot, Unfit, Gives}
use Rattle.method.specs.Actions as m
use Rattle.machine_values.specs.Spots.{heap_at}
use Rattle.machine_objects.specs.declared.progress.Progress.{Progress}
use Rattle.machine_objects.specs.Runs.{Extra, progress_at}
use Rattle.machine_objects.specs.RunsOut.{NoReference, LacksFields, MallocRunsOut}

module _ (p : Program) (at_ : Spot) (ty : ℕ) where
  pub malloc_misfit : (vs : List Value) (g : m.Progress) → vs ≡ [] → m.malloc p at_ ty vs g ≡ Unfit
  malloc_misfit vs g e = ap (λ us. m.malloc p at_ ty us g) e

  pub malloc_null : (vs rest : List Value) (c : Value) (g : m.Progress) → vs ≡ c ∷ rest → truth c ≡ false → m.malloc p at_ ty vs g ≡ Gives (record { value = Refers null; starting = g })
  malloc_null vs rest c g e t = rw (e, t) refl

  pub malloc_new : (vs rest : List Value) (c : Value) (e : Extra) (old : Progress) (r : Ref) → vs ≡ c ∷ rest → truth c ≡ true → r ≡ fresh (heap_at e.support old.heap) ty →
      m.malloc p at_ ty vs (progress_at e old)
      ≡ Gives (record { value = Refers r; starting = m.heap_of (progress_at e old) (put (heap_at e.support old.heap) r (m.new_object at_.context.me (m.first_field (struct_of p ty)) rest)) })
  malloc_new vs rest c e old r es t is =
      rw (es, t) (λ i. Gives (record { value = Refers (sym is i); starting = m.heap_of (progress_at e old) (put (heap_at e.support old.heap) (sym is i) (m.new_object at_.context.me (m.first_field (struct_of p ty)) rest)) }))

  -- where its numbers run out
  module _ (vs rest : List Value) (c : Value) (g : m.Progress) (is : vs ≡ c ∷ rest) where
    pub malloc_unnamed : NoReference g.heap ty → MallocRunsOut p ty vs g
    malloc_unnamed none = subst (λ us. MallocRunsOut p ty us g) (sym is) (inl none)

    pub malloc_unplaced : (first : ℕ) → first ≡ m.first_field (struct_of p ty) → LacksFields first rest → MallocRunsOut p ty vs g
    malloc_unplaced first same lacks = subst (λ us. MallocRunsOut p ty us g) (sym is) (inr (subst (λ k. LacksFields k rest) same lacks))
