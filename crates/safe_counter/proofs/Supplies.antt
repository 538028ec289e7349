-- New objects and threads of local runs, and what is allocated.
use Rattle.std.proofs.Common.{◌≡◌, ℕ, not, ◌==◌, ◌&&◌, List, [], ◌∷◌}
use Rattle.std.proofs.lemmas.Bool.{eqb-true}
use Rattle.object_types.specs.declared.references.Ref.{Ref}
use Rattle.object_types.specs.declared.records.Mode.TheVariants.{Absent}
use Rattle.object_types.specs.declared.values.Value.{Value}
use Rattle.object_types.specs.declared.values.Value.TheVariants.{Ref as Refers}
use Rattle.method.specs.declared.program.Program.{Program}
use Rattle.object_types.specs.References.{null, is_thread, same_ref}
use Rattle.object_types.specs.Values.{truth}
use Rattle.object_types.specs.Heap.{Heap, is_absent, is_idle, put}
use Rattle.method.specs.Tables.{struct_of}
use Rattle.method.specs.Expressions.{Spot}
use Rattle.method.specs.Actions.{Chosen, Valued, Took, starting, new_object, first_field, take_object, take_thread, malloc}
use Rattle.method.proofs.Global.{and_both}
use Rattle.machine_laws.proofs.Heaps.{absent_mode}
use Rattle.safe_counter.proofs.Passing.{Passing, pass_gives, pass_unfit, pass_if, pass_after}

pub object_passes : (label : ℕ) (rest : Took → Type 0) (news : List Ref) (ty : ℕ) (h : Heap) →
    ((r : Ref) (rs : List Ref) → r.ty ≡ ty → (h.get r).mode ≡ Absent → rest (record { which = r; supply = Chosen rs })) → Passing label rest (take_object (Chosen news) ty h)
object_passes label rest [] ty h go = pass_unfit label rest
object_passes label rest (r ∷ rs) ty h go = pass_if label rest ((r.ty == ty) && is_absent (h.get r).mode) _ _
    (λ e. let z = and_both (r.ty == ty) (is_absent (h.get r).mode) e in pass_gives label rest _ (go r rs (eqb-true r.ty ty z.0) (absent_mode (h.get r).mode z.1)))
    (λ e. pass_unfit label rest)

pub thread_passes : (label : ℕ) (rest : Took → Type 0) (news : List Ref) (me : Ref) (h : Heap) → ((t : Took) → rest t) → Passing label rest (take_thread (Chosen news) me h)
thread_passes label rest [] me h go = pass_unfit label rest
thread_passes label rest (u ∷ us) me h go = pass_if label rest (is_thread u && (not (same_ref u me) && is_idle h u.serial)) _ _ (λ e. pass_gives label rest _ (go _)) (λ e. pass_unfit label rest)

pub malloc_passes : (p : Program) (at_ : Spot) (label : ℕ) (rest : Valued → Type 0) (ty : ℕ) (choices : List Value) (k : Heap) (l : List Value) (news : List Ref) →
    rest (record { value = Refers null; starting = starting k l (Chosen news) }) →
    ((r : Ref) (vs : List Value) (rs : List Ref) → r.ty ≡ ty → (k.get r).mode ≡ Absent → rest
    (record { value = Refers r; starting = starting (put k r (new_object at_.context.me (first_field (struct_of p ty)) vs)) l (Chosen rs) })) →
    Passing label rest (malloc p at_ ty choices (starting k l (Chosen news)))
malloc_passes p at_ label rest ty [] k l news none some_ = pass_unfit label rest
malloc_passes p at_ label rest ty (c ∷ vs) k l news none some_ = pass_if label rest (truth c) _ _
    (λ e. pass_after label rest (take_object (Chosen news) ty k) _ (object_passes label _ news ty k (λ r rs t a. pass_gives label rest _ (some_ r vs rs t a))))
    (λ e. pass_gives label rest _ none)
