-- Where wrap, unwrap and transfers inside an atomic block pass their checks, what they leave is the effect of that name. Own.
use Rattle.std.specs.Prelude.{◌≡◌, ℕ, IsTrue}
use Rattle.object_types.specs.declared.references.Ref.{Ref}
use Rattle.method.specs.declared.program.OwnsChange.TheVariants.{Added, Removed}
use Rattle.method.specs.declared.program.Program.{Program}
use Rattle.object_types.specs.Heap.{Heap, Same, put}
use Rattle.method.specs.Expressions.{Gave, Spot}
use Rattle.method.specs.Actions.{Progress, wrapped_set, wrap_object, unwrap_object, member_change}
use Rattle.ownership.specs.Effects.{closed, opened, given, taken}

-- the heap where o has the owned set that wrap gives it
abbrev pub with_wrapped_set : Program → Spot → ℕ → Heap → Ref → Heap
with_wrapped_set p at_ ty h o = put h o (record (h.get o) { owned = wrapped_set p at_ ty h o })

abbrev pub WrapCloses : Type 0
WrapCloses = (p : Program) (at_ : Spot) (ty : ℕ) (o : Ref) (n : ℕ) (g left : Progress) → (wrap_object p at_ ty o n g).end ≡ Gave left → Same (closed (with_wrapped_set p at_ ty g.heap o) o) left.heap

abbrev pub UnwrapOpens : Type 0
UnwrapOpens = (p : Program) (at_ : Spot) (o : Ref) (n : ℕ) (g left : Progress) → (unwrap_object p at_ o n g).end ≡ Gave left → left.heap ≡ opened g.heap o at_.context.me

abbrev pub JoinGives : Type 0
JoinGives = (p : Program) (at_ : Spot) (o q : Ref) (n : ℕ) (g left : Progress) → IsTrue at_.inside → (member_change p at_ Added o q n g).end ≡ Gave left → left.heap ≡ given g.heap q o

abbrev pub LeaveTakes : Type 0
LeaveTakes = (p : Program) (at_ : Spot) (o q : Ref) (n : ℕ) (g left : Progress) → IsTrue at_.inside → (member_change p at_ Removed o q n g).end ≡ Gave left → left.heap ≡ taken g.heap o q at_.context.me
