-- One check, from its test.
use Rattle.std.proofs.Common.{◌≡◌, ℕ, ◌+◌, Bool, true, false, ◌||◌, refl, sym, ap, subst, ◌∙◌}
use Rattle.object_types.specs.declared.references.Ref.{Ref}
use Rattle.object_types.specs.declared.values.Value.{Value}
use Rattle.object_types.specs.Heap.{Heap, mutable, wrapped, put, hand_over, write}
use Rattle.object_types.specs.Values.{is_zero_int}
use Rattle.object_types.specs.References.{null}
use Rattle.object_types.specs.declared.records.Mode.TheVariants.{Freed, Open as IsOpen}
use Rattle.method.specs.declared.program.CheckKind.{CheckKind}
use Rattle.method.specs.declared.program.CheckKind.TheVariants.{Write, Writes, Free, Unwrap, Claimed}
use Rattle.method.specs.declared.program.Program.{Program}
use Rattle.method.specs.Expressions.{Outcome, Fault, Gives, Spot, check, may_write, is_listed}
use Rattle.method.specs.Actions as m
use Rattle.machine_objects.specs.Runs.{may_store, Lands}

pub fails : {A : Type 0} (at_ : Spot) (b : Bool) (n : ℕ) (kind : CheckKind) (o : Outcome A) → b ≡ false → check at_ b n kind o ≡ Fault n kind at_.line
fails at_ b n kind o e = ap (λ t. check at_ t n kind o) e

pub passes : {A : Type 0} (at_ : Spot) (b : Bool) (n : ℕ) (kind : CheckKind) (o : Outcome A) → b ≡ true → check at_ b n kind o ≡ o
passes at_ b n kind o e = ap (λ t. check at_ t n kind o) e

pub lands_gives : {A : Type 0} (Q : A → Type 0) (o : Outcome A) (a : A) → o ≡ Gives a → Q a → Lands Q o
lands_gives Q o a e q = subst (Lands Q) (sym e) (record { fits = refl; gave = q })

module _ (p : Program) (at_ : Spot) (o : Ref) (n : ℕ) (g : m.Progress) where
  module _ (f : ℕ) (v : Value) where
    pub store_no_write : may_store p at_ g.heap o f ≡ false → m.store p at_ (m.InField o f) v n g ≡ Fault n Write at_.line
    store_no_write e = fails at_ (may_store p at_ g.heap o f) n Write (check at_ (may_write at_ o || is_listed at_ o) (n + 1) Writes (Gives (m.heap_of g (write g.heap o f v)))) e

    pub store_no_writes : may_store p at_ g.heap o f ≡ true → (may_write at_ o || is_listed at_ o) ≡ false → m.store p at_ (m.InField o f) v n g ≡ Fault (n + 1) Writes at_.line
    store_no_writes e d =
        passes at_ (may_store p at_ g.heap o f) n Write (check at_ (may_write at_ o || is_listed at_ o) (n + 1) Writes (Gives (m.heap_of g (write g.heap o f v)))) e
        ∙ fails at_ (may_write at_ o || is_listed at_ o) (n + 1) Writes (Gives (m.heap_of g (write g.heap o f v))) d

    pub store_gives : may_store p at_ g.heap o f ≡ true → (may_write at_ o || is_listed at_ o) ≡ true → m.store p at_ (m.InField o f) v n g ≡ Gives (m.heap_of g (write g.heap o f v))
    store_gives e d =
        passes at_ (may_store p at_ g.heap o f) n Write (check at_ (may_write at_ o || is_listed at_ o) (n + 1) Writes (Gives (m.heap_of g (write g.heap o f v)))) e
        ∙ passes at_ (may_write at_ o || is_listed at_ o) (n + 1) Writes (Gives (m.heap_of g (write g.heap o f v))) d

  abbrev freed : Heap
  freed = put g.heap o (record (g.heap.get o) { mode = Freed; owner = null })

  pub free_no_free : mutable at_.context.me g.heap o ≡ false → m.free p at_ o n g ≡ Fault n Free at_.line
  free_no_free e = fails at_ (mutable at_.context.me g.heap o) n Free (check at_ (may_write at_ o) (n + 1) Writes (Gives (m.heap_of g freed))) e

  pub free_no_writes : mutable at_.context.me g.heap o ≡ true → may_write at_ o ≡ false → m.free p at_ o n g ≡ Fault (n + 1) Writes at_.line
  free_no_writes e d =
      passes at_ (mutable at_.context.me g.heap o) n Free (check at_ (may_write at_ o) (n + 1) Writes (Gives (m.heap_of g freed))) e
      ∙ fails at_ (may_write at_ o) (n + 1) Writes (Gives (m.heap_of g freed)) d

  pub free_gives : mutable at_.context.me g.heap o ≡ true → may_write at_ o ≡ true → m.free p at_ o n g ≡ Gives (m.heap_of g freed)
  free_gives e d =
      passes at_ (mutable at_.context.me g.heap o) n Free (check at_ (may_write at_ o) (n + 1) Writes (Gives (m.heap_of g freed))) e
      ∙ passes at_ (may_write at_ o) (n + 1) Writes (Gives (m.heap_of g freed)) d

  abbrev opened : Heap
  opened = hand_over (put g.heap o (record (g.heap.get o) { mode = IsOpen })) (g.heap.get o).owned at_.context.me

  abbrev open_checked : ℕ → Outcome m.Progress
  open_checked k = check at_ (is_zero_int (g.heap.get o).count) k Claimed (Gives (m.heap_of g opened))

  abbrev open_writable : ℕ → Outcome m.Progress
  open_writable k = check at_ (may_write at_ o) k Writes (open_checked (n + 2))

  pub unwrap_no_unwrap : wrapped at_.context.me g.heap o ≡ false → m.unwrap_object p at_ o n g ≡ Fault n Unwrap at_.line
  unwrap_no_unwrap e = fails at_ (wrapped at_.context.me g.heap o) n Unwrap (open_writable (n + 1)) e

  pub unwrap_no_writes : wrapped at_.context.me g.heap o ≡ true → may_write at_ o ≡ false → m.unwrap_object p at_ o n g ≡ Fault (n + 1) Writes at_.line
  unwrap_no_writes e d = passes at_ (wrapped at_.context.me g.heap o) n Unwrap (open_writable (n + 1)) e ∙ fails at_ (may_write at_ o) (n + 1) Writes (open_checked (n + 2)) d

  pub unwrap_claimed : wrapped at_.context.me g.heap o ≡ true → may_write at_ o ≡ true → is_zero_int (g.heap.get o).count ≡ false → m.unwrap_object p at_ o n g ≡ Fault (n + 2) Claimed at_.line
  unwrap_claimed e d z =
      passes at_ (wrapped at_.context.me g.heap o) n Unwrap (open_writable (n + 1)) e ∙ passes at_ (may_write at_ o) (n + 1) Writes (open_checked (n + 2)) d
      ∙ fails at_ (is_zero_int (g.heap.get o).count) (n + 2) Claimed (Gives (m.heap_of g opened)) z

  pub unwrap_gives : wrapped at_.context.me g.heap o ≡ true → may_write at_ o ≡ true → is_zero_int (g.heap.get o).count ≡ true → m.unwrap_object p at_ o n g ≡ Gives (m.heap_of g opened)
  unwrap_gives e d z =
      passes at_ (wrapped at_.context.me g.heap o) n Unwrap (open_writable (n + 1)) e ∙ passes at_ (may_write at_ o) (n + 1) Writes (open_checked (n + 2)) d
      ∙ passes at_ (is_zero_int (g.heap.get o).count) (n + 2) Claimed (Gives (m.heap_of g opened)) z
