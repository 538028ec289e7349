-- What the actions leave.
use Rattle.std.proofs.Common.{◌≡◌, ℕ, Bool, true, false, ◌+◌, cond, ◌&&◌, List, refl, ap, ◌∙◌}
use Rattle.object_types.specs.declared.references.Ref.{Ref}
use Rattle.object_types.specs.declared.records.Mode.TheVariants.{Closed}
use Rattle.method.specs.declared.program.CheckKind.{CheckKind}
use Rattle.method.specs.declared.program.CheckKind.TheVariants.{Write, Writes, Owns, Wrap, Unwrap, Claimed as HasClaims, Invariant}
use Rattle.object_types.specs.References.{same_ref}
use Rattle.object_types.specs.Sets.{is_in, every, with_member, without_member}
use Rattle.object_types.specs.Heap.{Heap, put, hand_over, mutable, wrapped}
use Rattle.object_types.specs.Values.{is_zero_int}
use Rattle.method.specs.Invariants.{inv_holds}
use Rattle.method.specs.Expressions.{Outcome, Gave, Gives, Spot, Tested, inv_test, check, check_spec, is_listed, may_write}
use Rattle.method.specs.Actions.{Progress, heap_of, wrapped_set, set_overflow}
use Rattle.object_types.proofs.Orders.{ref_order}
use Rattle.ownership.specs.Effects.{closed, opened, given, taken}
use Rattle.ownership.specs.ActionEffects.{WrapCloses, UnwrapOpens, JoinGives, LeaveTakes}

-- what stands behind a check that is passed
passed : {A : Type 0} (at_ : Spot) (b : Bool) (n : ℕ) (k : CheckKind) (o : Outcome A) (a : A) → (check at_ b n k o).end ≡ Gave a → o.end ≡ Gave a
passed at_ true n k o a h = h
passed at_ false n k o a h = absurd (cc)

-- what is done inside, inside
chosen : {A : Type 0} (b : Bool) (x y : Outcome A) (a : A) → b ≡ true → (cond b x y).end ≡ Gave a → x.end ≡ Gave a
chosen true x y a e h = h
chosen false x y a e h = absurd (cc)

gave : {A : Type 0} (a b : A) → Gave a ≡ Gave b → b ≡ a
gave a b h = cc

-- a set put in and closed at once, or one after the other
at_once : (h : Heap) (o : Ref) (members : List Ref) (q : Ref) → (hand_over (put h o (record (h.get o) { mode = Closed; owned = members })) members o).get q ≡ (closed (put h o (record (h.get o) { owned = members })) o).get q
unfolding put hand_over
at_once h o members q = rw (ref_order.itself o) (by_test (same_ref q o))
  where
    by_test : (b : Bool) → cond (is_in q members) (record (cond b (record (h.get o) { mode = Closed; owned = members }) (h.get q)) { owner = o }) (cond b (record (h.get o) { mode = Closed; owned = members }) (h.get q)) ≡
        cond (is_in q members) (record (cond b (record (h.get o) { mode = Closed; owned = members }) (cond b (record (h.get o) { owned = members }) (h.get q))) { owner = o }) (cond b (record (h.get o) { mode = Closed; owned = members }) (cond b (record (h.get o) { owned = members }) (h.get q)))
    by_test true = refl
    by_test false = refl

pub wrap_closes : WrapCloses
wrap_closes p at_ ty o n g left h q =
    let me = at_.context.me in
    let members = wrapped_set p at_ ty g.heap o in
    let h1 : Heap = hand_over (put g.heap o (record (g.heap.get o) { mode = Closed; owned = members })) members o in
    let last : Outcome Progress = Gives (heap_of g h1) in
    let kept : Outcome Progress = check_spec at_ (inv_test p o g.heap h1) (n + 3) Invariant last in
    let owned : Tested = record { overflow = set_overflow p at_ ty g.heap o; holds = every (λ m. wrapped me g.heap m && may_write at_ m) members } in
    let set : Outcome Progress = check_spec at_ owned (n + 2) Wrap kept in
    let written : Outcome Progress = check at_ (may_write at_ o) (n + 1) Writes set in
    let second = passed at_ (mutable me g.heap o) n Wrap written left h in
    let third = passed at_ (may_write at_ o) (n + 1) Writes set left second in
    let fourth = passed at_ owned.holds (n + 2) Wrap kept left third in
    let fifth = passed at_ (inv_holds p o g.heap h1) (n + 3) Invariant last left fourth in
    ap (λ (x : Progress). x.heap.get q) (gave (heap_of g h1) left fifth) ∙ at_once g.heap o members q

pub unwrap_opens : UnwrapOpens
unwrap_opens p at_ o n g left h =
    let last : Outcome Progress = Gives (heap_of g (opened g.heap o at_.context.me)) in
    let free : Outcome Progress = check at_ (is_zero_int (g.heap.get o).count) (n + 2) HasClaims last in
    let written : Outcome Progress = check at_ (may_write at_ o) (n + 1) Writes free in
    let second = passed at_ (wrapped at_.context.me g.heap o) n Unwrap written left h in
    let third = passed at_ (may_write at_ o) (n + 1) Writes free left second in
    let fourth = passed at_ (is_zero_int (g.heap.get o).count) (n + 2) HasClaims last left third in
    ap (λ (x : Progress). x.heap) (gave (heap_of g (opened g.heap o at_.context.me)) left fourth)

pub join_gives : JoinGives
join_gives p at_ o q n g left inside h =
    let last : Outcome Progress = Gives (heap_of g (given g.heap q o)) in
    let owned : Outcome Progress = check at_ (wrapped at_.context.me g.heap q && may_write at_ q) (n + 1) Owns last in
    let joined : Heap = put g.heap o (record (g.heap.get o) { owned = with_member q (g.heap.get o).owned }) in
    let outside : Outcome Progress = check at_ (mutable at_.context.me g.heap o) n Write (check at_ (may_write at_ o) (n + 1) Writes (Gives (heap_of g joined))) in
    let first = chosen at_.inside (check at_ (is_listed at_ o) n Write owned) outside left inside h in
    let second = passed at_ (is_listed at_ o) n Write owned left first in
    let third = passed at_ (wrapped at_.context.me g.heap q && may_write at_ q) (n + 1) Owns last left second in
    ap (λ (x : Progress). x.heap) (gave (heap_of g (given g.heap q o)) left third)

pub leave_takes : LeaveTakes
leave_takes p at_ o q n g left inside h =
    let last : Outcome Progress = Gives (heap_of g (taken g.heap o q at_.context.me)) in
    let member : Outcome Progress = check at_ (is_in q (g.heap.get o).owned) (n + 1) Owns last in
    let less : Heap = put g.heap o (record (g.heap.get o) { owned = without_member q (g.heap.get o).owned }) in
    let outside : Outcome Progress = check at_ (mutable at_.context.me g.heap o) n Write (check at_ (may_write at_ o) (n + 1) Writes (Gives (heap_of g less))) in
    let first = chosen at_.inside (check at_ (is_listed at_ o) n Write member) outside left inside h in
    let second = passed at_ (is_listed at_ o) n Write member left first in
    let third = passed at_ (is_in q (g.heap.get o).owned) (n + 1) Owns last left second in
    ap (λ (x : Progress). x.heap) (gave (heap_of g (taken g.heap o q at_.context.me)) left third)
