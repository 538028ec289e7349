-- Owned sets of listed objects, changed in a block: members that join and leave.
use Rattle.std.proofs.Common.{◌≡◌, ℕ, ◌+◌, Bool, true, false, ◌&&◌, if◌then◌else◌, List, [], ◌∷◌, map, refl, ap, sym, ◌∙◌}
use Rattle.condition_walks.proofs.ActionSizes.{by_members, member_size}
use Rattle.std.specs.Prelude.{pos}
use Rattle.object_types.specs.declared.references.Ref.{Ref}
use Rattle.object_types.specs.declared.values.Value.{Value}
use Rattle.object_types.specs.declared.values.Value.TheVariants.{Int, Ref as Refers}
use Rattle.object_types.specs.Values.{referent, says}
use Rattle.object_types.specs.Sets.{is_in, with_member, without_member}
use Rattle.object_types.specs.Heap.{put, hand_over, wrapped, with_owned}
use Rattle.method.specs.declared.program.CheckKind.TheVariants.{Write, Owns}
use Rattle.method.specs.declared.program.FunctionInfo.{FunctionInfo}
use Rattle.method.specs.declared.program.OwnsChange.{OwnsChange}
use Rattle.method.specs.declared.program.OwnsChange.TheVariants.{Assigned, Added, Removed}
use Rattle.method.specs.declared.program.Program.{Program}
use Rattle.method.specs.Expressions as m
use Rattle.method.specs.Expressions.{Spot as MachineSpot, is_listed, may_write}
use Rattle.method.specs.Actions as M
use Rattle.method.specs.Actions.{Progress}
use Rattle.terms.specs.Formula.{Formula}
use Rattle.conditions.specs.Formulas.{me, nat, and', any_of, set, owned_column, owner_column, owns}
use Rattle.conditions.specs.Paths.{Execution, Gives, after, check}
use Rattle.conditions.specs.Paths as path
use Rattle.conditions.specs.Code.{Spot, State, with_heap}
use Rattle.conditions.specs.Code as C
use Rattle.conditions.specs.Actions as walk
use Rattle.conditions.proofs.FromRuns.{Count, within_self}
use Rattle.condition_meaning.specs.Languages.{language_of}
use Rattle.condition_meaning.proofs.Environments.{Environment, Has, is_and, has_int, has_me}
use Rattle.action_conditions.proofs.Words.{Refer, is_member, is_wrapped}
use Rattle.block_conditions.proofs.Beside.{Beside, beside_after, beside_gives, beside_check, beside_less, beside_never}
use Rattle.action_conditions.proofs.Updates.{set_member, set_owner, same_columns, hand_one}
use Rattle.action_conditions.proofs.Permissions.{may_write_is, is_listed_is}
use Rattle.block_conditions.proofs.Operands.{At}
use Rattle.block_conditions.proofs.Stores.{Quietly}

module _ (p : Program) (f : FunctionInfo) (at_ : MachineSpot) (a : Spot) (hid : ℕ → Bool) (within : at_.inside ≡ true) (inside : a.inside ≡ true) where
  abbrev E : Type 0
  E = Environment (language_of p) at_.context.me

  abbrev HasIn : E → Formula → Value → Type 0
  HasIn = Has (language_of p) at_.context.me

  abbrev Here : State → Progress → E → Type 0
  Here = At p f at_ a hid

  abbrev Quiet : State → Progress → Progress → E → Type 0
  Quiet = Quietly p f at_ a hid

  -- the heap where s is a member of r or isn't, and has this owner
  regrouped : (e : E) (st : State) (g : Progress) → Here st g e → (o q v w : Formula) (r s t : Ref) (holds : Bool) → HasIn e o (Refers r) → HasIn e q (Refers s) → HasIn e v (if holds then Int (pos 1) else Int (pos 0)) → HasIn e w (Refers t)
      → Here (with_heap st (set owner_column (set owned_column st.heap (o ∷ q ∷ []) v) (q ∷ []) w)) (M.heap_of g (hand_over (put g.heap r (with_owned s holds (g.heap.get r))) (s ∷ []) t)) e
  regrouped e st g k o q v w r s t holds ho hq hv hw =
      let h1 = put g.heap r (with_owned s holds (g.heap.get r)) in
      let a1 = set_member (language_of p) at_.context.me e st.heap g.heap o r k.heap ho q v s holds hq (by holds hv) in
      let a2 = set_owner (language_of p) at_.context.me e (set owned_column st.heap (o ∷ q ∷ []) v) h1 q s a1 hq w t hw in
      record { spot = k.spot; many = k.many; heap = same_columns (language_of p) at_.context.me e (set owner_column (set owned_column st.heap (o ∷ q ∷ []) v) (q ∷ []) w) (put h1 s (record (h1.get s) { owner = t })) (hand_over h1 (s ∷ []) t) (hand_one p h1 s t) a2; locals = k.locals }
    where
      by : (b : Bool) → HasIn e v (if b then Int (pos 1) else Int (pos 0)) → HasIn e v (says b)
      by true h = h
      by false h = h

  module _ (st : State) (g : Progress) (n : ℕ) (c : Count) (o q : Formula) (r s : Ref) (Before : E → Type 0) (known : (e : E) → Before e → Here st g e × HasIn e o (Refers r) × HasIn e q (Refers s)) where
    joins : Execution State
    joins = check (any_of (C.is_listed p a o)) (check (and' (C.wrapped st q) (C.writable p a q)) (Gives (with_heap st (set owner_column (set owned_column st.heap (o ∷ q ∷ []) (nat 1)) (q ∷ []) o))))

    m_joins : m.Outcome Progress
    m_joins = m.check at_ (is_listed at_ r) n Write (m.check at_ (wrapped at_.context.me g.heap s && may_write at_ s) (n + 1) Owns (m.Gives (M.heap_of g (hand_over (put g.heap r (record (g.heap.get r) { owned = with_member s (g.heap.get r).owned })) (s ∷ []) r))))

    beside_joins : Beside (language_of p) at_.context.me n c c joins m_joins Before (λ g' e. Quiet joins.gives g g' e)
    unfolding joins m_joins
    beside_joins =
        let last = with_heap st (set owner_column (set owned_column st.heap (o ∷ q ∷ []) (nat 1)) (q ∷ []) o) in
        let m_last = M.heap_of g (hand_over (put g.heap r (record (g.heap.get r) { owned = with_member s (g.heap.get r).owned })) (s ∷ []) r) in
        let After : Progress → E → Type 0 = λ g' e. Quiet last g g' e in
        beside_check (language_of p) at_.context.me at_ (is_listed at_ r) n (n + 1) c c Write (any_of (C.is_listed p a o)) (check (and' (C.wrapped st q) (C.writable p a q)) (Gives last)) (m.check at_ (wrapped at_.context.me g.heap s && may_write at_ s) (n + 1) Owns (m.Gives m_last)) Before After refl (within_self c)
        (λ e b. let k = known e b in is_listed_is (language_of p) at_.context.me at_ refl a e k.0.spot o r k.1) (λ y.
        beside_check (language_of p) at_.context.me at_ (wrapped at_.context.me g.heap s && may_write at_ s) (n + 1) (n + 1 + 1) c c Owns (and' (C.wrapped st q) (C.writable p a q)) (Gives last) (m.Gives m_last) Before After refl (within_self c)
        (λ e b. let k = known e b in is_and (language_of p) at_.context.me e (C.wrapped st q) (C.writable p a q) (wrapped at_.context.me g.heap s) (may_write at_ s) (is_wrapped (language_of p) at_.context.me e st.heap g.heap k.0.heap q s k.2) (may_write_is (language_of p) at_.context.me at_ refl a e k.0.spot q s k.2)) (λ z.
        beside_gives (language_of p) at_.context.me (n + 1 + 1) c last m_last Before After (λ e b. let k = known e b in (regrouped e st g k.0 o q (nat 1) o r s r true k.1 k.2 (has_int (language_of p) at_.context.me e (pos 1)) k.1, refl, refl))))

    leaves : Execution State
    leaves = check (any_of (C.is_listed p a o)) (check (owns st.heap o q) (Gives (with_heap st (set owner_column (set owned_column st.heap (o ∷ q ∷ []) (nat 0)) (q ∷ []) me))))

    m_leaves : m.Outcome Progress
    m_leaves = m.check at_ (is_listed at_ r) n Write (m.check at_ (is_in s (g.heap.get r).owned) (n + 1) Owns (m.Gives (M.heap_of g (hand_over (put g.heap r (record (g.heap.get r) { owned = without_member s (g.heap.get r).owned })) (s ∷ []) at_.context.me))))

    beside_leaves : Beside (language_of p) at_.context.me n c c leaves m_leaves Before (λ g' e. Quiet leaves.gives g g' e)
    unfolding leaves m_leaves
    beside_leaves =
        let last = with_heap st (set owner_column (set owned_column st.heap (o ∷ q ∷ []) (nat 0)) (q ∷ []) me) in
        let m_last = M.heap_of g (hand_over (put g.heap r (record (g.heap.get r) { owned = without_member s (g.heap.get r).owned })) (s ∷ []) at_.context.me) in
        let After : Progress → E → Type 0 = λ g' e. Quiet last g g' e in
        beside_check (language_of p) at_.context.me at_ (is_listed at_ r) n (n + 1) c c Write (any_of (C.is_listed p a o)) (check (owns st.heap o q) (Gives last)) (m.check at_ (is_in s (g.heap.get r).owned) (n + 1) Owns (m.Gives m_last)) Before After refl (within_self c)
        (λ e b. let k = known e b in is_listed_is (language_of p) at_.context.me at_ refl a e k.0.spot o r k.1) (λ y.
        beside_check (language_of p) at_.context.me at_ (is_in s (g.heap.get r).owned) (n + 1) (n + 1 + 1) c c Owns (owns st.heap o q) (Gives last) (m.Gives m_last) Before After refl (within_self c)
        (λ e b. let k = known e b in is_member (language_of p) at_.context.me e st.heap g.heap k.0.heap o r k.1 q s k.2) (λ z.
        beside_gives (language_of p) at_.context.me (n + 1 + 1) c last m_last Before After (λ e b. let k = known e b in (regrouped e st g k.0 o q (nat 0) me r s at_.context.me false k.1 k.2 (has_int (language_of p) at_.context.me e (pos 0)) (has_me (language_of p) at_.context.me e), refl, refl))))

    in_block : (b d : Bool) (u v : Execution State) (x y : m.Outcome Progress) → b ≡ true → d ≡ true → Beside (language_of p) at_.context.me n c c u x Before (λ g' e. Quiet u.gives g g' e) → Beside (language_of p) at_.context.me n c c (if b then u else v) (if d then x else y) Before (λ g' e. Quiet (if b then u else v).gives g g' e)
    in_block true true u v x y h i k = k
    in_block true false u v x y h i k = absurd (cc)
    in_block false d u v x y h i k = absurd (cc)

    pub beside_member : (way : OwnsChange) → Beside (language_of p) at_.context.me n c c (walk.member_change p a way o q st) (M.member_change p at_ way r s n g) Before (λ g' e. Quiet (walk.member_change p a way o q st).gives g g' e)
    unfolding joins m_joins leaves m_leaves
    beside_member Assigned = beside_gives (language_of p) at_.context.me n c st g Before (λ g' e. Quiet st g g' e) (λ e b. ((known e b).0, refl, refl))
    beside_member Added = in_block a.inside at_.inside joins _ m_joins _ inside within beside_joins
    beside_member Removed = in_block a.inside at_.inside leaves _ m_leaves _ inside within beside_leaves

  quiet_then : (u : State) (g g1 g2 : Progress) (e : E) → (g1.changed ≡ g.changed) × (g1.made ≡ g.made) → Quiet u g1 g2 e → Quiet u g g2 e
  quiet_then u g g1 g2 e same k = (k.0, k.1 ∙ same.0, k.2 ∙ same.1)

  pub beside_members : (way : OwnsChange) → by_members way ≡ true → (o : Formula) (r : Ref) (qs : List Formula) (vs : List Value) (st : State) (g : Progress) (n : ℕ) (c : Count) (Before : E → Type 0) → ((e : E) → Before e → Here st g e × HasIn e o (Refers r) × Refer (language_of p) at_.context.me e qs (map referent vs))
      → Beside (language_of p) at_.context.me n c c (walk.members_change p a way o qs st) (M.members_change p at_ way r vs n g) Before (λ g' e. Quiet (walk.members_change p a way o qs st).gives g g' e)
  beside_members way moves o r [] [] st g n c Before known = beside_gives (language_of p) at_.context.me n c st g Before (λ g' e. Quiet st g g' e) (λ e b. ((known e b).0, refl, refl))
  beside_members way moves o r [] (v ∷ vs) st g n c Before known = beside_never (language_of p) at_.context.me n c c (Gives st) (M.members_change p at_ way r (v ∷ vs) n g) Before (λ g' e. Quiet st g g' e) (within_self c) (λ e b. (known e b).2)
  beside_members way moves o r (q ∷ qs) [] st g n c Before known = beside_never (language_of p) at_.context.me n c c (walk.members_change p a way o (q ∷ qs) st) (m.Gives g) Before (λ g' e. Quiet (walk.members_change p a way o (q ∷ qs) st).gives g g' e) (within_self c) (λ e b. (known e b).2)
  beside_members way moves o r (q ∷ qs) (v ∷ vs) st g n c Before known =
      let u = walk.member_change p a way o q st in
      let After : Progress → E → Type 0 = λ g' e. Quiet (walk.members_change p a way o (q ∷ qs) st).gives g g' e in
      beside_after (language_of p) at_.context.me n (n + 2) c c c u (λ st1. walk.members_change p a way o qs st1) (M.member_change p at_ way r (referent v) n g) (λ g'. M.members_change p at_ way r vs (n + 2) g') Before (λ g' e. Quiet u.gives g g' e) After
      (ap (λ k. n + k) (sym (member_size p a.inside a way moves o q st))) (within_self c) (beside_member st g n c o q r (referent v) Before (λ e b. let k = known e b in (k.0, k.1, k.2.0)) way) (λ g1 came.
      beside_less (language_of p) at_.context.me (n + 2) c c (walk.members_change p a way o qs u.gives) (M.members_change p at_ way r vs (n + 2) g1) (λ e. Before e × Quiet u.gives g g1 e) (λ e. Before e × Quiet u.gives g g1 e) (λ g' e. Quiet (walk.members_change p a way o qs u.gives).gives g1 g' e) After (λ e b. b) (λ g' is e b k. quiet_then (walk.members_change p a way o qs u.gives).gives g g1 g' e (b.1.1, b.1.2) k)
      (beside_members way moves o r qs vs u.gives g1 (n + 2) c (λ e. Before e × Quiet u.gives g g1 e) (λ e b. let k = known e b.0 in (b.1.0, k.1, k.2.1))))
