-- Behind the branches of an `if` in a block: what is behind both can be what is at the end that the run came to.
use Rattle.std.proofs.Common.{◌≡◌, ℕ, ◌+◌, Bool, true, false, List, [], ◌∷◌, ◌++◌, map, length, ap, sym, ◌∙◌, subst, true≢false}
use Rattle.action_conditions.proofs.Goes.{no_extension, both_extensions}
use Rattle.object_types.specs.declared.references.Ref.{Ref}
use Rattle.object_types.specs.declared.values.Value.{Value}
use Rattle.object_types.specs.Heap.{Heap}
use Rattle.method.specs.Tables.{local}
use Rattle.method.specs.WellFormed.{IsHeapOf, is_value}
use Rattle.terms.specs.Formula.{Formula}
use Rattle.term_meaning.specs.Meaning.{Language}
use Rattle.conditions.specs.Formulas.{not'}
use Rattle.conditions.specs.Symbolic.{Symbolic}
use Rattle.conditions.specs.Paths.{Execution, facts}
use Rattle.conditions.specs.Code.{State}
use Rattle.conditions.specs.Actions.{Joined, join_locals, join_heaps, conjunction, end_fact, join_branches, equal_first, equal_second}
use Rattle.conditions.proofs.Hiding.{Quiet, AllAlike}
use Rattle.conditions.proofs.FromRuns.{Count, count_of, IsWithin, Values}
use Rattle.conditions.proofs.FromRuns as runs
use Rattle.conditions.specs.Formulas.{same}
use Rattle.conditions.proofs.Joins.{joined_many, same_heap}
use Rattle.condition_meaning.proofs.Environments.{Environment, Agree, agree_self, agree_then, agree_less, Has, HeapIs, Is, Holds, has_says, holds_eq, holds_same, holds_all, holds_first, holds_second}
use Rattle.condition_meaning.proofs.Extensions.{an_integer, is_integer, a_reference, is_refers, a_heap, is_heap}
use Rattle.action_conditions.proofs.Places.{ShownAt}
use Rattle.block_conditions.proofs.Beside.{Passes, All}

module _ (l : Language) (t : Ref) (hid : ℕ → Bool) where
  abbrev E : Type 0
  E = Environment l t

  abbrev First : ℕ → List Symbolic → Values → State → Joined → Type 1
  First = runs.First (Environment l t) (Agree l t) (agree_self l t) (agree_then l t) (agree_less l t) (Holds l t) (Is l t) (Has l t) (HeapIs l t) (has_says l t) (holds_eq l t) (holds_same l t) (holds_all l t) (holds_first l t) (holds_second l t) (an_integer l t) (is_integer l t) (a_reference l t) (is_refers l t) (IsHeapOf l.program) (a_heap l t) (is_heap l t) 0 (λ e. Unit {0}) [] hid (λ i h. absurd (true≢false (sym h)))

  abbrev Second : ℕ → List Symbolic → Values → State → Joined → Type 1
  Second = runs.Second (Environment l t) (Agree l t) (agree_self l t) (agree_then l t) (agree_less l t) (Holds l t) (Is l t) (Has l t) (HeapIs l t) (has_says l t) (holds_eq l t) (holds_same l t) (holds_all l t) (holds_first l t) (holds_second l t) (an_integer l t) (is_integer l t) (a_reference l t) (is_refers l t) (IsHeapOf l.program) (a_heap l t) (is_heap l t) 0 (λ e. Unit {0}) [] hid (λ i h. absurd (true≢false (sym h)))

  abbrev FirstHeap : Formula → Heap → Joined → Joined → Type 1
  FirstHeap = runs.FirstHeap (Environment l t) (Agree l t) (agree_self l t) (agree_then l t) (agree_less l t) (Holds l t) (Is l t) (Has l t) (HeapIs l t) (has_says l t) (holds_eq l t) (holds_same l t) (holds_all l t) (holds_first l t) (holds_second l t) (an_integer l t) (is_integer l t) (a_reference l t) (is_refers l t) (IsHeapOf l.program) (a_heap l t) (is_heap l t) 0 (λ e. Unit {0}) [] hid (λ i h. absurd (true≢false (sym h)))

  abbrev SecondHeap : Heap → Joined → Joined → Type 1
  SecondHeap = runs.SecondHeap (Environment l t) (Agree l t) (agree_self l t) (agree_then l t) (agree_less l t) (Holds l t) (Is l t) (Has l t) (HeapIs l t) (has_says l t) (holds_eq l t) (holds_same l t) (holds_all l t) (holds_first l t) (holds_second l t) (an_integer l t) (is_integer l t) (a_reference l t) (is_refers l t) (IsHeapOf l.program) (a_heap l t) (is_heap l t) 0 (λ e. Unit {0}) [] hid (λ i h. absurd (true≢false (sym h)))

  abbrev Shown : E → ℕ → List Symbolic → Values → Type 0
  Shown = runs.Shown (Environment l t) (Agree l t) (agree_self l t) (agree_then l t) (agree_less l t) (Holds l t) (Is l t) (Has l t) (HeapIs l t) (has_says l t) (holds_eq l t) (holds_same l t) (holds_all l t) (holds_first l t) (holds_second l t) (an_integer l t) (is_integer l t) (a_reference l t) (is_refers l t) (IsHeapOf l.program) (a_heap l t) (is_heap l t) 0 (λ e. Unit {0}) hid

  to_shown : (e : E) (i : ℕ) (ws : List Symbolic) (v : Values) → ShownAt l t hid e i ws v → Shown e i ws v
  to_shown e i [] v s = tt
  to_shown e i (w ∷ ws) v s = (s.0, to_shown e (i + 1) ws v s.1)

  from_shown : (e : E) (i : ℕ) (ws : List Symbolic) (v : Values) → Shown e i ws v → ShownAt l t hid e i ws v
  from_shown e i [] v s = tt
  from_shown e i (w ∷ ws) v s = (s.0, from_shown e (i + 1) ws v s.1)

  all_both : (e : E) (fs gs : List Formula) → All l t e fs → All l t e gs → All l t e (fs ++ gs)
  all_both e [] gs a b = b
  all_both e (f ∷ fs) gs a b = (a.0, all_both e fs gs a.1 b)

  all_together : (e : E) (fs : List Formula) → All l t e fs → All l t e (conjunction fs)
  all_together e [] a = tt
  all_together e (f ∷ fs) a = (holds_all l t e (f ∷ fs) a, tt)

  -- what the joined state stands for
  pub record Joins (u : State) (size : ℕ) (h : Heap) (v : List Value) (e : E) : Type 0 where
    pub many : length u.locals ≡ size
    pub heap : HeapIs l t e u.heap h
    pub locals : ShownAt l t hid e 0 u.locals (local v)

  module _ (st : State) (b : Formula) (x y : Execution State) (h : Heap) (v : List Value) (Before After : E → Type 0)
      (many : length x.gives.locals ≡ length st.locals)
      (quiet : Quiet [] hid 0 x.gives.locals y.gives.locals)
      (proper : IsHeapOf l.program h) (named : (i : ℕ) → is_value (local v i) ≡ true)
    where
      j0 : Joined
      j0 = join_locals [] 0 st.locals x.gives.locals y.gives.locals y.gives

      joined_length : (j : Joined) → j0.locals ≡ j.locals → length j.locals ≡ length st.locals
      unfolding j0
      joined_length j same = ap length (sym same) ∙ joined_many [] hid 0 st.locals x.gives.locals y.gives.locals y.gives many quiet

      pub join_then : IsWithin (count_of x.gives) (count_of y.gives) → ((e : E) → Before e → Holds l t e b) → ((e : E) → After e → HeapIs l t e x.gives.heap h × ShownAt l t hid e 0 x.gives.locals (local v))
          → Passes l t (count_of st) (count_of x.gives) x Before After
          → Passes l t (count_of st) (count_of (join_branches [] st b false false x y).gives) (join_branches [] st b false false x y) Before (λ e. After e × Joins (join_branches [] st b false false x y).gives (length st.locals) h v e)
      unfolding j0 runs.both_extensions runs.no_extension
      join_then within holds_b shown_ f =
          let first : First 0 x.gives.locals (local v) y.gives j0 = runs.join_first (Environment l t) (Agree l t) (agree_self l t) (agree_then l t) (agree_less l t) (Holds l t) (Is l t) (Has l t) (HeapIs l t) (has_says l t) (holds_eq l t) (holds_same l t) (holds_all l t) (holds_first l t) (holds_second l t) (an_integer l t) (is_integer l t) (a_reference l t) (is_refers l t) (IsHeapOf l.program) (a_heap l t) (is_heap l t) 0 (λ e. Unit {0}) [] hid (λ i h. absurd (true≢false (sym h))) 0 st.locals x.gives.locals y.gives.locals (local v) named y.gives quiet in
          let j = join_heaps x.gives.heap j0 in
          let heaps : FirstHeap x.gives.heap h j0 j = runs.join_heap (Environment l t) (Agree l t) (agree_self l t) (agree_then l t) (agree_less l t) (Holds l t) (Is l t) (Has l t) (HeapIs l t) (has_says l t) (holds_eq l t) (holds_same l t) (holds_all l t) (holds_first l t) (holds_second l t) (an_integer l t) (is_integer l t) (a_reference l t) (is_refers l t) (IsHeapOf l.program) (a_heap l t) (is_heap l t) 0 (λ e. Unit {0}) [] hid (λ i h. absurd (true≢false (sym h))) x.gives.heap h proper j0 in
          let skip = no_extension l t (count_of x.gives) (count_of y.gives) within in
          record {
            extension = both_extensions l t (count_of st) (count_of x.gives) (count_of j.state) f.extension (both_extensions l t (count_of x.gives) (count_of y.gives) (count_of j.state) skip (both_extensions l t (count_of y.gives) (count_of j0.state) (count_of j.state) first.extension heaps.extension));
            passes = λ e so before.
                let z = f.passes e so.0 before in
                let k = shown_ e z.1 in
                let s = first.shown e so.1.1.0 (to_shown e 0 x.gives.locals (local v) k.1) in
                let w = heaps.is e so.1.1.1 k.0 s.1 in
                let known : All l t e (b ∷ conjunction (facts x.path) ++ conjunction (map equal_first j.joints)) = (holds_b e before, all_both e (conjunction (facts x.path)) (conjunction (map equal_first j.joints)) (all_together e (facts x.path) z.0) (all_together e (map equal_first j.joints) w.1)) in (
                  (holds_first l t e (end_fact b false (facts x.path) (map equal_first j.joints)) (end_fact (not' b) false (facts y.path) (map equal_second j.joints)) (holds_all l t e (b ∷ conjunction (facts x.path) ++ conjunction (map equal_first j.joints)) known), tt),
                  (z.1, record { many = joined_length j heaps.locals; heap = w.0; locals = from_shown e 0 j.locals (local v) (subst (λ (ws : List Symbolic). Shown e 0 ws (local v)) heaps.locals s.0) }),
                );
          }

      pub join_else : IsWithin (count_of st) (count_of x.gives) → AllAlike x.gives.locals y.gives.locals → ((e : E) → Before e → Holds l t e (not' b)) → ((e : E) → After e → HeapIs l t e y.gives.heap h × ShownAt l t hid e 0 y.gives.locals (local v))
          → Passes l t (count_of x.gives) (count_of y.gives) y Before After
          → Passes l t (count_of st) (count_of (join_branches [] st b false false x y).gives) (join_branches [] st b false false x y) Before (λ e. After e × Joins (join_branches [] st b false false x y).gives (length st.locals) h v e)
      unfolding j0 runs.both_extensions runs.no_extension
      join_else within alike holds_b shown_ f =
          let second : Second 0 y.gives.locals (local v) y.gives j0 = runs.join_second (Environment l t) (Agree l t) (agree_self l t) (agree_then l t) (agree_less l t) (Holds l t) (Is l t) (Has l t) (HeapIs l t) (has_says l t) (holds_eq l t) (holds_same l t) (holds_all l t) (holds_first l t) (holds_second l t) (an_integer l t) (is_integer l t) (a_reference l t) (is_refers l t) (IsHeapOf l.program) (a_heap l t) (is_heap l t) 0 (λ e. Unit {0}) [] hid (λ i h. absurd (true≢false (sym h))) 0 st.locals x.gives.locals y.gives.locals (local v) named y.gives quiet alike in
          let j = join_heaps x.gives.heap j0 in
          let heaps : SecondHeap h j0 j = runs.second_heap_step (Environment l t) (Agree l t) (agree_self l t) (agree_then l t) (agree_less l t) (Holds l t) (Is l t) (Has l t) (HeapIs l t) (has_says l t) (holds_eq l t) (holds_same l t) (holds_all l t) (holds_first l t) (holds_second l t) (an_integer l t) (is_integer l t) (a_reference l t) (is_refers l t) (IsHeapOf l.program) (a_heap l t) (is_heap l t) 0 (λ e. Unit {0}) [] hid (λ i h. absurd (true≢false (sym h))) (same x.gives.heap j0.state.heap) x.gives.heap h proper j0 in
          let skip = no_extension l t (count_of st) (count_of x.gives) within in
          record {
            extension = both_extensions l t (count_of st) (count_of x.gives) (count_of j.state) skip (both_extensions l t (count_of x.gives) (count_of y.gives) (count_of j.state) f.extension (both_extensions l t (count_of y.gives) (count_of j0.state) (count_of j.state) second.extension heaps.extension));
            passes = λ e so before.
                let z = f.passes e so.1.0 before in
                let k = shown_ e z.1 in
                let s = second.shown e so.1.1.0 (to_shown e 0 y.gives.locals (local v) k.1) in
                let same_ : j0.state.heap ≡ y.gives.heap = same_heap [] hid 0 st.locals x.gives.locals y.gives.locals y.gives in
                let w = heaps.is e so.1.1.1 (subst (λ (g : Formula). HeapIs l t e g h) (sym same_) k.0) s.1 in
                let known : All l t e (not' b ∷ conjunction (facts y.path) ++ conjunction (map equal_second j.joints)) = (holds_b e before, all_both e (conjunction (facts y.path)) (conjunction (map equal_second j.joints)) (all_together e (facts y.path) z.0) (all_together e (map equal_second j.joints) w.1)) in (
                  (holds_second l t e (end_fact b false (facts x.path) (map equal_first j.joints)) (end_fact (not' b) false (facts y.path) (map equal_second j.joints)) (holds_all l t e (not' b ∷ conjunction (facts y.path) ++ conjunction (map equal_second j.joints)) known), tt),
                  (z.1, record { many = joined_length j heaps.locals; heap = w.0; locals = from_shown e 0 j.locals (local v) (subst (λ (ws : List Symbolic). Shown e 0 ws (local v)) heaps.locals s.0) }),
                );
          }
