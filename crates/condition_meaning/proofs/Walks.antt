-- The induction on runs over the environments of a thread.
use Rattle.std.proofs.Common.{ℕ, Bool, List}
use Rattle.object_types.specs.declared.references.Ref.{Ref}
use Rattle.object_types.specs.Heap.{Heap}
use Rattle.method.specs.WellFormed.{IsHeapOf}
use Rattle.terms.specs.Formula.{Formula}
use Rattle.term_meaning.specs.Meaning.{Language}
use Rattle.conditions.specs.Paths.{Execution, conditions}
use Rattle.conditions.specs.Symbolic.{Symbolic}
use Rattle.conditions.specs.Code.{State}
use Rattle.conditions.specs.Ways.{AllHold, IsValidAt}
use Rattle.conditions.proofs.FromRuns as runs
use Rattle.conditions.proofs.FromRuns.{Values, count_of}
use Rattle.condition_meaning.proofs.Environments.{Environment, Agree, agree_self, agree_then, agree_less, Has, HeapIs, Is, Holds, has_says, holds_eq, holds_same, holds_all, holds_first, holds_second, holds_yes, holds_and, holds_imp}
use Rattle.condition_meaning.proofs.Extensions.{an_integer, is_integer, a_reference, is_refers, a_heap, is_heap}

module _ (l : Language) (t : Ref) (size : ℕ) (Spotted : Environment l t → Type 0) where
  abbrev pub Shown : (ℕ → Bool) → Environment l t → ℕ → List Symbolic → Values → Type 0
  Shown = runs.Shown (Environment l t) (Agree l t) (agree_self l t) (agree_then l t) (agree_less l t) (Holds l t) (Is l t) (Has l t) (HeapIs l t) (has_says l t) (holds_eq l t) (holds_same l t) (holds_all l t) (holds_first l t) (holds_second l t) (an_integer l t) (is_integer l t) (a_reference l t) (is_refers l t) (IsHeapOf l.program) (a_heap l t) (is_heap l t) size Spotted

  abbrev pub Matches : (ℕ → Bool) → Environment l t → State → Heap → Values → Type 0
  Matches = runs.Matches (Environment l t) (Agree l t) (agree_self l t) (agree_then l t) (agree_less l t) (Holds l t) (Is l t) (Has l t) (HeapIs l t) (has_says l t) (holds_eq l t) (holds_same l t) (holds_all l t) (holds_first l t) (holds_second l t) (an_integer l t) (is_integer l t) (a_reference l t) (is_refers l t) (IsHeapOf l.program) (a_heap l t) (is_heap l t) size Spotted

  abbrev pub Follows : (ℕ → Bool) → (ℕ → Bool) → State → Execution State → Heap → Values → Heap → Values → Type 1
  Follows = runs.Follows (Environment l t) (Agree l t) (agree_self l t) (agree_then l t) (agree_less l t) (Holds l t) (Is l t) (Has l t) (HeapIs l t) (has_says l t) (holds_eq l t) (holds_same l t) (holds_all l t) (holds_first l t) (holds_second l t) (an_integer l t) (is_integer l t) (a_reference l t) (is_refers l t) (IsHeapOf l.program) (a_heap l t) (is_heap l t) size Spotted

  abbrev pub Breaks : ℕ → ℕ → (ℕ → Bool) → State → Execution State → Heap → Values → Type 1
  Breaks = runs.Breaks (Environment l t) (Agree l t) (agree_self l t) (agree_then l t) (agree_less l t) (Holds l t) (Is l t) (Has l t) (HeapIs l t) (has_says l t) (holds_eq l t) (holds_same l t) (holds_all l t) (holds_first l t) (holds_second l t) (an_integer l t) (is_integer l t) (a_reference l t) (is_refers l t) (IsHeapOf l.program) (a_heap l t) (is_heap l t) size Spotted

  -- where a check's condition is valid, no run breaks it
  pub nothing_breaks : (label n : ℕ) (hid : ℕ → Bool) (st : State) (q : Execution State) (h : Heap) (v : Values) (known : List Formula) (e : Environment l t)
      → ((d : Environment l t) → Agree l t (count_of st) e d → AllHold (Environment l t) (Holds l t) d known × Matches hid d st h v)
      → IsValidAt (Environment l t) (Holds l t) label n (conditions known q.path)
      → Breaks label n hid st q h v → ⊥
  nothing_breaks = runs.nothing_breaks (Environment l t) (Agree l t) (agree_self l t) (agree_then l t) (agree_less l t) (Holds l t) (Is l t) (Has l t) (HeapIs l t) (has_says l t) (holds_eq l t) (holds_same l t) (holds_all l t) (holds_first l t) (holds_second l t) (an_integer l t) (is_integer l t) (a_reference l t) (is_refers l t) (IsHeapOf l.program) (a_heap l t) (is_heap l t) size Spotted (holds_yes l t) (holds_and l t) (holds_imp l t)
