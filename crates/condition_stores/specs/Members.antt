-- Members that join an owned set and leave it. Own.
use Rattle.std.specs.Prelude.{ℕ, [], ◌∷◌}
use Rattle.terms.specs.Formula.{Formula}
use Rattle.method.specs.declared.program.Program.{Program}
use Rattle.conditions.specs.Code.{Spot, State, with_heap, mutable, wrapped, writable, is_listed}
use Rattle.conditions.specs.Formulas.{nat, me, and', any_of, set, owned_column, owner_column, owns}
use Rattle.conditions.specs.Paths.{Execution, Gives, check}

-- the heap where the owned set of o has this number at q, and q this owner
abbrev pub handed_heap : Formula → Formula → Formula → ℕ → Formula → Formula
handed_heap h o q n owner = set owner_column (set owned_column h (o ∷ q ∷ []) (nat n)) (q ∷ []) owner

module _ (p : Program) (a : Spot) where
  -- outside a block: the owned set of o gets this number at q
  abbrev pub change_open : Formula → Formula → ℕ → State → Execution State
  change_open o q n st = check (mutable st o) (check (writable p a o) (Gives (with_heap st (set owned_column st.heap (o ∷ q ∷ []) (nat n)))))

  -- inside a block q joins the owned set of a listed object
  abbrev pub join_inside : Formula → Formula → State → Execution State
  join_inside o q st = check (any_of (is_listed p a o)) (check (and' (wrapped st q) (writable p a q)) (Gives (with_heap st (handed_heap st.heap o q 1 o))))

  -- inside a block q leaves the owned set of a listed object
  abbrev pub leave_inside : Formula → Formula → State → Execution State
  leave_inside o q st = check (any_of (is_listed p a o)) (check (owns st.heap o q) (Gives (with_heap st (handed_heap st.heap o q 0 me))))
