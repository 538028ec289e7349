-- What a place in a function's text hides: variables of blocks that were left or are to come stand for nothing. And that the parts of a text fit where they stand.
use Rattle.std.proofs.Common.{◌≡◌, ℕ, ◌+◌, Bool, true, false, not, ◌&&◌, ◌||◌, List, [], ◌∷◌, ◌++◌, Option, refl}
use Rattle.method.specs.declared.program.Expr.{Expr}
use Rattle.method.specs.declared.program.Spec.{Spec}
use Rattle.method.specs.declared.program.Action.{Action}
use Rattle.method.specs.declared.program.Stmt.{Stmt, Row_of-Stmt, end_of-Stmt, more_of-Stmt}
use Rattle.method.specs.declared.program.Stmt.TheVariants.{Do, If', While', DoWhile', Unwrapping', Call, Return}
use Rattle.method.specs.declared.program.FunctionInfo.{FunctionInfo}
use Rattle.method.specs.declared.program.Program.{Program}
use Rattle.conditions.specs.Symbolic.{Symbolic, Truth, Number, Reference, same_symbolic}
use Rattle.conditions.specs.Code.{Spot, State}
use Rattle.conditions.specs.Actions.{is_of, without_deferred, with_counters}
use Rattle.conditions.specs.Statements.{stmts, action_declares, receiver_declares, row_declares}

-- what is hidden and not declared here isn't set here, so its terms are the same at both ends
abbrev pub Quiet : List ℕ → (ℕ → Bool) → ℕ → List Symbolic → List Symbolic → Type 0
Quiet declared hidden i [] [] = Unit {0}
Quiet declared hidden i [] (y ∷ ys) = ⊥
Quiet declared hidden i (x ∷ xs) [] = ⊥
Quiet declared hidden i (x ∷ xs) (y ∷ ys) = (hidden i ≡ true → is_of declared i ≡ false → same_symbolic x y ≡ true) × Quiet declared hidden (i + 1) xs ys

-- of one sort
abbrev pub Alike : Symbolic → Symbolic → Type 0
Alike (Truth x) (Truth y) = Unit {0}
Alike (Truth x) (Number y) = Unit {0}
Alike (Truth x) (Reference y) = ⊥
Alike (Number x) (Truth y) = Unit {0}
Alike (Number x) (Number y) = Unit {0}
Alike (Number x) (Reference y) = ⊥
Alike (Reference x) (Truth y) = ⊥
Alike (Reference x) (Number y) = ⊥
Alike (Reference x) (Reference y) = Unit {0}

abbrev pub AllAlike : List Symbolic → List Symbolic → Type 0
AllAlike [] ys = Unit {0}
AllAlike (x ∷ xs) [] = Unit {0}
AllAlike (x ∷ xs) (y ∷ ys) = Alike x y × AllAlike xs ys

abbrev pub With : (ℕ → Bool) → List ℕ → ℕ → Bool
With hid ds i = hid i || is_of ds i

pub or_right : (b c : Bool) → c ≡ true → (b || c) ≡ true
or_right true c h = refl
or_right false c h = h

pub hides_with : (hid : ℕ → Bool) (ds : List ℕ) (i : ℕ) → is_of ds i ≡ true → With hid ds i ≡ true
hides_with hid ds i h = or_right (hid i) (is_of ds i) h

-- the declared variables of the two branches, and what is hidden behind them
abbrev pub Both : {ma mb : _} → Row_of-Stmt ma → Row_of-Stmt mb → List ℕ
Both ra rb = row_declares ra ++ row_declares rb

abbrev pub QuietBehind : (ℕ → Bool) → List ℕ → State → State → Type 0
QuietBehind hid ds s t = Quiet ds (With hid ds) 0 s.locals t.locals

abbrev pub AlikeBehind : (ℕ → Bool) → List ℕ → State → State → Type 0
AlikeBehind hid ds s t = AllAlike s.locals t.locals

-- what is hidden behind a statement
abbrev mutual
  pub after_stmt : Stmt → (ℕ → Bool) → ℕ → Bool
  after_stmt (Do line c) hid = λ i. hid i && not (is_of (action_declares c) i)
  after_stmt (If' line in_ghost e m ra n rb) hid = With hid (Both ra rb)
  after_stmt (While' line invs e m r) hid = hid
  after_stmt (DoWhile' line invs m r tested e) hid = With (after_row r hid) (row_declares r)
  after_stmt (Unwrapping' line ty q e m r) hid = With (after_row r hid) (row_declares r)
  after_stmt (Call line to c g es) hid = λ i. hid i && not (is_of (receiver_declares to) i)
  after_stmt (Return line e) hid = hid

  pub after_row : {m : _} → Row_of-Stmt m → (ℕ → Bool) → ℕ → Bool
  after_row end_of-Stmt hid = hid
  after_row (more_of-Stmt s r) hid = after_row r (after_stmt s hid)

module _ (p : Program) (f : FunctionInfo) (a : Spot)
    (Fits : (ℕ → Bool) → Expr → Type 0)
    (FitsAction : (ℕ → Bool) → Action → Type 0)
    (FitsOther : (ℕ → Bool) → Stmt → Type 0)
    (FitsLoop : (ℕ → Bool) → List Spec → (m : _) → Row_of-Stmt m → Type 0)
    (FitsSpecs : (ℕ → Bool) → List Spec → Type 0)
    (FitsReturn : (ℕ → Bool) → Option Expr → Type 0)
    (FitsObject : ℕ → ℕ → Expr → Type 0)
    (Sorted : List Symbolic → Type 0)
  where
    -- of the two ends of branches, what is hidden is the same, and what meets is of one sort
    abbrev pub EndsFit : {ma mb : _} → (ℕ → Bool) → Row_of-Stmt ma → Row_of-Stmt mb → Type 0
    EndsFit hid ra rb =
        ((st : State) → Sorted st.locals → QuietBehind hid (Both ra rb) (stmts p f a ra (without_deferred st)).gives (stmts p f a rb (with_counters st (stmts p f a ra (without_deferred st)).gives)).gives
        × AlikeBehind hid (Both ra rb) (stmts p f a ra (without_deferred st)).gives (stmts p f a rb (with_counters st (stmts p f a ra (without_deferred st)).gives)).gives)
        × ((i : ℕ) → With hid (Both ra rb) i ≡ false → after_row ra hid i ≡ false) × ((i : ℕ) → With hid (Both ra rb) i ≡ false → after_row rb hid i ≡ false)

    -- the parts fit where they stand; and of the branches' ends, what is hidden is the same, and what meets is of one sort
    abbrev mutual
      pub FitsStmt : (ℕ → Bool) → Stmt → Type 0
      FitsStmt hid (Do line c) = FitsAction hid c
      FitsStmt hid (If' line in_ghost e m ra n rb) =
          Fits hid e × FitsRow hid ra × FitsRow hid rb × EndsFit hid ra rb
      FitsStmt hid (While' line invs e m r) = Fits hid e × FitsRow hid r × FitsLoop hid invs.items _ r × FitsSpecs (after_row r hid) invs.items
      FitsStmt hid (DoWhile' line invs m r tested e) = FitsRow hid r × Fits (after_row r hid) e × FitsLoop hid invs.items _ r × FitsSpecs (after_row r hid) invs.items
      FitsStmt hid (Unwrapping' line ty q e m r) = Fits hid e × FitsObject ty q e × FitsRow hid r
      FitsStmt hid (Call line to c g es) = FitsOther hid (Call line to c g es)
      FitsStmt hid (Return line e) = FitsReturn hid e

      pub FitsRow : {m : _} → (ℕ → Bool) → Row_of-Stmt m → Type 0
      FitsRow hid end_of-Stmt = Unit {0}
      FitsRow hid (more_of-Stmt s r) = FitsStmt hid s × FitsRow (after_stmt s hid) r
