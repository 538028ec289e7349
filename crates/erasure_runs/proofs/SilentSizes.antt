-- How many silent items can still come, and that a turn on one leaves fewer.
use Rattle.std.proofs.Common.{◌≡◌, ℕ, ◌+◌, ◌<◌, Bool, true, false, List, [], ◌∷◌, ◌++◌, map, refl, arith}
use Rattle.std.specs.Prelude.{if◌then◌else◌}
use Rattle.object_types.specs.declared.values.Value.{Value}
use Rattle.method.specs.declared.program.Stmt.{Stmt, Row_of-Stmt, end_of-Stmt, more_of-Stmt, items-the_row-Stmt}
use Rattle.method.specs.declared.program.Stmt.TheVariants.{Do, If', While', DoWhile', Unwrapping', Call, Return}
use Rattle.method.specs.declared.program.FunctionInfo.{FunctionInfo}
use Rattle.method.specs.declared.program.Program.{Program}
use Rattle.object_types.specs.Values.{referent, truth}
use Rattle.object_types.specs.Heap.{Heap}
use Rattle.method.specs.Expressions.{Outcome, Gives, after, eval}
use Rattle.method.specs.Actions.{Supply, Progress, no_choices, act, spot, starting, wrap_object, unwrap_object}
use Rattle.method.specs.Machine.{Remaining, Run, Test, WrapAgain, Receive, Activation, Turn, went, moved, action_turn, turn_of}
use Rattle.machine_laws.proofs.Outcomes.{OnGave, after_any, fitting_gave}
use Rattle.machine_laws.proofs.Typed.{not_both}
use Rattle.erasure_law.specs.Laws.{silent}

-- An action counts one, an `if` one and its branches, an unwrapping block its two ends and its body. Loops, calls and returns aren't silent, and what is in a loop comes behind its test alone.
abbrev mutual
  pub stmt_size : Stmt → ℕ
  stmt_size (Do line x) = 1
  stmt_size (If' line in_ghost e m a n b) = 1 + (row_size a + row_size b)
  stmt_size (While' line invs e m row) = 0
  stmt_size (DoWhile' line invs m row tested e) = 0
  stmt_size (Unwrapping' line ty q e m row) = 2 + row_size row
  stmt_size (Call line to v k es) = 0
  stmt_size (Return line e) = 0

  pub row_size : {m : _} → Row_of-Stmt m → ℕ
  row_size end_of-Stmt = 0
  row_size (more_of-Stmt s row) = stmt_size s + row_size row

abbrev pub item_size : Remaining → ℕ
item_size (Run s) = stmt_size s
item_size (Test line e s) = 0
item_size (WrapAgain line ty o) = 1
item_size (Receive line place c) = 0

abbrev pub code_size : List Remaining → ℕ
code_size [] = 0
code_size (x ∷ code) = item_size x + code_size code

-- how many silent items can come at most before the next concrete one, in the function that runs
abbrev pub silent_size : List Activation → ℕ
silent_size [] = 0
silent_size (a ∷ below) = code_size a.code

row_code : {m : _} (row : Row_of-Stmt m) (code : List Remaining) → code_size (map Run (items-the_row-Stmt _ row) ++ code) ≡ row_size row + code_size code
row_code end_of-Stmt code = omega arith
row_code (more_of-Stmt s row) code = let e = row_code row code in omega (arith, e)

-- less is silent in front of what runs then than in this code
abbrev pub Lessens : List Remaining → Turn → Type 0
Lessens code turn = silent_size turn.frames < code_size code

branch_less : (b : Bool) {m n : _} (x : Row_of-Stmt m) (y : Row_of-Stmt n) (code : List Remaining) → code_size (map Run (if b then items-the_row-Stmt _ x else items-the_row-Stmt _ y) ++ code) < (1 + (row_size x + row_size y)) + code_size code
branch_less true x y code = let e = row_code x code in omega (arith, e)
branch_less false x y code = let e = row_code y code in omega (arith, e)

unwrapped_less : {m : _} (row : Row_of-Stmt m) (x : Remaining) (code : List Remaining) → item_size x ≡ 1 → code_size (map Run (items-the_row-Stmt _ row) ++ x ∷ code) < (2 + row_size row) + code_size code
unwrapped_less row x code one = let e = row_code row (x ∷ code) in omega (arith, e, one)

module _ (p : Program) (f : FunctionInfo) (supply : Supply) (choices : List Value) (a : Activation) (below : List Activation) (h : Heap) where
  acts_less : (line : ℕ) (code rest : List Remaining) (o : Outcome Progress) → code_size rest < code_size code → OnGave (action_turn p line a rest below o) (Lessens code)
  acts_less line code rest o l = after_any o (λ g. Gives (record { heap = g.heap; frames = went a g.locals rest ∷ below; started = g.started; line = line })) (Lessens code) (λ g. l)

  pub turn_less : (code : List Remaining) → silent p f code ≡ true → OnGave (turn_of p supply choices a code below h) (Lessens code)
  turn_less [] k = absurd (not_both false k refl)
  turn_less (Run (Do line x) ∷ code) k = acts_less line (Run (Do line x) ∷ code) code (act p a.context choices supply line x 0 h a.locals) (omega arith)
  turn_less (Run (If' line in_ghost e m x n y) ∷ code) k =
      let whole = Run (If' line in_ghost e m x n y) ∷ code in
      let rest : Bool → List Remaining = λ b. map Run (if b then items-the_row-Stmt _ x else items-the_row-Stmt _ y) ++ code in
      let goes : Outcome Turn = after (eval p (spot a.context [] line) h a.locals e 0) (λ v. Gives (moved p line a (rest (truth v)) below h)) in
      fitting_gave (no_choices choices) goes (Lessens whole) (λ z.
      after_any (eval p (spot a.context [] line) h a.locals e 0) (λ v. Gives (moved p line a (rest (truth v)) below h)) (Lessens whole) (λ v. branch_less (truth v) x y code))
  turn_less (Run (While' line invs e m row) ∷ code) k = absurd (not_both false k refl)
  turn_less (Run (DoWhile' line invs m row tested e) ∷ code) k = absurd (not_both false k refl)
  turn_less (Run (Unwrapping' line ty q e m row) ∷ code) k =
      let whole = Run (Unwrapping' line ty q e m row) ∷ code in
      let at_ = spot a.context [] line in
      let rest : Value → List Remaining = λ v. map Run (items-the_row-Stmt _ row) ++ WrapAgain line ty (referent v) ∷ code in
      let unwraps : Value → Outcome Turn = λ v. action_turn p line a (rest v) below (unwrap_object p at_ (referent v) 0 (starting h a.locals supply)) in
      fitting_gave (no_choices choices) (after (eval p at_ h a.locals e 0) unwraps) (Lessens whole) (λ z.
      after_any (eval p at_ h a.locals e 0) unwraps (Lessens whole) (λ v.
      acts_less line whole (rest v) (unwrap_object p at_ (referent v) 0 (starting h a.locals supply)) (unwrapped_less row (WrapAgain line ty (referent v)) code refl)))
  turn_less (Run (Call line to c j es) ∷ code) k = absurd (not_both false k refl)
  turn_less (Run (Return line e) ∷ code) k = absurd (not_both false k refl)
  turn_less (Test line e s ∷ code) k = absurd (not_both false k refl)
  turn_less (WrapAgain line ty o ∷ code) k =
      let wraps = wrap_object p (spot a.context [] line) ty o 0 (starting h a.locals supply) in
      fitting_gave (no_choices choices) (action_turn p line a code below wraps) (Lessens (WrapAgain line ty o ∷ code)) (λ z. acts_less line (WrapAgain line ty o ∷ code) code wraps (omega arith))
  turn_less (Receive line place c ∷ code) k = absurd (not_both false k refl)
