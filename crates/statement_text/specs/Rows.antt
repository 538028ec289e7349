-- What the statements of a list say together, as the code has them. Own: the definitions go by rows, the code by vectors.
use Rattle.std.specs.Prelude.{ℕ, Bool, false, ◌||◌, List, [], ◌∷◌, ◌++◌}
use Rattle.method.specs.declared.program.Stmt.{Stmt}
use Rattle.method.specs.Text.{sets}
use Rattle.conditions.specs.Statements.{declares, returns}

-- the variables that they may set
abbrev pub all_set : List Stmt → List ℕ
all_set [] = []
all_set (s ∷ ss) = sets s ++ all_set ss

-- the variables that they declare
abbrev pub all_declare : List Stmt → List ℕ
all_declare [] = []
all_declare (s ∷ ss) = declares s ++ all_declare ss

-- one of them ends in a return, whatever way it goes
abbrev pub one_returns : List Stmt → Bool
one_returns [] = false
one_returns (s ∷ ss) = returns s || one_returns ss
