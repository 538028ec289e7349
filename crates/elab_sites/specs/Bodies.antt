-- The statements that stand in a statement, and what it tells and declares without them. Own.
use Rattle.std.specs.Prelude.{ℕ, Bool, true, false, List, [], ◌∷◌, Some}
use Rattle.c_syntax.specs.Expressions.{Id, Ty}
use Rattle.c_syntax.specs.Ghosts as g
use Rattle.c_syntax.specs.Ghosts.{GStm, GStms}
use Rattle.c_syntax.specs.Statements as st
use Rattle.c_syntax.specs.Statements.{Stm, Stms}
use Rattle.typing_spec.specs.Contexts.{Variable}
use Rattle.typed_program.specs.Numbers.{Around}
use Rattle.typed_program.specs.Sites.{Occurrence, made, says, invariants_say, ghost_occurrences}
use Rattle.typed_program.specs.Variables.{ghost_declared}

abbrev pub listed : Stms → List Stm
listed st.Empty = []
listed (st.More s ss) = s ∷ listed ss

abbrev pub ghosts_listed : GStms → List GStm
ghosts_listed g.Empty = []
ghosts_listed (g.More s ss) = s ∷ ghosts_listed ss

-- the statements that stand in a statement, but for one behind an `else`; one alone is like a block of it
abbrev pub body : Stm → List Stm
body (st.Block p ss q) = listed ss
body (st.If p x s) = s ∷ []
body (st.IfElse p x s t) = s ∷ []
body (st.While p x is s) = s ∷ []
body (st.Do p is s q x) = s ∷ []
body (st.For p u x v is s) = s ∷ []
body (st.Unwrapping p x ss q) = listed ss
body (st.Atomic p xs ss q) = listed ss
body _ = []

-- the one behind an `else`
abbrev pub else_body : Stm → List Stm
else_body (st.IfElse p x s t) = t ∷ []
else_body _ = []

-- the same of ghost statements
abbrev pub ghost_body : GStm → List GStm
ghost_body (g.Block p ss) = ghosts_listed ss
ghost_body (g.If p x s) = s ∷ []
ghost_body (g.IfElse p x s t) = s ∷ []
ghost_body _ = []

abbrev pub ghost_else_body : GStm → List GStm
ghost_else_body (g.IfElse p x s t) = t ∷ []
ghost_else_body _ = []

-- ---- what a statement tells without those that stand in it

abbrev pub ghost_tells : Around → ℕ → GStm → List Occurrence
ghost_tells a f (g.Declare p ty x r) = made a f p.line r
ghost_tells a f (g.Assign p x q r) = made a f p.line (Some r)
ghost_tells a f _ = []

abbrev pub tells : Around → ℕ → Stm → List Occurrence
tells a f (st.While p x is s) = invariants_say a is
tells a f (st.Do p is s q x) = invariants_say a is
tells a f (st.For p u x v is s) = invariants_say a is
tells a f (st.Assert p x) = says a x
tells a f (st.Ghost p s) = ghost_occurrences a f s
tells a f _ = []

-- ---- what it declares without them

abbrev pub declared_as : Id → Ty → Bool → Variable
declared_as x ty is_ghost = record { name = x; ty = ty; is_ghost = is_ghost }

abbrev pub ghost_declares : GStm → List Variable
ghost_declares (g.Declare p ty x r) = declared_as x ty true ∷ []
ghost_declares _ = []

abbrev pub declares : Stm → List Variable
declares (st.Declare p ty x r) = declared_as x ty false ∷ []
declares (st.Ghost p s) = ghost_declared s
declares _ = []
