-- What is known behind statements.
use Rattle.std.proofs.Common.{◌≡◌, refl, List}
use Rattle.typing_spec.specs.Contexts.{Variable}
use Rattle.c_syntax.specs.Ghosts as g
use Rattle.c_syntax.specs.Ghosts.{GStm}
use Rattle.c_syntax.specs.Statements as st
use Rattle.c_syntax.specs.Statements.{Stm}
use Rattle.typing_statements.specs.Views.{following, behind_ghost}
use Rattle.typed_program.specs.Statements.{known_behind, known_behind_ghost}
use Rattle.elab_statements.specs.Settings.{Setting, at}

pub step_ghost : (k : Setting) (s : GStm) (vs : List Variable) → known_behind_ghost (at k vs) s ≡ at k (behind_ghost s vs)
step_ghost k (g.Declare p ty n r) vs = refl
step_ghost k _ vs = refl

pub step : (k : Setting) (s : Stm) (vs : List Variable) → known_behind (at k vs) s ≡ at k (following s vs)
step k (st.Declare p ty n r) vs = refl
step k (st.Ghost p s) vs = step_ghost k s vs
step k _ vs = refl
