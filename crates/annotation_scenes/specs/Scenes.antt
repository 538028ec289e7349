-- What the words of an annotation stand for, in code. Own.
use Rattle.std.specs.Prelude.{◌≡◌, ℕ, Bool, List}
use Rattle.terms.specs.declared.term.Term.{Term}
use Rattle.conditions.specs.Annotations as spec
use Rattle.condition_formulas.specs.declared.symbolic.Symbolic.{Symbolic}
use Rattle.condition_formulas.specs.Standing.{StandsAs, StandAll}
use Rattle.condition_formulas.specs.Symbolics.{IsSymbolic, AreSymbolic}
use Rattle.annotation_scenes.specs.declared.scene.Scene.{Scene}
use Rattle.annotation_scenes.specs.declared.formal.FormalScene.{FormalScene}

-- these words are the scene's: each of their nodes is the tree there
pub record AreWords (ts : List Term) (before after me this subject : ℕ) (past : Bool) (locals entry : List Symbolic) (result : Symbolic) (bound : List ℕ) (s : spec.Scene) : Type 0 where
  pub before_is : StandsAs ts before s.before
  pub after_is : StandsAs ts after s.after
  pub me_is : StandsAs ts me s.me
  pub this_is : StandsAs ts this s.this
  pub subject_is : StandsAs ts subject s.subject
  pub past_is : past ≡ s.past
  pub locals_are : AreSymbolic ts locals s.locals
  pub entry_is : AreSymbolic ts entry s.entry
  pub result_is : IsSymbolic ts result s.result
  pub bound_are : StandAll ts bound s.bound

-- the code's scene is the definition's
abbrev pub IsScene : List Term → Scene → spec.Scene → Type 0
IsScene ts c s = AreWords ts c.before c.after c.me c.this c.subject c.past c.locals.now c.entry.now c.result c.bound.now s

-- and so is one that owns its lists
abbrev pub IsFormal : List Term → FormalScene → spec.Scene → Type 0
IsFormal ts c s = AreWords ts c.before c.after c.me c.this c.subject c.past c.locals.items c.entry.items c.result c.bound.items s
