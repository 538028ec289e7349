-- What is said of a function's text beside its types and scopes: its annotations fit and their formulas are listed, so are those of the objects it wraps.
use Rattle.std.proofs.Common.{◌≡◌, ℕ, true, false, length, slice_get, Some, ◌⊎◌}
use Rattle.method.specs.declared.program.Spec.{Spec}
use Rattle.method.specs.declared.program.RightSide.{RightSide}
use Rattle.method.specs.declared.program.RightSide.TheVariants.{Compute, Malloc, NewClaim, Interlocked}
use Rattle.method.specs.declared.program.Simple.TheVariants.{Assign, ChangeOwned, EndClaim}
use Rattle.method.specs.declared.program.Action.{Action}
use Rattle.method.specs.declared.program.Action.TheVariants.{Simply, Declare, Define, WrapObject, UnwrapObject, AssertSpec, FreeObject, SpawnThread, Atomic}
use Rattle.method.specs.declared.program.FunctionInfo.{FunctionInfo}
use Rattle.method.specs.declared.program.Program.{Program}
use Rattle.method.specs.Tables.{struct_of, has_fixed_owns}
use Rattle.conditions.specs.Quantified.{members_quantified, function_words, spec_quantifiers, program_quantifiers, find_quantifier}
use Rattle.condition_meaning.specs.Fits.{names}
use Rattle.condition_meaning.specs.Annotated.{Annotated, Each, nothing_hidden, IsListed}
use Rattle.condition_meaning.specs.Annotated as written
use Rattle.action_conditions.proofs.Annotations.{SetFits}

-- what holds of an annotation's text: it fits where nothing is hidden, and its formulas are listed
pub record SpecText (p : Program) (good : Annotated p) (number : ℕ) (f : FunctionInfo) (fis : slice_get p.functions.items number ≡ Some f) (e : Spec) : Type 0 where
  pub passes : written.fits p nothing_hidden false e (function_words f) ≡ true
  pub named : names (length f.variables.items) false e ≡ true
  pub listed : Each p (IsListed p) (spec_quantifiers p e (function_words f))

-- the formula of the members of what is wrapped is listed, and what names them fits
pub record WrapText (p : Program) (f : FunctionInfo) (ty q : ℕ) : Type 0 where
  pub numbered : find_quantifier q (program_quantifiers p) ≡ Some (members_quantified (has_fixed_owns p ty) q (length f.writes.items))
  pub names : SetFits p (struct_of p ty)

module _ (p : Program) (good : Annotated p) (number : ℕ) (f : FunctionInfo) (fis : slice_get p.functions.items number ≡ Some f) where
  abbrev PlainRight : RightSide → Type 0
  PlainRight (Compute e) = Unit {0}
  PlainRight (Malloc ty) = Unit {0}
  PlainRight (NewClaim n) = ⊥
  PlainRight (Interlocked e n op c) = Unit {0}

  -- the actions outside atomic blocks that make no claim, end none and start nothing
  abbrev pub PlainText : Action → Type 0
  PlainText (Simply (Assign t r)) = PlainRight r
  PlainText (Simply (ChangeOwned o e es)) = Unit {0}
  PlainText (Simply (EndClaim q e es)) = ⊥
  PlainText (Declare i) = Unit {0}
  PlainText (Define i r) = PlainRight r
  PlainText (WrapObject ty q e) = WrapText p f ty q
  PlainText (UnwrapObject e) = Unit {0}
  PlainText (AssertSpec e) = SpecText p good number f fis e
  PlainText (FreeObject e) = Unit {0}
  PlainText (SpawnThread g es) = ⊥
  PlainText (Atomic ls body) = ⊥

  -- a plain action, or another of which this is said
  abbrev pub ActionText : (Action → Type 0) → Action → Type 0
  ActionText Other c = PlainText c ⊎ Other c
