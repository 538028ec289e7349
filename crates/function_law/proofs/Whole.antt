-- Conditions mean local safety, blocks, claims and starts of threads included.
use Rattle.std.proofs.Common.{ℕ, List, [], ◌∷◌, flat_map, refl}
use Rattle.method.specs.declared.program.RightSide.TheVariants.{Compute, Malloc, NewClaim, Interlocked}
use Rattle.method.specs.declared.program.Simple.{Simple}
use Rattle.method.specs.declared.program.Simple.TheVariants.{Assign, ChangeOwned, EndClaim}
use Rattle.method.specs.declared.program.Inner.{Inner, Row_of-Inner, end_of-Inner, more_of-Inner}
use Rattle.method.specs.declared.program.Inner.TheVariants.{Inside, InsideIf'}
use Rattle.method.specs.declared.program.Action.{Action}
use Rattle.method.specs.declared.program.Action.TheVariants.{Simply, Declare, Define, WrapObject, UnwrapObject, AssertSpec, FreeObject, SpawnThread, Atomic}
use Rattle.method.specs.declared.program.FunctionInfo.{FunctionInfo}
use Rattle.method.specs.declared.program.Program.{Program}
use Rattle.method.specs.Scopes.{Scoped}
use Rattle.method.specs.Typing.{WellTyped}
use Rattle.method.specs.LocalRuns.{LocalOk}
use Rattle.conditions.specs.Quantified.{simple_quantifiers, inner_quantifiers, inner_row_quantifiers}
use Rattle.condition_walks.proofs.Fitting.{ConversionsAreReceived}
use Rattle.condition_meaning.specs.Annotated.{Annotated, Each, IsListed}
use Rattle.condition_meaning.proofs.Listed.{each_parts}
use Rattle.block_conditions.proofs.InScope.{SimpleHasFormula, InnerHasFormulas, RowHasFormulas, ListHasFormulas}
use Rattle.function_law.proofs.TextTests.{OtherText}
use Rattle.condition_meaning.proofs.FunctionScenes.{contract_fits}
use Rattle.block_conditions.proofs.Every.{IsOther, other_walks}
use Rattle.function_law.proofs.Given as given
use Rattle.function_law.proofs.Local as law
use Rattle.function_law.specs.Checks.{CheckIsValid}
use Rattle.method.specs.Tables.{struct_of}
use Rattle.action_conditions.proofs.Annotations.{SetFits}

simple_of : (p : Program) (s : Simple) → Each p (IsListed p) (simple_quantifiers s) → SimpleHasFormula p s
simple_of p (Assign z r) e = tt
simple_of p (ChangeOwned c y ys) e = tt
simple_of p (EndClaim q y ys) e = e.0

mutual
  inner_of : (p : Program) (i : Inner) → Each p (IsListed p) (inner_quantifiers i) → InnerHasFormulas p i
  inner_of p (Inside line s) e = simple_of p s e
  inner_of p (InsideIf' line y m ra n rb) e = let z = each_parts p (IsListed p) (inner_row_quantifiers ra) (inner_row_quantifiers rb) e in (row_of p ra z.0, row_of p rb z.1)

  row_of : {m : _} (p : Program) (row : Row_of-Inner m) → Each p (IsListed p) (inner_row_quantifiers row) → RowHasFormulas p row
  row_of p end_of-Inner e = tt
  row_of p (more_of-Inner i row) e = let z = each_parts p (IsListed p) (inner_quantifiers i) (inner_row_quantifiers row) e in (inner_of p i z.0, row_of p row z.1)

list_of : (p : Program) (is : List Inner) → Each p (IsListed p) (flat_map inner_quantifiers is) → ListHasFormulas p is
list_of p [] e = tt
list_of p (i ∷ is) e = let z = each_parts p (IsListed p) (inner_quantifiers i) (flat_map inner_quantifiers is) e in (inner_of p i z.0, list_of p is z.1)

other_of : (p : Program) (k : ℕ) (f : FunctionInfo) (c : Action) → OtherText p k f c → IsOther p c
other_of p k f (Simply (Assign z (NewClaim n))) o = tt
other_of p k f (Simply (Assign z (Compute y))) o = absurd (let z = o.other in cc)
other_of p k f (Simply (Assign z (Malloc ty))) o = absurd (let z = o.other in cc)
other_of p k f (Simply (Assign z (Interlocked y n op then'))) o = absurd (let z = o.other in cc)
other_of p k f (Simply (ChangeOwned c y ys)) o = absurd (let z = o.other in cc)
other_of p k f (Simply (EndClaim q y ys)) o = simple_of p (EndClaim q y ys) o.listed
other_of p k f (Declare i) o = absurd (let z = o.other in cc)
other_of p k f (Define i (Compute y)) o = absurd (let z = o.other in cc)
other_of p k f (Define i (Malloc ty)) o = absurd (let z = o.other in cc)
other_of p k f (Define i (NewClaim n)) o = tt
other_of p k f (Define i (Interlocked y n op then')) o = absurd (let z = o.other in cc)
other_of p k f (WrapObject ty q y) o = absurd (let z = o.other in cc)
other_of p k f (UnwrapObject y) o = absurd (let z = o.other in cc)
other_of p k f (AssertSpec y) o = absurd (let z = o.other in cc)
other_of p k f (FreeObject y) o = absurd (let z = o.other in cc)
other_of p k f (SpawnThread n ys) o = tt
other_of p k f (Atomic ls body) o = list_of p body.items o.listed

-- where the condition of a check is valid, no local run of the function fails the check
pub check_ok : (p : Program) → Annotated p → WellTyped p → Scoped p → ConversionsAreReceived p → ((ty : ℕ) → SetFits p (struct_of p ty)) → (k label : ℕ) → CheckIsValid p k label → LocalOk p k label
check_ok p good typed scoped plain sets =
    let contracts = contract_fits p good typed in
    law.function_ok p good typed contracts scoped plain sets (λ k f fis n h0 args good0 fit.
    let x = given.x p good typed contracts k f fis n h0 args good0 fit in
    let a = given.a p good typed contracts k f fis n h0 args good0 fit in
    record {
      follows = λ hid line m c choices news st h h' v v' fits said sorted s r. (other_walks p good typed contracts f x fis refl a hid line m choices news st h v sorted s c fits (other_of p k f c said)).0 h' v' r;
      breaks = λ label hid line m c choices news st h v fits said sorted s r. (other_walks p good typed contracts f x fis refl a hid line m choices news st h v sorted s c fits (other_of p k f c said)).1 label r;
    })
