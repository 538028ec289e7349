-- From an environment to a run, of a claim's end: its path is one of checks, it makes no constant and its run comes to an end.
use Rattle.std.proofs.Common.{◌≡◌, ℕ, ◌+◌, Bool, true, false, if◌then◌else◌, List, [], ◌++◌, map, length, Some, slice_get, Vec, Global, ap, sym, ◌∙◌, subst}
use Rattle.object_types.specs.declared.references.Ref.{Ref}
use Rattle.object_types.specs.declared.values.Value.{Value}
use Rattle.object_types.specs.References.{is_thread}
use Rattle.object_types.specs.Values.{referent}
use Rattle.method.specs.declared.program.CheckKind.TheVariants.{DestroyClaim, Invariant}
use Rattle.method.specs.declared.program.Expr.{Expr}
use Rattle.method.specs.declared.program.Simple.TheVariants.{EndClaim}
use Rattle.method.specs.declared.program.Action.TheVariants.{Simply}
use Rattle.method.specs.declared.program.FunctionInfo.{FunctionInfo}
use Rattle.method.specs.declared.program.Program.{Program}
use Rattle.method.specs.Typing.{WellTyped}
use Rattle.method.specs.Expressions as m
use Rattle.method.specs.Expressions.{Context, Spot as MachineSpot, Tested, eval, eval_all, checks, all_checks, inv_test}
use Rattle.method.specs.Actions as M
use Rattle.method.specs.Actions.{Progress, Tally, no_tally, may_count, spot}
use Rattle.machine_laws.proofs.Typed.{Env}
use Rattle.terms.specs.declared.term.Kind.TheVariants as kinds
use Rattle.terms.specs.Formula.{Formula}
use Rattle.conditions.specs.Formulas.{nat, null, status}
use Rattle.conditions.specs.Symbolic.{term}
use Rattle.conditions.specs.Paths.{Execution, Gives, check_each}
use Rattle.conditions.specs.Code.{Spot, State, inv, code, all_code}
use Rattle.conditions.specs.Actions as walk
use Rattle.conditions.proofs.FromRuns.{Count, IsWithin, count_of, within_self}
use Rattle.conditions.proofs.Joins.{check_gives}
use Rattle.conditions.proofs.PathTests.{IsChecks}
use Rattle.condition_walks.proofs.Fitting.{FitsAction}
use Rattle.condition_walks.proofs.Scoping.{known_seen}
use Rattle.condition_meaning.specs.Annotated.{Annotated}
use Rattle.condition_meaning.specs.Languages.{language_of}
use Rattle.condition_meaning.proofs.Environments.{Environment}
use Rattle.block_conditions.proofs.Annotated.{entries_true, invs_true}
use Rattle.block_conditions.proofs.Exactly.{exactly_true}
use Rattle.block_conditions.proofs.InScope.{SimpleHasFormula, see_simple}
use Rattle.block_conditions.proofs.Operands.{At}
use Rattle.block_conditions.proofs.Outside as outside
use Rattle.converse_law.proofs.Behind.{Behind, behind_one}
use Rattle.converse_law.proofs.ChecksOnly.{Fits, both_checks, each_checks, code_checks, every_checks, fits_after, fits_all, fits_check, fits_each, fits_eval, fits_gives, fits_specs}

module _ (p : Program) (a : Spot) where
  last_checks : (q : ℕ) (c : Formula) (os : List Formula) (st : State) (h1 : Formula) → IsChecks (walk.end_claim p a q c os st h1).path
  last_checks q c os st h1 =
      let invs = if a.inside then [] else map (λ o. inv o st.heap h1) os in
      let done = Gives (record st { heap = h1; changed = st.changed ++ (if a.inside then walk.defer os else []) }) in
      each_checks (map (walk.may_count p a st.heap) os) (check_each invs done) (each_checks invs done tt)

  -- its path is one of checks
  pub end_checks : (q : ℕ) (y : Expr) (ys : _) (st : State) → IsChecks (walk.run_simple p a (EndClaim q y ys) st).path
  end_checks q y ys st =
      let c = term (code p a st y).gives in
      let os = (all_code p a st ys.items).gives in
      both_checks (code p a st y).path _ (code_checks p a y st) (both_checks (all_code p a st ys.items).path _ (every_checks p a ys.items st) (last_checks q c os st (walk.change_counts kinds.Sub os (status st.heap c (nat 3) null))))

  -- it makes no constant
  pub end_same : (q : ℕ) (y : Expr) (ys : _) (st : State) → count_of (walk.run_simple p a (EndClaim q y ys) st).gives ≡ count_of st
  end_same q y ys st =
      let c = term (code p a st y).gives in
      let os = (all_code p a st ys.items).gives in
      let h1 = walk.change_counts kinds.Sub os (status st.heap c (nat 3) null) in
      let invs = if a.inside then [] else map (λ o. inv o st.heap h1) os in
      let done : Execution State = Gives (record st { heap = h1; changed = st.changed ++ (if a.inside then walk.defer os else []) }) in
      ap count_of (check_gives (map (walk.may_count p a st.heap) os) (check_each invs done) ∙ check_gives invs done)

module _ (p : Program) (at_ : MachineSpot) (g : Progress) where
  fits_last : (r : Ref) (rs : List Ref) (n : ℕ) (place : Tally) → Fits (M.end_claim p at_ r rs n place g)
  fits_last r rs n place =
      let h1 = M.ended p at_ r rs g.heap in
      let done : Progress = record g { heap = h1; changed = g.changed ++ M.deferred_from place.objects rs } in
      let invs : List Tested = if at_.inside then [] else map (λ o. inv_test p o g.heap h1) rs in
      let k = n + 1 + length rs in
      let last = m.check_specs at_ invs k Invariant (m.Gives done) in
      fits_check at_ (M.may_end p at_ r rs g.heap) n DestroyClaim (m.check_each at_ (map (may_count at_ g.heap) rs) (n + 1) DestroyClaim last) (fits_each at_ (map (may_count at_ g.heap) rs) (n + 1) DestroyClaim last (fits_specs at_ invs k Invariant (m.Gives done) (fits_gives done)))

  -- it comes to an end
  pub fits_end : (q : ℕ) (y : Expr) (ys : _) (n : ℕ) (place : Tally) → Fits (M.run_simple p at_ (EndClaim q y ys) n place g)
  fits_end q y ys n place =
      let n1 = n + checks y in
      let n2 = n1 + all_checks ys.items in
      fits_after (eval p at_ g.heap g.locals y n) (λ c. m.after (eval_all p at_ g.heap g.locals ys.items n1) (λ vs. M.end_claim p at_ (referent c) (map referent vs) n2 place g)) (fits_eval p at_ g y n)
      (λ c. fits_after (eval_all p at_ g.heap g.locals ys.items n1) (λ vs. M.end_claim p at_ (referent c) (map referent vs) n2 place g) (fits_all p at_ g ys.items n1) (λ vs. fits_last (referent c) (map referent vs) n2 place))

-- Outside of blocks.

module _ (p : Program) (good : Annotated p) (typed : WellTyped p) (f : FunctionInfo) (x : Context) (fis : slice_get p.functions.items x.function ≡ Some f) (thread : is_thread x.me ≡ true) (a0 : Spot) (hid : ℕ → Bool) (e : Environment (language_of p) x.me) (line : ℕ) (choices : List Value) where
  abbrev a : Spot
  a = record a0 { inside = false }

  abbrev at_ : MachineSpot
  at_ = spot x choices line

  pub behind_end : (q : ℕ) (y : Expr) (ys : Vec Expr Global) (n : ℕ) (st : State) (g : Progress) → Env p f g.heap g.locals → FitsAction p x.function f hid (Simply (EndClaim q y ys)) → SimpleHasFormula p (EndClaim q y ys) → At p f at_ a hid st g e
      → Behind (language_of p) x.me e n (walk.run_simple p a (EndClaim q y ys) st) (M.run_simple p at_ (EndClaim q y ys) n no_tally g) (λ g'. At p f at_ a hid (walk.run_simple p a (EndClaim q y ys) st).gives g' e)
  behind_end q y ys n st g env fit said here =
      let u = walk.run_simple p a (EndClaim q y ys) st in
      let sees = see_simple p x.function f fit.is hid (known_seen p f fit.is hid fit.place) (EndClaim q y ys) fit.scoped said in
      let Before : Environment (language_of p) x.me → Type 0 = λ d. At p f at_ a hid st g d in
      behind_one (language_of p) x.me e n (count_of st) (count_of u.gives) u (M.run_simple p at_ (EndClaim q y ys) n no_tally g) Before (λ g' d. At p f at_ a hid u.gives g' d)
      (end_checks p a q y ys st) (subst (λ (c : Count). IsWithin c (count_of st)) (sym (end_same p a q y ys st)) (within_self (count_of st))) (fits_end p at_ g q y ys n no_tally)
      (outside.beside_end p typed f x fis thread a0 hid (exactly_true p x.me) (invs_true p good x.me) (entries_true p good x.me) line choices n no_tally q y ys st g env fit.typed sees Before (λ d h. h)) here
