-- Atomic blocks, claims made and ended, and starts of threads, in an annotated program, beside their paths of checks and facts, from a run to an environment (other_walks).
-- Premises: the program is well typed and annotated, each function's contract fits; the function stands in its table and who runs it is a thread; the place is steady and its terms are of the sorts of their types;
-- the action fits in scope and types, and each end of a claim has its formula in the program (IsOther).
use Rattle.std.proofs.Common.{◌≡◌, ℕ, Bool, true, false, not, List, Some, slice_get}
use Rattle.action_conditions.proofs.Scopes.{sees_in}
use Rattle.object_types.specs.declared.references.Ref.{Ref}
use Rattle.object_types.specs.declared.values.Value.{Value}
use Rattle.object_types.specs.References.{is_thread}
use Rattle.object_types.specs.Sets.{every}
use Rattle.object_types.specs.Heap.{Heap}
use Rattle.method.specs.declared.program.Action.{Action}
use Rattle.method.specs.declared.program.Action.TheVariants.{Simply, Declare, Define, WrapObject, UnwrapObject, AssertSpec, FreeObject, SpawnThread, Atomic}
use Rattle.method.specs.declared.program.Simple.TheVariants.{Assign, ChangeOwned, EndClaim}
use Rattle.method.specs.declared.program.Target.TheVariants.{Local, FieldOf}
use Rattle.method.specs.declared.program.RightSide.{RightSide}
use Rattle.method.specs.declared.program.RightSide.TheVariants.{Compute, Malloc, NewClaim, Interlocked}
use Rattle.method.specs.declared.program.Stmt.TheVariants.{Do}
use Rattle.method.specs.declared.program.Listed.{Listed}
use Rattle.method.specs.declared.program.FunctionInfo.{FunctionInfo}
use Rattle.method.specs.declared.program.Program.{Program}
use Rattle.method.specs.Scopes.{known, expr_in, site_in, inner_in}
use Rattle.method.specs.Tables.{local}
use Rattle.method.specs.Typing.{WellTyped}
use Rattle.method.specs.Expressions.{Context}
use Rattle.method.specs.Actions.{Chosen, act}
use Rattle.method.specs.LocalRuns.{ActsTo, FailsAt}
use Rattle.method.proofs.Global.{and_both}
use Rattle.conditions.specs.Code.{Spot, State}
use Rattle.conditions.specs.Actions.{run_action}
use Rattle.conditions.proofs.Hiding.{after_stmt}
use Rattle.condition_walks.proofs.Scoping.{known_seen}
use Rattle.condition_walks.proofs.TermSorts.{AllSorted}
use Rattle.condition_walks.proofs.Fitting.{FitsAction}
use Rattle.condition_meaning.specs.Languages.{language_of}
use Rattle.condition_meaning.specs.Annotated.{Annotated}
use Rattle.condition_meaning.proofs.Walks.{Follows, Breaks}
use Rattle.action_conditions.proofs.Steady.{Steady}
use Rattle.block_conditions.proofs.Annotated.{Contracts, entries_true, invs_true, items_true, clauses_true}
use Rattle.block_conditions.proofs.Exactly.{exactly_true}
use Rattle.block_conditions.proofs.InScope.{SimpleHasFormula, ListHasFormulas, all_see, see_listed, see_site, see_simple, see_list}
use Rattle.block_conditions.proofs.Acted.{Spotted, size}
use Rattle.block_conditions.proofs.Blocks as blocks
use Rattle.block_conditions.proofs.ClaimActions as claims
use Rattle.block_conditions.proofs.Spawns as spawns

-- a right side that makes a claim
abbrev pub MakesClaim : RightSide → Type 0
MakesClaim (Compute y) = ⊥
MakesClaim (Malloc ty) = ⊥
MakesClaim (NewClaim n) = Unit {0}
MakesClaim (Interlocked y n op then') = ⊥

-- An atomic block, a claim made or ended, or a start of a thread, where each end of a claim has its formula in the program.
abbrev pub IsOther : Program → Action → Type 0
IsOther p (Simply (Assign z r)) = MakesClaim r
IsOther p (Simply (ChangeOwned c y ys)) = ⊥
IsOther p (Simply (EndClaim q y ys)) = SimpleHasFormula p (EndClaim q y ys)
IsOther p (Declare i) = ⊥
IsOther p (Define i r) = MakesClaim r
IsOther p (WrapObject ty q y) = ⊥
IsOther p (UnwrapObject y) = ⊥
IsOther p (AssertSpec y) = ⊥
IsOther p (FreeObject y) = ⊥
IsOther p (SpawnThread n ys) = Unit {0}
IsOther p (Atomic ls body) = ListHasFormulas p body.items

module _ (p : Program) (good : Annotated p) (typed : WellTyped p) (contracts : Contracts p) (f : FunctionInfo) (x : Context) (fis : slice_get p.functions.items x.function ≡ Some f) (thread : is_thread x.me ≡ true) (a0 : Spot) where
  -- outside blocks
  abbrev a : Spot
  a = record a0 { inside = false }

  -- what the action does in a run its path does in an environment
  abbrev pub Follows_ : (ℕ → Bool) → ℕ → ℕ → Action → List Value → List Ref → State → Heap → List Value → Type 1
  Follows_ hid line n c choices news st h v = (h' : Heap) (v' : List Value) → ActsTo p x f (act p x choices (Chosen news) line c n h v) h' v' → Follows (language_of p) x.me (size p typed f x fis thread a) (Spotted p typed f x fis thread a) hid (after_stmt (Do line c) hid) st (run_action p a f c st) h (local v) h' (local v')

  -- a check of the action that fails in the run fails on its path
  abbrev pub Breaks_ : (ℕ → Bool) → ℕ → ℕ → Action → List Value → List Ref → State → Heap → List Value → Type 1
  Breaks_ hid line n c choices news st h v = (label : ℕ) → FailsAt label (act p x choices (Chosen news) line c n h v) → Breaks (language_of p) x.me (size p typed f x fis thread a) (Spotted p typed f x fis thread a) label n hid st (run_action p a f c st) h (local v)

  module _ (hid : ℕ → Bool) (line n : ℕ) (choices : List Value) (news : List Ref) (st : State) (h : Heap) (v : List Value) (sorted : AllSorted f.variables.items st.locals) (s : Steady p f h v) where
    pub other_walks : (c : Action) → FitsAction p x.function f hid c → IsOther p c → Follows_ hid line n c choices news st h v × Breaks_ hid line n c choices news st h v
    other_walks (Simply (Assign (Local i) (Compute y))) fit said = absurd said
    other_walks (Simply (Assign (Local i) (Malloc ty))) fit said = absurd said
    other_walks (Simply (Assign (Local i) (NewClaim m))) fit said =
        let seen = known_seen p f fit.is hid fit.place in
        let b = and_both (known p f fit.is i) (site_in p f fit.is (slice_get p.sites.items m)) fit.scoped in
        let sees = see_site p x.function f fit.is hid seen (slice_get p.sites.items m) b.1 in (
          claims.assign_follows p typed f x fis thread a0 hid (exactly_true p x.me) (invs_true p good x.me) (entries_true p good x.me) line choices news n st h v s i m sees fit.typed,
          claims.assign_breaks p typed f x fis thread a0 hid (exactly_true p x.me) (invs_true p good x.me) (entries_true p good x.me) line choices news n st h v s i m sees fit.typed,
        )
    other_walks (Simply (Assign (Local i) (Interlocked y m op then'))) fit said = absurd said
    other_walks (Simply (Assign (FieldOf y g) (Compute w))) fit said = absurd said
    other_walks (Simply (Assign (FieldOf y g) (Malloc ty))) fit said = absurd said
    other_walks (Simply (Assign (FieldOf y g) (NewClaim m))) fit said =
        let seen = known_seen p f fit.is hid fit.place in
        let b = and_both (expr_in p f fit.is y) (site_in p f fit.is (slice_get p.sites.items m)) fit.scoped in
        let sees_y = sees_in p x.function f fit.is hid seen y b.0 in
        let sees = see_site p x.function f fit.is hid seen (slice_get p.sites.items m) b.1 in (
          claims.field_follows p typed f x fis thread a0 hid (exactly_true p x.me) (invs_true p good x.me) (entries_true p good x.me) line choices news n st h v s y g m sees_y sees fit.typed,
          claims.field_breaks p typed f x fis thread a0 hid (exactly_true p x.me) (invs_true p good x.me) (entries_true p good x.me) line choices news n st h v s y g m sees_y sees fit.typed,
        )
    other_walks (Simply (Assign (FieldOf y g) (Interlocked w m op then'))) fit said = absurd said
    other_walks (Simply (ChangeOwned c y ys)) fit said = absurd said
    other_walks (Simply (EndClaim q y ys)) fit said =
        let seen = known_seen p f fit.is hid fit.place in
        let sees = see_simple p x.function f fit.is hid seen (EndClaim q y ys) fit.scoped said in (
          claims.end_follows p typed f x fis thread a0 hid (exactly_true p x.me) (invs_true p good x.me) (entries_true p good x.me) line choices news n st h v s q y ys fit.typed sees,
          claims.end_breaks p typed f x fis thread a0 hid (exactly_true p x.me) (invs_true p good x.me) (entries_true p good x.me) line choices news n st h v s q y ys fit.typed sees,
        )
    other_walks (Declare i) fit said = absurd said
    other_walks (Define i (Compute y)) fit said = absurd said
    other_walks (Define i (Malloc ty)) fit said = absurd said
    other_walks (Define i (NewClaim m)) fit said =
        let seen = known_seen p f fit.is hid fit.place in
        let b = and_both (site_in p f fit.is (slice_get p.sites.items m)) (not (known p f fit.is i)) fit.scoped in
        let sees = see_site p x.function f fit.is hid seen (slice_get p.sites.items m) b.0 in (
          claims.define_follows p typed f x fis thread a0 hid (exactly_true p x.me) (invs_true p good x.me) (entries_true p good x.me) line choices news n st h v s i m sees fit.typed,
          claims.define_breaks p typed f x fis thread a0 hid (exactly_true p x.me) (invs_true p good x.me) (entries_true p good x.me) line choices news n st h v s i m sees fit.typed,
        )
    other_walks (Define i (Interlocked y m op then')) fit said = absurd said
    other_walks (WrapObject ty q y) fit said = absurd said
    other_walks (UnwrapObject y) fit said = absurd said
    other_walks (AssertSpec y) fit said = absurd said
    other_walks (FreeObject y) fit said = absurd said
    other_walks (SpawnThread m ys) fit said =
        let seen = known_seen p f fit.is hid fit.place in
        let sees = all_see p x.function f fit.is hid seen ys.items fit.scoped in (
          spawns.spawn_follows p typed f x fis thread a hid (items_true p good contracts x.me) (clauses_true p good contracts x.me) line choices news n st h v s m ys fit.typed sees,
          spawns.spawn_breaks p typed f x fis thread a hid (items_true p good contracts x.me) (clauses_true p good contracts x.me) line choices news n st h v s m ys fit.typed sees,
        )
    other_walks (Atomic ls body) fit said =
        let seen = known_seen p f fit.is hid fit.place in
        let b = and_both (every (λ (i : Listed). expr_in p f fit.is i.object) ls.items) (every (inner_in p f fit.is) body.items) fit.scoped in
        let listed = see_listed p x.function f fit.is hid seen ls.items b.0 in
        let sees = see_list p x.function f fit.is hid seen body.items b.1 said in (
          blocks.block_follows p typed f x fis thread a hid (exactly_true p x.me) (invs_true p good x.me) (entries_true p good x.me) line choices news ls body n st h v s fit.typed sorted listed sees,
          blocks.block_breaks p typed f x fis thread a hid (exactly_true p x.me) (invs_true p good x.me) (entries_true p good x.me) line choices news ls body n st h v s fit.typed sorted listed sees,
        )
