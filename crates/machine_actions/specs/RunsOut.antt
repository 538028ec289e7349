-- Where the code's numbers run out at an action. A block's statements go from heap to heap, so they may run out on the way. Own.
use Rattle.std.specs.Prelude.{ℕ, ◌+◌, ◌⊎◌, Bool, true, false, List, [], ◌∷◌, map, length}
use Rattle.object_types.specs.declared.references.Ref.{Ref}
use Rattle.object_types.specs.Values.{referent, truth}
use Rattle.method.specs.declared.program.Simple.{Simple}
use Rattle.method.specs.declared.program.Simple.TheVariants.{Assign, ChangeOwned, EndClaim}
use Rattle.method.specs.declared.program.Inner.{Inner, Row_of-Inner, end_of-Inner, more_of-Inner}
use Rattle.method.specs.declared.program.Inner.TheVariants.{Inside, InsideIf'}
use Rattle.method.specs.declared.program.Listed.{Listed}
use Rattle.method.specs.declared.program.Action.{Action}
use Rattle.method.specs.declared.program.Action.TheVariants.{Simply, Declare, Define, WrapObject, UnwrapObject, AssertSpec, FreeObject, SpawnThread, Atomic}
use Rattle.method.specs.declared.program.Program.{Program}
use Rattle.method.specs.Expressions.{Context, Spot, eval, checks, all_checks}
use Rattle.method.specs.Actions.{Progress, Tally, no_tally, tally_plus, target_checks, inner_checks, inner_tally, row_checks, row_tally, run_expr, run_exprs, inner_spot, run_inner, listed_exprs}
use Rattle.machine_objects.specs.RunsOut.{Behind}
use Rattle.machine_claims.specs.RunsOut.{RightRunsOut, EndingRunsOut}
use Rattle.machine_ownership.specs.RunsOut.{NoThread}

-- the first where the test holds, else the second
abbrev pub Branch : Bool → Type 0 → Type 0 → Type 0
Branch true A B = A
Branch false A B = B

-- the numbers run out at a statement that may also stand inside an atomic block
abbrev pub SimpleRunsOut : Program → Spot → Simple → ℕ → Progress → Type 0
SimpleRunsOut p at_ (Assign t r) n g = RightRunsOut p at_ r (n + target_checks t) g
SimpleRunsOut p at_ (ChangeOwned c e es) n g = ⊥
SimpleRunsOut p at_ (EndClaim q e es) n g = Behind (run_expr p at_ e n g) (λ c. EndingRunsOut (referent c) g)

module _ (p : Program) (x : Context) (listed : List Ref) where
  -- the same at statements inside an atomic block: at one of them, or at a later one, with what the first leaves
  abbrev mutual
    pub InnerRunsOut : Inner → ℕ → Tally → Progress → Type 0
    InnerRunsOut (Inside line s) n tally g = SimpleRunsOut p (inner_spot p x listed line) s n g
    InnerRunsOut (InsideIf' line e m a k b) n tally g =
        Behind (eval p (inner_spot p x listed line) g.heap g.locals e n) (λ v.
        Branch (truth v) (RowRunsOut a (n + checks e) tally g) (RowRunsOut b (n + checks e + row_checks p a) (tally_plus tally (row_tally p a)) g)
        )

    pub RowRunsOut : {m : _} → Row_of-Inner m → ℕ → Tally → Progress → Type 0
    RowRunsOut end_of-Inner n tally g = ⊥
    RowRunsOut (more_of-Inner i row) n tally g =
        InnerRunsOut i n tally g ⊎ Behind (run_inner p x listed i n tally g) (λ g'. RowRunsOut row (n + inner_checks p i) (tally_plus tally (inner_tally p i)) g')

  abbrev pub ListRunsOut : List Inner → ℕ → Tally → Progress → Type 0
  ListRunsOut [] n tally g = ⊥
  ListRunsOut (i ∷ is) n tally g =
      InnerRunsOut i n tally g ⊎ Behind (run_inner p x listed i n tally g) (λ g'. ListRunsOut is (n + inner_checks p i) (tally_plus tally (inner_tally p i)) g')

-- the same at an atomic block, once its objects are worked out
abbrev pub BlockRunsOut : Program → Spot → List Listed → List Inner → ℕ → Progress → Type 0
BlockRunsOut p at_ ls body n g =
    Behind (run_exprs p at_ (listed_exprs ls) n g) (λ vs. ListRunsOut p at_.context (map referent vs) body (n + all_checks (listed_exprs ls) + length ls) no_tally g)

-- the same at an action
abbrev pub ActionRunsOut : Program → Spot → Action → ℕ → Progress → Type 0
ActionRunsOut p at_ (Simply s) n g = SimpleRunsOut p at_ s n g
ActionRunsOut p at_ (Declare i) n g = ⊥
ActionRunsOut p at_ (Define i r) n g = RightRunsOut p at_ r n g
ActionRunsOut p at_ (WrapObject ty q e) n g = ⊥
ActionRunsOut p at_ (UnwrapObject e) n g = ⊥
ActionRunsOut p at_ (AssertSpec e) n g = ⊥
ActionRunsOut p at_ (FreeObject e) n g = ⊥
ActionRunsOut p at_ (SpawnThread k es) n g = NoThread g.supply g.heap
ActionRunsOut p at_ (Atomic ls body) n g = BlockRunsOut p at_ ls.items body.items n g
