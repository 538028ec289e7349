-- Which check of a function stands for the stability of which claim site: the walk that numbers the checks. Own.
use Rattle.std.specs.Prelude.{ℕ, ◌+◌, Bool, List, [], ◌∷◌, ◌++◌, length, Option, Some, None, slice_get, ◌==◌, ◌&&◌}
use Rattle.method.specs.declared.program.RightSide.{RightSide}
use Rattle.method.specs.declared.program.RightSide.TheVariants.{Compute, Malloc, NewClaim, Interlocked}
use Rattle.method.specs.declared.program.Simple.{Simple}
use Rattle.method.specs.declared.program.Simple.TheVariants.{Assign, ChangeOwned, EndClaim}
use Rattle.method.specs.declared.program.Inner.{Inner, Row_of-Inner, end_of-Inner, more_of-Inner}
use Rattle.method.specs.declared.program.Inner.TheVariants.{Inside, InsideIf'}
use Rattle.method.specs.declared.program.Action.{Action}
use Rattle.method.specs.declared.program.Action.TheVariants.{Simply, Declare, Define, WrapObject, UnwrapObject, AssertSpec, FreeObject, SpawnThread, Atomic}
use Rattle.method.specs.declared.program.Stmt.{Stmt, Row_of-Stmt, end_of-Stmt, more_of-Stmt}
use Rattle.method.specs.declared.program.Stmt.TheVariants.{Do, If', While', DoWhile', Unwrapping', Call, Return}
use Rattle.method.specs.declared.program.ClaimSite.{ClaimSite}
use Rattle.method.specs.declared.program.FunctionInfo.{FunctionInfo}
use Rattle.method.specs.declared.program.Program.{Program}
use Rattle.object_types.specs.Sets.{some}
use Rattle.method.specs.Expressions.{checks, all_checks}
use Rattle.method.specs.Actions.{claimed_checks, target_checks, inner_checks, row_checks, listed_exprs}
use Rattle.method.specs.Text.{stmt_checks, row_checks as stmt_row_checks}

-- A claim site by its number, and the number of its stability among its function's checks.
pub record SitePlace : Type 0 where
  pub site : ℕ
  pub number : ℕ

-- The place of a claim site whose right side has its checks from n on: behind those of the claimed objects.
abbrev pub site_places : Option ClaimSite → ℕ → ℕ → List SitePlace
site_places None k n = []
site_places (Some s) k n = record { site = k; number = n + claimed_checks s.claimed.items + length s.claimed.items } ∷ []

-- The places of a right side, of a simple statement, of what an atomic block runs and of an action, whose checks are numbered from n on.
abbrev pub right_places : Program → RightSide → ℕ → List SitePlace
right_places p (Compute e) n = []
right_places p (Malloc ty) n = []
right_places p (NewClaim k) n = site_places (slice_get p.sites.items k) k n
right_places p (Interlocked e f op then') n = []

abbrev pub simple_places : Program → Simple → ℕ → List SitePlace
simple_places p (Assign t r) n = right_places p r (n + target_checks t)
simple_places p (ChangeOwned c e es) n = []
simple_places p (EndClaim q e es) n = []

abbrev mutual
  pub inner_places : Program → Inner → ℕ → List SitePlace
  inner_places p (Inside line s) n = simple_places p s n
  inner_places p (InsideIf' line e m a k b) n = inner_row_places p a (n + checks e) ++ inner_row_places p b (n + checks e + row_checks p a)

  pub inner_row_places : {m : _} → Program → Row_of-Inner m → ℕ → List SitePlace
  inner_row_places p end_of-Inner n = []
  inner_row_places p (more_of-Inner i row) n = inner_places p i n ++ inner_row_places p row (n + inner_checks p i)

abbrev pub inner_list_places : Program → List Inner → ℕ → List SitePlace
inner_list_places p [] n = []
inner_list_places p (i ∷ is) n = inner_places p i n ++ inner_list_places p is (n + inner_checks p i)

abbrev pub action_places : Program → Action → ℕ → List SitePlace
action_places p (Simply s) n = simple_places p s n
action_places p (Declare i) n = []
action_places p (Define i r) n = right_places p r n
action_places p (WrapObject ty q e) n = []
action_places p (UnwrapObject e) n = []
action_places p (AssertSpec e) n = []
action_places p (FreeObject e) n = []
action_places p (SpawnThread k es) n = []
action_places p (Atomic ls body) n = inner_list_places p body.items (n + all_checks (listed_exprs ls.items) + length ls.items)

-- The places of the statements of f, whose checks are numbered from n on.
module _ (p : Program) (f : FunctionInfo) where
  abbrev mutual
    pub stmt_places : Stmt → ℕ → List SitePlace
    stmt_places (Do line a) n = action_places p a n
    stmt_places (If' line in_ghost e m a k b) n = stmt_row_places a (n + checks e) ++ stmt_row_places b (n + checks e + stmt_row_checks p f a)
    stmt_places (While' line invs e m row) n = stmt_row_places row (n + length invs.items + checks e)
    stmt_places (DoWhile' line invs m row tested e) n = stmt_row_places row (n + length invs.items)
    stmt_places (Unwrapping' line ty q e m row) n = stmt_row_places row (n + checks e + 3)
    stmt_places (Call line to c k es) n = []
    stmt_places (Return line e) n = []

    pub stmt_row_places : {m : _} → Row_of-Stmt m → ℕ → List SitePlace
    stmt_row_places end_of-Stmt n = []
    stmt_row_places (more_of-Stmt s row) n = stmt_places s n ++ stmt_row_places row (n + stmt_checks p f s)

  abbrev pub body_places : List Stmt → ℕ → List SitePlace
  body_places [] n = []
  body_places (s ∷ ss) n = stmt_places s n ++ body_places ss (n + stmt_checks p f s)

-- The places of a function; its checks are numbered from 1 on.
abbrev pub function_places : Program → Option FunctionInfo → List SitePlace
function_places p None = []
function_places p (Some f) = body_places p f f.body.items 1

-- The check with this number is the stability of claim site k.
abbrev pub is_placed : ℕ → ℕ → List SitePlace → Bool
is_placed k number ps = some (λ q. (q.site == k) && (q.number == number)) ps
