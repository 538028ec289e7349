-- An expression has as many labels as checks, and so has each part of a statement.
use Rattle.std.proofs.Common.{◌≡◌, ℕ, suc, ◌+◌, Bool, true, false, cond, refl, ap, ◌∙◌, List, [], ◌∷◌, ◌++◌, length, replicate, Option, Some, None, slice_get, if◌then◌else◌, arith}
use Rattle.std.proofs.lemmas.List.{length-append, length-replicate, length-map}
use Rattle.int_ranges.specs.declared.ctype.CType.{CType}
use Rattle.method.specs.declared.program.CheckKind.{CheckKind}
use Rattle.method.specs.declared.program.CheckKind.TheVariants.{Divide, Range, Read, Write, Writes, Wrap, Unwrap, Claimed as HasClaims, AtomicClosed, Free, Spawn, Requires, Ensures, LoopInv, MakeClaim, ClaimStable, DestroyClaim, Invariant}
use Rattle.method.specs.declared.program.Expr.{Expr}
use Rattle.method.specs.declared.program.Expr.TheVariants.{Number, Null, Variable, Field', Not', Negate', Arithmetic', Compare', And', Or', Choose', Convert'}
use Rattle.method.specs.declared.program.Target.{Target}
use Rattle.method.specs.declared.program.Target.TheVariants.{Local, FieldOf}
use Rattle.method.specs.declared.program.Operation.{Operation}
use Rattle.method.specs.declared.program.Operation.TheVariants.{CompareExchange, Exchange, Increment, Decrement}
use Rattle.method.specs.declared.program.InterlockedResult.{InterlockedResult}
use Rattle.method.specs.declared.program.InterlockedResult.TheVariants.{Plainly, Compared}
use Rattle.method.specs.declared.program.RightSide.{RightSide}
use Rattle.method.specs.declared.program.RightSide.TheVariants.{Compute, Malloc, NewClaim, Interlocked}
use Rattle.method.specs.declared.program.OwnsChange.{OwnsChange}
use Rattle.method.specs.declared.program.OwnsChange.TheVariants.{Assigned, Added, Removed}
use Rattle.method.specs.declared.program.Simple.{Simple}
use Rattle.method.specs.declared.program.Simple.TheVariants.{Assign, ChangeOwned, EndClaim}
use Rattle.method.specs.declared.program.Inner.{Inner, Row_of-Inner, end_of-Inner, more_of-Inner}
use Rattle.method.specs.declared.program.Inner.TheVariants.{Inside, InsideIf'}
use Rattle.method.specs.declared.program.Listed.{Listed}
use Rattle.method.specs.declared.program.Action.{Action}
use Rattle.method.specs.declared.program.Action.TheVariants.{Simply, Declare, Define, WrapObject, UnwrapObject, AssertSpec, FreeObject, SpawnThread, Atomic}
use Rattle.method.specs.declared.program.Receiver.{Receiver}
use Rattle.method.specs.declared.program.Receiver.TheVariants.{Nobody, NewVariable, Place as Left}
use Rattle.method.specs.declared.program.Stmt.{Stmt, Row_of-Stmt, end_of-Stmt, more_of-Stmt}
use Rattle.method.specs.declared.program.Stmt.TheVariants.{Do, If', While', DoWhile', Unwrapping', Call, Return}
use Rattle.method.specs.declared.program.FunctionInfo.{FunctionInfo}
use Rattle.method.specs.declared.program.Claimed.{Claimed}
use Rattle.method.specs.declared.program.Claimed.TheVariants.{ClaimedVariable, ClaimedNull, ClaimedOther}
use Rattle.method.specs.declared.program.ClaimSite.{ClaimSite}
use Rattle.method.specs.declared.program.Program.{Program}
use Rattle.method.specs.Expressions.{checks, all_checks, divides, own_checks}
use Rattle.method.specs.Actions.{conversion_checks, afterwards_checks, claimed_checks, target_checks, store_checks, site_checks, operation_checks, operands, counts, right_checks, change_checks, simple_checks, inner_checks, row_checks, list_checks, list_tally, listed_exprs, plain_listed, function_checks, action_checks}
use Rattle.method.specs.Labels.{kinds, all_kinds, conversion_kinds, afterwards_kinds, claimed_kinds, target_kinds, store_kinds, site_kinds, right_kinds, member_kinds, change_kinds, simple_kinds, on_line, inner_labels, inner_row_labels, inner_list_labels, spawn_kinds, action_labels, contract_kinds, option_kinds, receiver_kinds, receiving_kinds, stmt_labels, row_labels, body_labels}
use Rattle.method.specs.Text.{receiver_checks, receiving_checks, option_checks, call_checks, stmt_checks, row_checks as stmt_row_checks, body_checks}

pub both_sizes : {A : Type 0} (xs ys : List A) (m n : ℕ) → length xs ≡ m → length ys ≡ n → length (xs ++ ys) ≡ m + n
both_sizes xs ys m n e f = length-append xs ys ∙ (ap (λ k. k + length ys) e ∙ ap (λ k. m + k) f)

pub three_sizes : {A : Type 0} (xs ys zs : List A) (m n k : ℕ) → length xs ≡ m → length ys ≡ n → length zs ≡ k → length (xs ++ ys ++ zs) ≡ m + n + k
three_sizes xs ys zs m n k e f g = both_sizes (xs ++ ys) zs (m + n) k (both_sizes xs ys m n e f) g

pub if_size : {A : Type 0} (b : Bool) (xs ys : List A) (m n : ℕ) → length xs ≡ m → length ys ≡ n → length (cond b xs ys) ≡ cond b m n
if_size true xs ys m n e f = e
if_size false xs ys m n e f = f

pub kinds_size : (e : Expr) → length (kinds e) ≡ checks e
kinds_size (Number z) = refl
kinds_size Null = refl
kinds_size (Variable i) = refl
kinds_size (Field' q e f) = both_sizes (kinds e) _ (checks e) 1 (kinds_size e) refl
kinds_size (Not' q e) = kinds_size e
kinds_size (Negate' q e c) = both_sizes (kinds e) _ (checks e) 1 (kinds_size e) refl
kinds_size (Arithmetic' op q a r b c) = three_sizes (kinds a) (kinds b) _ (checks a) (checks b) (own_checks op) (kinds_size a) (kinds_size b)
    (if_size (divides op) (Divide ∷ Range ∷ []) (Range ∷ []) 2 1 refl refl)
kinds_size (Compare' k q a r b) = both_sizes (kinds a) (kinds b) (checks a) (checks b) (kinds_size a) (kinds_size b)
kinds_size (And' q a r b) = both_sizes (kinds a) (kinds b) (checks a) (checks b) (kinds_size a) (kinds_size b)
kinds_size (Or' q a r b) = both_sizes (kinds a) (kinds b) (checks a) (checks b) (kinds_size a) (kinds_size b)
kinds_size (Choose' q a r b t c) = three_sizes (kinds a) (kinds b) (kinds c) (checks a) (checks b) (checks c) (kinds_size a) (kinds_size b) (kinds_size c)
kinds_size (Convert' q e c) = both_sizes (kinds e) _ (checks e) 1 (kinds_size e) refl

pub all_kinds_size : (es : List Expr) → length (all_kinds es) ≡ all_checks es
all_kinds_size [] = refl
all_kinds_size (e ∷ es) = both_sizes (kinds e) (all_kinds es) (checks e) (all_checks es) (kinds_size e) (all_kinds_size es)

pub conversion_size : (c : Option CType) → length (conversion_kinds c) ≡ conversion_checks c
conversion_size None = refl
conversion_size (Some c) = refl

pub afterwards_size : (r : InterlockedResult) → length (afterwards_kinds r) ≡ afterwards_checks r
afterwards_size (Plainly c) = conversion_size c
afterwards_size (Compared c equal e d) = three_sizes (conversion_kinds c) (kinds e) (conversion_kinds d) (conversion_checks c) (checks e) (conversion_checks d) (conversion_size c)
    (kinds_size e) (conversion_size d)

pub claimed_size : (cs : List Claimed) → length (claimed_kinds cs) ≡ claimed_checks cs
claimed_size [] = refl
claimed_size (ClaimedVariable i ∷ cs) = claimed_size cs
claimed_size (ClaimedNull ∷ cs) = claimed_size cs
claimed_size (ClaimedOther e ty ∷ cs) = both_sizes (kinds e) (claimed_kinds cs) (checks e) (claimed_checks cs) (kinds_size e) (claimed_size cs)

pub target_size : (t : Target) → length (target_kinds t) ≡ target_checks t
target_size (Local i) = refl
target_size (FieldOf e f) = kinds_size e

store_size : (t : Target) → length (store_kinds t) ≡ store_checks t
store_size (Local i) = refl
store_size (FieldOf e f) = refl

-- the claimed objects, and the stability of the site
pub site_front : (s : ClaimSite) → length (claimed_kinds s.claimed.items ++ replicate (length s.claimed.items) MakeClaim ++ (ClaimStable ∷ [])) ≡ claimed_checks s.claimed.items + length
    s.claimed.items + 1
site_front s = three_sizes (claimed_kinds s.claimed.items) (replicate (length s.claimed.items) MakeClaim) (ClaimStable ∷ []) (claimed_checks s.claimed.items) (length s.claimed.items) 1
    (claimed_size s.claimed.items) (length-replicate (length s.claimed.items) MakeClaim) refl

site_size : (inside : Bool) (o : Option ClaimSite) → length (site_kinds inside o) ≡ site_checks inside o
site_size true None = refl
site_size false None = refl
site_size true (Some s) = let x = both_sizes _ [] _ 0 (site_front s) refl in omega (arith, x)
site_size false (Some s) =
    let n = length s.claimed.items in
    let k = length s.conjuncts.items in
    let x = both_sizes _ (replicate k MakeClaim ++ replicate n Invariant) _ (k + n) (site_front s)
    (both_sizes (replicate k MakeClaim) (replicate n Invariant) k n (length-replicate k MakeClaim) (length-replicate n Invariant)) in
    omega (arith, x)

pub operation_size : (op : Operation) → all_checks (operands op) + (if counts op then 4 else 3) ≡ operation_checks op
operation_size (CompareExchange new old) = omega arith
operation_size (Exchange new) = omega arith
operation_size Increment = refl
operation_size Decrement = refl

pub exchange_size : (op : Operation) → length (if counts op then Read ∷ Range ∷ Write ∷ Writes ∷ [] else Read ∷ Write ∷ Writes ∷ []) ≡ (if counts op then 4 else 3)
exchange_size op = if_size (counts op) (Read ∷ Range ∷ Write ∷ Writes ∷ []) (Read ∷ Write ∷ Writes ∷ []) 4 3 refl refl

pub right_size : (p : Program) (inside : Bool) (r : RightSide) → length (right_kinds p inside r) ≡ right_checks p inside r
right_size p inside (Compute e) = kinds_size e
right_size p inside (Malloc ty) = refl
right_size p inside (NewClaim n) = site_size inside (slice_get p.sites.items n)
right_size p inside (Interlocked e f op then') =
    let own : List CheckKind = if counts op then Read ∷ Range ∷ Write ∷ Writes ∷ [] else Read ∷ Write ∷ Writes ∷ [] in
    let x = both_sizes (kinds e ++ all_kinds (operands op) ++ own) (afterwards_kinds then') (checks e + all_checks (operands op) + (if counts op then 4 else 3)) (afterwards_checks then')
    (three_sizes (kinds e) (all_kinds (operands op)) own (checks e) (all_checks (operands op)) (if counts op then 4 else 3) (kinds_size e) (all_kinds_size (operands op)) (exchange_size op))
    (afterwards_size then') in
    let y = operation_size op in omega (arith, x, y)

member_size : (inside : Bool) (es : List Expr) → length (member_kinds inside es) ≡ length es + length es
member_size inside [] = refl
member_size inside (e ∷ es) = let x = member_size inside es in omega (arith, x)

pub change_size : (inside : Bool) (c : OwnsChange) (es : List Expr) → length (change_kinds inside c es) ≡ change_checks c (length es)
change_size inside Assigned es = refl
change_size inside Added es = member_size inside es
change_size inside Removed es = member_size inside es

pub simple_size : (p : Program) (inside : Bool) (s : Simple) → length (simple_kinds p inside s) ≡ simple_checks p inside s
simple_size p inside (Assign t r) = three_sizes (target_kinds t) (right_kinds p inside r) (store_kinds t) (target_checks t) (right_checks p inside r) (store_checks t) (target_size t)
    (right_size p inside r) (store_size t)
simple_size p inside (ChangeOwned c e es) = three_sizes (kinds e) (all_kinds es.items) (change_kinds inside c es.items) (checks e) (all_checks es.items) (change_checks c (length es.items))
    (kinds_size e) (all_kinds_size es.items) (change_size inside c es.items)
simple_size p inside (EndClaim q e es) =
    let n = length es.items in
    both_sizes (kinds e ++ all_kinds es.items ++ (DestroyClaim ∷ []) ++ replicate n DestroyClaim) (if inside then [] else replicate n Invariant) (checks e + all_checks es.items + 1 + n)
    (if inside then 0 else n)
    (both_sizes (kinds e ++ all_kinds es.items ++ (DestroyClaim ∷ [])) (replicate n DestroyClaim) (checks e + all_checks es.items + 1) n
    (three_sizes (kinds e) (all_kinds es.items) (DestroyClaim ∷ []) (checks e) (all_checks es.items) 1 (kinds_size e) (all_kinds_size es.items) refl) (length-replicate n DestroyClaim))
    (if_size inside [] (replicate n Invariant) 0 n refl (length-replicate n Invariant))

-- Of lines.

pub line_size : (line : ℕ) (ks : List CheckKind) (n : ℕ) → length ks ≡ n → length (on_line line ks) ≡ n
line_size line ks n e = length-map ks (λ k. record { kind = k; line = line }) ∙ e

mutual
  pub inner_size : (p : Program) (i : Inner) → length (inner_labels p i) ≡ inner_checks p i
  inner_size p (Inside line s) = line_size line (simple_kinds p true s) (simple_checks p true s) (simple_size p true s)
  inner_size p (InsideIf' line e m a n b) = three_sizes (on_line line (kinds e)) (inner_row_labels p a) (inner_row_labels p b) (checks e) (row_checks p a) (row_checks p b)
      (line_size line (kinds e) (checks e) (kinds_size e)) (inner_row_size p a) (inner_row_size p b)

  pub inner_row_size : {m : _} (p : Program) (row : Row_of-Inner m) → length (inner_row_labels p row) ≡ row_checks p row
  inner_row_size p end_of-Inner = refl
  inner_row_size p (more_of-Inner i row) = both_sizes (inner_labels p i) (inner_row_labels p row) (inner_checks p i) (row_checks p row) (inner_size p i) (inner_row_size p row)

pub inner_list_size : (p : Program) (is : List Inner) → length (inner_list_labels p is) ≡ list_checks p is
inner_list_size p [] = refl
inner_list_size p (i ∷ is) = both_sizes (inner_labels p i) (inner_list_labels p is) (inner_checks p i) (list_checks p is) (inner_size p i) (inner_list_size p is)

pub exprs_size : (ls : List Listed) → length (listed_exprs ls) ≡ length ls
exprs_size [] = refl
exprs_size (i ∷ is) = ap suc (exprs_size is)

-- what a block tests first, and at its end
pub opening_size : (ls : List Listed) → length (all_kinds (listed_exprs ls) ++ replicate (length ls) AtomicClosed) ≡ all_checks (listed_exprs ls) + length ls
opening_size ls = both_sizes (all_kinds (listed_exprs ls)) (replicate (length ls) AtomicClosed) (all_checks (listed_exprs ls)) (length ls) (all_kinds_size (listed_exprs ls))
    (length-replicate (length ls) AtomicClosed)

closing_size : (a b c : ℕ) → length (replicate a Invariant ++ replicate b Invariant ++ replicate c Invariant) ≡ a + b + c
closing_size a b c = three_sizes (replicate a Invariant) (replicate b Invariant) (replicate c Invariant) a b c (length-replicate a Invariant) (length-replicate b Invariant)
    (length-replicate c Invariant)

pub spawn_size : (o : Option FunctionInfo) → length (spawn_kinds o) ≡ function_checks o
spawn_size None = refl
spawn_size (Some g) =
    let x = both_sizes (replicate (length g.writes.items) Spawn) (replicate (length g.requires_.items) Spawn) (length g.writes.items) (length g.requires_.items)
    (length-replicate (length g.writes.items) Spawn) (length-replicate (length g.requires_.items) Spawn) in
    omega (arith, x)

pub action_size : (p : Program) (line : ℕ) (a : Action) → length (action_labels p line a) ≡ action_checks p a
action_size p line (Simply s) = line_size line (simple_kinds p false s) (simple_checks p false s) (simple_size p false s)
action_size p line (Declare i) = refl
action_size p line (Define i r) = line_size line (right_kinds p false r) (right_checks p false r) (right_size p false r)
action_size p line (WrapObject ty q e) = line_size line _ _ (both_sizes (kinds e) (Wrap ∷ Writes ∷ Wrap ∷ Invariant ∷ []) (checks e) 4 (kinds_size e) refl)
action_size p line (UnwrapObject e) = line_size line _ _ (both_sizes (kinds e) (Unwrap ∷ Writes ∷ HasClaims ∷ []) (checks e) 3 (kinds_size e) refl)
action_size p line (AssertSpec e) = refl
action_size p line (FreeObject e) = line_size line _ _ (both_sizes (kinds e) (Free ∷ Writes ∷ []) (checks e) 2 (kinds_size e) refl)
action_size p line (SpawnThread k es) = line_size line _ _ (both_sizes (all_kinds es.items) (spawn_kinds (slice_get p.functions.items k)) (all_checks es.items)
    (function_checks (slice_get p.functions.items k)) (all_kinds_size es.items) (spawn_size (slice_get p.functions.items k)))
action_size p line (Atomic ls body) =
    let a = all_checks (listed_exprs ls.items) + length ls.items in
    let t = list_tally p body.items in
    let b = plain_listed ls.items + t.objects + t.claims in
    let x = three_sizes (on_line line (all_kinds (listed_exprs ls.items) ++ replicate (length ls.items) AtomicClosed)) (inner_list_labels p body.items)
    (on_line line (replicate (plain_listed ls.items) Invariant ++ replicate t.objects Invariant ++ replicate t.claims Invariant)) a (list_checks p body.items) b
    (line_size line _ a (opening_size ls.items)) (inner_list_size p body.items) (line_size line _ b (closing_size (plain_listed ls.items) t.objects t.claims)) in
    omega (arith, x)

-- Of statements.

pub receiver_size : (to : Receiver) → length (receiver_kinds to) ≡ receiver_checks to
receiver_size Nobody = refl
receiver_size (NewVariable i) = refl
receiver_size (Left t) = target_size t

receiving_size : (to : Receiver) → length (receiving_kinds to) ≡ receiving_checks to
receiving_size Nobody = refl
receiving_size (NewVariable i) = refl
receiving_size (Left t) = store_size t

contract_size : (a b : CheckKind) (o : Option FunctionInfo) → length (contract_kinds a b o) ≡ function_checks o
contract_size a b None = refl
contract_size a b (Some g) = both_sizes (replicate (length g.requires_.items) a) (replicate (length g.writes.items) b) (length g.requires_.items) (length g.writes.items)
    (length-replicate (length g.requires_.items) a) (length-replicate (length g.writes.items) b)

-- the checks of a call, up to the callee's
pub calling_size : (p : Program) (to : Receiver) (k : ℕ) (es : List Expr) →
    length (receiver_kinds to ++ all_kinds es ++ contract_kinds Requires Writes (slice_get p.functions.items k)) ≡ call_checks p to k es
calling_size p to k es = three_sizes (receiver_kinds to) (all_kinds es) (contract_kinds Requires Writes (slice_get p.functions.items k)) (receiver_checks to) (all_checks es)
    (function_checks (slice_get p.functions.items k)) (receiver_size to) (all_kinds_size es) (contract_size Requires Writes (slice_get p.functions.items k))

pub option_size : (e : Option Expr) → length (option_kinds e) ≡ option_checks e
option_size None = refl
option_size (Some e) = kinds_size e

module _ (p : Program) (f : FunctionInfo) where
  mutual
    pub stmt_size : (s : Stmt) → length (stmt_labels p f s) ≡ stmt_checks p f s
    stmt_size (Do line a) = action_size p line a
    stmt_size (If' line in_ghost e m a n b) = three_sizes (on_line line (kinds e)) (row_labels p f a) (row_labels p f b) (checks e) (stmt_row_checks p f a) (stmt_row_checks p f b)
        (line_size line (kinds e) (checks e) (kinds_size e)) (row_size a) (row_size b)
    stmt_size (While' line invs e m row) =
        let k = length invs.items in
        three_sizes (on_line line (replicate k LoopInv ++ kinds e)) (row_labels p f row) (on_line line (replicate k LoopInv)) (k + checks e) (stmt_row_checks p f row) k
        (line_size line _ (k + checks e) (both_sizes (replicate k LoopInv) (kinds e) k (checks e) (length-replicate k LoopInv) (kinds_size e))) (row_size row)
        (line_size line _ k (length-replicate k LoopInv))
    stmt_size (DoWhile' line invs m row tested e) =
        let k = length invs.items in
        both_sizes (on_line line (replicate k LoopInv) ++ row_labels p f row ++ on_line tested (kinds e)) (on_line line (replicate k LoopInv)) (k + stmt_row_checks p f row + checks e) k
        (three_sizes (on_line line (replicate k LoopInv)) (row_labels p f row) (on_line tested (kinds e)) k (stmt_row_checks p f row) (checks e)
        (line_size line _ k (length-replicate k LoopInv)) (row_size row) (line_size tested (kinds e) (checks e) (kinds_size e)))
        (line_size line _ k (length-replicate k LoopInv))
    stmt_size (Unwrapping' line ty q e m row) =
        three_sizes (on_line line (kinds e ++ (Unwrap ∷ Writes ∷ HasClaims ∷ []))) (row_labels p f row) (on_line line (Wrap ∷ Writes ∷ Wrap ∷ Invariant ∷ [])) (checks e + 3)
        (stmt_row_checks p f row) 4
        (line_size line _ (checks e + 3) (both_sizes (kinds e) (Unwrap ∷ Writes ∷ HasClaims ∷ []) (checks e) 3 (kinds_size e) refl)) (row_size row) refl
    stmt_size (Call line to c k es) =
        line_size line _ _ (three_sizes (receiver_kinds to ++ all_kinds es.items ++ contract_kinds Requires Writes (slice_get p.functions.items k)) (conversion_kinds c) (receiving_kinds to)
        (call_checks p to k es.items) (conversion_checks c) (receiving_checks to) (calling_size p to k es.items) (conversion_size c) (receiving_size to))
    stmt_size (Return line e) = line_size line _ _ (both_sizes (option_kinds e) (replicate (length f.ensures_.items) Ensures) (option_checks e) (length f.ensures_.items) (option_size e)
        (length-replicate (length f.ensures_.items) Ensures))

    pub row_size : {m : _} (row : Row_of-Stmt m) → length (row_labels p f row) ≡ stmt_row_checks p f row
    row_size end_of-Stmt = refl
    row_size (more_of-Stmt s row) = both_sizes (stmt_labels p f s) (row_labels p f row) (stmt_checks p f s) (stmt_row_checks p f row) (stmt_size s) (row_size row)

  pub body_size : (ss : List Stmt) → length (body_labels p f ss) ≡ body_checks p f ss
  body_size [] = refl
  body_size (s ∷ ss) = both_sizes (stmt_labels p f s) (body_labels p f ss) (stmt_checks p f s) (body_checks p f ss) (stmt_size s) (body_size ss)
