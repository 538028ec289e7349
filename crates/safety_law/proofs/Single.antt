-- No check stands for the stability of two sites: their numbers rise along the text.
use Rattle.std.proofs.Common.{◌≡◌, ℕ, ◌+◌, ◌≤◌, Bool, true, false, ◌==◌, ◌&&◌, ⊎_elim, sym, ◌∙◌, List, [], ◌∷◌, ◌++◌, length, Option, Some, None, slice_get, arith}
use Rattle.std.proofs.lemmas.Bool.{eqb-true}
use Rattle.method.specs.declared.program.RightSide.{RightSide}
use Rattle.method.specs.declared.program.RightSide.TheVariants.{Compute, Malloc, NewClaim, Interlocked}
use Rattle.method.specs.declared.program.Simple.{Simple}
use Rattle.method.specs.declared.program.Simple.TheVariants.{Assign, ChangeOwned, EndClaim}
use Rattle.method.specs.declared.program.Inner.{Inner, Row_of-Inner, end_of-Inner, more_of-Inner}
use Rattle.method.specs.declared.program.Inner.TheVariants.{Inside, InsideIf'}
use Rattle.method.specs.declared.program.Action.{Action}
use Rattle.method.specs.declared.program.Action.TheVariants.{Simply, Declare, Define, WrapObject, UnwrapObject, AssertSpec, FreeObject, SpawnThread, Atomic}
use Rattle.method.specs.declared.program.Stmt.{Stmt, Row_of-Stmt, end_of-Stmt, more_of-Stmt}
use Rattle.method.specs.declared.program.Stmt.TheVariants.{Do, If', While', DoWhile', Unwrapping', Call, Return}
use Rattle.method.specs.declared.program.ClaimSite.{ClaimSite}
use Rattle.method.specs.declared.program.FunctionInfo.{FunctionInfo}
use Rattle.method.specs.declared.program.Program.{Program}
use Rattle.method.specs.Expressions.{checks, all_checks}
use Rattle.method.specs.Actions.{target_checks, right_checks, site_checks, simple_checks, inner_checks, row_checks, list_checks, listed_exprs, block_checks, action_checks}
use Rattle.method.specs.Text.{stmt_checks, row_checks as stmt_row_checks, body_checks}
use Rattle.method.proofs.Global.{and_both}
use Rattle.machine_laws.proofs.Typed.{or_cases}
use Rattle.safety_law.specs.SitePlaces.{SitePlace, site_places, right_places, simple_places, inner_places, inner_row_places, inner_list_places, action_places, stmt_places, stmt_row_places, body_places, function_places, is_placed}
use Rattle.safety_law.specs.LabelFacts.{SitesAreSingle}

-- the numbers rise, from the first number on and below the last
abbrev Rises : ℕ → ℕ → List SitePlace → Type 0
Rises lo hi [] = lo ≤ hi
Rises lo hi (q ∷ qs) = (lo ≤ q.number) × Rises (q.number + 1) hi qs

rises_low : (lo lo' hi : ℕ) (ps : List SitePlace) → lo' ≤ lo → Rises lo hi ps → Rises lo' hi ps
rises_low lo lo' hi [] l r = omega (arith, l, r)
rises_low lo lo' hi (q ∷ qs) l r = (let z = r.0 in omega (arith, l, z), r.1)

rises_high : (lo hi hi' : ℕ) (ps : List SitePlace) → hi ≤ hi' → Rises lo hi ps → Rises lo hi' ps
rises_high lo hi hi' [] l r = omega (arith, l, r)
rises_high lo hi hi' (q ∷ qs) l r = (r.0, rises_high (q.number + 1) hi hi' qs l r.1)

rises_both : (lo mid hi : ℕ) (ps qs : List SitePlace) → Rises lo mid ps → Rises mid hi qs → Rises lo hi (ps ++ qs)
rises_both lo mid hi [] qs a b = rises_low mid lo hi qs a b
rises_both lo mid hi (p ∷ ps) qs a b = (a.0, rises_both (p.number + 1) mid hi ps qs a.1 b)

-- within other bounds
rises_in : (lo hi lo' hi' : ℕ) (ps : List SitePlace) → lo' ≤ lo → hi ≤ hi' → Rises lo hi ps → Rises lo' hi' ps
rises_in lo hi lo' hi' ps l h r = rises_low lo lo' hi' ps l (rises_high lo hi hi' ps h r)

above_first : (lo hi n a : ℕ) (ps : List SitePlace) → Rises lo hi ps → is_placed a n ps ≡ true → lo ≤ n
above_first lo hi n a [] r e = absurd (cc)
above_first lo hi n a (q ∷ qs) r e = ⊎_elim
    (λ z. let s = eqb-true q.number n (and_both (q.site == a) (q.number == n) z).1 in let l = r.0 in omega (arith, s, l))
    (λ z. let y = above_first (q.number + 1) hi n a qs r.1 z in let l = r.0 in omega (arith, y, l))
    (or_cases ((q.site == a) && (q.number == n)) (is_placed a n qs) e)

single : (lo hi n a b : ℕ) (ps : List SitePlace) → Rises lo hi ps → is_placed a n ps ≡ true → is_placed b n ps ≡ true → a ≡ b
single lo hi n a b [] r e f = absurd (cc)
single lo hi n a b (q ∷ qs) r e f = ⊎_elim
    (λ x. let s = and_both (q.site == a) (q.number == n) x in ⊎_elim
    (λ y. sym (eqb-true q.site a s.0) ∙ eqb-true q.site b (and_both (q.site == b) (q.number == n) y).0)
    (λ y. let z = above_first (q.number + 1) hi n b qs r.1 y in let t = eqb-true q.number n s.1 in absurd (omega (arith, z, t)))
    (or_cases ((q.site == b) && (q.number == n)) (is_placed b n qs) f))
    (λ x. ⊎_elim
    (λ y. let z = above_first (q.number + 1) hi n a qs r.1 x in let t = eqb-true q.number n (and_both (q.site == b) (q.number == n) y).1 in absurd (omega (arith, z, t)))
    (λ y. single (q.number + 1) hi n a b qs r.1 x y)
    (or_cases ((q.site == b) && (q.number == n)) (is_placed b n qs) f))
    (or_cases ((q.site == a) && (q.number == n)) (is_placed a n qs) e)

none_rises : (n c : ℕ) → Rises n (n + c) []
none_rises n c = omega arith

module _ (p : Program) where
  site_rises : (inside : Bool) (o : Option ClaimSite) (k n : ℕ) → Rises n (n + site_checks inside o) (site_places o k n)
  site_rises true None k n = omega arith
  site_rises false None k n = omega arith
  site_rises true (Some s) k n = (omega arith, omega arith)
  site_rises false (Some s) k n = (omega arith, omega arith)

  right_rises : (inside : Bool) (r : RightSide) (n : ℕ) → Rises n (n + right_checks p inside r) (right_places p r n)
  right_rises inside (Compute e) n = none_rises n (checks e)
  right_rises inside (Malloc ty) n = none_rises n 0
  right_rises inside (NewClaim k) n = site_rises inside (slice_get p.sites.items k) k n
  right_rises inside (Interlocked e f op then') n = none_rises n (right_checks p inside (Interlocked e f op then'))

  simple_rises : (inside : Bool) (s : Simple) (n : ℕ) → Rises n (n + simple_checks p inside s) (simple_places p s n)
  simple_rises inside (Assign t r) n =
      rises_in (n + target_checks t) (n + target_checks t + right_checks p inside r) n (n + simple_checks p inside (Assign t r)) (right_places p r (n + target_checks t)) (omega arith)
      (omega arith) (right_rises inside r (n + target_checks t))
  simple_rises inside (ChangeOwned c e es) n = none_rises n (simple_checks p inside (ChangeOwned c e es))
  simple_rises inside (EndClaim q e es) n = none_rises n (simple_checks p inside (EndClaim q e es))

  mutual
    inner_rises : (a : Inner) (n : ℕ) → Rises n (n + inner_checks p a) (inner_places p a n)
    inner_rises (Inside line s) n = simple_rises true s n
    inner_rises (InsideIf' line e k a q b) n =
        rises_in (n + checks e) (n + checks e + row_checks p a + row_checks p b) n (n + (checks e + row_checks p a + row_checks p b))
        (inner_row_places p a (n + checks e) ++ inner_row_places p b (n + checks e + row_checks p a)) (omega arith) (omega arith)
        (rises_both (n + checks e) (n + checks e + row_checks p a) (n + checks e + row_checks p a + row_checks p b) (inner_row_places p a (n + checks e))
        (inner_row_places p b (n + checks e + row_checks p a)) (inner_row_rises a (n + checks e)) (inner_row_rises b (n + checks e + row_checks p a)))

    inner_row_rises : {k : _} (row : Row_of-Inner k) (n : ℕ) → Rises n (n + row_checks p row) (inner_row_places p row n)
    inner_row_rises end_of-Inner n = none_rises n 0
    inner_row_rises (more_of-Inner a row) n =
        rises_high n (n + inner_checks p a + row_checks p row) (n + (inner_checks p a + row_checks p row)) (inner_places p a n ++ inner_row_places p row (n + inner_checks p a)) (omega arith)
        (rises_both n (n + inner_checks p a) (n + inner_checks p a + row_checks p row) (inner_places p a n) (inner_row_places p row (n + inner_checks p a)) (inner_rises a n)
        (inner_row_rises row (n + inner_checks p a)))

  list_rises : (as_ : List Inner) (n : ℕ) → Rises n (n + list_checks p as_) (inner_list_places p as_ n)
  list_rises [] n = none_rises n 0
  list_rises (a ∷ as_) n =
      rises_high n (n + inner_checks p a + list_checks p as_) (n + (inner_checks p a + list_checks p as_)) (inner_places p a n ++ inner_list_places p as_ (n + inner_checks p a)) (omega arith)
      (rises_both n (n + inner_checks p a) (n + inner_checks p a + list_checks p as_) (inner_places p a n) (inner_list_places p as_ (n + inner_checks p a)) (inner_rises a n)
      (list_rises as_ (n + inner_checks p a)))

  action_rises : (a : Action) (n : ℕ) → Rises n (n + action_checks p a) (action_places p a n)
  action_rises (Simply s) n = simple_rises false s n
  action_rises (Declare j) n = none_rises n 0
  action_rises (Define j r) n = right_rises false r n
  action_rises (WrapObject ty q e) n = none_rises n (checks e + 4)
  action_rises (UnwrapObject e) n = none_rises n (checks e + 3)
  action_rises (AssertSpec e) n = none_rises n 1
  action_rises (FreeObject e) n = none_rises n (checks e + 2)
  action_rises (SpawnThread k es) n = none_rises n (action_checks p (SpawnThread k es))
  action_rises (Atomic ls body) n =
      let m = n + all_checks (listed_exprs ls.items) + length ls.items in
      rises_in m (m + list_checks p body.items) n (n + block_checks p ls.items body.items) (inner_list_places p body.items m) (omega arith) (omega arith) (list_rises body.items m)

  module _ (f : FunctionInfo) where
    mutual
      stmt_rises : (s : Stmt) (n : ℕ) → Rises n (n + stmt_checks p f s) (stmt_places p f s n)
      stmt_rises (Do line a) n = action_rises a n
      stmt_rises (If' line in_ghost e k a q b) n =
          let i = stmt_row_checks p f a in
          let j = stmt_row_checks p f b in
          rises_in (n + checks e) (n + checks e + i + j) n (n + (checks e + i + j)) (stmt_row_places p f a (n + checks e) ++ stmt_row_places p f b (n + checks e + i)) (omega arith) (omega arith)
          (rises_both (n + checks e) (n + checks e + i) (n + checks e + i + j) (stmt_row_places p f a (n + checks e)) (stmt_row_places p f b (n + checks e + i)) (row_rises a (n + checks e))
          (row_rises b (n + checks e + i)))
      stmt_rises (While' line invs e k row) n =
          let m = n + length invs.items + checks e in
          rises_in m (m + stmt_row_checks p f row) n (n + (length invs.items + checks e + stmt_row_checks p f row + length invs.items)) (stmt_row_places p f row m) (omega arith)
          (omega arith) (row_rises row m)
      stmt_rises (DoWhile' line invs k row tested e) n =
          let m = n + length invs.items in
          rises_in m (m + stmt_row_checks p f row) n (n + (length invs.items + stmt_row_checks p f row + checks e + length invs.items)) (stmt_row_places p f row m) (omega arith)
          (omega arith) (row_rises row m)
      stmt_rises (Unwrapping' line ty q e k row) n =
          let m = n + checks e + 3 in
          rises_in m (m + stmt_row_checks p f row) n (n + (checks e + 3 + stmt_row_checks p f row + 4)) (stmt_row_places p f row m) (omega arith) (omega arith) (row_rises row m)
      stmt_rises (Call line to c k es) n = none_rises n (stmt_checks p f (Call line to c k es))
      stmt_rises (Return line e) n = none_rises n (stmt_checks p f (Return line e))

      row_rises : {k : _} (row : Row_of-Stmt k) (n : ℕ) → Rises n (n + stmt_row_checks p f row) (stmt_row_places p f row n)
      row_rises end_of-Stmt n = none_rises n 0
      row_rises (more_of-Stmt s row) n =
          rises_high n (n + stmt_checks p f s + stmt_row_checks p f row) (n + (stmt_checks p f s + stmt_row_checks p f row))
          (stmt_places p f s n ++ stmt_row_places p f row (n + stmt_checks p f s)) (omega arith)
          (rises_both n (n + stmt_checks p f s) (n + stmt_checks p f s + stmt_row_checks p f row) (stmt_places p f s n) (stmt_row_places p f row (n + stmt_checks p f s)) (stmt_rises s n)
          (row_rises row (n + stmt_checks p f s)))

    body_rises : (ss : List Stmt) (n : ℕ) → Rises n (n + body_checks p f ss) (body_places p f ss n)
    body_rises [] n = none_rises n 0
    body_rises (s ∷ ss) n =
        rises_high n (n + stmt_checks p f s + body_checks p f ss) (n + (stmt_checks p f s + body_checks p f ss)) (stmt_places p f s n ++ body_places p f ss (n + stmt_checks p f s)) (omega arith)
        (rises_both n (n + stmt_checks p f s) (n + stmt_checks p f s + body_checks p f ss) (stmt_places p f s n) (body_places p f ss (n + stmt_checks p f s)) (stmt_rises s n)
        (body_rises ss (n + stmt_checks p f s)))

pub sites_are_single : SitesAreSingle
sites_are_single p k number a b = by (slice_get p.functions.items k)
  where
    by : (o : Option FunctionInfo) → is_placed a number (function_places p o) ≡ true → is_placed b number (function_places p o) ≡ true → a ≡ b
    by None e f = absurd (cc)
    by (Some g) e f = single 1 (1 + body_checks p g g.body.items) number a b (body_places p g g.body.items 1) (body_rises p g g.body.items 1) e f
