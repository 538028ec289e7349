-- Rows of statements that are apart: put together, of ghost statements, and with numbered shapes.
use Rattle.std.specs.Prelude.{ℕ, ◌+◌, ◌≤◌, Bool, true, false, ◌&&◌, if◌then◌else◌, List, IsTrue}
use Rattle.std.proofs.Common.{◌≡◌, refl, sym, subst, arith}
use Rattle.typed_program.specs.Trees as t
use Rattle.typed_program.specs.Trees.{Inner, Inners, Action, Simple, Right, Target, Stmt, Stmts, Shape, FunctionInfo, Program}
use Rattle.typed_program.specs.Shapes.{Sorts}
use Rattle.typed_program.specs.Statements.{append, append_inner}
use Rattle.typed_program.specs.Tables.{numbered_action, numbered_statement, numbered_row}
use Rattle.typed_laws.proofs.Basics.{and_both, and_left, and_right, never}
use Rattle.apart_law.proofs.ApartTests.{is_ghost_target, concrete, concrete_place, concrete_right, ghost_right, simple_apart, ghost_simple, ghost_inner, ghost_inners, inner_apart, inners_apart, concrete_statements, action_apart, ghost_action, ghost_stmt, ghost_stmts, stmt_apart, stmts_apart}

module _ (p : Program) (f : FunctionInfo) where
  -- ---- put together

  pub ghosts_append : (xs ys : Stmts) → IsTrue (ghost_stmts p f xs) → IsTrue (ghost_stmts p f ys) → IsTrue (ghost_stmts p f (append xs ys))
  ghosts_append t.NoStmt ys h k = k
  ghosts_append (t.AStmt x xs) ys h k =
      let one = ghost_stmt p f x in
      let more = ghost_stmts p f xs in
      and_both one _ (and_left one more h) (ghosts_append xs ys (and_right one more h) k)

  pub row_append : (xs ys : Stmts) → IsTrue (stmts_apart p f xs) → IsTrue (stmts_apart p f ys) → IsTrue (stmts_apart p f (append xs ys))
  row_append t.NoStmt ys h k = k
  row_append (t.AStmt x xs) ys h k =
      let one = stmt_apart p f x in
      let more = stmts_apart p f xs in
      and_both one _ (and_left one more h) (row_append xs ys (and_right one more h) k)

  pub ghost_inners_append : (xs ys : Inners) → IsTrue (ghost_inners p f xs) → IsTrue (ghost_inners p f ys) → IsTrue (ghost_inners p f (append_inner xs ys))
  ghost_inners_append t.NoInner ys h k = k
  ghost_inners_append (t.AnInner x xs) ys h k =
      let one = ghost_inner p f x in
      let more = ghost_inners p f xs in
      and_both one _ (and_left one more h) (ghost_inners_append xs ys (and_right one more h) k)

  inners_append : (xs ys : Inners) → IsTrue (inners_apart p f xs) → IsTrue (inners_apart p f ys) → IsTrue (inners_apart p f (append_inner xs ys))
  inners_append t.NoInner ys h k = k
  inners_append (t.AnInner x xs) ys h k =
      let one = inner_apart p f x in
      let more = inners_apart p f xs in
      and_both one _ (and_left one more h) (inners_append xs ys (and_right one more h) k)

  count_append : (xs ys : Inners) → concrete_statements p f (append_inner xs ys) ≡ concrete_statements p f xs + concrete_statements p f ys
  count_append t.NoInner ys = let e : concrete_statements p f ys ≡ 0 + concrete_statements p f ys = omega arith in e
  count_append (t.AnInner x xs) ys =
      let k : ℕ = if ghost_inner p f x then 0 else 1 in
      let e : k + concrete_statements p f (append_inner xs ys) ≡ (k + concrete_statements p f xs) + concrete_statements p f ys = omega (arith, count_append xs ys) in
      e

  -- ---- ghost statements are apart

  simple_of_ghost : (x : Simple) → IsTrue (ghost_simple p f x) → IsTrue (simple_apart p f x)
  simple_of_ghost (t.Assign x r) h =
      let g = is_ghost_target p f x in
      let r_ghost = ghost_right p f r in
      subst (λ b. IsTrue (if b then r_ghost else concrete_place p f x && concrete_right p f r)) (sym (and_left g r_ghost h)) (and_right g r_ghost h)
  simple_of_ghost (t.ChangeOwned c x xs) h = refl
  simple_of_ghost (t.EndClaim q x xs) h = refl

  action_of_ghost : (x : Action) → IsTrue (ghost_action p f x) → IsTrue (action_apart p f x)
  action_of_ghost (t.Simply x) h = simple_of_ghost x h
  action_of_ghost (t.Declare i) h = refl
  action_of_ghost (t.Define i r) h = simple_of_ghost (t.Assign (t.Local i) r) h
  action_of_ghost (t.WrapObject ty q x) h = refl
  action_of_ghost (t.UnwrapObject x) h = refl
  action_of_ghost (t.AssertSpec x) h = refl
  action_of_ghost (t.FreeObject x) h = never h
  action_of_ghost (t.SpawnThread k xs) h = never h
  action_of_ghost (t.Atomic xs body) h = never h

  stmt_of_ghost : (x : Stmt) → IsTrue (ghost_stmt p f x) → IsTrue (stmt_apart p f x)
  stmt_of_ghost (t.Do line x) h = action_of_ghost x h
  stmt_of_ghost (t.If line in_ghost x a b) h =
      let rows = ghost_stmts p f a && ghost_stmts p f b in
      subst (λ g. IsTrue (if g then rows else concrete p f x && (stmts_apart p f a && stmts_apart p f b))) (sym (and_left in_ghost rows h)) (and_right in_ghost rows h)
  stmt_of_ghost (t.While line invs x row) h = never h
  stmt_of_ghost (t.DoWhile line invs row tested x) h = never h
  stmt_of_ghost (t.Unwrapping line ty q x row) h = never h
  stmt_of_ghost (t.Call line to v k xs) h = never h
  stmt_of_ghost (t.Return line x) h = never h

  pub row_of_ghosts : (xs : Stmts) → IsTrue (ghost_stmts p f xs) → IsTrue (stmts_apart p f xs)
  row_of_ghosts t.NoStmt h = refl
  row_of_ghosts (t.AStmt x xs) h =
      let one = ghost_stmt p f x in
      let more = ghost_stmts p f xs in
      and_both _ _ (stmt_of_ghost x (and_left one more h)) (row_of_ghosts xs (and_right one more h))

  inner_of_ghost : (x : Inner) → IsTrue (ghost_inner p f x) → IsTrue (inner_apart p f x)
  inner_of_ghost (t.Inside line x) h = simple_of_ghost x h
  inner_of_ghost (t.InsideIf line x a b) h = h

  -- ---- rows of atomic blocks

  -- the row is apart, and has no more statements of code than so many
  pub record Few (n : ℕ) (xs : Inners) : Type 0 where
    pub apart : IsTrue (inners_apart p f xs)
    pub few : concrete_statements p f xs ≤ n

  pub few_none : (n : ℕ) → Few n t.NoInner
  few_none n = record { apart = refl; few = omega arith }

  pub few_both : (m n : ℕ) (xs ys : Inners) → Few m xs → Few n ys → Few (m + n) (append_inner xs ys)
  few_both m n xs ys h k = record { apart = inners_append xs ys h.apart k.apart; few = omega (arith, count_append xs ys, h.few, k.few) }

  at_most_one : (b : Bool) → (if b then 0 else 1) + 0 ≤ 1
  at_most_one true = omega arith
  at_most_one false = omega arith

  pub few_one : (line : ℕ) (x : Simple) → IsTrue (simple_apart p f x) → Few 1 (t.AnInner (t.Inside line x) t.NoInner)
  few_one line x h = record { apart = and_both (simple_apart p f x) true h refl; few = at_most_one (ghost_simple p f x) }

  none_counted : (xs : Inners) → IsTrue (ghost_inners p f xs) → concrete_statements p f xs ≡ 0
  none_counted t.NoInner h = refl
  none_counted (t.AnInner x xs) h =
      let one = ghost_inner p f x in
      let more = ghost_inners p f xs in
      λ i. (if and_left one more h i then 0 else 1) + none_counted xs (and_right one more h) i

  inners_of_ghosts : (xs : Inners) → IsTrue (ghost_inners p f xs) → IsTrue (inners_apart p f xs)
  inners_of_ghosts t.NoInner h = refl
  inners_of_ghosts (t.AnInner x xs) h =
      let one = ghost_inner p f x in
      let more = ghost_inners p f xs in
      and_both _ _ (inner_of_ghost x (and_left one more h)) (inners_of_ghosts xs (and_right one more h))

  pub few_ghosts : (xs : Inners) → IsTrue (ghost_inners p f xs) → Few 0 xs
  few_ghosts xs h = record { apart = inners_of_ghosts xs h; few = omega (arith, none_counted xs h) }

  -- ---- numbers of shapes

  module _ (l : List Shape) (s : Sorts) where
    action_same : (x : Action) → action_apart p f (numbered_action l s x) ≡ action_apart p f x
    action_same (t.AssertSpec x) = refl
    action_same _ = refl

    ghost_action_same : (x : Action) → ghost_action p f (numbered_action l s x) ≡ ghost_action p f x
    ghost_action_same (t.AssertSpec x) = refl
    ghost_action_same _ = refl

    mutual
      ghost_same : (x : Stmt) → ghost_stmt p f (numbered_statement l s x) ≡ ghost_stmt p f x
      ghost_same (t.Do line x) = ghost_action_same x
      ghost_same (t.If line in_ghost x a b) = λ i. in_ghost && (ghosts_same a i && ghosts_same b i)
      ghost_same (t.While line is x a) = refl
      ghost_same (t.DoWhile line is a tested x) = refl
      ghost_same (t.Unwrapping line ty q x a) = refl
      ghost_same _ = refl

      ghosts_same : (xs : Stmts) → ghost_stmts p f (numbered_row l s xs) ≡ ghost_stmts p f xs
      ghosts_same t.NoStmt = refl
      ghosts_same (t.AStmt x xs) = λ i. ghost_same x i && ghosts_same xs i

    mutual
      statement_same : (x : Stmt) → stmt_apart p f (numbered_statement l s x) ≡ stmt_apart p f x
      statement_same (t.Do line x) = action_same x
      statement_same (t.If line in_ghost x a b) = λ i. if in_ghost then ghosts_same a i && ghosts_same b i else concrete p f x && (row_same a i && row_same b i)
      statement_same (t.While line is x a) = λ i. concrete p f x && row_same a i
      statement_same (t.DoWhile line is a tested x) = λ i. row_same a i && concrete p f x
      statement_same (t.Unwrapping line ty q x a) = row_same a
      statement_same _ = refl

      pub row_same : (xs : Stmts) → stmts_apart p f (numbered_row l s xs) ≡ stmts_apart p f xs
      row_same t.NoStmt = refl
      row_same (t.AStmt x xs) = λ i. statement_same x i && row_same xs i
