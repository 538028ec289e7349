-- Each claim site of the table stands in the text of its function: a body makes the claims of its numbers, one after the other.
use Rattle.std.specs.Prelude.{ℕ, zero, suc, ◌+◌, ◌<◌, ◌==◌, Bool, true, false, List, [], ◌∷◌, ◌++◌, Option, Some, None, IsTrue}
use Rattle.std.proofs.Common.{◌≡◌, refl, sym, ap, subst, ◌∙◌, arith}
use Rattle.std.proofs.lemmas.Bool.{true≢false, eq-eqb}
use Rattle.std.proofs.lemmas.Option.{slice_get_within}
use Rattle.std.proofs.lemmas.List.{append-nil, append_assoc}
use Rattle.c_syntax.specs.declared.token.Span.{Span}
use Rattle.c_syntax.specs.Expressions as e
use Rattle.c_syntax.specs.Expressions.{Ty, Exp, Rhs, Effect, Assignment}
use Rattle.c_syntax.specs.Grammar.{first_place}
use Rattle.c_syntax.specs.Ghosts as g
use Rattle.c_syntax.specs.Ghosts.{GhostRhs, OwnsEffect, GStm, GStms}
use Rattle.c_syntax.specs.Statements as st
use Rattle.c_syntax.specs.Statements.{Stm, Stms}
use Rattle.object_types.specs.Sets.{some}
use Rattle.typing_spec.specs.Contexts.{Context, ghost, inside_atomic, inside_unwrapping}
use Rattle.typing_spec.specs.Rules as r
use Rattle.typing_spec.specs.Places.{places_if}
use Rattle.typing_spec.specs.Pieces as pieces
use Rattle.typing_spec.specs.Pieces.{Statement, GhostStatement, expression, expressions, following, behind_ghost, invariants, if_some, assignment, in_function}
use Rattle.typing_spec.specs.TypeLaws.{Quiet}
use Rattle.typing_spec.specs.Contexts as texts
use Rattle.typed_program.specs.Trees as t
use Rattle.typed_program.specs.Trees.{Inners, Stmts, Shape}
use Rattle.typed_program.specs.Shapes.{Sorts}
use Rattle.typed_program.specs.Numbers.{Around}
use Rattle.typed_program.specs.Statements as s
use Rattle.typed_program.specs.Statements.{Counters, plus, plus_formulas, in_claim, in_invariants, append, append_inner, right, changed, updated, assigned_by, maybe_assigned, defined, ghost_right, ghost_assigned, owned_change, ghost_row, ghost_rows, inner_ghost, inner_ghosts, inner_row, inner_rows, row, rows, known_behind, known_behind_ghost}
use Rattle.typed_program.specs.Tables.{around_function, contract_formulas, numbered_action, numbered_statement, numbered_row, sorts_of, function, shapes}
use Rattle.typed_laws.proofs.Basics.{or_first, or_second, no_place}
use Rattle.typed_laws.proofs.Quiet.{quiet_left, quiet_right, quiet_first, quiet_rest}
use Rattle.typed_laws.proofs.Tests.{right_makes, simple_makes, inner_makes, inner_row_makes, action_makes, makes, row_makes, stands}
use Rattle.typed_laws.proofs.TableSites.{statements_sited}
use Rattle.typed_laws.proofs.Entry.{body_quiet}
use Rattle.typed_laws.proofs.SiteTables.{sites_law}
use Rattle.typed_laws.proofs.Goals.{SitesStandLaw}

-- ---- numbers in a row

-- so many numbers, from the first on
abbrev pub numbers : ℕ → ℕ → List ℕ
numbers n zero = []
numbers n (suc k) = n ∷ numbers (suc n) k

numbers_both : (n a b : ℕ) → numbers n a ++ numbers (n + a) b ≡ numbers n (a + b)
numbers_both n zero b = let h : n + 0 ≡ n = omega arith in let k : b ≡ 0 + b = omega arith in λ i. numbers (h i) (k i)
numbers_both n (suc a) b =
    let h : n + suc a ≡ suc n + a = omega arith in
    let k : suc (a + b) ≡ suc a + b = omega arith in
    ap (λ m. n ∷ (numbers (suc n) a ++ numbers m b)) h ∙ (ap (λ zs. n ∷ zs) (numbers_both (suc n) a b) ∙ ap (numbers n) k)

behind_none : (n k : ℕ) → numbers n k ≡ numbers n (0 + k)
behind_none n k = let h : k ≡ 0 + k = omega arith in ap (numbers n) h

among : (n k j : ℕ) → j < k → IsTrue (some (λ i. i == n + j) (numbers n k))
among n zero j h = absurd (omega arith)
among n (suc k) zero h = let e : n ≡ n + 0 = omega arith in or_first (n == n + 0) (some (λ i. i == n + 0) (numbers (suc n) k)) (eq-eqb n (n + 0) e)
among n (suc k) (suc j) h =
    let e : suc n + j ≡ n + suc j = omega arith in
    or_second (n == n + suc j) (some (λ i. i == n + suc j) (numbers (suc n) k)) (subst (λ m. IsTrue (some (λ i. i == m) (numbers (suc n) k))) e (among (suc n) k j (omega arith)))

-- ---- rows

row_append : (xs ys : Stmts) → row_makes (append xs ys) ≡ row_makes xs ++ row_makes ys
row_append t.NoStmt ys = refl
row_append (t.AStmt x xs) ys = ap (λ zs. makes x ++ zs) (row_append xs ys) ∙ sym (append_assoc (makes x) (row_makes xs) (row_makes ys))

inner_append : (xs ys : Inners) → inner_row_makes (append_inner xs ys) ≡ inner_row_makes xs ++ inner_row_makes ys
inner_append t.NoInner ys = refl
inner_append (t.AnInner x xs) ys = ap (λ zs. inner_makes x ++ zs) (inner_append xs ys) ∙ sym (append_assoc (inner_makes x) (inner_row_makes xs) (inner_row_makes ys))

-- what two parts make, one behind the other
two_parts : (xs ys : List ℕ) (n a b : ℕ) → xs ≡ numbers n a → ys ≡ numbers (n + a) b → xs ++ ys ≡ numbers n (a + b)
two_parts xs ys n a b h k = (λ i. h i ++ k i) ∙ numbers_both n a b

behind_nothing : (xs ys zs : List ℕ) → xs ≡ [] → ys ≡ zs → xs ++ ys ≡ zs
behind_nothing xs ys zs h k = λ i. h i ++ k i

alone : (xs ys : List ℕ) → xs ≡ ys → xs ++ [] ≡ ys
alone xs ys h = append-nil xs ∙ h

-- ---- what makes no claim

right_none : (a : Around) (ty : Ty) (y : Rhs) → right_makes (right a ty y) ≡ []
right_none a ty (e.Value x) = refl
right_none a ty (e.Malloc x p y) = refl
right_none a ty (e.Locked x y) = refl
right_none a ty (e.Called x) = refl

changed_none : (a : Around) (x : Exp) (y : Effect) → right_makes (changed a x y) ≡ []
changed_none a x (e.Set y) = right_none a _ y
changed_none a x (e.Add y) = refl
changed_none a x (e.Subtract y) = refl
changed_none a x e.Increment = refl
changed_none a x e.Decrement = refl

assigned_none : (a : Around) (line : ℕ) (x : Exp) (y : Effect) → makes (assigned_by a line x y) ≡ []
assigned_none a line x (e.Set (e.Called y)) = refl
assigned_none a line x (e.Set (e.Value y)) = refl
assigned_none a line x (e.Set (e.Malloc y p z)) = refl
assigned_none a line x (e.Set (e.Locked y z)) = refl
assigned_none a line x (e.Add y) = refl
assigned_none a line x (e.Subtract y) = refl
assigned_none a line x e.Increment = refl
assigned_none a line x e.Decrement = refl

maybe_none : (a : Around) (o : Option Assignment) → row_makes (maybe_assigned a o) ≡ []
maybe_none a None = refl
maybe_none a (Some x) = alone _ [] (assigned_none a (first_place x.left).line x.left x.effect)

defined_none : (a : Around) (line : ℕ) (ty : Ty) (x : e.Id) (y : Rhs) → makes (defined a line ty x y) ≡ []
defined_none a line ty x (e.Called y) = refl
defined_none a line ty x (e.Value y) = refl
defined_none a line ty x (e.Malloc y p z) = refl
defined_none a line ty x (e.Locked y z) = refl

owned_none : (a : Around) (x : Exp) (y : OwnsEffect) → simple_makes (owned_change a x y) ≡ []
owned_none a x (g.Become xs) = refl
owned_none a x (g.Join y) = refl
owned_none a x (g.Leave y) = refl

-- a right side makes the next claim, or none
ghost_right_makes : (a : Around) (n : Counters) (ty : Ty) (y : GhostRhs) → right_makes (ghost_right a n ty y) ≡ numbers n.sites (in_claim y).sites
ghost_right_makes a n ty (g.Value x) = refl
ghost_right_makes a n ty (g.MakeClaim p xs x) = refl

-- ---- ghost statements

mutual
  ghost_makes : (a : Around) (n : Counters) (x : GStm) → row_makes (ghost_row a n x) ≡ numbers n.sites (s.in_ghost x).sites
  ghost_makes a n (g.Block p ss) = ghosts_make a n ss
  ghost_makes a n (g.Declare p ty x None) = refl
  ghost_makes a n (g.Declare p ty x (Some y)) = alone _ _ (ghost_right_makes a n ty y)
  ghost_makes a n (g.Assign p x q y) = alone _ _ (ghost_right_makes a n _ y)
  ghost_makes a n (g.Owns p x q y) = alone _ _ (owned_none a x y)
  ghost_makes a n (g.DestroyClaim p x xs) = refl
  ghost_makes a n (g.Wrap p x) = refl
  ghost_makes a n (g.Unwrap p x) = refl
  ghost_makes a n (g.If p x y) = alone _ _ (alone _ _ (ghost_makes a n y))
  ghost_makes a n (g.IfElse p x y z) = alone _ _ (two_parts _ _ n.sites (s.in_ghost y).sites (s.in_ghost z).sites (ghost_makes a n y) (ghost_makes a (plus n (s.in_ghost y)) z))

  ghosts_make : (a : Around) (n : Counters) (xs : GStms) → row_makes (ghost_rows a n xs) ≡ numbers n.sites (s.in_ghosts xs).sites
  ghosts_make a n g.Empty = refl
  ghosts_make a n (g.More x xs) =
      let b = known_behind_ghost a x in
      let m = plus n (s.in_ghost x) in
      row_append (ghost_row a n x) (ghost_rows b m xs) ∙ two_parts _ _ n.sites (s.in_ghost x).sites (s.in_ghosts xs).sites (ghost_makes a n x) (ghosts_make b m xs)

-- what no atomic block holds isn't there
pub not_inside : {A : Type 0} (b : Bool) → b ≡ true → (p : Span) → places_if b (p ∷ []) ≡ [] → A
not_inside true h p k = absurd (no_place p (places_if true []) k)
not_inside false h p k = absurd (true≢false (sym h))

pub behind_inside : (c : Context) (x : GStm) → (behind_ghost c x).in_atomic ≡ c.in_atomic
behind_inside c (g.Declare p ty x y) = refl
behind_inside c _ = refl

pub statement_inside : (c : Context) (x : Stm) → (following c x).in_atomic ≡ c.in_atomic
statement_inside c (st.Declare p ty x y) = refl
statement_inside c (st.Ghost p x) = behind_inside c x
statement_inside c _ = refl

mutual
  inner_ghost_makes : (a : Around) (n : Counters) (c : Context) → c.in_atomic ≡ true → (x : GStm) → Quiet (GhostStatement c x ∷ pieces.in_ghost c x) → inner_row_makes (inner_ghost a n x) ≡ numbers n.sites (s.in_ghost x).sites
  inner_ghost_makes a n c i (g.Block p ss) q = inner_ghosts_make a n c i ss (quiet_rest (GhostStatement c (g.Block p ss)) (pieces.in_ghosts c ss) q)
  inner_ghost_makes a n c i (g.Declare p ty x y) q = not_inside c.in_atomic i p (quiet_first (GhostStatement c (g.Declare p ty x y)) _ q r.InAtomic)
  inner_ghost_makes a n c i (g.Assign p x pq y) q = alone _ _ (ghost_right_makes a n _ y)
  inner_ghost_makes a n c i (g.Owns p x pq y) q = alone _ _ (owned_none a x y)
  inner_ghost_makes a n c i (g.DestroyClaim p x xs) q = refl
  inner_ghost_makes a n c i (g.Wrap p x) q = refl
  inner_ghost_makes a n c i (g.Unwrap p x) q = refl
  inner_ghost_makes a n c i (g.If p x y) q =
      let own = GhostStatement c y ∷ pieces.in_ghost c y in
      alone _ _ (alone _ _ (inner_ghost_makes a n c i y (quiet_right (expression c x) own (quiet_rest (GhostStatement c (g.If p x y)) (expression c x ++ own) q))))
  inner_ghost_makes a n c i (g.IfElse p x y z) q =
      let first = GhostStatement c y ∷ pieces.in_ghost c y in
      let second = GhostStatement c z ∷ pieces.in_ghost c z in
      let both = quiet_right (expression c x) (first ++ second) (quiet_rest (GhostStatement c (g.IfElse p x y z)) (expression c x ++ (first ++ second)) q) in
      alone _ _ (two_parts _ _ n.sites (s.in_ghost y).sites (s.in_ghost z).sites (inner_ghost_makes a n c i y (quiet_left first second both)) (inner_ghost_makes a (plus n (s.in_ghost y)) c i z (quiet_right first second both)))

  inner_ghosts_make : (a : Around) (n : Counters) (c : Context) → c.in_atomic ≡ true → (xs : GStms) → Quiet (pieces.in_ghosts c xs) → inner_row_makes (inner_ghosts a n xs) ≡ numbers n.sites (s.in_ghosts xs).sites
  inner_ghosts_make a n c i g.Empty q = refl
  inner_ghosts_make a n c i (g.More x xs) q =
      let b = known_behind_ghost a x in
      let m = plus n (s.in_ghost x) in
      let first = GhostStatement c x ∷ pieces.in_ghost c x in
      let rest = pieces.in_ghosts (behind_ghost c x) xs in
      inner_append (inner_ghost a n x) (inner_ghosts b m xs)
      ∙ two_parts _ _ n.sites (s.in_ghost x).sites (s.in_ghosts xs).sites (inner_ghost_makes a n c i x (quiet_left first rest q)) (inner_ghosts_make b m (behind_ghost c x) (behind_inside c x ∙ i) xs (quiet_right first rest q))

-- ---- statements

mutual
  inner_makes_all : (a : Around) (n : Counters) (c : Context) → c.in_atomic ≡ true → (x : Stm) → Quiet (Statement c x ∷ pieces.in_statement c x) → inner_row_makes (inner_row a n x) ≡ numbers n.sites (s.in_statement x).sites
  inner_makes_all a n c i (st.Block p ss pe) q = inner_rows_make a n c i ss (quiet_rest (Statement c (st.Block p ss pe)) (pieces.in_statements c ss) q)
  inner_makes_all a n c i (st.Assign p x) q = alone _ _ (changed_none a x.left x.effect)
  inner_makes_all a n c i (st.Ghost p x) q = inner_ghost_makes a n (ghost c) i x (quiet_rest (Statement c (st.Ghost p x)) (GhostStatement (ghost c) x ∷ pieces.in_ghost (ghost c) x) q)
  inner_makes_all a n c i (st.If p x y) q = not_inside c.in_atomic i p (quiet_first (Statement c (st.If p x y)) _ q r.InAtomic)
  inner_makes_all a n c i (st.IfElse p x y z) q = not_inside c.in_atomic i p (quiet_first (Statement c (st.IfElse p x y z)) _ q r.InAtomic)
  inner_makes_all a n c i (st.While p x is y) q = not_inside c.in_atomic i p (quiet_first (Statement c (st.While p x is y)) _ q r.InAtomic)
  inner_makes_all a n c i (st.Do p is y pe x) q = not_inside c.in_atomic i p (quiet_first (Statement c (st.Do p is y pe x)) _ q r.InAtomic)
  inner_makes_all a n c i (st.For p l x m is y) q = not_inside c.in_atomic i p (quiet_first (Statement c (st.For p l x m is y)) _ q r.InAtomic)
  inner_makes_all a n c i (st.Unwrapping p x ss pe) q = not_inside c.in_atomic i p (quiet_first (Statement c (st.Unwrapping p x ss pe)) _ q r.InAtomic)
  inner_makes_all a n c i (st.Atomic p xs ss pe) q = not_inside c.in_atomic i p (quiet_first (Statement c (st.Atomic p xs ss pe)) _ q r.InAtomic)
  inner_makes_all a n c i _ q = refl

  inner_rows_make : (a : Around) (n : Counters) (c : Context) → c.in_atomic ≡ true → (xs : Stms) → Quiet (pieces.in_statements c xs) → inner_row_makes (inner_rows a n xs) ≡ numbers n.sites (s.in_statements xs).sites
  inner_rows_make a n c i st.Empty q = refl
  inner_rows_make a n c i (st.More x xs) q =
      let b = known_behind a x in
      let m = plus n (s.in_statement x) in
      let first = Statement c x ∷ pieces.in_statement c x in
      let rest = pieces.in_statements (following c x) xs in
      inner_append (inner_row a n x) (inner_rows b m xs)
      ∙ two_parts _ _ n.sites (s.in_statement x).sites (s.in_statements xs).sites (inner_makes_all a n c i x (quiet_left first rest q)) (inner_rows_make b m (following c x) (statement_inside c x ∙ i) xs (quiet_right first rest q))

mutual
  statement_makes : (a : Around) (n : Counters) (c : Context) (x : Stm) → Quiet (pieces.in_statement c x) → row_makes (row a n x) ≡ numbers n.sites (s.in_statement x).sites
  statement_makes a n c (st.Block p ss pe) q = statements_make a n c ss q
  statement_makes a n c (st.Declare p ty x None) q = refl
  statement_makes a n c (st.Declare p ty x (Some y)) q = alone _ _ (defined_none a p.line ty x y)
  statement_makes a n c (st.Assign p x) q = alone _ _ (assigned_none a p.line x.left x.effect)
  statement_makes a n c (st.If p x y) q = let own = Statement c y ∷ pieces.in_statement c y in alone _ _ (alone _ _ (statement_makes a n c y (quiet_rest (Statement c y) (pieces.in_statement c y) (quiet_right (expression c x) own q))))
  statement_makes a n c (st.IfElse p x y z) q =
      let first = Statement c y ∷ pieces.in_statement c y in
      let second = Statement c z ∷ pieces.in_statement c z in
      let both = quiet_right (expression c x) (first ++ second) q in
      alone _ _ (two_parts _ _ n.sites (s.in_statement y).sites (s.in_statement z).sites (statement_makes a n c y (quiet_rest (Statement c y) (pieces.in_statement c y) (quiet_left first second both)))
      (statement_makes a (plus n (s.in_statement y)) c z (quiet_rest (Statement c z) (pieces.in_statement c z) (quiet_right first second both))))
  statement_makes a n c (st.While p x is y) q =
      let own = Statement c y ∷ pieces.in_statement c y in
      let said = invariants texts.LoopInvariant c is in
      alone _ _ (statement_makes a (plus_formulas n (in_invariants is)) c y (quiet_rest (Statement c y) (pieces.in_statement c y) (quiet_right said own (quiet_right (expression c x) (said ++ own) q)))) ∙ behind_none n.sites (s.in_statement y).sites
  statement_makes a n c (st.Do p is y pe x) q =
      let own = Statement c y ∷ pieces.in_statement c y in
      let said = invariants texts.LoopInvariant c is in
      alone _ _ (statement_makes a (plus_formulas n (in_invariants is)) c y (quiet_rest (Statement c y) (pieces.in_statement c y) (quiet_left own (expression c x) (quiet_right said (own ++ expression c x) q)))) ∙ behind_none n.sites (s.in_statement y).sites
  statement_makes a n c (st.For p l x m is y) q =
      let own = Statement c y ∷ pieces.in_statement c y in
      let said = invariants texts.LoopInvariant c is in
      let start = if_some (assignment c) l in
      let step = if_some (assignment c) m in
      let body = statement_makes a (plus_formulas n (in_invariants is)) c y (quiet_rest (Statement c y) (pieces.in_statement c y) (quiet_right said own (quiet_right step (said ++ own) (quiet_right (expression c x) (step ++ (said ++ own)) (quiet_right start (expression c x ++ (step ++ (said ++ own))) q))))) in
      let looped = row_append (row a (plus_formulas n (in_invariants is)) y) (maybe_assigned a m) ∙ (ap (λ zs. row_makes (row a (plus_formulas n (in_invariants is)) y) ++ zs) (maybe_none a m) ∙ alone _ _ body) in
      row_append (maybe_assigned a l) _ ∙ behind_nothing _ _ _ (maybe_none a l) (alone _ _ looped ∙ behind_none n.sites (s.in_statement y).sites)
  statement_makes a n c (st.Ghost p x) q = ghost_makes a n x
  statement_makes a n c (st.Unwrapping p x ss pe) q =
      alone _ _ (statements_make a (plus_formulas n 1) (inside_unwrapping c) ss (quiet_right (expression (ghost c) x) (pieces.in_statements (inside_unwrapping c) ss) q)) ∙ behind_none n.sites (s.in_statements ss).sites
  statement_makes a n c (st.Atomic p xs ss pe) q = alone _ _ (inner_rows_make a n (inside_atomic c) refl ss (quiet_right (expressions (ghost c) xs) (pieces.in_statements (inside_atomic c) ss) q))
  statement_makes a n c _ q = refl

  statements_make : (a : Around) (n : Counters) (c : Context) (xs : Stms) → Quiet (pieces.in_statements c xs) → row_makes (rows a n xs) ≡ numbers n.sites (s.in_statements xs).sites
  statements_make a n c st.Empty q = refl
  statements_make a n c (st.More x xs) q =
      let b = known_behind a x in
      let m = plus n (s.in_statement x) in
      let first = Statement c x ∷ pieces.in_statement c x in
      let rest = pieces.in_statements (following c x) xs in
      row_append (row a n x) (rows b m xs)
      ∙ two_parts _ _ n.sites (s.in_statement x).sites (s.in_statements xs).sites (statement_makes a n c x (quiet_rest (Statement c x) (pieces.in_statement c x) (quiet_left first rest q))) (statements_make b m (following c x) xs (quiet_right first rest q))

-- ---- numbers of shapes

action_numbered : (l : List Shape) (z : Sorts) (x : t.Action) → action_makes (numbered_action l z x) ≡ action_makes x
action_numbered l z (t.AssertSpec x) = refl
action_numbered l z _ = refl

mutual
  statement_numbered : (l : List Shape) (z : Sorts) (x : t.Stmt) → makes (numbered_statement l z x) ≡ makes x
  statement_numbered l z (t.Do line x) = action_numbered l z x
  statement_numbered l z (t.If line in_ghost x a b) = λ i. row_numbered l z a i ++ row_numbered l z b i
  statement_numbered l z (t.While line is x a) = row_numbered l z a
  statement_numbered l z (t.DoWhile line is a tested x) = row_numbered l z a
  statement_numbered l z (t.Unwrapping line ty q x a) = row_numbered l z a
  statement_numbered l z _ = refl

  row_numbered : (l : List Shape) (z : Sorts) (x : Stmts) → row_makes (numbered_row l z x) ≡ row_makes x
  row_numbered l z t.NoStmt = refl
  row_numbered l z (t.AStmt x xs) = λ i. statement_numbered l z x i ++ row_numbered l z xs i

-- ---- the table

pub sites_stand_law : SitesStandLaw
sites_stand_law items end typed n site e =
    let of = sites_law items end typed n site e in
    let fo = of.function_of in
    let h = fo.tree in
    let a = around_function items h in
    let b = plus_formulas fo.before (contract_formulas h.contract) in
    let many = (s.in_statements h.body.all).sites in
    let all : row_makes of.info.body ≡ numbers fo.before.sites many =
    ap (λ z. row_makes z.body) fo.is ∙ (row_numbered (shapes items) (sorts_of (function items fo.before h)) (rows a b h.body.all) ∙ statements_make a b (in_function items h) h.body.all (body_quiet items end typed h fo.in_items)) in
    let there : of.index < many = omega (arith, slice_get_within _ of.index of.made of.at_index, (statements_sited a site.function h.body.all).0) in
    subst (λ o. IsTrue (stands o n)) (sym of.at_number)
    (subst (λ zs. IsTrue (some (λ k. k == n) zs)) (sym all) (subst (λ m. IsTrue (some (λ k. k == m) (numbers fo.before.sites many))) (sym of.number_is) (among fo.before.sites many of.index there)))
