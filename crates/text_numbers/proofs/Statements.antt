-- The quantified formulas of statements: those in the text have numbers from one counter on, those of ends of claims from another.
use Rattle.std.specs.Prelude.{ℕ, Bool, true, false, List, [], ◌∷◌, ◌++◌, length, Option, Some, None}
use Rattle.std.proofs.Common.{◌≡◌, refl, sym, ap, subst, ◌∙◌, append_assoc, append-nil}
use Rattle.c_syntax.specs.Expressions as e
use Rattle.c_syntax.specs.Expressions.{Ty, Exp, Id, Rhs, Effect, Assignment}
use Rattle.c_syntax.specs.Grammar.{first_place}
use Rattle.c_syntax.specs.Ghosts as g
use Rattle.c_syntax.specs.Ghosts.{OwnsEffect, GStm, GStms}
use Rattle.c_syntax.specs.Statements as st
use Rattle.c_syntax.specs.Statements.{Inv, Stm, Stms}
use Rattle.method.specs.declared.program.Program.{Program}
use Rattle.method.specs.Tables.{has_fixed_owns}
use Rattle.conditions.specs.Annotations.{Scene}
use Rattle.conditions.specs.Quantified.{QuantifiedFormula, members_quantified, listed_quantified}
use Rattle.typed_program.specs.Trees as t
use Rattle.typed_program.specs.Trees.{Stmts, NoStmt, AStmt, Inners, NoInner, AnInner, Shape}
use Rattle.typed_program.specs.Numbers.{Around, struct_at}
use Rattle.typed_program.specs.Shapes.{Sorts}
use Rattle.typed_program.specs.Codes.{codes}
use Rattle.typed_program.specs.Statements.{Counters, plus, plus_formulas, some_formulas, in_ghost, in_ghosts, in_invariants, in_statement, in_statements, one, append, append_inner, assigned_by, maybe_assigned, defined, owned_change, known_behind_ghost, ghost_row, ghost_rows, inner_ghost, inner_ghosts, known_behind, inner_row, inner_rows, invariants, row, rows}
use Rattle.typed_program.specs.Tables.{numbered_statement, numbered_row}
use Rattle.text_numbers.proofs.Bodies.{of_simple, of_inners, of_inner, of_stmt, of_stmts}
use Rattle.text_numbers.proofs.Ranges.{alone, behind, Spans, empty, behind_spans, in_text, an_end, join_spans, text_first}
use Rattle.text_numbers.proofs.Expressions.{spec_within}
use Rattle.text_numbers.proofs.Clauses.{loop_within}

members_number : (fixed : Bool) (n w : ℕ) → (members_quantified fixed n w).number ≡ n
members_number true n w = refl
members_number false n w = refl

-- ---- atomic blocks

inners_append : (xs ys : Inners) → of_inners (append_inner xs ys) ≡ of_inners xs ++ of_inners ys
inners_append NoInner ys = refl
inners_append (AnInner x xs) ys = ap (λ (z : List QuantifiedFormula). of_inner x ++ z) (inners_append xs ys) ∙ sym (append_assoc (of_inner x) (of_inners xs) (of_inners ys))

change_spans : (a : Around) (n c : Counters) (x : Exp) (y : OwnsEffect) → Spans n c (of_simple (owned_change a x y))
change_spans a n c x (g.Become xs) = empty n c
change_spans a n c x (g.Join y) = empty n c
change_spans a n c x (g.Leave y) = empty n c

mutual
  inner_ghost_spans : (a : Around) (n : Counters) (x : GStm) → Spans n (in_ghost x) (of_inners (inner_ghost a n x))
  inner_ghost_spans a n (g.Block p ss) = inner_ghosts_spans a n ss
  inner_ghost_spans a n (g.Declare p ty x r) = empty n (in_ghost (g.Declare p ty x r))
  inner_ghost_spans a n (g.Assign p x q r) = empty n (in_ghost (g.Assign p x q r))
  inner_ghost_spans a n (g.Owns p x q y) = behind_spans (change_spans a n (in_ghost (g.Owns p x q y)) x y)
  inner_ghost_spans a n (g.DestroyClaim p x xs) = an_end (listed_quantified n.ended (length (codes a xs))) n refl
  inner_ghost_spans a n (g.Wrap p x) = empty n (some_formulas 1)
  inner_ghost_spans a n (g.Unwrap p x) = empty n (in_ghost (g.Unwrap p x))
  inner_ghost_spans a n (g.If p x u) = behind_spans (behind_spans (inner_ghost_spans a n u))
  inner_ghost_spans a n (g.IfElse p x u v) = behind_spans (join_spans (inner_ghost_spans a n u) (inner_ghost_spans a (plus n (in_ghost u)) v))

  inner_ghosts_spans : (a : Around) (n : Counters) (xs : GStms) → Spans n (in_ghosts xs) (of_inners (inner_ghosts a n xs))
  inner_ghosts_spans a n g.Empty = empty n (in_ghosts g.Empty)
  inner_ghosts_spans a n (g.More x xs) =
      let b = known_behind_ghost a x in
      let m = plus n (in_ghost x) in
      subst (λ qs. Spans n (plus (in_ghost x) (in_ghosts xs)) qs) (sym (inners_append (inner_ghost a n x) (inner_ghosts b m xs))) (join_spans (inner_ghost_spans a n x) (inner_ghosts_spans b m xs))

mutual
  inner_spans : (a : Around) (n : Counters) (x : Stm) → Spans n (in_statement x) (of_inners (inner_row a n x))
  inner_spans a n (st.Block p ss q) = inners_spans a n ss
  inner_spans a n (st.Assign p x) = empty n (in_statement (st.Assign p x))
  inner_spans a n (st.Ghost p x) = inner_ghost_spans a n x
  inner_spans a n x = empty n (in_statement x)

  inners_spans : (a : Around) (n : Counters) (xs : Stms) → Spans n (in_statements xs) (of_inners (inner_rows a n xs))
  inners_spans a n st.Empty = empty n (in_statements st.Empty)
  inners_spans a n (st.More x xs) =
      let b = known_behind a x in
      let m = plus n (in_statement x) in
      subst (λ qs. Spans n (plus (in_statement x) (in_statements xs)) qs) (sym (inners_append (inner_row a n x) (inner_rows b m xs))) (join_spans (inner_spans a n x) (inners_spans b m xs))

-- ---- rows of statements, with shapes numbered

module _ (p : Program) (l : List Shape) (s : Sorts) (w : ℕ) (y : Scene) where
  abbrev pub of_rows : Stmts → List QuantifiedFormula
  of_rows xs = of_stmts p w y (numbered_row l s xs)

  rows_append : (xs ys : Stmts) → of_rows (append xs ys) ≡ of_rows xs ++ of_rows ys
  rows_append NoStmt ys = refl
  rows_append (AStmt x xs) ys =
      let own = of_stmt p w y (numbered_statement l s x) in
      ap (λ (z : List QuantifiedFormula). own ++ z) (rows_append xs ys) ∙ sym (append_assoc own (of_rows xs) (of_rows ys))

  wrap_spans : (n : Counters) (ty : ℕ) → Spans n (some_formulas 1) (members_quantified (has_fixed_owns p ty) n.formulas w ∷ [])
  wrap_spans n ty = in_text (alone (members_quantified (has_fixed_owns p ty) n.formulas w) n.formulas (members_number (has_fixed_owns p ty) n.formulas w))

  assigned_none : (a : Around) (line : ℕ) (x : Exp) (z : Effect) → of_rows (one (assigned_by a line x z)) ≡ []
  assigned_none a line x (e.Set (e.Called z)) = refl
  assigned_none a line x (e.Set (e.Value z)) = refl
  assigned_none a line x (e.Set (e.Malloc z q v)) = refl
  assigned_none a line x (e.Set (e.Locked z v)) = refl
  assigned_none a line x (e.Add z) = refl
  assigned_none a line x (e.Subtract z) = refl
  assigned_none a line x e.Increment = refl
  assigned_none a line x e.Decrement = refl

  maybe_none : (a : Around) (o : Option Assignment) → of_rows (maybe_assigned a o) ≡ []
  maybe_none a None = refl
  maybe_none a (Some x) = assigned_none a (first_place x.left).line x.left x.effect

  defined_none : (a : Around) (line : ℕ) (ty : Ty) (x : Id) (z : Rhs) → of_rows (one (defined a line ty x z)) ≡ []
  defined_none a line ty x (e.Called z) = refl
  defined_none a line ty x (e.Value z) = refl
  defined_none a line ty x (e.Malloc z q v) = refl
  defined_none a line ty x (e.Locked z v) = refl

  none_spans : (n c : Counters) (xs : Stmts) → of_rows xs ≡ [] → Spans n c (of_rows xs)
  none_spans n c xs h = subst (λ qs. Spans n c qs) (sym h) (empty n c)

  mutual
    ghost_spans : (a : Around) (n : Counters) (x : GStm) → Spans n (in_ghost x) (of_rows (ghost_row a n x))
    ghost_spans a n (g.Block p' ss) = ghosts_spans a n ss
    ghost_spans a n (g.Declare p' ty x None) = empty n (in_ghost (g.Declare p' ty x None))
    ghost_spans a n (g.Declare p' ty x (Some r)) = empty n (in_ghost (g.Declare p' ty x (Some r)))
    ghost_spans a n (g.Assign p' x q r) = empty n (in_ghost (g.Assign p' x q r))
    ghost_spans a n (g.Owns p' x q z) = behind_spans (change_spans a n (in_ghost (g.Owns p' x q z)) x z)
    ghost_spans a n (g.DestroyClaim p' x xs) = an_end (listed_quantified n.ended (length (codes a xs))) n refl
    ghost_spans a n (g.Wrap p' x) = wrap_spans n (struct_at a x)
    ghost_spans a n (g.Unwrap p' x) = empty n (in_ghost (g.Unwrap p' x))
    ghost_spans a n (g.If p' x u) = behind_spans (behind_spans (ghost_spans a n u))
    ghost_spans a n (g.IfElse p' x u v) = behind_spans (join_spans (ghost_spans a n u) (ghost_spans a (plus n (in_ghost u)) v))

    ghosts_spans : (a : Around) (n : Counters) (xs : GStms) → Spans n (in_ghosts xs) (of_rows (ghost_rows a n xs))
    ghosts_spans a n g.Empty = empty n (in_ghosts g.Empty)
    ghosts_spans a n (g.More x xs) =
        let b = known_behind_ghost a x in
        let m = plus n (in_ghost x) in
        subst (λ qs. Spans n (plus (in_ghost x) (in_ghosts xs)) qs) (sym (rows_append (ghost_row a n x) (ghost_rows b m xs))) (join_spans (ghost_spans a n x) (ghosts_spans b m xs))

  mutual
    statement_spans : (a : Around) (n : Counters) (x : Stm) → Spans n (in_statement x) (of_rows (row a n x))
    statement_spans a n (st.Block p' ss q) = rows_spans a n ss
    statement_spans a n (st.Skip p') = empty n (in_statement (st.Skip p'))
    statement_spans a n (st.Declare p' ty x None) = empty n (in_statement (st.Declare p' ty x None))
    statement_spans a n (st.Declare p' ty x (Some r)) = none_spans n (in_statement (st.Declare p' ty x (Some r))) (one (defined a p'.line ty x r)) (defined_none a p'.line ty x r)
    statement_spans a n (st.Assign p' x) = none_spans n (in_statement (st.Assign p' x)) (one (assigned_by a p'.line x.left x.effect)) (assigned_none a p'.line x.left x.effect)
    statement_spans a n (st.Call p' x) = empty n (in_statement (st.Call p' x))
    statement_spans a n (st.If p' x u) = behind_spans (behind_spans (statement_spans a n u))
    statement_spans a n (st.IfElse p' x u v) = behind_spans (join_spans (statement_spans a n u) (statement_spans a (plus n (in_statement u)) v))
    statement_spans a n (st.While p' x is u) = behind_spans (text_first (loop_within p l s a n.formulas is y) (statement_spans a (plus_formulas n (in_invariants is)) u))
    statement_spans a n (st.Do p' is u q x) = behind_spans (text_first (loop_within p l s a n.formulas is y) (statement_spans a (plus_formulas n (in_invariants is)) u))
    statement_spans a n (st.For p' b x c is u) =
        let m = plus_formulas n (in_invariants is) in
        let body = append (row a m u) (maybe_assigned a c) in
        let same : of_rows (row a m u) ≡ of_rows body = sym (rows_append (row a m u) (maybe_assigned a c) ∙ ap (λ (z : List QuantifiedFormula). of_rows (row a m u) ++ z) (maybe_none a c) ∙ append-nil (of_rows (row a m u))) in
        let inner = subst (λ qs. Spans m (in_statement u) qs) same (statement_spans a m u) in
        let loop = t.While p'.line (invariants a n.formulas is) _ body in
        let whole : of_rows (one loop) ≡ of_rows (append (maybe_assigned a b) (one loop)) = sym (rows_append (maybe_assigned a b) (one loop) ∙ ap (λ (z : List QuantifiedFormula). z ++ of_rows (one loop)) (maybe_none a b)) in
        subst (λ qs. Spans n (plus (some_formulas (in_invariants is)) (in_statement u)) qs) whole (behind_spans (text_first (loop_within p l s a n.formulas is y) inner))
    statement_spans a n (st.Return p' x) = empty n (in_statement (st.Return p' x))
    statement_spans a n (st.Spawn p' x) = empty n (in_statement (st.Spawn p' x))
    statement_spans a n (st.Free p' x) = empty n (in_statement (st.Free p' x))
    statement_spans a n (st.Assert p' x) = in_text (behind (spec_within p l s a n.formulas x y))
    statement_spans a n (st.Ghost p' x) = ghost_spans a n x
    statement_spans a n (st.Wrap p' x) = wrap_spans n (struct_at a x)
    statement_spans a n (st.Unwrap p' x) = empty n (in_statement (st.Unwrap p' x))
    statement_spans a n (st.Unwrapping p' x ss q) =
        let own = members_quantified (has_fixed_owns p (struct_at a x)) n.formulas w in
        behind_spans (text_first (alone own n.formulas (members_number (has_fixed_owns p (struct_at a x)) n.formulas w)) (rows_spans a (plus_formulas n 1) ss))
    statement_spans a n (st.Atomic p' xs ss q) = behind_spans (inners_spans a n ss)

    pub rows_spans : (a : Around) (n : Counters) (xs : Stms) → Spans n (in_statements xs) (of_rows (rows a n xs))
    rows_spans a n st.Empty = empty n (in_statements st.Empty)
    rows_spans a n (st.More x xs) =
        let b = known_behind a x in
        let m = plus n (in_statement x) in
        subst (λ qs. Spans n (plus (in_statement x) (in_statements xs)) qs) (sym (rows_append (row a n x) (rows b m xs))) (join_spans (statement_spans a n x) (rows_spans b m xs))
