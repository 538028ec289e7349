-- Bodies that break no rule and store once are apart.
use Rattle.std.specs.Prelude.{Bool, true, false, ◌&&◌, nat_le, List, ◌∷◌, ◌++◌, Some, None, IsTrue}
use Rattle.std.proofs.Common.{◌≡◌, refl, sym, subst, arith}
use Rattle.std.proofs.lemmas.Bool.Decides.{nat_tests}
use Rattle.c_syntax.specs.Statements as st
use Rattle.c_syntax.specs.Statements.{Stm, Stms}
use Rattle.typing_spec.specs.Contexts as texts
use Rattle.typing_spec.specs.Contexts.{Context, Variable, ghost, inside_atomic, inside_unwrapping}
use Rattle.typing_spec.specs.Pieces as pieces
use Rattle.typing_spec.specs.Pieces.{Statement, GhostStatement, struct_name, expression, expressions, following, invariants}
use Rattle.typing_spec.specs.TypeLaws.{Quiet, type_typed}
use Rattle.typed_program.specs.Variables.{declared, all_declared}
use Rattle.typed_program.specs.Statements as s
use Rattle.typed_program.specs.Statements.{Counters, plus, plus_formulas, in_invariants, type_or, target, changed, maybe_assigned, known_behind, ghost_row, inner_ghost, inner_row, inner_rows, row, rows}
use Rattle.tree_forms.specs.InForm as form
use Rattle.tree_forms.specs.InForm.{is_code, all_code, if_any}
use Rattle.typed_laws.proofs.Basics.{and_both, and_left, and_right}
use Rattle.typed_laws.proofs.Quiet.{quiet_left, quiet_right, quiet_rest}
use Rattle.typed_laws.proofs.Sides.{Setting, around, at, Knows}
use Rattle.typed_laws.proofs.Ghosts.{alone, knows_more, known_ghosts, around_behind, at_behind, AllNumbered, numbered_left, numbered_right, knows_ghosts}
use Rattle.apart_law.specs.Premises.{stores, all_stores, stores_once, each_stores_once}
use Rattle.apart_law.proofs.ApartTests.{concrete_statements, stmts_apart}
use Rattle.apart_law.proofs.ApartRows.{row_append, row_of_ghosts, Few, few_none, few_both, few_one, few_ghosts}
use Rattle.apart_law.proofs.ApartCode.{code_concrete, stored_concrete}
use Rattle.apart_law.proofs.ApartGhosts.{ghost_fine, inner_ghost_fine}
use Rattle.apart_law.proofs.ApartStores.{assign_apart, assigned_apart, maybe_apart, defined_apart, call_apart}

-- ---- what is known behind

abbrev known_behind_it : List Variable → Stm → List Variable
known_behind_it vs (st.Declare p ty x y) = record { name = x; ty = ty; is_ghost = false } ∷ vs
known_behind_it vs (st.Ghost p x) = known_ghosts vs x
known_behind_it vs _ = vs

around_behind_it : (o : Setting) (vs : List Variable) (w : Context) (x : Stm) → known_behind (around o vs w) x ≡ around o (known_behind_it vs x) w
around_behind_it o vs w (st.Declare p ty x y) = refl
around_behind_it o vs w (st.Ghost p x) = around_behind o vs w x
around_behind_it o vs w _ = refl

at_behind_it : (o : Setting) (vs : List Variable) (b : Bool) (c : Context) (x : Stm) → following (at o vs b c) x ≡ at o (known_behind_it vs x) b c
at_behind_it o vs b c (st.Declare p ty x y) = refl
at_behind_it o vs b c (st.Ghost p x) = at_behind o vs b c x
at_behind_it o vs b c _ = refl

knows_behind : (o : Setting) (vs : List Variable) → Knows o vs → (b : Bool) (c : Context) (x : Stm) → Quiet (pieces.in_statement (at o vs b c) x) → AllNumbered o (declared x) → Knows o (known_behind_it vs x)
knows_behind o vs m b c (st.Declare p ty x y) q h =
    knows_more o vs m (record { name = x; ty = ty; is_ghost = false }) (type_typed o.items ty (quiet_left (struct_name o.items ty) (pieces.if_some (pieces.right (at o vs b c)) y) q)) (h (record { name = x; ty = ty; is_ghost = false }) (0, omega arith, refl))
knows_behind o vs m b c (st.Ghost p x) q h = knows_ghosts o vs m b (ghost c) x (quiet_rest (GhostStatement (at o vs b (ghost c)) x) (pieces.in_ghost (at o vs b (ghost c)) x) q) h
knows_behind o vs m b c _ q h = m

-- ---- within atomic blocks

mutual
  inner_few : (o : Setting) (vs : List Variable) → Knows o vs → (w c : Context) → c.text ≡ texts.Code → (n : Counters) (x : Stm) → IsTrue (form.in_statement x) → Quiet (Statement (at o vs true c) x ∷ pieces.in_statement (at o vs true c) x) → AllNumbered o (declared x)
      → Few o.program o.info (stores x) (inner_row (around o vs w) n x)
  inner_few o vs m w c here n (st.Block p ss pe) f q h = inners_few o vs m w c here n ss f (quiet_rest (Statement (at o vs true c) (st.Block p ss pe)) (pieces.in_statements (at o vs true c) ss) q) h
  inner_few o vs m w c here n (st.Assign p x) f q h = few_one o.program o.info p.line _ (assign_apart o vs m w true c here x f (quiet_rest (Statement (at o vs true c) (st.Assign p x)) (pieces.assignment (at o vs true c) x) q))
  inner_few o vs m w c here n (st.Ghost p x) f q h =
      few_ghosts o.program o.info (inner_ghost (around o vs w) n x) (inner_ghost_fine o vs m w (ghost c) refl n x f (quiet_rest (Statement (at o vs true c) (st.Ghost p x)) (GhostStatement (at o vs true (ghost c)) x ∷ pieces.in_ghost (at o vs true (ghost c)) x) q) h)
  inner_few o vs m w c here n _ f q h = few_none o.program o.info 0

  inners_few : (o : Setting) (vs : List Variable) → Knows o vs → (w c : Context) → c.text ≡ texts.Code → (n : Counters) (xs : Stms) → IsTrue (form.in_statements xs) → Quiet (pieces.in_statements (at o vs true c) xs) → AllNumbered o (all_declared xs)
      → Few o.program o.info (all_stores xs) (inner_rows (around o vs w) n xs)
  inners_few o vs m w c here n st.Empty f q h = few_none o.program o.info 0
  inners_few o vs m w c here n (st.More x xs) f q h =
      let c2 = at o vs true c in
      let first = Statement c2 x ∷ pieces.in_statement c2 x in
      let rest = pieces.in_statements (following c2 x) xs in
      let front = quiet_left first rest q in
      let mine = numbered_left o (declared x) (all_declared xs) h in
      let one = inner_few o vs m w c here n x (and_left (form.in_statement x) (form.in_statements xs) f) front mine in
      let more = knows_behind o vs m true c x (quiet_rest (Statement c2 x) (pieces.in_statement c2 x) front) mine in
      let others = inners_few o (known_behind_it vs x) more w c here (plus n (s.in_statement x)) xs (and_right (form.in_statement x) (form.in_statements xs) f) (subst (λ z. Quiet (pieces.in_statements z xs)) (at_behind_it o vs true c x) (quiet_right first rest q)) (numbered_right o (declared x) (all_declared xs) h) in
      few_both o.program o.info (stores x) (all_stores xs) (inner_row (around o vs w) n x) (inner_rows (known_behind (around o vs w) x) (plus n (s.in_statement x)) xs) one
      (subst (λ z. Few o.program o.info (all_stores xs) (inner_rows z (plus n (s.in_statement x)) xs)) (sym (around_behind_it o vs w x)) others)

-- ---- statements

mutual
  statement_apart : (o : Setting) (vs : List Variable) → Knows o vs → (w c : Context) → c.text ≡ texts.Code → (n : Counters) (x : Stm) → IsTrue (form.in_statement x) → IsTrue (stores_once x) → Quiet (Statement (at o vs false c) x ∷ pieces.in_statement (at o vs false c) x) → AllNumbered o (declared x)
      → IsTrue (stmts_apart o.program o.info (row (around o vs w) n x))
  statement_apart o vs m w c here n (st.Block p ss pe) f u q h = statements_apart o vs m w c here n ss f u (quiet_rest (Statement (at o vs false c) (st.Block p ss pe)) (pieces.in_statements (at o vs false c) ss) q) h
  statement_apart o vs m w c here n (st.Skip p) f u q h = refl
  statement_apart o vs m w c here n (st.Declare p ty x None) f u q h = refl
  statement_apart o vs m w c here n (st.Declare p ty x (Some y)) f u q h =
      let c2 = at o vs false c in
      let parts = quiet_rest (Statement c2 (st.Declare p ty x (Some y))) (struct_name o.items ty ++ pieces.right c2 y) q in
      alone _ (defined_apart o vs m w c here p.line ty x (h (record { name = x; ty = ty; is_ghost = false }) (0, omega arith, refl)) y f (quiet_right (struct_name o.items ty) (pieces.right c2 y) parts))
  statement_apart o vs m w c here n (st.Assign p x) f u q h = alone _ (assigned_apart o vs m w c here p.line x.left x.place x.effect f (quiet_rest (Statement (at o vs false c) (st.Assign p x)) (pieces.assignment (at o vs false c) x) q))
  statement_apart o vs m w c here n (st.Call p x) f u q h = alone _ (call_apart o vs m w false c here x f (quiet_rest (Statement (at o vs false c) (st.Call p x)) (pieces.call (at o vs false c) x) q))
  statement_apart o vs m w c here n (st.If p x y) f u q h =
      let c2 = at o vs false c in
      let branch = Statement c2 y ∷ pieces.in_statement c2 y in
      let parts = quiet_rest (Statement c2 (st.If p x y)) (expression c2 x ++ branch) q in
      let test = code_concrete o vs m w false c here x (and_left (is_code x) (form.in_statement y) f) (quiet_left (expression c2 x) branch parts) in
      let body = statement_apart o vs m w c here n y (and_right (is_code x) (form.in_statement y) f) u (quiet_right (expression c2 x) branch parts) h in
      alone _ (and_both _ _ test (alone _ body))
  statement_apart o vs m w c here n (st.IfElse p x y z) f u q h =
      let c2 = at o vs false c in
      let first = Statement c2 y ∷ pieces.in_statement c2 y in
      let second = Statement c2 z ∷ pieces.in_statement c2 z in
      let parts = quiet_rest (Statement c2 (st.IfElse p x y z)) (expression c2 x ++ (first ++ second)) q in
      let both = quiet_right (expression c2 x) (first ++ second) parts in
      let forms = and_right (is_code x) (form.in_statement y && form.in_statement z) f in
      let test = code_concrete o vs m w false c here x (and_left (is_code x) (form.in_statement y && form.in_statement z) f) (quiet_left (expression c2 x) (first ++ second) parts) in
      let one = statement_apart o vs m w c here n y (and_left (form.in_statement y) (form.in_statement z) forms) (and_left (stores_once y) (stores_once z) u) (quiet_left first second both) (numbered_left o (declared y) (declared z) h) in
      let other = statement_apart o vs m w c here (plus n (s.in_statement y)) z (and_right (form.in_statement y) (form.in_statement z) forms) (and_right (stores_once y) (stores_once z) u) (quiet_right first second both) (numbered_right o (declared y) (declared z) h) in
      alone _ (and_both _ _ test (and_both _ _ one other))
  statement_apart o vs m w c here n (st.While p x is y) f u q h =
      let c2 = at o vs false c in
      let branch = Statement c2 y ∷ pieces.in_statement c2 y in
      let specs = invariants texts.LoopInvariant c2 is in
      let parts = quiet_rest (Statement c2 (st.While p x is y)) (expression c2 x ++ (specs ++ branch)) q in
      let test = code_concrete o vs m w false c here x (and_left (is_code x) (form.in_statement y) f) (quiet_left (expression c2 x) (specs ++ branch) parts) in
      let body = statement_apart o vs m w c here (plus_formulas n (in_invariants is)) y (and_right (is_code x) (form.in_statement y) f) u (quiet_right specs branch (quiet_right (expression c2 x) (specs ++ branch) parts)) h in
      alone _ (and_both _ _ test body)
  statement_apart o vs m w c here n (st.Do p is y pe x) f u q h =
      let c2 = at o vs false c in
      let branch = Statement c2 y ∷ pieces.in_statement c2 y in
      let specs = invariants texts.LoopInvariant c2 is in
      let parts = quiet_right specs (branch ++ expression c2 x) (quiet_rest (Statement c2 (st.Do p is y pe x)) (specs ++ (branch ++ expression c2 x)) q) in
      let test = code_concrete o vs m w false c here x (and_right (form.in_statement y) (is_code x) f) (quiet_right branch (expression c2 x) parts) in
      let body = statement_apart o vs m w c here (plus_formulas n (in_invariants is)) y (and_left (form.in_statement y) (is_code x) f) u (quiet_left branch (expression c2 x) parts) h in
      alone _ (and_both _ _ body test)
  statement_apart o vs m w c here n (st.For p a x b is y) f u q h =
      let c2 = at o vs false c in
      let branch = Statement c2 y ∷ pieces.in_statement c2 y in
      let specs = invariants texts.LoopInvariant c2 is in
      let start = pieces.if_some (pieces.assignment c2) a in
      let step = pieces.if_some (pieces.assignment c2) b in
      let whole = quiet_rest (Statement c2 (st.For p a x b is y)) (start ++ (expression c2 x ++ (step ++ (specs ++ branch)))) q in
      let behind_start = quiet_right start (expression c2 x ++ (step ++ (specs ++ branch))) whole in
      let behind_test = quiet_right (expression c2 x) (step ++ (specs ++ branch)) behind_start in
      let form_start = and_left (if_any form.in_assignment a) (is_code x && (if_any form.in_assignment b && form.in_statement y)) f in
      let form_rest = and_right (if_any form.in_assignment a) (is_code x && (if_any form.in_assignment b && form.in_statement y)) f in
      let form_loop = and_right (is_code x) (if_any form.in_assignment b && form.in_statement y) form_rest in
      let test = code_concrete o vs m w false c here x (and_left (is_code x) (if_any form.in_assignment b && form.in_statement y) form_rest) (quiet_left (expression c2 x) (step ++ (specs ++ branch)) behind_start) in
      let first = maybe_apart o vs m w c here a form_start (quiet_left start (expression c2 x ++ (step ++ (specs ++ branch))) whole) in
      let last = maybe_apart o vs m w c here b (and_left (if_any form.in_assignment b) (form.in_statement y) form_loop) (quiet_left step (specs ++ branch) behind_test) in
      let body = statement_apart o vs m w c here (plus_formulas n (in_invariants is)) y (and_right (if_any form.in_assignment b) (form.in_statement y) form_loop) u (quiet_right specs branch (quiet_right step (specs ++ branch) behind_test)) h in
      row_append o.program o.info (maybe_assigned (around o vs w) a) _ first
      (alone _ (and_both _ _ test (row_append o.program o.info (row (around o vs w) (plus_formulas n (in_invariants is)) y) (maybe_assigned (around o vs w) b) body last)))
  statement_apart o vs m w c here n (st.Return p None) f u q h = refl
  statement_apart o vs m w c here n (st.Return p (Some x)) f u q h =
      alone _ (stored_concrete o vs m w (type_or o.value) x (code_concrete o vs m w false c here x f (quiet_rest (Statement (at o vs false c) (st.Return p (Some x))) (expression (at o vs false c) x) q)))
  statement_apart o vs m w c here n (st.Spawn p x) f u q h = alone _ (call_apart o vs m w false c here x f (quiet_rest (Statement (at o vs false c) (st.Spawn p x)) (pieces.call (at o vs false c) x) q))
  statement_apart o vs m w c here n (st.Free p x) f u q h = alone _ (code_concrete o vs m w false c here x f (quiet_rest (Statement (at o vs false c) (st.Free p x)) (expression (at o vs false c) x) q))
  statement_apart o vs m w c here n (st.Assert p x) f u q h = refl
  statement_apart o vs m w c here n (st.Ghost p x) f u q h =
      row_of_ghosts o.program o.info (ghost_row (around o vs w) n x) (ghost_fine o vs m w (ghost c) refl n x f (quiet_rest (Statement (at o vs false c) (st.Ghost p x)) (GhostStatement (at o vs false (ghost c)) x ∷ pieces.in_ghost (at o vs false (ghost c)) x) q) h)
  statement_apart o vs m w c here n (st.Wrap p x) f u q h = refl
  statement_apart o vs m w c here n (st.Unwrap p x) f u q h = refl
  statement_apart o vs m w c here n (st.Unwrapping p x ss pe) f u q h =
      let object = expression (at o vs false (ghost c)) x in
      let block = pieces.in_statements (at o vs false (inside_unwrapping c)) ss in
      let parts = quiet_rest (Statement (at o vs false c) (st.Unwrapping p x ss pe)) (object ++ block) q in
      alone _ (statements_apart o vs m w (inside_unwrapping c) here (plus_formulas n 1) ss (and_right (is_code x) (form.in_statements ss) f) u (quiet_right object block parts) h)
  statement_apart o vs m w c here n (st.Atomic p es ss pe) f u q h =
      let objects = expressions (at o vs false (ghost c)) es in
      let block = pieces.in_statements (at o vs true c) ss in
      let parts = quiet_rest (Statement (at o vs false c) (st.Atomic p es ss pe)) (objects ++ block) q in
      let body = inners_few o vs m w c here n ss (and_right (all_code es) (form.in_statements ss) f) (quiet_right objects block parts) h in
      let once : nat_le (concrete_statements o.program o.info (inner_rows (around o vs w) n ss)) 1 ≡ true = grind (arith, nat_tests, u, body.few) in
      alone _ (and_both _ _ body.apart once)

  pub statements_apart : (o : Setting) (vs : List Variable) → Knows o vs → (w c : Context) → c.text ≡ texts.Code → (n : Counters) (xs : Stms) → IsTrue (form.in_statements xs) → IsTrue (each_stores_once xs) → Quiet (pieces.in_statements (at o vs false c) xs) → AllNumbered o (all_declared xs)
      → IsTrue (stmts_apart o.program o.info (rows (around o vs w) n xs))
  statements_apart o vs m w c here n st.Empty f u q h = refl
  statements_apart o vs m w c here n (st.More x xs) f u q h =
      let c2 = at o vs false c in
      let first = Statement c2 x ∷ pieces.in_statement c2 x in
      let rest = pieces.in_statements (following c2 x) xs in
      let front = quiet_left first rest q in
      let mine = numbered_left o (declared x) (all_declared xs) h in
      let one = statement_apart o vs m w c here n x (and_left (form.in_statement x) (form.in_statements xs) f) (and_left (stores_once x) (each_stores_once xs) u) front mine in
      let more = knows_behind o vs m false c x (quiet_rest (Statement c2 x) (pieces.in_statement c2 x) front) mine in
      let others = statements_apart o (known_behind_it vs x) more w c here (plus n (s.in_statement x)) xs (and_right (form.in_statement x) (form.in_statements xs) f) (and_right (stores_once x) (each_stores_once xs) u) (subst (λ z. Quiet (pieces.in_statements z xs)) (at_behind_it o vs false c x) (quiet_right first rest q))
      (numbered_right o (declared x) (all_declared xs) h) in
      row_append o.program o.info (row (around o vs w) n x) (rows (known_behind (around o vs w) x) (plus n (s.in_statement x)) xs) one
      (subst (λ z. IsTrue (stmts_apart o.program o.info (rows z (plus n (s.in_statement x)) xs))) (sym (around_behind_it o vs w x)) others)
