-- Ghost statements that break no rule are ghost in the typed program, outside of atomic blocks and inside.
use Rattle.std.specs.Prelude.{Bool, true, false, ◌&&◌, List, ◌∷◌, ◌++◌, Some, None, IsTrue}
use Rattle.std.proofs.Common.{◌≡◌, refl, sym, ap, subst, arith}
use Rattle.c_syntax.specs.declared.token.Span.{Span}
use Rattle.c_syntax.specs.Expressions.{Ty, Exp}
use Rattle.c_syntax.specs.Ghosts as g
use Rattle.c_syntax.specs.Ghosts.{OwnsEffect, GhostRhs, GStm, GStms}
use Rattle.typing_spec.specs.Contexts.{Context, Variable}
use Rattle.typing_spec.specs.Rules as r
use Rattle.typing_spec.specs.Pieces as pieces
use Rattle.typing_spec.specs.Pieces.{GhostStatement, expression, behind_ghost}
use Rattle.typing_spec.specs.TypeLaws.{Quiet}
use Rattle.typed_program.specs.Trees as t
use Rattle.typed_program.specs.Numbers.{Around}
use Rattle.typed_program.specs.Variables.{ghost_declared, ghosts_declared}
use Rattle.typed_program.specs.Statements as s
use Rattle.typed_program.specs.Statements.{Counters, plus, variable, owned_change, ghost_assigned, known_behind_ghost, ghost_row, ghost_rows, inner_ghost, inner_ghosts}
use Rattle.tree_forms.specs.InForm as form
use Rattle.tree_forms.specs.InForm.{is_code, is_place}
use Rattle.typed_laws.proofs.Basics.{and_both, and_left, and_right}
use Rattle.typed_laws.proofs.Quiet.{quiet_left, quiet_right, quiet_first, quiet_rest}
use Rattle.typed_laws.proofs.Facts.{Numbered, runs}
use Rattle.typed_laws.proofs.Sides.{Setting, around, at, Knows}
use Rattle.typed_laws.proofs.Ghosts.{alone, known_ghosts, around_behind, at_behind, AllNumbered, numbered_left, numbered_right, knows_ghosts}
use Rattle.apart_law.proofs.ApartTests.{ghost_variable, is_ghost_variable, ghost_right, ghost_simple, ghost_inners, ghost_stmts}
use Rattle.apart_law.proofs.ApartRows.{ghosts_append, ghost_inners_append}
use Rattle.apart_law.proofs.ApartCode.{place_ghost}

-- ---- parts

right_ghost : (p : t.Program) (f : t.FunctionInfo) (a : Around) (n : Counters) (ty : Ty) (y : GhostRhs) → IsTrue (ghost_right p f (s.ghost_right a n ty y))
right_ghost p f a n ty (g.Value x) = refl
right_ghost p f a n ty (g.MakeClaim q xs x) = refl

owned_ghost : (p : t.Program) (f : t.FunctionInfo) (a : Around) (x : Exp) (y : OwnsEffect) → IsTrue (ghost_simple p f (owned_change a x y))
owned_ghost p f a x (g.Become xs) = refl
owned_ghost p f a x (g.Join y) = refl
owned_ghost p f a x (g.Leave y) = refl

-- a variable of the table is as ghost as its declaration
pub declared_so : (o : Setting) (vs : List Variable) (w : Context) (v : Variable) → Numbered o.items o.info o.names v → is_ghost_variable o.program o.info (variable (around o vs w) v.name) ≡ v.is_ghost
declared_so o vs w v h = ap ghost_variable h

assign_ghost : (o : Setting) (vs : List Variable) → Knows o vs → (w : Context) (b : Bool) (c : Context) → IsTrue (runs c.text) → (n : Counters) (p : Span) (x : Exp) (pq : Span) (y : GhostRhs) → IsTrue (is_place x)
    → Quiet (GhostStatement (at o vs b c) (g.Assign p x pq y) ∷ pieces.in_ghost (at o vs b c) (g.Assign p x pq y)) → IsTrue (ghost_simple o.program o.info (ghost_assigned (around o vs w) n x y))
assign_ghost o vs m w b c rn n p x pq y fx q =
    let c2 = at o vs b c in
    let parts = expression c2 x ++ pieces.ghost_right c2 y in
    let rules = quiet_first (GhostStatement c2 (g.Assign p x pq y)) parts q in
    let left = quiet_left (expression c2 x) (pieces.ghost_right c2 y) (quiet_rest (GhostStatement c2 (g.Assign p x pq y)) parts q) in
    and_both _ _ (place_ghost o vs m w b c rn x fx left (rules r.GhostWrites)) (right_ghost o.program o.info (around o vs w) n _ y)

-- ---- outside of atomic blocks

mutual
  pub ghost_fine : (o : Setting) (vs : List Variable) → Knows o vs → (w c : Context) → IsTrue (runs c.text) → (n : Counters) (x : GStm) → IsTrue (form.in_ghost x) → Quiet (GhostStatement (at o vs false c) x ∷ pieces.in_ghost (at o vs false c) x) → AllNumbered o (ghost_declared x)
      → IsTrue (ghost_stmts o.program o.info (ghost_row (around o vs w) n x))
  ghost_fine o vs m w c rn n (g.Block p ss) f q h = ghosts_fine o vs m w c rn n ss f (quiet_rest (GhostStatement (at o vs false c) (g.Block p ss)) (pieces.in_ghosts (at o vs false c) ss) q) h
  ghost_fine o vs m w c rn n (g.Declare p ty x None) f q h =
      let v : Variable = record { name = x; ty = ty; is_ghost = true } in
      alone _ (declared_so o vs w v (h v (0, omega arith, refl)))
  ghost_fine o vs m w c rn n (g.Declare p ty x (Some y)) f q h =
      let v : Variable = record { name = x; ty = ty; is_ghost = true } in
      alone _ (and_both _ _ (declared_so o vs w v (h v (0, omega arith, refl))) (right_ghost o.program o.info (around o vs w) n ty y))
  ghost_fine o vs m w c rn n (g.Assign p x pq y) f q h = alone _ (assign_ghost o vs m w false c rn n p x pq y (and_left (is_place x) (form.in_ghost_right y) f) q)
  ghost_fine o vs m w c rn n (g.Owns p x pq y) f q h = alone _ (owned_ghost o.program o.info (around o vs w) x y)
  ghost_fine o vs m w c rn n (g.DestroyClaim p x xs) f q h = refl
  ghost_fine o vs m w c rn n (g.Wrap p x) f q h = refl
  ghost_fine o vs m w c rn n (g.Unwrap p x) f q h = refl
  ghost_fine o vs m w c rn n (g.If p x y) f q h =
      let c2 = at o vs false c in
      let own = GhostStatement c2 y ∷ pieces.in_ghost c2 y in
      let body = ghost_fine o vs m w c rn n y (and_right (is_code x) (form.in_ghost y) f) (quiet_right (expression c2 x) own (quiet_rest (GhostStatement c2 (g.If p x y)) (expression c2 x ++ own) q)) h in
      alone _ (alone _ body)
  ghost_fine o vs m w c rn n (g.IfElse p x y z) f q h =
      let c2 = at o vs false c in
      let first = GhostStatement c2 y ∷ pieces.in_ghost c2 y in
      let second = GhostStatement c2 z ∷ pieces.in_ghost c2 z in
      let both = quiet_right (expression c2 x) (first ++ second) (quiet_rest (GhostStatement c2 (g.IfElse p x y z)) (expression c2 x ++ (first ++ second)) q) in
      let forms = and_right (is_code x) (form.in_ghost y && form.in_ghost z) f in
      let one = ghost_fine o vs m w c rn n y (and_left (form.in_ghost y) (form.in_ghost z) forms) (quiet_left first second both) (numbered_left o (ghost_declared y) (ghost_declared z) h) in
      let other = ghost_fine o vs m w c rn (plus n (s.in_ghost y)) z (and_right (form.in_ghost y) (form.in_ghost z) forms) (quiet_right first second both) (numbered_right o (ghost_declared y) (ghost_declared z) h) in
      alone _ (and_both _ _ one other)

  ghosts_fine : (o : Setting) (vs : List Variable) → Knows o vs → (w c : Context) → IsTrue (runs c.text) → (n : Counters) (xs : GStms) → IsTrue (form.in_ghosts xs) → Quiet (pieces.in_ghosts (at o vs false c) xs) → AllNumbered o (ghosts_declared xs)
      → IsTrue (ghost_stmts o.program o.info (ghost_rows (around o vs w) n xs))
  ghosts_fine o vs m w c rn n g.Empty f q h = refl
  ghosts_fine o vs m w c rn n (g.More x xs) f q h =
      let c2 = at o vs false c in
      let first = GhostStatement c2 x ∷ pieces.in_ghost c2 x in
      let rest = pieces.in_ghosts (behind_ghost c2 x) xs in
      let front = quiet_left first rest q in
      let mine = numbered_left o (ghost_declared x) (ghosts_declared xs) h in
      let one = ghost_fine o vs m w c rn n x (and_left (form.in_ghost x) (form.in_ghosts xs) f) front mine in
      let more = knows_ghosts o vs m false c x (quiet_rest (GhostStatement c2 x) (pieces.in_ghost c2 x) front) mine in
      let others = ghosts_fine o (known_ghosts vs x) more w c rn (plus n (s.in_ghost x)) xs (and_right (form.in_ghost x) (form.in_ghosts xs) f) (subst (λ z. Quiet (pieces.in_ghosts z xs)) (at_behind o vs false c x) (quiet_right first rest q)) (numbered_right o (ghost_declared x) (ghosts_declared xs) h) in
      ghosts_append o.program o.info (ghost_row (around o vs w) n x) (ghost_rows (known_behind_ghost (around o vs w) x) (plus n (s.in_ghost x)) xs) one
      (subst (λ z. IsTrue (ghost_stmts o.program o.info (ghost_rows z (plus n (s.in_ghost x)) xs))) (sym (around_behind o vs w x)) others)

-- ---- inside

mutual
  pub inner_ghost_fine : (o : Setting) (vs : List Variable) → Knows o vs → (w c : Context) → IsTrue (runs c.text) → (n : Counters) (x : GStm) → IsTrue (form.in_ghost x) → Quiet (GhostStatement (at o vs true c) x ∷ pieces.in_ghost (at o vs true c) x) → AllNumbered o (ghost_declared x)
      → IsTrue (ghost_inners o.program o.info (inner_ghost (around o vs w) n x))
  inner_ghost_fine o vs m w c rn n (g.Block p ss) f q h = inner_ghosts_fine o vs m w c rn n ss f (quiet_rest (GhostStatement (at o vs true c) (g.Block p ss)) (pieces.in_ghosts (at o vs true c) ss) q) h
  inner_ghost_fine o vs m w c rn n (g.Declare p ty x y) f q h = refl
  inner_ghost_fine o vs m w c rn n (g.Assign p x pq y) f q h = alone _ (assign_ghost o vs m w true c rn n p x pq y (and_left (is_place x) (form.in_ghost_right y) f) q)
  inner_ghost_fine o vs m w c rn n (g.Owns p x pq y) f q h = alone _ (owned_ghost o.program o.info (around o vs w) x y)
  inner_ghost_fine o vs m w c rn n (g.DestroyClaim p x xs) f q h = refl
  inner_ghost_fine o vs m w c rn n (g.Wrap p x) f q h = refl
  inner_ghost_fine o vs m w c rn n (g.Unwrap p x) f q h = refl
  inner_ghost_fine o vs m w c rn n (g.If p x y) f q h =
      let c2 = at o vs true c in
      let own = GhostStatement c2 y ∷ pieces.in_ghost c2 y in
      let body = inner_ghost_fine o vs m w c rn n y (and_right (is_code x) (form.in_ghost y) f) (quiet_right (expression c2 x) own (quiet_rest (GhostStatement c2 (g.If p x y)) (expression c2 x ++ own) q)) h in
      alone _ (alone _ body)
  inner_ghost_fine o vs m w c rn n (g.IfElse p x y z) f q h =
      let c2 = at o vs true c in
      let first = GhostStatement c2 y ∷ pieces.in_ghost c2 y in
      let second = GhostStatement c2 z ∷ pieces.in_ghost c2 z in
      let both = quiet_right (expression c2 x) (first ++ second) (quiet_rest (GhostStatement c2 (g.IfElse p x y z)) (expression c2 x ++ (first ++ second)) q) in
      let forms = and_right (is_code x) (form.in_ghost y && form.in_ghost z) f in
      let one = inner_ghost_fine o vs m w c rn n y (and_left (form.in_ghost y) (form.in_ghost z) forms) (quiet_left first second both) (numbered_left o (ghost_declared y) (ghost_declared z) h) in
      let other = inner_ghost_fine o vs m w c rn (plus n (s.in_ghost y)) z (and_right (form.in_ghost y) (form.in_ghost z) forms) (quiet_right first second both) (numbered_right o (ghost_declared y) (ghost_declared z) h) in
      alone _ (and_both _ _ one other)

  inner_ghosts_fine : (o : Setting) (vs : List Variable) → Knows o vs → (w c : Context) → IsTrue (runs c.text) → (n : Counters) (xs : GStms) → IsTrue (form.in_ghosts xs) → Quiet (pieces.in_ghosts (at o vs true c) xs) → AllNumbered o (ghosts_declared xs)
      → IsTrue (ghost_inners o.program o.info (inner_ghosts (around o vs w) n xs))
  inner_ghosts_fine o vs m w c rn n g.Empty f q h = refl
  inner_ghosts_fine o vs m w c rn n (g.More x xs) f q h =
      let c2 = at o vs true c in
      let first = GhostStatement c2 x ∷ pieces.in_ghost c2 x in
      let rest = pieces.in_ghosts (behind_ghost c2 x) xs in
      let front = quiet_left first rest q in
      let mine = numbered_left o (ghost_declared x) (ghosts_declared xs) h in
      let one = inner_ghost_fine o vs m w c rn n x (and_left (form.in_ghost x) (form.in_ghosts xs) f) front mine in
      let more = knows_ghosts o vs m true c x (quiet_rest (GhostStatement c2 x) (pieces.in_ghost c2 x) front) mine in
      let others = inner_ghosts_fine o (known_ghosts vs x) more w c rn (plus n (s.in_ghost x)) xs (and_right (form.in_ghost x) (form.in_ghosts xs) f) (subst (λ z. Quiet (pieces.in_ghosts z xs)) (at_behind o vs true c x) (quiet_right first rest q)) (numbered_right o (ghost_declared x) (ghosts_declared xs) h) in
      ghost_inners_append o.program o.info (inner_ghost (around o vs w) n x) (inner_ghosts (known_behind_ghost (around o vs w) x) (plus n (s.in_ghost x)) xs) one
      (subst (λ z. IsTrue (ghost_inners o.program o.info (inner_ghosts z (plus n (s.in_ghost x)) xs))) (sym (around_behind o vs w x)) others)
