-- Ghost statements that break no rule are typed well, outside of atomic blocks and inside.
use Rattle.std.specs.Prelude.{Bool, true, false, not, ◌||◌, ◌&&◌, ◌==◌, ℕ, ◌+◌, ◌≤◌, nat_lt, zero, suc, List, [], ◌∷◌, ◌++◌, length, map, Option, Some, None, Contains, IsTrue}
use Rattle.std.proofs.Common.{◌≡◌, refl, sym, ap, subst, arith, ◌∙◌}
use Rattle.std.proofs.lemmas.Bool.{true≢false}
use Rattle.std.proofs.lemmas.List.Elements.{Contains-append_left, Contains-append_right}
use Rattle.int_ranges.specs.declared.ctype.CType.TheVariants as ints
use Rattle.c_syntax.specs.declared.token.Span.{Span}
use Rattle.c_syntax.specs.Expressions as e
use Rattle.c_syntax.specs.Expressions.{Id, Ty, Exp}
use Rattle.c_syntax.specs.Grammar.{first_place}
use Rattle.c_syntax.specs.Ghosts as g
use Rattle.c_syntax.specs.Ghosts.{Members, OwnsEffect, GhostRhs, GStm, GStms}
use Rattle.c_syntax.specs.Items.{StructTree}
use Rattle.typing_spec.specs.Declarations.{structs, has_dynamic_owns, has_volatile_owns}
use Rattle.typing_spec.specs.Contexts.{Context, Variable, deeper}
use Rattle.typing_spec.specs.Types as kd
use Rattle.typing_spec.specs.Types.{Kind, kind_of, kind, converts}
use Rattle.typing_spec.specs.Values.{ghost_right_kind}
use Rattle.typing_spec.specs.Rules as r
use Rattle.typing_spec.specs.Pieces as pieces
use Rattle.typing_spec.specs.Pieces.{Piece, GhostStatement, Expression, expression, expressions, struct_name, behind_ghost}
use Rattle.typing_spec.specs.Places.{fails, fail_together}
use Rattle.typing_spec.specs.Conversions.{as_reference, member_uses, owns_uses}
use Rattle.typing_spec.specs.Ownership.{takes_change, may_change}
use Rattle.typing_spec.specs.TypeLaws.{Sound, Typed, Quiet, type_typed, one_known}
use Rattle.object_types.specs.Sets.{every}
use Rattle.method.specs.declared.program.DeclaredType.TheVariants as d
use Rattle.method.specs.declared.program.OwnsChange.TheVariants as changes
use Rattle.method.specs.Typing.{Values, Refs, fits, are_refs, point_to, and_then, only_if}
use Rattle.typed_program.specs.Trees as t
use Rattle.typed_program.specs.Trees.{Code, StructInfo, ClaimSite, Program}
use Rattle.typed_program.specs.Numbers.{struct_number, struct_at, struct_of_kind, declared_type}
use Rattle.typed_program.specs.Codes.{code, codes, integer_type}
use Rattle.typed_program.specs.Variables.{ghost_declared, ghosts_declared}
use Rattle.typed_program.specs.Statements as s
use Rattle.typed_program.specs.Statements.{Counters, plus, left_type, target, variable, ghost_right, ghost_assigned, members_of, owned_change, claim_end, known_behind_ghost, ghost_row, ghost_rows, inner_ghost, inner_ghosts, append, append_inner}
use Rattle.tree_forms.specs.InForm as form
use Rattle.tree_forms.specs.InForm.{is_code, is_place, all_code}
use Rattle.typed_laws.proofs.Basics.{and_both, and_left, and_right}
use Rattle.typed_laws.proofs.Quiet.{quiet_left, quiet_right, quiet_first, quiet_rest, not_placed}
use Rattle.typed_laws.proofs.Tests.{struct_test, struct_of, is_struct, has_fixed_owns, values, test, variable_takes, takes, right_values, is_ref, all_refs, is_pointer, is_test, is_claim_expr, change_allowed, simple_ok, stmt_ok, row_ok, inner_ok, inner_row_ok}
use Rattle.typed_laws.proofs.Facts.{Numbered, Agrees, SitesOf, runs}
use Rattle.typed_laws.proofs.BodyParts.{within, equal_numbers, Converts, piece_converts, together, passes}
use Rattle.typed_laws.proofs.Sides.{Setting, here, around, at, Knows, Valued, valued, test_some, to_claim, to_reference, stores, placed}
use Rattle.typed_laws.proofs.BodyRights.{fit_reference, is_struct_at}
use Rattle.typed_laws.proofs.BodyCalls.{kind_known}

-- ---- rows

pub alone : (b : Bool) → IsTrue b → IsTrue (b && true)
alone b h = and_both b true h refl

pub append_ok : (o : Setting) (xs ys : t.Stmts) → IsTrue (row_ok o.program o.info o.number xs) → IsTrue (row_ok o.program o.info o.number ys) → IsTrue (row_ok o.program o.info o.number (append xs ys))
append_ok o t.NoStmt ys h j = j
append_ok o (t.AStmt x xs) ys h j =
    and_both (stmt_ok o.program o.info o.number x) (row_ok o.program o.info o.number (append xs ys)) (and_left (stmt_ok o.program o.info o.number x) (row_ok o.program o.info o.number xs) h)
    (append_ok o xs ys (and_right (stmt_ok o.program o.info o.number x) (row_ok o.program o.info o.number xs) h) j)

pub append_inner_ok : (o : Setting) (xs ys : t.Inners) → IsTrue (inner_row_ok o.program o.info o.number xs) → IsTrue (inner_row_ok o.program o.info o.number ys) → IsTrue (inner_row_ok o.program o.info o.number (append_inner xs ys))
append_inner_ok o t.NoInner ys h j = j
append_inner_ok o (t.AnInner x xs) ys h j =
    and_both (inner_ok o.program o.info o.number x) (inner_row_ok o.program o.info o.number (append_inner xs ys)) (and_left (inner_ok o.program o.info o.number x) (inner_row_ok o.program o.info o.number xs) h)
    (append_inner_ok o xs ys (and_right (inner_ok o.program o.info o.number x) (inner_row_ok o.program o.info o.number xs) h) j)

-- fewer claim sites
pub fewer : (p : Program) (n low high first last : ℕ) → SitesOf p n low high → low ≤ first → last ≤ high → SitesOf p n first last
fewer p n low high first last h i l j a b = h j (omega (arith, i, a)) (omega (arith, l, b))

-- ---- references

pub reference_ok : (o : Setting) (vs : List Variable) (w : Context) (x : Exp) → Valued o vs w x → fail_together converts (kind (here o vs) x) (Some kd.Object) ≡ false → IsTrue (is_ref o.program o.info (code (around o vs w) x))
reference_ok o vs w x v h = test_some (values o.program o.info (code (around o vs w) x)) v.all are_refs v.has (to_reference o.items v.sort (integer_type (here o vs) x) v.all (together converts (kind (here o vs) x) (Some kd.Object) v.sort kd.Object v.is_kind refl h) v.agrees)

pub references_ok : (o : Setting) (vs : List Variable) → Knows o vs → (w : Context) (b : Bool) (c : Context) → IsTrue (runs c.text) → (xs : List Exp) → IsTrue (all_code xs) → Quiet (expressions (at o vs b c) xs) → Converts (map (as_reference (at o vs b c)) xs) → IsTrue (all_refs o.program o.info (codes (around o vs w) xs))
references_ok o vs m w b c rn [] f q u = refl
references_ok o vs m w b c rn (x ∷ xs) f q u =
    let v = valued o vs m w b c rn x (and_left (is_code x) (all_code xs) f) (quiet_left (expression (at o vs b c) x) (expressions (at o vs b c) xs) q) in
    and_both (is_ref o.program o.info (code (around o vs w) x)) (all_refs o.program o.info (codes (around o vs w) xs)) (reference_ok o vs w x v u.0)
    (references_ok o vs m w b c rn xs (and_right (is_code x) (all_code xs) f) (quiet_right (expression (at o vs b c) x) (expressions (at o vs b c) xs) q) u.1)

members_ok : (o : Setting) (vs : List Variable) → Knows o vs → (w : Context) (b : Bool) (c : Context) → IsTrue (runs c.text) → (y : Members) → IsTrue (form.in_members y) → Quiet (pieces.members (at o vs b c) y) → Converts (member_uses (at o vs b c) y) → IsTrue (all_refs o.program o.info (members_of (around o vs w) y))
members_ok o vs m w b c rn (g.One x) f q u = alone (is_ref o.program o.info (code (around o vs w) x)) (reference_ok o vs w x (valued o vs m w b c rn x f q) u.0)
members_ok o vs m w b c rn (g.Several xs) f q u = references_ok o vs m w b c rn xs f q u

-- what an atomic block lists: references, and claims where they are listed as such
claim_listed : (o : Setting) (vs : List Variable) (w : Context) (x : Exp) → Valued o vs w x → IsTrue (not (s.is_claim (kind (here o vs) x)) || is_claim_expr o.program o.info (code (around o vs w) x))
claim_listed o vs w x v = subst (λ z. IsTrue (not (s.is_claim z) || is_claim_expr o.program o.info (code (around o vs w) x))) (sym v.is_kind) (go v.sort v.agrees)
  where
    go : (k : Kind) → Agrees o.items k (integer_type (here o vs) x) v.all → IsTrue (not (s.is_claim (Some k)) || is_claim_expr o.program o.info (code (around o vs w) x))
    go kd.Claim h = test_some (values o.program o.info (code (around o vs w) x)) v.all (λ z. fits z d.Claim) v.has (subst (λ z. IsTrue (fits z d.Claim)) (sym h) refl)
    go _ h = refl

pub listed_ok : (o : Setting) (vs : List Variable) → Knows o vs → (w : Context) (b : Bool) (c : Context) → IsTrue (runs c.text) → (xs : List Exp) → IsTrue (all_code xs) → Quiet (expressions (at o vs b c) xs) → Converts (map (as_reference (at o vs b c)) xs)
    → IsTrue (every (λ z. is_ref o.program o.info z.object && (not z.is_claim || is_claim_expr o.program o.info z.object)) (map (s.listed (around o vs w)) xs))
listed_ok o vs m w b c rn [] f q u = refl
listed_ok o vs m w b c rn (x ∷ xs) f q u =
    let v = valued o vs m w b c rn x (and_left (is_code x) (all_code xs) f) (quiet_left (expression (at o vs b c) x) (expressions (at o vs b c) xs) q) in
    and_both _ _ (and_both (is_ref o.program o.info (code (around o vs w) x)) (not (s.is_claim (kind (here o vs) x)) || is_claim_expr o.program o.info (code (around o vs w) x)) (reference_ok o vs w x v u.0) (claim_listed o vs w x v))
    (listed_ok o vs m w b c rn xs (and_right (is_code x) (all_code xs) f) (quiet_right (expression (at o vs b c) x) (expressions (at o vs b c) xs) q) u.1)

-- ---- pointers to structs

-- an expression that points to a struct
pub record Pointing (o : Setting) (vs : List Variable) (w : Context) (x : Exp) : Type 0 where
  pub owner : StructTree
  pub in_items : Contains (structs o.items) owner
  pub of_kind : kind (here o vs) x ≡ Some (kd.Pointer owner)
  pub has : values o.program o.info (code (around o vs w) x) ≡ Some (Refs (d.Pointer (struct_number o.items owner.name)))

a_pointer : (l : Kind) → kd.is_pointer l ≡ true → (z : StructTree) × (l ≡ kd.Pointer z)
a_pointer (kd.Pointer z) h = (z, refl)
a_pointer _ h = absurd (true≢false (sym h))

pub pointing : (o : Setting) (vs : List Variable) (w : Context) (x : Exp) → Valued o vs w x → fails kd.is_pointer (kind (here o vs) x) ≡ false → Pointing o vs w x
pointing o vs w x v h =
    let z = a_pointer v.sort (passes kd.is_pointer (kind (here o vs) x) v.sort v.is_kind h) in
    record {
      owner = z.0;
      in_items = subst (Sound o.items) z.1 v.sound;
      of_kind = v.is_kind ∙ ap Some z.1;
      has = v.has ∙ ap Some (subst (λ u. Agrees o.items u (integer_type (here o vs) x) v.all) z.1 v.agrees);
    }

pub points : (o : Setting) (vs : List Variable) (w : Context) (x : Exp) (h : Pointing o vs w x) (ok : ℕ → Bool) → IsTrue (ok (struct_number o.items h.owner.name)) → IsTrue (is_pointer o.program o.info ok (code (around o vs w) x))
points o vs w x h ok j = test_some (values o.program o.info (code (around o vs w) x)) (Refs (d.Pointer (struct_number o.items h.owner.name))) (point_to ok) h.has j

-- the struct under the number that a wrap has
pub struct_there : (o : Setting) (vs : List Variable) (w : Context) (x : Exp) (h : Pointing o vs w x) → struct_at (around o vs w) x ≡ struct_number o.items h.owner.name
struct_there o vs w x h = ap (struct_of_kind o.items) h.of_kind

pub wrap_struct : (o : Setting) (vs : List Variable) (w : Context) (x : Exp) → Pointing o vs w x → IsTrue (is_struct o.program (struct_at (around o vs w) x))
wrap_struct o vs w x h = ap (is_struct o.program) (struct_there o vs w x h) ∙ is_struct_at o h.owner h.in_items

pub wrap_pointer : (o : Setting) (vs : List Variable) (w : Context) (x : Exp) → Pointing o vs w x → IsTrue (is_pointer o.program o.info (λ n. n == struct_at (around o vs w) x) (code (around o vs w) x))
wrap_pointer o vs w x h =
    points o vs w x h (λ n. n == struct_at (around o vs w) x) (equal_numbers (struct_number o.items h.owner.name) (struct_at (around o vs w) x) (sym (struct_there o vs w x h)))

pub unwrap_pointer : (o : Setting) (vs : List Variable) (w : Context) (x : Exp) → Pointing o vs w x → IsTrue (is_pointer o.program o.info (is_struct o.program) (code (around o vs w) x))
unwrap_pointer o vs w x h = points o vs w x h (is_struct o.program) (is_struct_at o h.owner h.in_items)

pub tested : (o : Setting) (vs : List Variable) (w : Context) (x : Exp) → Valued o vs w x → IsTrue (is_test o.program o.info (code (around o vs w) x))
tested o vs w x v = test_some (values o.program o.info (code (around o vs w) x)) v.all (λ z. true) v.has refl

-- ---- owned sets

not_fixed : (dynamic volatile : Bool) → (dynamic || volatile) ≡ true → not (not dynamic && not volatile) ≡ true
not_fixed true v h = refl
not_fixed false true h = refl
not_fixed false false h = h

-- a set that isn't fixed
changes_outside : (o : Setting) (z : StructTree) → Contains (structs o.items) z → (has_dynamic_owns z || has_volatile_owns z) ≡ true → IsTrue (not (has_fixed_owns o.program (struct_number o.items z.name)))
changes_outside o z c h =
    let a = o.tables.structs_at z c in
    ap (λ u. not (struct_test (λ y. not y.has_dynamic_owns && not y.has_volatile_owns) u)) a.is ∙ ap (λ u. not (not u && not a.info.has_volatile_owns)) a.dynamic ∙ ap (λ u. not (not (has_dynamic_owns z) && not u)) a.volatile ∙ not_fixed (has_dynamic_owns z) (has_volatile_owns z) h

changes_inside : (o : Setting) (z : StructTree) → Contains (structs o.items) z → has_volatile_owns z ≡ true → IsTrue (struct_test (λ y. y.has_volatile_owns) (struct_of o.program (struct_number o.items z.name)))
changes_inside o z c h = let a = o.tables.structs_at z c in ap (struct_test (λ y. y.has_volatile_owns)) a.is ∙ a.volatile ∙ h

owner_changes : (o : Setting) (vs : List Variable) → Knows o vs → (w : Context) (b : Bool) (c : Context) → IsTrue (runs c.text) → (p q : Span) (pa : Span) (z : Exp) (wp : Span) (y : OwnsEffect) → IsTrue (is_code z) → IsTrue (form.in_owns_effect y)
    → Quiet (GhostStatement (at o vs b c) (g.Owns p (e.Owns pa z wp) q y) ∷ pieces.in_ghost (at o vs b c) (g.Owns p (e.Owns pa z wp) q y)) → IsTrue (simple_ok o.program o.info o.number b (owned_change (around o vs w) (e.Owns pa z wp) y))
owner_changes o vs m w b c rn p q pa z wp y fz fy h =
    let c2 = at o vs b c in
    let stm = g.Owns p (e.Owns pa z wp) q y in
    let rules = quiet_first (GhostStatement c2 stm) (pieces.in_ghost c2 stm) h in
    let parts = quiet_rest (GhostStatement c2 stm) (pieces.in_ghost c2 stm) h in
    let set = quiet_left (expression c2 (e.Owns pa z wp)) (pieces.owns_effect c2 y) parts in
    let members = quiet_right (expression c2 (e.Owns pa z wp)) (pieces.owns_effect c2 y) parts in
    let v = valued o vs m w b (deeper c) rn z fz (quiet_left (expression (deeper c2) z) (Expression c2 (e.Owns pa z wp) ∷ []) set) in
    let whole = quiet_first (Expression c2 (e.Owns pa z wp)) [] (quiet_right (expression (deeper c2) z) (Expression c2 (e.Owns pa z wp) ∷ []) set) in
    let point = pointing o vs w z v (not_placed _ pa (whole r.Arrow)) in
    let may = passes (takes_change b y) (kind (here o vs) z) (kd.Pointer point.owner) point.of_kind (not_placed _ wp (rules r.OwnsChange)) in
    go b y point fy members (piece_converts (GhostStatement c2 stm) (rules r.Conversion)) may
  where
    go : (i : Bool) (x : OwnsEffect) (h : Pointing o vs w z) → IsTrue (form.in_owns_effect x) → Quiet (pieces.owns_effect (at o vs i c) x) → Converts (owns_uses (at o vs i c) x) → may_change i x h.owner ≡ true → IsTrue (simple_ok o.program o.info o.number i (owned_change (around o vs w) (e.Owns pa z wp) x))
    go false (g.Become xs) h f q u n =
        and_both _ _ (points o vs w z h (change_allowed o.program o.info false changes.Assigned) (changes_outside o h.owner h.in_items n)) (references_ok o vs m w false c rn xs f q u)
    go false (g.Join x) h f q u n = and_both _ _ (points o vs w z h (change_allowed o.program o.info false changes.Added) (changes_outside o h.owner h.in_items n)) (members_ok o vs m w false c rn x f q u)
    go false (g.Leave x) h f q u n = and_both _ _ (points o vs w z h (change_allowed o.program o.info false changes.Removed) (changes_outside o h.owner h.in_items n)) (members_ok o vs m w false c rn x f q u)
    go true (g.Become xs) h f q u n = absurd (true≢false (sym (and_right (has_volatile_owns h.owner) false n)))
    go true (g.Join x) h f q u n =
        and_both _ _ (points o vs w z h (change_allowed o.program o.info true changes.Added) (changes_inside o h.owner h.in_items (and_left (has_volatile_owns h.owner) true n))) (members_ok o vs m w true c rn x f q u)
    go true (g.Leave x) h f q u n =
        and_both _ _ (points o vs w z h (change_allowed o.program o.info true changes.Removed) (changes_inside o h.owner h.in_items (and_left (has_volatile_owns h.owner) true n))) (members_ok o vs m w true c rn x f q u)

owned_ok : (o : Setting) (vs : List Variable) → Knows o vs → (w : Context) (b : Bool) (c : Context) → IsTrue (runs c.text) → (p q : Span) (x : Exp) (y : OwnsEffect) → IsTrue (form.is_owned_set x) → IsTrue (form.in_owns_effect y) → Quiet (GhostStatement (at o vs b c) (g.Owns p x q y) ∷ pieces.in_ghost (at o vs b c) (g.Owns p x q y))
    → IsTrue (simple_ok o.program o.info o.number b (owned_change (around o vs w) x y))
owned_ok o vs m w b c rn p q (e.Owns pa z wp) y fx fy h = owner_changes o vs m w b c rn p q pa z wp y fx fy h
owned_ok o vs m w b c rn p q _ y fx fy h = absurd (true≢false (sym fx))

-- ---- claims

claim_end_ok : (o : Setting) (vs : List Variable) → Knows o vs → (w : Context) (b : Bool) (c : Context) → IsTrue (runs c.text) → (n : Counters) (p : Span) (x : Exp) (xs : List Exp) → IsTrue (is_code x) → IsTrue (all_code xs) → Quiet (GhostStatement (at o vs b c) (g.DestroyClaim p x xs) ∷ pieces.in_ghost (at o vs b c) (g.DestroyClaim p x xs))
    → IsTrue (simple_ok o.program o.info o.number b (claim_end (around o vs w) n x xs))
claim_end_ok o vs m w b c rn n p x xs fx fxs h =
    let c2 = at o vs b c in
    let stm = g.DestroyClaim p x xs in
    let parts = quiet_rest (GhostStatement c2 stm) (expression c2 x ++ expressions c2 xs) h in
    let used = piece_converts (GhostStatement c2 stm) (quiet_first (GhostStatement c2 stm) (expression c2 x ++ expressions c2 xs) h r.Conversion) in
    let v = valued o vs m w b c rn x fx (quiet_left (expression c2 x) (expressions c2 xs) parts) in
    let claim = test_some (values o.program o.info (code (around o vs w) x)) v.all (λ z. fits z d.Claim) v.has (to_claim o.items v.sort (integer_type (here o vs) x) v.all (together converts (kind (here o vs) x) (Some kd.Claim) v.sort kd.Claim v.is_kind refl used.0) v.agrees) in
    and_both (is_claim_expr o.program o.info (code (around o vs w) x)) (all_refs o.program o.info (codes (around o vs w) xs)) claim (references_ok o vs m w b c rn xs fxs (quiet_right (expression c2 x) (expressions c2 xs) parts) used.1)

-- ---- right sides

right_fits : (o : Setting) (vs : List Variable) → Knows o vs → (w : Context) (b : Bool) (c : Context) → IsTrue (runs c.text) → (n : Counters) (x : GhostRhs) → IsTrue (form.in_ghost_right x) → Quiet (pieces.ghost_right (at o vs b c) x) → SitesOf o.program o.number n.sites (n.sites + (s.in_claim x).sites)
    → (ty : Ty) (i : Kind) → kind_of o.items ty ≡ Some i → fail_together converts (ghost_right_kind (here o vs) x) (Some i) ≡ false → IsTrue (test (right_values o.program o.info o.number b (ghost_right (around o vs w) n ty x)) (λ v. fits v (declared_type o.items ty)))
right_fits o vs m w b c rn n (g.Value x) f q sites ty i h j = stores o vs w x (valued o vs m w b c rn x f q) ty i h j
right_fits o vs m w b c rn n (g.MakeClaim p xs x) f q sites ty i h j =
    let site = sites n.sites (omega arith) (omega arith) in
    let claim = fit_reference o.items ty kd.Claim i ints.Int (Refs d.Claim) refl h (together converts (Some kd.Claim) (Some i) kd.Claim i refl refl j) refl in
    subst (λ z. IsTrue (test (and_then z (λ u. only_if (u.function == o.number) (Refs d.Claim))) (λ v. fits v (declared_type o.items ty)))) (sym site.1)
    (subst (λ z. IsTrue (test (only_if z (Refs d.Claim)) (λ v. fits v (declared_type o.items ty)))) (sym (equal_numbers site.0.function o.number site.2)) claim)

assign_ok : (o : Setting) (vs : List Variable) → Knows o vs → (w : Context) (b : Bool) (c : Context) → IsTrue (runs c.text) → (n : Counters) (p : Span) (x : Exp) (q : Span) (y : GhostRhs) → IsTrue (is_place x) → IsTrue (form.in_ghost_right y)
    → Quiet (GhostStatement (at o vs b c) (g.Assign p x q y) ∷ pieces.in_ghost (at o vs b c) (g.Assign p x q y)) → SitesOf o.program o.number n.sites (n.sites + (s.in_claim y).sites) → IsTrue (simple_ok o.program o.info o.number b (ghost_assigned (around o vs w) n x y))
assign_ok o vs m w b c rn n p x q y fx fy h sites =
    let c2 = at o vs b c in
    let stm = g.Assign p x q y in
    let parts = quiet_rest (GhostStatement c2 stm) (expression c2 x ++ pieces.ghost_right c2 y) h in
    let used = piece_converts (GhostStatement c2 stm) (quiet_first (GhostStatement c2 stm) (expression c2 x ++ pieces.ghost_right c2 y) h r.Conversion) in
    let place = placed o vs m w b c rn x fx (quiet_left (expression c2 x) (pieces.ghost_right c2 y) parts) in
    place.takes_it (right_values o.program o.info o.number b (ghost_right (around o vs w) n (left_type (here o vs) x) y))
    (right_fits o vs m w b c rn n y fy (quiet_right (expression c2 x) (pieces.ghost_right c2 y) parts) sites (left_type (here o vs) x) place.sort place.of_type (subst (λ z. fail_together converts (ghost_right_kind (here o vs) y) z ≡ false) place.is_kind used.0))

-- ---- declarations

-- a declared variable takes what fits its type
pub variable_takes_it : (o : Setting) (vs : List Variable) (w : Context) (v : Variable) → Numbered o.items o.info o.names v → (u : Option Values) → IsTrue (test u (λ z. fits z (declared_type o.items v.ty))) → IsTrue (takes o.program o.info (t.Local (variable (around o vs w) v.name)) u)
variable_takes_it o vs w v h u j = subst (λ z. IsTrue (variable_takes z u)) (sym h) j

pub variable_within : (o : Setting) (vs : List Variable) (w : Context) (v : Variable) → Numbered o.items o.info o.names v → IsTrue (nat_lt (variable (around o vs w) v.name) (length o.info.variables))
variable_within o vs w v h = within o.info.variables (variable (around o vs w) v.name) (Rattle.typed_program.specs.Tables.variable o.items v) h

-- one more variable is known
pub knows_more : (o : Setting) (vs : List Variable) → Knows o vs → (v : Variable) → Typed o.items (kind_of o.items v.ty) → Numbered o.items o.info o.names v → Knows o (v ∷ vs)
knows_more o vs m v h j = record { known = one_known (here o vs) m.known v h; numbered = go }
  where
    go : (z : Variable) → Contains (v ∷ vs) z → Numbered o.items o.info o.names z
    go z (zero, l, q) = subst (Numbered o.items o.info o.names) q j
    go z (suc n, l, q) = m.numbered z (n, omega arith, q)

declare_ok : (o : Setting) (vs : List Variable) → Knows o vs → (w c : Context) → IsTrue (runs c.text) → (n : Counters) (p : Span) (ty : Ty) (x : Id) (y : GhostRhs) → IsTrue (form.in_ghost_right y)
    → Quiet (GhostStatement (at o vs false c) (g.Declare p ty x (Some y)) ∷ pieces.in_ghost (at o vs false c) (g.Declare p ty x (Some y))) → Numbered o.items o.info o.names (record { name = x; ty = ty; is_ghost = true }) → SitesOf o.program o.number n.sites (n.sites + (s.in_claim y).sites)
    → IsTrue (row_ok o.program o.info o.number (ghost_row (around o vs w) n (g.Declare p ty x (Some y))))
declare_ok o vs m w c rn n p ty x y f h j sites =
    let c2 = at o vs false c in
    let stm = g.Declare p ty x (Some y) in
    let parts = quiet_rest (GhostStatement c2 stm) (struct_name o.items ty ++ pieces.ghost_right c2 y) h in
    let used = piece_converts (GhostStatement c2 stm) (quiet_first (GhostStatement c2 stm) (struct_name o.items ty ++ pieces.ghost_right c2 y) h r.Conversion) in
    let i = kind_known o.items ty (type_typed o.items ty (quiet_left (struct_name o.items ty) (pieces.ghost_right c2 y) parts)) in
    alone _ (variable_takes_it o vs w (record { name = x; ty = ty; is_ghost = true }) j (right_values o.program o.info o.number false (ghost_right (around o vs w) n ty y))
    (right_fits o vs m w false c rn n y f (quiet_right (struct_name o.items ty) (pieces.ghost_right c2 y) parts) sites ty i.0 i.1 (subst (λ z. fail_together converts (ghost_right_kind (here o vs) y) z ≡ false) i.1 used.0)))

-- ---- what is known behind

abbrev pub known_ghosts : List Variable → GStm → List Variable
known_ghosts vs (g.Declare p ty x y) = record { name = x; ty = ty; is_ghost = true } ∷ vs
known_ghosts vs _ = vs

pub around_behind : (o : Setting) (vs : List Variable) (w : Context) (x : GStm) → known_behind_ghost (around o vs w) x ≡ around o (known_ghosts vs x) w
around_behind o vs w (g.Declare p ty x y) = refl
around_behind o vs w _ = refl

pub at_behind : (o : Setting) (vs : List Variable) (b : Bool) (c : Context) (x : GStm) → behind_ghost (at o vs b c) x ≡ at o (known_ghosts vs x) b c
at_behind o vs b c (g.Declare p ty x y) = refl
at_behind o vs b c _ = refl

-- the variables of a ghost statement have their numbers
abbrev pub AllNumbered : Setting → List Variable → Type 0
AllNumbered o xs = (v : Variable) → Contains xs v → Numbered o.items o.info o.names v

pub numbered_left : (o : Setting) (xs ys : List Variable) → AllNumbered o (xs ++ ys) → AllNumbered o xs
numbered_left o xs ys h v c = h v (Contains-append_left xs ys v c)

pub numbered_right : (o : Setting) (xs ys : List Variable) → AllNumbered o (xs ++ ys) → AllNumbered o ys
numbered_right o xs ys h v c = h v (Contains-append_right xs ys v c)

pub knows_ghosts : (o : Setting) (vs : List Variable) → Knows o vs → (b : Bool) (c : Context) (x : GStm) → Quiet (pieces.in_ghost (at o vs b c) x) → AllNumbered o (ghost_declared x) → Knows o (known_ghosts vs x)
knows_ghosts o vs m b c (g.Declare p ty x y) q h =
    knows_more o vs m (record { name = x; ty = ty; is_ghost = true }) (type_typed o.items ty (quiet_left (struct_name o.items ty) (pieces.if_some (pieces.ghost_right (at o vs b c)) y) q)) (h (record { name = x; ty = ty; is_ghost = true }) (0, omega arith, refl))
knows_ghosts o vs m b c _ q h = m

-- ---- ghost statements

mutual
  -- a ghost statement outside of atomic blocks
  pub ghost_ok : (o : Setting) (vs : List Variable) → Knows o vs → (w c : Context) → IsTrue (runs c.text) → (n : Counters) (x : GStm) → IsTrue (form.in_ghost x) → Quiet (GhostStatement (at o vs false c) x ∷ pieces.in_ghost (at o vs false c) x) → AllNumbered o (ghost_declared x)
      → SitesOf o.program o.number n.sites (n.sites + (s.in_ghost x).sites) → IsTrue (row_ok o.program o.info o.number (ghost_row (around o vs w) n x))
  ghost_ok o vs m w c rn n (g.Block p ss) f q h sites = ghosts_ok o vs m w c rn n ss f (quiet_rest _ (pieces.in_ghosts (at o vs false c) ss) q) h sites
  ghost_ok o vs m w c rn n (g.Declare p ty x None) f q h sites =
      let v : Variable = record { name = x; ty = ty; is_ghost = true } in
      alone _ (variable_within o vs w v (h v (0, omega arith, refl)))
  ghost_ok o vs m w c rn n (g.Declare p ty x (Some y)) f q h sites = declare_ok o vs m w c rn n p ty x y f q (h (record { name = x; ty = ty; is_ghost = true }) (0, omega arith, refl)) sites
  ghost_ok o vs m w c rn n (g.Assign p x pq y) f q h sites = alone _ (assign_ok o vs m w false c rn n p x pq y (and_left (is_place x) (form.in_ghost_right y) f) (and_right (is_place x) (form.in_ghost_right y) f) q sites)
  ghost_ok o vs m w c rn n (g.Owns p x pq y) f q h sites = alone _ (owned_ok o vs m w false c rn p pq x y (and_left (form.is_owned_set x) (form.in_owns_effect y) f) (and_right (form.is_owned_set x) (form.in_owns_effect y) f) q)
  ghost_ok o vs m w c rn n (g.DestroyClaim p x xs) f q h sites = alone _ (claim_end_ok o vs m w false c rn n p x xs (and_left (is_code x) (all_code xs) f) (and_right (is_code x) (all_code xs) f) q)
  ghost_ok o vs m w c rn n (g.Wrap p x) f q h sites =
      let v = valued o vs m w false c rn x f (quiet_rest (GhostStatement (at o vs false c) (g.Wrap p x)) (expression (at o vs false c) x) q) in
      let point = pointing o vs w x v (not_placed _ (first_place x) (quiet_first (GhostStatement (at o vs false c) (g.Wrap p x)) (expression (at o vs false c) x) q r.WrapOperand)) in
      alone _ (and_both _ _ (wrap_struct o vs w x point) (wrap_pointer o vs w x point))
  ghost_ok o vs m w c rn n (g.Unwrap p x) f q h sites =
      let v = valued o vs m w false c rn x f (quiet_rest (GhostStatement (at o vs false c) (g.Unwrap p x)) (expression (at o vs false c) x) q) in
      let point = pointing o vs w x v (not_placed _ (first_place x) (quiet_first (GhostStatement (at o vs false c) (g.Unwrap p x)) (expression (at o vs false c) x) q r.WrapOperand)) in
      alone _ (unwrap_pointer o vs w x point)
  ghost_ok o vs m w c rn n (g.If p x y) f q h sites =
      let c2 = at o vs false c in
      let parts = quiet_rest (GhostStatement c2 (g.If p x y)) (expression c2 x ++ (GhostStatement c2 y ∷ pieces.in_ghost c2 y)) q in
      let v = valued o vs m w false c rn x (and_left (is_code x) (form.in_ghost y) f) (quiet_left (expression c2 x) (GhostStatement c2 y ∷ pieces.in_ghost c2 y) parts) in
      let body = ghost_ok o vs m w c rn n y (and_right (is_code x) (form.in_ghost y) f) (quiet_right (expression c2 x) (GhostStatement c2 y ∷ pieces.in_ghost c2 y) parts) h sites in
      alone _ (and_both _ _ (tested o vs w x v) (alone _ body))
  ghost_ok o vs m w c rn n (g.IfElse p x y z) f q h sites =
      let c2 = at o vs false c in
      let first = GhostStatement c2 y ∷ pieces.in_ghost c2 y in
      let second = GhostStatement c2 z ∷ pieces.in_ghost c2 z in
      let parts = quiet_rest (GhostStatement c2 (g.IfElse p x y z)) (expression c2 x ++ (first ++ second)) q in
      let both = quiet_right (expression c2 x) (first ++ second) parts in
      let forms = and_right (is_code x) (form.in_ghost y && form.in_ghost z) f in
      let v = valued o vs m w false c rn x (and_left (is_code x) (form.in_ghost y && form.in_ghost z) f) (quiet_left (expression c2 x) (first ++ second) parts) in
      let one = ghost_ok o vs m w c rn n y (and_left (form.in_ghost y) (form.in_ghost z) forms) (quiet_left first second both) (numbered_left o (ghost_declared y) (ghost_declared z) h) (fewer o.program o.number _ _ _ _ sites (omega arith) (omega arith)) in
      let other = ghost_ok o vs m w c rn (plus n (s.in_ghost y)) z (and_right (form.in_ghost y) (form.in_ghost z) forms) (quiet_right first second both) (numbered_right o (ghost_declared y) (ghost_declared z) h) (fewer o.program o.number _ _ _ _ sites (omega arith) (omega arith)) in
      alone _ (and_both _ _ (tested o vs w x v) (and_both _ _ one other))

  pub ghosts_ok : (o : Setting) (vs : List Variable) → Knows o vs → (w c : Context) → IsTrue (runs c.text) → (n : Counters) (xs : GStms) → IsTrue (form.in_ghosts xs) → Quiet (pieces.in_ghosts (at o vs false c) xs) → AllNumbered o (ghosts_declared xs)
      → SitesOf o.program o.number n.sites (n.sites + (s.in_ghosts xs).sites) → IsTrue (row_ok o.program o.info o.number (ghost_rows (around o vs w) n xs))
  ghosts_ok o vs m w c rn n g.Empty f q h sites = refl
  ghosts_ok o vs m w c rn n (g.More x xs) f q h sites =
      let c2 = at o vs false c in
      let first = GhostStatement c2 x ∷ pieces.in_ghost c2 x in
      let rest = pieces.in_ghosts (behind_ghost c2 x) xs in
      let front = quiet_left first rest q in
      let one = ghost_ok o vs m w c rn n x (and_left (form.in_ghost x) (form.in_ghosts xs) f) front (numbered_left o (ghost_declared x) (ghosts_declared xs) h) (fewer o.program o.number _ _ _ _ sites (omega arith) (omega arith)) in
      let more = knows_ghosts o vs m false c x (quiet_rest (GhostStatement c2 x) (pieces.in_ghost c2 x) front) (numbered_left o (ghost_declared x) (ghosts_declared xs) h) in
      let others = ghosts_ok o (known_ghosts vs x) more w c rn (plus n (s.in_ghost x)) xs (and_right (form.in_ghost x) (form.in_ghosts xs) f) (subst (λ z. Quiet (pieces.in_ghosts z xs)) (at_behind o vs false c x) (quiet_right first rest q))
      (numbered_right o (ghost_declared x) (ghosts_declared xs) h) (fewer o.program o.number _ _ _ _ sites (omega arith) (omega arith)) in
      append_ok o (ghost_row (around o vs w) n x) (ghost_rows (known_behind_ghost (around o vs w) x) (plus n (s.in_ghost x)) xs) one (subst (λ z. IsTrue (row_ok o.program o.info o.number (ghost_rows z (plus n (s.in_ghost x)) xs))) (sym (around_behind o vs w x)) others)

mutual
  -- a ghost statement within an atomic block
  pub inner_ghost_ok : (o : Setting) (vs : List Variable) → Knows o vs → (w c : Context) → IsTrue (runs c.text) → (n : Counters) (x : GStm) → IsTrue (form.in_ghost x) → Quiet (GhostStatement (at o vs true c) x ∷ pieces.in_ghost (at o vs true c) x) → AllNumbered o (ghost_declared x)
      → SitesOf o.program o.number n.sites (n.sites + (s.in_ghost x).sites) → IsTrue (inner_row_ok o.program o.info o.number (inner_ghost (around o vs w) n x))
  inner_ghost_ok o vs m w c rn n (g.Block p ss) f q h sites = inner_ghosts_ok o vs m w c rn n ss f (quiet_rest _ (pieces.in_ghosts (at o vs true c) ss) q) h sites
  inner_ghost_ok o vs m w c rn n (g.Declare p ty x y) f q h sites = refl
  inner_ghost_ok o vs m w c rn n (g.Assign p x pq y) f q h sites = alone _ (assign_ok o vs m w true c rn n p x pq y (and_left (is_place x) (form.in_ghost_right y) f) (and_right (is_place x) (form.in_ghost_right y) f) q sites)
  inner_ghost_ok o vs m w c rn n (g.Owns p x pq y) f q h sites = alone _ (owned_ok o vs m w true c rn p pq x y (and_left (form.is_owned_set x) (form.in_owns_effect y) f) (and_right (form.is_owned_set x) (form.in_owns_effect y) f) q)
  inner_ghost_ok o vs m w c rn n (g.DestroyClaim p x xs) f q h sites = alone _ (claim_end_ok o vs m w true c rn n p x xs (and_left (is_code x) (all_code xs) f) (and_right (is_code x) (all_code xs) f) q)
  inner_ghost_ok o vs m w c rn n (g.Wrap p x) f q h sites = refl
  inner_ghost_ok o vs m w c rn n (g.Unwrap p x) f q h sites = refl
  inner_ghost_ok o vs m w c rn n (g.If p x y) f q h sites =
      let c2 = at o vs true c in
      let parts = quiet_rest (GhostStatement c2 (g.If p x y)) (expression c2 x ++ (GhostStatement c2 y ∷ pieces.in_ghost c2 y)) q in
      let v = valued o vs m w true c rn x (and_left (is_code x) (form.in_ghost y) f) (quiet_left (expression c2 x) (GhostStatement c2 y ∷ pieces.in_ghost c2 y) parts) in
      let body = inner_ghost_ok o vs m w c rn n y (and_right (is_code x) (form.in_ghost y) f) (quiet_right (expression c2 x) (GhostStatement c2 y ∷ pieces.in_ghost c2 y) parts) h sites in
      alone _ (and_both _ _ (tested o vs w x v) (alone _ body))
  inner_ghost_ok o vs m w c rn n (g.IfElse p x y z) f q h sites =
      let c2 = at o vs true c in
      let first = GhostStatement c2 y ∷ pieces.in_ghost c2 y in
      let second = GhostStatement c2 z ∷ pieces.in_ghost c2 z in
      let parts = quiet_rest (GhostStatement c2 (g.IfElse p x y z)) (expression c2 x ++ (first ++ second)) q in
      let both = quiet_right (expression c2 x) (first ++ second) parts in
      let forms = and_right (is_code x) (form.in_ghost y && form.in_ghost z) f in
      let v = valued o vs m w true c rn x (and_left (is_code x) (form.in_ghost y && form.in_ghost z) f) (quiet_left (expression c2 x) (first ++ second) parts) in
      let one = inner_ghost_ok o vs m w c rn n y (and_left (form.in_ghost y) (form.in_ghost z) forms) (quiet_left first second both) (numbered_left o (ghost_declared y) (ghost_declared z) h) (fewer o.program o.number _ _ _ _ sites (omega arith) (omega arith)) in
      let other = inner_ghost_ok o vs m w c rn (plus n (s.in_ghost y)) z (and_right (form.in_ghost y) (form.in_ghost z) forms) (quiet_right first second both) (numbered_right o (ghost_declared y) (ghost_declared z) h) (fewer o.program o.number _ _ _ _ sites (omega arith) (omega arith)) in
      alone _ (and_both _ _ (tested o vs w x v) (and_both _ _ one other))

  pub inner_ghosts_ok : (o : Setting) (vs : List Variable) → Knows o vs → (w c : Context) → IsTrue (runs c.text) → (n : Counters) (xs : GStms) → IsTrue (form.in_ghosts xs) → Quiet (pieces.in_ghosts (at o vs true c) xs) → AllNumbered o (ghosts_declared xs)
      → SitesOf o.program o.number n.sites (n.sites + (s.in_ghosts xs).sites) → IsTrue (inner_row_ok o.program o.info o.number (inner_ghosts (around o vs w) n xs))
  inner_ghosts_ok o vs m w c rn n g.Empty f q h sites = refl
  inner_ghosts_ok o vs m w c rn n (g.More x xs) f q h sites =
      let c2 = at o vs true c in
      let first = GhostStatement c2 x ∷ pieces.in_ghost c2 x in
      let rest = pieces.in_ghosts (behind_ghost c2 x) xs in
      let front = quiet_left first rest q in
      let one = inner_ghost_ok o vs m w c rn n x (and_left (form.in_ghost x) (form.in_ghosts xs) f) front (numbered_left o (ghost_declared x) (ghosts_declared xs) h) (fewer o.program o.number _ _ _ _ sites (omega arith) (omega arith)) in
      let more = knows_ghosts o vs m true c x (quiet_rest (GhostStatement c2 x) (pieces.in_ghost c2 x) front) (numbered_left o (ghost_declared x) (ghosts_declared xs) h) in
      let others = inner_ghosts_ok o (known_ghosts vs x) more w c rn (plus n (s.in_ghost x)) xs (and_right (form.in_ghost x) (form.in_ghosts xs) f) (subst (λ z. Quiet (pieces.in_ghosts z xs)) (at_behind o vs true c x) (quiet_right first rest q))
      (numbered_right o (ghost_declared x) (ghosts_declared xs) h) (fewer o.program o.number _ _ _ _ sites (omega arith) (omega arith)) in
      append_inner_ok o (inner_ghost (around o vs w) n x) (inner_ghosts (known_behind_ghost (around o vs w) x) (plus n (s.in_ghost x)) xs) one (subst (λ z. IsTrue (inner_row_ok o.program o.info o.number (inner_ghosts z (plus n (s.in_ghost x)) xs))) (sym (around_behind o vs w x)) others)
