-- Bodies that break no rule read and declare what they may.
use Rattle.std.specs.Prelude.{ℕ, zero, suc, ◌+◌, ◌≤◌, ◌==◌, nat_lt, true, false, not, ◌&&◌, List, [], ◌∷◌, ◌++◌, length, Option, Some, None, bytes_eq, IsTrue}
use Rattle.std.proofs.Common.{◌≡◌, refl, sym, ap, subst, ◌∙◌, arith}
use Rattle.std.proofs.lemmas.Bool.{eq-eqb}
use Rattle.std.proofs.lemmas.Option.{same_Some}
use Rattle.std.proofs.lemmas.List.{length-append}
use Rattle.c_syntax.specs.declared.token.Span.{Span}
use Rattle.c_syntax.specs.Expressions as e
use Rattle.c_syntax.specs.Expressions.{Id, Ty, Exp, Rhs, Effect, Assignment, CallTree}
use Rattle.c_syntax.specs.Grammar.{first_place}
use Rattle.c_syntax.specs.Ghosts as g
use Rattle.c_syntax.specs.Ghosts.{GhostRhs, GStm, GStms}
use Rattle.c_syntax.specs.Statements as st
use Rattle.c_syntax.specs.Statements.{Inv, Stm, Stms}
use Rattle.object_types.specs.Sets.{every}
use Rattle.typing_spec.specs.Contexts as texts
use Rattle.typing_spec.specs.Contexts.{Variable, Context, with_variable, ghost, inside_atomic, inside_unwrapping}
use Rattle.typing_spec.specs.Rules as r
use Rattle.typing_spec.specs.Pieces as pieces
use Rattle.typing_spec.specs.Pieces.{Statement, GhostStatement, Assigned, struct_name, expression, expressions, if_some, assignment, following, behind_ghost}
use Rattle.typing_spec.specs.TypeLaws.{Quiet}
use Rattle.method.specs.Typing.{is_named}
use Rattle.typed_program.specs.Trees.{ClaimSite, Shape}
use Rattle.typed_program.specs.Shapes.{Sorts}
use Rattle.typed_program.specs.Numbers.{Around, place_of}
use Rattle.typed_program.specs.Codes.{code}
use Rattle.typed_program.specs.Variables.{ghost_declared, ghosts_declared, declared, all_declared}
use Rattle.typed_program.specs.Sites.{ghost_occurrences, ghosts_occurrences, occurrences, all_occurrences, invariants_say}
use Rattle.typed_program.specs.Statements as s
use Rattle.typed_program.specs.Statements.{Counters, plus, plus_formulas, in_invariants, one, append, variable, target, changed, assigned_by, maybe_assigned, defined, returned, ghost_right, ghost_row, ghost_rows, inner_ghost, inner_ghosts, inner_row, inner_rows, row, rows, known_behind, known_behind_ghost}
use Rattle.tree_forms.specs.InForm as form
use Rattle.tree_forms.specs.InForm.{is_code, is_place, all_code, if_any}
use Rattle.typed_laws.proofs.Basics.{and_both, and_left, and_right, or_first, or_second}
use Rattle.typed_laws.proofs.Quiet.{quiet_left, quiet_right, quiet_first, quiet_rest}
use Rattle.typed_laws.proofs.Ghosts.{alone}
use Rattle.typed_laws.proofs.TableSites.{ghost_sited, invariants_silent, statement_sited}
use Rattle.typed_laws.proofs.SpecSites.{scope_behind_ghost, scope_behind}
use Rattle.typed_laws.proofs.Makes.{not_inside, behind_inside, statement_inside}
use Rattle.typed_laws.proofs.ScopeTests.{known, code_in, target_in, right_in, inner_row_in}
use Rattle.typed_laws.proofs.ScopeReads.{Reads, code_read, stored_read, spec_read}
use Rattle.typed_laws.proofs.ScopeSites.{Firsts}
use Rattle.typed_laws.proofs.ScopeParts.{SitesAt, arguments_read, right_read, changed_read, owned_read, end_read, listed_read, invariants_read, target_read, ghost_right_read, ghost_assigned_read}
use Rattle.typed_laws.proofs.ScopeRows.{Counted, counted_left, counted_right, told_left, told_right, told_behind, unknown, behind_row, still_known, inner_append, Fine, fine_both, fine_none, fine_one, fine_declared, Standing, later, further}

module _ (sites : List ClaimSite) (parameters : ℕ) (l : List Shape) (z : Sorts) (k : ℕ) (names : List (List ℕ)) (firsts : Firsts names) where
  -- ---- around a statement

  module _ (a : Around) (is : List ℕ) (m : ℕ) (h : Standing sites parameters names a is m) where
    firsts_here : Firsts a.names
    firsts_here = subst Firsts (sym h.names_are) firsts

    number_here : (v : Variable) → Counted names m (v ∷ []) → variable a v.name ≡ m
    number_here v d = ap (λ (ns : List (List ℕ)). place_of (λ n. bytes_eq n v.name.name) ns) h.names_are ∙ d.0

    fresh : (x : Id) → variable a x ≡ m → IsTrue (not (known sites parameters is (variable a x)))
    fresh x e = subst (λ i. IsTrue (not (known sites parameters is i))) (sym e) (unknown sites parameters m is h.low h.below)

    code_here : (x : Exp) → IsTrue (code_in sites parameters is (code a x))
    code_here = code_read sites parameters is a h.reads

  newest : (is : List ℕ) (i : ℕ) → IsTrue (known sites parameters (i ∷ is) i)
  newest is i = or_second (nat_lt i parameters) (is_named (i ∷ is) i) (or_first (i == i) (is_named is i) (eq-eqb i i refl))

  -- one more variable is known
  one_known : (a : Around) (is js : List ℕ) (m n : ℕ) → Standing sites parameters names a is m → m ≤ n → IsTrue (every (λ j. nat_lt j n) js) → ((i : ℕ) → IsTrue (known sites parameters is i) → IsTrue (known sites parameters js i)) → (v : Variable) → IsTrue (known sites parameters js (place_of (λ w. bytes_eq w v.name.name) a.names))
      → Standing sites parameters names (record a { context = with_variable v a.context }) js n
  one_known a is js m n h less below keeps v here = record { names_are = h.names_are; no_bound = h.no_bound; no_this = h.no_this; reads = reads; low = omega (arith, h.low, less); below = below }
    where
      reads : Reads sites parameters js (record a { context = with_variable v a.context })
      reads zero w g b = subst (λ (x : Variable). IsTrue (known sites parameters js (place_of (λ n. bytes_eq n x.name.name) a.names))) (same_Some v w g) here
      reads (suc i) w g b = keeps _ (h.reads i w g (omega (arith, h.no_bound)))

  -- ---- ghost statements

  ghost_behind : (a : Around) (is : List ℕ) (m j : ℕ) → Standing sites parameters names a is m → (n : Counters) (x : GStm) → m ≤ j → Fine sites parameters is j (ghost_row a n x) → Standing sites parameters names (known_behind_ghost a x) (behind_row sites parameters is (ghost_row a n x)) j
  ghost_behind a is m j h n (g.Declare p ty x None) less d = one_known a is _ m j h less d.after (λ i. still_known sites parameters is (ghost_row a n (g.Declare p ty x None)) i) (record { name = x; ty = ty; is_ghost = true }) (newest is (variable a x))
  ghost_behind a is m j h n (g.Declare p ty x (Some y)) less d = one_known a is _ m j h less d.after (λ i. still_known sites parameters is (ghost_row a n (g.Declare p ty x (Some y))) i) (record { name = x; ty = ty; is_ghost = true }) (newest is (variable a x))
  ghost_behind a is m j h n x less d = later sites parameters names a is m j (ghost_row a n x) less h d

  mutual
    ghost_fine : (a : Around) (is : List ℕ) (m j : ℕ) → Standing sites parameters names a is m → (c : Context) → c.scope ≡ a.context.scope → (n : Counters) (x : GStm) → IsTrue (form.in_ghost x) → Quiet (pieces.in_ghost c x) → Counted names m (ghost_declared x) → m + length (ghost_declared x) ≤ j
        → SitesAt sites l z n.sites (ghost_occurrences a k x) → Fine sites parameters is j (ghost_row a n x)
    ghost_fine a is m j h c same n (g.Block p ss) f q d less told = ghosts_fine a is m j h c same n ss f q d less told
    ghost_fine a is m j h c same n (g.Declare p ty x None) f q d less told =
        let e = number_here a is m h (record { name = x; ty = ty; is_ghost = true }) d in
        fine_declared sites parameters is m j _ (omega (arith, less)) h.below (ap (λ i. i ∷ []) e) (fresh a is m h x e)
    ghost_fine a is m j h c same n (g.Declare p ty x (Some y)) f q d less told =
        let e = number_here a is m h (record { name = x; ty = ty; is_ghost = true }) d in
        let right = ghost_right_read sites parameters is a h.reads h.no_bound h.no_this c same (firsts_here a is m h) l z k p.line n ty y (quiet_right (struct_name c.scope.items ty) (pieces.ghost_right c y) q) told in
        fine_declared sites parameters is m j _ (omega (arith, less)) h.below (ap (λ i. i ∷ []) e) (and_both (right_in sites parameters is (ghost_right a n ty y)) _ right (fresh a is m h x e))
    ghost_fine a is m j h c same n (g.Assign p x pq y) f q d less told =
        fine_one sites parameters is m j _ (omega (arith, less)) h.below refl
        (ghost_assigned_read sites parameters is a h.reads h.no_bound h.no_this c same (firsts_here a is m h) l z k p.line n x y (and_left (is_place x) (form.in_ghost_right y) f) q told)
    ghost_fine a is m j h c same n (g.Owns p x pq y) f q d less told = fine_one sites parameters is m j _ (omega (arith, less)) h.below refl (owned_read sites parameters is a h.reads x y)
    ghost_fine a is m j h c same n (g.DestroyClaim p x xs) f q d less told = fine_one sites parameters is m j _ (omega (arith, less)) h.below refl (end_read sites parameters is a h.reads n x xs)
    ghost_fine a is m j h c same n (g.Wrap p x) f q d less told = fine_one sites parameters is m j _ (omega (arith, less)) h.below refl (code_here a is m h x)
    ghost_fine a is m j h c same n (g.Unwrap p x) f q d less told = fine_one sites parameters is m j _ (omega (arith, less)) h.below refl (code_here a is m h x)
    ghost_fine a is m j h c same n (g.If p x y) f q d less told =
        let own = GhostStatement c y ∷ pieces.in_ghost c y in
        let body = ghost_fine a is m j h c same n y (and_right (is_code x) (form.in_ghost y) f) (quiet_rest (GhostStatement c y) (pieces.in_ghost c y) (quiet_right (expression c x) own q)) d less told in
        fine_one sites parameters is m j _ (omega (arith, less)) h.below refl (and_both _ _ (code_here a is m h x) (alone _ body.fits))
    ghost_fine a is m j h c same n (g.IfElse p x y u) f q d less told =
        let first = GhostStatement c y ∷ pieces.in_ghost c y in
        let second = GhostStatement c u ∷ pieces.in_ghost c u in
        let both = quiet_right (expression c x) (first ++ second) q in
        let forms = and_right (is_code x) (form.in_ghost y && form.in_ghost u) f in
        let long = length-append (ghost_declared y) (ghost_declared u) in
        let next : m ≤ m + length (ghost_declared y) = omega arith in
        let one = ghost_fine a is m j h c same n y (and_left (form.in_ghost y) (form.in_ghost u) forms) (quiet_rest (GhostStatement c y) (pieces.in_ghost c y) (quiet_left first second both)) (counted_left names m (ghost_declared y) (ghost_declared u) d) (omega (arith, less, long))
        (told_left sites l z n.sites (ghost_occurrences a k y) (ghost_occurrences a k u) told) in
        let other = ghost_fine a is (m + length (ghost_declared y)) j (further sites parameters names a is m _ next h) c same (plus n (s.in_ghost y)) u (and_right (form.in_ghost y) (form.in_ghost u) forms)
        (quiet_rest (GhostStatement c u) (pieces.in_ghost c u) (quiet_right first second both)) (counted_right names m (ghost_declared y) (ghost_declared u) d) (omega (arith, less, long)) (told_right sites l z n.sites (s.in_ghost y).sites (ghost_occurrences a k y) (ghost_occurrences a k u) (ghost_sited a k y).0 told) in
        fine_one sites parameters is m j _ (omega (arith, less)) h.below refl (and_both _ _ (code_here a is m h x) (and_both _ _ one.fits other.fits))

    ghosts_fine : (a : Around) (is : List ℕ) (m j : ℕ) → Standing sites parameters names a is m → (c : Context) → c.scope ≡ a.context.scope → (n : Counters) (xs : GStms) → IsTrue (form.in_ghosts xs) → Quiet (pieces.in_ghosts c xs) → Counted names m (ghosts_declared xs) → m + length (ghosts_declared xs) ≤ j
        → SitesAt sites l z n.sites (ghosts_occurrences a k xs) → Fine sites parameters is j (ghost_rows a n xs)
    ghosts_fine a is m j h c same n g.Empty f q d less told = fine_none sites parameters is m j (omega (arith, less)) h.below
    ghosts_fine a is m j h c same n (g.More x xs) f q d less told =
        let b = known_behind_ghost a x in
        let first = GhostStatement c x ∷ pieces.in_ghost c x in
        let rest = pieces.in_ghosts (behind_ghost c x) xs in
        let long = length-append (ghost_declared x) (ghosts_declared xs) in
        let upto = m + length (ghost_declared x) in
        let here : upto ≤ upto = omega arith in
        let next : m ≤ upto = omega arith in
        let one = ghost_fine a is m upto h c same n x (and_left (form.in_ghost x) (form.in_ghosts xs) f) (quiet_rest (GhostStatement c x) (pieces.in_ghost c x) (quiet_left first rest q)) (counted_left names m (ghost_declared x) (ghosts_declared xs) d) here
        (told_left sites l z n.sites (ghost_occurrences a k x) (ghosts_occurrences b k xs) told) in
        let others = ghosts_fine b (behind_row sites parameters is (ghost_row a n x)) upto j (ghost_behind a is m upto h n x next one) (behind_ghost c x) (scope_behind_ghost a c same x) (plus n (s.in_ghost x)) xs (and_right (form.in_ghost x) (form.in_ghosts xs) f)
        (quiet_right first rest q) (counted_right names m (ghost_declared x) (ghosts_declared xs) d) (omega (arith, less, long)) (told_right sites l z n.sites (s.in_ghost x).sites (ghost_occurrences a k x) (ghosts_occurrences b k xs) (ghost_sited a k x).0 told) in
        fine_both sites parameters is upto j (ghost_row a n x) (ghost_rows b (plus n (s.in_ghost x)) xs) one others

  -- ---- within atomic blocks

  -- what is known stays, since nothing is declared there
  ghost_inside : (a : Around) (is : List ℕ) (m : ℕ) → Standing sites parameters names a is m → (c : Context) → c.in_atomic ≡ true → (x : GStm) → Quiet (GhostStatement c x ∷ pieces.in_ghost c x) → Standing sites parameters names (known_behind_ghost a x) is m
  ghost_inside a is m h c i (g.Declare p ty x y) q = not_inside c.in_atomic i p (quiet_first (GhostStatement c (g.Declare p ty x y)) _ q r.InAtomic)
  ghost_inside a is m h c i _ q = h

  statement_inside_known : (a : Around) (is : List ℕ) (m : ℕ) → Standing sites parameters names a is m → (c : Context) → c.in_atomic ≡ true → (x : Stm) → Quiet (Statement c x ∷ pieces.in_statement c x) → Standing sites parameters names (known_behind a x) is m
  statement_inside_known a is m h c i (st.Declare p ty x y) q = not_inside c.in_atomic i p (quiet_first (Statement c (st.Declare p ty x y)) _ q r.InAtomic)
  statement_inside_known a is m h c i (st.Ghost p x) q = ghost_inside a is m h (ghost c) i x (quiet_rest (Statement c (st.Ghost p x)) (GhostStatement (ghost c) x ∷ pieces.in_ghost (ghost c) x) q)
  statement_inside_known a is m h c i _ q = h

  mutual
    inner_ghost_fine : (a : Around) (is : List ℕ) (m : ℕ) → Standing sites parameters names a is m → (c : Context) → c.scope ≡ a.context.scope → c.in_atomic ≡ true → (n : Counters) (x : GStm) → IsTrue (form.in_ghost x) → Quiet (GhostStatement c x ∷ pieces.in_ghost c x) → SitesAt sites l z n.sites (ghost_occurrences a k x)
        → IsTrue (inner_row_in sites parameters is (inner_ghost a n x))
    inner_ghost_fine a is m h c same i n (g.Block p ss) f q told = inner_ghosts_fine a is m h c same i n ss f (quiet_rest (GhostStatement c (g.Block p ss)) (pieces.in_ghosts c ss) q) told
    inner_ghost_fine a is m h c same i n (g.Assign p x pq y) f q told =
        alone _ (ghost_assigned_read sites parameters is a h.reads h.no_bound h.no_this c same (firsts_here a is m h) l z k p.line n x y (and_left (is_place x) (form.in_ghost_right y) f) (quiet_rest (GhostStatement c (g.Assign p x pq y)) (expression c x ++ pieces.ghost_right c y) q) told)
    inner_ghost_fine a is m h c same i n (g.Owns p x pq y) f q told = alone _ (owned_read sites parameters is a h.reads x y)
    inner_ghost_fine a is m h c same i n (g.DestroyClaim p x xs) f q told = alone _ (end_read sites parameters is a h.reads n x xs)
    inner_ghost_fine a is m h c same i n (g.If p x y) f q told =
        let own = GhostStatement c y ∷ pieces.in_ghost c y in
        let body = inner_ghost_fine a is m h c same i n y (and_right (is_code x) (form.in_ghost y) f) (quiet_right (expression c x) own (quiet_rest (GhostStatement c (g.If p x y)) (expression c x ++ own) q)) told in
        alone _ (and_both _ _ (code_here a is m h x) (alone _ body))
    inner_ghost_fine a is m h c same i n (g.IfElse p x y u) f q told =
        let first = GhostStatement c y ∷ pieces.in_ghost c y in
        let second = GhostStatement c u ∷ pieces.in_ghost c u in
        let both = quiet_right (expression c x) (first ++ second) (quiet_rest (GhostStatement c (g.IfElse p x y u)) (expression c x ++ (first ++ second)) q) in
        let forms = and_right (is_code x) (form.in_ghost y && form.in_ghost u) f in
        let one = inner_ghost_fine a is m h c same i n y (and_left (form.in_ghost y) (form.in_ghost u) forms) (quiet_left first second both) (told_left sites l z n.sites (ghost_occurrences a k y) (ghost_occurrences a k u) told) in
        let other = inner_ghost_fine a is m h c same i (plus n (s.in_ghost y)) u (and_right (form.in_ghost y) (form.in_ghost u) forms) (quiet_right first second both) (told_right sites l z n.sites (s.in_ghost y).sites (ghost_occurrences a k y) (ghost_occurrences a k u) (ghost_sited a k y).0 told) in
        alone _ (and_both _ _ (code_here a is m h x) (and_both _ _ one other))
    inner_ghost_fine a is m h c same i n _ f q told = refl

    inner_ghosts_fine : (a : Around) (is : List ℕ) (m : ℕ) → Standing sites parameters names a is m → (c : Context) → c.scope ≡ a.context.scope → c.in_atomic ≡ true → (n : Counters) (xs : GStms) → IsTrue (form.in_ghosts xs) → Quiet (pieces.in_ghosts c xs) → SitesAt sites l z n.sites (ghosts_occurrences a k xs)
        → IsTrue (inner_row_in sites parameters is (inner_ghosts a n xs))
    inner_ghosts_fine a is m h c same i n g.Empty f q told = refl
    inner_ghosts_fine a is m h c same i n (g.More x xs) f q told =
        let b = known_behind_ghost a x in
        let first = GhostStatement c x ∷ pieces.in_ghost c x in
        let rest = pieces.in_ghosts (behind_ghost c x) xs in
        let front = quiet_left first rest q in
        inner_append sites parameters is (inner_ghost a n x) (inner_ghosts b (plus n (s.in_ghost x)) xs) (inner_ghost_fine a is m h c same i n x (and_left (form.in_ghost x) (form.in_ghosts xs) f) front (told_left sites l z n.sites (ghost_occurrences a k x) (ghosts_occurrences b k xs) told))
        (inner_ghosts_fine b is m (ghost_inside a is m h c i x front) (behind_ghost c x) (scope_behind_ghost a c same x) (behind_inside c x ∙ i) (plus n (s.in_ghost x)) xs (and_right (form.in_ghost x) (form.in_ghosts xs) f) (quiet_right first rest q)
        (told_right sites l z n.sites (s.in_ghost x).sites (ghost_occurrences a k x) (ghosts_occurrences b k xs) (ghost_sited a k x).0 told))

  mutual
    inner_fine : (a : Around) (is : List ℕ) (m : ℕ) → Standing sites parameters names a is m → (c : Context) → c.scope ≡ a.context.scope → c.in_atomic ≡ true → (n : Counters) (x : Stm) → IsTrue (form.in_statement x) → Quiet (Statement c x ∷ pieces.in_statement c x) → SitesAt sites l z n.sites (occurrences a k x)
        → IsTrue (inner_row_in sites parameters is (inner_row a n x))
    inner_fine a is m h c same i n (st.Block p ss pe) f q told = inners_fine a is m h c same i n ss f (quiet_rest (Statement c (st.Block p ss pe)) (pieces.in_statements c ss) q) told
    inner_fine a is m h c same i n (st.Assign p x) f q told =
        let parts = quiet_rest (Assigned c x) (expression c x.left ++ pieces.effect c x.effect) (quiet_rest (Statement c (st.Assign p x)) (assignment c x) q) in
        alone _ (and_both _ _ (target_read sites parameters is a h.reads h.no_bound h.no_this c same x.left (and_left (is_place x.left) (form.in_effect x.effect) f) (quiet_left (expression c x.left) (pieces.effect c x.effect) parts)) (changed_read sites parameters is a h.reads x.left x.effect))
    inner_fine a is m h c same i n (st.Ghost p x) f q told = inner_ghost_fine a is m h (ghost c) same i n x f (quiet_rest (Statement c (st.Ghost p x)) (GhostStatement (ghost c) x ∷ pieces.in_ghost (ghost c) x) q) told
    inner_fine a is m h c same i n _ f q told = refl

    inners_fine : (a : Around) (is : List ℕ) (m : ℕ) → Standing sites parameters names a is m → (c : Context) → c.scope ≡ a.context.scope → c.in_atomic ≡ true → (n : Counters) (xs : Stms) → IsTrue (form.in_statements xs) → Quiet (pieces.in_statements c xs) → SitesAt sites l z n.sites (all_occurrences a k xs)
        → IsTrue (inner_row_in sites parameters is (inner_rows a n xs))
    inners_fine a is m h c same i n st.Empty f q told = refl
    inners_fine a is m h c same i n (st.More x xs) f q told =
        let b = known_behind a x in
        let first = Statement c x ∷ pieces.in_statement c x in
        let rest = pieces.in_statements (following c x) xs in
        let front = quiet_left first rest q in
        inner_append sites parameters is (inner_row a n x) (inner_rows b (plus n (s.in_statement x)) xs) (inner_fine a is m h c same i n x (and_left (form.in_statement x) (form.in_statements xs) f) front (told_left sites l z n.sites (occurrences a k x) (all_occurrences b k xs) told))
        (inners_fine b is m (statement_inside_known a is m h c i x front) (following c x) (scope_behind a c same x) (statement_inside c x ∙ i) (plus n (s.in_statement x)) xs (and_right (form.in_statement x) (form.in_statements xs) f) (quiet_right first rest q)
        (told_right sites l z n.sites (s.in_statement x).sites (occurrences a k x) (all_occurrences b k xs) (statement_sited a k x).0 told))

  -- ---- statements

  assigned_fine : (a : Around) (is : List ℕ) (m j : ℕ) → Standing sites parameters names a is m → (c : Context) → c.scope ≡ a.context.scope → m ≤ j → (line : ℕ) (x : Exp) (p : Span) (y : Effect) → IsTrue (is_place x) → Quiet (assignment c (record { left = x; place = p; effect = y })) → Fine sites parameters is j (one (assigned_by a line x y))
  assigned_fine a is m j h c same less line x p y f q = go y (changed_read sites parameters is a h.reads x y)
    where
      target_fits : IsTrue (target_in sites parameters is (target a x))
      target_fits = target_read sites parameters is a h.reads h.no_bound h.no_this c same x f (quiet_left (expression c x) (pieces.effect c y) (quiet_rest (Assigned c (record { left = x; place = p; effect = y })) (expression c x ++ pieces.effect c y) q))

      go : (y : Effect) → IsTrue (right_in sites parameters is (changed a x y)) → Fine sites parameters is j (one (assigned_by a line x y))
      go (e.Set (e.Called u)) k = fine_one sites parameters is m j _ less h.below refl (and_both _ _ target_fits (arguments_read sites parameters is a h.reads u))
      go (e.Set (e.Value u)) k = fine_one sites parameters is m j _ less h.below refl (and_both _ _ target_fits k)
      go (e.Set (e.Malloc u o v)) k = fine_one sites parameters is m j _ less h.below refl (and_both _ _ target_fits k)
      go (e.Set (e.Locked u v)) k = fine_one sites parameters is m j _ less h.below refl (and_both _ _ target_fits k)
      go (e.Add u) k = fine_one sites parameters is m j _ less h.below refl (and_both _ _ target_fits k)
      go (e.Subtract u) k = fine_one sites parameters is m j _ less h.below refl (and_both _ _ target_fits k)
      go e.Increment k = fine_one sites parameters is m j _ less h.below refl (and_both _ _ target_fits k)
      go e.Decrement k = fine_one sites parameters is m j _ less h.below refl (and_both _ _ target_fits k)

  maybe_fine : (a : Around) (is : List ℕ) (m j : ℕ) → Standing sites parameters names a is m → (c : Context) → c.scope ≡ a.context.scope → m ≤ j → (x : Option Assignment) → IsTrue (if_any form.in_assignment x) → Quiet (if_some (assignment c) x) → Fine sites parameters is j (maybe_assigned a x)
  maybe_fine a is m j h c same less None f q = fine_none sites parameters is m j less h.below
  maybe_fine a is m j h c same less (Some x) f q = assigned_fine a is m j h c same less (first_place x.left).line x.left x.place x.effect (and_left (is_place x.left) (form.in_effect x.effect) f) q

  defined_fine : (a : Around) (is : List ℕ) (m j : ℕ) → Standing sites parameters names a is m → suc m ≤ j → (line : ℕ) (ty : Ty) (x : Id) → variable a x ≡ m → (y : Rhs) → Fine sites parameters is j (one (defined a line ty x y))
  defined_fine a is m j h less line ty x w (e.Called u) = fine_declared sites parameters is m j _ less h.below (ap (λ i. i ∷ []) w) (and_both _ _ (fresh a is m h x w) (arguments_read sites parameters is a h.reads u))
  defined_fine a is m j h less line ty x w (e.Value u) = fine_declared sites parameters is m j _ less h.below (ap (λ i. i ∷ []) w) (and_both _ _ (right_read sites parameters is a h.reads ty (e.Value u)) (fresh a is m h x w))
  defined_fine a is m j h less line ty x w (e.Malloc u o v) = fine_declared sites parameters is m j _ less h.below (ap (λ i. i ∷ []) w) (and_both _ _ (right_read sites parameters is a h.reads ty (e.Malloc u o v)) (fresh a is m h x w))
  defined_fine a is m j h less line ty x w (e.Locked u v) = fine_declared sites parameters is m j _ less h.below (ap (λ i. i ∷ []) w) (and_both _ _ (right_read sites parameters is a h.reads ty (e.Locked u v)) (fresh a is m h x w))

  -- a definition makes its variable known
  defined_known : (a : Around) (is : List ℕ) (line : ℕ) (ty : Ty) (x : Id) (y : Rhs) → IsTrue (known sites parameters (behind_row sites parameters is (one (defined a line ty x y))) (variable a x))
  defined_known a is line ty x (e.Called u) = newest is (variable a x)
  defined_known a is line ty x (e.Value u) = newest is (variable a x)
  defined_known a is line ty x (e.Malloc u o v) = newest is (variable a x)
  defined_known a is line ty x (e.Locked u v) = newest is (variable a x)

  statement_behind : (a : Around) (is : List ℕ) (m j : ℕ) → Standing sites parameters names a is m → (n : Counters) (x : Stm) → m ≤ j → Fine sites parameters is j (row a n x) → Standing sites parameters names (known_behind a x) (behind_row sites parameters is (row a n x)) j
  statement_behind a is m j h n (st.Declare p ty x None) less d = one_known a is _ m j h less d.after (λ i. still_known sites parameters is (row a n (st.Declare p ty x None)) i) (record { name = x; ty = ty; is_ghost = false }) (newest is (variable a x))
  statement_behind a is m j h n (st.Declare p ty x (Some y)) less d =
      one_known a is _ m j h less d.after (λ i. still_known sites parameters is (row a n (st.Declare p ty x (Some y))) i) (record { name = x; ty = ty; is_ghost = false }) (defined_known a is p.line ty x y)
  statement_behind a is m j h n (st.Ghost p x) less d = ghost_behind a is m j h n x less d
  statement_behind a is m j h n x less d = later sites parameters names a is m j (row a n x) less h d

  mutual
    statement_fine : (a : Around) (is : List ℕ) (m j : ℕ) → Standing sites parameters names a is m → (c : Context) → c.scope ≡ a.context.scope → (n : Counters) (x : Stm) → IsTrue (form.in_statement x) → Quiet (pieces.in_statement c x) → Counted names m (declared x) → m + length (declared x) ≤ j
        → SitesAt sites l z n.sites (occurrences a k x) → Fine sites parameters is j (row a n x)
    statement_fine a is m j h c same n (st.Block p ss pe) f q d less told = statements_fine a is m j h c same n ss f q d less told
    statement_fine a is m j h c same n (st.Skip p) f q d less told = fine_none sites parameters is m j (omega (arith, less)) h.below
    statement_fine a is m j h c same n (st.Declare p ty x None) f q d less told =
        let e = number_here a is m h (record { name = x; ty = ty; is_ghost = false }) d in
        fine_declared sites parameters is m j _ (omega (arith, less)) h.below (ap (λ i. i ∷ []) e) (fresh a is m h x e)
    statement_fine a is m j h c same n (st.Declare p ty x (Some y)) f q d less told = defined_fine a is m j h (omega (arith, less)) p.line ty x (number_here a is m h (record { name = x; ty = ty; is_ghost = false }) d) y
    statement_fine a is m j h c same n (st.Assign p x) f q d less told = assigned_fine a is m j h c same (omega (arith, less)) p.line x.left x.place x.effect (and_left (is_place x.left) (form.in_effect x.effect) f) q
    statement_fine a is m j h c same n (st.Call p x) f q d less told = fine_one sites parameters is m j _ (omega (arith, less)) h.below refl (arguments_read sites parameters is a h.reads x)
    statement_fine a is m j h c same n (st.If p x y) f q d less told =
        let own = Statement c y ∷ pieces.in_statement c y in
        let body = statement_fine a is m j h c same n y (and_right (is_code x) (form.in_statement y) f) (quiet_rest (Statement c y) (pieces.in_statement c y) (quiet_right (expression c x) own q)) d less told in
        fine_one sites parameters is m j _ (omega (arith, less)) h.below refl (and_both _ _ (code_here a is m h x) (alone _ body.fits))
    statement_fine a is m j h c same n (st.IfElse p x y u) f q d less told =
        let first = Statement c y ∷ pieces.in_statement c y in
        let second = Statement c u ∷ pieces.in_statement c u in
        let both = quiet_right (expression c x) (first ++ second) q in
        let forms = and_right (is_code x) (form.in_statement y && form.in_statement u) f in
        let long = length-append (declared y) (declared u) in
        let next : m ≤ m + length (declared y) = omega arith in
        let one = statement_fine a is m j h c same n y (and_left (form.in_statement y) (form.in_statement u) forms) (quiet_rest (Statement c y) (pieces.in_statement c y) (quiet_left first second both)) (counted_left names m (declared y) (declared u) d) (omega (arith, less, long))
        (told_left sites l z n.sites (occurrences a k y) (occurrences a k u) told) in
        let other = statement_fine a is (m + length (declared y)) j (further sites parameters names a is m _ next h) c same (plus n (s.in_statement y)) u (and_right (form.in_statement y) (form.in_statement u) forms)
        (quiet_rest (Statement c u) (pieces.in_statement c u) (quiet_right first second both)) (counted_right names m (declared y) (declared u) d) (omega (arith, less, long)) (told_right sites l z n.sites (s.in_statement y).sites (occurrences a k y) (occurrences a k u) (statement_sited a k y).0 told) in
        fine_one sites parameters is m j _ (omega (arith, less)) h.below refl (and_both _ _ (code_here a is m h x) (and_both _ _ one.fits other.fits))
    statement_fine a is m j h c same n (st.While p x invs y) f q d less told =
        let own = Statement c y ∷ pieces.in_statement c y in
        let said = pieces.invariants texts.LoopInvariant c invs in
        let body = statement_fine a is m j h c same (plus_formulas n (in_invariants invs)) y (and_right (is_code x) (form.in_statement y) f) (quiet_rest (Statement c y) (pieces.in_statement c y) (quiet_right said own (quiet_right (expression c x) (said ++ own) q))) d less
        (told_behind sites l z n.sites (invariants_say a invs) (occurrences a k y) (invariants_silent a invs) told) in
        fine_one sites parameters is m j _ (omega (arith, less)) h.below refl (and_both _ _ (invariants_read sites parameters is a h.reads n.formulas invs) (and_both _ _ (code_here a is m h x) body.fits))
    statement_fine a is m j h c same n (st.Do p invs y pe x) f q d less told =
        let own = Statement c y ∷ pieces.in_statement c y in
        let said = pieces.invariants texts.LoopInvariant c invs in
        let body = statement_fine a is m j h c same (plus_formulas n (in_invariants invs)) y (and_left (form.in_statement y) (is_code x) f) (quiet_rest (Statement c y) (pieces.in_statement c y) (quiet_left own (expression c x) (quiet_right said (own ++ expression c x) q))) d less
        (told_behind sites l z n.sites (invariants_say a invs) (occurrences a k y) (invariants_silent a invs) told) in
        fine_one sites parameters is m j _ (omega (arith, less)) h.below refl (and_both _ _ (invariants_read sites parameters is a h.reads n.formulas invs) (and_both _ _ body.fits (code_here a is m h x)))
    statement_fine a is m j h c same n (st.For p u x v invs y) f q d less told =
        let own = Statement c y ∷ pieces.in_statement c y in
        let said = pieces.invariants texts.LoopInvariant c invs in
        let start = if_some (assignment c) u in
        let step = if_some (assignment c) v in
        let in_loop = quiet_right (expression c x) (step ++ (said ++ own)) (quiet_right start (expression c x ++ (step ++ (said ++ own))) q) in
        let form_rest = and_right (if_any form.in_assignment u) (is_code x && (if_any form.in_assignment v && form.in_statement y)) f in
        let form_loop = and_right (is_code x) (if_any form.in_assignment v && form.in_statement y) form_rest in
        let low : m ≤ m = omega arith in
        let first = maybe_fine a is m m h c same low u (and_left (if_any form.in_assignment u) (is_code x && (if_any form.in_assignment v && form.in_statement y)) f) (quiet_left start (expression c x ++ (step ++ (said ++ own))) q) in
        let js = behind_row sites parameters is (maybe_assigned a u) in
        let h1 = later sites parameters names a is m m (maybe_assigned a u) low h first in
        let up : m ≤ j = omega (arith, less) in
        let same_j : j ≤ j = omega arith in
        let body = statement_fine a js m j h1 c same (plus_formulas n (in_invariants invs)) y (and_right (if_any form.in_assignment v) (form.in_statement y) form_loop) (quiet_rest (Statement c y) (pieces.in_statement c y) (quiet_right said own (quiet_right step (said ++ own) in_loop))) d less
        (told_behind sites l z n.sites (invariants_say a invs) (occurrences a k y) (invariants_silent a invs) told) in
        let body_row = row a (plus_formulas n (in_invariants invs)) y in
        let last = maybe_fine a (behind_row sites parameters js body_row) j j (later sites parameters names a js m j body_row up h1 body) c same same_j v (and_left (if_any form.in_assignment v) (form.in_statement y) form_loop) (quiet_left step (said ++ own) in_loop) in
        let whole = fine_both sites parameters js j j body_row (maybe_assigned a v) body last in
        fine_both sites parameters is m j (maybe_assigned a u) _ first
        (fine_one sites parameters js m j _ up h1.below refl (and_both _ _ (invariants_read sites parameters js a h1.reads n.formulas invs) (and_both _ _ (code_here a js m h1 x) whole.fits)))
    statement_fine a is m j h c same n (st.Return p None) f q d less told = fine_one sites parameters is m j _ (omega (arith, less)) h.below refl refl
    statement_fine a is m j h c same n (st.Return p (Some x)) f q d less told = fine_one sites parameters is m j _ (omega (arith, less)) h.below refl (stored_read sites parameters is a h.reads _ x)
    statement_fine a is m j h c same n (st.Spawn p x) f q d less told = fine_one sites parameters is m j _ (omega (arith, less)) h.below refl (arguments_read sites parameters is a h.reads x)
    statement_fine a is m j h c same n (st.Free p x) f q d less told = fine_one sites parameters is m j _ (omega (arith, less)) h.below refl (code_here a is m h x)
    statement_fine a is m j h c same n (st.Assert p x) f q d less told = fine_one sites parameters is m j _ (omega (arith, less)) h.below refl (spec_read sites parameters is a h.reads n.formulas x)
    statement_fine a is m j h c same n (st.Ghost p x) f q d less told = ghost_fine a is m j h (ghost c) same n x f (quiet_rest (GhostStatement (ghost c) x) (pieces.in_ghost (ghost c) x) q) d less told
    statement_fine a is m j h c same n (st.Wrap p x) f q d less told = fine_one sites parameters is m j _ (omega (arith, less)) h.below refl (code_here a is m h x)
    statement_fine a is m j h c same n (st.Unwrap p x) f q d less told = fine_one sites parameters is m j _ (omega (arith, less)) h.below refl (code_here a is m h x)
    statement_fine a is m j h c same n (st.Unwrapping p x ss pe) f q d less told =
        let body = statements_fine a is m j h (inside_unwrapping c) same (plus_formulas n 1) ss (and_right (is_code x) (form.in_statements ss) f) (quiet_right (expression (ghost c) x) (pieces.in_statements (inside_unwrapping c) ss) q) d less told in
        fine_one sites parameters is m j _ (omega (arith, less)) h.below refl (and_both _ _ (code_here a is m h x) body.fits)
    statement_fine a is m j h c same n (st.Atomic p xs ss pe) f q d less told =
        fine_one sites parameters is m j _ (omega (arith, less)) h.below refl
        (and_both _ _ (listed_read sites parameters is a h.reads xs) (inners_fine a is m h (inside_atomic c) same refl n ss (and_right (all_code xs) (form.in_statements ss) f) (quiet_right (expressions (ghost c) xs) (pieces.in_statements (inside_atomic c) ss) q) told))

    pub statements_fine : (a : Around) (is : List ℕ) (m j : ℕ) → Standing sites parameters names a is m → (c : Context) → c.scope ≡ a.context.scope → (n : Counters) (xs : Stms) → IsTrue (form.in_statements xs) → Quiet (pieces.in_statements c xs) → Counted names m (all_declared xs) → m + length (all_declared xs) ≤ j
        → SitesAt sites l z n.sites (all_occurrences a k xs) → Fine sites parameters is j (rows a n xs)
    statements_fine a is m j h c same n st.Empty f q d less told = fine_none sites parameters is m j (omega (arith, less)) h.below
    statements_fine a is m j h c same n (st.More x xs) f q d less told =
        let b = known_behind a x in
        let first = Statement c x ∷ pieces.in_statement c x in
        let rest = pieces.in_statements (following c x) xs in
        let long = length-append (declared x) (all_declared xs) in
        let upto = m + length (declared x) in
        let here : upto ≤ upto = omega arith in
        let next : m ≤ upto = omega arith in
        let one = statement_fine a is m upto h c same n x (and_left (form.in_statement x) (form.in_statements xs) f) (quiet_rest (Statement c x) (pieces.in_statement c x) (quiet_left first rest q)) (counted_left names m (declared x) (all_declared xs) d) here
        (told_left sites l z n.sites (occurrences a k x) (all_occurrences b k xs) told) in
        let others = statements_fine b (behind_row sites parameters is (row a n x)) upto j (statement_behind a is m upto h n x next one) (following c x) (scope_behind a c same x) (plus n (s.in_statement x)) xs (and_right (form.in_statement x) (form.in_statements xs) f)
        (quiet_right first rest q) (counted_right names m (declared x) (all_declared xs) d) (omega (arith, less, long)) (told_right sites l z n.sites (s.in_statement x).sites (occurrences a k x) (all_occurrences b k xs) (statement_sited a k x).0 told) in
        fine_both sites parameters is upto j (row a n x) (rows b (plus n (s.in_statement x)) xs) one others
