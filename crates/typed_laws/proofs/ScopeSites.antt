-- A claim site names no variable but those that are known where the claim is made.
use Rattle.std.specs.Prelude.{ℕ, suc, ◌+◌, Bool, true, false, cond, not, ◌||◌, if◌then◌else◌, List, [], ◌∷◌, ◌++◌, map, Some, None, find, slice_get, is_some, bytes_eq, IsTrue}
use Rattle.std.specs.List.{list_any}
use Rattle.std.proofs.Common.{◌≡◌, refl, sym, ap, subst, ◌∙◌, arith}
use Rattle.std.proofs.lemmas.Bool.{true≢false}
use Rattle.std.proofs.lemmas.Slice.Eq.{bytes_eq-Decides}
use Rattle.c_syntax.specs.Expressions as e
use Rattle.c_syntax.specs.Expressions.{Id, Ty, Exp, Exps}
use Rattle.object_types.specs.Sets.{every}
use Rattle.typing_spec.specs.Declarations.{same_name}
use Rattle.typing_spec.specs.Contexts.{Variable, Context, deeper, with_quantified, inside_claims}
use Rattle.typing_spec.specs.Types.{type_of_name}
use Rattle.typing_spec.specs.Trees.{bare, mentions, any_mentions}
use Rattle.typing_spec.specs.Rules as r
use Rattle.typing_spec.specs.Pieces.{NewClaim, Expression, operand, argument, struct_name, each_below, expression, expressions, claim_property}
use Rattle.typing_spec.specs.TypeLaws.{Quiet}
use Rattle.typed_program.specs.Trees.{ClaimSite, Shape}
use Rattle.typed_program.specs.Shapes.{Sorts, holes, conjunct}
use Rattle.typed_program.specs.Numbers.{Around, place_of}
use Rattle.typed_program.specs.Annotations.{property}
use Rattle.typed_program.specs.Sites.{named, claimed_bare, claimed, site}
use Rattle.typed_program.specs.Tables.{claim_site}
use Rattle.typed_laws.proofs.Basics.{and_both, and_left, and_right, from_not, never, same_bytes, other_way, every_map, every_weaker}
use Rattle.typed_laws.proofs.Quiet.{quiet_left, quiet_right, quiet_last, quiet_rest, not_placed}
use Rattle.typed_laws.proofs.Conjuncts.{known_variable}
use Rattle.typed_laws.proofs.BodyParts.{found}
use Rattle.typed_laws.proofs.TableLists.{at_place}
use Rattle.typed_laws.proofs.ScopeTests.{known, hole_in, spec_in, claimed_in, site_in}
use Rattle.typed_laws.proofs.ScopeReads.{Reads, code_read, property_read, holes_read}

-- ---- names that stand free

either_true : {P : Type 0} (a b : Bool) → IsTrue (a || b) → (IsTrue a → P) → (IsTrue b → P) → P
either_true true b h f g = f refl
either_true false b h f g = g h

-- a variable with the name is in scope
abbrev pub Known : List Variable → Id → Type 0
Known vs u = (v : Variable) × (find (λ w. same_name w.name u) vs ≡ Some v)

same_known : (vs : List Variable) (y u : Id) → IsTrue (same_name u y) → Known vs y → Known vs u
same_known vs y u h k = subst (λ n. (v : Variable) × (find (λ w. bytes_eq w.name.name n) vs ≡ Some v)) (sym (same_bytes u y h)) k

-- behind another name
behind_other : (vs : List Variable) (x : Variable) (u : Id) → IsTrue (not (same_name u x.name)) → Known (x ∷ vs) u → Known vs u
behind_other vs x u h k = (k.0, ap (λ b. cond b (Some x) (find (λ w. same_name w.name u) vs)) (sym (other (same_name x.name u) refl)) ∙ k.1)
  where
    other : (b : Bool) → same_name x.name u ≡ b → same_name x.name u ≡ false
    other true g = absurd (true≢false (sym h ∙ ap not (other_way x.name u g)))
    other false g = g

-- what stands free in an expression that breaks no rule is a variable that is known
mutual
  pub mentioned : (c : Context) → c.scope.this ≡ None → (x : Exp) → Quiet (expression c x) → (u : Id) → IsTrue (mentions u x) → Known c.scope.variables u
  mentioned c n (e.Number p v ty) q u h = never h
  mentioned c n (e.Name y) q u h = same_known c.scope.variables y u h (known_variable c.scope n y (from_not (is_some (type_of_name c.scope y)) (not_placed _ y.place (quiet_last [] (Expression c (e.Name y)) q r.Undeclared))))
  mentioned c n (e.Null p) q u h = never h
  mentioned c n (e.Word p x) q u h = never h
  mentioned c n (e.Group p x) q u h = mentioned c n x (quiet_left (expression c x) (Expression c (e.Group p x) ∷ []) q) u h
  mentioned c n (e.Field p x y) q u h = mentioned (deeper c) n x (quiet_left (expression (deeper c) x) (Expression c (e.Field p x y) ∷ []) q) u h
  mentioned c n (e.State p x w s) q u h = mentioned (deeper c) n x (quiet_left (expression (deeper c) x) (Expression c (e.State p x w s) ∷ []) q) u h
  mentioned c n (e.Owns p x w) q u h = mentioned (deeper c) n x (quiet_left (expression (deeper c) x) (Expression c (e.Owns p x w) ∷ []) q) u h
  mentioned c n (e.Unary p o x) q u h = mentioned (deeper c) n x (quiet_left (expression (deeper c) x) (Expression c (e.Unary p o x) ∷ []) q) u h
  mentioned c n (e.Binary p o x y) q u h =
      let d = operand o c in
      let inner = quiet_left (expression d x ++ expression d y) (Expression c (e.Binary p o x y) ∷ []) q in
      either_true (mentions u x) (mentions u y) h (mentioned d n x (quiet_left (expression d x) (expression d y) inner) u) (mentioned d n y (quiet_right (expression d x) (expression d y) inner) u)
  mentioned c n (e.Conditional p x y z) q u h =
      let d = deeper c in
      let inner = quiet_left (expression d x ++ (expression d y ++ expression d z)) (Expression c (e.Conditional p x y z) ∷ []) q in
      let both = quiet_right (expression d x) (expression d y ++ expression d z) inner in
      either_true (mentions u x) (mentions u y || mentions u z) h (mentioned d n x (quiet_left (expression d x) (expression d y ++ expression d z) inner) u)
      (λ k. either_true (mentions u y) (mentions u z) k (mentioned d n y (quiet_left (expression d y) (expression d z) both) u) (mentioned d n z (quiet_right (expression d y) (expression d z) both) u))
  mentioned c n (e.Apply p o x) q u h = mentioned (argument o c) n x (quiet_left (expression (argument o c) x) (Expression c (e.Apply p o x) ∷ []) q) u h
  mentioned c n (e.Several p w xs) q u h = any_mentioned (deeper c) n xs (quiet_left (each_below (deeper c) xs) (Expression c (e.Several p w xs) ∷ []) q) u h
  mentioned c n (e.ClaimsObject p x y) q u h =
      let d = deeper c in
      let inner = quiet_left (expression d x ++ expression d y) (Expression c (e.ClaimsObject p x y) ∷ []) q in
      either_true (mentions u x) (mentions u y) h (mentioned d n x (quiet_left (expression d x) (expression d y) inner) u) (mentioned d n y (quiet_right (expression d x) (expression d y) inner) u)
  mentioned c n (e.Claims p x y) q u h =
      let inner = quiet_left (expression (deeper c) x ++ expression (inside_claims c) y) (Expression c (e.Claims p x y) ∷ []) q in
      either_true (mentions u x) (mentions u y) h (mentioned (deeper c) n x (quiet_left (expression (deeper c) x) (expression (inside_claims c) y) inner) u)
      (mentioned (inside_claims c) n y (quiet_right (expression (deeper c) x) (expression (inside_claims c) y) inner) u)
  mentioned c n (e.Approves p x) q u h = never h
  mentioned c n (e.Quantified p k ty x y) q u h =
      let d = with_quantified ty x (deeper c) in
      let inner = quiet_left (struct_name c.scope.items ty ++ expression d y) (Expression c (e.Quantified p k ty x y) ∷ []) q in
      behind_other c.scope.variables (record { name = x; ty = ty; is_ghost = true }) u (and_left (not (same_name u x)) (mentions u y) h)
      (mentioned d n y (quiet_right (struct_name c.scope.items ty) (expression d y) inner) u (and_right (not (same_name u x)) (mentions u y) h))

  any_mentioned : (c : Context) → c.scope.this ≡ None → (xs : Exps) → Quiet (each_below c xs) → (u : Id) → IsTrue (any_mentions u xs) → Known c.scope.variables u
  any_mentioned c n e.Stop q u h = never h
  any_mentioned c n (e.With x xs) q u h = either_true (mentions u x) (any_mentions u xs) h (mentioned c n x (quiet_left (expression c x) (each_below c xs) q) u) (any_mentioned c n xs (quiet_right (expression c x) (each_below c xs) q) u)

one_mentioned : (c : Context) → c.scope.this ≡ None → (xs : List Exp) → Quiet (expressions c xs) → (u : Id) → IsTrue (list_any (mentions u) xs) → Known c.scope.variables u
one_mentioned c n [] q u h = never h
one_mentioned c n (x ∷ xs) q u h = either_true (mentions u x) (list_any (mentions u) xs) h (mentioned c n x (quiet_left (expression c x) (expressions c xs) q) u) (one_mentioned c n xs (quiet_right (expression c x) (expressions c xs) q) u)

-- ---- a claim site

-- each of the names is the first of its kind
abbrev pub Firsts : List (List ℕ) → Type 0
Firsts names = (i : ℕ) (n : List ℕ) → slice_get names i ≡ Some n → place_of (λ m. bytes_eq m n) names ≡ i

module _ (sites : List ClaimSite) (parameters : ℕ) (is : List ℕ) (a : Around) (reads : Reads sites parameters is a) (no_bound : a.bound ≡ 0) where
  -- a variable in scope is known by its number
  pub number_known : (u : Id) → Known a.context.scope.variables u → IsTrue (known sites parameters is (place_of (λ n. bytes_eq n u.name) a.names))
  number_known u k =
      let f = found (λ w. same_name w.name u) a.context.scope.variables k.0 k.1 in
      let at = at_place a.context.scope.variables k.0 f.1 in
      subst (λ n. IsTrue (known sites parameters is (place_of (λ m. bytes_eq m n) a.names))) (same_bytes k.0.name u f.0) (reads at.0 k.0 at.1 (omega (arith, no_bound)))

  names_known : (xs : List Exp) → ((u : Id) → IsTrue (list_any (mentions u) xs) → Known a.context.scope.variables u) → (start : ℕ) (names : List (List ℕ))
      → ((i : ℕ) (n : List ℕ) → slice_get names i ≡ Some n → place_of (λ m. bytes_eq m n) a.names ≡ start + i) → IsTrue (every (known sites parameters is) (named start names xs))
  names_known xs all start [] at = refl
  names_known xs all start (n ∷ ns) at = by (list_any (mentions own) xs) refl (names_known xs all (suc start) ns (λ i m h. let e : start + suc i ≡ suc start + i = omega arith in at (suc i) m h ∙ e))
    where
      own : Id
      own = record { place = record { line = 0; column = 0 }; name = n }

      number : place_of (λ m. bytes_eq m n) a.names ≡ start
      number = let e : start + 0 ≡ start = omega arith in at 0 n refl ∙ e

      by : (b : Bool) → list_any (mentions own) xs ≡ b → IsTrue (every (known sites parameters is) (named (suc start) ns xs)) → IsTrue (every (known sites parameters is) (if b then start ∷ named (suc start) ns xs else named (suc start) ns xs))
      by true h rest = and_both (known sites parameters is start) (every (known sites parameters is) (named (suc start) ns xs)) (subst (λ i. IsTrue (known sites parameters is i)) number (number_known own (all own h))) rest
      by false h rest = rest

  module _ (c : Context) (same : c.scope ≡ a.context.scope) (no_this : a.context.scope.this ≡ None) where
    here : (u : Id) → Known c.scope.variables u → Known a.context.scope.variables u
    here u k = subst (λ s. Known s.variables u) same k

    nothing_here : c.scope.this ≡ None
    nothing_here = ap (λ s. s.this) same ∙ no_this

    claimed_known : (x : Exp) → Quiet (expression c x) → IsTrue (claimed_in sites parameters is (claimed_bare a (bare x)))
    claimed_known (e.Group p x) q = claimed_known x (quiet_left (expression c x) (Expression c (e.Group p x) ∷ []) q)
    claimed_known (e.Name y) q = number_known y (here y (mentioned c nothing_here (e.Name y) q y ((bytes_eq-Decides y.name y.name).1 refl)))
    claimed_known (e.Null p) q = refl
    claimed_known x q = code_read sites parameters is a reads x

    all_claimed : (xs : List Exp) → Quiet (expressions c xs) → IsTrue (every (claimed_in sites parameters is) (map (claimed a) xs))
    all_claimed [] q = refl
    all_claimed (x ∷ xs) q = and_both _ _ (claimed_known x (quiet_left (expression c x) (expressions c xs) q)) (all_claimed xs (quiet_right (expression c x) (expressions c xs) q))

    -- what the claim of these objects with this property names is known
    pub site_known : Firsts a.names → (l : List Shape) (s : Sorts) (k line : ℕ) (xs : List Exp) (x : Exp) → Quiet (NewClaim c xs x ∷ (expressions c xs ++ expression (claim_property xs c) x)) → IsTrue (site_in sites parameters is (Some (claim_site l s (site a k line xs x))))
    site_known firsts l s k line xs x q =
        let parts = quiet_rest (NewClaim c xs x) (expressions c xs ++ expression (claim_property xs c) x) q in
        let objects = quiet_left (expressions c xs) (expression (claim_property xs c) x) parts in
        let said = quiet_right (expressions c xs) (expression (claim_property xs c) x) parts in
        let all = λ (u : Id) (h : IsTrue (mentions u x || list_any (mentions u) xs)). here u (either_true (mentions u x) (list_any (mentions u) xs) h (mentioned (claim_property xs c) nothing_here x said u) (one_mentioned c nothing_here xs objects u)) in
        let from = λ (i : ℕ) (n : List ℕ) (h : slice_get a.names i ≡ Some n). let e : i ≡ 0 + i = omega arith in firsts i n h ∙ e in
        and_both _ _ (names_known (x ∷ xs) all 0 a.names from)
        (and_both _ _ (all_claimed xs objects)
        (every_map (λ w. every (hole_in sites parameters is) w.holes) (conjunct l s) (property a 0 x) (every_weaker (spec_in sites parameters is) (λ w. every (hole_in sites parameters is) (holes w)) (holes_read sites parameters is) (property a 0 x) (property_read sites parameters is a reads 0 x))))
