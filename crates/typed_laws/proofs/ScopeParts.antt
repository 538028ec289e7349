-- Places, right sides and calls read no variable but those that are known where they stand.
use Rattle.std.specs.Prelude.{ℕ, ◌+◌, true, if◌then◌else◌, List, [], ◌∷◌, ◌++◌, map, Option, Some, None, slice_get, find, nat_lt, bytes_eq, IsTrue}
use Rattle.std.proofs.Common.{◌≡◌, refl, sym, ap, subst, ◌∙◌, arith}
use Rattle.std.proofs.lemmas.Bool.{true≢false}
use Rattle.std.proofs.lemmas.Slice.Eq.{bytes_eq-Decides}
use Rattle.int_ranges.specs.declared.ctype.CType.{CType}
use Rattle.c_syntax.specs.declared.tree.Interlocked.{Interlocked}
use Rattle.c_syntax.specs.declared.tree.Interlocked.TheVariants as locked
use Rattle.c_syntax.specs.Expressions as e
use Rattle.c_syntax.specs.Expressions.{Id, Ty, Exp, Inter, Comparison, CallTree, Rhs, Effect}
use Rattle.c_syntax.specs.Ghosts as g
use Rattle.c_syntax.specs.Ghosts.{Members, GhostRhs, OwnsEffect}
use Rattle.c_syntax.specs.Items.{Param, FunctionTree}
use Rattle.c_syntax.specs.Statements.{Inv}
use Rattle.object_types.specs.Sets.{every}
use Rattle.typing_spec.specs.Declarations.{same_name, find_function}
use Rattle.typing_spec.specs.Contexts.{Context}
use Rattle.typing_spec.specs.Pieces as pieces
use Rattle.typing_spec.specs.Pieces.{expression}
use Rattle.typing_spec.specs.TypeLaws.{Quiet}
use Rattle.method.specs.declared.program.Operator.{Operator}
use Rattle.typed_program.specs.Trees as t
use Rattle.typed_program.specs.Trees.{ClaimSite, Shape}
use Rattle.typed_program.specs.Shapes.{Sorts}
use Rattle.typed_program.specs.Numbers.{Around, OfQuantifier, OfFunction, meaning_at, place_of}
use Rattle.typed_program.specs.Codes.{Operand, Computes, code, code_name, common, operand_of, integer_type, integer_of}
use Rattle.typed_program.specs.Annotations.{formulas}
use Rattle.typed_program.specs.Sites.{Occurrence, made}
use Rattle.typed_program.specs.Statements.{Counters, left_type, local, target, passed, passed_to, arguments, object_of, operation_on, afterwards, right, updated, one_more, changed, ghost_right, ghost_assigned, owner_of, members_of, owned_change, claim_end, listed, invariants}
use Rattle.typed_program.specs.Tables.{sites_told, claim_site}
use Rattle.tree_forms.specs.InForm.{is_place}
use Rattle.typed_laws.proofs.Basics.{and_both, none_below, find_place, every_append}
use Rattle.typed_laws.proofs.Quiet.{quiet_left, quiet_right}
use Rattle.typed_laws.proofs.Ghosts.{alone}
use Rattle.typed_laws.proofs.ScopeTests.{site_in, code_in, spec_in, target_in, right_in, simple_in, operation_in, afterwards_in}
use Rattle.typed_laws.proofs.ScopeReads.{Reads, code_read, codes_read, in_type_read, binary_read, stored_in_read, stored_read, spec_read}
use Rattle.typed_laws.proofs.ScopeSites.{Firsts, mentioned, number_known, site_known}

-- what a text tells of stands in the table of sites from this number on
abbrev pub SitesAt : List ClaimSite → List Shape → Sorts → ℕ → List Occurrence → Type 0
SitesAt sites l s n ts = (j : ℕ) (x : _) → slice_get (sites_told ts) j ≡ Some x → slice_get sites (n + j) ≡ Some (claim_site l s x)

module _ (sites : List ClaimSite) (parameters : ℕ) (is : List ℕ) (a : Around) (reads : Reads sites parameters is a) where
  abbrev In : t.Code → Type 0
  In x = IsTrue (code_in sites parameters is x)

  passed_read : (ps : List Param) (xs : List Exp) → IsTrue (every (code_in sites parameters is) (passed a ps xs))
  passed_read [] xs = refl
  passed_read (p ∷ ps) [] = refl
  passed_read (p ∷ ps) (x ∷ xs) = and_both _ _ (stored_read sites parameters is a reads p.ty x) (passed_read ps xs)

  pub arguments_read : (x : CallTree) → IsTrue (every (code_in sites parameters is) (arguments a x))
  arguments_read x = by (find_function a.context.scope.items x.function)
    where
      by : (o : Option FunctionTree) → IsTrue (every (code_in sites parameters is) (passed_to a x o))
      by None = refl
      by (Some f) = every_append (code_in sites parameters is) (passed a f.parameters x.arguments) (passed a f.ghost_parameters x.ghost_arguments) (passed_read f.parameters x.arguments) (passed_read f.ghost_parameters x.ghost_arguments)

  object_read : (x : Exp) → In (object_of a x)
  object_read (e.Group p x) = object_read x
  object_read (e.Field p x y) = code_read sites parameters is a reads x
  object_read _ = refl

  operation_read : (ty : Ty) (f : Interlocked) (xs : List Exp) → IsTrue (operation_in sites parameters is (operation_on a ty f xs))
  operation_read ty locked.CompareExchange (x ∷ y ∷ xs) = and_both _ _ (stored_read sites parameters is a reads ty x) (stored_read sites parameters is a reads ty y)
  operation_read ty locked.Exchange (x ∷ xs) = stored_read sites parameters is a reads ty x
  operation_read ty locked.Decrement xs = refl
  operation_read ty _ xs = refl

  afterwards_read : (field to : CType) (o : Option Comparison) → IsTrue (afterwards_in sites parameters is (afterwards a field to o))
  afterwards_read field to None = refl
  afterwards_read field to (Some y) =
      let other = operand_of a.context.scope y.other (code a y.other) in
      in_type_read sites parameters is (common (record { code = t.Null; is_int = true; ty = field }) other) other (code_read sites parameters is a reads y.other)

  pub right_read : (ty : Ty) (x : Rhs) → IsTrue (right_in sites parameters is (right a ty x))
  right_read ty (e.Value x) = stored_read sites parameters is a reads ty x
  right_read ty (e.Malloc c p y) = refl
  right_read ty (e.Locked x y) =
      let field = integer_type a.context.scope x.field in
      and_both _ _ (object_read x.field) (and_both _ _ (operation_read (e.Integer field) x.function x.arguments) (afterwards_read field (integer_of (Some ty)) y))
  right_read ty (e.Called x) = refl

  updated_read : (o : Operator) (x : Exp) (y : Operand) → In y.code → IsTrue (right_in sites parameters is (updated a o x y))
  updated_read o x y h =
      let old = operand_of a.context.scope x (code a x) in
      stored_in_read sites parameters is (left_type a.context.scope x) (record { code = _; is_int = true; ty = common old y }) (binary_read sites parameters is (Computes o) old y (code_read sites parameters is a reads x) h)

  pub changed_read : (x : Exp) (y : Effect) → IsTrue (right_in sites parameters is (changed a x y))
  changed_read x (e.Set r) = right_read (left_type a.context.scope x) r
  changed_read x (e.Add y) = updated_read _ x (operand_of a.context.scope y (code a y)) (code_read sites parameters is a reads y)
  changed_read x (e.Subtract y) = updated_read _ x (operand_of a.context.scope y (code a y)) (code_read sites parameters is a reads y)
  changed_read x e.Increment = updated_read _ x one_more refl
  changed_read x e.Decrement = updated_read _ x one_more refl

  members_read : (y : Members) → IsTrue (every (code_in sites parameters is) (members_of a y))
  members_read (g.One x) = alone (code_in sites parameters is (code a x)) (code_read sites parameters is a reads x)
  members_read (g.Several xs) = codes_read sites parameters is a reads xs

  owner_read : (x : Exp) → In (owner_of a x)
  owner_read (e.Owns p x q) = code_read sites parameters is a reads x
  owner_read _ = refl

  pub owned_read : (x : Exp) (y : OwnsEffect) → IsTrue (simple_in sites parameters is (owned_change a x y))
  owned_read x (g.Become xs) = and_both _ _ (owner_read x) (codes_read sites parameters is a reads xs)
  owned_read x (g.Join y) = and_both _ _ (owner_read x) (members_read y)
  owned_read x (g.Leave y) = and_both _ _ (owner_read x) (members_read y)

  pub end_read : (n : Counters) (x : Exp) (xs : List Exp) → IsTrue (simple_in sites parameters is (claim_end a n x xs))
  end_read n x xs = and_both _ _ (code_read sites parameters is a reads x) (codes_read sites parameters is a reads xs)

  pub listed_read : (xs : List Exp) → IsTrue (every (λ x. code_in sites parameters is x.object) (map (listed a) xs))
  listed_read [] = refl
  listed_read (x ∷ xs) = and_both _ _ (code_read sites parameters is a reads x) (listed_read xs)

  pub invariants_read : (n : ℕ) (xs : List Inv) → IsTrue (every (spec_in sites parameters is) (invariants a n xs))
  invariants_read n [] = refl
  invariants_read n (x ∷ xs) = and_both _ _ (spec_read sites parameters is a reads n x.property) (invariants_read (n + formulas x.property) xs)

  -- ---- places and claims

  module _ (no_bound : a.bound ≡ 0) (no_this : a.context.scope.this ≡ None) (c : Context) (same : c.scope ≡ a.context.scope) where
    pub target_read : (x : Exp) → IsTrue (is_place x) → Quiet (expression c x) → IsTrue (target_in sites parameters is (target a x))
    target_read (e.Name x) f q =
        let v = subst (λ s. (v : _) × (find (λ w. same_name w.name x) s.variables ≡ Some v)) same (mentioned c (ap (λ s. s.this) same ∙ no_this) (e.Name x) q x ((bytes_eq-Decides x.name x.name).1 refl)) in
        let place = find_place (λ z. same_name z.name x) a.context.scope.variables v.0 v.1 in
        let number = place_of (λ n. bytes_eq n x.name) a.names in
        let aim : target a (e.Name x) ≡ t.Local number =
        ap (λ z. local (code_name (meaning_at a x z))) place.1 ∙ (ap (λ b. local (code_name (if nat_lt place.0 b then OfQuantifier place.0 else OfFunction number))) no_bound ∙ ap (λ b. local (code_name (if b then OfQuantifier place.0 else OfFunction number))) (none_below place.0)) in
        subst (λ z. IsTrue (target_in sites parameters is z)) (sym aim) (number_known sites parameters is a reads no_bound x v)
    target_read (e.Field p x y) f q = code_read sites parameters is a reads x
    target_read _ f q = absurd (true≢false (sym f))

    pub ghost_right_read : Firsts a.names → (l : List Shape) (s : Sorts) (k line : ℕ) (n : Counters) (ty : Ty) (y : GhostRhs) → Quiet (pieces.ghost_right c y) → SitesAt sites l s n.sites (made a k line (Some y)) → IsTrue (right_in sites parameters is (ghost_right a n ty y))
    ghost_right_read firsts l s k line n ty (g.Value x) q h = stored_read sites parameters is a reads ty x
    ghost_right_read firsts l s k line n ty (g.MakeClaim p xs x) q h =
        let at : n.sites ≡ n.sites + 0 = omega arith in
        subst (λ o. IsTrue (site_in sites parameters is o)) (sym (ap (slice_get sites) at ∙ h 0 _ refl)) (site_known sites parameters is a reads no_bound c same no_this firsts l s k line xs x q)

    pub ghost_assigned_read : Firsts a.names → (l : List Shape) (s : Sorts) (k line : ℕ) (n : Counters) (x : Exp) (y : GhostRhs) → IsTrue (is_place x) → Quiet (expression c x ++ pieces.ghost_right c y) → SitesAt sites l s n.sites (made a k line (Some y)) → IsTrue (simple_in sites parameters is (ghost_assigned a n x y))
    ghost_assigned_read firsts l s k line n x y f q h =
        and_both _ _ (target_read x f (quiet_left (expression c x) (pieces.ghost_right c y) q)) (ghost_right_read firsts l s k line n (left_type a.context.scope x) y (quiet_right (expression c x) (pieces.ghost_right c y) q) h)
