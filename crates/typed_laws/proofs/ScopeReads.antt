-- Expressions read no variable but those that are known where they stand.
use Rattle.std.specs.Prelude.{ℕ, zero, suc, ◌+◌, ◌≤◌, nat_lt, Bool, true, false, ◌&&◌, if◌then◌else◌, List, [], ◌∷◌, ◌++◌, Option, Some, None, position, slice_get, bytes_eq, IsTrue}
use Rattle.std.proofs.Common.{◌≡◌, refl, sym, ap, subst, ◌∙◌, arith}
use Rattle.std.proofs.lemmas.Bool.Decides.{nat_tests}
use Rattle.std.specs.Option.{option_and_then}
use Rattle.int_ranges.specs.declared.ctype.CType.{CType}
use Rattle.c_syntax.specs.declared.tree.Constant.{Constant}
use Rattle.c_syntax.specs.declared.tree.Constant.TheVariants as constants
use Rattle.c_syntax.specs.declared.tree.Status.{Status}
use Rattle.c_syntax.specs.declared.tree.Status.TheVariants as statuses
use Rattle.c_syntax.specs.declared.tree.UnaryOperator.{UnaryOperator}
use Rattle.c_syntax.specs.declared.tree.UnaryOperator.TheVariants as unary
use Rattle.c_syntax.specs.declared.tree.BinaryOperator.TheVariants as op
use Rattle.c_syntax.specs.declared.tree.SpecFunction.{SpecFunction}
use Rattle.c_syntax.specs.declared.tree.SpecFunction.TheVariants as f
use Rattle.c_syntax.specs.declared.tree.ListWord.TheVariants as lists
use Rattle.c_syntax.specs.declared.tree.Quantifier.TheVariants as q
use Rattle.c_syntax.specs.Expressions as e
use Rattle.c_syntax.specs.Expressions.{Id, Ty, Exp, Exps}
use Rattle.object_types.specs.Sets.{every}
use Rattle.typing_spec.specs.Declarations.{same_name}
use Rattle.typing_spec.specs.Contexts.{Variable}
use Rattle.method.specs.declared.program.DeclaredType.{DeclaredType}
use Rattle.method.specs.declared.program.Hole.{Hole}
use Rattle.typing_symbols.proofs.Places.{find_place, place_within}
use Rattle.typed_program.specs.Trees as t
use Rattle.typed_program.specs.Trees.{Code, Spec, Specs, Shape, ClaimSite}
use Rattle.typed_program.specs.Numbers.{Around, Meaning, OfQuantifier, OfFunction, OwnField, meaning, meaning_at, place_of}
use Rattle.typed_program.specs.Codes.{Binary, Computes, Compares, IsAnd, IsOr, IsImplies, IsIff, IsMember, binary, conversion, converted_by, code_name, code_unary, code_binary, Operand, in_type_of, operand_of, common, code, codes, stored_in, stored}
use Rattle.typed_program.specs.Annotations.{formulas, spec, members, claims_only, each_spec, conjuncts, for_all, exists, owner, owner_first, others, append, and_all, all_hold, word, name, status, negation, joined, applied, within_quantifier, property}
use Rattle.typed_program.specs.Shapes.{Sorts, holes, all_holes, numbered, all_numbered, numbered_conjuncts}
use Rattle.typed_laws.proofs.Basics.{and_both, and_left, and_right, every_append, same_bytes, find_passes}
use Rattle.typed_laws.proofs.TableLists.{within}
use Rattle.typed_laws.proofs.ScopeTests.{known, code_in, hole_in, spec_in, specs_in}

-- what a position stands for
pub position_stands : {A : Type 0} (q : A → Bool) (xs : List A) (i : ℕ) → position q xs ≡ Some i → (x : A) × (slice_get xs i ≡ Some x) × IsTrue (q x)
position_stands q xs i h =
    let x = within xs i (place_within q xs i (sym h)) in
    (x.0, x.1, find_passes q xs x.0 (find_place q xs ∙ (ap (option_and_then (slice_get xs)) h ∙ x.1)))

module _ (sites : List ClaimSite) (parameters : ℕ) (is : List ℕ) where
  -- the variables of the function that a text knows are parameters, or among these
  abbrev pub Reads : Around → Type 0
  Reads a = (i : ℕ) (v : Variable) → slice_get a.context.scope.variables i ≡ Some v → a.bound ≤ i → IsTrue (known sites parameters is (place_of (λ n. bytes_eq n v.name.name) a.names))

  -- ---- names

  abbrev meaning_in : Meaning → Bool
  meaning_in (OfQuantifier i) = true
  meaning_in (OfFunction i) = known sites parameters is i
  meaning_in (OwnField i) = true

  name_read : (a : Around) → Reads a → (x : Id) → IsTrue (meaning_in (meaning a x))
  name_read a h x = go (position (λ v. same_name v.name x) a.context.scope.variables) refl
    where
      go : (o : Option ℕ) → position (λ v. same_name v.name x) a.context.scope.variables ≡ o → IsTrue (meaning_in (meaning_at a x o))
      go None g = refl
      go (Some i) g = by (nat_lt i a.bound) refl
        where
          by : (b : Bool) → nat_lt i a.bound ≡ b → IsTrue (meaning_in (if b then OfQuantifier i else OfFunction (place_of (λ n. bytes_eq n x.name) a.names)))
          by true k = refl
          by false k =
              let v = position_stands (λ v. same_name v.name x) a.context.scope.variables i g in
              subst (λ n. IsTrue (known sites parameters is (place_of (λ m. bytes_eq m n) a.names))) (same_bytes v.0.name x v.2) (h i v.0 v.1 (grind (arith, nat_tests, k)))

  code_named : (m : Meaning) → IsTrue (meaning_in m) → IsTrue (code_in sites parameters is (code_name m))
  code_named (OfQuantifier i) h = refl
  code_named (OfFunction i) h = h
  code_named (OwnField i) h = refl

  spec_named : (m : Meaning) → IsTrue (meaning_in m) → IsTrue (spec_in sites parameters is (name m))
  spec_named (OfQuantifier i) h = refl
  spec_named (OfFunction i) h = h
  spec_named (OwnField i) h = refl

  -- ---- code

  converted_read : (o : Option CType) (x : Code) → IsTrue (code_in sites parameters is x) → IsTrue (code_in sites parameters is (converted_by x o))
  converted_read None x h = h
  converted_read (Some c) x h = h

  pub in_type_read : (c : CType) (x : Operand) → IsTrue (code_in sites parameters is x.code) → IsTrue (code_in sites parameters is (in_type_of c x))
  in_type_read c x h = by x.is_int
    where
      by : (b : Bool) → IsTrue (code_in sites parameters is (if b then converted_by x.code (conversion x.ty c) else x.code))
      by true = converted_read (conversion x.ty c) x.code h
      by false = h

  unary_read : (o : UnaryOperator) (x : Code) (c : CType) → IsTrue (code_in sites parameters is x) → IsTrue (code_in sites parameters is (code_unary o x c))
  unary_read unary.Not x c h = h
  unary_read unary.Negate x c h = h

  pub binary_read : (b : Binary) (x y : Operand) → IsTrue (code_in sites parameters is x.code) → IsTrue (code_in sites parameters is y.code) → IsTrue (code_in sites parameters is (code_binary b x y))
  binary_read (Computes o) x y h k = and_both _ _ (in_type_read (common x y) x h) (in_type_read (common x y) y k)
  binary_read (Compares o) x y h k = and_both _ _ (in_type_read (common x y) x h) (in_type_read (common x y) y k)
  binary_read IsAnd x y h k = and_both _ _ h k
  binary_read IsOr x y h k = and_both _ _ h k
  binary_read IsImplies x y h k = refl
  binary_read IsIff x y h k = refl
  binary_read IsMember x y h k = refl

  pub code_read : (a : Around) → Reads a → (x : Exp) → IsTrue (code_in sites parameters is (code a x))
  code_read a h (e.Number p n c) = refl
  code_read a h (e.Name x) = code_named (meaning a x) (name_read a h x)
  code_read a h (e.Null p) = refl
  code_read a h (e.Group p x) = code_read a h x
  code_read a h (e.Field p x y) = code_read a h x
  code_read a h (e.Unary p o x) = unary_read o (code a x) _ (code_read a h x)
  code_read a h (e.Binary p o x y) = binary_read (binary o) (operand_of a.context.scope x (code a x)) (operand_of a.context.scope y (code a y)) (code_read a h x) (code_read a h y)
  code_read a h (e.Conditional p x y z) =
      let u = operand_of a.context.scope y (code a y) in
      let v = operand_of a.context.scope z (code a z) in
      and_both _ _ (code_read a h x) (and_both _ _ (in_type_read (common u v) u (code_read a h y)) (in_type_read (common u v) v (code_read a h z)))
  code_read a h _ = refl

  pub codes_read : (a : Around) → Reads a → (xs : List Exp) → IsTrue (every (code_in sites parameters is) (codes a xs))
  codes_read a h [] = refl
  codes_read a h (x ∷ xs) = and_both _ _ (code_read a h x) (codes_read a h xs)

  pub stored_in_read : (ty : Ty) (x : Operand) → IsTrue (code_in sites parameters is x.code) → IsTrue (code_in sites parameters is (stored_in ty x))
  stored_in_read (e.Integer c) x h = in_type_read c x h
  stored_in_read (e.Pointer y) x h = h
  stored_in_read e.Object x h = h
  stored_in_read e.Claim x h = h

  pub stored_read : (a : Around) → Reads a → (ty : Ty) (x : Exp) → IsTrue (code_in sites parameters is (stored a ty x))
  stored_read a h ty x = stored_in_read ty (operand_of a.context.scope x (code a x)) (code_read a h x)

  -- ---- annotations

  abbrev In : Spec → Type 0
  In x = IsTrue (spec_in sites parameters is x)

  abbrev AllIn : Specs → Type 0
  AllIn xs = IsTrue (specs_in sites parameters is xs)

  quantifier_reads : (a : Around) → Reads a → (ty : Ty) (x : Id) → Reads (within_quantifier ty x a)
  quantifier_reads a h ty x zero v g l = absurd (omega arith)
  quantifier_reads a h ty x (suc i) v g l = h i v g (omega arith)

  word_read : (w : Constant) → In (word w)
  word_read constants.True = refl
  word_read constants.False = refl
  word_read constants.This = refl
  word_read constants.Me = refl
  word_read constants.Result = refl

  status_read : (s : Status) (x : Spec) → In x → In (status s x)
  status_read statuses.Closed x h = h
  status_read statuses.Owner x h = h
  status_read statuses.ClaimCount x h = h

  negation_read : (o : UnaryOperator) (x : Spec) → In x → In (negation o x)
  negation_read unary.Not x h = h
  negation_read unary.Negate x h = h

  joined_read : (b : Binary) (x y : Spec) → In x → In y → In (joined b x y)
  joined_read (Computes o) x y h k = and_both _ _ h k
  joined_read (Compares o) x y h k = and_both _ _ h k
  joined_read IsAnd x y h k = and_both _ _ h k
  joined_read IsOr x y h k = and_both _ _ h k
  joined_read IsImplies x y h k = and_both _ _ h k
  joined_read IsIff x y h k = and_both _ _ h k
  joined_read IsMember x y h k = and_both _ _ h k

  applied_read : (o : SpecFunction) (x : Spec) → In x → In (applied o x)
  applied_read f.Old x h = h
  applied_read f.Unchanged x h = h
  applied_read f.Wrapped x h = h
  applied_read f.WrappedUnclaimed x h = h
  applied_read f.Mutable x h = h
  applied_read f.Fresh x h = h

  all_read : (x : Spec) (xs : Specs) → In x → AllIn xs → In (and_all x xs)
  all_read x t.Stop h k = h
  all_read x (t.With y ys) h k = and_both _ _ h (all_read y ys (and_left (spec_in sites parameters is y) (specs_in sites parameters is ys) k) (and_right (spec_in sites parameters is y) (specs_in sites parameters is ys) k))

  all_hold_read : (xs : Specs) → AllIn xs → In (all_hold xs)
  all_hold_read t.Stop k = refl
  all_hold_read (t.With y ys) k = all_read y ys (and_left (spec_in sites parameters is y) (specs_in sites parameters is ys) k) (and_right (spec_in sites parameters is y) (specs_in sites parameters is ys) k)

  append_read : (xs ys : Specs) → AllIn xs → AllIn ys → AllIn (append xs ys)
  append_read t.Stop ys h k = k
  append_read (t.With x xs) ys h k = and_both _ _ (and_left (spec_in sites parameters is x) (specs_in sites parameters is xs) h) (append_read xs ys (and_right (spec_in sites parameters is x) (specs_in sites parameters is xs) h) k)

  mutual
    pub spec_read : (a : Around) → Reads a → (n : ℕ) (x : Exp) → In (spec a n x)
    spec_read a h n (e.Number p v c) = refl
    spec_read a h n (e.Name x) = spec_named (meaning a x) (name_read a h x)
    spec_read a h n (e.Null p) = refl
    spec_read a h n (e.Word p w) = word_read w
    spec_read a h n (e.Group p x) = spec_read a h n x
    spec_read a h n (e.Field p x y) = spec_read a h n x
    spec_read a h n (e.State p x r s) = status_read s (spec a n x) (spec_read a h n x)
    spec_read a h n (e.Owns p x r) = spec_read a h n x
    spec_read a h n (e.Unary p o x) = negation_read o (spec a n x) (spec_read a h n x)
    spec_read a h n (e.Binary p o x y) = joined_read (binary o) (spec a n x) (spec a (n + formulas x) y) (spec_read a h n x) (spec_read a h (n + formulas x) y)
    spec_read a h n (e.Conditional p x y z) = and_both _ _ (spec_read a h n x) (and_both _ _ (spec_read a h (n + formulas x) y) (spec_read a h (n + (formulas x + formulas y)) z))
    spec_read a h n (e.Apply p o x) = applied_read o (spec a n x) (spec_read a h n x)
    spec_read a h n (e.Several p lists.Mine xs) = all_hold_read (members a n xs) (members_read a h n xs)
    spec_read a h n (e.Several p lists.ClaimsOnly xs) = claims_read a h n xs
    spec_read a h n (e.ClaimsObject p x y) = and_both _ _ (spec_read a h n x) (spec_read a h (n + formulas x) y)
    spec_read a h n (e.Claims p x y) = and_both _ _ (spec_read a h n x) (conjuncts_read a h (n + formulas x) y (spec a (n + formulas x) y) (spec_read a h (n + formulas x) y))
    spec_read a h n (e.Approves p x) = refl
    spec_read a h n (e.Quantified p q.ForAll ty x y) = for_all_read a (within_quantifier ty x a) h (quantifier_reads a h ty x) n _ y
    spec_read a h n (e.Quantified p q.Exists ty x y) = exists_read a (within_quantifier ty x a) h (quantifier_reads a h ty x) n _ y

    members_read : (a : Around) → Reads a → (n : ℕ) (xs : Exps) → AllIn (members a n xs)
    members_read a h n e.Stop = refl
    members_read a h n (e.With x xs) = and_both _ _ (and_both _ _ (spec_read a h n x) refl) (members_read a h (n + formulas x) xs)

    claims_read : (a : Around) → Reads a → (n : ℕ) (xs : Exps) → In (claims_only a n xs)
    claims_read a h n e.Stop = refl
    claims_read a h n (e.With x xs) = and_both _ _ (spec_read a h (1 + n) x) (each_read a h (1 + (n + formulas x)) xs)

    each_read : (a : Around) → Reads a → (n : ℕ) (xs : Exps) → AllIn (each_spec a n xs)
    each_read a h n e.Stop = refl
    each_read a h n (e.With x xs) = and_both _ _ (spec_read a h n x) (each_read a h (n + formulas x) xs)

    conjuncts_read : (a : Around) → Reads a → (n : ℕ) (x : Exp) (w : Spec) → In w → AllIn (conjuncts a n x w)
    conjuncts_read a h n (e.Group p x) w k = conjuncts_read a h n x w k
    conjuncts_read a h n (e.Binary p op.And x y) w k =
        append_read (conjuncts a n x (spec a n x)) (conjuncts a (n + formulas x) y (spec a (n + formulas x) y)) (conjuncts_read a h n x (spec a n x) (spec_read a h n x)) (conjuncts_read a h (n + formulas x) y (spec a (n + formulas x) y) (spec_read a h (n + formulas x) y))
    conjuncts_read a h n (e.State p x r statuses.Closed) w k = and_both _ _ (spec_read a h n x) refl
    conjuncts_read a h n _ w k = and_both (spec_in sites parameters is w) true k refl

    for_all_read : (a b : Around) → Reads a → Reads b → (n : ℕ) (ty : DeclaredType) (x : Exp) → In (for_all a b n ty x)
    for_all_read a b h k n ty (e.Group p x) = for_all_read a b h k n ty x
    for_all_read a b h k n ty (e.Binary p op.Implies x y) = and_both _ _ (owner_read a h (1 + n) x) (spec_read b k (1 + (n + formulas x)) y)
    for_all_read a b h k n ty _ = refl

    exists_read : (a b : Around) → Reads a → Reads b → (n : ℕ) (ty : DeclaredType) (x : Exp) → In (exists a b n ty x)
    exists_read a b h k n ty (e.Group p x) = exists_read a b h k n ty x
    exists_read a b h k n ty (e.Binary p op.And x y) =
        and_both _ _ (owner_first_read a h (1 + n) x) (append_read (others b (1 + n) x) (t.With (spec b (1 + (n + formulas x)) y) t.Stop) (others_read b k (1 + n) x) (and_both _ true (spec_read b k (1 + (n + formulas x)) y) refl))
    exists_read a b h k n ty _ = refl

    owner_read : (a : Around) → Reads a → (n : ℕ) (x : Exp) → In (owner a n x)
    owner_read a h n (e.Group p x) = owner_read a h n x
    owner_read a h n (e.Binary p op.In x y) = spec_read a h (n + formulas x) y
    owner_read a h n _ = refl

    owner_first_read : (a : Around) → Reads a → (n : ℕ) (x : Exp) → In (owner_first a n x)
    owner_first_read a h n (e.Group p x) = owner_read a h n x
    owner_first_read a h n (e.Binary p op.In x y) = spec_read a h (n + formulas x) y
    owner_first_read a h n (e.Binary p op.And x y) = owner_first_read a h n x
    owner_first_read a h n _ = refl

    others_read : (a : Around) → Reads a → (n : ℕ) (x : Exp) → AllIn (others a n x)
    others_read a h n (e.Binary p op.And x y) = append_read (others a n x) (t.With (spec a (n + formulas x) y) t.Stop) (others_read a h n x) (and_both _ true (spec_read a h (n + formulas x) y) refl)
    others_read a h n _ = refl

  pub property_read : (a : Around) → Reads a → (n : ℕ) (x : Exp) → IsTrue (every (spec_in sites parameters is) (property a n x))
  property_read a h n (e.Group p x) = property_read a h n x
  property_read a h n (e.Binary p op.And x y) = every_append (spec_in sites parameters is) (property a n x) (property a (n + formulas x) y) (property_read a h n x) (property_read a h (n + formulas x) y)
  property_read a h n x = and_both (spec_in sites parameters is (spec a n x)) true (spec_read a h n x) refl

  -- ---- numbers of shapes

  abbrev Filled : List Hole → Type 0
  Filled xs = IsTrue (every (hole_in sites parameters is) xs)

  two_filled : (x y : Spec) → (In x → Filled (holes x)) → (In y → Filled (holes y)) → IsTrue (spec_in sites parameters is x && spec_in sites parameters is y) → Filled (holes x ++ holes y)
  two_filled x y h k i = every_append (hole_in sites parameters is) (holes x) (holes y) (h (and_left (spec_in sites parameters is x) (spec_in sites parameters is y) i)) (k (and_right (spec_in sites parameters is x) (spec_in sites parameters is y) i))

  row_filled : (x : Spec) (xs : Specs) → (In x → Filled (holes x)) → (AllIn xs → Filled (all_holes xs)) → IsTrue (spec_in sites parameters is x && specs_in sites parameters is xs) → Filled (holes x ++ all_holes xs)
  row_filled x xs h k i = every_append (hole_in sites parameters is) (holes x) (all_holes xs) (h (and_left (spec_in sites parameters is x) (specs_in sites parameters is xs) i)) (k (and_right (spec_in sites parameters is x) (specs_in sites parameters is xs) i))

  mutual
    pub holes_read : (x : Spec) → In x → Filled (holes x)
    holes_read (t.SNumber z) h = refl
    holes_read (t.STruth b) h = refl
    holes_read t.SNull h = refl
    holes_read (t.SVariable i) h = and_both (known sites parameters is i) true h refl
    holes_read (t.SBound i) h = refl
    holes_read t.SThis h = refl
    holes_read t.SMe h = refl
    holes_read t.SResult h = refl
    holes_read (t.SField x i) h = holes_read x h
    holes_read (t.SClosed x) h = holes_read x h
    holes_read (t.SOwner x) h = holes_read x h
    holes_read (t.SClaimCount x) h = holes_read x h
    holes_read (t.SMember x y) h = two_filled x y (holes_read x) (holes_read y) h
    holes_read (t.SNot x) h = holes_read x h
    holes_read (t.SNegate x) h = holes_read x h
    holes_read (t.SArithmetic o x y) h = two_filled x y (holes_read x) (holes_read y) h
    holes_read (t.SCompare o x y) h = two_filled x y (holes_read x) (holes_read y) h
    holes_read (t.SAnd x y) h = two_filled x y (holes_read x) (holes_read y) h
    holes_read (t.SOr x y) h = two_filled x y (holes_read x) (holes_read y) h
    holes_read (t.SImplies x y) h = two_filled x y (holes_read x) (holes_read y) h
    holes_read (t.SIff x y) h = two_filled x y (holes_read x) (holes_read y) h
    holes_read (t.SChoose x y z) h =
        every_append (hole_in sites parameters is) (holes x) (holes y ++ holes z) (holes_read x (and_left (spec_in sites parameters is x) (spec_in sites parameters is y && spec_in sites parameters is z) h))
        (two_filled y z (holes_read y) (holes_read z) (and_right (spec_in sites parameters is x) (spec_in sites parameters is y && spec_in sites parameters is z) h))
    holes_read (t.SOld x) h = holes_read x h
    holes_read (t.SUnchanged x) h = holes_read x h
    holes_read (t.SWrapped x) h = holes_read x h
    holes_read (t.SWrapped0 x) h = holes_read x h
    holes_read (t.SMutable x) h = holes_read x h
    holes_read (t.SFresh x) h = holes_read x h
    holes_read (t.SClaimsObject x y) h = two_filled x y (holes_read x) (holes_read y) h
    holes_read (t.SClaims x xs) h = row_filled x xs (holes_read x) (all_holes_read xs) h
    holes_read (t.SLists x) h = holes_read x h
    holes_read (t.SHas c) h = h
    holes_read (t.SForAll n ty x y) h = two_filled x y (holes_read x) (holes_read y) h
    holes_read (t.SExists n ty x ys) h = row_filled x ys (holes_read x) (all_holes_read ys) h
    holes_read (t.SClaimsOnly n x ys) h = row_filled x ys (holes_read x) (all_holes_read ys) h

    all_holes_read : (xs : Specs) → AllIn xs → Filled (all_holes xs)
    all_holes_read t.Stop h = refl
    all_holes_read (t.With x xs) h = row_filled x xs (holes_read x) (all_holes_read xs) h

  module _ (l : List Shape) (s : Sorts) where
    two_numbered : (x y : Spec) → (In x → In (numbered l s x)) → (In y → In (numbered l s y)) → IsTrue (spec_in sites parameters is x && spec_in sites parameters is y) → IsTrue (spec_in sites parameters is (numbered l s x) && spec_in sites parameters is (numbered l s y))
    two_numbered x y h k i = and_both _ _ (h (and_left (spec_in sites parameters is x) (spec_in sites parameters is y) i)) (k (and_right (spec_in sites parameters is x) (spec_in sites parameters is y) i))

    mutual
      pub numbered_read : (x : Spec) → In x → In (numbered l s x)
      numbered_read (t.SField x i) h = numbered_read x h
      numbered_read (t.SClosed x) h = numbered_read x h
      numbered_read (t.SOwner x) h = numbered_read x h
      numbered_read (t.SClaimCount x) h = numbered_read x h
      numbered_read (t.SMember x y) h = two_numbered x y (numbered_read x) (numbered_read y) h
      numbered_read (t.SNot x) h = numbered_read x h
      numbered_read (t.SNegate x) h = numbered_read x h
      numbered_read (t.SArithmetic o x y) h = two_numbered x y (numbered_read x) (numbered_read y) h
      numbered_read (t.SCompare o x y) h = two_numbered x y (numbered_read x) (numbered_read y) h
      numbered_read (t.SAnd x y) h = two_numbered x y (numbered_read x) (numbered_read y) h
      numbered_read (t.SOr x y) h = two_numbered x y (numbered_read x) (numbered_read y) h
      numbered_read (t.SImplies x y) h = two_numbered x y (numbered_read x) (numbered_read y) h
      numbered_read (t.SIff x y) h = two_numbered x y (numbered_read x) (numbered_read y) h
      numbered_read (t.SChoose x y z) h =
          and_both _ _ (numbered_read x (and_left (spec_in sites parameters is x) (spec_in sites parameters is y && spec_in sites parameters is z) h))
          (two_numbered y z (numbered_read y) (numbered_read z) (and_right (spec_in sites parameters is x) (spec_in sites parameters is y && spec_in sites parameters is z) h))
      numbered_read (t.SOld x) h = numbered_read x h
      numbered_read (t.SUnchanged x) h = numbered_read x h
      numbered_read (t.SWrapped x) h = numbered_read x h
      numbered_read (t.SWrapped0 x) h = numbered_read x h
      numbered_read (t.SMutable x) h = numbered_read x h
      numbered_read (t.SFresh x) h = numbered_read x h
      numbered_read (t.SClaimsObject x y) h = two_numbered x y (numbered_read x) (numbered_read y) h
      numbered_read (t.SClaims x xs) h = and_both _ _ (numbered_read x (and_left (spec_in sites parameters is x) (specs_in sites parameters is xs) h)) (conjuncts_numbered xs (and_right (spec_in sites parameters is x) (specs_in sites parameters is xs) h))
      numbered_read (t.SLists x) h = numbered_read x h
      numbered_read (t.SForAll n ty x y) h = two_numbered x y (numbered_read x) (numbered_read y) h
      numbered_read (t.SExists n ty x ys) h = and_both _ _ (numbered_read x (and_left (spec_in sites parameters is x) (specs_in sites parameters is ys) h)) (row_numbered ys (and_right (spec_in sites parameters is x) (specs_in sites parameters is ys) h))
      numbered_read (t.SClaimsOnly n x ys) h = and_both _ _ (numbered_read x (and_left (spec_in sites parameters is x) (specs_in sites parameters is ys) h)) (row_numbered ys (and_right (spec_in sites parameters is x) (specs_in sites parameters is ys) h))
      numbered_read _ h = h

      row_numbered : (xs : Specs) → AllIn xs → AllIn (all_numbered l s xs)
      row_numbered t.Stop h = refl
      row_numbered (t.With x xs) h = and_both _ _ (numbered_read x (and_left (spec_in sites parameters is x) (specs_in sites parameters is xs) h)) (row_numbered xs (and_right (spec_in sites parameters is x) (specs_in sites parameters is xs) h))

      conjuncts_numbered : (xs : Specs) → AllIn xs → AllIn (numbered_conjuncts l s xs)
      conjuncts_numbered t.Stop h = refl
      conjuncts_numbered (t.With (t.SLists x) xs) h = and_both _ _ (numbered_read x (and_left (spec_in sites parameters is x) (specs_in sites parameters is xs) h)) (conjuncts_numbered xs (and_right (spec_in sites parameters is x) (specs_in sites parameters is xs) h))
      conjuncts_numbered (t.With x xs) h = and_both _ _ (holes_read x (and_left (spec_in sites parameters is x) (specs_in sites parameters is xs) h)) (conjuncts_numbered xs (and_right (spec_in sites parameters is x) (specs_in sites parameters is xs) h))
