-- The quantified formulas of an expression whose first has number n: their numbers stand from n on, as many as there are formulas.
use Rattle.std.specs.Prelude.{ℕ, ◌+◌, List, ◌++◌}
use Rattle.std.proofs.Common.{◌≡◌, refl, sym, ap, subst, arith, ◌∙◌, append_assoc, append-nil}
use Rattle.c_syntax.specs.declared.tree.Constant.{Constant}
use Rattle.c_syntax.specs.declared.tree.Constant.TheVariants as constants
use Rattle.c_syntax.specs.declared.tree.Status.{Status}
use Rattle.c_syntax.specs.declared.tree.Status.TheVariants as statuses
use Rattle.c_syntax.specs.declared.tree.UnaryOperator.{UnaryOperator}
use Rattle.c_syntax.specs.declared.tree.UnaryOperator.TheVariants as unary
use Rattle.c_syntax.specs.declared.tree.BinaryOperator.TheVariants as op
use Rattle.c_syntax.specs.declared.tree.SpecFunction.{SpecFunction}
use Rattle.c_syntax.specs.declared.tree.SpecFunction.TheVariants as f
use Rattle.c_syntax.specs.declared.tree.ListWord.TheVariants as lists
use Rattle.c_syntax.specs.declared.tree.Quantifier.TheVariants as q
use Rattle.c_syntax.specs.Expressions as e
use Rattle.c_syntax.specs.Expressions.{Exp, Exps}
use Rattle.method.specs.declared.program.DeclaredType.{DeclaredType}
use Rattle.method.specs.declared.program.Program.{Program}
use Rattle.conditions.specs.Formulas.{null}
use Rattle.conditions.specs.Annotations.{Scene, old_scene, bind_ref}
use Rattle.conditions.specs.Quantified.{QuantifiedFormula}
use Rattle.typed_program.specs.Trees as t
use Rattle.typed_program.specs.Trees.{Spec, Specs, Stop, With, Shape}
use Rattle.typed_program.specs.Numbers.{Around, Meaning, OfQuantifier, OfFunction, OwnField, meaning, declared_type}
use Rattle.typed_program.specs.Codes.{Binary, Computes, Compares, IsAnd, IsOr, IsImplies, IsIff, IsMember, binary}
use Rattle.typed_program.specs.Annotations.{formulas, all_formulas, spec, members, claims_only, each_spec, conjuncts, for_all, exists, owner, owner_first, others, append, and_all, all_hold, word, name, status, negation, joined, applied, within_quantifier}
use Rattle.typed_program.specs.Shapes.{Sorts, numbered, all_numbered, numbered_conjuncts}
use Rattle.text_numbers.proofs.Annotations.{quantifiers, all_quantifiers}
use Rattle.text_numbers.proofs.Ranges.{Within, none, wider, behind, join, first}

module _ (p : Program) (l : List Shape) (s : Sorts) where
  -- the quantified formulas where the conjuncts of claims are numbered
  abbrev pub of_spec : Spec → Scene → List QuantifiedFormula
  of_spec w y = quantifiers p (numbered l s w) y

  abbrev pub of_specs : Specs → Scene → List QuantifiedFormula
  of_specs ws y = all_quantifiers p (all_numbered l s ws) y

  abbrev of_conjuncts : Specs → Scene → List QuantifiedFormula
  of_conjuncts ws y = all_quantifiers p (numbered_conjuncts l s ws) y

  -- ---- forms

  within_name : (n : ℕ) (m : Meaning) (y : Scene) → Within n 0 (of_spec (name m) y)
  within_name n (OfQuantifier i) y = none n 0
  within_name n (OfFunction i) y = none n 0
  within_name n (OwnField i) y = none n 0

  within_word : (n : ℕ) (c : Constant) (y : Scene) → Within n 0 (of_spec (word c) y)
  within_word n constants.True y = none n 0
  within_word n constants.False y = none n 0
  within_word n constants.This y = none n 0
  within_word n constants.Me y = none n 0
  within_word n constants.Result y = none n 0

  within_status : (n c : ℕ) (u : Status) (w : Spec) (y : Scene) → Within n c (of_spec w y) → Within n c (of_spec (status u w) y)
  within_status n c statuses.Closed w y h = h
  within_status n c statuses.Owner w y h = h
  within_status n c statuses.ClaimCount w y h = h

  within_negation : (n c : ℕ) (o : UnaryOperator) (w : Spec) (y : Scene) → Within n c (of_spec w y) → Within n c (of_spec (negation o w) y)
  within_negation n c unary.Not w y h = h
  within_negation n c unary.Negate w y h = h

  within_applied : (n c : ℕ) (g : SpecFunction) (w : Spec) (y : Scene) → ((z : Scene) → Within n c (of_spec w z)) → Within n c (of_spec (applied g w) y)
  within_applied n c f.Old w y h = h (old_scene y)
  within_applied n c f.Unchanged w y h = h y
  within_applied n c f.Wrapped w y h = h y
  within_applied n c f.WrappedUnclaimed w y h = h y
  within_applied n c f.Mutable w y h = h y
  within_applied n c f.Fresh w y h = h y

  within_joined : (n c d : ℕ) (b : Binary) (v w : Spec) (y : Scene) → Within n c (of_spec v y) → Within (n + c) d (of_spec w y) → Within n (c + d) (of_spec (joined b v w) y)
  within_joined n c d (Computes o) v w y h j = join h j
  within_joined n c d (Compares o) v w y h j = join h j
  within_joined n c d IsAnd v w y h j = join h j
  within_joined n c d IsOr v w y h j = join h j
  within_joined n c d IsImplies v w y h j = join h j
  within_joined n c d IsIff v w y h j = join h j
  within_joined n c d IsMember v w y h j = join h j

  -- ---- rows

  and_all_is : (w : Spec) (ws : Specs) (y : Scene) → of_spec (and_all w ws) y ≡ of_spec w y ++ of_specs ws y
  and_all_is w Stop y = sym (append-nil (of_spec w y))
  and_all_is w (With v vs) y = ap (λ (z : List QuantifiedFormula). of_spec w y ++ z) (and_all_is v vs y)

  pub all_hold_is : (ws : Specs) (y : Scene) → of_spec (all_hold ws) y ≡ of_specs ws y
  all_hold_is Stop y = refl
  all_hold_is (With w ws) y = and_all_is w ws y

  append_is : (vs ws : Specs) (y : Scene) → of_specs (append vs ws) y ≡ of_specs vs y ++ of_specs ws y
  append_is Stop ws y = refl
  append_is (With v vs) ws y = ap (λ (z : List QuantifiedFormula). of_spec v y ++ z) (append_is vs ws y) ∙ sym (append_assoc (of_spec v y) (of_specs vs y) (of_specs ws y))

  conjuncts_append_is : (vs ws : Specs) (y : Scene) → of_conjuncts (append vs ws) y ≡ of_conjuncts vs y ++ of_conjuncts ws y
  conjuncts_append_is Stop ws y = refl
  conjuncts_append_is (With (t.SLists v) vs) ws y = ap (λ (z : List QuantifiedFormula). of_spec v y ++ z) (conjuncts_append_is vs ws y) ∙ sym (append_assoc (of_spec v y) (of_conjuncts vs y) (of_conjuncts ws y))
  conjuncts_append_is (With v vs) ws y = conjuncts_append_is vs ws y

  one_conjunct : (n c : ℕ) (w : Spec) (y : Scene) → Within n c (of_spec w y) → Within n c (of_conjuncts (With w Stop) y)
  one_conjunct n c (t.SLists x) y h = behind h
  one_conjunct n c _ y h = none n c

  -- ---- expressions

  mutual
    pub spec_within : (a : Around) (n : ℕ) (x : Exp) (y : Scene) → Within n (formulas x) (of_spec (spec a n x) y)
    spec_within a n (e.Number p v ty) y = none n 0
    spec_within a n (e.Name x) y = within_name n (meaning a x) y
    spec_within a n (e.Null p) y = none n 0
    spec_within a n (e.Word p w) y = within_word n w y
    spec_within a n (e.Group p x) y = spec_within a n x y
    spec_within a n (e.Field p x z) y = spec_within a n x y
    spec_within a n (e.State p x u st) y = within_status n (formulas x) st (spec a n x) y (spec_within a n x y)
    spec_within a n (e.Owns p x u) y = spec_within a n x y
    spec_within a n (e.Unary p o x) y = within_negation n (formulas x) o (spec a n x) y (spec_within a n x y)
    spec_within a n (e.Binary p o x z) y = within_joined n (formulas x) (formulas z) (binary o) (spec a n x) (spec a (n + formulas x) z) y (spec_within a n x y) (spec_within a (n + formulas x) z y)
    spec_within a n (e.Conditional p x z w) y =
        wider (join (join (spec_within a n x y) (spec_within a (n + formulas x) z y)) (spec_within a (n + (formulas x + formulas z)) w y)) n (formulas x + (formulas z + formulas w)) (omega arith) (omega arith)
    spec_within a n (e.Apply p g x) y = within_applied n (formulas x) g (spec a n x) y (λ z. spec_within a n x z)
    spec_within a n (e.Several p lists.Mine xs) y = subst (λ qs. Within n (0 + all_formulas xs) qs) (sym (all_hold_is (members a n xs) y)) (wider (members_within a n xs y) n (0 + all_formulas xs) (omega arith) (omega arith))
    spec_within a n (e.Several p lists.ClaimsOnly xs) y = claims_within a n xs y
    spec_within a n (e.Approves p x) y = none n 0
    spec_within a n (e.ClaimsObject p x z) y = join (spec_within a n x y) (spec_within a (n + formulas x) z y)
    spec_within a n (e.Claims p x z) y = join (spec_within a n x y) (conjuncts_within a (n + formulas x) z (spec a (n + formulas x) z) y (spec_within a (n + formulas x) z y))
    spec_within a n (e.Quantified p q.ForAll ty x z) y = all_within a (within_quantifier ty x a) n (declared_type a.context.scope.items ty) z y
    spec_within a n (e.Quantified p q.Exists ty x z) y = some_within a (within_quantifier ty x a) n (declared_type a.context.scope.items ty) z y

    members_within : (a : Around) (n : ℕ) (xs : Exps) (y : Scene) → Within n (all_formulas xs) (of_specs (members a n xs) y)
    members_within a n e.Stop y = none n 0
    members_within a n (e.With x xs) y = join (behind (spec_within a n x y)) (members_within a (n + formulas x) xs y)

    claims_within : (a : Around) (n : ℕ) (xs : Exps) (y : Scene) → Within n (1 + all_formulas xs) (of_spec (claims_only a n xs) y)
    claims_within a n e.Stop y = none n (1 + 0)
    claims_within a n (e.With x xs) y =
        let rest = wider (each_within a (1 + (n + formulas x)) xs y) (1 + n + formulas x) (all_formulas xs) (omega arith) (omega arith) in
        first _ refl (join (spec_within a (1 + n) x y) rest)

    each_within : (a : Around) (n : ℕ) (xs : Exps) (y : Scene) → Within n (all_formulas xs) (of_specs (each_spec a n xs) y)
    each_within a n e.Stop y = none n 0
    each_within a n (e.With x xs) y = join (spec_within a n x y) (each_within a (n + formulas x) xs y)

    conjuncts_within : (a : Around) (n : ℕ) (x : Exp) (w : Spec) (y : Scene) → Within n (formulas x) (of_spec w y) → Within n (formulas x) (of_conjuncts (conjuncts a n x w) y)
    conjuncts_within a n (e.Group p x) w y h = conjuncts_within a n x w y h
    conjuncts_within a n (e.Binary p op.And x z) w y h =
        let m = n + formulas x in
        let left = conjuncts_within a n x (spec a n x) y (spec_within a n x y) in
        let right = conjuncts_within a m z (spec a m z) y (spec_within a m z y) in
        subst (λ qs. Within n (formulas x + formulas z) qs) (sym (conjuncts_append_is (conjuncts a n x (spec a n x)) (conjuncts a m z (spec a m z)) y)) (join left right)
    conjuncts_within a n (e.State p x r statuses.Closed) w y h = behind (spec_within a n x y)
    conjuncts_within a n x w y h = one_conjunct n (formulas x) w y h

    all_within : (a b : Around) (n : ℕ) (ty : DeclaredType) (x : Exp) (y : Scene) → Within n (1 + formulas x) (of_spec (for_all a b n ty x) y)
    all_within a b n ty (e.Group p x) y = all_within a b n ty x y
    all_within a b n ty (e.Binary p op.Implies x z) y =
        let body = wider (spec_within b (1 + (n + formulas x)) z (bind_ref null y)) (1 + n + formulas x) (formulas z) (omega arith) (omega arith) in
        first _ refl (join (owner_within a (1 + n) x y) body)
    all_within a b n ty x y = none n (1 + formulas x)

    some_within : (a b : Around) (n : ℕ) (ty : DeclaredType) (x : Exp) (y : Scene) → Within n (1 + formulas x) (of_spec (exists a b n ty x) y)
    some_within a b n ty (e.Group p x) y = some_within a b n ty x y
    some_within a b n ty (e.Binary p op.And x z) y =
        let inner = bind_ref null y in
        let last = spec b (1 + (n + formulas x)) z in
        let body = wider (behind (spec_within b (1 + (n + formulas x)) z inner)) (1 + n + formulas x) (formulas z) (omega arith) (omega arith) in
        let is = ap (λ (qs : List QuantifiedFormula). of_spec (owner_first a (1 + n) x) y ++ qs) (append_is (others b (1 + n) x) (With last Stop) inner) ∙ sym (append_assoc (of_spec (owner_first a (1 + n) x) y) (of_specs (others b (1 + n) x) inner) (of_specs (With last Stop) inner)) in
        first _ refl (subst (λ qs. Within (1 + n) (formulas x + formulas z) qs) (sym is) (join (chain_within a b (1 + n) x y inner) body))
    some_within a b n ty x y = none n (1 + formulas x)

    owner_within : (a : Around) (n : ℕ) (x : Exp) (y : Scene) → Within n (formulas x) (of_spec (owner a n x) y)
    owner_within a n (e.Group p x) y = owner_within a n x y
    owner_within a n (e.Binary p op.In x z) y = wider (spec_within a (n + formulas x) z y) n (formulas x + formulas z) (omega arith) (omega arith)
    owner_within a n x y = none n (formulas x)

    -- the object of the membership at the head of a chain, and the operands behind it
    chain_within : (a b : Around) (n : ℕ) (x : Exp) (y z : Scene) → Within n (formulas x) (of_spec (owner_first a n x) y ++ of_specs (others b n x) z)
    chain_within a b n (e.Group p x) y z = behind (owner_within a n x y)
    chain_within a b n (e.Binary p op.In x w) y z = behind (wider (spec_within a (n + formulas x) w y) n (formulas x + formulas w) (omega arith) (omega arith))
    chain_within a b n (e.Binary p op.And x w) y z =
        let last = spec b (n + formulas x) w in
        let is = ap (λ (qs : List QuantifiedFormula). of_spec (owner_first a n x) y ++ qs) (append_is (others b n x) (With last Stop) z) ∙ sym (append_assoc (of_spec (owner_first a n x) y) (of_specs (others b n x) z) (of_specs (With last Stop) z)) in
        subst (λ qs. Within n (formulas x + formulas w) qs) (sym is) (join (chain_within a b n x y z) (behind (spec_within b (n + formulas x) w z)))
    chain_within a b n x y z = none n (formulas x)
