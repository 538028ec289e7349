-- From the conditions of a program, in their order, to those of each type and function.
use Rattle.std.proofs.Common.{◌≡◌, ℕ, suc, ◌+◌, ◌-◌, ◌==◌, ◌⊎◌, inl, inr, nat_le, Bool, true, false, not, ◌&&◌, if◌then◌else◌, List, [], ◌∷◌, ◌++◌, length, Some, None, slice_get, refl, sym, ap, ◌∙◌, subst, arith}
use Rattle.std.specs.Prelude.{flat_map}
use Rattle.std.proofs.Common.{leb-true}
use Rattle.std.proofs.lemmas.Bool.{eqb-true, and_parts, lt-ltb}
use Rattle.std.proofs.lemmas.Option.{slice_get_within}
use Rattle.method.specs.declared.program.Spec.{Spec}
use Rattle.method.specs.declared.program.Item.{Item}
use Rattle.method.specs.declared.program.Item.TheVariants.{Struct, Function}
use Rattle.method.specs.declared.program.Program.{Program}
use Rattle.method.specs.Typing.{WellTyped, same_item, is_item, times}
use Rattle.terms.specs.Formula.{Formula}
use Rattle.term_meaning.specs.Meaning.{Language, IsValid}
use Rattle.conditions.specs.Admissible.{reflexive, stable}
use Rattle.conditions.specs.Conditions.{struct_conditions, item_conditions, formulas}
use Rattle.condition_meaning.specs.Languages.{language_of}
use Rattle.condition_meaning.specs.Promises.{AllValid, TypeIsValid}

pub valid_parts : (l : Language) (fs gs : List Formula) → AllValid l (fs ++ gs) → AllValid l fs × AllValid l gs
valid_parts l [] gs a = (tt, a)
valid_parts l (f ∷ fs) gs a = let z = valid_parts l fs gs a.1 in ((a.0, z.0), z.1)

same_item_is : (i j : Item) → same_item i j ≡ true → i ≡ j
same_item_is (Struct n) (Struct k) h = ap Struct (eqb-true n k h)
same_item_is (Struct n) (Function k) h = absurd (cc)
same_item_is (Function n) (Struct k) h = absurd (cc)
same_item_is (Function n) (Function k) h = ap Function (eqb-true n k h)

-- the conditions of an item that stands in the list are among those of the list
item_valid : (l : Language) (g : Item → List Formula) (i : Item) (items : List Item) → times i items ≡ 1 → AllValid l (flat_map g items) → AllValid l (g i)
item_valid l g i [] t a = absurd (omega (arith, t))
item_valid l g i (j ∷ js) t a =
    let z = valid_parts l (g j) (flat_map g js) a in
    by_test (same_item i j) refl t z.0 (λ u. item_valid l g i js u z.1)
  where
    by_test : (b : Bool) → same_item i j ≡ b → (if b then 1 else 0) + times i js ≡ 1 → AllValid l (g j) → (times i js ≡ 1 → AllValid l (g i)) → AllValid l (g i)
    by_test true same t here more = subst (λ k. AllValid l (g k)) (sym (same_item_is i j same)) here
    by_test false other t here more = more (omega (arith, t))

pub item_conditions_valid : (p : Program) → WellTyped p → AllValid (language_of p) (formulas p) → (i : Item) → is_item p i ≡ true → AllValid (language_of p) (item_conditions p i)
item_conditions_valid p typed a i is = item_valid (language_of p) (item_conditions p) i p.items.items (typed.items i ∙ ap (λ (b : Bool). if b then 1 else 0) is) a

nothing_in : (es : List Spec) → length es == 0 ≡ true → es ≡ []
nothing_in [] h = refl
nothing_in (e ∷ es) h = absurd (let z : suc (length es) ≡ 0 = eqb-true (suc (length es)) 0 h in omega (arith, z))

pub types_valid : (p : Program) → WellTyped p → AllValid (language_of p) (formulas p) → (ty : ℕ) → TypeIsValid p ty
types_valid p typed a ty s is = formulas_from (nat_le 3 ty) refl is
  where
    with_struct : (n : ℕ) → n + 3 ≡ ty → slice_get p.structs.items n ≡ Some s → (s.invariants.items ≡ []) ⊎ (IsValid (language_of p) (reflexive ty) × IsValid (language_of p) (stable ty))
    with_struct n same at =
        by_size (length s.invariants.items == 0 && not s.has_approval) refl
        (subst (λ o. AllValid (language_of p) (struct_conditions n o)) at (item_conditions_valid p typed a (Struct n) (lt-ltb n (length p.structs.items) (slice_get_within p.structs.items n s at))))
      where
        by_size : (b : Bool) → length s.invariants.items == 0 && not s.has_approval ≡ b → AllValid (language_of p) (if b then [] else reflexive (n + 3) ∷ stable (n + 3) ∷ []) → (s.invariants.items ≡ []) ⊎ (IsValid (language_of p) (reflexive ty) × IsValid (language_of p) (stable ty))
        by_size true e v = inl (nothing_in s.invariants.items (and_parts (length s.invariants.items == 0) (not s.has_approval) e).0)
        by_size false e v = inr (subst (λ k. IsValid (language_of p) (reflexive k)) same v.0, subst (λ k. IsValid (language_of p) (stable k)) same v.1.0)

    formulas_from : (b : Bool) → nat_le 3 ty ≡ b → (if b then slice_get p.structs.items (ty - 3) else None) ≡ Some s → (s.invariants.items ≡ []) ⊎ (IsValid (language_of p) (reflexive ty) × IsValid (language_of p) (stable ty))
    formulas_from true e h = with_struct (ty - 3) (let z = leb-true 3 ty e in omega (arith, z)) h
    formulas_from false e h = absurd (cc)
