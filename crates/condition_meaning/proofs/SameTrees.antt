-- Formulas that differ in the numbers of their constants alone, and what is left of the difference where they are renumbered: nothing.
use Rattle.std.proofs.Common.{◌≡◌, ℕ, suc, ◌==◌, Bool, true, false, not, ◌&&◌, ◌||◌, if◌then◌else◌, List, [], ◌∷◌, ◌++◌, refl, ap, ◌∙◌, subst, ℤ, pos, negsuc}
use Rattle.object_types.specs.Values.{same_int}
use Rattle.terms.specs.declared.term.Kind.{Kind}
use Rattle.terms.specs.declared.term.Kind.TheVariants as k
use Rattle.terms.specs.Formula.{Formula, Formulas, Node, Stop, With}
use Rattle.conditions.specs.Formulas.{ite, is_constant, is_number, with_number, constants, all_constants}
use Rattle.conditions.specs.Symbolic.{Symbolic, Truth, Number, Reference, term, test, choose, is_int}
use Rattle.conditions.specs.Quantified.{place_from, place_number, renumber, renumber_all}
use Rattle.condition_meaning.specs.Fits.{is_ref}
use Rattle.condition_meaning.proofs.Constants.{but}

module _ (Rel : ℕ → ℕ → Type 0) where
  abbrev pub Numbers : ℤ → ℤ → Type 0
  Numbers (pos a) (pos b) = Rel a b
  Numbers (pos a) (negsuc b) = ⊥
  Numbers (negsuc a) (pos b) = ⊥
  Numbers (negsuc a) (negsuc b) = ⊥

  abbrev pub Index : Bool → ℤ → ℤ → Type 0
  Index true n m = Numbers n m
  Index false n m = n ≡ m

  abbrev mutual
    pub SameTree : Formula → Formula → Type 0
    SameTree (Node a n fs) (Node b m gs) = (a ≡ b) × Index (is_constant a) n m × SameTrees fs gs

    pub SameTrees : Formulas → Formulas → Type 0
    SameTrees Stop Stop = Unit {0}
    SameTrees Stop (With g gs) = ⊥
    SameTrees (With f fs) Stop = ⊥
    SameTrees (With f fs) (With g gs) = SameTree f g × SameTrees fs gs

  abbrev pub SameValue : Symbolic → Symbolic → Type 0
  SameValue (Truth a) (Truth b) = SameTree a b
  SameValue (Truth a) (Number b) = ⊥
  SameValue (Truth a) (Reference b) = ⊥
  SameValue (Number a) (Truth b) = ⊥
  SameValue (Number a) (Number b) = SameTree a b
  SameValue (Number a) (Reference b) = ⊥
  SameValue (Reference a) (Truth b) = ⊥
  SameValue (Reference a) (Number b) = ⊥
  SameValue (Reference a) (Reference b) = SameTree a b

  -- the same constants, one to one
  abbrev pub Pairs : List ℕ → List ℕ → Type 0
  Pairs [] [] = Unit {0}
  Pairs [] (b ∷ bs) = ⊥
  Pairs (a ∷ as') [] = ⊥
  Pairs (a ∷ as') (b ∷ bs) = Rel a b × Pairs as' bs

  pub same_term : (x y : Symbolic) → SameValue x y → SameTree (term x) (term y)
  same_term (Truth a) (Truth b) h = (refl, refl, (h, ((refl, refl, tt), ((refl, refl, tt), tt))))
  same_term (Truth a) (Number b) h = absurd h
  same_term (Truth a) (Reference b) h = absurd h
  same_term (Number a) (Truth b) h = absurd h
  same_term (Number a) (Number b) h = h
  same_term (Number a) (Reference b) h = absurd h
  same_term (Reference a) (Truth b) h = absurd h
  same_term (Reference a) (Number b) h = absurd h
  same_term (Reference a) (Reference b) h = h

  pub same_test : (x y : Symbolic) → SameValue x y → SameTree (test x) (test y)
  same_test (Truth a) (Truth b) h = h
  same_test (Truth a) (Number b) h = absurd h
  same_test (Truth a) (Reference b) h = absurd h
  same_test (Number a) (Truth b) h = absurd h
  same_test (Number a) (Number b) h = (refl, refl, ((refl, refl, (h, ((refl, refl, tt), tt))), tt))
  same_test (Number a) (Reference b) h = absurd h
  same_test (Reference a) (Truth b) h = absurd h
  same_test (Reference a) (Number b) h = absurd h
  same_test (Reference a) (Reference b) h = (refl, refl, ((refl, refl, (h, ((refl, refl, tt), tt))), tt))

  pub same_sort : (x y : Symbolic) → SameValue x y → is_ref x ≡ is_ref y
  same_sort (Truth a) (Truth b) h = refl
  same_sort (Truth a) (Number b) h = absurd h
  same_sort (Truth a) (Reference b) h = absurd h
  same_sort (Number a) (Truth b) h = absurd h
  same_sort (Number a) (Number b) h = refl
  same_sort (Number a) (Reference b) h = absurd h
  same_sort (Reference a) (Truth b) h = absurd h
  same_sort (Reference a) (Number b) h = absurd h
  same_sort (Reference a) (Reference b) h = refl

  literal_same : (z : ℤ) (a : Kind) (n m : ℤ) (fs gs : Formulas) → Index (is_constant a) n m → SameTrees fs gs → is_int z (Number (Node a n fs)) ≡ is_int z (Number (Node a m gs))
  literal_same z k.Int n m Stop Stop i s = ap (same_int z) i
  literal_same z k.Int n m Stop (With g gs) i s = absurd s
  literal_same z k.Int n m (With f fs) Stop i s = absurd s
  literal_same z k.Int n m (With f fs) (With g gs) i s = refl
  literal_same z _ n m fs gs i s = refl

  same_int_test : (z : ℤ) (x y : Symbolic) → SameValue x y → is_int z x ≡ is_int z y
  same_int_test z (Truth a) (Truth b) h = refl
  same_int_test z (Truth a) (Number b) h = absurd h
  same_int_test z (Truth a) (Reference b) h = absurd h
  same_int_test z (Number a) (Truth b) h = absurd h
  same_int_test z (Number (Node a n fs)) (Number (Node b m gs)) h = literal_same z a n m fs gs h.1 h.2 ∙ ap (λ c. is_int z (Number (Node c m gs))) h.0
  same_int_test z (Number a) (Reference b) h = absurd h
  same_int_test z (Reference a) (Truth b) h = absurd h
  same_int_test z (Reference a) (Number b) h = absurd h
  same_int_test z (Reference a) (Reference b) h = refl

  pub same_choice : (a b : Formula) (x y x' y' : Symbolic) → SameTree a b → SameValue x x' → SameValue y y' → SameValue (choose a x y) (choose b x' y')
  same_choice a b (Truth x) y (Truth x') y' i j h = (refl, refl, (i, (same_term (Truth x) (Truth x') j, (same_term y y' h, tt))))
  same_choice a b (Truth x) y (Number x') y' i j h = absurd j
  same_choice a b (Truth x) y (Reference x') y' i j h = absurd j
  same_choice a b (Number x) y (Truth x') y' i j h = absurd j
  same_choice a b (Number x) y (Number x') y' i j h = by_test (is_int (pos 1) (Number x) && is_int (pos 0) y) (is_int (pos 1) (Number x') && is_int (pos 0) y') (λ d. same_int_test (pos 1) (Number x) (Number x') j d && same_int_test (pos 0) y y' h d)
    where
      by_test : (s t : Bool) → s ≡ t → SameValue (if s then Truth a else Number (ite a x (term y))) (if t then Truth b else Number (ite b x' (term y')))
      by_test true true e = i
      by_test true false e = absurd (cc)
      by_test false true e = absurd (cc)
      by_test false false e = (refl, refl, (i, (j, (same_term y y' h, tt))))
  same_choice a b (Number x) y (Reference x') y' i j h = absurd j
  same_choice a b (Reference x) y (Truth x') y' i j h = absurd j
  same_choice a b (Reference x) y (Number x') y' i j h = absurd j
  same_choice a b (Reference x) y (Reference x') y' i j h = (refl, refl, (i, (j, (same_term y y' h, tt))))

  -- Renumbered, they are one.
  module _ (unique : (i j i' j' : ℕ) → Rel i i' → Rel j j' → (i == j) ≡ (i' == j')) where
    number_same : (n m : ℕ) (ms ns : List ℕ) → Rel n m → Pairs ms ns → is_number n ms ≡ is_number m ns
    number_same n m [] [] r a = refl
    number_same n m [] (b ∷ ns) r a = absurd a
    number_same n m (b ∷ ms) [] r a = absurd a
    number_same n m (b ∷ ms) (c ∷ ns) r a = λ i. unique n b m c r a.0 i || number_same n m ms ns r a.1 i

    pairs_one : (ms ns : List ℕ) (n m : ℕ) → Pairs ms ns → Rel n m → Pairs (ms ++ n ∷ []) (ns ++ m ∷ [])
    pairs_one [] [] n m a r = (r, tt)
    pairs_one [] (b ∷ ns) n m a r = absurd a
    pairs_one (b ∷ ms) [] n m a r = absurd a
    pairs_one (b ∷ ms) (c ∷ ns) n m a r = (a.0, pairs_one ms ns n m a.1 r)

    with_same : (n m : ℤ) (ms ns : List ℕ) → Numbers n m → Pairs ms ns → Pairs (with_number n ms) (with_number m ns)
    with_same (pos n) (pos m) ms ns r a = by_test (is_number n ms) (is_number m ns) (number_same n m ms ns r a)
      where
        by_test : (s t : Bool) → s ≡ t → Pairs (if s then ms else ms ++ n ∷ []) (if t then ns else ns ++ m ∷ [])
        by_test true true e = a
        by_test true false e = absurd (cc)
        by_test false true e = absurd (cc)
        by_test false false e = pairs_one ms ns n m a r
    with_same (pos n) (negsuc m) ms ns r a = absurd r
    with_same (negsuc n) (pos m) ms ns r a = absurd r
    with_same (negsuc n) (negsuc m) ms ns r a = absurd r

    either_same : (b : Bool) (n m : ℤ) (ms ns more less : List ℕ) → Index b n m → Pairs ms ns → Pairs more less → Pairs (if b then with_number n ms else more) (if b then with_number m ns else less)
    either_same true n m ms ns more less i a h = with_same n m ms ns i a
    either_same false n m ms ns more less i a h = h

    mutual
      pub constants_same : (f g : Formula) (ms ns : List ℕ) → SameTree f g → Pairs ms ns → Pairs (constants f ms) (constants g ns)
      constants_same (Node a n fs) (Node b m gs) ms ns h p =
          subst (λ c. Pairs (constants (Node a n fs) ms) (if is_constant c then with_number m ns else all_constants gs ns)) h.0 (either_same (is_constant a) n m ms ns (all_constants fs ms) (all_constants gs ns) h.1 p (all_constants_same fs gs ms ns h.2 p))

      all_constants_same : (fs gs : Formulas) (ms ns : List ℕ) → SameTrees fs gs → Pairs ms ns → Pairs (all_constants fs ms) (all_constants gs ns)
      all_constants_same Stop Stop ms ns h p = p
      all_constants_same Stop (With g gs) ms ns h p = absurd h
      all_constants_same (With f fs) Stop ms ns h p = absurd h
      all_constants_same (With f fs) (With g gs) ms ns h p = all_constants_same fs gs (constants f ms) (constants g ns) h.1 (constants_same f g ms ns h.0 p)

    pub but_same : (b c : ℕ) (ms ns : List ℕ) → Rel b c → Pairs ms ns → Pairs (but b ms) (but c ns)
    but_same b c [] [] r a = tt
    but_same b c [] (n ∷ ns) r a = absurd a
    but_same b c (m ∷ ms) [] r a = absurd a
    but_same b c (m ∷ ms) (n ∷ ns) r a = by_test (m == b) (n == c) (unique m b n c a.0 r) (but_same b c ms ns r a.1)
      where
        by_test : (s t : Bool) → s ≡ t → Pairs (but b ms) (but c ns) → Pairs (if not s then m ∷ but b ms else but b ms) (if not t then n ∷ but c ns else but c ns)
        by_test true true e h = h
        by_test true false e h = absurd (cc)
        by_test false true e h = absurd (cc)
        by_test false false e h = (a.0, h)

    place_same : (i n m : ℕ) (ms ns : List ℕ) → Rel n m → Pairs ms ns → place_from i n ms ≡ place_from i m ns
    place_same i n m [] [] r a = refl
    place_same i n m [] (c ∷ ns) r a = absurd a
    place_same i n m (b ∷ ms) [] r a = absurd a
    place_same i n m (b ∷ ms) (c ∷ ns) r a = λ d. if unique n b m c r a.0 d then i else place_same (suc i) n m ms ns r a.1 d

    index_same : (b : Bool) (n m : ℤ) (ms ns : List ℕ) → Index b n m → Pairs ms ns → (if b then place_number ms n else n) ≡ (if b then place_number ns m else m)
    index_same true (pos n) (pos m) ms ns r a = ap pos (place_same 0 n m ms ns r a)
    index_same true (pos n) (negsuc m) ms ns r a = absurd r
    index_same true (negsuc n) (pos m) ms ns r a = absurd r
    index_same true (negsuc n) (negsuc m) ms ns r a = absurd r
    index_same false n m ms ns r a = r

    mutual
      pub renumbered_same : (f g : Formula) (ms ns : List ℕ) → SameTree f g → Pairs ms ns → renumber ms f ≡ renumber ns g
      renumbered_same (Node a n fs) (Node b m gs) ms ns h p =
          (λ d. Node a (index_same (is_constant a) n m ms ns h.1 p d) (all_renumbered_same fs gs ms ns h.2 p d)) ∙ ap (λ c. Node c (if is_constant c then place_number ns m else m) (renumber_all ns gs)) h.0

      all_renumbered_same : (fs gs : Formulas) (ms ns : List ℕ) → SameTrees fs gs → Pairs ms ns → renumber_all ms fs ≡ renumber_all ns gs
      all_renumbered_same Stop Stop ms ns h p = refl
      all_renumbered_same Stop (With g gs) ms ns h p = absurd h
      all_renumbered_same (With f fs) Stop ms ns h p = absurd h
      all_renumbered_same (With f fs) (With g gs) ms ns h p = λ d. With (renumbered_same f g ms ns h.0 p d) (all_renumbered_same fs gs ms ns h.1 p d)

    -- a body over its places
    pub body_same : (f g : Formula) (b c : ℕ) → SameTree f g → Rel b c → renumber (but b (constants f [])) f ≡ renumber (but c (constants g [])) g
    body_same f g b c h r = renumbered_same f g (but b (constants f [])) (but c (constants g [])) h (but_same b c (constants f []) (constants g []) r (constants_same f g [] [] h tt))
