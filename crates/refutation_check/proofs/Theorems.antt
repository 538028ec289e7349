-- Theorems that are held over nodes, and those of lemmas one by one.
use Rattle.std.proofs.Common.{◌≡◌, ◌⊎◌, inl, inr, ℕ, zero, suc, ◌+◌, ◌-◌, ◌<◌, ◌≤◌, List, [], ◌∷◌, ◌++◌, map, flat_map, length, take, replicate, Option, Some, None, slice_get, refl, ap, sym, ◌∙◌, subst, arith, length-append}
use Rattle.std.proofs.lemmas.Option.{slice_get_within}
use Rattle.std.proofs.lemmas.List.Elements.{All-head, All-tail}
use Rattle.terms.specs.declared.term.Term.{Term}
use Rattle.terms.specs.declared.term.Literal.{Literal}
use Rattle.terms.specs.Formula.{Formula}
use Rattle.term_meaning.specs.Meaning.{Language}
use Rattle.condition_formulas.specs.Standing.{StandsAs, StandAll, Later}
use Rattle.cert_format.specs.Derivations.{Derivation}
use Rattle.block_layout.specs.Layout.{NamesTerms, clause_over, node_of}
use Rattle.block_layout.proofs.Lists.{below_gets, get_more, get_take, take_next}
use Rattle.block_layout.proofs.Named.{node_stands}
use Rattle.refutation_check.specs.Theorems.{TreeClause, Theorems, ClauseIs, IsHeld, AreHeld}
use Rattle.refutation_check.specs.Follows.{OneByOne, AreTheorems, lemma_behind}
use Rattle.refutation_check.specs.declared.held.Lemmas.{Lemmas}

-- ---- held

pub clause_later : (old new : List Term) → Later old new → (clause : List Literal) (c : TreeClause) → ClauseIs old clause c → ClauseIs new clause c
clause_later old new later [] [] is = tt
clause_later old new later [] (x ∷ xs) is = absurd is
clause_later old new later (y ∷ ys) [] is = absurd is
clause_later old new later (y ∷ ys) (x ∷ xs) is = (later y.term x.tree is.0, is.1, clause_later old new later ys xs is.2)

one_later : (old new : List Term) → Later old new → (h : Option (List Literal)) (x : Option TreeClause) → IsHeld old h x → IsHeld new h x
one_later old new later None None is = tt
one_later old new later None (Some c) is = absurd is
one_later old new later (Some clause) None is = absurd is
one_later old new later (Some clause) (Some c) is = clause_later old new later clause c is

pub held_later : (old new : List Term) → Later old new → (known : List (Option (List Literal))) (theorems : Theorems) → AreHeld old known theorems → AreHeld new known theorems
held_later old new later [] [] h = tt
held_later old new later [] (x ∷ xs) h = absurd h
held_later old new later (k ∷ ks) [] h = absurd h
held_later old new later (k ∷ ks) (x ∷ xs) h = (one_later old new later k x h.0, held_later old new later ks xs h.1)

pub held_long : (nodes : List Term) (known : List (Option (List Literal))) (theorems : Theorems) → AreHeld nodes known theorems → length known ≡ length theorems
held_long nodes [] [] h = refl
held_long nodes [] (x ∷ xs) h = absurd h
held_long nodes (k ∷ ks) [] h = absurd h
held_long nodes (k ∷ ks) (x ∷ xs) h = ap suc (held_long nodes ks xs h.1)

pub held_both : (nodes : List Term) (known more : List (Option (List Literal))) (theorems others : Theorems) → AreHeld nodes known theorems → AreHeld nodes more others → AreHeld nodes (known ++ more) (theorems ++ others)
held_both nodes [] more [] others h g = g
held_both nodes [] more (x ∷ xs) others h g = absurd h
held_both nodes (k ∷ ks) more [] others h g = absurd h
held_both nodes (k ∷ ks) more (x ∷ xs) others h g = (h.0, held_both nodes ks more xs others h.1 g)

pub none_held : (nodes : List Term) (n : ℕ) → AreHeld nodes (replicate n None) (replicate n None)
none_held nodes zero = tt
none_held nodes (suc n) = (tt, none_held nodes n)

-- no lemmas hold no theorems
pub nothing_held : (nodes : List Term) (held : Lemmas) → held.clauses.items ≡ [] → AreHeld nodes held.clauses.items []
nothing_held nodes held none = subst (λ (ks : List (Option (List Literal))). AreHeld nodes ks []) (sym none) tt

-- a clause over names is one over trees
pub clause_of : (nodes : List Term) (names : List ℕ) (trees : List Formula) → StandAll nodes names trees → (clause : List Literal) → NamesTerms (length trees) clause → (c : TreeClause) × ClauseIs nodes (clause_over names clause) c
clause_of nodes names trees all [] h = ([], tt)
clause_of nodes names trees all (y ∷ ys) h =
    let (f, at) = below_gets trees y.term (All-head (λ (x : Literal). x.term < length trees) y ys h) in
    let s : StandsAs nodes (node_of names y.term) f = node_stands nodes names trees y.term f all at in
    let (c, is) = clause_of nodes names trees all ys (All-tail (λ (x : Literal). x.term < length trees) y ys h) in
    ((record { tree = f; positive = y.positive }) ∷ c, (s, refl, is))

-- ---- lists

append_nil : {X : Type 0} (xs : List X) → xs ++ [] ≡ xs
append_nil [] = refl
append_nil (x ∷ xs) = ap (λ ws. x ∷ ws) (append_nil xs)

assoc : {X : Type 0} (xs ys zs : List X) → (xs ++ ys) ++ zs ≡ xs ++ (ys ++ zs)
assoc [] ys zs = refl
assoc (x ∷ xs) ys zs = ap (λ ws. x ∷ ws) (assoc xs ys zs)

take_front : {X : Type 0} (n : ℕ) (xs ys : List X) → n ≤ length xs → take n (xs ++ ys) ≡ take n xs
take_front zero xs ys h = refl
take_front (suc n) [] ys h = absurd (omega (arith, h))
take_front (suc n) (x ∷ xs) ys h = ap (λ ws. x ∷ ws) (take_front n xs ys (omega (arith, h)))

take_whole : {X : Type 0} (xs ys : List X) → take (length xs) (xs ++ ys) ≡ xs
take_whole [] ys = refl
take_whole (x ∷ xs) ys = ap (λ ws. x ∷ ws) (take_whole xs ys)

take_taken : {X : Type 0} (n m : ℕ) (xs : List X) → n ≤ m → take n (take m xs) ≡ take n xs
take_taken zero m xs h = refl
take_taken (suc n) zero xs h = absurd (omega (arith, h))
take_taken (suc n) (suc m) [] h = refl
take_taken (suc n) (suc m) (x ∷ xs) h = ap (λ ws. x ∷ ws) (take_taken n m xs (omega (arith, h)))

get_front : {X : Type 0} (xs ys : List X) (j : ℕ) (o : X) → j < length xs → slice_get (xs ++ ys) j ≡ Some o → slice_get xs j ≡ Some o
get_front [] ys j o h at = absurd (omega (arith, h))
get_front (x ∷ xs) ys zero o h at = at
get_front (x ∷ xs) ys (suc j) o h at = get_front xs ys j o (omega (arith, h)) at

some_is : {X : Type 0} (x y : X) → Some x ≡ Some y → x ≡ y
some_is x y h = cc

none_there : {X : Type 0} (n j : ℕ) (x o : X) → slice_get (replicate n x) j ≡ Some o → o ≡ x
none_there zero j x o at = cc
none_there (suc n) zero x o at = sym (some_is x o at)
none_there (suc n) (suc j) x o at = none_there n j x o at

none_behind : {X : Type 0} (xs : List X) (n j : ℕ) (x o : X) → length xs ≤ j → slice_get (xs ++ replicate n x) j ≡ Some o → o ≡ x
none_behind [] n j x o h at = none_there n j x o at
none_behind (y ∷ xs) n zero x o h at = absurd (omega (arith, h))
none_behind (y ∷ xs) n (suc j) x o h at = none_behind xs n j x o (omega (arith, h)) at

below_or : (j n : ℕ) → (j < n) ⊎ (n ≤ j)
below_or j zero = inr (omega arith)
below_or zero (suc n) = inl (omega arith)
below_or (suc j) (suc n) = elim (below_or j n) as (λ _. (suc j < suc n) ⊎ (suc n ≤ suc j)) [ inl h ↦ inl (omega (arith, h)) | inr h ↦ inr (omega (arith, h)) ]

-- nothing is held once more
pub one_none_more : {X : Type 0} (xs ys : List (Option X)) (n : ℕ) → length xs < n → ys ≡ xs ++ None ∷ [] → ys ++ replicate (n - length ys) None ≡ xs ++ replicate (n - length xs) None
one_none_more xs ys n h e =
    let m = n - suc (length xs) in
    let more : n - length xs ≡ suc m = omega (arith, h) in
    let long : length ys ≡ length xs + 1 = ap length e ∙ length-append xs (None ∷ []) in
    let less : n - length ys ≡ m = omega (arith, h, long) in
    ap (λ k. ys ++ replicate k None) less ∙ ap (λ zs. zs ++ replicate m None) e ∙ assoc xs (None ∷ []) (replicate m None) ∙ ap (λ k. xs ++ replicate k None) (sym more)

-- nothing is left
pub none_left : {X : Type 0} (xs : List (Option X)) (n : ℕ) → n ≤ length xs → xs ++ replicate (n - length xs) None ≡ xs
none_left xs n h =
    let e : n - length xs ≡ 0 = omega (arith, h) in
    ap (λ k. xs ++ replicate k None) e ∙ append_nil xs

-- no theorem, so many times
abbrev pub nones : ℕ → Theorems
nones n = replicate n None

nones_long : (n : ℕ) → length (nones n) ≡ n
nones_long zero = refl
nones_long (suc n) = ap suc (nones_long n)

-- ---- one by one

-- the terms of the lemmas, one after the other
abbrev pub terms_of : List Derivation → List Term
terms_of lemmas = flat_map (λ (d : Derivation). d.terms) lemmas

pub terms_more : (lemmas : List Derivation) (lemma : Derivation) → terms_of (lemmas ++ lemma ∷ []) ≡ terms_of lemmas ++ lemma.terms
terms_more [] lemma = append_nil lemma.terms
terms_more (x ∷ xs) lemma = ap (λ (ws : List Term). x.terms ++ ws) (terms_more xs lemma) ∙ sym (assoc x.terms (terms_of xs) lemma.terms)

-- the terms of a lemma behind others begin with those of each lemma before it behind the others before that one
pub begins_behind : (lemmas : List Derivation) (i j : ℕ) (a b : Derivation) → slice_get lemmas i ≡ Some a → slice_get lemmas j ≡ Some b → i ≤ j → (rest : List Term) × ((lemma_behind (take j lemmas) b).terms ≡ (terms_of (take i lemmas) ++ a.terms) ++ rest)
begins_behind [] i j a b at there h = cc
begins_behind (x ∷ xs) zero zero a b at there h =
    let same : a ≡ b = sym (some_is x a at) ∙ some_is x b there in
    ([], ap (λ (d : Derivation). d.terms) (sym same) ∙ sym (append_nil a.terms))
begins_behind (x ∷ xs) zero (suc j) a b at there h =
    let same : x ≡ a = some_is x a at in
    (terms_of (take j xs) ++ b.terms, assoc x.terms (terms_of (take j xs)) b.terms ∙ ap (λ (d : Derivation). d.terms ++ (terms_of (take j xs) ++ b.terms)) same)
begins_behind (x ∷ xs) (suc i) zero a b at there h = absurd (omega (arith, h))
begins_behind (x ∷ xs) (suc i) (suc j) a b at there h =
    let (rest, e) = begins_behind xs i j a b at there (omega (arith, h)) in (
      rest,
      assoc x.terms (terms_of (take j xs)) b.terms ∙ ap (λ (ws : List Term). x.terms ++ ws) e
          ∙ sym (assoc x.terms (terms_of (take i xs) ++ a.terms) rest) ∙ ap (λ (ws : List Term). ws ++ rest) (sym (assoc x.terms (terms_of (take i xs)) a.terms)),
    )

module _ (Gives : Theorems → Derivation → Option TreeClause → Type 0) where
  pub none_of_none : OneByOne Gives [] []
  none_of_none = record { count = refl; each = λ j lemma o at there. (let none : None ≡ Some lemma = at in cc) }

  -- one lemma more
  pub one_more : (lemmas : List Derivation) (theorems : Theorems) (lemma : Derivation) (x : Option TreeClause) → OneByOne Gives lemmas theorems → Gives theorems (lemma_behind lemmas lemma) x → OneByOne Gives (lemmas ++ lemma ∷ []) (theorems ++ x ∷ [])
  one_more lemmas theorems lemma x k gives = record {
    count = (let e : length theorems ≡ length lemmas = k.count in omega (arith, e, length-append theorems (x ∷ []), length-append lemmas (lemma ∷ [])));
    each = λ j a o at there. at_place j a o (get_more lemmas lemma j a at) (get_more theorems x j o there);
  }
    where
      at_place : (j : ℕ) (a : Derivation) (o : Option TreeClause) → (slice_get lemmas j ≡ Some a) ⊎ ((j ≡ length lemmas) × (a ≡ lemma)) → (slice_get theorems j ≡ Some o) ⊎ ((j ≡ length theorems) × (o ≡ x)) → Gives (take j (theorems ++ x ∷ [])) (lemma_behind (take j (lemmas ++ lemma ∷ [])) a) o
      at_place j a o (inl p) (inl q) =
          subst (λ (ts : Theorems). Gives ts (lemma_behind (take j (lemmas ++ lemma ∷ [])) a) o) (sym (take_front j theorems (x ∷ []) (omega (arith, slice_get_within theorems j o q))))
          (subst (λ (ds : List Derivation). Gives (take j theorems) (lemma_behind ds a) o) (sym (take_front j lemmas (lemma ∷ []) (omega (arith, slice_get_within lemmas j a p)))) (k.each j a o p q))
      at_place j a o (inl p) (inr q) = absurd (omega (arith, slice_get_within lemmas j a p, q.0, k.count))
      at_place j a o (inr p) (inl q) = absurd (omega (arith, slice_get_within theorems j o q, p.0, k.count))
      at_place j a o (inr p) (inr q) =
          subst (λ (ts : Theorems). Gives ts (lemma_behind (take j (lemmas ++ lemma ∷ [])) a) o) (sym (ap (λ n. take n (theorems ++ x ∷ [])) q.0 ∙ take_whole theorems (x ∷ [])))
          (subst (λ (ds : List Derivation). Gives theorems (lemma_behind ds a) o) (sym (ap (λ n. take n (lemmas ++ lemma ∷ [])) p.0 ∙ take_whole lemmas (lemma ∷ [])))
          (subst (λ (d : Derivation). Gives theorems (lemma_behind lemmas d) o) (sym p.1) (subst (λ (y : Option TreeClause). Gives theorems (lemma_behind lemmas lemma) y) (sym q.1) gives)))

  -- none behind the first lemmas, so many
  pub none_more : (lemmas : List Derivation) (i n : ℕ) (theorems : Theorems) → OneByOne Gives (take i lemmas) theorems → length (take i lemmas) ≡ i → i + n ≡ length lemmas
      → ((j : ℕ) (a : Derivation) → slice_get lemmas j ≡ Some a → i ≤ j → (ts : Theorems) → Gives ts (lemma_behind (take j lemmas) a) None) → OneByOne Gives lemmas (theorems ++ nones n)
  none_more lemmas i n theorems k long many fails = record {
    count = (let e : length theorems ≡ length (take i lemmas) = k.count in omega (arith, e, long, many, length-append theorems (nones n), nones_long n));
    each = λ j a o at there. elim (below_or j i) as (λ _. Gives (take j (theorems ++ nones n)) (lemma_behind (take j lemmas) a) o) [ inl h ↦ first j a o at there h | inr h ↦ rest j a o at there h ];
  }
    where
      many_theorems : length theorems ≡ i
      many_theorems = k.count ∙ long

      first : (j : ℕ) (a : Derivation) (o : Option TreeClause) → slice_get lemmas j ≡ Some a → slice_get (theorems ++ nones n) j ≡ Some o → j < i → Gives (take j (theorems ++ nones n)) (lemma_behind (take j lemmas) a) o
      first j a o at there h =
          subst (λ (ts : Theorems). Gives ts (lemma_behind (take j lemmas) a) o) (sym (take_front j theorems (nones n) (omega (arith, h, many_theorems))))
          (subst (λ (ds : List Derivation). Gives (take j theorems) (lemma_behind ds a) o) (take_taken j i lemmas (omega (arith, h)))
          (k.each j a o (get_take lemmas i j a h at) (get_front theorems (nones n) j o (omega (arith, h, many_theorems)) there)))

      rest : (j : ℕ) (a : Derivation) (o : Option TreeClause) → slice_get lemmas j ≡ Some a → slice_get (theorems ++ nones n) j ≡ Some o → i ≤ j → Gives (take j (theorems ++ nones n)) (lemma_behind (take j lemmas) a) o
      rest j a o at there h =
          subst (λ (y : Option TreeClause). Gives (take j (theorems ++ nones n)) (lemma_behind (take j lemmas) a) y) (sym (none_behind theorems n j None o (omega (arith, h, many_theorems)) there))
          (fails j a at h (take j (theorems ++ nones n)))

-- without lemmas there are no theorems
pub no_theorems : (l : Language) → AreTheorems l [] []
no_theorems l = record { count = refl; each = λ j lemma o at there. (let none : None ≡ Some lemma = at in cc) }
