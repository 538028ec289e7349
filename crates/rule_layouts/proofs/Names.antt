-- One block in two layouts: its names, clauses and numbers are of the same trees.
use Rattle.std.proofs.Common.{◌≡◌, inl, inr, ℕ, zero, suc, ◌-◌, ◌==◌, ◌<◌, ◌≤◌, ℤ, pos, negsuc, Bool, true, false, if◌then◌else◌, List, [], ◌∷◌, ◌++◌, map, take, drop, length, get_or, Option, Some, None, slice_get, refl, ap, sym, ◌∙◌, subst, arith}
use Rattle.std.proofs.lemmas.Option.{slice_get_within, get_or_from_slice_get}
use Rattle.std.proofs.lemmas.List.Elements.{All-head, All-tail}
use Rattle.terms.specs.declared.term.Term.{Term}
use Rattle.terms.specs.declared.term.Literal.{Literal}
use Rattle.terms.specs.Formula.{Formula, Stands}
use Rattle.condition_formulas.specs.Standing.{Each, StandsAs, StandAll}
use Rattle.cert_format.specs.declared.certificate.RuleName.TheVariants as r
use Rattle.block_layout.specs.Layout.{node_of, node_at, clause_over, NamesTerms, names_key, numbers_over}
use Rattle.rule_layouts.specs.Layouts.{SameTree, SameClause, SameName, SameNames}
use Rattle.rule_layouts.proofs.Trees.{pos_is}
use Rattle.rule_layouts.proofs.Maps.{SameMap}

from_name_left : (ts us : List Term) (t a b : ℕ) → a ≡ t → SameTree ts us a b → SameTree ts us t b
from_name_left ts us t a b e s = subst (λ (x : ℕ). SameTree ts us x b) e s

-- what stands at a place of the names
named_at : (ts : List Term) (ids : List ℕ) (fs : List Formula) (n : ℕ) (f : Formula) → Each ts ids fs → slice_get fs n ≡ Some f → (id : ℕ) × (slice_get ids n ≡ Some id) × StandsAs ts id f
named_at ts [] [] n f e h = absurd (cc)
named_at ts [] (g ∷ fs) n f e h = absurd e
named_at ts (i ∷ ids) [] n f e h = absurd e
named_at ts (i ∷ ids) (g ∷ fs) zero f e h = (i, refl, subst (λ (x : Formula). StandsAs ts i x) (let w : g ≡ f = cc in w) e.0)
named_at ts (i ∷ ids) (g ∷ fs) (suc n) f e h = named_at ts ids fs n f e.1 h

unnamed_at : (ts : List Term) (ids : List ℕ) (fs : List Formula) (n d : ℕ) → Each ts ids fs → slice_get fs n ≡ None → get_or ids n d ≡ d
unnamed_at ts [] [] n d e h = refl
unnamed_at ts [] (g ∷ fs) n d e h = absurd e
unnamed_at ts (i ∷ ids) [] n d e h = absurd e
unnamed_at ts (i ∷ ids) (g ∷ fs) zero d e h = absurd (cc)
unnamed_at ts (i ∷ ids) (g ∷ fs) (suc n) d e h = unnamed_at ts ids fs n d e.1 h

pub there_below : {X : Type 0} (xs : List X) (n : ℕ) → n < length xs → (x : X) × (slice_get xs n ≡ Some x)
there_below [] n l = absurd (omega (arith, l))
there_below (x ∷ xs) zero l = (x, refl)
there_below (x ∷ xs) (suc n) l = there_below xs n (omega (arith, l))

tail_is : (x y : ℤ) (xs ys : List ℤ) → x ∷ xs ≡ y ∷ ys → (x ≡ y) × (xs ≡ ys)
tail_is x y xs ys h = (cc, cc)

-- all numbers stand before those that name terms
pub all_raw : (f : ℤ → ℤ) (zs : List ℤ) → take (length zs) zs ++ map f (drop (length zs) zs) ≡ zs
all_raw f [] = refl
all_raw f (z ∷ zs) = ap (λ xs. z ∷ xs) (all_raw f zs)

-- all but the last
before_last : (z : ℤ) (zs : List ℤ) → (init : List ℤ) × (last : ℤ) × (take (length zs) (z ∷ zs) ≡ init) × (drop (length zs) (z ∷ zs) ≡ last ∷ [])
before_last z [] = ([], z, refl, refl)
before_last z (y ∷ ys) = let p = before_last y ys in (z ∷ p.0, p.1, ap (λ xs. z ∷ xs) p.2, p.3)

no_list : (ys : List ℤ) (y : ℤ) → [] ≡ ys ++ y ∷ [] → ⊥
no_list [] y h = absurd (cc)
no_list (c ∷ ys) y h = absurd (cc)

last_is : (xs ys : List ℤ) (x y : ℤ) → xs ++ x ∷ [] ≡ ys ++ y ∷ [] → x ≡ y
last_is [] [] x y h = (tail_is x y [] [] h).0
last_is [] (b ∷ ys) x y h = absurd (no_list ys y (tail_is x b [] (ys ++ y ∷ []) h).1)
last_is (a ∷ xs) [] x y h = absurd (no_list xs x (sym (tail_is a y (xs ++ x ∷ []) [] h).1))
last_is (a ∷ xs) (b ∷ ys) x y h = last_is xs ys x y (tail_is a b (xs ++ x ∷ []) (ys ++ y ∷ []) h).1

module _ (ts us : List Term) (names others : List ℕ) (trees : List Formula) (left : StandAll ts names trees) (right : StandAll us others trees) (few : length ts ≤ 1_048_576) where
  -- a number that names a tree
  pub name_same : (n : ℕ) (f : Formula) → slice_get trees n ≡ Some f → SameTree ts us (node_of names n) (node_of others n)
  name_same n f h =
      let p = named_at ts names trees n f left.each h in
      let q = named_at us others trees n f right.each h in
      record {
        tree = f;
        left = subst (λ (x : ℕ). Stands ts x f) (sym (get_or_from_slice_get names n p.0 4_294_967_295 p.1)) p.2.tree;
        right = subst (λ (x : ℕ). Stands us x f) (sym (get_or_from_slice_get others n q.0 4_294_967_295 q.1)) q.2.tree;
      }

  pub named_below : (n : ℕ) → n < length trees → SameTree ts us (node_of names n) (node_of others n)
  named_below n l = let p = there_below trees n l in name_same n p.0 p.1

  -- no node has the number of what isn't named
  no_node : (a : ℕ) (n : Term) → a ≡ 4_294_967_295 → slice_get ts a ≡ Some n → ⊥
  no_node a n e h = let l : a < length ts = slice_get_within ts a n h in omega (arith, e, l, few)

  of_option : (n : ℕ) (o : Option Formula) → slice_get trees n ≡ o → SameName ts us (pos (node_of names n)) (pos (node_of others n))
  of_option n (Some f) h = inl (node_of names n, node_of others n, refl, refl, name_same n f h)
  of_option n None h = inr (λ a m e g. no_node a m (sym (pos_is (node_of names n) a e) ∙ unnamed_at ts names trees n 4_294_967_295 left.each h) g)

  number_same : (z : ℤ) → SameName ts us (node_at names z) (node_at others z)
  number_same (pos n) = of_option n (slice_get trees n) refl
  number_same (negsuc n) = inr (λ a m e g. no_node a m (sym (pos_is 4_294_967_295 a e)) g)

  from_name : (z w : ℤ) (t : ℕ) (n : Term) → SameName ts us z w → z ≡ pos t → slice_get ts t ≡ Some n → (u : ℕ) × (w ≡ pos u) × SameTree ts us t u
  from_name z w t n (inl (a, b, p, q, s)) e g = (b, q, from_name_left ts us t a b (pos_is a t (sym p ∙ e)) s)
  from_name z w t n (inr h) e g = absurd (h t n e g)

  -- a number that is a node's
  named_number : (z : ℤ) (t : ℕ) (n : Term) → node_at names z ≡ pos t → slice_get ts t ≡ Some n → (u : ℕ) × (node_at others z ≡ pos u) × SameTree ts us t u
  named_number z t n e g = from_name (node_at names z) (node_at others z) t n (number_same z) e g

  pub numbers_same : (zs : List ℤ) → SameNames ts us (map (node_at names) zs) (map (node_at others) zs)
  numbers_same [] = tt
  numbers_same (z ∷ zs) = (number_same z, numbers_same zs)

  -- a clause that names terms
  pub clause_same : (c : List Literal) → NamesTerms (length trees) c → SameClause ts us (clause_over names c) (clause_over others c)
  clause_same [] h = tt
  clause_same (l ∷ ls) h =
      ((named_below l.term (All-head (λ (x : Literal). x.term < length trees) l ls h), refl), clause_same ls (All-tail (λ (x : Literal). x.term < length trees) l ls h))

  of_root : (n : ℕ) (m : Term) (o : Option Formula) → slice_get trees n ≡ o → slice_get ts (node_of names n) ≡ Some m → SameTree ts us (node_of names n) (node_of others n)
  of_root n m (Some f) h g = name_same n f h
  of_root n m None h g = absurd (no_node (node_of names n) m (unnamed_at ts names trees n 4_294_967_295 left.each h) g)

  -- the root, where it is a node
  pub root_named : (n : ℕ) (m : Term) → slice_get ts (node_of names n) ≡ Some m → SameTree ts us (node_of names n) (node_of others n)
  root_named n m g = of_root n m (slice_get trees n) refl g

  -- conn: one number, and then names
  pub conn_numbers : (zs : List ℤ) (part : ℤ) (rest : List ℤ) → numbers_over names r.Conn zs ≡ part ∷ rest → (more : List ℤ) × (numbers_over others r.Conn zs ≡ part ∷ more) × SameNames ts us rest more
  conn_numbers [] part rest h = absurd (cc)
  conn_numbers (z ∷ zs) part rest h =
      let e = tail_is z part (map (node_at names) zs) rest h in
      (map (node_at others) zs, ap (λ x. x ∷ map (node_at others) zs) e.0, subst (λ (xs : List ℤ). SameNames ts us xs (map (node_at others) zs)) e.1 (numbers_same zs))

  -- map: one number or two, and then names
  one_flag : (z y : ℤ) (b : Bool) (f : ℤ → ℤ) (n : ℕ) (t : ℤ) → take (if b then 2 else 1) (z ∷ y ∷ []) ++ map f (drop (if b then 2 else 1) (z ∷ y ∷ [])) ≡ pos n ∷ t ∷ [] → z ≡ pos n
  one_flag z y true f n t h = (tail_is z (pos n) (y ∷ []) (t ∷ []) h).0
  one_flag z y false f n t h = (tail_is z (pos n) (f y ∷ []) (t ∷ []) h).0

  key_of : (z : ℤ) (n : ℕ) (zs : List ℤ) → z ≡ pos n → names_key (z ∷ zs) ≡ (n == 2)
  key_of z n zs e = ap (λ x. names_key (x ∷ zs)) e

  long : (z y x : ℤ) (zs : List ℤ) (b : Bool) (f : ℤ → ℤ) (n t : ℤ) → take (if b then 2 else 1) (z ∷ y ∷ x ∷ zs) ++ map f (drop (if b then 2 else 1) (z ∷ y ∷ x ∷ zs)) ≡ n ∷ t ∷ [] → ⊥
  long z y x zs true f n t h = absurd (cc)
  long z y x zs false f n t h = absurd (cc)

  short : (z : ℤ) (b : Bool) (f : ℤ → ℤ) (n t : ℤ) → take (if b then 2 else 1) (z ∷ []) ++ map f (drop (if b then 2 else 1) (z ∷ [])) ≡ n ∷ t ∷ [] → ⊥
  short z true f n t h = absurd (cc)
  short z false f n t h = absurd (cc)

  map_one : (zs : List ℤ) (n : ℕ) (t : ℤ) → (n == 2) ≡ false → numbers_over names r.Map zs ≡ pos n ∷ t ∷ [] → (u : ℤ) × (numbers_over others r.Map zs ≡ pos n ∷ u ∷ []) × SameName ts us t u
  map_one [] n t free h = absurd (cc)
  map_one (z ∷ []) n t free h = absurd (short z (names_key (z ∷ [])) (node_at names) (pos n) t h)
  map_one (z ∷ y ∷ []) n t free h =
      let first = one_flag z y (names_key (z ∷ y ∷ [])) (node_at names) n t h in
      let key : names_key (z ∷ y ∷ []) ≡ false = key_of z n (y ∷ []) first ∙ free in
      let here : z ∷ node_at names y ∷ [] ≡ pos n ∷ t ∷ [] = sym (ap (λ b. take (if b then 2 else 1) (z ∷ y ∷ []) ++ map (node_at names) (drop (if b then 2 else 1) (z ∷ y ∷ []))) key) ∙ h in
      let second : node_at names y ≡ t = (tail_is (node_at names y) t [] [] (tail_is z (pos n) (node_at names y ∷ []) (t ∷ []) here).1).0 in (
        node_at others y,
        ap (λ b. take (if b then 2 else 1) (z ∷ y ∷ []) ++ map (node_at others) (drop (if b then 2 else 1) (z ∷ y ∷ []))) key ∙ ap (λ x. x ∷ node_at others y ∷ []) first,
        subst (λ (x : ℤ). SameName ts us x (node_at others y)) second (number_same y),
      )
  map_one (z ∷ y ∷ x ∷ zs) n t free h = absurd (long z y x zs (names_key (z ∷ y ∷ x ∷ zs)) (node_at names) (pos n) t h)

  not_four : (zs : List ℤ) (b : Bool) (f : ℤ → ℤ) (n i t u : ℤ) → length zs ≤ 3 → take (if b then 2 else 1) zs ++ map f (drop (if b then 2 else 1) zs) ≡ n ∷ i ∷ t ∷ u ∷ [] → ⊥
  not_four [] true f n i t u l h = absurd (cc)
  not_four [] false f n i t u l h = absurd (cc)
  not_four (z ∷ []) true f n i t u l h = absurd (cc)
  not_four (z ∷ []) false f n i t u l h = absurd (cc)
  not_four (z ∷ y ∷ []) true f n i t u l h = absurd (cc)
  not_four (z ∷ y ∷ []) false f n i t u l h = absurd (cc)
  not_four (z ∷ y ∷ x ∷ []) true f n i t u l h = absurd (cc)
  not_four (z ∷ y ∷ x ∷ []) false f n i t u l h = absurd (cc)
  not_four (z ∷ y ∷ x ∷ w ∷ zs) b f n i t u l h = absurd (omega (arith, l))

  five : (z y x w v : ℤ) (zs : List ℤ) (b : Bool) (f : ℤ → ℤ) (n i t u : ℤ) → take (if b then 2 else 1) (z ∷ y ∷ x ∷ w ∷ v ∷ zs) ++ map f (drop (if b then 2 else 1) (z ∷ y ∷ x ∷ w ∷ v ∷ zs)) ≡ n ∷ i ∷ t ∷ u ∷ [] → ⊥
  five z y x w v zs true f n i t u h = absurd (cc)
  five z y x w v zs false f n i t u h = absurd (cc)

  four_flag : (z y x w : ℤ) (b : Bool) (f : ℤ → ℤ) (n : ℕ) (i t u : ℤ) → take (if b then 2 else 1) (z ∷ y ∷ x ∷ w ∷ []) ++ map f (drop (if b then 2 else 1) (z ∷ y ∷ x ∷ w ∷ [])) ≡ pos n ∷ i ∷ t ∷ u ∷ [] → z ≡ pos n
  four_flag z y x w true f n i t u h = (tail_is z (pos n) (y ∷ f x ∷ f w ∷ []) (i ∷ t ∷ u ∷ []) h).0
  four_flag z y x w false f n i t u h = (tail_is z (pos n) (f y ∷ f x ∷ f w ∷ []) (i ∷ t ∷ u ∷ []) h).0

  map_two : (zs : List ℤ) (i t u : ℤ) → numbers_over names r.Map zs ≡ pos 2 ∷ i ∷ t ∷ u ∷ [] → (v : ℤ) × (w : ℤ) × (numbers_over others r.Map zs ≡ pos 2 ∷ i ∷ v ∷ w ∷ []) × SameName ts us t v × SameName ts us u w
  map_two [] i t u h = absurd (not_four [] (names_key []) (node_at names) (pos 2) i t u (omega arith) h)
  map_two (z ∷ []) i t u h = absurd (not_four (z ∷ []) (names_key (z ∷ [])) (node_at names) (pos 2) i t u (omega arith) h)
  map_two (z ∷ y ∷ []) i t u h = absurd (not_four (z ∷ y ∷ []) (names_key (z ∷ y ∷ [])) (node_at names) (pos 2) i t u (omega arith) h)
  map_two (z ∷ y ∷ x ∷ []) i t u h = absurd (not_four (z ∷ y ∷ x ∷ []) (names_key (z ∷ y ∷ x ∷ [])) (node_at names) (pos 2) i t u (omega arith) h)
  map_two (z ∷ y ∷ x ∷ w ∷ []) i t u h =
      let flag = names_key (z ∷ y ∷ x ∷ w ∷ []) in
      let head = four_flag z y x w flag (node_at names) 2 i t u h in
      let key : flag ≡ true = key_of z 2 (y ∷ x ∷ w ∷ []) head in
      let laid : (ℤ → ℤ) → Bool → List ℤ = λ f b. take (if b then 2 else 1) (z ∷ y ∷ x ∷ w ∷ []) ++ map f (drop (if b then 2 else 1) (z ∷ y ∷ x ∷ w ∷ [])) in
      let here : z ∷ y ∷ node_at names x ∷ node_at names w ∷ [] ≡ pos 2 ∷ i ∷ t ∷ u ∷ [] = sym (ap (laid (node_at names)) key) ∙ h in
      let p = tail_is z (pos 2) (y ∷ node_at names x ∷ node_at names w ∷ []) (i ∷ t ∷ u ∷ []) here in
      let q = tail_is y i (node_at names x ∷ node_at names w ∷ []) (t ∷ u ∷ []) p.1 in
      let o = tail_is (node_at names x) t (node_at names w ∷ []) (u ∷ []) q.1 in
      let m = tail_is (node_at names w) u [] [] o.1 in (
        node_at others x,
        node_at others w,
        ap (laid (node_at others)) key ∙ (λ j. p.0 j ∷ q.0 j ∷ node_at others x ∷ node_at others w ∷ []),
        subst (λ (a : ℤ). SameName ts us a (node_at others x)) o.0 (number_same x),
        subst (λ (a : ℤ). SameName ts us a (node_at others w)) m.0 (number_same w),
      )
  map_two (z ∷ y ∷ x ∷ w ∷ v ∷ zs) i t u h = absurd (five z y x w v zs (names_key (z ∷ y ∷ x ∷ w ∷ v ∷ zs)) (node_at names) (pos 2) i t u h)

  pub map_numbers : (zs : List ℤ) → SameMap ts us (numbers_over names r.Map zs) (numbers_over others r.Map zs)
  map_numbers zs = record { one = map_one zs; two = map_two zs }

  -- axiom: the last number alone is a name
  pub axiom_numbers : (zs before : List ℤ) (t : ℕ) (n : Term) → numbers_over names r.Axiom zs ≡ before ++ pos t ∷ [] → slice_get ts t ≡ Some n → (more : List ℤ) × (u : ℕ) × (numbers_over others r.Axiom zs ≡ more ++ pos u ∷ []) × SameTree ts us t u
  axiom_numbers [] before t n h g = absurd (no_list before (pos t) h)
  axiom_numbers (z ∷ zs) before t n h g =
      let p = before_last z zs in
      let count : length (z ∷ zs) - 1 ≡ length zs = omega arith in
      let laid : (ℤ → ℤ) → ℕ → List ℤ = λ f k. take k (z ∷ zs) ++ map f (drop k (z ∷ zs)) in
      let parts : (ℤ → ℤ) → List ℤ → List ℤ → List ℤ = λ f xs ys. xs ++ map f ys in
      let here : p.0 ++ node_at names p.1 ∷ [] ≡ before ++ pos t ∷ [] = sym (ap (laid (node_at names)) count ∙ (λ i. parts (node_at names) (p.2 i) (p.3 i))) ∙ h in
      let last : node_at names p.1 ≡ pos t = last_is p.0 before (node_at names p.1) (pos t) here in
      let q = named_number p.1 t n last g in
      (p.0, q.0, ap (laid (node_at others)) count ∙ ((λ i. parts (node_at others) (p.2 i) (p.3 i)) ∙ ap (λ x. p.0 ++ x ∷ []) q.1), q.2)
