-- What a number stands for.
use Rattle.std.proofs.Common.{◌≡◌, ℕ, ◌<◌, ◌≤◌, ◌↔◌, List, [], ◌∷◌, ◌++◌, length, take, All, Some, slice_get, inl, inr, refl, ap, sym, ◌∙◌, subst, arith, length-append}
use Rattle.std.proofs.lemmas.Option.{slice_get_within}
use Rattle.std.proofs.lemmas.List.Elements.{All-head, All-tail, All-nil, All-cons, All-weaker}
use Rattle.terms.specs.declared.term.Term.{Term}
use Rattle.terms.specs.Formula.{Numbered, Formula, Formulas, Node, Stop, With, term, Interns, Numbers, AllNumbers, Stands, AllStand}
use Rattle.term_graph.specs.Graph.{IsGraph}
use Rattle.term_graph.proofs.Graphs.{contained_at, get_taken, get_kept, graph_pushed}
use Rattle.terms.proofs.Numbering.{numbers_stand, all_numbers_stand, Extends, interns_extends, get_extended}

abbrev AreDistinct : List Term → Type 0
AreDistinct ts = (i j : ℕ) (t : Term) → slice_get ts i ≡ Some t → slice_get ts j ≡ Some t → i ≡ j

-- equal trees have equal numbers
mutual
  equal_trees : (ts : List Term) (i j : ℕ) (f : Formula) → AreDistinct ts → Stands ts i f → Stands ts j f → i ≡ j
  equal_trees ts i j (Node k n fs) d (as', p, all) (bs, q, also) =
      let same : as' ≡ bs = equal_lists ts as' bs fs d all also in
      d i j (term k n as') p (subst (λ (xs : List ℕ). slice_get ts j ≡ Some (term k n xs)) (sym same) q)

  equal_lists : (ts : List Term) (as' bs : List ℕ) (fs : Formulas) → AreDistinct ts → AllStand ts as' fs → AllStand ts bs fs → as' ≡ bs
  equal_lists ts as' bs Stop d p q = p ∙ sym q
  equal_lists ts as' bs (With f fs) d (a, xs, p, s, all) (b, ys, q, t, also) =
      p ∙ ap (λ z. z ∷ xs) (equal_trees ts a b f d s t) ∙ ap (λ zs. b ∷ zs) (equal_lists ts xs ys fs d all also) ∙ sym q

pub equal : (ts : List Term) (i j : ℕ) (f : Formula) → IsGraph ts → Stands ts i f → Stands ts j f → i ≡ j
equal ts i j f b = equal_trees ts i j f b.distinct

-- a number stands for one tree
some_same : {X : Type 0} (x y : X) → Some x ≡ Some y → x ≡ y
some_same x y h = cc

head_same : (a b : ℕ) (xs ys : List ℕ) → a ∷ xs ≡ b ∷ ys → (a ≡ b) × (xs ≡ ys)
head_same a b xs ys h = (cc, cc)

mutual
  pub only : (ts : List Term) (i : ℕ) (f g : Formula) → Stands ts i f → Stands ts i g → f ≡ g
  only ts i (Node k n fs) (Node l m gs) (as', p, all) (bs, q, also) =
      let same : term k n as' ≡ term l m bs = some_same (term k n as') (term l m bs) (sym p ∙ q) in
      let kinds : k ≡ l = ap (λ (t : Term). t.kind) same in
      let indices : n ≡ m = ap (λ (t : Term). t.index) same in
      let numbers : as' ≡ bs = ap (λ (t : Term). t.args) same in
      let rest : fs ≡ gs = only_lists ts as' fs gs all (subst (λ (xs : List ℕ). AllStand ts xs gs) (sym numbers) also) in
      cc

  only_lists : (ts : List Term) (ids : List ℕ) (fs gs : Formulas) → AllStand ts ids fs → AllStand ts ids gs → fs ≡ gs
  only_lists ts ids Stop Stop p q = refl
  only_lists ts ids Stop (With g gs) p (b, ys, q, t, also) = let h : [] ≡ b ∷ ys = sym p ∙ q in cc
  only_lists ts ids (With f fs) Stop (a, xs, p, s, all) q = let h : a ∷ xs ≡ [] = sym p ∙ q in cc
  only_lists ts ids (With f fs) (With g gs) (a, xs, p, s, all) (b, ys, q, t, also) =
      let h = head_same a b xs ys (sym p ∙ q) in
      let first : f ≡ g = only ts a f g s (subst (λ (x : ℕ). Stands ts x g) (sym h.0) t) in
      let rest : fs ≡ gs = only_lists ts xs fs gs all (subst (λ (zs : List ℕ). AllStand ts zs gs) (sym h.1) also) in
      cc

-- a front's numbers stand for the same in the list
mutual
  more_stands : (n : ℕ) (ts : List Term) (i : ℕ) (f : Formula) → Stands (take n ts) i f → Stands ts i f
  more_stands n ts i (Node k m fs) (as', p, all) = (as', get_taken n ts i (term k m as') p, more_stand n ts as' fs all)

  more_stand : (n : ℕ) (ts : List Term) (ids : List ℕ) (fs : Formulas) → AllStand (take n ts) ids fs → AllStand ts ids fs
  more_stand n ts ids Stop h = h
  more_stand n ts ids (With f fs) (a, xs, p, s, all) = (a, xs, p, more_stands n ts a f s, more_stand n ts xs fs all)

all_below : (i n : ℕ) (xs : List ℕ) → i ≤ n → All (λ a. a < i) xs → All (λ a. a < n) xs
all_below i n xs l h = All-weaker (λ a. a < i) (λ a. a < n) (λ a p. omega (arith, p, l)) xs h

-- what stands below a mark stands in the list's front
mutual
  front_stands : (n : ℕ) (ts : List Term) (i : ℕ) (f : Formula) → IsGraph ts → i < n → Stands ts i f → Stands (take n ts) i f
  front_stands n ts i (Node k m fs) b l (as', p, all) =
      (as', get_kept n ts i (term k m as') l p, front_stand n ts as' fs b (all_below i n as' (omega arith) (b.downward i (term k m as') p)) all)

  front_stand : (n : ℕ) (ts : List Term) (ids : List ℕ) (fs : Formulas) → IsGraph ts → All (λ a. a < n) ids → AllStand ts ids fs → AllStand (take n ts) ids fs
  front_stand n ts ids Stop b l h = h
  front_stand n ts ids (With f fs) b l (a, xs, p, s, all) =
      let m : All (λ a. a < n) (a ∷ xs) = subst (λ (zs : List ℕ). All (λ a. a < n) zs) p l in
      (a, xs, p, front_stands n ts a f b (All-head (λ a. a < n) a xs m) s, front_stand n ts xs fs b (All-tail (λ a. a < n) a xs m) all)

pub below : (ts : List Term) (mark id : ℕ) (f : Formula) → IsGraph ts → id < mark → Stands ts id f ↔ Stands (take mark ts) id f
below ts mark id f b l = (front_stands mark ts id f b l, more_stands mark ts id f)

-- a numbering of a formula leaves a list in which no term stands twice
extended_length : (old new : List Term) → Extends old new → length old ≤ length new
extended_length old new (more, e) = let h : length new ≡ length (old ++ more) = ap length e in omega (arith, h, length-append old more)

interned_shared : (mid new : List Term) (t : Term) (id : ℕ) → IsGraph mid → All (λ a. a < length mid) t.args → Interns mid t new id → IsGraph new × (id < length new)
interned_shared mid new t id b l (inl h) =
    (subst (λ (ts : List Term). IsGraph ts) (sym h.0) b, subst (λ (ts : List Term). id < length ts) (sym h.0) (slice_get_within mid id t h.1))
interned_shared mid new t id b l (inr h) =
    let n : length new ≡ length (mid ++ t ∷ []) = ap length h.1 in
    (subst (λ (ts : List Term). IsGraph ts) (sym h.1) (graph_pushed mid t b l h.0), omega (arith, n, h.2, length-append mid (t ∷ [])))

mutual
  numbers_shared : (f : Formula) (old new : List Term) (id : ℕ) → IsGraph old → Numbers f old new id → IsGraph new × (id < length new)
  numbers_shared (Node k n fs) old new id b (mid, args, all, i) =
      let p = all_shared fs old mid args b all in
      interned_shared mid new (term k n args) id p.0 p.1 i

  all_shared : (fs : Formulas) (old new : List Term) (ids : List ℕ) → IsGraph old → AllNumbers fs old new ids → IsGraph new × All (λ a. a < length new) ids
  all_shared Stop old new ids b h =
      (subst (λ (ts : List Term). IsGraph ts) (sym h.0) b, subst (λ (xs : List ℕ). All (λ a. a < length new) xs) (sym h.1) (All-nil (λ a. a < length new)))
  all_shared (With f fs) old new ids b (mid, a, as', x, y, e) =
      let p = numbers_shared f old mid a b x in
      let q = all_shared fs mid new as' p.0 y in
      let l : length mid ≤ length new = extended_length mid new (all_numbers_stand fs mid new as' y).0 in
      let m : a < length mid = p.1 in
      let h : a < length new = omega (arith, l, m) in
      (q.0, subst (λ (xs : List ℕ). All (λ a. a < length new) xs) (sym e) (All-cons (λ a. a < length new) a as' h q.1))

pub numbered : (f : Formula) (old new : List Term) (id : ℕ) → IsGraph old → Numbered f old new id → Stands new id f × IsGraph new
numbered f old new id b h = ((numbers_stand f old new id h.is).1, (numbers_shared f old new id b h.is).0)

-- a formula has one numbering

distinct_extended : (old new : List Term) → Extends old new → AreDistinct new → AreDistinct old
distinct_extended old new e d i j t g h = d i j t (get_extended old new i t e g) (get_extended old new j t e h)

interns_same : (old : List Term) (t : Term) (new other : List Term) (id also : ℕ) → AreDistinct old → Interns old t new id → Interns old t other also → (new ≡ other) × (id ≡ also)
interns_same old t new other id also d (inl a) (inl b) = (a.0 ∙ sym b.0, d id also t a.1 b.1)
interns_same old t new other id also d (inl a) (inr b) = absurd (b.0 (contained_at old id t a.1))
interns_same old t new other id also d (inr a) (inl b) = absurd (a.0 (contained_at old also t b.1))
interns_same old t new other id also d (inr a) (inr b) = (a.1 ∙ sym b.1, a.2 ∙ sym b.2)

mutual
  numbers_same : (f : Formula) (old new other : List Term) (id also : ℕ) → AreDistinct new → Numbers f old new id → Numbers f old other also → (new ≡ other) × (id ≡ also)
  numbers_same (Node k n fs) old new other id also d (mid, args, all, i) (mid', args', all', i') =
      let p = all_same fs old mid mid' args args' (distinct_extended mid new (interns_extends mid new (term k n args) id i) d) all all' in
      interns_same mid (term k n args) new other id also (distinct_extended mid new (interns_extends mid new (term k n args) id i) d) i
      (subst (λ (m : List Term). Interns m (term k n args) other also) (sym p.0) (subst (λ (xs : List ℕ). Interns mid' (term k n xs) other also) (sym p.1) i'))

  all_same : (fs : Formulas) (old new other : List Term) (ids also : List ℕ) → AreDistinct new → AllNumbers fs old new ids → AllNumbers fs old other also → (new ≡ other) × (ids ≡ also)
  all_same Stop old new other ids also d h i = (h.0 ∙ sym i.0, h.1 ∙ sym i.1)
  all_same (With f fs) old new other ids also d (m, a, as', x, y, e) (m', b, bs, x', y', e') =
      let ext = (all_numbers_stand fs m new as' y).0 in
      let p = numbers_same f old m m' a b (distinct_extended m new ext d) x x' in
      let q = all_same fs m new other as' bs d y (subst (λ (z : List Term). AllNumbers fs z other bs) (sym p.0) y') in
      (q.0, e ∙ ap (λ z. z ∷ as') p.1 ∙ ap (λ zs. b ∷ zs) q.1 ∙ sym e')

pub numbered_same : (f : Formula) (old new other : List Term) (id also : ℕ) → IsGraph new → Numbered f old new id → Numbered f old other also → (new ≡ other) × (id ≡ also)
numbered_same f old new other id also list a b = numbers_same f old new other id also list.distinct a.is b.is
