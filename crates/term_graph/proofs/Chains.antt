-- The chains of an index.
use Rattle.std.proofs.Common.{◌≡◌, ℕ, zero, suc, ◌+◌, ◌-◌, ◌%◌, ◌<◌, ◌≤◌, ◌==◌, List, [], ◌∷◌, ◌++◌, length, take, drop, get_or, set, replicate, Contains, Some, slice_get, cond, refl, ap, sym, ◌∙◌, subst, inl, inr, arith, option_map, unwrap_or}
use Rattle.std.proofs.lemmas.Bool.{cases_lt, cases_eq}
use Rattle.std.proofs.lemmas.Bool.Decides.{eqb_tells}
use Rattle.std.proofs.lemmas.Option.{slice_get_within, slice_get-get_or, same_Some}
use Rattle.std.proofs.lemmas.List.{get_or_default, get_or-set_same, get_or-set_other, get_or-replicate, get_or_append_left, length-append, length-set, length-replicate, length-take-le, take-append-drop, take_all}
use Rattle.terms.specs.declared.term.Term.{Term}
use Rattle.term_graph.specs.Index.{hash, bucket_of, newest_below, IsIndex}

-- only the numbers below count
pub newest_same : (f g : ℕ → ℕ) (b n : ℕ) → ((i : ℕ) → i < n → f i ≡ g i) → newest_below f b n ≡ newest_below g b n
newest_same f g b zero h = refl
newest_same f g b (suc n) h =
    ap (λ k. cond (k == b) (suc n) (newest_below f b n)) (h n (omega arith))
    ∙ ap (λ m. cond (g n == b) (suc n) m) (newest_same f g b n (λ i l. h i (omega (arith, l))))

-- the greatest number of the bucket, and none above it
pub newest_some : (f : ℕ → ℕ) (b n k : ℕ) → newest_below f b n ≡ suc k → (k < n) × (f k ≡ b) × ((i : ℕ) → k < i → i < n → f i ≡ b → ⊥)
newest_some f b zero k h = absurd (omega (arith, h))
newest_some f b (suc n) k h = elim (eqb_tells (f n) b) [
  | inl p ↦
      let e : suc n ≡ suc k = sym (ap (λ t. cond t (suc n) (newest_below f b n)) p.0) ∙ h in
      let s : n ≡ k = omega (arith, e) in
      (omega (arith, s), subst (λ m. f m ≡ b) s p.1, λ i l m q. omega (arith, l, m, s))
  | inr p ↦
      let e : newest_below f b n ≡ suc k = sym (ap (λ t. cond t (suc n) (newest_below f b n)) p.0) ∙ h in
      let (l, same, none) = newest_some f b n k e in (
        omega (arith, l),
        same,
        λ i a c q. elim (cases_lt i n) [
          | inl d ↦ none i a d q
          | inr d ↦ let s : i ≡ n = omega (arith, c, d) in p.1 (subst (λ m. f m ≡ b) s q)
        ],
      )
]

pub newest_none : (f : ℕ → ℕ) (b n : ℕ) → newest_below f b n ≡ 0 → (i : ℕ) → i < n → f i ≡ b → ⊥
newest_none f b zero h i l e = omega (arith, l)
newest_none f b (suc n) h i l e = elim (eqb_tells (f n) b) [
  | inl p ↦ let z : suc n ≡ 0 = sym (ap (λ t. cond t (suc n) (newest_below f b n)) p.0) ∙ h in omega (arith, z)
  | inr p ↦
      let z : newest_below f b n ≡ 0 = sym (ap (λ t. cond t (suc n) (newest_below f b n)) p.0) ∙ h in
      elim (cases_lt i n) [
        | inl d ↦ newest_none f b n z i d e
        | inr d ↦ let s : i ≡ n = omega (arith, l, d) in p.1 (subst (λ m. f m ≡ b) s e)
      ]
]

pub newest_few : (f : ℕ → ℕ) (b n : ℕ) → newest_below f b n ≤ n
newest_few f b zero = omega arith
newest_few f b (suc n) = elim (eqb_tells (f n) b) [
  | inl p ↦ let z : newest_below f b (suc n) ≡ suc n = ap (λ t. cond t (suc n) (newest_below f b n)) p.0 in omega (arith, z)
  | inr p ↦ let z : newest_below f b (suc n) ≡ newest_below f b n = ap (λ t. cond t (suc n) (newest_below f b n)) p.0 in omega (arith, z, newest_few f b n)
]

-- the bucket of a term that stands at a number
pub bucket_at : (count : ℕ) (ts : List Term) (i : ℕ) (t : Term) → slice_get ts i ≡ Some t → bucket_of count ts i ≡ hash t % count
unfolding bucket_of
bucket_at count ts i t h = ap (λ o. unwrap_or (option_map (λ (u : Term). hash u % count) o) 0) h

bucket_same : (count : ℕ) (ts us : List Term) (i : ℕ) → slice_get ts i ≡ slice_get us i → bucket_of count ts i ≡ bucket_of count us i
unfolding bucket_of
bucket_same count ts us i h = ap (λ o. unwrap_or (option_map (λ (u : Term). hash u % count) o) 0) h

-- of the numbers from next on, none has the node
pub record Sought (ts : List Term) (node : Term) (newest : List ℕ) (next : ℕ) : Type 0 where
  pub upto : ℕ
  pub few : upto ≤ length ts
  pub chain : next ≡ newest_below (bucket_of (length newest) ts) (hash node % length newest) upto
  pub above : (i : ℕ) → upto ≤ i → slice_get ts i ≡ Some node → ⊥

pub sought_start : (ts : List Term) (node : Term) (newest older : List ℕ) (b next : ℕ) → IsIndex ts (length ts) newest older → b ≡ hash node % length newest → b < length newest → next ≡ get_or newest b next → Sought ts node newest next
sought_start ts node newest older b next x e l h = record {
  upto = length ts;
  few = omega arith;
  chain = h ∙ get_or_default newest b next 0 l ∙ x.heads b l ∙ ap (λ c. newest_below (bucket_of (length newest) ts) c (length ts)) e;
  above = λ i a s. (let l : i < length ts = slice_get_within ts i node s in omega (arith, a, l));
}

pub sought_within : (ts : List Term) (node : Term) (newest : List ℕ) (next : ℕ) → Sought ts node newest next → next ≤ length ts
sought_within ts node newest next s = omega (arith, s.few, s.chain, newest_few (bucket_of (length newest) ts) (hash node % length newest) s.upto)

pub sought_next : (ts : List Term) (node here : Term) (newest older : List ℕ) (next id then : ℕ) → IsIndex ts (length ts) newest older → Sought ts node newest next → 0 < next → id ≡ next - 1 → slice_get ts id ≡ Some here → (here ≡ node → ⊥) → then ≡ get_or older id then → Sought ts node newest then × (then < next)
sought_next ts node here newest older next id then x s p e g other h =
    let f = bucket_of (length newest) ts in
    let b = hash node % length newest in
    let at : newest_below f b s.upto ≡ suc id = omega (arith, s.chain, p, e) in
    let (l, same, none) = newest_some f b s.upto id at in
    let m : id < length ts = omega (arith, l, s.few) in
    let link : then ≡ newest_below f b id =
    h ∙ get_or_default older id then 0 (omega (arith, m, x.room)) ∙ x.links id m ∙ ap (λ c. newest_below f c id) same in (
      record {
        upto = id;
        few = omega (arith, m);
        chain = link;
        above = λ i a q. elim (cases_lt i s.upto) [
          | inl d ↦ elim (cases_eq i id) [
            | inl r ↦ other (same_Some here node (sym g ∙ ap (λ k. slice_get ts k) (sym r) ∙ q))
            | inr r ↦ none i (omega (arith, a, r)) d (bucket_at (length newest) ts i node q)
          ]
          | inr d ↦ s.above i d q
        ];
      },
      omega (arith, link, newest_few f b id, e, p),
    )

pub sought_end : (ts : List Term) (node : Term) (newest : List ℕ) (next : ℕ) → Sought ts node newest next → next ≡ 0 → Contains ts node → ⊥
sought_end ts node newest next s z (i, l, e) =
    let q : slice_get ts i ≡ Some node = slice_get-get_or ts i node l ∙ ap Some e in
    elim (cases_lt i s.upto) [
      | inl d ↦ newest_none (bucket_of (length newest) ts) (hash node % length newest) s.upto (sym s.chain ∙ z) i d (bucket_at (length newest) ts i node q)
      | inr d ↦ s.above i d q
    ]

-- a step of the number changes the one bucket
newest_here : (f : ℕ → ℕ) (n : ℕ) → newest_below f (f n) (suc n) ≡ suc n
newest_here f n = elim (eqb_tells (f n) (f n)) [
  | inl p ↦ ap (λ t. cond t (suc n) (newest_below f (f n) n)) p.0
  | inr p ↦ absurd (p.1 refl)
]

newest_there : (f : ℕ → ℕ) (b n : ℕ) → (f n ≡ b → ⊥) → newest_below f b (suc n) ≡ newest_below f b n
newest_there f b n h = elim (eqb_tells (f n) b) [
  | inl p ↦ absurd (h p.1)
  | inr p ↦ ap (λ t. cond t (suc n) (newest_below f b n)) p.0
]

pub linked : (ts : List Term) (t : Term) (id b old : ℕ) (newest older : List ℕ) → IsIndex ts id newest older → id < length older → slice_get ts id ≡ Some t → b ≡ hash t % length newest → b < length newest → old ≡ get_or newest b old → IsIndex ts (id + 1) (set newest b (id + 1)) (set older id old)
linked ts t id b old newest older x l g e m h =
    let f = bucket_of (length newest) ts in
    let count : length (set newest b (id + 1)) ≡ length newest = length-set newest b (id + 1) in
    let here : f id ≡ b = bucket_at (length newest) ts id t g ∙ sym e in
    let next : suc id ≡ id + 1 = omega arith in
    let head : old ≡ newest_below f b id = h ∙ get_or_default newest b old 0 m ∙ x.heads b m in
    record {
      room = omega (arith, length-set older id old, l);
      buckets = λ p. omega (arith, count, m);
      heads = λ c k. subst (λ n. get_or (set newest b (id + 1)) c 0 ≡ newest_below (bucket_of n ts) c (id + 1)) (sym count)
          (elim (cases_eq c b) [
            | inl p ↦ ap (λ z. get_or (set newest b (id + 1)) z 0) p ∙ get_or-set_same newest b (id + 1) 0 m ∙ sym next ∙ sym (newest_here f id) ∙ ap (λ z. newest_below f z (suc id)) (here ∙ sym p) ∙ ap (λ z. newest_below f c z) next
            | inr p ↦ get_or-set_other newest b c (id + 1) 0 p ∙ x.heads c (omega (arith, k, count)) ∙ sym (newest_there f c id (λ q. p (sym q ∙ here))) ∙ ap (λ z. newest_below f c z) next
          ]);
      links = λ i k. subst (λ n. get_or (set older id old) i 0 ≡ newest_below (bucket_of n ts) (bucket_of n ts i) i) (sym count)
          (elim (cases_eq i id) [
            | inl p ↦ ap (λ z. get_or (set older id old) z 0) p ∙ get_or-set_same older id old 0 l ∙ head ∙ ap (λ z. newest_below f z id) (sym here) ∙ ap (λ z. newest_below f (f z) z) (sym p)
            | inr p ↦ get_or-set_other older id i old 0 p ∙ x.links i (omega (arith, k, p))
          ]);
    }

pub unlinked : (ts : List Term) (t : Term) (id b old : ℕ) (newest older : List ℕ) → IsIndex ts (id + 1) newest older → slice_get ts id ≡ Some t → b ≡ hash t % length newest → b < length newest → old ≡ get_or older id old → IsIndex ts id (set newest b old) older
unlinked ts t id b old newest older x g e m h =
    let f = bucket_of (length newest) ts in
    let count : length (set newest b old) ≡ length newest = length-set newest b old in
    let here : f id ≡ b = bucket_at (length newest) ts id t g ∙ sym e in
    let next : suc id ≡ id + 1 = omega arith in
    let room : id + 1 ≤ length older = x.room in
    record {
      room = omega (arith, room);
      buckets = λ p. omega (arith, count, m);
      heads = λ c k. subst (λ n. get_or (set newest b old) c 0 ≡ newest_below (bucket_of n ts) c id) (sym count)
          (elim (cases_eq c b) [
            | inl p ↦ ap (λ z. get_or (set newest b old) z 0) p ∙ get_or-set_same newest b old 0 m ∙ h ∙ get_or_default older id old 0 (omega (arith, room)) ∙ x.links id (omega arith) ∙ ap (λ z. newest_below f z id) (here ∙ sym p)
            | inr p ↦ get_or-set_other newest b c old 0 p ∙ x.heads c (omega (arith, k, count)) ∙ ap (λ z. newest_below f c z) (sym next) ∙ newest_there f c id (λ q. p (sym q ∙ here))
          ]);
      links = λ i k. subst (λ n. get_or older i 0 ≡ newest_below (bucket_of n ts) (bucket_of n ts i) i) (sym count) (x.links i (omega (arith, k)));
    }

-- the index of the first n terms sees these alone
pub index_same : (ts us : List Term) (n : ℕ) (newest older : List ℕ) → IsIndex ts n newest older → ((i : ℕ) → i < n → slice_get ts i ≡ slice_get us i) → IsIndex us n newest older
index_same ts us n newest older x s =
    let f = bucket_of (length newest) ts in
    let g = bucket_of (length newest) us in
    let same : (i : ℕ) → i < n → f i ≡ g i = λ i l. bucket_same (length newest) ts us i (s i l) in
    record {
      room = x.room;
      buckets = x.buckets;
      heads = λ b l. x.heads b l ∙ newest_same f g b n same;
      links = λ i l. x.links i l ∙ newest_same f g (f i) i (λ j m. same j (omega (arith, l, m))) ∙ ap (λ b. newest_below g b i) (same i l);
    }

get_front : {X : Type 0} (xs ys : List X) (i : ℕ) → i < length xs → slice_get (xs ++ ys) i ≡ slice_get xs i
get_front [] ys i l = absurd (omega (arith, l))
get_front (x ∷ xs) ys zero l = refl
get_front (x ∷ xs) ys (suc i) l = get_front xs ys i (omega (arith, l))

pub index_pushed : (ts : List Term) (t : Term) (newest older : List ℕ) → IsIndex ts (length ts) newest older → IsIndex (ts ++ t ∷ []) (length ts) newest older
index_pushed ts t newest older x = index_same ts (ts ++ t ∷ []) (length ts) newest older x (λ i l. sym (get_front ts (t ∷ []) i l))

pub index_taken : (ts : List Term) (n : ℕ) (newest older : List ℕ) → IsIndex ts n newest older → n ≤ length ts → IsIndex (take n ts) n newest older
index_taken ts n newest older x l =
    index_same ts (take n ts) n newest older x (λ i m.
    ap (λ zs. slice_get zs i) (sym (take-append-drop n ts)) ∙ get_front (take n ts) (drop n ts) i (omega (arith, m, length-take-le n ts l)))

-- more places for terms
pub index_grown : (ts : List Term) (n places : ℕ) (newest older : List ℕ) → IsIndex ts n newest older → 0 < length newest → length older ≤ places → IsIndex ts n newest (take places older ++ replicate (places - length older) 0)
index_grown ts n places newest older x b l =
    let same : take places older ≡ older = take_all places older l in
    let room : n ≤ length older = x.room in
    record {
      room = omega (arith, room, length-append (take places older) (replicate (places - length older) 0), ap length same);
      buckets = λ p. b;
      heads = x.heads;
      links = λ i m. ap (λ zs. get_or (zs ++ replicate (places - length older) 0) i 0) same ∙ get_or_append_left older (replicate (places - length older) 0) 0 i (omega (arith, m, room)) ∙ x.links i m;
    }

-- no term in any bucket
pub index_empty : (ts : List Term) (count : ℕ) (older : List ℕ) → 0 < count → IsIndex ts 0 (replicate count 0) older
index_empty ts count older p = record {
  room = omega arith;
  buckets = λ q. omega (arith, p, length-replicate {A = ℕ} count 0);
  heads = λ b l. get_or-replicate count b 0 0 (subst (λ n. b < n) (length-replicate count zero) l);
  links = λ i l. absurd (omega (arith, l));
}
