-- What stands where in a pool's chunks.
use Rattle.std.proofs.Common.{◌≡◌, ℕ, zero, suc, ◌+◌, ◌-◌, ◌*◌, ◌/◌, ◌%◌, ◌<◌, ◌≤◌, min, List, [], ◌∷◌, ◌++◌, length, take, drop, get_or, set, Some, slice_get, refl, ap, sym, ◌∙◌, subst, arith, Vec, vec_items, vec_len, vec_capacity}
use Rattle.std.proofs.lemmas.List.{length-append, append-nil, append_assoc, get_or_append_left, get_or-append_right, nil_from_length, length-set, drop-set-lt, take_all, drop_all, get_or_default}
use Rattle.std.proofs.Math.Seq.{drop-cons, take-suc-set, take-nil}
use Rattle.std.proofs.lemmas.Option.{slice_get_read}
use Rattle.term_pool.specs.Region.{Region}
use Rattle.term_pool.specs.Chunks.{values, Fill, AreFilled}

-- a list's front, in two parts
take_both : {X : Type 0} (n : ℕ) (xs ys : List X) → take (min n (length xs)) xs ++ take (n - length xs) ys ≡ take n (xs ++ ys)
take_both n [] ys = let h : n - 0 ≡ n = omega arith in ap (λ zs. zs ++ take (n - 0) ys) (take-nil (min n 0)) ∙ ap (λ m. take m ys) h
take_both zero (x ∷ xs) ys =
    let m : min 0 (suc (length xs)) ≡ 0 = omega arith in
    let k : 0 - suc (length xs) ≡ 0 = omega arith in
    ap (λ i. take i (x ∷ xs) ++ take (0 - suc (length xs)) ys) m ∙ ap (λ i. take i ys) k
take_both (suc n) (x ∷ xs) ys =
    let m : min (suc n) (suc (length xs)) ≡ suc (min n (length xs)) = omega arith in
    let k : suc n - suc (length xs) ≡ n - length xs = omega arith in
    ap (λ i. take i (x ∷ xs) ++ take (suc n - suc (length xs)) ys) m ∙ ap (λ i. x ∷ take (min n (length xs)) xs ++ take i ys) k
    ∙ ap (λ zs. x ∷ zs) (take_both n xs ys)

tail_same : {X : Type 0} (x y : X) (xs ys zs ws : List X) → zs ≡ x ∷ xs → ws ≡ y ∷ ys → zs ≡ ws → xs ≡ ys
tail_same x y xs ys zs ws p q r = let h : x ∷ xs ≡ y ∷ ys = sym p ∙ r ∙ q in cc

module _ {X Z : Type 0} where
  -- there are as many values as are said to fill the chunks
  pub filled_length : (n : ℕ) (cs : List (Vec X Z)) → Fill n cs → length (values cs) ≡ n
  filled_length n [] h = sym h
  filled_length n (c ∷ cs) (l, wide, more) =
      let rest : length (values cs) ≡ n - 4096 = filled_length (n - 4096) cs more in
      omega (arith, length-append (vec_items c) (values cs), l, rest, c.ok.0)

  -- and no more than there are places
  pub filled_fits : (n : ℕ) (cs : List (Vec X Z)) → Fill n cs → n ≤ length cs * 4096
  filled_fits n [] h = omega (arith, h)
  filled_fits n (c ∷ cs) (l, wide, more) = let rest : n - 4096 ≤ length cs * 4096 = filled_fits (n - 4096) cs more in omega (arith, rest)

  -- the chunk of a value, and its place there
  at_place : (cs : List (Vec X Z)) (n i r : ℕ) → Fill n cs → r < 4096 → i * 4096 + r < n → (i < length cs) × ((c : Vec X Z) → c ≡ get_or cs i c → (r < vec_len c) × ((x : X) → x ≡ get_or (vec_items c) r x → x ≡ get_or (values cs) (i * 4096 + r) x))
  at_place [] n i r h l b = absurd (omega (arith, h, b))
  at_place (d ∷ cs) n zero r (len, wide, more) l b = (
    omega arith,
    λ c e.
        let m : r < vec_len d = omega (arith, len, l, b) in (
          subst (λ (z : Vec X Z). r < vec_len z) (sym e) m,
          λ x g. g ∙ ap (λ (z : Vec X Z). get_or (vec_items z) r x) e ∙ sym (get_or_append_left (vec_items d) (values cs) x r (omega (arith, m, d.ok.0)))
              ∙ ap (λ z. get_or (values (d ∷ cs)) z x) (omega arith),
        ),
  )
  at_place (d ∷ cs) n (suc i) r (len, wide, more) l b =
      let (j, k) = at_place cs (n - 4096) i r more l (omega (arith, b)) in (
        omega (arith, j),
        λ c e.
            let (m, g) = k c e in (
              m,
              λ x h.
                  let p : length (vec_items d) ≡ 4096 = omega (arith, len, b, d.ok.0) in
                  g x h ∙ ap (λ z. get_or (values cs) z x) (omega arith) ∙ sym (get_or-append_right (vec_items d) (values cs) 4096 (suc i * 4096 + r) x p (omega arith)),
            ),
      )

  pub filled_at : (cs : List (Vec X Z)) (n at : ℕ) → Fill n cs → at < n → (at / 4096 < length cs) × ((c : Vec X Z) → c ≡ get_or cs (at / 4096) c → (at % 4096 < vec_len c) × ((x : X) → x ≡ get_or (vec_items c) (at % 4096) x → slice_get (values cs) at ≡ Some x))
  filled_at cs n at h l =
      let p : at / 4096 * 4096 + at % 4096 ≡ at = omega arith in
      let (i, j) = at_place cs n (at / 4096) (at % 4096) h (omega arith) (omega (arith, l)) in (
        i,
        λ c e.
            let (m, g) = j c e in
            (m, λ x k. slice_get_read (values cs) n at x (sym (filled_length n cs h)) l (g x k ∙ ap (λ z. get_or (values cs) z x) p)),
      )

  -- the chunks have one value more
  pub record IsPushed (c d : Vec X Z) (x : X) : Type 0 where
    pub items : vec_items d ≡ vec_items c ++ x ∷ []
    pub len : vec_len d ≡ vec_len c + 1
    pub room : vec_capacity d ≡ vec_capacity c

  push_place : (cs : List (Vec X Z)) (n i r : ℕ) → Fill n cs → r < 4096 → n ≡ i * 4096 + r → n < length cs * 4096 → (i < length cs) × ((c : Vec X Z) → c ≡ get_or cs i c → (vec_len c < vec_capacity c) × ((d : Vec X Z) (x : X) → IsPushed c d x → Fill (n + 1) (set cs i d) × (values (set cs i d) ≡ values cs ++ x ∷ [])))
  push_place [] n i r h l e b = absurd (omega (arith, b))
  push_place (a ∷ cs) n zero r (len, wide, more) l e b =
      let none : n - 4096 ≡ 0 = omega (arith, e, l) in
      let nothing : values cs ≡ [] = nil_from_length (values cs) (filled_length (n - 4096) cs more ∙ none) in (
        omega arith,
        λ c s. (
          subst (λ (z : Vec X Z). vec_len z < vec_capacity z) (sym s) (omega (arith, len, wide, e, l)),
          λ d x p.
              let q : vec_len d ≡ vec_len a + 1 = p.len ∙ ap (λ (z : Vec X Z). vec_len z + 1) s in
              let k : vec_capacity d ≡ vec_capacity a = p.room ∙ ap (λ (z : Vec X Z). vec_capacity z) s in
              let f : n + 1 - 4096 ≡ n - 4096 = omega (arith, e, l) in (
                (omega (arith, q, len, e, l), omega (arith, k, wide), subst (λ m. Fill m cs) (sym f) more),
                ap (λ zs. vec_items d ++ zs) nothing ∙ append-nil (vec_items d) ∙ p.items ∙ ap (λ (z : Vec X Z). vec_items z ++ x ∷ []) s
                    ∙ ap (λ zs. zs ++ x ∷ []) (sym (append-nil (vec_items a)) ∙ ap (λ zs. vec_items a ++ zs) (sym nothing)),
              ),
        ),
      )
  push_place (a ∷ cs) n (suc i) r (len, wide, more) l e b =
      let (j, k) = push_place cs (n - 4096) i r more l (omega (arith, e)) (omega (arith, b, e)) in (
        omega (arith, j),
        λ c s.
            let (m, g) = k c s in (
              m,
              λ d x p.
                  let (f, v) = g d x p in
                  let t : n + 1 - 4096 ≡ n - 4096 + 1 = omega (arith, e) in
                  ((omega (arith, len, e), wide, subst (λ m. Fill m (set cs i d)) (sym t) f), ap (λ zs. vec_items a ++ zs) v ∙ sym (append_assoc (vec_items a) (values cs) (x ∷ []))),
            ),
      )

  pub push_at : (cs : List (Vec X Z)) (n : ℕ) → Fill n cs → n < length cs * 4096 → (n / 4096 < length cs) × ((c : Vec X Z) → c ≡ get_or cs (n / 4096) c → (vec_len c < vec_capacity c) × ((d : Vec X Z) (x : X) → IsPushed c d x → Fill (n + 1) (set cs (n / 4096) d) × (values (set cs (n / 4096) d) ≡ values cs ++ x ∷ [])))
  push_at cs n h b = push_place cs n (n / 4096) (n % 4096) h (omega arith) (omega arith) b

  -- empty chunks behind
  pub filled_grown : (n : ℕ) (cs ds : List (Vec X Z)) → Fill n cs → Fill 0 ds → Fill n (cs ++ ds) × (values (cs ++ ds) ≡ values cs)
  filled_grown n [] ds h e = (subst (λ m. Fill m ds) (sym h) e, nil_from_length (values ds) (filled_length 0 ds e))
  filled_grown n (c ∷ cs) ds (l, wide, more) e =
      let (f, v) = filled_grown (n - 4096) cs ds more e in
      ((l, wide, f), ap (λ zs. vec_items c ++ zs) v)

  pub empty_pushed : (cs : List (Vec X Z)) (c : Vec X Z) → Fill 0 cs → vec_len c ≡ 0 → 4096 ≤ vec_capacity c → Fill 0 (cs ++ c ∷ [])
  empty_pushed cs c h l w = (filled_grown 0 cs (c ∷ []) h (l, w, refl)).0

  -- chunks cut to so many values
  pub record IsCut (c d : Vec X Z) (n : ℕ) : Type 0 where
    pub items : vec_items d ≡ take n (vec_items c)
    pub len : vec_len d ≡ n
    pub room : vec_capacity d ≡ vec_capacity c

  abbrev pub Cuts : ℕ → List (Vec X Z) → List (Vec X Z) → Type 0
  Cuts n [] ds = ds ≡ []
  Cuts n (c ∷ cs) ds = (d : Vec X Z) × (es : List (Vec X Z)) × (ds ≡ d ∷ es) × IsCut c d (min n (vec_len c)) × Cuts (n - vec_len c) cs es

  pub cut_all : (n m : ℕ) (cs ds : List (Vec X Z)) → Fill n cs → m ≤ n → Cuts m cs ds → Fill m ds × (values ds ≡ take m (values cs)) × (length ds ≡ length cs)
  cut_all n m [] ds h l e = rw e (omega (arith, h, l), sym (take-nil m), refl)
  cut_all n m (c ∷ cs) ds (len, wide, more) l (d, es, e, one, rest) =
      let (f, v, k) = cut_all (n - 4096) (m - vec_len c) cs es more (omega (arith, len, l)) rest in
      rw e (
        (omega (arith, one.len, len, l), omega (arith, one.room, wide), subst (λ i. Fill i es) (omega (arith, len, l)) f),
        ap (λ zs. zs ++ values es) one.items ∙ ap (λ zs. take (min m (vec_len c)) (vec_items c) ++ zs) v
            ∙ ap (λ i. take (min m i) (vec_items c) ++ take (m - i) (values cs)) c.ok.0 ∙ take_both m (vec_items c) (values cs),
        omega (arith, k),
      )

  -- the chunks before index i are cut
  pub record Cutting (old cs : List (Vec X Z)) (i left n : ℕ) : Type 0 where
    pub count : length cs ≡ length old
    pub rest : drop i cs ≡ drop i old
    pub front : (ds : List (Vec X Z)) → Cuts left (drop i old) ds → Cuts n old (take i cs ++ ds)

  pub cut_more : (old cs : List (Vec X Z)) (i left n : ℕ) (c d : Vec X Z) → Cutting old cs i left n → i < length cs → c ≡ get_or cs i c → IsCut c d (min left (vec_len c)) → Cutting old (set cs i d) (suc i) (left - min left (vec_len c)) n
  cut_more old cs i left n c d p l e one =
      let here : drop i cs ≡ c ∷ drop (suc i) cs = drop-cons cs i c l ∙ ap (λ z. z ∷ drop (suc i) cs) (sym e) in
      let there : drop i old ≡ get_or old i c ∷ drop (suc i) old = drop-cons old i c (omega (arith, l, p.count)) in
      let behind : drop (suc i) cs ≡ drop (suc i) old = tail_same c (get_or old i c) (drop (suc i) cs) (drop (suc i) old) (drop i cs) (drop i old) here there p.rest in
      record {
        count = length-set cs i d ∙ p.count;
        rest = drop-set-lt (suc i) cs i d (omega arith) ∙ behind;
        front = λ ds more.
            let less : left - min left (vec_len c) ≡ left - vec_len c = omega arith in
            let last : Cuts (left - vec_len c) (drop (suc i) cs) ds = subst (λ (os : List (Vec X Z)). Cuts (left - vec_len c) os ds) (sym behind) (subst (λ m. Cuts m (drop (suc i) old) ds) less more) in
            let whole : Cuts left (drop i old) (d ∷ ds) = subst (λ (os : List (Vec X Z)). Cuts left os (d ∷ ds)) (sym here ∙ p.rest) (d, ds, refl, one, last) in
            subst (λ (os : List (Vec X Z)). Cuts n old os) (sym (ap (λ zs. zs ++ ds) (take-suc-set cs i d l) ∙ append_assoc (take i cs) (d ∷ []) ds)) (p.front (d ∷ ds) whole);
      }

  pub cut_next : (old cs : List (Vec X Z)) (i left n kept size : ℕ) (b c d : Vec X Z) → Cutting old cs i left n → i < length old → size ≡ vec_len (get_or cs i b) → kept ≡ min left size → c ≡ get_or cs i c → vec_items d ≡ take kept (vec_items (get_or cs i c)) → vec_len d + (vec_len (get_or cs i c) - kept) ≡ vec_len (get_or cs i c) → vec_capacity d ≡ vec_capacity (get_or cs i c) → Cutting old (set cs i d) (i + 1) (left - kept) n
  cut_next old cs i left n kept size b c d p l s k e items len room =
      let m : i < length cs = omega (arith, l, p.count) in
      let here : get_or cs i b ≡ c = get_or_default cs i b c m ∙ sym e in
      let q : kept ≡ min left (vec_len c) = k ∙ ap (λ z. min left z) (s ∙ ap (λ (v : Vec X Z). vec_len v) here) in
      let one : IsCut c d (min left (vec_len c)) = record {
        items = items ∙ ap (λ (v : Vec X Z). take kept (vec_items v)) (sym e) ∙ ap (λ z. take z (vec_items c)) q;
        len = (let h : vec_len d + (vec_len c - kept) ≡ vec_len c = subst (λ (v : Vec X Z). vec_len d + (vec_len v - kept) ≡ vec_len v) (sym e) len in omega (arith, h, q));
        room = room ∙ ap (λ (v : Vec X Z). vec_capacity v) (sym e);
      } in
      let after : suc i ≡ i + 1 = omega arith in
      subst (λ j. Cutting old (set cs i d) j (left - kept) n) after
      (subst (λ z. Cutting old (set cs i d) (suc i) (left - z) n) (sym q) (cut_more old cs i left n c d p m e one))

  pub cut_start : (cs : List (Vec X Z)) (n : ℕ) → Cutting cs cs 0 n n
  cut_start cs n = record { count = refl; rest = refl; front = λ ds h. h }

  pub cut_end : (old cs : List (Vec X Z)) (i left n : ℕ) → Cutting old cs i left n → length cs ≤ i → Cuts n old cs
  cut_end old cs i left n p l =
      let none : drop i old ≡ [] = drop_all i old (omega (arith, l, p.count)) in
      let all : take i cs ++ [] ≡ cs = append-nil (take i cs) ∙ take_all i cs l in
      subst (λ (os : List (Vec X Z)). Cuts n old os) all (p.front [] (subst (λ (os : List (Vec X Z)). Cuts left os []) (sym none) refl))

  -- what a pool shows
  pub filled_room : (cs : List (Vec X Z)) (len places : ℕ) → AreFilled cs len places → len ≤ places
  filled_room cs len places f = omega (arith, filled_fits len cs f.fill, f.room)

  pub get_at : (r : Region X) (cs : List (Vec X Z)) (len places at : ℕ) → record { items = values cs; spare = places - len } ≡ r → AreFilled cs len places → at < length r.items → (at / 4096 < length cs) × ((c : Vec X Z) → c ≡ get_or cs (at / 4096) c → (at % 4096 < vec_len c) × ((x : X) → x ≡ get_or (vec_items c) (at % 4096) x → slice_get r.items at ≡ Some x))
  get_at r cs len places at v f l =
      let same : values cs ≡ r.items = ap (λ (s : Region X). s.items) v in
      let m : at < len = subst (λ n. at < n) (filled_length len cs f.fill) (subst (λ (xs : List X). at < length xs) (sym same) l) in
      let (i, j) = filled_at cs len at f.fill m in
      (i, λ c e. let (k, g) = j c e in (k, λ x h. subst (λ (xs : List X). slice_get xs at ≡ Some x) same (g x h)))

  pub pushed_at : (r : Region X) (cs : List (Vec X Z)) (len places : ℕ) → record { items = values cs; spare = places - len } ≡ r → AreFilled cs len places → 0 < r.spare → (len / 4096 < length cs) × ((c : Vec X Z) → c ≡ get_or cs (len / 4096) c → (vec_len c < vec_capacity c) × ((d : Vec X Z) (x : X) → IsPushed c d x → AreFilled (set cs (len / 4096) d) (len + 1) places × (values (set cs (len / 4096) d) ≡ r.items ++ x ∷ [])))
  pushed_at r cs len places v f l =
      let same : values cs ≡ r.items = ap (λ (s : Region X). s.items) v in
      let spare : places - len ≡ r.spare = ap (λ (s : Region X). s.spare) v in
      let (i, j) = push_at cs len f.fill (omega (arith, spare, l, f.room)) in (
        i,
        λ c e. let (k, g) = j c e in (
          k,
          λ d x p. let (h, w) = g d x p in
              (record { fill = h; room = f.room ∙ ap (λ n. n * 4096) (sym (length-set cs (len / 4096) d)) }, w ∙ ap (λ zs. zs ++ x ∷ []) same),
        ),
      )

  pub grown : (cs ds : List (Vec X Z)) (len places more count : ℕ) → AreFilled cs len places → Fill 0 ds → length ds ≡ count → more ≡ places + count * 4096 → AreFilled (cs ++ ds) len more
  grown cs ds len places more count f e n m = record { fill = (filled_grown len cs ds f.fill e).0; room = omega (arith, f.room, m, n, length-append cs ds) }

  pub released : (cs ds : List (Vec X Z)) (len places n : ℕ) → AreFilled cs len places → Fill n ds → length ds ≡ length cs → AreFilled ds n places
  released cs ds len places n f h l = record { fill = h; room = f.room ∙ ap (λ m. m * 4096) (sym l) }
