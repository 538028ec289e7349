-- Words begin with one piece, and with one only.
use Rattle.std.proofs.Common.{◌≡◌, ◌≢◌, ℕ, ◌+◌, true, false, eqb, List, [], ◌∷◌, ◌++◌, length, get_or, take, drop, slice_index, codes, Some, None, refl, sym, ap, subst, ◌∙◌, inl, inr, arith}
use denote.Ref.{Bor}
use Rattle.std.specs.Cmp.Lexicographic.{pointwise}
use Rattle.std.proofs.lemmas.Bool.Decides.{Decides-eqb}
use Rattle.std.proofs.lemmas.List.{append_cancel_left, length-append}
use Rattle.std.proofs.lemmas.Slice.Eq.{strip_prefix_is}
use Rattle.vcc_words.specs.Arguments.{Piece, Name, Leaves, Rounds, IsOption, IsOptionWord, IsPlain, Every, Begins, Are}

-- ---- the text of an option

pub stripped : (text p : List ℕ) (x : Bor (List ℕ)) → (pointwise eqb (take (length p) text) p ≡ true) × (x.now ≡ drop (length p) text) × (length x.now + length p ≡ length text) → text ≡ p ++ x.now
stripped text p x h = strip_prefix_is Decides-eqb text p (Some x) h

pub not_stripped : (text p : List ℕ) → pointwise eqb (take (length p) text) p ≡ false → (rest : List ℕ) → text ≢ p ++ rest
not_stripped text p h = strip_prefix_is Decides-eqb text p None h

-- ---- one piece, and one only

pub option_one : (o : List ℕ) (ws : List (List ℕ)) (t u : List ℕ) (r s : List (List ℕ)) → IsOption o ws t r → IsOption o ws u s → (t ≡ u) × (r ≡ s)
option_one o ws t u r s a b =
    elim a [
      | inl e ↦ elim b [
        | inl f ↦ let x : t ≡ u = cc (e.0, f.0) in let y : r ≡ s = cc (e.0, f.0) in (x, y)
        | inr f ↦ let x : o ≡ o ++ 61 ∷ u = cc (e.0, f) in absurd (omega (arith, ap length x, length-append o (61 ∷ u)))
      ]
      | inr e ↦ elim b [
        | inl f ↦ let x : o ≡ o ++ 61 ∷ t = cc (e, f.0) in absurd (omega (arith, ap length x, length-append o (61 ∷ t)))
        | inr f ↦
            let x : o ++ 61 ∷ t ≡ o ++ 61 ∷ u = cc in
            let z : 61 ∷ t ≡ 61 ∷ u = append_cancel_left o (61 ∷ t) (61 ∷ u) x in
            let v : t ≡ u = cc in
            let y : r ≡ s = cc in
            (v, y)
      ]
    ]

-- the byte at a place in the first word
byte_at : ℕ → List (List ℕ) → ℕ
byte_at k ws = slice_index (get_or ws 0 []) k

leaves_bytes : (ws : List (List ℕ)) (t : List ℕ) (r : List (List ℕ)) → IsOption (codes "--leaves") ws t r → (byte_at 0 ws ≡ 45) × (byte_at 2 ws ≡ 108)
unfolding byte_at
leaves_bytes ws t r is = elim is [ inl e ↦ (ap (byte_at 0) e.0, ap (byte_at 2) e.0) | inr e ↦ (ap (byte_at 0) e, ap (byte_at 2) e) ]

rounds_bytes : (ws : List (List ℕ)) (t : List ℕ) (r : List (List ℕ)) → IsOption (codes "--rounds") ws t r → (byte_at 0 ws ≡ 45) × (byte_at 2 ws ≡ 114)
unfolding byte_at
rounds_bytes ws t r is = elim is [ inl e ↦ (ap (byte_at 0) e.0, ap (byte_at 2) e.0) | inr e ↦ (ap (byte_at 0) e, ap (byte_at 2) e) ]

name_byte : (ws : List (List ℕ)) (w : List ℕ) (r : List (List ℕ)) → Begins ws (Name w) r → byte_at 0 ws ≡ 45 → ⊥
unfolding byte_at
name_byte ws w r b h = b.1.1 (sym (ap (byte_at 0) b.0) ∙ h)

two_marks : (n : ℕ) → n ≡ 108 → n ≡ 114 → ⊥
two_marks n a b = omega arith

pub begins_one : (ws : List (List ℕ)) (p q : Piece) (r s : List (List ℕ)) → Begins ws p r → Begins ws q s → (p ≡ q) × (r ≡ s)
begins_one ws (Name w) (Name v) r s b c =
    let e : w ∷ r ≡ v ∷ s = sym b.0 ∙ c.0 in
    let h : w ≡ v = cc in
    let t : r ≡ s = cc in
    (ap Name h, t)
begins_one ws (Name w) (Leaves t) r s b c = absurd (name_byte ws w r b (leaves_bytes ws t s c).0)
begins_one ws (Name w) (Rounds t) r s b c = absurd (name_byte ws w r b (rounds_bytes ws t s c).0)
begins_one ws (Leaves t) (Name w) r s b c = absurd (name_byte ws w s c (leaves_bytes ws t r b).0)
begins_one ws (Leaves t) (Leaves u) r s b c = let one = option_one (codes "--leaves") ws t u r s b c in (ap Leaves one.0, one.1)
begins_one ws (Leaves t) (Rounds u) r s b c = absurd (two_marks _ (leaves_bytes ws t r b).1 (rounds_bytes ws u s c).1)
begins_one ws (Rounds t) (Name w) r s b c = absurd (name_byte ws w s c (rounds_bytes ws t r b).0)
begins_one ws (Rounds t) (Leaves u) r s b c = absurd (two_marks _ (leaves_bytes ws u s c).1 (rounds_bytes ws t r b).1)
begins_one ws (Rounds t) (Rounds u) r s b c = let one = option_one (codes "--rounds") ws t u r s b c in (ap Rounds one.0, one.1)

option_some : (o : List ℕ) (ws : List (List ℕ)) (t : List ℕ) (r : List (List ℕ)) → IsOption o ws t r → ws ≡ [] → ⊥
option_some o ws t r is e = elim is [ inl a ↦ cc (a.0, e) | inr a ↦ cc ]

pub begins_some : (ws : List (List ℕ)) (p : Piece) (r : List (List ℕ)) → Begins ws p r → ws ≡ [] → ⊥
begins_some ws (Name w) r b e = let f : [] ≡ w ∷ r = sym e ∙ b.0 in cc
begins_some ws (Leaves t) r b e = option_some (codes "--leaves") ws t r b e
begins_some ws (Rounds t) r b e = option_some (codes "--rounds") ws t r b e

pub are_one : (ws : List (List ℕ)) (ps qs : List Piece) → Are ws ps → Are ws qs → ps ≡ qs
are_one ws [] [] a b = refl
are_one ws [] (q ∷ qs) a b = absurd (begins_some ws q b.0 b.1 a)
are_one ws (p ∷ ps) [] a b = absurd (begins_some ws p a.0 a.1 b)
are_one ws (p ∷ ps) (q ∷ qs) a b =
    let one = begins_one ws p q a.0 b.0 a.1 b.1 in
    let more = are_one a.0 ps qs a.2 (subst (λ (r : List (List ℕ)). Are r qs) (sym one.1) b.2) in
    ap (λ (x : Piece). x ∷ ps) one.0 ∙ ap (λ (xs : List Piece). q ∷ xs) more

-- ---- arguments are plain words

option_plain : (o : List ℕ) (ws : List (List ℕ)) (t : List ℕ) (r : List (List ℕ)) → IsOption o ws t r → ((w : List ℕ) → IsOptionWord o w → IsPlain w) → Every IsPlain r → Every IsPlain ws
option_plain o ws t r is plain rest =
    elim is [
      | inl e ↦ subst (λ (xs : List (List ℕ)). Every IsPlain xs) (sym e.0) (plain o (inl refl), (inl e.1, rest))
      | inr e ↦ subst (λ (xs : List (List ℕ)). Every IsPlain xs) (sym e) (plain (o ++ 61 ∷ t) (inr (t, refl)), rest)
    ]

pub are_plain : (ws : List (List ℕ)) (ps : List Piece) → Are ws ps → Every IsPlain ws
are_plain ws [] a = subst (λ (xs : List (List ℕ)). Every IsPlain xs) (sym a) tt
are_plain ws (Name w ∷ ps) a = subst (λ (xs : List (List ℕ)). Every IsPlain xs) (sym a.1.0) (inl a.1.1, are_plain a.0 ps a.2)
are_plain ws (Leaves t ∷ ps) a = option_plain (codes "--leaves") ws t a.0 a.1 (λ w o. inr (inl o)) (are_plain a.0 ps a.2)
are_plain ws (Rounds t ∷ ps) a = option_plain (codes "--rounds") ws t a.0 a.1 (λ w o. inr (inr o)) (are_plain a.0 ps a.2)
