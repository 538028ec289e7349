-- Suffixes of numbers.
use Rattle.std.proofs.Common.{◌≡◌, ◌≢◌, ℕ, ◌<◌, Bool, false, ◌||◌, eqb, leb, List, [], ◌∷◌, length, map, get_or, refl, sym, ap, ◌∙◌, subst, inl, inr, arith}
use Rattle.std.specs.Prelude.{◌⊎◌, codes}
use Rattle.std.proofs.lemmas.List.{same_lists, length-map, get_or-map, get_or_default}
use Rattle.std.proofs.lemmas.Bool.Decides.{nat_tests}
use Rattle.c_syntax.specs.Numbers as n
use Rattle.c_syntax.specs.Numbers.{lower, IsSuffix, is_digit_of, is_hex_digit, is_digit}

-- ---- letters that are a word in lower case

pub spelled : (letters word : List ℕ) → length letters ≡ length word → ((k : ℕ) → k < length letters → lower (get_or letters k 0) ≡ get_or word k 0) → map lower letters ≡ word
spelled letters word l each = same_lists (map lower letters) word (length-map letters lower ∙ l) (λ k d lt.
    let in' : k < length letters = omega (arith, length-map letters lower) in
    get_or-map lower letters k 0 d in' ∙ each k in' ∙ get_or_default word k 0 d (omega arith))

pub spelled_length : (letters word : List ℕ) → map lower letters ≡ word → length letters ≡ length word
spelled_length letters word e = sym (length-map letters lower) ∙ ap length e

pub spelled_at : (letters word : List ℕ) (k : ℕ) → k < length letters → map lower letters ≡ word → lower (get_or letters k 0) ≡ get_or word k 0
spelled_at letters word k lt e = sym (get_or-map lower letters k 0 0 lt) ∙ ap (λ (w : List ℕ). get_or w k 0) e

pub suffix_by : (w v : List ℕ) (u g : Bool) → w ≡ v → IsSuffix v u g → IsSuffix w u g
suffix_by w v u g e s = subst (λ (x : List ℕ). IsSuffix x u g) (sym e) s

pub suffix_none : {w : List ℕ} {u g : Bool} → IsSuffix w u g → w ≢ codes "" → w ≢ codes "u" → w ≢ codes "ll" → w ≢ codes "ull" → w ≢ codes "llu" → ⊥
suffix_none n.none a b c d e = a refl
suffix_none n.u a b c d e = b refl
suffix_none n.ll a b c d e = c refl
suffix_none n.ull a b c d e = d refl
suffix_none n.llu a b c d e = e refl

-- ---- what a suffix asks is told by its letters

asks_unsigned : List ℕ → Bool
asks_unsigned [] = false
asks_unsigned (b ∷ bs) = eqb b 117 || asks_unsigned bs

asks_long : List ℕ → Bool
asks_long w = leb 2 (length w)

suffix_unsigned : {w : List ℕ} {u g : Bool} → IsSuffix w u g → u ≡ asks_unsigned w
unfolding asks_unsigned
suffix_unsigned n.none = refl
suffix_unsigned n.u = refl
suffix_unsigned n.ll = refl
suffix_unsigned n.ull = refl
suffix_unsigned n.llu = refl

suffix_long : {w : List ℕ} {u g : Bool} → IsSuffix w u g → g ≡ asks_long w
unfolding asks_long
suffix_long n.none = refl
suffix_long n.u = refl
suffix_long n.ll = refl
suffix_long n.ull = refl
suffix_long n.llu = refl

pub same_unsigned : (w : List ℕ) (u g v h : Bool) → IsSuffix w u g → IsSuffix w v h → u ≡ v
same_unsigned w u g v h p q = suffix_unsigned p ∙ sym (suffix_unsigned q)

pub same_long : (w : List ℕ) (u g v h : Bool) → IsSuffix w u g → IsSuffix w v h → g ≡ h
same_long w u g v h p q = suffix_long p ∙ sym (suffix_long q)

-- ---- a suffix begins with no digit and no `x`

suffix_head : {w : List ℕ} {u g : Bool} → IsSuffix w u g → (w ≡ []) ⊎ ((get_or w 0 0 ≡ 117) ⊎ (get_or w 0 0 ≡ 108))
suffix_head n.none = inl refl
suffix_head n.u = inr (inl refl)
suffix_head n.ll = inr (inr refl)
suffix_head n.ull = inr (inl refl)
suffix_head n.llu = inr (inr refl)

u_is_no_digit : (b : ℕ) → lower b ≡ 117 → (is_hex_digit b ≡ false) × (b ≢ 120)
u_is_no_digit b e = (grind (arith, nat_tests), λ x. grind (arith, nat_tests))

l_is_no_digit : (b : ℕ) → lower b ≡ 108 → (is_hex_digit b ≡ false) × (b ≢ 120)
l_is_no_digit b e = (grind (arith, nat_tests), λ x. grind (arith, nat_tests))

pub suffix_begins : (letters : List ℕ) (u g : Bool) → IsSuffix (map lower letters) u g → (is_hex_digit (get_or letters 0 0) ≡ false) × (get_or letters 0 0 ≢ 120)
suffix_begins [] u g h = (refl, λ e. absurd (omega arith))
suffix_begins (b ∷ bs) u g h = elim (suffix_head h) [
  | inl e ↦ absurd cc
  | inr more ↦ elim more [ inl e ↦ u_is_no_digit b e | inr e ↦ l_is_no_digit b e ]
]

pub decimal_hex : (b : ℕ) → is_hex_digit b ≡ false → is_digit b ≡ false
decimal_hex b e = grind (arith, nat_tests)

pub suffix_ends : (base : n.Base) (letters : List ℕ) (u g : Bool) → IsSuffix (map lower letters) u g → is_digit_of base (get_or letters 0 0) ≡ false
suffix_ends n.Decimal letters u g h = decimal_hex (get_or letters 0 0) (suffix_begins letters u g h).0
suffix_ends n.Hexadecimal letters u g h = (suffix_begins letters u g h).0
