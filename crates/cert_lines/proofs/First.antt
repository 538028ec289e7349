-- What a part is by its first byte.
use Rattle.std.proofs.Common.{◌≡◌, ℕ, ◌+◌, ◌-◌, ◌*◌, ◌^◌, ◌<◌, ◌≤◌, pos, negsuc, Bool, true, false, cond, eqb, List, [], ◌∷◌, length, Some, None, arith, refl, sym, ap, ◌∙◌}
use Rattle.std.proofs.lemmas.Bool.{le-leb, lt-leb, ne_eqb}
use Rattle.std.proofs.lemmas.List.{nil_from_length}
use Rattle.std.specs.Prelude.{◌||◌}
use Rattle.std.specs.Char.{is_ascii_digit}
use Rattle.cert_lines.specs.Numerals.{◌>>=◌, at_most, digits_at, natural_at, number_at, literal_at}

-- ---- a number without a sign

pub natural_none : (most : ℕ) (bytes : List ℕ) → length bytes ≡ 0 → natural_at most bytes ≡ None
unfolding natural_at
natural_none most bytes h = rw (nil_from_length bytes h) refl

pub natural_zero : (most : ℕ) (bytes : List ℕ) (c : ℕ) (rest : List ℕ) → bytes ≡ c ∷ rest → c ≡ 48 → natural_at most bytes ≡ Some (0, rest)
unfolding natural_at
natural_zero most bytes c rest e is = rw (e, is) refl

pub natural_refused : (most : ℕ) (bytes : List ℕ) (c : ℕ) (rest : List ℕ) → bytes ≡ c ∷ rest → (c ≡ 48 → ⊥) → is_ascii_digit c ≡ false → natural_at most bytes ≡ None
unfolding natural_at
natural_refused most bytes c rest e is digit = rw (e, ne_eqb c 48 is, digit) refl

pub natural_digits : (most : ℕ) (bytes : List ℕ) (c : ℕ) (rest : List ℕ) → bytes ≡ c ∷ rest → (c ≡ 48 → ⊥) → is_ascii_digit c ≡ true → natural_at most bytes ≡ at_most most (digits_at 0 bytes)
unfolding natural_at
natural_digits most bytes c rest e is digit = rw (e, ne_eqb c 48 is, digit) refl

-- ---- a number that a rule takes

pub number_none : (bytes : List ℕ) → length bytes ≡ 0 → number_at bytes ≡ None
unfolding number_at
number_none bytes h = rw (nil_from_length bytes h) refl

pub number_plain : (bytes : List ℕ) (c : ℕ) (rest : List ℕ) → bytes ≡ c ∷ rest → (c ≡ 45 → ⊥) → number_at bytes ≡ (natural_at (2 ^ 127 - 1) bytes >>= λ x. Some (pos x.0, x.1))
unfolding number_at
number_plain bytes c rest e is = rw (e, ne_eqb c 45 is) refl

pub number_minus : (bytes : List ℕ) (c : ℕ) (rest : List ℕ) → bytes ≡ c ∷ rest → c ≡ 45 → number_at bytes ≡ (natural_at (2 ^ 127) rest >>= λ x. cond (eqb x.0 0) None (Some (negsuc (x.0 - 1), x.1)))
unfolding number_at
number_minus bytes c rest e is = rw (e, is) refl

-- ---- a literal

pub literal_none : (bytes : List ℕ) → length bytes ≡ 0 → literal_at bytes ≡ None
unfolding literal_at
literal_none bytes h = rw (nil_from_length bytes h) refl

pub literal_refused : (bytes : List ℕ) (c : ℕ) (rest : List ℕ) → bytes ≡ c ∷ rest → (c ≡ 43 → ⊥) → (c ≡ 45 → ⊥) → literal_at bytes ≡ None
unfolding literal_at
literal_refused bytes c rest e plus minus = rw (e, ne_eqb c 43 plus, ne_eqb c 45 minus) refl

pub literal_signed : (bytes : List ℕ) (c : ℕ) (rest : List ℕ) → bytes ≡ c ∷ rest → (eqb c 43 || eqb c 45) ≡ true
    → literal_at bytes ≡ (natural_at (2 ^ 32 - 1) rest >>= λ x. Some (record { term = x.0; positive = eqb c 43 }, x.1))
unfolding literal_at
literal_signed bytes c rest e signed = rw (e, signed) refl

-- ---- digits, as a loop reads them

-- the digits that follow never make a number smaller
digits_case : (b : Bool) (n : ℕ) (x y : ℕ × List ℕ) → n ≤ x.0 → n ≤ y.0 → n ≤ (cond b x y).0
digits_case true n x y h k = h
digits_case false n x y h k = k

pub digits_grow : (n : ℕ) (bytes : List ℕ) → n ≤ (digits_at n bytes).0
unfolding digits_at
digits_grow n [] = omega arith
digits_grow n (c ∷ rest) =
    let more = digits_grow (n * 10 + (c - 48)) rest in
    digits_case (is_ascii_digit c) n (digits_at (n * 10 + (c - 48)) rest) (n, c ∷ rest) (omega arith) (omega arith)

pub digits_more : (n m : ℕ) (bytes now : List ℕ) (c : ℕ) (rest : List ℕ) → now ≡ c ∷ rest → is_ascii_digit c ≡ true → m ≡ n * 10 + (c - 48) → digits_at n now ≡ digits_at 0 bytes → digits_at m rest ≡ digits_at 0 bytes
unfolding digits_at
digits_more n m bytes now c rest e digit is so_far =
    let one : digits_at n now ≡ digits_at m rest = rw (e, digit, is) refl in
    sym one ∙ so_far

kept : (most n : ℕ) (rest : List ℕ) → n ≤ most → at_most most (n, rest) ≡ Some (n, rest)
kept most n rest le = rw (le-leb n most le) refl

pub digits_stop : (most n : ℕ) (bytes now : List ℕ) (c : ℕ) (rest : List ℕ) → now ≡ c ∷ rest → is_ascii_digit c ≡ false → n ≤ most → digits_at n now ≡ digits_at 0 bytes → at_most most (digits_at 0 bytes) ≡ Some (n, now)
unfolding digits_at
digits_stop most n bytes now c rest e digit le so_far =
    let one : digits_at n now ≡ (n, now) = rw (e, digit) refl in
    ap (at_most most) (sym so_far ∙ one) ∙ kept most n now le

pub digits_end : (most n : ℕ) (bytes now : List ℕ) → length now ≡ 0 → n ≤ most → digits_at n now ≡ digits_at 0 bytes → at_most most (digits_at 0 bytes) ≡ Some (n, now)
unfolding digits_at
digits_end most n bytes now len le so_far =
    let one : digits_at n now ≡ (n, now) = rw (nil_from_length now len) refl in
    ap (at_most most) (sym so_far ∙ one) ∙ kept most n now le

past : (most : ℕ) (x : ℕ × List ℕ) → most < x.0 → at_most most x ≡ None
past most x lt = rw (lt-leb x.0 most lt) refl

pub digits_large : (most n : ℕ) (bytes now : List ℕ) (c : ℕ) (rest : List ℕ) → now ≡ c ∷ rest → is_ascii_digit c ≡ true → most < n * 10 + (c - 48) → digits_at n now ≡ digits_at 0 bytes → at_most most (digits_at 0 bytes) ≡ None
digits_large most n bytes now c rest e digit lt so_far =
    let is = digits_more n (n * 10 + (c - 48)) bytes now c rest e digit refl so_far in
    let grows = digits_grow (n * 10 + (c - 48)) rest in
    ap (at_most most) (sym is) ∙ past most (digits_at (n * 10 + (c - 48)) rest) (omega arith)
