-- What is read of a number without a sign is its text, and its text is read again.
use Rattle.std.proofs.Common.{◌≡◌, ℕ, ◌+◌, ◌-◌, ◌*◌, ◌/◌, ◌%◌, ◌^◌, ◌<◌, ◌≤◌, true, false, leb, List, [], ◌∷◌, ◌++◌, Option, Some, None, arith, refl, sym, ap, subst, ◌∙◌, inl, inr, append_assoc}
use Rattle.std.proofs.lemmas.Bool.{le-leb, leb-true, cases_Bool, cases_eq}
use Rattle.std.proofs.lemmas.Bool.Decides.{nat_tests}
use Rattle.std.proofs.lemmas.Fmt.{decimal_digit, decimal_step_wide, decimal_by_steps_wide}
use Rattle.std.proofs.lemmas.Option.{cond_some}
use Rattle.std.specs.Prelude.{decimal}
use Rattle.std.specs.Char.{is_ascii_digit}
use Rattle.cert_lines.specs.Numerals.{◌>>=◌, at_most, digits_at, natural_at}
use Rattle.cert_lines.proofs.First.{digits_grow, natural_zero, natural_refused, natural_digits}

abbrev some : {A : Type 0} → A → Option A
some x = Some x

pub some_is : {A : Type 0} (x y : A) → some x ≡ some y → x ≡ y
some_is x y e = cc

-- the value of a step that found something
pub bind_some : {A B : Type 0} (o : Option A) (f : A → Option B) (y : B) → (o >>= f) ≡ Some y → (x : A) × (o ≡ Some x) × (f x ≡ Some y)
bind_some (Some x) f y e = (x, refl, e)
bind_some None f y e = absurd cc

-- ---- digits

pub digit_least : (c : ℕ) → is_ascii_digit c ≡ true → 48 ≤ c
digit_least c h = grind (arith, nat_tests)

pub digit_greatest : (c : ℕ) → is_ascii_digit c ≡ true → c ≤ 57
digit_greatest c h = grind (arith, nat_tests)

pub digit_from : (d : ℕ) → d < 10 → is_ascii_digit (48 + d) ≡ true
digit_from d h = grind (arith, nat_tests)

one_more : (n c : ℕ) (rest : List ℕ) → is_ascii_digit c ≡ true → digits_at n (c ∷ rest) ≡ digits_at (n * 10 + (c - 48)) rest
unfolding digits_at
one_more n c rest h = rw h refl

none_more : (n c : ℕ) (rest : List ℕ) → is_ascii_digit c ≡ false → digits_at n (c ∷ rest) ≡ (n, c ∷ rest)
unfolding digits_at
none_more n c rest h = rw h refl

tenth : (n d : ℕ) → d < 10 → (n * 10 + d) / 10 ≡ n
tenth n d lt = omega arith

last : (n d : ℕ) → d < 10 → (n * 10 + d) % 10 ≡ d
last n d lt = omega arith

with_last : (n c : ℕ) → 0 < n → 48 ≤ c → c ≤ 57 → n * 10 + (c - 48) < 10 ^ 64 → decimal (n * 10 + (c - 48)) ≡ decimal n ++ (c ∷ [])
with_last n c above low high small =
    let d : c - 48 < 10 = omega arith in
    let is : 48 + (c - 48) ≡ c = omega arith in
    decimal_step_wide (n * 10 + (c - 48)) (omega arith) small ∙ rw (tenth n (c - 48) d, last n (c - 48) d, is) refl

pub digits_take : (n : ℕ) (bytes : List ℕ) → 0 < n → (digits_at n bytes).0 < 10 ^ 64 → decimal n ++ bytes ≡ decimal (digits_at n bytes).0 ++ (digits_at n bytes).1
unfolding digits_at
digits_take n [] above small = refl
digits_take n (c ∷ rest) above small =
    elim (cases_Bool (is_ascii_digit c)) [
      | inl digit ↦
          let m : ℕ = n * 10 + (c - 48) in
          let one = one_more n c rest digit in
          let small-m : (digits_at m rest).0 < 10 ^ 64 = subst (λ (x : ℕ × List ℕ). x.0 < 10 ^ 64) one small in
          let text = with_last n c above (digit_least c digit) (digit_greatest c digit) (omega (arith, digits_grow m rest)) in
          let so : decimal m ++ rest ≡ decimal n ++ (c ∷ rest) = ap (λ (t : List ℕ). t ++ rest) text ∙ append_assoc (decimal n) (c ∷ []) rest in
          sym so ∙ digits_take m rest (omega arith) small-m ∙ ap (λ (x : ℕ × List ℕ). decimal x.0 ++ x.1) (sym one)
      | inr other ↦ sym (ap (λ (x : ℕ × List ℕ). decimal x.0 ++ x.1) (none_more n c rest other))
    ]

-- no digit stands first
abbrev pub Stops : List ℕ → Type 0
Stops [] = Unit {0}
Stops (c ∷ rest) = is_ascii_digit c ≡ false

stopped : (n : ℕ) (rest : List ℕ) → Stops rest → digits_at n rest ≡ (n, rest)
unfolding digits_at
stopped n [] h = refl
stopped n (c ∷ rest) h = none_more n c rest h

-- ---- a number without a sign

pub natural_takes : (most : ℕ) (bytes : List ℕ) (x : ℕ × List ℕ) → most < 10 ^ 63 → natural_at most bytes ≡ Some x → (bytes ≡ decimal x.0 ++ x.1) × (x.0 ≤ most)
unfolding natural_at
natural_takes most [] x wide e = absurd cc
natural_takes most (c ∷ rest) x wide e =
    elim (cases_eq c 48) [
      | inl is ↦
          let zero-is = some_is (0, rest) x (sym (natural_zero most (c ∷ rest) c rest refl is) ∙ e) in
          subst (λ (y : ℕ × List ℕ). ((c ∷ rest) ≡ decimal y.0 ++ y.1) × (y.0 ≤ most)) zero-is (rw (is, decimal_digit 0 (omega arith)) refl, omega arith)
      | inr other ↦ elim (cases_Bool (is_ascii_digit c)) [
        | inl digit ↦
            let g = cond_some (leb (digits_at 0 (c ∷ rest)).0 most) (digits_at 0 (c ∷ rest)) x (sym (natural_digits most (c ∷ rest) c rest refl other digit) ∙ e) in
            let least = digit_least c digit in
            let greatest = digit_greatest c digit in
            let n : ℕ = 0 * 10 + (c - 48) in
            let one : digits_at n rest ≡ x = sym (one_more 0 c rest digit) ∙ g.1 in
            let le : (digits_at 0 (c ∷ rest)).0 ≤ most = leb-true _ _ g.0 in
            let small : x.0 ≤ most = subst (λ (y : ℕ × List ℕ). y.0 ≤ most) g.1 le in
            let small-n : (digits_at n rest).0 < 10 ^ 64 = subst (λ (y : ℕ × List ℕ). y.0 < 10 ^ 64) (sym one) (omega arith) in
            let is : 48 + n ≡ c = omega arith in
            let first : c ∷ rest ≡ decimal n ++ rest = rw (decimal_digit n (omega arith), is) refl in
            (first ∙ digits_take n rest (omega arith) small-n ∙ ap (λ (y : ℕ × List ℕ). decimal y.0 ++ y.1) one, small)
        | inr no_digit ↦ absurd (let none = natural_refused most (c ∷ rest) c rest refl other no_digit in cc)
      ]
    ]

abbrev Begins : ℕ → ℕ → List ℕ → Type 0
Begins most n ds = 0 < n → (rest : List ℕ) → natural_at most (ds ++ rest) ≡ at_most most (digits_at n rest)

first_digit : (most n : ℕ) → n < 10 → Begins most n ((48 + n) ∷ [])
first_digit most n small above rest =
    let digit = digit_from n small in
    let is : 0 * 10 + (48 + n - 48) ≡ n = omega arith in
    natural_digits most ((48 + n) ∷ rest) (48 + n) rest refl (λ e. omega arith) digit ∙ ap (at_most most) (one_more 0 (48 + n) rest digit ∙ ap (λ (m : ℕ). digits_at m rest) is)

next_digit : (most n : ℕ) (ds : List ℕ) → 10 ≤ n → Begins most (n / 10) ds → Begins most n (ds ++ ((48 + n % 10) ∷ []))
next_digit most n ds large before above rest =
    let d : n % 10 < 10 = omega arith in
    let is : n / 10 * 10 + (48 + n % 10 - 48) ≡ n = omega arith in
    ap (natural_at most) (append_assoc ds ((48 + n % 10) ∷ []) rest) ∙ before (omega arith) ((48 + n % 10) ∷ rest) ∙ ap (at_most most) (one_more (n / 10) (48 + n % 10) rest (digit_from (n % 10) d) ∙ ap (λ (m : ℕ). digits_at m rest) is)

pub natural_again : (most n : ℕ) (rest : List ℕ) → most < 10 ^ 63 → n ≤ most → Stops rest → natural_at most (decimal n ++ rest) ≡ Some (n, rest)
natural_again most n rest wide le stops =
    elim (cases_eq n 0) [
      | inl is ↦ rw (is, decimal_digit 0 (omega arith)) (natural_zero most (48 ∷ rest) 48 rest refl refl)
      | inr other ↦
          decimal_by_steps_wide (Begins most) (first_digit most) (next_digit most) n (omega arith) (omega arith) rest ∙ ap (at_most most) (stopped n rest stops) ∙ rw (le-leb n most le) refl
    ]
