-- Runs of digits and letters at the front of a text.
use Rattle.std.proofs.Common.{◌≡◌, ℕ, ◌<◌, ◌≤◌, ◌+◌, ◌-◌, true, false, List, length, get_or, drop, refl, sym, ap, ◌∙◌, arith, inl, inr, add_assoc}
use Rattle.std.proofs.lemmas.Bool.{cases_lt}
use Rattle.std.proofs.lemmas.List.{get_or-drop, get_or_past, length-drop}
use Rattle.c_syntax.specs.Numbers as n
use Rattle.c_syntax.specs.Numbers.{is_digit_of, is_letter, prefix}
use Rattle.vcc_lexer.specs.Classes.{is_in}
use Rattle.vcc_lexer.specs.declared.bytes.Class.{Class}
use Rattle.vcc_lexer.specs.declared.bytes.Class.TheVariants as c
use Rattle.vcc_lexer.specs.NumberTexts.{HasRuns}

-- n bytes of the class stand first, no more
pub record IsRun (class : Class) (text : List ℕ) (n : ℕ) : Type 0 where
  pub within : n ≤ length text
  pub all : (k : ℕ) → k < n → is_in class (get_or text k 0) ≡ true
  pub ends : n < length text → is_in class (get_or text n 0) ≡ false

-- behind the end stands no byte of such a class
pub stops : (class : Class) (text : List ℕ) (n : ℕ) → is_in class 0 ≡ false → IsRun class text n → is_in class (get_or text n 0) ≡ false
stops class text n zero run = elim (cases_lt n (length text)) [ inl lt ↦ run.ends lt | inr le ↦ ap (is_in class) (get_or_past text n 0 le) ∙ zero ]

pub no_digit_zero : (base : n.Base) → is_digit_of base 0 ≡ false
no_digit_zero n.Decimal = refl
no_digit_zero n.Hexadecimal = refl

pub runs_from : (base : n.Base) (text : List ℕ) (p d l : ℕ) (class : Class) → p ≡ length (prefix base) → p ≤ length text → ((b : ℕ) → is_in class b ≡ is_digit_of base b) → (place_after rest : List ℕ) → place_after ≡ drop p text → rest ≡ drop d place_after → IsRun class place_after d → IsRun c.Letter rest l → HasRuns base d l text
runs_from base text p d l class e le tests place_after rest is_behind is_rest digits letters =
    let len : length place_after ≡ length text - p = ap length is_behind ∙ length-drop p text in
    let more : length rest ≡ length place_after - d = ap length is_rest ∙ length-drop d place_after in
    let at : (k : ℕ) → get_or place_after k 0 ≡ get_or text (length (prefix base) + k) 0 = λ (k : ℕ). ap (λ (w : List ℕ). get_or w k 0) is_behind ∙ get_or-drop p text k 0 ∙ ap (λ q. get_or text (q + k) 0) e in
    let past : (k : ℕ) → get_or rest k 0 ≡ get_or text (length (prefix base) + d + k) 0 = λ (k : ℕ). ap (λ (w : List ℕ). get_or w k 0) is_rest ∙ get_or-drop d place_after k 0 ∙ at (d + k) ∙ ap (λ q. get_or text q 0) (sym (add_assoc (length (prefix base)) d k)) in
    record {
      within = omega (arith, digits.within, letters.within);
      digits = λ k lt. ap (is_digit_of base) (sym (at k)) ∙ sym (tests (get_or place_after k 0)) ∙ digits.all k lt;
      digits_end = ap (is_digit_of base) (sym (at d)) ∙ sym (tests (get_or place_after d 0)) ∙ stops class place_after d (tests 0 ∙ no_digit_zero base) digits;
      letters = λ k lt. ap is_letter (sym (past k)) ∙ letters.all k lt;
      letters_end = ap is_letter (sym (past l)) ∙ stops c.Letter rest l refl letters;
    }
