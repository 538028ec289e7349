-- The number that stands first in a text.
use Rattle.std.proofs.Common.{◌≡◌, ℕ, ◌<◌, ◌≤◌, ◌+◌, ◌-◌, Bool, true, false, List, [], ◌∷◌, ◌++◌, length, get_or, take, drop, map, refl, sym, ap, ◌∙◌, subst, inl, inr, arith, add-zero, Option, Some}
use Rattle.std.specs.Prelude.{All, codes}
use Rattle.std.proofs.lemmas.Bool.{cases_lt}
use Rattle.std.proofs.lemmas.Bool.Decides.{nat_tests}
use Rattle.std.proofs.lemmas.List.{get_or-take, get_or-drop, get_or_past, length-take-le, length-take, length-drop, take-append-drop, take-take, drop-take, drop-drop, append_cancel_left, append_assoc}
use Rattle.std.proofs.lemmas.List.Elements.{All-from_get_or, All-head, All-tail}
use Rattle.int_ranges.specs.declared.ctype.CType.{CType}
use Rattle.c_syntax.specs.Numbers as n
use Rattle.c_syntax.specs.Numbers.{is_digit, is_hex_digit, is_letter, is_digit_of, lower, prefix, radix, HasShape, IsNumber, IsSuffix, HasNoLeadingZero, first_with, types_of}
use Rattle.c_syntax.specs.Tokens as t
use Rattle.c_syntax.specs.Tokens.{Word, IsToken, IsLexical, IsLongest, begins_name}
use Rattle.c_syntax.specs.Words.{keyword_text}
use Rattle.vcc_lexer.specs.First.{IsTaken}
use Rattle.vcc_lexer.specs.NumberTexts.{BeginsHexadecimal, HasRuns, HasCounts, Writes}
use Rattle.vcc_lexer.proofs.SignTables.{first_of}
use Rattle.vcc_lexer.proofs.Runs.{no_digit_zero}
use Rattle.vcc_lexer.proofs.Suffixes.{suffix_begins, suffix_ends, same_unsigned, same_long}
use Rattle.vcc_lexer.proofs.Forms as f
use Rattle.vcc_lexer.proofs.WordTables.{keyword_is_name}
use Rattle.vcc_lexer.proofs.Forms.{word_text, letter_begins, Form, form_of, Indexed, indexed, begins_hex, shape_digit}

-- ---- bytes

pub digit_no_name : (b : ℕ) → is_digit b ≡ true → begins_name b ≡ true → ⊥
digit_no_name b d h = grind (arith, nat_tests)

pub digit_no_slash : (b : ℕ) → is_digit b ≡ true → b ≡ 92 → ⊥
digit_no_slash b d h = grind (arith, nat_tests)

-- ---- the first bytes of a text

take_add : (a b : ℕ) (xs : List ℕ) → take (a + b) xs ≡ take a xs ++ take b (drop a xs)
take_add a b xs = sym (take-append-drop a (take (a + b) xs)) ∙ ap (λ (w : List ℕ). w ++ drop a (take (a + b) xs)) (take-take a (a + b) xs (omega arith)) ∙ ap (λ (w : List ℕ). take a xs ++ w) (drop-take a b xs)

all_between : (test : ℕ → Bool) (text : List ℕ) (from n : ℕ) → from + n ≤ length text → ((k : ℕ) → k < n → test (get_or text (from + k) 0) ≡ true) → All (λ b. test b ≡ true) (take n (drop from text))
all_between test text from n le all = All-from_get_or (λ b. test b ≡ true) (take n (drop from text)) 0 (λ i lt.
    let l : length (take n (drop from text)) ≡ n = length-take-le n (drop from text) (omega (arith, length-drop from text)) in
    ap test (get_or-take n (drop from text) i 0 (omega arith) ∙ get_or-drop from text i 0) ∙ all i (omega arith))

abbrev pub digits_in : n.Base → ℕ → List ℕ → List ℕ
digits_in base d text = take d (drop (length (prefix base)) text)

abbrev pub letters_in : n.Base → ℕ → ℕ → List ℕ → List ℕ
letters_in base d l text = take l (drop (length (prefix base) + d) text)

pub shape_taken : (base : n.Base) (d l : ℕ) (text : List ℕ) → HasCounts base d l text → HasShape base (digits_in base d text) (letters_in base d l text) (take (length (prefix base) + d + l) text)
shape_taken base d l text h =
    let p : ℕ = length (prefix base) in
    let len : length (drop p text) ≡ length text - p = length-drop p text in
    let count : length (digits_in base d text) ≡ d = length-take-le d (drop p text) (omega (arith, h.runs.within)) in
    record {
      whole = take_add (p + d) l text ∙ ap (λ (w : List ℕ). w ++ letters_in base d l text) (take_add p d text ∙ ap (λ (w : List ℕ). w ++ digits_in base d text) h.begins);
      some = omega (arith, h.some);
      all_digits = all_between (is_digit_of base) text p d (omega (arith, h.runs.within)) h.runs.digits;
      all_letters = all_between is_letter text (p + d) l h.runs.within h.runs.letters;
    }

-- ---- no longer front

same_base : (base : n.Base) (d l k m : ℕ) (text : List ℕ) → HasRuns base d l text → length (prefix base) + d + l < m → m ≤ length text → Indexed base k (take m text) → ⊥
same_base base d l k m text runs lt le h =
    let p : ℕ = length (prefix base) in
    let len : length (take m text) ≡ m = length-take-le m text le in
    elim (cases_lt d k) [
      | inl more ↦
          let at : is_digit_of base (get_or text (p + d) 0) ≡ true = ap (is_digit_of base) (sym (get_or-take m text (p + d) 0 (omega arith))) ∙ h.digit (p + d) (omega arith) (omega arith) in
          let ends = runs.digits_end in
          absurd cc
      | inr less ↦
          let at : is_letter (get_or text (p + d + l) 0) ≡ true = ap is_letter (sym (get_or-take m text (p + d + l) 0 lt)) ∙ h.letter (p + d + l) (omega arith) (omega arith) in
          let ends = runs.letters_end in
          absurd cc
    ]

-- behind a hexadecimal number no decimal shape goes on
hex_decimal : (d l k m : ℕ) (text : List ℕ) → HasRuns n.Hexadecimal d l text → get_or text 1 0 ≡ 120 → 2 + d + l < m → m ≤ length text → Indexed n.Decimal k (take m text) → ⊥
hex_decimal d l k m text runs x lt le h =
    let len : length (take m text) ≡ m = length-take-le m text le in
    elim (cases_lt 1 k) [
      | inl more ↦
          let at : is_digit 120 ≡ true = ap is_digit (sym (get_or-take m text 1 0 (omega arith) ∙ x)) ∙ h.digit 1 (omega arith) (omega arith) in
          absurd cc
      | inr less ↦
          let at : is_letter (get_or text (2 + d + l) 0) ≡ true = ap is_letter (sym (get_or-take m text (2 + d + l) 0 lt)) ∙ h.letter (2 + d + l) (omega arith) (omega arith) in
          let ends = runs.letters_end in
          absurd cc
    ]

hex_front : (m : ℕ) (text : List ℕ) → 2 < m → BeginsHexadecimal (take m text) → BeginsHexadecimal text
hex_front m text lt h = record {
  zero = sym (get_or-take m text 0 0 (omega arith)) ∙ h.zero;
  x = sym (get_or-take m text 1 0 (omega arith)) ∙ h.x;
  digit = ap is_hex_digit (sym (get_or-take m text 2 0 lt)) ∙ h.digit;
}

second_is_x : (text : List ℕ) → take 2 text ≡ codes "0x" → get_or text 1 0 ≡ 120
second_is_x text e = sym (get_or-take 2 text 1 0 (omega arith)) ∙ ap (λ (w : List ℕ). get_or w 1 0) e

no_longer_shape : (base other : n.Base) (d l m : ℕ) (digits letters text : List ℕ) → HasCounts base d l text → length (prefix base) + d + l < m → m ≤ length text → HasShape other digits letters (take m text) → ⊥
no_longer_shape n.Decimal n.Decimal d l m digits letters text h lt le s = same_base n.Decimal d l (length digits) m text h.runs lt le (indexed n.Decimal digits letters (take m text) s)
no_longer_shape n.Hexadecimal n.Hexadecimal d l m digits letters text h lt le s = same_base n.Hexadecimal d l (length digits) m text h.runs lt le (indexed n.Hexadecimal digits letters (take m text) s)
no_longer_shape n.Decimal n.Hexadecimal d l m digits letters text h lt le s =
    let i = indexed n.Hexadecimal digits letters (take m text) s in
    let len : length (take m text) ≡ m = length-take-le m text le in
    h.decimal refl (hex_front m text (omega (arith, i.some, i.within)) (begins_hex digits letters (take m text) s))
no_longer_shape n.Hexadecimal n.Decimal d l m digits letters text h lt le s = hex_decimal d l (length digits) m text h.runs (second_is_x text h.begins) lt le (indexed n.Decimal digits letters (take m text) s)

pub number_longest : (base : n.Base) (d l : ℕ) (text : List ℕ) → HasCounts base d l text → IsLongest text (length (prefix base) + d + l)
number_longest base d l text h = record { within = h.runs.within; is = inr (base, digits_in base d text, letters_in base d l text, shape_taken base d l text h); longest = λ m lt le x. go m lt le (form_of (take m text) x) }
  where
    head : is_digit (get_or text 0 0) ≡ true
    head = ap is_digit (sym (get_or-take (length (prefix base) + d + l) text 0 0 (omega (arith, h.some)))) ∙ shape_digit base (digits_in base d text) (letters_in base d l text) (take (length (prefix base) + d + l) text) (shape_taken base d l text h)

    at : (m : ℕ) → 0 < m → is_digit (get_or (take m text) 0 0) ≡ true
    at m pos = ap is_digit (get_or-take m text 0 0 pos) ∙ head

    go : (m : ℕ) → length (prefix base) + d + l < m → m ≤ length text → Form (take m text) → ⊥
    go m lt le (f.named b all some) = digit_no_name (get_or (take m text) 0 0) (at m (omega arith)) b
    go m lt le (f.spec b letter some all) = digit_no_slash (get_or (take m text) 0 0) (at m (omega arith)) b
    go m lt le (f.mark x e) = let a : is_digit (get_or (take m text) 0 0) ≡ false = ap (λ (w : List ℕ). is_digit (get_or w 0 0)) e ∙ (first_of x).digit in let b = at m (omega arith) in absurd cc
    go m lt le (f.shape other digits letters s) = no_longer_shape base other d l m digits letters text h lt le s

-- ---- the parts of a number

split_unique : (test : ℕ → Bool) (a b c d : List ℕ) → a ++ b ≡ c ++ d → All (λ x. test x ≡ true) a → All (λ x. test x ≡ true) c → test (get_or b 0 0) ≡ false → test (get_or d 0 0) ≡ false → (a ≡ c) × (b ≡ d)
split_unique test [] b [] d e ha hc hb hd = (refl, e)
split_unique test [] b (y ∷ c) d e ha hc hb hd =
    let at : test (get_or b 0 0) ≡ true = ap (λ (w : List ℕ). test (get_or w 0 0)) e ∙ All-head (λ x. test x ≡ true) y c hc in
    absurd cc
split_unique test (x ∷ a) b [] d e ha hc hb hd =
    let at : test (get_or d 0 0) ≡ true = ap (λ (w : List ℕ). test (get_or w 0 0)) (sym e) ∙ All-head (λ x. test x ≡ true) x a ha in
    absurd cc
split_unique test (x ∷ a) b (y ∷ c) d e ha hc hb hd =
    let first : x ≡ y = cc in
    let rest : a ++ b ≡ c ++ d = cc in
    let s = split_unique test a b c d rest (All-tail (λ x. test x ≡ true) x a ha) (All-tail (λ x. test x ≡ true) y c hc) hb hd in
    let s0 = s.0 in
    (cc, s.1)

-- the parts are those of the other
pub record SameParts (base other : n.Base) (digits letters digits' letters' : List ℕ) : Type 0 where
  pub is_base : other ≡ base
  pub is_digits : digits' ≡ digits
  pub is_letters : letters' ≡ letters

alike : (base : n.Base) (text digits letters digits' letters' : List ℕ) → HasShape base digits letters text → HasShape base digits' letters' text → is_digit_of base (get_or letters 0 0) ≡ false → is_digit_of base (get_or letters' 0 0) ≡ false → SameParts base base digits letters digits' letters'
alike base text digits letters digits' letters' p q ends ends' =
    let e : digits' ++ letters' ≡ digits ++ letters = append_cancel_left (prefix base) (digits' ++ letters') (digits ++ letters) (sym (append_assoc (prefix base) digits' letters') ∙ sym q.whole ∙ p.whole ∙ append_assoc (prefix base) digits letters) in
    let s = split_unique (is_digit_of base) digits' letters' digits letters e q.all_digits p.all_digits ends' ends in
    record { is_base = refl; is_digits = s.0; is_letters = s.1 }

-- a decimal number with a suffix doesn't begin as a hexadecimal one
suffix_no_hex : (text digits letters : List ℕ) (u g : Bool) → HasShape n.Decimal digits letters text → IsSuffix (map lower letters) u g → BeginsHexadecimal text → ⊥
suffix_no_hex text [] letters u g h s hex = absurd (omega (arith, h.some))
suffix_no_hex text (a ∷ []) letters u g h s hex = (suffix_begins letters u g s).1 (sym (ap (λ (w : List ℕ). get_or w 1 0) h.whole) ∙ hex.x)
suffix_no_hex text (a ∷ b ∷ digits) letters u g h s hex =
    let at : is_digit 120 ≡ true = ap is_digit (sym hex.x ∙ ap (λ (w : List ℕ). get_or w 1 0) h.whole) ∙ h.all_digits 1 0 (omega arith) in
    absurd cc

pub same_parts : (base other : n.Base) (text digits letters digits' letters' : List ℕ) (u g : Bool) → HasShape base digits letters text → HasShape other digits' letters' text → is_digit_of base (get_or letters 0 0) ≡ false → (base ≡ n.Decimal → BeginsHexadecimal text → ⊥) → IsSuffix (map lower letters') u g → SameParts base other digits letters digits' letters'
same_parts n.Decimal n.Decimal text digits letters digits' letters' u g p q ends decimal s = alike n.Decimal text digits letters digits' letters' p q ends (suffix_ends n.Decimal letters' u g s)
same_parts n.Hexadecimal n.Hexadecimal text digits letters digits' letters' u g p q ends decimal s = alike n.Hexadecimal text digits letters digits' letters' p q ends (suffix_ends n.Hexadecimal letters' u g s)
same_parts n.Decimal n.Hexadecimal text digits letters digits' letters' u g p q ends decimal s = absurd (decimal refl (begins_hex digits' letters' text q))
same_parts n.Hexadecimal n.Decimal text digits letters digits' letters' u g p q ends decimal s = absurd (suffix_no_hex text digits' letters' u g q s (begins_hex digits letters text p))

writes : (text : List ℕ) (v : ℕ) (ty : CType) → (x : IsNumber text v ty) → Writes x.base x.digits x.letters v ty
writes text v ty x = record { zero = x.zero; unsigned = x.unsigned; long = x.long; suffix = x.suffix; is = x.is; type = x.type }

moved : (base other : n.Base) (digits letters digits' letters' : List ℕ) (v : ℕ) (ty : CType) → SameParts base other digits letters digits' letters' → Writes other digits' letters' v ty → Writes base digits letters v ty
moved base other digits letters digits' letters' v ty s w =
    let a : Writes base digits' letters' v ty = subst (λ b. Writes b digits' letters' v ty) s.is_base w in
    let b : Writes base digits letters' v ty = subst (λ (x : List ℕ). Writes base x letters' v ty) s.is_digits a in
    subst (λ (x : List ℕ). Writes base digits x v ty) s.is_letters b

number_of : (base : n.Base) (digits letters text : List ℕ) (v : ℕ) (ty : CType) → HasShape base digits letters text → Writes base digits letters v ty → IsNumber text v ty
number_of base digits letters text v ty s w = record { base = base; digits = digits; letters = letters; shape = s; zero = w.zero; unsigned = w.unsigned; long = w.long; suffix = w.suffix; is = w.is; type = w.type }

some_types : (x y : Option CType) (a b : CType) → x ≡ y → x ≡ Some a → y ≡ Some b → a ≡ b
some_types x y a b e p q = let s : Some a ≡ Some b = sym p ∙ e ∙ q in cc

writes_once : (base : n.Base) (digits letters : List ℕ) (v w : ℕ) (a b : CType) → Writes base digits letters v a → Writes base digits letters w b → (v ≡ w) × (a ≡ b)
writes_once base digits letters v w a b p q =
    let e : v ≡ w = p.is ∙ sym q.is in
    let f : types_of base p.unsigned p.long ≡ types_of base q.unsigned q.long = ap (λ u. types_of base u p.long) (same_unsigned (map lower letters) p.unsigned p.long q.unsigned q.long p.suffix q.suffix) ∙ ap (λ g. types_of base q.unsigned g) (same_long (map lower letters) p.unsigned p.long q.unsigned q.long p.suffix q.suffix) in
    (e, some_types (first_with v (types_of base p.unsigned p.long)) (first_with w (types_of base q.unsigned q.long)) a b (ap (λ x. first_with x (types_of base p.unsigned p.long)) e ∙ ap (λ (ts : List CType). first_with w ts) f) p.type q.type)

pub same_number : (text : List ℕ) (v w : ℕ) (a b : CType) → IsNumber text v a → IsNumber text w b → (v ≡ w) × (a ≡ b)
same_number text v w a b x y =
    let s = same_parts x.base y.base text x.digits x.letters y.digits y.letters y.unsigned y.long x.shape y.shape (suffix_ends x.base x.letters x.unsigned x.long x.suffix) (λ e hex. suffix_no_hex text x.digits x.letters x.unsigned x.long (subst (λ z. HasShape z x.digits x.letters text) e x.shape) x.suffix hex) y.suffix in
    writes_once x.base x.digits x.letters v w a b (writes text v a x) (moved x.base y.base x.digits x.letters y.digits y.letters w b s (writes text w b y))

-- ---- what the code finds

letters_end : (base : n.Base) (d l : ℕ) (text : List ℕ) → HasRuns base d l text → is_digit_of base (get_or (letters_in base d l text) 0 0) ≡ false
letters_end base d l text h =
    let p : ℕ = length (prefix base) in
    elim (cases_lt 0 l) [
      | inl pos ↦ ap (is_digit_of base) (get_or-take l (drop (p + d) text) 0 0 pos ∙ get_or-drop (p + d) text 0 0 ∙ ap (λ k. get_or text k 0) (add-zero (p + d))) ∙ h.digits_end
      | inr none ↦ ap (is_digit_of base) (get_or_past (letters_in base d l text) 0 0 (omega (arith, length-take l (drop (p + d) text)))) ∙ no_digit_zero base
    ]

pub number_writes : (base : n.Base) (d l : ℕ) (text : List ℕ) (v : ℕ) (ty : CType) → HasCounts base d l text → IsNumber (take (length (prefix base) + d + l) text) v ty → Writes base (digits_in base d text) (letters_in base d l text) v ty
number_writes base d l text v ty h x =
    let n' : ℕ = length (prefix base) + d + l in
    let s = same_parts base x.base (take n' text) (digits_in base d text) (letters_in base d l text) x.digits x.letters x.unsigned x.long (shape_taken base d l text h) x.shape (letters_end base d l text h.runs) (λ e hex. h.decimal e (go hex)) x.suffix in
    moved base x.base (digits_in base d text) (letters_in base d l text) x.digits x.letters v ty s (writes (take n' text) v ty x)
  where
    go : BeginsHexadecimal (take (length (prefix base) + d + l) text) → BeginsHexadecimal text
    go hex = hex_front (length (prefix base) + d + l) text (elim (cases_lt 2 (length (prefix base) + d + l)) [ inl lt ↦ lt | inr le ↦ absurd (short le) ]) hex
      where
        short : length (prefix base) + d + l ≤ 2 → ⊥
        short le = let at : is_hex_digit 0 ≡ true = ap is_hex_digit (sym (get_or_past (take (length (prefix base) + d + l) text) 2 0 (omega (arith, length-take (length (prefix base) + d + l) text)))) ∙ hex.digit in absurd cc

pub number_taken : (base : n.Base) (d l : ℕ) (text : List ℕ) (v : ℕ) (ty : CType) → HasCounts base d l text → Writes base (digits_in base d text) (letters_in base d l text) v ty → IsTaken text (t.Number v ty) (length (prefix base) + d + l)
number_taken base d l text v ty h w = record { longest = number_longest base d l text h; is = number_of base (digits_in base d text) (letters_in base d l text) (take (length (prefix base) + d + l) text) v ty (shape_taken base d l text h) w }

-- a token that begins with a digit is a number
pub digit_token : (word : Word) (text : List ℕ) → is_digit (get_or text 0 0) ≡ true → IsToken word text → (v : ℕ) × (ty : CType) × IsNumber text v ty
digit_token (t.Name name) text d h = absurd (digit_no_name (get_or text 0 0) d h.1.begins)
digit_token (t.Key k) text d h = absurd (digit_no_name (get_or text 0 0) d (ap (λ (w : List ℕ). begins_name (get_or w 0 0)) h ∙ letter_begins (get_or (keyword_text k) 0 0) (word_text (keyword_text k) (keyword_is_name k)).letter))
digit_token (t.Spec w) text d h = absurd (digit_no_slash (get_or text 0 0) d (ap (λ (w : List ℕ). get_or w 0 0) h))
digit_token t.OtherSpec text d h = absurd (digit_no_slash (get_or text 0 0) d (ap (λ (w : List ℕ). get_or w 0 0) h.1.whole))
digit_token (t.Number v ty) text d h = (v, ty, h)
digit_token (t.Mark x) text d h = let a : is_digit (get_or text 0 0) ≡ false = ap (λ (w : List ℕ). is_digit (get_or w 0 0)) h ∙ (first_of x).digit in absurd cc
digit_token t.End text d h = absurd h

pub number_refused : (base : n.Base) (d l : ℕ) (text : List ℕ) → HasCounts base d l text → ((v : ℕ) (ty : CType) → Writes base (digits_in base d text) (letters_in base d l text) v ty → ⊥) → (n : ℕ) × IsLongest text n × ((word : Word) → IsToken word (take n text) → ⊥)
number_refused base d l text h none = (
  length (prefix base) + d + l,
  number_longest base d l text h,
  λ word x.
      let s = shape_taken base d l text h in
      let found = digit_token word (take (length (prefix base) + d + l) text) (shape_digit base (digits_in base d text) (letters_in base d l text) (take (length (prefix base) + d + l) text) s) x in
      none found.0 found.1 (number_writes base d l text found.0 found.1 h found.2),
)

-- ---- the same, with the parts as the code cuts them

pub digits_cut : (base : n.Base) (d p : ℕ) (text place_after digits : List ℕ) → p ≡ length (prefix base) → place_after ≡ drop p text → digits ≡ take d place_after → digits ≡ digits_in base d text
digits_cut base d p text place_after digits e b c = c ∙ ap (λ (w : List ℕ). take d w) (b ∙ ap (λ k. drop k text) e)

pub letters_cut : (base : n.Base) (d l p : ℕ) (text place_after rest letters : List ℕ) → p ≡ length (prefix base) → place_after ≡ drop p text → rest ≡ drop d place_after → letters ≡ take l rest → letters ≡ letters_in base d l text
letters_cut base d l p text place_after rest letters e b r c = c ∙ ap (λ (w : List ℕ). take l w) (r ∙ ap (λ (w : List ℕ). drop d w) (b ∙ ap (λ k. drop k text) e) ∙ drop-drop d (length (prefix base)) text)

pub writes_cut : (base : n.Base) (digits letters digits' letters' : List ℕ) (v : ℕ) (ty : CType) → digits ≡ digits' → letters ≡ letters' → Writes base digits letters v ty → Writes base digits' letters' v ty
writes_cut base digits letters digits' letters' v ty e f w = subst (λ (x : List ℕ). Writes base digits' x v ty) f (subst (λ (x : List ℕ). Writes base x letters v ty) e w)
