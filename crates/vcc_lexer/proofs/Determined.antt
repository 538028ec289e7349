-- There is one token first, and one way to skip: what a text is can be read in one way only.
use Rattle.std.proofs.Common.{◌≡◌, ◌≢◌, ℕ, suc, ◌<◌, ◌+◌, true, List, [], ◌∷◌, ◌++◌, length, get_or, take, drop, refl, sym, ap, ◌∙◌, subst, inl, inr, arith}
use Rattle.std.specs.Prelude.{All, codes, if◌then◌else◌, ◌==◌}
use Rattle.std.proofs.lemmas.Bool.{cases_lt}
use Rattle.std.proofs.lemmas.Bool.Decides.{nat_tests}
use Rattle.std.proofs.lemmas.List.{get_or_past, length-take, get_or-take, length-append, get_or_append_left, append_assoc}
use Rattle.std.proofs.lemmas.List.Elements.{All-get_or, All-head, All-tail}
use Rattle.c_syntax.specs.declared.token.Sign.{Sign}
use Rattle.c_syntax.specs.declared.token.Sign.TheVariants as s
use Rattle.c_syntax.specs.Words.{keyword_text, spec_word_text, sign_text}
use Rattle.c_syntax.specs.Numbers.{is_digit}
use Rattle.c_syntax.specs.Tokens as t
use Rattle.c_syntax.specs.Tokens.{Word, IsToken, IsLexical, IsLongest, begins_name, is_name_byte}
use Rattle.c_syntax.specs.Lexing as l
use Rattle.c_syntax.specs.Lexing.{Position, Skips, HasNoEnd, EndsLine, BeginsComment, IsFirst}
use Rattle.vcc_lexer.specs.Gaps.{IsBlank}
use Rattle.vcc_lexer.proofs.WordTables.{same_keyword, same_spec_word, keyword_is_name}
use Rattle.vcc_lexer.proofs.SignTables.{same_sign, first_of}
use Rattle.vcc_lexer.proofs.Forms as f
use Rattle.vcc_lexer.proofs.Forms.{Form, form_of, shape_digit, shape_some, word_text, letter_begins}
use Rattle.vcc_lexer.proofs.Shapes.{same_number}
use Rattle.vcc_lexer.proofs.Skipping.{end_at, cut, blank_past}

-- ---- one token

-- the kind of a token by its first two bytes: a name, a spec word, a number, a sign
group_at : ℕ → ℕ → ℕ
group_at a b = if a == 92 then 1 else if is_digit a then 2 else if begins_name a then (if b == 40 then 3 else 0) else 3

group : Word → ℕ
group (t.Name x) = 0
group (t.Key x) = 0
group (t.Spec x) = 1
group t.OtherSpec = 1
group (t.Number v ty) = 2
group (t.Mark x) = 3
group t.End = 4

name_group : (a b : ℕ) → begins_name a ≡ true → b ≢ 40 → group_at a b ≡ 0
unfolding group_at
name_group a b h e = grind (arith, nat_tests)

digit_group : (a b : ℕ) → is_digit a ≡ true → group_at a b ≡ 2
unfolding group_at
digit_group a b h = grind (arith, nat_tests)

spec_group : (a b : ℕ) → a ≡ 92 → group_at a b ≡ 1
unfolding group_at
spec_group a b h = grind (arith, nat_tests)

mark_group : (x : Sign) → group_at (get_or (sign_text x) 0 0) (get_or (sign_text x) 1 0) ≡ 3
unfolding group_at
mark_group s.Open = refl
mark_group s.Close = refl
mark_group s.BraceOpen = refl
mark_group s.BraceClose = refl
mark_group s.BracketOpen = refl
mark_group s.BracketClose = refl
mark_group s.Annotation = refl
mark_group s.Semicolon = refl
mark_group s.Comma = refl
mark_group s.Arrow = refl
mark_group s.Assign = refl
mark_group s.AddAssign = refl
mark_group s.SubtractAssign = refl
mark_group s.Increment = refl
mark_group s.Decrement = refl
mark_group s.Equal = refl
mark_group s.NotEqual = refl
mark_group s.Less = refl
mark_group s.LessEqual = refl
mark_group s.Greater = refl
mark_group s.GreaterEqual = refl
mark_group s.Plus = refl
mark_group s.Minus = refl
mark_group s.Star = refl
mark_group s.Slash = refl
mark_group s.Percent = refl
mark_group s.Not = refl
mark_group s.And = refl
mark_group s.Or = refl
mark_group s.Question = refl
mark_group s.Colon = refl
mark_group s.Ampersand = refl
mark_group s.Implies = refl
mark_group s.Equivalent = refl
mark_group s.Dot = refl
mark_group s.Bar = refl
mark_group s.Caret = refl
mark_group s.Tilde = refl

-- the second byte of a name is no bracket
second_no_bracket : (text : List ℕ) → ((k : ℕ) → k < length text → is_name_byte (get_or text k 0) ≡ true) → get_or text 1 0 ≢ 40
second_no_bracket text all e = elim (cases_lt 1 (length text)) [
  | inl lt ↦ let at : is_name_byte 40 ≡ true = sym (ap is_name_byte e) ∙ all 1 lt in absurd cc
  | inr le ↦ absurd (omega (arith, get_or_past text 1 0 le))
]

group_is : (w : Word) (text : List ℕ) → IsToken w text → group_at (get_or text 0 0) (get_or text 1 0) ≡ group w
unfolding group
group_is (t.Name x) text h = name_group (get_or text 0 0) (get_or text 1 0) h.1.begins (second_no_bracket text (λ k lt. All-get_or (λ b. is_name_byte b ≡ true) text k 0 lt h.1.all))
group_is (t.Key x) text h =
    let w = word_text (keyword_text x) (keyword_is_name x) in
    ap (λ (v : List ℕ). group_at (get_or v 0 0) (get_or v 1 0)) h ∙ name_group (get_or (keyword_text x) 0 0) (get_or (keyword_text x) 1 0) (letter_begins (get_or (keyword_text x) 0 0) w.letter) (second_no_bracket (keyword_text x) w.all)
group_is (t.Spec x) text h = spec_group (get_or text 0 0) (get_or text 1 0) (ap (λ (v : List ℕ). get_or v 0 0) h)
group_is t.OtherSpec text h = spec_group (get_or text 0 0) (get_or text 1 0) (ap (λ (v : List ℕ). get_or v 0 0) h.1.whole)
group_is (t.Number v ty) text h = digit_group (get_or text 0 0) (get_or text 1 0) (shape_digit h.base h.digits h.letters text h.shape)
group_is (t.Mark x) text h = ap (λ (v : List ℕ). group_at (get_or v 0 0) (get_or v 1 0)) h ∙ mark_group x
group_is t.End text h = absurd h

tail_of : (a b : List ℕ) → 92 ∷ a ≡ 92 ∷ b → a ≡ b
tail_of a b e = cc

same_by : (a b : Word) (text : List ℕ) → IsToken a text → IsToken b text → group a ≡ group b → a ≡ b
unfolding group
same_by (t.Name x) (t.Name y) text p q g = ap (λ (w : List ℕ). t.Name w) (sym p.0 ∙ q.0)
same_by (t.Name x) (t.Key y) text p q g = absurd (p.2 y (sym q))
same_by (t.Name x) (t.Spec y) text p q g = absurd (omega arith)
same_by (t.Name x) t.OtherSpec text p q g = absurd (omega arith)
same_by (t.Name x) (t.Number y v) text p q g = absurd (omega arith)
same_by (t.Name x) (t.Mark y) text p q g = absurd (omega arith)
same_by (t.Name x) t.End text p q g = absurd q
same_by (t.Key x) (t.Name y) text p q g = absurd (q.2 x (sym p))
same_by (t.Key x) (t.Key y) text p q g = ap (λ k. t.Key k) (same_keyword x y (sym p ∙ q))
same_by (t.Key x) (t.Spec y) text p q g = absurd (omega arith)
same_by (t.Key x) t.OtherSpec text p q g = absurd (omega arith)
same_by (t.Key x) (t.Number y v) text p q g = absurd (omega arith)
same_by (t.Key x) (t.Mark y) text p q g = absurd (omega arith)
same_by (t.Key x) t.End text p q g = absurd q
same_by (t.Spec x) (t.Name y) text p q g = absurd (omega arith)
same_by (t.Spec x) (t.Key y) text p q g = absurd (omega arith)
same_by (t.Spec x) (t.Spec y) text p q g = ap (λ w. t.Spec w) (same_spec_word x y (tail_of (spec_word_text x) (spec_word_text y) (sym p ∙ q)))
same_by (t.Spec x) t.OtherSpec text p q g = absurd (q.2 x (tail_of (spec_word_text x) q.0 (sym p ∙ q.1.whole)))
same_by (t.Spec x) (t.Number y v) text p q g = absurd (omega arith)
same_by (t.Spec x) (t.Mark y) text p q g = absurd (omega arith)
same_by (t.Spec x) t.End text p q g = absurd q
same_by t.OtherSpec (t.Name y) text p q g = absurd (omega arith)
same_by t.OtherSpec (t.Key y) text p q g = absurd (omega arith)
same_by t.OtherSpec (t.Spec y) text p q g = absurd (p.2 y (tail_of (spec_word_text y) p.0 (sym q ∙ p.1.whole)))
same_by t.OtherSpec t.OtherSpec text p q g = refl
same_by t.OtherSpec (t.Number y v) text p q g = absurd (omega arith)
same_by t.OtherSpec (t.Mark y) text p q g = absurd (omega arith)
same_by t.OtherSpec t.End text p q g = absurd q
same_by (t.Number x u) (t.Name y) text p q g = absurd (omega arith)
same_by (t.Number x u) (t.Key y) text p q g = absurd (omega arith)
same_by (t.Number x u) (t.Spec y) text p q g = absurd (omega arith)
same_by (t.Number x u) t.OtherSpec text p q g = absurd (omega arith)
same_by (t.Number x u) (t.Number y v) text p q g = let s = same_number text x y u v p q in let s0 = s.0 in let s1 = s.1 in cc
same_by (t.Number x u) (t.Mark y) text p q g = absurd (omega arith)
same_by (t.Number x u) t.End text p q g = absurd q
same_by (t.Mark x) (t.Name y) text p q g = absurd (omega arith)
same_by (t.Mark x) (t.Key y) text p q g = absurd (omega arith)
same_by (t.Mark x) (t.Spec y) text p q g = absurd (omega arith)
same_by (t.Mark x) t.OtherSpec text p q g = absurd (omega arith)
same_by (t.Mark x) (t.Number y v) text p q g = absurd (omega arith)
same_by (t.Mark x) (t.Mark y) text p q g = ap (λ s. t.Mark s) (same_sign x y (sym p ∙ q))
same_by (t.Mark x) t.End text p q g = absurd q
same_by t.End (t.Name y) text p q g = absurd p
same_by t.End (t.Key y) text p q g = absurd p
same_by t.End (t.Spec y) text p q g = absurd p
same_by t.End t.OtherSpec text p q g = absurd p
same_by t.End (t.Number y v) text p q g = absurd p
same_by t.End (t.Mark y) text p q g = absurd p
same_by t.End t.End text p q g = absurd p

pub same_word : (a b : Word) (text : List ℕ) → IsToken a text → IsToken b text → a ≡ b
same_word a b text p q = same_by a b text p q (sym (group_is a text p) ∙ group_is b text q)

pub same_length : (text : List ℕ) (n m : ℕ) → IsLongest text n → IsLongest text m → n ≡ m
same_length text n m p q = elim (cases_lt n m) [
  | inl lt ↦ absurd (p.longest m lt q.within q.is)
  | inr ge ↦ elim (cases_lt m n) [ inl lt ↦ absurd (q.longest n lt p.within p.is) | inr le ↦ omega arith ]
]

pub record Same (a b : Word) (n m : ℕ) : Type 0 where
  pub word : a ≡ b
  pub length : n ≡ m

pub same_first : (text : List ℕ) (a b : Word) (n m : ℕ) → IsFirst text a n → IsFirst text b m → Same a b n m
same_first text a b n m p q =
    let e = same_length text n m p.longest q.longest in
    record { word = same_word a b (take n text) p.is (subst (λ k. IsToken b (take k text)) (sym e) q.is); length = e }

-- ---- what a token begins with

-- a token has a byte, which is no blank and no `#`
pub record Starts (text : List ℕ) : Type 0 where
  pub some : 0 < length text
  pub past_blanks : 32 < get_or text 0 0
  pub no_number_sign : get_or text 0 0 ≢ 35

name_starts : (b : ℕ) → begins_name b ≡ true → (32 < b) × (b ≢ 35)
name_starts b h = (grind (arith, nat_tests), λ e. grind (arith, nat_tests))

digit_starts : (b : ℕ) → is_digit b ≡ true → (32 < b) × (b ≢ 35)
digit_starts b h = (grind (arith, nat_tests), λ e. grind (arith, nat_tests))

starts_form : (text : List ℕ) → Form text → Starts text
starts_form text (f.named b all some) = let h = name_starts (get_or text 0 0) b in record { some = some; past_blanks = h.0; no_number_sign = h.1 }
starts_form text (f.spec e letter some all) = record { some = omega arith; past_blanks = omega arith; no_number_sign = λ x. omega arith }
starts_form text (f.mark x e) = subst (λ (w : List ℕ). Starts w) (sym e) (record { some = (first_of x).some; past_blanks = (first_of x).past_blanks; no_number_sign = (first_of x).number_sign })
starts_form text (f.shape base digits letters h) = let d = digit_starts (get_or text 0 0) (shape_digit base digits letters text h) in record { some = shape_some base digits letters text h; past_blanks = d.0; no_number_sign = d.1 }

pub starts : (text : List ℕ) (n : ℕ) → IsLexical (take n text) → (0 < n) × (0 < length text) × (32 < get_or text 0 0) × (get_or text 0 0 ≢ 35)
starts text n h =
    let x = starts_form (take n text) (form_of (take n text) h) in
    let pos : 0 < n = omega (arith, x.some, length-take n text) in
    let at : get_or (take n text) 0 0 ≡ get_or text 0 0 = get_or-take n text 0 0 pos in
    (pos, omega (arith, x.some, length-take n text), omega (arith, x.past_blanks), λ e. x.no_number_sign (at ∙ e))

-- ---- what is skipped

-- how what is skipped begins
pub data Kind (text : List ℕ) : Type 0 where
  blank : IsBlank (get_or text 0 0) → Kind text
  block : get_or text 0 0 ≡ 47 → get_or text 1 0 ≡ 42 → Kind text
  line : get_or text 0 0 ≡ 47 → get_or text 1 0 ≡ 47 → Kind text
  include : get_or text 0 0 ≡ 35 → Kind text

pub kind_of : {p : Position} {text : List ℕ} {n : ℕ} → Skips p text n → Kind text
kind_of (l.blank b rest e h m) = blank (subst (λ x. IsBlank x) (sym (ap (λ (w : List ℕ). get_or w 0 0) e)) h)
kind_of (l.comment body rest e h m) = block (ap (λ (w : List ℕ). get_or w 0 0) e) (ap (λ (w : List ℕ). get_or w 1 0) e)
kind_of (l.line_comment body rest e all ends m) = line (ap (λ (w : List ℕ). get_or w 0 0) e) (ap (λ (w : List ℕ). get_or w 1 0) e)
kind_of (l.include rest e column ends m) = include (ap (λ (w : List ℕ). get_or w 0 0) e)

pub no_token : (text : List ℕ) → Kind text → (word : Word) (m : ℕ) → IsFirst text word m → ⊥
no_token text (blank b) word m h = blank_past (get_or text 0 0) (starts text m h.longest.is).2 b
no_token text (block a b) word m h = h.code (a, inl b)
no_token text (line a b) word m h = h.code (a, inr b)
no_token text (include a) word m h = (starts text m h.longest.is).3 a

-- a body without end holds no `*/` at any place
ends_inside : (text a c d : List ℕ) → get_or text (length a) 0 ≡ 42 → get_or text (length a + 1) 0 ≡ 47 → text ≡ c ++ codes "*/" ++ d → HasNoEnd c → length a + 1 < length c → ⊥
ends_inside text a c d star slash q none lt =
    let whole : text ≡ c ++ (codes "*/" ++ d) = q ∙ append_assoc c (codes "*/") d in
    let at : (k : ℕ) → k < length c → get_or text k 0 ≡ get_or c k 0 = λ (k : ℕ) in'. ap (λ (w : List ℕ). get_or w k 0) whole ∙ get_or_append_left c (codes "*/" ++ d) 0 k in' in
    none (take (length a) c) (drop (length a + 2) c) (cut c (length a) lt (sym (at (length a) (omega arith)) ∙ star) (sym (at (length a + 1) lt) ∙ slash))

ends_apart : (text a b c d : List ℕ) → text ≡ a ++ codes "*/" ++ b → text ≡ c ++ codes "*/" ++ d → HasNoEnd c → length a < length c → ⊥
ends_apart text a b c d p q none lt =
    let x = end_at text a b p in
    let y = end_at text c d q in
    elim (cases_lt (length a + 1) (length c)) [
      | inl in' ↦ ends_inside text a c d x.0 x.1 q none in'
      | inr last ↦ let e : length a + 1 ≡ length c = omega arith in let at : get_or text (length a + 1) 0 ≡ 42 = ap (λ k. get_or text k 0) e ∙ y.0 in let at' = x.1 in omega arith
    ]

same_end : (text a b c d : List ℕ) → text ≡ a ++ codes "*/" ++ b → text ≡ c ++ codes "*/" ++ d → HasNoEnd a → HasNoEnd c → length a ≡ length c
same_end text a b c d p q none none' = elim (cases_lt (length a) (length c)) [
  | inl lt ↦ absurd (ends_apart text a b c d p q none' lt)
  | inr ge ↦ elim (cases_lt (length c) (length a)) [ inl lt ↦ absurd (ends_apart text c d a b q p none lt) | inr le ↦ omega arith ]
]

same_line : (a b c d : List ℕ) → a ++ b ≡ c ++ d → All (λ x. x ≢ 10) a → All (λ x. x ≢ 10) c → EndsLine b → EndsLine d → length a ≡ length c
same_line [] b [] d e ha hc hb hd = refl
same_line [] b (y ∷ c) d e ha hc hb hd = elim hb [
  | inl none ↦ absurd (omega (arith, ap length none, ap length e, length-append (y ∷ c) d))
  | inr ends ↦ absurd (All-head (λ x. x ≢ 10) y c hc (sym (ap (λ (w : List ℕ). get_or w 0 0) e) ∙ ends))
]
same_line (x ∷ a) b [] d e ha hc hb hd = elim hd [
  | inl none ↦ absurd (omega (arith, ap length none, ap length e, length-append (x ∷ a) b))
  | inr ends ↦ absurd (All-head (λ y. y ≢ 10) x a ha (ap (λ (w : List ℕ). get_or w 0 0) e ∙ ends))
]
same_line (x ∷ a) b (y ∷ c) d e ha hc hb hd =
    let rest : a ++ b ≡ c ++ d = cc in
    ap suc (same_line a b c d rest (All-tail (λ z. z ≢ 10) x a ha) (All-tail (λ z. z ≢ 10) y c hc) hb hd)

pub behind_two : (a b : ℕ) (x y : List ℕ) → a ∷ b ∷ x ≡ a ∷ b ∷ y → x ≡ y
behind_two a b x y e = cc

-- what is skipped by its first two bytes: a blank, a comment of either kind, the include line
skip_at : ℕ → ℕ → ℕ
skip_at a b = if a == 47 then (if b == 42 then 1 else 2) else if a == 35 then 3 else 0

skip_blank : (a b : ℕ) → IsBlank a → skip_at a b ≡ 0
unfolding skip_at
skip_blank a b (inl e) = grind (arith, nat_tests)
skip_blank a b (inr (inl e)) = grind (arith, nat_tests)
skip_blank a b (inr (inr (inl e))) = grind (arith, nat_tests)
skip_blank a b (inr (inr (inr e))) = grind (arith, nat_tests)

at_blank : (text rest : List ℕ) (b : ℕ) → text ≡ b ∷ rest → IsBlank b → skip_at (get_or text 0 0) (get_or text 1 0) ≡ 0
at_blank text rest b e h = skip_blank (get_or text 0 0) (get_or text 1 0) (subst (λ x. IsBlank x) (sym (ap (λ (w : List ℕ). get_or w 0 0) e)) h)

at_block : (text rest : List ℕ) → text ≡ codes "/*" ++ rest → skip_at (get_or text 0 0) (get_or text 1 0) ≡ 1
unfolding skip_at
at_block text rest e = ap (λ (w : List ℕ). skip_at (get_or w 0 0) (get_or w 1 0)) e

at_line : (text rest : List ℕ) → text ≡ codes "//" ++ rest → skip_at (get_or text 0 0) (get_or text 1 0) ≡ 2
unfolding skip_at
at_line text rest e = ap (λ (w : List ℕ). skip_at (get_or w 0 0) (get_or w 1 0)) e

at_include : (text rest : List ℕ) → text ≡ codes "#include <vcc.h>" ++ rest → skip_at (get_or text 0 0) (get_or text 1 0) ≡ 3
unfolding skip_at
at_include text rest e = ap (λ (w : List ℕ). skip_at (get_or w 0 0) (get_or w 1 0)) e

unlike : (k a b : ℕ) → k ≡ a → k ≡ b → a ≢ b → ⊥
unlike k a b p q apart = apart (sym p ∙ q)

pub same_skip : (p q : Position) (text : List ℕ) (n m : ℕ) → Skips p text n → Skips q text m → n ≡ m
same_skip p q text n m (l.blank b rest e h k) (l.blank b' rest' e' h' k') = k ∙ sym k'
same_skip p q text n m (l.blank b rest e h k) (l.comment body' rest' e' none' k') = absurd (unlike _ 0 1 (at_blank text rest b e h) (at_block text (body' ++ codes "*/" ++ rest') e') (λ z. omega arith))
same_skip p q text n m (l.blank b rest e h k) (l.line_comment body' rest' e' all' ends' k') = absurd (unlike _ 0 2 (at_blank text rest b e h) (at_line text (body' ++ rest') e') (λ z. omega arith))
same_skip p q text n m (l.blank b rest e h k) (l.include rest' e' column' ends' k') = absurd (unlike _ 0 3 (at_blank text rest b e h) (at_include text rest' e') (λ z. omega arith))
same_skip p q text n m (l.comment body rest e none k) (l.blank b' rest' e' h' k') = absurd (unlike _ 1 0 (at_block text (body ++ codes "*/" ++ rest) e) (at_blank text rest' b' e' h') (λ z. omega arith))
same_skip p q text n m (l.comment body rest e none k) (l.comment body' rest' e' none' k') = let s = same_end (body ++ codes "*/" ++ rest) body rest body' rest' refl (behind_two 47 42 (body ++ codes "*/" ++ rest) (body' ++ codes "*/" ++ rest') (sym e ∙ e')) none none' in omega arith
same_skip p q text n m (l.comment body rest e none k) (l.line_comment body' rest' e' all' ends' k') = absurd (unlike _ 1 2 (at_block text (body ++ codes "*/" ++ rest) e) (at_line text (body' ++ rest') e') (λ z. omega arith))
same_skip p q text n m (l.comment body rest e none k) (l.include rest' e' column' ends' k') = absurd (unlike _ 1 3 (at_block text (body ++ codes "*/" ++ rest) e) (at_include text rest' e') (λ z. omega arith))
same_skip p q text n m (l.line_comment body rest e all ends k) (l.blank b' rest' e' h' k') = absurd (unlike _ 2 0 (at_line text (body ++ rest) e) (at_blank text rest' b' e' h') (λ z. omega arith))
same_skip p q text n m (l.line_comment body rest e all ends k) (l.comment body' rest' e' none' k') = absurd (unlike _ 2 1 (at_line text (body ++ rest) e) (at_block text (body' ++ codes "*/" ++ rest') e') (λ z. omega arith))
same_skip p q text n m (l.line_comment body rest e all ends k) (l.line_comment body' rest' e' all' ends' k') = let s = same_line body rest body' rest' (behind_two 47 47 (body ++ rest) (body' ++ rest') (sym e ∙ e')) all all' ends ends' in omega arith
same_skip p q text n m (l.line_comment body rest e all ends k) (l.include rest' e' column' ends' k') = absurd (unlike _ 2 3 (at_line text (body ++ rest) e) (at_include text rest' e') (λ z. omega arith))
same_skip p q text n m (l.include rest e column ends k) (l.blank b' rest' e' h' k') = absurd (unlike _ 3 0 (at_include text rest e) (at_blank text rest' b' e' h') (λ z. omega arith))
same_skip p q text n m (l.include rest e column ends k) (l.comment body' rest' e' none' k') = absurd (unlike _ 3 1 (at_include text rest e) (at_block text (body' ++ codes "*/" ++ rest') e') (λ z. omega arith))
same_skip p q text n m (l.include rest e column ends k) (l.line_comment body' rest' e' all' ends' k') = absurd (unlike _ 3 2 (at_include text rest e) (at_line text (body' ++ rest') e') (λ z. omega arith))
same_skip p q text n m (l.include rest e column ends k) (l.include rest' e' column' ends' k') = k ∙ sym k'
