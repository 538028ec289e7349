-- What a text is that is a token or has the shape of a number, by its bytes.
use Rattle.std.proofs.Common.{◌≡◌, ℕ, zero, suc, ◌<◌, ◌≤◌, ◌+◌, ◌-◌, Bool, true, false, ◌&&◌, List, [], ◌∷◌, ◌++◌, length, get_or, refl, sym, ap, ◌∙◌, subst, inl, inr, arith}
use Rattle.std.proofs.lemmas.Bool.Decides.{nat_tests}
use Rattle.std.proofs.lemmas.List.{length-append, get_or_append_left, get_or-append_right}
use Rattle.std.proofs.lemmas.List.Elements.{All-get_or}
use Rattle.c_syntax.specs.declared.token.Sign.{Sign}
use Rattle.c_syntax.specs.Words.{keyword_text, spec_word_text, sign_text}
use Rattle.c_syntax.specs.Numbers as n
use Rattle.c_syntax.specs.Numbers.{is_digit, is_hex_digit, is_letter, is_digit_of, prefix, HasShape, IsNumber}
use Rattle.c_syntax.specs.Tokens as t
use Rattle.c_syntax.specs.Tokens.{Word, IsToken, IsLexical, IsNameText, IsSpecText, begins_name, is_name_byte}
use Rattle.vcc_lexer.specs.NumberTexts.{BeginsHexadecimal}
use Rattle.vcc_lexer.proofs.WordTables.{all_name_bytes, is_word_text, keyword_is_name, spec_word_is_name}

-- ---- words

and_left : (a b : Bool) → (a && b) ≡ true → a ≡ true
and_left true b h = refl
and_left false b h = h

and_right : (a b : Bool) → (a && b) ≡ true → b ≡ true
and_right true b h = h
and_right false b h = absurd cc

pub letter_begins : (b : ℕ) → is_letter b ≡ true → begins_name b ≡ true
letter_begins b h = grind (arith, nat_tests)

pub begins_goes : (b : ℕ) → begins_name b ≡ true → is_name_byte b ≡ true
begins_goes b h = grind (arith, nat_tests)

-- a name that begins with a letter
pub record WordText (w : List ℕ) : Type 0 where
  pub letter : is_letter (get_or w 0 0) ≡ true
  pub all : (k : ℕ) → k < length w → is_name_byte (get_or w k 0) ≡ true
  pub some : 0 < length w

all_at : (w : List ℕ) → all_name_bytes w ≡ true → (k : ℕ) → k < length w → is_name_byte (get_or w k 0) ≡ true
all_at [] h k lt = absurd (omega arith)
all_at (b ∷ bs) h zero lt = and_left (is_name_byte b) (all_name_bytes bs) h
all_at (b ∷ bs) h (suc k) lt = all_at bs (and_right (is_name_byte b) (all_name_bytes bs) h) k (omega arith)

both : (a b : Bool) → a ≡ true → b ≡ true → (a && b) ≡ true
both a b e f = cc

pub word_text : (w : List ℕ) → is_word_text w ≡ true → WordText w
word_text [] h = absurd cc
word_text (b ∷ bs) h =
    let first : is_letter b ≡ true = and_left (is_letter b) (all_name_bytes bs) h in
    let rest : all_name_bytes bs ≡ true = and_right (is_letter b) (all_name_bytes bs) h in
    record { letter = first; all = λ k lt. all_at (b ∷ bs) (both (is_name_byte b) (all_name_bytes bs) (begins_goes b (letter_begins b first)) rest) k lt; some = omega arith }

-- ---- numbers, by index

pub record Indexed (base : n.Base) (d : ℕ) (text : List ℕ) : Type 0 where
  pub some : 0 < d
  pub within : length (prefix base) + d ≤ length text
  pub digit : (i : ℕ) → length (prefix base) ≤ i → i < length (prefix base) + d → is_digit_of base (get_or text i 0) ≡ true
  pub letter : (i : ℕ) → length (prefix base) + d ≤ i → i < length text → is_letter (get_or text i 0) ≡ true

pub indexed : (base : n.Base) (digits letters text : List ℕ) → HasShape base digits letters text → Indexed base (length digits) text
indexed base digits letters text h =
    let p : List ℕ = prefix base in
    let front : length (p ++ digits) ≡ length p + length digits = length-append p digits in
    let whole : length text ≡ length (p ++ digits) + length letters = ap length h.whole ∙ length-append (p ++ digits) letters in
    record {
      some = h.some;
      within = omega arith;
      digit = λ i le lt.
          let at : get_or text i 0 ≡ get_or digits (i - length p) 0 = ap (λ (w : List ℕ). get_or w i 0) h.whole ∙ get_or_append_left (p ++ digits) letters 0 i (omega arith) ∙ get_or-append_right p digits (length p) i 0 refl le in
          ap (is_digit_of base) at ∙ All-get_or (λ b. is_digit_of base b ≡ true) digits (i - length p) 0 (omega arith) h.all_digits;
      letter = λ i le lt.
          let at : get_or text i 0 ≡ get_or letters (i - (length p + length digits)) 0 = ap (λ (w : List ℕ). get_or w i 0) h.whole ∙ get_or-append_right (p ++ digits) letters (length p + length digits) i 0 front le in
          ap is_letter at ∙ All-get_or (λ b. is_letter b ≡ true) letters (i - (length p + length digits)) 0 (omega arith) h.all_letters;
    }

hex_begin : (digits letters text : List ℕ) → HasShape n.Hexadecimal digits letters text → (get_or text 0 0 ≡ 48) × (get_or text 1 0 ≡ 120)
hex_begin digits letters text h = (ap (λ (w : List ℕ). get_or w 0 0) h.whole, ap (λ (w : List ℕ). get_or w 1 0) h.whole)

pub begins_hex : (digits letters text : List ℕ) → HasShape n.Hexadecimal digits letters text → BeginsHexadecimal text
begins_hex digits letters text h =
    let i = indexed n.Hexadecimal digits letters text h in
    let b = hex_begin digits letters text h in
    record { zero = b.0; x = b.1; digit = i.digit 2 (omega arith) (omega (arith, i.some)) }

pub shape_digit : (base : n.Base) (digits letters text : List ℕ) → HasShape base digits letters text → is_digit (get_or text 0 0) ≡ true
shape_digit n.Decimal digits letters text h = let i = indexed n.Decimal digits letters text h in i.digit 0 (omega arith) (omega (arith, i.some))
shape_digit n.Hexadecimal digits letters text h = ap is_digit (hex_begin digits letters text h).0

pub shape_some : (base : n.Base) (digits letters text : List ℕ) → HasShape base digits letters text → 0 < length text
shape_some base digits letters text h = let i = indexed base digits letters text h in omega (arith, i.some, i.within)

-- ---- the forms

pub data Form (text : List ℕ) : Type 0 where
  named : begins_name (get_or text 0 0) ≡ true → ((k : ℕ) → k < length text → is_name_byte (get_or text k 0) ≡ true) → 0 < length text → Form text
  spec : get_or text 0 0 ≡ 92 → is_letter (get_or text 1 0) ≡ true → 1 < length text → ((k : ℕ) → 0 < k → k < length text → is_name_byte (get_or text k 0) ≡ true) → Form text
  mark : (x : Sign) → text ≡ sign_text x → Form text
  shape : (base : n.Base) (digits letters : List ℕ) → HasShape base digits letters text → Form text

form_name : (text : List ℕ) → IsNameText text → Form text
form_name text h = named h.begins (λ k lt. All-get_or (λ b. is_name_byte b ≡ true) text k 0 lt h.all) h.some

form_word : (text w : List ℕ) → text ≡ w → WordText w → Form text
form_word text w e h = subst (λ (v : List ℕ). Form v) (sym e) (named (letter_begins (get_or w 0 0) h.letter) h.all h.some)

behind_slash : (name : List ℕ) → ((k : ℕ) → k < length name → is_name_byte (get_or name k 0) ≡ true) → (k : ℕ) → 0 < k → k < length (92 ∷ name) → is_name_byte (get_or (92 ∷ name) k 0) ≡ true
behind_slash name all zero pos lt = absurd (omega arith)
behind_slash name all (suc k) pos lt = all k (omega arith)

form_spec : (text name : List ℕ) → text ≡ 92 ∷ name → is_letter (get_or name 0 0) ≡ true → 0 < length name → ((k : ℕ) → k < length name → is_name_byte (get_or name k 0) ≡ true) → Form text
form_spec text name e letter some all = subst (λ (v : List ℕ). Form v) (sym e) (spec refl letter (omega arith) (behind_slash name all))

form_token : (word : Word) (text : List ℕ) → IsToken word text → Form text
form_token (t.Name name) text h = form_name text h.1
form_token (t.Key k) text h = form_word text (keyword_text k) h (word_text (keyword_text k) (keyword_is_name k))
form_token (t.Spec w) text h = let f = word_text (spec_word_text w) (spec_word_is_name w) in form_spec text (spec_word_text w) h f.letter f.some f.all
form_token t.OtherSpec text h = form_spec text h.0 h.1.whole h.1.begins h.1.is_name.some (λ k lt. All-get_or (λ b. is_name_byte b ≡ true) h.0 k 0 lt h.1.is_name.all)
form_token (t.Number value ty) text h = shape h.base h.digits h.letters h.shape
form_token (t.Mark x) text h = mark x h
form_token t.End text h = absurd h

pub form_of : (text : List ℕ) → IsLexical text → Form text
form_of text (inl h) = form_token h.0 text h.1
form_of text (inr h) = shape h.0 h.1 h.2 h.3
