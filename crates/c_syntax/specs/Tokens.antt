-- Tokens: which text is which token. From ISO/IEC 9899 6.4; own: which words and signs there are.
use Rattle.std.specs.Prelude.{◌≡◌, ◌≢◌, ◌⊎◌, ℕ, ◌<◌, ◌≤◌, Bool, true, ◌||◌, ◌==◌, List, ◌∷◌, length, take, All, slice_index}
use Rattle.int_ranges.specs.declared.ctype.CType.{CType}
use Rattle.c_syntax.specs.declared.token.Keyword.{Keyword}
use Rattle.c_syntax.specs.declared.token.SpecWord.{SpecWord}
use Rattle.c_syntax.specs.declared.token.Sign.{Sign}
use Rattle.c_syntax.specs.Words.{keyword_text, spec_word_text, sign_text}
use Rattle.c_syntax.specs.Numbers.{is_digit, is_letter, Base, HasShape, IsNumber}

-- a token without where its text lies in memory
pub data Word : Type 0 where
  Name : List ℕ → Word
  Key : Keyword → Word
  Spec : SpecWord → Word
  OtherSpec : Word
  Number : ℕ → CType → Word
  Mark : Sign → Word
  End : Word

-- what a name begins with, and what it goes on with
abbrev pub begins_name : ℕ → Bool
begins_name b = b == 95 || is_letter b

abbrev pub is_name_byte : ℕ → Bool
is_name_byte b = begins_name b || is_digit b

-- a letter or `_`, and then letters, digits and `_`
pub record IsNameText (text : List ℕ) : Type 0 where
  pub some : 0 < length text
  pub begins : begins_name (slice_index text 0) ≡ true
  pub all : All (λ b. is_name_byte b ≡ true) text

-- A backslash, a letter, and then letters, digits and `_`.
pub record IsSpecText (name text : List ℕ) : Type 0 where
  pub whole : text ≡ 92 ∷ name
  pub begins : is_letter (slice_index name 0) ≡ true
  pub is_name : IsNameText name

-- IsToken word text: the text is this token.
abbrev pub IsToken : Word → List ℕ → Type 0
IsToken (Name name) text = (text ≡ name) × IsNameText text × ((k : Keyword) → keyword_text k ≢ text)
IsToken (Key k) text = text ≡ keyword_text k
IsToken (Spec w) text = text ≡ 92 ∷ spec_word_text w
IsToken OtherSpec text = (name : List ℕ) × IsSpecText name text × ((w : SpecWord) → spec_word_text w ≢ name)
IsToken (Number value ty) text = IsNumber text value ty
IsToken (Mark sign) text = text ≡ sign_text sign
IsToken End text = ⊥

-- a token, or what has the shape of a number
abbrev pub IsLexical : List ℕ → Type 0
IsLexical text = ((word : Word) × IsToken word text) ⊎ ((base : Base) × (digits : List ℕ) × (letters : List ℕ) × HasShape base digits letters text)

-- The first n bytes of the text are taken together: they are a token or have the shape of a number, and no longer front does.
pub record IsLongest (text : List ℕ) (n : ℕ) : Type 0 where
  pub within : n ≤ length text
  pub is : IsLexical (take n text)
  pub longest : (m : ℕ) → n < m → m ≤ length text → IsLexical (take m text) → ⊥
