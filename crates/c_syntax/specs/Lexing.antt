-- Which tokens a source is, and its first fault. From ISO/IEC 9899 5.1.1.2 and 6.4 p4: each token is the longest front of the rest that is one. Own: comments and the one include line are skipped, and where faults stand.
use Rattle.std.specs.Prelude.{◌≡◌, ◌≢◌, ◌⊎◌, ℕ, ◌+◌, ◌<◌, ◌≤◌, List, [], ◌∷◌, ◌++◌, length, take, drop, All, ◌==◌, if◌then◌else◌, slice_index, codes, Result, Ok, Err}
use Rattle.c_syntax.specs.declared.token.Span.{Span}
use Rattle.c_syntax.specs.declared.token.TokenKind.{TokenKind}
use Rattle.c_syntax.specs.declared.token.TokenKind.TheVariants as k
use Rattle.c_syntax.specs.declared.token.Token.{Token}
use Rattle.c_syntax.specs.declared.fault.LexFault.{LexFault}
use Rattle.c_syntax.specs.declared.fault.LexFault.TheVariants as f
use Rattle.c_syntax.specs.Tokens as t
use Rattle.c_syntax.specs.Tokens.{Word, IsToken, IsLexical, IsLongest}

-- where a byte stands: how many bytes are before it, its line and its column
pub record Position : Type 0 where
  pub offset : ℕ
  pub place : Span

abbrev pub at : ℕ → ℕ → ℕ → Position
at offset line column = record { offset = offset; place = record { line = line; column = column } }

abbrev pub first_position : Position
first_position = at 0 1 1

-- the position behind one byte
abbrev pub behind_byte : ℕ → Position → Position
behind_byte b p = if b == 10 then at (p.offset + 1) (p.place.line + 1) 1 else at (p.offset + 1) p.place.line (p.place.column + 1)

-- the position behind a text
abbrev pub place_after : List ℕ → Position → Position
place_after [] p = p
place_after (b ∷ bs) p = place_after bs (behind_byte b p)

-- a token in a source: its first byte's place, and where its text begins and ends
pub record Lexeme : Type 0 where
  pub word : Word
  pub place : Span
  pub start : ℕ
  pub end : ℕ

abbrev pub lexeme_at : Position → Word → ℕ → Lexeme
lexeme_at p word n = record { word = word; place = p.place; start = p.offset; end = p.offset + n }

-- the text has no `*/`
abbrev pub HasNoEnd : List ℕ → Type 0
HasNoEnd text = (a b : List ℕ) → text ≢ a ++ codes "*/" ++ b

-- the text ends here, or the line
abbrev pub EndsLine : List ℕ → Type 0
EndsLine text = (text ≡ []) ⊎ (slice_index text 0 ≡ 10)

-- What stands between tokens: Skips p text n, the first n bytes of the text, which begins at p, are skipped together.
pub data Skips (p : Position) : List ℕ → ℕ → Type 0 where
  -- a blank, tab, CR or LF
  blank : {text : List ℕ} {n : ℕ} (b : ℕ) (rest : List ℕ) → text ≡ b ∷ rest → (b ≡ 32) ⊎ (b ≡ 9) ⊎ (b ≡ 13) ⊎ (b ≡ 10) → n ≡ 1 → Skips p text n
  -- from `/*` up to the first `*/` behind it
  comment : {text : List ℕ} {n : ℕ} (body rest : List ℕ) → text ≡ codes "/*" ++ body ++ codes "*/" ++ rest → HasNoEnd body → n ≡ length body + 4 → Skips p text n
  -- from `//` up to the line's end, which is left
  line_comment : {text : List ℕ} {n : ℕ} (body rest : List ℕ) → text ≡ codes "//" ++ body ++ rest → All (λ b. b ≢ 10) body → EndsLine rest → n ≡ length body + 2 → Skips p text n
  -- a line that is `#include <vcc.h>` and nothing else
  include : {text : List ℕ} {n : ℕ} (rest : List ℕ) → text ≡ codes "#include <vcc.h>" ++ rest → p.place.column ≡ 1 → EndsLine rest → n ≡ 16 → Skips p text n

-- a comment begins here
abbrev pub BeginsComment : List ℕ → Type 0
BeginsComment text = (slice_index text 0 ≡ 47) × ((slice_index text 1 ≡ 42) ⊎ (slice_index text 1 ≡ 47))

-- the token that stands first, of n bytes
pub record IsFirst (text : List ℕ) (word : Word) (n : ℕ) : Type 0 where
  pub longest : IsLongest text n
  pub is : IsToken word (take n text)
  pub code : BeginsComment text → ⊥

-- Reaches p text tokens q rest: the text, which begins at p, is these tokens, with what is skipped before and between them, up to the rest, which begins at q.
pub data Reaches : Position → List ℕ → List Lexeme → Position → List ℕ → Type 0 where
  here : {p : Position} {text : List ℕ} → Reaches p text [] p text
  skip : {p q : Position} {text rest : List ℕ} {n : ℕ} {ts : List Lexeme} → Skips p text n → Reaches (place_after (take n text) p) (drop n text) ts q rest → Reaches p text ts q rest
  token : {p q : Position} {text rest : List ℕ} {word : Word} {n : ℕ} {ts : List Lexeme} → IsFirst text word n → Reaches (place_after (take n text) p) (drop n text) ts q rest → Reaches p text (lexeme_at p word n ∷ ts) q rest

-- The bytes are these tokens, of which the last is the end of the text.
pub record Lexes (bytes : List ℕ) (tokens : List Lexeme) : Type 0 where
  pub end : Position
  pub before : List Lexeme
  pub reaches : Reaches first_position bytes before end []
  pub last : tokens ≡ before ++ lexeme_at end t.End 0 ∷ []

-- how many tokens a source may have, its end not counted
abbrev pub most_tokens : ℕ
most_tokens = 262144

-- IsFault before place text fault: this is the fault of the text, which begins at this place behind so many tokens.
abbrev pub IsFault : ℕ → Span → List ℕ → LexFault → Type 0
-- no token begins here, and nothing that is skipped
IsFault before place text (f.BadByte at') = (at' ≡ place) × (0 < length text) × ((p : Position) (n : ℕ) → p.place ≡ place → Skips p text n → ⊥) × ((n : ℕ) → IsLexical (take n text) → ⊥)
-- what is taken together has the shape of a number, and is none
IsFault before place text (f.BadNumber at') = (at' ≡ place) × (n : ℕ) × IsLongest text n × ((word : Word) → IsToken word (take n text) → ⊥)
-- no `*/` stands behind this `/*`
IsFault before place text (f.OpenComment at') = (at' ≡ place) × (rest : List ℕ) × (text ≡ codes "/*" ++ rest) × HasNoEnd rest
-- one more token stands here than there may be
IsFault before place text (f.TooManyTokens at') = (at' ≡ place) × (before ≡ most_tokens) × (word : Word) × (n : ℕ) × IsFirst text word n
IsFault before place text f.OutOfMemory = ⊥

-- The source's first fault: up to it the bytes are tokens, no more than there may be.
pub record IsFirstFault (bytes : List ℕ) (fault : LexFault) : Type 0 where
  pub before : List Lexeme
  pub few : length before ≤ most_tokens
  pub here : Position
  pub rest : List ℕ
  pub reaches : Reaches first_position bytes before here rest
  pub is : IsFault (length before) here.place rest fault

-- ---- what the code's tokens stand for

abbrev pub word_of : TokenKind → Word
word_of (k.Name name) = t.Name name.now
word_of (k.Keyword key) = t.Key key
word_of (k.SpecWord w) = t.Spec w
word_of k.OtherSpecWord = t.OtherSpec
word_of (k.Number value ty) = t.Number value ty
word_of (k.Sign sign) = t.Mark sign
word_of k.End = t.End

abbrev pub lexeme : Token → Lexeme
lexeme x = record { word = word_of x.kind; place = x.span; start = x.start; end = x.end }

-- These tokens, unless memory runs out; and no fault.
abbrev pub AreOrMemory : {X : Type 0} → (X → List Lexeme) → List Lexeme → Result X LexFault → Type 0
AreOrMemory view ts (Ok x) = ts ≡ view x
AreOrMemory view ts (Err f.OutOfMemory) = Unit {0}
AreOrMemory view ts (Err fault) = ⊥

-- This fault, unless memory runs out.
abbrev pub FailsOrMemory : {X : Type 0} → LexFault → Result X LexFault → Type 0
FailsOrMemory fault (Ok x) = ⊥
FailsOrMemory fault (Err f.OutOfMemory) = Unit {0}
FailsOrMemory fault (Err other) = other ≡ fault

-- the fault, where it is no want of memory, is the source's first
abbrev pub IsFirstOrMemory : List ℕ → LexFault → Type 0
IsFirstOrMemory bytes f.OutOfMemory = Unit {0}
IsFirstOrMemory bytes fault = IsFirstFault bytes fault
