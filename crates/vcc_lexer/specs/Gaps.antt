-- What the code finds between tokens.
use Rattle.std.specs.Prelude.{◌≡◌, ◌⊎◌, ℕ, ◌+◌, ◌≤◌, List, ◌++◌, length, take, drop, codes}
use Rattle.c_syntax.specs.Lexing.{Position, Skips, BeginsComment, HasNoEnd}
use Rattle.vcc_lexer.specs.declared.gaps.Gap.{Gap}
use Rattle.vcc_lexer.specs.declared.gaps.Gap.TheVariants.{Skipped, OpenComment, Nothing}

-- a blank, tab, CR or LF
abbrev pub IsBlank : ℕ → Type 0
IsBlank b = (b ≡ 32) ⊎ (b ≡ 9) ⊎ (b ≡ 13) ⊎ (b ≡ 10)

-- the first n bytes stand before the first `*/`
pub record IsBody (text : List ℕ) (n : ℕ) : Type 0 where
  pub within : n + 2 ≤ length text
  pub whole : text ≡ take n text ++ codes "*/" ++ drop (n + 2) text
  pub none : HasNoEnd (take n text)

-- this stands at the front of the text, which begins at the column
abbrev pub IsGap : ℕ → List ℕ → Gap → Type 0
IsGap column text (Skipped n) = (p : Position) → p.place.column ≡ column → Skips p text n
IsGap column text OpenComment = (rest : List ℕ) × (text ≡ codes "/*" ++ rest) × HasNoEnd rest
IsGap column text Nothing = ((p : Position) (n : ℕ) → p.place.column ≡ column → Skips p text n → ⊥) × (BeginsComment text → ⊥)
