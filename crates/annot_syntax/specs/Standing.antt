-- What stands at the front of tokens, and why nothing does, for any phrases of the language: those of a nonterminal, a part or a rule. From the theory of parsing (viable prefixes).
use Rattle.std.specs.Prelude.{◌≡◌, ◌⊎◌, ℕ, ◌≤◌, false, ◌==◌, List, [], ◌∷◌, ◌++◌}
use Rattle.ebnf.specs.Derives.{Phrases}
use Rattle.ebnf.specs.Reading.{Fault, Unexpected, TooDeep}
use Rattle.c_syntax.specs.Lexing.{Lexeme}
use Rattle.c_syntax.specs.Language.{language}

module _ {A : Type 0} (P : Phrases language A) where
  -- the text, up to its end, is this tree, which is so high
  pub record IsText (ts : List Lexeme) (a : A) (h : ℕ) : Type 0 where
    pub end : Lexeme
    pub ends : language.class end ≡ 0
    pub is : P ts a h (end ∷ [])

  -- some text that begins with these tokens is a tree
  pub record Begins (front : List Lexeme) : Type 0 where
    pub late : List Lexeme
    pub tree : A
    pub high : ℕ
    pub is : IsText (front ++ late) tree high

  -- one that is no higher than room
  pub record BeginsLow (room : ℕ) (front : List Lexeme) : Type 0 where
    pub late : List Lexeme
    pub tree : A
    pub high : ℕ
    pub low : high ≤ room
    pub is : IsText (front ++ late) tree high

  -- The tokens before the rest are this tree, no higher than room; and no tree begins with them and the next token.
  pub record Stands (room : ℕ) (ts : List Lexeme) (a : A) (rest : List Lexeme) : Type 0 where
    pub high : ℕ
    pub low : high ≤ room
    pub is : P ts a high rest
    pub longest : (front : List Lexeme) (token : Lexeme) (after : List Lexeme) → ts ≡ front ++ rest → rest ≡ token ∷ after → (language.class token == 0) ≡ false → Begins (front ++ token ∷ []) → ⊥

  -- This token, behind these, is the first with which no tree goes on that is low enough: Unexpected where none does, TooDeep where only higher ones do.
  pub record IsStop (room : ℕ) (ts : List Lexeme) (kind : Fault) (front : List Lexeme) (token : Lexeme) : Type 0 where
    pub after : List Lexeme
    pub split : ts ≡ front ++ token ∷ after
    pub before : (front ≡ []) ⊎ BeginsLow room front
    pub here : BeginsLow room (front ++ token ∷ []) → ⊥
    pub unexpected : kind ≡ Unexpected → Begins (front ++ token ∷ []) → ⊥
    pub too_deep : kind ≡ TooDeep → Begins (front ++ token ∷ [])
    pub none : (a : A) (h : ℕ) (rest : List Lexeme) → P ts a h rest → (kind ≡ TooDeep → h ≤ room) → ⊥
