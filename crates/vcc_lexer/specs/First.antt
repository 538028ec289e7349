-- What stands first in a text.
use Rattle.std.specs.Prelude.{◌≡◌, ◌≢◌, ℕ, List, ◌++◌, take}
use Rattle.c_syntax.specs.declared.token.Sign.{Sign}
use Rattle.c_syntax.specs.Words.{sign_text}
use Rattle.c_syntax.specs.Tokens.{Word, IsToken, IsLongest}

-- the text begins with the bytes of this sign
abbrev pub Begins : List ℕ → Sign → Type 0
Begins text x = (rest : List ℕ) × (text ≡ sign_text x ++ rest)

abbrev pub NotBegins : List ℕ → Sign → Type 0
NotBegins text x = (rest : List ℕ) → text ≢ sign_text x ++ rest

-- the first n bytes of the text are taken together, and are this token
pub record IsTaken (text : List ℕ) (word : Word) (n : ℕ) : Type 0 where
  pub longest : IsLongest text n
  pub is : IsToken word (take n text)
