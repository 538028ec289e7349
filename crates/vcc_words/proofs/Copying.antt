-- A command of a number.
use Rattle.std.proofs.Common.{◌≡◌, ℕ, List, [], ◌∷◌, length, get_or, codes, decimal, Option, Some, None, MatchOption, ap, sym, ◌∙◌, arith}
use Rattle.vcc_words.specs.Arguments.{IsNumber}
use Rattle.vcc_words.specs.Words.{IsGen}

pub two : {X : Type 0} (xs : List X) (a b : X) → length xs ≡ 2 → a ≡ get_or xs 0 a → b ≡ get_or xs 1 b → xs ≡ a ∷ b ∷ []
two [] a b n p q = absurd (omega arith)
two (x ∷ []) a b n p q = absurd (omega arith)
two (x ∷ y ∷ []) a b n p q = cc
two (x ∷ y ∷ z ∷ xs) a b n p q = absurd (omega arith)

-- the text behind the command's word
text_behind : (words : List (List ℕ)) (word text : List ℕ) (copies : ℕ) → words ≡ word ∷ text ∷ [] → IsGen words copies → (word ≡ codes "gen") × (text ≡ decimal copies)
text_behind words word text copies e gen =
    let both : word ∷ text ∷ [] ≡ codes "gen" ∷ decimal copies ∷ [] = sym e ∙ gen.are in
    (cc both, cc both)

-- behind the command's word the number decides
pub copies_of : (words : List (List ℕ)) (text : List ℕ) (found : Option ℕ) → words ≡ codes "gen" ∷ text ∷ [] → MatchOption found ((n : ℕ) → IsNumber text 1 50 n → ⊥) (IsNumber text 1 50) → MatchOption found ((copies : ℕ) → IsGen words copies → ⊥) (IsGen words)
copies_of words text None e none = λ copies gen. none copies ((text_behind words (codes "gen") text copies e gen).1, gen.least, gen.most)
copies_of words text (Some n) e is = record { are = e ∙ ap (λ (t : List ℕ). codes "gen" ∷ t ∷ []) is.0; least = is.1; most = is.2 }

-- behind another word nothing is a number of copies
pub no_copies : (words : List (List ℕ)) (word text : List ℕ) → words ≡ word ∷ text ∷ [] → (word ≡ codes "gen" → ⊥) → (copies : ℕ) → IsGen words copies → ⊥
no_copies words word text e other copies gen = other (text_behind words word text copies e gen).0
