-- The words of a command.
use Rattle.std.proofs.Common.{◌≡◌, ◌≢◌, ℕ, Bool, true, false, List, [], ◌∷◌, length, get_or, codes, refl, sym, subst, ◌∙◌, arith}
use Rattle.std.specs.Prelude.{not}
use Rattle.std.specs.Str.{bytes_eq}
use Rattle.std.proofs.lemmas.Slice.Eq.{bytes_eq-Decides}
use Rattle.vcc_words.specs.Words.{IsName, IsNamedPair, IsUpgrade}

pub three : {X : Type 0} (xs : List X) (a b c : X) → length xs ≡ 3 → a ≡ get_or xs 0 a → b ≡ get_or xs 1 b → c ≡ get_or xs 2 c → xs ≡ a ∷ b ∷ c ∷ []
three [] a b c n p q r = absurd (omega arith)
three (x ∷ []) a b c n p q r = absurd (omega arith)
three (x ∷ y ∷ []) a b c n p q r = absurd (omega arith)
three (x ∷ y ∷ z ∷ []) a b c n p q r = cc
three (x ∷ y ∷ z ∷ w ∷ xs) a b c n p q r = absurd (omega arith)

-- the command's word, and the names behind it
pub pair_parts : (xs : List (List ℕ)) (command word first second a b : List ℕ) → xs ≡ word ∷ a ∷ b ∷ [] → IsNamedPair command xs first second → (word ≡ command) × IsName a × IsName b
pair_parts xs command word first second a b e pair =
    let same : command ∷ first ∷ second ∷ [] ≡ word ∷ a ∷ b ∷ [] = sym pair.are ∙ e in
    let one : first ≡ a = cc in
    let two : second ≡ b = cc in
    let word_is : word ≡ command = cc in
    (word_is, subst IsName one pair.first_name, subst IsName two pair.second_name)

pub four : {X : Type 0} (xs : List X) (a b c d : X) → length xs ≡ 4 → a ≡ get_or xs 0 a → b ≡ get_or xs 1 b → c ≡ get_or xs 2 c → d ≡ get_or xs 3 d → xs ≡ a ∷ b ∷ c ∷ d ∷ []
four [] a b c d n p q r s = absurd (omega arith)
four (x ∷ []) a b c d n p q r s = absurd (omega arith)
four (x ∷ y ∷ []) a b c d n p q r s = absurd (omega arith)
four (x ∷ y ∷ z ∷ []) a b c d n p q r s = absurd (omega arith)
four (x ∷ y ∷ z ∷ w ∷ []) a b c d n p q r s = cc
four (x ∷ y ∷ z ∷ w ∷ v ∷ xs) a b c d n p q r s = absurd (omega arith)

module _ (xs : List (List ℕ)) (word a b c first second third : List ℕ) (e : xs ≡ word ∷ a ∷ b ∷ c ∷ []) (p : first ≡ a) (q : second ≡ b) (r : third ≡ c) where
  -- the command's word, and three names behind it
  pub is_upgrade : word ≡ codes "upgrade" → IsName first × IsName second × IsName third → (third ≢ first) × (third ≢ second) → IsUpgrade xs first second third
  is_upgrade is named apart =
      let all : xs ≡ codes "upgrade" ∷ first ∷ second ∷ third ∷ [] = cc in
      record { are = all; source_name = named.0; cert_name = named.1; new_name = named.2; not_source = apart.0; not_cert = apart.1 }

  -- and what an upgrade's words are
  pub upgrade_parts : (source cert new : List ℕ) → IsUpgrade xs source cert new → (word ≡ codes "upgrade") × (IsName first × IsName second × IsName third) × (third ≢ first) × (third ≢ second)
  upgrade_parts source cert new is =
      let same : codes "upgrade" ∷ source ∷ cert ∷ new ∷ [] ≡ word ∷ a ∷ b ∷ c ∷ [] = sym is.are ∙ e in
      let one : source ≡ first = cc in
      let two : cert ≡ second = cc in
      let new_is : new ≡ third = cc in
      let word_is : word ≡ codes "upgrade" = cc in
      (word_is, (subst IsName one is.source_name, subst IsName two is.cert_name, subst IsName new_is is.new_name), (λ d. is.not_source (new_is ∙ d ∙ sym one)), (λ d. is.not_cert (new_is ∙ d ∙ sym two)))

pub same_bytes : (xs ys : List ℕ) → xs ≡ ys → bytes_eq xs ys ≡ true
same_bytes xs ys e = (bytes_eq-Decides xs ys).1 e

-- a test that the word is another word than `verify`
pub verify_word : (word text : List ℕ) (other : Bool) → other ≡ not (bytes_eq text (codes "verify")) → other ≡ false → text ≡ word → word ≡ codes "verify"
verify_word word text other e is t =
    let same : bytes_eq text (codes "verify") ≡ true = not_false (bytes_eq text (codes "verify")) (sym e ∙ is) in
    sym t ∙ (bytes_eq-Decides text (codes "verify")).0 same
  where
    not_false : (b : Bool) → not b ≡ false → b ≡ true
    not_false true h = refl
    not_false false h = absurd cc
