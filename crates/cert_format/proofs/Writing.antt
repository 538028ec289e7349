-- Lines that are written word by word.
use Rattle.std.proofs.Common.{◌≡◌, ℕ, List, [], ◌∷◌, ◌++◌, codes, sym, ap, ◌∙◌, append_assoc}
use Rattle.std.specs.List.{join_with_byte}
use Rattle.std.proofs.lemmas.List.{append-nil}
use Rattle.std.proofs.lemmas.List.Concat.{flat_map-append}
use Rattle.cert_format.specs.Text.{Word, Line, line_text, words_behind}

pub joined : (w : Word) (rest : Line) → join_with_byte 32 (w ∷ rest) ≡ w ++ words_behind rest
joined w [] = sym (append-nil w)
joined w (v ∷ rest) = ap (λ (t : List ℕ). w ++ 32 ∷ t) (joined v rest)

five : (o a b c d e : List ℕ) → ((((o ++ a) ++ b) ++ c) ++ d) ++ e ≡ o ++ ((a ++ (b ++ (c ++ d))) ++ e)
five o a b c d e = simp append_assoc

six : (o a b c d e f : List ℕ) → (((((o ++ a) ++ b) ++ c) ++ d) ++ e) ++ f ≡ o ++ ((a ++ (b ++ (c ++ (d ++ e)))) ++ f)
six o a b c d e f = simp append_assoc

pub written_term : (old : List ℕ) (kind : Word) (index args : Line) → ((((old ++ codes "t") ++ 32 ∷ kind) ++ words_behind index) ++ words_behind args) ++ codes "\n" ≡ old ++ line_text (codes "t" ∷ kind ∷ (index ++ args))
written_term old kind index args =
    let words = joined (codes "t") (kind ∷ (index ++ args)) ∙ ap (λ (t : List ℕ). codes "t" ++ ((32 ∷ kind) ++ t)) (flat_map-append (λ (w : Word). 32 ∷ w) index args) in
    five old (codes "t") (32 ∷ kind) (words_behind index) (words_behind args) (codes "\n") ∙ ap (λ (t : List ℕ). old ++ (t ++ 10 ∷ [])) (sym words)

pub written_step : (old : List ℕ) (rule : Word) (numbers literals : Line) → (((((old ++ codes "s") ++ 32 ∷ rule) ++ words_behind numbers) ++ codes " =") ++ words_behind literals) ++ codes "\n" ≡ old ++ line_text (codes "s" ∷ rule ∷ (numbers ++ codes "=" ∷ literals))
written_step old rule numbers literals =
    let words = joined (codes "s") (rule ∷ (numbers ++ codes "=" ∷ literals)) ∙ ap (λ (t : List ℕ). codes "s" ++ ((32 ∷ rule) ++ t)) (flat_map-append (λ (w : Word). 32 ∷ w) numbers (codes "=" ∷ literals)) in
    six old (codes "s") (32 ∷ rule) (words_behind numbers) (codes " =") (words_behind literals) (codes "\n") ∙ ap (λ (t : List ℕ). old ++ (t ++ 10 ∷ [])) (sym words)

pub written_head : (old : List ℕ) (name a b c : Word) → ((((old ++ name) ++ 32 ∷ a) ++ 32 ∷ b) ++ 32 ∷ c) ++ codes "\n" ≡ old ++ line_text (name ∷ a ∷ b ∷ c ∷ [])
written_head old name a b c = rw (joined name (a ∷ b ∷ c ∷ [])) (simp append_assoc)
