-- A token's text is its slice of the source.
use Rattle.std.proofs.Common.{◌≡◌, ◌≢◌, ℕ, ◌+◌, Bool, true, false, List, [], ◌∷◌, ◌++◌, length, take, drop, refl, sym, ap, ◌∙◌, subst, arith}
use Rattle.std.specs.Prelude.{All, if◌then◌else◌, ◌==◌}
use Rattle.std.proofs.lemmas.List.{length-append, append_assoc, take-append-drop, drop_at, drop-take}
use Rattle.std.proofs.lemmas.List.Elements.{All-nil, All-cons, All-append}
use Rattle.c_syntax.specs.Tokens as t
use Rattle.c_syntax.specs.Tokens.{Word, IsToken}
use Rattle.c_syntax.specs.Lexing as l
use Rattle.c_syntax.specs.Lexing.{Position, Lexeme, Skips, IsFirst, Reaches, Lexes, at, place_after, behind_byte, first_position, lexeme_at}
use Rattle.vcc_lexer.specs.Texts.{HaveTexts}

-- ---- how many bytes are before a place

chosen : (test : Bool) (p : Position) → (if test then at (p.offset + 1) (p.place.line + 1) 1 else at (p.offset + 1) p.place.line (p.place.column + 1)).offset ≡ p.offset + 1
chosen true p = refl
chosen false p = refl

offset_behind : (text : List ℕ) (p : Position) → (place_after text p).offset ≡ p.offset + length text
offset_behind [] p = omega arith
offset_behind (b ∷ text) p =
    let one : (behind_byte b p).offset ≡ p.offset + 1 = chosen (b == 10) p in
    let rest = offset_behind text (behind_byte b p) in
    omega arith

-- ---- along a text

abbrev HasText : List ℕ → Lexeme → Type 0
HasText bytes x = x.word ≢ t.End → IsToken x.word (drop x.start (take x.end bytes))

slice : (before text : List ℕ) (n : ℕ) → drop (length before) (take (length before + n) (before ++ text)) ≡ take n text
slice before text n = drop-take (length before) n (before ++ text) ∙ ap (λ (w : List ℕ). take n w) (drop_at before text (length before) refl)

onward : (before text : List ℕ) (n : ℕ) → (before ++ take n text) ++ drop n text ≡ before ++ text
onward before text n = append_assoc before (take n text) (drop n text) ∙ ap (λ (w : List ℕ). before ++ w) (take-append-drop n text)

count_on : (before text : List ℕ) (p : Position) (n : ℕ) → p.offset ≡ length before → (place_after (take n text) p).offset ≡ length (before ++ take n text)
count_on before text p n e = omega (arith, offset_behind (take n text) p, length-append before (take n text))

texts_from : {p q : Position} {text rest : List ℕ} {ts : List Lexeme} (bytes before : List ℕ) → bytes ≡ before ++ text → p.offset ≡ length before → Reaches p text ts q rest → All (HasText bytes) ts
texts_from bytes before whole e l.here = All-nil (HasText bytes)
texts_from {p} {text = text} bytes before whole e (l.skip {n = n} skips d) = texts_from bytes (before ++ take n text) (whole ∙ sym (onward before text n)) (count_on before text p n e) d
texts_from {p} {text = text} bytes before whole e (l.token {word = word} {n = n} {ts = ts} first d) =
    let cut : drop p.offset (take (p.offset + n) bytes) ≡ take n text = ap (λ k. drop k (take (k + n) bytes)) e ∙ ap (λ (w : List ℕ). drop (length before) (take (length before + n) w)) whole ∙ slice before text n in
    All-cons (HasText bytes) (lexeme_at p word n) ts (λ z. subst (λ (w : List ℕ). IsToken word w) (sym cut) first.is) (texts_from bytes (before ++ take n text) (whole ∙ sym (onward before text n)) (count_on before text p n e) d)

pub token_texts : (bytes : List ℕ) (ts : List Lexeme) → Lexes bytes ts → HaveTexts bytes ts
token_texts bytes ts h =
    subst (λ (w : List Lexeme). All (HasText bytes) w) (sym h.last)
    (All-append (HasText bytes) h.before (lexeme_at h.end t.End 0 ∷ []) (texts_from bytes [] refl refl h.reaches) (All-cons (HasText bytes) (lexeme_at h.end t.End 0) [] (λ z. absurd (z refl)) (All-nil (HasText bytes))))
