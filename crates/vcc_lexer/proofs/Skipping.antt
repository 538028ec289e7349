-- What is skipped at the front of a text.
use Rattle.std.proofs.Common.{◌≡◌, ◌≢◌, ℕ, ◌<◌, ◌≤◌, ◌+◌, true, false, eqb, List, [], ◌∷◌, ◌++◌, length, get_or, take, drop, refl, sym, ap, ◌∙◌, subst, inl, inr, arith, Some, None, add-zero}
use Rattle.std.specs.Prelude.{◌⊎◌, codes, not, ◌==◌}
use denote.Ref.{Bor}
use Rattle.std.specs.Cmp.Lexicographic.{pointwise}
use Rattle.std.proofs.lemmas.Bool.{cases_lt}
use Rattle.std.proofs.lemmas.Bool.Decides.{nat_tests, Decides-eqb}
use Rattle.std.proofs.lemmas.Slice.Eq.{strip_prefix_is}
use Rattle.std.proofs.lemmas.List.{get_or-take, get_or-drop, get_or_past, length-take-le, length-take, take-append-drop, drop_more, drop_all, append_assoc, get_or_at, get_or-append-add, length-append}
use Rattle.std.proofs.lemmas.List.Elements.{All-from_get_or}
use Rattle.c_syntax.specs.Lexing as s
use Rattle.c_syntax.specs.Lexing.{Position, Skips, HasNoEnd, EndsLine, BeginsComment}
use Rattle.vcc_lexer.specs.declared.bytes.Class.TheVariants as c
use Rattle.vcc_lexer.specs.Gaps.{IsBlank, IsBody}
use Rattle.vcc_lexer.proofs.Runs.{IsRun}

pub stripped : (text p : List ℕ) (x : Bor (List ℕ)) → (pointwise eqb (take (length p) text) p ≡ true) × (x.now ≡ drop (length p) text) × (length x.now + length p ≡ length text) → text ≡ p ++ x.now
stripped text p x h = strip_prefix_is Decides-eqb text p (Some x) h

pub not_stripped : (text p : List ℕ) → pointwise eqb (take (length p) text) p ≡ false → (rest : List ℕ) → text ≢ p ++ rest
not_stripped text p h = strip_prefix_is Decides-eqb text p None h

-- ---- blanks

pub blank_skips : (p : Position) (text : List ℕ) → IsBlank (get_or text 0 0) → Skips p text 1
blank_skips p [] h = absurd (elim h [ inl e ↦ omega arith | inr more ↦ elim more [ inl e ↦ omega arith | inr more' ↦ elim more' [ inl e ↦ omega arith | inr e ↦ omega arith ] ] ])
blank_skips p (b ∷ rest) h = s.blank b rest refl h refl

-- ---- comments

-- where a `*/` stands
pub end_at : (text a b : List ℕ) → text ≡ a ++ codes "*/" ++ b → (get_or text (length a) 0 ≡ 42) × (get_or text (length a + 1) 0 ≡ 47) × (length a + 2 ≤ length text)
end_at text a b e =
    let f : text ≡ a ++ (42 ∷ 47 ∷ b) = e ∙ append_assoc a (codes "*/") b in (
      ap (λ (w : List ℕ). get_or w (length a) 0) f ∙ get_or_at a 42 (47 ∷ b) 0 (length a) refl,
      ap (λ (w : List ℕ). get_or w (length a + 1) 0) f ∙ get_or-append-add a (42 ∷ 47 ∷ b) 1 0,
      omega (arith, ap length f, length-append a (42 ∷ 47 ∷ b)),
    )

abbrev pub NoEndBelow : ℕ → List ℕ → Type 0
NoEndBelow n text = (k : ℕ) → k < n → get_or text k 0 ≡ 42 → get_or text (k + 1) 0 ≡ 47 → ⊥

pub no_end : (text : List ℕ) → NoEndBelow (length text) text → HasNoEnd text
no_end text none = λ a b e. let at = end_at text a b e in none (length a) (omega (arith, at.2)) at.0 at.1

front_no_end : (text : List ℕ) (n : ℕ) → NoEndBelow n text → HasNoEnd (take n text)
front_no_end text n none = λ a b e.
    let at = end_at (take n text) a b e in
    let l = length-take n text in
    none (length a) (omega (arith, at.2)) (sym (get_or-take n text (length a) 0 (omega (arith, at.2))) ∙ at.0) (sym (get_or-take n text (length a + 1) 0 (omega (arith, at.2))) ∙ at.1)

second_within : (text : List ℕ) (n : ℕ) → get_or text n 0 ≡ 47 → n < length text
second_within text n e = elim (cases_lt n (length text)) [ inl lt ↦ lt | inr le ↦ absurd (omega (arith, get_or_past text n 0 le)) ]

-- where a `*/` stands in a text, the text is cut by it
pub cut : (text : List ℕ) (n : ℕ) → n + 1 < length text → get_or text n 0 ≡ 42 → get_or text (n + 1) 0 ≡ 47 → text ≡ take n text ++ codes "*/" ++ drop (n + 2) text
cut text n lt star slash =
    let first : drop n text ≡ 42 ∷ drop (n + 1) text = drop_more text n 0 (omega arith) ∙ ap (λ b. b ∷ drop (n + 1) text) star in
    let next : drop (n + 1) text ≡ 47 ∷ drop (n + 1 + 1) text = drop_more text (n + 1) 0 lt ∙ ap (λ b. b ∷ drop (n + 1 + 1) text) slash in
    let two : n + 1 + 1 ≡ n + 2 = omega arith in
    let whole : text ≡ take n text ++ (42 ∷ 47 ∷ drop (n + 2) text) = sym (take-append-drop n text) ∙ ap (λ (w : List ℕ). take n text ++ w) (first ∙ ap (λ (w : List ℕ). 42 ∷ w) (next ∙ ap (λ k. 47 ∷ drop k text) two)) in
    whole ∙ sym (append_assoc (take n text) (codes "*/") (drop (n + 2) text))

pub body_found : (text : List ℕ) (n : ℕ) → n < length text → get_or text n 0 ≡ 42 → get_or text (n + 1) 0 ≡ 47 → NoEndBelow n text → IsBody text n
body_found text n lt star slash none =
    let second : n + 1 < length text = second_within text (n + 1) slash in
    record { within = omega arith; whole = cut text n second star slash; none = front_no_end text n none }

pub block_skips : (p : Position) (text body : List ℕ) (n : ℕ) → text ≡ codes "/*" ++ body → IsBody body n → Skips p text (n + 4)
block_skips p text body n e h =
    let l : length (take n body) ≡ n = length-take-le n body (omega (arith, h.within)) in
    s.comment (take n body) (drop (n + 2) body) (e ∙ ap (λ (w : List ℕ). codes "/*" ++ w) h.whole) h.none (omega arith)

not_end : (b : ℕ) → not (b == 10) ≡ true → b ≢ 10
not_end b h = λ e. grind (arith, nat_tests)

is_end : (b : ℕ) → not (b == 10) ≡ false → b ≡ 10
is_end b h = grind (arith, nat_tests)

pub line_skips : (p : Position) (text line : List ℕ) (n : ℕ) → text ≡ codes "//" ++ line → IsRun c.WithinLine line n → Skips p text (n + 2)
line_skips p text line n e run =
    let l : length (take n line) ≡ n = length-take-le n line run.within in
    s.line_comment (take n line) (drop n line) (e ∙ ap (λ (w : List ℕ). codes "//" ++ w) (sym (take-append-drop n line)))
    (All-from_get_or (λ b. b ≢ 10) (take n line) 0 (λ i lt. not_end (get_or (take n line) i 0) (ap (λ b. not (b == 10)) (get_or-take n line i 0 (omega arith)) ∙ run.all i (omega arith))))
    (elim (cases_lt n (length line)) [
      | inl lt ↦ inr (get_or-drop n line 0 0 ∙ ap (λ k. get_or line k 0) (add-zero n) ∙ is_end (get_or line n 0) (run.ends lt))
      | inr le ↦ inl (drop_all n line le)
    ])
    (omega arith)

-- ---- nothing

skip_head : {p : Position} {text : List ℕ} {n : ℕ} → Skips p text n → IsBlank (get_or text 0 0) ⊎ (((rest : List ℕ) × (text ≡ codes "/*" ++ rest)) ⊎ (((rest : List ℕ) × (text ≡ codes "//" ++ rest)) ⊎ ((rest : List ℕ) × (text ≡ codes "#include <vcc.h>" ++ rest) × EndsLine rest)))
skip_head (s.blank b rest e h m) = inl (subst (λ x. IsBlank x) (sym (ap (λ (w : List ℕ). get_or w 0 0) e)) h)
skip_head (s.comment body rest e h m) = inr (inl (body ++ codes "*/" ++ rest, e))
skip_head (s.line_comment body rest e all ends m) = inr (inr (inl (body ++ rest, e)))
skip_head (s.include rest e column ends m) = inr (inr (inr (rest, e, ends)))

-- a blank is a low byte
pub blank_past : (b : ℕ) → 32 < b → IsBlank b → ⊥
blank_past b lt (inl e) = omega arith
blank_past b lt (inr (inl e)) = omega arith
blank_past b lt (inr (inr (inl e))) = omega arith
blank_past b lt (inr (inr (inr e))) = omega arith

head_of : (text front rest : List ℕ) (b : ℕ) → text ≡ b ∷ front ++ rest → get_or text 0 0 ≡ b
head_of text front rest b e = ap (λ (w : List ℕ). get_or w 0 0) e

pub no_include : (column : ℕ) (text : List ℕ) → get_or text 0 0 ≡ 35 → ((rest : List ℕ) → text ≢ codes "#include <vcc.h>" ++ rest) → ((p : Position) (n : ℕ) → p.place.column ≡ column → Skips p text n → ⊥) × (BeginsComment text → ⊥)
no_include column text head none = (
  λ p n e skips. elim (skip_head skips) [
    | inl b ↦ blank_past (get_or text 0 0) (omega arith) b
    | inr more ↦ elim more [
      | inl block ↦ let at : get_or text 0 0 ≡ 47 = ap (λ (w : List ℕ). get_or w 0 0) block.1 in omega arith
      | inr more' ↦ elim more' [
        | inl line ↦ let at : get_or text 0 0 ≡ 47 = ap (λ (w : List ℕ). get_or w 0 0) line.1 in omega arith
        | inr found ↦ none found.0 found.1
      ]
    ]
  ],
  λ begins. let at = begins.0 in omega arith,
)
