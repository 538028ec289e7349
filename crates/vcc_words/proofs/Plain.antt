-- Whether words are names and options.
use Rattle.std.proofs.Common.{◌≡◌, ◌≢◌, ℕ, ◌<◌, ◌≤◌, ◌+◌, Bool, true, eqb, List, [], ◌∷◌, ◌++◌, length, slice_index, get_or, drop, sym, ap, subst, ◌∙◌, inl, inr, string_bytes, arith}
use Rattle.std.specs.Prelude.{◌↔◌, String}
use Rattle.std.specs.declared.alloc.Global.{Global}
use Rattle.std.proofs.lemmas.Bool.{eqb-true}
use Rattle.std.proofs.lemmas.List.{append-nil, append_cancel_left, drop_more, drop_all}
use Rattle.vcc_words.specs.Words.{texts}
use Rattle.vcc_words.specs.Arguments.{Every, IsEnd, IsOptionWord, IsPlain}

pub no_option : (option word : List ℕ) → ((rest : List ℕ) → word ≢ option ++ rest) → IsOptionWord option word → ⊥
no_option option word none is = elim is [ inl e ↦ none [] (e ∙ sym (append-nil option)) | inr e ↦ none (61 ∷ e.0) e.1 ]

pub first_end : (more rest : List ℕ) (first : ℕ) → more ≡ first ∷ rest → (eqb first 61 ≡ true) ↔ IsEnd more
first_end more rest first e = (
  λ t. inr (ap (λ (m : List ℕ). slice_index m 0) e ∙ eqb-true first 61 t),
  λ w. elim w [
    | inl n ↦ absurd (omega (arith, ap length e))
    | inr f ↦ let g : first ≡ 61 = sym (ap (λ (m : List ℕ). slice_index m 0) e) ∙ f in ap (λ (n : ℕ). eqb n 61) g
  ],
)

end_word : (option word more : List ℕ) → word ≡ option ++ more → IsEnd more → IsOptionWord option word
end_word option word [] e end = inl (e ∙ append-nil option)
end_word option word (x ∷ xs) e end =
    elim end [
      | inl n ↦ absurd (omega arith)
      | inr f ↦ inr (xs, e ∙ ap (λ (n : ℕ). option ++ n ∷ xs) f)
    ]

word_end : (option word more : List ℕ) → word ≡ option ++ more → IsOptionWord option word → IsEnd more
word_end option word more e w =
    elim w [
      | inl a ↦ let same : more ≡ [] = append_cancel_left option more [] (sym e ∙ a ∙ sym (append-nil option)) in inl (ap length same)
      | inr b ↦ let same : more ≡ 61 ∷ b.0 = append_cancel_left option more (61 ∷ b.0) (sym e ∙ b.1) in inr (ap (λ (m : List ℕ). slice_index m 0) same)
    ]

pub word_by_end : (option word more : List ℕ) (b : Bool) → word ≡ option ++ more → (b ≡ true) ↔ IsEnd more → (b ≡ true) ↔ IsOptionWord option word
word_by_end option word more b e is = (λ t. end_word option word more e (is.0 t), λ w. is.1 (word_end option word more e w))

-- the words from here on are plain exactly where all are
abbrev pub Rests : List (String Global) → ℕ → Type 0
Rests words i = Every IsPlain (texts (drop i words)) ↔ Every IsPlain (texts words)

pub rests_start : (words : List (String Global)) → Rests words 0
rests_start words = (λ e. e, λ e. e)

pub rests_next : (words : List (String Global)) (i : ℕ) (word : String Global) → i < length words → word ≡ get_or words i word → IsPlain (string_bytes word) → Rests words i → Rests words (i + 1)
rests_next words i word lt at plain before =
    let e : texts (drop i words) ≡ string_bytes word ∷ texts (drop (i + 1) words) = ap texts (drop_more words i word lt ∙ ap (λ (w : String Global). w ∷ drop (i + 1) words) (sym at)) in
    (λ more. before.0 (subst (λ (ws : List (List ℕ)). Every IsPlain ws) (sym e) (plain, more)), λ all. (subst (λ (ws : List (List ℕ)). Every IsPlain ws) e (before.1 all)).1)

pub rests_not : (words : List (String Global)) (i : ℕ) (word : String Global) → i < length words → word ≡ get_or words i word → (IsPlain (string_bytes word) → ⊥) → Rests words i → Every IsPlain (texts words) → ⊥
rests_not words i word lt at other before all =
    let e : texts (drop i words) ≡ string_bytes word ∷ texts (drop (i + 1) words) = ap texts (drop_more words i word lt ∙ ap (λ (w : String Global). w ∷ drop (i + 1) words) (sym at)) in
    other (subst (λ (ws : List (List ℕ)). Every IsPlain ws) e (before.1 all)).0

pub rests_end : (words : List (String Global)) (i : ℕ) → length words ≤ i → Rests words i → Every IsPlain (texts words)
rests_end words i le before = before.0 (subst (λ (ws : List (List ℕ)). Every IsPlain ws) (sym (ap texts (drop_all i words le))) tt)
