-- What is found first is the longest front that is a token.
use Rattle.std.proofs.Common.{◌≡◌, ◌≢◌, ℕ, ◌<◌, ◌≤◌, ◌+◌, true, false, List, [], ◌∷◌, ◌++◌, length, get_or, take, drop, refl, sym, ap, ◌∙◌, inl, inr, arith, add-one, add_comm}
use Rattle.std.proofs.lemmas.Bool.{cases_lt}
use Rattle.std.proofs.lemmas.Bool.Decides.{nat_tests}
use Rattle.std.proofs.lemmas.List.{get_or-take, get_or-drop, length-take-le, length-take, length-drop, take-append-drop, take_at}
use Rattle.std.proofs.lemmas.List.Prefix.{front_reads, front_fits}
use Rattle.std.proofs.lemmas.List.Elements.{All-from_get_or}
use Rattle.c_syntax.specs.declared.token.Sign.{Sign}
use Rattle.c_syntax.specs.declared.token.Sign.TheVariants as s
use Rattle.c_syntax.specs.declared.token.Keyword.{Keyword}
use Rattle.c_syntax.specs.declared.token.SpecWord.{SpecWord}
use Rattle.c_syntax.specs.Words.{keyword_text, spec_word_text, sign_text}
use Rattle.c_syntax.specs.Numbers.{is_digit, is_letter}
use Rattle.c_syntax.specs.Tokens as t
use Rattle.c_syntax.specs.Tokens.{Word, IsToken, IsLexical, IsLongest, IsNameText, begins_name, is_name_byte}
use Rattle.vcc_lexer.specs.First.{Begins, NotBegins, IsTaken}
use Rattle.vcc_lexer.specs.declared.bytes.Class.TheVariants as c
use Rattle.vcc_lexer.proofs.Runs.{IsRun, stops}
use Rattle.vcc_lexer.proofs.SignTables.{first_of}
use Rattle.vcc_lexer.proofs.Forms as f
use Rattle.vcc_lexer.proofs.Forms.{begins_goes, Form, form_of, shape_digit, shape_some, letter_begins}
use Rattle.vcc_lexer.proofs.Shapes.{digit_no_name, digit_no_slash}

slash_no_name : (b : ℕ) → b ≡ 92 → begins_name b ≡ true → ⊥
slash_no_name b e h = grind (arith, nat_tests)

-- a sign that is the front of the text begins it
pub sign_begins : (text : List ℕ) (m : ℕ) (x : Sign) → take m text ≡ sign_text x → Begins text x
sign_begins text m x e = (drop m text, sym (take-append-drop m text) ∙ ap (λ (w : List ℕ). w ++ drop m text) e)

-- ---- signs

pub sign_taken : (text : List ℕ) (x : Sign) → Begins text x → ((y : Sign) → length (sign_text x) < length (sign_text y) → NotBegins text y) → IsTaken text (t.Mark x) (length (sign_text x))
sign_taken text x begins none = record { longest = record { within = within; is = inl (t.Mark x, is); longest = λ m lt le h. go m lt le (form_of (take m text) h) }; is = is }
  where
    is : take (length (sign_text x)) text ≡ sign_text x
    is = ap (λ (w : List ℕ). take (length (sign_text x)) w) begins.1 ∙ take_at (sign_text x) begins.0 (length (sign_text x)) refl

    within : length (sign_text x) ≤ length text
    within = front_fits text (sign_text x) begins.0 begins.1

    at : (m i : ℕ) → i < length (sign_text x) → i < m → get_or (take m text) i 0 ≡ get_or (sign_text x) i 0
    at m i lt in' = get_or-take m text i 0 in' ∙ front_reads 0 text (sign_text x) begins.0 begins.1 i lt

    annotation : (m : ℕ) → x ≡ s.Annotation → 2 < m → get_or (take m text) 1 0 ≡ 40
    annotation m e lt = let l : length (sign_text x) ≡ 2 = ap (λ y. length (sign_text y)) e in at m 1 (omega arith) (omega arith) ∙ ap (λ y. get_or (sign_text y) 1 0) e

    go : (m : ℕ) → length (sign_text x) < m → m ≤ length text → Form (take m text) → ⊥
    go m lt le (f.named b all some) =
        let first = first_of x in
        let e : x ≡ s.Annotation = first.name (sym (ap begins_name (at m 0 first.some (omega arith))) ∙ b) in
        let l : length (sign_text x) ≡ 2 = ap (λ y. length (sign_text y)) e in
        let two : is_name_byte 40 ≡ true = sym (ap is_name_byte (annotation m e (omega arith))) ∙ all 1 (omega (arith, length-take-le m text le)) in
        absurd cc
    go m lt le (f.spec b letter some all) = let first = first_of x in first.backslash (sym (at m 0 first.some (omega arith)) ∙ b)
    go m lt le (f.mark y e) = let b = sign_begins text m y e in none y (omega (arith, ap length e, length-take-le m text le)) b.0 b.1
    go m lt le (f.shape base digits letters h) =
        let first = first_of x in
        let a : is_digit (get_or (sign_text x) 0 0) ≡ true = sym (ap is_digit (at m 0 first.some (omega arith))) ∙ shape_digit base digits letters (take m text) h in
        let b = first.digit in
        absurd cc

-- ---- names

name_run : (text : List ℕ) (n : ℕ) → IsRun c.NameByte text n → begins_name (get_or text 0 0) ≡ true → 0 < n
name_run text n run b = elim (cases_lt 0 n) [
  | inl lt ↦ lt
  | inr le ↦
      let e : n ≡ 0 = omega arith in
      let at : is_name_byte (get_or text 0 0) ≡ false = ap (λ k. is_name_byte (get_or text k 0)) (sym e) ∙ stops c.NameByte text n refl run in
      let yes' = begins_goes (get_or text 0 0) b in
      absurd cc
]

pub name_text : (text : List ℕ) (n : ℕ) → IsRun c.NameByte text n → begins_name (get_or text 0 0) ≡ true → IsNameText (take n text)
name_text text n run b =
    let pos = name_run text n run b in
    let l : length (take n text) ≡ n = length-take-le n text run.within in
    record {
      some = omega arith;
      begins = ap begins_name (get_or-take n text 0 0 pos) ∙ b;
      all = All-from_get_or (λ x. is_name_byte x ≡ true) (take n text) 0 (λ i lt. ap is_name_byte (get_or-take n text i 0 (omega arith)) ∙ run.all i (omega arith));
    }

pub name_taken : (text : List ℕ) (n : ℕ) (word : Word) → IsRun c.NameByte text n → begins_name (get_or text 0 0) ≡ true → ((x : Sign) → NotBegins text x) → IsToken word (take n text) → IsTaken text word n
name_taken text n word run b none is = record { longest = record { within = run.within; is = inl (word, is); longest = λ m lt le h. go m lt le (form_of (take m text) h) }; is = is }
  where
    at : (m : ℕ) → 0 < m → begins_name (get_or (take m text) 0 0) ≡ true
    at m pos = ap begins_name (get_or-take m text 0 0 pos) ∙ b

    go : (m : ℕ) → n < m → m ≤ length text → Form (take m text) → ⊥
    go m lt le (f.named b' all some) =
        let yes' : is_name_byte (get_or text n 0) ≡ true = sym (ap is_name_byte (get_or-take m text n 0 lt)) ∙ all n (omega (arith, length-take-le m text le)) in
        let stop = run.ends (omega arith) in
        absurd cc
    go m lt le (f.spec e letter some all) = slash_no_name (get_or (take m text) 0 0) e (at m (omega arith))
    go m lt le (f.mark y e) = let x = sign_begins text m y e in none y x.0 x.1
    go m lt le (f.shape base digits letters h) = digit_no_name (get_or (take m text) 0 0) (shape_digit base digits letters (take m text) h) (at m (omega arith))

pub key_is : (text name : List ℕ) (n : ℕ) (key : Keyword) → name ≡ take n text → keyword_text key ≡ name → IsToken (t.Key key) (take n text)
key_is text name n key e k = sym e ∙ sym k

pub name_is : (text name : List ℕ) (n : ℕ) → IsRun c.NameByte text n → begins_name (get_or text 0 0) ≡ true → name ≡ take n text → ((key : Keyword) → keyword_text key ≢ name) → IsToken (t.Name name) (take n text)
name_is text name n run b e none = (sym e, name_text text n run b, λ key k. none key (k ∙ sym e))

-- ---- spec words

-- a run behind the first byte
pub record IsSpecRun (text place_after : List ℕ) (n : ℕ) : Type 0 where
  pub backslash : get_or text 0 0 ≡ 92
  pub letter : is_letter (get_or text 1 0) ≡ true
  pub cut : place_after ≡ drop 1 text
  pub run : IsRun c.NameByte place_after n

behind_at : (text place_after : List ℕ) (k : ℕ) → place_after ≡ drop 1 text → get_or place_after k 0 ≡ get_or text (k + 1) 0
behind_at text place_after k e = ap (λ (w : List ℕ). get_or w k 0) e ∙ get_or-drop 1 text k 0 ∙ ap (λ i. get_or text i 0) (add_comm 1 k)

behind_begins : (text place_after : List ℕ) (n : ℕ) → IsSpecRun text place_after n → begins_name (get_or place_after 0 0) ≡ true
behind_begins text place_after n h = ap begins_name (behind_at text place_after 0 h.cut) ∙ letter_begins (get_or text 1 0) h.letter

some_text : (text : List ℕ) → get_or text 0 0 ≡ 92 → text ≡ 92 ∷ drop 1 text
some_text [] e = absurd (omega arith)
some_text (b ∷ rest) e = ap (λ x. x ∷ rest) e

take_suc : (n b : ℕ) (rest : List ℕ) → take (n + 1) (b ∷ rest) ≡ b ∷ take n rest
take_suc n b rest = ap (λ k. take k (b ∷ rest)) (add-one n)

pub spec_front : (text place_after : List ℕ) (n : ℕ) → IsSpecRun text place_after n → take (n + 1) text ≡ 92 ∷ take n place_after
spec_front text place_after n h = ap (λ (w : List ℕ). take (n + 1) w) (some_text text h.backslash) ∙ take_suc n 92 (drop 1 text) ∙ ap (λ (w : List ℕ). 92 ∷ take n w) (sym h.cut)

pub spec_taken : (text place_after : List ℕ) (n : ℕ) (word : Word) → IsSpecRun text place_after n → IsToken word (take (n + 1) text) → IsTaken text word (n + 1)
spec_taken text place_after n word h is = record { longest = record { within = within; is = inl (word, is); longest = λ m lt le x. go m lt le (form_of (take m text) x) }; is = is }
  where
    pos : 0 < n
    pos = name_run place_after n h.run (behind_begins text place_after n h)

    within : n + 1 ≤ length text
    within = omega (arith, pos, h.run.within, ap length h.cut, length-drop 1 text)

    at : (m : ℕ) → 0 < m → get_or (take m text) 0 0 ≡ 92
    at m lt = get_or-take m text 0 0 lt ∙ h.backslash

    go : (m : ℕ) → n + 1 < m → m ≤ length text → Form (take m text) → ⊥
    go m lt le (f.named b all some) = slash_no_name (get_or (take m text) 0 0) (at m (omega arith)) b
    go m lt le (f.spec e letter some all) =
        let yes' : is_name_byte (get_or text (n + 1) 0) ≡ true = sym (ap is_name_byte (get_or-take m text (n + 1) 0 lt)) ∙ all (n + 1) (omega arith) (omega (arith, length-take-le m text le)) in
        let stop : is_name_byte (get_or text (n + 1) 0) ≡ false = sym (ap is_name_byte (behind_at text place_after n h.cut)) ∙ h.run.ends (omega (arith, ap length h.cut, length-drop 1 text)) in
        absurd cc
    go m lt le (f.mark y e) = (first_of y).backslash (sym (ap (λ (w : List ℕ). get_or w 0 0) e) ∙ at m (omega arith))
    go m lt le (f.shape base digits letters x) = digit_no_slash (get_or (take m text) 0 0) (shape_digit base digits letters (take m text) x) (at m (omega arith))

pub spec_is : (text place_after name : List ℕ) (n : ℕ) (w : SpecWord) → IsSpecRun text place_after n → name ≡ take n place_after → spec_word_text w ≡ name → IsToken (t.Spec w) (take (n + 1) text)
spec_is text place_after name n w h e k = spec_front text place_after n h ∙ ap (λ (x : List ℕ). 92 ∷ x) (sym e ∙ sym k)

pub other_is : (text place_after name : List ℕ) (n : ℕ) → IsSpecRun text place_after n → name ≡ take n place_after → ((w : SpecWord) → spec_word_text w ≢ name) → IsToken t.OtherSpec (take (n + 1) text)
other_is text place_after name n h e none = (
  take n place_after,
  record {
    whole = spec_front text place_after n h;
    begins = ap is_letter (get_or-take n place_after 0 0 (name_run place_after n h.run (behind_begins text place_after n h)) ∙ behind_at text place_after 0 h.cut) ∙ h.letter;
    is_name = name_text place_after n h.run (behind_begins text place_after n h);
  },
  λ w k. none w (k ∙ sym e),
)

-- ---- no token

-- what stands first when no token does
pub record Dead (text : List ℕ) : Type 0 where
  pub no_sign : (x : Sign) → NotBegins text x
  pub no_name : begins_name (get_or text 0 0) ≡ false
  pub no_digit : is_digit (get_or text 0 0) ≡ false
  pub no_spec : get_or text 0 0 ≡ 92 → is_letter (get_or text 1 0) ≡ true → ⊥

pub bad_byte : (text : List ℕ) → Dead text → (n : ℕ) → IsLexical (take n text) → ⊥
bad_byte text dead n h = go (form_of (take n text) h)
  where
    go : Form (take n text) → ⊥
    go (f.named b all some) = let a : begins_name (get_or text 0 0) ≡ true = sym (ap begins_name (get_or-take n text 0 0 (omega (arith, length-take n text)))) ∙ b in let z = dead.no_name in absurd cc
    go (f.spec e letter some all) = dead.no_spec (sym (get_or-take n text 0 0 (omega (arith, length-take n text))) ∙ e) (sym (ap is_letter (get_or-take n text 1 0 (omega (arith, length-take n text)))) ∙ letter)
    go (f.mark y e) = let x = sign_begins text n y e in dead.no_sign y x.0 x.1
    go (f.shape base digits letters x) = let a : is_digit (get_or text 0 0) ≡ true = sym (ap is_digit (get_or-take n text 0 0 (omega (arith, length-take n text, shape_some base digits letters (take n text) x)))) ∙ shape_digit base digits letters (take n text) x in let z = dead.no_digit in absurd cc

pub no_name_by : (b : ℕ) → b ≢ 95 → is_letter b ≡ false → begins_name b ≡ false
no_name_by b e l = grind (arith, nat_tests)
