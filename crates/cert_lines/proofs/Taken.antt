-- What is read of a line is what the line says.
use Rattle.std.proofs.Common.{◌≡◌, ℕ, zero, suc, ◌≤◌, ◌<◌, ◌^◌, ℤ, pos, negsuc, Bool, true, false, cond, ◌||◌, eqb, leb, List, [], ◌∷◌, ◌++◌, length, map, codes, All, bytes_eq, find, Option, Some, None, Ok, Err, ok_or, nat_lt, arith, refl, sym, ap, subst, ◌∙◌, inl, inr}
use Rattle.std.specs.Prelude.{decimal, FitsSigned, IsTrue, ◌⊎◌, if◌then◌else◌}
use Rattle.std.specs.Int.{w128}
use Rattle.std.specs.Fmt.{signed_decimal}
use Rattle.std.proofs.lemmas.Fmt.{decimal_digit}
use Rattle.std.proofs.lemmas.Bool.{leb-true, eqb-true, cases_Bool}
use Rattle.std.proofs.lemmas.List.Elements.{All-nil, All-cons, All-head}
use Rattle.std.proofs.lemmas.Slice.Eq.{bytes_eq-Decides}
use Rattle.terms.specs.declared.term.Kind.{Kind}
use Rattle.terms.specs.declared.term.Literal.{Literal}
use Rattle.terms.specs.declared.term.Term.{Term}
use Rattle.cert_format.specs.declared.certificate.RuleName.{RuleName}
use Rattle.cert_format.specs.declared.certificate.RuleName.TheVariants as r
use Rattle.cert_format.specs.declared.certificate.Owner.{Owner}
use Rattle.cert_format.specs.declared.certificate.Owner.TheVariants.{OfLemma}
use Rattle.cert_format.specs.declared.certificate.Step.{Step}
use Rattle.cert_format.specs.declared.fault.LineFault.{LineFault}
use Rattle.cert_format.specs.declared.fault.LineFault.TheVariants.{BadLine, BadNumber, CountOver}
use Rattle.cert_lines.specs.declared.names.TheConstants.{KINDS, RULES}
use Rattle.cert_format.specs.declared.stage.Counts.{Counts}
use Rattle.cert_lines.specs.Numerals.{number_in, argument_in, literal_in}
use Rattle.cert_format.specs.Text as text
use Rattle.cert_format.specs.Text.{Word, Line, kind_text, has_index, rule_text, literal_text, is_rule_of, least_steps, owner_text, index_words, FirstIsBelow, CitesEarlier, IsTerm, IsStep}
use Rattle.cert_lines.specs.Grammar.{Reading, ◌>>=◌, needs, first, ends, keyword, number, counted, count, kind_in, rule_in, kind, rule, index, arguments, numbers, literals, is_earlier, cites_earlier, version_in, version_line, count_line, head_line, term_line, step_line, end_line}
use Rattle.cert_lines.proofs.Parts.{number_in_again, number_in_takes, argument_in_takes, literal_in_takes}

abbrev ok : {A : Type 0} → A → Reading A
ok x = Ok x

pub ok_is : {A : Type 0} (x y : A) → ok x ≡ ok y → x ≡ y
ok_is x y e = cc

-- the value of a step that read something
pub bind_ok : {A B : Type 0} (o : Reading A) (f : A → Reading B) (y : B) → (o >>= f) ≡ Ok y → (x : A) × (o ≡ Ok x) × (f x ≡ Ok y)
bind_ok (Ok x) f y e = (x, refl, e)
bind_ok (Err f) g y e = absurd cc

pub ok_or_ok : {A : Type 0} (o : Option A) (e : LineFault) (x : A) → ok_or o e ≡ Ok x → o ≡ Some x
ok_or_ok (Some y) e x h = let same : y ≡ x = cc in ap (λ (z : _). Some z) same
ok_or_ok None e x h = absurd cc

pub needs_ok : (b : Bool) (e : LineFault) (t : Unit {0}) → needs b e ≡ Ok t → b ≡ true
needs_ok true e t h = refl
needs_ok false e t h = absurd cc

-- ---- parts of a line

pub first_takes : (words : Line) (x : Word × Line) → first words ≡ Ok x → words ≡ x.0 ∷ x.1
first_takes [] x e = absurd cc
first_takes (w ∷ rest) x e = ap (λ (y : Word × Line). y.0 ∷ y.1) (ok_is (w, rest) x e)

pub ends_takes : (words : Line) (t : Unit {0}) → ends words ≡ Ok t → words ≡ []
ends_takes [] t e = refl
ends_takes (w ∷ rest) t e = absurd cc

same_word : (w v : Word) → bytes_eq w v ≡ true → w ≡ v
same_word w v e = (bytes_eq-Decides w v).0 e

pub keyword_takes : (word : Word) (words rest : Line) → keyword word words ≡ Ok rest → words ≡ word ∷ rest
unfolding keyword
keyword_takes word words rest e =
    let a = bind_ok (first words) _ rest e in
    let b = bind_ok (needs (bytes_eq a.0.0 word) BadLine) _ rest a.2 in
    let is = same_word a.0.0 word (needs_ok _ BadLine b.0 b.1) in
    first_takes words a.0 a.1 ∙ ap (λ (w : Word). w ∷ a.0.1) is ∙ ap (λ (l : Line). word ∷ l) (ok_is a.0.1 rest b.2)

pub number_takes : (words : Line) (x : ℤ × Line) → number words ≡ Ok x → (words ≡ signed_decimal x.0 ∷ x.1) × FitsSigned w128 x.0
unfolding number
number_takes words x e =
    let a = bind_ok (first words) _ x e in
    let b = bind_ok (ok_or (number_in a.0.0) BadNumber) _ x a.2 in
    let t = number_in_takes a.0.0 b.0 (ok_or_ok (number_in a.0.0) BadNumber b.0 b.1) in
    subst (λ (y : ℤ × Line). (words ≡ signed_decimal y.0 ∷ y.1) × FitsSigned w128 y.0) (ok_is (b.0, a.0.1) x b.2)
    (first_takes words a.0 a.1 ∙ ap (λ (w : Word). w ∷ a.0.1) t.0, t.1)

pub counted_takes : (most : ℕ) (z : ℤ) (n : ℕ) → counted most z ≡ Ok n → (z ≡ pos n) × (n ≤ most)
counted_takes most (negsuc k) n e = absurd cc
counted_takes most (pos k) n e =
    elim (cases_Bool (leb k most)) [
      | inl small ↦
          let is : counted most (pos k) ≡ Ok k = rw small refl in
          let same : k ≡ n = ok_is k n (sym is ∙ e) in
          (ap pos same, subst (λ (m : ℕ). m ≤ most) same (leb-true k most small))
      | inr large ↦ absurd (let is : counted most (pos k) ≡ Err CountOver = rw large refl in cc)
    ]

pub count_takes : (most : ℕ) (words : Line) (x : ℕ × Line) → count most words ≡ Ok x → (words ≡ decimal x.0 ∷ x.1) × (x.0 ≤ most)
unfolding count
count_takes most words x e =
    let a = bind_ok (number words) _ x e in
    let b = bind_ok (counted most a.0.0) _ x a.2 in
    let t = number_takes words a.0 a.1 in
    let c = counted_takes most a.0.0 b.0 b.1 in
    subst (λ (y : ℕ × Line). (words ≡ decimal y.0 ∷ y.1) × (y.0 ≤ most)) (ok_is (b.0, a.0.1) x b.2)
    (t.0 ∙ ap (λ (z : ℤ). signed_decimal z ∷ a.0.1) c.0, c.1)

find_takes : {A : Type 0} (p : A → Bool) (xs : List A) (x : A) → find p xs ≡ Some x → p x ≡ true
find_takes p [] x e = absurd cc
find_takes p (y ∷ ys) x e =
    elim (cases_Bool (p y)) [
      | inl yes' ↦
          let is : find p (y ∷ ys) ≡ Some y = rw yes' refl in
          let same : y ≡ x = cc in
          ap p (sym same) ∙ yes'
      | inr no' ↦ find_takes p ys x (let is : find p (y ∷ ys) ≡ find p ys = rw no' refl in sym is ∙ e)
    ]

pub kind_takes : (words : Line) (x : Kind × Line) → kind words ≡ Ok x → words ≡ kind_text x.0 ∷ x.1
unfolding kind
kind_takes words x e =
    let a = bind_ok (first words) _ x e in
    let b = bind_ok (ok_or (kind_in a.0.0) BadLine) _ x a.2 in
    let h = find_takes (λ k. bytes_eq (kind_text k) a.0.0) KINDS b.0 (ok_or_ok (kind_in a.0.0) BadLine b.0 b.1) in
    first_takes words a.0 a.1 ∙ ap (λ (w : Word). w ∷ a.0.1) (sym (same_word (kind_text b.0) a.0.0 h)) ∙ ap (λ (y : Kind × Line). kind_text y.0 ∷ y.1) (ok_is (b.0, a.0.1) x b.2)

pub rule_takes : (owner : Owner) (words : Line) (x : RuleName × Line) → rule owner words ≡ Ok x → (words ≡ rule_text x.0 ∷ x.1) × IsTrue (is_rule_of owner x.0)
unfolding rule
rule_takes owner words x e =
    let a = bind_ok (first words) _ x e in
    let b = bind_ok (ok_or (rule_in a.0.0) BadLine) _ x a.2 in
    let c = bind_ok (needs (is_rule_of owner b.0) BadLine) _ x b.2 in
    let h = find_takes (λ k. bytes_eq (rule_text k) a.0.0) RULES b.0 (ok_or_ok (rule_in a.0.0) BadLine b.0 b.1) in
    subst (λ (y : RuleName × Line). (words ≡ rule_text y.0 ∷ y.1) × IsTrue (is_rule_of owner y.0)) (ok_is (b.0, a.0.1) x c.2)
    (first_takes words a.0 a.1 ∙ ap (λ (w : Word). w ∷ a.0.1) (sym (same_word (rule_text b.0) a.0.0 h)), needs_ok (is_rule_of owner b.0) BadLine c.0 c.1)

-- the index of a kind, as a word where it has one
abbrev indexed : Bool → ℤ → Line
indexed has z = if has then signed_decimal z ∷ [] else []

record IndexTaken (has : Bool) (words : Line) (x : ℤ × Line) : Type 0 where
  spelled : words ≡ indexed has x.0 ++ x.1
  fits : FitsSigned w128 x.0
  plain : has ≡ false → x.0 ≡ pos 0

index_by : (has : Bool) (words : Line) (x : ℤ × Line) → cond has (number words) (Ok (pos 0, words)) ≡ Ok x → IndexTaken has words x
index_by true words x e =
    let t = number_takes words x e in
    record { spelled = t.0; fits = t.1; plain = λ no'. absurd cc }
index_by false words x e =
    subst (IndexTaken false words) (ok_is (pos 0, words) x e) (record { spelled = refl; fits = record { sfits = omega arith }; plain = λ _. refl })

pub arguments_take : (words : Line) (args : List ℕ) → arguments words ≡ Ok args → (words ≡ map decimal args) × All (λ a. a < 2 ^ 32) args
unfolding arguments
arguments_take [] args e = subst (λ (y : List ℕ). ([] ≡ map decimal y) × All (λ a. a < 2 ^ 32) y) (ok_is [] args e) (refl, All-nil (λ a. a < 2 ^ 32))
arguments_take (w ∷ rest) args e =
    let a = bind_ok (ok_or (argument_in w) BadNumber) _ args e in
    let b = bind_ok (arguments rest) _ args a.2 in
    let t = argument_in_takes w a.0 (ok_or_ok (argument_in w) BadNumber a.0 a.1) in
    let more = arguments_take rest b.0 b.1 in
    subst (λ (y : List ℕ). ((w ∷ rest) ≡ map decimal y) × All (λ a. a < 2 ^ 32) y) (ok_is (a.0 ∷ b.0) args b.2)
    (ap (λ (v : Word). v ∷ rest) t.0 ∙ ap (λ (l : Line). decimal a.0 ∷ l) more.0, All-cons (λ a. a < 2 ^ 32) a.0 b.0 t.1 more.1)

abbrev NumbersTaken : Line → List ℤ × Line → Type 0
NumbersTaken words x = (words ≡ map signed_decimal x.0 ++ codes "=" ∷ x.1) × All (λ n. FitsSigned w128 n) x.0

pub numbers_take : (words : Line) (x : List ℤ × Line) → numbers words ≡ Ok x → (words ≡ map signed_decimal x.0 ++ codes "=" ∷ x.1) × All (λ n. FitsSigned w128 n) x.0
unfolding numbers
numbers_take [] x e = absurd cc
numbers_take (w ∷ rest) x e =
    elim (cases_Bool (bytes_eq w (codes "="))) [
      | inl sign ↦
          let is : numbers (w ∷ rest) ≡ Ok ([], rest) = rw sign refl in
          subst (NumbersTaken (w ∷ rest)) (ok_is ([], rest) x (sym is ∙ e)) (ap (λ (v : Word). v ∷ rest) (same_word w (codes "=") sign), All-nil (λ n. FitsSigned w128 n))
      | inr other ↦
          let is : numbers (w ∷ rest) ≡ (ok_or (number_in w) BadNumber >>= λ n. numbers rest >>= λ ns. Ok (n ∷ ns.0, ns.1)) = rw other refl in
          let a = bind_ok (ok_or (number_in w) BadNumber) _ x (sym is ∙ e) in
          let b = bind_ok (numbers rest) _ x a.2 in
          let t = number_in_takes w a.0 (ok_or_ok (number_in w) BadNumber a.0 a.1) in
          let more = numbers_take rest b.0 b.1 in
          subst (NumbersTaken (w ∷ rest)) (ok_is (a.0 ∷ b.0.0, b.0.1) x b.2) (ap (λ (v : Word). v ∷ rest) t.0 ∙ ap (λ (l : Line). signed_decimal a.0 ∷ l) more.0, All-cons (λ n. FitsSigned w128 n) a.0 b.0.0 t.1 more.1)
    ]

abbrev LiteralsTaken : ℕ → Line → List Literal → Type 0
LiteralsTaken left words ls = (words ≡ map literal_text ls) × All (λ (l : Literal). l.term < 2 ^ 32) ls × (length ls ≤ left)

pub literals_take : (left : ℕ) (words : Line) (ls : List Literal) → literals left words ≡ Ok ls → LiteralsTaken left words ls
unfolding literals
literals_take left [] ls e = subst (LiteralsTaken left []) (ok_is [] ls e) (refl, All-nil (λ (l : Literal). l.term < 2 ^ 32), omega arith)
literals_take zero (w ∷ rest) ls e = absurd (let a = bind_ok (ok_or (literal_in w) BadNumber) _ ls e in let no' = a.2 in cc)
literals_take (suc left) (w ∷ rest) ls e =
    let a = bind_ok (ok_or (literal_in w) BadNumber) _ ls e in
    let b = bind_ok (literals left rest) _ ls a.2 in
    let t = literal_in_takes w a.0 (ok_or_ok (literal_in w) BadNumber a.0 a.1) in
    let more = literals_take left rest b.0 b.1 in
    subst (LiteralsTaken (suc left) (w ∷ rest)) (ok_is (a.0 ∷ b.0) ls b.2)
    (ap (λ (v : Word). v ∷ rest) t.0 ∙ ap (λ (l : Line). literal_text a.0 ∷ l) more.0, All-cons (λ (l : Literal). l.term < 2 ^ 32) a.0 b.0 t.1 more.1, omega (arith, more.2))

-- ---- lines

pub version_takes : (words : Line) (v : ℕ) → version_line words ≡ Ok v → (words ≡ text.count_line (codes "vcc-cert") v) × ((v ≡ 1) ⊎ (v ≡ 2))
unfolding version_line
version_takes words v e =
    let a = bind_ok (keyword (codes "vcc-cert") words) _ v e in
    let b = bind_ok (first a.0) _ v a.2 in
    let c = bind_ok (ok_or (version_in b.0.0) BadLine) _ v b.2 in
    let d = bind_ok (ends b.0.1) _ v c.2 in
    let w = version_word b.0.0 c.0 (ok_or_ok (version_in b.0.0) BadLine c.0 c.1) in
    let spelled : words ≡ text.count_line (codes "vcc-cert") c.0 =
    keyword_takes (codes "vcc-cert") words a.0 a.1 ∙ ap (λ (l : Line). codes "vcc-cert" ∷ l) (first_takes a.0 b.0 b.1 ∙ ap (λ (l : Line). b.0.0 ∷ l) (ends_takes b.0.1 d.0 d.1) ∙ ap (λ (x : Word). x ∷ []) w.0) in
    subst (λ (y : ℕ). (words ≡ text.count_line (codes "vcc-cert") y) × ((y ≡ 1) ⊎ (y ≡ 2))) (ok_is c.0 v d.2) (spelled, w.1)
  where
    version_word : (w : Word) (v : ℕ) → version_in w ≡ Some v → (w ≡ decimal v) × ((v ≡ 1) ⊎ (v ≡ 2))
    version_word w v h =
        elim (cases_Bool (bytes_eq w (codes "1"))) [
          | inl one ↦
              let is : version_in w ≡ Some 1 = rw one refl in
              let same : 1 ≡ v = cc in
              (same_word w (codes "1") one ∙ sym (decimal_digit 1 (omega arith)) ∙ ap decimal same, inl (sym same))
          | inr other ↦ elim (cases_Bool (bytes_eq w (codes "2"))) [
            | inl two ↦
                let is : version_in w ≡ Some 2 = rw (other, two) refl in
                let same : 2 ≡ v = cc in
                (same_word w (codes "2") two ∙ sym (decimal_digit 2 (omega arith)) ∙ ap decimal same, inr (sym same))
            | inr none' ↦ absurd (let is : version_in w ≡ None = rw (other, none') refl in cc)
          ]
        ]

pub count_line_takes : (name : Word) (words : Line) (n : ℕ) → count_line name words ≡ Ok n → (words ≡ text.count_line name n) × (n ≤ 20000)
unfolding count_line
count_line_takes name words n e =
    let a = bind_ok (keyword name words) _ n e in
    let b = bind_ok (count 20000 a.0) _ n a.2 in
    let c = bind_ok (ends b.0.1) _ n b.2 in
    let t = count_takes 20000 a.0 b.0 b.1 in
    subst (λ (y : ℕ). (words ≡ text.count_line name y) × (y ≤ 20000)) (ok_is b.0.0 n c.2)
    (keyword_takes name words a.0 a.1 ∙ ap (λ (l : Line). name ∷ l) (t.0 ∙ ap (λ (l : Line). decimal b.0.0 ∷ l) (ends_takes b.0.1 c.0 c.1)), t.1)

pub end_takes : (words : Line) (t : Unit {0}) → end_line words ≡ Ok t → words ≡ codes "end" ∷ []
unfolding end_line
end_takes words t e =
    let a = bind_ok (keyword (codes "end") words) ends t e in
    keyword_takes (codes "end") words a.0 a.1 ∙ ap (λ (l : Line). codes "end" ∷ l) (ends_takes a.0 t a.2)

-- the counts of a lemma or block
pub record IsHead (owner : Owner) (c : Counts) : Type 0 where
  pub few_terms : c.terms ≤ 1048576
  pub some_steps : least_steps owner ≤ c.steps
  pub few_steps : c.steps ≤ 1048576
  pub few_literals : c.literals ≤ 4194304
  pub none : c.steps ≡ 0 → c.literals ≡ 0

abbrev HeadTaken : Owner → Line → Counts → Type 0
HeadTaken owner words c = (words ≡ text.head_line (owner_text owner) c.terms c.steps c.literals) × IsHead owner c

pub head_takes : (owner : Owner) (words : Line) (c : Counts) → head_line owner words ≡ Ok c → (words ≡ text.head_line (owner_text owner) c.terms c.steps c.literals) × IsHead owner c
unfolding head_line
head_takes owner words c e =
    let a = bind_ok (keyword (owner_text owner) words) _ c e in
    let t = bind_ok (count 1048576 a.0) _ c a.2 in
    let s = bind_ok (count 1048576 t.0.1) _ c t.2 in
    let g = bind_ok (needs (leb (least_steps owner) s.0.0) BadLine) _ c s.2 in
    let l = bind_ok (count 4194304 s.0.1) _ c g.2 in
    let z = bind_ok (ends l.0.1) _ c l.2 in
    let h = bind_ok (needs (nat_lt 0 s.0.0 || eqb l.0.0 0) BadLine) _ c z.2 in
    let tt' = count_takes 1048576 a.0 t.0 t.1 in
    let ts = count_takes 1048576 t.0.1 s.0 s.1 in
    let tl = count_takes 4194304 s.0.1 l.0 l.1 in
    let made : Counts = record { terms = t.0.0; steps = s.0.0; literals = l.0.0 } in
    let spelled : words ≡ text.head_line (owner_text owner) made.terms made.steps made.literals =
    keyword_takes (owner_text owner) words a.0 a.1
    ∙ ap (λ (x : Line). owner_text owner ∷ x) (tt'.0 ∙ ap (λ (x : Line). decimal t.0.0 ∷ x) (ts.0 ∙ ap (λ (x : Line). decimal s.0.0 ∷ x) (tl.0 ∙ ap (λ (x : Line). decimal l.0.0 ∷ x) (ends_takes l.0.1 z.0 z.1)))) in
    subst (HeadTaken owner words) (ok_is made c h.2) (
      spelled,
      record {
        few_terms = tt'.1;
        some_steps = leb-true (least_steps owner) s.0.0 (needs_ok _ BadLine g.0 g.1);
        few_steps = ts.1;
        few_literals = tl.1;
        none = λ nothing. no_literals s.0.0 l.0.0 nothing (needs_ok _ BadLine h.0 h.1);
      },
    )
  where
    no_literals : (steps literals : ℕ) → steps ≡ 0 → (nat_lt 0 steps || eqb literals 0) ≡ true → literals ≡ 0
    no_literals steps literals nothing h = eqb-true literals 0 (rw nothing at h)

pub term_takes : (words : Line) (t : Term) → term_line words ≡ Ok t → (words ≡ text.term_line t) × IsTerm t
unfolding term_line index
term_takes words t e =
    let a = bind_ok (keyword (codes "t") words) _ t e in
    let k = bind_ok (kind a.0) _ t a.2 in
    let i = bind_ok (index k.0.0 k.0.1) _ t k.2 in
    let g = bind_ok (arguments i.0.1) _ t i.2 in
    let ti = index_by (has_index k.0.0) k.0.1 i.0 i.1 in
    let tg = arguments_take i.0.1 g.0 g.1 in
    let made : Term = record { kind = k.0.0; index = i.0.0; args = g.0 } in
    let spelled : words ≡ text.term_line made =
    keyword_takes (codes "t") words a.0 a.1
    ∙ ap (λ (x : Line). codes "t" ∷ x) (kind_takes a.0 k.0 k.1 ∙ ap (λ (x : Line). kind_text k.0.0 ∷ x) (ti.spelled ∙ ap (λ (x : Line). indexed (has_index k.0.0) i.0.0 ++ x) tg.0)) in
    subst (λ (y : Term). (words ≡ text.term_line y) × IsTerm y) (ok_is made t g.2) (spelled, record { index = ti.fits; plain = ti.plain; args = tg.1 })

-- a lemma that is cited in a lemma is earlier
cites : (owner : Owner) (name : RuleName) (ns : List ℤ) (rest : Line) → All (λ n. FitsSigned w128 n) ns → cites_earlier owner name (map signed_decimal ns ++ codes "=" ∷ rest) ≡ true → CitesEarlier owner name ns
cites (OfLemma own) r.Lemma [] rest fits e = tt
cites (OfLemma own) r.Lemma (j ∷ ns) rest fits e = sym (ap (is_earlier own) (number_in_again j (All-head (λ n. FitsSigned w128 n) j ns fits))) ∙ e
cites _ _ ns rest fits e = tt

pub step_takes : (owner : Owner) (left : ℕ) (words : Line) (s : Step) → step_line owner left words ≡ Ok s → (words ≡ text.step_line s) × IsStep owner s × (length s.clause ≤ left)
unfolding step_line
step_takes owner left words s e =
    let a = bind_ok (keyword (codes "s") words) _ s e in
    let r = bind_ok (rule owner a.0) _ s a.2 in
    let g = bind_ok (needs (cites_earlier owner r.0.0 r.0.1) BadLine) _ s r.2 in
    let n = bind_ok (numbers r.0.1) _ s g.2 in
    let c = bind_ok (literals left n.0.1) _ s n.2 in
    let tr = rule_takes owner a.0 r.0 r.1 in
    let tn = numbers_take r.0.1 n.0 n.1 in
    let tc = literals_take left n.0.1 c.0 c.1 in
    let made : Step = record { rule = r.0.0; numbers = n.0.0; clause = c.0 } in
    let rest : r.0.1 ≡ map signed_decimal n.0.0 ++ codes "=" ∷ map literal_text c.0 = tn.0 ∙ ap (λ (x : Line). map signed_decimal n.0.0 ++ codes "=" ∷ x) tc.0 in
    let spelled : words ≡ text.step_line made = keyword_takes (codes "s") words a.0 a.1 ∙ ap (λ (x : Line). codes "s" ∷ x) (tr.0 ∙ ap (λ (x : Line). rule_text r.0.0 ∷ x) rest) in
    let earlier = cites owner r.0.0 n.0.0 n.0.1 tn.1 (sym (ap (cites_earlier owner r.0.0) tn.0) ∙ needs_ok _ BadLine g.0 g.1) in
    subst (λ (y : Step). (words ≡ text.step_line y) × IsStep owner y × (length y.clause ≤ left)) (ok_is made s c.2)
    (spelled, record { rule = tr.1; cites = earlier; numbers = tn.1; terms = tc.1 }, tc.2)
