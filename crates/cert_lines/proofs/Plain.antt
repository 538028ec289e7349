-- No word of a certificate has a space or an LF.
use Rattle.std.proofs.Common.{◌≡◌, ℕ, suc, ◌+◌, ◌%◌, ◌^◌, ◌≤◌, ◌<◌, ℤ, pos, negsuc, Bool, true, false, cond, ◌&&◌, eqb, ltb, List, [], ◌∷◌, ◌++◌, length, map, codes, All, arith, refl, sym, ap, subst, ◌∙◌, inl, inr}
use Rattle.std.specs.Prelude.{decimal, FitsSigned, ◌⊎◌}
use Rattle.std.specs.Int.{w128}
use Rattle.std.specs.Fmt.{signed_decimal}
use Rattle.std.specs.List.{join_with_byte}
use Rattle.std.proofs.lemmas.Fmt.{decimal_by_steps_wide}
use Rattle.std.proofs.lemmas.Bool.{ltb-true, ne_eqb, cases_Bool}
use Rattle.std.proofs.lemmas.List.Elements.{All-nil, All-cons, All-head, All-tail, All-append, All-push, All-map, All-weaker}
use Rattle.std.proofs.lemmas.List.Splits.{slice_split_none, slice_split_at}
use Rattle.terms.specs.declared.term.Kind.{Kind}
use Rattle.terms.specs.declared.term.Kind.TheVariants as k
use Rattle.terms.specs.declared.term.Literal.{Literal}
use Rattle.terms.specs.declared.term.Term.{Term}
use Rattle.cert_format.specs.Derivations.{Derivation}
use Rattle.cert_format.specs.declared.certificate.Owner.{Owner}
use Rattle.cert_format.specs.declared.certificate.Owner.TheVariants.{OfLemma, OfCondition}
use Rattle.cert_format.specs.declared.certificate.RuleName.{RuleName}
use Rattle.cert_format.specs.declared.certificate.RuleName.TheVariants as r
use Rattle.cert_format.specs.declared.certificate.Step.{Step}
use Rattle.cert_lines.specs.Grammar.{IsWithinLine, words_of}
use Rattle.cert_format.specs.Text.{Word, Line, Proofs, kind_text, rule_text, literal_text, has_index, index_words, term_line, step_line, count_line, head_line, derivation_lines, first_lines, lemma_lines, block_lines, lines_of, literals_of, IsTerm, IsStep, IsDerivation, AreLemmas, IsCertificate}

abbrev pub IsPlain : Word → Type 0
IsPlain w = All (λ b. 32 < b) w

abbrev all_plain : Word → Bool
all_plain [] = true
all_plain (b ∷ bs) = ltb 32 b && all_plain bs

plain_text : (w : Word) → all_plain w ≡ true → IsPlain w
plain_text [] h = All-nil (λ b. 32 < b)
plain_text (b ∷ bs) h =
    elim (cases_Bool (ltb 32 b)) [
      | inl above ↦ All-cons (λ x. 32 < x) b bs (ltb-true 32 b above) (plain_text bs (let is : all_plain (b ∷ bs) ≡ all_plain bs = rw above refl in sym is ∙ h))
      | inr below ↦ absurd (let is : all_plain (b ∷ bs) ≡ false = rw below refl in cc)
    ]

kind_test : (x : Kind) → all_plain (kind_text x) ≡ true
kind_test k.Int = refl
kind_test k.Ci = refl
kind_test k.Add = refl
kind_test k.Sub = refl
kind_test k.Mul = refl
kind_test k.Div = refl
kind_test k.Mod = refl
kind_test k.Typ = refl
kind_test k.Get = refl
kind_test k.Ite = refl
kind_test k.Null = refl
kind_test k.Me = refl
kind_test k.Cr = refl
kind_test k.Cex = refl
kind_test k.Ch = refl
kind_test k.Set = refl
kind_test k.Open = refl
kind_test k.Close = refl
kind_test k.Clear = refl
kind_test k.True = refl
kind_test k.Not = refl
kind_test k.And = refl
kind_test k.Or = refl
kind_test k.Imp = refl
kind_test k.Eq = refl
kind_test k.Le = refl
kind_test k.All = refl
kind_test k.Good = refl
kind_test k.Sys = refl
kind_test k.Inv = refl
kind_test k.Legal = refl
kind_test k.Kept = refl
kind_test k.Touched = refl
kind_test k.Rely = refl
kind_test k.Frame = refl
kind_test k.Stab = refl
kind_test k.Idle = refl

rule_test : (x : RuleName) → all_plain (rule_text x) ≡ true
rule_test r.Root = refl
rule_test r.Conn = refl
rule_test r.Chain = refl
rule_test r.Refl = refl
rule_test r.Sym = refl
rule_test r.Trans = refl
rule_test r.Cong = refl
rule_test r.Linear = refl
rule_test r.Cut = refl
rule_test r.Split = refl
rule_test r.Map = refl
rule_test r.Axiom = refl
rule_test r.Lemma = refl

decimal_plain : (n : ℕ) → n < 10 ^ 64 → IsPlain (decimal n)
decimal_plain n small = decimal_by_steps_wide (λ m ds. IsPlain ds) (λ m lt. All-cons (λ b. 32 < b) (48 + m) [] (omega arith) (All-nil (λ b. 32 < b))) (λ m ds le before. All-push (λ b. 32 < b) ds (48 + m % 10) before (omega arith)) n small

signed_plain : (z : ℤ) → FitsSigned w128 z → IsPlain (signed_decimal z)
signed_plain (pos n) fits = let small : n < 2 ^ 127 = fits.sfits in decimal_plain n (omega arith)
signed_plain (negsuc n) fits = let small : n < 2 ^ 127 = fits.sfits in All-cons (λ b. 32 < b) 45 (decimal (suc n)) (omega arith) (decimal_plain (suc n) (omega arith))

sign_plain : (positive : Bool) (ds : Word) → IsPlain ds → IsPlain (cond positive 43 45 ∷ ds)
sign_plain true ds h = All-cons (λ b. 32 < b) 43 ds (omega arith) h
sign_plain false ds h = All-cons (λ b. 32 < b) 45 ds (omega arith) h

literal_plain : (l : Literal) → l.term < 2 ^ 32 → IsPlain (literal_text l)
literal_plain l small = sign_plain l.positive (decimal l.term) (decimal_plain l.term (omega arith))

-- ---- lines

-- there is a word, and all are plain
abbrev pub IsPlainLine : Line → Type 0
IsPlainLine [] = ⊥
IsPlainLine (w ∷ rest) = IsPlain w × All IsPlain rest

count_plain : (name : Word) (n : ℕ) → all_plain name ≡ true → n ≤ 20000 → IsPlainLine (count_line name n)
count_plain name n h few = (plain_text name h, All-cons IsPlain (decimal n) [] (decimal_plain n (omega arith)) (All-nil IsPlain))

index_plain : (has : Bool) (z : ℤ) → FitsSigned w128 z → All IsPlain (cond has (signed_decimal z ∷ []) [])
index_plain true z fits = All-cons IsPlain (signed_decimal z) [] (signed_plain z fits) (All-nil IsPlain)
index_plain false z fits = All-nil IsPlain

term_plain : (t : Term) → IsTerm t → IsPlainLine (term_line t)
term_plain t fits =
    let args : All IsPlain (map decimal t.args) = All-map IsPlain decimal t.args (All-weaker (λ a. a < 2 ^ 32) (λ a. IsPlain (decimal a)) (λ a small. decimal_plain a (omega arith)) t.args fits.args) in
    (plain_text (codes "t") refl, All-cons IsPlain (kind_text t.kind) (index_words t ++ map decimal t.args) (plain_text (kind_text t.kind) (kind_test t.kind)) (All-append IsPlain (index_words t) (map decimal t.args) (index_plain (has_index t.kind) t.index fits.index) args))

step_plain : (owner : Owner) (s : Step) → IsStep owner s → IsPlainLine (step_line s)
step_plain owner s fits =
    let numbers : All IsPlain (map signed_decimal s.numbers) = All-map IsPlain signed_decimal s.numbers (All-weaker (λ n. FitsSigned w128 n) (λ n. IsPlain (signed_decimal n)) signed_plain s.numbers fits.numbers) in
    let literals : All IsPlain (map literal_text s.clause) = All-map IsPlain literal_text s.clause (All-weaker (λ (l : Literal). l.term < 2 ^ 32) (λ l. IsPlain (literal_text l)) literal_plain s.clause fits.terms) in (
      plain_text (codes "s") refl,
      All-cons IsPlain (rule_text s.rule) (map signed_decimal s.numbers ++ codes "=" ∷ map literal_text s.clause) (plain_text (rule_text s.rule) (rule_test s.rule))
          (All-append IsPlain (map signed_decimal s.numbers) (codes "=" ∷ map literal_text s.clause) numbers (All-cons IsPlain (codes "=") (map literal_text s.clause) (plain_text (codes "=") refl) literals)),
    )

derivation_plain : (name : Word) (owner : Owner) (d : Derivation) → all_plain name ≡ true → IsDerivation owner d → All IsPlainLine (derivation_lines name d)
derivation_plain name owner d h fits =
    let a = fits.few_terms in
    let b = fits.few_steps in
    let c = fits.few_literals in
    let head : IsPlainLine (head_line name (length d.terms) (length d.steps) (literals_of d.steps)) =
    (plain_text name h, All-cons IsPlain (decimal (length d.terms)) (decimal (length d.steps) ∷ decimal (literals_of d.steps) ∷ []) (decimal_plain (length d.terms) (omega arith)) (All-cons IsPlain (decimal (length d.steps)) (decimal (literals_of d.steps) ∷ []) (decimal_plain (length d.steps) (omega arith)) (All-cons IsPlain (decimal (literals_of d.steps)) [] (decimal_plain (literals_of d.steps) (omega arith)) (All-nil IsPlain)))) in
    let terms = All-map IsPlainLine term_line d.terms (All-weaker IsTerm (λ t. IsPlainLine (term_line t)) term_plain d.terms fits.terms) in
    let steps = All-map IsPlainLine step_line d.steps (All-weaker (IsStep owner) (λ s. IsPlainLine (step_line s)) (step_plain owner) d.steps fits.steps) in
    All-cons IsPlainLine (head_line name (length d.terms) (length d.steps) (literals_of d.steps)) (map term_line d.terms ++ map step_line d.steps) head (All-append IsPlainLine (map term_line d.terms) (map step_line d.steps) terms steps)

lemmas_plain : (n : ℕ) (ds : List Derivation) → AreLemmas n ds → All IsPlainLine (lemma_lines ds)
lemmas_plain n [] fits = All-nil IsPlainLine
lemmas_plain n (d ∷ ds) fits = All-append IsPlainLine (derivation_lines (codes "lemma") d) (lemma_lines ds) (derivation_plain (codes "lemma") (OfLemma n) d refl fits.0) (lemmas_plain (suc n) ds fits.1)

blocks_plain : (version : ℕ) (ds : List Derivation) → All (IsDerivation (OfCondition version)) ds → All IsPlainLine (block_lines ds)
blocks_plain version [] fits = All-nil IsPlainLine
blocks_plain version (d ∷ ds) fits = All-append IsPlainLine (derivation_lines (codes "condition") d) (block_lines ds) (derivation_plain (codes "condition") (OfCondition version) d refl (All-head (IsDerivation (OfCondition version)) d ds fits)) (blocks_plain version ds (All-tail (IsDerivation (OfCondition version)) d ds fits))

first_plain : (version lemmas : ℕ) → (version ≡ 1) ⊎ (version ≡ 2) → lemmas ≤ 20000 → All IsPlainLine (first_lines version lemmas)
first_plain version lemmas (inl one) few = subst (λ (v : ℕ). All IsPlainLine (first_lines v lemmas)) (sym one) (All-cons IsPlainLine (count_line (codes "vcc-cert") 1) [] (count_plain (codes "vcc-cert") 1 refl (omega arith)) (All-nil IsPlainLine))
first_plain version lemmas (inr two) few = subst (λ (v : ℕ). All IsPlainLine (first_lines v lemmas)) (sym two) (All-cons IsPlainLine (count_line (codes "vcc-cert") 2) (count_line (codes "lemmas") lemmas ∷ []) (count_plain (codes "vcc-cert") 2 refl (omega arith)) (All-cons IsPlainLine (count_line (codes "lemmas") lemmas) [] (count_plain (codes "lemmas") lemmas refl few) (All-nil IsPlainLine)))

pub certificate_plain : (c : Proofs) → IsCertificate c → All IsPlainLine (lines_of c)
certificate_plain c fits =
    let version : (c.version ≡ 1) ⊎ (c.version ≡ 2) = elim fits.version [ inl one ↦ inl one.0 | inr two ↦ inr two ] in
    let counted : Line = count_line (codes "conditions") (length c.blocks) in
    let end : All IsPlainLine ((codes "end" ∷ []) ∷ []) = All-cons IsPlainLine (codes "end" ∷ []) [] (plain_text (codes "end") refl, All-nil IsPlain) (All-nil IsPlainLine) in
    let blocks : All IsPlainLine (counted ∷ block_lines c.blocks) = All-cons IsPlainLine counted (block_lines c.blocks) (count_plain (codes "conditions") (length c.blocks) refl fits.few_blocks) (blocks_plain c.version c.blocks fits.blocks) in
    let first : List Line = first_lines c.version (length c.lemmas) in
    let lemmas = All-append IsPlainLine first (lemma_lines c.lemmas) (first_plain c.version (length c.lemmas) version fits.few_lemmas) (lemmas_plain 0 c.lemmas fits.lemmas) in
    All-append IsPlainLine ((first ++ lemma_lines c.lemmas) ++ counted ∷ block_lines c.blocks) ((codes "end" ∷ []) ∷ []) (All-append IsPlainLine (first ++ lemma_lines c.lemmas) (counted ∷ block_lines c.blocks) lemmas blocks) end

-- ---- cutting lines into words

no_byte : (c : ℕ) → c ≤ 32 → (w : Word) → IsPlain w → All (λ b. (eqb b c) ≡ false) w
no_byte c low w plain = All-weaker (λ b. 32 < b) (λ b. (eqb b c) ≡ false) (λ b above. ne_eqb b c (λ e. omega arith)) w plain

pub words_again : (w : Word) (rest : Line) → IsPlain w → All IsPlain rest → words_of (join_with_byte 32 (w ∷ rest)) ≡ w ∷ rest
words_again w [] here plain = slice_split_none (λ c. eqb c 32) w (no_byte 32 (omega arith) w here)
words_again w (v ∷ rest) here plain =
    slice_split_at (λ c. eqb c 32) w 32 (join_with_byte 32 (v ∷ rest)) (no_byte 32 (omega arith) w here) refl
    ∙ ap (λ (l : Line). w ∷ l) (words_again v rest (All-head IsPlain v rest plain) (All-tail IsPlain v rest plain))

pub within_line : (w : Word) (rest : Line) → IsPlain w → All IsPlain rest → IsWithinLine (join_with_byte 32 (w ∷ rest))
within_line w [] here plain = no_byte 10 (omega arith) w here
within_line w (v ∷ rest) here plain =
    All-append (λ b. (eqb b 10) ≡ false) w (32 ∷ join_with_byte 32 (v ∷ rest)) (no_byte 10 (omega arith) w here)
    (All-cons (λ b. (eqb b 10) ≡ false) 32 (join_with_byte 32 (v ∷ rest)) refl (within_line v rest (All-head IsPlain v rest plain) (All-tail IsPlain v rest plain)))
