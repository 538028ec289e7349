-- The text of a certificate of version 2, and which certificates can be written.
use Rattle.std.proofs.Common.{◌≡◌, ℕ, suc, List, [], ◌∷◌, ◌++◌, length, flat_map, All, codes, refl, sym, ap, subst, ◌∙◌, append_assoc, arith}
use Rattle.std.proofs.lemmas.Fmt.{decimal_digit}
use Rattle.std.proofs.lemmas.List.Concat.{flat_map-append}
use Rattle.std.proofs.lemmas.List.Elements.{All-append, All-cons, All-head, All-nil, All-tail, All-weaker}
use Rattle.cert_format.specs.Derivations.{Derivation}
use Rattle.cert_format.specs.Text.{AreLemmas, IsCertificate, IsDerivation, Line, Proofs, Word, block_lines, block_text, count_line, derivation_lines, first_lines, lemma_lines, lemma_text, line_text, lines_of, text_of}
use Rattle.cert_format.specs.declared.certificate.Owner.TheVariants.{OfCondition}
use Rattle.upgrade_laws.specs.Laws.{FitIndices}
use Rattle.vcc_io.specs.CertificateTexts.{HasFewLiterals, HasIndex, HaveIndices}

-- ---- lemmas and blocks, one after the other

derivations_text : (name : Word) (ds : List Derivation) (rest : List Line) → text_of (flat_map (derivation_lines name) ds ++ rest) ≡ flat_map (λ (d : Derivation). text_of (derivation_lines name d)) ds ++ text_of rest
derivations_text name [] rest = refl
derivations_text name (d ∷ ds) rest =
    let texts : List ℕ = flat_map (λ (x : Derivation). text_of (derivation_lines name x)) ds in
    ap text_of (append_assoc (derivation_lines name d) (flat_map (derivation_lines name) ds) rest)
    ∙ flat_map-append line_text (derivation_lines name d) (flat_map (derivation_lines name) ds ++ rest)
    ∙ ap (λ (t : List ℕ). text_of (derivation_lines name d) ++ t) (derivations_text name ds rest)
    ∙ sym (append_assoc (text_of (derivation_lines name d)) texts (text_of rest))

-- ---- the whole

-- the lines from the one of the number of lemmas on
later_lines : List Derivation → List Derivation → List Line
later_lines ls bs = lemma_lines ls ++ (count_line (codes "conditions") (length bs) ∷ (block_lines bs ++ (codes "end" ∷ []) ∷ []))

later_text : (ls bs : List Derivation) → text_of (later_lines ls bs) ≡ flat_map lemma_text ls ++ (line_text (count_line (codes "conditions") (length bs)) ++ (flat_map block_text bs ++ codes "end\n"))
unfolding later_lines
later_text ls bs =
    derivations_text (codes "lemma") ls (count_line (codes "conditions") (length bs) ∷ (block_lines bs ++ (codes "end" ∷ []) ∷ []))
    ∙ ap (λ (t : List ℕ). flat_map lemma_text ls ++ (line_text (count_line (codes "conditions") (length bs)) ++ t)) (derivations_text (codes "condition") bs ((codes "end" ∷ []) ∷ []))

lines_split : (ls bs : List Derivation) → lines_of (record { version = 2; lemmas = ls; blocks = bs }) ≡ first_lines 2 (length ls) ++ later_lines ls bs
unfolding later_lines
lines_split ls bs =
    ap (λ (rest : List Line). count_line (codes "vcc-cert") 2 ∷ count_line (codes "lemmas") (length ls) ∷ rest) (append_assoc (lemma_lines ls) (count_line (codes "conditions") (length bs) ∷ block_lines bs) ((codes "end" ∷ []) ∷ []))

first_text : (n : ℕ) (rest : List Line) → text_of (first_lines 2 n ++ rest) ≡ codes "vcc-cert 2\n" ++ (line_text (count_line (codes "lemmas") n) ++ text_of rest)
first_text n rest = ap (λ (d : List ℕ). line_text (codes "vcc-cert" ∷ d ∷ []) ++ (line_text (count_line (codes "lemmas") n) ++ text_of rest)) (decimal_digit 2 (omega arith))

-- the text of a certificate of version 2, piece by piece
second_text : List Derivation → List Derivation → List ℕ
second_text ls bs = codes "vcc-cert 2\n" ++ (line_text (count_line (codes "lemmas") (length ls)) ++ (flat_map lemma_text ls ++ (line_text (count_line (codes "conditions") (length bs)) ++ (flat_map block_text bs ++ codes "end\n"))))

whole_text : (k : Proofs) → k.version ≡ 2 → text_of (lines_of k) ≡ second_text k.lemmas k.blocks
unfolding second_text
whole_text k second =
    ap (λ (v : ℕ). text_of (lines_of (record { version = v; lemmas = k.lemmas; blocks = k.blocks }))) second
    ∙ ap text_of (lines_split k.lemmas k.blocks)
    ∙ first_text (length k.lemmas) (later_lines k.lemmas k.blocks)
    ∙ ap (λ (t : List ℕ). codes "vcc-cert 2\n" ++ (line_text (count_line (codes "lemmas") (length k.lemmas)) ++ t)) (later_text k.lemmas k.blocks)

-- its first line
pub begins_second : (k : Proofs) → k.version ≡ 2 → (rest : List ℕ) × (text_of (lines_of k) ≡ codes "vcc-cert 2\n" ++ rest)
unfolding second_text
begins_second k second = (line_text (count_line (codes "lemmas") (length k.lemmas)) ++ (flat_map lemma_text k.lemmas ++ (line_text (count_line (codes "conditions") (length k.blocks)) ++ (flat_map block_text k.blocks ++ codes "end\n"))), whole_text k second)

-- ---- as it is written

six : (a b c d e f : List ℕ) → ((((([] ++ a) ++ b) ++ c) ++ d) ++ e) ++ f ≡ a ++ (b ++ (c ++ (d ++ (e ++ f))))
six a b c d e f = simp append_assoc

pieces : (n m : ℕ) (ls bs : List Derivation) → List ℕ
pieces n m ls bs = ((((([] ++ codes "vcc-cert 2\n") ++ line_text (count_line (codes "lemmas") n)) ++ flat_map lemma_text ls) ++ line_text (count_line (codes "conditions") m)) ++ flat_map block_text bs) ++ codes "end\n"

pieces_are : (n m : ℕ) (ls bs xs ys : List Derivation) → n ≡ length xs → m ≡ length ys → ls ≡ xs → bs ≡ ys → pieces n m ls bs ≡ second_text xs ys
unfolding pieces second_text
pieces_are n m ls bs xs ys e f g h =
    ap (λ (i : ℕ). pieces i m ls bs) e ∙ ap (λ (i : ℕ). pieces (length xs) i ls bs) f ∙ ap (λ (ds : List Derivation). pieces (length xs) (length ys) ds bs) g
    ∙ ap (λ (ds : List Derivation). pieces (length xs) (length ys) xs ds) h
    ∙ six (codes "vcc-cert 2\n") (line_text (count_line (codes "lemmas") (length xs))) (flat_map lemma_text xs) (line_text (count_line (codes "conditions") (length ys))) (flat_map block_text ys) (codes "end\n")

-- the pieces that were written one after the other are the text
pub written : (k : Proofs) (n m : ℕ) (ls bs : List Derivation) (t0 t1 t2 t3 t4 t5 t6 : List ℕ) → k.version ≡ 2 → n ≡ length k.lemmas → m ≡ length k.blocks → ls ≡ k.lemmas → bs ≡ k.blocks
    → t0 ≡ [] → t1 ≡ t0 ++ codes "vcc-cert 2\n" → t2 ≡ t1 ++ line_text (count_line (codes "lemmas") n) → t3 ≡ t2 ++ flat_map lemma_text ls → t4 ≡ t3 ++ line_text (count_line (codes "conditions") m) → t5 ≡ t4 ++ flat_map block_text bs → t6 ≡ t5 ++ codes "end\n"
    → t6 ≡ text_of (lines_of k)
unfolding pieces
written k n m ls bs t0 t1 t2 t3 t4 t5 t6 second many each lemmas blocks e0 e1 e2 e3 e4 e5 e6 =
    let one = e1 ∙ ap (λ (t : List ℕ). t ++ codes "vcc-cert 2\n") e0 in
    let two = e2 ∙ ap (λ (t : List ℕ). t ++ line_text (count_line (codes "lemmas") n)) one in
    let three = e3 ∙ ap (λ (t : List ℕ). t ++ flat_map lemma_text ls) two in
    let four = e4 ∙ ap (λ (t : List ℕ). t ++ line_text (count_line (codes "conditions") m)) three in
    let five = e5 ∙ ap (λ (t : List ℕ). t ++ flat_map block_text bs) four in
    let all : t6 ≡ pieces n m ls bs = e6 ∙ ap (λ (t : List ℕ). t ++ codes "end\n") five in
    all ∙ pieces_are n m ls bs k.lemmas k.blocks many each lemmas blocks ∙ sym (whole_text k second)

-- ---- few literals

lemmas_few : (n : ℕ) (ds : List Derivation) → AreLemmas n ds → All HasFewLiterals ds
lemmas_few n [] are = All-nil HasFewLiterals
lemmas_few n (d ∷ ds) are = All-cons HasFewLiterals d ds are.0.few_literals (lemmas_few (suc n) ds are.1)

pub few_in_lemmas : (k : Proofs) (ds : List Derivation) → IsCertificate k → ds ≡ k.lemmas → All HasFewLiterals ds
few_in_lemmas k ds fits is = subst (λ (xs : List Derivation). All HasFewLiterals xs) (sym is) (lemmas_few 0 k.lemmas fits.lemmas)

pub few_in_blocks : (k : Proofs) (ds : List Derivation) → IsCertificate k → ds ≡ k.blocks → All HasFewLiterals ds
few_in_blocks k ds fits is = subst (λ (xs : List Derivation). All HasFewLiterals xs) (sym is) (All-weaker (IsDerivation (OfCondition k.version)) HasFewLiterals (λ d fit. fit.few_literals) k.blocks fits.blocks)

-- ---- indices

pub all_indices : (ds : List Derivation) → All HaveIndices ds → FitIndices ds
all_indices [] have = All-nil HasIndex
all_indices (d ∷ ds) have = All-append HasIndex d.terms (flat_map (λ (x : Derivation). x.terms) ds) (All-head HaveIndices d ds have) (all_indices ds (All-tail HaveIndices d ds have))
