-- The lines of a certificate are read as it.
use Rattle.std.proofs.Common.{◌≡◌, ℕ, suc, ◌+◌, ◌-◌, ◌≤◌, ◌<◌, Bool, true, false, cond, ◌&&◌, ◌||◌, eqb, List, [], ◌∷◌, ◌++◌, length, map, codes, All, Some, Ok, nat_lt, arith, length-append, refl, sym, ap, ap₂, subst, ◌∙◌, inl, inr, append_assoc}
use Rattle.std.specs.Prelude.{◌⊎◌}
use Rattle.std.proofs.lemmas.Bool.{cases_eq, lt-ltb, ne_eqb, eq-eqb}
use Rattle.std.proofs.lemmas.List.{append-nil}
use Rattle.std.proofs.lemmas.List.Elements.{All-head, All-tail}
use Rattle.terms.specs.declared.term.Term.{Term}
use Rattle.cert_format.specs.Derivations.{Derivation}
use Rattle.cert_format.specs.declared.certificate.Owner.{Owner}
use Rattle.cert_format.specs.declared.certificate.Owner.TheVariants.{OfLemma, OfCondition}
use Rattle.cert_format.specs.declared.certificate.Step.{Step}
use Rattle.cert_format.specs.declared.stage.Counts.{Counts}
use Rattle.cert_format.specs.declared.stage.Stage.{Stage}
use Rattle.cert_format.specs.declared.stage.Stage.TheVariants.{Version, LemmaCount, Lemmas, InDerivation, Conditions, Ended}
use Rattle.cert_lines.specs.Grammar.{Reading, ◌>>=◌}
use Rattle.cert_reader.specs.Keeping.{Progress, unread, completed, continued, reaches, after_version, take_version, take_lemma_count, take_condition_count, take_head, take_term, take_step, take_end, next_line, take_line, proofs_of}
use Rattle.cert_format.specs.Text.{Line, Proofs, literals_of, term_line, step_line, head_line, count_line, derivation_lines, first_lines, lemma_lines, block_lines, lines_of, owner_text, IsTerm, IsStep, IsDerivation, AreLemmas, IsCertificate}
use Rattle.cert_lines.proofs.Taken.{IsHead}
use Rattle.cert_lines.proofs.Again.{version_again, count_line_again, head_again, term_again, step_again, end_again}
use Rattle.cert_reader.proofs.Soundness.{literals_cons}

abbrev pub take_lines : Progress → List Line → Reading Progress
take_lines p [] = Ok p
take_lines p (x ∷ rest) = take_line p x >>= λ q. take_lines q rest

one_line : (p q : Progress) (x : Line) (rest : List Line) → take_line p x ≡ Ok q → take_lines p (x ∷ rest) ≡ take_lines q rest
one_line p q x rest e = rw e refl

counted_line : (p q : Progress) (x : Line) → next_line p p.stage x ≡ Ok q → take_line p x ≡ Ok (record q { lines = q.lines + 1 })
unfolding take_line
counted_line p q x e = rw e refl

-- ---- a lemma or block

counted_by : (b : Bool) (x y v w : Progress) (n : ℕ) → record x { lines = n } ≡ v → record y { lines = n } ≡ w → record (cond b x y) { lines = n } ≡ cond b v w
counted_by true x y v w n e f = e
counted_by false x y v w n e f = f

counted_continued : (p : Progress) (owner : Owner) (left : ℕ) (c : Counts) (s : Stage) (n : ℕ) → record (continued (record p { stage = s }) owner left c) { lines = n } ≡ continued (record p { lines = n }) owner left c
counted_continued p (OfLemma k) left c s n = counted_by (eqb c.terms 0 && eqb c.steps 0) (completed (record p { stage = s }) (OfLemma k) left) (record p { stage = InDerivation (OfLemma k) left c }) (completed (record p { lines = n }) (OfLemma k) left) (record p { stage = InDerivation (OfLemma k) left c; lines = n }) n refl refl
counted_continued p (OfCondition v) left c s n = counted_by (eqb c.terms 0 && eqb c.steps 0) (completed (record p { stage = s }) (OfCondition v) left) (record p { stage = InDerivation (OfCondition v) left c }) (completed (record p { lines = n }) (OfCondition v) left) (record p { stage = InDerivation (OfCondition v) left c; lines = n }) n refl refl

not_both : (a b : ℕ) → 0 < a + b → (eqb a 0 && eqb b 0) ≡ false
not_both a b h =
    elim (cases_eq a 0) [
      | inl za ↦ rw (eq-eqb a 0 za, ne_eqb b 0 (λ zb. omega arith)) refl
      | inr na ↦ rw (ne_eqb a 0 na) refl
    ]

goes_on : (p : Progress) (owner : Owner) (left : ℕ) (c : Counts) → 0 < c.terms + c.steps → continued p owner left c ≡ record p { stage = InDerivation owner left c }
goes_on p owner left c above = rw (not_both c.terms c.steps above) refl

-- what one more line of it leaves
inside : (p q : Progress) (owner : Owner) (left : ℕ) (c e : Counts) (x : Line) (rest : List Line) → 0 < c.terms + c.steps → next_line (record p { stage = InDerivation owner left c }) (InDerivation owner left c) x ≡ Ok (continued (record q { stage = InDerivation owner left c }) owner left e)
    → (n : ℕ) × (take_lines (continued p owner left c) (x ∷ rest) ≡ take_lines (continued (record q { lines = n }) owner left e) rest)
inside p q owner left c e x rest above read =
    let from : Progress = record p { stage = InDerivation owner left c } in
    let to : Progress = continued (record q { stage = InDerivation owner left c }) owner left e in
    (to.lines + 1, ap (λ (s : Progress). take_lines s (x ∷ rest)) (goes_on p owner left c above) ∙ one_line from (record to { lines = to.lines + 1 }) x rest (counted_line from to x read) ∙ ap (λ (s : Progress). take_lines s rest) (counted_continued q owner left e (InDerivation owner left c) (to.lines + 1)))

one_term : (p : Progress) (owner : Owner) (left : ℕ) (c : Counts) (t : Term) → 0 < c.terms → IsTerm t
    → next_line (record p { stage = InDerivation owner left c }) (InDerivation owner left c) (term_line t) ≡ Ok (continued (record p { terms = p.terms ++ t ∷ []; stage = InDerivation owner left c }) owner left (record c { terms = c.terms - 1 }))
unfolding take_term
one_term p owner left c t above fits = rw (ne_eqb c.terms 0 (λ e. omega arith), term_again t fits) refl

same_terms : (p : Progress) (ts : List Term) (n : ℕ) → ts ≡ p.terms → record p { terms = ts; lines = n } ≡ record p { lines = n }
same_terms p ts n e = ap (λ (x : List Term). record p { terms = x; lines = n }) e

terms_again : (ts : List Term) (p : Progress) (owner : Owner) (left : ℕ) (c : Counts) (rest : List Line) → c.terms ≡ length ts → All IsTerm ts
    → (n : ℕ) × (take_lines (continued p owner left c) (map term_line ts ++ rest) ≡ take_lines (continued (record p { terms = p.terms ++ ts; lines = n }) owner left (record c { terms = 0 })) rest)
terms_again [] p owner left c rest count fits =
    (p.lines, ap₂ (λ (x : List Term) (k : ℕ). take_lines (continued (record p { terms = x }) owner left (record c { terms = k })) rest) (sym (append-nil p.terms)) count)
terms_again (t ∷ ts) p owner left c rest count fits =
    let above : 0 < c.terms = omega arith in
    let e : Counts = record c { terms = c.terms - 1 } in
    let q : Progress = record p { terms = p.terms ++ t ∷ [] } in
    let first = inside p q owner left c e (term_line t) (map term_line ts ++ rest) (omega arith) (one_term p owner left c t above (All-head IsTerm t ts fits)) in
    let more = terms_again ts (record q { lines = first.0 }) owner left e rest (omega arith) (All-tail IsTerm t ts fits) in
    (more.0, first.1 ∙ more.1 ∙ ap (λ (x : List Term). take_lines (continued (record p { terms = x; lines = more.0 }) owner left (record c { terms = 0 })) rest) (append_assoc p.terms (t ∷ []) ts))

one_step : (p : Progress) (owner : Owner) (left : ℕ) (c : Counts) (s : Step) → c.terms ≡ 0 → length s.clause ≤ c.literals → reaches c s ≡ true → IsStep owner s
    → next_line (record p { stage = InDerivation owner left c }) (InDerivation owner left c) (step_line s) ≡ Ok (continued (record p { steps = p.steps ++ s ∷ []; stage = InDerivation owner left c }) owner left (record { terms = 0; steps = c.steps - 1; literals = c.literals - length s.clause }))
unfolding take_step
one_step p owner left c s none few last fits = rw (eq-eqb c.terms 0 none, step_again owner c.literals s fits few, last) refl

or_true : (b : Bool) → (b || true) ≡ true
or_true true = refl
or_true false = refl

reaches_last : (c : Counts) (s : Step) (ss : List Step) → c.steps ≡ length (s ∷ ss) → c.literals ≡ literals_of (s ∷ ss) → reaches c s ≡ true
reaches_last c s [] steps literals = let total = literals_cons s [] in rw (eq-eqb (length s.clause) c.literals (omega arith)) (or_true (nat_lt 1 c.steps))
reaches_last c s (x ∷ ss) steps literals = rw (lt-ltb 1 c.steps (omega arith)) refl

steps_again : (ss : List Step) (p : Progress) (owner : Owner) (left : ℕ) (c : Counts) (rest : List Line) → c.terms ≡ 0 → c.steps ≡ length ss → c.literals ≡ literals_of ss → All (IsStep owner) ss
    → (n : ℕ) × (take_lines (continued p owner left c) (map step_line ss ++ rest) ≡ take_lines (completed (record p { steps = p.steps ++ ss; lines = n }) owner left) rest)
steps_again [] p owner left c rest none count literals fits =
    let done : continued p owner left c ≡ completed p owner left = rw (eq-eqb c.terms 0 none, eq-eqb c.steps 0 count) refl in
    (p.lines, ap (λ (s : Progress). take_lines s rest) done ∙ ap (λ (x : List Step). take_lines (completed (record p { steps = x }) owner left) rest) (sym (append-nil p.steps)))
steps_again (s ∷ ss) p owner left c rest none count literals fits =
    let total = literals_cons s ss in
    let few : length s.clause ≤ c.literals = omega arith in
    let e : Counts = record { terms = 0; steps = c.steps - 1; literals = c.literals - length s.clause } in
    let q : Progress = record p { steps = p.steps ++ s ∷ [] } in
    let first = inside p q owner left c e (step_line s) (map step_line ss ++ rest) (omega arith) (one_step p owner left c s none few (reaches_last c s ss count literals) (All-head (IsStep owner) s ss fits)) in
    let more = steps_again ss (record q { lines = first.0 }) owner left e rest refl (omega arith) (omega arith) (All-tail (IsStep owner) s ss fits) in
    (more.0, first.1 ∙ more.1 ∙ ap (λ (x : List Step). take_lines (completed (record p { steps = x; lines = more.0 }) owner left) rest) (append_assoc p.steps (s ∷ []) ss))

abbrev counts_of : Derivation → Counts
counts_of d = record { terms = length d.terms; steps = length d.steps; literals = literals_of d.steps }

no_literals : (ss : List Step) → length ss ≡ 0 → literals_of ss ≡ 0
no_literals [] e = refl
no_literals (s ∷ ss) e = absurd (omega arith)

is_head : (owner : Owner) (d : Derivation) → IsDerivation owner d → IsHead owner (counts_of d)
is_head owner d fits = record { few_terms = fits.few_terms; some_steps = fits.some_steps; few_steps = fits.few_steps; few_literals = fits.few_literals; none = no_literals d.steps }

-- no lemma or block is open
abbrev pub between : Progress → Progress
between p = record p { terms = []; steps = [] }

head_of : (p : Progress) (owner : Owner) (left : ℕ) (d : Derivation) → IsDerivation owner d → take_head p owner left (head_line (owner_text owner) (length d.terms) (length d.steps) (literals_of d.steps)) ≡ Ok (continued p owner left (counts_of d))
unfolding take_head
head_of p owner left d fits = rw (head_again owner (counts_of d) (is_head owner d fits)) refl

-- its lines, from where its first line has to come
whole_again : (p : Progress) (owner : Owner) (left : ℕ) (d : Derivation) (rest : List Line) → IsDerivation owner d
    → next_line (between p) p.stage (head_line (owner_text owner) (length d.terms) (length d.steps) (literals_of d.steps)) ≡ take_head (between p) owner left (head_line (owner_text owner) (length d.terms) (length d.steps) (literals_of d.steps))
    → (n : ℕ) × (take_lines (between p) (derivation_lines (owner_text owner) d ++ rest) ≡ take_lines (completed (record p { terms = d.terms; steps = d.steps; lines = n }) owner left) rest)
whole_again p owner left d rest fits is =
    let c = counts_of d in
    let x : Line = head_line (owner_text owner) (length d.terms) (length d.steps) (literals_of d.steps) in
    let to : Progress = continued (between p) owner left c in
    let body : List Line = map term_line d.terms ++ map step_line d.steps in
    let first : take_lines (between p) (x ∷ (body ++ rest)) ≡ take_lines (record to { lines = to.lines + 1 }) (body ++ rest) = one_line (between p) (record to { lines = to.lines + 1 }) x (body ++ rest) (counted_line (between p) to x (is ∙ head_of (between p) owner left d fits)) in
    let q : Progress = record (between p) { lines = to.lines + 1 } in
    let counted : record to { lines = to.lines + 1 } ≡ continued q owner left c = counted_continued (between p) owner left c p.stage (to.lines + 1) in
    let terms = terms_again d.terms q owner left c (map step_line d.steps ++ rest) refl fits.terms in
    let r : Progress = record p { terms = d.terms; steps = []; lines = terms.0 } in
    let steps = steps_again d.steps r owner left (record c { terms = 0 }) rest refl refl refl fits.steps in
    (steps.0, first ∙ ap (λ (s : Progress). take_lines s (body ++ rest)) counted ∙ ap (take_lines (continued q owner left c)) (append_assoc (map term_line d.terms) (map step_line d.steps) rest) ∙ terms.1 ∙ steps.1)

-- ---- lemmas

to_lemma : (p : Progress) (left : ℕ) (x : Line) → next_line p (Lemmas (suc left)) x ≡ take_head p (OfLemma (p.lemma_count - suc left)) left x
to_lemma p left x = rw (ne_eqb (suc left) 0 (λ e. omega arith)) (ap (λ (n : ℕ). take_head p (OfLemma (p.lemma_count - suc left)) n x) (let less : suc left - 1 ≡ left = omega arith in less))

to_block : (p : Progress) (left : ℕ) (x : Line) → next_line p (Conditions (suc left)) x ≡ take_head p (OfCondition p.version) left x
to_block p left x = rw (ne_eqb (suc left) 0 (λ e. omega arith)) (ap (λ (n : ℕ). take_head p (OfCondition p.version) n x) (let less : suc left - 1 ≡ left = omega arith in less))

lemmas_again : (ds : List Derivation) (p : Progress) (rest : List Line) → p.stage ≡ Lemmas (length ds) → p.lemma_count ≡ length p.lemmas + length ds → AreLemmas (length p.lemmas) ds
    → (n : ℕ) × (take_lines (between p) (lemma_lines ds ++ rest) ≡ take_lines (between (record p { stage = Lemmas 0; lemmas = p.lemmas ++ ds; lines = n })) rest)
lemmas_again [] p rest is count fits = (p.lines, ap₂ (λ (s : Stage) (x : List Derivation). take_lines (between (record p { stage = s; lemmas = x })) rest) is (sym (append-nil p.lemmas)))
lemmas_again (d ∷ ds) p rest is count fits =
    let own : p.lemma_count - suc (length ds) ≡ length p.lemmas = omega arith in
    let x : Line = head_line (codes "lemma") (length d.terms) (length d.steps) (literals_of d.steps) in
    let lines : List Line = lemma_lines ds ++ rest in
    let head : next_line (between p) p.stage x ≡ take_head (between p) (OfLemma (length p.lemmas)) (length ds) x = ap (λ (s : Stage). next_line (between p) s x) is ∙ to_lemma (between p) (length ds) x ∙ ap (λ (n : ℕ). take_head (between p) (OfLemma n) (length ds) x) own in
    let first = whole_again p (OfLemma (length p.lemmas)) (length ds) d lines fits.0 head in
    let q : Progress = record p { stage = Lemmas (length ds); lemmas = p.lemmas ++ d ∷ []; lines = first.0 } in
    let long = length-append p.lemmas (d ∷ []) in
    let next : length (p.lemmas ++ d ∷ []) ≡ suc (length p.lemmas) = omega arith in
    let more = lemmas_again ds q rest refl (omega arith) (subst (λ (n : ℕ). AreLemmas n ds) (sym next) fits.1) in
    (more.0, ap (take_lines (between p)) (append_assoc (derivation_lines (codes "lemma") d) (lemma_lines ds) rest) ∙ first.1 ∙ more.1 ∙ ap (λ (y : List Derivation). take_lines (between (record p { stage = Lemmas 0; lemmas = y; lines = more.0 })) rest) (append_assoc p.lemmas (d ∷ []) ds))

-- ---- blocks

blocks_again : (ds : List Derivation) (p : Progress) (rest : List Line) → p.stage ≡ Conditions (length ds) → All (IsDerivation (OfCondition p.version)) ds
    → (n : ℕ) × (take_lines (between p) (block_lines ds ++ rest) ≡ take_lines (between (record p { stage = Conditions 0; blocks = p.blocks ++ ds; lines = n })) rest)
blocks_again [] p rest is fits = (p.lines, ap₂ (λ (s : Stage) (x : List Derivation). take_lines (between (record p { stage = s; blocks = x })) rest) is (sym (append-nil p.blocks)))
blocks_again (d ∷ ds) p rest is fits =
    let x : Line = head_line (codes "condition") (length d.terms) (length d.steps) (literals_of d.steps) in
    let lines : List Line = block_lines ds ++ rest in
    let head : next_line (between p) p.stage x ≡ take_head (between p) (OfCondition p.version) (length ds) x = ap (λ (s : Stage). next_line (between p) s x) is ∙ to_block (between p) (length ds) x in
    let first = whole_again p (OfCondition p.version) (length ds) d lines (All-head (IsDerivation (OfCondition p.version)) d ds fits) head in
    let q : Progress = record p { stage = Conditions (length ds); blocks = p.blocks ++ d ∷ []; lines = first.0 } in
    let more = blocks_again ds q rest refl (All-tail (IsDerivation (OfCondition p.version)) d ds fits) in
    (more.0, ap (take_lines (between p)) (append_assoc (derivation_lines (codes "condition") d) (block_lines ds) rest) ∙ first.1 ∙ more.1 ∙ ap (λ (y : List Derivation). take_lines (between (record p { stage = Conditions 0; blocks = y; lines = more.0 })) rest) (append_assoc p.blocks (d ∷ []) ds))

-- ---- a certificate

to_version : (v : ℕ) → (v ≡ 1) ⊎ (v ≡ 2) → next_line unread Version (count_line (codes "vcc-cert") v) ≡ Ok (record unread { version = v; stage = after_version v })
unfolding take_version
to_version v is = rw (version_again v is) refl

to_lemma_count : (p : Progress) (n : ℕ) → n ≤ 20000 → next_line p LemmaCount (count_line (codes "lemmas") n) ≡ Ok (record p { lemma_count = n; stage = Lemmas n })
unfolding take_lemma_count
to_lemma_count p n few = rw (count_line_again (codes "lemmas") n few) refl

to_condition_count : (p : Progress) (n : ℕ) → n ≤ 20000 → next_line p (Lemmas 0) (count_line (codes "conditions") n) ≡ Ok (record p { count = Some n; stage = Conditions n })
unfolding take_condition_count
to_condition_count p n few = rw (count_line_again (codes "conditions") n few) refl

to_end : (p : Progress) → next_line p (Conditions 0) (codes "end" ∷ []) ≡ Ok (record p { stage = Ended })
unfolding take_end
to_end p = rw end_again refl

-- where lemmas have to come
abbrev at_lemmas : ℕ → ℕ → ℕ → Progress
at_lemmas version count n = record unread { version = version; lemma_count = count; stage = Lemmas count; lines = n }

first_again : (c : Proofs) (rest : List Line) → IsCertificate c → (n : ℕ) × (take_lines unread (first_lines c.version (length c.lemmas) ++ rest) ≡ take_lines (at_lemmas c.version (length c.lemmas) n) rest)
first_again c rest fits = elim fits.version [
  | inl one ↦
      let none : length c.lemmas ≡ 0 = ap (λ (ds : List Derivation). length ds) one.1 in
      let v1 = one_line unread (at_lemmas 1 0 1) (count_line (codes "vcc-cert") 1) rest (counted_line unread (record unread { version = 1; stage = Lemmas 0 }) (count_line (codes "vcc-cert") 1) (to_version 1 (inl refl))) in
      (1, ap₂ (λ (v k : ℕ). take_lines unread (first_lines v k ++ rest)) one.0 none ∙ v1 ∙ ap₂ (λ (v k : ℕ). take_lines (at_lemmas v k 1) rest) (sym one.0) (sym none))
  | inr two ↦
      let m : ℕ = length c.lemmas in
      let few = fits.few_lemmas in
      let p1 : Progress = record unread { version = 2; stage = LemmaCount; lines = 1 } in
      let second : List Line = count_line (codes "lemmas") m ∷ rest in
      let v2 = one_line unread p1 (count_line (codes "vcc-cert") 2) second (counted_line unread (record unread { version = 2; stage = LemmaCount }) (count_line (codes "vcc-cert") 2) (to_version 2 (inr refl))) in
      let m2 = one_line p1 (at_lemmas 2 m 2) (count_line (codes "lemmas") m) rest (counted_line p1 (record p1 { lemma_count = m; stage = Lemmas m }) (count_line (codes "lemmas") m) (to_lemma_count p1 m few)) in
      (2, ap (λ (v : ℕ). take_lines unread (first_lines v m ++ rest)) two ∙ v2 ∙ m2 ∙ ap (λ (v : ℕ). take_lines (at_lemmas v m 2) rest) (sym two))
]

-- where the certificate was read
pub record ReadsAs (c : Proofs) (p : Progress) : Type 0 where
  pub stage : p.stage ≡ Ended
  pub proofs : proofs_of p ≡ c

pub certificate_again : (c : Proofs) → IsCertificate c → (p : Progress) × (take_lines unread (lines_of c) ≡ Ok p) × ReadsAs c p
certificate_again c fits =
    let few = fits.few_blocks in
    let counted : Line = count_line (codes "conditions") (length c.blocks) in
    let behind_blocks : List Line = (codes "end" ∷ []) ∷ [] in
    let behind_count : List Line = block_lines c.blocks ++ behind_blocks in
    let behind_first : List Line = lemma_lines c.lemmas ++ counted ∷ behind_count in
    let first = first_again c behind_first fits in
    let p1 : Progress = at_lemmas c.version (length c.lemmas) first.0 in
    let lemmas = lemmas_again c.lemmas p1 (counted ∷ behind_count) refl (omega arith) fits.lemmas in
    let p2 : Progress = record p1 { stage = Lemmas 0; lemmas = c.lemmas; lines = lemmas.0 } in
    let p3 : Progress = record p2 { count = Some (length c.blocks); stage = Conditions (length c.blocks); lines = lemmas.0 + 1 } in
    let count = one_line p2 p3 counted behind_count (counted_line p2 (record p2 { count = Some (length c.blocks); stage = Conditions (length c.blocks) }) counted (to_condition_count p2 (length c.blocks) few)) in
    let blocks = blocks_again c.blocks p3 behind_blocks refl fits.blocks in
    let p4 : Progress = record p3 { stage = Conditions 0; blocks = c.blocks; lines = blocks.0 } in
    let p5 : Progress = record p4 { stage = Ended; lines = blocks.0 + 1 } in
    let end = one_line p4 p5 (codes "end" ∷ []) [] (counted_line p4 (record p4 { stage = Ended }) (codes "end" ∷ []) (to_end p4)) in
    let regrouped : lines_of c ≡ first_lines c.version (length c.lemmas) ++ behind_first = simp append_assoc in
    (p5, ap (take_lines unread) regrouped ∙ first.1 ∙ lemmas.1 ∙ count ∙ blocks.1 ∙ end, record { stage = refl; proofs = refl })
