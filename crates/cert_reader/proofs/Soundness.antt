-- The lines that were read so far are those of what was read.
use Rattle.std.proofs.Common.{◌≡◌, ℕ, suc, ◌+◌, ◌-◌, ◌≤◌, ◌<◌, true, false, ◌&&◌, eqb, List, [], ◌∷◌, ◌++◌, length, map, codes, All, flat_map, Some, Ok, nat_lt, arith, length-append, refl, sym, ap, subst, ◌∙◌, inl, inr, append_assoc}
use Rattle.std.specs.Prelude.{◌⊎◌}
use Rattle.std.proofs.lemmas.Bool.{cases_Bool, cases_eq, eqb-true, ltb-true, ne_eqb, eq-eqb}
use Rattle.std.proofs.lemmas.List.{append-nil, map-append}
use Rattle.std.proofs.lemmas.List.Concat.{flat_map-append}
use Rattle.std.proofs.lemmas.List.Sums.{sum_by-cons}
use Rattle.std.proofs.lemmas.List.Elements.{All-nil, All-push}
use Rattle.terms.specs.declared.term.Term.{Term}
use Rattle.cert_format.specs.Derivations.{Derivation}
use Rattle.cert_format.specs.declared.certificate.Owner.{Owner}
use Rattle.cert_format.specs.declared.certificate.Owner.TheVariants.{OfLemma, OfCondition}
use Rattle.cert_format.specs.declared.certificate.Step.{Step}
use Rattle.cert_format.specs.declared.fault.LineFault.TheVariants as l
use Rattle.cert_format.specs.declared.stage.Counts.{Counts}
use Rattle.cert_format.specs.declared.stage.Stage.{Stage}
use Rattle.cert_format.specs.declared.stage.Stage.TheVariants.{Version, LemmaCount, Lemmas, InDerivation, Conditions, Ended}
use Rattle.cert_lines.specs.Grammar as grammar
use Rattle.cert_lines.specs.Grammar.{Reading, ◌>>=◌, needs}
use Rattle.cert_reader.specs.Keeping.{Progress, completed, continued, with_term, with_step, reaches, after_version, take_version, take_lemma_count, take_condition_count, take_head, take_term, take_step, take_end, next_line, take_line, proofs_of}
use Rattle.cert_format.specs.Text.{Word, Line, literals_of, term_line, step_line, head_line, count_line, derivation_lines, first_lines, lemma_lines, block_lines, lines_of, owner_text, least_steps, IsTerm, IsStep, IsDerivation, AreLemmas, IsCertificate}
use Rattle.cert_lines.proofs.Taken.{IsHead, ok_is, bind_ok, needs_ok, version_takes, count_line_takes, head_takes, term_takes, step_takes, end_takes}

-- ---- the lines

-- those of a lemma or block of which some are still to come
abbrev pub part : Word → List Term → List Step → Counts → List Line
part name terms steps c = head_line name (length terms + c.terms) (length steps + c.steps) (literals_of steps + c.literals) ∷ (map term_line terms ++ map step_line steps)

abbrev pub lemmas_so_far : Progress → ℕ → List Line
lemmas_so_far p more = first_lines p.version (length p.lemmas + more) ++ lemma_lines p.lemmas

abbrev pub blocks_so_far : Progress → ℕ → List Line
blocks_so_far p more = lemmas_so_far p 0 ++ count_line (codes "conditions") (length p.blocks + more) ∷ block_lines p.blocks

abbrev pub derivation_so_far : Progress → Owner → ℕ → Counts → List Line
derivation_so_far p (OfLemma n) left c = lemmas_so_far p (suc left) ++ part (codes "lemma") p.terms p.steps c
derivation_so_far p (OfCondition v) left c = blocks_so_far p (suc left) ++ part (codes "condition") p.terms p.steps c

abbrev pub so_far : Progress → Stage → List Line
so_far p Version = []
so_far p LemmaCount = count_line (codes "vcc-cert") p.version ∷ []
so_far p (Lemmas left) = lemmas_so_far p left
so_far p (InDerivation owner left c) = derivation_so_far p owner left c
so_far p (Conditions left) = blocks_so_far p left
so_far p Ended = blocks_so_far p 0 ++ (codes "end" ∷ []) ∷ []

-- ---- what is known of them

pub record LemmasFit (v count : ℕ) (ds : List Derivation) (more : ℕ) : Type 0 where
  pub version : ((v ≡ 1) × (ds ≡ []) × (more ≡ 0)) ⊎ (v ≡ 2)
  pub total : count ≡ length ds + more
  pub each : AreLemmas 0 ds
  pub few : length ds + more ≤ 20000

pub record BlocksFit (v : ℕ) (ds : List Derivation) (more : ℕ) : Type 0 where
  pub each : All (IsDerivation (OfCondition v)) ds
  pub few : length ds + more ≤ 20000

pub record PartFits (owner : Owner) (ts : List Term) (ss : List Step) (c : Counts) : Type 0 where
  pub terms : All IsTerm ts
  pub steps : All (IsStep owner) ss
  pub few_terms : length ts + c.terms ≤ 1048576
  pub some_steps : least_steps owner ≤ length ss + c.steps
  pub few_steps : length ss + c.steps ≤ 1048576
  pub few_literals : literals_of ss + c.literals ≤ 4194304
  pub none : c.steps ≡ 0 → c.literals ≡ 0
  pub order : (c.terms ≡ 0) ⊎ (ss ≡ [])

abbrev pub PlaceFits : Progress → Owner → ℕ → Type 0
PlaceFits p (OfLemma n) left = LemmasFit p.version p.lemma_count p.lemmas (suc left) × (p.blocks ≡ []) × (n ≡ length p.lemmas)
PlaceFits p (OfCondition v) left = LemmasFit p.version p.lemma_count p.lemmas 0 × BlocksFit p.version p.blocks (suc left) × (v ≡ p.version)

abbrev pub Empty : Progress → Type 0
Empty p = (p.terms ≡ []) × (p.steps ≡ [])

abbrev pub Fits : Progress → Stage → Type 0
Fits p Version = (p.lemma_count ≡ 0) × (p.lemmas ≡ []) × (p.blocks ≡ []) × (p.terms ≡ []) × (p.steps ≡ [])
Fits p LemmaCount = (p.version ≡ 2) × (p.lemmas ≡ []) × (p.blocks ≡ []) × (p.terms ≡ []) × (p.steps ≡ [])
Fits p (Lemmas left) = LemmasFit p.version p.lemma_count p.lemmas left × (p.blocks ≡ []) × (p.terms ≡ []) × (p.steps ≡ [])
Fits p (InDerivation owner left c) = PlaceFits p owner left × PartFits owner p.terms p.steps c × (0 < c.terms + c.steps)
Fits p (Conditions left) = LemmasFit p.version p.lemma_count p.lemmas 0 × BlocksFit p.version p.blocks left × (p.terms ≡ []) × (p.steps ≡ [])
Fits p Ended = LemmasFit p.version p.lemma_count p.lemmas 0 × BlocksFit p.version p.blocks 0

-- these are the lines, and all is known of what was read
pub record Known (lines : List Line) (p : Progress) : Type 0 where
  pub spelled : so_far p p.stage ≡ lines
  pub fits : Fits p p.stage

-- ---- a lemma or block that is whole

head_same : (name : Word) (a b c x y z : ℕ) → a ≡ x → b ≡ y → c ≡ z → head_line name a b c ≡ head_line name x y z
head_same name a b c x y z e f g = rw (e, f, g) refl

are_lemmas_more : (n : ℕ) (ds : List Derivation) (d : Derivation) (k : ℕ) → AreLemmas n ds → k ≡ n + length ds → IsDerivation (OfLemma k) d → AreLemmas n (ds ++ d ∷ [])
are_lemmas_more n [] d k are e is = (subst (λ (m : ℕ). IsDerivation (OfLemma m) d) (let same : k ≡ n = omega arith in same) is, tt)
are_lemmas_more n (x ∷ ds) d k are e is = (are.0, are_lemmas_more (suc n) ds d k are.1 (omega arith) is)

whole_part : (name : Word) (terms : List Term) (steps : List Step) (c : Counts) → c.terms ≡ 0 → c.steps ≡ 0 → c.literals ≡ 0 → part name terms steps c ≡ derivation_lines name (record { terms = terms; steps = steps })
whole_part name terms steps c t s z = ap (λ (x : Line). x ∷ (map term_line terms ++ map step_line steps)) (head_same name (length terms + c.terms) (length steps + c.steps) (literals_of steps + c.literals) (length terms) (length steps) (literals_of steps) (omega arith) (omega arith) (omega arith))

whole_fits : (owner : Owner) (terms : List Term) (steps : List Step) (c : Counts) → c.terms ≡ 0 → c.steps ≡ 0 → PartFits owner terms steps c → IsDerivation owner (record { terms = terms; steps = steps })
whole_fits owner terms steps c t s f =
    let a = f.few_terms in
    let b = f.some_steps in
    let d = f.few_steps in
    let e = f.few_literals in
    record { terms = f.terms; steps = f.steps; few_terms = omega arith; some_steps = omega arith; few_steps = omega arith; few_literals = omega arith }

more_lines : (name : Word) (ds : List Derivation) (d : Derivation) → flat_map (derivation_lines name) (ds ++ d ∷ []) ≡ flat_map (derivation_lines name) ds ++ derivation_lines name d
more_lines name ds d = flat_map-append (derivation_lines name) ds (d ∷ []) ∙ ap (λ (t : List Line). flat_map (derivation_lines name) ds ++ t) (append-nil (derivation_lines name d))

more_first : (version : ℕ) (ds : List Derivation) (d : Derivation) (left : ℕ) → first_lines version (length (ds ++ d ∷ []) + left) ≡ first_lines version (length ds + suc left)
more_first version ds d left = let long = length-append ds (d ∷ []) in ap (first_lines version) (let same : length (ds ++ d ∷ []) + left ≡ length ds + suc left = omega arith in same)

whole_lemma : (p : Progress) (n left : ℕ) (c : Counts) → c.terms ≡ 0 → c.steps ≡ 0 → PlaceFits p (OfLemma n) left → PartFits (OfLemma n) p.terms p.steps c → Known (derivation_so_far p (OfLemma n) left c) (completed p (OfLemma n) left)
whole_lemma p n left c t s place fits =
    let d : Derivation = record { terms = p.terms; steps = p.steps } in
    let f = place.0 in
    let long = length-append p.lemmas (d ∷ []) in
    let total = f.total in
    let few = f.few in
    let text : lemma_lines (p.lemmas ++ d ∷ []) ≡ lemma_lines p.lemmas ++ part (codes "lemma") p.terms p.steps c = more_lines (codes "lemma") p.lemmas d ∙ ap (λ (x : List Line). lemma_lines p.lemmas ++ x) (sym (whole_part (codes "lemma") p.terms p.steps c t s (fits.none s))) in
    record {
      spelled = ap (λ (x : List Line). x ++ lemma_lines (p.lemmas ++ d ∷ [])) (more_first p.version p.lemmas d left) ∙ ap (λ (x : List Line). first_lines p.version (length p.lemmas + suc left) ++ x) text ∙ sym (append_assoc (first_lines p.version (length p.lemmas + suc left)) (lemma_lines p.lemmas) (part (codes "lemma") p.terms p.steps c));
      fits = (
        record {
          version = elim f.version [ inl one ↦ absurd (let no' = one.2 in omega arith) | inr two ↦ inr two ];
          total = omega arith;
          each = are_lemmas_more 0 p.lemmas d n f.each (let own = place.2 in omega arith) (whole_fits (OfLemma n) p.terms p.steps c t s fits);
          few = omega arith;
        },
        place.1,
        refl,
        refl,
      );
    }

whole_block : (p : Progress) (v left : ℕ) (c : Counts) → c.terms ≡ 0 → c.steps ≡ 0 → PlaceFits p (OfCondition v) left → PartFits (OfCondition v) p.terms p.steps c → Known (derivation_so_far p (OfCondition v) left c) (completed p (OfCondition v) left)
whole_block p v left c t s place fits =
    let d : Derivation = record { terms = p.terms; steps = p.steps } in
    let f = place.1 in
    let long = length-append p.blocks (d ∷ []) in
    let few = f.few in
    let same : length (p.blocks ++ d ∷ []) + left ≡ length p.blocks + suc left = omega arith in
    let counted : Line = count_line (codes "conditions") (length p.blocks + suc left) in
    let text : block_lines (p.blocks ++ d ∷ []) ≡ block_lines p.blocks ++ part (codes "condition") p.terms p.steps c = more_lines (codes "condition") p.blocks d ∙ ap (λ (x : List Line). block_lines p.blocks ++ x) (sym (whole_part (codes "condition") p.terms p.steps c t s (fits.none s))) in
    record {
      spelled = ap (λ (n : ℕ). lemmas_so_far p 0 ++ count_line (codes "conditions") n ∷ block_lines (p.blocks ++ d ∷ [])) same ∙ ap (λ (x : List Line). lemmas_so_far p 0 ++ counted ∷ x) text ∙ sym (append_assoc (lemmas_so_far p 0) (counted ∷ block_lines p.blocks) (part (codes "condition") p.terms p.steps c));
      fits = (
        place.0,
        record {
          each = All-push (IsDerivation (OfCondition p.version)) p.blocks d f.each (subst (λ (x : ℕ). IsDerivation (OfCondition x) d) place.2 (whole_fits (OfCondition v) p.terms p.steps c t s fits));
          few = omega arith;
        },
        refl,
        refl,
      );
    }

-- ---- lines of it are still to come, or it is whole

both_zero : (a b : ℕ) → (eqb a 0 && eqb b 0) ≡ true → (a ≡ 0) × (b ≡ 0)
both_zero a b h =
    elim (cases_Bool (eqb a 0)) [
      | inl e ↦ (eqb-true a 0 e, eqb-true b 0 (let is : (eqb a 0 && eqb b 0) ≡ eqb b 0 = rw e refl in sym is ∙ h))
      | inr e ↦ absurd (let is : (eqb a 0 && eqb b 0) ≡ false = rw e refl in cc)
    ]

some_above : (a b : ℕ) → (eqb a 0 && eqb b 0) ≡ false → 0 < a + b
some_above a b h =
    elim (cases_eq a 0) [
      | inl za ↦ elim (cases_eq b 0) [
        | inl zb ↦ absurd (let is : (eqb a 0 && eqb b 0) ≡ true = rw (eq-eqb a 0 za, eq-eqb b 0 zb) refl in cc)
        | inr nb ↦ omega arith
      ]
      | inr na ↦ omega arith
    ]

still_open : (p : Progress) (owner : Owner) (left : ℕ) (c : Counts) → 0 < c.terms + c.steps → PlaceFits p owner left → PartFits owner p.terms p.steps c → Known (derivation_so_far p owner left c) (record p { stage = InDerivation owner left c })
still_open p (OfLemma n) left c above place fits = record { spelled = refl; fits = (place, fits, above) }
still_open p (OfCondition v) left c above place fits = record { spelled = refl; fits = (place, fits, above) }

now_whole : (p : Progress) (owner : Owner) (left : ℕ) (c : Counts) → c.terms ≡ 0 → c.steps ≡ 0 → PlaceFits p owner left → PartFits owner p.terms p.steps c → Known (derivation_so_far p owner left c) (completed p owner left)
now_whole p (OfLemma n) left c t s place fits = whole_lemma p n left c t s place fits
now_whole p (OfCondition v) left c t s place fits = whole_block p v left c t s place fits

settled : (p : Progress) (owner : Owner) (left : ℕ) (c : Counts) → PlaceFits p owner left → PartFits owner p.terms p.steps c → Known (derivation_so_far p owner left c) (continued p owner left c)
settled p owner left c place fits =
    elim (cases_Bool (eqb c.terms 0 && eqb c.steps 0)) [
      | inl done ↦
          let z = both_zero c.terms c.steps done in
          let is : continued p owner left c ≡ completed p owner left = rw done refl in
          subst (Known (derivation_so_far p owner left c)) (sym is) (now_whole p owner left c z.0 z.1 place fits)
      | inr open' ↦
          let is : continued p owner left c ≡ record p { stage = InDerivation owner left c } = rw open' refl in
          subst (Known (derivation_so_far p owner left c)) (sym is) (still_open p owner left c (some_above c.terms c.steps open') place fits)
    ]

-- ---- the first line of it

part_first : (name : Word) (terms : List Term) (steps : List Step) (c : Counts) → terms ≡ [] → steps ≡ [] → part name terms steps c ≡ head_line name c.terms c.steps c.literals ∷ []
part_first name terms steps c t s = rw (t, s) (ap (λ (x : Line). x ∷ []) (head_same name (0 + c.terms) (0 + c.steps) (0 + c.literals) c.terms c.steps c.literals (omega arith) (omega arith) (omega arith)))

first_fits : (owner : Owner) (terms : List Term) (steps : List Step) (c : Counts) → terms ≡ [] → steps ≡ [] → IsHead owner c → PartFits owner terms steps c
first_fits owner terms steps c t s h =
    let a = h.few_terms in
    let b = h.some_steps in
    let d = h.few_steps in
    let e = h.few_literals in
    let fits : PartFits owner [] [] c = record { terms = All-nil IsTerm; steps = All-nil (IsStep owner); few_terms = omega arith; some_steps = omega arith; few_steps = omega arith; few_literals = omega arith; none = h.none; order = inr refl } in
    subst (λ (x : List Term). PartFits owner x steps c) (sym t) (subst (λ (x : List Step). PartFits owner [] x c) (sym s) fits)

derivation_first : (p : Progress) (owner : Owner) (left : ℕ) (c : Counts) (before : List Line) → Empty p → derivation_so_far p owner left c ≡ before ++ part (owner_text owner) p.terms p.steps c → derivation_so_far p owner left c ≡ before ++ head_line (owner_text owner) c.terms c.steps c.literals ∷ []
derivation_first p owner left c before none e = e ∙ ap (λ (x : List Line). before ++ x) (part_first (owner_text owner) p.terms p.steps c none.0 none.1)

after_head : (p q : Progress) (owner : Owner) (left : ℕ) (line : Line) (before : List Line) → Empty p → PlaceFits p owner left → ((c : Counts) → derivation_so_far p owner left c ≡ before ++ part (owner_text owner) p.terms p.steps c)
    → take_head p owner left line ≡ Ok q → Known (before ++ line ∷ []) q
unfolding take_head
after_head p q owner left line before none place e read =
    let a = bind_ok (grammar.head_line owner line) _ q read in
    let h = head_takes owner line a.0 a.1 in
    let known = settled p owner left a.0 place (first_fits owner p.terms p.steps a.0 none.0 none.1 h.1) in
    let lines : derivation_so_far p owner left a.0 ≡ before ++ line ∷ [] = derivation_first p owner left a.0 before none (e a.0) ∙ ap (λ (x : Line). before ++ x ∷ []) (sym h.0) in
    subst (Known (before ++ line ∷ [])) (ok_is (continued p owner left a.0) q a.2) (subst (λ (x : List Line). Known x (continued p owner left a.0)) lines known)

-- ---- a term and a step

part_term : (name : Word) (terms : List Term) (steps : List Step) (c : Counts) (t : Term) → 0 < c.terms → steps ≡ [] → part name (terms ++ t ∷ []) steps (record c { terms = c.terms - 1 }) ≡ part name terms steps c ++ term_line t ∷ []
part_term name terms steps c t above none =
    let long = length-append terms (t ∷ []) in
    let head = head_same name (length (terms ++ t ∷ []) + (c.terms - 1)) (length steps + c.steps) (literals_of steps + c.literals) (length terms + c.terms) (length steps + c.steps) (literals_of steps + c.literals) (omega arith) refl refl in
    let body : map term_line (terms ++ t ∷ []) ++ map step_line steps ≡ (map term_line terms ++ map step_line steps) ++ term_line t ∷ [] = rw none (append-nil (map term_line (terms ++ t ∷ [])) ∙ map-append term_line terms (t ∷ []) ∙ ap (λ (x : List Line). x ++ term_line t ∷ []) (sym (append-nil (map term_line terms)))) in
    ap (λ (x : Line). x ∷ (map term_line (terms ++ t ∷ []) ++ map step_line steps)) head ∙ ap (λ (x : List Line). head_line name (length terms + c.terms) (length steps + c.steps) (literals_of steps + c.literals) ∷ x) body

pub literals_cons : (s : Step) (steps : List Step) → literals_of (s ∷ steps) ≡ length s.clause + literals_of steps
literals_cons s steps = sum_by-cons (λ (x : Step). length x.clause) s steps

literals_more : (steps : List Step) (s : Step) → literals_of (steps ++ s ∷ []) ≡ literals_of steps + length s.clause
literals_more [] s = let one = literals_cons s [] in omega arith
literals_more (x ∷ steps) s =
    let more = literals_more steps s in
    let front = literals_cons x (steps ++ s ∷ []) in
    let back = literals_cons x steps in
    omega arith

part_step : (name : Word) (terms : List Term) (steps : List Step) (c : Counts) (s : Step) → c.terms ≡ 0 → 0 < c.steps → length s.clause ≤ c.literals
    → part name terms (steps ++ s ∷ []) (record { terms = 0; steps = c.steps - 1; literals = c.literals - length s.clause }) ≡ part name terms steps c ++ step_line s ∷ []
part_step name terms steps c s none above few =
    let long = length-append steps (s ∷ []) in
    let more = literals_more steps s in
    let head = head_same name (length terms + 0) (length (steps ++ s ∷ []) + (c.steps - 1)) (literals_of (steps ++ s ∷ []) + (c.literals - length s.clause)) (length terms + c.terms) (length steps + c.steps) (literals_of steps + c.literals) (omega arith) (omega arith) (omega arith) in
    let body : map term_line terms ++ map step_line (steps ++ s ∷ []) ≡ (map term_line terms ++ map step_line steps) ++ step_line s ∷ [] = ap (λ (x : List Line). map term_line terms ++ x) (map-append step_line steps (s ∷ [])) ∙ sym (append_assoc (map term_line terms) (map step_line steps) (step_line s ∷ [])) in
    ap (λ (x : Line). x ∷ (map term_line terms ++ map step_line (steps ++ s ∷ []))) head ∙ ap (λ (x : List Line). head_line name (length terms + c.terms) (length steps + c.steps) (literals_of steps + c.literals) ∷ x) body

term_fits : (owner : Owner) (terms : List Term) (steps : List Step) (c : Counts) (t : Term) → 0 < c.terms → steps ≡ [] → IsTerm t → PartFits owner terms steps c → PartFits owner (terms ++ t ∷ []) steps (record c { terms = c.terms - 1 })
term_fits owner terms steps c t above none is f =
    let long = length-append terms (t ∷ []) in
    let few = f.few_terms in
    record { terms = All-push IsTerm terms t f.terms is; steps = f.steps; few_terms = omega arith; some_steps = f.some_steps; few_steps = f.few_steps; few_literals = f.few_literals; none = f.none; order = inr none }

reached : (c : Counts) (s : Step) → reaches c s ≡ true → c.steps - 1 ≡ 0 → length s.clause ≡ c.literals
reached c s h last =
    elim (cases_Bool (nat_lt 1 c.steps)) [
      | inl more ↦ absurd (let lt : 1 < c.steps = ltb-true 1 c.steps more in omega arith)
      | inr none ↦ eqb-true (length s.clause) c.literals (let is : reaches c s ≡ eqb (length s.clause) c.literals = rw none refl in sym is ∙ h)
    ]

step_fits : (owner : Owner) (terms : List Term) (steps : List Step) (c : Counts) (s : Step) → c.terms ≡ 0 → 0 < c.steps → length s.clause ≤ c.literals → IsStep owner s → reaches c s ≡ true → PartFits owner terms steps c
    → PartFits owner terms (steps ++ s ∷ []) (record { terms = 0; steps = c.steps - 1; literals = c.literals - length s.clause })
step_fits owner terms steps c s none above few is last f =
    let long = length-append steps (s ∷ []) in
    let more = literals_more steps s in
    let a = f.few_terms in
    let b = f.some_steps in
    let d = f.few_steps in
    let e = f.few_literals in
    record {
      terms = f.terms;
      steps = All-push (IsStep owner) steps s f.steps is;
      few_terms = omega arith;
      some_steps = omega arith;
      few_steps = omega arith;
      few_literals = omega arith;
      none = λ zero'. (let same = reached c s last zero' in omega arith);
      order = inl refl;
    }

-- the lines of another progress at the same place, with more of the lemma or block
derivation_more : (p : Progress) (owner : Owner) (left : ℕ) (c e : Counts) (terms : List Term) (steps : List Step) (line : Line) → ((name : Word) → part name terms steps e ≡ part name p.terms p.steps c ++ line ∷ [])
    → derivation_so_far (record p { terms = terms; steps = steps }) owner left e ≡ derivation_so_far p owner left c ++ line ∷ []
derivation_more p (OfLemma n) left c e terms steps line same = ap (λ (x : List Line). lemmas_so_far p (suc left) ++ x) (same (codes "lemma")) ∙ sym (append_assoc (lemmas_so_far p (suc left)) (part (codes "lemma") p.terms p.steps c) (line ∷ []))
derivation_more p (OfCondition v) left c e terms steps line same = ap (λ (x : List Line). blocks_so_far p (suc left) ++ x) (same (codes "condition")) ∙ sym (append_assoc (blocks_so_far p (suc left)) (part (codes "condition") p.terms p.steps c) (line ∷ []))

place_more : (p : Progress) (owner : Owner) (left : ℕ) (terms : List Term) (steps : List Step) → PlaceFits p owner left → PlaceFits (record p { terms = terms; steps = steps }) owner left
place_more p (OfLemma n) left terms steps place = place
place_more p (OfCondition v) left terms steps place = place

after_term : (p q : Progress) (owner : Owner) (left : ℕ) (c : Counts) (line : Line) → 0 < c.terms → PlaceFits p owner left → PartFits owner p.terms p.steps c → take_term p owner left c line ≡ Ok q → Known (derivation_so_far p owner left c ++ line ∷ []) q
unfolding take_term
after_term p q owner left c line above place fits read =
    let a = bind_ok (grammar.term_line line) _ q read in
    let t = term_takes line a.0 a.1 in
    let none : p.steps ≡ [] = elim fits.order [ inl zero' ↦ absurd (omega arith) | inr none ↦ none ] in
    let e : Counts = record c { terms = c.terms - 1 } in
    let known = settled (record p { terms = p.terms ++ a.0 ∷ [] }) owner left e (place_more p owner left (p.terms ++ a.0 ∷ []) p.steps place) (term_fits owner p.terms p.steps c a.0 above none t.1 fits) in
    let lines = derivation_more p owner left c e (p.terms ++ a.0 ∷ []) p.steps (term_line a.0) (λ name. part_term name p.terms p.steps c a.0 above none) in
    subst (Known (derivation_so_far p owner left c ++ line ∷ [])) (ok_is (with_term p owner left c a.0) q a.2)
    (subst (λ (x : List Line). Known x (with_term p owner left c a.0)) (lines ∙ ap (λ (x : Line). derivation_so_far p owner left c ++ x ∷ []) (sym t.0)) known)

after_step : (p q : Progress) (owner : Owner) (left : ℕ) (c : Counts) (line : Line) → c.terms ≡ 0 → 0 < c.steps → PlaceFits p owner left → PartFits owner p.terms p.steps c → take_step p owner left c line ≡ Ok q → Known (derivation_so_far p owner left c ++ line ∷ []) q
unfolding take_step
after_step p q owner left c line none above place fits read =
    let a = bind_ok (grammar.step_line owner c.literals line) _ q read in
    let g = bind_ok (needs (reaches c a.0) l.BadLine) _ q a.2 in
    let s = step_takes owner c.literals line a.0 a.1 in
    let last = needs_ok (reaches c a.0) l.BadLine g.0 g.1 in
    let e : Counts = record { terms = 0; steps = c.steps - 1; literals = c.literals - length (a.0).clause } in
    let zero' : record c { terms = 0 } ≡ c = ap (λ (n : ℕ). record c { terms = n }) (sym none) in
    let known = settled (record p { steps = p.steps ++ a.0 ∷ [] }) owner left e (place_more p owner left p.terms (p.steps ++ a.0 ∷ []) place) (step_fits owner p.terms p.steps c a.0 none above s.2 s.1 last fits) in
    let lines = derivation_more p owner left c e p.terms (p.steps ++ a.0 ∷ []) (step_line a.0) (λ name. part_step name p.terms p.steps c a.0 none above s.2) in
    subst (Known (derivation_so_far p owner left c ++ line ∷ [])) (ok_is (with_step p owner left c a.0) q g.2)
    (subst (λ (x : List Line). Known x (with_step p owner left c a.0)) (lines ∙ ap (λ (x : Line). derivation_so_far p owner left c ++ x ∷ []) (sym s.0)) known)

-- ---- the other lines

first_version : (p : Progress) → Fits p Version → Known (count_line (codes "vcc-cert") 1 ∷ []) (record p { version = 1; stage = Lemmas 0 })
first_version p fits = record {
  spelled = ap (λ (ds : List Derivation). (count_line (codes "vcc-cert") 1 ∷ []) ++ lemma_lines ds) fits.1;
  fits = (
    record {
      version = inl (refl, fits.1, refl);
      total = fits.0 ∙ ap (λ (ds : List Derivation). length ds + 0) (sym fits.1);
      each = subst (AreLemmas 0) (sym fits.1) tt;
      few = let none : length p.lemmas ≡ 0 = ap (λ (ds : List Derivation). length ds) fits.1 in omega arith;
    },
    fits.2,
    fits.3,
    fits.4,
  );
}

second_version : (p : Progress) → Fits p Version → Known (count_line (codes "vcc-cert") 2 ∷ []) (record p { version = 2; stage = LemmaCount })
second_version p fits = record { spelled = refl; fits = (refl, fits.1, fits.2, fits.3, fits.4) }

after_version_line : (p q : Progress) (line : Line) → Fits p Version → take_version p line ≡ Ok q → Known (line ∷ []) q
unfolding take_version
after_version_line p q line fits read =
    let a = bind_ok (grammar.version_line line) _ q read in
    let t = version_takes line a.0 a.1 in
    let known : Known (count_line (codes "vcc-cert") a.0 ∷ []) (record p { version = a.0; stage = after_version a.0 }) = elim t.1 [
      | inl one ↦ subst (λ (v : ℕ). Known (count_line (codes "vcc-cert") v ∷ []) (record p { version = v; stage = after_version v })) (sym one) (first_version p fits)
      | inr two ↦ subst (λ (v : ℕ). Known (count_line (codes "vcc-cert") v ∷ []) (record p { version = v; stage = after_version v })) (sym two) (second_version p fits)
    ] in
    subst (Known (line ∷ [])) (ok_is (record p { version = a.0; stage = after_version a.0 }) q a.2)
    (subst (λ (x : Line). Known (x ∷ []) (record p { version = a.0; stage = after_version a.0 })) (sym t.0) known)

lemma_head : (v m : ℕ) (ds : List Derivation) → v ≡ 2 → ds ≡ [] → first_lines v (length ds + m) ++ lemma_lines ds ≡ count_line (codes "vcc-cert") v ∷ count_line (codes "lemmas") m ∷ []
lemma_head v m ds two none = rw (none, two) (ap (λ (n : ℕ). count_line (codes "vcc-cert") 2 ∷ count_line (codes "lemmas") n ∷ []) (let same : 0 + m ≡ m = omega arith in same))

after_lemma_count : (p q : Progress) (line : Line) → Fits p LemmaCount → take_lemma_count p line ≡ Ok q → Known (count_line (codes "vcc-cert") p.version ∷ line ∷ []) q
unfolding take_lemma_count
after_lemma_count p q line fits read =
    let a = bind_ok (grammar.count_line (codes "lemmas") line) _ q read in
    let t = count_line_takes (codes "lemmas") line a.0 a.1 in
    let none : length p.lemmas ≡ 0 = ap (λ (ds : List Derivation). length ds) fits.1 in
    let few = t.1 in
    let made : Progress = record p { lemma_count = a.0; stage = Lemmas a.0 } in
    let same : length p.lemmas + a.0 ≡ a.0 = omega arith in
    let spelled : lemmas_so_far p a.0 ≡ count_line (codes "vcc-cert") p.version ∷ line ∷ [] =
    lemma_head p.version a.0 p.lemmas fits.0 fits.1 ∙ ap (λ (x : Line). count_line (codes "vcc-cert") p.version ∷ x ∷ []) (sym t.0) in
    let known : Known (count_line (codes "vcc-cert") p.version ∷ line ∷ []) made = record {
      spelled = spelled;
      fits = (record { version = inr fits.0; total = sym same; each = subst (AreLemmas 0) (sym fits.1) tt; few = omega arith }, fits.2, fits.3, fits.4);
    } in
    subst (Known (count_line (codes "vcc-cert") p.version ∷ line ∷ [])) (ok_is made q a.2) known

after_condition_count : (p q : Progress) (line : Line) → Fits p (Lemmas 0) → take_condition_count p line ≡ Ok q → Known (lemmas_so_far p 0 ++ line ∷ []) q
unfolding take_condition_count
after_condition_count p q line fits read =
    let a = bind_ok (grammar.count_line (codes "conditions") line) _ q read in
    let t = count_line_takes (codes "conditions") line a.0 a.1 in
    let none : length p.blocks ≡ 0 = ap (λ (ds : List Derivation). length ds) fits.1 in
    let few = t.1 in
    let made : Progress = record p { count = Some a.0; stage = Conditions a.0 } in
    let same : length p.blocks + a.0 ≡ a.0 = omega arith in
    let spelled : blocks_so_far p a.0 ≡ lemmas_so_far p 0 ++ line ∷ [] =
    ap (λ (n : ℕ). lemmas_so_far p 0 ++ count_line (codes "conditions") n ∷ block_lines p.blocks) same ∙ ap (λ (ds : List Derivation). lemmas_so_far p 0 ++ count_line (codes "conditions") a.0 ∷ block_lines ds) fits.1 ∙ ap (λ (x : Line). lemmas_so_far p 0 ++ x ∷ []) (sym t.0) in
    let known : Known (lemmas_so_far p 0 ++ line ∷ []) made = record {
      spelled = spelled;
      fits = (fits.0, record { each = subst (All (IsDerivation (OfCondition p.version))) (sym fits.1) (All-nil (IsDerivation (OfCondition p.version))); few = omega arith }, fits.2, fits.3);
    } in
    subst (Known (lemmas_so_far p 0 ++ line ∷ [])) (ok_is made q a.2) known

after_end : (p q : Progress) (line : Line) → Fits p (Conditions 0) → take_end p line ≡ Ok q → Known (blocks_so_far p 0 ++ line ∷ []) q
unfolding take_end
after_end p q line fits read =
    let a = bind_ok (grammar.end_line line) _ q read in
    let made : Progress = record p { stage = Ended } in
    let known : Known (blocks_so_far p 0 ++ line ∷ []) made = record { spelled = ap (λ (x : Line). blocks_so_far p 0 ++ x ∷ []) (sym (end_takes line a.0 a.1)); fits = (fits.0, fits.1) } in
    subst (Known (blocks_so_far p 0 ++ line ∷ [])) (ok_is made q a.2) known

in_lemmas : (p q : Progress) (left : ℕ) (line : Line) → Fits p (Lemmas left) → next_line p (Lemmas left) line ≡ Ok q → Known (lemmas_so_far p left ++ line ∷ []) q
in_lemmas p q left line fits read =
    elim (cases_eq left 0) [
      | inl none ↦
          let is : next_line p (Lemmas left) line ≡ take_condition_count p line = rw none refl in
          subst (λ (n : ℕ). Known (lemmas_so_far p n ++ line ∷ []) q) (sym none) (after_condition_count p q line (subst (λ (n : ℕ). Fits p (Lemmas n)) none fits) (sym is ∙ read))
      | inr some ↦
          let own : ℕ = p.lemma_count - left in
          let more : suc (left - 1) ≡ left = omega arith in
          let is : next_line p (Lemmas left) line ≡ take_head p (OfLemma own) (left - 1) line = rw (ne_eqb left 0 some) refl in
          let f = fits.0 in
          let total = f.total in
          let place : PlaceFits p (OfLemma own) (left - 1) = (subst (LemmasFit p.version p.lemma_count p.lemmas) (sym more) f, fits.1, omega arith) in
          after_head p q (OfLemma own) (left - 1) line (lemmas_so_far p left) (fits.2, fits.3) place
          (λ c. ap (λ (n : ℕ). lemmas_so_far p n ++ part (codes "lemma") p.terms p.steps c) more) (sym is ∙ read)
    ]

in_conditions : (p q : Progress) (left : ℕ) (line : Line) → Fits p (Conditions left) → next_line p (Conditions left) line ≡ Ok q → Known (blocks_so_far p left ++ line ∷ []) q
in_conditions p q left line fits read =
    elim (cases_eq left 0) [
      | inl none ↦
          let is : next_line p (Conditions left) line ≡ take_end p line = rw none refl in
          subst (λ (n : ℕ). Known (blocks_so_far p n ++ line ∷ []) q) (sym none) (after_end p q line (subst (λ (n : ℕ). Fits p (Conditions n)) none fits) (sym is ∙ read))
      | inr some ↦
          let more : suc (left - 1) ≡ left = omega arith in
          let is : next_line p (Conditions left) line ≡ take_head p (OfCondition p.version) (left - 1) line = rw (ne_eqb left 0 some) refl in
          let place : PlaceFits p (OfCondition p.version) (left - 1) = (fits.0, subst (BlocksFit p.version p.blocks) (sym more) fits.1, refl) in
          after_head p q (OfCondition p.version) (left - 1) line (blocks_so_far p left) (fits.2, fits.3) place
          (λ c. ap (λ (n : ℕ). blocks_so_far p n ++ part (codes "condition") p.terms p.steps c) more) (sym is ∙ read)
    ]

in_derivation : (p q : Progress) (owner : Owner) (left : ℕ) (c : Counts) (line : Line) → Fits p (InDerivation owner left c) → next_line p (InDerivation owner left c) line ≡ Ok q → Known (derivation_so_far p owner left c ++ line ∷ []) q
in_derivation p q owner left c line fits read =
    elim (cases_eq c.terms 0) [
      | inl none ↦
          let is : next_line p (InDerivation owner left c) line ≡ take_step p owner left c line = rw (eq-eqb c.terms 0 none) refl in
          after_step p q owner left c line none (let above = fits.2 in omega arith) fits.0 fits.1 (sym is ∙ read)
      | inr some ↦
          let is : next_line p (InDerivation owner left c) line ≡ take_term p owner left c line = rw (ne_eqb c.terms 0 some) refl in
          after_term p q owner left c line (omega arith) fits.0 fits.1 (sym is ∙ read)
    ]

next_known : (p q : Progress) (stage : Stage) (line : Line) → Fits p stage → next_line p stage line ≡ Ok q → Known (so_far p stage ++ line ∷ []) q
next_known p q Version line fits read = after_version_line p q line fits read
next_known p q LemmaCount line fits read = after_lemma_count p q line fits read
next_known p q (Lemmas left) line fits read = in_lemmas p q left line fits read
next_known p q (InDerivation owner left c) line fits read = in_derivation p q owner left c line fits read
next_known p q (Conditions left) line fits read = in_conditions p q left line fits read
next_known p q Ended line fits read = absurd cc

-- the number of lines is no matter
recounted : (p : Progress) (stage : Stage) (n : ℕ) (lines : List Line) → so_far p stage ≡ lines → Fits p stage → Known lines (record p { stage = stage; lines = n })
recounted p Version n lines e fits = record { spelled = e; fits = fits }
recounted p LemmaCount n lines e fits = record { spelled = e; fits = fits }
recounted p (Lemmas left) n lines e fits = record { spelled = e; fits = fits }
recounted p (InDerivation (OfLemma k) left c) n lines e fits = record { spelled = e; fits = fits }
recounted p (InDerivation (OfCondition v) left c) n lines e fits = record { spelled = e; fits = fits }
recounted p (Conditions left) n lines e fits = record { spelled = e; fits = fits }
recounted p Ended n lines e fits = record { spelled = e; fits = fits }

pub line_known : (p q : Progress) (line : Line) (lines : List Line) → Known lines p → take_line p line ≡ Ok q → Known (lines ++ line ∷ []) q
unfolding take_line
line_known p q line lines known read =
    let a = bind_ok (next_line p p.stage line) _ q read in
    let next = next_known p a.0 p.stage line known.fits a.1 in
    let made : Progress = record a.0 { lines = (a.0).lines + 1 } in
    subst (Known (lines ++ line ∷ [])) (ok_is made q a.2)
    (recounted a.0 (a.0).stage ((a.0).lines + 1) (lines ++ line ∷ []) (next.spelled ∙ ap (λ (x : List Line). x ++ line ∷ []) known.spelled) next.fits)

pub nothing_known : (p : Progress) → p.stage ≡ Version → Fits p Version → Known [] p
nothing_known p is fits = record { spelled = ap (so_far p) is; fits = subst (Fits p) (sym is) fits }

-- a certificate was read
pub ended_known : (p : Progress) (lines : List Line) → p.stage ≡ Ended → Known lines p → (lines ≡ lines_of (proofs_of p)) × IsCertificate (proofs_of p)
ended_known p lines is known =
    let fits : Fits p Ended = subst (Fits p) is known.fits in
    let spelled : blocks_so_far p 0 ++ (codes "end" ∷ []) ∷ [] ≡ lines = sym (ap (so_far p) is) ∙ known.spelled in
    let same_lemmas : length p.lemmas + 0 ≡ length p.lemmas = omega arith in
    let same_blocks : length p.blocks + 0 ≡ length p.blocks = omega arith in
    let few_lemmas = fits.0.few in
    let few_blocks = fits.1.few in
    let regrouped : blocks_so_far p 0 ++ (codes "end" ∷ []) ∷ [] ≡ lines_of (proofs_of p) = rw (same_lemmas, same_blocks) refl in (
      sym spelled ∙ regrouped,
      record {
        version = elim fits.0.version [ inl one ↦ inl (one.0, one.1) | inr two ↦ inr two ];
        lemmas = fits.0.each;
        blocks = fits.1.each;
        few_lemmas = omega arith;
        few_blocks = omega arith;
      },
    )
