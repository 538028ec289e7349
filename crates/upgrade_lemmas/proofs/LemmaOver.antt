-- A lemma out of its parts, and lemmas one after the other.
use Rattle.std.proofs.Common.{◌≡◌, ℕ, zero, suc, ◌+◌, ◌<◌, ◌≤◌, pos, List, [], map, take, ◌∷◌, ◌++◌, drop, length, get_or, append_assoc, append-nil, refl, ap, sym, ◌∙◌, subst, arith}
use Rattle.std.specs.Borrow.{Bor}
use Rattle.terms.specs.declared.term.Term.{Term}
use Rattle.term_meaning.specs.Meaning.{Language}
use Rattle.conditions.specs.Numbering.{Numbered, number}
use Rattle.vcc_rules.specs.Rows.{yes}
use Rattle.axiom_parameters.specs.Parameters.{with_terms}
use Rattle.cert_format.specs.Derivations.{Derivation}
use Rattle.cert_format.specs.declared.certificate.RuleName.TheVariants as r
use Rattle.cert_format.specs.declared.certificate.Step.{Step}
use Rattle.certificate_upgrade.specs.declared.conclusion.Conclusion as held
use Rattle.certificate_upgrade.specs.Conclusions.{Conclusion, args_of}
use Rattle.certificate_upgrade.specs.Held.{StandsFor, AllStandFor}
use Rattle.certificate_upgrade.specs.Lemmas.{axiom_step, lemmas_over}
use Rattle.upgrade_lemmas.specs.Making.{HasNumber, HaveNumbers, IsLemma, step_by}
use Rattle.upgrade_lemmas.specs.Chosen.{referents}
use Rattle.upgrade_lemmas.proofs.Lists.{drop_end, behind_at, behind_length}

-- ---- one lemma

-- the step that is made by what is held is that of the conclusion
same_step : (l : Language) (ts : List Term) (h : held.Conclusion) (c : Conclusion) (ids : List ℕ) (t : ℕ) → StandsFor l ts h c → axiom_step l c.numbers ids t ≡ step_by h ids t
same_step l ts h c ids t s = λ k. record { rule = r.Axiom; numbers = take 2 (sym s.numbers k) ++ map pos (with_terms (sym s.marks k) (args_of (sym s.numbers k)) ids) ++ pos t ∷ []; clause = yes t ∷ [] }

-- the lemma of a conclusion whose arguments have these numbers, and its tree that one
abbrev lemma_with : Language → Conclusion → List Term → List ℕ → Numbered ℕ → Numbered Derivation
lemma_with l c old ids y = record { terms = y.terms; is = record { terms = drop (length old) y.terms; steps = axiom_step l c.numbers ids y.is ∷ [] } }

pub lemma_is : (l : Language) (ts : List Term) (h : held.Conclusion) (c : Conclusion) (old mid new own : List Term) (n t : ℕ) (ids : List ℕ) (step : Step) (steps : List Step) (lemma : Derivation) → StandsFor l ts h c
    → n ≡ length old → HaveNumbers c.args old mid ids → HasNumber c.tree mid new t → own ≡ drop n new → step ≡ step_by h ids t → steps ≡ step ∷ [] → lemma.terms ≡ own → lemma.steps ≡ steps → IsLemma l c old new lemma
lemma_is l ts h c old mid new own n t ids step steps lemma s size args tree terms made alone own_is steps_are = record {
  is =
      ap (λ (x : Numbered (List ℕ)). lemma_with l c old x.is (number c.tree x.terms)) args.are
      ∙ (ap (λ (y : Numbered ℕ). lemma_with l c old ids y) tree.is
      ∙ (λ k. record { terms = new; is = record { terms = own_terms k; steps = own_steps k } }));
} where
  own_terms : drop (length old) new ≡ lemma.terms
  own_terms = ap (λ m. drop m new) (sym size) ∙ (sym terms ∙ sym own_is)

  own_steps : axiom_step l c.numbers ids t ∷ [] ≡ lemma.steps
  own_steps = ap (λ (x : Step). x ∷ []) (same_step l ts h c ids t s ∙ sym made) ∙ (sym alone ∙ sym steps_are)

-- ---- all lemmas

pub record Turn (graph : List Term) (hs : List held.Conclusion) (terms : List Term) (lemmas : List Derivation) (i : ℕ) : Type 0 where
  pub left : (l : Language) (cs : List Conclusion) → AllStandFor l graph hs cs → lemmas ++ lemmas_over l terms (drop i cs) ≡ lemmas_over l [] cs

pub turn_first : (graph : List Term) (hs : List held.Conclusion) (terms : List Term) (lemmas : List Derivation) → terms ≡ [] → lemmas ≡ [] → Turn graph hs terms lemmas 0
turn_first graph hs terms lemmas e q = record { left = λ l cs all. λ k. q k ++ lemmas_over l (e k) cs }

-- the conclusion at a place
record Held (l : Language) (graph : List Term) (h : held.Conclusion) (cs : List Conclusion) (i : ℕ) : Type 0 where
  conclusion : Conclusion
  is : drop i cs ≡ conclusion ∷ drop (suc i) cs
  stands : StandsFor l graph h conclusion

held_at : (l : Language) (graph : List Term) (hs : List held.Conclusion) (cs : List Conclusion) (i : ℕ) (h : held.Conclusion) → AllStandFor l graph hs cs → i < length hs → h ≡ get_or hs i h → Held l graph h cs i
held_at l graph [] cs i h all below e = absurd (omega arith)
held_at l graph (k ∷ hs) [] i h all below e = absurd all
held_at l graph (k ∷ hs) (c ∷ cs) zero h all below e = record { conclusion = c; is = refl; stands = subst (λ (x : held.Conclusion). StandsFor l graph x c) (sym e) all.0 }
held_at l graph (k ∷ hs) (c ∷ cs) (suc i) h all below e =
    let rest = held_at l graph hs cs i h all.1 (omega arith) e in
    record { conclusion = rest.conclusion; is = rest.is; stands = rest.stands }

pub turn_next : (graph : List Term) (hs : List held.Conclusion) (terms next : List Term) (lemmas more : List Derivation) (i : ℕ) (h : held.Conclusion) (lemma : Derivation) → Turn graph hs terms lemmas i → i < length hs → h ≡ get_or hs i h
    → ((l : Language) (c : Conclusion) → StandsFor l graph h c → IsLemma l c terms next lemma) → more ≡ lemmas ++ lemma ∷ [] → Turn graph hs next more (i + 1)
turn_next graph hs terms next lemmas more i h lemma turn below at made e = record {
  left = λ l cs all.
      let here = held_at l graph hs cs i h all below at in
      let one = made l here.conclusion here.stands in
      let n : i + 1 ≡ suc i = omega arith in
      ap (λ (ds : List Derivation). ds ++ lemmas_over l next (drop (i + 1) cs)) e
      ∙ (append_assoc lemmas (lemma ∷ []) (lemmas_over l next (drop (i + 1) cs))
      ∙ (ap (λ m. lemmas ++ lemma ∷ lemmas_over l next (drop m cs)) n
      ∙ (sym (ap (λ (x : Numbered Derivation). lemmas ++ x.is ∷ lemmas_over l x.terms (drop (suc i) cs)) one.is)
      ∙ (sym (ap (λ (ds : List Conclusion). lemmas ++ lemmas_over l terms ds) here.is) ∙ turn.left l cs all))));
}

all_long : (l : Language) (graph : List Term) (hs : List held.Conclusion) (cs : List Conclusion) → AllStandFor l graph hs cs → length hs ≡ length cs
all_long l graph [] [] all = refl
all_long l graph [] (c ∷ cs) all = absurd all
all_long l graph (h ∷ hs) [] all = absurd all
all_long l graph (h ∷ hs) (c ∷ cs) all = ap suc (all_long l graph hs cs all.1)

pub turn_last : (graph : List Term) (hs : List held.Conclusion) (terms : List Term) (lemmas : List Derivation) (i : ℕ) → Turn graph hs terms lemmas i → length hs ≤ i → (l : Language) (cs : List Conclusion) → AllStandFor l graph hs cs → lemmas ≡ lemmas_over l [] cs
turn_last graph hs terms lemmas i turn end l cs all =
    sym (append-nil lemmas)
    ∙ (sym (ap (λ (ds : List Conclusion). lemmas ++ lemmas_over l terms ds) (drop_end cs i (let long : length hs ≡ length cs = all_long l graph hs cs all in omega arith))) ∙ turn.left l cs all)

-- the same for conclusions behind references
pub turn_more : (graph : List Term) (bs : List (Bor held.Conclusion)) (terms next : List Term) (lemmas more : List Derivation) (i : ℕ) (b : Bor held.Conclusion) (lemma : Derivation) → Turn graph (referents bs) terms lemmas i → i < length bs → b ≡ get_or bs i b
    → ((l : Language) (c : Conclusion) → StandsFor l graph b.now c → IsLemma l c terms next lemma) → more ≡ lemmas ++ lemma ∷ [] → Turn graph (referents bs) next more (i + 1)
turn_more graph bs terms next lemmas more i b lemma turn below at made e =
    turn_next graph (referents bs) terms next lemmas more i b.now lemma turn (let long : length (referents bs) ≡ length bs = behind_length bs in omega arith) (behind_at bs i b below at) made e

pub turn_end : (graph : List Term) (bs : List (Bor held.Conclusion)) (terms : List Term) (lemmas : List Derivation) (i : ℕ) → Turn graph (referents bs) terms lemmas i → length bs ≤ i → (l : Language) (cs : List Conclusion) → AllStandFor l graph (referents bs) cs → lemmas ≡ lemmas_over l [] cs
turn_end graph bs terms lemmas i turn end = turn_last graph (referents bs) terms lemmas i turn (let long : length (referents bs) ≡ length bs = behind_length bs in omega arith)
