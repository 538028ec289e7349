-- How many terms lemmas have.
use Rattle.std.proofs.Common.{◌≡◌, ℕ, ◌+◌, ◌-◌, ◌<◌, ◌≤◌, List, length, drop, get_or, Some, refl, ap, sym, ◌∙◌, arith, length-append}
use Rattle.std.proofs.lemmas.List.{drop_all}
use Rattle.std.proofs.lemmas.Option.{slice_get-get_or}
use Rattle.cert_format.specs.Derivations.{Derivation}
use Rattle.certificate_upgrade.specs.Lemmas.{AreFew, lemma_terms}
use Rattle.vcc_upgrade.proofs.Lists.{at_left}

abbrev count : List Derivation → ℕ
count lemmas = length (lemma_terms lemmas)

-- so many more terms there may be behind the lemmas before this place
pub record IsLeft (left : ℕ) (lemmas : List Derivation) (i : ℕ) : Type 0 where
  pub sum : left + count lemmas ≡ 1_048_576 + count (drop i lemmas)

pub at_start : (lemmas : List Derivation) → IsLeft 1_048_576 lemmas 0
at_start lemmas = record { sum = refl }

count_at : (lemmas : List Derivation) (i : ℕ) (lemma : Derivation) → i < length lemmas → lemma ≡ get_or lemmas i lemma → count (drop i lemmas) ≡ length lemma.terms + count (drop (i + 1) lemmas)
count_at lemmas i lemma below at =
    ap count (at_left lemmas i lemma (slice_get-get_or lemmas i lemma below ∙ ap Some (sym at)))
    ∙ length-append lemma.terms (lemma_terms (drop (i + 1) lemmas))

pub at_next : (left n : ℕ) (lemmas : List Derivation) (i : ℕ) (lemma : Derivation) → i < length lemmas → lemma ≡ get_or lemmas i lemma → n ≡ length lemma.terms → n ≤ left → IsLeft left lemmas i → IsLeft (left - n) lemmas (i + 1)
at_next left n lemmas i lemma below at long fits is = record { sum = omega (arith, count_at lemmas i lemma below at, is.sum, long, fits) }

pub too_many : (left n : ℕ) (lemmas : List Derivation) (i : ℕ) (lemma : Derivation) → i < length lemmas → lemma ≡ get_or lemmas i lemma → n ≡ length lemma.terms → left < n → IsLeft left lemmas i → AreFew lemmas → ⊥
too_many left n lemmas i lemma below at long more is few = absurd (omega (arith, count_at lemmas i lemma below at, is.sum, long, more, few))

pub at_end : (left : ℕ) (lemmas : List Derivation) (i : ℕ) → length lemmas ≤ i → IsLeft left lemmas i → AreFew lemmas
at_end left lemmas i above is =
    let none : count (drop i lemmas) ≡ 0 = ap count (drop_all i lemmas above) in
    omega (arith, none, is.sum)
