-- What an upgrade comes to.
use Rattle.std.proofs.Common.{◌≡◌, inl, inr, ℕ, ◌<◌, ◌≤◌, List, [], ◌++◌, length, Option, Some, IsNone, Result, Ok, Err, IfOk, IfErr, OnOk, OnErr, ◌⊎◌, IsErrOf, MatchResult, refl, ap, sym, ◌∙◌, subst, arith}
use Rattle.method.specs.declared.program.Program.{Program}
use Rattle.conditions.specs.Conditions.{conditions}
use Rattle.cert_format.specs.Derivations.{Derivation}
use Rattle.cert_format.specs.Text.{IsCertificate, Proofs, lines_of, text_of}
use Rattle.certificate_upgrade.specs.Lemmas.{AreFew}
use Rattle.certificate_upgrade.specs.Upgrade.{upgraded}
use Rattle.upgrade_laws.specs.Laws.{FirstVersions, FitIndices, UpgradeIsCertificate, UpgradeKeeps}
use Rattle.vcc_base.specs.Maps.{IfHeld, IfTold, FrontHeld, Map, NowHolds}
use Rattle.vcc_base.specs.Limits.{number_of}
use Rattle.vcc_base.specs.declared.limit.Limit.TheVariants as limit
use Rattle.vcc_base.specs.declared.store.StoreFault.{StoreFault}
use Rattle.vcc_base.specs.declared.store.StoreFault.TheVariants as store
use Rattle.vcc_verify.proofs.Cuts.{append_holds, store_leaves}
use Rattle.vcc_io.specs.declared.refusal.Refusal.{Refusal}
use Rattle.vcc_io.specs.declared.refusal.Refusal.TheVariants.{Count, Limit, OutOfMemory, ReadFault}
use Rattle.vcc_io.specs.Faults.{IsReadFault}
use Rattle.vcc_io.specs.FirstVersions.{HoldsFirstVersion, IsFirst}
use Rattle.vcc_io.specs.Held.{HoldsProgram}
use Rattle.vcc_io.specs.Lines.{Written, write_fault_line}
use Rattle.vcc_io.proofs.Statuses.{no_zero, no_zero_line}
use Rattle.vcc_cli.specs.declared.upgrade.Anew.{Anew}
use Rattle.vcc_cli.specs.Searches.{stored}
use Rattle.vcc_cli.specs.SecondVersions.{HoldsAnew, IsAnew}
use Rattle.vcc_cli.specs.Upgrades.{IsRewritten, IsUnmade, IsUpgradeStopOf, IsWriteEnding, LeavesText, LeavesUpgrade}

-- ---- what is made of it

module _ (p : Program) (k new : Proofs) (is : new ≡ upgraded p k) (law : UpgradeIsCertificate) (first : IsFirst k) (few : AreFew new.lemmas) (ds : List Derivation) (same : ds ≡ new.lemmas) (indices : FitIndices ds) where
  few_anew : AreFew (upgraded p k).lemmas
  few_anew = subst (λ (q : Proofs). AreFew q.lemmas) is few

  fits_anew : IsCertificate (upgraded p k)
  fits_anew = law p k first.fits first.version few_anew (subst (λ (q : Proofs). FitIndices q.lemmas) is (subst FitIndices same indices))

  pub new_fits : IsCertificate new
  new_fits = subst IsCertificate (sym is) fits_anew

  pub new_second : new.version ≡ 2
  new_second = ap (λ (q : Proofs). q.version) is

  pub is_anew : (made : Anew) → made.text.items ≡ text_of (lines_of new) → length made.text.items ≤ number_of limit.CertBytes → made.lemmas ≡ length new.lemmas → IsAnew p k made
  is_anew made text short many =
      let whole = text ∙ ap (λ (q : Proofs). text_of (lines_of q)) is in
      record {
        few = few_anew;
        fits = fits_anew;
        text = whole;
        short = subst (λ (t : List ℕ). length t ≤ number_of limit.CertBytes) whole short;
        many = many ∙ ap (λ (q : Proofs). length q.lemmas) is;
      }

  -- its text is too long
  pub is_too_long : (text : List ℕ) → text ≡ text_of (lines_of new) → number_of limit.CertBytes < length text → IsUnmade p k (Limit limit.CertBytes)
  is_too_long text whole long = (few_anew, subst (λ (t : List ℕ). number_of limit.CertBytes < length t) (whole ∙ ap (λ (q : Proofs). text_of (lines_of q)) is) long)

unmade_unread : (p : Program) (k : Proofs) (e : Refusal) → IsUnmade p k e → IsReadFault {X = Anew} (Err e) → ⊥
unmade_unread p k (ReadFault n) none is = none
unmade_unread p k _ none is = is

-- what can't be made is refused for no read
pub no_unmade_read : (p : Program) (k : Proofs) (r : Result Anew Refusal) → IfErr r (IsUnmade p k) → IsReadFault r → ⊥
no_unmade_read p k (Ok a) none is = is
no_unmade_read p k (Err e) none is = unmade_unread p k e none is

module _ (m : Map) (name : List ℕ) (p : Program) (k : Proofs) (holds : HoldsFirstVersion m name k) where
  pub anew_answer : (r : Result Anew Refusal) → length k.blocks ≡ length (conditions p) → IsFirst k → IfOk r (IsAnew p k) → IfErr r (IsUnmade p k) → MatchResult r (HoldsAnew m name p) (IsUpgradeStopOf m name p)
  anew_answer (Ok a) agree first made unmade = record { proofs = k; cert = holds; agree = agree; first = first; anew = made }
  anew_answer (Err e) agree first made unmade = inr (k, holds, inr (agree, unmade))

  pub miscounted : (blocks count : ℕ) → blocks ≡ length k.blocks → count ≡ length (conditions p) → (blocks ≡ count → ⊥) → IsUpgradeStopOf m name p (Count (record { blocks = blocks; conditions = count }))
  miscounted blocks count many each differ =
      inr (
        k,
        holds,
        inl (record {
          differ = λ same. differ (many ∙ (same ∙ sym each));
          is = ap (λ (n : ℕ). wrong_count n count) many ∙ ap (λ (n : ℕ). wrong_count (length k.blocks) n) each;
        }),
      )
    where
      wrong_count : ℕ → ℕ → Refusal
      wrong_count n c = Count (record { blocks = n; conditions = c })

-- ---- the writing

pub not_created : (fault : StoreFault) (old new : Option Map) (name text : List ℕ) (before after : ℕ) → (IsErrOf {T = Unit {0}} (Err fault) store.Missing → ⊥) → (IsErrOf {T = Unit {0}} (Err fault) store.Failed → before < after) → new ≡ old → LeavesText (Err fault) (stored before after old new) name text
not_created store.Missing old new name text before after never rises same = absurd (never refl)
not_created store.Failed old new name text before after never rises same = (inl same, rises refl)
not_created store.OutOfMemory old new name text before after never rises same = inl same

module _ (old now new : Option Map) (name text : List ℕ) (before then after : ℕ) (created : NowHolds old now name []) (onward : before ≤ then) where
  cut : (fault : StoreFault) → IfTold now (λ m. IfHeld m name (λ bytes. FrontHeld now new name bytes text)) → IfTold now (λ m. IsErrOf {T = Unit {0}} (Err fault) store.Missing → IsNone (m name)) → (IsErrOf {T = Unit {0}} (Err fault) store.Failed → then < after) → LeavesText (Err fault) (stored before after old new) name text
  cut fault front missing rises = left fault (store_leaves fault old now new name [] text created front missing) rises
    where
      left : (e : StoreFault) → ((e ≡ store.Missing) × IfTold old (λ m. ⊥)) ⊎ ((e ≡ store.Missing → ⊥) × FrontHeld old new name [] text) → (IsErrOf {T = Unit {0}} (Err e) store.Failed → then < after) → LeavesText (Err e) (stored before after old new) name text
      left store.Missing (inl gone) up = gone.1
      left store.Missing (inr held) up = absurd (held.0 refl)
      left store.Failed (inl gone) up = absurd (let same : store.Failed ≡ store.Missing = gone.0 in cc same)
      left store.Failed (inr held) up = (inr held.1, let rose : then < after = up refl in omega (arith, onward, rose))
      left store.OutOfMemory (inl gone) up = absurd (let same : store.OutOfMemory ≡ store.Missing = gone.0 in cc same)
      left store.OutOfMemory (inr held) up = inr held.1

  -- what an append of the text to a name that was created leaves
  pub text_left : (r : Result (Unit {0}) StoreFault) → IfTold now (λ m. IfHeld m name (λ bytes. OnOk r (NowHolds now new name (bytes ++ text)))) → IfTold now (λ m. IfHeld m name (λ bytes. OnErr r (FrontHeld now new name bytes text)))
      → IfTold now (λ m. IsErrOf r store.Missing → IsNone (m name)) → (IsErrOf r store.Failed → then < after) → LeavesText r (stored before after old new) name text
  text_left (Ok u) whole front missing rises = append_holds old now new name [] text created whole
  text_left (Err fault) whole front missing rises = cut fault front missing rises

-- ---- the whole

module _ (m : Map) (source_name cert_name new_name : List ℕ) (w : Written) (status : ℕ) where
  pub rewritten : (p : Program) (made : Anew) (text : List ℕ) (first then last : ℕ) (told held now : Option Map) (written : Result (Unit {0}) StoreFault) → HoldsProgram m source_name p → HoldsAnew m cert_name p made → text ≡ made.text.items → then ≡ first → held ≡ told
      → LeavesText written (stored then last held now) new_name text → IsWriteEnding written new_name made.lemmas w status → IsRewritten m source_name cert_name new_name (stored first last told now) w status
  rewritten p made text first then last told held now written source holds same stays kept leaves ending =
      let anew = holds.anew in
      let at_first = subst (λ (n : ℕ). LeavesText written (stored n last held now) new_name text) stays leaves in
      let at_once = subst (λ (o : Option Map). LeavesText written (stored first last o now) new_name text) kept at_first in
      record {
        program = p;
        proofs = holds.proofs;
        source = source;
        cert = holds.cert;
        agree = holds.agree;
        few = anew.few;
        text = record { spelled = refl; fits = anew.fits };
        short = anew.short;
        written = written;
        leaves = subst (λ (t : List ℕ). LeavesText written (stored first last told now) new_name t) (same ∙ anew.text) at_once;
        ending = subst (λ (n : ℕ). IsWriteEnding written new_name n w status) anew.many ending;
      }

  -- with status 0 all of the text is written
  whole : (written : Result (Unit {0}) StoreFault) (first last lemmas : ℕ) (told now : Option Map) (text : List ℕ) → LeavesText written (stored first last told now) new_name text → IsWriteEnding written new_name lemmas w status → status ≡ 0 → NowHolds told now new_name text
  whole (Ok u) first last lemmas told now text leaves ending zeroed = leaves
  whole (Err store.Missing) first last lemmas told now text leaves ending zeroed = absurd (no_zero_line (write_fault_line new_name) w status ending zeroed)
  whole (Err store.Failed) first last lemmas told now text leaves ending zeroed = absurd (no_zero_line (write_fault_line new_name) w status ending zeroed)
  whole (Err store.OutOfMemory) first last lemmas told now text leaves ending zeroed = absurd (no_zero OutOfMemory w status ending zeroed)

  pub leaves_upgrade : (first last : ℕ) (told now : Option Map) → FirstVersions → UpgradeKeeps → told ≡ Some m → IsRewritten m source_name cert_name new_name (stored first last told now) w status → status ≡ 0 → LeavesUpgrade m now source_name cert_name new_name
  leaves_upgrade first last told now versions keeps given r zeroed =
      let text = text_of (lines_of (upgraded r.program r.proofs)) in
      let held = whole r.written first last (length (upgraded r.program r.proofs).lemmas) told now text r.leaves r.ending zeroed in
      record {
        program = r.program;
        proofs = r.proofs;
        source = r.source;
        cert = r.cert;
        text = r.text;
        leaves = subst (λ (o : Option Map). NowHolds o now new_name text) given held;
        same = keeps r.program r.proofs (versions r.proofs r.cert.holds.text.fits r.cert.version) r.few;
      }
