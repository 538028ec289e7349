-- Where a condition is false, one comes to its check on the path, and the check fails there, if it doesn't stand alone.
use Rattle.std.proofs.Common.{◌≡◌, ℕ, suc, ◌+◌, ◌==◌, ◌⊎◌, inl, inr, ⊎_elim, List, [], ◌∷◌, ◌++◌, length, refl, sym, ◌∙◌, subst, arith, false, true≢false}
use Rattle.std.proofs.lemmas.Bool.{or_parts, eq-eqb}
use Rattle.object_types.specs.declared.references.Ref.{Ref}
use Rattle.terms.specs.Formula.{Formula}
use Rattle.term_meaning.specs.Meaning.{Language, IsValid}
use Rattle.conditions.specs.Formulas.{all_of}
use Rattle.conditions.specs.Paths.{Path, Done, Check, Fact, Branch, Standalone, Execution, checks, conditions, all_facts}
use Rattle.conditions.specs.Ways.{AllHold, FailsIn, IsFalseAt}
use Rattle.conditions.proofs.Ways.{many_conditions}
use Rattle.condition_meaning.proofs.Environments.{Environment, valid_holds}
use Rattle.condition_meaning.proofs.Known.{Known, known_parts, unknown_fails, unknown_imp}
use Rattle.converse_law.proofs.StandAlone.{Alone}
use Rattle.converse_law.specs.Standing.{stands_alone}

-- the condition of the check with this number is valid, if the check stands alone; the path's first check has number n
abbrev pub SoundAt : Language → ℕ → ℕ → Path → Type 0
SoundAt l label n Done = Unit {0}
SoundAt l label n (Check f q) = SoundAt l label (suc n) q
SoundAt l label n (Fact f q) = SoundAt l label n q
SoundAt l label n (Branch b q) = SoundAt l label n b × SoundAt l label (n + checks b) q
SoundAt l label n (Standalone f q) = ((n ≡ label) → IsValid l f) × SoundAt l label (suc n) q

pub sound_alone : (l : Language) (label n : ℕ) (q : Path) → Alone (IsValid l) q → SoundAt l label n q
sound_alone l label n Done a = tt
sound_alone l label n (Check f q) a = sound_alone l label (suc n) q a
sound_alone l label n (Fact f q) a = sound_alone l label n q a
sound_alone l label n (Branch b q) a = (sound_alone l label n b a.0, sound_alone l label (n + checks b) q a.1)
sound_alone l label n (Standalone f q) a = ((λ same. a.0), sound_alone l label (suc n) q a.1)

pub sound_unless : (l : Language) (label n : ℕ) (q : Path) → stands_alone label n q ≡ false → SoundAt l label n q
sound_unless l label n Done h = tt
sound_unless l label n (Check f q) h = sound_unless l label (suc n) q h
sound_unless l label n (Fact f q) h = sound_unless l label n q h
sound_unless l label n (Branch b q) h = let z = or_parts (stands_alone label n b) (stands_alone label (n + checks b) q) h in (sound_unless l label n b z.0, sound_unless l label (n + checks b) q z.1)
sound_unless l label n (Standalone f q) h =
    let z = or_parts (n == label) (stands_alone label (suc n) q) h in
    ((λ same. absurd (true≢false (sym (eq-eqb n label same) ∙ z.0))), sound_unless l label (suc n) q z.1)

-- behind facts alone the same stand alone
pub alone_behind : {A : Type 0} (label n : ℕ) (fs : List Formula) (u : Execution A) → stands_alone label n (all_facts fs u).path ≡ stands_alone label n u.path
alone_behind label n [] u = refl
alone_behind label n (f ∷ fs) u = alone_behind label n fs u

module _ (l : Language) (t : Ref) (e : Environment l t) where
  abbrev All : List Formula → Type 0
  All = AllHold (Environment l t) (Known l t) e

  abbrev FalseAt : ℕ → ℕ → List Formula → Type 0
  FalseAt label n fs = IsFalseAt (Environment l t) (Known l t) label n fs e

  all_before : (fs : List Formula) (f : Formula) → All (fs ++ f ∷ []) → All fs
  all_before [] f all = tt
  all_before (g ∷ gs) f all = (all.0, all_before gs f all.1)

  last_one : (fs : List Formula) (f : Formula) → All (fs ++ f ∷ []) → Known l t e f
  last_one [] f all = all.0
  last_one (g ∷ gs) f all = last_one gs f all.1

  false_apart : (label n : ℕ) (fs gs : List Formula) → FalseAt label n (fs ++ gs) → FalseAt label n fs ⊎ FalseAt label (n + length fs) gs
  false_apart label n [] gs x = inr (subst (λ (m : ℕ). FalseAt label m gs) (omega arith) x)
  false_apart label n (f ∷ fs) gs (inl x) = inl (inl x)
  false_apart label n (f ∷ fs) gs (inr x) = ⊎_elim (λ y. inl (inr y)) (λ y. inr (subst (λ (m : ℕ). FalseAt label m gs) (omega arith) y)) (false_apart label (suc n) fs gs x)

  pub fails_sound : (label n : ℕ) (known : List Formula) (q : Path) → SoundAt l label n q → FalseAt label n (conditions known q) → ¬ ¬ (All known × FailsIn (Environment l t) (Known l t) label n q e)
  fails_sound label n known Done sound x = λ out. x
  fails_sound label n known (Check c q) sound (inl x) = λ out. unknown_imp l t e (all_of known) c x.1 (λ y. out (known_parts l t e known y.0, inl (x.0, y.1)))
  fails_sound label n known (Check c q) sound (inr x) = λ out. fails_sound label (suc n) (known ++ c ∷ []) q sound x (λ y. out (all_before known c y.0, inr (last_one known c y.0, y.1)))
  fails_sound label n known (Fact c q) sound x = λ out. fails_sound label n (known ++ c ∷ []) q sound x (λ y. out (all_before known c y.0, (last_one known c y.0, y.1)))
  fails_sound label n known (Branch b q) sound x =
      λ out. ⊎_elim (λ y. fails_sound label n known b sound.0 y (λ z. out (z.0, inl z.1)))
      (λ y. fails_sound label (n + checks b) known q sound.1 (subst (λ (m : ℕ). FalseAt label (n + m) (conditions known q)) (many_conditions known b) y) (λ z. out (z.0, inr z.1)))
      (false_apart label n (conditions known b) (conditions known q) x)
  fails_sound label n known (Standalone c q) sound (inl x) = λ out. unknown_fails l t e c x.1 (valid_holds l c (sound.0 x.0) t e)
  fails_sound label n known (Standalone c q) sound (inr x) = fails_sound label (suc n) known q sound.1 x
