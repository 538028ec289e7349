-- The first lines, and one block, as the store's answers leave them.
use Rattle.std.proofs.Common.{◌≡◌, ◌⊎◌, ℕ, ◌+◌, ◌-◌, ◌<◌, ◌≤◌, List, [], ◌∷◌, ◌++◌, length, Option, IsNone, Err, IsErrOf, refl, inl, inr, sym, ap, ◌∙◌, subst, arith}
use Rattle.cert_format.specs.Derivations.{Derivation}
use Rattle.cert_format.specs.Text.{block_text}
use Rattle.vcc_base.specs.Maps.{Map, IfTold, IfHeld, NowHolds, FrontHeld}
use Rattle.vcc_base.specs.declared.store.StoreFault.{StoreFault}
use Rattle.vcc_base.specs.declared.store.StoreFault.TheVariants.{Missing, Failed, OutOfMemory}
use Rattle.vcc_verify.specs.declared.fault.VerifyFault.TheVariants as f
use Rattle.vcc_verify.specs.Texts.{head_text, blocks_text}
use Rattle.vcc_verify.specs.Writing.{Stands, Cut, Begins}
use Rattle.vcc_verify.proofs.Fronts.{held_as}
use Rattle.vcc_verify.proofs.Cuts.{one_text, store_leaves, store_cut, append_holds, too_long}
use Rattle.vcc_verify.proofs.Endings.{head_fits}

-- what an append of a piece answers
abbrev pub Front : Option Map → Option Map → List ℕ → List ℕ → Type 0
Front now next name piece = IfTold now (λ m. IfHeld m name (λ bytes. FrontHeld now next name bytes piece))

abbrev pub Absent : StoreFault → Option Map → List ℕ → Type 0
Absent fault now name = IfTold now (λ m. IsErrOf {T = Unit {0}} (Err fault) Missing → IsNone (m name))

abbrev pub Grown : Option Map → Option Map → List ℕ → List ℕ → Type 0
Grown now next name piece = IfTold now (λ m. IfHeld m name (λ bytes. NowHolds now next name (bytes ++ piece)))

-- ---- the first lines

pub no_create : (fault : StoreFault) (old new : Option Map) (name : List ℕ) (count : ℕ) → (IsErrOf {T = Unit {0}} (Err fault) Missing → ⊥) → new ≡ old → Begins (Err (f.Store fault)) old new name count
no_create Missing old new name count never same = absurd (never refl)
no_create Failed old new name count never same = inl same
no_create OutOfMemory old new name count never same = inl same

pub head_cut : (fault : StoreFault) (old now new : Option Map) (name : List ℕ) (count : ℕ) (text : List ℕ) → text ≡ head_text count → NowHolds old now name [] → Front now new name text → Absent fault now name → Begins (Err (f.Store fault)) old new name count
head_cut fault old now new name count text is created front absent =
    left fault (store_leaves fault old now new name [] (head_text count) created (subst (λ (t : List ℕ). Front now new name t) is front) absent)
  where
    left : (e : StoreFault) → ((e ≡ Missing) × IfTold old (λ m. ⊥)) ⊎ ((e ≡ Missing → ⊥) × FrontHeld old new name [] (head_text count)) → Begins (Err (f.Store e)) old new name count
    left Missing (inl (same, never)) = never
    left Missing (inr (not, held)) = absurd (not refl)
    left Failed (inl (same, never)) = absurd (cc same)
    left Failed (inr (not, held)) = inr held
    left OutOfMemory (inl (same, never)) = absurd (cc same)
    left OutOfMemory (inr (not, held)) = inr held

pub head_stands : (old now new : Option Map) (name : List ℕ) (count n : ℕ) (text : List ℕ) → text ≡ head_text count → n ≡ length text → count ≤ 20000 → NowHolds old now name [] → Grown now new name text → Stands old new name (head_text count) n
head_stands old now new name count n text is long few created grown =
    let room : length (head_text count) + 4 ≤ 67108864 = head_fits count few in
    let same : n ≡ length (head_text count) = long ∙ ap length is in
    record {
      holds = append_holds old now new name [] (head_text count) created (subst (λ (t : List ℕ). Grown now new name t) is grown);
      long = same;
      room = omega (arith, room, same);
    }

-- ---- one block

pub block_cut : (fault : StoreFault) (before now next : Option Map) (name text piece : List ℕ) (b : Derivation) → piece ≡ block_text b → NowHolds before now name text → Front now next name piece → Absent fault now name → Cut (f.Store fault) before next name text (b ∷ [])
block_cut fault before now next name text piece b is held front absent =
    store_cut fault before next name text b (store_leaves fault before now next name text (block_text b) held (subst (λ (t : List ℕ). Front now next name t) is front) absent)

pub block_holds : (before now next : Option Map) (name text piece : List ℕ) (b : Derivation) → piece ≡ block_text b → NowHolds before now name text → Grown now next name piece → NowHolds before next name (text ++ blocks_text (b ∷ []))
block_holds before now next name text piece b is held grown =
    held_as before name next _ _ (ap (λ (t : List ℕ). text ++ t) (is ∙ sym (one_text b))) (append_holds before now next name text piece held grown)

pub block_too_long : (before now : Option Map) (name text : List ℕ) (written : ℕ) (piece : List ℕ) (b : Derivation) → piece ≡ block_text b → Stands before now name text written → 67108860 - written < length piece → Cut f.CertBytes before now name text (b ∷ [])
block_too_long before now name text written piece b is stands above = too_long before now name text written b stands (subst (λ (t : List ℕ). 67108860 - written < length t) is above)
