-- What appends of a piece, one front after another, add up to.
use Rattle.std.proofs.Common.{◌≡◌, ℕ, ◌+◌, ◌-◌, ◌≤◌, List, ◌++◌, length, take, drop, Option, None, Some, Err, IsErrOf, IsNone, refl, ap, sym, ◌∙◌, subst, arith}
use Rattle.std.proofs.lemmas.Grind.{common_steps}
use Rattle.std.proofs.lemmas.List.{take_all}
use Rattle.vcc_base.specs.Maps.{Map, IfTold, IfHeld, Holds, NowHolds}
use Rattle.vcc_base.specs.declared.store.StoreFault.{StoreFault}
use Rattle.vcc_base.specs.declared.store.StoreFault.TheVariants.{Missing}
use Rattle.vcc_base.proofs.Writing.{taken_more}

-- the first bytes of the piece stand behind those of the name; a name that isn't held still isn't
pub record Grown (told now : Option Map) (name piece : List ℕ) (done : ℕ) : Type 0 where
  pub grown : IfTold told (λ m. IfHeld m name (λ bytes. NowHolds told now name (bytes ++ take done piece)))
  pub still : IfTold told (λ m. IsNone (m name) → now ≡ told)

-- no bytes behind some
nothing : (bytes piece : List ℕ) → bytes ≡ bytes ++ take 0 piece
nothing bytes piece = grind (arith, common_steps)

-- before the first append
pub grown_none : (told : Option Map) (name piece : List ℕ) → Grown told told name piece 0
grown_none None name piece = record { grown = tt; still = tt }
grown_none (Some m) name piece = record {
  grown = λ bytes is. (m, refl, record { held = is ∙ ap (λ xs. Some xs) (nothing bytes piece); others = λ q other. refl });
  still = λ none. refl;
}

-- what an append that took this many bytes of the rest says
abbrev pub Took : Option Map → Option Map → List ℕ → List ℕ → ℕ → ℕ → Type 0
Took now next name piece done count =
    IfTold now (λ m. IfHeld m name (λ bytes. NowHolds now next name (bytes ++ take count (take (length piece - done) (drop done piece)))))

-- two changes of one name, one after the other
pub holds_again : (m n k : Map) (name first second : List ℕ) → Holds m n name first → Holds n k name second → Holds m k name second
holds_again m n k name first second one two =
    record { held = two.held; others = λ q other. two.others q other ∙ one.others q other }

-- after one append more
pub grown_more : (told now next : Option Map) (name piece : List ℕ) (done count : ℕ) → Grown told now name piece done → Took now next name piece done count → IfTold now (λ m. IsNone (m name) → ⊥) → Grown told next name piece (done + count)
grown_more None now next name piece done count before took held = record { grown = tt; still = tt }
grown_more (Some m) now next name piece done count before took held = record {
  grown = λ bytes is.
      let was : (n : Map) × (now ≡ Some n) × Holds m n name (bytes ++ take done piece) = before.grown bytes is in
      let P : Option Map → Type 0 = λ o. Took o next name piece done count in
      let more : Took (Some was.0) next name piece done count = subst P was.1 took in
      let then : (k : Map) × (next ≡ Some k) × Holds was.0 k name ((bytes ++ take done piece) ++ take count (take (length piece - done) (drop done piece))) = more _ was.2.held in
      let Q : List ℕ → Type 0 = λ xs. Holds m then.0 name xs in
      (then.0, then.1, subst Q (taken_more bytes piece done count) (holds_again m was.0 then.0 name _ _ was.2 then.2));
  still = λ none.
      let P : Option Map → Type 0 = λ o. IfTold o (λ m. IsNone (m name) → ⊥) in
      let never : IsNone (m name) → ⊥ = subst P (before.still none) held in
      absurd (never none);
}

-- all of the piece was taken
pub grown_all : (told now : Option Map) (name piece : List ℕ) (done : ℕ) → Grown told now name piece done → length piece ≤ done → IfTold told (λ m. IfHeld m name (λ bytes. NowHolds told now name (bytes ++ piece)))
grown_all None now name piece done before all = tt
grown_all (Some m) now name piece done before all =
    let P : List ℕ → Type 0 = λ xs. IfTold (Some m) (λ m. IfHeld m name (λ bytes. NowHolds (Some m) now name (bytes ++ xs))) in
    subst P (take_all done piece all) before.grown

-- a name that is held is some bytes
none_or : (o : Option (List ℕ)) → ((bytes : List ℕ) → o ≡ Some bytes → ⊥) → IsNone o
none_or None never = refl
none_or (Some bytes) never = absurd (never bytes refl)

-- a name that a later append missed wasn't held
pub grown_missing : (told now : Option Map) (name piece : List ℕ) (done : ℕ) → Grown told now name piece done → ((n : Map) × (now ≡ Some n) × IsNone (n name)) → IfTold told (λ m. IsNone (m name))
grown_missing None now name piece done before gone = tt
grown_missing (Some m) now name piece done before gone =
    none_or (m name) (λ bytes is.
    let was : (n : Map) × (now ≡ Some n) × Holds m n name (bytes ++ take done piece) = before.grown bytes is in
    let both : was.0 ≡ gone.0 = cc in
    let P : Map → Type 0 = λ n. IsNone (n name) in
    let none : IsNone (was.0 name) = subst P (sym both) gone.2 in
    absurd (cc (was.2.held)))

-- the same, of the fault that was passed on
pub fault_missing : (told now : Option Map) (name piece : List ℕ) (done : ℕ) (fault : StoreFault) → Grown told now name piece done → (IsErrOf {T = ℕ} (Err fault) Missing → (n : Map) × (now ≡ Some n) × IsNone (n name)) → IfTold told (λ m. IsErrOf {T = Unit {0}} (Err fault) Missing → IsNone (m name))
fault_missing None now name piece done fault before gone = tt
fault_missing (Some m) now name piece done fault before gone = λ is.
    let same : fault ≡ Missing = cc in
    let again : IsErrOf {T = ℕ} (Err fault) Missing = cc in
    grown_missing (Some m) now name piece done before (gone again)
