-- What reads of a name's bytes, one piece after another, add up to.
use Rattle.std.proofs.Common.{◌≡◌, ◌⊎◌, ℕ, ◌+◌, ◌<◌, ◌≤◌, List, [], ◌++◌, length, take, drop, Option, None, Some, Result, Ok, Err, IsErrOf, OnOk, IsNone, refl, inl, inr, ap, sym, ◌∙◌, arith, subst, length-append, length-drop, length-take}
use Rattle.std.proofs.lemmas.Grind.{common_steps}
use Rattle.std.proofs.lemmas.List.{take_all}
use Rattle.std.proofs.Math.Seq.{take-add}
use Rattle.vcc_base.specs.Maps.{Map, IfTold, IfHeld, IsPieceOf}
use Rattle.vcc_base.specs.declared.store.StoreFault.{StoreFault}
use Rattle.vcc_base.specs.declared.store.StoreFault.TheVariants as store
use Rattle.vcc_base.specs.declared.whole.ReadFault.{ReadFault}
use Rattle.vcc_base.specs.declared.whole.ReadFault.TheVariants as read

-- what was read is a front of the whole
pub record IsFront (got whole : List ℕ) : Type 0 where
  pub fits : length got ≤ length whole
  pub same : take (length got) whole ≡ got

-- what was read is a front of what the name holds, where the store tells it
abbrev pub Front : Option Map → List ℕ → List ℕ → Type 0
Front told name got = IfTold told (λ m. IfHeld m name (λ whole. IsFront got whole))

-- the outcome of a whole read, as far as the store's map says it
pub record Says (told : Option Map) (name got : List ℕ) (limit : ℕ) (outcome : Result (Unit {0}) ReadFault) : Type 0 where
  pub bytes : IfTold told (λ m. OnOk outcome (m name ≡ Some got))
  pub missing : IfTold told (λ m. IsErrOf outcome read.Missing → IsNone (m name))
  pub absent : IfTold told (λ m. IsNone (m name) → (outcome ≡ Err read.Missing) ⊎ (outcome ≡ Err read.OutOfMemory))
  pub too_long : IfTold told (λ m. IsErrOf outcome read.TooLong → IfHeld m name (λ whole. limit < length whole))

-- what one read says of a name that isn't held
abbrev pub Absent : Option Map → List ℕ → Result ℕ StoreFault → Type 0
Absent told name outcome = IfTold told (λ m. IsNone (m name) → (outcome ≡ Err store.Missing) ⊎ (outcome ≡ Err store.OutOfMemory))

-- what one read says of the bytes of the name
abbrev pub Piece : Option Map → List ℕ → ℕ → ℕ → ℕ → List ℕ → Type 0
Piece told name offset count asked piece = IfTold told (λ m. IfHeld m name (λ whole. IsPieceOf whole offset count asked piece))

-- a name that isn't absent is held
pub held : (o : Option (List ℕ)) (Q : Type 0) → (IsNone o → ⊥) → ((whole : List ℕ) → o ≡ Some whole → Q) → Q
held None Q here each = absurd (here refl)
held (Some whole) Q here each = each whole refl

-- nothing is a front of anything
pub front_none : (told : Option Map) (name : List ℕ) → Front told name []
front_none None name = tt
front_none (Some m) name = λ whole is. record { fits = grind (arith, common_steps); same = grind (arith, common_steps) }

-- the piece that was read is as long as was said
pub piece_long : (whole piece : List ℕ) (offset count asked : ℕ) → IsPieceOf whole offset count asked piece → length (take count piece) ≡ count
piece_long whole piece offset count asked more = ap length more.same ∙ grind (arith, length-take, more.fits)

-- a front and the piece behind it are a front
pub front_piece : (got whole piece : List ℕ) (offset count asked : ℕ) → offset ≡ length got → IsFront got whole → IsPieceOf whole offset count asked piece → IsFront (got ++ take count piece) whole
front_piece got whole piece offset count asked at front more =
    let long : length (take count piece) ≡ count = piece_long whole piece offset count asked more in
    let rest : take count piece ≡ take count (drop (length got) whole) = more.same ∙ ap (λ k. take count (drop k whole)) at in
    record {
      fits = omega (arith, length-append {A = ℕ}, length-drop offset whole, more.fits, front.fits, long, at);
      same = ap (λ k. take k whole) (length-append got (take count piece) ∙ ap (λ k. length got + k) long)
          ∙ take-add (length got) count whole ∙ ap (λ xs. xs ++ take count (drop (length got) whole)) front.same ∙ ap (λ xs. got ++ xs) (sym rest);
    }

-- a front that is no shorter is the whole
pub front_whole : (got whole : List ℕ) → IsFront got whole → length whole ≤ length got → whole ≡ got
front_whole got whole front long = sym (take_all (length got) whole long) ∙ front.same

-- the front grows by the piece
pub front_more : (told now : Option Map) (name got piece : List ℕ) (offset count asked : ℕ) → now ≡ told → offset ≡ length got → Front told name got → Piece now name offset count asked piece → Front told name (got ++ take count piece)
front_more None now name got piece offset count asked kept at front more = tt
front_more (Some m) now name got piece offset count asked kept at front more =
    let P : Option Map → Type 0 = λ o. Piece o name offset count asked piece in
    let at_once : Piece (Some m) name offset count asked piece = subst P kept more in
    λ whole is. front_piece got whole piece offset count asked at (front whole is) (at_once whole is)

-- where the store says that the name isn't held
pub says_missing : (told now : Option Map) (name got : List ℕ) (limit : ℕ) → now ≡ told → IfTold now (λ m. IsErrOf {T = ℕ} (Err store.Missing) store.Missing → IsNone (m name)) → Says told name got limit (Err read.Missing)
says_missing None now name got limit kept missing = record { bytes = tt; missing = tt; absent = tt; too_long = tt }
says_missing (Some m) now name got limit kept missing =
    let P : Option Map → Type 0 = λ o. IfTold o (λ m. IsErrOf {T = ℕ} (Err store.Missing) store.Missing → IsNone (m name)) in
    let gone : IsErrOf {T = ℕ} (Err store.Missing) store.Missing → IsNone (m name) = subst P kept missing in
    record { bytes = tt; missing = λ is. gone refl; absent = λ none. inl refl; too_long = λ is. absurd (cc) }

-- want of memory says nothing
pub says_memory : (told : Option Map) (name got : List ℕ) (limit : ℕ) → Says told name got limit (Err read.OutOfMemory)
says_memory None name got limit = record { bytes = tt; missing = tt; absent = tt; too_long = tt }
says_memory (Some m) name got limit =
    record { bytes = tt; missing = λ is. absurd (cc); absent = λ none. inr refl; too_long = λ is. absurd (cc) }

-- a read that answered neither way is of a name that is held
pub here : (m : Map) (now : Option Map) (name : List ℕ) (outcome : Result ℕ StoreFault) → now ≡ Some m → Absent now name outcome → (outcome ≡ Err store.Missing → ⊥) → (outcome ≡ Err store.OutOfMemory → ⊥) → IsNone (m name) → ⊥
here m now name outcome kept absent not_missing not_memory none =
    let P : Option Map → Type 0 = λ o. Absent o name outcome in
    let either : (outcome ≡ Err store.Missing) ⊎ (outcome ≡ Err store.OutOfMemory) = (subst P kept absent) none in
    elim either [ inl is ↦ not_missing is | inr is ↦ not_memory is ]

-- where the read failed
pub says_failed : (told now : Option Map) (name got : List ℕ) (limit : ℕ) → now ≡ told → Absent now name (Err store.Failed) → Says told name got limit (Err read.Failed)
says_failed None now name got limit kept absent = record { bytes = tt; missing = tt; absent = tt; too_long = tt }
says_failed (Some m) now name got limit kept absent =
    record { bytes = tt; missing = λ is. absurd (cc); absent = λ none. absurd (here m now name _ kept absent (λ is. cc) (λ is. cc) none); too_long = λ is. absurd (cc) }

-- a read that gave nothing stood at the end
short : (offset count whole : ℕ) → (offset < whole → 0 < count) → count ≡ 0 → whole ≤ offset
short offset count whole some none = grind arith

-- where a read gave nothing
pub says_read : (told now : Option Map) (name got piece : List ℕ) (offset count asked limit : ℕ) → now ≡ told → offset ≡ length got → count ≡ 0 → 0 < asked → Absent now name (Ok count) → Front told name got → Piece now name offset count asked piece → Says told name got limit (Ok tt)
says_read None now name got piece offset count asked limit kept at none room absent front more = record { bytes = tt; missing = tt; absent = tt; too_long = tt }
says_read (Some m) now name got piece offset count asked limit kept at none room absent front more =
    let P : Option Map → Type 0 = λ o. Piece o name offset count asked piece in
    let at_once : Piece (Some m) name offset count asked piece = subst P kept more in
    record {
      bytes = held (m name) _ (here m now name _ kept absent (λ is. cc) (λ is. cc)) (λ whole is.
          let ended : length whole ≤ offset = short offset count (length whole) ((at_once whole is).some room) none in
          is ∙ ap (λ xs. Some xs) (front_whole got whole (front whole is) (omega arith)));
      missing = λ is. absurd (cc);
      absent = λ gone. absurd (here m now name _ kept absent (λ is. cc) (λ is. cc) gone);
      too_long = λ is. absurd (cc);
    }
