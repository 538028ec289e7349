-- What is written of blocks, up to a fault.
use Rattle.std.proofs.Common.{◌≡◌, ◌⊎◌, ℕ, ◌+◌, ◌-◌, ◌<◌, List, [], ◌∷◌, ◌++◌, length, Option, Some, None, IsNone, Result, Ok, Err, IsErrOf, refl, inl, inr, sym, ap, ◌∙◌, subst, append_assoc, arith}
use Rattle.std.specs.Result.{IsErrAnd}
use Rattle.std.proofs.lemmas.Result.{err_from_is_err_and}
use Rattle.std.proofs.lemmas.List.{append-nil, length-append}
use Rattle.std.proofs.lemmas.List.Concat.{flat_map-append}
use Rattle.cert_format.specs.Derivations.{Derivation}
use Rattle.cert_format.specs.Text.{block_text}
use Rattle.vcc_base.specs.Limits.{number_of}
use Rattle.vcc_base.specs.declared.limit.Limit.TheVariants.{CertBytes as Most}
use Rattle.vcc_base.specs.Maps.{Map, IfTold, IfHeld, NowHolds, FrontHeld}
use Rattle.vcc_base.specs.declared.store.StoreFault.{StoreFault}
use Rattle.vcc_base.specs.declared.store.StoreFault.TheVariants.{Missing, Failed, OutOfMemory}
use Rattle.vcc_verify.specs.declared.fault.VerifyFault.{VerifyFault}
use Rattle.vcc_verify.specs.declared.fault.VerifyFault.TheVariants as f
use Rattle.vcc_verify.specs.Texts.{blocks_text, end_text}
use Rattle.vcc_verify.specs.Outcomes.{Overflows}
use Rattle.vcc_verify.specs.Writing.{Stands, Cut, After}
use Rattle.vcc_verify.proofs.Fronts.{held_as, front_as, front_first, front_then, then_holds, then_front}

abbrev pub failing : {X : Type 0} → VerifyFault → Result X VerifyFault
failing e = Err e

-- what a fault leaves holds of the result that is this fault
pub exits : {X : Type 0} (result : Result X VerifyFault) (fault : VerifyFault) (P : Result X VerifyFault → Type 0) → IsErrAnd result (λ e. e ≡ fault) → P (Err fault) → P result
exits result fault P is h = let q = err_from_is_err_and result is in subst P (sym (q.1 ∙ ap failing q.2)) h

-- ---- blocks, one after the other

module _ (before now : Option Map) (name text : List ℕ) where
  overflows_then : (b : Derivation) (bs : List Derivation) → Overflows before now name (text ++ block_text b) bs → Overflows before now name text (b ∷ bs)
  overflows_then b bs o = record {
    front = b ∷ o.front;
    next = o.next;
    rest = o.rest;
    split = ap (λ (xs : List Derivation). b ∷ xs) o.split;
    holds = held_as before name now _ _ (append_assoc text (block_text b) (blocks_text o.front)) o.holds;
    longer = subst (λ (t : List ℕ). number_of Most < length (t ++ end_text)) (append_assoc text (block_text b) (blocks_text (o.front ++ o.next ∷ []))) o.longer;
  }

  -- a block, and what is left of those behind it
  pub cut_then : (fault : VerifyFault) (b : Derivation) (bs : List Derivation) → Cut fault before now name (text ++ block_text b) bs → Cut fault before now name text (b ∷ bs)
  cut_then f.CertBytes b bs cut = overflows_then b bs cut
  cut_then (f.Store Missing) b bs cut = cut
  cut_then (f.Store Failed) b bs cut = front_then before name now text (block_text b) (blocks_text bs) cut
  cut_then (f.Store OutOfMemory) b bs cut = front_then before name now text (block_text b) (blocks_text bs) cut
  cut_then (f.Sink fault) b bs cut = front_then before name now text (block_text b) (blocks_text bs) cut
  cut_then f.OutOfMemory b bs cut = front_then before name now text (block_text b) (blocks_text bs) cut

  pub after_then : {X : Type 0} (result : Result X VerifyFault) (b : Derivation) (bs : List Derivation) → After result before now name (text ++ block_text b) bs → After result before now name text (b ∷ bs)
  after_then (Ok x) b bs held = held_as before name now _ _ (append_assoc text (block_text b) (blocks_text bs)) held
  after_then (Err fault) b bs cut = cut_then fault b bs cut

  some_front : (us bs : List Derivation) → FrontHeld before now name text (blocks_text us) → FrontHeld before now name text (blocks_text (us ++ bs))
  some_front us bs front =
      front_as before name now text _ _ (sym (flat_map-append block_text us bs)) (front_first before name now text (blocks_text us) (blocks_text bs) front)

  -- what is left of some blocks is left of more
  pub cut_more : (fault : VerifyFault) (us bs : List Derivation) → Cut fault before now name text us → Cut fault before now name text (us ++ bs)
  cut_more f.CertBytes us bs o = record {
    front = o.front;
    next = o.next;
    rest = o.rest ++ bs;
    split = ap (λ (xs : List Derivation). xs ++ bs) o.split ∙ append_assoc o.front (o.next ∷ o.rest) bs;
    holds = o.holds;
    longer = o.longer;
  }
  cut_more (f.Store Missing) us bs cut = cut
  cut_more (f.Store Failed) us bs cut = some_front us bs cut
  cut_more (f.Store OutOfMemory) us bs cut = some_front us bs cut
  cut_more (f.Sink fault) us bs cut = some_front us bs cut
  cut_more f.OutOfMemory us bs cut = some_front us bs cut

-- the blocks of an item, and what is left of those behind it
pub cut_joined : (before now : Option Map) (name text : List ℕ) (fault : VerifyFault) (us bs : List Derivation) → Cut fault before now name (text ++ blocks_text us) bs → Cut fault before now name text (us ++ bs)
cut_joined before now name text fault [] bs cut = subst (λ (t : List ℕ). Cut fault before now name t bs) (append-nil text) cut
cut_joined before now name text fault (a ∷ us) bs cut =
    cut_then before now name text fault a (us ++ bs) (cut_joined before now name (text ++ block_text a) fault us bs
    (subst (λ (t : List ℕ). Cut fault before now name t bs) (sym (append_assoc text (block_text a) (blocks_text us))) cut))

pub after_joined : {X : Type 0} (before now : Option Map) (name text : List ℕ) (result : Result X VerifyFault) (us bs : List Derivation) → After result before now name (text ++ blocks_text us) bs → After result before now name text (us ++ bs)
after_joined before now name text (Ok x) us bs held =
    held_as before name now _ _ (append_assoc text (blocks_text us) (blocks_text bs) ∙ ap (λ (t : List ℕ). text ++ t) (sym (flat_map-append block_text us bs))) held
after_joined before now name text (Err fault) us bs cut = cut_joined before now name text fault us bs cut

-- ---- one block

-- the first piece of one block is its text
pub one_text : (b : Derivation) → blocks_text (b ∷ []) ≡ block_text b
one_text b = append-nil (block_text b)

-- what a fault of the store leaves of a piece
pub store_leaves : (fault : StoreFault) (before now next : Option Map) (name text piece : List ℕ) → NowHolds before now name text
    → IfTold now (λ m. IfHeld m name (λ bytes. FrontHeld now next name bytes piece)) → IfTold now (λ m. IsErrOf {T = Unit {0}} (Err fault) Missing → IsNone (m name))
    → ((fault ≡ Missing) × IfTold before (λ m. ⊥)) ⊎ ((fault ≡ Missing → ⊥) × FrontHeld before next name text piece)
store_leaves Missing None now next name text piece held front missing = inl (refl, tt)
store_leaves Missing (Some m) now next name text piece (n, is, holds) front missing =
    let P : Option Map → Type 0 = λ o. IfTold o (λ m. IsErrOf {T = Unit {0}} (Err Missing) Missing → IsNone (m name)) in
    let none : IsNone (n name) = subst P is missing refl in
    absurd (cc (holds.held))
store_leaves Failed before now next name text piece held front missing = inr ((λ e. absurd (cc e)), then_front before now next name text piece held (at_text now front))
  where
    at_text : (o : Option Map) → IfTold o (λ m. IfHeld m name (λ bytes. FrontHeld o next name bytes piece)) → IfTold o (λ m. m name ≡ Some text → FrontHeld o next name text piece)
    at_text None h = tt
    at_text (Some m) h = λ e. h text e
store_leaves OutOfMemory before now next name text piece held front missing = inr ((λ e. absurd (cc e)), then_front before now next name text piece held (at_text now front))
  where
    at_text : (o : Option Map) → IfTold o (λ m. IfHeld m name (λ bytes. FrontHeld o next name bytes piece)) → IfTold o (λ m. m name ≡ Some text → FrontHeld o next name text piece)
    at_text None h = tt
    at_text (Some m) h = λ e. h text e

pub store_cut : (fault : StoreFault) (before next : Option Map) (name text : List ℕ) (b : Derivation)
    → ((fault ≡ Missing) × IfTold before (λ m. ⊥)) ⊎ ((fault ≡ Missing → ⊥) × FrontHeld before next name text (block_text b)) → Cut (f.Store fault) before next name text (b ∷ [])
store_cut Missing before next name text b (inl (is, never)) = never
store_cut Missing before next name text b (inr (not, front)) = absurd (not refl)
store_cut Failed before next name text b (inl (is, never)) = absurd (cc is)
store_cut Failed before next name text b (inr (not, front)) = front_as before name next text _ _ (sym (one_text b)) front
store_cut OutOfMemory before next name text b (inl (is, never)) = absurd (cc is)
store_cut OutOfMemory before next name text b (inr (not, front)) = front_as before name next text _ _ (sym (one_text b)) front

-- what was appended to a text
pub append_holds : (before now next : Option Map) (name text piece : List ℕ) → NowHolds before now name text
    → IfTold now (λ m. IfHeld m name (λ bytes. NowHolds now next name (bytes ++ piece))) → NowHolds before next name (text ++ piece)
append_holds before now next name text piece held h = then_holds before now next name text (text ++ piece) held (at_text now h)
  where
    at_text : (o : Option Map) → IfTold o (λ m. IfHeld m name (λ bytes. NowHolds o next name (bytes ++ piece))) → IfTold o (λ m. m name ≡ Some text → NowHolds o next name (text ++ piece))
    at_text None k = tt
    at_text (Some m) k = λ e. k text e

-- a block behind which the last line has no room
pub too_long : (before now : Option Map) (name text : List ℕ) (written : ℕ) (b : Derivation) → Stands before now name text written → 67108860 - written < length (block_text b) → Cut f.CertBytes before now name text (b ∷ [])
too_long before now name text written b stands above = record {
  front = [];
  next = b;
  rest = [];
  split = refl;
  holds = held_as before name now text (text ++ []) (sym (append-nil text)) stands.holds;
  longer =
      let all : length ((text ++ blocks_text (b ∷ [])) ++ end_text) ≡ length (text ++ blocks_text (b ∷ [])) + 4 = length-append (text ++ blocks_text (b ∷ [])) end_text in
      let both : length (text ++ blocks_text (b ∷ [])) ≡ length text + length (blocks_text (b ∷ [])) = length-append text (blocks_text (b ∷ [])) in
      let one : length (blocks_text (b ∷ [])) ≡ length (block_text b) = ap length (one_text b) in
      omega (arith, all, both, one, above, stands.long, stands.room);
}
