-- Reads of a certificate's bytes, one piece after the other.
use Rattle.std.proofs.Common.{◌≡◌, inr, ℕ, ◌+◌, ◌<◌, ◌≤◌, List, [], ◌++◌, length, take, Option, Some, Result, Ok, Err, IfOk, MatchResult, refl, ap, sym, ◌∙◌, subst, arith, length-append}
use Rattle.block_layout.specs.declared.space.Theory.{Theory}
use Rattle.cert_format.specs.Derivations.{Derivation}
use Rattle.vcc_base.specs.Limits.{number_of}
use Rattle.vcc_base.specs.Maps.{Map, IfHeld, IsPieceOf}
use Rattle.vcc_base.specs.declared.limit.Limit.TheVariants.{CertBytes}
use Rattle.vcc_base.proofs.Reading.{Absent, IsFront, Piece, front_piece, front_whole, held, here}
use Rattle.vcc_io.specs.declared.certificate.CertificateTrial.{CertificateTrial}
use Rattle.vcc_io.specs.declared.certificate.Outcome.{Outcome}
use Rattle.vcc_io.specs.declared.refusal.Refusal.{Refusal}
use Rattle.vcc_io.specs.declared.refusal.Refusal.TheVariants.{ReadFault}
use Rattle.vcc_io.specs.Certificates.{IsCertificateStop, IsNoCertificate}
use Rattle.vcc_io.specs.Faults.{IsReadFault}
use Rattle.vcc_io.specs.Pieces.{HasTried, HasTriedName, HoldsPiece, HoldsTrial, TookAll, TriesText}

-- ---- one read

pub holds_piece : (told : Option Map) (m : Map) (name piece : List ℕ) (offset n asked : ℕ) → told ≡ Some m → Absent told name (Ok n) → Piece told name offset n asked piece → HoldsPiece m name offset n asked piece
holds_piece told m name piece offset n asked given absent is =
    let P : Option Map → Type 0 = λ o. Piece o name offset n asked piece in
    let at_once : Piece (Some m) name offset n asked piece = subst P given is in
    held (m name) (HoldsPiece m name offset n asked piece) (here m told name (Ok n) given absent (λ e. cc) (λ e. cc)) (λ whole has. record { bytes = whole; held = has; is = at_once whole has })

-- ---- all reads

-- the first bytes of the name were taken, as many as this, where the store tells them
pub record Reads (t : Theory) (told : Option Map) (name : List ℕ) (offset : ℕ) (c : CertificateTrial) : Type 0 where
  pub bytes : List ℕ
  pub many : offset ≡ length bytes
  pub tried : HasTried t bytes c
  pub front : (m : Map) → told ≡ Some m → IfHeld m name (λ whole. IsFront bytes whole)

pub reads_none : (t : Theory) (told : Option Map) (name : List ℕ) (c : CertificateTrial) → HasTried t [] c → Reads t told name 0 c
reads_none t told name c tried = record {
  bytes = [];
  many = refl;
  tried = tried;
  front = λ m given whole has. record { fits = omega arith; same = refl };
}

one_value : (o : Option (List ℕ)) (a b : List ℕ) → o ≡ Some a → o ≡ Some b → a ≡ b
one_value o a b first second = let both : Some a ≡ Some b = sym first ∙ second in cc both

abbrev pub HoldsPieceAt : Option Map → List ℕ → ℕ → ℕ → ℕ → List ℕ → Type 0
HoldsPieceAt told name offset n asked piece = (m : Map) → told ≡ Some m → HoldsPiece m name offset n asked piece

pub reads_more : (t : Theory) (told now : Option Map) (name piece part : List ℕ) (offset n asked next : ℕ) (old new : CertificateTrial) → now ≡ told → next ≡ offset + n → part ≡ take n piece → length part ≡ n → HoldsPieceAt now name offset n asked piece
    → ((bytes : List ℕ) → HasTried t bytes old → HasTried t (bytes ++ part) new) → Reads t told name offset old → Reads t told name next new
reads_more t told now name piece part offset n asked next old new kept is part_is long holds more reads = record {
  bytes = reads.bytes ++ part;
  many = is ∙ ap (λ (k : ℕ). k + n) reads.many ∙ ap (λ (k : ℕ). length reads.bytes + k) (sym long) ∙ sym (length-append reads.bytes part);
  tried = more reads.bytes reads.tried;
  front = λ m given whole has.
      let h = holds m (kept ∙ given) in
      let same : h.bytes ≡ whole = one_value (m name) h.bytes whole h.held has in
      let piece_of = subst (λ (bs : List ℕ). IsPieceOf bs offset n asked piece) same h.is in
      subst (λ (bs : List ℕ). IsFront (reads.bytes ++ bs) whole) (sym part_is) (front_piece reads.bytes whole piece offset n asked reads.many (reads.front m given whole has) piece_of);
}

-- a read that gave nothing stood at the end
pub reads_all : (t : Theory) (told now : Option Map) (name piece : List ℕ) (offset n asked : ℕ) (c : CertificateTrial) → now ≡ told → n ≡ 0 → 0 < asked → offset ≤ number_of CertBytes → HoldsPieceAt now name offset n asked piece → Reads t told name offset c → HasTriedName t told name c
reads_all t told now name piece offset n asked c kept none room within holds reads = record {
  bytes = reads.bytes;
  tried = reads.tried;
  held = λ m given.
      let h = holds m (kept ∙ given) in
      let many = reads.many in
      let above : length h.bytes ≤ offset = at_end offset n (length h.bytes) (h.is.some room) none in
      let same : h.bytes ≡ reads.bytes = front_whole reads.bytes h.bytes (reads.front m given h.bytes h.held) (omega arith) in
      (h.held ∙ ap (λ (bs : List ℕ). Some bs) same, omega arith);
}
  where
    at_end : (offset n whole : ℕ) → (offset < whole → 0 < n) → n ≡ 0 → whole ≤ offset
    at_end offset n whole some none = grind arith

-- ---- what is answered

pub trial_answer : (m : Map) (told : Option Map) (name : List ℕ) (t : Theory) (c : CertificateTrial) (r : Result Outcome Refusal) → told ≡ Some m → HasTriedName t told name c
    → ((bytes : List ℕ) → HasTried t bytes c → MatchResult r (TriesText t.program.now bytes) (IsNoCertificate bytes)) → MatchResult r (HoldsTrial m name t.program.now) (IsCertificateStop m name)
trial_answer m told name t c (Ok o) given has answers =
    let is : TriesText t.program.now has.bytes o = answers has.bytes has.tried in
    let held = has.held m given in
    record { proofs = is.proofs; holds = record { bytes = has.bytes; held = held; text = is.text }; took = is.took }
trial_answer m told name t c (Err e) given has answers = inr (has.bytes, has.held m given, answers has.bytes has.tried)

-- whatever was read, some lemmas and blocks were judged
pub trial_took : (told : Option Map) (name : List ℕ) (t : Theory) (c : CertificateTrial) (r : Result Outcome Refusal) → HasTriedName t told name c → ((bytes : List ℕ) → HasTried t bytes c → MatchResult r (TriesText t.program.now bytes) (IsNoCertificate bytes))
    → IfOk r (λ o. (lemmas : List Derivation) × (blocks : List Derivation) × TookAll t.program.now o lemmas blocks)
trial_took told name t c (Ok o) has answers = let is : TriesText t.program.now has.bytes o = answers has.bytes has.tried in (is.proofs.lemmas, is.proofs.blocks, is.took)
trial_took told name t c (Err e) has answers = tt

no_read : (bytes : List ℕ) (r : Refusal) → IsNoCertificate bytes r → IsReadFault {X = Outcome} (Err r) → ⊥
no_read bytes (ReadFault n) h is = h
no_read bytes _ h is = is

-- bytes that were read are refused for no read
pub no_read_fault : (told : Option Map) (name : List ℕ) (t : Theory) (c : CertificateTrial) (r : Result Outcome Refusal) → HasTriedName t told name c → ((bytes : List ℕ) → HasTried t bytes c → MatchResult r (TriesText t.program.now bytes) (IsNoCertificate bytes))
    → IsReadFault r → ⊥
no_read_fault told name t c (Ok o) has answers is = is
no_read_fault told name t c (Err e) has answers is = no_read has.bytes e (answers has.bytes has.tried) is
