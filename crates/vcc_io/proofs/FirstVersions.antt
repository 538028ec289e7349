-- A certificate of version 1, from its bytes to the name that holds them.
use Rattle.std.proofs.Common.{◌≡◌, inl, inr, ℕ, Bool, true, false, eqb, List, length, take, drop, codes, Result, Ok, Err, IfOk, IfErr, MatchBool, MatchResult, refl, ◌∙◌, subst}
use Rattle.std.specs.Cmp.Lexicographic.{pointwise}
use Rattle.std.proofs.lemmas.Bool.{both_ways}
use Rattle.std.proofs.lemmas.Bool.Decides.{Decides-eqb}
use Rattle.std.proofs.lemmas.Slice.Eq.{starts_is}
use Rattle.cert_reader.specs.Decoding.{Decodes}
use Rattle.cert_format.specs.Text.{IsCertText, Proofs, seen}
use Rattle.cert_format.specs.declared.certificate.Certificate.{Certificate}
use Rattle.cert_format.specs.declared.fault.CertFault.{CertFault}
use Rattle.cert_format.specs.declared.fault.CertFault.TheVariants as f
use Rattle.vcc_base.specs.Maps.{Map}
use Rattle.vcc_base.specs.declared.limit.Limit.TheVariants as limit
use Rattle.vcc_io.specs.declared.refusal.LineFault.TheVariants.{BadLine}
use Rattle.vcc_io.specs.declared.refusal.Refusal.{Refusal}
use Rattle.vcc_io.specs.declared.refusal.Refusal.TheVariants.{BadCertificate, ReadFault}
use Rattle.vcc_io.specs.Certificates.{IsFirstFault}
use Rattle.vcc_io.specs.Faults.{IsReadFault}
use Rattle.vcc_io.specs.FirstVersions.{BeginsSecond, HoldsFirstVersion, IsFirst, IsFirstText, IsFirstVersionStop, IsNoFirstVersion}
use Rattle.vcc_io.specs.Held.{HoldsWithin}
use Rattle.vcc_io.proofs.CertificateTexts.{begins_second}

pub second_is : (bytes : List ℕ) (r : Bool) → r ≡ pointwise eqb (codes "vcc-cert 2\n") (take (length (codes "vcc-cert 2\n")) bytes) → MatchBool r (BeginsSecond bytes) (BeginsSecond bytes → ⊥)
second_is bytes true e = (drop (length (codes "vcc-cert 2\n")) bytes, (starts_is Decides-eqb bytes (codes "vcc-cert 2\n") true e).0 refl)
second_is bytes false e = λ begins. both_ways false refl ((starts_is Decides-eqb bytes (codes "vcc-cert 2\n") false e).1 begins.0 begins.1)

-- a certificate whose first line isn't that of version 2 is of version 1
pub first_text : (bytes : List ℕ) (k : Proofs) → (BeginsSecond bytes → ⊥) → IsCertText bytes k → IsFirstText bytes k
first_text bytes k other text =
    elim text.fits.version [
      | inl one ↦ record { text = text; version = one.0 }
      | inr two ↦ absurd (let begins = begins_second k two in other (begins.0, text.spelled ∙ begins.1))
    ]

pub first_fault : (fault : CertFault) (read : Result Proofs CertFault) → Decodes (Err fault) read → IsFirstFault fault read
first_fault f.OutOfMemory read h = tt
first_fault (f.BadLine n) read h = h
first_fault (f.BadNumber n) read h = h
first_fault (f.CutShort n) read h = h
first_fault (f.Trailing n) read h = h
first_fault (f.CountOver n) read h = h

no_first : (m : Map) (name bytes : List ℕ) (e : Refusal) → HoldsWithin m name limit.CertBytes bytes → IsNoFirstVersion bytes e → IsFirstVersionStop m name e
no_first m name bytes e held (inl second) = inr (record { rest = second.0.0; held = subst (λ (b : List ℕ). HoldsWithin m name limit.CertBytes b) second.0.1 held }, second.1)
no_first m name bytes e held (inr none) = inl (inr (bytes, held, none))

-- what the bytes of a name are read as
pub first_answer : (m : Map) (name bytes part : List ℕ) (r : Result Certificate Refusal) → HoldsWithin m name limit.CertBytes bytes → part ≡ bytes → IfOk r (λ c. IsFirstText part (seen c)) → IfErr r (IsNoFirstVersion part) → MatchResult r (λ c. HoldsFirstVersion m name (seen c)) (IsFirstVersionStop m name)
first_answer m name bytes part (Ok c) held same text none =
    record { holds = record { bytes = bytes; held = held; text = subst (λ (b : List ℕ). IsCertText b (seen c)) same text.text }; version = text.version }
first_answer m name bytes part (Err e) held same text none = no_first m name bytes e held (subst (λ (b : List ℕ). IsNoFirstVersion b e) same none)

pub is_first : (part : List ℕ) (r : Result Certificate Refusal) → IfOk r (λ c. IsFirstText part (seen c)) → IfOk r (λ c. IsFirst (seen c))
is_first part (Ok c) text = record { fits = text.text.fits; version = text.version }
is_first part (Err e) text = tt

refused_unread : (bytes : List ℕ) (e : Refusal) → IsNoFirstVersion bytes e → IsReadFault {X = Certificate} (Err e) → ⊥
refused_unread bytes (ReadFault n) (inl second) is = let other : ReadFault n ≡ BadCertificate 1 BadLine = second.1 in cc other
refused_unread bytes (ReadFault n) (inr none) is = none
refused_unread bytes _ none is = is

-- bytes that were read are refused for no read
pub no_first_read : (bytes : List ℕ) (r : Result Certificate Refusal) → IfErr r (IsNoFirstVersion bytes) → IsReadFault r → ⊥
no_first_read bytes (Ok c) none is = is
no_first_read bytes (Err e) none is = refused_unread bytes e none is
