-- What decoding answers, by what the reader answers.
use Rattle.std.proofs.Common.{◌≡◌, ℕ, List, Option, Result, Ok, Err, refl, sym, ap, ◌∙◌}
use Rattle.std.specs.Prelude.{IfOk}
use Rattle.cert_reader.specs.Decoding.{Decodes, IsOrMemory}
use Rattle.cert_format.specs.declared.certificate.Certificate.{Certificate}
use Rattle.cert_format.specs.declared.fault.CertFault.{CertFault}
use Rattle.cert_format.specs.declared.fault.CertFault.TheVariants as f
use Rattle.cert_reader.specs.Keeping.{Scan, Keeps, start, scan, fed, finished, answer, proofs_of, result_of, decoded}
use Rattle.cert_format.specs.Text.{Proofs, IsCertText, seen}
use Rattle.cert_reader.proofs.Pieces.{fed_fault}
use Rattle.cert_reader.proofs.Texts.{decoded_text, text_decoded}

by_answer : (bytes : List ℕ) (s : Scan) (a : Result (Unit {0}) CertFault) → s ≡ scan start bytes → answer s ≡ a → decoded bytes ≡ result_of a s.progress
unfolding decoded
by_answer bytes s a is e = ap (λ (t : Scan). result_of (answer t) t.progress) (sym is) ∙ ap (λ (x : Result (Unit {0}) CertFault). result_of x s.progress) e

-- a fault that isn't want of memory is the text's
fault_decoded : (e : CertFault) (bytes : List ℕ) → ((e ≡ f.OutOfMemory → ⊥) → decoded bytes ≡ Err e) → Decodes (Err e) (decoded bytes)
fault_decoded f.OutOfMemory bytes h = tt
fault_decoded (f.BadLine n) bytes h = h (λ is. cc)
fault_decoded (f.BadNumber n) bytes h = h (λ is. cc)
fault_decoded (f.CutShort n) bytes h = h (λ is. cc)
fault_decoded (f.Trailing n) bytes h = h (λ is. cc)
fault_decoded (f.CountOver n) bytes h = h (λ is. cc)

kept_is : (e : CertFault) (new kept : Scan) → (e ≡ f.OutOfMemory → ⊥) → Keeps (Err e) new kept → new ≡ kept
kept_is f.OutOfMemory new kept other k = absurd (other refl)
kept_is (f.BadLine n) new kept other k = k
kept_is (f.BadNumber n) new kept other k = k
kept_is (f.CutShort n) new kept other k = k
kept_is (f.Trailing n) new kept other k = k
kept_is (f.CountOver n) new kept other k = k

pub feed_fails : (e : CertFault) (bytes : List ℕ) (first new : Scan) → first ≡ start → Keeps (Err e) new (scan first bytes) → Err e ≡ fed new.fault → Decodes (Err e) (decoded bytes)
feed_fails e bytes first new is kept answered =
    fault_decoded e bytes (λ other. by_answer bytes new (Err e) (kept_is e new (scan first bytes) other kept ∙ ap (λ (s : Scan). scan s bytes) is) (ap (λ (o : Option CertFault). finished o new.progress new.line) (fed_fault new.fault e answered)))

pub answer_fails : (e : CertFault) (bytes : List ℕ) (first new : Scan) → first ≡ start → new ≡ scan first bytes → Err e ≡ answer new → Decodes (Err e) (decoded bytes)
answer_fails e bytes first new is kept answered = fault_decoded e bytes (λ other. by_answer bytes new (Err e) (kept ∙ ap (λ (s : Scan). scan s bytes) is) (sym answered))

pub all_read : (c : Certificate) (bytes : List ℕ) (first new : Scan) → first ≡ start → new ≡ scan first bytes → Ok tt ≡ answer new → seen c ≡ proofs_of new.progress → decoded bytes ≡ Ok (seen c)
all_read c bytes first new is kept answered same = by_answer bytes new (Ok tt) (kept ∙ ap (λ (s : Scan). scan s bytes) is) (sym answered) ∙ ap (λ (x : Proofs). Ok x) (sym same)

-- ---- the text

pub is_found : (bytes : List ℕ) (r : Result Certificate CertFault) → Decodes r (decoded bytes) → IfOk r (λ c. IsCertText bytes (seen c))
is_found bytes (Ok c) given = decoded_text bytes (seen c) given
is_found bytes (Err e) given = tt

pub is_only : (bytes : List ℕ) (r : Result Certificate CertFault) → Decodes r (decoded bytes) → (c : Proofs) → IsCertText bytes c → IsOrMemory c r
is_only bytes (Ok c) given proofs is = let read = text_decoded bytes proofs is in let same : proofs ≡ seen c = cc in same
is_only bytes (Err f.OutOfMemory) given proofs is = tt
is_only bytes (Err (f.BadLine n)) given proofs is = let read = text_decoded bytes proofs is in cc
is_only bytes (Err (f.BadNumber n)) given proofs is = let read = text_decoded bytes proofs is in cc
is_only bytes (Err (f.CutShort n)) given proofs is = let read = text_decoded bytes proofs is in cc
is_only bytes (Err (f.Trailing n)) given proofs is = let read = text_decoded bytes proofs is in cc
is_only bytes (Err (f.CountOver n)) given proofs is = let read = text_decoded bytes proofs is in cc
