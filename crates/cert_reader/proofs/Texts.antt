-- What is decoded is the certificate whose text it is.
use Rattle.std.proofs.Common.{◌≡◌, ℕ, ◌+◌, eqb, List, [], ◌∷◌, ◌++◌, All, Option, Some, None, Result, Ok, Err, refl, sym, ap, subst, ◌∙◌, inl, inr, append_assoc}
use Rattle.std.specs.Prelude.{◌⊎◌}
use Rattle.std.specs.List.{join_with_byte}
use Rattle.std.proofs.lemmas.Bool.{cases_Bool, eqb-true}
use Rattle.std.proofs.lemmas.List.{append-nil}
use Rattle.std.proofs.lemmas.List.Concat.{flat_map-append}
use Rattle.std.proofs.lemmas.List.Elements.{All-head, All-tail}
use Rattle.std.proofs.lemmas.List.Splits.{join_with_byte-slice_split}
use Rattle.cert_format.specs.declared.fault.CertFault.{CertFault}
use Rattle.cert_format.specs.declared.stage.Stage.{Stage}
use Rattle.cert_format.specs.declared.stage.Stage.TheVariants.{Version, LemmaCount, Lemmas, InDerivation, Conditions, Ended}
use Rattle.cert_lines.specs.Grammar.{Reading, words_of}
use Rattle.cert_reader.specs.Keeping.{Progress, Scan, unread, start, take_line, behind_line, take_byte, scan, with_bytes, missing, finished, answer, proofs_of, result_of, decoded}
use Rattle.cert_format.specs.Text.{Line, Proofs, line_text, lines_of, text_of, IsCertText}
use Rattle.cert_reader.proofs.Completeness.{take_lines, certificate_again}
use Rattle.cert_reader.proofs.Pieces.{no_bytes, one_byte, fault_byte, plain_byte, line_byte, scan_line}
use Rattle.cert_lines.proofs.Plain.{IsPlainLine, certificate_plain, words_again, within_line}
use Rattle.cert_reader.proofs.Soundness.{Known, Fits, line_known, nothing_known, ended_known}
use Rattle.cert_lines.proofs.Taken.{ok_is, bind_ok}

-- ---- from lines to bytes

-- whole lines were read, and nothing behind them
abbrev clean : Progress → ℕ → Scan
clean p n = record { progress = p; line = []; bytes = n; fault = None }

one_text : (p q : Progress) (n : ℕ) (x : Line) (rest : List ℕ) → IsPlainLine x → take_line p x ≡ Ok q → (m : ℕ) × (scan (clean p n) (line_text x ++ rest) ≡ scan (clean q m) rest)
one_text p q n [] rest plain read = absurd plain
one_text p q n (w ∷ ws) rest plain read =
    let bytes : List ℕ = join_with_byte 32 (w ∷ ws) in
    let words : take_line p (words_of bytes) ≡ Ok q = ap (take_line p) (words_again w ws plain.0 plain.1) ∙ read in
    let s : Scan = with_bytes (clean p n) bytes in
    (s.bytes + 1, ap (scan (clean p n)) (append_assoc bytes (10 ∷ []) rest) ∙ scan_line (clean p n) bytes rest refl (within_line w ws plain.0 plain.1) ∙ ap (λ (o : Reading Progress). scan (behind_line s o) rest) words)

texts : (ls : List Line) (p q : Progress) (n : ℕ) → All IsPlainLine ls → take_lines p ls ≡ Ok q → (m : ℕ) × (scan (clean p n) (text_of ls) ≡ clean q m)
texts [] p q n plain read = (n, no_bytes (clean p n) ∙ ap (λ (x : Progress). clean x n) (ok_is p q read))
texts (x ∷ ls) p q n plain read =
    let a = bind_ok (take_line p x) (λ r. take_lines r ls) q read in
    let one = one_text p a.0 n x (text_of ls) (All-head IsPlainLine x ls plain) a.1 in
    let more = texts ls a.0 q one.0 (All-tail IsPlainLine x ls plain) a.2 in
    (more.0, one.1 ∙ more.1)

answered : (p : Progress) (n : ℕ) → p.stage ≡ Ended → answer (clean p n) ≡ Ok tt
answered p n is = ap (λ (s : Stage). missing s [] (p.lines + 1)) is

-- a certificate's text is decoded as it
pub text_decoded : (bytes : List ℕ) (c : Proofs) → IsCertText bytes c → decoded bytes ≡ Ok c
unfolding decoded
text_decoded bytes c is =
    let again = certificate_again c is.fits in
    let read = texts (lines_of c) unread again.0 0 (certificate_plain c is.fits) again.1 in
    let kept : scan start bytes ≡ clean again.0 read.0 = ap (scan start) is.spelled ∙ read.1 in
    ap (λ (s : Scan). result_of (answer s) s.progress) kept ∙ ap (λ (a : Result (Unit {0}) CertFault). result_of a again.0) (answered again.0 read.0 again.2.stage) ∙ ap (λ (x : Proofs). Ok x) again.2.proofs

-- ---- from bytes to lines

-- these bytes are the text of lines of which all is known, and the beginning of one
record Reached (done : List ℕ) (s : Scan) : Type 0 where
  lines : List Line
  spelled : done ≡ text_of lines ++ s.line
  known : Known lines s.progress

none_or_some : (o : Option CertFault) → (o ≡ None) ⊎ ((e : CertFault) × (o ≡ Some e))
none_or_some None = inl refl
none_or_some (Some e) = inr (e, refl)

text_more : (lines : List Line) (bytes : List ℕ) → text_of (lines ++ words_of bytes ∷ []) ≡ text_of lines ++ (bytes ++ 10 ∷ [])
text_more lines bytes = flat_map-append line_text lines (words_of bytes ∷ []) ∙ ap (λ (t : List ℕ). text_of lines ++ t) (append-nil (line_text (words_of bytes)) ∙ ap (λ (t : List ℕ). t ++ 10 ∷ []) (join_with_byte-slice_split 32 bytes))

reach_line : (done : List ℕ) (s : Scan) (o : Reading Progress) → take_line s.progress (words_of s.line) ≡ o → Reached done s → (behind_line s o).fault ≡ None → Reached (done ++ 10 ∷ []) (behind_line s o)
reach_line done s (Err e) read r sound = absurd cc
reach_line done s (Ok p) read r sound = record {
  lines = r.lines ++ words_of s.line ∷ [];
  spelled = ap (λ (t : List ℕ). t ++ 10 ∷ []) r.spelled ∙ append_assoc (text_of r.lines) s.line (10 ∷ []) ∙ sym (text_more r.lines s.line) ∙ sym (append-nil (text_of (r.lines ++ words_of s.line ∷ [])));
  known = line_known s.progress p (words_of s.line) r.lines r.known read;
}

reach_byte : (done : List ℕ) (s : Scan) (b : ℕ) → s.fault ≡ None → Reached done s → (take_byte s b).fault ≡ None → Reached (done ++ b ∷ []) (take_byte s b)
reach_byte done s b none r sound =
    elim (cases_Bool (eqb b 10)) [
      | inl lf ↦
          let is : b ≡ 10 = eqb-true b 10 lf in
          let made : take_byte s b ≡ behind_line s (take_line s.progress (words_of s.line)) = ap (take_byte s) is ∙ line_byte s none in
          let next = reach_line done s (take_line s.progress (words_of s.line)) refl r (sym (ap (λ (t : Scan). t.fault) made) ∙ sound) in
          subst (λ (t : Scan). Reached (done ++ b ∷ []) t) (sym made) (subst (λ (x : ℕ). Reached (done ++ x ∷ []) (behind_line s (take_line s.progress (words_of s.line)))) (sym is) next)
      | inr other ↦
          let made : take_byte s b ≡ with_bytes s (b ∷ []) = plain_byte s b none other in
          let next : Reached (done ++ b ∷ []) (with_bytes s (b ∷ [])) = record { lines = r.lines; spelled = ap (λ (t : List ℕ). t ++ b ∷ []) r.spelled ∙ append_assoc (text_of r.lines) s.line (b ∷ []); known = r.known } in
          subst (λ (t : Scan). Reached (done ++ b ∷ []) t) (sym made) next
    ]

first_byte : (done : List ℕ) (s : Scan) (b : ℕ) → (s.fault ≡ None → Reached done s) → (take_byte s b).fault ≡ None → Reached (done ++ b ∷ []) (take_byte s b)
first_byte done s b r h =
    elim (none_or_some s.fault) [
      | inl none ↦ reach_byte done s b none (r none) h
      | inr some ↦ absurd (let still : (take_byte s b).fault ≡ Some some.0 = ap (λ (t : Scan). t.fault) (fault_byte s b some.0 some.1) ∙ some.1 in cc)
    ]

reach : (rest done : List ℕ) (s : Scan) → (s.fault ≡ None → Reached done s) → (scan s rest).fault ≡ None → Reached (done ++ rest) (scan s rest)
reach [] done s r sound =
    let same = no_bytes s in
    subst (λ (t : Scan). Reached (done ++ []) t) (sym same) (subst (λ (d : List ℕ). Reached d s) (sym (append-nil done)) (r (sym (ap (λ (t : Scan). t.fault) same) ∙ sound)))
reach (b ∷ rest) done s r sound =
    let one = one_byte s b rest in
    let more = reach rest (done ++ b ∷ []) (take_byte s b) (λ h. first_byte done s b r h) (sym (ap (λ (t : Scan). t.fault) one) ∙ sound) in
    subst (λ (d : List ℕ). Reached d (scan s (b ∷ rest))) (append_assoc done (b ∷ []) rest) (subst (λ (t : Scan). Reached ((done ++ b ∷ []) ++ rest) t) (sym one) more)

reads_nothing : Fits unread Version
reads_nothing = (refl, refl, refl, refl, refl)

not_missing : (s : Stage) (line : List ℕ) (n : ℕ) → missing s line n ≡ Ok tt → (s ≡ Ended) × (line ≡ [])
not_missing Ended [] n h = (refl, refl)
not_missing Ended (b ∷ rest) n h = absurd cc
not_missing Version line n h = absurd cc
not_missing LemmaCount line n h = absurd cc
not_missing (Lemmas left) line n h = absurd cc
not_missing (InDerivation owner left c) line n h = absurd cc
not_missing (Conditions left) line n h = absurd cc

pub no_fault : (o : Option CertFault) (p : Progress) (line : List ℕ) → finished o p line ≡ Ok tt → (o ≡ None) × (p.stage ≡ Ended) × (line ≡ [])
no_fault (Some e) p line h = absurd cc
no_fault None p line h = let m = not_missing p.stage line (p.lines + 1) h in (refl, m.0, m.1)

pub result_ok : (a : Result (Unit {0}) CertFault) (p : Progress) (c : Proofs) → result_of a p ≡ Ok c → (a ≡ Ok tt) × (proofs_of p ≡ c)
result_ok (Ok t) p c h = let same : proofs_of p ≡ c = cc in (refl, same)
result_ok (Err e) p c h = absurd cc

-- what is decoded is a certificate whose text the bytes are
pub decoded_text : (bytes : List ℕ) (c : Proofs) → decoded bytes ≡ Ok c → IsCertText bytes c
unfolding decoded
decoded_text bytes c h =
    let s : Scan = scan start bytes in
    let a = result_ok (answer s) s.progress c h in
    let n = no_fault s.fault s.progress s.line a.0 in
    let r = reach bytes [] start (λ _. record { lines = []; spelled = refl; known = nothing_known unread refl reads_nothing }) n.0 in
    let e = ended_known s.progress r.lines n.1 r.known in
    let spelled : bytes ≡ text_of (lines_of (proofs_of s.progress)) = r.spelled ∙ ap (λ (t : List ℕ). text_of r.lines ++ t) n.2 ∙ append-nil (text_of r.lines) ∙ ap text_of e.0 in
    subst (IsCertText bytes) a.1 (record { spelled = spelled; fits = e.1 })
