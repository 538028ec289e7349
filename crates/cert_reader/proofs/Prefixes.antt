-- Nothing stands behind the end of a certificate.
use Rattle.std.proofs.Common.{◌≡◌, ℕ, ◌+◌, eqb, List, [], ◌∷◌, ◌++◌, Some, None, Ok, Err, refl, sym, ap, subst, ◌∙◌, inl, inr}
use Rattle.std.specs.Prelude.{◌⊎◌}
use Rattle.std.proofs.lemmas.Bool.{cases_Bool, eqb-true}
use Rattle.cert_format.specs.declared.fault.CertFault.{CertFault}
use Rattle.cert_format.specs.declared.fault.CertFault.TheVariants as f
use Rattle.cert_format.specs.declared.fault.LineFault.TheVariants as l
use Rattle.cert_format.specs.declared.stage.Stage.{Stage}
use Rattle.cert_format.specs.declared.stage.Stage.TheVariants.{Ended}
use Rattle.cert_lines.specs.Grammar.{Reading, ◌>>=◌, words_of}
use Rattle.cert_reader.specs.Keeping.{Progress, Scan, start, next_line, take_line, behind_line, take_byte, scan, answer, decoded}
use Rattle.cert_format.specs.Text.{Line, Proofs, IsCertText}
use Rattle.cert_reader.proofs.Pieces.{no_bytes, one_byte, two_pieces, behind_fault, fault_byte, plain_byte, line_byte}
use Rattle.cert_reader.proofs.Texts.{text_decoded, result_ok, no_fault}

-- a fault, or bytes behind the end
abbrev Refuses : Scan → Type 0
Refuses s = ((e : CertFault) × (s.fault ≡ Some e)) ⊎ ((s.fault ≡ None) × (s.progress.stage ≡ Ended) × ((front : List ℕ) × (b : ℕ) × (s.line ≡ front ++ b ∷ [])))

no_line : (p : Progress) (line : Line) → p.stage ≡ Ended → take_line p line ≡ Err l.Trailing
unfolding take_line
no_line p line is = ap (λ (s : Stage). next_line p s line >>= λ q. Ok (record q { lines = q.lines + 1 })) is

behind_trailing : (s : Scan) (o : Reading Progress) → o ≡ Err l.Trailing → (e : CertFault) × ((behind_line s o).fault ≡ Some e)
behind_trailing s (Ok p) h = absurd cc
behind_trailing s (Err x) h = (let made = ap (λ (o : Reading Progress). (behind_line s o).fault) h in (f.Trailing (s.progress.lines + 1), made))

-- whatever comes behind the end is refused, and stays so
ended_byte : (s : Scan) (b : ℕ) → s.fault ≡ None → s.progress.stage ≡ Ended → Refuses (take_byte s b)
ended_byte s b none is =
    elim (cases_Bool (eqb b 10)) [
      | inl lf ↦
          let made : take_byte s b ≡ behind_line s (take_line s.progress (words_of s.line)) = ap (take_byte s) (eqb-true b 10 lf) ∙ line_byte s none in
          let t = behind_trailing s (take_line s.progress (words_of s.line)) (no_line s.progress (words_of s.line) is) in
          subst Refuses (sym made) (inl t)
      | inr other ↦ subst Refuses (sym (plain_byte s b none other)) (inr (none, is, (s.line, b, refl)))
    ]

refused_byte : (s : Scan) (b : ℕ) → Refuses s → Refuses (take_byte s b)
refused_byte s b (inl fault) = subst Refuses (sym (fault_byte s b fault.0 fault.1)) (inl fault)
refused_byte s b (inr open') = ended_byte s b open'.0 open'.1

refused : (bytes : List ℕ) (s : Scan) → Refuses s → Refuses (scan s bytes)
refused [] s h = subst Refuses (sym (no_bytes s)) h
refused (b ∷ bytes) s h = subst Refuses (sym (one_byte s b bytes)) (refused bytes (take_byte s b) (refused_byte s b h))

not_empty : (front : List ℕ) (b : ℕ) → front ++ b ∷ [] ≡ [] → ⊥
not_empty [] b h = absurd cc
not_empty (x ∷ front) b h = absurd cc

not_answered : (s : Scan) → Refuses s → answer s ≡ Ok tt → ⊥
not_answered s (inl fault) h = let n = no_fault s.fault s.progress s.line h in absurd (let both = sym fault.1 ∙ n.0 in cc)
not_answered s (inr open') h = let n = no_fault s.fault s.progress s.line h in not_empty open'.2.0 open'.2.1 (sym open'.2.2 ∙ n.2)

-- no certificate's text is a proper prefix of another's
pub no_prefix : (xs ys : List ℕ) (c d : Proofs) → IsCertText xs c → IsCertText (xs ++ ys) d → ys ≡ []
unfolding decoded
no_prefix xs [] c d shorter longer = refl
no_prefix xs (y ∷ ys) c d shorter longer =
    let s : Scan = scan start xs in
    let a = result_ok (answer s) s.progress c (text_decoded xs c shorter) in
    let n = no_fault s.fault s.progress s.line a.0 in
    let t : Scan = scan start (xs ++ y ∷ ys) in
    let b = result_ok (answer t) t.progress d (text_decoded (xs ++ y ∷ ys) d longer) in
    let one : t ≡ scan (take_byte s y) ys = two_pieces start xs (y ∷ ys) ∙ one_byte s y ys in
    let stays : Refuses t = subst Refuses (sym one) (refused ys (take_byte s y) (ended_byte s y n.0 n.1)) in
    absurd (not_answered t stays b.0)

-- no certificate's text begins with bytes in which a fault was met
pub no_going_on : (bytes more : List ℕ) (c : Proofs) (e : CertFault) → (scan start bytes).fault ≡ Some e → IsCertText (bytes ++ more) c → ⊥
unfolding decoded
no_going_on bytes more c e fault is =
    let s : Scan = scan start bytes in
    let t : Scan = scan start (bytes ++ more) in
    let a = result_ok (answer t) t.progress c (text_decoded (bytes ++ more) c is) in
    let n = no_fault t.fault t.progress t.line a.0 in
    let stays : t ≡ s = two_pieces start bytes more ∙ behind_fault s e more fault in
    let both : Some e ≡ None = sym fault ∙ sym (ap (λ (x : Scan). x.fault) stays) ∙ n.0 in
    absurd cc
