-- What is kept behind a piece of a text, line by line.
use Rattle.std.proofs.Common.{◌≡◌, ℕ, ◌+◌, false, ◌==◌, cond, List, [], ◌∷◌, ◌++◌, length, Option, Some, None, is_some, Result, Ok, Err, ◌≤◌, refl, sym, ap, ap₂, subst, ◌∙◌, append_assoc, append-nil, arith}
use Rattle.std.proofs.lemmas.List.Elements.{All-head, All-tail}
use Rattle.std.proofs.lemmas.List.Sums.{fold-append}
use Rattle.cert_format.specs.declared.fault.CertFault.{CertFault}
use Rattle.cert_format.specs.declared.fault.CertFault.TheVariants as f
use Rattle.cert_lines.specs.Grammar.{Reading, IsWithinLine, words_of}
use Rattle.cert_reader.specs.Keeping.{Progress, Scan, Keeps, fed, behind_line, next_byte, take_byte, take_line, scan, with_bytes, with_line}

pub two_pieces : (s : Scan) (xs ys : List ℕ) → scan s (xs ++ ys) ≡ scan (scan s xs) ys
unfolding scan
two_pieces s xs ys = fold-append take_byte s xs ys

pub no_bytes : (s : Scan) → scan s [] ≡ s
unfolding scan
no_bytes s = refl

pub one_byte : (s : Scan) (b : ℕ) (rest : List ℕ) → scan s (b ∷ rest) ≡ scan (take_byte s b) rest
unfolding scan
one_byte s b rest = refl

pub sound_byte : (s : Scan) (b : ℕ) → s.fault ≡ None → take_byte s b ≡ next_byte s b
sound_byte s b sound = ap (λ (o : Option CertFault). cond (is_some o) s (next_byte s b)) sound

pub fault_byte : (s : Scan) (b : ℕ) (e : CertFault) → s.fault ≡ Some e → take_byte s b ≡ s
fault_byte s b e fault = ap (λ (o : Option CertFault). cond (is_some o) s (next_byte s b)) fault

pub behind_fault : (s : Scan) (e : CertFault) (piece : List ℕ) → s.fault ≡ Some e → scan s piece ≡ s
behind_fault s e [] fault = no_bytes s
behind_fault s e (b ∷ piece) fault = one_byte s b piece ∙ ap (λ (t : Scan). scan t piece) (fault_byte s b e fault) ∙ behind_fault s e piece fault

pub plain_byte : (s : Scan) (b : ℕ) → s.fault ≡ None → (b == 10) ≡ false → take_byte s b ≡ with_bytes s (b ∷ [])
plain_byte s b sound plain = sound_byte s b sound ∙ rw plain refl

pub line_byte : (s : Scan) → s.fault ≡ None → take_byte s 10 ≡ behind_line s (take_line s.progress (words_of s.line))
line_byte s sound = sound_byte s 10 sound

same_behind : (s t : Scan) (r : Reading Progress) → s.progress ≡ t.progress → s.bytes ≡ t.bytes → behind_line s r ≡ behind_line t r
same_behind s t (Ok p) e n = rw n refl
same_behind s t (Err f) e n = rw (e, n) refl

-- ---- within a line

with_none : (s : Scan) → with_bytes s [] ≡ s
with_none s = ap₂ (λ (l : List ℕ) (n : ℕ). record s { line = l; bytes = n }) (append-nil s.line) (omega arith)

with_more : (s : Scan) (b : ℕ) (front : List ℕ) → with_bytes (with_bytes s (b ∷ [])) front ≡ with_bytes s (b ∷ front)
with_more s b front = ap₂ (λ (l : List ℕ) (n : ℕ). record s { line = l; bytes = n }) (append_assoc s.line (b ∷ []) front) (omega arith)

pub scan_within : (s : Scan) (front : List ℕ) → s.fault ≡ None → IsWithinLine front → scan s front ≡ with_bytes s front
scan_within s [] sound plain = no_bytes s ∙ sym (with_none s)
scan_within s (b ∷ front) sound plain =
    one_byte s b front ∙ ap (λ (t : Scan). scan t front) (plain_byte s b sound (All-head (λ x. (x == 10) ≡ false) b front plain))
    ∙ scan_within (with_bytes s (b ∷ [])) front sound (All-tail (λ x. (x == 10) ≡ false) b front plain) ∙ with_more s b front

-- ---- a line

pub scan_line : (s : Scan) (front rest : List ℕ) → s.fault ≡ None → IsWithinLine front → scan s (front ++ 10 ∷ rest) ≡ scan (with_line s front) rest
scan_line s front rest sound plain =
    two_pieces s front (10 ∷ rest) ∙ ap (λ (t : Scan). scan t (10 ∷ rest)) (scan_within s front sound plain)
    ∙ one_byte (with_bytes s front) 10 rest ∙ ap (λ (t : Scan). scan t rest) (line_byte (with_bytes s front) sound)

bytes_behind : (s : Scan) (r : Reading Progress) → (behind_line s r).bytes ≡ s.bytes + 1
bytes_behind s (Ok p) = refl
bytes_behind s (Err e) = refl

-- ---- the loop over lines

-- a call that answers this fault leaves this fault
pub fed_fault : (o : Option CertFault) (e : CertFault) → Err e ≡ fed o → o ≡ Some e
fed_fault None e h = absurd cc
fed_fault (Some f) e h = let same : f ≡ e = cc in ap (λ (x : CertFault). Some x) same

pub fed_none : (o : Option CertFault) → Ok tt ≡ fed o → o ≡ None
fed_none None h = refl
fed_none (Some f) h = absurd cc

next_lines : (s : Scan) (rest front following : List ℕ) (total : Scan) → s.fault ≡ None → (rest ≡ front ++ 10 ∷ following) × IsWithinLine front → scan s rest ≡ total → scan (with_line s front) following ≡ total
next_lines s rest front following total sound cut so_far = sym (scan_line s front following sound cut.1) ∙ sym (ap (scan s) cut.0) ∙ so_far

-- a fault that isn't want of memory keeps what is kept
kept_fault : (e : CertFault) (new kept total : Scan) → Keeps (Err e) new kept → (new ≡ kept → kept ≡ total) → Keeps (Err e) new total
kept_fault f.OutOfMemory new kept total k same = k
kept_fault (f.BadLine n) new kept total k same = k ∙ same k
kept_fault (f.BadNumber n) new kept total k same = k ∙ same k
kept_fault (f.CutShort n) new kept total k same = k ∙ same k
kept_fault (f.Trailing n) new kept total k same = k ∙ same k
kept_fault (f.CountOver n) new kept total k same = k ∙ same k

pub line_fails : (e : CertFault) (s : Scan) (rest front following : List ℕ) (new total : Scan) → s.fault ≡ None → (rest ≡ front ++ 10 ∷ following) × IsWithinLine front
    → Keeps (Err e) new (with_line s front) → Err e ≡ fed new.fault → scan s rest ≡ total → Keeps (Err e) new total
line_fails e s rest front following new total sound cut kept answer so_far =
    kept_fault e new (with_line s front) total kept
    (λ is. sym (behind_fault (with_line s front) e following (sym (ap (λ (t : Scan). t.fault) is) ∙ fed_fault new.fault e answer)) ∙ next_lines s rest front following total sound cut so_far)

pub record LineGoes (new : Scan) (following : List ℕ) (total : Scan) : Type 0 where
  pub goes : scan new following ≡ total
  pub sound : new.fault ≡ None
  pub fits : new.bytes + length following ≤ 4294967294

pub line_goes : (s : Scan) (rest front following : List ℕ) (new total : Scan) → s.fault ≡ None → (rest ≡ front ++ 10 ∷ following) × IsWithinLine front
    → new ≡ with_line s front → Ok tt ≡ fed new.fault → s.bytes + length rest ≤ 4294967294 → length rest ≡ length front + 1 + length following → scan s rest ≡ total → LineGoes new following total
line_goes s rest front following new total sound cut kept answer fits long so_far = record {
  goes = ap (λ (t : Scan). scan t following) kept ∙ next_lines s rest front following total sound cut so_far;
  sound = fed_none new.fault answer;
  fits =
      let size : new.bytes ≡ s.bytes + length front + 1 = ap (λ (t : Scan). t.bytes) kept ∙ bytes_behind (with_bytes s front) (take_line s.progress (words_of (s.line ++ front))) in
      omega arith;
}

pub lines_end : (r : Result (Unit {0}) CertFault) (s : Scan) (rest : List ℕ) (new total : Scan) → s.fault ≡ None → IsWithinLine rest → Keeps r new (with_bytes s rest) → scan s rest ≡ total → Keeps r new total
lines_end r s rest new total sound plain kept so_far = subst (λ (t : Scan). Keeps r new t) (sym (scan_within s rest sound plain) ∙ so_far) kept

-- a reader that has met a fault keeps it
pub still_faulty : (e : CertFault) (s : Scan) (piece : List ℕ) → s.fault ≡ Some e → Keeps (Err e) s (scan s piece)
still_faulty f.OutOfMemory s piece is = is
still_faulty (f.BadLine n) s piece is = sym (behind_fault s (f.BadLine n) piece is)
still_faulty (f.BadNumber n) s piece is = sym (behind_fault s (f.BadNumber n) piece is)
still_faulty (f.CutShort n) s piece is = sym (behind_fault s (f.CutShort n) piece is)
still_faulty (f.Trailing n) s piece is = sym (behind_fault s (f.Trailing n) piece is)
still_faulty (f.CountOver n) s piece is = sym (behind_fault s (f.CountOver n) piece is)
