-- The number in a certificate's line `conditions` is that of its blocks, and stands from that line on.
use Rattle.std.proofs.Common.{◌≡◌, ℕ, suc, ◌+◌, ◌-◌, Bool, true, false, cond, ◌&&◌, eqb, List, [], ◌∷◌, ◌++◌, length, take, drop, codes, is_some, Option, Some, None, Ok, Err, inl, inr, refl, sym, ap, subst, ◌∙◌, arith, length-append, append_assoc, take-append-drop}
use Rattle.std.proofs.lemmas.Bool.{cases_eq, eq-eqb, eqb-true}
use Rattle.std.proofs.lemmas.List.{append-nil}
use Rattle.cert_format.specs.Derivations.{Derivation}
use Rattle.cert_format.specs.declared.certificate.Owner.{Owner}
use Rattle.cert_format.specs.declared.certificate.Owner.TheVariants.{OfLemma, OfCondition}
use Rattle.cert_format.specs.declared.certificate.Step.{Step}
use Rattle.cert_format.specs.declared.fault.LineFault.TheVariants as l
use Rattle.cert_format.specs.declared.stage.Counts.{Counts}
use Rattle.cert_format.specs.declared.stage.Stage.{Stage}
use Rattle.cert_format.specs.declared.stage.Stage.TheVariants.{Version, LemmaCount, Lemmas, InDerivation, Conditions, Ended}
use Rattle.cert_lines.specs.Grammar as grammar
use Rattle.cert_lines.specs.Grammar.{Reading, ◌>>=◌, needs, words_of}
use Rattle.cert_reader.specs.Keeping.{Progress, Scan, Session, Use, start, fresh, completed, continued, with_term, with_step, reaches, after_version, take_version, take_lemma_count, take_condition_count, take_head, take_term, take_step, take_end, next_line, take_line, behind_line, next_byte, take_byte, scan, answer, use_once, use_all, session, piece_of, pieces}
use Rattle.cert_reader.specs.Keeping.Use.{Feed, NextLemma, NextBlock}
use Rattle.cert_format.specs.Text.{Line}
use Rattle.cert_reader.proofs.Pieces.{no_bytes, one_byte, two_pieces}
use Rattle.cert_reader.proofs.Sessions.{fronted, scan_later}
use Rattle.cert_reader.proofs.Texts.{no_fault}

-- ---- lines

-- within a lemma or block: a lemma stands before the line; of the blocks behind it so many others are still to begin
abbrev Within : Option ℕ → List Derivation → Owner → ℕ → Type 0
Within o bs (OfLemma n) left = (o ≡ None) × (bs ≡ [])
Within o bs (OfCondition v) left = o ≡ Some (length bs + suc left)

abbrev CountsAt : Option ℕ → List Derivation → Stage → Type 0
CountsAt o bs Version = (o ≡ None) × (bs ≡ [])
CountsAt o bs LemmaCount = (o ≡ None) × (bs ≡ [])
CountsAt o bs (Lemmas left) = (o ≡ None) × (bs ≡ [])
CountsAt o bs (InDerivation owner left c) = Within o bs owner left
CountsAt o bs (Conditions left) = o ≡ Some (length bs + left)
CountsAt o bs Ended = o ≡ Some (length bs)

-- before that line there is neither number nor block; behind it the number is that of the blocks, with those that are still to come
abbrev pub Counted : Progress → Type 0
Counted p = CountsAt p.count p.blocks p.stage

-- what comes behind is counted too, and where the number was read, it stands, and so do the lemmas
abbrev pub Goes : Progress → Progress → Type 0
Goes p q = Counted q × ((n : ℕ) → p.count ≡ Some n → (q.count ≡ Some n) × (q.lemmas ≡ p.lemmas))

abbrev Fine : Progress → Reading Progress → Type 0
Fine p (Ok q) = Goes p q
Fine p (Err e) = Unit {0}

bind_fine : {A : Type 0} (p : Progress) (r : Reading A) (f : A → Progress) → ((a : A) → Goes p (f a)) → Fine p (r >>= λ a. Ok (f a))
bind_fine p (Ok a) f each = each a
bind_fine p (Err e) f each = tt

cond_fine : (b : Bool) (p : Progress) (x y : Reading Progress) → (b ≡ true → Fine p x) → (b ≡ false → Fine p y) → Fine p (cond b x y)
cond_fine true p x y h k = h refl
cond_fine false p x y h k = k refl

cond_goes : (b : Bool) (p x y : Progress) → Goes p x → Goes p y → Goes p (cond b x y)
cond_goes true p x y h k = h
cond_goes false p x y h k = k

version_counts : (o : Option ℕ) (bs : List Derivation) (b : Bool) → (o ≡ None) × (bs ≡ []) → CountsAt o bs (cond b LemmaCount (Lemmas 0))
version_counts o bs true h = h
version_counts o bs false h = h

version_fine : (p : Progress) (line : Line) → (p.count ≡ None) × (p.blocks ≡ []) → Fine p (take_version p line)
unfolding take_version
version_fine p line h = bind_fine p (grammar.version_line line) (λ v. record p { version = v; stage = after_version v }) (λ v. (version_counts p.count p.blocks (eqb v 2) h, λ n e. (e, refl)))

lemma_count_fine : (p : Progress) (line : Line) → (p.count ≡ None) × (p.blocks ≡ []) → Fine p (take_lemma_count p line)
unfolding take_lemma_count
lemma_count_fine p line h = bind_fine p (grammar.count_line (codes "lemmas") line) (λ m. record p { lemma_count = m; stage = Lemmas m }) (λ m. (h, λ n e. (e, refl)))

first_count : (bs : List Derivation) (n : ℕ) → bs ≡ [] → n ≡ length bs + n
first_count bs n none = (let zero' : length bs ≡ 0 = ap (λ (ds : List Derivation). length ds) none in omega arith)

no_number : (o : Option ℕ) (n : ℕ) → o ≡ None → o ≡ Some n → ⊥
no_number o n none some = let both : None ≡ Some n = sym none ∙ some in cc both

condition_count_fine : (p : Progress) (line : Line) → (p.count ≡ None) × (p.blocks ≡ []) → Fine p (take_condition_count p line)
unfolding take_condition_count
condition_count_fine p line h = bind_fine p (grammar.count_line (codes "conditions") line) (λ m. record p { count = Some m; stage = Conditions m }) (λ m. (ap (λ (k : ℕ). Some k) (first_count p.blocks m h.1), λ n e. absurd (no_number p.count n h.0 e)))

more_blocks : (bs : List Derivation) (d : Derivation) (left : ℕ) → length bs + suc left ≡ length (bs ++ d ∷ []) + left
more_blocks bs d left = (let long = length-append bs (d ∷ []) in omega arith)

completed_goes : (p : Progress) (owner : Owner) (left : ℕ) → Within p.count p.blocks owner left → Goes p (completed p owner left)
completed_goes p (OfLemma n) left h = (h, λ k e. absurd (no_number p.count k h.0 e))
completed_goes p (OfCondition v) left h = (h ∙ ap (λ (k : ℕ). Some k) (more_blocks p.blocks (record { terms = p.terms; steps = p.steps }) left), λ k e. (e, refl))

continued_goes : (p : Progress) (owner : Owner) (left : ℕ) (c : Counts) → Within p.count p.blocks owner left → Goes p (continued p owner left c)
continued_goes p owner left c h = cond_goes (eqb c.terms 0 && eqb c.steps 0) p (completed p owner left) (record p { stage = InDerivation owner left c }) (completed_goes p owner left h) (h, λ n e. (e, refl))

head_fine : (p : Progress) (owner : Owner) (left : ℕ) (line : Line) → Within p.count p.blocks owner left → Fine p (take_head p owner left line)
unfolding take_head
head_fine p owner left line h = bind_fine p (grammar.head_line owner line) (λ c. continued p owner left c) (λ c. continued_goes p owner left c h)

term_fine : (p : Progress) (owner : Owner) (left : ℕ) (c : Counts) (line : Line) → Within p.count p.blocks owner left → Fine p (take_term p owner left c line)
unfolding take_term
term_fine p owner left c line h = bind_fine p (grammar.term_line line) (λ t. with_term p owner left c t) (λ t. continued_goes (record p { terms = p.terms ++ t ∷ [] }) owner left (record c { terms = c.terms - 1 }) h)

step_by : (p : Progress) (owner : Owner) (left : ℕ) (c : Counts) (r : Reading Step) → Within p.count p.blocks owner left → Fine p (r >>= λ s. needs (reaches c s) l.BadLine >>= λ _. Ok (with_step p owner left c s))
step_by p owner left c (Err e) h = tt
step_by p owner left c (Ok s) h = bind_fine p (needs (reaches c s) l.BadLine) (λ _. with_step p owner left c s) (λ _. continued_goes (record p { steps = p.steps ++ s ∷ [] }) owner left (record { terms = 0; steps = c.steps - 1; literals = c.literals - length s.clause }) h)

step_fine : (p : Progress) (owner : Owner) (left : ℕ) (c : Counts) (line : Line) → Within p.count p.blocks owner left → Fine p (take_step p owner left c line)
unfolding take_step
step_fine p owner left c line h = step_by p owner left c (grammar.step_line owner c.literals line) h

end_fine : (p : Progress) (left : ℕ) (line : Line) → p.count ≡ Some (length p.blocks + left) → left ≡ 0 → Fine p (take_end p line)
unfolding take_end
end_fine p left line h none = bind_fine p (grammar.end_line line) (λ _. record p { stage = Ended }) (λ _. (h ∙ ap (λ (k : ℕ). Some k) (let same : length p.blocks + left ≡ length p.blocks = omega arith in same), λ n e. (e, refl)))

some_left : (n : ℕ) → eqb n 0 ≡ false → n ≡ suc (n - 1)
some_left n h =
    elim (cases_eq n 0) [
      | inl zero' ↦ absurd (let is : eqb n 0 ≡ true = eq-eqb n 0 zero' in cc)
      | inr other ↦ omega arith
    ]

next_fine : (p : Progress) (stage : Stage) (line : Line) → CountsAt p.count p.blocks stage → Fine p (next_line p stage line)
next_fine p Version line h = version_fine p line h
next_fine p LemmaCount line h = lemma_count_fine p line h
next_fine p (Lemmas left) line h = cond_fine (eqb left 0) p (take_condition_count p line) (take_head p (OfLemma (p.lemma_count - left)) (left - 1) line) (λ _. condition_count_fine p line h) (λ _. head_fine p (OfLemma (p.lemma_count - left)) (left - 1) line h)
next_fine p (InDerivation owner left c) line h = cond_fine (eqb c.terms 0) p (take_step p owner left c line) (take_term p owner left c line) (λ _. step_fine p owner left c line h) (λ _. term_fine p owner left c line h)
next_fine p (Conditions left) line h =
    cond_fine (eqb left 0) p (take_end p line) (take_head p (OfCondition p.version) (left - 1) line) (λ none. end_fine p left line h (eqb-true left 0 none))
    (λ some. head_fine p (OfCondition p.version) (left - 1) line (h ∙ ap (λ (k : ℕ). Some (length p.blocks + k)) (some_left left some)))
next_fine p Ended line h = tt

lines_fine : (p : Progress) (r : Reading Progress) → Fine p r → Fine p (r >>= λ q. Ok (record q { lines = q.lines + 1 }))
lines_fine p (Ok q) h = h
lines_fine p (Err e) h = tt

line_fine : (p : Progress) (line : Line) → Counted p → Fine p (take_line p line)
unfolding take_line
line_fine p line h = lines_fine p (next_line p p.stage line) (next_fine p p.stage line h)

-- ---- bytes

behind_goes : (s : Scan) (r : Reading Progress) → Counted s.progress → Fine s.progress r → Goes s.progress (behind_line s r).progress
behind_goes s (Ok q) h g = g
behind_goes s (Err e) h g = (h, λ n e. (e, refl))

scan_cond : (b : Bool) (p : Progress) (x y : Scan) → Goes p x.progress → Goes p y.progress → Goes p (cond b x y).progress
scan_cond true p x y h k = h
scan_cond false p x y h k = k

byte_goes : (s : Scan) (b : ℕ) → Counted s.progress → Goes s.progress (take_byte s b).progress
byte_goes s b h =
    scan_cond (is_some s.fault) s.progress s (next_byte s b) (h, λ n e. (e, refl))
    (scan_cond (eqb b 10) s.progress (behind_line s (take_line s.progress (words_of s.line))) (record s { line = s.line ++ b ∷ []; bytes = s.bytes + 1 }) (behind_goes s (take_line s.progress (words_of s.line)) h (line_fine s.progress (words_of s.line) h)) (h, λ n e. (e, refl)))

pub scan_goes : (piece : List ℕ) (s : Scan) → Counted s.progress → Goes s.progress (scan s piece).progress
scan_goes [] s h = subst (λ (t : Scan). Goes s.progress t.progress) (sym (no_bytes s)) (h, λ n e. (e, refl))
scan_goes (b ∷ piece) s h =
    let one = byte_goes s b h in
    let more = scan_goes piece (take_byte s b) one.0 in
    subst (λ (t : Scan). Goes s.progress t.progress) (sym (one_byte s b piece)) (more.0, λ n e. (let first = one.1 n e in let later = more.1 n first.0 in (later.0, later.1 ∙ first.1)))

start_counted : Counted start.progress
start_counted = (refl, refl)

bytes_counted : (bytes : List ℕ) → Counted (scan start bytes).progress
bytes_counted bytes = (scan_goes bytes start start_counted).0

-- ---- what is handed out

abbrev AsWhole : Session → List ℕ → Type 0
AsWhole s bytes = fronted s.lemmas s.blocks s.reader ≡ scan start bytes

put_out : (ds fs : List Derivation) → (ds ++ take 1 fs) ++ drop 1 fs ≡ ds ++ fs
put_out ds fs = append_assoc ds (take 1 fs) (drop 1 fs) ∙ ap (λ (x : List Derivation). ds ++ x) (take-append-drop 1 fs)

uses_one : (s : Session) (u : Use) (bytes : List ℕ) → AsWhole s bytes → AsWhole (use_once s u) (bytes ++ piece_of u)
uses_one s (Feed piece) bytes e = sym (scan_later s.lemmas s.blocks s.reader piece) ∙ ap (λ (t : Scan). scan t piece) e ∙ sym (two_pieces start bytes piece)
uses_one s NextLemma bytes e = ap (λ (ds : List Derivation). record s.reader { progress = record s.reader.progress { lemmas = ds; blocks = s.blocks ++ s.reader.progress.blocks } }) (put_out s.lemmas s.reader.progress.lemmas) ∙ e ∙ ap (scan start) (sym (append-nil bytes))
uses_one s NextBlock bytes e = ap (λ (ds : List Derivation). record s.reader { progress = record s.reader.progress { lemmas = s.lemmas ++ s.reader.progress.lemmas; blocks = ds } }) (put_out s.blocks s.reader.progress.blocks) ∙ e ∙ ap (scan start) (sym (append-nil bytes))

uses_all : (us : List Use) (s : Session) (bytes : List ℕ) → AsWhole s bytes → AsWhole (use_all s us) (bytes ++ pieces us)
uses_all [] s bytes e = e ∙ ap (scan start) (sym (append-nil bytes))
uses_all (u ∷ us) s bytes e = uses_all us (use_once s u) (bytes ++ piece_of u) (uses_one s u bytes e) ∙ ap (scan start) (append_assoc bytes (piece_of u) (pieces us))

whole : (us : List Use) → AsWhole (session us) (pieces us)
whole us = uses_all us fresh [] (sym (no_bytes start))

-- the number that was read is that of all bytes
same_count : (us : List Use) → (session us).reader.progress.count ≡ (scan start (pieces us)).progress.count
same_count us = ap (λ (s : Scan). s.progress.count) (whole us)

all_blocks : (us : List Use) → (session us).blocks ++ (session us).reader.progress.blocks ≡ (scan start (pieces us)).progress.blocks
all_blocks us = ap (λ (s : Scan). s.progress.blocks) (whole us)

-- a number that was read stands behind a piece
pub count_stands : (us : List Use) (piece : List ℕ) (n : ℕ) → (session us).reader.progress.count ≡ Some n → (scan (session us).reader piece).progress.count ≡ Some n
count_stands us piece n is =
    let w : Scan = scan start (pieces us) in
    let goes = scan_goes piece w (bytes_counted (pieces us)) in
    let there : (scan w piece).progress.count ≡ Some n = (goes.1 n (sym (same_count us) ∙ is)).0 in
    let same : (scan (session us).reader piece).progress.count ≡ (scan w piece).progress.count =
    ap (λ (s : Scan). s.progress.count) (sym (scan_later (session us).lemmas (session us).blocks (session us).reader piece) ∙ ap (λ (s : Scan). scan s piece) (whole us)) in
    same ∙ there

same_front : (ds xs ys : List Derivation) → ds ++ xs ≡ ds ++ ys → xs ≡ ys
same_front [] xs ys same = same
same_front (d ∷ ds) xs ys same = same_front ds xs ys (cc same)

all_lemmas : (us : List Use) → (session us).lemmas ++ (session us).reader.progress.lemmas ≡ (scan start (pieces us)).progress.lemmas
all_lemmas us = ap (λ (s : Scan). s.progress.lemmas) (whole us)

-- behind that number no lemma comes
pub lemmas_stand : (us : List Use) (piece : List ℕ) (n : ℕ) → (session us).reader.progress.count ≡ Some n → (scan (session us).reader piece).progress.lemmas ≡ (session us).reader.progress.lemmas
lemmas_stand us piece n is =
    let w : Scan = scan start (pieces us) in
    let goes = scan_goes piece w (bytes_counted (pieces us)) in
    let there : (scan w piece).progress.lemmas ≡ w.progress.lemmas = (goes.1 n (sym (same_count us) ∙ is)).1 in
    let same : (session us).lemmas ++ (scan (session us).reader piece).progress.lemmas ≡ (scan w piece).progress.lemmas =
    ap (λ (s : Scan). s.progress.lemmas) (sym (scan_later (session us).lemmas (session us).blocks (session us).reader piece) ∙ ap (λ (s : Scan). scan s piece) (whole us)) in
    same_front (session us).lemmas (scan (session us).reader piece).progress.lemmas (session us).reader.progress.lemmas (same ∙ there ∙ sym (all_lemmas us))

no_block : (o : Option ℕ) (bs : List Derivation) (stage : Stage) → CountsAt o bs stage → o ≡ None → bs ≡ []
no_block o bs Version h none = h.1
no_block o bs LemmaCount h none = h.1
no_block o bs (Lemmas left) h none = h.1
no_block o bs (InDerivation (OfLemma n) left c) h none = h.1
no_block o bs (InDerivation (OfCondition v) left c) h none = absurd (no_number o (length bs + suc left) none h)
no_block o bs (Conditions left) h none = absurd (no_number o (length bs + left) none h)
no_block o bs Ended h none = absurd (no_number o (length bs) none h)

front_empty : (ds fs : List Derivation) → ds ++ fs ≡ [] → ds ≡ []
front_empty [] fs h = refl
front_empty (d ∷ ds) fs h = absurd cc

-- before it no block was handed out
pub none_before : (us : List Use) → (session us).reader.progress.count ≡ None → (session us).blocks ≡ []
none_before us none =
    let w : Scan = scan start (pieces us) in
    front_empty (session us).blocks (session us).reader.progress.blocks (all_blocks us ∙ no_block w.progress.count w.progress.blocks w.progress.stage (bytes_counted (pieces us)) (sym (same_count us) ∙ none))

some_count : (o : Option ℕ) (bs : List Derivation) (stage : Stage) → CountsAt o bs stage → (bs ≡ [] → ⊥) → (n : ℕ) × (o ≡ Some n)
some_count o bs Version h other = absurd (other h.1)
some_count o bs LemmaCount h other = absurd (other h.1)
some_count o bs (Lemmas left) h other = absurd (other h.1)
some_count o bs (InDerivation (OfLemma n) left c) h other = absurd (other h.1)
some_count o bs (InDerivation (OfCondition v) left c) h other = (length bs + suc left, h)
some_count o bs (Conditions left) h other = (length bs + left, h)
some_count o bs Ended h other = (length bs, h)

not_empty : (ds : List Derivation) (d : Derivation) (fs : List Derivation) → ds ++ d ∷ fs ≡ [] → ⊥
not_empty [] d fs h = absurd cc
not_empty (x ∷ ds) d fs h = absurd cc

-- where a block is there, the number was read
pub block_counts : (us : List Use) (block : Derivation) (rest : List Derivation) → (session us).reader.progress.blocks ≡ block ∷ rest → (n : ℕ) × ((session us).reader.progress.count ≡ Some n)
block_counts us block rest front =
    let w : Scan = scan start (pieces us) in
    let all : (session us).blocks ++ block ∷ rest ≡ w.progress.blocks = ap (λ (bs : List Derivation). (session us).blocks ++ bs) (sym front) ∙ all_blocks us in
    let some = some_count w.progress.count w.progress.blocks w.progress.stage (bytes_counted (pieces us)) (λ none. not_empty (session us).blocks block rest (all ∙ none)) in
    (some.0, same_count us ∙ some.1)

-- at the end it is that of the blocks
pub counts_blocks : (us : List Use) → answer (scan start (pieces us)) ≡ Ok tt → (session us).reader.progress.count ≡ Some (length (scan start (pieces us)).progress.blocks)
counts_blocks us ends =
    let w : Scan = scan start (pieces us) in
    let n = no_fault w.fault w.progress w.line ends in
    same_count us ∙ subst (λ (s : Stage). CountsAt w.progress.count w.progress.blocks s) n.1 (bytes_counted (pieces us))
