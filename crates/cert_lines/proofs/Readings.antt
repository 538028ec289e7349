-- Reading words one after the other, as a loop does.
use Rattle.std.proofs.Common.{◌≡◌, ℕ, zero, suc, ◌-◌, ◌+◌, ℤ, true, false, List, [], ◌∷◌, ◌++◌, length, codes, bytes_eq, ◌==◌, Some, None, Ok, Err, refl, sym, ap, ◌∙◌, append_assoc, length-append, arith, inl, inr}
use Rattle.std.proofs.lemmas.List.{append-nil}
use Rattle.std.proofs.lemmas.Bool.{cases_Bool}
use Rattle.std.specs.List.{onto_first}
use Rattle.terms.specs.declared.term.Literal.{Literal}
use Rattle.cert_format.specs.declared.fault.LineFault.TheVariants.{BadLine, BadNumber}
use Rattle.cert_lines.specs.Numerals.{number_in, argument_in, literal_in}
use Rattle.cert_lines.specs.Grammar.{Reading, ◌>>=◌, words_of, ends, numbers, arguments, literals}
use Rattle.cert_format.specs.Text.{Word, Line}
use Rattle.std.proofs.lemmas.List.Splits.{slice_split-cons_yes, slice_split-cons_no}

-- there is a first word
pub words_cons : (line : List ℕ) → (w : Word) × (rest : Line) × (words_of line ≡ w ∷ rest)
words_cons [] = ([], [], refl)
words_cons (c ∷ line) =
    let more = words_cons line in
    elim (cases_Bool (c == 32)) [
      | inl is ↦ ([], words_of line, slice_split-cons_yes (λ x. x == 32) c line is)
      | inr isnt ↦ (c ∷ more.0, more.1, slice_split-cons_no (λ x. x == 32) c line isnt ∙ ap (onto_first c) more.2)
    ]

pub not_ended : (line : List ℕ) → ends (words_of line) ≡ Err BadLine
not_ended line = let w = words_cons line in rw w.2 refl

-- ---- what was read before, and what is still read

abbrev pub onto : {V : Type 0} → List V → Reading (List V) → Reading (List V)
onto front read = read >>= λ xs. Ok (front ++ xs)

abbrev pub onto_pair : {V : Type 0} → List V → Reading (List V × Line) → Reading (List V × Line)
onto_pair front read = read >>= λ x. Ok (front ++ x.0, x.1)

regroup : {V : Type 0} (front : List V) (x : V) (read : Reading (List V)) → onto front (read >>= λ xs. Ok (x ∷ xs)) ≡ onto (front ++ x ∷ []) read
regroup front x (Ok xs) = ap (λ (vs : List _). Ok vs) (simp append_assoc)
regroup front x (Err e) = refl

regroup_pair : {V : Type 0} (front : List V) (x : V) (read : Reading (List V × Line)) → onto_pair front (read >>= λ xs. Ok (x ∷ xs.0, xs.1)) ≡ onto_pair (front ++ x ∷ []) read
regroup_pair front x (Ok xs) = ap (λ (vs : List _). Ok (vs, xs.1)) (simp append_assoc)
regroup_pair front x (Err e) = refl

-- ---- arguments

pub arguments_go : (front : List ℕ) (words : Line) (w : Word) (rest : Line) (a : ℕ) (total : Reading (List ℕ)) → words ≡ w ∷ rest → argument_in w ≡ Some a
    → onto front (arguments words) ≡ total → onto (front ++ a ∷ []) (arguments rest) ≡ total
unfolding arguments
arguments_go front words w rest a total e read so_far = sym (regroup front a (arguments rest)) ∙ sym (rw (e, read) refl) ∙ so_far

pub arguments_fail : (front : List ℕ) (words : Line) (w : Word) (rest : Line) (total : Reading (List ℕ)) → words ≡ w ∷ rest → argument_in w ≡ None
    → onto front (arguments words) ≡ total → total ≡ Err BadNumber
unfolding arguments
arguments_fail front words w rest total e read so_far = sym so_far ∙ rw (e, read) refl

pub arguments_end : (front : List ℕ) (words : Line) (total : Reading (List ℕ)) → words ≡ [] → onto front (arguments words) ≡ total → total ≡ Ok front
unfolding arguments
arguments_end front words total e so_far = sym so_far ∙ rw e (ap (λ (vs : List ℕ). Ok vs) (append-nil front))

-- ---- numbers

pub numbers_go : (front : List ℤ) (words : Line) (w : Word) (rest : Line) (n : ℤ) (total : Reading (List ℤ × Line)) → words ≡ w ∷ rest → bytes_eq w (codes "=") ≡ false → number_in w ≡ Some n
    → onto_pair front (numbers words) ≡ total → onto_pair (front ++ n ∷ []) (numbers rest) ≡ total
unfolding numbers
numbers_go front words w rest n total e other read so_far = sym (regroup_pair front n (numbers rest)) ∙ sym (rw (e, other, read) refl) ∙ so_far

pub numbers_fail : (front : List ℤ) (words : Line) (w : Word) (rest : Line) (total : Reading (List ℤ × Line)) → words ≡ w ∷ rest → bytes_eq w (codes "=") ≡ false → number_in w ≡ None
    → onto_pair front (numbers words) ≡ total → total ≡ Err BadNumber
unfolding numbers
numbers_fail front words w rest total e other read so_far = sym so_far ∙ rw (e, other, read) refl

pub numbers_end : (front : List ℤ) (words : Line) (w : Word) (rest : Line) (total : Reading (List ℤ × Line)) → words ≡ w ∷ rest → bytes_eq w (codes "=") ≡ true
    → onto_pair front (numbers words) ≡ total → total ≡ Ok (front, rest)
unfolding numbers
numbers_end front words w rest total e is so_far = sym so_far ∙ rw (e, is) (ap (λ (vs : List ℤ). Ok (vs, rest)) (append-nil front))

pub numbers_missing : (front : List ℤ) (words : Line) (total : Reading (List ℤ × Line)) → words ≡ [] → onto_pair front (numbers words) ≡ total → total ≡ Err BadLine
unfolding numbers
numbers_missing front words total e so_far = sym so_far ∙ rw e refl

-- ---- literals

pub literals_go : (front : List Literal) (left less : ℕ) (words : Line) (w : Word) (rest : Line) (l : Literal) (total : Reading (List Literal)) → left ≡ suc less → words ≡ w ∷ rest → literal_in w ≡ Some l
    → onto front (literals left words) ≡ total → onto (front ++ l ∷ []) (literals less rest) ≡ total
unfolding literals
literals_go front left less words w rest l total more e read so_far = sym (regroup front l (literals less rest)) ∙ sym (rw (more, e, read) refl) ∙ so_far

no_literal : (left : ℕ) (w : Word) (rest : Line) → literal_in w ≡ None → literals left (w ∷ rest) ≡ Err BadNumber
unfolding literals
no_literal zero w rest read = rw read refl
no_literal (suc left) w rest read = rw read refl

pub literals_fail : (front : List Literal) (left : ℕ) (words : Line) (w : Word) (rest : Line) (total : Reading (List Literal)) → words ≡ w ∷ rest → literal_in w ≡ None
    → onto front (literals left words) ≡ total → total ≡ Err BadNumber
literals_fail front left words w rest total e read so_far = sym so_far ∙ rw (e, no_literal left w rest read) refl

pub literals_past : (front : List Literal) (left : ℕ) (words : Line) (w : Word) (rest : Line) (l : Literal) (total : Reading (List Literal)) → left ≡ 0 → words ≡ w ∷ rest → literal_in w ≡ Some l
    → onto front (literals left words) ≡ total → total ≡ Err BadLine
unfolding literals
literals_past front left words w rest l total none e read so_far = sym so_far ∙ rw (none, e, read) refl

pub literals_end : (front : List Literal) (left : ℕ) (words : Line) (total : Reading (List Literal)) → words ≡ [] → onto front (literals left words) ≡ total → total ≡ Ok front
unfolding literals
literals_end front left words total e so_far = sym so_far ∙ rw e (ap (λ (vs : List Literal). Ok vs) (append-nil front))

pub one_more : (front : List Literal) (l : Literal) (left most : ℕ) → (left ≡ 0 → ⊥) → length front + left ≡ most → length (front ++ l ∷ []) + (left - 1) ≡ most
one_more front l left most above sum = rw (length-append front (l ∷ [])) (omega arith)
