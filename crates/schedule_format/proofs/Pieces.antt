-- Where the first piece ends, and what comes of the first pieces.
use Rattle.std.proofs.Common.{◌≡◌, ◌≢◌, ℕ, zero, suc, ◌+◌, ◌<◌, Bool, true, false, cond, List, [], ◌∷◌, length, take, drop, get_or, None, Ok, Err, refl, ap, ◌∙◌, arith}
use Rattle.std.proofs.lemmas.Bool.{ne_eqb, eq-eqb}
use Rattle.std.proofs.lemmas.List.{nil_from_length}
use Rattle.std.specs.Prelude.{◌==◌}
use Rattle.std.specs.List.{onto_first}
use Rattle.schedule_format.specs.declared.fault.ScheduleFault.TheVariants.{CutShort, Trailing}
use Rattle.schedule_format.specs.Lines.{pieces}
use Rattle.schedule_format.specs.Reading.{value_of, value_in, whole_line, nothing_at}

pub one_piece : (byte : ℕ) (xs : List ℕ) → ((k : ℕ) → k < length xs → get_or xs k 0 ≢ byte) → pieces byte xs ≡ xs ∷ []
unfolding pieces
one_piece byte [] none = refl
one_piece byte (x ∷ xs) none = rw (ne_eqb x byte (none 0 (omega arith))) (ap (onto_first x) (one_piece byte xs (λ k lt. none (suc k) (omega arith))))

piece_to : (byte : ℕ) (xs : List ℕ) (i : ℕ) → i < length xs → get_or xs i 0 ≡ byte → ((k : ℕ) → k < i → get_or xs k 0 ≢ byte) → pieces byte xs ≡ take i xs ∷ pieces byte (drop (suc i) xs)
unfolding pieces
piece_to byte [] i lt here before = absurd (omega arith)
piece_to byte (x ∷ xs) zero lt here before = rw (eq-eqb x byte here) refl
piece_to byte (x ∷ xs) (suc i) lt here before = rw (ne_eqb x byte (before 0 (omega arith))) (ap (onto_first x) (piece_to byte xs i (omega arith) here (λ k below. before (suc k) (omega arith))))

pub first_piece : (byte : ℕ) (xs : List ℕ) (i : ℕ) → i < length xs → get_or xs i 0 ≡ byte → ((k : ℕ) → k < i → get_or xs k 0 ≢ byte) → pieces byte xs ≡ take i xs ∷ pieces byte (drop (i + 1) xs)
first_piece byte xs i lt here before = piece_to byte xs i lt here before ∙ ap (λ (n : ℕ). take i xs ∷ pieces byte (drop n xs)) (let e : suc i ≡ i + 1 = omega arith in e)

onto_some : (P : List (List ℕ) → Type 0) → ((p : List ℕ) (ps : List (List ℕ)) → P (p ∷ ps)) → (x : ℕ) (ps : List (List ℕ)) → P (onto_first x ps)
onto_some P each x [] = each (x ∷ []) []
onto_some P each x (p ∷ ps) = each (x ∷ p) ps

either : (P : List (List ℕ) → Type 0) (b : Bool) (x y : List (List ℕ)) → P x → P y → P (cond b x y)
either P true x y p q = p
either P false x y p q = q

-- there always is a piece
pub some_piece : (P : List (List ℕ) → Type 0) → ((p : List ℕ) (ps : List (List ℕ)) → P (p ∷ ps)) → (byte : ℕ) (xs : List ℕ) → P (pieces byte xs)
unfolding pieces
some_piece P each byte [] = each [] []
some_piece P each byte (x ∷ xs) = either P _ _ _ (each [] (pieces byte xs)) (onto_some P each x (pieces byte xs))

pub line_there : (n : ℕ) (text line rest : List ℕ) → pieces 10 text ≡ line ∷ pieces 10 rest → whole_line n (pieces 10 text) ≡ Ok (line, pieces 10 rest)
line_there n text line rest e = ap (whole_line n) e ∙ some_piece (λ ps. whole_line n (line ∷ ps) ≡ Ok (line, ps)) (λ p ps. refl) 10 rest

pub line_cut : (n : ℕ) (text : List ℕ) → pieces 10 text ≡ text ∷ [] → whole_line n (pieces 10 text) ≡ Err (CutShort n)
line_cut n text e = ap (whole_line n) e

pub three_parts : (word ty serial second rest : List ℕ) → pieces 46 word ≡ ty ∷ pieces 46 serial → pieces 46 serial ≡ second ∷ pieces 46 rest → value_of word ≡ None
unfolding value_of
three_parts word ty serial second rest e f = ap value_in (e ∙ ap (λ (ps : List (List ℕ)). ty ∷ ps) f) ∙ some_piece (λ ps. value_in (ty ∷ second ∷ ps) ≡ None) (λ p ps. refl) 46 rest

pub ruleset lines = (line_there, line_cut)

-- ---- the end of the text

pub nothing_left : (n : ℕ) (text : List ℕ) → length text ≡ 0 → nothing_at n (pieces 10 text) ≡ Ok tt
unfolding pieces
nothing_left n text none = rw (nil_from_length text none) refl

onto_left : (n x : ℕ) (ps : List (List ℕ)) → nothing_at n (onto_first x ps) ≡ Err (Trailing n)
onto_left n x [] = refl
onto_left n x (p ∷ []) = rw (ne_eqb (suc (length p)) 0 (λ e. omega arith)) refl
onto_left n x (p ∷ q ∷ ps) = refl

pub something_left : (n : ℕ) (text : List ℕ) → length text ≢ 0 → nothing_at n (pieces 10 text) ≡ Err (Trailing n)
unfolding pieces
something_left n [] some = absurd (some refl)
something_left n (x ∷ text) some = either (λ ps. nothing_at n ps ≡ Err (Trailing n)) (x == 10) _ _ (some_piece (λ ps. nothing_at n ([] ∷ ps) ≡ Err (Trailing n)) (λ p ps. refl) 10 text) (onto_left n x (pieces 10 text))
