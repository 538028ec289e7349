-- Lines written piece by piece.
use Rattle.std.proofs.Common.{◌≡◌, ℕ, ◌+◌, ◌≤◌, List, ◌++◌, length, take, Option, Some, None, append_assoc, decimal, subst, ap, sym, ◌∙◌, arith}
use Rattle.std.proofs.lemmas.List.{length-append, take-append-le}
use Rattle.std.proofs.Math.Seq.{take-append-add}
use Rattle.vcc_base.specs.Maps.{NowWritten, FrontWritten}

-- one piece is written, and then another
pub then_written : (old middle new : Option (List ℕ)) (a b : List ℕ) → NowWritten old middle a → NowWritten middle new b → NowWritten old new (a ++ b)
then_written None middle new a b first second = tt
then_written (Some bytes) middle new a b first second = subst (λ (o : Option (List ℕ)). NowWritten o new b) first second ∙ ap Some (append_assoc bytes a b)

-- what was written, by another name
pub is_written : (old new : Option (List ℕ)) (a b : List ℕ) → a ≡ b → NowWritten old new a → NowWritten old new b
is_written old new a b is h = subst (λ (piece : List ℕ). NowWritten old new piece) is h

-- the number that was written, by another name
pub is_decimal : (old new : Option (List ℕ)) (n m : ℕ) → n ≡ m → NowWritten old new (decimal n) → NowWritten old new (decimal m)
is_decimal old new n m is h = subst (λ (number : ℕ). NowWritten old new (decimal number)) is h

-- ---- after a fault

-- a front of what was written, by another name
pub is_front : (old new : Option (List ℕ)) (a b : List ℕ) → a ≡ b → FrontWritten old new a → FrontWritten old new b
is_front old new a b is h = subst (λ (piece : List ℕ). FrontWritten old new piece) is h

-- a front of the number that was written, by another name
pub is_front_decimal : (old new : Option (List ℕ)) (n m : ℕ) → n ≡ m → FrontWritten old new (decimal n) → FrontWritten old new (decimal m)
is_front_decimal old new n m is h = subst (λ (number : ℕ). FrontWritten old new (decimal number)) is h

within_first : (n : ℕ) (a b : List ℕ) → n ≤ length a → n ≤ length (a ++ b)
within_first n a b fits = let both : length (a ++ b) ≡ length a + length b = length-append a b in omega (arith, fits, both)

within_second : (n : ℕ) (a b : List ℕ) → n ≤ length b → length a + n ≤ length (a ++ b)
within_second n a b fits = let both : length (a ++ b) ≡ length a + length b = length-append a b in omega (arith, fits, both)

-- a front of the first piece is one of both
pub front_first : (old new : Option (List ℕ)) (a b : List ℕ) → FrontWritten old new a → FrontWritten old new (a ++ b)
front_first old new a b (n, fits, written) = (n, within_first n a b fits, is_written old new (take n a) (take n (a ++ b)) (sym (take-append-le n a b fits)) written)

-- one piece is written, and then a front of another
pub front_more : (old middle new : Option (List ℕ)) (a b : List ℕ) → NowWritten old middle a → FrontWritten middle new b → FrontWritten old new (a ++ b)
front_more old middle new a b first (n, fits, written) = (length a + n, within_second n a b fits, is_written old new (a ++ take n b) (take (length a + n) (a ++ b)) (sym (take-append-add a b n)) (then_written old middle new a (take n b) first written))
