-- Texts without a byte, and how a text is cut at it.
use Rattle.std.proofs.Common.{◌≡◌, ℕ, suc, ◌+◌, ◌%◌, ◌^◌, ◌<◌, ℤ, pos, negsuc, eqb, false, List, [], ◌∷◌, ◌++◌, arith, refl}
use Rattle.std.proofs.lemmas.Bool.{ne_eqb, eq-eqb}
use Rattle.std.proofs.lemmas.Fmt.{decimal_by_steps_wide}
use Rattle.std.proofs.lemmas.List.Elements.{All-from_recursion}
use Rattle.std.proofs.lemmas.List.Splits.{slice_split_none, slice_split_at, join_with_byte-slice_split}
use Rattle.std.specs.Prelude.{decimal, FitsSigned}
use Rattle.std.specs.Int.{w128}
use Rattle.std.specs.Fmt.{signed_decimal}
use Rattle.std.specs.List.{AllByRecursion, join_with_byte}
use Rattle.schedule_format.specs.Lines.{pieces}

-- the text has no such byte
abbrev pub Clear : ℕ → List ℕ → Type 0
Clear byte = AllByRecursion (λ c. eqb c byte ≡ false)

pub clear_append : (byte : ℕ) (xs ys : List ℕ) → Clear byte xs → Clear byte ys → Clear byte (xs ++ ys)
clear_append byte [] ys p q = q
clear_append byte (x ∷ xs) ys p q = (p.0, clear_append byte xs ys p.1 q)

pub decimal_clear : (byte n : ℕ) → byte < 48 → n < 10 ^ 63 → Clear byte (decimal n)
decimal_clear byte n low small =
    decimal_by_steps_wide (λ m ds. Clear byte ds) (λ m lt. (ne_eqb (48 + m) byte (λ e. omega arith), tt)) (λ m ds le front. clear_append byte ds ((48 + m % 10) ∷ []) front (ne_eqb (48 + m % 10) byte (λ e. omega arith), tt)) n (omega arith)

pub signed_clear : (byte : ℕ) (z : ℤ) → byte < 48 → (45 ≡ byte → ⊥) → FitsSigned w128 z → Clear byte (signed_decimal z)
signed_clear byte (pos n) low minus fits =
    let small : n < 2 ^ 127 = fits.sfits in
    decimal_clear byte n low (omega arith)
signed_clear byte (negsuc n) low minus fits =
    let small : n < 2 ^ 127 = fits.sfits in
    (ne_eqb 45 byte minus, decimal_clear byte (suc n) low (omega arith))

pub pieces_clear : (byte : ℕ) (xs : List ℕ) → Clear byte xs → pieces byte xs ≡ xs ∷ []
unfolding pieces
pieces_clear byte xs clear = slice_split_none (λ x. eqb x byte) xs (All-from_recursion (λ x. eqb x byte ≡ false) xs clear)

pub pieces_then : (byte : ℕ) (xs rest : List ℕ) → Clear byte xs → pieces byte (xs ++ byte ∷ rest) ≡ xs ∷ pieces byte rest
unfolding pieces
pieces_then byte xs rest clear = slice_split_at (λ x. eqb x byte) xs byte rest (All-from_recursion (λ x. eqb x byte ≡ false) xs clear) (eq-eqb byte byte refl)

-- the pieces with the byte between them are the text
pub pieces_join : (byte : ℕ) (text : List ℕ) → join_with_byte byte (pieces byte text) ≡ text
unfolding pieces
pieces_join byte text = join_with_byte-slice_split byte text
