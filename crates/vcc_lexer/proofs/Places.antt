-- Places behind a text, byte by byte.
use Rattle.std.proofs.Common.{◌≡◌, ℕ, ◌<◌, ◌≤◌, ◌+◌, Bool, true, false, List, [], ◌∷◌, ◌++◌, length, take, get_or, refl, sym, ap, subst, ◌∙◌, arith}
use Rattle.std.specs.Prelude.{if◌then◌else◌, ◌==◌}
use Rattle.std.proofs.lemmas.List.{take_more}
use Rattle.c_syntax.specs.Lexing.{Position, at, place_after, behind_byte}

pub place_after-append : (a b : List ℕ) (p : Position) → place_after (a ++ b) p ≡ place_after b (place_after a p)
place_after-append [] b p = refl
place_after-append (x ∷ a) b p = place_after-append a b (behind_byte x p)

pub behind_more : (text : List ℕ) (i : ℕ) (p : Position) → i < length text → place_after (take (i + 1) text) p ≡ behind_byte (get_or text i 0) (place_after (take i text) p)
behind_more text i p lt = ap (λ (w : List ℕ). place_after w p) (take_more text i 0 lt) ∙ place_after-append (take i text) (get_or text i 0 ∷ []) p

-- q is n bytes behind p
pub record Near (n : ℕ) (p q : Position) : Type 0 where
  pub offset : q.offset ≡ p.offset + n
  pub line : q.place.line ≤ p.place.line + n
  pub column : q.place.column ≤ p.place.column + n
  pub some : 0 < q.place.column

near_by : (t : Bool) (p : Position) → 0 < p.place.column → Near 1 p (if t then at (p.offset + 1) (p.place.line + 1) 1 else at (p.offset + 1) p.place.line (p.place.column + 1))
near_by true p pos = record { offset = refl; line = omega arith; column = omega arith; some = omega arith }
near_by false p pos = record { offset = refl; line = omega arith; column = omega arith; some = omega arith }

pub near_byte : (b : ℕ) (p : Position) → 0 < p.place.column → Near 1 p (behind_byte b p)
near_byte b p pos = near_by (b == 10) p pos

pub near : (text : List ℕ) (p : Position) → 0 < p.place.column → Near (length text) p (place_after text p)
near [] p pos = record { offset = omega arith; line = omega arith; column = omega arith; some = pos }
near (b ∷ text) p pos =
    let one = near_byte b p pos in
    let rest = near text (behind_byte b p) one.some in
    record { offset = omega arith; line = omega arith; column = omega arith; some = rest.some }

-- the numbers of a place fit with as many bytes behind it
pub record Room (p : Position) (n : ℕ) : Type 0 where
  pub offset : p.offset + n ≤ 4294967295
  pub line : p.place.line + n ≤ 4294967295
  pub column : p.place.column + n ≤ 4294967295
  pub counted : 0 < p.place.column

pub room_on : (p q : Position) (front : List ℕ) (n m : ℕ) → Room p n → q ≡ place_after front p → length front + m ≡ n → Room q m
room_on p q front n m room e sum =
    let by : Near (length front) p q = subst (λ x. Near (length front) p x) (sym e) (near front p room.counted) in
    record { offset = omega (arith, by.offset, room.offset); line = omega (arith, by.line, room.line); column = omega (arith, by.column, room.column); counted = by.some }
