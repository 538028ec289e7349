-- What is still to be written of a text.
use Rattle.std.proofs.Common.{◌≡◌, ℕ, List, [], ◌++◌, length, take, drop, get_or, ◌+◌, ◌<◌, Option, Some, None, ◌≤◌, refl, sym, ap, subst, ◌∙◌, append_assoc, arith}
use Rattle.std.proofs.lemmas.List.{append-nil, drop_more}
use Rattle.std.specs.List.{flat_map}
use Rattle.std.proofs.Math.Seq.{take-length}
use Rattle.vcc_base.specs.Maps.{NowWritten, FrontWritten}
use Rattle.vcc_base.proofs.Printing.{then_written, is_written, is_front, front_first, front_more}

-- a front of the whole text is written, and this is left of it
abbrev pub Left : Option (List ℕ) → Option (List ℕ) → List ℕ → List ℕ → Type 0
Left old now rest whole = (front : List ℕ) × NowWritten old now front × (front ++ rest ≡ whole)

pub none_written : (old : Option (List ℕ)) → NowWritten old old []
none_written None = tt
none_written (Some bytes) = ap (λ (t : List ℕ). Some t) (sym (append-nil bytes))

pub left_all : (old : Option (List ℕ)) (whole : List ℕ) → Left old old whole whole
left_all old whole = ([], none_written old, refl)

pub left_rest : (old now next : Option (List ℕ)) (piece rest whole : List ℕ) → Left old now (piece ++ rest) whole → NowWritten now next piece → Left old next rest whole
left_rest old now next piece rest whole (front, written, is) more = (front ++ piece, then_written old now next front piece written more, append_assoc front piece rest ∙ is)

pub left_none : (old now : Option (List ℕ)) (whole : List ℕ) → Left old now [] whole → NowWritten old now whole
left_none old now whole (front, written, is) = is_written old now front whole (sym (append-nil front) ∙ is) written

-- a fault in the next piece
pub left_front : (old now next : Option (List ℕ)) (piece rest whole : List ℕ) → Left old now (piece ++ rest) whole → FrontWritten now next piece → FrontWritten old next whole
left_front old now next piece rest whole (front, written, is) more = is_front old next (front ++ (piece ++ rest)) whole is (front_more old now next front (piece ++ rest) written (front_first now next piece rest more))

pub whole_front : (old now : Option (List ℕ)) (text : List ℕ) → NowWritten old now text → FrontWritten old now text
whole_front old now text written = (length text, within, is_written old now text (take (length text) text) (sym all) written)
  where
    within : length text ≤ length text
    within = omega arith

    all : take (length text) text ≡ text
    all = take-length text

pub left_is : (old now : Option (List ℕ)) (rest other whole : List ℕ) → rest ≡ other → Left old now rest whole → Left old now other whole
left_is old now rest other whole e left = subst (λ (t : List ℕ). Left old now t whole) e left

-- ---- texts of a list, one after the other

pub texts_next : {X : Type 0} (f : X → List ℕ) (xs : List X) (i : ℕ) (d : X) → i < length xs → flat_map f (drop i xs) ≡ f (get_or xs i d) ++ flat_map f (drop (i + 1) xs)
texts_next f xs i d lt = ap (flat_map f) (drop_more xs i d lt)

pub next_text : {X : Type 0} (f : X → List ℕ) (xs : List X) (i : ℕ) (d : X) (old now next : Option (List ℕ)) (whole : List ℕ) → i < length xs → Left old now (flat_map f (drop i xs)) whole → NowWritten now next (f (get_or xs i d)) → Left old next (flat_map f (drop (i + 1) xs)) whole
next_text f xs i d old now next whole lt left written =
    left_rest old now next (f (get_or xs i d)) (flat_map f (drop (i + 1) xs)) whole (left_is old now (flat_map f (drop i xs)) (f (get_or xs i d) ++ flat_map f (drop (i + 1) xs)) whole (texts_next f xs i d lt) left) written

pub text_front : {X : Type 0} (f : X → List ℕ) (xs : List X) (i : ℕ) (d : X) (old now next : Option (List ℕ)) (whole : List ℕ) → i < length xs → Left old now (flat_map f (drop i xs)) whole → FrontWritten now next (f (get_or xs i d)) → FrontWritten old next whole
text_front f xs i d old now next whole lt left front =
    left_front old now next (f (get_or xs i d)) (flat_map f (drop (i + 1) xs)) whole (left_is old now (flat_map f (drop i xs)) (f (get_or xs i d) ++ flat_map f (drop (i + 1) xs)) whole (texts_next f xs i d lt) left) front
