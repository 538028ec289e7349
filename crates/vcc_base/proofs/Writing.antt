-- What writes of a piece, one front after another, add up to.
use Rattle.std.proofs.Common.{◌≡◌, ℕ, ◌+◌, ◌-◌, List, ◌++◌, length, take, drop, Option, None, Some, ap, ◌∙◌, append_assoc, subst}
use Rattle.std.proofs.lemmas.List.{take_rest}
use Rattle.std.proofs.Math.Seq.{take-add}
use Rattle.vcc_base.specs.Maps.{NowWritten}

-- the piece is what was taken of it, and then what was taken of the rest
pub taken_more : (old piece : List ℕ) (done count : ℕ) → (old ++ take done piece) ++ take count (take (length piece - done) (drop done piece)) ≡ old ++ take (done + count) piece
taken_more old piece done count =
    rw (take_rest, take-add, append_assoc)

-- what was written first, and then a front of the rest
pub written_more : (first now next : Option (List ℕ)) (piece : List ℕ) (done count : ℕ) → NowWritten first now (take done piece) → NowWritten now next (take count (take (length piece - done) (drop done piece))) → NowWritten first next (take (done + count) piece)
written_more None now next piece done count before more = tt
written_more (Some old) now next piece done count before more =
    let P : Option (List ℕ) → Type 0 = λ o. NowWritten o next (take count (take (length piece - done) (drop done piece))) in
    let told : next ≡ Some ((old ++ take done piece) ++ take count (take (length piece - done) (drop done piece))) = subst P before more in
    told ∙ ap (λ xs. Some xs) (taken_more old piece done count)
