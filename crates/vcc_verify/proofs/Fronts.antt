-- What a name holds, behind one write and another.
use Rattle.std.proofs.Common.{◌≡◌, ℕ, ◌+◌, List, [], ◌++◌, length, take, Option, Some, None, refl, sym, ap, ◌∙◌, subst, append_assoc, arith}
use Rattle.std.proofs.lemmas.List.{append-nil, length-append, take-append-le}
use Rattle.std.proofs.Math.Seq.{take-append-add, take-length}
use Rattle.vcc_base.specs.Maps.{Map, IfTold, Holds, NowHolds, FrontHeld}
use Rattle.vcc_base.proofs.Appending.{holds_again}

module _ (before : Option Map) (name : List ℕ) where
  pub held_as : (now : Option Map) (a b : List ℕ) → a ≡ b → NowHolds before now name a → NowHolds before now name b
  held_as now a b is h = subst (λ (t : List ℕ). NowHolds before now name t) is h

  pub front_as : (now : Option Map) (text a b : List ℕ) → a ≡ b → FrontHeld before now name text a → FrontHeld before now name text b
  front_as now text a b is h = subst (λ (t : List ℕ). FrontHeld before now name text t) is h

  -- nothing of a piece
  pub front_none : (now : Option Map) (text piece : List ℕ) → NowHolds before now name text → FrontHeld before now name text piece
  front_none now text piece held = (0, omega arith, held_as now text (text ++ []) (sym (append-nil text)) held)

  -- all of it
  pub front_all : (now : Option Map) (text piece : List ℕ) → NowHolds before now name (text ++ piece) → FrontHeld before now name text piece
  front_all now text piece held =
      (length piece, omega arith, held_as now (text ++ piece) (text ++ take (length piece) piece) (sym (ap (λ (t : List ℕ). text ++ t) (take-length piece))) held)

  -- a front of the first piece is one of both
  pub front_first : (now : Option Map) (text a b : List ℕ) → FrontHeld before now name text a → FrontHeld before now name text (a ++ b)
  front_first now text a b (n, fits, held) =
      let both : length (a ++ b) ≡ length a + length b = length-append a b in
      (n, omega (arith, fits, both), held_as now (text ++ take n a) (text ++ take n (a ++ b)) (sym (ap (λ (t : List ℕ). text ++ t) (take-append-le n a b fits))) held)

  -- one piece, and then a front of another
  pub front_then : (now : Option Map) (text a b : List ℕ) → FrontHeld before now name (text ++ a) b → FrontHeld before now name text (a ++ b)
  front_then now text a b (n, fits, held) =
      let both : length (a ++ b) ≡ length a + length b = length-append a b in (
        length a + n,
        omega (arith, fits, both),
        held_as now ((text ++ a) ++ take n b) (text ++ take (length a + n) (a ++ b))
            (append_assoc text a (take n b) ∙ sym (ap (λ (t : List ℕ). text ++ t) (take-append-add a b n))) held,
      )

-- where the name holds a text, and a change of what it holds makes it hold another
pub then_holds : (before now next : Option Map) (name text after : List ℕ) → NowHolds before now name text
    → IfTold now (λ m. m name ≡ Some text → NowHolds now next name after) → NowHolds before next name after
then_holds None now next name text after held change = tt
then_holds (Some m) now next name text after (n, is, holds) change =
    let P : Option Map → Type 0 = λ o. IfTold o (λ m. m name ≡ Some text → NowHolds o next name after) in
    let then : (k : Map) × (next ≡ Some k) × Holds n k name after = subst P is change holds.held in
    (then.0, then.1, holds_again m n then.0 name text after holds then.2)

pub then_front : (before now next : Option Map) (name text piece : List ℕ) → NowHolds before now name text
    → IfTold now (λ m. m name ≡ Some text → FrontHeld now next name text piece) → FrontHeld before next name text piece
then_front None now next name text piece held change = (0, omega arith, tt)
then_front (Some m) now next name text piece (n, is, holds) change =
    let P : Option Map → Type 0 = λ o. IfTold o (λ m. m name ≡ Some text → FrontHeld o next name text piece) in
    let then : FrontHeld (Some n) next name text piece = subst P is change holds.held in
    (then.0, then.1, then_holds (Some m) (Some n) next name text (text ++ take then.0 piece) (n, refl, holds) (λ e. then.2))
