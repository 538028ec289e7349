-- Validity of the condition of one check. Own.
use Rattle.std.specs.Prelude.{◌≡◌, ℕ, suc, List, [], ◌∷◌, slice_get}
use Rattle.method.specs.declared.program.Program.{Program}
use Rattle.terms.specs.Formula.{Formula}
use Rattle.term_meaning.specs.Meaning.{Language, IsValid}
use Rattle.conditions.specs.Conditions.{function_conditions}
use Rattle.condition_meaning.specs.Languages.{language_of}

-- of these conditions, numbered from n on, the one with this number is valid
abbrev pub ValidAt : Language → ℕ → ℕ → List Formula → Type 0
ValidAt l label n [] = Unit {0}
ValidAt l label n (f ∷ fs) = ((n ≡ label) → IsValid l f) × ValidAt l label (suc n) fs

-- the condition of the check with this number is valid: checks are numbered along the text of a function, from 1 on
abbrev pub CheckIsValid : Program → ℕ → ℕ → Type 0
CheckIsValid p number label = ValidAt (language_of p) label 1 (function_conditions p (slice_get p.functions.items number))
