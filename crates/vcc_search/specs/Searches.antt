-- What a search comes to on the conditions of a program. Own.
use Rattle.std.specs.Prelude.{◌≡◌, ◌≤◌, List, [], ◌∷◌, Bool, true, false, ◌&&◌, Option, Some, None}
use Rattle.method.specs.declared.program.Item.{Item}
use Rattle.method.specs.declared.program.Program.{Program}
use Rattle.terms.specs.Formula.{Formula}
use Rattle.term_meaning.specs.Meaning.{Language}
use Rattle.conditions.specs.Conditions.{item_conditions}
use Rattle.condition_meaning.specs.Languages.{language_of}
use Rattle.cert_format.specs.Derivations.{Derivation}
use Rattle.cert_format.specs.Text.{IsDerivation, literals_of}
use Rattle.cert_format.specs.declared.certificate.Owner.TheVariants.{OfCondition}
use Rattle.refutation_check.specs.Follows.{Follows}

-- what it comes to on a condition: a block, or nothing
abbrev pub Finding : Type 0
Finding = Option Derivation

-- the condition follows by the block, without lemmas; it can stand in a certificate of version 1
abbrev pub Finds : Language → Formula → Finding → Type 0
Finds l f None = Unit {0}
Finds l f (Some block) = Follows l [] f block × IsDerivation (OfCondition 1) block

-- a finding for each condition, in order
abbrev pub AllFind : Language → List Formula → List Finding → Type 0
AllFind l [] [] = Unit {0}
AllFind l [] (o ∷ os) = ⊥
AllFind l (f ∷ fs) [] = ⊥
AllFind l (f ∷ fs) (o ∷ os) = Finds l f o × AllFind l fs os

-- those of each item, in the order of the text
abbrev pub ItemsFind : Program → List Item → List (List Finding) → Type 0
ItemsFind p [] [] = Unit {0}
ItemsFind p [] (g ∷ gs) = ⊥
ItemsFind p (i ∷ is) [] = ⊥
ItemsFind p (i ∷ is) (g ∷ gs) = AllFind (language_of p) (item_conditions p i) g × ItemsFind p is gs

-- a block was found for each condition
abbrev pub all_have_blocks : List Finding → Bool
all_have_blocks [] = true
all_have_blocks (None ∷ os) = false
all_have_blocks (Some block ∷ os) = all_have_blocks os

abbrev pub each_has_blocks : List (List Finding) → Bool
each_has_blocks [] = true
each_has_blocks (g ∷ gs) = all_have_blocks g && each_has_blocks gs

-- the block, where it can stand in a certificate
abbrev pub IsWritable : Derivation → Finding → Type 0
IsWritable block None = Unit {0}
IsWritable block (Some same) = (same ≡ block) × IsDerivation (OfCondition 1) same

-- the block, where there is one, has no more literals than it may
abbrev pub HasFewLiterals : Finding → Type 0
HasFewLiterals None = Unit {0}
HasFewLiterals (Some block) = literals_of block.steps ≤ 4194304
