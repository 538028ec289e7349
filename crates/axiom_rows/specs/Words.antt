-- The words in which instances are written down here, and how one is named. Own.
use Rattle.std.specs.Prelude.{◌≡◌, ℕ, ◌+◌, List, [], ◌∷◌, Option, Some, None}
use Rattle.terms.specs.declared.term.Kind.TheVariants as k
use Rattle.terms.specs.Formula.{Formula}
use Rattle.conditions.specs.Formulas.{node, nat, eq, typ, get}
use Rattle.term_meaning.specs.Meaning.{Language}
use Rattle.axiom_instances.specs.Axioms.{instance}
use Rattle.axiom_instances.specs.Rows.{bank}

-- an axiom, one of its parts, and the numbers of an instance: of terms, columns, types and quantified formulas
pub record InstanceName : Type 0 where
  pub axiom_number : ℕ
  pub part : ℕ
  pub numbers : List ℕ

abbrev pub instance_name : ℕ → ℕ → List ℕ → InstanceName
instance_name n part numbers = record { axiom_number = n; part = part; numbers = numbers }

-- what it is over the terms of the worked rows (Rows of axiom_instances): 0 to 2 heaps, 3 to 5 references, 6 and 7 integers, 8 NULL, 9 `\me`, 12 `open h0 r0 r1`, 13 `close h0 r0 r1`, 18 a heap of stores, 19 a term without a sort
abbrev pub formula_of : Language → InstanceName → Option Formula
formula_of l i = instance l bank i.axiom_number i.part i.numbers

-- the named instance is this formula
abbrev pub Makes : Language → ℕ → ℕ → List ℕ → Formula → Type 0
Makes l n part numbers f = formula_of l (instance_name n part numbers) ≡ Some f

-- there is none
abbrev pub MakesNone : Language → ℕ → ℕ → List ℕ → Type 0
MakesNone l n part numbers = formula_of l (instance_name n part numbers) ≡ None

-- Columns and atoms.
abbrev pub mode : Formula → Formula → Formula
mode h o = get 0 h (o ∷ [])

abbrev pub owner : Formula → Formula → Formula
owner h o = get 1 h (o ∷ [])

abbrev pub count : Formula → Formula → Formula
count h o = get 2 h (o ∷ [])

abbrev pub membership : Formula → Formula → Formula → Formula
membership h o q = get 3 h (o ∷ q ∷ [])

abbrev pub listing : Formula → Formula → Formula → Formula
listing h c q = get 4 h (c ∷ q ∷ [])

-- what field number f, counted from 0, has in h at o
abbrev pub field : ℕ → Formula → Formula → Formula
field f h o = get (5 + f) h (o ∷ [])

abbrev pub closed : Formula → Formula → Formula
closed h o = eq (mode h o) (nat 2)

abbrev pub is_one : Formula → Formula
is_one x = eq x (nat 1)

abbrev pub of_type : ℕ → Formula → Formula
of_type ty o = eq (typ o) (nat ty)

abbrev pub sys : Formula → Formula
sys h = node k.Sys (h ∷ [])

abbrev pub good : Formula → Formula
good h = node k.Good (h ∷ [])

abbrev pub inv : Formula → Formula → Formula → Formula
inv o h h' = node k.Inv (o ∷ h ∷ h' ∷ [])

-- what t can count on in h, where e is the heap at entry and w the writes list
abbrev pub stab : Formula → Formula → Formula → Formula → List Formula → Formula
stab t h o e w = node k.Stab (t ∷ h ∷ o ∷ e ∷ w)
