-- A tree with a sort has arguments with sorts.
use Rattle.std.proofs.Common.{◌≡◌, ℤ, List, ◌∷◌, Option, Some, None, option_and_then, refl}
use Rattle.terms.specs.declared.term.Kind.{Kind}
use Rattle.terms.specs.declared.sort.Sort.{Sort}
use Rattle.terms.specs.Sorts.{sort_in as sort_of}
use Rattle.terms.specs.Formula.{Formula, Formulas, Node, Stop, With}
use Rattle.term_meaning.specs.Columns.{column_sorts}
use Rattle.term_meaning.specs.Meaning.{Language, sort_in, sorts_in, quantified_sorts}
use Rattle.axiom_parameters.specs.Laws.{IsSorted}

-- what a partial function gave it gave of what is there
pub there : {X Y : Type 0} (f : X → Option Y) (o : Option X) (y : Y) → option_and_then f o ≡ Some y → (x : X) × (o ≡ Some x) × (f x ≡ Some y)
there f None y h = absurd (cc)
there f (Some x) y h = (x, refl, h)

-- each of several trees has a sort
abbrev pub AreSorted : Language → Formulas → Type 0
AreSorted l Stop = Unit {0}
AreSorted l (With f fs) = IsSorted l f × AreSorted l fs

pub sorts_each : (l : Language) (fs : Formulas) (ss : List Sort) → sorts_in l fs ≡ Some ss → AreSorted l fs
sorts_each l Stop ss h = tt
sorts_each l (With f fs) ss h =
    let (a, first, rest) = there (λ a. option_and_then (λ as'. Some (a ∷ as')) (sorts_in l fs)) (sort_in l f) ss h in
    let (as', others, _) = there (λ as'. Some (a ∷ as')) (sorts_in l fs) ss rest in
    ((a, first), sorts_each l fs as' others)

pub arguments_sorted : (l : Language) (kind : Kind) (n : ℤ) (fs : Formulas) → IsSorted l (Node kind n fs) → AreSorted l fs
arguments_sorted l kind n fs (s, h) =
    let (ss, each, _) = there (λ args. sort_of kind n args (column_sorts l.program) (quantified_sorts l)) (sorts_in l fs) s h in
    sorts_each l fs ss each
