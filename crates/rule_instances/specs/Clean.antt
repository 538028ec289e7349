-- The way down a clean heap term, by the numbers of nodes. Own.
use Rattle.std.specs.Prelude.{◌≡◌, ℕ, Bool, true, false, List}
use Rattle.method.specs.declared.program.Program.{Program}
use Rattle.terms.specs.declared.term.Kind.{Kind}
use Rattle.terms.specs.declared.term.Kind.TheVariants as k
use Rattle.terms.specs.declared.term.Term.{Term}
use Rattle.terms.specs.Formula.{Formula}
use Rattle.axiom_instances.specs.Terms.{kind_of, is_clean}
use Rattle.condition_formulas.specs.Standing.{StandsAs}

-- the kind of constants for heaps
abbrev pub is_heap_constant : Kind → Bool
is_heap_constant k.Ch = true
is_heap_constant _ = false

-- the node is a heap that is clean just where f is
pub record IsBefore (p : Program) (ts : List Term) (f : Formula) (id : ℕ) : Type 0 where
  pub heap : Formula
  pub stands : StandsAs ts id heap
  pub same : is_clean p f ≡ is_clean p heap

-- f is clean just where it is a constant
abbrev pub IsOrigin : Program → Formula → Type 0
IsOrigin p f = is_clean p f ≡ is_heap_constant (kind_of f)

-- the way down from f has come to a heap that is clean just where f is
pub record IsDown (p : Program) (ts : List Term) (id now : ℕ) : Type 0 where
  pub goes : (f : Formula) → StandsAs ts id f → IsBefore p ts f now
