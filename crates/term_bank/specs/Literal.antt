-- A term that is a number.
use Rattle.std.specs.Prelude.{ℕ, ℤ, List}
use Rattle.terms.specs.declared.term.Term.{Term}
use Rattle.terms.specs.declared.term.Kind.TheVariants as k
use Rattle.terms.specs.Formula.{Stands, leaf}

-- the term with this number is the number n
pub record IsNumber (terms : List Term) (id : ℕ) (n : ℤ) : Type 0 where
  pub stands : Stands terms id (leaf k.Int n)
