-- What the code compares for `conn` of a choice.
use Rattle.std.specs.Prelude.{◌≡◌, ℤ, pos, ◌⊎◌, List, [], ◌∷◌}
use Rattle.terms.specs.declared.term.Literal.{Literal}
use Rattle.vcc_rules.specs.declared.equality.Equality.{Equality}
use Rattle.vcc_rules.specs.declared.propositional.Choice.{Choice}
use Rattle.vcc_rules.specs.Rows.{yes, no}

-- the equality is that of the choice and the branch with this number, from 1, and the clause says when it holds
abbrev pub IsBranch : ℤ → Choice → Equality → List Literal → Type 0
IsBranch part c e clause =
    (e.left ≡ c.term)
    × (((part ≡ pos 1) × (e.right ≡ c.first) × (clause ≡ no c.test ∷ yes e.term ∷ []))
    ⊎ ((part ≡ pos 2) × (e.right ≡ c.second) × (clause ≡ yes c.test ∷ yes e.term ∷ [])))
