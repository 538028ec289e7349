-- The facts that steps of a path leave, in code: those of no way that is gone. Own: a way stands between its two marks, so a step's place is known by how many ways are open there.
use Rattle.std.specs.Prelude.{ℕ, zero, suc, List, [], ◌∷◌, ◌++◌}
use Rattle.condition_code.specs.declared.walk.Step.{Step}
use Rattle.condition_code.specs.declared.walk.Step.TheVariants.{Check, Fact, Standalone, Enter, Leave}

-- in how many ways the next step stands, where this one stands in so many
abbrev pub depth_behind : ℕ → Step → ℕ
depth_behind d (Check id) = d
depth_behind d (Fact id) = d
depth_behind d (Standalone id) = d
depth_behind d Enter = suc d
depth_behind zero Leave = zero
depth_behind (suc d) Leave = d

-- what is known behind a step besides
abbrev pub fact_of : Step → List ℕ
fact_of (Check id) = id ∷ []
fact_of (Fact id) = id ∷ []
fact_of (Standalone id) = []
fact_of Enter = []
fact_of Leave = []

-- the same, and nothing in a way that is gone
abbrev pub fact_at : ℕ → Step → List ℕ
fact_at zero c = fact_of c
fact_at (suc d) c = []

-- the facts that these steps leave, where the first stands in so many ways
abbrev pub facts_left : ℕ → List Step → List ℕ
facts_left d [] = []
facts_left d (c ∷ cs) = fact_at d c ++ facts_left (depth_behind d c) cs
