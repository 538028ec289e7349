-- Which checks stand alone on the path of code: their conditions say nothing of the way there. Own. A claim site has one such check, that what it claims is stable, and no other check is such.
use Rattle.std.specs.Prelude.{ℕ, suc, ◌+◌, ◌==◌, Bool, false, ◌||◌}
use Rattle.conditions.specs.Paths.{Path, Done, Check, Fact, Branch, Standalone, checks}

-- the check with this number stands alone; the path's first check has number n
abbrev pub stands_alone : ℕ → ℕ → Path → Bool
stands_alone label n Done = false
stands_alone label n (Check f q) = stands_alone label (suc n) q
stands_alone label n (Fact f q) = stands_alone label n q
stands_alone label n (Branch b q) = stands_alone label n b || stands_alone label (n + checks b) q
stands_alone label n (Standalone f q) = (n == label) || stands_alone label (suc n) q
