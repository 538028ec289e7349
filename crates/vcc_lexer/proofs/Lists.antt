-- Lists and options.
use Rattle.std.proofs.Common.{Some, None, Option}
use Rattle.std.specs.Prelude.{MatchOption}

pub where_none : {A : Type 0} (F : A → Type 0) {P Q : Type 0} (r : Option A) → (P → Q) → MatchOption r P F → MatchOption r Q F
where_none F None more h = more h
where_none F (Some x) more h = h
