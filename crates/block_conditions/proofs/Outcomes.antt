-- An action ends in one way.
use Rattle.std.proofs.Common.{◌≡◌, ℕ}
use Rattle.method.specs.declared.program.CheckKind.{CheckKind}
use Rattle.method.specs.Expressions.{End, Failed, Gave}

pub failed_number : {A : Type 0} (n label : ℕ) (kind kind' : CheckKind) (line line' : ℕ) (x : End A) → x ≡ Failed n kind line → x ≡ Failed label kind' line' → n ≡ label
failed_number n label kind kind' line line' x a b = cc

pub gave_not_failed : {A : Type 0} (x : End A) (a : A) (n : ℕ) (kind : CheckKind) (line : ℕ) → x ≡ Gave a → x ≡ Failed n kind line → ⊥
gave_not_failed x a n kind line e f = cc
