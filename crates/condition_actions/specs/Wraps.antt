-- The set that a wrap makes the object's own. Own.
use Rattle.std.specs.Prelude.{ℕ, if◌then◌else◌}
use Rattle.method.specs.declared.program.Program.{Program}
use Rattle.method.specs.Tables.{has_fixed_owns, struct_of}
use Rattle.terms.specs.Formula.{Formula}
use Rattle.conditions.specs.Code.{Spot}
use Rattle.conditions.specs.Actions.{set_members, mine_of}

-- the heap with that set: of a type with a fixed set, what its invariants name
abbrev pub owning_heap : Program → Spot → ℕ → Formula → Formula → Formula
owning_heap p b ty o h = if has_fixed_owns p ty then set_members o (mine_of p b h o (struct_of p ty)) h else h
