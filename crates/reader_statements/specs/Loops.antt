-- What is read in front of the body of a loop.
use Rattle.std.specs.Prelude.{List, map}
use Rattle.std.proofs.Common.{Vec}
use Rattle.std.specs.declared.alloc.Global.{Global}
use Rattle.c_syntax.specs.declared.statements.Invariant.{Invariant}
use Rattle.c_syntax.specs.Statements.{Inv}
use Rattle.c_syntax.specs.Views.{invariant}

-- the invariants of a loop
abbrev pub invariants : Vec Invariant Global → List Inv
invariants all = map invariant all.items
