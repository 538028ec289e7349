use Rattle.std.proofs.Common.{◌≡◌, ◌≤◌, ◌++◌, length, map, drop}
use Rattle.method.specs.Machine.{Run}
use Rattle.machine_turns.specs.Frames.{ahead}
use Rattle.machine_turns.proofs.code.push_body.Given as goal

abbrev pub invariant-loop-i : goal.invariant-loop-i
invariant-loop-i l = record {
  within : l.i ≤ length l.body;
  so_far : ahead l.code.items ≡ map Run (drop l.i l.body) ++ ahead l.initial.code.items;
}

abbrev pub decreases-loop-i : goal.decreases-loop-i
decreases-loop-i l = l.i
