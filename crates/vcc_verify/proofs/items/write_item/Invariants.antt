use Rattle.std.proofs.Common.{◌≡◌, ◌≤◌, ℕ, List, Option}
use Rattle.conditions.specs.Conditions.{item_conditions}
use Rattle.condition_meaning.specs.Languages.{language_of}
use Rattle.vcc_base.specs.Maps.{Map}
use Rattle.vcc_verify.specs.Writing.{Stands}
use Rattle.vcc_verify.specs.Runs.{at_start}
use Rattle.vcc_verify.proofs.Turns.{Running}
use Rattle.vcc_verify.proofs.items.write_item.Given as goal

abbrev pub invariant-loop-label : goal.invariant-loop-label
invariant-loop-label g l = record {
  running : (before : Option Map) (text : List ℕ) → Stands before (g.S.Store.contents l.initial.store) l.cert text l.fn.written →
      Running (language_of l.theory.program.now) (item_conditions l.theory.program.now l.fn.item) l.labels (at_start l.fn.written) before l.cert text l.conditions l.end (g.S.Store.contents l.store) l.label-index;
  count : l.end.conditions ≡ l.label-index;
  room : l.end.written ≤ 67108860;
  never_falls : g.S.Store.write_faults l.initial.store ≤ g.S.Store.write_faults l.store;
  reads_stay : g.S.Store.read_faults l.store ≡ g.S.Store.read_faults l.initial.store;
}
