use Rattle.std.proofs.Common.{◌≡◌, length}
use Rattle.term_meaning.specs.Meaning.{Language}
use Rattle.term_sorts.specs.Sorting.{HasColumns, HaveSorts}
use Rattle.term_sorts.proofs.table.SortTable.extend.Given as goal

abbrev pub invariant-loop-id : goal.invariant-loop-id
invariant-loop-id l = record {
  long : length l.self-inside.sorts.items ≡ l.id;
  first : (m : Language) → HasColumns l.columns m → HaveSorts m l.graph l.fn.self → HaveSorts m l.graph l.self-inside.sorts.items;
}
