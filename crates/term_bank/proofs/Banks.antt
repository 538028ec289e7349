-- A bank is a graph of few nodes, and the laws of numbers are those of a graph.
use Rattle.std.proofs.Common.{◌≡◌, ℕ, ◌<◌, ◌≤◌, ◌↔◌, List, length, take}
use Rattle.terms.specs.declared.term.Term.{Term}
use Rattle.terms.specs.Formula.{Formula, Stands, Numbered}
use Rattle.term_graph.specs.Graph.{IsGraph}
use Rattle.term_graph.proofs.Trees as trees
use Rattle.term_bank.specs.Bank.{IsBank}

pub graph_of : (ts : List Term) → IsBank ts → IsGraph ts
graph_of ts b = record { downward = b.downward; distinct = b.distinct }

pub bank_of : (ts : List Term) → IsGraph ts → length ts ≤ 1_048_576 → IsBank ts
bank_of ts g l = record { few = l; downward = g.downward; distinct = g.distinct }

pub equal : (ts : List Term) (i j : ℕ) (f : Formula) → IsBank ts → Stands ts i f → Stands ts j f → i ≡ j
equal ts i j f b = trees.equal ts i j f (graph_of ts b)

pub below : (ts : List Term) (mark id : ℕ) (f : Formula) → IsBank ts → id < mark → Stands ts id f ↔ Stands (take mark ts) id f
below ts mark id f b = trees.below ts mark id f (graph_of ts b)

pub numbered : (f : Formula) (old new : List Term) (id : ℕ) → IsBank old → Numbered f old new id → length new ≤ 1_048_576 → Stands new id f × IsBank new
numbered f old new id b h l = let p = trees.numbered f old new id (graph_of old b) h in (p.0, bank_of new p.1 l)

pub numbered_same : (f : Formula) (old new other : List Term) (id also : ℕ) → IsBank new → Numbered f old new id → Numbered f old other also → (new ≡ other) × (id ≡ also)
numbered_same f old new other id also b = trees.numbered_same f old new other id also (graph_of new b)
