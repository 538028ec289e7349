use Rattle.std.proofs.Common.{sym, ◌∙◌}
use Rattle.object_types.specs.Lookups.{heap_of}
use Rattle.ownership.proofs.Adding.{adds_nothing, adds_same}
use Rattle.ownership.proofs.Roots.{one_root, no_root}
use Rattle.ownership.proofs.search.Search.add_root.Goals as goal

pub returns-then-not-wrapped : goal.returns-then-not-wrapped
returns-then-not-wrapped c = record { ok = adds_nothing _ _ (no_root (heap_of c.args.h.now) c.args.t c.args.o (sym c.wrapped.ensures ∙ c.if-not-wrapped.true)) }

pub returns : goal.returns
returns c = record { ok = adds_same _ _ _ _ c.in_ok-add.ensures.ok (λ q. one_root (heap_of c.args.h.now) c.args.t c.args.o q (sym c.wrapped.ensures ∙ c.if-not-wrapped.false)) }
