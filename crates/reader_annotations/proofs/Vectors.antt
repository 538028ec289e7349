-- What lies in vectors.
use Rattle.std.proofs.Common.{◌≡◌, ℕ, List, [], ◌∷◌, refl, ap, ◌∙◌, Vec, map}
use Rattle.std.specs.declared.alloc.Global.{Global}
use mathlib.Core.Former.{Count}
use Rattle.c_syntax.specs.declared.token.Span.{Span}
use Rattle.c_syntax.specs.declared.ghosts.GhostStmt as x
use Rattle.c_syntax.specs.Ghosts as h
use Rattle.c_syntax.specs.Views.{ghost, ghost_row}
use Rattle.c_syntax.specs.Grammar.{ghosts_of}

row_items : (n : _) (all : x.Row_of-GhostStmt n) → ghost_row all ≡ ghosts_of (map ghost (x.items-the_row-GhostStmt n all))
row_items n x.end_of-GhostStmt = refl
row_items n (x.more_of-GhostStmt a rest) = ap (h.More (ghost a)) (row_items _ rest)

abbrev block_row : x.GhostStmt → (n : Count) × x.Row_of-GhostStmt n
block_row (x.Block' o n all) = (_, all)
block_row _ = (_, x.end_of-GhostStmt)

pub block : (span : Span) (all : Vec x.GhostStmt Global) → ghost (x.Block span all) ≡ h.Block span (ghosts_of (map ghost all.items))
block span all = let r = block_row (x.Block span all) in ap (h.Block span) (row_items r.0 r.1 ∙ ap (λ (es : List x.GhostStmt). ghosts_of (map ghost es)) (x.items_hidden-the_row-GhostStmt-0 all))
