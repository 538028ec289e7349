-- What the values that are read stand for.
use Rattle.std.proofs.Common.{Vec}
use Rattle.std.specs.declared.alloc.Global.{Global}
use Rattle.c_syntax.specs.declared.expressions.Expr.{Expr}
use Rattle.c_syntax.specs.declared.ghosts.OwnsChange.{OwnsChange}
use Rattle.c_syntax.specs.declared.ghosts.GhostRight.{GhostRight}
use Rattle.c_syntax.specs.declared.ghosts.GhostStmt.{GhostStmt}
use Rattle.c_syntax.specs.declared.token.Span.{Span}
use Rattle.c_syntax.specs.Expressions as e
use Rattle.c_syntax.specs.Expressions.{Exp}
use Rattle.c_syntax.specs.Ghosts as h
use Rattle.c_syntax.specs.Ghosts.{GStm}
use Rattle.c_syntax.specs.Statements as st
use Rattle.c_syntax.specs.Statements.{Inv, Stm}
use Rattle.c_syntax.specs.Grammar as g
use Rattle.c_syntax.specs.Views.{id, exp, exps, owns, ghost_rhs, ghost}
use Rattle.reader_annotations.specs.declared.simple.Wrapping.{Wrapping}
use Rattle.reader_annotations.specs.declared.simple.Wrapping.TheVariants as v
use Rattle.reader_annotations.specs.declared.ghost_places.Suffix.{Suffix}
use Rattle.reader_annotations.specs.declared.ghost_places.Suffix.TheVariants as s

-- what stands behind an arrow, as what it makes of the arrow's place and what stands in front
abbrev pub suffix : Suffix → Span → Exp → Exp
suffix (s.Field x) = λ o l. e.Field o l (id x)
suffix (s.Owns p) = λ o l. e.Owns o l p

-- an arrow with what stands behind
abbrev pub arrow : Span × Suffix → Exp → Exp
arrow x = suffix x.1 x.0

-- what stands behind an owned set, as what it makes of that
abbrev pub owns_tail : Span × OwnsChange → Exp → GStm
owns_tail x l = h.Owns (g.first_place l) l x.0 (owns x.1)

abbrev pub set_tail : Span × GhostRight → Exp → GStm
set_tail x l = h.Assign (g.first_place l) l x.0 (ghost_rhs x.1)

-- claimed objects, as what they make of a claim and the places in front
abbrev pub destroyed : Vec Expr Global → Exp → Span → Span → GStm
destroyed v x o p = h.DestroyClaim p x (exps v.items)

-- an object that is wrapped or unwrapped, as what it makes of the place in front
abbrev pub wrapping : Wrapping → Span → GStm
wrapping (v.Wrap x) p = h.Wrap p (exp x)
wrapping (v.Unwrap x) p = h.Unwrap p (exp x)

-- what stands behind `_(`, as what it makes of the place of that sign
abbrev pub asserted : Expr → Span → Stm
asserted x p = st.Assert p (exp x)

abbrev pub ghostly : GhostStmt → Span → Stm
ghostly x p = st.Ghost p (ghost x)

abbrev pub wrapped : Expr → Span → Stm
wrapped x p = st.Wrap p (exp x)

abbrev pub unwrapped : Expr → Span → Stm
unwrapped x p = st.Unwrap p (exp x)

abbrev pub kept : Expr → Span → Inv
kept x p = record { place = p; property = exp x }
