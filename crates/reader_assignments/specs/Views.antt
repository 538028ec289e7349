-- What the values that are read stand for.
use Rattle.std.specs.Prelude.{Option, None}
use Rattle.std.specs.Option.{option_map}
use Rattle.std.proofs.Common.{Vec}
use Rattle.std.specs.declared.alloc.Global.{Global}
use Rattle.c_syntax.specs.declared.token.Span.{Span}
use Rattle.c_syntax.specs.declared.tree.Interlocked.{Interlocked}
use Rattle.c_syntax.specs.declared.expressions.Expr.{Expr}
use Rattle.c_syntax.specs.declared.expressions.InterlockedCall.{InterlockedCall}
use Rattle.c_syntax.specs.declared.expressions.Compared.{Compared}
use Rattle.c_syntax.specs.Grammar as g
use Rattle.c_syntax.specs.Expressions as e
use Rattle.c_syntax.specs.Expressions.{Id, Exp, CallTree, Inter, Comparison, Assignment}
use Rattle.c_syntax.specs.Views.{id, exp, exps, rhs, effect, inter, comparison}
use Rattle.c_syntax.specs.declared.expressions.Identifier.{Identifier}
use Rattle.reader_assignments.specs.declared.assignments.Following.{Following}
use Rattle.reader_assignments.specs.declared.begins.Begun.{Begun}
use Rattle.reader_assignments.specs.declared.begins.Begun.TheVariants as b
use Rattle.reader_assignments.specs.declared.rights.Pending.{Pending}
use Rattle.reader_assignments.specs.declared.rights.Pending.TheVariants as p
use Rattle.reader_assignments.specs.declared.calls.Arguments.{Arguments}

-- arguments, as what they make of a function's name
abbrev pub call : Arguments → Id → CallTree
call x f = record { function = f; arguments = exps x.plain.items; ghost_arguments = exps x.ghosts.items }

-- an Interlocked call's arguments, as what they make of its word
abbrev pub locked_arguments : Expr × Vec Expr Global → Span × Interlocked → Inter × Option Comparison
locked_arguments x w = (record { place = w.0; function = w.1; field = exp x.0; arguments = exps x.1.items }, None)

-- an Interlocked call that is compared with nothing
abbrev pub uncompared : InterlockedCall → Inter × Option Comparison
uncompared x = (inter x, None)

-- an Interlocked call, with what it may be compared with
abbrev pub locked : InterlockedCall × Option Compared → Inter × Option Comparison
locked x = (inter x.0, option_map comparison x.1)

-- what a right side begins with
abbrev pub cast : Identifier → g.Begun
cast x = g.Cast (id x)

abbrev pub begun : Begun → g.Begun
begun (b.Plain x) = g.Plain (exp x)
begun (b.Cast x) = g.Cast (id x)

-- a `malloc`, as what it makes of the cast in front
abbrev pub malloc_tail : Span × Identifier → g.Begun → g.Pending
malloc_tail x y = g.Done (e.Malloc (g.cast_name y) x.0 (id x.1))

-- a right side that is done, or that may turn out to be a call
abbrev pub pending : Pending → g.Pending
pending (p.Done x) = g.Done (rhs x)
pending (p.Open x) = g.Open (exp x)

-- what stands behind a left side, as what it makes of that side
abbrev pub following : Following → Exp → Assignment
following x l = record { left = l; place = x.span; effect = effect x.change }
