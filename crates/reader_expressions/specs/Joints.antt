-- Quantifiers right of `\in`: what joins the parts of their bodies.
use Rattle.c_syntax.specs.declared.tree.Quantifier.{Quantifier}
use Rattle.c_syntax.specs.Expressions.{Exp}
use Rattle.c_syntax.specs.Grammar as g
use Rattle.c_syntax.specs.Grammar.{P, R}
use Rattle.reader_expressions.specs.declared.joints.Joint.{Joint}
use Rattle.reader_expressions.specs.declared.joints.Joint.TheVariants as j
use Rattle.reader_expressions.specs.Forms.{quantifier_class}

-- a joint with what stands right of it
abbrev pub following : Joint → P (Exp → Exp)
following j.In = g.in_set
following j.And = g.and_membership
following j.Implies = g.implies_body

abbrev pub quantified : Quantifier → R Exp
quantified q = g.set_quantified (quantifier_class q) q
