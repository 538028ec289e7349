-- What stands right of an operator, and what a quantifier's body is.
use Rattle.std.specs.Prelude.{ℕ, List}
use Rattle.ebnf.specs.Rules.{nothing, below as below', form}
use Rattle.ebnf.specs.Reading.{Out, reads}
use Rattle.c_syntax.specs.declared.tree.BinaryOperator.{BinaryOperator}
use Rattle.c_syntax.specs.declared.tree.BinaryOperator.TheVariants as op
use Rattle.c_syntax.specs.declared.tree.Quantifier.{Quantifier}
use Rattle.c_syntax.specs.declared.token.Sign.TheVariants as s
use Rattle.c_syntax.specs.Classes.{sign}
use Rattle.c_syntax.specs.Lexing.{Lexeme}
use Rattle.c_syntax.specs.Language.{language}
use Rattle.c_syntax.specs.Expressions as e
use Rattle.c_syntax.specs.Expressions.{Exp}
use Rattle.c_syntax.specs.Grammar as g
use Rattle.c_syntax.specs.Grammar.{P, R, ◌▷◌, word}
use Rattle.reader_expressions.specs.declared.joints.Joint.{Joint}
use Rattle.reader_expressions.specs.declared.joints.Joint.TheVariants as j
use Rattle.reader_expressions.specs.declared.operands.Operand.{Operand}
use Rattle.reader_expressions.specs.declared.operands.Operand.TheVariants as o
use Rattle.reader_expressions.specs.Forms.{quantifier_class}
use Rattle.reader_expressions.specs.Levels.{class_of, level}

-- an operand, as a part of a row
abbrev pub at : Operand → P Exp
at (o.Level m t) = below' (level m t) (λ x. x)
at o.OwnedSet = below' g.OwnedSet (λ x. x)
at o.Membership = below' g.Membership (λ x. x)
at o.SetBody = below' g.SetBody (λ x. x)

-- what is read of an operand, with room for so much height
abbrev pub outcome : ℕ → Operand → List Lexeme → Out language Exp
outcome room (o.Level m t) ts = reads language room (level m t) ts
outcome room o.OwnedSet ts = reads language room g.OwnedSet ts
outcome room o.Membership ts = reads language room g.Membership ts
outcome room o.SetBody ts = reads language room g.SetBody ts

-- an operator with what stands right of it
abbrev pub operation : BinaryOperator → Operand → P (Exp → Exp)
operation f x = word (class_of f) ▷ at x ▷ nothing (λ r p l. e.Binary p f l r)

-- a joint's operator, and what stands right of it
abbrev pub of_joint : Joint → BinaryOperator × Operand
of_joint j.In = (op.In, o.OwnedSet)
of_joint j.And = (op.And, o.Membership)
of_joint j.Implies = (op.Implies, o.SetBody)

-- a quantifier with such a body
abbrev pub quantified : Quantifier → Operand → R Exp
quantified q x = form (word (quantifier_class q) ▷ g.gtype ▷ g.name ▷ word (sign s.Semicolon) ▷ at x ▷ nothing (λ y m n ty p. e.Quantified p q ty.1 n y))
