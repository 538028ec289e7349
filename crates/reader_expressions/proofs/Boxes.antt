-- A left operand that is held in a box, and what stands right of an operator.
use Rattle.std.proofs.Common.{◌≡◌, ℕ, List, Ok, Err, refl, ap, sym, ◌∙◌}
use Rattle.ebnf.specs.Reading.{TooDeep, on, read}
use Rattle.c_syntax.specs.declared.tree.BinaryOperator.{BinaryOperator}
use Rattle.c_syntax.specs.Lexing.{Lexeme}
use Rattle.c_syntax.specs.Expressions.{Exp}
use Rattle.c_syntax.specs.Grammar as g
use Rattle.c_syntax.specs.Grammar.{P}
use Rattle.c_syntax.specs.Language.{language}
use Rattle.reader_expressions.specs.declared.operands.Operand.{Operand}
use Rattle.reader_expressions.specs.declared.operands.Operand.TheVariants as operands
use Rattle.reader_expressions.specs.declared.joints.Joint.{Joint}
use Rattle.reader_expressions.specs.declared.joints.Joint.TheVariants as j
use Rattle.reader_expressions.specs.Joints.{following}
use Rattle.reader_expressions.specs.Operands.{at, outcome, operation, of_joint}
use Rattle.reader_expressions.specs.Reading.{part}
use Rattle.reader_expressions.proofs.Primaries.{reads_none}
use Rattle.reader_expressions.specs.Levels.{class_of, operator, right, binary, joined, level}

-- the box has what was put into it
pub held : (p : P (Exp → Exp)) (room k : ℕ) (ts : List Lexeme) {l m : Exp} → m ≡ l → joined l k (part room p ts) ≡ joined m k (part room p ts)
held p room k ts e = ap (λ x. joined x k (part room p ts)) (sym e)

-- the level of an operator's right operand is known by an equation
pub right_of : (m : g.Mode) (o : BinaryOperator) (room : ℕ) (l : Exp) (k : ℕ) (ts : List Lexeme) {t : g.Tier} → t ≡ right o → joined l k (part room (binary m o) ts) ≡ joined l k (part room (operator m (class_of o) o t) ts)
right_of m o room l k ts e = ap (λ t. joined l k (part room (operator m (class_of o) o t) ts)) (sym e)

behind_is : (x : Joint) (room : ℕ) (l : Exp) (k : ℕ) (ts : List Lexeme) → joined l k (part room (following x) ts) ≡ joined l k (part room (operation (of_joint x).0 (of_joint x).1) ts)
behind_is j.In room l k ts = refl
behind_is j.And room l k ts = refl
behind_is j.Implies room l k ts = refl

-- a joint's operator and operand are known by an equation
pub joint_of : (x : Joint) (room : ℕ) (l : Exp) (k : ℕ) (ts : List Lexeme) {q : BinaryOperator × Operand} → q ≡ of_joint x → joined l k (part room (following x) ts) ≡ joined l k (part room (operation q.0 q.1) ts)
joint_of x room l k ts e = behind_is x room l k ts ∙ ap (λ q. joined l k (part room (operation q.0 q.1) ts)) (sym e)

-- what is read of an operand, as a part of a row
pub at_is : (x : Operand) (room : ℕ) (ts : List Lexeme) → part room (at x) ts ≡ on language (outcome room x ts) (λ b i rest. Ok (b, i, rest))
unfolding read
at_is (operands.Level m t) room ts = refl
at_is operands.OwnedSet room ts = refl
at_is operands.Membership room ts = refl
at_is operands.SetBody room ts = refl

pub placed : (x : Operand) (room k : ℕ) (ts rest : List Lexeme) {l m : Exp} → m ≡ l → outcome room x ts ≡ Ok (l, k, rest) → part room (at x) ts ≡ Ok (m, k, rest)
placed x room k ts rest e q = at_is x room ts ∙ ap (λ o. on language o (λ b i rest. Ok (b, i, rest))) q ∙ ap (λ b. Ok (b, k, rest)) (sym e)

-- where there is no room
pub none_read : (x : Operand) (room : ℕ) (ts : List Lexeme) → room ≡ 0 → outcome room x ts ≡ Err (TooDeep, ts)
none_read (operands.Level m t) room ts e = reads_none room (level m t) ts e
none_read operands.OwnedSet room ts e = reads_none room g.OwnedSet ts e
none_read operands.Membership room ts e = reads_none room g.Membership ts e
none_read operands.SetBody room ts e = reads_none room g.SetBody ts e
