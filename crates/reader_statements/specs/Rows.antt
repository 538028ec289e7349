-- The statements' rows, one by one, as the reader goes through them.
use Rattle.std.specs.Prelude.{ℕ, suc, max, ◌-◌, Bool, false, ◌&&◌, ◌==◌, List, [], ◌∷◌, Ok}
use Rattle.ebnf.specs.Rules.{below, nothing, by_value, by_next, many, form, pick}
use Rattle.ebnf.specs.Derives.{next}
use Rattle.ebnf.specs.Reading.{Out, on, enter}
use Rattle.c_syntax.specs.declared.token.Span.{Span}
use Rattle.c_syntax.specs.declared.token.Keyword.TheVariants as k
use Rattle.c_syntax.specs.declared.token.Sign.TheVariants as s
use Rattle.c_syntax.specs.Classes.{key, sign}
use Rattle.c_syntax.specs.Language.{language}
use Rattle.c_syntax.specs.Expressions.{Exp, Assignment}
use Rattle.c_syntax.specs.Lexing.{Lexeme}
use Rattle.c_syntax.specs.Statements as st
use Rattle.c_syntax.specs.Statements.{Braces, Inv, Stm}
use Rattle.c_syntax.specs.Grammar as g
use Rattle.c_syntax.specs.Grammar.{P, R, ◌▷◌, word, name, inside, code, optional, ctype, stms_of, leaf, loop_body, first_value, else_part, if_of, is_name, call_statement, assign_statement, ghost_arguments, list_or_none, whole_spec}
use Rattle.reader_assignments.specs.declared.assignments.Following.{Following}
use Rattle.reader_assignments.specs.Views.{following}
use Rattle.reader_expressions.specs.Reading.{rule_at}
use Rattle.reader_statements.specs.declared.kinds.Kind.{Kind}
use Rattle.reader_statements.specs.declared.kinds.Kind.TheVariants as kinds
use Rattle.reader_statements.specs.declared.kinds.Annotation.{Annotation}
use Rattle.reader_statements.specs.declared.kinds.Annotation.TheVariants as forms

-- as many statements as there are
abbrev pub statements : P (List Stm)
statements = many (below g.Statement (λ x. x)) (λ xs. xs)

-- one of them
abbrev pub one_statement : P Stm
one_statement = below g.Statement (λ x. x)

-- statements in braces
abbrev pub braced : P Braces
braced = word (sign s.BraceOpen) ▷ statements ▷ word (sign s.BraceClose) ▷ nothing (λ c xs o. record { start = o; all = stms_of xs; end = c })

-- statements in braces, as a statement
abbrev pub as_block : Braces → Stm
as_block b = st.Block b.start b.all b.end

-- an assignment of a `for`
abbrev pub assigned_part : P Assignment
assigned_part = below g.Assigned (λ x. x)

-- a left side that is a name, and what stands behind it
abbrev pub behind_name : P (Exp → Stm)
behind_name = by_next call_statement assign_statement

abbrev pub spawn_arguments : P (List Exp × List Exp)
spawn_arguments = by_next (word (sign s.Comma) ▷ list_or_none code ▷ ghost_arguments ▷ nothing (λ gs xs c. (xs, gs))) (nothing ([], []))

-- The statements that don't begin with `_(`, each as wrap makes of it.
module _ {A : Type 0} (wrap : Stm → A) where
  abbrev pub block : R A
  block = form (word (sign s.BraceOpen) ▷ statements ▷ word (sign s.BraceClose) ▷ nothing (λ c xs o. wrap (st.Block o (stms_of xs) c)))

  abbrev pub skip : R A
  skip = leaf (sign s.Semicolon) (λ x. wrap (st.Skip x.place))

  abbrev pub declaration : R A
  declaration = form (ctype ▷ name ▷ optional first_value ▷ word (sign s.Semicolon) ▷ nothing (λ c x n ty. wrap (st.Declare ty.0 ty.1 n x)))

  abbrev pub named : R A
  named = form (by_value (below g.NamePlace (λ x. x)) is_name behind_name assign_statement ▷ nothing wrap)

  abbrev pub other : R A
  other = form (below g.OtherPlace (λ x. x) ▷ assign_statement ▷ nothing (λ f l. wrap (f l)))

  abbrev pub branch : R A
  branch = form (word (key k.If) ▷ inside code ▷ below g.Statement (λ x. x) ▷ optional else_part ▷ nothing (λ b a x p. wrap (if_of p x a b)))

  abbrev pub while_loop : R A
  while_loop = form (word (key k.While) ▷ inside code ▷ loop_body ▷ nothing (λ b x p. wrap (st.While p x b.0 b.1)))

  abbrev pub do_loop : R A
  do_loop = form (word (key k.Do) ▷ loop_body ▷ word (key k.While) ▷ inside code ▷ word (sign s.Semicolon) ▷ nothing (λ c x q b p. wrap (st.Do p b.0 b.1 q x)))

  -- what stands behind the body of a `do`
  abbrev pub do_end : P (List Inv × Stm → Span → A)
  do_end = word (key k.While) ▷ inside code ▷ word (sign s.Semicolon) ▷ nothing (λ c x q b p. wrap (st.Do p b.0 b.1 q x))

  abbrev pub for_loop : R A
  for_loop = form (word (key k.For) ▷ word (sign s.Open) ▷ optional (below g.Assigned (λ x. x)) ▷ word (sign s.Semicolon) ▷ code ▷ word (sign s.Semicolon) ▷ optional (below g.Assigned (λ x. x)) ▷ word (sign s.Close) ▷ loop_body
      ▷ nothing (λ b c z m y n x o p. wrap (st.For p x y z b.0 b.1)))

  abbrev pub return_ : R A
  return_ = form (word (key k.Return) ▷ optional code ▷ word (sign s.Semicolon) ▷ nothing (λ c x p. wrap (st.Return p x)))

  abbrev pub spawn : R A
  spawn = form (word (key k.VccSpawn) ▷ word (sign s.Open) ▷ name ▷ spawn_arguments ▷ word (sign s.Close) ▷ word (sign s.Semicolon) ▷ nothing (λ z c xs f o p. wrap (st.Spawn p (record { function = f; arguments = xs.0; ghost_arguments = xs.1 }))))

  abbrev pub free : R A
  free = form (word (key k.Free) ▷ inside code ▷ word (sign s.Semicolon) ▷ nothing (λ c x p. wrap (st.Free p x)))

  -- the rule of a kind of statement
  abbrev pub rule_of : Kind → R A
  rule_of kinds.Block = block
  rule_of kinds.Skip = skip
  rule_of kinds.Declaration = declaration
  rule_of kinds.Named = named
  rule_of kinds.Other = other
  rule_of kinds.Branch = branch
  rule_of kinds.While = while_loop
  rule_of kinds.Do = do_loop
  rule_of kinds.For = for_loop
  rule_of kinds.Return = return_
  rule_of kinds.Spawn = spawn
  rule_of kinds.Free = free

  -- the rule as the grammar has it
  abbrev pub all : R A
  all = pick block (pick skip (pick declaration (pick named (pick other (pick branch (pick (pick while_loop (pick do_loop for_loop)) (pick return_ (pick spawn free))))))))

-- how high what stands in a statement is at least
abbrev pub kind_low : Kind → ℕ
kind_low kinds.Block = 0
kind_low kinds.Skip = 0
kind_low kinds.Declaration = 1
kind_low kinds.Named = 1
kind_low kinds.Other = 2
kind_low kinds.Branch = 1
kind_low kinds.While = 1
kind_low kinds.Do = 1
kind_low kinds.For = 1
kind_low kinds.Return = 0
kind_low kinds.Spawn = 1
kind_low kinds.Free = 1

-- the classes that a kind of statement begins with
abbrev pub kind_begins : Kind → List ℕ
kind_begins kinds.Block = sign s.BraceOpen ∷ []
kind_begins kinds.Skip = sign s.Semicolon ∷ []
kind_begins kinds.Declaration = key k.Int ∷ key k.Long ∷ key k.Unsigned ∷ key k.Struct ∷ []
kind_begins kinds.Named = 1 ∷ []
kind_begins kinds.Other = 2 ∷ key k.Null ∷ sign s.Open ∷ []
kind_begins kinds.Branch = key k.If ∷ []
kind_begins kinds.While = key k.While ∷ []
kind_begins kinds.Do = key k.Do ∷ []
kind_begins kinds.For = key k.For ∷ []
kind_begins kinds.Return = key k.Return ∷ []
kind_begins kinds.Spawn = key k.VccSpawn ∷ []
kind_begins kinds.Free = key k.Free ∷ []

-- what is read as a function of a place, at that place
abbrev pub at_span : {A : Type 0} → Span → Out language (Span → A) → Out language A
at_span p out = on language out (λ f i rest. Ok (f p, i, rest))

-- what stands behind a left operand, as a statement of it
abbrev pub behind_left : Exp → ℕ → Out language (Exp → Stm) → Out language Stm
behind_left l k out = on language out (λ f j rest. Ok (f l, suc (max k j), rest))

-- a value as a statement, one level of height above
abbrev pub higher : Out language Stm → Out language Stm
higher out = on language out (λ a i rest. Ok (a, suc i, rest))

-- ---- what stands behind `_(`

abbrev pub assert_ : P (Span → Stm)
assert_ = word (key k.Assert) ▷ whole_spec ▷ word (sign s.Close) ▷ nothing (λ c x q p. st.Assert p x)

abbrev pub ghost : P (Span → Stm)
ghost = word (key k.Ghost) ▷ below g.GhostBody (λ x. x) ▷ word (sign s.Close) ▷ nothing (λ c x q p. st.Ghost p x)

abbrev pub wrap_ : P (Span → Stm)
wrap_ = word (key k.Wrap) ▷ code ▷ word (sign s.Close) ▷ nothing (λ c x q p. st.Wrap p x)

abbrev pub unwrap : P (Span → Stm)
unwrap = word (key k.Unwrap) ▷ code ▷ word (sign s.Close) ▷ nothing (λ c x q p. st.Unwrap p x)

abbrev pub unwrapping : P (Span → Stm)
unwrapping = word (key k.Unwrapping) ▷ code ▷ word (sign s.Close) ▷ below g.BlockOf (λ x. x) ▷ nothing (λ b c x q p. st.Unwrapping p x b.all b.end)

abbrev pub atomic : P (Span → Stm)
atomic = word (key k.Atomic) ▷ g.list code ▷ word (sign s.Close) ▷ below g.BlockOf (λ x. x) ▷ nothing (λ b c xs q p. st.Atomic p xs b.all b.end)

abbrev pub annotation_of : Annotation → P (Span → Stm)
annotation_of forms.Assert = assert_
annotation_of forms.Ghost = ghost
annotation_of forms.Wrap = wrap_
annotation_of forms.Unwrap = unwrap
annotation_of forms.Unwrapping = unwrapping
annotation_of forms.Atomic = atomic

abbrev pub annotation_class : Annotation → ℕ
annotation_class forms.Assert = key k.Assert
annotation_class forms.Ghost = key k.Ghost
annotation_class forms.Wrap = key k.Wrap
annotation_class forms.Unwrap = key k.Unwrap
annotation_class forms.Unwrapping = key k.Unwrapping
annotation_class forms.Atomic = key k.Atomic

-- what stands behind a left side, as a statement of it
abbrev pub assigned : Following → Exp → Stm
assigned x l = st.Assign (g.first_place l) (following x l)

-- `_(` and a statement's form
abbrev pub annotation : R Stm
annotation = form (word (sign s.Annotation) ▷ g.annotated ▷ nothing (λ f p. f p))

-- `_(invariant ..)`, with room for its parts
abbrev pub invariant : R Inv
invariant = form (word (sign s.Annotation) ▷ g.invariant_tail ▷ nothing (λ f p. f p))

-- what is read of an invariant in front of a loop's body, no higher than room
abbrev pub invariant_at : ℕ → List Lexeme → Out language Inv
invariant_at room ts = enter language room 2 (rule_at (room - 1) invariant) ts

-- `_(` and `invariant` come next
abbrev pub begins_invariant : List Lexeme → Bool
begins_invariant [] = false
begins_invariant (x ∷ rest) = (language.class x == sign s.Annotation) && (next language rest == key k.Invariant)

-- invariants so high, and the statement that is read behind them
abbrev pub bodied : List Inv → ℕ → Out language Stm → Out language (List Inv × Stm)
bodied xs h out = on language out (λ x i rest. Ok ((xs, x), max h i, rest))
