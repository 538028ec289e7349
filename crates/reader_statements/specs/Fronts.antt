-- What is read of a statement behind its front.
use Rattle.std.specs.Prelude.{◌≡◌, ℕ, max, ◌+◌, List, Result, Ok, Err, Option}
use Rattle.std.specs.declared.alloc.Global.{Global}
use Rattle.std.proofs.Common.{Box}
use Rattle.ebnf.specs.Rules.{below, nothing}
use Rattle.ebnf.specs.Reading.{Out, on, reads, Unexpected, TooDeep}
use Rattle.c_syntax.specs.declared.token.Span.{Span}
use Rattle.c_syntax.specs.declared.token.Sign.TheVariants as s
use Rattle.c_syntax.specs.declared.statements.Stmt.{Stmt}
use Rattle.c_syntax.specs.Classes.{sign}
use Rattle.c_syntax.specs.Lexing.{Lexeme}
use Rattle.c_syntax.specs.Language.{language}
use Rattle.c_syntax.specs.Views.{exp, stm}
use Rattle.c_syntax.specs.Expressions.{Exp, Assignment}
use Rattle.c_syntax.specs.Statements as st
use Rattle.c_syntax.specs.Statements.{Inv, Stm}
use Rattle.c_syntax.specs.Grammar as g
use Rattle.c_syntax.specs.Grammar.{P, ◌▷◌, word, code, optional, else_part, if_of}
use Rattle.reader_expressions.specs.declared.reading.Parsed.{Parsed}
use Rattle.reader_expressions.specs.declared.reading.ReadFault.{ReadFault}
use Rattle.reader_expressions.specs.declared.reading.ReadFault.TheVariants as faults
use Rattle.reader_expressions.specs.Reading.{lexemes, part, rule_at}
use Rattle.reader_statements.specs.declared.blocks.Front.{Front}
use Rattle.reader_statements.specs.declared.blocks.Front.TheVariants as f
use Rattle.reader_statements.specs.declared.blocks.LoopFront.{LoopFront}
use Rattle.reader_statements.specs.declared.blocks.LoopFront.TheVariants as loops
use Rattle.reader_statements.specs.Rows.{assigned_part, block, do_end}
use Rattle.reader_statements.specs.Views.{holding, maybe_boxed}

-- what stands behind an `if` and its condition
abbrev pub if_end : P (Exp → Span → Stm)
if_end = below g.Statement (λ x. x) ▷ optional else_part ▷ nothing (λ b a x p. if_of p x a b)

-- what stands in a `for` behind the first `;`, up to the body: the condition and the change
abbrev pub for_test : P (Exp × Option Assignment)
for_test = code ▷ word (sign s.Semicolon) ▷ optional assigned_part ▷ word (sign s.Close) ▷ nothing (λ c z n y. (y, z))

-- what is read one level below a front that is so high, and what is made of it
abbrev pub above : {A B : Type 0} → (A → B) → ℕ → Out language A → Out language B
above make h out = on language out (λ x i rest. Ok (make x, max h (i + 1), rest))

-- what is read behind the body of a loop
abbrev pub loop_end : ℕ → LoopFront → ℕ → List Inv × Stm → ℕ → List Lexeme → Out language Stm
loop_end room (loops.While p x) h = λ b i ts. Ok (st.While p (exp x) b.0 b.1, max h (i + 1), ts)
loop_end room (loops.Do p) h = λ b i ts. on language (part room (do_end (λ x. x)) ts) (λ make j rest. Ok (make b p, max h (max i j + 1), rest))
loop_end room (loops.For p x y z) h = λ b i ts. Ok (st.For p (maybe_boxed x) (exp y) (maybe_boxed z) b.0 b.1, max h (i + 1), ts)

-- a loop from its body on
abbrev pub looped : ℕ → LoopFront → ℕ → List Lexeme → Out language Stm
looped room x h ts = on language (part room g.loop_body ts) (loop_end room x h)

-- a statement with this front, which is so high, from there on
abbrev pub completed : ℕ → Front → ℕ → List Lexeme → Out language Stm
completed room (f.Whole x) h ts = Ok (stm x.value, h, ts)
completed room f.Block h ts = rule_at room (block (λ x. x)) ts
completed room (f.Branch p x) h ts = above (λ make. make (exp x) p) h (part room if_end ts)
completed room (f.Loop x) h ts = looped room x h ts
completed room (f.Annotation x) h ts = above (holding x) h (reads language room g.BlockOf ts)

-- This is the front of what is read, or the fault that it is refused with.
abbrev pub Begins : ℕ → Result (Parsed Front) ReadFault → Out language Stm → Type 0
Begins room (Ok p) out = out ≡ completed room p.value p.height (lexemes p.rest.now)
Begins room (Err (faults.Unexpected rest)) out = out ≡ Err (Unexpected, lexemes rest.now)
Begins room (Err (faults.TooDeep rest)) out = out ≡ Err (TooDeep, lexemes rest.now)
Begins room (Err faults.OutOfMemory) out = Unit {0}

-- a statement that holds no other, as a front
abbrev pub as_front : Result (Parsed (Box Stmt Global)) ReadFault → Result (Parsed Front) ReadFault
as_front (Ok p) = Ok (record { value = f.Whole p.value; height = p.height; rest = p.rest })
as_front (Err e) = Err e
