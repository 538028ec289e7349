-- What holds of programs as they are read: the verdict on a list of tokens is exact, and there is one. A program here has an item at least; that no item is a program too is told apart by the first token.
use Rattle.std.specs.Prelude.{◌≡◌, ℕ, ◌≤◌, false, List, [], ◌∷◌}
use Rattle.std.proofs.Common.{refl, arith}
use Rattle.ebnf.specs.Reading.{Fault, Out}
use Rattle.ebnf.specs.Complete.{ok}
use Rattle.ebnf.specs.Sets.{has}
use Rattle.ebnf.specs.Verdict.{HasEnd, IsText, IsFirstFault, IsVerdict, whole, verdict, one_tree, one_fault, no_fault, text_read}
use Rattle.c_syntax.specs.Lexing.{Lexeme}
use Rattle.c_syntax.specs.Items.{Item}
use Rattle.c_syntax.specs.Grammar.{Program}
use Rattle.c_syntax.specs.Language.{language, goes}
use Rattle.c_syntax.specs.Readable.{readable}

-- how high items may be, and the program above them
abbrev pub room : ℕ
room = 201

-- These tokens with an end behind them are a program of these items, so high.
abbrev pub IsProgram : List Lexeme → List Item → ℕ → Type 0
IsProgram = IsText language Program

-- what is read of tokens: the items and how high they are, or a fault and the tokens from it on
abbrev pub read_items : List Lexeme → Out language (List Item)
read_items = whole language room Program

ended : has (goes Program) 0 ≡ false
ended = refl

-- the answer is exact: the program's tree, or the first fault
pub answer : (ts : List Lexeme) → HasEnd language ts → IsVerdict language Program room ts (read_items ts)
answer ts e = verdict language readable Program ended room ts (omega arith) e

-- a program that is low enough is read
pub low_read : (ts : List Lexeme) (items : List Item) (h : ℕ) → (x : IsProgram ts items h) → h ≤ room → read_items ts ≡ ok language items h (x.end ∷ [])
low_read ts items h x le = text_read language readable Program ended room ts items h x le

-- no tokens are two programs
pub one_program : (ts : List Lexeme) (a b : List Item) (h k : ℕ) → IsProgram ts a h → IsProgram ts b k → (a ≡ b) × (h ≡ k)
one_program = one_tree language readable Program ended

-- tokens have one first fault
pub one_first_fault : (ts : List Lexeme) (k l : Fault) (rest late : List Lexeme) → IsFirstFault language Program room ts k rest → IsFirstFault language Program room ts l late → (k ≡ l) × (rest ≡ late)
one_first_fault = one_fault language Program room

-- a program that is low enough has none
pub no_first_fault : (ts : List Lexeme) (items : List Item) (h : ℕ) (k : Fault) (rest : List Lexeme) → IsProgram ts items h → h ≤ room → IsFirstFault language Program room ts k rest → ⊥
no_first_fault = no_fault language Program room
