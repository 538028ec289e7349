-- What the reader's answers stand for.
use Rattle.std.specs.Prelude.{◌≡◌, ℕ, max, List, [], ◌∷◌, ◌++◌, map, Result, Ok, Err}
use Rattle.ebnf.specs.Reading.{Out, on, take, enter, read, read_rule, reads, Unexpected, TooDeep}
use Rattle.ebnf.specs.Sets.{low}
use Rattle.c_syntax.specs.declared.token.Token.{Token}
use Rattle.c_syntax.specs.Lexing.{Lexeme, lexeme}
use Rattle.c_syntax.specs.Language.{language}
use Rattle.c_syntax.specs.Grammar.{P, R}
use Rattle.reader_expressions.specs.declared.reading.Parsed.{Parsed}
use Rattle.reader_expressions.specs.declared.reading.ReadFault.{ReadFault}
use Rattle.reader_expressions.specs.declared.reading.ReadFault.TheVariants as f

abbrev pub lexemes : List Token → List Lexeme
lexemes = map lexeme

abbrev pub IsOutOfMemory : ReadFault → Type 0
IsOutOfMemory f.OutOfMemory = Unit {0}
IsOutOfMemory _ = ⊥

-- This is what is read of the tokens by the grammar, unless memory ran out.
abbrev pub Gives : {X A : Type 0} → (X → A) → Result (Parsed X) ReadFault → Out language A → Type 0
Gives view (Ok p) out = out ≡ Ok (view p.value, p.height, lexemes p.rest.now)
Gives view (Err (f.Unexpected rest)) out = out ≡ Err (Unexpected, lexemes rest.now)
Gives view (Err (f.TooDeep rest)) out = out ≡ Err (TooDeep, lexemes rest.now)
Gives view (Err f.OutOfMemory) out = Unit {0}

-- a token of this class, that counts as so high, and what is made of it
abbrev pub one_token : {A : Type 0} → ℕ → ℕ → (Lexeme → A) → List Lexeme → Out language A
one_token c k f ts = on language (take language c ts) (λ x i rest. Ok (f x, k, rest))

-- what is read of a part of the grammar's rows, with room for so much height
abbrev pub part : {A : Type 0} → ℕ → P A → List Lexeme → Out language A
part room p ts = read language (reads language room) room p ts

-- the same of a whole rule, whose parts have room for so much height
abbrev pub rule_at : {A : Type 0} → ℕ → R A → List Lexeme → Out language A
rule_at room r ts = read_rule language (reads language room) room r ts

-- one more value behind those that were found, which are so high
abbrev pub extended : {A : Type 0} → List A → ℕ → Out language A → Out language (List A)
extended xs h out = on language out (λ x i rest. Ok (xs ++ x ∷ [], max h i, rest))

-- a part, where there is room for its least height
abbrev pub entered : {A : Type 0} → ℕ → P A → List Lexeme → Out language A
entered room p ts = enter language room (low language p) (part room p) ts

-- more values behind those that were found
abbrev pub through : {A : Type 0} → List A → ℕ → Out language (List A) → Out language (List A)
through xs h out = on language out (λ ys i rest. Ok (xs ++ ys, max h i, rest))
