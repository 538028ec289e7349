-- What a line is read as, or its first fault from the left.
use Rattle.std.specs.Prelude.{◌≡◌, ℕ, zero, suc, ℤ, pos, negsuc, Bool, true, false, ◌||◌, int_lt, nat_le, nat_lt, List, [], ◌∷◌, All, codes, Option, Some, None, Result, Ok, Err, ok_or, find, bytes_eq, ◌==◌, if◌then◌else◌}
use Rattle.std.specs.List.{slice_split}
use Rattle.std.specs.Option.{option_map_or}
use Rattle.std.specs.Borrow.{Bor}
use Rattle.terms.specs.declared.term.Kind.{Kind}
use Rattle.terms.specs.declared.term.Literal.{Literal}
use Rattle.terms.specs.declared.term.Term.{Term}
use Rattle.cert_format.specs.declared.certificate.RuleName.{RuleName}
use Rattle.cert_format.specs.declared.certificate.RuleName.TheVariants as r
use Rattle.cert_format.specs.declared.certificate.Owner.{Owner}
use Rattle.cert_format.specs.declared.certificate.Owner.TheVariants.{OfLemma}
use Rattle.cert_format.specs.declared.certificate.Step.{Step}
use Rattle.cert_lines.specs.declared.names.TheConstants.{KINDS, RULES}
use Rattle.cert_format.specs.declared.fault.LineFault.{LineFault}
use Rattle.cert_format.specs.declared.fault.LineFault.TheVariants.{BadLine, BadNumber, CountOver, OutOfMemory}
use Rattle.cert_format.specs.declared.stage.Counts.{Counts}
use Rattle.cert_lines.specs.Numerals.{number_in, argument_in, literal_in}
use Rattle.cert_format.specs.Text.{Word, Line, kind_text, has_index, rule_text, is_rule_of, least_steps, owner_text}

-- ---- what a call answers

-- what is read, or the fault
abbrev pub Reading : Type 0 → Type 0
Reading A = Result A LineFault

infixl 10 ◌>>=◌
abbrev pub ◌>>=◌ : {A B : Type 0} → Reading A → (A → Reading B) → Reading B
(Ok x) >>= f = f x
(Err e) >>= f = Err e

-- What a function returned, seen by view, is what reading gives, unless memory ran out.
abbrev pub Fails : {Y : Type 0} → LineFault → Reading Y → Type 0
Fails OutOfMemory read = Unit {0}
Fails e read = read ≡ Err e

abbrev pub Gives : {X Y : Type 0} → (X → Y) → Reading X → Reading Y → Type 0
Gives view (Ok x) read = read ≡ Ok (view x)
Gives view (Err e) read = Fails e read

-- ---- parts of a line: what is read of the words, and the words behind it

-- a line's words stand between its spaces
abbrev pub words_of : List ℕ → Line
words_of = slice_split (λ c. c == 32)

-- no LF
abbrev pub IsWithinLine : List ℕ → Type 0
IsWithinLine = All (λ b. (b == 10) ≡ false)

-- the words that stand in what is left of a line
abbrev pub words_left : Option (Bor (List ℕ)) → Line
words_left rest = option_map_or (λ bytes. words_of bytes.now) rest []

-- what isn't so is this fault
abbrev pub needs : Bool → LineFault → Reading (Unit {0})
needs true fault = Ok tt
needs false fault = Err fault

-- the next word; a missing word is a fault of the line
abbrev pub first : Line → Reading (Word × Line)
first [] = Err BadLine
first (w ∷ rest) = Ok (w, rest)

-- no words are left
abbrev pub ends : Line → Reading (Unit {0})
ends [] = Ok tt
ends (_ ∷ _) = Err BadLine

-- a fixed word
unfoldable pub keyword : Word → Line → Reading Line
keyword text words = first words >>= λ w. needs (bytes_eq w.0 text) BadLine >>= λ _. Ok w.1

-- a number
unfoldable pub number : Line → Reading (ℤ × Line)
number words = first words >>= λ w. ok_or (number_in w.0) BadNumber >>= λ n. Ok (n, w.1)

-- a number as a count: not negative, and within its limit
abbrev pub counted : ℕ → ℤ → Reading ℕ
counted most (pos n) = if nat_le n most then Ok n else Err CountOver
counted most (negsuc n) = Err BadNumber

unfoldable pub count : ℕ → Line → Reading (ℕ × Line)
count most words = number words >>= λ n. counted most n.0 >>= λ c. Ok (c, n.1)

-- the kind and the rule that the word names
abbrev pub kind_in : Word → Option Kind
kind_in w = find (λ kind. bytes_eq (kind_text kind) w) KINDS

abbrev pub rule_in : Word → Option RuleName
rule_in w = find (λ rule. bytes_eq (rule_text rule) w) RULES

unfoldable pub kind : Line → Reading (Kind × Line)
kind words = first words >>= λ w. ok_or (kind_in w.0) BadLine >>= λ x. Ok (x, w.1)

-- a rule that may stand there
unfoldable pub rule : Owner → Line → Reading (RuleName × Line)
rule owner words = first words >>= λ w. ok_or (rule_in w.0) BadLine >>= λ x. needs (is_rule_of owner x) BadLine >>= λ _. Ok (x, w.1)

-- the index, where the kind has one
unfoldable pub index : Kind → Line → Reading (ℤ × Line)
index kind words = if has_index kind then number words else Ok (pos 0, words)

-- all words that are left, as arguments
unfoldable pub arguments : Line → Reading (List ℕ)
arguments [] = Ok []
arguments (w ∷ rest) = ok_or (argument_in w) BadNumber >>= λ a. arguments rest >>= λ others. Ok (a ∷ others)

-- numbers, up to the sign `=`
unfoldable pub numbers : Line → Reading (List ℤ × Line)
numbers [] = Err BadLine
numbers (w ∷ rest) = if bytes_eq w (codes "=") then Ok ([], rest) else (ok_or (number_in w) BadNumber >>= λ n. numbers rest >>= λ ns. Ok (n ∷ ns.0, ns.1))

-- all words that are left, as at most so many literals
unfoldable pub literals : ℕ → Line → Reading (List Literal)
literals left [] = Ok []
literals zero (w ∷ rest) = ok_or (literal_in w) BadNumber >>= λ l. Err BadLine
literals (suc left) (w ∷ rest) = ok_or (literal_in w) BadNumber >>= λ l. literals left rest >>= λ ls. Ok (l ∷ ls)

-- the first number of a step `lemma` in a lemma, where it is one, is below the lemma's own number
abbrev pub is_earlier : ℕ → Option ℤ → Bool
is_earlier own None = true
is_earlier own (Some j) = int_lt j (pos own)

abbrev pub first_number : Line → Option ℤ
first_number [] = None
first_number (w ∷ _) = number_in w

abbrev pub cites_earlier : Owner → RuleName → Line → Bool
cites_earlier (OfLemma own) r.Lemma words = is_earlier own (first_number words)
cites_earlier _ _ words = true

-- ---- lines

-- the version that the word names
abbrev pub version_in : Word → Option ℕ
version_in w = if bytes_eq w (codes "1") then Some 1 else (if bytes_eq w (codes "2") then Some 2 else None)

-- `vcc-cert V`
unfoldable pub version_line : Line → Reading ℕ
version_line words = do
  rest ← keyword (codes "vcc-cert") words
  word ← first rest
  version ← ok_or (version_in word.0) BadLine
  _ ← ends word.1
  Ok version

-- `lemmas M`, `conditions N`
unfoldable pub count_line : Word → Line → Reading ℕ
count_line name words = do
  rest ← keyword name words
  n ← count 20000 rest
  _ ← ends n.1
  Ok n.0

-- `lemma T S L`, `condition T S L`: without steps there are no literals
unfoldable pub head_line : Owner → Line → Reading Counts
head_line owner words = do
  rest ← keyword (owner_text owner) words
  terms ← count 1048576 rest
  steps ← count 1048576 terms.1
  _ ← needs (nat_le (least_steps owner) steps.0) BadLine
  literals ← count 4194304 steps.1
  _ ← ends literals.1
  _ ← needs (nat_lt 0 steps.0 || literals.0 == 0) BadLine
  Ok (record { terms = terms.0; steps = steps.0; literals = literals.0 })

-- `t KIND NUMBERS`
unfoldable pub term_line : Line → Reading Term
term_line words = do
  rest ← keyword (codes "t") words
  kind ← kind rest
  index ← index kind.0 kind.1
  args ← arguments index.1
  Ok (record { kind = kind.0; index = index.0; args = args })

-- `s RULE NUMBERS = LITERALS`, where so many literals are left
unfoldable pub step_line : Owner → ℕ → Line → Reading Step
step_line owner left words = do
  rest ← keyword (codes "s") words
  rule ← rule owner rest
  _ ← needs (cites_earlier owner rule.0 rule.1) BadLine
  numbers ← numbers rule.1
  clause ← literals left numbers.1
  Ok (record { rule = rule.0; numbers = numbers.0; clause = clause })

-- `end`
unfoldable pub end_line : Line → Reading (Unit {0})
end_line words = keyword (codes "end") words >>= ends
