-- How the worked rows write programs: as texts whose words and signs have blanks between, each word in the column that is its number.
use Rattle.std.specs.Prelude.{ℕ, suc, ◌+◌, ◌*◌, ◌-◌, Bool, true, false, ◌&&◌, ◌==◌, if◌then◌else◌, List, [], ◌∷◌, ◌++◌, length, Option, Some, None, Result, Ok, Err, find, fold, bytes_eq, codes, slice_index_or, is_some, is_none, unwrap_or}
use Rattle.std.specs.List.{list_all}
use Prim.Native.String.{String}
use Rattle.int_ranges.specs.declared.ctype.CType.TheVariants.{Int}
use Rattle.c_syntax.specs.declared.token.Span.{Span}
use Rattle.c_syntax.specs.Words.{keyword_text, spec_word_text, sign_text}
use Rattle.c_syntax.specs.Numbers.{is_digit}
use Rattle.c_syntax.specs.Tokens as t
use Rattle.c_syntax.specs.Tokens.{Word}
use Rattle.c_syntax.specs.Classes.{words}
use Rattle.c_syntax.specs.Lexing.{Lexeme}
use Rattle.c_syntax.specs.Items.{Item}
use Rattle.c_syntax.specs.Faults.{SyntaxFault, read_source}
use Rattle.typing_spec.specs.Rules.{Rule, number}
use Rattle.typing_spec.specs.Types.{kind}
use Rattle.typing_spec.specs.Pieces.{Piece, Expression, pieces}
use Rattle.typing_spec.specs.First.{first_broken}

abbrev pub word_text : Word → List ℕ
word_text (t.Key k) = keyword_text k
word_text (t.Spec w) = 92 ∷ spec_word_text w
word_text (t.Mark s) = sign_text s
word_text _ = []

abbrev pub value : List ℕ → ℕ
value = fold (λ n d. n * 10 + (d - 48)) 0

abbrev pub name_or_number : List ℕ → Word
name_or_number text = if is_digit (slice_index_or text 0 0) then t.Number (value text) Int else t.Name text

abbrev pub word_of : List ℕ → Word
word_of text = unwrap_or (find (λ x. bytes_eq (word_text x) text) words) (name_or_number text)

-- a word's letters so far, the last first, in front of the words behind
abbrev pub with_word : List ℕ → List Word → List Word
with_word [] rest = rest
with_word (x ∷ xs) rest = word_of (x ∷ xs) ∷ rest

-- the words of a text, with the letters of the one that isn't at its end
abbrev pub split : List ℕ → List ℕ × List Word
split [] = ([], [])
split (b ∷ bs) = if b == 32 then ([], with_word (split bs).0 (split bs).1) else (b ∷ (split bs).0, (split bs).1)

abbrev pub words_of : String → List Word
words_of text = with_word (split (codes text)).0 (split (codes text)).1

abbrev pub placed : ℕ → List Word → List Lexeme
placed n [] = record { word = t.End; place = record { line = 1; column = n }; start = n; end = n } ∷ []
placed n (x ∷ xs) = record { word = x; place = record { line = 1; column = n }; start = n; end = n } ∷ placed (suc n) xs

abbrev pub end_of : List Word → Span
end_of ws = record { line = 1; column = suc (length ws) }

abbrev pub same_answer : ℕ → ℕ → Option (Rule × Span) → Bool
same_answer n column None = false
same_answer n column (Some x) = (number x.0 == n) && (x.1.column == column)

abbrev pub judged : (List Item → Bool) → Result (List Item × ℕ) (SyntaxFault × Span) → Bool
judged test (Ok p) = test p.0
judged test (Err e) = false

abbrev pub breaks_words : ℕ → List Word → List Word → Bool
breaks_words n front rest = judged (λ items. same_answer n (suc (length front)) (first_broken items (end_of (front ++ rest)))) (read_source (placed 1 (front ++ rest)))

-- the first broken rule has this number, and stands at the first word of the second text
abbrev pub breaks : ℕ → String → String → Bool
breaks n front rest = breaks_words n (words_of front) (words_of rest)

abbrev pub is_typed : Piece → Bool
is_typed (Expression c x) = is_some (kind c.scope x)
is_typed _ = true

-- no rule is broken, and each expression has a type
abbrev pub is_fine : List Word → List Item → Bool
is_fine ws items = is_none (first_broken items (end_of ws)) && list_all is_typed (pieces items)

abbrev pub types_words : List Word → Bool
types_words ws = judged (is_fine ws) (read_source (placed 1 ws))

abbrev pub types : String → Bool
types text = types_words (words_of text)
