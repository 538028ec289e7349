-- What stands behind the word `verify`, as texts: names, and options with the texts of their numbers. Own.
use Rattle.std.specs.Prelude.{◌≡◌, ◌≢◌, ◌⊎◌, ℕ, ◌≤◌, List, [], ◌∷◌, ◌++◌, length, slice_index, Option, Some, None, MatchOption, option_map, option_to_list, codes, decimal}
use Rattle.std.specs.Borrow.{Bor}
use Rattle.vcc_words.specs.Words.{IsName, IsVerify}
use Rattle.vcc_words.specs.declared.arguments.Arguments.{Arguments}
use Rattle.vcc_words.specs.declared.command.Command.{Command}
use Rattle.vcc_words.specs.declared.command.Command.TheVariants.{Verify}
use Rattle.vcc_words.specs.declared.command.Search.{Search}

-- ---- arguments

-- a name, or an option with the text of its number
pub data Piece : Type 0 where
  Name : List ℕ → Piece
  Leaves : List ℕ → Piece
  Rounds : List ℕ → Piece

-- the words begin with the option and its text, in two words or in one; in two the text doesn't begin with `-`
abbrev pub IsOption : List ℕ → List (List ℕ) → List ℕ → List (List ℕ) → Type 0
IsOption option words text rest = ((words ≡ option ∷ text ∷ rest) × IsName text) ⊎ (words ≡ (option ++ 61 ∷ text) ∷ rest)

-- the words begin with the piece, and the rest stands behind it
abbrev pub Begins : List (List ℕ) → Piece → List (List ℕ) → Type 0
Begins words (Name word) rest = (words ≡ word ∷ rest) × IsName word
Begins words (Leaves text) rest = IsOption (codes "--leaves") words text rest
Begins words (Rounds text) rest = IsOption (codes "--rounds") words text rest

-- the words are these pieces
abbrev pub Are : List (List ℕ) → List Piece → Type 0
Are words [] = words ≡ []
Are words (p ∷ ps) = (rest : List (List ℕ)) × Begins words p rest × Are rest ps

-- the names among pieces, in their order
abbrev pub names_in : List Piece → List (List ℕ)
names_in [] = []
names_in (Name word ∷ ps) = word ∷ names_in ps
names_in (Leaves text ∷ ps) = names_in ps
names_in (Rounds text ∷ ps) = names_in ps

-- the texts of the numbers of leaves
abbrev pub leaves_in : List Piece → List (List ℕ)
leaves_in [] = []
leaves_in (Name word ∷ ps) = leaves_in ps
leaves_in (Leaves text ∷ ps) = text ∷ leaves_in ps
leaves_in (Rounds text ∷ ps) = leaves_in ps

-- the texts of the numbers of rounds
abbrev pub rounds_in : List Piece → List (List ℕ)
rounds_in [] = []
rounds_in (Name word ∷ ps) = rounds_in ps
rounds_in (Leaves text ∷ ps) = rounds_in ps
rounds_in (Rounds text ∷ ps) = text ∷ rounds_in ps

-- the words are two names and the options, each given once or not at all
pub record AreArguments (words : List (List ℕ)) (source cert : List ℕ) (leaves rounds : Option (List ℕ)) : Type 0 where
  pub pieces : List Piece
  pub are : Are words pieces
  pub names : names_in pieces ≡ source ∷ cert ∷ []
  pub leaves_once : leaves_in pieces ≡ option_to_list leaves
  pub rounds_once : rounds_in pieces ≡ option_to_list rounds

-- they aren't, whatever the names and the texts
abbrev pub AreNoArguments : List (List ℕ) → Type 0
AreNoArguments words =
    (source cert : List ℕ) (leaves rounds : Option (List ℕ)) → AreArguments words source cert leaves rounds → ⊥

-- ---- words that may stand among arguments

abbrev pub Every : {X : Type 0} → (X → Type 0) → List X → Type 0
Every P [] = Unit {0}
Every P (x ∷ xs) = P x × Every P xs

-- nothing, or `=` and a text
abbrev pub IsEnd : List ℕ → Type 0
IsEnd more = (length more ≡ 0) ⊎ (slice_index more 0 ≡ 61)

-- the word is the option, alone or with `=` and a text
abbrev pub IsOptionWord : List ℕ → List ℕ → Type 0
IsOptionWord option word = (word ≡ option) ⊎ ((text : List ℕ) × (word ≡ option ++ 61 ∷ text))

-- the word is a name or one of the options
abbrev pub IsPlain : List ℕ → Type 0
IsPlain word = IsName word ⊎ IsOptionWord (codes "--leaves") word ⊎ IsOptionWord (codes "--rounds") word

-- ---- what the code holds of them

abbrev pub text_of : Option (Bor (List ℕ)) → Option (List ℕ)
text_of = option_map (λ text. text.now)

-- the words are these arguments
abbrev pub AreThese : List (List ℕ) → Arguments → Type 0
AreThese words a = AreArguments words a.source.now a.cert.now (text_of a.leaves) (text_of a.rounds)

-- the arguments that texts by name are; none where a name isn't there
abbrev pub HasTexts : (List ℕ → Option (List ℕ)) → Option Arguments → Type 0
HasTexts text None = (text (codes "source") ≡ None) ⊎ (text (codes "cert") ≡ None)
HasTexts text (Some a) =
    (text (codes "source") ≡ Some a.source.now) × (text (codes "cert") ≡ Some a.cert.now)
    × (text (codes "leaves") ≡ text_of a.leaves) × (text (codes "rounds") ≡ text_of a.rounds)

-- the arguments that the words are, or that they are none
abbrev pub ReadsArguments : List (List ℕ) → Option Arguments → Type 0
ReadsArguments words None = AreNoArguments words
ReadsArguments words (Some a) = AreThese words a

-- ---- numbers

-- the text is the number, which is within its bounds
abbrev pub IsNumber : List ℕ → ℕ → ℕ → ℕ → Type 0
IsNumber text least most n = (text ≡ decimal n) × (least ≤ n) × (n ≤ most)

-- the same of an option that has a default
abbrev pub IsValue : Option (List ℕ) → ℕ → ℕ → ℕ → ℕ → Type 0
IsValue None least most default n = n ≡ default
IsValue (Some text) least most default n = IsNumber text least most n

-- what the arguments ask to be searched
pub record Asks (source cert : List ℕ) (leaves rounds : Option (List ℕ)) (leaf_count round_count : ℕ) : Type 0 where
  pub differ : source ≢ cert
  pub leaves_value : IsValue leaves 1 1000000 100000 leaf_count
  pub rounds_value : IsValue rounds 0 1000 64 round_count

-- the search has the names of the arguments, and is what they ask
pub record AsksFor (a : Arguments) (search : Search) : Type 0 where
  pub source : search.source.now ≡ a.source.now
  pub cert : search.cert.now ≡ a.cert.now
  pub asks : Asks a.source.now a.cert.now (text_of a.leaves) (text_of a.rounds) search.leaves search.rounds

-- they ask nothing that may be searched
abbrev pub AsksNothing : Arguments → Type 0
AsksNothing a =
    (leaf_count round_count : ℕ) → Asks a.source.now a.cert.now (text_of a.leaves) (text_of a.rounds) leaf_count round_count → ⊥

-- what the arguments ask to be searched; where there are none, nothing
abbrev pub Demands : Option Arguments → Option Search → Type 0
Demands None r = r ≡ None
Demands (Some a) r = MatchOption r (AsksNothing a) (AsksFor a)

-- ---- the command `verify`

abbrev pub IsNoVerify : List (List ℕ) → Type 0
IsNoVerify words =
    (source cert : List ℕ) (leaf_count round_count : ℕ) → IsVerify words source cert leaf_count round_count → ⊥

abbrev pub IsSearch : List (List ℕ) → Search → Type 0
IsSearch words search = IsVerify words search.source.now search.cert.now search.leaves search.rounds

-- what is to be searched by the words, or that they aren't `verify` with its arguments
abbrev pub ReadsSearch : List (List ℕ) → Option Search → Type 0
ReadsSearch words None = IsNoVerify words
ReadsSearch words (Some search) = IsSearch words search

-- the command of a search; where there is none, none
abbrev pub Verifies : Option Search → Option Command → Type 0
Verifies None r = r ≡ None
Verifies (Some search) r = r ≡ Some (Verify search)
