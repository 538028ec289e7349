-- Which words are a command. Own.
use Rattle.std.specs.Prelude.{◌≡◌, ◌≢◌, ◌⊎◌, ℕ, ◌<◌, ◌≤◌, List, [], ◌∷◌, ◌++◌, length, map, flat_map, slice_index, codes, decimal, Option, Some, None, String, string_bytes}
use Rattle.std.specs.declared.alloc.Global.{Global}
use Rattle.vcc_words.specs.declared.command.Command.{Command}
use Rattle.vcc_words.specs.declared.command.Command.TheVariants.{Check, Verify, Upgrade, Run, Gen}

-- the bytes of the words
abbrev pub texts : List (String Global) → List (List ℕ)
texts = map string_bytes

-- a name is a word that isn't empty and doesn't begin with `-`
abbrev pub IsName : List ℕ → Type 0
IsName word = (0 < length word) × (slice_index word 0 ≢ 45)

-- ---- two names

-- the words are this command with these two names
pub record IsNamedPair (command : List ℕ) (words : List (List ℕ)) (first second : List ℕ) : Type 0 where
  pub are : words ≡ command ∷ first ∷ second ∷ []
  pub first_name : IsName first
  pub second_name : IsName second

-- `check SOURCE CERT`
abbrev pub IsCheck : List (List ℕ) → List ℕ → List ℕ → Type 0
IsCheck words source cert = IsNamedPair (codes "check") words source cert

-- `run SOURCE SCHEDULE`
abbrev pub IsRunCommand : List (List ℕ) → List ℕ → List ℕ → Type 0
IsRunCommand words source schedule = IsNamedPair (codes "run") words source schedule

-- ---- three names

-- `upgrade SOURCE CERT NEW`: the new name is neither of the other two
pub record IsUpgrade (words : List (List ℕ)) (source cert new : List ℕ) : Type 0 where
  pub are : words ≡ codes "upgrade" ∷ source ∷ cert ∷ new ∷ []
  pub source_name : IsName source
  pub cert_name : IsName cert
  pub new_name : IsName new
  pub not_source : new ≢ source
  pub not_cert : new ≢ cert

-- ---- names and options

-- what stands behind `verify`: a name, or an option with its number, in two words or in one
pub data Part : Type 0 where
  Name : List ℕ → Part
  Leaves : ℕ → Part
  LeavesIs : ℕ → Part
  Rounds : ℕ → Part
  RoundsIs : ℕ → Part

-- its words
abbrev pub spelling : Part → List (List ℕ)
spelling (Name word) = word ∷ []
spelling (Leaves n) = codes "--leaves" ∷ decimal n ∷ []
spelling (LeavesIs n) = (codes "--leaves=" ++ decimal n) ∷ []
spelling (Rounds n) = codes "--rounds" ∷ decimal n ∷ []
spelling (RoundsIs n) = (codes "--rounds=" ++ decimal n) ∷ []

-- the names among parts, in their order
abbrev pub names : List Part → List (List ℕ)
names [] = []
names (Name word ∷ ps) = word ∷ names ps
names (Leaves n ∷ ps) = names ps
names (LeavesIs n ∷ ps) = names ps
names (Rounds n ∷ ps) = names ps
names (RoundsIs n ∷ ps) = names ps

-- the numbers of leaves among them
abbrev pub leaves : List Part → List ℕ
leaves [] = []
leaves (Name word ∷ ps) = leaves ps
leaves (Leaves n ∷ ps) = n ∷ leaves ps
leaves (LeavesIs n ∷ ps) = n ∷ leaves ps
leaves (Rounds n ∷ ps) = leaves ps
leaves (RoundsIs n ∷ ps) = leaves ps

-- the numbers of rounds among them
abbrev pub rounds : List Part → List ℕ
rounds [] = []
rounds (Name word ∷ ps) = rounds ps
rounds (Leaves n ∷ ps) = rounds ps
rounds (LeavesIs n ∷ ps) = rounds ps
rounds (Rounds n ∷ ps) = n ∷ rounds ps
rounds (RoundsIs n ∷ ps) = n ∷ rounds ps

-- the option's number: given once, within its bounds; or its default, where it isn't given
abbrev pub IsSetting : List ℕ → ℕ → ℕ → ℕ → ℕ → Type 0
IsSetting given least most default n = ((given ≡ []) × (n ≡ default)) ⊎ ((given ≡ n ∷ []) × (least ≤ n) × (n ≤ most))

-- `verify SOURCE CERT [--leaves N] [--rounds N]`: the options stand anywhere behind the command's word, and the two names differ
pub record IsVerify (words : List (List ℕ)) (source cert : List ℕ) (leaf_count round_count : ℕ) : Type 0 where
  pub parts : List Part
  pub are : words ≡ codes "verify" ∷ flat_map spelling parts
  pub named : names parts ≡ source ∷ cert ∷ []
  pub source_name : IsName source
  pub cert_name : IsName cert
  pub differ : source ≢ cert
  pub leaves_set : IsSetting (leaves parts) 1 1000000 100000 leaf_count
  pub rounds_set : IsSetting (rounds parts) 0 1000 64 round_count

-- ---- a number

-- `gen N`, for 1 to 50 copies
pub record IsGen (words : List (List ℕ)) (copies : ℕ) : Type 0 where
  pub are : words ≡ codes "gen" ∷ decimal copies ∷ []
  pub least : 1 ≤ copies
  pub most : copies ≤ 50

-- ---- commands

-- the words are this command
abbrev pub IsCommand : List (List ℕ) → Command → Type 0
IsCommand words (Check pair) = IsCheck words pair.source.now pair.other.now
IsCommand words (Verify search) = IsVerify words search.source.now search.cert.now search.leaves search.rounds
IsCommand words (Upgrade names) = IsUpgrade words names.source.now names.cert.now names.new.now
IsCommand words (Run pair) = IsRunCommand words pair.source.now pair.other.now
IsCommand words (Gen copies) = IsGen words copies

-- the words are no command
pub record IsNoCommand (words : List (List ℕ)) : Type 0 where
  pub no_check : (source cert : List ℕ) → IsCheck words source cert → ⊥
  pub no_verify : (source cert : List ℕ) (leaf_count round_count : ℕ) → IsVerify words source cert leaf_count round_count → ⊥
  pub no_upgrade : (source cert new : List ℕ) → IsUpgrade words source cert new → ⊥
  pub no_run : (source schedule : List ℕ) → IsRunCommand words source schedule → ⊥
  pub no_gen : (copies : ℕ) → IsGen words copies → ⊥

-- the command that the words are, or that they are none
abbrev pub Reads : List (List ℕ) → Option Command → Type 0
Reads words None = IsNoCommand words
Reads words (Some command) = IsCommand words command
