-- The report. Own: a line for each type and function, in the order of the text, and a line for all.
use Rattle.std.specs.Prelude.{ℕ, List, [], ◌∷◌, ◌++◌, flat_map, codes, decimal, Bool, true, false, Option, Some, None}
use Rattle.method.specs.declared.program.CheckKind.{CheckKind}
use Rattle.method.specs.declared.program.Item.{Item}
use Rattle.method.specs.declared.program.Item.TheVariants.{Struct, Function}
use Rattle.method.specs.declared.program.Program.{Program}
use Rattle.method.specs.Labels.{ProgramLabel, numbered, item_labels}
use Rattle.check_labels.specs.declared.labels.ProgramLabel as held
use Rattle.check_labels.specs.Labels.{label_of}
use Rattle.check_labels.specs.Names.{item_name}
use Rattle.schedule_replay.specs.ReplayText.{kind_text}
use Rattle.vcc_search.specs.Searches.{Finding, each_has_blocks}

-- what an item is called
abbrev pub word_of : Item → List ℕ
word_of (Struct n) = codes "type "
word_of (Function n) = codes "function "

-- NAME/K KIND line L: a check, by its item's name, its ordinal there, its kind and its line
abbrev pub label_text : List ℕ → ℕ → CheckKind → ℕ → List ℕ
label_text name ordinal kind line =
    name ++ (codes "/" ++ (decimal ordinal ++ (codes " " ++ (kind_text kind ++ (codes " line " ++ decimal line)))))

abbrev pub label_line : Program → ProgramLabel → List ℕ
label_line p l = label_text (item_name p l.item) l.ordinal l.check.kind l.check.line ++ codes "\n"

-- an item whose conditions all follow, or of which this is the first that isn't shown to follow
abbrev pub item_line : Program → Item → Option ProgramLabel → List ℕ
item_line p i None = word_of i ++ (item_name p i ++ codes ": verified\n")
item_line p i (Some l) = word_of i ++ (item_name p i ++ (codes ": not proved, first " ++ label_line p l))

-- the label that the code's is, where there is one
abbrev pub label_in : Option held.ProgramLabel → Option ProgramLabel
label_in None = None
label_in (Some l) = Some (label_of l)

-- the label of the first condition without a block
abbrev pub first_open : List ProgramLabel → List Finding → Option ProgramLabel
first_open [] os = None
first_open (l ∷ ls) [] = None
first_open (l ∷ ls) (None ∷ os) = Some l
first_open (l ∷ ls) (Some block ∷ os) = first_open ls os

-- an item's labels, from number 1 on
abbrev pub labels_in : Program → Item → List ProgramLabel
labels_in p i = numbered i 1 (item_labels p i)

-- the lines of the items
abbrev pub item_lines : Program → List Item → List (List Finding) → List (List ℕ)
item_lines p [] gs = []
item_lines p (i ∷ is) [] = []
item_lines p (i ∷ is) (g ∷ gs) = item_line p i (first_open (labels_in p i) g) ∷ item_lines p is gs

abbrev pub closing_line : Bool → List ℕ
closing_line true = codes "all verified\n"
closing_line false = codes "not all verified\n"

-- lines, one after the other
abbrev pub text_of_lines : List (List ℕ) → List ℕ
text_of_lines lines = flat_map (λ line. line) lines

abbrev pub report : Program → List (List Finding) → List ℕ
report p gs = text_of_lines (item_lines p p.items.items gs) ++ closing_line (each_has_blocks gs)
