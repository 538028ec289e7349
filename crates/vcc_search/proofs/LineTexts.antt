-- The pieces of an item's line.
use Rattle.std.proofs.Common.{◌≡◌, ℕ, List, ◌++◌, codes, None, Some, sym, ap, ◌∙◌, append_assoc}
use Rattle.std.specs.Prelude.{decimal}
use Rattle.method.specs.declared.program.CheckKind.{CheckKind}
use Rattle.method.specs.declared.program.Item.{Item}
use Rattle.method.specs.declared.program.Program.{Program}
use Rattle.check_labels.specs.Names.{item_name}
use Rattle.check_labels.specs.declared.labels.ProgramLabel.{ProgramLabel}
use Rattle.schedule_replay.specs.ReplayText.{kind_text}
use Rattle.vcc_search.specs.Reports.{item_line, label_in, label_text, word_of}

pub verified_line : (p : Program) (i : Item) (word name : List ℕ) → word ≡ word_of i → name ≡ item_name p i → word ++ (name ++ codes ": verified\n") ≡ item_line p i (label_in None)
verified_line p i word name a b =
    ap (λ (t : List ℕ). t ++ (name ++ codes ": verified\n")) a ∙ ap (λ (t : List ℕ). word_of i ++ (t ++ codes ": verified\n")) b

-- the pieces of a label, up to the line's end
abbrev label_pieces : List ℕ → List ℕ → ProgramLabel → List ℕ
label_pieces name kind l = name ++ (codes "/" ++ (decimal l.ordinal ++ (codes " " ++ (kind ++ (codes " line " ++ (decimal l.line ++ codes "\n"))))))

-- a label's text, and what stands after it, piece by piece
pub label_then : (name : List ℕ) (ordinal : ℕ) (kind : CheckKind) (line : ℕ) (rest : List ℕ)
    → label_text name ordinal kind line ++ rest ≡ name ++ (codes "/" ++ (decimal ordinal ++ (codes " " ++ (kind_text kind ++ (codes " line " ++ (decimal line ++ rest))))))
label_then name ordinal kind line rest =
    append_assoc name (codes "/" ++ (decimal ordinal ++ (codes " " ++ (kind_text kind ++ (codes " line " ++ decimal line))))) rest
    ∙ ap (λ (t : List ℕ). name ++ (codes "/" ++ t)) (append_assoc (decimal ordinal) (codes " " ++ (kind_text kind ++ (codes " line " ++ decimal line))) rest)
    ∙ ap (λ (t : List ℕ). name ++ (codes "/" ++ (decimal ordinal ++ (codes " " ++ t)))) (append_assoc (kind_text kind) (codes " line " ++ decimal line) rest)

pub label_is : (name kind : List ℕ) (l : ProgramLabel) → kind ≡ kind_text l.kind → label_pieces name kind l ≡ label_text name l.ordinal l.kind l.line ++ codes "\n"
label_is name kind l is =
    ap (λ (t : List ℕ). label_pieces name t l) is ∙ sym (label_then name l.ordinal l.kind l.line (codes "\n"))

-- what stands in front of the label
abbrev pub open_head : List ℕ → List ℕ → List ℕ
open_head word name = word ++ (name ++ codes ": not proved, first ")

abbrev pub label_end : List ℕ → ProgramLabel → List ℕ
label_end item l = label_text item l.ordinal l.kind l.line ++ codes "\n"

pub open_line : (p : Program) (i : Item) (l : ProgramLabel) (word name item : List ℕ) → word ≡ word_of i → name ≡ item_name p i → item ≡ item_name p l.item
    → open_head word name ++ label_end item l ≡ item_line p i (label_in (Some l))
open_line p i l word name item a b c =
    ap (λ (t : List ℕ). open_head t name ++ label_end item l) a ∙ ap (λ (t : List ℕ). open_head (word_of i) t ++ label_end item l) b
    ∙ ap (λ (t : List ℕ). open_head (word_of i) (item_name p i) ++ label_end t l) c
    ∙ append_assoc (word_of i) (item_name p i ++ codes ": not proved, first ") (label_end (item_name p l.item) l)
    ∙ ap (λ (t : List ℕ). word_of i ++ t) (append_assoc (item_name p i) (codes ": not proved, first ") (label_end (item_name p l.item) l))
