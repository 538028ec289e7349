-- From what is read of tokens to what the bytes are.
use Rattle.std.proofs.Common.{◌≡◌, ℕ, ◌*◌, ◌<◌, ◌≤◌, Bool, true, false, cond, List, [], length, Result, Ok, Err, refl, ap, sym, ◌∙◌, subst, arith}
use Rattle.std.specs.Prelude.{◌==◌, IfOk, IfErr}
use Rattle.c_syntax.specs.declared.token.Span.{Span}
use Rattle.c_syntax.specs.declared.items.Tree.{Tree}
use Rattle.ebnf.specs.Derives.{next}
use Rattle.ebnf.specs.Reading.{Out, Unexpected}
use Rattle.ebnf.specs.Verdict.{at_end}
use Rattle.c_syntax.specs.Lexing.{Lexeme, Lexes}
use Rattle.c_syntax.specs.Items.{Item}
use Rattle.c_syntax.specs.Language.{language}
use Rattle.c_syntax.specs.Laws.{read_items}
use Rattle.c_syntax.specs.Faults.{SyntaxFault, UnexpectedToken, UnknownForm, TooHigh, fault_of, front_of, first_token, named, read_source}
use Rattle.c_syntax.specs.SourceLaws.{IsAnswer, read_is_answer}
use Rattle.c_syntax.specs.Views.{items_of}
use Rattle.c_source.specs.declared.fault.SourceFault.{SourceFault}
use Rattle.c_source.specs.declared.fault.SourceFault.TheVariants as f
use Rattle.c_source.specs.Sources.{IsText, IsWithinLimits, IsFault, IsFaultOrMemory, IsTreeOrMemory, FailsOrMemory}
use Rattle.c_source.proofs.Ends.{has_end}
use Rattle.c_source.proofs.Unique.{one_text, one_fault, not_both}
use Rattle.tree_heights.specs.Parts.{parts}
use Rattle.tree_heights.proofs.PartRows.{source_parts}
use Rattle.reader_program.specs.Faults.{IsSyntax, IsUnexpected}
use Rattle.c_reader.specs.Reading.{IsRead}

-- what is read up to the end
pub ends_there : {A : Type 0} (out : Out language A) (a : A) (h : ℕ) (rest : List Lexeme) → out ≡ Ok (a, h, rest) → (next language rest == 0) ≡ true → at_end language out ≡ Ok (a, h, rest)
ends_there {A} out a h rest e z = ap (at_end language) e ∙ ap (λ (b : Bool). cond b (Ok (a, h, rest)) (Err (Unexpected, rest))) z

-- a fault at a token with which no item goes on
pub unexpected_read : (ts rest : List Lexeme) (fault : SourceFault) → (next language ts == 0) ≡ false → read_items ts ≡ Err (Unexpected, rest) → IsUnexpected ts rest fault → IsRead (Err fault) (read_source ts)
unexpected_read ts rest fault some e is = subst (λ (o : Result (List Item × ℕ) (SyntaxFault × Span)). IsRead (Err fault) o) (sym (ap (λ (b : Bool). cond b (Ok ([], 0)) (named ts (read_items ts))) some ∙ ap (named ts) e)) (go (fault_of Unexpected (front_of ts rest) (first_token rest)) (first_token rest).place fault is)
  where
    go : (k : SyntaxFault) (p : Span) (fault : SourceFault) → IsSyntax (k, p) fault → IsRead (Err fault) (Err (k, p))
    go UnexpectedToken p fault e = subst (λ (x : SourceFault). IsRead (Err x) (Err (UnexpectedToken, p))) (sym e) refl
    go UnknownForm p fault e = subst (λ (x : SourceFault). IsRead (Err x) (Err (UnknownForm, p))) (sym e) refl
    go TooHigh p fault e = subst (λ (x : SourceFault). IsRead (Err x) (Err (TooHigh, p))) (sym e) refl

-- what was read is the bytes' tree
pub read_text : (bytes : List ℕ) (ts : List Lexeme) (items : List Item) (h : ℕ) (end : Span) → (x : Lexes bytes ts) → length ts ≤ 262145 → read_source ts ≡ Ok (items, h) → end ≡ x.end.place → (text : IsText bytes items end) × IsWithinLimits text
read_text bytes ts items h end x few e place =
    let a = subst (IsAnswer ts) e (read_is_answer ts (has_end bytes ts x)) in
    (record { tokens = ts; height = h; lexes = x; is = a.0; ends = place }, record { few = omega (arith, few); low = a.1 })

-- a fault of the tokens' syntax is the bytes' first
pub read_fault : (bytes : List ℕ) (ts : List Lexeme) (fault : SourceFault) → Lexes bytes ts → length ts ≤ 262145 → IsRead (Err fault) (read_source ts) → IsFaultOrMemory bytes fault
read_fault bytes ts (f.Unexpected p) x few e = record { tokens = ts; lexes = x; few = omega (arith, few); is = subst (IsAnswer ts) e (read_is_answer ts (has_end bytes ts x)) }
read_fault bytes ts (f.UnknownForm p) x few e = record { tokens = ts; lexes = x; few = omega (arith, few); is = subst (IsAnswer ts) e (read_is_answer ts (has_end bytes ts x)) }
read_fault bytes ts (f.TooDeep p) x few e = record { tokens = ts; lexes = x; few = omega (arith, few); is = subst (IsAnswer ts) e (read_is_answer ts (has_end bytes ts x)) }
read_fault bytes ts f.OutOfMemory x few e = tt
read_fault bytes ts (f.BadByte p) x few e = absurd e
read_fault bytes ts (f.BadNumber p) x few e = absurd e
read_fault bytes ts (f.OpenComment p) x few e = absurd e
read_fault bytes ts (f.TooManyTokens p) x few e = absurd e

-- ---- what is answered decides

abbrev pub Found : List ℕ → Tree → Type 0
Found bytes t = (text : IsText bytes (items_of t) t.end) × IsWithinLimits text

-- a tree of few tokens has few parts
pub few_parts : (bytes : List ℕ) (t : Tree) → Found bytes t → parts (items_of t) < 1073741824
few_parts bytes t found =
    let p : parts (items_of t) ≤ 64 * length (found.0).tokens = source_parts (found.0).tokens (items_of t) (found.0).height (found.0).is in
    let few : length (found.0).tokens ≤ 262145 = (found.1).few in
    omega (arith, p, few)

-- no tree beside a fault
pub no_other : (bytes : List ℕ) (items : List Item) (end : Span) (text : IsText bytes items end) (e : SourceFault) → IsWithinLimits text → IsFaultOrMemory bytes e → IsTreeOrMemory items end (Err e)
no_other bytes items end text (f.BadByte p) within x = not_both bytes items end text (f.BadByte p) within x
no_other bytes items end text (f.BadNumber p) within x = not_both bytes items end text (f.BadNumber p) within x
no_other bytes items end text (f.OpenComment p) within x = not_both bytes items end text (f.OpenComment p) within x
no_other bytes items end text (f.TooManyTokens p) within x = not_both bytes items end text (f.TooManyTokens p) within x
no_other bytes items end text (f.Unexpected p) within x = not_both bytes items end text (f.Unexpected p) within x
no_other bytes items end text (f.UnknownForm p) within x = not_both bytes items end text (f.UnknownForm p) within x
no_other bytes items end text (f.TooDeep p) within x = not_both bytes items end text (f.TooDeep p) within x
no_other bytes items end text f.OutOfMemory within x = tt

pub only_text : (bytes : List ℕ) (result : Result Tree SourceFault) → IfOk result (Found bytes) → IfErr result (IsFaultOrMemory bytes) → (items : List Item) (end : Span) (text : IsText bytes items end) → IsWithinLimits text → IsTreeOrMemory items end result
only_text bytes (Ok t) found failed items end text within = one_text bytes items (items_of t) end t.end text found.0
only_text bytes (Err e) found failed items end text within = no_other bytes items end text e within failed

-- one fault
pub other_fault : (bytes : List ℕ) (fault e : SourceFault) → IsFault bytes fault → IsFaultOrMemory bytes e → FailsOrMemory {X = Tree} fault (Err e)
other_fault bytes fault (f.BadByte p) x y = one_fault bytes (f.BadByte p) fault y x
other_fault bytes fault (f.BadNumber p) x y = one_fault bytes (f.BadNumber p) fault y x
other_fault bytes fault (f.OpenComment p) x y = one_fault bytes (f.OpenComment p) fault y x
other_fault bytes fault (f.TooManyTokens p) x y = one_fault bytes (f.TooManyTokens p) fault y x
other_fault bytes fault (f.Unexpected p) x y = one_fault bytes (f.Unexpected p) fault y x
other_fault bytes fault (f.UnknownForm p) x y = one_fault bytes (f.UnknownForm p) fault y x
other_fault bytes fault (f.TooDeep p) x y = one_fault bytes (f.TooDeep p) fault y x
other_fault bytes fault f.OutOfMemory x y = tt

pub only_fault : (bytes : List ℕ) (result : Result Tree SourceFault) → IfOk result (Found bytes) → IfErr result (IsFaultOrMemory bytes) → (fault : SourceFault) → IsFault bytes fault → FailsOrMemory fault result
only_fault bytes (Ok t) found failed fault x = not_both bytes (items_of t) t.end found.0 fault found.1 x
only_fault bytes (Err e) found failed fault x = other_fault bytes fault e x failed
