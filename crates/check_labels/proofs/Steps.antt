-- One step of a loop that adds, and lists that grow.
use Rattle.std.proofs.Common.{◌≡◌, ℕ, ◌+◌, ◌<◌, Bool, true, false, if◌then◌else◌, List, [], ◌∷◌, ◌++◌, length, drop, get_or, refl, ap, sym, ◌∙◌, append_assoc, append-nil, replicate, zero-add, Option, Some, None}
use Rattle.std.proofs.lemmas.List.{map-append, replicate-append-replicate, drop_more}
use Rattle.method.specs.declared.program.CheckKind.{CheckKind}
use Rattle.method.specs.declared.program.CheckKind.TheVariants.{Invariant}
use Rattle.method.specs.declared.program.Claimed.{Claimed}
use Rattle.method.specs.declared.program.Claimed.TheVariants.{ClaimedVariable, ClaimedNull, ClaimedOther}
use Rattle.method.specs.declared.program.Listed.{Listed}
use Rattle.method.specs.Actions.{plain_listed}
use Rattle.method.specs.declared.program.DeclaredType.{DeclaredType}
use Rattle.method.specs.declared.program.FunctionInfo.{FunctionInfo}
use Rattle.method.specs.declared.program.Program.{Program}
use Rattle.method.specs.Labels as spec
use Rattle.method.specs.Labels.{claimed_kinds}
use Rattle.check_labels.specs.declared.labels.ProgramLabel.{ProgramLabel}
use Rattle.check_labels.specs.declared.lines.Label.{Label}
use Rattle.check_labels.specs.Kinds.{object_kinds, plain_kinds, end_labels}
use Rattle.check_labels.specs.Labels.{check_of, checks_of, label_of, labels_of}

pub append_nil : (xs : List CheckKind) → xs ++ [] ≡ xs
append_nil xs = append-nil xs

-- a check more
pub checks_pushed : (ls : List Label) (l : Label) → checks_of (ls ++ l ∷ []) ≡ checks_of ls ++ check_of l ∷ []
checks_pushed ls l = map-append check_of ls (l ∷ [])

-- a label more
pub labels_pushed : (ls : List ProgramLabel) (l : ProgramLabel) → labels_of (ls ++ l ∷ []) ≡ labels_of ls ++ label_of l ∷ []
labels_pushed ls l = map-append label_of ls (l ∷ [])

-- the first of some claimed expressions
pub claimed_first : (c : Claimed) (cs : List Claimed) → claimed_kinds (c ∷ cs) ≡ object_kinds c ++ claimed_kinds cs
claimed_first (ClaimedVariable i) cs = refl
claimed_first ClaimedNull cs = refl
claimed_first (ClaimedOther e ty) cs = refl

plain_by : (b : Bool) (n : ℕ) → replicate ((if b then 0 else 1) + n) Invariant ≡ (if b then [] else Invariant ∷ []) ++ replicate n Invariant
plain_by true n = ap (λ m. replicate m Invariant) (zero-add n)
plain_by false n = sym (replicate-append-replicate 1 n Invariant)

-- the first of some listed objects
pub plain_first : (i : Listed) (is : List Listed) → replicate (plain_listed (i ∷ is)) Invariant ≡ plain_kinds i ++ replicate (plain_listed is) Invariant
plain_first i is = plain_by i.is_claim (plain_listed is)

end_by : (p : Program) (f : FunctionInfo) (t : Option DeclaredType) → spec.end_labels p f t ≡ end_labels f t
end_by p f None = refl
end_by p f (Some ty) = refl

-- what is left of the listed objects, with one more of them done
pub plain_step : (ls : List Listed) (i : ℕ) (x : Listed) (old new total : List CheckKind) → i < length ls → x ≡ get_or ls i x → new ≡ old ++ plain_kinds x →
    old ++ replicate (plain_listed (drop i ls)) Invariant ≡ total → new ++ replicate (plain_listed (drop (i + 1) ls)) Invariant ≡ total
plain_step ls i x old new total lt is e h =
    let rest = drop (i + 1) ls in
    let first : drop i ls ≡ x ∷ rest = drop_more ls i x lt ∙ ap (λ z. z ∷ rest) (sym is) in
    ap (λ ks. ks ++ replicate (plain_listed rest) Invariant) e ∙ (append_assoc old (plain_kinds x) (replicate (plain_listed rest) Invariant)
    ∙ (ap (λ ks. old ++ ks) (sym (ap (λ zs. replicate (plain_listed zs) Invariant) first ∙ plain_first x rest)) ∙ h))

-- what stands at a function's end
pub end_law : (p : Program) (f : FunctionInfo) → spec.end_labels p f f.result ≡ end_labels f f.result
end_law p f = end_by p f f.result

-- nothing is added, of what isn't there
pub none_added : {X O : Type 0} (f : Option O → List X) (o : Option O) (old : List X) → o ≡ None → f None ≡ [] → old ≡ old ++ f o
none_added f o old e g = sym (ap (λ z. old ++ f z) e ∙ (ap (λ xs. old ++ xs) g ∙ append-nil old))

-- what is there is added
pub some_added : {X O : Type 0} (f : Option O → List X) (o : Option O) (x : O) (old new : List X) → o ≡ Some x → new ≡ old ++ f (Some x) → new ≡ old ++ f o
some_added f o x old new e g = g ∙ ap (λ z. old ++ f z) (sym e)

-- parts that are added one after the other
pub two_parts : {X : Type 0} (old one two a b whole : List X) → one ≡ old ++ a → two ≡ one ++ b → whole ≡ a ++ b → two ≡ old ++ whole
two_parts old one two a b whole e f g = f ∙ (ap (λ xs. xs ++ b) e ∙ (append_assoc old a b ∙ ap (λ xs. old ++ xs) (sym g)))

pub three_parts : {X : Type 0} (old one two three a b c whole : List X) → one ≡ old ++ a → two ≡ one ++ b → three ≡ two ++ c → whole ≡ a ++ b ++ c → three ≡ old ++ whole
three_parts old one two three a b c whole e f g h = two_parts old two three (a ++ b) c whole (two_parts old one two a b (a ++ b) e f refl) g h

pub four_parts : {X : Type 0} (old one two three four a b c d whole : List X) → one ≡ old ++ a → two ≡ one ++ b → three ≡ two ++ c → four ≡ three ++ d → whole ≡ a ++ b ++ c ++ d → four ≡ old ++ whole
four_parts old one two three four a b c d whole e f g h is = two_parts old three four (a ++ b ++ c) d whole (three_parts old one two three a b c (a ++ b ++ c) e f g refl) h is
