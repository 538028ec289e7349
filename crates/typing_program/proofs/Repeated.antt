-- Names that stand earlier too, one after the other.
use Rattle.std.proofs.Common.{◌≡◌, ℕ, refl, sym, ◌∙◌, ap, append-nil, append_assoc, Bool, true, false, ◌||◌, List, [], ◌∷◌, ◌++◌}
use Rattle.std.specs.List.{list_any}
use Rattle.std.specs.Str.{bytes_eq}
use Rattle.std.proofs.lemmas.List.{map-append}
use Rattle.std.proofs.lemmas.List.Folds.{list_any-append}
use Rattle.std.proofs.lemmas.Slice.Eq.{bytes_eq-Decides}
use Rattle.c_syntax.specs.declared.token.Span.{Span}
use Rattle.c_syntax.specs.Expressions.{Id}
use Rattle.typing_spec.specs.Declarations.{same_name}
use Rattle.typing_spec.specs.Names.{repeated}
use Rattle.typing_spec.specs.Places.{place_if}
use Rattle.typing_spec.specs.Rules as r
use Rattle.typing_spec.specs.Rules.{Rule}
use Rattle.typing_spec.specs.First.{first_of, all_at, earlier}
use Rattle.typing_spec.specs.FirstLaws.{first_append}
use Rattle.typing_expressions.specs.Violations.{broken_if}
use Rattle.typing_program.specs.Violation.{twice}

-- ---- a name among others

-- one of the names is this one
abbrev pub stands : List ℕ → List Id → Bool
stands y = list_any (λ n. bytes_eq n.name y)

same_truth : (a b : Bool) → (a ≡ true → b ≡ true) → (b ≡ true → a ≡ true) → a ≡ b
same_truth true b h k = sym (h refl)
same_truth false true h k = k refl
same_truth false false h k = refl

turned : (xs ys : List ℕ) → bytes_eq xs ys ≡ bytes_eq ys xs
turned xs ys = same_truth (bytes_eq xs ys) (bytes_eq ys xs) (λ h. (bytes_eq-Decides ys xs).1 (sym ((bytes_eq-Decides xs ys).0 h))) (λ h. (bytes_eq-Decides xs ys).1 (sym ((bytes_eq-Decides ys xs).0 h)))

or_with : {a a2 b b2 : Bool} → a ≡ a2 → b ≡ b2 → (a || b) ≡ (a2 || b2)
or_with p q = λ i. p i || q i

stands_is : (y : Id) (ns : List Id) → stands y.name ns ≡ list_any (same_name y) ns
stands_is y [] = refl
stands_is y (n ∷ ns) = or_with (turned n.name y.name) (stands_is y ns)

or_turned : (a b : Bool) → (a || (b || false)) ≡ (b || a)
or_turned true true = refl
or_turned true false = refl
or_turned false true = refl
or_turned false false = refl

-- with one more behind
pub stands_more : (y : List ℕ) (ns : List Id) (n : Id) → stands y (ns ++ n ∷ []) ≡ (bytes_eq n.name y || stands y ns)
stands_more y ns n = list_any-append (λ (m : Id). bytes_eq m.name y) ns (n ∷ []) ∙ or_turned (stands y ns) (bytes_eq n.name y)

-- ---- the places of the later ones

or_false : (a : Bool) → a ≡ (a || false)
or_false true = refl
or_false false = refl

or_moved : (a b d : Bool) → ((a || b) || d) ≡ (b || (a || d))
or_moved true true d = refl
or_moved true false d = refl
or_moved false true d = refl
or_moved false false d = refl

repeated_more : (earlier ns : List Id) (y : Id) → repeated earlier (ns ++ y ∷ []) ≡ repeated earlier ns ++ place_if (list_any (same_name y) earlier || list_any (same_name y) ns) y.place
repeated_more earlier [] y = append-nil (place_if (list_any (same_name y) earlier) y.place) ∙ ap (λ (b : Bool). place_if b y.place) (or_false (list_any (same_name y) earlier))
repeated_more earlier (n ∷ ns) y =
    let here = place_if (list_any (same_name n) earlier) n.place in
    ap (λ (ps : List Span). here ++ ps)
    (repeated_more (n ∷ earlier) ns y ∙ ap (λ (b : Bool). repeated (n ∷ earlier) ns ++ place_if b y.place) (or_moved (same_name y n) (list_any (same_name y) earlier) (list_any (same_name y) ns)))
    ∙ sym (append_assoc here (repeated (n ∷ earlier) ns) (place_if (list_any (same_name y) earlier || (same_name y n || list_any (same_name y) ns)) y.place))

-- a test of one rule
pub alone : (b : Bool) (rule : Rule) (p : Span) → first_of (all_at rule (place_if b p)) ≡ broken_if b rule p
alone true rule p = refl
alone false rule p = refl

pub twice_more : (ns : List Id) (y : Id) → twice (ns ++ y ∷ []) ≡ earlier (twice ns) (broken_if (stands y.name ns) r.DeclaredTwice y.place)
twice_more ns y =
    let b = list_any (same_name y) ns in
    ap (λ (ps : List Span). first_of (all_at r.DeclaredTwice ps)) (repeated_more [] ns y)
    ∙ (ap first_of (map-append (λ (p : Span). (r.DeclaredTwice, p)) (repeated [] ns) (place_if b y.place))
    ∙ (first_append (all_at r.DeclaredTwice (repeated [] ns)) (all_at r.DeclaredTwice (place_if b y.place))
    ∙ ap (earlier (twice ns)) (alone b r.DeclaredTwice y.place ∙ ap (λ (d : Bool). broken_if d r.DeclaredTwice y.place) (sym (stands_is y ns)))))
