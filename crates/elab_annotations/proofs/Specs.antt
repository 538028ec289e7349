-- Expressions of annotations in vectors, which the pure trees have as rows of their own.
use Rattle.std.proofs.Common.{◌≡◌, List, [], ◌∷◌, ◌++◌, refl, sym, ap, ◌∙◌, map}
use Rattle.method.specs.declared.program.Spec as s
use Rattle.typed_program.specs.Trees as t
use Rattle.typed_program.specs.Annotations as a
use Rattle.typed_program.specs.Views.{spec, specs}
use Rattle.typed_program.specs.Views as views
use Rattle.typed_program.proofs.Vectors.{specs_more}
use Rattle.elab_annotations.specs.Typing.{in_row, member}

pub row_seen : (xs : List s.Spec) → views.in_row xs ≡ in_row (specs xs)
row_seen [] = refl
row_seen (x ∷ xs) = ap (t.With (spec x)) (row_seen xs)

-- ---- members of the owned set of `\this`

-- that these are owned, and what else holds
abbrev pub and_onto : List t.Spec → t.Spec → t.Spec
and_onto [] z = z
and_onto (x ∷ xs) z = t.SAnd (member x) (and_onto xs z)

onto_more : (xs : List t.Spec) (y z : t.Spec) → and_onto (xs ++ y ∷ []) z ≡ and_onto xs (t.SAnd (member y) z)
onto_more [] y z = refl
onto_more (x ∷ xs) y z = ap (t.SAnd (member x)) (onto_more xs y z)

and_all_onto : (x : t.Spec) (xs : List t.Spec) (y : t.Spec) → a.and_all (member x) (in_row (map member (xs ++ y ∷ []))) ≡ t.SAnd (member x) (and_onto xs (member y))
and_all_onto x [] y = refl
and_all_onto x (z ∷ zs) y = ap (t.SAnd (member x)) (and_all_onto z zs y)

all_onto : (xs : List t.Spec) (y : t.Spec) → a.all_hold (in_row (map member (xs ++ y ∷ []))) ≡ and_onto xs (member y)
all_onto [] y = refl
all_onto (x ∷ xs) y = and_all_onto x xs y

-- the last of them is taken first
pub last_taken : (all rest : List s.Spec) (y : s.Spec) (z : t.Spec) → all ≡ rest ++ y ∷ [] → z ≡ member (spec y) → a.all_hold (in_row (map member (specs all))) ≡ and_onto (specs rest) z
last_taken all rest y z e f = ap (λ (xs : List s.Spec). a.all_hold (in_row (map member (specs xs)))) e ∙ (ap (λ (xs : List t.Spec). a.all_hold (in_row (map member xs))) (specs_more rest y) ∙ (all_onto (specs rest) (spec y) ∙ ap (and_onto (specs rest)) (sym f)))

-- and then each before it
pub one_taken : (whole : t.Spec) (all rest : List s.Spec) (y : s.Spec) (z m r : t.Spec) → all ≡ rest ++ y ∷ [] → m ≡ member (spec y) → r ≡ t.SAnd m z → whole ≡ and_onto (specs all) z → whole ≡ and_onto (specs rest) r
one_taken whole all rest y z m r e f g h =
    h ∙ (ap (λ (xs : List s.Spec). and_onto (specs xs) z) e ∙ (ap (λ (xs : List t.Spec). and_onto xs z) (specs_more rest y) ∙ (onto_more (specs rest) (spec y) z ∙ ap (and_onto (specs rest)) (sym (g ∙ ap (λ w. t.SAnd w z) f)))))

-- and none is left
pub none_left : (whole : t.Spec) (all : List s.Spec) (z : t.Spec) → all ≡ [] → whole ≡ and_onto (specs all) z → whole ≡ z
none_left whole all z e h = h ∙ ap (λ (xs : List s.Spec). and_onto (specs xs) z) e

pub nothing_held : (all : List s.Spec) → all ≡ [] → a.all_hold (in_row (map member (specs all))) ≡ a.all_hold t.Stop
nothing_held all e = ap (λ (xs : List s.Spec). a.all_hold (in_row (map member (specs xs)))) e
