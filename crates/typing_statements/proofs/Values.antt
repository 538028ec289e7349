-- Values in a row, one by one.
use Rattle.std.proofs.Common.{◌≡◌, ℕ, zero, suc, refl, sym, ◌∙◌, ap, List, [], ◌∷◌, ◌++◌, Option, Some, None, map, length, take, ◌<◌, slice_get, arith, true, false, Bool}
use Rattle.std.specs.Option.{option_map}
use Rattle.std.proofs.lemmas.List.{length-map}
use Rattle.std.proofs.lemmas.List.{map-append}
use Rattle.c_syntax.specs.declared.token.Span.{Span}
use Rattle.c_syntax.specs.Expressions.{Exp}
use Rattle.c_syntax.specs.Grammar.{first_place}
use Rattle.c_syntax.specs.Items.{Param}
use Rattle.typing_spec.specs.Contexts.{Context}
use Rattle.typing_spec.specs.Types.{Kind, kind_of, kind, converts}
use Rattle.typing_spec.specs.Rules as r
use Rattle.typing_spec.specs.Pieces.{expression}
use Rattle.typing_spec.specs.Places.{place_if, fail_together}
use Rattle.typing_spec.specs.Conversions.{Use, to, paired}
use Rattle.typing_spec.specs.First.{Fault, first_of, all_at}
use Rattle.typing_expressions.specs.Violations.{Violations, violations, nothing, broken_if}
use Rattle.typing_expressions.specs.Judging.{unconverted}
use Rattle.typing_expressions.proofs.FoundLaws.{found_none}
use Rattle.typing_expressions.proofs.Rows.{unconverted_append, found_more}
use Rattle.typing_statements.specs.Breaks as b
use Rattle.typing_statements.specs.Views.{Values, values, one_more}

abbrev pub values_by : Violations → Option Fault → Values
values_by f o = record { violations = f; unconverted = o }

values_at : {f f2 : Violations} {o o2 : Option Fault} → f ≡ f2 → o ≡ o2 → values_by f o ≡ values_by f2 o2
values_at p q = λ i. record { violations = p i; unconverted = q i }

pub values_more : (c : Context) (xs : List Exp) (y : Exp) (us vs : List Use) → values c (xs ++ y ∷ []) (us ++ vs) ≡ one_more (values c xs us) (violations (expression c y)) (unconverted vs)
values_more c xs y us vs = values_at (found_more c xs y) (unconverted_append us vs)

-- one value
pub one_value : (u : Use) → unconverted (u ∷ []) ≡ broken_if (fail_together converts u.value u.wanted) r.Conversion u.place
one_value u = go (fail_together converts u.value u.wanted) u.place
  where
    go : (t : Bool) (p : Span) → first_of (all_at r.Conversion (place_if t p ++ [])) ≡ broken_if t r.Conversion p
    go true p = refl
    go false p = refl

-- an argument and its parameter, if there is one
abbrev pub one_pair : Context → Exp → Option Param → List Use
one_pair c y None = []
one_pair c y (Some p) = to (kind_of c.scope.items p.ty) c y ∷ []

pub pair_breaks : (c : Context) (y : Exp) (p : Option Param) → b.mispassed c (kind c.scope y) p (first_place y) ≡ unconverted (one_pair c y p)
pair_breaks c y None = refl
pair_breaks c y (Some p) = sym (one_value (to (kind_of c.scope.items p.ty) c y))

pub paired_more : (c : Context) (xs : List Exp) (y : Exp) (ps : List Param) (i : ℕ) → length xs ≡ i → paired c (xs ++ y ∷ []) ps ≡ paired c xs ps ++ one_pair c y (slice_get ps i)
paired_more c [] y [] i h = refl
paired_more c [] y (p ∷ ps) zero h = refl
paired_more c [] y (p ∷ ps) (suc i) h = absurd (omega arith)
paired_more c (x ∷ xs) y [] i h = refl
paired_more c (x ∷ xs) y (p ∷ ps) zero h = absurd (omega arith)
paired_more c (x ∷ xs) y (p ∷ ps) (suc i) h = ap (λ (us : List Use). to (kind_of c.scope.items p.ty) c x ∷ us) (paired_more c xs y ps i (omega arith))

pub got_of_map : {X Y : Type 0} (f : X → Y) (xs : List X) (i : ℕ) → slice_get (map f xs) i ≡ option_map f (slice_get xs i)
got_of_map f [] i = refl
got_of_map f (x ∷ xs) zero = refl
got_of_map f (x ∷ xs) (suc i) = got_of_map f xs i

take_length : {X : Type 0} (xs : List X) (i : ℕ) → i < length xs → length (take i xs) ≡ i
take_length [] i h = absurd (omega arith)
take_length (x ∷ xs) zero h = refl
take_length (x ∷ xs) (suc i) h = ap suc (take_length xs i (omega arith))

pub taken_length : {X Y : Type 0} (f : X → Y) (xs : List X) (i : ℕ) → i < length xs → length (map f (take i xs)) ≡ i
taken_length f xs i h = length-map (take i xs) f ∙ take_length xs i h

-- one more argument
pub arguments_more : (c : Context) (done : List Exp) (y : Exp) (ps : List Param) (i : ℕ) → length done ≡ i
    → values c (done ++ y ∷ []) (paired c (done ++ y ∷ []) ps) ≡ one_more (values c done (paired c done ps)) (violations (expression c y)) (b.mispassed c (kind c.scope y) (slice_get ps i) (first_place y))
arguments_more c done y ps i h =
    ap (values c (done ++ y ∷ [])) (paired_more c done y ps i h)
    ∙ (values_more c done y (paired c done ps) (one_pair c y (slice_get ps i)) ∙ ap (one_more (values c done (paired c done ps)) (violations (expression c y))) (sym (pair_breaks c y (slice_get ps i))))

-- one more value of which this is wanted
pub values_to_more : (c : Context) (k : Option Kind) (done : List Exp) (y : Exp)
    → values c (done ++ y ∷ []) (map (to k c) (done ++ y ∷ [])) ≡ one_more (values c done (map (to k c) done)) (violations (expression c y)) (broken_if (fail_together converts (kind c.scope y) k) r.Conversion (first_place y))
values_to_more c k done y =
    ap (values c (done ++ y ∷ [])) (map-append (to k c) done (y ∷ []))
    ∙ (values_more c done y (map (to k c) done) (to k c y ∷ []) ∙ ap (one_more (values c done (map (to k c) done)) (violations (expression c y))) (one_value (to k c y)))

pub no_values : (c : Context) → values c [] [] ≡ values_by nothing None
no_values c = values_at found_none refl
