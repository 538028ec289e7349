-- How many fields stand before a struct.
use Rattle.std.proofs.Common.{◌≡◌, ◌<◌, ◌+◌, ℕ, suc, zero, List, [], ◌∷◌, ◌++◌, length, map, take, get_or, refl, sym, ap, ◌∙◌, arith}
use Rattle.c_syntax.specs.declared.items.Struct.{Struct}
use Rattle.c_syntax.specs.Views as view
use Rattle.typing_spec.specs.Declarations.{fields, structs}
use Rattle.typing_symbols.specs.Program.{fields_in, structs_in}
use Rattle.typing_symbols.specs.Counts.{field_count, starts}
use Rattle.std.proofs.lemmas.List.{take_more, take-map, length-map}
use Rattle.c_syntax.specs.declared.items.Item.{Item}
use Rattle.typing_symbols.proofs.Declared.{view_fields, view_structs}

-- how many fields structs have, as the code holds them
abbrev pub counted : List Struct → ℕ
counted [] = 0
counted (s ∷ ss) = length (fields_in s.members.items) + counted ss

pub counted_append : (xs : List Struct) (y : Struct) → counted (xs ++ y ∷ []) ≡ counted xs + length (fields_in y.members.items)
counted_append [] y = omega arith
counted_append (x ∷ xs) y = let more = counted_append xs y in omega (arith, more)

starts_append : (k : ℕ) (xs : List Struct) (y : Struct) → starts k (xs ++ y ∷ []) ≡ starts k xs ++ (k + counted xs) ∷ []
starts_append k [] y = let same : k ≡ k + 0 = omega arith in ap (λ n. n ∷ []) same
starts_append k (x ∷ xs) y =
    let n = length (fields_in x.members.items) in
    let same : (k + n) + counted xs ≡ k + (n + counted xs) = omega arith in
    ap (λ l. k ∷ l) (starts_append (k + n) xs y ∙ ap (λ m. starts (k + n) xs ++ m ∷ []) same)

map_push : {X : Type 0} (f : X → Struct) (xs : List X) (y : X) → map f (xs ++ y ∷ []) ≡ map f xs ++ f y ∷ []
map_push f [] y = refl
map_push f (x ∷ xs) y = ap (λ l. f x ∷ l) (map_push f xs y)

-- a loop's step
pub one_more_start : {X : Type 0} (tree : X → Struct) (es : List X) (i : ℕ) (e : X) (all : List ℕ) (count : ℕ) → i < length es → e ≡ get_or es i e
    → all ≡ starts 0 (map tree (take i es)) → count ≡ counted (map tree (take i es)) → all ++ count ∷ [] ≡ starts 0 (map tree (take (i + 1) es))
one_more_start tree es i e all count within there so_far counts =
    ap (λ l. l ++ count ∷ []) so_far ∙ ap (λ n. starts 0 (map tree (take i es)) ++ n ∷ []) (counts ∙ zero_left (counted (map tree (take i es))))
    ∙ sym (starts_append 0 (map tree (take i es)) (tree e)) ∙ ap (starts 0) (sym (map_push tree (take i es) e)) ∙ ap (λ l. starts 0 (map tree l)) (ap (λ z. take i es ++ z ∷ []) there ∙ sym (take_more es i e within))
  where
    zero_left : (n : ℕ) → n ≡ 0 + n
    zero_left n = omega arith

pub length_starts : (k : ℕ) (ss : List Struct) → length (starts k ss) ≡ length ss
length_starts k [] = refl
length_starts k (s ∷ ss) = let more = length_starts (k + length (fields_in s.members.items)) ss in omega (arith, more)

start_at : (k i d : ℕ) (ss : List Struct) → i < length ss → get_or (starts k ss) i d ≡ k + counted (take i ss)
start_at k i d [] within = absurd (omega (arith, within))
start_at k zero d (s ∷ ss) within = let same : k ≡ k + 0 = omega arith in same
start_at k (suc i) d (s ∷ ss) within =
    let n = length (fields_in s.members.items) in
    let lt : i < length ss = omega (arith, within) in
    let more = start_at (k + n) i d ss lt in
    let same : (k + n) + counted (take i ss) ≡ k + (n + counted (take i ss)) = omega arith in
    more ∙ same

counted_view : (ss : List Struct) → counted ss ≡ field_count (map view.struct ss)
counted_view [] = refl
counted_view (s ∷ ss) = let one = sym (length-map (fields_in s.members.items) view.field) ∙ ap length (view_fields s.members.items) in let more = counted_view ss in omega (arith, one, more)

-- what stands at a struct's place among the starts
pub start_is : (items : List Item) (all : List ℕ) (i x : ℕ) → all ≡ starts 0 (structs_in items) → i < length (structs_in items) → x ≡ get_or all i x → x ≡ field_count (take i (structs (map view.item items)))
start_is items all i x e within there =
    let ss = structs_in items in
    let zero_left : 0 + counted (take i ss) ≡ counted (take i ss) = omega arith in
    there ∙ ap (λ l. get_or l i x) e ∙ start_at 0 i x ss within ∙ zero_left ∙ counted_view (take i ss) ∙ ap field_count (sym (take-map view.struct i ss)) ∙ ap (λ l. field_count (take i l)) (view_structs items)

-- a loop's step of the count
pub one_more_count : {X : Type 0} (tree : X → Struct) (es : List X) (i : ℕ) (e : X) (count more n : ℕ) → i < length es → e ≡ get_or es i e
    → count ≡ counted (map tree (take i es)) → n ≡ length (fields (map view.member (tree e).members.items)) → more ≡ count + n → more ≡ counted (map tree (take (i + 1) es))
one_more_count tree es i e count more n within there counts size sum =
    let fields_here = sym (length-map (fields_in (tree e).members.items) view.field) ∙ ap length (view_fields (tree e).members.items) in
    let grown = counted_append (map tree (take i es)) (tree e) in
    let same = ap counted (sym (map_push tree (take i es) e) ∙ ap (map tree) (ap (λ z. take i es ++ z ∷ []) there ∙ sym (take_more es i e within))) in
    let total : more ≡ counted (map tree (take i es) ++ tree e ∷ []) = omega (arith, counts, size, sum, fields_here, grown) in
    total ∙ same
