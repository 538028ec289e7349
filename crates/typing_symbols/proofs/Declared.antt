-- The structs and the functions of a program, and the fields of a struct.
use Rattle.std.proofs.Common.{◌≡◌, ◌<◌, ◌+◌, ℕ, List, [], ◌∷◌, ◌++◌, length, map, take, get_or, refl, sym, ap, ◌∙◌}
use Rattle.std.proofs.lemmas.List.{take_more}
use Rattle.c_syntax.specs.declared.items.FieldDeclaration.{FieldDeclaration}
use Rattle.c_syntax.specs.declared.items.Function.{Function}
use Rattle.c_syntax.specs.declared.items.Item.{Item}
use Rattle.c_syntax.specs.declared.items.Item.TheVariants as m
use Rattle.c_syntax.specs.declared.items.Member.{Member}
use Rattle.c_syntax.specs.declared.items.Member.TheVariants as ms
use Rattle.c_syntax.specs.declared.items.Struct.{Struct}
use Rattle.c_syntax.specs.Views as view
use Rattle.typing_spec.specs.Declarations as spec
use Rattle.typing_symbols.specs.Program.{fields_in, structs_in, functions_in}

structs_append : (xs ys : List Item) → structs_in (xs ++ ys) ≡ structs_in xs ++ structs_in ys
structs_append [] ys = refl
structs_append (m.Struct s ∷ xs) ys = ap (λ l. s ∷ l) (structs_append xs ys)
structs_append (m.Function f ∷ xs) ys = structs_append xs ys

functions_append : (xs ys : List Item) → functions_in (xs ++ ys) ≡ functions_in xs ++ functions_in ys
functions_append [] ys = refl
functions_append (m.Struct s ∷ xs) ys = functions_append xs ys
functions_append (m.Function f ∷ xs) ys = ap (λ l. f ∷ l) (functions_append xs ys)

fields_append : (xs ys : List Member) → fields_in (xs ++ ys) ≡ fields_in xs ++ fields_in ys
fields_append [] ys = refl
fields_append (ms.Field f ∷ xs) ys = ap (λ l. f ∷ l) (fields_append xs ys)
fields_append (ms.Invariant x ∷ xs) ys = fields_append xs ys

module _ {X Y : Type 0} (f : List X → List Y) (append : (xs ys : List X) → f (xs ++ ys) ≡ f xs ++ f ys) where
  -- a loop's step: what was found among the elements so far, and one more
  one_more : (xs : List X) (i : ℕ) (x : X) (before after : List Y) → i < length xs → x ≡ get_or xs i x → before ≡ f (take i xs) → after ≡ before ++ f (x ∷ []) → after ≡ f (take (i + 1) xs)
  one_more xs i x before after within there so_far added =
      added ∙ ap (λ l. l ++ f (x ∷ [])) so_far ∙ sym (append (take i xs) (x ∷ [])) ∙ ap f (ap (λ z. take i xs ++ z ∷ []) there ∙ sym (take_more xs i x within))

pub one_more_struct : (xs : List Item) (i : ℕ) (x : Item) (before after : List Struct) → i < length xs → x ≡ get_or xs i x → before ≡ structs_in (take i xs) → after ≡ before ++ structs_in (x ∷ []) → after ≡ structs_in (take (i + 1) xs)
one_more_struct = one_more structs_in structs_append

pub one_more_function : (xs : List Item) (i : ℕ) (x : Item) (before after : List Function) → i < length xs → x ≡ get_or xs i x → before ≡ functions_in (take i xs) → after ≡ before ++ functions_in (x ∷ []) → after ≡ functions_in (take (i + 1) xs)
one_more_function = one_more functions_in functions_append

pub one_more_field : (xs : List Member) (i : ℕ) (x : Member) (before after : List FieldDeclaration) → i < length xs → x ≡ get_or xs i x → before ≡ fields_in (take i xs) → after ≡ before ++ fields_in (x ∷ []) → after ≡ fields_in (take (i + 1) xs)
one_more_field = one_more fields_in fields_append

pub view_fields : (xs : List Member) → map view.field (fields_in xs) ≡ spec.fields (map view.member xs)
view_fields [] = refl
view_fields (ms.Field f ∷ xs) = ap (λ l. view.field f ∷ l) (view_fields xs)
view_fields (ms.Invariant x ∷ xs) = view_fields xs

pub view_structs : (xs : List Item) → map view.struct (structs_in xs) ≡ spec.structs (map view.item xs)
view_structs [] = refl
view_structs (m.Struct s ∷ xs) = ap (λ l. view.struct s ∷ l) (view_structs xs)
view_structs (m.Function f ∷ xs) = view_structs xs

view_functions : (xs : List Item) → map view.function (functions_in xs) ≡ spec.functions (map view.item xs)
view_functions [] = refl
view_functions (m.Struct s ∷ xs) = view_functions xs
view_functions (m.Function f ∷ xs) = ap (λ l. view.function f ∷ l) (view_functions xs)

map_map : {X Y Z : Type 0} (f : X → Y) (g : Y → Z) (xs : List X) → map (λ x. g (f x)) xs ≡ map g (map f xs)
map_map f g [] = refl
map_map f g (x ∷ xs) = ap (λ l. g (f x) ∷ l) (map_map f g xs)

-- fields that a struct's members are, in their order
pub fields_view : {X : Type 0} (tree : X → FieldDeclaration) (es : List X) (members : List Member) → map tree es ≡ fields_in members → map (λ e. view.field (tree e)) es ≡ spec.fields (map view.member members)
fields_view tree es members e = map_map tree view.field es ∙ ap (map view.field) e ∙ view_fields members

-- entries that hold the structs of items, in their order
pub entries_view : {X : Type 0} (tree : X → Struct) (es : List X) (items : List Item) → map tree es ≡ structs_in items → map (λ e. view.struct (tree e)) es ≡ spec.structs (map view.item items)
entries_view tree es items e = map_map tree view.struct es ∙ ap (map view.struct) e ∙ view_structs items

pub functions_view : {X : Type 0} (tree : X → Function) (es : List X) (items : List Item) → map tree es ≡ functions_in items → map (λ e. view.function (tree e)) es ≡ spec.functions (map view.item items)
functions_view tree es items e = map_map tree view.function es ∙ ap (map view.function) e ∙ view_functions items
