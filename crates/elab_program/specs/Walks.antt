-- A program item by item: what each adds to the tables. Own.
use Rattle.std.specs.Prelude.{ℕ, ◌+◌, if◌then◌else◌, List, [], ◌∷◌, ◌++◌, map, flat_map, get_or}
use Rattle.c_syntax.specs.Items as i
use Rattle.c_syntax.specs.Items.{FunctionTree, StructTree, Item, Member}
use Rattle.typing_spec.specs.Declarations.{is_approval}
use Rattle.method.specs.declared.program.Item.TheVariants as m
use Rattle.method.specs.declared.program.Item as places
use Rattle.typed_program.specs.Annotations.{spec}
use Rattle.typed_program.specs.Numbers.{Around}
use Rattle.typed_program.specs.Shapes.{Sorts}
use Rattle.typed_program.specs.Sites.{Occurrence, Says, Makes, all_occurrences}
use Rattle.typed_program.specs.Statements.{Counters}
use Rattle.typed_program.specs.Tables as tables
use Rattle.typed_program.specs.Trees as t
use Rattle.elab_program.specs.Functions.{function}

-- an item before which so many of these structs stand. Own
abbrev pub declared_at : List StructTree → ℕ → Item → Item
declared_at ss n (i.Struct s) = i.Struct (get_or ss n s)
declared_at ss n (i.Function h) = i.Function h

-- how many structs stand behind an item. Own
abbrev pub structs_behind : ℕ → Item → ℕ
structs_behind n (i.Struct s) = n + 1
structs_behind n (i.Function h) = n

-- how many functions stand behind an item. Own
abbrev pub functions_after : ℕ → Item → ℕ
functions_after n (i.Struct s) = n
functions_after n (i.Function h) = n + 1

-- ---- what is told

-- what a member of a struct says, if it is no approval. Own
abbrev pub member_occurrences : Around → ℕ → Member → List Occurrence
member_occurrences a n (i.Field f) = []
member_occurrences a n (i.Invariant x) = if is_approval x.property then [] else Says (spec a n x.property) ∷ []

-- what a struct's invariants say, whose first quantified formula has this number. Own
abbrev pub members_occurrences : Around → ℕ → List Member → List Occurrence
members_occurrences a n xs = map Says (tables.each_invariant (λ k x. spec a k x ∷ []) n (tables.invariants_of xs))

-- what a contract says, and then the statements. Own
abbrev pub occurrences_of : Around → ℕ → FunctionTree → List Occurrence
occurrences_of a f h = flat_map (tables.clause_occurrences a) h.contract ++ all_occurrences a f h.body.all

-- ---- what an item adds

-- to the shapes, where so many functions stand before it. Own
abbrev pub shapes_of : List Item → ℕ → Item → List t.Shape
shapes_of items f (i.Struct s) = flat_map (tables.told_shapes tables.no_sorts) (tables.struct_occurrences items s)
shapes_of items f (i.Function h) = flat_map (tables.told_shapes (tables.function_sorts items h)) (tables.function_occurrences items f h)

-- to the claim sites. Own
abbrev pub sites_of : List t.Shape → List Item → ℕ → Item → List t.ClaimSite
sites_of l items f (i.Struct s) = []
sites_of l items f (i.Function h) = map (tables.claim_site l (tables.function_sorts items h)) (tables.sites_told (tables.function_occurrences items f h))

-- to the claim sites by a text. Own
abbrev pub sites_in : List t.Shape → Sorts → Occurrence → List t.ClaimSite
sites_in l s (Says x) = []
sites_in l s (Makes x) = tables.claim_site l s x ∷ []

-- to the structs, with numbered shapes. Own
abbrev pub struct_of : List t.Shape → List Item → Counters → Item → List t.StructInfo
struct_of l items n (i.Struct s) = tables.numbered_struct l (tables.struct items n.formulas s) ∷ []
struct_of l items n (i.Function h) = []

-- to the functions, with numbered shapes. Own
abbrev pub function_of : List t.Shape → List Item → Counters → Item → List t.FunctionInfo
function_of l items n (i.Struct s) = []
function_of l items n (i.Function h) = function items l n h ∷ []

-- all structs, and all functions. Own
abbrev pub all_structs : List t.Shape → List Item → Counters → List Item → List t.StructInfo
all_structs l items n xs = map (tables.numbered_struct l) (tables.struct_table items n xs)

abbrev pub all_functions : List t.Shape → List Item → Counters → List Item → List t.FunctionInfo
all_functions l items n xs = map (λ f. tables.numbered_function l (tables.sorts_of f) f) (tables.function_table items n xs)

-- to the order of structs and functions. Own
abbrev pub place_of_item : ℕ → ℕ → Item → places.Item
place_of_item s f (i.Struct x) = m.Struct s
place_of_item s f (i.Function x) = m.Function f
