-- Rows of the grammar, as the reader goes through them.
use Rattle.std.specs.Prelude.{List, [], ◌∷◌, Option}
use Rattle.ebnf.specs.Rules.{below, nothing, by_next, many, form}
use Rattle.c_syntax.specs.declared.token.Span.{Span}
use Rattle.c_syntax.specs.declared.token.Keyword.TheVariants as k
use Rattle.c_syntax.specs.declared.token.Sign.TheVariants as s
use Rattle.c_syntax.specs.declared.tree.Attribute.{Attribute}
use Rattle.c_syntax.specs.Classes.{key, sign}
use Rattle.c_syntax.specs.Expressions.{Id, Ty}
use Rattle.c_syntax.specs.Items as i
use Rattle.c_syntax.specs.Items.{Param, FunctionTree, Item}
use Rattle.c_syntax.specs.Grammar as g
use Rattle.c_syntax.specs.Grammar.{P, R, ◌▷◌, word, name}
use Rattle.reader_items.specs.Rows.{clauses, attributes}

-- ---- functions

-- what stands behind the parameters of a function
abbrev pub contract_tail : P (List Param → List Param → Span → Id → Span → Option Ty → FunctionTree)
contract_tail = word (sign s.Close) ▷ clauses ▷ below g.BlockOf (λ x. x) ▷ nothing (λ b cs c gs ps o n p ty. record { place = p; value = ty; name = n; parameters = ps; ghost_parameters = gs; contract = cs; body = b })

-- a function that gives a number or nothing
abbrev pub typed_function : R Item
typed_function = form (g.result_type ▷ name ▷ g.function_tail ▷ nothing (λ f n ty. i.Function (f n ty.0 ty.1)))

-- ---- structs

-- the members of a struct that has no attributes
abbrev pub plain_struct : P (Id → Span → Item)
plain_struct = g.struct_tail ▷ nothing (λ f n p. i.Struct (f n p []))

-- what stands behind `struct` and a name
abbrev pub behind_struct_name : P (Id → Span → Item)
behind_struct_name = by_next plain_struct g.pointer_function

-- an item that begins with `struct`
abbrev pub struct_or_function : R Item
struct_or_function = form (word (key k.Struct) ▷ name ▷ behind_struct_name ▷ nothing (λ f n p. f n p))

-- a struct, as what it makes of its attributes
abbrev pub named_struct : P (List Attribute → Item)
named_struct = word (key k.Struct) ▷ name ▷ g.struct_tail ▷ nothing (λ f n p as'. i.Struct (f n p as'))

-- the same, as what it makes of a first list of attributes and of the further ones
abbrev pub listed_struct : P (List (List Attribute) → List Attribute → Item)
listed_struct = word (key k.Struct) ▷ name ▷ g.struct_tail ▷ nothing (λ f n p more one. i.Struct (f n p (g.concat (one ∷ more))))

-- a struct with attributes, as the grammar has it
abbrev pub attributed : P Item
attributed = g.attribute_list ▷ many g.attribute_list (λ xs. xs) ▷ listed_struct

-- attributes as one list, and a struct
abbrev pub attributes_and_struct : P Item
attributes_and_struct = attributes ▷ named_struct

-- a struct with attributes, as an item
abbrev pub attributed_rule : R Item
attributed_rule = form attributed

-- ---- programs

-- one item
abbrev pub one_item : P Item
one_item = below g.ItemOf (λ x. x)

-- an item at least
abbrev pub items : P (List Item)
items = one_item ▷ many one_item (λ xs. xs) ▷ nothing (λ xs x. x ∷ xs)
