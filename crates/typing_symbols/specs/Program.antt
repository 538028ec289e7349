-- What the items of a program declare, as the code holds it.
use Rattle.std.specs.Prelude.{ℕ, Bool, List, [], ◌∷◌}
use Rattle.std.specs.Str.{bytes_eq}
use Rattle.c_syntax.specs.declared.items.FieldDeclaration.{FieldDeclaration}
use Rattle.c_syntax.specs.declared.items.Function.{Function}
use Rattle.c_syntax.specs.declared.items.Item.{Item}
use Rattle.c_syntax.specs.declared.items.Item.TheVariants as items
use Rattle.c_syntax.specs.declared.items.Member.{Member}
use Rattle.c_syntax.specs.declared.items.Member.TheVariants as members
use Rattle.c_syntax.specs.declared.items.Struct.{Struct}

-- whether a field has this name. From ISO/IEC 9899 6.2.3: each struct has names of fields of its own
abbrev pub is_field : List ℕ → FieldDeclaration → Bool
is_field y f = bytes_eq f.name.name.items y

-- the fields among members, in the order of the text. Own
abbrev pub fields_in : List Member → List FieldDeclaration
fields_in [] = []
fields_in (members.Field f ∷ more) = f ∷ fields_in more
fields_in (members.Invariant i ∷ more) = fields_in more

-- whether a struct, a function has this name. From ISO/IEC 9899 6.2.3: the two kinds of names are apart
abbrev pub is_struct : List ℕ → Struct → Bool
is_struct y s = bytes_eq s.name.name.items y

abbrev pub is_function : List ℕ → Function → Bool
is_function y f = bytes_eq f.name.name.items y

-- the structs and the functions, in the order of the text. Own
abbrev pub structs_in : List Item → List Struct
structs_in [] = []
structs_in (items.Struct s ∷ more) = s ∷ structs_in more
structs_in (items.Function f ∷ more) = structs_in more

abbrev pub functions_in : List Item → List Function
functions_in [] = []
functions_in (items.Struct s ∷ more) = functions_in more
functions_in (items.Function f ∷ more) = f ∷ functions_in more
