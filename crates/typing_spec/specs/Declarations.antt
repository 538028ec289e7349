-- What the items of a program declare. From ISO/IEC 9899 6.2.1 and 6.2.3; own: a struct, function or field is known in the whole text, and of two with one name the first counts.
use Rattle.std.specs.Prelude.{Bool, true, false, List, [], ◌∷◌, Option, Some, None, find, bytes_eq, is_some}
use Rattle.std.specs.List.{list_any}
use Rattle.c_syntax.specs.declared.tree.Attribute.{Attribute}
use Rattle.c_syntax.specs.declared.tree.Attribute.TheVariants as a
use Rattle.c_syntax.specs.Expressions as e
use Rattle.c_syntax.specs.Expressions.{Id, Exp}
use Rattle.c_syntax.specs.Items as i
use Rattle.c_syntax.specs.Items.{FunctionTree, FieldTree, Member, StructTree, Item}

abbrev pub same_name : Id → Id → Bool
same_name x y = bytes_eq x.name y.name

abbrev pub structs : List Item → List StructTree
structs [] = []
structs (i.Struct s ∷ items) = s ∷ structs items
structs (i.Function f ∷ items) = structs items

abbrev pub functions : List Item → List FunctionTree
functions [] = []
functions (i.Struct s ∷ items) = functions items
functions (i.Function f ∷ items) = f ∷ functions items

abbrev pub fields : List Member → List FieldTree
fields [] = []
fields (i.Field f ∷ members) = f ∷ fields members
fields (i.Invariant x ∷ members) = fields members

-- the struct, the function and the struct's field that a name stands for
abbrev pub find_struct : List Item → Id → Option StructTree
find_struct items x = find (λ s. same_name s.name x) (structs items)

abbrev pub find_function : List Item → Id → Option FunctionTree
find_function items x = find (λ f. same_name f.name x) (functions items)

abbrev pub find_field : StructTree → Id → Option FieldTree
find_field s x = find (λ f. same_name f.name x) (fields s.members)

-- the attributes of a struct
abbrev pub says_claimable : Attribute → Bool
says_claimable a.Claimable = true
says_claimable _ = false

abbrev pub says_dynamic : Attribute → Bool
says_dynamic a.DynamicOwns = true
says_dynamic _ = false

abbrev pub says_volatile : Attribute → Bool
says_volatile a.VolatileOwns = true
says_volatile _ = false

abbrev pub is_claimable : StructTree → Bool
is_claimable s = list_any says_claimable s.attributes

abbrev pub has_dynamic_owns : StructTree → Bool
has_dynamic_owns s = list_any says_dynamic s.attributes

abbrev pub has_volatile_owns : StructTree → Bool
has_volatile_owns s = list_any says_volatile s.attributes

-- ---- owner approval

-- the field that an invariant approves: it is `\approves(\this->\owner, f)`, brackets apart
abbrev pub approved_field : Exp → Option Id
approved_field (e.Group p x) = approved_field x
approved_field (e.Approves p x) = Some x
approved_field _ = None

abbrev pub is_approval : Exp → Bool
is_approval x = is_some (approved_field x)

abbrev pub names_field : Id → Option Id → Bool
names_field x None = false
names_field x (Some y) = same_name x y

abbrev pub approves_field : Id → Member → Bool
approves_field x (i.Field f) = false
approves_field x (i.Invariant y) = names_field x (approved_field y.property)

abbrev pub member_is_approval : Member → Bool
member_is_approval (i.Field f) = false
member_is_approval (i.Invariant x) = is_approval x.property

-- an invariant of the struct approves the field
abbrev pub is_approved : StructTree → Id → Bool
is_approved s x = list_any (approves_field x) s.members

-- the struct has an invariant of approval
abbrev pub has_approval : StructTree → Bool
has_approval s = list_any member_is_approval s.members
