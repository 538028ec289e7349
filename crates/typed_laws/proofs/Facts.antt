-- What the laws of expressions, statements and claims ask of a program's tables, and of what stands around a text.
use Rattle.std.specs.Prelude.{◌≡◌, ℕ, zero, suc, ◌+◌, ◌≤◌, ◌<◌, Bool, true, false, ◌&&◌, int_le, List, [], ◌∷◌, length, map, Some, None, Contains, slice_get, IsTrue, bytes_eq, option_map}
use Rattle.int_ranges.specs.declared.ctype.CType.{CType}
use Rattle.int_ranges.specs.Ranges.{least_of, greatest_of}
use Rattle.c_syntax.specs.Expressions.{Id}
use Rattle.c_syntax.specs.Items.{FunctionTree, FieldTree, StructTree, Item}
use Rattle.typing_spec.specs.Declarations.{structs, functions, find_function, find_field, has_dynamic_owns, has_volatile_owns}
use Rattle.typing_spec.specs.Contexts as texts
use Rattle.typing_spec.specs.Contexts.{Text, Context, Scope, Variable}
use Rattle.typing_spec.specs.Types as k
use Rattle.typing_spec.specs.Types.{Kind}
use Rattle.typing_spec.specs.TypeLaws.{IsKnown}
use Rattle.method.specs.declared.program.DeclaredType.TheVariants.{Pointer, Object, Claim}
use Rattle.method.specs.Typing.{Values, Ints, Nulls, Refs}
use Rattle.typed_program.specs.Trees.{StructInfo, FunctionInfo, ClaimSite, Program}
use Rattle.typed_program.specs.Numbers.{Around, place_of, struct_number, function_number, field_number, declared_type}
use Rattle.typed_program.specs.Variables.{variables}
use Rattle.typed_program.specs.Statements.{Counters, in_statements}
use Rattle.typed_program.specs.Sites.{Site, all_occurrences}
use Rattle.typed_program.specs.Tables.{around_function, field, variable, struct, function, numbered_struct, numbered_function, function_sorts, sorts_of, sites_told, claim_site, shapes, program}
use Rattle.typed_laws.proofs.Tests.{struct_of}

-- the struct is in the table, under its number
pub record StructAt (items : List Item) (p : Program) (s : StructTree) : Type 0 where
  pub info : StructInfo
  pub is : struct_of p (struct_number items s.name) ≡ Some info
  pub dynamic : info.has_dynamic_owns ≡ has_dynamic_owns s
  pub volatile : info.has_volatile_owns ≡ has_volatile_owns s

-- the function is in the table, under its number
pub record FunctionAt (items : List Item) (p : Program) (n : ℕ) (h : FunctionTree) : Type 0 where
  pub info : FunctionInfo
  pub is : slice_get p.functions n ≡ Some info
  pub value : info.value ≡ option_map (declared_type items) h.value
  pub parameters : info.parameters ≡ length h.parameters + length h.ghost_parameters
  pub variables : info.variables ≡ map (variable items) (variables h)

-- what a name stands for is in the tables, under its number
pub record Tables (items : List Item) (p : Program) : Type 0 where
  pub structs_at : (s : StructTree) → Contains (structs items) s → StructAt items p s
  -- so a struct's number is its own
  pub one_number : (s u : StructTree) → Contains (structs items) s → Contains (structs items) u → struct_number items s.name ≡ struct_number items u.name → s ≡ u
  pub fields_at : (s : StructTree) (x : Id) (g : FieldTree) → Contains (structs items) s → find_field s x ≡ Some g → slice_get p.fields (field_number items s x) ≡ Some (field items s g)
  pub functions_at : (x : Id) (h : FunctionTree) → find_function items x ≡ Some h → FunctionAt items p (function_number items x) h

-- a variable of the function stands in its table, under the number of its name
abbrev pub Numbered : List Item → FunctionInfo → List (List ℕ) → Variable → Type 0
Numbered items f names v = slice_get f.variables (place_of (λ n. bytes_eq n v.name.name) names) ≡ Some (variable items v)

-- What stands around code of a function with this entry in the table.
pub record InCode (items : List Item) (f : FunctionInfo) (a : Around) : Type 0 where
  pub items_are : a.context.scope.items ≡ items
  pub no_bound : a.bound ≡ 0
  pub no_this : a.context.scope.this ≡ None
  pub no_result : a.context.scope.result ≡ None
  pub known : IsKnown a.context.scope
  pub numbered : (v : Variable) → Contains a.context.scope.variables v → Numbered items f a.names v

-- text that runs, or ghost code
abbrev pub runs : Text → Bool
runs texts.Code = true
runs texts.GhostCode = true
runs _ = false

-- the integers of these values are of the type
abbrev pub Within : CType → Values → Type 0
Within c (Ints low high) = IsTrue (int_le (least_of c) low && int_le high (greatest_of c))
Within c Nulls = ⊥
Within c (Refs ty) = ⊥

-- what values an expression of this kind has; c is its type where it is an integer
abbrev pub Agrees : List Item → Kind → CType → Values → Type 0
Agrees items k.Integer c v = Within c v
Agrees items k.Null c v = v ≡ Nulls
Agrees items (k.Pointer s) c v = v ≡ Refs (Pointer (struct_number items s.name))
Agrees items k.Object c v = v ≡ Refs Object
Agrees items k.Claim c v = v ≡ Refs Claim
Agrees items k.OwnedSet c v = ⊥
Agrees items k.Void c v = ⊥

-- the claim sites from one number up to another are those of the function with number k
abbrev pub SitesOf : Program → ℕ → ℕ → ℕ → Type 0
SitesOf p k low high = (j : ℕ) → low ≤ j → j < high → (s : ClaimSite) × (slice_get p.sites j ≡ Some s) × (s.function ≡ k)

-- ---- what stands in the tables of a program

-- an entry of the table of structs is that of a struct of the items
pub record StructOf (items : List Item) (info : StructInfo) : Type 0 where
  pub tree : StructTree
  pub formulas : ℕ
  pub in_items : Contains (structs items) tree
  pub is : info ≡ numbered_struct (shapes items) (struct items formulas tree)

-- how many claims the functions in front of one make
abbrev pub claims_before : ℕ → List FunctionTree → ℕ
claims_before zero hs = 0
claims_before (suc k) [] = 0
claims_before (suc k) (h ∷ hs) = (in_statements h.body.all).sites + claims_before k hs

-- the claims that a function's body tells of, where the function has this number
abbrev pub told_in : List Item → ℕ → FunctionTree → List Site
told_in items k h = sites_told (all_occurrences (around_function items h) k h.body.all)

-- the entry of the table of functions with number k is that of a function of the items, whose first numbers are these
pub record FunctionOf (items : List Item) (k : ℕ) (info : FunctionInfo) : Type 0 where
  pub tree : FunctionTree
  pub before : Counters
  pub in_items : Contains (functions items) tree
  pub is : info ≡ numbered_function (shapes items) (sorts_of (function items before tree)) (function items before tree)
  pub sites : SitesOf (program items) k before.sites (before.sites + (in_statements tree.body.all).sites)
  -- its claims stand in the table, in their order
  pub told_sites : (j : ℕ) (x : Site) → slice_get (told_in items k tree) j ≡ Some x → slice_get (program items).sites (before.sites + j) ≡ Some (claim_site (shapes items) (function_sorts items tree) x)
  pub first_site : before.sites ≡ claims_before k (functions items)
  pub numbered : (v : Variable) → Contains (variables tree) v → Numbered items info (map (λ w. w.name.name) (variables tree)) v

-- the entry of the table of claim sites with number n is that of a claim which a function of the items makes
pub record SiteOf (items : List Item) (n : ℕ) (site : ClaimSite) : Type 0 where
  pub info : FunctionInfo
  pub at_number : slice_get (program items).functions site.function ≡ Some info
  pub function_of : FunctionOf items site.function info
  pub made : Site
  pub told : Contains (told_in items site.function function_of.tree) made
  pub index : ℕ
  pub at_index : slice_get (told_in items site.function function_of.tree) index ≡ Some made
  pub number_is : n ≡ function_of.before.sites + index
  pub is : site ≡ claim_site (shapes items) (function_sorts items function_of.tree) made
