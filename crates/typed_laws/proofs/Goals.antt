-- The laws that the law of well-formed tables is put together of, one for each group of files here.
use Rattle.std.specs.Prelude.{◌≡◌, ℕ, nat_lt, if◌then◌else◌, List, length, Some, slice_get, IsTrue}
use Rattle.c_syntax.specs.declared.token.Span.{Span}
use Rattle.c_syntax.specs.Expressions.{Exp}
use Rattle.c_syntax.specs.Items.{Item}
use Rattle.typing_spec.specs.Contexts.{Context}
use Rattle.typing_spec.specs.Types.{Kind, kind}
use Rattle.typing_spec.specs.TypeLaws.{Sound, Quiet}
use Rattle.typing_spec.specs.Pieces.{expression}
use Rattle.typing_spec.specs.First.{IsWellTyped}
use Rattle.object_types.specs.Sets.{every}
use Rattle.method.specs.declared.program.DeclaredType.{DeclaredType}
use Rattle.method.specs.declared.program.Item as tables
use Rattle.method.specs.declared.program.Program as m
use Rattle.method.specs.Typing.{Values, WellTyped, times}
use Rattle.typed_program.specs.Trees.{StructInfo, FieldInfo, FunctionInfo, ClaimSite, Program}
use Rattle.typed_program.specs.Numbers.{Around}
use Rattle.typed_program.specs.Codes.{code, integer_type}
use Rattle.typed_program.specs.Tables.{program}
use Rattle.typed_program.specs.Views as seen
use Rattle.tree_forms.specs.InForm.{in_form, is_code}
use Rattle.typed_laws.proofs.Tests.{returns_value, stands, is_item, is_type, struct_of, is_struct, is_field_of, is_field_range, values, row_ok, of_content, site_ok, Tested}
use Rattle.typed_laws.proofs.Facts.{Tables, InCode, Agrees, runs, StructOf, FunctionOf, SiteOf}

-- ---- tables

abbrev pub TablesLaw : Type 0
TablesLaw = (items : List Item) (end : Span) → IsWellTyped items end → Tables items (program items)

abbrev pub StructsLaw : Type 0
StructsLaw = (items : List Item) (ty : ℕ) (info : StructInfo) → struct_of (program items) ty ≡ Some info → StructOf items info

abbrev pub FunctionsLaw : Type 0
FunctionsLaw = (items : List Item) (end : Span) → IsWellTyped items end → (k : ℕ) (info : FunctionInfo) → slice_get (program items).functions k ≡ Some info → FunctionOf items k info

abbrev pub SitesLaw : Type 0
SitesLaw = (items : List Item) (end : Span) → IsWellTyped items end → (n : ℕ) (site : ClaimSite) → slice_get (program items).sites n ≡ Some site → SiteOf items n site

abbrev pub MainLaw : Type 0
MainLaw = (items : List Item) (end : Span) → IsWellTyped items end → IsTrue (nat_lt (program items).main (length (program items).functions))

abbrev pub FieldsLaw : Type 0
FieldsLaw = (items : List Item) (end : Span) → IsWellTyped items end → (ty f : ℕ) (s : StructInfo) → struct_of (program items) ty ≡ Some s → is_field_of (program items) f ty ≡ is_field_range f s

abbrev pub FieldTypesLaw : Type 0
FieldTypesLaw = (items : List Item) (end : Span) → IsWellTyped items end → (f : ℕ) (i : FieldInfo) → slice_get (program items).fields f ≡ Some i → IsTrue (is_type (program items) i.ty)

abbrev pub VariableTypesLaw : Type 0
VariableTypesLaw = (items : List Item) (end : Span) → IsWellTyped items end → (k : ℕ) (f : FunctionInfo) → slice_get (program items).functions k ≡ Some f → IsTrue (every (λ v. is_type (program items) v.ty) f.variables)

abbrev pub ResultTypesLaw : Type 0
ResultTypesLaw = (items : List Item) (end : Span) → IsWellTyped items end → (k : ℕ) (f : FunctionInfo) (ty : DeclaredType) → slice_get (program items).functions k ≡ Some f → f.value ≡ Some ty → IsTrue (is_type (program items) ty)

abbrev pub ReturnsLaw : Type 0
ReturnsLaw = (items : List Item) (end : Span) → IsWellTyped items end → (k : ℕ) (f : FunctionInfo) → slice_get (program items).functions k ≡ Some f → IsTrue (returns_value f.value f.body)

-- the claim sites of the table stand in the text of their functions
abbrev pub SitesStandLaw : Type 0
SitesStandLaw = (items : List Item) (end : Span) → IsWellTyped items end → (n : ℕ) (s : ClaimSite) → slice_get (program items).sites n ≡ Some s → IsTrue (stands (slice_get (program items).functions s.function) n)

abbrev pub ItemsLaw : Type 0
ItemsLaw = (items : List Item) (i : tables.Item) → times i (program items).items ≡ (if is_item (program items) i then 1 else 0)

abbrev pub FieldStructsLaw : Type 0
FieldStructsLaw = (items : List Item) (end : Span) → IsWellTyped items end → (f : ℕ) (i : FieldInfo) → slice_get (program items).fields f ≡ Some i → IsTrue (is_struct (program items) i.of)

-- ---- code

-- an expression of code that breaks no rule has a kind, and its code the values of that kind
abbrev pub CodeLaw : Type 0
CodeLaw =
    (items : List Item) (p : Program) (f : FunctionInfo) → Tables items p → (a : Around) → InCode items f a → (c : Context) → c.scope ≡ a.context.scope → IsTrue (runs c.text) → (x : Exp) → IsTrue (is_code x) → Quiet (expression c x) →
    (k : Kind) × (v : Values) × (kind a.context.scope x ≡ Some k) × Sound items k × (values p f (code a x) ≡ Some v) × Agrees items k (integer_type a.context.scope x) v

-- the bodies of all functions fit
abbrev pub BodiesLaw : Type 0
BodiesLaw = (items : List Item) (end : Span) → IsTrue (in_form items) → IsWellTyped items end → (k : ℕ) (f : FunctionInfo) → slice_get (program items).functions k ≡ Some f → IsTrue (row_ok (program items) f k f.body)

-- ---- annotations

abbrev pub InvariantsLaw : Type 0
InvariantsLaw =
    (items : List Item) (end : Span) → IsTrue (in_form items) → IsWellTyped items end → (ty : ℕ) (s : StructInfo) → struct_of (program items) ty ≡ Some s → IsTrue (every of_content s.invariants) × IsTrue (every of_content s.mine)

abbrev pub ClaimsLaw : Type 0
ClaimsLaw =
    (items : List Item) (end : Span) → IsTrue (in_form items) → IsWellTyped items end → (n : ℕ) (s : ClaimSite) → slice_get (program items).sites n ≡ Some s → IsTrue (site_ok (program items) (slice_get (program items).functions s.function) s)

-- ---- from pure trees to values

abbrev pub BridgeLaw : Type 0
BridgeLaw = (p : m.Program) → Tested (seen.program p) → WellTyped p
