-- A program out of its tables.
use Rattle.std.proofs.Common.{◌≡◌, ℕ, List, map, ap, ◌∙◌}
use Rattle.std.specs.Prelude.{bytes_eq, codes}
use Rattle.c_syntax.specs.Items.{Item}
use Rattle.typing_spec.specs.Declarations.{functions}
use Rattle.method.specs.declared.program.Item as m
use Rattle.typed_program.specs.Numbers.{place_of}
use Rattle.typed_program.specs.Shapes.{table_shape}
use Rattle.typed_program.specs.Statements.{Counters, none, plus}
use Rattle.typed_program.specs.Tables as tables
use Rattle.typed_program.specs.Trees as t
use Rattle.elab_program.proofs.Walks.{from_nothing}

-- what stands before the first item
pub started : (items others : List Item) (first last : Counters) → first ≡ none → others ≡ items → last ≡ plus first (tables.all_items others) → record { formulas = 0; ended = last.formulas; sites = 0 } ≡ tables.start items
started items others first last e f g =
    let h : last.formulas ≡ (tables.all_items items).formulas = ap (λ (b : Counters). b.formulas) (g ∙ (λ i. plus (e i) (tables.all_items (f i)))) ∙ from_nothing _ in
    λ i. record { formulas = 0; ended = h i; sites = 0 }

abbrev program_of : List t.StructInfo → List t.FieldInfo → List t.FunctionInfo → List t.ClaimSite → List t.Shape → List m.Item → ℕ → t.Program
program_of structs fields functions sites shapes order main = record { structs = structs; fields = fields; functions = functions; sites = sites; shapes = shapes; items = order; main = main }

pub program_told : (items : List Item) (l : List t.Shape) (n : Counters) {structs : List t.StructInfo} {fields : List t.FieldInfo} {all : List t.FunctionInfo} {sites : List t.ClaimSite} {shapes : List t.Shape} {order : List m.Item} {main : ℕ}
    → l ≡ tables.shapes items → n ≡ tables.start items
    → structs ≡ map (tables.numbered_struct l) (tables.struct_table items n items) → fields ≡ tables.field_table items
    → all ≡ map (λ f. tables.numbered_function l (tables.sorts_of f) f) (tables.function_table items n items)
    → sites ≡ tables.site_table l items 0 items → shapes ≡ map (table_shape l) l → order ≡ tables.order 0 0 items
    → main ≡ place_of (λ f. bytes_eq f.name.name (codes "main")) (functions items)
    → program_of structs fields all sites shapes order main ≡ tables.program items
program_told items l n e f p q r s u v w = λ i. program_of
    ((p ∙ (λ j. map (tables.numbered_struct (e j)) (tables.struct_table items (f j) items))) i)
    (q i)
    ((r ∙ (λ j. map (λ g. tables.numbered_function (e j) (tables.sorts_of g) g) (tables.function_table items (f j) items))) i)
    ((s ∙ (λ j. tables.site_table (e j) items 0 items)) i)
    ((u ∙ (λ j. map (table_shape (e j)) (e j))) i)
    (v i)
    (w i)
