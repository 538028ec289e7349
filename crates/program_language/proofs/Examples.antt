-- Columns worked out by hand. Own: of examples/lock.c, whose claims have the conjunct \true alone, and of a program with a claim's conjunct of a reference and an integer.
use Rattle.std.specs.Prelude.{◌≡◌, ℕ, true, false, List, [], ◌∷◌, ◌++◌}
use Rattle.std.proofs.Common.{refl, ap, ap₂, ◌∙◌}
use Rattle.int_ranges.specs.declared.ctype.CType.{CType}
use Rattle.method.specs.declared.program.DeclaredType.{DeclaredType}
use Rattle.method.specs.declared.program.DeclaredType.TheVariants.{Integer, Pointer, Object}
use Rattle.method.specs.declared.program.FieldInfo.{FieldInfo}
use Rattle.method.specs.declared.program.Program.{Program}
use Rattle.method.specs.declared.program.Shape.{Shape}
use Rattle.method.specs.declared.program.Sort.{Sort as HoleSort}
use Rattle.method.specs.declared.program.Sort.TheVariants.{IntSort, RefSort}
use Rattle.method.specs.Tables.{sort_of_type}
use Rattle.terms.specs.declared.sort.Column.{Column}
use Rattle.terms.specs.declared.sort.Sort.TheVariants as s
use Rattle.term_meaning.specs.Columns.{column_sorts, term_sort}
use Rattle.conditions.specs.Quantified.{members_quantified, listed_quantified}
use Rattle.program_columns.specs.Columns.{column, fields_columns, shapes_columns, fixed_columns, hole_sorts}
use Rattle.program_columns.proofs.Listed.{columns_are}

abbrev of_type : DeclaredType → Column
of_type ty = column (s.Ref ∷ []) (term_sort (sort_of_type ty))

-- Data has the integer v, Lock the integer locked and the object protected_obj; both claims have the one conjunct \true
pub lock : (p : Program) (v locked protected : FieldInfo) (sh : Shape) (c d : CType) → p.fields.items ≡ v ∷ locked ∷ protected ∷ [] → p.shapes.items ≡ sh ∷ [] → v.ty ≡ Integer c → locked.ty ≡ Integer d → protected.ty ≡ Object → sh.holes.items ≡ []
    → column_sorts p ≡ column (s.Ref ∷ []) s.Int ∷ column (s.Ref ∷ []) s.Ref ∷ column (s.Ref ∷ []) s.Int ∷ column (s.Ref ∷ s.Ref ∷ []) s.Int ∷ column (s.Ref ∷ s.Ref ∷ []) s.Int ∷ column (s.Ref ∷ []) s.Int ∷ column (s.Ref ∷ []) s.Int ∷ column (s.Ref ∷ []) s.Ref ∷ column (s.Ref ∷ []) s.Int ∷ []
lock p v locked protected sh c d fields shapes at_v at_locked at_protected holes =
    columns_are p ∙ ap₂ (λ (fs : List FieldInfo) (shs : List Shape). fixed_columns ++ fields_columns fs ++ shapes_columns shs) fields shapes
    ∙ ap (λ (a : DeclaredType). fixed_columns ++ of_type a ∷ of_type locked.ty ∷ of_type protected.ty ∷ column (hole_sorts sh.holes.items) s.Int ∷ []) at_v
    ∙ ap (λ (a : DeclaredType). fixed_columns ++ of_type (Integer c) ∷ of_type a ∷ of_type protected.ty ∷ column (hole_sorts sh.holes.items) s.Int ∷ []) at_locked
    ∙ ap (λ (a : DeclaredType). fixed_columns ++ of_type (Integer c) ∷ of_type (Integer d) ∷ of_type a ∷ column (hole_sorts sh.holes.items) s.Int ∷ []) at_protected
    ∙ ap (λ (hs : List HoleSort). fixed_columns ++ of_type (Integer c) ∷ of_type (Integer d) ∷ of_type Object ∷ column (hole_sorts hs) s.Int ∷ []) holes

-- a pointer as the only field, and a claim's conjunct of a reference and an integer
pub claimed : (p : Program) (next : FieldInfo) (n : ℕ) (sh : Shape) → p.fields.items ≡ next ∷ [] → p.shapes.items ≡ sh ∷ [] → next.ty ≡ Pointer n → sh.holes.items ≡ RefSort ∷ IntSort ∷ []
    → column_sorts p ≡ column (s.Ref ∷ []) s.Int ∷ column (s.Ref ∷ []) s.Ref ∷ column (s.Ref ∷ []) s.Int ∷ column (s.Ref ∷ s.Ref ∷ []) s.Int ∷ column (s.Ref ∷ s.Ref ∷ []) s.Int ∷ column (s.Ref ∷ []) s.Ref ∷ column (s.Ref ∷ s.Ref ∷ s.Int ∷ []) s.Int ∷ []
claimed p next n sh fields shapes at_next holes =
    columns_are p ∙ ap₂ (λ (fs : List FieldInfo) (shs : List Shape). fixed_columns ++ fields_columns fs ++ shapes_columns shs) fields shapes
    ∙ ap (λ (a : DeclaredType). fixed_columns ++ of_type a ∷ column (hole_sorts sh.holes.items) s.Int ∷ []) at_next
    ∙ ap (λ (hs : List HoleSort). fixed_columns ++ of_type (Pointer n) ∷ column (hole_sorts hs) s.Int ∷ []) holes

-- the arguments of a wrap's formula in a function that writes one object: the set's heap, the object, the heap, \me, the object written, the entry heap
wrapped : (members_quantified true 4 1).arguments ≡ s.Heap ∷ s.Ref ∷ s.Heap ∷ s.Ref ∷ s.Ref ∷ s.Heap ∷ []
wrapped = refl

-- where the owned set may change its heap is the heap
wrapped_changing : (members_quantified false 4 1).arguments ≡ s.Heap ∷ s.Ref ∷ s.Ref ∷ s.Ref ∷ s.Heap ∷ []
wrapped_changing = refl

-- the end of a claim of two objects
ended : (listed_quantified 2 2).arguments ≡ s.Heap ∷ s.Ref ∷ s.Ref ∷ s.Ref ∷ []
ended = refl
