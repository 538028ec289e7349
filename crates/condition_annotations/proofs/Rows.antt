-- The code's lists of annotations, as the rows that the definitions go by.
use Rattle.std.proofs.Common.{◌≡◌, ℕ, List, [], ◌∷◌, ◌++◌, Vec, Box, Global, refl, ap, ◌∙◌, map}
use mathlib.Core.Former.{Count}
use Rattle.method.specs.declared.program.DeclaredType.{DeclaredType}
use Rattle.method.specs.declared.program.Program.{Program}
use Rattle.method.specs.declared.program.Spec as e
use Rattle.terms.specs.Formula.{Formula}
use Rattle.conditions.specs.Formulas.{all_of, lists, not'}
use Rattle.conditions.specs.Symbolic.{Truth, term, test}
use Rattle.conditions.specs.Annotations.{Scene, translate, tests, terms_of, with_subject, current_heap, formal_scene, bind_ref, subject_of, quantifier, body_of_only, body_of_some}
use Rattle.condition_annotations.specs.Rows.{each_test, each_term}

module _ (p : Program) (s : Scene) where
  row_tests : (n : Count) (row : e.Row_of-Spec n) → tests p row s ≡ each_test p (e.items-the_row-Spec n row) s
  row_tests n e.end_of-Spec = refl
  row_tests n (e.more_of-Spec x rest) = ap (λ (fs : List Formula). test (translate p x s) ∷ fs) (row_tests _ rest)

  row_terms : (n : Count) (row : e.Row_of-Spec n) → terms_of p row s ≡ each_term p (e.items-the_row-Spec n row) s
  row_terms n e.end_of-Spec = refl
  row_terms n (e.more_of-Spec x rest) = ap (λ (fs : List Formula). term (translate p x s) ∷ fs) (row_terms _ rest)

abbrev row_of : e.Spec → (n : Count) × e.Row_of-Spec n
row_of (e.ClaimsOnly' n q c m row) = (_, row)
row_of (e.Claims' q c n row) = (_, row)
row_of (e.Exists' n ty q x m row) = (_, row)
row_of _ = (_, e.end_of-Spec)

pub claims_row : (p : Program) (s : Scene) (c : Box e.Spec Global) (es : Vec e.Spec Global) → translate p (e.Claims c es) s ≡ Truth (all_of (each_test p es.items (with_subject (term (translate p c.value s)) s)))
claims_row p s c es =
    let row = row_of (e.Claims c es) in
    let t = with_subject (term (translate p c.value s)) s in
    ap (λ (fs : List Formula). Truth (all_of fs)) (row_tests p t row.0 row.1 ∙ ap (λ xs. each_test p xs t) (e.items_hidden-the_row-Spec-0 es))

pub claims_only_row : (p : Program) (s : Scene) (n : ℕ) (c : Box e.Spec Global) (es : Vec e.Spec Global) → translate p (e.ClaimsOnly n c es) s ≡ Truth (all_of (map (lists (current_heap s) (term (translate p c.value s))) (each_term p es.items s) ++ quantifier s n (body_of_only s (translate p c.value (formal_scene s)) (each_term p es.items (formal_scene s))) ∷ []))
claims_only_row p s n c es =
    let row = row_of (e.ClaimsOnly n c es) in
    let here = row_terms p s row.0 row.1 ∙ ap (λ xs. each_term p xs s) (e.items_hidden-the_row-Spec-0 es) in
    let there = row_terms p (formal_scene s) row.0 row.1 ∙ ap (λ xs. each_term p xs (formal_scene s)) (e.items_hidden-the_row-Spec-0 es) in
    ap (λ (fs : List Formula). Truth (all_of (map (lists (current_heap s) (term (translate p c.value s))) fs ++ quantifier s n (body_of_only s (translate p c.value (formal_scene s)) (terms_of p row.1 (formal_scene s))) ∷ []))) here
    ∙ ap (λ (fs : List Formula). Truth (all_of (map (lists (current_heap s) (term (translate p c.value s))) (each_term p es.items s) ++ quantifier s n (body_of_only s (translate p c.value (formal_scene s)) fs) ∷ []))) there

pub exists_row : (p : Program) (s : Scene) (n : ℕ) (ty : DeclaredType) (x : Box e.Spec Global) (es : Vec e.Spec Global) → translate p (e.Exists n ty x es) s ≡ Truth (not' (quantifier s n (body_of_some ty s (translate p x.value (formal_scene s)) (each_test p es.items (bind_ref (subject_of s) (formal_scene s))))))
exists_row p s n ty x es =
    let row = row_of (e.Exists n ty x es) in
    let t = bind_ref (subject_of s) (formal_scene s) in
    ap (λ (fs : List Formula). Truth (not' (quantifier s n (body_of_some ty s (translate p x.value (formal_scene s)) fs)))) (row_tests p t row.0 row.1 ∙ ap (λ xs. each_test p xs t) (e.items_hidden-the_row-Spec-0 es))
