-- The code's lists of annotations and of statements, as the rows that the definitions go by.
use Rattle.std.proofs.Common.{◌≡◌, ℕ, Bool, List, ◌∷◌, ◌++◌, Vec, Box, Global, refl, ap, ap₂, ◌∙◌}
use Rattle.std.specs.Prelude.{flat_map}
use mathlib.Core.Former.{Count}
use Rattle.method.specs.declared.program.DeclaredType.{DeclaredType}
use Rattle.method.specs.declared.program.Expr.{Expr}
use Rattle.method.specs.declared.program.FunctionInfo.{FunctionInfo}
use Rattle.method.specs.declared.program.Inner as i
use Rattle.method.specs.declared.program.Program.{Program}
use Rattle.method.specs.declared.program.Spec as e
use Rattle.method.specs.declared.program.Stmt as st
use Rattle.terms.specs.Formula.{Formula}
use Rattle.conditions.specs.Formulas.{null}
use Rattle.conditions.specs.Symbolic.{term, test}
use Rattle.conditions.specs.Annotations.{Scene, translate, tests, terms_of, formal_scene, bind_ref, subject_of, body_of_only, body_of_some}
use Rattle.conditions.specs.Quantified.{QuantifiedFormula, quantifier_formula, spec_quantifiers, row_quantifiers, specs_quantifiers, inner_quantifiers, inner_row_quantifiers, stmt_quantifiers, stmts_quantifiers, function_words}
use Rattle.condition_annotations.specs.Rows.{each_test, each_term}
use Rattle.quantified_formulas.specs.Bodies.{exists, claims_only}
use Rattle.program_quantifiers.specs.Statements.{members_at, statements_quantifiers}

-- Annotations.

module _ (p : Program) (s : Scene) where
  row_is : (n : Count) (row : e.Row_of-Spec n) → row_quantifiers p row s ≡ specs_quantifiers p (e.items-the_row-Spec n row) s
  row_is n e.end_of-Spec = refl
  row_is n (e.more_of-Spec x rest) = ap (λ (qs : List QuantifiedFormula). spec_quantifiers p x s ++ qs) (row_is _ rest)

  row_tests : (n : Count) (row : e.Row_of-Spec n) → tests p row s ≡ each_test p (e.items-the_row-Spec n row) s
  row_tests n e.end_of-Spec = refl
  row_tests n (e.more_of-Spec x rest) = ap (λ (fs : List Formula). test (translate p x s) ∷ fs) (row_tests _ rest)

  row_terms : (n : Count) (row : e.Row_of-Spec n) → terms_of p row s ≡ each_term p (e.items-the_row-Spec n row) s
  row_terms n e.end_of-Spec = refl
  row_terms n (e.more_of-Spec x rest) = ap (λ (fs : List Formula). term (translate p x s) ∷ fs) (row_terms _ rest)

abbrev row_of : e.Spec → (n : Count) × e.Row_of-Spec n
row_of (e.ClaimsOnly' n q c m row) = (_, row)
row_of (e.Claims' q c n row) = (_, row)
row_of (e.Exists' n ty q x m row) = (_, row)
row_of _ = (_, e.end_of-Spec)

pub claims_row : (p : Program) (s : Scene) (c : Box e.Spec Global) (es : Vec e.Spec Global) → spec_quantifiers p (e.Claims c es) s ≡ spec_quantifiers p c.value s ++ specs_quantifiers p es.items s
claims_row p s c es =
    let row = row_of (e.Claims c es) in
    ap (λ (qs : List QuantifiedFormula). spec_quantifiers p c.value s ++ qs) (row_is p s row.0 row.1 ∙ ap (λ xs. specs_quantifiers p xs s) (e.items_hidden-the_row-Spec-0 es))

pub claims_only_row : (p : Program) (s : Scene) (n : ℕ) (c : Box e.Spec Global) (es : Vec e.Spec Global) → spec_quantifiers p (e.ClaimsOnly n c es) s ≡ claims_only p s n c.value es.items ∷ spec_quantifiers p c.value s ++ specs_quantifiers p es.items s
claims_only_row p s n c es =
    let row = row_of (e.ClaimsOnly n c es) in
    let terms = row_terms p (formal_scene s) row.0 row.1 ∙ ap (λ xs. each_term p xs (formal_scene s)) (e.items_hidden-the_row-Spec-0 es) in
    let rest = row_is p s row.0 row.1 ∙ ap (λ xs. specs_quantifiers p xs s) (e.items_hidden-the_row-Spec-0 es) in
    ap₂ (λ (fs : List Formula) (qs : List QuantifiedFormula). quantifier_formula s n (body_of_only s (translate p c.value (formal_scene s)) fs) ∷ spec_quantifiers p c.value s ++ qs) terms rest

pub exists_row : (p : Program) (s : Scene) (n : ℕ) (ty : DeclaredType) (x : Box e.Spec Global) (es : Vec e.Spec Global) → spec_quantifiers p (e.Exists n ty x es) s ≡ exists p s n ty x.value es.items ∷ spec_quantifiers p x.value s ++ specs_quantifiers p es.items (bind_ref null s)
exists_row p s n ty x es =
    let row = row_of (e.Exists n ty x es) in
    let inner = bind_ref (subject_of s) (formal_scene s) in
    let passed = row_tests p inner row.0 row.1 ∙ ap (λ xs. each_test p xs inner) (e.items_hidden-the_row-Spec-0 es) in
    let rest = row_is p (bind_ref null s) row.0 row.1 ∙ ap (λ xs. specs_quantifiers p xs (bind_ref null s)) (e.items_hidden-the_row-Spec-0 es) in
    ap₂ (λ (fs : List Formula) (qs : List QuantifiedFormula). quantifier_formula s n (body_of_some ty s (translate p x.value (formal_scene s)) fs) ∷ spec_quantifiers p x.value s ++ qs) passed rest

-- Statements in atomic blocks.

inner_is : (n : _) (row : i.Row_of-Inner n) → inner_row_quantifiers row ≡ flat_map inner_quantifiers (i.items-the_row-Inner n row)
inner_is n i.end_of-Inner = refl
inner_is n (i.more_of-Inner x xs) = ap (λ (qs : List QuantifiedFormula). inner_quantifiers x ++ qs) (inner_is _ xs)

abbrev inner_then : i.Inner → (n : Count) × i.Row_of-Inner n
inner_then (i.InsideIf' line x m a n b) = (_, a)
inner_then _ = (_, i.end_of-Inner)

abbrev inner_else : i.Inner → (n : Count) × i.Row_of-Inner n
inner_else (i.InsideIf' line x m a n b) = (_, b)
inner_else _ = (_, i.end_of-Inner)

pub inner_choice : (line : ℕ) (x : Expr) (a b : Vec i.Inner Global) → inner_quantifiers (i.InsideIf line x a b) ≡ flat_map inner_quantifiers a.items ++ flat_map inner_quantifiers b.items
inner_choice line x a b =
    let u = inner_then (i.InsideIf line x a b) in
    let v = inner_else (i.InsideIf line x a b) in
    ap₂ (λ (qs rs : List QuantifiedFormula). qs ++ rs) (inner_is u.0 u.1 ∙ ap (flat_map inner_quantifiers) (i.items_hidden-the_row-Inner-0 a)) (inner_is v.0 v.1 ∙ ap (flat_map inner_quantifiers) (i.items_hidden-the_row-Inner-0 b))

-- Statements.

abbrev then_row : st.Stmt → (n : Count) × st.Row_of-Stmt n
then_row (st.If' line in_ghost x m a n b) = (_, a)
then_row _ = (_, st.end_of-Stmt)

abbrev else_row : st.Stmt → (n : Count) × st.Row_of-Stmt n
else_row (st.If' line in_ghost x m a n b) = (_, b)
else_row _ = (_, st.end_of-Stmt)

abbrev body_row : st.Stmt → (n : Count) × st.Row_of-Stmt n
body_row (st.While' line is x n a) = (_, a)
body_row (st.DoWhile' line is n a tested x) = (_, a)
body_row (st.Unwrapping' line ty q x n a) = (_, a)
body_row _ = (_, st.end_of-Stmt)

module _ (p : Program) (f : FunctionInfo) where
  stmts_are : (n : _) (row : st.Row_of-Stmt n) → stmts_quantifiers p f row ≡ statements_quantifiers p f (st.items-the_row-Stmt n row)
  stmts_are n st.end_of-Stmt = refl
  stmts_are n (st.more_of-Stmt x xs) = ap (λ (qs : List QuantifiedFormula). stmt_quantifiers p f x ++ qs) (stmts_are _ xs)

  held : (a : Vec st.Stmt Global) (n : _) (row : st.Row_of-Stmt n) → st.items-the_row-Stmt n row ≡ a.items → stmts_quantifiers p f row ≡ statements_quantifiers p f a.items
  held a n row is = stmts_are n row ∙ ap (statements_quantifiers p f) is

  pub choice : (line : ℕ) (in_ghost : Bool) (x : Expr) (a b : Vec st.Stmt Global) → stmt_quantifiers p f (st.If line in_ghost x a b) ≡ statements_quantifiers p f a.items ++ statements_quantifiers p f b.items
  choice line in_ghost x a b =
      let u = then_row (st.If line in_ghost x a b) in
      let v = else_row (st.If line in_ghost x a b) in
      ap₂ (λ (qs rs : List QuantifiedFormula). qs ++ rs) (held a u.0 u.1 (st.items_hidden-the_row-Stmt-0 a)) (held b v.0 v.1 (st.items_hidden-the_row-Stmt-0 b))

  pub while_loop : (line : ℕ) (is : Vec e.Spec Global) (x : Expr) (a : Vec st.Stmt Global) → stmt_quantifiers p f (st.While line is x a) ≡ specs_quantifiers p is.items (function_words f) ++ statements_quantifiers p f a.items
  while_loop line is x a =
      let u = body_row (st.While line is x a) in
      ap (λ (qs : List QuantifiedFormula). specs_quantifiers p is.items (function_words f) ++ qs) (held a u.0 u.1 (st.items_hidden-the_row-Stmt-0 a))

  pub do_loop : (line : ℕ) (is : Vec e.Spec Global) (a : Vec st.Stmt Global) (tested : ℕ) (x : Expr) → stmt_quantifiers p f (st.DoWhile line is a tested x) ≡ specs_quantifiers p is.items (function_words f) ++ statements_quantifiers p f a.items
  do_loop line is a tested x =
      let u = body_row (st.DoWhile line is a tested x) in
      ap (λ (qs : List QuantifiedFormula). specs_quantifiers p is.items (function_words f) ++ qs) (held a u.0 u.1 (st.items_hidden-the_row-Stmt-0 a))

  pub block : (line ty q : ℕ) (x : Expr) (a : Vec st.Stmt Global) → stmt_quantifiers p f (st.Unwrapping line ty q x a) ≡ members_at p f ty q ∷ statements_quantifiers p f a.items
  block line ty q x a =
      let u = body_row (st.Unwrapping line ty q x a) in
      ap (λ (qs : List QuantifiedFormula). members_at p f ty q ∷ qs) (held a u.0 u.1 (st.items_hidden-the_row-Stmt-0 a))
