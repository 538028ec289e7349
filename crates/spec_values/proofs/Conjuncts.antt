-- The code's lists of conjuncts and objects, as the rows that the definitions go by.
use Rattle.std.proofs.Common.{◌≡◌, ℕ, Bool, ◌&&◌, if◌then◌else◌, List, Vec, Box, Global, ◌∷◌, refl, ap, ◌∙◌, Option, None, Result}
use mathlib.Core.Former.{Count}
use Rattle.object_types.specs.declared.references.Ref.{Ref}
use Rattle.object_types.specs.declared.values.Value.{Value}
use Rattle.object_types.specs.declared.values.Value.TheVariants.{Ref as Refers}
use Rattle.object_types.specs.Sets.{some}
use Rattle.int_ranges.specs.declared.exact.Wide.{Wide}
use Rattle.object_types.specs.Values.{says, referent}
use Rattle.method.specs.declared.program.DeclaredType.{DeclaredType}
use Rattle.method.specs.declared.program.Program.{Program}
use Rattle.method.specs.declared.program.Spec as e
use Rattle.method.specs.Tables.{in_type}
use Rattle.method.specs.SpecValue.{Scene, value, holds, all_hold, is_exactly, referents, about, bind_ref}
use Rattle.method.specs.Overflow.{Overflow, overflow, row_overflow, list_overflow, each_overflow, or_else, until}
use Rattle.spec_values.specs.Answers.{Gives}
use Rattle.spec_values.specs.Quantified.{each_holds, of_each, of_each_overflow, is_met, met_overflow, of_some, of_some_overflow, list_referents, referents_overflow}

module _ (p : Program) (s : Scene) where
  row_holds : (n : Count) (row : e.Row_of-Spec n) → all_hold p row s ≡ each_holds p (e.items-the_row-Spec n row) s
  row_holds n e.end_of-Spec = refl
  row_holds n (e.more_of-Spec x rest) = ap (λ b. holds p x s && b) (row_holds _ rest)

  row_first : (n : Count) (row : e.Row_of-Spec n) → row_overflow p row s ≡ list_overflow p (e.items-the_row-Spec n row) s
  row_first n e.end_of-Spec = refl
  row_first n (e.more_of-Spec x rest) = ap (λ o. or_else (overflow p x s) (if holds p x s then o else None)) (row_first _ rest)

  row_objects : (n : Count) (row : e.Row_of-Spec n) → referents p row s ≡ list_referents p (e.items-the_row-Spec n row) s
  row_objects n e.end_of-Spec = refl
  row_objects n (e.more_of-Spec x rest) = ap (λ os. referent (value p x s) ∷ os) (row_objects _ rest)

  row_each : (n : Count) (row : e.Row_of-Spec n) → each_overflow p row s ≡ referents_overflow p (e.items-the_row-Spec n row) s
  row_each n e.end_of-Spec = refl
  row_each n (e.more_of-Spec x rest) = ap (or_else (overflow p x s)) (row_each _ rest)

abbrev row_of : e.Spec → (n : Count) × e.Row_of-Spec n
row_of (e.ClaimsOnly' n q c m row) = (_, row)
row_of (e.Claims' q c n row) = (_, row)
row_of (e.Exists' n ty q x m row) = (_, row)
row_of _ = (_, e.end_of-Spec)

-- \claims_only
pub claims_only_value : (p : Program) (s : Scene) (n : ℕ) (c : Box e.Spec Global) (es : Vec e.Spec Global) → value p (e.ClaimsOnly n c es) s ≡ says (is_exactly (s.after.get (referent (value p c.value s))).listed (list_referents p es.items s))
claims_only_value p s n c es =
    let row = row_of (e.ClaimsOnly n c es) in
    ap (λ os. says (is_exactly (s.after.get (referent (value p c.value s))).listed os)) (row_objects p s row.0 row.1 ∙ ap (λ xs. list_referents p xs s) (e.items_hidden-the_row-Spec-0 es))

pub claims_only_overflow : (p : Program) (s : Scene) (n : ℕ) (c : Box e.Spec Global) (es : Vec e.Spec Global) → overflow p (e.ClaimsOnly n c es) s ≡ or_else (overflow p c.value s) (referents_overflow p es.items s)
claims_only_overflow p s n c es =
    let row = row_of (e.ClaimsOnly n c es) in
    ap (or_else (overflow p c.value s)) (row_each p s row.0 row.1 ∙ ap (λ xs. referents_overflow p xs s) (e.items_hidden-the_row-Spec-0 es))

-- \claims
pub claims_value : (p : Program) (s : Scene) (c : Box e.Spec Global) (es : Vec e.Spec Global) → value p (e.Claims c es) s ≡ says (each_holds p es.items (about (referent (value p c.value s)) s))
claims_value p s c es =
    let row = row_of (e.Claims c es) in
    let t = about (referent (value p c.value s)) s in
    ap says (row_holds p t row.0 row.1 ∙ ap (λ xs. each_holds p xs t) (e.items_hidden-the_row-Spec-0 es))

pub claims_overflow : (p : Program) (s : Scene) (c : Box e.Spec Global) (es : Vec e.Spec Global) → overflow p (e.Claims c es) s ≡ or_else (overflow p c.value s) (list_overflow p es.items (about (referent (value p c.value s)) s))
claims_overflow p s c es =
    let row = row_of (e.Claims c es) in
    let t = about (referent (value p c.value s)) s in
    ap (or_else (overflow p c.value s)) (row_first p t row.0 row.1 ∙ ap (λ xs. list_overflow p xs t) (e.items_hidden-the_row-Spec-0 es))

-- \exists
pub exists_value : (p : Program) (s : Scene) (n : ℕ) (ty : DeclaredType) (x : Box e.Spec Global) (es : Vec e.Spec Global) → value p (e.Exists n ty x es) s ≡ says (of_some p ty es.items s (s.after.get (referent (value p x.value s))).owned)
exists_value p s n ty x es =
    let row = row_of (e.Exists n ty x es) in
    let hold : (m : Ref) → (in_type ty (Refers m) && all_hold p row.1 (bind_ref m s)) ≡ is_met p ty es.items s m =
    λ m. ap (λ b. in_type ty (Refers m) && b) (row_holds p (bind_ref m s) row.0 row.1 ∙ ap (λ xs. each_holds p xs (bind_ref m s)) (e.items_hidden-the_row-Spec-0 es)) in
    ap (λ (test : Ref → Bool). says (some test (s.after.get (referent (value p x.value s))).owned)) (λ i m. hold m i)

pub exists_overflow : (p : Program) (s : Scene) (n : ℕ) (ty : DeclaredType) (x : Box e.Spec Global) (es : Vec e.Spec Global) → overflow p (e.Exists n ty x es) s ≡ or_else (overflow p x.value s) (of_some_overflow p ty es.items s (s.after.get (referent (value p x.value s))).owned)
exists_overflow p s n ty x es =
    let row = row_of (e.Exists n ty x es) in
    let hold : (m : Ref) → (in_type ty (Refers m) && all_hold p row.1 (bind_ref m s)) ≡ is_met p ty es.items s m =
    λ m. ap (λ b. in_type ty (Refers m) && b) (row_holds p (bind_ref m s) row.0 row.1 ∙ ap (λ xs. each_holds p xs (bind_ref m s)) (e.items_hidden-the_row-Spec-0 es)) in
    let first : (m : Ref) → (if in_type ty (Refers m) then row_overflow p row.1 (bind_ref m s) else None) ≡ met_overflow p ty es.items s m =
    λ m. ap (λ o. if in_type ty (Refers m) then o else None) (row_first p (bind_ref m s) row.0 row.1 ∙ ap (λ xs. list_overflow p xs (bind_ref m s)) (e.items_hidden-the_row-Spec-0 es)) in
    let members = (s.after.get (referent (value p x.value s))).owned in
    ap (λ (f : Ref → Option Overflow). or_else (overflow p x.value s) (until f (λ m. in_type ty (Refers m) && all_hold p row.1 (bind_ref m s)) members)) (λ i m. first m i)
    ∙ ap (λ (test : Ref → Bool). or_else (overflow p x.value s) (until (met_overflow p ty es.items s) test members)) (λ i m. hold m i)

-- The object, or the claim, is worked out first: v is its value. What the boxes and vectors hold goes by names of its own.
module _ (p : Program) (s : Scene) (x : Box e.Spec Global) (y : e.Spec) (v : Value) (r : Result Value Wide) (here : y ≡ x.value) (is : v ≡ value p y s) (fits : overflow p y s ≡ None) where
  pub claims_gives : (es : Vec e.Spec Global) (xs : List e.Spec) (claim : Ref) (q : Program) (t : Scene) → xs ≡ es.items → claim ≡ referent v → q ≡ p → t ≡ about claim s → Gives r (says (each_holds q xs t)) (list_overflow q xs t) → Gives r (value p (e.Claims x es) s) (overflow p (e.Claims x es) s)
  claims_gives es xs claim q t items of_it same there g =
      rw (claims_value p s x es, claims_overflow p s x es, ← here, fits, ← is, ← of_it, ← there, ← items, ← same) g

  pub claims_only_gives : (n : ℕ) (es : Vec e.Spec Global) (xs : List e.Spec) (ms : List Ref) → xs ≡ es.items → ms ≡ (s.after.get (referent v)).listed → Gives r (says (is_exactly ms (list_referents p xs s))) (referents_overflow p xs s) → Gives r (value p (e.ClaimsOnly n x es) s) (overflow p (e.ClaimsOnly n x es) s)
  claims_only_gives n es xs ms items listed g =
      rw (claims_only_value p s n x es, claims_only_overflow p s n x es, ← here, fits, ← is, ← listed, ← items) g

  pub for_all_gives : (n : ℕ) (ty : DeclaredType) (body : Box e.Spec Global) (z : e.Spec) (ms : List Ref) → z ≡ body.value → ms ≡ (s.after.get (referent v)).owned → Gives r (says (of_each p ty z s ms)) (of_each_overflow p ty z s ms) → Gives r (value p (e.ForAll n ty x body) s) (overflow p (e.ForAll n ty x body) s)
  for_all_gives n ty body z ms there owned g = rw (← here, fits, ← is, ← owned, ← there) g

  pub exists_gives : (n : ℕ) (ty : DeclaredType) (es : Vec e.Spec Global) (xs : List e.Spec) (ms : List Ref) → xs ≡ es.items → ms ≡ (s.after.get (referent v)).owned → Gives r (says (of_some p ty xs s ms)) (of_some_overflow p ty xs s ms) → Gives r (value p (e.Exists n ty x es) s) (overflow p (e.Exists n ty x es) s)
  exists_gives n ty es xs ms items owned g =
      rw (exists_value p s n ty x es, exists_overflow p s n ty x es, ← here, fits, ← is, ← owned, ← items) g
