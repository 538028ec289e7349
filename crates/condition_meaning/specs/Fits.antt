-- What an annotation's text must meet for its formula to say what it says. Own: what the typing and the numbering of a source give.
use Rattle.std.specs.Prelude.{◌≡◌, ℕ, suc, Bool, true, false, not, ◌&&◌, nat_le, nat_lt, List, [], ◌∷◌, length, Some, slice_get, IsTrue}
use Rattle.method.specs.declared.program.DeclaredType.{DeclaredType}
use Rattle.method.specs.declared.program.DeclaredType.TheVariants.{Integer, Pointer, Object, Claim}
use Rattle.method.specs.declared.program.Hole.{Hole}
use Rattle.method.specs.declared.program.Hole.TheVariants.{OfVariable, OfBound, OfMe, OfThis, OfResult}
use Rattle.method.specs.declared.program.Spec.{Spec, Row_of-Spec, end_of-Spec, more_of-Spec}
use Rattle.method.specs.declared.program.Spec.TheVariants as s
use Rattle.method.specs.declared.program.Program.{Program}
use Rattle.object_types.specs.Sets.{every}
use Rattle.terms.specs.Formula.{Formula}
use Rattle.term_meaning.specs.Meaning.{Language, Quantified}
use Rattle.conditions.specs.Formulas.{null}
use Rattle.conditions.specs.Symbolic.{Symbolic, Truth, Number, Reference}
use Rattle.conditions.specs.Annotations.{Scene, old_scene, bind_ref, formal_scene, subject_of, translate, tests, body_of_all, body_of_some, body_of_only, terms_of}
use Rattle.conditions.specs.Quantified.{places, renumber}

-- whether it is of the sort of references
abbrev pub is_ref : Symbolic → Bool
is_ref (Truth b) = false
is_ref (Number x) = false
is_ref (Reference r) = true

-- both are true, or both are false
abbrev pub same_bool : Bool → Bool → Bool
same_bool true b = b
same_bool false b = not b

-- the first variables are of the sorts of the parameters at entry
abbrev pub params_fit : List Symbolic → List Symbolic → Bool
params_fit [] ws = true
params_fit (x ∷ xs) [] = false
params_fit (x ∷ xs) (w ∷ ws) = same_bool (is_ref x) (is_ref w) && params_fit xs ws

-- the type's values are references
abbrev pub is_ref_type : DeclaredType → Bool
is_ref_type (Integer c) = false
is_ref_type (Pointer n) = true
is_ref_type Object = true
is_ref_type Claim = true

-- the quantified formulas of the annotation have numbers from this one on; those in the body of another have greater numbers than it
abbrev mutual
  pub numbers_from : ℕ → Spec → Bool
  numbers_from m (s.Number z) = true
  numbers_from m (s.Truth b) = true
  numbers_from m s.Null = true
  numbers_from m (s.Variable i) = true
  numbers_from m (s.Bound i) = true
  numbers_from m s.This = true
  numbers_from m s.Me = true
  numbers_from m s.Result = true
  numbers_from m (s.Field' q e f) = numbers_from m e
  numbers_from m (s.Closed' q e) = numbers_from m e
  numbers_from m (s.Owner' q e) = numbers_from m e
  numbers_from m (s.ClaimCount' q e) = numbers_from m e
  numbers_from m (s.Member' q a r b) = numbers_from m a && numbers_from m b
  numbers_from m (s.Not' q e) = numbers_from m e
  numbers_from m (s.Negate' q e) = numbers_from m e
  numbers_from m (s.Arithmetic' op q a r b) = numbers_from m a && numbers_from m b
  numbers_from m (s.Compare' op q a r b) = numbers_from m a && numbers_from m b
  numbers_from m (s.And' q a r b) = numbers_from m a && numbers_from m b
  numbers_from m (s.Or' q a r b) = numbers_from m a && numbers_from m b
  numbers_from m (s.Implies' q a r b) = numbers_from m a && numbers_from m b
  numbers_from m (s.Iff' q a r b) = numbers_from m a && numbers_from m b
  numbers_from m (s.Choose' q a r b t c) = numbers_from m a && (numbers_from m b && numbers_from m c)
  numbers_from m (s.Old' q e) = numbers_from m e
  numbers_from m (s.Unchanged' q e) = numbers_from m e
  numbers_from m (s.Wrapped' q e) = numbers_from m e
  numbers_from m (s.Wrapped0' q e) = numbers_from m e
  numbers_from m (s.Mutable' q e) = numbers_from m e
  numbers_from m (s.Fresh' q e) = numbers_from m e
  numbers_from m (s.ClaimsObject' q c r o) = numbers_from m c && numbers_from m o
  numbers_from m (s.Claims' q c n row) = numbers_from m c && row_numbers_from m row
  numbers_from m (s.Lists' q o) = numbers_from m o
  numbers_from m (s.Has c) = true
  numbers_from m (s.ForAll' n ty q e r body) = nat_le m n
  numbers_from m (s.Exists' n ty q e k row) = nat_le m n
  numbers_from m (s.ClaimsOnly' n q c k row) = nat_le m n && (numbers_from m c && row_numbers_from m row)

  pub row_numbers_from : {n : _} → ℕ → Row_of-Spec n → Bool
  row_numbers_from m end_of-Spec = true
  row_numbers_from m (more_of-Spec e row) = numbers_from m e && row_numbers_from m row

-- what fills the hole is no hidden variable
abbrev pub HoleIsVisible : (ℕ → Bool) → Hole → Type 0
HoleIsVisible hidden (OfVariable i) = hidden i ≡ false
HoleIsVisible hidden _ = Unit {0}

abbrev pub HolesAreVisible : (ℕ → Bool) → List Hole → Type 0
HolesAreVisible hidden [] = Unit {0}
HolesAreVisible hidden (h ∷ hs) = HoleIsVisible hidden h × HolesAreVisible hidden hs

-- a variable that fills a hole is one of the first, and the result only where it is allowed
abbrev pub hole_names : ℕ → Bool → Hole → Bool
hole_names few result (OfVariable i) = nat_lt i few
hole_names few result (OfBound i) = true
hole_names few result OfMe = true
hole_names few result OfThis = true
hole_names few result OfResult = result

-- the annotation names the first variables alone, and the result only where it is allowed
abbrev mutual
  pub names : ℕ → Bool → Spec → Bool
  names few result (s.Number z) = true
  names few result (s.Truth b) = true
  names few result s.Null = true
  names few result (s.Variable i) = nat_lt i few
  names few result (s.Bound i) = true
  names few result s.This = true
  names few result s.Me = true
  names few result s.Result = result
  names few result (s.Field' q e f) = names few result e
  names few result (s.Closed' q e) = names few result e
  names few result (s.Owner' q e) = names few result e
  names few result (s.ClaimCount' q e) = names few result e
  names few result (s.Not' q e) = names few result e
  names few result (s.Negate' q e) = names few result e
  names few result (s.Old' q e) = names few result e
  names few result (s.Unchanged' q e) = names few result e
  names few result (s.Wrapped' q e) = names few result e
  names few result (s.Wrapped0' q e) = names few result e
  names few result (s.Mutable' q e) = names few result e
  names few result (s.Fresh' q e) = names few result e
  names few result (s.Member' q a r b) = names few result a && names few result b
  names few result (s.Arithmetic' op q a r b) = names few result a && names few result b
  names few result (s.Compare' op q a r b) = names few result a && names few result b
  names few result (s.And' q a r b) = names few result a && names few result b
  names few result (s.Or' q a r b) = names few result a && names few result b
  names few result (s.Implies' q a r b) = names few result a && names few result b
  names few result (s.Iff' q a r b) = names few result a && names few result b
  names few result (s.Choose' q a r b t c) = names few result a && (names few result b && names few result c)
  names few result (s.ClaimsObject' q c r o) = names few result c && names few result o
  names few result (s.Claims' q c n row) = names few result c && row_names few result row
  names few result (s.Lists' q o) = names few result o
  names few result (s.Has c) = every (hole_names few result) c.holes.items
  names few result (s.ForAll' n ty q e r body) = names few result e && names few result body
  names few result (s.Exists' n ty q e k row) = names few result e && row_names few result row
  names few result (s.ClaimsOnly' n q c k row) = names few result c && row_names few result row

  pub row_names : {n : _} → ℕ → Bool → Row_of-Spec n → Bool
  row_names few result end_of-Spec = true
  row_names few result (more_of-Spec e row) = names few result e && row_names few result row

-- each of the annotations stands for a reference
abbrev pub are_refs : Program → {n : _} → Row_of-Spec n → Scene → Bool
are_refs p end_of-Spec w = true
are_refs p (more_of-Spec e row) w = is_ref (translate p e w) && are_refs p row w

module _ (l : Language) where
  -- the formula with this number has this body
  abbrev pub HasBody : ℕ → Formula → Type 0
  HasBody n body = (q : Quantified) × (slice_get l.quantified n ≡ Some q) × (q.body ≡ body)

  -- Its variables aren't hidden, its fields and shapes are in the tables, the branches of ?: are of one sort, and a quantifier, which ranges over references, stands in the table, before those in it, and not in a \claims.
  abbrev mutual
    pub Fits : (ℕ → Bool) → Bool → Spec → Scene → Type 0
    Fits hidden inside (s.Number z) w = Unit {0}
    Fits hidden inside (s.Truth b) w = Unit {0}
    Fits hidden inside s.Null w = Unit {0}
    Fits hidden inside (s.Variable i) w = hidden i ≡ false
    Fits hidden inside (s.Bound i) w = Unit {0}
    Fits hidden inside s.This w = Unit {0}
    Fits hidden inside s.Me w = Unit {0}
    Fits hidden inside s.Result w = Unit {0}
    Fits hidden inside (s.Field' q e f) w = IsTrue (nat_lt f (length l.program.fields.items)) × Fits hidden inside e w
    Fits hidden inside (s.Closed' q e) w = Fits hidden inside e w
    Fits hidden inside (s.Owner' q e) w = Fits hidden inside e w
    Fits hidden inside (s.ClaimCount' q e) w = Fits hidden inside e w
    Fits hidden inside (s.Member' q a r b) w = Fits hidden inside a w × Fits hidden inside b w
    Fits hidden inside (s.Not' q e) w = Fits hidden inside e w
    Fits hidden inside (s.Negate' q e) w = Fits hidden inside e w
    Fits hidden inside (s.Arithmetic' op q a r b) w = Fits hidden inside a w × Fits hidden inside b w
    Fits hidden inside (s.Compare' op q a r b) w = Fits hidden inside a w × Fits hidden inside b w
    Fits hidden inside (s.And' q a r b) w = Fits hidden inside a w × Fits hidden inside b w
    Fits hidden inside (s.Or' q a r b) w = Fits hidden inside a w × Fits hidden inside b w
    Fits hidden inside (s.Implies' q a r b) w = Fits hidden inside a w × Fits hidden inside b w
    Fits hidden inside (s.Iff' q a r b) w = Fits hidden inside a w × Fits hidden inside b w
    Fits hidden inside (s.Choose' q a r b t c) w = Fits hidden inside a w × Fits hidden inside b w × Fits hidden inside c w × (is_ref (translate l.program b w) ≡ is_ref (translate l.program c w))
    Fits hidden inside (s.Old' q e) w = Fits hidden inside e (old_scene w)
    Fits hidden inside (s.Unchanged' q e) w = IsTrue (params_fit w.entry w.locals) × Fits hidden inside e w
    Fits hidden inside (s.Wrapped' q e) w = Fits hidden inside e w
    Fits hidden inside (s.Wrapped0' q e) w = Fits hidden inside e w
    Fits hidden inside (s.Mutable' q e) w = Fits hidden inside e w
    Fits hidden inside (s.Fresh' q e) w = Fits hidden inside e w
    Fits hidden inside (s.ClaimsObject' q c r o) w = Fits hidden inside c w × Fits hidden inside o w
    Fits hidden inside (s.Claims' q c n row) w = Fits hidden inside c w × RowFits hidden true row w
    Fits hidden inside (s.Lists' q o) w = Fits hidden inside o w
    Fits hidden inside (s.Has c) w = IsTrue (nat_lt c.shape (length l.program.shapes.items)) × HolesAreVisible hidden c.holes.items
    Fits hidden inside (s.ForAll' n ty q e r body) w =
        (inside ≡ false) × IsTrue (is_ref_type ty) × IsTrue (numbers_from (suc n) e && numbers_from (suc n) body) × Fits hidden false e w × Fits hidden false body (bind_ref null w)
        × (let b = body_of_all ty w (translate l.program e (formal_scene w)) (translate l.program body (bind_ref (subject_of w) (formal_scene w))) in HasBody n (renumber (places w b) b))
    Fits hidden inside (s.Exists' n ty q e k row) w =
        (inside ≡ false) × IsTrue (is_ref_type ty) × IsTrue (numbers_from (suc n) e && row_numbers_from (suc n) row) × Fits hidden false e w × RowFits hidden false row (bind_ref null w)
        × (let b = body_of_some ty w (translate l.program e (formal_scene w)) (tests l.program row (bind_ref (subject_of w) (formal_scene w))) in HasBody n (renumber (places w b) b))
    Fits hidden inside (s.ClaimsOnly' n q c k row) w =
        (inside ≡ false) × IsTrue (numbers_from (suc n) c && row_numbers_from (suc n) row) × IsTrue (are_refs l.program row w) × Fits hidden false c w × RowFits hidden false row w
        × (let b = body_of_only w (translate l.program c (formal_scene w)) (terms_of l.program row (formal_scene w)) in HasBody n (renumber (places w b) b))

    pub RowFits : {n : _} → (ℕ → Bool) → Bool → Row_of-Spec n → Scene → Type 0
    RowFits hidden inside end_of-Spec w = Unit {0}
    RowFits hidden inside (more_of-Spec e row) w = Fits hidden inside e w × RowFits hidden inside row w
