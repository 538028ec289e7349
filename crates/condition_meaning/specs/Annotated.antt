-- Programs whose annotations have formulas. Own: tests of a program's text, which a typed source passes; the grammar and the typing rules give each of them.
use Rattle.std.specs.Prelude.{◌≡◌, ℕ, suc, Bool, true, false, not, ◌&&◌, nat_lt, List, [], ◌∷◌, length, Some, IsTrue}
use Rattle.object_types.specs.Sets.{every}
use Rattle.method.specs.declared.program.Hole.{Hole}
use Rattle.method.specs.declared.program.Hole.TheVariants.{OfVariable}
use Rattle.method.specs.declared.program.Spec.{Spec, Row_of-Spec, end_of-Spec, more_of-Spec}
use Rattle.method.specs.declared.program.Spec.TheVariants as s
use Rattle.method.specs.declared.program.Action.{Action}
use Rattle.method.specs.declared.program.Action.TheVariants.{AssertSpec}
use Rattle.method.specs.declared.program.Clause.{Clause}
use Rattle.method.specs.declared.program.Stmt.{Stmt, Row_of-Stmt, end_of-Stmt, more_of-Stmt}
use Rattle.method.specs.declared.program.Stmt.TheVariants.{Do, If', While', DoWhile', Unwrapping', Call, Return}
use Rattle.method.specs.declared.program.FunctionInfo.{FunctionInfo}
use Rattle.method.specs.declared.program.StructInfo.{StructInfo}
use Rattle.method.specs.declared.program.Shape.{Shape}
use Rattle.method.specs.declared.program.Program.{Program}
use Rattle.conditions.specs.Formulas.{null, heap}
use Rattle.conditions.specs.Annotations.{Scene, old_scene, bind_ref, translate, claim_scene}
use Rattle.conditions.specs.Quantified.{QuantifiedFormula, spec_quantifiers, program_quantifiers, find_quantifier, struct_words, function_words}
use Rattle.condition_meaning.specs.Fits.{is_ref, is_ref_type, same_bool, params_fit, names, numbers_from, row_numbers_from, are_refs}
use Rattle.condition_meaning.specs.TextWords.{call_words}
use Rattle.condition_meaning.specs.Languages.{hole_constants}

-- no quantified formula
abbrev pub is_empty : List QuantifiedFormula → Bool
is_empty [] = true
is_empty (q ∷ qs) = false

-- what fills the hole of a conjunct is no hidden variable
abbrev pub is_visible_hole : (ℕ → Bool) → Hole → Bool
is_visible_hole hidden (OfVariable i) = not (hidden i)
is_visible_hole hidden _ = true

-- every variable is known
abbrev pub nothing_hidden : ℕ → Bool
nothing_hidden i = false

module _ (p : Program) where
  -- the annotation has a formula over a scene: `Fits` as a test, but for the numbers of its quantified formulas
  abbrev mutual
    pub fits : (ℕ → Bool) → Bool → Spec → Scene → Bool
    fits hidden inside (s.Number z) w = true
    fits hidden inside (s.Truth b) w = true
    fits hidden inside s.Null w = true
    fits hidden inside (s.Variable i) w = not (hidden i)
    fits hidden inside (s.Bound i) w = true
    fits hidden inside s.This w = true
    fits hidden inside s.Me w = true
    fits hidden inside s.Result w = true
    fits hidden inside (s.Field' q e f) w = nat_lt f (length p.fields.items) && fits hidden inside e w
    fits hidden inside (s.Closed' q e) w = fits hidden inside e w
    fits hidden inside (s.Owner' q e) w = fits hidden inside e w
    fits hidden inside (s.ClaimCount' q e) w = fits hidden inside e w
    fits hidden inside (s.Member' q a r b) w = fits hidden inside a w && fits hidden inside b w
    fits hidden inside (s.Not' q e) w = fits hidden inside e w
    fits hidden inside (s.Negate' q e) w = fits hidden inside e w
    fits hidden inside (s.Arithmetic' op q a r b) w = fits hidden inside a w && fits hidden inside b w
    fits hidden inside (s.Compare' op q a r b) w = fits hidden inside a w && fits hidden inside b w
    fits hidden inside (s.And' q a r b) w = fits hidden inside a w && fits hidden inside b w
    fits hidden inside (s.Or' q a r b) w = fits hidden inside a w && fits hidden inside b w
    fits hidden inside (s.Implies' q a r b) w = fits hidden inside a w && fits hidden inside b w
    fits hidden inside (s.Iff' q a r b) w = fits hidden inside a w && fits hidden inside b w
    fits hidden inside (s.Choose' q a r b t c) w = fits hidden inside a w && (fits hidden inside b w && (fits hidden inside c w && same_bool (is_ref (translate p b w)) (is_ref (translate p c w))))
    fits hidden inside (s.Old' q e) w = fits hidden inside e (old_scene w)
    fits hidden inside (s.Unchanged' q e) w = params_fit w.entry w.locals && fits hidden inside e w
    fits hidden inside (s.Wrapped' q e) w = fits hidden inside e w
    fits hidden inside (s.Wrapped0' q e) w = fits hidden inside e w
    fits hidden inside (s.Mutable' q e) w = fits hidden inside e w
    fits hidden inside (s.Fresh' q e) w = fits hidden inside e w
    fits hidden inside (s.ClaimsObject' q c r o) w = fits hidden inside c w && fits hidden inside o w
    fits hidden inside (s.Claims' q c n row) w = fits hidden inside c w && row_fits hidden true row w
    fits hidden inside (s.Lists' q o) w = fits hidden inside o w
    fits hidden inside (s.Has c) w = nat_lt c.shape (length p.shapes.items) && every (is_visible_hole hidden) c.holes.items
    fits hidden inside (s.ForAll' n ty q e r body) w = not inside && (is_ref_type ty && ((numbers_from (suc n) e && numbers_from (suc n) body) && (fits hidden false e w && fits hidden false body (bind_ref null w))))
    fits hidden inside (s.Exists' n ty q e k row) w = not inside && (is_ref_type ty && ((numbers_from (suc n) e && row_numbers_from (suc n) row) && (fits hidden false e w && row_fits hidden false row (bind_ref null w))))
    fits hidden inside (s.ClaimsOnly' n q c k row) w = not inside && ((numbers_from (suc n) c && row_numbers_from (suc n) row) && (are_refs p row w && (fits hidden false c w && row_fits hidden false row w)))

    pub row_fits : {n : _} → (ℕ → Bool) → Bool → Row_of-Spec n → Scene → Bool
    row_fits hidden inside end_of-Spec w = true
    row_fits hidden inside (more_of-Spec e row) w = fits hidden inside e w && row_fits hidden inside row w

  -- the invariants of a type have formulas
  abbrev pub struct_fits : StructInfo → Bool
  struct_fits s = every (λ e. fits nothing_hidden false e struct_words) s.invariants.items

  -- what names a member of an object's fixed owned set has a formula, and stands for a reference
  abbrev pub member_fits : Spec → Bool
  member_fits e = fits nothing_hidden false e struct_words && is_ref (translate p e struct_words)

  -- so do all that the type names
  abbrev pub members_fit : StructInfo → Bool
  members_fit s = every member_fits s.mine.items

  -- Annotations of a function's text, whose variables they may name.
  module _ (f : FunctionInfo) where
    -- an assertion or a loop invariant
    abbrev pub spec_fits : Spec → Bool
    spec_fits e = fits nothing_hidden false e (function_words f) && names (length f.variables.items) false e

    -- those of an action
    abbrev pub action_fits : Action → Bool
    action_fits (AssertSpec e) = spec_fits e
    action_fits _ = true

    -- those of a statement and the statements in it
    abbrev mutual
      pub stmt_fits : Stmt → Bool
      stmt_fits (Do line c) = action_fits c
      stmt_fits (If' line in_ghost e m a n b) = stmts_fit a && stmts_fit b
      stmt_fits (While' line invs e m row) = every spec_fits invs.items && stmts_fit row
      stmt_fits (DoWhile' line invs m row tested e) = every spec_fits invs.items && stmts_fit row
      stmt_fits (Unwrapping' line ty q e m row) = stmts_fit row
      stmt_fits (Call line to c g es) = true
      stmt_fits (Return line e) = true

      pub stmts_fit : {m : _} → Row_of-Stmt m → Bool
      stmts_fit end_of-Stmt = true
      stmts_fit (more_of-Stmt c row) = stmt_fits c && stmts_fit row

    -- a clause of the contract names parameters, and the result where it is an ensures clause
    abbrev pub clause_fits : Bool → Clause → Bool
    clause_fits result c = fits nothing_hidden false c.spec (function_words f) && names f.parameters result c.spec

    -- an item of the writes list names parameters and is a reference
    abbrev pub item_fits : Spec → Bool
    item_fits e = (fits nothing_hidden false e (function_words f) && names f.parameters false e) && is_ref (translate p e (call_words f))

    -- all annotations of the function
    abbrev pub function_fits : Bool
    function_fits = ((every (clause_fits false) f.requires_.items && every (clause_fits true) f.ensures_.items) && every item_fits f.writes.items) && every stmt_fits f.body.items

  -- the conjunct of a claim's shape, over the values of its holes; it has no quantifier
  abbrev pub shape_fits : Shape → Bool
  shape_fits sh = fits nothing_hidden false sh.conjunct (claim_scene p (heap 0) (hole_constants 1 sh.holes.items)) && is_empty (spec_quantifiers p sh.conjunct (claim_scene p (heap 0) (hole_constants 1 sh.holes.items)))

  -- the formula of the program with its number is the quantified formula itself
  abbrev pub IsListed : QuantifiedFormula → Type 0
  IsListed q = find_quantifier q.number (program_quantifiers p) ≡ Some q

  -- P holds of each quantified formula
  abbrev pub Each : (QuantifiedFormula → Type 0) → List QuantifiedFormula → Type 0
  Each P [] = Unit {0}
  Each P (q ∷ qs) = P q × Each P qs

  -- The quantified formulas stand under their numbers, and each annotation of the text has a formula.
  pub record Annotated : Type 0 where
    pub numbered : Each IsListed (program_quantifiers p)
    pub structs : IsTrue (every struct_fits p.structs.items)
    pub shapes : IsTrue (every shape_fits p.shapes.items)
    pub functions : IsTrue (every function_fits p.functions.items)
