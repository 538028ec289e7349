-- What is said of a function's text, by tests of it: its annotations fit, and the quantified formulas of an annotated program stand under their numbers.
use Rattle.std.proofs.Common.{◌≡◌, ℕ, Bool, true, false, List, [], ◌∷◌, ◌++◌, length, slice_get, Some, refl, inl, inr, subst}
use Rattle.std.specs.Prelude.{flat_map}
use Rattle.object_types.specs.Sets.{every}
use Rattle.method.specs.declared.program.Spec.{Spec}
use Rattle.method.specs.declared.program.RightSide.TheVariants.{Compute, Malloc, NewClaim, Interlocked}
use Rattle.method.specs.declared.program.Simple.TheVariants.{Assign, ChangeOwned, EndClaim}
use Rattle.method.specs.declared.program.Action.{Action}
use Rattle.method.specs.declared.program.Action.TheVariants.{Simply, Declare, Define, WrapObject, UnwrapObject, AssertSpec, FreeObject, SpawnThread, Atomic}
use Rattle.method.specs.declared.program.Stmt.{Stmt, Row_of-Stmt, end_of-Stmt, more_of-Stmt}
use Rattle.method.specs.declared.program.Stmt.TheVariants.{Do, If', While', DoWhile', Unwrapping', Call, Return}
use Rattle.method.specs.declared.program.FunctionInfo.{FunctionInfo}
use Rattle.method.specs.declared.program.Program.{Program}
use Rattle.method.specs.Tables.{struct_of, has_fixed_owns}
use Rattle.conditions.specs.Quantified.{members_quantified, function_words, spec_quantifiers, specs_quantifiers, action_quantifiers, stmt_quantifiers, stmts_quantifiers, clauses_quantifiers, program_quantifiers, find_quantifier}
use Rattle.conditions.proofs.Same.{both_true}
use Rattle.condition_walks.proofs.Fitting as fitting
use Rattle.condition_walks.proofs.Fitting.{TextBody}
use Rattle.condition_meaning.specs.Fits.{names}
use Rattle.condition_meaning.specs.Annotated.{Annotated, Each, nothing_hidden, fits, spec_fits, action_fits, stmt_fits, stmts_fit, IsListed}
use Rattle.condition_meaning.proofs.Listed.{each_parts}
use Rattle.condition_meaning.proofs.FunctionScenes.{in_this, text_fits}
use Rattle.action_conditions.proofs.Annotations.{SetFits}
use Rattle.function_law.proofs.Texts.{SpecText, WrapText, ActionText}

-- atomic blocks, claims made and ended, and what is started
abbrev pub is_other : Action → Bool
is_other (Simply (Assign t (NewClaim n))) = true
is_other (Simply (EndClaim q e es)) = true
is_other (Define i (NewClaim n)) = true
is_other (SpawnThread g es) = true
is_other (Atomic ls body) = true
is_other _ = false

members_number : (b : Bool) (q w : ℕ) → (members_quantified b q w).number ≡ q
members_number true q w = refl
members_number false q w = refl

module _ (p : Program) where
  -- one of those, whose formulas are listed
  pub record OtherText (number : ℕ) (f : FunctionInfo) (c : Action) : Type 0 where
    pub other : is_other c ≡ true
    pub listed : Each p (IsListed p) (action_quantifiers p f c)

  module _ (f : FunctionInfo) where
    module _ (good : Annotated p) (sets : (ty : ℕ) → SetFits p (struct_of p ty)) (k : ℕ) (fis : slice_get p.functions.items k ≡ Some f) where
      abbrev Acts : Action → Type 0
      Acts c = ActionText p good k f fis (OtherText k f) c

      abbrev Specs : Spec → Type 0
      Specs e = SpecText p good k f fis e

      abbrev Objects : ℕ → ℕ → Type 0
      Objects ty q = WrapText p f ty q

      spec_said : (e : Spec) → spec_fits p f e ≡ true → Each p (IsListed p) (spec_quantifiers p e (function_words f)) → Specs e
      spec_said e t each =
          let z = both_true (fits p nothing_hidden false e (function_words f)) (names (length f.variables.items) false e) t in
          record { passes = z.0; named = z.1; listed = each }

      specs_said : (es : List Spec) → every (spec_fits p f) es ≡ true → Each p (IsListed p) (specs_quantifiers p es (function_words f)) → fitting.AllText p k f Acts Specs Objects es
      specs_said [] t each = tt
      specs_said (e ∷ es) t each =
          let z = both_true (spec_fits p f e) (every (spec_fits p f) es) t in
          let y = each_parts p (IsListed p) (spec_quantifiers p e (function_words f)) (specs_quantifiers p es (function_words f)) each in
          (spec_said e z.0 y.0, specs_said es z.1 y.1)

      wrap_said : (ty q : ℕ) → (IsListed p) (members_quantified (has_fixed_owns p ty) q (length f.writes.items)) → Objects ty q
      wrap_said ty q is = record {
        numbered = subst (λ n. find_quantifier n (program_quantifiers p) ≡ Some (members_quantified (has_fixed_owns p ty) q (length f.writes.items))) (members_number (has_fixed_owns p ty) q (length f.writes.items)) is;
        names = sets ty;
      }

      action_said : (c : Action) → action_fits p f c ≡ true → Each p (IsListed p) (action_quantifiers p f c) → Acts c
      action_said (Simply (Assign t (Compute e))) h each = inl tt
      action_said (Simply (Assign t (Malloc ty))) h each = inl tt
      action_said (Simply (Assign t (NewClaim n))) h each = inr (record { other = refl; listed = each })
      action_said (Simply (Assign t (Interlocked e n op c))) h each = inl tt
      action_said (Simply (ChangeOwned o e es)) h each = inl tt
      action_said (Simply (EndClaim q e es)) h each = inr (record { other = refl; listed = each })
      action_said (Declare i) h each = inl tt
      action_said (Define i (Compute e)) h each = inl tt
      action_said (Define i (Malloc ty)) h each = inl tt
      action_said (Define i (NewClaim n)) h each = inr (record { other = refl; listed = each })
      action_said (Define i (Interlocked e n op c)) h each = inl tt
      action_said (WrapObject ty q e) h each = inl (wrap_said ty q each.0)
      action_said (UnwrapObject e) h each = inl tt
      action_said (AssertSpec e) h each = inl (spec_said e h each)
      action_said (FreeObject e) h each = inl tt
      action_said (SpawnThread g es) h each = inr (record { other = refl; listed = each })
      action_said (Atomic ls body) h each = inr (record { other = refl; listed = each })

      mutual
        stmt_said : (s : Stmt) → stmt_fits p f s ≡ true → Each p (IsListed p) (stmt_quantifiers p f s) → fitting.TextStmt p k f Acts Specs Objects s
        stmt_said (Do line c) h each = action_said c h each
        stmt_said (If' line in_ghost e m a n b) h each =
            let z = both_true (stmts_fit p f a) (stmts_fit p f b) h in
            let y = each_parts p (IsListed p) (stmts_quantifiers p f a) (stmts_quantifiers p f b) each in
            (row_said a z.0 y.0, row_said b z.1 y.1)
        stmt_said (While' line invs e m row) h each =
            let z = both_true (every (spec_fits p f) invs.items) (stmts_fit p f row) h in
            let y = each_parts p (IsListed p) (specs_quantifiers p invs.items (function_words f)) (stmts_quantifiers p f row) each in
            (specs_said invs.items z.0 y.0, row_said row z.1 y.1)
        stmt_said (DoWhile' line invs m row tested e) h each =
            let z = both_true (every (spec_fits p f) invs.items) (stmts_fit p f row) h in
            let y = each_parts p (IsListed p) (specs_quantifiers p invs.items (function_words f)) (stmts_quantifiers p f row) each in
            (specs_said invs.items z.0 y.0, row_said row z.1 y.1)
        stmt_said (Unwrapping' line ty q e m row) h each =
            (wrap_said ty q each.0, row_said row h each.1)
        stmt_said (Call line to c g es) h each = tt
        stmt_said (Return line e) h each = tt

        row_said : {m : _} → (row : Row_of-Stmt m) → stmts_fit p f row ≡ true → Each p (IsListed p) (stmts_quantifiers p f row) → fitting.TextRow p k f Acts Specs Objects row
        row_said end_of-Stmt h each = tt
        row_said (more_of-Stmt s row) h each =
            let z = both_true (stmt_fits p f s) (stmts_fit p f row) h in
            let y = each_parts p (IsListed p) (stmt_quantifiers p f s) (stmts_quantifiers p f row) each in
            (stmt_said s z.0 y.0, row_said row z.1 y.1)

      body_said : (ss : List Stmt) → every (stmt_fits p f) ss ≡ true → Each p (IsListed p) (flat_map (stmt_quantifiers p f) ss) → TextBody p k f Acts Specs Objects ss
      body_said [] h each = tt
      body_said (s ∷ ss) h each =
          let z = both_true (stmt_fits p f s) (every (stmt_fits p f) ss) h in
          let y = each_parts p (IsListed p) (stmt_quantifiers p f s) (flat_map (stmt_quantifiers p f) ss) each in
          (stmt_said s z.0 y.0, body_said ss z.1 y.1)

      -- the text of a function of an annotated program
      pub text_said : TextBody p k f Acts Specs Objects f.body.items
      text_said =
          body_said f.body.items (text_fits p good k f fis) (each_parts p (IsListed p) (clauses_quantifiers p f.requires_.items (function_words f) ++ clauses_quantifiers p f.ensures_.items (function_words f) ++ specs_quantifiers p f.writes.items (function_words f)) (flat_map (stmt_quantifiers p f) f.body.items) (in_this p good k f fis)).1
