-- In each quantified formula of a program's text, those in it have greater numbers.
use Rattle.std.proofs.Common.{◌≡◌, ℕ, zero, suc, ◌+◌, ◌&&◌, Bool, true, false, List, [], ◌∷◌, ◌++◌, length, refl}
use Rattle.std.specs.Prelude.{flat_map, Some}
use Rattle.std.proofs.lemmas.Bool.{and_parts}
use Rattle.object_types.specs.Sets.{every}
use Rattle.method.specs.declared.program.Spec.{Spec, Row_of-Spec, end_of-Spec, more_of-Spec}
use Rattle.method.specs.declared.program.Spec.TheVariants as s
use Rattle.method.specs.declared.program.Simple.{Simple}
use Rattle.method.specs.declared.program.Simple.TheVariants.{Assign, ChangeOwned, EndClaim}
use Rattle.method.specs.declared.program.Inner.{Inner, Row_of-Inner, end_of-Inner, more_of-Inner}
use Rattle.method.specs.declared.program.Inner.TheVariants.{Inside, InsideIf'}
use Rattle.method.specs.declared.program.Action.{Action}
use Rattle.method.specs.declared.program.Action.TheVariants.{Simply, Declare, Define, WrapObject, UnwrapObject, AssertSpec, FreeObject, SpawnThread, Atomic}
use Rattle.method.specs.declared.program.Clause.{Clause}
use Rattle.method.specs.declared.program.Stmt.{Stmt, Row_of-Stmt, end_of-Stmt, more_of-Stmt}
use Rattle.method.specs.declared.program.Stmt.TheVariants.{Do, If', While', DoWhile', Unwrapping', Call, Return}
use Rattle.method.specs.declared.program.FunctionInfo.{FunctionInfo}
use Rattle.method.specs.declared.program.StructInfo.{StructInfo}
use Rattle.method.specs.declared.program.Program.{Program}
use Rattle.method.specs.Tables.{has_fixed_owns}
use Rattle.terms.specs.Formula.{Formula}
use Rattle.term_meaning.specs.Meaning.{Language}
use Rattle.term_meaning.specs.Filling.{speaks_from}
use Rattle.conditions.specs.Formulas.{null, reference, heap, not', eq, owner, owns, any_of, is_any}
use Rattle.conditions.specs.Annotations.{Scene, old_scene, bind_ref, formal_scene, subject_of, translate, tests, body_of_all, body_of_some, body_of_only, terms_of}
use Rattle.conditions.specs.Quantified.{QuantifiedFormula, spec_quantifiers, row_quantifiers, specs_quantifiers, clauses_quantifiers, simple_quantifiers, inner_quantifiers, inner_row_quantifiers, action_quantifiers, stmt_quantifiers, stmts_quantifiers, function_quantifiers, program_quantifiers, find_quantifier, quantifier_formula, places, references_from, members_quantified, listed_quantified, struct_words, function_words}
use Rattle.condition_meaning.specs.Languages.{language_of}
use Rattle.condition_meaning.specs.Fits.{Fits, RowFits, names, numbers_from, row_numbers_from}
use Rattle.condition_meaning.specs.Annotated as test
use Rattle.condition_meaning.specs.Annotated.{Annotated, Each, nothing_hidden, IsListed}
use Rattle.condition_meaning.proofs.Constants.{Speaks, speaks_test, renumbered_speaks}
use Rattle.condition_meaning.proofs.Places.{EachPlace, formal_speaks}
use Rattle.condition_meaning.proofs.Words.{speaks, row_speak, all_body_speaks, some_body_speaks, subject_speaks, terms_speak, only_body_speaks}
use Rattle.condition_meaning.proofs.Listed.{fits_by_test, each_parts}

abbrev Anything : ℕ → Type 0
Anything n = Unit {0}

abbrev pub Layered : QuantifiedFormula → Type 0
Layered q = speaks_from (suc q.number) q.body ≡ true

any_place : (hidden : ℕ → Bool) (x : Scene) → EachPlace Anything hidden x
any_place hidden x = record { after = tt; before = tt; me = tt; this = tt; result = tt; locals = λ i h v. tt; entry = λ i h. tt; bound = λ i h. tt; last = tt }

each_joined : (p : Program) (P : QuantifiedFormula → Type 0) (qs rs : List QuantifiedFormula) → Each p P qs → Each p P rs → Each p P (qs ++ rs)
each_joined p P [] rs a b = b
each_joined p P (q ∷ qs) rs a b = (a.0, each_joined p P qs rs a.1 b)

module _ (l : Language) where
  body_layered : (n : ℕ) (w : Scene) (b : Formula) → Speaks Anything (suc n) b → Layered (quantifier_formula w n b)
  body_layered n w b says = speaks_test Anything (suc n) (quantifier_formula w n b).body (renumbered_speaks Anything (suc n) (places w b) b says)

  mutual
    pub layered_spec : (e : Spec) (hidden : ℕ → Bool) (inside : Bool) (w : Scene) → Fits l hidden inside e w → Each l.program Layered (spec_quantifiers l.program e w)
    layered_spec (s.Number z) hid i w f = tt
    layered_spec (s.Truth b) hid i w f = tt
    layered_spec s.Null hid i w f = tt
    layered_spec (s.Variable j) hid i w f = tt
    layered_spec (s.Bound j) hid i w f = tt
    layered_spec s.This hid i w f = tt
    layered_spec s.Me hid i w f = tt
    layered_spec s.Result hid i w f = tt
    layered_spec (s.Has c) hid i w f = tt
    layered_spec (s.Field' q e g) hid i w f = layered_spec e hid i w f.1
    layered_spec (s.Closed' q e) hid i w f = layered_spec e hid i w f
    layered_spec (s.Owner' q e) hid i w f = layered_spec e hid i w f
    layered_spec (s.ClaimCount' q e) hid i w f = layered_spec e hid i w f
    layered_spec (s.Not' q e) hid i w f = layered_spec e hid i w f
    layered_spec (s.Negate' q e) hid i w f = layered_spec e hid i w f
    layered_spec (s.Wrapped' q e) hid i w f = layered_spec e hid i w f
    layered_spec (s.Wrapped0' q e) hid i w f = layered_spec e hid i w f
    layered_spec (s.Mutable' q e) hid i w f = layered_spec e hid i w f
    layered_spec (s.Fresh' q e) hid i w f = layered_spec e hid i w f
    layered_spec (s.Lists' q e) hid i w f = layered_spec e hid i w f
    layered_spec (s.Member' q b r c) hid i w f = each_joined l.program Layered (spec_quantifiers l.program b w) (spec_quantifiers l.program c w) (layered_spec b hid i w f.0) (layered_spec c hid i w f.1)
    layered_spec (s.Arithmetic' op q b r c) hid i w f = each_joined l.program Layered (spec_quantifiers l.program b w) (spec_quantifiers l.program c w) (layered_spec b hid i w f.0) (layered_spec c hid i w f.1)
    layered_spec (s.Compare' op q b r c) hid i w f = each_joined l.program Layered (spec_quantifiers l.program b w) (spec_quantifiers l.program c w) (layered_spec b hid i w f.0) (layered_spec c hid i w f.1)
    layered_spec (s.And' q b r c) hid i w f = each_joined l.program Layered (spec_quantifiers l.program b w) (spec_quantifiers l.program c w) (layered_spec b hid i w f.0) (layered_spec c hid i w f.1)
    layered_spec (s.Or' q b r c) hid i w f = each_joined l.program Layered (spec_quantifiers l.program b w) (spec_quantifiers l.program c w) (layered_spec b hid i w f.0) (layered_spec c hid i w f.1)
    layered_spec (s.Implies' q b r c) hid i w f = each_joined l.program Layered (spec_quantifiers l.program b w) (spec_quantifiers l.program c w) (layered_spec b hid i w f.0) (layered_spec c hid i w f.1)
    layered_spec (s.Iff' q b r c) hid i w f = each_joined l.program Layered (spec_quantifiers l.program b w) (spec_quantifiers l.program c w) (layered_spec b hid i w f.0) (layered_spec c hid i w f.1)
    layered_spec (s.ClaimsObject' q b r c) hid i w f = each_joined l.program Layered (spec_quantifiers l.program b w) (spec_quantifiers l.program c w) (layered_spec b hid i w f.0) (layered_spec c hid i w f.1)
    layered_spec (s.Choose' q b r c u d) hid i w f = each_joined l.program Layered (spec_quantifiers l.program b w ++ spec_quantifiers l.program c w) (spec_quantifiers l.program d w) (each_joined l.program Layered (spec_quantifiers l.program b w) (spec_quantifiers l.program c w) (layered_spec b hid i w f.0) (layered_spec c hid i w f.1)) (layered_spec d hid i w f.2)
    layered_spec (s.Old' q e) hid i w f = layered_spec e hid i (old_scene w) f
    layered_spec (s.Unchanged' q e) hid i w f = layered_spec e hid i w f.1
    layered_spec (s.Claims' q c n row) hid i w f = each_joined l.program Layered (spec_quantifiers l.program c w) (row_quantifiers l.program row w) (layered_spec c hid i w f.0) (layered_row row hid true w f.1)
    layered_spec (s.ForAll' n ty q e r body) hid i w f =
        let z = and_parts (numbers_from (suc n) e) (numbers_from (suc n) body) f.2 in
        let object = translate l.program e (formal_scene w) in
        let passes = translate l.program body (bind_ref (subject_of w) (formal_scene w)) in
        let b = body_of_all ty w object passes in
        let says = all_body_speaks Anything (suc n) hid ty w object passes (any_place hid w) (speaks l e Anything (suc n) hid false (formal_scene w) w (formal_speaks Anything (suc n) hid w (any_place hid w)) z.0 f.3) (speaks l body Anything (suc n) hid false (bind_ref (subject_of w) (formal_scene w)) (bind_ref null w) (subject_speaks Anything (suc n) hid w (any_place hid w)) z.1 f.4) in
        (body_layered n w b says, each_joined l.program Layered (spec_quantifiers l.program e w) (spec_quantifiers l.program body (bind_ref null w)) (layered_spec e hid false w f.3) (layered_spec body hid false (bind_ref null w) f.4))
    layered_spec (s.Exists' n ty q e k row) hid i w f =
        let z = and_parts (numbers_from (suc n) e) (row_numbers_from (suc n) row) f.2 in
        let object = translate l.program e (formal_scene w) in
        let pass = tests l.program row (bind_ref (subject_of w) (formal_scene w)) in
        let b = body_of_some ty w object pass in
        let says = some_body_speaks Anything (suc n) hid ty w object pass (any_place hid w) (speaks l e Anything (suc n) hid false (formal_scene w) w (formal_speaks Anything (suc n) hid w (any_place hid w)) z.0 f.3) (row_speak l row Anything (suc n) hid false (bind_ref (subject_of w) (formal_scene w)) (bind_ref null w) (subject_speaks Anything (suc n) hid w (any_place hid w)) z.1 f.4) in
        (body_layered n w b says, each_joined l.program Layered (spec_quantifiers l.program e w) (row_quantifiers l.program row (bind_ref null w)) (layered_spec e hid false w f.3) (layered_row row hid false (bind_ref null w) f.4))
    layered_spec (s.ClaimsOnly' n q c k row) hid i w f =
        let z = and_parts (numbers_from (suc n) c) (row_numbers_from (suc n) row) f.1 in
        let claim = translate l.program c (formal_scene w) in
        let objects = terms_of l.program row (formal_scene w) in
        let b = body_of_only w claim objects in
        let all = formal_speaks Anything (suc n) hid w (any_place hid w) in
        let says = only_body_speaks Anything (suc n) hid w claim objects (any_place hid w) (speaks l c Anything (suc n) hid false (formal_scene w) w all z.0 f.3) (terms_speak l row Anything (suc n) hid false (formal_scene w) w all z.1 f.4) in
        (body_layered n w b says, each_joined l.program Layered (spec_quantifiers l.program c w) (row_quantifiers l.program row w) (layered_spec c hid false w f.3) (layered_row row hid false w f.4))

    pub layered_row : {k : _} (row : Row_of-Spec k) (hidden : ℕ → Bool) (inside : Bool) (w : Scene) → RowFits l hidden inside row w → Each l.program Layered (row_quantifiers l.program row w)
    layered_row end_of-Spec hid i w f = tt
    layered_row (more_of-Spec e row) hid i w f = each_joined l.program Layered (spec_quantifiers l.program e w) (row_quantifiers l.program row w) (layered_spec e hid i w f.0) (layered_row row hid i w f.1)

-- The formulas of wraps and of claims that end.

any_speaks : (m : ℕ) (q : Formula) (i n : ℕ) (last : Formula) → Speaks Anything m q → Speaks Anything m last → Speaks Anything m (any_of (is_any q (references_from i n) ++ last ∷ []))
any_speaks m q i zero last a b = b
any_speaks m q i (suc zero) last a b = ((a, ((tt, refl), tt)), (b, tt))
any_speaks m q i (suc (suc n)) last a b = ((a, ((tt, refl), tt)), (any_speaks m q (i + 1) (suc n) last a b, tt))

some_speaks : (m : ℕ) (q : Formula) (i n : ℕ) → Speaks Anything m q → Speaks Anything m (any_of (is_any q (references_from i n)))
some_speaks m q i zero a = (tt, tt)
some_speaks m q i (suc zero) a = (a, ((tt, refl), tt))
some_speaks m q i (suc (suc n)) a = ((a, ((tt, refl), tt)), (some_speaks m q (i + 1) (suc n) a, tt))

members_layered : (b : Bool) (n w : ℕ) → Layered (members_quantified b n w)
members_layered true n w = speaks_test Anything (suc n) (members_quantified true n w).body (owned, ((((((tt, refl), ((tt, refl), tt)), (tt, tt)), ((((tt, refl), ((tt, refl), tt)), ((tt, refl), tt)), tt)), (any_speaks (suc n) (reference (5 + w)) 4 w (not' (eq (owner (heap (4 + w)) (reference (5 + w))) (reference 3))) (tt, refl) ((((tt, refl), ((tt, refl), tt)), ((tt, refl), tt)), tt), tt)), tt))
  where
    owned : Speaks Anything (suc n) (owns (heap 0) (reference 1) (reference (5 + w)))
    owned = (((tt, refl), ((tt, refl), ((tt, refl), tt))), (tt, tt))
members_layered false n w = speaks_test Anything (suc n) (members_quantified false n w).body (owned, ((((((tt, refl), ((tt, refl), tt)), (tt, tt)), ((((tt, refl), ((tt, refl), tt)), ((tt, refl), tt)), tt)), (any_speaks (suc n) (reference (4 + w)) 3 w (not' (eq (owner (heap (3 + w)) (reference (4 + w))) (reference 2))) (tt, refl) ((((tt, refl), ((tt, refl), tt)), ((tt, refl), tt)), tt), tt)), tt))
  where
    owned : Speaks Anything (suc n) (owns (heap 0) (reference 1) (reference (4 + w)))
    owned = (((tt, refl), ((tt, refl), ((tt, refl), tt))), (tt, tt))

listed_layered : (n objects : ℕ) → Layered (listed_quantified n objects)
listed_layered n objects = speaks_test Anything (suc n) (listed_quantified n objects).body ((((tt, refl), ((tt, refl), ((tt, refl), tt))), (tt, tt)), (some_speaks (suc n) (reference (2 + objects)) 2 objects (tt, refl), tt))

-- Of a program's text.
module _ (p : Program) where
  layered_simple : (c : Simple) → Each p Layered (simple_quantifiers c)
  layered_simple (Assign t r) = tt
  layered_simple (ChangeOwned c e es) = tt
  layered_simple (EndClaim q e es) = (listed_layered q (length es.items), tt)

  mutual
    layered_inner : (c : Inner) → Each p Layered (inner_quantifiers c)
    layered_inner (Inside line c) = layered_simple c
    layered_inner (InsideIf' line e m a n b) = each_joined p Layered (inner_row_quantifiers a) (inner_row_quantifiers b) (layered_inner_row a) (layered_inner_row b)

    layered_inner_row : {m : _} (row : Row_of-Inner m) → Each p Layered (inner_row_quantifiers row)
    layered_inner_row end_of-Inner = tt
    layered_inner_row (more_of-Inner c row) = each_joined p Layered (inner_quantifiers c) (inner_row_quantifiers row) (layered_inner c) (layered_inner_row row)

  layered_inners : (cs : List Inner) → Each p Layered (flat_map inner_quantifiers cs)
  layered_inners [] = tt
  layered_inners (c ∷ cs) = each_joined p Layered (inner_quantifiers c) (flat_map inner_quantifiers cs) (layered_inner c) (layered_inners cs)

  -- an annotation that passes its test, whose formulas are in the table
  one_layered : (e : Spec) (w : Scene) → test.fits p nothing_hidden false e w ≡ true → Each p (IsListed p) (spec_quantifiers p e w) → Each p Layered (spec_quantifiers p e w)
  one_layered e w t a = layered_spec (language_of p) e nothing_hidden false w (fits_by_test p e nothing_hidden false w t a)

  all_layered : (es : List Spec) (w : Scene) → every (λ e. test.fits p nothing_hidden false e w) es ≡ true → Each p (IsListed p) (specs_quantifiers p es w) → Each p Layered (specs_quantifiers p es w)
  all_layered [] w t a = tt
  all_layered (e ∷ es) w t a =
      let z = and_parts (test.fits p nothing_hidden false e w) (every (λ e. test.fits p nothing_hidden false e w) es) t in
      let y = each_parts p (IsListed p) (spec_quantifiers p e w) (specs_quantifiers p es w) a in
      each_joined p Layered (spec_quantifiers p e w) (specs_quantifiers p es w) (one_layered e w z.0 y.0) (all_layered es w z.1 y.1)

  -- the same with a test that says more
  by_more : (es : List Spec) (w : Scene) (passes : Spec → Bool) → ((e : Spec) → passes e ≡ true → test.fits p nothing_hidden false e w ≡ true) → every passes es ≡ true → Each p (IsListed p) (specs_quantifiers p es w) → Each p Layered (specs_quantifiers p es w)
  by_more [] w passes less t a = tt
  by_more (e ∷ es) w passes less t a =
      let z = and_parts (passes e) (every passes es) t in
      let y = each_parts p (IsListed p) (spec_quantifiers p e w) (specs_quantifiers p es w) a in
      each_joined p Layered (spec_quantifiers p e w) (specs_quantifiers p es w) (one_layered e w (less e z.0) y.0) (by_more es w passes less z.1 y.1)

  clauses_layered : (cs : List Clause) (w : Scene) (passes : Clause → Bool) → ((c : Clause) → passes c ≡ true → test.fits p nothing_hidden false c.spec w ≡ true) → every passes cs ≡ true → Each p (IsListed p) (clauses_quantifiers p cs w) → Each p Layered (clauses_quantifiers p cs w)
  clauses_layered [] w passes less t a = tt
  clauses_layered (c ∷ cs) w passes less t a =
      let z = and_parts (passes c) (every passes cs) t in
      let y = each_parts p (IsListed p) (spec_quantifiers p c.spec w) (clauses_quantifiers p cs w) a in
      each_joined p Layered (spec_quantifiers p c.spec w) (clauses_quantifiers p cs w) (one_layered c.spec w (less c z.0) y.0) (clauses_layered cs w passes less z.1 y.1)

  module _ (f : FunctionInfo) where
    in_text : (e : Spec) → test.spec_fits p f e ≡ true → test.fits p nothing_hidden false e (function_words f) ≡ true
    in_text e t = (and_parts (test.fits p nothing_hidden false e (function_words f)) (names (length f.variables.items) false e) t).0

    in_clause : (r : Bool) (c : Clause) → test.clause_fits p f r c ≡ true → test.fits p nothing_hidden false c.spec (function_words f) ≡ true
    in_clause r c t = (and_parts (test.fits p nothing_hidden false c.spec (function_words f)) (names f.parameters r c.spec) t).0

    in_item : (e : Spec) → test.item_fits p f e ≡ true → test.fits p nothing_hidden false e (function_words f) ≡ true
    in_item e t = (and_parts (test.fits p nothing_hidden false e (function_words f)) (names f.parameters false e) (and_parts (test.fits p nothing_hidden false e (function_words f) && names f.parameters false e) _ t).0).0

    action_layered : (c : Action) → test.action_fits p f c ≡ true → Each p (IsListed p) (action_quantifiers p f c) → Each p Layered (action_quantifiers p f c)
    action_layered (Simply c) t a = layered_simple c
    action_layered (Declare i) t a = tt
    action_layered (Define i r) t a = tt
    action_layered (WrapObject ty q e) t a = (members_layered (has_fixed_owns p ty) q (length f.writes.items), tt)
    action_layered (UnwrapObject e) t a = tt
    action_layered (AssertSpec e) t a = one_layered e (function_words f) (in_text e t) a
    action_layered (FreeObject e) t a = tt
    action_layered (SpawnThread g es) t a = tt
    action_layered (Atomic ls body) t a = layered_inners body.items

    mutual
      stmt_layered : (c : Stmt) → test.stmt_fits p f c ≡ true → Each p (IsListed p) (stmt_quantifiers p f c) → Each p Layered (stmt_quantifiers p f c)
      stmt_layered (Do line c) t a = action_layered c t a
      stmt_layered (If' line in_ghost e m x n y) t a =
          let z = and_parts (test.stmts_fit p f x) (test.stmts_fit p f y) t in
          let w = each_parts p (IsListed p) (stmts_quantifiers p f x) (stmts_quantifiers p f y) a in
          each_joined p Layered (stmts_quantifiers p f x) (stmts_quantifiers p f y) (stmts_layered x z.0 w.0) (stmts_layered y z.1 w.1)
      stmt_layered (While' line invs e m row) t a =
          let z = and_parts (every (test.spec_fits p f) invs.items) (test.stmts_fit p f row) t in
          let w = each_parts p (IsListed p) (specs_quantifiers p invs.items (function_words f)) (stmts_quantifiers p f row) a in
          each_joined p Layered (specs_quantifiers p invs.items (function_words f)) (stmts_quantifiers p f row) (by_more invs.items (function_words f) (test.spec_fits p f) in_text z.0 w.0) (stmts_layered row z.1 w.1)
      stmt_layered (DoWhile' line invs m row tested e) t a =
          let z = and_parts (every (test.spec_fits p f) invs.items) (test.stmts_fit p f row) t in
          let w = each_parts p (IsListed p) (specs_quantifiers p invs.items (function_words f)) (stmts_quantifiers p f row) a in
          each_joined p Layered (specs_quantifiers p invs.items (function_words f)) (stmts_quantifiers p f row) (by_more invs.items (function_words f) (test.spec_fits p f) in_text z.0 w.0) (stmts_layered row z.1 w.1)
      stmt_layered (Unwrapping' line ty q e m row) t a = (members_layered (has_fixed_owns p ty) q (length f.writes.items), stmts_layered row t a.1)
      stmt_layered (Call line to c g es) t a = tt
      stmt_layered (Return line e) t a = tt

      stmts_layered : {m : _} (row : Row_of-Stmt m) → test.stmts_fit p f row ≡ true → Each p (IsListed p) (stmts_quantifiers p f row) → Each p Layered (stmts_quantifiers p f row)
      stmts_layered end_of-Stmt t a = tt
      stmts_layered (more_of-Stmt c row) t a =
          let z = and_parts (test.stmt_fits p f c) (test.stmts_fit p f row) t in
          let w = each_parts p (IsListed p) (stmt_quantifiers p f c) (stmts_quantifiers p f row) a in
          each_joined p Layered (stmt_quantifiers p f c) (stmts_quantifiers p f row) (stmt_layered c z.0 w.0) (stmts_layered row z.1 w.1)

    body_layered_all : (cs : List Stmt) → every (test.stmt_fits p f) cs ≡ true → Each p (IsListed p) (flat_map (stmt_quantifiers p f) cs) → Each p Layered (flat_map (stmt_quantifiers p f) cs)
    body_layered_all [] t a = tt
    body_layered_all (c ∷ cs) t a =
        let z = and_parts (test.stmt_fits p f c) (every (test.stmt_fits p f) cs) t in
        let w = each_parts p (IsListed p) (stmt_quantifiers p f c) (flat_map (stmt_quantifiers p f) cs) a in
        each_joined p Layered (stmt_quantifiers p f c) (flat_map (stmt_quantifiers p f) cs) (stmt_layered c z.0 w.0) (body_layered_all cs z.1 w.1)

    function_layered : test.function_fits p f ≡ true → Each p (IsListed p) (function_quantifiers p f) → Each p Layered (function_quantifiers p f)
    function_layered t a =
        let rs = clauses_quantifiers p f.requires_.items (function_words f) in
        let es = clauses_quantifiers p f.ensures_.items (function_words f) in
        let ws = specs_quantifiers p f.writes.items (function_words f) in
        let ss = flat_map (stmt_quantifiers p f) f.body.items in
        let z = and_parts ((every (test.clause_fits p f false) f.requires_.items && every (test.clause_fits p f true) f.ensures_.items) && every (test.item_fits p f) f.writes.items) (every (test.stmt_fits p f) f.body.items) t in
        let y = and_parts (every (test.clause_fits p f false) f.requires_.items && every (test.clause_fits p f true) f.ensures_.items) (every (test.item_fits p f) f.writes.items) z.0 in
        let x = and_parts (every (test.clause_fits p f false) f.requires_.items) (every (test.clause_fits p f true) f.ensures_.items) y.0 in
        let w = each_parts p (IsListed p) (rs ++ es ++ ws) ss a in
        let v = each_parts p (IsListed p) (rs ++ es) ws w.0 in
        let u = each_parts p (IsListed p) rs es v.0 in
        each_joined p Layered (rs ++ es ++ ws) ss (each_joined p Layered (rs ++ es) ws (each_joined p Layered rs es (clauses_layered f.requires_.items (function_words f) (test.clause_fits p f false) (in_clause false) x.0 u.0) (clauses_layered f.ensures_.items (function_words f) (test.clause_fits p f true) (in_clause true) x.1 u.1)) (by_more f.writes.items (function_words f) (test.item_fits p f) in_item y.1 v.1)) (body_layered_all f.body.items z.1 w.1)

  functions_layered : (fs : List FunctionInfo) → every (test.function_fits p) fs ≡ true → Each p (IsListed p) (flat_map (λ f. function_quantifiers p f) fs) → Each p Layered (flat_map (λ f. function_quantifiers p f) fs)
  functions_layered [] t a = tt
  functions_layered (f ∷ fs) t a =
      let z = and_parts (test.function_fits p f) (every (test.function_fits p) fs) t in
      let w = each_parts p (IsListed p) (function_quantifiers p f) (flat_map (λ f. function_quantifiers p f) fs) a in
      each_joined p Layered (function_quantifiers p f) (flat_map (λ f. function_quantifiers p f) fs) (function_layered f z.0 w.0) (functions_layered fs z.1 w.1)

  structs_layered : (ss : List StructInfo) → every (test.struct_fits p) ss ≡ true → Each p (IsListed p) (flat_map (λ (c : StructInfo). specs_quantifiers p c.invariants.items struct_words) ss) → Each p Layered (flat_map (λ (c : StructInfo). specs_quantifiers p c.invariants.items struct_words) ss)
  structs_layered [] t a = tt
  structs_layered (s ∷ ss) t a =
      let z = and_parts (test.struct_fits p s) (every (test.struct_fits p) ss) t in
      let w = each_parts p (IsListed p) (specs_quantifiers p s.invariants.items struct_words) (flat_map (λ (c : StructInfo). specs_quantifiers p c.invariants.items struct_words) ss) a in
      each_joined p Layered (specs_quantifiers p s.invariants.items struct_words) (flat_map (λ (c : StructInfo). specs_quantifiers p c.invariants.items struct_words) ss) (all_layered s.invariants.items struct_words z.0 w.0) (structs_layered ss z.1 w.1)

  pub program_layered : Annotated p → Each p Layered (program_quantifiers p)
  program_layered good =
      let ss = flat_map (λ (c : StructInfo). specs_quantifiers p c.invariants.items struct_words) p.structs.items in
      let fs = flat_map (λ f. function_quantifiers p f) p.functions.items in
      let w = each_parts p (IsListed p) ss fs good.numbered in
      each_joined p Layered ss fs (structs_layered p.structs.items good.structs w.0) (functions_layered p.functions.items good.functions w.1)
