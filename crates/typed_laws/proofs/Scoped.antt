-- The typed program of a source that breaks no rule keeps its scopes.
use Rattle.std.specs.Prelude.{ℕ, suc, ◌+◌, ◌<◌, ◌≤◌, nat_lt, Bool, true, false, ◌&&◌, List, [], ◌∷◌, ◌++◌, length, map, Some, Contains, position, slice_get, unwrap_or, bytes_eq, IsTrue}
use Rattle.std.proofs.Common.{◌≡◌, refl, sym, ap, subst, ◌∙◌, arith, inl, inr}
use Rattle.std.proofs.lemmas.Bool.Decides.{nat_tests}
use Rattle.std.proofs.lemmas.Option.{slice_get_within}
use Rattle.std.proofs.lemmas.List.{length-append, length-map, append_assoc}
use Rattle.std.proofs.lemmas.List.Elements.{Contains-append_left, Contains-append_right}
use Rattle.c_syntax.specs.declared.token.Span.{Span}
use Rattle.c_syntax.specs.declared.tree.Condition.{Condition}
use Rattle.c_syntax.specs.declared.tree.Condition.TheVariants as conditions
use Rattle.c_syntax.specs.Expressions.{Exp}
use Rattle.c_syntax.specs.Items as i
use Rattle.c_syntax.specs.Items.{Clause, Written, FunctionTree, Item}
use Rattle.object_types.specs.Sets.{every}
use Rattle.typing_spec.specs.Declarations.{functions}
use Rattle.typing_spec.specs.Contexts.{Variable}
use Rattle.typing_spec.specs.Names.{repeated}
use Rattle.typing_spec.specs.Pieces.{in_function, with_params, nowhere}
use Rattle.typing_spec.specs.First.{IsWellTyped}
use Rattle.typing_symbols.proofs.Places.{position_in}
use Rattle.typed_program.specs.Trees as t
use Rattle.typed_program.specs.Trees.{Spec, Stmts, Shape, ClaimSite, FunctionInfo}
use Rattle.typed_program.specs.Shapes.{Sorts, numbered}
use Rattle.typed_program.specs.Numbers.{Around, place_of}
use Rattle.typed_program.specs.Annotations.{formulas, spec}
use Rattle.typed_program.specs.Variables.{parameter, variables, all_declared}
use Rattle.typed_program.specs.Statements.{Counters, plus_formulas, rows}
use Rattle.typed_program.specs.Tables.{around_function, item_of, clause_formulas, contract_formulas, each_clause, in_writes, in_clause, clause, mutable_items, precondition, postcondition, listed_items, written, function_sorts, sorts_of, function, numbered_action, numbered_statement, numbered_row, numbered_clause, shapes, program}
use Rattle.tree_forms.specs.InForm.{in_form, in_item}
use Rattle.typed_laws.specs.Law.{ScopedLaw}
use Rattle.typed_laws.proofs.Basics.{and_both, and_left, and_right, or_first, every_append, every_member, contains_none, contains_map, contained}
use Rattle.typed_laws.proofs.Entry.{function_item, body_quiet, params_in, entry_law}
use Rattle.typed_laws.proofs.Facts.{FunctionOf}
use Rattle.typed_laws.proofs.TableLists.{at_place, in_front, at_back, mapped, to_mapped, first_named}
use Rattle.typed_laws.proofs.FunctionTables.{functions_law, variables_differ}
use Rattle.typed_laws.proofs.Ghosts.{alone}
use Rattle.typed_laws.proofs.ScopeTests.{adds, action_in, code_in, spec_in, stmt_in, row_in, contract_in, ScopesTested}
use Rattle.typed_laws.proofs.ScopeReads.{Reads, spec_read, numbered_read}
use Rattle.typed_laws.proofs.ScopeSites.{Firsts}
use Rattle.typed_laws.proofs.ScopeRows.{Counted, Standing}
use Rattle.typed_laws.proofs.ScopeBodies.{statements_fine}
use Rattle.typed_laws.proofs.ScopeBridge.{scopes_bridge}

-- ---- the numbers of a function's variables

firsts_of : (vs : List Variable) → repeated [] (map (λ v. v.name) vs) ≡ [] → Firsts (map (λ v. v.name.name) vs)
firsts_of vs differ j n e =
    let v = mapped (λ (w : Variable). w.name.name) vs j n e in
    let first : position (λ m. bytes_eq m v.0.name.name) (map (λ w. w.name.name) vs) ≡ Some j =
    sym (position_in (λ (w : Variable). w.name.name) (λ m. bytes_eq m v.0.name.name) vs (map (λ w. w.name.name) vs) refl) ∙ first_named (λ (w : Variable). w.name) vs differ j v.0 v.1 in
    subst (λ m. place_of (λ k. bytes_eq k m) (map (λ w. w.name.name) vs) ≡ j) v.2 (ap (λ o. unwrap_or o 0) first)

-- no two variables of a function have one name
variables_apart : (items : List Item) (end : Span) → IsWellTyped items end → (h : FunctionTree) → Contains (functions items) h → repeated [] (map (λ v. v.name) (variables h)) ≡ []
variables_apart items end typed h c = let e = at_place (functions items) h c in variables_differ items end typed e.0 h e.1

-- what stands behind some variables is counted from how many they are
counted : (vs front more : List Variable) → Firsts (map (λ v. v.name.name) vs) → vs ≡ front ++ more → (m : ℕ) → m ≡ length front → Counted (map (λ v. v.name.name) vs) m more
counted vs front [] firsts e m k = tt
counted vs front (v ∷ more) firsts e m k =
    let there : slice_get vs m ≡ Some v = ap (λ (ws : List Variable). slice_get ws m) e ∙ at_back front (v ∷ more) m 0 (omega (arith, k)) in
    let one : length (front ++ (v ∷ [])) ≡ length front + 1 = length-append front (v ∷ []) in
    (firsts m v.name.name (to_mapped (λ (w : Variable). w.name.name) vs m v there), counted vs (front ++ (v ∷ [])) more firsts (e ∙ sym (append_assoc front (v ∷ []) more)) (suc m) (omega (arith, k, one)))

-- ---- parameters

module _ (items : List Item) (end : Span) (typed : IsWellTyped items end) (k : ℕ) (info : FunctionInfo) (of : FunctionOf items k info) where
  abbrev h : FunctionTree
  h = of.tree

  abbrev a : Around
  a = around_function items h

  abbrev many : ℕ
  many = length h.parameters + length h.ghost_parameters

  abbrev front : List Variable
  front = map (parameter false) h.parameters ++ map (parameter true) h.ghost_parameters

  parts : variables h ≡ front ++ all_declared h.body.all
  parts = sym (append_assoc (map (parameter false) h.parameters) (map (parameter true) h.ghost_parameters) (all_declared h.body.all))

  front_length : length front ≡ many
  front_length = length-append (map (parameter false) h.parameters) (map (parameter true) h.ghost_parameters) ∙ (λ j. length-map h.parameters (parameter false) j + length-map h.ghost_parameters (parameter true) j)

  firsts : Firsts a.names
  firsts = firsts_of (variables h) (variables_apart items end typed h of.in_items)

  -- a variable that is known at the beginning is a parameter
  is_parameter : (v : Variable) → Contains (in_function items h).scope.variables v → Contains front v
  is_parameter v d =
      elim (params_in true h.ghost_parameters (with_params false h.parameters (nowhere items)) v d) [
        | inl q ↦ Contains-append_right (map (parameter false) h.parameters) (map (parameter true) h.ghost_parameters) v (subst (Contains (map (parameter true) h.ghost_parameters)) q.2 (contains_map (parameter true) h.ghost_parameters q.0 q.1))
        | inr q ↦
            elim (params_in false h.parameters (nowhere items) v q) [
              | inl g ↦ Contains-append_left (map (parameter false) h.parameters) (map (parameter true) h.ghost_parameters) v (subst (Contains (map (parameter false) h.parameters)) g.2 (contains_map (parameter false) h.parameters g.0 g.1))
              | inr g ↦ absurd (contains_none v g)
            ]
      ]

  parameters_known : Reads (program items).sites many [] a
  parameters_known j v e l =
      let c = at_place front v (is_parameter v (contained (in_function items h).scope.variables j v e)) in
      let low : c.0 < many = omega (arith, slice_get_within front c.0 v c.1, front_length) in
      let there : slice_get (variables h) c.0 ≡ Some v = ap (λ (ws : List Variable). slice_get ws c.0) parts ∙ in_front front (all_declared h.body.all) c.0 v c.1 in
      let number : place_of (λ n. bytes_eq n v.name.name) a.names ≡ c.0 = firsts c.0 v.name.name (to_mapped (λ (w : Variable). w.name.name) (variables h) c.0 v there) in
      let below : nat_lt (place_of (λ n. bytes_eq n v.name.name) a.names) many ≡ true = grind (arith, nat_tests, low, number) in
      or_first (nat_lt (place_of (λ n. bytes_eq n v.name.name) a.names) many) _ below

  -- ---- the body

  standing : Standing (program items).sites many a.names a [] many
  standing = record { names_are = refl; no_bound = refl; no_this = (entry_law items end typed k info of).no_this; reads = parameters_known; low = omega arith; below = refl }

  module _ (formed : IsTrue (in_form items)) where
    abbrev n : Counters
    n = plus_formulas of.before (contract_formulas h.contract)

    plain_body : IsTrue (row_in (program items).sites many [] (rows a n h.body.all))
    plain_body =
        let upto : many + length (all_declared h.body.all) ≤ many + length (all_declared h.body.all) = omega arith in
        (statements_fine (program items).sites many (shapes items) (function_sorts items h) k a.names firsts a [] many (many + length (all_declared h.body.all)) standing (in_function items h) refl n h.body.all
        (every_member in_item items (i.Function h) formed (function_item items h of.in_items)) (body_quiet items end typed h of.in_items) (counted (variables h) front (all_declared h.body.all) firsts parts many (sym front_length)) upto of.told_sites).fits

  -- ---- the contract

  clause_reads : (x : Condition) → Reads (program items).sites many [] (in_clause x a)
  clause_reads conditions.Requires = parameters_known
  clause_reads conditions.Ensures = parameters_known
  clause_reads conditions.Maintains = parameters_known

  abbrev holds : t.Clause → Bool
  holds c = spec_in (program items).sites many [] c.spec

  clause_one : (x : Condition) (p : Span) (m : ℕ) (y : Exp) → IsTrue (every holds (clause p (spec (in_clause x a) m y) ∷ []))
  clause_one x p m y = alone _ (spec_read (program items).sites many [] (in_clause x a) (clause_reads x) m y)

  mutable_read : (p : Span) (m : ℕ) (xs : List Written) → IsTrue (every holds (map (clause p) (mutable_items (in_writes a) m xs)))
  mutable_read p m [] = refl
  mutable_read p m (i.Thing x ∷ xs) = mutable_read p (m + formulas x) xs
  mutable_read p m (i.SpanOf q x ∷ xs) = and_both _ _ (spec_read (program items).sites many [] (in_writes a) parameters_known m x) (mutable_read p (m + formulas x) xs)
  mutable_read p m (i.ExtentOf q x ∷ xs) = and_both _ _ (spec_read (program items).sites many [] (in_writes a) parameters_known m x) (mutable_read p (m + formulas x) xs)

  precondition_read : (m : ℕ) (x : Clause) → IsTrue (every holds (precondition a m x))
  precondition_read m (i.Holds p conditions.Requires x) = clause_one conditions.Requires p m x
  precondition_read m (i.Holds p conditions.Maintains x) = clause_one conditions.Maintains p m x
  precondition_read m (i.Holds p conditions.Ensures x) = refl
  precondition_read m (i.Writes p xs) = mutable_read p m xs

  postcondition_read : (m : ℕ) (x : Clause) → IsTrue (every holds (postcondition a m x))
  postcondition_read m (i.Holds p conditions.Requires x) = refl
  postcondition_read m (i.Holds p conditions.Maintains x) = clause_one conditions.Maintains p m x
  postcondition_read m (i.Holds p conditions.Ensures x) = clause_one conditions.Ensures p m x
  postcondition_read m (i.Writes p xs) = refl

  listed_read : (m : ℕ) (xs : List Written) → IsTrue (every (spec_in (program items).sites many []) (listed_items (in_writes a) m xs))
  listed_read m [] = refl
  listed_read m (x ∷ xs) = and_both _ _ (spec_read (program items).sites many [] (in_writes a) parameters_known m (item_of x)) (listed_read (m + formulas (item_of x)) xs)

  written_read : (m : ℕ) (x : Clause) → IsTrue (every (spec_in (program items).sites many []) (written a m x))
  written_read m (i.Holds p x y) = refl
  written_read m (i.Writes p xs) = listed_read m xs

  each_read : {A : Type 0} (test : A → Bool) (f : ℕ → Clause → List A) → ((m : ℕ) (x : Clause) → IsTrue (every test (f m x))) → (m : ℕ) (xs : List Clause) → IsTrue (every test (each_clause f m xs))
  each_read test f all m [] = refl
  each_read test f all m (x ∷ xs) = every_append test (f m x) (each_clause f (m + clause_formulas x) xs) (all m x) (each_read test f all (m + clause_formulas x) xs)

-- ---- numbers of shapes

module _ (sites : List ClaimSite) (parameters : ℕ) (l : List Shape) (z : Sorts) where
  specs_numbered : (is : List ℕ) (xs : List Spec) → IsTrue (every (spec_in sites parameters is) xs) → IsTrue (every (spec_in sites parameters is) (map (numbered l z) xs))
  specs_numbered is [] h = refl
  specs_numbered is (x ∷ xs) h =
      let one = spec_in sites parameters is x in
      let more = every (spec_in sites parameters is) xs in
      and_both _ _ (numbered_read sites parameters is l z x (and_left one more h)) (specs_numbered is xs (and_right one more h))

  clauses_numbered : (xs : List t.Clause) → IsTrue (every (λ c. spec_in sites parameters [] c.spec) xs) → IsTrue (every (λ c. spec_in sites parameters [] c.spec) (map (numbered_clause l z) xs))
  clauses_numbered [] h = refl
  clauses_numbered (x ∷ xs) h =
      let one = spec_in sites parameters [] x.spec in
      let more = every (λ c. spec_in sites parameters [] c.spec) xs in
      and_both _ _ (numbered_read sites parameters [] l z x.spec (and_left one more h)) (clauses_numbered xs (and_right one more h))

  action_numbered : (is : List ℕ) (x : t.Action) → IsTrue (action_in sites parameters is x) → IsTrue (action_in sites parameters is (numbered_action l z x))
  action_numbered is (t.AssertSpec x) h = numbered_read sites parameters is l z x h
  action_numbered is _ h = h

  adds_numbered : (x : t.Stmt) → adds sites parameters (numbered_statement l z x) ≡ adds sites parameters x
  adds_numbered (t.Do line (t.AssertSpec x)) = refl
  adds_numbered (t.Do line _) = refl
  adds_numbered (t.If line in_ghost x a b) = refl
  adds_numbered (t.While line is x a) = refl
  adds_numbered (t.DoWhile line is a tested x) = refl
  adds_numbered (t.Unwrapping line ty q x a) = refl
  adds_numbered _ = refl

  mutual
    statement_numbered : (is : List ℕ) (x : t.Stmt) → IsTrue (stmt_in sites parameters is x) → IsTrue (stmt_in sites parameters is (numbered_statement l z x))
    statement_numbered is (t.Do line x) h = action_numbered is x h
    statement_numbered is (t.If line in_ghost x a b) h =
        let test = code_in sites parameters is x in
        let one = row_in sites parameters is a in
        let other = row_in sites parameters is b in
        let both = and_right test (one && other) h in
        and_both test _ (and_left test (one && other) h) (and_both _ _ (row_numbered is a (and_left one other both)) (row_numbered is b (and_right one other both)))
    statement_numbered is (t.While line invs x a) h =
        let all = every (spec_in sites parameters is) invs in
        let test = code_in sites parameters is x in
        let body = row_in sites parameters is a in
        let rest = and_right all (test && body) h in
        and_both _ _ (specs_numbered is invs (and_left all (test && body) h)) (and_both test _ (and_left test body rest) (row_numbered is a (and_right test body rest)))
    statement_numbered is (t.DoWhile line invs a tested x) h =
        let all = every (spec_in sites parameters is) invs in
        let test = code_in sites parameters is x in
        let body = row_in sites parameters is a in
        let rest = and_right all (body && test) h in
        and_both _ _ (specs_numbered is invs (and_left all (body && test) h)) (and_both _ test (row_numbered is a (and_left body test rest)) (and_right body test rest))
    statement_numbered is (t.Unwrapping line ty q x a) h =
        let test = code_in sites parameters is x in
        let body = row_in sites parameters is a in
        and_both test _ (and_left test body h) (row_numbered is a (and_right test body h))
    statement_numbered is _ h = h

    row_numbered : (is : List ℕ) (xs : Stmts) → IsTrue (row_in sites parameters is xs) → IsTrue (row_in sites parameters is (numbered_row l z xs))
    row_numbered is t.NoStmt h = refl
    row_numbered is (t.AStmt x xs) h =
        let one = stmt_in sites parameters is x in
        let more = row_in sites parameters (adds sites parameters x ++ is) xs in
        and_both _ _ (statement_numbered is x (and_left one more h)) (subst (λ js. IsTrue (row_in sites parameters (js ++ is) (numbered_row l z xs))) (sym (adds_numbered x)) (row_numbered (adds sites parameters x ++ is) xs (and_right one more h)))

-- ---- the law

tested : (items : List Item) (end : Span) → IsTrue (in_form items) → IsWellTyped items end → ScopesTested (program items)
tested items end formed typed = record { bodies = bodies; contracts = contracts }
  where
    bodies : (k : ℕ) (f : FunctionInfo) → slice_get (program items).functions k ≡ Some f → IsTrue (row_in (program items).sites f.parameters [] f.body)
    bodies k f e =
        let of = functions_law items end typed k f e in
        subst (λ w. IsTrue (row_in (program items).sites w.parameters [] w.body)) (sym of.is)
        (row_numbered (program items).sites (length of.tree.parameters + length of.tree.ghost_parameters) (shapes items) (sorts_of (function items of.before of.tree)) [] (rows (around_function items of.tree) (plus_formulas of.before (contract_formulas of.tree.contract)) of.tree.body.all) (plain_body items end typed k f of formed))

    contracts : (k : ℕ) (f : FunctionInfo) → slice_get (program items).functions k ≡ Some f → IsTrue (contract_in (program items).sites f)
    contracts k f e =
        let of = functions_law items end typed k f e in
        let h = of.tree in
        let m = of.before.formulas in
        let many = length h.parameters + length h.ghost_parameters in
        let test = λ (c : t.Clause). spec_in (program items).sites many [] c.spec in
        let z = sorts_of (function items of.before h) in
        let a = around_function items h in
        subst (λ w. IsTrue (contract_in (program items).sites w)) (sym of.is)
        (and_both _ _ (clauses_numbered (program items).sites many (shapes items) z (each_clause (precondition a) m h.contract) (each_read items end typed k f of test (precondition a) (precondition_read items end typed k f of) m h.contract))
        (and_both _ _ (clauses_numbered (program items).sites many (shapes items) z (each_clause (postcondition a) m h.contract) (each_read items end typed k f of test (postcondition a) (postcondition_read items end typed k f of) m h.contract))
        (specs_numbered (program items).sites many (shapes items) z [] (each_clause (written a) m h.contract) (each_read items end typed k f of (spec_in (program items).sites many []) (written a) (written_read items end typed k f of) m h.contract))))

pub scoped_law : ScopedLaw
scoped_law items end form typed p same = scopes_bridge p (subst ScopesTested (sym same) (tested items end form typed))
