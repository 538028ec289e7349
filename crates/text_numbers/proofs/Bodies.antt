-- The quantified formulas of statements and tables, by their trees.
use Rattle.std.specs.Prelude.{ℕ, zero, suc, false, List, [], ◌∷◌, ◌++◌, map, flat_map, take, length}
use Rattle.std.proofs.Common.{◌≡◌, refl, sym, ap, ◌∙◌}
use Rattle.std.proofs.lemmas.List.{length-map}
use Rattle.method.specs.declared.program.Action.{Action}
use Rattle.method.specs.declared.program.Action.TheVariants.{Simply, Declare, Define, WrapObject, UnwrapObject, AssertSpec, FreeObject, SpawnThread, Atomic}
use Rattle.method.specs.declared.program.FunctionInfo.{FunctionInfo}
use Rattle.method.specs.declared.program.Inner.{Inner, Row_of-Inner, end_of-Inner, more_of-Inner}
use Rattle.method.specs.declared.program.Inner.TheVariants.{Inside, InsideIf'}
use Rattle.method.specs.declared.program.Program.{Program}
use Rattle.method.specs.declared.program.Simple.{Simple}
use Rattle.method.specs.declared.program.Simple.TheVariants.{Assign, ChangeOwned, EndClaim}
use Rattle.method.specs.declared.program.Stmt.{Stmt, Row_of-Stmt, end_of-Stmt, more_of-Stmt}
use Rattle.method.specs.declared.program.Stmt.TheVariants.{Do, If', While', DoWhile', Unwrapping', Call, Return}
use Rattle.method.specs.declared.program.StructInfo.{StructInfo}
use Rattle.method.specs.declared.program.VariableInfo.{VariableInfo}
use Rattle.method.specs.Tables.{has_fixed_owns}
use Rattle.conditions.specs.Formulas.{null}
use Rattle.conditions.specs.Annotations.{Scene}
use Rattle.conditions.specs.Quantified.{QuantifiedFormula, members_quantified, listed_quantified, any_of_type, any_result, function_words, struct_words, simple_quantifiers, inner_quantifiers, inner_row_quantifiers, action_quantifiers, stmt_quantifiers, stmts_quantifiers, specs_quantifiers, function_quantifiers, program_quantifiers}
use Rattle.typed_program.specs.Trees as t
use Rattle.typed_program.specs.Trees.{Stmts, NoStmt, AStmt, Inners, NoInner, AnInner}
use Rattle.typed_program.specs.Views as seen
use Rattle.text_numbers.proofs.Annotations.{quantifiers, quantifiers_seen, each_quantifiers, each_quantifiers_seen, contract_quantifiers, contract_quantifiers_seen}

-- ---- statements

abbrev pub of_simple : t.Simple → List QuantifiedFormula
of_simple (t.Assign x r) = []
of_simple (t.ChangeOwned c x xs) = []
of_simple (t.EndClaim q x xs) = listed_quantified q (length xs) ∷ []

abbrev mutual
  pub of_inner : t.Inner → List QuantifiedFormula
  of_inner (t.Inside line x) = of_simple x
  of_inner (t.InsideIf line x a b) = of_inners a ++ of_inners b

  pub of_inners : Inners → List QuantifiedFormula
  of_inners NoInner = []
  of_inners (AnInner x xs) = of_inner x ++ of_inners xs

-- w is the length of the writes list, y are the words of the function's annotations
module _ (p : Program) (w : ℕ) (y : Scene) where
  abbrev pub of_action : t.Action → List QuantifiedFormula
  of_action (t.Simply x) = of_simple x
  of_action (t.Declare i) = []
  of_action (t.Define i r) = []
  of_action (t.WrapObject ty q x) = members_quantified (has_fixed_owns p ty) q w ∷ []
  of_action (t.UnwrapObject x) = []
  of_action (t.AssertSpec x) = quantifiers p x y
  of_action (t.FreeObject x) = []
  of_action (t.SpawnThread f xs) = []
  of_action (t.Atomic ls xs) = of_inners xs

  abbrev mutual
    pub of_stmt : t.Stmt → List QuantifiedFormula
    of_stmt (t.Do line x) = of_action x
    of_stmt (t.If line in_ghost x a b) = of_stmts a ++ of_stmts b
    of_stmt (t.While line is x a) = each_quantifiers p is y ++ of_stmts a
    of_stmt (t.DoWhile line is a tested x) = each_quantifiers p is y ++ of_stmts a
    of_stmt (t.Unwrapping line ty q x a) = members_quantified (has_fixed_owns p ty) q w ∷ of_stmts a
    of_stmt (t.Call line to c f xs) = []
    of_stmt (t.Return line x) = []

    pub of_stmts : Stmts → List QuantifiedFormula
    of_stmts NoStmt = []
    of_stmts (AStmt x xs) = of_stmt x ++ of_stmts xs

simple_seen : (x : Simple) → simple_quantifiers x ≡ of_simple (seen.simple x)
simple_seen (Assign x r) = refl
simple_seen (ChangeOwned c x xs) = refl
simple_seen (EndClaim q x xs) = ap (λ n. listed_quantified q n ∷ []) (sym (length-map xs.items seen.code))

mutual
  inner_seen : (x : Inner) → inner_quantifiers x ≡ of_inner (seen.inner x)
  inner_seen (Inside line x) = simple_seen x
  inner_seen (InsideIf' line x m a n b) = λ i. inner_row_seen a i ++ inner_row_seen b i

  inner_row_seen : {m : _} → (xs : Row_of-Inner m) → inner_row_quantifiers xs ≡ of_inners (seen.inner_row xs)
  inner_row_seen end_of-Inner = refl
  inner_row_seen (more_of-Inner x xs) = λ i. inner_seen x i ++ inner_row_seen xs i

inner_list_seen : (xs : List Inner) → flat_map inner_quantifiers xs ≡ of_inners (seen.inner_list xs)
inner_list_seen [] = refl
inner_list_seen (x ∷ xs) = λ i. inner_seen x i ++ inner_list_seen xs i

module _ (p : Program) (f : FunctionInfo) where
  abbrev w : ℕ
  w = length f.writes.items

  abbrev y : Scene
  y = function_words f

  action_seen : (x : Action) → action_quantifiers p f x ≡ of_action p w y (seen.action x)
  action_seen (Simply x) = simple_seen x
  action_seen (Declare i) = refl
  action_seen (Define i r) = refl
  action_seen (WrapObject ty q x) = refl
  action_seen (UnwrapObject x) = refl
  action_seen (AssertSpec x) = quantifiers_seen p x y
  action_seen (FreeObject x) = refl
  action_seen (SpawnThread g xs) = refl
  action_seen (Atomic ls xs) = inner_list_seen xs.items

  mutual
    stmt_seen : (x : Stmt) → stmt_quantifiers p f x ≡ of_stmt p w y (seen.stmt x)
    stmt_seen (Do line x) = action_seen x
    stmt_seen (If' line in_ghost x m a n b) = λ i. stmt_row_seen a i ++ stmt_row_seen b i
    stmt_seen (While' line is x m a) = λ i. each_quantifiers_seen p is.items y i ++ stmt_row_seen a i
    stmt_seen (DoWhile' line is m a tested x) = λ i. each_quantifiers_seen p is.items y i ++ stmt_row_seen a i
    stmt_seen (Unwrapping' line ty q x m a) = λ i. members_quantified (has_fixed_owns p ty) q w ∷ stmt_row_seen a i
    stmt_seen (Call line to c g xs) = refl
    stmt_seen (Return line x) = refl

    stmt_row_seen : {m : _} → (xs : Row_of-Stmt m) → stmts_quantifiers p f xs ≡ of_stmts p w y (seen.stmt_row xs)
    stmt_row_seen end_of-Stmt = refl
    stmt_row_seen (more_of-Stmt x xs) = λ i. stmt_seen x i ++ stmt_row_seen xs i

  body_seen : (xs : List Stmt) → flat_map (stmt_quantifiers p f) xs ≡ of_stmts p w y (seen.stmts xs)
  body_seen [] = refl
  body_seen (x ∷ xs) = λ i. stmt_seen x i ++ body_seen xs i

-- ---- tables

-- the words of a function's annotations, by their sorts alone
abbrev pub words : t.FunctionInfo → Scene
words f =
    record { before = null; after = null; past = false; me = null; this = null; locals = map (λ (v : t.VariableInfo). any_of_type v.ty) f.variables; entry = map (λ (v : t.VariableInfo). any_of_type v.ty) (take f.parameters f.variables); result = any_result f.value; bound = []; subject = null }

variables_seen : (vs : List VariableInfo) → map (λ (v : VariableInfo). any_of_type v.ty) vs ≡ map (λ (v : t.VariableInfo). any_of_type v.ty) (map seen.variable vs)
variables_seen [] = refl
variables_seen (v ∷ vs) = λ i. any_of_type v.ty ∷ variables_seen vs i

parameters_seen : (n : ℕ) (vs : List VariableInfo) → map (λ (v : VariableInfo). any_of_type v.ty) (take n vs) ≡ map (λ (v : t.VariableInfo). any_of_type v.ty) (take n (map seen.variable vs))
parameters_seen zero vs = refl
parameters_seen (suc n) [] = refl
parameters_seen (suc n) (v ∷ vs) = λ i. any_of_type v.ty ∷ parameters_seen n vs i

words_seen : (f : FunctionInfo) → function_words f ≡ words (seen.function f)
words_seen f =
    λ i. record { before = null; after = null; past = false; me = null; this = null; locals = variables_seen f.variables.items i; entry = parameters_seen f.parameters f.variables.items i; result = any_result f.result; bound = []; subject = null }

module _ (p : Program) where
  abbrev pub of_struct : t.StructInfo → List QuantifiedFormula
  of_struct c = each_quantifiers p c.invariants struct_words

  abbrev pub of_function : t.FunctionInfo → List QuantifiedFormula
  of_function f = contract_quantifiers p f.preconditions (words f) ++ contract_quantifiers p f.postconditions (words f) ++ each_quantifiers p f.writes (words f) ++ of_stmts p (length f.writes) (words f) f.body

  abbrev pub of_program : t.Program → List QuantifiedFormula
  of_program r = flat_map of_struct r.structs ++ flat_map of_function r.functions

  function_seen : (f : FunctionInfo) → function_quantifiers p f ≡ of_function (seen.function f)
  function_seen f =
      let u = words_seen f in
      let n = sym (length-map f.writes.items seen.spec) in
      let body = body_seen p f f.body.items ∙ (λ i. of_stmts p (n i) (u i) (seen.stmts f.body.items)) in
      λ i. contract_quantifiers_seen p f.requires_.items (u i) i ++ contract_quantifiers_seen p f.ensures_.items (u i) i ++ each_quantifiers_seen p f.writes.items (u i) i ++ body i

  structs_seen : (cs : List StructInfo) → flat_map (λ (c : StructInfo). specs_quantifiers p c.invariants.items struct_words) cs ≡ flat_map of_struct (map seen.struct cs)
  structs_seen [] = refl
  structs_seen (c ∷ cs) = λ i. each_quantifiers_seen p c.invariants.items struct_words i ++ structs_seen cs i

  functions_seen : (fs : List FunctionInfo) → flat_map (λ f. function_quantifiers p f) fs ≡ flat_map of_function (map seen.function fs)
  functions_seen [] = refl
  functions_seen (f ∷ fs) = λ i. function_seen f i ++ functions_seen fs i

  pub program_seen : program_quantifiers p ≡ of_program (seen.program p)
  program_seen = λ i. structs_seen p.structs.items i ++ functions_seen p.functions.items i
