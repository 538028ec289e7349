-- The annotations of a typed source pass the tests of the conditions' text: invariants of structs, contracts, assertions and loop invariants.
use Rattle.std.proofs.Common.{◌≡◌, ℕ, zero, suc, ◌+◌, Bool, true, false, ◌&&◌, if◌then◌else◌, nat_lt, List, [], ◌∷◌, length, map, take, Option, Some, None, slice_get, is_some, refl, sym, ap, subst, ◌∙◌, arith}
use Rattle.std.specs.Option.{option_map}
use Rattle.std.proofs.lemmas.Bool.{and_parts, and_from}
use Rattle.std.proofs.lemmas.Option.{slice_get_within, none-some, same_Some}
use Rattle.object_types.specs.Sets.{every}
use Rattle.method.specs.declared.program.DeclaredType.{DeclaredType}
use Rattle.method.specs.declared.program.DeclaredType.TheVariants.{Integer, Pointer, Object, Claim}
use Rattle.method.specs.declared.program.VariableInfo.{VariableInfo}
use Rattle.method.specs.declared.program.Spec.{Spec}
use Rattle.method.specs.declared.program.Spec.TheVariants as s
use Rattle.method.specs.declared.program.Clause.{Clause}
use Rattle.method.specs.declared.program.Action.{Action}
use Rattle.method.specs.declared.program.Action.TheVariants.{Simply, Declare, Define, WrapObject, UnwrapObject, AssertSpec, FreeObject, SpawnThread, Atomic}
use Rattle.method.specs.declared.program.Stmt.{Stmt, Row_of-Stmt, end_of-Stmt, more_of-Stmt}
use Rattle.method.specs.declared.program.Stmt.TheVariants.{Do, If', While', DoWhile', Unwrapping', Call, Return}
use Rattle.method.specs.declared.program.FunctionInfo.{FunctionInfo}
use Rattle.method.specs.declared.program.StructInfo.{StructInfo}
use Rattle.method.specs.declared.program.Program.{Program}
use Rattle.method.specs.Tables.{type_of_field}
use Rattle.method.specs.Scopes.{Scoped, spec_in}
use Rattle.conditions.specs.Symbolic.{test}
use Rattle.conditions.specs.Annotations.{Scene, symbolic_at, translate}
use Rattle.conditions.specs.Quantified.{any_of_type, any_result, function_words, struct_words}
use Rattle.condition_meaning.specs.Fits.{is_ref, is_ref_type, same_bool, params_fit, names}
use Rattle.condition_meaning.specs.Annotated as tests
use Rattle.condition_meaning.specs.Annotated.{nothing_hidden}
use Rattle.condition_meaning.specs.TextWords.{call_words}
use Rattle.typed_program.specs.Trees as t
use Rattle.typed_program.specs.Views as seen
use Rattle.typed_laws.specs.Fits.{AnnotationsFit, Names, of_function, at_return, of_struct, variable_type, Meant, refers, meaning, fits, in_row, in_statement, names_object}
use Rattle.typed_laws.proofs.Bridge.{slice_map}
use Rattle.text_laws.specs.Laws.{TextLaw, ContractsLaw}
use Rattle.typed_laws.proofs.WellFormed.{well_formed_law}
use Rattle.text_laws.proofs.ShapeFits.{none_below}
use Rattle.text_laws.proofs.Order.{is_ordered}
use Rattle.typed_laws.proofs.Annotated.{annotations_law}
use Rattle.typed_laws.proofs.Meanings.{meaning_law}
use Rattle.typed_laws.proofs.Scoped.{scoped_law}
use Rattle.text_laws.proofs.TextOrder.{InOrder, stmt_ordered, row_ordered, in_order}
use Rattle.text_laws.proofs.Fitting.{Sorted, given, in_range, symbolic_refers, choose_refers, has_formula, has_reference}
use Rattle.text_laws.proofs.SourceShapes.{shapes_pass}
use Rattle.text_laws.proofs.Naming.{Naming, names_by_meaning, parameters_named}

-- ---- lists

pub at_each : {A : Type 0} (passes : A → Bool) (xs : List A) → ((k : ℕ) (x : A) → slice_get xs k ≡ Some x → passes x ≡ true) → every passes xs ≡ true
at_each passes [] h = refl
at_each passes (x ∷ xs) h = and_from _ _ (h 0 x refl) (at_each passes xs (λ k y is. h (suc k) y is))

-- two tests of one list, of which both give a third
each_both : {A B : Type 0} (f : A → B) (one other : B → Bool) (passes : A → Bool) → ((x : A) → one (f x) ≡ true → other (f x) ≡ true → passes x ≡ true) → (xs : List A) → every one (map f xs) ≡ true → every other (map f xs) ≡ true → every passes xs ≡ true
each_both f one other passes h [] a b = refl
each_both f one other passes h (x ∷ xs) a b =
    let y = and_parts (one (f x)) (every one (map f xs)) a in
    let z = and_parts (other (f x)) (every other (map f xs)) b in
    and_from _ _ (h x y.0 z.0) (each_both f one other passes h xs y.1 z.1)

-- with a test of the elements themselves
each_three : {A B : Type 0} (f : A → B) (one other : B → Bool) (own passes : A → Bool) → ((x : A) → one (f x) ≡ true → other (f x) ≡ true → own x ≡ true → passes x ≡ true) → (xs : List A) → every one (map f xs) ≡ true → every other (map f xs) ≡ true → every own xs ≡ true → every passes xs ≡ true
each_three f one other own passes h [] a b c = refl
each_three f one other own passes h (x ∷ xs) a b c =
    let y = and_parts (one (f x)) (every one (map f xs)) a in
    let z = and_parts (other (f x)) (every other (map f xs)) b in
    let w = and_parts (own x) (every own xs) c in
    and_from _ _ (h x y.0 z.0 w.0) (each_three f one other own passes h xs y.1 z.1 w.1)

named_fits : (o : Option Meant) → refers o ≡ true → is_some o ≡ true
named_fits None h = absurd (cc)
named_fits (Some v) h = refl

-- ---- the words of scenes

type_word : (ty : DeclaredType) → is_ref (any_of_type ty) ≡ is_ref_type ty
type_word (Integer c) = refl
type_word (Pointer n) = refl
type_word Object = refl
type_word Claim = refl

words_at : (vs : List VariableInfo) (i : ℕ) (ty : DeclaredType) → variable_type (slice_get (map seen.variable vs) i) ≡ Some ty → is_ref (symbolic_at (map (λ v. any_of_type v.ty) vs) i) ≡ is_ref_type ty
words_at [] i ty e = absurd (none-some ty e)
words_at (v ∷ vs) zero ty e = type_word v.ty ∙ ap is_ref_type (same_Some v.ty ty e)
words_at (v ∷ vs) (suc i) ty e = words_at vs i ty e

below : (i m : ℕ) → nat_lt (suc i) (suc m) ≡ true → nat_lt i m ≡ true
below i m b = grind (arith, b)

entry_at : (k : ℕ) (vs : List VariableInfo) (i : ℕ) (ty : DeclaredType) → variable_type (slice_get (map seen.variable vs) i) ≡ Some ty → nat_lt i (length (map (λ (v : VariableInfo). any_of_type v.ty) (take k vs))) ≡ true → is_ref (symbolic_at (map (λ v. any_of_type v.ty) (take k vs)) i) ≡ is_ref_type ty
entry_at zero vs i ty e b = absurd (none_below i b)
entry_at (suc k) [] i ty e b = absurd (none-some ty e)
entry_at (suc k) (v ∷ vs) zero ty e b = type_word v.ty ∙ ap is_ref_type (same_Some v.ty ty e)
entry_at (suc k) (v ∷ vs) (suc i) ty e b = entry_at k vs i ty e (below i (length (map (λ (v : VariableInfo). any_of_type v.ty) (take k vs))) b)

same_itself : (b : Bool) → same_bool b b ≡ true
same_itself true = refl
same_itself false = refl

words_fit : (k : ℕ) (vs : List VariableInfo) → params_fit (map (λ (v : VariableInfo). any_of_type v.ty) (take k vs)) (map (λ (v : VariableInfo). any_of_type v.ty) vs) ≡ true
words_fit zero vs = refl
words_fit (suc k) [] = refl
words_fit (suc k) (v ∷ vs) = and_from _ _ (same_itself (is_ref (any_of_type v.ty))) (words_fit k vs)

result_word : (o : Option DeclaredType) (ty : DeclaredType) → o ≡ Some ty → is_ref (any_result o) ≡ is_ref_type ty
result_word None ty e = absurd (none-some ty e)
result_word (Some u) ty e = type_word u ∙ ap is_ref_type (same_Some u ty e)

sorted_struct : (n : ℕ) → Sorted (of_struct n) struct_words
sorted_struct n = record { local = λ i ty e. absurd (none-some ty e); entry = λ i ty e b. absurd (none-some ty e); bound = λ i ty e. absurd (none-some ty e); result = λ ty e. absurd (none-some ty e); params = refl }

module _ (f : FunctionInfo) where
  pub sorted_function : Sorted (of_function (seen.function f)) (function_words f)
  sorted_function = record { local = words_at f.variables.items; entry = entry_at f.parameters f.variables.items; bound = λ i ty e. absurd (none-some ty e); result = λ ty e. absurd (none-some ty e); params = words_fit f.parameters f.variables.items }

  pub sorted_return : Sorted (at_return (seen.function f)) (function_words f)
  sorted_return = record { local = words_at f.variables.items; entry = entry_at f.parameters f.variables.items; bound = λ i ty e. absurd (none-some ty e); result = result_word f.result; params = words_fit f.parameters f.variables.items }

  variable_within : (i : ℕ) (ty : DeclaredType) → variable_type (slice_get (map seen.variable f.variables.items) i) ≡ Some ty → nat_lt i (length f.variables.items) ≡ true
  variable_within i ty e = by (slice_get f.variables.items i) refl (ap variable_type (sym (slice_map seen.variable f.variables.items i)) ∙ e)
    where
      by : (o : Option VariableInfo) → slice_get f.variables.items i ≡ o → variable_type (option_map seen.variable o) ≡ Some ty → nat_lt i (length f.variables.items) ≡ true
      by None is j = absurd (none-some ty j)
      by (Some v) is j = in_range i (length f.variables.items) (slice_get_within f.variables.items i v is)

  naming_function : (b : Bool) → Naming (length f.variables.items) b (of_function (seen.function f))
  naming_function b = record { variables = variable_within; value = λ ty e. absurd (none-some ty e) }

  naming_return : Naming (length f.variables.items) true (at_return (seen.function f))
  naming_return = record { variables = variable_within; value = λ ty e. refl }

-- ---- the sort of an item of a writes list, where the parameters alone are given

locals_kept : (k : ℕ) (vs : List VariableInfo) (i : ℕ) → nat_lt i k ≡ true → is_ref (symbolic_at (map (λ (v : VariableInfo). any_of_type v.ty) vs) i) ≡ is_ref (symbolic_at (map (λ (v : VariableInfo). any_of_type v.ty) (take k vs)) i)
locals_kept zero vs i b = absurd (none_below i b)
locals_kept (suc k) [] i b = refl
locals_kept (suc k) (v ∷ vs) zero b = refl
locals_kept (suc k) (v ∷ vs) (suc i) b = locals_kept k vs i (below i k b)

module _ (p : Program) (f : FunctionInfo) where
  abbrev full : Bool → Scene
  full b = record (function_words f) { past = b }

  abbrev few : Bool → Scene
  few b = record (call_words f) { past = b }

  sort_at_call : (e : Spec) (b : Bool) → names f.parameters false e ≡ true → is_ref (translate p e (full b)) ≡ is_ref (translate p e (few b))
  sort_at_call (s.Number z) b m = refl
  sort_at_call (s.Truth c) b m = refl
  sort_at_call s.Null b m = refl
  sort_at_call (s.Variable i) b m = by b (nat_lt i (length (function_words f).entry))
    where
      by : (c d : Bool) → is_ref (if c && d then symbolic_at (function_words f).entry i else symbolic_at (function_words f).locals i) ≡ is_ref (if c && d then symbolic_at (function_words f).entry i else symbolic_at (call_words f).locals i)
      by true true = refl
      by true false = locals_kept f.parameters f.variables.items i m
      by false d = locals_kept f.parameters f.variables.items i m
  sort_at_call (s.Bound i) b m = refl
  sort_at_call s.This b m = refl
  sort_at_call s.Me b m = refl
  sort_at_call s.Result b m = absurd (cc)
  sort_at_call (s.Field' q e g) b m = symbolic_refers (type_of_field p g) _ ∙ sym (symbolic_refers (type_of_field p g) _)
  sort_at_call (s.Closed' q e) b m = refl
  sort_at_call (s.Owner' q e) b m = refl
  sort_at_call (s.ClaimCount' q e) b m = refl
  sort_at_call (s.Not' q e) b m = refl
  sort_at_call (s.Negate' q e) b m = refl
  sort_at_call (s.Unchanged' q e) b m = refl
  sort_at_call (s.Wrapped' q e) b m = refl
  sort_at_call (s.Wrapped0' q e) b m = refl
  sort_at_call (s.Mutable' q e) b m = refl
  sort_at_call (s.Fresh' q e) b m = refl
  sort_at_call (s.Lists' q e) b m = refl
  sort_at_call (s.Member' q a r c) b m = refl
  sort_at_call (s.Arithmetic' op q a r c) b m = refl
  sort_at_call (s.Compare' op q a r c) b m = refl
  sort_at_call (s.And' q a r c) b m = refl
  sort_at_call (s.Or' q a r c) b m = refl
  sort_at_call (s.Implies' q a r c) b m = refl
  sort_at_call (s.Iff' q a r c) b m = refl
  sort_at_call (s.ClaimsObject' q a r c) b m = refl
  sort_at_call (s.Claims' q a n row) b m = refl
  sort_at_call (s.ForAll' n ty q e r body) b m = refl
  sort_at_call (s.Exists' n ty q e n' row) b m = refl
  sort_at_call (s.ClaimsOnly' n q c k row) b m = refl
  sort_at_call (s.Has c) b m = refl
  sort_at_call (s.Old' q e) b m = sort_at_call e true m
  sort_at_call (s.Choose' q a r c u d) b m =
      let z = and_parts (names f.parameters false a) (names f.parameters false c && names f.parameters false d) m in
      let y = and_parts (names f.parameters false c) (names f.parameters false d) z.1 in
      choose_refers (test (translate p a (full b))) (translate p c (full b)) (translate p d (full b)) ∙ (sort_at_call c b y.0 ∙ sym (choose_refers (test (translate p a (few b))) (translate p c (few b)) (translate p d (few b))))

-- ---- a program

module _ (p : Program) where
  abbrev q : t.Program
  q = seen.program p

  module _ (there : AnnotationsFit q) (orders : InOrder q) where
    struct_at : (k : ℕ) (s : StructInfo) → slice_get p.structs.items k ≡ Some s → slice_get q.structs k ≡ Some (seen.struct s)
    struct_at k s is = slice_map seen.struct p.structs.items k ∙ ap (option_map seen.struct) is

    function_at : (k : ℕ) (f : FunctionInfo) → slice_get p.functions.items k ≡ Some f → slice_get q.functions k ≡ Some (seen.function f)
    function_at k f is = slice_map seen.function p.functions.items k ∙ ap (option_map seen.function) is

    pub structs_pass : every (tests.struct_fits p) p.structs.items ≡ true
    structs_pass = at_each (tests.struct_fits p) p.structs.items (λ k s is.
        each_both seen.spec (fits q (of_struct (3 + k))) (is_ordered false) (λ e. tests.fits p nothing_hidden false e struct_words) (λ e a b. has_formula p e (of_struct (3 + k)) struct_words (sorted_struct (3 + k)) a b) s.invariants.items
        (there.invariants k (seen.struct s) (struct_at k s is)) (orders.invariants k (seen.struct s) (struct_at k s is)))

    -- what names the members of an object's fixed set comes to references
    pub members_pass : every (tests.members_fit p) p.structs.items ≡ true
    members_pass = at_each (tests.members_fit p) p.structs.items (λ k s is.
        each_both seen.spec (names_object q (of_struct (3 + k))) (is_ordered false) (tests.member_fits p) (λ e a b. let z = has_reference p e (of_struct (3 + k)) struct_words (sorted_struct (3 + k)) a b in and_from _ _ z.0 z.1) s.mine.items
        (there.fixed_sets k (seen.struct s) (struct_at k s is)) (orders.fixed_sets k (seen.struct s) (struct_at k s is)))

    module _ (f : FunctionInfo) where
      abbrev n : Names
      n = of_function (seen.function f)

      spec_passes : (e : Spec) → fits q n (seen.spec e) ≡ true → is_ordered false (seen.spec e) ≡ true → tests.spec_fits p f e ≡ true
      spec_passes e a b = let v = given (meaning q n (seen.spec e)) a in and_from _ _ (has_formula p e n (function_words f) (sorted_function f) a b) (names_by_meaning (length f.variables.items) false p e n v.0 (naming_function f false) v.1)

      specs_pass : (es : List Spec) → every (fits q n) (map seen.spec es) ≡ true → every (is_ordered false) (map seen.spec es) ≡ true → every (tests.spec_fits p f) es ≡ true
      specs_pass = each_both seen.spec (fits q n) (is_ordered false) (tests.spec_fits p f) spec_passes

      action_passes : (line : ℕ) (c : Action) → in_statement q n (t.Do line (seen.action c)) ≡ true → stmt_ordered (t.Do line (seen.action c)) ≡ true → tests.action_fits p f c ≡ true
      action_passes line (AssertSpec e) a b = spec_passes e a b
      action_passes line (Simply c) a b = refl
      action_passes line (Declare i) a b = refl
      action_passes line (Define i r) a b = refl
      action_passes line (WrapObject ty j e) a b = refl
      action_passes line (UnwrapObject e) a b = refl
      action_passes line (FreeObject e) a b = refl
      action_passes line (SpawnThread g es) a b = refl
      action_passes line (Atomic ls body) a b = refl

      mutual
        stmt_passes : (x : Stmt) → in_statement q n (seen.stmt x) ≡ true → stmt_ordered (seen.stmt x) ≡ true → tests.stmt_fits p f x ≡ true
        stmt_passes (Do line c) a b = action_passes line c a b
        stmt_passes (If' line in_ghost e m x k y) a b =
            let c = and_parts (in_row q n (seen.stmt_row x)) (in_row q n (seen.stmt_row y)) a in
            let d = and_parts (row_ordered (seen.stmt_row x)) (row_ordered (seen.stmt_row y)) b in
            and_from _ _ (row_passes x c.0 d.0) (row_passes y c.1 d.1)
        stmt_passes (While' line invs e m row) a b =
            let c = and_parts (every (fits q n) (seen.specs invs.items)) (in_row q n (seen.stmt_row row)) a in
            let d = and_parts (every (is_ordered false) (seen.specs invs.items)) (row_ordered (seen.stmt_row row)) b in
            and_from _ _ (specs_pass invs.items c.0 d.0) (row_passes row c.1 d.1)
        stmt_passes (DoWhile' line invs m row tested e) a b =
            let c = and_parts (every (fits q n) (seen.specs invs.items)) (in_row q n (seen.stmt_row row)) a in
            let d = and_parts (every (is_ordered false) (seen.specs invs.items)) (row_ordered (seen.stmt_row row)) b in
            and_from _ _ (specs_pass invs.items c.0 d.0) (row_passes row c.1 d.1)
        stmt_passes (Unwrapping' line ty j e m row) a b = row_passes row a b
        stmt_passes (Call line to c g es) a b = refl
        stmt_passes (Return line e) a b = refl

        row_passes : {m : _} (row : Row_of-Stmt m) → in_row q n (seen.stmt_row row) ≡ true → row_ordered (seen.stmt_row row) ≡ true → tests.stmts_fit p f row ≡ true
        row_passes end_of-Stmt a b = refl
        row_passes (more_of-Stmt x row) a b =
            let c = and_parts (in_statement q n (seen.stmt x)) (in_row q n (seen.stmt_row row)) a in
            let d = and_parts (stmt_ordered (seen.stmt x)) (row_ordered (seen.stmt_row row)) b in
            and_from _ _ (stmt_passes x c.0 d.0) (row_passes row c.1 d.1)

      body_passes : (xs : List Stmt) → in_row q n (seen.stmts xs) ≡ true → row_ordered (seen.stmts xs) ≡ true → every (tests.stmt_fits p f) xs ≡ true
      body_passes [] a b = refl
      body_passes (x ∷ xs) a b =
          let c = and_parts (in_statement q n (seen.stmt x)) (in_row q n (seen.stmts xs)) a in
          let d = and_parts (stmt_ordered (seen.stmt x)) (row_ordered (seen.stmts xs)) b in
          and_from _ _ (stmt_passes x c.0 d.0) (body_passes xs c.1 d.1)

    pub bodies_pass : (k : ℕ) (f : FunctionInfo) → slice_get p.functions.items k ≡ Some f → every (tests.stmt_fits p f) f.body.items ≡ true
    bodies_pass k f is = body_passes f f.body.items (there.bodies k (seen.function f) (function_at k f is)) (orders.bodies k (seen.function f) (function_at k f is))

    module _ (scoped : Scoped p) (k : ℕ) (f : FunctionInfo) (is : slice_get p.functions.items k ≡ Some f) where
      contract : (every (λ (c : Clause). spec_in p f [] c.spec) f.requires_.items ≡ true) × (every (λ (c : Clause). spec_in p f [] c.spec) f.ensures_.items ≡ true) × (every (spec_in p f []) f.writes.items ≡ true)
      contract =
          let y = and_parts (every (λ (c : Clause). spec_in p f [] c.spec) f.requires_.items) (every (λ (c : Clause). spec_in p f [] c.spec) f.ensures_.items && every (spec_in p f []) f.writes.items) (scoped.contracts k f is) in
          let z = and_parts (every (λ (c : Clause). spec_in p f [] c.spec) f.ensures_.items) (every (spec_in p f []) f.writes.items) y.1 in
          (y.0, z.0, z.1)

      clause_passes : (b : Bool) (m : Names) → Sorted m (function_words f) → Naming (length f.variables.items) b m → (e : Spec) → fits q m (seen.spec e) ≡ true → is_ordered false (seen.spec e) ≡ true → spec_in p f [] e ≡ true → tests.fits p nothing_hidden false e (function_words f) && names f.parameters b e ≡ true
      clause_passes b m sorted naming e a o c =
          let v = given (meaning q m (seen.spec e)) a in
          and_from _ _ (has_formula p e m (function_words f) sorted a o) (parameters_named p f (length f.variables.items) b e c (names_by_meaning (length f.variables.items) b p e m v.0 naming v.1))

      pub requires_pass : every (tests.clause_fits p f false) f.requires_.items ≡ true
      requires_pass =
          each_three seen.clause (λ (c : t.Clause). fits q (of_function (seen.function f)) c.spec) (λ (c : t.Clause). is_ordered false c.spec) (λ (c : Clause). spec_in p f [] c.spec) (tests.clause_fits p f false)
          (λ c a b d. clause_passes false (of_function (seen.function f)) (sorted_function f) (naming_function f false) c.spec a b d) f.requires_.items
          (there.preconditions k (seen.function f) (function_at k f is)) (orders.preconditions k (seen.function f) (function_at k f is)) contract.0

      pub ensures_pass : every (tests.clause_fits p f true) f.ensures_.items ≡ true
      ensures_pass =
          each_three seen.clause (λ (c : t.Clause). fits q (at_return (seen.function f)) c.spec) (λ (c : t.Clause). is_ordered false c.spec) (λ (c : Clause). spec_in p f [] c.spec) (tests.clause_fits p f true)
          (λ c a b d. clause_passes true (at_return (seen.function f)) (sorted_return f) (naming_return f) c.spec a b d) f.ensures_.items
          (there.postconditions k (seen.function f) (function_at k f is)) (orders.postconditions k (seen.function f) (function_at k f is)) contract.1

      pub writes_pass : every (tests.item_fits p f) f.writes.items ≡ true
      writes_pass =
          each_three seen.spec (names_object q (of_function (seen.function f))) (is_ordered false) (spec_in p f []) (tests.item_fits p f)
          (λ e a b d.
          let z = has_reference p e (of_function (seen.function f)) (function_words f) (sorted_function f) a b in
          let y = clause_passes false (of_function (seen.function f)) (sorted_function f) (naming_function f false) e (named_fits (meaning q (of_function (seen.function f)) (seen.spec e)) a) b d in
          let x = and_parts (tests.fits p nothing_hidden false e (function_words f)) (names f.parameters false e) y in
          and_from _ _ y (sym (sort_at_call p f e false x.1) ∙ z.1)) f.writes.items
          (there.writes k (seen.function f) (function_at k f is)) (orders.writes k (seen.function f) (function_at k f is)) contract.2

    pub functions_pass : Scoped p → every (tests.function_fits p) p.functions.items ≡ true
    functions_pass scoped = at_each (tests.function_fits p) p.functions.items (λ k f is. and_from _ _ (and_from _ _ (and_from _ _ (requires_pass scoped k f is) (ensures_pass scoped k f is)) (writes_pass scoped k f is)) (bodies_pass k f is))

-- ---- sources

pub text_law : TextLaw
text_law items end form typed p same =
    let there : AnnotationsFit (seen.program p) = subst AnnotationsFit (sym same) (annotations_law meaning_law items end form typed) in
    let orders : InOrder (seen.program p) = subst InOrder (sym same) (in_order items end typed) in
    record { structs = structs_pass p there orders; functions = functions_pass p there orders (scoped_law items end form typed p same); shapes = shapes_pass items end typed p same; members = members_pass p there orders }

pub contracts_law : ContractsLaw
contracts_law items end form typed p same k f is =
    let there : AnnotationsFit (seen.program p) = subst AnnotationsFit (sym same) (annotations_law meaning_law items end form typed) in
    let orders : InOrder (seen.program p) = subst InOrder (sym same) (in_order items end typed) in
    let scoped = scoped_law items end form typed p same in
    record { parameters = (well_formed_law items end form typed p same).parameters k f is; requires_ = requires_pass p there orders scoped k f is; ensures_ = ensures_pass p there orders scoped k f is; writes = writes_pass p there orders scoped k f is }
