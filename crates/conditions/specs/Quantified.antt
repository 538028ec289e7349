-- The quantified formulas of a program, by their numbers: the sorts of their arguments, and their bodies. Own. In a body argument k stands as constant number k of its sort, and the reference that it is about as the reference constant behind all.
use Rattle.std.specs.Prelude.{ℕ, zero, suc, ◌+◌, ◌==◌, Bool, true, false, not, if◌then◌else◌, ℤ, pos, negsuc, List, [], ◌∷◌, ◌++◌, map, filter, flat_map, take, length, replicate, Option, Some, None, slice_index_or}
use Rattle.method.specs.declared.program.DeclaredType.{DeclaredType}
use Rattle.method.specs.declared.program.Spec.{Spec, Row_of-Spec, end_of-Spec, more_of-Spec}
use Rattle.method.specs.declared.program.Spec.TheVariants as s
use Rattle.method.specs.declared.program.Simple.{Simple}
use Rattle.method.specs.declared.program.Simple.TheVariants.{Assign, ChangeOwned, EndClaim}
use Rattle.method.specs.declared.program.Inner.{Inner, Row_of-Inner, end_of-Inner, more_of-Inner}
use Rattle.method.specs.declared.program.Inner.TheVariants.{Inside, InsideIf'}
use Rattle.method.specs.declared.program.Action.{Action}
use Rattle.method.specs.declared.program.Action.TheVariants.{Simply, Declare, Define, WrapObject, UnwrapObject, AssertSpec, FreeObject, SpawnThread, Atomic}
use Rattle.method.specs.declared.program.Clause.{Clause}
use Rattle.method.specs.declared.program.Stmt.{Stmt, Row_of-Stmt, end_of-Stmt, more_of-Stmt}
use Rattle.method.specs.declared.program.Stmt.TheVariants.{Do, If', While', DoWhile', Unwrapping', Call, Return}
use Rattle.method.specs.declared.program.FunctionInfo.{FunctionInfo}
use Rattle.method.specs.declared.program.Program.{Program}
use Rattle.method.specs.Tables.{has_fixed_owns}
use Rattle.terms.specs.declared.sort.Sort.{Sort}
use Rattle.terms.specs.declared.sort.Sort.TheVariants as sort
use Rattle.terms.specs.declared.term.Kind.{Kind}
use Rattle.terms.specs.declared.term.Kind.TheVariants as k
use Rattle.terms.specs.Formula.{Formula, Formulas, Node, Stop, With}
use Rattle.conditions.specs.Formulas.{null, imp, and', any_of, is_any, reference, heap, owns, lists, wrapped, writable, same_kind, is_constant, constants}
use Rattle.conditions.specs.Symbolic.{Symbolic, Number, symbolic_of_type}
use Rattle.conditions.specs.Annotations.{Scene, bind_ref, old_scene, parts, formal_scene, subject_of, translate, tests, body_of_all, body_of_some, body_of_only, terms_of}

-- a quantified formula: its number, the sorts of its arguments, and its body
pub record QuantifiedFormula : Type 0 where
  pub number : ℕ
  pub arguments : List Sort
  pub body : Formula

-- From a body over a formal scene.

-- the sort of a constant of the kind
abbrev pub sort_of_kind : Kind → Sort
sort_of_kind kind = if same_kind kind k.Ci then sort.Int else (if same_kind kind k.Ch then sort.Heap else sort.Ref)

abbrev pub sort_of_constant : Formula → Sort
sort_of_constant (Node kind n fs) = sort_of_kind kind

-- the place of a number in a list that begins with place i
abbrev pub place_from : ℕ → ℕ → List ℕ → ℕ
place_from i n [] = i
place_from i n (m ∷ ms) = if n == m then i else place_from (suc i) n ms

-- the constants' numbers become their places among these
abbrev pub place_number : List ℕ → ℤ → ℤ
place_number ms (pos n) = pos (place_from 0 n ms)
place_number ms (negsuc n) = negsuc n

abbrev mutual
  pub renumber : List ℕ → Formula → Formula
  renumber ms (Node kind n fs) = Node kind (if is_constant kind then place_number ms n else n) (renumber_all ms fs)

  pub renumber_all : List ℕ → Formulas → Formulas
  renumber_all ms Stop = Stop
  renumber_all ms (With f fs) = With (renumber ms f) (renumber_all ms fs)

-- the places of a scene that stand free in the body
abbrev pub places : Scene → Formula → List ℕ
places x body = filter (λ n. not (n == length (parts x))) (constants body [])

-- formula number n, with its body over the scene of constants
abbrev pub quantifier_formula : Scene → ℕ → Formula → QuantifiedFormula
quantifier_formula x n body =
    record { number = n; arguments = map (λ i. sort_of_constant (slice_index_or (parts (formal_scene x)) i null)) (places x body); body = renumber (places x body) body }

module _ (p : Program) where
  -- those of an annotation, an outer one before those in it
  abbrev mutual
    pub spec_quantifiers : Spec → Scene → List QuantifiedFormula
    spec_quantifiers (s.Number z) x = []
    spec_quantifiers (s.Truth b) x = []
    spec_quantifiers s.Null x = []
    spec_quantifiers (s.Variable i) x = []
    spec_quantifiers (s.Bound i) x = []
    spec_quantifiers s.This x = []
    spec_quantifiers s.Me x = []
    spec_quantifiers s.Result x = []
    spec_quantifiers (s.Field' q e f) x = spec_quantifiers e x
    spec_quantifiers (s.Closed' q e) x = spec_quantifiers e x
    spec_quantifiers (s.Owner' q e) x = spec_quantifiers e x
    spec_quantifiers (s.ClaimCount' q e) x = spec_quantifiers e x
    spec_quantifiers (s.Member' q a r b) x = spec_quantifiers a x ++ spec_quantifiers b x
    spec_quantifiers (s.Not' q e) x = spec_quantifiers e x
    spec_quantifiers (s.Negate' q e) x = spec_quantifiers e x
    spec_quantifiers (s.Arithmetic' op q a r b) x = spec_quantifiers a x ++ spec_quantifiers b x
    spec_quantifiers (s.Compare' op q a r b) x = spec_quantifiers a x ++ spec_quantifiers b x
    spec_quantifiers (s.And' q a r b) x = spec_quantifiers a x ++ spec_quantifiers b x
    spec_quantifiers (s.Or' q a r b) x = spec_quantifiers a x ++ spec_quantifiers b x
    spec_quantifiers (s.Implies' q a r b) x = spec_quantifiers a x ++ spec_quantifiers b x
    spec_quantifiers (s.Iff' q a r b) x = spec_quantifiers a x ++ spec_quantifiers b x
    spec_quantifiers (s.Choose' q a r b t c) x = spec_quantifiers a x ++ spec_quantifiers b x ++ spec_quantifiers c x
    spec_quantifiers (s.Old' q e) x = spec_quantifiers e (old_scene x)
    spec_quantifiers (s.Unchanged' q e) x = spec_quantifiers e x
    spec_quantifiers (s.Wrapped' q e) x = spec_quantifiers e x
    spec_quantifiers (s.Wrapped0' q e) x = spec_quantifiers e x
    spec_quantifiers (s.Mutable' q e) x = spec_quantifiers e x
    spec_quantifiers (s.Fresh' q e) x = spec_quantifiers e x
    spec_quantifiers (s.ClaimsObject' q c r o) x = spec_quantifiers c x ++ spec_quantifiers o x
    spec_quantifiers (s.ClaimsOnly' n q c m row) x = quantifier_formula x n (body_of_only x (translate p c (formal_scene x)) (terms_of p row (formal_scene x))) ∷ spec_quantifiers c x ++ row_quantifiers row x
    spec_quantifiers (s.Claims' q c m row) x = spec_quantifiers c x ++ row_quantifiers row x
    spec_quantifiers (s.Lists' q o) x = spec_quantifiers o x
    spec_quantifiers (s.Has c) x = []
    spec_quantifiers (s.ForAll' n ty q e r body) x = quantifier_formula x n (body_of_all ty x (translate p e (formal_scene x)) (translate p body (bind_ref (subject_of x) (formal_scene x)))) ∷ spec_quantifiers e x ++ spec_quantifiers body (bind_ref null x)
    spec_quantifiers (s.Exists' n ty q e m row) x = quantifier_formula x n (body_of_some ty x (translate p e (formal_scene x)) (tests p row (bind_ref (subject_of x) (formal_scene x)))) ∷ spec_quantifiers e x ++ row_quantifiers row (bind_ref null x)

    pub row_quantifiers : {m : _} → Row_of-Spec m → Scene → List QuantifiedFormula
    row_quantifiers end_of-Spec x = []
    row_quantifiers (more_of-Spec e row) x = spec_quantifiers e x ++ row_quantifiers row x

  -- those of several annotations
  abbrev pub specs_quantifiers : List Spec → Scene → List QuantifiedFormula
  specs_quantifiers es x = flat_map (λ e. spec_quantifiers e x) es

  -- those of a contract's clauses
  abbrev pub clauses_quantifiers : List Clause → Scene → List QuantifiedFormula
  clauses_quantifiers cs x = flat_map (λ c. spec_quantifiers c.spec x) cs

-- The members of an object that is wrapped: each is wrapped and writable. The arguments are the set's heap, the object, the heap, \me, the writes list and the entry heap; where the set's heap is the heap, it stands once.

-- as many reference constants, from number i on
abbrev pub references_from : ℕ → ℕ → List Formula
references_from i zero = []
references_from i (suc n) = reference i ∷ references_from (i + 1) n

-- q, if o owns it, is wrapped and writable
abbrev pub members_body : Formula → Formula → Formula → Formula → Formula → List Formula → Formula → Formula
members_body set o h t e w q = imp (owns set o q) (and' (wrapped t h q) (writable t e w q))

-- the formula of a wrap, of a type whose owned set is fixed or isn't; w is the length of the writes list
abbrev pub members_quantified : Bool → ℕ → ℕ → QuantifiedFormula
members_quantified true n w =
    record { number = n; arguments = sort.Heap ∷ sort.Ref ∷ sort.Heap ∷ sort.Ref ∷ replicate w sort.Ref ++ sort.Heap ∷ []; body = members_body (heap 0) (reference 1) (heap 2) (reference 3) (heap (4 + w)) (references_from 4 w) (reference (5 + w)) }
members_quantified false n w =
    record { number = n; arguments = sort.Heap ∷ sort.Ref ∷ sort.Ref ∷ replicate w sort.Ref ++ sort.Heap ∷ []; body = members_body (heap 0) (reference 1) (heap 0) (reference 2) (heap (3 + w)) (references_from 3 w) (reference (4 + w)) }

-- what a claim lists is among these objects; the arguments are the heap, the claim and the objects
abbrev pub listed_quantified : ℕ → ℕ → QuantifiedFormula
listed_quantified n objects =
    record { number = n; arguments = sort.Heap ∷ sort.Ref ∷ replicate objects sort.Ref; body = imp (lists (heap 0) (reference 1) (reference (2 + objects))) (any_of (is_any (reference (2 + objects)) (references_from 2 objects))) }

-- Of a program's text.

-- a term of the type's sort
abbrev pub any_of_type : DeclaredType → Symbolic
any_of_type ty = symbolic_of_type ty null

-- a term of the result's sort
abbrev pub any_result : Option DeclaredType → Symbolic
any_result None = Number null
any_result (Some ty) = any_of_type ty

-- the words of a function's annotations, and of a type's, by their sorts alone
abbrev pub function_words : FunctionInfo → Scene
function_words f =
    record { before = null; after = null; past = false; me = null; this = null; locals = map (λ v. any_of_type v.ty) f.variables.items; entry = map (λ v. any_of_type v.ty) (take f.parameters f.variables.items); result = any_result f.result; bound = []; subject = null }

-- a type's words
abbrev pub struct_words : Scene
struct_words = record { before = null; after = null; past = false; me = null; this = null; locals = []; entry = []; result = Number null; bound = []; subject = null }

-- those of a statement that may stand in an atomic block
abbrev pub simple_quantifiers : Simple → List QuantifiedFormula
simple_quantifiers (Assign t r) = []
simple_quantifiers (ChangeOwned c e es) = []
simple_quantifiers (EndClaim q e es) = listed_quantified q (length es.items) ∷ []

abbrev mutual
  pub inner_quantifiers : Inner → List QuantifiedFormula
  inner_quantifiers (Inside line c) = simple_quantifiers c
  inner_quantifiers (InsideIf' line e m a n b) = inner_row_quantifiers a ++ inner_row_quantifiers b

  pub inner_row_quantifiers : {m : _} → Row_of-Inner m → List QuantifiedFormula
  inner_row_quantifiers end_of-Inner = []
  inner_row_quantifiers (more_of-Inner i row) = inner_quantifiers i ++ inner_row_quantifiers row

module _ (p : Program) (f : FunctionInfo) where
  -- those of an action
  abbrev pub action_quantifiers : Action → List QuantifiedFormula
  action_quantifiers (Simply c) = simple_quantifiers c
  action_quantifiers (Declare i) = []
  action_quantifiers (Define i r) = []
  action_quantifiers (WrapObject ty q e) = members_quantified (has_fixed_owns p ty) q (length f.writes.items) ∷ []
  action_quantifiers (UnwrapObject e) = []
  action_quantifiers (AssertSpec e) = spec_quantifiers p e (function_words f)
  action_quantifiers (FreeObject e) = []
  action_quantifiers (SpawnThread g es) = []
  action_quantifiers (Atomic ls body) = flat_map inner_quantifiers body.items

  abbrev mutual
    pub stmt_quantifiers : Stmt → List QuantifiedFormula
    stmt_quantifiers (Do line c) = action_quantifiers c
    stmt_quantifiers (If' line in_ghost e m a n b) = stmts_quantifiers a ++ stmts_quantifiers b
    stmt_quantifiers (While' line invs e m row) = specs_quantifiers p invs.items (function_words f) ++ stmts_quantifiers row
    stmt_quantifiers (DoWhile' line invs m row tested e) = specs_quantifiers p invs.items (function_words f) ++ stmts_quantifiers row
    stmt_quantifiers (Unwrapping' line ty q e m row) = members_quantified (has_fixed_owns p ty) q (length f.writes.items) ∷ stmts_quantifiers row
    stmt_quantifiers (Call line to c g es) = []
    stmt_quantifiers (Return line e) = []

    pub stmts_quantifiers : {m : _} → Row_of-Stmt m → List QuantifiedFormula
    stmts_quantifiers end_of-Stmt = []
    stmts_quantifiers (more_of-Stmt c row) = stmt_quantifiers c ++ stmts_quantifiers row

  -- those of a function: its contract, then its text
  abbrev pub function_quantifiers : List QuantifiedFormula
  function_quantifiers = clauses_quantifiers p f.requires_.items (function_words f) ++ clauses_quantifiers p f.ensures_.items (function_words f) ++ specs_quantifiers p f.writes.items (function_words f) ++ flat_map stmt_quantifiers f.body.items

-- all of them, types before functions; a clause that both requires and ensures stands twice
abbrev pub program_quantifiers : Program → List QuantifiedFormula
program_quantifiers p = flat_map (λ c. specs_quantifiers p c.invariants.items struct_words) p.structs.items ++ flat_map (λ f. function_quantifiers p f) p.functions.items

-- the first with this number
abbrev pub find_quantifier : ℕ → List QuantifiedFormula → Option QuantifiedFormula
find_quantifier n [] = None
find_quantifier n (q ∷ qs) = if q.number == n then Some q else find_quantifier n qs

-- the program's formula with this number
abbrev pub quantified_formula : Program → ℕ → Option QuantifiedFormula
quantified_formula p n = find_quantifier n (program_quantifiers p)
