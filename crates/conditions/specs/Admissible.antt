-- The formulas of admissibility, one pair for each type and one for each claim site. From CAV 2010, section 3: two heaps, and what a step between them may do.
use Rattle.std.specs.Prelude.{ℕ, false, List, [], ◌∷◌, ◌++◌, map, slice_set, replicate, length, Option, Some, None}
use Rattle.method.specs.declared.program.Claimed.{Claimed}
use Rattle.method.specs.declared.program.Claimed.TheVariants.{ClaimedVariable, ClaimedNull, ClaimedOther}
use Rattle.method.specs.declared.program.FunctionInfo.{FunctionInfo}
use Rattle.method.specs.declared.program.ClaimSite.{ClaimSite}
use Rattle.method.specs.declared.program.Program.{Program}
use Rattle.method.specs.Tables.{type_of_variable}
use Rattle.terms.specs.declared.term.Kind.TheVariants as k
use Rattle.terms.specs.Formula.{Formula}
use Rattle.conditions.specs.Formulas.{node, nat, null, me, reference, heap, not', imp, eq, typ, all_of, lists, closed}
use Rattle.conditions.specs.Symbolic.{Symbolic, Number, term}
use Rattle.conditions.specs.Annotations.{Scene, entry_of, entry_formula, symbolic_at}
use Rattle.conditions.specs.Paths.{Execution, Gives, after, fact, facts}
use Rattle.conditions.specs.Code.{State, ValueAndState, inv, new_reference, new_value}

-- the object, and the heap before and after a step
abbrev pub object : Formula
object = reference 0

-- the heap before a step
abbrev pub earlier : Formula
earlier = heap 0

-- the heap after it
abbrev pub later : Formula
later = heap 1

-- a kept step leaves the objects of the type with an invariant that holds of the later heap alone
abbrev pub reflexive : ℕ → Formula
reflexive ty =
    imp (all_of (node k.Good (earlier ∷ []) ∷ node k.Kept (earlier ∷ later ∷ []) ∷ eq (typ object) (nat ty) ∷ closed later object ∷ [])) (inv object later later)

-- a legal step doesn't touch the object
abbrev pub untouched : ℕ → List Formula
untouched ty =
    node k.Good (earlier ∷ []) ∷ node k.Legal (earlier ∷ later ∷ []) ∷ eq (typ object) (nat ty) ∷ closed earlier object ∷ closed later object ∷ not' (node k.Touched (object ∷ earlier ∷ later ∷ [])) ∷ []

-- no legal step breaks the invariant of an object of the type that it doesn't touch
abbrev pub stable : ℕ → Formula
stable ty = imp (all_of (untouched ty)) (inv object earlier later)

-- Claims: any values of the variables that the site names, and of its claimed expressions.

-- the state before a claim site's constants are made; the constants of a step are there
abbrev pub no_constants : FunctionInfo → State
no_constants f = record { heap = earlier; locals = replicate (length f.variables.items) (Number (nat 0)); integers = 0; references = 1; heaps = 2; changed = []; made = [] }

-- the state where the variable has this value
abbrev pub put_local : ℕ → ValueAndState → State
put_local i v = record v.state { locals = slice_set v.state.locals i v.value }

-- the variables of these numbers have any values of their types
abbrev pub any_locals : FunctionInfo → List ℕ → State → Execution State
any_locals f [] st = Gives st
any_locals f (i ∷ is) st = after (new_value (type_of_variable f i) st) (λ v. any_locals f is (put_local i v))

-- each claimed object is listed
abbrev pub all_listed : List Claimed → State → Execution State
all_listed [] st = Gives st
all_listed (ClaimedVariable i ∷ cs) st = fact (lists earlier object (term (symbolic_at st.locals i))) (all_listed cs st)
all_listed (ClaimedNull ∷ cs) st =
    let v = new_reference st in
    fact (eq (term v.value) null) (fact (lists earlier object (term v.value)) (all_listed cs v.state))
all_listed (ClaimedOther e ty ∷ cs) st = after (new_value ty st) (λ v. fact (lists earlier object (term v.value)) (all_listed cs v.state))

module _ (p : Program) where
  -- the words of a claim's conjuncts at its site
  abbrev pub site_scene : List Symbolic → Scene
  site_scene locals = record { before = earlier; after = earlier; past = false; me = me; this = null; locals = locals; entry = []; result = Number (nat 0); bound = []; subject = null }

  -- the conjuncts of a claim site, on a heap
  abbrev pub conjuncts_in : Formula → ClaimSite → List Symbolic → List Formula
  conjuncts_in h site locals = map (λ c. entry_formula p h (entry_of (site_scene locals) c)) site.conjuncts.items

  -- the condition of a claim site whose variables and claimed objects are made
  abbrev pub stable_claim : ClaimSite → Execution State → Formula
  stable_claim site t = imp (all_of (untouched 2 ++ facts t.path ++ conjuncts_in earlier site t.gives.locals)) (all_of (conjuncts_in later site t.gives.locals))

  -- no legal step breaks the property of a claim that the site makes and the step doesn't touch
  abbrev pub claim_stable : ClaimSite → Option FunctionInfo → Formula
  claim_stable site None = not' (eq null null)
  claim_stable site (Some f) = stable_claim site (after (any_locals f site.variables.items (no_constants f)) (λ st. all_listed site.claimed.items st))
