-- What the definitions of claims do for one element of a list, and in one of their cases. Own.
use Rattle.std.specs.Prelude.{ℕ, Bool, if◌then◌else◌, pos, List, [], ◌∷◌, ◌++◌, map}
use Rattle.method.specs.declared.program.Claimed.{Claimed}
use Rattle.method.specs.declared.program.Claimed.TheVariants.{ClaimedVariable, ClaimedNull, ClaimedOther}
use Rattle.method.specs.declared.program.ClaimSite.{ClaimSite}
use Rattle.method.specs.declared.program.DeclaredType.{DeclaredType}
use Rattle.method.specs.declared.program.FunctionInfo.{FunctionInfo}
use Rattle.method.specs.declared.program.Program.{Program}
use Rattle.method.specs.Tables.{type_of_variable}
use Rattle.terms.specs.declared.term.Kind.{Kind}
use Rattle.terms.specs.declared.term.Kind.TheVariants as k
use Rattle.terms.specs.Formula.{Formula, Node, binary}
use Rattle.conditions.specs.Formulas.{row, nat, null, eq, typ, all_of, any_of, is_any, set, shape_column, listed_column, count_column, mode, count, lists, closed}
use Rattle.conditions.specs.Symbolic.{Symbolic, Reference, term}
use Rattle.conditions.specs.Annotations.{Entry, entry_of, entry_formula, symbolic_at}
use Rattle.conditions.specs.Paths.{Execution, Gives, after, check_each, fact}
use Rattle.conditions.specs.Code.{Spot, State, ValueAndState, new_reference, new_heap, new_value, inv, code, scene}
use Rattle.conditions.specs.Admissible.{object, earlier, untouched, put_local, no_constants, any_locals, all_listed, conjuncts_in}
use Rattle.conditions.specs.Actions.{Place, stored_heap, claimable_from, defer, distinct_from, may_count, new_claim, add_claim}

-- the variable has any value of its type
abbrev pub any_local : FunctionInfo → ℕ → State → Execution State
any_local f i st = after (new_value (type_of_variable f i) st) (λ v. Gives (put_local i v))

-- a variable's object is listed; so is NULL, as a constant; so is any value of the type
abbrev pub variable_listed : ℕ → State → Execution State
variable_listed i st = fact (lists earlier object (term (symbolic_at st.locals i))) (Gives st)

abbrev pub null_listed : State → Execution State
null_listed st =
    let v = new_reference st in
    fact (eq (term v.value) null) (fact (lists earlier object (term v.value)) (Gives v.state))

abbrev pub other_listed : DeclaredType → State → Execution State
other_listed ty st = after (new_value ty st) (λ v. fact (lists earlier object (term v.value)) (Gives v.state))

-- a claimed object is listed
abbrev pub one_listed : Claimed → State → Execution State
one_listed (ClaimedVariable i) st = variable_listed i st
one_listed ClaimedNull st = null_listed st
one_listed (ClaimedOther e ty) st = other_listed ty st

-- any values of a claim site's variables, and of its claimed objects
abbrev pub site_state : FunctionInfo → ClaimSite → Execution State
site_state f site = after (any_locals f site.variables.items (no_constants f)) (λ st. all_listed site.claimed.items st)

-- what is known of a step before which the site's claim is made, and which doesn't touch it, with these facts
abbrev pub site_facts : Program → ClaimSite → List Symbolic → List Formula → List Formula
site_facts p site ws fs = untouched 2 ++ fs ++ conjuncts_in p earlier site ws

-- the heap where the count of o is changed by 1
abbrev pub with_count : Kind → Formula → Formula → Formula
with_count way o h = set count_column h (o ∷ []) (binary way (count h o) (nat 1))

-- the heap where the claim c lists o
abbrev pub with_object : Formula → Formula → Formula → Formula
with_object c o h = set listed_column h (c ∷ o ∷ []) (nat 1)

-- the heap where the claim c has the conjunct
abbrev pub with_conjunct : Program → Formula → Entry → Formula → Formula
with_conjunct p c e h = set (shape_column p e.shape) h (c ∷ map term e.values) (nat 1)

-- the number of a type that is claimable
abbrev pub claimable_number : ℕ → Bool → List Formula
claimable_number n is_claimable = if is_claimable then nat n ∷ [] else []

-- o is of a claimable type
abbrev pub of_claimable_type : Program → Formula → Formula
of_claimable_type p o = any_of (is_any (typ o) (claimable_from 3 p.structs.items))

-- o may be claimed: it is of a claimable type, closed, none of the earlier ones, and its owner has its part
abbrev pub claim_test : Program → Spot → Formula → List Formula → Formula → Formula
claim_test p a h earlier o = all_of (of_claimable_type p o ∷ closed h o ∷ distinct_from o earlier ++ may_count p a h o ∷ [])

-- the claim c, which is noted for the block's end with its objects
abbrev pub deferred_claim : Formula → List Formula → List Entry → State → ValueAndState
deferred_claim c os es st =
    record { value = Reference c; state = record st { changed = st.changed ++ defer os; made = st.made ++ record { guards = []; which = c; entries = es } ∷ [] } }

-- the claim c, outside a block: the step, with the value stored, must give each conjunct and keep each object's invariant
abbrev pub checked_claim : Program → Formula → List Formula → List Entry → Place → Formula → State → Execution ValueAndState
checked_claim p c os es place h st =
    check_each (map (entry_formula p (stored_heap place (Reference c) st.heap)) es) (
    check_each (map (λ o. inv o h (stored_heap place (Reference c) st.heap)) os) (
    Gives (record { value = Reference c; state = st })
    )
    )

-- c is a claim, absent in the heap h, and now is h with the claim in it
abbrev pub claim_fact : Program → Spot → Formula → List Formula → List Entry → Formula → Formula → Formula
claim_fact p a c os es h now = all_of (eq (typ c) (nat 2) ∷ eq (mode h c) (nat 0) ∷ eq now (new_claim p a c os es h) ∷ [])

-- a new claim of a site that lists these objects
abbrev pub claim_of_site : Program → Spot → ClaimSite → List Formula → Place → State → Execution ValueAndState
claim_of_site p a site os place st =
    let c = new_reference st in
    add_claim p a (term c.value) os (map (entry_of (scene a st)) site.conjuncts.items) place st.heap (new_heap c.state)

-- the value that a claimed object has
abbrev pub claimed_term : Program → Spot → Claimed → State → Execution Formula
claimed_term p a (ClaimedVariable i) st = Gives (term (symbolic_at st.locals i))
claimed_term p a ClaimedNull st = Gives null
claimed_term p a (ClaimedOther e ty) st = after (code p a st e) (λ v. Gives (term v))

-- formula number q says that the claim c lists no other than these
abbrev pub lists_only : ℕ → Formula → Formula → List Formula → Formula
lists_only q h c os = Node k.All (pos q) (row (h ∷ c ∷ os))

-- the state where a claim has ended, h being the heap then: inside a block its objects are noted, outside each invariant is kept
abbrev pub claim_end : Spot → List Formula → Formula → State → Execution State
claim_end a os h st =
    check_each (if a.inside then [] else map (λ o. inv o st.heap h) os) (
    Gives (record st { heap = h; changed = st.changed ++ (if a.inside then defer os else []) })
    )
