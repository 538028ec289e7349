-- The path of an action has as many checks as its text.
use Rattle.std.proofs.Common.{◌≡◌, ℕ, zero, suc, ◌+◌, Bool, true, false, if◌then◌else◌, List, [], ◌∷◌, ◌++◌, length, slice_get, Option, Some, None, refl, ap, ap₂, sym, IsTrue, true≢false, ◌∙◌, arith}
use Rattle.std.proofs.lemmas.List.{length-map}
use Rattle.int_ranges.specs.declared.ctype.CType.{CType}
use Rattle.method.specs.declared.program.DeclaredType.{DeclaredType}
use Rattle.method.specs.declared.program.Target.{Target}
use Rattle.method.specs.declared.program.Target.TheVariants.{Local, FieldOf}
use Rattle.method.specs.declared.program.Operation.{Operation}
use Rattle.method.specs.declared.program.Operation.TheVariants.{CompareExchange, Exchange, Increment, Decrement}
use Rattle.method.specs.declared.program.InterlockedResult.{InterlockedResult}
use Rattle.method.specs.declared.program.InterlockedResult.TheVariants.{Plainly, Compared}
use Rattle.method.specs.declared.program.RightSide.{RightSide}
use Rattle.method.specs.declared.program.RightSide.TheVariants.{Compute, Malloc, NewClaim, Interlocked}
use Rattle.method.specs.declared.program.OwnsChange.{OwnsChange}
use Rattle.method.specs.declared.program.OwnsChange.TheVariants.{Assigned, Added, Removed}
use Rattle.method.specs.declared.program.Simple.{Simple}
use Rattle.method.specs.declared.program.Simple.TheVariants.{Assign, ChangeOwned, EndClaim}
use Rattle.method.specs.declared.program.Claimed.{Claimed}
use Rattle.method.specs.declared.program.Claimed.TheVariants.{ClaimedVariable, ClaimedNull, ClaimedOther}
use Rattle.method.specs.declared.program.ClaimSite.{ClaimSite}
use Rattle.method.specs.declared.program.StructInfo.{StructInfo}
use Rattle.method.specs.declared.program.Program.{Program}
use Rattle.method.specs.Tables.{type_of_field, struct_of}
use Rattle.method.specs.Expressions as text
use Rattle.method.specs.Actions as text_of
use Rattle.method.specs.Actions.{operands, counts}
use Rattle.terms.specs.Formula.{Formula}
use Rattle.conditions.specs.Formulas.{get, field_column, status, nat, null}
use Rattle.terms.specs.declared.term.Kind.TheVariants as k
use Rattle.conditions.specs.Symbolic.{Symbolic, term, ranges}
use Rattle.conditions.specs.Paths.{Gives, checks}
use Rattle.conditions.specs.Code.{Spot, State, ValueAndState, new_of, new_value, new_reference, code, all_code}
use Rattle.conditions.specs.Actions as walk
use Rattle.conditions.specs.Actions.{Place, InLocal, InField}
use Rattle.condition_walks.proofs.Sizes.{checks_joined, checks_each, checks_facts, code_size, all_code_size, all_code_length}

pub new_value_size : (ty : DeclaredType) (st : State) → checks (new_value ty st).path ≡ 0
new_value_size ty st = checks_facts (ranges ty (term (new_of ty st).value)) (Gives (new_of ty st))

-- the set is changed member by member, and not put in place of another
abbrev pub by_members : OwnsChange → Bool
by_members Assigned = false
by_members Added = true
by_members Removed = true

-- the checks of a store: Write and Writes of a field
abbrev pub place_checks : Place → ℕ
place_checks (InLocal i) = 0
place_checks (InField o f) = 2

module _ (p : Program) (a : Spot) where
  pub left_side_size : (t : Target) (st : State) → checks (walk.left_side p a t st).path ≡ text_of.target_checks t
  left_side_size (Local i) st = refl
  left_side_size (FieldOf c f) st = let h = code_size p a st c in simp (checks_joined, h) (omega arith)

  pub store_size : (place : Place) (v : Symbolic) (st : State) → checks (walk.store p a place v st).path ≡ place_checks place
  store_size (InLocal i) v st = refl
  store_size (InField o f) v st = refl

  pub place_size : (t : Target) (st : State) → place_checks (walk.left_side p a t st).gives ≡ text_of.store_checks t
  place_size (Local i) st = refl
  place_size (FieldOf c f) st = refl

  contents_size : (f n : ℕ) (st : State) → checks (walk.contents p a f n st).path ≡ 0
  contents_size f zero st = refl
  contents_size f (suc n) st =
      let hx = new_value_size (type_of_field p f) st in
      let hy = contents_size (f + 1) n (new_value (type_of_field p f) st).gives.state in
      simp (checks_joined, hx, hy) refl

  pub malloc_size : (ty : ℕ) (s : Option StructInfo) (st : State) → checks (walk.malloc p a ty s st).path ≡ 0
  malloc_size ty None st = refl
  malloc_size ty (Some s) st = let h = contents_size s.first_field s.fields (new_reference st).state in simp (checks_joined, h) refl

  pub claimed_size : (cs : List Claimed) (st : State) → checks (walk.claimed_terms p a cs st).path ≡ text_of.claimed_checks cs
  claimed_size [] st = refl
  claimed_size (ClaimedVariable i ∷ cs) st = let h = claimed_size cs st in simp (checks_joined, h) (omega arith)
  claimed_size (ClaimedNull ∷ cs) st = let h = claimed_size cs st in simp (checks_joined, h) (omega arith)
  claimed_size (ClaimedOther c ty ∷ cs) st = let h = claimed_size cs st in let k = code_size p a st c in simp (checks_joined, h, k) (omega arith)

  pub claimed_length : (cs : List Claimed) (st : State) → length (walk.claimed_terms p a cs st).gives ≡ length cs
  claimed_length [] st = refl
  claimed_length (ClaimedVariable i ∷ cs) st = ap suc (claimed_length cs st)
  claimed_length (ClaimedNull ∷ cs) st = ap suc (claimed_length cs st)
  claimed_length (ClaimedOther c ty ∷ cs) st = ap suc (claimed_length cs st)

  claim_tests_length : (h : Formula) (earlier os : List Formula) → length (walk.claim_tests p a h earlier os) ≡ length os
  claim_tests_length h earlier [] = refl
  claim_tests_length h earlier (o ∷ os) = ap suc (claim_tests_length h (earlier ++ o ∷ []) os)

  pub convert_size : (c : Option CType) (w : Symbolic) → checks (walk.convert_to p a c w).path ≡ text_of.conversion_checks c
  convert_size None w = refl
  convert_size (Some c) w = refl

  afterwards_size : (then' : InterlockedResult) (v : ValueAndState) → checks (walk.exchange_result p a then' v).path ≡ text_of.afterwards_checks then'
  afterwards_size (Plainly c) v = let h = convert_size c v.value in simp (checks_joined, h) (omega arith)
  afterwards_size (Compared c equal e d) v = let h = code_size p a v.state e in simp (checks_joined, convert_size, h) (omega arith)

  exchange_size : (op : Operation) (o : Formula) (f : ℕ) (xs : List Formula) (was : Formula) (st : State) → text.all_checks (operands op) + checks (walk.exchange p a op o f xs was st).path ≡ text_of.operation_checks op
  exchange_size (CompareExchange new old) o f xs was st = omega arith
  exchange_size (Exchange new) o f xs was st = omega arith
  exchange_size Increment o f xs was st = omega arith
  exchange_size Decrement o f xs was st = omega arith

-- where it is inside an atomic block, or isn't
module _ (p : Program) (b : Bool) (at_ : Spot) where
  abbrev a : Spot
  a = record at_ { inside = b }

  make_claim_size : (s : Option ClaimSite) (place : Place) (st : State) → checks (walk.make_claim p a s place st).path ≡ text_of.site_checks b s
  make_claim_size None place st = refl
  make_claim_size (Some site) place st = by_inside b
    where
      by_inside : (b : Bool) → checks (walk.make_claim p (record at_ { inside = b }) (Some site) place st).path ≡ text_of.site_checks b (Some site)
      by_inside true =
          let h = claimed_size p (record at_ { inside = true }) site.claimed.items st in
          let k = claimed_length p (record at_ { inside = true }) site.claimed.items st in
          simp (checks_joined, checks_each, h, claim_tests_length, k) (omega arith)
      by_inside false =
          let h = claimed_size p (record at_ { inside = false }) site.claimed.items st in
          let k = claimed_length p (record at_ { inside = false }) site.claimed.items st in
          simp (checks_joined, checks_each, h, claim_tests_length, k, length-map) (omega arith)

  pub right_side_size : (r : RightSide) (place : Place) (st : State) → checks (walk.right_side p a r place st).path ≡ text_of.right_checks p b r
  right_side_size (Compute e) place st = let h = code_size p a st e in simp (checks_joined, h) (omega arith)
  right_side_size (Malloc ty) place st = malloc_size p a ty (struct_of p ty) st
  right_side_size (NewClaim n) place st = make_claim_size (slice_get p.sites.items n) place st
  right_side_size (Interlocked e f op then') place st =
      let h = code_size p a st e in
      let o = term (code p a st e).gives in
      let xs = (all_code p a st (operands op)).gives in
      let was = get (field_column f) st.heap (o ∷ []) in
      let k = all_code_size p a st (operands op) in
      let x = exchange_size p a op o f xs was st in
      let y = afterwards_size p a then' (walk.exchange p a op o f xs was st).gives in
      simp (checks_joined, h, k, y) (omega (arith, x))

  -- a change by one member has two checks
  pub member_size : (c : OwnsChange) → IsTrue (by_members c) → (o q : Formula) (st : State) → checks (walk.member_change p a c o q st).path ≡ 2
  member_size c moves o q st = by_inside c moves b
    where
      by_inside : (c : OwnsChange) → IsTrue (by_members c) → (b : Bool) → checks (walk.member_change p (record at_ { inside = b }) c o q st).path ≡ 2
      by_inside Assigned moves b = absurd (true≢false (sym moves))
      by_inside Added moves true = refl
      by_inside Added moves false = refl
      by_inside Removed moves true = refl
      by_inside Removed moves false = refl

  members_size : (c : OwnsChange) → IsTrue (by_members c) → (o : Formula) (qs : List Formula) (st : State) → checks (walk.members_change p a c o qs st).path ≡ length qs + length qs
  members_size c moves o [] st = refl
  members_size c moves o (q ∷ qs) st =
      let h = member_size c moves o q st in
      let k = members_size c moves o qs (walk.member_change p a c o q st).gives in
      checks_joined (walk.member_change p a c o q st).path (walk.members_change p a c o qs (walk.member_change p a c o q st).gives).path ∙ ap₂ (λ m n. m + n) h k ∙ omega arith

  owned_change_size : (c : OwnsChange) (o : Formula) (qs : List Formula) (st : State) → checks (walk.owned_change p a c o qs st).path ≡ text_of.change_checks c (length qs)
  owned_change_size Assigned o qs st = refl
  owned_change_size Added o qs st = members_size Added refl o qs st
  owned_change_size Removed o qs st = members_size Removed refl o qs st

  end_claim_size : (q : ℕ) (c : Formula) (os : List Formula) (st : State) (h1 : Formula) → checks (walk.end_claim p a q c os st h1).path ≡ 1 + length os + (if b then 0 else length os)
  end_claim_size q c os st h1 = by_inside b
    where
      by_inside : (b : Bool) → checks (walk.end_claim p (record at_ { inside = b }) q c os st h1).path ≡ 1 + length os + (if b then 0 else length os)
      by_inside true = simp (checks_each, length-map) (omega arith)
      by_inside false = simp (checks_each, length-map) (omega arith)

  pub run_simple_size : (s : Simple) (st : State) → checks (walk.run_simple p a s st).path ≡ text_of.simple_checks p b s
  run_simple_size (Assign t r) st =
      let place = (walk.left_side p a t st).gives in
      let v = (walk.right_side p a r place st).gives in
      let h = left_side_size p a t st in
      let k = right_side_size r place st in
      let m = store_size p a place v.value v.state in
      let n = place_size p a t st in
      simp (checks_joined, h, k, m, n) (omega arith)
  run_simple_size (ChangeOwned c e es) st =
      let h = code_size p a st e in
      let k = all_code_size p a st es.items in
      let n = all_code_length p a st es.items in
      let m = owned_change_size c (term (code p a st e).gives) (all_code p a st es.items).gives st in
      simp (checks_joined, h, k, m, n) (omega arith)
  run_simple_size (EndClaim q e es) st =
      let h = code_size p a st e in
      let z = all_code_size p a st es.items in
      let os = (all_code p a st es.items).gives in
      let n : length os ≡ length es.items = all_code_length p a st es.items in
      let m : checks (walk.end_claim p a q (term (code p a st e).gives) os st (walk.change_counts k.Sub os (status st.heap (term (code p a st e).gives) (nat 3) null))).path ≡ 1 + length es.items + (if b then 0 else length es.items) =
      end_claim_size q (term (code p a st e).gives) os st (walk.change_counts k.Sub os (status st.heap (term (code p a st e).gives) (nat 3) null)) ∙ ap (λ i. 1 + i + (if b then 0 else i)) n in
      simp (checks_joined, h, z, m) (omega arith)
