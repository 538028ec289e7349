-- The objects of a claim, their tests, and the conjuncts with the values of their holes.
use Rattle.std.proofs.Common.{◌≡◌, ℕ, zero, suc, ◌+◌, ◌-◌, ◌==◌, ◌<◌, Bool, true, false, not, ◌&&◌, ◌||◌, if◌then◌else◌, List, [], ◌∷◌, ◌++◌, map, length, Some, None, slice_get, refl, ap, sym, ◌∙◌, arith}
use Rattle.std.proofs.Math.Bool.{or-false, and-true}
use Rattle.std.specs.Prelude.{pos, nat_le, nat_lt}
use Rattle.std.proofs.lemmas.Bool.{eqb-true, eq-eqb, leb-true, leb-false, not-true}
use Rattle.object_types.specs.declared.references.Ref.{Ref}
use Rattle.object_types.specs.declared.values.Value.TheVariants.{Int, Ref as Refers}
use Rattle.object_types.specs.References.{null, same_ref}
use Rattle.object_types.specs.Values.{referent}
use Rattle.object_types.specs.Sets.{every, is_in}
use Rattle.object_types.specs.Heap.{Heap, closed_in}
use Rattle.method.specs.declared.program.Expr.TheVariants.{Variable}
use Rattle.method.specs.declared.program.Claimed.{Claimed}
use Rattle.method.specs.declared.program.Claimed.TheVariants.{ClaimedVariable, ClaimedNull, ClaimedOther}
use Rattle.method.specs.declared.program.StructInfo.{StructInfo}
use Rattle.method.specs.declared.program.VariableInfo.{VariableInfo}
use Rattle.method.specs.declared.program.FunctionInfo.{FunctionInfo}
use Rattle.method.specs.declared.program.Program.{Program}
use Rattle.method.specs.Tables.{local, is_claimable, struct_test, type_of_variable, kind_of_variable}
use Rattle.method.specs.Typing.{are_ints, are_refs, declared, fits, values, has_type, claimed_ok, and_then}
use Rattle.method.specs.Expressions as m
use Rattle.method.specs.Expressions.{Spot as MachineSpot, Gave, eval, checks}
use Rattle.method.specs.Actions as M
use Rattle.method.specs.Actions.{Progress, may_count, claimed_checks}
use Rattle.method.proofs.Global.{and_both}
use Rattle.machine_laws.proofs.Typed.{Env}
use Rattle.machine_laws.proofs.Heaps.{in_more}
use Rattle.machine_laws.proofs.Simple.{test_some}
use Rattle.machine_laws.proofs.Claims.{variable_at}
use Rattle.terms.specs.Formula.{Formula}
use Rattle.axiom_instances.proofs.Kit.{one, node_has}
use Rattle.conditions.specs.Formulas.{null as null_term, nat, typ, any_of, is_any, closed}
use Rattle.conditions.specs.Symbolic.{term}
use Rattle.conditions.specs.Annotations.{symbolic_at}
use Rattle.conditions.specs.Paths.{Gives, after}
use Rattle.conditions.specs.Code.{Spot, State, code}
use Rattle.conditions.specs.Actions as walk
use Rattle.conditions.specs.Actions.{claimable_from, distinct_from}
use Rattle.conditions.proofs.PathTests.{AllAre, are_both}
use Rattle.conditions.proofs.FromRuns.{Count, within_self}
use Rattle.condition_meaning.specs.Languages.{language_of}
use Rattle.condition_meaning.proofs.Environments.{Environment, Is, Has, HeapIs, is_eq, has_int, has_null}
use Rattle.condition_walks.proofs.Sizes.{code_size}
use Rattle.condition_walks.proofs.ActionSizes.{claimed_size}
use Rattle.condition_walks.proofs.ActionSorts.{fits_sort}
use Rattle.action_conditions.proofs.Words.{Refer, any, all, any_both, is_so, is_any_of, is_all_of, is_closed_now}
use Rattle.action_conditions.proofs.Sorts.{plain_sort}
use Rattle.action_conditions.proofs.Expressions.{code_told}
use Rattle.action_conditions.proofs.Places.{env_sorts, stands_ref}
use Rattle.block_conditions.proofs.Beside.{Beside, beside_after, beside_gives}
use Rattle.block_conditions.proofs.Distinct.{all_both, in_behind, none_of, not_same_are, one_behind}
use Rattle.action_conditions.proofs.Permissions.{may_count_is}
use Rattle.action_conditions.proofs.Places.{SpotIs}
use Rattle.block_conditions.proofs.Operands.{At, FitsRef, beside_ref}
use Rattle.block_conditions.proofs.Seeing.{SeesClaimed}

-- what is claimed fits: expressions that come to references
abbrev pub FitsClaimed : Program → FunctionInfo → (ℕ → Bool) → List Claimed → Type 0
FitsClaimed p f hid [] = Unit {0}
FitsClaimed p f hid (ClaimedVariable i ∷ cs) = FitsRef p f hid (Variable i) × FitsClaimed p f hid cs
FitsClaimed p f hid (ClaimedNull ∷ cs) = FitsClaimed p f hid cs
FitsClaimed p f hid (ClaimedOther y ty ∷ cs) = FitsRef p f hid y × FitsClaimed p f hid cs

pub claimed_fit : (p : Program) (f : FunctionInfo) (hid : ℕ → Bool) (cs : List Claimed) → every (claimed_ok p f) cs ≡ true → SeesClaimed hid cs → FitsClaimed p f hid cs
claimed_fit p f hid [] ok sees = tt
claimed_fit p f hid (ClaimedVariable i ∷ cs) ok sees =
    let b = and_both (claimed_ok p f (ClaimedVariable i)) (every (claimed_ok p f) cs) ok in
    let c = and_both (nat_lt i (length f.variables.items)) (are_refs (declared (type_of_variable f i))) b.0 in
    let w = variable_at f.variables.items i c.0 in
    (record { fits = record { values_are = declared w.0.ty; typed = variable_value i w.0 w.1; seen = sees.0 }; refs = sym (ap (λ o. are_refs (declared (kind_of_variable o))) w.1) ∙ c.1 }, claimed_fit p f hid cs b.1 sees.1)
  where
    variable_value : (i : ℕ) (w : VariableInfo) → slice_get f.variables.items i ≡ Some w → values p f (Variable i) ≡ Some (declared w.ty)
    variable_value i w is = ap (λ o. and_then o (λ (v : VariableInfo). Some (declared v.ty))) is
claimed_fit p f hid (ClaimedNull ∷ cs) ok sees = claimed_fit p f hid cs (and_both (claimed_ok p f ClaimedNull) (every (claimed_ok p f) cs) ok).1 sees
claimed_fit p f hid (ClaimedOther y ty ∷ cs) ok sees =
    let b = and_both (claimed_ok p f (ClaimedOther y ty)) (every (claimed_ok p f) cs) ok in
    let c = and_both (has_type p f y ty) (are_refs (declared ty)) b.0 in
    let t = test_some p f (values p f y) (λ v. fits v ty) c.0 in
    (record { fits = record { values_are = t.0; typed = t.1; seen = sees.0 }; refs = ap not (fits_sort t.0 ty t.2) ∙ c.1 }, claimed_fit p f hid cs b.1 sees.1)

-- Claimable types by their numbers.

abbrev number_tests : ℕ → List StructInfo → ℕ → List Bool
number_tests n [] ty = []
number_tests n (s ∷ ss) ty = (if s.is_claimable then (ty == n) ∷ [] else []) ++ number_tests (n + 1) ss ty

apart : (a b : ℕ) → (a ≡ b → ⊥) → a == b ≡ false
apart a b h = by (a == b) refl
  where
    by : (t : Bool) → a == b ≡ t → a == b ≡ false
    by true e = absurd (h (eqb-true a b e))
    by false e = e

none_below : (n : ℕ) (ss : List StructInfo) (ty : ℕ) → ty < n → any (number_tests n ss ty) ≡ false
none_below n [] ty less = refl
none_below n (s ∷ ss) ty less =
    any_both (if s.is_claimable then (ty == n) ∷ [] else []) (number_tests (n + 1) ss ty) ∙ ap (λ b. any (if s.is_claimable then (ty == n) ∷ [] else []) || b) (none_below (n + 1) ss ty (omega (arith, less))) ∙ or-false (any (if s.is_claimable then (ty == n) ∷ [] else [])) ∙ by s.is_claimable
  where
    by : (c : Bool) → any (if c then (ty == n) ∷ [] else []) ≡ false
    by true = ap (λ b. b || false) (apart ty n (λ e. absurd (omega (arith, less, e))))
    by false = refl

numbered : (n d : ℕ) (ss : List StructInfo) (ty : ℕ) → ty ≡ n + d → any (number_tests n ss ty) ≡ struct_test (λ s. s.is_claimable) (slice_get ss d)
numbered n d [] ty e = refl
numbered n zero (s ∷ ss) ty e =
    any_both (if s.is_claimable then (ty == n) ∷ [] else []) (number_tests (n + 1) ss ty) ∙ ap (λ b. any (if s.is_claimable then (ty == n) ∷ [] else []) || b) (none_below (n + 1) ss ty (omega (arith, e))) ∙ or-false (any (if s.is_claimable then (ty == n) ∷ [] else [])) ∙ by s.is_claimable
  where
    by : (c : Bool) → any (if c then (ty == n) ∷ [] else []) ≡ c
    by true = ap (λ b. b || false) (eq-eqb ty n (e ∙ omega arith))
    by false = refl
numbered n (suc d) (s ∷ ss) ty e =
    any_both (if s.is_claimable then (ty == n) ∷ [] else []) (number_tests (n + 1) ss ty) ∙ ap (λ b. b || any (number_tests (n + 1) ss ty)) (by s.is_claimable) ∙ numbered (n + 1) d ss ty (e ∙ omega arith)
  where
    by : (c : Bool) → any (if c then (ty == n) ∷ [] else []) ≡ false
    by true = ap (λ b. b || false) (apart ty n (λ k. absurd (omega (arith, e, k))))
    by false = refl

claimable_is : (p : Program) (ty : ℕ) → any (number_tests 3 p.structs.items ty) ≡ is_claimable p ty
claimable_is p ty = by (nat_le 3 ty) refl
  where
    by : (b : Bool) → nat_le 3 ty ≡ b → any (number_tests 3 p.structs.items ty) ≡ struct_test (λ s. s.is_claimable) (if b then slice_get p.structs.items (ty - 3) else None)
    by true e = let le = leb-true 3 ty e in numbered 3 (ty - 3) p.structs.items ty (omega (arith, le))
    by false e = let less = leb-false 3 ty e in none_below 3 p.structs.items ty (omega (arith, less))

module _ (p : Program) (f : FunctionInfo) (at_ : MachineSpot) (a : Spot) (hid : ℕ → Bool) where
  abbrev E : Type 0
  E = Environment (language_of p) at_.context.me

  abbrev ReferIn : E → List Formula → List Ref → Type 0
  ReferIn = Refer (language_of p) at_.context.me

  abbrev Are : E → List Formula → List Bool → Type 0
  Are e = AllAre (Is (language_of p) at_.context.me e)

  -- The claimed objects.

  variable_refers : (st : State) (g : Progress) → Env p f g.heap g.locals → (i : ℕ) → FitsRef p f hid (Variable i) → (e : E) → At p f at_ a hid st g e → Has (language_of p) at_.context.me e (term (symbolic_at st.locals i)) (Refers (referent (local g.locals i)))
  variable_refers st g env i fit e k =
      let told = code_told (language_of p) at_.context.me f a at_ refl hid st g.heap g.locals env.heap.heap_of (env_sorts p f g.heap g.locals env) e k (Variable i) fit.fits in
      stands_ref (language_of p) at_.context.me e (symbolic_at st.locals i) (local g.locals i) told.value (plain_sort p f at_ g.heap g.locals (env_sorts p f g.heap g.locals env) (Variable i) fit.fits.values_are fit.fits.typed ∙ not-true (are_ints fit.fits.values_are) fit.refs)

  pub beside_claimed : (st : State) (g : Progress) → Env p f g.heap g.locals → (n : ℕ) (c : Count) (cs : List Claimed) → FitsClaimed p f hid cs → (Before : E → Type 0) → ((e : E) → Before e → At p f at_ a hid st g e) → Beside (language_of p) at_.context.me n c c (walk.claimed_terms p a cs st) (M.run_claimed p at_ cs n g) Before (λ os e. ReferIn e (walk.claimed_terms p a cs st).gives os)
  beside_claimed st g env n c [] fits Before here = beside_gives (language_of p) at_.context.me n c [] [] Before (λ os e. ReferIn e [] os) (λ e b. tt)
  beside_claimed st g env n c (ClaimedVariable i ∷ cs) fits Before here =
      let ws = (walk.claimed_terms p a cs st).gives in
      let After : List Ref → E → Type 0 = λ os e. ReferIn e (term (symbolic_at st.locals i) ∷ ws) os in
      beside_after (language_of p) at_.context.me n (n + claimed_checks cs) c c c (walk.claimed_terms p a cs st) (λ os. Gives (term (symbolic_at st.locals i) ∷ os)) (M.run_claimed p at_ cs n g) (λ os. m.Gives (referent (local g.locals i) ∷ os)) Before (λ os e. ReferIn e ws os) After
      (ap (λ j. n + j) (sym (claimed_size p a cs st))) (within_self c) (beside_claimed st g env n c cs fits.1 Before here) (λ os came.
      beside_gives (language_of p) at_.context.me (n + claimed_checks cs) c (term (symbolic_at st.locals i) ∷ ws) (referent (local g.locals i) ∷ os) (λ e. Before e × ReferIn e ws os) After (λ e z. (variable_refers st g env i fits.0 e (here e z.0), z.1)))
  beside_claimed st g env n c (ClaimedNull ∷ cs) fits Before here =
      let ws = (walk.claimed_terms p a cs st).gives in
      let After : List Ref → E → Type 0 = λ os e. ReferIn e (null_term ∷ ws) os in
      beside_after (language_of p) at_.context.me n (n + claimed_checks cs) c c c (walk.claimed_terms p a cs st) (λ os. Gives (null_term ∷ os)) (M.run_claimed p at_ cs n g) (λ os. m.Gives (null ∷ os)) Before (λ os e. ReferIn e ws os) After
      (ap (λ j. n + j) (sym (claimed_size p a cs st))) (within_self c) (beside_claimed st g env n c cs fits Before here) (λ os came.
      beside_gives (language_of p) at_.context.me (n + claimed_checks cs) c (null_term ∷ ws) (null ∷ os) (λ e. Before e × ReferIn e ws os) After (λ e z. (has_null (language_of p) at_.context.me e, z.1)))
  beside_claimed st g env n c (ClaimedOther y ty ∷ cs) fits Before here =
      let w = term (code p a st y).gives in
      let ws = (walk.claimed_terms p a cs st).gives in
      let n1 = n + checks y in
      let After : List Ref → E → Type 0 = λ os e. ReferIn e (w ∷ ws) os in
      beside_after (language_of p) at_.context.me n n1 c c c (code p a st y) (λ v. after (walk.claimed_terms p a cs st) (λ os. Gives (term v ∷ os))) (eval p at_ g.heap g.locals y n) (λ v. m.after (M.run_claimed p at_ cs n1 g) (λ os. m.Gives (referent v ∷ os)))
      Before (λ v e. Has (language_of p) at_.context.me e w (Refers (referent v))) After (ap (λ j. n + j) (sym (code_size p a st y))) (within_self c) (beside_ref p f at_ a hid st g env n c y fits.0 Before here) (λ v came.
      let B1 : E → Type 0 = λ e. Before e × Has (language_of p) at_.context.me e w (Refers (referent v)) in
      beside_after (language_of p) at_.context.me n1 (n1 + claimed_checks cs) c c c (walk.claimed_terms p a cs st) (λ os. Gives (w ∷ os)) (M.run_claimed p at_ cs n1 g) (λ os. m.Gives (referent v ∷ os)) B1 (λ os e. ReferIn e ws os) After
      (ap (λ j. n1 + j) (sym (claimed_size p a cs st))) (within_self c) (beside_claimed st g env n1 c cs fits.1 B1 (λ e z. here e z.0)) (λ os came'.
      beside_gives (language_of p) at_.context.me (n1 + claimed_checks cs) c (w ∷ ws) (referent v ∷ os) (λ e. B1 e × ReferIn e ws os) After (λ e z. (z.0.1, z.1))))

  -- Their tests.

  typ_has : (e : E) (o : Formula) (r : Ref) → Has (language_of p) at_.context.me e o (Refers r) → Has (language_of p) at_.context.me e (typ o) (Int (pos r.ty))
  typ_has e o r h = node_has (one h) refl

  types_are : (e : E) (o : Formula) (r : Ref) → Has (language_of p) at_.context.me e o (Refers r) → (n : ℕ) (ss : List StructInfo) → Are e (is_any (typ o) (claimable_from n ss)) (number_tests n ss r.ty)
  types_are e o r h n [] = tt
  types_are e o r h n (s ∷ ss) = by s.is_claimable (types_are e o r h (n + 1) ss)
    where
      by : (c : Bool) → Are e (is_any (typ o) (claimable_from (n + 1) ss)) (number_tests (n + 1) ss r.ty) → Are e (is_any (typ o) ((if c then nat n ∷ [] else []) ++ claimable_from (n + 1) ss)) ((if c then (r.ty == n) ∷ [] else []) ++ number_tests (n + 1) ss r.ty)
      by true more = (is_eq (language_of p) at_.context.me e (typ o) (nat n) (Int (pos r.ty)) (Int (pos n)) (typ_has e o r h) (has_int (language_of p) at_.context.me e (pos n)), more)
      by false more = more

  -- earlier objects: terms ws that are rs, which are the machine's qs in another order
  pub tests_are : (e : E) → SpotIs (language_of p) at_.context.me a at_.context at_.inside at_.listed e → (x : Formula) (h : Heap) → HeapIs (language_of p) at_.context.me e x h → (ws : List Formula) (rs qs : List Ref) → ReferIn e ws rs → ((r : Ref) → is_in r rs ≡ is_in r qs) → (os : List Formula) (objects : List Ref) → ReferIn e os objects → Are e (walk.claim_tests p a x ws os) (M.claim_tests p at_ h qs objects)
  tests_are e here x h hx ws rs qs earlier same [] [] k = tt
  tests_are e here x h hx ws rs qs earlier same [] (r ∷ objects) k = absurd k
  tests_are e here x h hx ws rs qs earlier same (o ∷ os) [] k = absurd k
  tests_are e here x h hx ws rs qs earlier same (o ∷ os) (r ∷ objects) k = (
    is_so (language_of p) at_.context.me e _ (all (any (number_tests 3 p.structs.items r.ty) ∷ closed_in h r ∷ map (λ q. not (same_ref r q)) rs ++ may_count at_ h r ∷ [])) (is_claimable p r.ty && (closed_in h r && (not (is_in r qs) && may_count at_ h r)))
        (ap (λ b. b && (closed_in h r && all (map (λ q. not (same_ref r q)) rs ++ may_count at_ h r ∷ []))) (claimable_is p r.ty) ∙ ap (λ b. is_claimable p r.ty && (closed_in h r && b)) (all_both (map (λ q. not (same_ref r q)) rs) (may_count at_ h r ∷ []) ∙ ap (λ b. b && (may_count at_ h r && true)) (none_of r rs ∙ ap not (same r)) ∙ ap (λ b. not (is_in r qs) && b) (and-true (may_count at_ h r))))
        (is_all_of (language_of p) at_.context.me e (any_of (is_any (typ o) (claimable_from 3 p.structs.items)) ∷ closed x o ∷ distinct_from o ws ++ walk.may_count p a x o ∷ []) (any (number_tests 3 p.structs.items r.ty) ∷ closed_in h r ∷ map (λ q. not (same_ref r q)) rs ++ may_count at_ h r ∷ []) (
          is_any_of (language_of p) at_.context.me e (is_any (typ o) (claimable_from 3 p.structs.items)) (number_tests 3 p.structs.items r.ty) (types_are e o r k.0 3 p.structs.items),
          (
            is_closed_now (language_of p) at_.context.me e x h hx o r k.0,
            are_both (Is (language_of p) at_.context.me e) (distinct_from o ws) (walk.may_count p a x o ∷ []) (map (λ q. not (same_ref r q)) rs) (may_count at_ h r ∷ []) (not_same_are (language_of p) at_.context.me e o r k.0 ws rs earlier) (may_count_is (language_of p) at_.context.me at_ refl a e here x h hx o r k.0, tt),
          ),
        )),
    tests_are e here x h hx (ws ++ o ∷ []) (rs ++ r ∷ []) (r ∷ qs) (one_behind (language_of p) at_.context.me e ws rs o r earlier k.0) (λ q. in_behind q rs r ∙ ap (λ b. b || same_ref q r) (same q) ∙ turned (is_in q qs) (same_ref q r) ∙ sym (in_more q r qs)) os objects k.1,
  )
    where
      turned : (a b : Bool) → a || b ≡ b || a
      turned true true = refl
      turned true false = refl
      turned false true = refl
      turned false false = refl
