-- A function that ends a claim that is its own is locally safe.
use Rattle.std.proofs.Common.{◌≡◌, ℕ, zero, suc, ◌+◌, ◌==◌, Bool, true, false, not, ◌&&◌, ◌||◌, if◌then◌else◌, inl, inr, ⊎_elim, List, [], ◌∷◌, length, Some, nat_le, nat_lt, arith, refl, ap, sym, ◌∙◌, subst, eqb-true, true≢false}
use Rattle.std.proofs.lemmas.Bool.{le-ltb, or_cases, or_left, or_right}
use Rattle.object_types.specs.declared.references.Ref.{Ref}
use Rattle.object_types.specs.declared.values.Value.{Value}
use Rattle.object_types.specs.declared.values.Value.TheVariants.{Int, Ref as Refers}
use Rattle.object_types.specs.References.{thread, same_ref, is_null, is_claim}
use Rattle.object_types.specs.Values.{referent, says, truth}
use Rattle.object_types.specs.Sets.{every, is_in, all_distinct}
use Rattle.object_types.specs.Heap.{Heap, closed_in, wrapped}
use Rattle.method.specs.declared.program.CheckKind.TheVariants.{DestroyClaim, Invariant}
use Rattle.method.specs.declared.program.DeclaredType.TheVariants.{Pointer, Claim}
use Rattle.method.specs.declared.program.Expr.TheVariants as exprs
use Rattle.method.specs.declared.program.Simple.TheVariants.{EndClaim}
use Rattle.method.specs.declared.program.Action.{Action}
use Rattle.method.specs.declared.program.Action.TheVariants.{Simply}
use Rattle.method.specs.declared.program.Item.{Item}
use Rattle.method.specs.declared.program.Item.TheVariants.{Struct, Function}
use Rattle.method.specs.declared.program.VariableInfo.{VariableInfo}
use Rattle.method.specs.declared.program.StructInfo.{StructInfo}
use Rattle.method.specs.declared.program.FunctionInfo.{FunctionInfo}
use Rattle.method.specs.declared.program.Program.{Program}
use Rattle.method.specs.Tables.{in_type, is_struct, is_field_of, struct_of}
use Rattle.method.specs.Trace.{Memory, vec}
use Rattle.method.specs.Legal.{Good}
use Rattle.method.specs.Rely.{Rely}
use Rattle.method.specs.StableSet.{root}
use Rattle.method.specs.Invariants.{inv_holds, inv_scene, claim_holds, struct_holds}
use Rattle.method.specs.SpecValue.{is_exactly}
use Rattle.method.specs.Scopes.{Scoped, body_in, contract_in}
use Rattle.method.specs.Typing.{stmt_ok, of_content, is_field_range, is_type, returns_value, is_item, times, WellTyped}
use Rattle.method.specs.Machine.{begin, fit_parameters, in_types, requires_hold}
use Rattle.method.specs.Expressions.{Context, Spot as MachineSpot, Gives, Tested, check, check_spec, inv_test, is_listed, may_write}
use Rattle.method.specs.Actions as M
use Rattle.method.specs.Actions.{Chosen, act, callee, may_count, spot, starting}
use Rattle.method.specs.LocalRuns.{FailsAt, Anywhere, FailsBodyBy, AllLocalOk}
use Rattle.method.proofs.Global.{both_and, same_ref_self}
use Rattle.machine_laws.proofs.Heaps.{closed_not, in_more, in_none, in_one_self, wrapped_parts}
use Rattle.machine_laws.proofs.Typed.{ne_eqb, null_is, some_is}
use Rattle.conditions.specs.Quantified.{specs_quantifiers, struct_words}
use Rattle.condition_walks.specs.Conversions.{stmt_conversions_received}
use Rattle.condition_meaning.specs.Annotated.{Each, IsListed}
use Rattle.safe_counter.proofs.Lists.{of_one, of_struct, of_field}
use Rattle.conditions_law.specs.Texts.{TextFits}
use Rattle.converse_law.specs.Release.{release_struct, release_field, release_function, release_program}
use Rattle.converse_law.specs.Samples.{ReleaseIsLocallySafe}

none : (a b : Bool) → a ≡ false → b ≡ false → (if a then 1 else 0) + 0 ≡ (if b then 1 else 0)
none true b e f = absurd (cc)
none false true e f = absurd (cc)
none false false e f = refl

none_behind : (a b : Bool) → a ≡ false → b ≡ false → 0 + ((if a then 1 else 0) + 0) ≡ (if b then 1 else 0)
none_behind true b e f = absurd (cc)
none_behind false true e f = absurd (cc)
none_behind false false e f = refl

two_true : (a b : Bool) → (if a then (if b then true else false) else false) ≡ true → (a ≡ true) × (b ≡ true)
two_true true true h = (refl, refl)
two_true true false h = absurd (cc)
two_true false b h = absurd (cc)

three_true : (a b c : Bool) → (if truth (says a) then (if truth (says b) then (if truth (says c) then true else false) else false) else false) ≡ true → (a ≡ true) × (b ≡ true) × (c ≡ true)
three_true true true true h = (refl, refl, refl)
three_true true true false h = absurd (cc)
three_true true false c h = absurd (cc)
three_true false b c h = absurd (cc)

-- what is given fails nowhere, nor do checks that hold
none_fails : {A : Type 0} (label : ℕ) (a : A) → FailsAt label (Gives a) → ⊥
none_fails label a y = let z = y.2 in cc

last_passes : {A : Type 0} (label n : ℕ) (at_ : MachineSpot) (b : Bool) (a : A) → b ≡ true → FailsAt label (check at_ b n Invariant (Gives a)) → ⊥
last_passes label n at_ true a i y = none_fails label a y
last_passes label n at_ false a i y = absurd (cc)

three_pass : {A : Type 0} (label n k l : ℕ) (at_ : MachineSpot) (b c : Bool) (t : Tested) (a : A) → b ≡ true → c ≡ true → t.holds ≡ true → FailsAt label (check at_ b n DestroyClaim (check at_ c k DestroyClaim (check_spec at_ t l Invariant (Gives a)))) → ⊥
three_pass label n k l at_ true true t a i j h y = last_passes label l at_ t.holds a h (y.0, y.1, y.2)
three_pass label n k l at_ true false t a i j h y = absurd (cc)
three_pass label n k l at_ false c t a i j h y = absurd (cc)

module _ (m : Memory) where
  abbrev P : Program
  P = release_program m

  abbrev F : FunctionInfo
  F = release_function m

  -- Types, scopes and text.

  release_once : (i : Item) → times i P.items.items ≡ (if is_item P i then 1 else 0)
  release_once (Struct zero) = refl
  release_once (Struct (suc n)) = none (suc n == 0) (nat_lt (suc n) 1) (ne_eqb (suc n) 0 (λ e. absurd (omega (arith, e)))) (le-ltb (suc n) 1 (omega arith))
  release_once (Function zero) = refl
  release_once (Function (suc n)) = none_behind (suc n == 0) (nat_lt (suc n) 1) (ne_eqb (suc n) 0 (λ e. absurd (omega (arith, e)))) (le-ltb (suc n) 1 (omega arith))

  release_typed : WellTyped P
  release_typed = record {
    main = λ k e. subst (λ j. nat_lt j 1 ≡ true) e refl;
    parameters = of_one F (λ k f. nat_le f.parameters _ ≡ true) refl;
    bodies = of_one F (λ k f. every (stmt_ok P f k) f.body.items ≡ true) refl;
    returns = of_one F (λ k f. returns_value f.result f.body.items ≡ true) refl;
    variable_types = of_one F (λ k f. every (λ (v : VariableInfo). is_type P v.ty) f.variables.items ≡ true) refl;
    result_types = λ k f ty e r. of_one F (λ k f. f.result ≡ Some ty → is_type P ty ≡ true) (λ z. absurd (cc)) k f e r;
    fields = λ ty f s e. of_struct (release_struct m) (λ t u. is_field_of P f t ≡ is_field_range P t f u) (of_field (release_field m) refl f) ty s e;
    field_types = of_one (release_field m) (λ f i. is_type P i.ty ≡ true) refl;
    field_structs = of_one (release_field m) (λ f i. is_struct P i.of ≡ true) refl;
    invariants = of_struct (release_struct m) (λ ty s. (every of_content s.invariants.items ≡ true) × (every of_content s.mine.items ≡ true)) (refl, refl);
    sites = λ n s e. absurd (cc);
    sites_stand = λ n s e. absurd (cc);
    items = release_once;
  }

  release_scoped : Scoped P
  release_scoped = record {
    bodies = of_one F (λ k f. body_in P f [] f.body.items ≡ true) refl;
    contracts = of_one F (λ k f. contract_in P f ≡ true) refl;
  }

  release_fits : TextFits P
  release_fits = record {
    annotated = record { numbered = (refl, (refl, tt)); structs = refl; shapes = refl; functions = refl };
    members = refl;
    members_numbered = of_one (release_struct m) (λ n (s : StructInfo). Each P (IsListed P) (specs_quantifiers P s.mine.items struct_words)) tt;
    conversions = record { bodies = of_one F (λ k f. every stmt_conversions_received f.body.items ≡ true) refl };
  }

  -- Local runs.

  abbrev called : ℕ → Heap → List Value → Context
  called t h args = callee P 0 F (thread t) h args

  abbrev the_end : Action
  the_end = Simply (EndClaim 1 (exprs.Variable 0) (vec m (exprs.Variable 1 ∷ [])))

  -- what the contract says of a claim and an object
  record Own (t : Ref) (h : Heap) (c o : Ref) : Type 0 where
    claim : wrapped t h c ≡ true
    object : wrapped t h o ≡ true
    exact : is_exactly (h.get c).listed (o ∷ []) ≡ true

  -- it stays so while others act
  still_own : (t : Ref) (h k : Heap) (c o : Ref) → Rely P t h k → Own t h c o → Own t k c o
  still_own t h k c o rely own = record {
    claim = (rely.own_closed c own.claim).0;
    object = (rely.own_closed o own.object).0;
    exact = subst (λ (set : List Ref). is_exactly set (o ∷ []) ≡ true) (sym (rely.stable c (root own.claim)).0.listed) own.exact;
  }

  -- a claim's value that is closed isn't NULL
  names_claim : (t : Ref) (k : Heap) (c : Value) → Good P k → in_type Claim c ≡ true → wrapped t k (referent c) ≡ true → is_claim (referent c) ≡ true
  unfolding in_type
  names_claim t k (Int z) good is closed = absurd (cc)
  names_claim t k (Refers r) good is closed =
      ⊎_elim (λ n. absurd (closed_not (k.get r).mode (wrapped_parts t k r closed).0 (ap (λ (o : Ref). (k.get o).mode) (null_is r n) ∙ good.well_formed.no_null))) (λ n. n) (or_cases (is_null r) (is_claim r) is)

  -- the type has no invariant
  of_type : (r : Ref) (h j : Heap) (n : ℕ) → r.ty ≡ n → (if n == 2 then not (closed_in j r) || claim_holds P r j else struct_holds P (struct_of P n) (inv_scene r h j)) ≡ true → inv_holds P r h j ≡ true
  unfolding inv_holds
  of_type r h j n same holds = subst (λ (i : ℕ). (if i == 2 then not (closed_in j r) || claim_holds P r j else struct_holds P (struct_of P i) (inv_scene r h j)) ≡ true) (sym same) holds

  invariant_holds : (v : Value) (h j : Heap) → in_type (Pointer 3) v ≡ true → inv_holds P (referent v) h j ≡ true
  unfolding in_type
  invariant_holds (Int z) h j is = absurd (cc)
  invariant_holds (Refers r) h j is = ⊎_elim (λ n. of_type r h j 0 (ap (λ (o : Ref). o.ty) (null_is r n)) refl) (λ n. of_type r h j 3 (eqb-true r.ty 3 n) refl) (or_cases (is_null r) (r.ty == 3) is)

  end_passes : (t label : ℕ) (h k : Heap) (c v : Value) (choices : List Value) (news : List Ref) → in_type Claim c ≡ true → in_type (Pointer 3) v ≡ true → Good P k → Own (thread t) k (referent c) (referent v)
      → FailsAt label (act P (called t h (c ∷ v ∷ [])) choices (Chosen news) 5 the_end 1 k (c ∷ v ∷ [])) → ⊥
  unfolding act
  end_passes t label h k c v [] news is_c is_v good own y =
      let me = thread t in
      let at_ = spot (called t h (c ∷ v ∷ [])) [] 5 in
      let r = referent c in
      let o = referent v in
      let os = o ∷ [] in
      let j = M.ended P at_ r os k in
      let writes_r : may_write at_ r ≡ true = or_left (is_in r (r ∷ os)) _ (in_more r r os ∙ or_left (same_ref r r) (is_in r os) (same_ref_self r)) in
      let writes_o : may_write at_ o ≡ true = or_left (is_in o (r ∷ os)) _ (in_more o r os ∙ or_right (same_ref o r) (is_in o os) (in_one_self o)) in
      let once : all_distinct os ≡ true = ap (λ b. not b && true) (in_none o) in
      let exact : is_exactly (k.get r).listed os ≡ true = own.exact in
      let ends : M.may_end P at_ r os k ≡ true =
      both_and (is_claim r) (wrapped me k r && (may_write at_ r && (all_distinct os && is_exactly (k.get r).listed os))) (names_claim me k c good is_c own.claim)
      (both_and (wrapped me k r) (may_write at_ r && (all_distinct os && is_exactly (k.get r).listed os)) own.claim
      (both_and (may_write at_ r) (all_distinct os && is_exactly (k.get r).listed os) writes_r (both_and (all_distinct os) (is_exactly (k.get r).listed os) once exact))) in
      let owned : same_ref (k.get o).owner me ≡ true = subst (λ (q : Ref). same_ref q me ≡ true) (sym (wrapped_parts me k o own.object).1) (same_ref_self me) in
      let counts : may_count at_ k o ≡ true = or_left (same_ref (k.get o).owner me && may_write at_ o) (is_listed at_ (k.get o).owner) (both_and (same_ref (k.get o).owner me) (may_write at_ o) owned writes_o) in
      three_pass label 1 2 3 at_ (M.may_end P at_ r os k) (may_count at_ k o) (inv_test P o k j) (record (starting k (c ∷ v ∷ []) (Chosen news)) { heap = j; changed = M.deferred_from 0 os }) ends counts (invariant_holds v k j is_v) y
  end_passes t label h k c v (w ∷ ws) news is_c is_v good own y = let z = y.2 in cc

  body_passes : (t label : ℕ) (h : Heap) (args : List Value) → fit_parameters F args ≡ true → requires_hold P F (thread t) h args ≡ true → FailsBodyBy P (called t h args) F (Anywhere P (thread t)) label F.body.items 1 h (begin P (called t h args)).locals → ⊥
  body_passes t label h [] fits requires y = absurd (true≢false (sym fits))
  body_passes t label h (c ∷ []) fits requires y = absurd (true≢false (sym fits))
  body_passes t label h (c ∷ v ∷ w ∷ vs) fits requires y = absurd (true≢false (sym fits ∙ ap (λ b. if b then in_types F.variables.items (c ∷ v ∷ w ∷ vs) else false) (ne_eqb (suc (suc (suc (length vs)))) 2 (λ i. absurd (omega (arith, i))))))
  body_passes t label h (c ∷ v ∷ []) fits requires (inl y) =
      let typed = two_true (in_type Claim c) (in_type (Pointer 3) v) fits in
      let said = three_true (wrapped (thread t) h (referent c)) (wrapped (thread t) h (referent v)) (is_exactly (h.get (referent c)).listed (referent v ∷ [])) requires in
      let own : Own (thread t) h (referent c) (referent v) = record { claim = said.0; object = said.1; exact = said.2 } in
      end_passes t label h y.0 c v y.1 y.2 typed.0 typed.1 y.3.after (still_own (thread t) h y.0 (referent c) (referent v) y.3 own) y.4
  body_passes t label h (c ∷ v ∷ []) fits requires (inr y) = none_fails label tt y.3.2

  release_local_ok : AllLocalOk P
  release_local_ok zero label f is t h args good fits requires y =
      let same : F ≡ f = some_is F f is in
      body_passes t label h args (subst (λ (g : FunctionInfo). fit_parameters g args ≡ true) (sym same) fits) (subst (λ (g : FunctionInfo). requires_hold P g (thread t) h args ≡ true) (sym same) requires)
      (subst (λ (g : FunctionInfo). FailsBodyBy P (callee P 0 g (thread t) h args) g (Anywhere P (thread t)) label g.body.items 1 h (begin P (callee P 0 g (thread t) h args)).locals) (sym same) y)
  release_local_ok (suc n) label f is t h args good fits requires y = absurd (cc)

pub release_is_locally_safe : ReleaseIsLocallySafe
release_is_locally_safe m = ((release_typed m, release_scoped m, release_fits m), (λ n site is. absurd (cc)), release_local_ok m)
