-- A function that passes an object that is its own to a new thread is locally safe.
use Rattle.std.proofs.Common.{◌≡◌, ℕ, zero, suc, nat_le, nat_lt, Bool, true, false, not, ◌&&◌, if◌then◌else◌, inl, inr, List, [], ◌∷◌, ◌++◌, length, Some, arith, refl, ap, sym, ◌∙◌, subst, true≢false}
use Rattle.int_ranges.specs.declared.ctype.CType.TheVariants.{Int as SignedInt}
use Rattle.object_types.specs.declared.references.Ref.{Ref}
use Rattle.object_types.specs.declared.values.Value.{Value}
use Rattle.object_types.specs.References.{thread, is_thread, same_ref}
use Rattle.object_types.specs.Values.{referent, says, truth}
use Rattle.object_types.specs.Sets.{every, is_in}
use Rattle.object_types.specs.Heap.{Heap, Record, closed_in, hand_over, is_closed, is_idle, wrapped}
use Rattle.method.specs.declared.program.CheckKind.TheVariants.{Spawn}
use Rattle.method.specs.declared.program.DeclaredType.TheVariants.{Integer}
use Rattle.method.specs.declared.program.FieldInfo.{FieldInfo}
use Rattle.method.specs.declared.program.FunctionInfo.{FunctionInfo}
use Rattle.method.specs.declared.program.Item.{Item}
use Rattle.method.specs.declared.program.Item.TheVariants.{Struct, Function}
use Rattle.method.specs.declared.program.Program.{Program}
use Rattle.method.specs.declared.program.StructInfo.{StructInfo}
use Rattle.method.specs.declared.program.VariableInfo.{VariableInfo}
use Rattle.method.specs.Tables.{is_struct, is_field_of}
use Rattle.method.specs.Trace.{Memory, vec}
use Rattle.method.specs.Scopes.{Scoped, body_in, contract_in}
use Rattle.method.specs.Typing.{WellTyped, stmt_ok, of_content, is_field_range, is_type, returns_value, is_item, times}
use Rattle.method.specs.Machine.{begin, fit_parameters, in_types, requires_hold}
use Rattle.method.specs.Expressions.{Context, Outcome, Spot as MachineSpot, Gives, Unfit, after, check, may_write}
use Rattle.method.specs.Actions.{Chosen, Progress, Took, act, callee, spot, started, starting, take_thread}
use Rattle.method.specs.LocalRuns.{FailsAt, Anywhere, FailsBodyBy, AllLocalOk}
use Rattle.method.proofs.Global.{and_both, both_and, same_ref_self}
use Rattle.machine_laws.proofs.Heaps.{hand_in, in_one_self}
use Rattle.machine_laws.proofs.Typed.{ne_eqb}
use Rattle.conditions.specs.Quantified.{specs_quantifiers, struct_words}
use Rattle.condition_walks.specs.Conversions.{stmt_conversions_received}
use Rattle.condition_meaning.specs.Annotated.{Each, IsListed}
use Rattle.safe_counter.proofs.Lists.{of_one, of_struct, of_field}
use Rattle.conditions_law.proofs.Samples.{store_is_verifiable}
use Rattle.conditions_law.specs.Texts.{TextFits}
use Rattle.converse_law.proofs.Samples.{none_fails, or_left, if_true}
use Rattle.converse_law.specs.Samples.{StartIsLocallySafe, start_function, start_program, the_start}

-- behind a check that holds
one_passes : {A : Type 0} (label n : ℕ) (at_ : MachineSpot) (b : Bool) (o : Outcome A) → b ≡ true → FailsAt label (check at_ b n Spawn o) → FailsAt label o
one_passes label n at_ true o is y = y
one_passes label n at_ false o is y = absurd (cc)

-- a thread that is taken, or isn't
by_thread : {A : Type 0} (label : ℕ) (b : Bool) (w : Took) (g : Took → Outcome A) → (FailsAt label (g w) → ⊥) → FailsAt label (after (if b then Gives {A = Took} w else Unfit) g) → ⊥
by_thread label true w g out y = out y
by_thread label false w g out y = let z = y.2 in cc

said : (b : Bool) → b ≡ true → truth (says b) ≡ true
said true is = refl
said false is = absurd (cc)

module _ (m : Memory) where
  abbrev P : Program
  P = start_program m

  abbrev F : FunctionInfo
  F = start_function m

  -- Its text.

  abbrev field : FieldInfo
  field = record { name = m.text; of = 3; ty = Integer SignedInt; is_volatile = false; is_ghost = false; is_approved = false }

  abbrev struct : StructInfo
  struct = record { name = m.text; line = 1; is_claimable = false; has_dynamic_owns = false; has_volatile_owns = false; first_field = 0; fields = 1; has_approval = false; invariants = vec m []; mine = vec m [] }

  start_once : (i : Item) → times i P.items.items ≡ (if is_item P i then 1 else 0)
  start_once (Struct n) = let w = (store_is_verifiable m).0 in w.items (Struct n)
  start_once (Function n) = let w = (store_is_verifiable m).0 in w.items (Function n)

  start_typed : WellTyped P
  start_typed = record {
    main = λ k e. subst (λ j. nat_lt j 1 ≡ true) e refl;
    parameters = of_one F (λ k f. nat_le f.parameters (length f.variables.items) ≡ true) refl;
    bodies = of_one F (λ k f. every (stmt_ok P f k) f.body.items ≡ true) refl;
    returns = of_one F (λ k f. returns_value f.result f.body.items ≡ true) refl;
    variable_types = of_one F (λ k f. every (λ (v : VariableInfo). is_type P v.ty) f.variables.items ≡ true) refl;
    result_types = λ k f ty e r. of_one F (λ k f. f.result ≡ Some ty → is_type P ty ≡ true) (λ z. absurd (cc)) k f e r;
    fields = λ ty f s e. of_struct struct (λ t u. is_field_of P f t ≡ is_field_range P t f u) (of_field field refl f) ty s e;
    field_types = of_one field (λ f i. is_type P i.ty ≡ true) refl;
    field_structs = of_one field (λ f i. is_struct P i.of ≡ true) refl;
    invariants = of_struct struct (λ ty s. (every of_content s.invariants.items ≡ true) × (every of_content s.mine.items ≡ true)) (refl, refl);
    sites = λ n s e. absurd (cc);
    sites_stand = λ n s e. absurd (cc);
    items = start_once;
  }

  start_scoped : Scoped P
  start_scoped = record {
    bodies = of_one F (λ k f. body_in P f [] f.body.items ≡ true) refl;
    contracts = of_one F (λ k f. contract_in P f ≡ true) refl;
  }

  start_fits : TextFits P
  start_fits = record {
    annotated = record { numbered = tt; structs = refl; shapes = refl; functions = refl };
    members = refl;
    members_numbered = of_one struct (λ n s. Each P (IsListed P) (specs_quantifiers P s.mine.items struct_words)) tt;
    conversions = record { bodies = of_one F (λ k f. every stmt_conversions_received f.body.items ≡ true) refl };
  }

  -- Its runs.

  abbrev called : ℕ → Heap → List Value → Context
  called t h args = callee P 0 F (thread t) h args

  -- what passes to a thread is wrapped there
  passes_wrapped : (t : ℕ) (k : Heap) (o u : Ref) → wrapped (thread t) k o ≡ true → wrapped u (hand_over k (o ∷ []) u) o ≡ true
  passes_wrapped t k o u is =
      subst (λ (r : Record). (is_closed r.mode && same_ref r.owner u) ≡ true) (sym (hand_in k (o ∷ []) u o (in_one_self o)))
      (both_and (is_closed (k.get o).mode) (same_ref u u) (and_both (closed_in k o) (same_ref (k.get o).owner (thread t)) is).0 (same_ref_self u))

  start_passes : (t label : ℕ) (h k : Heap) (v : Value) (choices : List Value) (news : List Ref) → wrapped (thread t) k (referent v) ≡ true → FailsAt label (act P (called t h (v ∷ [])) choices (Chosen news) 2 (the_start m) 1 k (v ∷ [])) → ⊥
  unfolding act
  start_passes t label h k v [] news is y =
      let at_ = spot (called t h (v ∷ [])) [] 2 in
      let o = referent v in
      let g = starting k (v ∷ []) (Chosen news) in
      by_news news (λ (w : Took). started P at_ 0 F (v ∷ []) (o ∷ []) w.which w.supply 2 g)
      (λ w z.
      let h1 = hand_over k (o ∷ []) w.which in
      let done : Progress = record g { heap = h1; supply = w.supply; started = g.started ++ (callee P 0 F w.which h1 (v ∷ []) ∷ []) } in
      none_fails label done (one_passes label 2 at_ (truth (says (wrapped w.which h1 o))) (Gives done) (said (wrapped w.which h1 o) (passes_wrapped t k o w.which is)) z))
      (one_passes label 1 at_ (wrapped (thread t) k o && may_write at_ o) (after (take_thread (Chosen news) (thread t) k) (λ (w : Took). started P at_ 0 F (v ∷ []) (o ∷ []) w.which w.supply 2 g))
      (both_and (wrapped (thread t) k o) (may_write at_ o) is (or_left (is_in o (o ∷ [])) (not (same_ref (h.get o).owner (thread t))) (in_one_self o))) y)
    where
      by_news : (rs : List Ref) (r : Took → Outcome Progress) → ((w : Took) → FailsAt label (r w) → ⊥) → FailsAt label (after (take_thread (Chosen rs) (thread t) k) r) → ⊥
      by_news [] r out z = let i = z.2 in cc
      by_news (u ∷ us) r out z = by_thread label (is_thread u && (not (same_ref u (thread t)) && is_idle k u.serial)) (record { which = u; supply = Chosen us }) r (out (record { which = u; supply = Chosen us })) z
  start_passes t label h k v (c ∷ cs) news is y = let z = y.2 in cc

  body_passes : (t label : ℕ) (h : Heap) (args : List Value) → fit_parameters F args ≡ true → requires_hold P F (thread t) h args ≡ true → FailsBodyBy P (called t h args) F (Anywhere P (thread t)) label F.body.items 1 h (begin P (called t h args)).locals → ⊥
  body_passes t label h [] fits requires y = absurd (true≢false (sym fits))
  body_passes t label h (v ∷ w ∷ vs) fits requires y = absurd (true≢false (sym fits ∙ ap (λ b. if b then in_types F.variables.items (v ∷ w ∷ vs) else false) (ne_eqb (suc (suc (length vs))) 1 (λ i. absurd (omega (arith, i))))))
  body_passes t label h (v ∷ []) fits requires (inl y) = let kept = y.3.own_closed (referent v) (if_true (wrapped (thread t) h (referent v)) requires) in start_passes t label h y.0 v y.1 y.2 kept.0 y.4
  body_passes t label h (v ∷ []) fits requires (inr y) = none_fails label tt y.3.2

  start_local_ok : AllLocalOk P
  start_local_ok zero label f is t h args good fits requires y =
      let same : F ≡ f = some_is F f is in
      body_passes t label h args (subst (λ (g : FunctionInfo). fit_parameters g args ≡ true) (sym same) fits) (subst (λ (g : FunctionInfo). requires_hold P g (thread t) h args ≡ true) (sym same) requires)
      (subst (λ (g : FunctionInfo). FailsBodyBy P (callee P 0 g (thread t) h args) g (Anywhere P (thread t)) label g.body.items 1 h (begin P (callee P 0 g (thread t) h args)).locals) (sym same) y)
    where
      some_is : (f g : FunctionInfo) → Some f ≡ Some g → f ≡ g
      some_is f g e = cc
  start_local_ok (suc n) label f is t h args good fits requires y = absurd (cc)

pub start_is_locally_safe : StartIsLocallySafe
start_is_locally_safe m = ((start_typed m, start_scoped m, start_fits m), (λ n site is. absurd (cc)), start_local_ok m)
