-- Each action that passes its checks is legal, and leaves values of their types.
use Rattle.std.proofs.Common.{◌≡◌, ℕ, zero, suc, ◌+◌, Bool, true, false, cond, not, ◌&&◌, ◌||◌, ◌==◌, ⊎_elim, refl, sym, ap, ◌∙◌, subst, List, [], ◌∷◌, ◌++◌, take, length, Option, Some, None, slice_get, slice_set, ◌≤◌, arith}
use Rattle.object_types.specs.declared.references.Ref.{Ref}
use Rattle.object_types.specs.declared.values.Value.{Value}
use Rattle.method.specs.declared.program.CheckKind.TheVariants.{Assert, Spawn}
use Rattle.method.specs.declared.program.Expr.{Expr}
use Rattle.method.specs.declared.program.Spec.{Spec}
use Rattle.method.specs.declared.program.Target.TheVariants.{Local}
use Rattle.method.specs.declared.program.Action.{Action}
use Rattle.method.specs.declared.program.Action.TheVariants.{Simply, Declare, Define, WrapObject, UnwrapObject, AssertSpec, FreeObject, SpawnThread, Atomic}
use Rattle.method.specs.declared.program.Listed.{Listed}
use Rattle.method.specs.declared.program.VariableInfo.{VariableInfo}
use Rattle.method.specs.declared.program.FunctionInfo.{FunctionInfo}
use Rattle.method.specs.declared.program.Program.{Program}
use Rattle.object_types.specs.References.{same_ref, is_null, is_thread, is_claim}
use Rattle.object_types.specs.Values.{referent}
use Rattle.object_types.specs.Sets.{every, is_in}
use Rattle.object_types.specs.Heap.{Heap, hand_over, closed_in, wrapped, is_idle, idle_from}
use Rattle.method.specs.Tables.{local, in_type, is_struct, type_of_variable, kind_of_variable}
use Rattle.method.specs.SpecValue.{Scene, value}
use Rattle.method.specs.Invariants.{Inv}
use Rattle.method.specs.Legal.{Legal}
use Rattle.method.specs.Machine.{in_types, fit_parameters}
use Rattle.method.specs.Typing.{fits, values, has_type, is_ref, is_pointer, point_to, right_values, simple_ok, inner_ok, is_claim_expr, args_fit, call_ok, action_ok, WellTyped}
use Rattle.method.specs.Expressions.{Unfit, Gives, weighed, Context, Spot, Tested, spec_test, item_tests, clause_tests, is_listed, may_write, after, eval, eval_all, checks, all_checks, scene, call_scene}
use Rattle.method.specs.Actions.{InLocal, Supply, Fresh, Chosen, Picked, Progress, Took, no_tally, take_thread, items_of, items_overflow, started, spawn, run_simple, right_side, right_checks, store, wrap_object, unwrap_object, free, atomic, run_action, no_choices, one_fits, action_fits, spot, starting, act, callee}
use Rattle.method.proofs.Global.{and_both, same_ref_is, same_ref_self}
use Rattle.machine_laws.proofs.Outcomes.{OnGave, after_gave, after_any, check_spec_gave, check_specs_gave, end_map, fitting_gave}
use Rattle.machine_laws.proofs.Typed.{not_both, or_cases, null_is, some_is, struct_type, is_of, to_type, pointer_at, typed_set, Env, eval_of, or_left, or_right, struct_no_claim}
use Rattle.machine_laws.proofs.Heaps.{in_more, in_none}
use Rattle.machine_laws.proofs.Parts.{legal_by, Unopened, onward_unopened, same_unopened}
use Rattle.machine_laws.proofs.Steps.{noted, tested_by, none_new}
use Rattle.machine_laws.proofs.Claims.{Right, variable_at}
use Rattle.machine_laws.proofs.Simple.{test_some, takes_some, variable_inversion, right_gave, assigned_gave, Done, simple_gave}
use Rattle.machine_laws.proofs.Blocks.{Whole, atomic_gave}
use Rattle.machine_laws.proofs.Objects.{Acted, rests, wrap_gave, unwrap_gave, free_gave, passed_well_formed, passed_legal, passed_apart, passed_unopened}
use Rattle.machine_laws.proofs.Apart.{Apart, apart_same, apart_more}

-- a context that a new thread may begin with
pub record IsBegun (p : Program) (x : Context) : Type 0 where
  pub info : FunctionInfo
  pub is : slice_get p.functions.items x.function ≡ Some info
  pub thread : is_thread x.me ≡ true
  pub args : fit_parameters info x.args ≡ true

abbrev pub AllBegun : Program → List Context → Type 0
AllBegun p [] = Unit {0}
AllBegun p (x ∷ xs) = IsBegun p x × AllBegun p xs

-- what an action of a function's run does
-- the threads that begin
abbrev pub among : List Context → Ref → Bool
among [] w = false
among (x ∷ xs) w = same_ref w x.me || among xs w

-- a new thread's number is no less than the supply says
abbrev pub FromSupply : Supply → ℕ → Type 0
FromSupply (Fresh n) m = n ≤ m
FromSupply (Chosen rs) m = Unit {0}
FromSupply (Picked n rs) m = n ≤ m

pub record Event (p : Program) (f : FunctionInfo) (x : Context) (s : Supply) (g g' : Progress) : Type 0 where
  pub ready : Env p f g'.heap g'.locals
  pub legal : ((o : Ref) → closed_in g.heap o ≡ true → Inv p o g.heap g.heap) → Legal p g.heap g'.heap
  pub apart : (o : Ref) → Apart p x (among g'.started) o (g.heap.get o) (g'.heap.get o)
  pub unopened : Unopened g.heap g'.heap
  pub started : AllBegun p g'.started
  pub numbers : (w : Ref) → among g'.started w ≡ true → FromSupply s w.serial

take_none : (n : ℕ) → take {A = VariableInfo} n [] ≡ []
take_none zero = refl
take_none (suc n) = refl

in_types_take : (n : ℕ) (vs : List VariableInfo) (args : List Value) → in_types (take n vs) args ≡ true → in_types vs args ≡ true
in_types_take n vs [] e = refl
in_types_take n [] (a ∷ args) e = subst (λ (xs : List VariableInfo). in_types xs (a ∷ args) ≡ true) (take_none n) e
in_types_take zero (v ∷ vs) (a ∷ args) e = absurd (cc)
in_types_take (suc n) (v ∷ vs) (a ∷ args) e = by (in_type v.ty a) e (in_types_take n vs args)
  where
    by : (b : Bool) → cond b (in_types (take n vs) args) false ≡ true → (in_types (take n vs) args ≡ true → in_types vs args ≡ true) → cond b (in_types vs args) false ≡ true
    by true e more = more e
    by false e more = absurd (cc)

some_info : (a b : FunctionInfo) → Some a ≡ Some b → a ≡ b
some_info a b e = some_is a b e

pub fit_from : (g : FunctionInfo) (args : List Value) → (length args == g.parameters) ≡ true → in_types g.variables.items args ≡ true → fit_parameters g args ≡ true
fit_from g args e t = ap (λ b. cond b (in_types g.variables.items args) false) e ∙ t

module _ (p : Program) (typed : WellTyped p) (f : FunctionInfo) (at_ : Spot) (thread : is_thread at_.context.me ≡ true) where
  pub args_gave :
      (g : Progress) → Env p f g.heap g.locals → (vs : List VariableInfo) (es : List Expr) (n : ℕ) → args_fit p f vs es ≡ true →
      OnGave (eval_all p at_ g.heap g.locals es n) (λ args. (in_types vs args ≡ true) × (length args ≡ length es))
  args_gave g env vs [] n e = (refl, refl)
  args_gave g env [] (x ∷ xs) n e = absurd (cc)
  args_gave g env (v ∷ vs) (x ∷ xs) n e =
      let b = and_both (has_type p f x v.ty) (args_fit p f vs xs) e in
      let t = test_some p f (values p f x) (λ w. fits w v.ty) b.0 in
      let Q : List Value → Type 0 = λ args. (in_types (v ∷ vs) args ≡ true) × (length args ≡ length (x ∷ xs)) in
      after_gave (eval p at_ g.heap g.locals x n) (λ a. after (eval_all p at_ g.heap g.locals xs (n + checks x)) (λ as_. Gives (a ∷ as_)))
      (λ a. is_of p t.0 a ≡ true) Q (eval_of p typed f at_ g.heap g.locals env x t.0 t.1 n) (λ a i.
      after_gave (eval_all p at_ g.heap g.locals xs (n + checks x)) (λ as_. Gives (a ∷ as_)) (λ args. (in_types vs args ≡ true) × (length args ≡ length xs)) Q
      (args_gave g env vs xs (n + checks x) b.1) (λ args j.
      (ap (λ b. cond b (in_types vs args) false) (to_type p t.0 v.ty a t.2 i) ∙ j.0, ap suc j.1)))

  pub call_args :
      (g : Progress) → Env p f g.heap g.locals → (h : FunctionInfo) (es : List Expr) (n : ℕ) → call_ok p f (Some h) es ≡ true →
      OnGave (eval_all p at_ g.heap g.locals es n) (λ args. fit_parameters h args ≡ true)
  call_args g env h es n e =
      let b = and_both (length es == h.parameters) (args_fit p f (take h.parameters h.variables.items) es) e in
      end_map (eval_all p at_ g.heap g.locals es n).end (λ args. (in_types (take h.parameters h.variables.items) args ≡ true) × (length args ≡ length es)) (λ args. fit_parameters h args ≡ true)
      (λ args y. fit_from h args (ap (λ m. m == h.parameters) y.1 ∙ b.0) (in_types_take h.parameters h.variables.items args y.0))
      (args_gave g env (take h.parameters h.variables.items) es n b.1)

pub record TakenThread (s : Supply) (t : Took) : Type 0 where
  pub is : is_thread t.which ≡ true
  pub number : FromSupply s t.which.serial

pub idle_above : (tries : ℕ) (h : Heap) (n : ℕ) → n ≤ idle_from tries h n
idle_above zero h n = omega arith
idle_above (suc tries) h n = by (is_idle h n) (idle_above tries h (n + 1))
  where
    by : (b : Bool) → n + 1 ≤ idle_from tries h (n + 1) → n ≤ cond b n (idle_from tries h (n + 1))
    by true l = omega arith
    by false l = omega (arith, l)

take_thread_gave : (s : Supply) (me : Ref) (h : Heap) → OnGave (take_thread s me h) (TakenThread s)
take_thread_gave (Fresh n) me h = record { is = refl; number = idle_above (suc (length h.support)) h n }
take_thread_gave (Picked n rs) me h = record { is = refl; number = idle_above (suc (length h.support)) h n }
take_thread_gave (Chosen []) me h = tt
take_thread_gave (Chosen (r ∷ rs)) me h = by (is_thread r && (not (same_ref r me) && is_idle h r.serial)) refl
  where
    by : (b : Bool) → is_thread r && (not (same_ref r me) && is_idle h r.serial) ≡ b → OnGave (cond b (Gives (record { which = r; supply = Chosen rs })) Unfit) (TakenThread (Chosen (r ∷ rs)))
    by true e = record { is = (and_both (is_thread r) (not (same_ref r me) && is_idle h r.serial) e).0; number = tt }
    by false e = tt

among_last : (xs : List Context) (x : Context) → among (xs ++ (x ∷ [])) x.me ≡ true
among_last [] x = or_left (same_ref x.me x.me) false (same_ref_self x.me)
among_last (y ∷ ys) x = or_right (same_ref x.me y.me) (among (ys ++ (x ∷ [])) x.me) (among_last ys x)

among_one : (xs : List Context) (x : Context) → xs ≡ [] → (w : Ref) → among (xs ++ (x ∷ [])) w ≡ true → w ≡ x.me
among_one xs x e w i = ⊎_elim (λ s. same_ref_is w x.me s) (λ z. absurd (cc)) (or_cases (same_ref w x.me) false (sym (ap (λ (ys : List Context). among (ys ++ (x ∷ [])) w) e) ∙ i))

module _ (p : Program) (typed : WellTyped p) (f : FunctionInfo) (k : ℕ) (fis : slice_get p.functions.items k ≡ Some f) (at_ : Spot) (out : at_.inside ≡ false)
    (thread : is_thread at_.context.me ≡ true) (g : Progress) (env : Env p f g.heap g.locals) (clean : (o : Ref) → noted g.changed o || noted g.made o ≡ true → ⊥) (none : g.started ≡ []) where
  abbrev EventAt : Supply → Progress → Type 0
  EventAt s g' = Event p f at_.context s g g'

  abbrev EventOf : Progress → Type 0
  EventOf g' = EventAt g.supply g'

  none_numbers : (s : Supply) (g' : Progress) → g'.started ≡ g.started → (w : Ref) → among g'.started w ≡ true → FromSupply s w.serial
  none_numbers s g' e w i = absurd (cc (ap (λ (xs : List Context). among xs w) (e ∙ none), i))

  all_apart : (g' : Progress) → ((o : Ref) → Apart p at_.context none_new o (g.heap.get o) (g'.heap.get o)) → (o : Ref) → Apart p at_.context (among g'.started) o (g.heap.get o) (g'.heap.get o)
  all_apart g' a o = apart_more p at_.context none_new (among g'.started) o (g.heap.get o) (g'.heap.get o) (λ w e. refl) (a o)

  none_begun : (g' : Progress) → g'.started ≡ g.started → AllBegun p g'.started
  none_begun g' e = subst (AllBegun p) (sym (e ∙ none)) tt

  pub of_acted : (s : Supply) (g' : Progress) → Acted p f at_.context g g' → EventAt s g'
  of_acted s g' a = record { ready = a.ready; legal = a.legal; apart = all_apart g' a.apart; unopened = a.unopened; started = none_begun g' a.started; numbers = none_numbers s g' a.started }

  of_whole : (s : Supply) (g' : Progress) → Whole p f at_.context g g' → EventAt s g'
  of_whole s g' a = record { ready = a.ready; legal = λ good. a.legal; apart = all_apart g' a.apart; unopened = a.unopened; started = none_begun g' a.started; numbers = none_numbers s g' a.started }

  not_listed : (o : Ref) → is_listed at_ o ≡ false
  not_listed o = ap (λ b. b && is_in o at_.listed) out

  pub of_done : (s : Supply) (g' : Progress) → Done p typed f at_ thread g g' → EventAt s g'
  of_done s g' d = record {
    ready = d.fine.ready;
    legal = λ good. legal_by p (is_listed at_) (tested_by (is_listed at_) g') g.heap g'.heap env.heap d.fine.ready.heap d.fine.parts
        (λ o e. ⊎_elim
        (λ a. absurd (not_both (is_listed at_ o) (and_both (is_listed at_ o) (not (is_claim o)) a).0 (not_listed o)))
        (λ a. d.tests out clean o a)
        (or_cases (is_listed at_ o && not (is_claim o)) (noted g'.changed o || noted g'.made o) e))
        (λ o e c. absurd (not_both (is_listed at_ o) e (not_listed o)));
    apart = all_apart g' d.fine.apart;
    unopened = λ o c e. onward_unopened o (g.heap.get o) (g'.heap.get o) (d.fine.onward o) e;
    started = none_begun g' d.fine.started;
    numbers = none_numbers s g' d.fine.started;
  }

  items_mine :
      (f2 : Scene) (es : List Spec) (q : Ref) → every (λ (t : Tested). t.holds) (item_tests p (λ o. wrapped at_.context.me g.heap o && may_write at_ o) es f2) ≡ true →
      is_in q (items_of p es f2) ≡ true → (wrapped at_.context.me g.heap q ≡ true) × (may_write at_ q ≡ true)
  items_mine s [] q e i = absurd (cc (in_none q))
  items_mine s (x ∷ xs) q e i =
      let r = referent (value p x s) in
      let b = and_both (wrapped at_.context.me g.heap r && may_write at_ r) (every (λ (t : Tested). t.holds) (item_tests p (λ o. wrapped at_.context.me g.heap o && may_write at_ o) xs s)) e in
      ⊎_elim (λ z. subst (λ (y : Ref). (wrapped at_.context.me g.heap y ≡ true) × (may_write at_ y ≡ true)) (sym (same_ref_is q r z))
      (and_both (wrapped at_.context.me g.heap r) (may_write at_ r) b.0))
      (λ j. items_mine s xs q b.1 j) (or_cases (same_ref q r) (is_in q (items_of p xs s)) (sym (in_more q r (items_of p xs s)) ∙ i))

  begun_more : (xs : List Context) (x : Context) → xs ≡ [] → IsBegun p x → AllBegun p (xs ++ (x ∷ []))
  begun_more xs x e b = subst (λ (ys : List Context). AllBegun p (ys ++ (x ∷ []))) (sym e) (b, tt)

  spawn_gave :
      (num : ℕ) (o : Option FunctionInfo) (args : List Value) (n : ℕ) → slice_get p.functions.items num ≡ o →
      ((h : FunctionInfo) → o ≡ Some h → fit_parameters h args ≡ true) → OnGave (spawn p at_ num o args n g) EventOf
  spawn_gave num None args n is fit = tt
  spawn_gave num (Some h) args n is fit =
      let me = at_.context.me in
      let s = call_scene me g.heap args in
      let items = items_of p h.writes.items s in
      check_specs_gave at_ (item_tests p (λ o. wrapped me g.heap o && may_write at_ o) h.writes.items s) n Spawn
      (after (take_thread g.supply me g.heap) (λ t. started p at_ num h args items t.which t.supply (n + length items) g)) EventOf (λ e.
      after_gave (take_thread g.supply me g.heap) (λ t. started p at_ num h args items t.which t.supply (n + length items) g) (TakenThread g.supply) EventOf
      (take_thread_gave g.supply me g.heap) (λ t new.
      let u = t.which in
      let h1 = hand_over g.heap items u in
      let x : Context = callee p num h u h1 args in
      let mine : (q : Ref) → is_in q items ≡ true → wrapped me g.heap q ≡ true = λ q i. (items_mine s h.writes.items q e i).0 in
      check_specs_gave at_ (clause_tests p h.requires_.items (call_scene u h1 args)) (n + length items) Spawn
      (weighed (items_overflow p h.writes.items (call_scene u h1 args)) (Gives (record g { heap = h1; supply = t.supply; started = g.started ++ (x ∷ []) }))) EventOf (λ r.
      record {
        ready = record { heap = passed_well_formed p typed f at_ thread g env items u new.is mine; types = env.types; locals = env.locals };
        legal = λ good. passed_legal p typed f at_ thread g env items u new.is mine;
        unopened = passed_unopened p typed f at_ thread g env items u new.is mine;
        apart = passed_apart p typed f at_ thread g env items u new.is mine (among (g.started ++ (x ∷ []))) (among_last g.started x) (λ q i. (items_mine s h.writes.items q e i).1);
        numbers = λ w i. subst (λ (y : Ref). FromSupply g.supply y.serial) (sym (among_one g.started x none w i)) new.number;
        started = begun_more g.started x none (record { info = h; is = is; thread = new.is; args = fit h refl });
      })))

  null_no_claim : (o : Ref) → is_null o ≡ true → is_claim o ≡ false
  null_no_claim o e = ap is_claim (null_is o e)

  pub action_gave : (a : Action) (n : ℕ) → action_fits p k a at_.choices ≡ true → action_ok p f k a ≡ true → OnGave (run_action p at_ a n g) EventOf
  action_gave (Simply s) n fit e =
      end_map (run_simple p at_ s n no_tally g).end (Done p typed f at_ thread g) EventOf (of_done g.supply)
      (simple_gave p typed f at_ thread g env (λ o i c. absurd (not_both (is_listed at_ o) i (not_listed o))) k fis s n no_tally (λ z. fit) (subst (λ b. simple_ok p f k b s ≡ true) (sym out) e))
  action_gave (Declare i) n fit e =
      let w = variable_at f.variables.items i e in
      let ty : type_of_variable f i ≡ w.0.ty = ap kind_of_variable w.1 in
      declared_gave at_.choices (subst (λ o. one_fits o i at_.choices ≡ true) fis fit) w.0 w.1 ty
    where
      declared_gave :
          (vs : List Value) → one_fits (Some f) i vs ≡ true → (w : VariableInfo) → slice_get f.variables.items i ≡ Some w → type_of_variable f i ≡ w.ty →
          EventOf (record g { locals = slice_set g.locals i (local vs 0) })
      declared_gave [] fit w is ty = absurd (cc)
      declared_gave (v ∷ vs) fit w is ty = record {
        ready = record {
          heap = env.heap;
          types = env.types;
          locals = typed_set f.variables.items g.locals i w v env.locals is
              (subst (λ t. in_type t v ≡ true) ty (and_both (in_type (type_of_variable f i) v) (no_choices vs) fit).0);
        };
        legal = λ good. rests p g.heap env.heap;
        apart = λ o. apart_same p at_.context (among g.started) o (g.heap.get o);
        unopened = λ o c e. same_unopened (g.heap.get o) (g.heap.get o) refl e;
        started = none_begun g refl;
        numbers = none_numbers g.supply g refl;
      }
  action_gave (Define i r) n fit e =
      let vs = takes_some p typed f at_ thread (Local i) (right_values p f k false r) e in
      let lists : (o : Ref) → is_listed at_ o ≡ true → is_claim o ≡ false → closed_in g.heap o ≡ true = λ o j c. absurd (not_both (is_listed at_ o) j (not_listed o)) in
      after_gave (right_side p at_ r (InLocal i) n no_tally g) (λ v. store p at_ (InLocal i) v.value (n + right_checks p false r) v.starting) (Right p f at_ (InLocal i) vs.0 g) EventOf
      (right_gave p typed f at_ thread g env lists k fis r vs.0 (InLocal i) n no_tally (λ z. fit) (subst (λ b. right_values p f k b r ≡ Some vs.0) (sym out) vs.1)) (λ v y.
      end_map (store p at_ (InLocal i) v.value (n + right_checks p false r) v.starting).end (Done p typed f at_ thread g) EventOf (of_done g.supply)
      (assigned_gave p typed f at_ thread g (InLocal i) vs.0 v (n + right_checks p false r) lists (variable_inversion p typed f at_ thread (slice_get f.variables.items i) vs.0 vs.2) y))
  action_gave (WrapObject ty q x) n fit e =
      let b = and_both (is_struct p ty) (is_pointer p f (λ m. m == ty) x) e in
      let t = test_some p f (values p f x) (point_to (λ m. m == ty)) b.1 in
      after_gave (eval p at_ g.heap g.locals x n) (λ v. wrap_object p at_ ty (referent v) (n + checks x) g) (λ v. is_of p t.0 v ≡ true) EventOf
      (eval_of p typed f at_ g.heap g.locals env x t.0 t.1 n) (λ v i.
      end_map (wrap_object p at_ ty (referent v) (n + checks x) g).end (Acted p f at_.context g) EventOf (of_acted g.supply)
      (wrap_gave p typed f at_ thread g env ty (referent v) (n + checks x)
      (⊎_elim (null_no_claim (referent v)) (λ c. struct_no_claim p ty (referent v) b.0 c) (pointer_at p (λ m. m == ty) t.0 v t.2 i))))
  action_gave (UnwrapObject x) n fit e =
      let t = test_some p f (values p f x) (point_to (is_struct p)) e in
      after_gave (eval p at_ g.heap g.locals x n) (λ v. unwrap_object p at_ (referent v) (n + checks x) g) (λ v. is_of p t.0 v ≡ true) EventOf
      (eval_of p typed f at_ g.heap g.locals env x t.0 t.1 n) (λ v i.
      end_map (unwrap_object p at_ (referent v) (n + checks x) g).end (Acted p f at_.context g) EventOf (of_acted g.supply)
      (unwrap_gave p typed f at_ thread g env (referent v) (n + checks x) (⊎_elim (null_no_claim (referent v)) (λ c. (struct_type p (referent v).ty c).2) (pointer_at p (is_struct p) t.0 v t.2 i))))
  action_gave (AssertSpec x) n fit e =
      check_spec_gave at_ (spec_test p x (scene at_.context g.heap g.locals)) n Assert (Gives g) EventOf
      (λ z. record {
        ready = env;
        legal = λ good. rests p g.heap env.heap;
        apart = λ o. apart_same p at_.context (among g.started) o
            (g.heap.get o);
        unopened = λ o c e. same_unopened (g.heap.get o) (g.heap.get o) refl e;
        started = none_begun g refl;
        numbers = none_numbers g.supply g refl;
      })
  action_gave (FreeObject x) n fit e =
      after_any (eval p at_ g.heap g.locals x n) (λ v. free p at_ (referent v) (n + checks x) g) EventOf (λ v.
      end_map (free p at_ (referent v) (n + checks x) g).end (Acted p f at_.context g) EventOf (of_acted g.supply) (free_gave p typed f at_ thread g env (referent v) (n + checks x)))
  action_gave (SpawnThread num es) n fit e = by (slice_get p.functions.items num) refl e
    where
      by :
          (o : Option FunctionInfo) → slice_get p.functions.items num ≡ o → call_ok p f o es.items ≡ true →
          OnGave (after (eval_all p at_ g.heap g.locals es.items n) (λ args. spawn p at_ num o args (n + all_checks es.items) g)) EventOf
      by None is c = absurd (cc)
      by (Some h) is c =
          after_gave (eval_all p at_ g.heap g.locals es.items n) (λ args. spawn p at_ num (Some h) args (n + all_checks es.items) g)
          (λ args. fit_parameters h args ≡ true) EventOf (call_args p typed f at_ thread g env h es.items n c) (λ args y.
          spawn_gave num (Some h) args (n + all_checks es.items) is (λ h2 z. subst (λ (w : FunctionInfo). fit_parameters w args ≡ true) (some_info h h2 z) y))
  action_gave (Atomic ls body) n fit e =
      let b = and_both (every (λ (i : Listed). is_ref p f i.object && (not i.is_claim || is_claim_expr p f i.object)) ls.items) (every (inner_ok p f k) body.items) e in
      end_map (atomic p at_ ls.items body.items n g).end (Whole p f at_.context g) EventOf (of_whole g.supply) (atomic_gave p typed f k fis at_ thread ls.items body.items n g env clean b.0 b.1)

pub act_gave :
    (p : Program) → WellTyped p → (f : FunctionInfo) (x : Context) → slice_get p.functions.items x.function ≡ Some f → is_thread x.me ≡ true →
    (choices : List Value) (supply : Supply) (line : ℕ) (a : Action) (n : ℕ) (h : Heap) (l : List Value) → Env p f h l → action_ok p f x.function a ≡ true →
    OnGave (act p x choices supply line a n h l) (Event p f x supply (starting h l supply))
unfolding act
act_gave p typed f x fis thread choices supply line a n h l env e =
    fitting_gave (action_fits p x.function a choices) (run_action p (spot x choices line) a n (starting h l supply)) (Event p f x supply (starting h l supply)) (λ fit.
    action_gave p typed f x.function fis (spot x choices line) refl thread (starting h l supply) env (λ o z. absurd (cc)) refl a n fit e)
