-- Left sides and stores outside atomic blocks, in the run and on the path.
use Rattle.std.proofs.Common.{◌≡◌, ℕ, Bool, true, false, not, ◌&&◌, ◌||◌, List, [], ◌∷◌, ◌++◌, length, slice_set, Some, slice_get, refl, ap, sym, ◌∙◌, subst}
use Rattle.std.proofs.lemmas.List.{length-set}
use Rattle.object_types.specs.declared.references.Ref.{Ref}
use Rattle.object_types.specs.declared.values.Value.{Value}
use Rattle.object_types.specs.declared.values.Value.TheVariants.{Ref as Refers}
use Rattle.object_types.specs.References.{is_thread}
use Rattle.object_types.specs.Values.{referent}
use Rattle.object_types.specs.Heap.{mutable, write}
use Rattle.method.specs.declared.program.CheckKind.TheVariants.{Write, Writes}
use Rattle.method.specs.declared.program.Expr.{Expr}
use Rattle.method.specs.declared.program.Target.{Target}
use Rattle.method.specs.declared.program.Target.TheVariants.{Local, FieldOf}
use Rattle.method.specs.declared.program.FunctionInfo.{FunctionInfo}
use Rattle.method.specs.declared.program.Program.{Program}
use Rattle.method.specs.Tables.{local, type_of_field, field_type, is_volatile, is_approved, sort_of_type}
use Rattle.method.specs.WellFormed.{has_sort}
use Rattle.method.specs.Typing.{Values, values, WellTyped}
use Rattle.method.specs.Expressions.{Spot as MachineSpot, Gave, Gives as MachineGives, is_listed, may_write, checks, eval}
use Rattle.method.specs.Expressions as q
use Rattle.method.specs.Actions.{Progress, may_count, heap_of as progress_of}
use Rattle.method.specs.Actions as m
use Rattle.machine_laws.proofs.Outcomes.{OnGave, OnEnd}
use Rattle.machine_laws.proofs.Typed.{Env, is_of, to_type, eval_of}
use Rattle.machine_laws.proofs.Records.{typed_sorted}
use Rattle.machine_laws.proofs.Steps.{PlaceOk}
use Rattle.machine_laws.proofs.Simple.{is_of_value}
use Rattle.term_meaning.specs.Meaning.{Language}
use Rattle.conditions.specs.Formulas.{set, field_column}
use Rattle.conditions.specs.Symbolic.{Symbolic, term}
use Rattle.conditions.specs.Paths.{Done}
use Rattle.conditions.specs.Code.{Spot, State, code}
use Rattle.conditions.specs.Code as code
use Rattle.conditions.specs.Actions.{Place, InLocal, InField, left_side, store}
use Rattle.conditions.proofs.Tests.{AllTrue, Ends, nothing_behind, plain, tests, ends_after, ends_all, ends_eval, ends_next, tests_many}
use Rattle.conditions.proofs.PathTests.{Tested, tested_has_tests, tested_done, tested_check, tested_joined}
use Rattle.condition_meaning.proofs.Environments.{Environment, Has, Is}
use Rattle.action_conditions.proofs.Sorts.{plain_sort}
use Rattle.action_conditions.proofs.Places.{Tabled, Fits, FitsRef, Stands, Stated, env_sorts, stands_term, stands_ref}
use Rattle.action_conditions.proofs.Permissions.{may_store_is, may_change_is}
use Rattle.action_conditions.proofs.Updates.{set_field}
use Rattle.action_conditions.proofs.Expressions.{code_told}
use Rattle.action_conditions.proofs.Variables.{shown_by, shown_set, terms_many}

-- what was stored, the store's tests, and where a left side leads
abbrev pub stored_progress : m.Place → Value → Progress → Progress
stored_progress (m.InLocal i) v g = record g { locals = slice_set g.locals i v }
stored_progress (m.InField o g) v s = progress_of s (write s.heap o g v)

module _ (p : Program) (at_ : MachineSpot) where
  -- the tests Write and Writes of a store
  abbrev pub store_tests : m.Place → Progress → List Bool
  store_tests (m.InLocal i) g = []
  store_tests (m.InField o n) g = (mutable at_.context.me g.heap o || (is_listed at_ o && (is_volatile p n && (not (is_approved p n) || may_count at_ g.heap o)))) ∷ (may_write at_ o || is_listed at_ o) ∷ []

  pub ends_store : (place : m.Place) (v : Value) (n : ℕ) (g : Progress) → Ends (store_tests place g) n (stored_progress place v g) (m.store p at_ place v n g)
  ends_store (m.InLocal i) v n g = refl
  ends_store (m.InField o f) v n g = ends_next at_ (mutable at_.context.me g.heap o || (is_listed at_ o && (is_volatile p f && (not (is_approved p f) || may_count at_ g.heap o)))) (may_write at_ o || is_listed at_ o) n Write Writes (progress_of g (write g.heap o f v))

  -- the tests of a left side
  abbrev pub left_tests : Target → Progress → List Bool
  left_tests (Local i) g = []
  left_tests (FieldOf y n) g = tests p at_ g.heap g.locals y ++ []

  -- the place that a left side names, whether or not its tests pass
  abbrev pub plain_left : Target → Progress → m.Place
  plain_left (Local i) g = m.InLocal i
  plain_left (FieldOf y n) g = m.InField (referent (plain p at_ g.heap g.locals y)) n

  pub ends_left : (y : Target) (n : ℕ) (g : Progress) → Ends (left_tests y g) n (plain_left y g) (m.left_side p at_ y n g)
  ends_left (Local i) n g = refl
  ends_left (FieldOf y f) n g = ends_after (tests p at_ g.heap g.locals y) [] n (plain p at_ g.heap g.locals y) (m.InField (referent (plain p at_ g.heap g.locals y)) f) (eval p at_ g.heap g.locals y n) (λ v. MachineGives (m.InField (referent v) f)) (ends_eval p at_ g.heap g.locals y n) refl

  -- as many tests as checks
  pub left_many : (y : Target) (g : Progress) → length (left_tests y g) ≡ m.target_checks y
  left_many (Local i) g = refl
  left_many (FieldOf y f) g = ap length (nothing_behind (tests p at_ g.heap g.locals y)) ∙ tests_many p at_ g.heap g.locals y

-- what holds of what was given
pub on_gave : {A : Type 0} (o : q.Outcome A) (Q : A → Type 0) (a : A) → OnGave o Q → o.end ≡ Gave a → Q a
on_gave {A} o Q a k e = subst (λ (x : q.End A). OnEnd x Q) e k

module _ (l : Language) (typed : WellTyped l.program) (t : Ref) (f : FunctionInfo) (a : Spot) (at_ : MachineSpot) (mine : at_.context.me ≡ t) (thread : is_thread at_.context.me ≡ true) where
  -- an expression whose tests pass has a value as the typing says
  pub passed_of : (g : Progress) → Env l.program f g.heap g.locals → (y : Expr) (u : Values) → values l.program f y ≡ Some u → AllTrue (tests l.program at_ g.heap g.locals y) → is_of l.program u (plain l.program at_ g.heap g.locals y) ≡ true
  passed_of g env y u is b =
      on_gave (eval l.program at_ g.heap g.locals y 0) (λ v. is_of l.program u v ≡ true) (plain l.program at_ g.heap g.locals y) (eval_of l.program typed f at_ g.heap g.locals env y u is 0) (ends_all (tests l.program at_ g.heap g.locals y) 0 (plain l.program at_ g.heap g.locals y) (eval l.program at_ g.heap g.locals y 0) (ends_eval l.program at_ g.heap g.locals y 0) b)

  -- what may be stored there
  abbrev pub Storable : m.Place → Value → Type 0
  Storable (m.InLocal i) v = Unit {0}
  Storable (m.InField o n) v = Tabled l.program n × (has_sort (sort_of_type (type_of_field l.program n)) v ≡ true)

  pub storable_by : (place : m.Place) (u : Values) (v : Value) → PlaceOk l.program typed f at_ thread place u → is_of l.program u v ≡ true → Storable place v
  storable_by (m.InLocal i) u v ok is = tt
  storable_by (m.InField o n) u v ok is =
      let ty : type_of_field l.program n ≡ ok.0.ty = ap field_type ok.1 in
      ((ok.0, ok.1), subst (λ y. has_sort (sort_of_type y) v ≡ true) (sym ty) (typed_sorted ok.0.ty v (to_type l.program u ok.0.ty v ok.3 is) (is_of_value l.program u v is)))

  module _ (out : at_.inside ≡ false) (hid : ℕ → Bool) (e : Environment l t) where
    -- where a left side leads on the path
    abbrev pub PlaceIs : Place → m.Place → Type 0
    PlaceIs (InLocal i) (m.InLocal j) = i ≡ j
    PlaceIs (InLocal i) (m.InField r g) = ⊥
    PlaceIs (InField o g) (m.InLocal j) = ⊥
    PlaceIs (InField o g) (m.InField r n) = Has l t e o (Refers r) × (g ≡ n)

    -- the object of a left side fits
    abbrev pub FitsLeft : Target → Type 0
    FitsLeft (Local i) = Unit {0}
    FitsLeft (FieldOf y n) = FitsRef l.program f hid y

    -- The state st stands for the progress g.
    module _ (st : State) (g : Progress) (env : Env l.program f g.heap g.locals) (k : Stated l t hid a at_ st g.heap g.locals e) where
      -- a term of an expression that comes to a reference
      pub code_refers : (y : Expr) → FitsRef l.program f hid y → Has l t e (term (code l.program a st y).gives) (Refers (referent (plain l.program at_ g.heap g.locals y)))
      code_refers y r =
          stands_ref l t e (code l.program a st y).gives (plain l.program at_ g.heap g.locals y) (code_told l t f a at_ mine hid st g.heap g.locals env.heap.heap_of (env_sorts l.program f g.heap g.locals env) e k y r.fits).value
          (plain_sort l.program f at_ g.heap g.locals (env_sorts l.program f g.heap g.locals env) y r.fits.values_are r.fits.typed ∙ r.refers)

      pub code_tested : (y : Expr) → Fits l.program f hid y → Tested (Is l t e) (code l.program a st y).path (tests l.program at_ g.heap g.locals y)
      code_tested y r = tested_has_tests (Is l t e) (code l.program a st y).path (tests l.program at_ g.heap g.locals y) (code_told l t f a at_ mine hid st g.heap g.locals env.heap.heap_of (env_sorts l.program f g.heap g.locals env) e k y r).told

      pub code_stands : (y : Expr) → Fits l.program f hid y → Stands l t e (code l.program a st y).gives (plain l.program at_ g.heap g.locals y)
      code_stands y r = (code_told l t f a at_ mine hid st g.heap g.locals env.heap.heap_of (env_sorts l.program f g.heap g.locals env) e k y r).value

      pub left_tested : (y : Target) → FitsLeft y → Tested (Is l t e) (left_side l.program a y st).path (left_tests l.program at_ y g)
      left_tested (Local i) r = tested_done (Is l t e)
      left_tested (FieldOf y n) r = tested_joined (Is l t e) (code l.program a st y).path Done (tests l.program at_ g.heap g.locals y) [] tt (code_tested y r.fits) (λ b. tested_done (Is l t e))

      pub left_is : (y : Target) → FitsLeft y → PlaceIs (left_side l.program a y st).gives (plain_left l.program at_ y g)
      left_is (Local i) r = refl
      left_is (FieldOf y n) r = (code_refers y r, refl)

      pub store_tested : (x : Place) (place : m.Place) (w : Symbolic) → PlaceIs x place → Tested (Is l t e) (store l.program a x w st).path (store_tests l.program at_ place g)
      store_tested (InLocal i) (m.InLocal j) w same = tested_done (Is l t e)
      store_tested (InLocal i) (m.InField r n) w same = absurd same
      store_tested (InField o n) (m.InLocal j) w same = absurd same
      store_tested (InField o n) (m.InField r j) w same =
          subst (λ i. Tested (Is l t e) (store l.program a (InField o n) w st).path (store_tests l.program at_ (m.InField r i) g)) same.1
          (tested_check (Is l t e) _ (mutable at_.context.me g.heap r || (is_listed at_ r && (is_volatile l.program n && (not (is_approved l.program n) || may_count at_ g.heap r)))) _ ((may_write at_ r || is_listed at_ r) ∷ []) tt (may_store_is l t at_ mine a e k.spot st g.heap k.heap o r same.0 n) (λ b.
          tested_check (Is l t e) _ (may_write at_ r || is_listed at_ r) Done [] tt (may_change_is l t at_ mine a e k.spot o r same.0) (λ c. tested_done (Is l t e))))

      -- what was stored stands for what was stored
      pub store_stated : (hid' : ℕ → Bool) → ((j : ℕ) → hid' j ≡ false → hid j ≡ false) → (x : Place) (place : m.Place) (w : Symbolic) (v : Value) → PlaceIs x place → Stands l t e w v → Storable place v → Stated l t hid' a at_ (store l.program a x w st).gives (stored_progress place v g).heap (stored_progress place v g).locals e
      store_stated hid' less (InLocal i) (m.InLocal j) w v same s ok =
          subst (λ n. Stated l t hid' a at_ (record st { locals = slice_set st.locals i w }) g.heap (slice_set g.locals n v) e) same
          (record { spot = k.spot; many = terms_many st.locals i w ∙ k.many ∙ sym (length-set g.locals i v); heap = k.heap; locals = shown_set l t e hid hid' i st.locals w g.locals v (λ n apart h. less n h) k.many s k.locals })
      store_stated hid' less (InLocal i) (m.InField r n) w v same s ok = absurd same
      store_stated hid' less (InField o n) (m.InLocal j) w v same s ok = absurd same
      store_stated hid' less (InField o n) (m.InField r j) w v same s ok =
          subst (λ i. Stated l t hid' a at_ (code.with_heap st (set (field_column n) st.heap (o ∷ []) (term w))) (write g.heap r i v) g.locals e) same.1
          (record {
            spot = k.spot;
            many = k.many;
            heap = set_field l t e st.heap g.heap o r k.heap same.0 n ok.0.0 (term w) v (ap (λ i. slice_get l.program.fields.items i) same.1 ∙ ok.0.1) (subst (λ i. has_sort (sort_of_type (type_of_field l.program i)) v ≡ true) (sym same.1) ok.1) (stands_term l t e w v s);
            locals = shown_by l t e hid hid' 0 st.locals (local g.locals) (local g.locals) (λ n less' h. (less n h, refl)) k.locals;
          })
