-- Objects freed, unwrapped and wrapped, and annotations asserted, outside atomic blocks.
use Rattle.std.proofs.Common.{◌≡◌, ℕ, ◌+◌, Bool, true, false, List, [], ◌∷◌, ◌++◌, length, pos, refl, ap, sym, ◌∙◌, subst, arith}
use Rattle.object_types.specs.declared.references.Ref.{Ref}
use Rattle.object_types.specs.declared.values.Value.{Value}
use Rattle.object_types.specs.declared.values.Value.TheVariants.{Int, Ref as Refers}
use Rattle.object_types.specs.declared.records.Mode.{Mode}
use Rattle.object_types.specs.declared.records.Mode.TheVariants.{Freed, Open}
use Rattle.object_types.specs.References.{is_thread, null}
use Rattle.object_types.specs.Values.{referent, is_zero_int}
use Rattle.object_types.specs.Heap.{Heap, put, hand_over, mutable, wrapped}
use Rattle.method.specs.declared.program.CheckKind.{CheckKind}
use Rattle.method.specs.declared.program.CheckKind.TheVariants.{Writes, Unwrap, Claimed as HasClaims, Assert, Free}
use Rattle.method.specs.declared.program.Expr.{Expr}
use Rattle.method.specs.declared.program.Spec.{Spec}
use Rattle.method.specs.declared.program.FunctionInfo.{FunctionInfo}
use Rattle.method.specs.declared.program.Program.{Program}
use Rattle.method.specs.Tables.{local}
use Rattle.method.specs.SpecValue.{holds}
use Rattle.method.specs.Typing.{WellTyped}
use Rattle.method.specs.Expressions.{Spot as MachineSpot, Outcome, Gave, Gives as MachineGives, may_write, check, checks, eval, scene as machine_scene, spec_test}
use Rattle.method.specs.Expressions as x
use Rattle.method.specs.Actions.{Progress}
use Rattle.method.specs.Actions as m
use Rattle.machine_laws.proofs.Typed.{Env}
use Rattle.terms.specs.declared.term.Kind.TheVariants as kind
use Rattle.terms.specs.Formula.{Formula}
use Rattle.term_meaning.specs.Columns.{Modes, Owners}
use Rattle.term_meaning.specs.RawHeaps.{mode_number, raw, open_object}
use Rattle.term_meaning.specs.Meaning.{Language, HeapValue}
use Rattle.term_meaning.proofs.Changes.{opened_is}
use Rattle.axiom_instances.proofs.Kit as kit
use Rattle.axiom_instances.proofs.Kit.{none, one, more, node_has}
use Rattle.axiom_instances.proofs.Maps.{set_has}
use Rattle.conditions.specs.Formulas.{node, nat, me, eq, status, count}
use Rattle.conditions.specs.Formulas as fs
use Rattle.conditions.specs.Symbolic.{term}
use Rattle.conditions.specs.Annotations.{formula}
use Rattle.conditions.specs.Paths.{Path, Done, Check, Execution, Gives, after}
use Rattle.conditions.specs.Paths as paths
use Rattle.conditions.specs.Code.{Spot, State, code, scene, with_heap}
use Rattle.conditions.specs.Code as code
use Rattle.conditions.specs.Actions as p
use Rattle.conditions.proofs.FromRuns.{count_of, IsWithin}
use Rattle.conditions.proofs.Tests.{AllTrue, Ends, all_first, all_behind, at_place, plain, tests, tests_many, ends_after, ends_eval, ends_check, ends_next, ends_more_checks, same_end}
use Rattle.conditions.proofs.PathTests.{IsChecks, Tested, tested_done, tested_check, tested_joined}
use Rattle.condition_meaning.proofs.Environments.{Environment, Has, Is, HeapIs, has_int, has_me, has_null}
use Rattle.action_conditions.proofs.Words.{is_unclaimed}
use Rattle.action_conditions.proofs.Places.{FitsRef, ShownAt, Stated, env_sorts}
use Rattle.action_conditions.proofs.Permissions.{mutable_is, may_write_is}
use Rattle.action_conditions.proofs.Expressions.{is_wrapped_now}
use Rattle.action_conditions.proofs.Stores.{code_refers, code_tested}
use Rattle.action_conditions.proofs.Columns.{status_stored}
use Rattle.action_conditions.proofs.Alone.{Alone}

-- the heap with another status of an object
pub status_has : (l : Language) (t : Ref) (e : Environment l t) (y o m w : Formula) (h : Heap) (r q : Ref) (mode : Mode) → HeapIs l t e y h → Has l t e o (Refers r) → Has l t e m (Int (mode_number mode)) → Has l t e w (Refers q) → HeapIs l t e (status y o m w) (put h r (record (h.get r) { mode = mode; owner = q }))
status_has l t e y o m w h r q mode hy ho hm hw =
    subst (λ z. kit.Has l e.env (status y o m w) (HeapValue z)) (sym (status_stored l.program h r mode q)) (set_has [] Owners refl (set_has [] Modes refl hy ho none hm) ho none hw)

pub within_self : (st st' : State) → count_of st ≡ count_of st' → IsWithin (count_of st) (count_of st')
within_self st st' same = subst (λ c. IsWithin (count_of st) c) same (record { integers = omega arith; references = omega arith; heaps = omega arith })

module _ (l : Language) (typed : WellTyped l.program) (t : Ref) (f : FunctionInfo) (a : Spot) (at_ : MachineSpot) (mine : at_.context.me ≡ t) (thread : is_thread at_.context.me ≡ true) (out : at_.inside ≡ false) (hid : ℕ → Bool) (st : State) (g : Progress) (env : Env l.program f g.heap g.locals) where
  abbrev P : Program
  P = l.program

  abbrev V : Expr → Value
  V = plain P at_ g.heap g.locals

  abbrev B : Expr → List Bool
  B = tests P at_ g.heap g.locals

  -- the state stands for the run in this environment
  abbrev pub Here : Environment l t → Type 0
  Here = Stated l t hid a at_ st g.heap g.locals

  -- an expression, and then checks with an effect on the heap
  pub heap_alone : (y : Expr) → FitsRef P f hid y → (n : ℕ) (r : Ref → ℕ → Outcome Progress) (q : Formula → Execution State) (bs : Ref → List Bool) (result : Ref → Heap)
      → ((o : Ref) (n : ℕ) → Ends (bs o) n (m.heap_of g (result o)) (r o n))
      → ((o : Formula) → count_of st ≡ count_of (q o).gives)
      → ((o : Formula) → (q o).gives.locals ≡ st.locals)
      → ((o : Formula) → IsChecks (q o).path)
      → ((e : Environment l t) → Here e → AllTrue (B y) → (o : Formula) (w : Ref) → o ≡ term (code P a st y).gives → w ≡ referent (V y) → Has l t e o (Refers w) → Tested (Is l t e) (q o).path (bs w) × (AllTrue (bs w) → HeapIs l t e (q o).gives.heap (result w)))
      → Alone l t a at_ hid hid n (x.after (eval P at_ g.heap g.locals y n) (λ v. r (referent v) (n + checks y))) st g.heap g.locals (after (code P a st y) (λ v. q (term v)))
  heap_alone y fits n r q bs result ends counts same only k =
      let o = referent (V y) in
      let w = term (code P a st y).gives in
      record {
        passed = B y ++ bs o;
        result = m.heap_of g (result o);
        ends = ends_after (B y) (bs o) n (V y) (m.heap_of g (result o)) (eval P at_ g.heap g.locals y n) (λ v. r (referent v) (n + checks y)) (ends_eval P at_ g.heap g.locals y n) (at_place (bs o) (n + checks y) (n + length (B y)) (m.heap_of g (result o)) (r o (n + checks y)) (ap (λ j. n + j) (sym (tests_many P at_ g.heap g.locals y))) (ends o (n + checks y)));
        within = within_self st (q w).gives (counts w);
        tested = λ e s. tested_joined (Is l t e) (code P a st y).path (q w).path (B y) (bs o) (only w) (code_tested l typed t f a at_ mine thread out hid e st g env s y fits.fits) (λ b. (k e s b w o refl refl (code_refers l typed t f a at_ mine thread out hid e st g env s y fits)).0);
        stated = λ e s b. record {
          spot = s.spot;
          many = ap length (same w) ∙ s.many;
          heap = (k e s (all_first (B y) (bs o) b) w o refl refl (code_refers l typed t f a at_ mine thread out hid e st g env s y fits)).1 (all_behind (B y) (bs o) b);
          locals = subst (λ ws. ShownAt l t hid e 0 ws (local g.locals)) (sym (same w)) s.locals;
        };
      }

  module _ (e : Environment l t) (s : Here e) (o : Formula) (w : Ref) (ho : Has l t e o (Refers w)) where
    pub mutable_here : Is l t e (code.mutable st o) (mutable at_.context.me g.heap w)
    mutable_here = mutable_is l t at_ mine a e s.spot st g.heap s.heap o w ho

    pub wrapped_here : Is l t e (code.wrapped st o) (wrapped at_.context.me g.heap w)
    wrapped_here = is_wrapped_now l t f a at_ mine hid st g.heap g.locals env.heap.heap_of (env_sorts P f g.heap g.locals env) e s o w ho

    pub writable_here : Is l t e (code.writable P a o) (may_write at_ w)
    writable_here = may_write_is l t at_ mine a e s.spot o w ho

  pub free_alone : (y : Expr) → FitsRef P f hid y → (n : ℕ) → Alone l t a at_ hid hid n (x.after (eval P at_ g.heap g.locals y n) (λ v. m.free P at_ (referent v) (n + checks y) g)) st g.heap g.locals (after (code P a st y) (λ v. p.free P a (term v) st))
  free_alone y fits n =
      heap_alone y fits n (λ o n. m.free P at_ o n g) (λ o. p.free P a o st) (λ o. mutable at_.context.me g.heap o ∷ may_write at_ o ∷ []) (λ o. put g.heap o (record (g.heap.get o) { mode = Freed; owner = null }))
      (λ o n. ends_next at_ (mutable at_.context.me g.heap o) (may_write at_ o) n Free Writes (m.heap_of g (put g.heap o (record (g.heap.get o) { mode = Freed; owner = null }))))
      (λ o. refl) (λ o. refl) (λ o. tt)
      (λ e s passes o w is was ho. (
        tested_check (Is l t e) (code.mutable st o) (mutable at_.context.me g.heap w) (Check (code.writable P a o) Done) (may_write at_ w ∷ []) tt (mutable_here e s o w ho) (λ b.
            tested_check (Is l t e) (code.writable P a o) (may_write at_ w) Done [] tt (writable_here e s o w ho) (λ c. tested_done (Is l t e))),
        λ b. status_has l t e st.heap o (nat 3) fs.null g.heap w null Freed s.heap ho (has_int l t e (pos 3)) (has_null l t e),
      ))

  -- Unwrap, of the object that a term stands for.
  abbrev pub unwrap_tests : Ref → List Bool
  unwrap_tests o = wrapped at_.context.me g.heap o ∷ may_write at_ o ∷ is_zero_int (g.heap.get o).count ∷ []

  -- the heap after the object is unwrapped
  abbrev pub unwrap_heap : Ref → Heap
  unwrap_heap o = hand_over (put g.heap o (record (g.heap.get o) { mode = Open })) (g.heap.get o).owned at_.context.me

  ends_two : (b c : Bool) (n : ℕ) (first second : CheckKind) (a : Progress) → Ends (b ∷ c ∷ []) (n + 1) a (check at_ b (n + 1) first (check at_ c (n + 2) second (MachineGives a)))
  ends_two b c n first second a = subst (λ k. Ends (b ∷ c ∷ []) (n + 1) a (check at_ b (n + 1) first (check at_ c k second (MachineGives a)))) (omega arith) (ends_next at_ b c (n + 1) first second a)

  pub ends_unwrap : (o : Ref) (n : ℕ) → Ends (unwrap_tests o) n (m.heap_of g (unwrap_heap o)) (m.unwrap_object P at_ o n g)
  ends_unwrap o n =
      ends_more_checks at_ (wrapped at_.context.me g.heap o) (may_write at_ o ∷ is_zero_int (g.heap.get o).count ∷ []) n Unwrap (m.heap_of g (unwrap_heap o)) (check at_ (may_write at_ o) (n + 1) Writes (check at_ (is_zero_int (g.heap.get o).count) (n + 2) HasClaims (MachineGives (m.heap_of g (unwrap_heap o)))))
      (ends_two (may_write at_ o) (is_zero_int (g.heap.get o).count) n Writes HasClaims (m.heap_of g (unwrap_heap o)))

  open_has : (e : Environment l t) (s : Here e) (o : Formula) (w : Ref) → Has l t e o (Refers w) → HeapIs l t e (node kind.Open (st.heap ∷ o ∷ me ∷ [])) (unwrap_heap w)
  open_has e s o w ho =
      subst (λ z. kit.Has l e.env (node kind.Open (st.heap ∷ o ∷ me ∷ [])) (HeapValue z)) (ap (open_object (raw P g.heap) w) (sym mine) ∙ sym (opened_is P g.heap w at_.context.me)) (node_has (more s.heap (more ho (one (has_me l t e)))) refl)

  pub unwrap_told : (e : Environment l t) → Here e → (o : Formula) (w : Ref) → Has l t e o (Refers w) → Tested (Is l t e) (p.unwrap_object P a o st).path (unwrap_tests w) × HeapIs l t e (p.unwrap_object P a o st).gives.heap (unwrap_heap w)
  unwrap_told e s o w ho = (
    tested_check (Is l t e) (code.wrapped st o) (wrapped at_.context.me g.heap w) _ (may_write at_ w ∷ is_zero_int (g.heap.get w).count ∷ []) tt (wrapped_here e s o w ho) (λ b.
        tested_check (Is l t e) (code.writable P a o) (may_write at_ w) _ (is_zero_int (g.heap.get w).count ∷ []) tt (writable_here e s o w ho) (λ c.
        tested_check (Is l t e) (eq (count st.heap o) (nat 0)) (is_zero_int (g.heap.get w).count) Done [] tt (is_unclaimed l t e st.heap g.heap s.heap o w ho) (λ d. tested_done (Is l t e)))),
    open_has e s o w ho,
  )

  pub unwrap_alone : (y : Expr) → FitsRef P f hid y → (n : ℕ) → Alone l t a at_ hid hid n (x.after (eval P at_ g.heap g.locals y n) (λ v. m.unwrap_object P at_ (referent v) (n + checks y) g)) st g.heap g.locals (after (code P a st y) (λ v. p.unwrap_object P a (term v) st))
  unwrap_alone y fits n =
      heap_alone y fits n (λ o n. m.unwrap_object P at_ o n g) (λ o. p.unwrap_object P a o st) unwrap_tests unwrap_heap ends_unwrap
      (λ o. refl) (λ o. refl) (λ o. tt) (λ e s passes o w is was ho. let z = unwrap_told e s o w ho in (z.0, λ b. z.1))

  -- an annotation that stands for its value
  pub assert_alone : (y : Spec) (n : ℕ) → ((e : Environment l t) → Here e → Is l t e (formula P y (scene a st)) (holds P y (machine_scene at_.context g.heap g.locals))) → Alone l t a at_ hid hid n (x.check_spec at_ (spec_test P y (machine_scene at_.context g.heap g.locals)) n Assert (MachineGives g)) st g.heap g.locals (paths.check (formula P y (scene a st)) (Gives st))
  assert_alone y n told =
      let b = holds P y (machine_scene at_.context g.heap g.locals) in
      record {
        passed = b ∷ [];
        result = g;
        ends = same_end (b ∷ []) n g (x.check_spec at_ (spec_test P y (machine_scene at_.context g.heap g.locals)) n Assert (MachineGives g)) (check at_ b n Assert (MachineGives g)) refl (ends_check at_ b n Assert g);
        within = within_self st st refl;
        tested = λ e s. tested_check (Is l t e) (formula P y (scene a st)) b Done [] tt (told e s) (λ c. tested_done (Is l t e));
        stated = λ e s c. s;
      }
