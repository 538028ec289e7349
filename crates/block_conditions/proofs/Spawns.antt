-- Starts of threads, beside their paths and as the induction on runs asks for them.
use Rattle.std.proofs.Common.{◌≡◌, ℕ, ◌+◌, ◌==◌, Bool, true, false, not, ◌&&◌, ◌||◌, if◌then◌else◌, List, [], ◌∷◌, ◌++◌, map, length, take, Option, Some, None, slice_get, refl, ap, sym, ◌∙◌, subst, arith}
use Rattle.std.proofs.Math.Bool.{or-true}
use Rattle.action_conditions.proofs.Stores.{on_gave}
use Rattle.std.specs.Prelude.{pos}
use Rattle.std.proofs.lemmas.List.{length-map}
use Rattle.std.proofs.lemmas.Bool.{eqb-true, not-true}
use Rattle.object_types.specs.declared.references.Ref.{Ref}
use Rattle.object_types.specs.declared.values.Value.{Value}
use Rattle.object_types.specs.declared.values.Value.TheVariants.{Int, Ref as Refers}
use Rattle.object_types.specs.References.{same_ref, is_thread, thread as thread_at}
use Rattle.object_types.specs.Values.{referent}
use Rattle.object_types.specs.Sets.{every, some, is_in}
use Rattle.object_types.specs.Heap.{Heap, Record, IsFinite, put, hand_over, wrapped, is_idle}
use Rattle.method.specs.declared.program.Action.{Action}
use Rattle.method.specs.declared.program.Action.TheVariants.{SpawnThread}
use Rattle.method.specs.declared.program.Stmt.TheVariants.{Do}
use Rattle.method.specs.declared.program.CheckKind.TheVariants.{Spawn}
use Rattle.method.specs.declared.program.Clause.{Clause}
use Rattle.method.specs.declared.program.Expr.{Expr}
use Rattle.method.specs.declared.program.Spec.{Spec}
use Rattle.method.specs.declared.program.VariableInfo.{VariableInfo}
use Rattle.method.specs.declared.program.FunctionInfo.{FunctionInfo}
use Rattle.method.specs.declared.program.Program.{Program}
use Rattle.method.specs.SpecValue as v
use Rattle.method.specs.Machine.{fit_parameters}
use Rattle.method.specs.Tables.{local}
use Rattle.method.specs.WellFormed.{IsHeapOf}
use Rattle.method.specs.Typing.{WellTyped, values, fits, has_type, args_fit, call_ok, action_ok}
use Rattle.method.specs.Expressions as m
use Rattle.method.specs.Expressions.{Context, Spot as MachineSpot, Tested, Gave, may_write, eval_all, all_checks, clause_tests, item_tests}
use Rattle.method.specs.LocalRuns.{FailsAt, ActsTo}
use Rattle.method.specs.Actions as M
use Rattle.method.specs.Actions.{Progress, Chosen, Took, spot, starting, act, take_thread, callee}
use Rattle.method.proofs.Global.{and_both, same_ref_self, same_ref_is}
use Rattle.machine_laws.proofs.Typed.{Env, not_both}
use Rattle.machine_laws.proofs.Heaps.{in_more, in_none}
use Rattle.machine_laws.proofs.Simple.{test_some}
use Rattle.machine_laws.proofs.Claiming.{thread_reference}
use Rattle.machine_laws.proofs.Objects.{passed_well_formed}
use Rattle.machine_laws.proofs.Acts.{call_args}
use Rattle.term_meaning.specs.RawHeaps.{raw}
use Rattle.term_meaning.specs.RawRelations.{IsIdle}
use Rattle.terms.specs.declared.term.Kind.TheVariants as k
use Rattle.terms.specs.Formula.{Formula}
use Rattle.axiom_instances.proofs.Kit.{one, more, node_has}
use Rattle.conditions.specs.Formulas.{node, nat, me, eq, and', not', typ, reference, set, owner_column}
use Rattle.conditions.specs.Symbolic.{Symbolic, term}
use Rattle.conditions.specs.Annotations.{translate, formula}
use Rattle.conditions.specs.Paths.{Execution, Gives, after, check_each, all_facts}
use Rattle.conditions.specs.Code.{Spot, State, all_symbolic, writable, call_scene, with_heap, new_reference}
use Rattle.conditions.specs.Code as codes
use Rattle.conditions.specs.Actions as walk
use Rattle.conditions.proofs.PathTests.{AllAre}
use Rattle.conditions.proofs.Hiding.{after_stmt}
use Rattle.conditions.proofs.FromRuns.{count_of, IsWithin, within_self, one_reference}
use Rattle.condition_meaning.specs.Languages.{language_of}
use Rattle.condition_meaning.proofs.Environments.{Environment, Is, Has, HeapIs, holds_is, is_not, is_eq, is_and, has_int, has_me}
use Rattle.condition_meaning.proofs.Extensions.{a_reference, is_refers}
use Rattle.condition_meaning.proofs.Walks.{Follows, Breaks}
use Rattle.condition_walks.proofs.Sizes.{all_symbolic_size}
use Rattle.action_conditions.proofs.Words.{Refer, is_wrapped}
use Rattle.action_conditions.proofs.Places.{AllStand}
use Rattle.block_conditions.proofs.Beside.{Beside, beside_after, beside_gives, beside_less, beside_specs, beside_step, beside_made, beside_facts}
use Rattle.action_conditions.proofs.Updates.{set_owner, same_columns, hand_more, hand_none}
use Rattle.action_conditions.proofs.Permissions.{may_write_is}
use Rattle.block_conditions.proofs.Operands.{At, AllFit, beside_symbols}
use Rattle.block_conditions.proofs.Interlocked.{AllSee}
use Rattle.block_conditions.proofs.Acted.{Spotted, size, acted_follows, acted_breaks, at_less, still_hid}
use Rattle.conditions.proofs.Joins.{check_gives}

-- The words of a function's writes list stand for its objects at a call, and those of its requires clauses for their truth.
abbrev pub ItemsStand : Program → Ref → Type 0
ItemsStand p t = (num : ℕ) (fi : FunctionInfo) → slice_get p.functions.items num ≡ Some fi → (e : Environment (language_of p) t) (y : Formula) (h : Heap) (ws : List Symbolic) (vs : List Value) → HeapIs (language_of p) t e y h → IsHeapOf p h → fit_parameters fi vs ≡ true → AllStand (language_of p) t e ws vs
    → Refer (language_of p) t e (map (λ s. term (translate p s (call_scene me y ws))) fi.writes.items) (map (λ s. referent (v.value p s (m.call_scene t h vs))) fi.writes.items)

-- the terms of a contract's clauses have the truth values of the clauses
abbrev pub ClausesStand : Program → Ref → Type 0
ClausesStand p t = (num : ℕ) (fi : FunctionInfo) → slice_get p.functions.items num ≡ Some fi → (e : Environment (language_of p) t) (u : Formula) (r : Ref) (y : Formula) (h : Heap) (ws : List Symbolic) (vs : List Value) → Has (language_of p) t e u (Refers r) → is_thread r ≡ true → HeapIs (language_of p) t e y h → IsHeapOf p h → fit_parameters fi vs ≡ true → AllStand (language_of p) t e ws vs
    → AllAre (Is (language_of p) t e) (map (λ (c : Clause). formula p c.spec (call_scene u y ws)) fi.requires_.items) (map (λ (s : Tested). s.holds) (clause_tests p fi.requires_.items (m.call_scene r h vs)))

-- A chosen thread.

-- a reference that the new thread may have: a thread, not the one that starts it, which owns nothing
pub record Chosen_ (me_ : Ref) (h : Heap) (r : Ref) : Type 0 where
  pub is : is_thread r ≡ true
  pub other : same_ref r me_ ≡ false
  pub idle : is_idle h r.serial ≡ true

taken : (news : List Ref) (t : Ref) (h : Heap) (w : Took) → (take_thread (Chosen news) t h).end ≡ Gave w → Chosen_ t h w.which
taken [] t h w e = absurd (let z : m.Misfit ≡ Gave w = e in cc)
taken (r ∷ rs) t h w e = by (is_thread r && (not (same_ref r t) && is_idle h r.serial)) refl e
  where
    by : (b : Bool) → is_thread r && (not (same_ref r t) && is_idle h r.serial) ≡ b → (if b then m.Gives {A = Took} (record { which = r; supply = Chosen rs }) else m.Unfit).end ≡ Gave w → Chosen_ t h w.which
    by true is e =
        let c = and_both (is_thread r) (not (same_ref r t) && is_idle h r.serial) is in
        let d = and_both (not (same_ref r t)) (is_idle h r.serial) c.1 in
        let same : record { which = r; supply = Chosen rs } ≡ w = cc in
        subst (λ (q : Took). Chosen_ t h q.which) same (record { is = c.0; other = not-true (same_ref r t) d.0; idle = d.1 })
    by false is e = absurd (let z : m.Misfit ≡ Gave w = e in cc)

thread_passes : (news : List Ref) (t : Ref) (h : Heap) (label : ℕ) → FailsAt label (take_thread (Chosen news) t h) → ⊥
thread_passes [] t h label f = absurd (let z : m.Misfit ≡ m.Failed label f.0 f.1 = f.2 in cc)
thread_passes (r ∷ rs) t h label f = by (is_thread r && (not (same_ref r t) && is_idle h r.serial)) f.2
  where
    by : (b : Bool) → (if b then m.Gives {A = Took} (record { which = r; supply = Chosen rs }) else m.Unfit).end ≡ m.Failed label f.0 f.1 → ⊥
    by true e = cc
    by false e = cc

some_at : (g : Ref → Bool) (xs : List Ref) (q : Ref) → is_in q xs ≡ true → g q ≡ true → some g xs ≡ true
some_at g [] q i e = absurd (cc (in_none q))
some_at g (x ∷ xs) q i e = by (λ j. some_at g xs q j e) (same_ref q x) refl (sym (in_more q x xs) ∙ i)
  where
    by : (is_in q xs ≡ true → some g xs ≡ true) → (b : Bool) → same_ref q x ≡ b → b || is_in q xs ≡ true → g x || some g xs ≡ true
    by rest true is or = ap (λ b. b || some g xs) (ap g (sym (same_ref_is q x is)) ∙ e)
    by rest false is or = ap (λ b. g x || b) (rest or) ∙ or-true (g x)

-- it owns nothing
owns_none : (p : Program) (h : Heap) → IsFinite h → (r : Ref) → is_thread r ≡ true → is_idle h r.serial ≡ true → IsIdle r (raw p h)
owns_none p h finite r is idle q owned = by (is_in q h.support) refl
  where
    mine : (h.get q).owner ≡ r
    mine = let o : Refers (h.get q).owner ≡ Refers r = owned in cc

    named : r ≡ thread_at r.serial
    named = ap (λ (n : ℕ). record r { ty = n }) (eqb-true r.ty 1 is)

    owner_same : same_ref (h.get q).owner (thread_at r.serial) ≡ true
    owner_same = ap (λ (o : Ref). same_ref o (thread_at r.serial)) (mine ∙ named) ∙ same_ref_self (thread_at r.serial)

    by : (b : Bool) → is_in q h.support ≡ b → ⊥
    by true i = not_both (some (λ o. same_ref (h.get o).owner (thread_at r.serial)) h.support) (some_at (λ o. same_ref (h.get o).owner (thread_at r.serial)) h.support q i owner_same) (not-true (some (λ o. same_ref (h.get o).owner (thread_at r.serial)) h.support) idle)
    by false i = not_both (is_thread r) is (ap is_thread (sym mine ∙ ap (λ (s : Record). s.owner) (finite q i)))

module _ (p : Program) (typed : WellTyped p) (f : FunctionInfo) (x : Context) (fis : slice_get p.functions.items x.function ≡ Some f) (thread : is_thread x.me ≡ true) (a : Spot) (hid : ℕ → Bool)
    (items_stand : ItemsStand p x.me) (clauses_stand : ClausesStand p x.me) (line : ℕ) (choices : List Value) (news : List Ref)
  where
    abbrev at_ : MachineSpot
    at_ = spot x choices line

    abbrev E : Type 0
    E = Environment (language_of p) x.me

    -- the objects of the writes list are wrapped, and writable
    owned_are : (st : State) (g : Progress) (e : E) → At p f at_ a hid st g e → (words : List Formula) (es : List Spec) (s : v.Scene) → Refer (language_of p) x.me e words (map (λ i. referent (v.value p i s)) es)
        → AllAre (Is (language_of p) x.me e) (map (λ o. and' (codes.wrapped st o) (writable p a o)) words) (map (λ (t : Tested). t.holds) (item_tests p (λ o. wrapped x.me g.heap o && may_write at_ o) es s))
    owned_are st g e here [] [] s r = tt
    owned_are st g e here [] (i ∷ es) s r = absurd r
    owned_are st g e here (o ∷ words) [] s r = absurd r
    owned_are st g e here (o ∷ words) (i ∷ es) s r =
        let q = referent (v.value p i s) in
        (is_and (language_of p) x.me e (codes.wrapped st o) (writable p a o) (wrapped x.me g.heap q) (may_write at_ q) (is_wrapped (language_of p) x.me e st.heap g.heap here.heap o q r.0) (may_write_is (language_of p) at_.context.me at_ refl a e here.spot o q r.0), owned_are st g e here words es s r.1)

    items_mine : (h : Heap) (s : v.Scene) (es : List Spec) (q : Ref) → every (λ (t : Tested). t.holds) (item_tests p (λ o. wrapped x.me h o && may_write at_ o) es s) ≡ true → is_in q (map (λ i. referent (v.value p i s)) es) ≡ true → wrapped x.me h q ≡ true
    items_mine h s [] q e i = absurd (cc (in_none q))
    items_mine h s (y ∷ ys) q e i =
        let r = referent (v.value p y s) in
        let b = and_both (wrapped x.me h r && may_write at_ r) (every (λ (t : Tested). t.holds) (item_tests p (λ o. wrapped x.me h o && may_write at_ o) ys s)) e in
        by r b.0 (λ j. items_mine h s ys q b.1 j) (same_ref q r) refl (sym (in_more q r (map (λ i. referent (v.value p i s)) ys)) ∙ i)
      where
        by : (r : Ref) → wrapped x.me h r && may_write at_ r ≡ true → (is_in q (map (λ i. referent (v.value p i s)) ys) ≡ true → wrapped x.me h q ≡ true) → (c : Bool) → same_ref q r ≡ c → c || is_in q (map (λ i. referent (v.value p i s)) ys) ≡ true → wrapped x.me h q ≡ true
        by r one_ rest true is or = subst (λ (o : Ref). wrapped x.me h o ≡ true) (sym (same_ref_is q r is)) (and_both (wrapped x.me h r) (may_write at_ r) one_).0
        by r one_ rest false is or = rest or

    handed : (e : E) (u : Formula) (r : Ref) → Has (language_of p) x.me e u (Refers r) → (os : List Formula) (rs : List Ref) → Refer (language_of p) x.me e os rs → (y : Formula) (h : Heap) → HeapIs (language_of p) x.me e y h → HeapIs (language_of p) x.me e (walk.transfer os u y) (hand_over h rs r)
    handed e u r hu [] [] k y h hy = same_columns (language_of p) x.me e y h (hand_over h [] r) (hand_none p h r) hy
    handed e u r hu [] (q ∷ rs) k y h hy = absurd k
    handed e u r hu (o ∷ os) [] k y h hy = absurd k
    handed e u r hu (o ∷ os) (q ∷ rs) k y h hy =
        let y1 = set owner_column y (o ∷ []) u in
        let h1 = put h q (record (h.get q) { owner = r }) in
        same_columns (language_of p) x.me e (walk.transfer os u y1) (hand_over h1 rs r) (hand_over h (q ∷ rs) r) (hand_more p h q rs r) (handed e u r hu os rs k.1 y1 h1 (set_owner (language_of p) x.me e y h o q hy k.0 u r hu))

    args_found : (vs : List VariableInfo) (es : List Expr) → args_fit p f vs es ≡ true → AllSee hid es → AllFit p f hid es
    args_found vs [] ok sees = tt
    args_found [] (y ∷ es) ok sees = absurd (cc)
    args_found (w ∷ vs) (y ∷ es) ok sees =
        let b = and_both (has_type p f y w.ty) (args_fit p f vs es) ok in
        let t = test_some p f (values p f y) (λ u. fits u w.ty) b.0 in
        (record { values_are = t.0; typed = t.1; seen = sees.0 }, args_found vs es b.1 sees.1)

    module _ (n : ℕ) (st : State) (h : Heap) (l : List Value) (env : Env p f h l) (num : ℕ) (es : List Expr) (sees : AllSee hid es) where
      abbrev g : Progress
      g = starting h l (Chosen news)

      abbrev Before : E → Type 0
      Before e = At p f at_ a hid st g e

      abbrev u : Formula
      u = reference st.references

      abbrev words : List Symbolic
      words = (all_symbolic p a st es).gives

      module _ (fi : FunctionInfo) (is : slice_get p.functions.items num ≡ Some fi) (ok : call_ok p f (Some fi) es ≡ true) where
        abbrev items : List Formula
        items = map (λ s. term (translate p s (call_scene me st.heap words))) fi.writes.items

        abbrev end : State
        end = with_heap (new_reference st).state (walk.transfer items u st.heap)

        abbrev path : Execution State
        path = after (all_symbolic p a st es) (λ args. walk.spawn p a (Some fi) args st)

        beside_known : Beside (language_of p) x.me n (count_of st) (count_of end) path (m.after (eval_all p at_ h l es n) (λ args. M.spawn p at_ num (Some fi) args (n + all_checks es) g)) Before (λ g' e. At p f at_ a hid end g' e)
        beside_known =
            let L = language_of p in
            let t = x.me in
            let c0 = count_of st in
            let c1 = one_reference c0 in
            let within : IsWithin c0 c1 = record { integers = omega arith; references = omega arith; heaps = omega arith } in
            let b = and_both (length es == fi.parameters) (args_fit p f (take fi.parameters fi.variables.items) es) ok in
            let n1 = n + all_checks es in
            let After : Progress → E → Type 0 = λ g' e. At p f at_ a hid end g' e in
            let facts_ = eq (typ u) (nat 1) ∷ not' (eq u me) ∷ node k.Idle (u ∷ st.heap ∷ []) ∷ [] in
            let h1_term = walk.transfer items u st.heap in
            let clauses_ = map (λ (c : Clause). formula p c.spec (call_scene u h1_term words)) fi.requires_.items in
            let behind = check_each clauses_ (Gives end) in
            let rest = all_facts facts_ behind in
            beside_after L t n n1 c0 c0 c1 (all_symbolic p a st es) (λ args. walk.spawn p a (Some fi) args st) (eval_all p at_ h l es n) (λ args. M.spawn p at_ num (Some fi) args n1 g) Before (λ vs e. AllStand L t e words vs) After
            (ap (λ j. n + j) (sym (all_symbolic_size p a st es))) within (beside_symbols p f at_ a hid st g env n c0 es (args_found (take fi.parameters fi.variables.items) es b.1 sees) Before (λ e z. z)) (λ vs came.
            let fit = on_gave (eval_all p at_ h l es n) (λ args. fit_parameters fi args ≡ true) vs (call_args p typed f at_ thread g env fi es n ok) came in
            let s = m.call_scene t h vs in
            let objects = map (λ i. referent (v.value p i s)) fi.writes.items in
            let tests = item_tests p (λ o. wrapped t h o && may_write at_ o) fi.writes.items s in
            let n2 = n1 + length objects in
            let B1 : E → Type 0 = λ e. Before e × AllStand L t e words vs in
            let stand : (e : E) → B1 e → Refer L t e items objects = λ e z. items_stand num fi is e st.heap h words vs z.0.heap env.heap.heap_of fit z.1 in
            beside_specs L t at_ tests n1 n2 c0 c1 Spawn (map (λ o. and' (codes.wrapped st o) (writable p a o)) items) rest (m.after (take_thread (Chosen news) t h) (λ w. M.started p at_ num fi vs objects w.which w.supply n2 g)) B1 After
            (ap (λ i. n1 + i) (length-map fi.writes.items (λ i. referent (v.value p i s)) ∙ sym (length-map fi.writes.items _))) within (λ e z. owned_are st g e z.0 items fi.writes.items s (stand e z)) (λ pass.
            beside_step L t n2 c0 c1 rest (take_thread (Chosen news) t h) (λ w. M.started p at_ num fi vs objects w.which w.supply n2 g) B1 After (thread_passes news t h) (λ w took.
            let r = w.which in
            let new = taken news t h w took in
            let x1 = a_reference L t c0 r (thread_reference r new.is) in
            let h1 = hand_over h objects r in
            let p1 = (passed_well_formed p typed f at_ thread g env objects r new.is (λ q i. items_mine h s fi.writes.items q pass i)).heap_of in
            let last = M.started p at_ num fi vs objects r w.supply n2 g in
            let g1 : Progress = record g { heap = h1; supply = w.supply; started = g.started ++ (callee p num fi r h1 vs ∷ []) } in
            let B2 : E → Type 0 = λ e. B1 e × x1.So e in
            let refers_ : (e : E) → B2 e → Has L t e u (Refers r) = λ e z. is_refers L t c0 r (thread_reference r new.is) e z.1 in
            let heap_is : (e : E) → B2 e → HeapIs L t e h1_term h1 = λ e z. handed e u r (refers_ e z) items objects (stand e z.0) st.heap h z.0.0.heap in
            beside_made L t n2 c0 c1 c1 x1 rest last B1 After
            (beside_facts L t n2 c1 c1 facts_ behind last B2 After
            (λ e z. let hu = refers_ e z in (
              holds_is L t e (eq (typ u) (nat 1)) (subst (λ b. Is L t e (eq (typ u) (nat 1)) b) new.is (is_eq L t e (typ u) (nat 1) (Int (pos r.ty)) (Int (pos 1)) (node_has (one hu) refl) (has_int L t e (pos 1)))),
              (
                holds_is L t e (not' (eq u me)) (subst (λ b. Is L t e (not' (eq u me)) (not b)) new.other (is_not L t e (eq u me) (same_ref r t) (is_eq L t e u me (Refers r) (Refers t) hu (has_me L t e)))),
                (holds_is L t e (node k.Idle (u ∷ st.heap ∷ [])) (node_has (more hu (one z.0.0.heap)) (record { is_bool = refl; yes = λ y. owns_none p h env.heap.heap_of.finite r new.is new.idle; holds = λ y. refl })), tt),
              ),
            ))
            (beside_specs L t at_ (clause_tests p fi.requires_.items (m.call_scene r h1 vs)) n2 (n2 + length fi.requires_.items) c1 c1 Spawn clauses_ (Gives end) (m.weighed (M.items_overflow p fi.writes.items (m.call_scene r h1 vs)) (m.Gives g1)) B2 After (ap (λ i. n2 + i) (sym (length-map fi.requires_.items _))) (within_self c1)
            (λ e z. clauses_stand num fi is e u r h1_term h1 words vs (refers_ e z) new.is (heap_is e z) p1 fit z.0.1) (λ pass'.
            let done = beside_gives L t (n2 + length fi.requires_.items) c1 end g1 B2 After (λ e z. let s = z.0.0 in record { spot = s.spot; many = s.many; heap = heap_is e z; locals = s.locals }) in
            record { goes = done.goes; fails = done.fails }))))))

        beside_spawn : Beside (language_of p) x.me n (count_of st) (count_of path.gives) path (m.after (eval_all p at_ h l es n) (λ args. M.spawn p at_ num (Some fi) args (n + all_checks es) g)) Before (λ g' e. At p f at_ a hid path.gives g' e)
        beside_spawn =
            let same : end ≡ path.gives = simp check_gives refl in
            subst (λ (s : State). Beside (language_of p) x.me n (count_of st) (count_of s) path (m.after (eval_all p at_ h l es n) (λ args. M.spawn p at_ num (Some fi) args (n + all_checks es) g)) Before (λ g' e. At p f at_ a hid s g' e)) same beside_known

      -- whichever function it is
      any_function : (o : Option FunctionInfo) → slice_get p.functions.items num ≡ o → call_ok p f o es ≡ true → (let q = after (all_symbolic p a st es) (λ args. walk.spawn p a o args st) in Beside (language_of p) x.me n (count_of st) (count_of q.gives) q (m.after (eval_all p at_ h l es n) (λ args. M.spawn p at_ num o args (n + all_checks es) g)) Before (λ g' e. At p f at_ a hid q.gives g' e))
      any_function None is ok = absurd (cc)
      any_function (Some fi) is ok = beside_spawn fi is ok

    module _ (n : ℕ) (st : State) (h : Heap) (l : List Value) (env : Env p f h l) (num : ℕ) (es : _) (ok : action_ok p f x.function (SpawnThread num es) ≡ true) (sees : AllSee hid es.items) where
      abbrev c : Action
      c = SpawnThread num es

      abbrev g0 : Progress
      g0 = starting h l (Chosen news)

      beside_start : Beside (language_of p) x.me n (count_of st) (count_of (walk.run_action p a f c st).gives) (walk.run_action p a f c st) (M.run_action p at_ c n g0) (λ e. At p f at_ a hid st g0 e) (λ g' e. At p f at_ a (after_stmt (Do line c) hid) (walk.run_action p a f c st).gives g' e)
      beside_start =
          let u = walk.run_action p a f c st in
          beside_less (language_of p) x.me n (count_of st) (count_of u.gives) u (M.run_action p at_ c n g0) (λ e. At p f at_ a hid st g0 e) (λ e. At p f at_ a hid st g0 e) (λ g' e. At p f at_ a hid u.gives g' e) (λ g' e. At p f at_ a (after_stmt (Do line c) hid) u.gives g' e) (λ e b. b)
          (λ g' came e b z. at_less p f at_ a hid (after_stmt (Do line c) hid) (still_hid hid line c refl) u.gives g' e z)
          (any_function n st h l env num es.items sees (slice_get p.functions.items num) refl ok)

      pub spawn_follows : (h' : Heap) (l' : List Value) → ActsTo p x f (act p x choices (Chosen news) line c n h l) h' l' → Follows (language_of p) x.me (size p typed f x fis thread a) (Spotted p typed f x fis thread a) hid (after_stmt (Do line c) hid) st (walk.run_action p a f c st) h (local l) h' (local l')
      spawn_follows = acted_follows p typed f x fis thread a line n c choices news st h l env ok hid (after_stmt (Do line c) hid) (walk.run_action p a f c st) (λ fit. beside_start)

      pub spawn_breaks : (label : ℕ) → FailsAt label (act p x choices (Chosen news) line c n h l) → Breaks (language_of p) x.me (size p typed f x fis thread a) (Spotted p typed f x fis thread a) label n hid st (walk.run_action p a f c st) h (local l)
      spawn_breaks = acted_breaks p typed f x fis thread a line n c choices news st h l env ok hid (after_stmt (Do line c) hid) (walk.run_action p a f c st) (λ fit. beside_start)
