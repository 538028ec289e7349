-- Where the machine's turn on an atomic block with one concrete statement goes on, so does the plain one on that statement.
use Rattle.std.proofs.Common.{◌≡◌, ℕ, ◌+◌, ◌==◌, Bool, true, false, not, ◌&&◌, List, [], ◌∷◌, map, length, Option, Some, None, slice_get, Vec, Global, ⊎_elim, refl, sym, ap, ◌∙◌, subst, arith}
use Rattle.std.specs.Prelude.{if◌then◌else◌}
use Rattle.object_types.specs.declared.references.Ref.{Ref}
use Rattle.object_types.specs.declared.values.Value.{Value}
use Rattle.method.specs.declared.program.CheckKind.TheVariants.{AtomicClosed, Invariant}
use Rattle.method.specs.declared.program.Expr.{Expr}
use Rattle.method.specs.declared.program.Target.{Target}
use Rattle.method.specs.declared.program.Operation.{Operation}
use Rattle.method.specs.declared.program.Operation.TheVariants.{CompareExchange, Exchange as Swap, Increment, Decrement}
use Rattle.method.specs.declared.program.InterlockedResult.{InterlockedResult}
use Rattle.method.specs.declared.program.InterlockedResult.TheVariants.{Plainly, Compared}
use Rattle.method.specs.declared.program.RightSide.{RightSide}
use Rattle.method.specs.declared.program.RightSide.TheVariants.{Compute, Malloc, NewClaim, Interlocked}
use Rattle.method.specs.declared.program.Simple.TheVariants.{Assign, ChangeOwned, EndClaim}
use Rattle.method.specs.declared.program.Inner.{Inner}
use Rattle.method.specs.declared.program.Inner.TheVariants.{Inside, InsideIf'}
use Rattle.method.specs.declared.program.FieldInfo.{FieldInfo}
use Rattle.method.specs.declared.program.DeclaredType.{DeclaredType}
use Rattle.method.specs.declared.program.DeclaredType.TheVariants.{Pointer}
use Rattle.method.specs.Tables.{is_struct}
use Rattle.method.specs.declared.program.FunctionInfo.{FunctionInfo}
use Rattle.method.specs.declared.program.Program.{Program}
use Rattle.object_types.specs.References.{is_thread, same_ref}
use Rattle.object_types.specs.Values.{referent}
use Rattle.method.specs.declared.program.Listed.{Listed}
use Rattle.method.specs.declared.program.Action.TheVariants.{Atomic}
use Rattle.method.specs.declared.program.Stmt.TheVariants.{Do}
use Rattle.method.specs.Legal.{Good}
use Rattle.object_types.specs.Sets.{every, is_in}
use Rattle.object_types.specs.Heap.{Heap, Same, closed_in}
use Rattle.method.specs.Typing.{Values, values, declared, WellTyped, Refs, test, is_test, is_pointer, point_to, are_ints, has_type, fits, only_if, truth_values, converted_values, takes, right_values, interlocked_values, afterwards_values, operands_fit, inner_ok}
use Rattle.method.specs.Expressions.{Outcome, Gives, after, Context, Spot, Tested, check_each, all_checks, eval_all, inv_test}
use Rattle.method.specs.Actions.{Place, Supply, spot, starting, act, no_tally, list_checks, list_tally, block_end, check_deferred, plain_listed, listed_exprs, listed_objects, Progress, Valued, Tally, inner_spot, left_side, right_side, store, run_simple, run_inner, run_list, inner_checks, inner_tally, tally_plus, target_checks, right_checks, operands}
use Rattle.method.specs.Machine.{Remaining, Run, Activation, Turn, went, begin, turn_of}
use Rattle.method.proofs.Global.{and_both, both_and, same_ref_is}
use Rattle.machine_laws.proofs.Outcomes.{OnGave, end_map, after_gave, after_any, check_each_gave, check_specs_gave, check_deferred_gave}
use Rattle.machine_laws.proofs.Steps.{Fine, ListedClosed, still_listed}
use Rattle.machine_laws.proofs.Simple.{test_some, cond_some}
use Rattle.machine_laws.proofs.Blocks.{inner_gave}
use Rattle.machine_laws.proofs.Typed.{Env, and_then_some, only_if_some, or_cases, not_both}
use Rattle.plain_machine.specs.PlainCode.{Code, StoreItem, PlainRight, Worth, Exchange, is_ghost_field, is_ghost_target, plain_inner, plain_code}
use Rattle.plain_machine.specs.PlainSteps.{Comes, Waits, Fails, Yields, next, fits_then, store_turn, PlainFrame, PlainTurn, PlainProgress, PlainValued, plain_place, plain_right, plain_store, plain_fits}
use Rattle.plain_machine.specs.Erasure.{concrete_locals, plain_heap, plain_frame}
use Rattle.erasure_law.specs.Laws.{LeadsIn}
use Rattle.plain_machine.specs.GhostApart.{GhostApart, concrete, concrete_place, concrete_right, concrete_result, ghost_right, ghost_inner, ghost_inners, inner_apart, concrete_statements}
use Rattle.erasure_law.proofs.Exprs.{end_both}
use Rattle.erasure_law.proofs.ValueKinds.{unghost}
use Rattle.erasure_law.proofs.Ghost.{Silent, silent_self, inner_silent}
use Rattle.erasure_law.proofs.Turns.{simple_left, list_silent, inner_left}
use Rattle.erasure_law.proofs.PlainSame.{store_of, store_of_same, SameProgress}
use Rattle.erasure_law.proofs.StoreTurns.{TypedExpr, Placed, Targeted, leads, item_of, frame_is}
use Rattle.erasure_law.proofs.ConcreteTurns.{concrete_store, taken, targeted}
use Rattle.erasure_law.proofs.BlockStores.{left_in, StoresIn, store_in, Worths, computes_in, TypedSwap, swaps_in, ResultTyped}

pub all_ghost : (p : Program) (f : FunctionInfo) (is : List Inner) → concrete_statements p f is ≡ 0 → every (ghost_inner p f) is ≡ true
all_ghost p f [] e = refl
all_ghost p f (i ∷ is) e = by (ghost_inner p f i) refl (λ n. all_ghost p f is n) e
  where
    by : (b : Bool) → ghost_inner p f i ≡ b → (concrete_statements p f is ≡ 0 → every (ghost_inner p f) is ≡ true) → (if b then 0 else 1) + concrete_statements p f is ≡ 0 → ghost_inner p f i && every (ghost_inner p f) is ≡ true
    by true g more n = both_and (ghost_inner p f i) (every (ghost_inner p f) is) g (more (omega (arith, n)))
    by false g more n = absurd (omega (arith, n))

pub ghost_first : (p : Program) (f : FunctionInfo) (i : Inner) (is : List Inner) (c : Code) → ghost_inner p f i ≡ true → plain_inner p f (i ∷ is) c ≡ plain_inner p f is c
ghost_first p f (Inside line s) is c g = simple_left p f line s (plain_inner p f is c) g
ghost_first p f (InsideIf' line e m a n b) is c g = refl

module _ (p : Program) (typed : WellTyped p) (apart : GhostApart p) (k : ℕ) (f : FunctionInfo) (is : slice_get p.functions.items k ≡ Some f) (x : Context) (thread : is_thread x.me ≡ true) (os : List Ref) where
  abbrev cl : List Value → List Value
  cl l = concrete_locals f.variables.items l

  abbrev Lists : Heap → Type 0
  Lists h = ListedClosed (λ o. is_in o os) h

  -- a concrete statement
  pub record Runs (line : ℕ) (t : Target) (r : PlainRight) (g g' : Progress) : Type 0 where
    pub after_store : PlainProgress
    pub gives : store_of p line (cl g.locals) t r (plain_heap p g.heap) ≡ Yields after_store
    pub heap : after_store.heap ≡ plain_heap p g'.heap
    pub locals : after_store.locals ≡ cl g'.locals
    pub started : g'.started ≡ g.started

  statement_runs : (line : ℕ) (t : Target) (r : RightSide) (pr : PlainRight) (n : ℕ) (tally : Tally) (g : Progress) (env : Env p f g.heap g.locals) (lists : Lists g.heap) → Targeted p f t →
      ((place : Place) → OnGave (right_side p (inner_spot p x os line) r place (n + target_checks t) tally g) (Worths p typed apart k f is x thread os line g env lists pr)) →
      OnGave (run_simple p (inner_spot p x os line) (Assign t r) n tally g) (Runs line t pr g)
  statement_runs line t r pr n tally g env lists tg right =
      let at_ = inner_spot p x os line in
      let j = plain_heap p g.heap in
      let l = cl g.locals in
      let m = n + target_checks t + right_checks p true r in
      let stores : Place → Valued → Outcome Progress = λ place v. store p at_ place v.value m v.starting in
      let rights : Place → Outcome Progress = λ place. after (right_side p at_ r place (n + target_checks t) tally g) (stores place) in
      after_gave (left_side p at_ t n g) rights (λ place. Placed p f place × (plain_place p line j l t ≡ Yields place)) (Runs line t pr g) (left_in p typed apart k f is x thread os line g env lists t n tg) (λ place y.
      after_gave (right_side p at_ r place (n + target_checks t) tally g) (stores place) (Worths p typed apart k f is x thread os line g env lists pr) (Runs line t pr g) (right place) (λ v w.
      let env' = w.fine.ready in
      let lists' = still_listed p f x (λ o. is_in o os) g v.starting w.fine lists in
      end_map (store p at_ place v.value m v.starting).end (StoresIn p typed apart k f is x thread os line v.starting env' lists' place v.value) (Runs line t pr g) (λ g' z. record {
        after_store = z.after_store;
        gives =
            ap (λ (o : Comes Place). next o (λ q. next (plain_right p line pr [] j l) (λ u. plain_store p line q u.value u.heap l))) y.1 ∙
            ap (λ (o : Comes PlainValued). next o (λ u. plain_store p line place u.value u.heap l)) w.gives ∙
            sym (ap (λ ls. plain_store p line place v.value (plain_heap p v.starting.heap) (cl ls)) w.locals) ∙ z.gives;
        heap = z.heap;
        locals = z.locals;
        started = z.started ∙ w.started;
      }) (store_in p typed apart k f is x thread os line v.starting env' lists' place v.value m y.0)))

  -- a block's statements
  pub record BlockRuns (j : Heap) (l : List Value) (body : List Inner) (started : List Context) (g' : Progress) : Type 0 where
    pub line : ℕ
    pub target : Target
    pub right : PlainRight
    pub code : (c : Code) → plain_inner p f body c ≡ StoreItem line target right c
    pub no_choice : plain_fits p right [] ≡ true
    pub after_store : PlainProgress
    pub gives : store_of p line l target right j ≡ Yields after_store
    pub heap : Same after_store.heap (plain_heap p g'.heap)
    pub locals : after_store.locals ≡ cl g'.locals
    pub starts : g'.started ≡ started

  -- the concrete one, and ghost ones behind it
  then_silent : (j : Heap) (l : List Value) (line : ℕ) (t : Target) (pr : PlainRight) (r : RightSide) (body : List Inner) (g g1 g' : Progress) → ((c : Code) → plain_inner p f (Inside line (Assign t r) ∷ body) c ≡ StoreItem line t pr c) → plain_fits p pr [] ≡ true → Same j (plain_heap p g.heap) → l ≡ cl g.locals → Runs line t pr g g1 → Silent p f g1 g' → BlockRuns j l (Inside line (Assign t r) ∷ body) g.started g'
  then_silent j l line t pr r body g g1 g' code fits_none s e y z =
      let at_l : store_of p line l t pr (plain_heap p g.heap) ≡ Yields y.after_store = ap (λ ls. store_of p line ls t pr (plain_heap p g.heap)) e ∙ y.gives in
      let w = subst (λ c. SameProgress (store_of p line l t pr j) c) at_l (store_of_same p line l t pr j (plain_heap p g.heap) s) in
      record {
        line = line;
        target = t;
        right = pr;
        code = code;
        no_choice = fits_none;
        after_store = w.0;
        gives = w.1;
        heap = λ o. z.heap o ∙ ap (λ (h : Heap). h.get o) (sym y.heap) ∙ w.3 o;
        locals = w.2 ∙ y.locals ∙ sym z.locals;
        starts = z.started ∙ y.started;
      }

  behind_store : (line : ℕ) (t : Target) (r : RightSide) (pr : PlainRight) (body : List Inner) (n : ℕ) (tally : Tally) (g : Progress) (j : Heap) (l : List Value) → ((c : Code) → plain_inner p f (Inside line (Assign t r) ∷ body) c ≡ StoreItem line t pr c) → plain_fits p pr [] ≡ true → every (ghost_inner p f) body ≡ true → Same j (plain_heap p g.heap) → l ≡ cl g.locals →
      OnGave (run_simple p (inner_spot p x os line) (Assign t r) n tally g) (Runs line t pr g) → OnGave (run_list p x os (Inside line (Assign t r) ∷ body) n tally g) (BlockRuns j l (Inside line (Assign t r) ∷ body) g.started)
  behind_store line t r pr body n tally g j l code fits_none rest s e y =
      let i = Inside line (Assign t r) in
      let more : Progress → Outcome Progress = λ g1. run_list p x os body (n + inner_checks p i) (tally_plus tally (inner_tally p i)) g1 in
      after_gave (run_simple p (inner_spot p x os line) (Assign t r) n tally g) more (Runs line t pr g) (BlockRuns j l (i ∷ body) g.started) y (λ g1 z.
      end_map (more g1).end (Silent p f g1) (BlockRuns j l (i ∷ body) g.started) (λ g' w. then_silent j l line t pr r body g g1 g' code fits_none s e z w)
      (list_silent p f x os g1 body (n + inner_checks p i) (tally_plus tally (inner_tally p i)) g1 rest (silent_self p f g1)))

  -- typed parts of Interlocked calls

  loose_test : (o : Option Values) (ok : Values → Bool) → test p f o ok ≡ true → test p f o (λ v. true) ≡ true
  loose_test None ok e = e
  loose_test (Some u) ok e = refl

  operands_test : (op : Operation) (ty : DeclaredType) → operands_fit p f op ty ≡ true → every (is_test p f) (operands op) ≡ true
  operands_test (CompareExchange new old) ty e =
      let b = and_both (has_type p f new ty) (test p f (values p f old) are_ints) e in
      both_and (is_test p f new) (is_test p f old && true) (loose_test (values p f new) (λ v. fits v ty) b.0) (both_and (is_test p f old) true (loose_test (values p f old) are_ints b.1) refl)
  operands_test (Swap new) ty e = both_and (is_test p f new) true (loose_test (values p f new) (λ v. fits v ty) e) refl
  operands_test Increment ty e = refl
  operands_test Decrement ty e = refl

  module _ (line : ℕ) (g : Progress) (env : Env p f g.heap g.locals) (lists : Lists g.heap) where
    result_typed : (then' : InterlockedResult) (u vs : Values) → afterwards_values p f then' u ≡ Some vs → concrete_result p f then' ≡ true → ResultTyped p typed apart k f is x thread os line then'
    result_typed (Plainly c) u vs e c' = tt
    result_typed (Compared c equal e d) u vs w c' =
        let b = and_then_some (values p f e) (λ w. only_if (are_ints w) (converted_values p f d truth_values)) vs w in
        record { which = b.first; has = b.is; plain = c' }

    abbrev TypedCall : Expr → ℕ → Operation → InterlockedResult → Type 0
    TypedCall e q op then' = TypedSwap p typed apart k f is x thread os line g env lists e q op then'

    call_typed : (e : Expr) (q : ℕ) (op : Operation) (then' : InterlockedResult) (o : Option FieldInfo) (vs : Values) → slice_get p.fields.items q ≡ o → interlocked_values p f e o op then' ≡ Some vs → concrete_right p f (Interlocked e q op then') ≡ true → TypedCall e q op then'
    call_typed e q op then' None vs i w c = absurd (cc (w))
    call_typed e q op then' (Some i) vs fi w c =
        let a = cond_some (is_pointer p f (λ n. n == i.of) e && (i.is_volatile && (are_ints (declared i.ty) && operands_fit p f op i.ty))) (afterwards_values p f then' (declared i.ty)) vs w in
        let a1 = and_both (is_pointer p f (λ n. n == i.of) e) (i.is_volatile && (are_ints (declared i.ty) && operands_fit p f op i.ty)) a.0 in
        let a2 = and_both i.is_volatile (are_ints (declared i.ty) && operands_fit p f op i.ty) a1.1 in
        let a3 = and_both (are_ints (declared i.ty)) (operands_fit p f op i.ty) a2.1 in
        let t = test_some p f (values p f e) (point_to (λ n. n == i.of)) a1.0 in
        let c1 = and_both (concrete p f e && not (is_ghost_field p q)) (every (concrete p f) (operands op) && concrete_result p f then') c in
        let c2 = and_both (concrete p f e) (not (is_ghost_field p q)) c1.0 in
        let c3 = and_both (every (concrete p f) (operands op)) (concrete_result p f then') c1.1 in
        record {
          info = i;
          field = fi;
          object = record { which = t.0; has = t.1; plain = c2.0 };
          points = t.2;
          operands_typed = a3.1;
          tests = operands_test op i.ty a3.1;
          concretes = c3.0;
          result = result_typed then' (declared i.ty) vs a.1 c3.1;
          plain = unghost (is_ghost_field p q) c2.1;
        }

  -- a concrete statement, with ghost ones behind it
  store_runs : (line : ℕ) (t : Target) (r : RightSide) (body : List Inner) (n : ℕ) (tally : Tally) (g : Progress) (env : Env p f g.heap g.locals) (lists : Lists g.heap) (j : Heap) (l : List Value) → is_ghost_target p f t ≡ false → concrete_place p f t ≡ true → concrete_right p f r ≡ true → takes p f t (right_values p f k true r) ≡ true →
      every (ghost_inner p f) body ≡ true → Same j (plain_heap p g.heap) → l ≡ cl g.locals → OnGave (run_list p x os (Inside line (Assign t r) ∷ body) n tally g) (BlockRuns j l (Inside line (Assign t r) ∷ body) g.started)
  store_runs line t (Compute e) body n tally g env lists j l gh pl co ok rest s q =
      let v = taken p f t (values p f e) ok in
      let te : TypedExpr p f e = record { which = v.0; has = v.1; plain = co } in
      behind_store line t (Compute e) (Worth e) body n tally g j l (λ c. ap (λ b. if b then plain_inner p f body c else StoreItem line t (Worth e) (plain_inner p f body c)) gh ∙ ap (StoreItem line t (Worth e)) (inner_left p f body c rest)) refl rest s q
      (statement_runs line t (Compute e) (Worth e) n tally g env lists (targeted p f t (values p f e) ok gh pl) (λ place. computes_in p typed apart k f is x thread os line g env lists e te place (n + target_checks t) tally))
  store_runs line t (Malloc ty) body n tally g env lists j l gh pl co ok rest s q =
      let v = taken p f t (only_if (not true && is_struct p ty) (Refs (Pointer ty))) ok in
      absurd (not_both false (only_if_some (not true && is_struct p ty) (Refs (Pointer ty)) v.0 v.1).0 refl)
  store_runs line t (NewClaim m) body n tally g env lists j l gh pl co ok rest s q = absurd (not_both false co refl)
  store_runs line t (Interlocked e i op then') body n tally g env lists j l gh pl co ok rest s q =
      let o = interlocked_values p f e (slice_get p.fields.items i) op then' in
      let v = taken p f t o ok in
      let tc = call_typed line g env lists e i op then' (slice_get p.fields.items i) v.0 refl v.1 co in
      let pr = Exchange e i op then' in
      behind_store line t (Interlocked e i op then') pr body n tally g j l (λ c. ap (λ b. if b then plain_inner p f body c else StoreItem line t pr (plain_inner p f body c)) gh ∙ ap (StoreItem line t pr) (inner_left p f body c rest)) refl rest s q
      (statement_runs line t (Interlocked e i op then') pr n tally g env lists (targeted p f t o ok gh pl) (λ place. swaps_in p typed apart k f is x thread os line g env lists e i op then' tc place (n + target_checks t) tally))

  -- a block's statements, one of them concrete
  first_runs : (i : Inner) (body : List Inner) (n : ℕ) (tally : Tally) (g : Progress) (env : Env p f g.heap g.locals) (lists : Lists g.heap) (j : Heap) (l : List Value) → ghost_inner p f i ≡ false → inner_apart p f i ≡ true → inner_ok p f k i ≡ true → every (ghost_inner p f) body ≡ true →
      Same j (plain_heap p g.heap) → l ≡ cl g.locals → OnGave (run_list p x os (i ∷ body) n tally g) (BlockRuns j l (i ∷ body) g.started)
  first_runs (InsideIf' line e m a q b) body n tally g env lists j l gh ap' ok rest s e' = absurd (not_both (ghost_inners p f a && ghost_inners p f b) ap' gh)
  first_runs (Inside line (ChangeOwned c e es)) body n tally g env lists j l gh ap' ok rest s e' = absurd (not_both true refl gh)
  first_runs (Inside line (EndClaim q e es)) body n tally g env lists j l gh ap' ok rest s e' = absurd (not_both true refl gh)
  first_runs (Inside line (Assign t r)) body n tally g env lists j l gh ap' ok rest s e' =
      let b = concrete_store (is_ghost_target p f t) (ghost_right p f r) (concrete_place p f t && concrete_right p f r) ap' gh in
      let c = and_both (concrete_place p f t) (concrete_right p f r) b.1 in
      store_runs line t r body n tally g env lists j l b.0 c.0 c.1 ok rest s e'

  list_runs : (body : List Inner) → every (inner_apart p f) body ≡ true → every (inner_ok p f k) body ≡ true → concrete_statements p f body ≡ 1 → (n : ℕ) (tally : Tally) (g : Progress) (env : Env p f g.heap g.locals) (lists : Lists g.heap) (j : Heap) (l : List Value) →
      Same j (plain_heap p g.heap) → l ≡ cl g.locals → OnGave (run_list p x os body n tally g) (BlockRuns j l body g.started)
  list_runs [] ap' ok one n tally g env lists j l s e = absurd (omega (arith, one))
  list_runs (i ∷ body) ap' ok one n tally g env lists j l s e =
      let a = and_both (inner_apart p f i) (every (inner_apart p f) body) ap' in
      let o = and_both (inner_ok p f k i) (every (inner_ok p f k) body) ok in
      by (ghost_inner p f i) refl a.0 o.0 (λ m t g1 env1 lists1 s1 e1 one1. list_runs body a.1 o.1 one1 m t g1 env1 lists1 j l s1 e1) one
    where
      by : (b : Bool) → ghost_inner p f i ≡ b → inner_apart p f i ≡ true → inner_ok p f k i ≡ true →
          ((m : ℕ) (t : Tally) (g1 : Progress) (env1 : Env p f g1.heap g1.locals) (lists1 : Lists g1.heap) → Same j (plain_heap p g1.heap) → l ≡ cl g1.locals → concrete_statements p f body ≡ 1 → OnGave (run_list p x os body m t g1) (BlockRuns j l body g1.started)) →
          (if b then 0 else 1) + concrete_statements p f body ≡ 1 → OnGave (run_list p x os (i ∷ body) n tally g) (BlockRuns j l (i ∷ body) g.started)
      by true gh a o more one =
          let later : Progress → Outcome Progress = λ g1. run_list p x os body (n + inner_checks p i) (tally_plus tally (inner_tally p i)) g1 in
          let FineIn : Progress → Type 0 = Fine p f x (λ q. is_in q os) g in
          after_gave (run_inner p x os i n tally g) later (λ g1. Silent p f g g1 × FineIn g1) (BlockRuns j l (i ∷ body) g.started)
          (end_both (run_inner p x os i n tally g) (Silent p f g) FineIn (inner_silent p f x os g i n tally g gh (silent_self p f g)) (inner_gave p typed f k is x thread os i n tally g env lists o)) (λ g1 z.
          end_map (later g1).end (BlockRuns j l body g1.started) (BlockRuns j l (i ∷ body) g.started) (λ g' y. record {
            line = y.line;
            target = y.target;
            right = y.right;
            code = λ c. ghost_first p f i body c gh ∙ y.code c;
            no_choice = y.no_choice;
            after_store = y.after_store;
            gives = y.gives;
            heap = y.heap;
            locals = y.locals;
            starts = y.starts ∙ z.0.started;
          })
          (more (n + inner_checks p i) (tally_plus tally (inner_tally p i)) g1 z.1.ready (still_listed p f x (λ q. is_in q os) g g1 z.1 lists) (λ q. z.0.heap q ∙ s q) (e ∙ sym z.0.locals) (omega (arith, one))))
      by false gh a o more one = first_runs i body n tally g env lists j l gh a o (all_ghost p f body (omega (arith, one))) s e

-- a block's turn

closed_at : (h : Heap) (os : List Ref) (o : Ref) → every (λ b. b) (map (closed_in h) os) ≡ true → is_in o os ≡ true → closed_in h o ≡ true
unfolding is_in
closed_at h [] o c e = absurd (not_both false e refl)
closed_at h (q ∷ os) o c e =
    let b = and_both (closed_in h q) (every (λ b. b) (map (closed_in h) os)) c in
    ⊎_elim (λ z. subst (λ (r : Ref). closed_in h r ≡ true) (sym (same_ref_is o q z)) b.0) (λ z. closed_at h os o b.1 z) (or_cases (same_ref o q) (is_in o os) e)

module _ (p : Program) (typed : WellTyped p) (apart : GhostApart p) (f : FunctionInfo) (a : Activation) (is : slice_get p.functions.items a.context.function ≡ Some f) (below : List Activation) (h : Heap) (good : Good p h) (env : Env p f h a.locals) (thread : is_thread a.context.me ≡ true) where
  abbrev item : List Value → Code → Comes PlainTurn
  item choices c = item_of p typed apart f a is below h good env choices c

  end_kept : (at_ : Spot) (body : List Inner) (ls : List Listed) (os : List Ref) (h0 : Heap) (n : ℕ) (g : Progress) (Q : Progress → Type 0) → Q g → OnGave (block_end p at_ body ls os h0 n g) Q
  end_kept at_ body ls os h0 n g Q y =
      let tests : Ref → Tested = λ o. inv_test p o h0 g.heap in
      let o2 : Outcome Progress = check_deferred at_ tests g.made (n + plain_listed ls + (list_tally p body).objects) (Gives g) in
      let o1 : Outcome Progress = check_deferred at_ tests g.changed (n + plain_listed ls) o2 in
      check_specs_gave at_ (map tests (listed_objects ls os)) n Invariant o1 Q (λ a.
      check_deferred_gave at_ tests g.changed (n + plain_listed ls) o2 Q (λ b.
      check_deferred_gave at_ tests g.made (n + plain_listed ls + (list_tally p body).objects) (Gives g) Q (λ c. y)))

  block_item : (line : ℕ) (t : Target) (r : PlainRight) (c : Code) (z : PlainProgress) → plain_fits p r [] ≡ true → store_of p line (concrete_locals f.variables.items a.locals) t r (plain_heap p h) ≡ Yields z →
      item [] (StoreItem line t r c) ≡ Yields (record { heap = z.heap; frames = record { function = a.context.function; locals = z.locals; code = c } ∷ map (plain_frame p) below; started = []; line = line })
  block_item line t r c z k e =
      let cl = concrete_locals f.variables.items a.locals in
      let ph = plain_heap p h in
      let fr : PlainFrame = record { function = a.context.function; locals = cl; code = StoreItem line t r c } in
      let rest = map (plain_frame p) below in
      let turns : Comes PlainProgress → Comes PlainTurn = store_turn p [] fr rest ph line c in
      ap (λ b. fits_then b (next (plain_place p line ph cl t) (λ place. next (plain_right p line r [] ph cl) (λ v. turns (plain_store p line place v.value v.heap cl))))) k ∙
      sym (next_next (plain_place p line ph cl t) (λ place. next (plain_right p line r [] ph cl) (λ v. plain_store p line place v.value v.heap cl)) (λ place. next (plain_right p line r [] ph cl) (λ v. turns (plain_store p line place v.value v.heap cl))) (turned line c fr) (λ place. next_next (plain_right p line r [] ph cl) (λ v. plain_store p line place v.value v.heap cl) (λ v. turns (plain_store p line place v.value v.heap cl)) (turned line c fr) (λ v. refl))) ∙
      ap turns e
    where
      turned : ℕ → Code → PlainFrame → PlainProgress → Comes PlainTurn
      turned line c fr g = Yields (record { heap = g.heap; frames = record fr { locals = g.locals; code = c } ∷ map (plain_frame p) below; started = []; line = line })

      next_next : {A B C : Type 0} (d : Comes A) (f : A → Comes B) (k : A → Comes C) (g : B → Comes C) → ((a : A) → next (f a) g ≡ k a) → next (next d f) g ≡ next d k
      next_next Waits f k g e = refl
      next_next (Fails kind line) f k g e = refl
      next_next (Yields a) f k g e = e a

  -- what a block leaves
  record BlockActs (c : Comes PlainTurn) (code : List Remaining) (g : Progress) : Type 0 where
    line : ℕ
    turn : PlainTurn
    gives : c ≡ Yields turn
    heap : Same turn.heap (plain_heap p g.heap)
    frames : turn.frames ≡ record { function = a.context.function; locals = concrete_locals f.variables.items g.locals; code = plain_code p f code } ∷ map (plain_frame p) below
    started : turn.started ≡ map (λ x. plain_frame p (begin p x)) g.started
    at_line : turn.line ≡ line

  pub block_goes : (supply : Supply) (choices : List Value) (line : ℕ) (ls : Vec Listed Global) (body : Vec Inner Global) (code : List Remaining) → every (inner_apart p f) body.items ≡ true → every (inner_ok p f a.context.function) body.items ≡ true → concrete_statements p f body.items ≡ 1 →
      OnGave (turn_of p supply choices a (Run (Do line (Atomic ls body)) ∷ code) below h) (LeadsIn p (item choices (plain_inner p f body.items (plain_code p f code))))
  unfolding act
  block_goes supply (w ∷ ws) line ls body code k ok one = tt
  block_goes supply [] line ls body code k ok one =
      let at_ = spot a.context [] line in
      let g = starting h a.locals supply in
      let cl = concrete_locals f.variables.items a.locals in
      let m = 0 + all_checks (listed_exprs ls.items) in
      let c = plain_inner p f body.items (plain_code p f code) in
      let Left : Progress → Type 0 = BlockActs (item [] c) code in
      let turns : Progress → Outcome Turn = λ g'. Gives (record { heap = g'.heap; frames = went a g'.locals code ∷ below; started = g'.started; line = line }) in
      let ends : List Ref → Progress → Outcome Progress = λ os g'. block_end p at_ body.items ls.items os h (m + length ls.items + list_checks p body.items) g' in
      let runs : List Ref → Outcome Progress = λ os. after (run_list p a.context os body.items (m + length ls.items) no_tally g) (ends os) in
      let whole : List Value → Outcome Progress = λ vs. check_each at_ (map (closed_in h) (map referent vs)) m AtomicClosed (runs (map referent vs)) in
      after_gave (after (eval_all p at_ h a.locals (listed_exprs ls.items) 0) whole) turns Left (LeadsIn p (item [] c))
      (after_any (eval_all p at_ h a.locals (listed_exprs ls.items) 0) whole Left (λ vs.
      let os = map referent vs in
      check_each_gave at_ (map (closed_in h) os) m AtomicClosed (runs os) Left (λ closed.
      after_gave (run_list p a.context os body.items (m + length ls.items) no_tally g) (ends os) Left Left
      (end_map (run_list p a.context os body.items (m + length ls.items) no_tally g).end (BlockRuns p typed apart a.context.function f is a.context thread os (plain_heap p h) cl body.items []) Left (λ g' y. record {
        line = y.line;
        turn = record { heap = y.after_store.heap; frames = record { function = a.context.function; locals = y.after_store.locals; code = plain_code p f code } ∷ map (plain_frame p) below; started = []; line = y.line };
        gives = ap (item []) (y.code (plain_code p f code)) ∙ block_item y.line y.target y.right (plain_code p f code) y.after_store y.no_choice y.gives;
        heap = y.heap;
        frames = ap (λ l. record { function = a.context.function; locals = l; code = plain_code p f code } ∷ map (plain_frame p) below) y.locals;
        started = sym (ap (map (λ x. plain_frame p (begin p x))) y.starts);
        at_line = refl;
      })
      (list_runs p typed apart a.context.function f is a.context thread os body.items k ok one (m + length ls.items) no_tally g env (λ o i n. closed_at h os o closed i) (plain_heap p h) cl (λ o. refl) refl))
      (λ g' y. end_kept at_ body.items ls.items os h (m + length ls.items + list_checks p body.items) g' Left y))))
      (λ g' y. (
        y.line,
        leads p (item [] c) y.turn (record { heap = g'.heap; frames = went a g'.locals code ∷ below; started = g'.started; line = y.line }) y.gives (record {
          heap = y.heap;
          frames = y.frames ∙ ap (λ z. z ∷ map (plain_frame p) below) (frame_is p typed apart f a is below h good env g'.locals code);
          started = y.started;
          line = y.at_line;
        }),
      ))
