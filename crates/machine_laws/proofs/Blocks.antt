-- Atomic blocks.
use Rattle.std.proofs.Common.{◌≡◌, ℕ, suc, ◌+◌, Bool, true, false, cond, not, ◌&&◌, ◌||◌, ◌⊎◌, ⊎_elim, refl, sym, ap, ◌∙◌, subst, List, [], ◌∷◌, map, length, Some, slice_get, arith}
use Rattle.object_types.specs.declared.references.Ref.{Ref}
use Rattle.object_types.specs.declared.values.Value.{Value}
use Rattle.object_types.specs.declared.values.Value.TheVariants.{Int, Ref as Refers}
use Rattle.method.specs.declared.program.CheckKind.TheVariants.{Invariant, AtomicClosed}
use Rattle.method.specs.declared.program.DeclaredType.TheVariants.{Claim}
use Rattle.method.specs.declared.program.Inner.{Inner, Row_of-Inner, end_of-Inner, more_of-Inner}
use Rattle.method.specs.declared.program.Inner.TheVariants.{Inside, InsideIf'}
use Rattle.method.specs.declared.program.Listed.{Listed}
use Rattle.method.specs.declared.program.FunctionInfo.{FunctionInfo}
use Rattle.method.specs.declared.program.Program.{Program}
use Rattle.object_types.specs.References.{same_ref, is_null, is_thread, is_claim}
use Rattle.object_types.specs.Values.{referent, truth}
use Rattle.object_types.specs.Sets.{every, is_in}
use Rattle.object_types.specs.Heap.{Heap, is_closed, closed_in}
use Rattle.method.specs.Tables.{in_type}
use Rattle.method.specs.Invariants.{inv_holds, Inv}
use Rattle.method.specs.Legal.{Legal}
use Rattle.method.specs.Typing.{Values, fits, values, test, are_refs, is_test, is_ref, is_claim_expr, inner_ok, inner_row_ok, WellTyped}
use Rattle.method.specs.Expressions.{Gives, Context, Spot, Tested, inv_test, check_each, after, eval, eval_all, checks, all_checks}
use Rattle.method.specs.Actions.{Progress, Tally, no_tally, Deferred, run_simple, inner_spot, run_inner, run_row, run_list, inner_checks, row_checks, list_checks, tally_plus, inner_tally, row_tally, list_tally, listed_exprs, listed_objects, plain_listed, check_deferred, block_end, atomic}
use Rattle.method.proofs.Global.{and_both, same_ref_is}
use Rattle.machine_laws.proofs.Outcomes.{OnGave, after_gave, after_any, check_each_gave, check_specs_gave, check_deferred_gave, end_map}
use Rattle.machine_laws.proofs.Typed.{not_both, or_cases, or_left, or_right, null_is, is_of, to_type, Env, eval_of}
use Rattle.machine_laws.proofs.Heaps.{false_from_ne_true, not-true, in_more, in_none}
use Rattle.machine_laws.proofs.Parts.{legal_by, Unopened, onward_unopened}
use Rattle.machine_laws.proofs.Steps.{noted, tested_by, Fine, fine_same, fine_trans, ListedClosed, still_listed, none_new}
use Rattle.machine_laws.proofs.Claims.{tests_at}
use Rattle.machine_laws.proofs.Simple.{test_some, Done, simple_gave, either_outcome}
use Rattle.machine_laws.proofs.Apart.{Apart}

module _ (p : Program) (typed : WellTyped p) (f : FunctionInfo) (k : ℕ) (fis : slice_get p.functions.items k ≡ Some f) (x : Context) (thread : is_thread x.me ≡ true) (os : List Ref) where
  abbrev listing : Ref → Bool
  listing o = is_in o os

  abbrev FineIn : Progress → Progress → Type 0
  FineIn g g' = Fine p f x listing g g'

  mutual
    pub inner_gave :
        (i : Inner) (n : ℕ) (tally : Tally) (g : Progress) → Env p f g.heap g.locals → ListedClosed listing g.heap → inner_ok p f k i ≡ true →
        OnGave (run_inner p x os i n tally g) (FineIn g)
    inner_gave (Inside line s) n tally g env lists e =
        end_map (run_simple p (inner_spot p x os line) s n tally g).end (Done p typed f (inner_spot p x os line) thread g) (FineIn g) (λ g' d. d.fine)
        (simple_gave p typed f (inner_spot p x os line) thread g env lists k fis s n tally (λ out. absurd (cc)) e)
    inner_gave (InsideIf' line t m a q b) n tally g env lists e =
        let c = and_both (is_test p f t) (inner_row_ok p f k a && inner_row_ok p f k b) e in
        let d = and_both (inner_row_ok p f k a) (inner_row_ok p f k b) c.1 in
        let left = run_row p x os a (n + checks t) tally g in
        let right = run_row p x os b (n + checks t + row_checks p a) (tally_plus tally (row_tally p a)) g in
        after_any (eval p (inner_spot p x os line) g.heap g.locals t n) (λ v. cond (truth v) left right) (FineIn g) (λ v.
        either_outcome (truth v) left right (FineIn g) (row_gave a (n + checks t) tally g env lists d.0)
        (row_gave b (n + checks t + row_checks p a) (tally_plus tally (row_tally p a)) g env lists d.1))

    pub row_gave :
        {m : _} (row : Row_of-Inner m) (n : ℕ) (tally : Tally) (g : Progress) → Env p f g.heap g.locals → ListedClosed listing g.heap → inner_row_ok p f k row ≡ true →
        OnGave (run_row p x os row n tally g) (FineIn g)
    row_gave end_of-Inner n tally g env lists e = fine_same p f x listing g env
    row_gave (more_of-Inner i row) n tally g env lists e =
        let b = and_both (inner_ok p f k i) (inner_row_ok p f k row) e in
        after_gave (run_inner p x os i n tally g) (λ g'. run_row p x os row (n + inner_checks p i) (tally_plus tally (inner_tally p i)) g') (FineIn g)
        (FineIn g) (inner_gave i n tally g env lists b.0) (λ g' y.
        end_map (run_row p x os row (n + inner_checks p i) (tally_plus tally (inner_tally p i)) g').end (FineIn g') (FineIn g) (λ g2 z. fine_trans p f x listing g g' g2 y z)
        (row_gave row (n + inner_checks p i) (tally_plus tally (inner_tally p i)) g' y.ready (still_listed p f x listing g g' y lists) b.1))

  pub list_gave :
      (is : List Inner) (n : ℕ) (tally : Tally) (g : Progress) → Env p f g.heap g.locals → ListedClosed listing g.heap → every (inner_ok p f k) is ≡ true →
      OnGave (run_list p x os is n tally g) (FineIn g)
  list_gave [] n tally g env lists e = fine_same p f x listing g env
  list_gave (i ∷ is) n tally g env lists e =
      let b = and_both (inner_ok p f k i) (every (inner_ok p f k) is) e in
      after_gave (run_inner p x os i n tally g) (λ g'. run_list p x os is (n + inner_checks p i) (tally_plus tally (inner_tally p i)) g') (FineIn g)
      (FineIn g) (inner_gave i n tally g env lists b.0) (λ g' y.
      end_map (run_list p x os is (n + inner_checks p i) (tally_plus tally (inner_tally p i)) g').end (FineIn g') (FineIn g) (λ g2 z. fine_trans p f x listing g g' g2 y z)
      (list_gave is (n + inner_checks p i) (tally_plus tally (inner_tally p i)) g' y.ready (still_listed p f x listing g g' y lists) b.1))

-- those whose declared type is \claim are NULL or claims
abbrev pub ListedOk : List Listed → List Ref → Type 0
ListedOk [] os = Unit {0}
ListedOk (i ∷ is) [] = Unit {0}
ListedOk (i ∷ is) (o ∷ os) = (i.is_claim ≡ true → (is_null o ≡ true) ⊎ (is_claim o ≡ true)) × ListedOk is os

listed_in : (ls : List Listed) (os : List Ref) (o : Ref) → length os ≡ length ls → ListedOk ls os → is_in o os ≡ true → is_claim o ≡ false → is_null o ≡ false → is_in o (listed_objects ls os) ≡ true
listed_in ls [] o l ok i c n = absurd (cc (in_none o))
listed_in [] (x ∷ xs) o l ok i c n = absurd (cc)
listed_in (j ∷ js) (x ∷ xs) o l ok i c n = by (λ k. listed_in js xs o (omega (arith, l)) ok.1 k c n) j.is_claim refl
  where
    by : (is_in o xs ≡ true → is_in o (listed_objects js xs) ≡ true) → (b : Bool) → j.is_claim ≡ b → is_in o (cond b (listed_objects js xs) (x ∷ listed_objects js xs)) ≡ true
    by more true e = ⊎_elim
        (λ s. let w = same_ref_is o x s in absurd (⊎_elim (λ a. not_both (is_null o) (ap is_null w ∙ a) n) (λ a. not_both (is_claim o) (ap is_claim w ∙ a) c) (ok.0 e)))
        more
        (or_cases (same_ref o x) (is_in o xs) (sym (in_more o x xs) ∙ i))
    by more false e = in_more o x (listed_objects js xs) ∙ ⊎_elim
        (λ s. or_left (same_ref o x) (is_in o (listed_objects js xs)) s)
        (λ k. or_right (same_ref o x) (is_in o (listed_objects js xs)) (more k))
        (or_cases (same_ref o x) (is_in o xs) (sym (in_more o x xs) ∙ i))

claim_value : (v : Value) → in_type Claim v ≡ true → (is_null (referent v) ≡ true) ⊎ (is_claim (referent v) ≡ true)
unfolding in_type
claim_value (Int z) e = absurd (cc)
claim_value (Refers r) e = or_cases (is_null r) (is_claim r) e

pub all_closed : (h : Heap) (os : List Ref) (o : Ref) → every (λ b. b) (map (closed_in h) os) ≡ true → is_in o os ≡ true → closed_in h o ≡ true
all_closed h [] o e i = absurd (cc (in_none o))
all_closed h (x ∷ xs) o e i =
    let b = and_both (closed_in h x) (every (λ b. b) (map (closed_in h) xs)) e in
    ⊎_elim (λ s. subst (λ (y : Ref). closed_in h y ≡ true) (sym (same_ref_is o x s)) b.0) (λ j. all_closed h xs o b.1 j) (or_cases (same_ref o x) (is_in o xs) (sym (in_more o x xs) ∙ i))

deferred_at : (p : Program) (h k : Heap) (ds : List Deferred) (o : Ref) → every (λ (d : Deferred). inv_holds p d.which h k) ds ≡ true → noted ds o ≡ true → Inv p o h k
deferred_at p h k [] o e i = absurd (cc)
deferred_at p h k (d ∷ ds) o e i =
    let b = and_both (inv_holds p d.which h k) (every (λ (d : Deferred). inv_holds p d.which h k) ds) e in
    ⊎_elim (λ s. subst (λ (y : Ref). Inv p y h k) (sym (same_ref_is o d.which s)) b.0) (λ j. deferred_at p h k ds o b.1 j) (or_cases (same_ref o d.which) (noted ds o) i)

-- what a whole block does
pub record Whole (p : Program) (f : FunctionInfo) (x : Context) (g g' : Progress) : Type 0 where
  pub ready : Env p f g'.heap g'.locals
  pub legal : Legal p g.heap g'.heap
  pub apart : (o : Ref) → Apart p x none_new o (g.heap.get o) (g'.heap.get o)
  pub unopened : Unopened g.heap g'.heap
  pub started : g'.started ≡ g.started

module _ (p : Program) (typed : WellTyped p) (f : FunctionInfo) (k : ℕ) (fis : slice_get p.functions.items k ≡ Some f) (at_ : Spot) (thread : is_thread at_.context.me ≡ true) where
  pub listed_gave :
      (g : Progress) → Env p f g.heap g.locals → (ls : List Listed) (n : ℕ) →
      every (λ (i : Listed). is_ref p f i.object && (not i.is_claim || is_claim_expr p f i.object)) ls ≡ true →
      OnGave (eval_all p at_ g.heap g.locals (listed_exprs ls) n) (λ vs. ListedOk ls (map referent vs) × (length (map referent vs) ≡ length ls))
  listed_gave g env [] n e = (tt, refl)
  listed_gave g env (i ∷ is) n e =
      let b = and_both (is_ref p f i.object && (not i.is_claim || is_claim_expr p f i.object)) (every (λ (i : Listed). is_ref p f i.object && (not i.is_claim || is_claim_expr p f i.object)) is) e in
      let c = and_both (is_ref p f i.object) (not i.is_claim || is_claim_expr p f i.object) b.0 in
      let t = test_some p f (values p f i.object) are_refs c.0 in
      let Q : List Value → Type 0 = λ vs. ListedOk (i ∷ is) (map referent vs) × (length (map referent vs) ≡ length (i ∷ is)) in
      after_gave (eval p at_ g.heap g.locals i.object n) (λ v. after (eval_all p at_ g.heap g.locals (listed_exprs is) (n + checks i.object)) (λ vs. Gives (v ∷ vs)))
      (λ v. is_of p t.0 v ≡ true) Q (eval_of p typed f at_ g.heap g.locals env i.object t.0 t.1 n) (λ v j.
      after_gave (eval_all p at_ g.heap g.locals (listed_exprs is) (n + checks i.object)) (λ vs. Gives (v ∷ vs))
      (λ vs. ListedOk is (map referent vs) × (length (map referent vs) ≡ length is)) Q (listed_gave g env is (n + checks i.object) b.1) (λ vs y.
      (((λ isc. claim_of i t.0 v t.1 j isc c.1), y.0), ap suc y.1)))
    where
      claim_of :
          (i : Listed) (u : Values) (v : Value) → values p f i.object ≡ Some u → is_of p u v ≡ true → i.is_claim ≡ true →
          not i.is_claim || is_claim_expr p f i.object ≡ true → (is_null (referent v) ≡ true) ⊎ (is_claim (referent v) ≡ true)
      claim_of i u v is j isc h = ⊎_elim
          (λ a. absurd (not_both i.is_claim isc (not-true i.is_claim a)))
          (λ a. claim_value v (to_type p u Claim v (sym (ap (λ o. test p f o (λ w. fits w Claim)) is) ∙ a) j))
          (or_cases (not i.is_claim) (is_claim_expr p f i.object) h)

  -- the block's end tests all that is owed
  end_gave :
      (body : List Inner) (ls : List Listed) (os : List Ref) (g g' : Progress) (n : ℕ) → Env p f g.heap g.locals → Fine p f at_.context (λ o. is_in o os) g g' →
      ListedOk ls os → length os ≡ length ls → ((o : Ref) → is_in o os ≡ true → closed_in g.heap o ≡ true) →
      ((o : Ref) → noted g.changed o || noted g.made o ≡ true → ⊥) →
      OnGave (block_end p at_ body ls os g.heap n g') (Whole p f at_.context g)
  end_gave body ls os g g' n env fine ok len closed clean =
      let h0 = g.heap in
      let t : Ref → Tested = λ o. inv_test p o h0 g'.heap in
      let last = Gives g' in
      let second = check_deferred at_ t g'.made (n + plain_listed ls + (list_tally p body).objects) last in
      let first = check_deferred at_ t g'.changed (n + plain_listed ls) second in
      check_specs_gave at_ (map t (listed_objects ls os)) n Invariant first (Whole p f at_.context g) (λ a.
      check_deferred_gave at_ t g'.changed (n + plain_listed ls) second (Whole p f at_.context g) (λ b.
      check_deferred_gave at_ t g'.made (n + plain_listed ls + (list_tally p body).objects) last (Whole p f at_.context g) (λ c.
      let lists : (o : Ref) → is_in o os ≡ true → is_claim o ≡ false → Inv p o h0 g'.heap = λ o i nc.
      tests_at p h0 g'.heap (listed_objects ls os) o a
      (listed_in ls os o len ok i nc (false_from_ne_true (is_null o)
      (λ z. not_both (closed_in h0 o) (closed o i) (ap (λ (y : Ref). closed_in h0 y) (null_is o z) ∙ ap is_closed env.heap.no_null)))) in
      record {
        ready = fine.ready;
        legal = legal_by p (λ o. is_in o os) (tested_by (λ o. is_in o os) g') h0 g'.heap env.heap fine.ready.heap fine.parts
            (λ o z. ⊎_elim
            (λ l. let x = and_both (is_in o os) (not (is_claim o)) l in lists o x.0 (not-true (is_claim o) x.1))
            (λ m. ⊎_elim (λ y. deferred_at p h0 g'.heap g'.changed o b y) (λ y. deferred_at p h0 g'.heap g'.made o c y) (or_cases (noted g'.changed o) (noted g'.made o) m))
            (or_cases (is_in o os && not (is_claim o)) (noted g'.changed o || noted g'.made o) z))
            lists;
        apart = fine.apart;
        unopened = λ o c d. onward_unopened o (g.heap.get o) (g'.heap.get o) (fine.onward o) d;
        started = fine.started;
      })))

  pub atomic_gave : (ls : List Listed) (body : List Inner) (n : ℕ) (g : Progress) → Env p f g.heap g.locals → ((o : Ref) → noted g.changed o || noted g.made o ≡ true → ⊥) →
      every (λ (i : Listed). is_ref p f i.object && (not i.is_claim || is_claim_expr p f i.object)) ls ≡ true → every (inner_ok p f k) body ≡ true → OnGave
      (atomic p at_ ls body n g) (Whole p f at_.context g)
  atomic_gave ls body n g env clean lok bok =
      let m = n + all_checks (listed_exprs ls) in
      after_gave (eval_all p at_ g.heap g.locals (listed_exprs ls) n)
      (λ vs. check_each at_ (map (closed_in g.heap) (map referent vs)) m AtomicClosed
      (after (run_list p at_.context (map referent vs) body (m + length ls) no_tally g) (λ g'. block_end p at_ body ls (map referent vs) g.heap (m + length ls + list_checks p body) g')))
      (λ vs. ListedOk ls (map referent vs) × (length (map referent vs) ≡ length ls)) (Whole p f at_.context g) (listed_gave g env ls n lok) (λ vs y.
      let os = map referent vs in
      check_each_gave at_ (map (closed_in g.heap) os) m AtomicClosed
      (after (run_list p at_.context os body (m + length ls) no_tally g) (λ g'. block_end p at_ body ls os g.heap (m + length ls + list_checks p body) g')) (Whole p f at_.context g) (λ c.
      let closed : (o : Ref) → is_in o os ≡ true → closed_in g.heap o ≡ true = λ o i. all_closed g.heap os o c i in
      after_gave (run_list p at_.context os body (m + length ls) no_tally g) (λ g'. block_end p at_ body ls os g.heap (m + length ls + list_checks p body) g')
      (Fine p f at_.context (λ o. is_in o os) g) (Whole p f at_.context g)
      (list_gave p typed f k fis at_.context thread os body (m + length ls) no_tally g env (λ o i nc. closed o i) bok) (λ g' fine.
      end_gave body ls os g g' (m + length ls + list_checks p body) env fine y.0 y.1 closed clean)))
