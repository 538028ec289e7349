-- Atomic blocks beside their paths.
use Rattle.std.proofs.Common.{◌≡◌, ℕ, ◌+◌, Bool, true, not, ◌&&◌, ◌||◌, List, [], ◌∷◌, ◌++◌, map, length, Some, slice_get, refl, ap, sym, ◌∙◌, subst, arith}
use Rattle.action_conditions.proofs.Stores.{on_gave}
use Rattle.std.proofs.lemmas.List.{length-map}
use Rattle.object_types.specs.declared.references.Ref.{Ref}
use Rattle.object_types.specs.declared.values.Value.{Value}
use Rattle.object_types.specs.declared.values.Value.TheVariants.{Ref as Refers}
use Rattle.object_types.specs.declared.shapes.Entry.{Entry as HeapEntry}
use Rattle.object_types.specs.References.{is_thread}
use Rattle.object_types.specs.Values.{referent}
use Rattle.object_types.specs.Sets.{every, is_in}
use Rattle.object_types.specs.Heap.{Heap, closed_in}
use Rattle.method.specs.declared.program.CheckKind.TheVariants.{AtomicClosed}
use Rattle.method.specs.declared.program.Inner.{Inner}
use Rattle.method.specs.declared.program.Listed.{Listed}
use Rattle.method.specs.declared.program.Simple.{Simple}
use Rattle.method.specs.declared.program.FunctionInfo.{FunctionInfo}
use Rattle.method.specs.declared.program.Program.{Program}
use Rattle.method.specs.SpecValue.{entry_holds}
use Rattle.method.specs.Invariants.{inv_holds}
use Rattle.method.specs.WellFormed.{IsHeapOf}
use Rattle.method.specs.Typing.{WellTyped, are_refs, values, is_ref, is_claim_expr, simple_ok, inner_ok}
use Rattle.method.specs.Expressions as m
use Rattle.method.specs.Expressions.{Context, Spot as MachineSpot, Gave, eval_all, all_checks}
use Rattle.method.specs.Actions as M
use Rattle.method.specs.Actions.{Progress, Tally, no_tally, tally_plus, spot, inner_spot, inner_checks, inner_tally, simple_tally, list_checks, list_tally, listed_exprs, plain_listed}
use Rattle.method.proofs.Global.{and_both}
use Rattle.machine_laws.proofs.Typed.{Env}
use Rattle.machine_laws.proofs.Steps.{Fine, ListedClosed, still_listed}
use Rattle.machine_laws.proofs.Simple.{test_some}
use Rattle.machine_laws.proofs.Blocks.{inner_gave, list_gave, listed_gave, ListedOk, all_closed}
use Rattle.terms.specs.Formula.{Formula}
use Rattle.conditions.specs.Formulas.{closed}
use Rattle.conditions.specs.Annotations.{Entry, entry_formula}
use Rattle.conditions.specs.Paths.{Execution, after, check_each}
use Rattle.conditions.specs.Code.{Spot, State, all_code, inv}
use Rattle.conditions.specs.Actions as walk
use Rattle.conditions.specs.Actions.{without_deferred, inside_block}
use Rattle.conditions.proofs.PathTests.{AllAre}
use Rattle.conditions.proofs.FromRuns.{count_of, IsWithin, within_self}
use Rattle.condition_meaning.specs.Languages.{language_of}
use Rattle.condition_meaning.proofs.Environments.{Environment, Is, Has, HeapIs}
use Rattle.condition_walks.proofs.Grows.{run_list_goes}
use Rattle.condition_walks.proofs.Sizes.{all_code_size}
use Rattle.condition_walks.proofs.BlockSizes.{run_inner_size, run_list_size, run_list_notes}
use Rattle.condition_walks.proofs.TermSorts.{AllSorted}
use Rattle.condition_walks.proofs.ActionSorts.{run_inner_sorted}
use Rattle.action_conditions.proofs.Words.{Refer, is_closed_now}
use Rattle.block_conditions.proofs.Beside.{Beside, beside_after, beside_gives, beside_each, beside_less}
use Rattle.block_conditions.proofs.Operands.{At, AllFitRefs, beside_refs}
use Rattle.block_conditions.proofs.Interlocked.{AllSee}
use Rattle.block_conditions.proofs.Noting.{EntryIs, adds_none, adds_then, fine_keeps, Objects, Claims}
use Rattle.block_conditions.proofs.Seeing.{SeesSimple, SeesList}
use Rattle.block_conditions.proofs.Inner as inner
use Rattle.block_conditions.proofs.BlockEnds.{beside_end}
use Rattle.conditions.proofs.Joins.{check_gives}

module _ (p : Program) (typed : WellTyped p) (f : FunctionInfo) (k : ℕ) (fis : slice_get p.functions.items k ≡ Some f) (x : Context) (thread : is_thread x.me ≡ true) (a : Spot) (hid : ℕ → Bool) where
  abbrev E : Type 0
  E = Environment (language_of p) x.me

  -- the block's place, where these terms are the listed objects
  abbrev block : List Formula → Spot
  block osf = record a { listed = osf }

  module _
      (is_inv : (e : E) (o y z : Formula) (r : Ref) (h j : Heap) → Has (language_of p) x.me e o (Refers r) → HeapIs (language_of p) x.me e y h → HeapIs (language_of p) x.me e z j → IsHeapOf p h → IsHeapOf p j → Is (language_of p) x.me e (inv o y z) (inv_holds p r h j))
      (is_entry_true : (e : E) (y : Formula) (h : Heap) (d : Entry) (z : HeapEntry) → HeapIs (language_of p) x.me e y h → IsHeapOf p h → EntryIs (language_of p) x.me e d z → Is (language_of p) x.me e (entry_formula p y d) (entry_holds p h z))
      (beside_simple : (os : List Ref) (osf : List Formula) (line n : ℕ) (place : Tally) (s : Simple) (st : State) (g : Progress) → Env p f g.heap g.locals → ListedClosed (λ o. is_in o os) g.heap → simple_ok p f k true s ≡ true → SeesSimple p hid s → (Before : E → Type 0) → ((e : E) → Before e → inner.Here p typed f k fis x thread os (block osf) hid 0 st g e)
      → inner.Goal p typed f k fis x thread os (block osf) hid n place (simple_tally p s) st g (walk.run_simple p (inside_block a osf) s st) (M.run_simple p (inner_spot p x os line) s n place g) Before)
    where
      beside_list : (os : List Ref) (osf : List Formula) (is : List Inner) (n : ℕ) (place : Tally) (st : State) (g : Progress) → Env p f g.heap g.locals → ListedClosed (λ o. is_in o os) g.heap → every (inner_ok p f k) is ≡ true → AllSorted f.variables.items st.locals → SeesList p hid is → (Before : E → Type 0) → ((e : E) → Before e → inner.Here p typed f k fis x thread os (block osf) hid 0 st g e)
          → inner.Goal p typed f k fis x thread os (block osf) hid n place (list_tally p is) st g (walk.run_list p (inside_block a osf) is st) (M.run_list p x os is n place g) Before
      beside_list os osf [] n place st g env lists ok sorted sees Before here = beside_gives (language_of p) x.me n (count_of st) st g Before (λ g' e. inner.Done p typed f k fis x thread os (block osf) hid place no_tally st st g g' e) (λ e before. (here e before, adds_none (language_of p) x.me place st st g g e refl refl refl refl))
      beside_list os osf (i ∷ is) n place st g env lists ok sorted sees Before here =
          let b = and_both (inner_ok p f k i) (every (inner_ok p f k) is) ok in
          let u = walk.run_inner p (inside_block a osf) i st in
          let last = walk.run_list p (inside_block a osf) is u.gives in
          let n1 = n + inner_checks p i in
          let place1 = tally_plus place (inner_tally p i) in
          let After : Progress → E → Type 0 = λ g' e. inner.Done p typed f k fis x thread os (block osf) hid place (tally_plus (inner_tally p i) (list_tally p is)) st last.gives g g' e in
          beside_after (language_of p) x.me n n1 (count_of st) (count_of u.gives) (count_of last.gives) u (λ st1. walk.run_list p (inside_block a osf) is st1) (M.run_inner p x os i n place g) (λ g1. M.run_list p x os is n1 place1 g1) Before (λ g1 e. inner.Done p typed f k fis x thread os (block osf) hid place (inner_tally p i) st u.gives g g1 e) After
          (ap (λ j. n + j) (sym (run_inner_size p (block osf) i st))) (run_list_goes p (inside_block a osf) is u.gives).within
          (inner.beside_inner p typed f k fis x thread os (block osf) hid (λ line n place s st g env lists ok sees Before here. beside_simple os osf line n place s st g env lists ok sees Before here) i n place st g env lists b.0 sorted sees.0 Before here) (λ g1 is1.
          let fine = on_gave (M.run_inner p x os i n place g) (Fine p f x (λ o. is_in o os) g) g1 (inner_gave p typed f k fis x thread os i n place g env lists b.0) is1 in
          let lists1 = still_listed p f x (λ o. is_in o os) g g1 fine lists in
          let B1 : E → Type 0 = λ e. Before e × inner.Done p typed f k fis x thread os (block osf) hid place (inner_tally p i) st u.gives g g1 e in
          beside_less (language_of p) x.me n1 (count_of u.gives) (count_of last.gives) last (M.run_list p x os is n1 place1 g1) B1 B1 (λ g2 e. inner.Done p typed f k fis x thread os (block osf) hid place1 (list_tally p is) u.gives last.gives g1 g2 e) After (λ e z. z)
          (λ g2 is2 e z w. (w.0, adds_then (language_of p) x.me place (inner_tally p i) (list_tally p is) st u.gives last.gives g g1 g2 e (fine_keeps (language_of p) x.me f x (λ o. is_in o os) g1 g2 (on_gave (M.run_list p x os is n1 place1 g1) (Fine p f x (λ o. is_in o os) g1) g2 (list_gave p typed f k fis x thread os is n1 place1 g1 fine.ready lists1 b.1) is2)) z.1.1 w.1))
          (beside_list os osf is n1 place1 u.gives g1 fine.ready lists1 b.1 (run_inner_sorted p f (inside_block a osf) k i st b.0 sorted) sees.1 B1 (λ e z. z.1.0)))

      closed_are : (e : E) (y : Formula) (h : Heap) → HeapIs (language_of p) x.me e y h → (osf : List Formula) (os : List Ref) → Refer (language_of p) x.me e osf os → AllAre (Is (language_of p) x.me e) (map (closed y) osf) (map (closed_in h) os)
      closed_are e y h hy [] [] r = tt
      closed_are e y h hy [] (o ∷ os) r = absurd r
      closed_are e y h hy (w ∷ ws) [] r = absurd r
      closed_are e y h hy (w ∷ ws) (o ∷ os) r = (is_closed_now (language_of p) x.me e y h hy w o r.0, closed_are e y h hy ws os r.1)

      listed_fit : (ls : List Listed) → every (λ (i : Listed). is_ref p f i.object && (not i.is_claim || is_claim_expr p f i.object)) ls ≡ true → AllSee hid (listed_exprs ls) → AllFitRefs p f hid (listed_exprs ls)
      listed_fit [] ok sees = tt
      listed_fit (i ∷ is) ok sees =
          let b = and_both (is_ref p f i.object && (not i.is_claim || is_claim_expr p f i.object)) (every (λ (i : Listed). is_ref p f i.object && (not i.is_claim || is_claim_expr p f i.object)) is) ok in
          let c = and_both (is_ref p f i.object) (not i.is_claim || is_claim_expr p f i.object) b.0 in
          let t = test_some p f (values p f i.object) are_refs c.0 in
          (record { fits = record { values_are = t.0; typed = t.1; seen = sees.0 }; refs = t.2 }, listed_fit is b.1 sees.1)

      from_nothing : {X : Type 0} (xs ys zs : List X) → xs ≡ [] → ys ≡ xs ++ zs → zs ≡ ys
      from_nothing xs ys zs none is = sym (is ∙ ap (λ ws. ws ++ zs) none)

      from_zero : (n : ℕ) → 0 + n ≡ n
      from_zero n = omega arith

      -- A whole block, from a place with nothing noted.
      module _ (line : ℕ) (choices : List Value) (ls : List Listed) (body : List Inner) (n : ℕ) (st : State) (g : Progress) (env : Env p f g.heap g.locals) (no_changed : g.changed ≡ []) (no_made : g.made ≡ [])
          (ok_listed : every (λ (i : Listed). is_ref p f i.object && (not i.is_claim || is_claim_expr p f i.object)) ls ≡ true) (ok_body : every (inner_ok p f k) body ≡ true)
          (sorted : AllSorted f.variables.items st.locals) (sees_listed : AllSee hid (listed_exprs ls)) (sees_body : SeesList p hid body)
          (Before : E → Type 0) (here : (e : E) → Before e → At p f (spot x choices line) a hid st g e)
        where
          at_ : MachineSpot
          at_ = spot x choices line

          abbrev osf : List Formula
          osf = (all_code p a st (listed_exprs ls)).gives

          abbrev u : Execution State
          u = walk.run_list p (inside_block a osf) body (without_deferred st)

          atomic_gives : without_deferred u.gives ≡ (walk.atomic p a ls body st).gives
          atomic_gives = simp check_gives refl

          beside_ended : Beside (language_of p) x.me n (count_of st) (count_of u.gives) (walk.atomic p a ls body st) (M.atomic p (spot x choices line) ls body n g) Before (λ g' e. At p f (spot x choices line) a hid (without_deferred u.gives) g' e)
          beside_ended =
              let n1 = n + all_checks (listed_exprs ls) in
              let n2 = n1 + length ls in
              let n3 = n2 + list_checks p body in
              let c = count_of st in
              let d = count_of u.gives in
              let within : IsWithin c d = (run_list_goes p (inside_block a osf) body (without_deferred st)).within in
              let After : Progress → E → Type 0 = λ g' e. At p f (spot x choices line) a hid (without_deferred u.gives) g' e in
              let end = walk.block_end p a ls osf st.heap u.gives in
              beside_after (language_of p) x.me n n1 c c d (all_code p a st (listed_exprs ls)) (λ os. check_each (map (closed st.heap) os) (after (walk.run_list p (inside_block a os) body (without_deferred st)) (λ st1. walk.block_end p a ls os st.heap st1)))
              (eval_all p (spot x choices line) g.heap g.locals (listed_exprs ls) n) (λ vs. m.check_each (spot x choices line) (map (closed_in g.heap) (map referent vs)) n1 AtomicClosed (m.after (M.run_list p x (map referent vs) body n2 no_tally g) (λ g'. M.block_end p (spot x choices line) body ls (map referent vs) g.heap n3 g')))
              Before (λ vs e. Refer (language_of p) x.me e osf (map referent vs)) After (ap (λ j. n + j) (sym (all_code_size p a st (listed_exprs ls)))) within (beside_refs p f (spot x choices line) a hid st g env n c (listed_exprs ls) (listed_fit ls ok_listed sees_listed) Before here) (λ vs came.
              let os = map referent vs in
              let listed = on_gave (eval_all p (spot x choices line) g.heap g.locals (listed_exprs ls) n) (λ vs. ListedOk ls (map referent vs) × (length (map referent vs) ≡ length ls)) vs (listed_gave p typed f k fis (spot x choices line) thread g env ls n ok_listed) came in
              let B1 : E → Type 0 = λ e. Before e × Refer (language_of p) x.me e osf os in
              beside_each (language_of p) x.me (spot x choices line) (map (closed_in g.heap) os) n1 n2 c d AtomicClosed (map (closed st.heap) osf) (after u (λ st1. walk.block_end p a ls osf st.heap st1)) (m.after (M.run_list p x os body n2 no_tally g) (λ g'. M.block_end p (spot x choices line) body ls os g.heap n3 g'))
              B1 After (ap (λ j. n1 + j) (sym (length-map os (closed_in g.heap) ∙ listed.1))) within (λ e z. closed_are e st.heap g.heap (here e z.0).heap osf os z.1) (λ all_are_closed.
              let lists : ListedClosed (λ o. is_in o os) g.heap = λ o i claim. all_closed g.heap os o all_are_closed i in
              let here1 : (e : E) → B1 e → inner.Here p typed f k fis x thread os (block osf) hid 0 (without_deferred st) g e = λ e z. let h = here e z.0 in record {
                spot = record { entry = h.spot.entry; writes = h.spot.writes; args = h.spot.args; inside_is = refl; listed_is = z.1 };
                many = h.many;
                heap = h.heap;
                locals = h.locals;
              } in
              beside_after (language_of p) x.me n2 n3 c d d u (λ st1. walk.block_end p a ls osf st.heap st1) (M.run_list p x os body n2 no_tally g) (λ g'. M.block_end p (spot x choices line) body ls os g.heap n3 g') B1 (λ g' e. inner.Done p typed f k fis x thread os (block osf) hid no_tally (list_tally p body) (without_deferred st) u.gives g g' e) After
              (ap (λ j. n2 + j) (sym (run_list_size p (block osf) body (without_deferred st)))) (within_self d) (beside_list os osf body n2 no_tally (without_deferred st) g env lists ok_body sorted sees_body B1 here1) (λ g' came'.
              let fine = on_gave (M.run_list p x os body n2 no_tally g) (Fine p f x (λ o. is_in o os) g) g' (list_gave p typed f k fis x thread os body n2 no_tally g env lists ok_body) came' in
              let B2 : E → Type 0 = λ e. B1 e × inner.Done p typed f k fis x thread os (block osf) hid no_tally (list_tally p body) (without_deferred st) u.gives g g' e in
              beside_end p x.me is_inv is_entry_true (spot x choices line) a body ls osf os st.heap g.heap n3 n3 d u.gives g' B2 After listed.1 (ap (λ (t : Tally). t.objects) (run_list_notes p (block osf) body (without_deferred st)) ∙ from_zero (list_tally p body).objects)
              env.heap.heap_of fine.ready.heap.heap_of
              (λ e z. let w = z.1.1 in (
                (here e z.0.0).heap,
                z.1.0.heap,
                z.0.1,
                subst (λ ks. Objects (language_of p) x.me e 0 u.gives.changed ks) (from_nothing g.changed g'.changed w.run_objects no_changed w.came_objects) (subst (λ ds. Objects (language_of p) x.me e 0 ds w.run_objects) (sym w.path_objects) w.noted_objects),
                subst (λ ks. Claims (language_of p) x.me g'.heap e 0 u.gives.made ks) (from_nothing g.made g'.made w.run_claims no_made w.came_claims) (subst (λ ds. Claims (language_of p) x.me g'.heap e 0 ds w.run_claims) (sym w.path_claims) w.noted_claims),
              ))
              (λ e z. record { spot = (here e z.0.0).spot; many = z.1.0.many; heap = z.1.0.heap; locals = z.1.0.locals }))))

          pub beside_atomic : Beside (language_of p) x.me n (count_of st) (count_of (walk.atomic p a ls body st).gives) (walk.atomic p a ls body st) (M.atomic p (spot x choices line) ls body n g) Before (λ g' e. At p f (spot x choices line) a hid (walk.atomic p a ls body st).gives g' e)
          beside_atomic = subst (λ (s : State). Beside (language_of p) x.me n (count_of st) (count_of s) (walk.atomic p a ls body st) (M.atomic p (spot x choices line) ls body n g) Before (λ g' e. At p f (spot x choices line) a hid s g' e)) atomic_gives beside_ended
