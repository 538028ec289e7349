-- An assignment to a field, and an atomic block, where their checks pass.
use Rattle.std.proofs.Common.{◌≡◌, ℕ, ◌+◌, true, not, ◌&&◌, ◌||◌, refl, sym, ap, subst, pos, List, [], ◌∷◌, map, length, slice_set, slice_get, Some, ◌++◌}
use Rattle.object_types.specs.declared.references.Ref.{Ref}
use Rattle.object_types.specs.declared.values.Value.{Value}
use Rattle.object_types.specs.declared.values.Value.TheVariants.{Ref as Refers}
use Rattle.method.specs.declared.program.CheckKind.TheVariants.{Write, Writes, Invariant, AtomicClosed, MakeClaim}
use Rattle.method.specs.declared.program.Expr.{Expr}
use Rattle.method.specs.declared.program.Expr.TheVariants.{Number, Variable}
use Rattle.method.specs.declared.program.Target.TheVariants.{FieldOf, Local}
use Rattle.method.specs.declared.program.RightSide.TheVariants.{Compute, NewClaim}
use Rattle.method.specs.declared.program.Simple.TheVariants.{Assign}
use Rattle.method.specs.declared.program.Inner.{Inner}
use Rattle.method.specs.declared.program.Inner.TheVariants.{Inside}
use Rattle.method.specs.declared.program.Listed.{Listed}
use Rattle.method.specs.declared.program.ClaimSite.{ClaimSite}
use Rattle.object_types.specs.declared.records.Mode.TheVariants.{Absent}
use Rattle.method.specs.SpecValue.{entry_of}
use Rattle.method.specs.declared.program.Program.{Program}
use Rattle.object_types.specs.Values.{referent}
use Rattle.object_types.specs.Sets.{is_in, every}
use Rattle.object_types.specs.Heap.{Heap, closed_in, mutable, write, count_more, put}
use Rattle.method.specs.Tables.{local, is_volatile, is_approved}
use Rattle.method.specs.Invariants.{inv_holds}
use Rattle.method.specs.Legal.{Good}
use Rattle.method.specs.Expressions.{Gave, Gives, Context, Spot, eval, eval_all, checks, all_checks, is_listed, may_write, inv_test, Tested, scene}
use Rattle.method.specs.Actions.{InField, Supply, Chosen, Progress, Tally, no_tally, starting, heap_of, may_count, left_side, right_side, store, run_simple, inner_spot, run_list, list_checks, listed_exprs, listed_objects, block_end, atomic, Valued, Took, InLocal, make_claim, claim_made, claim_tests, run_claimed, claimed_checks, new_claim, deferred_from, take_object, right_checks}
use Rattle.method.proofs.Global.{both_and}
use Rattle.machine_laws.proofs.Typed.{or_left, or_right}
use Rattle.safe_counter.proofs.Passing.{Passing, pass_then, pass_after, pass_gave, then_gives, check_gives, pass_gives, pass_each, pass_specs}
use Rattle.safe_counter.proofs.Supplies.{object_passes}
use Rattle.safe_counter.proofs.Types.{IsCounting, greatest, raised}

module _ (p : Program) (at_ : Spot) where
  store_gives : (o : Ref) (f : ℕ) (v : Value) (n : ℕ) (g : Progress) →
      mutable at_.context.me g.heap o || (is_listed at_ o && (is_volatile p f && (not (is_approved p f) || may_count at_ g.heap o))) ≡ true → may_write at_ o || is_listed at_ o ≡ true →
      (store p at_ (InField o f) v n g).end ≡ Gave (heap_of g (write g.heap o f v))
  store_gives o f v n g a b = check_gives at_ _ n Write _ _ a (check_gives at_ _ (n + 1) Writes _ _ b refl)

  assign_gives : (e d : Expr) (f : ℕ) (n : ℕ) (t : Tally) (g : Progress) (v w : Value) → ((i : ℕ) → (eval p at_ g.heap g.locals e i).end ≡ Gave v) →
      ((i : ℕ) → (eval p at_ g.heap g.locals d i).end ≡ Gave w) →
      mutable at_.context.me g.heap (referent v) || (is_listed at_ (referent v) && (is_volatile p f && (not (is_approved p f) || may_count at_ g.heap (referent v)))) ≡ true → may_write at_
      (referent v) || is_listed at_ (referent v) ≡ true →
      (run_simple p at_ (Assign (FieldOf e f) (Compute d)) n t g).end ≡ Gave (heap_of g (write g.heap (referent v) f w))
  assign_gives e d f n t g v w x y a b =
      then_gives (left_side p at_ (FieldOf e f) n g) _ (InField (referent v) f) _ (then_gives (eval p at_ g.heap g.locals e n) _ v _ (x n) refl)
      (then_gives (right_side p at_ (Compute d) (InField (referent v) f) (n + checks e) t g) _ (record { value = w; starting = g }) _
      (then_gives (eval p at_ g.heap g.locals d (n + checks e)) _ w _ (y (n + checks e)) refl)
      (store_gives (referent v) f w (n + checks e + checks d) g a b))

  pub atomic_passes : (label : ℕ) (rest : Progress → Type 0) (ls : List Listed) (body : List Inner) (n : ℕ) (g : Progress) (vs : List Value) →
      ((j : ℕ) → (eval_all p at_ g.heap g.locals (listed_exprs ls) j).end ≡ Gave vs) → every (λ b. b) (map (closed_in g.heap) (map referent vs)) ≡ true →
      ((m k : ℕ) → Passing label (λ g'. Passing label rest (block_end p at_ body ls (map referent vs) g.heap k g')) (run_list p at_.context (map referent vs) body m no_tally g)) → Passing
      label rest (atomic p at_ ls body n g)
  atomic_passes label rest ls body n g vs e c x =
      let m = n + all_checks (listed_exprs ls) + length ls in
      pass_then label rest (eval_all p at_ g.heap g.locals (listed_exprs ls) n) _ vs (e n)
      (pass_each label rest at_ (map (closed_in g.heap) (map referent vs)) (n + all_checks (listed_exprs ls)) AtomicClosed _ c
      (pass_after label rest (run_list p at_.context (map referent vs) body m no_tally g) _ (x m (m + list_checks p body))))

-- A block that sets the number of a listed object to the greatest.
module _ (p : Program) (counting : IsCounting p) (at_ : Spot) where
  pub raise_passes : (label : ℕ) (rest : Progress → Type 0) (ls : List Listed) (line i : ℕ) (n : ℕ) (k : Heap) (l vs : List Value) (s : Supply) (r : Ref) →
      ((j : ℕ) → (eval_all p at_ k l (listed_exprs ls) j).end ≡ Gave vs) → every (λ b. b) (map (closed_in k) (map referent vs)) ≡ true → is_in r (map referent vs) ≡ true → listed_objects ls
      (map referent vs) ≡ r ∷ [] → local l i ≡ Refers r →
      Good p k → r.ty ≡ 3 → rest (record (starting k l s) { heap = write k r 0 greatest }) → Passing label rest
      (atomic p at_ ls (Inside line (Assign (FieldOf (Variable i) 0) (Compute (Number (pos 2147483647)))) ∷ []) n (starting k l s))
  raise_passes label rest ls line i n k l vs s r es closed among only is good ty go =
      let within = inner_spot p at_.context (map referent vs) line in
      let g = starting k l s in
      let g1 = record g { heap = write k r 0 greatest } in
      let may : is_in r (map referent vs) && (is_volatile p 0 && (not (is_approved p 0) || may_count within k r)) ≡ true =
      both_and (is_in r (map referent vs)) _ among (both_and (is_volatile p 0) _ counting.volatile (or_left (not (is_approved p 0)) (may_count within k r) (ap not counting.unapproved))) in
      let test : Ref → Tested = λ o. inv_test p o k (write k r 0 greatest) in
      atomic_passes p at_ label rest ls (Inside line (Assign (FieldOf (Variable i) 0) (Compute (Number (pos 2147483647)))) ∷ []) n g vs es closed (λ m j.
      pass_gave label _ (run_list p at_.context (map referent vs) (Inside line (Assign (FieldOf (Variable i) 0) (Compute (Number (pos 2147483647)))) ∷ []) m no_tally g) g1
      (then_gives (run_simple p within (Assign (FieldOf (Variable i) 0) (Compute (Number (pos 2147483647)))) m no_tally g) (λ g'. Gives g') g1 g1
      (assign_gives p within (Variable i) (Number (pos 2147483647)) 0 m no_tally g (Refers r) greatest (λ j. ap Gave is) (λ j. refl)
      (or_right (mutable at_.context.me k r) _ may) (or_right (may_write within r) (is_in r (map referent vs)) among)) refl)
      (pass_specs label rest at_ (map test (listed_objects ls (map referent vs))) j Invariant (Gives g1)
      (subst (λ os. every (λ (t : Tested). t.holds) (map test os) ≡ true) (sym only) (both_and (inv_holds p r k (write k r 0 greatest)) true (raised p counting k r good ty) refl))
      (pass_gives label rest g1 go)))

-- A claim made inside a block, and kept in a variable.
module _ (p : Program) (x : Context) (os : List Ref) (line : ℕ) where
  pub new_claim_passes : (label : ℕ) (rest : Progress → Type 0) (i k n : ℕ) (t : Tally) (g : Progress) (site : ClaimSite) (objects news : List Ref) → slice_get p.sites.items k ≡ Some site →
      ((j : ℕ) → (run_claimed p (inner_spot p x os line) site.claimed.items j g).end ≡ Gave objects) →
      every (λ b. b) (claim_tests p (inner_spot p x os line) g.heap [] objects) ≡ true → g.supply ≡ Chosen news →
      ((c : Ref) (rs : List Ref) → c.ty ≡ 2 → (g.heap.get c).mode ≡ Absent → rest (record {
        heap = count_more (pos 1) objects (put g.heap c (new_claim x.me objects (map (entry_of (scene x g.heap g.locals)) site.conjuncts.items)));
        locals = slice_set g.locals i
            (Refers c);
        supply = Chosen rs;
        changed = g.changed ++ deferred_from t.objects objects;
        made = g.made ++ deferred_from t.claims (c ∷ []);
        started = g.started;
      })) →
      Passing label rest (run_simple p (inner_spot p x os line) (Assign (Local i) (NewClaim k)) n t g)
  new_claim_passes label rest i k n t g site objects news is claimed tests supply go =
      let at_ = inner_spot p x os line in
      let Q : Valued → Type 0 = λ v. Passing label rest (store p at_ (InLocal i) v.value (n + 0 + right_checks p true (NewClaim k)) v.starting) in
      let taken : Took → Type 0 = λ u. Passing label Q (claim_made p at_ u.which u.supply objects (map (entry_of (scene x g.heap g.locals)) site.conjuncts.items) (InLocal i)
      (n + 0 + claimed_checks site.claimed.items + length objects + 1) t (count_more (pos 1) objects
      (put g.heap u.which (new_claim x.me objects (map (entry_of (scene x g.heap g.locals)) site.conjuncts.items)))) g) in
      let made : Passing label Q (make_claim p at_ (Some site) (InLocal i) (n + 0) t g) =
      pass_then label Q (run_claimed p at_ site.claimed.items (n + 0) g) _ objects (claimed (n + 0))
      (pass_each label Q at_ (claim_tests p at_ g.heap [] objects) (n + 0 + claimed_checks site.claimed.items) MakeClaim _ tests
      (pass_after label Q (take_object g.supply 2 g.heap) _
      (subst (λ s. Passing label taken (take_object s 2 g.heap)) (sym supply) (object_passes label taken news 2 g.heap
      (λ c rs ty absent. pass_gives label Q _ (pass_gives label rest _ (go c rs ty absent))))))) in
      record {
        passes = (pass_after label rest (make_claim p at_ (slice_get p.sites.items k) (InLocal i) (n + 0) t g) _
            (subst (λ o. Passing label Q (make_claim p at_ o (InLocal i) (n + 0) t g)) (sym is) made)).passes;
      }
