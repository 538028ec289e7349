-- Statements that may stand inside a block fail only where their labels stand.
use Rattle.std.proofs.Common.{◌≡◌, ℕ, suc, ◌+◌, ◌≤◌, Bool, true, false, not, ◌&&◌, ◌||◌, ◌==◌, refl, sym, ap, ◌∙◌, subst, List, [], ◌∷◌, ◌++◌, map, length, replicate, Option, Some, None, slice_get, if◌then◌else◌, arith}
use Rattle.std.proofs.lemmas.List.{length-map, length-replicate}
use Rattle.object_types.specs.declared.references.Ref.{Ref}
use Rattle.object_types.specs.declared.values.Value.{Value}
use Rattle.object_types.specs.declared.values.Value.TheVariants.{Ref as Refers}
use Rattle.object_types.specs.declared.shapes.Entry.{Entry}
use Rattle.method.specs.declared.program.CheckKind.{CheckKind}
use Rattle.method.specs.declared.program.CheckKind.TheVariants.{Range, Read, Write, Writes, Owns, Invariant, MakeClaim, ClaimStable, DestroyClaim}
use Rattle.method.specs.declared.program.Expr.{Expr}
use Rattle.method.specs.declared.program.Target.{Target}
use Rattle.method.specs.declared.program.Target.TheVariants.{Local, FieldOf}
use Rattle.method.specs.declared.program.Operation.{Operation}
use Rattle.method.specs.declared.program.InterlockedResult.{InterlockedResult}
use Rattle.method.specs.declared.program.InterlockedResult.TheVariants.{Plainly, Compared}
use Rattle.method.specs.declared.program.RightSide.{RightSide}
use Rattle.method.specs.declared.program.RightSide.TheVariants.{Compute, Malloc, NewClaim, Interlocked}
use Rattle.method.specs.declared.program.OwnsChange.{OwnsChange}
use Rattle.method.specs.declared.program.OwnsChange.TheVariants.{Assigned, Added, Removed}
use Rattle.method.specs.declared.program.Simple.{Simple}
use Rattle.method.specs.declared.program.Simple.TheVariants.{Assign, ChangeOwned, EndClaim}
use Rattle.method.specs.declared.program.Claimed.{Claimed}
use Rattle.method.specs.declared.program.Claimed.TheVariants.{ClaimedVariable, ClaimedNull, ClaimedOther}
use Rattle.method.specs.declared.program.ClaimSite.{ClaimSite}
use Rattle.method.specs.declared.program.Program.{Program}
use Rattle.object_types.specs.References.{is_thread, same_ref}
use Rattle.object_types.specs.Values.{referent, truth}
use Rattle.object_types.specs.Sets.{is_in}
use Rattle.object_types.specs.Heap.{Heap, mutable, wrapped, is_absent, is_idle}
use Rattle.method.specs.Tables.{in_type, type_of_field, is_volatile, is_approved, read}
use Rattle.method.specs.SpecValue.{entry_of}
use Rattle.method.specs.Expressions.{Outcome, Gives, after, Spot, Tested, check, check_specs, checks, all_checks, eval, eval_all, readable, is_listed, may_write, inv_test, entry_test, scene}
use Rattle.method.specs.Actions.{Place, InLocal, InField, Supply, Fresh, Chosen, Picked, Progress, Valued, Tally, take_object, take_thread, left_side, store, may_count, malloc, run_claimed, claim_made, make_claim, claim_tests, stored_heap, claimed_checks, exchange, replaced, given, counts, operands, operation_checks, convert_to, conversion_checks, afterwards, right_side, right_checks, target_checks, member_change, members_change, owned_change, may_end, ended, end_claim, run_simple}
use Rattle.method.specs.Labels.{kinds, all_kinds, conversion_kinds, afterwards_kinds, claimed_kinds, target_kinds, store_kinds, site_kinds, right_kinds, member_kinds, change_kinds, simple_kinds}
use Rattle.machine_laws.proofs.Outcomes.{OnGave, after_gave, after_any}
use Rattle.safety_law.proofs.Faults.{Table, KindsAt, Within, kinds_left, kinds_right, kinds_three, kinds_from, gives_within, unfit_within, then_within, after_within, if_within, either_within, check_within, each_within, specs_within}
use Rattle.safety_law.proofs.Sizes.{kinds_size, all_kinds_size, conversion_size, claimed_size, target_size, site_front, operation_size, exchange_size, right_size, both_sizes, three_sizes}
use Rattle.safety_law.proofs.Exprs.{first_kinds, last_kinds, convert_within, eval_within, all_within, all_size}

abbrev pub place_kinds : Place → List CheckKind
place_kinds (InLocal i) = []
place_kinds (InField o f) = Write ∷ Writes ∷ []

pub no_more : (m n : ℕ) → m ≡ n → m ≤ n
no_more m n e = omega (arith, e)

claim_tests_size : (p : Program) (at_ : Spot) (h : Heap) (earlier os : List Ref) → length (claim_tests p at_ h earlier os) ≡ length os
claim_tests_size p at_ h earlier [] = refl
claim_tests_size p at_ h earlier (o ∷ os) = ap suc (claim_tests_size p at_ h (o ∷ earlier) os)

module _ (T : Table) (p : Program) (at_ : Spot) where
  abbrev At : List CheckKind → ℕ → Type 0
  At ks n = KindsAt T at_.line ks n

  pub object_within : (s : Supply) (ty : ℕ) (h : Heap) → Within T (take_object s ty h)
  object_within (Fresh n) ty h = gives_within T _
  object_within (Chosen []) ty h = unfit_within T
  object_within (Chosen (r ∷ rs)) ty h = if_within T ((r.ty == ty) && is_absent (h.get r).mode) _ _ (gives_within T _) (unfit_within T)
  object_within (Picked n []) ty h = unfit_within T
  object_within (Picked n (r ∷ rs)) ty h = if_within T ((r.ty == ty) && is_absent (h.get r).mode) _ _ (gives_within T _) (unfit_within T)

  pub thread_within : (s : Supply) (me : Ref) (h : Heap) → Within T (take_thread s me h)
  thread_within (Fresh n) me h = gives_within T _
  thread_within (Picked n rs) me h = gives_within T _
  thread_within (Chosen []) me h = unfit_within T
  thread_within (Chosen (r ∷ rs)) me h = if_within T (is_thread r && (not (same_ref r me) && is_idle h r.serial)) _ _ (gives_within T _) (unfit_within T)

  pub left_within : (t : Target) (n : ℕ) (g : Progress) → At (target_kinds t) n → Within T (left_side p at_ t n g)
  left_within (Local i) n g s = gives_within T _
  left_within (FieldOf e f) n g s = after_within T (eval p at_ g.heap g.locals e n) _ (eval_within T at_ p g.heap g.locals e n s) (λ v. gives_within T _)

  pub left_place : (t : Target) (n : ℕ) (g : Progress) → OnGave (left_side p at_ t n g) (λ place. place_kinds place ≡ store_kinds t)
  left_place (Local i) n g = refl
  left_place (FieldOf e f) n g = after_any (eval p at_ g.heap g.locals e n) (λ v. Gives (InField (referent v) f)) (λ place. place_kinds place ≡ Write ∷ Writes ∷ []) (λ v. refl)

  pub store_within : (place : Place) (v : Value) (n : ℕ) (g : Progress) → At (place_kinds place) n → Within T (store p at_ place v n g)
  store_within (InLocal i) v n g s = gives_within T _
  store_within (InField o f) v n g s =
      check_within T at_ (mutable at_.context.me g.heap o || (is_listed at_ o && (is_volatile p f && (not (is_approved p f) || may_count at_ g.heap o)))) n Write _ refl s.0
      (check_within T at_ (may_write at_ o || is_listed at_ o) (n + 1) Writes _ refl s.1.0 (gives_within T _))

  malloc_within : (ty : ℕ) (vs : List Value) (g : Progress) → Within T (malloc p at_ ty vs g)
  malloc_within ty [] g = unfit_within T
  malloc_within ty (c ∷ vs) g = if_within T (truth c) _ _ (after_within T (take_object g.supply ty g.heap) _ (object_within g.supply ty g.heap) (λ t. gives_within T _)) (gives_within T _)

  claimed_within : (cs : List Claimed) (n : ℕ) (g : Progress) → At (claimed_kinds cs) n → Within T (run_claimed p at_ cs n g)
  claimed_within [] n g s = gives_within T _
  claimed_within (ClaimedVariable i ∷ cs) n g s = after_within T (run_claimed p at_ cs n g) _ (claimed_within cs n g s) (λ os. gives_within T _)
  claimed_within (ClaimedNull ∷ cs) n g s = after_within T (run_claimed p at_ cs n g) _ (claimed_within cs n g s) (λ os. gives_within T _)
  claimed_within (ClaimedOther e ty ∷ cs) n g s =
      after_within T (eval p at_ g.heap g.locals e n) _ (eval_within T at_ p g.heap g.locals e n (first_kinds T at_ e (claimed_kinds cs) n s)) (λ v.
      after_within T (run_claimed p at_ cs (n + checks e) g) _ (claimed_within cs (n + checks e) g (last_kinds T at_ e (claimed_kinds cs) n s)) (λ os. gives_within T _))

  pub claimed_many : (cs : List Claimed) (n : ℕ) (g : Progress) → OnGave (run_claimed p at_ cs n g) (λ os. length os ≡ length cs)
  claimed_many [] n g = refl
  claimed_many (ClaimedVariable i ∷ cs) n g = after_gave (run_claimed p at_ cs n g) (λ os. Gives (_ ∷ os)) (λ os. length os ≡ length cs) (λ os. length os ≡ suc (length cs))
      (claimed_many cs n g) (λ os e. ap suc e)
  claimed_many (ClaimedNull ∷ cs) n g = after_gave (run_claimed p at_ cs n g) (λ os. Gives (_ ∷ os)) (λ os. length os ≡ length cs) (λ os. length os ≡ suc (length cs)) (claimed_many cs n g)
      (λ os e. ap suc e)
  claimed_many (ClaimedOther e ty ∷ cs) n g =
      after_any (eval p at_ g.heap g.locals e n) (λ v. after (run_claimed p at_ cs (n + checks e) g) (λ os. Gives (referent v ∷ os))) (λ os. length os ≡ suc (length cs)) (λ v.
      after_gave (run_claimed p at_ cs (n + checks e) g) (λ os. Gives (referent v ∷ os)) (λ os. length os ≡ length cs) (λ os. length os ≡ suc (length cs)) (claimed_many cs (n + checks e) g)
      (λ os i. ap suc i))

  -- the conjuncts, and the invariants of the objects
  made_within : (many k : ℕ) (c : Ref) (supply : Supply) (objects : List Ref) (es : List Entry) (place : Place) (n : ℕ) (tally : Tally) (h1 : Heap) (g : Progress) → length es ≡ many →
      length objects ≡ k → At (if at_.inside then [] else replicate many MakeClaim ++ replicate k Invariant) n → Within T (claim_made p at_ c supply objects es place n tally h1 g)
  made_within many k c supply objects es place n tally h1 g e f s =
      either_within T at_.inside _ _ (λ b. gives_within T _) (λ b.
      let t = subst (λ z. At (if z then [] else replicate many MakeClaim ++ replicate k Invariant) n) b s in
      let h2 = stored_heap place (Refers c) h1 in
      specs_within T at_ (map (entry_test p h2) es) many n MakeClaim _ refl (no_more _ _ (length-map es (entry_test p h2) ∙ e))
      (kinds_left T at_.line (replicate many MakeClaim) (replicate k Invariant) n t)
      (specs_within T at_ (map (λ o. inv_test p o g.heap h2) objects) k (n + length es) Invariant _ refl (no_more _ _ (length-map objects (λ o. inv_test p o g.heap h2) ∙ f))
      (kinds_right T at_.line (replicate many MakeClaim) (replicate k Invariant) n (length es) (length-replicate many MakeClaim ∙ sym e) t) (gives_within T _)))

  make_within : (o : Option ClaimSite) (place : Place) (n : ℕ) (tally : Tally) (g : Progress) → At (site_kinds at_.inside o) n → Within T (make_claim p at_ o place n tally g)
  make_within None place n tally g s = unfit_within T
  make_within (Some site) place n tally g s =
      let many = length site.claimed.items in
      let c = claimed_checks site.claimed.items in
      let conjuncts = length site.conjuncts.items in
      let late : List CheckKind = if at_.inside then [] else replicate conjuncts MakeClaim ++ replicate many Invariant in
      let front = kinds_three T at_.line (claimed_kinds site.claimed.items) (replicate many MakeClaim) (ClaimStable ∷ []) n c many (claimed_size site.claimed.items) (length-replicate many MakeClaim)
      (kinds_left T at_.line (claimed_kinds site.claimed.items ++ replicate many MakeClaim ++ (ClaimStable ∷ [])) late n s) in
      let back = kinds_right T at_.line (claimed_kinds site.claimed.items ++ replicate many MakeClaim ++ (ClaimStable ∷ [])) late n (c + many + 1) (site_front site) s in
      let es = map (entry_of (scene at_.context g.heap g.locals)) site.conjuncts.items in
      then_within T (run_claimed p at_ site.claimed.items n g) _ (λ os. length os ≡ many) (claimed_within site.claimed.items n g front.0) (claimed_many site.claimed.items n g) (λ objects e.
      each_within T at_ (claim_tests p at_ g.heap [] objects) many (n + c) MakeClaim _ refl (no_more _ _ (claim_tests_size p at_ g.heap [] objects ∙ e)) front.1
      (after_within T (take_object g.supply 2 g.heap) _ (object_within g.supply 2 g.heap) (λ t.
      made_within conjuncts many t.which t.supply objects es place (n + c + length objects + 1) tally _ g (length-map site.conjuncts.items (entry_of (scene at_.context g.heap g.locals))) e
      (kinds_from T at_.line late (n + (c + many + 1)) (n + c + length objects + 1) (omega (arith, e)) back))))

  exchange_within : (op : Operation) (o : Ref) (f : ℕ) (vs : List Value) (n : ℕ) (g : Progress) →
      At (if counts op then Read ∷ Range ∷ Write ∷ Writes ∷ [] else Read ∷ Write ∷ Writes ∷ []) n → Within T (exchange p at_ op o f vs n g)
  exchange_within op o f vs n g s = by (counts op) s
    where
      now : Value
      now = replaced op vs (read p g.heap o f)

      done : Progress → Outcome Valued
      done g' = Gives (record { value = given op (read p g.heap o f) now; starting = g' })

      by : (b : Bool) → At (if b then Read ∷ Range ∷ Write ∷ Writes ∷ [] else Read ∷ Write ∷ Writes ∷ []) n →
          Within T (check at_ (readable p at_ g.heap o f) n Read (check at_ (not b || in_type (type_of_field p f) now) (n + 1) Range
          (after (store p at_ (InField o f) now (if b then n + 2 else n + 1) g) done)))
      by true s =
          check_within T at_ (readable p at_ g.heap o f) n Read _ refl s.0
          (check_within T at_ (in_type (type_of_field p f) now) (n + 1) Range _ refl s.1.0
          (after_within T (store p at_ (InField o f) now (n + 2) g) _ (store_within (InField o f) now (n + 2) g
          (kinds_from T at_.line (Write ∷ Writes ∷ []) (n + 1 + 1) (n + 2) (omega arith) s.1.1)) (λ g'. gives_within T _)))
      by false s =
          check_within T at_ (readable p at_ g.heap o f) n Read _ refl s.0
          (after_within T (store p at_ (InField o f) now (n + 1) g) _ (store_within (InField o f) now (n + 1) g s.1) (λ g'. gives_within T _))

  afterwards_within : (r : InterlockedResult) (n : ℕ) (v : Valued) → At (afterwards_kinds r) n → Within T (afterwards p at_ r n v)
  afterwards_within (Plainly c) n v s = after_within T (convert_to at_ c v.value n) _ (convert_within T at_ c v.value n s) (λ w. gives_within T _)
  afterwards_within (Compared c equal e d) n v s =
      let t = kinds_three T at_.line (conversion_kinds c) (kinds e) (conversion_kinds d) n (conversion_checks c) (checks e) (conversion_size c) (kinds_size e) s in
      after_within T (convert_to at_ c v.value n) _ (convert_within T at_ c v.value n t.0) (λ a.
      after_within T (eval p at_ v.starting.heap v.starting.locals e (n + conversion_checks c)) _ (eval_within T at_ p v.starting.heap v.starting.locals e (n + conversion_checks c) t.1) (λ b.
      after_within T (convert_to at_ d _ (n + conversion_checks c + checks e)) _ (convert_within T at_ d _ (n + conversion_checks c + checks e) t.2) (λ w. gives_within T _)))

  pub right_within : (r : RightSide) (place : Place) (n : ℕ) (tally : Tally) (g : Progress) → At (right_kinds p at_.inside r) n → Within T (right_side p at_ r place n tally g)
  right_within (Compute e) place n tally g s = after_within T (eval p at_ g.heap g.locals e n) _ (eval_within T at_ p g.heap g.locals e n s) (λ v. gives_within T _)
  right_within (Malloc ty) place n tally g s = malloc_within ty at_.choices g
  right_within (NewClaim k) place n tally g s = make_within (slice_get p.sites.items k) place n tally g s
  right_within (Interlocked e f op then') place n tally g s =
      let own : List CheckKind = if counts op then Read ∷ Range ∷ Write ∷ Writes ∷ [] else Read ∷ Write ∷ Writes ∷ [] in
      let c = all_checks (operands op) in
      let d : ℕ = if counts op then 4 else 3 in
      let whole = kinds e ++ all_kinds (operands op) ++ own in
      let size = three_sizes (kinds e) (all_kinds (operands op)) own (checks e) c d (kinds_size e) (all_kinds_size (operands op)) (exchange_size op) in
      let front = kinds_three T at_.line (kinds e) (all_kinds (operands op)) own n (checks e) c (kinds_size e) (all_kinds_size (operands op))
      (kinds_left T at_.line whole (afterwards_kinds then') n s) in
      let back = kinds_right T at_.line whole (afterwards_kinds then') n (checks e + c + d) size s in
      let z = operation_size op in
      after_within T (eval p at_ g.heap g.locals e n) _ (eval_within T at_ p g.heap g.locals e n front.0) (λ o.
      after_within T (eval_all p at_ g.heap g.locals (operands op) (n + checks e)) _ (all_within T at_ p g.heap g.locals (operands op) (n + checks e) front.1) (λ vs.
      after_within T (exchange p at_ op (referent o) f vs (n + checks e + c) g) _ (exchange_within op (referent o) f vs (n + checks e + c) g front.2) (λ v.
      afterwards_within then' (n + checks e + operation_checks op) v (kinds_from T at_.line (afterwards_kinds then') (n + (checks e + c + d)) (n + checks e + operation_checks op)
      (omega (arith, z)) back))))

  two_within : {A : Type 0} (a b c d : Bool) (n : ℕ) (o u : Outcome A) (inside : Bool) → T n Write at_.line → T (n + 1) (if inside then Owns else Writes) at_.line → Within T o → Within T u →
      Within T (if inside then check at_ a n Write (check at_ b (n + 1) Owns o) else check at_ c n Write (check at_ d (n + 1) Writes u))
  two_within a b c d n o u true s t x y = check_within T at_ a n Write _ refl s (check_within T at_ b (n + 1) Owns _ refl t x)
  two_within a b c d n o u false s t x y = check_within T at_ c n Write _ refl s (check_within T at_ d (n + 1) Writes _ refl t y)

  member_within : (c : OwnsChange) (o q : Ref) (n : ℕ) (g : Progress) → T n Write at_.line → T (n + 1) (if at_.inside then Owns else Writes) at_.line → Within T (member_change p at_ c o q n g)
  member_within Assigned o q n g s t = gives_within T _
  member_within Added o q n g s t = two_within (is_listed at_ o) (wrapped at_.context.me g.heap q && may_write at_ q) (mutable at_.context.me g.heap o) (may_write at_ o) n _ _ at_.inside s
      t (gives_within T _) (gives_within T _)
  member_within Removed o q n g s t = two_within (is_listed at_ o) (is_in q (g.heap.get o).owned) (mutable at_.context.me g.heap o) (may_write at_ o) n _ _ at_.inside s t (gives_within T _)
      (gives_within T _)

  members_within : (c : OwnsChange) (o : Ref) (vs : List Value) (es : List Expr) (n : ℕ) (g : Progress) → length vs ≡ length es → At (member_kinds at_.inside es) n →
      Within T (members_change p at_ c o vs n g)
  members_within c o [] es n g e s = gives_within T _
  members_within c o (v ∷ vs) [] n g e s = absurd (omega (arith, e))
  members_within c o (v ∷ vs) (x ∷ es) n g e s =
      after_within T (member_change p at_ c o (referent v) n g) _ (member_within c o (referent v) n g s.0 s.1.0) (λ g'.
      members_within c o vs es (n + 2) g' (omega (arith, e)) (kinds_from T at_.line (member_kinds at_.inside es) (n + 1 + 1) (n + 2) (omega arith) s.1.1))

  owned_within : (c : OwnsChange) (o : Ref) (vs : List Value) (es : List Expr) (n : ℕ) (g : Progress) → length vs ≡ length es → At (change_kinds at_.inside c es) n →
      Within T (owned_change p at_ c o vs n g)
  owned_within Assigned o vs es n g e s = check_within T at_ (mutable at_.context.me g.heap o) n Write _ refl s.0 (check_within T at_ (may_write at_ o) (n + 1) Writes _ refl s.1.0 (gives_within T _))
  owned_within Added o vs es n g e s = members_within Added o vs es n g e s
  owned_within Removed o vs es n g e s = members_within Removed o vs es n g e s

  outside_within : {A : Type 0} (b : Bool) (ts : List Tested) (many n : ℕ) (o : Outcome A) → length ts ≤ many → At (if b then [] else replicate many Invariant) n → Within T o →
      Within T (check_specs at_ (if b then [] else ts) n Invariant o)
  outside_within true ts many n o l s x = x
  outside_within false ts many n o l s x = specs_within T at_ ts many n Invariant o refl l s x

  end_within : (many : ℕ) (c : Ref) (objects : List Ref) (n : ℕ) (tally : Tally) (g : Progress) → length objects ≡ many → T n DestroyClaim at_.line →
      At (replicate many DestroyClaim) (n + 1) → At (if at_.inside then [] else replicate many Invariant) (n + 1 + many) → Within T (end_claim p at_ c objects n tally g)
  end_within many c objects n tally g e s t u =
      let h1 = ended p at_ c objects g.heap in
      check_within T at_ (may_end p at_ c objects g.heap) n DestroyClaim _ refl s
      (each_within T at_ (map (may_count at_ g.heap) objects) many (n + 1) DestroyClaim _ refl (no_more _ _ (length-map objects (may_count at_ g.heap) ∙ e)) t
      (outside_within at_.inside (map (λ o. inv_test p o g.heap h1) objects) many (n + 1 + length objects) _ (no_more _ _ (length-map objects (λ o. inv_test p o g.heap h1) ∙ e))
      (kinds_from T at_.line (if at_.inside then [] else replicate many Invariant) (n + 1 + many) (n + 1 + length objects) (omega (arith, e)) u) (gives_within T _)))

  pub simple_within : (s : Simple) (n : ℕ) (tally : Tally) (g : Progress) → At (simple_kinds p at_.inside s) n → Within T (run_simple p at_ s n tally g)
  simple_within (Assign t r) n tally g s =
      let z = kinds_three T at_.line (target_kinds t) (right_kinds p at_.inside r) (store_kinds t) n (target_checks t) (right_checks p at_.inside r) (target_size t) (right_size p at_.inside r) s in
      then_within T (left_side p at_ t n g) _ (λ place. place_kinds place ≡ store_kinds t) (left_within t n g z.0) (left_place t n g) (λ place e.
      after_within T (right_side p at_ r place (n + target_checks t) tally g) _ (right_within r place (n + target_checks t) tally g z.1) (λ v.
      store_within place v.value (n + target_checks t + right_checks p at_.inside r) v.starting (subst (λ ks. At ks (n + target_checks t + right_checks p at_.inside r)) (sym e) z.2)))
  simple_within (ChangeOwned c x es) n tally g s =
      let z = kinds_three T at_.line (kinds x) (all_kinds es.items) (change_kinds at_.inside c es.items) n (checks x) (all_checks es.items) (kinds_size x) (all_kinds_size es.items) s in
      after_within T (eval p at_ g.heap g.locals x n) _ (eval_within T at_ p g.heap g.locals x n z.0) (λ o.
      then_within T (eval_all p at_ g.heap g.locals es.items (n + checks x)) _ (λ vs. length vs ≡ length es.items) (all_within T at_ p g.heap g.locals es.items (n + checks x) z.1)
      (all_size T at_ p g.heap g.locals es.items (n + checks x)) (λ vs e.
      owned_within c (referent o) vs es.items (n + checks x + all_checks es.items) g e z.2))
  simple_within (EndClaim q x es) n tally g s =
      let many = length es.items in
      let a = kinds x ++ all_kinds es.items ++ (DestroyClaim ∷ []) in
      let b = replicate many DestroyClaim in
      let c : List CheckKind = if at_.inside then [] else replicate many Invariant in
      let m = checks x + all_checks es.items in
      let size = three_sizes (kinds x) (all_kinds es.items) (DestroyClaim ∷ []) (checks x) (all_checks es.items) 1 (kinds_size x) (all_kinds_size es.items) refl in
      let front = kinds_left T at_.line a b n (kinds_left T at_.line (a ++ b) c n s) in
      let z = kinds_three T at_.line (kinds x) (all_kinds es.items) (DestroyClaim ∷ []) n (checks x) (all_checks es.items) (kinds_size x) (all_kinds_size es.items) front in
      let mid = kinds_right T at_.line a b n (m + 1) size (kinds_left T at_.line (a ++ b) c n s) in
      let late = kinds_right T at_.line (a ++ b) c n (m + 1 + many) (both_sizes a b (m + 1) many size (length-replicate many DestroyClaim)) s in
      after_within T (eval p at_ g.heap g.locals x n) _ (eval_within T at_ p g.heap g.locals x n z.0) (λ o.
      then_within T (eval_all p at_ g.heap g.locals es.items (n + checks x)) _ (λ vs. length vs ≡ many) (all_within T at_ p g.heap g.locals es.items (n + checks x) z.1)
      (all_size T at_ p g.heap g.locals es.items (n + checks x)) (λ vs e.
      end_within many (referent o) (map referent vs) (n + checks x + all_checks es.items) tally g (length-map vs referent ∙ e) z.2.0
      (kinds_from T at_.line b (n + (m + 1)) (n + checks x + all_checks es.items + 1) (omega arith) mid)
      (kinds_from T at_.line c (n + (m + 1 + many)) (n + checks x + all_checks es.items + 1 + many) (omega arith) late)))
