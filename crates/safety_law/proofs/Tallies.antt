-- What a block leaves to be tested at its end has places below those of what comes later in its text.
use Rattle.std.proofs.Common.{◌≡◌, ℕ, ◌+◌, ◌≤◌, refl, sym, ◌∙◌, subst, List, [], ◌∷◌, ◌++◌, map, length, Option, Some, None, slice_get, if◌then◌else◌, arith}
use Rattle.std.proofs.lemmas.List.{length-map}
use Rattle.object_types.specs.declared.references.Ref.{Ref}
use Rattle.object_types.specs.declared.values.Value.{Value}
use Rattle.object_types.specs.declared.values.Value.TheVariants.{Ref as Refers}
use Rattle.object_types.specs.declared.shapes.Entry.{Entry}
use Rattle.method.specs.declared.program.CheckKind.TheVariants.{Range, Read, Write, Writes, Owns, Invariant, MakeClaim, DestroyClaim}
use Rattle.method.specs.declared.program.InterlockedResult.{InterlockedResult}
use Rattle.method.specs.declared.program.InterlockedResult.TheVariants.{Plainly, Compared}
use Rattle.method.specs.declared.program.Operation.{Operation}
use Rattle.method.specs.declared.program.RightSide.{RightSide}
use Rattle.method.specs.declared.program.RightSide.TheVariants.{Compute, Malloc, NewClaim, Interlocked}
use Rattle.method.specs.declared.program.OwnsChange.{OwnsChange}
use Rattle.method.specs.declared.program.OwnsChange.TheVariants.{Assigned, Added, Removed}
use Rattle.method.specs.declared.program.Simple.{Simple}
use Rattle.method.specs.declared.program.Simple.TheVariants.{Assign, ChangeOwned, EndClaim}
use Rattle.method.specs.declared.program.Inner.{Inner, Row_of-Inner, end_of-Inner, more_of-Inner}
use Rattle.method.specs.declared.program.Inner.TheVariants.{Inside, InsideIf'}
use Rattle.method.specs.declared.program.ClaimSite.{ClaimSite}
use Rattle.method.specs.declared.program.Program.{Program}
use Rattle.object_types.specs.Values.{referent, truth}
use Rattle.object_types.specs.Heap.{Heap}
use Rattle.method.specs.Tables.{read}
use Rattle.method.specs.SpecValue.{entry_of}
use Rattle.method.specs.Expressions.{Context, Outcome, Spot, checks, all_checks, eval, eval_all, scene, inv_test, entry_test}
use Rattle.method.specs.Actions.{Place, InLocal, InField, Supply, Progress, Valued, Tally, no_tally, tally_plus, Deferred, deferred_from, take_object, left_side, store, malloc, run_claimed, claim_made, make_claim, claim_tests, claimed_checks, stored_heap, may_count, exchange, replaced, counts, operands, operation_checks, convert_to, conversion_checks, afterwards, right_side, right_checks, target_checks, right_tally, simple_tally, site_tally, inner_tally, row_tally, list_tally, inner_checks, row_checks, member_change, members_change, owned_change, ended, end_claim, run_simple, inner_spot, run_inner, run_row, run_list}
use Rattle.safety_law.proofs.Yields.{Yields, yields_gives, yields_unfit, yields_then, yields_after, yields_if, yields_check, yields_each, yields_specs, yields_more}
use Rattle.safety_law.proofs.Exprs.{all_size}
use Rattle.safety_law.proofs.Simples.{claimed_many}

abbrev pub Below : ℕ → List Deferred → Type 0
Below m [] = Unit {0}
Below m (d ∷ ds) = (d.place + 1 ≤ m) × Below m ds

below_more : (m n : ℕ) (ds : List Deferred) → m ≤ n → Below m ds → Below n ds
below_more m n [] l b = tt
below_more m n (d ∷ ds) l b = (let x = b.0 in omega (arith, l, x), below_more m n ds l b.1)

below_both : (m : ℕ) (ds es : List Deferred) → Below m ds → Below m es → Below m (ds ++ es)
below_both m [] es b c = c
below_both m (d ∷ ds) es b c = (b.0, below_both m ds es b.1 c)

below_from : (n m : ℕ) (os : List Ref) → n + length os ≤ m → Below m (deferred_from n os)
below_from n m [] l = tt
below_from n m (o ∷ os) l = (omega (arith, l), below_from (n + 1) m os (omega (arith, l)))

-- so many objects and claims stand before this place
pub record BelowTally (t : Tally) (g : Progress) : Type 0 where
  pub changed : Below t.objects g.changed
  pub made : Below t.claims g.made

pub below_tally_more : (t u : Tally) (g : Progress) → t.objects ≤ u.objects → t.claims ≤ u.claims → BelowTally t g → BelowTally u g
below_tally_more t u g a b x = record { changed = below_more t.objects u.objects g.changed a x.changed; made = below_more t.claims u.claims g.made b x.made }

below_tally_plus : (t u : Tally) (g : Progress) → BelowTally t g → BelowTally (tally_plus t u) g
below_tally_plus t u g x = below_tally_more t (tally_plus t u) g (omega arith) (omega arith) x

module _ (p : Program) (at_ : Spot) where
  -- the lists stay as they are
  pub record Same (g g' : Progress) : Type 0 where
    pub changed : g'.changed ≡ g.changed
    pub made : g'.made ≡ g.made

  abbrev SameValued : Progress → Valued → Type 0
  SameValued g v = Same g v.starting

  same_below : (t : Tally) (g g' : Progress) → BelowTally t g → Same g g' → BelowTally t g'
  same_below t g g' x s = record { changed = subst (Below t.objects) (sym s.changed) x.changed; made = subst (Below t.claims) (sym s.made) x.made }

  same_trans : (g g' g'' : Progress) → Same g g' → Same g' g'' → Same g g''
  same_trans g g' g'' x y = record { changed = y.changed ∙ x.changed; made = y.made ∙ x.made }

  unchanged : (g : Progress) → Same g g
  unchanged g = record { changed = refl; made = refl }

  store_same : (place : Place) (v : Value) (n : ℕ) (g : Progress) → Yields (Same g) (store p at_ place v n g)
  store_same (InLocal i) v n g = yields_gives (Same g) _ (record { changed = refl; made = refl })
  store_same (InField o f) v n g = yields_check (Same g) at_ _ n Write _ (yields_check (Same g) at_ _ (n + 1) Writes _ (yields_gives (Same g) _ (record { changed = refl; made = refl })))

  malloc_same : (ty : ℕ) (vs : List Value) (g : Progress) → Yields (SameValued g) (malloc p at_ ty vs g)
  malloc_same ty [] g = yields_unfit (SameValued g)
  malloc_same ty (c ∷ vs) g = yields_if (SameValued g) (truth c) _ _ (yields_after (SameValued g) (take_object g.supply ty g.heap) _
      (λ t. yields_gives (SameValued g) _ (record { changed = refl; made = refl }))) (yields_gives (SameValued g) _ (unchanged g))

  exchange_same : (op : Operation) (o : Ref) (f : ℕ) (vs : List Value) (n : ℕ) (g : Progress) → Yields (SameValued g) (exchange p at_ op o f vs n g)
  exchange_same op o f vs n g =
      let now = replaced op vs (read p g.heap o f) in
      let m : ℕ = if counts op then n + 2 else n + 1 in
      yields_check (SameValued g) at_ _ n Read _ (yields_check (SameValued g) at_ _ (n + 1) Range _ (
      yields_then (Same g) (SameValued g) (store p at_ (InField o f) now m g) _ (store_same (InField o f) now m g) (λ g' x. yields_gives (SameValued g) _ x)))

  afterwards_same : (r : InterlockedResult) (n : ℕ) (g : Progress) (v : Valued) → Same g v.starting → Yields (SameValued g) (afterwards p at_ r n v)
  afterwards_same (Plainly c) n g v x = yields_after (SameValued g) (convert_to at_ c v.value n) _ (λ w. yields_gives (SameValued g) _ x)
  afterwards_same (Compared c equal e d) n g v x =
      yields_after (SameValued g) (convert_to at_ c v.value n) _ (λ a.
      yields_after (SameValued g) (eval p at_ v.starting.heap v.starting.locals e (n + conversion_checks c)) _ (λ b.
      yields_after (SameValued g) (convert_to at_ d _ (n + conversion_checks c + checks e)) _ (λ w. yields_gives (SameValued g) _ x)))

  -- Right sides and statements, from a place with this tally.

  abbrev BelowTallyValued : Tally → Valued → Type 0
  BelowTallyValued t v = BelowTally t v.starting

  same_right : (t : Tally) (g : Progress) (o : Outcome Valued) → BelowTally t g → Yields (SameValued g) o → Yields (BelowTallyValued (tally_plus t no_tally)) o
  same_right t g o x y = yields_more (SameValued g) (BelowTallyValued (tally_plus t no_tally)) o (λ v z. below_tally_plus t no_tally v.starting (same_below t g v.starting x z)) y

  made_below : (c : Ref) (supply : Supply) (objects : List Ref) (es : List Entry) (place : Place) (n many : ℕ) (t : Tally) (h1 : Heap) (g : Progress) → length objects ≡ many →
      BelowTally t g → Yields (BelowTallyValued (tally_plus t (record { objects = many; claims = 1 }))) (claim_made p at_ c supply objects es place n t h1 g)
  made_below c supply objects es place n many t h1 g e x =
      let Q = BelowTallyValued (tally_plus t (record { objects = many; claims = 1 })) in
      let h2 = stored_heap place (Refers c) h1 in
      let y = below_tally_plus t (record { objects = many; claims = 1 }) g x in
      let z : BelowTally (tally_plus t (record { objects = many; claims = 1 })) (record g
      { heap = h1; supply = supply; changed = g.changed ++ deferred_from t.objects objects; made = g.made ++ deferred_from t.claims (c ∷ []) }) = record {
        changed = below_both (t.objects + many) g.changed (deferred_from t.objects objects) y.changed (below_from t.objects (t.objects + many) objects (omega (arith, e)));
        made = below_both (t.claims + 1) g.made (deferred_from t.claims (c ∷ [])) y.made (below_from t.claims (t.claims + 1) (c ∷ []) (omega arith));
      } in
      yields_if Q at_.inside _ _ (yields_gives Q _ z) (yields_specs Q at_ (map (entry_test p h2) es) n MakeClaim _
      (yields_specs Q at_ (map (λ o. inv_test p o g.heap h2) objects) (n + length es) Invariant _ (yields_gives Q _ z)))

  make_below : (o : Option ClaimSite) (place : Place) (n : ℕ) (t : Tally) (g : Progress) → BelowTally t g → Yields (BelowTallyValued (tally_plus t (site_tally o))) (make_claim p at_ o place n t g)
  make_below None place n t g x = yields_unfit (BelowTallyValued (tally_plus t no_tally))
  make_below (Some site) place n t g x =
      let many = length site.claimed.items in
      let Q = BelowTallyValued (tally_plus t (record { objects = many; claims = 1 })) in
      let c = claimed_checks site.claimed.items in
      yields_then (λ os. length os ≡ many) Q (run_claimed p at_ site.claimed.items n g) _ (record { gave = claimed_many (λ n k l. Unit {0}) p at_ site.claimed.items n g }) (λ objects e.
      yields_each Q at_ (claim_tests p at_ g.heap [] objects) (n + c) MakeClaim _ (
      yields_after Q (take_object g.supply 2 g.heap) _ (λ u.
      made_below u.which u.supply objects (map (entry_of (scene at_.context g.heap g.locals)) site.conjuncts.items) place (n + c + length objects + 1) many t _ g e x)))

  right_below : (r : RightSide) (place : Place) (n : ℕ) (t : Tally) (g : Progress) → BelowTally t g → Yields (BelowTallyValued (tally_plus t (right_tally p r))) (right_side p at_ r place n t g)
  right_below (Compute e) place n t g x = same_right t g _ x (yields_after (SameValued g) (eval p at_ g.heap g.locals e n) _ (λ v. yields_gives (SameValued g) _ (unchanged g)))
  right_below (Malloc ty) place n t g x = same_right t g _ x (malloc_same ty at_.choices g)
  right_below (NewClaim k) place n t g x = make_below (slice_get p.sites.items k) place n t g x
  right_below (Interlocked e f op then') place n t g x =
      same_right t g _ x (
      yields_after (SameValued g) (eval p at_ g.heap g.locals e n) _ (λ o.
      yields_after (SameValued g) (eval_all p at_ g.heap g.locals (operands op) (n + checks e)) _ (λ vs.
      yields_then (SameValued g) (SameValued g) (exchange p at_ op (referent o) f vs (n + checks e + all_checks (operands op)) g) _
      (exchange_same op (referent o) f vs (n + checks e + all_checks (operands op)) g) (λ v y.
      afterwards_same then' (n + checks e + operation_checks op) g v y))))

  member_same : (c : OwnsChange) (o q : Ref) (n : ℕ) (g : Progress) → Yields (Same g) (member_change p at_ c o q n g)
  member_same Assigned o q n g = yields_gives (Same g) _ (unchanged g)
  member_same Added o q n g =
      yields_if (Same g) at_.inside _ _ (yields_check (Same g) at_ _ n Write _ (yields_check (Same g) at_ _ (n + 1) Owns _ (yields_gives (Same g) _ (record { changed = refl; made = refl }))))
      (yields_check (Same g) at_ _ n Write _ (yields_check (Same g) at_ _ (n + 1) Writes _ (yields_gives (Same g) _ (record { changed = refl; made = refl }))))
  member_same Removed o q n g =
      yields_if (Same g) at_.inside _ _ (yields_check (Same g) at_ _ n Write _ (yields_check (Same g) at_ _ (n + 1) Owns _ (yields_gives (Same g) _ (record { changed = refl; made = refl }))))
      (yields_check (Same g) at_ _ n Write _ (yields_check (Same g) at_ _ (n + 1) Writes _ (yields_gives (Same g) _ (record { changed = refl; made = refl }))))

  members_same : (c : OwnsChange) (o : Ref) (vs : List Value) (n : ℕ) (g : Progress) → Yields (Same g) (members_change p at_ c o vs n g)
  members_same c o [] n g = yields_gives (Same g) _ (unchanged g)
  members_same c o (v ∷ vs) n g = yields_then (Same g) (Same g) (member_change p at_ c o (referent v) n g) _ (member_same c o (referent v) n g)
      (λ g' x. yields_more (Same g') (Same g) _ (λ g'' y. same_trans g g' g'' x y) (members_same c o vs (n + 2) g'))

  owned_same : (c : OwnsChange) (o : Ref) (vs : List Value) (n : ℕ) (g : Progress) → Yields (Same g) (owned_change p at_ c o vs n g)
  owned_same Assigned o vs n g = yields_check (Same g) at_ _ n Write _ (yields_check (Same g) at_ _ (n + 1) Writes _ (yields_gives (Same g) _ (record { changed = refl; made = refl })))
  owned_same Added o vs n g = members_same Added o vs n g
  owned_same Removed o vs n g = members_same Removed o vs n g

  end_below : (c : Ref) (objects : List Ref) (n many : ℕ) (t : Tally) (g : Progress) → length objects ≡ many → BelowTally t g →
      Yields (BelowTally (tally_plus t (record { objects = many; claims = 0 }))) (end_claim p at_ c objects n t g)
  end_below c objects n many t g e x =
      let u : Tally = record { objects = many; claims = 0 } in
      let Q = BelowTally (tally_plus t u) in
      let y = below_tally_plus t u g x in
      let h1 = ended p at_ c objects g.heap in
      yields_check Q at_ _ n DestroyClaim _ (yields_each Q at_ (map (may_count at_ g.heap) objects) (n + 1) DestroyClaim _
      (yields_specs Q at_ (if at_.inside then [] else map (λ o. inv_test p o g.heap h1) objects) (n + 1 + length objects) Invariant _ (
      yields_gives Q _ (record {
        changed = below_both (t.objects + many) g.changed (deferred_from t.objects objects) y.changed
            (below_from t.objects (t.objects + many) objects (omega (arith, e)));
        made = y.made;
      }))))

  pub simple_below : (s : Simple) (n : ℕ) (t : Tally) (g : Progress) → BelowTally t g → Yields (BelowTally (tally_plus t (simple_tally p s))) (run_simple p at_ s n t g)
  simple_below (Assign a r) n t g x =
      let u = tally_plus t (right_tally p r) in
      yields_after (BelowTally u) (left_side p at_ a n g) _ (λ place.
      yields_then (BelowTallyValued u) (BelowTally u) (right_side p at_ r place (n + target_checks a) t g) _ (right_below r place (n + target_checks a) t g x) (λ v y.
      yields_more (Same v.starting) (BelowTally u) _ (λ g' z. same_below u v.starting g' y z) (store_same place v.value (n + target_checks a + right_checks p at_.inside r) v.starting)))
  simple_below (ChangeOwned c e es) n t g x =
      let Q = BelowTally (tally_plus t no_tally) in
      yields_after Q (eval p at_ g.heap g.locals e n) _ (λ o.
      yields_after Q (eval_all p at_ g.heap g.locals es.items (n + checks e)) _ (λ vs.
      yields_more (Same g) Q _ (λ g' z. below_tally_plus t no_tally g' (same_below t g g' x z)) (owned_same c (referent o) vs (n + checks e + all_checks es.items) g)))
  simple_below (EndClaim q e es) n t g x =
      let many = length es.items in
      let Q = BelowTally (tally_plus t (record { objects = many; claims = 0 })) in
      yields_after Q (eval p at_ g.heap g.locals e n) _ (λ c.
      yields_then (λ vs. length vs ≡ many) Q (eval_all p at_ g.heap g.locals es.items (n + checks e)) _
      (record { gave = all_size (λ n k l. Unit {0}) at_ p g.heap g.locals es.items (n + checks e) }) (λ vs i.
      end_below (referent c) (map referent vs) (n + checks e + all_checks es.items) many t g (length-map vs referent ∙ i) x))

module _ (p : Program) (x : Context) (os : List Ref) where
  mutual
    pub inner_below : (i : Inner) (n : ℕ) (t : Tally) (g : Progress) → BelowTally t g → Yields (BelowTally (tally_plus t (inner_tally p i))) (run_inner p x os i n t g)
    inner_below (Inside line s) n t g y = simple_below p (inner_spot p x os line) s n t g y
    inner_below (InsideIf' line e m a q b) n t g y =
        let u = tally_plus (row_tally p a) (row_tally p b) in
        let Q = BelowTally (tally_plus t u) in
        let at_ = inner_spot p x os line in
        yields_after Q (eval p at_ g.heap g.locals e n) _ (λ v. yields_if Q (truth v) _ _
        (yields_more (BelowTally (tally_plus t (row_tally p a))) Q _ (λ g' z. below_tally_more (tally_plus t (row_tally p a)) (tally_plus t u) g' (omega arith) (omega arith) z)
        (row_below a (n + checks e) t g y))
        (yields_more (BelowTally (tally_plus (tally_plus t (row_tally p a)) (row_tally p b))) Q _
        (λ g' z. below_tally_more (tally_plus (tally_plus t (row_tally p a)) (row_tally p b)) (tally_plus t u) g' (omega arith) (omega arith) z)
        (row_below b (n + checks e + row_checks p a) (tally_plus t (row_tally p a)) g (below_tally_plus t (row_tally p a) g y))))

    row_below : {m : _} (row : Row_of-Inner m) (n : ℕ) (t : Tally) (g : Progress) → BelowTally t g → Yields (BelowTally (tally_plus t (row_tally p row))) (run_row p x os row n t g)
    row_below end_of-Inner n t g y = yields_gives (BelowTally (tally_plus t no_tally)) _ (below_tally_plus t no_tally g y)
    row_below (more_of-Inner i row) n t g y =
        let u = tally_plus t (inner_tally p i) in
        let Q = BelowTally (tally_plus t (tally_plus (inner_tally p i) (row_tally p row))) in
        yields_then (BelowTally u) Q (run_inner p x os i n t g) _ (inner_below i n t g y) (λ g' z.
        yields_more (BelowTally (tally_plus u (row_tally p row))) Q _ (λ g'' w. below_tally_more (tally_plus u (row_tally p row))
        (tally_plus t (tally_plus (inner_tally p i) (row_tally p row))) g'' (omega arith) (omega arith) w) (row_below row (n + inner_checks p i) u g' z))

  pub list_below : (is : List Inner) (n : ℕ) (t : Tally) (g : Progress) → BelowTally t g → Yields (BelowTally (tally_plus t (list_tally p is))) (run_list p x os is n t g)
  list_below [] n t g y = yields_gives (BelowTally (tally_plus t no_tally)) _ (below_tally_plus t no_tally g y)
  list_below (i ∷ is) n t g y =
      let u = tally_plus t (inner_tally p i) in
      let Q = BelowTally (tally_plus t (tally_plus (inner_tally p i) (list_tally p is))) in
      yields_then (BelowTally u) Q (run_inner p x os i n t g) _ (inner_below i n t g y) (λ g' z.
      yields_more (BelowTally (tally_plus u (list_tally p is))) Q _ (λ g'' w. below_tally_more (tally_plus u (list_tally p is))
      (tally_plus t (tally_plus (inner_tally p i) (list_tally p is))) g'' (omega arith) (omega arith) w) (list_below is (n + inner_checks p i) u g' z))
