-- What the terms of an annotated program stand for: invariants, conjuncts, claimed sets, clauses and writes lists.
use Rattle.std.proofs.Common.{◌≡◌, ℕ, zero, suc, Bool, true, false, not, if◌then◌else◌, ◌&&◌, ◌||◌, List, [], ◌∷◌, map, length, Option, Some, None, slice_get, refl, ap, sym, ◌∙◌, subst, arith}
use Rattle.std.proofs.Math.Bool.{or-true}
use Rattle.std.specs.Prelude.{pos}
use Rattle.object_types.specs.declared.references.Ref.{Ref}
use Rattle.object_types.specs.declared.values.Value.{Value as Scalar}
use Rattle.object_types.specs.declared.values.Value.TheVariants.{Int, Ref as Refers}
use Rattle.object_types.specs.declared.shapes.Entry.{Entry as HeapEntry}
use Rattle.object_types.specs.References.{is_claim}
use Rattle.object_types.specs.Values.{says, same_value}
use Rattle.object_types.specs.Sets.{every}
use Rattle.object_types.specs.Shapes.{has_entry, same_entry}
use Rattle.object_types.specs.Heap.{Heap, closed_in}
use Rattle.object_types.proofs.Orders.{entry_order}
use Rattle.method.specs.declared.program.Clause.{Clause}
use Rattle.method.specs.declared.program.Shape.{Shape as ShapeInfo}
use Rattle.method.specs.declared.program.FunctionInfo.{FunctionInfo}
use Rattle.method.specs.declared.program.Program.{Program}
use Rattle.method.specs.SpecValue.{Scene, entry_holds}
use Rattle.method.specs.Invariants.{inv_holds, claim_holds, struct_holds, inv_scene}
use Rattle.method.specs.Tables.{struct_of}
use Rattle.method.specs.WellFormed.{have_sorts, is_entry}
use Rattle.method.specs.Expressions as m
use Rattle.method.specs.Expressions.{Tested, clause_tests}
use Rattle.method.specs.Actions as acts
use Rattle.method.proofs.Global.{and_both}
use Rattle.term_meaning.specs.Columns.{holes}
use Rattle.term_meaning.specs.RawHeaps.{raw}
use Rattle.term_meaning.specs.Meaning.{Language, ClaimSays, StructSays, invariant_of, If}
use Rattle.terms.specs.Formula.{Formula}
use Rattle.axiom_instances.proofs.Kit.{one, more, node_has}
use Rattle.axiom_instances.proofs.Stability.{closed_is}
use Rattle.conditions.specs.Formulas.{me}
use Rattle.conditions.specs.Annotations.{entry_formula}
use Rattle.conditions.specs.Code.{inv}
use Rattle.conditions.proofs.PathTests.{AllAre}
use Rattle.condition_meaning.specs.Languages.{language_of}
use Rattle.condition_meaning.specs.Annotated.{Annotated}
use Rattle.condition_meaning.specs.FunctionWords.{ContractFits}
use Rattle.condition_meaning.proofs.Faithful.{faithful, invariant_near, conjunct_near}
use Rattle.condition_meaning.proofs.Near.{Near}
use Rattle.condition_meaning.proofs.Columns.{AreRefs}
use Rattle.condition_meaning.proofs.FunctionScenes.{EachIs}
use Rattle.condition_meaning.proofs.Contracts.{entry_near, requires_are, writes_are}
use Rattle.condition_meaning.proofs.Environments.{Environment, Is, Has, HeapIs, has_me}
use Rattle.action_conditions.proofs.Words.{Refer, one_is}
use Rattle.action_conditions.proofs.Annotations.{all_args}
use Rattle.block_conditions.proofs.Blocks.{InvIs, EntryTrueIs}
use Rattle.block_conditions.proofs.Spawns.{ItemsStand, ClausesStand}

-- Conjuncts.

sorts_of : (o : Option ShapeInfo) (vs : List Scalar) → is_entry o vs ≡ true → have_sorts (holes o) vs ≡ true
sorts_of None vs e = absurd (cc)
sorts_of (Some sh) vs e = e

pub entries_true : (p : Program) → Annotated p → (t : Ref) → EntryTrueIs p t
entries_true p good t e y h d z hy proper is =
    subst (λ (n : ℕ). Is (language_of p) t e (entry_formula p y (record { shape = n; values = d.values })) (entry_holds p h z)) (sym is.shape)
    (entry_near p good e.env z.shape y h d.values z.values (sorts_of (slice_get p.shapes.items z.shape) z.values is.fits) hy proper (all_args (language_of p) t e d.values z.values is.values))

-- Invariants, a claim's too: its conjuncts hold while it is closed.

every_by : (g : HeapEntry → Bool) (es : List HeapEntry) → ((d : HeapEntry) → has_entry d es ≡ true → g d ≡ true) → every g es ≡ true
every_by g [] h = refl
every_by g (d ∷ ds) h = ap (λ b. b && every g ds) (h d (ap (λ b. b || has_entry d ds) (entry_order.itself d))) ∙ every_by g ds (λ c i. h c (ap (λ b. same_entry c d || b) i ∙ or-true (same_entry c d)))

sorted_in : (g : HeapEntry → Bool) (es : List HeapEntry) (d : HeapEntry) → every g es ≡ true → has_entry d es ≡ true → ((c : HeapEntry) → same_entry d c ≡ true → g c ≡ true → g d ≡ true) → g d ≡ true
sorted_in g [] d h i same = absurd (cc)
sorted_in g (c ∷ cs) d h i same = let b = and_both (g c) (every g cs) h in by b.0 (λ j. sorted_in g cs d b.1 j same) (same_entry d c) refl i
  where
    by : g c ≡ true → (has_entry d cs ≡ true → g d ≡ true) → (b : Bool) → same_entry d c ≡ b → b || has_entry d cs ≡ true → g d ≡ true
    by here rest true is or = same c is here
    by here rest false is or = rest or

conjunct_at : (l : Language) → length l.conjuncts ≡ length l.program.shapes.items → (n : ℕ) (vs : List Scalar) → is_entry (slice_get l.program.shapes.items n) vs ≡ true → (f : Formula) × (slice_get l.conjuncts n ≡ Some f)
conjunct_at l many n vs e = found l.conjuncts l.program.shapes.items n many e
  where
    found : (fs : List Formula) (ss : List ShapeInfo) (n : ℕ) → length fs ≡ length ss → is_entry (slice_get ss n) vs ≡ true → (f : Formula) × (slice_get fs n ≡ Some f)
    found fs [] n many e = absurd (cc)
    found [] (s ∷ ss) n many e = absurd (omega (arith, many))
    found (f ∷ fs) (s ∷ ss) zero many e = (f, refl)
    found (f ∷ fs) (s ∷ ss) (suc n) many e = found fs ss n (omega (arith, many)) e

one_true : says true ≡ Int (pos 1)
one_true = refl

every_has : (g : HeapEntry → Bool) (d : HeapEntry) (es : List HeapEntry) → every g es ≡ true → has_entry d es ≡ true → g d ≡ true
every_has g d es h i = sorted_in g es d h i (λ c same k. subst (λ (y : HeapEntry). g y ≡ true) (sym (entry_order.equal d c same)) k)

module _ (p : Program) (good : Annotated p) (t : Ref) (e : Environment (language_of p) t) where
  abbrev l : Language
  l = language_of p

  claim_says : (r : Ref) (h : Heap) → Near p h → ClaimSays l e.env.me r (raw p h) → not (closed_in h r) || claim_holds p r h ≡ true
  claim_says r h proper c = by (closed_in h r) refl
    where
      each : closed_in h r ≡ true → (d : HeapEntry) → has_entry d (h.get r).shapes ≡ true → entry_holds p h d ≡ true
      each shut d here =
          let sorted = every_has (λ y. is_entry (slice_get p.shapes.items y.shape) y.values) d (h.get r).shapes (proper.entries r) here in
          let f = conjunct_at l (faithful p good).each_shape d.shape d.values sorted in
          (conjunct_near p good e.env.me d.shape f.0 h d.values proper f.1 (sorts_of (slice_get p.shapes.items d.shape) d.values sorted)).1
          (c (closed_is p h r ∙ shut) d.shape f.0 f.1 d.values (sorts_of (slice_get p.shapes.items d.shape) d.values sorted) (ap (λ b. same_value (says b) (Int (pos 1))) here))

      by : (b : Bool) → closed_in h r ≡ b → not b || claim_holds p r h ≡ true
      by true shut = every_by (entry_holds p h) (h.get r).shapes (each shut)
      by false shut = refl

  says_claim : (r : Ref) (h : Heap) → Near p h → not (closed_in h r) || claim_holds p r h ≡ true → ClaimSays l e.env.me r (raw p h)
  says_claim r h proper i shut n f is vs sorts here =
      let now : closed_in h r ≡ true = sym (closed_is p h r) ∙ shut in
      let entry : has_entry (record { shape = n; values = vs }) (h.get r).shapes ≡ true = sym (one_is (has_entry (record { shape = n; values = vs }) (h.get r).shapes)) ∙ here in
      let all : claim_holds p r h ≡ true = sym (ap (λ b. not b || claim_holds p r h) now) ∙ i in
      (conjunct_near p good e.env.me n f h vs proper is sorts).0 (every_has (entry_holds p h) (record { shape = n; values = vs }) (h.get r).shapes all entry)

  pub any_invariant : (o f g : Formula) (r : Ref) (h j : Heap) → Near p h → Near p j → Has l t e o (Refers r) → HeapIs l t e f h → HeapIs l t e g j → Is l t e (inv o f g) (inv_holds p r h j)
  unfolding inv_holds
  any_invariant o f g r h j proper proper' ho hf hg = node_has (more ho (more hf (one hg))) (record { is_bool = refl; yes = λ i. yes_by (is_claim r) i; holds = λ i. holds_by (is_claim r) i })
    where
      yes_by : (b : Bool) → (if b then not (closed_in j r) || claim_holds p r j else struct_holds p (struct_of p r.ty) (inv_scene r h j)) ≡ true → If b (ClaimSays l e.env.me r (raw p j)) (StructSays l e.env.me (invariant_of l r.ty) r (raw p h) (raw p j))
      yes_by true i = says_claim r j proper' i
      yes_by false i = (invariant_near p good e.env.me r h j proper proper').0 i

      holds_by : (b : Bool) → If b (ClaimSays l e.env.me r (raw p j)) (StructSays l e.env.me (invariant_of l r.ty) r (raw p h) (raw p j)) → (if b then not (closed_in j r) || claim_holds p r j else struct_holds p (struct_of p r.ty) (inv_scene r h j)) ≡ true
      holds_by true i = claim_says r j proper' i
      holds_by false i = (invariant_near p good e.env.me r h j proper proper').1 i

pub invs_true : (p : Program) → Annotated p → (t : Ref) → InvIs p t
invs_true p good t e o y z r h j ho hy hz proper proper' = any_invariant p good t e o y z r h j proper proper' ho hy hz

-- Clauses and writes lists.

refer_of : (l : Language) (t : Ref) (e : Environment l t) (ws : List Formula) (rs : List Ref) → AreRefs l e.env ws rs → Refer l t e ws rs
refer_of l t e [] [] a = tt
refer_of l t e [] (r ∷ rs) a = absurd a
refer_of l t e (w ∷ ws) [] a = absurd a
refer_of l t e (w ∷ ws) (r ∷ rs) a = (a.0, refer_of l t e ws rs a.1)

clauses_of : (l : Language) (t : Ref) (e : Environment l t) (ws : List Formula) (cs : List Clause) (s : Scene) → EachIs l e.env ws (acts.clauses_hold l.program cs s) → AllAre (Is l t e) ws (map (λ (s : Tested). s.holds) (clause_tests l.program cs s))
clauses_of l t e [] [] s a = tt
clauses_of l t e [] (c ∷ cs) s a = absurd a
clauses_of l t e (w ∷ ws) [] s a = absurd a
clauses_of l t e (w ∷ ws) (c ∷ cs) s a = (a.0, clauses_of l t e ws cs s a.1)

-- each function's contract fits
abbrev pub Contracts : Program → Type 0
Contracts p = (num : ℕ) (fi : FunctionInfo) → slice_get p.functions.items num ≡ Some fi → ContractFits p fi

pub items_true : (p : Program) → Annotated p → Contracts p → (t : Ref) → ItemsStand p t
items_true p good contracts t num fi is e y h ws vs hy proper fit all =
    refer_of (language_of p) t e _ _ (writes_are p good num fi is e.env (contracts num fi is) me y t h ws vs fit hy proper (has_me (language_of p) t e) (all_args (language_of p) t e ws vs all))

pub clauses_true : (p : Program) → Annotated p → Contracts p → (t : Ref) → ClausesStand p t
clauses_true p good contracts t num fi is e u r y h ws vs hu named hy proper fit all =
    clauses_of (language_of p) t e _ fi.requires_.items (m.call_scene r h vs) (requires_are p good num fi is e.env (contracts num fi is) u y r h ws vs fit hy proper hu (all_args (language_of p) t e ws vs all))
