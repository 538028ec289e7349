-- The contract of a function that is called, looked at from an environment: its clauses, its writes list, and what it may do.
use Rattle.std.proofs.Common.{◌≡◌, ℕ, zero, suc, true, false, pos, List, [], ◌∷◌, map, slice_get, Option, Some, None, refl, ap, sym, subst}
use Rattle.object_types.specs.declared.references.Ref.{Ref}
use Rattle.object_types.specs.declared.values.Value.{Value}
use Rattle.object_types.specs.declared.values.Value.TheVariants.{Ref as Refers}
use Rattle.object_types.specs.Values.{referent}
use Rattle.object_types.specs.Heap.{Heap}
use Rattle.method.specs.declared.program.DeclaredType.{DeclaredType}
use Rattle.method.specs.declared.program.Clause.{Clause}
use Rattle.method.specs.declared.program.Spec.{Spec}
use Rattle.method.specs.declared.program.FunctionInfo.{FunctionInfo}
use Rattle.method.specs.declared.program.Program.{Program}
use Rattle.method.specs.Tables.{local}
use Rattle.method.specs.Rely.{Frame}
use Rattle.method.specs.SpecValue.{Scene, value}
use Rattle.method.specs.Machine.{fit_parameters, all_true}
use Rattle.method.specs.Expressions.{Context, Tested, clause_tests, item_tests, may_write, call_scene, return_scene}
use Rattle.method.specs.Actions as act
use Rattle.method.specs.Actions.{spot, callee, clauses_hold}
use Rattle.method.specs.LocalRuns.{of_type}
use Rattle.terms.specs.declared.term.Kind.TheVariants as kinds
use Rattle.terms.specs.Formula.{Formula}
use Rattle.term_meaning.specs.Meaning.{Language, ref_value}
use Rattle.term_meaning.proofs.Related.{from_frame}
use Rattle.axiom_instances.proofs.Kit.{none, more, node_given, HaveAll}
use Rattle.axiom_instances.proofs.Facts.{Shown}
use Rattle.axiom_instances.proofs.Steps.{references_back}
use Rattle.conditions.specs.Formulas.{row, node, me}
use Rattle.conditions.specs.Symbolic.{Symbolic, Truth, Number, Reference, term}
use Rattle.conditions.specs.Annotations as annotations
use Rattle.conditions.specs.Annotations.{formula, translate, symbolic_at}
use Rattle.conditions.specs.Code.{Spot, writable, call_scene as term_call, return_scene as term_return}
use Rattle.conditions.specs.Quantified.{any_result}
use Rattle.conditions.specs.Ways.{AllHold, StandsFor}
use Rattle.condition_meaning.specs.Fits.{is_ref}
use Rattle.condition_meaning.specs.Languages.{language_of}
use Rattle.condition_meaning.specs.Annotated.{Annotated}
use Rattle.condition_meaning.specs.FunctionWords.{ContractFits}
use Rattle.condition_meaning.proofs.Columns.{AreRefs, is_writable}
use Rattle.condition_meaning.proofs.Contracts.{requires_are, writes_are, ensures_are}
use Rattle.condition_meaning.proofs.Environments.{Environment, Has, Is, has_int, has_me}
use Rattle.condition_meaning.proofs.FunctionScenes.{Args, EachIs, sort_by_type}
use Rattle.condition_meaning.proofs.Known.{Known}
use Rattle.action_conditions.proofs.Places.{AllStand, SpotIs, Stands}
use Rattle.converse_law.proofs.Paths.{Knows, all_hold}

module _ (p : Program) (T : Ref) (e : Environment (language_of p) T) where
  abbrev l : Language
  l = language_of p

  -- terms that stand for values, each at its place
  pub arguments_are : (ws : List Symbolic) (vs : List Value) → AllStand l T e ws vs → Args l e.env ws vs
  arguments_are [] [] s = record { size = refl; each = λ i. none_at i }
    where
      none_at : (i : ℕ) → StandsFor (Is l T e) (Has l T e) (symbolic_at [] i) (local [] i)
      none_at zero = (pos 0, has_int l T e (pos 0), refl)
      none_at (suc i) = (pos 0, has_int l T e (pos 0), refl)
  arguments_are [] (v ∷ vs) s = absurd s
  arguments_are (w ∷ ws) [] s = absurd s
  arguments_are (w ∷ ws) (v ∷ vs) s = let r = arguments_are ws vs s.1 in record { size = ap suc r.size; each = λ i. one_at r i }
    where
      one_at : Args l e.env ws vs → (i : ℕ) → StandsFor (Is l T e) (Has l T e) (symbolic_at (w ∷ ws) i) (local (v ∷ vs) i)
      one_at r zero = s.0
      one_at r (suc i) = r.each i

  result_sort : (o : Option DeclaredType) (w : Symbolic) (r : Value) → of_type o r ≡ true → Stands l T e w r → is_ref w ≡ is_ref (any_result o)
  result_sort None (Truth b) r h s = refl
  result_sort None (Number b) r h s = refl
  result_sort None (Reference b) r h s = absurd (let z = subst (λ u. of_type None u ≡ true) s.2 h in cc)
  result_sort (Some ty) w r h s = sort_by_type l e.env w r ty s h

  refs_have : (fs : List Formula) (rs : List Ref) → AreRefs l e.env fs rs → HaveAll l e.env (row fs) (map ref_value rs)
  refs_have [] [] s = none
  refs_have [] (r ∷ rs) s = absurd s
  refs_have (f ∷ fs) [] s = absurd s
  refs_have (f ∷ fs) (r ∷ rs) s = more s.0 (refs_have fs rs s.1)

  each_tested : (cs : List Clause) (t : annotations.Scene) (s : Scene) → EachIs l e.env (map (λ (c : Clause). formula p c.spec t) cs) (clauses_hold p cs s) → EachIs l e.env (map (λ (c : Clause). formula p c.spec t) cs) (map (λ (z : Tested). z.holds) (clause_tests p cs s))
  each_tested [] t s i = tt
  each_tested (c ∷ cs) t s i = (i.0, each_tested cs t s i.1)

  -- A function that is called on a heap that a term is, with arguments that terms stand for.
  module _ (good : Annotated p) (contracts : (n : ℕ) (g : FunctionInfo) → slice_get p.functions.items n ≡ Some g → ContractFits p g)
      (q : ℕ) (g : FunctionInfo) (there : slice_get p.functions.items q ≡ Some g) (u : Formula) (h : Heap) (is : Shown l e.env u h) (ws : List Symbolic) (vs : List Value) (stand : AllStand l T e ws vs) (fits : fit_parameters g vs ≡ true)
    where
      abbrev pub called : Context
      called = callee p q g T h vs

      pub items_are : AreRefs l e.env (map (λ (d : Spec). term (translate p d (term_call me u ws))) g.writes.items) (act.items_of p g.writes.items (call_scene T h vs))
      items_are = writes_are p good q g there e.env (contracts q g there) me u T h ws vs fits is.has is.proper (has_me l T e) (arguments_are ws vs stand)

      -- its requires clauses, in whichever thread
      pub requires_of_thread : (w : Formula) (r : Ref) → Has l T e w (Refers r) → EachIs l e.env (map (λ (c : Clause). formula p c.spec (term_call w u ws)) g.requires_.items) (map (λ (z : Tested). z.holds) (clause_tests p g.requires_.items (call_scene r h vs)))
      requires_of_thread w r has = each_tested g.requires_.items (term_call w u ws) (call_scene r h vs) (requires_are p good q g there e.env (contracts q g there) w u r h ws vs fits is.has is.proper has (arguments_are ws vs stand))

      pub requires_tested : EachIs l e.env (map (λ (c : Clause). formula p c.spec (term_call me u ws)) g.requires_.items) (map (λ (z : Tested). z.holds) (clause_tests p g.requires_.items (call_scene T h vs)))
      requires_tested = requires_of_thread me T (has_me l T e)

      -- each item of its writes list may be written, or not
      module _ (a : Spot) (x : Context) (mine : x.me ≡ T) (line : ℕ) (s : SpotIs l T a x false [] e) where
        each_writable : (specs : List Spec) → AreRefs l e.env (map (λ (d : Spec). term (translate p d (term_call me u ws))) specs) (act.items_of p specs (call_scene T h vs))
            → EachIs l e.env (map (λ o. writable p a o) (map (λ (d : Spec). term (translate p d (term_call me u ws))) specs)) (map (λ (z : Tested). z.holds) (item_tests p (may_write (spot x [] line)) specs (call_scene T h vs)))
        each_writable [] r = tt
        each_writable (d ∷ ds) r =
            (is_writable l e.env a.entry x.entry s.entry (term (translate p d (term_call me u ws))) me (referent (value p d (call_scene T h vs))) x.me a.writes x.writes s.writes r.0 (subst (λ (w : Ref). Has l T e me (Refers w)) (sym mine) (has_me l T e)), each_writable ds r.1)

        pub writes_tested : EachIs l e.env (map (λ o. writable p a o) (map (λ (d : Spec). term (translate p d (term_call me u ws))) g.writes.items)) (map (λ (z : Tested). z.holds) (item_tests p (may_write (spot x [] line)) g.writes.items (call_scene T h vs)))
        writes_tested = each_writable g.writes.items items_are

      -- what it leaves, as the frame says
      module _ (v : Formula) (k : Heap) (after_is : Shown l e.env v k) where
        pub frame_of : Known l T e (node kinds.Frame (me ∷ u ∷ v ∷ u ∷ map (λ (d : Spec). term (translate p d (term_call me u ws))) g.writes.items)) → Frame p T h k h called.writes
        frame_of known =
            let d = node_given (more (has_me l T e) (more is.has (more after_is.has (more is.has (refs_have (map (λ (d : Spec). term (translate p d (term_call me u ws))) g.writes.items) called.writes items_are))))) known in
            subst (λ (qs : List Ref). Frame p T h k h qs) (references_back called.writes) (from_frame p h k is.proper after_is.proper T h _ is.proper (d.1.yes d.2))

        -- where its ensures clauses are known, they hold of its value
        pub ensures_hold : (w : Symbolic) (r : Value) → of_type g.result r ≡ true → Stands l T e w r → AllHold (Unit {0}) (Knows l T e) tt (map (λ (c : Clause). formula p c.spec (term_return u ws v w)) g.ensures_.items) → all_true (clauses_hold p g.ensures_.items (return_scene called k r)) ≡ true
        ensures_hold w r typed given known =
            all_hold l T e (map (λ (c : Clause). formula p c.spec (term_return u ws v w)) g.ensures_.items) (clauses_hold p g.ensures_.items (return_scene called k r))
            (ensures_are p good q g there e.env (contracts q g there) u v called k ws w r fits (result_sort g.result w r typed given) is.has is.proper after_is.has after_is.proper (has_me l T e) (arguments_are ws vs stand) given) known
