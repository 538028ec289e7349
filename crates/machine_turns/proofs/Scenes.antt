-- Checks of annotations by the code's words are those by method's, whatever the lists beside the heaps.
use Rattle.std.proofs.Common.{◌≡◌, ℕ, ◌+◌, ◌<◌, Bool, true, false, List, [], ◌∷◌, map, length, get_or, drop, Option, None, Result, Err, refl, ap, sym, subst, ◌∙◌}
use Rattle.object_types.specs.declared.references.Ref.{Ref}
use Rattle.object_types.specs.declared.records.Stored.{Stored}
use Rattle.object_types.specs.declared.values.Value.{Value}
use Rattle.object_types.specs.Values.{referent}
use Rattle.object_types.specs.Lookups.{heap_of}
use Rattle.method.specs.declared.program.CheckKind.{CheckKind}
use Rattle.method.specs.declared.program.Clause.{Clause}
use Rattle.method.specs.declared.program.Spec.{Spec}
use Rattle.method.specs.declared.program.Program.{Program}
use Rattle.method.specs.SpecValue.{Scene}
use Rattle.method.specs.Expressions.{Tested, clause_tests, item_tests}
use Rattle.method.proofs.SameHeaps.{same_value_of}
use Rattle.machine_values.specs.declared.stop.Stop.{Stop}
use Rattle.machine_values.specs.declared.stop.Stop.TheVariants.{Misfit, Fault, Wide, Exhausted, OutOfMemory}
use Rattle.machine_values.specs.Spots.{heap_at}
use Rattle.machine_values.specs.Answers.{Finds, Verdict, Fails, verdict, Tests, Worked}
use Rattle.machine_values.proofs.Verdicts.{test_next, test_fails, test_stops}
use Rattle.machine_values.specs.Testing.{code_scene, spec_tests}
use Rattle.machine_values.proofs.SameTests.{listing_both, same_overflow_of, same_spec_test}
use Rattle.spec_eval.specs.declared.env.Env.{Env}
use Rattle.method.specs.Overflow.{Overflow}
use Rattle.machine_turns.specs.Scenes.{scene_with, IsScene}

module _ (p : Program) (s : Scene) (x y : List Ref) where
  same_specs : (es : List Spec) → spec_tests p es (listing_both x y s) ≡ spec_tests p es s
  same_specs [] = refl
  same_specs (e ∷ es) = λ i. same_spec_test p e s x y i ∷ same_specs es i

  same_clauses : (cs : List Clause) → clause_tests p cs (listing_both x y s) ≡ clause_tests p cs s
  same_clauses [] = refl
  same_clauses (c ∷ cs) = λ i. same_spec_test p c.spec s x y i ∷ same_clauses cs i

  same_items : (ok : Ref → Bool) (es : List Spec) → item_tests p ok es (listing_both x y s) ≡ item_tests p ok es s
  same_items ok [] = refl
  same_items ok (e ∷ es) = λ i. record { overflow = same_overflow_of p e s x y i; holds = ok (referent (same_value_of p e s x y i)) } ∷ same_items ok es i

module _ (p : Program) (line : ℕ) (kind : CheckKind) (env : Env) (me : Ref) (l args : List Value) (v : Value) (before after : List Stored) (is : IsScene env me l args v) (x y : List Ref) (result : Result (Unit {0}) Stop) where
  abbrev code : Scene
  code = scene_with me l args v (heap_of before) (heap_of after)

  pub specs_checked : (es : List Spec) → Finds result (verdict line kind (spec_tests p es (code_scene env before after))) → Finds result (verdict line kind (spec_tests p es (scene_with me l args v (heap_at x before) (heap_at y after))))
  specs_checked es h = subst (λ ts. Finds result (verdict line kind ts)) (ap (spec_tests p es) (is (heap_of before) (heap_of after)) ∙ sym (same_specs p code x y es)) h

  pub clauses_checked : (cs : List Clause) → Finds result (verdict line kind (clause_tests p cs (code_scene env before after))) → Finds result (verdict line kind (clause_tests p cs (scene_with me l args v (heap_at x before) (heap_at y after))))
  clauses_checked cs h = subst (λ ts. Finds result (verdict line kind ts)) (ap (clause_tests p cs) (is (heap_of before) (heap_of after)) ∙ sym (same_clauses p code x y cs)) h

  pub items_checked : (ok : Ref → Bool) (es : List Spec) → Finds result (verdict line kind (item_tests p ok es (code_scene env before after))) → Finds result (verdict line kind (item_tests p ok es (scene_with me l args v (heap_at x before) (heap_at y after))))
  items_checked ok es h = subst (λ ts. Finds result (verdict line kind ts)) (ap (item_tests p ok es) (is (heap_of before) (heap_of after)) ∙ sym (same_items p code x y ok es)) h

-- a value that stops stops its test
pub worked_stops : (s : Stop) (w : Option Overflow) (v : Value) (b : Bool) → Worked (Err s) w v → Tests (Err s) (record { overflow = w; holds = b })
worked_stops Misfit w v b h = h
worked_stops (Fault kind line) w v b h = h
worked_stops (Wide x) w v b h = h
worked_stops Exhausted w v b h = h
worked_stops OutOfMemory w v b h = h

-- one test of a list, by its element
module _ {X : Type 0} (f : X → Tested) (xs : List X) (line : ℕ) (kind : CheckKind) (all : Verdict) (i : ℕ) (e : X) (so_far : verdict line kind (map f (drop i xs)) ≡ all) (lt : i < length xs) (is : e ≡ get_or xs i e) where
  pub item_next : (f e).overflow ≡ None → (f e).holds ≡ true → verdict line kind (map f (drop (i + 1) xs)) ≡ all
  item_next fits holds = test_next f xs line kind all i e so_far lt (subst (λ z. (f z).overflow ≡ None) is fits) (subst (λ z. (f z).holds ≡ true) is holds)

  pub item_fails : (f e).overflow ≡ None → (f e).holds ≡ false → all ≡ Fails kind line
  item_fails fits holds = test_fails f xs line kind all i e so_far lt (subst (λ z. (f z).overflow ≡ None) is fits) (subst (λ z. (f z).holds ≡ false) is holds)

  pub item_stops : (s : Stop) → Tests (Err s) (f e) → Finds (Err s) all
  item_stops s h = test_stops f xs line kind all i e so_far lt s (subst (λ z. Tests (Err s) (f z)) is h)
