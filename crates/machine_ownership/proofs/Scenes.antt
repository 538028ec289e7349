-- What a contract's annotations come to on heaps with the same records, whatever lists stand beside them.
use Rattle.std.proofs.Common.{◌≡◌, Bool, List, [], ◌∷◌, refl, sym, ap, ◌∙◌}
use Rattle.object_types.specs.declared.references.Ref.{Ref}
use Rattle.object_types.specs.declared.records.Stored.{Stored}
use Rattle.object_types.specs.declared.values.Value.{Value}
use Rattle.object_types.specs.Values.{referent}
use Rattle.object_types.specs.Heap.{Heap}
use Rattle.object_types.specs.Lookups.{look_up, heap_of}
use Rattle.method.specs.declared.program.Clause.{Clause}
use Rattle.method.specs.declared.program.Program.{Program}
use Rattle.method.specs.declared.program.Spec.{Spec}
use Rattle.method.specs.SpecValue.{Scene}
use Rattle.method.specs.Overflow.{or_else, overflow}
use Rattle.method.specs.Invariants.{inv_scene}
use Rattle.method.specs.Expressions.{Spot, call_scene, clause_tests, item_tests}
use Rattle.method.specs.Actions.{items_of, items_overflow, mine_overflow}
use Rattle.method.proofs.SameHeaps.{same_value_of}
use Rattle.spec_eval.specs.declared.env.Env.{Env}
use Rattle.spec_eval.specs.Scenes.{scene_of}
use Rattle.machine_values.specs.Spots.{heap_at}
use Rattle.machine_values.specs.Testing.{code_scene}
use Rattle.machine_values.proofs.SameTests.{listing_both, same_overflow_of, same_spec_test}

-- a heap is its records with the list beside them
pub heap_is : (h : Heap) (stored : List Stored) → h.get ≡ look_up stored → h ≡ heap_at h.support stored
heap_is h stored e = λ i. record { get = e i; support = h.support }

module _ (p : Program) where
  pub same_items : (es : List Spec) (s : Scene) (x y : List Ref) → items_of p es (listing_both x y s) ≡ items_of p es s
  same_items [] s x y = refl
  same_items (e ∷ es) s x y = λ i. referent (same_value_of p e s x y i) ∷ same_items es s x y i

  pub same_items_overflow : (es : List Spec) (s : Scene) (x y : List Ref) → items_overflow p es (listing_both x y s) ≡ items_overflow p es s
  same_items_overflow [] s x y = refl
  same_items_overflow (e ∷ es) s x y = λ i. or_else (same_overflow_of p e s x y i) (same_items_overflow es s x y i)

  pub same_item_tests : (ok : Ref → Bool) (es : List Spec) (s : Scene) (x y : List Ref) → item_tests p ok es (listing_both x y s) ≡ item_tests p ok es s
  same_item_tests ok [] s x y = refl
  same_item_tests ok (e ∷ es) s x y = λ i. record { overflow = same_overflow_of p e s x y i; holds = ok (referent (same_value_of p e s x y i)) } ∷ same_item_tests ok es s x y i

  pub same_clause_tests : (cs : List Clause) (s : Scene) (x y : List Ref) → clause_tests p cs (listing_both x y s) ≡ clause_tests p cs s
  same_clause_tests [] s x y = refl
  same_clause_tests (c ∷ cs) s x y = λ i. same_spec_test p c.spec s x y i ∷ same_clause_tests cs s x y i

  -- the objects that a type's invariants name are items on the heap alone
  pub mine_is : (at_ : Spot) (h : Heap) (o : Ref) (es : List Spec) → mine_overflow p at_ h o es ≡ items_overflow p es (inv_scene o h h)
  mine_is at_ h o [] = refl
  mine_is at_ h o (e ∷ es) = ap (or_else (overflow p e (inv_scene o h h))) (mine_is at_ h o es)

-- a contract's annotations at a call, as the code's environment has them
module _ (p : Program) (env : Env) (me : Ref) (args : List Value) (is : (h : Heap) → scene_of env h h ≡ call_scene me h args) (stored : List Stored) (y : List Ref) where
  abbrev there : Scene
  there = call_scene me (heap_at y stored) args

  abbrev plainly : Scene
  plainly = call_scene me (heap_of stored) args

  pub call_items : (es : List Spec) → items_of p es (code_scene env stored stored) ≡ items_of p es there
  call_items es = ap (items_of p es) (is (heap_of stored)) ∙ sym (same_items p es plainly y y)

  pub call_overflow : (es : List Spec) → items_overflow p es (code_scene env stored stored) ≡ items_overflow p es there
  call_overflow es = ap (items_overflow p es) (is (heap_of stored)) ∙ sym (same_items_overflow p es plainly y y)

  pub call_item_tests : (ok : Ref → Bool) (es : List Spec) → item_tests p ok es (code_scene env stored stored) ≡ item_tests p ok es there
  call_item_tests ok es = ap (item_tests p ok es) (is (heap_of stored)) ∙ sym (same_item_tests p ok es plainly y y)

  pub call_clause_tests : (cs : List Clause) → clause_tests p cs (code_scene env stored stored) ≡ clause_tests p cs there
  call_clause_tests cs = ap (clause_tests p cs) (is (heap_of stored)) ∙ sym (same_clause_tests p cs plainly y y)

-- an invariant's annotations, as the code's environment has them
module _ (p : Program) (env : Env) (o : Ref) (is : (h : Heap) → scene_of env h h ≡ inv_scene o h h) (stored : List Stored) (y : List Ref) (es : List Spec) where
  pub mine_items : items_of p es (code_scene env stored stored) ≡ items_of p es (inv_scene o (heap_at y stored) (heap_at y stored))
  mine_items = ap (items_of p es) (is (heap_of stored)) ∙ sym (same_items p es (inv_scene o (heap_of stored) (heap_of stored)) y y)

  pub mine_fits : items_overflow p es (code_scene env stored stored) ≡ items_overflow p es (inv_scene o (heap_at y stored) (heap_at y stored))
  mine_fits = ap (items_overflow p es) (is (heap_of stored)) ∙ sym (same_items_overflow p es (inv_scene o (heap_of stored) (heap_of stored)) y y)
