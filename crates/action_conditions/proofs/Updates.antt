-- What a change of one column of a heap term makes of the heap; and objects handed over, one after the other.
use Rattle.std.proofs.Common.{◌≡◌, ℕ, Bool, true, false, ◌||◌, if◌then◌else◌, List, [], ◌∷◌, Some, slice_get, refl, ap, sym, ◌∙◌, subst}
use Rattle.std.specs.Prelude.{ℤ}
use Rattle.object_types.specs.declared.references.Ref.{Ref}
use Rattle.object_types.specs.declared.values.Value.{Value as Scalar}
use Rattle.object_types.specs.declared.values.Value.TheVariants.{Int, Ref as Refers}
use Rattle.object_types.specs.declared.records.Mode.{Mode}
use Rattle.object_types.specs.References.{same_ref}
use Rattle.object_types.specs.Values.{says}
use Rattle.object_types.specs.Sets.{is_in}
use Rattle.object_types.specs.Heap.{Heap, put, hand_over, write, with_owned, with_listed, with_count}
use Rattle.method.specs.declared.program.FieldInfo.{FieldInfo}
use Rattle.method.specs.declared.program.Program.{Program}
use Rattle.method.specs.Tables.{type_of_field, sort_of_type}
use Rattle.method.specs.WellFormed.{has_sort}
use Rattle.method.proofs.Global.{same_ref_is}
use Rattle.terms.specs.Formula.{Formula}
use Rattle.term_meaning.specs.RawHeaps.{mode_number, record_value, raw}
use Rattle.term_meaning.specs.Meaning.{Language, HeapValue, PlainValue, ref_value, store_in}
use Rattle.term_meaning.proofs.Changes.{mode_stored, owner_stored, count_stored, owned_stored, listed_stored, field_stored}
use Rattle.axiom_instances.proofs.Kit.{none, one, more, node_has}
use Rattle.axiom_instances.proofs.Kit as kit
use Rattle.conditions.specs.Formulas.{set, field_column, owned_column, listed_column, count_column, owner_column, mode_column}
use Rattle.action_conditions.proofs.Words.{field_column_at}
use Rattle.condition_meaning.proofs.Environments.{Environment, Has, HeapIs}

module _ (l : Language) (t : Ref) where
  module _ (e : Environment l t) (x : Formula) (h : Heap) (o : Formula) (r : Ref) (a : HeapIs l t e x h) (b : Has l t e o (Refers r)) where
    pub set_field : (g : ℕ) (i : FieldInfo) (v : Formula) (w : Scalar) → slice_get l.program.fields.items g ≡ Some i → has_sort (sort_of_type (type_of_field l.program g)) w ≡ true → Has l t e v w → HeapIs l t e (set (field_column g) x (o ∷ []) v) (write h r g w)
    set_field g i v w is sort c = node_has (more a (more b (one c))) (ap HeapValue (field_stored l.program h r g w sort) ∙ ap (λ c. store_in c (HeapValue (raw l.program h) ∷ ref_value r ∷ PlainValue w ∷ [])) (sym (field_column_at l.program g i is)))

    pub set_mode : (v : Formula) (m : Mode) → Has l t e v (Int (mode_number m)) → HeapIs l t e (set mode_column x (o ∷ []) v) (put h r (record (h.get r) { mode = m }))
    set_mode v m c = node_has (more a (more b (one c))) (ap HeapValue (mode_stored l.program h r m))

    pub set_owner : (v : Formula) (w : Ref) → Has l t e v (Refers w) → HeapIs l t e (set owner_column x (o ∷ []) v) (put h r (record (h.get r) { owner = w }))
    set_owner v w c = node_has (more a (more b (one c))) (ap HeapValue (owner_stored l.program h r w))

    pub set_count : (v : Formula) (n : ℤ) → Has l t e v (Int n) → HeapIs l t e (set count_column x (o ∷ []) v) (put h r (with_count n (h.get r)))
    set_count v n c = node_has (more a (more b (one c))) (ap HeapValue (count_stored l.program h r n))

    pub set_member : (q v : Formula) (s : Ref) (holds : Bool) → Has l t e q (Refers s) → Has l t e v (says holds) → HeapIs l t e (set owned_column x (o ∷ q ∷ []) v) (put h r (with_owned s holds (h.get r)))
    set_member q v s holds c d = node_has (more a (more b (more c (one d)))) (ap HeapValue (owned_stored l.program h r s holds))

    pub set_claimed : (q v : Formula) (s : Ref) (holds : Bool) → Has l t e q (Refers s) → Has l t e v (says holds) → HeapIs l t e (set listed_column x (o ∷ q ∷ []) v) (put h r (with_listed s holds (h.get r)))
    set_claimed q v s holds c d = node_has (more a (more b (more c (one d)))) (ap HeapValue (listed_stored l.program h r s holds))

  -- another heap with the same columns
  pub same_columns : (e : Environment l t) (x : Formula) (h k : Heap) → raw l.program h ≡ raw l.program k → HeapIs l t e x h → HeapIs l t e x k
  same_columns e x h k same a = subst (λ y. kit.Has l e.env x (HeapValue y)) same a

-- Objects handed over, one after the other.

handed_more : (h : Heap) (o : Ref) (os : List Ref) (w q : Ref) → (hand_over h (o ∷ os) w).get q ≡ (hand_over (put h o (record (h.get o) { owner = w })) os w).get q
unfolding hand_over put is_in
handed_more h o os w q = by (same_ref q o) (is_in q os) refl
  where
    by : (a b : Bool) → same_ref q o ≡ a → (if a || b then record (h.get q) { owner = w } else h.get q) ≡ (if b then record (if a then record (h.get o) { owner = w } else h.get q) { owner = w } else (if a then record (h.get o) { owner = w } else h.get q))
    by true true e = ap (λ (r : Ref). record (h.get r) { owner = w }) (same_ref_is q o e)
    by true false e = ap (λ (r : Ref). record (h.get r) { owner = w }) (same_ref_is q o e)
    by false true e = refl
    by false false e = refl

pub hand_more : (p : Program) (h : Heap) (o : Ref) (os : List Ref) (w : Ref) → raw p (hand_over (put h o (record (h.get o) { owner = w })) os w) ≡ raw p (hand_over h (o ∷ os) w)
hand_more p h o os w = λ i d q. record_value p (sym (handed_more h o os w q) i) d

pub hand_none : (p : Program) (h : Heap) (w : Ref) → raw p h ≡ raw p (hand_over h [] w)
unfolding hand_over is_in
hand_none p h w = refl

pub hand_one : (p : Program) (h : Heap) (o w : Ref) → raw p (put h o (record (h.get o) { owner = w })) ≡ raw p (hand_over h (o ∷ []) w)
hand_one p h o w = hand_none p (put h o (record (h.get o) { owner = w })) w ∙ hand_more p h o [] w
