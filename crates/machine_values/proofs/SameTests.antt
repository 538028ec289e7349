-- What is tested of annotations is the same on heaps with the same records, whatever the lists beside them: the first overflows too.
use Rattle.std.proofs.Common.{◌≡◌, not, cond, ◌&&◌, List, [], ◌∷◌, pos, Option, Some, None, slice_get, refl, ap, ◌∙◌}
use Rattle.std.specs.Prelude.{◌-ℤ◌}
use Rattle.object_types.specs.declared.references.Ref.{Ref}
use Rattle.object_types.specs.declared.values.Value.{Value}
use Rattle.object_types.specs.declared.values.Value.TheVariants.{Ref as Refers}
use Rattle.object_types.specs.declared.shapes.Entry.{Entry}
use Rattle.method.specs.declared.program.Spec.{Spec, Row_of-Spec, end_of-Spec, more_of-Spec}
use Rattle.method.specs.declared.program.Spec.TheVariants.{Number, Truth, Null, Variable, Bound, This, Me, Result, Field', Closed', Owner', ClaimCount', Member', Not', Negate', Arithmetic', Compare', And', Or', Implies', Iff', Choose', Old', Unchanged', Wrapped', Wrapped0', Mutable', Fresh', ClaimsObject', ClaimsOnly', Claims', Lists', Has, ForAll', Exists'}
use Rattle.method.specs.declared.program.Shape.{Shape}
use Rattle.method.specs.declared.program.StructInfo.{StructInfo}
use Rattle.method.specs.declared.program.Program.{Program}
use Rattle.object_types.specs.References.{is_claim}
use Rattle.object_types.specs.Values.{int, referent, truth}
use Rattle.object_types.specs.Heap.{Heap, closed_in}
use Rattle.method.specs.Tables.{in_type, struct_of}
use Rattle.method.specs.SpecValue.{Scene, compute, old_scene, bind_ref, about, value, all_hold, claim_scene, shape_holds}
use Rattle.method.specs.Invariants.{inv_scene}
use Rattle.method.specs.Overflow.{exact, or_else, until, overflow, row_overflow, each_overflow, list_overflow, shape_overflow, entries_overflow, struct_overflow, inv_overflow}
use Rattle.method.specs.Expressions.{spec_test, inv_test, entry_test}
use Rattle.method.proofs.SameHeaps.{listing, same_value_of, same_inv_of}

abbrev pub listing_both : List Ref → List Ref → Scene → Scene
listing_both x y s = record s { before = listing x s.before; after = listing y s.after }

module _ (p : Program) where
  same_row_holds : {m : _} (row : Row_of-Spec m) (s : Scene) (x y : List Ref) → all_hold p row (listing_both x y s) ≡ all_hold p row s
  same_row_holds end_of-Spec s x y = refl
  same_row_holds (more_of-Spec e row) s x y = λ i. truth (same_value_of p e s x y i) && same_row_holds row s x y i

  mutual
    pub same_overflow_of : (e : Spec) (s : Scene) (x y : List Ref) → overflow p e (listing_both x y s) ≡ overflow p e s
    same_overflow_of (Number z) s x y = refl
    same_overflow_of (Truth b) s x y = refl
    same_overflow_of Null s x y = refl
    same_overflow_of (Variable i) s x y = refl
    same_overflow_of (Bound i) s x y = refl
    same_overflow_of This s x y = refl
    same_overflow_of Me s x y = refl
    same_overflow_of Result s x y = refl
    same_overflow_of (Field' q e f) s x y = same_overflow_of e s x y
    same_overflow_of (Closed' q e) s x y = same_overflow_of e s x y
    same_overflow_of (Owner' q e) s x y = same_overflow_of e s x y
    same_overflow_of (ClaimCount' q e) s x y = same_overflow_of e s x y
    same_overflow_of (Member' q a r b) s x y = λ i. or_else (same_overflow_of a s x y i) (same_overflow_of b s x y i)
    same_overflow_of (Not' q e) s x y = same_overflow_of e s x y
    same_overflow_of (Negate' q e) s x y = λ i. or_else (same_overflow_of e s x y i) (exact (pos 0 -ℤ int (same_value_of p e s x y i)) (pos 0) (int (same_value_of p e s x y i)))
    same_overflow_of (Arithmetic' op q a r b) s x y =
        λ i. or_else (same_overflow_of a s x y i) (or_else (same_overflow_of b s x y i) (exact (compute op (int (same_value_of p a s x y i)) (int (same_value_of p b s x y i))) (int (same_value_of p a s x y i)) (int (same_value_of p b s x y i))))
    same_overflow_of (Compare' c q a r b) s x y = λ i. or_else (same_overflow_of a s x y i) (same_overflow_of b s x y i)
    same_overflow_of (And' q a r b) s x y = λ i. or_else (same_overflow_of a s x y i) (cond (truth (same_value_of p a s x y i)) (same_overflow_of b s x y i) None)
    same_overflow_of (Or' q a r b) s x y = λ i. or_else (same_overflow_of a s x y i) (cond (truth (same_value_of p a s x y i)) None (same_overflow_of b s x y i))
    same_overflow_of (Implies' q a r b) s x y = λ i. or_else (same_overflow_of a s x y i) (cond (truth (same_value_of p a s x y i)) (same_overflow_of b s x y i) None)
    same_overflow_of (Iff' q a r b) s x y = λ i. or_else (same_overflow_of a s x y i) (same_overflow_of b s x y i)
    same_overflow_of (Choose' q a r b t c) s x y = λ i. or_else (same_overflow_of a s x y i) (cond (truth (same_value_of p a s x y i)) (same_overflow_of b s x y i) (same_overflow_of c s x y i))
    same_overflow_of (Old' q e) s x y = same_overflow_of e (old_scene s) x x
    same_overflow_of (Unchanged' q e) s x y = λ i. or_else (same_overflow_of e (old_scene s) x x i) (same_overflow_of e s x y i)
    same_overflow_of (Wrapped' q e) s x y = same_overflow_of e s x y
    same_overflow_of (Wrapped0' q e) s x y = same_overflow_of e s x y
    same_overflow_of (Mutable' q e) s x y = same_overflow_of e s x y
    same_overflow_of (Fresh' q e) s x y = same_overflow_of e s x y
    same_overflow_of (ClaimsObject' q c r o) s x y = λ i. or_else (same_overflow_of c s x y i) (same_overflow_of o s x y i)
    same_overflow_of (ClaimsOnly' n q c m row) s x y = λ i. or_else (same_overflow_of c s x y i) (same_each_of row s x y i)
    same_overflow_of (Claims' q c m row) s x y =
        (λ i. or_else (same_overflow_of c s x y i) (row_overflow p row (about (referent (same_value_of p c s x y i)) (listing_both x y s))))
        ∙ ap (or_else (overflow p c s)) (same_conjuncts_of row (about (referent (value p c s)) s) x y)
    same_overflow_of (Lists' q o) s x y = same_overflow_of o s x y
    same_overflow_of (Has c) s x y = refl
    same_overflow_of (ForAll' n ty q a r e) s x y =
        λ i. or_else (same_overflow_of a s x y i) (until (λ m. cond (in_type ty (Refers m)) (same_overflow_of e (bind_ref m s) x y i) None) (λ m. in_type ty (Refers m) && not (truth (same_value_of p e (bind_ref m s) x y i))) (s.after.get (referent (same_value_of p a s x y i))).owned)
    same_overflow_of (Exists' n ty q a m row) s x y =
        λ i. or_else (same_overflow_of a s x y i) (until (λ r. cond (in_type ty (Refers r)) (same_conjuncts_of row (bind_ref r s) x y i) None) (λ r. in_type ty (Refers r) && same_row_holds row (bind_ref r s) x y i) (s.after.get (referent (same_value_of p a s x y i))).owned)

    same_conjuncts_of : {m : _} (row : Row_of-Spec m) (s : Scene) (x y : List Ref) → row_overflow p row (listing_both x y s) ≡ row_overflow p row s
    same_conjuncts_of end_of-Spec s x y = refl
    same_conjuncts_of (more_of-Spec e row) s x y = λ i. or_else (same_overflow_of e s x y i) (cond (truth (same_value_of p e s x y i)) (same_conjuncts_of row s x y i) None)

    same_each_of : {m : _} (row : Row_of-Spec m) (s : Scene) (x y : List Ref) → each_overflow p row (listing_both x y s) ≡ each_overflow p row s
    same_each_of end_of-Spec s x y = refl
    same_each_of (more_of-Spec e row) s x y = λ i. or_else (same_overflow_of e s x y i) (same_each_of row s x y i)

  same_list_of : (es : List Spec) (s : Scene) (x y : List Ref) → list_overflow p es (listing_both x y s) ≡ list_overflow p es s
  same_list_of [] s x y = refl
  same_list_of (e ∷ es) s x y = λ i. or_else (same_overflow_of e s x y i) (cond (truth (same_value_of p e s x y i)) (same_list_of es s x y i) None)

  same_shape_holds : (sh : Option Shape) (h : Heap) (vs : List Value) (x : List Ref) → shape_holds p sh (listing x h) vs ≡ shape_holds p sh h vs
  same_shape_holds None h vs x = refl
  same_shape_holds (Some sh) h vs x = ap truth (same_value_of p sh.conjunct (claim_scene p h vs) x x)

  same_shape_overflow : (sh : Option Shape) (h : Heap) (vs : List Value) (x : List Ref) → shape_overflow p sh (listing x h) vs ≡ shape_overflow p sh h vs
  same_shape_overflow None h vs x = refl
  same_shape_overflow (Some sh) h vs x = same_overflow_of sh.conjunct (claim_scene p h vs) x x

  same_entries_overflow : (h : Heap) (es : List Entry) (x : List Ref) → entries_overflow p (listing x h) es ≡ entries_overflow p h es
  same_entries_overflow h [] x = refl
  same_entries_overflow h (e ∷ es) x =
      λ i. or_else (same_shape_overflow (slice_get p.shapes.items e.shape) h e.values x i) (cond (same_shape_holds (slice_get p.shapes.items e.shape) h e.values x i) (same_entries_overflow h es x i) None)

  same_struct_overflow : (info : Option StructInfo) (o : Ref) (h k : Heap) (x y : List Ref) → struct_overflow p info (inv_scene o (listing x h) (listing y k)) ≡ struct_overflow p info (inv_scene o h k)
  same_struct_overflow None o h k x y = refl
  same_struct_overflow (Some info) o h k x y = same_list_of info.invariants.items (inv_scene o h k) x y

  same_inv_overflow : (o : Ref) (h k : Heap) (x y : List Ref) → inv_overflow p o (listing x h) (listing y k) ≡ inv_overflow p o h k
  same_inv_overflow o h k x y = λ i. cond (is_claim o) (cond (closed_in k o) (same_entries_overflow k (k.get o).shapes y i) None) (same_struct_overflow (struct_of p o.ty) o h k x y i)

  -- the tests

  pub same_spec_test : (e : Spec) (s : Scene) (x y : List Ref) → spec_test p e (listing_both x y s) ≡ spec_test p e s
  same_spec_test e s x y = λ i. record { overflow = same_overflow_of e s x y i; holds = truth (same_value_of p e s x y i) }

  pub same_inv_test : (o : Ref) (h k : Heap) (x y : List Ref) → inv_test p o (listing x h) (listing y k) ≡ inv_test p o h k
  same_inv_test o h k x y = λ i. record { overflow = same_inv_overflow o h k x y i; holds = same_inv_of p o h k x y i }

  pub same_entry_test : (h : Heap) (e : Entry) (x : List Ref) → entry_test p (listing x h) e ≡ entry_test p h e
  same_entry_test h e x = λ i. record { overflow = same_shape_overflow (slice_get p.shapes.items e.shape) h e.values x i; holds = same_shape_holds (slice_get p.shapes.items e.shape) h e.values x i }
