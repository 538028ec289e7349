-- Invariants read content alone.
use Rattle.std.proofs.Common.{◌≡◌, ℕ, true, cond, not, ◌&&◌, ◌||◌, ◌-ℤ◌, pos, refl, sym, ap, ◌∙◌, List, [], ◌∷◌, Option, Some, None}
use Rattle.object_types.specs.declared.references.Ref.{Ref}
use Rattle.object_types.specs.declared.values.Value.TheVariants.{Int, Ref as Refers}
use Rattle.method.specs.declared.program.StructInfo.{StructInfo}
use Rattle.method.specs.declared.program.Program.{Program}
use Rattle.method.specs.declared.program.Spec.{Spec, Row_of-Spec, end_of-Spec, more_of-Spec}
use Rattle.method.specs.declared.program.Spec.TheVariants.{Number, Truth, Null, Variable, Bound, This, Me, Result, Field', Closed', Owner', ClaimCount', Member', Not', Negate', Arithmetic', Compare', And', Or', Implies', Iff', Choose', Old', Unchanged', Wrapped', Wrapped0', Mutable', Fresh', ClaimsObject', ClaimsOnly', Claims', Lists', Has, ForAll', Exists'}
use Rattle.object_types.specs.Values.{same_value, int, referent, truth, says, or_zero}
use Rattle.object_types.specs.Sets.{some, every, is_in}
use Rattle.object_types.specs.Shapes.{has_entry}
use Rattle.object_types.specs.Content.{SameContent}
use Rattle.object_types.specs.Heap.{Heap, closed_in}
use Rattle.method.specs.Tables.{in_type, zero_of, type_of_field, struct_of}
use Rattle.method.specs.SpecValue.{is_exactly, referents, Scene, compute, compare, value, holds, all_hold, bind_ref, about, old_scene, entry_of}
use Rattle.method.specs.Invariants.{inv_holds, struct_holds, inv_scene, claim_holds}
use Rattle.method.specs.Typing.{is_this, of_content, row_of_content}
use Rattle.method.proofs.Global.{and_both}
use Rattle.machine_laws.specs.Laws.{UnwrapKeeps}

this_value : (p : Program) (x : Spec) → is_this x ≡ true → (s : Scene) → value p x s ≡ Refers s.this
this_value p This e s = refl
this_value p _ e s = absurd (cc)

-- the scene on another later heap
abbrev at_heap : Scene → Heap → Scene
at_heap s h = record s { after = h }

module _ (p : Program) (h k : Heap) (same : (q : Ref) → SameContent (k.get q) (h.get q)) where
  same_read : (o : Ref) (f : ℕ) → or_zero (zero_of (type_of_field p f)) ((k.get o).fields f) ≡ or_zero (zero_of (type_of_field p f)) ((h.get o).fields f)
  same_read o f = ap (or_zero (zero_of (type_of_field p f))) ((same o).fields f)

  mutual
    same_spec : (e : Spec) → of_content e ≡ true → (s : Scene) → value p e (at_heap s k) ≡ value p e (at_heap s h)
    same_spec (Number z) c s = refl
    same_spec (Truth b) c s = refl
    same_spec Null c s = refl
    same_spec (Variable i) c s = refl
    same_spec (Bound i) c s = refl
    same_spec This c s = refl
    same_spec Me c s = refl
    same_spec Result c s = refl
    same_spec (Field' q e f) c s = ap (λ v. or_zero (zero_of (type_of_field p f)) ((k.get (referent v)).fields f)) (same_spec e c s) ∙ same_read (referent (value p e (at_heap s h))) f
    same_spec (Closed' q e) c s = absurd (cc)
    same_spec (Owner' q e) c s = absurd (cc)
    same_spec (ClaimCount' q e) c s = ap (λ v. Int (k.get (referent v)).count) (same_spec e c s) ∙ ap Int (same (referent (value p e (at_heap s h)))).count
    same_spec (Member' q a r x) c s =
        let b = and_both (of_content a) (is_this x) c in
        let t = this_value p x b.1 (at_heap s k) in
        let u = this_value p x b.1 (at_heap s h) in
        ap (λ v. says (is_in (referent (value p a (at_heap s k))) (k.get (referent v)).owned)) t
        ∙ (λ i. says (is_in (referent (same_spec a b.0 s i)) ((same s.this).owned i)))
        ∙ sym (ap (λ v. says (is_in (referent (value p a (at_heap s h))) (h.get (referent v)).owned)) u)
    same_spec (Not' q e) c s = ap (λ v. says (not (truth v))) (same_spec e c s)
    same_spec (Negate' q e) c s = ap (λ v. Int (pos 0 -ℤ int v)) (same_spec e c s)
    same_spec (Arithmetic' op q a r b) c s = let d = and_both (of_content a) (of_content b) c in λ i. Int (compute op (int (same_spec a d.0 s i)) (int (same_spec b d.1 s i)))
    same_spec (Compare' o q a r b) c s = let d = and_both (of_content a) (of_content b) c in λ i. says (compare o (same_spec a d.0 s i) (same_spec b d.1 s i))
    same_spec (And' q a r b) c s = let d = and_both (of_content a) (of_content b) c in λ i. says (truth (same_spec a d.0 s i) && truth (same_spec b d.1 s i))
    same_spec (Or' q a r b) c s = let d = and_both (of_content a) (of_content b) c in λ i. says (truth (same_spec a d.0 s i) || truth (same_spec b d.1 s i))
    same_spec (Implies' q a r b) c s = let d = and_both (of_content a) (of_content b) c in λ i. says (not (truth (same_spec a d.0 s i)) || truth (same_spec b d.1 s i))
    same_spec (Iff' q a r b) c s = let d = and_both (of_content a) (of_content b) c in λ i. says (cond (truth (same_spec a d.0 s i)) (truth (same_spec b d.1 s i)) (not (truth (same_spec b d.1 s i))))
    same_spec (Choose' q a r b t e) c s =
        let d = and_both (of_content a) (of_content b && of_content e) c in
        let f = and_both (of_content b) (of_content e) d.1 in
        λ i. cond (truth (same_spec a d.0 s i)) (same_spec b f.0 s i) (same_spec e f.1 s i)
    same_spec (Old' q e) c s = refl
    same_spec (Unchanged' q e) c s = λ i. says (same_value (value p e (old_scene s)) (same_spec e c s i))
    same_spec (Wrapped' q e) c s = absurd (cc)
    same_spec (Wrapped0' q e) c s = absurd (cc)
    same_spec (Mutable' q e) c s = absurd (cc)
    same_spec (Fresh' q e) c s = absurd (cc)
    same_spec (ClaimsObject' q x r o) c s =
        let d = and_both (of_content x) (of_content o) c in
        (λ i. says (is_in (referent (same_spec o d.1 s i)) (k.get (referent (same_spec x d.0 s i))).listed))
        ∙ ap (λ l. says (is_in (referent (value p o (at_heap s h))) l)) (same (referent (value p x (at_heap s h)))).listed
    same_spec (ClaimsOnly' n q x m row) c s =
        let d = and_both (of_content x) (row_of_content row) c in
        (λ i. says (is_exactly (k.get (referent (same_spec x d.0 s i))).listed (same_referents row d.1 s i)))
        ∙ ap (λ l. says (is_exactly l (referents p row (at_heap s h)))) (same (referent (value p x (at_heap s h)))).listed
    same_spec (Claims' q x m row) c s =
        let d = and_both (of_content x) (row_of_content row) c in
        (λ i. says (all_hold p row (about (referent (same_spec x d.0 s i)) (at_heap s k))))
        ∙ ap says (same_row row d.1 (about (referent (value p x (at_heap s h))) s))
    same_spec (Lists' q o) c s = λ i. says (is_in (referent (same_spec o c s i)) ((same s.subject).listed i))
    same_spec (Has x) c s = ap (λ l. says (has_entry (entry_of s x) l)) (same s.subject).shapes
    same_spec (ForAll' n ty q x r e) c s =
        let d = and_both (is_this x) (of_content e) c in
        ap (λ v. says (every (λ m. not (in_type ty (Refers m)) || truth (value p e (bind_ref m (at_heap s k)))) (k.get (referent v)).owned)) (this_value p x d.0 (at_heap s k))
        ∙ (λ i. says (every (λ m. not (in_type ty (Refers m)) || truth (same_spec e d.1 (bind_ref m s) i)) ((same s.this).owned i)))
        ∙ sym (ap (λ v. says (every (λ m. not (in_type ty (Refers m)) || truth (value p e (bind_ref m (at_heap s h)))) (h.get (referent v)).owned)) (this_value p x d.0 (at_heap s h)))
    same_spec (Exists' n ty q x m row) c s =
        let d = and_both (is_this x) (row_of_content row) c in
        ap (λ v. says (some (λ r. in_type ty (Refers r) && all_hold p row (bind_ref r (at_heap s k))) (k.get (referent v)).owned)) (this_value p x d.0 (at_heap s k))
        ∙ (λ i. says (some (λ r. in_type ty (Refers r) && same_row row d.1 (bind_ref r s) i) ((same s.this).owned i)))
        ∙ sym (ap (λ v. says (some (λ r. in_type ty (Refers r) && all_hold p row (bind_ref r (at_heap s h))) (h.get (referent v)).owned)) (this_value p x d.0 (at_heap s h)))

    same_row : {m : _} (row : Row_of-Spec m) → row_of_content row ≡ true → (s : Scene) → all_hold p row (at_heap s k) ≡ all_hold p row (at_heap s h)
    same_row end_of-Spec c s = refl
    same_row (more_of-Spec e row) c s = let d = and_both (of_content e) (row_of_content row) c in λ i. truth (same_spec e d.0 s i) && same_row row d.1 s i

    same_referents : {m : _} (row : Row_of-Spec m) → row_of_content row ≡ true → (s : Scene) → referents p row (at_heap s k) ≡ referents p row (at_heap s h)
    same_referents end_of-Spec c s = refl
    same_referents (more_of-Spec e row) c s = let d = and_both (of_content e) (row_of_content row) c in λ i. referent (same_spec e d.0 s i) ∷ same_referents row d.1 s i

  same_all : (es : List Spec) → every of_content es ≡ true → (s : Scene) → every (λ e. holds p e (at_heap s k)) es ≡ every (λ e. holds p e (at_heap s h)) es
  same_all [] c s = refl
  same_all (e ∷ es) c s = let d = and_both (of_content e) (every of_content es) c in λ i. truth (same_spec e d.0 s i) && same_all es d.1 s i

  same_struct :
      (o : Ref) (b : Heap) (info : Option StructInfo) → ((s : StructInfo) → info ≡ Some s → every of_content s.invariants.items ≡ true) →
      struct_holds p info (inv_scene o b k) ≡ struct_holds p info (inv_scene o b h)
  same_struct o b None c = refl
  same_struct o b (Some s) c = same_all s.invariants.items (c s refl) (inv_scene o b h)

pub same_inv : UnwrapKeeps
unfolding inv_holds
same_inv p typed o b h k same c i =
    ap (λ z. cond z (not (closed_in k o) || claim_holds p o k) (struct_holds p (struct_of p o.ty) (inv_scene o b k))) c
    ∙ same_struct p h k same o b (struct_of p o.ty) (λ s e. (typed.invariants o.ty s e).0)
    ∙ sym (ap (λ z. cond z (not (closed_in h o) || claim_holds p o h) (struct_holds p (struct_of p o.ty) (inv_scene o b h))) c)
    ∙ i
