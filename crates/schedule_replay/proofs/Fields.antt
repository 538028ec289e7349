-- The fields of an object, as they are printed one after the other.
use Rattle.std.proofs.Common.{◌≡◌, ℕ, zero, suc, ◌+◌, ◌-◌, ◌<◌, ◌≤◌, Bool, cond, List, [], ◌∷◌, ◌++◌, Option, Some, refl, sym, ap, ◌∙◌, arith}
use Rattle.std.specs.Prelude.{slice_get}
use Rattle.std.proofs.lemmas.Bool.{lt-ltb, le-ltb}
use Rattle.std.proofs.lemmas.List.{append-nil}
use Rattle.object_types.specs.declared.references.Ref.{Ref}
use Rattle.object_types.specs.declared.values.Value.{Value}
use Rattle.object_types.specs.Heap.{Heap}
use Rattle.method.specs.declared.program.FieldInfo.{FieldInfo}
use Rattle.method.specs.declared.program.Program.{Program}
use Rattle.method.specs.Tables.{read}
use Rattle.schedule_replay.specs.Pieces.{value_text}
use Rattle.schedule_replay.specs.Records.{named_text, field_text, fields_from}

-- a field's number has 32 bits
pub numbered_field : (p : Program) (h : Heap) (o : Ref) (f : ℕ) (info : Option FieldInfo) → f < 4294967296 → slice_get p.fields.items f ≡ info → named_text p h o f info ≡ field_text p h o f
numbered_field p h o f info lt is = ap (named_text p h o f) (sym is) ∙ sym (ap (λ (b : Bool). cond b (named_text p h o f (slice_get p.fields.items f)) []) (lt-ltb f 4294967296 lt))

-- the pieces of a field
pub field_is : (p : Program) (h : Heap) (o : Ref) (f : ℕ) (info : FieldInfo) (name piece : List ℕ) (v : Value) → f < 4294967296 → slice_get p.fields.items f ≡ Some info → name ≡ info.name.items → piece ≡ value_text v → v ≡ read p h o f → 32 ∷ (name ++ (61 ∷ (piece ++ []))) ≡ field_text p h o f
field_is p h o f info name piece v lt is n q r = ap (λ (t : List ℕ). 32 ∷ (t ++ (61 ∷ (piece ++ [])))) n ∙ (ap (λ (t : List ℕ). 32 ∷ (info.name.items ++ (61 ∷ t))) (append-nil piece ∙ (q ∙ ap value_text r)) ∙ numbered_field p h o f (Some info) lt is)

no_field : (p : Program) (h : Heap) (o : Ref) (f : ℕ) → 4294967296 ≤ f → field_text p h o f ≡ []
no_field p h o f le = ap (λ (b : Bool). cond b (named_text p h o f (slice_get p.fields.items f)) []) (le-ltb f 4294967296 le)

pub no_fields : (p : Program) (h : Heap) (o : Ref) (f n : ℕ) → 4294967296 ≤ f → fields_from p h o f n ≡ []
unfolding fields_from
no_fields p h o f zero le = refl
no_fields p h o f (suc n) le = let more : 4294967296 ≤ f + 1 = omega arith in ap (λ (t : List ℕ). t ++ fields_from p h o (f + 1) n) (no_field p h o f le) ∙ no_fields p h o (f + 1) n more

pub fields_next : (p : Program) (h : Heap) (o : Ref) (first i count : ℕ) → i < count → fields_from p h o (first + i) (count - i) ≡ field_text p h o (first + i) ++ fields_from p h o (first + (i + 1)) (count - (i + 1))
unfolding fields_from
fields_next p h o first i count lt =
    let k : count - i ≡ suc (count - (i + 1)) = omega arith in
    let n : first + i + 1 ≡ first + (i + 1) = omega arith in
    rw (k, n) refl

pub fields_over : (p : Program) (h : Heap) (o : Ref) (f i n : ℕ) → n ≤ i → fields_from p h o f (n - i) ≡ []
unfolding fields_from
fields_over p h o f i n le = let k : n - i ≡ 0 = omega arith in rw k refl
