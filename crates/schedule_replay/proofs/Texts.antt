-- What is written of a reference, and in front of a record's line.
use Rattle.std.proofs.Common.{◌≡◌, List, [], ◌∷◌, ◌++◌, ℕ, Option, Result, refl, ap, subst, ◌∙◌}
use Rattle.std.proofs.lemmas.Bool.{ne_eqb, eq-eqb}
use Rattle.std.proofs.lemmas.List.{append-nil}
use Rattle.std.specs.Prelude.{codes, decimal}
use Rattle.std.specs.Fmt.{signed_decimal}
use Rattle.object_types.specs.declared.records.Mode.{Mode}
use Rattle.object_types.specs.Heap.{Heap}
use Rattle.method.specs.declared.program.StructInfo.{StructInfo}
use Rattle.method.specs.declared.program.Program.{Program}
use Rattle.method.specs.Tables.{struct_of}
use Rattle.schedule_replay.specs.Records.{mode_text, members_text, fields_text, content_text, heading_text}
use Rattle.object_types.specs.declared.references.Ref.{Ref}
use Rattle.schedule_format.specs.Text.{reference_text}
use Rattle.std.proofs.lemmas.Result.{on_ok_weaker, on_err_weaker}
use Rattle.vcc_base.specs.Maps.{NowWritten, FrontWritten}
use Rattle.vcc_base.proofs.Printing.{then_written, front_more}
use Rattle.vcc_base.specs.declared.sink.SinkFault.{SinkFault}
use Rattle.schedule_replay.specs.Printing.{Writes, Front}
use Rattle.schedule_replay.specs.Pieces.{ref_text}

pub thread_text : (r : Ref) → r.ty ≡ 1 → ref_text r ≡ codes "t" ++ decimal r.serial
unfolding ref_text
thread_text r is = rw (eq-eqb r.ty 1 is) refl

pub other_text : (r : Ref) → (r.ty ≡ 1 → ⊥) → ref_text r ≡ reference_text r
unfolding ref_text
other_text r is = rw (ne_eqb r.ty 1 is) refl

-- the pieces in front of a record's line
pub heading_is : (h : Heap) (o : Ref) (word : List ℕ) (mode : Mode) (owner : Ref) (number : List ℕ) → word ≡ mode_text mode → mode ≡ (h.get o).mode → owner ≡ (h.get o).owner → number ≡ signed_decimal (h.get o).count → ref_text o ++ (codes " " ++ (word ++ (codes " " ++ (ref_text owner ++ (codes " count " ++ (number ++ [])))))) ≡ heading_text h o
unfolding heading_text
heading_is h o word mode owner number w m u n = let e = append-nil number in cc

-- what a claim's record says, and an object's
pub claim_content : (p : Program) (h : Heap) (o : Ref) → o.ty ≡ 2 → content_text p h o ≡ codes " lists " ++ members_text (h.get o).listed
unfolding content_text
claim_content p h o is = rw (eq-eqb o.ty 2 is) refl

pub object_content : (p : Program) (h : Heap) (o : Ref) → (o.ty ≡ 2 → ⊥) → content_text p h o ≡ codes " owns " ++ (members_text (h.get o).owned ++ fields_text p h o (struct_of p o.ty))
unfolding content_text
object_content p h o is = rw (ne_eqb o.ty 2 is) refl

pub struct_content : (p : Program) (h : Heap) (o : Ref) (info : Option StructInfo) → (o.ty ≡ 2 → ⊥) → struct_of p o.ty ≡ info → content_text p h o ≡ codes " owns " ++ (members_text (h.get o).owned ++ fields_text p h o info)
struct_content p h o info is same = object_content p h o is ∙ ap (λ (i : Option StructInfo). codes " owns " ++ (members_text (h.get o).owned ++ fields_text p h o i)) same

-- a member behind a space
pub member_text : (r : Ref) → 32 ∷ (ref_text r ++ []) ≡ 32 ∷ ref_text r
member_text r = ap (λ (t : List ℕ). 32 ∷ t) (append-nil (ref_text r))

-- what is printed, by another name
pub writes_is : {X : Type 0} (r : Result X SinkFault) (old new : Option (List ℕ)) (a b : List ℕ) → a ≡ b → Writes r old new a → Writes r old new b
writes_is r old new a b is h = subst (λ (t : List ℕ). Writes r old new t) is h

pub front_is : {X : Type 0} (r : Result X SinkFault) (old new : Option (List ℕ)) (a b : List ℕ) → a ≡ b → Front r old new a → Front r old new b
front_is r old new a b is h = subst (λ (t : List ℕ). Front r old new t) is h

-- behind what is written already
pub writes_more : {X : Type 0} (r : Result X SinkFault) (old middle new : Option (List ℕ)) (a b : List ℕ) → NowWritten old middle a → Writes r middle new b → Writes r old new (a ++ b)
writes_more r old middle new a b first second = on_ok_weaker r (λ (w : NowWritten middle new b). then_written old middle new a b first w) second

pub front_behind : {X : Type 0} (r : Result X SinkFault) (old middle new : Option (List ℕ)) (a b : List ℕ) → NowWritten old middle a → Front r middle new b → Front r old new (a ++ b)
front_behind r old middle new a b first second = on_err_weaker r (λ (w : FrontWritten middle new b). front_more old middle new a b first w) second
