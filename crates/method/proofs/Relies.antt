-- The rely and the frame compose.
use Rattle.std.proofs.Common.{◌&&◌, ◌∙◌, ap, refl}
use Rattle.object_types.specs.declared.references.Ref.{Ref}
use Rattle.method.specs.declared.program.Program.{Program}
use Rattle.object_types.specs.References.{same_ref}
use Rattle.object_types.specs.Heap.{Heap, Record, is_open}
use Rattle.method.specs.WellFormed.{KeepsApproved, IsFixed}
use Rattle.method.specs.Rely.{RelyComposes, RelyRests, FrameComposes}

fixed_trans : (p : Program) (o : Ref) (h k j : Heap) → IsFixed p o h k → IsFixed p o k j → IsFixed p o h j
fixed_trans p o h k j a b = record {
  fields = λ f e. b.fields f e ∙ a.fields f e;
  owned = λ e. b.owned e ∙ a.owned e;
  listed = b.listed ∙ a.listed;
  shapes = b.shapes ∙ a.shapes;
}

approved_trans : (p : Program) (r s t : Record) → KeepsApproved p r s → KeepsApproved p s t → KeepsApproved p r t
approved_trans p r s t a b = record { fields = λ f e. b.fields f e ∙ a.fields f e }

pub rely_composes : RelyComposes
rely_composes p t h k j a b = record {
  before = a.before;
  after = b.after;
  own_open = λ o e. b.own_open o (ap (λ (r : Record). is_open r.mode && same_ref r.owner t) (a.own_open o e) ∙ e) ∙ a.own_open o e;
  own_closed = λ o e. let x = a.own_closed o e in let y = b.own_closed o x.0 in (y.0, y.1 ∙ x.1, approved_trans p (h.get o) (k.get o) (j.get o) x.2 y.2);
  stable = λ o e. let x = a.stable o e in let y = b.stable o x.1 in (fixed_trans p o h k j x.0 y.0, y.1);
  foreign = λ o e. b.foreign o (a.foreign o e);
}

pub rely_rests : RelyRests
rely_rests p t h good = record {
  before = good;
  after = good;
  own_open = λ o e. refl;
  own_closed = λ o e. (e, refl, record { fields = λ f a. refl });
  stable = λ o s. (record { fields = λ f e. refl; owned = λ e. refl; listed = refl; shapes = refl }, s);
  foreign = λ o e. e;
}

pub frame_composes : FrameComposes
frame_composes p t h k j e w a b = record {
  before = a.before;
  entry = a.entry;
  after = b.after;
  own_open = λ o m n. b.own_open o (ap (λ (r : Record). is_open r.mode && same_ref r.owner t) (a.own_open o m n) ∙ m) n ∙ a.own_open o m n;
  own_closed = λ o m n. let x = a.own_closed o m n in let y = b.own_closed o x.0 n in (y.0, y.1 ∙ x.1, approved_trans p (h.get o) (k.get o) (j.get o) x.2 y.2);
  stable = λ o s. let x = a.stable o s in let y = b.stable o x.1 in (fixed_trans p o h k j x.0 y.0, y.1);
}
