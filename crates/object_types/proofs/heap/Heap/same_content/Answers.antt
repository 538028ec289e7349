use Rattle.std.proofs.Common.{sym, ◌∙◌}
use Rattle.object_types.proofs.FieldChanges.{look_ups_determine}
use Rattle.object_types.proofs.heap.Heap.same_content.Goals as goal

pub returns-then-not-same_fields : goal.returns-then-not-same_fields
returns-then-not-same_fields c = (
  λ h. cc,
  λ same.
      let fields = look_ups_determine c.kept.result.now c.kept-2.result.now c.kept.ensures.ordered c.kept-2.ensures.ordered (λ f. sym (c.kept.ensures.fields f) ∙ same.fields f ∙ c.kept-2.ensures.fields f) in
      sym c.if-not-same_fields.true ∙ c.same_fields.ensures.1 fields,
)
