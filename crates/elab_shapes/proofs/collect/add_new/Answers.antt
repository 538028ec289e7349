use Rattle.std.proofs.Common.{List, ap, ◌∙◌}
use Rattle.std.specs.List.{list_any}
use Rattle.method.specs.declared.program.Shape.{Shape}
use Rattle.typed_program.specs.Shapes.{same_shape}
use Rattle.typed_program.specs.Views.{shape}
use Rattle.elab_shapes.proofs.Collecting.{with_old, with_more}
use Rattle.elab_shapes.proofs.collect.add_new.Goals as goal

pub returns-then-stands_among : goal.returns-then-stands_among
returns-then-stands_among c =
    with_old c.args.found.now.items c.args.one c.stands_among.result (c.stands_among.ensures ∙ ap (λ (xs : List Shape). list_any (λ x. same_shape (shape c.args.one) (shape x)) xs) c.deref.ensures.value) c.if-stands_among.true

pub returns : goal.returns
returns c =
    with_more c.args.found.now.items c.push.new.self.items c.args.one c.stands_among.result (c.stands_among.ensures ∙ ap (λ (xs : List Shape). list_any (λ x. same_shape (shape c.args.one) (shape x)) xs) c.deref.ensures.value) c.if-stands_among.false c.in_ok-push.ensures.items
