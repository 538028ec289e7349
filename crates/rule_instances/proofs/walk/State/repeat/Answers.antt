use Rattle.std.proofs.Common.{refl, ap, ◌∙◌, List, ℕ, slice_get}
use Rattle.rule_instances.proofs.Going.{stop_term, go_term}
use Rattle.rule_instances.proofs.walk.State.repeat.Goals as goal

pub returns-in_default : goal.returns-in_default
returns-in_default c = λ ts l tree st old m. stop_term c.args.place m (c.in_default.ensures ∙ ap (λ (xs : List ℕ). slice_get xs c.args.place) c.deref.ensures.value)

pub returns : goal.returns
returns c = λ ts l tree st old m. go_term c.args.place m (c.in-Some.ensures ∙ ap (λ (xs : List ℕ). slice_get xs c.args.place) c.deref.ensures.value) (record { terms = c.in_ok-push.ensures.items; writes = refl; keys = refl; ty = refl; number = refl; column = refl; declared = refl; body = refl })
