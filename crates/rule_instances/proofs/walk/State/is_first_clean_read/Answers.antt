use Rattle.std.proofs.Common.{ap, ◌∙◌, ℕ, List, slice_get}
use Rattle.axiom_instances.specs.Terms.{is_clean_read}
use Rattle.rule_instances.proofs.Passing.{no_first, the_first}
use Rattle.rule_instances.proofs.walk.State.is_first_clean_read.Goals as goal

pub returns-in_default : goal.returns-in_default
returns-in_default c = λ st m. no_first (is_clean_read c.args.program.now) m (c.in_default.ensures ∙ ap (λ (xs : List ℕ). slice_get xs 0) c.deref.ensures.value)

pub returns : goal.returns
returns c = λ st m. the_first (is_clean_read c.args.program.now) m (c.in-Some.ensures ∙ ap (λ (xs : List ℕ). slice_get xs 0) c.deref.ensures.value) c.is_clean_read.ensures
