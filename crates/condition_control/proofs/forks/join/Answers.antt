use Rattle.conditions.specs.Symbolic.{test}
use Rattle.statement_text.specs.Rows.{all_declare}
use Rattle.condition_control.proofs.Steps.{begun_twice, same_join}
use Rattle.condition_control.proofs.forks.join.Goals as goal

pub returns : goal.returns
returns c = λ v s t hf hx hy ex ey.
    same_join v.state (test v.value) s t ex ey (begun_twice (all_declare c.args.first.now) (all_declare c.args.second.now) c.new-declared.ensures.items c.in_ok-add_all_declares.ensures c.in_ok-add_all_declares-2.ensures c.deref.ensures.value) (c.in_ok-joined.ensures _ _ s t hf.state_is hf.test_is hf.fails_is hx hy)
