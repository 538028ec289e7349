use Rattle.std.specs.Prelude.{map}
use Rattle.std.proofs.Common.{subst}
use Rattle.conditions.specs.Actions.{Joined, equal_first, equal_second, join}
use Rattle.conditions.specs.Code as spec
use Rattle.conditions.specs.Formulas.{not'}
use Rattle.conditions.specs.Paths.{facts}
use Rattle.condition_formulas.specs.Standing.{Later}
use Rattle.condition_formulas.proofs.Rows.{all_later, same_ids}
use Rattle.condition_code.specs.States.{IsState}
use Rattle.condition_code.proofs.States.{same_values, state_later}
use Rattle.condition_code.proofs.Walks.{fact_then, gives, run_built}
use Rattle.condition_branches.proofs.Joining.{join_keeps, joined_later, same_behind}
use Rattle.condition_branches.proofs.ways.join_ways.Goals as goal

pub returns : goal.returns
returns c = λ s b x y hs hb hf h1 h2.
    let j : Joined = join c.args.declared.now s x.gives y.gives in
    let joined = c.in_ok-behind.ensures.stands s x.gives y.gives (same_values c.deref.ensures.value hs.locals_are) h1.state h2.state in
    let l1 : Later c.args.walk.now.graph c.join.new.graph = c.in_ok-behind.ensures.later in
    let here = c.in_ok-here.ensures.stands b (facts x.path) (map equal_first j.joints) (l1 _ _ hb) (same_ids c.deref-2.ensures.value (all_later l1 h1.facts)) (same_ids c.deref-3.ensures.value joined.first_are) in
    let l2 : Later c.join.new.graph c.end_fact.new.graph = c.in_ok-here.ensures.later in
    let there = c.in_ok-there.ensures.stands (not' b) (facts y.path) (map equal_second j.joints) (l2 _ _ (l1 _ _ hf)) (same_ids c.deref-4.ensures.value (all_later l2 (all_later l1 h2.facts))) (same_ids c.deref-5.ensures.value (all_later l2 joined.second_are)) in
    let l3 : Later c.end_fact.new.graph c.end_fact-2.new.graph = c.in_ok-there.ensures.later in
    let known = c.in_ok-known.ensures.stands _ _ (l3 _ _ here) there in
    let l4 : Later c.end_fact-2.new.graph c.or.new.graph = c.in_ok-known.ensures.later in
    let went = c.in_ok-fact.ensures _ known in
    let behind : Later c.join.new.graph c.fact.new.self.graph = λ n f h. went.later n f (l4 n f (l3 n f (l2 n f h))) in
    let kept : Later c.args.walk.now.graph c.fact.new.self.graph = λ n f h. behind n f (l1 n f h) in
    let state = c.in_ok-state.ensures c.fact.new.self.graph s x.gives b j (state_later kept hs) (kept _ _ hb) (kept _ _ hf) (state_later kept h1.state) (joined_later behind joined) in
    let end = subst (λ (t : spec.State). IsState c.fact.new.self.graph c.in_ok-state.state t) (same_behind s b x.gives y.gives j.state j (join_keeps c.args.declared.now s x.gives y.gives)) state in
    run_built l1 (run_built l2 (run_built l3 (run_built l4 (fact_then went (gives (λ n f h. h) end)))))
