use Rattle.condition_formulas.specs.Standing.{Later}
use Rattle.condition_formulas.proofs.Rows.{more, none, given_ids}
use Rattle.condition_actions.proofs.threads.newness.Goals as goal

pub returns-clause-stands : goal.returns-clause-stands
returns-clause-stands c = λ u h hu hh.
    let on1 = c.in_ok-is_thread.ensures.later in
    let on2 : Later c.args.graph.now c.me.new.graph = λ n f g. c.in_ok-own.ensures.later n f (on1 n f g) in
    let on4 : Later c.args.graph.now c.not.new.graph = λ n f g. c.in_ok-other.ensures.later n f (c.in_ok-same.ensures.later n f (on2 n f g)) in
    let first = c.in_ok-is_thread.ensures.stands u hu in
    let same = c.in_ok-same.ensures.stands _ _ (on2 _ _ hu) c.in_ok-own.ensures.stands in
    let other = c.in_ok-other.ensures.stands _ same in
    let idle = c.in_ok-idle.ensures.stands _ (more (on4 _ _ hu) (more (on4 _ _ hh) none)) in
    let last = c.in_ok-idle.ensures.later in
    let first1 = last _ _ (c.in_ok-other.ensures.later _ _ (c.in_ok-same.ensures.later _ _ (c.in_ok-own.ensures.later _ _ first))) in
    given_ids c.listed.result c.listed.ensures (more first1 (more (last _ _ other) (more idle none)))
