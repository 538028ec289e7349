use Rattle.condition_formulas.specs.Standing.{Later}
use Rattle.condition_formulas.proofs.Rows.{same_ids, all_later}
use Rattle.condition_actions.proofs.Each.{same_entries}
use Rattle.condition_actions.proofs.blocks.made_test.Goals as goal

pub returns-clause-stands : goal.returns-clause-stands
returns-clause-stands c = λ h d hh is.
    let on1 = c.in_ok-conjuncts.ensures.later in
    let on2 : Later c.args.graph.now c.all_of.new.graph = λ n f g. c.in_ok-all.ensures.later n f (on1 n f g) in
    let on3 : Later c.args.graph.now c.closed.new.graph = λ n f g. c.in_ok-stands.ensures.later n f (on2 n f g) in
    let on4 : Later c.args.graph.now c.imp.new.graph = λ n f g. c.in_ok-test.ensures.later n f (on3 n f g) in
    let conjuncts = c.in_ok-conjuncts.ensures.stands h _ hh (same_entries c.deref.ensures.value is.entries_are) in
    let all = c.in_ok-all.ensures.stands _ (same_ids c.deref-2.ensures.value conjuncts) in
    let stands = c.in_ok-stands.ensures.stands h _ (on2 _ _ hh) (on2 _ _ is.which_is) in
    let test = c.in_ok-test.ensures.stands _ _ stands (c.in_ok-stands.ensures.later _ _ all) in
    c.imply_all.ensures.stands _ _ (same_ids c.deref-3.ensures.value (all_later on4 is.guards_are)) test
