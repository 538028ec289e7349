use Rattle.std.proofs.Common.{List, ℕ, Bool, ap, ◌∙◌}
use Rattle.condition_formulas.proofs.Rows.{later_is, same_ids}
use Rattle.axiom_parameters.specs.Parameters.{term_numbers}
use Rattle.block_layout.specs.Trees.{named}
use Rattle.block_layout.proofs.Spaces.{has_columns}
use Rattle.certificate_upgrade.specs.Conclusions.{or_empty, arg_marks, arg_trees}
use Rattle.upgrade_blocks.proofs.Held.{later_then, one_held, args_stand}
use Rattle.upgrade_blocks.proofs.blocks.add_conclusion.Goals as goal

pub returns-in_err-tree-clause-later : goal.returns-in_err-tree-clause-later
returns-in_err-tree-clause-later c = later_is c.number.ensures.later

pub returns-in_err-args-clause-later : goal.returns-in_err-args-clause-later
returns-in_err-args-clause-later c = later_then c.args.held.now.graph c.number.new.target c.number_all.new.target (later_is c.number.ensures.later) c.number_all.ensures.later

pub returns-in_err-push-clause-later : goal.returns-in_err-push-clause-later
returns-in_err-push-clause-later c = later_then c.args.held.now.graph c.number.new.target c.number_all.new.target (later_is c.number.ensures.later) c.number_all.ensures.later

pub returns-clause-later : goal.returns-clause-later
returns-clause-later c = later_then c.args.held.now.graph c.number.new.target c.number_all.new.target (later_is c.number.ensures.later) c.number_all.ensures.later

pub returns-clause-stands : goal.returns-clause-stands
returns-clause-stands c = λ f s. c.number_all.ensures.later c.in_ok-tree.tree f (record { tree = c.in_ok-tree.ensures.stands f s.tree })

pub returns-clause-list : goal.returns-clause-list
returns-clause-list c = λ l trees f cs is all s are.
    let taken = c.as_slice-taken.result.now in
    let zs = c.args.step.now.numbers in
    let marks = c.in_ok-marks.ensures l (has_columns is) in
    let nodes =
    c.in_ok-nodes.ensures ∙ ap (λ (bs : List Bool). or_empty (named c.args.names.now (term_numbers bs c.deref-3.result.now))) c.deref-2.ensures.value
    ∙ ap (λ (ns : List ℕ). or_empty (named c.args.names.now (term_numbers c.in_ok-marks.marks.items ns))) c.deref-3.ensures.value in
    let standing = args_stand l c.args.space.now.graph c.args.names.now c.in_ok-nodes.nodes.items c.in_ok-arguments.arguments.items trees c.in_ok-marks.marks.items zs taken c.as_slice-taken.ensures c.in_ok-arguments.ensures marks nodes all in
    one_held l c.args.held.now _ _ cs (record { tree = f; numbers = zs; args = arg_trees l trees zs })
    (later_then c.args.held.now.graph c.number.new.target c.number_all.new.target (later_is c.number.ensures.later) c.number_all.ensures.later) c.in_ok-push.ensures.items
    (record {
      tree = c.number_all.ensures.later c.in_ok-tree.tree f (record { tree = c.in_ok-tree.ensures.stands f s.tree });
      numbers = c.in_ok-numbers.ensures ∙ c.as_slice-taken.ensures;
      marks = marks ∙ ap (arg_marks l) c.as_slice-taken.ensures;
      args = c.in_ok-args.ensures.stands (arg_trees l trees zs) (same_ids c.deref-4.ensures.value standing);
    })
    are
