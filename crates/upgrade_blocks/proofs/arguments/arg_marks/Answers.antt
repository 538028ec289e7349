use Rattle.std.proofs.Common.{rules, arith, List, ℤ, pos, FitsSigned, to_z, of_z, get_or, drop, ap, ◌∙◌}
use Rattle.std.proofs.lemmas.Int.{to_z-of_z}
use Rattle.std.specs.Int.{w128}
use Rattle.axiom_steps.specs.Steps.{natural}
use Rattle.axiom_parameters.specs.Parameters.{Parameter, parameters_of, name_terms}
use Rattle.block_layout.proofs.Laying.{two_first}
use Rattle.upgrade_blocks.proofs.Numbers.{no_marks, marks_of}
use Rattle.upgrade_blocks.proofs.arguments.arg_marks.Goals as goal

pub returns-in_default : goal.returns-in_default
returns-in_default c = λ l has. no_marks l c.args.numbers.now _ (omega arith) c.new.ensures.items

pub returns : goal.returns
returns c = λ l has.
    let xs = c.args.numbers.now in
    let n = get_or xs 0 (pos 0) in
    let p = get_or xs 1 (pos 0) in
    let first : FitsSigned w128 n = search rules in
    let second : FitsSigned w128 p = search rules in
    c.in_ok-marks.ensures l has
    ∙ ap (λ (ps : List Parameter). name_terms l ps c.args.args.now)
    (c.parameters_of.ensures ∙ ap (λ (z : ℤ). parameters_of (natural z) (natural (to_z w128 (of_z w128 p)))) (to_z-of_z w128 n first) ∙ ap (λ (z : ℤ). parameters_of (natural n) (natural z)) (to_z-of_z w128 p second))
    ∙ ap (name_terms l (parameters_of (natural n) (natural p))) c.requires
    ∙ marks_of l xs n p (drop 2 xs) (two_first xs (pos 0) c.in-len2-up.len_at_least)
