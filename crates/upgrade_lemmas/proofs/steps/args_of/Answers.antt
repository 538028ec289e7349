use Rattle.std.proofs.Common.{ℕ, pos, List, map, drop, get_or, ap, sym, ◌∙◌}
use Rattle.upgrade_lemmas.proofs.StepNumbers.{two_first, rest_whole, args_are}
use Rattle.upgrade_lemmas.proofs.steps.args_of.Goals as goal

pub returns : goal.returns
returns c =
    let xs = c.args.numbers.now in
    let rest = sym (rest_whole xs c.in-len2-up.len_at_least) ∙ c.in-Some.ensures.cases.0 in
    c.naturals.ensures
    ∙ ap (λ (ns : List ℕ). map pos ns) (sym (args_are xs (drop 2 xs) c.in-Some.args.now (get_or xs 0 (pos 0)) (get_or xs 1 (pos 0)) c.in-Some.field-0-0.now (two_first xs (pos 0) c.in-len2-up.len_at_least) rest))
