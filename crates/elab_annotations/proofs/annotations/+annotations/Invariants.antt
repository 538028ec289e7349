use Rattle.std.proofs.Common.{◌≡◌, ◌+◌, ◌*◌, take}
use Rattle.c_syntax.specs.Grammar.{exps_of}
use Rattle.c_syntax.specs.Views.{exp, exps}
use Rattle.elab_code.specs.Views.{around}
use Rattle.elab_annotations.specs.Sizes.{parts, all_parts}
use Rattle.elab_annotations.specs.Typing.{arguments_typed}
use Rattle.elab_annotations.specs.Views.{row_of}
use Rattle.elab_annotations.proofs.annotations.+annotations.Given as goal

abbrev pub decreases-boxed : goal.decreases-boxed
decreases-boxed l = 3 * parts (exp l.x.now)

abbrev pub decreases-only : goal.decreases-only
decreases-only l = 1 + 3 * parts (exp l.x.now)

abbrev pub decreases-row : goal.decreases-row
decreases-row l = 1 + 3 * all_parts (exps_of (exps l.all.now))

abbrev pub decreases-exact_set : goal.decreases-exact_set
decreases-exact_set l = 2 + 3 * all_parts (exps_of (exps l.all.now))

abbrev pub decreases-conjuncts : goal.decreases-conjuncts
decreases-conjuncts l = 2 + 3 * parts (exp l.x.now)

abbrev pub decreases-for_all_body : goal.decreases-for_all_body
decreases-for_all_body l = 3 * parts (exp l.body.now)

abbrev pub decreases-exists_body : goal.decreases-exists_body
decreases-exists_body l = 3 * parts (exp l.body.now)

abbrev pub decreases-owner : goal.decreases-owner
decreases-owner l = 3 * parts (exp l.x.now)

abbrev pub decreases-owner_first : goal.decreases-owner_first
decreases-owner_first l = 3 * parts (exp l.x.now)

abbrev pub decreases-others : goal.decreases-others
decreases-others l = 3 * parts (exp l.x.now)

abbrev pub invariant-row-loop-x : goal.invariant-row-loop-x
invariant-row-loop-x l = row_of l.so_far ≡ arguments_typed (around l.around) l.first (exps (take l.x-index l.all))
