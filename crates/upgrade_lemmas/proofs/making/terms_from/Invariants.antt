use Rattle.std.proofs.Common.{◌≡◌, ◌++◌, drop}
use Rattle.upgrade_lemmas.proofs.making.terms_from.Given as goal

abbrev pub invariant-loop-id : goal.invariant-loop-id
invariant-loop-id l = l.rest.items ++ drop l.id l.terms ≡ drop l.fn.first l.terms
