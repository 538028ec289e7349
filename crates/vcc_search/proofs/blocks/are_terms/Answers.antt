use Rattle.std.proofs.Common.{List, All, subst, arith}
use Rattle.std.proofs.lemmas.List.{take_all}
use Rattle.std.proofs.lemmas.List.Elements.{All-more}
use Rattle.terms.specs.declared.term.Term.{Term}
use Rattle.cert_format.specs.Text.{IsTerm}
use Rattle.vcc_search.proofs.blocks.are_terms.Goals as goal

pub loop-term-preserved : goal.loop-term-preserved
loop-term-preserved c = record { fit = All-more (IsTerm) c.args.terms.now c.loop-term.term-index c.term-item.result c.loop-term-test.true c.loop-term.invariant.fit (subst (IsTerm) c.term-item.is (c.is_term.ensures c.if-not-is_term.false)) }

pub returns : goal.returns
returns c = λ yes. subst (λ (xs : List Term). All (IsTerm) xs) (take_all c.loop-term.term-index c.args.terms.now (omega (arith, c.loop-term-test.false))) c.loop-term.invariant.fit
