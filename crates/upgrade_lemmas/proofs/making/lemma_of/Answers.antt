use Rattle.std.proofs.Common.{ℕ, List, [], ◌∷◌, ◌++◌, ap, sym, subst, ◌∙◌}
use Rattle.condition_formulas.specs.Standing.{StandAll}
use Rattle.cert_format.specs.declared.certificate.Step.{Step}
use Rattle.upgrade_lemmas.specs.Making.{step_by}
use Rattle.upgrade_lemmas.proofs.LemmaOver.{lemma_is}
use Rattle.upgrade_lemmas.proofs.making.lemma_of.Goals as goal

pub returns : goal.returns
returns c = λ l k s.
    let h = c.args.conclusion.now in
    lemma_is l c.args.graph.now h k c.args.terms.now c.number_nodes.new.terms c.number_node.new.terms c.in_ok-own.own.items c.len-before.result c.in_ok-tree.tree c.in_ok-args.args.items c.in_ok-step.step c.push.new.self.items c.new.result s
    c.len-before.ensures.len (c.in_ok-args.ensures k.args (subst (λ (ids : List ℕ). StandAll c.args.graph.now ids k.args) (sym c.as_slice.ensures.value) s.args)) (c.in_ok-tree.ensures k.tree s.tree) c.in_ok-own.ensures
    (c.in_ok-step.ensures ∙ ap (λ (ids : List ℕ). step_by h ids c.in_ok-tree.tree) c.deref.ensures.value)
    (c.in_ok-push.ensures.items ∙ ap (λ (steps : List Step). steps ++ c.in_ok-step.step ∷ []) c.new-steps.ensures.items) c.new.ensures.terms c.new.ensures.steps
