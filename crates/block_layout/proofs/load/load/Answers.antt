use Rattle.std.proofs.Common.{List, ℕ, Option, Some, subst}
use Rattle.terms.specs.declared.term.Term.{Term}
use Rattle.cert_format.specs.declared.certificate.Step.{Step}
use Rattle.block_layout.specs.declared.loaded.Stop.{Stop}
use Rattle.block_layout.specs.Loading.{PutsTerms, LoadsSteps}
use Rattle.block_layout.proofs.Named.{none_or}
use Rattle.block_layout.proofs.Spaces.{keeps_then, sorts_stay}
use Rattle.block_layout.proofs.Laying.{block_loaded, block_stopped}
use Rattle.block_layout.proofs.load.load.Goals as goal

pub returns-in_err-stop-clause-kept : goal.returns-in_err-stop-clause-kept
returns-in_err-stop-clause-kept c = keeps_then c.sort_all.ensures.kept c.put_terms.ensures.kept

pub returns-in_err-loaded-clause-kept : goal.returns-in_err-loaded-clause-kept
returns-in_err-loaded-clause-kept c = keeps_then c.sort_all.ensures.kept (keeps_then c.put_terms.ensures.kept c.load_steps.ensures.kept)

pub returns-in-Some-clause-loaded : goal.returns-in-Some-clause-loaded
returns-in-Some-clause-loaded c =
    let code = c.args.theory.language.now in
    block_stopped c.args.theory c.args.own.now c.args.root c.args.block.now c.put_terms.new.names.items c.args.space.now c.sort_all.new.self c.put_terms.new.space _ c.in-Some.stop c.without_steps.ensures c.in_ok-sort_all.ensures.sorted
    (subst (λ (o : Option Stop). PutsTerms code c.args.own.now c.args.block.now.terms c.sort_all.new.self c.put_terms.new.space c.put_terms.new.names.items o) c.in-Some.is
    (subst (λ (ts : List Term). PutsTerms code c.args.own.now ts c.sort_all.new.self c.put_terms.new.space c.put_terms.new.names.items c.in_ok-stop.stop) c.terms.ensures c.in_ok-stop.ensures.put))

pub returns-in-Some-clause-kept : goal.returns-in-Some-clause-kept
returns-in-Some-clause-kept c = keeps_then c.sort_all.ensures.kept c.put_terms.ensures.kept

pub returns-in-Some-clause-sorted : goal.returns-in-Some-clause-sorted
returns-in-Some-clause-sorted c = sorts_stay c.in_ok-sort_all.ensures.sorted c.in_ok-stop.ensures.sorted

pub returns-clause-loaded : goal.returns-clause-loaded
returns-clause-loaded c =
    let code = c.args.theory.language.now in
    block_loaded c.args.theory c.args.own.now c.args.root c.args.block.now c.put_terms.new.names.items c.args.space.now c.sort_all.new.self c.put_terms.new.space c.load_steps.new.space _
    c.in_ok-sort_all.ensures.sorted c.in_ok-stop.ensures.sorted
    (subst (λ (o : Option Stop). PutsTerms code c.args.own.now c.args.block.now.terms c.sort_all.new.self c.put_terms.new.space c.put_terms.new.names.items o) (none_or c.in_ok-stop.stop c.in_default.not-Some)
    (subst (λ (ts : List Term). PutsTerms code c.args.own.now ts c.sort_all.new.self c.put_terms.new.space c.put_terms.new.names.items c.in_ok-stop.stop) c.terms.ensures c.in_ok-stop.ensures.put))
    (subst (λ (ns : List ℕ). LoadsSteps c.args.theory ns (Some c.args.root) c.args.block.now.steps c.put_terms.new.space c.load_steps.new.space c.in_ok-loaded.loaded) c.deref.ensures.value
    (subst (λ (ss : List Step). LoadsSteps c.args.theory c.deref.result.now (Some c.args.root) ss c.put_terms.new.space c.load_steps.new.space c.in_ok-loaded.loaded) c.steps.ensures c.in_ok-loaded.ensures.loaded))

pub returns-clause-kept : goal.returns-clause-kept
returns-clause-kept c = keeps_then c.sort_all.ensures.kept (keeps_then c.put_terms.ensures.kept c.load_steps.ensures.kept)

pub returns-clause-sorted : goal.returns-clause-sorted
returns-clause-sorted c = sorts_stay (sorts_stay c.in_ok-sort_all.ensures.sorted c.in_ok-stop.ensures.sorted) c.in_ok-loaded.ensures.sorted
