use Rattle.std.proofs.Common.{Ok}
use Rattle.cert_format.specs.declared.certificate.RuleName.TheVariants as r
use Rattle.refutation_check.proofs.Judged.{row_named, row_sorted, fits_named, fits_sorted}
use Rattle.refutation_check.proofs.steps.is_given.Goals as goal

pub returns-in-Root-clause-rows : goal.returns-in-Root-clause-rows
returns-in-Root-clause-rows c = λ theorems held.
    row_named theorems c.args.space.now.graph c.args.space.now.sorts c.args.clauses.now.root c.args.clauses.now.list.items c.args.below c.args.step.now c.args.clause.now c.concludes.result
    c.args.step.now.rule r.Root c.in-Root.is c.concludes.ensures.rows

pub returns-in-Conn-clause-rows : goal.returns-in-Conn-clause-rows
returns-in-Conn-clause-rows c = λ theorems held.
    row_named theorems c.args.space.now.graph c.args.space.now.sorts c.args.clauses.now.root c.args.clauses.now.list.items c.args.below c.args.step.now c.args.clause.now c.concludes-in-Conn.result
    c.args.step.now.rule r.Conn c.in-Conn.is c.concludes-in-Conn.ensures.rows

pub returns-in-Chain-clause-rows : goal.returns-in-Chain-clause-rows
returns-in-Chain-clause-rows c = λ theorems held.
    row_named theorems c.args.space.now.graph c.args.space.now.sorts c.args.clauses.now.root c.args.clauses.now.list.items c.args.below c.args.step.now c.args.clause.now c.concludes-in-Chain.result
    c.args.step.now.rule r.Chain c.in-Chain.is c.concludes-in-Chain.ensures.rows

pub returns-in-Refl-clause-rows : goal.returns-in-Refl-clause-rows
returns-in-Refl-clause-rows c = λ theorems held.
    row_named theorems c.args.space.now.graph c.args.space.now.sorts c.args.clauses.now.root c.args.clauses.now.list.items c.args.below c.args.step.now c.args.clause.now c.concludes-in-Refl.result
    c.args.step.now.rule r.Refl c.in-Refl.is c.concludes-in-Refl.ensures.rows

pub returns-in-Sym-clause-rows : goal.returns-in-Sym-clause-rows
returns-in-Sym-clause-rows c = λ theorems held.
    row_named theorems c.args.space.now.graph c.args.space.now.sorts c.args.clauses.now.root c.args.clauses.now.list.items c.args.below c.args.step.now c.args.clause.now c.concludes-in-Sym.result
    c.args.step.now.rule r.Sym c.in-Sym.is c.concludes-in-Sym.ensures.rows

pub returns-in-Trans-clause-rows : goal.returns-in-Trans-clause-rows
returns-in-Trans-clause-rows c = λ theorems held.
    row_named theorems c.args.space.now.graph c.args.space.now.sorts c.args.clauses.now.root c.args.clauses.now.list.items c.args.below c.args.step.now c.args.clause.now c.concludes-in-Trans.result
    c.args.step.now.rule r.Trans c.in-Trans.is c.concludes-in-Trans.ensures.rows

pub returns-in-Cong-clause-rows : goal.returns-in-Cong-clause-rows
returns-in-Cong-clause-rows c = λ theorems held.
    row_sorted theorems c.args.space.now.graph c.as_slice-sorts.result.now c.args.space.now.sorts c.args.clauses.now.root c.args.clauses.now.list.items c.args.below c.args.step.now c.args.clause.now c.concludes-in-Cong.result
    c.args.step.now.rule r.Cong c.as_slice-sorts.ensures c.in-Cong.is c.concludes-in-Cong.ensures.rows

pub returns-in-Linear-clause-rows : goal.returns-in-Linear-clause-rows
returns-in-Linear-clause-rows c = λ theorems held.
    row_sorted theorems c.args.space.now.graph c.as_slice-sorts.result.now c.args.space.now.sorts c.args.clauses.now.root c.args.clauses.now.list.items c.args.below c.args.step.now c.args.clause.now c.concludes-in-Linear.result
    c.args.step.now.rule r.Linear c.as_slice-sorts.ensures c.in-Linear.is c.concludes-in-Linear.ensures.rows

pub returns-in-Cut-clause-rows : goal.returns-in-Cut-clause-rows
returns-in-Cut-clause-rows c = λ theorems held.
    row_sorted theorems c.args.space.now.graph c.as_slice-sorts.result.now c.args.space.now.sorts c.args.clauses.now.root c.args.clauses.now.list.items c.args.below c.args.step.now c.args.clause.now c.concludes-in-Cut.result
    c.args.step.now.rule r.Cut c.as_slice-sorts.ensures c.in-Cut.is c.concludes-in-Cut.ensures.rows

pub returns-in-Split-clause-rows : goal.returns-in-Split-clause-rows
returns-in-Split-clause-rows c = λ theorems held.
    row_sorted theorems c.args.space.now.graph c.as_slice-sorts.result.now c.args.space.now.sorts c.args.clauses.now.root c.args.clauses.now.list.items c.args.below c.args.step.now c.args.clause.now c.concludes-in-Split.result
    c.args.step.now.rule r.Split c.as_slice-sorts.ensures c.in-Split.is c.concludes-in-Split.ensures.rows

pub returns-in-Map-clause-rows : goal.returns-in-Map-clause-rows
returns-in-Map-clause-rows c = λ theorems held.
    row_sorted theorems c.args.space.now.graph c.as_slice-sorts.result.now c.args.space.now.sorts c.args.clauses.now.root c.args.clauses.now.list.items c.args.below c.args.step.now c.args.clause.now c.concludes-in-Map.result
    c.args.step.now.rule r.Map c.as_slice-sorts.ensures c.in-Map.is c.concludes-in-Map.ensures.rows

pub returns-in-Axiom-clause-rows : goal.returns-in-Axiom-clause-rows
returns-in-Axiom-clause-rows c = λ theorems held.
    row_named theorems c.args.space.now.graph c.args.space.now.sorts c.args.clauses.now.root c.args.clauses.now.list.items c.args.below c.args.step.now c.args.clause.now (Ok c.is_axiom.result)
    c.args.step.now.rule r.Axiom c.in-Axiom.is c.is_axiom.ensures

pub returns-in-Lemma-clause-rows : goal.returns-in-Lemma-clause-rows
returns-in-Lemma-clause-rows c = λ theorems held.
    row_named theorems c.args.space.now.graph c.args.space.now.sorts c.args.clauses.now.root c.args.clauses.now.list.items c.args.below c.args.step.now c.args.clause.now (Ok c.is_lemma.result)
    c.args.step.now.rule r.Lemma c.in-Lemma.is (c.is_lemma.ensures theorems held)

pub returns-in-Root-clause-exact : goal.returns-in-Root-clause-exact
returns-in-Root-clause-exact c =
    fits_named c.args.space.now.graph c.args.space.now.sorts c.args.clauses.now.root c.args.clauses.now.list.items c.args.below c.args.step.now c.args.clause.now c.concludes.result
    c.args.step.now.rule r.Root c.in-Root.is c.concludes.ensures.exact

pub returns-in-Conn-clause-exact : goal.returns-in-Conn-clause-exact
returns-in-Conn-clause-exact c =
    fits_named c.args.space.now.graph c.args.space.now.sorts c.args.clauses.now.root c.args.clauses.now.list.items c.args.below c.args.step.now c.args.clause.now c.concludes-in-Conn.result
    c.args.step.now.rule r.Conn c.in-Conn.is c.concludes-in-Conn.ensures.exact

pub returns-in-Chain-clause-exact : goal.returns-in-Chain-clause-exact
returns-in-Chain-clause-exact c =
    fits_named c.args.space.now.graph c.args.space.now.sorts c.args.clauses.now.root c.args.clauses.now.list.items c.args.below c.args.step.now c.args.clause.now c.concludes-in-Chain.result
    c.args.step.now.rule r.Chain c.in-Chain.is c.concludes-in-Chain.ensures.exact

pub returns-in-Refl-clause-exact : goal.returns-in-Refl-clause-exact
returns-in-Refl-clause-exact c =
    fits_named c.args.space.now.graph c.args.space.now.sorts c.args.clauses.now.root c.args.clauses.now.list.items c.args.below c.args.step.now c.args.clause.now c.concludes-in-Refl.result
    c.args.step.now.rule r.Refl c.in-Refl.is c.concludes-in-Refl.ensures.exact

pub returns-in-Sym-clause-exact : goal.returns-in-Sym-clause-exact
returns-in-Sym-clause-exact c =
    fits_named c.args.space.now.graph c.args.space.now.sorts c.args.clauses.now.root c.args.clauses.now.list.items c.args.below c.args.step.now c.args.clause.now c.concludes-in-Sym.result
    c.args.step.now.rule r.Sym c.in-Sym.is c.concludes-in-Sym.ensures.exact

pub returns-in-Trans-clause-exact : goal.returns-in-Trans-clause-exact
returns-in-Trans-clause-exact c =
    fits_named c.args.space.now.graph c.args.space.now.sorts c.args.clauses.now.root c.args.clauses.now.list.items c.args.below c.args.step.now c.args.clause.now c.concludes-in-Trans.result
    c.args.step.now.rule r.Trans c.in-Trans.is c.concludes-in-Trans.ensures.exact

pub returns-in-Cong-clause-exact : goal.returns-in-Cong-clause-exact
returns-in-Cong-clause-exact c =
    fits_sorted c.args.space.now.graph c.as_slice-sorts.result.now c.args.space.now.sorts c.args.clauses.now.root c.args.clauses.now.list.items c.args.below c.args.step.now c.args.clause.now c.concludes-in-Cong.result
    c.args.step.now.rule r.Cong c.as_slice-sorts.ensures c.in-Cong.is c.concludes-in-Cong.ensures.exact

pub returns-in-Linear-clause-exact : goal.returns-in-Linear-clause-exact
returns-in-Linear-clause-exact c =
    fits_sorted c.args.space.now.graph c.as_slice-sorts.result.now c.args.space.now.sorts c.args.clauses.now.root c.args.clauses.now.list.items c.args.below c.args.step.now c.args.clause.now c.concludes-in-Linear.result
    c.args.step.now.rule r.Linear c.as_slice-sorts.ensures c.in-Linear.is c.concludes-in-Linear.ensures.exact

pub returns-in-Cut-clause-exact : goal.returns-in-Cut-clause-exact
returns-in-Cut-clause-exact c =
    fits_sorted c.args.space.now.graph c.as_slice-sorts.result.now c.args.space.now.sorts c.args.clauses.now.root c.args.clauses.now.list.items c.args.below c.args.step.now c.args.clause.now c.concludes-in-Cut.result
    c.args.step.now.rule r.Cut c.as_slice-sorts.ensures c.in-Cut.is c.concludes-in-Cut.ensures.exact

pub returns-in-Split-clause-exact : goal.returns-in-Split-clause-exact
returns-in-Split-clause-exact c =
    fits_sorted c.args.space.now.graph c.as_slice-sorts.result.now c.args.space.now.sorts c.args.clauses.now.root c.args.clauses.now.list.items c.args.below c.args.step.now c.args.clause.now c.concludes-in-Split.result
    c.args.step.now.rule r.Split c.as_slice-sorts.ensures c.in-Split.is c.concludes-in-Split.ensures.exact

pub returns-in-Map-clause-exact : goal.returns-in-Map-clause-exact
returns-in-Map-clause-exact c =
    fits_sorted c.args.space.now.graph c.as_slice-sorts.result.now c.args.space.now.sorts c.args.clauses.now.root c.args.clauses.now.list.items c.args.below c.args.step.now c.args.clause.now c.concludes-in-Map.result
    c.args.step.now.rule r.Map c.as_slice-sorts.ensures c.in-Map.is c.concludes-in-Map.ensures.exact

pub returns-in-Axiom-clause-exact : goal.returns-in-Axiom-clause-exact
returns-in-Axiom-clause-exact c =
    fits_named c.args.space.now.graph c.args.space.now.sorts c.args.clauses.now.root c.args.clauses.now.list.items c.args.below c.args.step.now c.args.clause.now (Ok c.is_axiom.result)
    c.args.step.now.rule r.Axiom c.in-Axiom.is (λ w h. h)

pub returns-in-Lemma-clause-exact : goal.returns-in-Lemma-clause-exact
returns-in-Lemma-clause-exact c =
    fits_named c.args.space.now.graph c.args.space.now.sorts c.args.clauses.now.root c.args.clauses.now.list.items c.args.below c.args.step.now c.args.clause.now (Ok c.is_lemma.result)
    c.args.step.now.rule r.Lemma c.in-Lemma.is (λ w h. h)
