use Rattle.condition_meaning.specs.Languages.{language_of}
use Rattle.vcc_search.proofs.Prover.{is_small, finds, few}
use Rattle.vcc_search.proofs.search.search.Goals as goal

pub prove-requires : goal.prove-requires
prove-requires c = record { language = language_of c.args.theory.program.now; is = c.requires.theory }

pub block_to_write-requires : goal.block_to_write-requires
block_to_write-requires c = is_small c.in_ok-proof.proof c.in-Refuted.block c.in-Refuted.is c.in_ok-proof.ensures.counts

pub returns-in-Refuted-clause-finds : goal.returns-in-Refuted-clause-finds
returns-in-Refuted-clause-finds c = λ f stands.
    finds (language_of c.args.theory.program.now) f c.in_ok-proof.proof c.in-Refuted.block c.block_to_write.result c.in-Refuted.is (c.in_ok-proof.ensures.follows (language_of c.args.theory.program.now) f c.requires.theory stands) c.block_to_write.ensures

pub returns-in-Refuted-clause-few : goal.returns-in-Refuted-clause-few
returns-in-Refuted-clause-few c = few c.in-Refuted.block c.block_to_write.result c.block_to_write.ensures
