use Rattle.std.proofs.Common.{inl, refl}
use Rattle.vcc_verify.specs.declared.fault.VerifyFault.TheVariants as f
use Rattle.vcc_verify.specs.Outcomes.{Verifies}
use Rattle.vcc_verify.proofs.Cuts.{exits}
use Rattle.vcc_verify.proofs.Endings.{no_begin}
use Rattle.vcc_verify.proofs.Valid.{answer_valid}
use Rattle.vcc_verify.proofs.verify.verify.Goals as goal

pub returns-in_err-language-clause-run : goal.returns-in_err-language-clause-run
returns-in_err-language-clause-run g c =
    exits c.from_residual.result f.OutOfMemory (λ r. Verifies c.args.program.now c.args.cert.now (g.S.Store.contents c.args.store.now) (g.S.Store.contents c.args.store.now) (g.O.Sink.written c.args.out.now) (g.O.Sink.written c.args.out.now) r) c.from_residual.ensures.1
    (no_begin c.args.program.now c.args.labels.now c.requires.labels c.requires.few _ c.args.cert.now _ _ f.OutOfMemory (inl refl))

pub verify_by-requires-clause-theory : goal.verify_by-requires-clause-theory
verify_by-requires-clause-theory g c = record { program = refl; language = c.in_ok-language.ensures }

pub returns-clause-valid : goal.returns-clause-valid
returns-clause-valid g c =
    answer_valid c.args.program.now c.args.cert.now (g.S.Store.contents c.args.store.now) (g.S.Store.contents c.verify_by.new.store) (g.O.Sink.written c.args.out.now) (g.O.Sink.written c.verify_by.new.out) c.verify_by.result c.verify_by.ensures.run
