use Rattle.vcc_io.proofs.Sessions.{not_judged}
use Rattle.vcc_io.proofs.certificate.CertificateTrial.judge_lemmas.Goals as goal

pub returns-then-not-counts-clause-begun : goal.returns-then-not-counts-clause-begun
returns-then-not-counts-clause-begun c = λ bytes none taken.
    not_judged c.args.theory bytes c.args.self.now c.args.labels.now c.requires.labels c.if-not-counts.ensures none taken
