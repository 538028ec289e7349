use Rattle.std.proofs.Common.{ap}
use Rattle.vcc_base.specs.Memory.{SinkState, StoreState}
use Rattle.vcc_cli.proofs.Generating.{search_ended, search_overflows}
use Rattle.vcc_cli.proofs.copies.search.Goals as goal

pub returns-in-Ok-verify-clause-leaves : goal.returns-in-Ok-verify-clause-leaves
returns-in-Ok-verify-clause-leaves c = search_ended c.args.program.now _ _ _ (ap (λ (s : StoreState). s.held) c.new-store.ensures) (ap (λ (s : SinkState). s.written) c.new-out.ensures) _ _ c.in-Ok-verify.ensures.run

pub returns-in-Err-CertBytes-clause-stops : goal.returns-in-Err-CertBytes-clause-stops
returns-in-Err-CertBytes-clause-stops c = search_overflows c.args.program.now _ _ _ (ap (λ (s : StoreState). s.held) c.new-store.ensures) (ap (λ (s : SinkState). s.written) c.new-out.ensures) _ c.in-Err-CertBytes.field-0 c.in-Err-CertBytes.field-0-is c.in-Err-CertBytes.ensures.run
