use Rattle.vcc_io.proofs.FirstVersions.{second_is}
use Rattle.vcc_io.proofs.first_version.is_second.Goals as goal

pub returns : goal.returns
returns c = second_is c.args.bytes.now c.starts_with.result c.starts_with.ensures.value
