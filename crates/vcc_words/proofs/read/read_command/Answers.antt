use Rattle.vcc_words.specs.Words.{texts}
use Rattle.vcc_words.proofs.Parts.{reads_last}
use Rattle.vcc_words.proofs.read.read_command.Goals as goal

pub returns : goal.returns
returns c =
    reads_last (texts c.args.words.now) c.in_ok-search.search c.verification.result c.in_ok-search.ensures c.verification.ensures (λ none. record { no_check = c.in_default.ensures; no_verify = none; no_upgrade = c.in_default-upgrade_names.ensures; no_run = c.in_default-named_pair.ensures; no_gen = c.in_default-copy_count.ensures })
