-- The names and options of `verify`, as the command line parser is told of them. Own.
use Rattle.std.specs.Prelude.{codes, true, Some}
use Rattle.clap.specs.Walk.{Rule}
use Rattle.clap.specs.Simple.{App, new_app, new_rule, on_top, with_rule}

-- `SOURCE`
abbrev pub source : Rule
source = record (new_rule (codes "source")) { required = true }

-- `CERT`
abbrev pub cert : Rule
cert = record (new_rule (codes "cert")) { required = true }

-- `--leaves N`
abbrev pub leaves : Rule
leaves = record (new_rule (codes "leaves")) { long = Some (codes "leaves") }

-- `--rounds N`
abbrev pub rounds : Rule
rounds = record (new_rule (codes "rounds")) { long = Some (codes "rounds") }

-- the first word is no program's name
abbrev pub unnamed : App → App
unnamed = on_top (λ s. record s { no_binary_name = true })

unfoldable pub verify : App
verify = with_rule (with_rule (with_rule (with_rule (unnamed (new_app (codes "verify"))) source) cert) leaves) rounds
