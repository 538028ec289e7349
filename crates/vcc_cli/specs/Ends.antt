-- What the words come to.
use Rattle.std.specs.Prelude.{◌≡◌, ◌≢◌, ◌⊎◌, ℕ, List, Option, Err}
use Rattle.vcc_base.specs.Maps.{Map, NowWritten}
use Rattle.vcc_base.specs.declared.limit.Limit.TheVariants.{Terms}
use Rattle.vcc_words.specs.declared.command.Command.{Command}
use Rattle.vcc_words.specs.declared.command.Command.TheVariants.{Check, Verify, Upgrade, Run, Gen}
use Rattle.vcc_words.specs.Words.{IsCheck, IsNoCommand, IsRunCommand}
use Rattle.vcc_io.specs.declared.refusal.Refusal.TheVariants.{Usage, Limit, OutOfMemory}
use Rattle.vcc_io.specs.Faults.{ReadCounts}
use Rattle.vcc_io.specs.Lines.{Written, IsReported, line_of}
use Rattle.vcc_io.specs.Replays.{IsRunOfNames}
use Rattle.vcc_cli.specs.Accepts.{HoldsSafe, LeavesAccepted}
use Rattle.vcc_cli.specs.Checks.{IsChecked}
use Rattle.vcc_cli.specs.Searches.{Stored, IsVerifyOf, IsVerifyOfNames}
use Rattle.vcc_cli.specs.Upgrades.{IsUpgradeOf, IsUpgradeOfNames, LeavesUpgrade}
use Rattle.vcc_cli.specs.Generated.{IsGenOf, IsGenOfNumber, ShowsCopies}

-- ---- a command

-- what a command prints, what it leaves in the store, and its status, are those of its names, or of its number
abbrev pub Ends : Map → Command → ReadCounts → Stored → Written → ℕ → Type 0
Ends m (Check pair) reads s w status = IsChecked m pair.source.now pair.other.now reads w status
Ends m (Verify search) reads s w status = IsVerifyOfNames m search.source.now search.cert.now reads s w status
Ends m (Upgrade names) reads s w status = IsUpgradeOfNames m names.source.now names.cert.now names.new.now reads s w status
Ends m (Run pair) reads s w status = IsRunOfNames m pair.source.now pair.other.now reads w status
Ends m (Gen copies) reads s w status = IsGenOfNumber copies w status

-- what status 0 shows: the source is safe; and of a verify, of two names, that the store then holds a certificate by which it is accepted; of an upgrade, that it then holds the certificate written anew
abbrev pub Shows : Map → Command → Option Map → Type 0
Shows m (Check pair) now = HoldsSafe m pair.source.now
Shows m (Verify search) now = search.source.now ≢ search.cert.now → LeavesAccepted now search.source.now search.cert.now
Shows m (Upgrade names) now = LeavesUpgrade m now names.source.now names.cert.now names.new.now
Shows m (Run pair) now = Unit {0}
Shows m (Gen copies) now = Unit {0}

-- what the status of a gen, which reads no store, shows
abbrev pub Generates : Command → Written → ℕ → Type 0
Generates (Gen copies) w status = ShowsCopies copies w status
Generates _ w status = Unit {0}

-- a check, a run and a gen change nothing in the store
abbrev pub Keeps : Command → Option Map → Option Map → Type 0
Keeps (Check pair) before after = after ≡ before
Keeps (Verify search) before after = Unit {0}
Keeps (Upgrade names) before after = Unit {0}
Keeps (Run pair) before after = after ≡ before
Keeps (Gen copies) before after = after ≡ before

-- ---- its words

-- the words are no command, and that is reported
pub record IsRefused (words : List (List ℕ)) (w : Written) (status : ℕ) : Type 0 where
  pub none : IsNoCommand words
  pub reported : IsReported (Err Usage) w status

-- The words are a check, and what it prints and its status are those of its names.
pub record IsCheckedOf (m : Map) (words : List (List ℕ)) (reads : ReadCounts) (w : Written) (status : ℕ) : Type 0 where
  pub source_name : List ℕ
  pub cert_name : List ℕ
  pub command : IsCheck words source_name cert_name
  pub checked : IsChecked m source_name cert_name reads w status

-- The words are a run, and what it prints and its status are those of its names.
pub record IsRunOf (m : Map) (words : List (List ℕ)) (reads : ReadCounts) (w : Written) (status : ℕ) : Type 0 where
  pub source_name : List ℕ
  pub schedule_name : List ℕ
  pub command : IsRunCommand words source_name schedule_name
  pub answered : IsRunOfNames m source_name schedule_name reads w status

-- What the words come to: no command, a check, a run, a verify, a gen, or an upgrade; or memory is wanted to read them, which is reported.
abbrev pub EndsWith : Map → List (List ℕ) → ReadCounts → Stored → Written → ℕ → Type 0
EndsWith m words reads s w status = IsRefused words w status ⊎ IsCheckedOf m words reads w status ⊎ IsRunOf m words reads w status ⊎ IsVerifyOf m words reads s w status ⊎ IsGenOf words w status ⊎ IsUpgradeOf m words reads s w status ⊎ IsReported (Err OutOfMemory) w status

-- Yes; or memory was wanted; or the line says that a condition needs too many terms.
abbrev pub GetsYes : Written → ℕ → Type 0
GetsYes w status = (status ≡ 0) ⊎ (status ≡ 8) ⊎ ((status ≡ 5) × NowWritten w.before w.after (line_of (Err (Limit Terms))))
