-- From what a command comes to, to what its words come to.
use Rattle.std.proofs.Common.{◌≡◌, inl, inr, ℕ, ◌≤◌, List, Option, Some, None, Err, refl, subst, arith}
use Rattle.vcc_base.specs.Maps.{Map}
use Rattle.vcc_words.specs.declared.command.Command.{Command}
use Rattle.vcc_words.specs.declared.command.Command.TheVariants.{Check, Verify, Upgrade, Run, Gen}
use Rattle.vcc_words.specs.Words.{IsCheck, IsCommand, IsGen, IsNoCommand, IsUpgrade, IsVerify, Reads}
use Rattle.vcc_io.specs.declared.refusal.Refusal.TheVariants.{OutOfMemory}
use Rattle.vcc_io.specs.Lines.{IsReported, Written}
use Rattle.vcc_io.specs.Faults.{ReadCounts}
use Rattle.vcc_cli.specs.Accepts.{IsAcceptable, IsAccepted, IsCheckOf, LeavesAccepted, SourceIsSafe}
use Rattle.vcc_cli.specs.Ends.{Ends, EndsWith, Generates, GetsYes, Keeps, Shows}
use Rattle.vcc_cli.specs.Generated.{ShowsCopies}
use Rattle.vcc_cli.specs.Searches.{Stored}
use Rattle.vcc_cli.specs.Upgrades.{LeavesUpgrade}
use Rattle.vcc_cli.proofs.Runs.{accepted_run, complete_run, safe_run}
use Rattle.vcc_cli.proofs.Verdicts.{gets_yes}
use Rattle.vcc_cli.proofs.Words.{check_or_run, check_or_verify, one_gen, one_upgrade, one_verify, pair_or_gen, pair_or_upgrade, upgrade_or_gen, verify_or_gen, verify_or_run, verify_or_upgrade}

-- what the words are, of a command that was read
pub is_command : (words : List (List ℕ)) (read : Option Command) (command : Command) → read ≡ Some command → Reads words read → IsCommand words command
is_command words read command is reads = subst (λ (o : Option Command). Reads words o) is reads

-- that they are none, where none was read
pub is_none : (words : List (List ℕ)) (read : Option Command) → read ≡ None → Reads words read → IsNoCommand words
is_none words read is reads = subst (λ (o : Option Command). Reads words o) is reads

module _ (m : Map) (words : List (List ℕ)) (reads : ReadCounts) (s : Stored) (w : Written) (status : ℕ) where
  pub safe_command : (command : Command) (now : Option Map) (source cert : List ℕ) → IsCommand words command → Ends m command reads s w status → IsCheck words source cert → status ≡ 0 → Shows m command now → SourceIsSafe m words
  safe_command (Check pair) now source cert is ends check zeroed shows = safe_run m words pair.source.now pair.other.now reads w status is ends zeroed shows
  safe_command (Verify search) now source cert is ends check zeroed shows = absurd (check_or_verify words source cert search.source.now search.cert.now search.leaves search.rounds check is)
  safe_command (Upgrade names) now source cert is ends check zeroed shows = absurd (pair_or_upgrade _ words source cert names.source.now names.cert.now names.new.now check is)
  safe_command (Run pair) now source cert is ends check zeroed shows = absurd (check_or_run words source cert pair.source.now pair.other.now check is)
  safe_command (Gen copies) now source cert is ends check zeroed shows = absurd (pair_or_gen _ words source cert copies check is)

  pub accepted_command : (command : Command) (source cert : List ℕ) → IsCommand words command → Ends m command reads s w status → IsCheck words source cert → status ≡ 0 → IsAccepted m words
  accepted_command (Check pair) source cert is ends check zeroed = accepted_run m words pair.source.now pair.other.now reads w status is ends zeroed
  accepted_command (Verify search) source cert is ends check zeroed = absurd (check_or_verify words source cert search.source.now search.cert.now search.leaves search.rounds check is)
  accepted_command (Upgrade names) source cert is ends check zeroed = absurd (pair_or_upgrade _ words source cert names.source.now names.cert.now names.new.now check is)
  accepted_command (Run pair) source cert is ends check zeroed = absurd (check_or_run words source cert pair.source.now pair.other.now check is)
  accepted_command (Gen copies) source cert is ends check zeroed = absurd (pair_or_gen _ words source cert copies check is)

  pub complete_command : (command : Command) (source cert : List ℕ) → IsCommand words command → Ends m command reads s w status → IsAcceptable source cert → IsCheckOf m words source cert → reads.reads_after ≤ reads.reads_before → w.faults_after ≤ w.faults_before → GetsYes w status
  complete_command (Check pair) source cert is ends accepted check no_read no_write = complete_run m words pair.source.now pair.other.now reads w status is ends source cert accepted check no_read no_write
  complete_command (Verify search) source cert is ends accepted check no_read no_write = absurd (check_or_verify words check.source_name check.cert_name search.source.now search.cert.now search.leaves search.rounds check.command is)
  complete_command (Upgrade names) source cert is ends accepted check no_read no_write = absurd (pair_or_upgrade _ words check.source_name check.cert_name names.source.now names.cert.now names.new.now check.command is)
  complete_command (Run pair) source cert is ends accepted check no_read no_write = absurd (check_or_run words check.source_name check.cert_name pair.source.now pair.other.now check.command is)
  complete_command (Gen copies) source cert is ends accepted check no_read no_write = absurd (pair_or_gen _ words check.source_name check.cert_name copies check.command is)

  pub exact_command : (command : Command) → IsCommand words command → Ends m command reads s w status → EndsWith m words reads s w status
  exact_command (Check pair) is ends = inr (inl (record { source_name = pair.source.now; cert_name = pair.other.now; command = is; checked = ends }))
  exact_command (Verify search) is ends =
      inr (inr (inr (inl (record { source_name = search.source.now; cert_name = search.cert.now; leaves = search.leaves; rounds = search.rounds; command = is; answered = ends }))))
  exact_command (Upgrade names) is ends =
      inr (inr (inr (inr (inr (inl (record { source_name = names.source.now; cert_name = names.cert.now; new_name = names.new.now; command = is; answered = ends }))))))
  exact_command (Run pair) is ends = inr (inr (inl (record { source_name = pair.source.now; schedule_name = pair.other.now; command = is; answered = ends })))
  exact_command (Gen copies) is ends = inr (inr (inr (inr (inl (record { copies = copies; command = is; answered = ends })))))

module _ (m : Map) (words : List (List ℕ)) where
  -- a command that is a verify of these names leaves what they hold
  pub verified_command : (command : Command) (now : Option Map) (source cert : List ℕ) (leaves rounds : ℕ) → IsCommand words command → IsVerify words source cert leaves rounds → Shows m command now → LeavesAccepted now source cert
  verified_command (Check pair) now source cert leaves rounds is verify shows = absurd (check_or_verify words pair.source.now pair.other.now source cert leaves rounds is verify)
  verified_command (Verify search) now source cert leaves rounds is verify shows =
      let same = one_verify words search.source.now search.cert.now source cert search.leaves search.rounds leaves rounds is verify in
      subst (λ (name : List ℕ). LeavesAccepted now name cert) same.0 (subst (λ (name : List ℕ). LeavesAccepted now search.source.now name) same.1 (shows is.differ))
  verified_command (Upgrade names) now source cert leaves rounds is verify shows = absurd (verify_or_upgrade words source cert names.source.now names.cert.now names.new.now leaves rounds verify is)
  verified_command (Run pair) now source cert leaves rounds is verify shows = absurd (verify_or_run words source cert pair.source.now pair.other.now leaves rounds verify is)
  verified_command (Gen copies) now source cert leaves rounds is verify shows = absurd (verify_or_gen words source cert leaves rounds copies verify is)

  -- a command that is an upgrade of these names leaves what it is to leave
  pub upgraded_command : (command : Command) (now : Option Map) (source cert new : List ℕ) → IsCommand words command → IsUpgrade words source cert new → Shows m command now → LeavesUpgrade m now source cert new
  upgraded_command (Check pair) now source cert new is upgrade shows = absurd (pair_or_upgrade _ words pair.source.now pair.other.now source cert new is upgrade)
  upgraded_command (Verify search) now source cert new is upgrade shows = absurd (verify_or_upgrade words search.source.now search.cert.now source cert new search.leaves search.rounds is upgrade)
  upgraded_command (Upgrade names) now source cert new is upgrade shows =
      let same = one_upgrade words names.source.now names.cert.now names.new.now source cert new is upgrade in
      subst (λ (name : List ℕ). LeavesUpgrade m now source cert name) same.2 (subst (λ (name : List ℕ). LeavesUpgrade m now source name names.new.now) same.1 (subst (λ (name : List ℕ). LeavesUpgrade m now name names.cert.now names.new.now) same.0 shows))
  upgraded_command (Run pair) now source cert new is upgrade shows = absurd (pair_or_upgrade _ words pair.source.now pair.other.now source cert new is upgrade)
  upgraded_command (Gen copies) now source cert new is upgrade shows = absurd (upgrade_or_gen words source cert new copies upgrade is)

-- a command that is no verify and no upgrade changes nothing
module _ (words : List (List ℕ)) (before after : Option Map) (no_verify : (source cert : List ℕ) (leaves rounds : ℕ) → IsVerify words source cert leaves rounds → ⊥) (no_upgrade : (source cert new : List ℕ) → IsUpgrade words source cert new → ⊥) where
  pub kept_command : (command : Command) → IsCommand words command → Keeps command before after → after ≡ before
  kept_command (Check pair) is keeps = keeps
  kept_command (Verify search) is keeps = absurd (no_verify search.source.now search.cert.now search.leaves search.rounds is)
  kept_command (Upgrade names) is keeps = absurd (no_upgrade names.source.now names.cert.now names.new.now is)
  kept_command (Run pair) is keeps = keeps
  kept_command (Gen copies) is keeps = keeps

-- a command that is a gen of so many copies shows what it is to show of them
module _ (words : List (List ℕ)) (copies : ℕ) (w : Written) (status : ℕ) where
  pub generated_command : (command : Command) → IsCommand words command → IsGen words copies → Generates command w status → ShowsCopies copies w status
  generated_command (Check pair) is gen generates = absurd (pair_or_gen _ words pair.source.now pair.other.now copies is gen)
  generated_command (Verify search) is gen generates = absurd (verify_or_gen words search.source.now search.cert.now search.leaves search.rounds copies is gen)
  generated_command (Upgrade names) is gen generates = absurd (upgrade_or_gen words names.source.now names.cert.now names.new.now copies is gen)
  generated_command (Run pair) is gen generates = absurd (pair_or_gen _ words pair.source.now pair.other.now copies is gen)
  generated_command (Gen n) is gen generates = subst (λ (k : ℕ). ShowsCopies k w status) (one_gen words n copies is gen) generates

-- where memory was wanted and no write failed, that is told
pub wanting_complete : (w : Written) (status : ℕ) → IsReported (Err OutOfMemory) w status → w.faults_after ≤ w.faults_before → GetsYes w status
wanting_complete w status reported no_write = gets_yes (Err OutOfMemory) (record { reads_before = 0; reads_after = 0 }) w status (inr (inl refl)) (λ is. absurd is) (omega arith) no_write reported
