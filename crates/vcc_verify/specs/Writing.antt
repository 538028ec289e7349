-- Writing the certificate, block by block. Own.
use Rattle.std.specs.Prelude.{◌≡◌, ℕ, ◌+◌, ◌≤◌, List, ◌++◌, length, Option, Result, Ok, Err}
use Rattle.cert_format.specs.Derivations.{Derivation}
use Rattle.vcc_base.specs.Limits.{number_of}
use Rattle.vcc_base.specs.declared.limit.Limit.TheVariants.{CertBytes as Most}
use Rattle.vcc_base.specs.Maps.{Map, IfTold, NowHolds, FrontHeld}
use Rattle.vcc_base.specs.declared.store.StoreFault.TheVariants.{Missing, Failed, OutOfMemory}
use Rattle.vcc_verify.specs.declared.fault.VerifyFault.{VerifyFault}
use Rattle.vcc_verify.specs.declared.fault.VerifyFault.TheVariants as f
use Rattle.vcc_verify.specs.Texts.{head_text, blocks_text}
use Rattle.vcc_verify.specs.Outcomes.{Overflows, LeavesFront}

-- The name holds this text, which is so long and has room for the last line behind it.
pub record Stands (before now : Option Map) (name text : List ℕ) (written : ℕ) : Type 0 where
  pub holds : NowHolds before now name text
  pub long : written ≡ length text
  pub room : written + 4 ≤ number_of Most

-- What a fault leaves of these blocks that were to be written behind a text: with the next one it would be too long; or a front of them stands there. A name that was created isn't missing.
abbrev pub Cut : VerifyFault → Option Map → Option Map → List ℕ → List ℕ → List Derivation → Type 0
Cut f.CertBytes before now name text blocks = Overflows before now name text blocks
Cut (f.Store Missing) before now name text blocks = IfTold before (λ m. ⊥)
Cut (f.Store Failed) before now name text blocks = FrontHeld before now name text (blocks_text blocks)
Cut (f.Store OutOfMemory) before now name text blocks = FrontHeld before now name text (blocks_text blocks)
Cut (f.Sink fault) before now name text blocks = FrontHeld before now name text (blocks_text blocks)
Cut f.OutOfMemory before now name text blocks = FrontHeld before now name text (blocks_text blocks)

-- What a call leaves that writes these blocks behind a text: all of them stand there, or what a fault leaves.
abbrev pub After : {X : Type 0} → Result X VerifyFault → Option Map → Option Map → List ℕ → List ℕ → List Derivation → Type 0
After (Ok _) before now name text blocks = NowHolds before now name (text ++ blocks_text blocks)
After (Err fault) before now name text blocks = Cut fault before now name text blocks

-- What a call leaves that makes the name hold the lines in front of so many blocks.
abbrev pub Begins : Result ℕ VerifyFault → Option Map → Option Map → List ℕ → ℕ → Type 0
Begins (Ok written) old new name count = Stands old new name (head_text count) written
Begins (Err (f.Store Missing)) old new name count = IfTold old (λ m. ⊥)
Begins (Err (f.Store Failed)) old new name count = LeavesFront old new name (head_text count)
Begins (Err (f.Store OutOfMemory)) old new name count = LeavesFront old new name (head_text count)
Begins (Err f.OutOfMemory) old new name count = LeavesFront old new name (head_text count)
Begins (Err f.CertBytes) old new name count = ⊥
Begins (Err (f.Sink fault)) old new name count = ⊥
