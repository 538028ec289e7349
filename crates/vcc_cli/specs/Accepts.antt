-- When a source and a certificate are accepted, and what that means. From proof-carrying code (Necula 1997): who receives a program with a certificate checks the one by the other.
use Rattle.std.specs.Prelude.{◌≡◌, ℕ, ◌≤◌, List, length, Option, Some, IsTrue}
use Rattle.generated_source.specs.Sources.{generated}
use Rattle.c_syntax.specs.declared.token.Span.{Span}
use Rattle.c_syntax.specs.Items.{Item}
use Rattle.typing_spec.specs.First.{IsWellTyped}
use Rattle.c_source.specs.Sources.{IsText, IsWithinLimits}
use Rattle.c_types.specs.Typed.{IsProgramOf}
use Rattle.method.specs.declared.program.Program.{Program}
use Rattle.method.specs.Machine.{Safe}
use Rattle.grain_law.specs.FineSteps.{SafeInFineSteps}
use Rattle.race_law.specs.Races.{NoDataRaces}
use Rattle.object_types.specs.Sets.{every}
use Rattle.apart_law.specs.Premises.{item_stores_once}
use Rattle.plain_machine.specs.SafePlain.{SafePlain}
use Rattle.conditions.specs.Conditions.{conditions}
use Rattle.cert_format.specs.Text.{IsCertText, Proofs}
use Rattle.condition_meaning.specs.Languages.{language_of}
use Rattle.vcc_judge.specs.Verdicts.{IsVerified, LemmasFit}
use Rattle.vcc_base.specs.Maps.{Map}
use Rattle.vcc_base.specs.Limits.{number_of}
use Rattle.vcc_base.specs.declared.limit.Limit.TheVariants.{SourceBytes, CertBytes, Conditions}
use Rattle.vcc_words.specs.Words.{IsCheck}

-- The source reads as a program, the certificate is well formed, and each condition of the program follows by its block and the certificate's lemmas.
pub record Accepts (source cert : List ℕ) : Type 0 where
  pub program : Program
  pub proofs : Proofs
  pub reads : IsProgramOf source program
  pub text : IsCertText cert proofs
  pub verified : IsVerified program proofs.lemmas proofs.blocks

-- The source reads as a program, the certificate is well formed, both are within the limits, no number that a lemma works out leaves 128 bits, and each condition follows by its block and the lemmas: of every program that the source reads as, since two may differ in the room that their vectors hold.
pub record IsAcceptable (source cert : List ℕ) : Type 0 where
  pub items : List Item
  pub end : Span
  pub text : IsText source items end
  pub within : IsWithinLimits text
  pub typed : IsWellTyped items end
  pub source_short : length source ≤ number_of SourceBytes
  pub proofs : Proofs
  pub cert_text : IsCertText cert proofs
  pub cert_short : length cert ≤ number_of CertBytes
  pub few : (p : Program) → IsProgramOf source p → length (conditions p) ≤ number_of Conditions
  pub fits : (p : Program) → IsProgramOf source p → LemmasFit (language_of p) proofs.lemmas
  pub verified : (p : Program) → IsProgramOf source p → IsVerified p proofs.lemmas proofs.blocks

-- the words are a check, whose two names hold these bytes
pub record IsCheckOf (m : Map) (words : List (List ℕ)) (source cert : List ℕ) : Type 0 where
  pub source_name : List ℕ
  pub cert_name : List ℕ
  pub command : IsCheck words source_name cert_name
  pub source_held : m source_name ≡ Some source
  pub cert_held : m cert_name ≡ Some cert

-- the bytes read as a program that is safe: in every interleaving, from every good heap that meets main's precondition, no step faults, no claimed object is opened, and each step keeps the invariants
-- Its steps are whole statements. It is safe in fine steps too, where other threads also act between two reads of one statement, and between a read and the use of its value.
-- It has no data race: in no interleaving two threads may access one place next, one of them to write, but by two atomic blocks on a volatile field.
-- Nor does a step fault of the program that a C compiler sees, without its annotations, where each atomic block holds at most one assignment of code.
pub record IsSafeSource (source : List ℕ) : Type 0 where
  pub program : Program
  pub reads : IsProgramOf source program
  pub safe : Safe program
  pub in_fine_steps : SafeInFineSteps program
  pub without_races : NoDataRaces program
  pub without_annotations : IsTrue (every item_stores_once reads.reads.items) → SafePlain program

-- the name holds a source that is safe
pub record HoldsSafe (m : Map) (name : List ℕ) : Type 0 where
  pub source : List ℕ
  pub held : m name ≡ Some source
  pub is_safe : IsSafeSource source

-- the two names hold a source and a certificate that are accepted
pub record HoldAccepted (m : Map) (source_name cert_name : List ℕ) : Type 0 where
  pub source : List ℕ
  pub cert : List ℕ
  pub source_held : m source_name ≡ Some source
  pub cert_held : m cert_name ≡ Some cert
  pub accepts : Accepts source cert

-- The words are a check, of a source that is safe.
pub record SourceIsSafe (m : Map) (words : List (List ℕ)) : Type 0 where
  pub source : List ℕ
  pub cert : List ℕ
  pub check : IsCheckOf m words source cert
  pub is_safe : IsSafeSource source

-- The words are a check, of a source and a certificate that are accepted.
pub record IsAccepted (m : Map) (words : List (List ℕ)) : Type 0 where
  pub source : List ℕ
  pub cert : List ℕ
  pub check : IsCheckOf m words source cert
  pub accepts : Accepts source cert

-- What a verify that ends with yes leaves: the two names hold a source and a certificate that are accepted, and the source is safe.
pub record LeavesAccepted (now : Option Map) (source_name cert_name : List ℕ) : Type 0 where
  pub holds : Map
  pub told : now ≡ Some holds
  pub accepted : HoldAccepted holds source_name cert_name
  pub is_safe : HoldsSafe holds source_name

-- There is a certificate by which the source of so many copies is accepted, and the source is safe.
pub record IsGenAccepted (copies : ℕ) : Type 0 where
  pub cert : List ℕ
  pub accepts : Accepts (generated copies) cert
  pub is_safe : IsSafeSource (generated copies)
