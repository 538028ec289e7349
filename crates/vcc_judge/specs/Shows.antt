-- What a block shows of its condition. Own.
use Rattle.std.specs.Prelude.{Bool, true, false, List, Result, Ok, Err}
use Rattle.terms.specs.Formula.{Formula}
use Rattle.term_meaning.specs.Meaning.{Language}
use Rattle.cert_format.specs.Derivations.{Derivation}
use Rattle.condition_meaning.specs.Languages.{language_of}
use Rattle.block_layout.specs.Space.{IsTheory, KnowsSorts}
use Rattle.block_layout.specs.declared.space.Theory.{Theory}
use Rattle.refutation_check.specs.Follows.{Follows, GivesTheorem, HoldsTheorems, StopsLemmas}
use Rattle.refutation_check.specs.declared.answer.CheckFault.TheVariants as check
use Rattle.vcc_judge.specs.declared.room.Room.{Room}
use Rattle.vcc_judge.specs.declared.verdict.JudgeFault.{JudgeFault}
use Rattle.vcc_judge.specs.declared.verdict.JudgeFault.TheVariants as f
use Rattle.vcc_judge.specs.Verdicts.{Leaves}

-- the theory is that of its program, the room knows the sorts of its terms, and it holds the theorems of the lemmas
pub record IsReady (theory : Theory) (lemmas : List Derivation) (room : Room) : Type 0 where
  pub is : IsTheory theory (language_of theory.program.now)
  pub sorts : KnowsSorts (language_of theory.program.now) room.space
  pub holds : HoldsTheorems (language_of theory.program.now) lemmas room.space.graph room.lemmas

pub record IsSomeReady (theory : Theory) (room : Room) : Type 0 where
  pub lemmas : List Derivation
  pub ready : IsReady theory lemmas room

-- The room is ready for the lemmas' certificate; or a lemma is the first that can't be judged; or memory is refused.
abbrev pub MakesReady : Theory → List Derivation → Result Room JudgeFault → Type 0
MakesReady theory lemmas (Ok room) = IsReady theory lemmas room
MakesReady theory lemmas (Err (f.Wide w)) = StopsLemmas (GivesTheorem (language_of theory.program.now)) (language_of theory.program.now) lemmas (check.Wide w)
MakesReady theory lemmas (Err f.Terms) = StopsLemmas (GivesTheorem (language_of theory.program.now)) (language_of theory.program.now) lemmas check.Limit
MakesReady theory lemmas (Err f.OutOfMemory) = Unit {0}

-- The condition follows by the block and the lemmas, or it doesn't; or a number leaves 128 bits; or too many terms are needed, or memory is refused.
abbrev pub Shows : Language → List Derivation → Formula → Derivation → Result Bool JudgeFault → Type 0
Shows l lemmas formula block (Ok true) = Follows l lemmas formula block
Shows l lemmas formula block (Ok false) = Follows l lemmas formula block → ⊥
Shows l lemmas formula block (Err (f.Wide w)) = Leaves l lemmas formula block w
Shows l lemmas formula block (Err _) = Unit {0}
