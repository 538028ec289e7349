-- What the checker's answer on a block shows of its condition.
use Rattle.std.proofs.Common.{◌≡◌, inl, inr, ℕ, List, [], ◌∷◌, Bool, Option, Some, slice_get, Result, Ok, Err, sym, subst}
use Rattle.terms.specs.declared.term.Term.{Term}
use Rattle.terms.specs.declared.sort.Sort.{Sort}
use Rattle.terms.specs.Formula.{Formula, Numbers, Numbered}
use Rattle.term_meaning.specs.Meaning.{Language}
use Rattle.cert_format.specs.Derivations.{Derivation}
use Rattle.condition_meaning.specs.Languages.{language_of}
use Rattle.block_layout.specs.Space.{IsTheory, KnowsSorts}
use Rattle.block_layout.specs.declared.space.Space.{Space}
use Rattle.block_layout.specs.declared.space.Theory.{Theory}
use Rattle.refutation_check.specs.Theorems.{Theorems}
use Rattle.refutation_check.specs.declared.answer.Answer.{Answer}
use Rattle.refutation_check.specs.declared.answer.Answer.TheVariants as a
use Rattle.refutation_check.specs.declared.answer.CheckFault.{CheckFault}
use Rattle.refutation_check.specs.declared.answer.CheckFault.TheVariants as check
use Rattle.refutation_check.specs.declared.held.Lemmas.{Lemmas}
use Rattle.refutation_check.specs.Follows.{AreTheorems, GivesTheorem, IsAnswer, IsJudgedTo, HoldsTheorems, IsLemmasAnswer, StopsLemmas}
use Rattle.vcc_judge.specs.declared.verdict.JudgeFault.{JudgeFault}
use Rattle.vcc_judge.specs.declared.verdict.JudgeFault.TheVariants as f
use Rattle.vcc_judge.specs.Faults.{is_follows, fault_of}
use Rattle.vcc_judge.specs.declared.room.Room.{Room}
use Rattle.vcc_judge.specs.Shows.{IsReady, MakesReady, Shows}
use Rattle.rule_layouts.proofs.Once.{never_fails, never_open}
use Rattle.rule_layouts.proofs.OneList.{follows_refutes, judged_are_theorems}

module _ (l : Language) (lemmas : List Derivation) (theorems : Theorems) (are : AreTheorems l lemmas theorems) (formula : Formula) (block : Derivation) (own : List Term) (root : ℕ) (n : Numbers formula [] own root) where
  shown : (answer : Answer) → IsAnswer l theorems own root block (Ok answer) → Shows l lemmas formula block (Ok (is_follows answer))
  shown a.Follows refutes = record { theorems = theorems; are = are; own = own; root = root; numbered = n; refutes = refutes }
  shown (a.BadTerm k) bad = λ follows. (never_fails l theorems own (Some root) block [] (follows_refutes l lemmas theorems formula block own root are follows n)).1 k bad
  shown (a.FailsAt s) (inl fails) = λ follows. (never_fails l theorems own (Some root) block [] (follows_refutes l lemmas theorems formula block own root are follows n)).0 s fails
  shown (a.FailsAt s) (inr open') = λ follows. never_open l theorems own root block (follows_refutes l lemmas theorems formula block own root are follows n) s open'

  shown_fault : (fault : CheckFault) → IsAnswer l theorems own root block (Err fault) → Shows l lemmas formula block (Err (fault_of fault))
  shown_fault (check.Wide w) leaves = record { theorems = theorems; are = are; own = own; root = root; numbered = n; leaves = leaves }
  shown_fault check.Limit h = tt
  shown_fault check.OutOfMemory h = tt

-- by what the functions answer
pub shown_as : (l : Language) (lemmas : List Derivation) (theorems : Theorems) → AreTheorems l lemmas theorems → (formula : Formula) (block : Derivation) (old own : List Term) (root : ℕ) (answer : Answer) (follows : Bool) → follows ≡ is_follows answer → old ≡ [] → Numbered formula old own root
    → IsAnswer l theorems own root block (Ok answer) → Shows l lemmas formula block (Ok follows)
shown_as l lemmas theorems are formula block old own root answer follows same none n h =
    subst (λ (b : Bool). Shows l lemmas formula block (Ok b)) (sym same)
    (shown l lemmas theorems are formula block own root (subst (λ (ts : List Term). Numbers formula ts own root) none n.is) answer h)

pub fault_shown_as : (l : Language) (lemmas : List Derivation) (theorems : Theorems) → AreTheorems l lemmas theorems → (formula : Formula) (block : Derivation) (old own : List Term) (root : ℕ) (fault : CheckFault) (is : JudgeFault) → is ≡ fault_of fault → old ≡ [] → Numbered formula old own root
    → IsAnswer l theorems own root block (Err fault) → Shows l lemmas formula block (Err is)
fault_shown_as l lemmas theorems are formula block old own root fault is same none n h =
    subst (λ (e : JudgeFault). Shows l lemmas formula block (Err e)) (sym same)
    (shown_fault l lemmas theorems are formula block own root (subst (λ (ts : List Term). Numbers formula ts own root) none n.is) fault h)

-- where memory is refused nothing is shown
pub refused_shows : (l : Language) (lemmas : List Derivation) (formula : Formula) (block : Derivation) (result : Result Bool JudgeFault) → result ≡ Err f.OutOfMemory → Shows l lemmas formula block result
refused_shows l lemmas formula block result e = subst (λ (r : Result Bool JudgeFault). Shows l lemmas formula block r) (sym e) tt

-- ---- the room

no_sort : (sorts : List (Option Sort)) (id : ℕ) (sort : Option Sort) → sorts ≡ [] → slice_get sorts id ≡ Some sort → ⊥
no_sort [] id sort none at = cc
no_sort (s ∷ ss) id sort none at = cc

-- a space without sorts knows those of every language
pub fresh_sorts : (l : Language) (space : Space) → space.sorts ≡ [] → KnowsSorts l space
fresh_sorts l space none = record { each = λ id sort at. absurd (no_sort space.sorts id sort none at) }

pub room_ready : (theory : Theory) (lemmas : List Derivation) (room : Room) → IsTheory theory (language_of theory.program.now) → KnowsSorts (language_of theory.program.now) room.space
    → IsLemmasAnswer (language_of theory.program.now) lemmas room.space (Ok room.lemmas) → IsReady theory lemmas room
room_ready theory lemmas room is sorts holds = record { is = is; sorts = sorts; holds = holds }

-- the lemmas before the first that can't be judged
stops_exactly : (l : Language) (lemmas : List Derivation) (fault : CheckFault) → StopsLemmas (IsJudgedTo l) l lemmas fault → StopsLemmas (GivesTheorem l) l lemmas fault
stops_exactly l lemmas fault k = record {
  place = k.place;
  lemma = k.lemma;
  at = k.at;
  theorems = k.theorems;
  before = judged_are_theorems l _ k.theorems k.before;
  why = k.why;
}

unready_as : (theory : Theory) (lemmas : List Derivation) (space : Space) (fault : CheckFault) → IsLemmasAnswer (language_of theory.program.now) lemmas space (Err fault) → MakesReady theory lemmas (Err (fault_of fault))
unready_as theory lemmas space (check.Wide w) (inl stops) = stops_exactly (language_of theory.program.now) lemmas (check.Wide w) stops
unready_as theory lemmas space (check.Wide w) (inr e) = absurd (cc)
unready_as theory lemmas space check.Limit (inl stops) = stops_exactly (language_of theory.program.now) lemmas check.Limit stops
unready_as theory lemmas space check.Limit (inr e) = absurd (cc)
unready_as theory lemmas space check.OutOfMemory h = tt

pub room_unready : (theory : Theory) (lemmas : List Derivation) (space : Space) (fault : CheckFault) (is : JudgeFault) → is ≡ fault_of fault → IsLemmasAnswer (language_of theory.program.now) lemmas space (Err fault) → MakesReady theory lemmas (Err is)
room_unready theory lemmas space fault is same h = subst (λ (e : JudgeFault). MakesReady theory lemmas (Err e)) (sym same) (unready_as theory lemmas space fault h)

-- what is ready stays so where the space is as before
pub stays_ready : (theory : Theory) (lemmas : List Derivation) (old new : Room) → new.space.graph ≡ old.space.graph → new.lemmas ≡ old.lemmas → KnowsSorts (language_of theory.program.now) new.space → IsReady theory lemmas old → IsReady theory lemmas new
stays_ready theory lemmas old new graph held sorts k = record {
  is = k.is;
  sorts = sorts;
  holds = subst (λ (ts : List Term). HoldsTheorems (language_of theory.program.now) lemmas ts new.lemmas) (sym graph)
      (subst (λ (h : Lemmas). HoldsTheorems (language_of theory.program.now) lemmas old.space.graph h) (sym held) k.holds);
}
