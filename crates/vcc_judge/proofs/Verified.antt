-- Between the answer and what follows.
use Rattle.std.proofs.Common.{◌≡◌, ◌⊎◌, inl, inr, List, [], ◌∷◌, length, Some, None, Result, Ok, Err, refl, subst, arith}
use Rattle.method.specs.declared.program.Program.{Program}
use Rattle.method.specs.Labels.{ProgramLabel, program_labels}
use Rattle.terms.specs.Formula.{Formula}
use Rattle.term_meaning.specs.Meaning.{Language, IsFaithful}
use Rattle.term_meaning.specs.Filling.{IsLayered}
use Rattle.cert_format.specs.Derivations.{Derivation}
use Rattle.conditions.specs.Conditions.{Condition, formulas, label_formulas, conditions}
use Rattle.condition_walks.proofs.LabelSizes.{one_condition_per_label}
use Rattle.condition_meaning.specs.Languages.{language_of}
use Rattle.condition_meaning.specs.Promises.{AllValid, ConditionsAreValid}
use Rattle.refutation_check.specs.Follows.{Follows}
use Rattle.refutation_check.proofs.Sound.{follows_valid}
use Rattle.vcc_judge.specs.declared.verdict.Verdict.{Verdict}
use Rattle.vcc_judge.specs.declared.verdict.Verdict.TheVariants.{Yes, No}
use Rattle.vcc_judge.specs.declared.verdict.JudgeFault.{JudgeFault}
use Rattle.vcc_judge.specs.declared.verdict.JudgeFault.TheVariants as f
use Rattle.vcc_judge.specs.Verdicts.{AllFollow, LemmasFit, Stops, StopsAtLemma, Decides, IsJudged, IsVerified}
use Rattle.vcc_judge.specs.Laws.{VerifiedGetsYes, YesIsVerified}
use Rattle.rule_layouts.proofs.Once.{never_leaves}
use Rattle.rule_layouts.proofs.OneList.{follows_refutes}

-- ---- yes

all_follow : (l : Language) (lemmas : List Derivation) (cs : List Condition) (bs : List Derivation) → Decides l lemmas cs bs (Ok Yes) → AllFollow l lemmas cs bs
all_follow l lemmas [] [] h = tt
all_follow l lemmas [] (b ∷ bs) h = absurd h
all_follow l lemmas (c ∷ cs) [] h = absurd h
all_follow l lemmas (c ∷ cs) (b ∷ bs) (inl (follows, rest)) = (follows, all_follow l lemmas cs bs rest)
all_follow l lemmas (c ∷ cs) (b ∷ bs) (inr stops) = absurd stops

pub yes_is_verified : YesIsVerified
yes_is_verified p lemmas blocks (inl h) = absurd h
yes_is_verified p lemmas blocks (inr (inl h)) = all_follow (language_of p) lemmas (conditions p) blocks h
yes_is_verified p lemmas blocks (inr (inr e)) = cc

-- ---- where all conditions follow

only_terms : (l : Language) (lemmas : List Derivation) (c : Condition) (b : Derivation) (result : Result Verdict JudgeFault) → Follows l lemmas c.formula b → Stops l lemmas c b result → result ≡ Err f.Terms
only_terms l lemmas c b (Ok Yes) k stops = absurd stops
only_terms l lemmas c b (Ok (No label)) k stops = absurd (stops.1 k)
only_terms l lemmas c b (Err (f.Wide w)) k stops =
    absurd (never_leaves l stops.theorems stops.own (Some stops.root) b [] (follows_refutes l lemmas stops.theorems c.formula b stops.own stops.root stops.are k stops.numbered) w stops.leaves)
only_terms l lemmas c b (Err f.Terms) k stops = refl
only_terms l lemmas c b (Err f.OutOfMemory) k stops = absurd stops

gets_yes : (l : Language) (lemmas : List Derivation) (cs : List Condition) (bs : List Derivation) (result : Result Verdict JudgeFault) → AllFollow l lemmas cs bs → Decides l lemmas cs bs result → (result ≡ Ok Yes) ⊎ (result ≡ Err f.Terms)
gets_yes l lemmas [] [] result all h = inl h
gets_yes l lemmas [] (b ∷ bs) result all h = absurd h
gets_yes l lemmas (c ∷ cs) [] result all h = absurd h
gets_yes l lemmas (c ∷ cs) (b ∷ bs) result all (inl (follows, rest)) = gets_yes l lemmas cs bs result all.1 rest
gets_yes l lemmas (c ∷ cs) (b ∷ bs) result all (inr stops) = inr (only_terms l lemmas c b result all.0 stops)

or_memory : (result : Result Verdict JudgeFault) → (result ≡ Ok Yes) ⊎ (result ≡ Err f.Terms) → (result ≡ Ok Yes) ⊎ (result ≡ Err f.Terms) ⊎ (result ≡ Err f.OutOfMemory)
or_memory result (inl all) = inl all
or_memory result (inr many) = inr (inl many)

-- a lemma stops the judging of lemmas that fit only where too many terms are needed
at_lemma : (l : Language) (lemmas : List Derivation) (result : Result Verdict JudgeFault) → LemmasFit l lemmas → StopsAtLemma l lemmas result → result ≡ Err f.Terms
at_lemma l lemmas (Ok verdict) fits stops = absurd stops
at_lemma l lemmas (Err (f.Wide w)) fits stops = absurd (fits w stops)
at_lemma l lemmas (Err f.Terms) fits stops = refl
at_lemma l lemmas (Err f.OutOfMemory) fits stops = absurd stops

pub verified_gets_yes : VerifiedGetsYes
verified_gets_yes p lemmas blocks result fits all (inl stops) = inr (inl (at_lemma (language_of p) lemmas result fits stops))
verified_gets_yes p lemmas blocks result fits all (inr (inl h)) = or_memory result (gets_yes (language_of p) lemmas (conditions p) blocks result all h)
verified_gets_yes p lemmas blocks result fits all (inr (inr e)) = inr (inr e)

-- ---- validity

all_valid : (l : Language) → IsLayered l → IsFaithful l → (lemmas : List Derivation) (ls : List ProgramLabel) (fs : List Formula) (bs : List Derivation) → length fs ≡ length ls → AllFollow l lemmas (label_formulas ls fs) bs → AllValid l fs
all_valid l layered faithful lemmas ls [] bs long all = tt
all_valid l layered faithful lemmas [] (f ∷ fs) bs long all = absurd (omega (arith, long))
all_valid l layered faithful lemmas (x ∷ ls) (f ∷ fs) [] long all = absurd all
all_valid l layered faithful lemmas (x ∷ ls) (f ∷ fs) (b ∷ bs) long all =
    (follows_valid l lemmas f b all.0 layered faithful, all_valid l layered faithful lemmas ls fs bs (omega (arith, long)) all.1)

pub valid_of : (p : Program) (lemmas blocks : List Derivation) (result : Result Verdict JudgeFault) → IsJudged p lemmas blocks result → IsLayered (language_of p) → IsFaithful (language_of p) → result ≡ Ok Yes → ConditionsAreValid p
valid_of p lemmas blocks result judged layered faithful is =
    let all : IsVerified p lemmas blocks = yes_is_verified p lemmas blocks (subst (λ (r : Result Verdict JudgeFault). IsJudged p lemmas blocks r) is judged) in
    all_valid (language_of p) layered faithful lemmas (program_labels p) (formulas p) blocks (one_condition_per_label p) all

-- without lemmas none leaves 128 bits
pub none_fit : (l : Language) → LemmasFit l []
none_fit l w stops = let none : None ≡ Some stops.lemma = stops.at in cc
