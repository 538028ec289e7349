-- What is laid out behind a step more, and of a whole block.
use Rattle.std.proofs.Common.{◌≡◌, ◌⊎◌, inl, inr, ℕ, ℤ, zero, suc, ◌+◌, ◌-◌, ◌<◌, ◌≤◌, List, [], ◌∷◌, ◌++◌, map, length, take, drop, All, Option, Some, None, slice_get, get_or, option_map, option_and_then, Bool, true, false, refl, ap, sym, ◌∙◌, subst, arith, length-append}
use Rattle.std.proofs.lemmas.Option.{slice_get_within}
use Rattle.terms.specs.declared.term.Term.{Term}
use Rattle.terms.specs.declared.term.Literal.{Literal}
use Rattle.terms.specs.Formula.{Formula}
use Rattle.term_graph.specs.Graph.{IsGraph}
use Rattle.term_meaning.specs.Meaning.{Language}
use Rattle.axiom_steps.specs.Steps.{instance_at}
use Rattle.condition_formulas.specs.Standing.{StandsAs, StandAll, Later}
use Rattle.condition_formulas.proofs.Rows.{all_later, as_long}
use Rattle.term_language.specs.declared.language.Language.{Language as Code}
use Rattle.term_language.specs.Languages.{IsLanguage}
use Rattle.cert_format.specs.Derivations.{Derivation}
use Rattle.cert_format.specs.declared.certificate.RuleName.{RuleName}
use Rattle.cert_format.specs.declared.certificate.RuleName.TheVariants as r
use Rattle.cert_format.specs.declared.certificate.Step.{Step}
use Rattle.block_layout.specs.declared.space.Space.{Space}
use Rattle.block_layout.specs.declared.space.Theory.{Theory}
use Rattle.block_layout.specs.declared.loaded.Loaded.{Loaded}
use Rattle.block_layout.specs.declared.loaded.LoadedStep.{LoadedStep}
use Rattle.block_layout.specs.declared.loaded.Stop.{Stop}
use Rattle.block_layout.specs.declared.loaded.Stop.TheVariants as s
use Rattle.block_layout.specs.Space.{Keeps, StaysSorted, Sorts, IsSorted, KnowsSorts, IsTheory}
use Rattle.block_layout.specs.Trees.{Grow, tree_over, sorted_tree, AreTrees, IsFirstBad}
use Rattle.block_layout.specs.Layout.{IsLaid, IsLayout, IsNode, NamesTerms, clause_in, clause_over, instance_in, instance_of, if_axiom, truth_value, but_last, numbers_over, node_of}
use Rattle.block_layout.specs.Loading.{Shown, PutsOwn, PutsAdded, AddedTo, PutsTerms, TermsTo, BlockShown, IsWithinLimit, IsPastLimit, StepsFront, StepsLaid, StepsTo, PutsSteps, PutsBehind, AreOver, LoadsSteps, IsUnnamed, AreLaid, IsLoaded, IsLoadedTo, laid_in}
use Rattle.block_layout.proofs.Lists.{take_long, take_all, take_next, get_more, map_more}

-- ---- a step's instance

but_last_is : {X : Type 0} (xs : List X) (x : X) → but_last (xs ++ x ∷ []) ≡ Some xs
but_last_is [] x = refl
but_last_is (y ∷ []) x = refl
but_last_is (y ∷ z ∷ xs) x = ap (λ o. option_map (λ more. y ∷ more) o) (but_last_is (z ∷ xs) x)

pub instance_is : (l : Language) (trees : List Formula) (step : Step) (n p t : ℤ) (rest args : List ℤ) → step.rule ≡ r.Axiom → step.numbers ≡ n ∷ p ∷ rest → rest ≡ args ++ t ∷ [] → instance_in l trees step ≡ option_and_then (truth_value l) (instance_at l (slice_get trees) n p args)
instance_is l trees step n p t rest args rule numbers last =
    ap (λ k. if_axiom k (option_and_then (truth_value l) (instance_of l trees step.numbers))) rule
    ∙ ap (λ ns. option_and_then (truth_value l) (instance_of l trees ns)) numbers
    ∙ ap (λ o. option_and_then (truth_value l) (option_and_then (instance_at l (slice_get trees) n p) o)) (ap but_last last ∙ but_last_is args t)

pub two_first : (xs : List ℤ) (d : ℤ) → 2 ≤ length xs → xs ≡ get_or xs 0 d ∷ get_or xs 1 d ∷ drop 2 xs
two_first [] d h = absurd (omega (arith, h))
two_first (x ∷ []) d h = absurd (omega (arith, h))
two_first (x ∷ y ∷ xs) d h = refl

pub rest_whole : (xs : List ℤ) → 2 ≤ length xs → take (length xs - 2) (drop 2 xs) ≡ drop 2 xs
rest_whole [] h = absurd (omega (arith, h))
rest_whole (x ∷ []) h = absurd (omega (arith, h))
rest_whole (x ∷ y ∷ xs) h = take_all xs (length (x ∷ y ∷ xs) - 2) (omega arith)

-- ---- a step more

node_later : (old new : List Term) (o : Option Formula) (id : Option ℕ) → Later old new → IsNode old o id → IsNode new o id
node_later old new o None later n = n
node_later old new o (Some i) later (f, is, stands) = (f, is, later i f stands)

laid_later : {l : Language} {trees : List Formula} {old new : List Term} {names : List ℕ} {step : Step} {x : LoadedStep} → Later old new → IsLaid l trees old names step x → IsLaid l trees new names step x
laid_later {l} {trees} {old} {new} {names} {step} {x} later k = record { rule = k.rule; numbers = k.numbers; instance = node_later old new (instance_in l trees step) x.instance later k.instance }

pub steps_later : {l : Language} {trees : List Formula} {names : List ℕ} {steps : List Step} {old new : Space} {laid : List LoadedStep} {clauses : List (List Literal)} → Later old.graph new.graph → StepsLaid l trees names steps old laid clauses → StepsLaid l trees names steps new laid clauses
steps_later later k = record { count = k.count; each = λ i step x h g. laid_later later (k.each i step x h g); clauses_are = k.clauses_are; named = k.named }

laid_more : (l : Language) (trees : List Formula) (names : List ℕ) (front : List Step) (step : Step) (old new : Space) (laid : List LoadedStep) (x : LoadedStep) (clauses : List (List Literal)) (c : List Literal) → Later old.graph new.graph →
    IsLaid l trees new.graph names step x → c ≡ clause_in names step → NamesTerms (length trees) step.clause →
    StepsLaid l trees names front old laid clauses → StepsLaid l trees names (front ++ step ∷ []) new (laid ++ x ∷ []) (clauses ++ c ∷ [])
laid_more l trees names front step old new laid x clauses c later here given within k = record {
  count = (let e : length laid ≡ length front = k.count in omega (arith, e, length-append laid (x ∷ []), length-append front (step ∷ [])));
  each = λ i s y h g. at_place i s y (get_more front step i s h) (get_more laid x i y g);
  clauses_are = ap (λ cs. cs ++ c ∷ []) k.clauses_are ∙ ap (λ d. map (clause_in names) front ++ d ∷ []) given ∙ sym (map_more (clause_in names) front step);
  named = λ i s h. elim (get_more front step i s h) [ inl a ↦ k.named i s a | inr a ↦ subst (λ (y : Step). NamesTerms (length trees) y.clause) (sym a.1) within ];
}
  where
    at_place : (i : ℕ) (s : Step) (y : LoadedStep) → (slice_get front i ≡ Some s) ⊎ ((i ≡ length front) × (s ≡ step)) → (slice_get laid i ≡ Some y) ⊎ ((i ≡ length laid) × (y ≡ x)) → IsLaid l trees new.graph names s y
    at_place i s y (inl a) (inl b) = laid_later later (k.each i s y a b)
    at_place i s y (inl a) (inr b) = absurd (omega (arith, slice_get_within front i s a, b.0, k.count))
    at_place i s y (inr a) (inl b) = absurd (omega (arith, slice_get_within laid i y b, a.0, k.count))
    at_place i s y (inr a) (inr b) =
        subst (λ (z : LoadedStep). IsLaid l trees new.graph names s z) (sym b.1) (subst (λ (z : Step). IsLaid l trees new.graph names z x) (sym a.1) here)

-- what putting a step's instance answers
abbrev pub PutsInstance : Theory → List ℕ → Step → Space → Space → Option ℕ → Type 0
PutsInstance theory names step old new id = (l : Language) (trees : List Formula) → IsTheory theory l → IsSorted l old → StandAll old.graph names trees → IsNode new.graph (instance_in l trees step) id

pub steps_first : (theory : Theory) (names : List ℕ) (steps : List Step) (space : Space) (laid : List LoadedStep) (clauses : List (List Literal)) → laid ≡ [] → clauses ≡ [] → StepsFront theory names steps 0 space space laid clauses
steps_first theory names steps space laid clauses e d = record {
  each = λ l trees t s all. record { count = ap length e; each = λ i step x h g. (let n : None ≡ Some step = h in cc); clauses_are = d; named = λ i step h. (let n : None ≡ Some step = h in cc) };
}

pub steps_next : (theory : Theory) (names : List ℕ) (steps : List Step) (i : ℕ) (step : Step) (first old new : Space) (laid : List LoadedStep) (x : LoadedStep) (clauses : List (List Literal)) (c : List Literal) → slice_get steps i ≡ Some step →
    Keeps theory.language.now first old → StaysSorted theory.language.now first old → Keeps theory.language.now old new → PutsInstance theory names step old new x.instance →
    x.rule ≡ step.rule → x.numbers ≡ numbers_over names step.rule step.numbers → c ≡ clause_over names step.clause → NamesTerms (length names) step.clause →
    StepsFront theory names steps i first old laid clauses → StepsFront theory names steps (i + 1) first new (laid ++ x ∷ []) (clauses ++ c ∷ [])
steps_next theory names steps i step first old new laid x clauses c at before sorted kept puts rule numbers given within front = record {
  each = λ l trees t s all.
      let there : StandAll old.graph names trees = all_later before.later all in
      let node = puts l trees t (sorted.sorted l t.language s) there in
      subst (λ (ss : List Step). StepsLaid l trees names ss new (laid ++ x ∷ []) (clauses ++ c ∷ [])) (sym (take_next steps i step at))
      (laid_more l trees names (take i steps) step old new laid x clauses c kept.later (record { rule = rule; numbers = numbers; instance = node }) given
      (subst (λ n. NamesTerms n step.clause) (as_long all) within) (front.each l trees t s all));
}

pub all_steps : (theory : Theory) (names : List ℕ) (steps : List Step) (i : ℕ) (first new : Space) (laid : List LoadedStep) (clauses : List (List Literal)) → length steps ≤ i → IsWithinLimit new → StepsFront theory names steps i first new laid clauses → PutsSteps theory names steps first new laid clauses None
all_steps theory names steps i first new laid clauses h few front = record {
  each = λ l trees t s all. (subst (λ (ss : List Step). StepsLaid l trees names ss new laid clauses) (take_all steps i h) (front.each l trees t s all), few);
}

pub steps_past : (theory : Theory) (names : List ℕ) (steps : List Step) (i : ℕ) (first old new : Space) (laid : List LoadedStep) (clauses : List (List Literal)) → Keeps theory.language.now old new → IsPastLimit new → StepsFront theory names steps i first old laid clauses → PutsSteps theory names steps first new laid clauses (Some (s.LimitAt i))
steps_past theory names steps i first old new laid clauses kept past front = record { each = λ l trees t s all. (steps_later kept.later (front.each l trees t s all), past) }

pub steps_unnamed : (theory : Theory) (names : List ℕ) (steps : List Step) (i : ℕ) (step : Step) (first old new : Space) (laid : List LoadedStep) (clauses : List (List Literal)) → slice_get steps i ≡ Some step → (NamesTerms (length names) step.clause → ⊥) → Keeps theory.language.now old new → IsWithinLimit new
    → StepsFront theory names steps i first old laid clauses → PutsSteps theory names steps first new laid clauses (Some (s.UnnamedAt i))
steps_unnamed theory names steps i step first old new laid clauses at not_named kept few front = record {
  each = λ l trees t s all. (
    steps_later kept.later (front.each l trees t s all),
    record { step = step; at = at; unnamed = λ h. not_named (subst (λ n. NamesTerms n step.clause) (sym (as_long all)) h) },
    few,
  );
}

-- ---- the block's terms

put_to : (l : Language) (own added : List Term) (first : List Formula) (space : Space) (names : List ℕ) (stop : Option Stop) → Grow tree_over [] own first → AddedTo l first added space names stop → TermsTo l own added space names stop
put_to l own added first space names None g k = record { trees = k.trees; good = record { first = first; own_trees = g; added_trees = k.grown }; shown = k.shown; few = k.few }
put_to l own added first space names (Some (s.BadTerm i)) g k = record { before = k.before; good = record { first = first; own_trees = g; added_trees = k.good }; bad = k.bad; at = k.at; no_tree = k.no_tree }
put_to l own added first space names (Some s.Limit) g k = k
put_to l own added first space names (Some (s.LimitAt i)) g k = absurd k
put_to l own added first space names (Some (s.UnnamedAt i)) g k = absurd k

pub terms_put : (code : Code) (own added : List Term) (old mid new : Space) (before names : List ℕ) (stop : Option Stop) → StaysSorted code old mid → PutsOwn own mid before true → PutsAdded code added mid before new names stop → PutsTerms code own added old new names stop
terms_put code own added old mid new before names stop sorted k puts = record {
  each = λ l is s. put_to l own added k.trees new names stop k.grown (puts.each l k.trees is (sorted.sorted l is s) k.shown);
}

pub terms_past : (code : Code) (own added : List Term) (old new : Space) (names : List ℕ) → IsPastLimit new → PutsTerms code own added old new names (Some s.Limit)
terms_past code own added old new names past = record { each = λ l is s. past }

-- ---- the whole block

-- the loaded block has this root, these steps and these clauses
pub record Holds (loaded : Loaded) (root : Option ℕ) (steps : List LoadedStep) (clauses : List (List Literal)) : Type 0 where
  pub root_is : loaded.clauses.root ≡ root
  pub steps_are : loaded.steps.items ≡ steps
  pub clauses_are : loaded.clauses.list.items ≡ clauses

are_laid : (l : Language) (own : List Term) (root : Option ℕ) (block : Derivation) (names : List ℕ) (space : Space) (loaded : Loaded) (laid : List LoadedStep) (clauses : List (List Literal)) (count : ℕ) (trees : List Formula) → AreTrees l own block.terms trees → StandAll space.graph names trees → IsGraph space.graph → IsSorted l space →
    Holds loaded (option_map (node_of names) root) laid clauses → StepsLaid l trees names (take count block.steps) space laid clauses → AreLaid l own root block space loaded count
are_laid l own root block names space loaded laid clauses count trees good shown graph sorted holds k = record {
  trees = trees;
  good = good;
  layout = record {
    graph = graph;
    sorts = sorted;
    names = names;
    shown = shown;
    root_is = holds.root_is;
    count = ap length holds.steps_are ∙ k.count;
    each = λ i step x h g. k.each i step x h (sym (ap (λ (xs : List LoadedStep). slice_get xs i) holds.steps_are) ∙ g);
    clauses = holds.clauses_are ∙ k.clauses_are;
    named = k.named;
  };
}

loaded_to : (l : Language) (own : List Term) (root : Option ℕ) (block : Derivation) (names : List ℕ) (space : Space) (loaded : Loaded) (laid : List LoadedStep) (clauses : List (List Literal)) (trees : List Formula) (stop : Option Stop) → AreTrees l own block.terms trees → StandAll space.graph names trees → IsGraph space.graph → IsSorted l space →
    Holds loaded (option_map (node_of names) root) laid clauses → StepsTo l trees names block.steps space laid clauses stop → IsLoadedTo l own root block space loaded stop
unfolding are_laid
loaded_to l own root block names space loaded laid clauses trees None good shown graph sorted holds k = (
  are_laid l own root block names space loaded laid clauses (length block.steps) trees good shown graph sorted holds
      (subst (λ (ss : List Step). StepsLaid l trees names ss space laid clauses) (sym (take_all block.steps (length block.steps) (omega arith))) k.0),
  k.1,
)
loaded_to l own root block names space loaded laid clauses trees (Some (s.BadTerm i)) good shown graph sorted holds k = absurd k
loaded_to l own root block names space loaded laid clauses trees (Some s.Limit) good shown graph sorted holds k = absurd k
loaded_to l own root block names space loaded laid clauses trees (Some (s.LimitAt i)) good shown graph sorted holds k =
    (are_laid l own root block names space loaded laid clauses i trees good shown graph sorted holds k.0, k.1)
loaded_to l own root block names space loaded laid clauses trees (Some (s.UnnamedAt i)) good shown graph sorted holds k =
    (are_laid l own root block names space loaded laid clauses i trees good shown graph sorted holds k.0, k.1, k.2)

over_to : (l : Language) (trees : List Formula) (names : List ℕ) (steps : List Step) (space : Space) (laid : List LoadedStep) (clauses : List (List Literal)) (stop : Option Stop) → StepsTo l trees names steps space laid clauses stop → AreOver names (length trees) steps clauses
over_to l trees names steps space laid clauses None k =
    let whole : take (length steps) steps ≡ steps = take_all steps (length steps) (omega arith) in
    record {
      many = length steps;
      are = k.0.clauses_are ∙ ap (map (clause_in names)) (sym whole);
      named = λ i step h. k.0.named i step (ap (λ (ss : List Step). slice_get ss i) (sym whole) ∙ h);
    }
over_to l trees names steps space laid clauses (Some (s.BadTerm i)) k = absurd k
over_to l trees names steps space laid clauses (Some s.Limit) k = absurd k
over_to l trees names steps space laid clauses (Some (s.LimitAt i)) k = record { many = i; are = k.0.clauses_are; named = k.0.named }
over_to l trees names steps space laid clauses (Some (s.UnnamedAt i)) k = record { many = i; are = k.0.clauses_are; named = k.0.named }

pub steps_loaded : (theory : Theory) (names : List ℕ) (root : Option ℕ) (steps : List Step) (old new : Space) (loaded : Loaded) (laid : List LoadedStep) (clauses : List (List Literal)) → Keeps theory.language.now old new → StaysSorted theory.language.now old new →
    PutsSteps theory names steps old new laid clauses loaded.stop → IsGraph new.graph → Holds loaded (option_map (node_of names) root) laid clauses → LoadsSteps theory names root steps old new loaded
steps_loaded theory names root steps old new loaded laid clauses kept stays puts graph holds = record {
  each = λ l own terms trees t sorted good shown.
      loaded_to l own root (record { terms = terms; steps = steps }) names new loaded laid clauses trees loaded.stop good (all_later kept.later shown) graph (stays.sorted l t.language sorted) holds
      (puts.each l trees t sorted shown);
  over = λ l trees t sorted shown. subst (λ (cs : List (List Literal)). AreOver names (length trees) steps cs) (sym holds.clauses_are) (over_to l trees names steps new laid clauses loaded.stop (puts.each l trees t sorted shown));
}

pub block_loaded : (theory : Theory) (own : List Term) (root : ℕ) (block : Derivation) (names : List ℕ) (old first mid new : Space) (loaded : Loaded) → Sorts theory.language.now old first → StaysSorted theory.language.now first mid →
    PutsTerms theory.language.now own block.terms first mid names None → LoadsSteps theory names (Some root) block.steps mid new loaded → (l : Language) → IsTheory theory l → KnowsSorts l old → IsLoaded l own (Some root) block new loaded
block_loaded theory own root block names old first mid new loaded begun sorted terms loads l t known =
    let first_sorted = begun.known l t.language known in
    let b = terms.each l t.language first_sorted in
    loads.each l own block.terms b.trees t (sorted.sorted l t.language first_sorted) b.good b.shown

stopped_to : (l : Language) (own : List Term) (root : Option ℕ) (block : Derivation) (names : List ℕ) (space : Space) (loaded : Loaded) (stop : Stop) → TermsTo l own block.terms space names (Some stop) → IsLoadedTo l own root block space loaded (Some stop)
stopped_to l own root block names space loaded (s.BadTerm i) k = k
stopped_to l own root block names space loaded s.Limit k = k
stopped_to l own root block names space loaded (s.LimitAt i) k = absurd k
stopped_to l own root block names space loaded (s.UnnamedAt i) k = absurd k

pub block_stopped : (theory : Theory) (own : List Term) (root : ℕ) (block : Derivation) (names : List ℕ) (old first new : Space) (loaded : Loaded) (stop : Stop) → loaded.stop ≡ Some stop → Sorts theory.language.now old first → PutsTerms theory.language.now own block.terms first new names (Some stop) →
    (l : Language) → IsTheory theory l → KnowsSorts l old → IsLoaded l own (Some root) block new loaded
block_stopped theory own root block names old first new loaded stop is begun terms l t known =
    subst (λ (o : Option Stop). IsLoadedTo l own (Some root) block new loaded o) (sym is)
    (stopped_to l own (Some root) block names new loaded stop (terms.each l t.language (begun.known l t.language known)))

-- ---- terms behind others

pub behind_limit : (code : Code) (added : List Term) (old new : Space) (before more : List ℕ) → IsPastLimit new → PutsBehind code added old before new more (Some s.Limit)
behind_limit code added old new before more past = record { each = λ l first is s all. past }

pub puts_behind : (code : Code) (added : List Term) (old first new : Space) (before more : List ℕ) (stop : Option Stop) → Keeps code old first → Sorts code old first → PutsAdded code added first before new more stop → PutsBehind code added old before new more stop
puts_behind code added old first new before more stop kept sorts puts = record {
  each = λ l trees is known all. puts.each l trees is (sorts.known l is known) (all_later kept.later all);
}
