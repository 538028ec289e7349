-- What the checker answers of lemmas.
use Rattle.std.proofs.Common.{◌≡◌, ◌⊎◌, inl, inr, ℕ, zero, suc, ◌+◌, ◌-◌, ◌<◌, ◌≤◌, List, [], ◌∷◌, ◌++◌, map, length, take, replicate, Option, Some, None, Result, Ok, Err, IfOk, OnOk, Bool, true, false, IsTrue, slice_get, refl, ap, sym, ◌∙◌, subst, arith, length-append}
use Rattle.std.proofs.lemmas.Option.{slice_get_within}
use Rattle.int_ranges.specs.declared.exact.Wide.{Wide}
use Rattle.terms.specs.declared.term.Term.{Term}
use Rattle.terms.specs.declared.term.Literal.{Literal}
use Rattle.terms.specs.Formula.{Formula}
use Rattle.term_meaning.specs.Meaning.{Language}
use Rattle.term_language.specs.declared.language.Language.{Language as Code}
use Rattle.condition_formulas.specs.Standing.{StandsAs, StandAll}
use Rattle.condition_formulas.proofs.Rows.{none as no_nodes}
use Rattle.cert_format.specs.Derivations.{Derivation}
use Rattle.cert_format.specs.declared.certificate.Step.{Step}
use Rattle.block_layout.specs.declared.loaded.Loaded.{Loaded}
use Rattle.block_layout.specs.declared.loaded.Stop.{Stop}
use Rattle.block_layout.specs.declared.loaded.Stop.TheVariants as s
use Rattle.block_layout.specs.declared.space.Space.{Space}
use Rattle.block_layout.specs.declared.space.Theory.{Theory}
use Rattle.block_layout.specs.Trees.{Grow, AreTrees, IsFirstBad, sorted_tree}
use Rattle.block_layout.specs.Layout.{NamesTerms, clause_in}
use Rattle.block_layout.specs.Loading.{AreLaid, AreOver, IfNone, IsBadBehind, IsLoadedTo, IsWithinLimit, LoadsSteps, PutsBehind, Shown, has_steps}
use Rattle.block_layout.specs.Space.{IsTheory, IsSomeTheory, IsSorted, Keeps, KnowsSorts, Sorts}
use Rattle.block_layout.proofs.Lists.{take_all, take_long, take_next}
use Rattle.refutation_check.specs.Theorems.{TreeClause, Theorems, ClauseIs, IsHeld, AreHeld}
use Rattle.refutation_check.specs.Follows.{Derives, EndsWith, HoldsTheorems, IsJudgedTo, AreJudgedTo, IsLemmasAnswer, LemmaFails, lemma_behind}
use Rattle.refutation_check.specs.Judging.{Concludes, IsConclusion, IsSomeLoaded, IsFirstFailure, IsConcluded, IsLast, Last, IsLastOf, IsLemmaEnding, IsSomeLemma, IsTaken, TakesTerms, TakesTo}
use Rattle.refutation_check.specs.declared.answer.CheckFault.{CheckFault}
use Rattle.refutation_check.specs.declared.answer.CheckFault.TheVariants as f
use Rattle.refutation_check.specs.declared.held.Lemmas.{Lemmas}
use Rattle.refutation_check.proofs.Within.{get_map}
use Rattle.refutation_check.proofs.Verdicts.{all_shown, clauses_long, failure_shown, leaves_shown, unnamed_shown}
use Rattle.refutation_check.proofs.Theorems.{begins_behind, clause_later, clause_of, held_both, held_later, held_long, none_held, none_more, none_of_none, one_more, terms_more, terms_of}

-- ---- the terms

pub takes_memory : (code : Code) (terms : List Term) (old new : Space) (names more : List ℕ) (result : Result Bool CheckFault) → result ≡ Err f.OutOfMemory → TakesTerms code terms old names new more result
takes_memory code terms old new names more result e = record { each = λ l first is known all. subst (λ (r : Result Bool CheckFault). TakesTo l first terms new more r) (sym e) tt }

pub takes_by : (code : Code) (terms : List Term) (old new : Space) (names more : List ℕ) (stop : Option Stop) (result : Result Bool CheckFault) → IsTaken stop result → PutsBehind code terms old names new more stop → TakesTerms code terms old names new more result
takes_by code terms old new names more None result e puts = record { each = λ l first is known all. subst (λ (r : Result Bool CheckFault). TakesTo l first terms new more r) (sym e) (puts.each l first is known all) }
takes_by code terms old new names more (Some (s.BadTerm k)) result e puts = record { each = λ l first is known all. subst (λ (r : Result Bool CheckFault). TakesTo l first terms new more r) (sym e) (k, puts.each l first is known all) }
takes_by code terms old new names more (Some s.Limit) result e puts = record { each = λ l first is known all. subst (λ (r : Result Bool CheckFault). TakesTo l first terms new more r) (sym e) tt }
takes_by code terms old new names more (Some (s.LimitAt i)) result e puts = record { each = λ l first is known all. subst (λ (r : Result Bool CheckFault). TakesTo l first terms new more r) (sym e) tt }
takes_by code terms old new names more (Some (s.UnnamedAt i)) result e puts = record { each = λ l first is known all. subst (λ (r : Result Bool CheckFault). TakesTo l first terms new more r) (sym e) tt }

-- where all are good there are few enough
pub few_by : (space : Space) (stop : Option Stop) (result : Result Bool CheckFault) → IsTaken stop result → IfNone (IsWithinLimit space) stop → IfOk result (λ good. IsTrue good → IsWithinLimit space)
few_by space None result e few = subst (λ (r : Result Bool CheckFault). IfOk r (λ good. IsTrue good → IsWithinLimit space)) (sym e) (λ so. few)
few_by space (Some (s.BadTerm k)) result e few = subst (λ (r : Result Bool CheckFault). IfOk r (λ good. IsTrue good → IsWithinLimit space)) (sym e) (λ so. absurd (cc))
few_by space (Some s.Limit) result e few = subst (λ (r : Result Bool CheckFault). IfOk r (λ good. IsTrue good → IsWithinLimit space)) (sym e) tt
few_by space (Some (s.LimitAt i)) result e few = subst (λ (r : Result Bool CheckFault). IfOk r (λ good. IsTrue good → IsWithinLimit space)) (sym e) tt
few_by space (Some (s.UnnamedAt i)) result e few = subst (λ (r : Result Bool CheckFault). IfOk r (λ good. IsTrue good → IsWithinLimit space)) (sym e) tt

pub whenever_ok : {X E : Type 0} (r : Result X E) (P : Type 0) → P → OnOk r P
whenever_ok (Ok x) P p = p
whenever_ok (Err e) P p = tt

-- ---- the steps

get_last : {X : Type 0} (xs : List X) (x : X) → slice_get (xs ++ x ∷ []) (length xs) ≡ Some x
get_last [] x = refl
get_last (y ∷ ys) x = get_last ys x

no_length : {X : Type 0} (xs : List X) → length xs ≡ 0 → xs ≡ []
no_length [] h = refl
no_length (x ∷ xs) h = absurd (omega (arith, h))

-- the last clause, where loading didn't stop at a step
pub last_none : (clauses : List (List Literal)) (stop : Option Stop) (o : Option (List Literal)) → stop ≡ None → IsLastOf clauses o → IsLemmaEnding clauses stop (Ok o)
last_none clauses stop o e is = subst (λ (x : Option Stop). IsLemmaEnding clauses x (Ok o)) (sym e) (Last o is refl)

pub last_bad : (clauses : List (List Literal)) (stop : Option Stop) (inner : Stop) (k : ℕ) (o : Option (List Literal)) → stop ≡ Some inner → inner ≡ s.BadTerm k → IsLastOf clauses o → IsLemmaEnding clauses stop (Ok o)
last_bad clauses stop inner k o e g is = subst (λ (x : Option Stop). IsLemmaEnding clauses x (Ok o)) (sym (e ∙ ap Some g)) (Last o is refl)

pub last_limit : (clauses : List (List Literal)) (stop : Option Stop) (inner : Stop) (o : Option (List Literal)) → stop ≡ Some inner → inner ≡ s.Limit → IsLastOf clauses o → IsLemmaEnding clauses stop (Ok o)
last_limit clauses stop inner o e g is = subst (λ (x : Option Stop). IsLemmaEnding clauses x (Ok o)) (sym (e ∙ ap Some g)) (Last o is refl)

-- some lemma is loaded
pub some_loaded : (theory : Theory) (names : List ℕ) (steps : List Step) (old new : Space) (loaded : Loaded) → IsSomeLemma theory names old → LoadsSteps theory names None steps old new loaded → IsSomeLoaded new loaded
some_loaded theory names steps old new loaded k loads = record {
  language = k.language;
  own = [];
  root = None;
  block = record { terms = k.terms; steps = steps };
  is = loads.each k.language [] k.terms k.trees k.is k.sorted k.good k.shown;
}

module _ (theory : Theory) (known : List (Option (List Literal))) (names : List ℕ) (steps : List Step) (old new : Space) (loaded : Loaded) (kept : Keeps theory.language.now old new) (loads : LoadsSteps theory names None steps old new loaded) (began : has_steps loaded.stop ≡ true) where
  module _ (l : Language) (theorems : Theorems) (terms : List Term) (trees : List Formula) (held : AreHeld old.graph known theorems) (shown : StandAll old.graph names trees) (over : AreOver names (length trees) steps loaded.clauses.list.items) (first : IsFirstFailure new known loaded (Ok None)) where
    -- the last clause
    derived : (last : List Literal) → IsLastOf loaded.clauses.list.items (Some last) → AreLaid l [] None (record { terms = terms; steps = steps }) new loaded (length steps) → length new.graph ≤ 1_048_576
        → (c : TreeClause) × ClauseIs old.graph last c × Derives l theorems [] None (record { terms = terms; steps = steps }) c
    derived last (before, whole) k few =
        let at : slice_get loaded.clauses.list.items (length before) ≡ Some last = ap (λ (cs : List (List Literal)). slice_get cs (length before)) whole ∙ get_last before last in
        let (step, there, same) = get_map (clause_in names) (take over.many steps) (length before) last (ap (λ (cs : List (List Literal)). slice_get cs (length before)) (sym over.are) ∙ at) in
        let (c, is) = clause_of old.graph names trees shown step.clause (over.named (length before) step there) in
        let here : ClauseIs old.graph last c = subst (λ (x : List Literal). ClauseIs old.graph x c) same is in
        let count : length loaded.clauses.list.items ≡ length before + 1 = ap length whole ∙ length-append before (last ∷ []) in (
          c,
          here,
          all_shown l theorems [] None (record { terms = terms; steps = steps }) new known loaded (held_later old.graph new.graph kept.later known theorems held) c first k few
              (length before, last, count, at, clause_later old.graph new.graph kept.later last c here),
        )

    no_steps : loaded.clauses.list.items ≡ [] → AreLaid l [] None (record { terms = terms; steps = steps }) new loaded (length steps) → steps ≡ []
    no_steps none k =
        let e : length loaded.clauses.list.items ≡ length (take (length steps) steps) = clauses_long l [] None (record { terms = terms; steps = steps }) new loaded (length steps) k in
        let g : length (take (length steps) steps) ≡ length steps = take_long steps (length steps) (omega arith) in
        let z : length loaded.clauses.list.items ≡ 0 = ap length none in
        no_length steps (omega (arith, e, g, z))

    last_shown : (o : Option (List Literal)) → IsLastOf loaded.clauses.list.items o → AreLaid l [] None (record { terms = terms; steps = steps }) new loaded (length steps) → length new.graph ≤ 1_048_576 → IsConclusion l theorems (record { terms = terms; steps = steps }) old.graph (Ok o)
    last_shown None is k few = inr (inr (no_steps is k))
    last_shown (Some last) is k few = derived last is k few

    ending_shown : (stop : Option Stop) (result : Result (Option (List Literal)) CheckFault) → has_steps stop ≡ true → IsLemmaEnding loaded.clauses.list.items stop result → IsLoadedTo l [] None (record { terms = terms; steps = steps }) new loaded stop
        → IsConclusion l theorems (record { terms = terms; steps = steps }) old.graph result
    ending_shown None result h (Last o is e) k = subst (λ (r : Result (Option (List Literal)) CheckFault). IsConclusion l theorems (record { terms = terms; steps = steps }) old.graph r) (sym e) (last_shown o is k.0 k.1)
    ending_shown (Some (s.BadTerm i)) result h e k = absurd (cc)
    ending_shown (Some s.Limit) result h e k = absurd (cc)
    ending_shown (Some (s.LimitAt i)) result h e k = subst (λ (r : Result (Option (List Literal)) CheckFault). IsConclusion l theorems (record { terms = terms; steps = steps }) old.graph r) (sym e) tt
    ending_shown (Some (s.UnnamedAt i)) result h e k =
        subst (λ (r : Result (Option (List Literal)) CheckFault). IsConclusion l theorems (record { terms = terms; steps = steps }) old.graph r) (sym e)
        (inr (inl (i, unnamed_shown l theorems [] None (record { terms = terms; steps = steps }) new known loaded (held_later old.graph new.graph kept.later known theorems held) i first k.0 k.1)))

  pub concludes_by : (failure : Result (Option ℕ) Wide) (result : Result (Option (List Literal)) CheckFault) → IsFirstFailure new known loaded failure → IsConcluded loaded.clauses.list.items loaded.stop failure result → Concludes theory known names steps old result
  concludes_by (Err w) result first e = record {
    each = λ l theorems terms trees t sorted held good shown.
        subst (λ (r : Result (Option (List Literal)) CheckFault). IsConclusion l theorems (record { terms = terms; steps = steps }) old.graph r) (sym e)
        (leaves_shown l theorems [] None (record { terms = terms; steps = steps }) new known loaded (held_later old.graph new.graph kept.later known theorems held) w began first (loads.each l [] terms trees t sorted good shown));
  }
  concludes_by (Ok (Some i)) result first e = record {
    each = λ l theorems terms trees t sorted held good shown.
        subst (λ (r : Result (Option (List Literal)) CheckFault). IsConclusion l theorems (record { terms = terms; steps = steps }) old.graph r) (sym e)
        (inr (inl (i, failure_shown l theorems [] None (record { terms = terms; steps = steps }) new known loaded (held_later old.graph new.graph kept.later known theorems held) i began first (loads.each l [] terms trees t sorted good shown))));
  }
  concludes_by (Ok None) result first e = record {
    each = λ l theorems terms trees t sorted held good shown.
        ending_shown l theorems terms trees held shown (loads.over l trees t sorted shown) first loaded.stop result began e (loads.each l [] terms trees t sorted good shown);
  }

pub concludes_memory : (theory : Theory) (known : List (Option (List Literal))) (names : List ℕ) (steps : List Step) (space : Space) (result : Result (Option (List Literal)) CheckFault) → result ≡ Err f.OutOfMemory → Concludes theory known names steps space result
concludes_memory theory known names steps space result e = record {
  each = λ l theorems terms trees t sorted held good shown. subst (λ (r : Result (Option (List Literal)) CheckFault). IsConclusion l theorems (record { terms = terms; steps = steps }) space.graph r) (sym e) tt;
}

-- what was released is as it was
pub released_keeps : (code : Code) (old mid new : Space) → Keeps code old mid → new.graph ≡ old.graph → ((l : Language) → KnowsSorts l mid → KnowsSorts l new) → Keeps code old new
released_keeps code old mid new kept same sorts = record {
  later = λ n f is. subst (λ (ts : List Term). StandsAs ts n f) (sym same) is;
  known = λ l is known. sorts l (kept.known l is known);
}

-- ---- one lemma after the other

-- What is known of some first lemmas: their trees stand at the names, and their theorems are held.
pub record LemmasShown (l : Language) (lemmas : List Derivation) (space : Space) (names : List ℕ) (known : List (Option (List Literal))) : Type 0 where
  pub trees : List Formula
  pub grown : Grow (sorted_tree l) [] (terms_of lemmas) trees
  pub shown : StandAll space.graph names trees
  pub theorems : Theorems
  pub judged : AreJudgedTo l lemmas theorems
  pub held : AreHeld space.graph known theorems

-- the same of the first lemmas, so many, in each language
pub record LemmasTo (theory : Theory) (lemmas : List Derivation) (i : ℕ) (first now : Space) (names : List ℕ) (known : List (Option (List Literal))) : Type 0 where
  pub each : (l : Language) → IsTheory theory l → KnowsSorts l first → LemmasShown l (take i lemmas) now names known

pub lemmas_begin : (theory : Theory) (lemmas : List Derivation) (space : Space) (names : List ℕ) (known : List (Option (List Literal))) → names ≡ [] → known ≡ [] → LemmasTo theory lemmas 0 space space names known
lemmas_begin theory lemmas space names known none nothing = record {
  each = λ l t sorts. record {
    trees = [];
    grown = refl;
    shown = subst (λ (ns : List ℕ). StandAll space.graph ns []) (sym none) no_nodes;
    theorems = [];
    judged = none_of_none (IsJudgedTo l);
    held = subst (λ (ks : List (Option (List Literal))). AreHeld space.graph ks []) (sym nothing) tt;
  };
}

grow_both : (tree : List Formula → Term → Option Formula) (first : List Formula) (ts us : List Term) (mid all : List Formula) → Grow tree first ts mid → Grow tree mid us all → Grow tree first (ts ++ us) all
grow_both tree first [] us mid all g h = subst (λ (fs : List Formula). Grow tree fs us all) g h
grow_both tree first (t ∷ ts) us mid all (f, p, g) h = (f, p, grow_both tree (first ++ f ∷ []) ts us mid all g h)

good_terms : (l : Language) (terms : List Term) (trees : List Formula) → Grow (sorted_tree l) [] terms trees → AreTrees l [] terms trees
good_terms l terms trees g = record { first = []; own_trees = refl; added_trees = g }

-- what a conclusion makes of a lemma
record Concluded (l : Language) (theorems : Theorems) (lemma : Derivation) (nodes : List Term) (o : Option (List Literal)) : Type 0 where
  theorem : Option TreeClause
  held : IsHeld nodes o theorem
  judged : IsJudgedTo l theorems lemma theorem

concluded : (l : Language) (theorems : Theorems) (lemma : Derivation) (nodes : List Term) (o : Option (List Literal)) → IsConclusion l theorems lemma nodes (Ok o) → Concluded l theorems lemma nodes o
concluded l theorems lemma nodes None fails = record { theorem = None; held = tt; judged = fails }
concluded l theorems lemma nodes (Some clause) (c, is, derives) = record { theorem = Some c; held = is; judged = derives }

-- a lemma whose terms are taken, behind some first lemmas
module _ (theory : Theory) (lemmas : List Derivation) (i : ℕ) (lemma : Derivation) (first old mid : Space) (names more : List ℕ) (known : List (Option (List Literal))) (at : slice_get lemmas i ≡ Some lemma)
    (kept : Keeps theory.language.now first old) (there : Keeps theory.language.now old mid) (k : LemmasTo theory lemmas i first old names known) (takes : TakesTerms theory.language.now lemma.terms old names mid more (Ok true)) where
  module _ (l : Language) (t : IsTheory theory l) (sorts : KnowsSorts l first) where
    before : LemmasShown l (take i lemmas) old names known
    before = k.each l t sorts

    taken : Shown (sorted_tree l) before.trees lemma.terms mid more
    taken = takes.each l before.trees t.language (kept.known l t.language sorts) before.shown

    all_grown : Grow (sorted_tree l) [] (terms_of (take i lemmas) ++ lemma.terms) taken.trees
    all_grown = grow_both (sorted_tree l) [] (terms_of (take i lemmas)) lemma.terms before.trees taken.trees before.grown taken.grown

  -- some lemma's terms have these names
  pub some_lemma : IsSomeTheory theory first → Sorts theory.language.now old mid → IsSomeLemma theory more mid
  some_lemma s sorts = record {
    language = s.language;
    is = s.is;
    sorted = sorts.known s.language s.is.language (kept.known s.language s.is.language s.sorts);
    terms = terms_of (take i lemmas) ++ lemma.terms;
    trees = (taken s.language s.is s.sorts).trees;
    good = good_terms s.language (terms_of (take i lemmas) ++ lemma.terms) (taken s.language s.is s.sorts).trees (all_grown s.language s.is s.sorts);
    shown = (taken s.language s.is s.sorts).shown;
  }

  module _ (sorted : Sorts theory.language.now old mid) where
    -- what its steps conclude
    conclusion : (l : Language) (t : IsTheory theory l) (sorts : KnowsSorts l first) (result : Result (Option (List Literal)) CheckFault) → Concludes theory known more lemma.steps mid result
        → IsConclusion l (before l t sorts).theorems (lemma_behind (take i lemmas) lemma) mid.graph result
    conclusion l t sorts result concludes =
        concludes.each l (before l t sorts).theorems (terms_of (take i lemmas) ++ lemma.terms) (taken l t sorts).trees t (sorted.known l t.language (kept.known l t.language sorts))
        (held_later old.graph mid.graph there.later known (before l t sorts).theorems (before l t sorts).held)
        (good_terms l (terms_of (take i lemmas) ++ lemma.terms) (taken l t sorts).trees (all_grown l t sorts)) (taken l t sorts).shown

    pub lemma_next : (new : Space) (o : Option (List Literal)) → new.graph ≡ mid.graph → Concludes theory known more lemma.steps mid (Ok o) → LemmasTo theory lemmas (i + 1) first new more (known ++ o ∷ [])
    lemma_next new o same concludes = record { each = λ l t sorts. next l t sorts }
      where
        next : (l : Language) → IsTheory theory l → KnowsSorts l first → LemmasShown l (take (i + 1) lemmas) new more (known ++ o ∷ [])
        next l t sorts =
            let b = before l t sorts in
            let n = taken l t sorts in
            let d = concluded l b.theorems (lemma_behind (take i lemmas) lemma) mid.graph o (conclusion l t sorts (Ok o) concludes) in
            let taken_more : take (i + 1) lemmas ≡ take i lemmas ++ lemma ∷ [] = take_next lemmas i lemma at in
            let held : AreHeld mid.graph (known ++ o ∷ []) (b.theorems ++ d.theorem ∷ []) = held_both mid.graph known (o ∷ []) b.theorems (d.theorem ∷ []) (held_later old.graph mid.graph there.later known b.theorems b.held) (d.held, tt) in
            record {
              trees = n.trees;
              grown = subst (λ (ts : List Term). Grow (sorted_tree l) [] ts n.trees) (sym (ap terms_of taken_more ∙ terms_more (take i lemmas) lemma)) (all_grown l t sorts);
              shown = subst (λ (ns : List Term). StandAll ns more n.trees) (sym same) n.shown;
              theorems = b.theorems ++ d.theorem ∷ [];
              judged = subst (λ (ds : List Derivation). AreJudgedTo l ds (b.theorems ++ d.theorem ∷ [])) (sym taken_more) (one_more (IsJudgedTo l) (take i lemmas) b.theorems lemma d.theorem b.judged d.judged);
              held = subst (λ (ns : List Term). AreHeld ns (known ++ o ∷ []) (b.theorems ++ d.theorem ∷ [])) (sym same) held;
            }

    -- the lemma can't be judged
    pub lemma_stops : (new : Space) (fault : CheckFault) → Concludes theory known more lemma.steps mid (Err fault) → (l : Language) → IsTheory theory l → KnowsSorts l first → IsLemmasAnswer l lemmas new (Err fault)
    lemma_stops new (f.Wide w) concludes l t sorts =
        inl (record { place = i; lemma = lemma; at = at; theorems = (before l t sorts).theorems; before = (before l t sorts).judged; why = conclusion l t sorts (Err (f.Wide w)) concludes })
    lemma_stops new f.Limit concludes l t sorts = inl (record { place = i; lemma = lemma; at = at; theorems = (before l t sorts).theorems; before = (before l t sorts).judged; why = tt })
    lemma_stops new f.OutOfMemory concludes l t sorts = inr refl

-- its terms can't be taken
pub terms_stop : (theory : Theory) (lemmas : List Derivation) (i : ℕ) (lemma : Derivation) (first old mid : Space) (names more : List ℕ) (known : List (Option (List Literal))) (fault : CheckFault) → slice_get lemmas i ≡ Some lemma → Keeps theory.language.now first old
    → LemmasTo theory lemmas i first old names known → TakesTerms theory.language.now lemma.terms old names mid more (Err fault) → (l : Language) → IsTheory theory l → KnowsSorts l first → IsLemmasAnswer l lemmas mid (Err fault)
terms_stop theory lemmas i lemma first old mid names more known (f.Wide w) at kept k takes l t sorts =
    let b = k.each l t sorts in
    absurd (takes.each l b.trees t.language (kept.known l t.language sorts) b.shown)
terms_stop theory lemmas i lemma first old mid names more known f.Limit at kept k takes l t sorts =
    let b = k.each l t sorts in
    inl (record { place = i; lemma = lemma; at = at; theorems = b.theorems; before = b.judged; why = tt })
terms_stop theory lemmas i lemma first old mid names more known f.OutOfMemory at kept k takes l t sorts = inr refl

-- ---- a bad term

take_into : {X : Type 0} (xs ys zs : List X) (k : ℕ) → k ≤ length ys → take (length xs + k) ((xs ++ ys) ++ zs) ≡ xs ++ take k ys
take_into [] ys zs k h = take_front k ys zs h
  where
    take_front : {X : Type 0} (n : ℕ) (as' bs : List X) → n ≤ length as' → take (0 + n) (as' ++ bs) ≡ take n as'
    take_front n as' bs g = ap (λ m. take m (as' ++ bs)) (zero_plus n) ∙ front n as' bs g
      where
        zero_plus : (m : ℕ) → 0 + m ≡ m
        zero_plus m = omega arith

        front : {X : Type 0} (m : ℕ) (cs ds : List X) → m ≤ length cs → take m (cs ++ ds) ≡ take m cs
        front zero cs ds e = refl
        front (suc m) [] ds e = absurd (omega (arith, e))
        front (suc m) (c ∷ cs) ds e = ap (λ ws. c ∷ ws) (front m cs ds (omega (arith, e)))
take_into (x ∷ xs) ys zs k h =
    let e : length (x ∷ xs) + k ≡ suc (length xs + k) = omega arith in
    ap (λ n. take n (((x ∷ xs) ++ ys) ++ zs)) e ∙ ap (λ ws. x ∷ ws) (take_into xs ys zs k h)

get_into : {X : Type 0} (xs ys zs : List X) (k : ℕ) (y : X) → slice_get ys k ≡ Some y → slice_get ((xs ++ ys) ++ zs) (length xs + k) ≡ Some y
get_into [] ys zs k y at =
    let e : 0 + k ≡ k = omega arith in
    ap (λ n. slice_get (ys ++ zs) n) e ∙ front ys zs k y at
  where
    front : {X : Type 0} (as' bs : List X) (n : ℕ) (a : X) → slice_get as' n ≡ Some a → slice_get (as' ++ bs) n ≡ Some a
    front [] bs n a h = cc
    front (c ∷ cs) bs zero a h = h
    front (c ∷ cs) bs (suc n) a h = front cs bs n a h
get_into (x ∷ xs) ys zs k y at =
    let e : length (x ∷ xs) + k ≡ suc (length xs + k) = omega arith in
    ap (λ n. slice_get (((x ∷ xs) ++ ys) ++ zs) n) e ∙ get_into xs ys zs k y at

-- it is the first bad one of every list that begins so
bad_first : (l : Language) (terms others rest : List Term) (trees : List Formula) (k : ℕ) → Grow (sorted_tree l) [] terms trees → IsBadBehind l trees others k → IsFirstBad l [] ((terms ++ others) ++ rest) (length terms + k)
bad_first l terms others rest trees k g b =
    let within : k < length others = slice_get_within others k b.bad b.at in
    record {
      before = b.before;
      good = good_terms l (take (length terms + k) ((terms ++ others) ++ rest)) b.before
          (subst (λ (ts : List Term). Grow (sorted_tree l) [] ts b.before) (sym (take_into terms others rest k (omega (arith, within)))) (grow_both (sorted_tree l) [] terms (take k others) trees b.before g b.good));
      bad = b.bad;
      at = get_into terms others rest k b.bad b.at;
      no_tree = b.no_tree;
    }

-- so its lemma and those behind it don't follow
pub bad_terms : (theory : Theory) (lemmas : List Derivation) (i : ℕ) (lemma : Derivation) (first old mid : Space) (names more : List ℕ) (known : List (Option (List Literal))) (all : Lemmas) → slice_get lemmas i ≡ Some lemma → Keeps theory.language.now first old → Keeps theory.language.now old mid
    → LemmasTo theory lemmas i first old names known → TakesTerms theory.language.now lemma.terms old names mid more (Ok false) → all.clauses.items ≡ known ++ replicate (length lemmas - length known) None
    → (l : Language) → IsTheory theory l → KnowsSorts l first → IsLemmasAnswer l lemmas mid (Ok all)
bad_terms theory lemmas i lemma first old mid names more known all at kept there k takes are l t sorts =
    let b = k.each l t sorts in
    let (place, bad) = takes.each l b.trees t.language (kept.known l t.language sorts) b.shown in
    let below : i < length lemmas = slice_get_within lemmas i lemma at in
    let long : length (take i lemmas) ≡ i = take_long lemmas i (omega (arith, below)) in
    let many : length known ≡ i = held_long old.graph known b.theorems b.held ∙ b.judged.count ∙ long in
    let n = length lemmas - length known in
    let sum : i + n ≡ length lemmas = omega (arith, below, many) in
    record {
      theorems = b.theorems ++ replicate n None;
      judged = none_more (IsJudgedTo l) lemmas i n b.theorems b.judged long sum
          (λ j a a_at behind ts.
          let (rest, e) = begins_behind lemmas i j lemma a at a_at behind in
          inl (length (terms_of (take i lemmas)) + place, subst (λ (us : List Term). IsFirstBad l [] us (length (terms_of (take i lemmas)) + place)) (sym e) (bad_first l (terms_of (take i lemmas)) lemma.terms rest b.trees place b.grown bad)));
      are_held = subst (λ (ks : List (Option (List Literal))). AreHeld mid.graph ks (b.theorems ++ replicate n None)) (sym are)
          (held_both mid.graph known (replicate n None) b.theorems (replicate n None) (held_later old.graph mid.graph there.later known b.theorems b.held) (none_held mid.graph n));
    }

-- ---- the end

pub lemmas_end : (theory : Theory) (lemmas : List Derivation) (i : ℕ) (first now : Space) (names : List ℕ) (held : Lemmas) → length lemmas ≤ i → LemmasTo theory lemmas i first now names held.clauses.items → (l : Language) → IsTheory theory l → KnowsSorts l first → IsLemmasAnswer l lemmas now (Ok held)
lemmas_end theory lemmas i first now names held h k l t sorts =
    let b = k.each l t sorts in
    record { theorems = b.theorems; judged = subst (λ (ds : List Derivation). AreJudgedTo l ds b.theorems) (take_all lemmas i h) b.judged; are_held = b.held }

pub lemmas_memory : (lemmas : List Derivation) (space : Space) (result : Result Lemmas CheckFault) (l : Language) → result ≡ Err f.OutOfMemory → IsLemmasAnswer l lemmas space result
lemmas_memory lemmas space result l e = subst (λ (r : Result Lemmas CheckFault). IsLemmasAnswer l lemmas space r) (sym e) (inr refl)
