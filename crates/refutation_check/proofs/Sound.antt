-- A condition that follows is true in every environment.
use Rattle.std.proofs.Common.{◌≡◌, ℕ, ℤ, zero, suc, ◌+◌, ◌<◌, List, [], ◌∷◌, map, take, length, Option, Some, None, slice_get, option_and_then, Bool, true, false, not, ◌||◌, if◌then◌else◌, refl, ap, sym, ◌∙◌, subst, arith}
use Rattle.std.proofs.lemmas.Option.{slice_get_within}
use borrow.Author.Count.{below_more}
use Rattle.terms.specs.declared.term.Term.{Term}
use Rattle.terms.specs.declared.term.Literal.{Literal}
use Rattle.terms.specs.declared.sort.Sort.{Sort}
use Rattle.terms.specs.Formula.{Formula, Numbers}
use Rattle.terms.proofs.Numbering.{numbers_stand}
use Rattle.term_bank.specs.Bank.{IsBank}
use Rattle.term_meaning.specs.Meaning.{Language, Env, IsEnv, Value, truth, IsValuation, IsFaithful, IsValid, IsAlwaysTrue, clause_true, literal_true, AllGive, AllHolds, InvHolds}
use Rattle.term_meaning.specs.Filling.{IsLayered, trees}
use Rattle.term_meaning.proofs.Valuations.{by_number, decide, trees as tree_value}
use Rattle.term_meaning.proofs.Values.{all_give_one}
use Rattle.axiom_instances.specs.Axioms.{instance}
use Rattle.axiom_instances.proofs.All.{axioms_are_true}
use Rattle.axiom_steps.specs.Steps.{instance_at, natural, naturals}
use Rattle.term_sorts.specs.Sorting.{AreSortsIn}
use Rattle.vcc_rules.specs.Law.{IsConsequence, AreSortsOf}
use Rattle.vcc_rules.specs.Sound.{root_sound, connective_sound, chain_sound}
use Rattle.rule_equality.specs.Sound.{refl_sound, sym_sound, trans_sound, congruence_sound}
use Rattle.rule_linear.specs.Sound.{linear_sound}
use Rattle.rule_linear.specs.CutSound.{cut_sound}
use Rattle.rule_linear.specs.SplitSound.{split_sound}
use Rattle.rule_maps.specs.Sound.{map_sound}
use Rattle.cert_format.specs.Derivations.{Derivation}
use Rattle.cert_format.specs.declared.certificate.RuleName.{RuleName}
use Rattle.cert_format.specs.declared.certificate.RuleName.TheVariants as r
use Rattle.cert_format.specs.declared.certificate.Step.{Step}
use Rattle.condition_formulas.specs.Standing.{StandsAs}
use Rattle.block_layout.specs.declared.loaded.LoadedStep.{LoadedStep}
use Rattle.block_layout.specs.Trees.{sorted_tree}
use Rattle.block_layout.specs.Layout.{Laid, IsLayout, IsNode, node_of, instance_in, instance_of, if_axiom, truth_value, is_truth, but_last}
use Rattle.block_layout.proofs.Lists.{below_gets, get_front, take_get}
use Rattle.block_layout.proofs.Named.{node_stands}
use Rattle.refutation_check.specs.Theorems.{TreeLiteral, TreeClause, Theorems, ClauseIs, IsLemma, IsValidClause, AreValid, clause_holds, literal_holds}
use Rattle.refutation_check.specs.Rows.{IsRow, IsAxiom, IsGivenAt}
use Rattle.refutation_check.specs.Follows.{Derives, Refutes, AreTheorems, FollowsIsValid, TheoremsAreValid, lemma_behind}
use Rattle.refutation_check.proofs.Own.{own_tree, grown_front}

-- ---- the sorts that rules hold

pub are_sorts : (l : Language) (nodes : List Term) (sorts : List (Option Sort)) → AreSortsIn l nodes sorts → AreSortsOf l nodes sorts
are_sorts l nodes sorts s = record {
  each = λ t y at. (let h = s.first.each t (Some y) at in (h.formula, h.stands.tree, sym h.is));
}

-- ---- an instance is true

and_then_some : {X Y : Type 0} (o : Option X) (f : X → Option Y) (y : Y) → option_and_then f o ≡ Some y → (x : X) × (o ≡ Some x) × (f x ≡ Some y)
and_then_some None f y h = cc
and_then_some (Some x) f y h = (x, refl, h)

chosen_true : (l : Language) (b : Bool) (f g : Formula) → (if b then Some f else None) ≡ Some g → f ≡ g
chosen_true l true f g h = cc
chosen_true l false f g h = cc

named_valid : (l : Language) → IsLayered l → IsFaithful l → (trees : List Formula) (numbers : List ℤ) (f : Formula) → instance_of l trees numbers ≡ Some f → IsValid l f
named_valid l layered faithful trees [] f h = cc
named_valid l layered faithful trees (n ∷ []) f h = cc
named_valid l layered faithful trees (n ∷ p ∷ rest) f h =
    let (args, a, at) = and_then_some (but_last rest) (instance_at l (slice_get trees) n p) f h in
    let (ns, b, is) = and_then_some (naturals args) (instance l (slice_get trees) (natural n) (natural p)) f at in
    axioms_are_true l layered faithful (slice_get trees) (natural n) (natural p) ns f is

axiom_valid : (l : Language) → IsLayered l → IsFaithful l → (trees : List Formula) (rule : RuleName) (numbers : List ℤ) (f : Formula) → if_axiom rule (option_and_then (truth_value l) (instance_of l trees numbers)) ≡ Some f → IsValid l f
axiom_valid l layered faithful trees r.Axiom numbers f h =
    let (g, a, b) = and_then_some (instance_of l trees numbers) (truth_value l) f h in
    let same : g ≡ f = chosen_true l (is_truth l g) g f b in
    subst (λ (x : Formula). IsValid l x) same (named_valid l layered faithful trees numbers g a)
axiom_valid l layered faithful trees _ numbers f h = cc

or_false : (b : Bool) → b ≡ true → b || false ≡ true
or_false b h = ap (λ x. x || false) h

-- where a step names an instance its clause is true
axiom_sound : (l : Language) → IsLayered l → IsFaithful l → (trees : List Formula) (nodes : List Term) (step : Step) (id : Option ℕ) (numbers : List ℤ) (clause : List Literal) → IsNode nodes (instance_in l trees step) id → IsAxiom id numbers clause
    → (e : Env) (v : ℕ → Value) → IsEnv l.program e → IsValuation l e nodes v → clause_true v clause ≡ true
axiom_sound l layered faithful trees nodes step None numbers clause node k e v env valued = absurd k
axiom_sound l layered faithful trees nodes step (Some t) numbers clause (f, is, stands) (before, last, given) e v env valued =
    let valid : IsValid l f = axiom_valid l layered faithful trees step.rule step.numbers f is in
    let true_there : truth (v t) ≡ true = valid e (v t) env (tree_value l e nodes v t f valued stands.tree) in
    subst (λ (c : List Literal). clause_true v c ≡ true) (sym given) (or_false (truth (v t)) true_there)

-- ---- a lemma's clause is true

-- the values of the terms that a clause names
abbrev pub values : (ℕ → Value) → List Literal → List Value
values v clause = map (λ (x : Literal). v x.term) clause

all_give : (l : Language) (e : Env) (nodes : List Term) (v : ℕ → Value) → IsValuation l e nodes v → (clause : List Literal) (c : TreeClause) → ClauseIs nodes clause c → AllGive l e (trees (map (λ (x : TreeLiteral). x.tree) c)) (values v clause)
all_give l e nodes v valued [] [] is = refl
all_give l e nodes v valued [] (x ∷ xs) is = absurd is
all_give l e nodes v valued (y ∷ ys) [] is = absurd is
all_give l e nodes v valued (y ∷ ys) (x ∷ xs) is = (v y.term, values v ys, refl, tree_value l e nodes v y.term x.tree valued is.0.tree, all_give l e nodes v valued ys xs is.2)

holds_there : (nodes : List Term) (v : ℕ → Value) (clause : List Literal) (c : TreeClause) → ClauseIs nodes clause c → clause_holds c (values v clause) ≡ clause_true v clause
holds_there nodes v [] [] is = refl
holds_there nodes v [] (x ∷ xs) is = absurd is
holds_there nodes v (y ∷ ys) [] is = absurd is
holds_there nodes v (y ∷ ys) (x ∷ xs) is =
    ap (λ b. (if b then truth (v y.term) else not (truth (v y.term))) || clause_holds xs (values v ys)) (sym is.1)
    ∙ ap (λ b. literal_true v y || b) (holds_there nodes v ys xs is.2)

-- a clause that is valid is true where it stands
valid_there : (l : Language) (nodes : List Term) (clause : List Literal) (c : TreeClause) → IsValidClause l c → ClauseIs nodes clause c → (e : Env) (v : ℕ → Value) → IsEnv l.program e → IsValuation l e nodes v → clause_true v clause ≡ true
valid_there l nodes clause c valid is e v env valued = sym (holds_there nodes v clause c is) ∙ valid e (values v clause) env (all_give l e nodes v valued clause c is)

lemma_sound : (l : Language) (theorems : Theorems) → AreValid l theorems → (nodes : List Term) (numbers : List ℤ) (clause : List Literal) → IsLemma theorems nodes numbers clause → (e : Env) (v : ℕ → Value) → IsEnv l.program e → IsValuation l e nodes v → clause_true v clause ≡ true
lemma_sound l theorems valid nodes numbers clause (j, c, named, at, is) e v env valued = valid_there l nodes clause c (valid j c at) is e v env valued

-- ---- each row gives a consequence

row_sound : (l : Language) → IsLayered l → IsFaithful l → (theorems : Theorems) → AreValid l theorems → (trees : List Formula) (nodes : List Term) (sorts : List (Option Sort)) → AreSortsOf l nodes sorts → (step : Step) (laid : LoadedStep)
    → IsNode nodes (instance_in l trees step) laid.instance → (root : Option ℕ) (clauses : List (List Literal)) (below : ℕ) (clause : List Literal) (rule : RuleName) → IsRow theorems nodes sorts root clauses below laid clause rule → IsConsequence l nodes root clauses below clause
row_sound l layered faithful theorems valid trees nodes sorts suits step laid node root clauses below clause r.Root = root_sound l nodes root clauses below laid.numbers clause
row_sound l layered faithful theorems valid trees nodes sorts suits step laid node root clauses below clause r.Conn = connective_sound l nodes root clauses below laid.numbers clause
row_sound l layered faithful theorems valid trees nodes sorts suits step laid node root clauses below clause r.Chain = chain_sound l nodes root clauses below laid.numbers clause
row_sound l layered faithful theorems valid trees nodes sorts suits step laid node root clauses below clause r.Refl = refl_sound l nodes root clauses below laid.numbers clause
row_sound l layered faithful theorems valid trees nodes sorts suits step laid node root clauses below clause r.Sym = sym_sound l nodes root clauses below laid.numbers clause
row_sound l layered faithful theorems valid trees nodes sorts suits step laid node root clauses below clause r.Trans = trans_sound l nodes root clauses below laid.numbers clause
row_sound l layered faithful theorems valid trees nodes sorts suits step laid node root clauses below clause r.Cong = congruence_sound l sorts nodes root clauses below laid.numbers clause
row_sound l layered faithful theorems valid trees nodes sorts suits step laid node root clauses below clause r.Linear = linear_sound l sorts nodes root clauses below laid.numbers clause
row_sound l layered faithful theorems valid trees nodes sorts suits step laid node root clauses below clause r.Cut = cut_sound l sorts nodes root clauses below laid.numbers clause
row_sound l layered faithful theorems valid trees nodes sorts suits step laid node root clauses below clause r.Split = split_sound l sorts nodes root clauses below laid.numbers clause suits
row_sound l layered faithful theorems valid trees nodes sorts suits step laid node root clauses below clause r.Map = map_sound l sorts nodes suits root clauses below laid.numbers clause
row_sound l layered faithful theorems valid trees nodes sorts suits step laid node root clauses below clause r.Axiom = λ k e v env valued earlier. axiom_sound l layered faithful trees nodes step laid.instance laid.numbers clause node k e v env valued
row_sound l layered faithful theorems valid trees nodes sorts suits step laid node root clauses below clause r.Lemma = λ k e v env valued earlier. lemma_sound l theorems valid nodes laid.numbers clause k e v env valued

given_sound : (l : Language) → IsLayered l → IsFaithful l → (theorems : Theorems) → AreValid l theorems → (trees : List Formula) (root : Option ℕ) (steps : List Step) (laid : Laid) → IsLayout l trees root steps laid → (i : ℕ) (c : List Literal) → slice_get laid.clauses i ≡ Some c → IsGivenAt theorems laid i → IsConsequence l laid.nodes laid.root laid.clauses i c
given_sound l layered faithful theorems valid trees root steps laid k i c at g =
    let place : i < length steps = subst (λ n. i < n) k.count (slice_get_within laid.steps i g.step g.at) in
    let (step, h) = below_gets steps i place in
    let same : g.clause ≡ c = some_same (sym g.clause_at ∙ at) in
    subst (λ (x : List Literal). IsConsequence l laid.nodes laid.root laid.clauses i x) same
    (row_sound l layered faithful theorems valid trees laid.nodes laid.sorts (are_sorts l laid.nodes laid.sorts k.sorts) step g.step (k.each i step g.step h g.at).instance laid.root laid.clauses i g.clause g.step.rule g.row)
  where
    some_same : {xs ys : List Literal} → Some xs ≡ Some ys → xs ≡ ys
    some_same p = cc

-- ---- each clause is true where the condition is false

no_clause : (nodes : List Term) (clause : List Literal) → ClauseIs nodes clause [] → clause ≡ []
no_clause nodes [] is = refl
no_clause nodes (y ∷ ys) is = absurd is

module _ (l : Language) (layered : IsLayered l) (faithful : IsFaithful l) (theorems : Theorems) (valid : AreValid l theorems) (own : List Term) (root : Option ℕ) (block : Derivation) (c : TreeClause) (k : Derives l theorems own root block c) where
  clauses_true : (e : Env) (v : ℕ → Value) → IsEnv l.program e → IsValuation l e k.laid.nodes v → ((r : ℕ) → k.laid.root ≡ Some r → truth (v r) ≡ false) → (n i : ℕ) → i < n → (d : List Literal) → slice_get k.laid.clauses i ≡ Some d → clause_true v d ≡ true
  clauses_true e v env valued wrong zero i h d at = absurd (omega (arith, h))
  clauses_true e v env valued wrong (suc n) i h d at =
      let before : (i : ℕ) → i < n → (d : List Literal) → slice_get k.laid.clauses i ≡ Some d → clause_true v d ≡ true = clauses_true e v env valued wrong n in
      below_more (λ i. (d : List Literal) → slice_get k.laid.clauses i ≡ Some d → clause_true v d ≡ true) n before
      (λ d at.
      given_sound l layered faithful theorems valid k.front.trees root _ k.laid k.front.layout n d at (k.given n (slice_get_within k.laid.clauses n d at)) e v env valued
      (record { root_false = wrong; steps = λ j x m p. before j m x p }))
      i (omega (arith, h)) d at

  -- the last clause
  last_true : (e : Env) (v : ℕ → Value) → IsEnv l.program e → IsValuation l e k.laid.nodes v → ((r : ℕ) → k.laid.root ≡ Some r → truth (v r) ≡ false) → clause_true v k.last.1 ≡ true
  last_true e v env valued wrong = clauses_true e v env valued wrong (k.last.0 + 1) k.last.0 (omega arith) k.last.1 k.last.3

  is_bank : IsBank k.laid.nodes
  is_bank = record { few = k.few; downward = k.front.layout.graph.downward; distinct = k.front.layout.graph.distinct }

-- ---- a lemma

theorem_valid : (l : Language) → IsLayered l → IsFaithful l → (theorems : Theorems) → AreValid l theorems → (own : List Term) (block : Derivation) (c : TreeClause) → Derives l theorems own None block c → IsValidClause l c
theorem_valid l layered faithful theorems valid own block c k e vs env give =
    decide l e k.laid.nodes (clause_holds c vs) (is_bank l layered faithful theorems valid own None block c k)
    (λ v valued.
    let same : vs ≡ values v k.last.1 = all_give_one l.program (AllHolds l e.me) (InvHolds l e.me) e (trees (map (λ (x : TreeLiteral). x.tree) c)) vs (values v k.last.1) give (all_give l e k.laid.nodes v valued k.last.1 c k.last.4) in
    ap (λ (xs : List Value). clause_holds c xs) same
    ∙ holds_there k.laid.nodes v k.last.1 c k.last.4
    ∙ last_true l layered faithful theorems valid own None block c k e v env valued (λ r q. absurd (no_root r (sym k.front.layout.root_is ∙ q))))
  where
    no_root : (r : ℕ) → None ≡ Some r → ⊥
    no_root r h = cc

taken_below : {X : Type 0} (n : ℕ) (xs : List X) (i : ℕ) (x : X) → slice_get (take n xs) i ≡ Some x → i < n
taken_below zero xs i x h = cc
taken_below (suc n) [] i x h = cc
taken_below (suc n) (y ∷ ys) zero x h = omega arith
taken_below (suc n) (y ∷ ys) (suc i) x h = let l : i < n = taken_below n ys i x h in omega (arith, l)

module _ (l : Language) (layered : IsLayered l) (faithful : IsFaithful l) (lemmas : List Derivation) (theorems : Theorems) (are : AreTheorems l lemmas theorems) where
  valid_below : (n j : ℕ) → j < n → (c : TreeClause) → slice_get theorems j ≡ Some (Some c) → IsValidClause l c
  valid_below zero j h c at = absurd (omega (arith, h))
  valid_below (suc n) j h c at =
      let before : (j : ℕ) → j < n → (c : TreeClause) → slice_get theorems j ≡ Some (Some c) → IsValidClause l c = valid_below n in
      below_more (λ j. (c : TreeClause) → slice_get theorems j ≡ Some (Some c) → IsValidClause l c) n before
      (λ c at.
      let place : n < length lemmas = subst (λ m. n < m) are.count (slice_get_within theorems n (Some c) at) in
      let (lemma, there) = below_gets lemmas n place in
      theorem_valid l layered faithful (take n theorems) (λ i d g. before i (taken_below n theorems i (Some d) g) d (take_get theorems n i (Some d) g)) [] (lemma_behind (take n lemmas) lemma) c
      (are.each n lemma (Some c) there at))
      j (omega (arith, h)) c at

  all_valid : AreValid l theorems
  all_valid j c at = valid_below (length theorems) j (slice_get_within theorems j (Some c) at) c at

pub theorems_valid : TheoremsAreValid
theorems_valid l lemmas theorems are layered faithful = all_valid l layered faithful lemmas theorems are

-- ---- a condition

module _ (l : Language) (layered : IsLayered l) (faithful : IsFaithful l) (theorems : Theorems) (valid : AreValid l theorems) (own : List Term) (root : ℕ) (block : Derivation) (k : Refutes l theorems own root block) where
  bool_of : (b : Bool) → (b ≡ false → ⊥) → b ≡ true
  bool_of true h = refl
  bool_of false h = absurd (h refl)

  always_true : IsAlwaysTrue l k.laid.nodes (node_of k.front.layout.names root)
  always_true e v env valued =
      bool_of (truth (v (node_of k.front.layout.names root))) (λ wrong.
      let none : k.last.1 ≡ [] = no_clause k.laid.nodes k.last.1 k.last.4 in
      let h : clause_true v k.last.1 ≡ true =
      last_true l layered faithful theorems valid own (Some root) block [] k e v env valued
      (λ r q. (let t : node_of k.front.layout.names root ≡ r = same_root (sym k.front.layout.root_is ∙ q) in subst (λ r. truth (v r) ≡ false) t wrong)) in
      let f : false ≡ true = ap (λ (d : List Literal). clause_true v d) (sym none) ∙ h in
      cc)
    where
      same_root : {m n : ℕ} → Some m ≡ Some n → m ≡ n
      same_root p = cc

  -- the root stands for the condition
  root_stands : (f : Formula) → Numbers f [] own root → StandsAs k.laid.nodes (node_of k.front.layout.names root) f
  root_stands f numbered =
      let good = k.front.good in
      let at : slice_get good.first root ≡ Some f = own_tree own good.first root f good.own_trees (numbers_stand f [] own root numbered).1 in
      let (more, whole) = grown_front (sorted_tree l) good.first block.terms k.front.trees good.added_trees in
      let there : slice_get k.front.trees root ≡ Some f = ap (λ (fs : List Formula). slice_get fs root) whole ∙ get_front good.first more root f at in
      node_stands k.laid.nodes k.front.layout.names k.front.trees root f k.front.layout.shown there

  pub refuted_valid : (f : Formula) → Numbers f [] own root → IsValid l f
  refuted_valid f numbered =
      (by_number l k.laid.nodes (node_of k.front.layout.names root) f (is_bank l layered faithful theorems valid own (Some root) block [] k) (root_stands f numbered).tree).1 always_true

pub follows_valid : FollowsIsValid
follows_valid l lemmas f block k layered faithful =
    refuted_valid l layered faithful k.theorems (theorems_valid l lemmas k.theorems k.are layered faithful) k.own k.root block k.refutes f k.numbered
