-- A block that derives a clause has one answer: no step of it fails, no added term is bad, nothing leaves 128 bits, and it derives no other.
use Rattle.std.proofs.Common.{◌≡◌, inl, inr, ℕ, zero, suc, ◌+◌, ◌<◌, List, [], ◌∷◌, ◌++◌, map, take, length, Option, Some, None, slice_get, refl, ap, sym, ◌∙◌, subst, arith}
use Rattle.std.proofs.lemmas.List.Elements.{All-head, All-tail}
use Rattle.std.proofs.lemmas.Option.{slice_get_within}
use Rattle.int_ranges.specs.declared.exact.Wide.{Wide}
use Rattle.terms.specs.declared.term.Term.{Term}
use Rattle.terms.specs.declared.term.Literal.{Literal}
use Rattle.terms.specs.Formula.{Formula, Numbered}
use Rattle.term_graph.specs.Graph.{IsGraph}
use Rattle.term_graph.proofs.Graphs.{taken_few}
use Rattle.term_graph.proofs.Trees.{numbered, numbered_same, only}
use Rattle.term_meaning.specs.Meaning.{Language}
use Rattle.cert_format.specs.Derivations.{Derivation}
use Rattle.cert_format.specs.declared.certificate.Step.{Step}
use Rattle.block_layout.specs.declared.loaded.LoadedStep.{LoadedStep}
use Rattle.block_layout.specs.Trees.{Grow, tree_over, sorted_tree, AreTrees, IsFirstBad}
use Rattle.condition_formulas.specs.Standing.{StandsAs, StandAll}
use Rattle.block_layout.specs.Layout.{Laid, clause_over, clause_in, node_of, NamesTerms}
use Rattle.block_layout.specs.Loading.{IsUnnamed}
use Rattle.block_layout.proofs.Lists.{below_gets, take_all, take_long}
use Rattle.block_layout.proofs.Named.{node_stands}
use Rattle.refutation_check.specs.Theorems.{TreeClause, Theorems, ClauseIs}
use Rattle.refutation_check.specs.Rows.{RowLeaves, IsGivenAt}
use Rattle.refutation_check.specs.Follows.{EndsEmpty, EndsWith, FrontLaid, Derives, Fails, LeavesFirst}
use Rattle.rule_layouts.specs.Laws.{NeverFails, NeverOpen, NeverLeaves, DerivesOne, NumberedOnce}
use Rattle.rule_layouts.proofs.Trees.{some_is}
use Rattle.rule_layouts.proofs.Blocks.{mapped_at, map_at}
use Rattle.rule_layouts.proofs.Agreeing.{grown_same, trees_same, map_length, layouts_agree}

-- over those before it, each term has a tree
grown_at : (tree : List Formula → Term → Option Formula) (first : List Formula) (ts : List Term) (all : List Formula) (k : ℕ) (t : Term) → Grow tree first ts all → slice_get ts k ≡ Some t
    → (front : List Formula) × (f : Formula) × Grow tree first (take k ts) front × (tree front t ≡ Some f)
grown_at tree first [] all k t g h = absurd (cc)
grown_at tree first (u ∷ us) all zero t (f, e, g) h = (first, f, refl, subst (λ (x : Term). tree first x ≡ Some f) (some_is u t h) e)
grown_at tree first (u ∷ us) all (suc k) t (f, e, g) h =
    let (front, x, more, is) = grown_at tree (first ++ f ∷ []) us all k t g h in
    (front, x, (f, e, more), is)

no_bad : (l : Language) (own added : List Term) (trees : List Formula) (k : ℕ) → AreTrees l own added trees → IsFirstBad l own added k → ⊥
no_bad l own added trees k p b =
    let (front, x, grown, is) = grown_at (sorted_tree l) p.first added trees k b.bad p.added_trees b.at in
    let same : b.good.first ≡ p.first = grown_same tree_over [] own b.good.first p.first b.good.own_trees p.own_trees in
    let also : b.before ≡ front = grown_same (sorted_tree l) p.first (take k added) b.before front (subst (λ (y : List Formula). Grow (sorted_tree l) y (take k added) b.before) same b.good.added_trees) grown in
    let none : sorted_tree l front b.bad ≡ None = subst (λ (y : List Formula). sorted_tree l y b.bad ≡ None) also b.no_tree in
    let bad : Some x ≡ None = sym is ∙ none in
    cc

-- an empty clause is empty over all names
no_literals : (names : List ℕ) (c : List Literal) → clause_over names c ≡ [] → c ≡ []
no_literals names [] h = refl
no_literals names (l ∷ ls) h = absurd (cc)

-- the literals' trees are those with their numbers
abbrev pub AreLiterals : List Formula → List Literal → TreeClause → Type 0
AreLiterals trees [] [] = Unit {0}
AreLiterals trees [] (x ∷ xs) = ⊥
AreLiterals trees (l ∷ ls) [] = ⊥
AreLiterals trees (l ∷ ls) (x ∷ xs) = (slice_get trees l.term ≡ Some x.tree) × (l.positive ≡ x.positive) × AreLiterals trees ls xs

literals_are : (nodes : List Term) (names : List ℕ) (trees : List Formula) → StandAll nodes names trees → (clause : List Literal) (c : TreeClause) → NamesTerms (length trees) clause → ClauseIs nodes (clause_over names clause) c → AreLiterals trees clause c
literals_are nodes names trees all [] [] h is = tt
literals_are nodes names trees all [] (x ∷ xs) h is = absurd is
literals_are nodes names trees all (l ∷ ls) [] h is = absurd is
literals_are nodes names trees all (l ∷ ls) (x ∷ xs) h is =
    let (f, at) = below_gets trees l.term (All-head (λ (y : Literal). y.term < length trees) l ls h) in
    let s : StandsAs nodes (node_of names l.term) f = node_stands nodes names trees l.term f all at in
    let same : f ≡ x.tree = only nodes (node_of names l.term) f x.tree s.tree is.0.tree in
    (at ∙ ap Some same, is.1, literals_are nodes names trees all ls xs (All-tail (λ (y : Literal). y.term < length trees) l ls h) is.2)

ends_same : (names others : List ℕ) (steps : List Step) → EndsEmpty (map (clause_in names) steps) → EndsEmpty (map (clause_in others) steps)
ends_same names others steps (i, long, last) =
    let (step, at, is) = mapped_at (clause_in names) steps i [] last in
    let none : step.clause ≡ [] = no_literals names step.clause is in (
      i,
      map_length (clause_in others) steps ∙ (sym (map_length (clause_in names) steps) ∙ long),
      map_at (clause_in others) steps i step at ∙ ap (λ c. Some (clause_over others c)) none,
    )

no_clause : (nodes : List Term) (clause : List Literal) → ClauseIs nodes clause [] → clause ≡ []
no_clause nodes [] is = refl
no_clause nodes (l ∷ ls) is = absurd is

-- a last clause that is the empty one is empty
empty_last : (nodes : List Term) (clauses : List (List Literal)) → EndsWith nodes clauses [] → EndsEmpty clauses
empty_last nodes clauses (i, last, long, at, is) = (i, long, at ∙ ap Some (no_clause nodes last is))

module _ (l : Language) (theorems : Theorems) (own : List Term) (root : Option ℕ) (block : Derivation) (c : TreeClause) (k : Derives l theorems own root block c) where
  clause_count : (count : ℕ) (laid : Laid) → FrontLaid l own root block count laid → length laid.clauses ≡ length (take count block.steps)
  clause_count count laid front = ap length front.layout.clauses ∙ map_length (clause_in front.layout.names) (take count block.steps)

  -- the steps of every layout are given there
  given_there : (count : ℕ) (laid : Laid) → FrontLaid l own root block count laid → (i : ℕ) → i < length laid.clauses → IsGivenAt theorems laid i
  given_there count laid front i h =
      let whole : length (take (length block.steps) block.steps) ≡ length block.steps = take_long block.steps (length block.steps) (omega arith) in
      let place : i < length k.laid.clauses =
      omega (arith, h, clause_count count laid front, taken_few count block.steps, clause_count (length block.steps) k.laid k.front, whole) in
      layouts_agree l theorems own root block (length block.steps) count k.laid laid k.front front k.few i h (k.given i place)

  -- each clause names terms
  all_named : (trees : List Formula) → AreTrees l own block.terms trees → (s : ℕ) → IsUnnamed block.steps (length trees) s → ⊥
  all_named trees good s u =
      let same : k.front.trees ≡ trees = trees_same l own block.terms k.front.trees trees k.front.good good in
      let at : slice_get (take (length block.steps) block.steps) s ≡ Some u.step = ap (λ (xs : List Step). slice_get xs s) (take_all block.steps (length block.steps) (omega arith)) ∙ u.at in
      u.unnamed (subst (λ (x : List Formula). NamesTerms (length x) u.step.clause) same (k.front.layout.named s u.step at))

  no_failure : (count : ℕ) (laid : Laid) (s : ℕ) (front : FrontLaid l own root block count laid) → Fails theorems block (length front.trees) laid s → ⊥
  no_failure count laid s front (inl h) = h.1 (given_there count laid front s h.0)
  no_failure count laid s front (inr h) = all_named front.trees front.good s h.1

  no_number : (w : Wide) → LeavesFirst l theorems own root block w → ⊥
  no_number w x =
      let laid = x.laid in
      let at = x.leaves in
      let place : x.step < length laid.clauses = slice_get_within laid.clauses x.step at.clause at.clause_at in
      let g : IsGivenAt theorems laid x.step = given_there x.count laid x.front x.step place in
      let step : at.step ≡ g.step = some_is at.step g.step (sym at.at ∙ g.at) in
      let clause : at.clause ≡ g.clause = some_is at.clause g.clause (sym at.clause_at ∙ g.clause_at) in
      g.within w
      (subst (λ (d : List Literal). RowLeaves laid.nodes laid.sorts laid.root laid.clauses x.step g.step d g.step.rule w) clause
      (subst (λ (s : LoadedStep). RowLeaves laid.nodes laid.sorts laid.root laid.clauses x.step s at.clause s.rule w) step at.leaves))

  -- the last step, and its clause over the block's trees
  last_step : (step : Step) × (slice_get block.steps k.last.0 ≡ Some step) × (clause_in k.front.layout.names step ≡ k.last.1) × (length block.steps ≡ k.last.0 + 1)
  last_step =
      let whole : take (length block.steps) block.steps ≡ block.steps = take_all block.steps (length block.steps) (omega arith) in
      let (step, at, is) = mapped_at (clause_in k.front.layout.names) (take (length block.steps) block.steps) k.last.0 k.last.1 (ap (λ (cs : List (List Literal)). slice_get cs k.last.0) (sym k.front.layout.clauses) ∙ k.last.3) in
      (step, ap (λ (xs : List Step). slice_get xs k.last.0) (sym whole) ∙ at, is, ap length (sym whole) ∙ sym (clause_count (length block.steps) k.laid k.front) ∙ k.last.2)

  -- the literals are those of the trees
  last_is : (step : Step) → slice_get block.steps k.last.0 ≡ Some step → clause_in k.front.layout.names step ≡ k.last.1 → AreLiterals k.front.trees step.clause c
  last_is step at same =
      let there : slice_get (take (length block.steps) block.steps) k.last.0 ≡ Some step = ap (λ (xs : List Step). slice_get xs k.last.0) (take_all block.steps (length block.steps) (omega arith)) ∙ at in
      literals_are k.laid.nodes k.front.layout.names k.front.trees k.front.layout.shown step.clause c (k.front.layout.named k.last.0 step there)
      (subst (λ (d : List Literal). ClauseIs k.laid.nodes d c) (sym same) k.last.4)

pub never_fails : NeverFails
never_fails l theorems own root block c k = ((λ s x. no_failure l theorems own root block c k x.count x.laid s x.front x.fails), (λ n b. no_bad l own block.terms k.front.trees n k.front.good b))

pub never_leaves : NeverLeaves
never_leaves l theorems own root block c k w x = no_number l theorems own root block c k w x

pub never_open : NeverOpen
never_open l theorems own root block k s x =
    let whole : take (length block.steps) block.steps ≡ block.steps = take_all block.steps (length block.steps) (omega arith) in
    let here : EndsEmpty (map (clause_in k.front.layout.names) (take (length block.steps) block.steps)) = subst (λ (cs : List (List Literal)). EndsEmpty cs) k.front.layout.clauses (empty_last k.laid.nodes k.laid.clauses k.last) in
    x.not_empty (subst (λ (cs : List (List Literal)). EndsEmpty cs) (sym x.front.layout.clauses) (ends_same k.front.layout.names x.front.layout.names (take (length block.steps) block.steps) here))

-- a clause over the same trees is one
one_clause : (trees : List Formula) (clause : List Literal) (c d : TreeClause) → AreLiterals trees clause c → AreLiterals trees clause d → c ≡ d
one_clause trees [] [] [] p q = refl
one_clause trees [] [] (y ∷ ys) p q = absurd q
one_clause trees [] (x ∷ xs) d p q = absurd p
one_clause trees (l ∷ ls) [] d p q = absurd p
one_clause trees (l ∷ ls) (x ∷ xs) [] p q = absurd q
one_clause trees (l ∷ ls) (x ∷ xs) (y ∷ ys) p q =
    let tree : x.tree ≡ y.tree = some_is x.tree y.tree (sym p.0 ∙ q.0) in
    let sign : x.positive ≡ y.positive = sym p.1 ∙ q.1 in
    let rest : xs ≡ ys = one_clause trees ls xs ys p.2 q.2 in
    λ i. (record { tree = tree i; positive = sign i }) ∷ rest i

pub derives_one : DerivesOne
derives_one l theorems own root block c d k m =
    let (step, at, is, many) = last_step l theorems own root block c k in
    let (also, there, same, so_many) = last_step l theorems own root block d m in
    let place : m.last.0 ≡ k.last.0 = omega (arith, many, so_many) in
    let one : also ≡ step = some_is also step (sym there ∙ (ap (λ n. slice_get block.steps n) place ∙ at)) in
    let trees : m.front.trees ≡ k.front.trees = trees_same l own block.terms m.front.trees k.front.trees m.front.good k.front.good in
    let first : AreLiterals k.front.trees step.clause c = last_is l theorems own root block c k step at is in
    let second : AreLiterals m.front.trees also.clause d = last_is l theorems own root block d m also there same in
    one_clause k.front.trees step.clause c d first
    (subst (λ (s : Step). AreLiterals k.front.trees s.clause d) one (subst (λ (fs : List Formula). AreLiterals fs also.clause d) trees second))

no_terms : IsGraph []
no_terms = record { downward = λ i t h. absurd (cc); distinct = λ i j t h g. absurd (cc) }

pub numbered_once : NumberedOnce
numbered_once f own other root also p q =
    let first : Numbered f [] own root = record { is = p } in
    numbered_same f [] own other root also (numbered f [] own root no_terms first).1 first (record { is = q })
