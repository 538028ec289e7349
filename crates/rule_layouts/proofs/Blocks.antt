-- A step that is given in one layout of a block is given in every other one.
use Rattle.std.proofs.Common.{◌≡◌, ℕ, zero, suc, ◌<◌, ◌≤◌, ℤ, pos, List, [], ◌∷◌, ◌++◌, map, length, Option, Some, None, slice_get, option_map, refl, ap, sym, ◌∙◌, subst, arith}
use Rattle.std.proofs.lemmas.Option.{slice_get_within}
use Rattle.int_ranges.specs.declared.exact.Wide.{Wide}
use Rattle.terms.specs.declared.term.Term.{Term}
use Rattle.terms.specs.declared.term.Literal.{Literal}
use Rattle.terms.specs.declared.sort.Sort.{Sort}
use Rattle.terms.specs.Formula.{Formula, Stands}
use Rattle.term_graph.proofs.Trees.{only}
use Rattle.term_meaning.specs.Meaning.{Language}
use Rattle.term_sorts.specs.Sorting.{AreSortsIn}
use Rattle.vcc_rules.specs.Rows.{yes, IsRoot}
use Rattle.rule_linear.specs.Rows.{LinearLeaves}
use Rattle.rule_linear.specs.Cuts.{CutLeaves}
use Rattle.cert_format.specs.declared.certificate.RuleName.{RuleName}
use Rattle.cert_format.specs.declared.certificate.RuleName.TheVariants as r
use Rattle.cert_format.specs.declared.certificate.Step.{Step}
use Rattle.block_layout.specs.declared.loaded.LoadedStep.{LoadedStep}
use Rattle.block_layout.specs.Layout.{Laid, node_of, clause_over, clause_in, NamesTerms, numbers_over, instance_in, IsNode, IsLayout}
use Rattle.refutation_check.specs.Theorems.{TreeClause, Theorems, ClauseIs}
use Rattle.refutation_check.specs.Rows.{IsAxiom, IsRow, RowLeaves, RowFits, IsGivenAt}
use Rattle.rule_layouts.specs.Layouts.{SameTree, SameClause, SameNames, SameSorts}
use Rattle.rule_layouts.proofs.Trees.{nodes, some_is, one_right, given_is, flip_clause}
use Rattle.rule_layouts.proofs.Clauses.{root_same, connective_row_same, Earlier, closes_same}
use Rattle.rule_layouts.proofs.Equality.{refl_same, sym_same, trans_same, congruence_same}
use Rattle.rule_layouts.proofs.Maps.{map_same, SameMap}
use Rattle.rule_layouts.proofs.Linear.{linear_same, cut_same, split_row_same}
use Rattle.rule_layouts.proofs.Steps.{linear_leaves, cut_leaves}
use Rattle.rule_layouts.proofs.Names.{all_raw, there_below, clause_same, numbers_same, root_named, conn_numbers, map_numbers, axiom_numbers}

-- two tables of sorts of the same language
sorts_same : (l : Language) (ts us : List Term) (sorts others : List (Option Sort)) → AreSortsIn l ts sorts → AreSortsIn l us others → SameSorts ts us sorts others
sorts_same l ts us sorts others p q a b s = p.sort a s.tree (record { tree = s.left }) ∙ sym (q.sort b s.tree (record { tree = s.right }))

-- the nodes of one formula
instances_same : (ts us : List Term) (f : Option Formula) (x y : Option ℕ) (t : ℕ) → IsNode ts f x → IsNode us f y → x ≡ Some t → (u : ℕ) × (y ≡ Some u) × SameTree ts us t u
instances_same ts us f None y t p q e = absurd (cc)
instances_same ts us f (Some a) None t (g, h, s) q e = absurd (let w : Some g ≡ None = sym h ∙ q in cc)
instances_same ts us f (Some a) (Some b) t (g, h, s) (k, m, w) e =
    let same : k ≡ g = some_is k g (sym m ∙ h) in
    (b, refl, record { tree = g; left = subst (λ (x : ℕ). Stands ts x g) (some_is a t e) s.tree; right = subst (λ (x : Formula). Stands us b x) same w.tree })

pub mapped_at : {X Y : Type 0} (f : X → Y) (xs : List X) (i : ℕ) (y : Y) → slice_get (map f xs) i ≡ Some y → (x : X) × (slice_get xs i ≡ Some x) × (f x ≡ y)
mapped_at f [] i y h = absurd (cc)
mapped_at f (x ∷ xs) zero y h = (x, refl, some_is (f x) y h)
mapped_at f (x ∷ xs) (suc i) y h = mapped_at f xs i y h

pub map_at : {X Y : Type 0} (f : X → Y) (xs : List X) (i : ℕ) (x : X) → slice_get xs i ≡ Some x → slice_get (map f xs) i ≡ Some (f x)
map_at f [] i x h = absurd (cc)
map_at f (y ∷ xs) zero x h = ap (λ z. Some (f z)) (some_is y x h)
map_at f (y ∷ xs) (suc i) x h = map_at f xs i x h

-- a clause that is a theorem in the one graph is it in the other
theorem_same : (ts us : List Term) (c d : List Literal) (t : TreeClause) → SameClause ts us c d → ClauseIs ts c t → ClauseIs us d t
theorem_same ts us [] [] [] s is = tt
theorem_same ts us [] [] (x ∷ xs) s is = absurd is
theorem_same ts us [] (m ∷ ms) t s is = absurd s
theorem_same ts us (l ∷ ls) [] t s is = absurd s
theorem_same ts us (l ∷ ls) (m ∷ ms) [] s is = absurd is
theorem_same ts us (l ∷ ls) (m ∷ ms) (x ∷ xs) s is =
    let same : s.0.0.tree ≡ x.tree = only ts l.term s.0.0.tree x.tree s.0.0.left is.0.tree in (
      record { tree = subst (λ (f : Formula). Stands us m.term f) same s.0.0.right },
      sym s.0.1 ∙ is.1,
      theorem_same ts us ls ms xs s.1 is.2,
    )

module _ (lang : Language) (theorems : Theorems) (trees : List Formula) (root : Option ℕ) (steps more : List Step) (a b : Laid) (p : IsLayout lang trees root steps a) (q : IsLayout lang trees root more b) (few : length a.nodes ≤ 1_048_576) where
  sorted : SameSorts a.nodes b.nodes a.sorts b.sorts
  sorted = sorts_same lang a.nodes b.nodes a.sorts b.sorts p.sorts q.sorts

  clauses_at : (c : List Literal) → NamesTerms (length trees) c → SameClause a.nodes b.nodes (clause_over p.names c) (clause_over q.names c)
  clauses_at c h = clause_same a.nodes b.nodes p.names q.names trees p.shown q.shown few c h

  root_here : (o : Option ℕ) (ns ms : List ℤ) (c d : List Literal) → a.root ≡ option_map (node_of p.names) o → b.root ≡ option_map (node_of q.names) o → (ns ≡ [] → ms ≡ []) → SameClause a.nodes b.nodes c d → IsRoot a.root ns c → IsRoot b.root ms d
  root_here None ns ms c d e g n s h = absurd (let f : None ≡ Some h.0 = sym e ∙ h.1 in cc)
  root_here (Some k) ns ms c d e g n s h =
      subst (λ (x : Option ℕ). IsRoot x ms d) (sym g)
      (root_same a.nodes b.nodes p.graph q.graph (node_of p.names k) (node_of q.names k) ns ms c d (root_named a.nodes b.nodes p.names q.names trees p.shown q.shown few k) n s
      (subst (λ (x : Option ℕ). IsRoot x ns c) e h))

  axiom_same : (zs : List ℤ) (x y : Option ℕ) (c d : List Literal) (f : Option Formula) → IsNode a.nodes f x → IsNode b.nodes f y → SameClause a.nodes b.nodes c d → IsAxiom x (numbers_over p.names r.Axiom zs) c → IsAxiom y (numbers_over q.names r.Axiom zs) d
  axiom_same zs None y c d f i j s h = absurd h
  axiom_same zs (Some t) y c d f i j s (before, e, g) =
      let m = instances_same a.nodes b.nodes f (Some t) y t i j refl in
      let n = nodes a.nodes b.nodes t m.0 m.2 in
      let w = axiom_numbers a.nodes b.nodes p.names q.names trees p.shown q.shown few zs before t (record { kind = n.kind; index = n.index; args = n.args }) e n.is in
      let same : w.1 ≡ m.0 = one_right a.nodes b.nodes p.graph q.graph t w.1 m.0 w.3 m.2 in
      subst (λ (o : Option ℕ). IsAxiom o (numbers_over q.names r.Axiom zs) d) (sym m.1)
      (w.0, w.2 ∙ ap (λ u. w.0 ++ pos u ∷ []) same, given_is a.nodes b.nodes p.graph q.graph c d (yes t ∷ []) (yes m.0 ∷ []) s g ((m.2, refl), tt))

  named : (zs : List ℤ) (x y : LoadedStep) (rule : RuleName) → x.numbers ≡ numbers_over p.names rule zs → y.numbers ≡ numbers_over q.names rule zs → SameNames a.nodes b.nodes (numbers_over p.names rule zs) (numbers_over q.names rule zs) → SameNames a.nodes b.nodes x.numbers y.numbers
  named zs x y rule e g h = subst (λ (ns : List ℤ). SameNames a.nodes b.nodes ns y.numbers) (sym e) (subst (λ (ns : List ℤ). SameNames a.nodes b.nodes (numbers_over p.names rule zs) ns) (sym g) h)

  -- a row, by the rule
  row_same :
      (rule : RuleName) (zs : List ℤ) (x y : LoadedStep) (c d : List Literal) (below : ℕ) (f : Option Formula) → IsNode a.nodes f x.instance → IsNode b.nodes f y.instance
      → x.numbers ≡ numbers_over p.names rule zs → y.numbers ≡ numbers_over q.names rule zs → SameClause a.nodes b.nodes c d → Earlier a.nodes b.nodes p.graph q.graph a.clauses b.clauses below
      → IsRow theorems a.nodes a.sorts a.root a.clauses below x c rule → IsRow theorems b.nodes b.sorts b.root b.clauses below y d rule
  row_same r.Root zs x y c d below f i j e g s k h =
      root_here root x.numbers y.numbers c d p.root_is q.root_is (λ n. g ∙ (all_raw _ zs ∙ (sym (all_raw _ zs) ∙ (sym e ∙ n)))) s h
  row_same r.Conn zs x y c d below f i j e g s k h =
      connective_row_same a.nodes b.nodes p.graph q.graph x.numbers y.numbers c d
      (λ part rest n. let w = conn_numbers a.nodes b.nodes p.names q.names trees p.shown q.shown few zs part rest (sym e ∙ n) in (w.0, g ∙ w.1, w.2)) s h
  row_same r.Chain zs x y c d below f i j e g s k h =
      let same : x.numbers ≡ y.numbers = e ∙ (all_raw _ zs ∙ (sym (all_raw _ zs) ∙ sym g)) in
      subst (λ (ns : List ℤ). IsRow theorems b.nodes b.sorts b.root b.clauses below (record y { numbers = ns }) d r.Chain) same
      (closes_same a.nodes b.nodes p.graph q.graph x.numbers a.clauses b.clauses below c d k s h)
  row_same r.Refl zs x y c d below f i j e g s k h = refl_same a.nodes b.nodes p.graph q.graph x.numbers y.numbers c d (named zs x y r.Refl e g (numbers_same a.nodes b.nodes p.names q.names trees p.shown q.shown few zs)) s h
  row_same r.Sym zs x y c d below f i j e g s k h = sym_same a.nodes b.nodes p.graph q.graph x.numbers y.numbers c d (named zs x y r.Sym e g (numbers_same a.nodes b.nodes p.names q.names trees p.shown q.shown few zs)) s h
  row_same r.Trans zs x y c d below f i j e g s k h = trans_same a.nodes b.nodes p.graph q.graph x.numbers y.numbers c d (named zs x y r.Trans e g (numbers_same a.nodes b.nodes p.names q.names trees p.shown q.shown few zs)) s h
  row_same r.Cong zs x y c d below f i j e g s k h = congruence_same a.nodes b.nodes p.graph q.graph a.sorts b.sorts sorted x.numbers y.numbers c d (named zs x y r.Cong e g (numbers_same a.nodes b.nodes p.names q.names trees p.shown q.shown few zs)) s h
  row_same r.Linear zs x y c d below f i j e g s k h =
      let same : x.numbers ≡ y.numbers = e ∙ (all_raw _ zs ∙ (sym (all_raw _ zs) ∙ sym g)) in
      subst (λ (ns : List ℤ). IsRow theorems b.nodes b.sorts b.root b.clauses below (record y { numbers = ns }) d r.Linear) same
      (linear_same a.nodes b.nodes a.sorts b.sorts sorted p.graph q.graph x.numbers c d s h)
  row_same r.Cut zs x y c d below f i j e g s k h =
      let same : x.numbers ≡ y.numbers = e ∙ (all_raw _ zs ∙ (sym (all_raw _ zs) ∙ sym g)) in
      subst (λ (ns : List ℤ). IsRow theorems b.nodes b.sorts b.root b.clauses below (record y { numbers = ns }) d r.Cut) same
      (cut_same a.nodes b.nodes a.sorts b.sorts sorted p.graph q.graph x.numbers c d s h)
  row_same r.Split zs x y c d below f i j e g s k h = split_row_same a.nodes b.nodes a.sorts b.sorts sorted p.graph q.graph x.numbers y.numbers c d (named zs x y r.Split e g (numbers_same a.nodes b.nodes p.names q.names trees p.shown q.shown few zs)) s h
  row_same r.Map zs x y c d below f i j e g s k h =
      map_same a.nodes b.nodes p.graph q.graph a.sorts b.sorts sorted x.numbers y.numbers c d
      (subst (λ (ns : List ℤ). SameMap a.nodes b.nodes ns y.numbers) (sym e) (subst (λ (ns : List ℤ). SameMap a.nodes b.nodes (numbers_over p.names r.Map zs) ns) (sym g) (map_numbers a.nodes b.nodes p.names q.names trees p.shown q.shown few zs))) s h
  row_same r.Axiom zs x y c d below f i j e g s k h =
      subst (λ (ns : List ℤ). IsAxiom y.instance ns d) (sym g) (axiom_same zs x.instance y.instance c d f i j s (subst (λ (ns : List ℤ). IsAxiom x.instance ns c) e h))
  row_same r.Lemma zs x y c d below f i j e g s k (n, t, named, at, is) =
      (n, t, g ∙ (all_raw _ zs ∙ (sym (all_raw _ zs) ∙ (sym e ∙ named))), at, theorem_same a.nodes b.nodes c d t s is)

  sorted_back : SameSorts b.nodes a.nodes b.sorts a.sorts
  sorted_back = sorts_same lang b.nodes a.nodes b.sorts a.sorts q.sorts p.sorts

  -- a number that leaves 128 bits, by the rule
  leaves_same :
      (rule : RuleName) (zs : List ℤ) (x y : LoadedStep) (c d : List Literal) (below : ℕ) (w : Wide)
      → x.numbers ≡ numbers_over p.names rule zs → y.numbers ≡ numbers_over q.names rule zs → SameClause a.nodes b.nodes c d
      → RowLeaves b.nodes b.sorts b.root b.clauses below y d rule w → RowLeaves a.nodes a.sorts a.root a.clauses below x c rule w
  leaves_same r.Linear zs x y c d below w e g s h =
      let same : y.numbers ≡ x.numbers = g ∙ (all_raw _ zs ∙ (sym (all_raw _ zs) ∙ sym e)) in
      subst (λ (ns : List ℤ). LinearLeaves a.sorts a.nodes ns c w) same
      (linear_leaves b.nodes a.nodes b.sorts a.sorts sorted_back q.graph p.graph y.numbers d c w (flip_clause a.nodes b.nodes c d s) h)
  leaves_same r.Cut zs x y c d below w e g s h =
      let same : y.numbers ≡ x.numbers = g ∙ (all_raw _ zs ∙ (sym (all_raw _ zs) ∙ sym e)) in
      subst (λ (ns : List ℤ). CutLeaves a.sorts a.nodes ns c w) same
      (cut_leaves b.nodes a.nodes b.sorts a.sorts sorted_back q.graph p.graph y.numbers d c w (flip_clause a.nodes b.nodes c d s) h)
  leaves_same _ zs x y c d below w e g s h = absurd h

  fits_same :
      (rule : RuleName) (zs : List ℤ) (x y : LoadedStep) (c d : List Literal) (below : ℕ)
      → x.numbers ≡ numbers_over p.names rule zs → y.numbers ≡ numbers_over q.names rule zs → SameClause a.nodes b.nodes c d
      → RowFits a.nodes a.sorts a.root a.clauses below x c rule → RowFits b.nodes b.sorts b.root b.clauses below y d rule
  fits_same rule zs x y c d below e g s fits = λ w h. fits w (leaves_same rule zs x y c d below w e g s h)

  -- the clauses before a step
  earlier : (below : ℕ) → ((k : ℕ) (s : Step) → k < below → slice_get steps k ≡ Some s → slice_get more k ≡ Some s) → Earlier a.nodes b.nodes p.graph q.graph a.clauses b.clauses below
  earlier below common k c l h =
      let m = mapped_at (clause_in p.names) steps k c (ap (λ cs. slice_get cs k) (sym p.clauses) ∙ h) in (
        clause_in q.names m.0,
        ap (λ cs. slice_get cs k) q.clauses ∙ map_at (clause_in q.names) more k m.0 (common k m.0 l m.1),
        subst (λ (x : List Literal). SameClause a.nodes b.nodes x (clause_in q.names m.0)) m.2 (clauses_at m.0.clause (p.named k m.0 m.1)),
      )

  -- a step that is given in the one layout is given in the other
  pub given_same : (i : ℕ) → ((k : ℕ) (s : Step) → k < suc i → slice_get steps k ≡ Some s → slice_get more k ≡ Some s) → IsGivenAt theorems a i → IsGivenAt theorems b i
  given_same i common g =
      let m = mapped_at (clause_in p.names) steps i g.clause (ap (λ cs. slice_get cs i) (sym p.clauses) ∙ g.clause_at) in
      let there : slice_get more i ≡ Some m.0 = common i m.0 (omega arith) m.1 in
      let l : i < length more = slice_get_within more i m.0 there in
      let y = there_below b.steps i (omega (arith, l, q.count)) in
      let x = p.each i m.0 g.step m.1 g.at in
      let z = q.each i m.0 y.0 there y.1 in
      let clauses : SameClause a.nodes b.nodes g.clause (clause_in q.names m.0) =
      subst (λ (c : List Literal). SameClause a.nodes b.nodes c (clause_in q.names m.0)) m.2 (clauses_at m.0.clause (p.named i m.0 m.1)) in
      let row = row_same m.0.rule m.0.numbers g.step y.0 g.clause (clause_in q.names m.0) i (instance_in lang trees m.0) x.instance z.instance x.numbers z.numbers clauses
      (earlier i (λ k s h. common k s (omega (arith, h))))
      (subst (λ (r : RuleName). IsRow theorems a.nodes a.sorts a.root a.clauses i g.step g.clause r) x.rule g.row) in
      let fits = fits_same m.0.rule m.0.numbers g.step y.0 g.clause (clause_in q.names m.0) i x.numbers z.numbers clauses
      (subst (λ (r : RuleName). RowFits a.nodes a.sorts a.root a.clauses i g.step g.clause r) x.rule g.within) in
      record {
        step = y.0;
        clause = clause_in q.names m.0;
        at = y.1;
        clause_at = ap (λ cs. slice_get cs i) q.clauses ∙ map_at (clause_in q.names) more i m.0 there;
        row = subst (λ (r : RuleName). IsRow theorems b.nodes b.sorts b.root b.clauses i y.0 (clause_in q.names m.0) r) (sym z.rule) row;
        within = subst (λ (r : RuleName). RowFits b.nodes b.sorts b.root b.clauses i y.0 (clause_in q.names m.0) r) (sym z.rule) fits;
      }
