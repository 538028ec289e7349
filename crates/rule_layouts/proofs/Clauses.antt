-- root, conn and chain in two graphs.
use Rattle.std.proofs.Common.{◌≡◌, ◌⊎◌, inl, inr, ℕ, zero, suc, ◌-◌, ◌<◌, ℤ, pos, Bool, true, false, not, ◌&&◌, ◌||◌, cond, List, [], ◌∷◌, Some, slice_get, refl, ap, sym, ◌∙◌, subst}
use Rattle.terms.specs.declared.term.Term.{Term}
use Rattle.terms.specs.declared.term.Literal.{Literal}
use Rattle.terms.specs.declared.term.Kind.{Kind}
use Rattle.terms.specs.declared.term.Kind.TheVariants.{True, Not, And, Or, Imp}
use Rattle.terms.specs.Formula.{term}
use Rattle.term_graph.specs.Graph.{IsGraph}
use Rattle.vcc_rules.specs.Equality.{sides}
use Rattle.vcc_rules.specs.Rows.{yes, no, IsRoot, connective_clauses, IsPart, IsClausal, choice, IsChosen, IsConnective, same_sign, same_literal, is_known, negated, open_of, Closes}
use Rattle.rule_layouts.specs.Layouts.{SameTree, SameTrees, SameLiteral, SameClause, SameClauses, SameNames}
use Rattle.rule_layouts.proofs.Trees.{SameNodes, nodes, some_is, eq_same, one_right, clause_is, given_is, name_is, no_name, first_name}
use Rattle.rule_layouts.proofs.Sides.{sides_same, sides_there, choice_same, choice_there}

-- the clauses of a connective
connective_same : (ts us : List Term) (k : Kind) (t u : ℕ) (as' bs : List ℕ) → SameTree ts us t u → SameTrees ts us as' bs → SameClauses ts us (connective_clauses k t as') (connective_clauses k u bs)
connective_same ts us True t u [] [] st s = (((st, refl), tt), tt)
connective_same ts us True t u [] (b ∷ bs) st s = absurd s
connective_same ts us True t u (a ∷ as') [] st s = absurd s
connective_same ts us True t u (a ∷ as') (b ∷ bs) st s = tt
connective_same ts us Not t u [] [] st s = tt
connective_same ts us Not t u [] (b ∷ bs) st s = absurd s
connective_same ts us Not t u (a ∷ as') [] st s = absurd s
connective_same ts us Not t u (a ∷ []) (b ∷ []) st s = (((st, refl), ((s.0, refl), tt)), (((st, refl), ((s.0, refl), tt)), tt))
connective_same ts us Not t u (a ∷ []) (b ∷ d ∷ bs) st s = absurd s.1
connective_same ts us Not t u (a ∷ c ∷ as') (b ∷ []) st s = absurd s.1
connective_same ts us Not t u (a ∷ c ∷ as') (b ∷ d ∷ bs) st s = tt
connective_same ts us And t u [] [] st s = tt
connective_same ts us And t u [] (b ∷ bs) st s = absurd s
connective_same ts us And t u (a ∷ as') [] st s = absurd s
connective_same ts us And t u (a ∷ []) (b ∷ []) st s = tt
connective_same ts us And t u (a ∷ []) (b ∷ d ∷ bs) st s = absurd s.1
connective_same ts us And t u (a ∷ c ∷ as') (b ∷ []) st s = absurd s.1
connective_same ts us And t u (a ∷ c ∷ []) (b ∷ d ∷ []) st s =
    (((st, refl), ((s.0, refl), tt)), (((st, refl), ((s.1.0, refl), tt)), (((st, refl), ((s.0, refl), ((s.1.0, refl), tt))), tt)))
connective_same ts us And t u (a ∷ c ∷ []) (b ∷ d ∷ e ∷ bs) st s = absurd s.1.1
connective_same ts us And t u (a ∷ c ∷ e ∷ as') (b ∷ d ∷ []) st s = absurd s.1.1
connective_same ts us And t u (a ∷ c ∷ e ∷ as') (b ∷ d ∷ f ∷ bs) st s = tt
connective_same ts us Or t u [] [] st s = tt
connective_same ts us Or t u [] (b ∷ bs) st s = absurd s
connective_same ts us Or t u (a ∷ as') [] st s = absurd s
connective_same ts us Or t u (a ∷ []) (b ∷ []) st s = tt
connective_same ts us Or t u (a ∷ []) (b ∷ d ∷ bs) st s = absurd s.1
connective_same ts us Or t u (a ∷ c ∷ as') (b ∷ []) st s = absurd s.1
connective_same ts us Or t u (a ∷ c ∷ []) (b ∷ d ∷ []) st s =
    (((st, refl), ((s.0, refl), tt)), (((st, refl), ((s.1.0, refl), tt)), (((st, refl), ((s.0, refl), ((s.1.0, refl), tt))), tt)))
connective_same ts us Or t u (a ∷ c ∷ []) (b ∷ d ∷ e ∷ bs) st s = absurd s.1.1
connective_same ts us Or t u (a ∷ c ∷ e ∷ as') (b ∷ d ∷ []) st s = absurd s.1.1
connective_same ts us Or t u (a ∷ c ∷ e ∷ as') (b ∷ d ∷ f ∷ bs) st s = tt
connective_same ts us Imp t u [] [] st s = tt
connective_same ts us Imp t u [] (b ∷ bs) st s = absurd s
connective_same ts us Imp t u (a ∷ as') [] st s = absurd s
connective_same ts us Imp t u (a ∷ []) (b ∷ []) st s = tt
connective_same ts us Imp t u (a ∷ []) (b ∷ d ∷ bs) st s = absurd s.1
connective_same ts us Imp t u (a ∷ c ∷ as') (b ∷ []) st s = absurd s.1
connective_same ts us Imp t u (a ∷ c ∷ []) (b ∷ d ∷ []) st s =
    (((st, refl), ((s.0, refl), tt)), (((st, refl), ((s.1.0, refl), tt)), (((st, refl), ((s.0, refl), ((s.1.0, refl), tt))), tt)))
connective_same ts us Imp t u (a ∷ c ∷ []) (b ∷ d ∷ e ∷ bs) st s = absurd s.1.1
connective_same ts us Imp t u (a ∷ c ∷ e ∷ as') (b ∷ d ∷ []) st s = absurd s.1.1
connective_same ts us Imp t u (a ∷ c ∷ e ∷ as') (b ∷ d ∷ f ∷ bs) st s = tt
connective_same ts us _ t u as' bs st s = tt

-- the clause at a place
clause_at : (ts us : List Term) (cs ds : List (List Literal)) (n : ℕ) (c : List Literal) → SameClauses ts us cs ds → slice_get cs n ≡ Some c → (d : List Literal) × (slice_get ds n ≡ Some d) × SameClause ts us c d
clause_at ts us [] ds n c s h = absurd (cc)
clause_at ts us (x ∷ cs) [] n c s h = absurd s
clause_at ts us (x ∷ cs) (y ∷ ds) zero c s h = (y, refl, subst (λ (z : List Literal). SameClause ts us z y) (some_is x c h) s.0)
clause_at ts us (x ∷ cs) (y ∷ ds) (suc n) c s h = clause_at ts us cs ds n c s.1 h

module _ (ts us : List Term) (gt : IsGraph ts) (gu : IsGraph us) where
  single_same : (c d : List Literal) (l : Literal) → SameClause ts us c d → c ≡ l ∷ [] → (m : Literal) × (d ≡ m ∷ []) × SameLiteral ts us l m
  single_same c [] l s e = absurd (subst (λ (k : List Literal). SameClause ts us k []) e s)
  single_same c (m ∷ []) l s e = (m, refl, (subst (λ (k : List Literal). SameClause ts us k (m ∷ [])) e s).0)
  single_same c (m ∷ n ∷ d) l s e = absurd ((subst (λ (k : List Literal). SameClause ts us k (m ∷ n ∷ d)) e s).1)

  pub root_same : (r s : ℕ) (zs ws : List ℤ) (c d : List Literal) → ((n : Term) → slice_get ts r ≡ Some n → SameTree ts us r s) → (zs ≡ [] → ws ≡ []) → SameClause ts us c d → IsRoot (Some r) zs c → IsRoot (Some s) ws d
  root_same r s zs ws c d x n y (q, e, f, g) =
      let same : r ≡ q = some_is r q e in
      let z = single_same c d (no q) y g in
      let m = nodes ts us q z.0.term z.2.0 in
      let there : slice_get ts r ≡ Some (term m.kind m.index m.args) = ap (slice_get ts) same ∙ m.is in
      (s, refl, n f, given_is ts us gt gu c d (no q ∷ []) (no s ∷ []) y g (((subst (λ (z : ℕ). SameTree ts us z s) same (x (term m.kind m.index m.args) there)), refl), tt))

  -- the same node, its numbers being those of the step
  clausal_at : (part t u : ℕ) (c d : List Literal) (n : Term) (m : SameNodes ts us t u) → SameTree ts us t u → slice_get ts t ≡ Some n → IsPart n t part c → SameClause ts us c d → (o : Term) × (slice_get us u ≡ Some o) × IsPart o u part d
  clausal_at part t u c d n m s g h y =
      let e : n ≡ term m.kind m.index m.args = some_is n (term m.kind m.index m.args) (sym g ∙ m.is) in
      let k : slice_get (connective_clauses m.kind t m.args) (part - 1) ≡ Some c = ap (λ (o : Term). slice_get (connective_clauses o.kind t o.args) (part - 1)) (sym e) ∙ h.1 in
      let z = clause_at ts us (connective_clauses m.kind t m.args) (connective_clauses m.kind u m.others) (part - 1) c (connective_same ts us m.kind t u m.args m.others s m.trees) k in
      (term m.kind m.index m.others, m.other, (h.0, z.1 ∙ ap Some (sym (clause_is ts us gt gu c d z.0 y z.2))))

  clausal_same : (zs ws : List ℤ) (c d : List Literal) → ((part : ℤ) (rest : List ℤ) → zs ≡ part ∷ rest → (more : List ℤ) × (ws ≡ part ∷ more) × SameNames ts us rest more) → SameClause ts us c d → IsClausal ts zs c → IsClausal us ws d
  clausal_same zs ws c d names y (part, t, n, e, g, h) =
      let p = names (pos part) (pos t ∷ []) e in
      let q = first_name ts us (pos t) (pos t ∷ []) p.0 [] p.2 refl in
      let none : q.1 ≡ [] = no_name ts us [] q.1 q.4 refl in
      let u = name_is ts us gt gu t n (pos t) q.0 q.3 refl g in
      let r = clausal_at part t u.0 c d n (nodes ts us t u.0 u.2) u.2 g h y in
      (part, u.0, r.0, p.1 ∙ ap (λ xs. pos part ∷ xs) (q.2 ∙ (λ i. u.1 i ∷ none i)), r.1, r.2)

  chosen_at :
      (part t u b x y t' u' : ℕ) (c d : List Literal) → SameTree ts us t t' → SameTree ts us u u' → SameClause ts us c d → choice ts t ≡ Some (b, x, y)
      → (((part ≡ 1) × (sides ts u ≡ Some (t, x)) × (c ≡ no b ∷ yes u ∷ [])) ⊎ ((part ≡ 2) × (sides ts u ≡ Some (t, y)) × (c ≡ yes b ∷ yes u ∷ [])))
      → (b' x' y' : ℕ) × (choice us t' ≡ Some (b', x', y'))
      × (((part ≡ 1) × (sides us u' ≡ Some (t', x')) × (d ≡ no b' ∷ yes u' ∷ [])) ⊎ ((part ≡ 2) × (sides us u' ≡ Some (t', y')) × (d ≡ yes b' ∷ yes u' ∷ [])))
  chosen_at part t u b x y t' u' c d s r z h (inl (p, e, g)) =
      let v = choice_same ts us t t' b x y s h in
      let w = sides_same ts us u u' t x r e in
      let left : w.0 ≡ t' = one_right ts us gt gu t w.0 t' w.3 s in
      let right : w.1 ≡ v.1 = one_right ts us gt gu x w.1 v.1 w.4 v.5 in
      (v.0, v.1, v.2, v.3, inl (p, w.2 ∙ (λ i. Some (left i, right i)), given_is ts us gt gu c d (no b ∷ yes u ∷ []) (no v.0 ∷ yes u' ∷ []) z g ((v.4, refl), ((r, refl), tt))))
  chosen_at part t u b x y t' u' c d s r z h (inr (p, e, g)) =
      let v = choice_same ts us t t' b x y s h in
      let w = sides_same ts us u u' t y r e in
      let left : w.0 ≡ t' = one_right ts us gt gu t w.0 t' w.3 s in
      let right : w.1 ≡ v.2 = one_right ts us gt gu y w.1 v.2 w.4 v.6 in
      (v.0, v.1, v.2, v.3, inr (p, w.2 ∙ (λ i. Some (left i, right i)), given_is ts us gt gu c d (yes b ∷ yes u ∷ []) (yes v.0 ∷ yes u' ∷ []) z g ((v.4, refl), ((r, refl), tt))))

  chosen_there :
      (part t u x y : ℕ) (c : List Literal) (P Q : Type 0)
      → (((part ≡ 1) × (sides ts u ≡ Some (t, x)) × P) ⊎ ((part ≡ 2) × (sides ts u ≡ Some (t, y)) × Q)) → (n : Term) × (slice_get ts u ≡ Some n)
  chosen_there part t u x y c P Q (inl h) = sides_there ts u t x h.1
  chosen_there part t u x y c P Q (inr h) = sides_there ts u t y h.1

  chosen_same : (zs ws : List ℤ) (c d : List Literal) → ((part : ℤ) (rest : List ℤ) → zs ≡ part ∷ rest → (more : List ℤ) × (ws ≡ part ∷ more) × SameNames ts us rest more) → SameClause ts us c d → IsChosen ts zs c → IsChosen us ws d
  chosen_same zs ws c d names z (part, t, u, b, x, y, e, h, either) =
      let p = names (pos part) (pos t ∷ pos u ∷ []) e in
      let q = first_name ts us (pos t) (pos t ∷ pos u ∷ []) p.0 (pos u ∷ []) p.2 refl in
      let r = first_name ts us (pos u) (pos u ∷ []) q.1 [] q.4 refl in
      let none : r.1 ≡ [] = no_name ts us [] r.1 r.4 refl in
      let n = choice_there ts t b x y h in
      let m = chosen_there part t u x y c (c ≡ no b ∷ yes u ∷ []) (c ≡ yes b ∷ yes u ∷ []) either in
      let t' = name_is ts us gt gu t n.0 (pos t) q.0 q.3 refl n.1 in
      let u' = name_is ts us gt gu u m.0 (pos u) r.0 r.3 refl m.1 in
      let w = chosen_at part t u b x y t'.0 u'.0 c d t'.2 u'.2 z h either in
      let rest : q.1 ≡ pos u'.0 ∷ [] = r.2 ∙ (λ i. u'.1 i ∷ none i) in
      (part, t'.0, u'.0, w.0, w.1, w.2, p.1 ∙ ap (λ xs. pos part ∷ xs) (q.2 ∙ (λ i. t'.1 i ∷ rest i)), w.3, w.4)

  pub connective_row_same : (zs ws : List ℤ) (c d : List Literal) → ((part : ℤ) (rest : List ℤ) → zs ≡ part ∷ rest → (more : List ℤ) × (ws ≡ part ∷ more) × SameNames ts us rest more) → SameClause ts us c d → IsConnective ts zs c → IsConnective us ws d
  connective_row_same zs ws c d names y (inl h) = inl (clausal_same zs ws c d names y h)
  connective_row_same zs ws c d names y (inr h) = inr (chosen_same zs ws c d names y h)

  -- chain
  literal_same : (l m l' m' : Literal) → SameLiteral ts us l l' → SameLiteral ts us m m' → same_literal l m ≡ same_literal l' m'
  literal_same l m l' m' x y = λ i. eq_same ts us gt gu l.term m.term l'.term m'.term x.0 y.0 i && same_sign (x.1 i) (y.1 i)

  known_same : (ls ms : List Literal) (m m' : Literal) → SameClause ts us ls ms → SameLiteral ts us m m' → is_known ls m ≡ is_known ms m'
  known_same [] [] m m' s x = refl
  known_same [] (k ∷ ms) m m' s x = absurd s
  known_same (l ∷ ls) [] m m' s x = absurd s
  known_same (l ∷ ls) (k ∷ ms) m m' s x = λ i. literal_same m l m' k x s.0 i || known_same ls ms m m' s.1 x i

  keep : (b : Bool) (m m' : Literal) (rest others : List Literal) → SameLiteral ts us m m' → SameClause ts us rest others → SameClause ts us (cond b (m ∷ rest) rest) (cond b (m' ∷ others) others)
  keep true m m' rest others x s = (x, s)
  keep false m m' rest others x s = s

  open_same : (ls ms c d : List Literal) → SameClause ts us ls ms → SameClause ts us c d → SameClause ts us (open_of ls c) (open_of ms d)
  open_same ls ms [] [] s x = tt
  open_same ls ms [] (m ∷ d) s x = absurd x
  open_same ls ms (l ∷ c) [] s x = absurd x
  open_same ls ms (l ∷ c) (m ∷ d) s x =
      subst (λ (b : Bool). SameClause ts us (open_of ls (l ∷ c)) (cond b (m ∷ open_of ms d) (open_of ms d)))
      (ap not (known_same ls ms l m s x.0))
      (keep (not (is_known ls l)) l m (open_of ls c) (open_of ms d) x.0 (open_same ls ms c d s x.1))

  empty_same : (c d : List Literal) → SameClause ts us c d → c ≡ [] → d ≡ []
  empty_same c d s e = given_is ts us gt gu c d [] [] s e tt

  -- the earlier clauses, so many, are the same
  abbrev pub Earlier : List (List Literal) → List (List Literal) → ℕ → Type 0
  Earlier cs ds below = (k : ℕ) (c : List Literal) → k < below → slice_get cs k ≡ Some c → (d : List Literal) × (slice_get ds k ≡ Some d) × SameClause ts us c d

  pub closes_same : (zs : List ℤ) (cs ds : List (List Literal)) (below : ℕ) (known others : List Literal) → Earlier cs ds below → SameClause ts us known others → Closes cs below known zs → Closes ds below others zs
  closes_same [] cs ds below known others s x h = absurd h
  closes_same (z ∷ zs) cs ds below known others s x (k, c, e, l, g, inl (none, last)) =
      let p = s k c l g in
      (k, p.0, e, l, p.1, inl (empty_same (open_of known c) (open_of others p.0) (open_same known others c p.0 x p.2) none, last))
  closes_same (z ∷ zs) cs ds below known others s x (k, c, e, l, g, inr (m, one, rest)) =
      let p = s k c l g in
      let q = single_same (open_of known c) (open_of others p.0) m (open_same known others c p.0 x p.2) one in
      (k, p.0, e, l, p.1, inr (q.0, q.1, closes_same zs cs ds below (negated m ∷ known) (negated q.0 ∷ others) s ((q.2.0, ap not q.2.1), x) rest))
