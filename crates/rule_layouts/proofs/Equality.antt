-- refl, sym, trans and cong in two graphs.
use Rattle.std.proofs.Common.{◌≡◌, inl, inr, ℕ, ℤ, pos, Bool, true, false, List, [], ◌∷◌, Option, Some, slice_get, refl, ap, sym, ◌∙◌, subst}
use Rattle.terms.specs.declared.term.Term.{Term}
use Rattle.terms.specs.declared.term.Literal.{Literal}
use Rattle.terms.specs.declared.sort.Sort.{Sort}
use Rattle.terms.specs.Formula.{term}
use Rattle.term_graph.specs.Graph.{IsGraph}
use Rattle.vcc_rules.specs.Equality.{sides}
use Rattle.vcc_rules.specs.Rows.{yes, no}
use Rattle.rule_equality.specs.Rows.{IsRefl, IsSym, IsTrans, is_truth_sort, is_truth_value, Passes, Agrees, IsCongruent, IsCongruence}
use Rattle.rule_layouts.specs.Layouts.{SameTree, SameTrees, SameLiteral, SameClause, SameNames, SameSorts}
use Rattle.rule_layouts.proofs.Trees.{SameNodes, nodes, some_is, one_right, one_left, given_is, name_is, no_name, first_name}
use Rattle.rule_layouts.proofs.Sides.{sides_same, sides_there}

module _ (ts us : List Term) (gt : IsGraph ts) (gu : IsGraph us) where
  -- the numbers of a step that names one, two or three terms
  name_one : (t : ℕ) (n : Term) (zs ws : List ℤ) → SameNames ts us zs ws → zs ≡ pos t ∷ [] → slice_get ts t ≡ Some n → (u : ℕ) × (ws ≡ pos u ∷ []) × SameTree ts us t u
  name_one t n zs ws s e g =
      let q = first_name ts us (pos t) zs ws [] s e in
      let none : q.1 ≡ [] = no_name ts us [] q.1 q.4 refl in
      let u = name_is ts us gt gu t n (pos t) q.0 q.3 refl g in
      (u.0, q.2 ∙ (λ i. u.1 i ∷ none i), u.2)

  pub name_more : (t : ℕ) (n : Term) (zs ws ys : List ℤ) → SameNames ts us zs ws → zs ≡ pos t ∷ ys → slice_get ts t ≡ Some n → (u : ℕ) × (rest : List ℤ) × (ws ≡ pos u ∷ rest) × SameTree ts us t u × SameNames ts us ys rest
  name_more t n zs ws ys s e g =
      let q = first_name ts us (pos t) zs ws ys s e in
      let u = name_is ts us gt gu t n (pos t) q.0 q.3 refl g in
      (u.0, q.1, q.2 ∙ (λ i. u.1 i ∷ q.1), u.2, q.4)

  pub name_two : (t u : ℕ) (n m : Term) (zs ws : List ℤ) → SameNames ts us zs ws → zs ≡ pos t ∷ pos u ∷ [] → slice_get ts t ≡ Some n → slice_get ts u ≡ Some m → (v w : ℕ) × (ws ≡ pos v ∷ pos w ∷ []) × SameTree ts us t v × SameTree ts us u w
  name_two t u n m zs ws s e g h =
      let p = name_more t n zs ws (pos u ∷ []) s e g in
      let q = name_one u m (pos u ∷ []) p.1 p.4 refl h in
      (p.0, q.0, p.2 ∙ ap (λ xs. pos p.0 ∷ xs) q.1, p.3, q.2)

  pub name_three :
      (t u v : ℕ) (n m o : Term) (zs ws : List ℤ) → SameNames ts us zs ws → zs ≡ pos t ∷ pos u ∷ pos v ∷ [] → slice_get ts t ≡ Some n → slice_get ts u ≡ Some m → slice_get ts v ≡ Some o
      → (x y z : ℕ) × (ws ≡ pos x ∷ pos y ∷ pos z ∷ []) × SameTree ts us t x × SameTree ts us u y × SameTree ts us v z
  name_three t u v n m o zs ws s e g h k =
      let p = name_more t n zs ws (pos u ∷ pos v ∷ []) s e g in
      let q = name_two u v m o (pos u ∷ pos v ∷ []) p.1 p.4 refl h k in
      (p.0, q.0, q.1, p.2 ∙ ap (λ xs. pos p.0 ∷ xs) q.2, p.3, q.3, q.4)

  pub refl_same : (zs ws : List ℤ) (c d : List Literal) → SameNames ts us zs ws → SameClause ts us c d → IsRefl ts zs c → IsRefl us ws d
  refl_same zs ws c d s x (t, a, e, h, g) =
      let n = sides_there ts t a a h in
      let u = name_one t n.0 zs ws s e n.1 in
      let w = sides_same ts us t u.0 a a u.2 h in
      let same : w.1 ≡ w.0 = one_right ts us gt gu a w.1 w.0 w.4 w.3 in
      (u.0, w.0, u.1, w.2 ∙ (λ i. Some (w.0, same i)), given_is ts us gt gu c d (yes t ∷ []) (yes u.0 ∷ []) x g ((u.2, refl), tt))

  pub sym_same : (zs ws : List ℤ) (c d : List Literal) → SameNames ts us zs ws → SameClause ts us c d → IsSym ts zs c → IsSym us ws d
  sym_same zs ws c d s x (t, u, a, b, e, h, k, g) =
      let n = sides_there ts t a b h in
      let m = sides_there ts u b a k in
      let v = name_two t u n.0 m.0 zs ws s e n.1 m.1 in
      let p = sides_same ts us t v.0 a b v.3 h in
      let q = sides_same ts us u v.1 b a v.4 k in
      let left : q.0 ≡ p.1 = one_right ts us gt gu b q.0 p.1 q.3 p.4 in
      let right : q.1 ≡ p.0 = one_right ts us gt gu a q.1 p.0 q.4 p.3 in
      (v.0, v.1, p.0, p.1, v.2, p.2, q.2 ∙ (λ i. Some (left i, right i)), given_is ts us gt gu c d (no t ∷ yes u ∷ []) (no v.0 ∷ yes v.1 ∷ []) x g ((v.3, refl), ((v.4, refl), tt)))

  pub trans_same : (zs ws : List ℤ) (c d : List Literal) → SameNames ts us zs ws → SameClause ts us c d → IsTrans ts zs c → IsTrans us ws d
  trans_same zs ws c d s x (t, u, w, a, b, e, f, h, k, l, g) =
      let n = sides_there ts t a b h in
      let m = sides_there ts u b e k in
      let o = sides_there ts w a e l in
      let v = name_three t u w n.0 m.0 o.0 zs ws s f n.1 m.1 o.1 in
      let p = sides_same ts us t v.0 a b v.4 h in
      let q = sides_same ts us u v.1 b e v.5 k in
      let r = sides_same ts us w v.2 a e v.6 l in
      let left : q.0 ≡ p.1 = one_right ts us gt gu b q.0 p.1 q.3 p.4 in
      let start : r.0 ≡ p.0 = one_right ts us gt gu a r.0 p.0 r.3 p.3 in
      let end : r.1 ≡ q.1 = one_right ts us gt gu e r.1 q.1 r.4 q.4 in (
        v.0,
        v.1,
        v.2,
        p.0,
        p.1,
        q.1,
        v.3,
        p.2,
        q.2 ∙ (λ i. Some (left i, q.1)),
        r.2 ∙ (λ i. Some (start i, end i)),
        given_is ts us gt gu c d (no t ∷ no u ∷ yes w ∷ []) (no v.0 ∷ no v.1 ∷ yes v.2 ∷ []) x g ((v.4, refl), ((v.5, refl), ((v.6, refl), tt))),
      )

  -- a clause that begins with a denial, and one that is a single literal
  first_literal : (l : Literal) (c d rest : List Literal) → SameClause ts us c d → c ≡ l ∷ rest → (m : Literal) × (more : List Literal) × (d ≡ m ∷ more) × SameLiteral ts us l m × SameClause ts us rest more
  first_literal l c [] rest s e = absurd (subst (λ (k : List Literal). SameClause ts us k []) e s)
  first_literal l c (m ∷ more) rest s e =
      let z = subst (λ (k : List Literal). SameClause ts us k (m ∷ more)) e s in
      (m, more, refl, z.0, z.1)

  signed : (b : Bool) (m : Literal) → b ≡ m.positive → m ≡ record { term = m.term; positive = b }
  signed b m e = λ i. record { term = m.term; positive = (sym e) i }

  denied :
      (e a b a' b' : ℕ) (c d rest : List Literal) → SameTree ts us a a' → SameTree ts us b b' → SameClause ts us c d → sides ts e ≡ Some (a, b) → c ≡ no e ∷ rest
      → (f : ℕ) × (more : List Literal) × (sides us f ≡ Some (a', b')) × (d ≡ no f ∷ more) × SameClause ts us rest more
  denied e a b a' b' c d rest p q s h g =
      let z = first_literal (no e) c d rest s g in
      let w = sides_same ts us e z.0.term a b z.3.0 h in
      let left : w.0 ≡ a' = one_right ts us gt gu a w.0 a' w.3 p in
      let right : w.1 ≡ b' = one_right ts us gt gu b w.1 b' w.4 q in
      (z.0.term, z.1, w.2 ∙ (λ i. Some (left i, right i)), z.2 ∙ ap (λ m. m ∷ z.1) (signed false z.0 z.3.1), z.4)

  nothing_more : (c : List Literal) → SameClause ts us [] c → c ≡ []
  nothing_more [] s = refl
  nothing_more (l ∷ c) s = absurd s

  single_yes : (v : ℕ) (c d : List Literal) → SameClause ts us c d → c ≡ yes v ∷ [] → (w : ℕ) × (d ≡ yes w ∷ []) × SameTree ts us v w
  single_yes v c d s g =
      let z = first_literal (yes v) c d [] s g in
      let none : z.1 ≡ [] = nothing_more z.1 z.4 in
      (z.0.term, z.2 ∙ (λ i. signed true z.0 z.3.1 i ∷ none i), z.3.0)

  -- cong
  module _ (sorts others : List (Option Sort)) (sorted : SameSorts ts us sorts others) where
    truth_same : (a b : ℕ) → SameTree ts us a b → is_truth_value sorts a ≡ is_truth_value others b
    truth_same a b s = ap is_truth_sort (sorted a b s)

    -- two arguments in one place
    passes_same :
        (a b a' b' : ℕ) (c d rest : List Literal) → SameTree ts us a a' → SameTree ts us b b' → SameClause ts us c d → Passes sorts ts a b c rest
        → (more : List Literal) × Passes others us a' b' d more × SameClause ts us rest more
    passes_same a b a' b' c d rest p q s (l, r, inl (e, g)) = (
      d,
      (sym (truth_same a a' p) ∙ l, sym (truth_same b b' q) ∙ r, inl (one_right ts us gt gu a a' b' p (subst (λ (x : ℕ). SameTree ts us x b') (sym e) q), refl)),
      subst (λ (k : List Literal). SameClause ts us k d) g s,
    )
    passes_same a b a' b' c d rest p q s (l, r, inr (e, apart, h, g)) =
        let z = denied e a b a' b' c d rest p q s h g in (
          z.1,
          (
            sym (truth_same a a' p) ∙ l,
            sym (truth_same b b' q) ∙ r,
            inr (z.0, (λ same. apart (one_left ts us gt gu a b a' p (subst (λ (x : ℕ). SameTree ts us b x) (sym same) q))), z.2, z.3),
          ),
          z.4,
        )

    agrees_same : (t u t' u' : ℕ) (c d : List Literal) → SameTree ts us t t' → SameTree ts us u u' → SameClause ts us c d → Agrees sorts ts t u c → Agrees others us t' u' d
    agrees_same t u t' u' c d p q s (inl (l, g)) =
        inl (sym (truth_same t t' p) ∙ l, given_is ts us gt gu c d (no t ∷ yes u ∷ []) (no t' ∷ yes u' ∷ []) s g ((p, refl), ((q, refl), tt)))
    agrees_same t u t' u' c d p q s (inr (v, l, h, g)) =
        let m = single_yes v c d s g in
        let w = sides_same ts us v m.0 t u m.2 h in
        let left : w.0 ≡ t' = one_right ts us gt gu t w.0 t' w.3 p in
        let right : w.1 ≡ u' = one_right ts us gt gu u w.1 u' w.4 q in
        inr (m.0, sym (truth_same t t' p) ∙ l, w.2 ∙ (λ i. Some (left i, right i)), m.1)

    congruent_same :
        (t u t' u' : ℕ) (as' bs cs ds : List ℕ) (c d : List Literal) → SameTree ts us t t' → SameTree ts us u u' → SameTrees ts us as' cs → SameTrees ts us bs ds → SameClause ts us c d
        → IsCongruent sorts ts t u as' bs c → IsCongruent others us t' u' cs ds d
    congruent_same t u t' u' [] [] [] [] c d p q x y s h = agrees_same t u t' u' c d p q s h
    congruent_same t u t' u' [] [] [] (e ∷ ds) c d p q x y s h = absurd y
    congruent_same t u t' u' [] [] (e ∷ cs) ds c d p q x y s h = absurd x
    congruent_same t u t' u' [] (b ∷ bs) cs ds c d p q x y s h = absurd h
    congruent_same t u t' u' (a ∷ as') [] cs ds c d p q x y s h = absurd h
    congruent_same t u t' u' (a ∷ as') (b ∷ bs) [] ds c d p q x y s h = absurd x
    congruent_same t u t' u' (a ∷ as') (b ∷ bs) (e ∷ cs) [] c d p q x y s h = absurd y
    congruent_same t u t' u' (a ∷ as') (b ∷ bs) (e ∷ cs) (f ∷ ds) c d p q x y s (rest, here, more) =
        let z = passes_same a b e f c d rest x.0 y.0 s here in
        (z.0, z.1, congruent_same t u t' u' as' bs cs ds rest z.0 p q x.1 y.1 z.2 more)

    congruence_nodes :
        (t u t' u' : ℕ) (left right : Term) (c d : List Literal) (n : SameNodes ts us t t') (m : SameNodes ts us u u') (ws : List ℤ) → ws ≡ pos t' ∷ pos u' ∷ []
        → SameTree ts us t t' → SameTree ts us u u' → SameClause ts us c d
        → slice_get ts t ≡ Some left → slice_get ts u ≡ Some right → left.kind ≡ right.kind → left.index ≡ right.index → IsCongruent sorts ts t u left.args right.args c
        → IsCongruence others us ws d
    congruence_nodes t u t' u' left right c d n m ws e p q s g h k i x =
        let l : left ≡ term n.kind n.index n.args = some_is left (term n.kind n.index n.args) (sym g ∙ n.is) in
        let r : right ≡ term m.kind m.index m.args = some_is right (term m.kind m.index m.args) (sym h ∙ m.is) in
        record {
          t = t';
          u = u';
          left = term n.kind n.index n.others;
          right = term m.kind m.index m.others;
          named = e;
          left_is = n.other;
          right_is = m.other;
          kind = ap (λ (o : Term). o.kind) (sym l) ∙ (k ∙ ap (λ (o : Term). o.kind) r);
          index = ap (λ (o : Term). o.index) (sym l) ∙ (i ∙ ap (λ (o : Term). o.index) r);
          congruent =
              congruent_same t u t' u' n.args m.args n.others m.others c d p q n.trees m.trees s
              (subst (λ (o : Term). IsCongruent sorts ts t u o.args m.args c) l (subst (λ (o : Term). IsCongruent sorts ts t u left.args o.args c) r x));
        }

    pub congruence_same : (zs ws : List ℤ) (c d : List Literal) → SameNames ts us zs ws → SameClause ts us c d → IsCongruence sorts ts zs c → IsCongruence others us ws d
    congruence_same zs ws c d s x h =
        let v = name_two h.t h.u h.left h.right zs ws s h.named h.left_is h.right_is in
        congruence_nodes h.t h.u v.0 v.1 h.left h.right c d (nodes ts us h.t v.0 v.3) (nodes ts us h.u v.1 v.4) ws v.2 v.3 v.4 x h.left_is h.right_is h.kind h.index h.congruent
