-- The form of a term is the same in two graphs, unit by unit.
use Rattle.std.proofs.Common.{◌≡◌, ◌⊎◌, inl, inr, ℕ, ℤ, pos, ◌+ℤ◌, ◌-ℤ◌, ◌*ℤ◌, Bool, true, false, cond, nat_eq, List, [], ◌∷◌, Option, Some, None, refl, ap, sym, ◌∙◌, subst}
use Rattle.std.proofs.lemmas.Bool.{eqb-true}
use Rattle.std.specs.Option.{option_and_then}
use Rattle.int_ranges.specs.Ring.{mul_zero}
use Rattle.terms.specs.declared.term.Term.{Term}
use Rattle.terms.specs.declared.term.Kind.{Kind}
use Rattle.terms.specs.declared.term.Kind.TheVariants.{Int, Add, Sub, Mul}
use Rattle.terms.specs.Formula.{Formula, Formulas, Node, Stop, With, term, Stands, AllStand}
use Rattle.term_graph.specs.Graph.{IsGraph}
use Rattle.rule_linear.specs.declared.form.Part.{Part}
use Rattle.rule_linear.specs.declared.form.Part.TheVariants.{Coefficient, Constant}
use Rattle.rule_linear.specs.Forms.{Sum, Number, Single, Plus, Minus, Times, number_of, whole_number, number_at, product_shape, shape_of, of_shape, sum_at}
use Rattle.rule_linear.proofs.Readings.{sum_is}
use Rattle.rule_layouts.specs.Layouts.{SameTree, SameTrees}
use Rattle.rule_layouts.proofs.Trees.{SameNodes, nodes, same_args, eq_same}

module _ (ts us : List Term) where
  -- two sums that differ in the numbers of their units alone
  abbrev pub SameSum : Sum → Sum → Type 0
  SameSum (Number n) (Number m) = n ≡ m
  SameSum (Single t) (Single u) = SameTree ts us t u
  SameSum (Plus a b) (Plus c d) = SameSum a c × SameSum b d
  SameSum (Minus a b) (Minus c d) = SameSum a c × SameSum b d
  SameSum (Times n a) (Times m c) = (n ≡ m) × SameSum a c
  SameSum _ _ = ⊥

  -- two parts of one unit, or both the constant
  abbrev pub SamePart : Part → Part → Type 0
  SamePart Constant Constant = Unit {0}
  SamePart (Coefficient u) (Coefficient v) = SameTree ts us u v
  SamePart _ _ = ⊥

  -- the sums of arguments, place by place
  abbrev SumsSame : List ℕ → List ℕ → Type 0
  SumsSame [] [] = Unit {0}
  SumsSame [] (b ∷ bs) = ⊥
  SumsSame (a ∷ as') [] = ⊥
  SumsSame (a ∷ as') (b ∷ bs) = SameSum (sum_at ts a) (sum_at us b) × SumsSame as' bs

  whole_same : (k : Kind) (i : ℤ) (as' bs : List ℕ) → SameTrees ts us as' bs → whole_number k i as' ≡ whole_number k i bs
  whole_same Int i [] [] s = refl
  whole_same Int i [] (b ∷ bs) s = absurd s
  whole_same Int i (a ∷ as') [] s = absurd s
  whole_same Int i (a ∷ as') (b ∷ bs) s = refl
  whole_same _ i as' bs s = refl

  number_of_nodes : (a b : ℕ) → SameNodes ts us a b → number_at ts a ≡ number_at us b
  number_of_nodes a b n =
      ap (option_and_then (λ (m : Term). whole_number m.kind m.index m.args)) n.is
      ∙ (whole_same n.kind n.index n.args n.others n.trees ∙ sym (ap (option_and_then (λ (m : Term). whole_number m.kind m.index m.args)) n.other))

  pub number_same : (a b : ℕ) → SameTree ts us a b → number_at ts a ≡ number_at us b
  number_same a b s = number_of_nodes a b (nodes ts us a b s)

  product_same : (x y : Option ℤ) (t u a b c d : ℕ) → SameTree ts us t u → SameSum (sum_at ts a) (sum_at us c) → SameSum (sum_at ts b) (sum_at us d) → SameSum (of_shape (sum_at ts) t (product_shape x y a b)) (of_shape (sum_at us) u (product_shape x y c d))
  product_same (Some n) y t u a b c d st p q = (refl, q)
  product_same None (Some n) t u a b c d st p q = (refl, p)
  product_same None None t u a b c d st p q = st

  shape_same : (k : Kind) (i : ℤ) (t u : ℕ) (as' bs : List ℕ) → SameTree ts us t u → SameTrees ts us as' bs → SumsSame as' bs → SameSum (of_shape (sum_at ts) t (shape_of ts k i as')) (of_shape (sum_at us) u (shape_of us k i bs))
  shape_same Int i t u [] [] st x y = refl
  shape_same Int i t u [] (b ∷ bs) st x y = absurd x
  shape_same Int i t u (a ∷ as') [] st x y = absurd x
  shape_same Int i t u (a ∷ as') (b ∷ bs) st x y = st
  shape_same Add i t u [] [] st x y = st
  shape_same Add i t u [] (b ∷ bs) st x y = absurd x
  shape_same Add i t u (a ∷ as') [] st x y = absurd x
  shape_same Add i t u (a ∷ []) (b ∷ []) st x y = st
  shape_same Add i t u (a ∷ []) (b ∷ d ∷ bs) st x y = absurd x.1
  shape_same Add i t u (a ∷ c ∷ as') (b ∷ []) st x y = absurd x.1
  shape_same Add i t u (a ∷ c ∷ []) (b ∷ d ∷ []) st x y = (y.0, y.1.0)
  shape_same Add i t u (a ∷ c ∷ []) (b ∷ d ∷ e ∷ bs) st x y = absurd x.1.1
  shape_same Add i t u (a ∷ c ∷ e ∷ as') (b ∷ d ∷ []) st x y = absurd x.1.1
  shape_same Add i t u (a ∷ c ∷ e ∷ as') (b ∷ d ∷ f ∷ bs) st x y = st
  shape_same Sub i t u [] [] st x y = st
  shape_same Sub i t u [] (b ∷ bs) st x y = absurd x
  shape_same Sub i t u (a ∷ as') [] st x y = absurd x
  shape_same Sub i t u (a ∷ []) (b ∷ []) st x y = st
  shape_same Sub i t u (a ∷ []) (b ∷ d ∷ bs) st x y = absurd x.1
  shape_same Sub i t u (a ∷ c ∷ as') (b ∷ []) st x y = absurd x.1
  shape_same Sub i t u (a ∷ c ∷ []) (b ∷ d ∷ []) st x y = (y.0, y.1.0)
  shape_same Sub i t u (a ∷ c ∷ []) (b ∷ d ∷ e ∷ bs) st x y = absurd x.1.1
  shape_same Sub i t u (a ∷ c ∷ e ∷ as') (b ∷ d ∷ []) st x y = absurd x.1.1
  shape_same Sub i t u (a ∷ c ∷ e ∷ as') (b ∷ d ∷ f ∷ bs) st x y = st
  shape_same Mul i t u [] [] st x y = st
  shape_same Mul i t u [] (b ∷ bs) st x y = absurd x
  shape_same Mul i t u (a ∷ as') [] st x y = absurd x
  shape_same Mul i t u (a ∷ []) (b ∷ []) st x y = st
  shape_same Mul i t u (a ∷ []) (b ∷ d ∷ bs) st x y = absurd x.1
  shape_same Mul i t u (a ∷ c ∷ as') (b ∷ []) st x y = absurd x.1
  shape_same Mul i t u (a ∷ c ∷ []) (b ∷ d ∷ []) st x y =
      subst (λ (n : Option ℤ). SameSum (of_shape (sum_at ts) t (product_shape (number_at ts a) (number_at ts c) a c)) (of_shape (sum_at us) u (product_shape n (number_at us d) b d))) (number_same a b x.0)
      (subst (λ (n : Option ℤ). SameSum (of_shape (sum_at ts) t (product_shape (number_at ts a) (number_at ts c) a c)) (of_shape (sum_at us) u (product_shape (number_at ts a) n b d))) (number_same c d x.1.0)
      (product_same (number_at ts a) (number_at ts c) t u a c b d st y.0 y.1.0))
  shape_same Mul i t u (a ∷ c ∷ []) (b ∷ d ∷ e ∷ bs) st x y = absurd x.1.1
  shape_same Mul i t u (a ∷ c ∷ e ∷ as') (b ∷ d ∷ []) st x y = absurd x.1.1
  shape_same Mul i t u (a ∷ c ∷ e ∷ as') (b ∷ d ∷ f ∷ bs) st x y = st
  shape_same _ i t u as' bs st x y = st

module _ (ts us : List Term) (gt : IsGraph ts) (gu : IsGraph us) where
  mutual
    sum_of_tree : (f : Formula) (t u : ℕ) → Stands ts t f → Stands us u f → SameSum ts us (sum_at ts t) (sum_at us u)
    sum_of_tree (Node k i fs) t u (as', p, all) (bs, q, also) =
        let st : SameTree ts us t u = record { tree = Node k i fs; left = (as', p, all); right = (bs, q, also) } in
        subst (λ (x : Sum). SameSum ts us x (sum_at us u)) (sym (sum_is ts t (term k i as') (shape_of ts k i as') gt p refl))
        (subst (λ (x : Sum). SameSum ts us (of_shape (sum_at ts) t (shape_of ts k i as')) x) (sym (sum_is us u (term k i bs) (shape_of us k i bs) gu q refl))
        (shape_same ts us k i t u as' bs st (same_args ts us as' bs fs all also) (sums_of_trees fs as' bs all also)))

    sums_of_trees : (fs : Formulas) (as' bs : List ℕ) → AllStand ts as' fs → AllStand us bs fs → SumsSame ts us as' bs
    sums_of_trees Stop as' bs p q = subst (λ (xs : List ℕ). SumsSame ts us xs bs) (sym p) (subst (λ (ys : List ℕ). SumsSame ts us [] ys) (sym q) tt)
    sums_of_trees (With f fs) as' bs (a, xs, p, s, all) (b, ys, q, t, also) =
        subst (λ (zs : List ℕ). SumsSame ts us zs bs) (sym p)
        (subst (λ (zs : List ℕ). SumsSame ts us (a ∷ xs) zs) (sym q) (sum_of_tree f a b s t, sums_of_trees fs xs ys all also))

  pub sum_same : (t u : ℕ) → SameTree ts us t u → SameSum ts us (sum_at ts t) (sum_at us u)
  sum_same t u s = sum_of_tree s.tree t u s.left s.right

  pub number_of_same : (x y : Sum) (p q : Part) → SameSum ts us x y → SamePart ts us p q → number_of x p ≡ number_of y q
  number_of_same (Number n) (Number m) Constant Constant h k = h
  number_of_same (Number n) (Number m) Constant (Coefficient v) h k = absurd k
  number_of_same (Number n) (Number m) (Coefficient u) Constant h k = absurd k
  number_of_same (Number n) (Number m) (Coefficient u) (Coefficient v) h k = refl
  number_of_same (Single t) (Single w) Constant Constant h k = refl
  number_of_same (Single t) (Single w) Constant (Coefficient v) h k = absurd k
  number_of_same (Single t) (Single w) (Coefficient u) Constant h k = absurd k
  number_of_same (Single t) (Single w) (Coefficient u) (Coefficient v) h k = ap (λ (b : Bool). cond b (pos 1) (pos 0)) (eq_same ts us gt gu t u w v h k)
  number_of_same (Plus a b) (Plus c d) p q h k = λ i. number_of_same a c p q h.0 k i +ℤ number_of_same b d p q h.1 k i
  number_of_same (Minus a b) (Minus c d) p q h k = λ i. number_of_same a c p q h.0 k i -ℤ number_of_same b d p q h.1 k i
  number_of_same (Times n a) (Times m c) p q h k = λ i. h.0 i *ℤ number_of_same a c p q h.1 k i
  number_of_same _ _ p q h k = absurd h

-- a unit of the second graph is one of the first, or isn't in the sum
module _ (ts us : List Term) (v : ℕ) where
  abbrev pub Known : ℤ → Type 0
  Known z = ((u : ℕ) × SameTree ts us u v) ⊎ (z ≡ pos 0)

  single_known : (t w : ℕ) (b : Bool) → nat_eq w v ≡ b → SameTree ts us t w → Known (cond b (pos 1) (pos 0))
  single_known t w true e h = inl (t, subst (λ (z : ℕ). SameTree ts us t z) (eqb-true w v e) h)
  single_known t w false e h = inr refl

  pub plus_known : (x y : ℤ) → Known x → Known y → Known (x +ℤ y)
  plus_known x y (inl h) k = inl h
  plus_known x y (inr h) (inl k) = inl k
  plus_known x y (inr h) (inr k) = inr (λ i. h i +ℤ k i)

  pub minus_known : (x y : ℤ) → Known x → Known y → Known (x -ℤ y)
  minus_known x y (inl h) k = inl h
  minus_known x y (inr h) (inl k) = inl k
  minus_known x y (inr h) (inr k) = inr (λ i. h i -ℤ k i)

  pub times_known : (n x : ℤ) → Known x → Known (n *ℤ x)
  times_known n x (inl h) = inl h
  times_known n x (inr h) = inr (ap (λ z. n *ℤ z) h ∙ mul_zero n)

  pub sum_known : (x y : Sum) → SameSum ts us x y → Known (number_of y (Coefficient v))
  sum_known (Number n) (Number m) h = inr refl
  sum_known (Single t) (Single w) h = single_known t w (nat_eq w v) refl h
  sum_known (Plus a b) (Plus c d) h = plus_known (number_of c (Coefficient v)) (number_of d (Coefficient v)) (sum_known a c h.0) (sum_known b d h.1)
  sum_known (Minus a b) (Minus c d) h = minus_known (number_of c (Coefficient v)) (number_of d (Coefficient v)) (sum_known a c h.0) (sum_known b d h.1)
  sum_known (Times n a) (Times m c) h = times_known m (number_of c (Coefficient v)) (sum_known a c h.1)
  sum_known _ _ h = absurd h
