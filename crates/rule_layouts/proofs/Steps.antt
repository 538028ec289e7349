-- The steps by which forms are worked out are the same in two graphs, and so is the first that leaves 128 bits.
use Rattle.std.proofs.Common.{◌≡◌, ℕ, ℤ, ◌+ℤ◌, ◌*ℤ◌, List, [], ◌∷◌, ◌++◌, map, zip, Option, Some, None, refl, sym, ◌∙◌, subst}
use Rattle.int_ranges.specs.declared.exact.Wide.{Wide}
use Rattle.terms.specs.declared.term.Term.{Term}
use Rattle.terms.specs.declared.term.Literal.{Literal}
use Rattle.terms.specs.declared.sort.Sort.{Sort}
use Rattle.term_graph.specs.Graph.{IsGraph}
use Rattle.rule_linear.specs.declared.form.Part.{Part}
use Rattle.rule_linear.specs.declared.form.Part.TheVariants.{Coefficient, Constant}
use Rattle.rule_linear.specs.declared.bound.Bound.{Bound}
use Rattle.rule_linear.specs.Forms.{Sum, Number, Single, Plus, Minus, Times, Step, units, parts, plus, minus, times, step_at, steps, FirstLeaves, sum_at}
use Rattle.rule_linear.specs.Bounds.{Weighted, bound_at, difference, bound_number, one_step, bound_steps, total, added_steps, total_steps}
use Rattle.rule_linear.specs.Rows.{LinearLeaves}
use Rattle.rule_linear.specs.Cuts.{CutRowLeaves, CutLeaves}
use Rattle.rule_layouts.specs.Layouts.{SameTrees, SameLiteral, SameClause, SameSorts}
use Rattle.rule_layouts.proofs.Sums.{SameSum, SamePart, number_of_same}
use Rattle.rule_layouts.proofs.Linear.{SameSides, SameBound, bound_same, weighting_same, difference_same, bound_number_same, literal_number_same, concluded, split_same}

module _ (ts us : List Term) where
  -- one list behind the other
  both_trees : (as' bs cs ds : List ℕ) → SameTrees ts us as' bs → SameTrees ts us cs ds → SameTrees ts us (as' ++ cs) (bs ++ ds)
  both_trees [] [] cs ds s t = t
  both_trees [] (b ∷ bs) cs ds s t = absurd s
  both_trees (a ∷ as') [] cs ds s t = absurd s
  both_trees (a ∷ as') (b ∷ bs) cs ds s t = (s.0, both_trees as' bs cs ds s.1 t)

  pub units_same : (x y : Sum) → SameSum ts us x y → SameTrees ts us (units x) (units y)
  units_same (Number n) (Number m) h = tt
  units_same (Single t) (Single u) h = (h, tt)
  units_same (Plus a b) (Plus c d) h = both_trees (units a) (units c) (units b) (units d) (units_same a c h.0) (units_same b d h.1)
  units_same (Minus a b) (Minus c d) h = both_trees (units a) (units c) (units b) (units d) (units_same a c h.0) (units_same b d h.1)
  units_same (Times n a) (Times m c) h = units_same a c h.1
  units_same _ _ h = absurd h

  -- one step for each part of two forms with the same units
  pub at_parts : (f g : Part → Step) (as' bs : List ℕ) → ((p q : Part) → SamePart ts us p q → f p ≡ g q) → SameTrees ts us as' bs → map f (parts as') ≡ map g (parts bs)
  at_parts f g [] [] e s = λ i. e Constant Constant tt i ∷ []
  at_parts f g [] (b ∷ bs) e s = absurd s
  at_parts f g (a ∷ as') [] e s = absurd s
  at_parts f g (a ∷ as') (b ∷ bs) e s = λ i. e (Coefficient a) (Coefficient b) s.0 i ∷ at_parts f g as' bs e s.1 i

  module _ (gt : IsGraph ts) (gu : IsGraph us) where
    plus_step : (a b c d : Sum) → SameSum ts us a c → SameSum ts us b d → (p q : Part) → SamePart ts us p q → step_at (Plus a b) p ≡ step_at (Plus c d) q
    plus_step a b c d h k p q s = λ i. plus (number_of_same ts us gt gu a c p q h s i) (number_of_same ts us gt gu b d p q k s i)

    minus_step : (a b c d : Sum) → SameSum ts us a c → SameSum ts us b d → (p q : Part) → SamePart ts us p q → step_at (Minus a b) p ≡ step_at (Minus c d) q
    minus_step a b c d h k p q s = λ i. minus (number_of_same ts us gt gu a c p q h s i) (number_of_same ts us gt gu b d p q k s i)

    times_step : (n m : ℤ) (a c : Sum) → n ≡ m → SameSum ts us a c → (p q : Part) → SamePart ts us p q → step_at (Times n a) p ≡ step_at (Times m c) q
    times_step n m a c e h p q s = λ i. times (e i) (number_of_same ts us gt gu a c p q h s i)

    pub steps_same : (x y : Sum) → SameSum ts us x y → steps x ≡ steps y
    steps_same (Number n) (Number m) h = refl
    steps_same (Single t) (Single u) h = refl
    steps_same (Plus a b) (Plus c d) h =
        let whole : map (step_at (Plus a b)) (parts (units a ++ units b)) ≡ map (step_at (Plus c d)) (parts (units c ++ units d)) =
        at_parts (step_at (Plus a b)) (step_at (Plus c d)) (units a ++ units b) (units c ++ units d) (plus_step a b c d h.0 h.1) (units_same (Plus a b) (Plus c d) h) in
        λ i. steps_same a c h.0 i ++ (steps_same b d h.1 i ++ whole i)
    steps_same (Minus a b) (Minus c d) h =
        let whole : map (step_at (Minus a b)) (parts (units a ++ units b)) ≡ map (step_at (Minus c d)) (parts (units c ++ units d)) =
        at_parts (step_at (Minus a b)) (step_at (Minus c d)) (units a ++ units b) (units c ++ units d) (minus_step a b c d h.0 h.1) (units_same (Minus a b) (Minus c d) h) in
        λ i. steps_same a c h.0 i ++ (steps_same b d h.1 i ++ whole i)
    steps_same (Times n a) (Times m c) h =
        let whole : map (step_at (Times n a)) (parts (units a)) ≡ map (step_at (Times m c)) (parts (units c)) =
        at_parts (step_at (Times n a)) (step_at (Times m c)) (units a) (units c) (times_step n m a c h.0 h.1) (units_same a c h.1) in
        λ i. steps_same a c h.1 i ++ whole i
    steps_same _ _ h = absurd h

  -- two lists of multipliers with their literals
  abbrev pub SameWeights : List Weighted → List Weighted → Type 0
  SameWeights [] [] = Unit {0}
  SameWeights [] (w ∷ ws) = ⊥
  SameWeights (z ∷ zs) [] = ⊥
  SameWeights (z ∷ zs) (w ∷ ws) = ((z.0 ≡ w.0) × SameLiteral ts us z.1 w.1) × SameWeights zs ws

  zipped : (zs : List ℤ) (ls ms : List Literal) → SameClause ts us ls ms → SameWeights (zip zs ls) (zip zs ms)
  zipped [] [] [] s = tt
  zipped [] [] (m ∷ ms) s = absurd s
  zipped [] (l ∷ ls) [] s = absurd s
  zipped [] (l ∷ ls) (m ∷ ms) s = tt
  zipped (z ∷ zs) [] [] s = tt
  zipped (z ∷ zs) [] (m ∷ ms) s = absurd s
  zipped (z ∷ zs) (l ∷ ls) [] s = absurd s
  zipped (z ∷ zs) (l ∷ ls) (m ∷ ms) s = ((refl, s.0), zipped zs ls ms s.1)

  one_more : (zs ws : List Weighted) (z w : Weighted) → SameWeights zs ws → (z.0 ≡ w.0) × SameLiteral ts us z.1 w.1 → SameWeights (zs ++ z ∷ []) (ws ++ w ∷ [])
  one_more [] [] z w s e = (e, tt)
  one_more [] (y ∷ ws) z w s e = absurd s
  one_more (x ∷ zs) [] z w s e = absurd s
  one_more (x ∷ zs) (y ∷ ws) z w s e = (s.0, one_more zs ws z w s.1 e)

  module _ (sorts others : List (Option Sort)) (sorted : SameSorts ts us sorts others) (gt : IsGraph ts) (gu : IsGraph us) where
    bound_steps_same : (b c : Bound) → SameSides ts us b c → bound_steps ts b ≡ bound_steps us c
    bound_steps_same b c s =
        let d = difference_same ts us sorts others sorted gt gu b c s in
        let e = steps_same gt gu (difference ts b) (difference us c) d in
        let n = number_of_same ts us gt gu (difference ts b) (difference us c) Constant Constant d tt in
        λ i. e i ++ one_step (s.strict i) (n i)

    bound_units_same : (b c : Bound) → SameSides ts us b c → SameTrees ts us (units (sum_at ts b.left) ++ units (sum_at ts b.right)) (units (sum_at us c.left) ++ units (sum_at us c.right))
    bound_units_same b c s = units_same (difference ts b) (difference us c) (difference_same ts us sorts others sorted gt gu b c s)

    weights_total : (zs ws : List Weighted) (p q : Part) → SameWeights zs ws → SamePart ts us p q → total sorts ts zs p ≡ total others us ws q
    weights_total [] [] p q s k = refl
    weights_total [] (w ∷ ws) p q s k = absurd s
    weights_total (z ∷ zs) [] p q s k = absurd s
    weights_total (z ∷ zs) (w ∷ ws) p q s k =
        let n = literal_number_same ts us sorts others sorted gt gu (bound_at sorts ts z.1) (bound_at others us w.1) p q (bound_same ts us sorts others sorted z.1 w.1 s.0.1) k in
        λ i. s.0.0 i *ℤ n i +ℤ weights_total zs ws p q s.1 k i

    -- the multiplier times a part of the bound, and this added to the sum of those before
    multiplied : (m n : ℤ) (b c : Bound) → m ≡ n → SameSides ts us b c → (p q : Part) → SamePart ts us p q → times m (bound_number ts b p) ≡ times n (bound_number us c q)
    multiplied m n b c e s p q k = λ i. times (e i) (bound_number_same ts us sorts others sorted gt gu b c p q s k i)

    summed : (zs ws : List Weighted) (m n : ℤ) (b c : Bound) → SameWeights zs ws → m ≡ n → SameSides ts us b c → (p q : Part) → SamePart ts us p q
        → plus (total sorts ts zs p) (m *ℤ bound_number ts b p) ≡ plus (total others us ws q) (n *ℤ bound_number us c q)
    summed zs ws m n b c h e s p q k = λ i. plus (weights_total zs ws p q h k i) (e i *ℤ bound_number_same ts us sorts others sorted gt gu b c p q s k i)

    added_same : (zs ws : List Weighted) (m n : ℤ) (b c : Option Bound) → SameWeights zs ws → m ≡ n → SameBound ts us b c → added_steps sorts ts zs m b ≡ added_steps others us ws n c
    added_same zs ws m n None None h e s = refl
    added_same zs ws m n None (Some c) h e s = absurd s
    added_same zs ws m n (Some b) None h e s = absurd s
    added_same zs ws m n (Some b) (Some c) h e s =
        let left = units (sum_at ts b.left) ++ units (sum_at ts b.right) in
        let right = units (sum_at us c.left) ++ units (sum_at us c.right) in
        let products = at_parts (λ p. times m (bound_number ts b p)) (λ q. times n (bound_number us c q)) left right (multiplied m n b c e s) (bound_units_same b c s) in
        let sums = at_parts (λ p. plus (total sorts ts zs p) (m *ℤ bound_number ts b p)) (λ q. plus (total others us ws q) (n *ℤ bound_number us c q)) left right (summed zs ws m n b c h e s) (bound_units_same b c s) in
        λ i. bound_steps_same b c s i ++ (products i ++ sums i)

    total_steps_same : (xs ys zs ws : List Weighted) → SameWeights xs ys → SameWeights zs ws → total_steps sorts ts xs zs ≡ total_steps others us ys ws
    total_steps_same xs ys [] [] h s = refl
    total_steps_same xs ys [] (w ∷ ws) h s = absurd s
    total_steps_same xs ys (z ∷ zs) [] h s = absurd s
    total_steps_same xs ys (z ∷ zs) (w ∷ ws) h s =
        let here = added_same xs ys z.0 w.0 (bound_at sorts ts z.1) (bound_at others us w.1) h s.0.0 (bound_same ts us sorts others sorted z.1 w.1 s.0.1) in
        let rest = total_steps_same (xs ++ z ∷ []) (ys ++ w ∷ []) zs ws (one_more xs ys z w h s.0) s.1 in
        λ i. here i ++ rest i

    -- the steps of a clause
    all_steps_same : (zs : List ℤ) (c d : List Literal) → SameClause ts us c d → total_steps sorts ts [] (zip zs c) ≡ total_steps others us [] (zip zs d)
    all_steps_same zs c d s = total_steps_same [] [] (zip zs c) (zip zs d) tt (zipped zs c d s)

    pub linear_leaves : (zs : List ℤ) (c d : List Literal) (w : Wide) → SameClause ts us c d → LinearLeaves sorts ts zs c w → LinearLeaves others us zs d w
    linear_leaves zs c d w s h = record {
      weighting = sym (weighting_same ts us sorts others sorted zs c d s) ∙ h.weighting;
      first = subst (λ (ss : List Step). FirstLeaves ss w) (all_steps_same zs c d s) h.first;
    }

    cut_row_leaves : (g : ℤ) (zs : List ℤ) (ls ms : List Literal) (l m : Literal) (w : Wide) → SameClause ts us ls ms → SameLiteral ts us l m → CutRowLeaves sorts ts g zs ls l w → CutRowLeaves others us g zs ms m w
    cut_row_leaves g zs ls ms l m w s x h =
        let q = concluded ts us sorts others sorted gt gu l m h.form.goal x h.form.concludes in
        let all : total_steps sorts ts [] (zip zs ls) ++ bound_steps ts h.form.goal ≡ total_steps others us [] (zip zs ms) ++ bound_steps us q.0 =
        λ i. all_steps_same zs ls ms s i ++ bound_steps_same h.form.goal q.0 q.2 i in
        record {
          form = record { least = h.form.least; weighting = sym (weighting_same ts us sorts others sorted zs ls ms s) ∙ h.form.weighting; goal = q.0; concludes = q.1 };
          first = subst (λ (ss : List Step). FirstLeaves ss w) all h.first;
        }

    pub cut_leaves : (zs : List ℤ) (c d : List Literal) (w : Wide) → SameClause ts us c d → CutLeaves sorts ts zs c w → CutLeaves others us zs d w
    cut_leaves zs c d w s h =
        let p = split_same ts us sorts others sorted gt gu h.before h.last d (subst (λ (k : List Literal). SameClause ts us k d) h.clause_is s) in
        record {
          g = h.g;
          ms = h.ms;
          before = p.0;
          last = p.1;
          numbers_are = h.numbers_are;
          clause_is = p.2;
          row = cut_row_leaves h.g h.ms h.before p.0 h.last p.1 w p.3 p.4 h.row;
        }
