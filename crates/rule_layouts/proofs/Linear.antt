-- linear, cut and split in two graphs.
use Rattle.std.proofs.Common.{◌≡◌, inl, inr, ℕ, ℤ, pos, ◌+ℤ◌, ◌*ℤ◌, ◌<ℤ◌, int_le, Bool, true, false, ◌&&◌, ◌||◌, if◌then◌else◌, List, [], ◌∷◌, ◌++◌, zip, Option, Some, None, refl, ap, sym, ◌∙◌, subst}
use Rattle.std.specs.Option.{option_and_then}
use Rattle.int_ranges.specs.Ring.{mul_zero}
use Rattle.terms.specs.declared.term.Term.{Term}
use Rattle.terms.specs.declared.term.Literal.{Literal}
use Rattle.terms.specs.declared.term.Kind.{Kind}
use Rattle.terms.specs.declared.term.Kind.TheVariants.{Le, Eq}
use Rattle.terms.specs.declared.sort.Sort.{Sort}
use Rattle.term_graph.specs.Graph.{IsGraph}
use Rattle.vcc_rules.specs.Rows.{yes, no}
use Rattle.rule_linear.specs.declared.form.Part.{Part}
use Rattle.rule_linear.specs.declared.form.Part.TheVariants.{Coefficient, Constant}
use Rattle.rule_linear.specs.declared.bound.Bound.{Bound}
use Rattle.rule_linear.specs.Forms.{number_of}
use Rattle.rule_linear.specs.Bounds.{is_int_sort, is_int, bound, bound_of, bound_at, difference, one_of, bound_number, literal_number, fits_bound, total, is_weighting}
use Rattle.rule_linear.specs.Rows.{IsLinear, IsSplit}
use Rattle.rule_linear.specs.Cuts.{conclusion_of, conclusion, rounded_up, IsCutRow, IsCut}
use Rattle.rule_layouts.specs.Layouts.{SameTree, SameTrees, SameLiteral, SameClause, SameNames, SameSorts}
use Rattle.rule_layouts.proofs.Trees.{SameNodes, nodes, some_is, one_right, given_is}
use Rattle.rule_layouts.proofs.Comparisons.{compared_same, compared_there}
use Rattle.rule_layouts.proofs.Sides.{sides_same, sides_there}
use Rattle.rule_layouts.proofs.Equality.{name_three}
use Rattle.rule_layouts.proofs.Sums.{SameSum, SamePart, sum_same, number_of_same, Known, plus_known, times_known, sum_known}

module _ (ts us : List Term) where
  -- two bounds of the same sides
  pub record SameSides (b c : Bound) : Type 0 where
    pub left : SameTree ts us b.left c.left
    pub right : SameTree ts us b.right c.right
    pub strict : b.strict ≡ c.strict
    pub equal : b.equal ≡ c.equal

  abbrev pub SameBound : Option Bound → Option Bound → Type 0
  SameBound None None = Unit {0}
  SameBound None (Some c) = ⊥
  SameBound (Some b) None = ⊥
  SameBound (Some b) (Some c) = SameSides b c

  -- where both sides are Int there is a bound
  equal_bound : (x y : Bool) (a b c d : ℕ) → x ≡ y → SameTree ts us a c → SameTree ts us b d → SameBound (if x then Some (bound a b false true) else None) (if y then Some (bound c d false true) else None)
  equal_bound true true a b c d e p q = record { left = p; right = q; strict = refl; equal = refl }
  equal_bound true false a b c d e p q = absurd (cc)
  equal_bound false true a b c d e p q = absurd (cc)
  equal_bound false false a b c d e p q = tt

  module _ (sorts others : List (Option Sort)) (sorted : SameSorts ts us sorts others) where
    int_same : (a b : ℕ) → SameTree ts us a b → is_int sorts a ≡ is_int others b
    int_same a b s = ap is_int_sort (sorted a b s)

    of_args : (k : Kind) (as' bs : List ℕ) (p : Bool) → SameTrees ts us as' bs → SameBound (bound_of sorts k as' p) (bound_of others k bs p)
    of_args Le [] [] p s = tt
    of_args Le [] (b ∷ bs) p s = absurd s
    of_args Le (a ∷ as') [] p s = absurd s
    of_args Le (a ∷ []) (b ∷ []) p s = tt
    of_args Le (a ∷ []) (b ∷ d ∷ bs) p s = absurd s.1
    of_args Le (a ∷ c ∷ as') (b ∷ []) p s = absurd s.1
    of_args Le (a ∷ c ∷ []) (b ∷ d ∷ []) true s = record { left = s.1.0; right = s.0; strict = refl; equal = refl }
    of_args Le (a ∷ c ∷ []) (b ∷ d ∷ []) false s = record { left = s.0; right = s.1.0; strict = refl; equal = refl }
    of_args Le (a ∷ c ∷ []) (b ∷ d ∷ e ∷ bs) p s = absurd s.1.1
    of_args Le (a ∷ c ∷ e ∷ as') (b ∷ d ∷ []) p s = absurd s.1.1
    of_args Le (a ∷ c ∷ e ∷ as') (b ∷ d ∷ f ∷ bs) p s = tt
    of_args Eq [] [] p s = tt
    of_args Eq [] (b ∷ bs) p s = absurd s
    of_args Eq (a ∷ as') [] p s = absurd s
    of_args Eq (a ∷ []) (b ∷ []) p s = tt
    of_args Eq (a ∷ []) (b ∷ d ∷ bs) p s = absurd s.1
    of_args Eq (a ∷ c ∷ as') (b ∷ []) p s = absurd s.1
    of_args Eq (a ∷ c ∷ []) (b ∷ d ∷ []) true s = tt
    of_args Eq (a ∷ c ∷ []) (b ∷ d ∷ []) false s =
        equal_bound (is_int sorts a && is_int sorts c) (is_int others b && is_int others d) a c b d (λ i. int_same a b s.0 i && int_same c d s.1.0 i) s.0 s.1.0
    of_args Eq (a ∷ c ∷ []) (b ∷ d ∷ e ∷ bs) p s = absurd s.1.1
    of_args Eq (a ∷ c ∷ e ∷ as') (b ∷ d ∷ []) p s = absurd s.1.1
    of_args Eq (a ∷ c ∷ e ∷ as') (b ∷ d ∷ f ∷ bs) p s = tt
    of_args _ as' bs p s = tt

    bound_of_nodes : (l m : Literal) → SameNodes ts us l.term m.term → l.positive ≡ m.positive → SameBound (bound_at sorts ts l) (bound_at others us m)
    bound_of_nodes l m n e =
        subst (λ (x : Option Bound). SameBound x (bound_at others us m)) (sym (ap (option_and_then (λ (o : Term). bound_of sorts o.kind o.args l.positive)) n.is))
        (subst (λ (x : Option Bound). SameBound (bound_of sorts n.kind n.args l.positive) x) (sym (ap (option_and_then (λ (o : Term). bound_of others o.kind o.args m.positive)) n.other))
        (subst (λ (x : Bool). SameBound (bound_of sorts n.kind n.args l.positive) (bound_of others n.kind n.others x)) e (of_args n.kind n.args n.others l.positive n.trees)))

    pub bound_same : (l m : Literal) → SameLiteral ts us l m → SameBound (bound_at sorts ts l) (bound_at others us m)
    bound_same l m s = bound_of_nodes l m (nodes ts us l.term m.term s.0) s.1

    fits_same : (b c : Option Bound) (z : ℤ) → SameBound b c → fits_bound b z ≡ fits_bound c z
    fits_same None None z s = refl
    fits_same None (Some c) z s = absurd s
    fits_same (Some b) None z s = absurd s
    fits_same (Some b) (Some c) z s = ap (λ (x : Bool). x || int_le (pos 0) z) s.equal

    pub weighting_same : (zs : List ℤ) (ls ms : List Literal) → SameClause ts us ls ms → is_weighting sorts ts zs ls ≡ is_weighting others us zs ms
    weighting_same [] [] [] s = refl
    weighting_same [] [] (m ∷ ms) s = absurd s
    weighting_same [] (l ∷ ls) [] s = absurd s
    weighting_same [] (l ∷ ls) (m ∷ ms) s = refl
    weighting_same (z ∷ zs) [] [] s = refl
    weighting_same (z ∷ zs) [] (m ∷ ms) s = absurd s
    weighting_same (z ∷ zs) (l ∷ ls) [] s = absurd s
    weighting_same (z ∷ zs) (l ∷ ls) (m ∷ ms) s = λ i. fits_same (bound_at sorts ts l) (bound_at others us m) z (bound_same l m s.0) i && weighting_same zs ls ms s.1 i

    -- the units of the second graph
    one_known : (v : ℕ) (b : Bool) → Known ts us v (one_of b (Coefficient v))
    one_known v true = inr refl
    one_known v false = inr refl

    module _ (gt : IsGraph ts) (gu : IsGraph us) where
      pub difference_same : (b c : Bound) → SameSides b c → SameSum ts us (difference ts b) (difference us c)
      difference_same b c s = (sum_same ts us gt gu b.left c.left s.left, sum_same ts us gt gu b.right c.right s.right)

      one_same : (x y : Bool) (p q : Part) → x ≡ y → SamePart ts us p q → one_of x p ≡ one_of y q
      one_same true true Constant Constant e k = refl
      one_same true true Constant (Coefficient v) e k = absurd k
      one_same true true (Coefficient u) Constant e k = absurd k
      one_same true true (Coefficient u) (Coefficient v) e k = refl
      one_same true false p q e k = absurd (cc)
      one_same false true p q e k = absurd (cc)
      one_same false false p q e k = refl

      pub bound_number_same : (b c : Bound) (p q : Part) → SameSides b c → SamePart ts us p q → bound_number ts b p ≡ bound_number us c q
      bound_number_same b c p q s k = λ i. number_of_same ts us gt gu (difference ts b) (difference us c) p q (difference_same b c s) k i +ℤ one_same b.strict c.strict p q s.strict k i

      pub bound_number_known : (v : ℕ) (b c : Bound) → SameSides b c → Known ts us v (bound_number us c (Coefficient v))
      bound_number_known v b c s =
          plus_known ts us v (number_of (difference us c) (Coefficient v)) (one_of c.strict (Coefficient v)) (sum_known ts us v (difference ts b) (difference us c) (difference_same b c s)) (one_known v c.strict)

      pub literal_number_same : (b c : Option Bound) (p q : Part) → SameBound b c → SamePart ts us p q → literal_number ts b p ≡ literal_number us c q
      literal_number_same None None p q s k = refl
      literal_number_same None (Some c) p q s k = absurd s
      literal_number_same (Some b) None p q s k = absurd s
      literal_number_same (Some b) (Some c) p q s k = bound_number_same b c p q s k

      literal_number_known : (v : ℕ) (b c : Option Bound) → SameBound b c → Known ts us v (literal_number us c (Coefficient v))
      literal_number_known v None None s = inr refl
      literal_number_known v None (Some c) s = absurd s
      literal_number_known v (Some b) None s = absurd s
      literal_number_known v (Some b) (Some c) s = bound_number_known v b c s

      pub total_same : (zs : List ℤ) (ls ms : List Literal) (p q : Part) → SameClause ts us ls ms → SamePart ts us p q → total sorts ts (zip zs ls) p ≡ total others us (zip zs ms) q
      total_same [] [] [] p q s k = refl
      total_same [] [] (m ∷ ms) p q s k = absurd s
      total_same [] (l ∷ ls) [] p q s k = absurd s
      total_same [] (l ∷ ls) (m ∷ ms) p q s k = refl
      total_same (z ∷ zs) [] [] p q s k = refl
      total_same (z ∷ zs) [] (m ∷ ms) p q s k = absurd s
      total_same (z ∷ zs) (l ∷ ls) [] p q s k = absurd s
      total_same (z ∷ zs) (l ∷ ls) (m ∷ ms) p q s k =
          λ i. z *ℤ literal_number_same (bound_at sorts ts l) (bound_at others us m) p q (bound_same l m s.0) k i +ℤ total_same zs ls ms p q s.1 k i

      pub total_known : (v : ℕ) (zs : List ℤ) (ls ms : List Literal) → SameClause ts us ls ms → Known ts us v (total others us (zip zs ms) (Coefficient v))
      total_known v [] [] [] s = inr refl
      total_known v [] [] (m ∷ ms) s = absurd s
      total_known v [] (l ∷ ls) [] s = absurd s
      total_known v [] (l ∷ ls) (m ∷ ms) s = inr refl
      total_known v (z ∷ zs) [] [] s = inr refl
      total_known v (z ∷ zs) [] (m ∷ ms) s = absurd s
      total_known v (z ∷ zs) (l ∷ ls) [] s = absurd s
      total_known v (z ∷ zs) (l ∷ ls) (m ∷ ms) s =
          plus_known ts us v (z *ℤ literal_number us (bound_at others us m) (Coefficient v)) (total others us (zip zs ms) (Coefficient v))
          (times_known ts us v z (literal_number us (bound_at others us m) (Coefficient v)) (literal_number_known v (bound_at sorts ts l) (bound_at others us m) (bound_same l m s.0)))
          (total_known v zs ls ms s.1)

      no_unit : (v : ℕ) (zs : List ℤ) (ls ms : List Literal) → SameClause ts us ls ms → ((u : ℕ) → total sorts ts (zip zs ls) (Coefficient u) ≡ pos 0) → Known ts us v (total others us (zip zs ms) (Coefficient v)) → total others us (zip zs ms) (Coefficient v) ≡ pos 0
      no_unit v zs ls ms s z (inl (u, h)) = sym (total_same zs ls ms (Coefficient u) (Coefficient v) s h) ∙ z u
      no_unit v zs ls ms s z (inr h) = h

      pub linear_same : (zs : List ℤ) (c d : List Literal) → SameClause ts us c d → IsLinear sorts ts zs c → IsLinear others us zs d
      linear_same zs c d s h = record {
        weighting = sym (weighting_same zs c d s) ∙ h.weighting;
        units = λ v. no_unit v zs c d s h.units (total_known v zs c d s);
        positive = subst (λ (z : ℤ). pos 0 <ℤ z) (total_same zs c d Constant Constant s tt) h.positive;
      }

      -- cut
      conclusion_args : (k : Kind) (as' bs : List ℕ) (p : Bool) → SameTrees ts us as' bs → SameBound (conclusion_of k as' p) (conclusion_of k bs p)
      conclusion_args Le [] [] p s = tt
      conclusion_args Le [] (b ∷ bs) p s = absurd s
      conclusion_args Le (a ∷ as') [] p s = absurd s
      conclusion_args Le (a ∷ []) (b ∷ []) p s = tt
      conclusion_args Le (a ∷ []) (b ∷ d ∷ bs) p s = absurd s.1
      conclusion_args Le (a ∷ c ∷ as') (b ∷ []) p s = absurd s.1
      conclusion_args Le (a ∷ c ∷ []) (b ∷ d ∷ []) true s = record { left = s.0; right = s.1.0; strict = refl; equal = refl }
      conclusion_args Le (a ∷ c ∷ []) (b ∷ d ∷ []) false s = tt
      conclusion_args Le (a ∷ c ∷ []) (b ∷ d ∷ e ∷ bs) p s = absurd s.1.1
      conclusion_args Le (a ∷ c ∷ e ∷ as') (b ∷ d ∷ []) p s = absurd s.1.1
      conclusion_args Le (a ∷ c ∷ e ∷ as') (b ∷ d ∷ f ∷ bs) p s = tt
      conclusion_args _ as' bs p s = tt

      conclusion_of_nodes : (l m : Literal) → SameNodes ts us l.term m.term → l.positive ≡ m.positive → SameBound (conclusion ts l) (conclusion us m)
      conclusion_of_nodes l m n e =
          subst (λ (x : Option Bound). SameBound x (conclusion us m)) (sym (ap (option_and_then (λ (o : Term). conclusion_of o.kind o.args l.positive)) n.is))
          (subst (λ (x : Option Bound). SameBound (conclusion_of n.kind n.args l.positive) x) (sym (ap (option_and_then (λ (o : Term). conclusion_of o.kind o.args m.positive)) n.other))
          (subst (λ (x : Bool). SameBound (conclusion_of n.kind n.args l.positive) (conclusion_of n.kind n.others x)) e (conclusion_args n.kind n.args n.others l.positive n.trees)))

      some_bound : (x y : Option Bound) (b : Bound) → SameBound x y → x ≡ Some b → (c : Bound) × (y ≡ Some c) × SameSides b c
      some_bound None y b s e = absurd (cc)
      some_bound (Some a) None b s e = absurd s
      some_bound (Some a) (Some c) b s e = (c, refl, subst (λ (z : Bound). SameSides z c) (some_is a b e) s)

      pub concluded : (l m : Literal) (b : Bound) → SameLiteral ts us l m → conclusion ts l ≡ Some b → (c : Bound) × (conclusion us m ≡ Some c) × SameSides b c
      concluded l m b s e = some_bound (conclusion ts l) (conclusion us m) b (conclusion_of_nodes l m (nodes ts us l.term m.term s.0) s.1) e

      -- a clause with its last literal
      pub split_same : (ls : List Literal) (l : Literal) (d : List Literal) → SameClause ts us (ls ++ l ∷ []) d → (ms : List Literal) × (m : Literal) × (d ≡ ms ++ m ∷ []) × SameClause ts us ls ms × SameLiteral ts us l m
      split_same [] l [] s = absurd s
      split_same [] l (m ∷ []) s = ([], m, refl, tt, s.0)
      split_same [] l (m ∷ n ∷ d) s = absurd s.1
      split_same (k ∷ ls) l [] s = absurd s
      split_same (k ∷ ls) l (n ∷ d) s = let p = split_same ls l d s.1 in (n ∷ p.0, p.1, ap (λ x. n ∷ x) p.2, (s.0, p.3), p.4)

      cut_units :
          (v : ℕ) (g : ℤ) (zs : List ℤ) (ls ms : List Literal) (b c : Bound) → SameClause ts us ls ms → SameSides b c
          → ((u : ℕ) → total sorts ts (zip zs ls) (Coefficient u) ≡ g *ℤ bound_number ts b (Coefficient u))
          → Known ts us v (total others us (zip zs ms) (Coefficient v)) → Known ts us v (bound_number us c (Coefficient v))
          → total others us (zip zs ms) (Coefficient v) ≡ g *ℤ bound_number us c (Coefficient v)
      cut_units v g zs ls ms b c s t h (inl (u, k)) y =
          sym (total_same zs ls ms (Coefficient u) (Coefficient v) s k) ∙ (h u ∙ ap (λ z. g *ℤ z) (bound_number_same b c (Coefficient u) (Coefficient v) t k))
      cut_units v g zs ls ms b c s t h (inr x) (inl (u, k)) =
          sym (total_same zs ls ms (Coefficient u) (Coefficient v) s k) ∙ (h u ∙ ap (λ z. g *ℤ z) (bound_number_same b c (Coefficient u) (Coefficient v) t k))
      cut_units v g zs ls ms b c s t h (inr x) (inr y) = x ∙ sym (ap (λ z. g *ℤ z) y ∙ mul_zero g)

      cut_row_same : (g : ℤ) (zs : List ℤ) (ls ms : List Literal) (l m : Literal) → SameClause ts us ls ms → SameLiteral ts us l m → IsCutRow sorts ts g zs ls l → IsCutRow others us g zs ms m
      cut_row_same g zs ls ms l m s x h =
          let q = concluded l m h.form.goal x h.form.concludes in record {
            form = record { least = h.form.least; weighting = sym (weighting_same zs ls ms s) ∙ h.form.weighting; goal = q.0; concludes = q.1 };
            units = λ v. cut_units v g zs ls ms h.form.goal q.0 s q.2 h.units (total_known v zs ls ms s) (bound_number_known v h.form.goal q.0 q.2);
            constant =
                sym (bound_number_same h.form.goal q.0 Constant Constant q.2 tt)
                ∙ (h.constant ∙ ap (λ z. rounded_up z g) (total_same zs ls ms Constant Constant s tt));
          }

      pub cut_same : (zs : List ℤ) (c d : List Literal) → SameClause ts us c d → IsCut sorts ts zs c → IsCut others us zs d
      cut_same zs c d s h =
          let p = split_same h.before h.last d (subst (λ (k : List Literal). SameClause ts us k d) h.clause_is s) in
          record { g = h.g; ms = h.ms; before = p.0; last = p.1; numbers_are = h.numbers_are; clause_is = p.2; row = cut_row_same h.g h.ms h.before p.0 h.last p.1 p.3 p.4 h.row }

      pub split_row_same : (zs ws : List ℤ) (c d : List Literal) → SameNames ts us zs ws → SameClause ts us c d → IsSplit sorts ts zs c → IsSplit others us ws d
      split_row_same zs ws c d s x (t, u, v, a, b, e, f, h, k, l, m, g) =
          let n = sides_there ts t a b f in
          let o = compared_there ts u a b h in
          let o' = compared_there ts v b a k in
          let w = name_three ts us gt gu t u v n.0 o.0 o'.0 zs ws s e n.1 o.1 o'.1 in
          let p = sides_same ts us t w.0 a b w.4 f in
          let q = compared_same ts us u w.1 a b w.5 h in
          let r = compared_same ts us v w.2 b a w.6 k in
          let qa : q.0 ≡ p.0 = one_right ts us gt gu a q.0 p.0 q.3 p.3 in
          let qb : q.1 ≡ p.1 = one_right ts us gt gu b q.1 p.1 q.4 p.4 in
          let rb : r.0 ≡ p.1 = one_right ts us gt gu b r.0 p.1 r.3 p.4 in
          let ra : r.1 ≡ p.0 = one_right ts us gt gu a r.1 p.0 r.4 p.3 in (
            w.0,
            w.1,
            w.2,
            p.0,
            p.1,
            w.3,
            p.2,
            q.2 ∙ (λ i. Some (qa i, qb i)),
            r.2 ∙ (λ i. Some (rb i, ra i)),
            sym (int_same a p.0 p.3) ∙ l,
            sym (int_same b p.1 p.4) ∙ m,
            given_is ts us gt gu c d (yes t ∷ no u ∷ no v ∷ []) (yes w.0 ∷ no w.1 ∷ no w.2 ∷ []) x g ((w.4, refl), ((w.5, refl), ((w.6, refl), tt))),
          )
