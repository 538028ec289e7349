-- What stands for one tree in two graphs is the same there.
use Rattle.std.proofs.Common.{◌≡◌, inl, inr, ℕ, ℤ, pos, Bool, true, false, nat_eq, List, [], ◌∷◌, Option, Some, None, slice_get, refl, ap, sym, ◌∙◌, subst, eq-eqb}
use Rattle.std.proofs.lemmas.Bool.{eqb-true}
use Rattle.std.specs.Option.{option_and_then}
use Rattle.terms.specs.declared.term.Term.{Term}
use Rattle.terms.specs.declared.term.Literal.{Literal}
use Rattle.terms.specs.declared.term.Kind.{Kind}
use Rattle.terms.specs.Formula.{Formula, Formulas, Node, Stop, With, term, Stands, AllStand}
use Rattle.term_graph.specs.Graph.{IsGraph}
use Rattle.term_graph.proofs.Trees.{equal, only}
use Rattle.rule_layouts.specs.Layouts.{SameTree, SameTrees, SameLiteral, SameClause, SameName, SameNames}

pub some_is : {X : Type 0} (x y : X) → Some x ≡ Some y → x ≡ y
some_is x y h = cc

pub pos_is : (a b : ℕ) → pos a ≡ pos b → a ≡ b
pos_is a b h = cc

-- the value of a partial function on what is there
pub there : {X Y : Type 0} (f : X → Option Y) (o : Option X) (y : Y) → option_and_then f o ≡ Some y → (x : X) × (o ≡ Some x) × (f x ≡ Some y)
there f None y h = absurd (cc)
there f (Some x) y h = (x, refl, h)

pub bool_same : (p q : Bool) → (p ≡ true → q ≡ true) → (q ≡ true → p ≡ true) → p ≡ q
bool_same true q f g = sym (f refl)
bool_same false true f g = g refl
bool_same false false f g = refl

pub flip : (ts us : List Term) (a b : ℕ) → SameTree ts us a b → SameTree us ts b a
flip ts us a b x = record { tree = x.tree; left = x.right; right = x.left }

pub flip_clause : (ts us : List Term) (c d : List Literal) → SameClause ts us c d → SameClause us ts d c
flip_clause ts us [] [] s = tt
flip_clause ts us [] (m ∷ ms) s = absurd s
flip_clause ts us (l ∷ ls) [] s = absurd s
flip_clause ts us (l ∷ ls) (m ∷ ms) s = ((flip ts us l.term m.term s.0.0, sym s.0.1), flip_clause ts us ls ms s.1)

-- arguments of one node
pub same_args : (ts us : List Term) (as' bs : List ℕ) (fs : Formulas) → AllStand ts as' fs → AllStand us bs fs → SameTrees ts us as' bs
same_args ts us as' bs Stop p q = subst (λ (xs : List ℕ). SameTrees ts us xs bs) (sym p) (subst (λ (ys : List ℕ). SameTrees ts us [] ys) (sym q) tt)
same_args ts us as' bs (With f fs) (a, xs, p, s, all) (b, ys, q, t, also) =
    let here : SameTree ts us a b = record { tree = f; left = s; right = t } in
    subst (λ (zs : List ℕ). SameTrees ts us zs bs) (sym p)
    (subst (λ (zs : List ℕ). SameTrees ts us (a ∷ xs) zs) (sym q) (here, same_args ts us xs ys fs all also))

-- the nodes at two numbers
pub record SameNodes (ts us : List Term) (a b : ℕ) : Type 0 where
  pub kind : Kind
  pub index : ℤ
  pub args : List ℕ
  pub others : List ℕ
  pub is : slice_get ts a ≡ Some (term kind index args)
  pub other : slice_get us b ≡ Some (term kind index others)
  pub trees : SameTrees ts us args others

nodes_of : (ts us : List Term) (a b : ℕ) (f : Formula) → Stands ts a f → Stands us b f → SameNodes ts us a b
nodes_of ts us a b (Node k i fs) (as', p, all) (bs, q, also) =
    record { kind = k; index = i; args = as'; others = bs; is = p; other = q; trees = same_args ts us as' bs fs all also }

pub nodes : (ts us : List Term) (a b : ℕ) → SameTree ts us a b → SameNodes ts us a b
nodes ts us a b x = nodes_of ts us a b x.tree x.left x.right

-- one, two and three arguments
pub no_more : (ts us : List Term) (bs : List ℕ) → SameTrees ts us [] bs → bs ≡ []
no_more ts us [] s = refl
no_more ts us (b ∷ bs) s = absurd s

pub first : (ts us : List Term) (a : ℕ) (as' bs : List ℕ) → SameTrees ts us (a ∷ as') bs → (b : ℕ) × (rest : List ℕ) × (bs ≡ b ∷ rest) × SameTree ts us a b × SameTrees ts us as' rest
first ts us a as' [] s = absurd s
first ts us a as' (b ∷ bs) s = (b, bs, refl, s.0, s.1)

pub two : (ts us : List Term) (a b : ℕ) (xs : List ℕ) → SameTrees ts us (a ∷ b ∷ []) xs → (c d : ℕ) × (xs ≡ c ∷ d ∷ []) × SameTree ts us a c × SameTree ts us b d
two ts us a b xs s =
    let p = first ts us a (b ∷ []) xs s in
    let q = first ts us b [] p.1 p.4 in
    (p.0, q.0, p.2 ∙ ap (λ ys. p.0 ∷ ys) (q.2 ∙ ap (λ ys. q.0 ∷ ys) (no_more ts us q.1 q.4)), p.3, q.3)

pub three : (ts us : List Term) (a b c : ℕ) (xs : List ℕ) → SameTrees ts us (a ∷ b ∷ c ∷ []) xs → (d e f : ℕ) × (xs ≡ d ∷ e ∷ f ∷ []) × SameTree ts us a d × SameTree ts us b e × SameTree ts us c f
three ts us a b c xs s =
    let p = first ts us a (b ∷ c ∷ []) xs s in
    let q = two ts us b c p.1 p.4 in
    (p.0, q.0, q.1, p.2 ∙ ap (λ ys. p.0 ∷ ys) q.2, p.3, q.3, q.4)

module _ (ts us : List Term) (gt : IsGraph ts) (gu : IsGraph us) where
  -- a number is the same as one other
  pub one_right : (a b c : ℕ) → SameTree ts us a b → SameTree ts us a c → b ≡ c
  one_right a b c x y = equal us b c x.tree gu x.right (subst (λ (f : Formula). Stands us c f) (only ts a y.tree x.tree y.left x.left) y.right)

  pub one_left : (a b c : ℕ) → SameTree ts us a c → SameTree ts us b c → a ≡ b
  one_left a b c x y = equal ts a b x.tree gt x.left (subst (λ (f : Formula). Stands ts b f) (only us c y.tree x.tree y.right x.right) y.left)

  pub eq_same : (a b c d : ℕ) → SameTree ts us a c → SameTree ts us b d → nat_eq a b ≡ nat_eq c d
  eq_same a b c d x y =
      bool_same (nat_eq a b) (nat_eq c d)
      (λ h. eq-eqb c d (one_right a c d x (subst (λ (z : ℕ). SameTree ts us z d) (sym (eqb-true a b h)) y)))
      (λ h. eq-eqb a b (one_left a b c x (subst (λ (z : ℕ). SameTree ts us b z) (sym (eqb-true c d h)) y)))

  literal_is : (l m n : Literal) → SameLiteral ts us l m → SameLiteral ts us l n → m ≡ n
  literal_is l m n x y = λ i. record { term = one_right l.term m.term n.term x.0 y.0 i; positive = (sym x.1 ∙ y.1) i }

  -- two clauses that are the same as one are one
  pub clause_is : (ls ms ns : List Literal) → SameClause ts us ls ms → SameClause ts us ls ns → ms ≡ ns
  clause_is [] [] [] x y = refl
  clause_is [] [] (n ∷ ns) x y = absurd y
  clause_is [] (m ∷ ms) ns x y = absurd x
  clause_is (l ∷ ls) [] ns x y = absurd x
  clause_is (l ∷ ls) (m ∷ ms) [] x y = absurd y
  clause_is (l ∷ ls) (m ∷ ms) (n ∷ ns) x y = λ i. literal_is l m n x.0 y.0 i ∷ clause_is ls ms ns x.1 y.1 i

  -- where a row gives a clause, it gives the other by the same literals
  pub given_is : (c d ls ms : List Literal) → SameClause ts us c d → c ≡ ls → SameClause ts us ls ms → d ≡ ms
  given_is c d ls ms x e y = clause_is ls d ms (subst (λ (k : List Literal). SameClause ts us k d) e x) y

  -- a number of a step that names a term
  pub name_is : (t : ℕ) (n : Term) (z w : ℤ) → SameName ts us z w → z ≡ pos t → slice_get ts t ≡ Some n → (u : ℕ) × (w ≡ pos u) × SameTree ts us t u
  name_is t n z w (inl (a, b, p, q, s)) e g = (b, q, subst (λ (x : ℕ). SameTree ts us x b) (pos_is a t (sym p ∙ e)) s)
  name_is t n z w (inr h) e g = absurd (h t n e g)

head_is : (z y : ℤ) (zs ys : List ℤ) → z ∷ zs ≡ y ∷ ys → (z ≡ y) × (zs ≡ ys)
head_is z y zs ys h = (cc, cc)

-- the numbers of a step
pub no_name : (ts us : List Term) (zs ws : List ℤ) → SameNames ts us zs ws → zs ≡ [] → ws ≡ []
no_name ts us [] [] s e = refl
no_name ts us [] (w ∷ ws) s e = absurd s
no_name ts us (z ∷ zs) ws s e = absurd (cc)

pub first_name : (ts us : List Term) (y : ℤ) (zs ws ys : List ℤ) → SameNames ts us zs ws → zs ≡ y ∷ ys → (w : ℤ) × (rest : List ℤ) × (ws ≡ w ∷ rest) × SameName ts us y w × SameNames ts us ys rest
first_name ts us y [] ws ys s e = absurd (cc)
first_name ts us y (z ∷ zs) [] ys s e = absurd s
first_name ts us y (z ∷ zs) (w ∷ ws) ys s e =
    let h = head_is z y zs ys e in
    (w, ws, refl, subst (λ (x : ℤ). SameName ts us x w) h.0 s.0, subst (λ (xs : List ℤ). SameNames ts us xs ws) h.1 s.1)
