-- The trees of a condition's own terms are those that the terms stand for.
use Rattle.std.proofs.Common.{◌≡◌, ℕ, zero, suc, ◌+◌, List, [], ◌∷◌, ◌++◌, length, Option, Some, slice_get, option_map, option_and_then, refl, ap, sym, ◌∙◌, subst, arith, length-append}
use Rattle.terms.specs.declared.term.Term.{Term}
use Rattle.terms.specs.Formula.{Formula, Formulas, Node, Stop, With, Stands, AllStand, term}
use Rattle.term_meaning.specs.Filling.{trees}
use Rattle.block_layout.specs.Trees.{named, tree_over, Grow}
use Rattle.block_layout.proofs.Lists.{get_front}
use Rattle.block_layout.proofs.Named.{both_named, over_named}

-- what numbers name in a front they name in the whole
named_front : {X : Type 0} (xs ys : List X) (ns : List ℕ) (zs : List X) → named xs ns ≡ Some zs → named (xs ++ ys) ns ≡ Some zs
named_front xs ys [] zs h = h
named_front xs ys (n ∷ ns) zs h =
    let (x, more, p, q, e) = both_named (slice_get xs n) (named xs ns) zs h in
    ap (λ o. option_and_then (λ x. option_map (λ more. x ∷ more) (named (xs ++ ys) ns)) o) (get_front xs ys n x p)
    ∙ ap (λ o. option_map (λ more. x ∷ more) o) (named_front xs ys ns more q) ∙ ap Some (sym e)

assoc : {X : Type 0} (xs ys zs : List X) → (xs ++ ys) ++ zs ≡ xs ++ (ys ++ zs)
assoc [] ys zs = refl
assoc (x ∷ xs) ys zs = ap (λ ws. x ∷ ws) (assoc xs ys zs)

-- all trees begin with the first ones
pub grown_front : (tree : List Formula → Term → Option Formula) (first : List Formula) (ts : List Term) (all : List Formula) → Grow tree first ts all → (more : List Formula) × (all ≡ first ++ more)
grown_front tree first [] all g = ([], g ∙ sym (append_nil first))
  where
    append_nil : {X : Type 0} (xs : List X) → xs ++ [] ≡ xs
    append_nil [] = refl
    append_nil (x ∷ xs) = ap (λ ws. x ∷ ws) (append_nil xs)
grown_front tree first (t ∷ ts) all (f, p, g) =
    let (more, e) = grown_front tree (first ++ f ∷ []) ts all g in
    (f ∷ more, e ∙ assoc first (f ∷ []) more)

get_behind : {X : Type 0} (xs : List X) (x : X) (ys : List X) → slice_get (xs ++ x ∷ ys) (length xs) ≡ Some x
get_behind [] x ys = refl
get_behind (z ∷ xs) x ys = get_behind xs x ys

-- the tree of the term at a place, over a front of all trees
record Grown (tree : List Formula → Term → Option Formula) (all : List Formula) (at : ℕ) (t : Term) : Type 0 where
  front : List Formula
  rest : List Formula
  formula : Formula
  whole : all ≡ front ++ rest
  is : tree front t ≡ Some formula
  here : slice_get all at ≡ Some formula

grown_at : (tree : List Formula → Term → Option Formula) (first : List Formula) (ts : List Term) (all : List Formula) (i : ℕ) (t : Term) → Grow tree first ts all → slice_get ts i ≡ Some t → Grown tree all (length first + i) t
grown_at tree first [] all i t g h = cc
grown_at tree first (u ∷ us) all zero t (f, p, g) h =
    let same : u ≡ t = cc in
    let (more, e) = grown_front tree (first ++ f ∷ []) us all g in
    let whole : all ≡ first ++ f ∷ more = e ∙ assoc first (f ∷ []) more in
    let place : length first + 0 ≡ length first = omega arith in
    record {
      front = first;
      rest = f ∷ more;
      formula = f;
      whole = whole;
      is = subst (λ (x : Term). tree first x ≡ Some f) same p;
      here = ap (λ n. slice_get all n) place ∙ ap (λ (fs : List Formula). slice_get fs (length first)) whole ∙ get_behind first f more;
    }
grown_at tree first (u ∷ us) all (suc i) t (f, p, g) h =
    let r = grown_at tree (first ++ f ∷ []) us all i t g h in
    let place : length first + suc i ≡ length (first ++ f ∷ []) + i = omega (arith, length-append first (f ∷ [])) in
    record { front = r.front; rest = r.rest; formula = r.formula; whole = r.whole; is = r.is; here = ap (λ n. slice_get all n) place ∙ r.here }

mutual
  own_one : (own : List Term) (all : List Formula) → Grow tree_over [] own all → (f : Formula) (i : ℕ) → Stands own i f → slice_get all i ≡ Some f
  own_one own all g (Node k n fs) i (args, at, stand) =
      let r = grown_at tree_over [] own all i (term k n args) g at in
      let (gs, named_is, tree_is) = over_named (term k n args) (named r.front args) r.formula r.is in
      let whole : named all args ≡ Some gs = ap (λ (xs : List Formula). named xs args) r.whole ∙ named_front r.front r.rest args gs named_is in
      let same : trees gs ≡ fs = own_all own all g fs args stand gs whole in
      let place : 0 + i ≡ i = omega arith in
      ap (λ n. slice_get all n) (sym place) ∙ r.here ∙ ap Some (sym tree_is) ∙ ap (λ xs. Some (Node k n xs)) same

  own_all : (own : List Term) (all : List Formula) → Grow tree_over [] own all → (fs : Formulas) (args : List ℕ) → AllStand own args fs → (gs : List Formula) → named all args ≡ Some gs → trees gs ≡ fs
  own_all own all g Stop args stand gs h =
      let e : [] ≡ gs = some_same (sym (ap (λ ns. named all ns) stand) ∙ h) in
      ap trees (sym e)
    where
      some_same : {xs ys : List Formula} → Some xs ≡ Some ys → xs ≡ ys
      some_same p = cc
  own_all own all g (With f fs) args (a, rest, e, s, stand) gs h =
      let (x, more, p, q, is) = both_named (slice_get all a) (named all rest) gs (sym (ap (λ ns. named all ns) e) ∙ h) in
      let first : Some x ≡ Some f = sym p ∙ own_one own all g f a s in
      let same : x ≡ f = cc in
      ap trees is ∙ ap (λ y. With y (trees more)) same ∙ ap (λ ys. With f ys) (own_all own all g fs rest stand more q)

-- the tree at the root of a numbering is the formula
pub own_tree : (own : List Term) (all : List Formula) (i : ℕ) (f : Formula) → Grow tree_over [] own all → Stands own i f → slice_get all i ≡ Some f
own_tree own all i f g s = own_one own all g f i s
