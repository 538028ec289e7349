-- What the numbers of a block's terms name.
use Rattle.std.proofs.Common.{◌≡◌, ℕ, zero, suc, ◌+◌, ◌<◌, ◌≤◌, List, [], ◌∷◌, ◌++◌, map, length, take, All, Option, Some, None, MatchOption, slice_get, get_or, option_map, option_and_then, refl, ap, sym, ◌∙◌, subst, arith}
use Rattle.std.proofs.lemmas.Option.{slice_get_within}
use Rattle.std.proofs.lemmas.List.Elements.{All-head, All-tail, All-nil, All-cons}
use Rattle.terms.specs.declared.term.Term.{Term}
use Rattle.terms.specs.Formula.{Formula, Formulas, Node, Stands, AllStand}
use Rattle.terms.specs.declared.sort.Sort.{Sort}
use Rattle.term_meaning.specs.Filling.{trees}
use Rattle.term_meaning.specs.Meaning.{Language, sort_in}
use Rattle.condition_formulas.specs.Standing.{StandsAs, StandAll, Each}
use Rattle.term_sorts.specs.Sorting.{AreSortsIn}
use Rattle.rule_instances.specs.Reading.{IsName}
use Rattle.block_layout.specs.Trees.{named, tree_over}
use Rattle.block_layout.specs.Layout.{node_of}
use Rattle.block_layout.proofs.Lists.{below_gets}

-- the two parts of what numbers name
pub both_named : {X : Type 0} (o : Option X) (p : Option (List X)) (xs : List X) → option_and_then (λ x. option_map (λ more. x ∷ more) p) o ≡ Some xs → (x : X) × (more : List X) × (o ≡ Some x) × (p ≡ Some more) × (xs ≡ x ∷ more)
both_named None p xs h = cc
both_named (Some x) None xs h = cc
both_named (Some x) (Some more) xs h = (x, more, refl, refl, cc)

stand_at : (ts : List Term) (ids : List ℕ) (fs : List Formula) (n : ℕ) (f : Formula) (d : ℕ) → Each ts ids fs → slice_get fs n ≡ Some f → StandsAs ts (get_or ids n d) f
stand_at ts [] [] n f d e h = cc
stand_at ts [] (g ∷ fs) n f d e h = absurd e
stand_at ts (id ∷ ids) [] n f d e h = absurd e
stand_at ts (id ∷ ids) (g ∷ fs) zero f d e h = let s : g ≡ f = cc in subst (λ (x : Formula). StandsAs ts id x) s e.0
stand_at ts (id ∷ ids) (g ∷ fs) (suc n) f d e h = stand_at ts ids fs n f d e.1 h

-- the name of a tree is a node that is it
pub node_stands : (ts : List Term) (names : List ℕ) (fs : List Formula) (n : ℕ) (f : Formula) → StandAll ts names fs → slice_get fs n ≡ Some f → StandsAs ts (node_of names n) f
node_stands ts names fs n f all h = stand_at ts names fs n f 4_294_967_295 all.each h

-- what the arguments name stands at their nodes
named_each : (ts : List Term) (names : List ℕ) (fs : List Formula) (args : List ℕ) (gs : List Formula) → StandAll ts names fs → named fs args ≡ Some gs → Each ts (map (node_of names) args) gs
named_each ts names fs [] gs all h = let e : [] ≡ gs = cc in subst (λ (xs : List Formula). Each ts [] xs) e tt
named_each ts names fs (n ∷ ns) gs all h =
    let (f, more, p, q, e) = both_named (slice_get fs n) (named fs ns) gs h in
    subst (λ (xs : List Formula). Each ts (map (node_of names) (n ∷ ns)) xs) (sym e)
    (node_stands ts names fs n f all p, named_each ts names fs ns more all q)

all_stand : (ts : List Term) (ids : List ℕ) (fs : List Formula) → Each ts ids fs → AllStand ts ids (trees fs)
all_stand ts [] [] each = refl
all_stand ts [] (f ∷ fs) each = absurd each
all_stand ts (id ∷ ids) [] each = absurd each
all_stand ts (id ∷ ids) (f ∷ fs) each = (id, ids, refl, each.0.tree, all_stand ts ids fs each.1)

pub over_named : (t : Term) (o : Option (List Formula)) (f : Formula) → option_map (λ fs. Node t.kind t.index (trees fs)) o ≡ Some f → (fs : List Formula) × (o ≡ Some fs) × (Node t.kind t.index (trees fs) ≡ f)
over_named t None f h = cc
over_named t (Some fs) f h = (fs, refl, cc)

-- a node over the nodes of its arguments is the term's tree
pub put_stands : (old new : List Term) (names : List ℕ) (fs : List Formula) (t : Term) (f : Formula) (args : List ℕ) (id : ℕ) →
    args ≡ map (node_of names) t.args → ((gs : Formulas) → AllStand old args gs → Stands new id (Node t.kind t.index gs)) →
    StandAll old names fs → tree_over fs t ≡ Some f → StandsAs new id f
put_stands old new names fs t f args id same made all h =
    let (gs, p, e) = over_named t (named fs t.args) f h in
    let each = named_each old names fs t.args gs all p in
    record { tree = subst (λ (x : Formula). Stands new id x) e (made (trees gs) (subst (λ (xs : List ℕ). AllStand old xs (trees gs)) (sym same) (all_stand old (map (node_of names) t.args) gs each))) }

-- numbers below the length name something
pub some_named : {X : Type 0} (xs : List X) (ns : List ℕ) → All (λ a. a < length xs) ns → (ys : List X) × (named xs ns ≡ Some ys)
some_named xs [] h = ([], refl)
some_named xs (n ∷ ns) h =
    let (x, p) = below_gets xs n (All-head (λ a. a < length xs) n ns h) in
    let (ys, q) = some_named xs ns (All-tail (λ a. a < length xs) n ns h) in
    (x ∷ ys, ap (λ o. option_and_then (λ x. option_map (λ more. x ∷ more) (named xs ns)) o) p ∙ ap (λ o. option_map (λ more. x ∷ more) o) q)

pub named_below : {X : Type 0} (xs : List X) (ns : List ℕ) (ys : List X) → named xs ns ≡ Some ys → All (λ a. a < length xs) ns
named_below xs [] ys h = All-nil (λ a. a < length xs)
named_below xs (n ∷ ns) ys h =
    let (x, more, p, q, e) = both_named (slice_get xs n) (named xs ns) ys h in
    All-cons (λ a. a < length xs) n ns (slice_get_within xs n x p) (named_below xs ns more q)

pub none_or : {X : Type 0} (o : Option X) → ((x : X) → o ≡ Some x → ⊥) → o ≡ None
none_or None h = refl
none_or (Some x) h = absurd (h x refl)

-- a term with a number that isn't below its own has no tree
pub no_tree : (fs : List Formula) (t : Term) → (All (λ a. a < length fs) t.args → ⊥) → tree_over fs t ≡ None
no_tree fs t h = ap (λ o. option_map (λ gs. Node t.kind t.index (trees gs)) o) (none_or (named fs t.args) (λ gs e. h (named_below fs t.args gs e)))

pub some_tree : (fs : List Formula) (t : Term) → All (λ a. a < length fs) t.args → (f : Formula) × (tree_over fs t ≡ Some f)
some_tree fs t h = let (gs, e) = some_named fs t.args h in (Node t.kind t.index (trees gs), ap (λ o. option_map (λ gs. Node t.kind t.index (trees gs)) o) e)

names_each : (ts : List Term) (ids : List ℕ) (fs : List Formula) (sorts : List (Option Sort)) (l : Language) → Each ts ids fs → AreSortsIn l ts sorts → (n : ℕ) → MatchOption (slice_get ids n) (slice_get fs n ≡ None) (λ id. IsName ts sorts l id (slice_get fs n))
names_each ts [] [] sorts l e s n = refl
names_each ts [] (f ∷ fs) sorts l e s n = absurd e
names_each ts (id ∷ ids) [] sorts l e s n = absurd e
names_each ts (id ∷ ids) (f ∷ fs) sorts l e s zero = record { formula = f; is = refl; stands = e.0; sort = s.sort id f e.0 }
names_each ts (id ∷ ids) (f ∷ fs) sorts l e s (suc n) = names_each ts ids fs sorts l e.1 s n

-- the names of a block, as an instance takes them
pub block_names : (ts : List Term) (names : List ℕ) (fs : List Formula) (sorts : List (Option Sort)) (l : Language) → StandAll ts names fs → AreSortsIn l ts sorts → (n : ℕ) → MatchOption (slice_get names n) (slice_get fs n ≡ None) (λ id. IsName ts sorts l id (slice_get fs n))
block_names ts names fs sorts l all s = names_each ts names fs sorts l all.each s
