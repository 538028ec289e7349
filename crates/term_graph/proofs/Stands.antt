-- What a node of a graph stands for.
use Rattle.std.proofs.Common.{◌≡◌, ℕ, ℤ, ◌<◌, nat_lt, true, cond, List, [], ◌∷◌, length, All, Result, Ok, Err, IfOk, OnErr, refl, ap, sym, ◌∙◌, subst}
use Rattle.std.proofs.lemmas.Bool.{lt-ltb, ltb-true}
use Rattle.std.proofs.lemmas.Option.{slice_get_within}
use Rattle.std.proofs.lemmas.List.Elements.{All-head, All-tail, All-nil, All-cons, All-weaker, filter_passes}
use Rattle.terms.specs.declared.term.Term.{Term}
use Rattle.terms.specs.declared.term.Kind.{Kind}
use Rattle.terms.specs.Formula.{Formula, Formulas, Node, Stop, With, term, Interns, Stands, AllStand}
use Rattle.terms.proofs.Numbering.{interns_extends, interns_at, stands_more, all_stand_more}
use Rattle.term_graph.specs.Graph.{those_below, Later}

-- a number that stands is that of a node
pub stands_within : (ts : List Term) (id : ℕ) (f : Formula) → Stands ts id f → id < length ts
stands_within ts id (Node k n fs) (args, g, all) = slice_get_within ts id (term k n args) g

pub all_stand_within : (ts : List Term) (ids : List ℕ) (fs : Formulas) → AllStand ts ids fs → All (λ a. a < length ts) ids
all_stand_within ts ids Stop h = subst (λ (xs : List ℕ). All (λ a. a < length ts) xs) (sym h) (All-nil (λ a. a < length ts))
all_stand_within ts ids (With f fs) (a, rest, e, s, all) =
    subst (λ (xs : List ℕ). All (λ a. a < length ts) xs) (sym e)
    (All-cons (λ a. a < length ts) a rest (stands_within ts a f s) (all_stand_within ts rest fs all))

-- where all are numbers of nodes none is left out
pub below_all : (n : ℕ) (ids : List ℕ) → All (λ a. a < n) ids → those_below n ids ≡ ids
below_all n [] h = refl
below_all n (a ∷ as') h =
    ap (λ b. cond b (a ∷ those_below n as') (those_below n as')) (lt-ltb a n (All-head (λ a. a < n) a as' h))
    ∙ ap (λ xs. a ∷ xs) (below_all n as' (All-tail (λ a. a < n) a as' h))

pub filtered_below : (n : ℕ) (ids : List ℕ) → All (λ a. a < n) (those_below n ids)
filtered_below n ids = All-weaker (λ a. nat_lt a n ≡ true) (λ a. a < n) (λ a h. ltb-true a n h) (those_below n ids) (filter_passes (λ a. nat_lt a n) ids)

-- a node interned in a graph stands for the tree of those that its arguments stand for
interned_stands : (old new : List Term) (kind : Kind) (index : ℤ) (ids : List ℕ) (id : ℕ) (fs : Formulas) → Interns old (term kind index (those_below (length old) ids)) new id → AllStand old ids fs → Stands new id (Node kind index fs)
interned_stands old new kind index ids id fs i all =
    let args = those_below (length old) ids in
    let same : args ≡ ids = below_all (length old) ids (all_stand_within old ids fs all) in (
      args,
      interns_at old new (term kind index args) id i,
      subst (λ (xs : List ℕ). AllStand new xs fs) (sym same) (all_stand_more old new ids fs (interns_extends old new (term kind index args) id i) all),
    )

pub ok_stands : {E : Type 0} (old new : List Term) (kind : Kind) (index : ℤ) (ids args : List ℕ) (r : Result ℕ E) → args ≡ those_below (length old) ids → IfOk r (λ id. Interns old (term kind index args) new id) → IfOk r (λ id. (fs : Formulas) → AllStand old ids fs → Stands new id (Node kind index fs))
ok_stands old new kind index ids args (Ok id) e i =
    λ fs all. interned_stands old new kind index ids id fs (subst (λ (xs : List ℕ). Interns old (term kind index xs) new id) e i) all
ok_stands old new kind index ids args (Err x) e i = tt

-- what stood stands behind
interned_later : (old new : List Term) (t : Term) (id : ℕ) → Interns old t new id → Later old new
interned_later old new t id i n f s = stands_more old new n f (interns_extends old new t id i) s

pub same_later : (old new : List Term) → new ≡ old → Later old new
same_later old new e n f s = subst (λ (ts : List Term). Stands ts n f) (sym e) s

pub ok_later : {E : Type 0} (old new : List Term) (t : Term) (r : Result ℕ E) → IfOk r (λ id. Interns old t new id) → OnErr r (new ≡ old) → Later old new
ok_later old new t (Ok id) i e = interned_later old new t id i
ok_later old new t (Err x) i e = same_later old new e

pub later_then : (a b c : List Term) → Later a b → Later b c → Later a c
later_then a b c p q n f s = q n f (p n f s)
