-- Nodes and lists of them, and what stood.
use Rattle.std.specs.Prelude.{ℕ, ℤ, zero, suc, List, [], ◌∷◌, ◌≡◌, ◌++◌, ◌<◌, ◌+◌, length, drop, IfOk}
use Rattle.std.proofs.Common.{refl, ap, sym, ◌∙◌, get_or, subst, Result, Ok, Err, Vec, Global, arith}
use Rattle.terms.specs.declared.term.Term.{Term}
use Rattle.terms.specs.declared.term.Kind.{Kind}
use Rattle.terms.specs.Formula.{Formula, Formulas, Node, Stands, AllStand}
use Rattle.conditions.specs.Formulas.{row}
use Rattle.condition_formulas.specs.Standing.{StandsAs, StandAll, Each, Later}

trees : (ts : List Term) (ids : List ℕ) (fs : List Formula) → Each ts ids fs → AllStand ts ids (row fs)
trees ts [] [] each = refl
trees ts [] (f ∷ fs) each = absurd each
trees ts (id ∷ ids) [] each = absurd each
trees ts (id ∷ ids) (f ∷ fs) each = (id, ids, refl, each.0.tree, trees ts ids fs each.1)

-- what a graph's clause says, as records say it
pub node_is : {old new : List Term} {kind : Kind} {index : ℤ} {ids : List ℕ} {id : ℕ} (fs : List Formula) → ((gs : Formulas) → AllStand old ids gs → Stands new id (Node kind index gs)) → StandAll old ids fs → StandsAs new id (Node kind index (row fs))
node_is {old} {ids = ids} fs made all = record { tree = made (row fs) (trees old ids fs all.each) }

pub later_is : {old new : List Term} → ((n : ℕ) (f : Formula) → Stands old n f → Stands new n f) → (n : ℕ) (f : Formula) → StandsAs old n f → StandsAs new n f
later_is later n f is = record { tree = later n f is.tree }

-- Lists.

pub none : {ts : List Term} → StandAll ts [] []
none = record { each = tt }

pub more : {ts : List Term} {id : ℕ} {ids : List ℕ} {f : Formula} {fs : List Formula} → StandsAs ts id f → StandAll ts ids fs → StandAll ts (id ∷ ids) (f ∷ fs)
more first rest = record { each = (first, rest.each) }

each_later : (old new : List Term) (ids : List ℕ) (fs : List Formula) → Later old new → Each old ids fs → Each new ids fs
each_later old new [] [] later each = tt
each_later old new [] (f ∷ fs) later each = absurd each
each_later old new (id ∷ ids) [] later each = absurd each
each_later old new (id ∷ ids) (f ∷ fs) later each = (later id f each.0, each_later old new ids fs later each.1)

pub all_later : {old new : List Term} {ids : List ℕ} {fs : List Formula} → Later old new → StandAll old ids fs → StandAll new ids fs
all_later {old} {new} {ids} {fs} later all = record { each = each_later old new ids fs later all.each }

each_both : (ts : List Term) (is js : List ℕ) (fs gs : List Formula) → Each ts is fs → Each ts js gs → Each ts (is ++ js) (fs ++ gs)
each_both ts [] js [] gs first second = second
each_both ts [] js (f ∷ fs) gs first second = absurd first
each_both ts (i ∷ is) js [] gs first second = absurd first
each_both ts (i ∷ is) js (f ∷ fs) gs first second = (first.0, each_both ts is js fs gs first.1 second)

-- a list and another
pub both : {ts : List Term} {is js : List ℕ} {fs gs : List Formula} → StandAll ts is fs → StandAll ts js gs → StandAll ts (is ++ js) (fs ++ gs)
both {ts} {is} {js} {fs} {gs} first second = record { each = each_both ts is js fs gs first.each second.each }

-- a list and one more
pub then_one : {ts : List Term} {ids : List ℕ} {fs : List Formula} {id : ℕ} {f : Formula} → StandAll ts ids fs → StandsAs ts id f → StandAll ts (ids ++ id ∷ []) (fs ++ f ∷ [])
then_one all one = both all (more one none)

each_long : (ts : List Term) (ids : List ℕ) (fs : List Formula) → Each ts ids fs → length ids ≡ length fs
each_long ts [] [] each = refl
each_long ts [] (f ∷ fs) each = absurd each
each_long ts (id ∷ ids) [] each = absurd each
each_long ts (id ∷ ids) (f ∷ fs) each = ap suc (each_long ts ids fs each.1)

pub as_long : {ts : List Term} {ids : List ℕ} {fs : List Formula} → StandAll ts ids fs → length ids ≡ length fs
as_long {ts} {ids} {fs} all = each_long ts ids fs all.each

-- what stands at a place
pub record At (ts : List Term) (id : ℕ) (i : ℕ) (fs : List Formula) : Type 0 where
  pub tree : Formula
  pub is : drop i fs ≡ tree ∷ drop (i + 1) fs
  pub here : StandsAs ts id tree

each_at : (ts : List Term) (ids : List ℕ) (fs : List Formula) (i : ℕ) → Each ts ids fs → i < length ids → (f : Formula) × (drop i fs ≡ f ∷ drop (suc i) fs) × StandsAs ts (get_or ids i 0) f
each_at ts [] fs i each below = absurd (omega arith)
each_at ts (id ∷ ids) [] i each below = absurd each
each_at ts (id ∷ ids) (f ∷ fs) zero each below = (f, refl, each.0)
each_at ts (id ∷ ids) (f ∷ fs) (suc i) each below = each_at ts ids fs i each.1 (omega arith)

pub at : {ts : List Term} {ids : List ℕ} {fs : List Formula} (i : ℕ) → StandAll ts ids fs → i < length ids → At ts (get_or ids i 0) i fs
at {ts} {ids} {fs} i all below =
    let found = each_at ts ids fs i all.each below in
    let next : suc i ≡ i + 1 = omega arith in
    record { tree = found.0; is = found.1 ∙ ap (λ (j : ℕ). found.0 ∷ drop j fs) next; here = found.2 }

pub same_ids : {ts : List Term} {is js : List ℕ} {fs : List Formula} → is ≡ js → StandAll ts js fs → StandAll ts is fs
same_ids {ts} {fs = fs} e all = subst (λ (ks : List ℕ). StandAll ts ks fs) (sym e) all

-- what is given back as these numbers
pub given_ids : {E : Type 0} {ts : List Term} {js : List ℕ} {fs : List Formula} (r : Result (Vec ℕ Global) E) → IfOk r (λ all. all.items ≡ js) → StandAll ts js fs → IfOk r (λ all. StandAll ts all.items fs)
given_ids (Ok all) e standing = same_ids e standing
given_ids (Err e) e' standing = tt
