-- Scenes: kept, and with other words.
use Rattle.std.specs.Prelude.{◌≡◌, ℕ, zero, suc, ◌<◌, ◌≤◌, Bool, true, false, ◌&&◌, if◌then◌else◌, nat_lt, List, [], ◌∷◌, length, slice_index_or}
use Rattle.std.proofs.Common.{refl, ap, ◌∙◌, subst, get_or, arith}
use Rattle.std.proofs.lemmas.Bool.{lt-ltb, le-ltb}
use Rattle.method.proofs.Global.{both_and}
use Rattle.terms.specs.declared.term.Term.{Term}
use Rattle.terms.specs.Formula.{Formula}
use Rattle.conditions.specs.Annotations as spec
use Rattle.conditions.specs.Symbolic as symbolic
use Rattle.condition_formulas.specs.declared.symbolic.Symbolic.{Symbolic}
use Rattle.condition_formulas.specs.Standing.{StandsAs, StandAll, Each, Later}
use Rattle.condition_formulas.specs.Symbolics.{IsSymbolic, AreSymbolic, EachSymbolic}
use Rattle.condition_formulas.proofs.Rows.{all_later}
use Rattle.condition_formulas.proofs.Symbolics.{symbolic_later, are_later}
use Rattle.annotation_scenes.specs.Scenes.{AreWords}

pub scene_later : {old new : List Term} {b a m t u : ℕ} {p : Bool} {ls es : List Symbolic} {r : Symbolic} {ds : List ℕ} {s : spec.Scene} → Later old new → AreWords old b a m t u p ls es r ds s → AreWords new b a m t u p ls es r ds s
scene_later later h = record {
  before_is = later _ _ h.before_is;
  after_is = later _ _ h.after_is;
  me_is = later _ _ h.me_is;
  this_is = later _ _ h.this_is;
  subject_is = later _ _ h.subject_is;
  past_is = h.past_is;
  locals_are = are_later later h.locals_are;
  entry_is = are_later later h.entry_is;
  result_is = symbolic_later later h.result_is;
  bound_are = all_later later h.bound_are;
}

pub in_past : {ts : List Term} {b a m t u : ℕ} {p : Bool} {ls es : List Symbolic} {r : Symbolic} {ds : List ℕ} {s : spec.Scene} → AreWords ts b a m t u p ls es r ds s → AreWords ts b a m t u true ls es r ds (spec.old_scene s)
in_past h = record { before_is = h.before_is; after_is = h.after_is; me_is = h.me_is; this_is = h.this_is; subject_is = h.subject_is; past_is = refl; locals_are = h.locals_are; entry_is = h.entry_is; result_is = h.result_is; bound_are = h.bound_are }

pub of_claim : {ts : List Term} {b a m t u : ℕ} {p : Bool} {ls es : List Symbolic} {r : Symbolic} {ds : List ℕ} {s : spec.Scene} {c : ℕ} {f : Formula} → AreWords ts b a m t u p ls es r ds s → StandsAs ts c f → AreWords ts b a m t c p ls es r ds (spec.with_subject f s)
of_claim h is = record { before_is = h.before_is; after_is = h.after_is; me_is = h.me_is; this_is = h.this_is; subject_is = is; past_is = h.past_is; locals_are = h.locals_are; entry_is = h.entry_is; result_is = h.result_is; bound_are = h.bound_are }

pub with_bound : {ts : List Term} {b a m t u : ℕ} {p : Bool} {ls es : List Symbolic} {r : Symbolic} {ds ns : List ℕ} {s : spec.Scene} {fs : List Formula} → AreWords ts b a m t u p ls es r ds s → StandAll ts ns fs → AreWords ts b a m t u p ls es r ns (record s { bound = fs })
with_bound h all = record { before_is = h.before_is; after_is = h.after_is; me_is = h.me_is; this_is = h.this_is; subject_is = h.subject_is; past_is = h.past_is; locals_are = h.locals_are; entry_is = h.entry_is; result_is = h.result_is; bound_are = all }

pub before_as_after : {ts : List Term} {b a m t u : ℕ} {p : Bool} {ls es ws : List Symbolic} {r : Symbolic} {ds : List ℕ} {s : spec.Scene} {vs : List symbolic.Symbolic} → AreWords ts b a m t u p ls es r ds s → AreSymbolic ts ws vs → AreWords ts b b m t u p ws es r ds (record s { after = s.before; locals = vs })
before_as_after h are = record { before_is = h.before_is; after_is = h.before_is; me_is = h.me_is; this_is = h.this_is; subject_is = h.subject_is; past_is = h.past_is; locals_are = are; entry_is = h.entry_is; result_is = h.result_is; bound_are = h.bound_are }

pub heap_is : {ts : List Term} {b a m t u : ℕ} {p : Bool} {ls es : List Symbolic} {r : Symbolic} {ds : List ℕ} {s : spec.Scene} → AreWords ts b a m t u p ls es r ds s → StandsAs ts (if p then b else a) (spec.current_heap s)
heap_is {ts} {b} {a} {p = p} {s = s} h = by_past p h.past_is where
  by_past : (q : Bool) → q ≡ s.past → StandsAs ts (if q then b else a) (if s.past then s.before else s.after)
  by_past q e = subst (λ (o : Bool). StandsAs ts (if q then b else a) (if o then s.before else s.after)) e (there q) where
    there : (q : Bool) → StandsAs ts (if q then b else a) (if q then s.before else s.after)
    there true = h.before_is
    there false = h.after_is

-- Places.

symbolic_there : (ts : List Term) (vs : List Symbolic) (ws : List symbolic.Symbolic) (i : ℕ) (d : Symbolic) (e : symbolic.Symbolic) → EachSymbolic ts vs ws → i < length vs → IsSymbolic ts (get_or vs i d) (slice_index_or ws i e)
symbolic_there ts [] ws i d e each below = absurd (omega arith)
symbolic_there ts (v ∷ vs) [] i d e each below = absurd each
symbolic_there ts (v ∷ vs) (w ∷ ws) zero d e each below = each.0
symbolic_there ts (v ∷ vs) (w ∷ ws) (suc i) d e each below = symbolic_there ts vs ws i d e each.1 (omega arith)

pub symbolic_here : {ts : List Term} {vs : List Symbolic} {ws : List symbolic.Symbolic} (i : ℕ) (d : Symbolic) (e : symbolic.Symbolic) → AreSymbolic ts vs ws → i < length vs → IsSymbolic ts (get_or vs i d) (slice_index_or ws i e)
symbolic_here {ts} {vs} {ws} i d e are below = symbolic_there ts vs ws i d e are.each below

each_symbolic_long : (ts : List Term) (vs : List Symbolic) (ws : List symbolic.Symbolic) → EachSymbolic ts vs ws → length vs ≡ length ws
each_symbolic_long ts [] [] each = refl
each_symbolic_long ts [] (w ∷ ws) each = absurd each
each_symbolic_long ts (v ∷ vs) [] each = absurd each
each_symbolic_long ts (v ∷ vs) (w ∷ ws) each = ap suc (each_symbolic_long ts vs ws each.1)

pub as_many : {ts : List Term} {vs : List Symbolic} {ws : List symbolic.Symbolic} → AreSymbolic ts vs ws → length vs ≡ length ws
as_many {ts} {vs} {ws} are = each_symbolic_long ts vs ws are.each

tree_there : (ts : List Term) (ids : List ℕ) (fs : List Formula) (i d : ℕ) (e : Formula) → Each ts ids fs → i < length ids → StandsAs ts (get_or ids i d) (slice_index_or fs i e)
tree_there ts [] fs i d e each below = absurd (omega arith)
tree_there ts (n ∷ ids) [] i d e each below = absurd each
tree_there ts (n ∷ ids) (f ∷ fs) zero d e each below = each.0
tree_there ts (n ∷ ids) (f ∷ fs) (suc i) d e each below = tree_there ts ids fs i d e each.1 (omega arith)

pub tree_here : {ts : List Term} {ids : List ℕ} {fs : List Formula} (i d : ℕ) (e : Formula) → StandAll ts ids fs → i < length ids → StandsAs ts (get_or ids i d) (slice_index_or fs i e)
tree_here {ts} {ids} {fs} i d e all below = tree_there ts ids fs i d e all.each below

pub beyond : {A : Type 0} (xs : List A) (i : ℕ) (e : A) → length xs ≤ i → slice_index_or xs i e ≡ e
beyond [] i e long = refl
beyond (x ∷ xs) zero e long = absurd (omega arith)
beyond (x ∷ xs) (suc i) e long = beyond xs i e (omega arith)

-- a variable
pub of_past : (s : spec.Scene) (i : ℕ) → s.past ≡ true → i < length s.entry → spec.variable s i ≡ spec.symbolic_at s.entry i
of_past s i past below = ap (λ (b : Bool). if b then spec.symbolic_at s.entry i else spec.symbolic_at s.locals i) (both_and s.past (nat_lt i (length s.entry)) past (lt-ltb i (length s.entry) below))

pub of_late : (s : spec.Scene) (i : ℕ) → length s.entry ≤ i → spec.variable s i ≡ spec.symbolic_at s.locals i
of_late s i late =
    let none : nat_lt i (length s.entry) ≡ false = le-ltb i (length s.entry) late in
    ap (λ (b : Bool). if s.past && b then spec.symbolic_at s.entry i else spec.symbolic_at s.locals i) none ∙ (elim (s.past) as (λ b. (if b && false then spec.symbolic_at s.entry i else spec.symbolic_at s.locals i) ≡ spec.symbolic_at s.locals i) [ true ↦ refl | false ↦ refl ])

pub of_present : (s : spec.Scene) (i : ℕ) → s.past ≡ false → spec.variable s i ≡ spec.symbolic_at s.locals i
of_present s i now = ap (λ (b : Bool). if b && nat_lt i (length s.entry) then spec.symbolic_at s.entry i else spec.symbolic_at s.locals i) now
