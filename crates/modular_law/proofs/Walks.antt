-- What every action keeps on its way: a support that names all, a supply of threads above its own, objects that are closed or freed, the variables that it doesn't set.
use Rattle.std.proofs.Common.{◌≡◌, ℕ, zero, suc, ◌<◌, ◌==◌, Bool, true, false, cond, List, [], ◌∷◌, ◌++◌, length, slice_set, refl, ap, ◌∙◌, subst, IsTrue, IsFalse, ℤ, eq-eqb}
use Rattle.std.proofs.lemmas.Bool.{both_ways, or_parts, or_from}
use Rattle.std.specs.Prelude.{◌+ℤ◌}
use Rattle.object_types.specs.declared.references.Ref.{Ref}
use Rattle.object_types.specs.declared.values.Value.{Value}
use Rattle.object_types.specs.declared.records.Mode.{Mode}
use Rattle.object_types.specs.declared.records.Mode.TheVariants.{Absent, Open, Closed, Freed}
use Rattle.object_types.specs.References.{same_ref}
use Rattle.object_types.specs.Sets.{is_in, some}
use Rattle.object_types.specs.Heap.{Heap, Record, IsFinite, put, hand_over, count_more}
use Rattle.method.specs.Tables.{local}
use Rattle.method.specs.Actions.{Supply, Fresh, Chosen, Picked, Progress}
use Rattle.method.proofs.Global.{same_ref_is}

-- Variables.

-- i is none of the set; the one set is part of the other
abbrev pub Out : List ℕ → ℕ → Type 0
Out set i = IsFalse (some (λ j. j == i) set)

abbrev pub Sub : List ℕ → List ℕ → Type 0
Sub a b = (i : ℕ) → Out b i → Out a i

out_left : (a b : List ℕ) (i : ℕ) → Out (a ++ b) i → Out a i
out_left [] b i o = refl
out_left (j ∷ a) b i o = let x = or_parts (j == i) (some (λ j. j == i) (a ++ b)) o in or_from (j == i) (some (λ j. j == i) a) x.0 (out_left a b i x.1)

out_right : (a b : List ℕ) (i : ℕ) → Out (a ++ b) i → Out b i
out_right [] b i o = o
out_right (j ∷ a) b i o = out_right a b i (or_parts (j == i) (some (λ j. j == i) (a ++ b)) o).1

pub sub_left : (a b c : List ℕ) → Sub (a ++ b) c → Sub a c
sub_left a b c s i o = out_left a b i (s i o)

pub sub_right : (a b c : List ℕ) → Sub (a ++ b) c → Sub b c
sub_right a b c s i o = out_right a b i (s i o)

pub set_size : (l : List Value) (i : ℕ) (v : Value) → length (slice_set l i v) ≡ length l
set_size [] i v = refl
set_size (w ∷ l) zero v = refl
set_size (w ∷ l) (suc i) v = ap suc (set_size l i v)

pub set_other : (l : List Value) (i : ℕ) (v : Value) (j : ℕ) → (i ≡ j → ⊥) → local (slice_set l i v) j ≡ local l j
set_other [] i v j d = refl
set_other (w ∷ l) zero v zero d = absurd (d refl)
set_other (w ∷ l) zero v (suc j) d = refl
set_other (w ∷ l) (suc i) v zero d = refl
set_other (w ∷ l) (suc i) v (suc j) d = set_other l i v j (λ e. d (ap suc e))

pub set_out : (l : List Value) (i : ℕ) (v : Value) (j : ℕ) → Out (i ∷ []) j → local (slice_set l i v) j ≡ local l j
set_out l i v j o = set_other l i v j (λ e. both_ways (i == j) (or_parts (i == j) false o).0 (eq-eqb i j e))

-- Heaps.

-- closed or freed: no action but an unwrap opens it, and no new reference takes its place
abbrev pub is_settled : Mode → Bool
is_settled Absent = false
is_settled Open = false
is_settled Closed = true
is_settled Freed = true

abbrev pub Settled : Heap → Ref → Type 0
Settled h o = IsTrue (is_settled (h.get o).mode)

pub put_settled : (h : Heap) (p : Ref) (new : Record) → (Settled h p → IsTrue (is_settled new.mode)) → (o : Ref) → Settled h o → Settled (put h p new) o
unfolding put
put_settled h p new f o s = by_place (same_ref o p) refl
  where
    by_place : (b : Bool) → same_ref o p ≡ b → is_settled (cond b new (h.get o)).mode ≡ true
    by_place true e = f (subst (λ (q : Ref). Settled h q) (same_ref_is o p e) s)
    by_place false e = s

pub hand_over_settled : (h : Heap) (members : List Ref) (owner o : Ref) → Settled h o → Settled (hand_over h members owner) o
unfolding hand_over
hand_over_settled h members owner o s = by_place (is_in o members)
  where
    by_place : (b : Bool) → is_settled (cond b (record (h.get o) { owner = owner }) (h.get o)).mode ≡ true
    by_place true = s
    by_place false = s

pub count_more_settled : (z : ℤ) (os : List Ref) (h : Heap) (o : Ref) → Settled h o → Settled (count_more z os h) o
count_more_settled z [] h o s = s
count_more_settled z (q ∷ os) h o s = count_more_settled z os _ o (put_settled h q (record (h.get q) { count = (h.get q).count +ℤ z }) (λ x. x) o s)

-- Progress.

-- new threads come from a number above that of the thread itself
abbrev pub Above : Ref → Supply → Type 0
Above me (Fresh n) = me.serial < n
Above me (Chosen rs) = ⊥
Above me (Picked n rs) = me.serial < n

-- what a step may begin with
pub record Ready (me : Ref) (g : Progress) : Type 0 where
  pub finite : IsFinite g.heap
  pub above : Above me g.supply

pub record Went (me : Ref) (set : List ℕ) (g k : Progress) : Type 0 where
  pub ready : Ready me k
  pub settled : (o : Ref) → Settled g.heap o → Settled k.heap o
  pub started : k.started ≡ g.started
  pub size : length k.locals ≡ length g.locals
  pub others : (i : ℕ) → Out set i → local k.locals i ≡ local g.locals i

pub went_still : (me : Ref) (set : List ℕ) (g : Progress) → Ready me g → Went me set g g
went_still me set g r = record { ready = r; settled = λ o s. s; started = refl; size = refl; others = λ i o. refl }

pub went_on : (me : Ref) (set : List ℕ) (g k j : Progress) → Went me set g k → Went me set k j → Went me set g j
went_on me set g k j a b = record {
  ready = b.ready;
  settled = λ o s. b.settled o (a.settled o s);
  started = b.started ∙ a.started;
  size = b.size ∙ a.size;
  others = λ i o. b.others i o ∙ a.others i o;
}

-- only the heap changes
pub went_heap : (me : Ref) (set : List ℕ) (g : Progress) (h : Heap) → Ready me g → IsFinite h → ((o : Ref) → Settled g.heap o → Settled h o) → Went me set g (record g { heap = h })
went_heap me set g h r f s = record { ready = record { finite = f; above = r.above }; settled = s; started = refl; size = refl; others = λ i o. refl }
