-- Heaps that a loop changes: what is left of the change.
use Rattle.std.specs.Prelude.{ℕ, zero, suc, List, [], ◌∷◌, ◌≡◌, ◌<◌, ◌≤◌, ◌+◌, length, drop}
use Rattle.std.proofs.Common.{refl, ap, sym, ◌∙◌, subst, get_or, arith}
use Rattle.std.proofs.Math.ListN.{drop_of_length-le}
use Rattle.terms.specs.declared.term.Term.{Term}
use Rattle.terms.specs.Formula.{Formula}
use Rattle.conditions.specs.Actions.{add_members, with_fields}
use Rattle.conditions.specs.Formulas.{nat, set, owned_column, field_column}
use Rattle.conditions.specs.Symbolic as symbolic
use Rattle.condition_formulas.specs.declared.symbolic.Symbolic.{Symbolic}
use Rattle.condition_formulas.specs.Standing.{StandsAs, StandAll, Later}
use Rattle.condition_formulas.specs.Symbolics.{IsSymbolic, EachSymbolic, AreSymbolic}
use Rattle.condition_formulas.proofs.Rows.{at, as_long}
use Rattle.condition_formulas.proofs.Symbolics.{symbolic_later}
use Rattle.annotation_scenes.proofs.Scenes.{as_many}

-- Members.

-- the heap so far, and with the members left the whole one
pub record MembersLeft (ts : List Term) (now : ℕ) (x : Formula) (rest : List Formula) (whole : Formula) : Type 0 where
  pub heap : Formula
  pub here : StandsAs ts now heap
  pub is : add_members x rest heap ≡ whole

-- what the loop keeps
pub record Joining (old new : List Term) (o : ℕ) (ids : List ℕ) (heap now i : ℕ) : Type 0 where
  pub later : Later old new
  pub left : (x : Formula) (qs : List Formula) (h : Formula) → StandsAs old o x → StandAll old ids qs → StandsAs old heap h → MembersLeft new now x (drop i qs) (add_members x qs h)

pub no_member : (ts : List Term) (o : ℕ) (ids : List ℕ) (heap : ℕ) → Joining ts ts o ids heap heap 0
no_member ts o ids heap = record { later = λ n f h. h; left = λ x qs h hx all hh. record { heap = h; here = hh; is = refl } }

pub one_member : {old mid new : List Term} {o : ℕ} {ids : List ℕ} {heap now next i : ℕ} → Joining old mid o ids heap now i → i < length ids → Later mid new → ((h x y : Formula) → StandsAs mid now h → StandsAs mid o x → StandsAs mid (get_or ids i 0) y → StandsAs new next (set owned_column h (x ∷ y ∷ []) (nat 1))) → Joining old new o ids heap next (i + 1)
one_member {old} {mid} {new} {o} {ids} {heap} {now} {next} {i} to below later made = record {
  later = λ n f h. later n f (to.later n f h);
  left = λ x qs h hx all hh.
      let here = at i all below in
      let so_far = to.left x qs h hx all hh in
      record {
        heap = set owned_column so_far.heap (x ∷ here.tree ∷ []) (nat 1);
        here = made so_far.heap x here.tree so_far.here (to.later _ _ hx) (to.later _ _ here.here);
        is = sym (ap (λ (gs : List Formula). add_members x gs so_far.heap) here.is) ∙ so_far.is;
      };
}

pub every_member : {old new : List Term} {o : ℕ} {ids : List ℕ} {heap now i : ℕ} → Joining old new o ids heap now i → length ids ≤ i → (x : Formula) (qs : List Formula) (h : Formula) → StandsAs old o x → StandAll old ids qs → StandsAs old heap h → StandsAs new now (add_members x qs h)
every_member {new = new} {now = now} {i = i} to above x qs h hx all hh =
    let so_far = to.left x qs h hx all hh in
    let none : drop i qs ≡ [] = drop_of_length-le qs (omega (arith, as_long all)) in
    subst (λ (f : Formula). StandsAs new now f) (sym (ap (λ (gs : List Formula). add_members x gs so_far.heap) none) ∙ so_far.is) so_far.here

-- Fields.

pub record FieldsLeft (ts : List Term) (now : ℕ) (x : Formula) (field : ℕ) (rest : List symbolic.Symbolic) (whole : Formula) : Type 0 where
  pub heap : Formula
  pub here : StandsAs ts now heap
  pub is : with_fields x field rest heap ≡ whole

pub record Filling (old new : List Term) (o first : ℕ) (values : List Symbolic) (heap now field i : ℕ) : Type 0 where
  pub later : Later old new
  pub left : (x : Formula) (ws : List symbolic.Symbolic) (h : Formula) → StandsAs old o x → AreSymbolic old values ws → StandsAs old heap h → FieldsLeft new now x field (drop i ws) (with_fields x first ws h)

-- what stands at a place
record ValueAt (ts : List Term) (v : Symbolic) (i : ℕ) (ws : List symbolic.Symbolic) : Type 0 where
  pub value : symbolic.Symbolic
  pub is : drop i ws ≡ value ∷ drop (i + 1) ws
  pub here : IsSymbolic ts v value

each_value_at : (ts : List Term) (vs : List Symbolic) (ws : List symbolic.Symbolic) (i : ℕ) (d : Symbolic) → EachSymbolic ts vs ws → i < length vs → (w : symbolic.Symbolic) × (drop i ws ≡ w ∷ drop (suc i) ws) × IsSymbolic ts (get_or vs i d) w
each_value_at ts [] ws i d each below = absurd (omega arith)
each_value_at ts (v ∷ vs) [] i d each below = absurd each
each_value_at ts (v ∷ vs) (w ∷ ws) zero d each below = (w, refl, each.0)
each_value_at ts (v ∷ vs) (w ∷ ws) (suc i) d each below = each_value_at ts vs ws i d each.1 (omega arith)

value_at : {ts : List Term} {vs : List Symbolic} {ws : List symbolic.Symbolic} (i : ℕ) (d : Symbolic) → AreSymbolic ts vs ws → i < length vs → ValueAt ts (get_or vs i d) i ws
value_at {ts} {vs} {ws} i d are below =
    let there = each_value_at ts vs ws i d are.each below in
    let next : suc i ≡ i + 1 = omega arith in
    record {
      value = there.0;
      is = there.1 ∙ ap (λ (j : ℕ). there.0 ∷ drop j ws) next;
      here = there.2;
    }

pub no_field : (ts : List Term) (o first : ℕ) (values : List Symbolic) (heap : ℕ) → Filling ts ts o first values heap heap first 0
no_field ts o first values heap = record { later = λ n f h. h; left = λ x ws h hx all hh. record { heap = h; here = hh; is = refl } }

pub one_field : {old mid new : List Term} {o first : ℕ} {values : List Symbolic} {heap now next field more i : ℕ} (d : Symbolic) → Filling old mid o first values heap now field i → i < length values → Later mid new → ((h x : Formula) (w : symbolic.Symbolic) → StandsAs mid now h → StandsAs mid o x → IsSymbolic mid (get_or values i d) w → StandsAs new next (set (field_column field) h (x ∷ []) (symbolic.term w))) → more ≡ field + 1 → Filling old new o first values heap next more (i + 1)
one_field {field = field} {i = i} d to below later made one = record {
  later = λ n f h. later n f (to.later n f h);
  left = λ x ws h hx all hh.
      let here = value_at i d all below in
      let so_far = to.left x ws h hx all hh in
      let filled : Formula = set (field_column field) so_far.heap (x ∷ []) (symbolic.term here.value) in
      record {
        heap = filled;
        here = made so_far.heap x here.value so_far.here (to.later _ _ hx) (symbolic_later to.later here.here);
        is = ap (λ (n : ℕ). with_fields x n (drop (i + 1) ws) filled) one ∙ sym (ap (λ (us : List symbolic.Symbolic). with_fields x field us so_far.heap) here.is) ∙ so_far.is;
      };
}

pub every_field : {old new : List Term} {o first : ℕ} {values : List Symbolic} {heap now field i : ℕ} → Filling old new o first values heap now field i → length values ≤ i → (x : Formula) (ws : List symbolic.Symbolic) (h : Formula) → StandsAs old o x → AreSymbolic old values ws → StandsAs old heap h → StandsAs new now (with_fields x first ws h)
every_field {new = new} {now = now} {field = field} {i = i} to above x ws h hx all hh =
    let so_far = to.left x ws h hx all hh in
    let none : drop i ws ≡ [] = drop_of_length-le ws (omega (arith, as_many all)) in
    subst (λ (f : Formula). StandsAs new now f) (sym (ap (λ (us : List symbolic.Symbolic). with_fields x field us so_far.heap) none) ∙ so_far.is) so_far.here
