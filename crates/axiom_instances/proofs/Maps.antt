-- What was stored is read, and nothing else changes: the rows of rule `map`, of any columns.
use Rattle.std.proofs.Common.{◌≡◌, ℕ, Bool, true, false, cond, ◌&&◌, List, [], ◌∷◌, ◌++◌, map, pos, Some, refl, sym, ap, ◌∙◌, eq-eqb}
use Rattle.std.proofs.lemmas.Bool.{and_parts, and_from}
use Rattle.object_types.specs.declared.references.Ref.{Ref}
use Rattle.object_types.specs.declared.values.Value.{Value as Scalar}
use Rattle.object_types.specs.References.{same_ref}
use Rattle.object_types.proofs.Orders.{values_order}
use Rattle.method.specs.declared.program.Program.{Program}
use Rattle.method.specs.declared.program.Sort.{Sort as HoleSort}
use Rattle.method.proofs.Global.{same_ref_is, same_ref_self}
use Rattle.terms.specs.declared.term.Kind.TheVariants as k
use Rattle.terms.specs.Formula.{Formula, Node, With}
use Rattle.term_meaning.specs.Columns.{Column, value_sort, term_sort}
use Rattle.term_meaning.specs.RawHeaps.{RawHeap, Place, ModeAt, OwnerAt, CountAt, MemberAt, ClaimedAt, FieldAt, ShapeAt, place_of, same_place, store_at}
use Rattle.term_meaning.specs.Meaning.{Value, PlainValue, HeapValue, Env, scalar, ref_value, Language, column_at, store_in, but_last, last}
use Rattle.term_meaning.proofs.Sorted.{HasSort, HaveSorts, same_place_is}
use Rattle.axiom_instances.specs.Terms.{get, trees, eq}
use Rattle.axiom_instances.proofs.Kit.{Has, HaveAll, Holds, more, behind, node_has, get_has, eq_holds}
use Rattle.axiom_instances.proofs.Invariants.{plain_one}

-- h with v stored in the column with this number
abbrev pub set : ℕ → Formula → Formula → List Formula → Formula → Formula
set n h o ks v = Node k.Set (pos n) (With h (With o (trees (ks ++ v ∷ []))))

pub front_of : (vs : List Value) (w : Value) → but_last (map scalar (vs ++ w ∷ [])) ≡ map scalar vs
front_of [] w = refl
front_of (v ∷ []) w = refl
front_of (v ∷ u ∷ vs) w = ap (λ xs. scalar v ∷ xs) (front_of (u ∷ vs) w)

pub end_of : (vs : List Value) (w : Value) → last (map scalar (vs ++ w ∷ [])) ≡ scalar w
end_of [] w = refl
end_of (v ∷ []) w = refl
end_of (v ∷ u ∷ vs) w = end_of (u ∷ vs) w

same_place_self : (c : Place) → same_place c c ≡ true
same_place_self ModeAt = refl
same_place_self OwnerAt = refl
same_place_self CountAt = refl
same_place_self (MemberAt q) = same_ref_self q
same_place_self (ClaimedAt q) = same_ref_self q
same_place_self (FieldAt f) = eq-eqb f f refl
same_place_self (ShapeAt n vs) = and_from _ _ (eq-eqb n n refl) (values_order.itself vs)

pub read_there : (x : RawHeap) (c : Place) (o : Ref) (v : Scalar) → store_at x c o v c o ≡ v
read_there x c o v = ap (λ b. cond b v (x c o)) (and_from _ _ (same_place_self c) (same_ref_self o))

pub read_elsewhere : (x : RawHeap) (c d : Place) (o q : Ref) (v : Scalar) → ((d ≡ c) → (q ≡ o) → ⊥) → store_at x c o v d q ≡ x d q
read_elsewhere x c d o q v h = by_test (same_place d c && same_ref q o) refl
  where
    by_test : (b : Bool) → (same_place d c && same_ref q o) ≡ b → cond (same_place d c && same_ref q o) v (x d q) ≡ x d q
    by_test true e = let p = and_parts (same_place d c) (same_ref q o) e in absurd (h (same_place_is d c p.0) (same_ref_is q o p.1))
    by_test false e = ap (λ b. cond b v (x d q)) e

module _ {l : Language} {e : Env} where
  pub set_has : {n : ℕ} {h o v : Formula} (ks : List Formula) {x : RawHeap} {r : Ref} {w : Value} {vs : List Value} (c : Column) → column_at l.program (pos n) ≡ Some c → Has l e h (HeapValue x) → Has l e o (ref_value r) → HaveAll l e (trees ks) vs → Has l e v w → Has l e (set n h o ks v) (HeapValue (store_at x (place_of c (map scalar vs)) r (scalar w)))
  set_has {n} {h} {o} {v} ks {x} {r} {w} {vs} c is a b m d =
      node_has (more a (more b (behind ks m d)))
      ((λ i. HeapValue (store_at x (place_of c (sym (front_of vs w) i)) r (sym (end_of vs w) i))) ∙ ap (λ c. store_in c (HeapValue x ∷ ref_value r ∷ vs ++ w ∷ [])) (sym is))

  module _ {n : ℕ} {h o v : Formula} (ks : List Formula) {x : RawHeap} {r : Ref} {w : Value} {vs : List Value} (c : Column) (is : column_at l.program (pos n) ≡ Some c) (a : Has l e h (HeapValue x)) (b : Has l e o (ref_value r)) (m : HaveAll l e (trees ks) vs) (d : Has l e v w) where
    -- what was stored is read
    pub map_1 : HasSort l.program (term_sort (value_sort l.program c)) w → Holds l e (eq (get n (set n h o ks v) o ks) v)
    map_1 sorted = eq_holds (get_has ks c is (set_has ks c is a b m d) b m) d (ap PlainValue (read_there x (place_of c (map scalar vs)) r (scalar w)) ∙ sym (plain_one l.program (value_sort l.program c) w sorted))

    -- at other keys, and in other columns, it is as it was
    pub map_2 : {q : Formula} {s : Ref} (js : List Formula) {us : List Value} → Has l e q (ref_value s) → HaveAll l e (trees js) us → (place_of c (map scalar us) ≡ place_of c (map scalar vs) → s ≡ r → ⊥) → Holds l e (eq (get n (set n h o ks v) q js) (get n h q js))
    map_2 {q} {s} js {us} f g apart = eq_holds (get_has js c is (set_has ks c is a b m d) f g) (get_has js c is a f g) (ap PlainValue (read_elsewhere x (place_of c (map scalar vs)) (place_of c (map scalar us)) r s (scalar w) apart))

    pub map_3 : {i : ℕ} {q : Formula} {s : Ref} (js : List Formula) {us : List Value} (c' : Column) → column_at l.program (pos i) ≡ Some c' → Has l e q (ref_value s) → HaveAll l e (trees js) us → (place_of c' (map scalar us) ≡ place_of c (map scalar vs) → ⊥) → Holds l e (eq (get i (set n h o ks v) q js) (get i h q js))
    map_3 {i} {q} {s} js {us} c' is' f g apart = eq_holds (get_has js c' is' (set_has ks c is a b m d) f g) (get_has js c' is' a f g) (ap PlainValue (read_elsewhere x (place_of c (map scalar vs)) (place_of c' (map scalar us)) r s (scalar w) (λ same _. apart same)))

-- equal places have equal keys, where these have sorts
pub keys_same : (p : Program) (ss : List HoleSort) (us vs : List Value) → HaveSorts p (map term_sort ss) us → HaveSorts p (map term_sort ss) vs → map scalar us ≡ map scalar vs → us ≡ vs
keys_same p [] us vs h k e = h ∙ sym k
keys_same p (s ∷ ss) us vs h k e =
    let f : scalar h.0 ∷ map scalar h.1 ≡ scalar k.0 ∷ map scalar k.1 = ap (map scalar) (sym h.2) ∙ e ∙ ap (map scalar) k.2 in
    let first : scalar h.0 ≡ scalar k.0 = cc in
    let rest : map scalar h.1 ≡ map scalar k.1 = cc in
    h.2 ∙ (λ i. (plain_one p s h.0 h.3 ∙ ap PlainValue first ∙ sym (plain_one p s k.0 k.3)) i ∷ keys_same p ss h.1 k.1 h.4 k.4 rest i) ∙ sym k.2
