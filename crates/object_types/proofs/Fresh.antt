-- The fresh serial of a heap is the one that its records determine; the list that is a heap names all that stands in it.
use Rattle.std.proofs.Common.{◌≡◌, ◌≢◌, ℕ, ◌+◌, ◌-◌, ◌<◌, ◌≤◌, inl, inr, max, Bool, true, false, not, cond, ◌&&◌, ◌==◌, List, [], ◌∷◌, map, refl, sym, ap, subst, arith}
use Rattle.std.proofs.lemmas.Bool.{both_ways, cases_lt, and_parts, and_from, or_cases, or_parts, eqb-true, eq-eqb, not-true}
use Rattle.object_types.specs.declared.references.Ref.{Ref}
use Rattle.object_types.specs.declared.records.Stored.{Stored}
use Rattle.object_types.specs.References.{ref, same_ref}
use Rattle.object_types.specs.Sets.{is_in}
use Rattle.object_types.specs.Heap.{Heap, Record, IsFinite, is_absent, above, fresh}
use Rattle.object_types.specs.Content.{IsFresh}
use Rattle.object_types.specs.Lookups.{reference_of, heap_of}
use Rattle.object_types.proofs.Orders.{ref_order}

-- an object of the type is or was at the reference
counts : Heap → ℕ → Ref → Bool
counts h ty r = (r.ty == ty) && not (is_absent (h.get r).mode)

above_one : (h : Heap) (ty : ℕ) (rs : List Ref) → 1 ≤ above h ty rs
above_one h ty [] = omega arith
above_one h ty (r ∷ rs) =
    let rest : 1 ≤ above h ty rs = above_one h ty rs in
    elim ((r.ty == ty) && not (is_absent (h.get r).mode)) as (λ b. 1 ≤ cond b (max (r.serial + 1) (above h ty rs)) (above h ty rs)) [ true ↦ omega arith | false ↦ rest ]

above_covers : (h : Heap) (ty : ℕ) (rs : List Ref) (s : ℕ) → is_in (ref ty s) rs ≡ true → is_absent (h.get (ref ty s)).mode ≡ false → s < above h ty rs
unfolding is_in
above_covers h ty [] s among there = absurd (both_ways _ refl among)
above_covers h ty (r ∷ rs) s among there =
    let next : is_in (ref ty s) rs ≡ true → s < above h ty rs = λ a. above_covers h ty rs s a there in
    elim (or_cases (same_ref (ref ty s) r) (is_in (ref ty s) rs) among) [
      | inl same ↦
          let r_is : ref ty s ≡ r = ref_order.equal _ _ same in
          let serial : s ≡ r.serial = ap (λ (q : Ref). q.serial) r_is in
          let its_type : ty ≡ r.ty = ap (λ (q : Ref). q.ty) r_is in
          let test : ((r.ty == ty) && not (is_absent (h.get r).mode)) ≡ true = and_from _ _ (eq-eqb _ _ (sym its_type)) (ap not (subst (λ q. is_absent (h.get q).mode ≡ false) r_is there)) in
          rw test (omega arith)
      | inr later ↦
          let below : s < above h ty rs = next later in
          elim ((r.ty == ty) && not (is_absent (h.get r).mode)) as (λ b. s < cond b (max (r.serial + 1) (above h ty rs)) (above h ty rs)) [ true ↦ omega arith | false ↦ below ]
    ]

above_reached : (h : Heap) (ty : ℕ) (rs : List Ref) → above h ty rs ≢ 1 → is_absent (h.get (ref ty (above h ty rs - 1))).mode ≡ false
above_reached h ty [] other = absurd (other refl)
above_reached h ty (r ∷ rs) other =
    let next : above h ty rs ≢ 1 → is_absent (h.get (ref ty (above h ty rs - 1))).mode ≡ false = above_reached h ty rs in
    elim ((r.ty == ty) && not (is_absent (h.get r).mode)) as (λ b. ((r.ty == ty) && not (is_absent (h.get r).mode)) ≡ b → cond b (max (r.serial + 1) (above h ty rs)) (above h ty rs) ≢ 1 → is_absent (h.get (ref ty (cond b (max (r.serial + 1) (above h ty rs)) (above h ty rs) - 1))).mode ≡ false) [
      | true ↦ λ e o.
          let parts = and_parts (r.ty == ty) (not (is_absent (h.get r).mode)) e in
          let its_type : r.ty ≡ ty = eqb-true _ _ parts.0 in
          let there : is_absent (h.get r).mode ≡ false = not-true _ parts.1 in
          elim (cases_lt r.serial (above h ty rs - 1)) [
            | inl less ↦
                let greater : above h ty rs ≡ max (r.serial + 1) (above h ty rs) = omega arith in
                subst (λ n. is_absent (h.get (ref ty (n - 1))).mode ≡ false) greater (next (λ one. absurd (let l : r.serial < above h ty rs - 1 = less in let a : above h ty rs ≡ 1 = one in omega arith)))
            | inr more ↦
                let serial : r.serial ≡ max (r.serial + 1) (above h ty rs) - 1 = omega arith in
                let r_is : r ≡ ref ty (max (r.serial + 1) (above h ty rs) - 1) = λ i. record { ty = its_type i; serial = serial i } in
                subst (λ q. is_absent (h.get q).mode ≡ false) r_is there
          ]
      | false ↦ λ e o. next o
    ] refl other

-- where nothing stands outside the support, the fresh reference has the fresh serial
pub fresh_is : (h : Heap) (ty : ℕ) → IsFinite h → IsFresh h.get ty (fresh h ty).serial
fresh_is h ty finite = record {
  from_one = above_one h ty h.support;
  above = λ s up.
      elim (is_absent (h.get (ref ty s)).mode) as (λ b. is_absent (h.get (ref ty s)).mode ≡ b → b ≡ true) [
        | true ↦ λ e. refl
        | false ↦ λ e. elim (is_in (ref ty s) h.support) as (λ b. is_in (ref ty s) h.support ≡ b → false ≡ true) [
          | true ↦ λ among. absurd (let below = above_covers h ty h.support s among e in let top : above h ty h.support ≤ s = up in omega arith)
          | false ↦ λ out. absurd (both_ways _ e (ap (λ (r : Record). is_absent r.mode) (finite (ref ty s) out)))
        ] refl
      ] refl;
  below = above_reached h ty h.support;
}

-- the fresh serial is one
pub fresh_unique : (get : Ref → Record) (ty a b : ℕ) → IsFresh get ty a → IsFresh get ty b → a ≡ b
fresh_unique get ty a b f g =
    let one_a : 1 ≤ a = f.from_one in
    let one_b : 1 ≤ b = g.from_one in
    elim (cases_lt a b) [
      | inl less ↦ absurd (both_ways _ (g.below (λ e. absurd (let h : b ≡ 1 = e in omega arith))) (f.above (b - 1) (omega arith)))
      | inr more ↦ elim (cases_lt b a) [
        | inl less ↦ absurd (both_ways _ (f.below (λ e. absurd (let h : a ≡ 1 = e in omega arith))) (g.above (a - 1) (omega arith)))
        | inr other ↦ omega arith
      ]
    ]

-- so whatever the code's `fresh` gives is the heap's fresh reference
pub fresh_determined : (h : Heap) (ty serial : ℕ) → IsFinite h → IsFresh h.get ty serial → ref ty serial ≡ fresh h ty
fresh_determined h ty serial finite f = ap (ref ty) (fresh_unique h.get ty _ _ f (fresh_is h ty finite))

-- outside the references that the list names nothing stands
pub support_covers : (ss : List Stored) → IsFinite (heap_of ss)
unfolding is_in
support_covers [] o out = refl
support_covers (s ∷ ss) o out =
    let parts = or_parts (same_ref o s.reference) (is_in o (map reference_of ss)) out in
    rw parts.0 (support_covers ss o parts.1)
