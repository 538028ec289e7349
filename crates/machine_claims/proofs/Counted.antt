-- Objects that a loop asks about, and objects counted in another order.
use Rattle.std.proofs.Common.{◌≡◌, Bool, true, false, cond, ◌&&◌, ℤ, negsuc, List, refl, sym, ap, ◌∙◌}
use Rattle.object_types.specs.declared.references.Ref.{Ref}
use Rattle.object_types.specs.declared.records.Stored.{Stored}
use Rattle.object_types.specs.declared.records.Mode.TheVariants.{Freed}
use Rattle.object_types.specs.References.{null, is_claim}
use Rattle.object_types.specs.Sets.{every, is_in, all_distinct}
use Rattle.object_types.specs.Heap.{Heap, put, count_more, wrapped}
use Rattle.object_types.specs.Lookups.{look_up, heap_of}
use Rattle.std.proofs.lemmas.Bool.{and_parts}
use Rattle.method.specs.declared.program.Program.{Program}
use Rattle.method.specs.SpecValue.{is_exactly}
use Rattle.method.specs.Expressions.{Spot, may_write}
use Rattle.method.specs.Actions as m
use Rattle.machine_laws.proofs.Heaps.{counted, count_get, every_in}
use Rattle.claims.specs.Making.{without_claim}
use Rattle.claims.proofs.Counting.{count_same}
use Rattle.machine_values.specs.Spots.{heap_at}

alike : (a b : Bool) → (a ≡ true → b ≡ true) → (b ≡ true → a ≡ true) → a ≡ b
alike true true f g = refl
alike true false f g = sym (f refl)
alike false true f g = g refl
alike false false f g = refl

-- lists that name the same objects, each once, count alike
count_alike : (z : ℤ) (xs ys : List Ref) (h : Heap) → all_distinct xs ≡ true → all_distinct ys ≡ true → ((q : Ref) → is_in q xs ≡ is_in q ys) → (count_more z xs h).get ≡ (count_more z ys h).get
count_alike z xs ys h d b same = λ i q. (count_get z xs h q d ∙ ap (λ c. cond c (counted z (h.get q)) (h.get q)) (same q) ∙ sym (count_get z ys h q b)) i

module _ (p : Program) (at_ : Spot) (h : Heap) (c : Ref) (os : List Ref) (may : m.may_end p at_ c os h ≡ true) where
  exact : (all_distinct os && is_exactly (h.get c).listed os) ≡ true
  exact = (and_parts (may_write at_ c) _ (and_parts (wrapped at_.context.me h c) _ (and_parts (is_claim c) _ may).1).1).1

  distinct : all_distinct os ≡ true
  distinct = (and_parts (all_distinct os) _ exact).0

  members : (q : Ref) → is_in q (h.get c).listed ≡ is_in q os
  members q =
      let set = (h.get c).listed in
      let both = and_parts (every (λ o. is_in o set) os) (every (λ o. is_in o os) set) (and_parts (all_distinct os) _ exact).1 in
      alike (is_in q set) (is_in q os) (λ i. every_in (λ o. is_in o os) set q both.1 i) (λ i. every_in (λ o. is_in o set) os q both.0 i)

  -- an ended claim's objects are those that were named
  ended_alike : all_distinct (h.get c).listed ≡ true → (without_claim c h).get ≡ (m.ended p at_ c os h).get
  ended_alike d = count_alike (negsuc 0) (h.get c).listed os (put h c (record (h.get c) { mode = Freed; owner = null })) d distinct members

pub ended_heap : (p : Program) (at_ : Spot) (y : List Ref) (old now : List Stored) (c : Ref) (os : List Ref) → m.may_end p at_ c os (heap_at y old) ≡ true → all_distinct (look_up old c).listed ≡ true → look_up now ≡ (without_claim c (heap_of old)).get → look_up now ≡ (m.ended p at_ c os (heap_at y old)).get
unfolding put
ended_heap p at_ y old now c os may d is =
    let freed = record (look_up old c) { mode = Freed; owner = null } in
    is ∙ count_same (negsuc 0) (look_up old c).listed (put (heap_of old) c freed) (put (heap_at y old) c freed) refl
    ∙ ended_alike p at_ (heap_at y old) c os may d

-- whether a claim may end, from the tests in the code's order
module _ (a b d o e : Bool) where
  pub ends_no_claim : a ≡ false → false ≡ a && (b && (d && (o && e)))
  ends_no_claim f = rw f refl

  pub ends_not_own : a ≡ true → b ≡ false → false ≡ a && (b && (d && (o && e)))
  ends_not_own f g = rw (f, g) refl

  pub ends_unwritable : a ≡ true → b ≡ true → d ≡ false → false ≡ a && (b && (d && (o && e)))
  ends_unwritable f g h = rw (f, g, h) refl

  pub ends_repeated : a ≡ true → b ≡ true → d ≡ true → o ≡ false → false ≡ a && (b && (d && (o && e)))
  ends_repeated f g h i = rw (f, g, h, i) refl

  pub ends_exactly : a ≡ true → b ≡ true → d ≡ true → o ≡ true → e ≡ a && (b && (d && (o && e)))
  ends_exactly f g h i = rw (f, g, h, i) refl
