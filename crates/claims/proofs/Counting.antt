-- Counts that are changed one by one.
use Rattle.std.proofs.Common.{◌≡◌, inl, inr, ℕ, ◌+◌, ◌<◌, ◌≤◌, Bool, true, false, cond, ℤ, ◌+ℤ◌, List, [], ◌∷◌, length, get_or, drop, refl, sym, ap, ◌∙◌, subst, add-one, drop-cons}
use Rattle.std.proofs.lemmas.List.{drop_all}
use Rattle.object_types.specs.declared.references.Ref.{Ref}
use Rattle.object_types.specs.References.{same_ref}
use Rattle.object_types.specs.Heap.{Heap, Record, put, put_at, count_more}
use Rattle.object_types.proofs.Orders.{ref_order}
use Rattle.int_ranges.specs.Exact.{Leaves}
use Rattle.method.proofs.SameHeaps.{listing}
use Rattle.claims.specs.Steps.{Overflows}

-- the list beside the records changes no count
pub count_listing : (z : ℤ) (os : List Ref) (h : Heap) (x : List Ref) → (count_more z os (listing x h)).get ≡ (count_more z os h).get
unfolding put
count_listing z [] h x = refl
count_listing z (o ∷ os) h x = count_listing z os (put h o (record (h.get o) { count = (h.get o).count +ℤ z })) (o ∷ x)

pub count_same : (z : ℤ) (os : List Ref) (h k : Heap) → h.get ≡ k.get → (count_more z os h).get ≡ (count_more z os k).get
count_same z os h k e = sym (count_listing z os h k.support) ∙ ap (λ (g : Ref → Record). (count_more z os (record { get = g; support = k.support })).get) e

abbrev pub more : ℤ → Record → Record
more z r = record r { count = r.count +ℤ z }

-- at each reference one count
abbrev pub SameCounts : (Ref → Record) → (Ref → Record) → Type 0
SameCounts get other = (p : Ref) → (get p).count ≡ (other p).count

put_counts : (get other : Ref → Record) (o : Ref) (r s : Record) → r.count ≡ s.count → SameCounts get other → SameCounts (put_at get o r) (put_at other o s)
put_counts get other o r s here e = λ p. by_test p (same_ref p o)
  where
    by_test : (p : Ref) (t : Bool) → (cond t r (get p)).count ≡ (cond t s (other p)).count
    by_test p true = here
    by_test p false = e p

-- only counts decide whether one overflows
pub overflow_same : (z : ℤ) (os : List Ref) (h k : Heap) → SameCounts h.get k.get → Overflows z os h → Overflows z os k
unfolding put
overflow_same z [] h k e none = none
overflow_same z (o ∷ os) h k e (inl leaves) = inl (subst (λ n. Leaves (n +ℤ z)) (e o) leaves)
overflow_same z (o ∷ os) h k e (inr later) = inr (overflow_same z os (put h o (more z (h.get o))) (put k o (more z (k.get o))) (put_counts h.get k.get o (more z (h.get o)) (more z (k.get o)) (ap (λ n. n +ℤ z) (e o)) e) later)

-- what overflows behind an object that is counted, or at it, overflows in the whole
module _ (z : ℤ) (Whole : Type 0) (os : List Ref) (i : ℕ) (d o : Ref) (now : Heap) (so_far : Overflows z (drop i os) now → Whole) (lt : i < length os) (item : o ≡ get_or os i d) where
  from_here : Overflows z (o ∷ drop (i + 1) os) now → Whole
  from_here x = so_far (subst (λ os'. Overflows z os' now) (sym (drop-cons os i d lt ∙ λ k. sym item k ∷ drop (sym (add-one i) k) os)) x)

  pub overflow_next : (after : Heap) → after.get ≡ put_at now.get o (more z (now.get o)) → Overflows z (drop (i + 1) os) after → Whole
  unfolding put
  overflow_next after step later = from_here (inr (overflow_same z (drop (i + 1) os) after (put now o (more z (now.get o))) (λ p. ap (λ (g : Ref → Record). (g p).count) step) later))

  pub overflow_here : Overflows z (o ∷ []) now → Whole
  overflow_here (inl leaves) = from_here (inl leaves)
  overflow_here (inr none) = absurd none

-- a record is written that keeps the count
pub overflow_before : (z : ℤ) (os : List Ref) (h mid : Heap) (p : Ref) (r : Record) → mid.get ≡ put_at h.get p r → r.count ≡ (h.get p).count → Overflows z os mid → Overflows z os h
overflow_before z os h mid p r written keeps = overflow_same z os mid h (λ q. ap (λ (g : Ref → Record). (g q).count) written ∙ by_test q (same_ref q p) refl)
  where
    by_test : (q : Ref) (t : Bool) → same_ref q p ≡ t → (cond t r (h.get q)).count ≡ (h.get q).count
    by_test q true s = keeps ∙ ap (λ o. (h.get o).count) (sym (ref_order.equal q p s))
    by_test q false s = refl

-- what is left to count, on the heap so far, is the whole
pub count_next : (z : ℤ) (whole : Ref → Record) (os : List Ref) (i : ℕ) (d o : Ref) (now after : Heap) → whole ≡ (count_more z (drop i os) now).get → i < length os → o ≡ get_or os i d → after.get ≡ put_at now.get o (more z (now.get o)) → whole ≡ (count_more z (drop (i + 1) os) after).get
unfolding put
count_next z whole os i d o now after so_far lt item step =
    so_far ∙ ap (λ os'. (count_more z os' now).get) (drop-cons os i d lt ∙ λ k. sym item k ∷ drop (sym (add-one i) k) os)
    ∙ count_same z (drop (i + 1) os) (put now o (more z (now.get o))) after (sym step)

pub count_end : (z : ℤ) (whole : Ref → Record) (os : List Ref) (i : ℕ) (now : Heap) → whole ≡ (count_more z (drop i os) now).get → length os ≤ i → now.get ≡ whole
count_end z whole os i now so_far over = sym (so_far ∙ ap (λ os'. (count_more z os' now).get) (drop_all i os over))

-- a record is written, and then the objects are counted
pub counted : (z : ℤ) (os ns : List Ref) (h mid done : Heap) (p : Ref) (r s : Record) → mid.get ≡ put_at h.get p r → r ≡ s → done.get ≡ (count_more z ns mid).get → ns ≡ os → done.get ≡ (count_more z os (put h p s)).get
unfolding put
counted z os ns h mid done p r s written is counts named =
    counts ∙ count_same z ns mid (put h p s) (written ∙ ap (put_at h.get p) is) ∙ ap (λ os'. (count_more z os' (put h p s)).get) named
