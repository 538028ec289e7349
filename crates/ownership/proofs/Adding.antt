-- How a search widens.
use Rattle.std.proofs.Common.{◌≡◌, ℕ, ◌+◌, ◌≤◌, ◌<◌, Bool, true, false, not, ◌&&◌, ◌||◌, List, [], ◌∷◌, ◌++◌, length, get_or, take, refl, sym, ap, subst, ◌∙◌, arith, length-append}
use Rattle.std.proofs.lemmas.Bool.{both_ways, or_left, or_right}
use Rattle.std.proofs.lemmas.List.{take_more, take_all}
use Rattle.object_types.specs.declared.references.Ref.{Ref}
use Rattle.object_types.specs.References.{same_ref, ref_lt}
use Rattle.object_types.specs.Sets.{is_in, is_ordered, with_member}
use Rattle.object_types.proofs.Orders.{ref_order}
use Rattle.object_types.proofs.Members.{is_in_with}
use Rattle.ownership.specs.declared.search.Search.{Search}
use Rattle.ownership.specs.Searching.{Adds}
use Rattle.ownership.proofs.Lists.{or_false, or_true, in_append, in_one, in_none}
use Rattle.ownership.proofs.Counting.{counts_at_most, counts_less, length_with}

pub adds_nothing : (passes : Ref → Bool) (a : Search) → ((q : Ref) → passes q ≡ false) → Adds passes a a
adds_nothing passes a none = record {
  found = λ q. rw (none q) (sym (or_false _));
  waits = λ q. rw (none q) (sym (or_false _));
  work = λ all within. omega arith;
}

pub adds_same : (p r : Ref → Bool) (a b : Search) → Adds p a b → ((q : Ref) → p q ≡ r q) → Adds r a b
adds_same p r a b h e = subst (λ (f : Ref → Bool). Adds f a b) (λ i q. e q i) h

or_twice : (a p q : Bool) → ((a || p) || q) ≡ (a || (p || q))
or_twice true p q = refl
or_twice false p q = refl

-- what waits behind two steps
waits_twice : (w a p q : Bool) → ((w || (p && not a)) || (q && not (a || p))) ≡ (w || ((p || q) && not a))
waits_twice true a p q = refl
waits_twice false true true true = refl
waits_twice false true true false = refl
waits_twice false true false true = refl
waits_twice false true false false = refl
waits_twice false false true true = refl
waits_twice false false true false = refl
waits_twice false false false true = refl
waits_twice false false false false = refl

pub adds_then : (p r : Ref → Bool) (a b c : Search) → Adds p a b → Adds r b c → Adds (λ q. p q || r q) a c
adds_then p r a b c first second = record {
  found = λ q. second.found q ∙ rw (first.found q) (or_twice (is_in q a.found) (p q) (r q));
  waits = λ q. second.waits q ∙ rw (first.waits q, first.found q) (waits_twice (is_in q a.waiting.items) (is_in q a.found) (p q) (r q));
  work = λ all within.
      let early = first.work all (λ q h. within q (or_left (p q) (r q) h)) in
      let late = second.work all (λ q h. within q (or_right (p q) (r q) h)) in
      omega (arith, early, late);
}

turned : (a b : Bool) → (a || b) ≡ (b || a)
turned true true = refl
turned true false = refl
turned false true = refl
turned false false = refl

-- what isn't in the wider set isn't in the narrower
narrower : (a b : Search) (o : Ref) → ((q : Ref) → is_in q b.found ≡ (is_in q a.found || same_ref q o)) → (q : Ref) → not (is_in q b.found) ≡ true → not (is_in q a.found) ≡ true
narrower a b o found q h = by_test (is_in q a.found) refl
  where
    by_test : (x : Bool) → is_in q a.found ≡ x → not x ≡ true
    by_test true e = let there : is_in q b.found ≡ true = found q ∙ rw e refl in absurd (both_ways _ (ap not there) h)
    by_test false e = refl

with_found : (a b : Search) (o : Ref) → b.found ≡ with_member o a.found → (q : Ref) → is_in q b.found ≡ (is_in q a.found || same_ref q o)
with_found a b o e q = ap (is_in q) e ∙ is_in_with q o a.found ∙ turned (same_ref q o) (is_in q a.found)

-- a member is added: nothing new
pub adds_member : (a b : Search) (o : Ref) → b.found ≡ with_member o a.found → b.waiting.items ≡ a.waiting.items → is_in o a.found ≡ true → Adds (λ q. same_ref q o) a b
adds_member a b o e w member = record {
  found = with_found a b o e;
  waits = λ q. ap (is_in q) w ∙ by_test q (same_ref q o) refl;
  work = λ all within. let fewer = counts_at_most (λ q. not (is_in q b.found)) (λ q. not (is_in q a.found)) (narrower a b o (with_found a b o e)) all in rw w (omega (arith, fewer));
}
  where
    by_test : (q : Ref) (s : Bool) → same_ref q o ≡ s → is_in q a.waiting.items ≡ (is_in q a.waiting.items || (s && not (is_in q a.found)))
    by_test q true s = rw (ref_order.equal q o s, member) (sym (or_false _))
    by_test q false s = sym (or_false _)

-- what is new is added, and waits
pub adds_new : (a b : Search) (o : Ref) → b.found ≡ with_member o a.found → b.waiting.items ≡ a.waiting.items ++ o ∷ [] → is_in o a.found ≡ false → Adds (λ q. same_ref q o) a b
adds_new a b o e w new = record {
  found = with_found a b o e;
  waits = λ q. ap (is_in q) w ∙ in_append q a.waiting.items (o ∷ []) ∙ rw (in_one q o) (by_test q (same_ref q o) refl);
  work = λ all within.
      let there : is_in o b.found ≡ true = with_found a b o e o ∙ rw (ref_order.itself o) (or_true (is_in o a.found)) in
      let fewer = counts_less (λ q. not (is_in q b.found)) (λ q. not (is_in q a.found)) (narrower a b o (with_found a b o e)) o (ap not there) (ap not new) all (within o (ref_order.itself o)) in
      let longer = ap length w ∙ length-append a.waiting.items (o ∷ []) in
      omega (arith, fewer, longer);
}
  where
    by_test : (q : Ref) (s : Bool) → same_ref q o ≡ s → (is_in q a.waiting.items || s) ≡ (is_in q a.waiting.items || (s && not (is_in q a.found)))
    by_test q true s = rw (ap (λ x. not (is_in x a.found)) (ref_order.equal q o s) ∙ ap not new) refl
    by_test q false s = refl

-- the set is as long as before only where it has the member
pub member_of_length : (o : Ref) (set : List Ref) → is_ordered ref_lt set ≡ true → length (with_member o set) ≡ length set → is_in o set ≡ true
member_of_length o set h same = by_test (is_in o set) refl
  where
    by_test : (m : Bool) → is_in o set ≡ m → m ≡ true
    by_test true e = refl
    by_test false e = absurd (let grown = (length_with o set h).new_there e in omega (arith, grown, same))

pub new_of_length : (o : Ref) (set : List Ref) → is_ordered ref_lt set ≡ true → (length (with_member o set) ≡ length set → ⊥) → is_in o set ≡ false
new_of_length o set h other = by_test (is_in o set) refl
  where
    by_test : (m : Bool) → is_in o set ≡ m → m ≡ false
    by_test true e = absurd (other ((length_with o set h).there e))
    by_test false e = refl

-- A list is added one by one.

pub adds_start : (a : Search) → Adds (λ q. is_in q []) a a
adds_start a = adds_nothing (λ q. is_in q []) a in_none

pub adds_next : (objects : List Ref) (i : ℕ) (d : Ref) (a b c : Search) → Adds (λ q. is_in q (take i objects)) a b → i < length objects → Adds (λ q. same_ref q (get_or objects i d)) b c → Adds (λ q. is_in q (take (i + 1) objects)) a c
adds_next objects i d a b c so_far within one =
    let m = get_or objects i d in
    adds_same (λ q. is_in q (take i objects) || same_ref q m) (λ q. is_in q (take (i + 1) objects)) a c (adds_then _ _ a b c so_far one)
    (λ q. sym (ap (is_in q) (take_more objects i d within) ∙ in_append q (take i objects) (m ∷ []) ∙ ap (λ x. is_in q (take i objects) || x) (in_one q m)))

pub adds_end : (objects : List Ref) (i : ℕ) (a b : Search) → Adds (λ q. is_in q (take i objects)) a b → length objects ≤ i → Adds (λ q. is_in q objects) a b
adds_end objects i a b so_far over = adds_same _ _ a b so_far (λ q. ap (is_in q) (take_all i objects over))

pub adds_both : (xs ys zs us : List Ref) (a b c : Search) → Adds (λ q. is_in q xs) a b → Adds (λ q. is_in q ys) b c → xs ≡ zs → ys ≡ us → Adds (λ q. is_in q (zs ++ us)) a c
adds_both xs ys zs us a b c first second e f =
    adds_same (λ q. is_in q xs || is_in q ys) (λ q. is_in q (zs ++ us)) a c (adds_then _ _ a b c first second)
    (λ q. ap (λ l. is_in q l || is_in q ys) e ∙ ap (λ l. is_in q zs || is_in q l) f ∙ sym (in_append q zs us))
