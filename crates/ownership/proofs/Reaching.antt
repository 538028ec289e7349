-- The search finds the stable set.
use Rattle.std.proofs.Common.{◌≡◌, ◌<◌, inl, inr, ◌↔◌, IsTrue, Bool, true, false, not, cond, ◌&&◌, ◌||◌, List, [], ◌∷◌, ◌++◌, Some, length, refl, sym, ap, subst, ◌∙◌, arith, length-append}
use Rattle.std.specs.List.{find}
use Rattle.std.specs.Prelude.{count_by}
use Rattle.std.proofs.lemmas.Bool.{both_ways, or_cases, or_left, or_right, and_parts, and_from}
use Rattle.object_types.specs.declared.references.Ref.{Ref}
use Rattle.object_types.specs.declared.records.Stored.{Stored}
use Rattle.method.specs.declared.program.Program.{Program}
use Rattle.object_types.specs.References.{same_ref, ref_lt, is_claim}
use Rattle.object_types.specs.Sets.{is_in, is_ordered}
use Rattle.object_types.specs.Heap.{Heap, closed_in, wrapped}
use Rattle.object_types.specs.Lookups.{record_or_nothing, look_up, heap_of}
use Rattle.method.specs.Tables.{has_volatile_owns}
use Rattle.method.specs.WellFormed.{IsHeapOf, claims_now}
use Rattle.method.specs.StableSet.{root, claimed, member, InStableSet, kept_by, stable_set, in_stable_set}
use Rattle.method.proofs.StableTest.{stable_set_law}
use Rattle.object_types.proofs.Orders.{ref_order}
use Rattle.ownership.specs.declared.search.Search.{Search}
use Rattle.ownership.specs.Searching.{Adds, left_of}
use Rattle.ownership.proofs.Lists.{in_append, in_one, in_none}
use Rattle.ownership.proofs.Ordered.{stable_ordered, same_members}

-- What a member brings in.

brings_claimed : (p : Program) (h : Heap) (c q : Ref) → claims_now h q c ≡ true → is_in q (kept_by p h c) ≡ true
brings_claimed p h c q e =
    let a = and_parts (is_claim c) (closed_in h c && is_in q (h.get c).listed) e in
    let b = and_parts (closed_in h c) (is_in q (h.get c).listed) a.1 in
    let both : (is_claim c && closed_in h c) ≡ true = and_from _ _ a.0 b.0 in
    in_append q (cond (is_claim c && closed_in h c) (h.get c).listed []) (cond (has_volatile_owns p c.ty) [] (h.get c).owned)
    ∙ or_left _ _ (ap (λ z. is_in q (cond z (h.get c).listed [])) both ∙ b.1)

brings_owned : (p : Program) (h : Heap) (c q : Ref) → has_volatile_owns p c.ty ≡ false → is_in q (h.get c).owned ≡ true → is_in q (kept_by p h c) ≡ true
brings_owned p h c q v e =
    in_append q (cond (is_claim c && closed_in h c) (h.get c).listed []) (cond (has_volatile_owns p c.ty) [] (h.get c).owned)
    ∙ or_right _ _ (ap (λ z. is_in q (cond z [] (h.get c).owned)) v ∙ e)

brought_in : (p : Program) (t : Ref) (h : Heap) (c q : Ref) → InStableSet p t h c → is_in q (kept_by p h c) ≡ true → InStableSet p t h q
brought_in p t h c q s m =
    elim (or_cases (is_in q (cond (is_claim c && closed_in h c) (h.get c).listed [])) (is_in q (cond (has_volatile_owns p c.ty) [] (h.get c).owned)) (sym (in_append q _ _) ∙ m)) [
      | inl e ↦ claimed s (by_claim (is_claim c) (closed_in h c) e)
      | inr e ↦ by_owner (has_volatile_owns p c.ty) refl e
    ]
  where
    by_claim : (a b : Bool) → is_in q (cond (a && b) (h.get c).listed []) ≡ true → (a && (b && is_in q (h.get c).listed)) ≡ true
    by_claim true true e = e
    by_claim true false e = absurd (both_ways _ (in_none q) e)
    by_claim false b e = absurd (both_ways _ (in_none q) e)

    by_owner : (v : Bool) → has_volatile_owns p c.ty ≡ v → is_in q (cond v [] (h.get c).owned) ≡ true → InStableSet p t h q
    by_owner true v e = absurd (both_ways _ (in_none q) e)
    by_owner false v e = member s v e

-- Everything that a heap's records name.

abbrev pub named : List Stored → List Ref
named [] = []
named (s ∷ ss) = s.listed ++ (s.owned ++ named ss)

listed_named : (ss : List Stored) (c q : Ref) → is_in q (look_up ss c).listed ≡ true → is_in q (named ss) ≡ true
listed_named [] c q h = absurd (both_ways _ (in_none q) h)
listed_named (s ∷ ss) c q h = in_append q s.listed (s.owned ++ named ss) ∙ by_test (same_ref c s.reference) h (λ m. listed_named ss c q m)
  where
    by_test : (b : Bool) → is_in q (record_or_nothing (cond b (Some s) (find (λ r. same_ref c r.reference) ss))).listed ≡ true → (is_in q (look_up ss c).listed ≡ true → is_in q (named ss) ≡ true) → (is_in q s.listed || is_in q (s.owned ++ named ss)) ≡ true
    by_test true m later = or_left _ _ m
    by_test false m later = or_right _ _ (in_append q s.owned (named ss) ∙ or_right _ _ (later m))

owned_named : (ss : List Stored) (c q : Ref) → is_in q (look_up ss c).owned ≡ true → is_in q (named ss) ≡ true
owned_named [] c q h = absurd (both_ways _ (in_none q) h)
owned_named (s ∷ ss) c q h = in_append q s.listed (s.owned ++ named ss) ∙ by_test (same_ref c s.reference) h (λ m. owned_named ss c q m)
  where
    by_test : (b : Bool) → is_in q (record_or_nothing (cond b (Some s) (find (λ r. same_ref c r.reference) ss))).owned ≡ true → (is_in q (look_up ss c).owned ≡ true → is_in q (named ss) ≡ true) → (is_in q s.listed || is_in q (s.owned ++ named ss)) ≡ true
    by_test true m later = or_right _ _ (in_append q s.owned (named ss) ∙ or_left _ _ m)
    by_test false m later = or_right _ _ (in_append q s.owned (named ss) ∙ or_right _ _ (later m))

kept_named : (p : Program) (ss : List Stored) (c q : Ref) → is_in q (kept_by p (heap_of ss) c) ≡ true → is_in q (named ss) ≡ true
kept_named p ss c q m =
    elim (or_cases (is_in q (cond (is_claim c && closed_in (heap_of ss) c) (look_up ss c).listed [])) (is_in q (cond (has_volatile_owns p c.ty) [] (look_up ss c).owned)) (sym (in_append q _ _) ∙ m)) [
      | inl e ↦ listed_named ss c q (of_cond (is_claim c && closed_in (heap_of ss) c) (look_up ss c).listed e)
      | inr e ↦ owned_named ss c q (of_other (has_volatile_owns p c.ty) (look_up ss c).owned e)
    ]
  where
    of_cond : (b : Bool) (xs : List Ref) → is_in q (cond b xs []) ≡ true → is_in q xs ≡ true
    of_cond true xs e = e
    of_cond false xs e = absurd (both_ways _ (in_none q) e)

    of_other : (b : Bool) (xs : List Ref) → is_in q (cond b [] xs) ≡ true → is_in q xs ≡ true
    of_other true xs e = absurd (both_ways _ (in_none q) e)
    of_other false xs e = e

-- What was found is of the stable set, and what doesn't wait was followed.
pub record Reached (p : Program) (t : Ref) (h : Heap) (s : Search) : Type 0 where
  pub sound : (q : Ref) → is_in q s.found ≡ true → InStableSet p t h q
  pub waiting_found : (q : Ref) → is_in q s.waiting.items ≡ true → is_in q s.found ≡ true
  pub followed : (c q : Ref) → is_in c s.found ≡ true → is_in c s.waiting.items ≡ false → is_in q (kept_by p h c) ≡ true → is_in q s.found ≡ true
  pub roots : (q : Ref) → wrapped t h q ≡ true → is_in q s.found ≡ true

pub reached_start : (p : Program) (t : Ref) (h : Heap) (a b : Search) → a.found ≡ [] → a.waiting.items ≡ [] → Adds (wrapped t h) a b → Reached p t h b
reached_start p t h a b none none_waits adds = record {
  sound = λ q m. root (sym (found_is q) ∙ m);
  waiting_found = λ q m. found_is q ∙ sym (waits_is q) ∙ m;
  followed = λ c q m away k. absurd (both_ways _ away (waits_is c ∙ sym (found_is c) ∙ m));
  roots = λ q w. found_is q ∙ w;
}
  where
    not_there : (q : Ref) → is_in q a.found ≡ false
    not_there q = ap (is_in q) none ∙ in_none q

    not_waiting : (q : Ref) → is_in q a.waiting.items ≡ false
    not_waiting q = ap (is_in q) none_waits ∙ in_none q

    and_true : (b : Bool) → (b && true) ≡ b
    and_true true = refl
    and_true false = refl

    found_is : (q : Ref) → is_in q b.found ≡ wrapped t h q
    found_is q = adds.found q ∙ rw (not_there q) refl

    waits_is : (q : Ref) → is_in q b.waiting.items ≡ wrapped t h q
    waits_is q = adds.waits q ∙ rw (not_waiting q, not_there q) (and_true (wrapped t h q))

-- c waits no longer, and what it brings in is added
pub reached_next : (p : Program) (t : Ref) (h : Heap) (c : Ref) (a b d : Search) → Reached p t h a → b.found ≡ a.found → a.waiting.items ≡ b.waiting.items ++ c ∷ [] → Adds (λ q. is_in q (kept_by p h c)) b d → Reached p t h d
reached_next p t h c a b d r same last adds = record {
  sound = λ q m. elim (or_cases (is_in q a.found) (is_in q (kept_by p h c)) (sym (found_is q) ∙ m)) [ inl f ↦ r.sound q f | inr k ↦ brought_in p t h c q (r.sound c c_found) k ];
  waiting_found = λ q m. elim (or_cases (is_in q b.waiting.items) (is_in q (kept_by p h c) && not (is_in q b.found)) (sym (adds.waits q) ∙ m)) [
    | inl w ↦ stays q (r.waiting_found q (waits_is q ∙ or_left _ _ w))
    | inr n ↦ found_is q ∙ or_right _ _ (and_parts (is_in q (kept_by p h c)) (not (is_in q b.found)) n).0
  ];
  followed = λ e q m away k. by_place e q away k (is_in e a.found) refl (sym (found_is e) ∙ m);
  roots = λ q w. stays q (r.roots q w);
}
  where
    waits_is : (q : Ref) → is_in q a.waiting.items ≡ (is_in q b.waiting.items || same_ref q c)
    waits_is q = ap (is_in q) last ∙ in_append q b.waiting.items (c ∷ []) ∙ ap (λ x. is_in q b.waiting.items || x) (in_one q c)

    found_is : (q : Ref) → is_in q d.found ≡ (is_in q a.found || is_in q (kept_by p h c))
    found_is q = adds.found q ∙ ap (λ l. is_in q l || is_in q (kept_by p h c)) same

    stays : (q : Ref) → is_in q a.found ≡ true → is_in q d.found ≡ true
    stays q m = found_is q ∙ or_left _ _ m

    c_found : is_in c a.found ≡ true
    c_found = r.waiting_found c (waits_is c ∙ or_right _ _ (ref_order.itself c))

    -- what doesn't wait at the end didn't wait before
    waits_not : (e : Ref) → is_in e d.waiting.items ≡ false → is_in e b.waiting.items ≡ false
    waits_not e away = by_test (is_in e b.waiting.items) refl
      where
        by_test : (x : Bool) → is_in e b.waiting.items ≡ x → x ≡ false
        by_test true w = absurd (both_ways _ away (adds.waits e ∙ or_left _ _ w))
        by_test false w = refl

    by_last : (e q : Ref) → is_in e b.waiting.items ≡ false → is_in q (kept_by p h e) ≡ true → is_in e a.found ≡ true → (x : Bool) → same_ref e c ≡ x → is_in q d.found ≡ true
    by_last e q out k f true s = found_is q ∙ or_right _ _ (subst (λ o. is_in q (kept_by p h o) ≡ true) (ref_order.equal e c s) k)
    by_last e q out k f false s = stays q (r.followed e q f (waits_is e ∙ rw (out, s) refl) k)

    by_place : (e q : Ref) → is_in e d.waiting.items ≡ false → is_in q (kept_by p h e) ≡ true → (x : Bool) → is_in e a.found ≡ x → (x || is_in e (kept_by p h c)) ≡ true → is_in q d.found ≡ true
    by_place e q away k true f m = by_last e q (waits_not e away) k f (same_ref e c) refl
    by_place e q away k false f m = absurd (both_ways _ away (adds.waits e ∙ or_right _ _ (and_from _ _ m (ap (λ l. not (is_in e l)) same ∙ ap not f))))

-- each that is followed leaves one less to do
pub less_left : (p : Program) (ss : List Stored) (c : Ref) (a b d : Search) → b.found ≡ a.found → a.waiting.items ≡ b.waiting.items ++ c ∷ [] → Adds (λ q. is_in q (kept_by p (heap_of ss) c)) b d → left_of (named ss) d < left_of (named ss) a
less_left p ss c a b d same last adds =
    let fewer = adds.work (named ss) (kept_named p ss c) in
    let shorter = ap length last ∙ length-append b.waiting.items (c ∷ []) in
    let alike = ap (λ l. count_by (λ q. not (is_in q l)) (named ss)) same in
    omega (arith, fewer, shorter, alike)

complete : (p : Program) (t : Ref) (h : Heap) (s : Search) → Reached p t h s → s.waiting.items ≡ [] → (q : Ref) → InStableSet p t h q → is_in q s.found ≡ true
complete p t h s r none q (root w) = r.roots q w
complete p t h s r none q (claimed {c = c} m e) = r.followed c q (complete p t h s r none c m) (ap (is_in c) none ∙ in_none c) (brings_claimed p h c q e)
complete p t h s r none q (member {c = c} m v e) = r.followed c q (complete p t h s r none c m) (ap (is_in c) none ∙ in_none c) (brings_owned p h c q v e)

-- where nothing waits, what was found is the stable set
pub reached_set : (p : Program) (t : Ref) (h : Heap) (s : Search) (set : List Ref) → Reached p t h s → s.waiting.items ≡ [] → set ≡ s.found → (q : Ref) → IsTrue (is_in q set) ↔ InStableSet p t h q
reached_set p t h s set r none e q = (λ m. r.sound q (sym (ap (is_in q) e) ∙ m), λ m. ap (is_in q) e ∙ complete p t h s r none q m)

one_truth : (a b : Bool) → (a ≡ true → b ≡ true) → (b ≡ true → a ≡ true) → a ≡ b
one_truth true b f g = sym (f refl)
one_truth false true f g = g refl
one_truth false false f g = refl

-- and on a heap of the program it is the list of that name
pub reached_list : (p : Program) (t : Ref) (h : Heap) (set : List Ref) → is_ordered ref_lt set ≡ true → ((q : Ref) → IsTrue (is_in q set) ↔ InStableSet p t h q) → IsHeapOf p h → set ≡ stable_set p t h
unfolding in_stable_set
reached_list p t h set ordered exact fit =
    same_members set (stable_set p t h) ordered (stable_ordered p t h)
    (λ q. let law = stable_set_law p t h fit.finite q in one_truth _ _ (λ m. law.1 ((exact q).0 m)) (λ m. (exact q).1 (law.0 m)))
