-- The numbers of a lemma's step.
use Rattle.std.proofs.Common.{◌≡◌, ℕ, ◌+◌, ◌-◌, ◌<◌, ◌≤◌, ◌≤ℤ◌, Bool, true, false, if◌then◌else◌, ℤ, pos, negsuc, List, [], ◌∷◌, ◌++◌, map, All, length, take, drop, get_or, Option, Some, None, option_map, option_and_then, append_assoc, refl, ap, sym, ◌∙◌, arith}
use Rattle.std.proofs.lemmas.Int.{ints}
use Rattle.std.proofs.lemmas.List.Elements.{All-head, All-tail, All-nil, All-cons}
use Rattle.axiom_steps.specs.Steps.{naturals}
use Rattle.axiom_parameters.specs.Parameters.{with_terms}
use Rattle.block_layout.specs.Layout.{but_last}
use Rattle.block_layout.proofs.Lists.{take_all}
use Rattle.certificate_upgrade.specs.Conclusions.{or_empty, args_of}
use Rattle.upgrade_lemmas.specs.Making.{id_at, number_or, count_of, naturals_of, put_ids}
use Rattle.upgrade_lemmas.proofs.Lists.{drop_next_or, drop_again, get_dropped, get_or_dropped}

-- ---- the arguments

pub two_first : (xs : List ℤ) (d : ℤ) → 2 ≤ length xs → xs ≡ get_or xs 0 d ∷ get_or xs 1 d ∷ drop 2 xs
two_first [] d h = absurd (omega arith)
two_first (x ∷ []) d h = absurd (omega arith)
two_first (x ∷ y ∷ xs) d h = refl

but_last_is : {X : Type 0} (xs : List X) (x : X) → but_last (xs ++ x ∷ []) ≡ Some xs
but_last_is [] x = refl
but_last_is (y ∷ []) x = refl
but_last_is (y ∷ z ∷ xs) x = ap (λ o. option_map (λ more. y ∷ more) o) (but_last_is (z ∷ xs) x)

pub rest_whole : (xs : List ℤ) → 2 ≤ length xs → take (length xs - 2) (drop 2 xs) ≡ drop 2 xs
rest_whole [] h = absurd (omega arith)
rest_whole (x ∷ []) h = absurd (omega arith)
rest_whole (x ∷ y ∷ xs) h = take_all xs (length (x ∷ y ∷ xs) - 2) (omega arith)

-- those between the first two and the last
pub args_are : (xs rest args : List ℤ) (n p t : ℤ) → xs ≡ n ∷ p ∷ rest → rest ≡ args ++ t ∷ [] → args_of xs ≡ naturals_of args
args_are xs rest args n p t e q = ap args_of e ∙ ap (λ o. or_empty (option_and_then naturals o)) (ap but_last q ∙ but_last_is args t)

all_naturals : (zs : List ℤ) → All (λ z. pos 0 ≤ℤ z) zs → (ns : List ℕ) × (naturals zs ≡ Some ns) × (map pos ns ≡ zs)
all_naturals [] h = ([], refl, refl)
all_naturals (pos n ∷ zs) h =
    let (ns, e, q) = all_naturals zs (All-tail (λ z. pos 0 ≤ℤ z) (pos n) zs h) in
    (n ∷ ns, ap (λ o. option_map (λ ms. n ∷ ms) o) e, ap (λ ys. pos n ∷ ys) q)
all_naturals (negsuc n ∷ zs) h = absurd (let under : pos 0 ≤ℤ negsuc n = All-head (λ z. pos 0 ≤ℤ z) (negsuc n) zs h in omega (arith, ints))

pub naturals_are : (zs : List ℤ) → All (λ z. pos 0 ≤ℤ z) zs → map pos (naturals_of zs) ≡ zs
naturals_are zs h = let (ns, e, q) = all_naturals zs h in ap (λ (o : Option (List ℕ)). map pos (or_empty o)) e ∙ q

-- where one is negative there are none
none_natural : (zs : List ℤ) (o : Option (List ℕ)) → naturals zs ≡ o → (All (λ z. pos 0 ≤ℤ z) zs → ⊥) → o ≡ None
none_natural [] o e h = absurd (h (All-nil (λ z. pos 0 ≤ℤ z)))
none_natural (negsuc n ∷ zs) o e h = sym e
none_natural (pos n ∷ zs) o e h =
    let rest = none_natural zs (naturals zs) refl (λ all. h (All-cons (λ z. pos 0 ≤ℤ z) (pos n) zs (nothing n) all)) in
    sym e ∙ ap (λ p. option_map (λ ns. n ∷ ns) p) rest
  where
    nothing : (n : ℕ) → pos 0 ≤ℤ pos n
    nothing n = omega (arith, ints)

pub no_naturals : (zs : List ℤ) → (All (λ z. pos 0 ≤ℤ z) zs → ⊥) → [] ≡ map pos (naturals_of zs)
no_naturals zs h = sym (ap (λ (o : Option (List ℕ)). map pos (or_empty o)) (none_natural zs (naturals zs) refl h))

-- ---- other numbers for terms

no_ids : (zs : List ℤ) (ids : List ℕ) → put_ids [] zs ids ≡ zs
no_ids [] ids = refl
no_ids (z ∷ zs) ids = ap (λ ys. z ∷ ys) (no_ids zs ids)

pub ids_put : (marks : List Bool) (ns ids : List ℕ) → put_ids marks (map pos ns) ids ≡ map pos (with_terms marks ns ids)
ids_put [] ns ids = no_ids (map pos ns) ids
ids_put (b ∷ marks) [] ids = refl
ids_put (false ∷ marks) (n ∷ ns) ids = ap (λ zs. pos n ∷ zs) (ids_put marks ns ids)
ids_put (true ∷ marks) (n ∷ ns) [] = ap (λ zs. pos n ∷ zs) (ids_put marks ns [])
ids_put (true ∷ marks) (n ∷ ns) (id ∷ ids) = ap (λ zs. pos id ∷ zs) (ids_put marks ns ids)

-- what is left of the numbers, with what was put before
pub record Putting (marks : List Bool) (numbers : List ℤ) (ids : List ℕ) (before made : List ℤ) (i next : ℕ) : Type 0 where
  pub few : next ≤ i
  pub left : made ++ put_ids (drop i marks) (drop i numbers) (drop next ids) ≡ before ++ put_ids marks numbers ids

same_id : (marks : List Bool) (ids : List ℕ) (i next : ℕ) → id_at (drop i marks) 0 (drop next ids) 0 ≡ id_at marks i ids next
same_id marks ids i next = λ k. if get_or_dropped marks i false k then get_dropped ids next k else None

pub put_next : (marks : List Bool) (numbers : List ℤ) (ids : List ℕ) (before made more : List ℤ) (i next : ℕ) (z : ℤ) → Putting marks numbers ids before made i next → i < length numbers → z ≡ get_or numbers i (pos 0)
    → more ≡ made ++ number_or (id_at marks i ids next) z ∷ [] → Putting marks numbers ids before more (i + 1) (next + count_of (id_at marks i ids next))
put_next marks numbers ids before made more i next z turn below at e = record {
  few = count_small (id_at marks i ids next) turn.few;
  left =
      ap (λ ys. ys ++ put_ids (drop (i + 1) marks) (drop (i + 1) numbers) (drop (next + count_of here) ids)) e
      ∙ (append_assoc made (number_or here z ∷ []) (put_ids (drop (i + 1) marks) (drop (i + 1) numbers) (drop (next + count_of here) ids))
      ∙ ((λ k. made ++ number_or (sym same k) z ∷ put_ids (sym (drop_again marks i 1) k) (drop (i + 1) numbers) (sym (drop_again ids next (count_of here)) k))
      ∙ ((λ k. made ++ number_or (id_at (drop i marks) 0 (drop next ids) 0) z ∷ put_ids (drop 1 (drop i marks)) (drop (i + 1) numbers) (drop (count_of (sym same k)) (drop next ids)))
      ∙ (sym (ap (λ zs. made ++ put_ids (drop i marks) zs (drop next ids)) (drop_next_or numbers i (pos 0) below ∙ ap (λ y. y ∷ drop (i + 1) numbers) (sym at))) ∙ turn.left))));
} where
  here : Option ℕ
  here = id_at marks i ids next

  same : id_at (drop i marks) 0 (drop next ids) 0 ≡ id_at marks i ids next
  same = same_id marks ids i next

  count_small : (o : Option ℕ) → next ≤ i → next + count_of o ≤ i + 1
  count_small None h = omega arith
  count_small (Some id) h = omega arith
