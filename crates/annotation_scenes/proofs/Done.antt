-- Lists made one by one: what is made, and the rest, are the whole.
use Rattle.std.specs.Prelude.{◌≡◌, ℕ, zero, suc, ◌+◌, ◌<◌, ◌≤◌, Bool, true, false, not, ◌==◌, if◌then◌else◌, List, [], ◌∷◌, ◌++◌, length, map, drop}
use Rattle.std.proofs.Common.{refl, ap, sym, ◌∙◌, subst, get_or, append_assoc, arith}
use Rattle.std.proofs.lemmas.List.{append-nil, length-append, length-map}
use Rattle.std.proofs.Math.ListN.{drop_of_length-le}
use Rattle.std.proofs.Math.Seq.{drop-cons}
use Rattle.terms.specs.declared.term.Term.{Term}
use Rattle.terms.specs.Formula.{Formula}
use Rattle.conditions.specs.Formulas.{and', reference}
use Rattle.conditions.specs.Symbolic as symbolic
use Rattle.conditions.specs.Annotations.{Scene, parts, constant_like, constants_like, references_like, and_left}
use Rattle.condition_formulas.specs.declared.symbolic.Symbolic.{Symbolic}
use Rattle.condition_formulas.specs.Standing.{StandsAs, StandAll, Later}
use Rattle.condition_formulas.specs.Symbolics.{IsSymbolic, AreSymbolic, EachSymbolic}
use Rattle.condition_formulas.proofs.Rows.{at, as_long, none, then_one, same_ids, all_later}
use Rattle.condition_formulas.proofs.Symbolics.{are_later, symbolic_later}
use Rattle.annotation_scenes.specs.Scenes.{AreWords}
use Rattle.annotation_scenes.specs.Quantifying.{part_at, places_of}
use Rattle.annotation_scenes.proofs.Scenes.{as_many}

-- formulas
pub record Done (ts : List Term) (made : List ℕ) (rest whole : List Formula) : Type 0 where
  pub done : List Formula
  pub all : StandAll ts made done
  pub is : done ++ rest ≡ whole

pub done_first : (ts : List Term) (whole : List Formula) → Done ts [] whole whole
done_first ts whole = record { done = []; all = none; is = refl }

pub done_next : {mid new : List Term} {made next : List ℕ} {id : ℕ} {f : Formula} {now rest whole : List Formula} → Done mid made now whole → now ≡ f ∷ rest → Later mid new → StandsAs new id f → next ≡ made ++ id ∷ [] → Done new next rest whole
done_next {f = f} {rest = rest} d e later is more = record {
  done = d.done ++ f ∷ [];
  all = same_ids more (then_one (all_later later d.all) is);
  is = append_assoc d.done (f ∷ []) rest ∙ ap (λ (gs : List Formula). d.done ++ gs) (sym e) ∙ d.is;
}

pub done_skip : {mid : List Term} {made : List ℕ} {now rest whole : List Formula} → Done mid made now whole → now ≡ rest → Done mid made rest whole
done_skip {mid} {made = made} {whole = whole} d e = subst (λ (gs : List Formula). Done mid made gs whole) e d

pub done_last : {ts : List Term} {made : List ℕ} {rest whole : List Formula} → Done ts made rest whole → rest ≡ [] → StandAll ts made whole
done_last {ts} {made} d e = subst (λ (gs : List Formula). StandAll ts made gs) (sym (append-nil d.done) ∙ ap (λ (gs : List Formula). d.done ++ gs) (sym e) ∙ d.is) d.all

-- values
pub record DoneValues (ts : List Term) (made : List Symbolic) (rest whole : List symbolic.Symbolic) : Type 0 where
  pub done : List symbolic.Symbolic
  pub all : AreSymbolic ts made done
  pub is : done ++ rest ≡ whole

pub values_first : (ts : List Term) (whole : List symbolic.Symbolic) → DoneValues ts [] whole whole
values_first ts whole = record { done = []; all = record { each = tt }; is = refl }

each_then : (ts : List Term) (vs : List Symbolic) (ws : List symbolic.Symbolic) (v : Symbolic) (w : symbolic.Symbolic) → EachSymbolic ts vs ws → IsSymbolic ts v w → EachSymbolic ts (vs ++ v ∷ []) (ws ++ w ∷ [])
each_then ts [] [] v w each is = (is, tt)
each_then ts [] (y ∷ ys) v w each is = absurd each
each_then ts (x ∷ xs) [] v w each is = absurd each
each_then ts (x ∷ xs) (y ∷ ys) v w each is = (each.0, each_then ts xs ys v w each.1 is)

pub values_next : {mid new : List Term} {made next : List Symbolic} {v : Symbolic} {w : symbolic.Symbolic} {now rest whole : List symbolic.Symbolic} → DoneValues mid made now whole → now ≡ w ∷ rest → Later mid new → IsSymbolic new v w → next ≡ made ++ v ∷ [] → DoneValues new next rest whole
values_next {new = new} {made = made} {v = v} {w = w} {rest = rest} d e later is more = record {
  done = d.done ++ w ∷ [];
  all = subst (λ (us : List Symbolic). AreSymbolic new us (d.done ++ w ∷ [])) (sym more) (record { each = each_then new made d.done v w (are_later later d.all).each is });
  is = append_assoc d.done (w ∷ []) rest ∙ ap (λ (us : List symbolic.Symbolic). d.done ++ us) (sym e) ∙ d.is;
}

pub values_last : {ts : List Term} {made : List Symbolic} {rest whole : List symbolic.Symbolic} → DoneValues ts made rest whole → rest ≡ [] → AreSymbolic ts made whole
values_last {ts} {made} d e = subst (λ (us : List symbolic.Symbolic). AreSymbolic ts made us) (sym (append-nil d.done) ∙ ap (λ (us : List symbolic.Symbolic). d.done ++ us) (sym e) ∙ d.is) d.all

-- what stands at a place of values
pub record ValueAt (ts : List Term) (v : Symbolic) (i : ℕ) (ws : List symbolic.Symbolic) : Type 0 where
  pub value : symbolic.Symbolic
  pub is : drop i ws ≡ value ∷ drop (i + 1) ws
  pub here : IsSymbolic ts v value

each_value : (ts : List Term) (vs : List Symbolic) (ws : List symbolic.Symbolic) (i : ℕ) (d : Symbolic) → EachSymbolic ts vs ws → i < length vs → (w : symbolic.Symbolic) × (drop i ws ≡ w ∷ drop (suc i) ws) × IsSymbolic ts (get_or vs i d) w
each_value ts [] ws i d each below = absurd (omega arith)
each_value ts (v ∷ vs) [] i d each below = absurd each
each_value ts (v ∷ vs) (w ∷ ws) zero d each below = (w, refl, each.0)
each_value ts (v ∷ vs) (w ∷ ws) (suc i) d each below = each_value ts vs ws i d each.1 (omega arith)

pub value_at : {ts : List Term} {vs : List Symbolic} {ws : List symbolic.Symbolic} (i : ℕ) (d : Symbolic) → AreSymbolic ts vs ws → i < length vs → ValueAt ts (get_or vs i d) i ws
value_at {ts} {vs} {ws} i d are below =
    let got = each_value ts vs ws i d are.each below in
    let next : suc i ≡ i + 1 = omega arith in
    record { value = got.0; is = got.1 ∙ ap (λ (j : ℕ). got.0 ∷ drop j ws) next; here = got.2 }

pub then_later : {a b c : List Term} → Later a b → Later b c → Later a c
then_later first second = λ n f is. second n f (first n f is)

-- The loops.

-- terms of values
pub record Terms (old new : List Term) (vs : List Symbolic) (made : List ℕ) (i : ℕ) : Type 0 where
  pub later : Later old new
  pub goes : (ws : List symbolic.Symbolic) → AreSymbolic old vs ws → Done new made (map symbolic.term (drop i ws)) (map symbolic.term ws)

pub terms_first : (ts : List Term) (vs : List Symbolic) → Terms ts ts vs [] 0
terms_first ts vs = record { later = λ n f is. is; goes = λ ws are. done_first ts (map symbolic.term ws) }

pub terms_next : (old mid new : List Term) (vs : List Symbolic) (made next : List ℕ) (i id : ℕ) (d : Symbolic) → Terms old mid vs made i → i < length vs → Later mid new → ((w : symbolic.Symbolic) → IsSymbolic mid (get_or vs i d) w → StandsAs new id (symbolic.term w)) → next ≡ made ++ id ∷ [] → Terms old new vs next (i + 1)
terms_next old mid new vs made next i id d t below later one more = record {
  later = λ n f is. later n f (t.later n f is);
  goes = λ ws are.
      let here = value_at i d are below in
      done_next (t.goes ws are) (ap (map symbolic.term) here.is) later (one here.value (symbolic_later t.later here.here)) more;
}

pub terms_last : {old new : List Term} {vs : List Symbolic} {made : List ℕ} {i : ℕ} → Terms old new vs made i → length vs ≤ i → (ws : List symbolic.Symbolic) → AreSymbolic old vs ws → StandAll new made (map symbolic.term ws)
terms_last {i = i} t end ws are = done_last (t.goes ws are) (ap (map symbolic.term) (drop_of_length-le ws (omega (arith, as_many are))))

-- constants of the values' sorts
pub record Likes (old new : List Term) (first : ℕ) (vs made : List Symbolic) (i : ℕ) : Type 0 where
  pub later : Later old new
  pub goes : (ws : List symbolic.Symbolic) → AreSymbolic old vs ws → DoneValues new made (constants_like (first + i) (drop i ws)) (constants_like first ws)

pub likes_first : (ts : List Term) (first : ℕ) (vs : List Symbolic) → Likes ts ts first vs [] 0
likes_first ts first vs = record {
  later = λ n f is. is;
  goes = λ ws are.
      let same : first + 0 ≡ first = omega arith in
      subst (λ (n : ℕ). DoneValues ts [] (constants_like n ws) (constants_like first ws)) (sym same) (values_first ts (constants_like first ws));
}

pub likes_next : (old mid new : List Term) (first : ℕ) (vs made next : List Symbolic) (i : ℕ) (v d : Symbolic) → Likes old mid first vs made i → i < length vs → Later mid new → ((w : symbolic.Symbolic) → IsSymbolic mid (get_or vs i d) w → IsSymbolic new v (constant_like (first + i) w)) → next ≡ made ++ v ∷ [] → Likes old new first vs next (i + 1)
likes_next old mid new first vs made next i v d t below later one more = record {
  later = λ n f is. later n f (t.later n f is);
  goes = λ ws are.
      let here = value_at i d are below in
      let number : first + i + 1 ≡ first + (i + 1) = omega arith in
      values_next (t.goes ws are) (ap (constants_like (first + i)) here.is ∙ ap (λ (n : ℕ). constant_like (first + i) here.value ∷ constants_like n (drop (i + 1) ws)) number) later (one here.value (symbolic_later t.later here.here)) more;
}

pub likes_last : {old new : List Term} {first : ℕ} {vs made : List Symbolic} {i : ℕ} → Likes old new first vs made i → length vs ≤ i → (ws : List symbolic.Symbolic) → AreSymbolic old vs ws → AreSymbolic new made (constants_like first ws)
likes_last {first = first} {i = i} t end ws are = values_last (t.goes ws are) (ap (constants_like (first + i)) (drop_of_length-le ws (omega (arith, as_many are))))

-- reference constants
pub record References (old new : List Term) (first : ℕ) (ids made : List ℕ) (i : ℕ) : Type 0 where
  pub later : Later old new
  pub goes : (fs : List Formula) → StandAll old ids fs → Done new made (references_like (first + i) (drop i fs)) (references_like first fs)

pub references_first : (ts : List Term) (first : ℕ) (ids : List ℕ) → References ts ts first ids [] 0
references_first ts first ids = record {
  later = λ n f is. is;
  goes = λ fs all.
      let same : first + 0 ≡ first = omega arith in
      subst (λ (n : ℕ). Done ts [] (references_like n fs) (references_like first fs)) (sym same) (done_first ts (references_like first fs));
}

pub references_next : (old mid new : List Term) (first : ℕ) (ids made next : List ℕ) (i id : ℕ) → References old mid first ids made i → i < length ids → Later mid new → StandsAs new id (reference (first + i)) → next ≡ made ++ id ∷ [] → References old new first ids next (i + 1)
references_next old mid new first ids made next i id t below later one more = record {
  later = λ n f is. later n f (t.later n f is);
  goes = λ fs all.
      let here = at i all below in
      let number : first + i + 1 ≡ first + (i + 1) = omega arith in
      done_next (t.goes fs all) (ap (references_like (first + i)) here.is ∙ ap (λ (n : ℕ). reference (first + i) ∷ references_like n (drop (i + 1) fs)) number) later one more;
}

pub references_last : {old new : List Term} {first : ℕ} {ids made : List ℕ} {i : ℕ} → References old new first ids made i → length ids ≤ i → (fs : List Formula) → StandAll old ids fs → StandAll new made (references_like first fs)
references_last {first = first} {i = i} t end fs all = done_last (t.goes fs all) (ap (references_like (first + i)) (drop_of_length-le fs (omega (arith, as_long all))))

-- what stands at the free places
pub record Frees (old new : List Term) (ids places made : List ℕ) (i : ℕ) : Type 0 where
  pub later : Later old new
  pub goes : (fs : List Formula) → StandAll old ids fs → Done new made (map (part_at fs) (places_of fs (drop i places))) (map (part_at fs) (places_of fs places))

pub frees_first : (ts : List Term) (ids places : List ℕ) → Frees ts ts ids places [] 0
frees_first ts ids places = record { later = λ n f is. is; goes = λ fs all. done_first ts (map (part_at fs) (places_of fs places)) }

drop_step : (xs : List ℕ) (i : ℕ) → i < length xs → drop i xs ≡ get_or xs i 0 ∷ drop (i + 1) xs
drop_step xs i below =
    let next : suc i ≡ i + 1 = omega arith in
    drop-cons xs i 0 below ∙ ap (λ (j : ℕ). get_or xs i 0 ∷ drop j xs) next

free_kept : (fs : List Formula) (n : ℕ) (ns : List ℕ) → (n == length fs) ≡ false → places_of fs (n ∷ ns) ≡ n ∷ places_of fs ns
free_kept fs n ns e = ap (λ (b : Bool). if not b then n ∷ places_of fs ns else places_of fs ns) e

free_gone : (fs : List Formula) (n : ℕ) (ns : List ℕ) → (n == length fs) ≡ true → places_of fs (n ∷ ns) ≡ places_of fs ns
free_gone fs n ns e = ap (λ (b : Bool). if not b then n ∷ places_of fs ns else places_of fs ns) e

pub frees_next : (old mid new : List Term) (ids places made next : List ℕ) (i id : ℕ) → Frees old mid ids places made i → i < length places → (get_or places i 0 == length ids) ≡ false → Later mid new → ((fs : List Formula) → StandAll mid ids fs → StandsAs new id (part_at fs (get_or places i 0))) → next ≡ made ++ id ∷ [] → Frees old new ids places next (i + 1)
frees_next old mid new ids places made next i id t below other later one more = record {
  later = λ n f is. later n f (t.later n f is);
  goes = λ fs all.
      let kept = ap (λ (n : ℕ). get_or places i 0 == n) (sym (as_long all)) ∙ other in
      done_next (t.goes fs all) (ap (λ (ns : List ℕ). map (part_at fs) (places_of fs ns)) (drop_step places i below) ∙ ap (map (part_at fs)) (free_kept fs (get_or places i 0) (drop (i + 1) places) kept)) later (one fs (all_later t.later all)) more;
}

pub frees_skip : (old mid : List Term) (ids places made : List ℕ) (i : ℕ) → Frees old mid ids places made i → i < length places → (get_or places i 0 == length ids) ≡ true → Frees old mid ids places made (i + 1)
frees_skip old mid ids places made i t below same = record {
  later = t.later;
  goes = λ fs all.
      let gone = ap (λ (n : ℕ). get_or places i 0 == n) (sym (as_long all)) ∙ same in
      done_skip (t.goes fs all) (ap (λ (ns : List ℕ). map (part_at fs) (places_of fs ns)) (drop_step places i below) ∙ ap (map (part_at fs)) (free_gone fs (get_or places i 0) (drop (i + 1) places) gone));
}

pub frees_last : {old new : List Term} {ids places made : List ℕ} {i : ℕ} → Frees old new ids places made i → length places ≤ i → (fs : List Formula) → StandAll old ids fs → StandAll new made (map (part_at fs) (places_of fs places))
frees_last {places = places} t end fs all = done_last (t.goes fs all) (ap (λ (ns : List ℕ). map (part_at fs) (places_of fs ns)) (drop_of_length-le places end))

-- joined to the left
pub record Lefts (old new : List Term) (first : ℕ) (ids : List ℕ) (i id : ℕ) : Type 0 where
  pub later : Later old new
  pub goes : (f : Formula) (fs : List Formula) → StandsAs old first f → StandAll old ids fs → (g : Formula) × StandsAs new id g × (and_left g (drop i fs) ≡ and_left f fs)

pub lefts_first : (ts : List Term) (first : ℕ) (ids : List ℕ) → Lefts ts ts first ids 0 first
lefts_first ts first ids = record { later = λ n f is. is; goes = λ f fs is all. (f, is, refl) }

pub lefts_next : (old mid new : List Term) (first : ℕ) (ids : List ℕ) (i id next : ℕ) → Lefts old mid first ids i id → i < length ids → Later mid new → ((f g : Formula) → StandsAs mid id f → StandsAs mid (get_or ids i 0) g → StandsAs new next (and' f g)) → Lefts old new first ids (i + 1) next
lefts_next old mid new first ids i id next t below later one = record {
  later = λ n f is. later n f (t.later n f is);
  goes = λ f fs is all.
      let here = at i all below in
      let so_far = t.goes f fs is all in
      (and' so_far.0 here.tree, one so_far.0 here.tree so_far.1 (t.later _ _ here.here), sym (ap (and_left so_far.0) here.is) ∙ so_far.2);
}

pub lefts_last : {old new : List Term} {first : ℕ} {ids : List ℕ} {i id : ℕ} → Lefts old new first ids i id → length ids ≤ i → (f : Formula) (fs : List Formula) → StandsAs old first f → StandAll old ids fs → StandsAs new id (and_left f fs)
lefts_last {new = new} {i = i} {id = id} t end f fs is all =
    let so_far = t.goes f fs is all in
    let none : drop i fs ≡ [] = drop_of_length-le fs (omega (arith, as_long all)) in
    subst (λ (g : Formula). StandsAs new id g) (sym (ap (and_left so_far.0) none) ∙ so_far.2) so_far.1

-- the number behind all parts
pub part_count : {ts : List Term} {b a m t u : ℕ} {p : Bool} {ls es : List Symbolic} {r : Symbolic} {ds : List ℕ} {s : Scene} → AreWords ts b a m t u p ls es r ds s → 5 + length ls + length es + length ds ≡ length (parts s)
part_count {ls = ls} {es = es} {ds = ds} {s = s} h =
    let l = as_many h.locals_are in
    let e = as_many h.entry_is in
    let d = as_long h.bound_are in
    let whole = length-append ((s.after ∷ s.before ∷ s.me ∷ s.this ∷ symbolic.term s.result ∷ map symbolic.term s.locals) ++ map symbolic.term s.entry) s.bound in
    let front = length-append (s.after ∷ s.before ∷ s.me ∷ s.this ∷ symbolic.term s.result ∷ map symbolic.term s.locals) (map symbolic.term s.entry) in
    let ml = length-map s.locals symbolic.term in
    let me = length-map s.entry symbolic.term in
    omega arith
