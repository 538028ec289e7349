-- Formulas made for the elements of a list, one by one, and heaps changed for one after the other.
use Rattle.std.specs.Prelude.{◌≡◌, ℕ, zero, suc, ◌+◌, ◌<◌, ◌≤◌, List, [], ◌∷◌, ◌++◌, length, map, take, drop}
use Rattle.std.proofs.Common.{refl, ap, sym, ◌∙◌, subst, get_or, append_assoc, arith}
use Rattle.std.proofs.Math.ListN.{drop_of_length-le}
use Rattle.terms.specs.declared.term.Term.{Term}
use Rattle.terms.specs.Formula.{Formula}
use Rattle.conditions.specs.Annotations as annotation
use Rattle.condition_formulas.specs.Standing.{StandsAs, StandAll, Each, Later}
use Rattle.condition_formulas.proofs.Rows.{at, as_long, both, same_ids, all_later}
use Rattle.annotation_scenes.proofs.Done.{Done, done_first, done_next, done_last}
use Rattle.condition_code.specs.declared.state.Entry.{Entry}
use Rattle.condition_code.specs.States.{IsEntry, EachEntry, AreEntries}

-- the next element, and what is known of it
pub record Next {E : Type 0} (P : E → Type 0) (i : ℕ) (es : List E) : Type 0 where
  pub element : E
  pub is : drop i es ≡ element ∷ drop (i + 1) es
  pub here : P element

pub next_formula : {ts : List Term} {ids : List ℕ} {fs : List Formula} (i : ℕ) → StandAll ts ids fs → i < length ids → Next (StandsAs ts (get_or ids i 0)) i fs
next_formula i all below =
    let here = at i all below in
    record { element = here.tree; is = here.is; here = here.here }

each_entry_at : (ts : List Term) (cs : List Entry) (es : List annotation.Entry) (i : ℕ) (d : Entry) → EachEntry ts cs es → i < length cs → (e : annotation.Entry) × (drop i es ≡ e ∷ drop (suc i) es) × IsEntry ts (get_or cs i d) e
each_entry_at ts [] es i d each below = absurd (omega arith)
each_entry_at ts (c ∷ cs) [] i d each below = absurd each
each_entry_at ts (c ∷ cs) (e ∷ es) zero d each below = (e, refl, each.0)
each_entry_at ts (c ∷ cs) (e ∷ es) (suc i) d each below = each_entry_at ts cs es i d each.1 (omega arith)

pub next_entry : {ts : List Term} {cs : List Entry} {es : List annotation.Entry} {x : Entry} (i : ℕ) (d : Entry) → AreEntries ts cs es → i < length cs → x ≡ get_or cs i d → Next (IsEntry ts x) i es
next_entry {ts} {cs} {es} i d all below is =
    let there = each_entry_at ts cs es i d all.each below in
    let next : suc i ≡ i + 1 = omega arith in
    record {
      element = there.0;
      is = there.1 ∙ ap (λ (j : ℕ). there.0 ∷ drop j es) next;
      here = subst (λ (c : Entry). IsEntry ts c there.0) (sym is) there.2;
    }

each_entry_long : (ts : List Term) (cs : List Entry) (es : List annotation.Entry) → EachEntry ts cs es → length cs ≡ length es
each_entry_long ts [] [] each = refl
each_entry_long ts [] (e ∷ es) each = absurd each
each_entry_long ts (c ∷ cs) [] each = absurd each
each_entry_long ts (c ∷ cs) (e ∷ es) each = ap suc (each_entry_long ts cs es each.1)

pub entries_long : {ts : List Term} {cs : List Entry} {es : List annotation.Entry} → AreEntries ts cs es → length cs ≡ length es
entries_long {ts} {cs} {es} all = each_entry_long ts cs es all.each

each_entry_then : (ts : List Term) (cs : List Entry) (es : List annotation.Entry) (c : Entry) (e : annotation.Entry) → EachEntry ts cs es → IsEntry ts c e → EachEntry ts (cs ++ c ∷ []) (es ++ e ∷ [])
each_entry_then ts [] [] c e each is = (is, tt)
each_entry_then ts [] (y ∷ ys) c e each is = absurd each
each_entry_then ts (x ∷ xs) [] c e each is = absurd each
each_entry_then ts (x ∷ xs) (y ∷ ys) c e each is = (each.0, each_entry_then ts xs ys c e each.1 is)

pub then_entry : {ts : List Term} {cs all : List Entry} {es : List annotation.Entry} {c : Entry} {e : annotation.Entry} → AreEntries ts cs es → IsEntry ts c e → all ≡ cs ++ c ∷ [] → AreEntries ts all (es ++ e ∷ [])
then_entry {ts} {cs} {all} {es} {c} {e} are is more = subst (λ (xs : List Entry). AreEntries ts xs (es ++ e ∷ [])) (sym more) (record { each = each_entry_then ts cs es c e are.each is })

-- Several formulas more, behind those that are done.
pub done_several : {mid new : List Term} {made next ids : List ℕ} {fs now rest whole : List Formula} → Done mid made now whole → now ≡ fs ++ rest → Later mid new → StandAll new ids fs → next ≡ made ++ ids → Done new next rest whole
done_several {fs = fs} {rest = rest} d e later are more = record {
  done = d.done ++ fs;
  all = same_ids more (both (all_later later d.all) are);
  is = append_assoc d.done fs rest ∙ ap (λ (gs : List Formula). d.done ++ gs) (sym e) ∙ d.is;
}

-- Of each element a formula.
pub record OfEach {S E : Type 0} (Known : S → Type 0) (Are : List E → Type 0) (by : S → E → Formula) (old new : List Term) (made : List ℕ) (i : ℕ) : Type 0 where
  pub later : Later old new
  pub goes : (s : S) (es : List E) → Known s → Are es → Done new made (map (by s) (drop i es)) (map (by s) es)

pub of_none : {S E : Type 0} {Known : S → Type 0} {Are : List E → Type 0} {by : S → E → Formula} {ts : List Term} {made : List ℕ} → made ≡ [] → OfEach Known Are by ts ts made 0
of_none {by = by} {ts = ts} e = record {
  later = λ n f h. h;
  goes = λ s es known are. subst (λ (ids : List ℕ). Done ts ids (map (by s) es) (map (by s) es)) (sym e) (done_first ts (map (by s) es));
}

pub of_next : {S E : Type 0} {Known : S → Type 0} {Are : List E → Type 0} {by : S → E → Formula} {old mid new : List Term} {made next : List ℕ} {i id : ℕ} (P : E → Type 0) → OfEach Known Are by old mid made i → ((es : List E) → Are es → Next P i es) → Later mid new → ((s : S) (e : E) → Known s → P e → StandsAs new id (by s e)) → next ≡ made ++ id ∷ [] → OfEach Known Are by old new next (i + 1)
of_next {by = by} P t there later one more = record {
  later = λ n f h. later n f (t.later n f h);
  goes = λ s es known are.
      let here = there es are in
      done_next (t.goes s es known are) (ap (map (by s)) here.is) later (one s here.element known here.here) more;
}

pub of_formula : {S : Type 0} {Known : S → Type 0} {by : S → Formula → Formula} {old mid new : List Term} {ids made next : List ℕ} {i id : ℕ} → OfEach Known (StandAll old ids) by old mid made i → i < length ids → Later mid new → ((s : S) (f : Formula) → Known s → StandsAs old (get_or ids i 0) f → StandsAs new id (by s f)) → next ≡ made ++ id ∷ [] → OfEach Known (StandAll old ids) by old new next (i + 1)
of_formula {old = old} {ids = ids} {i = i} t below later one more = of_next (StandsAs old (get_or ids i 0)) t (λ fs all. next_formula i all below) later one more

pub of_all : {S : Type 0} {Known : S → Type 0} {by : S → Formula → Formula} {old new : List Term} {ids made : List ℕ} {i : ℕ} → OfEach Known (StandAll old ids) by old new made i → length ids ≤ i → (s : S) (fs : List Formula) → Known s → StandAll old ids fs → StandAll new made (map (by s) fs)
of_all {by = by} {i = i} t end s fs known all = done_last (t.goes s fs known all) (ap (map (by s)) (drop_of_length-le fs (omega (arith, as_long all))))

pub of_entries : {S : Type 0} {Known : S → Type 0} {by : S → annotation.Entry → Formula} {old new : List Term} {cs : List Entry} {made : List ℕ} {i : ℕ} → OfEach Known (AreEntries old cs) by old new made i → length cs ≤ i → (s : S) (es : List annotation.Entry) → Known s → AreEntries old cs es → StandAll new made (map (by s) es)
of_entries {by = by} {i = i} t end s es known all = done_last (t.goes s es known all) (ap (map (by s)) (drop_of_length-le es (omega (arith, entries_long all))))

-- A heap that is changed for one element after the other.
pub record Folds {S E : Type 0} (Known : S → Type 0) (Are : List E → Type 0) (fold : S → List E → Formula → Formula) (old new : List Term) (first now i : ℕ) : Type 0 where
  pub later : Later old new
  pub goes : (s : S) (es : List E) (h : Formula) → Known s → Are es → StandsAs old first h → (g : Formula) × StandsAs new now g × (fold s (drop i es) g ≡ fold s es h)

pub folds_none : {S E : Type 0} {Known : S → Type 0} {Are : List E → Type 0} {fold : S → List E → Formula → Formula} {ts : List Term} {first : ℕ} → Folds Known Are fold ts ts first first 0
folds_none = record { later = λ n f h. h; goes = λ s es h known are is. (h, is, refl) }

pub folds_next : {S E : Type 0} {Known : S → Type 0} {Are : List E → Type 0} {fold : S → List E → Formula → Formula} {old mid new : List Term} {first now next i : ℕ} (P : E → Type 0) (by : S → E → Formula → Formula) → Folds Known Are fold old mid first now i → ((s : S) (e : E) (es : List E) (h : Formula) → fold s (e ∷ es) h ≡ fold s es (by s e h)) → ((es : List E) → Are es → Next P i es) → Later mid new → ((s : S) (e : E) (h : Formula) → Known s → P e → StandsAs mid now h → StandsAs new next (by s e h)) → Folds Known Are fold old new first next (i + 1)
folds_next {fold = fold} {i = i} P by t law there later one = record {
  later = λ n f h. later n f (t.later n f h);
  goes = λ s es h known are is.
      let here = there es are in
      let so_far = t.goes s es h known are is in
      (by s here.element so_far.0, one s here.element so_far.0 known here.here so_far.1, sym (ap (λ xs. fold s xs so_far.0) here.is ∙ law s here.element (drop (i + 1) es) so_far.0) ∙ so_far.2);
}

pub folds_last : {S E : Type 0} {Known : S → Type 0} {Are : List E → Type 0} {fold : S → List E → Formula → Formula} {old new : List Term} {first now i : ℕ} → Folds Known Are fold old new first now i → ((s : S) (h : Formula) → fold s [] h ≡ h) → (s : S) (es : List E) (h : Formula) → length es ≤ i → Known s → Are es → StandsAs old first h → StandsAs new now (fold s es h)
folds_last {fold = fold} {new = new} {now = now} t law s es h end known are is =
    let so_far = t.goes s es h known are is in
    subst (λ (g : Formula). StandsAs new now g) (sym (law s so_far.0) ∙ sym (ap (λ xs. fold s xs so_far.0) (drop_of_length-le es end)) ∙ so_far.2) so_far.1

-- Elements before a place.

each_taken : (ts : List Term) (ids : List ℕ) (fs : List Formula) (i : ℕ) → Each ts ids fs → Each ts (take i ids) (take i fs)
each_taken ts ids fs zero each = tt
each_taken ts [] [] (suc i) each = tt
each_taken ts [] (f ∷ fs) (suc i) each = absurd each
each_taken ts (id ∷ ids) [] (suc i) each = absurd each
each_taken ts (id ∷ ids) (f ∷ fs) (suc i) each = (each.0, each_taken ts ids fs i each.1)

pub all_taken : {ts : List Term} {ids : List ℕ} {fs : List Formula} (i : ℕ) → StandAll ts ids fs → StandAll ts (take i ids) (take i fs)
all_taken {ts} {ids} {fs} i all = record { each = each_taken ts ids fs i all.each }

take_step : {E : Type 0} (es : List E) (i : ℕ) (e : E) (rest : List E) → drop i es ≡ e ∷ rest → take (suc i) es ≡ take i es ++ e ∷ []
take_step [] zero e rest is = cc
take_step [] (suc i) e rest is = cc
take_step (x ∷ xs) zero e rest is = cc
take_step (x ∷ xs) (suc i) e rest is = ap (λ ys. x ∷ ys) (take_step xs i e rest is)

pub take_next : {E : Type 0} {P : E → Type 0} {i : ℕ} {es : List E} → (here : Next P i es) → take (i + 1) es ≡ take i es ++ here.element ∷ []
take_next {i = i} {es = es} here =
    let next : i + 1 ≡ suc i = omega arith in
    ap (λ (j : ℕ). take j es) next ∙ take_step es i here.element (drop (i + 1) es) here.is

-- Of each object formulas that speak of those before it: `whole` takes those before, and those from there on.
pub record Behind {S : Type 0} (Known : S → Type 0) (whole : S → List Formula → List Formula → List Formula) (old new : List Term) (ids made : List ℕ) (i : ℕ) : Type 0 where
  pub later : Later old new
  pub goes : (s : S) (fs : List Formula) → Known s → StandAll old ids fs → Done new made (whole s (take i fs) (drop i fs)) (whole s [] fs)

pub behind_none : {S : Type 0} {Known : S → Type 0} {whole : S → List Formula → List Formula → List Formula} {ts : List Term} {ids made : List ℕ} → made ≡ [] → Behind Known whole ts ts ids made 0
behind_none {whole = whole} {ts = ts} e = record {
  later = λ n f h. h;
  goes = λ s fs known all. subst (λ (ns : List ℕ). Done ts ns (whole s [] fs) (whole s [] fs)) (sym e) (done_first ts (whole s [] fs));
}

pub behind_next : {S : Type 0} {Known : S → Type 0} {whole : S → List Formula → List Formula → List Formula} {old mid new : List Term} {ids made next more : List ℕ} {i : ℕ} (one : S → List Formula → Formula → List Formula) → Behind Known whole old mid ids made i → ((s : S) (qs : List Formula) (f : Formula) (fs : List Formula) → whole s qs (f ∷ fs) ≡ one s qs f ++ whole s (qs ++ f ∷ []) fs) → i < length ids → Later mid new → ((s : S) (qs : List Formula) (f : Formula) → Known s → StandAll mid (take i ids) qs → StandsAs mid (get_or ids i 0) f → StandAll new more (one s qs f)) → next ≡ made ++ more → Behind Known whole old new ids next (i + 1)
behind_next {whole = whole} {i = i} one t law below later made more = record {
  later = λ n f h. later n f (t.later n f h);
  goes = λ s fs known all.
      let here = next_formula i all below in
      let f = here.element in
      let rest = drop (i + 1) fs in
      let split = ap (λ gs. whole s (take i fs) gs) here.is ∙ law s (take i fs) f rest ∙ ap (λ qs. one s (take i fs) f ++ whole s qs rest) (sym (take_next here)) in
      done_several (t.goes s fs known all) split later (made s (take i fs) f known (all_later t.later (all_taken i all)) (t.later _ _ here.here)) more;
}

pub behind_all : {S : Type 0} {Known : S → Type 0} {whole : S → List Formula → List Formula → List Formula} {old new : List Term} {ids made : List ℕ} {i : ℕ} → Behind Known whole old new ids made i → ((s : S) (qs : List Formula) → whole s qs [] ≡ []) → length ids ≤ i → (s : S) (fs : List Formula) → Known s → StandAll old ids fs → StandAll new made (whole s [] fs)
behind_all {whole = whole} {i = i} t law end s fs known all =
    done_last (t.goes s fs known all) (ap (λ gs. whole s (take i fs) gs) (drop_of_length-le fs (omega (arith, as_long all))) ∙ law s (take i fs))
