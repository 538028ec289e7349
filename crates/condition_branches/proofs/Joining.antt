-- Variables joined one by one.
use Rattle.std.specs.Prelude.{ℕ, zero, suc, min, Bool, true, false, if◌then◌else◌, List, [], ◌∷◌, ◌≡◌, ◌++◌, ◌<◌, ◌≤◌, ◌+◌, length, map, drop}
use Rattle.std.proofs.Common.{refl, ap, sym, ◌∙◌, subst, get_or, arith}
use Rattle.std.proofs.lemmas.List.{append-nil, append_assoc, map-append}
use Rattle.terms.specs.declared.term.Term.{Term}
use Rattle.terms.specs.Formula.{Formula}
use Rattle.conditions.specs.Formulas.{same}
use Rattle.conditions.specs.Code.{State, ValueAndState, DeferredObject, DeferredClaim, new_heap}
use Rattle.conditions.specs.Symbolic.{Symbolic, term}
use Rattle.conditions.specs.Symbolic as symbolic
use Rattle.conditions.specs.Actions.{Joint, Joined, Merge, Keeps, Differs, is_of, merge, new_like, join_one, join_locals, join_heaps, join, with_heap_joint, with_deferred}
use Rattle.condition_formulas.specs.declared.symbolic.Symbolic.{Symbolic as Value}
use Rattle.condition_formulas.specs.Standing.{StandsAs, StandAll, Later}
use Rattle.condition_formulas.specs.Symbolics.{IsSymbolic, AreSymbolic, EachSymbolic}
use Rattle.condition_formulas.proofs.Rows.{same_ids, then_one, all_later}
use Rattle.condition_formulas.proofs.Symbolics.{are_later, symbolic_later}
use Rattle.annotation_scenes.proofs.Scenes.{as_many}
use Rattle.condition_code.specs.declared.state.State.{State as CodeState}
use Rattle.condition_code.specs.States.{IsState}
use Rattle.condition_code.proofs.States.{state_later}
use Rattle.condition_branches.specs.declared.variables.Joined.{Joined as CodeJoined}
use Rattle.condition_branches.specs.declared.variables.Merge.{Merge as CodeMerge}
use Rattle.condition_branches.specs.declared.variables.Merge.TheVariants as merges
use Rattle.condition_branches.specs.Joins.{Alike, IsMerge, IsJoined, joined_of, then_keeps, then_joint, then_differs, onto}
use Rattle.condition_branches.specs.Joins as one

pub joined_later : {old new : List Term} {c : CodeJoined} {j : Joined} → Later old new → IsJoined old c j → IsJoined new c j
joined_later later h = record {
  locals_are = are_later later h.locals_are;
  first_are = all_later later h.first_are;
  second_are = all_later later h.second_are;
  state_is = state_later later h.state_is;
}

-- what one more constant is
pub one_equation : {ts : List Term} {ids next : List ℕ} {id : ℕ} (of : Joint → Formula) (js : List Joint) (j : Joint) → StandAll ts ids (map of js) → StandsAs ts id (of j) → next ≡ ids ++ id ∷ [] → StandAll ts next (map of (js ++ j ∷ []))
one_equation {ts} {next = next} of js j all is more =
    subst (λ (fs : List Formula). StandAll ts next fs) (sym (map-append of js (j ∷ []))) (same_ids more (then_one all is))

-- What becomes of a variable.

pub merge_declared : {ts : List Term} {d : Bool} {v : Value} (w x y : Symbolic) → d ≡ true → IsSymbolic ts v w → IsMerge ts (merges.Keeps v) (merge d w x y)
merge_declared {ts} {v = v} w x y e is = subst (λ (b : Bool). IsMerge ts (merges.Keeps v) (merge b w x y)) (sym e) (record { is = is })

pub merge_same : {ts : List Term} {d : Bool} {v : Value} (w x y : Symbolic) → d ≡ false → symbolic.same_symbolic x y ≡ true → IsSymbolic ts v x → IsMerge ts (merges.Keeps v) (merge d w x y)
merge_same {ts} {v = v} w x y e s is =
    subst (λ (b : Bool). IsMerge ts (merges.Keeps v) (merge b w x y)) (sym e) (subst (λ (b : Bool). IsMerge ts (merges.Keeps v) (if b then Keeps x else Differs x y)) (sym s) (record { is = is }))

pub merge_other : {ts : List Term} {d : Bool} {v u : Value} (w x y : Symbolic) → d ≡ false → symbolic.same_symbolic x y ≡ false → IsSymbolic ts v x → IsSymbolic ts u y → IsMerge ts (merges.Differs v u) (merge d w x y)
merge_other {ts} {v = v} {u = u} w x y e s first second =
    subst (λ (b : Bool). IsMerge ts (merges.Differs v u) (merge b w x y)) (sym e) (subst (λ (b : Bool). IsMerge ts (merges.Differs v u) (if b then Keeps x else Differs x y)) (sym s) (record { is = (first, second) }))

alike_keeps : {ts : List Term} {v : Value} (P : Merge → Type 0) → ((w : Symbolic) → IsSymbolic ts v w → P (Keeps w)) → (m : Merge) → Alike ts (merges.Keeps v) m → P m
alike_keeps P go (Keeps w) h = go w h
alike_keeps P go (Differs x y) h = absurd h

alike_differs : {ts : List Term} {v u : Value} (P : Merge → Type 0) → ((x y : Symbolic) → IsSymbolic ts v x → IsSymbolic ts u y → P (Differs x y)) → (m : Merge) → Alike ts (merges.Differs v u) m → P m
alike_differs P go (Keeps w) h = absurd h
alike_differs P go (Differs x y) h = go x y h.0 h.1

pub by_keeps : {ts : List Term} {c : CodeMerge} {v : Value} (P : Merge → Type 0) → c ≡ merges.Keeps v → ((w : Symbolic) → IsSymbolic ts v w → P (Keeps w)) → (m : Merge) → IsMerge ts c m → P m
by_keeps {ts} P e go m h = alike_keeps P go m (subst (λ (c : CodeMerge). Alike ts c m) e h.is)

pub by_differs : {ts : List Term} {c : CodeMerge} {v u : Value} (P : Merge → Type 0) → c ≡ merges.Differs v u → ((x y : Symbolic) → IsSymbolic ts v x → IsSymbolic ts u y → P (Differs x y)) → (m : Merge) → IsMerge ts c m → P m
by_differs {ts} P e go m h = alike_differs P go m (subst (λ (c : CodeMerge). Alike ts c m) e h.is)

-- One variable more.

one_kept : (m : Symbolic) (rest : State → Joined) (j : Joined) → onto j (join_one (Keeps m) rest j.state) ≡ onto (then_keeps j m) (rest j.state)
one_kept m rest j =
    let r : Joined = rest j.state in
    ap (λ (ws : List Symbolic). joined_of ws (j.joints ++ r.joints) r.state) (sym (append_assoc j.locals (m ∷ []) r.locals))

one_joint : (v x y : Symbolic) (j r : Joined) (s : State) → onto j (joined_of (v ∷ r.locals) (record { new = term v; first = term x; second = term y } ∷ r.joints) r.state) ≡ onto (then_joint j v x y s) r
one_joint v x y j r s =
    let made : List Joint = record { new = term v; first = term x; second = term y } ∷ [] in
    ap (λ (ws : List Symbolic). joined_of ws (j.joints ++ (made ++ r.joints)) r.state) (sym (append_assoc j.locals (v ∷ []) r.locals)) ∙ ap (λ (js : List Joint). joined_of ((j.locals ++ v ∷ []) ++ r.locals) js r.state) (sym (append_assoc j.joints made r.joints))

-- the first of what is left, and then the rest
pub one_behind : (m : Merge) (rest : State → Joined) (j : Joined) → onto j (join_one m rest j.state) ≡ onto (one.then_one j m) (rest (one.then_one j m).state)
one_behind (Keeps w) rest j = one_kept w rest j
one_behind (Differs x y) rest j =
    let v : ValueAndState = new_like x j.state in
    one_joint v.value x y j (rest v.state) v.state

-- Places.

record ValueAt (ts : List Term) (v : Value) (i : ℕ) (ws : List Symbolic) : Type 0 where
  value : Symbolic
  is : drop i ws ≡ value ∷ drop (i + 1) ws
  here : IsSymbolic ts v value

each_value_at : (ts : List Term) (vs : List Value) (ws : List Symbolic) (i : ℕ) (d : Value) → EachSymbolic ts vs ws → i < length vs → (w : Symbolic) × (drop i ws ≡ w ∷ drop (suc i) ws) × IsSymbolic ts (get_or vs i d) w
each_value_at ts [] ws i d each below = absurd (omega arith)
each_value_at ts (v ∷ vs) [] i d each below = absurd each
each_value_at ts (v ∷ vs) (w ∷ ws) zero d each below = (w, refl, each.0)
each_value_at ts (v ∷ vs) (w ∷ ws) (suc i) d each below = each_value_at ts vs ws i d each.1 (omega arith)

value_at : {ts : List Term} {vs : List Value} {ws : List Symbolic} (i : ℕ) (d : Value) → AreSymbolic ts vs ws → i < length vs → ValueAt ts (get_or vs i d) i ws
value_at {ts} {vs} {ws} i d are below =
    let found = each_value_at ts vs ws i d are.each below in
    let next : suc i ≡ i + 1 = omega arith in
    record { value = found.0; is = found.1 ∙ ap (λ (k : ℕ). found.0 ∷ drop k ws) next; here = found.2 }

-- What the loop over the variables keeps: these are joined, and the rest is still to be.
pub record UpTo (ts : List Term) (c : CodeJoined) (declared : List ℕ) (i : ℕ) (ws xs ys : List Symbolic) (whole : Joined) : Type 0 where
  pub so_far : Joined
  pub is : IsJoined ts c so_far
  pub rest : onto so_far (join_locals declared i (drop i ws) (drop i xs) (drop i ys) so_far.state) ≡ whole

pub record JoinsTo (old new : List Term) (declared : List ℕ) (before first second : List Value) (st : CodeState) (c : CodeJoined) (i : ℕ) : Type 0 where
  pub later : Later old new
  pub joins : (s : State) (ws xs ys : List Symbolic) → AreSymbolic old before ws → AreSymbolic old first xs → AreSymbolic old second ys → IsState old st s → UpTo new c declared i ws xs ys (join_locals declared 0 ws xs ys s)

pub joins_none : {ts : List Term} {declared : List ℕ} {before first second : List Value} {st : CodeState} {c : CodeJoined} → ((ts : List Term) (s : State) → IsState ts st s → IsJoined ts c (joined_of [] [] s)) → JoinsTo ts ts declared before first second st c 0
joins_none {ts} new = record {
  later = λ n f h. h;
  joins = λ s ws xs ys hw hx hy hs. record { so_far = joined_of [] [] s; is = new ts s hs; rest = refl };
}

-- the next of each list, and then the rest
opens : (declared : List ℕ) (i : ℕ) {us vs zs : List Symbolic} (w x y : Symbolic) (ws xs ys : List Symbolic) (s : State) → us ≡ w ∷ ws → vs ≡ x ∷ xs → zs ≡ y ∷ ys → join_locals declared i us vs zs s ≡ join_one (merge (is_of declared i) w x y) (λ t. join_locals declared (i + 1) ws xs ys t) s
opens declared i {us} {vs} {zs} w x y ws xs ys s first second third =
    ap (λ (ls : List Symbolic). join_locals declared i ls vs zs s) first ∙ ap (λ (ls : List Symbolic). join_locals declared i (w ∷ ws) ls zs s) second ∙ ap (λ (ls : List Symbolic). join_locals declared i (w ∷ ws) (x ∷ xs) ls s) third

goes_on : (declared : List ℕ) (i : ℕ) {us vs zs : List Symbolic} (w x y : Symbolic) (ws xs ys : List Symbolic) (j whole : Joined) → us ≡ w ∷ ws → vs ≡ x ∷ xs → zs ≡ y ∷ ys → onto j (join_locals declared i us vs zs j.state) ≡ whole → onto (one.then_one j (merge (is_of declared i) w x y)) (join_locals declared (i + 1) ws xs ys (one.then_one j (merge (is_of declared i) w x y)).state) ≡ whole
goes_on declared i w x y ws xs ys j whole first second third so_far =
    sym (one_behind (merge (is_of declared i) w x y) (λ (t : State). join_locals declared (i + 1) ws xs ys t) j) ∙ ap (λ (r : Joined). onto j r) (sym (opens declared i w x y ws xs ys j.state first second third)) ∙ so_far

pub joins_more : {old mid new : List Term} {declared : List ℕ} {before first second : List Value} {st : CodeState} {c next : CodeJoined} {m : CodeMerge} {count : ℕ} {inner : Bool} (i : ℕ) (d e f : Value) → count ≡ min (min (length before) (length first)) (length second) → i < count → JoinsTo old mid declared before first second st c i → inner ≡ is_of declared i → ((w x y : Symbolic) → IsSymbolic mid (get_or before i d) w → IsSymbolic mid (get_or first i e) x → IsSymbolic mid (get_or second i f) y → IsMerge mid m (merge inner w x y)) → Later mid new → ((j : Joined) (n : Merge) → IsJoined mid c j → IsMerge mid m n → IsJoined new next (one.then_one j n)) → JoinsTo old new declared before first second st next (i + 1)
joins_more {mid = mid} {new = new} {declared = declared} {next = next} {m = m} {inner = inner} i d e f counted below to declares merged later grown = record {
  later = λ n g h. later n g (to.later n g h);
  joins = λ s ws xs ys hw hx hy hs.
      let up = to.joins s ws xs ys hw hx hy hs in
      let w = value_at i d hw (omega (arith, counted, below)) in
      let x = value_at i e hx (omega (arith, counted, below)) in
      let y = value_at i f hy (omega (arith, counted, below)) in
      let what : Merge = merge (is_of declared i) w.value x.value y.value in
      let here : IsMerge mid m what = subst (λ (b : Bool). IsMerge mid m (merge b w.value x.value y.value)) declares (merged w.value x.value y.value (symbolic_later to.later w.here) (symbolic_later to.later x.here) (symbolic_later to.later y.here)) in
      record {
        so_far = one.then_one up.so_far what;
        is = grown up.so_far what up.is here;
        rest = goes_on declared i w.value x.value y.value (drop (i + 1) ws) (drop (i + 1) xs) (drop (i + 1) ys) up.so_far (join_locals declared 0 ws xs ys s) w.is x.is y.is up.rest;
      };
}

-- where one of the lists has ended, nothing more is joined
no_first : (declared : List ℕ) (i : ℕ) (ws ys : List Symbolic) (s : State) → join_locals declared i ws [] ys s ≡ joined_of [] [] s
no_first declared i [] ys s = refl
no_first declared i (w ∷ ws) ys s = refl

no_second : (declared : List ℕ) (i : ℕ) (ws xs : List Symbolic) (s : State) → join_locals declared i ws xs [] s ≡ joined_of [] [] s
no_second declared i [] xs s = refl
no_second declared i (w ∷ ws) [] s = refl
no_second declared i (w ∷ ws) (x ∷ xs) s = refl

no_more : (declared : List ℕ) (i n : ℕ) (ws xs ys : List Symbolic) (s : State) → min (min (length ws) (length xs)) (length ys) ≤ n → join_locals declared i (drop n ws) (drop n xs) (drop n ys) s ≡ joined_of [] [] s
no_more declared i zero [] xs ys s above = refl
no_more declared i zero (w ∷ ws) [] ys s above = refl
no_more declared i zero (w ∷ ws) (x ∷ xs) [] s above = refl
no_more declared i zero (w ∷ ws) (x ∷ xs) (y ∷ ys) s above = absurd (omega arith)
no_more declared i (suc n) [] xs ys s above = refl
no_more declared i (suc n) (w ∷ ws) [] ys s above = no_first declared i (drop n ws) (drop (suc n) ys) s
no_more declared i (suc n) (w ∷ ws) (x ∷ xs) [] s above = no_second declared i (drop n ws) (drop n xs) s
no_more declared i (suc n) (w ∷ ws) (x ∷ xs) (y ∷ ys) s above = no_more declared i n ws xs ys s (omega arith)

nothing_more : (j : Joined) → onto j (joined_of [] [] j.state) ≡ j
nothing_more j = ap (λ (ws : List Symbolic). joined_of ws (j.joints ++ []) j.state) (append-nil j.locals) ∙ ap (λ (js : List Joint). joined_of j.locals js j.state) (append-nil j.joints)

pub joins_all : {old new : List Term} {declared : List ℕ} {before first second : List Value} {st : CodeState} {c : CodeJoined} {count : ℕ} (i : ℕ) → count ≡ min (min (length before) (length first)) (length second) → count ≤ i → JoinsTo old new declared before first second st c i → (s : State) (ws xs ys : List Symbolic) → AreSymbolic old before ws → AreSymbolic old first xs → AreSymbolic old second ys → IsState old st s → IsJoined new c (join_locals declared 0 ws xs ys s)
joins_all {new = new} {declared = declared} {c = c} i counted above to s ws xs ys hw hx hy hs =
    let up = to.joins s ws xs ys hw hx hy hs in
    let end : min (min (length ws) (length xs)) (length ys) ≤ i = omega (arith, counted, above, as_many hw, as_many hx, as_many hy) in
    let whole : up.so_far ≡ join_locals declared 0 ws xs ys s =
    sym (nothing_more up.so_far) ∙ ap (λ (r : Joined). onto up.so_far r) (sym (no_more declared i i ws xs ys up.so_far.state end)) ∙ up.rest in
    subst (λ (j : Joined). IsJoined new c j) whole up.is

-- Heaps.

pub same_heaps : (h : Formula) (j : Joined) → same h j.state.heap ≡ true → j ≡ join_heaps h j
same_heaps h j e = sym (ap (λ (b : Bool). if b then j else with_heap_joint h j (new_heap j.state)) e)

pub other_heaps : (h : Formula) (j : Joined) → same h j.state.heap ≡ false → with_heap_joint h j (new_heap j.state) ≡ join_heaps h j
other_heaps h j e = sym (ap (λ (b : Bool). if b then j else with_heap_joint h j (new_heap j.state)) e)

-- What is put off stays as it is.

pub record SameDeferred (s t : State) : Type 0 where
  pub changed : s.changed ≡ t.changed
  pub made : s.made ≡ t.made

like_kept : (x : Symbolic) (s : State) → SameDeferred (new_like x s).state s
like_kept (symbolic.Truth b) s = record { changed = refl; made = refl }
like_kept (symbolic.Number b) s = record { changed = refl; made = refl }
like_kept (symbolic.Reference b) s = record { changed = refl; made = refl }

one_stays : (m : Merge) (rest : State → Joined) (s : State) → ((t : State) → SameDeferred (rest t).state t) → SameDeferred (join_one m rest s).state s
one_stays (Keeps w) rest s kept = kept s
one_stays (Differs x y) rest s kept =
    let v : ValueAndState = new_like x s in
    let first = kept v.state in
    let second = like_kept x s in
    record { changed = first.changed ∙ second.changed; made = first.made ∙ second.made }

locals_keep : (declared : List ℕ) (i : ℕ) (ws xs ys : List Symbolic) (s : State) → SameDeferred (join_locals declared i ws xs ys s).state s
locals_keep declared i [] xs ys s = record { changed = refl; made = refl }
locals_keep declared i (w ∷ ws) [] ys s = record { changed = refl; made = refl }
locals_keep declared i (w ∷ ws) (x ∷ xs) [] s = record { changed = refl; made = refl }
locals_keep declared i (w ∷ ws) (x ∷ xs) (y ∷ ys) s =
    one_stays (merge (is_of declared i) w x y) (λ t. join_locals declared (i + 1) ws xs ys t) s (λ t. locals_keep declared (i + 1) ws xs ys t)

heaps_keep : (h : Formula) (j : Joined) (b : Bool) → SameDeferred (if b then j else with_heap_joint h j (new_heap j.state)).state j.state
heaps_keep h j true = record { changed = refl; made = refl }
heaps_keep h j false = record { changed = refl; made = refl }

pub join_keeps : (declared : List ℕ) (s x y : State) → SameDeferred (join declared s x y).state y
join_keeps declared s x y =
    let j : Joined = join_locals declared 0 s.locals x.locals y.locals y in
    let first = heaps_keep x.heap j (same x.heap j.state.heap) in
    let second = locals_keep declared 0 s.locals x.locals y.locals y in
    record { changed = first.changed ∙ second.changed; made = first.made ∙ second.made }

pub same_behind : (s : State) (b : Formula) (x y t : State) (j : Joined) → SameDeferred t y → with_deferred s b x t j ≡ with_deferred s b x y j
same_behind s b x y t j kept =
    let with : List DeferredObject → List DeferredClaim → State = λ cs ms. with_deferred s b x (record y { changed = cs; made = ms }) j in
    ap (λ (cs : List DeferredObject). with cs t.made) kept.changed ∙ ap (λ (ms : List DeferredClaim). with y.changed ms) kept.made
