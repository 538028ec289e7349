-- Executions that go through a list, one element after the other.
use Rattle.std.specs.Prelude.{◌≡◌, ℕ, suc, ◌+◌, ◌<◌, ◌≤◌, List, [], ◌∷◌, ◌++◌, length, drop, Vec}
use Rattle.std.specs.Global.{Global}
use Rattle.std.proofs.Common.{refl, ap, sym, ◌∙◌, subst, get_or, append_assoc, arith}
use Rattle.std.proofs.lemmas.List.{append-nil}
use Rattle.std.proofs.Math.ListN.{drop_of_length-le}
use Rattle.std.proofs.Math.Seq.{drop-cons}
use Rattle.terms.specs.declared.term.Term.{Term}
use Rattle.terms.specs.Formula.{Formula}
use Rattle.method.specs.declared.program.Claimed.{Claimed}
use Rattle.method.specs.declared.program.Claimed.TheVariants.{ClaimedVariable, ClaimedNull, ClaimedOther}
use Rattle.method.specs.declared.program.FunctionInfo.{FunctionInfo}
use Rattle.method.specs.declared.program.Program.{Program}
use Rattle.method.specs.Tables.{type_of_variable}
use Rattle.conditions.specs.Admissible.{any_locals, all_listed, put_local, object, earlier}
use Rattle.conditions.specs.Actions.{claimed_terms}
use Rattle.conditions.specs.Code as spec
use Rattle.conditions.specs.Formulas.{lists}
use Rattle.conditions.specs.Paths.{Path, Done, Check, Fact, Branch, Standalone, Execution, Gives, sequence, prefix, after, fact}
use Rattle.conditions.specs.Symbolic as symbolic
use Rattle.condition_formulas.specs.Standing.{StandsAs, StandAll}
use Rattle.condition_formulas.proofs.Rows.{none, same_ids, then_one, all_later}
use Rattle.condition_code.specs.declared.walk.Step.{Step}
use Rattle.condition_code.specs.declared.state.Spot.{Spot}
use Rattle.condition_code.specs.declared.state.State.{State}
use Rattle.condition_code.specs.Steps.{steps_of}
use Rattle.condition_code.specs.States.{IsSpot, IsState}
use Rattle.condition_code.specs.Walks.{AreIds, Goes, GoesTo}
use Rattle.condition_code.proofs.Steps.{steps_sequence}
use Rattle.condition_code.proofs.States.{spot_later, state_later}
use Rattle.condition_code.proofs.Walks.{goes_as, goes_then, nowhere}
use Rattle.condition_claims.specs.Pieces.{any_local, one_listed, claimed_term}

-- Paths and executions in a row.

pub sequence_done : (q : Path) → sequence q Done ≡ q
sequence_done Done = refl
sequence_done (Check f q) = ap (λ (r : Path). Check f r) (sequence_done q)
sequence_done (Fact f q) = ap (λ (r : Path). Fact f r) (sequence_done q)
sequence_done (Branch b q) = ap (λ (r : Path). Branch b r) (sequence_done q)
sequence_done (Standalone f q) = ap (λ (r : Path). Standalone f r) (sequence_done q)

pub sequence_assoc : (q r s : Path) → sequence (sequence q r) s ≡ sequence q (sequence r s)
sequence_assoc Done r s = refl
sequence_assoc (Check f q) r s = ap (λ (t : Path). Check f t) (sequence_assoc q r s)
sequence_assoc (Fact f q) r s = ap (λ (t : Path). Fact f t) (sequence_assoc q r s)
sequence_assoc (Branch b q) r s = ap (λ (t : Path). Branch b t) (sequence_assoc q r s)
sequence_assoc (Standalone f q) r s = ap (λ (t : Path). Standalone f t) (sequence_assoc q r s)

pub prefix_prefix : {A : Type 0} (q r : Path) (t : Execution A) → prefix q (prefix r t) ≡ prefix (sequence q r) t
prefix_prefix {A} q r t =
    let by : Path → Execution A = λ p. record { path = p; gives = t.gives } in
    ap by (sym (sequence_assoc q r t.path))

pub after_assoc : {A B C : Type 0} (t : Execution A) (f : A → Execution B) (g : B → Execution C) → after (after t f) g ≡ after t (λ a. after (f a) g)
after_assoc {C = C} t f g =
    let last = g (f t.gives).gives in
    let by : Path → Execution C = λ p. record { path = p; gives = last.gives } in
    ap by (sequence_assoc t.path (f t.gives).path last.path)

-- What is left of a whole that goes through a list: the state now, and the path behind.
pub record Left {X : Type 0} (whole : List X → spec.State → Execution spec.State) (old new : List Term) (before behind : List Step) (now : State) (xs rest : List X) (s : spec.State) : Type 0 where
  pub path : Path
  pub state : spec.State
  pub is : IsState new now state
  pub goes : Goes old new before behind path
  pub left : whole xs s ≡ prefix path (whole rest state)

-- What a loop keeps that goes through a list from state to state.
pub record Onward {X : Type 0} (whole : List X → spec.State → Execution spec.State) (old new : List Term) (before behind : List Step) (first now : State) (xs : List X) (i : ℕ) : Type 0 where
  pub on : (s : spec.State) → IsState old first s → Left whole old new before behind now xs (drop i xs) s

pub onward_none : {X : Type 0} {whole : List X → spec.State → Execution spec.State} {ts : List Term} {path : List Step} {first : State} {xs : List X} → Onward whole ts ts path path first first xs 0
onward_none = record { on = λ s hs. record { path = Done; state = s; is = hs; goes = nowhere (λ n f h. h); left = refl } }

element : {X : Type 0} (xs : List X) (i : ℕ) (d x : X) → i < length xs → x ≡ get_or xs i d → drop i xs ≡ x ∷ drop (i + 1) xs
element xs i d x below is =
    let next : suc i ≡ i + 1 = omega arith in
    drop-cons xs i d below ∙ ap (λ j. get_or xs i d ∷ drop j xs) next ∙ ap (λ y. y ∷ drop (i + 1) xs) (sym is)

pub onward_next : {X : Type 0} {whole : List X → spec.State → Execution spec.State} {g0 g1 g2 : List Term} {p0 p1 p2 : List Step} {first now next : State} {xs : List X} {i : ℕ} (one : X → spec.State → Execution spec.State) → Onward whole g0 g1 p0 p1 first now xs i → ((x : X) (ys : List X) (s : spec.State) → whole (x ∷ ys) s ≡ after (one x s) (whole ys)) → (d x : X) → x ≡ get_or xs i d → i < length xs → ((s : spec.State) → IsState g1 now s → GoesTo IsState g1 g2 p1 p2 next (one x s)) → Onward whole g0 g2 p0 p2 first next xs (i + 1)
onward_next {whole = whole} {xs = xs} {i = i} one t law d x item below ran = record {
  on = λ s hs.
      let to = t.on s hs in
      let more = ran to.state to.is in
      let rest = drop (i + 1) xs in
      let split = ap (λ ys. whole ys to.state) (element xs i d x below item) ∙ law x rest to.state in
      record {
        path = sequence to.path (one x to.state).path;
        state = (one x to.state).gives;
        is = more.gives;
        goes = goes_then to.goes more.goes;
        left = to.left ∙ ap (λ (u : Execution spec.State). prefix to.path u) split ∙ prefix_prefix to.path (one x to.state).path (whole rest (one x to.state).gives);
      };
}

pub onward_last : {X : Type 0} {whole : List X → spec.State → Execution spec.State} {old new : List Term} {before behind : List Step} {first now : State} {xs : List X} {i : ℕ} → Onward whole old new before behind first now xs i → ((s : spec.State) → whole [] s ≡ Gives s) → length xs ≤ i → (s : spec.State) → IsState old first s → GoesTo IsState old new before behind now (whole xs s)
onward_last {whole = whole} {old} {new} {before} {behind} {now = now} {xs = xs} t law end s hs =
    let to = t.on s hs in
    let over = to.left ∙ ap (λ ys. prefix to.path (whole ys to.state)) (drop_of_length-le xs end) ∙ ap (λ (u : Execution spec.State). prefix to.path u) (law to.state) in
    subst (λ (u : Execution spec.State). GoesTo IsState old new before behind now u) (sym over) (record {
      gives = to.is;
      goes = goes_as (sym (steps_sequence to.path Done ∙ append-nil (steps_of to.path))) to.goes;
    })

-- the definitions that go so
pub any_locals_law : (f : FunctionInfo) (i : ℕ) (is : List ℕ) (s : spec.State) → any_locals f (i ∷ is) s ≡ after (any_local f i s) (any_locals f is)
any_locals_law f i is s = sym (after_assoc (spec.new_value (type_of_variable f i) s) (λ v. Gives (put_local i v)) (any_locals f is))

pub all_listed_law : (c : Claimed) (cs : List Claimed) (s : spec.State) → all_listed (c ∷ cs) s ≡ after (one_listed c s) (all_listed cs)
all_listed_law (ClaimedVariable i) cs s = refl
all_listed_law ClaimedNull cs s = refl
all_listed_law (ClaimedOther e ty) cs s = sym (after_assoc (spec.new_value ty s) (λ v. fact (lists earlier object (symbolic.term v.value)) (Gives v.state)) (all_listed cs))

-- Formulas that are gathered on the way.
pub record Gathers {X : Type 0} (whole : List X → Execution (List Formula)) (old new : List Term) (before behind : List Step) (ids : List ℕ) (xs : List X) (i : ℕ) : Type 0 where
  pub path : Path
  pub done : List Formula
  pub goes : Goes old new before behind path
  pub are : StandAll new ids done
  pub path_is : (whole xs).path ≡ sequence path (whole (drop i xs)).path
  pub gives_is : (whole xs).gives ≡ done ++ (whole (drop i xs)).gives

pub gathers_none : {X : Type 0} {whole : List X → Execution (List Formula)} {ts : List Term} {path : List Step} {ids : List ℕ} {xs : List X} → ids ≡ [] → Gathers whole ts ts path path ids xs 0
gathers_none e = record { path = Done; done = []; goes = nowhere (λ n f h. h); are = same_ids e none; path_is = refl; gives_is = refl }

pub gathers_next : {X : Type 0} {whole : List X → Execution (List Formula)} {g0 g1 g2 : List Term} {p0 p1 p2 : List Step} {ids next : List ℕ} {xs : List X} {i id : ℕ} (t : Execution Formula) (d x : X) → ((ys : List X) → whole (x ∷ ys) ≡ after t (λ f. after (whole ys) (λ fs. Gives (f ∷ fs)))) → x ≡ get_or xs i d → Gathers whole g0 g1 p0 p1 ids xs i → i < length xs → GoesTo StandsAs g1 g2 p1 p2 id t → next ≡ ids ++ id ∷ [] → Gathers whole g0 g2 p0 p2 next xs (i + 1)
gathers_next {whole = whole} {xs = xs} {i = i} t d x law item g below ran more =
    let rest = drop (i + 1) xs in
    let split = ap whole (element xs i d x below item) ∙ law rest in
    let shorter = ap (λ (q : Path). sequence g.path (sequence t.path q)) (sequence_done (whole rest).path) in
    record {
      path = sequence g.path t.path;
      done = g.done ++ t.gives ∷ [];
      goes = goes_then g.goes ran.goes;
      are = same_ids more (then_one (all_later ran.goes.later g.are) ran.gives);
      path_is = g.path_is ∙ ap (λ (u : Execution (List Formula)). sequence g.path u.path) split ∙ shorter ∙ sym (sequence_assoc g.path t.path (whole rest).path);
      gives_is = g.gives_is ∙ ap (λ (u : Execution (List Formula)). g.done ++ u.gives) split ∙ sym (append_assoc g.done (t.gives ∷ []) (whole rest).gives);
    }

-- What the loop over claimed objects keeps.
pub record ClaimsTo (p : Program) (a : Spot) (st : State) (cs : List Claimed) (old new : List Term) (before behind : List Step) (v : Vec ℕ Global) (i : ℕ) : Type 0 where
  pub ran : (b : spec.Spot) (s : spec.State) → IsSpot old a b → IsState old st s → Gathers (λ ds. claimed_terms p b ds s) old new before behind v.items cs i

pub no_claimed : {p : Program} {a : Spot} {st : State} {cs : List Claimed} {ts : List Term} {path : List Step} {v : Vec ℕ Global} → v.items ≡ [] → ClaimsTo p a st cs ts ts path path v 0
no_claimed e = record { ran = λ b s hb hs. gathers_none e }

claimed_law : (p : Program) (b : spec.Spot) (s : spec.State) (c : Claimed) (cs : List Claimed) → claimed_terms p b (c ∷ cs) s ≡ after (claimed_term p b c s) (λ f. after (claimed_terms p b cs s) (λ fs. Gives (f ∷ fs)))
claimed_law p b s (ClaimedVariable i) cs = refl
claimed_law p b s ClaimedNull cs = refl
claimed_law p b s (ClaimedOther e ty) cs = sym (after_assoc (spec.code p b s e) (λ v. Gives (symbolic.term v)) (λ f. after (claimed_terms p b cs s) (λ fs. Gives (f ∷ fs))))

pub one_claimed : {p : Program} {a : Spot} {st : State} {cs : List Claimed} {g0 g1 g2 : List Term} {p0 p1 p2 : List Step} {v w : Vec ℕ Global} {i id : ℕ} (d : Claimed) → d ≡ get_or cs i d → ClaimsTo p a st cs g0 g1 p0 p1 v i → i < length cs → ((b : spec.Spot) (s : spec.State) → IsSpot g1 a b → IsState g1 st s → GoesTo StandsAs g1 g2 p1 p2 id (claimed_term p b d s)) → w.items ≡ v.items ++ id ∷ [] → ClaimsTo p a st cs g0 g2 p0 p2 w (i + 1)
one_claimed {p = p} d item to below ran more = record {
  ran = λ b s hb hs.
      let g = to.ran b s hb hs in
      let term = ran b s (spot_later g.goes.later hb) (state_later g.goes.later hs) in
      gathers_next {whole = λ ds. claimed_terms p b ds s} (claimed_term p b d s) d d (claimed_law p b s d) item g below term more;
}

pub every_claimed : {p : Program} {a : Spot} {st : State} {cs : List Claimed} {old new : List Term} {before behind : List Step} {v : Vec ℕ Global} {i : ℕ} → ClaimsTo p a st cs old new before behind v i → length cs ≤ i → (b : spec.Spot) (s : spec.State) → IsSpot old a b → IsState old st s → GoesTo AreIds old new before behind v (claimed_terms p b cs s)
every_claimed {p} {cs = cs} {old = old} {new = new} {before = before} {behind = behind} {v = v} to end b s hb hs =
    let g = to.ran b s hb hs in
    let whole = claimed_terms p b cs s in
    let empty = drop_of_length-le cs end in
    let path : whole.path ≡ g.path = g.path_is ∙ ap (λ ds. sequence g.path (claimed_terms p b ds s).path) empty ∙ sequence_done g.path in
    let gives : whole.gives ≡ g.done = g.gives_is ∙ ap (λ ds. g.done ++ (claimed_terms p b ds s).gives) empty ∙ append-nil g.done in
    record {
      gives = record { all = subst (λ (fs : List Formula). StandAll new v.items fs) (sym gives) g.are };
      goes = goes_as (ap steps_of (sym path)) g.goes;
    }
