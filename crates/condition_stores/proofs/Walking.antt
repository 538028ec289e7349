-- Walks: checks in a row, and loops whose turns are walks.
use Rattle.std.specs.Prelude.{ℕ, suc, List, [], ◌∷◌, ◌≡◌, ◌++◌, ◌<◌, ◌≤◌, ◌+◌, ◌-◌, length, drop}
use Rattle.std.proofs.Common.{refl, ap, sym, ◌∙◌, subst, get_or, arith}
use Rattle.std.proofs.lemmas.List.{append-nil, append_assoc}
use Rattle.std.proofs.Math.ListN.{drop_of_length-le}
use Rattle.terms.specs.declared.term.Term.{Term}
use Rattle.terms.specs.Formula.{Formula}
use Rattle.method.specs.declared.program.OwnsChange.{OwnsChange}
use Rattle.method.specs.declared.program.Program.{Program}
use Rattle.method.specs.Tables.{type_of_field}
use Rattle.conditions.specs.Actions as actions
use Rattle.conditions.specs.Code as spec
use Rattle.conditions.specs.Paths.{Path, Done, Check, Execution, sequence, check, check_each}
use Rattle.conditions.specs.Symbolic as symbolic
use Rattle.condition_formulas.specs.Standing.{StandsAs, StandAll}
use Rattle.condition_formulas.specs.Symbolics.{AreSymbolic}
use Rattle.condition_formulas.proofs.Rows.{at, as_long}
use Rattle.condition_code.specs.declared.walk.Step.{Step}
use Rattle.condition_code.specs.declared.state.Spot.{Spot}
use Rattle.condition_code.specs.declared.state.State.{State}
use Rattle.condition_code.specs.Steps.{FormulaStep, steps_of, all_checks}
use Rattle.condition_code.specs.States.{IsSpot, IsState}
use Rattle.condition_code.specs.Walks.{Goes, GoesTo}
use Rattle.condition_code.proofs.Steps.{steps_sequence, check_each_path, check_each_gives}
use Rattle.condition_code.proofs.States.{spot_later, no_values, same_values}
use Rattle.condition_code.proofs.Walks.{goes_as, goes_then, nowhere}
use Rattle.condition_stores.specs.declared.objects.ValuesAndState.{ValuesAndState}
use Rattle.condition_stores.specs.Objects.{IsValuesAndState, one_content}

-- Checks in a row.

pub checks_two : {A B : Type 0} {Is : List Term → A → B → Type 0} {g0 g1 g2 : List Term} {p0 p1 p2 : List Step} {v : A} {f g : Formula} {t : Execution B} → Goes g0 g1 p0 p1 (Check f (Check g Done)) → GoesTo Is g1 g2 p1 p2 v t → GoesTo Is g0 g2 p0 p2 v (check f (check g t))
checks_two first second = record { gives = second.gives; goes = goes_then first second.goes }

pub checks_more : {A B : Type 0} {Is : List Term → A → B → Type 0} {g0 g1 g2 : List Term} {p0 p1 p2 : List Step} {v : A} {f : Formula} {t : Execution B} (fs : List Formula) → Goes g0 g1 p0 p1 (Check f (all_checks fs)) → GoesTo Is g1 g2 p1 p2 v t → GoesTo Is g0 g2 p0 p2 v (check f (check_each fs t))
checks_more {B = B} {Is = Is} {g2 = g2} {v = v} {f = f} {t = t} fs first second = record {
  gives = subst (λ (b : B). Is g2 v b) (sym (check_each_gives fs t)) second.gives;
  goes = goes_as (ap (λ (q : Path). steps_of (Check f q)) (sym (check_each_path fs t))) (goes_then first second.goes);
}

-- Steps of paths in a row.

ended : (q : Path) → steps_of (sequence q Done) ≡ steps_of q
ended q = steps_sequence q Done ∙ append-nil (steps_of q)

path_next : (q m r : Path) → steps_of q ++ steps_of (sequence m r) ≡ steps_of (sequence q m) ++ steps_of r
path_next q m r =
    ap (λ (k : List FormulaStep). steps_of q ++ k) (steps_sequence m r) ∙ sym (append_assoc (steps_of q) (steps_of m) (steps_of r)) ∙ sym (ap (λ (k : List FormulaStep). k ++ steps_of r) (steps_sequence q m))

path_next_ended : (q m r : Path) → steps_of q ++ steps_of (sequence m (sequence r Done)) ≡ steps_of (sequence q (sequence m Done)) ++ steps_of r
path_next_ended q m r =
    path_next q m (sequence r Done) ∙ ap (λ (k : List FormulaStep). steps_of (sequence q m) ++ k) (ended r) ∙ ap (λ (k : List FormulaStep). k ++ steps_of r) (steps_sequence q m ∙ ap (λ (k : List FormulaStep). steps_of q ++ k) (sym (ended m)) ∙ sym (steps_sequence q (sequence m Done)))

-- Members more or less.

-- the state so far, and with the changes left the whole
pub record ChangesLeft (p : Program) (b : spec.Spot) (change : OwnsChange) (old new : List Term) (before behind : List Step) (v : State) (x : Formula) (rest : List Formula) (whole : Execution spec.State) : Type 0 where
  pub so_far : spec.State
  pub is : IsState new v so_far
  pub way : Path
  pub goes : Goes old new before behind way
  pub path : steps_of whole.path ≡ steps_of way ++ steps_of (actions.members_change p b change x rest so_far).path
  pub gives : whole.gives ≡ (actions.members_change p b change x rest so_far).gives

-- what the loop keeps
pub record Changing (p : Program) (a : Spot) (change : OwnsChange) (o : ℕ) (ids : List ℕ) (st : State) (old new : List Term) (before behind : List Step) (v : State) (i : ℕ) : Type 0 where
  pub left : (b : spec.Spot) (x : Formula) (qs : List Formula) (s : spec.State) → IsSpot old a b → StandsAs old o x → StandAll old ids qs → IsState old st s → ChangesLeft p b change old new before behind v x (drop i qs) (actions.members_change p b change x qs s)

pub no_change : {p : Program} {a : Spot} {change : OwnsChange} {o : ℕ} {ids : List ℕ} {st : State} {ts : List Term} {path : List Step} → Changing p a change o ids st ts ts path path st 0
no_change = record { left = λ b x qs s hb hx all hs. record { so_far = s; is = hs; way = Done; goes = nowhere (λ n f h. h); path = refl; gives = refl } }

pub one_change : {p : Program} {a : Spot} {change : OwnsChange} {o : ℕ} {ids : List ℕ} {st : State} {g0 g1 g2 : List Term} {p0 p1 p2 : List Step} {v w : State} {i : ℕ} → Changing p a change o ids st g0 g1 p0 p1 v i → i < length ids → ((b : spec.Spot) (x y : Formula) (s : spec.State) → IsSpot g1 a b → StandsAs g1 o x → StandsAs g1 (get_or ids i 0) y → IsState g1 v s → GoesTo IsState g1 g2 p1 p2 w (actions.member_change p b change x y s)) → Changing p a change o ids st g0 g2 p0 p2 w (i + 1)
one_change {p} {change = change} {i = i} to below made = record {
  left = λ b x qs s hb hx all hs.
      let here = at i all below in
      let turn = to.left b x qs s hb hx all hs in
      let next = made b x here.tree turn.so_far (spot_later turn.goes.later hb) (turn.goes.later _ _ hx) (turn.goes.later _ _ here.here) turn.is in
      let one : Execution spec.State = actions.member_change p b change x here.tree turn.so_far in
      let rest : Execution spec.State = actions.members_change p b change x (drop (i + 1) qs) one.gives in
      record {
        so_far = one.gives;
        is = next.gives;
        way = sequence turn.way one.path;
        goes = goes_then turn.goes next.goes;
        path = turn.path ∙ ap (λ (ys : List Formula). steps_of turn.way ++ steps_of (actions.members_change p b change x ys turn.so_far).path) here.is ∙ path_next turn.way one.path rest.path;
        gives = turn.gives ∙ ap (λ (ys : List Formula). (actions.members_change p b change x ys turn.so_far).gives) here.is;
      };
}

pub every_change : {p : Program} {a : Spot} {change : OwnsChange} {o : ℕ} {ids : List ℕ} {st : State} {old new : List Term} {before behind : List Step} {v : State} {i : ℕ} → Changing p a change o ids st old new before behind v i → length ids ≤ i → (b : spec.Spot) (x : Formula) (qs : List Formula) (s : spec.State) → IsSpot old a b → StandsAs old o x → StandAll old ids qs → IsState old st s → GoesTo IsState old new before behind v (actions.members_change p b change x qs s)
every_change {p} {change = change} {new = new} {v = v} {i = i} to above b x qs s hb hx all hs =
    let turn = to.left b x qs s hb hx all hs in
    let none : drop i qs ≡ [] = drop_of_length-le qs (omega (arith, as_long all)) in
    let end : steps_of (actions.members_change p b change x qs s).path ≡ steps_of turn.way =
    turn.path ∙ ap (λ (ys : List Formula). steps_of turn.way ++ steps_of (actions.members_change p b change x ys turn.so_far).path) none ∙ append-nil (steps_of turn.way) in
    let given : (actions.members_change p b change x qs s).gives ≡ turn.so_far =
    turn.gives ∙ ap (λ (ys : List Formula). (actions.members_change p b change x ys turn.so_far).gives) none in
    record { gives = subst (λ (u : spec.State). IsState new v u) (sym given) turn.is; goes = goes_as (sym end) turn.goes }

-- Values of fields.

pub record ContentsLeft (p : Program) (b : spec.Spot) (old new : List Term) (before behind : List Step) (v : ValuesAndState) (field left : ℕ) (whole : Execution actions.ValuesAndState) : Type 0 where
  pub so_far : actions.ValuesAndState
  pub is : IsValuesAndState new v so_far
  pub way : Path
  pub goes : Goes old new before behind way
  pub path : steps_of whole.path ≡ steps_of way ++ steps_of (actions.contents p b field left so_far.state).path
  pub values : whole.gives.values ≡ so_far.values ++ (actions.contents p b field left so_far.state).gives.values
  pub state : whole.gives.state ≡ (actions.contents p b field left so_far.state).gives.state

pub record Reading (p : Program) (first count : ℕ) (st : State) (old new : List Term) (before behind : List Step) (v : ValuesAndState) (field i : ℕ) : Type 0 where
  pub left : (b : spec.Spot) (s : spec.State) → IsState old st s → ContentsLeft p b old new before behind v field (count - i) (actions.contents p b first count s)

pub no_content : {p : Program} {first count : ℕ} {st : State} {ts : List Term} {path : List Step} {v : ValuesAndState} → v.values.items ≡ [] → v.state ≡ st → Reading p first count st ts ts path path v first 0
no_content {p} {first} {count} {ts = ts} {v = v} none same = record {
  left = λ b s hs.
      let all : count ≡ count - 0 = omega arith in
      record {
        so_far = record { values = []; state = s };
        is = record { values_are = same_values none no_values; state_is = subst (λ (u : State). IsState ts u s) (sym same) hs };
        way = Done;
        goes = nowhere (λ n f h. h);
        path = ap (λ (k : ℕ). steps_of (actions.contents p b first k s).path) all;
        values = ap (λ (k : ℕ). (actions.contents p b first k s).gives.values) all;
        state = ap (λ (k : ℕ). (actions.contents p b first k s).gives.state) all;
      };
}

pub one_content_more : {p : Program} {first count : ℕ} {st : State} {g0 g1 g2 : List Term} {p0 p1 p2 : List Step} {v w : ValuesAndState} {field next i : ℕ} → Reading p first count st g0 g1 p0 p1 v field i → i < count → ((u : actions.ValuesAndState) → IsValuesAndState g1 v u → GoesTo IsValuesAndState g1 g2 p1 p2 w (one_content p field u)) → next ≡ field + 1 → Reading p first count st g0 g2 p0 p2 w next (i + 1)
one_content_more {p} {first} {count} {field = field} {next = next} {i = i} to below made one = record {
  left = λ b s hs.
      let turn = to.left b s hs in
      let more = made turn.so_far turn.is in
      let value : Execution spec.ValueAndState = spec.new_value (type_of_field p field) turn.so_far.state in
      let m : ℕ = count - (i + 1) in
      let rest : Execution actions.ValuesAndState = actions.contents p b next m value.gives.state in
      let fewer : count - i ≡ suc m = omega arith in
      let path' : steps_of (actions.contents p b field (count - i) turn.so_far.state).path ≡ steps_of (sequence value.path (sequence rest.path Done)) =
      ap (λ (k : ℕ). steps_of (actions.contents p b field k turn.so_far.state).path) fewer ∙ ap (λ (k : ℕ). steps_of (sequence value.path (sequence (actions.contents p b k m value.gives.state).path Done))) (sym one) in
      let values' : (actions.contents p b field (count - i) turn.so_far.state).gives.values ≡ value.gives.value ∷ rest.gives.values =
      ap (λ (k : ℕ). (actions.contents p b field k turn.so_far.state).gives.values) fewer ∙ ap (λ (k : ℕ). value.gives.value ∷ (actions.contents p b k m value.gives.state).gives.values) (sym one) in
      let state' : (actions.contents p b field (count - i) turn.so_far.state).gives.state ≡ rest.gives.state =
      ap (λ (k : ℕ). (actions.contents p b field k turn.so_far.state).gives.state) fewer ∙ ap (λ (k : ℕ). (actions.contents p b k m value.gives.state).gives.state) (sym one) in
      record {
        so_far = (one_content p field turn.so_far).gives;
        is = more.gives;
        way = sequence turn.way (one_content p field turn.so_far).path;
        goes = goes_then turn.goes more.goes;
        path = turn.path ∙ ap (λ (k : List FormulaStep). steps_of turn.way ++ k) path' ∙ path_next_ended turn.way value.path rest.path;
        values = turn.values ∙ ap (λ (k : List symbolic.Symbolic). turn.so_far.values ++ k) values' ∙ sym (append_assoc turn.so_far.values (value.gives.value ∷ []) rest.gives.values);
        state = turn.state ∙ state';
      };
}

pub every_content : {p : Program} {first count : ℕ} {st : State} {old new : List Term} {before behind : List Step} {v : ValuesAndState} {field i : ℕ} → Reading p first count st old new before behind v field i → count ≤ i → (b : spec.Spot) (s : spec.State) → IsState old st s → GoesTo IsValuesAndState old new before behind v (actions.contents p b first count s)
every_content {p} {first} {count} {new = new} {v = v} {field = field} {i = i} to above b s hs =
    let turn = to.left b s hs in
    let none : count - i ≡ 0 = omega arith in
    let end : steps_of (actions.contents p b first count s).path ≡ steps_of turn.way =
    turn.path ∙ ap (λ (k : ℕ). steps_of turn.way ++ steps_of (actions.contents p b field k turn.so_far.state).path) none ∙ append-nil (steps_of turn.way) in
    let values' : (actions.contents p b first count s).gives.values ≡ turn.so_far.values =
    turn.values ∙ ap (λ (k : ℕ). turn.so_far.values ++ (actions.contents p b field k turn.so_far.state).gives.values) none ∙ append-nil turn.so_far.values in
    let state' : (actions.contents p b first count s).gives.state ≡ turn.so_far.state =
    turn.state ∙ ap (λ (k : ℕ). (actions.contents p b field k turn.so_far.state).gives.state) none in
    record {
      gives = record {
        values_are = subst (λ (ws : List symbolic.Symbolic). AreSymbolic new v.values.items ws) (sym values') turn.is.values_are;
        state_is = subst (λ (u : spec.State). IsState new v.state u) (sym state') turn.is.state_is;
      };
      goes = goes_as (sym end) turn.goes;
    }
