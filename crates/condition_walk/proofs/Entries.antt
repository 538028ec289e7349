-- What is made and known at the entry of a function, and its body.
use Rattle.std.specs.Prelude.{ℕ, ◌+◌, ◌<◌, ◌≤◌, List, [], ◌∷◌, ◌++◌, ◌≡◌, length, drop, Vec}
use Rattle.std.specs.Global.{Global}
use Rattle.std.proofs.Common.{refl, ap, sym, ◌∙◌, subst, get_or, arith}
use Rattle.std.proofs.lemmas.List.{append-nil, append_assoc}
use Rattle.std.proofs.Math.ListN.{drop_of_length-le}
use Rattle.terms.specs.declared.term.Term.{Term}
use Rattle.terms.specs.Formula.{Formula}
use Rattle.method.specs.declared.program.DeclaredType.{DeclaredType}
use Rattle.method.specs.declared.program.DeclaredType.TheVariants.{Integer, Pointer, Object, Claim}
use Rattle.method.specs.declared.program.Stmt.{Stmt}
use Rattle.method.specs.declared.program.VariableInfo.{VariableInfo}
use Rattle.method.specs.declared.program.FunctionInfo.{FunctionInfo}
use Rattle.method.specs.declared.program.Program.{Program}
use Rattle.conditions.specs.Actions as actions
use Rattle.conditions.specs.Code as spec
use Rattle.conditions.specs.Paths.{Execution, prefix, after}
use Rattle.conditions.specs.Statements as statements
use Rattle.conditions.specs.Symbolic as symbolic
use Rattle.condition_formulas.specs.declared.symbolic.Symbolic.{Symbolic}
use Rattle.condition_formulas.specs.Standing.{StandAll, Later}
use Rattle.condition_formulas.specs.Symbolics.{IsSymbolic, AreSymbolic, EachSymbolic}
use Rattle.condition_formulas.proofs.Rows.{both, all_later, same_ids}
use Rattle.condition_formulas.proofs.Symbolics.{are_later, symbolic_later}
use Rattle.annotation_scenes.proofs.Scenes.{as_many}
use Rattle.annotation_scenes.proofs.Done.{Done, done_first, done_last, value_at, DoneValues, values_first, values_next, values_last}
use Rattle.condition_code.specs.declared.state.Spot.{Spot}
use Rattle.condition_code.specs.declared.state.State.{State}
use Rattle.condition_code.specs.declared.walk.Step.{Step}
use Rattle.condition_code.specs.declared.state.DeferredObject.{DeferredObject}
use Rattle.condition_code.specs.declared.state.DeferredClaim.{DeferredClaim}
use Rattle.condition_code.specs.States.{IsSpot, IsState, AreDeferred, AreDeferredClaims}
use Rattle.condition_code.specs.Walks.{GoesTo}
use Rattle.condition_code.proofs.Codes.{then_value}
use Rattle.condition_code.proofs.States.{spot_later, no_values, same_values}
use Rattle.condition_control.specs.Forms.{all_stmts}
use Rattle.condition_control.proofs.Runs.{after_after, as_run, OnWay, way_starts, way_goes_on, way_ends, element}

-- Statements one after the other.

pub record StmtsTo (p : Program) (f : FunctionInfo) (a : Spot) (list : List Stmt) (first : State) (old new : List Term) (before behind : List Step) (v : State) (i : ℕ) : Type 0 where
  pub ran : (b : spec.Spot) (s : spec.State) → IsSpot old a b → IsState old first s → OnWay IsState old new before behind v (all_stmts p f b (drop i list)) (all_stmts p f b list s)

pub stmts_first : {p : Program} {f : FunctionInfo} {a : Spot} {list : List Stmt} {v : State} {ts : List Term} {path : List Step} → StmtsTo p f a list v ts ts path path v 0
stmts_first {p = p} {f = f} {list = list} = record { ran = λ b s hb hs. way_starts (all_stmts p f b list) hs }

pub stmts_next : {p : Program} {f : FunctionInfo} {a : Spot} {list : List Stmt} {first v w : State} {g0 g1 g2 : List Term} {p0 p1 p2 : List Step} {i : ℕ} (d : Stmt) → d ≡ get_or list i d → StmtsTo p f a list first g0 g1 p0 p1 v i → i < length list → ((b : spec.Spot) (s : spec.State) → IsSpot g1 a b → IsState g1 v s → GoesTo IsState g1 g2 p1 p2 w (statements.stmt p f b d s)) → StmtsTo p f a list first g0 g2 p0 p2 w (i + 1)
stmts_next {p = p} {f = f} {list = list} {i = i} d item to below one = record {
  ran = λ b s hb hs.
      let way = to.ran b s hb hs in
      let next : spec.State → Execution spec.State = all_stmts p f b (drop (i + 1) list) in
      let here : drop i list ≡ d ∷ drop (i + 1) list = element list i d below ∙ ap (λ (x : Stmt). x ∷ drop (i + 1) list) (sym item) in
      way_goes_on (all_stmts p f b (drop i list)) (statements.stmt p f b d) next (λ t. ap (λ (xs : List Stmt). all_stmts p f b xs t) here) way (λ t ht. one b t (spot_later way.ran.goes.later hb) ht);
}

pub stmts_last : {p : Program} {f : FunctionInfo} {a : Spot} {list : List Stmt} {first v : State} {g0 g1 : List Term} {p0 p1 : List Step} {i : ℕ} → StmtsTo p f a list first g0 g1 p0 p1 v i → length list ≤ i → (b : spec.Spot) (s : spec.State) → IsSpot g0 a b → IsState g0 first s → GoesTo IsState g0 g1 p0 p1 v (all_stmts p f b list s)
stmts_last {p = p} {f = f} {list = list} {i = i} to above b s hb hs =
    way_ends (all_stmts p f b (drop i list)) (λ t. ap (λ (xs : List Stmt). all_stmts p f b xs t) (drop_of_length-le list above)) (to.ran b s hb hs)

-- a body is its statements, and its end
pub body_is : (p : Program) (f : FunctionInfo) (b : spec.Spot) (list : List Stmt) (s : spec.State) → after (all_stmts p f b list s) (λ t. statements.body_end p f b f.result t) ≡ statements.body p f b list s
body_is p f b [] s = refl
body_is p f b (x ∷ xs) s =
    let first : Execution spec.State = statements.stmt p f b x s in
    after_after first (λ t. all_stmts p f b xs t) (λ t. statements.body_end p f b f.result t)
    ∙ ap (λ (u : Execution spec.State). prefix first.path u) (body_is p f b xs first.gives)

-- Values of new constants.

abbrev as_values : List symbolic.Symbolic → spec.State → actions.ValuesAndState
as_values ws t = record { values = ws; state = t }

abbrev prefixed : List symbolic.Symbolic → actions.ValuesAndState → actions.ValuesAndState
prefixed done r = record { values = done ++ r.values; state = r.state }

pub record NewTo (old new : List Term) (vs : List VariableInfo) (first v : State) (made : List Symbolic) (i : ℕ) : Type 0 where
  pub later : Later old new
  pub goes : (s : spec.State) → IsState old first s → (t : spec.State) × (done : List symbolic.Symbolic) × IsState new v t × AreSymbolic new made done × (prefixed done (statements.new_values (drop i vs) t) ≡ statements.new_values vs s)

pub new_first : {ts : List Term} {vs : List VariableInfo} {v : State} {made : List Symbolic} → made ≡ [] → NewTo ts ts vs v v made 0
new_first e = record { later = λ n f is. is; goes = λ s hs. (s, [], hs, same_values e no_values, refl) }

pub new_next : {g0 g1 g2 : List Term} {vs : List VariableInfo} {first v w : State} {made next : List Symbolic} {i : ℕ} {x : Symbolic} (d : VariableInfo) → d ≡ get_or vs i d → NewTo g0 g1 vs first v made i → i < length vs → Later g1 g2 → ((s : spec.State) → IsState g1 v s → IsSymbolic g2 x (spec.new_of d.ty s).value × IsState g2 w (spec.new_of d.ty s).state) → next ≡ made ++ x ∷ [] → NewTo g0 g2 vs first w next (i + 1)
new_next {vs = vs} {i = i} d item to below later one more = record {
  later = λ n f is. later n f (to.later n f is);
  goes = λ s hs.
      let so_far = to.goes s hs in
      let t = so_far.0 in
      let done = so_far.1 in
      let made = one t so_far.2 in
      let value : symbolic.Symbolic = (spec.new_of d.ty t).value in
      let here : drop i vs ≡ d ∷ drop (i + 1) vs = element vs i d below ∙ ap (λ (u : VariableInfo). u ∷ drop (i + 1) vs) (sym item) in
      let rest : actions.ValuesAndState = statements.new_values (drop (i + 1) vs) (spec.new_of d.ty t).state in (
        (spec.new_of d.ty t).state,
        done ++ value ∷ [],
        made.1,
        same_values more (then_value (are_later later so_far.3) made.0),
        ap (λ (ws : List symbolic.Symbolic). as_values ws rest.state) (append_assoc done (value ∷ []) rest.values) ∙ ap (λ (us : List VariableInfo). prefixed done (statements.new_values us t)) (sym here) ∙ so_far.4,
      );
}

pub new_last : {g0 g1 : List Term} {vs : List VariableInfo} {first v : State} {made : List Symbolic} {i : ℕ} → NewTo g0 g1 vs first v made i → length vs ≤ i → (s : spec.State) → IsState g0 first s → AreSymbolic g1 made (statements.new_values vs s).values × IsState g1 v (statements.new_values vs s).state
new_last {g1 = g1} {vs = vs} {v = v} {made = made} {i = i} to above s hs =
    let so_far = to.goes s hs in
    let t = so_far.0 in
    let done = so_far.1 in
    let whole = sym (ap (λ (us : List VariableInfo). prefixed done (statements.new_values us t)) (drop_of_length-le vs above)) ∙ so_far.4 in
    let values : done ≡ (statements.new_values vs s).values = sym (append-nil done) ∙ ap (λ (r : actions.ValuesAndState). r.values) whole in
    let state : t ≡ (statements.new_values vs s).state = ap (λ (r : actions.ValuesAndState). r.state) whole in
    (subst (λ (ws : List symbolic.Symbolic). AreSymbolic g1 made ws) values so_far.3, subst (λ (u : spec.State). IsState g1 v u) state so_far.2)

-- Ranges of parameters.

pub record RangesTo (old new : List Term) (vs : List VariableInfo) (args : List Symbolic) (made : List ℕ) (i : ℕ) : Type 0 where
  pub later : Later old new
  pub goes : (ws : List symbolic.Symbolic) → AreSymbolic old args ws → Done new made (statements.parameter_ranges (drop i vs) (drop i ws)) (statements.parameter_ranges vs ws)

pub ranges_first : {ts : List Term} {vs : List VariableInfo} {args : List Symbolic} {made : List ℕ} → made ≡ [] → RangesTo ts ts vs args made 0
ranges_first {ts} {vs} {args} e = record {
  later = λ n f is. is;
  goes = λ ws are. subst (λ (ids : List ℕ). Done ts ids (statements.parameter_ranges vs ws) (statements.parameter_ranges vs ws)) (sym e) (done_first ts (statements.parameter_ranges vs ws));
}

done_many : {mid new : List Term} {made next ids : List ℕ} {now fs rest whole : List Formula} → Done mid made now whole → now ≡ fs ++ rest → Later mid new → StandAll new ids fs → next ≡ made ++ ids → Done new next rest whole
done_many {fs = fs} {rest = rest} d e later all more = record {
  done = d.done ++ fs;
  all = same_ids more (both (all_later later d.all) all);
  is = append_assoc d.done fs rest ∙ ap (λ (gs : List Formula). d.done ++ gs) (sym e) ∙ d.is;
}

pub ranges_next : {g0 g1 g2 : List Term} {vs : List VariableInfo} {args : List Symbolic} {made next ids : List ℕ} {i : ℕ} {ty : DeclaredType} {x : Symbolic} (d : VariableInfo) (e : Symbolic) → d ≡ get_or vs i d → x ≡ get_or args i e → ty ≡ d.ty → RangesTo g0 g1 vs args made i → i < length vs → i < length args → Later g1 g2 → ((w : symbolic.Symbolic) → IsSymbolic g1 x w → StandAll g2 ids (symbolic.ranges ty (symbolic.term w))) → next ≡ made ++ ids → RangesTo g0 g2 vs args next (i + 1)
ranges_next {g1 = g1} {vs = vs} {i = i} {ty = ty} d e item arg same to below short later one more = record {
  later = λ n f is. later n f (to.later n f is);
  goes = λ ws are.
      let w = value_at i e are short in
      let here : drop i vs ≡ d ∷ drop (i + 1) vs = element vs i d below ∙ ap (λ (u : VariableInfo). u ∷ drop (i + 1) vs) (sym item) in
      let is = symbolic_later to.later w.here in
      done_many (to.goes ws are) (ap (λ (us : List VariableInfo). statements.parameter_ranges us (drop i ws)) here ∙ ap (statements.parameter_ranges (d ∷ drop (i + 1) vs)) w.is ∙ ap (λ (u : DeclaredType). symbolic.ranges u (symbolic.term w.value) ++ statements.parameter_ranges (drop (i + 1) vs) (drop (i + 1) ws)) (sym same)) later (one w.value (subst (λ (v : Symbolic). IsSymbolic g1 v w.value) (sym arg) is)) more;
}

no_ranges : (vs : List VariableInfo) → statements.parameter_ranges vs [] ≡ []
no_ranges [] = refl
no_ranges (v ∷ vs) = refl

pub ranges_short : {g0 g1 : List Term} {vs : List VariableInfo} {args : List Symbolic} {made : List ℕ} {i : ℕ} → RangesTo g0 g1 vs args made i → length args ≤ i → (ws : List symbolic.Symbolic) → AreSymbolic g0 args ws → StandAll g1 made (statements.parameter_ranges vs ws)
ranges_short {vs = vs} {i = i} to above ws are =
    done_last (to.goes ws are) (ap (statements.parameter_ranges (drop i vs)) (drop_of_length-le ws (omega (arith, as_many are))) ∙ no_ranges (drop i vs))

pub ranges_last : {g0 g1 : List Term} {vs : List VariableInfo} {args : List Symbolic} {made : List ℕ} {i : ℕ} → RangesTo g0 g1 vs args made i → length vs ≤ i → (ws : List symbolic.Symbolic) → AreSymbolic g0 args ws → StandAll g1 made (statements.parameter_ranges vs ws)
ranges_last {vs = vs} {i = i} to above ws are =
    done_last (to.goes ws are) (ap (λ (us : List VariableInfo). statements.parameter_ranges us (drop i ws)) (drop_of_length-le vs above))

-- a list that grows by what is shown
pub extended : {X : Type 0} {next shown xs : List X} (made : List X) → next ≡ made ++ shown → shown ≡ xs → next ≡ made ++ xs
extended made e f = e ∙ ap (λ ys. made ++ ys) f

-- Zeros.

pub record ZerosTo (old new : List Term) (vs : List VariableInfo) (made : List Symbolic) (i : ℕ) : Type 0 where
  pub later : Later old new
  pub goes : DoneValues new made (statements.zeros (drop i vs)) (statements.zeros vs)

pub zeros_first : {ts : List Term} {vs : List VariableInfo} {made : List Symbolic} → made ≡ [] → ZerosTo ts ts vs made 0
zeros_first {ts} {vs} e = record { later = λ n f is. is; goes = subst (λ (us : List Symbolic). DoneValues ts us (statements.zeros vs) (statements.zeros vs)) (sym e) (values_first ts (statements.zeros vs)) }

pub zeros_next : {g0 g1 g2 : List Term} {vs : List VariableInfo} {made next : List Symbolic} {i : ℕ} {x : Symbolic} (d : VariableInfo) → d ≡ get_or vs i d → ZerosTo g0 g1 vs made i → i < length vs → Later g1 g2 → IsSymbolic g2 x (statements.zero_like d.ty) → next ≡ made ++ x ∷ [] → ZerosTo g0 g2 vs next (i + 1)
zeros_next {vs = vs} {i = i} d item to below later is more = record {
  later = λ n f h. later n f (to.later n f h);
  goes =
      let here : drop i vs ≡ d ∷ drop (i + 1) vs = element vs i d below ∙ ap (λ (u : VariableInfo). u ∷ drop (i + 1) vs) (sym item) in
      values_next to.goes (ap statements.zeros here) later is more;
}

pub zeros_last : {g0 g1 : List Term} {vs : List VariableInfo} {made : List Symbolic} {i : ℕ} → ZerosTo g0 g1 vs made i → length vs ≤ i → AreSymbolic g1 made (statements.zeros vs)
zeros_last {vs = vs} to above = values_last to.goes (ap statements.zeros (drop_of_length-le vs above))

-- values, and others behind them
each_beside : (ts : List Term) (vs us : List Symbolic) (ws xs : List symbolic.Symbolic) → EachSymbolic ts vs ws → EachSymbolic ts us xs → EachSymbolic ts (vs ++ us) (ws ++ xs)
each_beside ts [] us [] xs first second = second
each_beside ts [] us (w ∷ ws) xs first second = absurd first
each_beside ts (v ∷ vs) us [] xs first second = absurd first
each_beside ts (v ∷ vs) us (w ∷ ws) xs first second = (first.0, each_beside ts vs us ws xs first.1 second)

pub beside : {ts : List Term} {vs us : List Symbolic} {ws xs : List symbolic.Symbolic} → AreSymbolic ts vs ws → AreSymbolic ts us xs → AreSymbolic ts (vs ++ us) (ws ++ xs)
beside {ts} {vs} {us} {ws} {xs} first second = record { each = each_beside ts vs us ws xs first.each second.each }

-- the state with other values
pub other_locals : {ts : List Term} {c : State} {s : spec.State} {vs : Vec Symbolic Global} {ws : List symbolic.Symbolic} → IsState ts c s → AreSymbolic ts vs.items ws → IsState ts (record c { locals = vs }) (record s { locals = ws })
other_locals is values = record { heap_is = is.heap_is; locals_are = values; integers_is = is.integers_is; references_is = is.references_is; heaps_is = is.heaps_is; changed_are = is.changed_are; made_are = is.made_are }

pub nothing_changed : {ts : List Term} {cs : List DeferredObject} → cs ≡ [] → AreDeferred ts cs []
nothing_changed {ts} e = subst (λ (ds : List DeferredObject). AreDeferred ts ds []) (sym e) (record { each = tt })

pub nothing_made : {ts : List Term} {cs : List DeferredClaim} → cs ≡ [] → AreDeferredClaims ts cs []
nothing_made {ts} e = subst (λ (ds : List DeferredClaim). AreDeferredClaims ts ds []) (sym e) (record { each = tt })

-- New constants leave the heap as it is.

one_heap : (ty : DeclaredType) (s : spec.State) → (spec.new_of ty s).state.heap ≡ s.heap
one_heap (Integer k) s = refl
one_heap (Pointer n) s = refl
one_heap Object s = refl
one_heap Claim s = refl

pub same_heap : (vs : List VariableInfo) (s : spec.State) → (statements.new_values vs s).state.heap ≡ s.heap
same_heap [] s = refl
same_heap (v ∷ vs) s = same_heap vs (spec.new_of v.ty s).state ∙ one_heap v.ty s

-- a function is entered with the heap at its entry
pub entered : (p : Program) (f : FunctionInfo) (s : spec.State) (ws : List symbolic.Symbolic) {g0 g1 : List Term} {p0 p1 : List Step} {v : State} {h : Formula} → s.heap ≡ h → GoesTo IsState g0 g1 p0 p1 v (statements.enter p f (statements.outside_spot p f s.heap ws) s) → GoesTo IsState g0 g1 p0 p1 v (statements.enter p f (statements.outside_spot p f h ws) s)
entered p f s ws e run = as_run (ap (λ (h : Formula). statements.enter p f (statements.outside_spot p f h ws) s) e) run
