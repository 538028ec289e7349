-- A function's entry: an environment in which the heap and the parameters are those of a run, and what is known there.
use Rattle.std.proofs.Common.{append-nil, ◌≡◌, ℕ, zero, suc, ◌+◌, ◌≤◌, ◌==◌, Bool, true, false, not, ◌||◌, if◌then◌else◌, ℤ, List, [], ◌∷◌, ◌++◌, length, take, drop, refl, ap, sym, ◌∙◌, subst, arith, eqb-true, true≢false, append_assoc}
use Rattle.std.specs.Prelude.{nat_lt}
use Rattle.std.proofs.lemmas.Bool.{leb-true}
use Rattle.object_types.specs.declared.references.Ref.{Ref}
use Rattle.object_types.specs.declared.values.Value.{Value}
use Rattle.object_types.specs.declared.values.Value.TheVariants.{Int, Ref as Refers}
use Rattle.object_types.specs.References.{is_reference}
use Rattle.object_types.specs.Values.{says}
use Rattle.object_types.specs.Heap.{Heap}
use Rattle.method.specs.declared.program.DeclaredType.{DeclaredType}
use Rattle.method.specs.declared.program.DeclaredType.TheVariants.{Integer, Pointer, Object, Claim}
use Rattle.method.specs.declared.program.VariableInfo.{VariableInfo}
use Rattle.method.specs.declared.program.FunctionInfo.{FunctionInfo}
use Rattle.method.specs.declared.program.Program.{Program}
use Rattle.method.specs.Tables.{local, in_type}
use Rattle.method.specs.WellFormed.{is_value}
use Rattle.method.specs.Legal.{Good}
use Rattle.method.specs.Scopes.{known}
use Rattle.method.specs.Expressions.{call_scene}
use Rattle.method.specs.Actions.{clauses_hold}
use Rattle.method.specs.Machine.{in_types, fit_parameters, requires_hold}
use Rattle.terms.specs.declared.term.Kind.TheVariants as kinds
use Rattle.terms.specs.Formula.{Formula}
use Rattle.conditions.specs.Formulas.{node, me, eq, or', all_of, integer, reference, heap}
use Rattle.conditions.specs.Symbolic.{Symbolic, Truth, term, ranges}
use Rattle.conditions.specs.Paths.{Execution, after, all_facts, conditions}
use Rattle.conditions.specs.Code.{Spot, State, new_heap, new_of, call_scene as term_call}
use Rattle.conditions.specs.Actions.{ValuesAndState, clauses, items_of}
use Rattle.conditions.specs.Statements.{zero_like, zeros, new_values, parameter_ranges, empty_state, outside_spot, entry_facts, body, run}
use Rattle.conditions.specs.Ways.{AllHold, StandsFor}
use Rattle.conditions.proofs.FromRuns as runs
use Rattle.conditions.proofs.FromRuns.{Count, count_of, IsWithin, within_self, one_integer, one_reference, one_heap, Values}
use Rattle.condition_walks.proofs.TermSorts.{OfType, AllSorted, new_of_sort}
use Rattle.condition_walks.proofs.Checks.{all_every, AllIs, held_all}
use Rattle.condition_walks.proofs.Fitting.{at_entry}
use Rattle.condition_walks.proofs.Loops as loops
use Rattle.condition_walks.proofs.Calls as calls

-- The state at the entry.

-- the constants of the parameters, and the state with them and with the constant of the heap at entry
abbrev pub entry_values : FunctionInfo → ValuesAndState
entry_values f = new_values (take f.parameters f.variables.items) (new_heap empty_state)

-- the state at entry: a constant for each parameter, zero for each other variable
abbrev pub entry_state : FunctionInfo → State
entry_state f = record (entry_values f).state { locals = (entry_values f).values ++ zeros (drop f.parameters f.variables.items) }

-- the place before the writes list is known
abbrev pub first_spot : Program → FunctionInfo → Spot
first_spot p f = outside_spot p f (heap 0) (entry_values f).values

-- the place of the body, with the writes list and the parameters' terms
abbrev pub entry_spot : Program → FunctionInfo → Spot
entry_spot p f = record (first_spot p f) { writes = items_of p (first_spot p f) f.writes.items (term_call me (entry_state f).heap (entry_values f).values) }

-- a function's path begins with the facts of its entry
conditions_known : {A : Type 0} (known fs : List Formula) (t : Execution A) → conditions known (all_facts fs t).path ≡ conditions (known ++ fs) t.path
conditions_known known [] t = ap (λ ks. conditions ks t.path) (sym (append-nil known))
conditions_known known (f ∷ fs) t = conditions_known (known ++ f ∷ []) fs t ∙ ap (λ ks. conditions ks t.path) (append_assoc known (f ∷ []) fs)

pub run_conditions : (p : Program) (f : FunctionInfo) → conditions [] (run p f).path ≡ conditions (entry_facts p f (first_spot p f) (entry_state f)) (body p f (entry_spot p f) f.body.items (entry_state f)).path
run_conditions p f = conditions_known [] (entry_facts p f (first_spot p f) (entry_state f)) (body p f (entry_spot p f) f.body.items (entry_state f))

-- Sorts at the entry.

zero_sorted : (vs : List VariableInfo) → AllSorted vs (zeros vs)
zero_sorted [] = tt
zero_sorted (v ∷ vs) = (by_type v.ty, zero_sorted vs)
  where
    by_type : (ty : DeclaredType) → OfType ty (zero_like ty)
    by_type (Integer c) = refl
    by_type (Pointer n) = refl
    by_type Object = refl
    by_type Claim = refl

values_sorted : (n : ℕ) (vs : List VariableInfo) (st : State) (zs : List Symbolic) → AllSorted (drop n vs) zs → AllSorted vs ((new_values (take n vs) st).values ++ zs)
values_sorted zero vs st zs s = s
values_sorted (suc n) [] st [] s = tt
values_sorted (suc n) [] st (z ∷ zs) s = s
values_sorted (suc n) (v ∷ vs) st zs s = (new_of_sort v.ty st, values_sorted n vs (new_of v.ty st).state zs s)

pub entry_sorted : (f : FunctionInfo) → AllSorted f.variables.items (entry_state f).locals
entry_sorted f = values_sorted f.parameters f.variables.items (new_heap empty_state) (zeros (drop f.parameters f.variables.items)) (zero_sorted (drop f.parameters f.variables.items))

pub sorted_many : (vs : List VariableInfo) (ws : List Symbolic) → AllSorted vs ws → length ws ≡ length vs
sorted_many [] [] s = refl
sorted_many [] (w ∷ ws) s = absurd s
sorted_many (v ∷ vs) [] s = absurd s
sorted_many (v ∷ vs) (w ∷ ws) s = ap suc (sorted_many vs ws s.1)

pub values_heap : (vs : List VariableInfo) (st : State) → (new_values vs st).state.heap ≡ st.heap
values_heap [] st = refl
values_heap (v ∷ vs) st = values_heap vs (new_of v.ty st).state ∙ loops.new_of_heap v.ty st

-- values of as many variables, each of its type
abbrev pub AllFit : List VariableInfo → List Value → Type 0
AllFit [] [] = Unit {0}
AllFit [] (l ∷ ls) = ⊥
AllFit (v ∷ vs) [] = ⊥
AllFit (v ∷ vs) (l ∷ ls) = ((in_type v.ty l ≡ true) × (is_value l ≡ true)) × AllFit vs ls

types_fit : (vs : List VariableInfo) (ls zs : List Value) → in_types vs ls ≡ true → ((i : ℕ) → is_value (local (ls ++ zs) i) ≡ true) → AllFit (take (length ls) vs) ls
types_fit [] [] zs t n = tt
types_fit (v ∷ vs) [] zs t n = tt
types_fit [] (l ∷ ls) zs t n = absurd (true≢false (sym t))
types_fit (v ∷ vs) (l ∷ ls) zs t n = by_type (in_type v.ty l) refl t (λ k. types_fit vs ls zs k (λ i. n (suc i)))
  where
    by_type : (b : Bool) → in_type v.ty l ≡ b → (if b then in_types vs ls else false) ≡ true → (in_types vs ls ≡ true → AllFit (take (length ls) vs) ls) → ((in_type v.ty l ≡ true) × (is_value l ≡ true)) × AllFit (take (length ls) vs) ls
    by_type true e k more = ((e, n 0), more k)
    by_type false e k more = absurd (true≢false (sym k))

pub parameters_fit : (f : FunctionInfo) (args zs : List Value) → fit_parameters f args ≡ true → ((i : ℕ) → is_value (local (args ++ zs) i) ≡ true) → AllFit (take f.parameters f.variables.items) args × (length args ≡ f.parameters)
parameters_fit f args zs fit named = by_length (length args == f.parameters) refl fit
  where
    by_length : (b : Bool) → (length args == f.parameters) ≡ b → (if b then in_types f.variables.items args else false) ≡ true → AllFit (take f.parameters f.variables.items) args × (length args ≡ f.parameters)
    by_length true e k = let same : length args ≡ f.parameters = eqb-true (length args) f.parameters e in (subst (λ n. AllFit (take n f.variables.items) args) same (types_fit f.variables.items args zs k named), same)
    by_length false e k = absurd (true≢false (sym k))

module _ (E : Type 0)
    (Agree : Count → E → E → Type 0)
    (agree_self : (c : Count) (e : E) → Agree c e e)
    (agree_then : (c : Count) (d e f : E) → Agree c d e → Agree c e f → Agree c d f)
    (agree_less : (c d : Count) (e f : E) → IsWithin c d → Agree d e f → Agree c e f)
    (Holds : E → Formula → Type 0) (Is : E → Formula → Bool → Type 0) (Has : E → Formula → Value → Type 0) (HeapIs : E → Formula → Heap → Type 0)
    (has_says : (e : E) (x : Formula) (b : Bool) → Is e x b → Has e (term (Truth x)) (says b))
    (holds_eq : (e : E) (x y : Formula) (v : Value) → Has e x v → Has e y v → Holds e (eq x y))
    (holds_same : (e : E) (x y : Formula) (h : Heap) → HeapIs e x h → HeapIs e y h → Holds e (eq x y))
    (holds_all : (e : E) (fs : List Formula) → AllHold E Holds e fs → Holds e (all_of fs))
    (holds_first : (e : E) (x y : Formula) → Holds e x → Holds e (or' x y))
    (holds_second : (e : E) (x y : Formula) → Holds e y → Holds e (or' x y))
    (an_integer : (c : Count) (z : ℤ) → runs.Extension E Agree agree_self agree_then agree_less c (one_integer c))
    (is_integer : (c : Count) (z : ℤ) (e : E) → (an_integer c z).So e → Has e (integer c.integers) (Int z))
    (a_reference : (c : Count) (r : Ref) → is_reference r ≡ true → runs.Extension E Agree agree_self agree_then agree_less c (one_reference c))
    (is_refers : (c : Count) (r : Ref) (named : is_reference r ≡ true) (e : E) → (a_reference c r named).So e → Has e (reference c.references) (Refers r))
    (Proper : Heap → Type 0)
    (a_heap : (c : Count) (h : Heap) → Proper h → runs.Extension E Agree agree_self agree_then agree_less c (one_heap c))
    (is_heap : (c : Count) (h : Heap) (proper : Proper h) (e : E) → (a_heap c h proper).So e → HeapIs e (heap c.heaps) h)
    (size : ℕ) (Spotted : E → Type 0)
    (holds_is : (e : E) (g : Formula) → Is e g true → Holds e g)
    (is_false : (e : E) (g : Formula) → Is e g false → ¬ Holds e g)
    (ranges_hold : (ty : DeclaredType) (w : Formula) (v : Value) → in_type ty v ≡ true → (e : E) → Has e w v → AllHold E Holds e (ranges ty w))
  where
    abbrev Extension : Count → Count → Type 1
    Extension = runs.Extension E Agree agree_self agree_then agree_less

    abbrev All : E → List Formula → Type 0
    All = AllHold E Holds

    abbrev Stands : E → Symbolic → Value → Type 0
    Stands e = StandsFor (Is e) (Has e)

    abbrev Shown : (ℕ → Bool) → E → ℕ → List Symbolic → Values → Type 0
    Shown = runs.Shown E Agree agree_self agree_then agree_less Holds Is Has HeapIs has_says holds_eq holds_same holds_all holds_first holds_second an_integer is_integer a_reference is_refers Proper a_heap is_heap size Spotted

    abbrev Matches : (ℕ → Bool) → E → State → Heap → Values → Type 0
    Matches = runs.Matches E Agree agree_self agree_then agree_less Holds Is Has HeapIs has_says holds_eq holds_same holds_all holds_first holds_second an_integer is_integer a_reference is_refers Proper a_heap is_heap size Spotted

    abbrev Follows : (ℕ → Bool) → (ℕ → Bool) → State → Execution State → Heap → Values → Heap → Values → Type 1
    Follows = runs.Follows E Agree agree_self agree_then agree_less Holds Is Has HeapIs has_says holds_eq holds_same holds_all holds_first holds_second an_integer is_integer a_reference is_refers Proper a_heap is_heap size Spotted

    abbrev Breaks : ℕ → ℕ → (ℕ → Bool) → State → Execution State → Heap → Values → Type 1
    Breaks = runs.Breaks E Agree agree_self agree_then agree_less Holds Is Has HeapIs has_says holds_eq holds_same holds_all holds_first holds_second an_integer is_integer a_reference is_refers Proper a_heap is_heap size Spotted

    abbrev follows_after : (a b c : ℕ → Bool) (st : State) (t : Execution State) (g : State → Execution State) (h h1 h2 : Heap) (l l1 l2 : Values) → Follows a b st t h l h1 l1 → Follows b c t.gives (g t.gives) h1 l1 h2 l2 → Follows a c st (after t g) h l h2 l2
    follows_after = runs.follows_after E Agree agree_self agree_then agree_less Holds Is Has HeapIs has_says holds_eq holds_same holds_all holds_first holds_second an_integer is_integer a_reference is_refers Proper a_heap is_heap size Spotted

    stands_term : (e : E) (x : Symbolic) (v : Value) → Stands e x v → Has e (term x) v
    stands_term = runs.stands_term E Agree agree_self agree_then agree_less Holds Is Has HeapIs has_says holds_eq holds_same holds_all holds_first holds_second an_integer is_integer a_reference is_refers Proper a_heap is_heap size Spotted

    within_extension : (c d : Count) → IsWithin c d → Extension c d
    within_extension = runs.no_extension E Agree agree_self agree_then agree_less

    abbrev AllStand : E → List Symbolic → List Value → Type 0
    AllStand = calls.AllStand E Agree agree_self agree_then agree_less Holds Is Has HeapIs has_says holds_eq holds_same holds_all holds_first holds_second an_integer is_integer a_reference is_refers Proper a_heap is_heap size Spotted holds_is is_false ranges_hold

    -- constants for the parameters
    values_extension : (vs : List VariableInfo) (ls : List Value) → AllFit vs ls → (st : State) → Extension (count_of st) (count_of (new_values vs st).state)
    values_extension [] [] fit st = within_extension (count_of st) (count_of st) (within_self (count_of st))
    values_extension [] (l ∷ ls) fit st = absurd fit
    values_extension (v ∷ vs) [] fit st = absurd fit
    values_extension (v ∷ vs) (l ∷ ls) fit st =
        runs.both_extensions E Agree agree_self agree_then agree_less (count_of st) (count_of (new_of v.ty st).state) (count_of (new_values vs (new_of v.ty st).state).state) (loops.value_extension E Agree agree_self agree_then agree_less Holds Is Has HeapIs has_says holds_eq holds_same holds_all holds_first holds_second an_integer is_integer a_reference is_refers Proper a_heap is_heap size Spotted holds_is is_false ranges_hold v.ty l fit.0.1 st) (values_extension vs ls fit.1 (new_of v.ty st).state)

    values_stand : (vs : List VariableInfo) (ls : List Value) (fit : AllFit vs ls) (st : State) (e : E) → (values_extension vs ls fit st).So e → AllStand e (new_values vs st).values ls
    unfolding values_extension runs.both_extensions
    values_stand [] [] fit st e so = tt
    values_stand [] (l ∷ ls) fit st e so = absurd fit
    values_stand (v ∷ vs) [] fit st e so = absurd fit
    values_stand (v ∷ vs) (l ∷ ls) fit st e so = (loops.value_stands E Agree agree_self agree_then agree_less Holds Is Has HeapIs has_says holds_eq holds_same holds_all holds_first holds_second an_integer is_integer a_reference is_refers Proper a_heap is_heap size Spotted holds_is is_false ranges_hold v.ty l fit.0.1 st fit.0.0 e so.0, values_stand vs ls fit.1 (new_of v.ty st).state e so.1)

    all_both : (e : E) (fs gs : List Formula) → All e fs → All e gs → All e (fs ++ gs)
    all_both e [] gs a b = b
    all_both e (f ∷ fs) gs a b = (a.0, all_both e fs gs a.1 b)

    ranges_known : (vs : List VariableInfo) (ls : List Value) (ws : List Symbolic) (e : E) → AllFit vs ls → AllStand e ws ls → All e (parameter_ranges vs ws)
    ranges_known [] [] ws e fit s = tt
    ranges_known [] (l ∷ ls) ws e fit s = absurd fit
    ranges_known (v ∷ vs) [] ws e fit s = absurd fit
    ranges_known (v ∷ vs) (l ∷ ls) [] e fit s = tt
    ranges_known (v ∷ vs) (l ∷ ls) (w ∷ ws) e fit s = all_both e (ranges v.ty (term w)) (parameter_ranges vs ws) (ranges_hold v.ty (term w) l fit.0.0 e (stands_term e w l s.0)) (ranges_known vs ls ws e fit.1 s.1)

    -- variables behind the parameters are hidden
    hidden_shown : (hid : ℕ → Bool) (e : E) (b : ℕ) (ws : List Symbolic) (val : Values) → ((j : ℕ) → b ≤ j → hid j ≡ true) → Shown hid e b ws val
    hidden_shown hid e b [] val hides = tt
    hidden_shown hid e b (w ∷ ws) val hides = ((λ k. absurd (true≢false (sym (hides b (omega arith)) ∙ k))), hidden_shown hid e (b + 1) ws val (λ j low. hides j (omega (arith, low))))

    entry_shown : (hid : ℕ → Bool) (e : E) (b : ℕ) (ws zs : List Symbolic) (ls ms : List Value) (val : Values) → AllStand e ws ls → ((j : ℕ) → val (b + j) ≡ local (ls ++ ms) j) → ((j : ℕ) → b + length ls ≤ j → hid j ≡ true) → Shown hid e b (ws ++ zs) val
    entry_shown hid e b [] zs [] ms val s same hides = hidden_shown hid e b zs val (λ j low. hides j (omega (arith, low)))
    entry_shown hid e b [] zs (l ∷ ls) ms val s same hides = absurd s
    entry_shown hid e b (w ∷ ws) zs [] ms val s same hides = absurd s
    entry_shown hid e b (w ∷ ws) zs (l ∷ ls) ms val s same hides =
        let here : b ≡ b + 0 = omega arith in (
          (λ k. subst (λ (v : Value). Stands e w v) (sym (ap val here ∙ same 0)) s.0),
          entry_shown hid e (b + 1) ws zs ls ms val s.1 (λ j. (let z : b + 1 + j ≡ b + suc j = omega arith in ap val z) ∙ same (suc j)) (λ j low. hides j (omega (arith, low))),
        )

    module _ (p : Program) (f : FunctionInfo) (t : Ref) (h : Heap) (args : List Value)
        (sized : size ≡ length f.variables.items)
        (spotted : (e : E) → HeapIs e (heap 0) h → AllStand e (entry_values f).values args → Spotted e)
        (good_holds : (e : E) (u : Formula) → HeapIs e u h → Good p h → Holds e (node kinds.Good (u ∷ [])))
        (entry_is : (e : E) → HeapIs e (entry_state f).heap h → AllStand e (entry_values f).values args → AllIs E Holds Is holds_is is_false e (clauses p (first_spot p f) f.requires_.items (term_call me (entry_state f).heap (entry_values f).values)) (clauses_hold p f.requires_.items (call_scene t h args)))
        (an_environment : E)
      where
        hides_rest : (j : ℕ) → length args ≡ f.parameters → length args ≤ j → at_entry p f j ≡ true
        hides_rest j same low = ap not (by_less (nat_lt j f.parameters) refl)
          where
            by_less : (b : Bool) → nat_lt j f.parameters ≡ b → b || false ≡ false
            by_less false e = refl
            by_less true e = absurd (let z = leb-true (suc j) f.parameters e in omega (arith, same, low, z))

        entry_extension : AllFit (take f.parameters f.variables.items) args → Proper h → Extension (count_of empty_state) (count_of (entry_state f))
        entry_extension fit proper = runs.both_extensions E Agree agree_self agree_then agree_less (count_of empty_state) (count_of (new_heap empty_state)) (count_of (entry_state f)) (a_heap (count_of empty_state) h proper) (values_extension (take f.parameters f.variables.items) args fit (new_heap empty_state))

        entered : (fit : AllFit (take f.parameters f.variables.items) args) (proper : Proper h) → length args ≡ f.parameters → Good p h → requires_hold p f t h args ≡ true → (ms : List Value) (e : E) → (entry_extension fit proper).So e → All e (entry_facts p f (first_spot p f) (entry_state f)) × Matches (at_entry p f) e (entry_state f) h (local (args ++ ms))
        unfolding entry_extension runs.both_extensions
        entered fit proper same good requires ms e so =
            let is = is_heap (count_of empty_state) h proper e so.0 in
            let stand = values_stand (take f.parameters f.variables.items) args fit (new_heap empty_state) e so.1 in
            let at_heap : HeapIs e (entry_state f).heap h = subst (λ u. HeapIs e u h) (sym (values_heap (take f.parameters f.variables.items) (new_heap empty_state))) is in
            let ws = (entry_values f).values in
            let clause = clauses p (first_spot p f) f.requires_.items (term_call me (entry_state f).heap ws) in (
              (good_holds e (entry_state f).heap at_heap good, all_both e (parameter_ranges (take f.parameters f.variables.items) ws) clause (ranges_known (take f.parameters f.variables.items) args ws e fit stand) (held_all E Holds Is holds_is is_false e clause (clauses_hold p f.requires_.items (call_scene t h args)) (entry_is e at_heap stand) (all_every (clauses_hold p f.requires_.items (call_scene t h args)) requires))),
              record {
                spot = spotted e is stand;
                many = sorted_many f.variables.items (entry_state f).locals (entry_sorted f) ∙ sym sized;
                heap = at_heap;
                locals = entry_shown (at_entry p f) e 0 ws (zeros (drop f.parameters f.variables.items)) args ms (local (args ++ ms)) stand (λ j. ap (local (args ++ ms)) (omega arith)) (λ j low. hides_rest j same (omega (arith, low)));
              },
            )

        -- an environment in which the entry is that of the run, and so in each that agrees on the constants made
        pub entry_environment : AllFit (take f.parameters f.variables.items) args → Proper h → length args ≡ f.parameters → Good p h → requires_hold p f t h args ≡ true → (ms : List Value)
            → (e : E) × ((d : E) → Agree (count_of (entry_state f)) e d → All d (entry_facts p f (first_spot p f) (entry_state f)) × Matches (at_entry p f) d (entry_state f) h (local (args ++ ms)))
        entry_environment fit proper same good requires ms =
            let x = entry_extension fit proper in
            let e = x.some an_environment in
            (e.0, (λ d agree. entered fit proper same good requires ms d (x.kept e.0 d agree e.2)))
