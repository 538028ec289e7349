-- From an environment to a run, of the parts of a call: its arguments, where its value goes, the value, its conversion and store.
use Rattle.std.proofs.Common.{◌≡◌, ℕ, ◌+◌, inl, inr, ⊎_elim, Bool, true, false, pos, List, [], ◌∷◌, slice_get, Option, Some, None, Vec, Global, refl, ap, ◌∙◌}
use Rattle.int_ranges.specs.declared.ctype.CType.{CType}
use Rattle.int_ranges.specs.Ranges as machine_range
use Rattle.object_types.specs.declared.references.Ref.{Ref}
use Rattle.object_types.specs.declared.values.Value.{Value}
use Rattle.object_types.specs.declared.values.Value.TheVariants.{Int, Ref as Refers}
use Rattle.object_types.specs.Values.{int, referent}
use Rattle.object_types.specs.Heap.{Heap}
use Rattle.method.specs.declared.program.CheckKind.TheVariants.{Range}
use Rattle.method.specs.declared.program.DeclaredType.{DeclaredType}
use Rattle.method.specs.declared.program.Expr.{Expr}
use Rattle.method.specs.declared.program.Target.TheVariants.{Local, FieldOf}
use Rattle.method.specs.declared.program.Receiver.{Receiver}
use Rattle.method.specs.declared.program.Receiver.TheVariants.{Nobody, NewVariable, Place as Left}
use Rattle.method.specs.declared.program.Stmt.TheVariants.{Call}
use Rattle.method.specs.declared.program.FunctionInfo.{FunctionInfo}
use Rattle.method.specs.declared.program.Program.{Program}
use Rattle.method.specs.Legal.{Good}
use Rattle.method.specs.Machine.{fit_parameters}
use Rattle.method.specs.Machine as machine_turn
use Rattle.method.specs.Typing.{WellTyped}
use Rattle.method.specs.Expressions.{Context, Gave, Gives as GivesOut, check, eval, eval_all, after as outcome_after, checks as expr_checks}
use Rattle.method.specs.Actions as act
use Rattle.method.specs.Actions.{Chosen, spot, starting, conversion_checks}
use Rattle.method.specs.LocalRuns.{FailsAt, of_type}
use Rattle.terms.specs.Formula.{Formula}
use Rattle.term_meaning.specs.Meaning.{Language}
use Rattle.conditions.specs.Symbolic.{Symbolic, term}
use Rattle.conditions.specs.Paths.{Done, Execution, Gives, after, facts, checks}
use Rattle.conditions.specs.Code.{Spot, State, ValueAndState, in_range, code, all_symbolic}
use Rattle.conditions.specs.Actions as walk
use Rattle.conditions.specs.Actions.{Place, InLocal, InField}
use Rattle.conditions.specs.Statements.{any_result, receiving_place}
use Rattle.conditions.specs.Ways.{AllHold, FailsIn}
use Rattle.conditions.proofs.Ways.{facts_apart, fails_joined}
use Rattle.conditions.proofs.Tests.{after_gave}
use Rattle.conditions.proofs.Hiding.{after_stmt}
use Rattle.condition_walks.proofs.Sizes.{code_size}
use Rattle.condition_meaning.specs.Annotated.{Annotated}
use Rattle.condition_meaning.specs.FunctionWords.{ContractFits}
use Rattle.condition_meaning.proofs.Environments.{Environment, Has, Is, has_int, is_false}
use Rattle.condition_meaning.proofs.Known.{Known, known_by, known_holds}
use Rattle.action_conditions.proofs.NewBacks.{new_back}
use Rattle.action_conditions.proofs.Places.{AllStand, Stands}
use Rattle.function_law.proofs.Given as given
use Rattle.converse_law.proofs.Parts as parts
use Rattle.converse_law.proofs.CallFits.{FitsAll, FitsTo}
use Rattle.converse_law.proofs.Paths.{Knows, at_number, fails_front, fails_behind, none_declared, other_declared}

module _ (p : Program) (good : Annotated p) (typed : WellTyped p) (contracts : (n : ℕ) (g : FunctionInfo) → slice_get p.functions.items n ≡ Some g → ContractFits p g)
    (number : ℕ) (f : FunctionInfo) (fis : slice_get p.functions.items number ≡ Some f) (n0 : ℕ) (h0 : Heap) (args : List Value) (good0 : Good p h0) (fit : fit_parameters f args ≡ true)
    (e : Environment (parts.l p good typed contracts number f fis n0 h0 args good0 fit) (parts.T p good typed contracts number f fis n0 h0 args good0 fit)) (spotted : parts.Spotted p good typed contracts number f fis n0 h0 args good0 fit e)
  where
    abbrev l : Language
    l = parts.l p good typed contracts number f fis n0 h0 args good0 fit

    abbrev T : Ref
    T = parts.T p good typed contracts number f fis n0 h0 args good0 fit

    abbrev x : Context
    x = parts.x p good typed contracts number f fis n0 h0 args good0 fit

    abbrev a : Spot
    a = parts.a p good typed contracts number f fis n0 h0 args good0 fit

    abbrev Matches : (ℕ → Bool) → State → Heap → List Value → Type 0
    Matches hid st h v = parts.Matches p good typed contracts number f fis n0 h0 args good0 fit e spotted hid tt st h v

    abbrev All : List Formula → Type 0
    All = AllHold (Unit {0}) (Knows l T e) tt

    abbrev Fails : ℕ → ℕ → Execution State → Type 0
    Fails label n t = FailsIn (Unit {0}) (Knows l T e) label n t.path tt

    -- The arguments.

    pub args_back : (hid : ℕ → Bool) (line n : ℕ) (cs : List Expr) (st : State) (h : Heap) (v : List Value) → FitsAll p number f hid cs → Matches hid st h v → All (facts (all_symbolic p a st cs).path)
        → (vs : List Value) × ((eval_all p (spot x [] line) h v cs n).end ≡ Gave vs) × AllStand l T e (all_symbolic p a st cs).gives vs
    args_back hid line n [] st h v fits m all = ([], refl, tt)
    args_back hid line n (c ∷ cs) st h v fits m all =
        let s = spot x [] line in
        let w = (code p a st c).gives in
        let two = facts_apart (Unit {0}) (Knows l T e) (code p a st c).path (after (all_symbolic p a st cs) (λ us. Gives (w ∷ us))).path tt all in
        let three = facts_apart (Unit {0}) (Knows l T e) (all_symbolic p a st cs).path Done tt two.1 in
        let z = parts.code_back p good typed contracts number f fis n0 h0 args good0 fit e spotted hid line n c st h v tt fits.0 m two.0 in
        let stands = (given.code_has p good typed contracts number f fis n0 h0 args good0 fit hid line n c st h v z.0 fits.0 m.steady z.1 e (parts.forth p good typed contracts number f fis n0 h0 args good0 fit e spotted hid st h v m)).1 in
        let r = args_back hid line (n + expr_checks c) cs st h v fits.1 m three.0 in (
          z.0 ∷ r.0,
          after_gave (eval p s h v c n) (λ u. outcome_after (eval_all p s h v cs (n + expr_checks c)) (λ us. GivesOut (u ∷ us))) z.0 z.1 ∙ after_gave (eval_all p s h v cs (n + expr_checks c)) (λ us. GivesOut (z.0 ∷ us)) r.0 r.1,
          (stands, r.2),
        )

    pub args_fail : (label : ℕ) (hid : ℕ → Bool) (line n : ℕ) (cs : List Expr) (st : State) (h : Heap) (v : List Value) → FitsAll p number f hid cs → Matches hid st h v → FailsIn (Unit {0}) (Knows l T e) label n (all_symbolic p a st cs).path tt → FailsAt label (eval_all p (spot x [] line) h v cs n)
    args_fail label hid line n [] st h v fits m y = absurd y
    args_fail label hid line n (c ∷ cs) st h v fits m y =
        let s = spot x [] line in
        let w = (code p a st c).gives in
        let rest = after (all_symbolic p a st cs) (λ us. Gives (w ∷ us)) in
        let g = λ (u : Value). outcome_after (eval_all p s h v cs (n + expr_checks c)) (λ us. GivesOut (u ∷ us)) in
        ⊎_elim (λ z. fails_front label (eval p s h v c n) g (parts.code_fails p good typed contracts number f fis n0 h0 args good0 fit e spotted label hid line n c st h v tt fits.0 m z))
        (λ z.
        let k = parts.code_back p good typed contracts number f fis n0 h0 args good0 fit e spotted hid line n c st h v tt fits.0 m z.0 in
        ⊎_elim
        (λ i. fails_behind label (eval p s h v c n) g k.0 k.1
        (fails_front label (eval_all p s h v cs (n + expr_checks c)) (λ us. GivesOut (k.0 ∷ us))
        (args_fail label hid line (n + expr_checks c) cs st h v fits.1 m (at_number (Unit {0}) (Knows l T e) tt label (n + checks (code p a st c).path) (n + expr_checks c) (all_symbolic p a st cs).path (ap (λ j. n + j) (code_size p a st c)) i))))
        (λ i. absurd i.1)
        (fails_joined (Unit {0}) (Knows l T e) label (n + checks (code p a st c).path) (all_symbolic p a st cs).path Done tt z.1))
        (fails_joined (Unit {0}) (Knows l T e) label n (code p a st c).path rest.path tt y)

    -- Where the value goes.

    -- a place of the path is one of the run
    abbrev pub PlaceIs : Option Place → Option act.Place → Type 0
    PlaceIs None None = Unit {0}
    PlaceIs None (Some q) = ⊥
    PlaceIs (Some w) None = ⊥
    PlaceIs (Some (InLocal i)) (Some (act.InLocal j)) = i ≡ j
    PlaceIs (Some (InLocal i)) (Some (act.InField r g)) = ⊥
    PlaceIs (Some (InField o g)) (Some (act.InLocal j)) = ⊥
    PlaceIs (Some (InField o g)) (Some (act.InField r h)) = Has l T e o (Refers r) × (g ≡ h)

    pub place_back : (hid : ℕ → Bool) (line n : ℕ) (to : Receiver) (st : State) (h : Heap) (v : List Value) → FitsTo p number f hid to → Matches hid st h v → All (facts (receiving_place p f a to st).path)
        → (pl : Option act.Place) × ((machine_turn.received p to (spot x [] line) n (starting h v (Chosen []))).end ≡ Gave pl) × PlaceIs (receiving_place p f a to st).gives pl
    place_back hid line n Nobody st h v fits m all = (None, refl, tt)
    place_back hid line n (NewVariable i) st h v fits m all = (Some (act.InLocal i), refl, refl)
    place_back hid line n (Left (Local i)) st h v fits m all = (Some (act.InLocal i), refl, refl)
    place_back hid line n (Left (FieldOf c d)) st h v fits m all =
        let s = spot x [] line in
        let two = facts_apart (Unit {0}) (Knows l T e) (walk.left_side p a (FieldOf c d) st).path Done tt all in
        let three = facts_apart (Unit {0}) (Knows l T e) (code p a st c).path Done tt two.0 in
        let z = parts.code_back p good typed contracts number f fis n0 h0 args good0 fit e spotted hid line n c st h v tt fits.0 m three.0 in
        let r = referent z.0 in (
          Some (act.InField r d),
          after_gave (act.left_side p s (FieldOf c d) n (starting h v (Chosen []))) (λ place. GivesOut (Some place)) (act.InField r d) (after_gave (eval p s h v c n) (λ u. GivesOut (act.InField (referent u) d)) z.0 z.1),
          (given.pointer_refers p good typed contracts number f fis n0 h0 args good0 fit hid fits.1.0 line n c st h v z.0 fits.0 fits.1.1 m.steady z.1 e (parts.forth p good typed contracts number f fis n0 h0 args good0 fit e spotted hid st h v m), refl),
        )

    pub place_fails : (label : ℕ) (hid : ℕ → Bool) (line n : ℕ) (to : Receiver) (st : State) (h : Heap) (v : List Value) → FitsTo p number f hid to → Matches hid st h v → FailsIn (Unit {0}) (Knows l T e) label n (receiving_place p f a to st).path tt → FailsAt label (machine_turn.received p to (spot x [] line) n (starting h v (Chosen [])))
    place_fails label hid line n Nobody st h v fits m y = absurd y
    place_fails label hid line n (NewVariable i) st h v fits m y = absurd y
    place_fails label hid line n (Left (Local i)) st h v fits m y = absurd y
    place_fails label hid line n (Left (FieldOf c d)) st h v fits m y =
        let s = spot x [] line in
        ⊎_elim
        (λ z. ⊎_elim
        (λ i. fails_front label (act.left_side p s (FieldOf c d) n (starting h v (Chosen []))) (λ place. GivesOut (Some place))
        (fails_front label (eval p s h v c n) (λ u. GivesOut (act.InField (referent u) d)) (parts.code_fails p good typed contracts number f fis n0 h0 args good0 fit e spotted label hid line n c st h v tt fits.0 m i)))
        (λ i. absurd i.1)
        (fails_joined (Unit {0}) (Knows l T e) label n (code p a st c).path Done tt z))
        (λ z. absurd z.1)
        (fails_joined (Unit {0}) (Knows l T e) label n (walk.left_side p a (FieldOf c d) st).path Done tt y)

    -- behind a call nothing that was seen is hidden but what it declares
    abbrev pub Less : (ℕ → Bool) → (ℕ → Bool) → Option Place → Type 0
    Less hid hid' None = (j : ℕ) → hid' j ≡ false → hid j ≡ false
    Less hid hid' (Some (InLocal i)) = (j : ℕ) → (j ≡ i → ⊥) → hid' j ≡ false → hid j ≡ false
    Less hid hid' (Some (InField o d)) = (j : ℕ) → hid' j ≡ false → hid j ≡ false

    pub less_behind : (hid : ℕ → Bool) (line : ℕ) (to : Receiver) (c : Option CType) (q : ℕ) (es : Vec Expr Global) (st : State) → Less hid (after_stmt (Call line to c q es) hid) (receiving_place p f a to st).gives
    less_behind hid line Nobody c q es st = λ j k. none_declared (hid j) k
    less_behind hid line (NewVariable i) c q es st = λ j differ k. other_declared (hid j) i j differ k
    less_behind hid line (Left (Local i)) c q es st = λ j differ k. none_declared (hid j) k
    less_behind hid line (Left (FieldOf b d)) c q es st = λ j k. none_declared (hid j) k

    -- The value.

    -- any value of the function's type
    pub record Result (o : Option DeclaredType) (st : State) (u : ValueAndState) : Type 0 where
      pub value : Value
      pub of_its_type : of_type o value ≡ true
      pub stands : Stands l T e u.value value
      pub heap : u.state.heap ≡ st.heap
      pub locals : u.state.locals ≡ st.locals

    pub result_back : (o : Option DeclaredType) (st : State) → All (facts (any_result p f a o st).path) → Result o st (any_result p f a o st).gives
    result_back None st all = record { value = Int (pos 0); of_its_type = refl; stands = (pos 0, has_int l T e (pos 0), refl); heap = refl; locals = refl }
    result_back (Some ty) st all =
        let b = new_back l T e ty st (parts.all_true p good typed contracts number f fis n0 h0 args good0 fit e spotted (facts (any_result p f a (Some ty) st).path) all) in
        record { value = b.value; of_its_type = b.in_it; stands = b.stands; heap = b.heap; locals = b.locals }

    -- Its conversion.

    pub convert_back : (line n : ℕ) (c : Option CType) (w : Symbolic) (r : Value) → Stands l T e w r → All (facts (walk.convert_to p a c w).path) → ((act.convert_to (spot x [] line) c r n).end ≡ Gave r) × Stands l T e (walk.convert_to p a c w).gives r
    convert_back line n None w r is all = (refl, is)
    convert_back line n (Some c) w r is all = (by_range (machine_range.in_range c (int r)) (given.range_has p good typed contracts number f fis n0 h0 args good0 fit c w r e is) all.0, is)
      where
        by_range : (b : Bool) → Is l T e (in_range p a c (term w)) b → Known l T e (in_range p a c (term w)) → (check (spot x [] line) b n Range (GivesOut r)).end ≡ Gave r
        by_range true i k = refl
        by_range false i k = absurd (is_false l T e (in_range p a c (term w)) i (known_holds l T e (in_range p a c (term w)) k))

    pub convert_fails : (label line n : ℕ) (c : Option CType) (w : Symbolic) (r : Value) → Stands l T e w r → FailsIn (Unit {0}) (Knows l T e) label n (walk.convert_to p a c w).path tt → FailsAt label (act.convert_to (spot x [] line) c r n)
    convert_fails label line n None w r is y = absurd y
    convert_fails label line n (Some c) w r is y = by_range (machine_range.in_range c (int r)) (given.range_has p good typed contracts number f fis n0 h0 args good0 fit c w r e is) y
      where
        by_range : (b : Bool) → Is l T e (in_range p a c (term w)) b → FailsIn (Unit {0}) (Knows l T e) label n (walk.convert_to p a (Some c) w).path tt → FailsAt label (check (spot x [] line) b n Range (GivesOut r))
        by_range true i (inl z) = absurd (z.1 (known_by l T e (in_range p a c (term w)) true i refl))
        by_range true i (inr z) = absurd z.1
        by_range false i (inl z) = (Range, line, ap (λ m. (check (spot x [] line) false m Range (GivesOut r)).end) z.0)
        by_range false i (inr z) = absurd (is_false l T e (in_range p a c (term w)) i (known_holds l T e (in_range p a c (term w)) z.0))

    pub convert_size : (c : Option CType) (w : Symbolic) → checks (walk.convert_to p a c w).path ≡ conversion_checks c
    convert_size None w = refl
    convert_size (Some c) w = refl
