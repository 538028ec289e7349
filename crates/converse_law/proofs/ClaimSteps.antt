-- From an environment to a run, of a claim that is made and stored.
use Rattle.std.proofs.Common.{◌≡◌, ℕ, ◌+◌, ◌==◌, Bool, true, false, not, ◌||◌, List, [], Option, Some, None, slice_get, slice_set, refl, ap, sym, ◌∙◌, subst, true≢false}
use Rattle.std.proofs.lemmas.Bool.{eqb-true}
use Rattle.std.proofs.lemmas.List.{length-set}
use Rattle.object_types.specs.declared.references.Ref.{Ref}
use Rattle.object_types.specs.declared.values.Value.{Value}
use Rattle.object_types.specs.declared.values.Value.TheVariants.{Ref as Refers}
use Rattle.object_types.specs.References.{is_thread, is_claim, is_reference}
use Rattle.object_types.specs.Values.{referent}
use Rattle.object_types.specs.Sets.{is_in}
use Rattle.object_types.specs.Heap.{Heap}
use Rattle.method.specs.declared.program.DeclaredType.TheVariants.{Claim}
use Rattle.method.specs.declared.program.Target.{Target}
use Rattle.method.specs.declared.program.Target.TheVariants.{Local, FieldOf}
use Rattle.method.specs.declared.program.RightSide.TheVariants.{NewClaim}
use Rattle.method.specs.declared.program.Simple.TheVariants.{Assign}
use Rattle.method.specs.declared.program.ClaimSite.{ClaimSite}
use Rattle.method.specs.declared.program.Expr.{Expr}
use Rattle.method.specs.declared.program.FunctionInfo.{FunctionInfo}
use Rattle.method.specs.declared.program.Program.{Program}
use Rattle.method.specs.Tables.{type_of_field, sort_of_type, field_type}
use Rattle.method.specs.WellFormed.{has_sort}
use Rattle.method.specs.Typing.{WellTyped, Values, Refs, are_ints, values, and_then, only_if, field_takes, right_values, takes}
use Rattle.method.specs.Expressions as m
use Rattle.method.specs.Expressions.{Context, Spot as MachineSpot, is_listed, eval, checks}
use Rattle.method.specs.Actions as M
use Rattle.method.specs.Actions.{Progress, Tally, no_tally, inner_spot, right_checks, right_tally, simple_tally, spot}
use Rattle.machine_laws.proofs.Claims.{Right}
use Rattle.machine_laws.proofs.Records.{typed_sorted}
use Rattle.machine_laws.proofs.Simple.{test_some, takes_some, is_of_value, field_takes_inversion, right_gave, store_heap}
use Rattle.machine_laws.proofs.Steps.{ListedClosed}
use Rattle.machine_laws.proofs.Typed.{Env, only_if_some, to_type}
use Rattle.term_meaning.specs.Meaning.{Language}
use Rattle.conditions.specs.Admissible.{put_local}
use Rattle.conditions.specs.Symbolic.{Symbolic, term}
use Rattle.conditions.specs.Paths as paths
use Rattle.conditions.specs.Paths.{Execution, Gives, after}
use Rattle.conditions.specs.Code.{Spot, State, ValueAndState, code}
use Rattle.conditions.specs.Actions as walk
use Rattle.conditions.proofs.FromRuns.{count_of, within_self}
use Rattle.condition_meaning.specs.Languages.{language_of}
use Rattle.condition_meaning.proofs.Environments.{Environment, Has}
use Rattle.condition_meaning.proofs.Near.{near_of}
use Rattle.condition_walks.proofs.ActionSizes.{left_side_size, right_side_size}
use Rattle.condition_walks.proofs.ActionSorts.{fits_sort}
use Rattle.condition_walks.proofs.Sizes.{code_size}
use Rattle.action_conditions.proofs.Assigns.{Sees, SeesTarget}
use Rattle.action_conditions.proofs.Places.{Stands, stands_term}
use Rattle.action_conditions.proofs.Stores.{on_gave}
use Rattle.action_conditions.proofs.Updates.{set_field}
use Rattle.action_conditions.proofs.Variables.{shown_set, terms_many}
use Rattle.block_conditions.proofs.Beside.{beside_after, beside_gives}
use Rattle.block_conditions.proofs.Blocks.{InvIs, EntryTrueIs}
use Rattle.block_conditions.proofs.Inner as inner
use Rattle.block_conditions.proofs.Interlocked.{pointer_refs}
use Rattle.block_conditions.proofs.NearWrites.{near_write, reference_sort}
use Rattle.block_conditions.proofs.Noting.{Keeps, adds_still, keeps_same, keeps_write}
use Rattle.block_conditions.proofs.Operands.{At, FitsRef, beside_ref}
use Rattle.block_conditions.proofs.Seeing.{SeesSite}
use Rattle.block_conditions.proofs.Statements.{Worth, object_of, field_place}
use Rattle.block_conditions.proofs.Stores.{Quietly, beside_field, beside_variable}
use Rattle.converse_law.proofs.Behind.{Behind, behind_after, behind_gives, behind_less, behind_one}
use Rattle.converse_law.proofs.ClaimsBack.{TakesNext, behind_inside, behind_outside}
use Rattle.converse_law.proofs.SimpleInside.{left_checks, store_checks, fits_left, fits_store}

-- The store behind a claim that is made, inside of a block or outside.

module _ (p : Program) (typed : WellTyped p) (f : FunctionInfo) (k : ℕ) (fis : slice_get p.functions.items k ≡ Some f) (at_ : MachineSpot) (thread : is_thread at_.context.me ≡ true) (a : Spot) (hid : ℕ → Bool) (e : Environment (language_of p) at_.context.me)
    (st : State) (g : Progress) (env : Env p f g.heap g.locals) (lists : ListedClosed (is_listed at_) g.heap) (here : At p f at_ a hid st g e) (number n : ℕ) (place : Tally) (chosen : at_.inside ≡ false → M.right_fits p (NewClaim number) at_.choices ≡ true)
    (size : (pl : walk.Place) → paths.checks (walk.right_side p a (NewClaim number) pl st).path ≡ right_checks p at_.inside (NewClaim number))
  where
    -- behind the store of what was made
    pub record AfterStore (Made : M.Valued → Type 0) (s : State) (g' : Progress) : Type 0 where
      pub mpl : M.Place
      pub value : M.Valued
      pub made : Made value
      pub quietly : Quietly p f at_ a hid s value.starting g' e
      pub heap_is : g'.heap ≡ M.stored_heap mpl value.value value.starting.heap

    module _ (pl : walk.Place) (Made : M.Valued → Type 0) where
      abbrev u : Execution ValueAndState
      u = walk.right_side p a (NewClaim number) pl st

      abbrev s : Execution State
      s = walk.store p a pl u.gives.value u.gives.state

      behind_stored : (mpl : M.Place) (n0 : ℕ) (vs : Values) → right_values p f k at_.inside (NewClaim number) ≡ Some vs
          → Behind (language_of p) at_.context.me e n0 u (M.right_side p at_ (NewClaim number) mpl n0 place g) Made
          → ((v : M.Valued) → Right p f at_ mpl vs g v → Made v → Behind (language_of p) at_.context.me e (n0 + right_checks p at_.inside (NewClaim number)) s (M.store p at_ mpl v.value (n0 + right_checks p at_.inside (NewClaim number)) v.starting) (λ g'. Quietly p f at_ a hid s.gives v.starting g' e))
          → Behind (language_of p) at_.context.me e n0 (after u (λ v. walk.store p a pl v.value v.state)) (m.after (M.right_side p at_ (NewClaim number) mpl n0 place g) (λ v. M.store p at_ mpl v.value (n0 + right_checks p at_.inside (NewClaim number)) v.starting)) (AfterStore Made s.gives)
      behind_stored mpl n0 vs is right stores =
          let L = language_of p in
          let t = at_.context.me in
          let o = M.right_side p at_ (NewClaim number) mpl n0 place g in
          let n1 = n0 + right_checks p at_.inside (NewClaim number) in
          behind_after L t e n0 n1 u (λ v. walk.store p a pl v.value v.state) o (λ v. M.store p at_ mpl v.value n1 v.starting) Made (AfterStore Made s.gives) (ap (λ j. n0 + j) (sym (size pl))) right (λ v came made.
          let may = on_gave o (Right p f at_ mpl vs g) v (right_gave p typed f at_ thread g env lists k fis (NewClaim number) vs mpl n0 place chosen is) came in
          behind_less L t e n1 s (M.store p at_ mpl v.value n1 v.starting) (λ g'. Quietly p f at_ a hid s.gives v.starting g' e) (AfterStore Made s.gives)
          (λ g' stored q. record { mpl = mpl; value = v; made = made; quietly = q; heap_is = (on_gave (M.store p at_ mpl v.value n1 v.starting) _ g' (store_heap p typed f at_ thread mpl v.value n1 v.starting) stored).0 }) (stores v may made))

    pub behind_local : (i : ℕ) (Made : M.Valued → Type 0) (told : (v : M.Valued) → Made v → Stands (language_of p) at_.context.me e (u (walk.InLocal i) Made).gives.value v.value × At p f at_ a hid (u (walk.InLocal i) Made).gives.state v.starting e)
        → takes p f (Local i) (right_values p f k at_.inside (NewClaim number)) ≡ true
        → Behind (language_of p) at_.context.me e (n + 0) (u (walk.InLocal i) Made) (M.right_side p at_ (NewClaim number) (M.InLocal i) (n + 0) place g) Made
        → Behind (language_of p) at_.context.me e n (walk.run_simple p a (Assign (Local i) (NewClaim number)) st) (M.run_simple p at_ (Assign (Local i) (NewClaim number)) n place g) (AfterStore Made (s (walk.InLocal i) Made).gives)
    behind_local i Made told ok right =
        let L = language_of p in
        let t = at_.context.me in
        let vs = takes_some p typed f at_ thread (Local i) (right_values p f k at_.inside (NewClaim number)) ok in
        let pl = walk.InLocal i in
        let n0 = n + 0 in
        let n1 = n0 + right_checks p at_.inside (NewClaim number) in
        let made = u pl Made in
        let last = s pl Made in
        let c = count_of made.gives.state in
        let run : M.Place → m.Outcome Progress = λ q. m.after (M.right_side p at_ (NewClaim number) q n0 place g) (λ v. M.store p at_ q v.value n1 v.starting) in
        behind_after L t e n n0 (Gives pl) (λ q. after (walk.right_side p a (NewClaim number) q st) (λ v. walk.store p a q v.value v.state)) (m.Gives (M.InLocal i)) run (λ q. M.InLocal i ≡ q) (AfterStore Made last.gives) refl (behind_gives L t e n pl (M.InLocal i) (λ q. M.InLocal i ≡ q) refl) (λ q came there.
        subst (λ (q : M.Place). Behind L t e n0 (after made (λ v. walk.store p a pl v.value v.state)) (run q) (AfterStore Made last.gives)) there
        (behind_stored pl Made (M.InLocal i) n0 vs.0 vs.1 right (λ v may done.
        let z = told v done in
        let Before : Environment L t → Type 0 = λ d. At p f at_ a hid made.gives.state v.starting d × Stands L t d made.gives.value v.value in
        behind_one L t e n1 c c last (M.store p at_ (M.InLocal i) v.value n1 v.starting) Before (λ g' d. Quietly p f at_ a hid last.gives v.starting g' d) (store_checks p a pl made.gives.value made.gives.state) (within_self c) (fits_store p at_ (M.InLocal i) v.value n1 v.starting)
        (beside_variable p f at_ a hid made.gives.state v.starting may.fine.ready n1 c i made.gives.value v.value Before (λ d b. b)) (z.1, z.0))))

    pub behind_field : (y : Expr) (x : ℕ) → Sees hid y → (Made : M.Valued → Type 0) (told : (v : M.Valued) → Made v → Stands (language_of p) at_.context.me e (u (walk.InField (term (code p a st y).gives) x) Made).gives.value v.value × At p f at_ a hid (u (walk.InField (term (code p a st y).gives) x) Made).gives.state v.starting e)
        → takes p f (FieldOf y x) (right_values p f k at_.inside (NewClaim number)) ≡ true
        → ((o : Ref) → Has (language_of p) at_.context.me e (term (code p a st y).gives) (Refers o) → Behind (language_of p) at_.context.me e (n + checks y) (u (walk.InField (term (code p a st y).gives) x) Made) (M.right_side p at_ (NewClaim number) (M.InField o x) (n + checks y) place g) Made)
        → Behind (language_of p) at_.context.me e n (walk.run_simple p a (Assign (FieldOf y x) (NewClaim number)) st) (M.run_simple p at_ (Assign (FieldOf y x) (NewClaim number)) n place g) (AfterStore Made (s (walk.InField (term (code p a st y).gives) x) Made).gives)
    behind_field y x sees Made told ok right =
        let L = language_of p in
        let t = at_.context.me in
        let vs = takes_some p typed f at_ thread (FieldOf y x) (right_values p f k at_.inside (NewClaim number)) ok in
        let may_take = test_some p f (values p f y) (λ v. field_takes p f (slice_get p.fields.items x) v (Some vs.0)) vs.2 in
        let i = field_takes_inversion p typed f at_ thread (slice_get p.fields.items x) may_take.0 vs.0 may_take.2 in
        let fit : FitsRef p f hid y = record { fits = record { values_are = may_take.0; typed = may_take.1; seen = sees }; refs = pointer_refs (λ j. j == i.0.of) may_take.0 i.2 } in
        let ty : type_of_field p x ≡ i.0.ty = ap field_type i.1 in
        let w = term (code p a st y).gives in
        let pl = walk.InField w x in
        let n0 = n + checks y in
        let n1 = n0 + right_checks p at_.inside (NewClaim number) in
        let made = u pl Made in
        let last = s pl Made in
        let c0 = count_of st in
        let c = count_of made.gives.state in
        let run : M.Place → m.Outcome Progress = λ q. m.after (M.right_side p at_ (NewClaim number) q n0 place g) (λ v. M.store p at_ q v.value n1 v.starting) in
        let Start : Environment L t → Type 0 = λ d. At p f at_ a hid st g d in
        let LeadsTo : M.Place → Environment L t → Type 0 = λ q d. Has L t d w (Refers (object_of q)) in
        behind_after L t e n n0 (walk.left_side p a (FieldOf y x) st) (λ q. after (walk.right_side p a (NewClaim number) q st) (λ v. walk.store p a q v.value v.state)) (M.left_side p at_ (FieldOf y x) n g) run (λ q. LeadsTo q e) (AfterStore Made last.gives) (ap (λ j. n + j) (sym (left_side_size p a (FieldOf y x) st)))
        (behind_one L t e n c0 c0 (walk.left_side p a (FieldOf y x) st) (M.left_side p at_ (FieldOf y x) n g) Start LeadsTo (left_checks p a (FieldOf y x) st) (within_self c0) (fits_left p at_ (FieldOf y x) n g)
        (beside_after L t n n0 c0 c0 c0 (code p a st y) (λ v. Gives (walk.InField (term v) x)) (eval p at_ g.heap g.locals y n) (λ v. m.Gives (M.InField (referent v) x)) Start (λ v d. Has L t d w (Refers (referent v))) LeadsTo (ap (λ j. n + j) (sym (code_size p a st y))) (within_self c0) (beside_ref p f at_ a hid st g env n c0 y fit Start (λ d b. b))
        (λ v came. beside_gives L t n0 c0 pl (M.InField (referent v) x) (λ d. Start d × Has L t d w (Refers (referent v))) LeadsTo (λ d z. z.1))) here) (λ q came has.
        let o = object_of q in
        subst (λ (q : M.Place). Behind L t e n0 (after made (λ v. walk.store p a pl v.value v.state)) (run q) (AfterStore Made last.gives)) (sym (field_place p at_ y x n g q came))
        (behind_stored pl Made (M.InField o x) n0 vs.0 vs.1 (right o has) (λ v may done.
        let z = told v done in
        let sort = subst (λ d. has_sort (sort_of_type d) v.value ≡ true) (sym ty) (typed_sorted i.0.ty v.value (to_type p vs.0 i.0.ty v.value i.3 may.value) (is_of_value p vs.0 v.value may.value)) in
        let Before : Environment L t → Type 0 = λ d. At p f at_ a hid made.gives.state v.starting d × Has L t d w (Refers o) × Has L t d (term made.gives.value) v.value × (has_sort (sort_of_type (type_of_field p x)) v.value ≡ true) in
        behind_one L t e n1 c c last (M.store p at_ (M.InField o x) v.value n1 v.starting) Before (λ g' d. Quietly p f at_ a hid last.gives v.starting g' d) (store_checks p a pl made.gives.value made.gives.state) (within_self c) (fits_store p at_ (M.InField o x) v.value n1 v.starting)
        (beside_field p f at_ a hid made.gives.state v.starting may.fine.ready n1 c w o x i.0 made.gives.value v.value Before i.1 (λ d b. b)) (z.1, has, stands_term L t e made.gives.value v.value z.0, sort))))

-- Inside of a block.

keeps_stored : (l : Language) (t : Ref) (mpl : M.Place) (v : Value) (h : Heap) → Keeps l t h (M.stored_heap mpl v h)
keeps_stored l t (M.InLocal i) v h = keeps_same l t h
keeps_stored l t (M.InField o y) v h = keeps_write l t h o y v

store_notes : (p : Program) (a : Spot) (pl : walk.Place) (w : Symbolic) (st : State) → (st.changed ≡ (walk.store p a pl w st).gives.changed) × (st.made ≡ (walk.store p a pl w st).gives.made)
store_notes p a (walk.InLocal i) w st = (refl, refl)
store_notes p a (walk.InField o y) w st = (refl, refl)

module _ (p : Program) (typed : WellTyped p) (f : FunctionInfo) (k : ℕ) (fis : slice_get p.functions.items k ≡ Some f) (x : Context) (thread : is_thread x.me ≡ true) (os : List Ref) (a0 : Spot) (hid : ℕ → Bool) (e : Environment (language_of p) x.me)
    (line n : ℕ) (place : Tally) (number : ℕ) (st : State) (g : Progress) (env : Env p f g.heap g.locals) (lists : ListedClosed (λ o. is_in o os) g.heap) (takes_next : TakesNext p x.me e st g) (here : inner.Here p typed f k fis x thread os a0 hid 0 st g e)
  where
    abbrev within : Spot
    within = record a0 { inside = true }

    abbrev within_at : MachineSpot
    within_at = inner_spot p x os line

    here_now : At p f within_at within hid st g e
    here_now = record { spot = here.spot; many = here.many; heap = here.heap; locals = here.locals }

    never_outside : true ≡ false → M.right_fits p (NewClaim number) [] ≡ true
    never_outside out = absurd (true≢false out)

    within_size : (pl : walk.Place) → paths.checks (walk.right_side p within (NewClaim number) pl st).path ≡ right_checks p true (NewClaim number)
    within_size pl = right_side_size p true a0 (NewClaim number) pl st

    abbrev right_in : walk.Place → Execution ValueAndState
    right_in pl = walk.right_side p within (NewClaim number) pl st

    abbrev store_in : walk.Place → Execution State
    store_in pl = walk.store p within pl (right_in pl).gives.value (right_in pl).gives.state

    abbrev MadeIn : walk.Place → M.Valued → Type 0
    MadeIn pl v = Worth p typed f k fis x thread os a0 hid place (right_tally p (NewClaim number)) st g line (right_in pl).gives v e

    abbrev DoneIn : walk.Place → Progress → Type 0
    DoneIn pl g' = inner.Done p typed f k fis x thread os a0 hid place (right_tally p (NewClaim number)) st (store_in pl).gives g g' e

    told_in : (pl : walk.Place) (v : M.Valued) → MadeIn pl v → Stands (language_of p) x.me e (right_in pl).gives.value v.value × At p f within_at within hid (right_in pl).gives.state v.starting e
    told_in pl v z = (z.value, z.here)

    noted : (pl : walk.Place) (g' : Progress) → AfterStore p typed f k fis within_at thread within hid e st g env lists here_now number n place never_outside within_size (MadeIn pl) (store_in pl).gives g' → DoneIn pl g'
    noted pl g' z =
        let notes = store_notes p within pl (right_in pl).gives.value (right_in pl).gives.state in
        let q = z.quietly in
        let w = q.0 in
        (record { spot = w.spot; many = w.many; heap = w.heap; locals = w.locals }, adds_still (language_of p) x.me place (right_tally p (NewClaim number)) st (right_in pl).gives.state (store_in pl).gives g z.value.starting g' e (subst (λ (h : Heap). Keeps (language_of p) x.me z.value.starting.heap h) (sym z.heap_is) (keeps_stored (language_of p) x.me z.mpl z.value.value z.value.starting.heap)) notes.0 notes.1 q.1 q.2 z.made.adds)

    pub behind_claim : (z : Target) → takes p f z (right_values p f k true (NewClaim number)) ≡ true → SeesTarget hid z → SeesSite hid (slice_get p.sites.items number)
        → Behind (language_of p) x.me e n (walk.run_simple p within (Assign z (NewClaim number)) st) (M.run_simple p within_at (Assign z (NewClaim number)) n place g) (λ g'. inner.Done p typed f k fis x thread os a0 hid place (simple_tally p (Assign z (NewClaim number))) st (walk.run_simple p within (Assign z (NewClaim number)) st).gives g g' e)
    behind_claim (Local i) ok sees_z sees =
        let vs = takes_some p typed f within_at thread (Local i) (right_values p f k true (NewClaim number)) ok in
        let pl = walk.InLocal i in
        behind_less (language_of p) x.me e n (walk.run_simple p within (Assign (Local i) (NewClaim number)) st) (M.run_simple p within_at (Assign (Local i) (NewClaim number)) n place g) _ (DoneIn pl) (λ g' came z. noted pl g' z)
        (behind_local p typed f k fis within_at thread within hid e st g env lists here_now number n place never_outside within_size i (MadeIn pl) (told_in pl) ok (behind_inside p typed f k fis x thread os a0 hid e line (n + 0) place number pl (M.InLocal i) st g env lists here_now takes_next vs.0 vs.1 sees))
    behind_claim (FieldOf y c) ok sees_z sees =
        let vs = takes_some p typed f within_at thread (FieldOf y c) (right_values p f k true (NewClaim number)) ok in
        let pl = walk.InField (term (code p within st y).gives) c in
        behind_less (language_of p) x.me e n (walk.run_simple p within (Assign (FieldOf y c) (NewClaim number)) st) (M.run_simple p within_at (Assign (FieldOf y c) (NewClaim number)) n place g) _ (DoneIn pl) (λ g' came z. noted pl g' z)
        (behind_field p typed f k fis within_at thread within hid e st g env lists here_now number n place never_outside within_size y c sees_z (MadeIn pl) (told_in pl) ok (λ o has. behind_inside p typed f k fis x thread os a0 hid e line (n + checks y) place number pl (M.InField o c) st g env lists here_now takes_next vs.0 vs.1 sees))

-- Outside.

module _ (p : Program) (typed : WellTyped p) (f : FunctionInfo) (x : Context) (fis : slice_get p.functions.items x.function ≡ Some f) (thread : is_thread x.me ≡ true) (a0 : Spot) (hid : ℕ → Bool)
    (is_inv : InvIs p x.me) (is_entry_true : EntryTrueIs p x.me) (line : ℕ) (e : Environment (language_of p) x.me)
    (n number : ℕ) (st : State) (g : Progress) (env : Env p f g.heap g.locals) (takes_next : TakesNext p x.me e st g) (here : At p f (spot x [] line) (record a0 { inside = false }) hid st g e) (sees : SeesSite hid (slice_get p.sites.items number))
  where
    abbrev k : ℕ
    k = x.function

    abbrev outer : Spot
    outer = record a0 { inside = false }

    abbrev outer_at : MachineSpot
    outer_at = spot x [] line

    none_listed : (h : Heap) → ListedClosed (is_listed outer_at) h
    none_listed h o i c = absurd (cc)

    outer_size : (pl : walk.Place) → paths.checks (walk.right_side p outer (NewClaim number) pl st).path ≡ right_checks p false (NewClaim number)
    outer_size pl = right_side_size p false a0 (NewClaim number) pl st

    abbrev right_out : walk.Place → Execution ValueAndState
    right_out pl = walk.right_side p outer (NewClaim number) pl st

    abbrev store_out : walk.Place → Execution State
    store_out pl = walk.store p outer pl (right_out pl).gives.value (right_out pl).gives.state

    abbrev MadeOut : walk.Place → M.Valued → Type 0
    MadeOut pl v = Stands (language_of p) x.me e (right_out pl).gives.value v.value × At p f outer_at outer hid (right_out pl).gives.state v.starting e

    abbrev Ended : Progress → walk.Place → Type 0
    Ended g' pl = At p f outer_at outer hid (store_out pl).gives g' e

    -- the claim of a variable
    in_local : (i n0 : ℕ) (vs : Values) → right_values p f k false (NewClaim number) ≡ Some vs → Behind (language_of p) x.me e n0 (right_out (walk.InLocal i)) (M.right_side p outer_at (NewClaim number) (M.InLocal i) n0 no_tally g) (MadeOut (walk.InLocal i))
    in_local i n0 vs is = behind_outside p typed f x fis thread a0 hid is_inv is_entry_true line [] e n0 no_tally number (walk.InLocal i) (M.InLocal i) st g env here takes_next (λ c y r j claim hc hy. hy) (λ r j claim pj. near_of pj) vs is sees

    pub behind_definition : (i : ℕ) (hid' : ℕ → Bool) → ((j : ℕ) → (j ≡ i → ⊥) → hid' j ≡ false → hid j ≡ false) → takes p f (Local i) (right_values p f k false (NewClaim number)) ≡ true
        → Behind (language_of p) x.me e n (after (right_out (walk.InLocal i)) (λ v. Gives (put_local i v))) (m.after (M.right_side p outer_at (NewClaim number) (M.InLocal i) n no_tally g) (λ v. M.store p outer_at (M.InLocal i) v.value (n + right_checks p false (NewClaim number)) v.starting)) (λ g'. At p f outer_at outer hid' (put_local i (right_out (walk.InLocal i)).gives) g' e)
    behind_definition i hid' less ok =
        let L = language_of p in
        let t = x.me in
        let vs = takes_some p typed f outer_at thread (Local i) (right_values p f k false (NewClaim number)) ok in
        let pl = walk.InLocal i in
        let made = (right_out pl).gives in
        let n1 = n + right_checks p false (NewClaim number) in
        behind_after L t e n n1 (right_out pl) (λ v. Gives (put_local i v)) (M.right_side p outer_at (NewClaim number) (M.InLocal i) n no_tally g) (λ v. M.store p outer_at (M.InLocal i) v.value n1 v.starting) (MadeOut pl) (λ g'. At p f outer_at outer hid' (put_local i made) g' e) (ap (λ j. n + j) (sym (outer_size pl))) (in_local i n vs.0 vs.1) (λ v came z.
        behind_gives L t e n1 (put_local i made) (record v.starting { locals = slice_set v.starting.locals i v.value }) (λ g'. At p f outer_at outer hid' (put_local i made) g' e) (record {
          spot = z.1.spot;
          many = terms_many made.state.locals i made.value ∙ z.1.many ∙ sym (length-set v.starting.locals i v.value);
          heap = z.1.heap;
          locals = shown_set L t e hid hid' i made.state.locals made.value v.starting.locals v.value less z.1.many z.0 z.1.locals;
        }))

    claim_ints : (o : Option ClaimSite) (vs : Values) → and_then o (λ site. only_if (site.function == k) (Refs Claim)) ≡ Some vs → are_ints vs ≡ false
    claim_ints None vs y = absurd (cc)
    claim_ints (Some site) vs y = ap are_ints (sym (only_if_some (site.function == k) (Refs Claim) vs y).1)

    claim_named : (r : Ref) → is_claim r ≡ true → is_reference r ≡ true
    claim_named r y = ap (λ (i : ℕ). not (i == 0) || (r.serial == 0)) (eqb-true r.ty 2 y)

    pub behind_assignment : (z : Target) → takes p f z (right_values p f k false (NewClaim number)) ≡ true → SeesTarget hid z
        → Behind (language_of p) x.me e n (walk.run_simple p outer (Assign z (NewClaim number)) st) (M.run_simple p outer_at (Assign z (NewClaim number)) n no_tally g) (λ g'. At p f outer_at outer hid (walk.run_simple p outer (Assign z (NewClaim number)) st).gives g' e)
    behind_assignment (Local i) ok sees_z =
        let vs = takes_some p typed f outer_at thread (Local i) (right_values p f k false (NewClaim number)) ok in
        let pl = walk.InLocal i in
        behind_less (language_of p) x.me e n (walk.run_simple p outer (Assign (Local i) (NewClaim number)) st) (M.run_simple p outer_at (Assign (Local i) (NewClaim number)) n no_tally g) _ (λ g'. Ended g' pl) (λ g' came z. z.quietly.0)
        (behind_local p typed f k fis outer_at thread outer hid e st g env (none_listed g.heap) here number n no_tally (λ out. refl) outer_size i (MadeOut pl) (λ v z. z) ok (in_local i (n + 0) vs.0 vs.1))
    behind_assignment (FieldOf y c) ok sees_z =
        let L = language_of p in
        let t = x.me in
        let vs = takes_some p typed f outer_at thread (FieldOf y c) (right_values p f k false (NewClaim number)) ok in
        let may_take = test_some p f (values p f y) (λ v. field_takes p f (slice_get p.fields.items c) v (Some vs.0)) vs.2 in
        let i = field_takes_inversion p typed f outer_at thread (slice_get p.fields.items c) may_take.0 vs.0 may_take.2 in
        let ty : type_of_field p c ≡ i.0.ty = ap field_type i.1 in
        let sort : (r : Ref) → is_claim r ≡ true → has_sort (sort_of_type (type_of_field p c)) (Refers r) ≡ true = λ r claim. subst (λ d. has_sort (sort_of_type d) (Refers r) ≡ true) (sym ty) (reference_sort i.0.ty (sym (fits_sort vs.0 i.0.ty i.3) ∙ claim_ints (slice_get p.sites.items number) vs.0 vs.1) r (claim_named r claim)) in
        let w = term (code p outer st y).gives in
        let pl = walk.InField w c in
        behind_less L t e n (walk.run_simple p outer (Assign (FieldOf y c) (NewClaim number)) st) (M.run_simple p outer_at (Assign (FieldOf y c) (NewClaim number)) n no_tally g) _ (λ g'. Ended g' pl) (λ g' came z. z.quietly.0)
        (behind_field p typed f k fis outer_at thread outer hid e st g env (none_listed g.heap) here number n no_tally (λ out. refl) outer_size y c sees_z (MadeOut pl) (λ v z. z) ok (λ o has.
        behind_outside p typed f x fis thread a0 hid is_inv is_entry_true line [] e (n + checks y) no_tally number pl (M.InField o c) st g env here takes_next
        (λ d y0 r j claim hc hy. set_field L t e y0 j w o hy has c i.0 d (Refers r) i.1 (sort r claim) hc) (λ r j claim pj. near_write p j o c (Refers r) pj (sort r claim)) vs.0 vs.1 sees))
