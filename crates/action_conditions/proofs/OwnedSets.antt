-- Owned sets changed outside atomic blocks, in the run and on the path.
use Rattle.std.proofs.Common.{◌≡◌, ℕ, ◌+◌, Bool, true, false, if◌then◌else◌, List, [], ◌∷◌, ◌++◌, map, length, pos, refl, ap, sym, ◌∙◌, subst}
use Rattle.object_types.specs.declared.references.Ref.{Ref}
use Rattle.object_types.specs.declared.values.Value.{Value}
use Rattle.object_types.specs.declared.values.Value.TheVariants.{Int, Ref as Refers}
use Rattle.object_types.specs.References.{is_thread}
use Rattle.object_types.specs.Values.{referent, says}
use Rattle.object_types.specs.Sets.{set_of}
use Rattle.object_types.specs.Heap.{Heap, put, with_owned, mutable, writable}
use Rattle.method.specs.declared.program.CheckKind.TheVariants.{Write, Writes}
use Rattle.method.specs.declared.program.Expr.{Expr}
use Rattle.method.specs.declared.program.OwnsChange.{OwnsChange}
use Rattle.method.specs.declared.program.OwnsChange.TheVariants.{Assigned, Added, Removed}
use Rattle.method.specs.declared.program.FunctionInfo.{FunctionInfo}
use Rattle.method.specs.declared.program.Program.{Program}
use Rattle.method.specs.Tables.{local}
use Rattle.method.specs.Typing.{WellTyped}
use Rattle.method.specs.Expressions.{Spot as MachineSpot, Outcome, Gives as MachineGives, may_write, check, checks, all_checks, eval, eval_all}
use Rattle.method.specs.Expressions as x
use Rattle.method.specs.Actions.{Progress}
use Rattle.method.specs.Actions as m
use Rattle.machine_laws.proofs.Typed.{Env}
use Rattle.terms.specs.Formula.{Formula}
use Rattle.term_meaning.specs.Columns.{OwnedSets}
use Rattle.term_meaning.specs.RawHeaps.{raw, store_at, MemberAt}
use Rattle.term_meaning.specs.Meaning.{Language, HeapValue}
use Rattle.term_meaning.proofs.Changes.{owned_stored}
use Rattle.axiom_instances.proofs.Kit as kit
use Rattle.axiom_instances.proofs.Kit.{one}
use Rattle.axiom_instances.proofs.Maps.{set_has}
use Rattle.conditions.specs.Formulas.{nat, set, owned_column}
use Rattle.conditions.specs.Symbolic.{term}
use Rattle.conditions.specs.Paths.{Done, Check, Execution, after, sequence}
use Rattle.conditions.specs.Code.{Spot, State, code, all_code}
use Rattle.conditions.specs.Code as code
use Rattle.conditions.specs.Actions as p
use Rattle.conditions.proofs.FromRuns.{Count, count_of}
use Rattle.conditions.proofs.Tests.{Ends, at_place, nothing_behind, plain, tests, tests_many, ends_after, ends_eval, ends_next}
use Rattle.conditions.proofs.PathTests.{Tested, tested_done, tested_check, tested_joined}
use Rattle.condition_meaning.proofs.Environments.{Environment, Has, Is, HeapIs, has_int}
use Rattle.action_conditions.proofs.Words.{Refer, is_mutable, is_writable}
use Rattle.action_conditions.proofs.Places.{FitsRef, ShownAt, SpotIs}
use Rattle.action_conditions.proofs.Stores.{code_refers, code_tested}
use Rattle.action_conditions.proofs.Alone.{Alone}
use Rattle.action_conditions.proofs.Objects.{Here, within_self}
use Rattle.action_conditions.proofs.Wraps.{members_has}
use Rattle.conditions.proofs.Ways.{length_both}

-- One of two ways.

else_is : {A : Type 0} (b : Bool) (y z : A) → b ≡ false → (if b then y else z) ≡ z
else_is true y z h = absurd (cc)
else_is false y z h = refl

either_count : (b : Bool) (y z : Execution State) (c : Count) → c ≡ count_of y.gives → c ≡ count_of z.gives → c ≡ count_of (if b then y else z).gives
either_count true y z c i j = i
either_count false y z c i j = j

either_locals : (b : Bool) (y z : Execution State) (ws : _) → y.gives.locals ≡ ws → z.gives.locals ≡ ws → (if b then y else z).gives.locals ≡ ws
either_locals true y z ws i j = i
either_locals false y z ws i j = j

-- One member more or less.
abbrev IsOne : OwnsChange → Type 0
IsOne Assigned = ⊥
IsOne Added = Unit {0}
IsOne Removed = Unit {0}

abbrev is_added : OwnsChange → Bool
is_added Assigned = false
is_added Added = true
is_added Removed = false

abbrev changed : OwnsChange → Heap → Ref → Ref → Heap
changed c h o q = put h o (with_owned q (is_added c) (h.get o))

abbrev all_changed : OwnsChange → Heap → Ref → List Ref → Heap
all_changed c h o [] = h
all_changed c h o (q ∷ qs) = all_changed c (changed c h o q) o qs

module _ (q : Program) (a : Spot) where
  member_count : (c : OwnsChange) (o w : Formula) (st : State) → count_of st ≡ count_of (p.member_change q a c o w st).gives
  member_count Assigned o w st = refl
  member_count Added o w st = either_count a.inside _ _ (count_of st) refl refl
  member_count Removed o w st = either_count a.inside _ _ (count_of st) refl refl

  member_locals : (c : OwnsChange) (o w : Formula) (st : State) → (p.member_change q a c o w st).gives.locals ≡ st.locals
  member_locals Assigned o w st = refl
  member_locals Added o w st = either_locals a.inside _ _ st.locals refl refl
  member_locals Removed o w st = either_locals a.inside _ _ st.locals refl refl

  members_count : (c : OwnsChange) (o : Formula) (ws : List Formula) (st : State) → count_of st ≡ count_of (p.members_change q a c o ws st).gives
  members_count c o [] st = refl
  members_count c o (w ∷ ws) st = member_count c o w st ∙ members_count c o ws (p.member_change q a c o w st).gives

  members_locals : (c : OwnsChange) (o : Formula) (ws : List Formula) (st : State) → (p.members_change q a c o ws st).gives.locals ≡ st.locals
  members_locals c o [] st = refl
  members_locals c o (w ∷ ws) st = members_locals c o ws (p.member_change q a c o w st).gives ∙ member_locals c o w st

module _ (q : Program) (at_ : MachineSpot) (out : at_.inside ≡ false) where
  abbrev may_change : Heap → Ref → List Bool
  may_change h o = mutable at_.context.me h o ∷ may_write at_ o ∷ []

  ends_member : (c : OwnsChange) → IsOne c → (o w : Ref) (n : ℕ) (g : Progress) → Ends (may_change g.heap o) n (m.heap_of g (changed c g.heap o w)) (m.member_change q at_ c o w n g)
  ends_member Assigned i o w n g = absurd i
  ends_member Added i o w n g = subst (λ (z : Outcome Progress). Ends (may_change g.heap o) n (m.heap_of g (changed Added g.heap o w)) z) (sym (else_is at_.inside _ _ out)) (ends_next at_ (mutable at_.context.me g.heap o) (may_write at_ o) n Write Writes (m.heap_of g (changed Added g.heap o w)))
  ends_member Removed i o w n g = subst (λ (z : Outcome Progress). Ends (may_change g.heap o) n (m.heap_of g (changed Removed g.heap o w)) z) (sym (else_is at_.inside _ _ out)) (ends_next at_ (mutable at_.context.me g.heap o) (may_write at_ o) n Write Writes (m.heap_of g (changed Removed g.heap o w)))

  abbrev members_tests : OwnsChange → Ref → List Value → Heap → List Bool
  members_tests c o [] h = []
  members_tests c o (v ∷ vs) h = may_change h o ++ members_tests c o vs (changed c h o (referent v))

  ends_members : (c : OwnsChange) → IsOne c → (o : Ref) (vs : List Value) (n : ℕ) (g : Progress) → Ends (members_tests c o vs g.heap) n (m.heap_of g (all_changed c g.heap o (map referent vs))) (m.members_change q at_ c o vs n g)
  ends_members c i o [] n g = refl
  ends_members c i o (v ∷ vs) n g =
      ends_after (may_change g.heap o) (members_tests c o vs (changed c g.heap o (referent v))) n (m.heap_of g (changed c g.heap o (referent v))) (m.heap_of g (all_changed c g.heap o (map referent (v ∷ vs)))) (m.member_change q at_ c o (referent v) n g) (λ g'. m.members_change q at_ c o vs (n + 2) g') (ends_member c i o (referent v) n g)
      (ends_members c i o vs (n + 2) (m.heap_of g (changed c g.heap o (referent v))))

-- In one environment, from any heap on.
module _ (l : Language) (t : Ref) (a : Spot) (at_ : MachineSpot) (mine : at_.context.me ≡ t) (out : at_.inside ≡ false) (e : Environment l t) (spot : SpotIs l t a at_.context at_.inside at_.listed e) where
  abbrev P : Program
  P = l.program

  out_spot : a.inside ≡ false
  out_spot = spot.inside_is ∙ out

  may_change_told : (st : State) (h : Heap) → HeapIs l t e st.heap h → (o : Formula) (r : Ref) → Has l t e o (Refers r) → Tested (Is l t e) (Check (code.mutable st o) (Check (code.writable P a o) Done)) (may_change P at_ out h r)
  may_change_told st h hx o r ho =
      tested_check (Is l t e) (code.mutable st o) (mutable at_.context.me h r) (Check (code.writable P a o) Done) (may_write at_ r ∷ []) tt (subst (λ w. Is l t e (code.mutable st o) (mutable w h r)) (sym mine) (is_mutable l t e st.heap h hx o r ho)) (λ b.
      tested_check (Is l t e) (code.writable P a o) (may_write at_ r) Done [] tt (subst (λ w. Is l t e (code.writable P a o) (writable w at_.context.entry at_.context.writes r)) (sym mine) (is_writable l t e a.entry at_.context.entry spot.entry o r ho a.writes at_.context.writes spot.writes)) (λ c. tested_done (Is l t e)))

  member_has : (b : Bool) (n : ℕ) → Int (pos n) ≡ says b → (y o w : Formula) (h : Heap) (r q : Ref) → HeapIs l t e y h → Has l t e o (Refers r) → Has l t e w (Refers q) → HeapIs l t e (set owned_column y (o ∷ w ∷ []) (nat n)) (put h r (with_owned q b (h.get r)))
  member_has b n same y o w h r q hy ho hw =
      subst (λ z. kit.Has l e.env (set owned_column y (o ∷ w ∷ []) (nat n)) (HeapValue z)) (ap (store_at (raw P h) (MemberAt q) r) same ∙ sym (owned_stored P h r q b)) (set_has (w ∷ []) OwnedSets refl hy ho (one hw) (has_int l t e (pos n)))

  member_told : (c : OwnsChange) → IsOne c → (st : State) (h : Heap) → HeapIs l t e st.heap h → (o w : Formula) (r q : Ref) → Has l t e o (Refers r) → Has l t e w (Refers q) → Tested (Is l t e) (p.member_change P a c o w st).path (may_change P at_ out h r) × HeapIs l t e (p.member_change P a c o w st).gives.heap (changed c h r q)
  member_told Assigned i st h hx o w r q ho hw = absurd i
  member_told Added i st h hx o w r q ho hw =
      subst (λ (z : Execution State). Tested (Is l t e) z.path (may_change P at_ out h r) × HeapIs l t e z.gives.heap (changed Added h r q)) (sym (else_is a.inside _ _ out_spot)) (may_change_told st h hx o r ho, member_has true 1 refl st.heap o w h r q hx ho hw)
  member_told Removed i st h hx o w r q ho hw =
      subst (λ (z : Execution State). Tested (Is l t e) z.path (may_change P at_ out h r) × HeapIs l t e z.gives.heap (changed Removed h r q)) (sym (else_is a.inside _ _ out_spot)) (may_change_told st h hx o r ho, member_has false 0 refl st.heap o w h r q hx ho hw)

  members_told : (c : OwnsChange) → IsOne c → (ws : List Formula) (vs : List Value) (st : State) (h : Heap) → HeapIs l t e st.heap h → (o : Formula) (r : Ref) → Has l t e o (Refers r) → Refer l t e ws (map referent vs) → Tested (Is l t e) (p.members_change P a c o ws st).path (members_tests P at_ out c r vs h) × HeapIs l t e (p.members_change P a c o ws st).gives.heap (all_changed c h r (map referent vs))
  members_told c i [] [] st h hx o r ho k = (tested_done (Is l t e), hx)
  members_told c i [] (v ∷ vs) st h hx o r ho k = absurd k
  members_told c i (w ∷ ws) [] st h hx o r ho k = absurd k
  members_told c i (w ∷ ws) (v ∷ vs) st h hx o r ho k =
      let one = member_told c i st h hx o w r (referent v) ho k.0 in
      let rest = members_told c i ws vs (p.member_change P a c o w st).gives (changed c h r (referent v)) one.1 o r ho k.1 in
      (tested_joined (Is l t e) (p.member_change P a c o w st).path (p.members_change P a c o ws (p.member_change P a c o w st).gives).path (may_change P at_ out h r) (members_tests P at_ out c r vs (changed c h r (referent v))) rest.0.only_checks one.0 (λ b. rest.0), rest.1)

module _ (l : Language) (typed : WellTyped l.program) (t : Ref) (f : FunctionInfo) (a : Spot) (at_ : MachineSpot) (mine : at_.context.me ≡ t) (thread : is_thread at_.context.me ≡ true) (out : at_.inside ≡ false) (hid : ℕ → Bool) (st : State) (g : Progress) (env : Env l.program f g.heap g.locals) where
  abbrev Q : Program
  Q = l.program

  abbrev V : Expr → Value
  V = plain Q at_ g.heap g.locals

  abbrev B : Expr → List Bool
  B = tests Q at_ g.heap g.locals

  abbrev HereIn : Environment l t → Type 0
  HereIn = Here l typed t f a at_ mine thread out hid st g env

  -- Several expressions, each of which comes to a reference.
  abbrev pub AllFit : List Expr → Type 0
  AllFit [] = Unit {0}
  AllFit (y ∷ ys) = FitsRef Q f hid y × AllFit ys

  -- the tests of several expressions
  abbrev pub all_tests : List Expr → List Bool
  all_tests [] = []
  all_tests (y ∷ ys) = B y ++ (all_tests ys ++ [])

  pub all_many : (ys : List Expr) → length (all_tests ys) ≡ all_checks ys
  all_many [] = refl
  all_many (y ∷ ys) = length_both (B y) (all_tests ys ++ []) ∙ ap (λ n. length (B y) + n) (ap length (nothing_behind (all_tests ys)) ∙ all_many ys) ∙ ap (λ n. n + all_checks ys) (tests_many Q at_ g.heap g.locals y)

  pub ends_all_eval : (ys : List Expr) (n : ℕ) → Ends (all_tests ys) n (map V ys) (eval_all Q at_ g.heap g.locals ys n)
  ends_all_eval [] n = refl
  ends_all_eval (y ∷ ys) n =
      ends_after (B y) (all_tests ys ++ []) n (V y) (map V (y ∷ ys)) (eval Q at_ g.heap g.locals y n) (λ v. x.after (eval_all Q at_ g.heap g.locals ys (n + checks y)) (λ vs. MachineGives (v ∷ vs))) (ends_eval Q at_ g.heap g.locals y n)
      (at_place (all_tests ys ++ []) (n + checks y) (n + length (B y)) (map V (y ∷ ys)) (x.after (eval_all Q at_ g.heap g.locals ys (n + checks y)) (λ vs. MachineGives (V y ∷ vs))) (ap (λ j. n + j) (sym (tests_many Q at_ g.heap g.locals y)))
      (ends_after (all_tests ys) [] (n + checks y) (map V ys) (map V (y ∷ ys)) (eval_all Q at_ g.heap g.locals ys (n + checks y)) (λ vs. MachineGives (V y ∷ vs)) (ends_all_eval ys (n + checks y)) refl))

  pub all_tested : (ys : List Expr) → AllFit ys → (e : Environment l t) → HereIn e → Tested (Is l t e) (all_code Q a st ys).path (all_tests ys) × Refer l t e (all_code Q a st ys).gives (map referent (map V ys))
  all_tested [] fits e s = (tested_done (Is l t e), tt)
  all_tested (y ∷ ys) fits e s =
      let rest = all_tested ys fits.1 e s in
      let more = tested_joined (Is l t e) (all_code Q a st ys).path Done (all_tests ys) [] tt rest.0 (λ b. tested_done (Is l t e)) in
      (tested_joined (Is l t e) (code Q a st y).path (sequence (all_code Q a st ys).path Done) (B y) (all_tests ys ++ []) more.only_checks (code_tested l typed t f a at_ mine thread out hid e st g env s y fits.0.fits) (λ b. more), (code_refers l typed t f a at_ mine thread out hid e st g env s y fits.0, rest.1))

  -- What a change of an owned set comes to.
  abbrev owned_tests : OwnsChange → Ref → List Value → List Bool
  owned_tests Assigned o vs = may_change Q at_ out g.heap o
  owned_tests Added o vs = members_tests Q at_ out Added o vs g.heap
  owned_tests Removed o vs = members_tests Q at_ out Removed o vs g.heap

  abbrev owned_heap : OwnsChange → Ref → List Value → Heap
  owned_heap Assigned o vs = put g.heap o (record (g.heap.get o) { owned = set_of (map referent vs) })
  owned_heap Added o vs = all_changed Added g.heap o (map referent vs)
  owned_heap Removed o vs = all_changed Removed g.heap o (map referent vs)

  ends_owned : (c : OwnsChange) (o : Ref) (vs : List Value) (n : ℕ) → Ends (owned_tests c o vs) n (m.heap_of g (owned_heap c o vs)) (m.owned_change Q at_ c o vs n g)
  ends_owned Assigned o vs n = ends_next at_ (mutable at_.context.me g.heap o) (may_write at_ o) n Write Writes (m.heap_of g (owned_heap Assigned o vs))
  ends_owned Added o vs n = ends_members Q at_ out Added tt o vs n g
  ends_owned Removed o vs n = ends_members Q at_ out Removed tt o vs n g

  owned_told : (c : OwnsChange) (e : Environment l t) → HereIn e → (o : Formula) (r : Ref) (ws : List Formula) (vs : List Value) → Has l t e o (Refers r) → Refer l t e ws (map referent vs) → Tested (Is l t e) (p.owned_change Q a c o ws st).path (owned_tests c r vs) × HeapIs l t e (p.owned_change Q a c o ws st).gives.heap (owned_heap c r vs)
  owned_told Assigned e s o r ws vs ho k = (may_change_told l t a at_ mine out e s.spot st g.heap s.heap o r ho, members_has l t e st.heap o g.heap r ws (map referent vs) s.heap ho k)
  owned_told Added e s o r ws vs ho k = members_told l t a at_ mine out e s.spot Added tt ws vs st g.heap s.heap o r ho k
  owned_told Removed e s o r ws vs ho k = members_told l t a at_ mine out e s.spot Removed tt ws vs st g.heap s.heap o r ho k

  owned_count : (c : OwnsChange) (o : Formula) (ws : List Formula) → count_of st ≡ count_of (p.owned_change Q a c o ws st).gives
  owned_count Assigned o ws = refl
  owned_count Added o ws = members_count Q a Added o ws st
  owned_count Removed o ws = members_count Q a Removed o ws st

  owned_locals : (c : OwnsChange) (o : Formula) (ws : List Formula) → (p.owned_change Q a c o ws st).gives.locals ≡ st.locals
  owned_locals Assigned o ws = refl
  owned_locals Added o ws = members_locals Q a Added o ws st
  owned_locals Removed o ws = members_locals Q a Removed o ws st

  pub owns_alone : (c : OwnsChange) (y : Expr) (ys : List Expr) → FitsRef Q f hid y → AllFit ys → (n : ℕ)
      → Alone l t a at_ hid hid n (x.after (eval Q at_ g.heap g.locals y n) (λ o. x.after (eval_all Q at_ g.heap g.locals ys (n + checks y)) (λ vs. m.owned_change Q at_ c (referent o) vs (n + checks y + all_checks ys) g))) st g.heap g.locals (after (code Q a st y) (λ o. after (all_code Q a st ys) (λ qs. p.owned_change Q a c (term o) qs st)))
  owns_alone c y ys fits fit n =
      let o = referent (V y) in
      let w = term (code Q a st y).gives in
      let ws = (all_code Q a st ys).gives in
      let vs = map V ys in
      let k = owned_tests c o vs in
      let done = m.heap_of g (owned_heap c o vs) in
      record {
        passed = B y ++ (all_tests ys ++ k);
        result = done;
        ends =
            ends_after (B y) (all_tests ys ++ k) n (V y) done (eval Q at_ g.heap g.locals y n) (λ o. x.after (eval_all Q at_ g.heap g.locals ys (n + checks y)) (λ vs. m.owned_change Q at_ c (referent o) vs (n + checks y + all_checks ys) g)) (ends_eval Q at_ g.heap g.locals y n)
            (at_place (all_tests ys ++ k) (n + checks y) (n + length (B y)) done (x.after (eval_all Q at_ g.heap g.locals ys (n + checks y)) (λ vs. m.owned_change Q at_ c o vs (n + checks y + all_checks ys) g)) (ap (λ j. n + j) (sym (tests_many Q at_ g.heap g.locals y)))
            (ends_after (all_tests ys) k (n + checks y) vs done (eval_all Q at_ g.heap g.locals ys (n + checks y)) (λ vs. m.owned_change Q at_ c o vs (n + checks y + all_checks ys) g) (ends_all_eval ys (n + checks y))
            (at_place k (n + checks y + all_checks ys) (n + checks y + length (all_tests ys)) done (m.owned_change Q at_ c o vs (n + checks y + all_checks ys) g) (ap (λ j. n + checks y + j) (sym (all_many ys))) (ends_owned c o vs (n + checks y + all_checks ys)))));
        within = within_self st (p.owned_change Q a c w ws st).gives (owned_count c w ws);
        tested = λ e s.
            let ho = code_refers l typed t f a at_ mine thread out hid e st g env s y fits in
            let rest = all_tested ys fit e s in
            let last = (owned_told c e s w o ws vs ho rest.1).0 in
            let more = tested_joined (Is l t e) (all_code Q a st ys).path (p.owned_change Q a c w ws st).path (all_tests ys) k last.only_checks rest.0 (λ b. last) in
            tested_joined (Is l t e) (code Q a st y).path _ (B y) (all_tests ys ++ k) more.only_checks (code_tested l typed t f a at_ mine thread out hid e st g env s y fits.fits) (λ b. more);
        stated = λ e s b.
            let ho = code_refers l typed t f a at_ mine thread out hid e st g env s y fits in
            record {
              spot = s.spot;
              many = ap length (owned_locals c w ws) ∙ s.many;
              heap = (owned_told c e s w o ws vs ho (all_tested ys fit e s).1).1;
              locals = subst (λ us. ShownAt l t hid e 0 us (local g.locals)) (sym (owned_locals c w ws)) s.locals;
            };
      }
