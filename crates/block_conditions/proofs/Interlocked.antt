-- Right sides of Interlocked calls and of computed values beside their paths.
use Rattle.std.proofs.Common.{◌≡◌, ℕ, ◌+◌, ◌==◌, Bool, true, false, not, ◌&&◌, if◌then◌else◌, List, [], ◌∷◌, Option, Some, None, slice_get, refl, ap, sym, subst, arith}
use Rattle.action_conditions.proofs.Assigns.{Sees}
use Rattle.action_conditions.proofs.Stores.{on_gave}
use Rattle.object_types.specs.declared.values.Value.{Value}
use Rattle.object_types.specs.declared.values.Value.TheVariants.{Ref as Refers}
use Rattle.object_types.specs.Values.{int, referent, says, same_value}
use Rattle.object_types.specs.References.{is_thread}
use Rattle.int_ranges.specs.declared.ctype.CType.{CType}
use Rattle.int_ranges.specs.Ranges.{in_range}
use Rattle.method.specs.declared.program.CheckKind.TheVariants.{Range}
use Rattle.method.specs.declared.program.DeclaredType.{DeclaredType}
use Rattle.method.specs.declared.program.DeclaredType.TheVariants.{Integer, Pointer, Object, Claim}
use Rattle.method.specs.declared.program.Expr.{Expr}
use Rattle.method.specs.declared.program.FieldInfo.{FieldInfo}
use Rattle.method.specs.declared.program.FunctionInfo.{FunctionInfo}
use Rattle.method.specs.declared.program.Operation.{Operation}
use Rattle.method.specs.declared.program.Operation.TheVariants.{CompareExchange, Exchange, Increment, Decrement}
use Rattle.method.specs.declared.program.InterlockedResult.{InterlockedResult}
use Rattle.method.specs.declared.program.InterlockedResult.TheVariants.{Plainly, Compared}
use Rattle.method.specs.declared.program.RightSide.TheVariants.{Interlocked}
use Rattle.method.specs.declared.program.Program.{Program}
use Rattle.method.specs.Expressions as m
use Rattle.method.specs.Expressions.{Spot as MachineSpot, Gave, is_listed, eval, eval_all, checks, all_checks}
use Rattle.method.specs.Typing.{Values, Ints, Nulls, Refs, WellTyped, declared, are_ints, are_refs, fits, values, test, has_type, operands_fit, is_pointer, point_to, interlocked_values, afterwards_values, only_if}
use Rattle.method.specs.Actions as M
use Rattle.method.specs.Actions.{Progress, Tally, operands, operation_checks, conversion_checks}
use Rattle.method.proofs.Global.{and_both}
use Rattle.machine_laws.proofs.Typed.{Env, is_of, eval_of, pointer_at, and_then_some}
use Rattle.machine_laws.proofs.Steps.{ListedClosed}
use Rattle.machine_laws.proofs.Simple.{test_some, cond_some, operands_gave, exchange_gave}
use Rattle.terms.specs.Formula.{Formula}
use Rattle.conditions.specs.Formulas.{all_of, get, field_column, eq}
use Rattle.conditions.specs.Symbolic.{Symbolic, term, bounds}
use Rattle.conditions.specs.Paths.{Execution, Gives, after, check}
use Rattle.conditions.specs.Paths as path
use Rattle.conditions.specs.Code.{Spot, State, ValueAndState, code, all_code}
use Rattle.conditions.specs.Actions as walk
use Rattle.conditions.proofs.FromRuns.{Count, within_self}
use Rattle.condition_meaning.specs.Languages.{language_of}
use Rattle.condition_meaning.proofs.Environments.{Environment, Has, is_eq, is_not, is_in_range}
use Rattle.condition_walks.proofs.Sizes.{code_size, all_code_size}
use Rattle.condition_walks.proofs.ActionSizes.{convert_size}
use Rattle.action_conditions.proofs.Places.{Fits, Stands, stands_term}
use Rattle.block_conditions.proofs.Beside.{Beside, beside_after, beside_gives, beside_check, beside_less}
use Rattle.block_conditions.proofs.Operands.{At, FitsRef, AllFit, HaveEach, beside_code, beside_ref, beside_values}
use Rattle.block_conditions.proofs.Stores.{Quietly, Exchanged, OperandsInts, outcome, exchange_gives, beside_exchange}

-- the expressions read nothing hidden
abbrev pub AllSee : (ℕ → Bool) → List Expr → Type 0
AllSee hid [] = Unit {0}
AllSee hid (y ∷ ys) = Sees hid y × AllSee hid ys

-- nor does what is done with the result
abbrev pub SeesThen : (ℕ → Bool) → InterlockedResult → Type 0
SeesThen hid (Plainly c) = Unit {0}
SeesThen hid (Compared c equal y d) = Sees hid y

fits_ints : (u : Values) (ty : DeclaredType) → fits u ty ≡ true → are_ints (declared ty) ≡ true → are_ints u ≡ true
fits_ints (Ints low high) ty h k = refl
fits_ints Nulls (Integer c) h k = absurd (cc)
fits_ints Nulls (Pointer n) h k = absurd (cc)
fits_ints Nulls Object h k = absurd (cc)
fits_ints Nulls Claim h k = absurd (cc)
fits_ints (Refs (Integer d)) (Integer c) h k = absurd (cc)
fits_ints (Refs (Pointer n)) (Integer c) h k = absurd (cc)
fits_ints (Refs Object) (Integer c) h k = absurd (cc)
fits_ints (Refs Claim) (Integer c) h k = absurd (cc)
fits_ints (Refs from) (Pointer n) h k = absurd (cc)
fits_ints (Refs from) Object h k = absurd (cc)
fits_ints (Refs from) Claim h k = absurd (cc)

pub pointer_refs : (ok : ℕ → Bool) (u : Values) → point_to ok u ≡ true → are_refs u ≡ true
pointer_refs ok (Ints low high) h = absurd (cc)
pointer_refs ok Nulls h = absurd (cc)
pointer_refs ok (Refs ty) h = refl

module _ (p : Program) (typed : WellTyped p) (f : FunctionInfo) (at_ : MachineSpot) (thread : is_thread at_.context.me ≡ true) (a : Spot) (hid : ℕ → Bool) where
  abbrev E : Type 0
  E = Environment (language_of p) at_.context.me

  abbrev StandsIn : E → Symbolic → Value → Type 0
  StandsIn = Stands (language_of p) at_.context.me

  abbrev Here : State → Progress → E → Type 0
  Here = At p f at_ a hid

  -- Conversions.

  pub beside_convert : (n : ℕ) (c : Count) (to : Option CType) (w : Symbolic) (v : Value) (Before : E → Type 0) → ((e : E) → Before e → StandsIn e w v) → Beside (language_of p) at_.context.me n c c (walk.convert_to p a to w) (M.convert_to at_ to v n) Before (λ x e. StandsIn e (walk.convert_to p a to w).gives x)
  beside_convert n c None w v Before known = beside_gives (language_of p) at_.context.me n c w v Before (λ x e. StandsIn e w x) known
  beside_convert n c (Some to) w v Before known =
      beside_check (language_of p) at_.context.me at_ (in_range to (int v)) n (n + 1) c c Range (all_of (bounds to (term w))) (Gives w) (m.Gives v) Before (λ x e. StandsIn e w x) refl (within_self c) (λ e b. is_in_range (language_of p) at_.context.me e to (term w) v (stands_term (language_of p) at_.context.me e w v (known e b)))
      (λ y. beside_gives (language_of p) at_.context.me (n + 1) c w v Before (λ x e. StandsIn e w x) known)

  equality_stands : (e : E) (equal : Bool) (x y : Formula) (v w : Value) → Has (language_of p) at_.context.me e x v → Has (language_of p) at_.context.me e y w → StandsIn e (walk.equality p a equal x y) (says (if equal then same_value v w else not (same_value v w)))
  equality_stands e true x y v w hx hy = (same_value v w, is_eq (language_of p) at_.context.me e x y v w hx hy, refl)
  equality_stands e false x y v w hx hy = (not (same_value v w), is_not (language_of p) at_.context.me e (eq x y) (same_value v w) (is_eq (language_of p) at_.context.me e x y v w hx hy), refl)

  -- a value behind a state that stays
  abbrev Behind : Progress → ValueAndState → M.Valued → E → Type 0
  Behind g u v e = StandsIn e u.value v.value × Quietly p f at_ a hid u.state g v.starting e

  beside_then : (g : Progress) (n : ℕ) (c : Count) (u : ValueAndState) (v : M.Valued) (then' : InterlockedResult) → Env p f v.starting.heap v.starting.locals → (us vs : Values) → afterwards_values p f then' us ≡ Some vs → SeesThen hid then' → (Before : E → Type 0) → ((e : E) → Before e → Behind g u v e)
      → Beside (language_of p) at_.context.me n c c (walk.exchange_result p a then' u) (M.afterwards p at_ then' n v) Before (λ w e. Behind g (walk.exchange_result p a then' u).gives w e)
  beside_then g n c u v (Plainly to) env us vs are sees Before known =
      beside_after (language_of p) at_.context.me n (n + conversion_checks to) c c c (walk.convert_to p a to u.value) (λ w. Gives (record u { value = w })) (M.convert_to at_ to v.value n) (λ w. m.Gives (record v { value = w })) Before (λ x e. StandsIn e (walk.convert_to p a to u.value).gives x)
      (λ w e. Behind g (walk.exchange_result p a (Plainly to) u).gives w e) (ap (λ k. n + k) (sym (convert_size p a to u.value))) (within_self c) (beside_convert n c to u.value v.value Before (λ e b. (known e b).0)) (λ x is.
      beside_gives (language_of p) at_.context.me (n + conversion_checks to) c (record u { value = (walk.convert_to p a to u.value).gives }) (record v { value = x }) (λ e. Before e × StandsIn e (walk.convert_to p a to u.value).gives x) (λ w e. Behind g (walk.exchange_result p a (Plainly to) u).gives w e) (λ e b. (b.1, (known e b.0).1)))
  beside_then g n c u v (Compared to equal y d) env us vs are sees Before known =
      let b = and_then_some (values p f y) (λ w. only_if (are_ints w) _) vs are in
      let fit : Fits p f hid y = record { values_are = b.first; typed = b.is; seen = sees } in
      let n1 = n + conversion_checks to in
      let n2 = n1 + checks y in
      let w1 = (walk.convert_to p a to u.value).gives in
      let w2 = (code p a u.state y).gives in
      let After : M.Valued → E → Type 0 = λ w e. Behind g (walk.exchange_result p a (Compared to equal y d) u).gives w e in
      beside_after (language_of p) at_.context.me n n1 c c c (walk.convert_to p a to u.value) (λ x. after (code p a u.state y) (λ z. after (walk.convert_to p a d (walk.equality p a equal (term x) (term z))) (λ w. Gives (record u { value = w }))))
      (M.convert_to at_ to v.value n) (λ x. m.after (eval p at_ v.starting.heap v.starting.locals y n1) (λ z. m.after (M.convert_to at_ d (says (if equal then same_value x z else not (same_value x z))) n2) (λ w. m.Gives (record v { value = w }))))
      Before (λ x e. StandsIn e w1 x) After (ap (λ k. n + k) (sym (convert_size p a to u.value))) (within_self c) (beside_convert n c to u.value v.value Before (λ e k. (known e k).0)) (λ x is.
      let B1 : E → Type 0 = λ e. Before e × StandsIn e w1 x in
      beside_after (language_of p) at_.context.me n1 n2 c c c (code p a u.state y) (λ z. after (walk.convert_to p a d (walk.equality p a equal (term w1) (term z))) (λ w. Gives (record u { value = w })))
      (eval p at_ v.starting.heap v.starting.locals y n1) (λ z. m.after (M.convert_to at_ d (says (if equal then same_value x z else not (same_value x z))) n2) (λ w. m.Gives (record v { value = w })))
      B1 (λ z e. StandsIn e w2 z × _) After (ap (λ k. n1 + k) (sym (code_size p a u.state y))) (within_self c) (beside_code p f at_ a hid u.state v.starting env n1 c y fit B1 (λ e k. (known e k.0).1.0)) (λ z is'.
      let B2 : E → Type 0 = λ e. B1 e × (StandsIn e w2 z × _) in
      let truth_ = says (if equal then same_value x z else not (same_value x z)) in
      beside_after (language_of p) at_.context.me n2 (n2 + conversion_checks d) c c c (walk.convert_to p a d (walk.equality p a equal (term w1) (term w2))) (λ w. Gives (record u { value = w })) (M.convert_to at_ d truth_ n2) (λ w. m.Gives (record v { value = w }))
      B2 (λ w e. StandsIn e (walk.convert_to p a d (walk.equality p a equal (term w1) (term w2))).gives w) After (ap (λ k. n2 + k) (sym (convert_size p a d (walk.equality p a equal (term w1) (term w2))))) (within_self c)
      (beside_convert n2 c d (walk.equality p a equal (term w1) (term w2)) truth_ B2 (λ e k. equality_stands e equal (term w1) (term w2) x z (stands_term (language_of p) at_.context.me e w1 x k.0.1) (stands_term (language_of p) at_.context.me e w2 z k.1.0)))
      (λ w came. beside_gives (language_of p) at_.context.me (n2 + conversion_checks d) c (record u { value = (walk.convert_to p a d (walk.equality p a equal (term w1) (term w2))).gives }) (record v { value = w }) (λ e. B2 e × StandsIn e (walk.convert_to p a d (walk.equality p a equal (term w1) (term w2))).gives w) After (λ e k. (k.1, (known e k.0.0.0).1)))))

  operands_fitted : (op : Operation) (ty : DeclaredType) → operands_fit p f op ty ≡ true → AllSee hid (operands op) → AllFit p f hid (operands op)
  operands_fitted (CompareExchange new old) ty h sees =
      let b = and_both (has_type p f new ty) (test p f (values p f old) are_ints) h in
      let t = test_some p f (values p f new) (λ v. fits v ty) b.0 in
      let s = test_some p f (values p f old) are_ints b.1 in
      (record { values_are = t.0; typed = t.1; seen = sees.0 }, (record { values_are = s.0; typed = s.1; seen = sees.1.0 }, tt))
  operands_fitted (Exchange new) ty h sees = let t = test_some p f (values p f new) (λ v. fits v ty) h in (record { values_are = t.0; typed = t.1; seen = sees.0 }, tt)
  operands_fitted Increment ty h sees = tt
  operands_fitted Decrement ty h sees = tt

  operands_ints : (st : State) (g : Progress) (env : Env p f g.heap g.locals) (op : Operation) (ty : DeclaredType) (h : operands_fit p f op ty ≡ true) (sees : AllSee hid (operands op)) → are_ints (declared ty) ≡ true → OperandsInts p f at_ a hid st g env op (operands_fitted op ty h sees)
  unfolding operands_fitted
  operands_ints st g env (CompareExchange new old) ty h sees k =
      let b = and_both (has_type p f new ty) (test p f (values p f old) are_ints) h in
      let t = test_some p f (values p f new) (λ v. fits v ty) b.0 in
      fits_ints t.0 ty t.2 k
  operands_ints st g env (Exchange new) ty h sees k = let t = test_some p f (values p f new) (λ v. fits v ty) h in fits_ints t.0 ty t.2 k
  operands_ints st g env Increment ty h sees k = tt
  operands_ints st g env Decrement ty h sees k = tt

  exchange_place : (n : ℕ) (op : Operation) (o : Formula) (x : ℕ) (xs : List Formula) (was : Formula) (st : State) → n + operation_checks op ≡ n + all_checks (operands op) + path.checks (walk.exchange p a op o x xs was st).path
  exchange_place n (CompareExchange new old) o x xs was st = omega arith
  exchange_place n (Exchange new) o x xs was st = omega arith
  exchange_place n Increment o x xs was st = omega arith
  exchange_place n Decrement o x xs was st = omega arith

  -- what an Interlocked call reads
  abbrev pub SeesInterlocked : Expr → Operation → InterlockedResult → Type 0
  SeesInterlocked y op then' = Sees hid y × AllSee hid (operands op) × SeesThen hid then'

  pub beside_interlocked : (st : State) (g : Progress) (env : Env p f g.heap g.locals) → ListedClosed (is_listed at_) g.heap → (n : ℕ) (c : Count) (y : Expr) (x : ℕ) (op : Operation) (then' : InterlockedResult) (place : walk.Place) (mplace : M.Place) (tally : Tally) (vs : Values) (o : Option FieldInfo) → slice_get p.fields.items x ≡ o → interlocked_values p f y o op then' ≡ Some vs → SeesInterlocked y op then'
      → (Before : E → Type 0) → ((e : E) → Before e → Here st g e) → Beside (language_of p) at_.context.me n c c (walk.right_side p a (Interlocked y x op then') place st) (M.right_side p at_ (Interlocked y x op then') mplace n tally g) Before (λ v e. Behind g (walk.right_side p a (Interlocked y x op then') place st).gives v e)
  beside_interlocked st g env lists n c y x op then' place mplace tally vs None is e sees Before here = absurd (cc)
  beside_interlocked st g env lists n c y x op then' place mplace tally vs (Some i) is e sees Before here =
      let c0 = cond_some (is_pointer p f (λ n. n == i.of) y && (i.is_volatile && (are_ints (declared i.ty) && operands_fit p f op i.ty))) (afterwards_values p f then' (declared i.ty)) vs e in
      let c1 = and_both (is_pointer p f (λ n. n == i.of) y) (i.is_volatile && (are_ints (declared i.ty) && operands_fit p f op i.ty)) c0.0 in
      let c2 = and_both i.is_volatile (are_ints (declared i.ty) && operands_fit p f op i.ty) c1.1 in
      let c3 = and_both (are_ints (declared i.ty)) (operands_fit p f op i.ty) c2.1 in
      let t = test_some p f (values p f y) (point_to (λ n. n == i.of)) c1.0 in
      let fit : FitsRef p f hid y = record { fits = record { values_are = t.0; typed = t.1; seen = sees.0 }; refs = pointer_refs (λ n. n == i.of) t.0 t.2 } in
      let ops = operands_fitted op i.ty c3.1 sees.1 in
      let n1 = n + checks y in
      let n2 = n1 + all_checks (operands op) in
      let n3 = n1 + operation_checks op in
      let w = term (code p a st y).gives in
      let xs = (all_code p a st (operands op)).gives in
      let was = get (field_column x) st.heap (w ∷ []) in
      let After : M.Valued → E → Type 0 = λ v e. Behind g (walk.right_side p a (Interlocked y x op then') place st).gives v e in
      beside_after (language_of p) at_.context.me n n1 c c c (code p a st y) (λ o. after (all_code p a st (operands op)) (λ xs. after (walk.exchange p a op (term o) x xs (get (field_column x) st.heap (term o ∷ [])) st) (λ v. walk.exchange_result p a then' v)))
      (eval p at_ g.heap g.locals y n) (λ o. m.after (eval_all p at_ g.heap g.locals (operands op) n1) (λ ws. m.after (M.exchange p at_ op (referent o) x ws n2 g) (λ v. M.afterwards p at_ then' n3 v)))
      Before (λ o e. Has (language_of p) at_.context.me e w (Refers (referent o))) After (ap (λ k. n + k) (sym (code_size p a st y))) (within_self c) (beside_ref p f at_ a hid st g env n c y fit Before here) (λ o gave_o.
      let B1 : E → Type 0 = λ e. Before e × Has (language_of p) at_.context.me e w (Refers (referent o)) in
      beside_after (language_of p) at_.context.me n1 n2 c c c (all_code p a st (operands op)) (λ xs. after (walk.exchange p a op w x xs was st) (λ v. walk.exchange_result p a then' v)) (eval_all p at_ g.heap g.locals (operands op) n1) (λ ws. m.after (M.exchange p at_ op (referent o) x ws n2 g) (λ v. M.afterwards p at_ then' n3 v))
      B1 (λ ws e. HaveEach p f at_ a hid e (operands op) ops xs ws) After (ap (λ k. n1 + k) (sym (all_code_size p a st (operands op)))) (within_self c) (beside_values p f at_ a hid st g env n1 c (operands op) ops B1 (λ e b. here e b.0)) (λ ws gave_ws.
      let B2 : E → Type 0 = λ e. B1 e × HaveEach p f at_ a hid e (operands op) ops xs ws in
      let u = walk.exchange p a op w x xs was st in
      beside_after (language_of p) at_.context.me n2 n3 c c c u (λ v. walk.exchange_result p a then' v) (M.exchange p at_ op (referent o) x ws n2 g) (λ v. M.afterwards p at_ then' n3 v)
      B2 (λ v e. Exchanged p f at_ a hid st g env u.gives v e) After (exchange_place n1 op w x xs was st) (within_self c)
      (beside_less (language_of p) at_.context.me n2 c c u (M.exchange p at_ op (referent o) x ws n2 g) B2 B2 (λ v e. Exchanged p f at_ a hid st g env (outcome p f at_ a hid st g env op w x xs) v e) (λ v e. Exchanged p f at_ a hid st g env u.gives v e) (λ e b. b) (λ v came e b k. subst (λ z. Exchanged p f at_ a hid st g env z v e) (exchange_gives p f at_ a hid st g env op w x xs) k)
      (beside_exchange p f at_ a hid st g env n2 c op ops (operands_ints st g env op i.ty c3.1 sees.1 c3.0) w (referent o) x i is c3.0 xs ws B2 (λ e b. (here e b.0.0, b.0.1, b.1))))
      (λ v gave_v.
      let typed_o = on_gave (eval p at_ g.heap g.locals y n) (λ v. is_of p t.0 v ≡ true) o (eval_of p typed f at_ g.heap g.locals env y t.0 t.1 n) gave_o in
      let ok = on_gave (eval_all p at_ g.heap g.locals (operands op) n1) _ ws (operands_gave p typed f at_ thread g env op i.ty n1 c3.1) gave_ws in
      let fine = on_gave (M.exchange p at_ op (referent o) x ws n2 g) _ v (exchange_gave p typed f at_ thread g env lists op (referent o) x i ws n2 is (pointer_at p (λ n. n == i.of) t.0 o t.2 typed_o) ok) gave_v in
      beside_then g n3 c u.gives v then' fine.1.ready (declared i.ty) vs c0.1 sees.2 (λ e. B2 e × Exchanged p f at_ a hid st g env u.gives v e) (λ e b. (b.1.value, b.1.quietly)))))
