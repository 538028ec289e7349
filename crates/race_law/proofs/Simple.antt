-- Statements that may stand in an atomic block, there and outside: each field that one reads or writes passed the check of a read or of a store, on a heap that the item has come to.
use Rattle.std.proofs.Common.{◌≡◌, ℕ, ◌+◌, true, false, cond, not, ◌&&◌, ◌||◌, ◌==◌, refl, List, [], ◌∷◌, ◌++◌, Option, Some, None, slice_get}
use Rattle.std.specs.List.{All}
use Rattle.std.proofs.lemmas.List.Elements.{All-nil}
use Rattle.object_types.specs.declared.references.Ref.{Ref}
use Rattle.object_types.specs.declared.values.Value.{Value}
use Rattle.object_types.specs.References.{is_thread}
use Rattle.object_types.specs.Values.{referent}
use Rattle.object_types.specs.Heap.{write, closed_in}
use Rattle.method.specs.declared.program.CheckKind.TheVariants.{Range, Read, Write, Writes}
use Rattle.method.specs.declared.program.Expr.{Expr}
use Rattle.method.specs.declared.program.Target.{Target}
use Rattle.method.specs.declared.program.Target.TheVariants.{Local, FieldOf}
use Rattle.method.specs.declared.program.Operation.{Operation}
use Rattle.method.specs.declared.program.InterlockedResult.{InterlockedResult}
use Rattle.method.specs.declared.program.InterlockedResult.TheVariants.{Plainly, Compared}
use Rattle.method.specs.declared.program.RightSide.{RightSide}
use Rattle.method.specs.declared.program.RightSide.TheVariants.{Compute, Malloc, NewClaim, Interlocked}
use Rattle.method.specs.declared.program.Simple.{Simple}
use Rattle.method.specs.declared.program.Simple.TheVariants.{Assign, ChangeOwned, EndClaim}
use Rattle.method.specs.declared.program.Claimed.{Claimed}
use Rattle.method.specs.declared.program.Claimed.TheVariants.{ClaimedVariable, ClaimedNull, ClaimedOther}
use Rattle.method.specs.declared.program.ClaimSite.{ClaimSite}
use Rattle.method.specs.declared.program.FieldInfo.{FieldInfo}
use Rattle.method.specs.declared.program.FunctionInfo.{FunctionInfo}
use Rattle.method.specs.declared.program.Program.{Program}
use Rattle.method.specs.Tables.{in_type, type_of_field, read}
use Rattle.method.specs.WellFormed.{WellFormed}
use Rattle.method.specs.Typing.{Values, declared, are_ints, values, is_pointer, point_to, operands_fit, afterwards_values, interlocked_values, right_values, simple_ok, WellTyped}
use Rattle.method.specs.Expressions.{End, Outcome, Gives, Spot, after, check, is_listed, may_write, readable, checks, all_checks, eval, eval_all}
use Rattle.method.specs.Actions.{Place, InLocal, InField, Progress, Valued, Tally, heap_of, target_checks, right_checks, operation_checks, conversion_checks, counts, replaced, given, operands, convert_to, store, left_side, malloc, run_claimed, make_claim, exchange, afterwards, right_side, run_simple, simple_fits}
use Rattle.method.proofs.Global.{and_both}
use Rattle.machine_laws.proofs.Outcomes.{OnGave, after_any, check_gave}
use Rattle.machine_laws.proofs.Typed.{is_of, pointer_at, eval_of}
use Rattle.machine_laws.proofs.Steps.{Fine, fine_trans, ListedClosed, still_listed}
use Rattle.machine_laws.proofs.Claims.{Right}
use Rattle.machine_laws.proofs.Simple.{test_some, cond_some, takes_some, operands_gave, exchange_gave, right_gave}
use Rattle.race_law.specs.Accesses.{Access, with_value, reading, writing, stored_at, expr_reads, exprs_read, target_reads, claimed_read, site_reads, result_reads, right_accesses, simple_accesses}
use Rattle.race_law.proofs.Exprs.{any_gave, followed, followed_any, beside, alone, regrouped, one, expr_all, eval_all_reads}
use Rattle.race_law.proofs.Allowed.{Allowed}
use Rattle.race_law.proofs.Between.{storable, reads_allowed, stores_allowed}

-- the item begins at one heap, and has come to others; Q holds of what it may read and store on these
module _ (p : Program) (typed : WellTyped p) (f : FunctionInfo) (at_ : Spot) (thread : is_thread at_.context.me ≡ true) (k : ℕ) (fis : slice_get p.functions.items k ≡ Some f)
    (base : Progress) (lists : ListedClosed (is_listed at_) base.heap) (Q : Access → Type 0)
    (reads : (g : Progress) → Fine p f at_.context (is_listed at_) base g → (o : Ref) (x : ℕ) → readable p at_ g.heap o x ≡ true → Q (reading p at_ o x))
    (writes : (g : Progress) → Fine p f at_.context (is_listed at_) base g → (o : Ref) (x : ℕ) → storable p at_ g.heap o x ≡ true → Q (writing p at_ o x)) where
  abbrev SoFar : Progress → Type 0
  SoFar g = Fine p f at_.context (is_listed at_) base g

  come_to : (g : Progress) → SoFar g → (g' : Progress) → Fine p f at_.context (is_listed at_) g g' → SoFar g'
  come_to g so g' y = fine_trans p f at_.context (is_listed at_) base g g' so y

  listed_now : (g : Progress) → SoFar g → ListedClosed (is_listed at_) g.heap
  listed_now g so = still_listed p f at_.context (is_listed at_) base g so lists

  pub expr_here : (g : Progress) → SoFar g → (e : Expr) (n : ℕ) → OnGave (eval p at_ g.heap g.locals e n) (λ v. All Q (expr_reads p at_ g.heap g.locals e n))
  expr_here g so e n = expr_all p at_ g.heap g.locals Q (reads g so) e n

  pub exprs_here : (g : Progress) → SoFar g → (es : List Expr) (n : ℕ) → OnGave (eval_all p at_ g.heap g.locals es n) (λ vs. All Q (exprs_read p at_ g.heap g.locals es n))
  exprs_here g so es n = eval_all_reads p at_ g.heap g.locals Q (reads g so) es n

  -- Left sides and stores.

  pub left_here : (g : Progress) → SoFar g → (t : Target) (n : ℕ) → OnGave (left_side p at_ t n g) (λ place. All Q (target_reads p at_ t n g))
  left_here g so (Local i) n = All-nil Q
  left_here g so (FieldOf e x) n = alone Q (eval p at_ g.heap g.locals e n) (λ v. Gives (InField (referent v) x)) (expr_reads p at_ g.heap g.locals e n) (expr_here g so e n)

  pub store_here : (g : Progress) → SoFar g → (place : Place) (v : Value) (n : ℕ) → OnGave (store p at_ place v n g) (λ g'. All Q (stored_at p at_ place))
  store_here g so (InLocal i) v n = All-nil Q
  store_here g so (InField o x) v n =
      let last = check at_ (may_write at_ o || is_listed at_ o) (n + 1) Writes (Gives (heap_of g (write g.heap o x v))) in
      let X = All Q (writing p at_ o x ∷ []) in
      check_gave at_ (storable p at_ g.heap o x) n Write last (λ g'. X) (λ e. any_gave last X (one Q (writing p at_ o x) (writes g so o x e)))

  -- Claims.

  claimed_here : (g : Progress) → SoFar g → (cs : List Claimed) (n : ℕ) → OnGave (run_claimed p at_ cs n g) (λ os. All Q (claimed_read p at_ cs n g))
  claimed_here g so [] n = All-nil Q
  claimed_here g so (ClaimedVariable i ∷ cs) n = alone Q (run_claimed p at_ cs n g) _ (claimed_read p at_ cs n g) (claimed_here g so cs n)
  claimed_here g so (ClaimedNull ∷ cs) n = alone Q (run_claimed p at_ cs n g) _ (claimed_read p at_ cs n g) (claimed_here g so cs n)
  claimed_here g so (ClaimedOther e ty ∷ cs) n =
      let m = n + checks e in
      let rest = claimed_read p at_ cs m g in
      beside Q (eval p at_ g.heap g.locals e n) _ (expr_reads p at_ g.heap g.locals e n) rest (expr_here g so e n) (λ v. alone Q (run_claimed p at_ cs m g) _ rest (claimed_here g so cs m))

  site_here : (g : Progress) → SoFar g → (o : Option ClaimSite) (place : Place) (n : ℕ) (tally : Tally) → OnGave (make_claim p at_ o place n tally g) (λ v. All Q (site_reads p at_ o n g))
  site_here g so None place n tally = tt
  site_here g so (Some site) place n tally = alone Q (run_claimed p at_ site.claimed.items n g) _ (claimed_read p at_ site.claimed.items n g) (claimed_here g so site.claimed.items n)

  -- Interlocked calls.

  exchange_here : (g : Progress) → SoFar g → (op : Operation) (o : Ref) (x : ℕ) (vs : List Value) (n : ℕ) → OnGave (exchange p at_ op o x vs n g) (λ v. All Q (writing p at_ o x ∷ []))
  exchange_here g so op o x vs n =
      let was = read p g.heap o x in
      let now = replaced op vs was in
      let m = cond (counts op) (n + 2) (n + 1) in
      let last = after (store p at_ (InField o x) now m g) (λ g'. Gives (record { value = given op was now; starting = g' })) in
      let W : Valued → Type 0 = λ v. All Q (writing p at_ o x ∷ []) in
      check_gave at_ (readable p at_ g.heap o x) n Read (check at_ (not (counts op) || in_type (type_of_field p x) now) (n + 1) Range last) W (λ r.
      check_gave at_ (not (counts op) || in_type (type_of_field p x) now) (n + 1) Range last W (λ e.
      alone Q (store p at_ (InField o x) now m g) (λ g'. Gives (record { value = given op was now; starting = g' })) (writing p at_ o x ∷ []) (store_here g so (InField o x) now m)))

  result_here : (then' : InterlockedResult) (n : ℕ) (v : Valued) → SoFar v.starting → OnGave (afterwards p at_ then' n v) (λ w. All Q (result_reads p at_ then' n v.starting))
  result_here (Plainly c) n v so = any_gave (afterwards p at_ (Plainly c) n v) (All Q []) (All-nil Q)
  result_here (Compared c equal e d) n v so =
      let h = v.starting.heap in
      let l = v.starting.locals in
      let i = n + conversion_checks c in
      let xs = expr_reads p at_ h l e i in
      after_any (convert_to at_ c v.value n) _ (λ w. All Q xs) (λ a. alone Q (eval p at_ h l e i) _ xs (expr_here v.starting so e i))

  interlocked_here :
      (g : Progress) → SoFar g → (x : Expr) (fl : ℕ) (op : Operation) (then' : InterlockedResult) (vs : Values) (place : Place) (n : ℕ) (tally : Tally) (o : Option FieldInfo) →
      slice_get p.fields.items fl ≡ o → interlocked_values p f x o op then' ≡ Some vs →
      OnGave (right_side p at_ (Interlocked x fl op then') place n tally g) (λ v. All Q (right_accesses p at_ (Interlocked x fl op then') n g))
  interlocked_here g so x fl op then' vs place n tally None is e = absurd (cc)
  interlocked_here g so x fl op then' vs place n tally (Some i) is e =
      let c = cond_some (is_pointer p f (λ n. n == i.of) x && (i.is_volatile && (are_ints (declared i.ty) && operands_fit p f op i.ty))) (afterwards_values p f then' (declared i.ty)) vs e in
      let c1 = and_both (is_pointer p f (λ n. n == i.of) x) (i.is_volatile && (are_ints (declared i.ty) && operands_fit p f op i.ty)) c.0 in
      let c2 = and_both i.is_volatile (are_ints (declared i.ty) && operands_fit p f op i.ty) c1.1 in
      let c3 = and_both (are_ints (declared i.ty)) (operands_fit p f op i.ty) c2.1 in
      let t = test_some p f (values p f x) (point_to (λ n. n == i.of)) c1.0 in
      let m = n + checks x + all_checks (operands op) in
      let l = n + checks x + operation_checks op in
      let pointer = eval p at_ g.heap g.locals x n in
      let others = eval_all p at_ g.heap g.locals (operands op) (n + checks x) in
      let others_read = exprs_read p at_ g.heap g.locals (operands op) (n + checks x) in
      let results : Valued → List Access = λ v. result_reads p at_ then' l v.starting in
      let swaps : Ref → List Value → Outcome Valued = λ q ws. exchange p at_ op q fl ws m g in
      let from_store : Ref → End (List Value) → List Access = λ q d. writing p at_ q fl ∷ with_value d (λ ws. with_value (swaps q ws).end results) in
      let whole = after pointer (λ o. after others (λ ws. after (swaps (referent o) ws) (λ v. afterwards p at_ then' l v))) in
      regrouped Q whole (expr_reads p at_ g.heap g.locals x n) others_read (with_value pointer.end (λ o. from_store (referent o) others.end))
      (followed Q pointer (λ o. after others (λ ws. after (swaps (referent o) ws) (λ v. afterwards p at_ then' l v))) (expr_reads p at_ g.heap g.locals x n)
      (λ d. others_read ++ with_value d (λ o. from_store (referent o) others.end)) (λ v. is_of p t.0 v ≡ true) (expr_here g so x n) (eval_of p typed f at_ g.heap g.locals so.ready x t.0 t.1 n) (λ o j.
      followed Q others (λ ws. after (swaps (referent o) ws) (λ v. afterwards p at_ then' l v)) others_read (from_store (referent o)) _ (exprs_here g so (operands op) (n + checks x))
      (operands_gave p typed f at_ thread g so.ready op i.ty (n + checks x) c3.1) (λ ws ok.
      followed Q (swaps (referent o) ws) (λ v. afterwards p at_ then' l v) (writing p at_ (referent o) fl ∷ []) (λ d. with_value d results)
      (λ v. (is_of p (declared i.ty) v.value ≡ true) × Fine p f at_.context (is_listed at_) g v.starting) (exchange_here g so op (referent o) fl ws m)
      (exchange_gave p typed f at_ thread g so.ready (listed_now g so) op (referent o) fl i ws m is (pointer_at p (λ n. n == i.of) t.0 o t.2 j) ok) (λ v y.
      result_here then' l v (come_to g so v.starting y.1)))))

  -- Right sides.

  pub right_here :
      (g : Progress) → SoFar g → (r : RightSide) (vs : Values) (place : Place) (n : ℕ) (tally : Tally) → right_values p f k at_.inside r ≡ Some vs →
      OnGave (right_side p at_ r place n tally g) (λ v. All Q (right_accesses p at_ r n g))
  right_here g so (Compute x) vs place n tally e = alone Q (eval p at_ g.heap g.locals x n) (λ v. Gives (record { value = v; starting = g })) (expr_reads p at_ g.heap g.locals x n) (expr_here g so x n)
  right_here g so (Malloc ty) vs place n tally e = any_gave (malloc p at_ ty at_.choices g) (All Q []) (All-nil Q)
  right_here g so (NewClaim num) vs place n tally e = site_here g so (slice_get p.sites.items num) place n tally
  right_here g so (Interlocked x fl op then') vs place n tally e =
      interlocked_here g so x fl op then' vs place n tally (slice_get p.fields.items fl) refl (cond_some at_.inside (interlocked_values p f x (slice_get p.fields.items fl) op then') vs e).1

  -- Whole statements.

  pub simple_here :
      (g : Progress) → SoFar g → (s : Simple) (n : ℕ) (tally : Tally) → (at_.inside ≡ false → simple_fits p s at_.choices ≡ true) → simple_ok p f k at_.inside s ≡ true →
      OnGave (run_simple p at_ s n tally g) (λ g'. All Q (simple_accesses p at_ s n tally g))
  simple_here g so (Assign t r) n tally fit e =
      let vs = takes_some p typed f at_ thread t (right_values p f k at_.inside r) e in
      let m = n + target_checks t in
      let rights = right_accesses p at_ r m g in
      let stores : Place → Valued → Outcome Progress = λ place v. store p at_ place v.value (m + right_checks p at_.inside r) v.starting in
      let whole = after (left_side p at_ t n g) (λ place. after (right_side p at_ r place m tally g) (stores place)) in
      regrouped Q whole (target_reads p at_ t n g) rights (with_value (left_side p at_ t n g).end (stored_at p at_))
      (followed_any Q (left_side p at_ t n g) (λ place. after (right_side p at_ r place m tally g) (stores place)) (target_reads p at_ t n g) (λ d. rights ++ with_value d (stored_at p at_)) (left_here g so t n) (λ place.
      followed Q (right_side p at_ r place m tally g) (stores place) rights (λ d. stored_at p at_ place) (Right p f at_ place vs.0 g) (right_here g so r vs.0 place m tally vs.1)
      (right_gave p typed f at_ thread g so.ready (listed_now g so) k fis r vs.0 place m tally fit vs.1) (λ v y.
      store_here v.starting (come_to g so v.starting y.fine) place v.value (m + right_checks p at_.inside r))))
  simple_here g so (ChangeOwned c x es) n tally fit e =
      let m = n + checks x in
      let rest = exprs_read p at_ g.heap g.locals es.items m in
      beside Q (eval p at_ g.heap g.locals x n) _ (expr_reads p at_ g.heap g.locals x n) rest (expr_here g so x n) (λ o. alone Q (eval_all p at_ g.heap g.locals es.items m) _ rest (exprs_here g so es.items m))
  simple_here g so (EndClaim q x es) n tally fit e =
      let m = n + checks x in
      let rest = exprs_read p at_ g.heap g.locals es.items m in
      beside Q (eval p at_ g.heap g.locals x n) _ (expr_reads p at_ g.heap g.locals x n) rest (expr_here g so x n) (λ o. alone Q (eval_all p at_ g.heap g.locals es.items m) _ rest (exprs_here g so es.items m))

-- so the thread may access these on the heap at the item's beginning, where what the block lists is closed
module _ (p : Program) (typed : WellTyped p) (f : FunctionInfo) (k : ℕ) (fis : slice_get p.functions.items k ≡ Some f) (at_ : Spot) (thread : is_thread at_.context.me ≡ true)
    (start : Progress) (wf : WellFormed p start.heap) (closed : (o : Ref) → is_listed at_ o ≡ true → closed_in start.heap o ≡ true) where
  abbrev pub Allows : Access → Type 0
  Allows a = Allowed p at_.context.me start.heap a

  abbrev Since : Progress → Type 0
  Since g = Fine p f at_.context (is_listed at_) start g

  still_closed : ListedClosed (is_listed at_) start.heap
  still_closed o i n = closed o i

  may_read : (g : Progress) → Since g → (o : Ref) (x : ℕ) → readable p at_ g.heap o x ≡ true → Allows (reading p at_ o x)
  may_read g so o x e = reads_allowed p f at_ start g wf so closed o x e

  may_store : (g : Progress) → Since g → (o : Ref) (x : ℕ) → storable p at_ g.heap o x ≡ true → Allows (writing p at_ o x)
  may_store g so o x e = stores_allowed p f at_ start g wf so closed o x e

  pub expr_so : (e : Expr) (n : ℕ) (g : Progress) → Since g → OnGave (eval p at_ g.heap g.locals e n) (λ v. All Allows (expr_reads p at_ g.heap g.locals e n))
  expr_so e n g so = expr_here p typed f at_ thread k fis start still_closed Allows may_read may_store g so e n

  pub exprs_so : (es : List Expr) (n : ℕ) (g : Progress) → Since g → OnGave (eval_all p at_ g.heap g.locals es n) (λ vs. All Allows (exprs_read p at_ g.heap g.locals es n))
  exprs_so es n g so = exprs_here p typed f at_ thread k fis start still_closed Allows may_read may_store g so es n

  pub left_so : (t : Target) (n : ℕ) (g : Progress) → Since g → OnGave (left_side p at_ t n g) (λ place. All Allows (target_reads p at_ t n g))
  left_so t n g so = left_here p typed f at_ thread k fis start still_closed Allows may_read may_store g so t n

  pub store_so : (place : Place) (v : Value) (n : ℕ) (g : Progress) → Since g → OnGave (store p at_ place v n g) (λ g'. All Allows (stored_at p at_ place))
  store_so place v n g so = store_here p typed f at_ thread k fis start still_closed Allows may_read may_store g so place v n

  pub right_so :
      (r : RightSide) (vs : Values) (place : Place) (n : ℕ) (tally : Tally) (g : Progress) → Since g → right_values p f k at_.inside r ≡ Some vs →
      OnGave (right_side p at_ r place n tally g) (λ v. All Allows (right_accesses p at_ r n g))
  right_so r vs place n tally g so e = right_here p typed f at_ thread k fis start still_closed Allows may_read may_store g so r vs place n tally e

  pub simple_all :
      (s : Simple) (n : ℕ) (tally : Tally) (g : Progress) → Since g → (at_.inside ≡ false → simple_fits p s at_.choices ≡ true) → simple_ok p f k at_.inside s ≡ true →
      OnGave (run_simple p at_ s n tally g) (λ g'. All Allows (simple_accesses p at_ s n tally g))
  simple_all s n tally g so fit e = simple_here p typed f at_ thread k fis start still_closed Allows may_read may_store g so s n tally fit e
