-- A typed block without choices always comes to a value or a fault.
use Rattle.std.proofs.Common.{◌≡◌, ℕ, ◌+◌, ◌==◌, Bool, true, false, not, ◌&&◌, ◌||◌, List, [], ◌∷◌, ◌++◌, map, length, Option, Some, None, slice_get, refl, sym, subst}
use Rattle.std.specs.Prelude.{pos, if◌then◌else◌}
use Rattle.object_types.specs.declared.references.Ref.{Ref}
use Rattle.object_types.specs.declared.values.Value.{Value}
use Rattle.method.specs.Overflow.{Overflow}
use Rattle.method.specs.declared.program.CheckKind.{CheckKind}
use Rattle.method.specs.Expressions.{End, Misfit, Failed, Gave, Outcome, Gives, after, goes_on, Spot, Tested, check, check_each, check_specs}
use Rattle.method.specs.Actions.{Deferred, check_deferred}
use Rattle.method.specs.declared.program.CheckKind.TheVariants.{Read, Range, Write, Writes, Owns, MakeClaim, DestroyClaim}
use Rattle.method.specs.declared.program.Expr.{Expr}
use Rattle.int_ranges.specs.declared.ctype.CType.{CType}
use Rattle.method.specs.declared.program.DeclaredType.TheVariants.{Pointer, Claim}
use Rattle.method.specs.declared.program.Operation.{Operation}
use Rattle.method.specs.declared.program.InterlockedResult.{InterlockedResult}
use Rattle.method.specs.declared.program.InterlockedResult.TheVariants.{Plainly, Compared}
use Rattle.method.specs.declared.program.RightSide.{RightSide}
use Rattle.method.specs.declared.program.RightSide.TheVariants.{Compute, Malloc, NewClaim, Interlocked}
use Rattle.method.specs.declared.program.Simple.{Simple}
use Rattle.method.specs.declared.program.Simple.TheVariants.{Assign, ChangeOwned, EndClaim}
use Rattle.method.specs.declared.program.Inner.{Inner, Row_of-Inner, end_of-Inner, more_of-Inner}
use Rattle.method.specs.declared.program.Inner.TheVariants.{Inside, InsideIf'}
use Rattle.method.specs.declared.program.OwnsChange.{OwnsChange}
use Rattle.method.specs.declared.program.OwnsChange.TheVariants.{Assigned, Added, Removed}
use Rattle.method.specs.declared.program.Claimed.{Claimed}
use Rattle.method.specs.declared.program.Claimed.TheVariants.{ClaimedVariable, ClaimedNull, ClaimedOther}
use Rattle.method.specs.declared.program.ClaimSite.{ClaimSite}
use Rattle.method.specs.declared.program.FunctionInfo.{FunctionInfo}
use Rattle.method.specs.declared.program.Program.{Program}
use Rattle.object_types.specs.References.{null}
use Rattle.object_types.specs.Values.{referent, truth, says, same_value}
use Rattle.object_types.specs.Sets.{every, is_in}
use Rattle.object_types.specs.Heap.{Heap, put, write, count_more, mutable, wrapped}
use Rattle.method.specs.Tables.{local, in_type, read, type_of_field, is_struct, is_volatile, is_approved}
use Rattle.method.specs.Typing.{Values, Refs, only_if, is_test, right_values, simple_ok, inner_ok, inner_row_ok}
use Rattle.method.specs.SpecValue.{entry_of}
use Rattle.method.specs.Expressions.{Context, checks, all_checks, readable, eval, eval_all, scene, is_listed, may_write}
use Rattle.method.specs.Actions.{Place, InLocal, InField, Supply, Fresh, Progress, Valued, Took, Tally, heap_of, inner_spot, store, take_object, run_claimed, claimed_checks, claim_tests, claim_made, make_claim, new_claim, member_change, members_change, owned_change, end_claim, ended, may_end, may_count, deferred_from, exchange, afterwards, replaced, given, counts, operands, operation_checks, conversion_checks, convert_to, left_side, right_side, target_checks, right_checks, run_simple, run_inner, run_row, run_list, inner_checks, row_checks, inner_tally, row_tally, tally_plus}
use Rattle.method.proofs.Global.{and_both}
use Rattle.machine_laws.proofs.Typed.{and_then_some, only_if_some, not_both}
use Rattle.erasure_law.proofs.TurnFits.{left_fits, convert_fits}
use Rattle.erasure_law.proofs.ConcreteTurns.{taken}
use Rattle.erasure_law.proofs.Fits.{Fits, eval_fits, evals_fit}

abbrev site_there : Option ClaimSite → Bool
site_there None = false
site_there (Some s) = true

-- it fits, and what it gives has P
abbrev pub FitsWith : {A : Type 0} → (A → Type 0) → End A → Type 0
FitsWith P Misfit = ⊥
FitsWith P (Failed n kind line) = Unit {0}
FitsWith P (Gave a) = P a

pub fits_any : {A : Type 0} (e : End A) → Fits e → FitsWith (λ (a : A). Unit {0}) e
fits_any Misfit x = x
fits_any (Failed n kind line) x = tt
fits_any (Gave a) x = tt

pub with_fits : {A : Type 0} (P : A → Type 0) (e : End A) → FitsWith P e → Fits e
with_fits P Misfit x = x
with_fits P (Failed n kind line) x = tt
with_fits P (Gave a) x = tt

goes_with : {A B : Type 0} (P : A → Type 0) (Q : B → Type 0) (w : Option Overflow) (e : End A) (g : A → Outcome B) → FitsWith P e → ((a : A) → P a → FitsWith Q (g a).end) → FitsWith Q (goes_on w e g).end
goes_with P Q w Misfit g x k = x
goes_with P Q w (Failed n kind line) g x k = tt
goes_with P Q w (Gave a) g x k = k a x

pub after_with : {A B : Type 0} (P : A → Type 0) (Q : B → Type 0) (o : Outcome A) (g : A → Outcome B) → FitsWith P o.end → ((a : A) → P a → FitsWith Q (g a).end) → FitsWith Q (after o g).end
after_with P Q o g x k = goes_with P Q o.overflow o.end g x k

pub check_with : {A : Type 0} (Q : A → Type 0) (at_ : Spot) (b : Bool) (n : ℕ) (kind : CheckKind) (o : Outcome A) → FitsWith Q o.end → FitsWith Q (check at_ b n kind o).end
check_with Q at_ true n kind o x = x
check_with Q at_ false n kind o x = tt

pub each_with : {A : Type 0} (Q : A → Type 0) (at_ : Spot) (bs : List Bool) (n : ℕ) (kind : CheckKind) (o : Outcome A) → FitsWith Q o.end → FitsWith Q (check_each at_ bs n kind o).end
each_with Q at_ [] n kind o x = x
each_with Q at_ (b ∷ bs) n kind o x = check_with Q at_ b n kind (check_each at_ bs (n + 1) kind o) (each_with Q at_ bs (n + 1) kind o x)

pub specs_with : {A : Type 0} (Q : A → Type 0) (at_ : Spot) (ts : List Tested) (n : ℕ) (kind : CheckKind) (o : Outcome A) → FitsWith Q o.end → FitsWith Q (check_specs at_ ts n kind o).end
specs_with Q at_ [] n kind o x = x
specs_with Q at_ (t ∷ ts) n kind o x = check_with Q at_ t.holds n kind (check_specs at_ ts (n + 1) kind o) (specs_with Q at_ ts (n + 1) kind o x)

pub deferred_with : {A : Type 0} (Q : A → Type 0) (at_ : Spot) (test : Ref → Tested) (ks : List Deferred) (n : ℕ) (o : Outcome A) → FitsWith Q o.end → FitsWith Q (check_deferred at_ test ks n o).end
deferred_with Q at_ test [] n o x = x
deferred_with Q at_ test (d ∷ ds) n o x = check_with Q at_ (test d.which).holds (n + d.place) _ (check_deferred at_ test ds n o) (deferred_with Q at_ test ds n o x)

module _ (p : Program) (f : FunctionInfo) (k : ℕ) (x : Context) (os : List Ref) (number : ℕ) where
  -- new references go on coming as fresh ones
  abbrev pub GoesOn : Progress → Type 0
  GoesOn g = g.supply ≡ Fresh number

  abbrev ValuedOn : Valued → Type 0
  ValuedOn v = v.starting.supply ≡ Fresh number

  either_with : (b : Bool) (o q : Outcome Progress) → FitsWith GoesOn o.end → FitsWith GoesOn q.end → FitsWith GoesOn (if b then o else q).end
  either_with true o q y z = y
  either_with false o q y z = z

  module _ (line : ℕ) where
    abbrev at_ : Spot
    at_ = inner_spot p x os line

    two_with : (b c : Bool) (first second : CheckKind) (n : ℕ) (g : Progress) → GoesOn g → FitsWith GoesOn (check at_ b n first (check at_ c (n + 1) second (Gives g))).end
    two_with b c first second n g y = check_with GoesOn at_ b n first (check at_ c (n + 1) second (Gives g)) (check_with GoesOn at_ c (n + 1) second (Gives g) y)

    store_with : (place : Place) (v : Value) (n : ℕ) (g : Progress) → GoesOn g → FitsWith GoesOn (store p at_ place v n g).end
    store_with (InLocal i) v n g y = y
    store_with (InField o q) v n g y = two_with (mutable at_.context.me g.heap o || (is_listed at_ o && (is_volatile p q && (not (is_approved p q) || may_count at_ g.heap o)))) (may_write at_ o || is_listed at_ o) Write Writes n (heap_of g (write g.heap o q v)) y

    eval_with : (h : Heap) (l : List Value) (e : Expr) (n : ℕ) → FitsWith (λ (v : Value). Unit {0}) (eval p at_ h l e n).end
    eval_with h l e n = fits_any (eval p at_ h l e n).end (eval_fits p at_ h l e n)

    evals_with : (h : Heap) (l : List Value) (es : List Expr) (n : ℕ) → FitsWith (λ (v : List Value). Unit {0}) (eval_all p at_ h l es n).end
    evals_with h l es n = fits_any (eval_all p at_ h l es n).end (evals_fit p at_ h l es n)

    claimed_with : (cs : List Claimed) (n : ℕ) (g : Progress) → FitsWith (λ (v : List Ref). Unit {0}) (run_claimed p at_ cs n g).end
    claimed_with [] n g = tt
    claimed_with (ClaimedVariable i ∷ cs) n g = after_with (λ v. Unit {0}) (λ v. Unit {0}) (run_claimed p at_ cs n g) (λ qs. Gives (referent (local g.locals i) ∷ qs)) (claimed_with cs n g) (λ v u. tt)
    claimed_with (ClaimedNull ∷ cs) n g = after_with (λ v. Unit {0}) (λ v. Unit {0}) (run_claimed p at_ cs n g) (λ qs. Gives (null ∷ qs)) (claimed_with cs n g) (λ v u. tt)
    claimed_with (ClaimedOther e ty ∷ cs) n g =
        after_with (λ v. Unit {0}) (λ v. Unit {0}) (eval p at_ g.heap g.locals e n) (λ v. after (run_claimed p at_ cs (n + checks e) g) (λ qs. Gives (referent v ∷ qs))) (eval_with g.heap g.locals e n) (λ v u.
        after_with (λ w. Unit {0}) (λ w. Unit {0}) (run_claimed p at_ cs (n + checks e) g) (λ qs. Gives (referent v ∷ qs)) (claimed_with cs (n + checks e) g) (λ w z. tt))

    taken_with : (s : Supply) (ty : ℕ) (h : Heap) → s ≡ Fresh number → FitsWith (λ (t : Took). t.supply ≡ Fresh number) (take_object s ty h).end
    taken_with s ty h e = subst (λ s. FitsWith (λ (t : Took). t.supply ≡ Fresh number) (take_object s ty h).end) (sym e) refl

    claim_with : (o : Option ClaimSite) → site_there o ≡ true → (place : Place) (n : ℕ) (tally : Tally) (g : Progress) → GoesOn g → FitsWith ValuedOn (make_claim p at_ o place n tally g).end
    claim_with None e place n tally g y = absurd (not_both false e refl)
    claim_with (Some site) e place n tally g y =
        let m = n + claimed_checks site.claimed.items in
        let es = map (entry_of (scene at_.context g.heap g.locals)) site.conjuncts.items in
        let made : List Ref → Took → Outcome Valued = λ objects t. claim_made p at_ t.which t.supply objects es place (m + length objects + 1) tally (count_more (pos 1) objects (put g.heap t.which (new_claim at_.context.me objects es))) g in
        let taking : List Ref → Outcome Valued = λ objects. after (take_object g.supply 2 g.heap) (made objects) in
        after_with (λ v. Unit {0}) ValuedOn (run_claimed p at_ site.claimed.items n g) (λ objects. check_each at_ (claim_tests p at_ g.heap [] objects) m MakeClaim (taking objects)) (claimed_with site.claimed.items n g) (λ objects u.
        each_with ValuedOn at_ (claim_tests p at_ g.heap [] objects) m MakeClaim (taking objects)
        (after_with (λ (t : Took). t.supply ≡ Fresh number) ValuedOn (take_object g.supply 2 g.heap) (made objects) (taken_with g.supply 2 g.heap y) (λ t z. z)))

    member_with : (c : OwnsChange) (o q : Ref) (n : ℕ) (g : Progress) → GoesOn g → FitsWith GoesOn (member_change p at_ c o q n g).end
    member_with Assigned o q n g y = y
    member_with Added o q n g y = two_with (is_listed at_ o) (wrapped at_.context.me g.heap q && may_write at_ q) Write Owns n _ y
    member_with Removed o q n g y = two_with (is_listed at_ o) (is_in q (g.heap.get o).owned) Write Owns n _ y

    members_with : (c : OwnsChange) (o : Ref) (vs : List Value) (n : ℕ) (g : Progress) → GoesOn g → FitsWith GoesOn (members_change p at_ c o vs n g).end
    members_with c o [] n g y = y
    members_with c o (v ∷ vs) n g y = after_with GoesOn GoesOn (member_change p at_ c o (referent v) n g) (λ g'. members_change p at_ c o vs (n + 2) g') (member_with c o (referent v) n g y) (λ g' z. members_with c o vs (n + 2) g' z)

    owned_with : (c : OwnsChange) (o : Ref) (vs : List Value) (n : ℕ) (g : Progress) → GoesOn g → FitsWith GoesOn (owned_change p at_ c o vs n g).end
    owned_with Assigned o vs n g y = two_with (mutable at_.context.me g.heap o) (may_write at_ o) Write Writes n _ y
    owned_with Added o vs n g y = members_with Added o vs n g y
    owned_with Removed o vs n g y = members_with Removed o vs n g y

    end_with : (c : Ref) (objects : List Ref) (n : ℕ) (tally : Tally) (g : Progress) → GoesOn g → FitsWith GoesOn (end_claim p at_ c objects n tally g).end
    end_with c objects n tally g y =
        let g1 : Progress = record g { heap = ended p at_ c objects g.heap; changed = g.changed ++ deferred_from tally.objects objects } in
        let o2 : Outcome Progress = check_each at_ (map (may_count at_ g.heap) objects) (n + 1) DestroyClaim (Gives g1) in
        check_with GoesOn at_ (may_end p at_ c objects g.heap) n DestroyClaim o2 (each_with GoesOn at_ (map (may_count at_ g.heap) objects) (n + 1) DestroyClaim (Gives g1) y)

    exchange_with : (op : Operation) (o : Ref) (q : ℕ) (vs : List Value) (n : ℕ) (g : Progress) → GoesOn g → FitsWith ValuedOn (exchange p at_ op o q vs n g).end
    exchange_with op o q vs n g y =
        let was = read p g.heap o q in
        let now = replaced op vs was in
        let m = if counts op then n + 2 else n + 1 in
        let gives : Progress → Outcome Valued = λ g'. Gives (record { value = given op was now; starting = g' }) in
        let last : Outcome Valued = after (store p at_ (InField o q) now m g) gives in
        check_with ValuedOn at_ (readable p at_ g.heap o q) n Read (check at_ (not (counts op) || in_type (type_of_field p q) now) (n + 1) Range last)
        (check_with ValuedOn at_ (not (counts op) || in_type (type_of_field p q) now) (n + 1) Range last
        (after_with GoesOn ValuedOn (store p at_ (InField o q) now m g) gives (store_with (InField o q) now m g y) (λ g' z. z)))

    convert_with : (c : Option CType) (v : Value) (n : ℕ) → FitsWith (λ (w : Value). Unit {0}) (convert_to at_ c v n).end
    convert_with c v n = fits_any (convert_to at_ c v n).end (convert_fits p at_ c v n)

    afterwards_with : (then' : InterlockedResult) (n : ℕ) (v : Valued) → ValuedOn v → FitsWith ValuedOn (afterwards p at_ then' n v).end
    afterwards_with (Plainly c) n v y = after_with (λ w. Unit {0}) ValuedOn (convert_to at_ c v.value n) (λ w. Gives (record v { value = w })) (convert_with c v.value n) (λ w u. y)
    afterwards_with (Compared c equal e d) n v y =
        let tests : Value → Value → Value = λ a b. says (if equal then same_value a b else not (same_value a b)) in
        let ends : Value → Value → Outcome Valued = λ a b. after (convert_to at_ d (tests a b) (n + conversion_checks c + checks e)) (λ w. Gives (record v { value = w })) in
        let evals : Value → Outcome Valued = λ a. after (eval p at_ v.starting.heap v.starting.locals e (n + conversion_checks c)) (ends a) in
        after_with (λ w. Unit {0}) ValuedOn (convert_to at_ c v.value n) evals (convert_with c v.value n) (λ a u.
        after_with (λ w. Unit {0}) ValuedOn (eval p at_ v.starting.heap v.starting.locals e (n + conversion_checks c)) (ends a) (eval_with v.starting.heap v.starting.locals e (n + conversion_checks c)) (λ b u2.
        after_with (λ w. Unit {0}) ValuedOn (convert_to at_ d (tests a b) (n + conversion_checks c + checks e)) (λ w. Gives (record v { value = w })) (convert_with d (tests a b) (n + conversion_checks c + checks e)) (λ w u3. y)))

    right_with : (r : RightSide) (vs : Values) → right_values p f k true r ≡ Some vs → (place : Place) (n : ℕ) (tally : Tally) (g : Progress) → GoesOn g → FitsWith ValuedOn (right_side p at_ r place n tally g).end
    right_with (Compute e) vs t place n tally g y = after_with (λ w. Unit {0}) ValuedOn (eval p at_ g.heap g.locals e n) (λ v. Gives (record { value = v; starting = g })) (eval_with g.heap g.locals e n) (λ v u. y)
    right_with (Malloc ty) vs t place n tally g y = absurd (not_both false (only_if_some (not true && is_struct p ty) (Refs (Pointer ty)) vs t).0 refl)
    right_with (NewClaim s) vs t place n tally g y =
        let b = and_then_some (slice_get p.sites.items s) (λ (c : ClaimSite). only_if (c.function == k) (Refs Claim)) vs t in
        claim_with (slice_get p.sites.items s) (subst (λ o. site_there o ≡ true) (sym b.is) refl) place n tally g y
    right_with (Interlocked e q op then') vs t place n tally g y =
        let m = n + checks e + all_checks (operands op) in
        let w = n + checks e + operation_checks op in
        let swaps : Value → List Value → Outcome Valued = λ o ws. after (exchange p at_ op (referent o) q ws m g) (λ v. afterwards p at_ then' w v) in
        let passes : Value → Outcome Valued = λ o. after (eval_all p at_ g.heap g.locals (operands op) (n + checks e)) (swaps o) in
        after_with (λ z. Unit {0}) ValuedOn (eval p at_ g.heap g.locals e n) passes (eval_with g.heap g.locals e n) (λ o u.
        after_with (λ z. Unit {0}) ValuedOn (eval_all p at_ g.heap g.locals (operands op) (n + checks e)) (swaps o) (evals_with g.heap g.locals (operands op) (n + checks e)) (λ ws u2.
        after_with ValuedOn ValuedOn (exchange p at_ op (referent o) q ws m g) (λ v. afterwards p at_ then' w v) (exchange_with op (referent o) q ws m g y) (λ v z. afterwards_with then' w v z)))

    simple_with : (s : Simple) → simple_ok p f k true s ≡ true → (n : ℕ) (tally : Tally) (g : Progress) → GoesOn g → FitsWith GoesOn (run_simple p at_ s n tally g).end
    simple_with (Assign t r) ok n tally g y =
        let v = taken p f t (right_values p f k true r) ok in
        let m = n + target_checks t + right_checks p true r in
        after_with (λ z. Unit {0}) GoesOn (left_side p at_ t n g) (λ place. after (right_side p at_ r place (n + target_checks t) tally g) (λ v. store p at_ place v.value m v.starting)) (fits_any (left_side p at_ t n g).end (left_fits p at_ t n g)) (λ place u.
        after_with ValuedOn GoesOn (right_side p at_ r place (n + target_checks t) tally g) (λ v. store p at_ place v.value m v.starting) (right_with r v.0 v.1 place (n + target_checks t) tally g y) (λ v z. store_with place v.value m v.starting z))
    simple_with (ChangeOwned c e es) ok n tally g y =
        let m = n + checks e + all_checks es.items in
        after_with (λ z. Unit {0}) GoesOn (eval p at_ g.heap g.locals e n) (λ o. after (eval_all p at_ g.heap g.locals es.items (n + checks e)) (λ vs. owned_change p at_ c (referent o) vs m g)) (eval_with g.heap g.locals e n) (λ o u.
        after_with (λ z. Unit {0}) GoesOn (eval_all p at_ g.heap g.locals es.items (n + checks e)) (λ vs. owned_change p at_ c (referent o) vs m g) (evals_with g.heap g.locals es.items (n + checks e)) (λ vs u2. owned_with c (referent o) vs m g y))
    simple_with (EndClaim q e es) ok n tally g y =
        let m = n + checks e + all_checks es.items in
        after_with (λ z. Unit {0}) GoesOn (eval p at_ g.heap g.locals e n) (λ c. after (eval_all p at_ g.heap g.locals es.items (n + checks e)) (λ vs. end_claim p at_ (referent c) (map referent vs) m tally g)) (eval_with g.heap g.locals e n) (λ c u.
        after_with (λ z. Unit {0}) GoesOn (eval_all p at_ g.heap g.locals es.items (n + checks e)) (λ vs. end_claim p at_ (referent c) (map referent vs) m tally g) (evals_with g.heap g.locals es.items (n + checks e)) (λ vs u2. end_with (referent c) (map referent vs) m tally g y))

  mutual
    inner_with : (i : Inner) → inner_ok p f k i ≡ true → (n : ℕ) (tally : Tally) (g : Progress) → GoesOn g → FitsWith GoesOn (run_inner p x os i n tally g).end
    inner_with (Inside line s) ok n tally g y = simple_with line s ok n tally g y
    inner_with (InsideIf' line e m a j b) ok n tally g y =
        let c = and_both (is_test p f e) (inner_row_ok p f k a && inner_row_ok p f k b) ok in
        let d = and_both (inner_row_ok p f k a) (inner_row_ok p f k b) c.1 in
        let left = run_row p x os a (n + checks e) tally g in
        let right = run_row p x os b (n + checks e + row_checks p a) (tally_plus tally (row_tally p a)) g in
        after_with (λ z. Unit {0}) GoesOn (eval p (inner_spot p x os line) g.heap g.locals e n) (λ v. if truth v then left else right) (eval_with line g.heap g.locals e n) (λ v u.
        either_with (truth v) left right (row_with a d.0 (n + checks e) tally g y) (row_with b d.1 (n + checks e + row_checks p a) (tally_plus tally (row_tally p a)) g y))

    row_with : {m : _} (row : Row_of-Inner m) → inner_row_ok p f k row ≡ true → (n : ℕ) (tally : Tally) (g : Progress) → GoesOn g → FitsWith GoesOn (run_row p x os row n tally g).end
    row_with end_of-Inner ok n tally g y = y
    row_with (more_of-Inner i row) ok n tally g y =
        let b = and_both (inner_ok p f k i) (inner_row_ok p f k row) ok in
        after_with GoesOn GoesOn (run_inner p x os i n tally g) (λ g'. run_row p x os row (n + inner_checks p i) (tally_plus tally (inner_tally p i)) g') (inner_with i b.0 n tally g y) (λ g' z. row_with row b.1 (n + inner_checks p i) (tally_plus tally (inner_tally p i)) g' z)

  pub list_with : (is : List Inner) → every (inner_ok p f k) is ≡ true → (n : ℕ) (tally : Tally) (g : Progress) → GoesOn g → FitsWith GoesOn (run_list p x os is n tally g).end
  list_with [] ok n tally g y = y
  list_with (i ∷ is) ok n tally g y =
      let b = and_both (inner_ok p f k i) (every (inner_ok p f k) is) ok in
      after_with GoesOn GoesOn (run_inner p x os i n tally g) (λ g'. run_list p x os is (n + inner_checks p i) (tally_plus tally (inner_tally p i)) g') (inner_with i b.0 n tally g y) (λ g' z. list_with is b.1 (n + inner_checks p i) (tally_plus tally (inner_tally p i)) g' z)
