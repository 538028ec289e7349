-- Statements that may stand in an atomic block, there and outside.
use Rattle.std.proofs.Common.{◌≡◌, ℕ, zero, suc, ◌+◌, ◌-◌, Bool, true, false, cond, not, ◌&&◌, ◌||◌, ◌==◌, nat_lt, nat_le, int_le, ◌⊎◌, inr, ⊎_elim, refl, sym, ap, ◌∙◌, subst, pos, List, [], ◌∷◌, map, length, Option, Some, None, slice_get, arith}
use Rattle.std.proofs.lemmas.Bool.{eqb-true, eq-eqb, lt-ltb, ltb-false, leb-false}
use Rattle.std.proofs.lemmas.Option.{slice_get_within}
use Rattle.object_types.specs.declared.references.Ref.{Ref}
use Rattle.object_types.specs.declared.values.Value.{Value}
use Rattle.object_types.specs.declared.values.Value.TheVariants.{Int, Ref as Refers}
use Rattle.int_ranges.specs.declared.ctype.CType.{CType}
use Rattle.int_ranges.specs.Ranges.{least_of, greatest_of}
use Rattle.method.specs.declared.program.CheckKind.TheVariants.{Range, Read, Write, Writes, Owns}
use Rattle.method.specs.declared.program.DeclaredType.{DeclaredType}
use Rattle.method.specs.declared.program.DeclaredType.TheVariants.{Integer, Pointer, Object, Claim}
use Rattle.method.specs.declared.program.Expr.{Expr}
use Rattle.method.specs.declared.program.Target.{Target}
use Rattle.method.specs.declared.program.Target.TheVariants.{Local, FieldOf}
use Rattle.method.specs.declared.program.Operation.{Operation}
use Rattle.method.specs.declared.program.Operation.TheVariants.{CompareExchange, Exchange, Increment, Decrement}
use Rattle.method.specs.declared.program.InterlockedResult.{InterlockedResult}
use Rattle.method.specs.declared.program.InterlockedResult.TheVariants.{Plainly, Compared}
use Rattle.method.specs.declared.program.RightSide.{RightSide}
use Rattle.method.specs.declared.program.RightSide.TheVariants.{Compute, Malloc, NewClaim, Interlocked}
use Rattle.method.specs.declared.program.OwnsChange.{OwnsChange}
use Rattle.method.specs.declared.program.OwnsChange.TheVariants.{Assigned, Added, Removed}
use Rattle.method.specs.declared.program.Simple.{Simple}
use Rattle.method.specs.declared.program.Simple.TheVariants.{Assign, ChangeOwned, EndClaim}
use Rattle.method.specs.declared.program.ClaimSite.{ClaimSite}
use Rattle.method.specs.declared.program.StructInfo.{StructInfo}
use Rattle.method.specs.declared.program.FieldInfo.{FieldInfo}
use Rattle.method.specs.declared.program.VariableInfo.{VariableInfo}
use Rattle.method.specs.declared.program.FunctionInfo.{FunctionInfo}
use Rattle.method.specs.declared.program.Program.{Program}
use Rattle.object_types.specs.References.{null, is_null, is_reference, is_thread}
use Rattle.object_types.specs.Values.{referent, truth, says, same_value, or_zero, kept}
use Rattle.object_types.specs.Sets.{every, is_in, with_member, without_member, set_of}
use Rattle.object_types.specs.Heap.{Heap, Record, nothing, put, write, hand_over, is_closed, closed_in, mutable, wrapped}
use Rattle.method.specs.Tables.{local, in_type, zero_of, type_of_field, field_type, is_field_of, belongs, read, struct_of, is_struct, is_volatile, is_approved, sort_of_type}
use Rattle.method.specs.Invariants.{Inv}
use Rattle.method.specs.WellFormed.{is_value, has_sort}
use Rattle.method.specs.Typing.{Values, Ints, Nulls, Refs, declared, fits, are_ints, are_refs, only_if, and_then, truth_values, point_to, values, test, has_type, is_ref, all_refs, is_pointer, variable_takes, field_takes, takes, converted_values, operands_fit, afterwards_values, interlocked_values, right_values, change_allowed, simple_ok, is_type, WellTyped}
use Rattle.method.specs.Expressions.{End, Misfit, Failed, Gave, Outcome, Gives, Spot, check, is_listed, may_write, readable, after, eval, eval_all, checks, all_checks}
use Rattle.method.specs.Actions.{Place, InLocal, InField, Progress, heap_of, may_count, member_change, members_change, Valued, Took, Tally, no_choices, fields_fit, contents_fit, malloc_fits, fields_from, kept_at, new_object, first_field, replaced, given, operands, counts, stored_heap, store, left_side, malloc, make_claim, exchange, convert_to, afterwards, right_side, take_object, owned_change, end_claim, run_simple, right_checks, right_fits, simple_fits, target_checks, operation_checks, conversion_checks}
use Rattle.method.proofs.Global.{and_both, both_and, same_ref_self, same_value_is}
use Rattle.method.proofs.Empty.{zero_in_type}
use Rattle.machine_laws.proofs.Outcomes.{OnEnd, OnGave, after_gave, after_any, check_gave, end_map}
use Rattle.machine_laws.proofs.Typed.{not_both, or_cases, or_left, or_right, true_from_ne_false, null_is, is_of, of_declared, to_type, pointer_at, field_read, some_is, and_then_some, only_if_some, says_of, le_self, convert_of, struct_type, Env, eval_of}
use Rattle.machine_laws.proofs.Heaps.{not-true, at_put}
use Rattle.machine_laws.proofs.Records.{IsRecord, value_of_type, kept_again, kept_typed, kept_some, typed_sorted}
use Rattle.machine_laws.proofs.Links.{quiet_put}
use Rattle.machine_laws.proofs.Claiming.{thread_reference}
use Rattle.machine_laws.proofs.Apart.{Apart, apart_same, apart_none}
use Rattle.machine_laws.proofs.Parts.{is_free, thread_free, null_free, loose, Part, Onward, onward_same, same_part}
use Rattle.machine_laws.proofs.Steps.{none_new, noted, tested_by, Fine, fine_same, fine_trans, ListedClosed, still_listed, PlaceOk, store_fine}
use Rattle.machine_laws.proofs.Owns.{owned_fine}
use Rattle.machine_laws.proofs.Claims.{Taken, take_object_gave, IsClean, Right, Ended, make_claim_gave, end_claim_gave}

ends_both : {A : Type 0} (e : End A) (P Q : A → Type 0) → OnEnd e P → OnEnd e Q → OnEnd e (λ a. P a × Q a)
ends_both Misfit P Q x y = tt
ends_both (Failed n kind line) P Q x y = tt
ends_both (Gave a) P Q x y = (x, y)

pub both_gave : {A : Type 0} (o : Outcome A) (P Q : A → Type 0) → OnGave o P → OnGave o Q → OnGave o (λ a. P a × Q a)
both_gave o P Q x y = ends_both o.end P Q x y

pub test_some : (p : Program) (f : FunctionInfo) (o : Option Values) (ok : Values → Bool) → test p f o ok ≡ true → (u : Values) × (o ≡ Some u) × (ok u ≡ true)
test_some p f None ok h = absurd (cc)
test_some p f (Some u) ok h = (u, refl, h)

pub is_of_value : (p : Program) (u : Values) (v : Value) → is_of p u v ≡ true → is_value v ≡ true
is_of_value p u (Int z) e = refl
is_of_value p (Ints a b) (Refers r) e = absurd (cc)
is_of_value p Nulls (Refers r) e = subst (λ (x : Ref). is_reference x ≡ true) (sym (null_is r e)) refl
is_of_value p (Refs ty) (Refers r) e = let b = and_both (is_type p ty) (in_type ty (Refers r)) e in value_of_type p ty (Refers r) b.0 b.1

pub fits_self : (ty : DeclaredType) → fits (declared ty) ty ≡ true
fits_self (Integer c) = both_and (int_le (least_of c) (least_of c)) (int_le (greatest_of c) (greatest_of c)) (le_self (least_of c)) (le_self (greatest_of c))
fits_self (Pointer n) = eq-eqb n n refl
fits_self Object = refl
fits_self Claim = refl

-- The contents of a new object.

fit_length : (p : Program) (first n : ℕ) (vs : List Value) → fields_fit p first n vs ≡ true → length vs ≡ n
fit_length p first zero [] e = refl
fit_length p first zero (v ∷ vs) e = absurd (cc)
fit_length p first (suc n) [] e = absurd (cc)
fit_length p first (suc n) (v ∷ vs) e = let r = fit_length p (first + 1) n vs (and_both (in_type (type_of_field p first) v) (fields_fit p (first + 1) n vs) e).1 in omega (arith, r)

fit_at : (p : Program) (first n : ℕ) (vs : List Value) (j : ℕ) (v : Value) → fields_fit p first n vs ≡ true → slice_get vs j ≡ Some v → in_type (type_of_field p (first + j)) v ≡ true
fit_at p first n [] j v e g = absurd (cc)
fit_at p first zero (w ∷ ws) j v e g = absurd (cc)
fit_at p first (suc n) (w ∷ ws) zero v e g =
    let z : w ≡ v = some_is w v g in let m : first ≡ first + 0 = omega arith in
    subst (λ k. in_type (type_of_field p k) v ≡ true) m
    (subst (λ (x : Value). in_type (type_of_field p first) x ≡ true) z (and_both (in_type (type_of_field p first) w) (fields_fit p (first + 1) n ws) e).0)
fit_at p first (suc n) (w ∷ ws) (suc j) v e g =
    let m : first + 1 + j ≡ first + suc j = omega arith in
    subst (λ k. in_type (type_of_field p k) v ≡ true) m (fit_at p (first + 1) n ws j v (and_both (in_type (type_of_field p first) w) (fields_fit p (first + 1) n ws) e).1 g)

from_at :
    (first : ℕ) (vs : List Value) (g : ℕ) (Q : Option Value → Type 0) → Q None → ((v : Value) → slice_get vs (g - first) ≡ Some v → nat_lt g first ≡ false → Q (kept v)) →
    Q (fields_from first vs g)
from_at first vs g Q none some_ = by (nat_lt g first) refl
  where
    at : (o : Option Value) → slice_get vs (g - first) ≡ o → nat_lt g first ≡ false → Q (kept_at o)
    at None e n = none
    at (Some v) e n = some_ v e n

    by : (b : Bool) → nat_lt g first ≡ b → Q (cond b None (kept_at (slice_get vs (g - first))))
    by true e = none
    by false e = at (slice_get vs (g - first)) refl e

info_at : (o : Option FieldInfo) (ty : ℕ) → belongs o ty ≡ true → (i : FieldInfo) × (o ≡ Some i)
info_at None ty e = absurd (cc)
info_at (Some i) ty e = (i, refl)

module _ (p : Program) (typed : WellTyped p) where
  -- a place of the contents is a field of the struct
  in_struct :
      (ty : ℕ) (s : StructInfo) (vs : List Value) (g : ℕ) (v : Value) → struct_of p ty ≡ Some s → fields_fit p s.first_field s.fields vs ≡ true →
      slice_get vs (g - s.first_field) ≡ Some v → nat_lt g s.first_field ≡ false → is_field_of p g ty ≡ true
  in_struct ty s vs g v is e got out =
      let w = slice_get_within vs (g - s.first_field) v got in
      let l = fit_length p s.first_field s.fields vs e in
      typed.fields ty g s is ∙ both_and (nat_le s.first_field g) (nat_lt g (s.first_field + s.fields))
      (true_from_ne_false (nat_le s.first_field g) (λ b. let x = leb-false s.first_field g b in let y = ltb-false g s.first_field out in absurd (omega (arith, x, y))))
      (let y = ltb-false g s.first_field out in lt-ltb g (s.first_field + s.fields) (omega (arith, w, l, y)))

  new_record :
      (ty : ℕ) (s : StructInfo) (vs : List Value) (me o : Ref) → struct_of p ty ≡ Some s → contents_fit p (struct_of p ty) vs ≡ true → is_struct p ty ≡ true →
      is_thread me ≡ true → o.ty == ty ≡ true → IsRecord p o (new_object me (first_field (struct_of p ty)) vs)
  new_record ty s vs me o is fit st th e =
      let q = eqb-true o.ty ty e in
      let first : first_field (struct_of p ty) ≡ s.first_field = ap first_field is in
      let fit' : fields_fit p s.first_field s.fields vs ≡ true = sym (ap (λ x. contents_fit p x vs) is) ∙ fit in
      subst (λ n. IsRecord p o (new_object me n vs)) (sym first) (record {
        owned_ordered = refl;
        listed_ordered = refl;
        shapes_ordered = refl;
        entries = refl;
        own_fields = λ g n. from_at s.first_field vs g (λ x. x ≡ None) refl (λ v got out. absurd (not_both (is_field_of p g o.ty) (ap (is_field_of p g) q ∙ in_struct ty s vs g v is fit' got out) n));
        kept_fields = λ g w. from_at s.first_field vs g (λ x. x ≡ Some w → kept w ≡ Some w) (λ z. absurd (cc)) (λ v got out z. kept_again v w z);
        nowhere_else = λ n. absurd (not_both (is_reference o) (ap (λ m. not (m == 0) || (o.serial == 0)) q ∙ ap (λ b. not b || (o.serial == 0)) (struct_type p ty st).0) n);
        owner_is = thread_reference me th;
        owned_are = refl;
        listed_are = refl;
        values_are = λ g w. from_at s.first_field vs g (λ x. x ≡ Some w → has_sort (sort_of_type (type_of_field p g)) w ≡ true) (λ z. absurd (cc)) (λ v got out z.
            let i = info_at (slice_get p.fields.items g) ty (in_struct ty s vs g v is fit' got out) in
            let k = at_place s vs g v fit' got out in
            subst (λ (x : Value). has_sort (sort_of_type (type_of_field p g)) x ≡ true) (kept_some v w z)
            (typed_sorted (type_of_field p g) v k (value_of_type p i.0.ty v (typed.field_types g i.0 i.1) (subst (λ t. in_type t v ≡ true) (ap field_type i.1) k))));
        claims_list = λ n. (refl, refl);
        fields = λ g n. from_at s.first_field vs g (λ x. in_type (type_of_field p g) (or_zero (zero_of (type_of_field p g)) x) ≡ true)
            (zero_in_type (type_of_field p g)) (λ v got out. kept_typed (type_of_field p g) v (at_place s vs g v fit' got out));
        no_null = λ n. absurd (let z : o.ty ≡ 0 = ap (λ (x : Ref). x.ty) (null_is o n) in not_both (ty == 0) (eq-eqb ty 0 (sym q ∙ z)) (struct_type p ty st).0);
        no_threads = λ n. absurd (not_both (ty == 1) (eq-eqb ty 1 (sym q ∙ eqb-true o.ty 1 n)) (struct_type p ty st).1);
        absent = λ n. absurd (cc);
        opened = λ n. (th, refl);
        freed = λ n. absurd (cc);
        made = λ n c. absurd (cc);
      })
    where
      at_place :
          (s : StructInfo) (vs : List Value) (g : ℕ) (v : Value) → fields_fit p s.first_field s.fields vs ≡ true → slice_get vs (g - s.first_field) ≡ Some v →
          nat_lt g s.first_field ≡ false → in_type (type_of_field p g) v ≡ true
      at_place s vs g v fit got out =
          let y = ltb-false g s.first_field out in
          let m : s.first_field + (g - s.first_field) ≡ g = omega (arith, y) in
          subst (λ k. in_type (type_of_field p k) v ≡ true) m (fit_at p s.first_field s.fields vs (g - s.first_field) v fit got)

pub cond_some : {A : Type 0} (b : Bool) (x : Option A) (v : A) → cond b x None ≡ Some v → (b ≡ true) × (x ≡ Some v)
cond_some true x v e = (refl, e)
cond_some false x v e = absurd (cc)

pub same_value_to : (v w : Value) → same_value v w ≡ true → truth v ≡ truth w
same_value_to v w e = ap truth (same_value_is v w e)

contents_some : (p : Program) (o : Option StructInfo) (vs : List Value) → contents_fit p o vs ≡ true → (s : StructInfo) × (o ≡ Some s)
contents_some p None vs e = absurd (cc)
contents_some p (Some s) vs e = (s, refl)

pub either_outcome : (b : Bool) (o1 o2 : Outcome Progress) (Q : Progress → Type 0) → OnGave o1 Q → OnGave o2 Q → OnGave (cond b o1 o2) Q
either_outcome true o1 o2 Q x y = x
either_outcome false o1 o2 Q x y = y

module _ (p : Program) (typed : WellTyped p) (f : FunctionInfo) (at_ : Spot) (thread : is_thread at_.context.me ≡ true) where
  abbrev RightOf : Place → Values → Progress → Valued → Type 0
  RightOf place vs g v = Right p f at_ place vs g v

  abbrev FineOf : Progress → Progress → Type 0
  FineOf g g' = Fine p f at_.context (is_listed at_) g g'

  -- A new object.

  module _ (g : Progress) (env : Env p f g.heap g.locals) (ty : ℕ) (st : is_struct p ty ≡ true) (place : Place) where
    null_value : is_of p (Refs (Pointer ty)) (Refers null) ≡ true
    unfolding in_type
    null_value = both_and (is_struct p ty) (is_null null || (0 == ty)) st (or_left (is_null null) (0 == ty) (same_ref_self null))

    new_value : (o : Ref) → o.ty == ty ≡ true → is_of p (Refs (Pointer ty)) (Refers o) ≡ true
    unfolding in_type
    new_value o e = both_and (is_struct p ty) (is_null o || (o.ty == ty)) st (or_right (is_null o) (o.ty == ty) e)

    new_fine :
        (s : StructInfo) (vs : List Value) (t : Took) → struct_of p ty ≡ Some s → contents_fit p (struct_of p ty) vs ≡ true → Taken ty g.heap t →
        FineOf g (record g { heap = put g.heap t.which (new_object at_.context.me (first_field (struct_of p ty)) vs); supply = t.supply })
    new_fine s vs t is fit new =
        let o = t.which in
        let r = new_object at_.context.me (first_field (struct_of p ty)) vs in
        let none : g.heap.get o ≡ nothing = env.heap.absent o new.absent in
        let not_closed : closed_in g.heap o ≡ false = ap is_closed new.absent in
        let free_was : is_free (is_listed at_) (g.heap.get o).owner ≡ true = ap (λ (x : Record). is_free (is_listed at_) x.owner) none ∙ null_free (is_listed at_) in
        record {
          ready = record {
            heap = quiet_put p g.heap o r env.heap (record {
              pivot = new_record p typed ty s vs at_.context.me o is fit st thread new.type_is;
              closed = sym not_closed;
              owner = λ c. absurd (not_both (closed_in g.heap o) c not_closed);
              owned = λ c. absurd (not_both (closed_in g.heap o) c not_closed);
              listed = λ c. absurd (not_both (closed_in g.heap o) c not_closed);
              count = sym (ap (λ (x : Record). x.count) none);
            });
            types = env.types;
            locals = env.locals;
          };
          parts = at_put (λ q x. Part p (is_listed at_) (tested_by (is_listed at_) g) q (g.heap.get q) x) g.heap o r
              (record {
                owner = inr (record { from = free_was; to = thread_free (is_listed at_) at_.context.me thread });
                kept = inr (record { from = free_was; to = thread_free (is_listed at_) at_.context.me thread });
                fixed = λ c d. absurd (not_both (closed_in g.heap o) c not_closed);
                change = loose not_closed refl;
              })
              (λ q d. same_part p (is_listed at_) (tested_by (is_listed at_) g) q (g.heap.get q));
          onward = at_put (λ q x. Onward q (g.heap.get q) x) g.heap o r
              (record { freed = λ e. cc (new.absent, e); closed = λ e. absurd (not_both (closed_in g.heap o) e not_closed) })
              (λ q d. onward_same q (g.heap.get q) (g.heap.get q) refl);
          apart = at_put (λ q x. Apart p at_.context none_new q (g.heap.get q) x) g.heap o r
              (apart_none p at_.context none_new o (g.heap.get o) r (ap (λ (x : Record). is_thread x.owner) none) (λ w th ne nn e. ne (sym e)))
              (λ q d. apart_same p at_.context none_new q (g.heap.get q));
          grows = λ q e. e;
          started = refl;
        }

    pub malloc_gave : (choices : List Value) → malloc_fits p ty choices ≡ true → OnGave (malloc p at_ ty choices g) (RightOf place (Refs (Pointer ty)) g)
    malloc_gave [] fit = tt
    malloc_gave (c ∷ vs) fit = by (truth c) refl
      where
        done : Took → Valued
        done t = record { value = Refers t.which; starting = record g { heap = put g.heap t.which (new_object at_.context.me (first_field (struct_of p ty)) vs); supply = t.supply } }

        contents : truth c ≡ true → contents_fit p (struct_of p ty) vs ≡ true
        contents e = ⊎_elim
            (λ a. absurd (cc (same_value_to c (Int (pos 0)) (and_both (same_value c (Int (pos 0))) (no_choices vs) a).0, e)))
            (λ a. (and_both (same_value c (Int (pos 1))) (contents_fit p (struct_of p ty) vs) a).1)
            (or_cases (same_value c (Int (pos 0)) && no_choices vs) (same_value c (Int (pos 1)) && contents_fit p (struct_of p ty) vs) fit)

        by :
            (b : Bool) → truth c ≡ b →
            OnGave (cond b (after (take_object g.supply ty g.heap)
            (λ t. Gives (record {
              value = Refers t.which;
              starting = record g {
                heap = put g.heap t.which
                    (new_object at_.context.me (first_field (struct_of p ty)) vs);
                supply = t.supply;
              };
            }))) (Gives (record { value = Refers null; starting = g })))
            (RightOf place (Refs (Pointer ty)) g)
        by true e =
            let fits_it = contents e in
            let s = contents_some p (struct_of p ty) vs fits_it in
            after_gave (take_object g.supply ty g.heap)
            (λ t. Gives (record {
              value = Refers t.which;
              starting = record g {
                heap = put g.heap t.which
                    (new_object at_.context.me (first_field (struct_of p ty)) vs);
                supply = t.supply;
              };
            })) (Taken ty g.heap) (RightOf place (Refs (Pointer ty)) g)
            (take_object_gave p g.supply ty g.heap env.heap)
            (λ t new. record { value = new_value t.which new.type_is; fine = new_fine s.0 vs t s.1 fits_it new; tests = λ out clean o x. absurd (clean o x) })
        by false e = record { value = null_value; fine = fine_same p f at_.context (is_listed at_) g env; tests = λ out clean o x. absurd (clean o x) }

  -- Interlocked calls.

  abbrev OperandsOk : Operation → DeclaredType → List Value → Type 0
  OperandsOk (CompareExchange new old) ty vs = in_type ty (local vs 0) ≡ true
  OperandsOk (Exchange new) ty vs = in_type ty (local vs 0) ≡ true
  OperandsOk Increment ty vs = Unit {0}
  OperandsOk Decrement ty vs = Unit {0}

  typed_expr : (g : Progress) → Env p f g.heap g.locals → (e : Expr) (ty : DeclaredType) (n : ℕ) → has_type p f e ty ≡ true → OnGave (eval p at_ g.heap g.locals e n) (λ v. in_type ty v ≡ true)
  typed_expr g env e ty n h =
      let t = test_some p f (values p f e) (λ v. fits v ty) h in
      end_map (eval p at_ g.heap g.locals e n).end (λ v. is_of p t.0 v ≡ true) (λ v. in_type ty v ≡ true) (λ v i. to_type p t.0 ty v t.2 i) (eval_of p typed f at_ g.heap g.locals env e t.0 t.1 n)

  pub operands_gave :
      (g : Progress) → Env p f g.heap g.locals → (op : Operation) (ty : DeclaredType) (n : ℕ) → operands_fit p f op ty ≡ true →
      OnGave (eval_all p at_ g.heap g.locals (operands op) n) (OperandsOk op ty)
  operands_gave g env (CompareExchange new old) ty n h =
      let b = and_both (has_type p f new ty) (test p f (values p f old) are_ints) h in
      after_gave (eval p at_ g.heap g.locals new n) (λ v. after (eval_all p at_ g.heap g.locals (old ∷ []) (n + checks new)) (λ vs. Gives (v ∷ vs)))
      (λ v. in_type ty v ≡ true) (OperandsOk (CompareExchange new old) ty) (typed_expr g env new ty n b.0) (λ v i.
      after_any (eval_all p at_ g.heap g.locals (old ∷ []) (n + checks new)) (λ vs. Gives (v ∷ vs)) (OperandsOk (CompareExchange new old) ty) (λ vs. i))
  operands_gave g env (Exchange new) ty n h =
      after_gave (eval p at_ g.heap g.locals new n) (λ v. after (eval_all p at_ g.heap g.locals [] (n + checks new)) (λ vs. Gives (v ∷ vs)))
      (λ v. in_type ty v ≡ true) (OperandsOk (Exchange new) ty) (typed_expr g env new ty n h) (λ v i. i)
  operands_gave g env Increment ty n h = tt
  operands_gave g env Decrement ty n h = tt

  replaced_typed :
      (op : Operation) (ty : DeclaredType) (vs : List Value) (was : Value) → OperandsOk op ty vs → in_type ty was ≡ true →
      not (counts op) || in_type ty (replaced op vs was) ≡ true → in_type ty (replaced op vs was) ≡ true
  replaced_typed (CompareExchange new old) ty vs was ok w e = by (same_value was (local vs 1))
    where
      by : (b : Bool) → in_type ty (cond b (local vs 0) was) ≡ true
      by true = ok
      by false = w
  replaced_typed (Exchange new) ty vs was ok w e = ok
  replaced_typed Increment ty vs was ok w e = e
  replaced_typed Decrement ty vs was ok w e = e

  given_typed : (op : Operation) (ty : DeclaredType) (was now : Value) → in_type ty was ≡ true → in_type ty now ≡ true → in_type ty (given op was now) ≡ true
  given_typed (CompareExchange new old) ty was now a b = a
  given_typed (Exchange new) ty was now a b = a
  given_typed Increment ty was now a b = b
  given_typed Decrement ty was now a b = b

  abbrev Exchanged : Progress → FieldInfo → Valued → Type 0
  Exchanged g i v = (is_of p (declared i.ty) v.value ≡ true) × FineOf g v.starting

  pub exchange_gave :
      (g : Progress) → Env p f g.heap g.locals → ListedClosed (is_listed at_) g.heap → (op : Operation) (o : Ref) (x : ℕ) (i : FieldInfo) (vs : List Value) (n : ℕ) →
      slice_get p.fields.items x ≡ Some i → (is_null o ≡ true) ⊎ (o.ty == i.of ≡ true) → OperandsOk op i.ty vs → OnGave (exchange p at_ op o x vs n g) (Exchanged g i)
  exchange_gave g env lists op o x i vs n is of_it ok =
      let was = read p g.heap o x in
      let now = replaced op vs was in
      let m = cond (counts op) (n + 2) (n + 1) in
      let ty : type_of_field p x ≡ i.ty = ap field_type is in
      let was_typed : in_type i.ty was ≡ true = field_read p g.heap o x i env.heap is of_it in
      let last = after (store p at_ (InField o x) now m g) (λ g'. Gives (record { value = given op was now; starting = g' })) in
      check_gave at_ (readable p at_ g.heap o x) n Read (check at_ (not (counts op) || in_type (type_of_field p x) now) (n + 1) Range last) (Exchanged g i) (λ r.
      check_gave at_ (not (counts op) || in_type (type_of_field p x) now) (n + 1) Range last (Exchanged g i) (λ e.
      let now_typed : in_type i.ty now ≡ true = replaced_typed op i.ty vs was ok was_typed (subst (λ t. not (counts op) || in_type t now ≡ true) ty e) in
      after_gave (store p at_ (InField o x) now m g) (λ g'. Gives (record { value = given op was now; starting = g' })) (FineOf g) (Exchanged g i)
      (store_fine p typed f at_ thread (InField o x) (declared i.ty) now m g env lists (i, is, of_it, fits_self i.ty) (of_declared p i.ty now (typed.field_types x i is) now_typed)) (λ g' y.
      (of_declared p i.ty (given op was now) (typed.field_types x i is) (given_typed op i.ty was now was_typed now_typed), y))))

  abbrev Converted : Values → Valued → Valued → Type 0
  Converted vs v w = (is_of p vs w.value ≡ true) × (w.starting ≡ v.starting)

  pub convert_gave :
      (g : Progress) → Env p f g.heap g.locals → (c : Option CType) (u : Values) (v : Value) (n : ℕ) → are_ints u ≡ true → is_of p u v ≡ true →
      OnGave (convert_to at_ c v n) (λ w. is_of p (converted_values p f c u) w ≡ true)
  convert_gave g env None u v n a e = e
  convert_gave g env (Some c) u v n a e = convert_of p typed f at_ g.heap g.locals env c u v n a e

  pub afterwards_gave :
      (then' : InterlockedResult) (u vs : Values) (v : Valued) (n : ℕ) → Env p f v.starting.heap v.starting.locals → are_ints u ≡ true → is_of p u v.value ≡ true →
      afterwards_values p f then' u ≡ Some vs → OnGave (afterwards p at_ then' n v) (Converted vs v)
  afterwards_gave (Plainly c) u vs v n env a e k =
      after_gave (convert_to at_ c v.value n) (λ w. Gives (record v { value = w })) (λ w. is_of p (converted_values p f c u) w ≡ true) (Converted vs v)
      (convert_gave v.starting env c u v.value n a e) (λ w i.
      (subst (λ x. is_of p x w ≡ true) (some_is (converted_values p f c u) vs k) i, refl))
  afterwards_gave (Compared c equal x d) u vs v n env a e k =
      let b = and_then_some (values p f x) (λ w. only_if (are_ints w) (converted_values p f d truth_values)) vs k in
      let h = only_if_some (are_ints b.first) (converted_values p f d truth_values) vs b.gives in
      after_any (convert_to at_ c v.value n) (λ l. after (eval p at_ v.starting.heap v.starting.locals x (n + conversion_checks c))
      (λ r. after (convert_to at_ d (says (cond equal (same_value l r) (not (same_value l r)))) (n + conversion_checks c + checks x)) (λ w. Gives (record v { value = w })))) (Converted vs v) (λ l.
      after_any (eval p at_ v.starting.heap v.starting.locals x (n + conversion_checks c))
      (λ r. after (convert_to at_ d (says (cond equal (same_value l r) (not (same_value l r)))) (n + conversion_checks c + checks x)) (λ w. Gives (record v { value = w }))) (Converted vs v) (λ r.
      let s = cond equal (same_value l r) (not (same_value l r)) in
      after_gave (convert_to at_ d (says s) (n + conversion_checks c + checks x)) (λ w. Gives (record v { value = w })) (λ w. is_of p (converted_values p f d truth_values) w ≡ true) (Converted vs v)
      (convert_gave v.starting env d truth_values (says s) (n + conversion_checks c + checks x) refl (says_of p typed f s)) (λ w i.
      (subst (λ x. is_of p x w ≡ true) h.1 i, refl))))

  -- Left sides.

  abbrev Placed : Values → Place → Type 0
  Placed vs place = PlaceOk p typed f at_ thread place vs

  pub variable_inversion : (o : Option VariableInfo) (vs : Values) → variable_takes p f o (Some vs) ≡ true → (w : VariableInfo) × (o ≡ Some w) × (fits vs w.ty ≡ true)
  variable_inversion None vs e = absurd (cc)
  variable_inversion (Some w) vs e = (w, refl, e)

  pub field_takes_inversion :
      (o : Option FieldInfo) (u vs : Values) → field_takes p f o u (Some vs) ≡ true →
      (i : FieldInfo) × (o ≡ Some i) × (point_to (λ n. n == i.of) u ≡ true) × (fits vs i.ty ≡ true)
  field_takes_inversion None u vs e = absurd (cc)
  field_takes_inversion (Some i) u vs e = let b = and_both (point_to (λ n. n == i.of) u) (fits vs i.ty) e in (i, refl, b.0, b.1)

  pub left_gave : (g : Progress) → Env p f g.heap g.locals → (t : Target) (vs : Values) (n : ℕ) → takes p f t (Some vs) ≡ true → OnGave (left_side p at_ t n g) (Placed vs)
  left_gave g env (Local i) vs n e = variable_inversion (slice_get f.variables.items i) vs e
  left_gave g env (FieldOf x fl) vs n e =
      let t = test_some p f (values p f x) (λ v. field_takes p f (slice_get p.fields.items fl) v (Some vs)) e in
      let i = field_takes_inversion (slice_get p.fields.items fl) t.0 vs t.2 in
      after_gave (eval p at_ g.heap g.locals x n) (λ v. Gives (InField (referent v) fl)) (λ v. is_of p t.0 v ≡ true) (Placed vs) (eval_of p typed f at_ g.heap g.locals env x t.0 t.1 n) (λ v k.
      (i.0, i.1, pointer_at p (λ n. n == i.0.of) t.0 v i.2 k, i.3))

  takes_none : (o : Option VariableInfo) → variable_takes p f o None ≡ true → ⊥
  takes_none None e = cc
  takes_none (Some w) e = cc

  field_takes_none : (o : Option FieldInfo) (u : Values) → field_takes p f o u None ≡ true → ⊥
  field_takes_none None u e = cc
  field_takes_none (Some i) u e = let b = (and_both (point_to (λ n. n == i.of) u) false e).1 in cc

  pub takes_some : (t : Target) (o : Option Values) → takes p f t o ≡ true → (vs : Values) × (o ≡ Some vs) × (takes p f t (Some vs) ≡ true)
  takes_some t (Some vs) e = (vs, refl, e)
  takes_some (Local i) None e = absurd (takes_none (slice_get f.variables.items i) e)
  takes_some (FieldOf x fl) None e =
      let t = test_some p f (values p f x) (λ v. field_takes p f (slice_get p.fields.items fl) v None) e in
      absurd (field_takes_none (slice_get p.fields.items fl) t.0 t.2)

  -- Right sides.

  interlocked_gave :
      (g : Progress) → Env p f g.heap g.locals → ListedClosed (is_listed at_) g.heap →
      (x : Expr) (fl : ℕ) (op : Operation) (then' : InterlockedResult) (vs : Values) (place : Place) (n : ℕ) (tally : Tally) (o : Option FieldInfo) →
      slice_get p.fields.items fl ≡ o → at_.inside ≡ true → interlocked_values p f x o op then' ≡ Some vs →
      OnGave (right_side p at_ (Interlocked x fl op then') place n tally g) (RightOf place vs g)
  interlocked_gave g env lists x fl op then' vs place n tally None is ins e = absurd (cc)
  interlocked_gave g env lists x fl op then' vs place n tally (Some i) is ins e =
      let c = cond_some (is_pointer p f (λ n. n == i.of) x && (i.is_volatile && (are_ints (declared i.ty) && operands_fit p f op i.ty))) (afterwards_values p f then' (declared i.ty)) vs e in
      let c1 = and_both (is_pointer p f (λ n. n == i.of) x) (i.is_volatile && (are_ints (declared i.ty) && operands_fit p f op i.ty)) c.0 in
      let c2 = and_both i.is_volatile (are_ints (declared i.ty) && operands_fit p f op i.ty) c1.1 in
      let c3 = and_both (are_ints (declared i.ty)) (operands_fit p f op i.ty) c2.1 in
      let t = test_some p f (values p f x) (point_to (λ n. n == i.of)) c1.0 in
      let m = n + checks x + all_checks (operands op) in
      let l = n + checks x + operation_checks op in
      after_gave (eval p at_ g.heap g.locals x n)
      (λ o. after (eval_all p at_ g.heap g.locals (operands op) (n + checks x)) (λ ws. after (exchange p at_ op (referent o) fl ws m g) (λ v. afterwards p at_ then' l v)))
      (λ v. is_of p t.0 v ≡ true) (RightOf place vs g) (eval_of p typed f at_ g.heap g.locals env x t.0 t.1 n) (λ o k.
      after_gave (eval_all p at_ g.heap g.locals (operands op) (n + checks x)) (λ ws. after (exchange p at_ op (referent o) fl ws m g) (λ v. afterwards p at_ then' l v))
      (OperandsOk op i.ty) (RightOf place vs g) (operands_gave g env op i.ty (n + checks x) c3.1) (λ ws ok.
      after_gave (exchange p at_ op (referent o) fl ws m g) (λ v. afterwards p at_ then' l v) (Exchanged g i) (RightOf place vs g)
      (exchange_gave g env lists op (referent o) fl i ws m is (pointer_at p (λ n. n == i.of) t.0 o t.2 k) ok) (λ v y.
      end_map (afterwards p at_ then' l v).end (Converted vs v) (RightOf place vs g)
      (λ w z. record { value = z.0; fine = subst (FineOf g) (sym z.1) y.1; tests = λ out. absurd (not_both at_.inside ins out) })
      (afterwards_gave then' (declared i.ty) vs v l y.1.ready c3.0 y.0 c.1))))

  claim_site_gave :
      (g : Progress) → Env p f g.heap g.locals → ListedClosed (is_listed at_) g.heap →
      (k num : ℕ) (vs : Values) (place : Place) (n : ℕ) (tally : Tally) (o : Option ClaimSite) → slice_get p.sites.items num ≡ o →
      slice_get p.functions.items k ≡ Some f → and_then o (λ s. only_if (s.function == k) (Refs Claim)) ≡ Some vs →
      OnGave (make_claim p at_ o place n tally g) (RightOf place vs g)
  claim_site_gave g env lists k num vs place n tally None is fis e = absurd (cc)
  claim_site_gave g env lists k num vs place n tally (Some s) is fis e =
      let c = only_if_some (s.function == k) (Refs Claim) vs e in
      subst (λ w. OnGave (make_claim p at_ (Some s) place n tally g) (RightOf place w g)) c.1
      (make_claim_gave p typed f at_ thread g env lists num s place n tally is (ap (slice_get p.functions.items) (eqb-true s.function k c.0) ∙ fis))

  pub right_gave :
      (g : Progress) → Env p f g.heap g.locals → ListedClosed (is_listed at_) g.heap → (k : ℕ) → slice_get p.functions.items k ≡ Some f →
      (r : RightSide) (vs : Values) (place : Place) (n : ℕ) (tally : Tally) → (at_.inside ≡ false → right_fits p r at_.choices ≡ true) →
      right_values p f k at_.inside r ≡ Some vs → OnGave (right_side p at_ r place n tally g) (RightOf place vs g)
  right_gave g env lists k fis (Compute x) vs place n tally fit e =
      after_gave (eval p at_ g.heap g.locals x n) (λ v. Gives (record { value = v; starting = g })) (λ v. is_of p vs v ≡ true) (RightOf place vs g)
      (eval_of p typed f at_ g.heap g.locals env x vs e n) (λ v i.
      record { value = i; fine = fine_same p f at_.context (is_listed at_) g env; tests = λ out clean o z. absurd (clean o z) })
  right_gave g env lists k fis (Malloc ty) vs place n tally fit e =
      let c = only_if_some (not at_.inside && is_struct p ty) (Refs (Pointer ty)) vs e in
      let b = and_both (not at_.inside) (is_struct p ty) c.0 in
      subst (λ w. OnGave (malloc p at_ ty at_.choices g) (RightOf place w g)) c.1 (malloc_gave g env ty b.1 place at_.choices (fit (not-true at_.inside b.0)))
  right_gave g env lists k fis (NewClaim num) vs place n tally fit e = claim_site_gave g env lists k num vs place n tally (slice_get p.sites.items num) refl fis e
  right_gave g env lists k fis (Interlocked x fl op then') vs place n tally fit e =
      let c = cond_some at_.inside (interlocked_values p f x (slice_get p.fields.items fl) op then') vs e in
      interlocked_gave g env lists x fl op then' vs place n tally (slice_get p.fields.items fl) refl c.0 c.1

  -- Whole statements.

  abbrev pub Logs : Progress → Progress → Type 0
  Logs g g' = (g'.changed ≡ g.changed) × (g'.made ≡ g.made)

  pub store_heap : (place : Place) (v : Value) (n : ℕ) (g : Progress) → OnGave (store p at_ place v n g) (λ g'. (g'.heap ≡ stored_heap place v g.heap) × Logs g g')
  store_heap (InLocal i) v n g = (refl, (refl, refl))
  store_heap (InField o x) v n g =
      let Q : Progress → Type 0 = λ g'. (g'.heap ≡ write g.heap o x v) × Logs g g' in
      let done = Gives (heap_of g (write g.heap o x v)) in
      let w = mutable at_.context.me g.heap o || (is_listed at_ o && (is_volatile p x && (not (is_approved p x) || may_count at_ g.heap o))) in
      check_gave at_ w n Write (check at_ (may_write at_ o || is_listed at_ o) (n + 1) Writes done) Q (λ e.
      check_gave at_ (may_write at_ o || is_listed at_ o) (n + 1) Writes done Q (λ e. (refl, (refl, refl))))

  pub record Done (g g' : Progress) : Type 0 where
    pub fine : FineOf g g'
    pub tests : at_.inside ≡ false → IsClean g → (o : Ref) → noted g'.changed o || noted g'.made o ≡ true → Inv p o g.heap g'.heap

  pub assigned_gave :
      (g : Progress) (place : Place) (vs : Values) (v : Valued) (n : ℕ) → ListedClosed (is_listed at_) g.heap → Placed vs place → RightOf place vs g v →
      OnGave (store p at_ place v.value n v.starting) (Done g)
  assigned_gave g place vs v n lists ok r =
      end_map (store p at_ place v.value n v.starting).end (λ g'. FineOf v.starting g' × ((g'.heap ≡ stored_heap place v.value v.starting.heap) × Logs v.starting g')) (Done g)
      (λ g' y. record {
        fine = fine_trans p f at_.context (is_listed at_) g v.starting g' r.fine y.0;
        tests = λ out clean o z. subst (λ h. Inv p o g.heap h) (sym y.1.0) (r.tests out clean o (sym (λ i. noted (y.1.1.0 i) o || noted (y.1.1.1 i) o) ∙ z));
      })
      (both_gave (store p at_ place v.value n v.starting) (FineOf v.starting) (λ g'. (g'.heap ≡ stored_heap place v.value v.starting.heap) × Logs v.starting g')
      (store_fine p typed f at_ thread place vs v.value n v.starting r.fine.ready (still_listed p f at_.context (is_listed at_) g v.starting r.fine lists) ok r.value)
      (store_heap place v.value n v.starting))

  -- owned sets change no log
  one_log : (c : OwnsChange) (o q : Ref) (n : ℕ) (g : Progress) → OnGave (member_change p at_ c o q n g) (Logs g)
  one_log Assigned o q n g = (refl, refl)
  one_log Added o q n g =
      let joined : Heap = put g.heap o (record (g.heap.get o) { owned = with_member q (g.heap.get o).owned }) in
      let inside = Gives (heap_of g (hand_over joined (q ∷ []) o)) in
      let outside = Gives (heap_of g joined) in
      either_outcome at_.inside
      (check at_ (is_listed at_ o) n Write (check at_ (wrapped at_.context.me g.heap q && may_write at_ q) (n + 1) Owns inside))
      (check at_ (mutable at_.context.me g.heap o) n Write (check at_ (may_write at_ o) (n + 1) Writes outside))
      (Logs g)
      (check_gave at_ (is_listed at_ o) n Write (check at_ (wrapped at_.context.me g.heap q && may_write at_ q) (n + 1) Owns inside) (Logs g)
      (λ l. check_gave at_ (wrapped at_.context.me g.heap q && may_write at_ q) (n + 1) Owns inside (Logs g) (λ w. (refl, refl))))
      (check_gave at_ (mutable at_.context.me g.heap o) n Write (check at_ (may_write at_ o) (n + 1) Writes outside) (Logs g)
      (λ m. check_gave at_ (may_write at_ o) (n + 1) Writes outside (Logs g) (λ w. (refl, refl))))
  one_log Removed o q n g =
      let left : Heap = put g.heap o (record (g.heap.get o) { owned = without_member q (g.heap.get o).owned }) in
      let inside = Gives (heap_of g (hand_over left (q ∷ []) at_.context.me)) in
      let outside = Gives (heap_of g left) in
      either_outcome at_.inside
      (check at_ (is_listed at_ o) n Write (check at_ (is_in q (g.heap.get o).owned) (n + 1) Owns inside))
      (check at_ (mutable at_.context.me g.heap o) n Write (check at_ (may_write at_ o) (n + 1) Writes outside))
      (Logs g)
      (check_gave at_ (is_listed at_ o) n Write (check at_ (is_in q (g.heap.get o).owned) (n + 1) Owns inside) (Logs g)
      (λ l. check_gave at_ (is_in q (g.heap.get o).owned) (n + 1) Owns inside (Logs g) (λ w. (refl, refl))))
      (check_gave at_ (mutable at_.context.me g.heap o) n Write (check at_ (may_write at_ o) (n + 1) Writes outside) (Logs g)
      (λ m. check_gave at_ (may_write at_ o) (n + 1) Writes outside (Logs g) (λ w. (refl, refl))))

  all_logs : (c : OwnsChange) (o : Ref) (vs : List Value) (n : ℕ) (g : Progress) → OnGave (members_change p at_ c o vs n g) (Logs g)
  all_logs c o [] n g = (refl, refl)
  all_logs c o (v ∷ vs) n g =
      after_gave (member_change p at_ c o (referent v) n g) (λ g'. members_change p at_ c o vs (n + 2) g') (Logs g) (Logs g) (one_log c o (referent v) n g) (λ g' x.
      end_map (members_change p at_ c o vs (n + 2) g').end (Logs g') (Logs g) (λ g2 y. (y.0 ∙ x.0, y.1 ∙ x.1)) (all_logs c o vs (n + 2) g'))

  owned_logs : (c : OwnsChange) (o : Ref) (vs : List Value) (n : ℕ) (g : Progress) → OnGave (owned_change p at_ c o vs n g) (Logs g)
  owned_logs Assigned o vs n g =
      let done = Gives (heap_of g (put g.heap o (record (g.heap.get o) { owned = set_of (map referent vs) }))) in
      check_gave at_ (mutable at_.context.me g.heap o) n Write (check at_ (may_write at_ o) (n + 1) Writes done) (Logs g)
      (λ m. check_gave at_ (may_write at_ o) (n + 1) Writes done (Logs g) (λ w. (refl, refl)))
  owned_logs Added o vs n g = all_logs Added o vs n g
  owned_logs Removed o vs n g = all_logs Removed o vs n g

  refs_gave : (g : Progress) → Env p f g.heap g.locals → (es : List Expr) (n : ℕ) → all_refs p f es ≡ true → OnGave (eval_all p at_ g.heap g.locals es n) (λ vs. every is_value vs ≡ true)
  refs_gave g env [] n e = refl
  refs_gave g env (x ∷ xs) n e =
      let b = and_both (is_ref p f x) (all_refs p f xs) e in
      let t = test_some p f (values p f x) are_refs b.0 in
      let Q : List Value → Type 0 = λ vs. every is_value vs ≡ true in
      after_gave (eval p at_ g.heap g.locals x n) (λ v. after (eval_all p at_ g.heap g.locals xs (n + checks x)) (λ vs. Gives (v ∷ vs)))
      (λ v. is_of p t.0 v ≡ true) Q (eval_of p typed f at_ g.heap g.locals env x t.0 t.1 n) (λ v i.
      after_gave (eval_all p at_ g.heap g.locals xs (n + checks x)) (λ vs. Gives (v ∷ vs)) Q Q (refs_gave g env xs (n + checks x) b.1)
      (λ vs j. both_and (is_value v) (every is_value vs) (is_of_value p t.0 v i) j))

  pub simple_gave :
      (g : Progress) → Env p f g.heap g.locals → ListedClosed (is_listed at_) g.heap → (k : ℕ) → slice_get p.functions.items k ≡ Some f →
      (s : Simple) (n : ℕ) (tally : Tally) → (at_.inside ≡ false → simple_fits p s at_.choices ≡ true) → simple_ok p f k at_.inside s ≡ true →
      OnGave (run_simple p at_ s n tally g) (Done g)
  simple_gave g env lists k fis (Assign t r) n tally fit e =
      let vs = takes_some t (right_values p f k at_.inside r) e in
      after_gave (left_side p at_ t n g) (λ place. after (right_side p at_ r place (n + target_checks t) tally g)
      (λ v. store p at_ place v.value (n + target_checks t + right_checks p at_.inside r) v.starting))
      (Placed vs.0) (Done g) (left_gave g env t vs.0 n vs.2) (λ place ok.
      after_gave (right_side p at_ r place (n + target_checks t) tally g) (λ v. store p at_ place v.value (n + target_checks t + right_checks p at_.inside r) v.starting)
      (RightOf place vs.0 g) (Done g)
      (right_gave g env lists k fis r vs.0 place (n + target_checks t) tally fit vs.1) (λ v y.
      assigned_gave g place vs.0 v (n + target_checks t + right_checks p at_.inside r) lists ok y))
  simple_gave g env lists k fis (ChangeOwned c x es) n tally fit e =
      let b = and_both (is_pointer p f (change_allowed p f at_.inside c) x) (all_refs p f es.items) e in
      let t = test_some p f (values p f x) (point_to (change_allowed p f at_.inside c)) b.0 in
      let m = n + checks x + all_checks es.items in
      after_gave (eval p at_ g.heap g.locals x n) (λ o. after (eval_all p at_ g.heap g.locals es.items (n + checks x)) (λ vs. owned_change p at_ c (referent o) vs m g))
      (λ v. is_of p t.0 v ≡ true) (Done g) (eval_of p typed f at_ g.heap g.locals env x t.0 t.1 n) (λ o i.
      after_gave (eval_all p at_ g.heap g.locals es.items (n + checks x)) (λ vs. owned_change p at_ c (referent o) vs m g) (λ vs. every is_value vs ≡ true)
      (Done g) (refs_gave g env es.items (n + checks x) b.1) (λ vs j.
      end_map (owned_change p at_ c (referent o) vs m g).end (λ g'. FineOf g g' × Logs g g') (Done g)
      (λ g' y. record { fine = y.0; tests = λ out clean q z. absurd (clean q (sym (λ i. noted (y.1.0 i) q || noted (y.1.1 i) q) ∙ z)) })
      (both_gave (owned_change p at_ c (referent o) vs m g) (FineOf g) (Logs g)
      (owned_fine p typed f at_ thread c (referent o) vs m g env lists (pointer_at p (change_allowed p f at_.inside c) t.0 o t.2 i) j)
      (owned_logs c (referent o) vs m g))))
  simple_gave g env lists k fis (EndClaim q x es) n tally fit e =
      let m = n + checks x + all_checks es.items in
      after_any (eval p at_ g.heap g.locals x n) (λ c. after (eval_all p at_ g.heap g.locals es.items (n + checks x)) (λ vs. end_claim p at_ (referent c) (map referent vs) m tally g)) (Done g) (λ c.
      after_any (eval_all p at_ g.heap g.locals es.items (n + checks x)) (λ vs. end_claim p at_ (referent c) (map referent vs) m tally g) (Done g) (λ vs.
      end_map (end_claim p at_ (referent c) (map referent vs) m tally g).end (Ended p typed f at_ thread g env lists) (Done g) (λ g' y. record { fine = y.fine; tests = y.tests })
      (end_claim_gave p typed f at_ thread g env lists (referent c) (map referent vs) m tally)))
