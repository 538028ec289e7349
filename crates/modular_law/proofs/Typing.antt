-- Variables, arguments and results are of their types: what the laws of typing of machine_laws say, in the words of this proof.
use Rattle.std.proofs.Common.{⊎_elim, ◌≡◌, ℕ, zero, suc, ◌+◌, ◌<◌, true, false, ◌&&◌, ◌==◌, List, [], ◌∷◌, ◌++◌, length, drop, Option, Some, None, slice_get, slice_set, refl, sym, ap, ◌∙◌, subst, arith, ◌⊎◌, inl, inr, not, ◌||◌}
use Rattle.std.proofs.lemmas.Bool.{both_ways, eqb-true, or_cases, cases_eq, or_right, or_left}
use Rattle.object_types.specs.declared.references.Ref.{Ref}
use Rattle.object_types.specs.declared.values.Value.{Value}
use Rattle.method.specs.declared.program.DeclaredType.{DeclaredType}
use Rattle.method.specs.declared.program.VariableInfo.{VariableInfo}
use Rattle.method.specs.declared.program.FunctionInfo.{FunctionInfo}
use Rattle.method.specs.declared.program.Program.{Program}
use Rattle.object_types.specs.References.{is_null, is_thread, thread, is_claim}
use Rattle.object_types.specs.Values.{referent}
use Rattle.object_types.specs.Heap.{Heap, write, mutable}
use Rattle.method.specs.Tables.{local, in_type, type_of_field, field_type, is_struct, is_volatile, is_approved}
use Rattle.method.specs.Actions.{Place, InLocal, InField, Supply, Fresh, Progress, convert_to, store, may_count, spot, starting, wrap_object, unwrap_object, act}
use Rattle.method.specs.Machine.{fit_parameters, zeros_of, value_of}
use Rattle.method.proofs.Global.{and_both, both_and}
use Rattle.modular_law.specs.Respect.{Fits}
use Rattle.int_ranges.specs.declared.ctype.CType.{CType}
use Rattle.method.specs.declared.program.CheckKind.TheVariants.{Write, Writes}
use Rattle.method.specs.declared.program.Expr.{Expr}
use Rattle.method.specs.declared.program.FieldInfo.{FieldInfo}
use Rattle.method.specs.Legal.{Good}
use Rattle.method.specs.Expressions.{End, Gave, Gives, check, eval, eval_all, may_write, is_listed, Context}
use Rattle.method.specs.LocalRuns.{of_type}
use Rattle.method.specs.Typing.{WellTyped, Values, all_of, fits, are_ints, values, test, call_ok, return_ok, variable_takes, field_takes, takes, point_to, action_ok}
use Rattle.method.specs.declared.program.Target.TheVariants.{FieldOf}
use Rattle.method.specs.declared.program.Target.{Target}
use Rattle.method.specs.declared.program.Action.{Action}
use Rattle.machine_laws.specs.Outcomes.{OnEnd}
use Rattle.machine_laws.proofs.Outcomes.{check_gave}
use Rattle.machine_laws.proofs.Typed.{is_of, all_typed, typed_at, Env, to_type, eval_of, convert_of, pointer_at, null_is, struct_type}
use Rattle.machine_laws.proofs.Simple.{test_some, takes_some}
use Rattle.machine_laws.proofs.Objects.{wrap_gave, unwrap_gave, Acted}
use Rattle.machine_laws.proofs.Acts.{act_gave, call_args, Event}
use Rattle.machine_laws.proofs.Frames.{args_typed, fit_parts}
use Rattle.modular_law.proofs.Walks.{set_size, set_other}

set_same : (l : List Value) (i : ℕ) (v : Value) → i < length l → local (slice_set l i v) i ≡ v
set_same [] i v b = absurd (omega arith)
set_same (w ∷ l) zero v b = refl
set_same (w ∷ l) (suc i) v b = set_same l i v (omega arith)

there_below : {A : Type 0} (xs : List A) (i : ℕ) (x : A) → slice_get xs i ≡ Some x → i < length xs
there_below [] i x e = absurd (cc)
there_below (y ∷ xs) zero x e = omega arith
there_below (y ∷ xs) (suc i) x e = let b : i < length xs = there_below xs i x e in omega arith

pub set_fits : (f : FunctionInfo) (l : List Value) (i : ℕ) (v : Value) → ((u : VariableInfo) → slice_get f.variables.items i ≡ Some u → in_type u.ty v ≡ true) → Fits f l → Fits f (slice_set l i v)
set_fits f l i v t fits = record {
  size = set_size l i v ∙ fits.size;
  each = λ j u e. by_index j u e (cases_eq i j);
}
  where
    by_index : (j : ℕ) (u : VariableInfo) → slice_get f.variables.items j ≡ Some u → (i ≡ j) ⊎ (i ≡ j → ⊥) → in_type u.ty (local (slice_set l i v) j) ≡ true
    by_index j u e (inl d) =
        let b : i < length l = (let s : length l ≡ length f.variables.items = fits.size in let c : j < length f.variables.items = there_below f.variables.items j u e in omega arith) in
        subst (λ n. in_type u.ty (local (slice_set l i v) n) ≡ true) d (subst (λ w. in_type u.ty w ≡ true) (sym (set_same l i v b))
        (t u (subst (λ n. slice_get f.variables.items n ≡ Some u) (sym d) e)))
    by_index j u e (inr d) = subst (λ w. in_type u.ty w ≡ true) (sym (set_other l i v j d)) (fits.each j u e)

-- a function's run begins with variables of their types
fits_size : (vs : List VariableInfo) (l : List Value) → all_typed vs l ≡ true → length l ≡ length vs
fits_size [] [] e = refl
fits_size [] (x ∷ l) e = absurd (cc)
fits_size (v ∷ vs) [] e = absurd (cc)
fits_size (v ∷ vs) (x ∷ l) e = ap suc (fits_size vs l (and_both (in_type v.ty x) (all_typed vs l) e).1)

pub all_fits : (f : FunctionInfo) (l : List Value) → all_typed f.variables.items l ≡ true → Fits f l
all_fits f l e = record { size = fits_size f.variables.items l e; each = λ i v is. typed_at f.variables.items l i v e is }

tail_fits : (vs : List VariableInfo) (l : List Value) → length l ≡ length vs → ((i : ℕ) (v : VariableInfo) → slice_get vs i ≡ Some v → in_type v.ty (local l i) ≡ true) → all_typed vs l ≡ true
tail_fits [] [] size each = refl
tail_fits [] (x ∷ l) size each = absurd (cc)
tail_fits (v ∷ vs) [] size each = absurd (cc)
tail_fits (v ∷ vs) (x ∷ l) size each = both_and (in_type v.ty x) (all_typed vs l) (each 0 v refl) (tail_fits vs l (cc) (λ i w e. each (suc i) w e))

pub fits_all : (f : FunctionInfo) (l : List Value) → Fits f l → all_typed f.variables.items l ≡ true
fits_all f l z = tail_fits f.variables.items l z.size z.each

pub begin_fits : (g : FunctionInfo) (args : List Value) → fit_parameters g args ≡ true → Fits g (args ++ zeros_of (drop g.parameters g.variables.items))
begin_fits g args e =
    let x = fit_parts g args e in
    all_fits g _ (subst (λ m. all_typed g.variables.items (args ++ zeros_of (drop m g.variables.items)) ≡ true) x.0 (args_typed g.variables.items args x.1))

pub on_gave : {A : Type 0} (e : End A) (Q : A → Type 0) (a : A) → OnEnd e Q → e ≡ Gave a → Q a
on_gave {A} e Q a x d = subst (λ (u : End A). OnEnd u Q) d x

-- the value is one of the place's type
abbrev pub PlaceTyped : Program → FunctionInfo → Place → Value → Type 0
PlaceTyped p f (InLocal i) v = (u : VariableInfo) → slice_get f.variables.items i ≡ Some u → in_type u.ty v ≡ true
PlaceTyped p f (InField o g) v = in_type (type_of_field p g) v ≡ true

-- what a target takes is of its type
pub variable_typed : (p : Program) (f : FunctionInfo) (i : ℕ) (vs : Values) (v : Value) → variable_takes p f (slice_get f.variables.items i) (Some vs) ≡ true → is_of p vs v ≡ true →
    PlaceTyped p f (InLocal i) v
variable_typed p f i vs v t y u e = to_type p vs u.ty v (subst (λ o. variable_takes p f o (Some vs) ≡ true) e t) y

pub field_typed : (p : Program) (f : FunctionInfo) (e : Expr) (q : ℕ) (r : Ref) (vs : Values) (v : Value) → takes p f (FieldOf e q) (Some vs) ≡ true → is_of p vs v ≡ true →
    PlaceTyped p f (InField r q) v
field_typed p f e q r vs v t y = by_values (values p f e) t
  where
    by_values : (o : Option Values) → test p f o (λ u. field_takes p f (slice_get p.fields.items q) u (Some vs)) ≡ true → in_type (type_of_field p q) v ≡ true
    by_values None z = absurd (both_ways false refl z)
    by_values (Some u) z = by_field (slice_get p.fields.items q) refl z
      where
        by_field : (o : Option FieldInfo) → slice_get p.fields.items q ≡ o → field_takes p f o u (Some vs) ≡ true → in_type (field_type (slice_get p.fields.items q)) v ≡ true
        by_field None d w = absurd (both_ways false refl w)
        by_field (Some i) d w = subst (λ o. in_type (field_type o) v ≡ true) (sym d) (to_type p vs i.ty v (and_both (point_to (λ n. n == i.of) u) (fits vs i.ty) w).1 y)

-- a pointer to a struct is NULL or one
pub struct_or_null : (p : Program) (vs : Values) (ty : ℕ) (v : Value) → point_to (λ n. n == ty) vs ≡ true → is_of p vs v ≡ true → is_null (referent v) || ((referent v).ty == ty) ≡ true
struct_or_null p vs ty v e y = ⊎_elim (λ z. or_left (is_null (referent v)) ((referent v).ty == ty) z) (λ z. or_right (is_null (referent v)) ((referent v).ty == ty) z)
    (pointer_at p (λ n. n == ty) vs v e y)

pub no_claim : (p : Program) (ty : ℕ) (o : Ref) → is_struct p ty ≡ true → is_null o || (o.ty == ty) ≡ true → is_claim o ≡ false
no_claim p ty o s e = ⊎_elim (λ z. ap is_claim (null_is o z)) (λ z. ap (λ m. m == 2) (eqb-true o.ty ty z) ∙ (struct_type p ty s).2) (or_cases (is_null o) (o.ty == ty) e)

-- A function's run on a good heap, with variables of their types.
module _ (p : Program) (wt : WellTyped p) (x : Context) (f : FunctionInfo) (is : slice_get p.functions.items x.function ≡ Some f) (t : ℕ) (me : x.me ≡ thread t)
    (h : Heap) (good : Good p h) (l : List Value) (fit : Fits f l) where
  env : Env p f h l
  env = record { heap = good.well_formed; types = wt.variable_types x.function f is; locals = fits_all f l fit }

  is_thread_me : is_thread x.me ≡ true
  is_thread_me = ap is_thread me

  -- what an action leaves
  pub act_fits : (choices : List Value) (supply : Supply) (line : ℕ) (b : Action) (n : ℕ) (g : Progress) → action_ok p f x.function b ≡ true →
      (act p x choices supply line b n h l).end ≡ Gave g → Fits f g.locals
  act_fits choices supply line b n g ok e =
      all_fits f g.locals (on_gave (act p x choices supply line b n h l).end (Event p f x supply (starting h l supply)) g
      (act_gave p wt f x is is_thread_me choices supply line b n h l env ok) e).ready.locals

  pub wrap_fits : (supply : Supply) (line ty : ℕ) (o : Ref) (n : ℕ) (g : Progress) → is_struct p ty ≡ true → is_null o || (o.ty == ty) ≡ true →
      (wrap_object p (spot x [] line) ty o n (starting h l supply)).end ≡ Gave g → Fits f g.locals
  wrap_fits supply line ty o n g s z e =
      all_fits f g.locals (on_gave (wrap_object p (spot x [] line) ty o n (starting h l supply)).end (Acted p f x (starting h l supply)) g
      (wrap_gave p wt f (spot x [] line) is_thread_me (starting h l supply) env ty o n (no_claim p ty o s z)) e).ready.locals

  pub unwrap_fits : (supply : Supply) (line ty : ℕ) (o : Ref) (n : ℕ) (g : Progress) → is_struct p ty ≡ true → is_null o || (o.ty == ty) ≡ true →
      (unwrap_object p (spot x [] line) o n (starting h l supply)).end ≡ Gave g → Fits f g.locals
  unwrap_fits supply line ty o n g s z e =
      all_fits f g.locals (on_gave (unwrap_object p (spot x [] line) o n (starting h l supply)).end (Acted p f x (starting h l supply)) g
      (unwrap_gave p wt f (spot x [] line) is_thread_me (starting h l supply) env o n (no_claim p ty o s z)) e).ready.locals

  pub store_fits : (supply : Supply) (line : ℕ) (place : Place) (v : Value) (n : ℕ) (g : Progress) → PlaceTyped p f place v →
      (store p (spot x [] line) place v n (starting h l supply)).end ≡ Gave g → Fits f g.locals
  store_fits supply line place v n g typed e = on_gave (store p (spot x [] line) place v n (starting h l supply)).end (λ g. Fits f g.locals) g (by_place place typed) e
    where
      by_place : (place : Place) → PlaceTyped p f place v → OnEnd (store p (spot x [] line) place v n (starting h l supply)).end (λ g. Fits f g.locals)
      by_place (InLocal i) t = set_fits f l i v t fit
      by_place (InField o q) t =
          let at_ = spot x [] line in
          let done = Gives (record (starting h l supply) { heap = write h o q v }) in
          check_gave at_ (mutable x.me h o || (is_listed at_ o && (is_volatile p q && (not (is_approved p q) || may_count at_ h o)))) n Write
          (check at_ (may_write at_ o || is_listed at_ o) (n + 1) Writes done) (λ g. Fits f g.locals)
          (λ d. check_gave at_ (may_write at_ o || is_listed at_ o) (n + 1) Writes done (λ g. Fits f g.locals) (λ c. fit))

  -- arguments and results
  pub args_typed_at : (line : ℕ) (choices : List Value) (g : FunctionInfo) (es : List Expr) (n : ℕ) (vs : List Value) → call_ok p f (Some g) es ≡ true →
      (eval_all p (spot x choices line) h l es n).end ≡ Gave vs → fit_parameters g vs ≡ true
  args_typed_at line choices g es n vs ok e =
      on_gave (eval_all p (spot x choices line) h l es n).end (λ us. fit_parameters g us ≡ true) vs (call_args p wt f (spot x choices line) is_thread_me (starting h l (Fresh 0)) env g es n ok) e

  pub result_typed : (line : ℕ) (e : Option Expr) (n : ℕ) (v : Value) → return_ok p f f.result e ≡ true → (value_of p (spot x [] line) e h l n).end ≡ Gave v → of_type f.result v ≡ true
  result_typed line e n v ok d = by_result f.result e ok d
    where
      by_result : (r : Option DeclaredType) (e : Option Expr) → return_ok p f r e ≡ true → (value_of p (spot x [] line) e h l n).end ≡ Gave v → of_type r v ≡ true
      by_result None None a z = on_gave (value_of p (spot x [] line) None h l n).end (λ u. of_type None u ≡ true) v refl z
      by_result None (Some e) a z = absurd (both_ways false refl a)
      by_result (Some ty) None a z = absurd (both_ways false refl a)
      by_result (Some ty) (Some e) a z =
          let u = test_some p f (values p f e) (λ v. fits v ty) a in
          to_type p u.0 ty v u.2 (on_gave (eval p (spot x [] line) h l e n).end (λ w. is_of p u.0 w ≡ true) v (eval_of p wt f (spot x [] line) h l env e u.0 u.1 n) z)

  -- a converted value
  pub converted_typed : (line : ℕ) (c : CType) (vs : Values) (v w : Value) → are_ints vs ≡ true → is_of p vs v ≡ true → (convert_to (spot x [] line) (Some c) v 0).end ≡ Gave w →
      is_of p (all_of c) w ≡ true
  converted_typed line c vs v w ints y e = on_gave (convert_to (spot x [] line) (Some c) v 0).end (λ u. is_of p (all_of c) u ≡ true) w (convert_of p wt f (spot x [] line) h l env c vs v 0 ints y) e

  -- an expression that points to a struct
  pub value_typed : (line : ℕ) (e : Expr) (vs : Values) (n : ℕ) (v : Value) → values p f e ≡ Some vs → (eval p (spot x [] line) h l e n).end ≡ Gave v → is_of p vs v ≡ true
  value_typed line e vs n v d z = on_gave (eval p (spot x [] line) h l e n).end (λ u. is_of p vs u ≡ true) v (eval_of p wt f (spot x [] line) h l env e vs d n) z

  -- what nothing takes
  pub takes_none : (line : ℕ) (u : Target) → takes p f u None ≡ true → ⊥
  takes_none line u e = let z = (takes_some p wt f (spot x [] line) is_thread_me u None e).1 in absurd (cc (z))
