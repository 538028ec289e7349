-- An expression of concrete code that the machine works out has the same value without annotations.
use Rattle.std.proofs.Common.{◌≡◌, ℕ, zero, suc, ◌+◌, ◌==◌, Bool, true, false, cond, not, ◌&&◌, ◌||◌, List, [], ◌∷◌, Some, None, slice_get, ⊎_elim, refl, sym, ap, ◌∙◌, subst}
use Rattle.std.specs.Prelude.{◌-ℤ◌, pos, if◌then◌else◌}
use Rattle.std.proofs.lemmas.Bool.{eqb-true}
use Rattle.object_types.specs.declared.references.Ref.{Ref}
use Rattle.object_types.specs.declared.records.Mode.{Mode}
use Rattle.object_types.specs.declared.records.Mode.TheVariants.{Absent, Open, Closed, Freed}
use Rattle.object_types.specs.declared.values.Value.{Value}
use Rattle.object_types.specs.declared.values.Value.TheVariants.{Int, Ref as Refers}
use Rattle.int_ranges.specs.Ranges.{in_range}
use Rattle.method.specs.declared.program.CheckKind.TheVariants.{Range, Read, Divide}
use Rattle.method.specs.declared.program.DeclaredType.TheVariants.{Integer, Pointer, Object, Claim}
use Rattle.method.specs.declared.program.Expr.{Expr}
use Rattle.method.specs.declared.program.Expr.TheVariants.{Number, Null, Variable, Field', Not', Negate', Arithmetic', Compare', And', Or', Choose', Convert'}
use Rattle.method.specs.declared.program.VariableInfo.{VariableInfo}
use Rattle.method.specs.declared.program.FunctionInfo.{FunctionInfo}
use Rattle.method.specs.declared.program.Program.{Program}
use Rattle.object_types.specs.References.{null, is_null, is_claim, same_ref}
use Rattle.object_types.specs.Values.{truth, says, int, referent, or_zero, is_zero_int}
use Rattle.object_types.specs.Heap.{Heap, nothing, IsClosedIn, is_open, is_closed, closed_in, mutable}
use Rattle.method.specs.Tables.{in_type, local, read, is_struct, is_volatile, type_of_field, zero_of}
use Rattle.method.specs.WellFormed.{WellFormed}
use Rattle.method.specs.Legal.{Good}
use Rattle.method.specs.StableSet.{InStableSet, root, claimed, member, in_stable_set}
use Rattle.method.specs.SpecValue.{compute}
use Rattle.method.specs.Typing.{Values, Ints, Nulls, Refs, values, and_then, field_values, point_to, only_if, are_ints, are_refs, all_of, truth_values, compares_refs, left_fits, either, WellTyped}
use Rattle.method.specs.Expressions.{Misfit, Failed, Gave, Outcome, Gives, after, Context, Spot, check, checks, is_listed, readable, divides, checked_result, eval}
use Rattle.method.specs.Actions.{spot}
use Rattle.method.proofs.Global.{and_both, same_ref_is}
use Rattle.method.proofs.StableTest.{stable_set_law}
use Rattle.machine_laws.proofs.Outcomes.{OnEnd, OnGave, after_gave, check_gave}
use Rattle.machine_laws.proofs.Typed.{Env, is_of, eval_of, field_inversion, and_then_some, or_cases, not_both}
use Rattle.modular_law.proofs.Typing.{struct_or_null, no_claim}
use Rattle.plain_machine.specs.PlainCode.{is_ghost_field, ghost_variable}
use Rattle.plain_machine.specs.PlainSteps.{Comes, Yields, next, plain_check, alive, plain_eval}
use Rattle.plain_machine.specs.Erasure.{concrete_locals, plain_mode, plain_record, plain_heap}
use Rattle.plain_machine.specs.GhostApart.{concrete}

pub end_both : {A : Type 0} (o : Outcome A) (P Q : A → Type 0) → OnGave o P → OnGave o Q → OnGave o (λ a. P a × Q a)
end_both o P Q x y = by o.end x y
  where
    by : (e : _) → OnEnd e P → OnEnd e Q → OnEnd e (λ a. P a × Q a)
    by Misfit x y = tt
    by (Failed n kind line) x y = tt
    by (Gave a) x y = (x, y)

if_true : {A : Type 0} (b : Bool) (x y : A) → b ≡ true → cond b x y ≡ x
if_true true x y e = refl
if_true false x y e = absurd (not_both false e refl)

if_false : {A : Type 0} (b : Bool) (x y : A) → not b ≡ true → cond b x y ≡ y
if_false true x y e = absurd (not_both false e refl)
if_false false x y e = refl

pub local_same : (is : List VariableInfo) (l : List Value) (i : ℕ) → not (ghost_variable (slice_get is i)) ≡ true → local (concrete_locals is l) i ≡ local l i
local_same is [] i c = refl
local_same [] (v ∷ vs) zero c = refl
local_same [] (v ∷ vs) (suc i) c = local_same [] vs i refl
local_same (x ∷ xs) (v ∷ vs) zero c = if_false x.is_ghost (Int (pos 0)) v c
local_same (x ∷ xs) (v ∷ vs) (suc i) c = local_same xs vs i c

-- open or closed
abbrev pub is_alive : Heap → Ref → Bool
is_alive h o = is_open (plain_mode (h.get o).mode)

open_alive : (m : Mode) → is_open m ≡ true → is_open (plain_mode m) ≡ true
open_alive Absent e = e
open_alive Open e = refl
open_alive Closed e = refl
open_alive Freed e = e

closed_alive : (m : Mode) → is_closed m ≡ true → is_open (plain_mode m) ≡ true
closed_alive Absent e = e
closed_alive Open e = refl
closed_alive Closed e = refl
closed_alive Freed e = e

-- outside blocks what is mutable, closed or may be read is alive
pub mutable_alive : (t : Ref) (h : Heap) (o : Ref) → mutable t h o ≡ true → is_alive h o ≡ true
mutable_alive t h o e = open_alive (h.get o).mode (and_both (is_open (h.get o).mode) (same_ref (h.get o).owner t) e).0

pub closed_is_alive : (h : Heap) (o : Ref) → closed_in h o ≡ true → is_alive h o ≡ true
closed_is_alive h o e = closed_alive (h.get o).mode e

abbrev pub ReadsAlive : Program → Spot → Heap → Type 0
ReadsAlive p at_ h = (o : Ref) (g : ℕ) → is_claim o ≡ false → readable p at_ h o g ≡ true → is_alive h o ≡ true

-- what is in the set is closed
in_set_closed : (p : Program) (t : Ref) (h : Heap) → WellFormed p h → (o : Ref) → InStableSet p t h o → IsClosedIn h o
in_set_closed p t h wf o (root r) = (and_both (closed_in h o) (same_ref (h.get o).owner t) r).0
in_set_closed p t h wf o (claimed {c = c} s i) = (wf.listed c o i).0
in_set_closed p t h wf o (member {c = c} s v i) = (wf.member c o (in_set_closed p t h wf c s) i).0

-- what may be read is alive, where what is listed and no claim is closed
pub listed_alive : (p : Program) (at_ : Spot) (h : Heap) → WellFormed p h → ((o : Ref) → is_claim o ≡ false → is_listed at_ o ≡ true → closed_in h o ≡ true) → ReadsAlive p at_ h
listed_alive p at_ h wf lists o g n e = ⊎_elim
    (mutable_alive at_.context.me h o)
    (λ y. ⊎_elim
    (λ z. closed_is_alive h o (in_set_closed p at_.context.me h wf o ((stable_set_law p at_.context.me h wf.heap_of.finite o).0 (and_both (not (is_volatile p g)) (in_stable_set p at_.context.me h o) z).1)))
    (λ z. closed_is_alive h o (lists o n z))
    (or_cases (not (is_volatile p g) && in_stable_set p at_.context.me h o) (is_listed at_ o) y))
    (or_cases (mutable at_.context.me h o) ((not (is_volatile p g) && in_stable_set p at_.context.me h o) || is_listed at_ o) e)

pub reads_alive : (p : Program) (x : Context) (choices : List Value) (line : ℕ) (h : Heap) → Good p h → ReadsAlive p (spot x choices line) h
reads_alive p x choices line h good = listed_alive p (spot x choices line) h good.well_formed (λ o n e. absurd (not_both false e refl))

module _ (p : Program) (h : Heap) (wf : WellFormed p h) where
  pub struct_alive : (o : Ref) → is_struct p o.ty ≡ true → is_alive h o ≡ true → alive (plain_heap p h) o ≡ true
  struct_alive o s a = ap (λ b. is_open (if b then plain_record p (h.get o) else nothing).mode) s ∙ a

  pub not_null : (o : Ref) → is_alive h o ≡ true → is_null o ≡ true → ⊥
  not_null o a n = not_both (is_alive h o) a (ap (λ (q : Ref). is_alive h q) (same_ref_is o null n) ∙ ap (λ m. is_open (plain_mode m)) wf.no_null)

  pub struct_read : (o : Ref) (g : ℕ) → is_struct p o.ty ≡ true → not (is_ghost_field p g) ≡ true → read p (plain_heap p h) o g ≡ read p h o g
  struct_read o g s c =
      ap (λ b. or_zero (zero_of (type_of_field p g)) ((if b then plain_record p (h.get o) else nothing).fields g)) s ∙
      ap (or_zero (zero_of (type_of_field p g))) (if_false (is_ghost_field p g) None ((h.get o).fields g) c)

  -- what a typed pointer that is alive points to is a struct
  pub points_to_struct : (ok : ℕ → Bool) (vs : Values) (v : Value) → point_to ok vs ≡ true → is_of p vs v ≡ true → is_alive h (referent v) ≡ true → is_struct p (referent v).ty ≡ true
  unfolding in_type
  points_to_struct ok (Ints low high) v k i a = absurd (not_both false k refl)
  points_to_struct ok Nulls v k i a = absurd (not_both false k refl)
  points_to_struct ok (Refs (Integer c)) v k i a = absurd (not_both false k refl)
  points_to_struct ok (Refs Object) v k i a = absurd (not_both false k refl)
  points_to_struct ok (Refs Claim) v k i a = absurd (not_both false k refl)
  points_to_struct ok (Refs (Pointer n)) (Int z) k i a = absurd (not_both false i refl)
  points_to_struct ok (Refs (Pointer n)) (Refers r) k i a =
      let b = and_both (is_struct p n) (is_null r || (r.ty == n)) i in
      ⊎_elim
      (λ e. absurd (not_null r a e))
      (λ e. subst (λ m. is_struct p m ≡ true) (sym (eqb-true r.ty n e)) b.0)
      (or_cases (is_null r) (r.ty == n) b.1)

module _ (p : Program) (typed : WellTyped p) (f : FunctionInfo) (at_ : Spot) (line : ℕ) (h : Heap) (l : List Value) (env : Env p f h l) (alive_reads : ReadsAlive p at_ h) where
  abbrev pub Plain : Expr → Value → Type 0
  Plain e v = plain_eval p line (plain_heap p h) (concrete_locals f.variables.items l) e ≡ Yields v

  either_plain : (b : Bool) (x y : Expr) (n m : ℕ) → OnGave (eval p at_ h l x n) (Plain x) → OnGave (eval p at_ h l y m) (Plain y) →
      OnGave (if b then eval p at_ h l x n else eval p at_ h l y m) (λ v. (if b then plain_eval p line (plain_heap p h) (concrete_locals f.variables.items l) x else plain_eval p line (plain_heap p h) (concrete_locals f.variables.items l) y) ≡ Yields v)
  either_plain true x y n m i j = i
  either_plain false x y n m i j = j

  truth_plain : (y : Expr) (m : ℕ) → OnGave (eval p at_ h l y m) (Plain y) → OnGave (after (eval p at_ h l y m) (λ w. Gives (says (truth w)))) (λ u. next (plain_eval p line (plain_heap p h) (concrete_locals f.variables.items l) y) (λ w. Yields (says (truth w))) ≡ Yields u)
  truth_plain y m j = after_gave (eval p at_ h l y m) (λ w. Gives (says (truth w))) (Plain y) (λ u. next (plain_eval p line (plain_heap p h) (concrete_locals f.variables.items l) y) (λ w. Yields (says (truth w))) ≡ Yields u) j (λ w k. ap (λ (c : Comes Value). next c (λ w. Yields (says (truth w)))) k)

  and_plain : (b : Bool) (y : Expr) (m : ℕ) → OnGave (eval p at_ h l y m) (Plain y) →
      OnGave (if b then after (eval p at_ h l y m) (λ w. Gives (says (truth w))) else Gives (says false)) (λ u. (if b then next (plain_eval p line (plain_heap p h) (concrete_locals f.variables.items l) y) (λ w. Yields (says (truth w))) else Yields (says false)) ≡ Yields u)
  and_plain true y m j = truth_plain y m j
  and_plain false y m j = refl

  or_plain : (b : Bool) (y : Expr) (m : ℕ) → OnGave (eval p at_ h l y m) (Plain y) →
      OnGave (if b then Gives (says true) else after (eval p at_ h l y m) (λ w. Gives (says (truth w)))) (λ u. (if b then Yields (says true) else next (plain_eval p line (plain_heap p h) (concrete_locals f.variables.items l) y) (λ w. Yields (says (truth w)))) ≡ Yields u)
  or_plain true y m j = refl
  or_plain false y m j = truth_plain y m j

  range_plain : (b : Bool) (v : Value) (n : ℕ) → OnGave (check at_ b n Range (Gives v)) (λ u. plain_check b Range line (Yields v) ≡ Yields u)
  range_plain true v n = refl
  range_plain false v n = tt

  operator_plain : (d z b : Bool) (v : Value) (n : ℕ) →
      OnGave (if d then check at_ z n Divide (check at_ b (n + 1) Range (Gives v)) else check at_ b n Range (Gives v))
      (λ u. (if d then plain_check z Divide line (plain_check b Range line (Yields v)) else plain_check b Range line (Yields v)) ≡ Yields u)
  operator_plain true true b v n = range_plain b v (n + 1)
  operator_plain true false b v n = tt
  operator_plain false z b v n = range_plain b v n

  -- what is worked out first is the same, so what is left to see is what comes behind it
  behind : {A B : Type 0} (o : Outcome A) (g : A → Outcome B) (c : Comes A) (d : A → Comes B) → OnGave o (λ a. c ≡ Yields a) → ((a : A) → OnGave (g a) (λ b. d a ≡ Yields b)) → OnGave (after o g) (λ b. next c d ≡ Yields b)
  behind o g c d i k = after_gave o g (λ a. c ≡ Yields a) (λ b. next c d ≡ Yields b) i (λ a e. subst (λ x. OnGave (g a) (λ b. next x d ≡ Yields b)) (sym e) (k a))

  pub eval_plain : (e : Expr) (u : Values) → values p f e ≡ Some u → concrete p f e ≡ true → (n : ℕ) → OnGave (eval p at_ h l e n) (Plain e)
  eval_plain (Number z) u t c n = refl
  eval_plain Null u t c n = refl
  eval_plain (Variable i) u t c n = ap Yields (local_same f.variables.items l i c)
  eval_plain (Field' q x g) u t c n =
      let k = and_both (concrete p f x) (not (is_ghost_field p g)) c in
      let b = and_then_some (values p f x) (λ v. field_values v (slice_get p.fields.items g)) u t in
      let d = field_inversion b.first (slice_get p.fields.items g) u b.gives in
      after_gave (eval p at_ h l x n) (λ v. check at_ (readable p at_ h (referent v) g) (n + checks x) Read (Gives (read p h (referent v) g))) (λ v. (is_of p b.first v ≡ true) × Plain x v) (Plain (Field' q x g))
      (end_both (eval p at_ h l x n) (λ v. is_of p b.first v ≡ true) (Plain x) (eval_of p typed f at_ h l env x b.first b.is n) (eval_plain x b.first b.is k.0 n))
      (λ v i. check_gave at_ (readable p at_ h (referent v) g) (n + checks x) Read (Gives (read p h (referent v) g)) (Plain (Field' q x g)) (λ r.
      let a = alive_reads (referent v) g (no_claim p d.0.of (referent v) (typed.field_structs g d.0 d.1) (struct_or_null p b.first d.0.of v d.2 i.0)) r in
      let s = points_to_struct p h env.heap (λ m. m == d.0.of) b.first v d.2 i.0 a in
      ap (λ (o : Comes Value). next o (λ v. plain_check (alive (plain_heap p h) (referent v)) Read line (Yields (read p (plain_heap p h) (referent v) g)))) i.1 ∙
      ap (λ b. plain_check b Read line (Yields (read p (plain_heap p h) (referent v) g))) (struct_alive p h env.heap (referent v) s a) ∙
      ap Yields (struct_read p h env.heap (referent v) g s k.1)
      ))
  eval_plain (Not' q x) u t c n =
      let b = and_then_some (values p f x) (λ v. Some truth_values) u t in
      behind (eval p at_ h l x n) (λ v. Gives (says (not (truth v)))) _ (λ v. Yields (says (not (truth v)))) (eval_plain x b.first b.is c n) (λ v. refl)
  eval_plain (Negate' q x k) u t c n =
      let b = and_then_some (values p f x) (λ v. only_if (are_ints v) (all_of k)) u t in
      behind (eval p at_ h l x n) _ _ _ (eval_plain x b.first b.is c n) (λ v. range_plain (in_range k (pos 0 -ℤ int v)) (Int (pos 0 -ℤ int v)) (n + checks x))
  eval_plain (Arithmetic' op q x r y k) u t c n =
      let b = and_then_some (values p f x) (λ v. and_then (values p f y) (λ w. only_if ((are_ints v && are_ints w) && left_fits op v k) (all_of k))) u t in
      let d = and_then_some (values p f y) (λ w. only_if ((are_ints b.first && are_ints w) && left_fits op b.first k) (all_of k)) u b.gives in
      let cs = and_both (concrete p f x) (concrete p f y) c in
      behind (eval p at_ h l x n) _ _ _ (eval_plain x b.first b.is cs.0 n) (λ v.
      behind (eval p at_ h l y (n + checks x)) _ _ _ (eval_plain y d.first d.is cs.1 (n + checks x)) (λ w.
      operator_plain (divides op) (not (is_zero_int (int w))) (in_range k (checked_result op (int v) (int w))) (Int (compute op (int v) (int w))) (n + checks x + checks y)
      ))
  eval_plain (Compare' o q x r y) u t c n =
      let b = and_then_some (values p f x) (λ v. and_then (values p f y) (λ w. only_if ((are_ints v && are_ints w) || (compares_refs o && (are_refs v && are_refs w))) truth_values)) u t in
      let d = and_then_some (values p f y) (λ w. only_if ((are_ints b.first && are_ints w) || (compares_refs o && (are_refs b.first && are_refs w))) truth_values) u b.gives in
      let cs = and_both (concrete p f x) (concrete p f y) c in
      behind (eval p at_ h l x n) _ _ _ (eval_plain x b.first b.is cs.0 n) (λ v.
      behind (eval p at_ h l y (n + checks x)) _ _ _ (eval_plain y d.first d.is cs.1 (n + checks x)) (λ w. refl))
  eval_plain (And' q x r y) u t c n =
      let b = and_then_some (values p f x) (λ v. and_then (values p f y) (λ w. Some truth_values)) u t in
      let d = and_then_some (values p f y) (λ w. Some truth_values) u b.gives in
      let cs = and_both (concrete p f x) (concrete p f y) c in
      behind (eval p at_ h l x n) _ _ _ (eval_plain x b.first b.is cs.0 n) (λ v. and_plain (truth v) y (n + checks x) (eval_plain y d.first d.is cs.1 (n + checks x)))
  eval_plain (Or' q x r y) u t c n =
      let b = and_then_some (values p f x) (λ v. and_then (values p f y) (λ w. Some truth_values)) u t in
      let d = and_then_some (values p f y) (λ w. Some truth_values) u b.gives in
      let cs = and_both (concrete p f x) (concrete p f y) c in
      behind (eval p at_ h l x n) _ _ _ (eval_plain x b.first b.is cs.0 n) (λ v. or_plain (truth v) y (n + checks x) (eval_plain y d.first d.is cs.1 (n + checks x)))
  eval_plain (Choose' q x r y s z) u t c n =
      let b = and_then_some (values p f x) (λ v. and_then (values p f y) (λ w. and_then (values p f z) (λ t. either w t))) u t in
      let d = and_then_some (values p f y) (λ w. and_then (values p f z) (λ t. either w t)) u b.gives in
      let g = and_then_some (values p f z) (λ t. either d.first t) u d.gives in
      let cs = and_both (concrete p f x) (concrete p f y && concrete p f z) c in
      let cz = and_both (concrete p f y) (concrete p f z) cs.1 in
      behind (eval p at_ h l x n) _ _ _ (eval_plain x b.first b.is cs.0 n) (λ v. either_plain (truth v) y z (n + checks x) (n + checks x + checks y) (eval_plain y d.first d.is cz.0 (n + checks x)) (eval_plain z g.first g.is cz.1 (n + checks x + checks y)))
  eval_plain (Convert' q x k) u t c n =
      let b = and_then_some (values p f x) (λ v. only_if (are_ints v) (all_of k)) u t in
      behind (eval p at_ h l x n) _ _ _ (eval_plain x b.first b.is c n) (λ v. range_plain (in_range k (int v)) v (n + checks x))
