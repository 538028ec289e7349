-- Programs that are safe, and so safe in fine steps.
use Rattle.std.proofs.Common.{◌≡◌, ℕ, zero, suc, ◌+◌, Bool, true, false, not, ◌==◌, ◌&&◌, nat_le, nat_lt, refl, sym, ap, ◌∙◌, subst, pos, List, [], ◌∷◌, length, Some, slice_get, if◌then◌else◌, arith}
use Rattle.std.proofs.lemmas.Bool.{le-ltb}
use Rattle.object_types.specs.declared.references.Ref.{Ref}
use Rattle.object_types.specs.declared.values.Value.{Value}
use Rattle.object_types.specs.declared.values.Value.TheVariants.{Int, Ref as Refers}
use Rattle.object_types.specs.References.{null, thread, same_ref}
use Rattle.object_types.specs.Values.{truth, says}
use Rattle.object_types.specs.Sets.{every}
use Rattle.object_types.specs.Heap.{Heap, Record, is_open, mutable, put}
use Rattle.method.specs.declared.program.CheckKind.TheVariants.{Read}
use Rattle.method.specs.declared.program.Comparison.TheVariants.{Equal}
use Rattle.method.specs.declared.program.Expr.{Expr}
use Rattle.method.specs.declared.program.Expr.TheVariants.{Variable, Field', Compare'}
use Rattle.method.specs.declared.program.RightSide.TheVariants.{Malloc}
use Rattle.method.specs.declared.program.Action.TheVariants.{Define}
use Rattle.method.specs.declared.program.Item.{Item}
use Rattle.method.specs.declared.program.Item.TheVariants.{Struct, Function}
use Rattle.method.specs.declared.program.VariableInfo.{VariableInfo}
use Rattle.method.specs.declared.program.FieldInfo.{FieldInfo}
use Rattle.method.specs.declared.program.Program.{Program}
use Rattle.method.specs.Tables.{read, is_struct, is_field_of, belongs}
use Rattle.method.specs.Typing.{stmt_ok, of_content, is_field_range, is_type, returns_value, is_item, times, WellTyped}
use Rattle.method.specs.Legal.{Good}
use Rattle.method.specs.Rely.{Rely}
use Rattle.method.specs.SpecValue.{compare}
use Rattle.method.specs.Expressions.{Outcome, Gave, Context, eval, readable}
use Rattle.method.specs.Actions.{InLocal, Supply, Chosen, Progress, Valued, spot, starting, new_object, malloc, store, no_choices, malloc_fits, act, callee}
use Rattle.method.specs.Labels.{ProgramLabel}
use Rattle.method.specs.LocalRuns.{LocalOk}
use Rattle.method.specs.Machine.{fit_parameters, requires_hold, begin, IsStart}
use Rattle.method.specs.SafeRuns.{Branch, RunsOk, RunsBody, Goes}
use Rattle.method.specs.Trace.{Memory, box}
use Rattle.method.proofs.Empty.{empty_is_good}
use Rattle.method.proofs.Global.{both_and, same_ref_self}
use Rattle.method.proofs.Runs.{same_runs}
use Rattle.machine_laws.proofs.Heaps.{put_same, same_ref_from}
use Rattle.machine_laws.proofs.Typed.{ne_eqb, or_left}
use Rattle.safety_law.specs.LabelFacts.{LabelHolds, AllLabelsHold}
use Rattle.safety_law.proofs.Suffice.{labels_mean_safe}
use Rattle.safe_counter.specs.SafeByLabels.{IsSafeByLabels}
use Rattle.safe_counter.specs.Shared.{program}
use Rattle.safe_counter.proofs.Claims.{truth_says}
use Rattle.safe_counter.proofs.Lists.{of_one, of_two, of_struct}
use Rattle.safe_counter.proofs.Passing.{Passing, pass_then, pass_after, pass_gives, pass_fitting, then_gives, check_gives}
use Rattle.safe_counter.proofs.Safe.{shared_is_safe}
use Rattle.safe_counter.proofs.Supplies.{malloc_passes}
use Rattle.safe_counter.proofs.Worker.{if_both}
use Rattle.grain_law.specs.Rows.{pair, number_field, compares, main_equality, equality}
use Rattle.grain_law.specs.Samples.{SharedIsSafeInFineSteps, EqualityIsSafeInFineSteps, equality_start}
use Rattle.grain_law.proofs.Law.{safe_is_safe_in_fine_steps}

pub shared_is_safe_in_fine_steps : SharedIsSafeInFineSteps
shared_is_safe_in_fine_steps m = safe_is_safe_in_fine_steps (program m) (shared_is_safe m).typed (shared_is_safe m).safe

-- Tables of one struct with two fields, and of one function.

and_false : (b c : Bool) → c ≡ false → b && c ≡ false
and_false true c e = e
and_false false c e = refl

of_two_fields : (i j : FieldInfo) → i.of == 3 ≡ true → j.of == 3 ≡ true → (f : ℕ) → belongs (slice_get (i ∷ j ∷ []) f) 3 ≡ nat_le 0 f && nat_lt f (0 + 2)
of_two_fields i j e d zero = e
of_two_fields i j e d (suc zero) = d
of_two_fields i j e d (suc (suc f)) = sym (and_false (nat_le 0 (suc (suc f))) (nat_lt (suc (suc f)) 2) (le-ltb (suc (suc f)) 2 (omega arith)))

none : (a b : Bool) → a ≡ false → b ≡ false → (if a then 1 else 0) + 0 ≡ (if b then 1 else 0)
none true b e f = absurd (cc)
none false true e f = absurd (cc)
none false false e f = refl

none_next : (a b : Bool) → a ≡ false → b ≡ false → 0 + ((if a then 1 else 0) + 0) ≡ (if b then 1 else 0)
none_next true b e f = absurd (cc)
none_next false true e f = absurd (cc)
none_next false false e f = refl

branch : {A B : Type 0} (b : Bool) → (b ≡ true → A) → (b ≡ false → B) → Branch b A B
branch true f g = f refl
branch false f g = g refl

-- The comparison of two fields.

module _ (m : Memory) where
  abbrev p : Program
  p = equality m

  once : (i : Item) → times i p.items.items ≡ (if is_item p i then 1 else 0)
  once (Struct zero) = refl
  once (Struct (suc n)) = none (suc n == 0) (nat_lt (suc n) 1) (ne_eqb (suc n) 0 (λ e. absurd (omega (arith, e)))) (le-ltb (suc n) 1 (omega arith))
  once (Function zero) = refl
  once (Function (suc n)) = none_next (suc n == 0) (nat_lt (suc n) 1) (ne_eqb (suc n) 0 (λ e. absurd (omega (arith, e)))) (le-ltb (suc n) 1 (omega arith))

  typed : WellTyped p
  typed = record {
    main = λ k e. subst (λ j. nat_lt j 1 ≡ true) e refl;
    parameters = of_one (main_equality m) (λ k f. nat_le f.parameters _ ≡ true) refl;
    bodies = of_one (main_equality m) (λ k f. every (stmt_ok p f k) f.body.items ≡ true) refl;
    returns = of_one (main_equality m) (λ k f. returns_value f.result f.body.items ≡ true) refl;
    variable_types = of_one (main_equality m) (λ k f. every (λ (v : VariableInfo). is_type p v.ty) f.variables.items ≡ true) refl;
    result_types = λ k f ty e r. of_one (main_equality m) (λ k f. f.result ≡ Some ty → is_type p ty ≡ true) (λ z. absurd (cc)) k f e r;
    fields = λ ty f s e. of_struct (pair m) (λ t u. is_field_of p f t ≡ is_field_range p t f u) (of_two_fields (number_field m) (number_field m) refl refl f) ty s e;
    field_types = of_two (number_field m) (number_field m) (λ f i. is_type p i.ty ≡ true) refl refl;
    field_structs = of_two (number_field m) (number_field m) (λ f i. is_struct p i.of ≡ true) refl refl;
    invariants = of_struct (pair m) (λ ty s. (every of_content s.invariants.items ≡ true) × (every of_content s.mine.items ≡ true)) (refl, refl);
    sites = λ n s e. absurd (cc);
    sites_stand = λ n s e. absurd (cc);
    items = once;
  }

  abbrev field : ℕ → Expr
  field f = Field' (box m) (Variable 0) f

  -- a field of an object that is the thread's own
  field_gives : (x : Context) (choices : List Value) (line n f : ℕ) (k : Heap) (r : Ref) (v : Value) → mutable x.me k r ≡ true →
      (eval p (spot x choices line) k (Refers r ∷ v ∷ []) (field f) n).end ≡ Gave (read p k r f)
  field_gives x choices line n f k r v own =
      let at_ = spot x choices line in
      check_gives at_ (readable p at_ k r f) (n + 0) Read _ (read p k r f) (or_left (mutable x.me k r) _ own) refl

  compares_passes : (label : ℕ) (rest : Heap → List Value → Type 0) (x : Context) (choices : List Value) (s : Supply) (n : ℕ) (k : Heap) (r : Ref) (v : Value) → mutable x.me k r ≡ true →
      ((w : Value) → rest k (Refers r ∷ w ∷ [])) → Passing label (Goes rest) (act p x choices s 6 (compares m) n k (Refers r ∷ v ∷ []))
  unfolding act
  compares_passes label rest x choices s n k r v own go =
      let at_ = spot x choices 6 in
      let l : List Value = Refers r ∷ v ∷ [] in
      let w = says (compare Equal (read p k r 0) (read p k r 1)) in
      pass_fitting label (Goes rest) (no_choices choices) _ (λ e.
      pass_then label (Goes rest) _ _ (record { value = w; starting = starting k l s })
      (then_gives (eval p at_ k l (Compare' Equal (box m) (field 0) (box m) (field 1)) n) _ w _
      (then_gives (eval p at_ k l (field 0) n) _ (read p k r 0) _ (field_gives x choices 6 n 0 k r v own)
      (then_gives (eval p at_ k l (field 1) (n + 1)) _ (read p k r 1) _ (field_gives x choices 6 (n + 1) 1 k r v own) refl)) refl)
      (pass_gives label (Goes rest) (starting k (Refers r ∷ w ∷ []) s) (go w)))

  made_passes : (label : ℕ) (rest : Heap → List Value → Type 0) (x : Context) (choices : List Value) (news : List Ref) (n : ℕ) (k : Heap) (u v : Value) → rest k (Refers null ∷ v ∷ []) →
      ((r : Ref) (vs : List Value) → rest (put k r (new_object x.me 0 vs)) (Refers r ∷ v ∷ [])) → Passing label (Goes rest)
      (act p x choices (Chosen news) 3 (Define 0 (Malloc 3)) n k (u ∷ v ∷ []))
  unfolding act
  made_passes label rest x choices news n k u v none_made made =
      let at_ = spot x choices 3 in
      let l : List Value = u ∷ v ∷ [] in
      let stores : Valued → Outcome Progress = λ w. store p at_ (InLocal 0) w.value (n + 0) w.starting in
      pass_fitting label (Goes rest) (malloc_fits p 3 choices) _ (λ e.
      pass_after label (Goes rest) (malloc p at_ 3 choices (starting k l (Chosen news))) stores
      (malloc_passes p at_ label (λ w. Passing label (Goes rest) (stores w)) 3 choices k l news (pass_gives label (Goes rest) (starting k (Refers null ∷ v ∷ []) (Chosen news)) none_made)
      (λ r vs rs ty absent. pass_gives label (Goes rest) (starting (put k r (new_object x.me 0 vs)) (Refers r ∷ v ∷ []) (Chosen rs)) (made r vs))))

  end_runs : (x : Context) (label n : ℕ) (k : Heap) (l : List Value) → RunsBody p x (main_equality m) label [] n k l
  end_runs x label n k l j still = tt

  -- what is the thread's own and open stays so while others act
  own_stays : (t : ℕ) (h k : Heap) (r : Ref) → Rely p (thread t) h k → mutable (thread t) h r ≡ true → mutable (thread t) k r ≡ true
  own_stays t h k r rely own = ap (λ (q : Record). is_open q.mode && same_ref q.owner (thread t)) (rely.own_open r own) ∙ own

  new_is_own : (t : ℕ) (h k : Heap) (r : Ref) (vs : List Value) → put h r (new_object (thread t) 0 vs) ≡ k → mutable (thread t) k r ≡ true
  new_is_own t h k r vs still =
      let there : k.get r ≡ new_object (thread t) 0 vs = ap (λ (u : Heap). u.get r) (sym still) ∙ put_same h r (new_object (thread t) 0 vs) in
      both_and (is_open (k.get r).mode) (same_ref (k.get r).owner (thread t)) (ap (λ (q : Record). is_open q.mode) there) (same_ref_from (k.get r).owner (thread t) (ap (λ (q : Record). q.owner) there))

  main_runs : (label t : ℕ) (h : Heap) (args : List Value) → Good p h → fit_parameters (main_equality m) args ≡ true → requires_hold p (main_equality m) (thread t) h args ≡ true →
      RunsBody p (callee p 0 (main_equality m) (thread t) h args) (main_equality m) label (main_equality m).body.items 1 h (begin p (callee p 0 (main_equality m) (thread t) h args)).locals
  main_runs label t h (v ∷ args) good fit pre = absurd (cc ((if_both (suc (length args) == 0) _ fit).0, ne_eqb (suc (length args)) 0 (λ z. absurd (omega (arith, z)))))
  main_runs label t h [] good fit pre =
      let x = callee p 0 (main_equality m) (thread t) h [] in
      λ k rely choices news. (made_passes label _ x choices news 1 k (Refers null) (Int (pos 0))
      (λ j still. branch (truth (says (not (same_ref null null)))) (λ e. absurd (cc (e, truth_says (not (same_ref null null)), ap not (same_ref_self null))))
      (λ e. end_runs x label 0 j (Refers null ∷ Int (pos 0) ∷ [])))
      (λ r vs j still. branch (truth (says (not (same_ref r null))))
      (λ e. λ i relies picks fresh. (compares_passes label _ x picks (Chosen fresh) _ i r (Int (pos 0)) (own_stays t j i r relies (new_is_own t k j r vs still)) (λ w. end_runs x label 0 i (Refers r ∷ w ∷ []))).passes)
      (λ e. end_runs x label 0 j (Refers r ∷ Int (pos 0) ∷ [])))).passes

  runs_ok : (label : ℕ) → RunsOk p 0 label
  runs_ok label f is = of_one (main_equality m)
      (λ k f. (t : ℕ) (h : Heap) (args : List Value) → Good p h → fit_parameters f args ≡ true → requires_hold p f (thread t) h args ≡ true →
      RunsBody p (callee p k f (thread t) h args) f label f.body.items 1 h (begin p (callee p k f (thread t) h args)).locals)
      (main_runs label) 0 f is

  local_ok : (label : ℕ) → LocalOk p 0 label
  local_ok label = (same_runs p 0 label).1 (runs_ok label)

  -- its labels are the two reads
  labels_hold : AllLabelsHold p
  labels_hold i l is = of_two (read_label 1) (read_label 2) (λ i l. LabelHolds p l) (local_ok 1) (local_ok 2) i l is
    where
      read_label : ℕ → ProgramLabel
      read_label n = record { item = Function 0; ordinal = n; check = record { kind = Read; line = 6 } }

  starts : IsStart p (equality_start m)
  starts = record { function = main_equality m; args = []; is = refl; ranges = refl; pre = refl; threads = refl }

  safe_by_labels : IsSafeByLabels p (equality_start m)
  safe_by_labels = record { typed = typed; labels = labels_hold; safe = labels_mean_safe p typed labels_hold; starts = starts; good = empty_is_good p }

pub equality_is_safe_in_fine_steps : EqualityIsSafeInFineSteps
equality_is_safe_in_fine_steps m = let s = safe_by_labels m in (s, safe_is_safe_in_fine_steps (equality m) s.typed s.safe)
