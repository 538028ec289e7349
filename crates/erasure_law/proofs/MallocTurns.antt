-- Where the machine's turn on a malloc goes on, so does the plain one, with the choices of concrete fields.
use Rattle.std.proofs.Common.{◌≡◌, ℕ, zero, suc, ◌+◌, ◌-◌, Bool, true, false, ◌&&◌, List, [], ◌∷◌, map, Option, Some, None, slice_get, ⊎_elim, refl, sym, ap, ◌∙◌, subst, arith}
use Rattle.std.specs.Prelude.{pos, nat_lt, if◌then◌else◌}
use Rattle.std.proofs.lemmas.Bool.{ltb-false}
use Rattle.object_types.specs.declared.references.Ref.{Ref}
use Rattle.object_types.specs.declared.values.Value.{Value}
use Rattle.object_types.specs.declared.values.Value.TheVariants.{Int, Ref as Refers}
use Rattle.method.specs.declared.program.Target.{Target}
use Rattle.method.specs.declared.program.Target.TheVariants.{Local}
use Rattle.method.specs.declared.program.RightSide.TheVariants.{Malloc}
use Rattle.method.specs.declared.program.Simple.TheVariants.{Assign}
use Rattle.method.specs.declared.program.Action.TheVariants.{Simply, Define}
use Rattle.method.specs.declared.program.Stmt.TheVariants.{Do}
use Rattle.method.specs.declared.program.StructInfo.{StructInfo}
use Rattle.method.specs.declared.program.FunctionInfo.{FunctionInfo}
use Rattle.method.specs.declared.program.DeclaredType.TheVariants.{Pointer}
use Rattle.method.specs.declared.program.Program.{Program}
use Rattle.object_types.specs.References.{null, same_ref, is_thread}
use Rattle.object_types.specs.Values.{kept, same_value}
use Rattle.object_types.specs.Heap.{Heap, Record, nothing, put, fresh}
use Rattle.method.specs.Tables.{in_type, is_struct, struct_of, type_of_field}
use Rattle.method.specs.WellFormed.{WellFormed}
use Rattle.method.specs.Legal.{Good}
use Rattle.method.specs.Typing.{WellTyped, Refs}
use Rattle.method.specs.Expressions.{Outcome, after}
use Rattle.method.specs.Actions.{Place, InLocal, Fresh, Progress, Valued, spot, starting, act, store, malloc, left_side, right_side, right_checks, target_checks, no_tally, no_choices, fields_fit, contents_fit, malloc_fits, kept_at, fields_from, first_field, new_object}
use Rattle.method.specs.Machine.{Remaining, Run, Activation, turn_of, begin}
use Rattle.method.proofs.Global.{and_both, same_ref_is, same_value_is}
use Rattle.machine_laws.proofs.Outcomes.{OnGave, end_map, after_gave, fitting_gave}
use Rattle.machine_laws.proofs.Claims.{Right}
use Rattle.machine_laws.proofs.Simple.{malloc_gave}
use Rattle.machine_laws.proofs.Typed.{Env, or_cases, not_both}
use Rattle.plain_machine.specs.PlainCode.{Code, StoreItem, NewObject, is_ghost_field, plain_code}
use Rattle.plain_machine.specs.PlainSteps.{Comes, Yields, next, fits_then, PlainFrame, PlainTurn, PlainProgress, PlainValued, plain_place, plain_store, plain_malloc, plain_new, plain_malloc_fits, concrete_contents, contents_of, prepend, has_contents, store_turn}
use Rattle.plain_machine.specs.Erasure.{concrete_locals, plain_record, plain_heap, plain_frame}
use Rattle.plain_machine.specs.GhostApart.{GhostApart}
use Rattle.erasure_law.specs.Choices.{concrete_choices, struct_choices, malloc_choices}
use Rattle.erasure_law.specs.Laws.{Leads}
use Rattle.erasure_law.proofs.Exprs.{end_both}
use Rattle.erasure_law.proofs.Heaps.{fresh_same}
use Rattle.erasure_law.proofs.StoreTurns.{Placed, Targeted, item_of, Acts, acted_leads, left_is, Stores, store_is}

-- Contents with 0 for ghost fields.

abbrev zeroed : Program → ℕ → List Value → List Value
zeroed p first [] = []
zeroed p first (v ∷ vs) = (if is_ghost_field p first then Int (pos 0) else v) ∷ zeroed p (first + 1) vs

ghost_step : (p : Program) (first n : ℕ) (vs : List Value) → is_ghost_field p first ≡ true → concrete_contents p first (suc n) vs ≡ prepend (Int (pos 0)) (concrete_contents p (first + 1) n vs)
ghost_step p first n [] e = ap (λ b. if b then prepend (Int (pos 0)) (concrete_contents p (first + 1) n []) else None) e
ghost_step p first n (v ∷ vs) e =
    ap (λ b. if b then prepend (Int (pos 0)) (concrete_contents p (first + 1) n (v ∷ vs)) else (if in_type (type_of_field p first) v then prepend v (concrete_contents p (first + 1) n vs) else None)) e

concrete_step : (p : Program) (first n : ℕ) (v : Value) (vs : List Value) → is_ghost_field p first ≡ false → in_type (type_of_field p first) v ≡ true → concrete_contents p first (suc n) (v ∷ vs) ≡ prepend v (concrete_contents p (first + 1) n vs)
concrete_step p first n v vs e t =
    ap (λ b. if b then prepend (Int (pos 0)) (concrete_contents p (first + 1) n (v ∷ vs)) else (if in_type (type_of_field p first) v then prepend v (concrete_contents p (first + 1) n vs) else None)) e ∙
    ap (λ b. if b then prepend v (concrete_contents p (first + 1) n vs) else None) t

contents_are : (p : Program) (first n : ℕ) (vs : List Value) → fields_fit p first n vs ≡ true → concrete_contents p first n (concrete_choices p first n vs) ≡ Some (zeroed p first vs)
contents_are p first zero [] e = refl
contents_are p first zero (v ∷ vs) e = absurd (not_both false e refl)
contents_are p first (suc n) [] e = absurd (not_both false e refl)
contents_are p first (suc n) (v ∷ vs) e =
    let b = and_both (in_type (type_of_field p first) v) (fields_fit p (first + 1) n vs) e in
    by (is_ghost_field p first) refl b.0 (contents_are p (first + 1) n vs b.1)
  where
    by : (g : Bool) → is_ghost_field p first ≡ g → in_type (type_of_field p first) v ≡ true → concrete_contents p (first + 1) n (concrete_choices p (first + 1) n vs) ≡ Some (zeroed p (first + 1) vs) →
        concrete_contents p first (suc n) (if g then concrete_choices p (first + 1) n vs else v ∷ concrete_choices p (first + 1) n vs) ≡ Some ((if g then Int (pos 0) else v) ∷ zeroed p (first + 1) vs)
    by true g t i = ghost_step p first n (concrete_choices p (first + 1) n vs) g ∙ ap (prepend (Int (pos 0))) i
    by false g t i = concrete_step p first n v (concrete_choices p (first + 1) n vs) g t ∙ ap (prepend v) i

none_either : {A : Type 0} (b : Bool) (o : Option A) → o ≡ None → (if b then None else o) ≡ o
none_either true o e = sym e
none_either false o e = refl

kept_either : (b : Bool) (v : Value) → (if b then None else kept v) ≡ kept (if b then Int (pos 0) else v)
kept_either true v = refl
kept_either false v = refl

-- a field of the contents
kept_field : (p : Program) (first : ℕ) (vs : List Value) (i : ℕ) → (if is_ghost_field p (first + i) then None else kept_at (slice_get vs i)) ≡ kept_at (slice_get (zeroed p first vs) i)
kept_field p first [] i = none_either (is_ghost_field p (first + i)) (kept_at (slice_get [] i)) refl
kept_field p first (v ∷ vs) zero =
    let e : first + 0 ≡ first = omega arith in
    ap (λ k. if is_ghost_field p k then None else kept v) e ∙ kept_either (is_ghost_field p first) v
kept_field p first (v ∷ vs) (suc i) =
    let e : first + suc i ≡ (first + 1) + i = omega arith in
    ap (λ k. if is_ghost_field p k then None else kept_at (slice_get vs i)) e ∙ kept_field p (first + 1) vs i

field_same : (p : Program) (first : ℕ) (vs : List Value) (g : ℕ) → (if is_ghost_field p g then None else fields_from first vs g) ≡ fields_from first (zeroed p first vs) g
field_same p first vs g = by (nat_lt g first) refl
  where
    by : (b : Bool) → nat_lt g first ≡ b → (if is_ghost_field p g then None else (if b then None else kept_at (slice_get vs (g - first)))) ≡ (if b then None else kept_at (slice_get (zeroed p first vs) (g - first)))
    by true e = none_either (is_ghost_field p g) None refl
    by false e =
        let y = ltb-false g first e in
        let m : first + (g - first) ≡ g = omega (arith, y) in
        ap (λ k. if is_ghost_field p k then None else kept_at (slice_get vs (g - first))) (sym m) ∙ kept_field p first vs (g - first)

object_same : (p : Program) (me : Ref) (first : ℕ) (vs : List Value) → plain_record p (new_object me first vs) ≡ new_object null first (zeroed p first vs)
object_same p me first vs = λ i. record (new_object null first vs) { fields = (λ g. field_same p first vs g i) }

-- the heap with the new object
new_heap : (p : Program) (h : Heap) (ty : ℕ) → is_struct p ty ≡ true → (r s : Record) → plain_record p r ≡ s → put (plain_heap p h) (fresh (plain_heap p h) ty) s ≡ plain_heap p (put h (fresh h ty) r)
unfolding put
new_heap p h ty st r s e = ap (λ o. put (plain_heap p h) o s) (fresh_same p h ty st) ∙ (λ i. record { get = (λ q. here q (same_ref q (fresh h ty)) refl i); support = fresh h ty ∷ h.support })
  where
    here : (q : Ref) (b : Bool) → same_ref q (fresh h ty) ≡ b → (if b then s else (if is_struct p q.ty then plain_record p (h.get q) else nothing)) ≡ (if is_struct p q.ty then plain_record p (if b then r else h.get q) else nothing)
    here q true x = sym (ap (λ b. if b then plain_record p r else nothing) (subst (λ (y : Ref). is_struct p y.ty ≡ true) (sym (same_ref_is q (fresh h ty) x)) st) ∙ e)
    here q false x = refl

contents_some : (p : Program) (o : Option StructInfo) (vs : List Value) → contents_fit p o vs ≡ true → (s : StructInfo) × (o ≡ Some s)
contents_some p None vs e = absurd (not_both false e refl)
contents_some p (Some s) vs e = (s, refl)

no_more : (vs : List Value) → no_choices vs ≡ true → vs ≡ []
no_more [] e = refl
no_more (v ∷ vs) e = absurd (not_both false e refl)

no_struct_choices : (p : Program) (o : Option StructInfo) → struct_choices p o [] ≡ []
no_struct_choices p None = refl
no_struct_choices p (Some s) = none (s.fields)
  where
    none : (n : ℕ) → concrete_choices p s.first_field n [] ≡ []
    none zero = refl
    none (suc n) = refl

module _ (p : Program) (typed : WellTyped p) (apart : GhostApart p) (f : FunctionInfo) (a : Activation) (is : slice_get p.functions.items a.context.function ≡ Some f) (below : List Activation) (h : Heap) (good : Good p h) (env : Env p f h a.locals) (thread : is_thread a.context.me ≡ true) (number ty : ℕ) (st : is_struct p ty ≡ true) where
  abbrev first : Progress
  first = starting h a.locals (Fresh number)

  -- what the malloc gives
  pub record Allots (line : ℕ) (choices : List Value) (v : Valued) : Type 0 where
    pub heap : Heap
    pub starts : v.starting ≡ record first { heap = heap }
    pub fits : plain_malloc_fits p ty (malloc_choices p ty choices) ≡ true
    pub gives : plain_malloc p line ty (malloc_choices p ty choices) (plain_heap p h) ≡ Yields (record { value = v.value; heap = plain_heap p heap })

  new_plain : (line : ℕ) (s : StructInfo) (vs : List Value) → struct_of p ty ≡ Some s → fields_fit p s.first_field s.fields vs ≡ true →
      plain_new p line ty (contents_of p (struct_of p ty) (struct_choices p (struct_of p ty) vs)) (plain_heap p h) ≡ Yields (record { value = Refers (fresh h ty); heap = plain_heap p (put h (fresh h ty) (new_object a.context.me (first_field (struct_of p ty)) vs)) })
  new_plain line s vs e k =
      let zs = zeroed p s.first_field vs in
      let fi : first_field (struct_of p ty) ≡ s.first_field = ap first_field e in
      ap (λ o. plain_new p line ty o (plain_heap p h)) (ap (λ o. contents_of p o (struct_choices p o vs)) e ∙ contents_are p s.first_field s.fields vs k) ∙
      ap (λ n. Yields (record { value = Refers (fresh (plain_heap p h) ty); heap = put (plain_heap p h) (fresh (plain_heap p h) ty) (new_object null n zs) })) fi ∙
      ap (λ o. Yields (record { value = Refers o; heap = put (plain_heap p h) (fresh (plain_heap p h) ty) (new_object null s.first_field zs) })) (fresh_same p h ty st) ∙
      ap (λ k. Yields (record { value = Refers (fresh h ty); heap = k })) (new_heap p h ty st (new_object a.context.me s.first_field vs) (new_object null s.first_field zs) (object_same p a.context.me s.first_field vs)) ∙
      sym (ap (λ n. Yields (record { value = Refers (fresh h ty); heap = plain_heap p (put h (fresh h ty) (new_object a.context.me n vs)) })) fi)

  allots : (line : ℕ) (choices : List Value) → malloc_fits p ty choices ≡ true → OnGave (malloc p (spot a.context choices line) ty choices first) (Allots line choices)
  allots line [] e = tt
  allots line (c ∷ vs) e = ⊎_elim
      (λ x. let b = and_both (same_value c (Int (pos 0))) (no_choices vs) x in
      subst (λ w. OnGave (malloc p (spot a.context (w ∷ vs) line) ty (w ∷ vs) first) (Allots line (w ∷ vs))) (sym (same_value_is c (Int (pos 0)) b.0)) (null_case vs b.1))
      (λ x. let b = and_both (same_value c (Int (pos 1))) (contents_fit p (struct_of p ty) vs) x in
      subst (λ w. OnGave (malloc p (spot a.context (w ∷ vs) line) ty (w ∷ vs) first) (Allots line (w ∷ vs))) (sym (same_value_is c (Int (pos 1)) b.0)) (new_case vs b.1))
      (or_cases (same_value c (Int (pos 0)) && no_choices vs) (same_value c (Int (pos 1)) && contents_fit p (struct_of p ty) vs) e)
    where
      null_case : (vs : List Value) → no_choices vs ≡ true → OnGave (malloc p (spot a.context (Int (pos 0) ∷ vs) line) ty (Int (pos 0) ∷ vs) first) (Allots line (Int (pos 0) ∷ vs))
      null_case vs k = subst (λ ws. OnGave (malloc p (spot a.context (Int (pos 0) ∷ ws) line) ty (Int (pos 0) ∷ ws) first) (Allots line (Int (pos 0) ∷ ws))) (sym (no_more vs k))
          (record { heap = h; starts = refl; fits = ap (λ ws. plain_malloc_fits p ty (Int (pos 0) ∷ ws)) (no_struct_choices p (struct_of p ty)); gives = refl })

      new_case : (vs : List Value) → contents_fit p (struct_of p ty) vs ≡ true → OnGave (malloc p (spot a.context (Int (pos 1) ∷ vs) line) ty (Int (pos 1) ∷ vs) first) (Allots line (Int (pos 1) ∷ vs))
      new_case vs k =
          let s = contents_some p (struct_of p ty) vs k in
          let fit : fields_fit p s.0.first_field s.0.fields vs ≡ true = sym (ap (λ o. contents_fit p o vs) s.1) ∙ k in
          record {
            heap = put h (fresh h ty) (new_object a.context.me (first_field (struct_of p ty)) vs);
            starts = refl;
            fits = ap has_contents (ap (λ o. contents_of p o (struct_choices p o vs)) s.1 ∙ contents_are p s.0.first_field s.0.fields vs fit);
            gives = new_plain line s.0 vs s.1 fit;
          }

  abbrev item : List Value → Code → Comes PlainTurn
  item choices c = item_of p typed apart f a is below h good env choices c

  malloc_item : (line : ℕ) (choices : List Value) (t : Target) (c : Code) (place : Place) (v : PlainValued) (z : PlainProgress) → plain_malloc_fits p ty choices ≡ true →
      plain_place p line (plain_heap p h) (concrete_locals f.variables.items a.locals) t ≡ Yields place → plain_malloc p line ty choices (plain_heap p h) ≡ Yields v →
      plain_store p line place v.value v.heap (concrete_locals f.variables.items a.locals) ≡ Yields z →
      item choices (StoreItem line t (NewObject ty) c) ≡ Yields (record { heap = z.heap; frames = record { function = a.context.function; locals = z.locals; code = c } ∷ map (plain_frame p) below; started = []; line = line })
  malloc_item line choices t c place v z k x y w =
      let cl = concrete_locals f.variables.items a.locals in
      let ph = plain_heap p h in
      let fr : PlainFrame = record { function = a.context.function; locals = cl; code = StoreItem line t (NewObject ty) c } in
      let rest = map (plain_frame p) below in
      let stores : Place → PlainValued → Comes PlainTurn = λ place v. store_turn p choices fr rest ph line c (plain_store p line place v.value v.heap cl) in
      ap (λ b. fits_then b (next (plain_place p line ph cl t) (λ place. next (plain_malloc p line ty choices ph) (stores place)))) k ∙
      ap (λ (o : Comes Place). next o (λ place. next (plain_malloc p line ty choices ph) (stores place))) x ∙
      ap (λ (o : Comes PlainValued). next o (stores place)) y ∙
      ap (λ (o : Comes PlainProgress). store_turn p choices fr rest ph line c o) w

  -- the store of what it gives
  stores_new : (line : ℕ) (choices : List Value) (t : Target) (code : List Remaining) (place : Place) (n m : ℕ) → malloc_fits p ty choices ≡ true → Placed p f place →
      plain_place p line (plain_heap p h) (concrete_locals f.variables.items a.locals) t ≡ Yields place →
      OnGave (after (right_side p (spot a.context choices line) (Malloc ty) place n no_tally first) (λ v. store p (spot a.context choices line) place v.value m v.starting)) (Acts p typed apart f a is below h good env line (item (malloc_choices p ty choices) (StoreItem line t (NewObject ty) (plain_code p f code))) code)
  stores_new line choices t code place n m k pl x =
      let at_ = spot a.context choices line in
      let Q : Progress → Type 0 = Acts p typed apart f a is below h good env line (item (malloc_choices p ty choices) (StoreItem line t (NewObject ty) (plain_code p f code))) code in
      let R : Valued → Type 0 = Right p f at_ place (Refs (Pointer ty)) first in
      after_gave (malloc p at_ ty choices first) (λ v. store p at_ place v.value m v.starting) (λ v. R v × Allots line choices v) Q
      (end_both (malloc p at_ ty choices first) R (Allots line choices) (malloc_gave p typed f at_ thread first env ty st place choices k) (allots line choices k))
      (λ v y.
      subst (λ s. OnGave (store p at_ place v.value m s) Q) (sym y.1.starts)
      (way v.value y.1.heap (subst (λ (s : Progress). WellFormed p s.heap) y.1.starts y.0.fine.ready.heap) y.1.fits y.1.gives))
    where
      way : (v : Value) (j : Heap) → WellFormed p j → plain_malloc_fits p ty (malloc_choices p ty choices) ≡ true → plain_malloc p line ty (malloc_choices p ty choices) (plain_heap p h) ≡ Yields (record { value = v; heap = plain_heap p j }) →
          OnGave (store p (spot a.context choices line) place v m (record first { heap = j })) (Acts p typed apart f a is below h good env line (item (malloc_choices p ty choices) (StoreItem line t (NewObject ty) (plain_code p f code))) code)
      way v j wf fits gives =
          let g : Progress = record first { heap = j } in
          end_map (store p (spot a.context choices line) place v m g).end (Stores p typed apart f a is below h good env line place v g) (Acts p typed apart f a is below h good env line (item (malloc_choices p ty choices) (StoreItem line t (NewObject ty) (plain_code p f code))) code) (λ g' z.
          record {
            turn = record { heap = z.after_store.heap; frames = record { function = a.context.function; locals = z.after_store.locals; code = plain_code p f code } ∷ map (plain_frame p) below; started = []; line = line };
            gives = malloc_item line (malloc_choices p ty choices) t (plain_code p f code) place (record { value = v; heap = plain_heap p j }) z.after_store fits x gives z.gives;
            heap = z.heap;
            frames = ap (λ l. record { function = a.context.function; locals = l; code = plain_code p f code } ∷ map (plain_frame p) below) z.locals;
            started = sym (ap (map (λ x. plain_frame p (begin p x))) z.started);
            at_line = refl;
          }) (store_is p typed apart f a is below h good env choices line place v m g wf pl)

  pub assign_new_goes : (choices : List Value) (line : ℕ) (t : Target) (code : List Remaining) → Targeted p f t →
      OnGave (turn_of p (Fresh number) choices a (Run (Do line (Simply (Assign t (Malloc ty)))) ∷ code) below h) (Leads p (item (malloc_choices p ty choices) (StoreItem line t (NewObject ty) (plain_code p f code))))
  unfolding act
  assign_new_goes choices line t code tg =
      let at_ = spot a.context choices line in
      let it = item (malloc_choices p ty choices) (StoreItem line t (NewObject ty) (plain_code p f code)) in
      let Q : Progress → Type 0 = Acts p typed apart f a is below h good env line it code in
      let rest : Place → Outcome Progress = λ place. after (right_side p at_ (Malloc ty) place (0 + target_checks t) no_tally first) (λ v. store p at_ place v.value (0 + target_checks t + right_checks p false (Malloc ty)) v.starting) in
      acted_leads p typed apart f a is below h good env line code it (act p a.context choices (Fresh number) line (Simply (Assign t (Malloc ty))) 0 h a.locals)
      (fitting_gave (malloc_fits p ty choices) (after (left_side p at_ t 0 first) rest) Q (λ k.
      after_gave (left_side p at_ t 0 first) rest (λ place. Placed p f place × (plain_place p line (plain_heap p h) (concrete_locals f.variables.items a.locals) t ≡ Yields place)) Q (left_is p typed apart f a is below h good env choices line t 0 (Fresh number) tg) (λ place x.
      stores_new line choices t code place (0 + target_checks t) (0 + target_checks t + right_checks p false (Malloc ty)) k x.0 x.1)))

  pub define_new_goes : (choices : List Value) (line i : ℕ) (code : List Remaining) → Placed p f (InLocal i) →
      OnGave (turn_of p (Fresh number) choices a (Run (Do line (Define i (Malloc ty))) ∷ code) below h) (Leads p (item (malloc_choices p ty choices) (StoreItem line (Local i) (NewObject ty) (plain_code p f code))))
  unfolding act
  define_new_goes choices line i code pl =
      let at_ = spot a.context choices line in
      let it = item (malloc_choices p ty choices) (StoreItem line (Local i) (NewObject ty) (plain_code p f code)) in
      let Q : Progress → Type 0 = Acts p typed apart f a is below h good env line it code in
      acted_leads p typed apart f a is below h good env line code it (act p a.context choices (Fresh number) line (Define i (Malloc ty)) 0 h a.locals)
      (fitting_gave (malloc_fits p ty choices) (after (right_side p at_ (Malloc ty) (InLocal i) 0 no_tally first) (λ v. store p at_ (InLocal i) v.value (0 + right_checks p false (Malloc ty)) v.starting)) Q (λ k.
      stores_new line choices (Local i) code (InLocal i) 0 (0 + right_checks p false (Malloc ty)) k pl refl))
