-- Where the machine's turn on a concrete item goes on, so does the plain one, to what the machine's leaves without annotations: declarations, stores and frees.
use Rattle.std.proofs.Common.{◌≡◌, ℕ, zero, suc, ◌+◌, Bool, true, false, not, ◌&&◌, ◌||◌, List, [], ◌∷◌, map, Option, Some, None, slice_get, slice_set, ⊎_elim, refl, sym, ap, ◌∙◌, subst}
use Rattle.std.specs.Prelude.{pos, if◌then◌else◌}
use Rattle.object_types.specs.declared.records.Mode.TheVariants.{Freed}
use Rattle.object_types.specs.declared.values.Value.{Value}
use Rattle.object_types.specs.declared.values.Value.TheVariants.{Int}
use Rattle.method.specs.declared.program.CheckKind.TheVariants.{Write, Writes, Free}
use Rattle.method.specs.declared.program.Expr.{Expr}
use Rattle.method.specs.declared.program.Target.{Target}
use Rattle.method.specs.declared.program.Target.TheVariants.{Local, FieldOf}
use Rattle.method.specs.declared.program.RightSide.TheVariants.{Compute}
use Rattle.method.specs.declared.program.Simple.TheVariants.{Assign}
use Rattle.method.specs.declared.program.Action.TheVariants.{Simply, Declare, Define, FreeObject}
use Rattle.method.specs.declared.program.Stmt.TheVariants.{Do}
use Rattle.method.specs.declared.program.VariableInfo.{VariableInfo}
use Rattle.method.specs.declared.program.FunctionInfo.{FunctionInfo}
use Rattle.method.specs.declared.program.Program.{Program}
use Rattle.object_types.specs.References.{null}
use Rattle.object_types.specs.Values.{referent}
use Rattle.object_types.specs.Heap.{Heap, Same, put, write, mutable}
use Rattle.method.specs.Tables.{local, is_volatile, is_approved}
use Rattle.method.specs.WellFormed.{WellFormed}
use Rattle.method.specs.Legal.{Good}
use Rattle.method.specs.Typing.{Values, values, WellTyped}
use Rattle.method.specs.Expressions.{Outcome, Gives, after, check, checks, eval, is_listed, may_write}
use Rattle.method.specs.Actions.{Place, InLocal, InField, Supply, Progress, Valued, heap_of, spot, starting, act, store, left_side, right_side, target_checks, right_checks, no_tally, free, no_choices, one_fits, may_count}
use Rattle.method.specs.Machine.{Remaining, Run, Activation, Turn, went, action_turn, turn_of, begin}
use Rattle.machine_laws.proofs.Outcomes.{OnGave, end_map, after_gave, check_gave, fitting_gave}
use Rattle.machine_laws.proofs.Typed.{Env, is_of, eval_of, or_cases, not_both}
use Rattle.plain_machine.specs.PlainCode.{Code, StoreItem, DeclareItem, FreeItem, Worth, is_ghost_field, ghost_variable, is_ghost_variable, plain_code}
use Rattle.plain_machine.specs.PlainSteps.{Comes, Yields, next, plain_check, fits_then, alive, PlainFrame, PlainTurn, PlainProgress, PlainValued, plain_eval, plain_place, plain_store, plain_free, plain_declare, plain_item, store_turn}
use Rattle.plain_machine.specs.Erasure.{concrete_locals, plain_heap, plain_frame_of, plain_frame}
use Rattle.plain_machine.specs.GhostApart.{GhostApart, concrete}
use Rattle.erasure_law.specs.Laws.{Erases, Leads}
use Rattle.erasure_law.proofs.Exprs.{is_alive, mutable_alive, reads_alive, eval_plain, end_both, struct_alive}
use Rattle.erasure_law.proofs.Heaps.{concrete_write, freed_same}
use Rattle.erasure_law.proofs.ValueKinds.{NullOrStruct, value_kind, kind_struct, alive_struct}

if_not : {A : Type 0} (b : Bool) (x y : A) → b ≡ false → (if b then x else y) ≡ y
if_not true x y e = absurd (not_both true refl e)
if_not false x y e = refl

-- a store to a concrete variable is that store
pub concrete_set : (is : List VariableInfo) (l : List Value) (i : ℕ) (v : Value) → ghost_variable (slice_get is i) ≡ false → slice_set (concrete_locals is l) i v ≡ concrete_locals is (slice_set l i v)
concrete_set is [] i v e = refl
concrete_set [] (u ∷ us) zero v e = refl
concrete_set [] (u ∷ us) (suc i) v e = ap (λ ys. u ∷ ys) (concrete_set [] us i v refl)
concrete_set (x ∷ xs) (u ∷ us) zero v e = ap (λ y. y ∷ concrete_locals xs us) (sym (if_not x.is_ghost (Int (pos 0)) v e))
concrete_set (x ∷ xs) (u ∷ us) (suc i) v e = ap (λ ys. (if x.is_ghost then Int (pos 0) else u) ∷ ys) (concrete_set xs us i v e)

pub record TypedExpr (p : Program) (f : FunctionInfo) (e : Expr) : Type 0 where
  pub which : Values
  pub has : values p f e ≡ Some which
  pub plain : concrete p f e ≡ true

-- a concrete place; what a field's pointer refers to is NULL or a struct
abbrev pub Placed : Program → FunctionInfo → Place → Type 0
Placed p f (InLocal i) = is_ghost_variable p f i ≡ false
Placed p f (InField o k) = (is_ghost_field p k ≡ false) × NullOrStruct p o

-- a target that is worked out
abbrev pub Targeted : Program → FunctionInfo → Target → Type 0
Targeted p f (Local i) = is_ghost_variable p f i ≡ false
Targeted p f (FieldOf e k) = TypedExpr p f e × (is_ghost_field p k ≡ false)

-- equal turns erase
pub leads : (p : Program) (c : Comes PlainTurn) (plain : PlainTurn) (turn : Turn) → c ≡ Yields plain → Erases p plain turn → Leads p c turn
leads p c plain turn e x = subst (λ d. Leads p d turn) (sym e) x

module _ (p : Program) (typed : WellTyped p) (apart : GhostApart p) (f : FunctionInfo) (a : Activation) (is : slice_get p.functions.items a.context.function ≡ Some f) (below : List Activation) (h : Heap) (good : Good p h) (env : Env p f h a.locals) where
  -- the function without annotations, with these locals and this code left
  abbrev pub frame_of : List Value → Code → PlainFrame
  frame_of l c = record { function = a.context.function; locals = concrete_locals f.variables.items l; code = c }

  abbrev pub rest_of : List PlainFrame
  rest_of = map (plain_frame p) below

  -- what the plain machine makes of the item at the head of this code
  abbrev pub item_of : List Value → Code → Comes PlainTurn
  item_of choices c = plain_item p choices (frame_of a.locals c) c rest_of (plain_heap p h)

  pub frame_is : (l : List Value) (code : List Remaining) → frame_of l (plain_code p f code) ≡ plain_frame p (went a l code)
  frame_is l code = sym (ap (λ (o : Option FunctionInfo). plain_frame_of p o (went a l code)) is)

  -- what an action leaves, where it starts no thread
  pub record Acts (line : ℕ) (c : Comes PlainTurn) (code : List Remaining) (g : Progress) : Type 0 where
    pub turn : PlainTurn
    pub gives : c ≡ Yields turn
    pub heap : Same turn.heap (plain_heap p g.heap)
    pub frames : turn.frames ≡ frame_of g.locals (plain_code p f code) ∷ rest_of
    pub started : turn.started ≡ map (λ x. plain_frame p (begin p x)) g.started
    pub at_line : turn.line ≡ line

  pub acted_leads : (line : ℕ) (code : List Remaining) (c : Comes PlainTurn) (o : Outcome Progress) → OnGave o (Acts line c code) → OnGave (action_turn p line a code below o) (Leads p c)
  acted_leads line code c o x =
      after_gave o (λ g. Gives (record { heap = g.heap; frames = went a g.locals code ∷ below; started = g.started; line = line })) (Acts line c code) (Leads p c) x (λ g y.
      leads p c y.turn (record { heap = g.heap; frames = went a g.locals code ∷ below; started = g.started; line = line }) y.gives (record {
        heap = y.heap;
        frames = y.frames ∙ ap (λ z. z ∷ rest_of) (frame_is g.locals code);
        started = y.started;
        line = y.at_line;
      }))

  pub value_is : (choices : List Value) (line : ℕ) (e : Expr) (t : TypedExpr p f e) (n : ℕ) →
      OnGave (eval p (spot a.context choices line) h a.locals e n) (λ v. (is_of p t.which v ≡ true) × (plain_eval p line (plain_heap p h) (concrete_locals f.variables.items a.locals) e ≡ Yields v))
  value_is choices line e t n =
      end_both (eval p (spot a.context choices line) h a.locals e n) (λ v. is_of p t.which v ≡ true) (λ v. plain_eval p line (plain_heap p h) (concrete_locals f.variables.items a.locals) e ≡ Yields v)
      (eval_of p typed f (spot a.context choices line) h a.locals env e t.which t.has n)
      (eval_plain p typed f (spot a.context choices line) line h a.locals env (reads_alive p a.context choices line h good) e t.which t.has t.plain n)

  -- what it refers to is NULL or a struct
  pub value_struct : (e : Expr) (t : TypedExpr p f e) (v : Value) → is_of p t.which v ≡ true → NullOrStruct p (referent v)
  value_struct e t v i = kind_struct p t.which v (value_kind p apart a.context.function f is e t.which t.has t.plain) i

  -- a declaration

  declared_item : (o : Option FunctionInfo) (choices : List Value) (line i : ℕ) (c : Code) → one_fits o i choices ≡ true →
      plain_declare p choices (frame_of a.locals c) rest_of (plain_heap p h) line i o choices c ≡
      Yields (record { heap = plain_heap p h; frames = record { function = a.context.function; locals = slice_set (concrete_locals f.variables.items a.locals) i (local choices 0); code = c } ∷ rest_of; started = []; line = line })
  declared_item None choices line i c k = absurd (not_both false k refl)
  declared_item (Some g) [] line i c k = absurd (not_both false k refl)
  declared_item (Some g) (v ∷ vs) line i c k =
      ap (λ b. fits_then b (Yields (record { heap = plain_heap p h; frames = record { function = a.context.function; locals = slice_set (concrete_locals f.variables.items a.locals) i v; code = c } ∷ rest_of; started = []; line = line }))) k

  pub declare_goes : (supply : Supply) (choices : List Value) (line i : ℕ) (code : List Remaining) → is_ghost_variable p f i ≡ false →
      OnGave (turn_of p supply choices a (Run (Do line (Declare i)) ∷ code) below h) (Leads p (item_of choices (DeclareItem line i (plain_code p f code))))
  unfolding act
  declare_goes supply choices line i code e =
      let c = plain_code p f code in
      let g : Progress = record (starting h a.locals supply) { locals = slice_set a.locals i (local choices 0) } in
      acted_leads line code (item_of choices (DeclareItem line i c)) (act p a.context choices supply line (Declare i) 0 h a.locals)
      (fitting_gave (one_fits (slice_get p.functions.items a.context.function) i choices) (Gives g) (Acts line (item_of choices (DeclareItem line i c)) code) (λ k.
      record {
        turn = record { heap = plain_heap p h; frames = frame_of g.locals c ∷ rest_of; started = []; line = line };
        gives = declared_item (slice_get p.functions.items a.context.function) choices line i c k ∙ (λ j. Yields (record { heap = plain_heap p h; frames = record { function = a.context.function; locals = concrete_set f.variables.items a.locals i (local choices 0) e j; code = c } ∷ rest_of; started = []; line = line }));
        heap = λ o. refl;
        frames = refl;
        started = refl;
        at_line = refl;
      }))

  -- a free

  freed_item : (line : ℕ) (choices : List Value) (e : Expr) (c : Code) (v : Value) → plain_eval p line (plain_heap p h) (concrete_locals f.variables.items a.locals) e ≡ Yields v → no_choices choices ≡ true →
      alive (plain_heap p h) (referent v) ≡ true →
      item_of choices (FreeItem line e c) ≡ Yields (record { heap = put (plain_heap p h) (referent v) (record ((plain_heap p h).get (referent v)) { mode = Freed }); frames = frame_of a.locals c ∷ rest_of; started = []; line = line })
  freed_item line choices e c v x k z =
      let fr = frame_of a.locals (FreeItem line e c) in
      let freed : PlainTurn = record { heap = put (plain_heap p h) (referent v) (record ((plain_heap p h).get (referent v)) { mode = Freed }); frames = frame_of a.locals c ∷ rest_of; started = []; line = line } in
      ap (λ b. fits_then b (next (plain_eval p line (plain_heap p h) (concrete_locals f.variables.items a.locals) e) (λ w. plain_free p choices fr rest_of (plain_heap p h) line (referent w) c))) k ∙
      ap (λ (o : Comes Value). next o (λ w. plain_free p choices fr rest_of (plain_heap p h) line (referent w) c)) x ∙
      ap (λ b. plain_check b Free line (Yields freed)) z

  pub free_goes : (supply : Supply) (choices : List Value) (line : ℕ) (e : Expr) (code : List Remaining) → TypedExpr p f e →
      OnGave (turn_of p supply choices a (Run (Do line (FreeObject e)) ∷ code) below h) (Leads p (item_of choices (FreeItem line e (plain_code p f code))))
  unfolding act
  free_goes supply choices line e code t =
      let c = plain_code p f code in
      let at_ = spot a.context choices line in
      let g : Progress = starting h a.locals supply in
      let item = item_of choices (FreeItem line e c) in
      let frees : Value → Outcome Progress = λ v. free p at_ (referent v) (0 + checks e) g in
      acted_leads line code item (act p a.context choices supply line (FreeObject e) 0 h a.locals)
      (fitting_gave (no_choices choices) (after (eval p at_ h a.locals e 0) frees) (Acts line item code) (λ k.
      after_gave (eval p at_ h a.locals e 0) frees (λ v. (is_of p t.which v ≡ true) × (plain_eval p line (plain_heap p h) (concrete_locals f.variables.items a.locals) e ≡ Yields v)) (Acts line item code) (value_is choices line e t 0) (λ v i.
      let after_free : Outcome Progress = Gives (heap_of g (put h (referent v) (record (h.get (referent v)) { mode = Freed; owner = null }))) in
      check_gave at_ (mutable a.context.me h (referent v)) (0 + checks e) Free (check at_ (may_write at_ (referent v)) (0 + checks e + 1) Writes after_free) (Acts line item code) (λ m.
      check_gave at_ (may_write at_ (referent v)) (0 + checks e + 1) Writes after_free (Acts line item code) (λ w.
      let x = mutable_alive a.context.me h (referent v) m in
      let s = alive_struct p h env.heap (referent v) (value_struct e t v i.0) x in
      record {
        turn = record { heap = put (plain_heap p h) (referent v) (record ((plain_heap p h).get (referent v)) { mode = Freed }); frames = frame_of a.locals c ∷ rest_of; started = []; line = line };
        gives = freed_item line choices e c v i.1 k (struct_alive p h env.heap (referent v) s x);
        heap = freed_same p h (referent v) s;
        frames = refl;
        started = refl;
        at_line = refl;
      })))))

  -- a store of an expression's value

  pub left_is : (choices : List Value) (line : ℕ) (t : Target) (n : ℕ) (supply : Supply) → Targeted p f t →
      OnGave (left_side p (spot a.context choices line) t n (starting h a.locals supply)) (λ place. Placed p f place × (plain_place p line (plain_heap p h) (concrete_locals f.variables.items a.locals) t ≡ Yields place))
  left_is choices line (Local i) n supply k = (k, refl)
  left_is choices line (FieldOf e q) n supply k =
      let at_ = spot a.context choices line in
      after_gave (eval p at_ h a.locals e n) (λ v. Gives (InField (referent v) q)) (λ v. (is_of p k.0.which v ≡ true) × (plain_eval p line (plain_heap p h) (concrete_locals f.variables.items a.locals) e ≡ Yields v))
      (λ place. Placed p f place × (plain_place p line (plain_heap p h) (concrete_locals f.variables.items a.locals) (FieldOf e q) ≡ Yields place))
      (value_is choices line e k.0 n) (λ v i.
      ((k.1, value_struct e k.0 v i.0), ap (λ (o : Comes Value). next o (λ w. Yields (InField (referent w) q))) i.1))

  pub record Stores (line : ℕ) (place : Place) (v : Value) (g g' : Progress) : Type 0 where
    pub after_store : PlainProgress
    pub gives : plain_store p line place v (plain_heap p g.heap) (concrete_locals f.variables.items g.locals) ≡ Yields after_store
    pub heap : Same after_store.heap (plain_heap p g'.heap)
    pub locals : after_store.locals ≡ concrete_locals f.variables.items g'.locals
    pub started : g'.started ≡ g.started

  -- outside blocks
  pub store_is : (choices : List Value) (line : ℕ) (place : Place) (v : Value) (n : ℕ) (g : Progress) → WellFormed p g.heap → Placed p f place →
      OnGave (store p (spot a.context choices line) place v n g) (Stores line place v g)
  store_is choices line (InLocal i) v n g wf k = record {
    after_store = record { heap = plain_heap p g.heap; locals = slice_set (concrete_locals f.variables.items g.locals) i v };
    gives = refl;
    heap = λ o. refl;
    locals = concrete_set f.variables.items g.locals i v k;
    started = refl;
  }
  store_is choices line (InField o q) v n g wf k =
      let at_ = spot a.context choices line in
      let ok = mutable at_.context.me g.heap o || (is_listed at_ o && (is_volatile p q && (not (is_approved p q) || may_count at_ g.heap o))) in
      let stored : Outcome Progress = Gives (heap_of g (write g.heap o q v)) in
      check_gave at_ ok n Write (check at_ (may_write at_ o || is_listed at_ o) (n + 1) Writes stored) (Stores line (InField o q) v g) (λ m.
      check_gave at_ (may_write at_ o || is_listed at_ o) (n + 1) Writes stored (Stores line (InField o q) v g) (λ w.
      let x : is_alive g.heap o ≡ true = ⊎_elim (mutable_alive a.context.me g.heap o) (λ z. absurd (not_both false z refl)) (or_cases (mutable a.context.me g.heap o) false m) in
      let s = alive_struct p g.heap wf o k.1 x in
      record {
        after_store = record { heap = write (plain_heap p g.heap) o q v; locals = concrete_locals f.variables.items g.locals };
        gives = ap (λ b. plain_check b Write line (Yields (record { heap = write (plain_heap p g.heap) o q v; locals = concrete_locals f.variables.items g.locals }))) (struct_alive p g.heap wf o s x);
        heap = concrete_write p g.heap o q v s k.0;
        locals = refl;
        started = refl;
      }))

  computed_item : (line : ℕ) (choices : List Value) (t : Target) (e : Expr) (c : Code) (place : Place) (v : Value) (l : List Value) (after_store : PlainProgress) → no_choices choices ≡ true →
      plain_place p line (plain_heap p h) (concrete_locals f.variables.items a.locals) t ≡ Yields place →
      plain_eval p line (plain_heap p h) (concrete_locals f.variables.items a.locals) e ≡ Yields v →
      plain_store p line place v (plain_heap p h) (concrete_locals f.variables.items a.locals) ≡ Yields after_store →
      item_of choices (StoreItem line t (Worth e) c) ≡ Yields (record { heap = after_store.heap; frames = record { function = a.context.function; locals = after_store.locals; code = c } ∷ rest_of; started = []; line = line })
  computed_item line choices t e c place v l after_store k x y z =
      let fr = frame_of a.locals (StoreItem line t (Worth e) c) in
      let cl = concrete_locals f.variables.items a.locals in
      let ph = plain_heap p h in
      let stores : Place → PlainValued → Comes PlainTurn = λ place v. store_turn p choices fr rest_of ph line c (plain_store p line place v.value v.heap cl) in
      ap (λ b. fits_then b (next (plain_place p line ph cl t) (λ place. next (next (plain_eval p line ph cl e) (λ v. Yields (record { value = v; heap = ph }))) (stores place)))) k ∙
      ap (λ (o : Comes Place). next o (λ place. next (next (plain_eval p line ph cl e) (λ v. Yields (record { value = v; heap = ph }))) (stores place))) x ∙
      ap (λ (o : Comes Value). next (next o (λ v. Yields (record { value = v; heap = ph }))) (stores place)) y ∙
      ap (λ (o : Comes PlainProgress). store_turn p choices fr rest_of ph line c o) z

  -- the way of a store, whose left side is worked out
  stores_value : (supply : Supply) (choices : List Value) (line : ℕ) (t : Target) (e : Expr) (code : List Remaining) (place : Place) (n m : ℕ) → TypedExpr p f e → no_choices choices ≡ true → Placed p f place →
      plain_place p line (plain_heap p h) (concrete_locals f.variables.items a.locals) t ≡ Yields place →
      OnGave (after (right_side p (spot a.context choices line) (Compute e) place n no_tally (starting h a.locals supply)) (λ v. store p (spot a.context choices line) place v.value m v.starting)) (Acts line (item_of choices (StoreItem line t (Worth e) (plain_code p f code))) code)
  stores_value supply choices line t e code place n m te k pl x =
      let at_ = spot a.context choices line in
      let g = starting h a.locals supply in
      let c = plain_code p f code in
      let item = item_of choices (StoreItem line t (Worth e) c) in
      let IsValue : Valued → Type 0 = λ v. (v.starting ≡ g) × (plain_eval p line (plain_heap p h) (concrete_locals f.variables.items a.locals) e ≡ Yields v.value) in
      after_gave (right_side p at_ (Compute e) place n no_tally g) (λ v. store p at_ place v.value m v.starting) IsValue (Acts line item code)
      (after_gave (eval p at_ h a.locals e n) (λ v. Gives (record { value = v; starting = g })) (λ v. (is_of p te.which v ≡ true) × (plain_eval p line (plain_heap p h) (concrete_locals f.variables.items a.locals) e ≡ Yields v)) IsValue (value_is choices line e te n) (λ v i. (refl, i.1)))
      (λ v y.
      subst (λ s. OnGave (store p at_ place v.value m s) (Acts line item code)) (sym y.0)
      (stored_way v.value y.1))
    where
      stored_way : (v : Value) → plain_eval p line (plain_heap p h) (concrete_locals f.variables.items a.locals) e ≡ Yields v →
          OnGave (store p (spot a.context choices line) place v m (starting h a.locals supply)) (Acts line (item_of choices (StoreItem line t (Worth e) (plain_code p f code))) code)
      stored_way v y =
          end_map (store p (spot a.context choices line) place v m (starting h a.locals supply)).end (Stores line place v (starting h a.locals supply)) (Acts line (item_of choices (StoreItem line t (Worth e) (plain_code p f code))) code) (λ g' z.
          record {
            turn = record { heap = z.after_store.heap; frames = record { function = a.context.function; locals = z.after_store.locals; code = plain_code p f code } ∷ rest_of; started = []; line = line };
            gives = computed_item line choices t e (plain_code p f code) place v a.locals z.after_store k x y z.gives;
            heap = z.heap;
            frames = ap (λ l. record { function = a.context.function; locals = l; code = plain_code p f code } ∷ rest_of) z.locals;
            started = sym (ap (map (λ x. plain_frame p (begin p x))) z.started);
            at_line = refl;
          }) (store_is choices line place v m (starting h a.locals supply) env.heap pl)

  pub assign_goes : (supply : Supply) (choices : List Value) (line : ℕ) (t : Target) (e : Expr) (code : List Remaining) → Targeted p f t → TypedExpr p f e →
      OnGave (turn_of p supply choices a (Run (Do line (Simply (Assign t (Compute e)))) ∷ code) below h) (Leads p (item_of choices (StoreItem line t (Worth e) (plain_code p f code))))
  unfolding act
  assign_goes supply choices line t e code tt' te =
      let at_ = spot a.context choices line in
      let g = starting h a.locals supply in
      let item = item_of choices (StoreItem line t (Worth e) (plain_code p f code)) in
      let rest : Place → Outcome Progress = λ place. after (right_side p at_ (Compute e) place (0 + target_checks t) no_tally g) (λ v. store p at_ place v.value (0 + target_checks t + right_checks p false (Compute e)) v.starting) in
      acted_leads line code item (act p a.context choices supply line (Simply (Assign t (Compute e))) 0 h a.locals)
      (fitting_gave (no_choices choices) (after (left_side p at_ t 0 g) rest) (Acts line item code) (λ k.
      after_gave (left_side p at_ t 0 g) rest (λ place. Placed p f place × (plain_place p line (plain_heap p h) (concrete_locals f.variables.items a.locals) t ≡ Yields place)) (Acts line item code) (left_is choices line t 0 supply tt') (λ place x.
      stores_value supply choices line t e code place (0 + target_checks t) (0 + target_checks t + right_checks p false (Compute e)) te k x.0 x.1)))

  pub define_goes : (supply : Supply) (choices : List Value) (line i : ℕ) (e : Expr) (code : List Remaining) → is_ghost_variable p f i ≡ false → TypedExpr p f e →
      OnGave (turn_of p supply choices a (Run (Do line (Define i (Compute e))) ∷ code) below h) (Leads p (item_of choices (StoreItem line (Local i) (Worth e) (plain_code p f code))))
  unfolding act
  define_goes supply choices line i e code c te =
      let item = item_of choices (StoreItem line (Local i) (Worth e) (plain_code p f code)) in
      acted_leads line code item (act p a.context choices supply line (Define i (Compute e)) 0 h a.locals)
      (fitting_gave (no_choices choices) (after (right_side p (spot a.context choices line) (Compute e) (InLocal i) 0 no_tally (starting h a.locals supply)) (λ v. store p (spot a.context choices line) (InLocal i) v.value (0 + right_checks p false (Compute e)) v.starting)) (Acts line item code) (λ k.
      stores_value supply choices line (Local i) e code (InLocal i) 0 (0 + right_checks p false (Compute e)) te k c refl))
