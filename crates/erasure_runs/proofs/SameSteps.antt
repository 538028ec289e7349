-- Of a heap a plain step sees the records alone, where the heap's list of references names all that stands in it.
use Rattle.std.proofs.Common.{◌≡◌, ℕ, Bool, true, false, not, ◌&&◌, ◌||◌, List, [], ◌∷◌, ◌++◌, map, slice_get, slice_set, Option, Some, None, refl, sym, ap, ◌∙◌, subst}
use Rattle.std.specs.Prelude.{pos, if◌then◌else◌}
use Rattle.object_types.specs.declared.references.Ref.{Ref}
use Rattle.object_types.specs.declared.records.Mode.TheVariants.{Freed}
use Rattle.object_types.specs.declared.values.Value.{Value}
use Rattle.object_types.specs.declared.values.Value.TheVariants.{Int, Ref as Refers}
use Rattle.int_ranges.specs.declared.ctype.CType.{CType}
use Rattle.method.specs.declared.program.CheckKind.{CheckKind}
use Rattle.method.specs.declared.program.CheckKind.TheVariants.{Range, Read, Write, Free}
use Rattle.method.specs.declared.program.Operation.{Operation}
use Rattle.method.specs.declared.program.InterlockedResult.{InterlockedResult}
use Rattle.method.specs.declared.program.InterlockedResult.TheVariants.{Plainly, Compared}
use Rattle.method.specs.declared.program.Expr.{Expr}
use Rattle.method.specs.declared.program.Receiver.{Receiver}
use Rattle.method.specs.declared.program.Receiver.TheVariants.{Nobody, NewVariable, Place as Left}
use Rattle.method.specs.declared.program.VariableInfo.{VariableInfo}
use Rattle.method.specs.declared.program.FunctionInfo.{FunctionInfo}
use Rattle.method.specs.declared.program.Program.{Program}
use Rattle.object_types.specs.References.{null, same_ref}
use Rattle.object_types.specs.Values.{referent, truth, says, same_value}
use Rattle.object_types.specs.Heap.{Heap, Record, IsFinite, Same, nothing, put, write, with_field, fresh}
use Rattle.object_types.specs.Content.{IsFresh}
use Rattle.object_types.proofs.Fresh.{fresh_is, fresh_determined}
use Rattle.method.specs.Tables.{in_type, is_struct, read, struct_of, type_of_field, type_of_variable}
use Rattle.method.specs.Actions.{Place, InLocal, InField, operands, counts, replaced, given, no_choices, first_field, new_object}
use Rattle.method.specs.Machine.{State, Event, end_line}
use Rattle.machine_laws.proofs.Heaps.{put_finite}
use Rattle.plain_machine.specs.PlainCode.{Code, CodeEnd, StoreItem, DeclareItem, FreeItem, SpawnItem, BranchItem, LoopItem, DoItem, TestItem, CallItem, ReturnItem, ReceiveItem, PlainRight, Worth, NewObject, Exchange, join_code, is_ghost_field}
use Rattle.plain_machine.specs.PlainSteps.{PlainFrame, PlainThread, PlainState, Comes, Waits, Fails, Yields, next, plain_check, fits_then, alive, plain_convert_to, plain_eval, plain_eval_all, plain_args, plain_place, plain_value, PlainProgress, PlainValued, contents_of, plain_fits, plain_store, plain_new, plain_malloc, plain_exchange, plain_afterwards, plain_right, PlainTurn, plain_move, store_turn, plain_declare, plain_spawn, plain_receiver, plain_call, plain_free, plain_resume_code, plain_resume, plain_item, plain_turn, PlainAnswer, NotEnabled, Faulted, Next, plain_frames, with_plain_frames, plain_number, plain_answer, plain_step, after_plain, plain_run}
use Rattle.plain_machine.specs.Erasure.{plain_record, erasure}
use Rattle.plain_machine.specs.SafePlain.{SamePlain}
use Rattle.erasure_law.proofs.PlainSame.{next_same, if_same, alive_same, read_same, eval_same, evals_same, place_same}

-- both don't go, both fail at the same check, or both go on to the same records
abbrev pub SameAnswer : PlainAnswer → PlainAnswer → Type 0
SameAnswer NotEnabled NotEnabled = Unit {0}
SameAnswer NotEnabled (Faulted l m) = ⊥
SameAnswer NotEnabled (Next r m) = ⊥
SameAnswer (Faulted k n) NotEnabled = ⊥
SameAnswer (Faulted k n) (Faulted l m) = (k ≡ l) × (n ≡ m)
SameAnswer (Faulted k n) (Next r m) = ⊥
SameAnswer (Next s n) NotEnabled = ⊥
SameAnswer (Next s n) (Faulted l m) = ⊥
SameAnswer (Next s n) (Next r m) = SamePlain s r × (n ≡ m)

-- Heaps with the same records.

-- two heaps with the same records, in each of which the list of references names all that stands
pub record SameFinite (j k : Heap) : Type 0 where
  pub same : Same j k
  pub first : IsFinite j
  pub second : IsFinite k

same_self : (h : Heap) → IsFinite h → SameFinite h h
same_self h f = record { same = λ o. refl; first = f; second = f }

same_put : (j k : Heap) → Same j k → (o : Ref) (r s : Record) → r ≡ s → Same (put j o r) (put k o s)
unfolding put
same_put j k x o r s e q = by (same_ref q o)
  where
    by : (b : Bool) → (if b then s else k.get q) ≡ (if b then r else j.get q)
    by true = sym e
    by false = x q

both_put : (j k : Heap) → SameFinite j k → (o : Ref) (r s : Record) → r ≡ s → SameFinite (put j o r) (put k o s)
both_put j k x o r s e = record { same = same_put j k x.same o r s e; first = put_finite j o r x.first; second = put_finite k o s x.second }

same_fresh : (j k : Heap) → SameFinite j k → (ty : ℕ) → fresh j ty ≡ fresh k ty
same_fresh j k x ty =
    let gets : j.get ≡ k.get = λ i o. sym (x.same o) i in
    fresh_determined k ty (fresh j ty).serial x.second (subst (λ (get : Ref → Record). IsFresh get ty (fresh j ty).serial) gets (fresh_is j ty x.first))

-- What comes of the one comes of the other.

-- both wait, both fail at the same check, or both give what is related
abbrev pub SameComes : {A : Type 0} → (A → A → Type 0) → Comes A → Comes A → Type 0
SameComes R Waits Waits = Unit {0}
SameComes R Waits (Fails other place) = ⊥
SameComes R Waits (Yields b) = ⊥
SameComes R (Fails kind line) Waits = ⊥
SameComes R (Fails kind line) (Fails other place) = (kind ≡ other) × (line ≡ place)
SameComes R (Fails kind line) (Yields b) = ⊥
SameComes R (Yields a) Waits = ⊥
SameComes R (Yields a) (Fails other place) = ⊥
SameComes R (Yields a) (Yields b) = R a b

next_comes : {A B : Type 0} (R : A → A → Type 0) (S : B → B → Type 0) (c d : Comes A) (f g : A → Comes B) → SameComes R c d → ((a b : A) → R a b → SameComes S (f a) (g b)) → SameComes S (next c f) (next d g)
next_comes R S Waits Waits f g x y = tt
next_comes R S Waits (Fails other place) f g x y = absurd x
next_comes R S Waits (Yields b) f g x y = absurd x
next_comes R S (Fails kind line) Waits f g x y = absurd x
next_comes R S (Fails kind line) (Fails other place) f g x y = x
next_comes R S (Fails kind line) (Yields b) f g x y = absurd x
next_comes R S (Yields a) Waits f g x y = absurd x
next_comes R S (Yields a) (Fails other place) f g x y = absurd x
next_comes R S (Yields a) (Yields b) f g x y = y a b x

next_equal : {A B : Type 0} (S : B → B → Type 0) (c d : Comes A) (f g : A → Comes B) → c ≡ d → ((a : A) → SameComes S (f a) (g a)) → SameComes S (next c f) (next d g)
next_equal S c d f g e y = subst (λ z. SameComes S (next c f) (next z g)) e (by c)
  where
    by : (z : _) → SameComes S (next z f) (next z g)
    by Waits = tt
    by (Fails kind line) = (refl, refl)
    by (Yields a) = y a

check_comes : {A : Type 0} (R : A → A → Type 0) (b : Bool) (kind : CheckKind) (line : ℕ) (c d : Comes A) → SameComes R c d → SameComes R (plain_check b kind line c) (plain_check b kind line d)
check_comes R true kind line c d x = x
check_comes R false kind line c d x = (refl, refl)

check_equal : {A : Type 0} (R : A → A → Type 0) (b b' : Bool) (kind : CheckKind) (line : ℕ) (c d : Comes A) → b ≡ b' → SameComes R c d → SameComes R (plain_check b kind line c) (plain_check b' kind line d)
check_equal R b b' kind line c d e x = subst (λ z. SameComes R (plain_check b kind line c) (plain_check z kind line d)) e (check_comes R b kind line c d x)

fits_comes : {A : Type 0} (R : A → A → Type 0) (b : Bool) (c d : Comes A) → SameComes R c d → SameComes R (fits_then b c) (fits_then b d)
fits_comes R true c d x = x
fits_comes R false c d x = tt

if_comes : {A : Type 0} (R : A → A → Type 0) (b : Bool) (c d e f : Comes A) → SameComes R c d → SameComes R e f → SameComes R (if b then c else e) (if b then d else f)
if_comes R true c d e f x y = x
if_comes R false c d e f x y = y

-- The same values, variables, frames and lines, over the same records.

pub record SameValued (v w : PlainValued) : Type 0 where
  pub value : v.value ≡ w.value
  pub heaps : SameFinite v.heap w.heap

pub record SameProgress (g h : PlainProgress) : Type 0 where
  pub locals : g.locals ≡ h.locals
  pub heaps : SameFinite g.heap h.heap

pub record SameTurn (t u : PlainTurn) : Type 0 where
  pub heaps : SameFinite t.heap u.heap
  pub frames : t.frames ≡ u.frames
  pub started : t.started ≡ u.started
  pub line : t.line ≡ u.line

-- Stores.

module _ (p : Program) (line : ℕ) (l : List Value) where
  stored_same : (place : Place) (u v : Value) (j k : Heap) → u ≡ v → SameFinite j k → SameComes SameProgress (plain_store p line place u j l) (plain_store p line place v k l)
  stored_same (InLocal i) u v j k e s = record { locals = ap (slice_set l i) e; heaps = s }
  stored_same (InField o q) u v j k e s =
      check_equal SameProgress (alive j o) (alive k o) Write line (Yields (record { heap = write j o q u; locals = l })) (Yields (record { heap = write k o q v; locals = l })) (alive_same p line j k s.same o)
      (record { locals = refl; heaps = both_put j k s o (with_field q u (j.get o)) (with_field q v (k.get o)) (λ i. with_field q (e i) (sym (s.same o) i)) })

  new_same : (ty : ℕ) (o : Option (List Value)) (j k : Heap) → SameFinite j k → SameComes SameValued (plain_new p line ty o j) (plain_new p line ty o k)
  new_same ty None j k s = tt
  new_same ty (Some vs) j k s =
      let new : Record = new_object null (first_field (struct_of p ty)) vs in
      subst (λ (o : Ref). SameValued (record { value = Refers (fresh j ty); heap = put j (fresh j ty) new }) (record { value = Refers o; heap = put k o new })) (same_fresh j k s ty)
      (record { value = refl; heaps = both_put j k s (fresh j ty) new new refl })

  malloc_same : (ty : ℕ) (choices : List Value) (j k : Heap) → SameFinite j k → SameComes SameValued (plain_malloc p line ty choices j) (plain_malloc p line ty choices k)
  malloc_same ty [] j k s = tt
  malloc_same ty (v ∷ vs) j k s =
      let o = contents_of p (struct_of p ty) vs in
      if_comes SameValued (truth v) (plain_new p line ty o j) (plain_new p line ty o k) (Yields (record { value = Refers null; heap = j })) (Yields (record { value = Refers null; heap = k })) (new_same ty o j k s) (record { value = refl; heaps = s })

  exchange_same : (j k : Heap) → SameFinite j k → (op : Operation) (o : Ref) (q : ℕ) (vs : List Value) → SameComes SameValued (plain_exchange p line op o q vs j) (plain_exchange p line op o q vs k)
  exchange_same j k s op o q vs =
      let was = read p k o q in
      let now = replaced op vs was in
      let a = alive k o in
      let on : Value → Bool → Comes PlainValued = λ w b. plain_check b Read line (plain_check (not (counts op) || in_type (type_of_field p q) (replaced op vs w)) Range line (plain_check b Write line (Yields (record { value = given op w (replaced op vs w); heap = write j o q (replaced op vs w) })))) in
      let old : Comes PlainValued = Yields (record { value = given op was now; heap = write j o q now }) in
      let new : Comes PlainValued = Yields (record { value = given op was now; heap = write k o q now }) in
      subst (λ c. SameComes SameValued c (plain_exchange p line op o q vs k)) (sym (λ i. on (read_same p line j k s.same o q i) (alive_same p line j k s.same o i)))
      (check_comes SameValued a Read line _ _ (check_comes SameValued (not (counts op) || in_type (type_of_field p q) now) Range line _ _ (check_comes SameValued a Write line old new
      (record { value = refl; heaps = both_put j k s o (with_field q now (j.get o)) (with_field q now (k.get o)) (ap (with_field q now) (sym (s.same o))) }))))

  afterwards_same : (then' : InterlockedResult) (v w : PlainValued) → SameValued v w → SameComes SameValued (plain_afterwards p line then' l v) (plain_afterwards p line then' l w)
  afterwards_same (Plainly c) v w s =
      next_equal SameValued (plain_convert_to line c v.value) (plain_convert_to line c w.value) (λ u. Yields (record v { value = u })) (λ u. Yields (record w { value = u })) (ap (plain_convert_to line c) s.value) (λ u. record { value = refl; heaps = s.heaps })
  afterwards_same (Compared c equal e d) v w s =
      next_equal SameValued (plain_convert_to line c v.value) (plain_convert_to line c w.value) _ _ (ap (plain_convert_to line c) s.value) (λ a.
      next_equal SameValued (plain_eval p line v.heap l e) (plain_eval p line w.heap l e) _ _ (eval_same p line v.heap w.heap s.heaps.same l e) (λ b.
      let r = plain_convert_to line d (says (if equal then same_value a b else not (same_value a b))) in
      next_equal SameValued r r (λ u. Yields (record v { value = u })) (λ u. Yields (record w { value = u })) refl (λ u. record { value = refl; heaps = s.heaps })))

  right_same : (r : PlainRight) (choices : List Value) (j k : Heap) → SameFinite j k → SameComes SameValued (plain_right p line r choices j l) (plain_right p line r choices k l)
  right_same (Worth e) choices j k s =
      next_equal SameValued (plain_eval p line j l e) (plain_eval p line k l e) (λ v. Yields (record { value = v; heap = j })) (λ v. Yields (record { value = v; heap = k })) (eval_same p line j k s.same l e) (λ v. record { value = refl; heaps = s })
  right_same (NewObject ty) choices j k s = malloc_same ty choices j k s
  right_same (Exchange e q op then') choices j k s =
      next_equal SameValued (plain_eval p line j l e) (plain_eval p line k l e) _ _ (eval_same p line j k s.same l e) (λ o.
      next_equal SameValued (plain_eval_all p line j l (operands op)) (plain_eval_all p line k l (operands op)) _ _ (evals_same p line j k s.same l (operands op)) (λ vs.
      next_comes SameValued SameValued (plain_exchange p line op (referent o) q vs j) (plain_exchange p line op (referent o) q vs k) (plain_afterwards p line then' l) (plain_afterwards p line then' l) (exchange_same j k s op (referent o) q vs) (afterwards_same then')))

-- Arguments and values.

module _ (p : Program) (line : ℕ) (j k : Heap) (same : Same j k) (l : List Value) where
  args_same : (is : List VariableInfo) (es : List Expr) → plain_args p line j l is es ≡ plain_args p line k l is es
  args_same is [] = refl
  args_same [] (e ∷ es) = next_same (plain_eval p line j l e) (plain_eval p line k l e) _ _ (eval_same p line j k same l e) (λ v. next_same (plain_args p line j l [] es) (plain_args p line k l [] es) _ _ (args_same [] es) (λ vs. refl))
  args_same (i ∷ is) (e ∷ es) =
      next_same (if i.is_ghost then Yields (Int (pos 0)) else plain_eval p line j l e) (if i.is_ghost then Yields (Int (pos 0)) else plain_eval p line k l e) _ _ (if_same i.is_ghost (Yields (Int (pos 0))) (plain_eval p line j l e) (Yields (Int (pos 0))) (plain_eval p line k l e) refl (eval_same p line j k same l e)) (λ v.
      next_same (plain_args p line j l is es) (plain_args p line k l is es) _ _ (args_same is es) (λ vs. refl))

  value_same : (e : Option Expr) → plain_value p line j l e ≡ plain_value p line k l e
  value_same None = refl
  value_same (Some e) = eval_same p line j k same l e

-- Turns.

module _ (p : Program) (choices : List Value) (a : PlainFrame) (below : List PlainFrame) (j k : Heap) (s : SameFinite j k) where
  move_same : (line : ℕ) (c : Code) → SameComes SameTurn (plain_move p choices a below j line c) (plain_move p choices a below k line c)
  move_same line c = record { heaps = s; frames = refl; started = refl; line = refl }

  store_same : (line : ℕ) (c : Code) (x y : Comes PlainProgress) → SameComes SameProgress x y → SameComes SameTurn (store_turn p choices a below j line c x) (store_turn p choices a below k line c y)
  store_same line c x y r = next_comes SameProgress SameTurn x y _ _ r (λ g h z. record { heaps = z.heaps; frames = ap (λ (l : List Value). record a { locals = l; code = c } ∷ below) z.locals; started = refl; line = refl })

  declare_same : (line i : ℕ) (f : Option FunctionInfo) (vs : List Value) (c : Code) → SameComes SameTurn (plain_declare p choices a below j line i f vs c) (plain_declare p choices a below k line i f vs c)
  declare_same line i None vs c = tt
  declare_same line i (Some f) [] c = tt
  declare_same line i (Some f) (v ∷ vs) c =
      fits_comes SameTurn (in_type (type_of_variable f i) v && no_choices vs) _ _ (store_same line c (Yields (record { heap = j; locals = slice_set a.locals i v })) (Yields (record { heap = k; locals = slice_set a.locals i v })) (record { locals = refl; heaps = s }))

  spawn_same : (line n : ℕ) (f : Option FunctionInfo) (es : List Expr) (c : Code) → SameComes SameTurn (plain_spawn p choices a below j line n f es c) (plain_spawn p choices a below k line n f es c)
  spawn_same line n None es c = tt
  spawn_same line n (Some f) es c =
      next_equal SameTurn (plain_args p line j a.locals f.variables.items es) (plain_args p line k a.locals f.variables.items es) _ _ (args_same p line j k s.same a.locals f.variables.items es) (λ args. record { heaps = s; frames = refl; started = refl; line = refl })

  receiver_same : (line : ℕ) (to : Receiver) → plain_receiver p choices a below j line to ≡ plain_receiver p choices a below k line to
  receiver_same line Nobody = refl
  receiver_same line (NewVariable i) = refl
  receiver_same line (Left t) = next_same (plain_place p line j a.locals t) (plain_place p line k a.locals t) _ _ (place_same p line j k s.same a.locals t) (λ place. refl)

  call_same : (line : ℕ) (to : Receiver) (v : Option CType) (n : ℕ) (f : Option FunctionInfo) (es : List Expr) (c : Code) → SameComes SameTurn (plain_call p choices a below j line to v n f es c) (plain_call p choices a below k line to v n f es c)
  call_same line to v n None es c = tt
  call_same line to v n (Some f) es c =
      next_equal SameTurn (plain_receiver p choices a below j line to) (plain_receiver p choices a below k line to) _ _ (receiver_same line to) (λ place.
      next_equal SameTurn (plain_args p line j a.locals f.variables.items es) (plain_args p line k a.locals f.variables.items es) _ _ (args_same p line j k s.same a.locals f.variables.items es) (λ args.
      record { heaps = s; frames = refl; started = refl; line = refl }))

  free_same : (line : ℕ) (o : Ref) (c : Code) → SameComes SameTurn (plain_free p choices a below j line o c) (plain_free p choices a below k line o c)
  free_same line o c =
      let gone : Record → Record = λ r. record r { mode = Freed } in
      check_equal SameTurn (alive j o) (alive k o) Free line _ _ (alive_same p line j k s.same o)
      (record { heaps = both_put j k s o (gone (j.get o)) (gone (k.get o)) (ap gone (sym (s.same o))); frames = refl; started = refl; line = refl })

  -- a test, and one of two pieces of code
  branch_same : (line : ℕ) (e : Expr) (x y : Code) → SameComes SameTurn (fits_then (no_choices choices) (next (plain_eval p line j a.locals e) (λ v. plain_move p choices a below j line (if truth v then x else y)))) (fits_then (no_choices choices) (next (plain_eval p line k a.locals e) (λ v. plain_move p choices a below k line (if truth v then x else y))))
  branch_same line e x y = fits_comes SameTurn (no_choices choices) _ _ (next_equal SameTurn (plain_eval p line j a.locals e) (plain_eval p line k a.locals e) _ _ (eval_same p line j k s.same a.locals e) (λ v. move_same line (if truth v then x else y)))

module _ (p : Program) (line : ℕ) (v : Value) where
  resume_code_same : (a : PlainFrame) (c : Code) (below : List PlainFrame) (j k : Heap) → SameFinite j k → SameComes SameTurn (plain_resume_code p line v a c below j) (plain_resume_code p line v a c below k)
  resume_code_same a CodeEnd below j k s = move_same p [] a below j k s line CodeEnd
  resume_code_same a (StoreItem m t r c) below j k s = move_same p [] a below j k s line (StoreItem m t r c)
  resume_code_same a (DeclareItem m i c) below j k s = move_same p [] a below j k s line (DeclareItem m i c)
  resume_code_same a (FreeItem m e c) below j k s = move_same p [] a below j k s line (FreeItem m e c)
  resume_code_same a (SpawnItem m n es c) below j k s = move_same p [] a below j k s line (SpawnItem m n es c)
  resume_code_same a (BranchItem m e x y c) below j k s = move_same p [] a below j k s line (BranchItem m e x y c)
  resume_code_same a (LoopItem m e x c) below j k s = move_same p [] a below j k s line (LoopItem m e x c)
  resume_code_same a (DoItem m x t e c) below j k s = move_same p [] a below j k s line (DoItem m x t e c)
  resume_code_same a (TestItem m e x c) below j k s = move_same p [] a below j k s line (TestItem m e x c)
  resume_code_same a (CallItem m to w n es c) below j k s = move_same p [] a below j k s line (CallItem m to w n es c)
  resume_code_same a (ReturnItem m e c) below j k s = move_same p [] a below j k s line (ReturnItem m e c)
  resume_code_same a (ReceiveItem called place w c) below j k s =
      next_equal SameTurn (plain_convert_to called w v) (plain_convert_to called w v) _ _ refl (λ x.
      store_same p [] a below j k s line c (plain_store p called place x j a.locals) (plain_store p called place x k a.locals) (stored_same p called a.locals place x x j k refl s))

  resume_same : (below : List PlainFrame) (j k : Heap) → SameFinite j k → SameComes SameTurn (plain_resume p line v below j) (plain_resume p line v below k)
  resume_same [] j k s = record { heaps = s; frames = refl; started = refl; line = refl }
  resume_same (a ∷ below) j k s = resume_code_same a a.code below j k s

module _ (p : Program) (choices : List Value) (a : PlainFrame) (below : List PlainFrame) (j k : Heap) (s : SameFinite j k) where
  item_same : (c : Code) → SameComes SameTurn (plain_item p choices a c below j) (plain_item p choices a c below k)
  item_same CodeEnd = fits_comes SameTurn (no_choices choices) _ _ (resume_same p (end_line (slice_get p.functions.items a.function)) (Int (pos 0)) below j k s)
  item_same (StoreItem line t r c) =
      fits_comes SameTurn (plain_fits p r choices) _ _ (
      next_equal SameTurn (plain_place p line j a.locals t) (plain_place p line k a.locals t) _ _ (place_same p line j k s.same a.locals t) (λ place.
      next_comes SameValued SameTurn (plain_right p line r choices j a.locals) (plain_right p line r choices k a.locals) _ _ (right_same p line a.locals r choices j k s) (λ v w x.
      store_same p choices a below j k s line c (plain_store p line place v.value v.heap a.locals) (plain_store p line place w.value w.heap a.locals) (stored_same p line a.locals place v.value w.value v.heap w.heap x.value x.heaps))))
  item_same (DeclareItem line i c) = declare_same p choices a below j k s line i (slice_get p.functions.items a.function) choices c
  item_same (FreeItem line e c) =
      fits_comes SameTurn (no_choices choices) _ _ (next_equal SameTurn (plain_eval p line j a.locals e) (plain_eval p line k a.locals e) _ _ (eval_same p line j k s.same a.locals e) (λ v. free_same p choices a below j k s line (referent v) c))
  item_same (SpawnItem line n es c) = fits_comes SameTurn (no_choices choices) _ _ (spawn_same p choices a below j k s line n (slice_get p.functions.items n) es c)
  item_same (BranchItem line e x y c) = branch_same p choices a below j k s line e (join_code x c) (join_code y c)
  item_same (LoopItem line e x c) = branch_same p choices a below j k s line e (join_code x (LoopItem line e x c)) c
  item_same (DoItem line x tested e c) = fits_comes SameTurn (no_choices choices) _ _ (move_same p choices a below j k s line (join_code x (TestItem tested e (DoItem line x tested e CodeEnd) c)))
  item_same (TestItem line e loop c) = branch_same p choices a below j k s line e (join_code loop c) c
  item_same (CallItem line to v n es c) = fits_comes SameTurn (no_choices choices) _ _ (call_same p choices a below j k s line to v n (slice_get p.functions.items n) es c)
  item_same (ReturnItem line e c) =
      fits_comes SameTurn (no_choices choices) _ _ (next_equal SameTurn (plain_value p line j a.locals e) (plain_value p line k a.locals e) _ _ (value_same p line j k s.same a.locals e) (λ v. resume_same p line v below j k s))
  item_same (ReceiveItem line place v c) = tt

turn_same : (p : Program) (choices : List Value) (frames : List PlainFrame) (j k : Heap) → SameFinite j k → SameComes SameTurn (plain_turn p choices frames j) (plain_turn p choices frames k)
turn_same p choices [] j k s = tt
turn_same p choices (a ∷ below) j k s = item_same p choices a below j k s a.code

-- Steps.

module _ (ths : List PlainThread) (ns : List ℕ) where
  abbrev with_heap : Heap → PlainState
  with_heap h = record { heap = h; threads = ths; skips = ns }

  module _ (j k : Heap) (t : ℕ) where
    abbrev threads_after : List PlainFrame → List PlainFrame → List PlainThread
    threads_after fs gs = with_plain_frames t fs ths ++ map (λ (a : PlainFrame). record { number = plain_number (with_heap j); frames = a ∷ [] }) gs

    answer_same : (c d : Comes PlainTurn) → SameComes SameTurn c d → SameAnswer (plain_answer (with_heap j) t c) (plain_answer (with_heap k) t d)
    answer_same Waits Waits x = tt
    answer_same Waits (Fails other place) x = absurd x
    answer_same Waits (Yields v) x = absurd x
    answer_same (Fails kind line) Waits x = absurd x
    answer_same (Fails kind line) (Fails other place) x = x
    answer_same (Fails kind line) (Yields v) x = absurd x
    answer_same (Yields u) Waits x = absurd x
    answer_same (Yields u) (Fails other place) x = absurd x
    answer_same (Yields u) (Yields v) x = (record { heap = x.heaps.same; threads = sym (λ i. threads_after (x.frames i) (x.started i)); skips = refl }, x.line)

  heaps_same : (p : Program) (j k : Heap) → SameFinite j k → (e : Event) → SameAnswer (plain_step p (with_heap j) e) (plain_step p (with_heap k) e)
  unfolding plain_step
  heaps_same p j k s e = answer_same j k e.thread (plain_turn p e.choices (plain_frames e.thread ths) j) (plain_turn p e.choices (plain_frames e.thread ths) k) (turn_same p e.choices (plain_frames e.thread ths) j k s)

pub step_same : (p : Program) (s r : PlainState) → IsFinite s.heap → IsFinite r.heap → SamePlain s r → (e : Event) → SameAnswer (plain_step p s e) (plain_step p r e)
step_same p s r f g x e =
    let to : with_heap s.threads s.skips r.heap ≡ r = λ i. record { heap = r.heap; threads = sym x.threads i; skips = sym x.skips i } in
    subst (λ (z : PlainState). SameAnswer (plain_step p s e) (plain_step p z e)) to (heaps_same s.threads s.skips p s.heap r.heap (record { same = x.heap; first = f; second = g }) e)

-- Finite heaps stay finite.

answer_finite : (s : PlainState) (t : ℕ) (c : Comes PlainTurn) → IsFinite s.heap → SameComes SameTurn c c → IsFinite (after_plain s (plain_answer s t c)).heap
answer_finite s t Waits f x = f
answer_finite s t (Fails kind line) f x = f
answer_finite s t (Yields turn) f x = x.heaps.first

pub step_finite : (p : Program) (s : PlainState) → IsFinite s.heap → (e : Event) → IsFinite (after_plain s (plain_step p s e)).heap
unfolding plain_step
step_finite p s f e = answer_finite s e.thread (plain_turn p e.choices (plain_frames e.thread s.threads) s.heap) f (turn_same p e.choices (plain_frames e.thread s.threads) s.heap s.heap (same_self s.heap f))

pub run_finite : (p : Program) (events : List Event) (s : PlainState) → IsFinite s.heap → IsFinite (plain_run p events s).heap
run_finite p [] s f = f
run_finite p (e ∷ es) s f = run_finite p es (after_plain s (plain_step p s e)) (step_finite p s f e)

none_left : (b : Bool) (o : Option Value) → o ≡ None → (if b then None else o) ≡ o
none_left true o e = sym e
none_left false o e = refl

nothing_left : (p : Program) → plain_record p nothing ≡ nothing
nothing_left p = λ i. record nothing { fields = λ f. none_left (is_ghost_field p f) None refl i }

pub erasure_finite : (p : Program) (s : State) → IsFinite s.heap → IsFinite (erasure p s).heap
erasure_finite p s finite o out = by (is_struct p o.ty)
  where
    by : (b : Bool) → (if b then plain_record p (s.heap.get o) else nothing) ≡ nothing
    by true = ap (plain_record p) (finite o out) ∙ nothing_left p
    by false = refl
