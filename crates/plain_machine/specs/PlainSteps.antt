-- The machine of code without annotations. From ISO/IEC 9899 as the reference machine: one item of one thread an event. Own: a read, write or free asks that the object is alive, and nothing of owners.
-- Of the program it looks at the types of concrete fields and variables, at structs' fields, and at code without annotations. Fields and variables keep their numbers: a ghost variable's place holds 0, a ghost field isn't kept.
use Rattle.std.specs.Prelude.{ℕ, zero, suc, ◌+◌, ◌==◌, Bool, true, false, not, ◌&&◌, ◌||◌, if◌then◌else◌, max, ℤ, pos, ◌-ℤ◌, List, [], ◌∷◌, ◌++◌, map, drop, length, Option, Some, None, slice_get, slice_set}
use Rattle.object_types.specs.declared.references.Ref.{Ref}
use Rattle.object_types.specs.declared.records.Mode.TheVariants.{Freed}
use Rattle.object_types.specs.declared.values.Value.{Value}
use Rattle.object_types.specs.declared.values.Value.TheVariants.{Int, Ref as Refers}
use Rattle.int_ranges.specs.declared.ctype.CType.{CType}
use Rattle.int_ranges.specs.Ranges.{in_range}
use Rattle.method.specs.declared.program.CheckKind.{CheckKind}
use Rattle.method.specs.declared.program.CheckKind.TheVariants.{Divide, Range, Read, Write, Free}
use Rattle.method.specs.declared.program.Operator.{Operator}
use Rattle.method.specs.declared.program.Expr.{Expr}
use Rattle.method.specs.declared.program.Expr.TheVariants.{Number, Null, Variable, Field', Not', Negate', Arithmetic', Compare', And', Or', Choose', Convert'}
use Rattle.method.specs.declared.program.Target.{Target}
use Rattle.method.specs.declared.program.Target.TheVariants.{Local, FieldOf}
use Rattle.method.specs.declared.program.InterlockedResult.{InterlockedResult}
use Rattle.method.specs.declared.program.InterlockedResult.TheVariants.{Plainly, Compared}
use Rattle.method.specs.declared.program.Operation.{Operation}
use Rattle.method.specs.declared.program.Receiver.{Receiver}
use Rattle.method.specs.declared.program.Receiver.TheVariants.{Nobody, NewVariable, Place as Left}
use Rattle.method.specs.declared.program.VariableInfo.{VariableInfo}
use Rattle.method.specs.declared.program.StructInfo.{StructInfo}
use Rattle.method.specs.declared.program.FunctionInfo.{FunctionInfo}
use Rattle.method.specs.declared.program.Program.{Program}
use Rattle.object_types.specs.References.{null}
use Rattle.object_types.specs.Values.{int, referent, truth, says, is_zero_int, same_value}
use Rattle.object_types.specs.Heap.{Heap, put, write, fresh, is_open}
use Rattle.method.specs.Tables.{local, read, in_type, zero_of, type_of_field, type_of_variable, struct_of}
use Rattle.method.specs.SpecValue.{compute, compare}
use Rattle.method.specs.Expressions.{divides, checked_result}
use Rattle.method.specs.Actions.{Place, InLocal, InField, operands, counts, replaced, given, no_choices, first_field, new_object}
use Rattle.method.specs.Machine.{Event, end_line}
use Rattle.plain_machine.specs.PlainCode.{Code, CodeEnd, StoreItem, DeclareItem, FreeItem, SpawnItem, BranchItem, LoopItem, DoItem, TestItem, CallItem, ReturnItem, ReceiveItem, PlainRight, Worth, NewObject, Exchange, join_code, is_ghost_field, plain_body}

pub record PlainFrame : Type 0 where
  pub function : ℕ
  pub locals : List Value
  pub code : Code

pub record PlainThread : Type 0 where
  pub number : ℕ
  pub frames : List PlainFrame

-- A heap whose objects are alive, that is open, or freed, or not there, and have concrete fields alone; the numbers that new threads skip, in increasing order.
pub record PlainState : Type 0 where
  pub heap : Heap
  pub threads : List PlainThread
  pub skips : List ℕ

-- not at all, where the choices don't fit; the check that fails, with its line; or what it gives
pub data Comes (A : Type 0) : Type 0 where
  Waits : Comes A
  Fails : CheckKind → (line : ℕ) → Comes A
  Yields : A → Comes A

abbrev pub next : {A B : Type 0} → Comes A → (A → Comes B) → Comes B
next Waits g = Waits
next (Fails kind line) g = Fails kind line
next (Yields a) g = g a

abbrev pub plain_check : {A : Type 0} → Bool → CheckKind → ℕ → Comes A → Comes A
plain_check true kind line o = o
plain_check false kind line o = Fails kind line

abbrev pub fits_then : {A : Type 0} → Bool → Comes A → Comes A
fits_then true o = o
fits_then false o = Waits

abbrev pub alive : Heap → Ref → Bool
alive h o = is_open (h.get o).mode

abbrev pub plain_arithmetic : ℕ → Operator → CType → ℤ → ℤ → Comes Value
plain_arithmetic line op c a b =
    if divides op
    then plain_check (not (is_zero_int b)) Divide line (plain_check (in_range c (checked_result op a b)) Range line (Yields (Int (compute op a b))))
    else plain_check (in_range c (checked_result op a b)) Range line (Yields (Int (compute op a b)))

abbrev pub plain_conversion : ℕ → CType → Value → Comes Value
plain_conversion line c v = plain_check (in_range c (int v)) Range line (Yields v)

abbrev pub plain_convert_to : ℕ → Option CType → Value → Comes Value
plain_convert_to line None v = Yields v
plain_convert_to line (Some c) v = plain_conversion line c v

module _ (p : Program) (line : ℕ) (h : Heap) (l : List Value) where
  abbrev pub plain_eval : Expr → Comes Value
  plain_eval (Number z) = Yields (Int z)
  plain_eval Null = Yields (Refers null)
  plain_eval (Variable i) = Yields (local l i)
  plain_eval (Field' q e f) = next (plain_eval e) (λ v. plain_check (alive h (referent v)) Read line (Yields (read p h (referent v) f)))
  plain_eval (Not' q e) = next (plain_eval e) (λ v. Yields (says (not (truth v))))
  plain_eval (Negate' q e c) = next (plain_eval e) (λ v. plain_check (in_range c (pos 0 -ℤ int v)) Range line (Yields (Int (pos 0 -ℤ int v))))
  plain_eval (Arithmetic' op q a r b c) = next (plain_eval a) (λ v. next (plain_eval b) (λ w. plain_arithmetic line op c (int v) (int w)))
  plain_eval (Compare' k q a r b) = next (plain_eval a) (λ v. next (plain_eval b) (λ w. Yields (says (compare k v w))))
  plain_eval (And' q a r b) = next (plain_eval a) (λ v. if truth v then next (plain_eval b) (λ w. Yields (says (truth w))) else Yields (says false))
  plain_eval (Or' q a r b) = next (plain_eval a) (λ v. if truth v then Yields (says true) else next (plain_eval b) (λ w. Yields (says (truth w))))
  plain_eval (Choose' q a r b t c) = next (plain_eval a) (λ v. if truth v then plain_eval b else plain_eval c)
  plain_eval (Convert' q e c) = next (plain_eval e) (λ v. plain_conversion line c v)

  abbrev pub plain_eval_all : List Expr → Comes (List Value)
  plain_eval_all [] = Yields []
  plain_eval_all (e ∷ es) = next (plain_eval e) (λ v. next (plain_eval_all es) (λ vs. Yields (v ∷ vs)))

  -- arguments: 0 for a ghost parameter
  abbrev pub plain_args : List VariableInfo → List Expr → Comes (List Value)
  plain_args is [] = Yields []
  plain_args [] (e ∷ es) = next (plain_eval e) (λ v. next (plain_args [] es) (λ vs. Yields (v ∷ vs)))
  plain_args (i ∷ is) (e ∷ es) = next (if i.is_ghost then Yields (Int (pos 0)) else plain_eval e) (λ v. next (plain_args is es) (λ vs. Yields (v ∷ vs)))

  abbrev pub plain_place : Target → Comes Place
  plain_place (Local i) = Yields (InLocal i)
  plain_place (FieldOf e f) = next (plain_eval e) (λ v. Yields (InField (referent v) f))

  abbrev pub plain_value : Option Expr → Comes Value
  plain_value None = Yields (Int (pos 0))
  plain_value (Some e) = plain_eval e

-- heap and locals on the way of an item
pub record PlainProgress : Type 0 where
  pub heap : Heap
  pub locals : List Value

pub record PlainValued : Type 0 where
  pub value : Value
  pub heap : Heap

-- A malloc's choices: a value for each concrete field. A ghost one gets 0.
abbrev pub prepend : Value → Option (List Value) → Option (List Value)
prepend v None = None
prepend v (Some vs) = Some (v ∷ vs)

abbrev pub concrete_contents : Program → ℕ → ℕ → List Value → Option (List Value)
concrete_contents p first zero [] = Some []
concrete_contents p first zero (v ∷ vs) = None
concrete_contents p first (suc n) [] = if is_ghost_field p first then prepend (Int (pos 0)) (concrete_contents p (first + 1) n []) else None
concrete_contents p first (suc n) (v ∷ vs) =
    if is_ghost_field p first
    then prepend (Int (pos 0)) (concrete_contents p (first + 1) n (v ∷ vs))
    else if in_type (type_of_field p first) v then prepend v (concrete_contents p (first + 1) n vs) else None

abbrev pub contents_of : Program → Option StructInfo → List Value → Option (List Value)
contents_of p None vs = None
contents_of p (Some s) vs = concrete_contents p s.first_field s.fields vs

abbrev pub has_contents : Option (List Value) → Bool
has_contents None = false
has_contents (Some vs) = true

abbrev pub plain_malloc_fits : Program → ℕ → List Value → Bool
plain_malloc_fits p ty [] = false
plain_malloc_fits p ty (v ∷ vs) = (same_value v (Int (pos 0)) && no_choices vs) || (same_value v (Int (pos 1)) && has_contents (contents_of p (struct_of p ty) vs))

-- the choices that a store's event must carry
abbrev pub plain_fits : Program → PlainRight → List Value → Bool
plain_fits p (Worth e) vs = no_choices vs
plain_fits p (NewObject ty) vs = plain_malloc_fits p ty vs
plain_fits p (Exchange e f op then') vs = no_choices vs

module _ (p : Program) (line : ℕ) where
  abbrev pub plain_store : Place → Value → Heap → List Value → Comes PlainProgress
  plain_store (InLocal i) v h l = Yields (record { heap = h; locals = slice_set l i v })
  plain_store (InField o f) v h l = plain_check (alive h o) Write line (Yields (record { heap = write h o f v; locals = l }))

  abbrev pub plain_new : ℕ → Option (List Value) → Heap → Comes PlainValued
  plain_new ty None h = Waits
  plain_new ty (Some vs) h = Yields (record { value = Refers (fresh h ty); heap = put h (fresh h ty) (new_object null (first_field (struct_of p ty)) vs) })

  abbrev pub plain_malloc : ℕ → List Value → Heap → Comes PlainValued
  plain_malloc ty [] h = Waits
  plain_malloc ty (v ∷ vs) h =
      if truth v then plain_new ty (contents_of p (struct_of p ty) vs) h else Yields (record { value = Refers null; heap = h })

  -- Read, for a count Range, Write; then the store
  abbrev pub plain_exchange : Operation → Ref → ℕ → List Value → Heap → Comes PlainValued
  plain_exchange op o f vs h =
      let was = read p h o f in
      let now = replaced op vs was in
      plain_check (alive h o) Read line (
      plain_check (not (counts op) || in_type (type_of_field p f) now) Range line (
      plain_check (alive h o) Write line (
      Yields (record { value = given op was now; heap = write h o f now })
      )
      )
      )

  abbrev pub plain_afterwards : InterlockedResult → List Value → PlainValued → Comes PlainValued
  plain_afterwards (Plainly c) l v = next (plain_convert_to line c v.value) (λ w. Yields (record v { value = w }))
  plain_afterwards (Compared c equal e d) l v =
      next (plain_convert_to line c v.value) (λ a.
      next (plain_eval p line v.heap l e) (λ b.
      next (plain_convert_to line d (says (if equal then same_value a b else not (same_value a b)))) (λ w. Yields (record v { value = w }))
      )
      )

  abbrev pub plain_right : PlainRight → List Value → Heap → List Value → Comes PlainValued
  plain_right (Worth e) choices h l = next (plain_eval p line h l e) (λ v. Yields (record { value = v; heap = h }))
  plain_right (NewObject ty) choices h l = plain_malloc ty choices h
  plain_right (Exchange e f op then') choices h l =
      next (plain_eval p line h l e) (λ o.
      next (plain_eval_all p line h l (operands op)) (λ vs.
      next (plain_exchange op (referent o) f vs h) (plain_afterwards then' l)
      )
      )

-- what one thread's turn gives
pub record PlainTurn : Type 0 where
  pub heap : Heap
  pub frames : List PlainFrame
  pub started : List PlainFrame
  pub line : ℕ

abbrev pub plain_zeros : List VariableInfo → List Value
plain_zeros vs = map (λ (v : VariableInfo). if v.is_ghost then Int (pos 0) else zero_of v.ty) vs

-- a function at its entry
abbrev pub plain_begin : Program → ℕ → FunctionInfo → List Value → PlainFrame
plain_begin p k f args = record { function = k; locals = args ++ plain_zeros (drop f.parameters f.variables.items); code = plain_body p f }

abbrev pub goes_to : PlainFrame → Code → PlainFrame
goes_to a c = record a { code = c }

module _ (p : Program) (choices : List Value) (a : PlainFrame) (below : List PlainFrame) (h : Heap) where
  abbrev pub plain_move : ℕ → Code → Comes PlainTurn
  plain_move line c = Yields (record { heap = h; frames = goes_to a c ∷ below; started = []; line = line })

  abbrev pub store_turn : ℕ → Code → Comes PlainProgress → Comes PlainTurn
  store_turn line c o = next o (λ g. Yields (record { heap = g.heap; frames = record a { locals = g.locals; code = c } ∷ below; started = []; line = line }))

  abbrev pub plain_declare : ℕ → ℕ → Option FunctionInfo → List Value → Code → Comes PlainTurn
  plain_declare line i None vs c = Waits
  plain_declare line i (Some f) [] c = Waits
  plain_declare line i (Some f) (v ∷ vs) c = fits_then (in_type (type_of_variable f i) v && no_choices vs) (store_turn line c (Yields (record { heap = h; locals = slice_set a.locals i v })))

  abbrev pub plain_spawn : ℕ → ℕ → Option FunctionInfo → List Expr → Code → Comes PlainTurn
  plain_spawn line k None es c = Waits
  plain_spawn line k (Some f) es c = next (plain_args p line h a.locals f.variables.items es) (λ args. Yields (record { heap = h; frames = goes_to a c ∷ below; started = plain_begin p k f args ∷ []; line = line }))

  abbrev pub plain_receiver : ℕ → Receiver → Comes (Option Place)
  plain_receiver line Nobody = Yields None
  plain_receiver line (NewVariable i) = Yields (Some (InLocal i))
  plain_receiver line (Left t) = next (plain_place p line h a.locals t) (λ place. Yields (Some place))

  abbrev pub receive_code : ℕ → Option CType → Option Place → Code → Code
  receive_code line v None c = c
  receive_code line v (Some place) c = ReceiveItem line place v c

  abbrev pub plain_call : ℕ → Receiver → Option CType → ℕ → Option FunctionInfo → List Expr → Code → Comes PlainTurn
  plain_call line to v k None es c = Waits
  plain_call line to v k (Some f) es c =
      next (plain_receiver line to) (λ place.
      next (plain_args p line h a.locals f.variables.items es) (λ args.
      Yields (record { heap = h; frames = plain_begin p k f args ∷ goes_to a (receive_code line v place c) ∷ below; started = []; line = line })
      )
      )

  abbrev pub plain_free : ℕ → Ref → Code → Comes PlainTurn
  plain_free line o c = plain_check (alive h o) Free line (Yields (record { heap = put h o (record (h.get o) { mode = Freed }); frames = goes_to a c ∷ below; started = []; line = line }))

-- the caller goes on, and stores the value if it wants one, with the call's line
abbrev pub plain_resume_code : Program → ℕ → Value → PlainFrame → Code → List PlainFrame → Heap → Comes PlainTurn
plain_resume_code p line v a CodeEnd below h = plain_move p [] a below h line CodeEnd
plain_resume_code p line v a (StoreItem m t r c) below h = plain_move p [] a below h line (StoreItem m t r c)
plain_resume_code p line v a (DeclareItem m i c) below h = plain_move p [] a below h line (DeclareItem m i c)
plain_resume_code p line v a (FreeItem m e c) below h = plain_move p [] a below h line (FreeItem m e c)
plain_resume_code p line v a (SpawnItem m k es c) below h = plain_move p [] a below h line (SpawnItem m k es c)
plain_resume_code p line v a (BranchItem m e x y c) below h = plain_move p [] a below h line (BranchItem m e x y c)
plain_resume_code p line v a (LoopItem m e x c) below h = plain_move p [] a below h line (LoopItem m e x c)
plain_resume_code p line v a (DoItem m x t e c) below h = plain_move p [] a below h line (DoItem m x t e c)
plain_resume_code p line v a (TestItem m e x c) below h = plain_move p [] a below h line (TestItem m e x c)
plain_resume_code p line v a (CallItem m to w k es c) below h = plain_move p [] a below h line (CallItem m to w k es c)
plain_resume_code p line v a (ReturnItem m e c) below h = plain_move p [] a below h line (ReturnItem m e c)
plain_resume_code p line v a (ReceiveItem called place w c) below h = next (plain_convert_to called w v) (λ x. store_turn p [] a below h line c (plain_store p called place x h a.locals))

abbrev pub plain_resume : Program → ℕ → Value → List PlainFrame → Heap → Comes PlainTurn
plain_resume p line v [] h = Yields (record { heap = h; frames = []; started = []; line = line })
plain_resume p line v (a ∷ below) h = plain_resume_code p line v a a.code below h

module _ (p : Program) (choices : List Value) (a : PlainFrame) where
  -- what the next item of a function comes to
  abbrev pub plain_item : Code → List PlainFrame → Heap → Comes PlainTurn
  plain_item CodeEnd below h = fits_then (no_choices choices) (plain_resume p (end_line (slice_get p.functions.items a.function)) (Int (pos 0)) below h)
  plain_item (StoreItem line t r c) below h =
      fits_then (plain_fits p r choices) (
      next (plain_place p line h a.locals t) (λ place.
      next (plain_right p line r choices h a.locals) (λ v.
      store_turn p choices a below h line c (plain_store p line place v.value v.heap a.locals)
      )
      )
      )
  plain_item (DeclareItem line i c) below h = plain_declare p choices a below h line i (slice_get p.functions.items a.function) choices c
  plain_item (FreeItem line e c) below h = fits_then (no_choices choices) (next (plain_eval p line h a.locals e) (λ v. plain_free p choices a below h line (referent v) c))
  plain_item (SpawnItem line k es c) below h = fits_then (no_choices choices) (plain_spawn p choices a below h line k (slice_get p.functions.items k) es c)
  plain_item (BranchItem line e x y c) below h = fits_then (no_choices choices) (next (plain_eval p line h a.locals e) (λ v. plain_move p choices a below h line (if truth v then join_code x c else join_code y c)))
  plain_item (LoopItem line e x c) below h = fits_then (no_choices choices) (next (plain_eval p line h a.locals e) (λ v. plain_move p choices a below h line (if truth v then join_code x (LoopItem line e x c) else c)))
  plain_item (DoItem line x tested e c) below h = fits_then (no_choices choices) (plain_move p choices a below h line (join_code x (TestItem tested e (DoItem line x tested e CodeEnd) c)))
  plain_item (TestItem line e loop c) below h = fits_then (no_choices choices) (next (plain_eval p line h a.locals e) (λ v. plain_move p choices a below h line (if truth v then join_code loop c else c)))
  plain_item (CallItem line to v k es c) below h = fits_then (no_choices choices) (plain_call p choices a below h line to v k (slice_get p.functions.items k) es c)
  plain_item (ReturnItem line e c) below h = fits_then (no_choices choices) (next (plain_value p line h a.locals e) (λ v. plain_resume p line v below h))
  plain_item (ReceiveItem line place v c) below h = Waits

abbrev pub plain_turn : Program → List Value → List PlainFrame → Heap → Comes PlainTurn
plain_turn p choices [] h = Waits
plain_turn p choices (a ∷ below) h = plain_item p choices a a.code below h

pub data PlainAnswer : Type 0 where
  NotEnabled : PlainAnswer
  Faulted : CheckKind → (line : ℕ) → PlainAnswer
  Next : PlainState → (line : ℕ) → PlainAnswer

abbrev pub plain_frames : ℕ → List PlainThread → List PlainFrame
plain_frames t [] = []
plain_frames t (th ∷ ths) = if th.number == t then th.frames else plain_frames t ths

abbrev pub with_plain_frames : ℕ → List PlainFrame → List PlainThread → List PlainThread
with_plain_frames t fs [] = []
with_plain_frames t fs (th ∷ ths) = (if th.number == t then record th { frames = fs } else th) ∷ with_plain_frames t fs ths

-- above every thread's number so far
abbrev pub above_threads : List PlainThread → ℕ
above_threads [] = 1
above_threads (th ∷ ths) = max (th.number + 1) (above_threads ths)

abbrev pub number_in : ℕ → List ℕ → Bool
number_in n [] = false
number_in n (k ∷ ks) = (k == n) || number_in n ks

-- the least number from n on that isn't one of these, within so many tries
abbrev pub first_free : ℕ → List ℕ → ℕ → ℕ
first_free zero ks n = n
first_free (suc tries) ks n = if number_in n ks then first_free tries ks (n + 1) else n

abbrev pub plain_number : PlainState → ℕ
plain_number s = first_free (suc (length s.skips)) s.skips (above_threads s.threads)

abbrev pub plain_answer : PlainState → ℕ → Comes PlainTurn → PlainAnswer
plain_answer s t Waits = NotEnabled
plain_answer s t (Fails kind line) = Faulted kind line
plain_answer s t (Yields turn) = Next (record { heap = turn.heap; threads = with_plain_frames t turn.frames s.threads ++ map (λ (a : PlainFrame). record { number = plain_number s; frames = a ∷ [] }) turn.started; skips = s.skips }) turn.line

-- The step of one event.
unfoldable pub plain_step : Program → PlainState → Event → PlainAnswer
plain_step p s e = plain_answer s e.thread (plain_turn p e.choices (plain_frames e.thread s.threads) s.heap)

abbrev pub after_plain : PlainState → PlainAnswer → PlainState
after_plain s NotEnabled = s
after_plain s (Faulted kind line) = s
after_plain s (Next s' line) = s'

abbrev pub plain_run : Program → List Event → PlainState → PlainState
plain_run p [] s = s
plain_run p (e ∷ es) s = plain_run p es (after_plain s (plain_step p s e))
