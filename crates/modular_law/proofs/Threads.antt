-- What is known of each thread between two steps.
use Rattle.std.proofs.Common.{◌≡◌, ℕ, ◌+◌, Bool, true, false, ◌||◌, ◌==◌, List, [], ◌∷◌, ◌++◌, map, length, Option, Some, None, slice_get, refl, sym, ◌∙◌, subst, IsTrue, IsFalse}
use Rattle.object_types.specs.declared.references.Ref.{Ref}
use Rattle.object_types.specs.declared.values.Value.{Value}
use Rattle.int_ranges.specs.declared.ctype.CType.{CType}
use Rattle.method.specs.declared.program.Spec.{Spec}
use Rattle.method.specs.declared.program.Stmt.{Stmt, Row_of-Stmt, end_of-Stmt, more_of-Stmt}
use Rattle.method.specs.declared.program.FunctionInfo.{FunctionInfo}
use Rattle.method.specs.declared.program.Program.{Program}
use Rattle.object_types.specs.References.{thread, is_null}
use Rattle.object_types.specs.Sets.{every}
use Rattle.object_types.specs.Heap.{Heap, writable}
use Rattle.method.specs.Tables.{local, is_struct, is_field_of}
use Rattle.method.specs.WellFormed.{IsHeapOf}
use Rattle.method.specs.Legal.{Good}
use Rattle.method.specs.Rely.{Rely, Frame}
use Rattle.method.specs.Expressions.{Gave, Context}
use Rattle.method.specs.Actions.{Place, InLocal, InField, spot, convert_to}
use Rattle.method.specs.Machine.{Activation, and_receive}
use Rattle.method.specs.Typing.{stmt_ok, row_ok}
use Rattle.method.specs.Text.{sets, row_sets, stmt_checks}
use Rattle.method.specs.LocalRuns.{of_type, Answers, receives, all_hold_at}
use Rattle.method.specs.SafeRuns.{Passes, Goes}
use Rattle.modular_law.specs.Respect.{Fits, Unwritable}
use Rattle.modular_law.proofs.Facts.{is_return, has_no_value, returns_last, Spares}
use Rattle.method.proofs.Relies.{frame_composes}
use Rattle.method.proofs.Global.{and_both}
use Rattle.modular_law.proofs.Walks.{Out, Sub, sub_left, sub_right}
use Rattle.modular_law.proofs.Frames.{rely_frame}
use Rattle.modular_law.proofs.Typing.{PlaceTyped}
use Rattle.modular_law.proofs.Marks.{Mark, Go, Loop, Do_test, Do_again, Closing, erase, Fine, fine_closed, gos, all_gos}
use Rattle.std.proofs.lemmas.Bool.{or_right}

-- each loop that is being run sets these variables
abbrev pub Covered : List ℕ → List Mark → Type 0
Covered set [] = Unit {0}
Covered set (Go n s ∷ ms) = Covered set ms
Covered set (Loop n line invs e m row began first ∷ ms) = Sub set (row_sets row) × Covered set ms
Covered set (Do_test n line invs m row tested e began first ∷ ms) = Sub set (row_sets row) × Covered set ms
Covered set (Do_again n line invs m row tested e began first ∷ ms) = Sub set (row_sets row) × Covered set ms
Covered set (Closing n line ty o ∷ ms) = Covered set ms

pub covered_sub : (a b : List ℕ) (ms : List Mark) → Sub a b → Covered b ms → Covered a ms
covered_sub a b [] s c = tt
covered_sub a b (Go n t ∷ ms) s c = covered_sub a b ms s c
covered_sub a b (Loop n line invs e m row began first ∷ ms) s c = ((λ i o. s i (c.0 i o)), covered_sub a b ms s c.1)
covered_sub a b (Do_test n line invs m row tested e began first ∷ ms) s c = ((λ i o. s i (c.0 i o)), covered_sub a b ms s c.1)
covered_sub a b (Do_again n line invs m row tested e began first ∷ ms) s c = ((λ i o. s i (c.0 i o)), covered_sub a b ms s c.1)
covered_sub a b (Closing n line ty o ∷ ms) s c = covered_sub a b ms s c

pub covered_none : (ms : List Mark) → Covered [] ms
covered_none [] = tt
covered_none (Go n t ∷ ms) = covered_none ms
covered_none (Loop n line invs e m row began first ∷ ms) = ((λ i o. refl), covered_none ms)
covered_none (Do_test n line invs m row tested e began first ∷ ms) = ((λ i o. refl), covered_none ms)
covered_none (Do_again n line invs m row tested e began first ∷ ms) = ((λ i o. refl), covered_none ms)
covered_none (Closing n line ty o ∷ ms) = covered_none ms

pub covered_gos : (p : Program) (f : FunctionInfo) {m : _} (row : Row_of-Stmt m) (n : ℕ) (set : List ℕ) (ms : List Mark) → Covered set ms → Covered set (gos p f row n ++ ms)
covered_gos p f end_of-Stmt n set ms c = c
covered_gos p f (more_of-Stmt s row) n set ms c = covered_gos p f row (n + stmt_checks p f s) set ms c

-- a function with a value ends with a return
abbrev pub is_return_mark : Mark → Bool
is_return_mark (Go n s) = is_return s
is_return_mark (Loop n line invs e m row began first) = false
is_return_mark (Do_test n line invs m row tested e began first) = false
is_return_mark (Do_again n line invs m row tested e began first) = false
is_return_mark (Closing n line ty o) = false

abbrev pub ends_well : FunctionInfo → List Mark → Bool
ends_well f [] = has_no_value f.result
ends_well f (m ∷ ms) = is_return_mark m || ends_well f ms

pub ends_gos : (p : Program) (f : FunctionInfo) {m : _} (row : Row_of-Stmt m) (n : ℕ) (ms : List Mark) → ends_well f ms ≡ true → ends_well f (gos p f row n ++ ms) ≡ true
ends_gos p f end_of-Stmt n ms e = e
ends_gos p f (more_of-Stmt s row) n ms e = or_right (is_return s) _ (ends_gos p f row (n + stmt_checks p f s) ms e)

pub ends_all : (p : Program) (f : FunctionInfo) (ss : List Stmt) (n : ℕ) → returns_last f ss ≡ true → ends_well f (all_gos p f ss n) ≡ true
ends_all p f [] n e = e
ends_all p f (s ∷ ss) n e = by_first (is_return s) e (ends_all p f ss (n + stmt_checks p f s))
  where
    by_first : (b : Bool) → b || returns_last f ss ≡ true → (returns_last f ss ≡ true → ends_well f (all_gos p f ss (n + stmt_checks p f s)) ≡ true) →
        b || ends_well f (all_gos p f ss (n + stmt_checks p f s)) ≡ true
    by_first true d g = refl
    by_first false d g = g d

-- variables of this set may have changed
pub record Changed (set : List ℕ) (l m : List Value) : Type 0 where
  pub size : length m ≡ length l
  pub others : (i : ℕ) → Out set i → local m i ≡ local l i

pub unchanged : (set : List ℕ) (l : List Value) → Changed set l l
unchanged set l = record { size = refl; others = λ i o. refl }

module _ (p : Program) (x : Context) (f : FunctionInfo) where
  -- a loop from its start to now
  pub record Looped (set : List ℕ) (invs : List Spec) (began : Heap) (first : List Value) (h : Heap) (l : List Value) : Type 0 where
    pub held : IsTrue (all_hold_at p x f invs began first)
    pub changed : Changed set first l
    pub frame : Frame p x.me began h x.entry x.writes

  -- the heap now is within the frame of the function and of each loop that is being run, and the code is typed
  abbrev pub Held : List Mark → Heap → List Value → Type 0
  Held [] h l = Frame p x.me x.entry h x.entry x.writes
  Held (Go n s ∷ ms) h l = IsTrue (stmt_ok p f x.function s) × Covered (sets s) ms × Held ms h l
  Held (Loop n line invs e m row began first ∷ ms) h l = Looped (row_sets row) invs.items began first h l × IsTrue (row_ok p f x.function row) × Covered (row_sets row) ms × Held ms h l
  Held (Do_test n line invs m row tested e began first ∷ ms) h l = Looped (row_sets row) invs.items began first h l × IsTrue (row_ok p f x.function row) × Covered (row_sets row) ms × Held ms h l
  Held (Do_again n line invs m row tested e began first ∷ ms) h l = Looped (row_sets row) invs.items began first h l × IsTrue (row_ok p f x.function row) × Covered (row_sets row) ms × Held ms h l
  Held (Closing n line ty o ∷ ms) h l = IsTrue (is_struct p ty) × IsTrue (is_null o || (o.ty == ty)) × Held ms h l

  looped_on : (set big : List ℕ) (invs : List Spec) (began : Heap) (first : List Value) (h k : Heap) (l m : List Value) → Frame p x.me h k x.entry x.writes → Changed set l m → Sub set big →
      Looped big invs began first h l → Looped big invs began first k m
  looped_on set big invs began first h k l m fr c s y = record {
    held = y.held;
    changed = record { size = c.size ∙ y.changed.size; others = λ i o. c.others i (s i o) ∙ y.changed.others i o };
    frame = frame_composes p x.me began h k x.entry x.writes y.frame fr;
  }

  pub held_on : (ms : List Mark) (set : List ℕ) (h k : Heap) (l m : List Value) → Frame p x.me h k x.entry x.writes → Changed set l m → Covered set ms → Held ms h l → Held ms k m
  held_on [] set h k l m fr c v y = frame_composes p x.me x.entry h k x.entry x.writes y fr
  held_on (Go n s ∷ ms) set h k l m fr c v y = (y.0, y.1, held_on ms set h k l m fr c v y.2)
  held_on (Loop n line invs e q row began first ∷ ms) set h k l m fr c v y = (looped_on set (row_sets row) invs.items began first h k l m fr c v.0 y.0, y.1, y.2, held_on ms set h k l m fr c v.1 y.3)
  held_on (Do_test n line invs q row tested e began first ∷ ms) set h k l m fr c v y =
      (looped_on set (row_sets row) invs.items began first h k l m fr c v.0 y.0, y.1, y.2, held_on ms set h k l m fr c v.1 y.3)
  held_on (Do_again n line invs q row tested e began first ∷ ms) set h k l m fr c v y =
      (looped_on set (row_sets row) invs.items began first h k l m fr c v.0 y.0, y.1, y.2, held_on ms set h k l m fr c v.1 y.3)
  held_on (Closing n line ty o ∷ ms) set h k l m fr c v y = (y.0, y.1, held_on ms set h k l m fr c v y.2)

  pub held_entry : (ms : List Mark) (h : Heap) (l : List Value) → Held ms h l → Frame p x.me x.entry h x.entry x.writes
  held_entry [] h l y = y
  held_entry (Go n s ∷ ms) h l y = held_entry ms h l y.2
  held_entry (Loop n line invs e q row began first ∷ ms) h l y = held_entry ms h l y.3
  held_entry (Do_test n line invs q row tested e began first ∷ ms) h l y = held_entry ms h l y.3
  held_entry (Do_again n line invs q row tested e began first ∷ ms) h l y = held_entry ms h l y.3
  held_entry (Closing n line ty o ∷ ms) h l y = held_entry ms h l y.2

  pub row_held : {m : _} (row : Row_of-Stmt m) (n : ℕ) (ms : List Mark) (h : Heap) (l : List Value) → row_ok p f x.function row ≡ true → Covered (row_sets row) ms → Held ms h l →
      Held (gos p f row n ++ ms) h l
  row_held end_of-Stmt n ms h l ok c y = y
  row_held (more_of-Stmt s row) n ms h l ok c y =
      let z = and_both (stmt_ok p f x.function s) (row_ok p f x.function row) ok in (
        z.0,
        covered_gos p f row (n + stmt_checks p f s) (sets s) ms (covered_sub (sets s) (row_sets (more_of-Stmt s row)) ms (sub_left (sets s) (row_sets row) _ (λ i o. o)) c),
        row_held row (n + stmt_checks p f s) ms h l z.1 (covered_sub (row_sets row) (row_sets (more_of-Stmt s row)) ms (sub_right (sets s) (row_sets row) _ (λ i o. o)) c) y,
      )

  pub body_held : (ss : List Stmt) (n : ℕ) (h : Heap) (l : List Value) → every (stmt_ok p f x.function) ss ≡ true → Frame p x.me x.entry h x.entry x.writes → Held (all_gos p f ss n) h l
  body_held [] n h l ok y = y
  body_held (s ∷ ss) n h l ok y =
      let z = and_both (stmt_ok p f x.function s) (every (stmt_ok p f x.function) ss) ok in
      (z.0, no_loops ss (n + stmt_checks p f s) (sets s), body_held ss (n + stmt_checks p f s) h l z.1 y)
    where
      no_loops : (ss : List Stmt) (n : ℕ) (set : List ℕ) → Covered set (all_gos p f ss n)
      no_loops [] n set = tt
      no_loops (s ∷ ss) n set = no_loops ss (n + stmt_checks p f s) set

-- the function that is being run
pub record TopOk (p : Program) (t : ℕ) (h : Heap) (a : Activation) : Type 0 where
  pub info : FunctionInfo
  pub is : slice_get p.functions.items a.context.function ≡ Some info
  pub me : a.context.me ≡ thread t
  pub good : Good p a.context.entry
  pub marks : List Mark
  pub last : ℕ
  pub code : map erase marks ≡ a.code
  pub fine : (label : ℕ) → Fine p a.context info label last marks h a.locals
  pub held : Held p a.context info marks h a.locals
  pub ends : ends_well info marks ≡ true
  pub fits : Fits info a.locals

abbrev pub place_sets : Option Place → List ℕ
place_sets None = []
place_sets (Some (InLocal i)) = i ∷ []
place_sets (Some (InField o f)) = []

-- the value is one of the place's type
abbrev pub StoreTyped : Program → FunctionInfo → Option Place → Value → Type 0
StoreTyped p f None v = Unit {0}
StoreTyped p f (Some place) v = PlaceTyped p f place v

-- the object of a field's place is NULL or one of the field's type
abbrev pub FieldPlace : Program → Option Place → Type 0
FieldPlace p None = Unit {0}
FieldPlace p (Some (InLocal i)) = Unit {0}
FieldPlace p (Some (InField o q)) = IsTrue (is_null o || is_field_of p q o.ty)

-- a function that waits for a call of y to return
pub record WaitsOk (p : Program) (t : ℕ) (h : Heap) (y : Context) (a : Activation) : Type 0 where
  pub info : FunctionInfo
  pub is : slice_get p.functions.items a.context.function ≡ Some info
  pub me : a.context.me ≡ thread t
  pub good : Good p a.context.entry
  pub marks : List Mark
  pub last : ℕ
  pub line : ℕ
  pub place : Option Place
  pub conversion : Option CType
  pub number : ℕ
  pub callee : FunctionInfo
  pub callee_is : slice_get p.functions.items y.function ≡ Some callee
  pub callee_me : y.me ≡ a.context.me
  pub code : and_receive p line conversion place (map erase marks) ≡ a.code
  pub resumes : (label : ℕ) (k : Heap) (v : Value) → Answers p a.context info (record { place = place; info = callee; context = y }) y.entry k v →
      Passes label (receives p a.context info line place conversion v number k a.locals) (Goes (Fine p a.context info label last marks))
  pub held : Held p a.context info marks h a.locals
  pub ends : ends_well info marks ≡ true
  pub covered : Covered (place_sets place) marks
  pub narrow : (o : Ref) → Unwritable a.context o → Unwritable y o
  pub fits : Fits info a.locals
  pub stores : (v w : Value) → IsTrue (of_type callee.result v) → (convert_to (spot a.context [] line) conversion v 0).end ≡ Gave w → StoreTyped p info place w
  pub at_field : FieldPlace p place

abbrev pub BelowOk : Program → ℕ → Heap → Context → List Activation → Type 0
BelowOk p t h y [] = Unit {0}
BelowOk p t h y (a ∷ below) = WaitsOk p t h y a × BelowOk p t h a.context below

abbrev pub ThreadOk : Program → ℕ → Heap → List Activation → Type 0
ThreadOk p t h [] = Unit {0}
ThreadOk p t h (a ∷ below) = TopOk p t h a × BelowOk p t h a.context below

pub spared_frame : (p : Program) (t : ℕ) (h k : Heap) (x y : Context) → x.me ≡ thread t → ((o : Ref) → Unwritable x o → Unwritable y o) → IsHeapOf p x.entry → Spares p t h k y →
    Frame p x.me h k x.entry x.writes
spared_frame p t h k x y me narrow entry s =
    subst (λ (r : Ref). Frame p r h k x.entry x.writes) (sym me)
    (s x.entry x.writes entry (λ o n. narrow o (subst (λ (r : Ref). IsFalse (writable r x.entry x.writes o)) (sym me) n)))

-- what waits goes on through a step that spares what it may not write
pub below_on : (p : Program) (t : ℕ) (h k : Heap) (z y : Context) (below : List Activation) → ((o : Ref) → Unwritable y o → Unwritable z o) → Spares p t h k z → BelowOk p t h y below →
    BelowOk p t k y below
below_on p t h k z y [] narrow s ok = tt
below_on p t h k z y (a ∷ below) narrow s ok =
    let w = ok.0 in
    let down = λ (o : Ref) (n : Unwritable a.context o). narrow o (w.narrow o n) in (
      record {
        info = w.info;
        is = w.is;
        me = w.me;
        good = w.good;
        marks = w.marks;
        last = w.last;
        line = w.line;
        place = w.place;
        conversion = w.conversion;
        number = w.number;
        callee = w.callee;
        callee_is = w.callee_is;
        callee_me = w.callee_me;
        code = w.code;
        resumes = w.resumes;
        held = held_on p a.context w.info w.marks [] h k a.locals a.locals (spared_frame p t h k a.context z w.me down w.good.well_formed.heap_of s) (unchanged [] a.locals)
            (covered_none w.marks) w.held;
        ends = w.ends;
        covered = w.covered;
        narrow = w.narrow;
        fits = w.fits;
        stores = w.stores;
        at_field = w.at_field;
      },
      below_on p t h k z a.context below down s ok.1,
    )

-- a thread goes on through what others do
pub thread_yields : (p : Program) (t : ℕ) (h k : Heap) (frames : List Activation) → Rely p (thread t) h k → ThreadOk p t h frames → ThreadOk p t k frames
thread_yields p t h k [] r ok = tt
thread_yields p t h k (a ∷ below) r ok =
    let o = ok.0 in
    let mine = subst (λ (u : Ref). Rely p u h k) (sym o.me) r in (
      record {
        info = o.info;
        is = o.is;
        me = o.me;
        good = o.good;
        marks = o.marks;
        last = o.last;
        code = o.code;
        fine = λ label. fine_closed p a.context o.info label o.last o.marks h k a.locals mine (o.fine label);
        held = held_on p a.context o.info o.marks [] h k a.locals a.locals (rely_frame p a.context.me a.context.entry a.context.writes h k mine o.good.well_formed.heap_of)
            (unchanged [] a.locals) (covered_none o.marks) o.held;
        ends = o.ends;
        fits = o.fits;
      },
      below_on p t h k a.context a.context below (λ q n. n) (λ e w entry n. rely_frame p (thread t) e w h k r entry) ok.1,
    )
