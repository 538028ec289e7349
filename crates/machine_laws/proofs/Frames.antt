-- What holds of the threads' functions through every run: their values are of their types, what is left of their code is typed, and who waits for a value can store it.
use Rattle.std.proofs.Common.{◌≡◌, ℕ, Bool, true, false, cond, ◌&&◌, ◌||◌, ◌==◌, ◌⊎◌, refl, sym, ap, subst, List, [], ◌∷◌, ◌++◌, map, drop, length, Option, Some, None, slice_get}
use Rattle.std.proofs.lemmas.Bool.{eqb-true}
use Rattle.object_types.specs.declared.values.Value.{Value}
use Rattle.int_ranges.specs.declared.ctype.CType.{CType}
use Rattle.method.specs.declared.program.DeclaredType.{DeclaredType}
use Rattle.method.specs.declared.program.Stmt.{Stmt, Row_of-Stmt, end_of-Stmt, more_of-Stmt, items-the_row-Stmt}
use Rattle.method.specs.declared.program.VariableInfo.{VariableInfo}
use Rattle.method.specs.declared.program.FunctionInfo.{FunctionInfo}
use Rattle.method.specs.declared.program.Program.{Program}
use Rattle.object_types.specs.References.{is_null, is_thread, thread}
use Rattle.object_types.specs.Sets.{every}
use Rattle.method.specs.Tables.{in_type, zero_of, is_struct}
use Rattle.method.specs.Typing.{declared, test, converted_values, convertible, stmt_ok, row_ok, is_return, ends_with_return, returns_value, WellTyped}
use Rattle.method.specs.Expressions.{Context}
use Rattle.method.specs.Actions.{Place, spot}
use Rattle.method.specs.Machine.{Remaining, Run, Test, WrapAgain, Receive, Activation, Thread, in_types, fit_parameters, zeros_of, begin, begin_with}
use Rattle.method.proofs.Empty.{zero_in_type}
use Rattle.method.proofs.Global.{and_both, both_and}
use Rattle.machine_laws.proofs.Typed.{not_both, all_typed}
use Rattle.machine_laws.proofs.Steps.{PlaceOk}
use Rattle.machine_laws.proofs.Acts.{IsBegun}
use Rattle.object_types.specs.declared.references.Ref.{Ref}

-- what is left ends with a return
abbrev pub is_last : Remaining → Bool
is_last (Run s) = is_return s
is_last (Test line e s) = false
is_last (WrapAgain line ty o) = false
is_last (Receive line place c) = false

abbrev pub ends : List Remaining → Bool
ends [] = false
ends (x ∷ []) = is_last x
ends (x ∷ y ∷ code) = ends (y ∷ code)

abbrev pub code_ends : Option DeclaredType → List Remaining → Bool
code_ends None code = true
code_ends (Some ty) code = ends code

abbrev pub remaining_ok : Program → FunctionInfo → ℕ → Remaining → Bool
remaining_ok p f k (Run s) = stmt_ok p f k s
remaining_ok p f k (Test line e s) = stmt_ok p f k s
remaining_ok p f k (WrapAgain line ty o) = is_struct p ty && (is_null o || (o.ty == ty))
remaining_ok p f k (Receive line place c) = false

-- a function that runs, with this code left
pub record FrameOk (p : Program) (me : Ref) (a : Activation) (code : List Remaining) : Type 0 where
  pub info : FunctionInfo
  pub is : slice_get p.functions.items a.context.function ≡ Some info
  pub thread : is_thread a.context.me ≡ true
  pub me_is : a.context.me ≡ me
  pub locals : all_typed info.variables.items a.locals ≡ true
  pub code_ok : every (remaining_ok p info a.context.function) code ≡ true
  pub ends_ok : code_ends info.result code ≡ true

-- it waits for a value of this type, which it stores
pub record Receiving (p : Program) (typed : WellTyped p) (me : Ref) (result : Option DeclaredType) (b : Activation) (code : List Remaining) (frame : FrameOk p me b code) : Type 0 where
  pub line : ℕ
  pub place : Place
  pub conversion : Option CType
  pub ty : DeclaredType
  pub code_is : b.code ≡ Receive line place conversion ∷ code
  pub result_is : result ≡ Some ty
  pub converts : convertible p frame.info conversion (declared ty) ≡ true
  pub fits : PlaceOk p typed frame.info (spot b.context [] line) frame.thread place (converted_values p frame.info conversion (declared ty))

pub record FrameWaits (p : Program) (typed : WellTyped p) (me : Ref) (result : Option DeclaredType) (b : Activation) : Type 0 where
  pub code : List Remaining
  pub frame : FrameOk p me b code
  pub how : (b.code ≡ code) ⊎ Receiving p typed me result b code frame

abbrev pub Waits : (p : Program) → WellTyped p → Ref → Option DeclaredType → List Activation → Type 0
Waits p typed me result [] = Unit {0}
Waits p typed me result (b ∷ below) = (w : FrameWaits p typed me result b) × Waits p typed me w.frame.info.result below

abbrev pub FramesOk : (p : Program) → WellTyped p → Ref → List Activation → Type 0
FramesOk p typed me [] = Unit {0}
FramesOk p typed me (a ∷ below) = (t : FrameOk p me a a.code) × Waits p typed me t.info.result below

abbrev pub ThreadsOk : (p : Program) → WellTyped p → List Thread → Type 0
ThreadsOk p typed [] = Unit {0}
ThreadsOk p typed (t ∷ ts) = FramesOk p typed (thread t.number) t.frames × ThreadsOk p typed ts

-- Code that goes on.

ends_cons : (x : Remaining) (code : List Remaining) → ends code ≡ true → ends (x ∷ code) ≡ true
ends_cons x [] e = absurd (cc)
ends_cons x (y ∷ code) e = e

pub code_cons : (r : Option DeclaredType) (x : Remaining) (code : List Remaining) → code_ends r code ≡ true → code_ends r (x ∷ code) ≡ true
code_cons None x code e = refl
code_cons (Some ty) x code e = ends_cons x code e

pub code_append : (r : Option DeclaredType) (xs code : List Remaining) → code_ends r code ≡ true → code_ends r (xs ++ code) ≡ true
code_append r [] code e = e
code_append r (x ∷ xs) code e = code_cons r x (xs ++ code) (code_append r xs code e)

ends_tail : (x : Remaining) (code : List Remaining) → is_last x ≡ false → ends (x ∷ code) ≡ true → ends code ≡ true
ends_tail x [] n e = absurd (not_both (is_last x) e n)
ends_tail x (y ∷ code) n e = e

pub code_tail : (r : Option DeclaredType) (x : Remaining) (code : List Remaining) → is_last x ≡ false → code_ends r (x ∷ code) ≡ true → code_ends r code ≡ true
code_tail None x code n e = refl
code_tail (Some ty) x code n e = ends_tail x code n e

pub every_append : (test : Remaining → Bool) (xs ys : List Remaining) → every test xs ≡ true → every test ys ≡ true → every test (xs ++ ys) ≡ true
every_append test [] ys a b = b
every_append test (x ∷ xs) ys a b = let c = and_both (test x) (every test xs) a in both_and (test x) (every test (xs ++ ys)) c.0 (every_append test xs ys c.1 b)

pub run_all : (p : Program) (f : FunctionInfo) (k : ℕ) (ss : List Stmt) → every (stmt_ok p f k) ss ≡ true → every (remaining_ok p f k) (map Run ss) ≡ true
run_all p f k [] e = refl
run_all p f k (s ∷ ss) e = let b = and_both (stmt_ok p f k s) (every (stmt_ok p f k) ss) e in both_and (stmt_ok p f k s) (every (remaining_ok p f k) (map Run ss)) b.0 (run_all p f k ss b.1)

pub row_all : (p : Program) (f : FunctionInfo) (k : ℕ) {m : _} (row : Row_of-Stmt m) → row_ok p f k row ≡ true → every (stmt_ok p f k) (items-the_row-Stmt _ row) ≡ true
row_all p f k end_of-Stmt e = refl
row_all p f k (more_of-Stmt s row) e = let b = and_both (stmt_ok p f k s) (row_ok p f k row) e in both_and (stmt_ok p f k s)
    (every (stmt_ok p f k) (items-the_row-Stmt _ row)) b.0 (row_all p f k row b.1)

ends_run : (ss : List Stmt) → ends_with_return ss ≡ true → ends (map Run ss) ≡ true
ends_run [] e = absurd (cc)
ends_run (s ∷ []) e = e
ends_run (s ∷ t ∷ ss) e = ends_run (t ∷ ss) e

returns_run : (r : Option DeclaredType) (ss : List Stmt) → returns_value r ss ≡ true → code_ends r (map Run ss) ≡ true
returns_run None ss e = refl
returns_run (Some ty) ss e = ends_run ss e

-- A function that begins.

zeros_typed : (vs : List VariableInfo) → all_typed vs (zeros_of vs) ≡ true
zeros_typed [] = refl
zeros_typed (v ∷ vs) = both_and (in_type v.ty (zero_of v.ty)) (all_typed vs (zeros_of vs)) (zero_in_type v.ty) (zeros_typed vs)

pub args_typed : (vs : List VariableInfo) (args : List Value) → in_types vs args ≡ true → all_typed vs (args ++ zeros_of (drop (length args) vs)) ≡ true
args_typed vs [] e = zeros_typed vs
args_typed [] (a ∷ args) e = absurd (cc)
args_typed (v ∷ vs) (a ∷ args) e = by (in_type v.ty a) refl e (args_typed vs args)
  where
    by :
        (b : Bool) → in_type v.ty a ≡ b → cond b (in_types vs args) false ≡ true →
        (in_types vs args ≡ true → all_typed vs (args ++ zeros_of (drop (length args) vs)) ≡ true) →
        in_type v.ty a && all_typed vs (args ++ zeros_of (drop (length args) vs)) ≡ true
    by true i e more = both_and (in_type v.ty a) (all_typed vs (args ++ zeros_of (drop (length args) vs))) i (more e)
    by false i e more = absurd (cc)

pub fit_parts : (f : FunctionInfo) (args : List Value) → fit_parameters f args ≡ true → (length args ≡ f.parameters) × (in_types f.variables.items args ≡ true)
fit_parts f args e = by (length args == f.parameters) refl e
  where
    by : (b : Bool) → (length args == f.parameters) ≡ b → cond b (in_types f.variables.items args) false ≡ true → (length args ≡ f.parameters) × (in_types f.variables.items args ≡ true)
    by true i e = (eqb-true (length args) f.parameters i, e)
    by false i e = absurd (cc)

abbrev begun : Context → FunctionInfo → Activation
begun x f = record { context = x; locals = x.args ++ zeros_of (drop f.parameters f.variables.items); code = map Run f.body.items }

begin_is : (p : Program) (x : Context) (f : FunctionInfo) → slice_get p.functions.items x.function ≡ Some f → begin p x ≡ begun x f
begin_is p x f e = ap (λ o. begin_with o x) e

abbrev begun_frame : (p : Program) → WellTyped p → (me : Ref) (x : Context) → x.me ≡ me → (b : IsBegun p x) → FrameOk p me (begun x b.info) (begun x b.info).code
begun_frame p typed me x e b =
    let z = fit_parts b.info x.args b.args in
    record {
      info = b.info;
      is = b.is;
      thread = b.thread;
      me_is = e;
      locals = subst (λ n. all_typed b.info.variables.items (x.args ++ zeros_of (drop n b.info.variables.items)) ≡ true) z.0 (args_typed b.info.variables.items x.args z.1);
      code_ok = run_all p b.info x.function b.info.body.items (typed.bodies x.function b.info b.is);
      ends_ok = returns_run b.info.result b.info.body.items (typed.returns x.function b.info b.is);
    }

pub begin_frame : (p : Program) → WellTyped p → (me : Ref) (x : Context) → x.me ≡ me → (b : IsBegun p x) → (t : FrameOk p me (begin p x) (begin p x).code) × (t.info ≡ b.info)
begin_frame p typed me x e b = subst (λ (c : Activation). (t : FrameOk p me c c.code) × (t.info ≡ b.info)) (sym (begin_is p x b.info b.is)) (begun_frame p typed me x e b, refl)
