-- What is left of a function's code, with what a local run knows of it: the numbers of its checks, and of each loop that is being run the heap and the variables at its start.
use Rattle.std.proofs.Common.{◌≡◌, ℕ, ◌+◌, Bool, true, false, ◌||◌, List, [], ◌∷◌, ◌++◌, map, length, None, refl, sym, ap, ◌∙◌, subst}
use mathlib.Core.Former.{list_count, this}
use Rattle.std.specs.Prelude.{Vec}
use Rattle.std.specs.declared.alloc.Global.{Global}
use Rattle.object_types.specs.declared.references.Ref.{Ref}
use Rattle.object_types.specs.declared.values.Value.{Value}
use Rattle.method.specs.declared.program.Expr.{Expr}
use Rattle.method.specs.declared.program.Spec.{Spec}
use Rattle.method.specs.declared.program.Stmt.{Stmt, Row_of-Stmt, end_of-Stmt, more_of-Stmt, items-the_row-Stmt}
use Rattle.method.specs.declared.program.Stmt.TheVariants.{Do, If', While', DoWhile', Unwrapping', Call, Return}
use Rattle.method.specs.declared.program.FunctionInfo.{FunctionInfo}
use Rattle.method.specs.declared.program.Program.{Program}
use Rattle.object_types.specs.Values.{referent, truth}
use Rattle.object_types.specs.Heap.{Heap}
use Rattle.method.specs.Rely.{Rely}
use Rattle.method.specs.Expressions.{End, Misfit, Failed, Gave, Outcome, Context, checks, eval}
use Rattle.method.specs.Actions.{Supply, Chosen, spot, starting, act, unwrap_object, wrap_object}
use Rattle.method.specs.Machine.{Remaining, Run, Test, WrapAgain}
use Rattle.method.specs.Text.{reads, option_reads, specs_read, clauses_read, action_reads, row_sets, call_checks, stmt_checks, row_checks}
use Rattle.method.specs.LocalRuns.{Moves, Turns, calls, receives, invariants_at, returns}
use Rattle.method.specs.SafeRuns.{Place, Passes, PassesEnd, Branch, Goes, RunsStmt, RunsRow, RunsBody}
use Rattle.method.proofs.Relies.{rely_composes, frame_composes}
use Rattle.modular_law.proofs.Frames.{rely_frame}
use Rattle.modular_law.proofs.Blind.{eval_blind, invariants_blind, all_hold_blind, returns_blind, map_end, act_blind}
use Rattle.std.proofs.lemmas.Bool.{or_parts}

-- a body, as a loop holds it
abbrev pub Rows : Vec (Unit {0}) Global → Type 0
Rows m = Row_of-Stmt (list_count (this {0}) m.items 0)

-- a statement not begun; a `while` behind its body; a `do` behind its body, and behind its test; the wrap of an unwrapping block
pub data Mark : Type 0 where
  Go : (n : ℕ) → Stmt → Mark
  Loop : (n line : ℕ) (invs : Vec Spec Global) (e : Expr) (m : Vec (Unit {0}) Global) (row : Rows m) (began : Heap) (first : List Value) → Mark
  Do_test : (n line : ℕ) (invs : Vec Spec Global) (m : Vec (Unit {0}) Global) (row : Rows m) (tested : ℕ) (e : Expr) (began : Heap) (first : List Value) → Mark
  Do_again : (n line : ℕ) (invs : Vec Spec Global) (m : Vec (Unit {0}) Global) (row : Rows m) (tested : ℕ) (e : Expr) (began : Heap) (first : List Value) → Mark
  Closing : (n line ty : ℕ) (o : Ref) → Mark

abbrev pub erase : Mark → Remaining
erase (Go n s) = Run s
erase (Loop n line invs e m row began first) = Run (While' line invs e m row)
erase (Do_test n line invs m row tested e began first) = Test tested e (DoWhile' line invs m row tested e)
erase (Do_again n line invs m row tested e began first) = Run (DoWhile' line invs m row tested e)
erase (Closing n line ty o) = WrapAgain line ty o

-- a turn of a loop that begins later
pub turns_back : (p : Program) (x : Context) (f : FunctionInfo) (invs : List Spec) (set : List ℕ) (h k j : Heap) (l m : List Value) → specs_read invs ≡ false → Rely p x.me h k →
    Turns p x f invs set k j l m → Turns p x f invs set h j l m
turns_back p x f invs set h k j l m b r t = record {
  first = sym (all_hold_blind p x f h k l invs b) ∙ t.first;
  havoc = t.havoc;
  frame = frame_composes p x.me h k j x.entry x.writes (rely_frame p x.me x.entry x.writes h k r t.frame.entry) t.frame;
  holds = t.holds;
}

-- What a local run says of each place.

pub end_mono : {A : Type 0} (label : ℕ) (e : End A) (Q Q' : A → Type 0) → ((a : A) → Q a → Q' a) → PassesEnd label e Q → PassesEnd label e Q'
end_mono label Misfit Q Q' f y = y
end_mono label (Failed n kind line) Q Q' f y = y
end_mono label (Gave a) Q Q' f y = f a y

branch_mono : (b : Bool) (A B A' B' : Type 0) → (A → A') → (B → B') → Branch b A B → Branch b A' B'
branch_mono true A B A' B' f g y = f y
branch_mono false A B A' B' f g y = g y

module _ (p : Program) (x : Context) (f : FunctionInfo) (label : ℕ) where
  -- behind a loop's body
  abbrev pub Again : ℕ → List Spec → ℕ → Place
  Again line invs n h l = (k : Heap) → Moves (specs_read invs) p x.me h k → Passes label (invariants_at p x f line invs k l n) (λ u. Unit {0})

  abbrev pub TestedAt : ℕ → ℕ → List Spec → Expr → ℕ → ℕ → Place → Place
  TestedAt line tested invs e n m Q h l = (k : Heap) → Moves (reads e) p x.me h k → Passes label (eval p (spot x [] tested) k l e n) (λ v. Branch (truth v) (Again line invs m k l) (Q k l))

  -- behind an unwrapping block's body
  abbrev pub Closes : ℕ → ℕ → Ref → ℕ → Place → Place
  Closes line ty o n Q h l = (k : Heap) → Moves true p x.me h k → Passes label (wrap_object p (spot x [] line) ty o n (starting k l (Chosen []))) (Goes Q)

  -- what the local runs say of a loop, from any turn of it
  abbrev pub LoopFact : (n line : ℕ) (invs : List Spec) (e : Expr) {m : _} (row : Row_of-Stmt m) (began : Heap) (first : List Value) → Place → Type 0
  LoopFact n line invs e row began first Q =
      (k : Heap) (l : List Value) → Turns p x f invs (row_sets row) began k first l →
      Passes label (eval p (spot x [] line) k l e (n + length invs)) (λ v. Branch (truth v)
      (RunsRow p x f label row (n + length invs + checks e) (Again line invs (n + length invs + checks e + row_checks p f row)) k l) (Q k l))

  abbrev pub DoFact : (n line : ℕ) (invs : List Spec) {m : _} (row : Row_of-Stmt m) (tested : ℕ) (e : Expr) (began : Heap) (first : List Value) → Place → Type 0
  DoFact n line invs row tested e began first Q =
      (k : Heap) (l : List Value) → Turns p x f invs (row_sets row) began k first l →
      RunsRow p x f label row (n + length invs) (TestedAt line tested invs e (n + length invs + row_checks p f row) (n + length invs + row_checks p f row + checks e) Q) k l

  tested_mono : (line tested : ℕ) (invs : List Spec) (e : Expr) (n m : ℕ) (Q Q' : Place) → ((h : Heap) (l : List Value) → Q h l → Q' h l) → (h : Heap) (l : List Value) →
      TestedAt line tested invs e n m Q h l → TestedAt line tested invs e n m Q' h l
  tested_mono line tested invs e n m Q Q' F h l y = λ k r. end_mono label (eval p (spot x [] tested) k l e n).end _ _ (λ v. branch_mono (truth v) _ _ _ _ (λ w. w) (F k l)) (y k r)

  closes_mono : (line ty : ℕ) (o : Ref) (n : ℕ) (Q Q' : Place) → ((h : Heap) (l : List Value) → Q h l → Q' h l) → (h : Heap) (l : List Value) → Closes line ty o n Q h l → Closes line ty o n Q' h l
  closes_mono line ty o n Q Q' F h l y = λ k r. end_mono label (wrap_object p (spot x [] line) ty o n (starting k l (Chosen []))).end (Goes Q) (Goes Q') (λ g. F g.heap g.locals) (y k r)

  mutual
    stmt_mono : (s : Stmt) (n : ℕ) (Q Q' : Place) → ((h : Heap) (l : List Value) → Q h l → Q' h l) → (h : Heap) (l : List Value) → RunsStmt p x f label s n Q h l → RunsStmt p x f label s n Q' h l
    stmt_mono (Do line a) n Q Q' F h l y = λ k r choices news. end_mono label (act p x choices (Chosen news) line a n k l).end (Goes Q) (Goes Q') (λ g. F g.heap g.locals) (y k r choices news)
    stmt_mono (If' line in_ghost e m a q b) n Q Q' F h l y = λ k r. end_mono label (eval p (spot x [] line) k l e n).end _ _
        (λ v. branch_mono (truth v) _ _ _ _ (row_mono a (n + checks e) Q Q' F k l) (row_mono b (n + checks e + row_checks p f a) Q Q' F k l)) (y k r)
    stmt_mono (While' line invs e m row) n Q Q' F h l y =
        λ k r. end_mono label (invariants_at p x f line invs.items k l n).end _ _ (λ u z k' l' t. end_mono label (eval p (spot x [] line) k' l' e (n + length invs.items)).end _ _
        (λ v. branch_mono (truth v) _ _ _ _ (λ w. w) (F k' l')) (z k' l' t)) (y k r)
    stmt_mono (DoWhile' line invs m row tested e) n Q Q' F h l y =
        λ k r. end_mono label (invariants_at p x f line invs.items k l n).end _ _ (λ u z k' l' t. row_mono row (n + length invs.items) _ _
        (tested_mono line tested invs.items e (n + length invs.items + row_checks p f row) (n + length invs.items + row_checks p f row + checks e) Q Q' F) k' l' (z k' l' t)) (y k r)
    stmt_mono (Unwrapping' line ty q e m row) n Q Q' F h l y =
        λ k r. end_mono label (eval p (spot x [] line) k l e n).end _ _ (λ v. end_mono label (unwrap_object p (spot x [] line) (referent v) (n + checks e) (starting k l (Chosen []))).end _
        _ (λ g. row_mono row (n + checks e + 3) _ _ (closes_mono line ty (referent v) (n + checks e + 3 + row_checks p f row) Q Q' F) g.heap g.locals)) (y k r)
    stmt_mono (Call line to c q es) n Q Q' F h l y =
        λ k r. end_mono label (calls p x f line to q es.items n k l).end _ _ (λ c' z k' v answer. end_mono label
        (receives p x f line c'.place c v (n + call_checks p to q es.items) k' l).end (Goes Q) (Goes Q') (λ g. F g.heap g.locals) (z k' v answer)) (y k r)
    stmt_mono (Return line e) n Q Q' F h l y = y

    row_mono : {m : _} (row : Row_of-Stmt m) (n : ℕ) (Q Q' : Place) → ((h : Heap) (l : List Value) → Q h l → Q' h l) → (h : Heap) (l : List Value) → RunsRow p x f label row n Q h l →
        RunsRow p x f label row n Q' h l
    row_mono end_of-Stmt n Q Q' F h l y = F h l y
    row_mono (more_of-Stmt s row) n Q Q' F h l y = stmt_mono s n (RunsRow p x f label row (n + stmt_checks p f s) Q) (RunsRow p x f label row (n + stmt_checks p f s) Q')
        (row_mono row (n + stmt_checks p f s) Q Q' F) h l y

  -- Local runs go on where the others have moved.

  abbrev pub Closed : Place → Type 0
  Closed Q = (h k : Heap) (l : List Value) → Rely p x.me h k → Q h l → Q k l

  moves_on : (b : Bool) (h k : Heap) → Rely p x.me h k → (F : Heap → Type 0) → (b ≡ false → F h → F k) → ((j : Heap) → Moves b p x.me h j → F j) → (j : Heap) → Moves b p x.me k j → F j
  moves_on true h k r F g y = λ j s. y j (rely_composes p x.me h k j r s)
  moves_on false h k r F g y = λ j s. subst F s (g refl (y h refl))

  end_same : {A : Type 0} (e d : End A) (Q : A → Type 0) → d ≡ e → PassesEnd label e Q → PassesEnd label d Q
  end_same {A} e d Q same y = subst (λ (c : End A). PassesEnd label c Q) (sym same) y

  again_closed : (line : ℕ) (invs : List Spec) (n : ℕ) → Closed (Again line invs n)
  again_closed line invs n h k l r y =
      moves_on (specs_read invs) h k r (λ j. Passes label (invariants_at p x f line invs j l n) (λ u. Unit {0}))
      (λ b z. end_same _ _ (λ u. Unit {0}) (invariants_blind p x f h k l line invs n b) z) y

  tested_closed : (line tested : ℕ) (invs : List Spec) (e : Expr) (n m : ℕ) (Q : Place) → Closed Q → Closed (TestedAt line tested invs e n m Q)
  tested_closed line tested invs e n m Q closed h k l r y =
      moves_on (reads e) h k r (λ j. Passes label (eval p (spot x [] tested) j l e n) (λ v. Branch (truth v) (Again line invs m j l) (Q j l)))
      (λ b z. end_mono label (eval p (spot x [] tested) k l e n).end _ _ (λ v. branch_mono (truth v) _ _ _ _ (again_closed line invs m h k l r) (closed h k l r))
      (end_same _ _ (λ v. Branch (truth v) (Again line invs m h l) (Q h l)) (ap (λ (o : Outcome Value). o.end) (sym (eval_blind p (spot x [] tested) h k l e n b))) z)) y

  closes_closed : (line ty : ℕ) (o : Ref) (n : ℕ) (Q : Place) → Closed (Closes line ty o n Q)
  closes_closed line ty o n Q h k l r y = λ j s. y j (rely_composes p x.me h k j r s)

  acts_on : (Q : Place) → Closed Q → (h k : Heap) → Rely p x.me h k → (s : Supply) (e : End (List Value)) → PassesEnd label (map_end (λ l. starting h l s) e) (Goes Q) →
      PassesEnd label (map_end (λ l. starting k l s) e) (Goes Q)
  acts_on Q closed h k r s Misfit y = y
  acts_on Q closed h k r s (Failed n kind line) y = y
  acts_on Q closed h k r s (Gave l) y = closed h k l r y

  mutual
    stmt_closed : (s : Stmt) (n : ℕ) (Q : Place) → Closed Q → Closed (RunsStmt p x f label s n Q)
    stmt_closed (Do line a) n Q closed h k l r y =
        moves_on (action_reads a) h k r (λ j. (choices : List Value) (news : List Ref) → Passes label (act p x choices (Chosen news) line a n j l) (Goes Q))
        (λ b z choices news.
        let t = act_blind p x choices (Chosen news) line a n h k l b in
        end_same _ _ (Goes Q) t.other (acts_on Q closed h k r (Chosen news) t.locals (end_same _ _ (Goes Q) (sym t.first) (z choices news)))) y
    stmt_closed (If' line in_ghost e m a q b) n Q closed h k l r y =
        moves_on (reads e) h k r (λ j. Passes label (eval p (spot x [] line) j l e n) (λ v. Branch (truth v) (RunsRow p x f label a (n + checks e) Q j l)
        (RunsRow p x f label b (n + checks e + row_checks p f a) Q j l)))
        (λ d z. end_mono label (eval p (spot x [] line) k l e n).end _ _ (λ v. branch_mono (truth v) _ _ _ _ (row_closed a (n + checks e) Q closed h k l r)
        (row_closed b (n + checks e + row_checks p f a) Q closed h k l r))
        (end_same _ _ (λ v. Branch (truth v) (RunsRow p x f label a (n + checks e) Q h l) (RunsRow p x f label b (n + checks e + row_checks p f a) Q h l))
        (ap (λ (o : Outcome Value). o.end) (sym (eval_blind p (spot x [] line) h k l e n d))) z)) y
    stmt_closed (While' line invs e m row) n Q closed h k l r y =
        moves_on (specs_read invs.items || reads e) h k r (λ j. Passes label (invariants_at p x f line invs.items j l n) (λ u. LoopFact n line invs.items e row j l Q))
        (λ b z.
        let c = (or_parts (specs_read invs.items) (reads e) b).0 in
        end_mono label (invariants_at p x f line invs.items k l n).end _ _ (λ u w j m t. w j m (turns_back p x f invs.items (row_sets row) h k j l m c r t))
        (end_same _ _ (λ u. LoopFact n line invs.items e row h l Q) (invariants_blind p x f h k l line invs.items n c) z)) y
    stmt_closed (DoWhile' line invs m row tested e) n Q closed h k l r y =
        moves_on (specs_read invs.items) h k r (λ j. Passes label (invariants_at p x f line invs.items j l n) (λ u. DoFact n line invs.items row tested e j l Q))
        (λ b z. end_mono label (invariants_at p x f line invs.items k l n).end _ _ (λ u w j m t. w j m (turns_back p x f invs.items (row_sets row) h k j l m b r t))
        (end_same _ _ (λ u. DoFact n line invs.items row tested e h l Q) (invariants_blind p x f h k l line invs.items n b) z)) y
    stmt_closed (Unwrapping' line ty q e m row) n Q closed h k l r y = λ j s. y j (rely_composes p x.me h k j r s)
    stmt_closed (Call line to c q es) n Q closed h k l r y = λ j s. y j (rely_composes p x.me h k j r s)
    stmt_closed (Return line e) n Q closed h k l r y =
        moves_on (option_reads e || clauses_read f.ensures_.items) h k r (λ j. Passes label (returns p x f line e n j l) (λ u. Unit {0}))
        (λ b z. end_same _ _ (λ u. Unit {0}) (returns_blind p x f h k l line e n b) z) y

    row_closed : {m : _} (row : Row_of-Stmt m) (n : ℕ) (Q : Place) → Closed Q → Closed (RunsRow p x f label row n Q)
    row_closed end_of-Stmt n Q closed h k l r y = closed h k l r y
    row_closed (more_of-Stmt s row) n Q closed h k l r y = stmt_closed s n (RunsRow p x f label row (n + stmt_checks p f s) Q) (row_closed row (n + stmt_checks p f s) Q closed) h k l r y

  -- No local run from here fails the check with this number in what is left of the code, behind which the end of the function has the checks from `last` on.
  module _ (last : ℕ) where
    abbrev pub Fine : List Mark → Place
    Fine [] h l = (k : Heap) → Moves (clauses_read f.ensures_.items) p x.me h k → Passes label (returns p x f f.end None last k l) (λ u. Unit {0})
    Fine (Go n s ∷ ms) h l = RunsStmt p x f label s n (Fine ms) h l
    Fine (Loop n line invs e m row began first ∷ ms) h l = Again line invs.items (n + length invs.items + checks e + row_checks p f row) h l × LoopFact n line invs.items e row began first (Fine ms)
    Fine (Do_test n line invs m row tested e began first ∷ ms) h l =
        TestedAt line tested invs.items e (n + length invs.items + row_checks p f row) (n + length invs.items + row_checks p f row + checks e) (Fine ms) h l × DoFact n line invs.items row
        tested e began first (Fine ms)
    Fine (Do_again n line invs m row tested e began first ∷ ms) h l = Again line invs.items (n + length invs.items + row_checks p f row + checks e) h l × DoFact n line invs.items row tested
        e began first (Fine ms)
    Fine (Closing n line ty o ∷ ms) h l = Closes line ty o n (Fine ms) h l

    pub fine_closed : (ms : List Mark) → Closed (Fine ms)
    fine_closed [] h k l r y =
        moves_on (clauses_read f.ensures_.items) h k r (λ j. Passes label (returns p x f f.end None last j l) (λ u. Unit {0}))
        (λ b z. end_same _ _ (λ u. Unit {0}) (returns_blind p x f h k l f.end None last b) z) y
    fine_closed (Go n s ∷ ms) h k l r y = stmt_closed s n (Fine ms) (fine_closed ms) h k l r y
    fine_closed (Loop n line invs e m row began first ∷ ms) h k l r y = (again_closed line invs.items (n + length invs.items + checks e + row_checks p f row) h k l r y.0, y.1)
    fine_closed (Do_test n line invs m row tested e began first ∷ ms) h k l r y =
        (tested_closed line tested invs.items e (n + length invs.items + row_checks p f row) (n + length invs.items + row_checks p f row + checks e) (Fine ms) (fine_closed ms) h k l r y.0, y.1)
    fine_closed (Do_again n line invs m row tested e began first ∷ ms) h k l r y = (again_closed line invs.items (n + length invs.items + row_checks p f row + checks e) h k l r y.0, y.1)
    fine_closed (Closing n line ty o ∷ ms) h k l r y = closes_closed line ty o n (Fine ms) h k l r y

-- a body's statements, and where its checks end
abbrev pub gos : (p : Program) (f : FunctionInfo) {m : _} → Row_of-Stmt m → ℕ → List Mark
gos p f end_of-Stmt n = []
gos p f (more_of-Stmt s row) n = Go n s ∷ gos p f row (n + stmt_checks p f s)

abbrev pub all_gos : Program → FunctionInfo → List Stmt → ℕ → List Mark
all_gos p f [] n = []
all_gos p f (s ∷ ss) n = Go n s ∷ all_gos p f ss (n + stmt_checks p f s)

abbrev pub end_number : Program → FunctionInfo → List Stmt → ℕ → ℕ
end_number p f [] n = n
end_number p f (s ∷ ss) n = end_number p f ss (n + stmt_checks p f s)

module _ (p : Program) (x : Context) (f : FunctionInfo) (label : ℕ) where
  pub row_fine : {m : _} (row : Row_of-Stmt m) (n last : ℕ) (Q : Place) (ms : List Mark) → ((h : Heap) (l : List Value) → Q h l → Fine p x f label last ms h l) →
      (h : Heap) (l : List Value) → RunsRow p x f label row n Q h l → Fine p x f label last (gos p f row n ++ ms) h l
  row_fine end_of-Stmt n last Q ms F h l y = F h l y
  row_fine (more_of-Stmt s row) n last Q ms F h l y = stmt_mono p x f label s n (RunsRow p x f label row (n + stmt_checks p f s) Q)
      (Fine p x f label last (gos p f row (n + stmt_checks p f s) ++ ms)) (row_fine row (n + stmt_checks p f s) last Q ms F) h l y

  pub body_fine : (ss : List Stmt) (n : ℕ) (h : Heap) (l : List Value) → RunsBody p x f label ss n h l → Fine p x f label (end_number p f ss n) (all_gos p f ss n) h l
  body_fine [] n h l y = y
  body_fine (s ∷ ss) n h l y = stmt_mono p x f label s n (RunsBody p x f label ss (n + stmt_checks p f s))
      (Fine p x f label (end_number p f ss (n + stmt_checks p f s)) (all_gos p f ss (n + stmt_checks p f s))) (body_fine ss (n + stmt_checks p f s)) h l y

pub erase_row : (p : Program) (f : FunctionInfo) {m : _} (row : Row_of-Stmt m) (n : ℕ) (ms : List Mark) → map erase (gos p f row n ++ ms) ≡ map Run (items-the_row-Stmt m row) ++ map erase ms
erase_row p f end_of-Stmt n ms = refl
erase_row p f (more_of-Stmt s row) n ms = ap (λ rs. Run s ∷ rs) (erase_row p f row (n + stmt_checks p f s) ms)

pub erase_body : (p : Program) (f : FunctionInfo) (ss : List Stmt) (n : ℕ) → map erase (all_gos p f ss n) ≡ map Run ss
erase_body p f [] n = refl
erase_body p f (s ∷ ss) n = ap (λ rs. Run s ∷ rs) (erase_body p f ss (n + stmt_checks p f s))
