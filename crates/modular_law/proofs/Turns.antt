-- One turn of a thread, by what stands in front of its code.
use Rattle.std.proofs.Common.{◌≡◌, ℕ, ◌+◌, Bool, true, false, ◌||◌, ◌&&◌, ◌==◌, List, [], ◌∷◌, ◌++◌, map, length, Option, Some, None, refl, sym, ◌∙◌, subst, IsTrue, pos}
use Rattle.std.specs.Prelude.{Vec, if◌then◌else◌}
use Rattle.std.specs.declared.alloc.Global.{Global}
use Rattle.std.proofs.lemmas.Bool.{both_ways}
use Rattle.object_types.specs.declared.references.Ref.{Ref}
use Rattle.object_types.specs.declared.values.Value.{Value}
use Rattle.object_types.specs.declared.values.Value.TheVariants.{Int}
use Rattle.method.specs.declared.program.CheckKind.TheVariants.{Ensures, LoopInv}
use Rattle.method.specs.declared.program.Expr.{Expr}
use Rattle.method.specs.declared.program.Spec.{Spec}
use Rattle.method.specs.declared.program.Action.{Action}
use Rattle.method.specs.declared.program.Action.TheVariants.{Simply, Declare, Define, WrapObject, UnwrapObject, AssertSpec, FreeObject, SpawnThread, Atomic}
use Rattle.method.specs.declared.program.Stmt.{Row_of-Stmt, items-the_row-Stmt}
use Rattle.method.specs.declared.program.Stmt.TheVariants.{Do, If', While', DoWhile', Unwrapping', Call, Return}
use Rattle.method.specs.declared.program.FunctionInfo.{FunctionInfo}
use Rattle.method.specs.declared.program.Program.{Program}
use Rattle.object_types.specs.Values.{referent, truth}
use Rattle.object_types.specs.Heap.{Heap}
use Rattle.method.specs.Tables.{is_struct}
use Rattle.method.specs.Legal.{Good}
use Rattle.method.specs.Rely.{Frame}
use Rattle.method.specs.Expressions.{Gave, Outcome, Gives, after, Context, check_specs, checks, eval, scene, return_scene, spec_test, clause_tests}
use Rattle.method.specs.Actions.{Supply, Chosen, Progress, spot, starting, act, unwrap_object, wrap_object, no_choices}
use Rattle.method.specs.Machine.{Remaining, Run, Test, WrapAgain, Activation, Turn, went, invariants, action_turn, moved, resume, return_turn, ensured, value_of, turn_of, end_line}
use Rattle.method.specs.Text.{reads, option_reads, specs_read, clauses_read, action_reads, row_sets, row_checks, action_sets, option_checks}
use Rattle.method.specs.LocalRuns.{Turns, invariants_at, all_hold_at, of_type, AllLocalOk}
use Rattle.method.specs.SafeRuns.{Passes, Branch, RunsRow}
use Rattle.method.specs.Typing.{WellTyped, stmt_ok, row_ok, is_test, is_pointer}
use Rattle.method.proofs.Global.{and_both}
use Rattle.modular_law.specs.Respect.{Respects, Actor, ActionsRespect}
use Rattle.modular_law.specs.Respect.{Fits}
use Rattle.modular_law.proofs.Facts.{has_no_value}
use Rattle.modular_law.proofs.Typing.{act_fits, wrap_fits, unwrap_fits, result_typed}
use Rattle.modular_law.proofs.Ends.{Both, Alike, ends_mono}
use Rattle.modular_law.proofs.Walks.{sub_left, sub_right, Ready, Went}
use Rattle.modular_law.proofs.Supplies.{Same, lend}
use Rattle.modular_law.proofs.Numbers.{eval_alike, gives_same}
use Rattle.modular_law.proofs.Blocks.{Acted, spawns, went_acted, closed_unopened, act_sim, wrap_both, unwrap_both}
use Rattle.modular_law.proofs.Frames.{frame_rests}
use Rattle.modular_law.proofs.Declared.{fit_ranges, row_declared}
use Rattle.modular_law.proofs.Marks.{end_mono, Mark, Go, Loop, Do_test, Do_again, Closing, Rows, erase, Again, TestedAt, Closes, LoopFact, DoFact, Fine, gos, row_fine, erase_row}
use Rattle.modular_law.proofs.Threads.{Covered, covered_sub, covered_none, ends_well, ends_gos, unchanged, Looped, Held, held_on, held_entry, row_held, below_on, spared_frame}
use Rattle.modular_law.proofs.GoodTurns.{AllStart, GoodTurn, stays, moves, passes_after, pass, pass_value, pass_fitting, pass_specs, every_specs, every_clauses, Running, stay, older_now}
use Rattle.modular_law.proofs.Resumes.{resume_ok}
use Rattle.modular_law.proofs.Receivers.{points_to}
use Rattle.modular_law.proofs.Calls.{call_ok}
use Rattle.modular_law.proofs.Spawns.{spawn_starts}

module _ (p : Program) (wt : WellTyped p) (local : AllLocalOk p) (last : ℕ) {t : ℕ} {h : Heap} {a : Activation} {f : FunctionInfo} {below : List Activation} {supply : Supply}
    (here : Running p t h a f below supply) where
  abbrev x : Context
  x = a.context

  abbrev FineAll : List Mark → Type 0
  FineAll ms = (label : ℕ) → Fine p x f label last ms h a.locals

  acting : Actor p x f supply h a.locals
  acting = record { is = here.is; number = t; me = here.me; older = older_now p here; entry = here.entry; good = here.good; fits = here.fits }

  ready : Ready x.me (starting h a.locals supply)
  ready = record { finite = here.good.well_formed.heap_of.finite; above = here.above }

  -- the heap stays, and the function goes on with this
  keep : (line : ℕ) (ms : List Mark) (cs : List Remaining) → map erase ms ≡ cs → FineAll ms → Held p x f ms h a.locals → ends_well f ms ≡ true →
      GoodTurn p supply t h (Gives (moved p line a cs below h))
  keep line ms cs e fine held ends = record {
    ends = (
      λ acts. stays p supply t h here.good _ _ _,
      λ known. record {
        frames = (record { info = f; is = here.is; me = here.me; good = here.entry; marks = ms; last = last; code = e; fine = fine; held = held; ends = ends; fits = here.fits }, here.waits);
        started = tt;
        unopened = λ o c z. closed_unopened (h.get o).mode c;
      },
    );
  }

  -- an action, an unwrap or a wrap
  acted_turn : (line : ℕ) (ms : List Mark) (cs : List Remaining) (set : List ℕ) (sp : Bool) (rest : List Ref) (o o' : Outcome Progress) → map erase ms ≡ cs →
      Both (Same lend (Acted x.me set sp (starting h a.locals supply)) rest) o o' → ((label : ℕ) → Passes label o' (λ g. Fine p x f label last ms g.heap g.locals)) → Covered set ms →
      Held p x f ms h a.locals → ends_well f ms ≡ true → ((g : Progress) → o.end ≡ Gave g → Acted x.me set sp (starting h a.locals supply) g → Good p g.heap →
      AllStart p g.heap g.started) → ((g : Progress) → o.end ≡ Gave g → Fits f g.locals) → (ActionsRespect p → (g : Progress) → o.end ≡ Gave g → Respects p x supply h g.heap) →
      GoodTurn p supply t h (action_turn p line a cs below o)
  acted_turn line ms cs set sp rest o o' e both passes covered held ends starts then_fits passed =
      pass p supply t h (Same lend (Acted x.me set sp (starting h a.locals supply)) rest) (λ label g. Fine p x f label last ms g.heap g.locals) o o'
      (λ g. Gives (record { heap = g.heap; frames = went a g.locals cs ∷ below; started = g.started; line = line })) both passes
      (λ g b gave same fine. record {
        ends = (
          λ acts. moves p supply t h g.heap (went a g.locals cs) below g.started line here.me (passed acts g gave),
          λ known.
              let fine_here : (label : ℕ) → Fine p x f label last ms g.heap g.locals = λ label. subst (λ (k : Progress). Fine p x f label last ms k.heap k.locals) same.1 (fine label) in
              record {
                frames = (
                  record {
                    info = f;
                    is = here.is;
                    me = here.me;
                    good = here.entry;
                    marks = ms;
                    last = last;
                    code = e;
                    fine = fine_here;
                    held = held_on p x f ms set h g.heap a.locals g.locals (spared_frame p t h g.heap x x here.me (λ q n. n) here.entry.well_formed.heap_of known.spares)
                        (record { size = same.0.size; others = same.0.others }) covered held;
                    ends = ends;
                    fits = then_fits g gave;
                  },
                  below_on p t h g.heap x x below (λ q n. n) known.spares here.waits,
                );
                started = starts g gave same.0 known.good;
                unopened = same.0.unopened;
              },
        );
      })

  -- no thread starts
  none_start : (set : List ℕ) (g : Progress) → Acted x.me set false (starting h a.locals supply) g → AllStart p g.heap g.started
  none_start set g acted = subst (λ ys. AllStart p g.heap ys) (sym (acted.started refl)) tt

  if_turn : (line : ℕ) (b : Bool) (u v : _) (then_row : Row_of-Stmt u) (else_row : Row_of-Stmt v) (i j : ℕ) (ms : List Mark) → row_ok p f x.function then_row ≡ true →
      row_ok p f x.function else_row ≡ true → Covered (row_sets then_row) ms → Covered (row_sets else_row) ms → Held p x f ms h a.locals → ends_well f ms ≡ true →
      ((label : ℕ) → Branch b (RunsRow p x f label then_row i (Fine p x f label last ms) h a.locals) (RunsRow p x f label else_row j (Fine p x f label last ms) h a.locals)) →
      GoodTurn p supply t h (Gives (moved p line a (map Run (if b then items-the_row-Stmt _ then_row else items-the_row-Stmt _ else_row) ++ map erase ms) below h))
  if_turn line true u v then_row else_row i j ms ok ok' c c' held ends runs =
      keep line (gos p f then_row i ++ ms) _ (erase_row p f then_row i ms) (λ label. row_fine p x f label then_row i last (Fine p x f label last ms) ms (λ k l y. y) h a.locals (runs label))
      (row_held p x f then_row i ms h a.locals ok c held) (ends_gos p f then_row i ms ends)
  if_turn line false u v then_row else_row i j ms ok ok' c c' held ends runs =
      keep line (gos p f else_row j ++ ms) _ (erase_row p f else_row j ms) (λ label. row_fine p x f label else_row j last (Fine p x f label last ms) ms (λ k l y. y) h a.locals (runs label))
      (row_held p x f else_row j ms h a.locals ok' c' held) (ends_gos p f else_row j ms ends)

  -- a turn of a loop
  turn_now : {q : _} (row : Row_of-Stmt q) (invs : List Spec) (began : Heap) (first : List Value) → Looped p x f (row_sets row) invs began first h a.locals →
      row_ok p f x.function row ≡ true → IsTrue (all_hold_at p x f invs h a.locals) → Turns p x f invs (row_sets row) began h first a.locals
  turn_now row invs began first looped ok now = record {
    first = looped.held;
    havoc = record { size = looped.changed.size; ranges = fit_ranges f a.locals here.fits (row_sets row) (row_declared p f x.function row ok); others = looped.changed.others };
    frame = looped.frame;
    holds = now;
  }

  starts_loop : (set : List ℕ) (invs : List Spec) → IsTrue (all_hold_at p x f invs h a.locals) → Looped p x f set invs h a.locals h a.locals
  starts_loop set invs now = record { held = now; changed = unchanged set a.locals; frame = frame_rests p x.me h x.entry x.writes here.entry.well_formed.heap_of here.good }

  -- the invariants that a local run checks hold
  invariants_turn : (line : ℕ) (invs : List Spec) (m : ℕ) (Q : ℕ → Type 0) (o : Outcome Turn) → ((label : ℕ) → Passes label (invariants_at p x f line invs h a.locals m) (λ u. Q label)) →
      (IsTrue (all_hold_at p x f invs h a.locals) → ((label : ℕ) → Q label) → GoodTurn p supply t h o) → GoodTurn p supply t h (invariants p (spot x [] line) invs h a.locals 0 o)
  invariants_turn line invs m Q o y next =
      pass_specs p supply t h (spot x [] line) LoopInv (λ label (u : Unit {0}). Q label) o (Gives tt) (map (λ e. spec_test p e (scene x h a.locals)) invs) 0 m y
      (λ all q. next (sym (every_specs p (scene x h a.locals) invs) ∙ all) q)

  module _ (n line : ℕ) (invs : Vec Spec Global) (e : Expr) (m : Vec (Unit {0}) Global) (row : Rows m) (began : Heap) (first : List Value) (ms : List Mark) where
    abbrev again : Mark
    again = Loop n line invs e m row began first

    loop_branch : (b : Bool) → Looped p x f (row_sets row) invs.items began first h a.locals → row_ok p f x.function row ≡ true → Covered (row_sets row) ms → Held p x f ms h a.locals →
        ends_well f ms ≡ true → ((label : ℕ) → LoopFact p x f label n line invs.items e row began first (Fine p x f label last ms)) →
        ((label : ℕ) → Branch b (RunsRow p x f label row (n + length invs.items + checks e) (Again p x f label line invs.items (n + length invs.items + checks e + row_checks p f row)) h
        a.locals) (Fine p x f label last ms h a.locals)) →
        GoodTurn p supply t h (Gives (moved p line a (if b then map Run (items-the_row-Stmt _ row) ++ Run (While' line invs e m row) ∷ map erase ms else map erase ms) below h))
    loop_branch true looped ok c held ends fact runs =
        keep line (gos p f row (n + length invs.items + checks e) ++ again ∷ ms) _ (erase_row p f row (n + length invs.items + checks e) (again ∷ ms))
        (λ label. row_fine p x f label row (n + length invs.items + checks e) last (Again p x f label line invs.items (n + length invs.items + checks e + row_checks p f row)) (again ∷ ms)
        (λ k l y. (y, fact label)) h a.locals (runs label))
        (row_held p x f row (n + length invs.items + checks e) (again ∷ ms) h a.locals ok ((λ i o. o), c) (looped, ok, c, held)) (ends_gos p f row (n + length invs.items + checks e) (again ∷ ms) ends)
    loop_branch false looped ok c held ends fact runs = keep line ms _ refl runs held ends

    loop_go : Looped p x f (row_sets row) invs.items began first h a.locals → row_ok p f x.function row ≡ true → Covered (row_sets row) ms → Held p x f ms h a.locals →
        ends_well f ms ≡ true → IsTrue (all_hold_at p x f invs.items h a.locals) → ((label : ℕ) → LoopFact p x f label n line invs.items e row began first (Fine p x f label last ms)) →
        GoodTurn p supply t h (after (eval p (spot x [] line) h a.locals e 0)
        (λ v. Gives (moved p line a (if truth v then map Run (items-the_row-Stmt _ row) ++ Run (While' line invs e m row) ∷ map erase ms else map erase ms) below h)))
    loop_go looped ok c held ends now fact =
        pass_value p supply t h (λ label v. Branch (truth v) (RunsRow p x f label row (n + length invs.items + checks e)
        (Again p x f label line invs.items (n + length invs.items + checks e + row_checks p f row)) h a.locals) (Fine p x f label last ms h a.locals))
        (eval p (spot x [] line) h a.locals e 0) (eval p (spot x [] line) h a.locals e (n + length invs.items)) _ (eval_alike p (spot x [] line) h a.locals e 0 (n + length invs.items))
        (λ label. fact label h a.locals (turn_now row invs.items began first looped ok now))
        (λ v gave runs. loop_branch (truth v) looped ok c held ends fact runs)

  module _ (n line : ℕ) (invs : Vec Spec Global) (m : Vec (Unit {0}) Global) (row : Rows m) (tested : ℕ) (e : Expr) (began : Heap) (first : List Value) (ms : List Mark) where
    abbrev do_test : Mark
    do_test = Do_test n line invs m row tested e began first

    do_go : Looped p x f (row_sets row) invs.items began first h a.locals → row_ok p f x.function row ≡ true → Covered (row_sets row) ms → Held p x f ms h a.locals → ends_well f ms ≡ true →
        IsTrue (all_hold_at p x f invs.items h a.locals) → ((label : ℕ) → DoFact p x f label n line invs.items row tested e began first (Fine p x f label last ms)) →
        GoodTurn p supply t h (Gives (moved p line a (map Run (items-the_row-Stmt _ row) ++ Test tested e (DoWhile' line invs m row tested e) ∷ map erase ms) below h))
    do_go looped ok c held ends now fact =
        keep line (gos p f row (n + length invs.items) ++ do_test ∷ ms) _ (erase_row p f row (n + length invs.items) (do_test ∷ ms))
        (λ label. row_fine p x f label row (n + length invs.items) last (TestedAt p x f label line tested invs.items e (n + length invs.items + row_checks p f row)
        (n + length invs.items + row_checks p f row + checks e) (Fine p x f label last ms)) (do_test ∷ ms) (λ k l y. (y, fact label)) h a.locals
        (fact label h a.locals (turn_now row invs.items began first looped ok now)))
        (row_held p x f row (n + length invs.items) (do_test ∷ ms) h a.locals ok ((λ i o. o), c) (looped, ok, c, held)) (ends_gos p f row (n + length invs.items) (do_test ∷ ms) ends)

    do_branch : (b : Bool) → Held p x f (do_test ∷ ms) h a.locals → ends_well f ms ≡ true →
        ((label : ℕ) → DoFact p x f label n line invs.items row tested e began first (Fine p x f label last ms)) →
        ((label : ℕ) → Branch b (Again p x f label line invs.items (n + length invs.items + row_checks p f row + checks e) h a.locals) (Fine p x f label last ms h a.locals)) →
        GoodTurn p supply t h (Gives (moved p tested a (if b then Run (DoWhile' line invs m row tested e) ∷ map erase ms else map erase ms) below h))
    do_branch true held ends fact runs = keep tested (Do_again n line invs m row tested e began first ∷ ms) _ refl (λ label. (runs label, fact label)) held ends
    do_branch false held ends fact runs = keep tested ms _ refl runs held.3 ends

  -- the value goes to the function that waits, or the thread ends
  returned_ok : (line : ℕ) (v : Value) (m : ℕ) →
      ((label : ℕ) → Passes label (check_specs (spot x [] line) (ensured p (Some f) (return_scene x h v)) m Ensures (Gives tt)) (λ (u : Unit {0}). Unit {0})) →
      Frame p x.me x.entry h x.entry x.writes → IsTrue (of_type f.result v) → GoodTurn p supply t h (return_turn p line v a below h)
  returned_ok line v m passes frame range =
      subst (λ o. GoodTurn p supply t h (check_specs (spot x [] line) (ensured p o (return_scene x h v)) 0 Ensures (resume p line v below h))) (sym here.is)
      (pass_specs p supply t h (spot x [] line) Ensures (λ label (u : Unit {0}). Unit {0}) (resume p line v below h) (Gives tt) (clause_tests p f.ensures_.items (return_scene x h v)) 0 m passes
      (λ all q. resume_ok p wt supply t (older_now p here) h here.good line v x f here.is frame range (every_clauses p (return_scene x h v) f.ensures_.items all) below here.waits))

  no_value : (r : _) → has_no_value r ≡ true → IsTrue (of_type r (Int (pos 0)))
  no_value None e = refl
  no_value (Some ty) e = absurd (both_ways false refl e)

  value_alike : (line : ℕ) (e : Option Expr) (n m : ℕ) → Alike (value_of p (spot x [] line) e h a.locals n) (value_of p (spot x [] line) e h a.locals m)
  value_alike line None n m = gives_same _
  value_alike line (Some e) n m = eval_alike p (spot x [] line) h a.locals e n m

  -- The turn.

  do_starts : (choices : List Value) (line : ℕ) (b : Action) (set : List ℕ) → IsTrue (stmt_ok p f x.function (Do line b)) → (g : Progress) →
      (act p x choices supply line b 0 h a.locals).end ≡ Gave g → Acted x.me set (spawns b) (starting h a.locals supply) g → Good p g.heap → AllStart p g.heap g.started
  do_starts choices line (Simply s) set ok g e acted good' = none_start set g acted
  do_starts choices line (Declare i) set ok g e acted good' = none_start set g acted
  do_starts choices line (Define i r) set ok g e acted good' = none_start set g acted
  do_starts choices line (WrapObject ty q u) set ok g e acted good' = none_start set g acted
  do_starts choices line (UnwrapObject u) set ok g e acted good' = none_start set g acted
  do_starts choices line (AssertSpec u) set ok g e acted good' = none_start set g acted
  do_starts choices line (FreeObject u) set ok g e acted good' = none_start set g acted
  do_starts choices line (SpawnThread k es) set ok g e acted good' = spawn_starts p wt local last here choices line k es g ok e good'
  do_starts choices line (Atomic ls body) set ok g e acted good' = none_start set g acted

  do_turn : (choices : List Value) (n line : ℕ) (b : Action) (ms : List Mark) → FineAll (Go n (Do line b) ∷ ms) → Held p x f (Go n (Do line b) ∷ ms) h a.locals → ends_well f ms ≡ true →
      GoodTurn p supply t h (action_turn p line a (map erase ms) below (act p x choices supply line b 0 h a.locals))
  do_turn choices n line b ms fine held ends =
      let choice = (act_sim p x choices supply line b 0 n h a.locals here.good.well_formed.heap_of.finite here.above).choice [] in
      acted_turn line ms (map erase ms) (action_sets b) (spawns b) [] (act p x choices supply line b 0 h a.locals) (act p x choices (Chosen choice.0) line b n h a.locals) refl choice.1
      (λ label. fine label h (stay p here (action_reads b)) choices choice.0) held.1 held.2 ends (do_starts choices line b (action_sets b) held.0)
      (λ g gave. act_fits p wt x f here.is t here.me h here.good a.locals here.fits choices supply line b 0 g held.0 gave)
      (λ acts g gave. acts.acts x f supply h a.locals acting choices line b 0 g held.0 gave)

  close_turn : (n line ty : ℕ) (o : Ref) (ms : List Mark) → FineAll (Closing n line ty o ∷ ms) → Held p x f (Closing n line ty o ∷ ms) h a.locals → ends_well f ms ≡ true →
      GoodTurn p supply t h (action_turn p line a (map erase ms) below (wrap_object p (spot x [] line) ty o 0 (starting h a.locals supply)))
  close_turn n line ty o ms fine held ends =
      let at_ = spot x [] line in
      let g = starting h a.locals supply in
      acted_turn line ms (map erase ms) [] false [] (wrap_object p at_ ty o 0 g) (wrap_object p at_ ty o n (lend [] g)) refl
      (record {
        ends = ends_mono (Same lend (λ (k : Progress). Went x.me [] g k) []) (Same lend (Acted x.me [] false g) []) (wrap_object p at_ ty o 0 g).end
            (wrap_object p at_ ty o n (lend [] g)).end (λ k j y. (went_acted x.me [] false g k y.0, y.1)) (wrap_both p at_ [] ty o 0 n g ready []).ends;
      })
      (λ label. fine label h (stay p here true)) (covered_none ms) held.2 ends (λ k e acted good'. none_start [] k acted)
      (λ k gave. wrap_fits p wt x f here.is t here.me h here.good a.locals here.fits supply line ty o 0 k held.0 held.1 gave)
      (λ acts k gave. acts.wraps x f supply h a.locals acting line ty o 0 k held.0 held.1 gave)

  open_turn : (n line ty q : ℕ) (e : Expr) (m : Vec (Unit {0}) Global) (row : Rows m) (ms : List Mark) → FineAll (Go n (Unwrapping' line ty q e m row) ∷ ms) →
      Held p x f (Go n (Unwrapping' line ty q e m row) ∷ ms) h a.locals → ends_well f ms ≡ true →
      GoodTurn p supply t h (after (eval p (spot x [] line) h a.locals e 0)
      (λ v. action_turn p line a (map Run (items-the_row-Stmt _ row) ++ WrapAgain line ty (referent v) ∷ map erase ms) below
      (unwrap_object p (spot x [] line) (referent v) 0 (starting h a.locals supply))))
  open_turn n line ty q e m row ms fine held ends =
      let at_ = spot x [] line in
      let g = starting h a.locals supply in
      let behind = n + checks e + 3 in
      let wrap_number = n + checks e + 3 + row_checks p f row in
      let struct = and_both (is_struct p ty) (is_pointer p f (λ n. n == ty) e && row_ok p f x.function row) held.0 in
      let pointer = and_both (is_pointer p f (λ n. n == ty) e) (row_ok p f x.function row) struct.1 in
      pass_value p supply t h (λ label v. Passes label (unwrap_object p at_ (referent v) (n + checks e) (starting h a.locals (Chosen [])))
      (λ k. RunsRow p x f label row behind (Closes p x f label line ty (referent v) wrap_number (Fine p x f label last ms)) k.heap k.locals))
      (eval p at_ h a.locals e 0) (eval p at_ h a.locals e n) _ (eval_alike p at_ h a.locals e 0 n) (λ label. fine label h (stay p here true))
      (λ v gave runs.
      let close = Closing wrap_number line ty (referent v) in
      acted_turn line (gos p f row behind ++ close ∷ ms) _ [] false [] (unwrap_object p at_ (referent v) 0 g) (unwrap_object p at_ (referent v) (n + checks e) (lend [] g))
      (erase_row p f row behind (close ∷ ms))
      (unwrap_both p at_ [] (referent v) 0 (n + checks e) g ready [])
      (λ label. end_mono label (unwrap_object p at_ (referent v) (n + checks e) (lend [] g)).end _ _
      (λ k. row_fine p x f label row behind last (Closes p x f label line ty (referent v) wrap_number (Fine p x f label last ms)) (close ∷ ms) (λ j l y. y) k.heap k.locals) (runs label))
      (covered_none (gos p f row behind ++ close ∷ ms)) (row_held p x f row behind (close ∷ ms) h a.locals pointer.1 held.1
      (struct.0, points_to p wt here line e ty v pointer.0 gave, held.2)) (ends_gos p f row behind (close ∷ ms) ends) (λ k e acted good'. none_start [] k acted)
      (λ k opened. unwrap_fits p wt x f here.is t here.me h here.good a.locals here.fits supply line ty (referent v) 0 k struct.0 (points_to p wt here line e ty v pointer.0 gave) opened)
      (λ acts k opened. acts.unwraps x f supply h a.locals acting line ty (referent v) 0 k struct.0 (points_to p wt here line e ty v pointer.0 gave) opened))

  pub turn : (choices : List Value) (ms : List Mark) → FineAll ms → Held p x f ms h a.locals → ends_well f ms ≡ true → GoodTurn p supply t h (turn_of p supply choices a (map erase ms) below h)
  turn choices [] fine held ends =
      pass_fitting p supply t h (no_choices choices) _ (subst (λ o. GoodTurn p supply t h (return_turn p (end_line o) (Int (pos 0)) a below h)) (sym here.is)
      (returned_ok f.end (Int (pos 0)) (last + 0) (λ label. fine label h (stay p here (clauses_read f.ensures_.items))) held (no_value f.result ends)))
  turn choices (Go n (Do line b) ∷ ms) fine held ends = do_turn choices n line b ms fine held ends
  turn choices (Go n (If' line in_ghost e m then_row q else_row) ∷ ms) fine held ends =
      let oks = and_both (row_ok p f x.function then_row) (row_ok p f x.function else_row) (and_both (is_test p f e) (row_ok p f x.function then_row && row_ok p f x.function else_row) held.0).1 in
      pass_fitting p supply t h (no_choices choices) _
      (pass_value p supply t h (λ label v. Branch (truth v) (RunsRow p x f label then_row (n + checks e) (Fine p x f label last ms) h a.locals)
      (RunsRow p x f label else_row (n + checks e + row_checks p f then_row) (Fine p x f label last ms) h a.locals))
      (eval p (spot x [] line) h a.locals e 0) (eval p (spot x [] line) h a.locals e n) _ (eval_alike p (spot x [] line) h a.locals e 0 n) (λ label. fine label h (stay p here (reads e)))
      (λ v gave runs. if_turn line (truth v) _ _ then_row else_row (n + checks e) (n + checks e + row_checks p f then_row) ms oks.0 oks.1
      (covered_sub (row_sets then_row) _ ms (sub_left (row_sets then_row) (row_sets else_row) _ (λ i o. o)) held.1)
      (covered_sub (row_sets else_row) _ ms (sub_right (row_sets then_row) (row_sets else_row) _ (λ i o. o)) held.1) held.2 ends runs))
  turn choices (Go n (While' line invs e m row) ∷ ms) fine held ends =
      let ok = (and_both (is_test p f e) (row_ok p f x.function row) held.0).1 in
      pass_fitting p supply t h (no_choices choices) _
      (invariants_turn line invs.items n (λ label. LoopFact p x f label n line invs.items e row h a.locals (Fine p x f label last ms)) _
      (λ label. fine label h (stay p here (specs_read invs.items || reads e)))
      (λ now fact. loop_go n line invs e m row h a.locals ms (starts_loop (row_sets row) invs.items now) ok held.1 held.2 ends now fact))
  turn choices (Go n (DoWhile' line invs m row tested e) ∷ ms) fine held ends =
      let ok = (and_both (is_test p f e) (row_ok p f x.function row) held.0).1 in
      pass_fitting p supply t h (no_choices choices) _
      (invariants_turn line invs.items n (λ label. DoFact p x f label n line invs.items row tested e h a.locals (Fine p x f label last ms)) _
      (λ label. fine label h (stay p here (specs_read invs.items)))
      (λ now fact. do_go n line invs m row tested e h a.locals ms (starts_loop (row_sets row) invs.items now) ok held.1 held.2 ends now fact))
  turn choices (Go n (Unwrapping' line ty q e m row) ∷ ms) fine held ends = pass_fitting p supply t h (no_choices choices) _ (open_turn n line ty q e m row ms fine held ends)
  turn choices (Go n (Call line to c q es) ∷ ms) fine held ends = pass_fitting p supply t h (no_choices choices) _ (call_ok p wt local last here line to c q es n ms held.0 held.1 held.2 ends fine)
  turn choices (Go n (Return line e) ∷ ms) fine held ends =
      pass_fitting p supply t h (no_choices choices) _
      (pass_value p supply t h (λ label v. Passes label (check_specs (spot x [] line) (ensured p (Some f) (return_scene x h v)) (n + option_checks e) Ensures (Gives tt)) (λ (u : Unit {0}). Unit {0}))
      (value_of p (spot x [] line) e h a.locals 0) (value_of p (spot x [] line) e h a.locals n) _ (value_alike line e 0 n)
      (λ label. passes_after label (value_of p (spot x [] line) e h a.locals n).overflow (value_of p (spot x [] line) e h a.locals n).end _ _
      (fine label h (stay p here (option_reads e || clauses_read f.ensures_.items))))
      (λ v gave runs. returned_ok line v (n + option_checks e) runs (held_entry p x f ms h a.locals held.2)
      (result_typed p wt x f here.is t here.me h here.good a.locals here.fits line e 0 v held.0 gave)))
  turn choices (Loop n line invs e m row began first ∷ ms) fine held ends =
      pass_fitting p supply t h (no_choices choices) _
      (invariants_turn line invs.items (n + length invs.items + checks e + row_checks p f row) (λ label. Unit {0}) _ (λ label. (fine label).0 h (stay p here (specs_read invs.items)))
      (λ now u. loop_go n line invs e m row began first ms held.0 held.1 held.2 held.3 ends now (λ label. (fine label).1)))
  turn choices (Do_test n line invs m row tested e began first ∷ ms) fine held ends =
      let number = n + length invs.items + row_checks p f row in
      pass_fitting p supply t h (no_choices choices) _
      (pass_value p supply t h (λ label v. Branch (truth v) (Again p x f label line invs.items (number + checks e) h a.locals) (Fine p x f label last ms h a.locals))
      (eval p (spot x [] tested) h a.locals e 0) (eval p (spot x [] tested) h a.locals e number) _ (eval_alike p (spot x [] tested) h a.locals e 0 number)
      (λ label. (fine label).0 h (stay p here (reads e)))
      (λ v gave runs. do_branch n line invs m row tested e began first ms (truth v) held ends (λ label. (fine label).1) runs))
  turn choices (Do_again n line invs m row tested e began first ∷ ms) fine held ends =
      pass_fitting p supply t h (no_choices choices) _
      (invariants_turn line invs.items (n + length invs.items + row_checks p f row + checks e) (λ label. Unit {0}) _ (λ label. (fine label).0 h (stay p here (specs_read invs.items)))
      (λ now u. do_go n line invs m row tested e began first ms held.0 held.1 held.2 held.3 ends now (λ label. (fine label).1)))
  turn choices (Closing n line ty o ∷ ms) fine held ends = pass_fitting p supply t h (no_choices choices) _ (close_turn n line ty o ms fine held ends)
