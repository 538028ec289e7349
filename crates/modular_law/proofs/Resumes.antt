-- A function that waited for a call goes on with its value.
use Rattle.std.proofs.Common.{◌≡◌, ℕ, ◌+◌, Bool, true, false, cond, ◌||◌, ◌&&◌, List, [], ◌∷◌, map, Option, Some, None, slice_get, slice_set, refl, sym, ◌∙◌, subst, IsTrue, IsFalse, not}
use Rattle.std.proofs.lemmas.Option.{same_Some}
use Rattle.object_types.specs.declared.references.Ref.{Ref}
use Rattle.object_types.specs.declared.values.Value.{Value}
use Rattle.method.specs.Tables.{is_approved}
use Rattle.method.specs.declared.program.CheckKind.TheVariants.{Write, Writes}
use Rattle.method.specs.declared.program.FunctionInfo.{FunctionInfo}
use Rattle.method.specs.declared.program.Program.{Program}
use Rattle.object_types.specs.References.{same_ref}
use Rattle.object_types.specs.Heap.{Heap, IsClosedIn, is_open, mutable, write, with_field, put}
use Rattle.method.specs.Tables.{is_volatile}
use Rattle.method.specs.Legal.{Good}
use Rattle.method.specs.Rely.{Frame}
use Rattle.method.specs.Expressions.{Gave, Gives, Context, Spot, may_write, is_listed, return_scene}
use Rattle.method.specs.Actions.{Place, InLocal, InField, Supply, Fresh, Chosen, Progress, spot, starting, store, convert_to, conversion_checks, clauses_hold, may_count}
use Rattle.method.specs.Machine.{Activation, went, action_turn, moved, and_receive, resume_code, resume, all_true}
use Rattle.method.specs.LocalRuns.{Answers, receives, of_type}
use Rattle.method.specs.SafeRuns.{Passes, Goes}
use Rattle.method.specs.Typing.{WellTyped}
use Rattle.method.proofs.Global.{same_ref_is}
use Rattle.modular_law.specs.Respect.{IsOlder, Respects, ActionsRespect}
use Rattle.modular_law.proofs.Typing.{PlaceTyped, store_fits}
use Rattle.modular_law.proofs.Ends.{Both, both_gives, both_check}
use Rattle.modular_law.proofs.Walks.{set_size, set_out}
use Rattle.modular_law.proofs.Supplies.{lend}
use Rattle.modular_law.proofs.Numbers.{convert_alike}
use Rattle.modular_law.proofs.Blocks.{closed_unopened}
use Rattle.modular_law.proofs.Marks.{Mark, Go, Loop, Do_test, Do_again, Closing, erase, Fine}
use Rattle.modular_law.proofs.Threads.{FieldPlace, StoreTyped, Covered, Changed, unchanged, held_on, place_sets, WaitsOk, BelowOk, below_on, spared_frame}
use Rattle.modular_law.proofs.GoodTurns.{AllStart, GoodTurn, stays, moves, passed_rests, passes_after, pass, pass_value}
use Rattle.modular_law.proofs.Results.{gave_is}

module _ (p : Program) (at_ : Spot) (h : Heap) (l : List Value) (s : Supply) where
  -- what a store at a place changes
  record Stored (set : List ℕ) (g : Progress) : Type 0 where
    started : g.started ≡ []
    unopened : (o : Ref) → IsClosedIn h o → IsFalse (is_open (g.heap.get o).mode)
    changed : Changed set l g.locals

  store_both : (place : Place) (v : Value) (n m : ℕ) →
      Both (λ g k. Stored (place_sets (Some place)) g × (k ≡ lend [] g)) (store p at_ place v n (starting h l s)) (store p at_ place v m (starting h l (Chosen [])))
  unfolding put
  store_both (InLocal i) v n m = both_gives _ (record (starting h l s) { locals = slice_set l i v }) (record (starting h l (Chosen [])) { locals = slice_set l i v })
      (record { started = refl; unopened = λ o c. closed_unopened (h.get o).mode c; changed = record { size = set_size l i v; others = λ j o. set_out l i v j o } }, refl)
  store_both (InField o f) v n m =
      both_check _ at_ (mutable at_.context.me h o || (is_listed at_ o && (is_volatile p f && (not (is_approved p f) || may_count at_ h o)))) n m Write _ _
      (both_check _ at_ (may_write at_ o || is_listed at_ o) (n + 1) (m + 1) Writes _ _
      (both_gives _ (record (starting h l s) { heap = write h o f v }) (record (starting h l (Chosen [])) { heap = write h o f v })
      (record { started = refl; unopened = λ q c. written_unopened q c; changed = unchanged [] l }, refl)))
    where
      written_unopened : (q : Ref) → IsClosedIn h q → IsFalse (is_open ((write h o f v).get q).mode)
      written_unopened q c = by_place (same_ref q o) refl
        where
          by_place : (b : Bool) → same_ref q o ≡ b → IsFalse (is_open (cond b (with_field f v (h.get o)) (h.get q)).mode)
          by_place true e = closed_unopened (h.get o).mode (subst (λ (r : Ref). IsClosedIn h r) (same_ref_is q o e) c)
          by_place false e = closed_unopened (h.get q).mode c

module _ (p : Program) (wt : WellTyped p) (supply : Supply) (t : ℕ) (older : IsOlder supply t) (h : Heap) (good : Good p h) where
  -- code whose front waits for no value
  resume_plain : (line : ℕ) (v : Value) (b : Activation) (ms : List Mark) (rest : List Activation) → GoodTurn p supply t h (Gives (moved p line b (map erase ms) rest h)) →
      GoodTurn p supply t h (resume_code p line v b (map erase ms) rest h)
  resume_plain line v b [] rest y = y
  resume_plain line v b (Go n s ∷ ms) rest y = y
  resume_plain line v b (Loop n at_line invs e m row began first ∷ ms) rest y = y
  resume_plain line v b (Do_test n at_line invs m row tested e began first ∷ ms) rest y = y
  resume_plain line v b (Do_again n at_line invs m row tested e began first ∷ ms) rest y = y
  resume_plain line v b (Closing n at_line ty o ∷ ms) rest y = y

  module _ (line : ℕ) (v : Value) (b : Activation) (y : Context) (w : WaitsOk p t h y b) (rest : List Activation) (waits : BelowOk p t h b.context rest) where
    -- nobody takes the value
    resume_none : ((label : ℕ) → Fine p b.context w.info label w.last w.marks h b.locals) →
        GoodTurn p supply t h (resume_code p line v b (and_receive p w.line w.conversion None (map erase w.marks)) rest h)
    resume_none fine = resume_plain line v b w.marks rest (record {
      ends = (
        λ acts. stays p supply t h good _ _ _,
        λ known. record {
          frames = (record { info = w.info; is = w.is; me = w.me; good = w.good; marks = w.marks; last = w.last; code = refl; fine = fine; held = w.held; ends = w.ends; fits = w.fits }, waits);
          started = tt;
          unopened = λ o c z. closed_unopened (h.get o).mode c;
        },
      );
    })

    -- it is converted and stored
    stored_passed : (place : Place) → FieldPlace p (Some place) → ActionsRespect p → (u : Value) (g : Progress) → PlaceTyped p w.info place u →
        (store p (spot b.context [] w.line) place u 0 (starting h b.locals (Fresh 0))).end ≡ Gave g → Respects p b.context supply h g.heap
    stored_passed (InLocal i) at_field acts u g typed e = subst (λ (k : Progress). Respects p b.context supply h k.heap)
        (gave_is (record (starting h b.locals (Fresh 0)) { locals = slice_set b.locals i u }) g e) (passed_rests p b.context supply h good)
    stored_passed (InField o q) at_field acts u g typed e = acts.stores b.context w.info supply h b.locals
        (record { is = w.is; number = t; me = w.me; older = older; entry = w.good; good = good; fits = w.fits }) w.line o q u 0 g at_field typed e

    resume_some : (place : Place) → FieldPlace p (Some place) → Covered (place_sets (Some place)) w.marks →
        ((u : Value) → (convert_to (spot b.context [] w.line) w.conversion v 0).end ≡ Gave u → PlaceTyped p w.info place u) →
        ((label : ℕ) → Passes label (receives p b.context w.info w.line (Some place) w.conversion v w.number h b.locals) (Goes (Fine p b.context w.info label w.last w.marks))) →
        GoodTurn p supply t h (resume_code p line v b (and_receive p w.line w.conversion (Some place) (map erase w.marks)) rest h)
    resume_some place at_field covered typed passes =
        let at_ = spot b.context [] w.line in
        pass_value p supply t h (λ label u. Passes label (store p at_ place u (w.number + conversion_checks w.conversion) (starting h b.locals (Chosen [])))
        (Goes (Fine p b.context w.info label w.last w.marks)))
        (convert_to at_ w.conversion v 0) (convert_to at_ w.conversion v w.number) (λ u. action_turn p line b (map erase w.marks) rest (store p at_ place u 0 (starting h b.locals (Fresh 0))))
        (convert_alike at_ w.conversion v 0 w.number)
        (λ label. passes_after label (convert_to at_ w.conversion v w.number).overflow (convert_to at_ w.conversion v w.number).end _ _ (passes label))
        (λ u gave runs.
        pass p supply t h (λ g k. Stored p at_ h b.locals (Fresh 0) (place_sets (Some place)) g × (k ≡ lend [] g)) (λ label g. Fine p b.context w.info label w.last w.marks g.heap g.locals)
        (store p at_ place u 0 (starting h b.locals (Fresh 0))) (store p at_ place u (w.number + conversion_checks w.conversion) (starting h b.locals (Chosen [])))
        (λ g. Gives (record { heap = g.heap; frames = went b g.locals (map erase w.marks) ∷ rest; started = g.started; line = line }))
        (store_both p at_ h b.locals (Fresh 0) place u 0 (w.number + conversion_checks w.conversion)) runs
        (λ g k stored same fine. record {
          ends = (
            λ acts. moves p supply t h g.heap (went b g.locals (map erase w.marks)) rest g.started line w.me (stored_passed place at_field acts u g (typed u gave) stored),
            λ known.
                let fits = store_fits p wt b.context w.info w.is t w.me h good b.locals w.fits (Fresh 0) w.line place u 0 g (typed u gave) stored in
                record {
                  frames = (
                    record {
                      info = w.info;
                      is = w.is;
                      me = w.me;
                      good = w.good;
                      marks = w.marks;
                      last = w.last;
                      code = refl;
                      fine = λ label. subst (λ (j : Progress). Fine p b.context w.info label w.last w.marks j.heap j.locals) same.1 (fine label);
                      held = held_on p b.context w.info w.marks (place_sets (Some place)) h g.heap b.locals g.locals
                          (spared_frame p t h g.heap b.context b.context w.me (λ q n. n) w.good.well_formed.heap_of known.spares) same.0.changed covered w.held;
                      ends = w.ends;
                      fits = fits;
                    },
                    below_on p t h g.heap b.context b.context rest (λ q n. n) known.spares waits,
                  );
                  started = subst (λ ys. AllStart p g.heap ys) (sym same.0.started) tt;
                  unopened = λ o c z. same.0.unopened o c;
                },
          );
        }))

    resume_place : (place : Option Place) → w.place ≡ place → IsTrue (of_type w.callee.result v) →
        ((label : ℕ) → Passes label (receives p b.context w.info w.line place w.conversion v w.number h b.locals) (Goes (Fine p b.context w.info label w.last w.marks))) →
        GoodTurn p supply t h (resume_code p line v b (and_receive p w.line w.conversion place (map erase w.marks)) rest h)
    resume_place None e range passes = resume_none passes
    resume_place (Some place) e range passes = resume_some place (subst (λ o. FieldPlace p o) e w.at_field) (subst (λ o. Covered (place_sets o) w.marks) e w.covered)
        (λ u gave. subst (λ o. StoreTyped p w.info o u) e (w.stores v u range gave)) passes

  -- a call of y returns this value
  pub resume_ok : (line : ℕ) (v : Value) (y : Context) (g : FunctionInfo) → slice_get p.functions.items y.function ≡ Some g → Frame p y.me y.entry h y.entry y.writes →
      IsTrue (of_type g.result v) → IsTrue (all_true (clauses_hold p g.ensures_.items (return_scene y h v))) → (below : List Activation) → BelowOk p t h y below →
      GoodTurn p supply t h (resume p line v below h)
  resume_ok line v y g is frame range post [] ok = record
      { ends = (λ acts. stays p supply t h good _ _ _, λ known. record { frames = tt; started = tt; unopened = λ o c z. closed_unopened (h.get o).mode c }) }
  resume_ok line v y g is frame range post (b ∷ rest) ok =
      let w = ok.0 in
      let same : g ≡ w.callee = same_Some g w.callee (sym is ∙ w.callee_is) in
      let answers : Answers p b.context w.info (record { place = w.place; info = w.callee; context = y }) y.entry h v = record {
        frame = subst (λ (r : Ref). Frame p r y.entry h y.entry y.writes) w.callee_me frame;
        range = subst (λ (i : FunctionInfo). IsTrue (of_type i.result v)) same range;
        ensures_ = subst (λ (i : FunctionInfo). IsTrue (all_true (clauses_hold p i.ensures_.items (return_scene y h v)))) same post;
      } in
      subst (λ cs. GoodTurn p supply t h (resume_code p line v b cs rest h)) w.code
      (resume_place line v b y w rest ok.1 w.place refl answers.range (λ label. w.resumes label h v answers))
