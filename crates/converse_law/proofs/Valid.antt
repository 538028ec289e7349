-- Where no local run of a function fails a check, the check's condition is valid.
use Rattle.std.proofs.Common.{◌≡◌, ℕ, suc, ◌≤◌, Bool, true, false, not, ◌||◌, if◌then◌else◌, List, ◌++◌, length, take, drop, slice_get, Some, refl, ap, sym, ◌∙◌, subst, arith}
use Rattle.std.specs.Prelude.{nat_lt}
use Rattle.std.proofs.lemmas.Bool.{eq-eqb, leb-true}
use Rattle.object_types.specs.declared.references.Ref.{Ref}
use Rattle.object_types.specs.declared.values.Value.{Value}
use Rattle.object_types.specs.References.{thread}
use Rattle.method.specs.declared.program.Action.{Action}
use Rattle.method.specs.declared.program.Spec.{Spec}
use Rattle.method.specs.declared.program.FunctionInfo.{FunctionInfo}
use Rattle.method.specs.declared.program.Program.{Program}
use Rattle.method.specs.Tables.{local}
use Rattle.method.specs.Scopes.{Scoped}
use Rattle.method.specs.Typing.{WellTyped}
use Rattle.method.specs.Expressions.{call_scene}
use Rattle.method.specs.Actions.{clauses_hold}
use Rattle.method.specs.Machine.{fit_parameters, requires_hold, in_types, zeros_of, begin_with}
use Rattle.method.specs.LocalRuns.{Lazily, FailsBodyBy, LazyOk, LocalOk}
use Rattle.quiet_law.proofs.LazyRuns.{lazy_runs_suffice}
use Rattle.terms.specs.Formula.{Formula}
use Rattle.term_meaning.specs.Meaning.{Language}
use Rattle.axiom_instances.proofs.Facts.{Shown as ShownHeap}
use Rattle.conditions.specs.Formulas.{me, heap}
use Rattle.conditions.specs.Paths.{Path}
use Rattle.conditions.specs.Code.{new_heap, call_scene as term_call}
use Rattle.conditions.specs.Actions.{clauses}
use Rattle.conditions.specs.Statements.{body, parameter_ranges, zeros, empty_state, entry_facts}
use Rattle.conditions.specs.Conditions.{function_conditions}
use Rattle.conditions.specs.Paths.{conditions}
use Rattle.conditions.specs.Ways.{AllHold, FailsIn, IsValidAt}
use Rattle.conditions.proofs.WaysBetween.{all_between, fails_between}
use Rattle.condition_walks.proofs.Entry.{entry_values, entry_state, first_spot, entry_spot, run_conditions, entry_sorted, sorted_many, values_heap}
use Rattle.condition_walks.proofs.Fitting.{ConversionsAreReceived, FitsBody, at_entry, body_fits}
use Rattle.condition_meaning.specs.Languages.{language_of}
use Rattle.condition_meaning.specs.Annotated.{Annotated}
use Rattle.condition_meaning.specs.FunctionWords.{ContractFits}
use Rattle.condition_meaning.proofs.Environments.{Environment, Holds}
use Rattle.condition_meaning.proofs.FunctionScenes.{contract_fits}
use Rattle.condition_meaning.proofs.Interference.{good_of, heap_of}
use Rattle.condition_meaning.proofs.Known.{Known, known_holds}
use Rattle.action_conditions.proofs.Annotations.{SetFits}
use Rattle.method.specs.Tables.{struct_of}
use Rattle.function_law.specs.Checks.{ValidAt, CheckIsValid}
use Rattle.converse_law.proofs.Entries.{all_apart, take_many, more_types, values_back, all_are_true, entry_shown, valid_unless, all_threads}
use Rattle.function_law.proofs.Given as given
use Rattle.converse_law.proofs.Parts as parts
use Rattle.function_law.proofs.Texts.{SpecText, WrapText, ActionText}
use Rattle.function_law.proofs.TextTests.{OtherText, text_said}
use Rattle.converse_law.proofs.BodiesBack as bodies
use Rattle.converse_law.proofs.Sound.{SoundAt, fails_sound}

-- What is said of the actions and annotations of a function's text.

module _ (p : Program) (good : Annotated p) (number : ℕ) (f : FunctionInfo) (fis : slice_get p.functions.items number ≡ Some f) where
  abbrev Acts : Action → Type 0
  Acts = ActionText p good number f fis (OtherText p number f)

  abbrev Specs : Spec → Type 0
  Specs e = SpecText p good number f fis e

-- The entry.

module _ (p : Program) (good : Annotated p) (typed : WellTyped p) (contracts : (n : ℕ) (g : FunctionInfo) → slice_get p.functions.items n ≡ Some g → ContractFits p g)
    (number : ℕ) (f : FunctionInfo) (fis : slice_get p.functions.items number ≡ Some f)
    (fits : FitsBody p number f (Acts p good number f fis) (Specs p good number f fis) (WrapText p f) (entry_spot p f) (at_entry p f) f.body.items)
    (n0 label : ℕ)
  where
    abbrev l : Language
    l = language_of p

    abbrev T : Ref
    T = thread n0

    abbrev path : Path
    path = (body p f (entry_spot p f) f.body.items (entry_state f)).path

    abbrev known : List Formula
    known = entry_facts p f (first_spot p f) (entry_state f)

    hides_rest : (args : List Value) (j : ℕ) → length args ≡ f.parameters → length args ≤ j → at_entry p f j ≡ true
    hides_rest args j same low = ap not (by_less (nat_lt j f.parameters) refl)
      where
        by_less : (b : Bool) → nat_lt j f.parameters ≡ b → b || false ≡ false
        by_less false e = refl
        by_less true e = absurd (let z = leb-true (suc j) f.parameters e in omega (arith, same, low, z))

    -- an environment that knows the facts of the entry, and not a check's formula, gives a run that fails it
    run_fails : LazyOk p number label → (e : Environment l T) → AllHold (Environment l T) (Known l T) e known → FailsIn (Environment l T) (Known l T) label 1 path e → ⊥
    run_fails ok e k y =
        let values = (entry_values f).values in
        let vars = take f.parameters f.variables.items in
        let held = all_between (Environment l T) e (Known l T) (Environment l T) e (Holds l T) (known_holds l T e) known k in
        let parts_ = all_apart (Environment l T) (Holds l T) e (parameter_ranges vars values) (clauses p (first_spot p f) f.requires_.items (term_call me (entry_state f).heap values)) held.1 in
        let h = heap_of l T e 0 in
        let same : (entry_state f).heap ≡ heap 0 = values_heap vars (new_heap empty_state) in
        let there = subst (λ (u : Formula). ShownHeap l e.env u h.0) (sym same) h.1 in
        let h0 = h.0 in
        let good0 = good_of l T e (entry_state f).heap h0 there k.0 in
        let q = values_back l T e vars (new_heap empty_state) parts_.0 in
        let args = q.values in
        let many : length args ≡ f.parameters = q.many ∙ take_many f.parameters f.variables.items (leb-true f.parameters (length f.variables.items) (typed.parameters number f fis)) in
        let fit : fit_parameters f args ≡ true = ap (λ b. if b then in_types f.variables.items args else false) (eq-eqb (length args) f.parameters many) ∙ more_types f.parameters f.variables.items args q.typed in
        let stand = given.stand_so p good typed contracts number f fis n0 h0 args good0 fit e values args q.stand in
        let spotted = given.spotted p good typed contracts number f fis n0 h0 args good0 fit e h.1.has stand in
        let requires : requires_hold p f T h0 args ≡ true = all_are_true l T e (clauses p (first_spot p f) f.requires_.items (term_call me (entry_state f).heap values)) (clauses_hold p f.requires_.items (call_scene T h0 args)) (given.entry_are p good typed contracts number f fis n0 h0 args good0 fit e there.has stand) parts_.1 in
        let zs = zeros_of (drop f.parameters f.variables.items) in
        let steady = given.entry_steady p good typed contracts number f fis n0 h0 args good0 fit good0 fit in
        let m = parts.back p good typed contracts number f fis n0 h0 args good0 fit e spotted (at_entry p f) (entry_state f) h0 (args ++ zs) (record {
          spot = spotted;
          many = sorted_many f.variables.items (entry_state f).locals (entry_sorted f);
          heap = there.has;
          locals = entry_shown l T e (length f.variables.items) (given.Spotted p good typed contracts number f fis n0 h0 args good0 fit) (at_entry p f) 0 values (zeros (drop f.parameters f.variables.items)) args zs (local (args ++ zs)) q.stand (λ j. ap (local (args ++ zs)) (omega arith)) (λ j low. hides_rest args j many (omega (arith, low)));
        }) steady in
        let y2 = fails_between (Environment l T) e (Known l T) (Unit {0}) tt (λ u g. Known l T e g) (λ g z. z) (λ g z. z) label 1 path y in
        let r = bodies.fails_body p good typed contracts number f fis n0 h0 args good0 fit e spotted label f.body.items (at_entry p f) 1 (entry_state f) h0 (args ++ zs) fits (entry_sorted f) m y2 in
        ok f fis n0 h0 args good0 fit requires (subst (λ o. FailsBodyBy p (given.x p good typed contracts number f fis n0 h0 args good0 fit) f (Lazily p T) label f.body.items 1 h0 (begin_with o (given.x p good typed contracts number f fis n0 h0 args good0 fit)).locals) (sym fis) r)

    thread_valid : SoundAt l label 1 path → LocalOk p number label → IsValidAt (Environment l T) (Holds l T) label 1 (function_conditions p (Some f))
    thread_valid along ok =
        let lazy_ok = (lazy_runs_suffice p number label).1 ok in
        subst (λ cs. IsValidAt (Environment l T) (Holds l T) label 1 cs) (sym (run_conditions p f))
        (valid_unless l T label 1 (conditions known path) (λ e y. fails_sound l T e label 1 known path along y (λ z. run_fails lazy_ok e z.0 z.1)))

-- where no local run of a function fails a check, the check's condition is valid, if that is so of a check that stands alone
pub check_valid : (p : Program) → Annotated p → WellTyped p → Scoped p → ConversionsAreReceived p → ((ty : ℕ) → SetFits p (struct_of p ty))
    → (number label : ℕ) (f : FunctionInfo) → slice_get p.functions.items number ≡ Some f → SoundAt (language_of p) label 1 (body p f (entry_spot p f) f.body.items (entry_state f)).path → LocalOk p number label → CheckIsValid p number label
check_valid p good typed scoped received sets number label f fis sound ok =
    let contracts = contract_fits p good typed in
    let fits = body_fits p typed scoped received number f fis (Acts p good number f fis) (Specs p good number f fis) (WrapText p f) (text_said p f good sets number fis) (entry_spot p f) in
    subst (λ g. ValidAt (language_of p) label 1 (function_conditions p g)) (sym fis) (all_threads (language_of p) label 1 (function_conditions p (Some f)) (λ n0. thread_valid p good typed contracts number f fis fits n0 label sound ok))
